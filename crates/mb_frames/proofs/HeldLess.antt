-- What may be held as one thing may be held as less; and what is known of it may say nothing of a home.
use Rattle.mb_base.specs.declared.value.Key.{Key}
use Rattle.mb_base.specs.declared.value.ObjId.{ObjId}
use Rattle.mb_base.specs.declared.value.Side.{Side}
use Rattle.mb_base.specs.declared.value.StrId.{StrId}
use Rattle.mb_base.specs.declared.value.Value.{Value}
use Rattle.mb_base.specs.declared.value.Value.TheVariants as v
use Rattle.mb_desc.specs.declared.descriptor.Full.{Full}
use Rattle.mb_desc.specs.declared.descriptor.Full.TheVariants.{Datum, Accessor}
use Rattle.mb_frames.proofs.Parts.{each-part, left-part, right-part}
use Rattle.mb_frames.specs.Held.{Held, HeldArray, HeldBegan, HeldCallable, HeldCollection, HeldConstructor, HeldDesc, HeldEntered, HeldFields, HeldFull, HeldFunction, HeldKey, HeldKeyIf, HeldKeys, HeldNode, HeldNodeIf, HeldObject, HeldPlace, HeldPlain, HeldPrototype, HeldReal, HeldScope, HeldSide, HeldSign, HeldText, HeldTextIf, HeldValue, HeldValues, HeldVisited}
use Rattle.mb_frames.specs.Ready.{Holds, MayHold}
use Rattle.mb_frames.specs.Wholeness.{IsConstructor, IsFunctionAt}
use Rattle.mb_world.specs.Contained.{IsOwn, in_value}
use Rattle.mb_world.specs.Data.{Data}
use Rattle.mb_world.specs.Formed.{InRange, IsCallable, IsCallableOrNot, is_whole}
use Rattle.mb_world.specs.Ids.{KeyIn, Maybe, TextIn, ValueIn}
use Rattle.std.proofs.Common.{Bool, List, None, Option, Some, [], false, sym, true, true≢false, ℤ, ◌++◌, ◌∙◌, ◌∷◌, ◌≡◌}
use Rattle.std.proofs.lemmas.List.Elements.{All-append, All-cons, All-head, All-nil, All-tail}
use Rattle.std.specs.List.{AllByRecursion, flat_map}
use Rattle.std.specs.Prelude.{All}

module _ (d : Data) (home : Side) where
  -- ---- values

  pub undefined-held : MayHold d home (HeldValue v.Undefined)
  undefined-held = record { within = tt; sound = tt; own = λ u. All-nil (IsOwn d home) }

  pub null-held : MayHold d home (HeldValue v.Null)
  null-held = record { within = tt; sound = tt; own = λ u. All-nil (IsOwn d home) }

  pub flag-held : (b : Bool) → MayHold d home (HeldValue (v.Bool b))
  flag-held b = record { within = tt; sound = tt; own = λ u. All-nil (IsOwn d home) }

  pub whole-held : (z : ℤ) → is_whole z ≡ true → MayHold d home (HeldValue (v.Whole z))
  whole-held z h = record { within = tt; sound = h; own = λ u. All-nil (IsOwn d home) }

  pub text-value-held : (t : StrId) → TextIn d t → MayHold d home (HeldValue (v.Text t))
  text-value-held t i = record { within = i; sound = tt; own = λ u. All-nil (IsOwn d home) }

  pub text-held : (t : StrId) → TextIn d t → MayHold d home (HeldText t)
  text-held t i = record { within = i; sound = tt; own = λ u. All-nil (IsOwn d home) }

  pub text-if-held : (t : Option StrId) → Maybe (TextIn d) t → MayHold d home (HeldTextIf t)
  text-if-held t i = record { within = i; sound = tt; own = λ u. All-nil (IsOwn d home) }

  pub key-held : (key : Key) → KeyIn d key → MayHold d home (HeldKey key)
  key-held key i = record { within = i; sound = tt; own = λ u. All-nil (IsOwn d home) }

  pub keys-held : (keys : List Key) → All (KeyIn d) keys → MayHold d home (HeldKeys keys)
  keys-held keys i = record { within = i; sound = tt; own = λ u. All-nil (IsOwn d home) }

  -- ---- objects

  pub object-value : (id : ObjId) → MayHold d home (HeldObject id) → MayHold d home (HeldValue (v.Object id))
  object-value id h = record { within = h.within; sound = tt; own = h.own }

  pub object-prototype : (id : ObjId) → MayHold d home (HeldObject id) → MayHold d home (HeldPrototype (v.Object id))
  object-prototype id h = record { within = h.within; sound = tt; own = h.own }

  pub value-object : (id : ObjId) → MayHold d home (HeldValue (v.Object id)) → MayHold d home (HeldObject id)
  value-object id h = record { within = h.within; sound = tt; own = h.own }

  pub prototype-object : (id : ObjId) → MayHold d home (HeldPrototype (v.Object id)) → MayHold d home (HeldObject id)
  prototype-object id h = record { within = h.within; sound = tt; own = h.own }

  pub callable-object : (id : ObjId) → MayHold d home (HeldCallable (v.Object id)) → MayHold d home (HeldObject id)
  callable-object id h = record { within = h.within; sound = tt; own = h.own }

  pub constructor-object : (id : ObjId) → MayHold d home (HeldConstructor (v.Object id))
      → MayHold d home (HeldObject id)
  constructor-object id h = record { within = h.within; sound = tt; own = h.own }

  pub array-object : (id : ObjId) → MayHold d home (HeldArray id) → MayHold d home (HeldObject id)
  array-object id h = record { within = h.within; sound = tt; own = h.own }

  pub plain-object : (id : ObjId) → MayHold d home (HeldPlain id) → MayHold d home (HeldObject id)
  plain-object id h = record { within = h.within; sound = tt; own = h.own }

  pub collection-object : (id : ObjId) → MayHold d home (HeldCollection id) → MayHold d home (HeldObject id)
  collection-object id h = record { within = h.within; sound = tt; own = h.own }

  pub function-object : (id : ObjId) → MayHold d home (HeldFunction id) → MayHold d home (HeldObject id)
  function-object id h = record { within = h.within; sound = tt; own = h.own }

  -- what the walk visits is of any side
  pub prototype-visited : (x : Value) → MayHold d home (HeldPrototype x) → MayHold d home (HeldVisited x)
  prototype-visited x h = record { within = h.within; sound = h.sound; own = λ u. All-nil (IsOwn d home) }

  -- ---- what was found of objects

  pub as-function : (id : ObjId) → MayHold d home (HeldObject id) → IsFunctionAt d id
      → MayHold d home (HeldFunction id)
  as-function id h k = record { within = h.within; sound = k; own = h.own }

  -- ---- what was found of values

  pub called : (x : Value) → MayHold d home (HeldValue x) → IsCallable d x → MayHold d home (HeldCallable x)
  called x h k = record { within = h.within; sound = k; own = h.own }

  pub constructs : (x : Value) → MayHold d home (HeldValue x) → IsConstructor d x → MayHold d home (HeldConstructor x)
  constructs x h k = record { within = h.within; sound = k; own = h.own }

  called-range : (x : Value) → IsCallable d x → InRange x
  called-range v.Undefined h = tt
  called-range v.Null h = tt
  called-range (v.Bool b) h = tt
  called-range (v.Whole z) h = absurd (true≢false (sym h))
  called-range (v.Text t) h = tt
  called-range (v.Symbol t) h = tt
  called-range (v.Object o) h = tt

  constructs-range : (x : Value) → IsConstructor d x → InRange x
  constructs-range v.Undefined h = tt
  constructs-range v.Null h = tt
  constructs-range (v.Bool b) h = tt
  constructs-range (v.Whole z) h = absurd (true≢false (sym h))
  constructs-range (v.Text t) h = tt
  constructs-range (v.Symbol t) h = tt
  constructs-range (v.Object o) h = tt

  pub callable-value : (x : Value) → MayHold d home (HeldCallable x) → MayHold d home (HeldValue x)
  callable-value x h = record { within = h.within; sound = called-range x h.sound; own = h.own }

  pub constructor-value : (x : Value) → MayHold d home (HeldConstructor x) → MayHold d home (HeldValue x)
  constructor-value x h = record { within = h.within; sound = constructs-range x h.sound; own = h.own }

  prototype-range : (x : Value) → MayHold d home (HeldPrototype x) → InRange x
  prototype-range v.Undefined h = tt
  prototype-range v.Null h = tt
  prototype-range (v.Bool b) h = tt
  prototype-range (v.Whole z) h = absurd h.sound
  prototype-range (v.Text t) h = tt
  prototype-range (v.Symbol t) h = tt
  prototype-range (v.Object o) h = tt

  pub prototype-value : (x : Value) → MayHold d home (HeldPrototype x) → MayHold d home (HeldValue x)
  prototype-value x h = record { within = h.within; sound = prototype-range x h; own = h.own }

  -- ---- lists of values

  pub values-each : (xs : List Value) → MayHold d home (HeldValues xs) → All (λ x. MayHold d home (HeldValue x)) xs
  values-each xs h = λ n x l. record {
    within = h.within n x l;
    sound = h.sound n x l;
    own = λ u. each-part (IsOwn d home) in_value xs (h.own u) n x l;
  }

  values-own : (xs : List Value) → d.joined ≡ false → All (λ x. MayHold d home (HeldValue x)) xs
      → All (IsOwn d home) (flat_map in_value xs)
  values-own [] u h = All-nil (IsOwn d home)
  values-own (x ∷ xs) u h =
      All-append (IsOwn d home) (in_value x) (flat_map in_value xs)
      ((All-head (λ y. MayHold d home (HeldValue y)) x xs h).own u)
      (values-own xs u (All-tail (λ y. MayHold d home (HeldValue y)) x xs h))

  pub values-all : (xs : List Value) → All (λ x. MayHold d home (HeldValue x)) xs → MayHold d home (HeldValues xs)
  values-all xs h = record {
    within = λ n x l. (h n x l).within;
    sound = λ n x l. (h n x l).sound;
    own = λ u. values-own xs u h;
  }

  pub values-none : MayHold d home (HeldValues [])
  values-none = record { within = All-nil (ValueIn d); sound = All-nil InRange; own = λ u. All-nil (IsOwn d home) }

  -- one more
  pub values-more : (xs : List Value) (x : Value) → MayHold d home (HeldValues xs) → MayHold d home (HeldValue x)
      → MayHold d home (HeldValues (xs ++ (x ∷ [])))
  values-more xs x h k = values-all (xs ++ (x ∷ []))
      (All-append (λ y. MayHold d home (HeldValue y)) xs (x ∷ []) (values-each xs h)
      (All-cons (λ y. MayHold d home (HeldValue y)) x [] k (All-nil (λ y. MayHold d home (HeldValue y)))))

  -- ---- properties

  pub datum-value : (x : Value) (w e c : Bool) → MayHold d home (HeldFull (Datum x w e c))
      → MayHold d home (HeldValue x)
  datum-value x w e c h = record { within = h.within; sound = h.sound.wholes.0; own = h.own }

  -- a getter and a setter are values, undefined or callable
  pub accessor-values : (g s : Value) (e c : Bool) → MayHold d home (HeldFull (Accessor g s e c))
      → MayHold d home (HeldValue g) × MayHold d home (HeldValue s) × IsCallableOrNot d g × IsCallableOrNot d s
  accessor-values g s e c h = (
    record {
      within = h.within.0;
      sound = h.sound.wholes.0;
      own = λ u. left-part (IsOwn d home) (in_value g) (in_value s) (h.own u);
    },
    record {
      within = h.within.1;
      sound = h.sound.wholes.1.0;
      own = λ u. right-part (IsOwn d home) (in_value g) (in_value s) (h.own u);
    },
    h.sound.callables.0,
    h.sound.callables.1,
  )

  pub value-datum : (x : Value) (w e c : Bool) → MayHold d home (HeldValue x)
      → MayHold d home (HeldFull (Datum x w e c))
  value-datum x w e c h =
      record { within = h.within; sound = record { callables = tt; wholes = (h.sound, tt) }; own = h.own }

  pub values-accessor : (g s : Value) (e c : Bool) → MayHold d home (HeldValue g) → MayHold d home (HeldValue s)
      → IsCallableOrNot d g → IsCallableOrNot d s → MayHold d home (HeldFull (Accessor g s e c))
  values-accessor g s e c h k p q = record {
    within = (h.within, k.within);
    sound = record { callables = (p, q); wholes = (h.sound, (k.sound, tt)) };
    own = λ u. All-append (IsOwn d home) (in_value g) (in_value s) (h.own u) (k.own u);
  }

  pub full-real : (f : Full Value) → MayHold d home (HeldFull f) → MayHold d home (HeldReal (Some f))
  full-real f h = record { within = h.within; sound = h.sound; own = h.own }

  pub real-full : (f : Full Value) → MayHold d home (HeldReal (Some f)) → MayHold d home (HeldFull f)
  real-full f h = record { within = h.within; sound = h.sound; own = h.own }

  pub real-none : MayHold d home (HeldReal None)
  real-none = record { within = tt; sound = tt; own = λ u. All-nil (IsOwn d home) }

-- ---- joined worlds

-- what is known of it says nothing of a home
abbrev pub is_of_no_home : Held → Bool
is_of_no_home (HeldArray id) = false
is_of_no_home (HeldPlain id) = false
is_of_no_home (HeldScope scope) = false
is_of_no_home (HeldNode test node) = false
is_of_no_home (HeldNodeIf id) = false
is_of_no_home (HeldEntered id) = false
is_of_no_home (HeldSide side) = false
is_of_no_home held = true

module _ (d : Data) (one other : Side) (j : d.joined ≡ true) where
  never : d.joined ≡ false → ⊥
  never u = true≢false (sym j ∙ u)

  -- in a joined world it may be held by all
  pub held-anywhere : (y : Held) → is_of_no_home y ≡ true → MayHold d one y → MayHold d other y
  held-anywhere (HeldValue y) e h = record { within = h.within; sound = h.sound; own = λ u. absurd (never u) }
  held-anywhere (HeldValues ys) e h = record { within = h.within; sound = h.sound; own = λ u. absurd (never u) }
  held-anywhere (HeldCallable y) e h = record { within = h.within; sound = h.sound; own = λ u. absurd (never u) }
  held-anywhere (HeldConstructor y) e h = record { within = h.within; sound = h.sound; own = λ u. absurd (never u) }
  held-anywhere (HeldPrototype y) e h = record { within = h.within; sound = h.sound; own = λ u. absurd (never u) }
  held-anywhere (HeldVisited y) e h = record { within = h.within; sound = h.sound; own = λ u. absurd (never u) }
  held-anywhere (HeldObject id) e h = record { within = h.within; sound = h.sound; own = λ u. absurd (never u) }
  held-anywhere (HeldFunction id) e h = record { within = h.within; sound = h.sound; own = λ u. absurd (never u) }
  held-anywhere (HeldCollection id) e h = record { within = h.within; sound = h.sound; own = λ u. absurd (never u) }
  held-anywhere (HeldArray id) e h = absurd (true≢false (sym e))
  held-anywhere (HeldPlain id) e h = absurd (true≢false (sym e))
  held-anywhere (HeldKey key) e h = record { within = h.within; sound = h.sound; own = λ u. absurd (never u) }
  held-anywhere (HeldKeys keys) e h = record { within = h.within; sound = h.sound; own = λ u. absurd (never u) }
  held-anywhere (HeldKeyIf key) e h = record { within = h.within; sound = h.sound; own = λ u. absurd (never u) }
  held-anywhere (HeldText text) e h = record { within = h.within; sound = h.sound; own = λ u. absurd (never u) }
  held-anywhere (HeldTextIf text) e h = record { within = h.within; sound = h.sound; own = λ u. absurd (never u) }
  held-anywhere (HeldScope scope) e h = absurd (true≢false (sym e))
  held-anywhere (HeldNode test node) e h = absurd (true≢false (sym e))
  held-anywhere (HeldNodeIf id) e h = absurd (true≢false (sym e))
  held-anywhere (HeldSign sign) e h = record { within = h.within; sound = h.sound; own = λ u. absurd (never u) }
  held-anywhere (HeldDesc given) e h = record { within = h.within; sound = h.sound; own = λ u. absurd (never u) }
  held-anywhere (HeldFields given) e h = record { within = h.within; sound = h.sound; own = λ u. absurd (never u) }
  held-anywhere (HeldFull full) e h = record { within = h.within; sound = h.sound; own = λ u. absurd (never u) }
  held-anywhere (HeldReal full) e h = record { within = h.within; sound = h.sound; own = λ u. absurd (never u) }
  held-anywhere (HeldPlace place) e h = record { within = h.within; sound = h.sound; own = λ u. absurd (never u) }
  held-anywhere (HeldBegan began) e h = record { within = h.within; sound = h.sound; own = λ u. absurd (never u) }
  held-anywhere (HeldEntered id) e h = absurd (true≢false (sym e))
  held-anywhere (HeldSide side) e h = absurd (true≢false (sym e))

  pub all-anywhere : (ys : List Held) → AllByRecursion (λ y. is_of_no_home y ≡ true) ys → Holds d one ys
      → Holds d other ys
  all-anywhere [] e h = tt
  all-anywhere (y ∷ ys) e h = (held-anywhere y e.0 h.0, all-anywhere ys e.1 h.1)
