-- Functions are made: the world stays ready, and they may be held.
use Rattle.mb_base.specs.declared.value.ObjId.{ObjId}
use Rattle.mb_base.specs.declared.value.Side.{Side}
use Rattle.mb_base.specs.declared.value.StrId.{StrId}
use Rattle.mb_base.specs.declared.value.Value.{Value}
use Rattle.mb_base.specs.declared.value.Value.TheVariants as v
use Rattle.mb_desc.specs.Validate.{same_flag}
use Rattle.mb_desc.specs.declared.descriptor.Full.{Full}
use Rattle.mb_desc.specs.declared.descriptor.Full.TheVariants.{Datum}
use Rattle.mb_frames.proofs.AfterCalls.{at-first}
use Rattle.mb_frames.proofs.HeldAs.{counted-shown, held-as, made-held, made-there}
use Rattle.mb_frames.proofs.HeldLess.{object-value, text-value-held, value-datum, whole-held}
use Rattle.mb_frames.proofs.Leaving.{holds-still}
use Rattle.mb_frames.proofs.Putting.{get-other}
use Rattle.mb_frames.proofs.Readying.{changed-then}
use Rattle.mb_frames.proofs.Renewing.{made-changed}
use Rattle.mb_frames.specs.Held.{HeldFull, HeldObject, HeldPrototype, HeldText}
use Rattle.mb_frames.specs.Keeping.{KeepsOn, none_held}
use Rattle.mb_frames.specs.Making.{HasPrototypes, IsOpen, Put, are_flags, code_held, function_held, value_held}
use Rattle.mb_frames.specs.Ready.{Changed, Holds, IsMade, IsReady, MayHold}
use Rattle.mb_frames.specs.declared.machine.Halt.{Halt}
use Rattle.mb_world.specs.Contained.{IsOwn, in_option, in_value}
use Rattle.mb_world.specs.Data.{Data, built_in_of, is_array, is_counted, kind_stand, made, new_cell}
use Rattle.mb_world.specs.Formed.{HasBuiltIn, InRange, option_values}
use Rattle.mb_world.specs.Ids.{Maybe, ValueIn}
use Rattle.mb_world.specs.Intrinsics.{FunctionPrototype, ObjectPrototype, place_of}
use Rattle.mb_world.specs.declared.cell.CellKind.{CellKind}
use Rattle.mb_world.specs.declared.cell.CellKind.TheVariants as kind
use Rattle.mb_world.specs.declared.cell.Code.{Code}
use Rattle.std.proofs.Common.{Bool, List, None, Option, Result, Some, [], ap, arith, cond, false, length, refl, sym, true, true≢false, ℕ, ◌<◌, ◌^◌, ◌∙◌, ◌∷◌, ◌≡◌}
use Rattle.std.proofs.lemmas.Bool.Decides.{nat_tests}
use Rattle.std.proofs.lemmas.List.Elements.{All-cons, All-nil}
use Rattle.std.proofs.lemmas.Option.{slice_get_within}
use Rattle.std.specs.Prelude.{All, is_some, pos}

-- ---- flags

same-is : (a b : Bool) → same_flag a b ≡ true → a ≡ b
same-is true true h = refl
same-is true false h = absurd (true≢false (sym h))
same-is false true h = absurd (true≢false (sym h))
same-is false false h = refl

both-are : (a b : Bool) → cond a b false ≡ true → (a ≡ true) × (b ≡ true)
both-are true b h = (refl, h)
both-are false b h = absurd (true≢false (sym h))

flags-are : (a b : Bool) (o : Option (Bool × Bool)) → are_flags a b o ≡ true → o ≡ Some (a, b)
flags-are a b None h = absurd (true≢false (sym h))
flags-are a b (Some p) h =
    let q : (same_flag p.0 a ≡ true) × (same_flag p.1 b ≡ true) = both-are (same_flag p.0 a) (same_flag p.1 b) h in
    let x : p.0 ≡ a = same-is p.0 a q.0 in
    let y : p.1 ≡ b = same-is p.1 b q.1 in
    ap (λ (z : Bool). Some (z, p.1)) x ∙ ap (λ (z : Bool). Some (a, z)) y

-- ---- prototypes

there-by : (d : Data) (side : Side) (place : ℕ) → HasBuiltIn d side place
    → is_some (built_in_of d.joined d.cells side place) ≡ true
there-by d side place h = rw h.found refl

pub ready-prototypes : (d : Data) (home : Side) → IsReady d → home.0 < d.sides → HasPrototypes d home
ready-prototypes d home r h = record {
  function = there-by d home (place_of FunctionPrototype)
      (r.formed.built_ins home (place_of FunctionPrototype) h (λ e. cc));
  object = there-by d home (place_of ObjectPrototype) (r.formed.built_ins home (place_of ObjectPrototype) h (λ e. cc));
}

-- ---- what is made of what is held

record Bound (d : Data) (home : Side) (o : Option Value) : Type 0 where
  within : Maybe (ValueIn d) o
  range : All InRange (option_values o)
  own : d.joined ≡ false → All (IsOwn d home) (in_option in_value o)

bound-by : (d : Data) (home : Side) (o : Option Value) → Holds d home (value_held o) → Bound d home o
bound-by d home None h = record { within = tt; range = All-nil InRange; own = λ u. All-nil (IsOwn d home) }
bound-by d home (Some x) h = record {
  within = h.0.within;
  range = All-cons InRange x [] h.0.sound (All-nil InRange);
  own = h.0.own;
}

pub code-made : (d : Data) (code : Code) (label : Option StrId) (name : StrId) (proto : Value)
    → MayHold d code.side (HeldPrototype proto) → Holds d code.side (code_held code label name)
    → IsMade d code.side (kind.Function code) proto label
code-made d code label name proto p h =
    let b : Bound d code.side code.bound_this = bound-by d code.side code.bound_this h.1.1.1.1 in
    record {
      counted = refl;
      kind_in = (h.0.within, b.within);
      proto_in = p.within;
      label_in = h.1.1.0.within;
      prototype = p.sound;
      wholes = b.range;
      kind = record { side_is = refl; node_is = flags-are _ _ _ h.1.0.sound; scope_is = h.0.sound };
      unlabelled = λ e. cc;
      kind_own = b.own;
      proto_own = p.own;
    }

pub plain-made : (d : Data) (home : Side) (proto : Value) → MayHold d home (HeldPrototype proto)
    → IsMade d home kind.Plain proto None
plain-made d home proto p = record {
  counted = refl;
  kind_in = tt;
  proto_in = p.within;
  label_in = tt;
  prototype = p.sound;
  wholes = All-nil InRange;
  kind = tt;
  unlabelled = λ e. refl;
  kind_own = λ u. All-nil (IsOwn d home);
  proto_own = p.own;
}

-- ---- an object that was made

pub open-held : (d : Data) (home : Side) (id : ObjId) → IsOpen d home id → MayHold d home (HeldObject id)
open-held d home id o =
    (held-as d id o.cell o.there home (λ u. o.home_is) (counted-shown o.cell.kind o.counted)).object

pub made-open : (d d' : Data) (home : Side) (y : CellKind) (proto : Value) (label : Option StrId) (id : ObjId)
    → is_counted (kind_stand y) ≡ true → is_array y ≡ false → d' ≡ made d home y proto label → id.0 ≡ length d.cells
    → IsOpen d' home id
made-open d d' home y proto label id counted plain e number = record {
  cell = new_cell d.texts home y proto label;
  there = rw e (made-there d home y proto label id number);
  home_is = refl;
  counted = counted;
  no_array = plain;
  extensible = refl;
  configurable = rw plain (All-nil _);
}

pub function-held : (d d' : Data) (home : Side) (code : Code) (proto : Value) (label : Option StrId) (id : ObjId)
    → d' ≡ made d home (kind.Function code) proto label → id.0 ≡ length d.cells → Holds d' home (function_held id)
function-held d d' home code proto label id e number =
    let h = made-held d home (kind.Function code) proto label id refl number in
    rw e (h.value, (h.callable refl, tt))

pub still-inside : (home : Side) (d d' : Data) → Changed home d d' → home.0 < d.sides → home.0 < d'.sides
still-inside home d d' k h = omega (arith, h, k.found.grew.sides)

-- ---- a function with its `length` and `name`

module _ (d d1 : Data) (code : Code) (label : Option StrId) (params : ℕ) (name : StrId) (proto : Value) (id : ObjId)
    (p : MayHold d code.side (HeldPrototype proto)) (e : d1 ≡ made d code.side (kind.Function code) proto label)
    (number : id.0 ≡ length d.cells) (r : IsReady d) (inside : code.side.0 < d.sides)
    (h : Holds d code.side (code_held code label name)) where
  pub bare-first : Changed code.side d d1
  bare-first =
      rw e (made-changed code.side d (kind.Function code) proto label r inside (code-made d code label name proto p h))

  module _ (d2 : Data) (full : Full Value) (x : full ≡ Datum (v.Whole (pos params)) false false true)
      (few : params < 2 ^ 53) (result : Result (Unit {0}) Halt)
      (q : KeepsOn code.side (HeldFull full ∷ []) none_held result d1 d2) where
    length-held : MayHold d1 code.side (HeldFull full)
    length-held =
        rw x (value-datum d1 code.side (v.Whole (pos params)) false false true
        (whole-held d1 code.side (pos params) (grind (arith, nat_tests))))

    bare-put : Changed code.side d1 d2
    bare-put = (q bare-first.ready (still-inside code.side d d1 bare-first inside) (length-held, tt)).changed

    pub bare-second : Changed code.side d d2
    bare-second = changed-then code.side d d1 d2 bare-first bare-put

    module _ (d3 : Data) (other : Full Value) (y : other ≡ Datum (v.Text name) false false true)
        (after : Result (Unit {0}) Halt) (t : KeepsOn code.side (HeldFull other ∷ []) none_held after d2 d3) where
      name-there : MayHold d2 code.side (HeldText name)
      name-there = (holds-still code.side d d2 r bare-second (HeldText name ∷ []) (h.1.1.1.0, tt)).0

      name-held : MayHold d2 code.side (HeldFull other)
      name-held =
          rw y (value-datum d2 code.side (v.Text name) false false true
          (text-value-held d2 code.side name name-there.within))

      name-put : Changed code.side d2 d3
      name-put = (t bare-second.ready (still-inside code.side d d2 bare-second inside) (name-held, tt)).changed

      pub bare-third : Changed code.side d d3
      bare-third = changed-then code.side d d2 d3 bare-second name-put

      pub bare-held : Holds d3 code.side (function_held id)
      bare-held =
          holds-still code.side d1 d3 bare-first.ready (changed-then code.side d1 d2 d3 bare-put name-put)
          (function_held id) (function-held d d1 code.side code proto label id e number)

-- ---- an object that a function constructs has its prototype

-- an object stays open while another one gets a property
pub open-other : (d d' : Data) (home : Side) (id other : ObjId) (units : List ℕ) (full : Full Value) → IsOpen d home id
    → (b : IsOpen d home other) → (other.0 ≡ id.0 → ⊥) → Put d d' other units full → IsOpen d' home id
open-other d d' home id other units full o b apart q = record {
  cell = o.cell;
  there = rw (q.world, b.there) (get-other d.cells other.0 id.0 _ apart ∙ o.there);
  home_is = o.home_is;
  counted = o.counted;
  no_array = o.no_array;
  extensible = o.extensible;
  configurable = o.configurable;
}

module _ (d d1 : Data) (home : Side) (function new : ObjId) (proto : Value) (o : IsOpen d home function)
    (p : MayHold d home (HeldPrototype proto)) (e : d1 ≡ made d home kind.Plain proto None)
    (number : new.0 ≡ length d.cells) where
  pub function-open : IsOpen d1 home function
  function-open = record {
    cell = o.cell;
    there = rw e (at-first d.cells (new_cell d.texts home kind.Plain proto None) o.cell function.0 o.there);
    home_is = o.home_is;
    counted = o.counted;
    no_array = o.no_array;
    extensible = o.extensible;
    configurable = o.configurable;
  }

  pub new-open : IsOpen d1 home new
  new-open = made-open d d1 home kind.Plain proto None new refl refl e number

  pub are-apart : function.0 ≡ new.0 → ⊥
  are-apart h = omega (arith, h, number, slice_get_within d.cells function.0 o.cell o.there)

  module _ (r : IsReady d) (inside : home.0 < d.sides) where
    pub plain-first : Changed home d d1
    plain-first = rw e (made-changed home d kind.Plain proto None r inside (plain-made d home proto p))

    module _ (d2 : Data) (result : Result (Unit {0}) Halt)
        (q : KeepsOn home (HeldFull (Datum (v.Object new) true false false) ∷ []) none_held result d1 d2) where
      new-held : MayHold d1 home (HeldFull (Datum (v.Object new) true false false))
      new-held =
          value-datum d1 home (v.Object new) true false false
          (object-value d1 home new (open-held d1 home new new-open))

      pub plain-second : Changed home d d2
      plain-second =
          changed-then home d d1 d2 plain-first
          (q plain-first.ready (still-inside home d d1 plain-first inside) (new-held, tt)).changed

      module _ (d3 : Data) (after : Result (Unit {0}) Halt)
          (t : KeepsOn home (HeldFull (Datum (v.Object function) true false true) ∷ []) none_held after d2 d3) where
        its-function : MayHold d2 home (HeldFull (Datum (v.Object function) true false true))
        its-function =
            value-datum d2 home (v.Object function) true false true
            (object-value d2 home function
            (holds-still home d d2 r plain-second (HeldObject function ∷ []) (open-held d home function o, tt)).0)

        pub plain-third : Changed home d d3
        plain-third =
            changed-then home d d2 d3 plain-second
            (t plain-second.ready (still-inside home d d2 plain-second inside) (its-function, tt)).changed
