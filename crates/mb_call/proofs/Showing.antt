-- What a side sees of an object that may be held may be held too: its own property, or a rule's constant.
use Rattle.std.proofs.Common.{◌≡◌, ◌&&◌, Bool, List, None, Option, Some, [], ap, false, map, refl, slice_get, subst}
use Rattle.std.proofs.Common.{sym, true, true≢false, ℕ, ◌∷◌}
use Rattle.std.proofs.lemmas.List.Elements.{All-head, All-nil, All-tail}
use Rattle.std.specs.Prelude.{All, IfSome, if◌then◌else◌, option_map}
use Rattle.mb_base.specs.declared.value.Key.{Key}
use Rattle.mb_base.specs.declared.value.ObjId.{ObjId}
use Rattle.mb_base.specs.declared.value.Side.{Side}
use Rattle.mb_base.specs.declared.value.Value.{Value}
use Rattle.mb_base.specs.declared.value.Value.TheVariants as v
use Rattle.mb_desc.specs.Descriptors.{is_configurable, is_enumerable}
use Rattle.mb_desc.specs.declared.descriptor.Full.{Full}
use Rattle.mb_desc.specs.declared.descriptor.Full.TheVariants.{Accessor, Datum}
use Rattle.mb_frames.proofs.Changing.{there}
use Rattle.mb_frames.proofs.HeldCells.{property-held}
use Rattle.mb_frames.proofs.HeldLess.{full-real, real-none}
use Rattle.mb_frames.specs.Held.{HeldFull, HeldObject, HeldReal}
use Rattle.mb_frames.specs.Ready.{HasItsConstant, IsReady, MayHold}
use Rattle.mb_rules.specs.Seen.{graph_of}
use Rattle.mb_world.specs.Contained.{IsOwn, in_value}
use Rattle.mb_world.specs.Data.{AtPlace, Before, Counted, Data, Hidden, Stand, property_at}
use Rattle.mb_world.specs.Formed.{InRange, is_whole}
use Rattle.mb_world.specs.Graph.{Hide, ReadOnly, Revoke, RuleKind, Substitute, Thing}
use Rattle.mb_world.specs.Ids.{FullIn, Maybe}
use Rattle.mb_world.specs.Image.{Names, Resolve, full_in, key_in, names_of, object_at, object_of, rule_in, rule_kind_in}
use Rattle.mb_world.specs.Image.{stood}
use Rattle.mb_world.specs.Key.{Named, PropertyKey, SymbolKey}
use Rattle.mb_world.specs.Objects.{own_property}
use Rattle.mb_world.specs.Value.{BuiltIn, Object, Val, Whole}
use Rattle.mb_world.specs.View.{applies, find_key_rule, key_rule, names_key, shown_by, shown_property}
use Rattle.mb_world.specs.declared.rule.Rule.{Rule}
use Rattle.mb_world.specs.declared.rule.RuleKind.{RuleKind as WorldRuleKind}
use Rattle.mb_world.specs.declared.rule.RuleKind.TheVariants as r

-- ---- constants

-- no object, and in range
abbrev IsPlain : Val → Type 0
IsPlain (Whole z) = is_whole z ≡ true
IsPlain (Object n) = ⊥
IsPlain (BuiltIn place) = ⊥
IsPlain x = Unit {0}

-- a rule that names a key
abbrev IsOfKey : RuleKind → Type 0
IsOfKey (Hide x) = Unit {0}
IsOfKey (Substitute x y) = IsPlain y
IsOfKey kind = ⊥

module _ (n : Names) where
  plain-in : (x : Value) → in_value x ≡ [] → InRange x → IsPlain (Resolve n x)
  plain-in v.Undefined h i = tt
  plain-in v.Null h i = tt
  plain-in (v.Bool b) h i = tt
  plain-in (v.Whole z) h i = i
  plain-in (v.Text t) h i = tt
  plain-in (v.Symbol s) h i = tt
  plain-in (v.Object o) h i = cc

  no-stand : (i : ℕ) (s : Option Stand) → IsPlain (stood n i s) → ⊥
  no-stand i None h = h
  no-stand i (Some Counted) h = h
  no-stand i (Some (AtPlace place)) h = h
  no-stand i (Some (Before behind)) h = h
  no-stand i (Some Hidden) h = h

  plain-out : (x : Value) → IsPlain (Resolve n x) → (in_value x ≡ []) × InRange x
  plain-out v.Undefined h = (refl, tt)
  plain-out v.Null h = (refl, tt)
  plain-out (v.Bool b) h = (refl, tt)
  plain-out (v.Whole z) h = (refl, h)
  plain-out (v.Text t) h = (refl, tt)
  plain-out (v.Symbol s) h = (refl, tt)
  plain-out (v.Object o) h = absurd (no-stand o.0 (slice_get n.stands o.0) h)

  -- ---- the rule of a key

  of-key : (k : PropertyKey) (y : WorldRuleKind) → HasItsConstant y → names_key k (rule_kind_in n y) ≡ true
      → IsOfKey (rule_kind_in n y)
  of-key k (r.Hide x) h e = tt
  of-key (Named t) r.ReadOnly h e = absurd (true≢false (sym e))
  of-key (SymbolKey s) r.ReadOnly h e = absurd (true≢false (sym e))
  of-key k (r.Substitute x y) h e = plain-in y h.0 h.1
  of-key (Named t) r.Revoke h e = absurd (true≢false (sym e))
  of-key (SymbolKey s) r.Revoke h e = absurd (true≢false (sym e))

  right-of : (a b : Bool) → (a && b) ≡ true → b ≡ true
  right-of true b e = e
  right-of false b e = absurd (true≢false (sym e))

  rule-of-key : (k : PropertyKey) (viewer : ℕ) (t : Thing) (rules : List Rule) → All (λ x. HasItsConstant x.kind) rules
      → (y : RuleKind) → find_key_rule k viewer t (map (rule_in n) rules) ≡ Some y → IsOfKey y
  rule-of-key k viewer t [] h y e = cc
  rule-of-key k viewer t (x ∷ xs) h y e =
      by (applies viewer t (rule_in n x) && names_key k (rule_kind_in n x.kind)) refl
      (rule-of-key k viewer t xs (All-tail (λ z. HasItsConstant z.kind) x xs h) y) e
    where
      by : (b : Bool) → (applies viewer t (rule_in n x) && names_key k (rule_kind_in n x.kind)) ≡ b
          → (find_key_rule k viewer t (map (rule_in n) xs) ≡ Some y → IsOfKey y)
          → (if b then Some (rule_kind_in n x.kind) else find_key_rule k viewer t (map (rule_in n) xs)) ≡ Some y
          → IsOfKey y
      by true q rest i =
          let j : rule_kind_in n x.kind ≡ y = cc in
          subst IsOfKey j
          (of-key k x.kind (All-head (λ z. HasItsConstant z.kind) x xs h)
          (right-of (applies viewer t (rule_in n x)) (names_key k (rule_kind_in n x.kind)) q))
      by false q rest i = rest i

-- ---- what is shown

-- what holds of the object holds of what it is
pub at-some : {A : Type 0} (P : A → Type 0) (x : Option A) (a : A) → x ≡ Some a → IfSome x P → P a
at-some P x a e h = subst (λ z. IfSome z P) e h

pub maybe-of : {A : Type 0} (P : A → Type 0) (x : Option A) → IfSome x P → Maybe P x
maybe-of P None h = tt
maybe-of P (Some a) h = h

module _ (d : Data) (home : Side) where
  constant-held : (f : Full Value) (y : Val) (e c : Bool) → FullIn d f → IsPlain y
      → full_in (names_of d) f ≡ Datum y false e c → MayHold d home (HeldFull f)
  constant-held (Datum x w a b) y e c i p q =
      let j : Resolve (names_of d) x ≡ y = cc in
      let k : (in_value x ≡ []) × InRange x = plain-out (names_of d) x (subst IsPlain (sym j) p) in
      record {
        within = i;
        sound = record { callables = tt; wholes = (k.1, tt) };
        own = λ u. rw k.0 (All-nil (IsOwn d home));
      }
  constant-held (Accessor g s a b) y e c i p q = cc

  module _ (ready : IsReady d) (viewer : Side) (id : ObjId) (key : Key) (f : Full Value)
      (h : MayHold d home (HeldObject id)) (i : FullIn d f) where
    shown-by : (t : Thing)
        → (key_rule (graph_of d) viewer.0 t (key_in (names_of d) key) ≡ None → Some f ≡ property_at d id key)
        → (q : Option RuleKind) → key_rule (graph_of d) viewer.0 t (key_in (names_of d) key) ≡ q
        → (own : Option (Full Val))
        → Some (full_in (names_of d) f) ≡ shown_by q own → MayHold d home (HeldFull f)
    shown-by t o None e own m = property-held d ready home id key f h (sym (o e))
    shown-by t o (Some (Hide x)) e own m = cc
    shown-by t o (Some (Substitute x y)) e None m = cc
    shown-by t o (Some (Substitute x y)) e (Some p) m =
        let q : full_in (names_of d) f ≡ Datum y false (is_enumerable p) (is_configurable p) = cc in
        constant-held f y (is_enumerable p) (is_configurable p) i
        (rule-of-key (names_of d) (key_in (names_of d) key) viewer.0 t d.rules ready.constants (Substitute x y) e) q
    shown-by t o (Some ReadOnly) e own m =
        absurd (rule-of-key (names_of d) (key_in (names_of d) key) viewer.0 t d.rules ready.constants ReadOnly e)
    shown-by t o (Some Revoke) e own m =
        absurd (rule-of-key (names_of d) (key_in (names_of d) key) viewer.0 t d.rules ready.constants Revoke e)

    -- what a look at a property answers
    pub shown-held : IfSome (object_at d id) (λ t. Some (full_in (names_of d) f)
        ≡ shown_property (graph_of d) viewer.0 t (key_in (names_of d) key))
        → IfSome (object_at d id) (λ t.
        key_rule (graph_of d) viewer.0 t (key_in (names_of d) key) ≡ None → Some f ≡ property_at d id key)
        → MayHold d home (HeldFull f)
    shown-held m o =
        let c = there d id h.within in
        let t : Thing = object_of (names_of d) c.0 in
        let e : object_at d id ≡ Some t = ap (option_map (object_of (names_of d))) c.1 in
        shown-by t
        (at-some (λ t. key_rule (graph_of d) viewer.0 t (key_in (names_of d) key) ≡ None
        → Some f ≡ property_at d id key)
        (object_at d id) t e o)
        (key_rule (graph_of d) viewer.0 t (key_in (names_of d) key)) refl
        (own_property (key_in (names_of d) key) t)
        (at-some (λ t. Some (full_in (names_of d) f) ≡ shown_property (graph_of d) viewer.0 t (key_in (names_of d) key))
        (object_at d id) t e m)

-- a look answers with what may be held
pub shown-real : (d : Data) (home : Side) → IsReady d
    → (viewer : Side) (id : ObjId) (key : Key) (found : Option (Full Value))
    → MayHold d home (HeldObject id) → IfSome found (FullIn d)
    → IfSome (object_at d id) (λ t. option_map (full_in (names_of d)) found
    ≡ shown_property (graph_of d) viewer.0 t (key_in (names_of d) key))
    → IfSome (object_at d id) (λ t.
    key_rule (graph_of d) viewer.0 t (key_in (names_of d) key) ≡ None → found ≡ property_at d id key)
    → MayHold d home (HeldReal found)
shown-real d home r viewer id key None h i m o = real-none d home
shown-real d home r viewer id key (Some f) h i m o = full-real d home f (shown-held d home r viewer id key f h i m o)
