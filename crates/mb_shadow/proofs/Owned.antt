-- What is seen of an object is its owner's, or a rule's constant.
use Rattle.std.proofs.Common.{◌≡◌, ◌++◌, ◌&&◌, ℕ, List, [], ◌∷◌, Option, Some, None, Bool, true, false, refl, ap, sym, ◌∙◌, true≢false, if◌then◌else◌, option_map, Result, Ok, Err}
use Rattle.std.specs.Prelude.{All, IfSome, IfOk}
use Rattle.std.specs.List.{flat_map}
use Rattle.std.proofs.lemmas.List.Elements.{All-head, All-tail, All-cons, All-nil}
use Rattle.std.proofs.lemmas.Map.Entries.{All-lookup}
use Rattle.mb_base.specs.declared.value.ObjId.{ObjId}
use Rattle.mb_base.specs.declared.value.Side.{Side}
use Rattle.mb_base.specs.declared.value.Key.{Key}
use Rattle.mb_base.specs.declared.value.Value.{Value}
use Rattle.mb_base.specs.declared.value.Value.TheVariants as v
use Rattle.mb_desc.specs.declared.descriptor.Full.{Full}
use Rattle.mb_desc.specs.declared.descriptor.Full.TheVariants.{Datum, Accessor}
use Rattle.mb_desc.specs.Descriptors.{is_enumerable, is_configurable}
use Rattle.mb_props.specs.Table.{found, same_key}
use Rattle.mb_world.specs.declared.cell.Cell.{Cell}
use Rattle.mb_world.specs.Value.{Val, Undefined, Null, Truth, Whole, Text, Symbol, Object, BuiltIn, is_object}
use Rattle.mb_world.specs.Key.{PropertyKey, Named, SymbolKey}
use Rattle.mb_world.specs.Graph.{Thing, Rule, RuleKind, Hide, ReadOnly, Substitute, Revoke}
use Rattle.mb_world.specs.Objects.{own_property}
use Rattle.mb_world.specs.View.{applies, names_key, find_key_rule, key_rule, shown_by, shown_property}
use Rattle.mb_world.specs.Data.{Data, cell_at, property_at, property_in}
use Rattle.mb_world.specs.Ids.{FullIn, CellIn}
use Rattle.mb_world.specs.Image.{Names, names_of, Resolve, key_in, full_in, object_of, object_at}
use Rattle.mb_world.specs.Contained.{IsOwn, in_cell, in_kind, in_value, in_full}
use Rattle.mb_world.specs.Formed.{FormedCell, IsNullOrObject, InRange, full_values, kind_values}
use Rattle.mb_world.proofs.Grow.{All-at}
use Rattle.mb_world.proofs.Values.{object-object}
use Rattle.mb_rules.specs.Seen.{graph_of}
use Rattle.mb_rules.proofs.Views.{from-object}
use Rattle.mb_maps.proofs.Lists.{All-left, All-right}
use Rattle.mb_shadow.specs.Seeing.{CanSee, IsPropertyOf, IsConstant, HasConstant}
use Rattle.mb_shadow.specs.declared.sight.Sight.{Sight}
use Rattle.mb_shadow.specs.machine.Sights.{IsSight, IsValueOf}
use Rattle.mb_shadow.proofs.Forms.{prototype-as}
use Rattle.mb_shadow.proofs.Parts.{all-parts}

-- ---- rules of keys

and-first : (a b : Bool) → a && b ≡ true → b ≡ true
and-first true b h = h
and-first false b h = cc

-- the rule of a key names it, and its constant is one
rule-found : (k : PropertyKey) (v : ℕ) (t : Thing) (rs : List Rule) (kind : RuleKind) → find_key_rule k v t rs ≡ Some kind
    → All (λ (r : Rule). HasConstant r.kind) rs → (names_key k kind ≡ true) × HasConstant kind
rule-found k v t [] kind e h = cc
rule-found k v t (r ∷ rs) kind e h = by (applies v t r && names_key k r.kind) refl e
    (λ q. rule-found k v t rs kind q (All-tail (λ (r : Rule). HasConstant r.kind) r rs h))
  where
    by : (b : Bool) → applies v t r && names_key k r.kind ≡ b → (if b then Some r.kind else find_key_rule k v t rs) ≡ Some kind
        → (find_key_rule k v t rs ≡ Some kind → (names_key k kind ≡ true) × HasConstant kind)
        → (names_key k kind ≡ true) × HasConstant kind
    by true p q rest =
        let same : r.kind ≡ kind = cc in
        rw (sym same) (and-first (applies v t r) (names_key k r.kind) p, All-head (λ (r : Rule). HasConstant r.kind) r rs h)
    by false p q rest = rest q

-- a rule that names no key is the rule of none
no-read-only : (k : PropertyKey) → names_key k ReadOnly ≡ true → ⊥
no-read-only (Named t) h = true≢false (sym h)
no-read-only (SymbolKey n) h = true≢false (sym h)

no-revoke : (k : PropertyKey) → names_key k Revoke ≡ true → ⊥
no-revoke (Named t) h = true≢false (sym h)
no-revoke (SymbolKey n) h = true≢false (sym h)

-- ---- constants

-- what stands for a constant is no reference, and in range
no-reference : (n : Names) (x : Value) → IsConstant (Resolve n x) → (in_value x ≡ []) × InRange x
no-reference n v.Undefined h = absurd h
no-reference n v.Null h = absurd h
no-reference n (v.Bool b) h = (refl, tt)
no-reference n (v.Whole z) h = (refl, h)
no-reference n (v.Text t) h = (refl, tt)
no-reference n (v.Symbol t) h = absurd h
no-reference n (v.Object o) h = absurd (by _ (object-object n o) h)
  where
    by : (x : Val) → is_object x ≡ true → IsConstant x → ⊥
    by (Truth b) e c = true≢false (sym e)
    by (Whole z) e c = true≢false (sym e)
    by (Text t) e c = true≢false (sym e)
    by Undefined e c = c
    by Null e c = c
    by (Symbol m) e c = c
    by (Object m) e c = c
    by (BuiltIn m) e c = c

constant-of : (d : Data) (side : Side) (p : Full Value) (x : Val) (w e c : Bool) → FullIn d p → full_in (names_of d) p ≡ Datum x w e c → IsConstant x
    → IsPropertyOf d side p
constant-of d side (Datum y w' e' c') x w e c i q h =
    let same : Resolve (names_of d) y ≡ x = cc in
    let k = no-reference (names_of d) y (rw same h) in
    record {
      within = i;
      own = rw k.0 (All-nil (IsOwn d side));
      callables = tt;
      wholes = All-cons InRange y [] k.1 (All-nil InRange);
    }
constant-of d side (Accessor g s e' c') x w e c i q h = cc

-- ---- what stands in a cell

module _ (d : Data) (can : CanSee d) (id : ObjId) (c : Cell) (there : cell_at d id ≡ Some c) where
  formed : FormedCell d c
  formed = All-at (FormedCell d) d.cells id.0 c there can.cells

  within : CellIn d c
  within = All-at (CellIn d) d.cells id.0 c there can.ids.cells_in

  own : All (IsOwn d c.home) (in_cell c)
  own = All-at (λ (x : Cell). All (IsOwn d x.home) (in_cell x)) d.cells id.0 c there can.can_cross.contained.cells_own

  own-props : All (λ (p : Key × Full Value). All (IsOwn d c.home) (in_full p.1)) c.props
  own-props = all-parts (λ (p : Key × Full Value). in_full p.1) (IsOwn d c.home) c.props
      (All-right (IsOwn d c.home) (in_kind c.kind ++ in_value c.proto) _ (All-left (IsOwn d c.home) _ _ own))

  own-proto : All (IsOwn d c.home) (in_value c.proto)
  own-proto = All-right (IsOwn d c.home) (in_kind c.kind) (in_value c.proto) (All-left (IsOwn d c.home) _ _ (All-left (IsOwn d c.home) _ _ own))

  whole-rest : All InRange (c.proto ∷ flat_map (λ (p : Key × Full Value). full_values p.1) c.props)
  whole-rest = All-right InRange (kind_values c.kind) _ (All-left InRange _ _ formed.wholes)

  pub proto-of : IsValueOf d c.home c.proto
  proto-of = record { within = within.proto_in; own = own-proto; whole = All-head InRange c.proto _ whole-rest }

  whole-props : All (λ (p : Key × Full Value). All InRange (full_values p.1)) c.props
  whole-props = all-parts (λ (p : Key × Full Value). full_values p.1) InRange c.props (All-tail InRange c.proto _ whole-rest)

  pub each-of : All (λ (p : Key × Full Value). IsPropertyOf d c.home p.1) c.props
  each-of = λ k p l. record {
    within = (within.props_in k p l).1;
    own = own-props k p l;
    callables = formed.callables k p l;
    wholes = whole-props k p l;
  }

  -- a property of its own
  pub own-of : (key : Key) (p : Full Value) → property_at d id key ≡ Some p → IsPropertyOf d c.home p
  own-of key p e =
      let f : found c.props key ≡ Some p = sym (ap (property_in key) there) ∙ e in
      rw f at (All-lookup (IsPropertyOf d c.home) (same_key key) c.props each-of)

  -- a property that is shown
  pub shown-of : (viewer : Side) (key : Key) (p : Full Value)
      → IfSome (object_at d id) (λ t. option_map (full_in (names_of d)) (Some p) ≡ shown_property (graph_of d) viewer.0 t (key_in (names_of d) key))
      → IfSome (object_at d id) (λ t. key_rule (graph_of d) viewer.0 t (key_in (names_of d) key) ≡ None → Some p ≡ property_at d id key)
      → FullIn d p → IsPropertyOf d c.home p
  shown-of viewer key p meant owned i = by (key_rule (graph_of d) viewer.0 thing k) refl
    where
      k : PropertyKey
      k = key_in (names_of d) key

      thing : Thing
      thing = object_of (names_of d) c

      shows : Some (full_in (names_of d) p) ≡ shown_property (graph_of d) viewer.0 thing k
      shows = from-object d id c (λ t. option_map (full_in (names_of d)) (Some p) ≡ shown_property (graph_of d) viewer.0 t k) there meant

      owns : key_rule (graph_of d) viewer.0 thing k ≡ None → Some p ≡ property_at d id key
      owns = from-object d id c (λ t. key_rule (graph_of d) viewer.0 t k ≡ None → Some p ≡ property_at d id key) there owned

      constant : (text : List ℕ) (x : Val) (o : Option (Full Val)) → IsConstant x → Some (full_in (names_of d) p) ≡ shown_by (Some (Substitute text x)) o → IsPropertyOf d c.home p
      constant text x None h e = cc
      constant text x (Some f) h e = let q : full_in (names_of d) p ≡ Datum x false (is_enumerable f) (is_configurable f) = cc in constant-of d c.home p x false (is_enumerable f) (is_configurable f) i q h

      shown : (r : Option RuleKind) → key_rule (graph_of d) viewer.0 thing k ≡ r → Some (full_in (names_of d) p) ≡ shown_by r (own_property k thing)
      shown r e = shows ∙ ap (λ (r : Option RuleKind). shown_by r (own_property k thing)) e

      by : (r : Option RuleKind) → key_rule (graph_of d) viewer.0 thing k ≡ r → IsPropertyOf d c.home p
      by None e = own-of key p (sym (owns e))
      by (Some (Hide text)) e = (let bad : Some (full_in (names_of d) p) ≡ None = shown (Some (Hide text)) e in cc)
      by (Some (Substitute text x)) e = constant text x (own_property k thing) (rule-found k viewer.0 thing (graph_of d).rules (Substitute text x) e can.constants).1 (shown (Some (Substitute text x)) e)
      by (Some ReadOnly) e = absurd (no-read-only k (rule-found k viewer.0 thing (graph_of d).rules ReadOnly e can.constants).0)
      by (Some Revoke) e = absurd (no-revoke k (rule-found k viewer.0 thing (graph_of d).rules Revoke e can.constants).0)

-- ---- as the code has it

pub seen-of : (d : Data) → CanSee d → (s : Sight) → IsSight d s → (from : Side) → option_map (λ (x : Cell). x.home) (cell_at d s.object) ≡ Some from
    → (key : Key) (p : Full Value)
    → IfSome (object_at d s.object) (λ t. option_map (full_in (names_of d)) (Some p) ≡ shown_property (graph_of d) s.viewer.0 t (key_in (names_of d) key))
    → IfSome (object_at d s.object) (λ t. key_rule (graph_of d) s.viewer.0 t (key_in (names_of d) key) ≡ None → Some p ≡ property_at d s.object key)
    → FullIn d p → IsPropertyOf d from p
seen-of d can s sight from h key p meant owned i =
    let f : Some sight.cell.home ≡ Some from = rw sight.there at h in
    let same : sight.cell.home ≡ from = cc in
    rw (sym same) (shown-of d can s.object sight.cell sight.there s.viewer key p meant owned i)

pub proto-seen-of : (d : Data) → CanSee d → (id : ObjId) (c : Cell) → cell_at d id ≡ Some c → IsValueOf d c.home c.proto
proto-seen-of d can id c e = proto-of d can id c e

pub proto-kind : {E : Type 0} (d : Data) → CanSee d → (id : ObjId) (c : Cell) → cell_at d id ≡ Some c → (d' : Data) (r : Result Value E)
    → IfOk r (λ own. Resolve (names_of d') own ≡ Resolve (names_of d) c.proto) → IfOk r IsNullOrObject
proto-kind d can id c e d' (Ok own) m = prototype-as (names_of d) (names_of d') c.proto own m (All-at (FormedCell d) d.cells id.0 c e can.cells).prototype
proto-kind d can id c e d' (Err f) m = tt
