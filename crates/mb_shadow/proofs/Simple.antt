-- Cells that have no references, values or slots but those of their prototype and their properties.
use Rattle.std.proofs.Common.{◌≡◌, ◌++◌, ◌<◌, [], ◌∷◌, Bool, true, false, refl, ap, sym, ◌∙◌, subst}
use Rattle.std.specs.Prelude.{All}
use Rattle.std.specs.List.{flat_map}
use Rattle.std.proofs.lemmas.List.Elements.{All-append, All-cons, All-nil}
use Rattle.mb_base.specs.declared.value.Side.{Side}
use Rattle.mb_base.specs.declared.value.Key.{Key}
use Rattle.mb_base.specs.declared.value.Value.{Value}
use Rattle.mb_desc.specs.declared.descriptor.Full.{Full}
use Rattle.mb_world.specs.declared.cell.Cell.{Cell}
use Rattle.mb_world.specs.declared.cell.CellKind.{CellKind}
use Rattle.mb_world.specs.declared.cell.CellKind.TheVariants.{Plain, Shadow}
use Rattle.mb_world.specs.Data.{Data}
use Rattle.mb_world.specs.Contained.{IsOwn, in_cell, in_kind, in_value, in_full, in_option, in_pair, is_shadow}
use Rattle.mb_world.specs.Formed.{FormedCell, HasItsCallables, IsNullOrObject, InRange, IsArray, HasItsSlots, HasItsKind, full_values, pair_values, kind_values}
use Rattle.mb_shadow.specs.Following.{KeepsShadow}
use Rattle.mb_shadow.proofs.Parts.{all-flat}

abbrev pub is_simple : CellKind → Bool
is_simple Plain = true
is_simple (Shadow shape) = true
is_simple k = false

pub shadow-simple : (k : CellKind) → is_shadow k ≡ true → is_simple k ≡ true
shadow-simple (Shadow shape) h = refl
shadow-simple k h = cc

module _ (d : Data) (c x : Cell) (simple : is_simple c.kind ≡ true) (keeps : KeepsShadow c x) where
  no-kind : (k : CellKind) → is_simple k ≡ true → (in_kind k ≡ []) × (kind_values k ≡ [])
  no-kind Plain h = (refl, refl)
  no-kind (Shadow shape) h = (refl, refl)
  no-kind k h = cc

  kind-of : (in_kind x.kind ≡ []) × (kind_values x.kind ≡ [])
  kind-of = subst (λ (k : CellKind). (in_kind k ≡ []) × (kind_values k ≡ [])) (sym keeps.kind) (no-kind c.kind simple)

  no-slots : (k : CellKind) → is_simple k ≡ true → HasItsSlots d k c → c.slots ≡ []
  no-slots Plain h s = s
  no-slots (Shadow shape) h s = s
  no-slots k h s = cc

  array-none : (k : CellKind) → is_simple k ≡ true → IsArray d k x
  array-none Plain h = tt
  array-none (Shadow shape) h = tt
  array-none k h = cc

  slots-none : (k : CellKind) → is_simple k ≡ true → x.slots ≡ [] → HasItsSlots d k x
  slots-none Plain h e = e
  slots-none (Shadow shape) h e = e
  slots-none k h e = cc

  kind-none : (k : CellKind) → is_simple k ≡ true → HasItsKind d x.home k
  kind-none Plain h = tt
  kind-none (Shadow shape) h = tt
  kind-none k h = cc

  still : is_simple x.kind ≡ true
  still = ap is_simple keeps.kind ∙ simple

  module _ (was : FormedCell d c) where
    empty : x.slots ≡ []
    empty = keeps.slots ∙ no-slots c.kind simple was.slots

    pub own-all : (side : Side) → All (IsOwn d side) (in_value x.proto) → All (λ (p : Key × Full Value). All (IsOwn d side) (in_full p.1)) x.props → All (IsOwn d side) (in_cell x)
    own-all side one two =
        let none : All (IsOwn d side) [] = All-nil (IsOwn d side) in
        All-append (IsOwn d side) (in_kind x.kind ++ in_value x.proto ++ flat_map (λ (p : Key × Full Value). in_full p.1) x.props) (flat_map (in_option in_pair) x.slots)
        (All-append (IsOwn d side) (in_kind x.kind ++ in_value x.proto) (flat_map (λ (p : Key × Full Value). in_full p.1) x.props)
        (All-append (IsOwn d side) (in_kind x.kind) (in_value x.proto) (subst (All (IsOwn d side)) (sym kind-of.0) none) one)
        (all-flat (λ (p : Key × Full Value). in_full p.1) (IsOwn d side) x.props two))
        (subst (λ s. All (IsOwn d side) (flat_map (in_option in_pair) s)) (sym empty) none)

    pub formed-all : IsNullOrObject x.proto → InRange x.proto → All (λ (p : Key × Full Value). HasItsCallables d p.1) x.props
        → All (λ (p : Key × Full Value). All InRange (full_values p.1)) x.props → FormedCell d x
    formed-all proto whole callables wholes =
        let none : All InRange [] = All-nil InRange in
        record {
          home = subst (λ (s : Side). s.0 < d.sides) (sym keeps.home) was.home;
          wholes = All-append InRange (kind_values x.kind ++ (x.proto ∷ flat_map (λ (p : Key × Full Value). full_values p.1) x.props)) (flat_map pair_values x.slots)
              (All-append InRange (kind_values x.kind) (x.proto ∷ flat_map (λ (p : Key × Full Value). full_values p.1) x.props)
              (subst (All InRange) (sym kind-of.1) none)
              (All-cons InRange x.proto _ whole (all-flat (λ (p : Key × Full Value). full_values p.1) InRange x.props wholes)))
              (subst (λ s. All InRange (flat_map pair_values s)) (sym empty) none);
          prototype = proto;
          callables = callables;
          array = array-none x.kind still;
          slots = slots-none x.kind still empty;
          kind = kind-none x.kind still;
        }
