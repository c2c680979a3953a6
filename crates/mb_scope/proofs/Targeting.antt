-- Targets, from a node to its part.
use Rattle.std.proofs.Common.{◌≡◌, ℕ, ◌+◌, ◌<◌, ◌≤◌, Bool, true, false, List, length, Some, refl, sym, ap, subst, ◌∙◌, arith, ⊎_elim}
use Rattle.std.proofs.lemmas.Bool.{cases_eq}
use Rattle.std.proofs.lemmas.Option.{slice_get_within}
use Rattle.std.specs.Prelude.{slice_get, None, IsTrue, not}
use Rattle.mb_base.specs.declared.value.NodeId.{NodeId}
use Rattle.mb_tree.specs.Roses.{Shape, id_of}
use Rattle.mb_scope.specs.declared.target.TargetType.TheVariants.{Simple, Grouped, Invalid}
use Rattle.mb_scope.specs.declared.target.Use.TheVariants.{Deletes}
use Rattle.mb_scope.specs.Kinds.{target_type_of, is_property, group_part}
use Rattle.mb_scope.specs.Targets.{IsNode, IsTarget, simple, grouped, Misses, MissesFirst, IsBadTarget}

node_same : {shapes : List Shape} {id : NodeId} {a b : Shape} → IsNode shapes id a → slice_get shapes id.0 ≡ Some b → a ≡ b
node_same n e = let h = n.is in cc

pub target_simple : (shapes : List Shape) (id : NodeId) (node : Shape) → slice_get shapes id.0 ≡ Some node → target_type_of node.label.kind ≡ Simple → IsTarget shapes id
target_simple shapes id node e f = simple (record { is = e }) f

pub target_invalid : (shapes : List Shape) (id : NodeId) (node : Shape) → slice_get shapes id.0 ≡ Some node → target_type_of node.label.kind ≡ Invalid → IsTarget shapes id → ⊥
target_invalid shapes id node e f (simple n g) =
    let same = ap (λ (s : Shape). target_type_of s.label.kind) (node_same n e) in
    cc
target_invalid shapes id node e f (grouped n g p t) =
    let same = ap (λ (s : Shape). target_type_of s.label.kind) (node_same n e) in
    cc

-- a node in parentheses is a target exactly if its part is
pub target_up : (shapes : List Shape) (id part : NodeId) (node : Shape) → slice_get shapes id.0 ≡ Some node → target_type_of node.label.kind ≡ Grouped → group_part node.label.kind node.children ≡ Some part → IsTarget shapes part → IsTarget shapes id
target_up shapes id part node e f p t = grouped (record { is = e }) f p t

target_part : (shapes : List Shape) (id : NodeId) (node : Shape) → slice_get shapes id.0 ≡ Some node → target_type_of node.label.kind ≡ Grouped → IsTarget shapes id → (part : NodeId) × (group_part node.label.kind node.children ≡ Some part) × IsTarget shapes part
target_part shapes id node e f (simple n g) =
    let same = ap (λ (s : Shape). target_type_of s.label.kind) (node_same n e) in
    absurd (let z : ⊥ = cc in z)
target_part shapes id node e f (grouped {part = part} n g p t) =
    let same = ap (λ (s : Shape). group_part s.label.kind s.children) (node_same n e) in
    (part, sym same ∙ p, t)

pub target_down : (shapes : List Shape) (id part : NodeId) (node : Shape) → slice_get shapes id.0 ≡ Some node → target_type_of node.label.kind ≡ Grouped → group_part node.label.kind node.children ≡ Some part → IsTarget shapes id → IsTarget shapes part
target_down shapes id part node e f p t =
    let w = target_part shapes id node e f t in
    let same : w.0 ≡ part = let q = w.1 in cc in
    subst (IsTarget shapes) same w.2

pub target_empty : (shapes : List Shape) (id : NodeId) (node : Shape) → slice_get shapes id.0 ≡ Some node → target_type_of node.label.kind ≡ Grouped → group_part node.label.kind node.children ≡ None → IsTarget shapes id → ⊥
target_empty shapes id node e f p t =
    let w = target_part shapes id node e f t in
    let q = w.1 in
    cc

-- a node that was found not to be a property, or to be one
pub property_there : (shapes : List Shape) (id : NodeId) (node : Shape) (b : Bool) → slice_get shapes id.0 ≡ Some node → b ≡ is_property node.label.kind → (IsTrue (not b) → Misses shapes Deletes id) × (Misses shapes Deletes id → IsTrue (not b))
property_there shapes id node true is e = (λ h. absurd (let z : ⊥ = cc in z), λ m. absurd (m (record { node = node; is = is; property = sym e })))
property_there shapes id node false is e = (
  λ h p.
      let same : p.node ≡ node = let q = p.is in cc in
      let kind = ap (λ (s : Shape). is_property s.label.kind) same in
      let h = p.property in
      cc,
  λ m. refl,
)

-- the loop over the nodes

module _ (shapes : List Shape) (i : ℕ) (node : Shape) (is : slice_get shapes i ≡ Some node) (before : (id : NodeId) → IsBadTarget shapes id → i ≤ id.0) where
  pub bad_here : MissesFirst shapes node → IsBadTarget shapes (id_of i)
  bad_here m = record { node = node; is = is; misses = m }

  pub bad_later : (MissesFirst shapes node → ⊥) → (id : NodeId) → IsBadTarget shapes id → i + 1 ≤ id.0
  bad_later none id b =
      let le : i ≤ id.0 = before id b in
      ⊎_elim
      (λ same.
      let place : slice_get shapes id.0 ≡ slice_get shapes i = ap (slice_get shapes) same in
      let node_is : b.node ≡ node = let h = b.is in cc in
      absurd (none (subst (MissesFirst shapes) node_is b.misses)))
      (λ apart. omega arith)
      (cases_eq id.0 i)

pub bad_none : (shapes : List Shape) (i : ℕ) → length shapes ≤ i → ((id : NodeId) → IsBadTarget shapes id → i ≤ id.0) → (id : NodeId) → IsBadTarget shapes id → ⊥
bad_none shapes i h before id b =
    let le : i ≤ id.0 = before id b in
    let lt : id.0 < length shapes = slice_get_within shapes id.0 b.node b.is in
    omega arith

pub no_target : (shapes : List Shape) (id : NodeId) → slice_get shapes id.0 ≡ None → IsTarget shapes id → ⊥
no_target shapes id e (simple n g) = let h = n.is in cc
no_target shapes id e (grouped n g p t) = let h = n.is in cc
