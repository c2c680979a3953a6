-- At one node at most one rule can be broken, by the node's kind.
use Rattle.std.proofs.Common.{◌≡◌, ℕ, ◌<◌, ◌≤◌, Bool, true, false, List, [], length, Some, refl, ap, subst, arith, inl, inr, ⊎_elim}
use Rattle.std.specs.Prelude.{Option, None, slice_get, ◌⊎◌, if◌then◌else◌}
use Rattle.std.specs.Option.{option_map, MatchOption, IsSomeAnd}
use Rattle.std.proofs.lemmas.Option.{slice_get_within}
use Rattle.mb_base.specs.declared.value.NodeId.{NodeId}
use Rattle.mb_base.specs.declared.value.StrId.{StrId}
use Rattle.mb_tree.specs.declared.kind.Kind.{Kind}
use Rattle.mb_tree.specs.declared.kind.Kind.TheVariants as k
use Rattle.mb_tree.specs.declared.kind.Sign.TheVariants as s
use Rattle.mb_tree.specs.Roses.{Shape}
use Rattle.mb_scope.specs.declared.fault.NameFault.{NameFault}
use Rattle.mb_scope.specs.declared.fault.NameFault.TheVariants.{Twice, Stray, BadTarget, NoMemory}
use Rattle.mb_scope.specs.declared.binding.Binding.{Binding}
use Rattle.mb_scope.specs.declared.binding.Declares.{Declares}
use Rattle.mb_scope.specs.declared.binding.Declares.TheVariants.{Itself, Decls, Nothing}
use Rattle.mb_scope.specs.machine.First.{IsFirst, sooner}
use Rattle.mb_scope.specs.Kinds.{declares_of, is_decl, jump_of, use_of, operand_of}
use Rattle.mb_scope.specs.Bindings.{own, decl_of, decl_binding, bound_as, bound_at, bound_by, bindings_of, parts_in, catch_block, in_block, together, IsTwice}
use Rattle.mb_scope.specs.Jumps.{Strays, IsStray}
use Rattle.mb_scope.specs.Targets.{MissesAt, IsBadTarget}
use Rattle.mb_scope.specs.Faults.{Breaks, IsRight, fault_place, IsLeast}
use Rattle.mb_scope.specs.machine.FirstFault.{first_fault_of}
use Rattle.mb_scope.proofs.First.{first_or}
use Rattle.mb_scope.proofs.Lists.{Each, each_append, each_flat_map, each_at}

-- which rule a node of this kind can break
data Rule : Type 0 where
  names : Rule
  jumps : Rule
  targets : Rule
  none : Rule

abbrev rule_of : Kind → Rule
rule_of k.Decl = names
rule_of k.Param = names
rule_of (k.FunctionDecl _) = names
rule_of k.Return = jumps
rule_of k.Break = jumps
rule_of k.Continue = jumps
rule_of k.Assign = targets
rule_of (k.Compound _) = targets
rule_of (k.Update _ _) = targets
rule_of (k.Unary s.Delete) = targets
rule_of _ = none

decl_rule : (kind : Kind) → is_decl kind ≡ true → rule_of kind ≡ names
decl_rule k.Decl e = refl
decl_rule _ e = cc

itself_rule : (kind : Kind) → declares_of kind ≡ Itself → rule_of kind ≡ names
itself_rule k.Param e = refl
itself_rule (k.FunctionDecl _) e = refl
itself_rule _ e = cc

jump_rule : (shapes : List Shape) (id : NodeId) (kind : Kind) → Strays shapes id (jump_of kind) → rule_of kind ≡ jumps
jump_rule shapes id k.Return h = refl
jump_rule shapes id k.Break h = refl
jump_rule shapes id k.Continue h = refl
jump_rule shapes id _ h = absurd h

target_rule : (shapes : List Shape) (kind : Kind) (id : NodeId) → MissesAt shapes (use_of kind) (Some id) → rule_of kind ≡ targets
target_rule shapes k.Assign id h = refl
target_rule shapes (k.Compound _) id h = refl
target_rule shapes (k.Update _ _) id h = refl
target_rule shapes (k.Unary s.Delete) id h = refl
target_rule shapes _ id h = absurd h

misses_rule : (shapes : List Shape) (kind : Kind) (o : Option NodeId) → MissesAt shapes (use_of kind) o → rule_of kind ≡ targets
misses_rule shapes kind None h = absurd h
misses_rule shapes kind (Some id) h = target_rule shapes kind id h

-- a node that can break the rule
record Ruled (shapes : List Shape) (id : NodeId) (rule : Rule) : Type 0 where
  node : Shape
  is : slice_get shapes id.0 ≡ Some node
  rule_is : rule_of node.label.kind ≡ rule

-- a binding's node declares
abbrev Declared : List Shape → Binding → Type 0
Declared shapes b = Ruled shapes b.node names

each_own : (shapes : List Shape) (id : NodeId) (name : Option StrId) (fixed : Bool) → Ruled shapes id names → Each (Declared shapes) (own id name fixed)
each_own shapes id None fixed r = tt
each_own shapes id (Some n) fixed r = (r, tt)

each_decl : (shapes : List Shape) (fixed : Bool) (id : NodeId) → Each (Declared shapes) (decl_binding shapes fixed id)
each_decl shapes fixed id = go (slice_get shapes id.0) refl
  where
    at : (node : Shape) → slice_get shapes id.0 ≡ Some node → (b : Bool) → is_decl node.label.kind ≡ b → Each (Declared shapes) (if b then own id node.label.name fixed else [])
    at node e true d = each_own shapes id node.label.name fixed (record { node = node; is = e; rule_is = decl_rule node.label.kind d })
    at node e false d = tt

    go : (o : Option Shape) → slice_get shapes id.0 ≡ o → Each (Declared shapes) (decl_of fixed id o)
    go None e = tt
    go (Some node) e = at node e (is_decl node.label.kind) refl

each_bound : (shapes : List Shape) (id : NodeId) → Each (Declared shapes) (bound_by shapes id)
each_bound shapes id = go (slice_get shapes id.0) refl
  where
    at : (node : Shape) → slice_get shapes id.0 ≡ Some node → (d : Declares) → declares_of node.label.kind ≡ d → Each (Declared shapes) (bound_as shapes id node d)
    at node e Itself h = each_own shapes id node.label.name false (record { node = node; is = e; rule_is = itself_rule node.label.kind h })
    at node e (Decls fixed) h = each_flat_map (Declared shapes) (decl_binding shapes fixed) (each_decl shapes fixed) node.children
    at node e Nothing h = tt

    go : (o : Option Shape) → slice_get shapes id.0 ≡ o → Each (Declared shapes) (bound_at shapes id o)
    go None e = tt
    go (Some node) e = at node e (declares_of node.label.kind) refl

each_binding : (shapes : List Shape) (parts : List NodeId) → Each (Declared shapes) (bindings_of shapes parts)
each_binding shapes parts = each_flat_map (Declared shapes) (bound_by shapes) (each_bound shapes) parts

each_in_block : (shapes : List Shape) (o : Option NodeId) → Each (Declared shapes) (in_block shapes o)
each_in_block shapes (Some block) = each_binding shapes (parts_in (slice_get shapes block.0))
each_in_block shapes None = tt

each_together : (shapes : List Shape) (node : Shape) → Each (Declared shapes) (together shapes node)
each_together shapes node = each_append (Declared shapes) (bindings_of shapes node.children) (in_block shapes (catch_block node)) (each_binding shapes node.children) (each_in_block shapes (catch_block node))

twice_ruled : (shapes : List Shape) (id : NodeId) → IsTwice shapes id → Ruled shapes id names
twice_ruled shapes id t =
    let r = t.repeats in
    subst (λ x. Ruled shapes x names) r.of_node (each_at (Declared shapes) (together shapes t.node) r.second r.later (each_together shapes t.node) r.later_is)

stray_ruled : (shapes : List Shape) (id : NodeId) → IsStray shapes id → Ruled shapes id jumps
stray_ruled shapes id t = record { node = t.node; is = t.is; rule_is = jump_rule shapes id t.node.label.kind t.strays }

target_ruled : (shapes : List Shape) (id : NodeId) → IsBadTarget shapes id → Ruled shapes id targets
target_ruled shapes id t = record { node = t.node; is = t.is; rule_is = misses_rule shapes t.node.label.kind (operand_of t.node.label.kind t.node.children) t.misses }

-- two rules at one place are one
one_rule : {shapes : List Shape} {a b : NodeId} {r q : Rule} → Ruled shapes a r → Ruled shapes b q → a.0 ≡ b.0 → r ≡ q
one_rule {shapes = shapes} {a = a} {b = b} x y e =
    let place : slice_get shapes a.0 ≡ slice_get shapes b.0 = ap (slice_get shapes) e in
    let node_is : x.node ≡ y.node = let h = x.is in let g = y.is in cc in
    let kind_is = ap (λ (n : Shape). rule_of n.label.kind) node_is in
    let h = x.rule_is in
    let g = y.rule_is in
    cc

same_id : (a b : NodeId) → a.0 ≡ b.0 → a ≡ b
same_id a b e = ap (λ (n : ℕ). made n) e
  where
    made : ℕ → NodeId
    made n = record { 0 = n }

pub same_fault : (shapes : List Shape) (e f : NameFault) → Breaks shapes e → Breaks shapes f → fault_place e ≡ fault_place f → e ≡ f
same_fault shapes (Twice a) (Twice b) x y h = ap Twice (same_id a b h)
same_fault shapes (Stray a) (Stray b) x y h = ap Stray (same_id a b h)
same_fault shapes (BadTarget a) (BadTarget b) x y h = ap BadTarget (same_id a b h)
same_fault shapes (Twice a) (Stray b) x y h = let r = one_rule (twice_ruled shapes a x) (stray_ruled shapes b y) h in cc
same_fault shapes (Twice a) (BadTarget b) x y h = let r = one_rule (twice_ruled shapes a x) (target_ruled shapes b y) h in cc
same_fault shapes (Stray a) (Twice b) x y h = let r = one_rule (stray_ruled shapes a x) (twice_ruled shapes b y) h in cc
same_fault shapes (Stray a) (BadTarget b) x y h = let r = one_rule (stray_ruled shapes a x) (target_ruled shapes b y) h in cc
same_fault shapes (BadTarget a) (Twice b) x y h = let r = one_rule (target_ruled shapes a x) (twice_ruled shapes b y) h in cc
same_fault shapes (BadTarget a) (Stray b) x y h = let r = one_rule (target_ruled shapes a x) (stray_ruled shapes b y) h in cc
same_fault shapes NoMemory f x y h = absurd x
same_fault shapes e NoMemory x y h = absurd y

pub one_least_fault : (shapes : List Shape) (e f : NameFault) → IsLeast shapes e → IsLeast shapes f → e ≡ f
one_least_fault shapes e f x y =
    let a : fault_place e ≤ fault_place f = x.least f y.broken in
    let b : fault_place f ≤ fault_place e = y.least e x.broken in
    same_fault shapes e f x.broken y.broken (omega arith)

-- the first of the nodes that break the rules is the least fault

abbrev TwiceOnly : List Shape → NameFault → Type 0
TwiceOnly shapes (Twice id) = IsTwice shapes id
TwiceOnly shapes _ = ⊥

abbrev StrayOnly : List Shape → NameFault → Type 0
StrayOnly shapes (Stray id) = IsStray shapes id
StrayOnly shapes _ = ⊥

abbrev TargetOnly : List Shape → NameFault → Type 0
TargetOnly shapes (BadTarget id) = IsBadTarget shapes id
TargetOnly shapes _ = ⊥

first_twice : (shapes : List Shape) (o : Option NodeId) → IsFirst (λ id. id.0) (IsTwice shapes) o → IsFirst fault_place (TwiceOnly shapes) (option_map Twice o)
first_twice shapes None h = each
  where
    each : (f : NameFault) → TwiceOnly shapes f → ⊥
    each (Twice id) t = h id t
    each (Stray id) t = t
    each (BadTarget id) t = t
    each NoMemory t = t
first_twice shapes (Some x) h = (h.0, each)
  where
    each : (f : NameFault) → TwiceOnly shapes f → x.0 ≤ fault_place f
    each (Twice id) t = h.1 id t
    each (Stray id) t = absurd t
    each (BadTarget id) t = absurd t
    each NoMemory t = absurd t

first_stray : (shapes : List Shape) (o : Option NodeId) → IsFirst (λ id. id.0) (IsStray shapes) o → IsFirst fault_place (StrayOnly shapes) (option_map Stray o)
first_stray shapes None h = each
  where
    each : (f : NameFault) → StrayOnly shapes f → ⊥
    each (Stray id) t = h id t
    each (Twice id) t = t
    each (BadTarget id) t = t
    each NoMemory t = t
first_stray shapes (Some x) h = (h.0, each)
  where
    each : (f : NameFault) → StrayOnly shapes f → x.0 ≤ fault_place f
    each (Stray id) t = h.1 id t
    each (Twice id) t = absurd t
    each (BadTarget id) t = absurd t
    each NoMemory t = absurd t

first_target : (shapes : List Shape) (o : Option NodeId) → IsFirst (λ id. id.0) (IsBadTarget shapes) o → IsFirst fault_place (TargetOnly shapes) (option_map BadTarget o)
first_target shapes None h = each
  where
    each : (f : NameFault) → TargetOnly shapes f → ⊥
    each (BadTarget id) t = h id t
    each (Stray id) t = t
    each (Twice id) t = t
    each NoMemory t = t
first_target shapes (Some x) h = (h.0, each)
  where
    each : (f : NameFault) → TargetOnly shapes f → x.0 ≤ fault_place f
    each (BadTarget id) t = h.1 id t
    each (Stray id) t = absurd t
    each (Twice id) t = absurd t
    each NoMemory t = absurd t

abbrev Either : List Shape → NameFault → Type 0
Either shapes f = TwiceOnly shapes f ⊎ StrayOnly shapes f

from_target : (shapes : List Shape) (f : NameFault) → TargetOnly shapes f → Breaks shapes f
from_target shapes (BadTarget id) t = t
from_target shapes (Twice id) t = absurd t
from_target shapes (Stray id) t = absurd t
from_target shapes NoMemory t = t

from_either : (shapes : List Shape) (f : NameFault) → Either shapes f → Breaks shapes f
from_either shapes (Twice id) t = ⊎_elim (λ h. h) absurd t
from_either shapes (Stray id) t = ⊎_elim absurd (λ h. h) t
from_either shapes (BadTarget id) t = ⊎_elim absurd absurd t
from_either shapes NoMemory t = ⊎_elim absurd absurd t

to_one : (shapes : List Shape) (f : NameFault) → Breaks shapes f → Either shapes f ⊎ TargetOnly shapes f
to_one shapes (Twice id) t = inl (inl t)
to_one shapes (Stray id) t = inl (inr t)
to_one shapes (BadTarget id) t = inr t
to_one shapes NoMemory t = absurd t

pub first_of_all : (shapes : List Shape) (a b c : Option NodeId) → IsFirst (λ id. id.0) (IsTwice shapes) a → IsFirst (λ id. id.0) (IsStray shapes) b → IsFirst (λ id. id.0) (IsBadTarget shapes) c → IsFirst fault_place (Breaks shapes) (first_fault_of a b c)
first_of_all shapes a b c x y z =
    first_or fault_place (Either shapes) (TargetOnly shapes) (Breaks shapes) (sooner fault_place (option_map Twice a) (option_map Stray b)) (option_map BadTarget c) (from_either shapes) (from_target shapes) (to_one shapes)
    (first_or fault_place (TwiceOnly shapes) (StrayOnly shapes) (Either shapes) (option_map Twice a) (option_map Stray b) (λ f. inl) (λ f. inr) (λ f h. h) (first_twice shapes a x) (first_stray shapes b y))
    (first_target shapes c z)

pub right_from_first : (shapes : List Shape) (o : Option NameFault) → IsFirst fault_place (Breaks shapes) o → o ≡ None → IsRight shapes
right_from_first shapes None h e = h
right_from_first shapes (Some f) h e = cc

pub least_from_first : (shapes : List Shape) (o : Option NameFault) (f : NameFault) → IsFirst fault_place (Breaks shapes) o → o ≡ Some f → IsLeast shapes f
least_from_first shapes None f h e = cc
least_from_first shapes (Some g) f h e =
    let same : g ≡ f = cc in
    subst (IsLeast shapes) same (record { broken = h.0; least = h.1 })

-- what `Option::map` gives
pub mapped : {A B : Type 0} (f : A → B) (o : Option A) (r : Option B) → MatchOption o (r ≡ None) (λ x. IsSomeAnd r (λ y. y ≡ f x)) → r ≡ option_map f o
mapped f None r h = h
mapped f (Some x) None h = absurd h
mapped f (Some x) (Some y) h = ap Some h

-- what breaks a rule is a node
pub fault_within : (shapes : List Shape) (f : NameFault) → Breaks shapes f → fault_place f < length shapes
fault_within shapes (Twice id) b = let r = twice_ruled shapes id b in slice_get_within shapes id.0 r.node r.is
fault_within shapes (Stray id) b = slice_get_within shapes id.0 b.node b.is
fault_within shapes (BadTarget id) b = slice_get_within shapes id.0 b.node b.is
fault_within shapes NoMemory b = absurd b
