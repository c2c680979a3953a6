-- The right script's tree breaks no rule.
use Rattle.std.proofs.Common.{◌≡◌, ℕ, ◌<◌, List, [], ◌∷◌, zero, suc, Some, None, Option, slice_get, refl, sym, ap, subst, ◌∙◌, arith}
use Rattle.mb_base.specs.declared.value.NodeId.{NodeId}
use Rattle.mb_base.specs.declared.value.StrId.{StrId}
use Rattle.mb_tree.specs.declared.kind.Kind.TheVariants as k
use Rattle.mb_tree.specs.Roses.{Rose, node, bare, Shape, write}
use Rattle.mb_scope.specs.declared.binding.Binding.{Binding}
use Rattle.mb_scope.specs.declared.jump.Jump.TheVariants as jump
use Rattle.mb_scope.specs.declared.target.Use.TheVariants as usage
use Rattle.mb_scope.specs.declared.fault.NameFault.TheVariants.{Twice, Stray, BadTarget, NoMemory}
use Rattle.mb_scope.specs.Kinds.{jump_of, use_of, operand_of}
use Rattle.mb_scope.specs.Bindings.{together, Repeats}
use Rattle.mb_scope.specs.Jumps.{Strays}
use Rattle.mb_scope.specs.Targets.{MissesAt, MissesFirst, simple}
use Rattle.mb_scope.specs.Faults.{IsRight}
use Rattle.mb_load_tree.proofs.Lines.{id}
use Rattle.mb_load_tree.proofs.RightTree.{right_trees}

abbrev pub right_tree : Rose
right_tree = node (bare k.Script) right_trees

abbrev nodes : List Shape
nodes = write [] right_tree

-- no name is bound a second time in this node's scope, it doesn't leave, and its target is one
record IsFine (s : Shape) : Type 0 where
  once : (at : NodeId) → Repeats (together nodes s) at → ⊥
  stays : jump_of s.label.kind ≡ jump.Nothing
  aims : MissesFirst nodes s → ⊥

none_repeats : (at : NodeId) → Repeats [] at → ⊥
none_repeats at repeats = let is = repeats.earlier_is in cc

one_repeats : (b : Binding) (at : NodeId) → Repeats (b ∷ []) at → ⊥
one_repeats b at repeats = by repeats.first repeats.second repeats.in_order repeats.later_is
  where
    by : (i j : ℕ) → i < j → slice_get (b ∷ []) j ≡ Some repeats.later → ⊥
    by i zero order is = omega (arith, order)
    by i (suc j) order is = cc

two_repeats : (a b : Binding) (at : NodeId) → (a.name ≡ b.name → ⊥) → Repeats (a ∷ b ∷ []) at → ⊥
two_repeats a b at differ repeats = by repeats.first repeats.second repeats.in_order repeats.earlier_is repeats.later_is
  where
    by : (i j : ℕ) → i < j → slice_get (a ∷ b ∷ []) i ≡ Some repeats.earlier → slice_get (a ∷ b ∷ []) j ≡ Some repeats.later → ⊥
    by i zero order is also = omega (arith, order)
    by zero (suc zero) order is also =
        let first : a ≡ repeats.earlier = cc in
        let second : b ≡ repeats.later = cc in
        differ (ap (λ (x : Binding). x.name) first ∙ repeats.one_name ∙ sym (ap (λ (x : Binding). x.name) second))
    by (suc i) (suc zero) order is also = omega (arith, order)
    by i (suc (suc j)) order is also = cc

reads_nothing : (o : Option NodeId) → MissesAt nodes usage.Plain o → ⊥
reads_nothing None m = m
reads_nothing (Some operand) m = m

fine : (s : Shape) → together nodes s ≡ [] → jump_of s.label.kind ≡ jump.Nothing → use_of s.label.kind ≡ usage.Plain → IsFine s
fine s empty jumps uses = record {
  once = λ at repeats. none_repeats at (subst (λ bs. Repeats bs at) empty repeats);
  stays = jumps;
  aims = λ m. reads_nothing (operand_of s.label.kind s.children) (subst (λ u. MissesAt nodes u (operand_of s.label.kind s.children)) uses m);
}

abbrev AllFine : List Shape → Type 0
AllFine [] = Unit {0}
AllFine (s ∷ rest) = IsFine s × AllFine rest

fine_at : (shapes : List Shape) (i : ℕ) (s : Shape) → AllFine shapes → slice_get shapes i ≡ Some s → IsFine s
fine_at [] i s all is = cc
fine_at (x ∷ shapes) zero s all is = let same : x ≡ s = cc in subst IsFine same all.0
fine_at (x ∷ shapes) (suc i) s all is = fine_at shapes i s all.1 is

differ : (a b : ℕ) → (a ≡ b → ⊥) → id a ≡ id b → ⊥
differ a b not e = not (ap (λ (x : StrId). x.0) e)

all_fine : AllFine nodes
all_fine = (
  fine _ refl refl refl,
  (
    fine _ refl refl refl,
    (
      fine _ refl refl refl,
      (
        fine _ refl refl refl,
        (
          fine _ refl refl refl,
          (
            fine _ refl refl refl,
            (
              fine _ refl refl refl,
              (
                fine _ refl refl refl,
                (
                  fine _ refl refl refl,
                  (
                    fine _ refl refl refl,
                    (
                      fine _ refl refl refl,
                      (
                        fine _ refl refl refl,
                        (
                          fine _ refl refl refl,
                          (
                            fine _ refl refl refl,
                            (
                              fine _ refl refl refl,
                              (
                                fine _ refl refl refl,
                                (
                                  fine _ refl refl refl,
                                  (
                                    fine _ refl refl refl,
                                    (
                                      fine _ refl refl refl,
                                      (
                                        fine _ refl refl refl,
                                        (
                                          fine _ refl refl refl,
                                          (
                                            record { once = none_repeats; stays = refl; aims = λ m. m (simple (record { is = refl }) refl) },
                                            (
                                              fine _ refl refl refl,
                                              (
                                                record { once = λ at repeats. two_repeats _ _ at (differ 4 5 (λ e. omega (arith, e))) repeats; stays = refl; aims = λ m. m },
                                                (
                                                  fine _ refl refl refl,
                                                  (
                                                    fine _ refl refl refl,
                                                    (
                                                      fine _ refl refl refl,
                                                      (
                                                        fine _ refl refl refl,
                                                        (
                                                          fine _ refl refl refl,
                                                          (
                                                            fine _ refl refl refl,
                                                            (
                                                              record { once = λ at repeats. one_repeats _ at repeats; stays = refl; aims = λ m. m },
                                                              tt,
                                                            ),
                                                          ),
                                                        ),
                                                      ),
                                                    ),
                                                  ),
                                                ),
                                              ),
                                            ),
                                          ),
                                        ),
                                      ),
                                    ),
                                  ),
                                ),
                              ),
                            ),
                          ),
                        ),
                      ),
                    ),
                  ),
                ),
              ),
            ),
          ),
        ),
      ),
    ),
  ),
)

pub right_right : IsRight nodes
right_right (Twice at) broken = (fine_at nodes broken.scope.0 broken.node all_fine broken.is).once at broken.repeats
right_right (Stray at) broken = subst (Strays nodes at) (fine_at nodes at.0 broken.node all_fine broken.is).stays broken.strays
right_right (BadTarget at) broken = (fine_at nodes at.0 broken.node all_fine broken.is).aims broken.misses
right_right NoMemory broken = broken
