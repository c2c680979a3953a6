use Rattle.std.proofs.Common.{of_z, pos, rules, to_z, true, w64, ◌-ℤ◌, ◌≡◌}
use Rattle.std.proofs.lemmas.Int.{to_z-of_z}
use Rattle.mb_eval_expr.proofs.Keeping.{fits-whole, neg-whole}
use Rattle.mb_eval_expr.proofs.Arithmetic.{no-whole, wrong-type}
use Rattle.mb_model.specs.Writing.{is_value}
use Rattle.mb_world.specs.Formed.{is_whole}
use Rattle.mb_world.specs.Image.{Resolve, names_of}
use Rattle.mb_world.specs.Value.{Whole, whole_of}
use Rattle.std.specs.Prelude.{neg_ℤ}
use Rattle.mb_eval_expr.proofs.computing.negated.Goals as goal

pub returns-in_default-clause-row : goal.returns-in_default-clause-row
returns-in_default-clause-row c = λ home d f h.
    wrong-type home d f (whole_of (Resolve (names_of d) c.args.x)) (λ z. is_value (Whole (neg_ℤ z)))
    (no-whole (names_of d) c.args.x c.in_default.not-Whole)

pub returns-in-Whole-clause-plain : goal.returns-in-Whole-clause-plain
returns-in-Whole-clause-plain c =
    let z = c.in-Whole.z in
    let h : is_whole (pos 0 -ℤ z) ≡ true = neg-whole z (rw c.in-Whole.is at c.requires) in
    let r : to_z w64 (of_z w64 z) ≡ z = search rules in
    let s : to_z w64 (of_z w64 (pos 0 -ℤ z)) ≡ pos 0 -ℤ z
    = to_z-of_z w64 (pos 0 -ℤ z) (record { sfits = fits-whole (pos 0 -ℤ z) h }) in
    rw (r, s) h
