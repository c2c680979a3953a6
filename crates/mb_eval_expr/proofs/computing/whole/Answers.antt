use Rattle.std.proofs.Common.{Ok, ap, false, subst, sym, true, ◌∙◌, ◌≡◌, ℤ, to_z, of_z, w64}
use Rattle.mb_base.specs.declared.value.Value.TheVariants as v
use Rattle.mb_eval_expr.proofs.Keeping.{range-whole}
use Rattle.mb_eval_expr.proofs.Arithmetic.{back, whole-far, whole-near, whole-none}
use Rattle.mb_eval_expr.specs.declared.computing.Computed.TheVariants as c
use Rattle.mb_eval_expr.specs.machine.Computing.{Computes}
use Rattle.mb_model.specs.Operations.Conversions.{in_range, whole}
use Rattle.mb_model.specs.Writing.{◌>>=◌, is_value}
use Rattle.mb_eval_expr.proofs.computing.whole.Goals as goal

pub returns-then-is_in_range-clause-row : goal.returns-then-is_in_range-clause-row
returns-then-is_in_range-clause-row g = λ home d f z h.
    let k = rw g.in-Some.is at h in
    let q : z ≡ to_z w64 (of_z w64 g.in-Some.z) = back z g.in-Some.z k.0 k.1 in
    let i : in_range z ≡ true = ap in_range q ∙ sym g.is_in_range.ensures ∙ g.if-is_in_range.true in
    subst (λ (y : ℤ). Computes (Ok (c.Value (v.Whole y))) home d d f f (whole home z >>= is_value)) q
    (whole-near home d f z i)

pub returns-else-is_in_range-clause-row : goal.returns-else-is_in_range-clause-row
returns-else-is_in_range-clause-row g = λ home d f z h.
    let k = rw g.in-Some.is at h in
    let q : z ≡ to_z w64 (of_z w64 g.in-Some.z) = back z g.in-Some.z k.0 k.1 in
    let i : in_range z ≡ false = ap in_range q ∙ sym g.is_in_range.ensures ∙ g.if-is_in_range.false in
    whole-far home d f z i

pub returns-in-None-clause-row : goal.returns-in-None-clause-row
returns-in-None-clause-row g = λ home d f z h. whole-none home d f z (rw g.in-None.is at h)

pub returns-then-is_in_range-clause-plain : goal.returns-then-is_in_range-clause-plain
returns-then-is_in_range-clause-plain g = range-whole (to_z w64 (of_z w64 g.in-Some.z))
    (sym g.is_in_range.ensures ∙ g.if-is_in_range.true)
