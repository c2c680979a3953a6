use Rattle.std.proofs.Common.{ap, refl, sym, true≢false, ◌∙◌, ◌≡◌}
use Rattle.std.proofs.lemmas.Bool.{eq-eqb, eqb-true}
use Rattle.mb_base.specs.declared.value.ObjId.{ObjId}
use Rattle.mb_eval_expr.proofs.Operating.{Step-onward, Sure-null, Sure-same, null-is}
use Rattle.mb_frames.proofs.HeldLess.{value-object}
use Rattle.mb_eval_expr.proofs.operators.chain_got.Goals as goal

pub returns-then-eq-clause-row : goal.returns-then-eq-clause-row
returns-then-eq-clause-row c = λ home d f l o h a.
    let i : c.in-Object.object.0 ≡ c.args.prototype.0 = eqb-true c.in-Object.object.0 c.args.prototype.0
    (sym c.eq.ensures ∙ c.if-eq.true) in
    let e : c.in-Object.object ≡ c.args.prototype = ap (λ n. let id : ObjId = record { 0 = n } in id) i in
    rw c.in-Object.is (Sure-same home d c.args.prototype c.in-Object.object c.truth_value.result e
    (c.truth_value.ensures.row home d) f l)

pub returns-else-eq-clause-row : goal.returns-else-eq-clause-row
returns-else-eq-clause-row c = λ home d f l o h a.
    rw c.in-Object.is (Step-onward home d c.args.prototype c.in-Object.object
    (λ q.
    let e : c.in-Object.object ≡ c.args.prototype = a c.in-Object.object c.args.prototype c.in-Object.is refl q in
    true≢false (sym (eq-eqb c.in-Object.object.0 c.args.prototype.0 (ap (λ (x : ObjId). x.0) e)) ∙ sym c.eq.ensures
    ∙ c.if-eq.false))
    (rw c.in-Object.is at h) o f l)

pub returns-in_default-clause-row : goal.returns-in_default-clause-row
returns-in_default-clause-row c = λ home d f l o h a.
    rw (null-is c.args.x c.requires c.in_default.not-Object)
    (Sure-null home d c.args.prototype c.truth_value-in_default.result
    (c.truth_value-in_default.ensures.row home d) f l)

pub returns-then-eq-clause-leaves : goal.returns-then-eq-clause-leaves
returns-then-eq-clause-leaves c = λ home d r i h. c.truth_value.ensures.leaves home d r i tt

pub returns-else-eq-clause-leaves : goal.returns-else-eq-clause-leaves
returns-else-eq-clause-leaves c = λ home d r i h. record {
  holds = (value-object d home c.in-Object.object (rw c.in-Object.is at h.0), (h.1.0, tt));
  fit = tt;
  gives = refl;
}

pub returns-in_default-clause-leaves : goal.returns-in_default-clause-leaves
returns-in_default-clause-leaves c = λ home d r i h. c.truth_value-in_default.ensures.leaves home d r i tt
