use Rattle.std.proofs.Common.{◌+◌, ◌-◌, Some, ap, arith, slice_get, subst, suc, sym, ℕ, ◌∙◌, ◌≡◌}
use Rattle.mb_eval_expr.proofs.Targeting.{Gone-end, Gone-last, Gone-more, layers-group, layers-other, layers-past}
use Rattle.mb_frames.specs.Told.{told_at}
use Rattle.mb_eval_expr.specs.machine.Targets.{layers_at, targeted}
use Rattle.mb_frames.specs.Standing.{forms_at}
use Rattle.mb_model.specs.Nodes.References.{layers_from}
use Rattle.mb_tree.specs.Seen.{seen}
use Rattle.mb_tree.specs.declared.form.Form.{Form as Given}
use Rattle.mb_world.specs.Form.{GroupForm}
use Rattle.mb_eval_expr.proofs.targets.strip.Goals as goal

pub loop-step-preserved : goal.loop-step-preserved
loop-step-preserved c =
    let d = c.args.w.now in
    let fs = forms_at d c.args.home in
    let m : ℕ = c.count-step-end.result - (c.loop-step.step + 1) in
    let k : c.count-step-end.result - c.loop-step.step ≡ suc m = omega arith in
    let e : slice_get fs c.loop-step.at.0 ≡ Some (GroupForm c.in-Group.inner.0)
    = sym c.in-Some.ensures.form ∙ ap (λ (x : Given). Some (told_at d c.args.home (seen x))) c.in-Group.is in
    record {
      gone = Gone-more (layers_at d c.args.home c.args.node.0) c.loop-step.step c.in-Group.inner.0
          (layers_from (c.count-step-end.result - c.loop-step.step) fs c.loop-step.at.0)
          (layers_from m fs c.in-Group.inner.0)
          c.loop-step.invariant.gone
          (ap (λ j. layers_from j fs c.loop-step.at.0) k ∙ layers-group fs m c.loop-step.at.0 c.in-Group.inner.0 e);
      all = c.loop-step.invariant.all;
    }

pub returns-in_default : goal.returns-in_default
returns-in_default c =
    let d = c.args.w.now in
    let fs = forms_at d c.args.home in
    let m : ℕ = c.count-step-end.result - (c.loop-step.step + 1) in
    let k : c.count-step-end.result - c.loop-step.step ≡ suc m = omega arith in
    let q = Gone-last (layers_at d c.args.home c.args.node.0) c.loop-step.step
    (layers_from (c.count-step-end.result - c.loop-step.step) fs c.loop-step.at.0)
    (told_at d c.args.home (seen c.in-Some.form))
    c.loop-step.invariant.gone
    (ap (λ j. layers_from j fs c.loop-step.at.0) k
    ∙ layers-other d c.args.home c.in-Some.form fs m c.loop-step.at.0 (sym c.in-Some.ensures.form)
    c.in_default.not-Group) in
    record {
      target = subst (targeted d c.target_of.result) (sym q.1) (c.target_of.ensures.target c.args.home d);
      nodes = sym q.0;
      within = c.target_of.ensures.within d c.in-Some.ensures.texts;
      held = c.target_of.ensures.nodes c.args.home d c.in-Some.ensures.parts c.in-Some.ensures.texts;
    }

pub returns-in-None-clause-target : goal.returns-in-None-clause-target
returns-in-None-clause-target c =
    let d = c.args.w.now in
    let fs = forms_at d c.args.home in
    let m : ℕ = c.count-step-end.result - (c.loop-step.step + 1) in
    let k : c.count-step-end.result - c.loop-step.step ≡ suc m = omega arith in
    (Gone-end (layers_at d c.args.home c.args.node.0) c.loop-step.step
    (layers_from (c.count-step-end.result - c.loop-step.step) fs c.loop-step.at.0) c.loop-step.invariant.gone
    (ap (λ j. layers_from j fs c.loop-step.at.0) k ∙ layers-past fs m c.loop-step.at.0 (sym c.in-None.ensures.form))).1

pub returns-in-None-clause-nodes : goal.returns-in-None-clause-nodes
returns-in-None-clause-nodes c =
    let d = c.args.w.now in
    let fs = forms_at d c.args.home in
    let m : ℕ = c.count-step-end.result - (c.loop-step.step + 1) in
    let k : c.count-step-end.result - c.loop-step.step ≡ suc m = omega arith in
    sym ((Gone-end (layers_at d c.args.home c.args.node.0) c.loop-step.step
    (layers_from (c.count-step-end.result - c.loop-step.step) fs c.loop-step.at.0) c.loop-step.invariant.gone
    (ap (λ j. layers_from j fs c.loop-step.at.0) k ∙ layers-past fs m c.loop-step.at.0 (sym c.in-None.ensures.form))).0)
