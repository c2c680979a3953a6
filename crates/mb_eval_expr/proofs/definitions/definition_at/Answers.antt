use Rattle.std.proofs.Common.{false, subst, ◌≡◌, Option}
use Rattle.std.specs.Prelude.{IfSome}
use Rattle.mb_eval_expr.specs.machine.Literals.{IsProp}
use Rattle.mb_frames.specs.Kinds.{is_prop_form}
use Rattle.mb_world.specs.Form.{Form}
use Rattle.mb_eval_expr.proofs.definitions.definition_at.Goals as goal

pub returns-in-Some-clause-prop : goal.returns-in-Some-clause-prop
returns-in-Some-clause-prop c =
    subst (λ (o : Option Form). IfSome c.definition_of.result (λ p. IsProp c.args.w.now o p.0 p.1))
    c.in-Some.ensures.form
    (c.definition_of.ensures.prop c.args.home c.args.w.now)

pub returns-in-Some-clause-none : goal.returns-in-Some-clause-none
returns-in-Some-clause-none c = λ n.
    subst (λ (o : Option Form). is_prop_form o ≡ false) c.in-Some.ensures.form
    (c.definition_of.ensures.none n c.args.home c.args.w.now)

pub returns-in-Some-clause-names : goal.returns-in-Some-clause-names
returns-in-Some-clause-names c = c.definition_of.ensures.names c.args.w.now c.in-Some.ensures.texts

pub returns-in-Some-clause-nodes : goal.returns-in-Some-clause-nodes
returns-in-Some-clause-nodes c = c.definition_of.ensures.nodes c.args.home c.args.w.now c.in-Some.ensures.parts
