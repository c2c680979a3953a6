use Rattle.std.proofs.Common.{subst, sym, ◌∙◌}
use Rattle.mb_check.specs.declared.verdict.Verdict.{Verdict}
use Rattle.mb_frames.specs.Passing.{Part}
use Rattle.mb_frames.specs.Sorts.{AnObject}
use Rattle.mb_model.specs.Meaning.{finished}
use Rattle.mb_model.specs.Objects.Proxies.{judge}
use Rattle.mb_model.specs.Task.{Value}
use Rattle.mb_scriptproxy.proofs.Verdicts.{construct-same, passes-object}
use Rattle.mb_scriptproxy.proofs.said.construct_said.Goals as goal
use Rattle.mb_world.specs.Image.{Resolve, names_of}

pub judged-requires : goal.judged-requires
judged-requires c = record { acts = c.requires.acts }

pub returns-clause-part : goal.returns-clause-part
returns-clause-part c = λ f.
    let d = c.args.w.now in
    let n = names_of d in
    subst (λ (z : Verdict). Part c.args.home c.judged.result d c.judged.new.w f f
    (judge c.args.home.0 z (Value (Resolve n c.args.said)) finished))
    (c.construct.ensures ∙ sym (construct-same n c.args.said)) (c.judged.ensures.part f)

pub returns-clause-keeps : goal.returns-clause-keeps
returns-clause-keeps c =
    c.judged.ensures.keeps AnObject (λ e. passes-object c.args.said (sym c.construct.ensures ∙ e))
