use Rattle.std.proofs.Common.{subst}
use Rattle.mb_check.specs.declared.verdict.Verdict.{Verdict}
use Rattle.mb_frames.specs.Passing.{Part}
use Rattle.mb_frames.specs.Sorts.{AFlag}
use Rattle.mb_model.specs.Meaning.{finished}
use Rattle.mb_model.specs.Objects.Proxies.{judge}
use Rattle.mb_model.specs.Task.{Flag}
use Rattle.mb_scriptproxy.proofs.extensions.extensible_read.Goals as goal

pub returns-clause-part : goal.returns-clause-part
returns-clause-part c = λ f.
    subst (λ (z : Verdict). Part c.args.home c.judged.result c.args.w.now c.judged.new.w f f
    (judge c.args.home.0 z (Flag c.args.said) finished)) c.is_extensible.ensures (c.judged.ensures.part f)

pub returns-clause-keeps : goal.returns-clause-keeps
returns-clause-keeps c = c.judged.ensures.keeps AFlag (λ e. tt)
