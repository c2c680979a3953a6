use Rattle.std.proofs.Common.{sym, subst, true, ◌∙◌}
use Rattle.mb_check.specs.declared.verdict.Verdict.{Verdict}
use Rattle.mb_frames.specs.Passing.{Part}
use Rattle.mb_frames.specs.Sorts.{AFlag}
use Rattle.mb_model.specs.Meaning.{finished}
use Rattle.mb_model.specs.Objects.Proxies.{judge}
use Rattle.mb_model.specs.Task.{Flag}
use Rattle.mb_scriptproxy.proofs.Verdicts.{define-same}
use Rattle.mb_scriptproxy.proofs.properties.define_extensible.Goals as goal

pub define-requires : goal.define-requires
define-requires c = c.requires.acts.holds.0.sound.0

pub judged-requires : goal.judged-requires
judged-requires c =
    let d = c.args.w.now in
    let a = c.requires.acts in
    let h = a.holds in
    record { acts = record { ready = a.ready; side = a.side; holds = tt } }

pub returns-clause-part : goal.returns-clause-part
returns-clause-part c = λ f.
    let d = c.args.w.now in
    let home = c.args.home in
    let h = c.requires.acts.holds in
    subst (λ (z : Verdict). Part home c.judged.result d c.judged.new.w f f
    (judge home.0 z (Flag true) finished))
    (c.define.ensures
    ∙ sym (define-same d c.texts-texts.ensures.distinct c.requires.acts.ready home c.args.given c.args.real
    c.args.extensible h.0 h.1.0))
    (c.judged.ensures.part f)

pub returns-clause-keeps : goal.returns-clause-keeps
returns-clause-keeps c = c.judged.ensures.keeps AFlag (λ e. tt)
