use Rattle.std.proofs.Common.{Some, sym, subst, ◌∙◌}
use Rattle.mb_check.specs.declared.verdict.Verdict.{Verdict}
use Rattle.mb_frames.proofs.HeldLess.{full-real}
use Rattle.mb_frames.specs.Passing.{Part}
use Rattle.mb_frames.specs.Sorts.{AProperty}
use Rattle.mb_model.specs.Meaning.{finished}
use Rattle.mb_model.specs.Objects.Proxies.{judge}
use Rattle.mb_model.specs.Task.{Prop}
use Rattle.mb_scriptproxy.proofs.Verdicts.{own-present-same}
use Rattle.mb_scriptproxy.proofs.properties.own_extensible.Goals as goal
use Rattle.mb_world.specs.Image.{full_in, names_of}

pub judged-requires : goal.judged-requires
judged-requires c =
    let d = c.args.w.now in
    let a = c.requires.acts in
    let h = a.holds in
    record { acts = record { ready = a.ready; side = a.side; holds = (full-real d c.args.home c.args.said h.0, tt) } }

pub returns-clause-part : goal.returns-clause-part
returns-clause-part c = λ f.
    let d = c.args.w.now in
    let home = c.args.home in
    let h = c.requires.acts.holds in
    subst (λ (z : Verdict). Part home c.judged.result d c.judged.new.w f f
    (judge home.0 z (Prop (Some (full_in (names_of d) c.args.said))) finished))
    (c.own_present-verdict.ensures
    ∙ sym (own-present-same d c.texts-texts.ensures.distinct c.requires.acts.ready home c.args.said c.args.real
    c.args.extensible h.0 h.1.0))
    (c.judged.ensures.part f)

pub returns-clause-keeps : goal.returns-clause-keeps
returns-clause-keeps c = c.judged.ensures.keeps AProperty (λ e. tt)
