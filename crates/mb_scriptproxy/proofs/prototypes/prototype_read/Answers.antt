use Rattle.std.proofs.Common.{sym, subst, ◌∙◌}
use Rattle.mb_check.specs.declared.verdict.Verdict.{Verdict}
use Rattle.mb_frames.proofs.HeldLess.{prototype-value}
use Rattle.mb_frames.specs.Passing.{Part}
use Rattle.mb_frames.specs.Sorts.{APrototype}
use Rattle.mb_model.specs.Meaning.{finished}
use Rattle.mb_model.specs.Objects.Proxies.{judge}
use Rattle.mb_model.specs.Task.{Value}
use Rattle.mb_scriptproxy.proofs.Verdicts.{get-prototype-same}
use Rattle.mb_scriptproxy.proofs.prototypes.prototype_read.Goals as goal
use Rattle.mb_world.specs.Image.{Resolve, names_of}

pub judged-requires : goal.judged-requires
judged-requires c =
    let a = c.requires.acts in
    record {
      acts = record {
        ready = a.ready;
        side = a.side;
        holds = (prototype-value c.args.w.now c.args.home c.args.said a.holds.0, tt);
      };
    }

pub returns-clause-part : goal.returns-clause-part
returns-clause-part c = λ f.
    let d = c.args.w.now in
    let home = c.args.home in
    let h = c.requires.acts.holds in
    subst (λ (z : Verdict). Part home c.judged.result d c.judged.new.w f f
    (judge home.0 z (Value (Resolve (names_of d) c.args.said)) finished))
    (c.get_prototype.ensures
    ∙ sym (get-prototype-same d c.texts-texts.ensures.distinct c.requires.acts.ready home c.args.said c.args.real
    (prototype-value d home c.args.said h.0) h.1.0))
    (c.judged.ensures.part f)

pub returns-clause-keeps : goal.returns-clause-keeps
returns-clause-keeps c = c.judged.ensures.keeps APrototype (λ e. c.requires.acts.holds.0.sound)
