use Rattle.std.proofs.Common.{Ok, refl, ◌∙◌}
use Rattle.mb_frames.proofs.Keeping.{keeps-same}
use Rattle.mb_frames.proofs.Linking.{fits-same}
use Rattle.mb_frames.proofs.Passed.{Part-sure}
use Rattle.mb_frames.specs.Sorts.{absent_gives}
use Rattle.mb_frames.specs.declared.proxies.ProxyFrame.TheVariants as p
use Rattle.mb_frames.specs.declared.task.Method.TheVariants as m
use Rattle.mb_scriptproxy.proofs.Absences.{Part-broken, found-asks}
use Rattle.mb_scriptproxy.proofs.Asking.{leaves-asks}
use Rattle.mb_scriptproxy.proofs.absent.absent_found.Goals as goal
use Rattle.mb_world.specs.Image.{names_of}

pub returns-in-Pass-clause-part : goal.returns-in-Pass-clause-part
returns-in-Pass-clause-part c = λ f.
    let d = c.args.w.now in
    rw c.asks.ensures
    (Part-sure c.args.home d f _ _
    (found-asks c.args.home d c.args.target c.args.absent c.args.real c.requires.acts.holds
    (c.absent_verdict.ensures (names_of d) ∙ c.in-Pass.is)))

pub returns-in-Pass-clause-keeps : goal.returns-in-Pass-clause-keeps
returns-in-Pass-clause-keeps c =
    let d = c.args.w.now in
    let home = c.args.home in
    let h = c.requires.acts.holds in
    let wanted = absent_gives c.args.absent in
    rw c.asks.ensures
    (keeps-same home wanted (Ok _) d c.requires.acts.ready
    (leaves-asks home d (p.AbsentExtensible c.args.real c.args.absent) m.IsExtensible c.args.target h.1 (h.0, tt) wanted
    refl (fits-same wanted)))

pub returns-in-Broken-clause-part : goal.returns-in-Broken-clause-part
returns-in-Broken-clause-part c = λ f.
    Part-broken c.args.home c.type_error.result c.args.w.now c.type_error.new.w f c.args.target c.args.absent
    c.args.real _ (c.absent_verdict.ensures (names_of c.args.w.now) ∙ c.in-Broken.is) (c.type_error.ensures.part f)

pub returns-in-Broken-clause-keeps : goal.returns-in-Broken-clause-keeps
returns-in-Broken-clause-keeps c = c.type_error.ensures.keeps (absent_gives c.args.absent)
