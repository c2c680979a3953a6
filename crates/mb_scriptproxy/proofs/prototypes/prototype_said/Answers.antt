use Rattle.std.proofs.Common.{Ok, refl, sym, ◌∙◌}
use Rattle.mb_frames.proofs.Keeping.{keeps-same}
use Rattle.mb_frames.proofs.Passed.{Part-sure}
use Rattle.mb_frames.specs.Sorts.{APrototype}
use Rattle.mb_frames.specs.declared.proxies.ProxyFrame.TheVariants as p
use Rattle.mb_frames.specs.declared.task.Method.TheVariants as m
use Rattle.mb_scriptproxy.proofs.Asking.{leaves-asks}
use Rattle.mb_scriptproxy.proofs.PrototypeRows.{Part-no-prototype, said-held, said-prototype}
use Rattle.mb_scriptproxy.proofs.prototypes.prototype_said.Goals as goal

pub returns-then-not-is_prototype-clause-part : goal.returns-then-not-is_prototype-clause-part
returns-then-not-is_prototype-clause-part c = λ f.
    Part-no-prototype c.args.home c.type_error.result c.args.w.now c.type_error.new.w f c.args.target c.args.said
    (sym (c.is_prototype.ensures.is _) ∙ c.if-not-is_prototype.true) (c.type_error.ensures.part f)

pub returns-then-not-is_prototype-clause-keeps : goal.returns-then-not-is_prototype-clause-keeps
returns-then-not-is_prototype-clause-keeps c = c.type_error.ensures.keeps APrototype

pub returns-clause-part : goal.returns-clause-part
returns-clause-part c = λ f.
    let d = c.args.w.now in
    let h = c.requires.acts.holds in
    let k = said-held d c.args.home c.args.said h.1.0 (c.is_prototype.ensures.object c.if-not-is_prototype.false) in
    rw c.asks.ensures
    (Part-sure c.args.home d f _ _
    (said-prototype c.args.home d c.args.target c.args.said (h.0, (k, tt))
    (sym (c.is_prototype.ensures.is _) ∙ c.if-not-is_prototype.false)))

pub returns-clause-keeps : goal.returns-clause-keeps
returns-clause-keeps c =
    let d = c.args.w.now in
    let home = c.args.home in
    let h = c.requires.acts.holds in
    let k = said-held d home c.args.said h.1.0 (c.is_prototype.ensures.object c.if-not-is_prototype.false) in
    rw c.asks.ensures
    (keeps-same home APrototype (Ok _) d c.requires.acts.ready
    (leaves-asks home d (p.PrototypeExtensible c.args.target c.args.said) m.IsExtensible c.args.target (h.0, (k, tt))
    (h.0, tt) APrototype refl refl))
