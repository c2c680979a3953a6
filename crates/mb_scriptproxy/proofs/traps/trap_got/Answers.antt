use Rattle.std.proofs.Common.{sym, ◌∙◌}
use Rattle.mb_scriptproxy.proofs.Untrapped.{Part-none, Part-trap, asked-holds, keeps-none, some-side}
use Rattle.mb_scriptproxy.proofs.traps.trap_got.Goals as goal
use Rattle.mb_world.specs.Image.{names_of}

pub trap_called-requires : goal.trap_called-requires
trap_called-requires c =
    let a = c.requires.acts in
    let h = a.holds in
    record { acts = record { ready = a.ready; side = a.side; holds = (h.0, (h.1.1.1.0, (h.1.1.0, h.1.1.1.1))) } }

pub returns-then-is_none-clause-part : goal.returns-then-is_none-clause-part
returns-then-is_none-clause-part c = λ f.
    let d = c.args.w.now in
    let home = c.args.home in
    let asked = c.args.asked in
    let h = c.requires.acts.holds in
    let b = c.is_none.ensures in
    rw c.untrapped.ensures
    (Part-none home asked d c.args.target c.args.handler c.args.method c.args.trap f
    (sym b.is ∙ c.if-is_none.true) (b.means (names_of d) ∙ c.if-is_none.true)
    (asked-holds home asked d c.args.target c.args.handler c.args.method c.args.trap h.1.0
    (h.1.1.0, h.1.1.1.1)))

pub returns-then-is_none-clause-keeps : goal.returns-then-is_none-clause-keeps
returns-then-is_none-clause-keeps c =
    let d = c.args.w.now in
    let home = c.args.home in
    let asked = c.args.asked in
    let h = c.requires.acts.holds in
    let b = c.is_none.ensures in
    rw c.untrapped.ensures
    (keeps-none home asked d c.args.target c.args.handler c.args.method c.args.trap
    (sym b.is ∙ c.if-is_none.true) c.requires.acts.ready
    (asked-holds home asked d c.args.target c.args.handler c.args.method c.args.trap h.1.0
    (h.1.1.0, h.1.1.1.1)))

pub returns-clause-part : goal.returns-clause-part
returns-clause-part c = λ f.
    let d = c.args.w.now in
    let b = c.is_none.ensures in
    Part-trap c.args.home c.args.asked d c.args.target c.args.handler c.args.method c.args.trap c.trap_called.result
    c.trap_called.new.w f (sym b.is ∙ c.if-is_none.false) (b.means (names_of d) ∙ c.if-is_none.false)
    (c.trap_called.ensures.part f)

pub returns-clause-keeps : goal.returns-clause-keeps
returns-clause-keeps c =
    let b = c.is_none.ensures in
    rw (some-side c.args.home c.args.asked c.args.trap (sym b.is ∙ c.if-is_none.false)) c.trap_called.ensures.keeps
