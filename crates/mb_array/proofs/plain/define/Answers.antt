use Rattle.std.proofs.Common.{sym, ◌∙◌}
use Rattle.mb_array.proofs.Doing.{stored, not-stored}
use Rattle.mb_array.proofs.plain.define.Goals as goal

pub returns-in-None : goal.returns-in-None
returns-in-None c =
    not-stored c.args.w.now c.args.o c.accepted.ensures.cell c.args.key c.args.desc c.requires (sym c.accepted.ensures.value ∙ c.in-None.is)

pub returns-in_ok-put-in-Some : goal.returns-in_ok-put-in-Some
returns-in_ok-put-in-Some c =
    stored c.args.w.now c.args.o c.accepted.ensures.cell c.args.key c.args.desc c.requires c.in-Some.full c.put.new.self
    (sym c.accepted.ensures.value ∙ c.in-Some.is) c.in_ok-put-in-Some.ensures.put
