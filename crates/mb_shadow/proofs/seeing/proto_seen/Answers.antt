use Rattle.mb_shadow.proofs.Owned.{proto-seen-of, proto-kind}
use Rattle.mb_shadow.proofs.seeing.proto_seen.Goals as goal

pub bring-requires-clause-value : goal.bring-requires-clause-value
bring-requires-clause-value c = proto-seen-of c.args.w.now c.requires.world c.args.sight.object c.cell-cell.result.now c.cell-cell.ensures.value

pub returns-clause-kind : goal.returns-clause-kind
returns-clause-kind c = proto-kind c.args.w.now c.requires.world c.args.sight.object c.cell-cell.result.now c.cell-cell.ensures.value c.bring.new.w c.bring.result
    c.bring.ensures.meaning
