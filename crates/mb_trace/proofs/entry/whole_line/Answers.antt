use Rattle.std.proofs.Common.{option_map}
use Rattle.mb_world.specs.Value.{decimal}
use Rattle.mb_world.specs.Image.{key_by, said_in}
use Rattle.mb_world.specs.EntryLine.{op_name, side_letter, seen_key_if, seen_said}
use Rattle.mb_trace.specs.machine.Told.{numbered}
use Rattle.mb_trace.proofs.Parts.{lined}
use Rattle.mb_trace.proofs.entry.whole_line.Goals as goal

pub returns : goal.returns
returns c =
    let e = c.args.entry.now in
    let d = c.args.w.now in
    lined _ _ _ _ _ _ _ _ (decimal e.began) (decimal e.object) (op_name e.op)
    (seen_key_if (numbered d) (option_map (key_by d.texts) e.key)) (seen_said (numbered d) (said_in d.texts e.given)) (seen_said (numbered d) (said_in d.texts e.answer))
    (side_letter c.args.lettered e.side.0)
    c.new-line.ensures.items c.in_ok-push_head.ensures c.in_ok-push.ensures.items c.in_ok-push_key_if.ensures
    c.in_ok-push-2.ensures.items c.in_ok-push_said.ensures c.in_ok-push-3.ensures.items c.in_ok-push_said-2.ensures
