use Rattle.std.proofs.Common.{[], ◌∷◌, ◌++◌, ap, ◌∙◌}
use Rattle.mb_world.specs.Value.{decimal}
use Rattle.mb_world.specs.EntryLine.{op_name, side_letter}
use Rattle.mb_trace.proofs.Parts.{headed}
use Rattle.mb_trace.proofs.entry.push_head.Goals as goal

pub returns : goal.returns
returns c =
    headed c.args.out.now.items _ _ _ _ _ _ _ _ (decimal c.args.entry.now.began) (decimal c.args.entry.now.object) (op_name c.args.entry.now.op)
    (side_letter c.args.lettered c.args.entry.now.side.0)
    c.in_ok-push_word.ensures c.in_ok-push_number.ensures c.in_ok-push.ensures.items (c.in_ok-push-2.ensures.items ∙ ap (λ l. c.push.new.self.items ++ l ∷ []) c.side_letter.ensures)
    c.in_ok-push_word-2.ensures c.in_ok-push_number-2.ensures c.in_ok-push-3.ensures.items c.in_ok-push_op.ensures
