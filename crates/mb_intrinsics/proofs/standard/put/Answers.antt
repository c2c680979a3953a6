use Rattle.mb_intrinsics.proofs.Cells.{key-within}
use Rattle.mb_intrinsics.proofs.Rows.{its-key-there}
use Rattle.mb_intrinsics.proofs.standard.put.Goals as goal

pub put-requires-clause-key : goal.put-requires-clause-key
put-requires-clause-key c =
    key-within c.args.w.now c.intern.new.w c.full_of.new.w c.args.key.now c.in_ok-text.text
    (its-key-there c.args.w.now.texts c.args.key.now c.args.given.now c.requires.texts) c.requires.key
    c.in_ok-text.ensures.texts c.full_of.ensures.stays c.in_ok-text.ensures.id
