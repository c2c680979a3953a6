use Rattle.mb_intrinsics.proofs.Adding.{filled-is}
use Rattle.mb_intrinsics.proofs.Naming.{gains-text, id-is}
use Rattle.mb_intrinsics.proofs.texts.intern.Goals as goal

pub returns-in-Ok : goal.returns-in-Ok
returns-in-Ok c =
    let texts = rw c.widened-units.ensures at c.in-Ok.ensures.texts in
    let text = rw c.widened-units.ensures at c.in-Ok.ensures.text in
    record {
      texts = texts;
      gains = gains-text c.args.w.now c.intern-interned.new.self c.args.text.now texts;
      id = id-is c.intern-interned.new.self.texts c.args.text.now c.in-Ok.id c.texts-texts.ensures.distinct text;
      kept = tt;
      distinct = c.texts-texts.ensures.distinct;
    }
