use Rattle.std.proofs.Common.{◌++◌, ap, arith, length, refl}
use Rattle.mb_eval_expr.proofs.Spelling.{not-long}
use Rattle.mb_parts.proofs.Writing.{TextsGrew-same, TextsGrew-text, text-is, text-within}
use Rattle.mb_world.specs.Image.{names_of, text_in}
use Rattle.mb_eval_expr.proofs.functions.joined.Goals as goal

pub returns-in-Ok-clause-name : goal.returns-in-Ok-clause-name
returns-in-Ok-clause-name c =
    let d = c.args.w.now in
    let d' = c.join.new.self in
    let xs = text_in (names_of d) c.args.a ++ text_in (names_of d) c.args.b in
    (text-within d' c.in-Ok.text xs c.in-Ok.ensures.text, λ log. text-is d' c.in-Ok.text xs c.in-Ok.ensures.text)

pub returns-in-Ok-clause-short : goal.returns-in-Ok-clause-short
returns-in-Ok-clause-short c =
    let d = c.args.w.now in
    let d' = c.join.new.self in
    let xs = text_in (names_of d) c.args.a ++ text_in (names_of d) c.args.b in
    omega (
      arith,
      ap length (text-is d' c.in-Ok.text xs c.in-Ok.ensures.text),
      not-long (length xs) (λ l. let z = c.in-Ok.ensures.long.1 l in cc),
    )

pub returns-in-Ok-clause-grew : goal.returns-in-Ok-clause-grew
returns-in-Ok-clause-grew c =
    let d = c.args.w.now in
    TextsGrew-text d c.join.new.self (text_in (names_of d) c.args.a ++ text_in (names_of d) c.args.b) c.requires.ids
    c.texts-after.ensures.ids c.in-Ok.ensures.texts

pub returns-in-Err-Long-clause-name : goal.returns-in-Err-Long-clause-name
returns-in-Err-Long-clause-name c = λ log.
    let h = rw c.in-Err-Long.field-0-is at c.in-Err-Long.ensures.long in
    h.0 refl

pub returns-in-Err-Long-clause-grew : goal.returns-in-Err-Long-clause-grew
returns-in-Err-Long-clause-grew c = rw c.in-Err-Long.ensures.kept (TextsGrew-same c.args.w.now c.requires.ids)

pub returns-in-Err-NoMemory-clause-grew : goal.returns-in-Err-NoMemory-clause-grew
returns-in-Err-NoMemory-clause-grew c = rw c.in-Err-NoMemory.ensures.kept (TextsGrew-same c.args.w.now c.requires.ids)
