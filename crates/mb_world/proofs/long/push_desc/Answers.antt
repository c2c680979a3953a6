use Rattle.std.proofs.Common.{ap, ◌∙◌, ◌++◌, filter}
use Rattle.mb_world.specs.Long.{is_long, seen_texts, texts_if}
use Rattle.mb_world.proofs.LongTexts.{filtered}
use Rattle.mb_world.proofs.long.push_desc.Goals as goal

pub returns : goal.returns
returns c =
    let p = is_long c.args.texts.now in
    let v = texts_if seen_texts c.args.desc.value in
    let g = texts_if seen_texts c.args.desc.get in
    let s = texts_if seen_texts c.args.desc.set in
    rw (c.in_ok-push_seen_if-3.ensures, c.in_ok-push_seen_if-2.ensures, c.in_ok-push_seen_if.ensures)
    (ap (λ xs. xs ++ filter p s) (filtered p c.args.found.now.items v g) ∙ filtered p c.args.found.now.items (v ++ g) s)
