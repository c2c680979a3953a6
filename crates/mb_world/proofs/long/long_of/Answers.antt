use Rattle.std.proofs.Common.{ap, ◌∙◌, ◌++◌, [], filter}
use Rattle.mb_world.specs.Long.{is_long, key_texts, said_texts, texts_if}
use Rattle.mb_world.proofs.LongTexts.{filtered}
use Rattle.mb_world.proofs.long.long_of.Goals as goal

pub returns : goal.returns
returns c =
    let p = is_long c.args.texts.now in
    let k = texts_if key_texts c.args.entry.now.key in
    let g = said_texts c.args.entry.now.given in
    let a = said_texts c.args.entry.now.answer in
    rw (c.in_ok-push_said-2.ensures, c.in_ok-push_said.ensures, c.in_ok-push_key_if.ensures, c.new-found.ensures.items)
    (ap (λ xs. xs ++ filter p a) (filtered p [] k g) ∙ filtered p [] (k ++ g) a)
