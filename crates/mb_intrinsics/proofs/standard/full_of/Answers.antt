use Rattle.std.proofs.Common.{List, [], true, ℕ, ◌≡◌}
use Rattle.std.proofs.lemmas.List.Elements.{All-head}
use Rattle.mb_intrinsics.proofs.Cells.{text-within}
use Rattle.mb_text.specs.Texts.{has_text}
use Rattle.mb_intrinsics.proofs.standard.full_of.Goals as goal

pub returns-in_ok-intern-in-Text-clause-within : goal.returns-in_ok-intern-in-Text-clause-within
returns-in_ok-intern-in-Text-clause-within c =
    let there : has_text c.args.w.now.texts c.in-Text.text.now ≡ true =
    All-head (λ (t : List ℕ). has_text c.args.w.now.texts t ≡ true) c.in-Text.text.now []
    (rw c.in-Text.is at c.requires.texts) in
    rw c.fixed-in-Text.ensures
    (text-within c.args.w.now c.intern.new.w c.in-Text.text.now c.in_ok-intern-in-Text.field-0 there
    c.in_ok-intern-in-Text.ensures.texts c.in_ok-intern-in-Text.ensures.id)
