use Rattle.std.proofs.Common.{◌≡◌, ℕ, List, ◌++◌, length, sym, ap, ◌∙◌}
use Rattle.std.specs.Str.Lossy.{utf8_valid_len}
use Rattle.mb_lexer.proofs.Cuts.{none_empty, none_from_longest}
use Rattle.mb_lexer.proofs.lexer.longest_text.Goals as goal

pub returns-in-Some-clause-none : goal.returns-in-Some-clause-none
returns-in-Some-clause-none c =
    let s = c.in-Some.ensures.steps in
    let same : c.valid-text.result.now ≡ c.in-Some.chunk.valid.now = c.valid-text.ensures in
    none_from_longest c.args.bytes.now c.valid-text.result.now _ c.valid-text.utf8
    (sym c.utf8_chunks.ensures.rest ∙ s.0 ∙ ap (λ (xs : List ℕ). xs ++ (c.in-Some.chunk.invalid.now ++ c.next.new.self.rest.now)) (sym same))
    (ap length same ∙ s.3.0 ∙ ap utf8_valid_len c.utf8_chunks.ensures.rest)

pub returns-in-None-clause-none : goal.returns-in-None-clause-none
returns-in-None-clause-none c = none_empty c.args.bytes.now (ap length (sym c.utf8_chunks.ensures.rest) ∙ c.in-None.ensures.steps.0)
