use Rattle.std.proofs.Common.{◌≡◌, ℕ, ◌+◌, List, ◌++◌, length}
use Rattle.std.specs.Str.{IsUtf8, chars}
use Rattle.mb_text.specs.Texts.{AreDistinct, KeepsIds}
use Rattle.mb_lexer.specs.Reading.{Lexeme}
use Rattle.mb_lexer.specs.machine.Machine.{after_tokens, run}
use Rattle.mb_lexer.specs.machine.Outcomes.{Gains, IsFit}
use Rattle.mb_lexer.proofs.unfinished.Unfinished.read.Given as goal

-- The text's answer is the tokens so far, and what the machine makes of the rest.
abbrev pub invariant-loop-ch : goal.invariant-loop-ch
invariant-loop-ch l = record {
  told : (ts : List Lexeme) × Gains l.fn.texts l.fn.tokens.items l.texts l.tokens.items ts × ((more : List ℕ) → run l.fn.self (chars l.text ++ more) ≡ after_tokens ts (run l.self (chars l.ch-iterator.rest.now ++ more)));
  fit : IsFit l.self;
  place : l.self.to + length l.ch-iterator.rest.now ≡ l.fn.self.to + length l.text;
  utf8 : IsUtf8 l.ch-iterator.rest.now;
  texts : KeepsIds l.fn.texts l.texts;
  distinct : AreDistinct l.fn.texts → AreDistinct l.texts;
}
