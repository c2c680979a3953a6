-- What is answered once the tokens of the bytes, or their first fault, are known.
use Rattle.std.proofs.Common.{◌≡◌, ℕ, false, List, Ok, Err, refl, ap, subst, inl, inr}
use Rattle.std.specs.Prelude.{Vec}
use Rattle.std.specs.Str.{IsUtf8, chars}
use Rattle.mb_token.specs.declared.token.Spanned.{Spanned}
use Rattle.mb_lexer.specs.declared.fault.LexFault.{LexFault}
use Rattle.mb_lexer.specs.declared.fault.LexFault.TheVariants.{Utf8, Token, Number, NoMemory}
use Rattle.mb_lexer.specs.Reading.{Lexeme, end, Reads, HasTokens, HasFault}
use Rattle.mb_lexer.specs.Shown.{AreSeen, IsLexed}
use Rattle.mb_lexer.specs.machine.Outcomes.{IsStop}
use Rattle.mb_lexer.proofs.Deciding.{of, reads, not_both}
use Rattle.mb_lexer.proofs.Lawful.{one_list, one_first_fault, not_tokens_and_fault}

module _ (A : Type 0) (texts : List (List ℕ)) (bytes : List ℕ) where
  pub lexed_tokens : (ts : List Lexeme) (found : Vec Spanned A) → HasTokens bytes ts → AreSeen texts found.items ts → IsLexed texts bytes (Ok found)
  lexed_tokens ts found h s = record {
    tokens = (ts, h, s);
    fault = tt;
    all = λ us g. subst (λ ls. AreSeen texts found.items ls) (one_list bytes ts us h g) s;
    first = λ f g. absurd (not_tokens_and_fault bytes ts f h g);
    utf8 = λ at v. absurd (not_tokens_and_fault bytes ts (Utf8 at) h v);
  }

  pub lexed_fault : (e : LexFault) → HasFault bytes e → IsLexed {A = A} texts bytes (Err e)
  lexed_fault e h = record {
    tokens = tt;
    fault = inr h;
    all = λ us g. absurd (not_tokens_and_fault bytes us e g h);
    first = λ f g. inl (ap Err (one_first_fault bytes e f h g));
    utf8 = λ at v. ap Err (one_first_fault bytes e (Utf8 at) h v);
  }

  pub lexed_memory : IsUtf8 bytes → IsLexed {A = A} texts bytes (Err NoMemory)
  lexed_memory u = record {
    tokens = tt;
    fault = inl refl;
    all = λ us g. refl;
    first = λ f g. inr refl;
    utf8 = λ at v. absurd (not_both bytes at u v);
  }

  -- the machine came to the end
  pub lexed_end : (found : Vec Spanned A) → IsUtf8 bytes → AreSeen texts found.items (of bytes).tokens → (of bytes).stop ≡ end → IsLexed texts bytes (Ok found)
  lexed_end found u s e = lexed_tokens (of bytes).tokens found (u, subst (λ k. Reads 0 false (chars bytes) (of bytes).tokens k) e (reads bytes)) s

  -- the machine stopped before it
  pub lexed_stop : (e : LexFault) → IsUtf8 bytes → IsStop e (of bytes).stop → IsLexed {A = A} texts bytes (Err e)
  lexed_stop (Utf8 at) u h = absurd h
  lexed_stop (Token at) u h = lexed_fault (Token at) (u, (of bytes).tokens, subst (λ k. Reads 0 false (chars bytes) (of bytes).tokens k) h (reads bytes))
  lexed_stop (Number at) u h = lexed_fault (Number at) (u, (of bytes).tokens, subst (λ k. Reads 0 false (chars bytes) (of bytes).tokens k) h (reads bytes))
  lexed_stop NoMemory u h = lexed_memory u
