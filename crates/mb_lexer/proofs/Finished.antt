-- What a lexer answers at the end of the bytes for which it stands.
use Rattle.std.proofs.Common.{◌≡◌, ℕ, ◌-◌, ◌<◌, false, List, [], length, Ok, Err, Some, None, Global, sym, ap, subst, ◌∙◌, arith, length-append}
use Rattle.std.proofs.lemmas.List.{append-nil}
use Rattle.std.specs.Prelude.{Vec}
use Rattle.std.specs.Str.{IsUtf8, IsValidUpTo, chars}
use Rattle.mb_token.specs.declared.token.Spanned.{Spanned}
use Rattle.mb_lexer.specs.declared.fault.LexFault.{LexFault}
use Rattle.mb_lexer.specs.declared.fault.LexFault.TheVariants.{Utf8, Token, Number, NoMemory}
use Rattle.mb_lexer.specs.Reading.{Lexeme, Kind, other, number, fault, Reads, HasFault}
use Rattle.mb_lexer.specs.Shown.{IsLexed}
use Rattle.mb_lexer.specs.Feeding.{Lexing, Fed, Keeps, IsCut, GoesOn, Faults}
use Rattle.mb_lexer.specs.machine.Machine.{Machine, idle, run, after_tokens, ended, stopped}
use Rattle.mb_lexer.specs.machine.Outcomes.{IsStop, Closes, Gains, given}
use Rattle.mb_lexer.proofs.Deciding.{of}
use Rattle.mb_lexer.proofs.Driving.{end_stops, end_told}
use Rattle.mb_lexer.proofs.Lexed.{lexed_fault, lexed_stop, lexed_end}
use Rattle.mb_lexer.proofs.Fed.{whole_before}
use Rattle.mb_lexer.proofs.Cuts.{valid_front}

module _ (texts : List (List ℕ)) (bytes : List ℕ) where
  valid_cut : (front pending : List ℕ) (n : ℕ) → n ≡ length bytes → 0 < length pending → IsCut bytes front pending → IsValidUpTo bytes (n - length pending)
  valid_cut front pending n e p h =
      let at : length front ≡ n - length pending = omega (arith, e, ap length h.whole, length-append front pending) in
      subst (λ k. IsValidUpTo bytes k) at (subst (λ xs. IsValidUpTo xs (length front)) (sym h.whole) (valid_front front pending p h.text h.none))

  cut_short : (l : Lexing) (old : List (List ℕ)) (n : ℕ) → n ≡ length bytes → 0 < length l.pending → (f : _) → Keeps f l old bytes → IsValidUpTo bytes (n - length l.pending)
  cut_short l old n e p None h = valid_cut h.0 l.pending n e p h.1
  cut_short l old n e p (Some (Token at)) h = valid_cut h.0 l.pending n e p h.1
  cut_short l old n e p (Some (Number at)) h = valid_cut h.0 l.pending n e p h.1
  cut_short l old n e p (Some (Utf8 at)) h = absurd (omega (arith, p, ap length h.2))
  cut_short l old n e p (Some NoMemory) h = absurd h

  -- bytes end within a character
  pub finished_short : (l : Lexing) (old : List (List ℕ)) → 0 < length l.pending → Fed l old bytes → IsLexed {A = Global} texts bytes (Err (Utf8 (l.fed - length l.pending)))
  finished_short l old p h = lexed_fault Global texts bytes (Utf8 (l.fed - length l.pending)) (cut_short l old l.fed h.count p l.fault h.kept)

  told : (kind : Kind) (at : ℕ) (front pending : List ℕ) → pending ≡ [] → IsCut bytes front pending → Faults kind at (chars front) → IsUtf8 bytes × (ts : List Lexeme) × Reads 0 false (chars bytes) ts (fault kind at)
  told kind at front pending e c h =
      let w : bytes ≡ front = whole_before bytes front pending c e in
      let r = h [] in
      (subst IsUtf8 (sym w) c.text, r.0, subst (λ cs. Reads 0 false cs r.0 (fault kind at)) (append-nil (chars front) ∙ ap chars (sym w)) r.1)

  kept_fault : (e : LexFault) (l : Lexing) (old : List (List ℕ)) → l.pending ≡ [] → Keeps (Some e) l old bytes → HasFault bytes e
  kept_fault (Token at) l old p h = told other at h.0 l.pending p h.1 h.2
  kept_fault (Number at) l old p h = told number at h.0 l.pending p h.1 h.2
  kept_fault (Utf8 at) l old p h = h.0
  kept_fault NoMemory l old p h = absurd h

  -- a fault came
  pub finished_fault : (e : LexFault) (l : Lexing) (old : List (List ℕ)) → l.pending ≡ [] → l.fault ≡ Some e → Fed l old bytes → IsLexed {A = Global} texts bytes (Err e)
  finished_fault e l old p f h = lexed_fault Global texts bytes e (kept_fault e l old p (subst (λ g. Keeps g l old bytes) f h.kept))

  -- no fault came
  at_end : (front pending : List ℕ) (ts : List Lexeme) (m : Machine) → pending ≡ [] → IsCut bytes front pending → GoesOn (idle 0 false) (chars front) ts m → of bytes ≡ after_tokens ts (stopped m (ended m.state m))
  at_end front pending ts m e c g =
      ap (λ cs. run (idle 0 false) cs) (ap chars (whole_before bytes front pending c e) ∙ sym (append-nil (chars front))) ∙ g []

  utf8_cut : (front pending : List ℕ) → pending ≡ [] → IsCut bytes front pending → IsUtf8 bytes
  utf8_cut front pending e c = subst IsUtf8 (sym (whole_before bytes front pending c e)) c.text

  pub finished_stop : (A : Type 0) (e : LexFault) (l : Lexing) (n : Machine) (old : List (List ℕ)) → l.pending ≡ [] → l.fault ≡ None → Closes {A = A} (Err e) (ended l.current.state l.current) l.current n → Fed l old bytes → IsLexed {A = Global} texts bytes (Err e)
  finished_stop A e l n old p f c h =
      let k : Keeps None l old bytes = subst (λ g. Keeps g l old bytes) f h.kept in
      lexed_stop Global texts bytes e (utf8_cut k.0 l.pending p k.1)
      (subst (λ a. IsStop e a.stop) (sym (at_end k.0 l.pending (k.2).0 l.current p k.1 (k.2).2)) (end_stops A e l.current n (ended l.current.state l.current) c))

  pub finished_end : {A : Type 0} (x : A) (found : Vec Spanned Global) (l : Lexing) (n : Machine) (old : List (List ℕ)) → l.pending ≡ [] → l.fault ≡ None → Closes (Ok x) (ended l.current.state l.current) l.current n
      → Gains old l.tokens texts found.items (given (ended l.current.state l.current)) → Fed l old bytes → IsLexed {A = Global} texts bytes (Ok found)
  finished_end x found l n old p f c g h =
      let k : Keeps None l old bytes = subst (λ z. Keeps z l old bytes) f h.kept in
      let t = end_told x (of bytes) (k.2).0 l.current n (ended l.current.state l.current) texts found.items (at_end k.0 l.pending (k.2).0 l.current p k.1 (k.2).2) c (g (k.2).0 (k.2).1) in
      lexed_end Global texts bytes found (utf8_cut k.0 l.pending p k.1) t.0 t.1
