-- Tokens stay seen when texts and tokens are added.
use Rattle.std.proofs.Common.{◌≡◌, ℕ, List, [], ◌∷◌, ◌++◌, Result, ◌+◌, false, refl, sym, ap, subst, ◌∙◌, append_assoc}
use Rattle.std.proofs.lemmas.List.{append-nil}
use Rattle.std.proofs.lemmas.Result.{on_ok_weaker}
use Rattle.std.specs.Prelude.{OnOk}
use Rattle.mb_text.proofs.WithText.{slice_get-added}
use Rattle.mb_text.specs.Texts.{KeepsIds}
use Rattle.mb_token.specs.declared.token.Token.{Token}
use Rattle.mb_token.specs.declared.token.Token.TheVariants.{Name, Soft, Reserved, Whole, Text, Mark}
use Rattle.mb_token.specs.declared.token.Spanned.{Spanned}
use Rattle.mb_text.proofs.Kept.{keeps_ids_none}
use Rattle.mb_lexer.specs.Tokens.{Content, name, soft, reserved, whole, text, mark}
use Rattle.mb_lexer.specs.Reading.{Lexeme}
use Rattle.mb_token.specs.declared.mark.Mark.{Mark as MarkOf}
use Rattle.mb_token.specs.declared.mark.Mark.TheVariants.{Equal}
use Rattle.mb_lexer.specs.declared.state.State.{State}
use Rattle.mb_lexer.specs.declared.fault.LexFault.{LexFault}
use Rattle.mb_lexer.specs.machine.Machine.{Machine, lexeme, ended, first_of_two}
use Rattle.mb_lexer.specs.Shown.{Shows, AreSeen}
use Rattle.mb_lexer.specs.machine.Outcomes.{Gains, given}

shows_added : (texts more : List (List ℕ)) (token : Token) (t : Content) → Shows texts token t → Shows (texts ++ more) token t
shows_added texts more (Name id) (name us) h = slice_get-added texts more id.0 us h
shows_added texts more (Soft s id) (soft t us) h = (h.0, slice_get-added texts more id.0 us h.1)
shows_added texts more (Text id) (text us) h = slice_get-added texts more id.0 us h
shows_added texts more (Reserved w id) (reserved v us) h = (h.0, slice_get-added texts more id.0 us h.1)
shows_added texts more (Whole w) (whole v) h = h
shows_added texts more (Mark w) (mark v) h = h
shows_added texts more (Name id) (soft t us) h = absurd h
shows_added texts more (Name id) (reserved v us) h = absurd h
shows_added texts more (Name id) (whole v) h = absurd h
shows_added texts more (Name id) (text v) h = absurd h
shows_added texts more (Name id) (mark v) h = absurd h
shows_added texts more (Soft s id) (name us) h = absurd h
shows_added texts more (Soft s id) (reserved v us) h = absurd h
shows_added texts more (Soft s id) (whole v) h = absurd h
shows_added texts more (Soft s id) (text v) h = absurd h
shows_added texts more (Soft s id) (mark v) h = absurd h
shows_added texts more (Text id) (name us) h = absurd h
shows_added texts more (Text id) (soft t us) h = absurd h
shows_added texts more (Text id) (reserved v us) h = absurd h
shows_added texts more (Text id) (whole v) h = absurd h
shows_added texts more (Text id) (mark v) h = absurd h
shows_added texts more (Reserved w id) (name us) h = absurd h
shows_added texts more (Reserved w id) (soft t us) h = absurd h
shows_added texts more (Reserved w id) (whole us) h = absurd h
shows_added texts more (Reserved w id) (text us) h = absurd h
shows_added texts more (Reserved w id) (mark us) h = absurd h
shows_added texts more (Whole w) (name us) h = absurd h
shows_added texts more (Whole w) (soft t us) h = absurd h
shows_added texts more (Whole w) (reserved v us) h = absurd h
shows_added texts more (Whole w) (text us) h = absurd h
shows_added texts more (Whole w) (mark us) h = absurd h
shows_added texts more (Mark w) (name us) h = absurd h
shows_added texts more (Mark w) (soft t us) h = absurd h
shows_added texts more (Mark w) (reserved v us) h = absurd h
shows_added texts more (Mark w) (whole us) h = absurd h
shows_added texts more (Mark w) (text us) h = absurd h

seen_added : (texts more : List (List ℕ)) (tokens : List Spanned) (ts : List Lexeme) → AreSeen texts tokens ts → AreSeen (texts ++ more) tokens ts
seen_added texts more [] [] h = tt
seen_added texts more (s ∷ ss) (t ∷ ts) h = (record { token = shows_added texts more s.token t.content (h.0).token; from = (h.0).from; to = (h.0).to; after_line = (h.0).after_line }, seen_added texts more ss ts h.1)
seen_added texts more [] (t ∷ ts) h = absurd h
seen_added texts more (s ∷ ss) [] h = absurd h

pub seen_kept : (old new : List (List ℕ)) (tokens : List Spanned) (ts : List Lexeme) → KeepsIds old new → AreSeen old tokens ts → AreSeen new tokens ts
seen_kept old new tokens ts e h = rw e.1 (seen_added old e.0 tokens ts h)

pub seen_append : (texts : List (List ℕ)) (tokens : List Spanned) (ts : List Lexeme) (more : List Spanned) (us : List Lexeme) → AreSeen texts tokens ts → AreSeen texts more us → AreSeen texts (tokens ++ more) (ts ++ us)
seen_append texts [] [] more us h g = g
seen_append texts (s ∷ ss) (t ∷ ts) more us h g = (h.0, seen_append texts ss ts more us h.1 g)
seen_append texts [] (t ∷ ts) more us h g = absurd h
seen_append texts (s ∷ ss) [] more us h g = absurd h

-- tokens at the end of others
pub gains : (texts newer : List (List ℕ)) (old new more : List Spanned) (ts : List Lexeme) → KeepsIds texts newer → new ≡ old ++ more → AreSeen newer more ts → Gains texts old newer new ts
gains texts newer old new more ts e f h before g = subst (λ xs. AreSeen newer xs (before ++ ts)) (sym f) (seen_append newer old before more ts (seen_kept texts newer old before e g) h)

-- one step after another
pub gains_more : (a b c : List (List ℕ)) (x y z : List Spanned) (ts us : List Lexeme) → Gains a x b y ts → Gains b y c z us → Gains a x c z (ts ++ us)
gains_more a b c x y z ts us g h before s = subst (λ ls. AreSeen c z ls) (append_assoc before ts us) (h (before ++ ts) (g before s))

pub gains_none : (texts newer : List (List ℕ)) (old new : List Spanned) → KeepsIds texts newer → new ≡ old → Gains texts old newer new []
gains_none texts newer old new e f before h = subst (λ ls. AreSeen newer new ls) (sym (append-nil before)) (subst (λ xs. AreSeen newer xs before) (sym f) (seen_kept texts newer old before e h))

abbrev pub spanned : Token → Machine → Spanned
spanned token m = record { token = token; from = m.from; to = m.to; after_line = m.line }

-- the open token is put at the end
pub emits : {A : Type 0} (texts newer : List (List ℕ)) (old new : List Spanned) (m : Machine) (s : State) (t : Content) (token : Token) (r : Result A LexFault) → m.state ≡ s → given (ended s m) ≡ lexeme t m.from m.to m.line ∷ [] → KeepsIds texts newer → Shows newer token t
    → OnOk r (new ≡ old ++ spanned token m ∷ []) → OnOk r (Gains texts old newer new (given (ended m.state m)))
emits texts newer old new m s t token r e g x h o = on_ok_weaker r (λ f. subst (λ ts. Gains texts old newer new ts) (sym (ap (λ z. given (ended z m)) e ∙ g)) (gains texts newer old new (spanned token m ∷ []) (lexeme t m.from m.to m.line ∷ []) x f (record { token = h; from = refl; to = refl; after_line = refl }, tt))) o

-- two marks are put at the end
pub emits_two : {A : Type 0} (texts : List (List ℕ)) (old new : List Spanned) (m : Machine) (s : State) (first : MarkOf) (r : Result A LexFault) → m.state ≡ s → given (ended s m) ≡ first_of_two m first ∷ lexeme (mark Equal) (m.from + 1) m.to false ∷ []
    → OnOk r (new ≡ old ++ record { token = Mark first; from = m.from; to = m.from + 1; after_line = m.line } ∷ record { token = Mark Equal; from = m.from + 1; to = m.to; after_line = false } ∷ []) → OnOk r (Gains texts old texts new (given (ended m.state m)))
emits_two texts old new m s first r e g o = on_ok_weaker r (λ f. subst (λ ts. Gains texts old texts new ts) (sym (ap (λ z. given (ended z m)) e ∙ g)) (gains texts texts old new _ _ (keeps_ids_none texts) f (record { token = refl; from = refl; to = refl; after_line = refl }, (record { token = refl; from = refl; to = refl; after_line = refl }, tt)))) o
