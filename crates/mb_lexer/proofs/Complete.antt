-- The machine reads each token, and finds a fault only where nothing stands.
use Rattle.std.proofs.Common.{◌≡◌, ℕ, ◌+◌, ◌≤◌, Bool, true, false, ◌||◌, List, [], ◌∷◌, ◌++◌, Result, Ok, Err, refl, sym, ap, subst, ◌∙◌, arith, Some}
use Rattle.std.specs.Char.{len_utf8}
use Rattle.std.proofs.lemmas.Str.{len_utf8_bounds}
use Rattle.mb_lexer.specs.declared.state.Move.{Move}
use Rattle.mb_lexer.specs.declared.state.Move.TheVariants.{Goes, Adds, Splits, Ends, Fails}
use Rattle.mb_lexer.specs.Characters.{width}
use Rattle.mb_lexer.specs.Parts.{Part, space, line_comment, block_comment, part_text, is_part, has_line}
use Rattle.mb_token.specs.Marks.{mark_text, mark_at}
use Rattle.mb_lexer.specs.Tokens.{Content, name, soft, reserved, whole, text, mark, IsToken, begins_comment}
use Rattle.mb_lexer.specs.Reading.{Lexeme, Kind, Stop, end, fault, IsFaulty, kind_of}
use Rattle.mb_lexer.specs.machine.Machine.{Machine, Answer, idle, lexeme, ended, stopped, after_tokens, continued, step_by, begun_after, moved, move_of, begun, lasting, first_of_two, run}
use Rattle.mb_lexer.proofs.Parting.{part_run}
use Rattle.mb_lexer.proofs.Words.{name_run, whole_run}
use Rattle.mb_lexer.proofs.Quoted.{text_run}
use Rattle.mb_lexer.proofs.Signs.{mark_run}

-- the token, and what comes after it
abbrev pub Given : Content → List ℕ → List ℕ → ℕ → Bool → Type 0
Given t token rest at line = run (idle at line) (token ++ rest) ≡ after_tokens (lexeme t at (at + width token) line ∷ []) (run (idle (at + width token) false) rest)

as_named : (s t : Content) (token rest : List ℕ) (at : ℕ) (line : Bool) → s ≡ t → Given s token rest at line → Given t token rest at line
as_named s t token rest at line e h = h ∙ ap (λ k. after_tokens (lexeme k at (at + width token) line ∷ []) (run (idle (at + width token) false) rest)) e

pub token_run : (t : Content) (token rest : List ℕ) (at : ℕ) (line : Bool) → IsToken t token rest → Given t token rest at line
token_run (name us) token rest at line h = as_named _ _ token rest at line h.1 (name_run us token rest at line h.0)
token_run (soft s us) token rest at line h = as_named _ _ token rest at line h.1 (name_run us token rest at line h.0)
token_run (reserved w us) token rest at line h = as_named _ _ token rest at line h.1 (name_run us token rest at line h.0)
token_run (whole n) token rest at line h = as_named _ _ token rest at line (ap whole (sym h.1)) (whole_run token rest at line h.0 h.2)
token_run (text us) token rest at line h = text_run us token rest at line h
token_run (mark k) token rest at line h =
    let e : mark_text k ≡ token = sym h.0 in
    subst (λ xs. mark_at (xs ++ rest) ≡ Some k → begins_comment (xs ++ rest) ≡ false → Given (mark k) xs rest at line) e (mark_run k rest at line) h.1 h.2

-- a fault comes no earlier than the open token
abbrev pub Late : ℕ → Stop → Type 0
Late at end = Unit {0}
Late at (fault kind place) = at ≤ place

later : (a b : ℕ) (s : Stop) → a ≤ b → Late b s → Late a s
later a b end h l = tt
later a b (fault kind place) h l = omega arith

late_stopped : (m : Machine) (r : Result (List Lexeme) Kind) → Late m.from (stopped m r).stop
late_stopped m (Ok ts) = tt
late_stopped m (Err kind) = let h : m.from ≤ m.from = omega arith in h

late_moved : (at : ℕ) (m : Machine) (c : ℕ) (mv : Move) (ts : List Lexeme) (more : Machine → Answer) → at ≤ m.from → m.from ≤ m.to → ((n : Machine) → n.from ≤ n.to → Late n.from (more n).stop) → Late at (continued ts (moved m c mv).next more).stop
late_moved at m c (Goes s) ts more a h f = let b : (1 ≤ len_utf8 c) × (len_utf8 c ≤ 4) = len_utf8_bounds c in later at m.from _ a (f _ (omega arith))
late_moved at m c (Adds s code) ts more a h f = let b : (1 ≤ len_utf8 c) × (len_utf8 c ≤ 4) = len_utf8_bounds c in later at m.from _ a (f _ (omega arith))
late_moved at m c (Splits first) ts more a h f = let b : (1 ≤ len_utf8 c) × (len_utf8 c ≤ 4) = len_utf8_bounds c in later at (m.from + 1) _ (omega arith) (f _ (omega arith))
late_moved at m c Ends ts more a h f = a
late_moved at m c Fails ts more a h f = a

late_begun : (m : Machine) (c : ℕ) (r : Result (List Lexeme) Kind) (more : Machine → Answer) → m.from ≤ m.to → ((n : Machine) → n.from ≤ n.to → Late n.from (more n).stop) → Late m.from (continued (begun_after m c r).tokens (begun_after m c r).next more).stop
late_begun m c (Ok ts) more h f = late_moved m.from (idle m.to (lasting ts m.line)) c (begun c) ts more h (omega arith) f
late_begun m c (Err kind) more h f = let l : m.from ≤ m.from = omega arith in l

late_step : (m : Machine) (c : ℕ) (mv : Move) (more : Machine → Answer) → m.from ≤ m.to → ((n : Machine) → n.from ≤ n.to → Late n.from (more n).stop) → Late m.from (continued (step_by m c mv).tokens (step_by m c mv).next more).stop
late_step m c (Goes s) more h f = late_moved m.from m c (Goes s) [] more (omega arith) h f
late_step m c (Adds s code) more h f = late_moved m.from m c (Adds s code) [] more (omega arith) h f
late_step m c (Splits first) more h f = late_moved m.from m c (Splits first) (first_of_two m first ∷ []) more (omega arith) h f
late_step m c Ends more h f = late_begun m c (ended m.state m) more h f
late_step m c Fails more h f = late_moved m.from m c Fails [] more (omega arith) h f

pub late : (cs : List ℕ) (m : Machine) → m.from ≤ m.to → Late m.from (run m cs).stop
late [] m h = late_stopped m (ended m.state m)
late (c ∷ cs) m h = late_step m c (move_of m.state c) (λ n. run n cs) h (λ n g. late cs n g)

part_wide : (p : Part) → 1 ≤ width (part_text p)
part_wide (space c) = let b : (1 ≤ len_utf8 c) × (len_utf8 c ≤ 4) = len_utf8_bounds c in omega arith
part_wide (line_comment cs) = omega arith
part_wide (block_comment cs) = omega arith

-- Where the machine finds a fault at once, nothing stands.
pub faulty : (kind : Kind) (first : ℕ) (more : List ℕ) (at : ℕ) (line : Bool) → run (idle at line) (first ∷ more) ≡ record { tokens = []; stop = fault kind at } → kind ≡ kind_of first → IsFaulty kind (first ∷ more)
faulty kind first more at line h k = record {
  first = first;
  more = more;
  left = refl;
  no_part = λ p rest e g. no_part p rest e g;
  no_token = λ t token rest e g. no_token t token rest e g;
  kind_is = k;
}
  where
    no_part : (p : Part) (rest : List ℕ) → first ∷ more ≡ part_text p ++ rest → is_part p rest ≡ true → ⊥
    no_part p rest e g =
        let r : run (idle (at + width (part_text p)) (line || has_line p)) rest ≡ record { tokens = []; stop = fault kind at } = sym (part_run p rest at line g) ∙ ap (λ xs. run (idle at line) xs) (sym e) ∙ h in
        let l : Late (at + width (part_text p)) (run (idle (at + width (part_text p)) (line || has_line p)) rest).stop = late rest (idle (at + width (part_text p)) (line || has_line p)) (omega arith) in
        let l2 : at + width (part_text p) ≤ at = subst (λ a. Late (at + width (part_text p)) a.stop) r l in
        let w : 1 ≤ width (part_text p) = part_wide p in
        omega arith

    no_token : (t : Content) (token rest : List ℕ) → first ∷ more ≡ token ++ rest → IsToken t token rest → ⊥
    no_token t token rest e g =
        let a : Answer = run (idle (at + width token) false) rest in
        let r : after_tokens (lexeme t at (at + width token) line ∷ []) a ≡ record { tokens = []; stop = fault kind at } = sym (token_run t token rest at line g) ∙ ap (λ xs. run (idle at line) xs) (sym e) ∙ h in
        let x : lexeme t at (at + width token) line ∷ a.tokens ≡ [] = ap (λ b. b.tokens) r in
        cc
