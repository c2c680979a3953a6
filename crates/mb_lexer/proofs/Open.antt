-- What the open token's characters are, in each state.
use Rattle.std.proofs.Common.{◌≡◌, ℕ, ◌+◌, ◌≤◌, Bool, true, false, not, ◌||◌, List, [], ◌∷◌, ◌++◌, length, refl, sym, ap, subst, ◌∙◌, append_assoc, arith, ◌⊎◌}
use Rattle.std.specs.Prelude.{◌==◌}
use Rattle.std.specs.List.{flat_map, list_any, list_all}
use Rattle.std.specs.Char.{len_utf8, is_digit}
use Rattle.std.specs.Char.Escape.{encode_utf16}
use Rattle.mb_token.specs.Marks.{mark_text}
use Rattle.mb_lexer.specs.declared.state.State.{State}
use Rattle.mb_lexer.specs.declared.state.State.TheVariants.{Between, InName, InWhole, InText, AfterText, InLineComment, InBlockComment, InMark, Ampersand, Bar, DoubleEqual, NotEqual}
use Rattle.mb_lexer.specs.declared.state.Inside.{Inside}
use Rattle.mb_lexer.specs.declared.state.Inside.TheVariants.{Plain, Nul, Escape, Unicode, Digits, Open, Code}
use Rattle.mb_lexer.specs.declared.state.Move.TheVariants.{Goes, Adds}
use Rattle.mb_lexer.specs.Characters.{is_line_end, is_quote, begins, width}
use Rattle.mb_lexer.specs.Strings.{Piece, piece_text, units, number_of, is_hex, are_pieces}
use Rattle.mb_lexer.specs.Parts.{has_close}
use Rattle.mb_lexer.specs.Tokens.{units_of, is_name, is_whole, IsText}
use Rattle.mb_lexer.specs.Reading.{Reads}
use Rattle.mb_lexer.specs.machine.Machine.{Machine, Answer, idle, grown, is_parting, move_of, begun, run}
use Rattle.mb_lexer.proofs.Steps.{run_goes, run_adds, begin_goes, begin_adds}
use Rattle.mb_lexer.proofs.Parting.{width-append}

-- the answer is what the definition says of the characters
abbrev pub Told : ℕ → Bool → List ℕ → Answer → Type 0
Told at line cs a = Reads at line cs a.tokens a.stop

-- what may come after the pieces so far
abbrev pub Follows : Inside → List ℕ → Type 0
Follows Nul rest = begins (λ d. is_digit d 10) rest ≡ false
Follows _ rest = Unit {0}

-- the front of a piece that is open
abbrev pub Front : Inside → List ℕ → Type 0
Front Plain xs = xs ≡ []
Front Nul xs = xs ≡ []
Front Escape xs = xs ≡ 92 ∷ []
Front Unicode xs = xs ≡ 92 ∷ 117 ∷ []
Front (Digits left value) xs =
    ((xs ≡ 92 ∷ 120 ∷ []) × (left ≡ 2) × (value ≡ 0))
    ⊎ (((a : ℕ) × (xs ≡ 92 ∷ 120 ∷ a ∷ []) × (is_hex a ≡ true) × (left ≡ 1) × (value ≡ number_of 16 (a ∷ [])))
    ⊎ (((a : ℕ) × (xs ≡ 92 ∷ 117 ∷ a ∷ []) × (is_hex a ≡ true) × (left ≡ 3) × (value ≡ number_of 16 (a ∷ [])))
    ⊎ (((a : ℕ) × (b : ℕ) × (xs ≡ 92 ∷ 117 ∷ a ∷ b ∷ []) × (is_hex a ≡ true) × (is_hex b ≡ true) × (left ≡ 2) × (value ≡ number_of 16 (a ∷ b ∷ [])))
    ⊎ ((a : ℕ) × (b : ℕ) × (c : ℕ) × (xs ≡ 92 ∷ 117 ∷ a ∷ b ∷ c ∷ []) × (is_hex a ≡ true) × (is_hex b ≡ true) × (is_hex c ≡ true) × (left ≡ 1) × (value ≡ number_of 16 (a ∷ b ∷ c ∷ []))))))
Front Open xs = xs ≡ 92 ∷ 117 ∷ 123 ∷ []
Front (Code value) xs = (ds : List ℕ) × (xs ≡ 92 ∷ 117 ∷ 123 ∷ ds) × (not (length ds == 0) ≡ true) × (list_all is_hex ds ≡ true) × (value ≡ number_of 16 ds) × (value ≤ 0x10ffff)

-- a text that is open: a quote, pieces, and the front of another
pub record Quoting (q : ℕ) (i : Inside) (us seen : List ℕ) : Type 0 where
  pub quoted : is_quote q ≡ true
  pub pieces : List Piece
  pub front : List ℕ
  pub seen_is : seen ≡ q ∷ (flat_map piece_text pieces ++ front)
  pub units_are : us ≡ flat_map units pieces
  pub fits : (rest : List ℕ) → Follows i rest → are_pieces q pieces (front ++ rest) ≡ true
  pub front_is : Front i front

-- whether the last character is a `*`
abbrev pub ends_in_star : List ℕ → Bool
ends_in_star [] = false
ends_in_star (c ∷ []) = c == 42
ends_in_star (c ∷ d ∷ ds) = ends_in_star (d ∷ ds)

-- a block comment that is open
pub record Commented (star : Bool) (before now : Bool) (seen : List ℕ) : Type 0 where
  pub body : List ℕ
  pub seen_is : seen ≡ 47 ∷ 42 ∷ body
  pub unclosed : has_close body ≡ false
  pub star_is : star ≡ ends_in_star body
  pub line_is : now ≡ (before || list_any is_line_end body)

-- The characters of the open token, with the line flag as it was and as it is.
abbrev pub Means : State → Bool → Bool → List ℕ → List ℕ → Type 0
Means Between before now us seen = ⊥
Means InName before now us seen = (us ≡ units_of seen) × (is_name seen ≡ true) × (now ≡ before)
Means (InWhole n) before now us seen = (is_whole seen ≡ true) × (n ≡ number_of 10 seen) × (now ≡ before)
Means (InText q i) before now us seen = Quoting q i us seen × (now ≡ before)
Means AfterText before now us seen = IsText us seen × (now ≡ before)
Means InLineComment before now us seen = (body : List ℕ) × (seen ≡ 47 ∷ 47 ∷ body) × (list_any is_line_end body ≡ false) × (now ≡ before)
Means (InBlockComment star) before now us seen = Commented star before now seen
Means (InMark k) before now us seen = (seen ≡ mark_text k) × (now ≡ before) × (us ≡ [])
Means Ampersand before now us seen = (seen ≡ 38 ∷ []) × (now ≡ before) × (us ≡ [])
Means Bar before now us seen = (seen ≡ 124 ∷ []) × (now ≡ before) × (us ≡ [])
Means DoubleEqual before now us seen = (seen ≡ 61 ∷ 61 ∷ []) × (now ≡ before) × (us ≡ [])
Means NotEqual before now us seen = (seen ≡ 33 ∷ 61 ∷ []) × (now ≡ before) × (us ≡ [])

-- these characters have come since the token began
pub record IsOpen (m : Machine) (before : Bool) (seen : List ℕ) : Type 0 where
  pub place : m.to ≡ m.from + width seen
  pub means : Means m.state before m.line m.units seen
  pub reached : (rest : List ℕ) → run (idle m.from before) (seen ++ rest) ≡ run m rest

-- The machine is right about these characters, whatever came before.
pub record IsRight (cs : List ℕ) : Type 0 where
  pub between : (at : ℕ) (line : Bool) → Told at line cs (run (idle at line) cs)
  pub opened : (m : Machine) (before : Bool) (seen : List ℕ) → IsOpen m before seen → Told m.from before (seen ++ cs) (run m cs)

pub told_same : (at : ℕ) (line : Bool) (cs ds : List ℕ) (a b : Answer) → cs ≡ ds → a ≡ b → Told at line cs a → Told at line ds b
told_same at line cs ds a b e f h = subst (λ x. Told at line ds x) f (subst (λ x. Told at line x a) e h)

push_place : (from to c : ℕ) (seen : List ℕ) → to ≡ from + width seen → to + len_utf8 c ≡ from + width (seen ++ c ∷ [])
push_place from to c seen e = rw (width-append seen (c ∷ [])) (omega arith)

-- the open token goes on with a character
pub goes_on : (m : Machine) (before : Bool) (seen : List ℕ) (c : ℕ) (s : State) (cs : List ℕ) → IsRight cs → IsOpen m before seen → move_of m.state c ≡ Goes s
    → Means s before (grown m c s m.units).line m.units (seen ++ c ∷ []) → Told m.from before (seen ++ c ∷ cs) (run m (c ∷ cs))
goes_on m before seen c s cs right o h means =
    told_same m.from before _ _ _ _ (append_assoc seen (c ∷ []) cs) (sym (run_goes m c s cs h))
    (right.opened (grown m c s m.units) before (seen ++ c ∷ []) (record {
      place = push_place m.from m.to c seen o.place;
      means = means;
      reached = λ rest. ap (λ xs. run (idle m.from before) xs) (append_assoc seen (c ∷ []) rest) ∙ o.reached (c ∷ rest) ∙ run_goes m c s rest h;
    }))

-- the same with units
pub adds_on : (m : Machine) (before : Bool) (seen : List ℕ) (c code : ℕ) (s : State) (cs : List ℕ) → IsRight cs → IsOpen m before seen → move_of m.state c ≡ Adds s code
    → Means s before (grown m c s (m.units ++ encode_utf16 code)).line (m.units ++ encode_utf16 code) (seen ++ c ∷ []) → Told m.from before (seen ++ c ∷ cs) (run m (c ∷ cs))
adds_on m before seen c code s cs right o h means =
    told_same m.from before _ _ _ _ (append_assoc seen (c ∷ []) cs) (sym (run_adds m c code s cs h))
    (right.opened (grown m c s (m.units ++ encode_utf16 code)) before (seen ++ c ∷ []) (record {
      place = push_place m.from m.to c seen o.place;
      means = means;
      reached = λ rest. ap (λ xs. run (idle m.from before) xs) (append_assoc seen (c ∷ []) rest) ∙ o.reached (c ∷ rest) ∙ run_adds m c code s rest h;
    }))

-- a character begins a token
pub begins_with : (at : ℕ) (line : Bool) (c : ℕ) (s : State) (cs : List ℕ) → IsRight cs → begun c ≡ Goes s → is_parting s ≡ false → Means s line (grown (idle at line) c s []).line [] (c ∷ []) → Told at line (c ∷ cs) (run (idle at line) (c ∷ cs))
begins_with at line c s cs right h p means =
    told_same at line _ _ _ _ refl (sym (begin_goes at line c s cs h))
    (right.opened (grown (idle at line) c s []) line (c ∷ []) (record {
      place = let e : at + len_utf8 c ≡ at + (len_utf8 c + 0) = omega arith in e;
      means = means;
      reached = λ rest. begin_goes at line c s rest h;
    }))

pub begins_adding : (at : ℕ) (line : Bool) (c code : ℕ) (s : State) (cs : List ℕ) → IsRight cs → begun c ≡ Adds s code → Means s line (grown (idle at line) c s (encode_utf16 code)).line (encode_utf16 code) (c ∷ []) → Told at line (c ∷ cs) (run (idle at line) (c ∷ cs))
begins_adding at line c code s cs right h means =
    told_same at line _ _ _ _ refl (sym (begin_adds at line c code s cs h))
    (right.opened (grown (idle at line) c s (encode_utf16 code)) line (c ∷ []) (record {
      place = let e : at + len_utf8 c ≡ at + (len_utf8 c + 0) = omega arith in e;
      means = means;
      reached = λ rest. begin_adds at line c code s rest h;
    }))
