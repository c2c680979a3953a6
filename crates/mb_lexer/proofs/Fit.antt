-- The open token keeps within its ranges, and has no more units than bytes.
use Rattle.std.proofs.Common.{◌≡◌, ℕ, ◌+◌, ◌*◌, ◌%◌, ◌<◌, ◌≤◌, Bool, true, false, cond, ◌&&◌, ◌||◌, List, [], length, nat_lt, nat_le, Option, Some, None, Result, Ok, Err, refl, subst, arith, ⊎_elim, length-append}
use Rattle.std.specs.Prelude.{◌==◌}
use Rattle.std.specs.Char.{len_utf8, is_digit, digit_value}
use Rattle.std.specs.Char.Escape.{encode_utf16}
use Rattle.std.proofs.lemmas.Bool.{and_parts, ltb-true, leb-true, lt-ltb, le-ltb, cases_lt}
use Rattle.std.proofs.lemmas.Str.{len_utf8_bounds}
use Rattle.mb_token.specs.declared.mark.Mark.{Mark}
use Rattle.mb_token.specs.declared.mark.Mark.TheVariants.{TripleEqual, NotDoubleEqual, Arrow, LessEqual, GreaterEqual, AndAnd, OrOr, PlusPlus, MinusMinus, PlusEqual, MinusEqual, TimesEqual, OpenBrace, CloseBrace, OpenParen, CloseParen, OpenBracket, CloseBracket, Dot, Semicolon, Comma, Less, Greater, Plus, Minus, Times, Slash, Percent, Not, Question, Colon, Equal}
use Rattle.mb_lexer.specs.declared.state.State.{State}
use Rattle.mb_lexer.specs.declared.state.State.TheVariants.{Between, InName, InWhole, InText, AfterText, InLineComment, InBlockComment, InMark, Ampersand, Bar, DoubleEqual, NotEqual}
use Rattle.mb_lexer.specs.declared.state.Inside.{Inside}
use Rattle.mb_lexer.specs.declared.state.Inside.TheVariants.{Plain, Nul, Escape, Unicode, Digits, Open, Code}
use Rattle.mb_lexer.specs.declared.state.Move.{Move}
use Rattle.mb_lexer.specs.declared.state.Move.TheVariants.{Goes, Adds, Splits, Ends, Fails}
use Rattle.mb_lexer.specs.Characters.{is_blank, is_line_end, starts_name, continues_name, is_quote}
use Rattle.mb_lexer.specs.Strings.{is_hex, stands_for}
use Rattle.mb_lexer.specs.machine.Machine.{Machine, idle, lasting, moved, step, step_by, begun_after, ended, move_of, begun, opening_of, goes_or_fails, whole_move, plain_move, escape_move, hex_move, code_move, inside_move, mark_move}
use Rattle.mb_lexer.specs.Reading.{Lexeme, Kind, Stop}
use Rattle.mb_lexer.specs.machine.Outcomes.{slack, InRange, IsFit, AddsCode}

wide : (c : ℕ) → 1 ≤ len_utf8 c
wide c = let b : (1 ≤ len_utf8 c) × (len_utf8 c ≤ 4) = len_utf8_bounds c in b.0

wide_past : (c : ℕ) → 0x1_0000 ≤ c → len_utf8 c ≡ 4
wide_past c l =
    let x : nat_lt c 0x80 ≡ false = le-ltb c 0x80 (omega arith) in
    let y : nat_lt c 0x800 ≡ false = le-ltb c 0x800 (omega arith) in
    let z : nat_lt c 0x1_0000 ≡ false = le-ltb c 0x1_0000 l in
    simp (x, y, z)

one_unit : (c : ℕ) → c < 0x1_0000 → length (encode_utf16 c) ≡ 1
one_unit c l = simp (lt-ltb c 0x1_0000 l)

two_units : (c : ℕ) → 0x1_0000 ≤ c → length (encode_utf16 c) ≡ 2
two_units c l = simp (le-ltb c 0x1_0000 l)

pub narrow : (c : ℕ) → length (encode_utf16 c) ≤ len_utf8 c
narrow c = ⊎_elim (λ (l : c < 0x1_0000). (let e : length (encode_utf16 c) ≡ 1 = one_unit c l in let w : 1 ≤ len_utf8 c = wide c in let r : length (encode_utf16 c) ≤ len_utf8 c = omega arith in r)) (λ (l : 0x1_0000 ≤ c). (let e : length (encode_utf16 c) ≡ 2 = two_units c l in let w : len_utf8 c ≡ 4 = wide_past c l in let r : length (encode_utf16 c) ≤ len_utf8 c = omega arith in r)) (cases_lt c 0x1_0000)

pub at_most_two : (c : ℕ) → length (encode_utf16 c) ≤ 2
at_most_two c = ⊎_elim (λ (l : c < 0x1_0000). (let e : length (encode_utf16 c) ≡ 1 = one_unit c l in let r : length (encode_utf16 c) ≤ 2 = omega arith in r)) (λ (l : 0x1_0000 ≤ c). (let e : length (encode_utf16 c) ≡ 2 = two_units c l in let r : length (encode_utf16 c) ≤ 2 = omega arith in r)) (cases_lt c 0x1_0000)

-- a move keeps the ranges, and the token at least as many bytes as units
abbrev pub MoveFits : State → ℕ → Move → Type 0
MoveFits s c (Goes t) = InRange t × (slack t ≤ slack s + len_utf8 c)
MoveFits s c (Adds t code) = (code ≤ 0x10ffff) × InRange t × (slack t + length (encode_utf16 code) ≤ slack s + len_utf8 c)
MoveFits s c _ = Unit {0}

either : (P : Move → Type 0) (b : Bool) (x y : Move) → (b ≡ true → P x) → P y → P (cond b x y)
either P true x y f p = f refl
either P false x y f p = p

-- to a state with no range and little slack
free : (s : State) (c : ℕ) (t : State) → InRange t → slack t ≤ 1 → MoveFits s c (Goes t)
free s c t r l = let w : 1 ≤ len_utf8 c = wide c in (r, omega arith)

whole_fits : (n c : ℕ) → MoveFits (InWhole n) c (whole_move n c)
unfolding whole_move
whole_fits n c =
    either (MoveFits (InWhole n) c) (is_digit c 10) _ _
    (λ d. either (MoveFits (InWhole n) c) (nat_lt 0 n && nat_le (n * 10 + digit_value c) 9007199254740991) (Goes (InWhole (n * 10 + digit_value c))) Fails (λ h. free (InWhole n) c (InWhole (n * 10 + digit_value c)) (leb-true (n * 10 + digit_value c) 9007199254740991 (and_parts (nat_lt 0 n) (nat_le (n * 10 + digit_value c) 9007199254740991) h).1) (omega arith)) tt)
    (either (MoveFits (InWhole n) c) (c == 46 || continues_name c) Fails Ends (λ h. tt) tt)

plain_fits : (s : State) (q c : ℕ) → c ≤ 0x10ffff → slack s ≡ 1 → MoveFits s c (plain_move q c)
unfolding plain_move
plain_fits s q c v e =
    let w : 1 ≤ len_utf8 c = wide c in
    let n : length (encode_utf16 c) ≤ len_utf8 c = narrow c in
    either (MoveFits s c) (c == q) _ _ (λ h. free s c AfterText tt (omega arith))
    (either (MoveFits s c) (c == 92) _ _ (λ h. (tt, omega arith))
    (either (MoveFits s c) (c == 10 || c == 13) _ _ (λ h. tt) (v, tt, omega arith)))

stands_small : (c : ℕ) → c ≤ 0x10ffff → stands_for c ≤ 0x10ffff
stands_small c h = by (c == 110) (by (c == 116) (by (c == 114) (by (c == 98) (by (c == 102) (by (c == 118) (by (c == 48) h (omega arith)) (omega arith)) (omega arith)) (omega arith)) (omega arith)) (omega arith)) (omega arith)
  where
    by : {x y : ℕ} (b : Bool) → y ≤ 0x10ffff → x ≤ 0x10ffff → cond b x y ≤ 0x10ffff
    by true p r = r
    by false p r = p

escape_fits : (q c : ℕ) → c ≤ 0x10ffff → MoveFits (InText q Escape) c (escape_move q c)
unfolding escape_move
escape_fits q c v =
    let w : 1 ≤ len_utf8 c = wide c in
    let s : stands_for c ≤ 0x10ffff = stands_small c v in
    let n : length (encode_utf16 (stands_for c)) ≤ 2 = at_most_two (stands_for c) in
    either (MoveFits (InText q Escape) c) (c == 120) _ _ (λ h. (tt, omega arith))
    (either (MoveFits (InText q Escape) c) (c == 117) _ _ (λ h. (tt, omega arith))
    (either (MoveFits (InText q Escape) c) (c == 48) _ _ (λ h. (omega arith, tt, omega arith))
    (either (MoveFits (InText q Escape) c) (is_digit c 10 || is_line_end c) _ _ (λ h. tt) (s, tt, omega arith))))

hex_fits : (s : State) (q left value c : ℕ) → slack s ≡ 2 → MoveFits s c (hex_move q left value c)
unfolding hex_move
hex_fits s q left value c e =
    let w : 1 ≤ len_utf8 c = wide c in
    either (MoveFits s c) (is_hex c) _ _
    (λ h. let d : digit_value c < 16 = ltb-true (digit_value c) 16 h in
    let g : value * 16 % 65536 + digit_value c ≤ 0x10ffff = omega arith in
    let n : length (encode_utf16 (value * 16 % 65536 + digit_value c)) ≤ 2 = at_most_two (value * 16 % 65536 + digit_value c) in
    either (MoveFits s c) (nat_le left 1) _ _ (λ k. (g, tt, omega arith)) (tt, omega arith))
    tt

code_fits : (s : State) (q value c : ℕ) → slack s ≡ 2 → MoveFits s c (code_move q value c)
unfolding code_move
code_fits s q value c e =
    let w : 1 ≤ len_utf8 c = wide c in
    either (MoveFits s c) (is_hex c && nat_le (value * 16 + digit_value c) 0x10ffff) _ _ (λ h. (leb-true _ _ (and_parts _ _ h).1, omega arith)) tt

inside_fits : (q : ℕ) (i : Inside) (c : ℕ) → c ≤ 0x10ffff → InRange (InText q i) → MoveFits (InText q i) c (inside_move q i c)
inside_fits q Plain c v r = plain_fits (InText q Plain) q c v refl
inside_fits q Nul c v r = either (MoveFits (InText q Nul) c) (is_digit c 10) _ _ (λ h. tt) (plain_fits (InText q Nul) q c v refl)
inside_fits q Escape c v r = escape_fits q c v
inside_fits q Unicode c v r = let w : 1 ≤ len_utf8 c = wide c in either (MoveFits (InText q Unicode) c) (c == 123) _ _ (λ h. (tt, omega arith)) (hex_fits (InText q Unicode) q 4 0 c refl)
inside_fits q (Digits left value) c v r = hex_fits (InText q (Digits left value)) q left value c refl
inside_fits q Open c v r = code_fits (InText q Open) q 0 c refl
inside_fits q (Code value) c v r =
    let w : 1 ≤ len_utf8 c = wide c in
    let n : length (encode_utf16 value) ≤ 2 = at_most_two value in
    either (MoveFits (InText q (Code value)) c) (c == 125) _ _ (λ h. (r, tt, omega arith)) (code_fits (InText q (Code value)) q value c refl)

mark_fits : (k : Mark) (c : ℕ) → MoveFits (InMark k) c (mark_move k c)
unfolding mark_move
mark_fits OpenBrace c = tt
mark_fits CloseBrace c = tt
mark_fits OpenParen c = tt
mark_fits CloseParen c = tt
mark_fits OpenBracket c = tt
mark_fits CloseBracket c = tt
mark_fits Dot c = tt
mark_fits Semicolon c = tt
mark_fits Comma c = tt
mark_fits Percent c = tt
mark_fits Question c = tt
mark_fits Colon c = tt
mark_fits Arrow c = tt
mark_fits LessEqual c = tt
mark_fits GreaterEqual c = tt
mark_fits AndAnd c = tt
mark_fits OrOr c = tt
mark_fits PlusPlus c = tt
mark_fits MinusMinus c = tt
mark_fits PlusEqual c = tt
mark_fits MinusEqual c = tt
mark_fits TimesEqual c = tt
mark_fits TripleEqual c = tt
mark_fits NotDoubleEqual c = tt
mark_fits Less c = either (MoveFits (InMark Less) c) (c == 61) (Goes (InMark LessEqual)) Ends (λ h. free (InMark Less) c (InMark LessEqual) tt (omega arith)) tt
mark_fits Greater c = either (MoveFits (InMark Greater) c) (c == 61) (Goes (InMark GreaterEqual)) Ends (λ h. free (InMark Greater) c (InMark GreaterEqual) tt (omega arith)) tt
mark_fits Times c = either (MoveFits (InMark Times) c) (c == 61) (Goes (InMark TimesEqual)) Ends (λ h. free (InMark Times) c (InMark TimesEqual) tt (omega arith)) tt
mark_fits Not c = either (MoveFits (InMark Not) c) (c == 61) (Goes (NotEqual)) Ends (λ h. free (InMark Not) c (NotEqual) tt (omega arith)) tt
mark_fits Plus c = either (MoveFits (InMark Plus) c) (c == 43) (Goes (InMark PlusPlus)) _ (λ h. free (InMark Plus) c (InMark PlusPlus) tt (omega arith)) (either (MoveFits (InMark Plus) c) (c == 61) (Goes (InMark PlusEqual)) Ends (λ h. free (InMark Plus) c (InMark PlusEqual) tt (omega arith)) tt)
mark_fits Minus c = either (MoveFits (InMark Minus) c) (c == 45) (Goes (InMark MinusMinus)) _ (λ h. free (InMark Minus) c (InMark MinusMinus) tt (omega arith)) (either (MoveFits (InMark Minus) c) (c == 61) (Goes (InMark MinusEqual)) Ends (λ h. free (InMark Minus) c (InMark MinusEqual) tt (omega arith)) tt)
mark_fits Equal c = either (MoveFits (InMark Equal) c) (c == 61) (Goes (DoubleEqual)) _ (λ h. free (InMark Equal) c (DoubleEqual) tt (omega arith)) (either (MoveFits (InMark Equal) c) (c == 62) (Goes (InMark Arrow)) Ends (λ h. free (InMark Equal) c (InMark Arrow) tt (omega arith)) tt)
mark_fits Slash c = either (MoveFits (InMark Slash) c) (c == 47) (Goes (InLineComment)) _ (λ h. free (InMark Slash) c (InLineComment) tt (omega arith)) (either (MoveFits (InMark Slash) c) (c == 42) (Goes (InBlockComment false)) Ends (λ h. free (InMark Slash) c (InBlockComment false) tt (omega arith)) tt)

last_fits : (s : State) (c n : ℕ) (k : Mark) (mv : Move) → MoveFits s c mv → MoveFits s c (cond (c == n) (Goes (InMark k)) mv)
last_fits s c n k mv h = either (MoveFits s c) (c == n) _ _ (λ e. free s c (InMark k) tt (omega arith)) h

pub move_fits : (s : State) (c : ℕ) → c ≤ 0x10ffff → InRange s → MoveFits s c (move_of s c)
move_fits Between c v r = tt
move_fits InName c v r = let n : length (encode_utf16 c) ≤ len_utf8 c = narrow c in either (MoveFits InName c) (continues_name c) _ _ (λ h. (v, tt, omega arith)) tt
move_fits (InWhole n) c v r = whole_fits n c
move_fits (InText q i) c v r = inside_fits q i c v r
move_fits AfterText c v r = tt
move_fits InLineComment c v r = either (MoveFits InLineComment c) (is_line_end c) _ _ (λ h. tt) (free InLineComment c InLineComment tt (omega arith))
move_fits (InBlockComment star) c v r = either (MoveFits (InBlockComment star) c) (star && c == 47) _ _ (λ h. free (InBlockComment star) c Between tt (omega arith)) (free (InBlockComment star) c (InBlockComment (c == 42)) tt (omega arith))
move_fits (InMark k) c v r = mark_fits k c
move_fits Ampersand c v r = last_fits Ampersand c 38 AndAnd Fails tt
move_fits Bar c v r = last_fits Bar c 124 OrOr Fails tt
move_fits DoubleEqual c v r = last_fits DoubleEqual c 61 TripleEqual _ (either (MoveFits DoubleEqual c) (c == 62) _ _ (λ h. tt) tt)
move_fits NotEqual c v r = last_fits NotEqual c 61 NotDoubleEqual _ (either (MoveFits NotEqual c) (c == 62) _ _ (λ h. tt) tt)

record OpensFit (c : ℕ) (o : Option State) : Type 0 where
  pub fits : MoveFits Between c (goes_or_fails o)

opening_fits : (c : ℕ) → OpensFit c (opening_of c)
unfolding opening_of
opening_fits c = by 123 (f OpenBrace) (by 125 (f CloseBrace) (by 40 (f OpenParen) (by 41 (f CloseParen) (by 91 (f OpenBracket) (by 93 (f CloseBracket) (by 46 (f Dot) (by 59 (f Semicolon) (by 44 (f Comma) (by 60 (f Less) (by 62 (f Greater) (by 43 (f Plus) (by 45 (f Minus) (by 42 (f Times) (by 47 (f Slash) (by 37 (f Percent) (by 33 (f Not) (by 63 (f Question) (by 58 (f Colon) (by 61 (f Equal) (by 38 (record { fits = free Between c Ampersand tt (omega arith) }) (by 124 (record { fits = free Between c Bar tt (omega arith) }) (record { fits = tt }))))))))))))))))))))))
  where
    f : (k : Mark) → OpensFit c (Some (InMark k))
    f k = record { fits = free Between c (InMark k) tt (omega arith) }

    by : {x y : Option State} (n : ℕ) → OpensFit c x → OpensFit c y → OpensFit c (cond (c == n) x y)
    by {x = x} {y = y} n p q = elim (c == n) as (λ b. OpensFit c (cond b x y)) [ true ↦ p | false ↦ q ]

pub begun_fits : (c : ℕ) → c ≤ 0x10ffff → MoveFits Between c (begun c)
unfolding begun
begun_fits c v =
    let n : length (encode_utf16 c) ≤ len_utf8 c = narrow c in
    let w : 1 ≤ len_utf8 c = wide c in
    either (MoveFits Between c) (is_blank c || is_line_end c) _ _ (λ h. free Between c Between tt (omega arith))
    (either (MoveFits Between c) (starts_name c) _ _ (λ h. (v, tt, omega arith))
    (either (MoveFits Between c) (is_digit c 10) _ _ (λ h. let d : digit_value c < 10 = ltb-true (digit_value c) 10 h in free Between c (InWhole (digit_value c)) (omega arith) (omega arith))
    (either (MoveFits Between c) (is_quote c) _ _ (λ h. (tt, omega arith))
    ((opening_fits c).fits))))

pub move_adds : (s : State) (c : ℕ) (mv : Move) → MoveFits s c mv → AddsCode mv
move_adds s c (Goes t) h = tt
move_adds s c (Adds t code) h = h.0
move_adds s c (Splits first) h = tt
move_adds s c Ends h = tt
move_adds s c Fails h = tt

ok_same : (x y : Machine) → ◌≡◌ {A = Result Machine Stop} (Ok x) (Ok y) → x ≡ y
ok_same x y e = cc

-- the machine stays fit over a move
pub moved_fits : (m n : Machine) (c : ℕ) (mv : Move) → MoveFits m.state c mv → IsFit m → (moved m c mv).next ≡ Ok n → IsFit n
moved_fits m n c (Goes t) h f e = subst IsFit (ok_same _ _ e) (record { range = h.0; room = let r : m.from + slack m.state + length m.units ≤ m.to = f.room in let s : slack t ≤ slack m.state + len_utf8 c = h.1 in omega arith })
moved_fits m n c (Adds t code) h f e = subst IsFit (ok_same _ _ e) (record { range = h.1; room = let r : m.from + slack m.state + length m.units ≤ m.to = f.room in let s : slack t + length (encode_utf16 code) ≤ slack m.state + len_utf8 c = h.2 in omega (arith, length-append m.units (encode_utf16 code)) })
moved_fits m n c (Splits first) h f e = subst IsFit (ok_same _ _ e) (record { range = tt; room = let r : m.from + slack m.state + length m.units ≤ m.to = f.room in let w : 1 ≤ len_utf8 c = wide c in omega arith })
moved_fits m n c Ends h f e = absurd cc
moved_fits m n c Fails h f e = absurd cc

pub fresh_fits : (at : ℕ) (line : Bool) → IsFit (idle at line)
fresh_fits at line = record { range = tt; room = omega arith }

begun_after_fits : (m n : Machine) (c : ℕ) (r : Result (List Lexeme) Kind) → c ≤ 0x10ffff → (begun_after m c r).next ≡ Ok n → IsFit n
begun_after_fits m n c (Ok ts) v e = moved_fits (idle m.to (lasting ts m.line)) n c (begun c) (begun_fits c v) (fresh_fits m.to (lasting ts m.line)) e
begun_after_fits m n c (Err kind) v e = absurd cc

step_by_fits : (m n : Machine) (c : ℕ) (mv : Move) → c ≤ 0x10ffff → MoveFits m.state c mv → IsFit m → (step_by m c mv).next ≡ Ok n → IsFit n
step_by_fits m n c (Goes t) v h f e = moved_fits m n c (Goes t) h f e
step_by_fits m n c (Adds t code) v h f e = moved_fits m n c (Adds t code) h f e
step_by_fits m n c (Splits first) v h f e = moved_fits m n c (Splits first) h f e
step_by_fits m n c Ends v h f e = begun_after_fits m n c (ended m.state m) v e
step_by_fits m n c Fails v h f e = absurd cc

-- and over a step
pub step_fits : (m n : Machine) (c : ℕ) → c ≤ 0x10ffff → IsFit m → (step m c).next ≡ Ok n → IsFit n
step_fits m n c v f e = step_by_fits m n c (move_of m.state c) v (move_fits m.state c v f.range) f e

-- what a character begins puts no token
pub begun_quiet : (m : Machine) (c : ℕ) → (moved m c (begun c)).tokens ≡ []
unfolding begun
begun_quiet m c =
    by (is_blank c || is_line_end c) _ _ refl (by (starts_name c) _ _ refl (by (is_digit c 10) _ _ refl (by (is_quote c) _ _ refl (quiet (opening_of c)))))
  where
    by : (b : Bool) (x y : Move) → (moved m c x).tokens ≡ [] → (moved m c y).tokens ≡ [] → (moved m c (cond b x y)).tokens ≡ []
    by true x y p q = p
    by false x y p q = q

    quiet : (o : Option State) → (moved m c (goes_or_fails o)).tokens ≡ []
    quiet (Some s) = refl
    quiet None = refl
