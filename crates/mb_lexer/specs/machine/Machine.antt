-- The machine that reads a text one character at a time.
use Rattle.std.specs.Prelude.{ℕ, ◌+◌, ◌-◌, ◌*◌, ◌%◌, Bool, true, false, ◌&&◌, ◌||◌, ◌==◌, List, [], ◌∷◌, ◌++◌, Option, Some, None, Result, Ok, Err, nat_le, nat_lt, if◌then◌else◌}
use Rattle.std.specs.Char.{is_digit, digit_value, len_utf8}
use Rattle.std.specs.Char.Escape.{encode_utf16}
use Rattle.mb_token.specs.declared.mark.Mark.{Mark}
use Rattle.mb_token.specs.declared.mark.Mark.TheVariants.{TripleEqual, NotDoubleEqual, Arrow, LessEqual, GreaterEqual, AndAnd, OrOr, PlusPlus, MinusMinus, PlusEqual, MinusEqual, TimesEqual, OpenBrace, CloseBrace, OpenParen, CloseParen, OpenBracket, CloseBracket, Dot, Semicolon, Comma, Less, Greater, Plus, Minus, Times, Slash, Percent, Not, Question, Colon, Equal}
use Rattle.mb_lexer.specs.declared.state.State.{State}
use Rattle.mb_lexer.specs.declared.state.State.TheVariants.{Between, InName, InWhole, InText, AfterText, InLineComment, InBlockComment, InMark, Ampersand, Bar, DoubleEqual, NotEqual}
use Rattle.mb_lexer.specs.declared.state.Inside.{Inside}
use Rattle.mb_lexer.specs.declared.state.Inside.TheVariants.{Plain, Nul, Escape, Unicode, Digits, Open, Code}
use Rattle.mb_lexer.specs.declared.state.Move.{Move}
use Rattle.mb_lexer.specs.declared.state.Move.TheVariants.{Goes, Adds, Splits, Ends, Fails}
use Rattle.mb_lexer.specs.Characters.{is_blank, is_line_end, starts_name, continues_name, is_quote}
use Rattle.mb_lexer.specs.Strings.{is_hex, stands_for}
use Rattle.mb_lexer.specs.Tokens.{Content, whole, text, mark, named}
use Rattle.mb_lexer.specs.Reading.{Lexeme, Kind, other, number, Stop, end, fault}

-- what a mark's first character opens
unfoldable pub opening_of : ℕ → Option State
opening_of c =
    if c == 123 then Some (InMark OpenBrace) else if c == 125 then Some (InMark CloseBrace)
    else if c == 40 then Some (InMark OpenParen) else if c == 41 then Some (InMark CloseParen)
    else if c == 91 then Some (InMark OpenBracket) else if c == 93 then Some (InMark CloseBracket)
    else if c == 46 then Some (InMark Dot) else if c == 59 then Some (InMark Semicolon)
    else if c == 44 then Some (InMark Comma) else if c == 60 then Some (InMark Less)
    else if c == 62 then Some (InMark Greater) else if c == 43 then Some (InMark Plus)
    else if c == 45 then Some (InMark Minus) else if c == 42 then Some (InMark Times)
    else if c == 47 then Some (InMark Slash) else if c == 37 then Some (InMark Percent)
    else if c == 33 then Some (InMark Not) else if c == 63 then Some (InMark Question)
    else if c == 58 then Some (InMark Colon) else if c == 61 then Some (InMark Equal)
    else if c == 38 then Some Ampersand else if c == 124 then Some Bar else None

abbrev pub goes_or_fails : Option State → Move
goes_or_fails (Some s) = Goes s
goes_or_fails None = Fails

-- what a character begins
unfoldable pub begun : ℕ → Move
begun c =
    if is_blank c || is_line_end c then Goes Between
    else if starts_name c then Adds InName c
    else if is_digit c 10 then Goes (InWhole (digit_value c))
    else if is_quote c then Goes (InText c Plain)
    else goes_or_fails (opening_of c)

unfoldable pub whole_move : ℕ → ℕ → Move
whole_move n c =
    if is_digit c 10 then
    (if nat_lt 0 n && nat_le (n * 10 + digit_value c) 9007199254740991 then Goes (InWhole (n * 10 + digit_value c))
    else Fails)
    else if c == 46 || continues_name c then Fails else Ends

unfoldable pub plain_move : ℕ → ℕ → Move
plain_move q c =
    if c == q then Goes AfterText else if c == 92 then Goes (InText q Escape)
    else if c == 10 || c == 13 then Fails else Adds (InText q Plain) c

unfoldable pub escape_move : ℕ → ℕ → Move
escape_move q c =
    if c == 120 then Goes (InText q (Digits 2 0)) else if c == 117 then Goes (InText q Unicode)
    else if c == 48 then Adds (InText q Nul) 0
    else if is_digit c 10 || is_line_end c then Fails else Adds (InText q Plain) (stands_for c)

unfoldable pub hex_move : ℕ → ℕ → ℕ → ℕ → Move
hex_move q left value c =
    if is_hex c then
    (if nat_le left 1 then Adds (InText q Plain) (value * 16 % 65536 + digit_value c)
    else Goes (InText q (Digits (left - 1) (value * 16 % 65536 + digit_value c))))
    else Fails

unfoldable pub code_move : ℕ → ℕ → ℕ → Move
code_move q value c =
    if is_hex c && nat_le (value * 16 + digit_value c) 0x10ffff then Goes (InText q (Code (value * 16 + digit_value c)))
    else Fails

abbrev pub inside_move : ℕ → Inside → ℕ → Move
inside_move q Plain c = plain_move q c
inside_move q Nul c = if is_digit c 10 then Fails else plain_move q c
inside_move q Escape c = escape_move q c
inside_move q Unicode c = if c == 123 then Goes (InText q Open) else hex_move q 4 0 c
inside_move q (Digits left value) c = hex_move q left value c
inside_move q Open c = code_move q 0 c
inside_move q (Code value) c = if c == 125 then Adds (InText q Plain) value else code_move q value c

unfoldable pub mark_move : Mark → ℕ → Move
mark_move Equal c = if c == 61 then Goes DoubleEqual else if c == 62 then Goes (InMark Arrow) else Ends
mark_move Not c = if c == 61 then Goes NotEqual else Ends
mark_move Less c = if c == 61 then Goes (InMark LessEqual) else Ends
mark_move Greater c = if c == 61 then Goes (InMark GreaterEqual) else Ends
mark_move Plus c = if c == 43 then Goes (InMark PlusPlus) else if c == 61 then Goes (InMark PlusEqual) else Ends
mark_move Minus c = if c == 45 then Goes (InMark MinusMinus) else if c == 61 then Goes (InMark MinusEqual) else Ends
mark_move Times c = if c == 61 then Goes (InMark TimesEqual) else Ends
mark_move Slash c = if c == 47 then Goes InLineComment else if c == 42 then Goes (InBlockComment false) else Ends
mark_move _ c = Ends

abbrev pub last_move : ℕ → ℕ → Mark → Move → Move
last_move c last m move = if c == last then Goes (InMark m) else move

abbrev pub split_move : ℕ → Mark → Move
split_move c first = if c == 62 then Splits first else Ends

abbrev pub move_of : State → ℕ → Move
move_of Between c = Ends
move_of InName c = if continues_name c then Adds InName c else Ends
move_of (InWhole n) c = whole_move n c
move_of (InText q inside) c = inside_move q inside c
move_of AfterText c = Ends
move_of InLineComment c = if is_line_end c then Ends else Goes InLineComment
move_of (InBlockComment starred) c = if starred && c == 47 then Goes Between else Goes (InBlockComment (c == 42))
move_of (InMark m) c = mark_move m c
move_of Ampersand c = last_move c 38 AndAnd Fails
move_of Bar c = last_move c 124 OrOr Fails
move_of DoubleEqual c = last_move c 61 TripleEqual (split_move c Equal)
move_of NotEqual c = last_move c 61 NotDoubleEqual (split_move c Not)

-- The machine: the open token, the offsets of its first byte and of what comes next, whether a line end went before
-- it, and its units so far.
pub record Machine : Type 0 where
  pub state : State
  pub from : ℕ
  pub to : ℕ
  pub line : Bool
  pub units : List ℕ

-- no token is open
abbrev pub idle : ℕ → Bool → Machine
idle at line = record { state = Between; from = at; to = at; line = line; units = [] }

abbrev pub lexeme : Content → ℕ → ℕ → Bool → Lexeme
lexeme content from to line = record { content = content; from = from; to = to; after_line = line }

abbrev pub one : Machine → Content → Result (List Lexeme) Kind
one m content = Ok (lexeme content m.from m.to m.line ∷ [])

-- the first mark of two
abbrev pub first_of_two : Machine → Mark → Lexeme
first_of_two m first = lexeme (mark first) m.from (m.from + 1) m.line

abbrev pub two : Machine → Mark → Result (List Lexeme) Kind
two m first = Ok (first_of_two m first ∷ lexeme (mark Equal) (m.from + 1) m.to false ∷ [])

-- the tokens that the open one is where it ends, or its fault
abbrev pub ended : State → Machine → Result (List Lexeme) Kind
ended Between m = Ok []
ended InName m = one m (named m.units)
ended (InWhole n) m = one m (whole n)
ended (InText q inside) m = Err other
ended AfterText m = one m (text m.units)
ended InLineComment m = Ok []
ended (InBlockComment starred) m = Err other
ended (InMark k) m = one m (mark k)
ended Ampersand m = Err other
ended Bar m = Err other
ended DoubleEqual m = two m Equal
ended NotEqual m = two m Not

-- a number's, or any other
abbrev pub fault_kind : State → Kind
fault_kind (InWhole n) = number
fault_kind _ = other

-- whether the token is what parts others
abbrev pub is_parting : State → Bool
is_parting Between = true
is_parting (InBlockComment starred) = true
is_parting _ = false

-- one step: the tokens that ended, and the machine or the fault
pub record Stepped : Type 0 where
  pub tokens : List Lexeme
  pub next : Result Machine Stop

-- the open token goes on to this state and these units
abbrev pub grown : Machine → ℕ → State → List ℕ → Machine
grown m c s us = record {
  state = s;
  from = m.from;
  to = m.to + len_utf8 c;
  line = if is_parting s && is_line_end c then true else m.line;
  units = us;
}

-- with the character, by the move
abbrev pub moved : Machine → ℕ → Move → Stepped
moved m c (Goes s) = record { tokens = []; next = Ok (grown m c s m.units) }
moved m c (Adds s code) = record { tokens = []; next = Ok (grown m c s (m.units ++ encode_utf16 code)) }
moved m c (Splits first) =
    let arrow : Machine = record {
      state = InMark Arrow;
      from = m.from + 1;
      to = m.to + len_utf8 c;
      line = false;
      units = m.units;
    } in
    record { tokens = first_of_two m first ∷ []; next = Ok arrow }
moved m c Ends = record { tokens = []; next = Err (fault (fault_kind m.state) m.from) }
moved m c Fails = record { tokens = []; next = Err (fault (fault_kind m.state) m.from) }

-- whether the line flag lasts: no token came
abbrev pub lasting : List Lexeme → Bool → Bool
lasting [] line = line
lasting (t ∷ ts) line = false

-- the open token ended, and the character begins the next
abbrev pub begun_after : Machine → ℕ → Result (List Lexeme) Kind → Stepped
begun_after m c (Ok ts) = record { tokens = ts; next = (moved (idle m.to (lasting ts m.line)) c (begun c)).next }
begun_after m c (Err kind) = record { tokens = []; next = Err (fault kind m.from) }

abbrev pub step_by : Machine → ℕ → Move → Stepped
step_by m c (Goes s) = moved m c (Goes s)
step_by m c (Adds s code) = moved m c (Adds s code)
step_by m c (Splits first) = moved m c (Splits first)
step_by m c Ends = begun_after m c (ended m.state m)
step_by m c Fails = moved m c Fails

abbrev pub step : Machine → ℕ → Stepped
step m c = step_by m c (move_of m.state c)

-- tokens, and where they stop
pub record Answer : Type 0 where
  pub tokens : List Lexeme
  pub stop : Stop

abbrev pub after_tokens : List Lexeme → Answer → Answer
after_tokens ts a = record { tokens = ts ++ a.tokens; stop = a.stop }

abbrev pub stopped : Machine → Result (List Lexeme) Kind → Answer
stopped m (Ok ts) = record { tokens = ts; stop = end }
stopped m (Err kind) = record { tokens = []; stop = fault kind m.from }

abbrev pub continued : List Lexeme → Result Machine Stop → (Machine → Answer) → Answer
continued ts (Ok m) more = after_tokens ts (more m)
continued ts (Err stop) more = record { tokens = ts; stop = stop }

-- all that is left of the text
abbrev pub run : Machine → List ℕ → Answer
run m [] = stopped m (ended m.state m)
run m (c ∷ cs) = continued (step m c).tokens (step m c).next (λ n. run n cs)
