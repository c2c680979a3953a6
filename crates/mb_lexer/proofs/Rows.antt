-- Worked rows of the definition, each computed.
use Rattle.std.specs.Prelude.{ℕ, true, false, List, [], ◌∷◌, ◌++◌, codes}
use Rattle.mb_token.specs.declared.word.Soft.TheVariants.{Get, Set}
use Rattle.mb_token.specs.declared.word.Word.TheVariants.{Typeof}
use Rattle.mb_token.specs.declared.mark.Mark.TheVariants.{TripleEqual, NotDoubleEqual, Arrow, GreaterEqual, PlusPlus, Plus, Equal}
use Rattle.mb_lexer.specs.Tokens.{Content, name, soft, reserved, whole, text, mark}
use Rattle.mb_lexer.specs.Reading.{Lexeme, other, number, Stop, end, fault, Reads}
use Rattle.mb_lexer.specs.machine.Machine.{begun, opening_of, whole_move, plain_move, escape_move, hex_move, code_move, mark_move}
use Rattle.mb_lexer.proofs.Sound.{sound}
use Rattle.unicode_ident.proofs.Computing.{unicode_ident}

-- a token on the first line, and one after a line end
abbrev t : Content → ℕ → ℕ → Lexeme
t content from to = record { content = content; from = from; to = to; after_line = false }

abbrev after : Content → ℕ → ℕ → Lexeme
after content from to = record { content = content; from = from; to = to; after_line = true }

abbrev x : Content
x = name (120 ∷ [])

abbrev y : Content
y = name (121 ∷ [])

abbrev Row : List ℕ → List Lexeme → Stop → Type 0
Row cs ts stop = Reads 0 false cs ts stop

-- The reading of these characters, which the two types compute to.
arrow : Row (codes "x=>y") (t x 0 1 ∷ t (mark Arrow) 1 3 ∷ t y 3 4 ∷ []) end
unfolding begun opening_of mark_move unicode_ident
arrow = (sound (codes "x=>y")).between 0 false

triple_equal : Row (codes "x===y") (t x 0 1 ∷ t (mark TripleEqual) 1 4 ∷ t y 4 5 ∷ []) end
unfolding begun opening_of mark_move unicode_ident
triple_equal = (sound (codes "x===y")).between 0 false

not_double_equal : Row (codes "x!==y") (t x 0 1 ∷ t (mark NotDoubleEqual) 1 4 ∷ t y 4 5 ∷ []) end
unfolding begun opening_of mark_move unicode_ident
not_double_equal = (sound (codes "x!==y")).between 0 false

greater_equal : Row (codes "x>=y") (t x 0 1 ∷ t (mark GreaterEqual) 1 3 ∷ t y 3 4 ∷ []) end
unfolding begun opening_of mark_move unicode_ident
greater_equal = (sound (codes "x>=y")).between 0 false

increment : Row (codes "x++ +y") (t x 0 1 ∷ t (mark PlusPlus) 1 3 ∷ t (mark Plus) 4 5 ∷ t y 5 6 ∷ []) end
unfolding begun opening_of mark_move unicode_ident
increment = (sound (codes "x++ +y")).between 0 false

two_equals_and_an_arrow : Row (codes "==>") (t (mark Equal) 0 1 ∷ t (mark Arrow) 1 3 ∷ []) end
unfolding begun opening_of mark_move unicode_ident
two_equals_and_an_arrow = (sound (codes "==>")).between 0 false

soft_names : Row (codes "get set typeof") (t (soft Get (codes "get")) 0 3 ∷ t (soft Set (codes "set")) 4 7 ∷ t (reserved Typeof (codes "typeof")) 8 14 ∷ []) end
unfolding begun opening_of unicode_ident
soft_names = (sound (codes "get set typeof")).between 0 false

comment_parts : Row (codes "x/**/y") (t x 0 1 ∷ t y 5 6 ∷ []) end
unfolding begun opening_of mark_move unicode_ident
comment_parts = (sound (codes "x/**/y")).between 0 false

-- a line feed in the comment
line_in_comment : Row (codes "x/*" ++ 10 ∷ codes "*/y") (t x 0 1 ∷ after y 6 7 ∷ []) end
unfolding begun opening_of mark_move unicode_ident
line_in_comment = (sound (codes "x/*" ++ 10 ∷ codes "*/y")).between 0 false

fraction : Row (codes "1.5;") [] (fault number 0)
unfolding begun whole_move unicode_ident
fraction = (sound (codes "1.5;")).between 0 false

leading_zero : Row (codes "01") [] (fault number 0)
unfolding begun whole_move unicode_ident
leading_zero = (sound (codes "01")).between 0 false

largest : Row (codes "9007199254740991") (t (whole 9007199254740991) 0 16 ∷ []) end
unfolding begun whole_move unicode_ident
largest = (sound (codes "9007199254740991")).between 0 false

too_large : Row (codes "9007199254740992") [] (fault number 0)
unfolding begun whole_move unicode_ident
too_large = (sound (codes "9007199254740992")).between 0 false

hash : Row (codes "#") [] (fault other 0)
unfolding begun opening_of unicode_ident
hash = (sound (codes "#")).between 0 false

open_comment : Row (codes "/* a") [] (fault other 0)
unfolding begun opening_of mark_move unicode_ident
open_comment = (sound (codes "/* a")).between 0 false

open_text : Row (34 ∷ codes "ab") [] (fault other 0)
unfolding begun plain_move unicode_ident
open_text = (sound (34 ∷ codes "ab")).between 0 false

-- an escape outside of a text: x, then `\` and u0062
escaped_name : Row (120 ∷ 92 ∷ codes "u0062") (t x 0 1 ∷ []) (fault other 1)
unfolding begun opening_of unicode_ident
escaped_name = (sound (120 ∷ 92 ∷ codes "u0062")).between 0 false

-- a, an escaped line feed, a letter by its code, and half of a pair
four_units : Row (34 ∷ 97 ∷ 92 ∷ 110 ∷ 92 ∷ codes "u00e9" ++ 92 ∷ codes "ud83d" ++ 34 ∷ []) (t (text (0x61 ∷ 0x0a ∷ 0xe9 ∷ 0xd83d ∷ [])) 0 17 ∷ []) end
unfolding begun plain_move escape_move hex_move unicode_ident
four_units = (sound (34 ∷ 97 ∷ 92 ∷ 110 ∷ 92 ∷ codes "u00e9" ++ 92 ∷ codes "ud83d" ++ 34 ∷ [])).between 0 false

nul_and_digit : Row (34 ∷ 92 ∷ 48 ∷ 56 ∷ 34 ∷ []) [] (fault other 0)
unfolding begun plain_move escape_move unicode_ident
nul_and_digit = (sound (34 ∷ 92 ∷ 48 ∷ 56 ∷ 34 ∷ [])).between 0 false

past_the_last_code : Row (34 ∷ 92 ∷ codes "u{110000}" ++ 34 ∷ []) [] (fault other 0)
unfolding begun plain_move escape_move code_move unicode_ident
past_the_last_code = (sound (34 ∷ 92 ∷ codes "u{110000}" ++ 34 ∷ [])).between 0 false

raw_line_feed : Row (34 ∷ 97 ∷ 10 ∷ 34 ∷ []) [] (fault other 0)
unfolding begun plain_move unicode_ident
raw_line_feed = (sound (34 ∷ 97 ∷ 10 ∷ 34 ∷ [])).between 0 false

-- U+2028 may stand in a text
raw_separator : Row (34 ∷ 0x2028 ∷ 34 ∷ []) (t (text (0x2028 ∷ [])) 0 5 ∷ []) end
unfolding begun plain_move unicode_ident
raw_separator = (sound (34 ∷ 0x2028 ∷ 34 ∷ [])).between 0 false

-- a character past U+FFFF is two units
surrogate_pair : Row (34 ∷ 0x1f600 ∷ 34 ∷ []) (t (text (0xd83d ∷ 0xde00 ∷ [])) 0 6 ∷ []) end
unfolding begun plain_move unicode_ident
surrogate_pair = (sound (34 ∷ 0x1f600 ∷ 34 ∷ [])).between 0 false
