-- Characters and their classes.
use Rattle.std.specs.Prelude.{ℕ, ◌+◌, Bool, false, ◌||◌, ◌==◌, List, [], ◌∷◌}
use Rattle.std.specs.Char.{len_utf8, is_digit}
use Rattle.unicode_ident.specs.Ident.{is_xid_start, is_xid_continue}

-- white space: tab, vertical tab, form feed, space, no-break space, and U+FEFF
abbrev pub is_blank : ℕ → Bool
is_blank c = c == 9 || c == 11 || c == 12 || c == 32 || c == 0xa0 || c == 0xfeff

-- line feed, carriage return, U+2028 and U+2029
abbrev pub is_line_end : ℕ → Bool
is_line_end c = c == 10 || c == 13 || c == 0x2028 || c == 0x2029

-- `$`, `_`, or XID_Start
abbrev pub starts_name : ℕ → Bool
starts_name c = c == 36 || c == 95 || is_xid_start c

-- `$`, `_`, U+200C, U+200D, or XID_Continue
abbrev pub continues_name : ℕ → Bool
continues_name c = c == 36 || c == 95 || c == 0x200c || c == 0x200d || is_xid_continue c

-- a digit, `.`, or what goes on a name: what belongs to a number, or makes it faulty
abbrev pub continues_number : ℕ → Bool
continues_number c = is_digit c 10 || c == 46 || continues_name c

-- `"` or `'`
abbrev pub is_quote : ℕ → Bool
is_quote c = c == 34 || c == 39

-- whether the next character is such a one
abbrev pub begins : (ℕ → Bool) → List ℕ → Bool
begins test [] = false
begins test (c ∷ cs) = test c

-- how many bytes the characters have in UTF-8
abbrev pub width : List ℕ → ℕ
width [] = 0
width (c ∷ cs) = len_utf8 c + width cs
