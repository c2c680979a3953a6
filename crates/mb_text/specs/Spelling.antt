-- How a text is written for a reader, in UTF-8.
use Rattle.std.specs.Prelude.{ℕ, Bool, not, ◌==◌, ◌&&◌, ◌||◌, nat_le, nat_lt, List, [], ◌∷◌, ◌++◌, if◌then◌else◌, encode_utf8}
use Rattle.std.specs.Char.Escape.{hex_digit_at}
use Rattle.std.specs.Char.Utf16.{is_high_surrogate, is_low_surrogate, surrogate_pair_char}

-- `\u` and the four lower-case hexadecimal digits of a unit
abbrev pub unicode_escape : ℕ → List ℕ
unicode_escape u = 92 ∷ 117 ∷ hex_digit_at 0x1000 u ∷ hex_digit_at 0x100 u ∷ hex_digit_at 0x10 u ∷ hex_digit_at 1 u ∷ []

-- a control character of ASCII or a surrogate
abbrev pub is_escaped : ℕ → Bool
is_escaped u = (nat_lt u 0x20 || u == 0x7F) || (is_high_surrogate u || is_low_surrogate u)

-- a unit that is no part of a surrogate pair: 92 is `\`, 34 is `"`, 110 is `n` and 114 is `r`
abbrev pub spelled_unit : Bool → ℕ → List ℕ
spelled_unit quoted u =
    if u == 92 then 92 ∷ 92 ∷ []
    else (if u == 10 then 92 ∷ 110 ∷ []
    else (if u == 13 then 92 ∷ 114 ∷ []
    else (if quoted && u == 34 then 92 ∷ 34 ∷ []
    else (if is_escaped u then unicode_escape u
    else encode_utf8 u))))

-- a text, in quotes or not
abbrev pub spelled : Bool → List ℕ → List ℕ
spelled quoted [] = []
spelled quoted (u ∷ []) = spelled_unit quoted u
spelled quoted (u ∷ v ∷ us) =
    if is_high_surrogate u && is_low_surrogate v then encode_utf8 (surrogate_pair_char u v) ++ spelled quoted us
    else spelled_unit quoted u ++ spelled quoted (v ∷ us)

-- a character of ASCII that prints, other than `"` and `\`
abbrev pub is_plain : ℕ → Bool
is_plain u = (nat_le 32 u && nat_le u 126) && (not (u == 34) && not (u == 92))
