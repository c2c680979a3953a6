-- The text that two scripts of the first form print.
use Rattle.std.specs.Prelude.{ℕ, List, [], ◌∷◌, ◌++◌, ◌==◌, map, codes, false, if◌then◌else◌}
use Rattle.std.specs.Fmt.{decimal}
use Rattle.std.specs.List.{concat}
use Rattle.mb_base.specs.declared.value.Side.{Side}
use Rattle.mb_text.specs.Spelling.{spelled}
use Rattle.mb_cli.specs.Sides.{left_side, right_side}
use Rattle.mb_cli.specs.first_form.Form.{Literal, number, quoted}

-- the letter of a side: L for the left one, R for the right
abbrev pub letter_of : Side → ℕ
letter_of side = if side.0 == 0 then 76 else 82

-- the units of a literal's text
abbrev pub units_of : Literal → List ℕ
units_of (number n) = decimal n
units_of (quoted units) = units

-- the line that a side's statement prints: its letter, a blank, the text, spelled, and a line feed
abbrev pub line_of : Side → Literal → List ℕ
line_of side literal = letter_of side ∷ 32 ∷ (spelled false (units_of literal) ++ 10 ∷ [])

abbrev pub last_line : List ℕ
last_line = codes "= done" ++ 10 ∷ []

-- the lines, those of the left script first
abbrev pub lines_of : List Literal → List Literal → List (List ℕ)
lines_of left right = map (line_of left_side) left ++ map (line_of right_side) right ++ last_line ∷ []

abbrev pub text_of : List Literal → List Literal → List ℕ
text_of left right = concat (lines_of left right)
