-- The pair of scripts of a load: the left one fills a list, and the right one adds its numbers up.
use Rattle.std.specs.Prelude.{ℕ, zero, suc, ◌+◌, ◌*◌, ◌/◌, ◌%◌, ◌^◌, ◌≤◌, List, [], ◌∷◌, ◌++◌, length, codes}
use Rattle.std.specs.Fmt.{decimal}

-- a text and its line feed
abbrev pub line : List ℕ → List ℕ
line text = text ++ 10 ∷ []

-- the number after that one, by a linear congruential generator
abbrev pub following : ℕ → ℕ
following number = (number * 1103515245 + 12345) % 2 ^ 31

-- the number that decides on the line of that place
abbrev pub number : ℕ → ℕ → ℕ
number start zero = start % 2 ^ 31
number start (suc place) = following (number start place)

-- the kind that a number decides on, from 0 to 3
abbrev pub kind_of : ℕ → ℕ
kind_of number = number / 65536 % 4

-- the element of a kind for some digits: an object, a frozen one, one with a getter, or an array
abbrev pub element : ℕ → List ℕ → List ℕ
element zero digits = codes "{ id: " ++ digits ++ codes " }"
element (suc zero) digits = codes "Object.freeze({ id: " ++ digits ++ codes " })"
element (suc (suc zero)) digits = codes "{ get id() { return " ++ digits ++ codes "; } }"
element _ digits = codes "[" ++ digits ++ codes "]"

-- the line that pushes the element of that kind and place
abbrev pub push_line : ℕ → ℕ → List ℕ
push_line kind place = line (codes "desk.list.push(" ++ element kind (decimal place) ++ codes ");")

-- the lines of the places from 1 to `size`
abbrev pub push_lines : ℕ → ℕ → List ℕ
push_lines start zero = []
push_lines start (suc size) = push_lines start size ++ push_line (kind_of (number start (suc size))) (suc size)

abbrev pub left_script : ℕ → ℕ → List ℕ
left_script start size = line (codes "desk.list = [];") ++ push_lines start size

abbrev pub right_script : List ℕ
right_script =
    line (codes "let sum = 0;")
    ++ line (codes "desk.list.forEach((x) => { let v = Array.isArray(x) ? x[0] : x.id; sum += v; });")
    ++ line (codes "print(sum);")

-- no script has more bytes than a text may have
abbrev pub ScriptsAreShort : Type 0
ScriptsAreShort =
    (start size : ℕ) → size ≤ 5000 → (length (left_script start size) ≤ 1048576) × (length right_script ≤ 1048576)
