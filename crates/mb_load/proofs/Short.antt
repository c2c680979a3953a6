-- How long the scripts are.
use Rattle.std.proofs.Common.{◌≡◌, ℕ, zero, suc, ◌+◌, ◌*◌, ◌≤◌, List, [], ◌∷◌, ◌++◌, length, codes, arith, length-append}
use Rattle.std.specs.Fmt.{decimal}
use Rattle.std.proofs.lemmas.Fmt.{length-decimal-le}
use Rattle.mb_load.specs.Pair.{line, number, kind_of, element, push_line, push_lines, ScriptsAreShort}

element_short : (kind : ℕ) (digits : List ℕ) → length (element kind digits) ≤ length digits + 25
element_short zero digits =
    let e : length (digits ++ codes " }") ≡ length digits + 2 = length-append digits (codes " }") in
    omega (arith, e)
element_short (suc zero) digits =
    let e : length (digits ++ codes " })") ≡ length digits + 3 = length-append digits (codes " })") in
    omega (arith, e)
element_short (suc (suc zero)) digits =
    let e : length (digits ++ codes "; } }") ≡ length digits + 5 = length-append digits (codes "; } }") in
    omega (arith, e)
element_short (suc (suc (suc kind))) digits =
    let e : length (digits ++ codes "]") ≡ length digits + 1 = length-append digits (codes "]") in
    omega (arith, e)

wrapped : (text : List ℕ) → length (line (codes "desk.list.push(" ++ text ++ codes ");")) ≡ length text + 18
wrapped text =
    let e : length (text ++ codes ");" ++ 10 ∷ []) ≡ length (text ++ codes ");") + 1 = length-append (text ++ codes ");") (10 ∷ []) in
    let f : length (text ++ codes ");") ≡ length text + 2 = length-append text (codes ");") in
    omega (arith, e, f)

push_line_short : (kind place : ℕ) → place ≤ 5000 → length (push_line kind place) ≤ 50
push_line_short kind place most =
    let d : length (decimal place) ≤ 4 = length-decimal-le 4 place (omega arith) (omega arith) (omega arith) in
    let e : length (element kind (decimal place)) ≤ length (decimal place) + 25 = element_short kind (decimal place) in
    let w : length (push_line kind place) ≡ length (element kind (decimal place)) + 18 = wrapped (element kind (decimal place)) in
    omega (arith, d, e, w)

push_lines_short : (start size : ℕ) → size ≤ 5000 → length (push_lines start size) ≤ size * 50
push_lines_short start zero most = omega arith
push_lines_short start (suc size) most =
    let rest : length (push_lines start size) ≤ size * 50 = push_lines_short start size (omega arith) in
    let kind : ℕ = kind_of (number start (suc size)) in
    let last : length (push_line kind (suc size)) ≤ 50 = push_line_short kind (suc size) most in
    let both : length (push_lines start (suc size)) ≡ length (push_lines start size) + length (push_line kind (suc size)) = length-append (push_lines start size) (push_line kind (suc size)) in
    omega (arith, rest, last, both)

pub scripts_are_short : ScriptsAreShort
scripts_are_short start size most =
    let lines : length (push_lines start size) ≤ size * 50 = push_lines_short start size most in
    (omega (arith, lines, most), omega arith)
