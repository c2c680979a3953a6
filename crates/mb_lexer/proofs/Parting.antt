-- The machine passes over what parts tokens.
use Rattle.std.proofs.Common.{◌≡◌, ℕ, ◌+◌, Bool, true, false, not, cond, ◌&&◌, ◌||◌, List, [], ◌∷◌, ◌++◌, refl, sym, ap, ◌∙◌, append_assoc, add_assoc, zero-add, add-zero, arith}
use Rattle.std.specs.Prelude.{◌==◌}
use Rattle.std.specs.List.{flat_map, list_any}
use Rattle.std.specs.Char.{len_utf8}
use Rattle.std.proofs.lemmas.Bool.{true≢false, and_parts, or_parts, not-true}
use Rattle.mb_token.specs.declared.mark.Mark.TheVariants.{Slash}
use Rattle.mb_lexer.specs.declared.state.State.TheVariants.{Between, InLineComment, InBlockComment, InMark}
use Rattle.mb_lexer.specs.declared.state.Move.TheVariants.{Goes}
use Rattle.mb_lexer.specs.Characters.{is_line_end, begins, width}
use Rattle.mb_lexer.specs.Parts.{Part, space, line_comment, block_comment, part_text, is_part, are_parts, has_line, has_close}
use Rattle.mb_lexer.specs.machine.Machine.{Machine, idle, run, begun, opening_of, mark_move}
use Rattle.mb_lexer.proofs.Classes.{begun-space}
use Rattle.mb_lexer.proofs.Steps.{machine, to_same, between_same, run_goes, begin_goes, run_ends, Stops}
use Rattle.unicode_ident.proofs.Computing.{unicode_ident}

pub fresh_same : (at at' : ℕ) (line line' : Bool) (cs : List ℕ) → at ≡ at' → line ≡ line' → run (idle at line) cs ≡ run (idle at' line') cs
fresh_same at at' line line' cs e f = λ i. run (idle (e i) (f i)) cs

pub or_if : (line b : Bool) → (cond b true line) ≡ (line || b)
or_if true true = refl
or_if true false = refl
or_if false true = refl
or_if false false = refl

pub or_assoc : (a b c : Bool) → ((a || b) || c) ≡ (a || (b || c))
or_assoc true b c = refl
or_assoc false b c = refl

pub or_false : (a : Bool) → (a || false) ≡ a
or_false true = refl
or_false false = refl

pub begun-slash : begun 47 ≡ Goes (InMark Slash)
unfolding begun opening_of unicode_ident
begun-slash = refl

-- a line comment up to its end
pub in_line : (cs rest : List ℕ) (from to : ℕ) (line : Bool) (us : List ℕ) → list_any is_line_end cs ≡ false → run (machine InLineComment from to line us) (cs ++ rest) ≡ run (machine InLineComment from (to + width cs) line us) rest
in_line [] rest from to line us h = to_same InLineComment from to (to + 0) line us rest (omega arith)
in_line (c ∷ cs) rest from to line us h =
    let p : (is_line_end c ≡ false) × (list_any is_line_end cs ≡ false) = or_parts _ _ h in
    run_goes (machine InLineComment from to line us) c InLineComment (cs ++ rest) (simp (p.0))
    ∙ in_line cs rest from (to + len_utf8 c) line us p.1
    ∙ to_same InLineComment from _ _ line us rest (add_assoc to (len_utf8 c) (width cs))

line_stops : (m : Machine) (rest : List ℕ) → m.state ≡ InLineComment → begins (λ c. not (is_line_end c)) rest ≡ false → Stops m rest
line_stops m [] e h = tt
line_stops m (c ∷ cs) e h = rw e (simp (line_at c h))
  where
    line_at : (c : ℕ) → not (is_line_end c) ≡ false → is_line_end c ≡ true
    line_at c h = elim (is_line_end c) as (λ b. not b ≡ false → b ≡ true) [ true ↦ λ _. refl | false ↦ λ e. absurd (true≢false e) ] h

line_part : (cs rest : List ℕ) (at : ℕ) (line : Bool) → is_part (line_comment cs) rest ≡ true → run (idle at line) (47 ∷ 47 ∷ (cs ++ rest)) ≡ run (idle (at + (1 + (1 + width cs))) line) rest
unfolding mark_move
line_part cs rest at line h =
    let p : (not (list_any is_line_end cs) ≡ true) × (not (begins (λ c. not (is_line_end c)) rest) ≡ true) = and_parts _ _ h in
    begin_goes at line 47 (InMark Slash) (47 ∷ (cs ++ rest)) begun-slash
    ∙ in_line cs rest at (at + 1 + 1) line [] (not-true _ p.0)
    ∙ run_ends (machine InLineComment at (at + 1 + 1 + width cs) line []) [] rest refl (line_stops (machine InLineComment at (at + 1 + 1 + width cs) line []) rest refl (not-true _ p.1))
    ∙ fresh_same _ _ line line rest (omega arith) refl

-- a block comment up to its end
in_block : (cs rest : List ℕ) (star : Bool) (from to : ℕ) (line : Bool) (us : List ℕ) → has_close cs ≡ false → (star && begins (λ d. d == 47) cs) ≡ false
    → run (machine (InBlockComment star) from to line us) (cs ++ 42 ∷ 47 ∷ rest) ≡ run (idle (to + (width cs + 2)) (line || list_any is_line_end cs)) rest
in_block [] rest star from to line us h g =
    run_goes (machine (InBlockComment star) from to line us) 42 (InBlockComment true) (47 ∷ rest) (not_yet star)
    ∙ between_same from (to + 1 + 1) line us rest
    ∙ fresh_same _ _ _ _ rest (omega arith) (sym (or_false line))
  where
    not_yet : (b : Bool) → (cond (b && false) (Goes Between) (Goes (InBlockComment true))) ≡ Goes (InBlockComment true)
    not_yet true = refl
    not_yet false = refl
in_block (c ∷ cs) rest star from to line us h g =
    let p : ((c == 42 && begins (λ d. d == 47) cs) ≡ false) × (has_close cs ≡ false) = or_parts _ _ h in
    run_goes (machine (InBlockComment star) from to line us) c (InBlockComment (c == 42)) (cs ++ 42 ∷ 47 ∷ rest) (rw g refl)
    ∙ in_block cs rest (c == 42) from (to + len_utf8 c) (cond (is_line_end c) true line) us p.1 p.0
    ∙ fresh_same _ _ _ _ rest (omega arith) (ap (λ b. b || list_any is_line_end cs) (or_if line (is_line_end c)) ∙ or_assoc line (is_line_end c) (list_any is_line_end cs))

pub width-append : (xs ys : List ℕ) → width (xs ++ ys) ≡ width xs + width ys
width-append [] ys = sym (zero-add (width ys))
width-append (x ∷ xs) ys = ap (λ n. len_utf8 x + n) (width-append xs ys) ∙ sym (add_assoc (len_utf8 x) (width xs) (width ys))

block_part : (cs rest : List ℕ) (at : ℕ) (line : Bool) → is_part (block_comment cs) rest ≡ true
    → run (idle at line) (47 ∷ 42 ∷ ((cs ++ 42 ∷ 47 ∷ []) ++ rest)) ≡ run (idle (at + (1 + (1 + width (cs ++ 42 ∷ 47 ∷ [])))) (line || list_any is_line_end cs)) rest
unfolding mark_move
block_part cs rest at line h =
    ap (λ xs. run (idle at line) (47 ∷ 42 ∷ xs)) (append_assoc cs (42 ∷ 47 ∷ []) rest)
    ∙ begin_goes at line 47 (InMark Slash) (42 ∷ (cs ++ 42 ∷ 47 ∷ rest)) begun-slash
    ∙ in_block cs rest false at (at + 1 + 1) line [] (not-true _ h) refl
    ∙ fresh_same _ _ _ _ rest (rw (width-append cs (42 ∷ 47 ∷ [])) (omega arith)) refl

pub part_run : (p : Part) (rest : List ℕ) (at : ℕ) (line : Bool) → is_part p rest ≡ true → run (idle at line) (part_text p ++ rest) ≡ run (idle (at + width (part_text p)) (line || has_line p)) rest
part_run (space c) rest at line h =
    begin_goes at line c Between rest (begun-space c h)
    ∙ between_same at (at + len_utf8 c) (cond (is_line_end c) true line) [] rest
    ∙ fresh_same _ _ _ _ rest (omega arith) (or_if line (is_line_end c))
part_run (line_comment cs) rest at line h = line_part cs rest at line h ∙ fresh_same _ _ _ _ rest refl (sym (or_false line))
part_run (block_comment cs) rest at line h = block_part cs rest at line h

-- the machine passes over parts
pub parts_run : (ps : List Part) (rest : List ℕ) (at : ℕ) (line : Bool) → are_parts ps rest ≡ true
    → run (idle at line) (flat_map part_text ps ++ rest) ≡ run (idle (at + width (flat_map part_text ps)) (line || list_any has_line ps)) rest
parts_run [] rest at line h = fresh_same _ _ _ _ rest (sym (add-zero at)) (sym (or_false line))
parts_run (p ∷ ps) rest at line h =
    let g : (is_part p (flat_map part_text ps ++ rest) ≡ true) × (are_parts ps rest ≡ true) = and_parts _ _ h in
    ap (λ xs. run (idle at line) xs) (append_assoc (part_text p) (flat_map part_text ps) rest)
    ∙ part_run p (flat_map part_text ps ++ rest) at line g.0
    ∙ parts_run ps rest (at + width (part_text p)) (line || has_line p) g.1
    ∙ fresh_same _ _ _ _ rest (rw (width-append (part_text p) (flat_map part_text ps)) (omega arith)) (or_assoc line (has_line p) (list_any has_line ps))
