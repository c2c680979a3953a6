-- The machine reads texts.
use Rattle.std.proofs.Common.{◌≡◌, ℕ, ◌+◌, ◌-◌, ◌*◌, ◌%◌, ◌<◌, ◌≤◌, Bool, true, false, not, cond, ◌&&◌, ◌||◌, List, [], ◌∷◌, ◌++◌, length, nat_le, refl, sym, ap, ◌∙◌, append_assoc, add_assoc, add-zero, arith, ⊎_elim}
use Rattle.std.specs.Prelude.{◌==◌}
use Rattle.std.specs.List.{flat_map, list_all}
use Rattle.std.specs.Char.{len_utf8, is_digit, digit_value}
use Rattle.std.specs.Char.Escape.{encode_utf16}
use Rattle.std.proofs.lemmas.Bool.{true≢false, and_parts, or_parts, or_cases, not-true, eq-eqb, leb-true, le-leb, lt-leb, ltb-true, cases_Bool, false_from_ne_true}
use Rattle.std.proofs.lemmas.List.{append-nil}
use Rattle.mb_lexer.specs.declared.state.State.TheVariants.{InText, AfterText}
use Rattle.mb_lexer.specs.declared.state.Inside.{Inside}
use Rattle.mb_lexer.specs.declared.state.Inside.TheVariants.{Plain, Nul, Escape, Unicode, Digits, Open, Code}
use Rattle.mb_lexer.specs.declared.state.Move.TheVariants.{Goes, Adds}
use Rattle.mb_lexer.specs.Characters.{is_line_end, is_quote, begins, width}
use Rattle.mb_lexer.specs.Strings.{Piece, plain, escaped, pair, four, braced, number_from, number_of, piece_text, units, stands_for, is_hex, is_piece, are_pieces}
use Rattle.mb_lexer.specs.Tokens.{IsText, text}
use Rattle.mb_lexer.specs.machine.Machine.{Machine, idle, lexeme, after_tokens, run, move_of, plain_move, escape_move, hex_move, code_move}
use Rattle.mb_lexer.proofs.Classes.{begun-quote, at_numeral}
use Rattle.mb_lexer.proofs.Steps.{machine, run_goes, run_adds, begin_goes, run_ends, Stops}
use Rattle.mb_lexer.proofs.Parting.{width-append}

-- in a text: what counts is where, the offset of what comes next, and the units
abbrev pub quoted : ℕ → Inside → ℕ → ℕ → Bool → List ℕ → Machine
quoted q i from to line us = machine (InText q i) from to line us

pub quoted_same : (q : ℕ) (i : Inside) (from to to' : ℕ) (line : Bool) (us us' cs : List ℕ) → to ≡ to' → us ≡ us' → run (quoted q i from to line us) cs ≡ run (quoted q i from to' line us') cs
quoted_same q i from to to' line us us' cs e f = λ k. run (quoted q i from (e k) line (f k)) cs

pub hex_value : (c : ℕ) → is_hex c ≡ true → digit_value c < 16
hex_value c h = ltb-true (digit_value c) 16 h

pub hex_apart : (c n : ℕ) → is_hex n ≡ false → is_hex c ≡ true → (c == n) ≡ false
hex_apart c n e h = false_from_ne_true _ (λ s. true≢false (sym h ∙ at_numeral (λ d. is_hex d ≡ false) c n e s))

-- after `\0` another character than a digit is read as ever
nul_same : (q from to : ℕ) (line : Bool) (us cs : List ℕ) → begins (λ d. is_digit d 10) cs ≡ false → run (quoted q Nul from to line us) cs ≡ run (quoted q Plain from to line us) cs
nul_same q from to line us [] h = refl
nul_same q from to line us (c ∷ cs) h = simp h

plain_goes : (q c : ℕ) → not ((((c == q) || (c == 92)) || (c == 10)) || (c == 13)) ≡ true → move_of (InText q Plain) c ≡ Adds (InText q Plain) c
unfolding plain_move
plain_goes q c h =
    let o : ((((c == q) || (c == 92)) || (c == 10)) || (c == 13)) ≡ false = not-true _ h in
    let p : ((((c == q) || (c == 92)) || (c == 10)) ≡ false) × ((c == 13) ≡ false) = or_parts _ _ o in
    let r : (((c == q) || (c == 92)) ≡ false) × ((c == 10) ≡ false) = or_parts _ _ p.0 in
    let s : ((c == q) ≡ false) × ((c == 92) ≡ false) = or_parts _ _ r.0 in
    simp (s.0, s.1, r.1, p.1)

pub quote_not_escape : (q : ℕ) → is_quote q ≡ true → (92 == q) ≡ false
quote_not_escape q h = ⊎_elim (at_numeral (λ n. (92 == n) ≡ false) q 34 refl) (at_numeral (λ n. (92 == n) ≡ false) q 39 refl) (or_cases _ _ h)

pub escape_goes : (q : ℕ) → is_quote q ≡ true → move_of (InText q Plain) 92 ≡ Goes (InText q Escape)
unfolding plain_move
escape_goes q h = simp (quote_not_escape q h)

pub hex_goes : (q left value c : ℕ) → is_hex c ≡ true → 1 < left → value < 4096 → hex_move q left value c ≡ Goes (InText q (Digits (left - 1) (value * 16 + digit_value c)))
unfolding hex_move
hex_goes q left value c h l v =
    let e : value * 16 % 65536 ≡ value * 16 = omega arith in
    simp (h, lt-leb left 1 l, e)

pub hex_adds : (q value c : ℕ) → is_hex c ≡ true → value < 4096 → hex_move q 1 value c ≡ Adds (InText q Plain) (value * 16 + digit_value c)
unfolding hex_move
hex_adds q value c h v =
    let e : value * 16 % 65536 ≡ value * 16 = omega arith in
    simp (h, e)

unicode_goes : (q c : ℕ) → is_hex c ≡ true → move_of (InText q Unicode) c ≡ Goes (InText q (Digits 3 (0 * 16 + digit_value c)))
unicode_goes q c h = simp (hex_apart c 123 refl h) (hex_goes q 4 0 c h (omega arith) (omega arith))

-- `\` and a character
escaped_move : (q c : ℕ) → (not (((is_digit c 10 || (c == 120)) || (c == 117)) || is_line_end c) ≡ true) → (c == 48) ≡ false → move_of (InText q Escape) c ≡ Adds (InText q Plain) (stands_for c)
unfolding escape_move
escaped_move q c h z =
    let p : (((is_digit c 10 || (c == 120)) || (c == 117)) ≡ false) × (is_line_end c ≡ false) = or_parts _ _ (not-true _ h) in
    let r : ((is_digit c 10 || (c == 120)) ≡ false) × ((c == 117) ≡ false) = or_parts _ _ p.0 in
    let s : (is_digit c 10 ≡ false) × ((c == 120) ≡ false) = or_parts _ _ r.0 in
    simp (s.1, r.1, z, s.0, p.1)

pub code_grows : (ds : List ℕ) (n : ℕ) → n ≤ number_from 16 n ds
code_grows [] n = omega arith
code_grows (d ∷ ds) n = let h : n * 16 + digit_value d ≤ number_from 16 (n * 16 + digit_value d) ds = code_grows ds (n * 16 + digit_value d) in omega arith

pub code_goes : (q value c : ℕ) → is_hex c ≡ true → value * 16 + digit_value c ≤ 0x10ffff → code_move q value c ≡ Goes (InText q (Code (value * 16 + digit_value c)))
unfolding code_move
code_goes q value c h l = simp (h, le-leb (value * 16 + digit_value c) 0x10ffff l)

-- the digits of a code go on
in_code : (ds rest : List ℕ) (q value from to : ℕ) (line : Bool) (us : List ℕ) → list_all is_hex ds ≡ true → number_from 16 value ds ≤ 0x10ffff
    → run (quoted q (Code value) from to line us) (ds ++ rest) ≡ run (quoted q (Code (number_from 16 value ds)) from (to + width ds) line us) rest
in_code [] rest q value from to line us h l = quoted_same q (Code value) from _ _ line us us rest (sym (add-zero to)) refl
in_code (d ∷ ds) rest q value from to line us h l =
    let p : (is_hex d ≡ true) × (list_all is_hex ds ≡ true) = and_parts _ _ h in
    let n : ℕ = value * 16 + digit_value d in
    let g : n ≤ number_from 16 n ds = code_grows ds n in
    run_goes (quoted q (Code value) from to line us) d (InText q (Code n)) (ds ++ rest) (simp (hex_apart d 125 refl p.0) (code_goes q value d p.0 (omega arith)))
    ∙ in_code ds rest q n from (to + len_utf8 d) line us p.1 l
    ∙ quoted_same q (Code (number_from 16 n ds)) from _ _ line us us rest (add_assoc to (len_utf8 d) (width ds)) refl

braced_run : (ds rest : List ℕ) (q from to : ℕ) (line : Bool) (us : List ℕ) → not (length ds == 0) ≡ true → list_all is_hex ds ≡ true → number_of 16 ds ≤ 0x10ffff
    → run (quoted q Open from to line us) (ds ++ 125 ∷ rest) ≡ run (quoted q Plain from (to + (width ds + 1)) line (us ++ encode_utf16 (number_of 16 ds))) rest
braced_run [] rest q from to line us z h l = absurd (true≢false (sym z))
braced_run (d ∷ ds) rest q from to line us z h l =
    let p : (is_hex d ≡ true) × (list_all is_hex ds ≡ true) = and_parts _ _ h in
    let n : ℕ = 0 * 16 + digit_value d in
    let g : n ≤ number_from 16 n ds = code_grows ds n in
    run_goes (quoted q Open from to line us) d (InText q (Code n)) (ds ++ 125 ∷ rest) (code_goes q 0 d p.0 (omega arith))
    ∙ in_code ds (125 ∷ rest) q n from (to + len_utf8 d) line us p.1 l
    ∙ run_adds (quoted q (Code (number_from 16 n ds)) from (to + len_utf8 d + width ds) line us) 125 (number_from 16 n ds) (InText q Plain) rest refl
    ∙ quoted_same q Plain from _ _ line _ _ rest (let e : to + len_utf8 d + width ds + 1 ≡ to + (len_utf8 d + width ds + 1) = omega arith in e) refl

escaped_run : (q c : ℕ) (rest : List ℕ) (from to : ℕ) (line : Bool) (us : List ℕ) → is_piece q (escaped c) rest ≡ true
    → run (quoted q Escape from to line us) (c ∷ rest) ≡ run (quoted q Plain from (to + len_utf8 c) line (us ++ encode_utf16 (stands_for c))) rest
unfolding escape_move
escaped_run q c rest from to line us h =
    ⊎_elim
    (λ (z : (c == 48) ≡ true). at_numeral (λ d. is_piece q (escaped d) rest ≡ true → run (quoted q Escape from to line us) (d ∷ rest) ≡ run (quoted q Plain from (to + len_utf8 d) line (us ++ encode_utf16 (stands_for d))) rest) c 48
    (λ g. nul_same q from (to + 1) line (us ++ 0 ∷ []) rest (not-true _ g)) z h)
    (λ (z : (c == 48) ≡ false). run_adds (quoted q Escape from to line us) c (stands_for c) (InText q Plain) rest (escaped_move q c (rw z at h) z))
    (cases_Bool (c == 48))

-- a piece, and what comes after it
pub piece_run : (q : ℕ) (p : Piece) (rest : List ℕ) (from to : ℕ) (line : Bool) (us : List ℕ) → is_quote q ≡ true → is_piece q p rest ≡ true
    → run (quoted q Plain from to line us) (piece_text p ++ rest) ≡ run (quoted q Plain from (to + width (piece_text p)) line (us ++ units p)) rest
unfolding escape_move hex_move
piece_run q (plain c) rest from to line us k h =
    run_adds (quoted q Plain from to line us) c c (InText q Plain) rest (plain_goes q c h)
    ∙ quoted_same q Plain from _ _ line _ _ rest (let e : to + len_utf8 c ≡ to + (len_utf8 c + 0) = omega arith in e) refl
piece_run q (escaped c) rest from to line us k h =
    run_goes (quoted q Plain from to line us) 92 (InText q Escape) (c ∷ rest) (escape_goes q k)
    ∙ escaped_run q c rest from (to + 1) line us h
    ∙ quoted_same q Plain from _ _ line _ _ rest (let e : to + 1 + len_utf8 c ≡ to + (1 + (len_utf8 c + 0)) = omega arith in e) refl
piece_run q (pair a b) rest from to line us k h =
    let p : (is_hex a ≡ true) × (is_hex b ≡ true) = and_parts _ _ h in
    let va : digit_value a < 16 = hex_value a p.0 in
    run_goes (quoted q Plain from to line us) 92 (InText q Escape) (120 ∷ a ∷ b ∷ rest) (escape_goes q k)
    ∙ run_goes (quoted q Escape from (to + 1) line us) 120 (InText q (Digits 2 0)) (a ∷ b ∷ rest) refl
    ∙ run_goes (quoted q (Digits 2 0) from (to + 1 + 1) line us) a (InText q (Digits 1 (0 * 16 + digit_value a))) (b ∷ rest) (hex_goes q 2 0 a p.0 (omega arith) (omega arith))
    ∙ run_adds (quoted q (Digits 1 (0 * 16 + digit_value a)) from (to + 1 + 1 + len_utf8 a) line us) b (number_of 16 (a ∷ b ∷ [])) (InText q Plain) rest (hex_adds q (0 * 16 + digit_value a) b p.1 (omega arith))
    ∙ quoted_same q Plain from _ _ line _ _ rest (let e : to + 1 + 1 + len_utf8 a + len_utf8 b ≡ to + (1 + (1 + (len_utf8 a + (len_utf8 b + 0)))) = omega arith in e) refl
piece_run q (four a b c d) rest from to line us k h =
    let p : ((is_hex a && is_hex b && is_hex c) ≡ true) × (is_hex d ≡ true) = and_parts _ _ h in
    let r : ((is_hex a && is_hex b) ≡ true) × (is_hex c ≡ true) = and_parts _ _ p.0 in
    let s : (is_hex a ≡ true) × (is_hex b ≡ true) = and_parts _ _ r.0 in
    let va : digit_value a < 16 = hex_value a s.0 in
    let vb : digit_value b < 16 = hex_value b s.1 in
    let vc : digit_value c < 16 = hex_value c r.1 in
    let x : ℕ = 0 * 16 + digit_value a in
    let y : ℕ = x * 16 + digit_value b in
    let z : ℕ = y * 16 + digit_value c in
    let lx : x < 16 = omega arith in
    let ly : y < 256 = omega arith in
    let lz : z < 4096 = omega arith in
    run_goes (quoted q Plain from to line us) 92 (InText q Escape) (117 ∷ a ∷ b ∷ c ∷ d ∷ rest) (escape_goes q k)
    ∙ run_goes (quoted q Escape from (to + 1) line us) 117 (InText q Unicode) (a ∷ b ∷ c ∷ d ∷ rest) refl
    ∙ run_goes (quoted q Unicode from (to + 1 + 1) line us) a (InText q (Digits 3 x)) (b ∷ c ∷ d ∷ rest) (unicode_goes q a s.0)
    ∙ run_goes (quoted q (Digits 3 x) from (to + 1 + 1 + len_utf8 a) line us) b (InText q (Digits 2 y)) (c ∷ d ∷ rest) (hex_goes q 3 x b s.1 (omega arith) (omega arith))
    ∙ run_goes (quoted q (Digits 2 y) from (to + 1 + 1 + len_utf8 a + len_utf8 b) line us) c (InText q (Digits 1 z)) (d ∷ rest) (hex_goes q 2 y c r.1 (omega arith) (omega arith))
    ∙ run_adds (quoted q (Digits 1 z) from (to + 1 + 1 + len_utf8 a + len_utf8 b + len_utf8 c) line us) d (z * 16 + digit_value d) (InText q Plain) rest (hex_adds q z d p.1 lz)
    ∙ quoted_same q Plain from _ _ line _ _ rest (let e : to + 1 + 1 + len_utf8 a + len_utf8 b + len_utf8 c + len_utf8 d ≡ to + (1 + (1 + (len_utf8 a + (len_utf8 b + (len_utf8 c + (len_utf8 d + 0)))))) = omega arith in e) refl
piece_run q (braced ds) rest from to line us k h =
    let p : ((not (length ds == 0) && list_all is_hex ds) ≡ true) × (nat_le (number_of 16 ds) 0x10ffff ≡ true) = and_parts _ _ h in
    let r : (not (length ds == 0) ≡ true) × (list_all is_hex ds ≡ true) = and_parts _ _ p.0 in
    run_goes (quoted q Plain from to line us) 92 (InText q Escape) (117 ∷ 123 ∷ ((ds ++ 125 ∷ []) ++ rest)) (escape_goes q k)
    ∙ run_goes (quoted q Escape from (to + 1) line us) 117 (InText q Unicode) (123 ∷ ((ds ++ 125 ∷ []) ++ rest)) refl
    ∙ run_goes (quoted q Unicode from (to + 1 + 1) line us) 123 (InText q Open) ((ds ++ 125 ∷ []) ++ rest) refl
    ∙ ap (λ xs. run (quoted q Open from (to + 1 + 1 + 1) line us) xs) (append_assoc ds (125 ∷ []) rest)
    ∙ braced_run ds rest q from (to + 1 + 1 + 1) line us r.0 r.1 (leb-true _ _ p.1)
    ∙ quoted_same q Plain from _ _ line _ _ rest (rw (width-append ds (125 ∷ [])) (omega arith)) refl

-- pieces, and what comes after them
pub pieces_run : (q : ℕ) (ps : List Piece) (rest : List ℕ) (from to : ℕ) (line : Bool) (us : List ℕ) → is_quote q ≡ true → are_pieces q ps rest ≡ true
    → run (quoted q Plain from to line us) (flat_map piece_text ps ++ rest) ≡ run (quoted q Plain from (to + width (flat_map piece_text ps)) line (us ++ flat_map units ps)) rest
pieces_run q [] rest from to line us k h = quoted_same q Plain from _ _ line _ _ rest (sym (add-zero to)) (sym (append-nil us))
pieces_run q (p ∷ ps) rest from to line us k h =
    let g : (is_piece q p (flat_map piece_text ps ++ rest) ≡ true) × (are_pieces q ps rest ≡ true) = and_parts _ _ h in
    ap (λ xs. run (quoted q Plain from to line us) xs) (append_assoc (piece_text p) (flat_map piece_text ps) rest)
    ∙ piece_run q p (flat_map piece_text ps ++ rest) from to line us k g.0
    ∙ pieces_run q ps rest from (to + width (piece_text p)) line (us ++ units p) k g.1
    ∙ quoted_same q Plain from _ _ line _ _ rest (rw (width-append (piece_text p) (flat_map piece_text ps)) (omega arith)) (append_assoc us (units p) (flat_map units ps))

begins_seam : (test : ℕ → Bool) (zs : List ℕ) (q : ℕ) (xs ys : List ℕ) → begins test (zs ++ q ∷ xs) ≡ begins test (zs ++ q ∷ ys)
begins_seam test [] q xs ys = refl
begins_seam test (z ∷ zs) q xs ys = refl

piece_seam : (q : ℕ) (p : Piece) (zs xs ys : List ℕ) → is_piece q p (zs ++ q ∷ xs) ≡ is_piece q p (zs ++ q ∷ ys)
piece_seam q (plain c) zs xs ys = refl
piece_seam q (escaped c) zs xs ys = ap (λ b. cond (c == 48) (not b) (not (is_digit c 10 || c == 120 || c == 117 || is_line_end c))) (begins_seam (λ d. is_digit d 10) zs q xs ys)
piece_seam q (pair a b) zs xs ys = refl
piece_seam q (four a b c d) zs xs ys = refl
piece_seam q (braced ds) zs xs ys = refl

-- pieces end at their quote, whatever comes after it
pub pieces_seam : (q : ℕ) (ps : List Piece) (xs ys : List ℕ) → are_pieces q ps (q ∷ xs) ≡ are_pieces q ps (q ∷ ys)
pieces_seam q [] xs ys = refl
pieces_seam q (p ∷ ps) xs ys = λ i. piece_seam q p (flat_map piece_text ps) xs ys i && pieces_seam q ps xs ys i

pub closes : (q : ℕ) → move_of (InText q Plain) q ≡ Goes AfterText
unfolding plain_move
closes q = simp (eq-eqb q q refl)

after_text_stops : (m : Machine) (rest : List ℕ) → m.state ≡ AfterText → Stops m rest
after_text_stops m [] e = tt
after_text_stops m (c ∷ cs) e = rw e refl

-- a text, and what comes after it
pub text_run : (us cs rest : List ℕ) (at : ℕ) (line : Bool) → IsText us cs
    → run (idle at line) (cs ++ rest) ≡ after_tokens (lexeme (text us) at (at + width cs) line ∷ []) (run (idle (at + width cs) false) rest)
text_run us cs rest at line t =
    let q : ℕ = t.quote in
    let inner : List ℕ = flat_map piece_text t.pieces in
    let to : ℕ = at + len_utf8 q + width inner + len_utf8 q in
    let m : Machine = machine AfterText at to line (flat_map units t.pieces) in
    let e : to ≡ at + width cs = rw (t.form, width-append inner (q ∷ [])) (omega arith) in
    ap (λ xs. run (idle at line) xs) (ap (λ xs. xs ++ rest) t.form ∙ ap (λ xs. q ∷ xs) (append_assoc inner (q ∷ []) rest))
    ∙ begin_goes at line q (InText q Plain) (inner ++ q ∷ rest) (begun-quote q t.quoted)
    ∙ pieces_run q t.pieces (q ∷ rest) at (at + len_utf8 q) line [] t.quoted (pieces_seam q t.pieces rest [] ∙ t.inside)
    ∙ run_goes (quoted q Plain at (at + len_utf8 q + width inner) line (flat_map units t.pieces)) q AfterText rest (closes q)
    ∙ run_ends m (lexeme (text (flat_map units t.pieces)) at to line ∷ []) rest refl (after_text_stops m rest refl)
    ∙ (λ i. after_tokens (lexeme (text (sym t.units i)) at (e i) line ∷ []) (run (idle (e i) false) rest))
