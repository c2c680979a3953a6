-- The machine is right about texts.
use Rattle.std.proofs.Common.{◌≡◌, ℕ, ◌+◌, ◌*◌, ◌-◌, ◌<◌, ◌≤◌, Bool, true, false, not, ◌&&◌, ◌||◌, List, [], ◌∷◌, ◌++◌, length, suc, nat_le, refl, sym, ap, subst, ◌∙◌, append_assoc, arith, inl, inr, ⊎_elim}
use Rattle.std.specs.Prelude.{◌==◌}
use Rattle.std.specs.List.{flat_map}
use Rattle.std.specs.Char.{is_digit, digit_value}
use Rattle.std.specs.Char.Escape.{encode_utf16}
use Rattle.std.proofs.lemmas.Bool.{cases_Bool, and_from, and_parts, or_parts, or_from, or_cases, eqb-true, ne_eqb, not_from_false, leb-true, le-leb}
use Rattle.std.proofs.lemmas.List.{append-nil}
use Rattle.std.proofs.lemmas.List.Concat.{flat_map-append}
use Rattle.mb_lexer.specs.declared.state.State.TheVariants.{InText, AfterText}
use Rattle.mb_lexer.specs.declared.state.Inside.{Inside}
use Rattle.mb_lexer.specs.declared.state.Inside.TheVariants.{Plain, Nul, Escape, Unicode, Digits, Open, Code}
use Rattle.mb_lexer.specs.declared.state.Move.TheVariants.{Goes, Adds, Fails}
use Rattle.mb_lexer.specs.Characters.{is_line_end, is_quote}
use Rattle.mb_lexer.specs.Strings.{Piece, plain, escaped, pair, four, braced, number_of, piece_text, units, stands_for, is_hex, is_piece, are_pieces}
use Rattle.mb_lexer.specs.Reading.{other}
use Rattle.mb_lexer.specs.machine.Machine.{run, plain_move, escape_move, hex_move, code_move, inside_move}
use Rattle.mb_lexer.proofs.Classes.{at_numeral}
use Rattle.mb_lexer.proofs.Steps.{machine}
use Rattle.mb_lexer.proofs.Quoted.{hex_value, hex_goes, hex_adds, code_goes}
use Rattle.mb_lexer.proofs.Worded.{list_all-push, number_push, run_fails}
use Rattle.mb_lexer.proofs.Open.{Told, IsOpen, IsRight, Quoting, Front, Follows, goes_on, adds_on}
use Rattle.mb_lexer.proofs.Telling.{fault_here}

pieces_push : (q : ℕ) (ps : List Piece) (p : Piece) (rest : List ℕ) → are_pieces q ps (piece_text p ++ rest) ≡ true → is_piece q p rest ≡ true → are_pieces q (ps ++ p ∷ []) rest ≡ true
pieces_push q [] p rest h g = and_from _ _ g refl
pieces_push q (o ∷ ps) p rest h g =
    let r : (is_piece q o (flat_map piece_text ps ++ (piece_text p ++ rest)) ≡ true) × (are_pieces q ps (piece_text p ++ rest) ≡ true) = and_parts _ _ h in
    let e : flat_map piece_text ps ++ (piece_text p ++ rest) ≡ flat_map piece_text (ps ++ p ∷ []) ++ rest = sym (append_assoc (flat_map piece_text ps) (piece_text p) rest) ∙ ap (λ xs. xs ++ rest) (sym (flat_push ps p)) in
    and_from _ _ (subst (λ xs. is_piece q o xs ≡ true) e r.0) (pieces_push q ps p rest r.1 g)
  where
    flat_push : (ps : List Piece) (p : Piece) → flat_map piece_text (ps ++ p ∷ []) ≡ flat_map piece_text ps ++ piece_text p
    flat_push ps p = flat_map-append piece_text ps (p ∷ []) ∙ ap (λ xs. flat_map piece_text ps ++ xs) (append-nil (piece_text p))

flat_one : {A : Type 0} (f : A → List ℕ) (xs : List A) (x : A) → flat_map f (xs ++ x ∷ []) ≡ flat_map f xs ++ f x
flat_one f xs x = flat_map-append f xs (x ∷ []) ∙ ap (λ ys. flat_map f xs ++ ys) (append-nil (f x))

-- the front of a piece grows by a character
front_grows : (q : ℕ) (i j : Inside) (us seen : List ℕ) (c : ℕ) (t : Quoting q i us seen) → ((rest : List ℕ) → Follows i (c ∷ rest)) → Front j (t.front ++ c ∷ []) → Quoting q j us (seen ++ c ∷ [])
front_grows q i j us seen c t f g = record {
  quoted = t.quoted;
  pieces = t.pieces;
  front = t.front ++ c ∷ [];
  seen_is = ap (λ xs. xs ++ c ∷ []) t.seen_is ∙ ap (λ xs. q ∷ xs) (append_assoc (flat_map piece_text t.pieces) t.front (c ∷ []));
  units_are = t.units_are;
  fits = λ rest h. ap (λ xs. are_pieces q t.pieces xs) (append_assoc t.front (c ∷ []) rest) ∙ t.fits (c ∷ rest) (f rest);
  front_is = g;
}

-- a piece ends with a character
piece_done : (q : ℕ) (i j : Inside) (us seen : List ℕ) (c code : ℕ) (p : Piece) (t : Quoting q i us seen) → ((rest : List ℕ) → Follows i (c ∷ rest)) → piece_text p ≡ t.front ++ c ∷ [] → units p ≡ encode_utf16 code
    → ((rest : List ℕ) → Follows j rest → is_piece q p rest ≡ true) → Front j [] → Quoting q j (us ++ encode_utf16 code) (seen ++ c ∷ [])
piece_done q i j us seen c code p t f e u g k = record {
  quoted = t.quoted;
  pieces = t.pieces ++ p ∷ [];
  front = [];
  seen_is = ap (λ xs. xs ++ c ∷ []) t.seen_is ∙ ap (λ xs. q ∷ xs) (append_assoc (flat_map piece_text t.pieces) t.front (c ∷ []) ∙ ap (λ xs. flat_map piece_text t.pieces ++ xs) (sym e) ∙ sym (flat_one piece_text t.pieces p) ∙ sym (append-nil (flat_map piece_text (t.pieces ++ p ∷ []))));
  units_are = (λ n. t.units_are n ++ sym u n) ∙ sym (flat_one units t.pieces p);
  fits = λ rest h. pieces_push q t.pieces p rest (ap (λ xs. are_pieces q t.pieces xs) (ap (λ xs. xs ++ rest) e ∙ append_assoc t.front (c ∷ []) rest) ∙ t.fits (c ∷ rest) (f rest)) (g rest h);
  front_is = k;
}

quote_no_digit : (q : ℕ) → is_quote q ≡ true → is_digit q 10 ≡ false
quote_no_digit q h = ⊎_elim (at_numeral (λ n. is_digit n 10 ≡ false) q 34 refl) (at_numeral (λ n. is_digit n 10 ≡ false) q 39 refl) (or_cases _ _ h)

hex_fails : (q left value c : ℕ) → is_hex c ≡ false → hex_move q left value c ≡ Fails
unfolding hex_move
hex_fails q left value c h = simp h

code_fails : (q value c : ℕ) → (is_hex c && nat_le (value * 16 + digit_value c) 0x10ffff) ≡ false → code_move q value c ≡ Fails
unfolding code_move
code_fails q value c h = simp h

plain_quote : (q c : ℕ) → (c == q) ≡ true → plain_move q c ≡ Goes AfterText
unfolding plain_move
plain_quote q c h = simp h

plain_escape : (q c : ℕ) → (c == q) ≡ false → (c == 92) ≡ true → plain_move q c ≡ Goes (InText q Escape)
unfolding plain_move
plain_escape q c h g = simp (h, g)

plain_fails : (q c : ℕ) → (c == q) ≡ false → (c == 92) ≡ false → (c == 10 || c == 13) ≡ true → plain_move q c ≡ Fails
unfolding plain_move
plain_fails q c h g e = simp (h, g, e)

plain_adds : (q c : ℕ) → (c == q) ≡ false → (c == 92) ≡ false → (c == 10 || c == 13) ≡ false → plain_move q c ≡ Adds (InText q Plain) c
unfolding plain_move
plain_adds q c h g e = simp (h, g, e)

escape_pair : (q c : ℕ) → (c == 120) ≡ true → escape_move q c ≡ Goes (InText q (Digits 2 0))
unfolding escape_move
escape_pair q c h = simp h

escape_unicode : (q c : ℕ) → (c == 120) ≡ false → (c == 117) ≡ true → escape_move q c ≡ Goes (InText q Unicode)
unfolding escape_move
escape_unicode q c h g = simp (h, g)

escape_nul : (q c : ℕ) → (c == 120) ≡ false → (c == 117) ≡ false → (c == 48) ≡ true → escape_move q c ≡ Adds (InText q Nul) 0
unfolding escape_move
escape_nul q c h g e = simp (h, g, e)

escape_fails : (q c : ℕ) → (c == 120) ≡ false → (c == 117) ≡ false → (c == 48) ≡ false → (is_digit c 10 || is_line_end c) ≡ true → escape_move q c ≡ Fails
unfolding escape_move
escape_fails q c h g e f = simp (h, g, e, f)

escape_adds : (q c : ℕ) → (c == 120) ≡ false → (c == 117) ≡ false → (c == 48) ≡ false → (is_digit c 10 || is_line_end c) ≡ false → escape_move q c ≡ Adds (InText q Plain) (stands_for c)
unfolding escape_move
escape_adds q c h g e f = simp (h, g, e, f)

-- one more digit, where more are to come, or as the last
more_digits : (q left value c : ℕ) (n : ℕ) → left ≡ n → is_hex c ≡ true → 1 < n → value < 4096 → hex_move q left value c ≡ Goes (InText q (Digits (n - 1) (value * 16 + digit_value c)))
more_digits q left value c n e h l v = ap (λ k. hex_move q k value c) e ∙ hex_goes q n value c h l v

last_digit : (q left value c : ℕ) → left ≡ 1 → is_hex c ≡ true → value < 4096 → hex_move q left value c ≡ Adds (InText q Plain) (value * 16 + digit_value c)
last_digit q left value c e h v = ap (λ k. hex_move q k value c) e ∙ hex_adds q value c h v

module _ (q c : ℕ) (cs : List ℕ) (from to : ℕ) (line : Bool) (us : List ℕ) (before : Bool) (seen : List ℕ) (right : IsRight cs) where
  -- the text is right up to this character
  abbrev pub Right : Inside → Type 0
  Right i = Told from before (seen ++ c ∷ cs) (run (machine (InText q i) from to line us) (c ∷ cs))

  text_fails : (i : Inside) → IsOpen (machine (InText q i) from to line us) before seen → inside_move q i c ≡ Fails → Right i
  text_fails i o h =
      let t : Quoting q i us seen = o.means.0 in
      fault_here (machine (InText q i) from to line us) before seen (c ∷ cs) other q (flat_map piece_text t.pieces ++ t.front) o t.seen_is (run_fails (machine (InText q i) from to line us) c cs h) (simp (quote_no_digit q t.quoted))

  text_grows : (i j : Inside) (o : IsOpen (machine (InText q i) from to line us) before seen) → inside_move q i c ≡ Goes (InText q j) → ((rest : List ℕ) → Follows i (c ∷ rest)) → Front j ((o.means.0).front ++ c ∷ []) → Right i
  text_grows i j o h f g = goes_on (machine (InText q i) from to line us) before seen c (InText q j) cs right o h (front_grows q i j us seen c o.means.0 f g, o.means.1)

  text_adds : (i j : Inside) (code : ℕ) (p : Piece) (o : IsOpen (machine (InText q i) from to line us) before seen) → inside_move q i c ≡ Adds (InText q j) code → ((rest : List ℕ) → Follows i (c ∷ rest)) → piece_text p ≡ (o.means.0).front ++ c ∷ [] → units p ≡ encode_utf16 code
      → ((rest : List ℕ) → Follows j rest → is_piece q p rest ≡ true) → Front j [] → Right i
  text_adds i j code p o h f e u g k = adds_on (machine (InText q i) from to line us) before seen c code (InText q j) cs right o h (piece_done q i j us seen c code p o.means.0 f e u g k, o.means.1)

  -- between pieces
  plain_step : (i : Inside) (o : IsOpen (machine (InText q i) from to line us) before seen) → inside_move q i c ≡ plain_move q c → ((rest : List ℕ) → Follows i (c ∷ rest)) → (o.means.0).front ≡ [] → Right i
  plain_step i o h f e =
      ⊎_elim (λ (y : (c == q) ≡ true). closes y)
      (λ (n : (c == q) ≡ false). ⊎_elim (λ (y : (c == 92) ≡ true). text_grows i Escape o (h ∙ plain_escape q c n y) f (ap (λ xs. xs ++ c ∷ []) e ∙ ap (λ d. d ∷ []) (eqb-true c 92 y)))
      (λ (m : (c == 92) ≡ false). ⊎_elim (λ (y : (c == 10 || c == 13) ≡ true). text_fails i o (h ∙ plain_fails q c n m y))
      (λ (k : (c == 10 || c == 13) ≡ false). text_adds i Plain c (plain c) o (h ∙ plain_adds q c n m k) f (sym (ap (λ xs. xs ++ c ∷ []) e)) refl (λ rest g. let r : ((c == 10) ≡ false) × ((c == 13) ≡ false) = or_parts _ _ k in not_from_false _ (or_from _ _ (or_from _ _ (or_from _ _ n m) r.0) r.1)) refl)
      (cases_Bool (c == 10 || c == 13)))
      (cases_Bool (c == 92)))
      (cases_Bool (c == q))
    where
      t : Quoting q i us seen
      t = o.means.0

      closes : (c == q) ≡ true → Right i
      closes y =
          let d : c ≡ q = eqb-true c q y in
          goes_on (machine (InText q i) from to line us) before seen c AfterText cs right o (h ∙ plain_quote q c y) (
            record {
              quote = q;
              pieces = t.pieces;
              quoted = t.quoted;
              form = ap (λ xs. xs ++ c ∷ []) t.seen_is ∙ ap (λ xs. q ∷ xs) (append_assoc (flat_map piece_text t.pieces) t.front (c ∷ []) ∙ ap (λ xs. flat_map piece_text t.pieces ++ xs) (ap (λ xs. xs ++ c ∷ []) e ∙ ap (λ n. n ∷ []) d));
              inside = ap (λ xs. are_pieces q t.pieces xs) (sym (ap (λ xs. xs ++ c ∷ []) e ∙ ap (λ n. n ∷ []) d)) ∙ t.fits (c ∷ []) (f []);
              units = t.units_are;
            },
            o.means.1,
          )

  -- after `\`
  escape_step : (o : IsOpen (machine (InText q Escape) from to line us) before seen) → Right Escape
  escape_step o =
      ⊎_elim (λ (y : (c == 120) ≡ true). text_grows Escape (Digits 2 0) o (escape_pair q c y) (λ rest. tt) (inl (next ∙ ap (λ d. 92 ∷ d ∷ []) (eqb-true c 120 y), refl, refl)))
      (λ (n : (c == 120) ≡ false). ⊎_elim (λ (y : (c == 117) ≡ true). text_grows Escape Unicode o (escape_unicode q c n y) (λ rest. tt) (next ∙ ap (λ d. 92 ∷ d ∷ []) (eqb-true c 117 y)))
      (λ (m : (c == 117) ≡ false). ⊎_elim (λ (y : (c == 48) ≡ true). nul n m y)
      (λ (z : (c == 48) ≡ false). ⊎_elim (λ (y : (is_digit c 10 || is_line_end c) ≡ true). text_fails Escape o (escape_fails q c n m z y))
      (λ (k : (is_digit c 10 || is_line_end c) ≡ false). text_adds Escape Plain (stands_for c) (escaped c) o (escape_adds q c n m z k) (λ rest. tt) (sym next) refl (λ rest g. as_piece rest n m z (or_parts _ _ k)) refl)
      (cases_Bool (is_digit c 10 || is_line_end c)))
      (cases_Bool (c == 48)))
      (cases_Bool (c == 117)))
      (cases_Bool (c == 120))
    where
      next : (o.means.0).front ++ c ∷ [] ≡ 92 ∷ c ∷ []
      next = ap (λ xs. xs ++ c ∷ []) (o.means.0).front_is

      nul : (c == 120) ≡ false → (c == 117) ≡ false → (c == 48) ≡ true → Right Escape
      nul n m y = text_adds Escape Nul 0 (escaped 48) o (escape_nul q c n m y) (λ rest. tt) (sym (next ∙ ap (λ d. 92 ∷ d ∷ []) (eqb-true c 48 y))) refl (λ rest g. not_from_false _ g) refl

      as_piece : (rest : List ℕ) → (c == 120) ≡ false → (c == 117) ≡ false → (c == 48) ≡ false → (is_digit c 10 ≡ false) × (is_line_end c ≡ false) → is_piece q (escaped c) rest ≡ true
      as_piece rest n m z k = rw z (not_from_false _ (or_from _ _ (or_from _ _ (or_from _ _ k.0 n) m) k.1))

  -- after the front of a code of two or four digits
  digits_step : (left value : ℕ) (o : IsOpen (machine (InText q (Digits left value)) from to line us) before seen) → Right (Digits left value)
  digits_step left value o = ⊎_elim (λ (h : is_hex c ≡ true). goes h) (λ (h : is_hex c ≡ false). text_fails (Digits left value) o (hex_fails q left value c h)) (cases_Bool (is_hex c))
    where
      t : Quoting q (Digits left value) us seen
      t = o.means.0

      next : (xs : List ℕ) → t.front ≡ xs → t.front ++ c ∷ [] ≡ xs ++ c ∷ []
      next xs e = ap (λ ys. ys ++ c ∷ []) e

      goes : is_hex c ≡ true → Right (Digits left value)
      goes h = ⊎_elim first (λ r. ⊎_elim second (λ s. ⊎_elim third (λ u. ⊎_elim fourth fifth u) s) r) t.front_is
        where
          first : (t.front ≡ 92 ∷ 120 ∷ []) × (left ≡ 2) × (value ≡ 0) → Right (Digits left value)
          first f =
              let v : value < 4096 = omega arith in
              text_grows (Digits left value) (Digits 1 (value * 16 + digit_value c)) o (more_digits q left value c 2 f.1 h (omega arith) v) (λ rest. tt) (inr (inl (c, next _ f.0, h, refl, ap (λ n. n * 16 + digit_value c) f.2)))

          second : (a : ℕ) × (t.front ≡ 92 ∷ 120 ∷ a ∷ []) × (is_hex a ≡ true) × (left ≡ 1) × (value ≡ number_of 16 (a ∷ [])) → Right (Digits left value)
          second f =
              let va : digit_value f.0 < 16 = hex_value f.0 f.2 in
              let v : value < 4096 = omega arith in
              text_adds (Digits left value) Plain (value * 16 + digit_value c) (pair f.0 c) o (last_digit q left value c f.3 h v) (λ rest. tt) (sym (next _ f.1)) (ap (λ n. encode_utf16 (n * 16 + digit_value c)) (sym f.4)) (λ rest g. and_from _ _ f.2 h) refl

          third : (a : ℕ) × (t.front ≡ 92 ∷ 117 ∷ a ∷ []) × (is_hex a ≡ true) × (left ≡ 3) × (value ≡ number_of 16 (a ∷ [])) → Right (Digits left value)
          third f =
              let va : digit_value f.0 < 16 = hex_value f.0 f.2 in
              let v : value < 4096 = omega arith in
              text_grows (Digits left value) (Digits 2 (value * 16 + digit_value c)) o (more_digits q left value c 3 f.3 h (omega arith) v) (λ rest. tt) (inr (inr (inr (inl (f.0, c, next _ f.1, f.2, h, refl, ap (λ n. n * 16 + digit_value c) f.4)))))

          fourth : (a : ℕ) × (b : ℕ) × (t.front ≡ 92 ∷ 117 ∷ a ∷ b ∷ []) × (is_hex a ≡ true) × (is_hex b ≡ true) × (left ≡ 2) × (value ≡ number_of 16 (a ∷ b ∷ [])) → Right (Digits left value)
          fourth f =
              let va : digit_value f.0 < 16 = hex_value f.0 f.3 in
              let vb : digit_value f.1 < 16 = hex_value f.1 f.4 in
              let v : value < 4096 = omega arith in
              text_grows (Digits left value) (Digits 1 (value * 16 + digit_value c)) o (more_digits q left value c 2 f.5 h (omega arith) v) (λ rest. tt) (inr (inr (inr (inr (f.0, f.1, c, next _ f.2, f.3, f.4, h, refl, ap (λ n. n * 16 + digit_value c) f.6)))))

          fifth : (a : ℕ) × (b : ℕ) × (d : ℕ) × (t.front ≡ 92 ∷ 117 ∷ a ∷ b ∷ d ∷ []) × (is_hex a ≡ true) × (is_hex b ≡ true) × (is_hex d ≡ true) × (left ≡ 1) × (value ≡ number_of 16 (a ∷ b ∷ d ∷ [])) → Right (Digits left value)
          fifth f =
              let va : digit_value f.0 < 16 = hex_value f.0 f.4 in
              let vb : digit_value f.1 < 16 = hex_value f.1 f.5 in
              let vd : digit_value f.2 < 16 = hex_value f.2 f.6 in
              let v : value < 4096 = omega arith in
              text_adds (Digits left value) Plain (value * 16 + digit_value c) (four f.0 f.1 f.2 c) o (last_digit q left value c f.7 h v) (λ rest. tt) (sym (next _ f.3)) (ap (λ n. encode_utf16 (n * 16 + digit_value c)) (sym f.8)) (λ rest g. and_from _ _ (and_from _ _ (and_from _ _ f.4 f.5) f.6) h) refl

  -- after `\u`
  unicode_step : (o : IsOpen (machine (InText q Unicode) from to line us) before seen) → Right Unicode
  unicode_step o =
      ⊎_elim (λ (y : (c == 123) ≡ true). text_grows Unicode Open o (simp y) (λ rest. tt) (next ∙ ap (λ d. 92 ∷ 117 ∷ d ∷ []) (eqb-true c 123 y)))
      (λ (n : (c == 123) ≡ false). ⊎_elim (λ (h : is_hex c ≡ true). text_grows Unicode (Digits 3 (0 * 16 + digit_value c)) o (simp n (hex_goes q 4 0 c h (omega arith) (omega arith))) (λ rest. tt) (inr (inr (inl (c, next, h, refl, refl)))))
      (λ (h : is_hex c ≡ false). text_fails Unicode o (simp n (hex_fails q 4 0 c h))) (cases_Bool (is_hex c)))
      (cases_Bool (c == 123))
    where
      next : (o.means.0).front ++ c ∷ [] ≡ 92 ∷ 117 ∷ c ∷ []
      next = ap (λ xs. xs ++ c ∷ []) (o.means.0).front_is

  -- after `\u{`
  open_step : (o : IsOpen (machine (InText q Open) from to line us) before seen) → Right Open
  open_step o =
      ⊎_elim (λ (y : (is_hex c && nat_le (0 * 16 + digit_value c) 0x10ffff) ≡ true). goes (and_parts _ _ y)) (λ (n : (is_hex c && nat_le (0 * 16 + digit_value c) 0x10ffff) ≡ false). text_fails Open o (code_fails q 0 c n)) (cases_Bool (is_hex c && nat_le (0 * 16 + digit_value c) 0x10ffff))
    where
      goes : (is_hex c ≡ true) × (nat_le (0 * 16 + digit_value c) 0x10ffff ≡ true) → Right Open
      goes p = text_grows Open (Code (0 * 16 + digit_value c)) o (code_goes q 0 c p.0 (leb-true _ _ p.1)) (λ rest. tt) (c ∷ [], ap (λ xs. xs ++ c ∷ []) (o.means.0).front_is, refl, and_from _ _ p.0 refl, refl, leb-true _ _ p.1)

  -- after `\u{` and digits
  code_step : (value : ℕ) (o : IsOpen (machine (InText q (Code value)) from to line us) before seen) → Right (Code value)
  code_step value o =
      ⊎_elim (λ (y : (c == 125) ≡ true). text_adds (Code value) Plain value (braced f.0) o (simp y) (λ rest. tt) (sym (next ∙ ap (λ d. 92 ∷ 117 ∷ 123 ∷ (f.0 ++ d ∷ [])) (eqb-true c 125 y))) (ap encode_utf16 (sym f.4)) (λ rest g. and_from _ _ (and_from _ _ f.2 f.3) (le-leb _ _ (subst (λ n. n ≤ 0x10ffff) f.4 f.5))) refl)
      (λ (n : (c == 125) ≡ false). ⊎_elim (λ (y : (is_hex c && nat_le (value * 16 + digit_value c) 0x10ffff) ≡ true). goes n (and_parts _ _ y)) (λ (m : (is_hex c && nat_le (value * 16 + digit_value c) 0x10ffff) ≡ false). text_fails (Code value) o (simp n (code_fails q value c m))) (cases_Bool (is_hex c && nat_le (value * 16 + digit_value c) 0x10ffff)))
      (cases_Bool (c == 125))
    where
      f : Front (Code value) (o.means.0).front
      f = (o.means.0).front_is

      next : (o.means.0).front ++ c ∷ [] ≡ 92 ∷ 117 ∷ 123 ∷ (f.0 ++ c ∷ [])
      next = ap (λ xs. xs ++ c ∷ []) f.1

      goes : (c == 125) ≡ false → (is_hex c ≡ true) × (nat_le (value * 16 + digit_value c) 0x10ffff ≡ true) → Right (Code value)
      goes n p = text_grows (Code value) (Code (value * 16 + digit_value c)) o (simp n (code_goes q value c p.0 (leb-true _ _ p.1))) (λ rest. tt)
          (f.0 ++ c ∷ [], next, some f.0, list_all-push is_hex f.0 c f.3 p.0, ap (λ k. k * 16 + digit_value c) f.4 ∙ sym (number_push 16 0 f.0 c), leb-true _ _ p.1)
        where
          some : (xs : List ℕ) → not (length (xs ++ c ∷ []) == 0) ≡ true
          some [] = refl
          some (x ∷ xs) = not_from_false _ (ne_eqb (suc (length (xs ++ c ∷ []))) 0 (λ e. omega arith))

  nul_step : (o : IsOpen (machine (InText q Nul) from to line us) before seen) → Right Nul
  nul_step o = ⊎_elim (λ (y : is_digit c 10 ≡ true). text_fails Nul o (simp y)) (λ (n : is_digit c 10 ≡ false). plain_step Nul o (simp n) (λ rest. n) (o.means.0).front_is) (cases_Bool (is_digit c 10))

  -- a text before a character
  pub text_step : (i : Inside) (o : IsOpen (machine (InText q i) from to line us) before seen) → Right i
  text_step Plain o = plain_step Plain o refl (λ rest. tt) (o.means.0).front_is
  text_step Nul o = nul_step o
  text_step Escape o = escape_step o
  text_step Unicode o = unicode_step o
  text_step (Digits left value) o = digits_step left value o
  text_step Open o = open_step o
  text_step (Code value) o = code_step value o
