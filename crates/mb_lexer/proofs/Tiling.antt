-- A text with tokens is a row of tokens and parts.
use Rattle.std.proofs.Common.{◌≡◌, ℕ, ◌+◌, ◌<◌, ◌≤◌, Bool, true, false, cond, ◌&&◌, List, [], ◌∷◌, ◌++◌, length, nat_le, nat_lt, refl, sym, ap, subst, ◌∙◌, append_assoc, add-zero, arith, inl, inr, ⊎_elim, ◌⊎◌, length-append}
use Rattle.std.specs.List.{flat_map}
use Rattle.std.specs.Str.{chars}
use lib.Utf8.{encode, encodes}
use Rattle.std.proofs.lemmas.Bool.{and_parts, le-leb, lt-leb, lt-ltb, le-ltb, cases_lt, and_right}
use Rattle.std.proofs.lemmas.Str.{length-encode, encodes-chars}
use Rattle.mb_lexer.specs.Characters.{width}
use Rattle.mb_lexer.specs.Parts.{Part, part_text, is_part, are_parts}
use Rattle.mb_lexer.specs.Reading.{Lexeme, end, Reads, HasTokens}
use Rattle.mb_lexer.specs.Stretches.{Stretch, token, part, holders, tokens_of, Stand, Tiles}
use Rattle.mb_lexer.proofs.Parting.{width-append}

pub width-bytes : (cs : List ℕ) → width cs ≡ length (encodes cs)
width-bytes [] = refl
width-bytes (c ∷ cs) = let e : width cs ≡ length (encodes cs) = width-bytes cs in omega (arith, length-append (encode c) (encodes cs), length-encode c)

-- the stretches follow one another without a hole
abbrev Follow : ℕ → List Stretch → ℕ → Type 0
Follow at [] to = at ≡ to
Follow at (token t ∷ ss) to = (t.from ≡ at) × (t.from ≤ t.to) × Follow t.to ss to
Follow at (part n p ∷ ss) to = (n ≡ at) × Follow (n + width (part_text p)) ss to

one_more : (k from to n : ℕ) (b : Bool) → b ≡ (nat_le from k && nat_lt k to) → ((k < from) ⊎ (to ≤ k) → cond b 1 0 + n ≡ n) × (from ≤ k → k < to → cond b 1 0 + n ≡ 1 + n)
one_more k from to n b e = (
  λ o. rw e (⊎_elim (λ (l : k < from). rw (lt-leb from k l) (let z : 0 + n ≡ n = omega arith in z)) (λ (l : to ≤ k). rw (le-ltb k to l, and_right (nat_le from k) false refl) (let z : 0 + n ≡ n = omega arith in z)) o),
  λ a l. rw (e, le-leb from k a, lt-ltb k to l) refl,
)

held : (k from to n : ℕ) → from ≤ k → k < to → cond (nat_le from k && nat_lt k to) 1 0 + n ≡ 1 + n
held k from to n a l = (one_more k from to n _ refl).1 a l

apart_from : (k from to n : ℕ) → (k < from) ⊎ (to ≤ k) → cond (nat_le from k && nat_lt k to) 1 0 + n ≡ n
apart_from k from to n o = (one_more k from to n _ refl).0 o

grows : (at : ℕ) (ss : List Stretch) (to : ℕ) → Follow at ss to → at ≤ to
grows at [] to h = omega arith
grows at (token t ∷ ss) to h = let g : t.to ≤ to = grows t.to ss to h.2 in let a : t.from ≡ at = h.0 in let b : t.from ≤ t.to = h.1 in omega arith
grows at (part n p ∷ ss) to h = let g : n + width (part_text p) ≤ to = grows (n + width (part_text p)) ss to h.1 in let a : n ≡ at = h.0 in omega arith

-- none before the first
none_before : (k at : ℕ) (ss : List Stretch) (to : ℕ) → Follow at ss to → k < at → holders k ss ≡ 0
none_before k at [] to h l = refl
none_before k at (token t ∷ ss) to h l = let a : t.from ≡ at = h.0 in let b : t.from ≤ t.to = h.1 in apart_from k t.from t.to (holders k ss) (inl (omega arith)) ∙ none_before k t.to ss to h.2 (omega arith)
none_before k at (part n p ∷ ss) to h l = let a : n ≡ at = h.0 in apart_from k n (n + width (part_text p)) (holders k ss) (inl (omega arith)) ∙ none_before k (n + width (part_text p)) ss to h.1 (omega arith)

-- and one between the first and the end
one_within : (k at : ℕ) (ss : List Stretch) (to : ℕ) → Follow at ss to → at ≤ k → k < to → holders k ss ≡ 1
one_within k at [] to h a l = absurd (omega arith)
one_within k at (token t ∷ ss) to h a l =
    let f : t.from ≡ at = h.0 in
    let w : t.from ≤ t.to = h.1 in
    ⊎_elim (λ (b : k < t.to). held k t.from t.to (holders k ss) (omega arith) b ∙ ap (λ n. 1 + n) (none_before k t.to ss to h.2 b))
    (λ (b : t.to ≤ k). apart_from k t.from t.to (holders k ss) (inr b) ∙ one_within k t.to ss to h.2 b l) (cases_lt k t.to)
one_within k at (part n p ∷ ss) to h a l =
    let f : n ≡ at = h.0 in
    ⊎_elim (λ (b : k < n + width (part_text p)). held k n (n + width (part_text p)) (holders k ss) (omega arith) b ∙ ap (λ n. 1 + n) (none_before k (n + width (part_text p)) ss to h.1 b))
    (λ (b : n + width (part_text p) ≤ k). apart_from k n (n + width (part_text p)) (holders k ss) (inr b) ∙ one_within k (n + width (part_text p)) ss to h.1 b l) (cases_lt k (n + width (part_text p)))

-- a row of stretches for characters from an offset on
record Row (at : ℕ) (cs : List ℕ) (ts : List Lexeme) : Type 0 where
  stretches : List Stretch
  stand : Stand stretches cs
  tokens : tokens_of stretches ≡ ts
  follow : Follow at stretches (at + width cs)

-- parts before a row
with_parts : (ps : List Part) (at : ℕ) (rest : List ℕ) (ts : List Lexeme) → are_parts ps rest ≡ true → Row (at + width (flat_map part_text ps)) rest ts → Row at (flat_map part_text ps ++ rest) ts
with_parts [] at rest ts h r = record { stretches = r.stretches; stand = r.stand; tokens = r.tokens; follow = subst (λ n. Follow n r.stretches (n + width rest)) (add-zero at) r.follow }
with_parts (p ∷ ps) at rest ts h r =
    let g : (is_part p (flat_map part_text ps ++ rest) ≡ true) × (are_parts ps rest ≡ true) = and_parts _ _ h in
    let w : width (part_text p ++ flat_map part_text ps) ≡ width (part_text p) + width (flat_map part_text ps) = width-append (part_text p) (flat_map part_text ps) in
    let n : at + width (part_text p ++ flat_map part_text ps) ≡ at + width (part_text p) + width (flat_map part_text ps) = omega arith in
    let s : Row (at + width (part_text p)) (flat_map part_text ps ++ rest) ts = with_parts ps (at + width (part_text p)) rest ts g.1 (subst (λ k. Row k rest ts) n r) in
    let e : (part_text p ++ flat_map part_text ps) ++ rest ≡ part_text p ++ (flat_map part_text ps ++ rest) = append_assoc (part_text p) (flat_map part_text ps) rest in
    let v : width (part_text p ++ (flat_map part_text ps ++ rest)) ≡ width (part_text p) + width (flat_map part_text ps ++ rest) = width-append (part_text p) (flat_map part_text ps ++ rest) in
    let to : at + width (part_text p) + width (flat_map part_text ps ++ rest) ≡ at + width ((part_text p ++ flat_map part_text ps) ++ rest) = rw e (omega arith) in
    record {
      stretches = part at p ∷ s.stretches;
      stand = (flat_map part_text ps ++ rest, e, g.0, s.stand);
      tokens = s.tokens;
      follow = (refl, subst (λ k. Follow (at + width (part_text p)) s.stretches k) to s.follow);
    }

-- a text with tokens is a row
row : (ts : List Lexeme) (at : ℕ) (line : Bool) (cs : List ℕ) → Reads at line cs ts end → Row at cs ts
row [] at line cs g = subst (λ xs. Row at xs []) (sym (g.1).whole) (with_parts g.0 at [] [] (g.1).each (record { stretches = []; stand = refl; tokens = refl; follow = sym (add-zero _) }))
row (t ∷ ts) at line cs g =
    let r : Row t.to g.2 ts = row ts t.to false g.2 g.8 in
    let from : t.from ≡ at + width (flat_map part_text g.0) = g.5 in
    let to : t.to ≡ t.from + width g.1 = g.6 in
    let w : width (g.1 ++ g.2) ≡ width g.1 + width g.2 = width-append g.1 g.2 in
    subst (λ xs. Row at xs (t ∷ ts)) (sym (g.3).whole) (with_parts g.0 at (g.1 ++ g.2) (t ∷ ts) (g.3).each (record {
      stretches = token t ∷ r.stretches;
      stand = (g.1, g.2, refl, g.4, r.stand);
      tokens = ap (λ us. t ∷ us) r.tokens;
      follow = (from, omega arith, subst (λ k. Follow t.to r.stretches k) (omega arith) r.follow);
    }))

pub tiles : (bytes : List ℕ) (ts : List Lexeme) → HasTokens bytes ts → Tiles bytes ts
tiles bytes ts h =
    let r : Row 0 (chars bytes) ts = row ts 0 false (chars bytes) h.1 in
    let w : width (chars bytes) ≡ length bytes = width-bytes (chars bytes) ∙ ap length (encodes-chars bytes h.0) in
    (r.stretches, r.stand, r.tokens, λ k l. one_within k 0 r.stretches (0 + width (chars bytes)) r.follow (omega arith) (omega arith))
