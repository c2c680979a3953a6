-- Where bytes are cut, and where they stop being UTF-8.
use Rattle.std.proofs.Common.{◌≡◌, ℕ, zero, suc, ◌+◌, ◌-◌, ◌≤◌, ◌<◌, Bool, true, false, inl, inr, List, [], ◌∷◌, ◌++◌, length, take, drop, refl, sym, ap, subst, ◌∙◌, arith, length-append, length-take, length-drop, take-append-drop, append_assoc}
use Rattle.std.proofs.Math.Seq.{take-append_seam, drop-append_seam}
use Rattle.std.proofs.lemmas.List.{take-append-le, drop-append-le, take-take, take_all}
use Rattle.std.specs.Char.{len_utf8}
use Rattle.std.specs.Prelude.{if◌then◌else◌}
use Rattle.std.specs.Str.{IsUtf8, IsValidUpTo, StartsWithNoChar, is_utf8}
use Rattle.std.specs.Str.Lossy.{valid_len_up_to, utf8_valid_len}
use Rattle.std.proofs.lemmas.Str.{is_utf8-from_IsUtf8}
use Rattle.std.proofs.lemmas.Bool.Decides.{leb_tells}
use Rattle.mb_lexer.proofs.Words.{empty_list}
use Rattle.std.proofs.lemmas.Str.{IsUtf8-append, IsUtf8-encode, length-encode, len_utf8_bounds}
use Rattle.std.proofs.lemmas.Str.{IsUtf8-drop, IsCharBoundary-from_take}
use Rattle.std.proofs.lemmas.Bool.{and_parts}
use lib.Seq.{take-add}
use lib.Utf8.{encode, encodes, scalars}

-- text after text is text
longer : (bs : List ℕ) (at w : ℕ) → IsUtf8 (take at bs) → IsUtf8 (take w (drop at bs)) → IsUtf8 (take (at + w) bs)
longer bs at w u v = subst IsUtf8 (sym (take-add at w bs)) (IsUtf8-append (take at bs) (take w (drop at bs)) u v)

-- a text begins with a character
begins_some : (l more : List ℕ) → IsUtf8 l → 0 < length l → StartsWithNoChar (l ++ more) → ⊥
begins_some l more u h n = by_chars u.0 u.1.0 u.1.1
  where
    by_chars : (cs : List ℕ) → scalars cs ≡ true → encodes cs ≡ l → ⊥
    by_chars [] p e = absurd (omega (arith, h, ap length e))
    by_chars (c ∷ cs) p e = n c (encodes cs ++ more) (and_parts _ _ p).0 (ap (λ k. k ++ more) (sym e) ∙ append_assoc (encode c) (encodes cs) more)

valid_to : (bs : List ℕ) (at : ℕ) → at < length bs → IsUtf8 (take at bs) → StartsWithNoChar (drop at bs) → IsValidUpTo bs at
valid_to bs at short front none = record {
  short = short;
  front = front;
  longest = λ m more u.
      let t : List ℕ = take m bs in
      let long : at < length t = omega (arith, short, more, length-take m bs) in
      let split : drop at bs ≡ drop at t ++ drop m bs = ap (drop at) (sym (take-append-drop m bs)) ∙ drop-append-le at t (drop m bs) (omega (arith, long)) in
      let w : IsUtf8 (take at t) = subst IsUtf8 (sym (take-take at m bs (omega (arith, more)))) front in
      begins_some (drop at t) (drop m bs) (IsUtf8-drop t at u (IsCharBoundary-from_take t at u (omega (arith, long)) w)) (omega (arith, long, length-drop at t)) (subst StartsWithNoChar split none);
}

-- nothing begins with a character
pub none_nil : StartsWithNoChar []
none_nil c rest s e =
    let b : (1 ≤ len_utf8 c) × (len_utf8 c ≤ 4) = len_utf8_bounds c in
    absurd (omega (arith, ap length e, length-append (encode c) rest, length-encode c))

-- a front of the same bytes
front_of : (xs more ys rest : List ℕ) → xs ++ more ≡ ys ++ rest → length ys ≤ length xs → xs ≡ ys ++ drop (length ys) xs
front_of xs more ys rest e h =
    sym (take-append-drop (length ys) xs)
    ∙ ap (λ zs. zs ++ drop (length ys) xs) (sym (take-append-le (length ys) xs more h) ∙ ap (take (length ys)) e ∙ take-append_seam ys rest)

-- after the longest text no character begins
pub none_after : (bs : List ℕ) (n : ℕ) → IsValidUpTo bs n → StartsWithNoChar (drop n bs)
none_after bs n v c rest s e =
    let b : (1 ≤ len_utf8 c) × (len_utf8 c ≤ 4) = len_utf8_bounds c in
    let t : take (length (encode c)) (drop n bs) ≡ encode c = ap (take (length (encode c))) e ∙ take-append_seam (encode c) rest in
    v.longest (n + length (encode c)) (omega (arith, length-encode c)) (longer bs n (length (encode c)) v.front (subst IsUtf8 (sym t) (IsUtf8-encode c s)))

-- text, and more that begins with no character
pub valid_front : (front more : List ℕ) → 0 < length more → IsUtf8 front → StartsWithNoChar more → IsValidUpTo (front ++ more) (length front)
valid_front front more h u n =
    valid_to (front ++ more) (length front) (omega (arith, length-append front more)) (subst IsUtf8 (sym (take-append_seam front more)) u) (subst StartsWithNoChar (sym (drop-append_seam front more)) n)

-- four bytes that begin with no character show it, whatever follows
pub still_none : (xs more : List ℕ) → 4 ≤ length xs → StartsWithNoChar xs → StartsWithNoChar (xs ++ more)
still_none xs more h n c rest s e =
    let b : (1 ≤ len_utf8 c) × (len_utf8 c ≤ 4) = len_utf8_bounds c in
    n c (drop (length (encode c)) xs) s (front_of xs more (encode c) rest e (omega (arith, length-encode c)))

-- and the bytes never become UTF-8
pub still_broken : (bs more : List ℕ) (n : ℕ) → IsValidUpTo bs n → n + 4 ≤ length bs → IsValidUpTo (bs ++ more) n
still_broken bs more n v h =
    let k : n ≤ length bs = omega (arith, h) in
    let l : 4 ≤ length (drop n bs) = omega (arith, h, length-drop n bs) in
    valid_to (bs ++ more) n (omega (arith, h, length-append bs more)) (subst IsUtf8 (sym (take-append-le n bs more k)) v.front)
    (subst StartsWithNoChar (sym (drop-append-le n bs more k)) (still_none (drop n bs) more l (none_after bs n v)))

-- no bytes begin with no character
pub none_empty : (bs : List ℕ) → length bs ≡ 0 → StartsWithNoChar bs
none_empty bs h = subst StartsWithNoChar (sym (empty_list bs h)) none_nil

-- the greatest front that is UTF-8 is the longest
step_longer : (bs : List ℕ) (n m : ℕ) (b : Bool) → is_utf8 (take (suc n) bs) ≡ b → (if b then suc n else valid_len_up_to bs n) < m → m ≤ suc n → is_utf8 (take m bs) ≡ true → (valid_len_up_to bs n < m) × (m ≤ n)
step_longer bs n m true e l h u = absurd (omega (arith, l, h))
step_longer bs n m false e l h u = (
  l,
  elim (leb_tells m n) [
    | inl k ↦ k.1
    | inr k ↦ let s : m ≡ suc n = omega (arith, k, h) in let t : true ≡ false = sym u ∙ ap (λ j. is_utf8 (take j bs)) s ∙ e in absurd cc
  ],
)

none_longer : (bs : List ℕ) (n m : ℕ) → valid_len_up_to bs n < m → m ≤ n → is_utf8 (take m bs) ≡ true → ⊥
none_longer bs zero m l h u = absurd (omega (arith, l, h))
none_longer bs (suc n) m l h u = let p = step_longer bs n m (is_utf8 (take (suc n) bs)) refl l h u in none_longer bs n m p.0 p.1 u

-- what comes after the longest text begins with no character
pub none_after_longest : (bs text more : List ℕ) → IsUtf8 text → bs ≡ text ++ more → length text ≡ utf8_valid_len bs → StartsWithNoChar more
unfolding utf8_valid_len
none_after_longest bs text more u w n c rest s e =
    let b : (1 ≤ len_utf8 c) × (len_utf8 c ≤ 4) = len_utf8_bounds c in
    let long : List ℕ = text ++ encode c in
    let split : bs ≡ long ++ rest = w ∙ ap (λ xs. text ++ xs) e ∙ sym (append_assoc text (encode c) rest) in
    let t : is_utf8 (take (length long) bs) ≡ true = ap (λ xs. is_utf8 (take (length long) xs)) split ∙ ap is_utf8 (take-append_seam long rest) ∙ is_utf8-from_IsUtf8 long (IsUtf8-append text (encode c) u (IsUtf8-encode c s)) in
    none_longer bs (length bs) (length long) (omega (arith, n, length-append text (encode c), length-encode c)) (omega (arith, ap length split, length-append long rest)) t

-- the same of the bytes from there on
pub none_from_longest : (bs text more : List ℕ) → IsUtf8 text → bs ≡ text ++ more → length text ≡ utf8_valid_len bs → StartsWithNoChar (take (length bs - length text) (drop (length text) bs))
none_from_longest bs text more u w n =
    let d : drop (length text) bs ≡ more = ap (drop (length text)) w ∙ drop-append_seam text more in
    let t : take (length bs - length text) (drop (length text) bs) ≡ more = ap (take (length bs - length text)) d ∙ take_all (length bs - length text) more (omega (arith, ap length w, length-append text more)) in
    subst StartsWithNoChar (sym t) (none_after_longest bs text more u w n)
