-- A text between two quotes.
use Rattle.std.proofs.Common.{◌≡◌, ℕ, ◌+◌, ◌-◌, ◌<◌, true, List, [], ◌∷◌, ◌++◌, suc, length, take, drop, get_or, arith, refl, sym, ap, ◌∙◌, drop-cons}
use Rattle.std.specs.List.{list_all, prefix_len}
use Rattle.std.proofs.lemmas.Grind.{common_steps}
use Rattle.std.proofs.lemmas.List.{take-append-drop}
use Rattle.mb_text.specs.Spelling.{is_plain}
use Rattle.mb_cli.specs.first_form.Lexemes.{Meaning, text, IsAtFront}
use Rattle.mb_cli.proofs.first_form.Runs.{front_passes, rest_stops}
use Rattle.mb_cli.proofs.first_form.Steps.{run_unique, sort_of, sort_of_byte, stands-sort}

-- `&bytes[1..]`
abbrev pub inside_of : List ℕ → List ℕ
inside_of bytes = take (length bytes - 1) (drop 1 bytes)

pub inside-cons : (b : ℕ) (bs : List ℕ) → inside_of (b ∷ bs) ≡ bs
inside-cons b bs = grind (arith, common_steps)

pub length-inside : (bytes : List ℕ) → length (inside_of bytes) ≡ length bytes - 1
length-inside bytes = grind (arith, common_steps)

-- what may stand in a text stops before the quote
pub quoted_is : (bytes units rest : List ℕ) → IsAtFront (text units) bytes rest
    → (units ≡ take (prefix_len is_plain (inside_of bytes)) (inside_of bytes)) × ((34 ∷ rest) ≡ drop (prefix_len is_plain (inside_of bytes)) (inside_of bytes))
quoted_is bytes units rest s =
    let it : inside_of bytes ≡ units ++ (34 ∷ rest) = ap inside_of s.0 ∙ inside-cons 34 (units ++ (34 ∷ rest)) in
    let k = prefix_len is_plain (inside_of bytes) in
    run_unique is_plain units (take k (inside_of bytes)) (34 ∷ rest) (drop k (inside_of bytes)) s.1 (front_passes is_plain (inside_of bytes)) refl (rest_stops is_plain (inside_of bytes))
    (sym it ∙ sym (take-append-drop k (inside_of bytes)))

-- no text where the bytes end before the quote
pub no_quote_end : (bytes units rest : List ℕ) → prefix_len is_plain (inside_of bytes) ≡ length (inside_of bytes) → IsAtFront (text units) bytes rest → ⊥
no_quote_end bytes units rest e s =
    let found = ap length (quoted_is bytes units rest s).1 in
    grind (arith, common_steps, found, e)

-- and none where another byte stands there
pub no_quote_other : (bytes units rest : List ℕ) → prefix_len is_plain (inside_of bytes) < length (inside_of bytes)
    → (get_or (inside_of bytes) (prefix_len is_plain (inside_of bytes)) 0 ≡ 34 → ⊥) → IsAtFront (text units) bytes rest → ⊥
no_quote_other bytes units rest lt other s =
    let k = prefix_len is_plain (inside_of bytes) in
    let front : (34 ∷ rest) ≡ get_or (inside_of bytes) k 0 ∷ drop (suc k) (inside_of bytes) = (quoted_is bytes units rest s).1 ∙ drop-cons (inside_of bytes) k 0 lt in
    let same : 34 ≡ get_or (inside_of bytes) k 0 = cc in
    other (sym same)

-- a text stands where the quote does
pub quoted_stands : (bytes : List ℕ) → 0 < length bytes → get_or bytes 0 0 ≡ 34 → prefix_len is_plain (inside_of bytes) < length (inside_of bytes)
    → get_or (inside_of bytes) (prefix_len is_plain (inside_of bytes)) 0 ≡ 34
    → IsAtFront (text (take (prefix_len is_plain (inside_of bytes)) (inside_of bytes))) bytes (drop (prefix_len is_plain (inside_of bytes) + 2) bytes)
quoted_stands [] some quote lt end = absurd (omega arith)
quoted_stands (b ∷ bs) some quote lt end = from (inside_of (b ∷ bs)) (inside-cons b bs) lt end
  where
    from : (xs : List ℕ) → xs ≡ bs → prefix_len is_plain xs < length xs → get_or xs (prefix_len is_plain xs) 0 ≡ 34
        → ((b ∷ bs) ≡ 34 ∷ (take (prefix_len is_plain xs) xs ++ (34 ∷ drop (prefix_len is_plain xs + 2) (b ∷ bs)))) × (list_all is_plain (take (prefix_len is_plain xs) xs) ≡ true)
    from xs e lt end =
        let k = prefix_len is_plain xs in
        let two : k + 2 ≡ suc (suc k) = omega arith in
        let after : drop (k + 2) (b ∷ bs) ≡ drop (suc k) xs = ap (λ n. drop n (b ∷ bs)) two ∙ ap (drop (suc k)) (sym e) in
        let rest : drop k xs ≡ 34 ∷ drop (k + 2) (b ∷ bs) = drop-cons xs k 0 lt ∙ ap (λ c. c ∷ drop (suc k) xs) end ∙ ap (λ t. 34 ∷ t) (sym after) in
        (ap (λ c. c ∷ bs) quote ∙ ap (λ t. 34 ∷ t) (sym e ∙ sym (take-append-drop k xs) ∙ ap (λ t. take k xs ++ t) rest), front_passes is_plain xs)

-- at a quote no token but a text stands
pub other_at_quote : (bytes : List ℕ) → 0 < length bytes → get_or bytes 0 0 ≡ 34 → ((units rest : List ℕ) → IsAtFront (text units) bytes rest → ⊥)
    → (token : Meaning) (rest : List ℕ) → IsAtFront token bytes rest → ⊥
other_at_quote [] some quote none token rest s = absurd (omega arith)
other_at_quote (b ∷ bs) some quote none (text units) rest s = none units rest s
other_at_quote (b ∷ bs) some quote none token rest s =
    let sort : sort_of_byte (b ∷ bs) ≡ 34 = ap (λ c. sort_of_byte (c ∷ bs)) quote in
    let same : 34 ≡ sort_of token = sym sort ∙ stands-sort token (b ∷ bs) rest s in
    absurd (omega (arith, same))
