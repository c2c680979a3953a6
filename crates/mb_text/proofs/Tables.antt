-- The ordered index of a table of texts.
use Rattle.std.proofs.Common.{◌≡◌, ℕ, ◌+◌, suc, arith, Bool, true, false, ◌||◌, List, [], ◌∷◌, ◌++◌, length, Option, slice_get, Some, None, is_some, if◌then◌else◌, Vec, refl, sym, ap, ◌∙◌, true≢false}
use Rattle.std.proofs.lemmas.Bool.{or_parts}
use Rattle.std.proofs.Math.Seq.{get_or-append_seam}
use Rattle.std.proofs.lemmas.Cmp.{nat_list_eq_equiv}
use Rattle.std.proofs.lemmas.List.{map-append, length-map, length-append}
use Rattle.std.proofs.lemmas.Map.Keys.{IsDistinct-push}
use Rattle.std.proofs.lemmas.Map.Text.{is_eq-slice_cmp}
use Rattle.std.proofs.lemmas.Option.{slice_get_read}
use Rattle.std.specs.BTreeMap.{insert_entry}
use Rattle.std.specs.Cmp.Lexicographic.{bytes_decides, slice_cmp}
use Rattle.std.specs.declared.cmp.Ordering.{Ordering}
use Rattle.std.specs.declared.cmp.Ordering.TheVariants.{Less, Equal, Greater}
use Rattle.std.specs.Ordering.{is_eq, nat_cmp, match_ordering}
use Rattle.std.specs.Str.{bytes_eq as same_text}
use Rattle.mb_base.specs.declared.value.StrId.{StrId}
use Rattle.mb_text.specs.Texts.{has_text, with_text, texts_of, AreDistinct}
use Rattle.mb_text.specs.machine.Ordered.{id_from, indexed, IsIndexOf}

-- a table that has the text already stays as it is
pub with_text-there : (texts : List (List ℕ)) (t : List ℕ) → has_text texts t ≡ true → with_text texts t ≡ texts
with_text-there texts t there = ap (λ b. if b then texts else texts ++ t ∷ []) there

-- a table that hasn't the text gets it last
pub with_text-new : (texts : List (List ℕ)) (t : List ℕ) → has_text texts t ≡ false → with_text texts t ≡ texts ++ t ∷ []
with_text-new texts t there = ap (λ b. if b then texts else texts ++ t ∷ []) there

-- the id of a text is its place
pub placed : (first : ℕ) (texts : List (List ℕ)) (t : List ℕ) (id : StrId) → id_from first texts t ≡ Some id → (k : ℕ) × (id.0 ≡ first + k) × (slice_get texts k ≡ Some t)
placed first [] t id h = cc
placed first (x ∷ xs) t id h = by (same_text t x) refl (placed (first + 1) xs t id)
  where
    by : (b : Bool) → same_text t x ≡ b → (id_from (first + 1) xs t ≡ Some id → (k : ℕ) × (id.0 ≡ first + 1 + k) × (slice_get xs k ≡ Some t)) → (k : ℕ) × (id.0 ≡ first + k) × (slice_get (x ∷ xs) k ≡ Some t)
    by true e rest =
        let is : Some (let one : StrId = record { 0 = first } in one) ≡ Some id = sym (ap (λ b. if b then Some (record { 0 = first }) else id_from (first + 1) xs t) e) ∙ h in
        let same : first ≡ id.0 = cc in
        (0, omega arith, ap Some (sym ((bytes_decides t x).0 e)))
    by false e rest =
        let found = rest (sym (ap (λ b. if b then Some (record { 0 = first }) else id_from (first + 1) xs t) e) ∙ h) in
        (suc found.0, omega (arith, found.1), found.2)

-- a text has an id where it is in the table, and nowhere else
pub is_some-id_from : (first : ℕ) (texts : List (List ℕ)) (t : List ℕ) → is_some (id_from first texts t) ≡ has_text texts t
is_some-id_from first [] t = refl
is_some-id_from first (x ∷ xs) t = by (same_text t x) (is_some-id_from (first + 1) xs t)
  where
    by : (b : Bool) → is_some (id_from (first + 1) xs t) ≡ has_text xs t → is_some (if b then Some (let one : StrId = record { 0 = first } in one) else id_from (first + 1) xs t) ≡ (b || has_text xs t)
    by true rest = refl
    by false rest = rest

-- two texts that are one to a third are one
one : (q t x : List ℕ) → same_text q t ≡ true → same_text q x ≡ true → same_text t x ≡ true
one q t x first second = (bytes_decides t x).1 (sym ((bytes_decides q t).0 first) ∙ (bytes_decides q x).0 second)

-- a new text gets the next id, and the others keep theirs
pub id_from-push : (first : ℕ) (texts : List (List ℕ)) (t q : List ℕ) → has_text texts t ≡ false → id_from first (texts ++ t ∷ []) q ≡ (if same_text q t then Some (record { 0 = first + length texts }) else id_from first texts q)
id_from-push first [] t q new = let e : first ≡ first + 0 = omega arith in ap (λ n. if same_text q t then Some (let one : StrId = record { 0 = n } in one) else None) e
id_from-push first (x ∷ xs) t q new =
    by (same_text q x) (same_text q t) refl refl (id_from-push (first + 1) xs t q (or_parts _ _ new).1)
  where
    next : first + 1 + length xs ≡ first + length (x ∷ xs)
    next = omega arith

    by : (b d : Bool) → same_text q x ≡ b → same_text q t ≡ d
        → id_from (first + 1) (xs ++ t ∷ []) q ≡ (if d then Some (record { 0 = first + 1 + length xs }) else id_from (first + 1) xs q)
        → (if b then Some (let here : StrId = record { 0 = first } in here) else id_from (first + 1) (xs ++ t ∷ []) q) ≡ (if d then Some (record { 0 = first + length (x ∷ xs) }) else (if b then Some (record { 0 = first }) else id_from (first + 1) xs q))
    by true true e f rest = absurd (true≢false (sym (one q t x f e) ∙ (or_parts _ _ new).0))
    by true false e f rest = refl
    by false true e f rest = rest ∙ ap (λ n. Some (let one : StrId = record { 0 = n } in one)) next
    by false false e f rest = rest

module _ {A : Type 0} where
  -- how two keys of the index stand to each other
  abbrev pub between : Vec ℕ A → Vec ℕ A → Ordering
  between x y = slice_cmp nat_cmp x.items y.items

  -- two keys of which the first is above the second hold different texts
  apart : (key other : Vec ℕ A) (q : List ℕ) → between key other ≡ Greater → same_text q key.items ≡ true → same_text q other.items ≡ true → ⊥
  apart key other q above e f =
      true≢false (sym (one q key.items other.items e f) ∙ sym (is_eq-slice_cmp key.items other.items) ∙ ap is_eq above)

  -- the index after a new text
  pub indexed-insert_entry : (entries : List (Vec ℕ A × StrId)) (key : Vec ℕ A) (id : StrId) (q : List ℕ) → indexed entries key.items ≡ None → indexed (insert_entry between entries key id) q ≡ (if same_text q key.items then Some id else indexed entries q)
  indexed-insert_entry [] key id q new = ap (λ b. if b then Some id else None) (is_eq-slice_cmp q key.items)
  indexed-insert_entry (e ∷ es) key id q new = by (between key e.0) refl (indexed-insert_entry es key id q)
    where
      either : (b d : Bool) → same_text q e.0.items ≡ b → same_text q key.items ≡ d → between key e.0 ≡ Greater → (if b then Some e.1 else (if d then Some id else indexed es q)) ≡ (if d then Some id else (if b then Some e.1 else indexed es q))
      either true true f g above = absurd (apart key e.0 q above g f)
      either true false f g above = refl
      either false d f g above = refl

      by : (r : Ordering) → between key e.0 ≡ r → (indexed es key.items ≡ None → indexed (insert_entry between es key id) q ≡ (if same_text q key.items then Some id else indexed es q))
          → indexed (match_ordering r ((key, id) ∷ e ∷ es) ((e.0, id) ∷ es) (e ∷ insert_entry between es key id)) q ≡ (if same_text q key.items then Some id else indexed (e ∷ es) q)
      by Less f rest = ap (λ b. if b then Some id else indexed (e ∷ es) q) (is_eq-slice_cmp q key.items)
      by Equal f rest =
          let there : Some e.1 ≡ None = sym (ap (λ r. if is_eq r then Some e.1 else indexed es key.items) f) ∙ new in
          cc
      by Greater f rest =
          let later = rest (sym (ap (λ r. if is_eq r then Some e.1 else indexed es key.items) f) ∙ new) in
          let same = is_eq-slice_cmp q e.0.items in
          ap (λ b. if b then Some e.1 else indexed (insert_entry between es key id) q) same
          ∙ ap (λ r. if same_text q e.0.items then Some e.1 else r) later
          ∙ either (same_text q e.0.items) (same_text q key.items) refl refl f
          ∙ ap (λ b. if same_text q key.items then Some id else (if b then Some e.1 else indexed es q)) (sym same)

  -- the index of a table that gets a new text
  index-with : (entries : List (Vec ℕ A × StrId)) (texts : List (List ℕ)) (key : Vec ℕ A) (id : StrId) → IsIndexOf entries texts → has_text texts key.items ≡ false → id.0 ≡ length texts → IsIndexOf (insert_entry between entries key id) (texts ++ key.items ∷ [])
  index-with entries texts key id index new last = λ q.
      indexed-insert_entry entries key id q (none (id_from 0 texts key.items) (index key.items) (is_some-id_from 0 texts key.items ∙ new))
      ∙ ap (λ r. if same_text q key.items then Some id else r) (index q)
      ∙ ap (λ n. if same_text q key.items then Some (let next : StrId = record { 0 = n } in next) else id_from 0 texts q) (let e : id.0 ≡ 0 + length texts = omega (arith, last) in e)
      ∙ sym (id_from-push 0 texts key.items q new)
    where
      none : (o : Option StrId) → indexed entries key.items ≡ o → is_some o ≡ false → indexed entries key.items ≡ None
      none (Some other) e f = absurd (true≢false f)
      none None e f = e

  texts_of-push : (vectors : List (Vec ℕ A)) (v : Vec ℕ A) → texts_of (vectors ++ v ∷ []) ≡ texts_of vectors ++ v.items ∷ []
  texts_of-push vectors v = map-append (λ v. v.items) vectors (v ∷ [])

  -- no text stands twice in a table that gets a new text
  pub distinct-push : (vectors : List (Vec ℕ A)) (v : Vec ℕ A) → AreDistinct (texts_of vectors) → has_text (texts_of vectors) v.items ≡ false → AreDistinct (texts_of (vectors ++ v ∷ []))
  distinct-push vectors v distinct new = rw (texts_of-push vectors v) (IsDistinct-push nat_list_eq_equiv (texts_of vectors) v.items distinct new)

  -- its index
  pub index-push : (entries : List (Vec ℕ A × StrId)) (vectors : List (Vec ℕ A)) (key v : Vec ℕ A) (id : StrId) → key.items ≡ v.items → IsIndexOf entries (texts_of vectors) → has_text (texts_of vectors) v.items ≡ false → id.0 ≡ length vectors
      → IsIndexOf (insert_entry between entries key id) (texts_of (vectors ++ v ∷ []))
  index-push entries vectors key v id same index new last =
      rw (texts_of-push vectors v, sym same) (index-with entries (texts_of vectors) key id index (ap (has_text (texts_of vectors)) same ∙ new) (last ∙ sym (length-map vectors (λ v. v.items))))

  -- the new text stands at the end
  pub slice_get-push : (vectors : List (Vec ℕ A)) (v : Vec ℕ A) (n : ℕ) → n ≡ length vectors → slice_get (texts_of (vectors ++ v ∷ [])) n ≡ Some v.items
  slice_get-push vectors v n last =
      let texts = texts_of vectors in
      let here : n ≡ length texts = last ∙ sym (length-map vectors (λ v. v.items)) in
      rw (texts_of-push vectors v) (slice_get_read (texts ++ v.items ∷ []) (length (texts ++ v.items ∷ [])) n v.items refl (omega (arith, here, length-append texts (v.items ∷ []))) (rw here (sym (get_or-append_seam texts v.items [] v.items))))
