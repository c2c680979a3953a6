-- The line of an entry stays where the trace goes on: its long texts keep their numbers.
use Rattle.std.proofs.Common.{Bool, List, None, Option, Some, [], ap, ap₂, cond, false, filter, fold, refl, subst, sym, true, true≢false, ℕ, ◌+◌, ◌++◌, ◌∙◌, ◌∷◌, ◌≡◌, ◌||◌, if◌then◌else◌, append-nil, append_assoc}
use Rattle.std.proofs.lemmas.Cmp.{nat_list_eq_equiv}
use Rattle.std.proofs.lemmas.Grind.{flat_map-append}
use Rattle.std.proofs.lemmas.List.Elements.{filter-append}
use Rattle.std.proofs.lemmas.List.Sums.{fold-append}
use Rattle.std.specs.List.{AllByRecursion, flat_map, join_with_byte, list_any, position_or_len}
use Rattle.std.specs.Prelude.{codes, not}
use Rattle.std.specs.Str.{bytes_eq as same_text}
use Rattle.indexmap.specs.IndexSet.{insert_key}
use Rattle.mb_desc.specs.declared.descriptor.Desc.{Desc}
use Rattle.mb_text.specs.Spelling.{spelled}
use Rattle.mb_world.specs.EntryLine.{entry_line, is_long_text, number_of_text, numbered_texts, seen, seen_desc, seen_key, seen_key_if, seen_keys, seen_said, seen_text, side_letter, op_name, texts_of_desc, texts_of_entry, texts_of_key, texts_of_said, texts_of_value, texts_where, with_field}
use Rattle.mb_world.specs.Graph.{Entry, Said, SaidAbsent, SaidFlag, SaidKeys, SaidNothing, SaidPair, SaidProperty, SaidThrow, SaidValue}
use Rattle.mb_world.specs.Key.{Named, PropertyKey, SymbolKey}
use Rattle.mb_world.specs.Value.{BuiltIn, Null, Object, Symbol, Text, Truth, Undefined, Val, Whole, decimal, truth_text}

-- ---- lists

module _ {A : Type 0} (P : A → Type 0) where
  pub each-left : (xs ys : List A) → AllByRecursion P (xs ++ ys) → AllByRecursion P xs
  each-left [] ys h = tt
  each-left (x ∷ xs) ys h = (h.0, each-left xs ys h.1)

  pub each-right : (xs ys : List A) → AllByRecursion P (xs ++ ys) → AllByRecursion P ys
  each-right [] ys h = h
  each-right (x ∷ xs) ys h = each-right xs ys h.1

-- ---- texts that were numbered

-- the text is one of them
abbrev Has : List (List ℕ) → List ℕ → Type 0
Has ks t = list_any (same_text t) ks ≡ true

has-more : (t : List ℕ) (ks more : List (List ℕ)) → Has ks t → Has (ks ++ more) t
has-more t [] more h = absurd (true≢false (sym h))
has-more t (k ∷ ks) more h = by (same_text t k) h (has-more t ks more)
  where
    by : (b : Bool) → (b || list_any (same_text t) ks) ≡ true
        → (Has ks t → Has (ks ++ more) t) → (b || list_any (same_text t) (ks ++ more)) ≡ true
    by true h more = refl
    by false h more = more h

has-last : (t : List ℕ) (ks : List (List ℕ)) → Has (ks ++ t ∷ []) t
has-last t [] = ap (λ b. b || false) (nat_list_eq_equiv.refl t)
has-last t (k ∷ ks) = by (same_text t k) (has-last t ks)
  where
    by : (b : Bool) → Has (ks ++ t ∷ []) t → (b || list_any (same_text t) (ks ++ t ∷ [])) ≡ true
    by true h = refl
    by false h = h

has-inserted : (t : List ℕ) (ks : List (List ℕ)) → Has (insert_key same_text ks t) t
has-inserted t ks = by (list_any (same_text t) ks) refl
  where
    by : (b : Bool) → list_any (same_text t) ks ≡ b → Has (if b then ks else ks ++ t ∷ []) t
    by true e = e
    by false e = has-last t ks

-- numbers go on behind those that were given
inserted-behind : (ks : List (List ℕ)) (t : List ℕ)
    → (more : List (List ℕ)) × (insert_key same_text ks t ≡ ks ++ more)
inserted-behind ks t = by (list_any (same_text t) ks)
  where
    by : (b : Bool) → (more : List (List ℕ)) × ((if b then ks else ks ++ t ∷ []) ≡ ks ++ more)
    by true = ([], sym (append-nil ks))
    by false = (t ∷ [], refl)

behind : (xs ks : List (List ℕ)) → (more : List (List ℕ)) × (fold (insert_key same_text) ks xs ≡ ks ++ more)
behind [] ks = ([], sym (append-nil ks))
behind (x ∷ xs) ks =
    let one = inserted-behind ks x in
    let rest = behind xs (insert_key same_text ks x) in
    (one.0 ++ rest.0, rest.1 ∙ ap (λ (l : List (List ℕ)). l ++ rest.0) one.1 ∙ append_assoc ks one.0 rest.0)

has-folded : (t : List ℕ) (xs ks : List (List ℕ)) → Has ks t → Has (fold (insert_key same_text) ks xs) t
has-folded t xs ks h =
    let b = behind xs ks in
    ap (list_any (same_text t)) b.1 ∙ has-more t ks b.0 h

-- each long text of a list has a number once all were inserted
numbered-each : (xs ks : List (List ℕ))
    → AllByRecursion (λ t. is_long_text t ≡ true → Has (fold (insert_key same_text) ks (filter is_long_text xs)) t) xs
numbered-each [] ks = tt
numbered-each (x ∷ xs) ks = by (is_long_text x) refl (λ l. numbered-each xs l)
  where
    by : (b : Bool) → is_long_text x ≡ b
        → ((l : List (List ℕ)) → AllByRecursion
        (λ t. is_long_text t ≡ true → Has (fold (insert_key same_text) l (filter is_long_text xs)) t) xs)
        → AllByRecursion (λ t. is_long_text t ≡ true → Has (fold (insert_key same_text) ks
        (cond b (x ∷ filter is_long_text xs) (filter is_long_text xs))) t) (x ∷ xs)
    by true e rest = (
      λ h. has-folded x (filter is_long_text xs) (insert_key same_text ks x) (has-inserted x ks),
      rest (insert_key same_text ks x),
    )
    by false e rest = (λ h. absurd (true≢false (sym h ∙ e)), rest ks)

-- ---- two lists that tell texts alike

abbrev pub Alike : List (List ℕ) → List (List ℕ) → List ℕ → Type 0
Alike n n' t = seen_text n t ≡ seen_text n' t

place-more : (t : List ℕ) (ks more : List (List ℕ)) → Has ks t
    → position_or_len (same_text t) ks ≡ position_or_len (same_text t) (ks ++ more)
place-more t [] more h = absurd (true≢false (sym h))
place-more t (k ∷ ks) more h = by (same_text t k) h (place-more t ks more)
  where
    by : (b : Bool) → (b || list_any (same_text t) ks) ≡ true
        → (Has ks t → position_or_len (same_text t) ks ≡ position_or_len (same_text t) (ks ++ more))
        → cond (not b) (1 + position_or_len (same_text t) ks) 0
        ≡ cond (not b) (1 + position_or_len (same_text t) (ks ++ more)) 0
    by true h rest = refl
    by false h rest = ap (λ n. 1 + n) (rest h)

alike-more : (n more : List (List ℕ)) (t : List ℕ) → (is_long_text t ≡ true → Has n t) → Alike n (n ++ more) t
alike-more n more t h = by (is_long_text t) h
  where
    by : (b : Bool) → (b ≡ true → Has n t)
        → (if b then 126 ∷ decimal (number_of_text n t) else (34 ∷ spelled true t ++ (34 ∷ [])))
        ≡ (if b then 126 ∷ decimal (number_of_text (n ++ more) t) else (34 ∷ spelled true t ++ (34 ∷ [])))
    by true h = ap (λ p. 126 ∷ decimal (p + 1)) (place-more t n more (h refl))
    by false h = refl

alike-each : (n more xs : List (List ℕ)) → AllByRecursion (λ t. is_long_text t ≡ true → Has n t) xs
    → AllByRecursion (Alike n (n ++ more)) xs
alike-each n more [] h = tt
alike-each n more (x ∷ xs) h = (alike-more n more x h.0, alike-each n more xs h.1)

-- ---- the parts of a line

module _ (n n' : List (List ℕ)) where
  abbrev All : List (List ℕ) → Type 0
  All ts = AllByRecursion (Alike n n') ts

  value-same : (v : Val) → All (texts_of_value v) → seen n v ≡ seen n' v
  value-same Undefined h = refl
  value-same Null h = refl
  value-same (Truth b) h = refl
  value-same (Whole z) h = refl
  value-same (Text t) h = h.0
  value-same (Symbol k) h = refl
  value-same (Object k) h = refl
  value-same (BuiltIn p) h = refl

  key-same : (k : PropertyKey) → All (texts_of_key k) → seen_key n k ≡ seen_key n' k
  key-same (Named t) h = h.0
  key-same (SymbolKey k) h = refl

  key-if-same : (k : Option PropertyKey) → All (texts_where texts_of_key k) → seen_key_if n k ≡ seen_key_if n' k
  key-if-same None h = refl
  key-if-same (Some k) h = key-same k h

  field-same : (name : List ℕ) (v : Option Val) (fs fs' : List (List ℕ)) → All (texts_where texts_of_value v)
      → fs ≡ fs' → with_field name (seen n) v fs ≡ with_field name (seen n') v fs'
  field-same name None fs fs' h e = e
  field-same name (Some v) fs fs' h e = ap₂ (λ x l. (name ++ (61 ∷ x)) ∷ l) (value-same v h) e

  desc-same : (d : Desc Val) → All (texts_of_desc d) → seen_desc n d ≡ seen_desc n' d
  desc-same d h =
      let v : List (List ℕ) = texts_where texts_of_value d.value in
      let g : List (List ℕ) = texts_where texts_of_value d.get in
      let s : List (List ℕ) = texts_where texts_of_value d.set in
      let front : All (v ++ g) = each-left (Alike n n') (v ++ g) s h in
      let last : List (List ℕ) = with_field (codes "enumerable") truth_text d.enumerable
      (with_field (codes "configurable") truth_text d.configurable []) in
      let sets : with_field (codes "set") (seen n) d.set last ≡ with_field (codes "set") (seen n') d.set last
      = field-same (codes "set") d.set last last (each-right (Alike n n') (v ++ g) s h) refl in
      let gets : with_field (codes "get") (seen n) d.get (with_field (codes "set") (seen n) d.set last)
      ≡ with_field (codes "get") (seen n') d.get (with_field (codes "set") (seen n') d.set last)
      = field-same (codes "get") d.get (with_field (codes "set") (seen n) d.set last)
      (with_field (codes "set") (seen n') d.set last) (each-right (Alike n n') v g front) sets in
      let writes = ap (with_field (codes "writable") truth_text d.writable) gets in
      ap (λ (fs : List (List ℕ)). 123 ∷ join_with_byte 44 fs ++ (125 ∷ []))
      (field-same (codes "value") d.value
      (with_field (codes "writable") truth_text d.writable
      (with_field (codes "get") (seen n) d.get (with_field (codes "set") (seen n) d.set last)))
      (with_field (codes "writable") truth_text d.writable
      (with_field (codes "get") (seen n') d.get (with_field (codes "set") (seen n') d.set last)))
      (each-left (Alike n n') v g front) writes)

  keys-behind : (ks : List PropertyKey) → All (flat_map texts_of_key ks)
      → flat_map (λ k. (44 ∷ []) ++ seen_key n k) ks ≡ flat_map (λ k. (44 ∷ []) ++ seen_key n' k) ks
  keys-behind [] h = refl
  keys-behind (k ∷ ks) h =
      ap₂ (λ x l. (44 ∷ x) ++ l) (key-same k (each-left (Alike n n') (texts_of_key k) (flat_map texts_of_key ks) h))
      (keys-behind ks (each-right (Alike n n') (texts_of_key k) (flat_map texts_of_key ks) h))

  keys-same : (ks : List PropertyKey) → All (flat_map texts_of_key ks) → seen_keys n ks ≡ seen_keys n' ks
  keys-same [] h = refl
  keys-same (k ∷ ks) h =
      ap₂ (λ x l. 91 ∷ (x ++ l) ++ (93 ∷ []))
      (key-same k (each-left (Alike n n') (texts_of_key k) (flat_map texts_of_key ks) h))
      (keys-behind ks (each-right (Alike n n') (texts_of_key k) (flat_map texts_of_key ks) h))

  said-same : (x : Said) → All (texts_of_said x) → seen_said n x ≡ seen_said n' x
  said-same SaidNothing h = refl
  said-same (SaidFlag b) h = refl
  said-same (SaidValue v) h = value-same v h
  said-same SaidAbsent h = refl
  said-same (SaidProperty d) h = desc-same d h
  said-same (SaidKeys ks) h = keys-same ks h
  said-same (SaidThrow v) h = ap (λ x. codes "throw " ++ x) (value-same v h)
  said-same (SaidPair k v) h =
      ap₂ (λ x y. x ++ (61 ∷ 62 ∷ y)) (value-same k (each-left (Alike n n') (texts_of_value k) (texts_of_value v) h))
      (value-same v (each-right (Alike n n') (texts_of_value k) (texts_of_value v) h))

  -- the parts in front of the key, and these three
  abbrev whole : Bool → Entry → List ℕ → List ℕ → List ℕ → List ℕ
  whole lettered e key given answer = join_with_byte 32 (codes "T" ∷ decimal e.began ∷
      (side_letter lettered e.side ∷ []) ∷ (35 ∷ decimal e.object) ∷ op_name e.op ∷ key ∷ given ∷ answer ∷ [])

  pub line-same : (lettered : Bool) (e : Entry) → All (texts_of_entry e)
      → entry_line lettered n e ≡ entry_line lettered n' e
  line-same lettered e h =
      let k : List (List ℕ) = texts_where texts_of_key e.key in
      let g : List (List ℕ) = texts_of_said e.given in
      let a : List (List ℕ) = texts_of_said e.answer in
      let front : All (k ++ g) = each-left (Alike n n') (k ++ g) a h in
      ap (λ x. whole lettered e x (seen_said n e.given) (seen_said n e.answer))
      (key-if-same e.key (each-left (Alike n n') k g front))
      ∙ ap (λ x. whole lettered e (seen_key_if n' e.key) x (seen_said n e.answer))
      (said-same e.given (each-right (Alike n n') k g front))
      ∙ ap (λ x. whole lettered e (seen_key_if n' e.key) (seen_said n' e.given) x)
      (said-same e.answer (each-right (Alike n n') (k ++ g) a h))

-- ---- the trace

-- more entries are told behind
pub numbered-more : (es more : List Entry)
    → (behind : List (List ℕ)) × (numbered_texts (es ++ more) ≡ numbered_texts es ++ behind)
numbered-more es more =
    let xs : List (List ℕ) = flat_map texts_of_entry es in
    let ys : List (List ℕ) = flat_map texts_of_entry more in
    let b = behind (filter is_long_text ys) (numbered_texts es) in (
      b.0,
      ap (λ (l : List (List ℕ)). fold (insert_key same_text) [] (filter is_long_text l))
          (flat_map-append texts_of_entry es more)
          ∙ ap (λ (l : List (List ℕ)). fold (insert_key same_text) [] l) (filter-append is_long_text xs ys)
          ∙ fold-append (insert_key same_text) [] (filter is_long_text xs) (filter is_long_text ys) ∙ b.1,
    )

-- of each entry
abbrev pub SameLine : Bool → List (List ℕ) → List (List ℕ) → Entry → Type 0
SameLine lettered n n' e = entry_line lettered n e ≡ entry_line lettered n' e

lines-each : (lettered : Bool) (n n' : List (List ℕ)) (es : List Entry)
    → AllByRecursion (Alike n n') (flat_map texts_of_entry es) → AllByRecursion (SameLine lettered n n') es
lines-each lettered n n' [] h = tt
lines-each lettered n n' (e ∷ es) h = (
  line-same n n' lettered e (each-left (Alike n n') (texts_of_entry e) (flat_map texts_of_entry es) h),
  lines-each lettered n n' es (each-right (Alike n n') (texts_of_entry e) (flat_map texts_of_entry es) h),
)

pub lines-stay : (lettered : Bool) (es more : List Entry)
    → AllByRecursion (SameLine lettered (numbered_texts es) (numbered_texts (es ++ more))) es
lines-stay lettered es more =
    let b = numbered-more es more in
    let n : List (List ℕ) = numbered_texts es in
    lines-each lettered n (numbered_texts (es ++ more)) es
    (subst (λ (z : List (List ℕ)). AllByRecursion (Alike n z) (flat_map texts_of_entry es)) (sym b.1)
    (alike-each n b.0 (flat_map texts_of_entry es) (numbered-each (flat_map texts_of_entry es) [])))
