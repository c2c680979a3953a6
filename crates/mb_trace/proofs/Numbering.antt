-- The number of a text in a world is its number in the trace.
use Rattle.std.proofs.Common.{◌≡◌, ℕ, ◌<◌, ◌+◌, List, [], ◌∷◌, ◌++◌, length, map, fold, filter, zero, suc, Bool, true, false, not, ◌||◌, cond, nat_lt, nat_eq, if◌then◌else◌, Option, Some, None, option_map, slice_get, get_or, arith, refl, sym, ap, ◌∙◌, true≢false}
use Rattle.std.specs.Prelude.{All}
use Rattle.std.specs.List.{flat_map, list_any, position_or_len}
use Rattle.std.specs.Cmp.Lexicographic.{bytes_decides}
use Rattle.std.specs.Str.{bytes_eq as same_text}
use Rattle.std.proofs.lemmas.Bool.{eqb-true}
use Rattle.std.proofs.lemmas.Bool.Decides.{nat_tests}
use Rattle.std.proofs.lemmas.Cmp.{nat_list_eq_equiv}
use Rattle.std.proofs.lemmas.List.{map-append}
use Rattle.std.proofs.lemmas.List.Elements.{All-append, All-cons, All-nil, All-head, All-tail, All-filter}
use Rattle.std.proofs.lemmas.Option.{slice_get-get_or}
use Rattle.indexmap.specs.IndexSet.{insert_key}
use Rattle.mb_base.specs.declared.value.StrId.{StrId}
use Rattle.mb_base.specs.declared.value.Key.{Key}
use Rattle.mb_base.specs.declared.value.Key.TheVariants as k
use Rattle.mb_desc.specs.declared.descriptor.Desc.{Desc}
use Rattle.mb_text.specs.Texts.{text_at, AreDistinct}
use Rattle.mb_text.proofs.WithText.{one_place}
use Rattle.mb_world.specs.declared.entry.Entry.{Entry}
use Rattle.mb_world.specs.declared.entry.Said.{Said}
use Rattle.mb_world.specs.declared.entry.Said.TheVariants as said
use Rattle.mb_world.specs.declared.entry.Seen.{Seen}
use Rattle.mb_world.specs.declared.entry.Seen.TheVariants as s
use Rattle.mb_world.specs.Data.{Data}
use Rattle.mb_world.specs.Image.{key_by, seen_in, desc_in, said_in, entry_in}
use Rattle.mb_world.specs.Long.{key_texts, seen_texts, texts_if, desc_texts, said_texts, entry_texts, is_long, same_id, long_texts, long_of}
use Rattle.mb_world.specs.EntryLine.{texts_of_value, texts_of_key, texts_where, texts_of_desc, texts_of_said, texts_of_entry, is_long_text, numbered_texts}

-- ---- lists

module _ {A : Type 0} (P : A → Type 0) where
  pub All-left : (xs ys : List A) → All P (xs ++ ys) → All P xs
  All-left [] ys h = All-nil P
  All-left (x ∷ xs) ys h = All-cons P x xs (All-head P x (xs ++ ys) h) (All-left xs ys (All-tail P x (xs ++ ys) h))

  pub All-right : (xs ys : List A) → All P (xs ++ ys) → All P ys
  All-right [] ys h = h
  All-right (x ∷ xs) ys h = All-right xs ys (All-tail P x (xs ++ ys) h)

  pub All-of-each : {E : Type 0} (f : E → List A) (es : List E) → All P (flat_map f es) → All (λ e. All P (f e)) es
  All-of-each f [] h = All-nil (λ e. All P (f e))
  All-of-each f (e ∷ es) h = All-cons (λ e. All P (f e)) e es (All-left (f e) (flat_map f es) h) (All-of-each f es (All-right (f e) (flat_map f es) h))

-- ---- ids

same-refl : (n : ℕ) → nat_eq n n ≡ true
same-refl n = grind (arith, nat_tests)

id-is : (a b : StrId) → same_id a b ≡ true → a ≡ b
id-is a b e = ap (λ n. let x : StrId = record { 0 = n } in x) (eqb-true a.0 b.0 e)

-- a test passes where it did before a key was inserted
kept : (t x : StrId) (b : Bool) (ks : List StrId) → list_any (same_id t) ks ≡ true → list_any (same_id t) (if b then ks else ks ++ x ∷ []) ≡ true
kept t x true ks h = h
kept t x false ks h = any-more ks h
  where
    any-more : (ks : List StrId) → list_any (same_id t) ks ≡ true → list_any (same_id t) (ks ++ x ∷ []) ≡ true
    any-more [] h = absurd (true≢false (sym h))
    any-more (y ∷ ys) h = by (same_id t y) h (any-more ys)
      where
        by : (b : Bool) → (b || list_any (same_id t) ys) ≡ true → (list_any (same_id t) ys ≡ true → list_any (same_id t) (ys ++ x ∷ []) ≡ true) → (b || list_any (same_id t) (ys ++ x ∷ [])) ≡ true
        by true h more = refl
        by false h more = more h

any-last : (t : StrId) (ks : List StrId) → list_any (same_id t) (ks ++ t ∷ []) ≡ true
any-last t [] = ap (λ b. b || false) (same-refl t.0)
any-last t (y ∷ ys) = by (same_id t y) (any-last t ys)
  where
    by : (b : Bool) → list_any (same_id t) (ys ++ t ∷ []) ≡ true → (b || list_any (same_id t) (ys ++ t ∷ [])) ≡ true
    by true h = refl
    by false h = h

-- a key is there once it is inserted
there : (t : StrId) (ks : List StrId) → list_any (same_id t) (insert_key same_id ks t) ≡ true
there t ks = by (list_any (same_id t) ks) refl
  where
    by : (b : Bool) → list_any (same_id t) ks ≡ b → list_any (same_id t) (if b then ks else ks ++ t ∷ []) ≡ true
    by true e = e
    by false e = any-last t ks

inserted : (t : StrId) (xs ks : List StrId) → list_any (same_id t) ks ≡ true → list_any (same_id t) (fold (insert_key same_id) ks xs) ≡ true
inserted t [] ks h = h
inserted t (x ∷ xs) ks h = inserted t xs (insert_key same_id ks x) (kept t x (list_any (same_id x) ks) ks h)

pub folded : (t : StrId) (xs ks : List StrId) → list_any (same_id t) xs ≡ true → list_any (same_id t) (fold (insert_key same_id) ks xs) ≡ true
folded t [] ks h = absurd (true≢false (sym h))
folded t (x ∷ xs) ks h = by (same_id t x) refl h (folded t xs (insert_key same_id ks x))
  where
    by : (b : Bool) → same_id t x ≡ b → (b || list_any (same_id t) xs) ≡ true
        → (list_any (same_id t) xs ≡ true → list_any (same_id t) (fold (insert_key same_id) (insert_key same_id ks x) xs) ≡ true)
        → list_any (same_id t) (fold (insert_key same_id) (insert_key same_id ks x) xs) ≡ true
    by true e h rest = inserted t xs (insert_key same_id ks x) (ap (λ y. list_any (same_id t) (insert_key same_id ks y)) (sym (id-is t x e)) ∙ there t ks)
    by false e h rest = rest h

-- a text that passes stays
passed : (p : StrId → Bool) (t : StrId) → p t ≡ true → (xs : List StrId) → list_any (same_id t) xs ≡ true → list_any (same_id t) (filter p xs) ≡ true
passed p t e [] h = h
passed p t e (x ∷ xs) h = by (same_id t x) refl h (p x) refl (passed p t e xs)
  where
    by : (b : Bool) → same_id t x ≡ b → (b || list_any (same_id t) xs) ≡ true → (c : Bool) → p x ≡ c
        → (list_any (same_id t) xs ≡ true → list_any (same_id t) (filter p xs) ≡ true) → list_any (same_id t) (cond c (x ∷ filter p xs) (filter p xs)) ≡ true
    by true f h true g rest = ap (λ b. b || list_any (same_id t) (filter p xs)) f
    by true f h false g rest = absurd (true≢false (sym e ∙ ap p (id-is t x f) ∙ g))
    by false f h true g rest = ap (λ b. b || list_any (same_id t) (filter p xs)) f ∙ rest h
    by false f h false g rest = rest h

-- its place is in the list
placed : (t : StrId) (ks : List StrId) → list_any (same_id t) ks ≡ true → position_or_len (same_id t) ks < length ks
placed t [] h = absurd (true≢false (sym h))
placed t (x ∷ xs) h = by (same_id t x) h (placed t xs)
  where
    by : (b : Bool) → (b || list_any (same_id t) xs) ≡ true → (list_any (same_id t) xs ≡ true → position_or_len (same_id t) xs < length xs) → cond (not b) (1 + position_or_len (same_id t) xs) 0 < length (x ∷ xs)
    by true h rest = omega arith
    by false h rest = omega (arith, rest h)

-- of texts that all pass, none is one that doesn't
past : (p : StrId → Bool) (t : StrId) → p t ≡ false → (ks : List StrId) → All (λ x. p x ≡ true) ks → position_or_len (same_id t) ks ≡ length ks
past p t e [] h = refl
past p t e (x ∷ xs) h = by (same_id t x) refl (past p t e xs (All-tail (λ x. p x ≡ true) x xs h))
  where
    by : (b : Bool) → same_id t x ≡ b → position_or_len (same_id t) xs ≡ length xs → cond (not b) (1 + position_or_len (same_id t) xs) 0 ≡ length (x ∷ xs)
    by true f rest = absurd (true≢false (sym (All-head (λ x. p x ≡ true) x xs h) ∙ ap p (sym (id-is t x f)) ∙ e))
    by false f rest = omega (arith, rest)

All-inserted : (P : StrId → Type 0) (x : StrId) (ks : List StrId) → P x → All P ks → All P (insert_key same_id ks x)
All-inserted P x ks p h = by (list_any (same_id x) ks)
  where
    by : (b : Bool) → All P (if b then ks else ks ++ x ∷ [])
    by true = h
    by false = All-append P ks (x ∷ []) h (All-cons P x [] p (All-nil P))

All-folded : (P : StrId → Type 0) (xs ks : List StrId) → All P xs → All P ks → All P (fold (insert_key same_id) ks xs)
All-folded P [] ks h g = g
All-folded P (x ∷ xs) ks h g = All-folded P xs (insert_key same_id ks x) (All-tail P x xs h) (All-inserted P x ks (All-head P x xs h) g)

All-passed : (p : StrId → Bool) (xs : List StrId) → All (λ x. p x ≡ true) (filter p xs)
All-passed p [] = All-nil (λ x. p x ≡ true)
All-passed p (x ∷ xs) = by (p x) refl (All-passed p xs)
  where
    by : (b : Bool) → p x ≡ b → All (λ x. p x ≡ true) (filter p xs) → All (λ x. p x ≡ true) (cond b (x ∷ filter p xs) (filter p xs))
    by true e rest = All-cons (λ x. p x ≡ true) x (filter p xs) e rest
    by false e rest = rest

-- ---- the texts of entries

module _ (ts : List (List ℕ)) where
  abbrev text : StrId → List ℕ
  text t = text_at ts t

  value-texts : (x : Seen) → texts_of_value (seen_in ts x) ≡ map text (seen_texts x)
  value-texts s.Undefined = refl
  value-texts s.Null = refl
  value-texts (s.Bool b) = refl
  value-texts (s.Whole z) = refl
  value-texts (s.Text t) = refl
  value-texts (s.Symbol n) = refl
  value-texts (s.Object n) = refl
  value-texts (s.BuiltIn p) = refl

  key-texts : (x : Key) → texts_of_key (key_by ts x) ≡ map text (key_texts x)
  key-texts (k.Text t index) = refl
  key-texts (k.Symbol symbol) = refl

  value-if : (o : Option Seen) → texts_where texts_of_value (option_map (seen_in ts) o) ≡ map text (texts_if seen_texts o)
  value-if None = refl
  value-if (Some x) = value-texts x

  key-if : (o : Option Key) → texts_where texts_of_key (option_map (key_by ts) o) ≡ map text (texts_if key_texts o)
  key-if None = refl
  key-if (Some x) = key-texts x

  keys : (xs : List Key) → flat_map texts_of_key (map (key_by ts) xs) ≡ map text (flat_map key_texts xs)
  keys [] = refl
  keys (x ∷ xs) = rw (key-texts x, keys xs) (sym (map-append text (key_texts x) (flat_map key_texts xs)))

  desc : (x : Desc Seen) → texts_of_desc (desc_in (seen_in ts) x) ≡ map text (desc_texts x)
  desc x =
      let v = texts_if seen_texts x.value in
      let g = texts_if seen_texts x.get in
      let t = texts_if seen_texts x.set in
      rw (value-if x.value, value-if x.get, value-if x.set) (sym (rw (map-append text (v ++ g) t, map-append text v g) refl))

  said-texts : (x : Said) → texts_of_said (said_in ts x) ≡ map text (said_texts x)
  said-texts said.Nothing = refl
  said-texts (said.Flag b) = refl
  said-texts (said.Plain x) = value-texts x
  said-texts said.Absent = refl
  said-texts (said.Prop x) = desc x
  said-texts (said.Keys xs) = keys xs
  said-texts (said.Thrown x) = value-texts x
  said-texts (said.Pair x y) = rw (value-texts x, value-texts y) (sym (map-append text (seen_texts x) (seen_texts y)))

  entry : (e : Entry) → texts_of_entry (entry_in ts e) ≡ map text (entry_texts e)
  entry e =
      let q = texts_if key_texts e.key in
      let g = said_texts e.given in
      let a = said_texts e.answer in
      rw (key-if e.key, said-texts e.given, said-texts e.answer) (sym (rw (map-append text (q ++ g) a, map-append text q g) refl))

  all-entries : (es : List Entry) → flat_map texts_of_entry (map (entry_in ts) es) ≡ map text (flat_map entry_texts es)
  all-entries [] = refl
  all-entries (e ∷ es) = rw (entry e, all-entries es) (sym (map-append text (entry_texts e) (flat_map entry_texts es)))

  long-ones : (xs : List StrId) → filter is_long_text (map text xs) ≡ map text (filter (is_long ts) xs)
  long-ones [] = refl
  long-ones (x ∷ xs) = by (is_long ts x) (long-ones xs)
    where
      by : (b : Bool) → filter is_long_text (map text xs) ≡ map text (filter (is_long ts) xs) → cond b (text x ∷ filter is_long_text (map text xs)) (filter is_long_text (map text xs)) ≡ map text (cond b (x ∷ filter (is_long ts) xs) (filter (is_long ts) xs))
      by true e = ap (λ l. text x ∷ l) e
      by false e = e

-- ---- texts by their ids, in a table where no text stands twice

module _ (ts : List (List ℕ)) (distinct : AreDistinct ts) where
  abbrev In : StrId → Type 0
  In t = t.0 < length ts

  same-as : (a b : StrId) → In a → In b → same_text (text_at ts a) (text_at ts b) ≡ same_id a b
  same-as a b la lb = by (same_id a b) refl (same_text (text_at ts a) (text_at ts b)) refl
    where
      by : (i : Bool) → same_id a b ≡ i → (t : Bool) → same_text (text_at ts a) (text_at ts b) ≡ t → t ≡ i
      by true e true f = refl
      by false e false f = refl
      by true e false f = absurd (true≢false (sym (nat_list_eq_equiv.refl (text_at ts a)) ∙ ap (λ y. same_text (text_at ts a) (text_at ts y)) (id-is a b e) ∙ f))
      by false e true f =
          let at-b : slice_get ts b.0 ≡ Some (text_at ts a) = slice_get-get_or ts b.0 [] lb ∙ ap Some (sym ((bytes_decides (text_at ts a) (text_at ts b)).0 f)) in
          let n : a.0 ≡ b.0 = one_place ts a.0 b.0 (text_at ts a) distinct (slice_get-get_or ts a.0 [] la) at-b in
          absurd (true≢false (sym (same-refl a.0) ∙ ap (λ y. nat_eq a.0 y) n ∙ e))

  any-as : (t : StrId) → In t → (ks : List StrId) → All In ks → list_any (same_text (text_at ts t)) (map (text_at ts) ks) ≡ list_any (same_id t) ks
  any-as t l [] h = refl
  any-as t l (x ∷ xs) h = rw (same-as t x l (All-head In x xs h), any-as t l xs (All-tail In x xs h)) refl

  position-as : (t : StrId) → In t → (ks : List StrId) → All In ks → position_or_len (same_text (text_at ts t)) (map (text_at ts) ks) ≡ position_or_len (same_id t) ks
  position-as t l [] h = refl
  position-as t l (x ∷ xs) h = rw (same-as t x l (All-head In x xs h), position-as t l xs (All-tail In x xs h)) refl

  insert-as : (t : StrId) → In t → (ks : List StrId) → All In ks → insert_key same_text (map (text_at ts) ks) (text_at ts t) ≡ map (text_at ts) (insert_key same_id ks t)
  insert-as t l ks h = rw (any-as t l ks h) (by (list_any (same_id t) ks))
    where
      by : (b : Bool) → (if b then map (text_at ts) ks else map (text_at ts) ks ++ text_at ts t ∷ []) ≡ map (text_at ts) (if b then ks else ks ++ t ∷ [])
      by true = refl
      by false = sym (map-append (text_at ts) ks (t ∷ []))

  fold-as : (xs : List StrId) → All In xs → (ks : List StrId) → All In ks → fold (insert_key same_text) (map (text_at ts) ks) (map (text_at ts) xs) ≡ map (text_at ts) (fold (insert_key same_id) ks xs)
  fold-as [] h ks g = refl
  fold-as (x ∷ xs) h ks g =
      let l = All-head In x xs h in
      ap (λ keys. fold (insert_key same_text) keys (map (text_at ts) xs)) (insert-as x l ks g)
      ∙ fold-as xs (All-tail In x xs h) (insert_key same_id ks x) (All-inserted In x ks l g)

  pub numbered-as : (es : List Entry) → All In (flat_map entry_texts es) → numbered_texts (map (entry_in ts) es) ≡ map (text_at ts) (long_texts ts es)
  numbered-as es h =
      let xs = flat_map entry_texts es in
      rw (all-entries ts es, long-ones ts xs) (fold-as (filter (is_long ts) xs) (All-filter (is_long ts) In xs h) [] (All-nil In))

  pub position-of : (es : List Entry) → All In (flat_map entry_texts es) → (t : StrId) → In t → position_or_len (same_text (text_at ts t)) (numbered_texts (map (entry_in ts) es)) ≡ position_or_len (same_id t) (long_texts ts es)
  position-of es h t l =
      let xs = filter (is_long ts) (flat_map entry_texts es) in
      rw (numbered-as es h) (position-as t l (long_texts ts es) (All-folded In xs [] (All-filter (is_long ts) In (flat_map entry_texts es) h) (All-nil In)))

-- ---- numbers

long-placed : (ts : List (List ℕ)) (es : List Entry) (t : StrId) → is_long ts t ≡ true → list_any (same_id t) (flat_map entry_texts es) ≡ true → position_or_len (same_id t) (long_texts ts es) < length (long_texts ts es)
long-placed ts es t e h = placed t (long_texts ts es) (folded t (filter (is_long ts) (flat_map entry_texts es)) [] (passed (is_long ts) t e (flat_map entry_texts es) h))

short-past : (ts : List (List ℕ)) (es : List Entry) (t : StrId) → is_long ts t ≡ false → position_or_len (same_id t) (long_texts ts es) ≡ length (long_texts ts es)
short-past ts es t e =
    let xs = flat_map entry_texts es in
    past (is_long ts) t e (long_texts ts es) (All-folded (λ x. is_long ts x ≡ true) (filter (is_long ts) xs) [] (All-passed (is_long ts) xs) (All-nil (λ x. is_long ts x ≡ true)))

-- a long text of the trace has its place there as its number, and a text that isn't long has none
pub long-numbered : (d : Data) (t : StrId) → is_long d.texts t ≡ true → list_any (same_id t) (flat_map entry_texts d.entries) ≡ true → long_of d t ≡ Some (position_or_len (same_id t) (long_texts d.texts d.entries) + 1)
long-numbered d t e h =
    let l = long-placed d.texts d.entries t e h in
    let p : ℕ = position_or_len (same_id t) (long_texts d.texts d.entries) in
    let n : ℕ = length (long_texts d.texts d.entries) in
    let b : nat_lt p n ≡ true = grind (arith, nat_tests, l) in
    ap (λ b. option_map (λ n. n + 1) (cond b (Some p) None)) b

pub short-unnumbered : (d : Data) (t : StrId) → is_long d.texts t ≡ false → long_of d t ≡ None
short-unnumbered d t e =
    let l = short-past d.texts d.entries t e in
    let p : ℕ = position_or_len (same_id t) (long_texts d.texts d.entries) in
    let n : ℕ = length (long_texts d.texts d.entries) in
    let b : nat_lt p n ≡ false = grind (arith, nat_tests, l) in
    ap (λ b. option_map (λ n. n + 1) (cond b (Some p) None)) b

-- each text of a list is one of it
pub any-itself : (xs : List StrId) (i : ℕ) (x : StrId) → i < length xs → list_any (same_id (get_or xs i x)) xs ≡ true
any-itself [] i x l = absurd (omega arith)
any-itself (y ∷ ys) zero x l = ap (λ b. b || list_any (same_id y) ys) (same-refl y.0)
any-itself (y ∷ ys) (suc i) x l = by (same_id (get_or ys i x) y) (any-itself ys i x (omega arith))
  where
    by : (b : Bool) → list_any (same_id (get_or ys i x)) ys ≡ true → (b || list_any (same_id (get_or ys i x)) ys) ≡ true
    by true h = refl
    by false h = h
