-- The names of built-ins that a scope takes one by one.
use Rattle.mb_base.specs.declared.value.Side.{Side}
use Rattle.mb_base.specs.declared.value.StrId.{StrId}
use Rattle.mb_base.specs.declared.value.Value.{Value}
use Rattle.mb_base.specs.declared.value.Value.TheVariants as v
use Rattle.mb_intrinsics.proofs.Adding.{member-of}
use Rattle.mb_intrinsics.proofs.Naming.{gains-less, gains-none, gains-text, gains-then, id-below, id-is, id-text}
use Rattle.mb_intrinsics.specs.Bound.{bound_built_in, bound_to, with_all}
use Rattle.mb_intrinsics.specs.Furnished.{id_of}
use Rattle.mb_intrinsics.specs.machine.Filling.{AreThere, Gains}
use Rattle.mb_intrinsics.specs.machine.Table.{is_short}
use Rattle.mb_text.proofs.WithText.{slice_get-added}
use Rattle.mb_text.specs.Texts.{AreDistinct, KeepsIds, has_text, with_text}
use Rattle.mb_world.specs.Data.{Data, built_in_of, with_texts}
use Rattle.mb_world.specs.Intrinsics.{Intrinsic, Print, intrinsic, name_of, place_of}
use Rattle.mb_world.specs.Standard.{bound_intrinsics}
use Rattle.mb_world.specs.declared.scope.Bound.{Bound}
use Rattle.std.proofs.Common.{List, Option, Some, [], add-one, ap, arith, get_or, length, map, nat_lt, option_map, refl, slice_get, subst, sym, take, true, ℕ, ◌+◌, ◌++◌, ◌<◌, ◌≤◌, ◌∙◌, ◌∷◌, ◌≡◌}
use Rattle.std.proofs.Math.Seq.{take-suc}
use Rattle.std.proofs.lemmas.Bool.{ltb-true}
use Rattle.std.proofs.lemmas.List.{length-map, take_all}
use Rattle.std.proofs.lemmas.List.Elements.{All-cons, All-head, All-nil, All-tail}
use Rattle.std.proofs.lemmas.Option.{get_or_from_slice_get, slice_get-get_or, slice_get-map, slice_get_within}
use Rattle.std.specs.List.{list_all}
use Rattle.std.specs.Prelude.{All}

-- what holds of each of these things, told of what they are made of
pub all-under : {A B : Type 0} (P : B → Type 0) (f : A → B) (xs : List A) → All P (map f xs) → All (λ x. P (f x)) xs
all-under P f [] h = All-nil (λ x. P (f x))
all-under P f (x ∷ xs) h =
    All-cons (λ y. P (f y)) x xs (All-head P (f x) (map f xs) h) (all-under P f xs (All-tail P (f x) (map f xs) h))

-- ---- texts that are taken one after the other

pub all-more : (texts ts : List (List ℕ)) (t : List ℕ) → with_all texts (ts ++ t ∷ []) ≡ with_text (with_all texts ts) t
all-more texts [] t = refl
all-more texts (u ∷ ts) t = all-more (with_text texts u) ts t

pub all-gained : (d : Data) (ts : List (List ℕ)) → Gains d ts (with_texts d (with_all d.texts ts))
all-gained d [] = gains-none d
all-gained d (t ∷ ts) =
    let d1 : Data = with_texts d (with_text d.texts t) in
    gains-then d d1 (with_texts d1 (with_all d1.texts ts)) (t ∷ []) ts (gains-text d d1 t refl) (all-gained d1 ts)

pub taken-gained : (d d' : Data) (ts : List (List ℕ)) → d' ≡ with_texts d (with_all d.texts ts) → Gains d [] d'
taken-gained d d' ts e = gains-less d d' ts (subst (λ (x : Data). Gains d ts x) (sym e) (all-gained d ts))

-- ---- ids stay

text-there : (texts : List (List ℕ)) (t : List ℕ) → has_text texts t ≡ true → slice_get texts (id_of texts t).0 ≡ Some t
text-there texts t h =
    slice_get-get_or texts (id_of texts t).0 [] (id-below texts t h) ∙ ap (λ (u : List ℕ). Some u) (id-text texts t h)

id-kept : (a b : List (List ℕ)) (t : List ℕ) → KeepsIds a b → AreDistinct b → has_text a t ≡ true
    → id_of a t ≡ id_of b t
id-kept a b t k distinct h =
    id-is b t (id_of a t) distinct
    (subst (λ (ts : List (List ℕ)). slice_get ts (id_of a t).0 ≡ Some t) (sym k.1)
    (slice_get-added a k.0 (id_of a t).0 t (text-there a t h)))

pub names-kept : (d : Data) (texts : List (List ℕ)) (side : Side) (is : List Intrinsic) → KeepsIds d.texts texts
    → AreDistinct texts → AreThere d.texts (map name_of is)
    → map (bound_built_in d side) is ≡ map (bound_built_in (with_texts d texts) side) is
names-kept d texts side [] k distinct there = refl
names-kept d texts side (i ∷ is) k distinct there =
    let its : Option Value = option_map v.Object (built_in_of d.joined d.cells side (place_of i)) in
    ap (λ (name : StrId). bound_to name its ∷ map (bound_built_in d side) is)
    (id-kept d.texts texts (name_of i) k distinct
    (All-head (λ t. has_text d.texts t ≡ true) (name_of i) (map name_of is) there))
    ∙ ap (λ (bs : List Bound). bound_to (id_of texts (name_of i)) its ∷ bs)
    (names-kept d texts side is k distinct
    (All-tail (λ t. has_text d.texts t ≡ true) (name_of i) (map name_of is) there))

-- ---- one name more

pub record Binds (d : Data) (side : Side) (k : ℕ) (d' : Data) (names : List Bound) : Type 0 where
  pub texts : d' ≡ with_texts d (with_all d.texts (map name_of (take k bound_intrinsics)))
  pub are : names ≡ map (bound_built_in d' side) (take k bound_intrinsics)

pub binds-none : (d : Data) (side : Side) → Binds d side 0 d []
binds-none d side = record { texts = refl; are = refl }

mapped-last : {A B : Type 0} (f : A → B) (xs : List A) (x : A) → map f (xs ++ x ∷ []) ≡ map f xs ++ f x ∷ []
mapped-last f [] x = refl
mapped-last f (y ∷ ys) x = ap (λ zs. f y ∷ zs) (mapped-last f ys x)

one-more : (k : ℕ) (i : Intrinsic) → slice_get bound_intrinsics k ≡ Some i
    → take (k + 1) bound_intrinsics ≡ take k bound_intrinsics ++ i ∷ []
one-more k i at =
    rw add-one
    (take-suc bound_intrinsics k i (slice_get_within bound_intrinsics k i at)
    ∙ ap (λ (x : Intrinsic). take k bound_intrinsics ++ x ∷ []) (get_or_from_slice_get bound_intrinsics k i i at))

pub binds-more : (d d1 d2 : Data) (side : Side) (k : ℕ) (i : Intrinsic) (before after : List Bound)
    → slice_get bound_intrinsics k ≡ Some i → AreDistinct d2.texts → Binds d side k d1 before
    → d2 ≡ with_texts d1 (with_text d1.texts (name_of i)) → after ≡ before ++ bound_built_in d2 side i ∷ []
    → Binds d side (k + 1) d2 after
binds-more d d1 d2 side k i before after at distinct b e more = record { texts = texts; are = are }
  where
    xs : List Intrinsic
    xs = take k bound_intrinsics

    ts : List (List ℕ)
    ts = map name_of xs

    last : map name_of (take (k + 1) bound_intrinsics) ≡ ts ++ name_of i ∷ []
    last = ap (λ (is : List Intrinsic). map name_of is) (one-more k i at) ∙ mapped-last name_of xs i

    texts : d2 ≡ with_texts d (with_all d.texts (map name_of (take (k + 1) bound_intrinsics)))
    texts =
        e ∙ ap (λ (x : Data). with_texts x (with_text x.texts (name_of i))) b.texts
        ∙ ap (λ (us : List (List ℕ)). with_texts d us) (sym (all-more d.texts ts (name_of i)))
        ∙ ap (λ (us : List (List ℕ)). with_texts d (with_all d.texts us)) (sym last)

    gained : Gains d1 (name_of i ∷ []) d2
    gained = gains-text d1 d2 (name_of i) e

    there : AreThere d1.texts ts
    there = subst (λ (x : Data). AreThere x.texts ts) (sym b.texts) (all-gained d ts).there

    kept : map (bound_built_in d1 side) xs ≡ map (bound_built_in d2 side) xs
    kept =
        names-kept d1 d2.texts side xs gained.stays distinct there
        ∙ ap (λ (x : Data). map (bound_built_in x side) xs) (sym gained.rest)

    are : after ≡ map (bound_built_in d2 side) (take (k + 1) bound_intrinsics)
    are =
        more ∙ ap (λ (bs : List Bound). bs ++ bound_built_in d2 side i ∷ []) (b.are ∙ kept)
        ∙ sym (mapped-last (bound_built_in d2 side) xs i)
        ∙ ap (λ (is : List Intrinsic). map (bound_built_in d2 side) is) (sym (one-more k i at))

-- ---- the built-ins that are bound

of-table : map (λ i. intrinsic (place_of i)) bound_intrinsics ≡ map (λ i. Some i) bound_intrinsics
of-table = refl

all-within : list_all (λ i. nat_lt (place_of i) 80) bound_intrinsics ≡ true
all-within = refl

all-short : list_all (λ i. is_short (name_of i)) bound_intrinsics ≡ true
all-short = refl

pub bound-within : (k : ℕ) (i : Intrinsic) → slice_get bound_intrinsics k ≡ Some i → place_of i < 80
bound-within k i at =
    ltb-true (place_of i) 80
    (member-of (λ j. nat_lt (place_of j) 80) bound_intrinsics k i all-within at)

pub bound-short : (k : ℕ) (i : Intrinsic) → slice_get bound_intrinsics k ≡ Some i → length (name_of i) ≤ 24
bound-short k i at =
    let l : length (name_of i) < 25 =
    ltb-true (length (name_of i)) 25 (member-of (λ j. is_short (name_of j)) bound_intrinsics k i all-short at) in
    omega (arith, l)

-- such a built-in is the one at its place
pub bound-at : (k : ℕ) (i : Intrinsic) → slice_get bound_intrinsics k ≡ Some i → intrinsic (place_of i) ≡ Some i
bound-at k i at =
    let same : Some (intrinsic (place_of i)) ≡ Some (Some i) =
    sym (slice_get-map (λ j. intrinsic (place_of j)) bound_intrinsics k
    ∙ ap (option_map (λ j. intrinsic (place_of j))) at)
    ∙ ap (λ (os : List (Option Intrinsic)). slice_get os k) of-table
    ∙ slice_get-map (λ j. Some j) bound_intrinsics k ∙ ap (option_map (λ j. Some j)) at in
    cc

-- ---- a step of the loop over their places

module _ (places : List ℕ) (are : places ≡ map place_of bound_intrinsics) (k n : ℕ) (l : k < length places) where
  its : Intrinsic
  its = get_or bound_intrinsics k Print

  within : k < length bound_intrinsics
  within =
      subst (λ (m : ℕ). k < m)
      (ap (λ (ns : List ℕ). length ns) are ∙ length-map bound_intrinsics place_of) l

  at-its : slice_get bound_intrinsics k ≡ Some its
  unfolding its
  at-its = slice_get-get_or bound_intrinsics k Print within

  place-is : get_or places k n ≡ place_of its
  place-is =
      ap (λ (ns : List ℕ). get_or ns k n) are
      ∙ get_or_from_slice_get (map place_of bound_intrinsics) k (place_of its) n
      (slice_get-map place_of bound_intrinsics k ∙ ap (option_map place_of) at-its)

  pub place-within : get_or places k n < 80
  place-within = subst (λ (m : ℕ). m < 80) (sym place-is) (bound-within k its at-its)

  name-is : (units : List ℕ) → option_map name_of (intrinsic (get_or places k n)) ≡ Some units → units ≡ name_of its
  name-is units e =
      let same : Some units ≡ Some (name_of its) =
      sym e ∙ ap (λ (m : ℕ). option_map name_of (intrinsic m)) place-is
      ∙ ap (λ (o : Option Intrinsic). option_map name_of o) (bound-at k its at-its) in
      cc

  pub name-short : (units : List ℕ) → option_map name_of (intrinsic (get_or places k n)) ≡ Some units
      → length units ≤ 24
  name-short units e =
      subst (λ (us : List ℕ). length us ≤ 24) (sym (name-is units e)) (bound-short k its at-its)

  pub binds-step : (d d1 d2 : Data) (side : Side) (units : List ℕ) (name : StrId) (value : Option Value)
      → (before after : List Bound) → Binds d side k d1 before
      → option_map name_of (intrinsic (get_or places k n)) ≡ Some units
      → d2 ≡ with_texts d1 (with_text d1.texts units) → name ≡ id_of d2.texts units → AreDistinct d2.texts
      → value ≡ option_map v.Object (built_in_of d2.joined d2.cells side (get_or places k n))
      → after ≡ before ++ bound_to name value ∷ [] → Binds d side (k + 1) d2 after
  binds-step d d1 d2 side units name value before after b named e id distinct own more =
      let u : units ≡ name_of its = name-is units named in
      let names : name ≡ id_of d2.texts (name_of its) = id ∙ ap (λ (us : List ℕ). id_of d2.texts us) u in
      let values : value ≡ option_map v.Object (built_in_of d2.joined d2.cells side (place_of its)) =
      own ∙ ap (λ (m : ℕ). option_map v.Object (built_in_of d2.joined d2.cells side m)) place-is in
      binds-more d d1 d2 side k its before after at-its distinct b
      (e ∙ ap (λ (us : List ℕ). with_texts d1 (with_text d1.texts us)) u)
      (more ∙ ap (λ (x : StrId). before ++ bound_to x value ∷ []) names
      ∙ ap (λ (o : Option Value). before ++ bound_to (id_of d2.texts (name_of its)) o ∷ []) values)

-- the names are all there
pub binds-all : (d d' : Data) (side : Side) (k : ℕ) (names : List Bound) → Binds d side k d' names
    → length bound_intrinsics ≤ k
    → (d' ≡ with_texts d (with_all d.texts (map name_of bound_intrinsics)))
    × (names ≡ map (bound_built_in d' side) bound_intrinsics)
binds-all d d' side k names b l =
    let all : take k bound_intrinsics ≡ bound_intrinsics = take_all k bound_intrinsics l in (
      b.texts ∙ ap (λ (is : List Intrinsic). with_texts d (with_all d.texts (map name_of is))) all,
      b.are ∙ ap (λ (is : List Intrinsic). map (bound_built_in d' side) is) all,
    )

-- only texts were added
pub binds-gained : (d d' : Data) (side : Side) (k : ℕ) (names : List Bound) → Binds d side k d' names → Gains d [] d'
binds-gained d d' side k names b = taken-gained d d' (map name_of (take k bound_intrinsics)) b.texts
