-- The built-ins of a furnished world: each is found, and is as the table has it.
use Rattle.mb_base.specs.declared.value.Side.{Side}
use Rattle.mb_desc.specs.declared.descriptor.Full.{Full}
use Rattle.mb_desc.specs.declared.descriptor.Full.TheVariants.{Datum, Accessor}
use Rattle.mb_frames.proofs.Parts.{left-part, right-part}
use Rattle.mb_frames.specs.Failing.{HasItsBuiltIns}
use Rattle.mb_intrinsics.proofs.Adding.{both, member-of, texts-of}
use Rattle.mb_intrinsics.proofs.Cells.{get-seam}
use Rattle.mb_intrinsics.proofs.Homes.{desk-there}
use Rattle.mb_intrinsics.proofs.Naming.{id-text}
use Rattle.mb_intrinsics.proofs.Rows.{at-place}
use Rattle.mb_intrinsics.specs.Furnished.{HasTableTexts, IsFurnished, built_in_id, desk_cell, full_of, full_texts, furnished_cells, home_count, key_of, key_texts, property_of, sides_from, standard_cell, standard_cells, value_of, value_texts}
use Rattle.mb_intrinsics.specs.machine.Filling.{AreThere, properties_texts, property_texts}
use Rattle.mb_model.specs.Story.{desk}
use Rattle.mb_text.specs.Texts.{has_text}
use Rattle.mb_world.specs.Data.{AtPlace, Data, Stand, is_object_cell, obj_id, same_side, serves, stand}
use Rattle.mb_world.specs.Formed.{HasBuiltIn, as_standard}
use Rattle.mb_world.specs.Graph.{Plain, Property, Standard, Thing}
use Rattle.mb_world.specs.Image.{Names, Resolve, full_in, key_in, names_of, object_in, property_in, stood, thing_in, things_in}
use Rattle.mb_world.specs.Intrinsics.{Intrinsic, Print, intrinsic, intrinsics, place_of}
use Rattle.mb_world.specs.Key.{Named, PropertyKey, SymbolKey}
use Rattle.mb_world.specs.Objects.{new_thing}
use Rattle.mb_world.specs.Standard.{object_prototype, properties_of, prototype_of, standard}
use Rattle.mb_world.specs.Value.{BuiltIn, Null, Object, Symbol, Text, Truth, Undefined, Val, Whole}
use Rattle.mb_world.specs.declared.cell.Cell.{Cell}
use Rattle.std.proofs.Common.{Bool, List, None, Option, Some, [], ap, append_assoc, arith, codes, false, filter, get_or, length, map, nat_eq, nat_lt, option_map, refl, slice_get, subst, suc, sym, true, true≢false, zero, ℕ, ◌*◌, ◌+◌, ◌++◌, ◌<◌, ◌∙◌, ◌∷◌, ◌≡◌, ◌||◌}
use Rattle.std.proofs.lemmas.Bool.{eq-eqb, eqb-true, ltb-true}
use Rattle.std.proofs.lemmas.Iterator.Adapters.{position_from-zero}
use Rattle.std.proofs.lemmas.List.{length-map}
use Rattle.std.proofs.lemmas.List.Elements.{All-head}
use Rattle.std.proofs.lemmas.List.FromFn.{get_or-range_with_len}
use Rattle.std.proofs.lemmas.Option.{get_or_from_slice_get, slice_get-get_or, slice_get-map, slice_get_within}
use Rattle.std.specs.List.{flat_map, list_all, position, position_from, range_with_len}
use Rattle.std.specs.Prelude.{All, cond, if◌then◌else◌, ◌&&◌}

-- ---- the first that passes, over lists one after the other

first-some : {A : Type 0} (p : A → Bool) (n : ℕ) (xs ys : List A) (k : ℕ) → position_from p n xs ≡ Some k
    → position_from p n (xs ++ ys) ≡ Some k
first-some p n [] ys k e = cc
first-some p n (x ∷ xs) ys k e = by (p x) (first-some p (n + 1) xs ys k) e
  where
    by : (b : Bool) → (position_from p (n + 1) xs ≡ Some k → position_from p (n + 1) (xs ++ ys) ≡ Some k)
        → cond b (Some n) (position_from p (n + 1) xs) ≡ Some k
        → cond b (Some n) (position_from p (n + 1) (xs ++ ys)) ≡ Some k
    by true f e = e
    by false f e = f e

first-none : {A : Type 0} (p : A → Bool) (n m : ℕ) (xs ys : List A) → position_from p n xs ≡ None → m ≡ n + length xs
    → position_from p n (xs ++ ys) ≡ position_from p m ys
first-none p n m [] ys e is = let q : m ≡ n = omega (arith, is) in rw q refl
first-none p n m (x ∷ xs) ys e is = by (p x) (λ h. first-none p (n + 1) m xs ys h (omega (arith, is))) e
  where
    by : (b : Bool) → (position_from p (n + 1) xs ≡ None → position_from p (n + 1) (xs ++ ys) ≡ position_from p m ys)
        → cond b (Some n) (position_from p (n + 1) xs) ≡ None
        → cond b (Some n) (position_from p (n + 1) (xs ++ ys)) ≡ position_from p m ys
    by true f e = cc
    by false f e = f e

get-front : {A : Type 0} (xs ys : List A) (n : ℕ) (x : A) → slice_get xs n ≡ Some x → slice_get (xs ++ ys) n ≡ Some x
get-front [] ys n x e = cc
get-front (y ∷ xs) ys zero x e = e
get-front (y ∷ xs) ys (suc n) x e = get-front xs ys n x e

unequal : (a b : ℕ) → (a ≡ b → ⊥) → nat_eq a b ≡ false
unequal a b h = by (nat_eq a b) refl
  where
    by : (x : Bool) → nat_eq a b ≡ x → x ≡ false
    by false e = refl
    by true e = absurd (h (eqb-true a b e))

-- ---- the places of the table

places-are : map place_of intrinsics ≡ range_with_len 0 80
places-are = refl

place-is : (k : ℕ) (i : Intrinsic) → intrinsic k ≡ Some i → place_of i ≡ k
place-is k i at =
    let e : slice_get (map place_of intrinsics) k ≡ Some (place_of i) =
    slice_get-map place_of intrinsics k ∙ ap (option_map place_of) at in
    let a : get_or (range_with_len 0 80) k 0 ≡ place_of i =
    subst (λ (xs : List ℕ). get_or xs k 0 ≡ place_of i) places-are
    (get_or_from_slice_get (map place_of intrinsics) k (place_of i) 0 e) in
    omega (arith, a, get_or-range_with_len 0 80 k 0 (slice_get_within intrinsics k i at))

-- ---- one home

abbrev pub at_side : ℕ → Side
at_side s = record { 0 = s }

block-none : (texts : List (List ℕ)) (h side : Side) (joined : Bool) (k n : ℕ) (is : List Intrinsic)
    → (joined || same_side side h) ≡ false
    → position_from (serves joined side k) n (map (standard_cell texts h) is) ≡ None
block-none texts h side joined k n [] e = refl
block-none texts h side joined k n (i ∷ is) e =
    ap (λ (b : Bool). cond (b && nat_eq k (place_of i)) (Some n)
    (position_from (serves joined side k) (n + 1) (map (standard_cell texts h) is))) e
    ∙ block-none texts h side joined k (n + 1) is e

block-some : (texts : List (List ℕ)) (h side : Side) (joined : Bool) (k n : ℕ) (is : List Intrinsic) (a l j m : ℕ)
    → (joined || same_side side h) ≡ true → map place_of is ≡ range_with_len a l → a + j ≡ k → j < l → n + j ≡ m
    → position_from (serves joined side k) n (map (standard_cell texts h) is) ≡ Some m
block-some texts h side joined k n is a zero j m e places at less sum = absurd (omega (arith, less))
block-some texts h side joined k n [] a (suc l) j m e places at less sum = cc
block-some texts h side joined k n (i ∷ is) a (suc l) zero m e places at less sum =
    let own : place_of i ≡ a = cc in
    let hit : ((joined || same_side side h) && nat_eq k (place_of i)) ≡ true =
    ap (λ (b : Bool). b && nat_eq k (place_of i)) e ∙ eq-eqb k (place_of i) (omega (arith, own, at)) in
    let q : n ≡ m = omega (arith, sum) in
    ap (λ (b : Bool). cond b (Some n)
    (position_from (serves joined side k) (n + 1) (map (standard_cell texts h) is))) hit
    ∙ ap (λ (x : ℕ). Some x) q
block-some texts h side joined k n (i ∷ is) a (suc l) (suc j) m e places at less sum =
    let own : place_of i ≡ a = cc in
    let rest : map place_of is ≡ range_with_len (a + 1) l = cc in
    let missed : ((joined || same_side side h) && nat_eq k (place_of i)) ≡ false =
    ap (λ (b : Bool). b && nat_eq k (place_of i)) e ∙ unequal k (place_of i) (λ q. omega (arith, own, at, q)) in
    ap (λ (b : Bool). cond b (Some n)
    (position_from (serves joined side k) (n + 1) (map (standard_cell texts h) is))) missed
    ∙ block-some texts h side joined k (n + 1) is (a + 1) l j m e rest (omega (arith, at)) (omega (arith, less))
    (omega (arith, sum))

-- ---- the homes one after the other

found-at : (texts : List (List ℕ)) (side : Side) (joined : Bool) (k h s m j n t : ℕ) (rest : List Cell) → k < 80 → j < m
    → s + j ≡ h → (joined || nat_eq side.0 h) ≡ true → ((u : ℕ) → u < h → (joined || nat_eq side.0 u) ≡ false)
    → n + 80 * j + k ≡ t
    → position_from (serves joined side k) n (flat_map (standard_cells texts) (sides_from s m) ++ rest) ≡ Some t
found-at texts side joined k h s zero j n t rest small less at serves_it others_not sum = absurd (omega (arith, less))
found-at texts side joined k h s (suc m) zero n t rest small less at serves_it others_not sum =
    let q : h ≡ s = omega (arith, at) in
    let own : position_from (serves joined side k) n (standard_cells texts (at_side s)) ≡ Some t =
    block-some texts (at_side s) side joined k n intrinsics 0 80 k t
    (subst (λ (u : ℕ). (joined || nat_eq side.0 u) ≡ true) q serves_it) places-are (omega arith) small
    (omega (arith, sum)) in
    first-some (serves joined side k) n
    (standard_cells texts (at_side s) ++ flat_map (standard_cells texts) (sides_from (suc s) m)) rest t
    (first-some (serves joined side k) n (standard_cells texts (at_side s))
    (flat_map (standard_cells texts) (sides_from (suc s) m)) t own)
found-at texts side joined k h s (suc m) (suc j) n t rest small less at serves_it others_not sum =
    let others : List Cell = flat_map (standard_cells texts) (sides_from (suc s) m) in
    let many : length (standard_cells texts (at_side s)) ≡ 80 =
    length-map intrinsics (standard_cell texts (at_side s)) in
    ap (λ (cs : List Cell). position_from (serves joined side k) n cs)
    (append_assoc (standard_cells texts (at_side s)) others rest)
    ∙ first-none (serves joined side k) n (n + 80) (standard_cells texts (at_side s)) (others ++ rest)
    (block-none texts (at_side s) side joined k n intrinsics (others_not s (omega (arith, at)))) (omega (arith, many))
    ∙ found-at texts side joined k h (suc s) m j (n + 80) t rest small (omega (arith, less))
    (omega (arith, at)) serves_it others_not
    (omega (arith, sum))

get-home : (texts : List (List ℕ)) (s m j h k t : ℕ) (rest : List Cell) (i : Intrinsic) → s + j ≡ h → j < m
    → intrinsic k ≡ Some i → 80 * j + k ≡ t
    → slice_get (flat_map (standard_cells texts) (sides_from s m) ++ rest) t ≡ Some (standard_cell texts (at_side h) i)
get-home texts s zero j h k t rest i is less at sum = absurd (omega (arith, less))
get-home texts s (suc m) zero h k t rest i is less at sum =
    let q : s ≡ h = omega (arith, is) in
    let r : k ≡ t = omega (arith, sum) in
    let own : slice_get (standard_cells texts (at_side s)) k ≡ Some (standard_cell texts (at_side s) i) =
    slice_get-map (standard_cell texts (at_side s)) intrinsics k
    ∙ ap (option_map (standard_cell texts (at_side s))) at in
    let there : slice_get (standard_cells texts (at_side s)) t ≡ Some (standard_cell texts (at_side s) i) =
    subst (λ (u : ℕ). slice_get (standard_cells texts (at_side s)) u
    ≡ Some (standard_cell texts (at_side s) i)) r own in
    get-front (standard_cells texts (at_side s) ++ flat_map (standard_cells texts) (sides_from (suc s) m)) rest t
    (standard_cell texts (at_side s) i)
    (get-front (standard_cells texts (at_side s)) (flat_map (standard_cells texts) (sides_from (suc s) m)) t
    (standard_cell texts (at_side s) i) there)
    ∙ ap (λ (u : ℕ). Some (standard_cell texts (at_side u) i)) q
get-home texts s (suc m) (suc j) h k t rest i is less at sum =
    let others : List Cell = flat_map (standard_cells texts) (sides_from (suc s) m) in
    let many : length (standard_cells texts (at_side s)) ≡ 80 =
    length-map intrinsics (standard_cell texts (at_side s)) in
    ap (λ (cs : List Cell). slice_get cs t) (append_assoc (standard_cells texts (at_side s)) others rest)
    ∙ get-seam (standard_cells texts (at_side s)) (others ++ rest) t (80 * j + k) (omega (arith, many, sum))
    ∙ get-home texts (suc s) m j h k (80 * j + k) rest i (omega (arith, is)) (omega (arith, less)) at refl

-- ---- the values of the table

-- null or a built-in of the table
abbrev pub is_link : Val → Bool
is_link Null = true
is_link (BuiltIn k) = nat_lt k 80
is_link x = false

-- no value of the table names an object
abbrev pub is_plain : Val → Bool
is_plain (Object n) = false
is_plain (BuiltIn k) = nat_lt k 80
is_plain x = true

abbrev pub is_plain_full : Full Val → Bool
is_plain_full (Datum x w e c) = is_plain x
is_plain_full (Accessor g s e c) = is_plain g && is_plain s

abbrev is_plain_row : Intrinsic → Bool
is_plain_row i = is_link (prototype_of i) && list_all (λ p. is_plain_full p.full) (properties_of i)

all-plain : list_all is_plain_row intrinsics ≡ true
all-plain = refl

-- ---- a furnished world

abbrev home_of : Bool → Side → ℕ
home_of true side = 0
home_of false side = side.0

home-within : (joined : Bool) (side : Side) (n : ℕ) → side.0 < n → home_of joined side < home_count joined n
home-within true side n l = omega arith
home-within false side n l = l

home-serves : (joined : Bool) (side : Side) → (joined || nat_eq side.0 (home_of joined side)) ≡ true
home-serves true side = refl
home-serves false side = eq-eqb side.0 side.0 refl

home-first : (joined : Bool) (side : Side) (u : ℕ) → u < home_of joined side → (joined || nat_eq side.0 u) ≡ false
home-first true side u l = absurd (omega (arith, l))
home-first false side u l = unequal side.0 u (λ q. omega (arith, l, q))

abbrev thing : ℕ → Val → List Property → Thing
thing k x ps = record {
  owner = None;
  label = None;
  kind = Standard k;
  prototype = x;
  extensible = false;
  properties = ps;
}

abbrev property : PropertyKey → Full Val → Property
property key full = record { key = key; full = full }

abbrev pub world_of : Data → ℕ → List (List ℕ) → Data
world_of d n texts = record d { texts = texts; sides = n; cells = furnished_cells texts d.joined n }

module _ (d : Data) (n : ℕ) (texts : List (List ℕ)) (there : HasTableTexts texts) where
  abbrev world : Data
  world = world_of d n texts

  pub cell-there : (h k : ℕ) (i : Intrinsic) → h < home_count d.joined n → intrinsic k ≡ Some i
      → slice_get world.cells (80 * h + k) ≡ Some (standard_cell texts (at_side h) i)
  cell-there h k i l at =
      get-home texts 0 (home_count d.joined n) h h k (80 * h + k) (desk_cell texts ∷ []) i (omega arith) l at refl

  pub object-back : (h k : ℕ) → h < home_count d.joined n → nat_lt k 80 ≡ true
      → object_in (names_of world) (built_in_id (at_side h) k) ≡ BuiltIn k
  object-back h k l small =
      let i : Intrinsic = get_or intrinsics k Print in
      let at : intrinsic k ≡ Some i = at-place k (ltb-true k 80 small) in
      let stands : slice_get (map stand world.cells) (80 * h + k) ≡ Some (AtPlace k) =
      slice_get-map stand world.cells (80 * h + k) ∙ ap (option_map stand) (cell-there h k i l at)
      ∙ ap (λ (p : ℕ). Some (AtPlace p)) (place-is k i at) in
      ap (λ (o : Option Stand). stood (names_of world) (80 * h + k) o) stands

  link-back : (h : ℕ) (x : Val) → h < home_count d.joined n → is_link x ≡ true
      → Resolve (names_of world) (value_of texts (at_side h) x) ≡ x
  link-back h Null l e = refl
  link-back h (BuiltIn k) l e = object-back h k l e
  link-back h Undefined l e = absurd (true≢false (sym e))
  link-back h (Truth b) l e = absurd (true≢false (sym e))
  link-back h (Whole z) l e = absurd (true≢false (sym e))
  link-back h (Text t) l e = absurd (true≢false (sym e))
  link-back h (Symbol s) l e = absurd (true≢false (sym e))
  link-back h (Object o) l e = absurd (true≢false (sym e))

  value-back : (h : ℕ) (x : Val) → h < home_count d.joined n → is_plain x ≡ true → AreThere texts (value_texts x)
      → Resolve (names_of world) (value_of texts (at_side h) x) ≡ x
  value-back h Null l e has = refl
  value-back h (BuiltIn k) l e has = object-back h k l e
  value-back h Undefined l e has = refl
  value-back h (Truth b) l e has = refl
  value-back h (Whole z) l e has = refl
  value-back h (Text t) l e has =
      ap (λ (u : List ℕ). Text u) (id-text texts t (All-head (λ u. has_text texts u ≡ true) t [] has))
  value-back h (Symbol s) l e has = refl
  value-back h (Object o) l e has = absurd (true≢false (sym e))

  full-back : (h : ℕ) (f : Full Val) → h < home_count d.joined n → is_plain_full f ≡ true
      → AreThere texts (full_texts f)
      → full_in (names_of world) (full_of texts (at_side h) f) ≡ f
  full-back h (Datum x w e c) l plain has = ap (λ (y : Val). Datum y w e c) (value-back h x l plain has)
  full-back h (Accessor g s e c) l plain has =
      let parts = both (is_plain g) (is_plain s) plain in
      ap (λ (y : Val). Accessor y (Resolve (names_of world) (value_of texts (at_side h) s)) e c)
      (value-back h g l parts.0 (left-part (λ u. has_text texts u ≡ true) (value_texts g) (value_texts s) has))
      ∙ ap (λ (y : Val). Accessor g y e c)
      (value-back h s l parts.1 (right-part (λ u. has_text texts u ≡ true) (value_texts g) (value_texts s) has))

  key-back : (key : PropertyKey) → AreThere texts (key_texts key) → key_in (names_of world) (key_of texts key) ≡ key
  key-back (Named name) has =
      ap (λ (u : List ℕ). Named u) (id-text texts name (All-head (λ u. has_text texts u ≡ true) name [] has))
  key-back (SymbolKey s) has = refl

  properties-back : (h : ℕ) (ps : List Property) → h < home_count d.joined n
      → list_all (λ p. is_plain_full p.full) ps ≡ true → AreThere texts (properties_texts ps)
      → map (property_in (names_of world)) (map (property_of texts (at_side h)) ps) ≡ ps
  properties-back h [] l plain has = refl
  properties-back h (p ∷ ps) l plain has =
      let parts = both (is_plain_full p.full) (list_all (λ q. is_plain_full q.full) ps) plain in
      let own : AreThere texts (property_texts p) =
      left-part (λ u. has_text texts u ≡ true) (property_texts p) (properties_texts ps) has in
      let others : AreThere texts (properties_texts ps) =
      right-part (λ u. has_text texts u ≡ true) (property_texts p) (properties_texts ps) has in
      let rest : List Property = map (property_in (names_of world)) (map (property_of texts (at_side h)) ps) in
      ap (λ (key : PropertyKey). property key (full_in (names_of world) (full_of texts (at_side h) p.full)) ∷ rest)
      (key-back p.key (left-part (λ u. has_text texts u ≡ true) (key_texts p.key) (full_texts p.full) own))
      ∙ ap (λ (full : Full Val). property p.key full ∷ rest)
      (full-back h p.full l parts.0
      (right-part (λ u. has_text texts u ≡ true) (key_texts p.key) (full_texts p.full) own))
      ∙ ap (λ (qs : List Property). p ∷ qs) (properties-back h ps l parts.1 others)

  cell-back : (h k : ℕ) (i : Intrinsic) → h < home_count d.joined n → intrinsic k ≡ Some i
      → as_standard (thing_in (names_of world) (standard_cell texts (at_side h) i)) ≡ standard k i
  cell-back h k i l at =
      let parts = both (is_link (prototype_of i)) (list_all (λ p. is_plain_full p.full) (properties_of i))
      (member-of is_plain_row intrinsics k i all-plain at) in
      let x : Val = Resolve (names_of world) (value_of texts (at_side h) (prototype_of i)) in
      let ps : List Property =
      map (property_in (names_of world)) (map (property_of texts (at_side h)) (properties_of i)) in
      ap (λ (p : ℕ). thing p x ps) (place-is k i at)
      ∙ ap (λ (y : Val). thing k y ps) (link-back h (prototype_of i) l parts.0)
      ∙ ap (λ (qs : List Property). thing k (prototype_of i) qs)
      (properties-back h (properties_of i) l parts.1 (texts-of texts k i there at))

  pub has-built-ins : HasItsBuiltIns world
  has-built-ins side place l some = by (intrinsic place) refl
    where
      h : ℕ
      h = home_of d.joined side

      within : h < home_count d.joined n
      within = home-within d.joined side n l

      by : (o : Option Intrinsic) → intrinsic place ≡ o → HasBuiltIn world side place
      by None e = absurd (some e)
      by (Some i) e = record {
        id = built_in_id (at_side h) place;
        cell = standard_cell texts (at_side h) i;
        found = ap (option_map obj_id)
            (position_from-zero (serves d.joined side place) world.cells
            ∙ found-at texts side d.joined place h 0 (home_count d.joined n) h 0 (80 * h + place) (desk_cell texts ∷ [])
            (slice_get_within intrinsics place i e) within (omega arith) (home-serves d.joined side)
            (home-first d.joined side) (omega arith));
        there = cell-there h place i within e;
        standard = ap (λ (t : Thing). Some t) (cell-back h place i within e) ∙ sym (ap (option_map (standard place)) e);
      }

pub furnished-built-ins : (d d' : Data) (n : ℕ) → IsFurnished d n d' → HasItsBuiltIns d'
furnished-built-ins d d' n f =
    subst (λ (x : Data). HasItsBuiltIns x) (sym f.all) (has-built-ins d n d'.texts f.texts_there)

-- ---- the objects

none-kept : {A : Type 0} (p : A → Bool) (xs ys : List A) → filter p xs ≡ [] → filter p (xs ++ ys) ≡ filter p ys
none-kept p [] ys e = refl
none-kept p (x ∷ xs) ys e = by (p x) (none-kept p xs ys) e
  where
    by : (b : Bool) → (filter p xs ≡ [] → filter p (xs ++ ys) ≡ filter p ys)
        → (if b then x ∷ filter p xs else filter p xs) ≡ []
        → (if b then x ∷ filter p (xs ++ ys) else filter p (xs ++ ys)) ≡ filter p ys
    by true f e = cc
    by false f e = f e

no-objects : (texts : List (List ℕ)) (h : Side) (is : List Intrinsic)
    → filter is_object_cell (map (standard_cell texts h) is) ≡ []
no-objects texts h [] = refl
no-objects texts h (i ∷ is) = no-objects texts h is

past-homes : (texts : List (List ℕ)) (s m : ℕ) (rest : List Cell)
    → filter is_object_cell (flat_map (standard_cells texts) (sides_from s m) ++ rest) ≡ filter is_object_cell rest
past-homes texts s zero rest = refl
past-homes texts s (suc m) rest =
    let others : List Cell = flat_map (standard_cells texts) (sides_from (suc s) m) in
    ap (λ (cs : List Cell). filter is_object_cell cs) (append_assoc (standard_cells texts (at_side s)) others rest)
    ∙ none-kept is_object_cell (standard_cells texts (at_side s)) (others ++ rest)
    (no-objects texts (at_side s) intrinsics)
    ∙ past-homes texts (suc s) m rest

some-home : (joined : Bool) (n : ℕ) → 0 < n → 0 < home_count joined n
some-home true n l = omega arith
some-home false n l = l

desk-alone : (d : Data) (n : ℕ) (texts : List (List ℕ)) → HasTableTexts texts → 0 < n
    → things_in (names_of (world_of d n texts)) (furnished_cells texts d.joined n) ≡ desk ∷ []
desk-alone d n texts there l =
    let names : Names = names_of (world_of d n texts) in
    ap (λ (cs : List Cell). map (thing_in names) cs)
    (past-homes texts 0 (home_count d.joined n) (desk_cell texts ∷ []))
    ∙ ap (λ (t : List ℕ). new_thing 0 (Some t) Plain (Resolve names (value_of texts (at_side 0) object_prototype)) ∷ [])
    (id-text texts (codes "desk") (desk-there texts there))
    ∙ ap (λ (x : Val). new_thing 0 (Some (codes "desk")) Plain x ∷ [])
    (link-back d n texts there 0 object_prototype (some-home d.joined n l) refl)

pub desk-only : (d d' : Data) (n : ℕ) → 0 < n → IsFurnished d n d' → things_in (names_of d') d'.cells ≡ desk ∷ []
desk-only d d' n l f =
    subst (λ (x : Data). things_in (names_of x) x.cells ≡ desk ∷ []) (sym f.all)
    (desk-alone d n d'.texts f.texts_there l)
