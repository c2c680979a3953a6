-- A furnished world has no cell of the membrane, and a side has one built-in of a place.
use Rattle.mb_base.specs.declared.value.ObjId.{ObjId}
use Rattle.mb_base.specs.declared.value.Side.{Side}
use Rattle.mb_intrinsics.proofs.Standing.{at_side}
use Rattle.mb_intrinsics.specs.Furnished.{IsFurnished, desk_cell, furnished_cells, home_count, sides_from, standard_cell, standard_cells}
use Rattle.mb_world.proofs.Grow.{All-at}
use Rattle.mb_world.specs.Contained.{HasProxyOf, IsMembrane, Paired}
use Rattle.mb_world.specs.Data.{Data, cell_at}
use Rattle.mb_world.specs.Formed.{is_of_membrane}
use Rattle.mb_world.specs.Intrinsics.{Intrinsic, intrinsics, place_of}
use Rattle.mb_world.specs.declared.cell.Cell.{Cell}
use Rattle.mb_world.specs.declared.entry.Entry.{Entry}
use Rattle.mb_world.specs.declared.cell.CellKind.{CellKind}
use Rattle.mb_world.specs.declared.cell.CellKind.TheVariants as kind
use Rattle.std.proofs.Common.{Bool, List, None, Some, [], ap, append_assoc, arith, false, inl, inr, ◌⊎◌, length, map, refl, slice_get, subst, suc, sym, true, true≢false, zero, ℕ, ◌*◌, ◌+◌, ◌++◌, ◌<◌, ◌∙◌, ◌∷◌, ◌≡◌}
use Rattle.std.proofs.lemmas.List.{length-map}
use Rattle.std.proofs.lemmas.List.Elements.{All-append, All-cons, All-map, All-nil, All-weaker}
use Rattle.std.proofs.lemmas.List.Sums.{AllPass-from_list_all}
use Rattle.std.specs.List.{flat_map, list_all, range_with_len}
use Rattle.std.specs.Prelude.{All}

-- ---- what holds of each cell

-- of each built-in of a home, where a test of the table's row tells it
pub each-built-in : (Q : Cell → Type 0) (p : Intrinsic → Bool) (texts : List (List ℕ)) (h : Side)
    → list_all p intrinsics ≡ true → ((i : Intrinsic) → p i ≡ true → Q (standard_cell texts h i))
    → All Q (standard_cells texts h)
each-built-in Q p texts h all f =
    All-map Q (standard_cell texts h) intrinsics
    (All-weaker (λ i. p i ≡ true) (λ i. Q (standard_cell texts h i)) f intrinsics
    (AllPass-from_list_all p intrinsics all))

-- of the built-ins of so many homes, and of the rest
pub each-cell : (Q : Cell → Type 0) (texts : List (List ℕ)) (n : ℕ)
    → ((h : ℕ) → h < n → All Q (standard_cells texts (at_side h))) → (s m : ℕ) → s + m ≡ n → (rest : List Cell)
    → All Q rest → All Q (flat_map (standard_cells texts) (sides_from s m) ++ rest)
each-cell Q texts n f s zero e rest h = h
each-cell Q texts n f s (suc m) e rest h =
    let others : List Cell = flat_map (standard_cells texts) (sides_from (suc s) m) in
    subst (λ (cs : List Cell). All Q cs) (sym (append_assoc (standard_cells texts (at_side s)) others rest))
    (All-append Q (standard_cells texts (at_side s)) (others ++ rest) (f s (omega (arith, e)))
    (each-cell Q texts n f (suc s) m (omega (arith, e)) rest h))

-- of each cell of a furnished world
pub each-furnished : (Q : Cell → Type 0) (texts : List (List ℕ)) (joined : Bool) (n : ℕ)
    → ((h : ℕ) → h < home_count joined n → All Q (standard_cells texts (at_side h))) → Q (desk_cell texts)
    → All Q (furnished_cells texts joined n)
each-furnished Q texts joined n f q =
    each-cell Q texts (home_count joined n) f 0 (home_count joined n) (omega arith) (desk_cell texts ∷ [])
    (All-cons Q (desk_cell texts) [] q (All-nil Q))

-- ---- no proxy

abbrev IsNone : Cell → Type 0
IsNone c = is_of_membrane c.kind ≡ false

pub no-membrane : (d d' : Data) (n : ℕ) → IsFurnished d n d' → All (λ c. is_of_membrane c.kind ≡ false) d'.cells
no-membrane d d' n f =
    subst (λ (cs : List Cell). All IsNone cs) (sym (ap (λ (x : Data). x.cells) f.all))
    (each-furnished IsNone d'.texts d.joined n
    (λ h l. each-built-in IsNone (λ i. true) d'.texts (at_side h) refl (λ i e. refl)) refl)

no-proxy : (d d' : Data) (n : ℕ) → IsFurnished d n d' → (id behind shadow : ObjId) (side : Side)
    → IsMembrane d' id side behind shadow → ⊥
no-proxy d d' n f id behind shadow side m =
    true≢false (ap (λ (k : CellKind). is_of_membrane k) (sym m.kind_is)
    ∙ All-at IsNone d'.cells id.0 m.cell m.there (no-membrane d d' n f))

pub paired : (d d' : Data) (n : ℕ) → d.entries ≡ [] → IsFurnished d n d' → Paired d'
paired d d' n none f = record {
  behind_is_object = λ id behind shadow side m. absurd (no-proxy d d' n f id behind shadow side m);
  one_for_an_object = λ i k behind s t side m q. absurd (no-proxy d d' n f i behind s side m);
  one_for_a_shadow = λ i k a b shadow side m q. absurd (no-proxy d d' n f i a shadow side m);
  proxy_of_entry = λ apart.
      subst (λ (es : List Entry). All (λ e. HasProxyOf d' e.side e.object) es)
      (sym (ap (λ (x : Data). x.entries) f.all ∙ none)) (All-nil (λ e. HasProxyOf d' e.side e.object));
}

-- ---- one built-in of a place

block-place : (texts : List (List ℕ)) (h : Side) (js : List Intrinsic) (a l t place : ℕ) (c : Cell)
    → map place_of js ≡ range_with_len a l → slice_get (map (standard_cell texts h) js) t ≡ Some c
    → c.kind ≡ kind.BuiltIn place → (c.home ≡ h) × (a + t ≡ place)
block-place texts h [] a l t place c places at is = cc
block-place texts h (i ∷ js) a zero t place c places at is = cc
block-place texts h (i ∷ js) a (suc l) zero place c places at is =
    let own : place_of i ≡ a = cc in
    let same : standard_cell texts h i ≡ c = cc in
    let kinds : kind.BuiltIn (place_of i) ≡ kind.BuiltIn place = ap (λ (x : Cell). x.kind) same ∙ is in
    let there : place_of i ≡ place = cc in
    (sym (ap (λ (x : Cell). x.home) same), omega (arith, own, there))
block-place texts h (i ∷ js) a (suc l) (suc t) place c places at is =
    let rest : map place_of js ≡ range_with_len (a + 1) l = cc in
    let r = block-place texts h js (a + 1) l t place c rest at is in
    (r.0, omega (arith, r.1))

abbrev Later : {A : Type 0} → List A → List A → ℕ → A → Type 0
Later xs ys t x = (at : ℕ) × ((t ≡ length xs + at) × (slice_get ys at ≡ Some x))

split : {A : Type 0} (xs ys : List A) (t : ℕ) (x : A) → slice_get (xs ++ ys) t ≡ Some x
    → (slice_get xs t ≡ Some x) ⊎ Later xs ys t x
split [] ys t x e = inr (t, (omega arith, e))
split (y ∷ xs) ys zero x e = inl e
split (y ∷ xs) ys (suc t) x e = by (split xs ys t x e)
  where
    by : (slice_get xs t ≡ Some x) ⊎ Later xs ys t x
        → (slice_get (y ∷ xs) (suc t) ≡ Some x) ⊎ Later (y ∷ xs) ys (suc t) x
    by (inl h) = inl h
    by (inr h) = inr (h.0, (omega (arith, h.1.0), h.1.1))

built-place : (texts : List (List ℕ)) (s m t place : ℕ) (c : Cell)
    → slice_get (flat_map (standard_cells texts) (sides_from s m) ++ desk_cell texts ∷ []) t ≡ Some c
    → c.kind ≡ kind.BuiltIn place → 80 * s + t ≡ 80 * c.home.0 + place
built-place texts s zero zero place c at is = cc
built-place texts s zero (suc t) place c at is = cc
built-place texts s (suc m) t place c at is =
    by (split (standard_cells texts (at_side s)) (others ++ desk_cell texts ∷ []) t c
    (ap (λ (cs : List Cell). slice_get cs t)
    (sym (append_assoc (standard_cells texts (at_side s)) others (desk_cell texts ∷ []))) ∙ at))
    (λ u e. built-place texts (suc s) m u place c e is)
  where
    others : List Cell
    others = flat_map (standard_cells texts) (sides_from (suc s) m)

    many : length (standard_cells texts (at_side s)) ≡ 80
    many = length-map intrinsics (standard_cell texts (at_side s))

    by : (slice_get (standard_cells texts (at_side s)) t ≡ Some c)
        ⊎ Later (standard_cells texts (at_side s)) (others ++ desk_cell texts ∷ []) t c
        → ((u : ℕ) → slice_get (others ++ desk_cell texts ∷ []) u ≡ Some c → 80 * suc s + u ≡ 80 * c.home.0 + place)
        → 80 * s + t ≡ 80 * c.home.0 + place
    by (inl h) f =
        let r = block-place texts (at_side s) intrinsics 0 80 t place c refl h is in
        let home : c.home.0 ≡ s = ap (λ (x : Side). x.0) r.0 in
        omega (arith, home, r.1)
    by (inr h) f = omega (arith, f h.0 h.1.1, h.1.0, many)

pub one-built-in : (d d' : Data) (n : ℕ) → IsFurnished d n d' → (i k : ObjId) (place : ℕ) (c e : Cell)
    → cell_at d' i ≡ Some c → cell_at d' k ≡ Some e → c.home ≡ e.home → c.kind ≡ kind.BuiltIn place
    → e.kind ≡ kind.BuiltIn place → i ≡ k
one-built-in d d' n f i k place c e ati atk homes kc ke =
    let cells : d'.cells ≡ furnished_cells d'.texts d.joined n = ap (λ (x : Data). x.cells) f.all in
    let a = built-place d'.texts 0 (home_count d.joined n) i.0 place c
    (ap (λ (cs : List Cell). slice_get cs i.0) (sym cells) ∙ ati) kc in
    let b = built-place d'.texts 0 (home_count d.joined n) k.0 place e
    (ap (λ (cs : List Cell). slice_get cs k.0) (sym cells) ∙ atk) ke in
    let home : c.home.0 ≡ e.home.0 = ap (λ (x : Side). x.0) homes in
    let same : i.0 ≡ k.0 = omega (arith, a, b, home) in
    ap (λ (x : ℕ). let o : ObjId = record { 0 = x } in o) same
