-- Each cell of a furnished world is formed, holds only what its home owns, and is of the table.
use Rattle.mb_base.specs.declared.value.ObjId.{ObjId}
use Rattle.mb_base.specs.declared.value.Key.{Key}
use Rattle.mb_base.specs.declared.value.Side.{Side}
use Rattle.mb_base.specs.declared.value.Value.{Value}
use Rattle.mb_base.specs.declared.value.Value.TheVariants as v
use Rattle.mb_desc.specs.declared.descriptor.Full.{Full}
use Rattle.mb_desc.specs.declared.descriptor.Full.TheVariants.{Accessor, Datum}
use Rattle.mb_frames.proofs.Opened.{parts-flat}
use Rattle.mb_intrinsics.proofs.Adding.{both}
use Rattle.mb_intrinsics.proofs.Pairing.{each-built-in, each-furnished}
use Rattle.mb_intrinsics.proofs.Rows.{at-place}
use Rattle.mb_intrinsics.proofs.Standing.{at_side, cell-there, is_link, is_plain, is_plain_full, object-back, world_of}
use Rattle.mb_intrinsics.specs.Furnished.{HasTableTexts, built_in_id, desk_cell, first_side, full_of, home_count, property_of, standard_cell, standard_cells, value_of}
use Rattle.mb_world.specs.Contained.{HasItsTwo, IsOfTable, IsOwn, in_cell, in_full, in_value, is_shadow}
use Rattle.mb_world.specs.Data.{Data}
use Rattle.mb_world.specs.Formed.{FormedCell, HasItsCallables, InRange, IsCallable, IsCallableOrNot, IsNullOrObject, cell_values, full_values}
use Rattle.mb_world.specs.Graph.{Property}
use Rattle.mb_world.specs.Image.{Image, names_of}
use Rattle.mb_world.specs.Intrinsics.{Intrinsic, Print, intrinsic, intrinsics, place_of}
use Rattle.mb_world.specs.Objects.{is_callable, kind_calls, thing_is}
use Rattle.mb_world.specs.Standard.{object_prototype, properties_of, prototype_of, standard_at}
use Rattle.mb_world.specs.Value.{BuiltIn, Null, Object, Symbol, Text, Truth, Undefined, Val, Whole}
use Rattle.mb_world.specs.declared.cell.Cell.{Cell}
use Rattle.std.proofs.Common.{Bool, List, None, Option, Some, [], ap, arith, false, get_or, map, nat_lt, negsuc, pos, refl, subst, suc, sym, true, true≢false, zero, ℕ, ◌^◌, ◌++◌, ◌<◌, ◌∙◌, ◌∷◌, ◌≡◌, ◌≢◌}
use Rattle.std.proofs.lemmas.Bool.{lt-ltb, ltb-true}
use Rattle.std.proofs.lemmas.List.Elements.{All-append, All-cons, All-map, All-nil, All-weaker}
use Rattle.std.proofs.lemmas.List.Sums.{AllPass-from_list_all}
use Rattle.std.specs.List.{flat_map, list_all}
use Rattle.std.specs.Prelude.{All, IsSomeAnd, is_some, ◌&&◌}

-- ---- what is computed of each row

abbrev is_small : Val → Bool
is_small (Whole (pos n)) = nat_lt n 256
is_small (Whole (negsuc n)) = false
is_small x = true

-- undefined, or a built-in that is a function
abbrev is_accessor_part : Val → Bool
is_accessor_part Undefined = true
is_accessor_part (BuiltIn k) = nat_lt k 80 && thing_is kind_calls (standard_at k)
is_accessor_part x = false

abbrev is_fit_full : Full Val → Bool
is_fit_full (Datum x w e c) = is_plain x && is_small x
is_fit_full (Accessor g s e c) = is_accessor_part g && is_accessor_part s

abbrev is_fit_row : Intrinsic → Bool
is_fit_row i =
    is_some (intrinsic (place_of i))
    && (is_link (prototype_of i) && list_all (λ p. is_fit_full p.full) (properties_of i))

all-fit : list_all is_fit_row intrinsics ≡ true
all-fit = refl

-- ---- values

below-whole : (n : ℕ) → nat_lt n 256 ≡ true → nat_lt n (2 ^ 53) ≡ true
below-whole n e = lt-ltb n (2 ^ 53) (omega (arith, ltb-true n 256 e))

value-range : (texts : List (List ℕ)) (home : Side) (x : Val) → is_small x ≡ true → InRange (value_of texts home x)
value-range texts home (Whole (pos n)) e = below-whole n e
value-range texts home (Whole (negsuc n)) e = absurd (true≢false (sym e))
value-range texts home Undefined e = tt
value-range texts home Null e = tt
value-range texts home (Truth b) e = tt
value-range texts home (Text t) e = tt
value-range texts home (Symbol s) e = tt
value-range texts home (Object o) e = tt
value-range texts home (BuiltIn k) e = tt

-- what holds of null and of each built-in holds of a link
by-link : (P : Val → Type 0) → P Null → ((k : ℕ) → nat_lt k 80 ≡ true → P (BuiltIn k)) → (x : Val)
    → is_link x ≡ true → P x
by-link P null built Null e = null
by-link P null built (BuiltIn k) e = built k e
by-link P null built Undefined e = absurd (true≢false (sym e))
by-link P null built (Truth b) e = absurd (true≢false (sym e))
by-link P null built (Whole z) e = absurd (true≢false (sym e))
by-link P null built (Text t) e = absurd (true≢false (sym e))
by-link P null built (Symbol s) e = absurd (true≢false (sym e))
by-link P null built (Object o) e = absurd (true≢false (sym e))

-- and what holds of undefined and of each built-in function holds of a getter
by-accessor : (P : Val → Type 0) → P Undefined
    → ((k : ℕ) → nat_lt k 80 ≡ true → thing_is kind_calls (standard_at k) ≡ true → P (BuiltIn k)) → (x : Val)
    → is_accessor_part x ≡ true → P x
by-accessor P none built Undefined e = none
by-accessor P none built (BuiltIn k) e =
    let parts = both (nat_lt k 80) (thing_is kind_calls (standard_at k)) e in
    built k parts.0 parts.1
by-accessor P none built Null e = absurd (true≢false (sym e))
by-accessor P none built (Truth b) e = absurd (true≢false (sym e))
by-accessor P none built (Whole z) e = absurd (true≢false (sym e))
by-accessor P none built (Text t) e = absurd (true≢false (sym e))
by-accessor P none built (Symbol s) e = absurd (true≢false (sym e))
by-accessor P none built (Object o) e = absurd (true≢false (sym e))

link-range : (texts : List (List ℕ)) (home : Side) (x : Val) → is_link x ≡ true → InRange (value_of texts home x)
link-range texts home = by-link (λ x. InRange (value_of texts home x)) tt (λ k e. tt)

link-object : (texts : List (List ℕ)) (home : Side) (x : Val) → is_link x ≡ true
    → IsNullOrObject (value_of texts home x)
link-object texts home = by-link (λ x. IsNullOrObject (value_of texts home x)) tt (λ k e. tt)

link-plain : (x : Val) → is_link x ≡ true → is_plain x ≡ true
link-plain = by-link (λ x. is_plain x ≡ true) refl (λ k e. e)

accessor-range : (texts : List (List ℕ)) (home : Side) (x : Val) → is_accessor_part x ≡ true
    → InRange (value_of texts home x)
accessor-range texts home = by-accessor (λ x. InRange (value_of texts home x)) tt (λ k e c. tt)

accessor-plain : (x : Val) → is_accessor_part x ≡ true → is_plain x ≡ true
accessor-plain = by-accessor (λ x. is_plain x ≡ true) refl (λ k e c. e)

full-range : (texts : List (List ℕ)) (home : Side) (f : Full Val) → is_fit_full f ≡ true
    → All InRange (full_values (full_of texts home f))
full-range texts home (Datum x w e c) fit =
    All-cons InRange (value_of texts home x) [] (value-range texts home x (both (is_plain x) (is_small x) fit).1)
    (All-nil InRange)
full-range texts home (Accessor g s e c) fit =
    let parts = both (is_accessor_part g) (is_accessor_part s) fit in
    All-cons InRange (value_of texts home g) (value_of texts home s ∷ [])
    (accessor-range texts home g parts.0)
    (All-cons InRange (value_of texts home s) [] (accessor-range texts home s parts.1) (All-nil InRange))

-- what holds of each property of a row
each-property : (texts : List (List ℕ)) (home : Side) (Q : Key × Full Value → Type 0) (ps : List Property)
    → list_all (λ p. is_fit_full p.full) ps ≡ true
    → ((p : Property) → is_fit_full p.full ≡ true → Q (property_of texts home p))
    → All Q (map (property_of texts home) ps)
each-property texts home Q ps fit f =
    All-map Q (property_of texts home) ps
    (All-weaker (λ p. is_fit_full p.full ≡ true) (λ p. Q (property_of texts home p)) f ps
    (AllPass-from_list_all (λ p. is_fit_full p.full) ps fit))

-- ---- cells

home-below : (joined : Bool) (n h : ℕ) → 0 < n → h < home_count joined n → h < n
home-below true n h some l = omega (arith, some, l)
home-below false n h some l = l

home-first : (joined : Bool) (n h : ℕ) → joined ≡ true → h < home_count joined n → at_side h ≡ first_side
home-first true n h e l = let q : h ≡ 0 = omega (arith, l) in ap at_side q
home-first false n h e l = absurd (true≢false (sym e))

module _ (d : Data) (n : ℕ) (texts : List (List ℕ)) (there : HasTableTexts texts) (some : 0 < n) where
  abbrev world : Data
  world = world_of d n texts

  -- a built-in is of its home
  own-object : (h k : ℕ) → h < home_count d.joined n → nat_lt k 80 ≡ true
      → IsOwn world (at_side h) (built_in_id (at_side h) k)
  own-object h k l small =
      subst (λ (o : Option Cell). IsSomeAnd o (λ c. (c.home ≡ at_side h) × (is_shadow c.kind ≡ false)))
      (sym (cell-there d n texts there h k (get_or intrinsics k Print) l (at-place k (ltb-true k 80 small))))
      (refl, refl)

  own-value : (h : ℕ) (x : Val) → h < home_count d.joined n → is_plain x ≡ true
      → All (IsOwn world (at_side h)) (in_value (value_of texts (at_side h) x))
  own-value h (BuiltIn k) l e =
      All-cons (IsOwn world (at_side h)) (built_in_id (at_side h) k) [] (own-object h k l e)
      (All-nil (IsOwn world (at_side h)))
  own-value h (Object o) l e = absurd (true≢false (sym e))
  own-value h Undefined l e = All-nil (IsOwn world (at_side h))
  own-value h Null l e = All-nil (IsOwn world (at_side h))
  own-value h (Truth b) l e = All-nil (IsOwn world (at_side h))
  own-value h (Whole z) l e = All-nil (IsOwn world (at_side h))
  own-value h (Text t) l e = All-nil (IsOwn world (at_side h))
  own-value h (Symbol s) l e = All-nil (IsOwn world (at_side h))

  own-full : (h : ℕ) (f : Full Val) → h < home_count d.joined n → is_fit_full f ≡ true
      → All (IsOwn world (at_side h)) (in_full (full_of texts (at_side h) f))
  own-full h (Datum x w e c) l fit = own-value h x l (both (is_plain x) (is_small x) fit).0
  own-full h (Accessor g s e c) l fit =
      let parts = both (is_accessor_part g) (is_accessor_part s) fit in
      All-append (IsOwn world (at_side h)) (in_value (value_of texts (at_side h) g))
      (in_value (value_of texts (at_side h) s)) (own-value h g l (accessor-plain g parts.0))
      (own-value h s l (accessor-plain s parts.1))

  -- a getter and a setter of the table are undefined or called
  its-callable : (h : ℕ) (x : Val) → h < home_count d.joined n → is_accessor_part x ≡ true
      → IsCallableOrNot world (value_of texts (at_side h) x)
  its-callable h x l =
      by-accessor (λ y. IsCallableOrNot world (value_of texts (at_side h) y)) tt
      (λ k small calls.
      ap (λ (y : Val). is_callable (Image world []) y) (object-back d n texts there h k l small) ∙ calls) x

  its-callables : (h : ℕ) (f : Full Val) → h < home_count d.joined n → is_fit_full f ≡ true
      → HasItsCallables world (full_of texts (at_side h) f)
  its-callables h (Datum x w e c) l fit = tt
  its-callables h (Accessor g s e c) l fit =
      let parts = both (is_accessor_part g) (is_accessor_part s) fit in
      (its-callable h g l parts.0, its-callable h s l parts.1)

  module _ (h : ℕ) (l : h < home_count d.joined n) (i : Intrinsic) (fit : is_fit_row i ≡ true) where
    abbrev cell : Cell
    cell = standard_cell texts (at_side h) i

    its-parts : (is_link (prototype_of i) ≡ true) × (list_all (λ p. is_fit_full p.full) (properties_of i) ≡ true)
    its-parts =
        both (is_link (prototype_of i)) (list_all (λ p. is_fit_full p.full) (properties_of i))
        (both (is_some (intrinsic (place_of i)))
        (is_link (prototype_of i) && list_all (λ p. is_fit_full p.full) (properties_of i)) fit).1

    its-wholes : All InRange (cell.proto ∷ flat_map (λ p. full_values p.1) cell.props)
    its-wholes =
        All-cons InRange cell.proto (flat_map (λ p. full_values p.1) cell.props)
        (link-range texts (at_side h) (prototype_of i) its-parts.0)
        (parts-flat InRange (λ p. full_values p.1) cell.props
        (each-property texts (at_side h) (λ p. All InRange (full_values p.1)) (properties_of i) its-parts.1
        (λ p e. full-range texts (at_side h) p.full e)))

    formed-standard : FormedCell world cell
    formed-standard = record {
      home = home-below d.joined n h some l;
      wholes = All-append InRange (cell.proto ∷ flat_map (λ p. full_values p.1) cell.props) [] its-wholes
          (All-nil InRange);
      prototype = link-object texts (at_side h) (prototype_of i) its-parts.0;
      callables = each-property texts (at_side h) (λ p. HasItsCallables world p.1) (properties_of i) its-parts.1
          (λ p e. its-callables h p.full l e);
      array = tt;
      slots = refl;
      kind = tt;
    }

    own-standard : All (IsOwn world (at_side h)) (in_cell cell)
    own-standard =
        All-append (IsOwn world (at_side h))
        (in_value cell.proto ++ flat_map (λ p. in_full p.1) cell.props) []
        (All-append (IsOwn world (at_side h)) (in_value cell.proto) (flat_map (λ p. in_full p.1) cell.props)
        (own-value h (prototype_of i) l (link-plain (prototype_of i) its-parts.0))
        (parts-flat (IsOwn world (at_side h)) (λ p. in_full p.1) cell.props
        (each-property texts (at_side h) (λ p. All (IsOwn world (at_side h)) (in_full p.1)) (properties_of i)
        its-parts.1 (λ p e. own-full h p.full l e)))) (All-nil (IsOwn world (at_side h)))

    of-table : IsOfTable cell.kind
    of-table e =
        let is : is_some (intrinsic (place_of i)) ≡ true =
        (both (is_some (intrinsic (place_of i)))
        (is_link (prototype_of i) && list_all (λ p. is_fit_full p.full) (properties_of i)) fit).0 in
        true≢false (sym is ∙ ap (λ (o : Option Intrinsic). is_some o) e)

  -- the first home is there
  first-home : 0 < home_count d.joined n
  first-home = by d.joined
    where
      by : (joined : Bool) → 0 < home_count joined n
      by true = omega arith
      by false = some

  desk-own : All (IsOwn world first_side) (in_cell (desk_cell texts))
  desk-own = own-value 0 object_prototype first-home refl

  -- what holds of each built-in of a home holds of each cell
  each : (Q : Cell → Type 0)
      → ((h : ℕ) → h < home_count d.joined n → (i : Intrinsic) → is_fit_row i ≡ true
      → Q (standard_cell texts (at_side h) i))
      → Q (desk_cell texts) → All Q world.cells
  each Q f q =
      each-furnished Q texts d.joined n (λ h l. each-built-in Q is_fit_row texts (at_side h) all-fit (f h l)) q

  pub cells-formed : All (FormedCell world) world.cells
  cells-formed =
      each (FormedCell world) formed-standard
      (record {
        home = some;
        wholes = All-cons InRange (value_of texts first_side object_prototype) [] tt (All-nil InRange);
        prototype = tt;
        callables = All-nil (λ p. HasItsCallables world p.1);
        array = tt;
        slots = refl;
        kind = tt;
      })

  pub cells-own : All (λ c. All (IsOwn world c.home) (in_cell c)) world.cells
  cells-own = each (λ c. All (IsOwn world c.home) (in_cell c)) own-standard desk-own

  pub cells-two : All (λ c. HasItsTwo world c.home c.kind) world.cells
  cells-two = each (λ c. HasItsTwo world c.home c.kind) (λ h l i fit. tt) tt

  pub cells-of-table : All (λ c. IsOfTable c.kind) world.cells
  cells-of-table = each (λ c. IsOfTable c.kind) of-table tt

  -- in a joined world all cells are the first side's
  pub cells-first : d.joined ≡ true → All (λ c. c.home ≡ first_side) world.cells
  cells-first e = each (λ c. c.home ≡ first_side) (λ h l i fit. home-first d.joined n h e l) refl
