-- The built-ins of the homes one after the other, `desk`, and the whole.
use Rattle.mb_base.specs.declared.value.ObjId.{ObjId}
use Rattle.mb_base.specs.declared.value.Side.{Side}
use Rattle.mb_base.specs.declared.value.StrId.{StrId}
use Rattle.mb_base.specs.declared.value.Value.{Value}
use Rattle.mb_frames.proofs.Parts.{right-part}
use Rattle.mb_intrinsics.proofs.Naming.{with-there}
use Rattle.mb_intrinsics.specs.Furnished.{HasTableTexts, IsFurnished, desk_cell, first_side, furnished_cells, homes, id_of, sides_from, standard_cell, standard_cells, table_texts, value_of}
use Rattle.mb_intrinsics.specs.machine.Filling.{Gains, OnlyCells}
use Rattle.mb_text.specs.Texts.{KeepsIds, has_text, with_text}
use Rattle.mb_world.specs.Data.{Data, made, with_cells, with_texts}
use Rattle.mb_world.specs.Intrinsics.{intrinsics}
use Rattle.mb_world.specs.Standard.{object_prototype}
use Rattle.mb_world.specs.declared.cell.Cell.{Cell}
use Rattle.mb_world.specs.declared.cell.CellKind.TheVariants as kind
use Rattle.std.proofs.Common.{Err, List, Ok, OnErr, OnOk, Result, true≢false, Some, [], add-one, ap, append-nil, arith, codes, length, refl, subst, suc, sym, true, zero, ℕ, ◌*◌, ◌+◌, ◌++◌, ◌∙◌, ◌∷◌, ◌≡◌}
use Rattle.std.proofs.lemmas.Grind.{flat_map-append}
use Rattle.std.proofs.lemmas.List.{length-append, length-map}
use Rattle.std.proofs.lemmas.List.Elements.{All-head}
use Rattle.std.specs.List.{flat_map}
use Rattle.std.specs.Result.{is_err}

pub on-err : {T E : Type 0} (r : Result T E) (P : Type 0) → P → OnErr r P
on-err (Ok x) P p = tt
on-err (Err x) P p = p

pub same-texts : (d d' : Data) (cells : List Cell) → d' ≡ with_cells d cells → HasTableTexts d.texts
    → HasTableTexts d'.texts
same-texts d d' cells e h = subst (λ (ts : List (List ℕ)). HasTableTexts ts) (sym (ap (λ (x : Data). x.texts) e)) h

-- ---- the homes

pub cells-counted : (texts : List (List ℕ)) (s n : ℕ)
    → length (flat_map (standard_cells texts) (sides_from s n)) ≡ 80 * n
cells-counted texts s zero = omega arith
cells-counted texts s (suc n) =
    let side : Side = record { 0 = s } in
    let own : length (standard_cells texts side) ≡ 80 = length-map intrinsics (standard_cell texts side) in
    length-append (standard_cells texts side) (flat_map (standard_cells texts) (sides_from (suc s) n))
    ∙ omega (arith, own, cells-counted texts (suc s) n)

pub before-side : (d d2 : Data) (k : ℕ) → d2 ≡ with_cells d (flat_map (standard_cells d.texts) (sides_from 0 k))
    → length d2.cells ≡ 80 * k
before-side d d2 k e = ap (λ (x : Data). length x.cells) e ∙ cells-counted d.texts 0 k

sides-more : (s n m : ℕ) → s + n ≡ m → sides_from s (suc n) ≡ sides_from s n ++ record { 0 = m } ∷ []
sides-more s zero m e = let q : s ≡ m = omega (arith, e) in rw q refl
sides-more s (suc n) m e =
    let side : Side = record { 0 = s } in
    ap (λ (sides : List Side). side ∷ sides) (sides-more (suc s) n m (omega (arith, e)))

pub each-side : (d d2 d3 : Data) (side : Side)
    → d2 ≡ with_cells d (flat_map (standard_cells d.texts) (sides_from 0 side.0))
    → d3 ≡ with_cells d2 (d2.cells ++ standard_cells d2.texts side)
    → d3 ≡ with_cells d (flat_map (standard_cells d.texts) (sides_from 0 (side.0 + 1)))
each-side d d2 d3 side e h =
    let f : Side → List Cell = standard_cells d.texts in
    let sides : sides_from 0 (side.0 + 1) ≡ sides_from 0 side.0 ++ side ∷ [] =
    rw add-one (sides-more 0 side.0 side.0 (omega arith)) in
    let cells : flat_map f (sides_from 0 (side.0 + 1)) ≡ flat_map f (sides_from 0 side.0) ++ f side =
    ap (λ (xs : List Side). flat_map f xs) sides ∙ flat_map-append f (sides_from 0 side.0) (side ∷ [])
    ∙ ap (λ (cs : List Cell). flat_map f (sides_from 0 side.0) ++ cs) (append-nil (f side)) in
    h ∙ ap (λ (x : Data). with_cells x (x.cells ++ standard_cells x.texts side)) e
    ∙ ap (λ (cs : List Cell). with_cells d cs) (sym cells)

-- ---- `desk`

pub desk-there : (texts : List (List ℕ)) → HasTableTexts texts → has_text texts (codes "desk") ≡ true
desk-there texts h =
    All-head (λ t. has_text texts t ≡ true) (codes "desk") []
    (right-part (λ t. has_text texts t ≡ true) table_texts (codes "desk" ∷ []) h)

pub desk-stays : (d d1 : Data) → HasTableTexts d.texts → d1 ≡ with_texts d (with_text d.texts (codes "desk")) → d1 ≡ d
desk-stays d d1 h e =
    e ∙ ap (λ (ts : List (List ℕ)). with_texts d ts) (with-there d.texts (codes "desk") (desk-there d.texts h))

pub kept-cells : (d d1 d2 : Data) → d1 ≡ d → d2 ≡ d1 → OnlyCells d d2
kept-cells d d1 d2 e h = subst (λ (x : Data). x ≡ with_cells d x.cells) (sym (h ∙ e)) refl

pub desk-made : (d d1 d2 : Data) (label : StrId) (v : Value) → HasTableTexts d.texts
    → d1 ≡ with_texts d (with_text d.texts (codes "desk")) → label ≡ id_of d1.texts (codes "desk")
    → v ≡ value_of [] first_side object_prototype → d2 ≡ made d1 first_side kind.Plain v (Some label)
    → d2 ≡ with_cells d (d.cells ++ desk_cell d.texts ∷ [])
desk-made d d1 d2 label v h e is proto m =
    let same : d1 ≡ d = desk-stays d d1 h e in
    let ids : label ≡ id_of d.texts (codes "desk") = is ∙ ap (λ (x : Data). id_of x.texts (codes "desk")) same in
    m ∙ ap (λ (x : Data). made x first_side kind.Plain v (Some label)) same
    ∙ ap (λ (u : Value). made d first_side kind.Plain u (Some label)) proto
    ∙ ap (λ (l : StrId). made d first_side kind.Plain (value_of [] first_side object_prototype) (Some l)) ids

-- ---- the whole

pub furnished : (d d1 d2 d3 : Data) (n : ℕ) → d.sides ≡ n → Gains d (table_texts ++ codes "desk" ∷ []) d1
    → d2 ≡ with_cells d1 (flat_map (standard_cells d1.texts) (homes d1.joined n))
    → d3 ≡ with_cells d2 (d2.cells ++ desk_cell d2.texts ∷ []) → IsFurnished d n d3
furnished d d1 d2 d3 n sides g e2 e3 = record {
  texts_stay = subst (λ (ts : List (List ℕ)). KeepsIds d.texts ts) (sym t3) g.stays;
  texts_there = subst (λ (ts : List (List ℕ)). HasTableTexts ts) (sym t3) g.there;
  all = subst (λ (ts : List (List ℕ)). d3 ≡ world ts n) (sym t3) whole;
}
  where
    world : List (List ℕ) → ℕ → Data
    world ts s = record d { texts = ts; sides = s; cells = furnished_cells ts d.joined n }

    whole : d3 ≡ world d1.texts n
    whole =
        e3 ∙ ap (λ (x : Data). with_cells x (x.cells ++ desk_cell x.texts ∷ [])) e2
        ∙ ap (λ (x : Data).
        with_cells x (flat_map (standard_cells x.texts) (homes x.joined n) ++ desk_cell x.texts ∷ []))
        g.rest
        ∙ ap (λ (s : ℕ). world d1.texts s) sides

    t3 : d3.texts ≡ d1.texts
    t3 = ap (λ (x : Data). x.texts) whole

-- the sides were set before
pub after-sides : (d d0 d1 d2 : Data) (n : ℕ) → d0 ≡ record d { sides = n } → d2 ≡ d1 → IsFurnished d0 n d1
    → IsFurnished d n d2
after-sides d d0 d1 d2 n e same f =
    subst (λ (x : Data). IsFurnished d n x) (sym same)
    (let g = subst (λ (x : Data). IsFurnished x n d1) e f in
    record { texts_stay = g.texts_stay; texts_there = g.texts_there; all = g.all })

pub no-answer : {T E : Type 0} (r : Result T E) (P : Type 0) → is_err r ≡ true → OnOk r P
no-answer (Ok x) P e = absurd (true≢false (sym e))
no-answer (Err x) P e = tt

pub on-ok : {T E P Q : Type 0} (r : Result T E) → (P → Q) → OnOk r P → OnOk r Q
on-ok (Ok x) f h = f h
on-ok (Err x) f h = tt
