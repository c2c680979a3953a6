-- A world with an object more goes on letting values cross.
use Rattle.std.proofs.Common.{◌≡◌, ℕ, List, [], ◌++◌, Option, Bool, true, false, refl, ap, sym, ◌∙◌}
use Rattle.std.specs.Prelude.{All}
use Rattle.std.specs.List.{flat_map}
use Rattle.std.proofs.lemmas.List.Elements.{All-append, All-nil, All-same}
use Rattle.mb_base.specs.declared.value.ObjId.{ObjId}
use Rattle.mb_base.specs.declared.value.Side.{Side}
use Rattle.mb_base.specs.declared.value.StrId.{StrId}
use Rattle.mb_base.specs.declared.value.Value.{Value}
use Rattle.mb_world.specs.declared.cell.Cell.{Cell}
use Rattle.mb_world.specs.declared.cell.CellKind.{CellKind}
use Rattle.mb_world.specs.declared.cell.CellKind.TheVariants.{BuiltIn, Membrane}
use Rattle.mb_world.specs.Data.{Data, kind_stand, is_counted, is_object_cell, is_array, first_props, first_texts, new_cell, made}
use Rattle.mb_world.specs.Ids.{HasItsIds}
use Rattle.mb_world.specs.Contained.{IsOwn, HasItsTwo, IsOfTable, in_value, in_full, in_kind, in_cell}
use Rattle.mb_world.proofs.Making.{Grows-cell}
use Rattle.mb_maps.specs.Crossed.{CanCross}
use Rattle.mb_maps.proofs.Adding.{more, cells-stay, owns-stay, Contained-more, Paired-more, AreShared-more}
use Rattle.mb_maps.proofs.Worlds.{can-beside}

-- ---- an object is no membrane proxy and no built-in

counted-two : (d : Data) (side : Side) (k : CellKind) → is_counted (kind_stand k) ≡ true → HasItsTwo d side k
counted-two d side (Membrane b s) h = cc
counted-two d side k h = tt

counted-table : (k : CellKind) → is_counted (kind_stand k) ≡ true → IsOfTable k
counted-table (BuiltIn place) h = cc
counted-table k h = tt

no-membrane : (k : CellKind) (b s : ObjId) → is_counted (kind_stand k) ≡ true → k ≡ Membrane b s → ⊥
no-membrane k b s h e = let z : false ≡ true = ap (λ (x : CellKind). is_counted (kind_stand x)) (sym e) ∙ h in cc

no-built-in : (k : CellKind) (place : ℕ) → is_counted (kind_stand k) ≡ true → k ≡ BuiltIn place → ⊥
no-built-in k place h e = let z : false ≡ true = ap (λ (x : CellKind). is_counted (kind_stand x)) (sym e) ∙ h in cc

-- ---- one more

pub can-object : (d : Data) (c : Cell) → HasItsIds d → CanCross d → is_object_cell c ≡ true → All (IsOwn d c.home) (in_cell c) → CanCross (more d c)
can-object d c ids h counted o = record {
  sides = h.sides;
  contained = Contained-more d c h.contained (record {
    own = owns-stay d (more d c) (cells-stay d c) c.home (in_cell c) o;
    two = counted-two (more d c) c.home c.kind counted;
    table = counted-table c.kind counted;
    first = λ place i x e. absurd (no-built-in c.kind place counted e);
  });
  paired = Paired-more d c h.paired (record {
    behind = λ b s e. absurd (no-membrane c.kind b s counted e);
    other = λ b s i t e. absurd (no-membrane c.kind b s counted e);
    free = λ b s i a e. absurd (no-membrane c.kind b s counted e);
  }) (Grows-cell d c ids.cells_in);
  built_ins = AreShared-more d c h.built_ins (λ place s. let z : false ≡ true = ap is_counted (sym s) ∙ counted in cc);
}

in-first : (texts : List (List ℕ)) (b : Bool) → flat_map (λ p. in_full p.1) (first_props b texts) ≡ []
in-first texts true = refl
in-first texts false = refl

-- a new object, which holds only what its side owns
pub can-made : (d : Data) (home : Side) (k : CellKind) (proto : Value) (label : Option StrId) → HasItsIds d → CanCross d → is_counted (kind_stand k) ≡ true
    → All (IsOwn d home) (in_kind k) → All (IsOwn d home) (in_value proto) → CanCross (made d home k proto label)
can-made d home k proto label ids h counted own proto-own =
    let c : Cell = new_cell d.texts home k proto label in
    let P = λ (o : ObjId). IsOwn d home o in
    let first : List ObjId = flat_map (λ p. in_full p.1) (first_props (is_array k) d.texts) in
    let kept : All P first = All-same P first [] (in-first d.texts (is_array k)) (All-nil P) in
    let o : All P (in_cell c) = All-append P ((in_kind k ++ in_value proto) ++ first) []
    (All-append P (in_kind k ++ in_value proto) first (All-append P (in_kind k) (in_value proto) own proto-own) kept) (All-nil P) in
    can-beside (more d c) (first_texts (is_array k) d.texts) d.symbols d.programs d.rules d.revoked d.halted (can-object d c ids h counted o)
