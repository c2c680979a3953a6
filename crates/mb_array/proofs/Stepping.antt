-- One element is taken out of a cell, the last key first.
use Rattle.std.proofs.Common.{◌≡◌, ℕ, zero, suc, ◌<◌, List, [], ◌∷◌, ◌++◌, length, reverse, slice_get, Some, false, refl, sym, ap, ◌∙◌, arith}
use Rattle.std.proofs.lemmas.List.{reverse-append}
use Rattle.mb_base.specs.declared.value.Key.{Key}
use Rattle.mb_base.specs.declared.value.ObjId.{ObjId}
use Rattle.mb_base.specs.declared.value.Value.{Value}
use Rattle.mb_desc.specs.declared.descriptor.Full.{Full}
use Rattle.mb_desc.specs.Descriptors.{is_fixed, property_is}
use Rattle.mb_props.specs.Table.{found, without}
use Rattle.mb_world.specs.Data.{Data, cell_at, change_cell, remove_in}
use Rattle.mb_world.specs.Ids.{ObjIn}
use Rattle.mb_array.specs.Define.{table_in, with_table}
use Rattle.mb_array.specs.machine.Cutting.{cut_of}
use Rattle.mb_array.proofs.Changes.{change-none, change-again, cell-changed, table-there}

there : {A : Type 0} (xs : List A) (i : ℕ) → i < length xs → (x : A) × (slice_get xs i ≡ Some x)
there [] i l = absurd (omega arith)
there (x ∷ xs) zero l = (x, refl)
there (x ∷ xs) (suc i) l = there xs i (omega arith)

pub unchanged : (d : Data) (o : ObjId) → ObjIn d o → d ≡ change_cell d o (with_table (table_in (cell_at d o)))
unchanged d o h =
    let c = there d.cells o.0 h in
    sym (change-none d o c.0 c.1 (with_table (table_in (cell_at d o))) (ap (λ t. with_table t c.0) (table-there d o c.0 c.1)))

module _ (d w w' : Data) (o : ObjId) (key : Key) (within : ObjIn d o) (before : w ≡ change_cell d o (with_table (table_in (cell_at w o)))) (removed : w' ≡ change_cell w o (remove_in key)) where
  again : w' ≡ change_cell d o (with_table (without (table_in (cell_at w o)) key))
  again =
      let c = there d.cells o.0 within in
      removed ∙ ap (λ z. change_cell z o (remove_in key)) before ∙ change-again d o c.0 c.1 (with_table (table_in (cell_at w o))) (remove_in key)

  pub table-is : table_in (cell_at w' o) ≡ without (table_in (cell_at w o)) key
  table-is =
      let c = there d.cells o.0 within in
      ap (λ z. table_in (cell_at z o)) again ∙ ap table_in (cell-changed d o c.0 c.1 (with_table (without (table_in (cell_at w o)) key)))

  pub still : w' ≡ change_cell d o (with_table (table_in (cell_at w' o)))
  still = again ∙ ap (λ t. change_cell d o (with_table t)) (sym table-is)

pub cut-next : (front : List Key) (key : Key) (n : ℕ) (ps : List (Key × Full Value)) → property_is is_fixed (found ps key) ≡ false → cut_of (reverse (front ++ key ∷ [])) n ps ≡ cut_of (reverse front) n (without ps key)
cut-next front key n ps e = ap (λ ks. cut_of ks n ps) (reverse-append front (key ∷ [])) ∙ rw e refl
