-- A cell's properties are changed, once and again.
use Rattle.std.proofs.Common.{◌≡◌, ◌<◌, length, slice_set, Some, sym, ap, ◌∙◌, arith, length-set}
use Rattle.std.proofs.lemmas.List.{get_or-set_same, set-set, set-get_or}
use Rattle.std.proofs.lemmas.Option.{slice_get_within, slice_get-get_or, get_or_from_slice_get}
use Rattle.mb_base.specs.declared.value.ObjId.{ObjId}
use Rattle.mb_world.specs.declared.cell.Cell.{Cell}
use Rattle.mb_world.specs.Data.{Data, cell_at, set_cell, change_if, change_cell}
use Rattle.mb_array.specs.Define.{table_in, with_table}

module _ (d : Data) (o : ObjId) (c : Cell) (there : cell_at d o ≡ Some c) where
  within : o.0 < length d.cells
  within = slice_get_within d.cells o.0 c there

  -- the cell afterwards
  pub cell-changed : (f : Cell → Cell) → cell_at (change_cell d o f) o ≡ Some (f c)
  cell-changed f =
      rw there (slice_get-get_or (slice_set d.cells o.0 (f c)) o.0 c (omega (arith, within, length-set d.cells o.0 (f c)))
      ∙ ap Some (get_or-set_same d.cells o.0 (f c) c within))

  -- a second change
  pub change-again : (f g : Cell → Cell) → change_cell (change_cell d o f) o g ≡ change_cell d o (λ x. g (f x))
  change-again f g =
      ap (change_if (change_cell d o f) o g) (cell-changed f)
      ∙ ap (λ z. set_cell (change_if d o f z) o (g (f c))) there
      ∙ ap (λ cells. record d { cells = cells }) (set-set d.cells o.0 (f c) (g (f c)))
      ∙ sym (ap (change_if d o (λ x. g (f x))) there)

  -- changes that agree on the cell
  pub change-same : (f g : Cell → Cell) → f c ≡ g c → change_cell d o f ≡ change_cell d o g
  change-same f g e = ap (change_if d o f) there ∙ ap (set_cell d o) e ∙ sym (ap (change_if d o g) there)

  -- a change that leaves the cell
  pub change-none : (f : Cell → Cell) → f c ≡ c → change_cell d o f ≡ d
  change-none f e =
      ap (change_if d o f) there ∙ ap (set_cell d o) (e ∙ sym (get_or_from_slice_get d.cells o.0 c c there))
      ∙ ap (λ cells. record d { cells = cells }) (set-get_or d.cells o.0 c)

  pub table-there : table_in (cell_at d o) ≡ c.props
  table-there = ap table_in there

  pub table-changed : (f : Cell → Cell) → table_in (cell_at (change_cell d o f) o) ≡ (f c).props
  table-changed f = ap table_in (cell-changed f)

  -- a change of properties alone
  pub only-table : (f : Cell → Cell) → f c ≡ with_table (f c).props c → change_cell d o f ≡ change_cell d o (with_table (table_in (cell_at (change_cell d o f) o)))
  only-table f e = change-same f (with_table (table_in (cell_at (change_cell d o f) o))) (e ∙ ap (λ t. with_table t c) (sym (table-changed f)))
