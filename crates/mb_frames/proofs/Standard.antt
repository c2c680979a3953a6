-- A built-in of a ready world is as the table has it.
use Rattle.mb_base.specs.declared.value.ObjId.{ObjId}
use Rattle.mb_frames.proofs.Errors.{stands-there}
use Rattle.mb_frames.proofs.HeldAs.{built-in-held, place-kind}
use Rattle.mb_frames.proofs.HeldCells.{reads-home}
use Rattle.mb_frames.specs.Ready.{IsReady}
use Rattle.mb_world.proofs.Grow.{All-at}
use Rattle.mb_world.specs.Data.{Data, cell_at}
use Rattle.mb_world.specs.Formed.{FormedCell, HasBuiltIn, as_standard}
use Rattle.mb_world.specs.Graph.{Thing}
use Rattle.mb_world.specs.Image.{names_of, thing_in}
use Rattle.mb_world.specs.Intrinsics.{Intrinsic, intrinsic}
use Rattle.mb_world.specs.Standard.{standard, standard_at}
use Rattle.mb_world.specs.declared.cell.Cell.{Cell}
use Rattle.mb_world.specs.declared.cell.CellKind.TheVariants.{BuiltIn}
use Rattle.std.proofs.Common.{Bool, None, Option, Some, ap, false, option_map, refl, sym, true, ℕ, ◌∙◌, ◌≡◌}

abbrev extensible_of : Option Thing → Bool
extensible_of None = false
extensible_of (Some t) = t.extensible

module _ (d : Data) (r : IsReady d) (id : ObjId) (c : Cell) (place : ℕ) (e : cell_at d id ≡ Some c)
    (k : c.kind ≡ BuiltIn place) where
  first : HasBuiltIn d c.home place
  first = r.formed.built_ins c.home place (All-at (FormedCell d) d.cells id.0 c e r.formed.cells).home
      (r.of_table id place c e k)

  first-kind : first.cell.kind ≡ BuiltIn place
  first-kind = place-kind first.cell.kind place (stands-there d c.home place first.id first.cell first.found first.there)

  -- a side has no two of a place
  is-first : id ≡ first.id
  is-first = by d.joined refl
    where
      by : (b : Bool) → d.joined ≡ b → id ≡ first.id
      by true u = r.one_built_in u id first.id place c first.cell e first.there k first-kind
      by false u = (r.contained u).one_for_a_place id first.id place c first.cell e first.there
          (sym (reads-home d c.home first.id first.cell
          (built-in-held d c.home place first.id first.found).held.object first.there u)) k first-kind

  same-cell : Some c ≡ Some first.cell
  same-cell = sym e ∙ ap (cell_at d) is-first ∙ first.there

  pub is-standard : Some (as_standard (thing_in (names_of d) c)) ≡ standard_at place
  is-standard =
      ap (λ (o : Option Cell). option_map (λ (x : Cell). as_standard (thing_in (names_of d) x)) o) same-cell
      ∙ first.standard

  pub is-fixed : c.extensible ≡ false
  is-fixed = by (intrinsic place) is-standard
    where
      by : (o : Option Intrinsic) → Some (as_standard (thing_in (names_of d) c)) ≡ option_map (standard place) o
          → c.extensible ≡ false
      by None h = cc
      by (Some i) h = ap extensible_of h
