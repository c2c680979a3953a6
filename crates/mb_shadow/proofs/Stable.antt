-- What is seen stays where a shadow follows it.
use Rattle.std.proofs.Common.{◌≡◌, ◌≢◌, [], Option, Some, None, true, refl, ap, sym, ◌∙◌, true≢false, is_some, option_map}
use Rattle.std.specs.Prelude.{IfSome}
use Rattle.std.specs.Option.{option_and_then}
use Rattle.std.proofs.lemmas.Option.{slice_get_within}
use Rattle.mb_base.specs.declared.value.ObjId.{ObjId}
use Rattle.mb_desc.specs.View.{View}
use Rattle.mb_view.specs.Views.{property_of}
use Rattle.mb_world.specs.declared.cell.Cell.{Cell}
use Rattle.mb_world.specs.Value.{Val}
use Rattle.mb_world.specs.Key.{PropertyKey, same_key}
use Rattle.mb_world.specs.Graph.{Graph, Thing}
use Rattle.mb_world.specs.View.{Shown, shown_property}
use Rattle.mb_world.specs.Data.{Data, cell_at}
use Rattle.mb_world.specs.Ids.{CellIn, ObjIn}
use Rattle.mb_world.specs.Image.{names_of, object_of, object_at, owner_by}
use Rattle.mb_world.specs.Contained.{is_shadow}
use Rattle.mb_world.proofs.Grow.{All-at}
use Rattle.mb_world.proofs.Images.{thing-grows}
use Rattle.mb_rules.specs.Seen.{graph_of}
use Rattle.mb_maps.proofs.Lists.{some-get, same-some}
use Rattle.mb_shadow.specs.Seeing.{CanSee, view_through}
use Rattle.mb_shadow.specs.Following.{Followed}
use Rattle.mb_shadow.specs.declared.sight.Sight.{Sight}
use Rattle.mb_shadow.specs.machine.Sights.{IsSight, view_of, seen_in, seen_at}
use Rattle.mb_shadow.proofs.Shown.{seen-at}

-- the shadow of what is seen
pub shadow-of : (d : Data) (s : Sight) → IsSight d s → (c : Cell) × (cell_at d s.shadow ≡ Some c) × (is_shadow c.kind ≡ true)
shadow-of d s sight = some-get (λ (c : Cell). is_shadow c.kind ≡ true) (cell_at d s.shadow) sight.shadow_there

pub shadow-in : (d : Data) (s : Sight) → IsSight d s → ObjIn d s.shadow
shadow-in d s sight = let c = shadow-of d s sight in slice_get_within d.cells s.shadow.0 c.0 c.1

-- what is seen is what is shown at each key
pub seen-shown : (d : Data) (s : Sight) (t : Thing) → object_at d s.object ≡ Some t → (k : PropertyKey)
    → property_of same_key (Shown (graph_of d) s.viewer.0 t) k ≡ seen_at d s k
seen-shown d s t e k = seen-at (graph_of d) s.viewer.0 t k ∙ sym (ap (seen_in d s.viewer.0 k) e)

pub view-there : (d : Data) (s : Sight) → IsSight d s → (view : View PropertyKey Val) × (view_of d s ≡ Some view)
view-there d s sight =
    let at : object_at d s.object ≡ Some (object_of (names_of d) sight.cell) = ap (option_map (object_of (names_of d))) sight.there in
    (Shown (graph_of d) s.viewer.0 (object_of (names_of d) sight.cell), ap (option_map (Shown (graph_of d) s.viewer.0)) at)

-- where it comes from somewhere, something is seen
pub seen-there : (d : Data) (proxy : ObjId) (o : Option Sight) → view_through d proxy ≡ option_and_then (view_of d) o → IfSome o (IsSight d) → is_some o ≡ true
    → is_some (view_through d proxy) ≡ true
seen-there d proxy None e sight some = cc
seen-there d proxy (Some s) e sight some = ap (λ (v : Option (View PropertyKey Val)). is_some v) (e ∙ (view-there d s sight).1)

module _ (d d' : Data) (s : Sight) (can : CanSee d) (sight : IsSight d s) (f : Followed d d' s.shadow) where
  abbrev c : Cell
  c = (shadow-of d s sight).0

  other : s.object ≢ s.shadow
  other e =
      let q = shadow-of d s sight in
      let same : sight.cell ≡ q.0 = same-some (cell_at d s.shadow) sight.cell q.0 (ap (cell_at d) (sym e) ∙ sight.there) q.1 in
      true≢false (sym q.2 ∙ ap (λ (x : Cell). is_shadow x.kind) (sym same) ∙ sight.real)

  there-still : cell_at d' s.object ≡ Some sight.cell
  there-still = f.cells s.object sight.cell other sight.there

  same-sides : d'.sides ≡ d.sides
  same-sides = ap (λ (x : Data). x.sides) f.rest

  pub sight-stays : IsSight d' s
  sight-stays =
      let q = shadow-of d s sight in
      let r = f.shadow_stays q.0 q.1 in
      record {
        cell = sight.cell;
        there = there-still;
        ordinary = sight.ordinary;
        real = sight.real;
        takes_part = rw same-sides sight.takes_part;
        viewer_there = rw same-sides sight.viewer_there;
        shadow_there = rw r.1 (ap is_shadow r.2.kind ∙ q.2);
        shadow_home = (
            let was : q.0.home ≡ s.home = rw q.1 at sight.shadow_home in
            rw r.1 (r.2.home ∙ was));
      }

  pub object-stays : object_at d' s.object ≡ object_at d s.object
  object-stays =
      let within : CellIn d sight.cell = All-at (CellIn d) d.cells s.object.0 sight.cell sight.there can.ids.cells_in in
      ap (option_map (object_of (names_of d'))) there-still
      ∙ ap (λ (t : Thing). let u : Thing = record t { owner = owner_by sight.cell.kind sight.cell.home } in Some u) (thing-grows d d' f.becomes.grows sight.cell within)
      ∙ sym (ap (option_map (object_of (names_of d))) sight.there)

  pub graph-stays : graph_of d' ≡ graph_of d
  graph-stays = f.becomes.image []

  pub seen-stays : (k : PropertyKey) → seen_at d' s k ≡ seen_at d s k
  seen-stays k = ap (seen_in d' s.viewer.0 k) object-stays ∙ by (object_at d s.object)
    where
      by : (o : Option Thing) → seen_in d' s.viewer.0 k o ≡ seen_in d s.viewer.0 k o
      by None = refl
      by (Some t) = ap (λ (g : Graph). shown_property g s.viewer.0 t k) graph-stays

  pub view-stays : view_of d' s ≡ view_of d s
  view-stays = ap (λ (g : Graph). option_map (Shown g s.viewer.0) (object_at d' s.object)) graph-stays ∙ ap (option_map (Shown (graph_of d) s.viewer.0)) object-stays
