-- The object that a cell is, and the graph.
use Rattle.std.proofs.Common.{◌≡◌, Some, true, refl, sym, ap, ◌∙◌, true≢false, slice_get, option_map}
use Rattle.std.proofs.lemmas.Option.{slice_get-map}
use Rattle.mb_base.specs.declared.value.Side.{Side}
use Rattle.mb_world.specs.declared.cell.CellKind.{CellKind}
use Rattle.mb_world.specs.declared.cell.CellKind.TheVariants.{Plain, Array, Function, BuiltIn, Fault, Proxy, Revoker, Membrane, Shadow, Collection}
use Rattle.mb_world.specs.Graph.{Thing}
use Rattle.mb_world.specs.Objects.{thing_at}
use Rattle.mb_world.specs.Standard.{standard_at}
use Rattle.mb_world.specs.Data.{cell_at, kind_stand, is_counted, stand, stands, AtPlace}
use Rattle.mb_world.specs.Image.{names_of, thing_in, stood, Image}
use Rattle.mb_world.specs.Formed.{as_standard}
use Rattle.mb_world.proofs.AfterCalls.{thing-at}
use Rattle.mb_ordinary.specs.Objects.{owner_by, object_of}
use Rattle.mb_ordinary.specs.Laws.{OfNumbered, OfBuiltIn}

owner-numbered : (kind : CellKind) (home : Side) → is_counted (kind_stand kind) ≡ true → owner_by kind home ≡ Some home.0
owner-numbered Plain home h = refl
owner-numbered Array home h = refl
owner-numbered (Function code) home h = refl
owner-numbered (BuiltIn place) home h = absurd (true≢false (sym h))
owner-numbered (Fault kind) home h = refl
owner-numbered (Proxy target handler shape) home h = refl
owner-numbered (Revoker proxy) home h = refl
owner-numbered (Membrane behind shadow) home h = absurd (true≢false (sym h))
owner-numbered (Shadow shape) home h = absurd (true≢false (sym h))
owner-numbered (Collection coll) home h = refl

pub of-numbered : OfNumbered
of-numbered d o c log there h =
    let t : Thing = thing_in (names_of d) c in
    ap (option_map (object_of (names_of d))) there
    ∙ ap (λ w. let u : Thing = record t { owner = w } in Some u) (owner-numbered c.kind c.home h)
    ∙ sym (thing-at d o c log there h)

pub of-built-in : OfBuiltIn
of-built-in d o c log side place there kind first has =
    let t : Thing = thing_in (names_of d) c in
    let at : slice_get (stands d.cells) o.0 ≡ Some (AtPlace place) = slice_get-map stand d.cells o.0 ∙ ap (option_map stand) there ∙ ap (λ k. Some (kind_stand k)) kind in
    let found : Some has.id ≡ Some o = sym has.found ∙ first in
    let id : has.id ≡ o = cc in
    let both : Some has.cell ≡ Some c = sym has.there ∙ ap (cell_at d) id ∙ there in
    let cell : has.cell ≡ c = cc in
    let same : Some (as_standard t) ≡ standard_at place = ap (λ x. Some (as_standard (thing_in (names_of d) x))) (sym cell) ∙ has.standard in
    ap (option_map (object_of (names_of d))) there
    ∙ ap (λ k. let u : Thing = record t { owner = owner_by k c.home } in Some u) kind
    ∙ same
    ∙ sym (ap (λ s. thing_at (Image d log) (stood (names_of d) o.0 s)) at)
