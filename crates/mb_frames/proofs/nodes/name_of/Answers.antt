use Rattle.std.proofs.Common.{◌≡◌, ◌∙◌, List, Some, ap, length, map, option_map, refl, slice_get, sym}
use Rattle.std.proofs.lemmas.Option.{slice_get-map, slice_get_read}
use Rattle.mb_tree.specs.Roses.{view}
use Rattle.mb_tree.specs.declared.tree.Node.{Node}
use Rattle.mb_world.specs.Data.{Script, script_of}
use Rattle.mb_frames.proofs.Reading.{name-in}
use Rattle.mb_frames.proofs.nodes.name_of.Goals as goal

pub returns-clause-text : goal.returns-clause-text
returns-clause-text c =
    let d = c.args.w.now in
    let i = c.args.param.0 in
    let p : Script = script_of c.in-Some.program.now in
    let q = c.in-Some-get.ensures.lookup in
    let r : slice_get c.deref.result.now i ≡ Some c.in-Some-get.node.now
    = slice_get_read c.deref.result.now (length c.deref.result.now) i c.in-Some-get.node.now refl q.3.0 q.1 in
    let h : slice_get p.nodes i ≡ Some (view c.in-Some-get.node.now)
    = ap (λ (xs : List Node). slice_get (map view xs) i) (sym c.deref.ensures.value)
    ∙ slice_get-map view c.deref.result.now i
    ∙ ap (option_map view) r in
    name-in d c.args.home p i (view c.in-Some-get.node.now) c.in-Some-name.name c.requires.world.ids
    (sym c.in-Some.ensures) h c.in-Some-name.is
