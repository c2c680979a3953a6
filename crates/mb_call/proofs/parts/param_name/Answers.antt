use Rattle.std.proofs.Common.{◌≡◌, ◌∙◌, Some, ap, length, option_map, refl, slice_get, sym}
use Rattle.std.proofs.lemmas.Option.{slice_get_past, slice_get_read}
use Rattle.mb_base.specs.declared.value.NodeId.{NodeId}
use Rattle.mb_call.proofs.PartsRead.{named-at}
use Rattle.mb_call.proofs.parts.param_name.Goals as goal
use Rattle.mb_call.specs.machine.Functions.{params_of}
use Rattle.mb_frames.specs.Told.{shapes_of}
use Rattle.mb_world.specs.Data.{program_of}
use Rattle.mb_world.specs.FormOf.{name_at}
use Rattle.mb_world.specs.Image.{nodes_in}

pub returns-in-Some-clause-name : goal.returns-in-Some-clause-name
returns-in-Some-clause-name c =
    let d = c.args.w.now in
    let ns = nodes_in d.texts (shapes_of (program_of d c.args.home)) in
    let xs = c.params_of.result.now in
    let q = c.in-Some.ensures.lookup in
    let r : slice_get xs c.args.place ≡ Some c.in-Some.param.now
    = slice_get_read xs (length xs) c.args.place c.in-Some.param.now refl q.3.0 q.1 in
    ap Some c.name_of.ensures.name
    ∙ ap (option_map (λ (id : NodeId). name_at (slice_get ns id.0))) (sym r)
    ∙ sym (named-at ns xs c.args.place)
    ∙ ap (λ zs. slice_get zs c.args.place) (c.params_of.ensures.names c.args.home d)
    ∙ ap (λ f. slice_get (params_of f) c.args.place) c.in_ok-form.ensures.form

pub returns-in-None-clause-name : goal.returns-in-None-clause-name
returns-in-None-clause-name c =
    let d = c.args.w.now in
    let ns = nodes_in d.texts (shapes_of (program_of d c.args.home)) in
    let xs = c.params_of.result.now in
    ap (option_map (λ (id : NodeId). name_at (slice_get ns id.0)))
    (sym (slice_get_past xs c.args.place c.in-None.ensures.lookup.3))
    ∙ sym (named-at ns xs c.args.place)
    ∙ ap (λ zs. slice_get zs c.args.place) (c.params_of.ensures.names c.args.home d)
    ∙ ap (λ f. slice_get (params_of f) c.args.place) c.in_ok-form.ensures.form
