use Rattle.std.proofs.Common.{ap, ℕ, ◌-◌}
use Rattle.mb_arrayapi.proofs.Acting.{Part-same}
use Rattle.mb_arrayapi.proofs.ranges.index_of.Goals as goal
use Rattle.mb_frames.specs.Rest.Arraying.{index_from}
use Rattle.mb_frames.specs.Sorts.{AValue}
use Rattle.mb_model.specs.BuiltIns.ArrayMembers.{index_each}
use Rattle.mb_model.specs.Writing.{◌>>=◌, Does, type_error}
use Rattle.mb_world.specs.Image.{Resolve, names_of, object_in}

pub returns-in-None-clause-part : goal.returns-in-None-clause-part
returns-in-None-clause-part c =
    let d = c.args.w.now in
    let n = names_of d in
    let s = c.args.home.0 in
    let f = c.args.fuel.now in
    let o = object_in n c.args.object in
    let x = Resolve n c.args.value in
    Part-same c.args.home c.type_error.result d c.type_error.new.w f f
    (index_from s o x (Resolve n c.args.from) c.args.length) (type_error s)
    (ap (λ (q : Does ℕ). q >>= (λ k. index_each s o x (c.args.length - k) k))
    (c.index_arg.ensures.none c.in-None.is s d)) (c.type_error.ensures.part f)

pub returns-in-None-clause-keeps : goal.returns-in-None-clause-keeps
returns-in-None-clause-keeps c = c.type_error.ensures.keeps AValue
