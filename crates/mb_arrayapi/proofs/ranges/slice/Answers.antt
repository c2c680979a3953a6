use Rattle.std.proofs.Common.{ℕ, ◌-◌}
use Rattle.mb_arrayapi.proofs.Acting.{Part-same}
use Rattle.mb_arrayapi.proofs.ranges.slice.Goals as goal
use Rattle.mb_frames.specs.Rest.Arraying.{slice_from}
use Rattle.mb_frames.specs.Sorts.{AValue}
use Rattle.mb_model.specs.BuiltIns.ArrayMembers.{slice_each}
use Rattle.mb_model.specs.BuiltIns.Arrays.{fresh_array}
use Rattle.mb_model.specs.Writing.{◌>>=◌, type_error}
use Rattle.mb_world.specs.Image.{Resolve, names_of, object_in}

pub returns-in-Some-clause-part : goal.returns-in-Some-clause-part
returns-in-Some-clause-part c =
    let d = c.args.w.now in
    let n = names_of d in
    let s = c.args.home.0 in
    let o = object_in n c.args.object in
    let p = λ (k l : ℕ). fresh_array s (l - k) >>= (λ a. slice_each s o a (l - k) k 0) in
    let told = rw c.in-Some.is at c.bounds.ensures.some in
    Part-same c.args.home c.sliced.result d c.sliced.new.w c.args.fuel.now c.sliced.new.fuel
    (slice_from s o (Resolve n c.args.from) (Resolve n c.args.to) c.args.length)
    (p c.in-Some.from c.in-Some.to) (told d s p) (rw c.saturating_sub.ensures at c.sliced.ensures.part)

pub returns-in-None-clause-part : goal.returns-in-None-clause-part
returns-in-None-clause-part c =
    let d = c.args.w.now in
    let n = names_of d in
    let s = c.args.home.0 in
    let f = c.args.fuel.now in
    let o = object_in n c.args.object in
    let p = λ (k l : ℕ). fresh_array s (l - k) >>= (λ a. slice_each s o a (l - k) k 0) in
    Part-same c.args.home c.type_error.result d c.type_error.new.w f f
    (slice_from s o (Resolve n c.args.from) (Resolve n c.args.to) c.args.length) (type_error s)
    (c.bounds.ensures.none c.in-None.is d s p) (c.type_error.ensures.part f)

pub returns-in-None-clause-keeps : goal.returns-in-None-clause-keeps
returns-in-None-clause-keeps c = c.type_error.ensures.keeps AValue
