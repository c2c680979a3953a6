use Rattle.std.proofs.Common.{arith, ap, ◌<◌, ◌∷◌, []}
use Rattle.mb_arrayapi.proofs.Acting.{Part-same, keeps-after}
use Rattle.mb_arrayapi.proofs.Needing.{Part-sliced, fresh-long}
use Rattle.mb_arrayapi.proofs.ranges.sliced.Goals as goal
use Rattle.mb_frames.specs.Held.{HeldObject}
use Rattle.mb_frames.specs.Sorts.{AValue}
use Rattle.mb_model.specs.BuiltIns.ArrayMembers.{slice_each}
use Rattle.mb_model.specs.BuiltIns.Arrays.{fresh_array}
use Rattle.mb_model.specs.Writing.{◌>>=◌, Does, range_error}
use Rattle.mb_world.specs.Image.{names_of, object_in}
use Rattle.mb_world.specs.Value.{Val}

pub returns-then-left-gt-LIMIT-clause-part : goal.returns-then-left-gt-LIMIT-clause-part
returns-then-left-gt-LIMIT-clause-part c =
    let d = c.args.w.now in
    let s = c.args.home.0 in
    let f = c.args.fuel.now in
    let l : 4294967295 < c.args.left = omega arith in
    let each = λ (x : Val). slice_each s (object_in (names_of d) c.args.object) x c.args.left c.args.from 0 in
    Part-same c.args.home c.range_error.result d c.range_error.new.w f f (fresh_array s c.args.left >>= each)
    (range_error s) (ap (λ (q : Does Val). q >>= each) (fresh-long s c.args.left l)) (c.range_error.ensures.part f)

pub returns-then-left-gt-LIMIT-clause-keeps : goal.returns-then-left-gt-LIMIT-clause-keeps
returns-then-left-gt-LIMIT-clause-keeps c = c.range_error.ensures.keeps AValue

pub returns-clause-part : goal.returns-clause-part
returns-clause-part c =
    Part-sliced c.args.home c.turns_from.result c.args.w.now c.fresh_array.new.w c.turns_from.new.w c.args.fuel.now
    c.turns_from.new.fuel c.args.object c.requires.acts.holds.0.within c.in_ok-array.array c.args.left
    c.in_ok-array.ensures.makes c.args.from c.args.left c.turns_from.ensures.part

pub returns-clause-keeps : goal.returns-clause-keeps
returns-clause-keeps c =
    keeps-after c.args.w.now c.args.home (HeldObject c.args.object ∷ []) c.requires.acts c.fresh_array.new.w
    c.in_ok-array.ensures.keeps.changed AValue c.turns_from.result c.turns_from.new.w c.turns_from.ensures.keeps
