use Rattle.std.proofs.Common.{Bool, ap, drop, false, sym, ◌∙◌}
use Rattle.std.specs.Prelude.{if◌then◌else◌}
use Rattle.mb_base.specs.declared.value.Value.TheVariants as v
use Rattle.mb_frames.proofs.HeldLess.{flag-held}
use Rattle.mb_frames.specs.Resolved.{keys_of, real_in}
use Rattle.mb_frames.specs.Sorts.{AValue}
use Rattle.mb_model.specs.BuiltIns.ObjectMembers.{frozen_key, frozen_keys}
use Rattle.mb_model.specs.Meaning.{finished}
use Rattle.mb_model.specs.Task.{Answer}
use Rattle.mb_model.specs.Writing.{Does, truth}
use Rattle.mb_reflect.proofs.Doing.{done-by, done-value, keeps-given}
use Rattle.mb_reflect.proofs.freezing.frozen_read.Goals as goal
use Rattle.mb_world.specs.Image.{Image, names_of, object_in}

-- what follows, by whether the property can be changed or written
abbrev chosen : Does Answer → Bool → Does Answer
chosen more b = if b then truth false else more

pub returns-then-is_loose-clause-part : goal.returns-then-is_loose-clause-part
returns-then-is_loose-clause-part c = λ d a.
    let home = c.args.home in
    let f = c.args.fuel.now in
    let n = names_of d in
    let more = frozen_keys home.0 (object_in n c.args.object) (drop c.args.next (keys_of n c.args.keys)) in
    rw c.value.ensures
    (done-value home d f a.ready (frozen_key more (real_in n c.args.found) finished) (v.Bool false)
    (flag-held d home false)
    (λ log. ap (λ (b : Bool). chosen more b finished (Image d log))
    (sym (c.is_loose.ensures n) ∙ c.if-is_loose.true))).part

pub returns-then-is_loose-clause-keeps : goal.returns-then-is_loose-clause-keeps
returns-then-is_loose-clause-keeps c = λ d a.
    rw c.value.ensures (keeps-given c.args.home d a.ready (v.Bool false) (flag-held d c.args.home false))

pub returns-clause-part : goal.returns-clause-part
returns-clause-part c = λ d a.
    let home = c.args.home in
    let n = names_of d in
    let more = frozen_keys home.0 (object_in n c.args.object) (drop c.args.next (keys_of n c.args.keys)) in
    (done-by home AValue c.frozen_from.result d d c.args.fuel.now c.frozen_from.new.fuel
    (frozen_key more (real_in n c.args.found) finished) (more finished)
    (λ log. ap (λ (b : Bool). chosen more b finished (Image d log))
    (sym (c.is_loose.ensures n) ∙ c.if-is_loose.false))
    (record { part = c.frozen_from.ensures.part d a; keeps = c.frozen_from.ensures.keeps d a })).part
