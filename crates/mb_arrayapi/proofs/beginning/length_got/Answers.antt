use Rattle.std.proofs.Common.{ap, of_z, rules, to_z, w64, ◌≡◌, ℕ}
use Rattle.mb_arrayapi.proofs.Acting.{Part-same}
use Rattle.mb_arrayapi.proofs.beginning.length_got.Goals as goal
use Rattle.mb_call.proofs.ListRows.{wrong-length}
use Rattle.mb_frames.specs.Rest.Arraying.{member_from}
use Rattle.mb_frames.specs.Sorts.{AValue}
use Rattle.mb_model.specs.Operations.Calls.{length_from}
use Rattle.mb_model.specs.Writing.{◌>>=◌, Does, type_error}
use Rattle.mb_world.specs.Image.{Resolve, names_of, object_in}

pub returns-in-Undefined-clause-part : goal.returns-in-Undefined-clause-part
returns-in-Undefined-clause-part c = rw c.in-Undefined.is c.begin.ensures.part

pub returns-in-Whole-clause-part : goal.returns-in-Whole-clause-part
returns-in-Whole-clause-part c =
    let n : to_z w64 (of_z w64 c.in-Whole.n) ≡ c.in-Whole.n = search rules in
    rw c.in-Whole.is (rw n at (rw c.not_below_zero.ensures at c.begin-in-Whole.ensures.part))

pub returns-in_default-clause-part : goal.returns-in_default-clause-part
returns-in_default-clause-part c =
    let d = c.args.w.now in
    let n = names_of d in
    let s = c.args.home.0 in
    let p = member_from n s (object_in n c.args.object) c.args.member in
    Part-same c.args.home c.type_error.result d c.type_error.new.w c.args.fuel.now c.args.fuel.now
    (length_from s (Resolve n c.args.length) >>= p) (type_error s)
    (ap (λ (q : Does ℕ). q >>= p) (wrong-length n s c.args.length c.in_default.not-Undefined c.in_default.not-Whole))
    (c.type_error.ensures.part c.args.fuel.now)

pub returns-in_default-clause-keeps : goal.returns-in_default-clause-keeps
returns-in_default-clause-keeps c = c.type_error.ensures.keeps AValue
