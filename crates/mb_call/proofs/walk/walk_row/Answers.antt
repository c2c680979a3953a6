use Rattle.std.proofs.Common.{◌-◌, ◌≡◌, ◌≤◌, ◌∷◌, Err, Ok, [], ap, arith, refl}
use Rattle.std.proofs.lemmas.Result.{err_from_is_err_and}
use Rattle.mb_call.proofs.Things.{real-there}
use Rattle.mb_call.proofs.Turning.{Step-turned, Step-unturned}
use Rattle.mb_call.proofs.Visiting.{behind-thing, no-thing, row-turns}
use Rattle.mb_call.proofs.walk.walk_row.Goals as goal
use Rattle.mb_call.specs.Ours.{Acts}
use Rattle.mb_call.specs.machine.Walks.{visit_row}
use Rattle.mb_frames.proofs.Keeping.{keeps-halted}
use Rattle.mb_frames.proofs.Passed.{Part-by, puts-none}
use Rattle.mb_frames.proofs.Readying.{changed-same}
use Rattle.mb_frames.proofs.Steps.{Step-by}
use Rattle.mb_frames.specs.Held.{HeldObject, HeldPrototype}
use Rattle.mb_frames.specs.Sorts.{AFlag}
use Rattle.mb_frames.specs.declared.machine.Halt.TheVariants.{Spent as SpentHalt}
use Rattle.mb_model.specs.Engine.{Turn}
use Rattle.mb_model.specs.Meaning.{finished}
use Rattle.mb_model.specs.Objects.Methods.{prototype_set, walk_at, walk_row}
use Rattle.mb_world.specs.Image.{Image, Resolve, names_of, object_in, object_of}

pub walk_at-requires : goal.walk_at-requires
walk_at-requires c = record {
  within = (c.requires.within.0, (c.requires.within.1.0, (rw c.in-Object.is at c.requires.within.1.1.0, tt)));
  walks = c.requires.walks;
  real = rw c.in-Object.is at c.requires.real;
}

pub prototype_set-requires : goal.prototype_set-requires
prototype_set-requires c =
    record { within = (c.requires.within.0, (c.requires.within.1.0, tt)); walks = c.requires.walks }

pub returns-in_err-charge-in-Object-clause-part : goal.returns-in_err-charge-in-Object-clause-part
returns-in_err-charge-in-Object-clause-part c = λ home a begun l.
    let d = c.args.w.now in
    let n = names_of d in
    let o = c.args.object in
    let given = c.args.given in
    let x = c.in-Object.x in
    let f = c.args.fuel.now in
    let p = err_from_is_err_and c.from_residual.result c.from_residual.ensures.1 in
    let q = real-there d x (rw c.in-Object.is at c.requires.within.1.1.0) (rw c.in-Object.is at c.requires.real) in
    let t = object_of n q.cell in
    rw (p.1, p.2, c.in_err-charge-in-Object.ensures.kept, c.in-Object.is)
    (Step-by home begun (Err SpentHalt) d d f f l l
    (walk_row (object_in n o) (Resolve n given) (object_in n x) finished) (λ g. Turn g (visit_row n o given x t g))
    (row-turns d a.ready o given x q)
    (Step-unturned home begun d f l (visit_row n o given x t) (c.in_err-charge-in-Object.ensures.spent.0 refl)))

pub returns-in_err-charge-in-Object-clause-keeps : goal.returns-in_err-charge-in-Object-clause-keeps
returns-in_err-charge-in-Object-clause-keeps c = λ home a.
    let d = c.args.w.now in
    let p = err_from_is_err_and c.from_residual.result c.from_residual.ensures.1 in
    rw p.1 (keeps-halted home AFlag p.0 d d (changed-same home d a.ready))

pub returns-in_ok-charge-in-Object-clause-part : goal.returns-in_ok-charge-in-Object-clause-part
returns-in_ok-charge-in-Object-clause-part c = λ home a begun l.
    let d = c.args.w.now in
    let d' = c.walk_at.new.w in
    let n = names_of d in
    let o = c.args.object in
    let given = c.args.given in
    let x = c.in-Object.x in
    let f = c.args.fuel.now in
    let k = c.charge.new.self in
    let u : 1 ≤ f = omega (arith, c.in_ok-charge-in-Object.ensures.paid) in
    let e : k ≡ f - 1 = omega (arith, c.in_ok-charge-in-Object.ensures.paid) in
    let q = real-there d x (rw c.in-Object.is at c.requires.within.1.1.0) (rw c.in-Object.is at c.requires.real) in
    let t = object_of n q.cell in
    let acts : Acts d home (HeldObject o ∷ HeldPrototype given ∷ [])
    = record { ready = a.ready; side = a.side; holds = (a.holds.0, (a.holds.1.0, tt)) } in
    let s = c.walk_at.ensures.visited home acts k t (behind-thing d a.ready x q) l in
    rw c.in-Object.is
    (Step-by home begun (Ok c.walk_at.result) d d' f k l l
    (walk_row (object_in n o) (Resolve n given) (object_in n x) finished) (λ g. Turn g (visit_row n o given x t g))
    (row-turns d a.ready o given x q)
    (Step-turned home begun (Ok c.walk_at.result) d d' f k k l l (visit_row n o given x t) u e
    (puts-none home (Ok c.walk_at.result) d d' k k l l (visit_row n o given x t) s) s))

pub returns-in_ok-charge-in-Object-clause-keeps : goal.returns-in_ok-charge-in-Object-clause-keeps
returns-in_ok-charge-in-Object-clause-keeps c = λ home a.
    c.walk_at.ensures.keeps home
    (record { ready = a.ready; side = a.side; holds = (a.holds.0, (a.holds.1.0, tt)) })

pub returns-in_default-clause-part : goal.returns-in_default-clause-part
returns-in_default-clause-part c = λ home a.
    let d = c.args.w.now in
    let n = names_of d in
    let o = object_in n c.args.object in
    let p = Resolve n c.args.given in
    let x = Resolve n c.args.next in
    let f = c.args.fuel.now in
    Part-by home (Ok c.prototype_set.result) d c.prototype_set.new.w f f (walk_row o p x finished)
    (prototype_set o p finished)
    (λ log. ap (λ y. walk_at o p x y finished (Image d log)) (no-thing d c.args.next c.in_default.not-Object log))
    (c.prototype_set.ensures.part home
    (record { ready = a.ready; side = a.side; holds = (a.holds.0, (a.holds.1.0, tt)) }) f)

pub returns-in_default-clause-keeps : goal.returns-in_default-clause-keeps
returns-in_default-clause-keeps c = λ home a.
    c.prototype_set.ensures.keeps home
    (record { ready = a.ready; side = a.side; holds = (a.holds.0, (a.holds.1.0, tt)) })
