use Rattle.std.proofs.Common.{◌∷◌, ◌≡◌, []}
use Rattle.std.proofs.lemmas.Result.{err_from_is_err_and}
use Rattle.mb_arrayapi.proofs.Acting.{acts-after}
use Rattle.mb_arrayapi.proofs.making.make_filled.Goals as goal
use Rattle.mb_frames.proofs.Leaving.{holds-still}
use Rattle.mb_frames.proofs.Readying.{changed-same, changed-then}
use Rattle.mb_frames.specs.Held.{HeldArray, HeldPrototype, HeldValues}
use Rattle.mb_frames.specs.Resolved.{values_in}
use Rattle.mb_world.proofs.Images.{map-same, value-grows}
use Rattle.mb_world.specs.Ids.{ValueIn}
use Rattle.mb_world.specs.Image.{Resolve, names_of}

pub returns-then-long-clause-keeps : goal.returns-then-long-clause-keeps
returns-then-long-clause-keeps c =
    record { changed = changed-same c.args.home c.args.w.now c.requires.acts.ready; holds = tt }

pub make_array-requires : goal.make_array-requires
make_array-requires c =
    let a = c.requires.acts in
    record { acts = record { ready = a.ready; side = a.side; holds = (a.holds.0, tt) } }

pub returns-in_err-array-clause-keeps : goal.returns-in_err-array-clause-keeps
returns-in_err-array-clause-keeps c =
    let p = err_from_is_err_and c.from_residual.result c.from_residual.ensures.1 in
    rw p.1 (record { changed = c.in_err-array.ensures.keeps.changed; holds = tt })

pub fill-requires-clause-acts : goal.fill-requires-clause-acts
fill-requires-clause-acts c =
    let d = c.args.w.now in
    let a = c.requires.acts in
    let held = HeldPrototype c.args.prototype ∷ HeldValues c.args.values.now ∷ [] in
    let k = c.in_ok-array.ensures.keeps in
    let h = acts-after d c.args.home held a c.make_array.new.w k.changed (HeldValues c.args.values.now ∷ [])
    a.holds.1 in
    record { ready = h.ready; side = h.side; holds = (k.holds.0, h.holds) }

pub returns-in_err-fill-clause-keeps : goal.returns-in_err-fill-clause-keeps
returns-in_err-fill-clause-keeps c =
    let q = c.from_residual-in_err-fill in
    let p = err_from_is_err_and q.result q.ensures.1 in
    rw p.1
    (record {
      changed = changed-then c.args.home c.args.w.now c.make_array.new.w c.fill.new.w
          c.in_ok-array.ensures.keeps.changed c.in_err-fill.ensures.keeps.changed;
      holds = tt;
    })

pub returns-clause-makes : goal.returns-clause-makes
returns-clause-makes c =
    let d = c.args.w.now in
    let d1 = c.make_array.new.w in
    let h = c.requires.acts.holds.1.0 in
    let k = c.in_ok-array.ensures.keeps.changed in
    let e : values_in (names_of d1) c.args.values.now ≡ values_in (names_of d) c.args.values.now
    = map-same (Resolve (names_of d1)) (Resolve (names_of d)) (ValueIn d) (value-grows d d1 k.found.grew.grows)
    c.args.values.now h.within in
    let m = rw c.len-count.ensures at c.in_ok-array.ensures.makes in
    rw e at (c.in_ok-fill.ensures.filled d c.args.home.0 (Resolve (names_of d) c.args.prototype) m)

pub returns-clause-keeps : goal.returns-clause-keeps
returns-clause-keeps c =
    let d = c.args.w.now in
    let d1 = c.make_array.new.w in
    let d2 = c.fill.new.w in
    let k = c.in_ok-array.ensures.keeps in
    let k2 = c.in_ok-fill.ensures.keeps.changed in
    record {
      changed = changed-then c.args.home d d1 d2 k.changed k2;
      holds = holds-still c.args.home d1 d2 k.changed.ready k2 (HeldArray c.in_ok-array.array ∷ []) k.holds;
    }
