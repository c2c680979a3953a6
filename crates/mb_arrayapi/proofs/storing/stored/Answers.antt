use Rattle.std.proofs.Common.{◌∷◌}
use Rattle.std.proofs.lemmas.Result.{err_from_is_err_and}
use Rattle.mb_arrayapi.proofs.Acting.{acts-after, halts-after, keeps-after}
use Rattle.mb_arrayapi.proofs.Stores.{Part-stored}
use Rattle.mb_arrayapi.proofs.storing.stored.Goals as goal
use Rattle.mb_arrayapi.specs.machine.Turning.{elements_held}
use Rattle.mb_frames.proofs.Leaving.{holds-in}
use Rattle.mb_frames.specs.Held.{HeldArray, HeldValue}
use Rattle.mb_frames.specs.Sorts.{AValue}
use Rattle.mb_model.specs.Objects.Methods.{store_element}
use Rattle.mb_world.specs.Image.{Resolve, names_of, object_in}

pub returns-in_err-store-clause-keeps : goal.returns-in_err-store-clause-keeps
returns-in_err-store-clause-keeps c =
    let p = err_from_is_err_and c.from_residual.result c.from_residual.ensures.1 in
    rw p.1
    (halts-after c.args.w.now c.args.home (HeldArray c.args.array ∷ HeldValue c.args.x ∷ elements_held c.args.at)
    c.requires.acts c.store.new.w c.in_err-store.ensures.keeps.changed AValue p.0)

pub goes_on-requires : goal.goes_on-requires
goes_on-requires c = record {
  acts = acts-after c.args.w.now c.args.home
      (HeldArray c.args.array ∷ HeldValue c.args.x ∷ elements_held c.args.at) c.requires.acts c.store.new.w
      c.in_ok-store.ensures.keeps.changed (elements_held c.args.at) c.requires.acts.holds.1.1;
}

pub returns-clause-part : goal.returns-clause-part
returns-clause-part c =
    let d = c.args.w.now in
    let n = names_of d in
    let home = c.args.home in
    Part-stored home c.goes_on.result d c.store.new.w c.goes_on.new.w c.args.fuel.now c.goes_on.new.fuel c.args.at
    (store_element home.0 (object_in n c.args.array) c.args.place (Resolve n c.args.x)) c.in_ok-store.ensures.stored
    (holds-in d home (elements_held c.args.at) c.requires.acts.holds.1.1) c.goes_on.ensures.part

pub returns-clause-keeps : goal.returns-clause-keeps
returns-clause-keeps c =
    keeps-after c.args.w.now c.args.home (HeldArray c.args.array ∷ HeldValue c.args.x ∷ elements_held c.args.at)
    c.requires.acts c.store.new.w c.in_ok-store.ensures.keeps.changed AValue c.goes_on.result c.goes_on.new.w
    c.goes_on.ensures.keeps
