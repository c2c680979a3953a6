use Rattle.std.proofs.Common.{◌+◌, ◌<◌, ◌≡◌, Err, Ok, ap, arith, length, refl, sym}
use Rattle.std.proofs.lemmas.List.{length-map}
use Rattle.mb_call.proofs.methods.own_keys.Goals as goal
use Rattle.mb_frames.proofs.HeldLess.{keys-held}
use Rattle.mb_frames.proofs.Passed.{Part-by, Part-each, Part-passed, Part-sure, Passes-each}
use Rattle.mb_frames.specs.Resolved.{keys_of}
use Rattle.mb_frames.specs.declared.machine.Halt.TheVariants.{Spent as SpentHalt}
use Rattle.mb_model.specs.Meaning.{finished}
use Rattle.mb_model.specs.Objects.Methods.{list_keys, ordinary}
use Rattle.mb_model.specs.Task.{Keys, OwnPropertyKeys}
use Rattle.mb_model.specs.Writing.{give, pay_each}
use Rattle.mb_world.specs.Image.{Image, key_in, names_of, object_in}

pub returns-in-Ok-clause-part : goal.returns-in-Ok-clause-part
returns-in-Ok-clause-part c = λ home t e.
    let d = c.args.w.now in
    let n = names_of d in
    let v = c.args.viewer.0 in
    let found = c.in_ok-found.found.items in
    let ks = keys_of n found in
    let f = c.args.fuel.now in
    let f' = c.charge_each.new.fuel in
    let m = c.keys.result in
    let u : f' + length ks ≡ f = omega (arith, length-map found (key_in n), c.len.ensures, c.in-Ok.ensures.paid) in
    Part-by home (Ok m) d d f f' (ordinary home.0 v (object_in n c.args.object) t OwnPropertyKeys finished)
    (λ g. pay_each ks (λ a. give (Keys ks) finished) g)
    (λ log. ap (λ z. list_keys z finished (Image d log)) (sym (c.in_ok-found.ensures.keys t e)))
    (Part-passed home (Ok m) d d d f f' f' (λ g. pay_each ks (λ a. give (Keys ks) finished) g) (give (Keys ks) finished)
    (Passes-each d ks f f' (λ a. give (Keys ks) finished) u)
    (Part-sure home d f' (give (Keys ks) finished) m (c.keys.ensures.sure home d c.in_ok-found.ensures.within)))

pub returns-in-Ok-clause-leaves : goal.returns-in-Ok-clause-leaves
returns-in-Ok-clause-leaves c = λ home.
    let d = c.args.w.now in
    c.keys.ensures.leaves home d (keys-held d home c.in_ok-found.found.items c.in_ok-found.ensures.within, tt)

pub returns-in-Err-clause-part : goal.returns-in-Err-clause-part
returns-in-Err-clause-part c = λ home t e.
    let d = c.args.w.now in
    let n = names_of d in
    let v = c.args.viewer.0 in
    let found = c.in_ok-found.found.items in
    let ks = keys_of n found in
    let f = c.args.fuel.now in
    let u : f < length ks = omega (arith, length-map found (key_in n), c.len.ensures, c.in-Err.ensures.spent.0 refl) in
    rw c.in-Err.ensures.left
    (Part-by home (Err SpentHalt) d d f 0 (ordinary home.0 v (object_in n c.args.object) t OwnPropertyKeys finished)
    (λ g. pay_each ks (λ a. give (Keys ks) finished) g)
    (λ log. ap (λ z. list_keys z finished (Image d log)) (sym (c.in_ok-found.ensures.keys t e)))
    (Part-each home d ks f (λ a. give (Keys ks) finished) u))
