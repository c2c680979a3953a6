use Rattle.std.proofs.Common.{List, ap, drop, sym}
use Rattle.std.proofs.lemmas.Result.{err_from_is_err_and}
use Rattle.mb_frames.proofs.Passed.{Part-by}
use Rattle.mb_frames.specs.Resolved.{keys_of, real_in, values_in}
use Rattle.mb_frames.specs.Sorts.{AValue}
use Rattle.mb_model.specs.BuiltIns.ObjectMembers.{enumerable_keys, with_key}
use Rattle.mb_model.specs.Meaning.{finished}
use Rattle.mb_model.specs.Writing.{Row}
use Rattle.mb_reflect.proofs.Doing.{halted}
use Rattle.mb_reflect.proofs.listing.key_read.Goals as goal
use Rattle.mb_world.specs.Graph.{Graph}
use Rattle.mb_world.specs.Image.{Image, key_in, names_of, object_in}
use Rattle.mb_world.specs.Value.{Val}

pub returns-in_err-found-clause-keeps : goal.returns-in_err-found-clause-keeps
returns-in_err-found-clause-keeps c =
    let p = err_from_is_err_and c.from_residual.result c.from_residual.ensures.1 in
    rw p.1 (halted c.args.home AValue p.0 c.args.w.now c.requires.acts.ready)

pub enumerate_from-requires : goal.enumerate_from-requires
enumerate_from-requires c =
    let a = c.requires.acts in
    let h = a.holds in
    record {
      acts = record {
        ready = a.ready;
        side = a.side;
        holds = (h.0, (h.1.1.0, c.in_ok-found.ensures.holds c.args.w.now c.args.home (h.1.0, (h.1.1.1.0, tt))));
      };
    }

pub returns-clause-part : goal.returns-clause-part
returns-clause-part c =
    let d = c.args.w.now in
    let n = names_of d in
    let home = c.args.home in
    let ks = drop c.args.next (keys_of n c.args.keys) in
    let row : List Val → Graph → Row =
    λ vs. enumerable_keys home.0 (object_in n c.args.object) vs ks finished in
    Part-by home c.enumerate_from.result d c.enumerate_from.new.w c.args.fuel.now c.enumerate_from.new.fuel
    (row (with_key (key_in n c.args.key) (values_in n c.args.found) (real_in n c.args.property)))
    (row (values_in n c.in_ok-found.found))
    (λ log. ap (λ (vs : List Val). row vs (Image d log)) (sym (c.in_ok-found.ensures.found n)))
    c.enumerate_from.ensures.part
