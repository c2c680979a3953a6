use Rattle.std.specs.List.{filter}
use Rattle.std.proofs.Common.{List, [], ap, not, sym}
use Rattle.std.proofs.lemmas.Result.{err_from_is_err_and}
use Rattle.mb_frames.proofs.HeldLess.{values-none}
use Rattle.mb_frames.proofs.Passed.{Part-by}
use Rattle.mb_frames.specs.Resolved.{keys_of}
use Rattle.mb_frames.specs.Sorts.{AValue}
use Rattle.mb_model.specs.BuiltIns.ObjectMembers.{enumerable_keys}
use Rattle.mb_model.specs.Meaning.{finished}
use Rattle.mb_model.specs.Writing.{Row}
use Rattle.mb_props.specs.KeyOrder.{is_symbol}
use Rattle.mb_reflect.proofs.Doing.{halted}
use Rattle.mb_reflect.proofs.Listed.{texts-are, texts-held}
use Rattle.mb_reflect.proofs.listing.keys_listed.Goals as goal
use Rattle.mb_world.specs.Graph.{Graph}
use Rattle.mb_world.specs.Image.{Image, names_of, object_in}
use Rattle.mb_world.specs.Key.{PropertyKey, texts_only}

pub returns-in_err-texts_only-clause-keeps : goal.returns-in_err-texts_only-clause-keeps
returns-in_err-texts_only-clause-keeps c =
    let p = err_from_is_err_and c.from_residual.result c.from_residual.ensures.1 in
    rw p.1 (halted c.args.home AValue p.0 c.args.w.now c.requires.acts.ready)

pub enumerate_from-requires : goal.enumerate_from-requires
enumerate_from-requires c =
    let d = c.args.w.now in
    let home = c.args.home in
    let a = c.requires.acts in
    record {
      acts = record {
        ready = a.ready;
        side = a.side;
        holds = rw (c.from-texts.ensures, c.in_ok-texts_only.ensures, c.items.ensures, c.new-none.ensures)
            (a.holds.0, (texts-held d home c.args.keys.now a.holds.1.0, (values-none d home, tt)));
      };
    }

pub returns-clause-part : goal.returns-clause-part
returns-clause-part c =
    let d = c.args.w.now in
    let n = names_of d in
    let home = c.args.home in
    let keys = c.args.keys.now in
    let row : List PropertyKey → Graph → Row = λ ks. enumerable_keys home.0 (object_in n c.args.object) [] ks finished
    in
    let e = rw (c.from-texts.ensures, c.in_ok-texts_only.ensures, c.items.ensures, c.new-none.ensures)
    at c.enumerate_from.ensures.part in
    Part-by home c.enumerate_from.result d c.enumerate_from.new.w c.args.fuel.now c.enumerate_from.new.fuel
    (row (texts_only (keys_of n keys))) (row (keys_of n (filter (λ key. not (is_symbol key)) keys)))
    (λ log. ap (λ (ks : List PropertyKey). row ks (Image d log)) (sym (texts-are n keys))) e
