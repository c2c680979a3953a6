use Rattle.std.specs.List.{filter}
use Rattle.std.proofs.Common.{◌+◌, ◌<◌, ◌≡◌, List, ap, length, map, refl, sym, ◌∙◌}
use Rattle.std.proofs.lemmas.Result.{err_from_is_err_and}
use Rattle.std.proofs.lemmas.List.Elements.{All-filter}
use Rattle.mb_frames.proofs.Passed.{Part-by}
use Rattle.mb_frames.specs.Resolved.{keys_of, values_in}
use Rattle.mb_frames.specs.Sorts.{AValue}
use Rattle.mb_model.specs.BuiltIns.Arguments.{array_of}
use Rattle.mb_model.specs.Meaning.{finished}
use Rattle.mb_model.specs.Writing.{Row}
use Rattle.mb_props.specs.KeyOrder.{is_symbol}
use Rattle.mb_reflect.proofs.Doing.{halted}
use Rattle.mb_reflect.proofs.Each.{done-each, done-not-each}
use Rattle.mb_reflect.proofs.Listed.{symbols-are, values-are, values-held}
use Rattle.mb_reflect.proofs.listing.symbols_listed.Goals as goal
use Rattle.mb_reflect.specs.machine.Listing.{value_for}
use Rattle.mb_world.specs.Graph.{Graph}
use Rattle.mb_world.specs.Ids.{KeyIn}
use Rattle.mb_world.specs.Image.{Image, names_of}
use Rattle.mb_world.specs.Key.{symbols_only, value_of_key}
use Rattle.mb_world.specs.Value.{Val}

pub returns-in_err-charge_each-clause-part : goal.returns-in_err-charge_each-clause-part
returns-in_err-charge_each-clause-part c =
    let d = c.args.w.now in
    let home = c.args.home in
    let keys = c.args.keys.now in
    let p = err_from_is_err_and c.from_residual.result c.from_residual.ensures.1 in
    let u : c.args.fuel.now < length keys = rw c.items.ensures at c.in_err-charge_each.ensures.spent.0 refl in
    rw (p.1, p.2, c.in_err-charge_each.ensures.left)
    (done-not-each home d keys (array_of home.0 (map value_of_key (symbols_only (keys_of (names_of d) keys))) finished)
    c.requires.acts.ready c.args.fuel.now u).part

pub returns-in_err-charge_each-clause-keeps : goal.returns-in_err-charge_each-clause-keeps
returns-in_err-charge_each-clause-keeps c =
    let p = err_from_is_err_and c.from_residual.result c.from_residual.ensures.1 in
    rw p.1 (halted c.args.home AValue p.0 c.args.w.now c.requires.acts.ready)

pub returns-in_err-symbols-clause-keeps : goal.returns-in_err-symbols-clause-keeps
returns-in_err-symbols-clause-keeps c =
    let p = err_from_is_err_and c.from_residual-in_err-symbols.result c.from_residual-in_err-symbols.ensures.1 in
    rw p.1 (halted c.args.home AValue p.0 c.args.w.now c.requires.acts.ready)

pub returns-in_err-values-clause-keeps : goal.returns-in_err-values-clause-keeps
returns-in_err-values-clause-keeps c =
    let p = err_from_is_err_and c.from_residual-in_err-values.result c.from_residual-in_err-values.ensures.1 in
    rw p.1 (halted c.args.home AValue p.0 c.args.w.now c.requires.acts.ready)

pub array_of-requires : goal.array_of-requires
array_of-requires c =
    let d = c.args.w.now in
    let home = c.args.home in
    let keys = c.args.keys.now in
    let a = c.requires.acts in
    record {
      acts = record {
        ready = a.ready;
        side = a.side;
        holds = rw (
          c.deref-2.ensures.value,
          c.in_ok-values.ensures,
          c.deref.ensures.value,
          c.in_ok-symbols.ensures,
          c.items-2.ensures,
        )
            (values-held d home (filter is_symbol keys) (All-filter is_symbol (KeyIn d) keys a.holds.0.within), tt);
      };
    }

pub returns-clause-part : goal.returns-clause-part
returns-clause-part c =
    let d = c.args.w.now in
    let d1 = c.array_of.new.w in
    let n = names_of d in
    let home = c.args.home in
    let keys = c.args.keys.now in
    let f = c.args.fuel.now in
    let f1 = c.charge_each.new.fuel in
    let row : List Val → Graph → Row = λ vs. array_of home.0 vs finished in
    let values = map value_of_key (symbols_only (keys_of (names_of d) keys)) in
    let u : f1 + length keys ≡ f = rw c.items.ensures at c.in_ok-charge_each.ensures.paid in
    let e = rw (
      c.deref-2.ensures.value,
      c.in_ok-values.ensures,
      c.deref.ensures.value,
      c.in_ok-symbols.ensures,
      c.items-2.ensures,
    )
    at c.array_of.ensures.part f1 in
    (done-each home d keys (row values) c.requires.acts.ready c.array_of.result d1 f f1 f1 u
    (record {
      part = Part-by home c.array_of.result d d1 f1 f1 (row values) (row (values_in n (map value_for (filter is_symbol
          keys))))
          (λ log. ap (λ (vs : List Val). row vs (Image d log)) (sym (values-are n (filter is_symbol keys) ∙ ap (map
          value_of_key) (symbols-are n keys)))) e;
      keeps = c.array_of.ensures.keeps;
    })).part
