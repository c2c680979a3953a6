use Rattle.std.proofs.Common.{Option, ap, option_map, sym, ◌∙◌}
use Rattle.std.proofs.lemmas.Option.{slice_get-map}
use Rattle.std.specs.Prelude.{unwrap_or}
use Rattle.mb_base.specs.declared.value.Value.{Value}
use Rattle.mb_frames.proofs.HeldLess.{values-each}
use Rattle.mb_frames.specs.Held.{HeldValue}
use Rattle.mb_frames.specs.Ready.{MayHold}
use Rattle.mb_scriptproxy.proofs.making.argument.Goals as goal
use Rattle.mb_world.proofs.Grow.{All-at}
use Rattle.mb_world.specs.Image.{Resolve}
use Rattle.mb_world.specs.Value.{Undefined, Val}

pub returns-in-Some-clause-held : goal.returns-in-Some-clause-held
returns-in-Some-clause-held c = λ d home h.
    let xs = c.args.arguments.now in
    All-at (λ (x : Value). MayHold d home (HeldValue x)) xs c.args.place c.in-Some.x (sym c.at.ensures ∙ c.in-Some.is)
    (values-each d home xs h)

pub returns-in-None-clause-means : goal.returns-in-None-clause-means
returns-in-None-clause-means c = λ n.
    ap (λ (o : Option Val). unwrap_or o Undefined)
    (slice_get-map (Resolve n) c.args.arguments.now c.args.place
    ∙ ap (option_map (Resolve n)) (sym c.at.ensures ∙ c.in-None.is))
