use Rattle.std.proofs.Common.{refl, ◌∙◌}
use Rattle.std.proofs.lemmas.Result.{err_from_is_err_and}
use Rattle.mb_story.proofs.Going.{gone-from, gone-start, gone-then, over-at, part-then, round-less}
use Rattle.mb_story.proofs.Jobs.{is-unspent}
use Rattle.mb_story.proofs.Turning.{begun-by}
use Rattle.mb_story.specs.machine.Telling.{Scene, Sunk, scene, sunk}
use Rattle.mb_story.proofs.rounds.tell_rounds.Goals as goal

pub rounds-init : goal.rounds-init
rounds-init g c =
    let now : Scene =
    scene c.args.w.now c.args.fuel.now (g.K.Sink.taken c.args.sink.now) (g.K.Sink.room c.args.sink.now)
    (g.D.Driver.ran c.args.driver.now) in
    record {
      leaves = c.requires.leaves;
      joined = refl;
      sides = refl;
      faults = refl;
      told = λ start t h. gone-start c.args.style start now c.args.ending t h;
    }

pub tell_round-requires-clause-begun : goal.tell_round-requires-clause-begun
tell_round-requires-clause-begun g c =
    let at = c.rounds in
    let going = c.is_over.ensures.going c.rounds-test.true in
    (begun-by at.after at.w (is-unspent at.after going.0) at.invariant.leaves).0

pub tell_round-requires-clause-running : goal.tell_round-requires-clause-running
tell_round-requires-clause-running g c =
    let at = c.rounds in
    let going = c.is_over.ensures.going c.rounds-test.true in
    (begun-by at.after at.w (is-unspent at.after going.0) at.invariant.leaves).1

pub returns-in_err-after-clause-told : goal.returns-in_err-after-clause-told
returns-in_err-after-clause-told g c = λ start t h.
    let p = err_from_is_err_and c.from_residual.result c.from_residual.ensures.1 in
    let at = c.rounds in
    let going = c.is_over.ensures.going c.rounds-test.true in
    let now : Scene =
    scene at.w at.fuel (g.K.Sink.taken at.sink) (g.K.Sink.room at.sink) (g.D.Driver.ran at.driver) in
    let was = gone-from c.args.style start now at.after t going.0 (at.invariant.told start t h) in
    let new : Sunk = sunk (g.K.Sink.taken c.tell_round.new.sink) (g.K.Sink.room c.tell_round.new.sink) in
    rw (p.1, p.2) (part-then c.args.style start.sink new c.in_err-after.field-0.0 t was.0 was.1
    (c.in_err-after.ensures.told start was.0 was.2))

pub rounds-preserved : goal.rounds-preserved
rounds-preserved g c =
    let at = c.rounds in
    let e = c.in_ok-after in
    let going = c.is_over.ensures.going c.rounds-test.true in
    record {
      leaves = e.ensures.leaves;
      joined = c.tell_round.ensures.same.0 ∙ at.invariant.joined;
      sides = c.tell_round.ensures.same.1 ∙ at.invariant.sides;
      faults = e.ensures.faults ∙ at.invariant.faults;
      told = λ start t h.
          let now : Scene =
          scene at.w at.fuel (g.K.Sink.taken at.sink) (g.K.Sink.room at.sink) (g.D.Driver.ran at.driver) in
          let new : Scene =
          scene c.tell_round.new.w c.tell_round.new.fuel (g.K.Sink.taken c.tell_round.new.sink)
          (g.K.Sink.room c.tell_round.new.sink) (g.D.Driver.ran c.tell_round.new.driver) in
          let was = gone-from c.args.style start now at.after t going.0 (at.invariant.told start t h) in
          gone-then c.args.style start new e.after t was.0 was.1 (e.ensures.told start was.0 was.2);
    }

pub rounds-smaller : goal.rounds-smaller
rounds-smaller g c =
    let at = c.rounds in
    let going = c.is_over.ensures.going c.rounds-test.true in
    round-less at.after c.in_ok-after.after at.w c.tell_round.new.w at.fuel c.tell_round.new.fuel going.0
    c.in_ok-after.ensures.falls

pub returns-clause-told : goal.returns-clause-told
returns-clause-told g c = λ start t h.
    let at = c.rounds in
    let now : Scene =
    scene at.w at.fuel (g.K.Sink.taken at.sink) (g.K.Sink.room at.sink) (g.D.Driver.ran at.driver) in
    over-at c.args.style start now at.after t (c.is_over.ensures.over c.rounds-test.false) (at.invariant.told start t h)
