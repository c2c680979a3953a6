use Rattle.std.proofs.Common.{ap, arith, inl, refl, sym, ℕ, ◌%◌, ◌+◌, ◌<◌, ◌∙◌, ◌≡◌}
use Rattle.std.proofs.lemmas.Result.{err_from_is_err_and}
use Rattle.mb_base.specs.declared.value.Side.{Side}
use Rattle.mb_model.specs.Story.{Stage, is_spent, one_turn}
use Rattle.mb_story.proofs.Going.{fell-behind, fell-on, gone-last, gone-on, part-of-round, round-first, round-on, round-start}
use Rattle.mb_story.proofs.Jobs.{is-unspent, spent-is, unspent}
use Rattle.mb_story.proofs.Turning.{begun-by, goes-on}
use Rattle.mb_story.specs.machine.Telling.{Leads, Scene, Sunk, scene, sunk}
use Rattle.mb_story.proofs.rounds.tell_round.Goals as goal

pub loop-side-init : goal.loop-side-init
loop-side-init g c = record {
  begun = c.requires.begun;
  running = c.requires.running;
  unspent = unspent c.args.ending c.requires.unspent;
  joined = refl;
  sides = refl;
  faults = refl;
  falls = inl (λ side l. absurd (omega (arith, l)), refl, refl);
  told = λ start t h. (t, round-start t c.args.w.now.sides (omega (arith, c.requires.jobs.1)), h);
}

pub tell_turn-requires-clause-side : goal.tell_turn-requires-clause-side
tell_turn-requires-clause-side g c =
    omega (arith, c.loop-side-test.true, c.sides-side-end.ensures, c.loop-side.invariant.sides)

pub returns-in_err-after-clause-told : goal.returns-in_err-after-clause-told
returns-in_err-after-clause-told g c = λ start t h.
    let p = err_from_is_err_and c.from_residual.result c.from_residual.ensures.1 in
    let at = c.loop-side in
    let was = at.invariant.told start t h in
    let u : Stage = was.0 in
    let k : ℕ = c.args.w.now.sides in
    let below : at.side < k = omega (arith, c.loop-side-test.true, c.sides-side-end.ensures) in
    let on : Leads t 0 (one_turn u at.side) ((at.side + 1) % k) =
    round-on t u at.side k was.1 below (ap is_spent was.2.ended ∙ at.invariant.unspent)
    (was.2.queues ∙ at.invariant.sides) in
    let new : Sunk = sunk (g.K.Sink.taken c.tell_turn.new.sink) (g.K.Sink.room c.tell_turn.new.sink) in
    rw (p.1, p.2) (part-of-round c.args.style start.sink new c.in_err-after.field-0.0 t (one_turn u at.side)
    ((at.side + 1) % k) on (c.in_err-after.ensures.told start u was.2))

pub returns-then-is_spent-clause-told : goal.returns-then-is_spent-clause-told
returns-then-is_spent-clause-told g c = λ start t h.
    let at = c.loop-side in
    let was = at.invariant.told start t h in
    let u : Stage = was.0 in
    let k : ℕ = c.args.w.now.sides in
    let below : at.side < k = omega (arith, c.loop-side-test.true, c.sides-side-end.ensures) in
    let on : Leads t 0 (one_turn u at.side) ((at.side + 1) % k) =
    round-on t u at.side k was.1 below (ap is_spent was.2.ended ∙ at.invariant.unspent)
    (was.2.queues ∙ at.invariant.sides) in
    let now : Scene =
    scene c.tell_turn.new.w c.tell_turn.new.fuel (g.K.Sink.taken c.tell_turn.new.sink)
    (g.K.Sink.room c.tell_turn.new.sink) (g.D.Driver.ran c.tell_turn.new.driver) in
    gone-last c.args.style start now c.in_ok-after.after t (one_turn u at.side) ((at.side + 1) % k) on
    (c.in_ok-after.ensures.told start u was.2)
    (spent-is c.in_ok-after.after (sym c.is_spent.ensures ∙ c.if-is_spent.true))

pub loop-side-preserved : goal.loop-side-preserved
loop-side-preserved g c =
    let at = c.loop-side in
    let e = c.in_ok-after in
    let goes = sym c.is_spent.ensures ∙ c.if-is_spent.false in
    let b = begun-by e.after c.tell_turn.new.w (is-unspent e.after goes) e.ensures.leaves in
    let side : Side = record { 0 = at.side } in
    record {
      begun = b.0;
      running = b.1;
      unspent = goes;
      joined = c.tell_turn.ensures.same.0 ∙ at.invariant.joined;
      sides = c.tell_turn.ensures.same.1 ∙ at.invariant.sides;
      faults = e.ensures.faults ∙ at.invariant.faults;
      falls = fell-on c.args.w.now at.w c.tell_turn.new.w c.args.fuel.now at.fuel c.tell_turn.new.fuel at.side side
          e.after refl goes at.invariant.falls e.ensures.falls;
      told = λ start t h.
          let was = at.invariant.told start t h in
          let u : Stage = was.0 in
          let k : ℕ = c.args.w.now.sides in
          let below : at.side < k = omega (arith, c.loop-side-test.true, c.sides-side-end.ensures) in
          let on : Leads t 0 (one_turn u at.side) ((at.side + 1) % k) =
          round-on t u at.side k was.1 below (ap is_spent was.2.ended ∙ at.invariant.unspent)
          (was.2.queues ∙ at.invariant.sides) in
          (one_turn u at.side, on, e.ensures.told start u was.2);
    }

pub returns-clause-told : goal.returns-clause-told
returns-clause-told g c = λ start t h.
    let at = c.loop-side in
    let was = at.invariant.told start t h in
    let k : ℕ = c.args.w.now.sides in
    let end : at.side ≡ k =
    omega (arith, c.loop-side-test.false, at.auto.side-end, c.sides-side-end.ensures) in
    let now : Scene =
    scene at.w at.fuel (g.K.Sink.taken at.sink) (g.K.Sink.room at.sink) (g.D.Driver.ran at.driver) in
    gone-on c.args.style start now at.after t was.0 at.invariant.unspent (round-first t was.0 at.side k was.1 end) was.2

pub returns-clause-leaves : goal.returns-clause-leaves
returns-clause-leaves g c =
    let at = c.loop-side in
    goes-on at.after at.w (is-unspent at.after at.invariant.unspent) at.invariant.begun at.invariant.running

pub returns-clause-falls : goal.returns-clause-falls
returns-clause-falls g c =
    let at = c.loop-side in
    let end : at.side ≡ c.args.w.now.sides =
    omega (arith, c.loop-side-test.false, at.auto.side-end, c.sides-side-end.ensures) in
    fell-behind at.after c.args.w.now at.w c.args.fuel.now at.fuel at.side end c.requires.jobs at.invariant.falls
