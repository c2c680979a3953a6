use Rattle.std.proofs.Common.{List, ap, drop, map, subst, sym, true, ◌+◌, ◌∙◌, ◌≡◌}
use Rattle.std.proofs.lemmas.Result.{err_from_is_err_and}
use Rattle.mb_model.specs.Story.{Stage, is_spent, letters, one_turn}
use Rattle.mb_model.specs.Story as story
use Rattle.mb_story.proofs.Going.{part-of-word, side-within, word-on, word-spent}
use Rattle.mb_story.proofs.Jobs.{is-unspent}
use Rattle.mb_story.proofs.Turning.{begun-by}
use Rattle.mb_story.specs.Running.{letter_of}
use Rattle.mb_story.specs.machine.Telling.{Scene, Stands, Sunk, scene, sunk}
use Rattle.mb_story.proofs.schedule.tell_schedule.Goals as goal

pub tell_turn-requires-clause-side : goal.tell_turn-requires-clause-side
tell_turn-requires-clause-side g c =
    rw c.loop-letter.invariant.sides
    (side-within c.args.w.now.sides c.args.schedule.now c.loop-letter.letter-index _ c.side.result
    c.loop-letter-test.true c.side.ensures c.requires.sides)

pub returns-in_err-ending-clause-told : goal.returns-in_err-ending-clause-told
returns-in_err-ending-clause-told g c = λ start t h.
    let p = err_from_is_err_and c.from_residual.result c.from_residual.ensures.1 in
    let at = c.loop-letter in
    let was = at.invariant.told start t h in
    let u : Stage = was.0 in
    let word : List story.Letter = map letter_of c.args.schedule.now in
    let rest : List story.Letter = drop (at.letter-index + 1) word in
    let then : Stage = one_turn u c.side.result.0 in
    let on : letters rest then ≡ letters word t =
    sym (word-on c.args.schedule.now at.letter-index _ c.side.result u c.loop-letter-test.true c.side.ensures
    (ap is_spent was.2.ended ∙ at.invariant.unspent)) ∙ was.1 in
    let new : Sunk = sunk (g.K.Sink.taken c.tell_turn.new.sink) (g.K.Sink.room c.tell_turn.new.sink) in
    rw (p.1, p.2) (part-of-word c.args.style start.sink new c.in_err-ending.field-0.0 rest then (letters word t) on
    (c.in_err-ending.ensures.told start u was.2))

pub returns-then-is_spent-clause-told : goal.returns-then-is_spent-clause-told
returns-then-is_spent-clause-told g c = λ start t h.
    let at = c.loop-letter in
    let was = at.invariant.told start t h in
    let u : Stage = was.0 in
    let word : List story.Letter = map letter_of c.args.schedule.now in
    let rest : List story.Letter = drop (at.letter-index + 1) word in
    let then : Stage = one_turn u c.side.result.0 in
    let on : letters rest then ≡ letters word t =
    sym (word-on c.args.schedule.now at.letter-index _ c.side.result u c.loop-letter-test.true c.side.ensures
    (ap is_spent was.2.ended ∙ at.invariant.unspent)) ∙ was.1 in
    let now : Scene =
    scene c.tell_turn.new.w c.tell_turn.new.fuel (g.K.Sink.taken c.tell_turn.new.sink)
    (g.K.Sink.room c.tell_turn.new.sink) (g.D.Driver.ran c.tell_turn.new.driver) in
    let stands : Stands c.args.style start now c.in_ok-ending.ending then =
    c.in_ok-ending.ensures.told start u was.2 in
    let spent : is_spent then.ending ≡ true =
    ap is_spent stands.ended ∙ sym c.is_spent.ensures ∙ c.if-is_spent.true in
    subst (Stands c.args.style start now c.in_ok-ending.ending) (word-spent rest then (letters word t) on spent) stands

pub loop-letter-preserved : goal.loop-letter-preserved
loop-letter-preserved g c =
    let at = c.loop-letter in
    let e = c.in_ok-ending in
    let unspent = sym c.is_spent.ensures ∙ c.if-is_spent.false in
    let b = begun-by e.ending c.tell_turn.new.w (is-unspent e.ending unspent) e.ensures.leaves in
    record {
      begun = b.0;
      running = b.1;
      unspent = unspent;
      joined = c.tell_turn.ensures.same.0 ∙ at.invariant.joined;
      sides = c.tell_turn.ensures.same.1 ∙ at.invariant.sides;
      faults = e.ensures.faults ∙ at.invariant.faults;
      told = λ start t h.
          let was = at.invariant.told start t h in
          let u : Stage = was.0 in
          let word : List story.Letter = map letter_of c.args.schedule.now in
          let on : letters (drop (at.letter-index + 1) word) (one_turn u c.side.result.0) ≡ letters word t =
          sym (word-on c.args.schedule.now at.letter-index _ c.side.result u c.loop-letter-test.true c.side.ensures
          (ap is_spent was.2.ended ∙ at.invariant.unspent)) ∙ was.1 in
          (one_turn u c.side.result.0, on, e.ensures.told start u was.2);
    }
