use Rattle.std.proofs.Common.{◌≡◌, ◌+◌, ◌++◌, length, Ok, ap, ◌∙◌, arith, length-append}
use Rattle.std.specs.Char.{len_utf8}
use Rattle.std.proofs.lemmas.Result.{err_from_is_err_and}
use Rattle.std.proofs.lemmas.Str.{length-encode, IsUtf8-past_char}
use lib.Utf8.{encode}
use Rattle.mb_text.proofs.Kept.{keeps_ids_more}
use Rattle.mb_lexer.specs.machine.Machine.{run, step, after_tokens}
use Rattle.mb_lexer.proofs.Seen.{gains_more}
use Rattle.mb_lexer.proofs.Fit.{step_fits}
use Rattle.mb_lexer.proofs.Driving.{told_more, told_stop, scalar_left, step_to, no_chars}
use Rattle.mb_lexer.proofs.unfinished.Unfinished.read.Goals as goal

-- the character's bytes are among those left
pub step-requires-clause-place : goal.step-requires-clause-place
step-requires-clause-place c =
    let p : c.loop-ch.self.to + length c.loop-ch.ch-iterator.rest.now ≡ c.args.self.now.to + length c.args.text.now = c.loop-ch.invariant.place in
    let e : length c.loop-ch.ch-iterator.rest.now ≡ length (encode c.in-Some.ch ++ c.next.new.self.rest.now) = ap length c.in-Some.ensures.steps.0 in
    omega (arith, e, p, c.requires.place, length-append (encode c.in-Some.ch) c.next.new.self.rest.now, length-encode c.in-Some.ch)

pub loop-ch-preserved : goal.loop-ch-preserved
loop-ch-preserved c =
    let t = c.loop-ch.invariant.told in
    let split : c.loop-ch.ch-iterator.rest.now ≡ encode c.in-Some.ch ++ c.next.new.self.rest.now = c.in-Some.ensures.steps.0 in
    let next : (step c.loop-ch.self c.in-Some.ch).next ≡ Ok c.step.new.self = c.in_ok-step.ensures.next in
    let p : c.loop-ch.self.to + length c.loop-ch.ch-iterator.rest.now ≡ c.args.self.now.to + length c.args.text.now = c.loop-ch.invariant.place in
    let e : length c.loop-ch.ch-iterator.rest.now ≡ length (encode c.in-Some.ch ++ c.next.new.self.rest.now) = ap length split in
    let to : c.step.new.self.to ≡ c.loop-ch.self.to + len_utf8 c.in-Some.ch = step_to c.loop-ch.self c.step.new.self c.in-Some.ch next in
    record {
      told = (
        t.0 ++ (step c.loop-ch.self c.in-Some.ch).tokens,
        gains_more _ _ _ _ _ _ t.0 (step c.loop-ch.self c.in-Some.ch).tokens t.1 c.in_ok-step.ensures.tokens,
        λ more. told_more _ t.0 c.loop-ch.self c.step.new.self c.in-Some.ch c.loop-ch.ch-iterator.rest.now c.next.new.self.rest.now more (t.2 more) c.loop-ch.invariant.utf8 split next,
      );
      fit = step_fits c.loop-ch.self c.step.new.self c.in-Some.ch (scalar_left _ _ c.in-Some.ch c.loop-ch.invariant.utf8 split) c.loop-ch.invariant.fit next;
      place = omega (arith, e, p, to, length-append (encode c.in-Some.ch) c.next.new.self.rest.now, length-encode c.in-Some.ch);
      utf8 = IsUtf8-past_char _ _ c.in-Some.ch c.loop-ch.invariant.utf8 split;
      texts = keeps_ids_more _ _ _ c.loop-ch.invariant.texts c.step.ensures.texts;
      distinct = λ d. c.step.ensures.distinct (c.loop-ch.invariant.distinct d);
    }

pub returns-in_err-step-clause-stops : goal.returns-in_err-step-clause-stops
returns-in_err-step-clause-stops c =
    let t = c.loop-ch.invariant.told in
    let p = err_from_is_err_and c.from_residual.result c.from_residual.ensures.1 in
    rw (p.1, p.2) (λ more. told_stop (Unit {0}) _ t.0 c.loop-ch.self c.step.new.self c.in-Some.ch c.loop-ch.ch-iterator.rest.now c.next.new.self.rest.now more c.in_err-step.field-0.0 (t.2 more) c.loop-ch.invariant.utf8 c.in-Some.ensures.steps.0 c.in_err-step.ensures.next)

pub returns-clause-passes : goal.returns-clause-passes
returns-clause-passes c =
    let t = c.loop-ch.invariant.told in
    (t.0, t.1, λ more. t.2 more ∙ ap (λ xs. after_tokens t.0 (run c.loop-ch.self (xs ++ more))) (no_chars c.loop-ch.ch-iterator.rest.now c.in-None.ensures.steps.0.0))
