use Rattle.std.proofs.Common.{arith, sym, ap, subst, refl, ◌≡◌, ◌<◌, ◌≤◌, ◌-◌, length, take, drop, get_or, true, false}
use Rattle.std.specs.Prelude.{Err}
use Rattle.std.proofs.lemmas.Grind.{common_steps}
use Rattle.std.proofs.lemmas.Result.{err_from_is_err_and}
use Rattle.mb_text.proofs.Kept.{keeps_ids_more}
use Rattle.mb_cli.specs.declared.first_form.reading.LexFault.TheVariants.{Other}
use Rattle.mb_cli.specs.first_form.Lexemes.{is_gap, IsAtFront}
use Rattle.mb_cli.proofs.first_form.Progress.{progress_gap, progress_token, progress_end, progress_stops, here_is}
use Rattle.mb_cli.proofs.first_form.Steps.{stands-shorter}
use Rattle.mb_cli.proofs.first_form.reading.lex.Goals as goal
use Rattle.mb_cli.proofs.first_form.reading.lex.Goals.{then-byte-eq32-via-then-byte-eq32, then-byte-eq32-via-else-byte-eq32+then-byte-eq10}

pub loop-at-preserved-then-byte-eq32 : goal.loop-at-preserved-then-byte-eq32
loop-at-preserved-then-byte-eq32 c =
    let lt : c.loop-at.at < length c.args.bytes.now = c.loop-at-test.true in
    let is : is_gap (get_or c.args.bytes.now c.loop-at.at 0) ≡ true = elim c.then-byte-eq32.branch [
      | then-byte-eq32-via-then-byte-eq32 w ↦ ap is_gap w.if-byte-eq32.true
      | then-byte-eq32-via-else-byte-eq32+then-byte-eq10 w ↦ ap is_gap w.if-byte-eq10.true
    ] in
    record {
      within = omega (arith, lt);
      ids = c.loop-at.invariant.ids;
      progress = progress_gap c.args.bytes.now c.loop-at.texts c.loop-at.tokens.items c.loop-at.at c.loop-at.after_line lt is c.loop-at.invariant.progress;
    }

pub returns-in_err-token-clause-other : goal.returns-in_err-token-clause-other
returns-in_err-token-clause-other c r =
    let lt : c.loop-at.at < length c.args.bytes.now = c.loop-at-test.true in
    let here = here_is c.args.bytes.now c.loop-at.at in
    let p = err_from_is_err_and c.from_residual.result c.from_residual.ensures.1 in
    let same : c.in_err-token.field-0.0 ≡ Other = cc (p.1, p.2, r) in
    let is : is_gap (get_or c.args.bytes.now c.loop-at.at 0) ≡ false = grind (arith, common_steps, c.if-byte-eq32.false, c.if-byte-eq10.false) in
    progress_stops c.args.bytes.now c.loop-at.texts c.loop-at.tokens.items c.loop-at.at c.loop-at.after_line lt is
    (λ token rest s. c.in_err-token.ensures.other (ap Err same) token rest (subst (λ x. IsAtFront token x rest) (sym here) s)) c.loop-at.invariant.progress

pub loop-at-smaller : goal.loop-at-smaller
loop-at-smaller c =
    let found = c.in_ok-token.ensures.stands in
    let shorter = stands-shorter found.0 (take (length c.args.bytes.now - c.loop-at.at) (drop c.loop-at.at c.args.bytes.now)) (drop c.in_ok-token.count (take (length c.args.bytes.now - c.loop-at.at) (drop c.loop-at.at c.args.bytes.now))) found.3 in
    let lt : c.loop-at.at < length c.args.bytes.now = c.loop-at-test.true in
    let some : 0 < c.in_ok-token.count = grind (arith, common_steps, shorter) in
    omega (arith, lt, some)

pub loop-at-preserved : goal.loop-at-preserved
loop-at-preserved c =
    let found = c.in_ok-token.ensures.stands in
    let here = here_is c.args.bytes.now c.loop-at.at in
    let le : c.in_ok-token.count ≤ length (drop c.loop-at.at c.args.bytes.now) = subst (λ x. c.in_ok-token.count ≤ length x) here found.2 in
    let stands = subst (λ x. IsAtFront found.0 x (drop c.in_ok-token.count x)) here found.3 in
    record {
      within = grind (arith, common_steps, le, c.loop-at-test.true);
      ids = keeps_ids_more _ _ _ c.loop-at.invariant.ids c.in_ok-token.ensures.ids;
      progress = rw c.in_ok-push.ensures.items (progress_token c.args.bytes.now c.loop-at.texts c.token_at.new.texts c.loop-at.tokens.items c.loop-at.at c.in_ok-token.count c.loop-at.after_line found.0 _
          c.in_ok-token.ensures.ids le stands (record { token = found.1; from = refl; to = refl; after_line = refl }) c.loop-at.invariant.progress);
    }

pub returns-clause-tokens : goal.returns-clause-tokens
returns-clause-tokens c = progress_end c.args.bytes.now c.loop-at.texts c.loop-at.tokens.items c.loop-at.at c.loop-at.after_line c.loop-at-test.false c.loop-at.invariant.progress
