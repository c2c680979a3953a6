use Rattle.std.proofs.Common.{ap, arith, length, sym, true≢false, ℕ, ◌∙◌, ◌≡◌, deque_len}
use Rattle.std.specs.Prelude.{◌==◌}
use Rattle.mb_base.specs.declared.value.Side.{Side}
use Rattle.mb_story.proofs.rounds.has_jobs.Goals as goal

pub returns-then-not-is_empty-clause-some : goal.returns-then-not-is_empty-clause-some
returns-then-not-is_empty-clause-some c = λ e.
    let side : Side = record { 0 = c.loop-side.side } in (
      side,
      omega (arith, c.loop-side-test.true, c.sides-side-end.ensures),
      λ q.
          let none : length c.jobs.result.now.items ≡ 0 = ap length (c.jobs.ensures ∙ q) in
          let long = c.jobs.result.now.ok.0 in
          let zero : deque_len c.jobs.result.now ≡ 0 = omega (arith, none, long) in
          absurd (true≢false (sym (ap (λ (n : ℕ). n == 0) zero) ∙ sym c.is_empty.ensures ∙ c.if-not-is_empty.true)),
    )
