use Rattle.std.proofs.Common.{◌≡◌, ◌∙◌, sym, ap, string_bytes, refl, rules, arith, Err}
use Rattle.mb_words.specs.machine.Scanning.{state_of}
use Rattle.mb_words.proofs.Turns.{fails, ends, waits_on}
use Rattle.mb_words.proofs.scan.scan.Goals as goal

pub returns-in_err-state : goal.returns-in_err-state
returns-in_err-state c =
    let is : c.from_residual.result ≡ Err c.in_err-state.field-0.0 = search rules in
    rw is (fails c.args.names.now c.args.words.now c.loop-word.word-index _ (state_of c.loop-word.state) c.in_err-state.field-0.0
    (omega arith) c.loop-word.invariant c.as_str.result.now (c.as_str.ensures.value ∙ ap string_bytes c.word-item.is) c.in_err-state.ensures)

pub returns-then-is_some : goal.returns-then-is_some
returns-then-is_some c = (
  refl,
  waits_on c.args.names.now c.args.words.now c.loop-word.word-index (state_of c.loop-word.state) (omega arith)
      c.loop-word.invariant (sym c.is_some.ensures ∙ c.if-is_some.true),
)

pub returns : goal.returns
returns c = ends c.args.names.now c.args.words.now c.loop-word.word-index (state_of c.loop-word.state) (omega arith)
    c.loop-word.invariant (sym c.is_some.ensures ∙ c.if-is_some.false)
