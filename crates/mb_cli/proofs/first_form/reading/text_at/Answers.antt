use Rattle.std.proofs.Common.{arith, ap, ◌∙◌, ◌≡◌, ◌<◌, ◌≤◌, ◌+◌, length, take, Some}
use Rattle.std.specs.List.{slice_get}
use Rattle.std.specs.List.{prefix_len}
use Rattle.mb_text.specs.Spelling.{is_plain}
use Rattle.mb_cli.proofs.first_form.Quoted.{inside_of, length-inside, no_quote_end, no_quote_other, quoted_stands}
use Rattle.mb_cli.proofs.first_form.Runs.{prefix_len-le}
use Rattle.mb_cli.proofs.first_form.reading.text_at.Goals as goal
use Rattle.mb_cli.proofs.first_form.reading.text_at.Goals.{then-count-inside-via-then-count-inside, then-count-inside-via-else-count-inside+then-inside-count-ne34}

pub bounds-inside-count : goal.bounds-inside-count
bounds-inside-count c =
    let most = prefix_len-le is_plain (inside_of c.args.bytes.now) in
    omega (arith, most, c.plain_len-count.ensures, c.if-count-inside.false)

pub returns-then-count-inside-clause-other : goal.returns-then-count-inside-clause-other
returns-then-count-inside-clause-other c r units rest s =
    let most = prefix_len-le is_plain (inside_of c.args.bytes.now) in
    let count = c.plain_len-count.ensures in
    elim c.then-count-inside.branch [
      | then-count-inside-via-then-count-inside w ↦ no_quote_end c.args.bytes.now units rest (omega (arith, count, w.if-count-inside.true)) s
      | then-count-inside-via-else-count-inside+then-inside-count-ne34 w ↦
          no_quote_other c.args.bytes.now units rest (omega (arith, most, count, w.if-count-inside.false)) (rw count at w.if-inside-count-ne34.true) s
    ]

pub returns-in-Ok-clause-stands : goal.returns-in-Ok-clause-stands
returns-in-Ok-clause-stands c =
    let inside = inside_of c.args.bytes.now in
    let k = prefix_len is_plain inside in
    let most = prefix_len-le is_plain inside in
    let count : c.plain_len-count.result ≡ k = c.plain_len-count.ensures in
    let lt : k < length inside = omega (arith, most, count, c.if-count-inside.false) in
    let long : k + 2 ≤ length c.args.bytes.now = omega (arith, lt, length-inside c.args.bytes.now) in
    let stands = quoted_stands c.args.bytes.now c.requires.some c.requires.quote lt (rw count at c.if-inside-count-ne34.false) in
    let text : slice_get c.intern.new.self c.in-Ok.id.0 ≡ Some (take k inside) = c.in-Ok.ensures.text ∙ ap Some (c.deref.ensures.value ∙ c.in_ok-units.ensures ∙ ap (λ n. take n inside) count) in
    rw count ((take k inside, text, long, stands))
