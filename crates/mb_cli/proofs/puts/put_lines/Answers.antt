use Rattle.std.proofs.Common.{◌≡◌, ◌∙◌, ap, sym, Some, take, drop, length, append_assoc, arith, ◌++◌, ◌+◌, length-append}
use Rattle.std.specs.List.{concat}
use Rattle.mb_cli.specs.machine.Lines.{contents_of}
use Rattle.mb_cli.proofs.Texts.{front, front-more, front-rest, front-fits, front-split}
use Rattle.mb_cli.proofs.puts.put_lines.Goals as goal

pub returns-clause-front : goal.returns-clause-front
returns-clause-front g c taken told =
    let k = c.loop-line.line-index in
    (front k c.args.lines.now, (concat (contents_of (drop k c.args.lines.now)), front-rest c.args.lines.now k), c.loop-line.invariant.taken taken told)

pub returns-in-Failed-clause-front : goal.returns-in-Failed-clause-front
returns-in-Failed-clause-front g c taken told =
    let k = c.loop-line.line-index in
    let line = c.line-item.result in
    let done = front k c.args.lines.now in
    let put = rw (c.loop-line.invariant.taken taken told) at c.in-Failed.ensures.puts in (
      done ++ take put.0 line.items,
      (drop put.0 line.items ++ concat (contents_of (drop (k + 1) c.args.lines.now)), front-split c.args.lines.now k put.0 line c.loop-line-test.true c.line-item.is),
      put.1 ∙ ap (λ bytes. Some ((taken ++ done) ++ take put.0 bytes)) c.as_slice.ensures.value ∙ ap Some (append_assoc taken done (take put.0 line.items)),
    )

pub returns-in-Failed-clause-never : goal.returns-in-Failed-clause-never
returns-in-Failed-clause-never g c room told fits =
    let put = rw (c.loop-line.invariant.room room told fits) at c.in-Failed.ensures.fits in
    let within = front-fits c.args.lines.now c.loop-line.line-index c.line-item.result c.loop-line-test.true c.line-item.is in
    (put (omega (arith, within, ap length c.as_slice.ensures.value, fits))).0

pub loop-line-preserved : goal.loop-line-preserved
loop-line-preserved g c =
    let k = c.loop-line.line-index in
    let line = c.line-item.result in
    let done = front k c.args.lines.now in
    let more = front-more c.args.lines.now k line c.loop-line-test.true c.line-item.is in
    let bytes : c.as_slice.result.now ≡ line.items = c.as_slice.ensures.value in
    record {
      faults = c.in-All.ensures.cause ∙ c.loop-line.invariant.faults;
      taken = λ taken told.
          let put = rw (c.loop-line.invariant.taken taken told) at c.in-All.ensures.puts in
          put ∙ ap (λ b. Some ((taken ++ done) ++ b)) bytes ∙ ap Some (append_assoc taken done line.items) ∙ ap (λ t. Some (taken ++ t)) (sym more);
      room = λ room told fits.
          let put = rw (c.loop-line.invariant.room room told fits) at c.in-All.ensures.fits in
          let within = front-fits c.args.lines.now k line c.loop-line-test.true c.line-item.is in
          let long : length c.as_slice.result.now ≡ length line.items = ap length bytes in
          let total : length (front (k + 1) c.args.lines.now) ≡ length done + length line.items = ap length more ∙ length-append done line.items in
          (put (omega (arith, within, long, fits))).1 ∙ ap Some (omega (arith, long, total));
    }
