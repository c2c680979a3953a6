use Rattle.std.proofs.Common.{ap, arith, subst, sym, ◌∙◌, ◌≡◌, ◌≤◌}
use Rattle.std.proofs.lemmas.Result.{err_from_is_err_and}
use Rattle.std.specs.Prelude.{Err, option_map}
use Rattle.mb_outer.specs.Causes.{IsRaised}
use Rattle.mb_outer.specs.Shelf.{held}
use Rattle.mb_cli.proofs.Programs.{fed_later}
use Rattle.mb_cli.proofs.Reading.{all_read, last_right, left_read_last, left_unread, no_read_failed, none_faultless, one_read, pair_answer, pair_read, right_unread, scanned_within, some_read, the_fault}
use Rattle.mb_cli.specs.Serving.{OnRead}
use Rattle.mb_cli.specs.Tasks.{behind, last_of}
use Rattle.mb_cli.specs.machine.Refusals.{ending, status_of}
use Rattle.mb_cli.proofs.shared.pair.read_pair.Goals as goal

-- ---- the left script isn't read whole

pub returns-in_err-left-clause-answer : goal.returns-in_err-left-clause-answer
returns-in_err-left-clause-answer g c s told word budget traced =
    let p = err_from_is_err_and c.from_residual.result c.from_residual.ensures.1 in
    rw (p.1, p.2) (left_unread (held c.args.left.now s) (held c.args.right.now s) word budget traced
    c.in_err-left.field-0.0 c.in_err-left.ensures.refused (λ long e. c.in_err-left.ensures.long s told long (ap Err e)))

pub returns-in_err-left-clause-reads : goal.returns-in_err-left-clause-reads
returns-in_err-left-clause-reads g c =
    let p = err_from_is_err_and c.from_residual.result c.from_residual.ensures.1 in
    rw (p.1, p.2) (one_read c.in_err-left.field-0.0 (g.L.Library.faults c.args.library.now)
    (g.L.Library.faults c.scan_side.new.library) c.scan_side.ensures.later
    (λ e. c.in_err-left.ensures.failed (ap Err e))
    (λ n. c.in_err-left.ensures.counted (λ e. n (the_fault c.in_err-left.field-0.0 e))))

pub returns-in_err-left-clause-faultless : goal.returns-in_err-left-clause-faultless
returns-in_err-left-clause-faultless g c s told there sound =
    let p = err_from_is_err_and c.from_residual.result c.from_residual.ensures.1 in
    let judged = c.in_err-left.ensures.never s sound told there.0 in
    rw (p.1, p.2) (none_faultless (Err c.in_err-left.field-0.0) (g.L.Library.faults c.args.library.now)
    (g.L.Library.faults c.scan_side.new.library) judged (c.in_err-left.ensures.counted judged))

pub returns-in_err-left-clause-read : goal.returns-in_err-left-clause-read
returns-in_err-left-clause-read g c s told =
    let p = err_from_is_err_and c.from_residual.result c.from_residual.ensures.1 in
    rw (p.1, p.2) (left_read_last (held c.args.left.now s) (held c.args.right.now s)
    (g.L.Library.rest c.scan_side.new.library) c.in_err-left.field-0.0 c.in_err-left.ensures.refused
    (λ long e. c.in_err-left.ensures.long s told long (ap Err e)) (c.in_err-left.ensures.read s told))

-- ---- the right script isn't read whole

pub returns-in_err-right-clause-answer : goal.returns-in_err-right-clause-answer
returns-in_err-right-clause-answer g c s told word budget traced =
    let q = c.from_residual-in_err-right in
    let p = err_from_is_err_and q.result q.ensures.1 in
    let left = held c.args.left.now s in
    let within = scanned_within c.scan_side.new.texts left c.in_ok-left.left (c.in_ok-left.ensures.script s told) in
    rw (p.1, p.2) (right_unread left (held c.args.right.now s) word budget traced c.in_err-right.field-0.0 within
    c.in_err-right.ensures.refused
    (λ long e. c.in_err-right.ensures.long s (c.scan_side.ensures.shelf ∙ told) long (ap Err e)))

pub returns-in_err-right-clause-reads : goal.returns-in_err-right-clause-reads
returns-in_err-right-clause-reads g c =
    let q = c.from_residual-in_err-right in
    let p = err_from_is_err_and q.result q.ensures.1 in
    let before = g.L.Library.faults c.args.library.now in
    let now = g.L.Library.faults c.scan_side-2.new.library in
    let same : g.L.Library.faults c.scan_side.new.library ≡ before = c.in_ok-left.ensures.counted (λ e. cc) in
    let later : before ≤ now = omega (arith, same, c.scan_side-2.ensures.later) in
    rw (p.1, p.2) (one_read c.in_err-right.field-0.0 before now later
    (λ e. subst (λ n. IsRaised n now) same (c.in_err-right.ensures.failed (ap Err e)))
    (λ n. c.in_err-right.ensures.counted (λ e. n (the_fault c.in_err-right.field-0.0 e)) ∙ same))

pub returns-in_err-right-clause-faultless : goal.returns-in_err-right-clause-faultless
returns-in_err-right-clause-faultless g c s told there sound =
    let q = c.from_residual-in_err-right in
    let p = err_from_is_err_and q.result q.ensures.1 in
    let before = g.L.Library.faults c.args.library.now in
    let same : g.L.Library.faults c.scan_side.new.library ≡ before = c.in_ok-left.ensures.counted (λ e. cc) in
    let judged =
    c.in_err-right.ensures.never s (c.scan_side.ensures.sound sound) (c.scan_side.ensures.shelf ∙ told) there.1 in
    rw (p.1, p.2) (none_faultless (Err c.in_err-right.field-0.0) before (g.L.Library.faults c.scan_side-2.new.library)
    judged (c.in_err-right.ensures.counted judged ∙ same))

pub returns-in_err-right-clause-read : goal.returns-in_err-right-clause-read
returns-in_err-right-clause-read g c s told =
    let q = c.from_residual-in_err-right in
    let p = err_from_is_err_and q.result q.ensures.1 in
    let left = held c.args.left.now s in
    let right = held c.args.right.now s in
    let within = scanned_within c.scan_side.new.texts left c.in_ok-left.left (c.in_ok-left.ensures.script s told) in
    rw (p.1, p.2) (subst (λ x. OnRead (status_of c.in_err-right.field-0.0)
    (g.L.Library.rest c.scan_side-2.new.library ≡ option_map (behind 1048577) x)) (sym (last_right left right within))
    (c.in_err-right.ensures.read s (c.scan_side.ensures.shelf ∙ told)))

-- ---- both are

pub read_programs-requires-clause-left : goal.read_programs-requires-clause-left
read_programs-requires-clause-left g c =
    fed_later c.scan_side.new.texts c.scan_side-2.new.texts c.in_ok-left.left c.scan_side-2.ensures.ids
    c.in_ok-left.ensures.fed

pub returns-clause-some : goal.returns-clause-some
returns-clause-some g c =
    some_read c.scan_side.new.texts c.scan_side-2.new.texts c.in_ok-left.left c.in_ok-right.right
    c.scan_side-2.ensures.ids c.read_programs.new.texts c.read_programs.result c.in_ok-left.ensures.fed
    c.in_ok-right.ensures.fed (λ l r a b m n. c.read_programs.ensures.read l r a b m n)

pub returns-clause-pair : goal.returns-clause-pair
returns-clause-pair g c s told =
    pair_read c.scan_side.new.texts c.scan_side-2.new.texts c.in_ok-left.left c.in_ok-right.right
    c.scan_side-2.ensures.ids (held c.args.left.now s) (held c.args.right.now s) c.read_programs.new.texts
    c.read_programs.result (c.in_ok-left.ensures.script s told)
    (c.in_ok-right.ensures.script s (c.scan_side.ensures.shelf ∙ told))
    (λ l r a b m n. c.read_programs.ensures.read l r a b m n)

pub returns-clause-answer : goal.returns-clause-answer
returns-clause-answer g c s told word budget traced =
    pair_answer c.scan_side.new.texts c.scan_side-2.new.texts c.in_ok-left.left c.in_ok-right.right
    c.scan_side-2.ensures.ids (held c.args.left.now s) (held c.args.right.now s) word budget traced
    c.read_programs.result (c.in_ok-left.ensures.script s told)
    (c.in_ok-right.ensures.script s (c.scan_side.ensures.shelf ∙ told))
    (λ l r a b. c.read_programs.ensures.refused l r a b)

pub returns-clause-reads : goal.returns-clause-reads
returns-clause-reads g c =
    no_read_failed c.read_programs.result (g.L.Library.faults c.args.library.now)
    (g.L.Library.faults c.scan_side-2.new.library) c.read_programs.ensures.judged
    (c.in_ok-right.ensures.counted (λ e. cc) ∙ c.in_ok-left.ensures.counted (λ e. cc))

pub returns-clause-faultless : goal.returns-clause-faultless
returns-clause-faultless g c s told there sound =
    none_faultless c.read_programs.result (g.L.Library.faults c.args.library.now)
    (g.L.Library.faults c.scan_side-2.new.library) c.read_programs.ensures.judged
    (c.in_ok-right.ensures.counted (λ e. cc) ∙ c.in_ok-left.ensures.counted (λ e. cc))

pub returns-clause-read : goal.returns-clause-read
returns-clause-read g c s told =
    let left = held c.args.left.now s in
    let right = held c.args.right.now s in
    let within = scanned_within c.scan_side.new.texts left c.in_ok-left.left (c.in_ok-left.ensures.script s told) in
    all_read (ending c.read_programs.result)
    (g.L.Library.rest c.scan_side-2.new.library ≡ option_map (behind 1048577) (last_of left right))
    (c.in_ok-right.ensures.read s (c.scan_side.ensures.shelf ∙ told)
    ∙ ap (option_map (behind 1048577)) (sym (last_right left right within)))
