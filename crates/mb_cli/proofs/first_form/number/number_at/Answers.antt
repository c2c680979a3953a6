use Rattle.std.proofs.Common.{rules, ◌∙◌}
use Rattle.std.specs.Char.{is_ascii_digit}
use Rattle.mb_cli.proofs.first_form.Runs.{front_passes, prefix_len-le}
use Rattle.mb_cli.proofs.first_form.Numbers.{stands_whole, whole_stands}
use Rattle.mb_cli.proofs.first_form.number.number_at.Goals as goal

pub whole_of-requires : goal.whole_of-requires
whole_of-requires c = rw c.digits_len-count.ensures (front_passes is_ascii_digit c.args.bytes.now)

pub returns-in-Some-clause-found : goal.returns-in-Some-clause-found
returns-in-Some-clause-found c =
    let found = c.in-Some.ensures.is in
    rw c.digits_len-count.ensures ((found.0, search rules ∙ found.1, prefix_len-le is_ascii_digit c.args.bytes.now, stands_whole found.0 c.args.bytes.now found.2 (rw c.digits_len-count.ensures at found.3)))

pub returns-in-None-clause-none : goal.returns-in-None-clause-none
returns-in-None-clause-none c r n rest s = c.in-None.ensures.none r n s.1 (rw c.digits_len-count.ensures (whole_stands n c.args.bytes.now rest s))
