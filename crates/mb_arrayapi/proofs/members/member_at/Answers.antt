use Rattle.mb_arrayapi.proofs.Arguments.{argument-held, given-held, given-is, one-is, two-are}
use Rattle.mb_arrayapi.proofs.members.member_at.Goals as goal
use Rattle.mb_frames.specs.Rest.Arraying.{filter_from, for_each_from, index_from, join_from, map_from, reduce_from}
use Rattle.mb_frames.specs.Rest.Arraying.{slice_from}
use Rattle.mb_model.specs.BuiltIns.Arrays.{array_start}
use Rattle.mb_model.specs.Writing.{◌>>=◌}

pub returns-in-27-clause-row : goal.returns-in-27-clause-row
returns-in-27-clause-row c = λ n s this target.
    rw (c.in-27.is, c.argument-first.ensures, c.argument-second.ensures)
    (two-are n c.args.arguments (λ x y. array_start s this >>= map_from s this x y))

pub returns-in-27-clause-held : goal.returns-in-27-clause-held
returns-in-27-clause-held c = λ d home h.
    rw (c.argument-first.ensures, c.argument-second.ensures)
    (argument-held d home c.args.arguments h.0 0, (argument-held d home c.args.arguments h.0 1, tt))

pub returns-in-28-clause-row : goal.returns-in-28-clause-row
returns-in-28-clause-row c = λ n s this target.
    rw (c.in-28.is, c.argument-first.ensures, c.argument-second.ensures)
    (two-are n c.args.arguments (λ x y. array_start s this >>= for_each_from s this x y))

pub returns-in-28-clause-held : goal.returns-in-28-clause-held
returns-in-28-clause-held c = λ d home h.
    rw (c.argument-first.ensures, c.argument-second.ensures)
    (argument-held d home c.args.arguments h.0 0, (argument-held d home c.args.arguments h.0 1, tt))

pub returns-in-29-clause-row : goal.returns-in-29-clause-row
returns-in-29-clause-row c = λ n s this target.
    rw (c.in-29.is, c.argument-first.ensures, c.argument-second.ensures)
    (two-are n c.args.arguments (λ x y. array_start s this >>= filter_from s this x y))

pub returns-in-29-clause-held : goal.returns-in-29-clause-held
returns-in-29-clause-held c = λ d home h.
    rw (c.argument-first.ensures, c.argument-second.ensures)
    (argument-held d home c.args.arguments h.0 0, (argument-held d home c.args.arguments h.0 1, tt))

pub returns-in-31-clause-row : goal.returns-in-31-clause-row
returns-in-31-clause-row c = λ n s this target.
    rw (c.in-31.is, c.argument-first.ensures, c.argument-second.ensures)
    (two-are n c.args.arguments (λ x y. array_start s this >>= index_from s this x y))

pub returns-in-31-clause-held : goal.returns-in-31-clause-held
returns-in-31-clause-held c = λ d home h.
    rw (c.argument-first.ensures, c.argument-second.ensures)
    (argument-held d home c.args.arguments h.0 0, (argument-held d home c.args.arguments h.0 1, tt))

pub returns-in-32-clause-row : goal.returns-in-32-clause-row
returns-in-32-clause-row c = λ n s this target.
    rw (c.in-32.is, c.argument-first.ensures, c.argument-second.ensures)
    (two-are n c.args.arguments (λ x y. array_start s this >>= slice_from s this x y))

pub returns-in-32-clause-held : goal.returns-in-32-clause-held
returns-in-32-clause-held c = λ d home h.
    rw (c.argument-first.ensures, c.argument-second.ensures)
    (argument-held d home c.args.arguments h.0 0, (argument-held d home c.args.arguments h.0 1, tt))

pub returns-in-30-clause-row : goal.returns-in-30-clause-row
returns-in-30-clause-row c = λ n s this target.
    rw (c.in-30.is, c.argument-first.ensures, c.at-given.ensures)
    (given-is n c.args.arguments (λ x y. array_start s this >>= reduce_from s this x y))

pub returns-in-30-clause-held : goal.returns-in-30-clause-held
returns-in-30-clause-held c = λ d home h.
    rw (c.argument-first.ensures, c.at-given.ensures)
    (argument-held d home c.args.arguments h.0 0, given-held d home c.args.arguments h.0 1)

pub returns-in-33-clause-row : goal.returns-in-33-clause-row
returns-in-33-clause-row c = λ n s this target.
    rw (c.in-33.is, c.argument-first.ensures)
    (one-is n c.args.arguments (λ x. array_start s this >>= join_from s this x))

pub returns-in-33-clause-held : goal.returns-in-33-clause-held
returns-in-33-clause-held c = λ d home h.
    rw c.argument-first.ensures (argument-held d home c.args.arguments h.0 0, tt)
