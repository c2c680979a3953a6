use Rattle.std.proofs.Common.{ap, true, ◌∙◌}
use Rattle.mb_call.proofs.Filled.{no-field}
use Rattle.mb_call.proofs.making.put_field.Goals as goal
use Rattle.mb_frames.proofs.HeldLess.{value-datum}
use Rattle.mb_frames.proofs.Readying.{changed-same}
use Rattle.mb_text.specs.Index.{index_of}

pub put-requires-clause-name : goal.put-requires-clause-name
put-requires-clause-name c = ap index_of c.field_units.ensures ∙ no-field c.args.field

pub returns-in-Some-clause-keeps : goal.returns-in-Some-clause-keeps
returns-in-Some-clause-keeps c = λ home o r side h.
    c.put.ensures.keeps home o r side
    (value-datum c.args.w.now home c.in-Some.value true true true (rw c.in-Some.is at h).0, tt)

pub returns-in-None-clause-keeps : goal.returns-in-None-clause-keeps
returns-in-None-clause-keeps c = λ home o r side h. record { changed = changed-same home c.args.w.now r; holds = tt }
