use Rattle.std.proofs.Common.{Ok, false, sym, true, ◌∙◌}
use Rattle.std.proofs.lemmas.List.Elements.{All-nil}
use Rattle.mb_call.proofs.Things.{real-there}
use Rattle.mb_call.proofs.Visiting.{next-null, next-real, real-told, row-ended, row-met, row-onward, walk-ordinary}
use Rattle.mb_call.proofs.walk.walk_at.Goals as goal
use Rattle.mb_call.specs.machine.Walks.{visit_row}
use Rattle.mb_frames.proofs.Calling.{walks-on}
use Rattle.mb_frames.proofs.Changing.{there}
use Rattle.mb_frames.proofs.Keeping.{keeps-left, keeps-same}
use Rattle.mb_frames.proofs.Readying.{changed-same}
use Rattle.mb_frames.proofs.Steps.{Step-again, Step-by, Step-sure}
use Rattle.mb_frames.specs.Resolved.{task_in}
use Rattle.mb_frames.specs.Sorts.{AFlag}
use Rattle.mb_frames.specs.declared.frame.Move.TheVariants as move
use Rattle.mb_frames.specs.declared.task.Task.TheVariants as task
use Rattle.mb_model.specs.Meaning.{finished}
use Rattle.mb_model.specs.Objects.Methods.{prototype_set}
use Rattle.mb_model.specs.Writing.{again, yes_or_no}
use Rattle.mb_world.specs.Contained.{IsOwn}
use Rattle.mb_world.specs.Image.{Resolve, names_of, object_in}

pub visit-requires-clause-object : goal.visit-requires-clause-object
visit-requires-clause-object c = walk-ordinary c.args.w.now c.args.object c.requires.walks

pub returns-in-Meets-clause-visited : goal.returns-in-Meets-clause-visited
returns-in-Meets-clause-visited c = λ home a f t e l.
    let d = c.args.w.now in
    let o = c.args.object in
    let x = c.args.x in
    let k = there d o c.requires.within.0 in
    let w = rw k.1 at c.requires.walks in
    let q = real-there d x c.requires.within.1.1.0 c.requires.real in
    let v = sym (c.visit.ensures.meant (real-told d a.ready home o a.holds.0 k.0 k.1 w x q)) ∙ c.in-Meets.is in
    Step-by home true (Ok c.yes_or_no.result) d d f f l l (visit_row (names_of d) o c.args.given x t)
    (yes_or_no false finished)
    (row-met d a.ready home o a.holds.0 k.0 k.1 w x q c.args.given t e v)
    (Step-sure home true d (yes_or_no false finished) c.yes_or_no.result f l (c.yes_or_no.ensures.sure home d))

pub returns-in-Meets-clause-keeps : goal.returns-in-Meets-clause-keeps
returns-in-Meets-clause-keeps c = λ home a.
    keeps-same home AFlag (Ok c.yes_or_no.result) c.args.w.now a.ready (c.yes_or_no.ensures.leaves home c.args.w.now)

pub returns-in-Ends-clause-visited : goal.returns-in-Ends-clause-visited
returns-in-Ends-clause-visited c = λ home a f t e l.
    let d = c.args.w.now in
    let o = c.args.object in
    let x = c.args.x in
    let k = there d o c.requires.within.0 in
    let w = rw k.1 at c.requires.walks in
    let q = real-there d x c.requires.within.1.1.0 c.requires.real in
    let v = sym (c.visit.ensures.meant (real-told d a.ready home o a.holds.0 k.0 k.1 w x q)) ∙ c.in-Ends.is in
    Step-by home true (Ok c.prototype_set.result) d c.prototype_set.new.w f f l l
    (visit_row (names_of d) o c.args.given x t)
    (prototype_set (object_in (names_of d) o) (Resolve (names_of d) c.args.given) finished)
    (row-ended d a.ready home o a.holds.0 k.0 k.1 w x q c.args.given t e v)
    (c.prototype_set.ensures.part home a f true l)

pub returns-in-Onward-clause-visited : goal.returns-in-Onward-clause-visited
returns-in-Onward-clause-visited c = λ home a f t e l.
    let d = c.args.w.now in
    let o = c.args.object in
    let x = c.args.x in
    let given = c.args.given in
    let next = c.in-Onward.next in
    let k = there d o c.requires.within.0 in
    let w = rw k.1 at c.requires.walks in
    let q = real-there d x c.requires.within.1.1.0 c.requires.real in
    let v = sym (c.visit.ensures.meant (real-told d a.ready home o a.holds.0 k.0 k.1 w x q)) ∙ c.in-Onward.is in
    let walk = task.Walk o given next in
    Step-by home true (Ok (move.Anew walk)) d d f f l l (visit_row (names_of d) o given x t)
    (again (task_in (names_of d) home.0 walk) finished)
    (row-onward d a.ready home o a.holds.0 k.0 k.1 w x q given t e next v)
    (Step-again home d walk f l
    (a.holds.0.within, (a.holds.1.0.within, (rw c.in-Onward.is at c.visit.ensures.within, tt))))

pub returns-in-Onward-clause-keeps : goal.returns-in-Onward-clause-keeps
returns-in-Onward-clause-keeps c = λ home a.
    let d = c.args.w.now in
    let o = c.args.object in
    let x = c.args.x in
    let given = c.args.given in
    let next = c.in-Onward.next in
    let k = there d o c.requires.within.0 in
    let w = rw k.1 at c.requires.walks in
    let q = real-there d x c.requires.within.1.1.0 c.requires.real in
    let v = sym (c.visit.ensures.meant (real-told d a.ready home o a.holds.0 k.0 k.1 w x q)) ∙ c.in-Onward.is in
    keeps-left home AFlag (move.Anew (task.Walk o given next)) d d (changed-same home d a.ready)
    (walks-on d home o given next k.0 k.1 w (next-real d a.ready home o a.holds.0 k.0 k.1 w x q next v) (
      a.holds.0,
      (
        a.holds.1.0,
        (
          record {
            within = rw c.in-Onward.is at c.visit.ensures.within;
            sound = next-null d a.ready home o a.holds.0 k.0 k.1 w x q next v;
            own = λ u. All-nil (IsOwn d home);
          },
          tt,
        ),
      ),
    ))
