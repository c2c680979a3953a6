use Rattle.mb_base.specs.declared.value.Value.TheVariants as v
use Rattle.mb_frames.specs.declared.task.Method.TheVariants as m
use Rattle.mb_frames.specs.declared.expressions.ExprFrame.TheVariants as e
use Rattle.mb_frames.specs.Sorts.{AValue}
use Rattle.mb_eval_expr.proofs.Keeping.{kept-left, waits-asks}
use Rattle.std.proofs.Common.{refl}
use Rattle.mb_eval_expr.proofs.Referring.{Part-put, Part-refused}
use Rattle.mb_world.specs.Image.{key_in, names_of}
use Rattle.mb_frames.proofs.HeldLess.{value-object}
use Rattle.mb_eval_expr.proofs.assignments.put_and_give.Goals as goal

pub returns-in-Name-clause-row : goal.returns-in-Name-clause-row
returns-in-Name-clause-row c = λ f. rw c.in-Name.is (c.write_name.ensures.row f)

pub returns-in-Object-clause-row : goal.returns-in-Object-clause-row
returns-in-Object-clause-row c = λ f.
    let h = rw c.in-Place.is at c.requires.to in
    rw (c.in-Place.is, c.in-Object.is) (Part-put c.args.home c.args.w.now f c.args.at c.in-Object.object
    c.in-Place.key c.args.x c.args.gives c.asks.result
    c.asks.ensures (rw c.in-Object.is at h.0) h.1.0 c.requires.value c.requires.gives)

pub returns-in_default-clause-row : goal.returns-in_default-clause-row
returns-in_default-clause-row c = λ f.
    rw c.in-Place.is (Part-refused c.args.home c.args.w.now f c.type_error.result c.type_error.new.w c.args.at
    c.in-Place.base c.args.x c.args.gives
    (key_in (names_of c.args.w.now) c.in-Place.key) c.in_default.not-Object (c.type_error.ensures.part f))

pub returns-in-Name-clause-keeps : goal.returns-in-Name-clause-keeps
returns-in-Name-clause-keeps c = λ r i h. c.write_name.ensures.keeps r i (h.1.1.0, (h.0, (h.1.0, tt)))

pub returns-in-Object-clause-keeps : goal.returns-in-Object-clause-keeps
returns-in-Object-clause-keeps c = λ r i h.
    let d = c.args.w.now in
    let k = rw c.in-Place.is at h.1.1.1.1 in
    let b = rw c.in-Object.is at k.0 in
    rw c.asks.ensures (kept-left c.args.home d r
    (waits-asks d c.args.home (e.Put c.args.gives) (m.Set c.in-Place.key c.args.x (v.Object c.in-Object.object))
    c.in-Object.object refl (h.1.0, tt) (value-object d c.args.home c.in-Object.object b) (k.1.0, (h.0, (b, tt)))))

pub returns-in_default-clause-keeps : goal.returns-in_default-clause-keeps
returns-in_default-clause-keeps c = λ r i h. c.type_error.ensures.keeps AValue r i tt
