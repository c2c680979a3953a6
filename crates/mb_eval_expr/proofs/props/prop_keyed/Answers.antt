use Rattle.std.proofs.Common.{refl, slice_get}
use Rattle.mb_eval_expr.proofs.Keeping.{waits-node}
use Rattle.mb_eval_expr.proofs.Propping.{Sure-valued}
use Rattle.mb_frames.proofs.HeldLess.{key-held}
use Rattle.mb_frames.proofs.Keeping.{expression-held}
use Rattle.mb_frames.proofs.Passed.{Part-sure}
use Rattle.mb_frames.proofs.Readying.{changed-same}
use Rattle.mb_frames.specs.Resolved.{context_in}
use Rattle.mb_frames.specs.Rest.Expressions.{prop_by}
use Rattle.mb_frames.specs.Standing.{forms_at}
use Rattle.mb_frames.specs.declared.expressions.ExprFrame.TheVariants as e
use Rattle.mb_frames.specs.declared.frame.Frame.TheVariants as x
use Rattle.mb_frames.specs.declared.frame.Move.TheVariants as move
use Rattle.mb_frames.specs.declared.task.Task.TheVariants as t
use Rattle.mb_eval_expr.specs.machine.Literals.{rest_of}
use Rattle.mb_model.specs.Meaning.{finished}
use Rattle.mb_model.specs.Writing.{◌>>=◌}
use Rattle.mb_world.specs.Image.{key_in, names_of, object_in}
use Rattle.mb_eval_expr.proofs.props.prop_keyed.Goals as goal

pub returns-in-Value-clause-row : goal.returns-in-Value-clause-row
returns-in-Value-clause-row c = λ f.
    let d = c.args.w.now in
    let home = c.args.home in
    let l = c.args.literal in
    let o = slice_get (forms_at d home) c.args.property.0 in
    let k = rw c.in-Value.is at c.requires.definition in
    Part-sure home d f
    ((prop_by (context_in (names_of d) home.0 l.at) (object_in (names_of d) l.object) c.args.property.0 o
    (key_in (names_of d) c.args.key) >>= (λ a. rest_of d home l)) finished)
    (move.Wait (x.Expr (e.PropValue l.at l.node l.object l.place c.args.key)) (t.Evaluate c.in-Value.node l.at))
    (Sure-valued d home l c.args.property c.requires.holds o c.in-Value.node c.args.key c.requires.key k.0)

pub returns-in-Value-clause-changed : goal.returns-in-Value-clause-changed
returns-in-Value-clause-changed c = changed-same c.args.home c.args.w.now c.requires.ready

pub returns-in-Value-clause-leaves : goal.returns-in-Value-clause-leaves
returns-in-Value-clause-leaves c =
    let d = c.args.w.now in
    let home = c.args.home in
    let l = c.args.literal in
    let h = c.requires.holds in
    let k = rw c.in-Value.is at c.requires.definition in
    waits-node d home (e.PropValue l.at l.node l.object l.place c.args.key) c.in-Value.node l.at refl
    (h.0, (h.1.0, (h.1.1.0, (h.1.1.1.0, (key-held d home c.args.key c.requires.key, tt))))) (h.0, (h.1.0, tt))
    (expression-held d home c.in-Value.node k.1)
