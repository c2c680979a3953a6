use Rattle.std.proofs.Common.{◌≡◌, Ok, subst, sym, true}
use Rattle.std.proofs.lemmas.Result.{err_from_is_err_and}
use Rattle.mb_base.specs.declared.value.Value.{Value}
use Rattle.mb_base.specs.declared.value.Value.TheVariants as v
use Rattle.mb_call.proofs.Constructing.{Part-getting, constructor-is, keeps-getting}
use Rattle.mb_call.proofs.constructions.get_prototype.Goals as goal
use Rattle.mb_frames.proofs.HeldLess.{constructor-object}
use Rattle.mb_frames.proofs.Keeping.{keeps-halted}
use Rattle.mb_frames.proofs.Leaving.{holds-in}
use Rattle.mb_frames.proofs.Readying.{changed-same}
use Rattle.mb_frames.specs.Held.{HeldConstructor}
use Rattle.mb_frames.specs.Holding.{call_held}
use Rattle.mb_frames.specs.Ready.{KeepsBy, MayHold}
use Rattle.mb_frames.specs.Sorts.{AnObject}
use Rattle.mb_frames.specs.declared.calls.CallFrame.TheVariants as y
use Rattle.mb_frames.specs.declared.frame.Frame.TheVariants as frame
use Rattle.mb_frames.specs.declared.frame.Move.TheVariants as move
use Rattle.mb_frames.specs.declared.task.Method.TheVariants as m
use Rattle.mb_frames.specs.declared.task.Task.{Task}
use Rattle.mb_frames.specs.declared.task.Task.TheVariants as task
use Rattle.mb_parts.proofs.Texting.{texts-changed}

pub unreachable-requires : goal.unreachable-requires
unreachable-requires c =
    constructor-is c.args.w.now c.args.target c.requires.target.sound c.in_default.not-Object

pub returns-clause-part : goal.returns-clause-part
returns-clause-part c = λ f.
    let d = c.args.w.now in
    let home = c.args.home in
    let h = subst (λ (x : Value). MayHold d home (HeldConstructor x)) c.in-Object.is c.requires.target in
    rw (c.in-Object.is, c.asks.ensures)
    (Part-getting home d c.key_of_word.new.w f c.in_ok-key-in-Object.ensures.grew c.args.function c.in-Object.asked
    c.args.label c.args.arguments c.in_ok-key-in-Object.key
    (holds-in d home (call_held (y.ConstructPrototype c.args.function c.args.label c.args.arguments))
    c.requires.acts.holds) h.within c.in_ok-key-in-Object.ensures.within c.in_ok-key-in-Object.ensures.key)

pub returns-clause-keeps : goal.returns-clause-keeps
returns-clause-keeps c =
    let d = c.args.w.now in
    let home = c.args.home in
    let a = c.requires.acts in
    let h = subst (λ (x : Value). MayHold d home (HeldConstructor x)) c.in-Object.is c.requires.target in
    let k = c.in_ok-key-in-Object.key in
    let e : c.asks.result ≡ task.Perform (m.Get k (v.Object c.in-Object.asked)) c.in-Object.asked home true
    = c.asks.ensures in
    subst (λ (t : Task). KeepsBy home AnObject (Ok (move.Wait (frame.Call (y.ConstructPrototype c.args.function
    c.args.label c.args.arguments)) t)) d c.key_of_word.new.w) (sym e)
    (keeps-getting home d c.key_of_word.new.w 0 c.in_ok-key-in-Object.ensures.grew c.args.function c.in-Object.asked
    c.args.label c.args.arguments c.in_ok-key-in-Object.key
    (holds-in d home (call_held (y.ConstructPrototype c.args.function c.args.label c.args.arguments)) a.holds) h.within
    c.in_ok-key-in-Object.ensures.within a.ready
    (texts-changed home d c.key_of_word.new.w c.in_ok-key-in-Object.ensures.grew a.ready) a.holds
    (constructor-object d home c.in-Object.asked h))

pub returns-in_err-key-in-Object-clause-keeps : goal.returns-in_err-key-in-Object-clause-keeps
returns-in_err-key-in-Object-clause-keeps c =
    let d = c.args.w.now in
    let home = c.args.home in
    let p = err_from_is_err_and c.from_residual.result c.from_residual.ensures.1 in
    rw (p.1, c.in_err-key-in-Object.ensures.kept)
    (keeps-halted home AnObject p.0 d d (changed-same home d c.requires.acts.ready))
