use Rattle.std.proofs.Common.{Bool, ap, is_some, subst, ◌∙◌}
use Rattle.mb_base.specs.declared.value.Value.{Value}
use Rattle.mb_frames.proofs.Apartness.{value-real}
use Rattle.mb_frames.proofs.HeldLess.{value-object}
use Rattle.mb_frames.proofs.Passed.{Part-by}
use Rattle.mb_frames.specs.Held.{HeldValue}
use Rattle.mb_frames.specs.Ready.{MayHold}
use Rattle.mb_frames.specs.Resolved.{method_in}
use Rattle.mb_frames.specs.Sorts.{method_gives}
use Rattle.mb_model.specs.Meaning.{finished}
use Rattle.mb_model.specs.Objects.Proxies.{call_trap, trap_callable, trapped}
use Rattle.mb_model.specs.Writing.{type_error}
use Rattle.mb_scriptproxy.proofs.traps.trap_called.Goals as goal
use Rattle.mb_world.specs.Image.{Image, Resolve, names_of, object_in}

pub callable-requires-clause-value : goal.callable-requires-clause-value
callable-requires-clause-value c = c.requires.acts.holds.0.within

pub callable-requires-clause-real : goal.callable-requires-clause-real
callable-requires-clause-real c =
    let a = c.requires.acts in
    value-real c.args.w.now a.ready c.args.home c.args.trap a.holds.0

pub trapped-requires : goal.trapped-requires
trapped-requires c =
    let d = c.args.w.now in
    let home = c.args.home in
    let a = c.requires.acts in
    let e = rw c.in-Some.is at c.callable.ensures.object in
    record {
      acts = record {
        ready = a.ready;
        side = a.side;
        holds = (
          value-object d home c.in-Some.function (subst (λ (x : Value). MayHold d home (HeldValue x)) e a.holds.0),
          a.holds.1,
        );
      };
    }

pub returns-in-Some-clause-part : goal.returns-in-Some-clause-part
returns-in-Some-clause-part c = λ f.
    let d = c.args.w.now in
    let n = names_of d in
    let s = c.args.home.0 in
    let t = object_in n c.args.target in
    let h = object_in n c.args.handler in
    let y = method_in n c.args.method in
    let e = rw c.in-Some.is at c.callable.ensures.object in
    Part-by c.args.home c.trapped.result d c.trapped.new.w f f
    (trap_callable s t h (Resolve n c.args.trap) y finished)
    (trapped s t h (object_in n c.in-Some.function) y finished)
    (λ log.
    ap (λ (b : Bool). call_trap s t h (Resolve n c.args.trap) y b finished (Image d log))
    (c.callable.ensures.calls log ∙ ap is_some c.in-Some.is)
    ∙ ap (λ (x : Value). trapped s t h (Resolve n x) y finished (Image d log)) e)
    (c.trapped.ensures.part f)

pub returns-in-None-clause-part : goal.returns-in-None-clause-part
returns-in-None-clause-part c = λ f.
    let d = c.args.w.now in
    let n = names_of d in
    let s = c.args.home.0 in
    let t = object_in n c.args.target in
    let h = object_in n c.args.handler in
    let y = method_in n c.args.method in
    Part-by c.args.home c.type_error.result d c.type_error.new.w f f
    (trap_callable s t h (Resolve n c.args.trap) y finished) (type_error s finished)
    (λ log.
    ap (λ (b : Bool). call_trap s t h (Resolve n c.args.trap) y b finished (Image d log))
    (c.callable.ensures.calls log ∙ ap is_some c.in-None.is))
    (c.type_error.ensures.part f)

pub returns-in-None-clause-keeps : goal.returns-in-None-clause-keeps
returns-in-None-clause-keeps c = c.type_error.ensures.keeps (method_gives c.args.method)
