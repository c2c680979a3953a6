use Rattle.std.proofs.Common.{Some, ◌∙◌, sym}
use Rattle.mb_arrayapi.proofs.Acting.{Part-same}
use Rattle.mb_arrayapi.proofs.Calls.{call-first, function-held}
use Rattle.mb_arrayapi.proofs.calling.call_with.Goals as goal
use Rattle.mb_arrayapi.specs.machine.Passing.{function_of}
use Rattle.mb_arrayapi.specs.machine.Turning.{turns_from}
use Rattle.mb_frames.specs.Rest.Arraying.{call_found}
use Rattle.mb_frames.specs.declared.arrays.Callback.TheVariants as callback
use Rattle.mb_frames.specs.declared.arrays.Turn.TheVariants as turn
use Rattle.std.proofs.Common.{◌+◌}
use Rattle.mb_world.specs.Image.{Resolve, names_of, object_in}

pub goes_on-requires : goal.goes_on-requires
goes_on-requires c =
    let a = c.requires.acts in
    let h = rw c.requires.turn at a.holds in
    record {
      acts = record {
        ready = a.ready;
        side = a.side;
        holds = (
          h.1.0,
          (
            rw c.function_of.ensures (function-held c.args.w.now c.args.home c.args.callback h.1.1),
            (h.0, tt),
          ),
        );
      };
    }

pub returns-clause-part : goal.returns-clause-part
returns-clause-part c =
    let d = c.args.w.now in
    let n = names_of d in
    let e = c.args.at in
    let o = object_in n e.object in
    Part-same c.args.home c.goes_on.result d c.goes_on.new.w c.args.fuel.now c.goes_on.new.fuel
    (call_found n c.args.home.0 o c.args.callback e.place e.left (Some (Resolve n c.args.x)))
    (turns_from n c.args.home.0 o (turn.Call (callback.Reduce (function_of c.args.callback) (Some c.args.x)))
    (e.place + 1) e.left)
    (call-first n c.args.home.0 e.object c.args.callback c.args.x e.place e.left
    (sym c.lacks_value.ensures ∙ c.if-not-lacks_value.false))
    (rw c.function_of.ensures at c.goes_on.ensures.part)
