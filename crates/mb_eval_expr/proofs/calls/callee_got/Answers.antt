use Rattle.mb_base.specs.declared.value.Side.{Side}
use Rattle.mb_frames.specs.Held.{HeldValues}
use Rattle.mb_frames.specs.Ready.{MayHold}
use Rattle.mb_world.specs.Contained.{IsOwn}
use Rattle.mb_world.specs.Data.{Data}
use Rattle.mb_world.specs.Formed.{InRange}
use Rattle.mb_world.specs.Ids.{ValueIn}
use Rattle.std.proofs.lemmas.List.Elements.{All-nil}
use Rattle.mb_eval_expr.proofs.calls.callee_got.Goals as goal

pub returns-clause-row : goal.returns-clause-row
returns-clause-row c = λ f. rw c.new.ensures at (c.call_from.ensures.row f)

pub returns-clause-keeps : goal.returns-clause-keeps
returns-clause-keeps c =
    let none : (d : Data) (home : Side) → MayHold d home (HeldValues c.new.result) = λ d home.
    rw c.new.ensures (record {
      within = All-nil (ValueIn d);
      sound = All-nil InRange;
      own = λ u. All-nil (IsOwn d home);
    }) in
    λ r i h. c.call_from.ensures.keeps r i
    ((h.1.0, (h.1.1.0, (h.1.1.1.0, (h.0, (h.1.1.1.1.0, (none c.args.w.now c.args.home, tt)))))))
