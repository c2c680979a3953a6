-- What parts of expressions leave, where they hold these.
use Rattle.std.specs.Prelude.{◌<◌, List, [], ◌∷◌}
use Rattle.mb_base.specs.declared.value.ObjId.{ObjId}
use Rattle.mb_base.specs.declared.value.Side.{Side}
use Rattle.mb_base.specs.declared.value.Value.{Value}
use Rattle.mb_base.specs.declared.value.Value.TheVariants as v
use Rattle.mb_eval_expr.specs.declared.computing.Computed.{Computed}
use Rattle.mb_eval_expr.specs.declared.computing.Computed.TheVariants as c
use Rattle.mb_eval_expr.specs.declared.targets.Target.{Target}
use Rattle.mb_eval_expr.specs.declared.targets.Target.TheVariants as t
use Rattle.mb_frames.specs.Held.{Held, HeldNode, HeldPlain, HeldScope, HeldText, HeldValue}
use Rattle.mb_frames.specs.Kinds.{is_expression}
use Rattle.mb_frames.specs.Ready.{Holds, IsReady, Leaves}
use Rattle.mb_frames.specs.Sorts.{AValue}
use Rattle.mb_frames.specs.declared.frame.Move.{Move}
use Rattle.mb_frames.specs.declared.task.Context.{Context}
use Rattle.mb_world.specs.Data.{Data}
use Rattle.mb_world.specs.Formed.{InRange}

-- what a part that changes nothing leaves may be held, and gives a value
abbrev pub Leaving : Side → List Held → Move → Data → Type 0
Leaving home held m d = IsReady d → home.0 < d.sides → Holds d home held → Leaves d home AValue m

abbrev pub context_held : Context → List Held
context_held at = HeldScope at.scope ∷ HeldValue at.this ∷ []

-- what stands in an object that is made
abbrev pub plain_held : ObjId → List Held
plain_held id = HeldPlain id ∷ []

abbrev pub target_held : Target → List Held
target_held (t.Name name) = HeldText name ∷ []
target_held (t.Member base name) = HeldNode is_expression base.0 ∷ HeldText name ∷ []
target_held (t.Index base key) = HeldNode is_expression base.0 ∷ HeldNode is_expression key.0 ∷ []
target_held t.Other = []

-- a value that is no object, and in range where it is a whole number
abbrev pub IsPlainValue : Value → Type 0
IsPlainValue (v.Object id) = ⊥
IsPlainValue x = InRange x

abbrev pub GivesPlain : Computed → Type 0
GivesPlain (c.Value x) = IsPlainValue x
GivesPlain (c.Faulty kind) = Unit {0}
