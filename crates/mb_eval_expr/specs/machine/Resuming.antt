-- What a frame asks of the value that is handed to it, and which frames take what.
use Rattle.std.specs.Prelude.{Bool, None, Option, Some, ◌∷◌, ◌≡◌, [], false, true}
use Rattle.mb_base.specs.declared.value.Side.{Side}
use Rattle.mb_base.specs.declared.value.Value.{Value}
use Rattle.mb_base.specs.declared.value.Value.TheVariants as v
use Rattle.mb_frames.specs.Real.{IsReal}
use Rattle.mb_frames.specs.Grammatical.{asks_objects}
use Rattle.mb_frames.specs.Held.{HeldArray, HeldValue}
use Rattle.mb_frames.specs.Holding.{expr_held}
use Rattle.mb_frames.specs.Ready.{Holds, IsReady}
use Rattle.mb_frames.specs.declared.expressions.ExprFrame.{ExprFrame}
use Rattle.mb_frames.specs.declared.expressions.ExprFrame.TheVariants as e
use Rattle.mb_frames.specs.declared.task.Answer.{Answer}
use Rattle.mb_frames.specs.declared.task.Answer.TheVariants as a
use Rattle.mb_frames.specs.declared.frame.Frame.{Frame}
use Rattle.mb_frames.specs.declared.frame.Frame.TheVariants as x
use Rattle.mb_frames.specs.declared.task.Outcome.{Outcome}
use Rattle.mb_frames.specs.declared.task.Outcome.TheVariants as o
use Rattle.mb_world.proofs.Values.{Apart}
use Rattle.mb_world.specs.Data.{Data}
use Rattle.mb_world.specs.Formed.{InRange, IsNullOrObject}
use Rattle.mb_world.specs.Image.{names_of}

-- the value that an answer is
abbrev pub value_held : Answer → Value
value_held (a.Value x) = x
value_held y = v.Undefined

-- frames that take a value, and not a yes or no
abbrev pub takes_value : ExprFrame → Bool
takes_value (e.Put gives) = false
takes_value e.Deleted = false
takes_value e.Has = false
takes_value frame = true

abbrev pub is_literal : ExprFrame → Bool
is_literal (e.Element at node array place) = true
is_literal (e.PropKey at node object property place) = true
is_literal (e.PropValue at node object place key) = true
is_literal frame = false

-- assignments, calls and literals
abbrev pub is_assigning : ExprFrame → Bool
is_assigning (e.AssignValue at to) = true
is_assigning (e.CompoundOld at sign value to) = true
is_assigning (e.CompoundValue at sign old to) = true
is_assigning (e.UpdateOld at plus prefix to) = true
is_assigning (e.Callee at node this) = true
is_assigning (e.Argument at node callee this done) = true
is_assigning (e.Constructor at node) = true
is_assigning (e.NewArgument at node callee done) = true
is_assigning frame = is_literal frame

abbrev pub Takes : Data → Side → ExprFrame → Value → Type 0
Takes d home (e.Callee at node this) x = IsReal d x
Takes d home (e.Constructor at node) x = IsReal d x
Takes d home (e.Argument at node callee this done) x = IsReal d callee
Takes d home (e.NewArgument at node callee done) x = IsReal d callee
Takes d home (e.CompoundValue at sign old to) x = (asks_objects sign ≡ false) × Apart (names_of d) old x
Takes d home e.Negate x = InRange x
Takes d home e.Typeof x = IsReal d x
Takes d home (e.Right sign left) x = IsReal d x × Apart (names_of d) left x
Takes d home (e.Chain prototype) x = IsNullOrObject x × Apart (names_of d) x (v.Object prototype)
Takes d home (e.Element at node array place) x = IsReady d × Holds d home (HeldArray array ∷ HeldValue x ∷ [])
Takes d home (e.PropKey at node object property place) x =
    IsReady d × Holds d home (HeldValue x ∷ expr_held (e.PropKey at node object property place))
Takes d home (e.PropValue at node object place key) x =
    IsReady d × Holds d home (HeldValue x ∷ expr_held (e.PropValue at node object place key))
Takes d home frame x = Unit {0}

-- the outcome is there that an expression waits for
abbrev pub IsGiven : Data → Side → Frame → Option Outcome → Type 0
IsGiven d home (x.Expr frame) None = ⊥
IsGiven d home (x.Expr frame) (Some (o.Normal answer)) = Takes d home frame (value_held answer)
IsGiven d home (x.Expr frame) (Some (o.Throw y)) = Unit {0}
IsGiven d home (x.Expr frame) (Some outcome) = ⊥
IsGiven d home frame _ = Unit {0}
