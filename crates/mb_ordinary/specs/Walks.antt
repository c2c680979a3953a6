-- The walk over prototypes by which setPrototypeOf finds cycles (ECMA-262 10.1.2.1, step 7).
use Rattle.std.specs.Prelude.{ℕ, zero, suc, ◌≡◌, List, [], ◌∷◌, Bool, true, false, nat_eq, Option, Some, None, IfSome, option_map, if◌then◌else◌}
use Rattle.mb_base.specs.declared.value.ObjId.{ObjId}
use Rattle.mb_base.specs.declared.value.Value.{Value}
use Rattle.mb_base.specs.declared.value.Value.TheVariants as v
use Rattle.mb_desc.specs.Values.{equal}
use Rattle.mb_world.specs.declared.cell.CellKind.{CellKind}
use Rattle.mb_world.specs.declared.cell.CellKind.TheVariants.{Membrane}
use Rattle.mb_world.specs.declared.cell.Cell.{Cell}
use Rattle.mb_world.specs.Value.{same_value}
use Rattle.mb_world.specs.Graph.{Thing}
use Rattle.mb_world.specs.Ordinary.{with_prototype, prototype_answered, walk_stops}
use Rattle.mb_world.specs.Data.{Data, cell_at}
use Rattle.mb_world.specs.Ids.{ValueIn}
use Rattle.mb_world.specs.Image.{names_of, object_in, Resolve}
use Rattle.mb_ordinary.specs.declared.answers.Visit.{Visit}
use Rattle.mb_ordinary.specs.declared.answers.Visit.TheVariants.{Meets, Ends, Onward}
use Rattle.mb_ordinary.specs.Objects.{owner_by, object_of, object_at}
use Rattle.mb_ordinary.specs.Definitions.{TellsApart}

-- ---- one visit

abbrev pub real_by : ObjId → CellKind → ObjId
real_by x (Membrane behind shadow) = behind
real_by x kind = x

abbrev pub real_of : ObjId → Option Cell → ObjId
real_of x None = x
real_of x (Some c) = real_by x c.kind

-- the object that a reference stands for: that behind a membrane proxy
abbrev pub real : Data → ObjId → ObjId
real d x = real_of x (cell_at d x)

abbrev pub cell_owner : Option Cell → Option ℕ
cell_owner None = None
cell_owner (Some c) = owner_by c.kind c.home

-- it is the object whose prototype is set, or the walk ends here, or its prototype comes next
abbrev pub visit_by : (meets stops : Bool) → (above : Value) → Visit
visit_by meets stops above = if meets then Meets else if stops then Ends else Onward above

abbrev pub visit_of : (meets : Bool) → Data → ObjId → Option Cell → Visit
visit_of meets d o None = Ends
visit_of meets d o (Some c) =
    visit_by meets (walk_stops d.revoked (cell_owner (cell_at d o)) (object_of (names_of d) c)) c.proto

-- the visit of x for the object o
abbrev pub visited : Data → ObjId → ObjId → Visit
visited d o x = visit_of (nat_eq (real d x).0 o.0) d o (cell_at d (real d x))

-- the same by what the ids stand for
abbrev pub visited_as : Data → ObjId → ObjId → Visit
visited_as d o x =
    visit_of (same_value (object_in (names_of d) (real d x)) (object_in (names_of d) o)) d o (cell_at d (real d x))

abbrev pub VisitIn : Data → Visit → Type 0
VisitIn d (Onward x) = ValueIn d x
VisitIn d _ = Unit {0}

-- the object behind x stands for what o does only where it is o
abbrev pub TellsReal : Data → ObjId → ObjId → Type 0
TellsReal d o x = object_in (names_of d) (real d x) ≡ object_in (names_of d) o → real d x ≡ o

-- ---- the walk

-- its end: a visit couldn't be paid; or this is the answer, and so many units are left
pub data Walked : Type 0 where
  Unpaid : Walked
  Answered : (answer : Bool) → (left : ℕ) → Walked

-- a visit was made, and so many units are left for a walk that goes on
abbrev pub after_visit : Visit → (left : ℕ) → (go : Value → Walked) → Walked
after_visit Meets left go = Answered false left
after_visit Ends left go = Answered true left
after_visit (Onward above) left go = go above

-- the walk from a value on, with so many units: a visit costs 1
abbrev pub walked : (ObjId → Visit) → ℕ → Value → Walked
walked visit zero (v.Object x) = Unpaid
walked visit (suc n) (v.Object x) = after_visit (visit x) n (walked visit n)
walked visit n y = Answered true n

-- the walk from a value on comes to an object
pub data Visits (visit : ObjId → Visit) : Value → ObjId → Type 0 where
  Here : (x : ObjId) → Visits visit (v.Object x) x
  Later : (x y : ObjId) (above : Value) → visit x ≡ Onward above → Visits visit above y → Visits visit (v.Object x) y

-- ---- OrdinarySetPrototypeOf (ECMA-262 10.1.2.1)

-- the answer that comes before the walk, if one does
abbrev pub answered_by : Value → Cell → Option Bool
answered_by p c = if equal p c.proto then Some true else if c.extensible then None else Some false

abbrev pub answered : Value → Option Cell → Option Bool
answered p None = None
answered p (Some c) = answered_by p c

abbrev pub or_walked : ℕ → Walked → Option Bool → Walked
or_walked n walk None = walk
or_walked n walk (Some b) = Answered b n

-- what a call answers, with so many units
abbrev pub proto_set : Data → ObjId → Value → ℕ → Walked
proto_set d o p n = or_walked n (walked (visited d o) n p) (answered p (cell_at d o))

-- the answer before the walk by what values stand for
abbrev pub answered_as : Data → Value → Thing → Option Bool
answered_as d p t = prototype_answered t (Resolve (names_of d) p)

-- the whole by what ids and values stand for
abbrev pub proto_set_as : Data → ObjId → Value → ℕ → Thing → Walked
proto_set_as d o p n t = or_walked n (walked (visited_as d o) n p) (answered_as d p t)

-- the two are the same
abbrev pub AnswersAsObject : Data → ObjId → Value → ℕ → Type 0
AnswersAsObject d o p n = IfSome (object_at d o) (λ t. proto_set d o p n ≡ proto_set_as d o p n t)

-- the object with another prototype
abbrev pub object_with : Data → Value → ObjId → Option Thing
object_with d p o = option_map (with_prototype (Resolve (names_of d) p)) (object_at d o)

abbrev pub proto_of : Option Cell → List Value
proto_of None = []
proto_of (Some c) = c.proto ∷ []

-- no two different cells that the new and the old prototype name stand for the same
abbrev pub TellsProto : Data → ObjId → Value → Type 0
TellsProto d o p = TellsApart d (p ∷ proto_of (cell_at d o))

-- nor, where there is a walk, does an object that it visits, but o, stand for what o does
pub record TellsWalk (d : Data) (o : ObjId) (p : Value) : Type 0 where
  pub values : TellsProto d o p
  pub visits : answered p (cell_at d o) ≡ None → (x : ObjId) → Visits (visited d o) p x → TellsReal d o x
