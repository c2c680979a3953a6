-- What a part of a row does and what it keeps, put together.
use Rattle.std.proofs.Common.{◌+◌, ◌<◌, ◌≡◌, ◌∷◌, Err, List, Ok, Result, refl, true, ℕ}
use Rattle.mb_base.specs.declared.value.ObjId.{ObjId}
use Rattle.mb_base.specs.declared.value.Side.{Side}
use Rattle.mb_base.specs.declared.value.Value.{Value}
use Rattle.mb_base.specs.declared.value.Value.TheVariants as v
use Rattle.mb_call.proofs.Asking.{leaves-fit}
use Rattle.mb_call.proofs.Leaving.{ends}
use Rattle.mb_frames.proofs.HeldLess.{object-value}
use Rattle.mb_frames.proofs.Keeping.{keeps-halted, keeps-same, keeps-then, leaves-value, leaves-wait}
use Rattle.mb_frames.proofs.Leaving.{holds-in}
use Rattle.mb_frames.proofs.Parts.{all-both}
use Rattle.mb_frames.proofs.Passed.{Part-by, Part-passed, Part-sure, Part-unpaid, Passes-paid}
use Rattle.mb_frames.proofs.Readying.{changed-same}
use Rattle.mb_frames.proofs.Steps.{Sure-next, Sure-value, Sure-wait}
use Rattle.mb_frames.specs.Held.{AreIn, HeldIn, HeldObject, HeldValue}
use Rattle.mb_frames.specs.Holding.{method_held, reflect_held}
use Rattle.mb_frames.specs.Passing.{Part, Passes}
use Rattle.mb_frames.specs.Ready.{Changed, Holds, IsReady, KeepsBy, Leaves, MayHold}
use Rattle.mb_frames.specs.Sorts.{AValue, AnObject, Sort, fits, method_gives, reflect_gives, reflect_waits}
use Rattle.mb_frames.specs.Stepping.{Sure, charged_by}
use Rattle.mb_frames.specs.declared.frame.Frame.TheVariants as x
use Rattle.mb_frames.specs.declared.frame.Move.{Move}
use Rattle.mb_frames.specs.declared.frame.Move.TheVariants as move
use Rattle.mb_frames.specs.declared.machine.Halt.{Halt}
use Rattle.mb_frames.specs.declared.machine.Halt.TheVariants.{Spent as SpentHalt}
use Rattle.mb_frames.specs.declared.reflecting.ReflectFrame.{ReflectFrame}
use Rattle.mb_frames.specs.declared.task.Answer.TheVariants as a
use Rattle.mb_frames.specs.declared.task.Method.{Method}
use Rattle.mb_frames.specs.declared.task.Outcome.TheVariants as o
use Rattle.mb_frames.specs.declared.task.Task.TheVariants as task
use Rattle.mb_frames.specs.Resolved.{method_in}
use Rattle.mb_model.specs.Meaning.{finished}
use Rattle.mb_model.specs.Writing.{Row, answer, is_value, perform}
use Rattle.mb_reflect.specs.machine.Asking.{asking}
use Rattle.mb_world.specs.Data.{Data}
use Rattle.mb_world.specs.Graph.{Graph, Item}
use Rattle.mb_world.specs.Image.{Image, Resolve, names_of, object_in}

-- ---- moves

abbrev pub given : Value → Move
given y = move.Done (o.Normal (a.Value y))

abbrev pub asked : Side → ReflectFrame → Method → ObjId → Move
asked home y m id = move.Wait (x.Reflect y) (task.Perform m id home true)

abbrev pub passed_on : Side → Method → ObjId → Move
passed_on home m id = move.Next (task.Perform m id home true)

module _ (home : Side) (d : Data) (y : ReflectFrame) (m : Method) (id : ObjId) where
  pub sure-asked : AreIn d (reflect_held y) → AreIn d (HeldObject id ∷ method_held id m)
      → Sure home d (asking (names_of d) home.0 y m id finished) (asked home y m id)
  sure-asked i k =
      Sure-wait home d (x.Reflect y) (task.Perform m id home true) (asking (names_of d) home.0 y m id finished) _
      (λ log. refl) tt (λ q g. refl)
      (all-both (HeldIn d) (reflect_held y) (HeldObject id ∷ method_held id m) i k)

  pub leaves-asked : (wanted : Sort) → Holds d home (reflect_held y) → Holds d home (HeldObject id ∷ method_held id m)
      → fits (method_gives m) (reflect_waits y) ≡ true → fits (reflect_gives y) wanted ≡ true
      → Leaves d home wanted (asked home y m id)
  leaves-asked wanted h k e g =
      leaves-wait d home wanted (x.Reflect y) (task.Perform m id home true) h k tt tt (e, g)

module _ (home : Side) (d : Data) (m : Method) (id : ObjId) where
  pub sure-passed : AreIn d (HeldObject id ∷ method_held id m)
      → Sure home d (answer (perform home.0 (method_in (names_of d) m) (object_in (names_of d) id)) finished)
      (passed_on home m id)
  sure-passed i = Sure-next home d (task.Perform m id home true) i

  pub leaves-passed : (wanted : Sort) → Holds d home (HeldObject id ∷ method_held id m)
      → fits (method_gives m) wanted ≡ true → Leaves d home wanted (passed_on home m id)
  leaves-passed wanted h e = record { holds = h; fit = tt; gives = e }

pub leaves-object : (d : Data) (home : Side) (id : ObjId) (wanted : Sort) → MayHold d home (HeldObject id)
    → fits AnObject wanted ≡ true → Leaves d home wanted (given (v.Object id))
leaves-object d home id wanted h e =
    leaves-fit d home AnObject wanted e (given (v.Object id))
    (ends d home AnObject (o.Normal (a.Value (v.Object id))) tt (object-value d home id h, tt))

-- ---- parts

pub record Done (home : Side) (wanted : Sort) (r : Result Move Halt) (d d' : Data) (f f' : ℕ) (p : Graph → Row)
    : Type 0 where
  pub part : Part home r d d' f f' p
  pub keeps : KeepsBy home wanted r d d'

module _ (home : Side) (wanted : Sort) where
  pub done-sure : (m : Move) (d : Data) (f : ℕ) (p : Graph → Row) → IsReady d → Sure home d p m → Leaves d home wanted m
      → Done home wanted (Ok m) d d f f p
  done-sure m d f p r s l = record {
    part = Part-sure home d f p m s;
    keeps = keeps-same home wanted (Ok m) d r l;
  }

  -- another way to write it
  pub done-by : (r : Result Move Halt) (d d' : Data) (f f' : ℕ) (p q : Graph → Row)
      → ((log : List Item) → p (Image d log) ≡ q (Image d log)) → Done home wanted r d d' f f' q
      → Done home wanted r d d' f f' p
  done-by r d d' f f' p q e h = record { part = Part-by home r d d' f f' p q e h.part; keeps = h.keeps }

  pub done-passed : (r : Result Move Halt) (d1 d2 d3 : Data) (f1 f2 f3 : ℕ) (p q : Graph → Row)
      → Passes d1 d2 f1 f2 p q → Changed home d1 d2 → Done home wanted r d2 d3 f2 f3 q
      → Done home wanted r d1 d3 f1 f3 p
  done-passed r d1 d2 d3 f1 f2 f3 p q s c h = record {
    part = Part-passed home r d1 d2 d3 f1 f2 f3 p q s h.part;
    keeps = keeps-then home wanted r d1 d2 d3 c h.keeps;
  }

  -- a charge was paid
  pub done-paid : (r : Result Move Halt) (d d' : Data) (n f f1 f2 : ℕ) (p : Graph → Row) → f1 + n ≡ f → IsReady d
      → Done home wanted r d d' f1 f2 p → Done home wanted r d d' f f2 (charged_by n p)
  done-paid r d d' n f f1 f2 p e s h =
      done-passed r d d d' f f1 f2 (charged_by n p) p (Passes-paid d n f f1 p e) (changed-same home d s) h

  pub done-unpaid : (d : Data) (n f : ℕ) (p : Graph → Row) → f < n → IsReady d
      → Done home wanted (Err SpentHalt) d d f f (charged_by n p)
  done-unpaid d n f p e r = record {
    part = Part-unpaid home d n f p e;
    keeps = keeps-halted home wanted SpentHalt d d (changed-same home d r);
  }

  pub halted : (halt : Halt) (d : Data) → IsReady d → KeepsBy home wanted (Err halt) d d
  halted halt d r = keeps-halted home wanted halt d d (changed-same home d r)

module _ (home : Side) (d : Data) (f : ℕ) (r : IsReady d) (p : Graph → Row) where
  -- the row ends with a value
  pub done-value : (y : Value) → MayHold d home (HeldValue y)
      → ((log : List Item) → p (Image d log) ≡ is_value (Resolve (names_of d) y) finished (Image d log))
      → Done home AValue (Ok (given y)) d d f f p
  done-value y h e =
      done-by home AValue (Ok (given y)) d d f f p (is_value (Resolve (names_of d) y) finished) e
      (done-sure home AValue (given y) d f (is_value (Resolve (names_of d) y) finished) r (Sure-value home d y h.within)
      (leaves-value d home y h))

  -- or with an object
  pub done-object : (id : ObjId) (wanted : Sort) → MayHold d home (HeldObject id) → fits AnObject wanted ≡ true
      → ((log : List Item) → p (Image d log) ≡ is_value (object_in (names_of d) id) finished (Image d log))
      → Done home wanted (Ok (given (v.Object id))) d d f f p
  done-object id wanted h g e =
      done-by home wanted (Ok (given (v.Object id))) d d f f p (is_value (object_in (names_of d) id) finished) e
      (done-sure home wanted (given (v.Object id)) d f (is_value (object_in (names_of d) id) finished) r
      (Sure-value home d (v.Object id) h.within) (leaves-object d home id wanted h g))

  -- a method of an object is asked
  pub done-asked : (y : ReflectFrame) (m : Method) (id : ObjId) (wanted : Sort) → Holds d home (reflect_held y)
      → Holds d home (HeldObject id ∷ method_held id m) → fits (method_gives m) (reflect_waits y) ≡ true
      → fits (reflect_gives y) wanted ≡ true
      → ((log : List Item) → p (Image d log) ≡ asking (names_of d) home.0 y m id finished (Image d log))
      → Done home wanted (Ok (asked home y m id)) d d f f p
  done-asked y m id wanted h k e g q =
      done-by home wanted (Ok (asked home y m id)) d d f f p (asking (names_of d) home.0 y m id finished) q
      (done-sure home wanted (asked home y m id) d f (asking (names_of d) home.0 y m id finished) r
      (sure-asked home d y m id (holds-in d home (reflect_held y) h)
      (holds-in d home (HeldObject id ∷ method_held id m) k))
      (leaves-asked home d y m id wanted h k e g))

  -- it ends with a method of an object
  pub done-passed-on : (m : Method) (id : ObjId) (wanted : Sort) → Holds d home (HeldObject id ∷ method_held id m)
      → fits (method_gives m) wanted ≡ true
      → ((log : List Item) → p (Image d log)
      ≡ answer (perform home.0 (method_in (names_of d) m) (object_in (names_of d) id)) finished (Image d log))
      → Done home wanted (Ok (passed_on home m id)) d d f f p
  done-passed-on m id wanted h e q =
      done-by home wanted (Ok (passed_on home m id)) d d f f p
      (answer (perform home.0 (method_in (names_of d) m) (object_in (names_of d) id)) finished) q
      (done-sure home wanted (passed_on home m id) d f
      (answer (perform home.0 (method_in (names_of d) m) (object_in (names_of d) id)) finished) r
      (sure-passed home d m id (holds-in d home (HeldObject id ∷ method_held id m) h))
      (leaves-passed home d m id wanted h e))

-- ---- what they keep

module _ (home : Side) (d : Data) (r : IsReady d) where
  pub keeps-given : (y : Value) → MayHold d home (HeldValue y) → KeepsBy home AValue (Ok (given y)) d d
  keeps-given y h = keeps-same home AValue (Ok (given y)) d r (leaves-value d home y h)

  pub keeps-object : (id : ObjId) (wanted : Sort) → MayHold d home (HeldObject id) → fits AnObject wanted ≡ true
      → KeepsBy home wanted (Ok (given (v.Object id))) d d
  keeps-object id wanted h g =
      keeps-same home wanted (Ok (given (v.Object id))) d r (leaves-object d home id wanted h g)

  pub keeps-asked : (y : ReflectFrame) (m : Method) (id : ObjId) (wanted : Sort) → Holds d home (reflect_held y)
      → Holds d home (HeldObject id ∷ method_held id m) → fits (method_gives m) (reflect_waits y) ≡ true
      → fits (reflect_gives y) wanted ≡ true → KeepsBy home wanted (Ok (asked home y m id)) d d
  keeps-asked y m id wanted h k e g =
      keeps-same home wanted (Ok (asked home y m id)) d r (leaves-asked home d y m id wanted h k e g)

  pub keeps-passed-on : (m : Method) (id : ObjId) (wanted : Sort) → Holds d home (HeldObject id ∷ method_held id m)
      → fits (method_gives m) wanted ≡ true → KeepsBy home wanted (Ok (passed_on home m id)) d d
  keeps-passed-on m id wanted h e =
      keeps-same home wanted (Ok (passed_on home m id)) d r (leaves-passed home d m id wanted h e)

-- what gives a sort gives each that it fits
pub keeps-fit : (home : Side) (d d' : Data) (one other : Sort) → fits one other ≡ true → (r : Result Move Halt)
    → KeepsBy home one r d d' → KeepsBy home other r d d'
keeps-fit home d d' one other e (Ok m) h =
    record { changed = h.changed; leaves = leaves-fit d' home one other e m h.leaves }
keeps-fit home d d' one other e (Err halt) h = record { changed = h.changed; leaves = tt }
