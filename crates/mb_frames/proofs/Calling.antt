-- What the steps of calls, constructions and walks leave.
use Rattle.mb_base.specs.declared.value.ObjId.{ObjId}
use Rattle.mb_base.specs.declared.value.Side.{Side}
use Rattle.mb_base.specs.declared.value.Value.{Value}
use Rattle.mb_base.specs.declared.value.Value.TheVariants as v
use Rattle.mb_frames.proofs.HeldAs.{function-callable, stands-as}
use Rattle.mb_frames.proofs.HeldLess.{constructor-value, undefined-held}
use Rattle.mb_frames.specs.Held.{HeldFunction, HeldObject, HeldPlace, HeldPrototype, HeldValue, HeldValues, HeldVisited}
use Rattle.mb_frames.specs.Holding.{method_held}
use Rattle.mb_frames.specs.Ready.{Holds, IsReady, Leaves, MayHold}
use Rattle.mb_frames.specs.Real.{IsReal}
use Rattle.mb_frames.specs.Sorts.{AFlag, AValue, AnObject, Sort, fits, run_gives}
use Rattle.mb_frames.specs.Wholeness.{IsConstructor, MayWalk}
use Rattle.mb_frames.specs.declared.calls.CallFrame.TheVariants as c
use Rattle.mb_frames.specs.declared.frame.Frame.TheVariants as x
use Rattle.mb_frames.specs.declared.frame.Move.TheVariants as move
use Rattle.mb_frames.specs.declared.task.Method.TheVariants as method
use Rattle.mb_frames.specs.declared.task.Task.TheVariants as task
use Rattle.mb_world.specs.Contained.{IsOwn}
use Rattle.mb_world.specs.Data.{Data, cell_at}
use Rattle.mb_world.specs.Image.{Image}
use Rattle.mb_world.specs.Intrinsics.{Intrinsic, intrinsic}
use Rattle.mb_world.specs.Objects.{intrinsic_is, kind_constructs, thing_at, thing_is}
use Rattle.mb_world.specs.Standard.{constructs, standard, standard_at}
use Rattle.mb_world.specs.Value.{Val}
use Rattle.mb_world.specs.declared.cell.Cell.{Cell}
use Rattle.mb_world.specs.declared.cell.CellKind.TheVariants.{BuiltIn}
use Rattle.mb_world.specs.Data.{kind_stand}
use Rattle.std.proofs.Common.{Bool, List, None, Option, Some, [], ap, option_map, refl, sym, true, true≢false, ℕ, ◌∙◌, ◌∷◌, ◌≡◌}
use Rattle.std.proofs.lemmas.List.Elements.{All-nil}

-- ---- built-ins

in-table : (place : ℕ) → thing_is kind_constructs (standard_at place) ≡ true
    → intrinsic_is constructs (intrinsic place) ≡ true
in-table place h = by (intrinsic place) refl
  where
    by : (o : Option Intrinsic) → intrinsic place ≡ o → intrinsic_is constructs (intrinsic place) ≡ true
    by None q =
        absurd (true≢false (sym h ∙ ap (λ (o : Option Intrinsic). thing_is kind_constructs (option_map (standard place) o)) q))
    by (Some i) q = sym (ap (λ (o : Option Intrinsic). thing_is kind_constructs (option_map (standard place) o)) q) ∙ h

target-gives : (d : Data) (target : Value) → IsConstructor d target → run_gives target true ≡ AnObject
target-gives d v.Undefined h = absurd (true≢false (sym h))
target-gives d v.Null h = refl
target-gives d (v.Bool b) h = refl
target-gives d (v.Whole z) h = refl
target-gives d (v.Text t) h = refl
target-gives d (v.Symbol t) h = refl
target-gives d (v.Object o) h = refl

module _ (d : Data) (home : Side) (r : IsReady d) (id : ObjId) (cell : Cell) (e : cell_at d id ≡ Some cell) (place : ℕ)
    (k : cell.kind ≡ BuiltIn place) where
  pub place-held : MayHold d home (HeldPlace place)
  place-held = record { within = tt; sound = r.of_table id place cell e k; own = λ u. All-nil (IsOwn d home) }

  constructs-place : IsConstructor d (v.Object id) → intrinsic_is constructs (intrinsic place) ≡ true
  constructs-place h = in-table place
      (ap (λ (y : Val). thing_is kind_constructs (thing_at (Image d []) y))
      (sym (stands-as d id cell e place (ap kind_stand k))) ∙ h)

  -- [[Call]] of a built-in (ECMA-262 10.3.1)
  pub call-runs : (this : Value) (arguments : List Value) → Holds d home (HeldValue this ∷ HeldValues arguments ∷ [])
      → Leaves d home AValue (move.Next (task.Run place this arguments v.Undefined))
  call-runs this arguments h =
      record { holds = (place-held, (h.0, (h.1.0, (undefined-held d home, tt)))); fit = tt; gives = refl }

  -- [[Construct]] of a built-in (ECMA-262 10.3.2)
  pub construct-runs : (arguments : List Value) (target : Value)
      → Holds d home (method_held id (method.Construct arguments target))
      → Leaves d home AnObject (move.Next (task.Run place v.Undefined arguments target))
  construct-runs arguments target h = record {
    holds = (place-held, (undefined-held d home, (h.0, (constructor-value d home target h.1.0, tt))));
    fit = tt;
    gives =
        ap (λ (b : Bool). fits (run_gives target b) AnObject) (constructs-place h.1.1.0.sound)
        ∙ ap (λ (s : Sort). fits s AnObject) (target-gives d target h.1.0.sound);
  }

-- ---- functions, and the walk

module _ (d : Data) (home : Side) where
  -- the body of a constructor (ECMA-262 10.2.2)
  pub construct-enters : (made function : ObjId) (this : Value) (arguments : List Value)
      → Holds d home (HeldObject made ∷ HeldValue this ∷ HeldValues arguments ∷ HeldFunction function ∷ [])
      → Leaves d home AnObject (move.Wait (x.Call (c.ConstructBody made)) (task.Enter function this arguments))
  construct-enters made function this arguments h = record {
    holds = (h.0, (function-callable d home function h.1.1.1.0, (h.1.0, (h.1.1.0, (h.1.1.1.0, tt)))));
    fit = (tt, tt);
    gives = (refl, refl);
  }

  -- the walk of setPrototypeOf goes on (ECMA-262 10.1.2.1)
  pub walks-on : (object : ObjId) (given next : Value) (cell : Cell) → cell_at d object ≡ Some cell → MayWalk cell
      → IsReal d next → Holds d home (HeldObject object ∷ HeldPrototype given ∷ HeldVisited next ∷ [])
      → Leaves d home AFlag (move.Anew (task.Walk object given next))
  walks-on object given next cell e w n h = record { holds = h; fit = (rw e w, n); gives = refl }
