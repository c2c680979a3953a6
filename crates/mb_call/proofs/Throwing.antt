-- A throw is an end for each side that acts.
use Rattle.std.proofs.Common.{◌≡◌, ◌∙◌, ◌∷◌, Bool, Err, Ok, Result, [], false, refl, subst, sym, true, ℕ}
use Rattle.std.specs.Prelude.{IfOk}
use Rattle.mb_base.specs.declared.value.Side.{Side}
use Rattle.mb_base.specs.declared.value.Value.{Value}
use Rattle.mb_call.specs.machine.Throwing.{Throws}
use Rattle.mb_frames.proofs.HeldLess.{all-anywhere}
use Rattle.mb_frames.specs.Held.{HeldValue}
use Rattle.mb_frames.specs.Passing.{Part}
use Rattle.mb_frames.specs.Ready.{Changed, KeepsBy, Leaves}
use Rattle.mb_frames.specs.Sorts.{Sort}
use Rattle.mb_frames.specs.Stepping.{Step, Written}
use Rattle.mb_frames.specs.declared.frame.Move.{Move}
use Rattle.mb_frames.specs.declared.frame.Move.TheVariants as move
use Rattle.mb_frames.specs.declared.machine.Halt.{Halt}
use Rattle.mb_frames.specs.declared.machine.Halt.TheVariants.{NoMemory, Spent as SpentHalt}
use Rattle.mb_frames.specs.declared.task.Outcome.{Outcome}
use Rattle.mb_frames.specs.declared.task.Outcome.TheVariants as o
use Rattle.mb_model.specs.Writing.{Row}
use Rattle.mb_world.specs.Data.{Data}
use Rattle.mb_world.specs.Graph.{Graph}

-- ---- steps

done-step : (one other : Side) (begun : Bool) (y : Outcome) (d d' : Data) (f f' : ℕ) (l l' : Written) (p : Graph → Row)
    → Step one begun (Ok (move.Done y)) d d' f f' l l' p → Step other begun (Ok (move.Done y)) d d' f f' l l' p
done-step one other begun y d d' f f' l l' p h = record {
  added = h.added;
  logged = h.logged;
  same = h.same;
  paid = h.paid;
  left = h.left;
  may = h.may;
  ids = h.ids;
  grew = h.grew;
}

pub thrown-part : (one other : Side) (r : Result Move Halt) (d d' : Data) (f f' : ℕ) (p : Graph → Row) → IfOk r Throws
    → Part one r d d' f f' p → Part other r d d' f f' p
thrown-part one other (Ok m) d d' f f' p t h = λ begun l.
    subst (λ (z : Move). Step other begun (Ok z) d d' f f' l l p) (sym t.1)
    (done-step one other begun (o.Throw t.0) d d' f f' l l p
    (subst (λ (z : Move). Step one begun (Ok z) d d' f f' l l p) t.1 (h begun l)))
thrown-part one other (Err SpentHalt) d d' f f' p t h = h
thrown-part one other (Err NoMemory) d d' f f' p t h = h

-- ---- what is kept

module _ (one other : Side) (d d' : Data) (same : d.joined ≡ false → other ≡ one) where
  changed-anywhere : Changed one d d' → Changed other d d'
  changed-anywhere k = record {
    ready = k.ready;
    found = k.found;
    rules = k.rules;
    entries = k.entries;
    kept = λ u. rw (same u) (k.kept u);
  }

  throw-left : (wanted : Sort) (x : Value) → Changed one d d' → Leaves d' one wanted (move.Done (o.Throw x))
      → Leaves d' other wanted (move.Done (o.Throw x))
  throw-left wanted x k h = by d'.joined refl
    where
      by : (b : Bool) → d'.joined ≡ b → Leaves d' other wanted (move.Done (o.Throw x))
      by true j = record {
        holds = all-anywhere d' one other j (HeldValue x ∷ []) (refl, tt) h.holds;
        fit = tt;
        gives = h.gives;
      }
      by false j = rw (same (sym k.found.grew.joined ∙ j)) h

  pub thrown-keeps : (wanted : Sort) (r : Result Move Halt) → IfOk r Throws → KeepsBy one wanted r d d'
      → KeepsBy other wanted r d d'
  thrown-keeps wanted (Ok m) t h = record {
    changed = changed-anywhere h.changed;
    leaves = subst (Leaves d' other wanted) (sym t.1)
        (throw-left wanted t.0 h.changed (subst (Leaves d' one wanted) t.1 h.leaves));
  }
  thrown-keeps wanted (Err halt) t h = record { changed = changed-anywhere h.changed; leaves = tt }
