-- A part of a row that throws a fresh error keeps a world ready.
use Rattle.mb_base.specs.declared.value.ObjId.{ObjId}
use Rattle.mb_base.specs.declared.value.Side.{Side}
use Rattle.mb_base.specs.declared.value.Value.TheVariants as v
use Rattle.mb_frames.proofs.Errors.{built-in-own}
use Rattle.mb_frames.proofs.Linking.{fits-same}
use Rattle.mb_frames.proofs.Readying.{changed-same}
use Rattle.mb_frames.proofs.Renewing.{made-changed}
use Rattle.mb_frames.specs.Ready.{IsMade, Keeps, MayHold}
use Rattle.mb_frames.specs.Held.{HeldValue}
use Rattle.mb_frames.specs.Sorts.{Sort}
use Rattle.mb_frames.specs.declared.frame.Move.{Move}
use Rattle.mb_frames.specs.declared.frame.Move.TheVariants as move
use Rattle.mb_frames.specs.declared.machine.Halt.{Halt}
use Rattle.mb_frames.specs.declared.task.Outcome.TheVariants as o
use Rattle.mb_world.specs.Contained.{IsOwn}
use Rattle.mb_world.specs.Data.{Data, built_in_of, cell_at, made, new_cell}
use Rattle.mb_world.specs.Formed.{InRange}
use Rattle.mb_world.specs.Ids.{ObjIn}
use Rattle.mb_world.specs.declared.cell.Cell.{Cell}
use Rattle.mb_world.specs.declared.cell.CellKind.TheVariants as kind
use Rattle.mb_world.specs.declared.cell.ErrorKind.{ErrorKind}
use Rattle.std.proofs.Common.{Err, List, None, Ok, Result, Some, [], arith, length, length-append, refl, slice_get, sym, true≢false, ℕ, ◌++◌, ◌∷◌, ◌≡◌}
use Rattle.std.proofs.lemmas.List.Elements.{All-cons, All-nil}
use Rattle.std.specs.Prelude.{IsErr}

pub last-there : {A : Type 0} (xs : List A) (x : A) → slice_get (xs ++ (x ∷ [])) (length xs) ≡ Some x
last-there [] x = refl
last-there (y ∷ ys) x = last-there ys x

-- nothing changes where it halts
pub halted-keeps : (home : Side) (wanted : Sort) (result : Result Move Halt) → IsErr result → (d d' : Data) → d' ≡ d
    → Keeps home wanted [] result d d'
halted-keeps home wanted (Ok m) h d d' e = absurd (true≢false (sym h))
halted-keeps home wanted (Err halt) h d d' e =
    λ r inside held. record { changed = rw e (changed-same home d r); leaves = tt }

module _ (home : Side) (d : Data) (id new : ObjId) (place : ℕ) (error : ErrorKind) (h : ObjIn d id)
    (b : built_in_of d.joined d.cells home place ≡ Some id) (n : new.0 ≡ length d.cells) where
  abbrev later : Data
  later = made d home (kind.Fault error) (v.Object id) None

  abbrev fault : Cell
  fault = new_cell d.texts home (kind.Fault error) (v.Object id) None

  fault-made : IsMade d home (kind.Fault error) (v.Object id) None
  fault-made = record {
    counted = refl;
    kind_in = tt;
    proto_in = h;
    label_in = tt;
    prototype = tt;
    wholes = All-nil InRange;
    kind = tt;
    unlabelled = λ e. refl;
    kind_own = λ u. All-nil (IsOwn d home);
    proto_own = λ u. All-cons (IsOwn d home) id [] (built-in-own d home place id h u b) (All-nil (IsOwn d home));
  }

  fault-there : cell_at later new ≡ Some fault
  fault-there = rw n (last-there d.cells fault)

  fault-own : IsOwn later home new
  fault-own = rw fault-there (refl, refl)

  fault-held : MayHold later home (HeldValue (v.Object new))
  fault-held = record {
    within = omega (arith, n, length-append d.cells (fault ∷ []));
    sound = tt;
    own = λ u. All-cons (IsOwn later home) new [] fault-own (All-nil (IsOwn later home));
  }

  thrown-keeps : (wanted : Sort) → Keeps home wanted [] (Ok (move.Done (o.Throw (v.Object new)))) d later
  thrown-keeps wanted = λ r inside held. record {
    changed = made-changed home d (kind.Fault error) (v.Object id) None r inside fault-made;
    leaves = record { holds = (fault-held, tt); fit = tt; gives = (wanted, tt, fits-same wanted) };
  }

pub error-keeps : (home : Side) (wanted : Sort) (d d' : Data) (id new : ObjId) (place : ℕ) (error : ErrorKind)
    → ObjIn d id → built_in_of d.joined d.cells home place ≡ Some id
    → d' ≡ made d home (kind.Fault error) (v.Object id) None → new.0 ≡ length d.cells
    → Keeps home wanted [] (Ok (move.Done (o.Throw (v.Object new)))) d d'
error-keeps home wanted d d' id new place error h b e n = rw e (thrown-keeps home d id new place error h b n wanted)
