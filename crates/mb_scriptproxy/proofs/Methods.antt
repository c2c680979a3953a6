-- Methods of Proxies that make no entry.
use Rattle.std.proofs.Common.{◌∙◌, ◌≡◌, Bool, List, Some, ap, false, refl, sym, true, true≢false}
use Rattle.mb_base.specs.declared.value.ObjId.{ObjId}
use Rattle.mb_base.specs.declared.value.Side.{Side}
use Rattle.mb_call.proofs.Due.{cell-foreign}
use Rattle.mb_call.specs.Due.{IsMethodTask, is_due, is_of_another}
use Rattle.mb_frames.specs.Held.{HeldObject}
use Rattle.mb_frames.specs.Ready.{IsReady, MayHold}
use Rattle.mb_frames.specs.Resolved.{method_in, task_in}
use Rattle.mb_frames.specs.Wholeness.{IsFitBegun}
use Rattle.mb_frames.specs.declared.task.Method.{Method}
use Rattle.mb_frames.specs.declared.task.Task.{Task}
use Rattle.mb_frames.specs.declared.task.Task.TheVariants as t
use Rattle.mb_model.specs.Meaning.{entering, entries_made, finished, perform_row, row}
use Rattle.mb_model.specs.Trace.Entries.{is_foreign_at, makes_entry, method_noted}
use Rattle.mb_scriptproxy.proofs.Performed.{proxy-thing}
use Rattle.mb_world.specs.Data.{Data, cell_at}
use Rattle.mb_world.specs.Formed.{IsProxyKind}
use Rattle.mb_world.specs.Graph.{Graph, Item}
use Rattle.mb_world.specs.Image.{Image, Names, names_of, object_in}
use Rattle.mb_world.specs.declared.cell.Cell.{Cell}

module _ (d : Data) (r : IsReady d) (home : Side) (object : ObjId) (h : MayHold d home (HeldObject object)) (c : Cell)
    (there : cell_at d object ≡ Some c) (k : IsProxyKind c.kind) (method : Method) (viewer : Side) (enters : Bool) where
  abbrev performs : Task
  performs = t.Perform method object viewer enters

  makes-none : is_due d home performs ≡ false → (log : List Item)
      → makes_entry enters home.0 (object_in (names_of d) object) (Image d log) ≡ false
  makes-none e log = by enters e
    where
      by : (b : Bool) → is_due d home (t.Perform method object viewer b) ≡ false
          → makes_entry b home.0 (object_in (names_of d) object) (Image d log) ≡ false
      by true q =
          ap (is_foreign_at home.0) (proxy-thing d r home object h c there k log)
          ∙ cell-foreign d home (Some c)
          ∙ ap (is_of_another home) (sym there)
          ∙ q
      by false q = refl

  -- the row of a method that makes no entry
  pub performed-row : is_due d home performs ≡ false → (log : List Item)
      → row (task_in (names_of d) home.0 performs) (Image d log)
      ≡ perform_row home.0 viewer.0 (object_in (names_of d) object) (method_in (names_of d) method) finished
      (Image d log)
  performed-row e log =
      let n : Names = names_of d in
      let g : Graph = Image d log in
      ap (λ (b : Bool). entering b (method_noted (entries_made g) home.0 (object_in n object) (method_in n method))
      (perform_row home.0 viewer.0 (object_in n object) (method_in n method) finished g)) (makes-none e log)

-- ---- tasks

-- only a method makes an entry
pub due-method : (d : Data) (home : Side) (y : Task) → is_due d home y ≡ true → IsMethodTask y
due-method d home (t.Perform method object viewer enters) e = tt
due-method d home y e = absurd (true≢false (sym e))

pub begun-free : (d : Data) (home : Side) (y : Task) → IsFitBegun d y → is_due d home y ≡ false
begun-free d home (t.Perform method object viewer true) h = absurd (true≢false h)
begun-free d home (t.Perform method object viewer false) h = refl
begun-free d home y h = refl
