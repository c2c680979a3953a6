-- What is entered: a function of a script, whose owner acts in it.
use Rattle.std.proofs.Common.{◌<◌, ◌≡◌, ◌∙◌, ◌∷◌, List, None, Option, Some, [], ap, refl, slice_get, sym, true}
use Rattle.std.proofs.Common.{true≢false}
use Rattle.std.specs.Prelude.{unwrap_or}
use Rattle.mb_base.specs.declared.value.ObjId.{ObjId}
use Rattle.mb_base.specs.declared.value.Value.{Value}
use Rattle.mb_call.specs.Ours.{Acts, is_entered}
use Rattle.mb_call.specs.machine.Functions.{this_in}
use Rattle.mb_frames.proofs.Forms.{forms-are}
use Rattle.mb_frames.proofs.HeldCells.{cell-held, code-held}
use Rattle.mb_frames.specs.Found.{HoldsCode}
use Rattle.mb_frames.specs.Held.{HeldNode, HeldScope, HeldValue, HeldValues}
use Rattle.mb_frames.specs.Holding.{task_held}
use Rattle.mb_frames.specs.Kinds.{is_function_form}
use Rattle.mb_frames.specs.Ready.{IsReady, MayHold}
use Rattle.mb_frames.specs.Resolved.{values_in}
use Rattle.mb_frames.specs.Standing.{forms_at}
use Rattle.mb_frames.specs.Wholeness.{is_function_kind}
use Rattle.mb_frames.specs.declared.task.Task.TheVariants as task
use Rattle.mb_model.specs.Meaning.{finished}
use Rattle.mb_model.specs.Nodes.Functions.{enter_form, enter_kind, enter_row, enter_thing}
use Rattle.mb_world.proofs.AfterCalls.{thing-at}
use Rattle.mb_world.specs.Data.{Data, cell_at, is_counted, kind_stand}
use Rattle.mb_world.specs.Form.{Form}
use Rattle.mb_world.specs.Graph.{Item, Thing}
use Rattle.mb_world.specs.Ids.{Maybe}
use Rattle.mb_world.specs.Image.{Image, Names, Resolve, code_in, kind_in, names_of, object_in}
use Rattle.mb_world.specs.Value.{Val}
use Rattle.mb_world.specs.declared.cell.Cell.{Cell}
use Rattle.mb_world.specs.declared.cell.CellKind.{CellKind}
use Rattle.mb_world.specs.declared.cell.CellKind.TheVariants as kind
use Rattle.mb_world.specs.declared.cell.Code.{Code}

-- what is no Revoker, and may be entered, is a function
pub entered-function : (k : CellKind) → is_function_kind k ≡ true → is_entered k ≡ true
    → ((code : Code) → k ≡ kind.Function code → ⊥) → ⊥
entered-function (kind.Function code) h e f = f code refl
entered-function (kind.Revoker proxy) h e f = true≢false (sym e)
entered-function k h e f = true≢false (sym h)

module _ (d : Data) (r : IsReady d) (id : ObjId) (c : Cell) (there : cell_at d id ≡ Some c) (code : Code)
    (k : c.kind ≡ kind.Function code) where
  held-code : HoldsCode d c.home code
  held-code = code-held d r id c there code k

  -- `this` as the function has it
  this-held : (this : Value) → MayHold d code.side (HeldValue this)
      → MayHold d code.side (HeldValue (this_in code this))
  this-held this h = by code.bound_this (rw k at (cell-held d r id c there code.side (λ u. sym held-code.side)).kind)
    where
      by : (o : Option Value) → Maybe (λ x. MayHold d code.side (HeldValue x)) o
          → MayHold d code.side (HeldValue (unwrap_or o this))
      by None q = h
      by (Some x) q = q

  pub enters-acts : (this : Value) (arguments : List Value)
      → Acts d code.side (task_held (task.Enter id this arguments))
      → Acts d code.side (HeldScope code.scope ∷ HeldNode is_function_form code.node.0
      ∷ HeldValue (this_in code this) ∷ HeldValues arguments ∷ [])
  enters-acts this arguments a = record {
    ready = a.ready;
    side = a.side;
    holds = (held-code.scope, (held-code.node, (this-held this a.holds.1.0, (a.holds.1.1.0, tt))));
  }

  -- its row goes on by the form of its node
  pub entered-row : code.side.0 < d.sides → (this : Value) (arguments : List Value) (log : List Item)
      → enter_row (object_in (names_of d) id) (Resolve (names_of d) this) (values_in (names_of d) arguments) finished
      (Image d log)
      ≡ enter_form (code_in (names_of d) code) (Resolve (names_of d) this) (values_in (names_of d) arguments)
      (slice_get (forms_at d code.side) code.node.0) finished (Image d log)
  entered-row inside this arguments log =
      let n : Names = names_of d in
      let y : Val = Resolve n this in
      let vs : List Val = values_in n arguments in
      ap (λ (o : Option Thing). enter_thing y vs o finished (Image d log))
      (thing-at d id c log there (ap (λ (z : CellKind). is_counted (kind_stand z)) k))
      ∙ ap (λ (z : CellKind). enter_kind y vs (kind_in n c.slots z) finished (Image d log)) k
      ∙ ap (λ (fs : List Form). enter_form (code_in n code) y vs (slice_get fs code.node.0) finished (Image d log))
      (forms-are d code.side log inside)
