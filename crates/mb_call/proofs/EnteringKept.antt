-- What is held of a function stays held as it is entered.
use Rattle.std.proofs.Common.{◌∷◌, List, Ok, []}
use Rattle.mb_base.specs.declared.value.ScopeId.{ScopeId}
use Rattle.mb_base.specs.declared.value.Value.{Value}
use Rattle.mb_call.specs.Ours.{Acts}
use Rattle.mb_call.specs.machine.Functions.{this_in}
use Rattle.mb_frames.proofs.Keeping.{inside-still}
use Rattle.mb_frames.proofs.Leaving.{holds-still}
use Rattle.mb_frames.specs.Held.{Held, HeldNode, HeldScope, HeldValue, HeldValues}
use Rattle.mb_frames.specs.Keeping.{KeepsAnswer, none_held, scope_held}
use Rattle.mb_frames.specs.Kinds.{is_function_form}
use Rattle.mb_frames.specs.Ready.{Holds}
use Rattle.mb_world.specs.Data.{Data}
use Rattle.mb_world.specs.declared.cell.Code.{Code}

module _ (code : Code) (this : Value) (arguments : List Value) where
  abbrev pub of-function : ScopeId → List Held
  of-function scope = HeldScope scope ∷ HeldNode is_function_form code.node.0 ∷ HeldValue (this_in code this)
      ∷ HeldValues arguments ∷ []

  -- in the scope that was entered
  pub entered-acts : (d d1 : Data) (scope : ScopeId) → Acts d code.side (of-function code.scope)
      → KeepsAnswer code.side scope_held (Ok scope) d d1 → Acts d1 code.side (of-function scope)
  entered-acts d d1 scope a k =
      let h : Holds d1 code.side (of-function code.scope)
      = holds-still code.side d d1 a.ready k.changed (of-function code.scope) a.holds in
      record {
        ready = k.changed.ready;
        side = inside-still code.side d d1 k.changed a.side;
        holds = (k.holds.0, h.1);
      }

  -- and after a change
  pub still-acts : (d d1 : Data) (scope : ScopeId) → Acts d code.side (of-function scope)
      → KeepsAnswer code.side none_held (Ok tt) d d1 → Acts d1 code.side (of-function scope)
  still-acts d d1 scope a k = record {
    ready = k.changed.ready;
    side = inside-still code.side d d1 k.changed a.side;
    holds = holds-still code.side d d1 a.ready k.changed (of-function scope) a.holds;
  }
