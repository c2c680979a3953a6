-- What is known of a property goes on being known of what a side has for it.
use Rattle.std.proofs.Common.{◌≡◌, Result, Ok, Err}
use Rattle.std.specs.Prelude.{All, IfOk}
use Rattle.mb_base.specs.declared.value.Side.{Side}
use Rattle.mb_base.specs.declared.value.Value.{Value}
use Rattle.mb_desc.specs.declared.descriptor.Full.{Full}
use Rattle.mb_world.specs.Data.{Data}
use Rattle.mb_world.specs.Ids.{FullIn}
use Rattle.mb_world.specs.Image.{names_of, full_in}
use Rattle.mb_world.specs.Laws.{Becomes, same_graph}
use Rattle.mb_world.specs.Contained.{IsOwn, in_full}
use Rattle.mb_shadow.specs.Seeing.{IsPropertyOf}
use Rattle.mb_shadow.proofs.Forms.{callables-as, ranges-as}

pub property-brought : {E : Type 0} (d d' : Data) → Becomes d d' same_graph → (from to : Side) (p : Full Value) (r : Result (Full Value) E)
    → IsPropertyOf d from p → IfOk r (FullIn d') → IfOk r (λ own. All (IsOwn d' to) (in_full own))
    → IfOk r (λ own. full_in (names_of d') own ≡ full_in (names_of d) p) → IfOk r (IsPropertyOf d' to)
property-brought d d' g from to p (Ok own) h within owned means = record {
  within = within;
  own = owned;
  callables = callables-as d d' g p own means h.callables;
  wholes = ranges-as (names_of d) (names_of d') p own means h.wholes;
}
property-brought d d' g from to p (Err e) h within owned means = tt
