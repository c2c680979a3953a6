-- Array, with another new target or without (ECMA-262 23.1.1.1, 10.1.14).
use Rattle.std.proofs.Common.{◌∙◌, ◌≡◌, ◌||◌, Bool, List, ap, codes, false, true, ℕ}
use Rattle.std.specs.Prelude.{if◌then◌else◌}
use Rattle.mb_arrayapi.specs.machine.Constructing.{array_place}
use Rattle.mb_base.specs.declared.value.ObjId.{ObjId}
use Rattle.mb_call.proofs.Objects.{object-defined}
use Rattle.mb_model.specs.BuiltIns.Arguments.{asked_prototype, prototype_or}
use Rattle.mb_model.specs.BuiltIns.Arrays.{array_fn, array_from}
use Rattle.mb_model.specs.Operations.Calls.{get}
use Rattle.mb_model.specs.Task.{Answer}
use Rattle.mb_model.specs.Writing.{◌>>=◌, Does, give}
use Rattle.mb_world.specs.Image.{Names, object_in}
use Rattle.mb_world.specs.Key.{Named}
use Rattle.mb_world.specs.Standard.{array_prototype}
use Rattle.mb_world.specs.Value.{BuiltIn, Val, same_value}

module _ (n : Names) (s : ℕ) (vs : List Val) (asked : ObjId) where
  abbrev o : Val
  o = object_in n asked

  abbrev made : Bool → Does Answer
  made b =
      (let p : Does Val = if b then give array_prototype else asked_prototype s array_prototype o in p)
      >>= array_from s vs

  told : (b : Bool) → same_value (BuiltIn array_place) o ≡ b → array_fn s vs (BuiltIn array_place) o ≡ made b
  told b e =
      ap (λ (u : Bool). made (u || same_value (BuiltIn array_place) o)) (object-defined n asked)
      ∙ ap made e

  -- the new target is Array itself
  pub fn-own : same_value (BuiltIn array_place) o ≡ true
      → array_fn s vs (BuiltIn array_place) o ≡ array_from s vs array_prototype
  fn-own e = told true e

  -- another
  pub fn-asked : same_value (BuiltIn array_place) o ≡ false
      → array_fn s vs (BuiltIn array_place) o
      ≡ (get s o (Named (codes "prototype")) >>= (λ p. array_from s vs (prototype_or array_prototype p)))
  fn-asked e = told false e
