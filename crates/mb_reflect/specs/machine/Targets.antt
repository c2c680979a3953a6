-- New targets of constructors, and the prototypes that they give.
use Rattle.std.specs.Prelude.{Bool, None, Option, Some, codes, false, true, ◌||◌, ◌≡◌, ℕ}
use Rattle.mb_base.specs.declared.value.ObjId.{ObjId}
use Rattle.mb_base.specs.declared.value.Value.{Value}
use Rattle.mb_base.specs.declared.value.Value.TheVariants as v
use Rattle.mb_frames.specs.Rest.Reflecting.{reflect_rest}
use Rattle.mb_frames.specs.declared.reflecting.ReflectFrame.{ReflectFrame}
use Rattle.mb_model.specs.Task.{Answer, Get}
use Rattle.mb_model.specs.Writing.{◌>>=◌, Does, answer, perform}
use Rattle.mb_world.specs.Data.{Data}
use Rattle.mb_world.specs.Image.{Names, Resolve, names_of}
use Rattle.mb_world.specs.Key.{Named}
use Rattle.mb_world.specs.Value.{BuiltIn, Val, is_undefined, same_value}

-- no new target, or the constructor itself
abbrev pub is_own_target : ℕ → Val → Bool
is_own_target place target = is_undefined target || same_value (BuiltIn place) target

-- the object that is another new target, if there is one
abbrev pub IsOther : Data → ℕ → Value → Option ObjId → Type 0
IsOther d place target None = is_own_target place (Resolve (names_of d) target) ≡ true
IsOther d place target (Some id) =
    (target ≡ v.Object id) × (is_own_target place (Resolve (names_of d) target) ≡ false)

-- the `prototype` of a new target is got, and a frame goes on with it
abbrev pub getting : Names → ℕ → ReflectFrame → Val → Does Answer
getting n s frame target = answer (perform s (Get (Named (codes "prototype")) target) target) >>= reflect_rest n s frame
