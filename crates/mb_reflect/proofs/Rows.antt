-- Tests with which rows begin.
use Rattle.std.proofs.Common.{◌≡◌, Bool, Result, ap, false, refl, true, ℕ}
use Rattle.mb_base.specs.declared.value.ObjId.{ObjId}
use Rattle.mb_base.specs.declared.value.Side.{Side}
use Rattle.mb_base.specs.declared.value.Value.{Value}
use Rattle.mb_base.specs.declared.value.Value.TheVariants as v
use Rattle.mb_call.proofs.Objects.{no-object, object-defined}
use Rattle.mb_frames.specs.Held.{HeldPrototype, HeldValue}
use Rattle.mb_frames.specs.Ready.{MayHold}
use Rattle.mb_frames.specs.Sorts.{Sort}
use Rattle.mb_frames.specs.declared.frame.Move.{Move}
use Rattle.mb_frames.specs.declared.machine.Halt.{Halt}
use Rattle.mb_model.specs.Meaning.{finished}
use Rattle.mb_model.specs.Task.{Answer, Nothing}
use Rattle.mb_model.specs.Writing.{◌>>=◌, Does, type_error, unless_type_error}
use Rattle.mb_reflect.proofs.Doing.{Done, done-by}
use Rattle.mb_world.proofs.Values.{object-object}
use Rattle.mb_world.specs.Data.{Data}
use Rattle.mb_world.specs.Formed.{IsNullOrObject}
use Rattle.mb_world.specs.Image.{Image, Names, Resolve, object_in}
use Rattle.mb_world.specs.Value.{is_object, is_undefined}

-- a test failed, or was passed, and the rest follows
module _ (home : Side) (wanted : Sort) (r : Result Move Halt) (d d' : Data) (f f' : ℕ) (b : Bool)
    (rest : Answer → Does Answer) where
  pub done-test : b ≡ true → Done home wanted r d d' f f' (rest Nothing finished)
      → Done home wanted r d d' f f' ((unless_type_error home.0 b >>= rest) finished)
  done-test e h =
      done-by home wanted r d d' f f' ((unless_type_error home.0 b >>= rest) finished) (rest Nothing finished)
      (λ log. ap (λ (u : Bool). (unless_type_error home.0 u >>= rest) finished (Image d log)) e) h

  pub done-failed : b ≡ false → Done home wanted r d d' f f' (type_error home.0 finished)
      → Done home wanted r d d' f f' ((unless_type_error home.0 b >>= rest) finished)
  done-failed e h =
      done-by home wanted r d d' f f' ((unless_type_error home.0 b >>= rest) finished) (type_error home.0 finished)
      (λ log. ap (λ (u : Bool). (unless_type_error home.0 u >>= rest) finished (Image d log)) e) h

-- what is an object, and what is none
module _ (n : Names) where
  pub is-object : (id : ObjId) → is_object (object_in n id) ≡ true
  is-object id = object-object n id

  pub not-object : (y : Value) → ((id : ObjId) → y ≡ v.Object id → ⊥) → is_object (Resolve n y) ≡ false
  not-object y h = no-object n y h

-- what may be held, and is null or an object, may be held as a prototype
pub prototype-held : (d : Data) (home : Side) (y : Value) → MayHold d home (HeldValue y) → IsNullOrObject y
    → MayHold d home (HeldPrototype y)
prototype-held d home y h p = record { within = h.within; sound = p; own = h.own }

pub not-undefined : (n : Names) (y : Value) → (y ≡ v.Undefined → ⊥) → is_undefined (Resolve n y) ≡ false
not-undefined n v.Undefined h = absurd (h refl)
not-undefined n v.Null h = refl
not-undefined n (v.Bool b) h = refl
not-undefined n (v.Whole z) h = refl
not-undefined n (v.Text t) h = refl
not-undefined n (v.Symbol s) h = refl
not-undefined n (v.Object o) h = object-defined n o
