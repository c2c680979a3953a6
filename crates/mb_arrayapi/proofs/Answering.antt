-- A member takes the answer for which it waits.
use Rattle.std.proofs.Common.{Bool, Result, ap, ℕ, ◌∙◌, ◌≡◌}
use Rattle.mb_arrayapi.proofs.Acting.{Part-same}
use Rattle.mb_base.specs.declared.value.Side.{Side}
use Rattle.mb_frames.specs.Passing.{Part}
use Rattle.mb_frames.specs.Rest.Arraying.{array_rest}
use Rattle.mb_frames.specs.declared.arrays.ArrayFrame.{ArrayFrame}
use Rattle.mb_frames.specs.declared.frame.Move.{Move}
use Rattle.mb_frames.specs.declared.machine.Halt.{Halt}
use Rattle.mb_model.specs.Meaning.{finished}
use Rattle.mb_model.specs.Task.{Answer}
use Rattle.mb_model.specs.Writing.{Does, flag_in, value_in}
use Rattle.mb_world.specs.Data.{Data}
use Rattle.mb_world.specs.Image.{names_of}
use Rattle.mb_world.specs.Value.{Val}

module _ (home : Side) (r : Result Move Halt) (d d' : Data) (f f' : ℕ) (frame y : ArrayFrame) (e : frame ≡ y)
    (a : Answer) where
  abbrev rest : ArrayFrame → Does Answer
  rest z = array_rest (names_of d) home.0 z a

  pub Part-valued : (x : Val) → value_in a ≡ x → (p : Val → Does Answer) → rest y ≡ p (value_in a)
      → Part home r d d' f f' (p x finished) → Part home r d d' f f' (rest frame finished)
  Part-valued x v p h part = Part-same home r d d' f f' (rest frame) (p x) (ap rest e ∙ h ∙ ap p v) part

  pub Part-flagged : (b : Bool) → flag_in a ≡ b → (p : Bool → Does Answer) → rest y ≡ p (flag_in a)
      → Part home r d d' f f' (p b finished) → Part home r d d' f f' (rest frame finished)
  Part-flagged b v p h part = Part-same home r d d' f f' (rest frame) (p b) (ap rest e ∙ h ∙ ap p v) part
