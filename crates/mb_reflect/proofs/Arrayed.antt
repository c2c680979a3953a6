-- A row ends with an array that was made.
use Rattle.std.proofs.Common.{List, Ok, refl, ℕ}
use Rattle.mb_base.specs.declared.value.ObjId.{ObjId}
use Rattle.mb_base.specs.declared.value.Side.{Side}
use Rattle.mb_base.specs.declared.value.Value.{Value}
use Rattle.mb_base.specs.declared.value.Value.TheVariants as v
use Rattle.mb_parts.specs.Keeping.{object_held}
use Rattle.mb_frames.proofs.Going.{Makes-passes}
use Rattle.mb_frames.specs.Going.{Makes}
use Rattle.mb_frames.specs.Keeping.{KeepsAnswer}
use Rattle.mb_frames.specs.Resolved.{values_in}
use Rattle.mb_frames.specs.Sorts.{AValue}
use Rattle.mb_model.specs.BuiltIns.Arguments.{array_of}
use Rattle.mb_model.specs.Meaning.{finished}
use Rattle.mb_model.specs.Operations.Makings.{make_array}
use Rattle.mb_model.specs.Writing.{Row, is_value}
use Rattle.mb_reflect.proofs.Doing.{Done, done-object, done-passed, given}
use Rattle.mb_world.specs.Data.{Data}
use Rattle.mb_world.specs.Graph.{Graph}
use Rattle.mb_world.specs.Image.{names_of, object_in}
use Rattle.mb_world.specs.Value.{Val}

module _ (home : Side) (d d1 : Data) (f : ℕ) (items : List Value) (id : ObjId)
    (m : Makes (Ok id) d d1 (make_array home.0 (values_in (names_of d) items)))
    (k : KeepsAnswer home object_held (Ok id) d d1) where
  abbrev rest : Val → Graph → Row
  rest o = is_value o finished

  pub done-array : Done home AValue (Ok (given (v.Object id))) d d1 f f
      (array_of home.0 (values_in (names_of d) items) finished)
  done-array =
      done-passed home AValue (Ok (given (v.Object id))) d d1 d1 f f f
      (array_of home.0 (values_in (names_of d) items) finished) (rest (object_in (names_of d1) id))
      (Makes-passes d d1 f (make_array home.0 (values_in (names_of d) items)) id rest m) k.changed
      (done-object home d1 f k.changed.ready (rest (object_in (names_of d1) id)) id AValue k.holds.0 refl (λ log. refl))
