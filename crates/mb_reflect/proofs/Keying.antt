-- Members that ask a method with a key.
use Rattle.std.proofs.Common.{◌≡◌, ◌∙◌, Bool, List, None, Option, Result, Some, ap, option_map, refl, sym, true, ℕ}
use Rattle.mb_base.specs.declared.value.Key.{Key}
use Rattle.mb_base.specs.declared.value.ObjId.{ObjId}
use Rattle.mb_base.specs.declared.value.Side.{Side}
use Rattle.mb_base.specs.declared.value.Value.{Value}
use Rattle.mb_frames.proofs.Passed.{Passes-texts}
use Rattle.mb_frames.specs.Held.{AreIn}
use Rattle.mb_frames.specs.Passing.{TextsGrew}
use Rattle.mb_frames.specs.Ready.{IsReady}
use Rattle.mb_frames.specs.Sorts.{AValue}
use Rattle.mb_frames.specs.declared.frame.Move.{Move}
use Rattle.mb_frames.specs.declared.machine.Halt.{Halt}
use Rattle.mb_model.specs.Meaning.{finished}
use Rattle.mb_model.specs.Task.{Answer}
use Rattle.mb_model.specs.Writing.{◌>>=◌, Does, or_type_error, type_error, unless_type_error}
use Rattle.mb_parts.proofs.Texting.{texts-changed}
use Rattle.mb_reflect.proofs.Doing.{Done, done-passed}
use Rattle.mb_reflect.proofs.Rows.{is-object}
use Rattle.mb_reflect.specs.declared.keyed.Keyed.{Keyed}
use Rattle.mb_reflect.specs.declared.keyed.Keyed.TheVariants as keyed
use Rattle.mb_reflect.specs.machine.Keyed.{keyed_held, keyed_rest, keyed_row}
use Rattle.mb_world.proofs.Images.{value-grows}
use Rattle.mb_world.specs.Data.{Data}
use Rattle.mb_world.specs.Graph.{Item}
use Rattle.mb_world.specs.Grows.{Grows}
use Rattle.mb_world.specs.Ids.{ObjIn}
use Rattle.mb_world.specs.Image.{Image, Resolve, key_in, names_of, object_in}
use Rattle.mb_world.specs.Key.{PropertyKey, key_of}
use Rattle.mb_world.specs.Value.{Val}

-- what stands in a member stands for the same as the world grows
pub keyed-agrees : (d d' : Data) → Grows d d' → (s : ℕ) (member : Keyed) → AreIn d (keyed_held member) → (o : Val)
    (k : PropertyKey) → keyed_rest (names_of d') s member o k ≡ keyed_rest (names_of d) s member o k
keyed-agrees d d' g s keyed.HasOwn i o k = refl
keyed-agrees d d' g s keyed.Describe i o k = refl
keyed-agrees d d' g s keyed.Delete i o k = refl
keyed-agrees d d' g s keyed.Has i o k = refl
keyed-agrees d d' g s (keyed.Get r) i o k = rw (value-grows d d' g r i.0) refl
keyed-agrees d d' g s (keyed.Set x r) i o k = rw (value-grows d d' g x i.0, value-grows d d' g r i.1.0) refl
keyed-agrees d d' g s (keyed.ObjectDefine x) i o k = rw (value-grows d d' g x i.0) refl
keyed-agrees d d' g s (keyed.ReflectDefine x) i o k = rw (value-grows d d' g x i.0) refl

module _ (home : Side) (d d1 d2 : Data) (t : TextsGrew d d1) (r : IsReady d) (member : Keyed) (id : ObjId) (y : Value)
    (result : Result Move Halt) (f : ℕ) (there : ObjIn d id) where
  abbrev row : Bool → Option PropertyKey → Does Answer
  row b k =
      unless_type_error home.0 b
      >>= (λ a. or_type_error home.0 k >>= keyed_rest (names_of d) home.0 member (object_in (names_of d) id))

  row-is : (k : Option PropertyKey) → key_of (Resolve (names_of d) y) ≡ k → (log : List Item)
      → keyed_row (names_of d) home.0 member (object_in (names_of d) id) (Resolve (names_of d) y) finished (Image d log)
      ≡ row true k finished (Image d log)
  row-is k e log =
      ap (λ (b : Bool). row b (key_of (Resolve (names_of d) y)) finished (Image d log)) (is-object (names_of d) id)
      ∙ ap (λ (u : Option PropertyKey). row true u finished (Image d log)) e

  -- the key was found
  pub done-keyed : (key : Key) → AreIn d (keyed_held member)
      → option_map (key_in (names_of d1)) (Some key) ≡ key_of (Resolve (names_of d) y)
      → Done home AValue result d1 d2 f f (keyed_rest (names_of d1) home.0 member (object_in (names_of d1) id)
      (key_in (names_of d1) key) finished)
      → Done home AValue result d d2 f f (keyed_row (names_of d) home.0 member (object_in (names_of d) id)
      (Resolve (names_of d) y) finished)
  done-keyed key i e h =
      let n1 = names_of d1 in
      let k = key_in n1 key in
      done-passed home AValue result d d1 d2 f f f
      (keyed_row (names_of d) home.0 member (object_in (names_of d) id) (Resolve (names_of d) y) finished)
      (keyed_rest n1 home.0 member (object_in n1 id) k finished)
      (Passes-texts d d1 f
      (keyed_row (names_of d) home.0 member (object_in (names_of d) id) (Resolve (names_of d) y) finished)
      (keyed_rest n1 home.0 member (object_in n1 id) k finished) t
      (λ log. row-is (Some k) (sym e) log
      ∙ ap (λ (u : Does Answer). u finished (Image d log))
      (sym (keyed-agrees d d1 t.becomes.grows home.0 member i (object_in (names_of d) id) k))
      ∙ ap (λ (o : Val). keyed_rest n1 home.0 member o k finished (Image d log))
      (sym (t.becomes.grows.same_object id there))))
      (texts-changed home d d1 t r) h

  -- the value is no key
  pub done-no-key : option_map (key_in (names_of d1)) None ≡ key_of (Resolve (names_of d) y)
      → Done home AValue result d1 d2 f f (type_error home.0 finished)
      → Done home AValue result d d2 f f (keyed_row (names_of d) home.0 member (object_in (names_of d) id)
      (Resolve (names_of d) y) finished)
  done-no-key e h =
      done-passed home AValue result d d1 d2 f f f
      (keyed_row (names_of d) home.0 member (object_in (names_of d) id) (Resolve (names_of d) y) finished)
      (type_error home.0 finished)
      (Passes-texts d d1 f
      (keyed_row (names_of d) home.0 member (object_in (names_of d) id) (Resolve (names_of d) y) finished)
      (type_error home.0 finished) t (λ log. row-is None (sym e) log))
      (texts-changed home d d1 t r) h
