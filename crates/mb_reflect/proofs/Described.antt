-- A property that was read becomes an object (ECMA-262 6.2.6.4).
use Rattle.std.proofs.Common.{◌≡◌, Ok, Some, ap, refl, sym, ℕ}
use Rattle.mb_base.specs.declared.value.ObjId.{ObjId}
use Rattle.mb_base.specs.declared.value.Side.{Side}
use Rattle.mb_base.specs.declared.value.Value.{Value}
use Rattle.mb_base.specs.declared.value.Value.TheVariants as v
use Rattle.mb_parts.specs.Keeping.{object_held}
use Rattle.mb_desc.specs.Descriptors.{descriptor_of}
use Rattle.mb_desc.specs.declared.descriptor.Desc.{Desc}
use Rattle.mb_desc.specs.declared.descriptor.Full.{Full}
use Rattle.mb_desc.specs.declared.descriptor.Full.TheVariants.{Accessor, Datum}
use Rattle.mb_frames.proofs.Going.{Makes-passes}
use Rattle.mb_frames.proofs.Steps.{append-none}
use Rattle.mb_frames.specs.Going.{Makes}
use Rattle.mb_frames.specs.Held.{HeldDesc, HeldFull}
use Rattle.mb_frames.specs.Keeping.{KeepsAnswer}
use Rattle.mb_frames.specs.Ready.{MayHold}
use Rattle.mb_frames.specs.Sorts.{AValue}
use Rattle.mb_model.specs.BuiltIns.ObjectMembers.{described}
use Rattle.mb_model.specs.Meaning.{finished}
use Rattle.mb_model.specs.Operations.Descriptors.{fromdesc}
use Rattle.mb_model.specs.Writing.{Row, is_value}
use Rattle.mb_reflect.proofs.Doing.{Done, done-by, done-object, done-passed, given}
use Rattle.mb_world.specs.Contained.{in_value}
use Rattle.mb_world.specs.Data.{Data}
use Rattle.mb_world.specs.Graph.{Graph}
use Rattle.mb_world.specs.Image.{Image, Names, Resolve, desc_in, full_in, names_of, object_in}
use Rattle.mb_world.specs.Value.{Val}

desc-same : (n : Names) (f : Full Value) → desc_in (Resolve n) (descriptor_of f) ≡ descriptor_of (full_in n f)
desc-same n (Datum x w e c) = refl
desc-same n (Accessor g s e c) = refl

pub desc-held : (d : Data) (home : Side) (f : Full Value) → MayHold d home (HeldFull f)
    → MayHold d home (HeldDesc (descriptor_of f))
desc-held d home (Datum x w e c) h = record {
  within = record { value_in = h.within; get_in = tt; set_in = tt };
  sound = (refl, record { get = tt; set = tt; wholes = h.sound.wholes });
  own = λ u. rw (append-none (in_value x)) (h.own u);
}
desc-held d home (Accessor g s e c) h = record {
  within = record { value_in = tt; get_in = h.within.0; set_in = h.within.1 };
  sound = (refl, record { get = h.sound.callables.0; set = h.sound.callables.1; wholes = h.sound.wholes });
  own = λ u. rw (append-none (in_value s)) (h.own u);
}

module _ (home : Side) (d d1 : Data) (f : ℕ) (full : Full Value) (id : ObjId)
    (m : Makes (Ok id) d d1 (fromdesc home.0 (desc_in (Resolve (names_of d)) (descriptor_of full))))
    (k : KeepsAnswer home object_held (Ok id) d d1) where
  abbrev rest : Val → Graph → Row
  rest o = is_value o finished

  pub done-described : Done home AValue (Ok (given (v.Object id))) d d1 f f
      (described home.0 (Some (full_in (names_of d) full)) finished)
  done-described =
      let p : Desc Val → Graph → Row = λ x. fromdesc home.0 x rest in
      let e = desc_in (Resolve (names_of d)) (descriptor_of full) in
      done-by home AValue (Ok (given (v.Object id))) d d1 f f
      (described home.0 (Some (full_in (names_of d) full)) finished) (p e)
      (λ log. ap (λ (x : Desc Val). p x (Image d log)) (sym (desc-same (names_of d) full)))
      (done-passed home AValue (Ok (given (v.Object id))) d d1 d1 f f f (p e) (rest (object_in (names_of d1) id))
      (Makes-passes d d1 f (fromdesc home.0 e) id rest m) k.changed
      (done-object home d1 f k.changed.ready (rest (object_in (names_of d1) id)) id AValue k.holds.0 refl
      (λ log. refl)))
