-- What Object.freeze and Object.seal define, and what Object.isFrozen finds.
use Rattle.std.proofs.Common.{◌≡◌, List, Ok, Some, ap, drop, refl, sym, true, ℕ}
use Rattle.std.proofs.lemmas.List.Elements.{All-nil}
use Rattle.mb_base.specs.declared.value.Key.{Key}
use Rattle.mb_base.specs.declared.value.ObjId.{ObjId}
use Rattle.mb_base.specs.declared.value.Side.{Side}
use Rattle.mb_base.specs.declared.value.Value.{Value}
use Rattle.mb_desc.specs.declared.descriptor.Desc.{Desc}
use Rattle.mb_desc.specs.declared.descriptor.Full.{Full}
use Rattle.mb_desc.specs.declared.descriptor.Full.TheVariants.{Accessor, Datum}
use Rattle.mb_frames.specs.Held.{HeldDesc, HeldKey, HeldKeys, HeldObject}
use Rattle.mb_frames.specs.Ready.{IsReady, MayHold}
use Rattle.mb_frames.specs.Resolved.{keys_of}
use Rattle.mb_frames.specs.Sorts.{AValue}
use Rattle.mb_frames.specs.declared.reflecting.ReflectFrame.TheVariants as r
use Rattle.mb_frames.specs.declared.task.Method.TheVariants as m
use Rattle.mb_model.specs.BuiltIns.ObjectMembers.{freeze_found, freezing, must_define, settle_keys}
use Rattle.mb_model.specs.Meaning.{finished}
use Rattle.mb_model.specs.Writing.{◌>>=◌, Row}
use Rattle.mb_reflect.proofs.Doing.{Done, asked, done-asked}
use Rattle.mb_reflect.specs.machine.Settling.{freezes}
use Rattle.mb_world.specs.Contained.{IsOwn}
use Rattle.mb_world.specs.Data.{Data}
use Rattle.mb_world.specs.Graph.{Graph}
use Rattle.mb_world.specs.Image.{Image, Names, Resolve, desc_in, full_in, key_in, names_of, object_in}
use Rattle.mb_world.specs.Value.{Val}

freezes-in : (n : Names) (f : Full Value) → desc_in (Resolve n) (freezes f) ≡ freezing (full_in n f)
freezes-in n (Datum x w e c) = refl
freezes-in n (Accessor g s e c) = refl

-- what is defined holds no value
freezes-held : (d : Data) (home : Side) (f : Full Value) → MayHold d home (HeldDesc (freezes f))
freezes-held d home (Datum x w e c) = record {
  within = record { value_in = tt; get_in = tt; set_in = tt };
  sound = (refl, record { get = tt; set = tt; wholes = tt });
  own = λ u. All-nil (IsOwn d home);
}
freezes-held d home (Accessor g s e c) = record {
  within = record { value_in = tt; get_in = tt; set_in = tt };
  sound = (refl, record { get = tt; set = tt; wholes = tt });
  own = λ u. All-nil (IsOwn d home);
}

module _ (home : Side) (d : Data) (f : ℕ) (object : ObjId) (key : Key) (keys : List Key) (next : ℕ)
    (full : Full Value) (ready : IsReady d) (o : MayHold d home (HeldObject object)) (k : MayHold d home (HeldKey key))
    (ks : MayHold d home (HeldKeys keys)) where
  abbrev defines : Desc Val → Graph → Row
  defines x =
      (must_define home.0 (object_in (names_of d) object) (key_in (names_of d) key) x
      >>= (λ a. settle_keys home.0 (object_in (names_of d) object) true (drop next (keys_of (names_of d) keys))))
      finished

  -- freezing found a property
  pub done-freezing : Done home AValue (Ok (asked home (r.Settled object true keys next)
      (m.DefineOwnProperty key (freezes full)) object)) d d f f
      ((freeze_found home.0 (object_in (names_of d) object) (key_in (names_of d) key) (Some (full_in (names_of d) full))
      >>= (λ a. settle_keys home.0 (object_in (names_of d) object) true (drop next (keys_of (names_of d) keys))))
      finished)
  done-freezing =
      done-asked home d f ready (defines (freezing (full_in (names_of d) full))) (r.Settled object true keys next)
      (m.DefineOwnProperty key (freezes full)) object AValue (o, (ks, tt)) (o, (k, (freezes-held d home full, tt))) refl
      refl
      (λ log. ap (λ (x : Desc Val). defines x (Image d log)) (sym (freezes-in (names_of d) full)))
