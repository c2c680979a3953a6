-- What follows where a descriptor was read: it is defined, or compared with the target's property.
use Rattle.std.proofs.Common.{ap, refl, sym, ◌∙◌, ◌∷◌, [], ◌≡◌, true}
use Rattle.mb_base.specs.declared.value.Key.{Key}
use Rattle.mb_base.specs.declared.value.ObjId.{ObjId}
use Rattle.mb_base.specs.declared.value.Side.{Side}
use Rattle.mb_base.specs.declared.value.Value.{Value}
use Rattle.mb_base.specs.declared.value.Value.TheVariants as v
use Rattle.mb_call.proofs.Fielding.{complete-held, complete-in}
use Rattle.mb_desc.specs.Descriptors.{Complete}
use Rattle.mb_desc.specs.declared.descriptor.Desc.{Desc}
use Rattle.mb_desc.specs.declared.descriptor.Full.{Full}
use Rattle.mb_frames.proofs.Keeping.{leaves-wait}
use Rattle.mb_frames.proofs.Steps.{Sure-wait}
use Rattle.mb_frames.specs.Held.{HeldDesc, HeldKey, HeldObject}
use Rattle.mb_frames.specs.Ready.{Holds, Leaves}
use Rattle.mb_frames.specs.Sorts.{AProperty, AValue}
use Rattle.mb_frames.specs.Stepping.{Sure}
use Rattle.mb_frames.specs.declared.frame.Frame.TheVariants as x
use Rattle.mb_frames.specs.declared.frame.Move.TheVariants as move
use Rattle.mb_frames.specs.declared.proxies.ProxyFrame.TheVariants as p
use Rattle.mb_frames.specs.declared.reflecting.ReflectFrame.TheVariants as r
use Rattle.mb_frames.specs.declared.task.Method.TheVariants as m
use Rattle.mb_frames.specs.declared.task.Task.{Task}
use Rattle.mb_frames.specs.declared.task.Task.TheVariants as task
use Rattle.mb_model.specs.BuiltIns.Arguments.{flag_row}
use Rattle.mb_model.specs.BuiltIns.ObjectMembers.{given_back, object_define}
use Rattle.mb_model.specs.Meaning.{finished}
use Rattle.mb_model.specs.Objects.Proxies.{own_converted, own_read}
use Rattle.mb_model.specs.Task.{DefineOwnProperty}
use Rattle.mb_model.specs.Writing.{flag_in, pass, property_in, truth}
use Rattle.mb_world.specs.Data.{Data}
use Rattle.mb_world.specs.Image.{Resolve, desc_in, full_in, key_in, names_of, object_in}
use Rattle.mb_world.specs.Value.{Undefined, Val}

module _ (home : Side) (d : Data) (object : ObjId) (key : Key) (e : Desc Value)
    (h : Holds d home (HeldDesc e ∷ HeldObject object ∷ HeldKey key ∷ [])) where
  abbrev defines : Task
  defines = task.Perform (m.DefineOwnProperty key e) object home true

  abbrev reads : Task
  reads = task.Perform (m.GetOwnProperty key) object home true

  abbrev o : Val
  o = object_in (names_of d) object

  abbrev given : Desc Val
  given = desc_in (Resolve (names_of d)) e

  -- Object.defineProperty gives the object back
  pub Sure-object : Sure home d (object_define home.0 o (key_in (names_of d) key) given finished)
      (move.Wait (x.Reflect (r.GivenBack object)) defines)
  Sure-object =
      Sure-wait home d (x.Reflect (r.GivenBack object)) defines
      (object_define home.0 o (key_in (names_of d) key) given finished)
      (λ q. pass q (λ a. given_back home.0 o (flag_in a) finished)) (λ log. refl) tt (λ q g. refl)
      (h.1.0.within, (h.1.0.within, (h.1.1.0.within, (h.0.within, tt))))

  pub leaves-object : Leaves d home AValue (move.Wait (x.Reflect (r.GivenBack object)) defines)
  leaves-object =
      leaves-wait d home AValue (x.Reflect (r.GivenBack object)) defines (h.1.0, tt)
      (h.1.0, (h.1.1.0, (h.0, tt))) tt tt (refl, refl)

  -- Reflect.defineProperty gives whether it was
  pub Sure-reflect : Sure home d (flag_row home.0 (DefineOwnProperty (key_in (names_of d) key) given) o finished)
      (move.Wait (x.Reflect r.Truth) defines)
  Sure-reflect =
      Sure-wait home d (x.Reflect r.Truth) defines
      (flag_row home.0 (DefineOwnProperty (key_in (names_of d) key) given) o finished)
      (λ q. pass q (λ a. truth (flag_in a) finished)) (λ log. refl) tt (λ q g. refl)
      (h.1.0.within, (h.1.1.0.within, (h.0.within, tt)))

  pub leaves-reflect : Leaves d home AValue (move.Wait (x.Reflect r.Truth) defines)
  leaves-reflect =
      leaves-wait d home AValue (x.Reflect r.Truth) defines tt (h.1.0, (h.1.1.0, (h.0, tt))) tt tt (refl, refl)

  -- a trap's descriptor is completed, and compared with the target's property
  module _ (said : Full Value) (i : said ≡ Complete v.Undefined e) where
    pub Sure-own : Sure home d (own_converted home.0 o (key_in (names_of d) key) given finished)
        (move.Wait (x.Proxy (p.OwnRead object said)) reads)
    Sure-own =
        Sure-wait home d (x.Proxy (p.OwnRead object said)) reads
        (own_converted home.0 o (key_in (names_of d) key) given finished)
        (λ q. pass q (λ a. own_read home.0 o (Complete Undefined given) (property_in a) finished)) (λ log. refl) tt
        (λ q g. ap (λ (f : Full Val). pass q (λ a. own_read home.0 o f (property_in a) finished) g)
        (sym (ap (full_in (names_of d)) i ∙ complete-in (names_of d) e)))
        (h.1.0.within, (rw i (complete-held d home e h.0).within, (h.1.0.within, (h.1.1.0.within, tt))))

    pub leaves-own : Leaves d home AProperty (move.Wait (x.Proxy (p.OwnRead object said)) reads)
    leaves-own =
        leaves-wait d home AProperty (x.Proxy (p.OwnRead object said)) reads
        (h.1.0, (rw i (complete-held d home e h.0), tt)) (h.1.0, (h.1.1.0, tt)) tt tt (refl, refl)
