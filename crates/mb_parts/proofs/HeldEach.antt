-- What stands in a descriptor and in a property may be held; what a definition compares is told apart.
use Rattle.std.proofs.Common.{◌≡◌, ◌∷◌, List, None, Option, Some, [], false, refl, ◌++◌}
use Rattle.std.proofs.lemmas.List.Elements.{All-append, All-cons, All-contains, All-head, All-nil, All-tail}
use Rattle.std.specs.List.{AllByRecursion}
use Rattle.std.specs.Prelude.{All}
use Rattle.mb_base.specs.declared.value.Key.{Key}
use Rattle.mb_base.specs.declared.value.ObjId.{ObjId}
use Rattle.mb_base.specs.declared.value.Side.{Side}
use Rattle.mb_base.specs.declared.value.Value.TheVariants as v
use Rattle.mb_base.specs.declared.value.Value.{Value}
use Rattle.mb_desc.specs.declared.descriptor.Desc.{Desc}
use Rattle.mb_desc.specs.declared.descriptor.Full.TheVariants.{Accessor, Datum}
use Rattle.mb_desc.specs.declared.descriptor.Full.{Full}
use Rattle.mb_frames.proofs.Apartness.{values-apart}
use Rattle.mb_frames.proofs.HeldCells.{property-held}
use Rattle.mb_frames.proofs.HeldLess.{accessor-values, datum-value}
use Rattle.mb_frames.proofs.Parts.{each-part}
use Rattle.mb_frames.specs.Held.{HeldFull, HeldObject, HeldValue, HeldDesc}
use Rattle.mb_frames.specs.Ready.{IsReady, MayHold}
use Rattle.mb_ordinary.specs.Definitions.{TellsApart, compared, desc_values, property_values}
use Rattle.mb_world.specs.Contained.{IsOwn, in_value}
use Rattle.mb_world.specs.Data.{Data, property_at}
use Rattle.mb_world.specs.Formed.{full_values, InRange, option_values}
use Rattle.mb_world.specs.Ids.{ValueIn, Maybe}

module _ (d : Data) (home : Side) where
  abbrev P : Value → Type 0
  P x = MayHold d home (HeldValue x)

  each : (xs : List Value) → All (ValueIn d) xs → AllByRecursion InRange xs
      → (d.joined ≡ false → All (λ x. All (IsOwn d home) (in_value x)) xs) → All (λ x. MayHold d home (HeldValue x)) xs
  each [] h k l = All-nil P
  each (x ∷ xs) h k l =
      All-cons P x xs
      (record {
        within = All-head (ValueIn d) x xs h;
        sound = k.0;
        own = λ u. All-head
            (λ y. All (IsOwn d home) (in_value y)) x xs (l u);
      })
      (each xs (All-tail (ValueIn d) x xs h) k.1 (λ u. All-tail (λ y. All (IsOwn d home) (in_value y)) x xs (l u)))

  option-in : (o : Option Value) → Maybe (ValueIn d) o → All (ValueIn d) (option_values o)
  option-in None h = All-nil (ValueIn d)
  option-in (Some x) h = All-cons (ValueIn d) x [] h (All-nil (ValueIn d))

  pub desc-each : (desc : Desc Value) → MayHold d home (HeldDesc desc) → All (λ x. MayHold d home (HeldValue x))
      (desc_values desc)
  desc-each desc h =
      each (desc_values desc)
      (All-append (ValueIn d) (option_values desc.value ++ option_values desc.get) (option_values desc.set)
      (All-append (ValueIn d) (option_values desc.value) (option_values desc.get)
      (option-in desc.value h.within.value_in)
      (option-in desc.get h.within.get_in))
      (option-in desc.set h.within.set_in))
      h.sound.1.wholes
      (λ u. each-part (IsOwn d home) in_value (desc_values desc) (h.own u))

pub full-each : (d : Data) (home : Side) (f : Full Value) → MayHold d home (HeldFull f)
    → All (λ x. MayHold d home (HeldValue x)) (full_values f)
full-each d home (Datum x w e c) h =
    All-cons (λ y. MayHold d home (HeldValue y)) x [] (datum-value d home x w e c h)
    (All-nil (λ y. MayHold d home (HeldValue y)))
full-each d home (Accessor g s e c) h =
    let q = accessor-values d home g s e c h in
    All-cons (λ y. MayHold d home (HeldValue y)) g (s ∷ []) q.0
    (All-cons (λ y. MayHold d home (HeldValue y)) s [] q.1 (All-nil (λ y. MayHold d home (HeldValue y))))

-- what a definition compares is told apart
pub tells-apart : (d : Data) → IsReady d → (home : Side) (id : ObjId) (key : Key) (desc : Desc Value)
    → MayHold d home (HeldObject id) → All (λ x. MayHold d home (HeldValue x)) (desc_values desc)
    → TellsApart d (compared d id key desc)
tells-apart d r home id key desc h a = λ i j p q e.
    let P : Value → Type 0 = λ x. MayHold d home (HeldValue x) in
    let all : All P (compared d id key desc)
    = All-append P (desc_values desc) (property_values (property_at d id key)) a (by (property_at d id key) refl) in
    values-apart d r home (v.Object i) (v.Object j) (All-contains P (compared d id key desc) (v.Object i) all p)
    (All-contains P (compared d id key desc) (v.Object j) all q) i j refl refl e
  where
    by : (o : Option (Full Value)) → property_at d id key ≡ o → All (λ x. MayHold d home (HeldValue x))
        (property_values o)
    by None g = All-nil (λ x. MayHold d home (HeldValue x))
    by (Some f) g = full-each d home f (property-held d r home id key f h g)
