-- What a value that crossed before goes on having, and what a whole property has then.
use Rattle.std.proofs.Common.{◌≡◌, List, ◌++◌, Some, Bool, true, false, refl, ap, sym, ◌∙◌, subst, is_some, Option, None}
use Rattle.std.specs.Prelude.{All}
use Rattle.std.proofs.lemmas.List.Elements.{All-weaker, All-append}
use Rattle.mb_base.specs.declared.value.ObjId.{ObjId}
use Rattle.mb_base.specs.declared.value.Side.{Side}
use Rattle.mb_base.specs.declared.value.Value.{Value}
use Rattle.mb_desc.specs.declared.descriptor.Full.{Full}
use Rattle.mb_desc.specs.declared.descriptor.Full.TheVariants.{Accessor}
use Rattle.mb_world.specs.declared.cell.Cell.{Cell}
use Rattle.mb_world.specs.Data.{Data, same_side, cell_at}
use Rattle.mb_world.specs.Ids.{ValueIn, FullIn}
use Rattle.mb_world.specs.Contained.{IsOwn, in_value, in_full, is_shadow}
use Rattle.mb_world.proofs.Grow.{ValueIn-grows}
use Rattle.mb_maps.specs.Crossing.{counterpart, IsOfAnother, IsForeign, accessor_of, full_counterpart, IsFullForeign}
use Rattle.mb_maps.specs.Crossed.{CanCross, Crossed}
use Rattle.mb_maps.specs.Laws.{IsLater}
use Rattle.mb_maps.proofs.Lists.{some-stays, All-left, All-right}
use Rattle.mb_maps.proofs.Adding.{owns-stay}
use Rattle.mb_maps.proofs.Worlds.{paired-from}
use Rattle.mb_maps.proofs.Counterparts.{counterparts-stay}
use Rattle.mb_maps.proofs.Calls.{joined-own}

-- ---- once something else has crossed

module _ (d d' : Data) (stays : Crossed d d') where
  same-joined : d'.joined ≡ d.joined
  same-joined = ap (λ (x : Data). x.joined) stays.rest

  pub crossed-later : CanCross d → IsLater d d'
  crossed-later can = record {
    joined = same-joined;
    cells = λ id c e. (c, stays.cells id c e, record { home = refl; stands = refl });
    paired = paired-from d d' stays.cells (stays.can_cross can).paired;
    can_cross = stays.can_cross can;
  }

  pub others-stay : (side : Side) (os : List ObjId) → All (IsOfAnother d side) os → All (IsOfAnother d' side) os
  others-stay side os h = All-weaker (IsOfAnother d side) (IsOfAnother d' side)
      (λ o. some-stays (λ (c : Cell). (same_side c.home side ≡ false) × (is_shadow c.kind ≡ false)) (cell_at d o) (cell_at d' o) (stays.cells o)) os h

  pub counterpart-stays : (d.joined ≡ false → CanCross d) → (side : Side) (x y : Value) → ValueIn d x → counterpart d side x ≡ Some y
      → counterpart d' side x ≡ Some y
  counterpart-stays can side x y i h = by d.joined refl
    where
      by : (b : Bool) → d.joined ≡ b → counterpart d' side x ≡ Some y
      by true j = joined-own d' side x (same-joined ∙ j) ∙ sym (joined-own d side x j) ∙ h
      by false j = counterparts-stay d d' side x y (can j) (crossed-later (can j)) i h

-- ---- a getter and then a setter

both-known : (e c : Bool) (get set : Option Value) → is_some (accessor_of e c get set) ≡ true → is_some set ≡ true
both-known e c (Some get) (Some set) h = refl
both-known e c (Some get) None h = cc
both-known e c None set h = cc

module _ (d d1 : Data) (full : Full Value) (get set : Value) (e c : Bool) (is : full ≡ Accessor get set e c) (side : Side) (one : Crossed d d1)
    (can : d.joined ≡ false → CanCross d) (ids : FullIn d full) where
  ids-of : ValueIn d get × ValueIn d set
  ids-of = subst (FullIn d) is ids

  apart : d1.joined ≡ false → d.joined ≡ false
  apart j = sym (same-joined d d1 one) ∙ j

  can-then : d1.joined ≡ false → CanCross d1
  can-then j = one.can_cross (can (apart j))

  pub setter-foreign : (d.joined ≡ false → IsFullForeign d side full) → d1.joined ≡ false → IsForeign d1 side set
  setter-foreign f j =
      let h : All (IsOfAnother d side) (in_value get ++ in_value set) = subst (IsFullForeign d side) is (f (apart j)) in
      others-stay d d1 one side (in_value set) (All-right (IsOfAnother d side) (in_value get) (in_value set) h)

  pub setter-known : is_some (full_counterpart d side full) ≡ true → is_some (counterpart d1 side set) ≡ true
  setter-known h =
      let k : is_some (accessor_of e c (counterpart d side get) (counterpart d side set)) ≡ true = rw is at h in
      by (counterpart d side set) refl (both-known e c (counterpart d side get) (counterpart d side set) k)
    where
      by : (o : Option Value) → counterpart d side set ≡ o → is_some o ≡ true → is_some (counterpart d1 side set) ≡ true
      by None q k = cc
      by (Some y) q k = ap is_some (counterpart-stays d d1 one can side set y ids-of.1 q)

  module _ (d2 : Data) (two : Crossed d1 d2) (get' set' : Value) where
    pub accessor-value : counterpart d1 side get ≡ Some get' → counterpart d2 side set ≡ Some set' → full_counterpart d2 side full ≡ Some (Accessor get' set' e c)
    accessor-value h k =
        rw (is, counterpart-stays d1 d2 two can-then side get get' (ValueIn-grows d d1 one.becomes.grows get ids-of.0) h, k) refl

    pub accessor-own : (d.joined ≡ false → All (IsOwn d1 side) (in_value get')) → (d1.joined ≡ false → All (IsOwn d2 side) (in_value set')) → d.joined ≡ false
        → All (IsOwn d2 side) (in_value get' ++ in_value set')
    accessor-own h k j = All-append (IsOwn d2 side) (in_value get') (in_value set')
        (owns-stay d1 d2 two.cells side (in_value get') (h j))
        (k (same-joined d d1 one ∙ j))

    pub accessor-back : ValueIn d1 get' → ((from : Side) → All (IsOwn d from) (in_value get) → counterpart d1 from get' ≡ Some get)
        → ((from : Side) → All (IsOwn d1 from) (in_value set) → counterpart d2 from set' ≡ Some set)
        → (from : Side) → All (IsOwn d from) (in_full full) → full_counterpart d2 from (Accessor get' set' e c) ≡ Some full
    accessor-back i h k from own =
        let o : All (IsOwn d from) (in_value get ++ in_value set) = subst (λ f. All (IsOwn d from) (in_full f)) is own in
        let g = counterpart-stays d1 d2 two can-then from get' get i (h from (All-left (IsOwn d from) (in_value get) (in_value set) o)) in
        let s = k from (owns-stay d d1 one.cells from (in_value set) (All-right (IsOwn d from) (in_value get) (in_value set) o)) in
        rw (g, s) (ap Some (sym is))
