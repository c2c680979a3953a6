-- A plain object changes, and sides go on seeing.
use Rattle.std.proofs.Common.{◌≡◌, [], Bool, Some, refl, ap, sym, ◌∙◌, subst, option_map}
use Rattle.std.specs.Prelude.{All, IsSomeAnd}
use Rattle.std.proofs.lemmas.List.Elements.{All-weaker, All-cons, All-nil}
use Rattle.mb_base.specs.declared.value.ObjId.{ObjId}
use Rattle.mb_base.specs.declared.value.Side.{Side}
use Rattle.mb_base.specs.declared.value.Key.{Key}
use Rattle.mb_base.specs.declared.value.Value.{Value}
use Rattle.mb_desc.specs.declared.descriptor.Full.{Full}
use Rattle.mb_desc.specs.declared.descriptor.Full.TheVariants.{Datum}
use Rattle.mb_props.specs.Table.{same_key as own_key}
use Rattle.mb_world.specs.declared.cell.Cell.{Cell}
use Rattle.mb_world.specs.declared.cell.CellKind.TheVariants.{Plain}
use Rattle.mb_world.specs.Data.{Data, kind_stand, cell_at, change_cell, change_if, set_cell, put_in, remove_in, with_proto, closed}
use Rattle.mb_world.specs.Ids.{KeyIn, CellIn}
use Rattle.mb_world.specs.Contained.{IsOwn, in_full}
use Rattle.mb_world.specs.Formed.{FormedCell, HasItsCallables, IsNullOrObject, InRange, full_values}
use Rattle.mb_world.proofs.Grow.{All-at}
use Rattle.mb_world.proofs.Worlds.{All-insert, All-without, CellIn-put, CellIn-remove}
use Rattle.mb_maps.proofs.Lists.{some-get}
use Rattle.mb_shadow.specs.Seeing.{CanSee, IsPropertyOf}
use Rattle.mb_shadow.specs.Following.{KeepsShadow}
use Rattle.mb_shadow.specs.machine.Sights.{IsValueOf}
use Rattle.mb_shadow.proofs.Sees.{can-see-object}
use Rattle.mb_shadow.proofs.Simple.{is_simple, own-all, formed-all}
use Rattle.mb_shadow.proofs.Writes.{ArePropertiesOf}
use Rattle.mb_shadow.proofs.Owned.{each-of, proto-of}

pub datum-of : (d : Data) (side : Side) (x : Value) (w e c : Bool) → IsValueOf d side x → IsPropertyOf d side (Datum x w e c)
datum-of d side x w e c h = record { within = h.within; own = h.own; callables = tt; wholes = All-cons InRange x [] h.whole (All-nil InRange) }

module _ (d : Data) (can : CanSee d) (id : ObjId) (plain : IsSomeAnd (cell_at d id) (λ c. c.kind ≡ Plain)) where
  its : (c : Cell) × (cell_at d id ≡ Some c) × (c.kind ≡ Plain)
  its = some-get (λ (c : Cell). c.kind ≡ Plain) (cell_at d id) plain

  abbrev c : Cell
  c = its.0

  home-is : (side : Side) → option_map (λ (x : Cell). x.home) (cell_at d id) ≡ Some side → side ≡ c.home
  home-is side e = let f : Some side ≡ Some c.home = sym e ∙ ap (option_map (λ (x : Cell). x.home)) its.1 in cc

  was-in : CellIn d c
  was-in = All-at (CellIn d) d.cells id.0 c its.1 can.ids.cells_in

  was-formed : FormedCell d c
  was-formed = All-at (FormedCell d) d.cells id.0 c its.1 can.cells

  change-is : (f : Cell → Cell) → change_cell d id f ≡ set_cell d id (f c)
  change-is f = ap (change_if d id f) its.1

  changed : (x : Cell) → KeepsShadow c x → CellIn d x → IsValueOf d c.home x.proto → IsNullOrObject x.proto → ArePropertiesOf d c.home x.props → CanSee (set_cell d id x)
  changed x keeps within proto kind props =
      can-see-object d id c x can its.1 keeps.home keeps.kind
      (own-all d c x (ap is_simple its.2) keeps was-formed c.home proto.own
      (All-weaker (λ (p : Key × Full Value). IsPropertyOf d c.home p.1) (λ (p : Key × Full Value). All (IsOwn d c.home) (in_full p.1)) (λ p h. h.own) x.props props))
      within
      (formed-all d c x (ap is_simple its.2) keeps was-formed kind proto.whole
      (All-weaker (λ (p : Key × Full Value). IsPropertyOf d c.home p.1) (λ (p : Key × Full Value). HasItsCallables d p.1) (λ p h. h.callables) x.props props)
      (All-weaker (λ (p : Key × Full Value). IsPropertyOf d c.home p.1) (λ (p : Key × Full Value). All InRange (full_values p.1)) (λ p h. h.wholes) x.props props))
      (ap kind_stand its.2) keeps.slots

  proto-was : IsValueOf d c.home c.proto
  proto-was = proto-of d can id c its.1

  props-were : ArePropertiesOf d c.home c.props
  props-were = each-of d can id c its.1

  pub put-sees : (key : Key) (full : Full Value) → KeyIn d key → (side : Side) → option_map (λ (x : Cell). x.home) (cell_at d id) ≡ Some side → IsPropertyOf d side full → (d' : Data) → d' ≡ change_cell d id (put_in key full) → CanSee d'
  put-sees key full i side at of d' e =
      let its-full : IsPropertyOf d c.home full = subst (λ (side : Side). IsPropertyOf d side full) (home-is side at) of in
      subst CanSee (sym (e ∙ change-is (put_in key full)))
      (changed (put_in key full c) (record { home = refl; kind = refl; label = refl; slots = refl }) (CellIn-put d c key full i its-full.within was-in) proto-was was-formed.prototype
      (All-insert (λ (p : Key × Full Value). IsPropertyOf d c.home p.1) c.props key full its-full (λ p h. its-full) props-were))

  pub remove-sees : (key : Key) (d' : Data) → d' ≡ change_cell d id (remove_in key) → CanSee d'
  remove-sees key d' e =
      subst CanSee (sym (e ∙ change-is (remove_in key)))
      (changed (remove_in key c) (record { home = refl; kind = refl; label = refl; slots = refl }) (CellIn-remove d c key was-in) proto-was was-formed.prototype
      (All-without (λ (p : Key × Full Value). IsPropertyOf d c.home p.1) c.props (own_key key) props-were))

  pub proto-sees : (p : Value) (side : Side) → option_map (λ (x : Cell). x.home) (cell_at d id) ≡ Some side → IsValueOf d side p → IsNullOrObject p → (d' : Data) → d' ≡ change_cell d id (with_proto p) → CanSee d'
  proto-sees p side at of kind d' e =
      let its-proto : IsValueOf d c.home p = subst (λ (side : Side). IsValueOf d side p) (home-is side at) of in
      subst CanSee (sym (e ∙ change-is (with_proto p)))
      (changed (with_proto p c) (record { home = refl; kind = refl; label = refl; slots = refl })
      (record { home_in = was-in.home_in; kind_in = was-in.kind_in; proto_in = its-proto.within; props_in = was-in.props_in; label_in = was-in.label_in; slots_in = was-in.slots_in })
      its-proto kind props-were)

  pub closed-sees : (d' : Data) → d' ≡ change_cell d id closed → CanSee d'
  closed-sees d' e =
      subst CanSee (sym (e ∙ change-is closed))
      (changed (closed c) (record { home = refl; kind = refl; label = refl; slots = refl })
      (record { home_in = was-in.home_in; kind_in = was-in.kind_in; proto_in = was-in.proto_in; props_in = was-in.props_in; label_in = was-in.label_in; slots_in = was-in.slots_in })
      proto-was was-formed.prototype props-were)
