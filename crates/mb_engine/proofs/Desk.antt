-- What a side has for `desk`, and the world once it crossed.
use Rattle.mb_base.specs.declared.NoMemory.{NoMemory}
use Rattle.mb_base.specs.declared.value.ObjId.{ObjId}
use Rattle.mb_base.specs.declared.value.Side.{Side}
use Rattle.mb_base.specs.declared.value.Value.{Value}
use Rattle.mb_base.specs.declared.value.Value.TheVariants as v
use Rattle.mb_engine.specs.machine.Beginning.{Crosses, IsDesk, Remains}
use Rattle.mb_frames.specs.Grammatical.{IsProgram}
use Rattle.mb_frames.specs.Held.{HeldValue}
use Rattle.mb_frames.specs.Ready.{AnyEntry, AnyRules, HasItsConstant, IsReady, MayHold}
use Rattle.mb_intrinsics.specs.Furnished.{first_side}
use Rattle.mb_maps.proofs.Keeping.{formed-can-cross, formed-crossed}
use Rattle.mb_maps.specs.Crossed.{CanCross, Crossed}
use Rattle.mb_maps.specs.Crossing.{IsForeign, IsOfAnother, counterpart, counterpart_if, meant, object_for}
use Rattle.mb_world.proofs.Grow.{All-at, Grows-same}
use Rattle.mb_world.specs.Contained.{Contained, IsOfTable, IsOwn, PairedFrom, in_value, is_shadow}
use Rattle.mb_world.specs.Data.{Data, cell_at, same_side}
use Rattle.mb_world.specs.Formed.{InRange}
use Rattle.mb_world.specs.Ids.{HasItsIds, ValueIn}
use Rattle.mb_world.specs.Image.{Resolve, names_of}
use Rattle.mb_world.specs.Intrinsics.{intrinsic}
use Rattle.mb_world.specs.Value.{Object}
use Rattle.mb_world.specs.declared.cell.Cell.{Cell}
use Rattle.mb_world.specs.declared.cell.CellKind.{CellKind}
use Rattle.mb_world.specs.declared.cell.CellKind.TheVariants as kind
use Rattle.mb_world.specs.declared.rule.Rule.{Rule}
use Rattle.std.proofs.Common.{Bool, Err, IfOk, List, None, Ok, OnOk, Option, Result, Some, [], ap, arith, false}
use Rattle.std.proofs.Common.{nat_eq, option_map, refl, subst, sym, true, true≢false, ℕ, ◌<◌, ◌∙◌, ◌∷◌, ◌≡◌, ◌≢◌}
use Rattle.std.proofs.lemmas.Bool.{eqb-true}
use Rattle.std.proofs.lemmas.List.Elements.{All-cons, All-nil}
use Rattle.std.proofs.lemmas.Option.{slice_get_within}
use Rattle.std.specs.Prelude.{All, IsSomeAnd}

not-zero : (n : ℕ) → (n ≡ 0 → ⊥) → nat_eq 0 n ≡ false
not-zero n h = by (nat_eq 0 n) refl
  where
    by : (b : Bool) → nat_eq 0 n ≡ b → b ≡ false
    by false e = refl
    by true e = absurd (h (sym (eqb-true 0 n e)))

-- ---- where a side's own is taken

pub stays : (d : Data) (desk : ObjId) → IsReady d → IsDesk d desk → Crosses desk d d
stays d desk r k = record {
  ready = r;
  remains = record { sides = refl; entries = refl; joined = refl; halted = refl };
  desk_is = k;
  becomes = record { grows = Grows-same d; image = λ log. refl };
}

module _ (d : Data) (desk : ObjId) (k : IsDesk d desk) where
  pub desk-in : ValueIn d (v.Object desk)
  desk-in = slice_get_within d.cells desk.0 k.cell k.there

  no-shadow : is_shadow k.cell.kind ≡ false
  no-shadow = ap (λ (x : CellKind). is_shadow x) k.plain

  -- the first side's own
  pub first-held : (side : Side) → side.0 ≡ 0 → MayHold d side (HeldValue (v.Object desk))
  first-held side e = record {
    within = desk-in;
    sound = tt;
    own = λ u.
        All-cons (IsOwn d side) desk []
        (subst (λ (o : Option Cell). IsSomeAnd o (λ c. (c.home ≡ side) × (is_shadow c.kind ≡ false))) (sym k.there)
        (k.home ∙ ap (λ (n : ℕ). let s : Side = record { 0 = n } in s) (sym e), no-shadow)) (All-nil (IsOwn d side));
  }

  -- no other side's
  pub desk-foreign : (side : Side) → (side.0 ≡ 0 → ⊥) → IsForeign d side (v.Object desk)
  desk-foreign side other =
      All-cons (IsOfAnother d side) desk []
      (subst (λ (o : Option Cell). IsSomeAnd o (λ c. (same_side c.home side ≡ false) × (is_shadow c.kind ≡ false)))
      (sym k.there) (ap (λ (h : Side). same_side h side) k.home ∙ not-zero side.0 other, no-shadow))
      (All-nil (IsOfAnother d side))

-- ---- where it crosses

pub can-cross : (d : Data) → d.joined ≡ false → IsReady d → CanCross d
can-cross d apart r = formed-can-cross IsProgram AnyRules AnyEntry d apart r.formed (r.contained apart) (r.paired apart)

crossed-ready : (d d' : Data) → d.joined ≡ false → IsReady d → Crossed d d' → PairedFrom d d' → HasItsIds d'
    → IsReady d'
crossed-ready d d' apart r x p i = record {
  formed = formed-crossed IsProgram AnyRules AnyEntry d d' apart r.ids r.formed x;
  ids = i;
  one_built_in = λ e. absurd (true≢false (sym e ∙ still));
  of_table = λ id place c at is.
      subst (λ (k : CellKind). IsOfTable k) is
      (All-at (λ (y : Cell). IsOfTable y.kind) d'.cells id.0 c at contained.of_table);
  constants = subst (λ (rs : List Rule). All (λ (y : Rule). HasItsConstant y.kind) rs)
      (sym (ap (λ (y : Data). y.rules) x.rest)) r.constants;
  contained = λ e. contained;
  paired = λ e. p.paired;
}
  where
    still : d'.joined ≡ false
    still = ap (λ (y : Data). y.joined) x.rest ∙ apart

    contained : Contained d'
    contained = (x.can_cross (can-cross d apart r)).contained

-- what a side has for an object is in range
own-range : (joined : Bool) (d : Data) (side : Side) (desk : ObjId) (own : Value)
    → counterpart_if joined d side (v.Object desk) ≡ Some own → InRange own
own-range true d side desk own e = let q : v.Object desk ≡ own = cc in subst InRange q tt
own-range false d side desk own e = by (object_for d side (meant d desk)) e
  where
    by : (o : Option ObjId) → option_map (λ (x : ObjId). v.Object x) o ≡ Some own → InRange own
    by None e = cc
    by (Some id) e = let q : v.Object id ≡ own = cc in subst InRange q tt

-- the world after it, whether the two sides are joined or not
pub crosses : (d d' : Data) (desk : ObjId) → IsReady d → IsDesk d desk → (d.joined ≡ true → d' ≡ d) → Crossed d d'
    → (d.joined ≡ false → PairedFrom d d') → HasItsIds d' → d'.halted ≡ d.halted → Crosses desk d d'
crosses d d' desk r k same x p i runs = by d.joined refl
  where
    by : (b : Bool) → d.joined ≡ b → Crosses desk d d'
    by true e = subst (λ (y : Data). Crosses desk d y) (sym (same e)) (stays d desk r k)
    by false e = record {
      ready = crossed-ready d d' e r x (p e) i;
      remains = record {
        sides = ap (λ (y : Data). y.sides) x.rest;
        entries = ap (λ (y : Data). y.entries) x.rest;
        joined = ap (λ (y : Data). y.joined) x.rest;
        halted = runs;
      };
      desk_is = record {
        cell = k.cell;
        there = x.cells desk k.cell k.there;
        home = k.home;
        plain = k.plain;
        number = x.becomes.grows.same_object desk (desk-in d desk k) ∙ k.number;
      };
      becomes = x.becomes;
    }

pub own-held : (d d' : Data) (side : Side) (desk : ObjId) (own : Value) → ValueIn d' own
    → (d.joined ≡ false → All (IsOwn d' side) (in_value own)) → Crosses desk d d'
    → counterpart d' side (v.Object desk) ≡ Some own → MayHold d' side (HeldValue own)
own-held d d' side desk own within owns x e = record {
  within = within;
  sound = own-range d'.joined d' side desk own e;
  own = λ u. owns (sym x.remains.joined ∙ u);
}

-- the same of what crossing answers
pub held-by : (d d' : Data) (side : Side) (desk : ObjId) (r : Result Value NoMemory) → OnOk r (Crosses desk d d')
    → IfOk r (ValueIn d') → (d.joined ≡ false → IfOk r (λ own. All (IsOwn d' side) (in_value own)))
    → IfOk r (λ own. counterpart d' side (v.Object desk) ≡ Some own) → IfOk r (λ own. MayHold d' side (HeldValue own))
held-by d d' side desk (Ok own) x within owns e = own-held d d' side desk own within owns x e
held-by d d' side desk (Err n) x within owns e = tt

pub stands-by : (d d' : Data) (desk : ObjId) (r : Result Value NoMemory) → IsDesk d desk
    → IfOk r (λ own. Resolve (names_of d') own ≡ Resolve (names_of d) (v.Object desk))
    → IfOk r (λ own. Resolve (names_of d') own ≡ Object 0)
stands-by d d' desk (Ok own) k e = e ∙ k.number
stands-by d d' desk (Err n) k e = tt
