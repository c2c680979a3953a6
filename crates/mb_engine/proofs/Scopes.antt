-- The first scopes of the sides, one after the other.
use Rattle.mb_base.specs.declared.NoMemory.{NoMemory}
use Rattle.mb_base.specs.declared.value.ObjId.{ObjId}
use Rattle.mb_base.specs.declared.value.Side.{Side}
use Rattle.mb_base.specs.declared.value.Value.{Value}
use Rattle.mb_base.specs.declared.value.Value.TheVariants as v
use Rattle.mb_engine.proofs.Desk.{desk-in}
use Rattle.mb_engine.specs.machine.Beginning.{AddsScope, AddsScopes, Crosses, IsDesk, Remains, first_scopes}
use Rattle.mb_engine.specs.machine.Beginning.{with_global_scope}
use Rattle.mb_frames.specs.Held.{HeldValue}
use Rattle.mb_frames.specs.Ready.{Changed, IsReady, MayHold}
use Rattle.mb_intrinsics.proofs.Bound.{names-become, names-changed}
use Rattle.mb_intrinsics.specs.Bound.{with_bindings, with_first_scope}
use Rattle.mb_model.specs.Nodes.Scopes.{scope}
use Rattle.mb_model.specs.Story.{global_bindings, global_scopes}
use Rattle.mb_world.specs.Data.{Data, with_texts}
use Rattle.mb_world.specs.Graph.{Graph, Program, Scope}
use Rattle.mb_world.specs.Image.{Image, Resolve, names_of, scope_in}
use Rattle.mb_world.specs.Laws.{Becomes}
use Rattle.mb_world.specs.Value.{Object, Val}
use Rattle.mb_world.specs.declared.scope.Scope.{Scope as WorldScope}
use Rattle.std.proofs.Common.{Err, List, None, Ok, OnErr, OnOk, Result, [], add-one, ap, arith, length, map, refl}
use Rattle.std.proofs.Common.{subst, suc, sym, zero, ℕ, ◌+◌, ◌++◌, ◌<◌, ◌∙◌, ◌∷◌, ◌≡◌}

pub remains-then : (a b c : Data) → Remains a b → Remains b c → Remains a c
remains-then a b c h k = record {
  sides = k.sides ∙ h.sides;
  entries = k.entries ∙ h.entries;
  joined = k.joined ∙ h.joined;
  halted = k.halted ∙ h.halted;
}

-- ---- one scope

module _ (d d1 : Data) (desk : ObjId) (side : Side) (own : Value) (x : Crosses desk d d1) (takes : side.0 < d.sides)
    (held : MayHold d1 side (HeldValue own)) (stands : Resolve (names_of d1) own ≡ Object 0) where
  abbrev later : Data
  later = with_first_scope d1 side own

  there : side.0 < d1.sides
  there = subst (λ (n : ℕ). side.0 < n) (sym x.remains.sides) takes

  become : Becomes d1 later (with_bindings side.0 (Resolve (names_of d1) own))
  become = names-become d1 side own x.ready there held.within

  here : AddsScope desk side d later
  here = record {
    ready = (names-changed d1 side own x.ready there held).ready;
    remains = remains-then d d1 later x.remains (record { sides = refl; entries = refl; joined = refl; halted = refl });
    desk_is = record {
      cell = x.desk_is.cell;
      there = x.desk_is.there;
      home = x.desk_is.home;
      plain = x.desk_is.plain;
      number = become.grows.same_object desk (desk-in d1 desk x.desk_is) ∙ x.desk_is.number;
    };
    image = λ log.
        become.image log
        ∙ ap (λ (y : Val). with_bindings side.0 y (Image d1 log)) stands
        ∙ ap (λ (g : Graph). with_global_scope side.0 g) (x.becomes.image log);
  }

  pub scope-added : (d2 : Data) → d2 ≡ later → AddsScope desk side d d2
  scope-added d2 e = subst (λ (y : Data). AddsScope desk side d y) (sym e) here

-- a world that isn't joined stays so, also where memory ran out
pub joined-still : (d d1 d2 : Data) (side : Side) (own : Value) (r : Result (Unit {0}) NoMemory) → d1.joined ≡ d.joined
    → OnOk r (d2 ≡ with_first_scope d1 side own) → OnErr r (d2 ≡ with_texts d1 d2.texts) → d2.joined ≡ d.joined
joined-still d d1 d2 side own (Ok u) e h k = ap (λ (y : Data). y.joined) h ∙ e
joined-still d d1 d2 side own (Err n) e h k = ap (λ (y : Data). y.joined) k ∙ e

-- ---- all scopes

scopes-more : (s n m : ℕ) → s + n ≡ m → first_scopes s (suc n) ≡ first_scopes s n ++ scope m None global_bindings ∷ []
scopes-more s zero m e = let q : s ≡ m = omega (arith, e) in rw q refl
scopes-more s (suc n) m e =
    ap (λ (ss : List Scope). scope s None global_bindings ∷ ss) (scopes-more (s + 1) n m (omega (arith, e)))

pub scopes-none : (d : Data) (desk : ObjId) → IsReady d → IsDesk d desk → d.scopes ≡ [] → AddsScopes desk 0 d d
scopes-none d desk r k none = record {
  ready = r;
  remains = record { sides = refl; entries = refl; joined = refl; halted = refl };
  desk_is = k;
  image = λ log.
      ap (λ (ss : List Scope). record (Image d log) { scopes = ss })
      (ap (λ (ws : List WorldScope). map (scope_in (names_of d)) ws) none);
}

pub scopes-step : (d d1 d2 : Data) (desk : ObjId) (side : Side) → AddsScopes desk side.0 d d1
    → AddsScope desk side d1 d2 → AddsScopes desk (side.0 + 1) d d2
scopes-step d d1 d2 desk side h k = record {
  ready = k.ready;
  remains = remains-then d d1 d2 h.remains k.remains;
  desk_is = k.desk_is;
  image = λ log.
      let more : first_scopes 0 (side.0 + 1) ≡ first_scopes 0 side.0 ++ scope side.0 None global_bindings ∷ [] =
      rw add-one (scopes-more 0 side.0 side.0 (omega arith)) in
      k.image log ∙ ap (λ (g : Graph). with_global_scope side.0 g) (h.image log)
      ∙ ap (λ (ss : List Scope). record (Image d log) { scopes = ss }) (sym more);
}

-- they are those of the first graph
pub global-scopes : (s n : ℕ) (ps : List Program) → length ps ≡ n → first_scopes s n ≡ global_scopes s ps
global-scopes s n [] e = let q : n ≡ 0 = omega (arith, e) in rw q refl
global-scopes s zero (p ∷ ps) e = absurd (omega (arith, e))
global-scopes s (suc n) (p ∷ ps) e =
    ap (λ (ss : List Scope). scope s None global_bindings ∷ ss) (global-scopes (s + 1) n ps (omega (arith, e)))
