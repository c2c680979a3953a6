-- Tasks must fit.
use Rattle.std.proofs.Common.{◌≡◌, zero, suc, true, false, [], ◌∷◌, None, Some, refl, ap, ◌∙◌, subst}
use Rattle.std.specs.List.{IsDistinct}
use Rattle.mb_desc.specs.declared.descriptor.Desc.{Desc}
use Rattle.mb_desc.specs.declared.descriptor.Full.{Full}
use Rattle.mb_desc.specs.declared.descriptor.Full.TheVariants.{Datum, Accessor}
use Rattle.mb_desc.specs.Descriptors.{no_fields}
use Rattle.mb_desc.specs.Validate.{Validate}
use Rattle.mb_view.specs.Views.{property_of}
use Rattle.mb_world.specs.Value.{Val, Undefined, Null, Object}
use Rattle.mb_world.specs.Key.{PropertyKey, Named, same_key}
use Rattle.mb_world.specs.Graph.{Graph, Thing, Plain, Proxy, Hide}
use Rattle.mb_world.specs.Objects.{new_thing}
use Rattle.mb_world.specs.View.{Shown}
use Rattle.mb_model.specs.Engine.{given, state_of}
use Rattle.mb_model.specs.Task.{Prop, Walk, Perform, GetOwnProperty, DefineOwnProperty, Normal}
use Rattle.mb_model.specs.Trace.Entries.{method_entry, with_entry}
use Rattle.mb_model.specs.Meaning.{Means}
use Rattle.mb_growth.specs.Objects.{as_view, IsFormed}
use Rattle.mb_growth.specs.Later.{AreFormed, EachEvolves}
use Rattle.mb_growth.specs.Targets.{HasTargets}
use Rattle.mb_growth.specs.Lawful.{KeepsPromises}
use Rattle.mb_growth.specs.Needs.{WalksMustFit, DefinitionsMustFit, ViewsMustFit}
use Rattle.mb_growth.proofs.Made.{nothing-distinct}

-- a graph with one object
abbrev only : Thing → Graph
only t = record {
  objects = t ∷ [];
  symbols = [];
  scopes = [];
  queues = [];
  programs = [];
  rules = [];
  revoked = false;
  log = [];
}

only-formed : (t : Thing) → IsFormed t → AreFormed (only t)
only-formed t formed zero u at = let e : t ≡ u = cc in subst IsFormed e formed
only-formed t formed (suc n) u at = absurd (let bad : None ≡ Some u = at in cc)

-- what becomes of it
abbrev Turned : Thing → Graph → Type 0
Turned u after = after ≡ only u

-- ---- a walk

abbrev sealed : Thing
sealed = record (new_thing 0 None Plain Null) { extensible = false }

abbrev moved : Thing
moved = record sealed { prototype = Undefined }

walked : Turned moved (state_of (Means (Walk (Object 0) Undefined Undefined) (only sealed) 1))
unfolding given
walked = refl

not-moved : EachEvolves (only sealed) (only moved) → ⊥
not-moved each =
    let later = each 0 sealed refl in
    let same : moved ≡ later.0 = let e : Some moved ≡ Some later.0 = later.1 in cc in
    let kept : later.0.prototype ≡ Null = later.2.evolves.facts.prototype refl in
    let bad : Undefined ≡ Null = ap (λ (t : Thing). t.prototype) same ∙ kept in
    cc

pub walks-must-fit : WalksMustFit
walks-must-fit = (
  only sealed,
  (
    only-formed sealed (record { distinct = nothing-distinct; array = λ a. absurd (let bad : false ≡ true = a in cc) }),
    λ each. not-moved (subst (EachEvolves (only sealed)) walked each),
  ),
)

-- ---- a definition

abbrev key : PropertyKey
key = Named (97 ∷ [])

abbrev holding : Full Val → Thing
holding f = record (new_thing 0 None Plain Null) { properties = record { key = key; full = f } ∷ [] }

abbrev fixed : Full Val
fixed = Accessor Undefined Undefined false false

abbrev loosened : Full Val
loosened = Datum Null false false false

abbrev both : Desc Val
both = record no_fields { value = Some Null; get = Some Undefined }

defined : Turned (holding loosened) (state_of (Means (Perform 0 (DefineOwnProperty key both) (Object 0) 0 false) (only (holding fixed)) 1))
unfolding given Validate
defined = refl

one-distinct : IsDistinct same_key (key ∷ [])
unfolding IsDistinct
one-distinct = (tt, tt)

not-loosened : EachEvolves (only (holding fixed)) (only (holding loosened)) → ⊥
not-loosened each =
    let later = each 0 (holding fixed) refl in
    let same : holding loosened ≡ later.0 = let e : Some (holding loosened) ≡ Some later.0 = later.1 in cc in
    let kept = later.2.evolves.facts.properties key fixed refl refl in
    let there : Some loosened ≡ Some kept.0 = ap (λ (t : Thing). property_of same_key (as_view t) key) same ∙ kept.1 in
    let bad : loosened ≡ fixed = let e : loosened ≡ kept.0 = cc in e ∙ kept.2 in
    cc

pub definitions-must-fit : DefinitionsMustFit
definitions-must-fit = (
  only (holding fixed),
  key,
  both,
  (
    only-formed (holding fixed) (record { distinct = one-distinct; array = λ a. absurd (let bad : false ≡ true = a in cc) }),
    λ each. not-loosened (subst (EachEvolves (only (holding fixed))) defined each),
  ),
)

-- ---- a view

-- the key is hidden from other sides than the owner
abbrev shy : Thing
shy = record (holding loosened) { label = Some [] }

abbrev hidden : Graph
hidden = record (only shy) { rules = record { label = []; kind = Hide (97 ∷ []); owner = None; viewer = None } ∷ [] }

-- the other side's entry tells of it
abbrev told : Graph
told = with_entry (method_entry 0 1 (Object 0) (GetOwnProperty key) (Normal (Prop (Some loosened)))) hidden

tells : state_of (Means (Perform 1 (GetOwnProperty key) (Object 0) 0 true) hidden 1) ≡ told
unfolding given
tells = refl

hidden-keeps : KeepsPromises hidden
hidden-keeps = record {
  formed = only-formed shy (record { distinct = one-distinct; array = λ a. absurd (let bad : false ≡ true = a in cc) });
  targets = unaimed;
  placed = λ place e at. absurd (let bad : None ≡ Some e = at in cc);
  performed = λ place e at. absurd (let bad : None ≡ Some e = at in cc);
  promises = λ s n view at. tt;
  lawful = tt;
}
  where
    unaimed : HasTargets hidden
    unaimed zero t target handler shape at kind =
        let e : shy ≡ t = cc in
        absurd (let bad : Plain ≡ Proxy target handler shape = ap (λ (x : Thing). x.kind) e ∙ kind in cc)
    unaimed (suc n) t target handler shape at kind = absurd (let bad : None ≡ Some t = at in cc)

not-kept : KeepsPromises told → ⊥
not-kept keeps =
    let h = (keeps.promises 1 0 (Shown told 1 shy) refl).0 in
    let bad : None ≡ Some h.0 = h.1 in
    cc

pub views-must-fit : ViewsMustFit
views-must-fit = (hidden, key, hidden-keeps, λ keeps. not-kept (subst KeepsPromises tells keeps))
