-- The world that was given its scripts begins.
use Rattle.mb_base.specs.declared.value.ObjId.{ObjId}
use Rattle.mb_base.specs.declared.value.Side.{Side}
use Rattle.mb_engine.proofs.Scopes.{global-scopes}
use Rattle.mb_engine.specs.machine.Beginning.{AddsScopes, Begins, IsDesk, IsSet, first_scopes, with_started}
use Rattle.mb_frames.specs.Ready.{IsReady}
use Rattle.mb_intrinsics.proofs.FirstGraph.{desk-first, desk-stands, desk-there, first-image}
use Rattle.mb_intrinsics.proofs.Readying.{furnished-ready}
use Rattle.mb_intrinsics.specs.Furnished.{IsFurnished, desk_cell, desk_id}
use Rattle.mb_intrinsics.specs.Untouched.{programs_in, rules_in}
use Rattle.mb_model.specs.Story.{first_graph}
use Rattle.mb_world.specs.Data.{Data, objects_of}
use Rattle.mb_world.specs.Graph.{Graph, Scope}
use Rattle.mb_world.specs.Ids.{HasItsIds}
use Rattle.mb_world.specs.Image.{program_in}
use Rattle.std.proofs.Common.{List, None, Option, Some, [], ap, length, refl, slice_get, subst, sym, take, true, ℕ}
use Rattle.std.proofs.Common.{◌∙◌, ◌≡◌}
use Rattle.std.proofs.lemmas.List.{length-map}

-- ---- before it is furnished

module _ (d d5 : Data) (n : ℕ) (s : IsSet d n) (e : d5 ≡ with_started d n) where
  pub no-cells : d5.cells ≡ []
  no-cells = ap (λ (x : Data). x.cells) e ∙ s.cells

  pub two-joined : d5.joined ≡ true → n ≡ 2
  two-joined h = s.untouched.two_sides (sym (ap (λ (x : Data). x.joined) e) ∙ h)

-- ---- furnished

module _ (d d5 d6 : Data) (n : ℕ) (s : IsSet d n) (e : d5 ≡ with_started d n) (f5 : IsFurnished d5 n d6) where
  f : IsFurnished (with_started d n) n d6
  f = subst (λ (x : Data). IsFurnished x n d6) e f5

  pub now-ready : HasItsIds d6 → IsReady d6
  now-ready i = furnished-ready (with_started d n) d6 n s.untouched f i

  pub now-sides : d6.sides ≡ n
  now-sides = ap (λ (x : Data). x.sides) f.all

  pub now-joined : d6.joined ≡ d.joined
  now-joined = ap (λ (x : Data). x.joined) f.all

  now-entries : d6.entries ≡ d.entries
  now-entries = ap (λ (x : Data). x.entries) f.all

  now-halted : d6.halted ≡ d.halted
  now-halted = ap (λ (x : Data). x.halted) f.all

  pub no-scopes : d6.scopes ≡ []
  no-scopes = ap (λ (x : Data). x.scopes) f.all ∙ s.untouched.scopes

  own-desk : IsDesk d6 (desk_id d.joined n)
  own-desk = record {
    cell = desk_cell d6.texts;
    there = desk-there (with_started d n) d6 n f;
    home = refl;
    plain = refl;
    number = desk-stands (with_started d n) d6 n f;
  }

  pub desk-found : (o : Option ObjId) (desk : ObjId) → o ≡ slice_get (objects_of d6.cells) 0 → o ≡ Some desk
      → IsDesk d6 desk
  desk-found o desk is some =
      let same : Some (desk_id d.joined n) ≡ Some desk =
      sym (desk-first (with_started d n) d6 n f) ∙ sym is ∙ some in
      let q : desk_id d.joined n ≡ desk = cc in
      subst (λ (x : ObjId). IsDesk d6 x) q own-desk

  pub some-desk : (o : Option ObjId) → o ≡ slice_get (objects_of d6.cells) 0 → o ≡ None → ⊥
  some-desk o is none =
      let same : Some (desk_id d.joined n) ≡ None = sym (desk-first (with_started d n) d6 n f) ∙ sym is ∙ none in
      cc

  pub begins : (d7 : Data) (desk : ObjId) → HasItsIds d5 → AddsScopes desk n d6 d7
      → Begins (first_graph (programs_in d n) (rules_in d)) n d d7
  begins d7 desk i k = record {
    ready = k.ready;
    sides = k.remains.sides ∙ now-sides;
    entries = k.remains.entries ∙ now-entries;
    joined = k.remains.joined ∙ now-joined;
    halted = k.remains.halted ∙ now-halted;
    image =
        k.image []
        ∙ ap (λ (g : Graph). record g { scopes = first_scopes 0 n })
        (first-image (with_started d n) d6 n (subst (λ (x : Data). HasItsIds x) e i) s.untouched s.cells s.symbols
        s.revoked s.jobs f)
        ∙ ap (λ (ss : List Scope). record (first_graph (programs_in d n) (rules_in d)) { scopes = ss })
        (global-scopes 0 n (programs_in d n) (length-map (take n d.programs) (program_in d.texts) ∙ s.many));
  }
