-- The world in which the tests begin.
use Rattle.std.proofs.Common.{◌≡◌, ℕ, zero, suc, ◌<◌, List, [], ◌∷◌, slice_get, slice_index_or, Option, Some, None, true, false, is_some, refl, ap, sym, ◌∙◌, arith}
use Rattle.std.specs.Prelude.{All}
use Rattle.std.proofs.lemmas.List.Elements.{All-nil, All-cons}
use Rattle.mb_base.specs.declared.value.ObjId.{ObjId}
use Rattle.mb_base.specs.declared.value.Side.{Side}
use Rattle.mb_base.specs.declared.value.StrId.{StrId}
use Rattle.mb_base.specs.declared.value.Value.TheVariants as v
use Rattle.mb_text.specs.Texts.{with_text}
use Rattle.mb_world.specs.declared.cell.Cell.{Cell}
use Rattle.mb_world.specs.declared.cell.CellKind.TheVariants.{BuiltIn, Membrane}
use Rattle.mb_world.specs.declared.entry.Entry.{Entry}
use Rattle.mb_world.specs.declared.scope.Bound.{Bound}
use Rattle.mb_world.specs.declared.scope.Scope.{Scope}
use Rattle.mb_world.specs.declared.scope.Job.{Job}
use Rattle.mb_world.specs.Data.{Data, AtPlace, fresh, kind_stand, built_in_of, new_cell, with_texts, with_symbol, with_scope, made}
use Rattle.mb_world.specs.Contained.{Contained, Paired, IsOwn, IsMembrane, HasItsTwo, HasProxyOf, IsOfTable, in_cell, in_scope, in_job}
use Rattle.mb_maps.specs.Crossed.{CanCross, AreShared}
use Rattle.mb_maps.proofs.Lists.{obj-same}

abbrev pub built_in : ℕ → Cell
built_in n = new_cell [] (record { 0 = n }) (BuiltIn 0) v.Null None

abbrev pub built_ins : List Cell
built_ins = built_in 0 ∷ built_in 1 ∷ built_in 2 ∷ []

abbrev pub scope : Scope
scope = record { home = record { 0 = 0 }; parent = None; names = [] }

-- three sides with a built-in each, and a scope
abbrev pub furnished : List (List ℕ) → List (Option StrId) → Data
furnished texts symbols = record fresh { texts = texts; symbols = symbols; sides = 3; cells = built_ins; scopes = scope ∷ [] }

-- each cell is the built-in of the side of its number
record IsThat (n : ℕ) (c : Cell) : Type 0 where
  pub home : c.home.0 ≡ n
  pub kind : c.kind ≡ BuiltIn 0

is-that : (n : ℕ) (c : Cell) → slice_get built_ins n ≡ Some c → IsThat n c
is-that zero c e = let z : c ≡ built_in 0 = cc in rw z (record { home = refl; kind = refl })
is-that (suc zero) c e = let z : c ≡ built_in 1 = cc in rw z (record { home = refl; kind = refl })
is-that (suc (suc zero)) c e = let z : c ≡ built_in 2 = cc in rw z (record { home = refl; kind = refl })
is-that (suc (suc (suc n))) c e = cc

no-jobs : (n : ℕ) → slice_index_or fresh.queues n [] ≡ []
no-jobs zero = refl
no-jobs (suc zero) = refl
no-jobs (suc (suc zero)) = refl
no-jobs (suc (suc (suc zero))) = refl
no-jobs (suc (suc (suc (suc zero)))) = refl
no-jobs (suc (suc (suc (suc (suc zero))))) = refl
no-jobs (suc (suc (suc (suc (suc (suc zero)))))) = refl
no-jobs (suc (suc (suc (suc (suc (suc (suc zero))))))) = refl
no-jobs (suc (suc (suc (suc (suc (suc (suc (suc n)))))))) = refl

each-side : (n : ℕ) → n < 3 → is_some (built_in_of false built_ins (record { 0 = n }) 0) ≡ true
each-side zero l = refl
each-side (suc zero) l = refl
each-side (suc (suc zero)) l = refl
each-side (suc (suc (suc n))) l = absurd (omega arith)

module _ (texts : List (List ℕ)) (symbols : List (Option StrId)) where
  abbrev d : Data
  d = furnished texts symbols

  no-membrane : (id behind shadow : ObjId) (side : Side) → IsMembrane d id side behind shadow → ⊥
  no-membrane id behind shadow side m = let z : BuiltIn 0 ≡ Membrane behind shadow = sym (is-that id.0 m.cell m.there).kind ∙ m.kind_is in cc

  each : (P : Cell → Type 0) → P (built_in 0) → P (built_in 1) → P (built_in 2) → All P built_ins
  each P a b c = All-cons P (built_in 0) (built_in 1 ∷ built_in 2 ∷ []) a (All-cons P (built_in 1) (built_in 2 ∷ []) b (All-cons P (built_in 2) [] c (All-nil P)))

  of-table : IsOfTable (BuiltIn 0)
  of-table e = cc

  contained : Contained d
  contained = record {
    cells_own = each (λ (c : Cell). All (IsOwn d c.home) (in_cell c)) (All-nil (IsOwn d (record { 0 = 0 }))) (All-nil (IsOwn d (record { 0 = 1 }))) (All-nil (IsOwn d (record { 0 = 2 })));
    two_of_proxies = each (λ (c : Cell). HasItsTwo d c.home c.kind) tt tt tt;
    scopes_own = All-cons (λ (s : Scope). All (IsOwn d s.home) (in_scope s)) scope [] (All-nil (IsOwn d scope.home)) (All-nil (λ (s : Scope). All (IsOwn d s.home) (in_scope s)));
    jobs_own = λ side l. rw (no-jobs side.0) (All-nil (λ (x : Job). All (IsOwn d side) (in_job x)));
    of_table = each (λ (c : Cell). IsOfTable c.kind) of-table of-table of-table;
    one_for_a_place = λ i k place c e ic ke same ck ek.
        obj-same i k (sym (is-that i.0 c ic).home ∙ ap (λ (s : Side). s.0) same ∙ (is-that k.0 e ke).home);
  }

  paired : Paired d
  paired = record {
    behind_is_object = λ id b s side m. absurd (no-membrane id b s side m);
    one_for_an_object = λ i k b s t side m n. absurd (no-membrane i b s side m);
    one_for_a_shadow = λ i k a b s side m n. absurd (no-membrane i a s side m);
    proxy_of_entry = λ j. All-nil (λ (e : Entry). HasProxyOf d e.side e.object);
  }

  shared : AreShared d
  shared id c place side e s l =
      let z : AtPlace 0 ≡ AtPlace place = sym (ap kind_stand (is-that id.0 c e).kind) ∙ s in
      let p : place ≡ 0 = cc in
      rw p (each-side side.0 l)

  pub furnished-can : CanCross d
  furnished-can = record { sides = omega arith; contained = contained; paired = paired; built_ins = shared }

-- the world after the calls that furnish it
pub world-can : (w0 w1 w2 w3 w4 w5 w6 w7 : Data) (text : List ℕ) (symbol : Option StrId) (names : List Bound) → w0 ≡ fresh → w1 ≡ record w0 { sides = 3 }
    → w2 ≡ with_texts w1 (with_text w1.texts text) → w3 ≡ with_symbol w2 symbol → names ≡ []
    → w4 ≡ with_scope w3 (record { home = record { 0 = 0 }; parent = None; names = names })
    → w5 ≡ made w4 (record { 0 = 0 }) (BuiltIn 0) v.Null None → w6 ≡ made w5 (record { 0 = 1 }) (BuiltIn 0) v.Null None
    → w7 ≡ made w6 (record { 0 = 2 }) (BuiltIn 0) v.Null None → CanCross w7
world-can w0 w1 w2 w3 w4 w5 w6 w7 text symbol names e0 e1 e2 e3 en e4 e5 e6 e7 =
    rw (e7, e6, e5, e4, en, e3, e2, e1, e0) (furnished-can (with_text [] text) (symbol ∷ []))
