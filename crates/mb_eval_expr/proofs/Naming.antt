-- Names by their ids are names by their units, and a search of scopes goes on one scope up.
use Rattle.std.proofs.Common.{Bool, List, None, Option, Some, [], ap, false, map, nat_eq, option_map, refl, slice_get}
use Rattle.std.proofs.Common.{suc, sym, true, true≢false, zero, ℕ, ◌∙◌, ◌∷◌, ◌≡◌}
use Rattle.std.specs.Prelude.{All, IfSome, position}
use Rattle.std.specs.List.{position_or_len}
use Rattle.std.proofs.lemmas.List.{length-map}
use Rattle.std.proofs.lemmas.List.Elements.{All-head, All-tail}
use Rattle.std.proofs.lemmas.Option.{slice_get-map}
use Rattle.mb_base.specs.declared.value.StrId.{StrId}
use Rattle.mb_world.proofs.Values.{text-apart, units-equal, units-same}
use Rattle.std.proofs.lemmas.Bool.{eq-eqb, eqb-true}
use Rattle.mb_text.specs.Texts.{AreDistinct, text_at}
use Rattle.mb_world.specs.declared.scope.Bound.{Bound}
use Rattle.mb_base.specs.declared.value.ScopeId.{ScopeId}
use Rattle.mb_model.specs.Nodes.Scopes.{binding_at, binding_in as bound_in, find_from, find_name, or_above}
use Rattle.mb_eval_expr.specs.machine.Names.{bound_to, given_to}
use Rattle.mb_world.specs.declared.scope.Scope.{Scope}
use Rattle.mb_world.specs.Data.{Data, has_name, scope_at}
use Rattle.mb_world.specs.Graph.{Item}
use Rattle.mb_world.specs.Ids.{BoundIn, ScopeOf, TextIn}
use Rattle.mb_world.specs.Image.{Image, Resolve, binding_in, names_of, scope_in, text_in}
use Rattle.mb_world.specs.Value.{same_units}

place-map : {A B : Type 0} (p : B → Bool) (q : A → Bool) (g : A → B) (P : A → Type 0) → ((a : A) → P a → p (g a) ≡ q a)
    → (xs : List A) → All P xs → position_or_len p (map g xs) ≡ position_or_len q xs
place-map p q g P e [] h = refl
place-map p q g P e (x ∷ xs) h =
    rw (e x (All-head P x xs h), place-map p q g P e xs (All-tail P x xs h)) refl

position-map : {A B : Type 0} (p : B → Bool) (q : A → Bool) (g : A → B) (P : A → Type 0)
    → ((a : A) → P a → p (g a) ≡ q a) → (xs : List A) → All P xs → position p (map g xs) ≡ position q xs
position-map p q g P e xs h = rw (place-map p q g P e xs h, length-map xs g) refl

module _ (d : Data) (distinct : AreDistinct d.texts) (x : StrId) (h : TextIn d x) where
  name-same : (b : Bound) → BoundIn d b → same_units (text_in (names_of d) b.name) (text_in (names_of d) x)
      ≡ has_name x b
  name-same b k = by (has_name x b) refl (same_units (text_in (names_of d) b.name) (text_in (names_of d) x)) refl
    where
      by : (p : Bool) → has_name x b ≡ p → (q : Bool)
          → same_units (text_in (names_of d) b.name) (text_in (names_of d) x) ≡ q
          → same_units (text_in (names_of d) b.name) (text_in (names_of d) x) ≡ has_name x b
      by true e true f = f ∙ sym e
      by false e false f = f ∙ sym e
      by true e false f =
          let i : x.0 ≡ b.name.0 = eqb-true x.0 b.name.0 e in
          let j : x ≡ b.name = ap (λ n. let id : StrId = record { 0 = n } in id) i in
          absurd (true≢false (sym (units-same (text_in (names_of d) b.name)) ∙ ap
          (λ t. same_units (text_in (names_of d) b.name) (text_in (names_of d) t)) (sym j) ∙ f))
      by false e true f =
          let t : text_at d.texts b.name ≡ text_at d.texts x
          = units-equal (text_in (names_of d) b.name) (text_in (names_of d) x) f in
          let j : b.name ≡ x = text-apart d distinct b.name x k.0 h t in
          absurd (true≢false (sym (eq-eqb x.0 x.0 refl) ∙ ap (λ (t : StrId). nat_eq x.0 t.0) (sym j) ∙ e))

  -- where a scope binds the name
  pub place-same : (names : List Bound) → All (BoundIn d) names
      → position (λ b. same_units b.name (text_in (names_of d) x)) (map (binding_in (names_of d)) names) ≡ position
      (has_name x) names
  place-same names k =
      position-map (λ b. same_units b.name (text_in (names_of d) x)) (has_name x) (binding_in (names_of d))
      (BoundIn d) name-same names k

  -- a search goes on from a scope
  pub found-here : (at : ScopeId) (s : Scope) (n : ℕ) → scope_at d at ≡ Some s → ScopeOf d s → (log : List Item)
      → find_name (suc n) (Image d log).scopes at.0 (text_in (names_of d) x)
      ≡ or_above at.0 (position (has_name x) s.names) (option_map (λ p. p.0) s.parent)
      (λ p. find_name n (Image d log).scopes p (text_in (names_of d) x))
  found-here at s n e k log =
      let up : ℕ → Option (ℕ × ℕ) = λ p. find_name n (Image d log).scopes p (text_in (names_of d) x) in
      ap (λ o. find_from at.0 (text_in (names_of d) x) o up)
      (slice_get-map (scope_in (names_of d)) d.scopes at.0 ∙ ap (option_map (scope_in (names_of d))) e)
      ∙ ap (λ o. or_above at.0 o (option_map (λ p. p.0) s.parent) up) (place-same s.names k.names_in)

-- a binding as the graph has it
pub binding-is : (d : Data) (at : ScopeId) (s : Scope) (place : ℕ) → scope_at d at ≡ Some s → (log : List Item)
    → binding_at (Image d log) (Some (at.0, place)) ≡ option_map (binding_in (names_of d)) (slice_get s.names place)
binding-is d at s place e log =
    ap (bound_in place) (slice_get-map (scope_in (names_of d)) d.scopes at.0 ∙ ap
    (option_map (scope_in (names_of d))) e)
    ∙ slice_get-map (binding_in (names_of d)) s.names place

pub at-place : {A : Type 0} (P : A → Type 0) (xs : List A) (i : ℕ) → All P xs → IfSome (slice_get xs i) P
at-place P [] i h = tt
at-place P (x ∷ xs) zero h = All-head P x xs h
at-place P (x ∷ xs) (suc i) h = at-place P xs i (All-tail P x xs h)

pub bound-value : (d : Data) (b : Option Bound) → option_map (Resolve (names_of d)) (given_to b) ≡ bound_to
    (option_map (binding_in (names_of d)) b)
bound-value d None = refl
bound-value d (Some b) = refl
