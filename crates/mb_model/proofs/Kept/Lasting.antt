use Rattle.std.proofs.Common.{◌≡◌, ℕ, zero, suc, List, [], ◌∷◌, ◌++◌, Bool, true, false, is_some, Option, None, Some, slice_get, slice_set, if◌then◌else◌, refl, sym, ap, ◌∙◌, subst, true≢false}
use Rattle.mb_world.specs.Value.{Val}
use Rattle.mb_world.specs.Graph.{Binding, Graph, Scope}
use Rattle.mb_model.specs.Nodes.Scopes.{bind_with, binding_at, binding_in, giving, is_given, scope_with, scopes_with, unless_given}
use Rattle.mb_model.specs.Nodes.Lasting.{BindingLasts, BindingsLast, ScopeLasts, ScopesLast}

-- scopes last where one is added, and where a name is given that isn't both fixed and given

binding-refl : (b : Binding) → BindingLasts b b
binding-refl b = record { name = refl; fixed = refl; given = λ f g. refl }

bindings-refl : (bs : List Binding) → BindingsLast bs bs
bindings-refl [] = tt
bindings-refl (b ∷ bs) = (binding-refl b, bindings-refl bs)

scope-refl : (s : Scope) → ScopeLasts s s
scope-refl s = record { side = refl; parent = refl; bindings = bindings-refl s.bindings }

pub scopes-refl : (ss : List Scope) → ScopesLast ss ss
scopes-refl [] = tt
scopes-refl (s ∷ ss) = (scope-refl s, scopes-refl ss)

binding-trans : (a b c : Binding) → BindingLasts a b → BindingLasts b c → BindingLasts a c
binding-trans a b c p q = record {
  name = q.name ∙ p.name;
  fixed = q.fixed ∙ p.fixed;
  given = λ f g.
      let same : b.value ≡ a.value = p.given f g in
      q.given (p.fixed ∙ f) (ap is_some same ∙ g) ∙ same;
}

bindings-trans : (xs bs cs : List Binding) → BindingsLast xs bs → BindingsLast bs cs → BindingsLast xs cs
bindings-trans [] [] [] p q = tt
bindings-trans [] [] (c ∷ cs) p q = q
bindings-trans [] (b ∷ bs) cs p q = absurd p
bindings-trans (a ∷ xs) [] cs p q = absurd p
bindings-trans (a ∷ xs) (b ∷ bs) [] p q = q
bindings-trans (a ∷ xs) (b ∷ bs) (c ∷ cs) p q = (binding-trans a b c p.0 q.0, bindings-trans xs bs cs p.1 q.1)

scope-trans : (r s t : Scope) → ScopeLasts r s → ScopeLasts s t → ScopeLasts r t
scope-trans r s t p q = record {
  side = q.side ∙ p.side;
  parent = q.parent ∙ p.parent;
  bindings = bindings-trans r.bindings s.bindings t.bindings p.bindings q.bindings;
}

pub scopes-trans : (rs ss ts : List Scope) → ScopesLast rs ss → ScopesLast ss ts → ScopesLast rs ts
scopes-trans [] ss ts p q = tt
scopes-trans (r ∷ rs) [] ts p q = absurd p
scopes-trans (r ∷ rs) (s ∷ ss) [] p q = q
scopes-trans (r ∷ rs) (s ∷ ss) (t ∷ ts) p q = (scope-trans r s t p.0 q.0, scopes-trans rs ss ts p.1 q.1)

pub scopes-added : (ss ts : List Scope) → ScopesLast ss (ss ++ ts)
scopes-added [] ts = tt
scopes-added (s ∷ ss) ts = (scope-refl s, scopes-added ss ts)

-- it isn't both fixed and given
abbrev pub MayGive : Binding → Type 0
MayGive b = b.fixed ≡ true → is_some b.value ≡ true → ⊥

bound-past : (b : Binding) (bs : List Binding) (i : ℕ) (o : Option Binding) (v : Val) →
    bind_with (b ∷ bs) (suc i) o v ≡ b ∷ bind_with bs i o v
bound-past b bs i None v = refl
bound-past b bs i (Some c) v = refl

bindings-given : (bs : List Binding) (i : ℕ) (v : Val) → ((b : Binding) → slice_get bs i ≡ Some b → MayGive b) →
    BindingsLast bs (bind_with bs i (slice_get bs i) v)
bindings-given [] i v may = tt
bindings-given (b ∷ bs) zero v may =
    (record { name = refl; fixed = refl; given = λ f g. absurd (may b refl f g) }, bindings-refl bs)
bindings-given (b ∷ bs) (suc i) v may =
    subst (BindingsLast (b ∷ bs)) (sym (bound-past b bs i (slice_get bs i) v))
    (binding-refl b, bindings-given bs i v may)

scope-past : (s : Scope) (ss : List Scope) (k i : ℕ) (o : Option Scope) (v : Val) →
    scopes_with (s ∷ ss) (suc k) i o v ≡ s ∷ scopes_with ss k i o v
scope-past s ss k i None v = refl
scope-past s ss k i (Some t) v = refl

pub scopes-given : (ss : List Scope) (k i : ℕ) (v : Val) →
    ((b : Binding) → binding_in i (slice_get ss k) ≡ Some b → MayGive b) →
    ScopesLast ss (scopes_with ss k i (slice_get ss k) v)
scopes-given [] k i v may = tt
scopes-given (s ∷ ss) zero i v may =
    (record { side = refl; parent = refl; bindings = bindings-given s.bindings i v may }, scopes-refl ss)
scopes-given (s ∷ ss) (suc k) i v may =
    subst (ScopesLast (s ∷ ss)) (sym (scope-past s ss k i (slice_get ss k) v))
    (scope-refl s, scopes-given ss k i v may)

pub giving-last : (g : Graph) (p : Option (ℕ × ℕ)) (v : Val) → ((b : Binding) → binding_at g p ≡ Some b → MayGive b) →
    ScopesLast g.scopes (giving p v g).scopes
giving-last g None v may = scopes-refl g.scopes
giving-last g (Some p) v may = scopes-given g.scopes p.0 p.1 v may

-- what isn't given may be
may-if : (o : Option Binding) (b : Binding) → is_given o ≡ false → o ≡ Some b → MayGive b
may-if o b none at f g = true≢false (sym g ∙ sym (ap is_given at) ∙ none)

unless-last : (g : Graph) (p : Option (ℕ × ℕ)) (v : Val) (given : Bool) → is_given (binding_at g p) ≡ given →
    ScopesLast g.scopes (giving (if given then None else p) v g).scopes
unless-last g p v true e = scopes-refl g.scopes
unless-last g p v false e = giving-last g p v (λ b at. may-if (binding_at g p) b e at)

pub initialize-last : (g : Graph) (p : Option (ℕ × ℕ)) (v : Val) →
    ScopesLast g.scopes (giving (unless_given g p) v g).scopes
initialize-last g p v = unless-last g p v (is_given (binding_at g p)) refl
