-- What lasts of scopes: each stays, with its names, and so does what is given of a fixed one (ECMA-262 9.1.1.1).
use Rattle.std.specs.Prelude.{◌≡◌, List, [], ◌∷◌, true, is_some}
use Rattle.mb_world.specs.Graph.{Binding, Scope}

pub record BindingLasts (b c : Binding) : Type 0 where
  pub name : c.name ≡ b.name
  pub fixed : c.fixed ≡ b.fixed
  pub given : b.fixed ≡ true → is_some b.value ≡ true → c.value ≡ b.value

abbrev pub BindingsLast : List Binding → List Binding → Type 0
BindingsLast [] [] = Unit {0}
BindingsLast [] (c ∷ cs) = ⊥
BindingsLast (b ∷ bs) [] = ⊥
BindingsLast (b ∷ bs) (c ∷ cs) = BindingLasts b c × BindingsLast bs cs

pub record ScopeLasts (s t : Scope) : Type 0 where
  pub side : t.side ≡ s.side
  pub parent : t.parent ≡ s.parent
  pub bindings : BindingsLast s.bindings t.bindings

-- each scope of the one list is there in the other
abbrev pub ScopesLast : List Scope → List Scope → Type 0
ScopesLast [] ts = Unit {0}
ScopesLast (s ∷ ss) [] = ⊥
ScopesLast (s ∷ ss) (t ∷ ts) = ScopeLasts s t × ScopesLast ss ts
