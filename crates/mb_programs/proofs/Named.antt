-- The names that the scopes of a script bind are names of its nodes.
use Rattle.mb_base.specs.declared.value.NodeId.{NodeId}
use Rattle.mb_base.specs.declared.value.StrId.{StrId}
use Rattle.mb_scope.specs.Bindings.{bindings_of, bound_as, bound_at, bound_by, decl_binding, decl_of, own}
use Rattle.mb_scope.specs.Kinds.{declares_of, is_decl, names_itself}
use Rattle.mb_scope.specs.Names.{entry, itself, names_from, own_name, scope_names}
use Rattle.mb_scope.specs.declared.binding.Binding.{Binding}
use Rattle.mb_scope.specs.declared.binding.Declares.{Declares}
use Rattle.mb_scope.specs.declared.binding.Declares.TheVariants.{Decls, Itself, Nothing}
use Rattle.mb_tree.specs.Names.{Binds}
use Rattle.mb_tree.specs.Roses.{Shape, id_of}
use Rattle.mb_world.specs.Ids.{Maybe}
use Rattle.std.proofs.Common.{Bool, List, None, Option, Some, [], false, map, slice_get, suc, true, zero, ℕ, ◌<◌, ◌∷◌}
use Rattle.std.proofs.lemmas.List.Elements.{All-append, All-cons, All-head, All-nil, All-tail}
use Rattle.std.specs.List.{flat_map}
use Rattle.std.specs.Prelude.{All, if◌then◌else◌}

at-place : {X : Type 0} (Q : X → Type 0) (xs : List X) (k : ℕ) → All Q xs → Maybe Q (slice_get xs k)
at-place Q [] k h = tt
at-place Q (x ∷ xs) zero h = All-head Q x xs h
at-place Q (x ∷ xs) (suc k) h = at-place Q xs k (All-tail Q x xs h)

all-flat : {X Y : Type 0} (Q : Y → Type 0) (f : X → List Y) (xs : List X) → ((x : X) → All Q (f x))
    → All Q (flat_map f xs)
all-flat Q f [] h = All-nil Q
all-flat Q f (x ∷ xs) h = All-append Q (f x) (flat_map f xs) (h x) (all-flat Q f xs h)

module _ (n : ℕ) where
  abbrev IsName : StrId → Type 0
  IsName id = id.0 < n

  abbrev IsNamed : Shape → Type 0
  IsNamed x = Maybe IsName x.label.name

  abbrev BindsName : Binding → Type 0
  BindsName b = IsName b.name

  abbrev EntersName : Binds → Type 0
  EntersName e = IsName e.1

  own-named : (id : NodeId) (o : Option StrId) (fixed : Bool) → Maybe IsName o → All BindsName (own id o fixed)
  own-named id None fixed h = All-nil BindsName
  own-named id (Some name) fixed h =
      All-cons BindsName (record { node = id; name = name; fixed = fixed }) [] h (All-nil BindsName)

  decl-named : (fixed : Bool) (id : NodeId) (o : Option Shape) → Maybe IsNamed o → All BindsName (decl_of fixed id o)
  decl-named fixed id None h = All-nil BindsName
  decl-named fixed id (Some x) h = by (is_decl x.label.kind)
    where
      by : (b : Bool) → All BindsName (if b then own id x.label.name fixed else [])
      by true = own-named id x.label.name fixed h
      by false = All-nil BindsName

  module _ (shapes : List Shape) (good : All IsNamed shapes) where
    as-named : (id : NodeId) (x : Shape) (d : Declares) → IsNamed x → All BindsName (bound_as shapes id x d)
    as-named id x Itself h = own-named id x.label.name false h
    as-named id x (Decls fixed) h =
        all-flat BindsName (decl_binding shapes fixed) x.children
        (λ child. decl-named fixed child (slice_get shapes child.0) (at-place IsNamed shapes child.0 good))
    as-named id x Nothing h = All-nil BindsName

    at-named : (id : NodeId) (o : Option Shape) → Maybe IsNamed o → All BindsName (bound_at shapes id o)
    at-named id None h = All-nil BindsName
    at-named id (Some x) h = as-named id x (declares_of x.label.kind) h

    bindings-named : (parts : List NodeId) → All BindsName (bindings_of shapes parts)
    bindings-named parts =
        all-flat BindsName (bound_by shapes) parts
        (λ id. at-named id (slice_get shapes id.0) (at-place IsNamed shapes id.0 good))

    itself-named : (scope : NodeId) (b : Bool) (o : Option StrId) → Maybe IsName o
        → All EntersName (itself scope b o)
    itself-named scope true (Some name) h = All-cons EntersName (scope, name, true) [] h (All-nil EntersName)
    itself-named scope true None h = All-nil EntersName
    itself-named scope false (Some name) h = All-nil EntersName
    itself-named scope false None h = All-nil EntersName

    entries-named : (scope : NodeId) (bs : List Binding) → All BindsName bs → All EntersName (map (entry scope) bs)
    entries-named scope [] h = All-nil EntersName
    entries-named scope (b ∷ bs) h =
        All-cons EntersName (entry scope b) (map (entry scope) bs) (All-head BindsName b bs h)
        (entries-named scope bs (All-tail BindsName b bs h))

    pub names-named : (m : ℕ) (xs : List Shape) → All IsNamed xs → All EntersName (names_from shapes m xs)
    names-named m [] h = All-nil EntersName
    names-named m (x ∷ xs) h =
        All-append EntersName (scope_names shapes (id_of m) x) (names_from shapes (suc m) xs)
        (All-append EntersName (own_name (id_of m) x) (map (entry (id_of m)) (bindings_of shapes x.children))
        (itself-named (id_of m) (names_itself x.label.kind) x.label.name (All-head IsNamed x xs h))
        (entries-named (id_of m) (bindings_of shapes x.children) (bindings-named x.children)))
        (names-named (suc m) xs (All-tail IsNamed x xs h))
