-- The loops over the nodes of a tree.
use Rattle.std.proofs.Common.{◌≡◌, ℕ, suc, ◌+◌, ◌-◌, ◌<◌, ◌≤◌, Bool, true, false, nat_lt, None, map, get_or, refl, length-append, List, [], ◌∷◌, ◌++◌, length, drop, Some, sym, ap, subst, ◌∙◌, arith, inl, inr, ⊎_elim, append_assoc, append-nil, add-one}
use Rattle.std.specs.Prelude.{Option, slice_get, ◌⊎◌, All}
use Rattle.std.specs.List.Sorted.{IsNonDecreasingBy}
use Rattle.std.proofs.lemmas.Bool.{cases_eq}
use Rattle.std.proofs.lemmas.Bool.Decides.{nat_tests}
use Rattle.std.proofs.lemmas.List.{get_or_append_left, get_or-append_right}
use Rattle.std.proofs.lemmas.List.Elements.{All-nil, All-cons, All-append, All-map}
use Rattle.std.proofs.lemmas.Option.{slice_get_within}
use Rattle.std.proofs.Math.ListN.{drop_of_length-le}
use Rattle.mb_base.specs.declared.value.NodeId.{NodeId}
use Rattle.mb_base.specs.declared.value.StrId.{StrId}
use Rattle.mb_tree.specs.Roses.{Shape, id_of}
use Rattle.mb_tree.specs.Names.{Binds, node_of}
use Rattle.mb_scope.specs.Kinds.{names_itself}
use Rattle.mb_scope.specs.machine.First.{IsFirst, sooner}
use Rattle.mb_scope.specs.Bindings.{Repeats, together, IsTwice, bindings_of}
use Rattle.mb_scope.specs.Names.{itself, own_name, entry, scope_names, names_from, names_of}
use Rattle.mb_scope.proofs.First.{first_along, first_or}

-- the same in the scopes of the first n nodes
pub record TwiceBelow (shapes : List Shape) (n : ℕ) (id : NodeId) : Type 0 where
  pub twice : IsTwice shapes id
  pub below : twice.scope.0 < n

pub twice_none : (shapes : List Shape) (id : NodeId) → TwiceBelow shapes 0 id → ⊥
twice_none shapes id t = let l : t.twice.scope.0 < 0 = t.below in omega arith

pub twice_more : (shapes : List Shape) (n : ℕ) (node : Shape) (a b : Option NodeId) → slice_get shapes n ≡ Some node → IsFirst (λ id. id.0) (TwiceBelow shapes n) a → IsFirst (λ id. id.0) (Repeats (together shapes node)) b → IsFirst (λ id. id.0) (TwiceBelow shapes (n + 1)) (sooner (λ id. id.0) a b)
twice_more shapes n node a b is p q = first_or (λ id. id.0) (TwiceBelow shapes n) (Repeats (together shapes node)) (TwiceBelow shapes (n + 1)) a b
    (λ id t. let l : t.twice.scope.0 < n = t.below in record { twice = t.twice; below = omega arith })
    (λ id r. record { twice = record { scope = id_of n; node = node; is = is; repeats = r }; below = omega arith })
    cases p q
  where
    cases : (id : NodeId) → TwiceBelow shapes (n + 1) id → TwiceBelow shapes n id ⊎ Repeats (together shapes node) id
    cases id t =
        let l : t.twice.scope.0 < n + 1 = t.below in
        ⊎_elim
        (λ same.
        let place : slice_get shapes t.twice.scope.0 ≡ slice_get shapes n = ap (slice_get shapes) same in
        let node_is : t.twice.node ≡ node = let h = t.twice.is in cc in
        inr (subst (λ (x : Shape). Repeats (together shapes x) id) node_is t.twice.repeats))
        (λ apart. inl (record { twice = t.twice; below = omega arith }))
        (cases_eq t.twice.scope.0 n)

pub twice_all : (shapes : List Shape) (n : ℕ) (first : Option NodeId) → length shapes ≤ n → IsFirst (λ id. id.0) (TwiceBelow shapes n) first → IsFirst (λ id. id.0) (IsTwice shapes) first
twice_all shapes n first h = first_along (λ id. id.0) (TwiceBelow shapes n) (IsTwice shapes) first
    (λ id t. t.twice)
    (λ id t. let l : t.scope.0 < length shapes = slice_get_within shapes t.scope.0 t.node t.is in record { twice = t; below = omega arith })

-- the names of the nodes, one by one
pub names_more : (shapes : List Shape) (n : ℕ) (node : Shape) (names names' : List (NodeId × StrId × Bool)) → drop n shapes ≡ node ∷ drop (n + 1) shapes → names' ≡ names ++ scope_names shapes (id_of n) node → names' ++ names_from shapes (n + 1) (drop (n + 1) shapes) ≡ names ++ names_from shapes n (drop n shapes)
names_more shapes n node names names' e h =
    ap (λ x. x ++ names_from shapes (n + 1) (drop (n + 1) shapes)) h
    ∙ append_assoc names (scope_names shapes (id_of n) node) (names_from shapes (n + 1) (drop (n + 1) shapes))
    ∙ ap (λ k. names ++ (scope_names shapes (id_of n) node ++ names_from shapes k (drop (n + 1) shapes))) (add-one n)
    ∙ ap (λ x. names ++ names_from shapes n x) (sym e)

pub names_end : (shapes : List Shape) (n : ℕ) (names : List (NodeId × StrId × Bool)) → length shapes ≤ n → names ++ names_from shapes n (drop n shapes) ≡ names_of shapes → names ≡ names_of shapes
names_end shapes n names h e =
    sym (append-nil names) ∙ ap (λ x. names ++ names_from shapes n x) (sym (drop_of_length-le shapes h)) ∙ e

-- ---- the nodes of the names ascend

-- names of nodes up to k, and then names of nodes from k on
up-append : (k : ℕ) (xs ys : List Binds) → All (λ x. node_of x ≡ k) xs → All (λ y. k ≤ node_of y) ys → IsNonDecreasingBy node_of ys → IsNonDecreasingBy node_of (xs ++ ys)
up-append k xs ys low high up i j d p q = by (nat_lt i (length xs)) refl (nat_lt j (length xs)) refl
  where
    long : length (xs ++ ys) ≡ length xs + length ys
    long = length-append xs ys

    left : (n : ℕ) → n < length xs → node_of (get_or (xs ++ ys) n d) ≡ k
    left n l = ap node_of (get_or_append_left xs ys d n l) ∙ low n d l

    right : (n : ℕ) → length xs ≤ n → node_of (get_or (xs ++ ys) n d) ≡ node_of (get_or ys (n - length xs) d)
    right n l = ap node_of (get_or-append_right xs ys (length xs) n d refl l)

    by : (b : Bool) → nat_lt i (length xs) ≡ b → (c : Bool) → nat_lt j (length xs) ≡ c → node_of (get_or (xs ++ ys) i d) ≤ node_of (get_or (xs ++ ys) j d)
    by true e true f =
        let l : i < length xs = grind (arith, nat_tests) in
        let m : j < length xs = grind (arith, nat_tests) in
        let a : node_of (get_or (xs ++ ys) i d) ≡ k = left i l in
        let b : node_of (get_or (xs ++ ys) j d) ≡ k = left j m in
        omega arith
    by true e false f =
        let l : i < length xs = grind (arith, nat_tests) in
        let m : length xs ≤ j = grind (arith, nat_tests) in
        let t : length (xs ++ ys) ≡ length xs + length ys = long in
        let a : node_of (get_or (xs ++ ys) i d) ≡ k = left i l in
        let b : node_of (get_or (xs ++ ys) j d) ≡ node_of (get_or ys (j - length xs) d) = right j m in
        let h : k ≤ node_of (get_or ys (j - length xs) d) = high (j - length xs) d (omega arith) in
        omega arith
    by false e c f =
        let l : length xs ≤ i = grind (arith, nat_tests) in
        let m : length xs ≤ j = omega arith in
        let t : length (xs ++ ys) ≡ length xs + length ys = long in
        let a : node_of (get_or (xs ++ ys) i d) ≡ node_of (get_or ys (i - length xs) d) = right i l in
        let b : node_of (get_or (xs ++ ys) j d) ≡ node_of (get_or ys (j - length xs) d) = right j m in
        let h : node_of (get_or ys (i - length xs) d) ≤ node_of (get_or ys (j - length xs) d) = up (i - length xs) (j - length xs) d (omega arith) (omega arith) in
        omega arith

of_itself : (scope : NodeId) (b : Bool) (name : Option StrId) → All (λ x. node_of x ≡ scope.0) (itself scope b name)
of_itself scope true (Some name) = All-cons (λ x. node_of x ≡ scope.0) (scope, name, true) [] refl (All-nil (λ x. node_of x ≡ scope.0))
of_itself scope true None = All-nil (λ x. node_of x ≡ scope.0)
of_itself scope false (Some name) = All-nil (λ x. node_of x ≡ scope.0)
of_itself scope false None = All-nil (λ x. node_of x ≡ scope.0)

of_scope : (shapes : List Shape) (scope : NodeId) (node : Shape) → All (λ x. node_of x ≡ scope.0) (scope_names shapes scope node)
of_scope shapes scope node =
    All-append (λ x. node_of x ≡ scope.0) (own_name scope node) (map (entry scope) (bindings_of shapes node.children))
    (of_itself scope (names_itself node.label.kind) node.label.name)
    (All-map (λ x. node_of x ≡ scope.0) (entry scope) (bindings_of shapes node.children) (λ k d l. refl))

from_place : (shapes : List Shape) (place : ℕ) (nodes : List Shape) → All (λ x. place ≤ node_of x) (names_from shapes place nodes)
from_place shapes place [] = All-nil (λ x. place ≤ node_of x)
from_place shapes place (node ∷ nodes) =
    let rest = from_place shapes (suc place) nodes in
    All-append (λ x. place ≤ node_of x) (scope_names shapes (id_of place) node) (names_from shapes (suc place) nodes)
    (λ k d l. let e : node_of (get_or (scope_names shapes (id_of place) node) k d) ≡ place = of_scope shapes (id_of place) node k d l in omega arith)
    (λ k d l. let e : suc place ≤ node_of (get_or (names_from shapes (suc place) nodes) k d) = rest k d l in omega arith)

names-up : (shapes : List Shape) (place : ℕ) (nodes : List Shape) → IsNonDecreasingBy node_of (names_from shapes place nodes)
names-up shapes place [] = λ i j d p q. absurd (omega arith)
names-up shapes place (node ∷ nodes) =
    up-append place (scope_names shapes (id_of place) node) (names_from shapes (suc place) nodes)
    (of_scope shapes (id_of place) node)
    (λ k d l. let e : suc place ≤ node_of (get_or (names_from shapes (suc place) nodes) k d) = from_place shapes (suc place) nodes k d l in omega arith)
    (names-up shapes (suc place) nodes)

pub names_ascend : (shapes : List Shape) (names : List (NodeId × StrId × Bool)) → names ≡ names_of shapes → IsNonDecreasingBy node_of names
names_ascend shapes names e = subst (λ xs. IsNonDecreasingBy node_of xs) (sym e) (names-up shapes 0 shapes)
