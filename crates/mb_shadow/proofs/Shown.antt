-- What a side sees at a key of its view, in which the keys stand in the order of ownKeys.
use Rattle.std.proofs.Common.{◌≡◌, ℕ, Bool, true, false, ◌||◌, nat_lt, List, [], ◌∷◌, ◌++◌, map, Option, None, Some, is_some, filter_map, refl, sym, ap, ◌∙◌, if◌then◌else◌}
use Rattle.std.specs.List.{list_any}
use Rattle.std.specs.Map.{lookup}
use Rattle.mb_desc.specs.declared.descriptor.Full.{Full}
use Rattle.mb_view.specs.Views.{property_of}
use Rattle.mb_view.proofs.Tables.{same_key-sym}
use Rattle.mb_world.specs.Value.{Val}
use Rattle.mb_world.specs.Key.{PropertyKey, Named, SymbolKey, same_key, index_of, put_index, indices, names_only, symbols_only, keys_in_order}
use Rattle.mb_world.specs.Graph.{Graph, Thing, RuleKind, Hide, ReadOnly, Substitute, Revoke, Property}
use Rattle.mb_world.specs.Objects.{find_property, property_keys, own_property}
use Rattle.mb_world.specs.View.{shown_by, shown_property, key_rule, with_key, Shown}
use Rattle.mb_world.proofs.SameKeys.{key-equal}

or-swap : (a b c : Bool) → a || (b || c) ≡ b || (a || c)
or-swap true true c = refl
or-swap true false c = refl
or-swap false b c = refl

or-first : (a b c : Bool) → (a || b) || c ≡ a || (b || c)
or-first true b c = refl
or-first false b c = refl

any-append : (test : PropertyKey → Bool) (xs ys : List PropertyKey) → list_any test (xs ++ ys) ≡ list_any test xs || list_any test ys
any-append test [] ys = refl
any-append test (x ∷ xs) ys = ap (λ b. test x || b) (any-append test xs ys) ∙ sym (or-first (test x) (list_any test xs) (list_any test ys))

any-put : (test : PropertyKey → Bool) (p : ℕ × PropertyKey) (ps : List (ℕ × PropertyKey))
    → list_any test (map (λ i. i.1) (put_index p ps)) ≡ test p.1 || list_any test (map (λ i. i.1) ps)
any-put test p [] = refl
any-put test p (q ∷ qs) = by (nat_lt p.0 q.0) refl (any-put test p qs)
  where
    by : (b : Bool) → nat_lt p.0 q.0 ≡ b
        → list_any test (map (λ i. i.1) (put_index p qs)) ≡ test p.1 || list_any test (map (λ i. i.1) qs)
        → list_any test (map (λ i. i.1) (put_index p (q ∷ qs))) ≡ test p.1 || list_any test (map (λ i. i.1) (q ∷ qs))
    by true e rest = rw e refl
    by false e rest = rw e (ap (λ b. test q.1 || b) rest ∙ or-swap (test q.1) (test p.1) (list_any test (map (λ i. i.1) qs)))

-- a key stands in one of the three lists
abbrev parts : (PropertyKey → Bool) → List PropertyKey → Bool
parts test ks = list_any test (map (λ p. p.1) (indices ks)) || (list_any test (names_only ks) || list_any test (symbols_only ks))

abbrev Split : (PropertyKey → Bool) → PropertyKey → List PropertyKey → Type 0
Split test k ks = parts test (k ∷ ks) ≡ test k || parts test ks

split-named : (test : PropertyKey → Bool) (t : List ℕ) (ks : List PropertyKey) (i : Option ℕ) → index_of t ≡ i → Split test (Named t) ks
split-named test t ks None e =
    let a = list_any test (map (λ p. p.1) (indices ks)) in
    let b = list_any test (names_only ks) in
    let c = list_any test (symbols_only ks) in
    rw e (ap (λ x. a || x) (or-first (test (Named t)) b c) ∙ or-swap a (test (Named t)) (b || c))
split-named test t ks (Some i) e =
    rw e
    (ap (λ b. b || (list_any test (names_only ks) || list_any test (symbols_only ks))) (any-put test (i, Named t) (indices ks))
    ∙ or-first (test (Named t)) (list_any test (map (λ p. p.1) (indices ks))) (list_any test (names_only ks) || list_any test (symbols_only ks)))

split : (test : PropertyKey → Bool) (k : PropertyKey) (ks : List PropertyKey) → Split test k ks
split test (Named t) ks = split-named test t ks (index_of t) refl
split test (SymbolKey n) ks =
    let a = list_any test (map (λ p. p.1) (indices ks)) in
    let b = list_any test (names_only ks) in
    let c = list_any test (symbols_only ks) in
    ap (λ x. a || x) (or-swap b (test (SymbolKey n)) c) ∙ or-swap a (test (SymbolKey n)) (b || c)

parts-all : (test : PropertyKey → Bool) (ks : List PropertyKey) → parts test ks ≡ list_any test ks
parts-all test [] = refl
parts-all test (k ∷ ks) = split test k ks ∙ ap (λ b. test k || b) (parts-all test ks)

pub any-in_order : (test : PropertyKey → Bool) (ks : List PropertyKey) → list_any test (keys_in_order ks) ≡ list_any test ks
any-in_order test ks =
    let is = map (λ p. p.1) (indices ks) in
    any-append test (is ++ names_only ks) (symbols_only ks)
    ∙ ap (λ b. b || list_any test (symbols_only ks)) (any-append test is (names_only ks))
    ∙ or-first (list_any test is) (list_any test (names_only ks)) (list_any test (symbols_only ks))
    ∙ parts-all test ks

-- what is kept of a list of keys
lookup-kept : (f : PropertyKey → Option (Full Val)) (k : PropertyKey) (ks : List PropertyKey)
    → lookup (same_key k) (filter_map (λ i. with_key i (f i)) ks) ≡ (if list_any (same_key k) ks then f k else None)
lookup-kept f k [] = refl
lookup-kept f k (i ∷ is) = by (same_key k i) (f i) refl refl (lookup-kept f k is)
  where
    rest_or : Type 0
    rest_or = lookup (same_key k) (filter_map (λ j. with_key j (f j)) is) ≡ (if list_any (same_key k) is then f k else None)

    none : (b : Bool) → f k ≡ None → (if b then f k else None) ≡ None
    none true e = e
    none false e = refl

    by : (b : Bool) (o : Option (Full Val)) → same_key k i ≡ b → f i ≡ o → rest_or
        → lookup (same_key k) (filter_map (λ j. with_key j (f j)) (i ∷ is)) ≡ (if list_any (same_key k) (i ∷ is) then f k else None)
    by true None e h rest =
        let g : f k ≡ None = ap f (key-equal k i e) ∙ h in
        rw (e, h) (rest ∙ none (list_any (same_key k) is) g ∙ sym g)
    by true (Some p) e h rest = rw (e, h) (rw e (sym h ∙ ap f (sym (key-equal k i e))))
    by false None e h rest = rw (e, h) rest
    by false (Some p) e h rest = rw (e, h) (rw e rest)

pub any-keys : (k : PropertyKey) (ps : List Property) → list_any (same_key k) (property_keys ps) ≡ is_some (find_property k ps)
any-keys k [] = refl
any-keys k (p ∷ ps) = by (same_key p.key k) refl (any-keys k ps)
  where
    by : (b : Bool) → same_key p.key k ≡ b → list_any (same_key k) (property_keys ps) ≡ is_some (find_property k ps)
        → list_any (same_key k) (property_keys (p ∷ ps)) ≡ is_some (find_property k (p ∷ ps))
    by true e rest = let u : same_key k p.key ≡ true = same_key-sym same_key key-equal k p.key ∙ e in rw (e, u) refl
    by false e rest = let u : same_key k p.key ≡ false = same_key-sym same_key key-equal k p.key ∙ e in rw (e, u) rest

-- no rule shows what isn't there
pub shown-none : (r : Option RuleKind) → shown_by r None ≡ None
shown-none None = refl
shown-none (Some (Hide x)) = refl
shown-none (Some ReadOnly) = refl
shown-none (Some (Substitute x v)) = refl
shown-none (Some Revoke) = refl

pub seen-at : (g : Graph) (v : ℕ) (t : Thing) (k : PropertyKey) → property_of same_key (Shown g v t) k ≡ shown_property g v t k
seen-at g v t k =
    lookup-kept (shown_property g v t) k (keys_in_order (property_keys t.properties))
    ∙ ap (λ b. if b then shown_property g v t k else None)
    (any-in_order (same_key k) (property_keys t.properties) ∙ any-keys k t.properties)
    ∙ by (own_property k t) refl
  where
    by : (o : Option (Full Val)) → own_property k t ≡ o
        → (if is_some (own_property k t) then shown_property g v t k else None) ≡ shown_property g v t k
    by None e = rw e (sym (shown-none (key_rule g v t k)))
    by (Some p) e = rw e refl
