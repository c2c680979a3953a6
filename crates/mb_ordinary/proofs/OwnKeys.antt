-- The keys of a table in order stand for an object's own keys in order.
use Rattle.std.proofs.Common.{◌≡◌, ℕ, ◌^◌, ◌-◌, Bool, true, false, not, nat_eq, List, [], ◌∷◌, ◌++◌, map, Some, None, is_none, if◌then◌else◌, refl, sym, ap, ◌∙◌}
use Rattle.std.specs.Prelude.{All}
use Rattle.std.specs.List.{IsDistinct}
use Rattle.std.specs.Map.{keys_of}
use Rattle.std.proofs.lemmas.List.{map-append}
use Rattle.std.proofs.lemmas.List.Elements.{All-head, All-tail, All-map, All-weaker}
use Rattle.std.proofs.lemmas.List.Sorted.{All-permutation}
use Rattle.mb_base.specs.declared.value.Key.{Key}
use Rattle.mb_base.specs.declared.value.Key.TheVariants.{Text, Symbol}
use Rattle.mb_base.specs.declared.value.Value.{Value}
use Rattle.mb_desc.specs.declared.descriptor.Full.{Full}
use Rattle.mb_text.specs.Texts.{AreDistinct, text_at}
use Rattle.mb_text.specs.Index.{index_of as spelled_index}
use Rattle.mb_props.specs.Table.{same_key}
use Rattle.mb_props.specs.KeyOrder.{is_name, is_symbol, array_indices, names, symbols, IsInKeyOrder}
use Rattle.mb_world.specs.Key.{PropertyKey, keep_if, indices, names_only, symbols_only, keys_in_order}
use Rattle.mb_world.specs.Key as graph
use Rattle.mb_world.specs.Objects.{property_keys}
use Rattle.mb_world.specs.Data.{Data}
use Rattle.mb_world.specs.Ids.{KeyIn, PropertyIn}
use Rattle.mb_world.specs.Image.{names_of, key_in, property_in}
use Rattle.mb_ordinary.proofs.Spelled.{index_if, spelled}
use Rattle.mb_ordinary.proofs.Sorting.{in_order, in-order, indexed, indices-are}

none-index : (i : ℕ) → is_none (index_if i) ≡ nat_eq i (2 ^ 32 - 1)
none-index i = by (nat_eq i (2 ^ 32 - 1))
  where
    by : (b : Bool) → is_none (if not b then Some i else None) ≡ b
    by true = refl
    by false = refl

module _ (d : Data) where
  name-is : (k : Key) → KeyIn d k → graph.is_name (key_in (names_of d) k) ≡ is_name k
  name-is (Text text index) h =
      ap is_none (spelled (text_at d.texts text)) ∙ none-index (spelled_index (text_at d.texts text)) ∙ ap (λ i. nat_eq i (2 ^ 32 - 1)) (sym h.1)
  name-is (Symbol symbol) h = refl

  symbol-is : (k : Key) → graph.is_symbol (key_in (names_of d) k) ≡ is_symbol k
  symbol-is (Text text index) = refl
  symbol-is (Symbol symbol) = refl

  names-are : (ks : List Key) → All (KeyIn d) ks → names_only (map (key_in (names_of d)) ks) ≡ map (key_in (names_of d)) (names ks)
  names-are [] h = refl
  names-are (k ∷ ks) h =
      ap (λ b. keep_if b (key_in (names_of d) k) (names_only (map (key_in (names_of d)) ks))) (name-is k (All-head (KeyIn d) k ks h))
      ∙ ap (keep_if (is_name k) (key_in (names_of d) k)) (names-are ks (All-tail (KeyIn d) k ks h))
      ∙ by (is_name k)
    where
      by : (b : Bool) → keep_if b (key_in (names_of d) k) (map (key_in (names_of d)) (names ks)) ≡ map (key_in (names_of d)) (if b then k ∷ names ks else names ks)
      by true = refl
      by false = refl

  symbols-are : (ks : List Key) → symbols_only (map (key_in (names_of d)) ks) ≡ map (key_in (names_of d)) (symbols ks)
  symbols-are [] = refl
  symbols-are (k ∷ ks) =
      ap (λ b. keep_if b (key_in (names_of d) k) (symbols_only (map (key_in (names_of d)) ks))) (symbol-is k)
      ∙ ap (keep_if (is_symbol k) (key_in (names_of d) k)) (symbols-are ks)
      ∙ by (is_symbol k)
    where
      by : (b : Bool) → keep_if b (key_in (names_of d) k) (map (key_in (names_of d)) (symbols ks)) ≡ map (key_in (names_of d)) (if b then k ∷ symbols ks else symbols ks)
      by true = refl
      by false = refl

  keys-are : (ps : List (Key × Full Value)) → property_keys (map (property_in (names_of d)) ps) ≡ map (key_in (names_of d)) (keys_of ps)
  keys-are [] = refl
  keys-are (p ∷ ps) = ap (λ r. key_in (names_of d) p.0 ∷ r) (keys-are ps)

  pub keys-in : (ps : List (Key × Full Value)) → All (PropertyIn d) ps → All (KeyIn d) (keys_of ps)
  keys-in ps h = All-map (KeyIn d) (λ (p : Key × Full Value). p.0) ps (All-weaker (PropertyIn d) (λ p. KeyIn d p.0) (λ p k. k.0) ps h)

  pub ordered-in : (ps : List (Key × Full Value)) (ordered : List Key) → All (PropertyIn d) ps → IsInKeyOrder (keys_of ps) ordered → All (KeyIn d) ordered
  ordered-in ps ordered h o = All-permutation (KeyIn d) (keys_of ps) ordered o.permutation (keys-in ps h)

  module _ (distinct : AreDistinct d.texts) where
    second : (ks : List Key) → map (λ (p : ℕ × PropertyKey). p.1) (map (indexed d distinct) ks) ≡ map (key_in (names_of d)) ks
    second [] = refl
    second (k ∷ ks) = ap (λ r. key_in (names_of d) k ∷ r) (second ks)

    pub own-keys : (ps : List (Key × Full Value)) (ordered : List Key) → All (PropertyIn d) ps → IsDistinct same_key (keys_of ps) → IsInKeyOrder (keys_of ps) ordered → map (key_in (names_of d)) ordered ≡ keys_in_order (property_keys (map (property_in (names_of d)) ps))
    own-keys ps ordered h u o =
        let ks : List Key = keys_of ps in
        let key : Key → PropertyKey = key_in (names_of d) in
        let within : All (KeyIn d) ks = keys-in ps h in
        ap (map key) o.in_parts
        ∙ map-append key (array_indices ordered ++ names ks) (symbols ks)
        ∙ ap (λ (r : List PropertyKey). r ++ map key (symbols ks)) (map-append key (array_indices ordered) (names ks))
        ∙ ap (λ (r : List PropertyKey). r ++ map key (names ks) ++ map key (symbols ks))
        (ap (map key) (in-order d distinct ks ordered within u o) ∙ sym (second (in_order ks)) ∙ ap (map (λ (p : ℕ × PropertyKey). p.1)) (sym (indices-are d distinct ks within)))
        ∙ ap (λ (r : List PropertyKey). map (λ (p : ℕ × PropertyKey). p.1) (indices (map key ks)) ++ r ++ map key (symbols ks)) (sym (names-are ks within))
        ∙ ap (λ (r : List PropertyKey). map (λ (p : ℕ × PropertyKey). p.1) (indices (map key ks)) ++ names_only (map key ks) ++ r) (sym (symbols-are ks))
        ∙ ap keys_in_order (sym (keys-are ps))
