-- Keys that are in the order of a table's own keys are the own keys of a view.
use Rattle.std.proofs.Common.{◌≡◌, ℕ, zero, suc, ◌<◌, ◌≤◌, ◌-◌, ◌^◌, Bool, true, false, ◌&&◌, ◌||◌, List, [], ◌∷◌, ◌++◌, length, get_or, nat_lt, ◌==◌, refl, sym, ap, ◌∙◌, arith, append_assoc}
use Rattle.std.specs.List.{AllByRecursion, IsDistinct, filter, list_any}
use Rattle.std.specs.List.Sorted.{IsNonDecreasingBy}
use Rattle.std.specs.Map.{keys_of}
use Rattle.std.proofs.lemmas.List.Elements.{filter_agree}
use Rattle.std.proofs.lemmas.List.Sorted.{list_any-IsPermutation}
use Rattle.std.proofs.lemmas.Map.Keys.{IsDistinct-head, IsDistinct-tail, IsDistinct-IsPermutation}
use Rattle.mb_base.specs.declared.value.Key.{Key}
use Rattle.mb_base.specs.declared.value.Key.TheVariants.{Text, Symbol}
use Rattle.mb_props.specs.KeyOrder.{index_of, is_array_index, is_name, is_symbol as is_symbol_key, array_indices, names, symbols as symbols_among, IsInKeyOrder}
use Rattle.mb_view.specs.Keys.{equal, same_key, sort_of_key}
use Rattle.mb_desc.specs.View.{View}
use Rattle.mb_view.specs.Views.{is_index, is_text, is_symbol, texts, HasDistinctKeys}
use Rattle.mb_view.specs.OwnKeys.{Ascends, IsOwnKeys}
use Rattle.mb_view.proofs.Lists.{distinct-sublist, filter-sublist}
use Rattle.mb_view.proofs.Tables.{same_key-sym}
use Rattle.mb_view.proofs.Walks.{members}
use Rattle.std.proofs.lemmas.Bool.{eq-eqb, ltb-true, ltb-false}

module _ {X : Type 0} where
  All-at : (P : X → Type 0) (xs : List X) → ((k : ℕ) (d : X) → k < length xs → P (get_or xs k d)) → AllByRecursion P xs
  All-at P [] h = tt
  All-at P (x ∷ xs) h = (h zero x (omega arith), All-at P xs (λ k d below. h (suc k) d (omega (arith, below))))

  All-two : (P Q R : X → Type 0) → ((x : X) → P x → Q x → R x) → (xs : List X) → AllByRecursion P xs → AllByRecursion Q xs → AllByRecursion R xs
  All-two P Q R f [] h k = tt
  All-two P Q R f (x ∷ xs) h k = (f x h.0 k.0, All-two P Q R f xs h.1 k.1)

reflexive : (x : Key) → equal x x ≡ true
reflexive (Text text index) =
    let a : (text.0 == text.0) ≡ true = eq-eqb text.0 text.0 refl in
    let b : (index == index) ≡ true = eq-eqb index index refl in
    rw (a, b) refl
reflexive (Symbol symbol) = let a : (symbol.0 == symbol.0) ≡ true = eq-eqb symbol.0 symbol.0 refl in rw a refl

-- the sorts of keys are those that a table tells
index-sort : (key : Key) → is_array_index key ≡ is_index (sort_of_key key)
index-sort (Text text index) = by (index == 2 ^ 32 - 1) refl
  where
    by : (b : Bool) → (index == 2 ^ 32 - 1) ≡ b → is_array_index (Text text index) ≡ is_index (sort_of_key (Text text index))
    by true e = rw e refl
    by false e = rw e refl
index-sort (Symbol symbol) = refl

text-sort : (key : Key) → is_name key ≡ is_text (sort_of_key key)
text-sort (Text text index) = by (index == 2 ^ 32 - 1) refl
  where
    by : (b : Bool) → (index == 2 ^ 32 - 1) ≡ b → is_name (Text text index) ≡ is_text (sort_of_key (Text text index))
    by true e = rw e refl
    by false e = rw e refl
text-sort (Symbol symbol) = refl

symbol-sort : (key : Key) → is_symbol_key key ≡ is_symbol (sort_of_key key)
symbol-sort (Text text index) = by (index == 2 ^ 32 - 1) refl
  where
    by : (b : Bool) → (index == 2 ^ 32 - 1) ≡ b → is_symbol_key (Text text index) ≡ is_symbol (sort_of_key (Text text index))
    by true e = rw e refl
    by false e = rw e refl
symbol-sort (Symbol symbol) = refl

-- a filter has the members that pass
any-filter-and : (p : Key → Bool) (q : Key) (xs : List Key) → list_any (equal q) (filter p xs) ≡ p q && list_any (equal q) xs
any-filter-and p q [] = by (p q)
  where
    by : (b : Bool) → false ≡ b && false
    by true = refl
    by false = refl
any-filter-and p q (x ∷ xs) = by (p x) (equal q x) refl refl (any-filter-and p q xs)
  where
    here : (b c : Bool) → b ≡ true → true ≡ b && (true || c)
    here true c e = refl
    here false c e = absurd (let bad : false ≡ true = e in cc)

    gone : (b c : Bool) → b ≡ false → b && c ≡ b && (true || c)
    gone true c e = absurd (let bad : true ≡ false = e in cc)
    gone false c e = refl

    by : (a b : Bool) → p x ≡ a → equal q x ≡ b → list_any (equal q) (filter p xs) ≡ p q && list_any (equal q) xs → list_any (equal q) (filter p (x ∷ xs)) ≡ p q && list_any (equal q) (x ∷ xs)
    by true true s t rest = let u : p q ≡ true = ap p (same_key q x t) ∙ s in rw (s, t) (here (p q) (list_any (equal q) xs) u)
    by false true s t rest = let u : p q ≡ false = ap p (same_key q x t) ∙ s in rw (s, t) (rest ∙ gone (p q) (list_any (equal q) xs) u)
    by true false s t rest = rw (s, t) rest
    by false false s t rest = rw (s, t) rest

-- keys that don't fall, and of which no two have one index, rise
ascends-from : (xs : List Key) → IsDistinct equal xs → IsNonDecreasingBy index_of xs → ((x y : Key) → list_any (equal x) xs ≡ true → list_any (equal y) xs ≡ true → index_of x ≡ index_of y → x ≡ y) → Ascends index_of xs
ascends-from [] d rise one = tt
ascends-from (x ∷ xs) d rise one = (
  All-two (λ y. equal x y ≡ false) (λ y. (index_of x ≤ index_of y) × (list_any (equal y) xs ≡ true)) (λ y. index_of x < index_of y) (λ y a b. above y a b.0 b.1 (nat_lt (index_of x) (index_of y)) refl) xs (IsDistinct-head equal x xs d)
      (All-two (λ y. index_of x ≤ index_of y) (λ y. list_any (equal y) xs ≡ true) (λ y. (index_of x ≤ index_of y) × (list_any (equal y) xs ≡ true)) (λ y a b. (a, b)) xs
      (All-at (λ y. index_of x ≤ index_of y) xs (λ k e below. rise zero (suc k) e (omega arith) (omega (arith, below)))) (members equal same_key reflexive xs)),
  ascends-from xs (IsDistinct-tail equal x xs d) (λ i j e le below. rise (suc i) (suc j) e (omega (arith, le)) (omega (arith, below))) (λ y z m n e. one y z (later y m) (later z n) e),
)
  where
    later : (y : Key) → list_any (equal y) xs ≡ true → list_any (equal y) (x ∷ xs) ≡ true
    later y m = by (equal y x)
      where
        by : (b : Bool) → b || list_any (equal y) xs ≡ true
        by true = refl
        by false = m

    first : list_any (equal x) (x ∷ xs) ≡ true
    first = let r : equal x x ≡ true = reflexive x in rw r refl

    above : (y : Key) → equal x y ≡ false → index_of x ≤ index_of y → list_any (equal y) xs ≡ true → (b : Bool) → nat_lt (index_of x) (index_of y) ≡ b → index_of x < index_of y
    above y a le m true t = ltb-true (index_of x) (index_of y) t
    above y a le m false t =
        let ge : index_of y ≤ index_of x = ltb-false (index_of x) (index_of y) t in
        let e : index_of x ≡ index_of y = omega (arith, le, ge) in
        let f : x ≡ y = one x y first (later y m) e in
        absurd (let bad : true ≡ false = sym (reflexive x) ∙ ap (equal x) f ∙ a in cc)

module _ {V : Type 0} where
  pub own_keys-in_order : (view : View Key V) (ordered : List Key) → HasDistinctKeys equal view → IsInKeyOrder (keys_of view.properties) ordered
      → ((x y : Key) → list_any (equal x) (keys_of view.properties) ≡ true → list_any (equal y) (keys_of view.properties) ≡ true → is_index (sort_of_key x) ≡ true → index_of x ≡ index_of y → x ≡ y)
      → IsOwnKeys equal sort_of_key index_of view ordered
  own_keys-in_order view ordered d h one = record {
    indices = array_indices ordered;
    listed =
        h.in_parts
        ∙ append_assoc (array_indices ordered) (names (keys_of view.properties)) (symbols_among (keys_of view.properties))
        ∙ ap (λ (z : List Key). array_indices ordered ++ (z ++ symbols_among (keys_of view.properties))) (filter_agree is_name (λ key. is_text (sort_of_key key)) text-sort (keys_of view.properties))
        ∙ ap (λ (z : List Key). array_indices ordered ++ (texts sort_of_key view ++ z)) (filter_agree is_symbol_key (λ key. is_symbol (sort_of_key key)) symbol-sort (keys_of view.properties));
    ascend = ascends-from (array_indices ordered) distinct h.ascending (λ x y m n e. one x y (among x m).1 (among y n).1 (sym (index-sort x) ∙ (among x m).0) e);
    members = λ key.
        any-filter-and is_array_index key ordered
        ∙ ap (λ z. z && list_any (equal key) ordered) (index-sort key)
        ∙ ap (λ z. is_index (sort_of_key key) && z) (sym (list_any-IsPermutation (equal key) (keys_of view.properties) ordered h.permutation));
  }
    where
      distinct : IsDistinct equal (array_indices ordered)
      distinct =
          distinct-sublist equal same_key (array_indices ordered) ordered
          (IsDistinct-IsPermutation equal (λ x y. same_key-sym equal same_key x y) (keys_of view.properties) ordered h.permutation d) (filter-sublist is_array_index ordered)

      two-true : (a b : Bool) → a && b ≡ true → (a ≡ true) × (b ≡ true)
      two-true true true e = (refl, refl)
      two-true true false e = absurd (let bad : false ≡ true = e in cc)
      two-true false b e = absurd (let bad : false ≡ true = e in cc)

      among : (x : Key) → list_any (equal x) (array_indices ordered) ≡ true → (is_array_index x ≡ true) × (list_any (equal x) (keys_of view.properties) ≡ true)
      among x m =
          let k = two-true (is_array_index x) (list_any (equal x) ordered) (sym (any-filter-and is_array_index x ordered) ∙ m) in
          (k.0, list_any-IsPermutation (equal x) (keys_of view.properties) ordered h.permutation ∙ k.1)
