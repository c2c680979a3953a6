-- What holds of views in other words holds of the views, where the words tell keys and values apart.
use Rattle.std.proofs.Common.{◌≡◌, Bool, true, false, List, [], ◌∷◌, map, Option, None, Some, refl, sym, ap, ◌∙◌, subst, if◌then◌else◌}
use Rattle.std.specs.Prelude.{◌⊎◌}
use mathlib.Core.Logic.{inl, inr}
use Rattle.std.specs.List.{AllByRecursion, filter, list_any}
use Rattle.std.specs.Map.{keys_of, lookup}
use Rattle.mb_desc.specs.declared.descriptor.Full.{Full}
use Rattle.mb_desc.specs.declared.descriptor.Full.TheVariants.{Datum, Accessor}
use Rattle.mb_desc.specs.Descriptors.{is_configurable}
use Rattle.mb_desc.specs.Laws.{KeepsFixed}
use Rattle.mb_view.proofs.By.{EvolvesBy, IsAlikeBy}
use Rattle.mb_view.specs.Sublists.{IsSublist, before}
use Rattle.mb_desc.specs.View.{View}
use Rattle.mb_view.specs.Views.{property_of, IsFixed, KeepsFacts, keys_where}
use Rattle.mb_view.specs.Resolved.{resolved_property, resolved_option, resolved, HasValues, IsOver}
use Rattle.mb_view.proofs.Tables.{there, lookup_none}
use Rattle.mb_view.proofs.Lists.{All-sublist, filter-sublist}

module _ {V W : Type 0} (value : V → W) where
  resolved-configurable : (p : Full V) → is_configurable (resolved_property value p) ≡ is_configurable p
  resolved-configurable (Datum v w e c) = refl
  resolved-configurable (Accessor g s e c) = refl

  module _ (Value : V → Type 0) (apart : (x y : V) → Value x → Value y → value x ≡ value y → x ≡ y) where
    keeps-unresolved : (p q : Full V) → HasValues Value p → HasValues Value q → KeepsFixed (resolved_property value p) (resolved_property value q) → KeepsFixed p q
    keeps-unresolved (Datum v w e c) (Datum v' w' e' c') a b h = (h.0, h.1, λ u. ((h.2 u).0, apart v' v b a (h.2 u).1))
    keeps-unresolved (Datum v w e c) (Accessor g s e' c') a b h = absurd h
    keeps-unresolved (Accessor g s e c) (Datum v w e' c') a b h = absurd (let no : Datum (value v) w e' c' ≡ Accessor (value g) (value s) e c = h in cc)
    keeps-unresolved (Accessor g s e c) (Accessor g' s' e' c') a b h =
        let x : value g' ≡ value g = cc in
        let y : value s' ≡ value s = cc in
        let k : g' ≡ g = apart g' g b.0 a.0 x in
        let l : s' ≡ s = apart s' s b.1 a.1 y in
        let m : e' ≡ e = cc in
        let n : c' ≡ c = cc in
        cc

module _ {K L : Type 0} (key : K → L) (same_key : K → K → Bool) (same_word : L → L → Bool) (sound : (x y : K) → same_key x y ≡ true → x ≡ y)
    (Key : K → Type 0) (tells : (x y : K) → Key x → Key y → same_word (key x) (key y) ≡ same_key x y) where
  All-found : (x : K) (xs : List K) → AllByRecursion Key xs → list_any (same_key x) xs ≡ true → Key x
  All-found x [] h in_ = absurd (let no : false ≡ true = in_ in cc)
  All-found x (y ∷ ys) h in_ = by (same_key x y) refl (All-found x ys h.1)
    where
      by : (b : Bool) → same_key x y ≡ b → (list_any (same_key x) ys ≡ true → Key x) → Key x
      by true t rest = subst Key (sym (sound x y t)) h.0
      by false t rest = rest (rw t at in_)

  -- ---- names
  before-resolved : (x : K) (xs : List K) → Key x → AllByRecursion Key xs → before (same_word (key x)) (map key xs) ≡ map key (before (same_key x) xs)
  before-resolved x [] k h = refl
  before-resolved x (y ∷ ys) k h = by (same_key x y) refl (before-resolved x ys k h.1)
    where
      by : (b : Bool) → same_key x y ≡ b → before (same_word (key x)) (map key ys) ≡ map key (before (same_key x) ys) → before (same_word (key x)) (map key (y ∷ ys)) ≡ map key (before (same_key x) (y ∷ ys))
      by true t rest = let u : same_word (key x) (key y) ≡ true = tells x y k h.0 ∙ t in rw (u, t) refl
      by false t rest = let u : same_word (key x) (key y) ≡ false = tells x y k h.0 ∙ t in rw (u, t) (ap (λ r. key y ∷ r) rest)

  module _ (word_refl : (x : L) → same_word x x ≡ true) where
    key-apart : (x y : K) → Key x → Key y → key x ≡ key y → x ≡ y
    key-apart x y k l e = sound x y (sym (tells x y k l) ∙ ap (same_word (key x)) (sym e) ∙ word_refl (key x))

    sublist-unresolved : (xs ys : List K) → AllByRecursion Key xs → AllByRecursion Key ys → IsSublist (map key xs) (map key ys) → IsSublist xs ys
    sublist-unresolved [] ys a b h = tt
    sublist-unresolved (x ∷ xs) [] a b h = absurd h
    sublist-unresolved (x ∷ xs) (y ∷ ys) a b (inl h) = inl (key-apart x y a.0 b.0 h.0, sublist-unresolved xs ys a.1 b.1 h.1)
    sublist-unresolved (x ∷ xs) (y ∷ ys) a b (inr h) = inr (sublist-unresolved (x ∷ xs) ys a b.1 h)

  filter-resolved : (one : K → Bool) (two : L → Bool) → ((x : K) → Key x → two (key x) ≡ one x) → (xs : List K) → AllByRecursion Key xs → filter two (map key xs) ≡ map key (filter one xs)
  filter-resolved one two agree [] h = refl
  filter-resolved one two agree (x ∷ xs) h = by (one x) refl (filter-resolved one two agree xs h.1)
    where
      by : (b : Bool) → one x ≡ b → filter two (map key xs) ≡ map key (filter one xs) → filter two (map key (x ∷ xs)) ≡ map key (filter one (x ∷ xs))
      by true t rest = let u : two (key x) ≡ true = agree x h.0 ∙ t in rw (u, t) (ap (λ r. key x ∷ r) rest)
      by false t rest = let u : two (key x) ≡ false = agree x h.0 ∙ t in rw (u, t) rest

  module _ {V W : Type 0} (value : V → W) where
    keys-resolved : (es : List (K × Full V)) → keys_of (map (λ (entry : K × Full V). (key entry.0, resolved_property value entry.1)) es) ≡ map key (keys_of es)
    keys-resolved [] = refl
    keys-resolved (e ∷ es) = ap (λ r. key e.0 ∷ r) (keys-resolved es)

    lookup-resolved : (x : K) (es : List (K × Full V)) → Key x → AllByRecursion Key (keys_of es) → lookup (same_word (key x)) (map (λ (entry : K × Full V). (key entry.0, resolved_property value entry.1)) es) ≡ resolved_option value (lookup (same_key x) es)
    lookup-resolved x [] k h = refl
    lookup-resolved x (e ∷ es) k h = by (same_key x e.0) refl (lookup-resolved x es k h.1)
      where
        by : (b : Bool) → same_key x e.0 ≡ b → lookup (same_word (key x)) (map (λ (entry : K × Full V). (key entry.0, resolved_property value entry.1)) es) ≡ resolved_option value (lookup (same_key x) es) → lookup (same_word (key x)) (map (λ (entry : K × Full V). (key entry.0, resolved_property value entry.1)) (e ∷ es)) ≡ resolved_option value (lookup (same_key x) (e ∷ es))
        by true t rest = let u : same_word (key x) (key e.0) ≡ true = tells x e.0 k h.0 ∙ t in rw (u, t) refl
        by false t rest = let u : same_word (key x) (key e.0) ≡ false = tells x e.0 k h.0 ∙ t in rw (u, t) rest

    module _ (Value : V → Type 0) (apart : (x y : V) → Value x → Value y → value x ≡ value y → x ≡ y) where
      values-found : (x : K) (p : Full V) (es : List (K × Full V)) → AllByRecursion (λ (entry : K × Full V). HasValues Value entry.1) es → lookup (same_key x) es ≡ Some p → HasValues Value p
      values-found x p [] h at = absurd (let no : None ≡ Some p = at in cc)
      values-found x p (e ∷ es) h at = by (same_key x e.0) refl (values-found x p es h.1)
        where
          by : (b : Bool) → same_key x e.0 ≡ b → (lookup (same_key x) es ≡ Some p → HasValues Value p) → HasValues Value p
          by true t rest =
              let f : Some e.1 ≡ Some p = rw t at at in
              let g : e.1 ≡ p = cc in
              subst (HasValues Value) g h.0
          by false t rest = rest (rw t at at)

      key-of-found : (view : View K V) (x : K) (p : Full V) → IsOver Key Value view → property_of same_key view x ≡ Some p → Key x
      key-of-found view x p h at = All-found x (keys_of view.properties) h.keys (there (same_key x) view.properties p at)

      found-resolved : (view : View K V) (x : K) → IsOver Key Value view → Key x → property_of same_word (resolved key value view) (key x) ≡ resolved_option value (property_of same_key view x)
      found-resolved view x h k = lookup-resolved x view.properties k h.keys

      pub facts-unresolved : (old new : View K V) → IsOver Key Value old → IsOver Key Value new → KeepsFacts same_word (resolved key value old) (resolved key value new) → KeepsFacts same_key old new
      facts-unresolved old new a b h = record {
        properties = λ x p at fixed.
            let k = key-of-found old x p a at in
            let m = h.properties (key x) (resolved_property value p) (found-resolved old x a k ∙ ap (resolved_option value) at) (resolved-configurable value p ∙ fixed) in
            one x p k (values-found x p old.properties a.values at) (property_of same_key new x) refl m.0 (sym (found-resolved new x b k) ∙ m.1) m.2;
        closed = h.closed;
        prototype = λ c. apart new.prototype old.prototype b.prototype a.prototype (h.prototype c);
        absent = λ c x none. gone c x none (property_of same_key new x) refl;
      }
        where
          one : (x : K) (p : Full V) → Key x → HasValues Value p → (o : Option (Full V)) → property_of same_key new x ≡ o → (later : Full W) → resolved_option value (property_of same_key new x) ≡ Some later → KeepsFixed (resolved_property value p) later → (q : Full V) × (property_of same_key new x ≡ Some q) × KeepsFixed p q
          one x p k v None at later e keeps = absurd (let no : None ≡ Some later = sym (ap (resolved_option value) at) ∙ e in cc)
          one x p k v (Some q) at later e keeps =
              let f : Some (resolved_property value q) ≡ Some later = sym (ap (resolved_option value) at) ∙ e in
              let g : resolved_property value q ≡ later = cc in
              (q, at, keeps-unresolved value Value apart p q v (values-found x q new.properties b.values at) (subst (KeepsFixed (resolved_property value p)) (sym g) keeps))

          gone : old.extensible ≡ false → (x : K) → property_of same_key old x ≡ None → (o : Option (Full V)) → property_of same_key new x ≡ o → property_of same_key new x ≡ None
          gone c x none None at = at
          gone c x none (Some q) at =
              let k = key-of-found new x q b at in
              let e : property_of same_word (resolved key value new) (key x) ≡ None = h.absent c (key x) (found-resolved old x a k ∙ ap (resolved_option value) none) in
              absurd (let no : Some (resolved_property value q) ≡ None = sym (found-resolved new x b k ∙ ap (resolved_option value) at) ∙ e in cc)

      module _ (is_name : K → Bool) (is_name_word : L → Bool) (agree : (x : K) → Key x → is_name_word (key x) ≡ is_name x) where
        names-resolved : (view : View K V) → IsOver Key Value view → keys_where is_name_word (resolved key value view) ≡ map key (keys_where is_name view)
        names-resolved view h =
            ap (filter is_name_word) (keys-resolved view.properties)
            ∙ filter-resolved is_name is_name_word (λ x k. agree x k) (keys_of view.properties) h.keys

        names-over : (view : View K V) → IsOver Key Value view → AllByRecursion Key (keys_where is_name view)
        names-over view h = All-sublist Key (keys_where is_name view) (keys_of view.properties) h.keys (filter-sublist is_name (keys_of view.properties))

        before-over : (x : K) (xs : List K) → AllByRecursion Key xs → AllByRecursion Key (before (same_key x) xs)
        before-over x [] h = tt
        before-over x (y ∷ ys) h = by (same_key x y) (before-over x ys h.1)
          where
            by : (b : Bool) → AllByRecursion Key (before (same_key x) ys) → AllByRecursion Key (if b then [] else y ∷ before (same_key x) ys)
            by true rest = tt
            by false rest = (h.0, rest)

        moved : (us vs : List L) (xs ys : List K) → us ≡ map key xs → vs ≡ map key ys → IsSublist us vs → IsSublist (map key xs) (map key ys)
        moved us vs xs ys e f h = subst (λ (z : List L). IsSublist (map key xs) z) f (subst (λ (z : List L). IsSublist z vs) e h)

        pub evolves-unresolved : (word_refl : (x : L) → same_word x x ≡ true) → (old new : View K V) → IsOver Key Value old → IsOver Key Value new → EvolvesBy same_word is_name_word (resolved key value old) (resolved key value new) → EvolvesBy same_key is_name old new
        evolves-unresolved word_refl old new a b h = record {
          facts = facts-unresolved old new a b h.facts;
          order = record {
            closed = λ c. sublist-unresolved word_refl (keys_where is_name new) (keys_where is_name old) (names-over new b) (names-over old a)
                (moved (keys_where is_name_word (resolved key value new)) (keys_where is_name_word (resolved key value old)) (keys_where is_name new) (keys_where is_name old) (names-resolved new b) (names-resolved old a) (h.order.closed c));
            fixed = λ x name f.
                let k = key-of-found old x f.0 a f.1 in
                let fixed : IsFixed same_word (resolved key value old) (key x) = (resolved_property value f.0, found-resolved old x a k ∙ ap (resolved_option value) f.1, resolved-configurable value f.0 ∙ f.2) in
                sublist-unresolved word_refl (before (same_key x) (keys_where is_name new)) (before (same_key x) (keys_where is_name old)) (before-over x (keys_where is_name new) (names-over new b)) (before-over x (keys_where is_name old) (names-over old a))
                (moved (before (same_word (key x)) (keys_where is_name_word (resolved key value new))) (before (same_word (key x)) (keys_where is_name_word (resolved key value old)))
                (before (same_key x) (keys_where is_name new)) (before (same_key x) (keys_where is_name old))
                (ap (before (same_word (key x))) (names-resolved new b) ∙ before-resolved x (keys_where is_name new) k (names-over new b))
                (ap (before (same_word (key x))) (names-resolved old a) ∙ before-resolved x (keys_where is_name old) k (names-over old a))
                (h.order.fixed (key x) (agree x k ∙ name) fixed));
          };
        }

        -- and views that are alike are alike in other words
        pub alike-resolved : (word_sound : (x y : L) → same_word x y ≡ true → x ≡ y) → (one two : View K V) → IsOver Key Value one → IsOver Key Value two → IsAlikeBy same_key is_name one two → IsAlikeBy same_word is_name_word (resolved key value one) (resolved key value two)
        alike-resolved word_sound one two a b h = record {
          prototype = ap value h.prototype;
          extensible = h.extensible;
          properties = λ word. found word (any word (keys_of one.properties) a.keys) (any word (keys_of two.properties) b.keys);
          names = names-resolved one a ∙ ap (map key) h.names ∙ sym (names-resolved two b);
        }
          where
            any : (word : L) (xs : List K) → AllByRecursion Key xs → ((x : K) × Key x × (word ≡ key x)) ⊎ (list_any (same_word word) (map key xs) ≡ false)
            any word [] k = inr refl
            any word (x ∷ xs) k = by (same_word word (key x)) refl (any word xs k.1)
              where
                by : (c : Bool) → same_word word (key x) ≡ c → ((x : K) × Key x × (word ≡ key x)) ⊎ (list_any (same_word word) (map key xs) ≡ false) → ((x : K) × Key x × (word ≡ key x)) ⊎ (list_any (same_word word) (map key (x ∷ xs)) ≡ false)
                by true t rest = inl (x, k.0, word_sound word (key x) t)
                by false t (inl rest) = inl rest
                by false t (inr rest) = inr (rw t rest)

            here : (word : L) (x : K) → Key x → word ≡ key x → property_of same_word (resolved key value one) word ≡ property_of same_word (resolved key value two) word
            here word x k e =
                subst (λ (w : L). property_of same_word (resolved key value one) w ≡ property_of same_word (resolved key value two) w) (sym e)
                (found-resolved one x a k ∙ ap (resolved_option value) (h.properties x) ∙ sym (found-resolved two x b k))

            none : (word : L) (view : View K V) → list_any (same_word word) (map key (keys_of view.properties)) ≡ false → property_of same_word (resolved key value view) word ≡ None
            none word view m = lookup_none (same_word word) (resolved key value view).properties (ap (list_any (same_word word)) (keys-resolved view.properties) ∙ m)

            found : (word : L) → ((x : K) × Key x × (word ≡ key x)) ⊎ (list_any (same_word word) (map key (keys_of one.properties)) ≡ false) → ((x : K) × Key x × (word ≡ key x)) ⊎ (list_any (same_word word) (map key (keys_of two.properties)) ≡ false) → property_of same_word (resolved key value one) word ≡ property_of same_word (resolved key value two) word
            found word (inl m) n = here word m.0 m.1 m.2
            found word (inr m) (inl n) = here word n.0 n.1 n.2
            found word (inr m) (inr n) = none word one m ∙ sym (none word two n)
