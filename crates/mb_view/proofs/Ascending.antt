-- Views that are alike list the same keys, and a view that isn't extensible lists a sublist later.
use Rattle.std.proofs.Common.{◌≡◌, ℕ, ◌<◌, ◌≤◌, Bool, true, false, ◌&&◌, ◌||◌, List, [], ◌∷◌, ◌++◌, length, Option, None, Some, is_some, refl, sym, ap, ◌∙◌, subst, arith}
use Rattle.std.specs.Prelude.{◌⊎◌}
use mathlib.Core.Logic.{inl, inr}
use Rattle.std.specs.List.{AllByRecursion, list_any}
use Rattle.std.specs.Map.{keys_of}
use Rattle.mb_view.specs.Sublists.{IsSublist}
use Rattle.mb_desc.specs.View.{View}
use Rattle.mb_view.specs.Views.{Sort, is_index, texts, symbols, property_of, Evolves}
use Rattle.mb_view.specs.Following.{IsAlike}
use Rattle.mb_view.specs.OwnKeys.{Ascends, IsOwnKeys}
use Rattle.mb_view.proofs.Lists.{sublist-skip, sublist-tail}
use Rattle.mb_view.proofs.Tables.{any-lookup, not_there}

module _ {X : Type 0} where
  sublist-length : (xs ys : List X) → IsSublist xs ys → length xs ≤ length ys
  sublist-length [] ys h = omega arith
  sublist-length (x ∷ xs) [] h = absurd h
  sublist-length (x ∷ xs) (y ∷ ys) (inl h) = let k = sublist-length xs ys h.1 in omega (arith, k)
  sublist-length (x ∷ xs) (y ∷ ys) (inr h) = let k = sublist-length (x ∷ xs) ys h in omega (arith, k)

  pub sublist-both : (xs ys : List X) → IsSublist xs ys → IsSublist ys xs → xs ≡ ys
  sublist-both [] [] h k = refl
  sublist-both [] (y ∷ ys) h k = absurd k
  sublist-both (x ∷ xs) [] h k = absurd h
  sublist-both (x ∷ xs) (y ∷ ys) (inl h) (inl k) = ap (λ z. z ∷ xs) h.0 ∙ ap (λ r. y ∷ r) (sublist-both xs ys h.1 k.1)
  sublist-both (x ∷ xs) (y ∷ ys) (inl h) (inr k) = ap (λ z. z ∷ xs) h.0 ∙ ap (λ r. y ∷ r) (sublist-both xs ys h.1 (sublist-tail y ys xs k))
  sublist-both (x ∷ xs) (y ∷ ys) (inr h) k =
      let a = sublist-length (x ∷ xs) ys h in
      let b = sublist-length (y ∷ ys) (x ∷ xs) k in
      absurd (omega (arith, a, b))

  pub append-sublists : (xs ys us vs : List X) → IsSublist xs ys → IsSublist us vs → IsSublist (xs ++ us) (ys ++ vs)
  append-sublists [] [] us vs h k = k
  append-sublists [] (y ∷ ys) us vs h k = sublist-skip y us (ys ++ vs) (append-sublists [] ys us vs tt k)
  append-sublists (x ∷ xs) [] us vs h k = absurd h
  append-sublists (x ∷ xs) (y ∷ ys) us vs (inl h) k = inl (h.0, append-sublists xs ys us vs h.1 k)
  append-sublists (x ∷ xs) (y ∷ ys) us vs (inr h) k = inr (append-sublists (x ∷ xs) ys us vs h k)

module _ {K : Type 0} (same_key : K → K → Bool) (sound : (x y : K) → same_key x y ≡ true → x ≡ y) (reflexive : (x : K) → same_key x x ≡ true) (number : K → ℕ) where
  above : (x key : K) (xs : List K) → AllByRecursion (λ y. number x < number y) xs → list_any (same_key key) xs ≡ true → number x < number key
  above x key [] h in_ = absurd (let no : false ≡ true = in_ in cc)
  above x key (y ∷ xs) h in_ = by (same_key key y) refl (above x key xs h.1)
    where
      by : (b : Bool) → same_key key y ≡ b → (list_any (same_key key) xs ≡ true → number x < number key) → number x < number key
      by true t rest = subst (λ z. number x < number z) (sym (sound key y t)) h.0
      by false t rest = rest (rw t at in_)

  first : (x : K) (xs : List K) → list_any (same_key x) (x ∷ xs) ≡ true
  first x xs = rw (reflexive x) refl

  tail : (key x : K) (xs : List K) → same_key key x ≡ false → list_any (same_key key) (x ∷ xs) ≡ true → list_any (same_key key) xs ≡ true
  tail key x xs t h = rw t at h

  later : (key x : K) (xs : List K) → list_any (same_key key) xs ≡ true → list_any (same_key key) (x ∷ xs) ≡ true
  later key x xs h = by (same_key key x)
    where
      by : (b : Bool) → b || list_any (same_key key) xs ≡ true
      by true = refl
      by false = h

  -- of two that ascend, the one whose members are members of the other is a sublist of it
  pub ascends-sublist : (xs ys : List K) → Ascends number xs → Ascends number ys → ((key : K) → list_any (same_key key) xs ≡ true → list_any (same_key key) ys ≡ true) → IsSublist xs ys
  ascends-sublist [] ys a b h = tt
  ascends-sublist (x ∷ xs) [] a b h = absurd (let no : false ≡ true = h x (first x xs) in cc)
  ascends-sublist (x ∷ xs) (y ∷ ys) a b h = by (same_key x y) refl (ascends-sublist xs ys a.1 b.1) (ascends-sublist (x ∷ xs) ys a b.1)
    where
      apart : (key : K) → number y < number key → (b : Bool) → same_key key y ≡ b → same_key key y ≡ false
      apart key less true t =
          let e : number key ≡ number y = ap number (sound key y t) in
          absurd (omega (arith, e, less))
      apart key less false t = t

      by : (b : Bool) → same_key x y ≡ b
          → (((key : K) → list_any (same_key key) xs ≡ true → list_any (same_key key) ys ≡ true) → IsSublist xs ys)
          → (((key : K) → list_any (same_key key) (x ∷ xs) ≡ true → list_any (same_key key) ys ≡ true) → IsSublist (x ∷ xs) ys)
          → (x ≡ y) × IsSublist xs ys ⊎ IsSublist (x ∷ xs) ys
      by true t one two =
          let e : x ≡ y = sound x y t in
          inl (
            e,
            one (λ key in_.
                let less : number y < number key = subst (λ z. number z < number key) e (above x key xs a.0 in_) in
                tail key y ys (apart key less (same_key key y) refl) (h key (later key x xs in_))),
          )
      by false t one two =
          let in_ys : list_any (same_key x) ys ≡ true = tail x y ys t (h x (first x xs)) in
          let y_below_x : number y < number x = above y x ys b.0 in_ys in
          inr (two (λ key in_. member key in_ (same_key key x) refl y_below_x))
        where
          member : (key : K) → list_any (same_key key) (x ∷ xs) ≡ true → (c : Bool) → same_key key x ≡ c → number y < number x → list_any (same_key key) ys ≡ true
          member key in_ true s less =
              let l : number y < number key = subst (λ z. number y < number z) (sym (sound key x s)) less in
              tail key y ys (apart key l (same_key key y) refl) (h key in_)
          member key in_ false s less =
              let m : number x < number key = above x key xs a.0 (tail key x xs s in_) in
              let l : number y < number key = omega (arith, m, less) in
              tail key y ys (apart key l (same_key key y) refl) (h key in_)

  module _ {V : Type 0} (sort_of : K → Sort) where
    keys-alike : (one two : View K V) → ((key : K) → property_of same_key one key ≡ property_of same_key two key) → (key : K) → list_any (same_key key) (keys_of one.properties) ≡ list_any (same_key key) (keys_of two.properties)
    keys-alike one two h key = any-lookup (same_key key) one.properties ∙ ap is_some (h key) ∙ sym (any-lookup (same_key key) two.properties)

    -- alike views list the same keys
    pub alike-own_keys : (one two : View K V) (ks ls : List K) → IsAlike same_key sort_of one two → IsOwnKeys same_key sort_of number one ks → IsOwnKeys same_key sort_of number two ls → ks ≡ ls
    alike-own_keys one two ks ls h k l =
        k.listed ∙ ap (λ (z : List K). z ++ (texts sort_of one ++ symbols sort_of one)) (sublist-both k.indices l.indices
        (ascends-sublist k.indices l.indices k.ascend l.ascend (λ key m. sym (both key) ∙ m))
        (ascends-sublist l.indices k.indices l.ascend k.ascend (λ key m. both key ∙ m)))
        ∙ ap (λ (z : List K). l.indices ++ (z ++ symbols sort_of one)) h.texts
        ∙ ap (λ (z : List K). l.indices ++ (texts sort_of two ++ z)) h.symbols ∙ sym l.listed
      where
        both : (key : K) → list_any (same_key key) k.indices ≡ list_any (same_key key) l.indices
        both key = k.members key ∙ ap (λ z. is_index (sort_of key) && z) (keys-alike one two h.properties key) ∙ sym (l.members key)

    -- once a view isn't extensible, the keys that are listed later are a sublist
    pub closed-own_keys : (old new : View K V) (ks ls : List K) → Evolves same_key sort_of old new → old.extensible ≡ false → IsOwnKeys same_key sort_of number old ks → IsOwnKeys same_key sort_of number new ls → IsSublist ls ks
    closed-own_keys old new ks ls h c k l =
        subst (λ (z : List K). IsSublist ls z) (sym k.listed) (subst (λ (z : List K). IsSublist z (k.indices ++ (texts sort_of old ++ symbols sort_of old))) (sym l.listed)
        (append-sublists l.indices k.indices (texts sort_of new ++ symbols sort_of new) (texts sort_of old ++ symbols sort_of old)
        (ascends-sublist l.indices k.indices l.ascend k.ascend (λ key m. member key (is_index (sort_of key)) refl m))
        (append-sublists (texts sort_of new) (texts sort_of old) (symbols sort_of new) (symbols sort_of old) (h.order.texts.closed c) (h.order.symbols.closed c))))
      where
        in_old : (key : K) → list_any (same_key key) (keys_of new.properties) ≡ true → (o : Option _) → property_of same_key old key ≡ o → list_any (same_key key) (keys_of old.properties) ≡ true
        in_old key m None e = absurd (let no : true ≡ false = sym m ∙ not_there (same_key key) new.properties (h.facts.absent c key e) in cc)
        in_old key m (Some p) e = any-lookup (same_key key) old.properties ∙ ap is_some e

        member : (key : K) (b : Bool) → is_index (sort_of key) ≡ b → list_any (same_key key) l.indices ≡ true → list_any (same_key key) k.indices ≡ true
        member key true i m =
            let n : list_any (same_key key) (keys_of new.properties) ≡ true = sym (l.members key ∙ ap (λ z. z && list_any (same_key key) (keys_of new.properties)) i) ∙ m in
            k.members key ∙ ap (λ z. z && list_any (same_key key) (keys_of old.properties)) i ∙ in_old key n (property_of same_key old key) refl
        member key false i m =
            absurd (let no : false ≡ true = sym (l.members key ∙ ap (λ z. z && list_any (same_key key) (keys_of new.properties)) i) ∙ m in cc)
