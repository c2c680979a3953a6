-- What options give doesn't depend on their order.
use Rattle.std.proofs.Common.{◌≡◌, ◌∙◌, sym, ap, refl, subst, ℕ, ◌+◌, ◌<◌, ◌≤◌, Bool, true, false, ◌&&◌, nat_le, List, [], ◌∷◌, Option, Some, None, is_some, if◌then◌else◌, cond, inl, inr, arith, get_or}
use Rattle.std.specs.Prelude.{option_map}
use Rattle.std.specs.List.{Contains, count_by, find}
use Rattle.std.specs.List.Sorted.{IsPermutation}
use Rattle.std.proofs.lemmas.Bool.{leb-true}
use Rattle.std.proofs.lemmas.List.Elements.{Contains-append_cases, Contains-append_left, Contains-append_right, Contains-push}
use Rattle.std.proofs.lemmas.List.Sorted.{Contains-permutation, IsPermutation-sym, sum_by-IsPermutation}
use Rattle.std.proofs.lemmas.List.Sums.{get_or-le-sum_by, sum_by-cons}
use Rattle.clap.proofs.WalkLemmas.{both}
use Rattle.mb_words.specs.declared.command.Command.{Command}
use Rattle.mb_words.specs.declared.command.OptionName.{OptionName}
use Rattle.mb_words.specs.declared.command.OptionName.TheVariants.{Policy, Schedule, Budget, Trace}
use Rattle.mb_words.specs.Parts.{Given, Parts, chosen, choice_of, each_once, is_of, times, value_of}
use Rattle.mb_words.specs.Settings.{by_command, by_choice}
use Rattle.mb_words.specs.Orders.{SameButForOrder, OrderDoesNotMatter}

module _ (p : Given → Bool) where
  found : (xs : List Given) (x : Given) → find p xs ≡ Some x → Contains xs x × (p x ≡ true)
  found [] x e = cc
  found (y ∷ ys) x e = go (found ys x) (p y) refl e
    where
      go : (find p ys ≡ Some x → Contains ys x × (p x ≡ true)) → (b : Bool) → p y ≡ b
          → cond b (Some y) (find p ys) ≡ Some x → Contains (y ∷ ys) x × (p x ≡ true)
      go behind true is e =
          let same : y ≡ x = cc in
          let here : Contains (y ∷ ys) y = Contains-append_left (y ∷ []) ys y (Contains-push [] y) in
          (subst (Contains (y ∷ ys)) same here, ap p (sym same) ∙ is)
      go behind false is e =
          let rest = behind e in
          (Contains-append_right (y ∷ []) ys x rest.0, rest.1)

  counted : (xs : List Given) (x : Given) → Contains xs x → p x ≡ true → 1 ≤ count_by p xs
  counted xs x h is =
      let weight : Bool → ℕ = λ b. cond b 1 0 in
      let one : weight (p (get_or xs h.0 x)) ≡ 1 = ap (λ (y : Given). weight (p y)) h.2 ∙ ap weight is in
      let below = get_or-le-sum_by (λ (y : Given). cond (p y) 1 0) xs h.0 x h.1 in
      rw one at below

  alone : (y x : Given) → Contains (y ∷ []) x → y ≡ x
  alone y x h =
      let at : h.0 ≡ 0 = below_one h.0 h.1 in
      rw at at h.2
    where
      below_one : (k : ℕ) → k < 1 → k ≡ 0
      below_one k lt = omega arith

  only : (xs : List Given) (x : Given) → Contains xs x → p x ≡ true → count_by p xs ≤ 1 → find p xs ≡ Some x
  only [] x h is few = absurd (no_element h.0 h.1)
    where
      no_element : (k : ℕ) → k < 0 → ⊥
      no_element k lt = omega arith
  only (y ∷ ys) x h is few =
      let apart : cond (p y) 1 0 + count_by p ys ≤ 1 =
      subst (λ (n : ℕ). n ≤ 1) (sum_by-cons (λ (z : Given). cond (p z) 1 0) y ys) few in
      go (λ there. only ys x there is) (p y) refl apart
    where
      go : (Contains ys x → count_by p ys ≤ 1 → find p ys ≡ Some x) → (b : Bool) → p y ≡ b
          → cond b 1 0 + count_by p ys ≤ 1 → cond b (Some y) (find p ys) ≡ Some x
      go behind true at few = elim (Contains-append_cases (y ∷ []) ys x h) [
        | inl here ↦ ap Some (alone y x here)
        | inr there ↦
            let more : 1 ≤ count_by p ys = counted ys x there is in
            absurd (omega arith)
      ]
      go behind false at few = elim (Contains-append_cases (y ∷ []) ys x h) [
        | inl here ↦
            let bad : false ≡ true = sym at ∙ ap p (alone y x here) ∙ is in
            cc
        | inr there ↦ behind there (omega arith)
      ]

  found_alike : (xs ys : List Given) → IsPermutation xs ys → count_by p xs ≤ 1 → count_by p ys ≤ 1 → find p xs ≡ find p ys
  found_alike xs ys h few few' = go (find p xs) (find p ys) refl refl
    where
      go : (a b : Option Given) → find p xs ≡ a → find p ys ≡ b → a ≡ b
      go None None ea eb = refl
      go (Some x) b ea eb =
          let f = found xs x ea in
          sym (only ys x (Contains-permutation xs ys x h f.0) f.1 few') ∙ eb
      go None (Some y) ea eb =
          let f = found ys y eb in
          sym ea ∙ only xs y (Contains-permutation ys xs y (IsPermutation-sym xs ys h) f.0) f.1 few

  counted_alike : (xs ys : List Given) → IsPermutation xs ys → count_by p xs ≡ count_by p ys
  counted_alike xs ys h = sym (sum_by-IsPermutation (λ (y : Given). cond (p y) 1 0) xs ys h)

value_alike : (name : OptionName) (xs ys : List Given) → IsPermutation xs ys → nat_le (times name xs) 1 ≡ true
    → value_of name xs ≡ value_of name ys
value_alike name xs ys h once =
    let few : times name xs ≤ 1 = leb-true _ _ once in
    let same : times name xs ≡ times name ys = counted_alike (is_of name) xs ys h in
    let few' : times name ys ≤ 1 = subst (λ (n : ℕ). n ≤ 1) same few in
    ap (option_map (λ o. o.1)) (found_alike (is_of name) xs ys h few few')

once_alike : (xs ys : List Given) → IsPermutation xs ys → each_once xs ≡ each_once ys
once_alike xs ys h =
    let p : times Policy xs ≡ times Policy ys = counted_alike (is_of Policy) xs ys h in
    let s : times Schedule xs ≡ times Schedule ys = counted_alike (is_of Schedule) xs ys h in
    let b : times Budget xs ≡ times Budget ys = counted_alike (is_of Budget) xs ys h in
    let t : times Trace xs ≡ times Trace ys = counted_alike (is_of Trace) xs ys h in
    λ i. nat_le (p i) 1 && (nat_le (s i) 1 && (nat_le (b i) 1 && nat_le (t i) 1))

choice_alike : (one other : Parts) → SameButForOrder one other → each_once one.options ≡ true → choice_of one ≡ choice_of other
choice_alike one other same once =
    let rest = (both _ _ once).1 in
    let last = (both _ _ rest).1 in
    let p = value_alike Policy one.options other.options same.options (both _ _ once).0 in
    let s = value_alike Schedule one.options other.options same.options (both _ _ rest).0 in
    let b = value_alike Budget one.options other.options same.options (both _ _ last).0 in
    let t = value_alike Trace one.options other.options same.options (both _ _ last).1 in
    λ i. record { operands = same.operands i; policy = p i; schedule = s i; budget = b i; traced = is_some (t i) }

pub chosen_alike : (one other : Parts) → SameButForOrder one other → chosen (Some one) ≡ chosen (Some other)
chosen_alike one other same = go (each_once one.options) refl
  where
    alike : each_once one.options ≡ each_once other.options
    alike = once_alike one.options other.options same.options

    taken : (parts : Parts) (b : Bool) → each_once parts.options ≡ b → chosen (Some parts) ≡ (if b then Some (choice_of parts) else None)
    taken parts b e = ap (λ (x : Bool). if x then Some (choice_of parts) else None) e

    go : (b : Bool) → each_once one.options ≡ b → chosen (Some one) ≡ chosen (Some other)
    go true e = taken one true e ∙ ap Some (choice_alike one other same e) ∙ sym (taken other true (sym alike ∙ e))
    go false e = taken one false e ∙ sym (taken other false (sym alike ∙ e))

pub order : OrderDoesNotMatter
order word command words others one other is first second same =
    ap (λ (c : Option Command). by_command c words) is
    ∙ ap (λ (parts : Option Parts). by_choice command (chosen parts)) first
    ∙ ap (by_choice command) (chosen_alike one other same)
    ∙ sym (ap (λ (c : Option Command). by_command c others) is
    ∙ ap (λ (parts : Option Parts). by_choice command (chosen parts)) second)
