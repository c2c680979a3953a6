-- The loop that looks for a name a second time.
use Rattle.std.proofs.Common.{◌≡◌, ℕ, ◌+◌, ◌<◌, ◌≤◌, Bool, true, false, cond, List, length, Some, refl, sym, ap, subst, ◌∙◌, arith, inl, inr, ⊎_elim}
use Rattle.std.specs.Prelude.{Option, slice_get, nat_eq, ◌⊎◌}
use Rattle.std.proofs.lemmas.Bool.{eqb-true, cases_eq}
use Rattle.std.proofs.lemmas.Option.{slice_get_within}
use Rattle.mb_base.specs.declared.value.NodeId.{NodeId}
use Rattle.mb_base.specs.declared.value.StrId.{StrId}
use Rattle.mb_scope.specs.declared.binding.Binding.{Binding}
use Rattle.mb_scope.specs.machine.First.{IsFirst, sooner}
use Rattle.mb_scope.specs.Bindings.{Repeats}
use Rattle.mb_scope.proofs.First.{first_along, first_or}

-- the same among the first n
pub record RepeatsBelow (bindings : List Binding) (n : ℕ) (id : NodeId) : Type 0 where
  pub repeats : Repeats bindings id
  pub below : repeats.second < n

-- `has` tells the names of the first n
pub record IsSeen (has : ℕ → Bool) (bindings : List Binding) (n : ℕ) : Type 0 where
  pub found : (q : ℕ) → has q ≡ true → (i : ℕ) × (b : Binding) × (i < n) × (slice_get bindings i ≡ Some b) × (b.name.0 ≡ q)
  pub put : (i : ℕ) (b : Binding) → i < n → slice_get bindings i ≡ Some b → has b.name.0 ≡ true

pub seen_none : (has : ℕ → Bool) (bindings : List Binding) → ((q : ℕ) → has q ≡ false) → IsSeen has bindings 0
seen_none has bindings h = record {
  found = λ q e. let z : ⊥ = cc (h q) in absurd z;
  put = λ i b lt e. let z : ⊥ = omega arith in absurd z;
}

pub repeats_none : (bindings : List Binding) (id : NodeId) → RepeatsBelow bindings 0 id → ⊥
repeats_none bindings id r = let l : r.repeats.second < 0 = r.below in omega arith

cond_kept : (b c : Bool) → c ≡ true → cond b true c ≡ true
cond_kept true c e = refl
cond_kept false c e = e

cond_back : (b c : Bool) → cond b true c ≡ true → (b ≡ true) ⊎ (c ≡ true)
cond_back true c e = inl refl
cond_back false c e = inr e

same_binding : (bindings : List Binding) (i n : ℕ) (b c : Binding) → i ≡ n → slice_get bindings i ≡ Some b → slice_get bindings n ≡ Some c → b ≡ c
same_binding bindings i n b c e h q = let s : slice_get bindings i ≡ slice_get bindings n = ap (slice_get bindings) e in cc

abbrev name_of : ℕ → StrId
name_of n = record { 0 = n }

module _ (has has' : ℕ → Bool) (bindings : List Binding) (n : ℕ) (b : Binding) (first : Option NodeId) (s : IsSeen has bindings n) (f : IsFirst (λ id. id.0) (RepeatsBelow bindings n) first) (there : slice_get bindings n ≡ Some b) where
  -- one more
  pub seen_more : ((q : ℕ) → has' q ≡ cond (nat_eq b.name.0 q) true (has q)) → has' b.name.0 ≡ true → IsSeen has' bindings (n + 1)
  seen_more more new = record {
    found = λ q e.
        ⊎_elim
        (λ same. (n, b, omega arith, there, eqb-true b.name.0 q same))
        (λ old. let w = s.found q old in (w.0, w.1, omega (arith, w.2), w.3, w.4))
        (cond_back (nat_eq b.name.0 q) (has q) (sym (more q) ∙ e));
    put = λ i c lt e.
        ⊎_elim
        (λ same. let is : c ≡ b = same_binding bindings i n c b same e there in ap (λ (x : Binding). has' x.name.0) is ∙ new)
        (λ apart. let below : i < n = omega arith in more c.name.0 ∙ cond_kept (nat_eq b.name.0 c.name.0) (has c.name.0) (s.put i c below e))
        (cases_eq i n);
  }

  lower : (id : NodeId) → RepeatsBelow bindings n id → RepeatsBelow bindings (n + 1) id
  lower id r = let l : r.repeats.second < n = r.below in record { repeats = r.repeats; below = omega arith }

  -- what repeats among one more does among those before, or is the new one
  last_or : (id : NodeId) → RepeatsBelow bindings (n + 1) id → RepeatsBelow bindings n id ⊎ ((has b.name.0 ≡ true) × (id ≡ b.node))
  last_or id r =
      let r' = r.repeats in
      let l : r'.second < n + 1 = r.below in
      ⊎_elim
      (λ same.
      let is : r'.later ≡ b = same_binding bindings r'.second n r'.later b same r'.later_is there in
      let order : r'.first < r'.second = r'.in_order in
      let below : r'.first < n = omega arith in
      let name : r'.earlier.name.0 ≡ b.name.0 = ap (λ (x : StrId). x.0) r'.one_name ∙ ap (λ (x : Binding). x.name.0) is in
      inr (ap has (sym name) ∙ s.put r'.first r'.earlier below r'.earlier_is, sym r'.of_node ∙ ap (λ (x : Binding). x.node) is))
      (λ apart. inl (record { repeats = r'; below = omega arith }))
      (cases_eq r'.second n)

  -- its name is new
  pub first_new : has b.name.0 ≡ false → IsFirst (λ id. id.0) (RepeatsBelow bindings (n + 1)) first
  first_new e = first_along (λ id. id.0) (RepeatsBelow bindings n) (RepeatsBelow bindings (n + 1)) first lower (λ id r. ⊎_elim (λ h. h) (λ h. let z : ⊥ = cc h.0 in absurd z) (last_or id r)) f

  -- it has the name of one before
  pub first_old : has b.name.0 ≡ true → IsFirst (λ id. id.0) (RepeatsBelow bindings (n + 1)) (sooner (λ id. id.0) first (Some b.node))
  first_old e =
      let w = s.found b.name.0 e in
      let lt : w.0 < n = w.2 in
      let new : RepeatsBelow bindings (n + 1) b.node = record {
        repeats = record {
          first = w.0;
          second = n;
          earlier = w.1;
          later = b;
          in_order = lt;
          earlier_is = w.3;
          later_is = there;
          one_name = ap (λ k. name_of k) w.4;
          of_node = refl;
        };
        below = omega arith;
      } in
      first_or (λ id. id.0) (RepeatsBelow bindings n) (λ (id : NodeId). id ≡ b.node) (RepeatsBelow bindings (n + 1)) first (Some b.node) lower
      (λ id is. subst (RepeatsBelow bindings (n + 1)) (sym is) new)
      (λ id r. ⊎_elim inl (λ h. inr h.1) (last_or id r))
      f
      (refl, λ other is. let k : other.0 ≡ b.node.0 = ap (λ (x : NodeId). x.0) is in let g : b.node.0 ≤ other.0 = omega arith in g)

pub repeats_all : (bindings : List Binding) (n : ℕ) (first : Option NodeId) → length bindings ≤ n → IsFirst (λ id. id.0) (RepeatsBelow bindings n) first → IsFirst (λ id. id.0) (Repeats bindings) first
repeats_all bindings n first h = first_along (λ id. id.0) (RepeatsBelow bindings n) (Repeats bindings) first
    (λ id r. r.repeats)
    (λ id r. let l : r.second < length bindings = slice_get_within bindings r.second r.later r.later_is in record { repeats = r; below = omega arith })

-- what stands past the end of a list
abbrev pub blank : Binding
blank = record { node = record { 0 = 0 }; name = record { 0 = 0 }; fixed = false }
