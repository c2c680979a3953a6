-- A tree is right or has a least fault, since each rule is decidable at each node.
use Rattle.std.proofs.Common.{◌≡◌, ℕ, zero, suc, ◌+◌, ◌<◌, ◌≤◌, Bool, true, false, List, length, Some, refl, sym, ap, subst, ◌∙◌, arith, inl, inr, ⊎_elim}
use Rattle.std.specs.Prelude.{Option, None, slice_get, ◌⊎◌}
use Rattle.std.specs.List.{Contains}
use Rattle.std.proofs.lemmas.Bool.{cases_eq, cases_lt}
use Rattle.std.proofs.lemmas.Option.{slice_get_within}
use Rattle.mb_base.specs.declared.value.NodeId.{NodeId}
use Rattle.mb_base.specs.declared.value.StrId.{StrId}
use Rattle.mb_tree.specs.Roses.{Shape, id_of}
use Rattle.mb_tree.specs.Heights.{IsWhole}
use Rattle.mb_tree.proofs.Heights.{parts_first}
use Rattle.mb_scope.specs.declared.binding.Binding.{Binding}
use Rattle.mb_scope.specs.declared.fault.NameFault.{NameFault}
use Rattle.mb_scope.specs.declared.fault.NameFault.TheVariants.{Twice, Stray, BadTarget, NoMemory}
use Rattle.mb_scope.specs.declared.jump.Jump.{Jump}
use Rattle.mb_scope.specs.declared.jump.Jump.TheVariants as j
use Rattle.mb_scope.specs.declared.target.TargetType.{TargetType}
use Rattle.mb_scope.specs.declared.target.TargetType.TheVariants.{Simple, Grouped, Invalid}
use Rattle.mb_scope.specs.declared.target.Use.{Use}
use Rattle.mb_scope.specs.declared.target.Use.TheVariants.{Assigns, Deletes, Plain}
use Rattle.mb_scope.specs.Kinds.{is_function, is_loop, jump_of, target_type_of, use_of, is_property, group_part, operand_of}
use Rattle.mb_scope.specs.Bindings.{together, Repeats, IsTwice}
use Rattle.mb_scope.specs.Jumps.{InFunction, InLoop, Strays, IsStray}
use Rattle.mb_scope.specs.Targets.{IsTarget, IsProperty, MissesAt, MissesFirst, IsBadTarget}
use Rattle.mb_scope.specs.Faults.{Breaks, IsRight, fault_place, IsLeast}
use Rattle.mb_scope.proofs.Lists.{among_or}
use Rattle.mb_scope.proofs.Knowing.{PartsFirst, part_before, IsPassedOn, GivesFunction, GivesLoop, function_passed, loop_passed}
use Rattle.mb_scope.proofs.Picking.{group_first}
use Rattle.mb_scope.proofs.Targeting.{target_simple, target_invalid, target_up, target_down, target_empty, no_target}
use Rattle.mb_scope.proofs.Ruling.{fault_within}

abbrev Decided : Type 0 → Type 0
Decided P = P ⊎ (P → ⊥)

both : (P Q : Type 0) → Decided P → Decided Q → Decided (P × Q)
both P Q p q = ⊎_elim (λ h. ⊎_elim (λ g. inl (h, g)) (λ n. inr (λ t. n t.1)) q) (λ n. inr (λ t. n t.0)) p

one : (P Q : Type 0) → Decided P → Decided Q → Decided (P ⊎ Q)
one P Q p q = ⊎_elim (λ h. inl (inl h)) (λ n. ⊎_elim (λ g. inl (inr g)) (λ m. inr (⊎_elim n m)) q) p

never : (P : Type 0) → Decided P → Decided (P → ⊥)
never P p = ⊎_elim (λ h. inr (λ n. n h)) inl p

same : (P Q : Type 0) → (P → Q) → (Q → P) → Decided P → Decided Q
same P Q pq qp p = ⊎_elim (λ h. inl (pq h)) (λ n. inr (λ q. n (qp q))) p

is_true : (b : Bool) → Decided (b ≡ true)
is_true true = inl refl
is_true false = inr (λ e. cc)

is_false : (b : Bool) → Decided (b ≡ false)
is_false false = inl refl
is_false true = inr (λ e. cc)

-- the first number below n of which P holds, or none is
pub record FirstBelow (n : ℕ) (P : ℕ → Type 0) : Type 0 where
  pub at : ℕ
  pub within : at < n
  pub holds : P at
  pub first : (i : ℕ) → P i → at ≤ i

search_below : (n : ℕ) (P : ℕ → Type 0) → ((i : ℕ) → i < n → Decided (P i)) → FirstBelow n P ⊎ ((i : ℕ) → i < n → P i → ⊥)
search_below zero P d = inr (λ i lt p. let z : ⊥ = omega arith in z)
search_below (suc n) P d = ⊎_elim
    (λ f. let lt : f.at < n = f.within in inl (record { at = f.at; within = omega arith; holds = f.holds; first = f.first }))
    (λ none. ⊎_elim
    (λ p. inl (record {
      at = n;
      within = omega arith;
      holds = p;
      first = λ i q. ⊎_elim (λ lt. absurd (none i lt q)) (λ le. le) (cases_lt i n);
    }))
    (λ np. inr (λ i lt q. ⊎_elim (λ e. np (subst P e q)) (λ apart. none i (omega arith) q) (cases_eq i n)))
    (d n (omega arith)))
    (search_below n P (λ i lt. d i (omega arith)))

-- some number below n
some_below : (n : ℕ) (P : ℕ → Type 0) → ((i : ℕ) → i < n → Decided (P i)) → Decided ((i : ℕ) × (i < n) × P i)
some_below n P d = ⊎_elim (λ f. inl (f.at, f.within, f.holds)) (λ none. inr (λ w. none w.0 w.1 w.2)) (search_below n P d)

-- some element of a list, with its place
some_place : {X : Type 0} (xs : List X) (P : ℕ → X → Type 0) → ((i : ℕ) (x : X) → slice_get xs i ≡ Some x → Decided (P i x)) → Decided ((i : ℕ) × (x : X) × (slice_get xs i ≡ Some x) × P i x)
some_place xs P d = same
    ((i : ℕ) × (i < length xs) × ((x : _) × (slice_get xs i ≡ Some x) × P i x))
    ((i : ℕ) × (x : _) × (slice_get xs i ≡ Some x) × P i x)
    (λ w. (w.0, w.2.0, w.2.1, w.2.2))
    (λ w. (w.0, slice_get_within xs w.0 w.1 w.2, (w.1, w.2, w.3)))
    (some_below (length xs) (λ i. (x : _) × (slice_get xs i ≡ Some x) × P i x) (λ i lt. at i (slice_get xs i) refl))
  where
    at : (i : ℕ) (o : Option _) → slice_get xs i ≡ o → Decided ((x : _) × (slice_get xs i ≡ Some x) × P i x)
    at i None e = inr (λ w. let h = w.1 in cc)
    at i (Some x) e = ⊎_elim
        (λ p. inl (x, e, p))
        (λ n. inr (λ w. let h : w.0 ≡ x = let g = w.1 in cc in n (subst (P i) h w.2)))
        (d i x e)

same_id : (a b : NodeId) → Decided (a ≡ b)
same_id a b = same (a.0 ≡ b.0) (a ≡ b) (λ e. ap (λ n. id_of n) e) (λ e. ap (λ (n : NodeId). n.0) e) (cases_eq a.0 b.0)

abbrev made : ℕ → StrId
made n = record { 0 = n }

same_name : (a b : StrId) → Decided (a ≡ b)
same_name a b = same (a.0 ≡ b.0) (a ≡ b) (λ e. ap (λ n. made n) e) (λ e. ap (λ (n : StrId). n.0) e) (cases_eq a.0 b.0)

-- the rule of names

repeats : (bindings : List Binding) (id : NodeId) → Decided (Repeats bindings id)
repeats bindings id = same
    ((j : ℕ) × (later : Binding) × (slice_get bindings j ≡ Some later) × ((later.node ≡ id) × ((i : ℕ) × (earlier : Binding) × (slice_get bindings i ≡ Some earlier) × ((i < j) × (earlier.name ≡ later.name)))))
    (Repeats bindings id)
    (λ w. let q = w.3 in let r = q.1 in record { first = r.0; second = w.0; earlier = r.1; later = w.1; in_order = r.3.0; earlier_is = r.2; later_is = w.2; one_name = r.3.1; of_node = q.0 })
    (λ r. (r.second, r.later, r.later_is, (r.of_node, (r.first, r.earlier, r.earlier_is, (r.in_order, r.one_name)))))
    (some_place bindings (λ j later. (later.node ≡ id) × ((i : ℕ) × (earlier : Binding) × (slice_get bindings i ≡ Some earlier) × ((i < j) × (earlier.name ≡ later.name))))
    (λ j later e. both (later.node ≡ id) ((i : ℕ) × (earlier : Binding) × (slice_get bindings i ≡ Some earlier) × ((i < j) × (earlier.name ≡ later.name))) (same_id later.node id)
    (some_place bindings (λ i earlier. (i < j) × (earlier.name ≡ later.name))
    (λ i earlier h. both (i < j) (earlier.name ≡ later.name) (lower i j) (same_name earlier.name later.name)))))
  where
    lower : (i j : ℕ) → Decided (i < j)
    lower i j = ⊎_elim inl (λ le. inr (λ lt. let z : ⊥ = omega arith in z)) (cases_lt i j)

twice : (shapes : List Shape) (id : NodeId) → Decided (IsTwice shapes id)
twice shapes id = same
    ((i : ℕ) × (node : Shape) × (slice_get shapes i ≡ Some node) × Repeats (together shapes node) id)
    (IsTwice shapes id)
    (λ w. record { scope = id_of w.0; node = w.1; is = w.2; repeats = w.3 })
    (λ t. (t.scope.0, t.node, t.is, t.repeats))
    (some_place shapes (λ i node. Repeats (together shapes node) id) (λ i node e. repeats (together shapes node) id))

-- the rule of statements that leave

module _ (shapes : List Shape) (ordered : PartsFirst shapes) (Inside : NodeId → Type 0) (Gives : Shape → NodeId → Type 0) (passed : IsPassedOn shapes Inside Gives) (gives : (node : Shape) (outer : NodeId) → Decided (Inside outer) → Decided (Gives node outer)) where
  -- from the last node to the first, n nodes from the end
  inside : (n : ℕ) (id : NodeId) → length shapes ≤ id.0 + n → Decided (Inside id)
  inside zero id h = inr (λ i.
      let w = passed.comes id i in
      let before : id.0 < w.0.0 = part_before shapes ordered w.2 in
      let lt : w.0.0 < length shapes = slice_get_within shapes w.0.0 w.1 (w.2).is in
      let z : ⊥ = omega arith in
      z)
  inside (suc n) id h = same
      ((q : ℕ) × (node : Shape) × (slice_get shapes q ≡ Some node) × (Contains node.children id × Gives node (id_of q)))
      (Inside id)
      (λ w. passed.passes id (id_of w.0) w.1 (record { is = w.2; among = w.3.0 }) w.3.1)
      (λ i. let w = passed.comes id i in (w.0.0, w.1, (w.2).is, ((w.2).among, w.3)))
      (some_place shapes (λ q node. Contains node.children id × Gives node (id_of q)) (λ q node e. from (λ q h. inside n (id_of q) h) q node e (among_or node.children id)))
    where
      from : ((q : ℕ) → length shapes ≤ q + n → Decided (Inside (id_of q))) → (q : ℕ) (node : Shape) → slice_get shapes q ≡ Some node → Decided (Contains node.children id) → Decided (Contains node.children id × Gives node (id_of q))
      from rest q node e (inr none) = inr (λ w. none w.0)
      from rest q node e (inl c) =
          let before : id.0 < q = part_before shapes ordered {part = id} {outer = id_of q} {node = node} (record { is = e; among = c }) in
          both (Contains node.children id) (Gives node (id_of q)) (inl c) (gives node (id_of q) (rest q (omega arith)))

in_function : (shapes : List Shape) → PartsFirst shapes → (id : NodeId) → Decided (InFunction shapes id)
in_function shapes ordered id = inside shapes ordered (InFunction shapes) (GivesFunction shapes) (function_passed shapes)
    (λ node outer d. one (is_function node.label.kind ≡ true) (InFunction shapes outer) (is_true (is_function node.label.kind)) d)
    (length shapes) id (omega arith)

in_loop : (shapes : List Shape) → PartsFirst shapes → (id : NodeId) → Decided (InLoop shapes id)
in_loop shapes ordered id = inside shapes ordered (InLoop shapes) (GivesLoop shapes) (loop_passed shapes)
    (λ node outer d. one (is_loop node.label.kind ≡ true) ((is_function node.label.kind ≡ false) × InLoop shapes outer) (is_true (is_loop node.label.kind)) (both (is_function node.label.kind ≡ false) (InLoop shapes outer) (is_false (is_function node.label.kind)) d))
    (length shapes) id (omega arith)

strays : (shapes : List Shape) → PartsFirst shapes → (id : NodeId) (jump : Jump) → Decided (Strays shapes id jump)
strays shapes ordered id j.FromFunction = never (InFunction shapes id) (in_function shapes ordered id)
strays shapes ordered id j.FromLoop = never (InLoop shapes id) (in_loop shapes ordered id)
strays shapes ordered id j.Nothing = inr (λ h. h)

stray : (shapes : List Shape) → PartsFirst shapes → (id : NodeId) → Decided (IsStray shapes id)
stray shapes ordered id = at (slice_get shapes id.0) refl
  where
    at : (o : Option Shape) → slice_get shapes id.0 ≡ o → Decided (IsStray shapes id)
    at None e = inr (λ t. let h = t.is in cc)
    at (Some node) e = same (Strays shapes id (jump_of node.label.kind)) (IsStray shapes id)
        (λ h. record { node = node; is = e; strays = h })
        (λ t. let node_is : t.node ≡ node = let h = t.is in cc in subst (λ (n : Shape). Strays shapes id (jump_of n.label.kind)) node_is t.strays)
        (strays shapes ordered id (jump_of node.label.kind))

-- the rule of targets

target : (shapes : List Shape) → PartsFirst shapes → (n : ℕ) (id : NodeId) → id.0 < n → Decided (IsTarget shapes id)
target shapes ordered zero id h = absurd (omega arith)
target shapes ordered (suc n) id h = at (λ part lt. target shapes ordered n part lt) (slice_get shapes id.0) refl
  where
    part_at : ((part : NodeId) → part.0 < n → Decided (IsTarget shapes part)) → (node : Shape) → slice_get shapes id.0 ≡ Some node → target_type_of node.label.kind ≡ Grouped → (o : Option NodeId) → group_part node.label.kind node.children ≡ o → Decided (IsTarget shapes id)
    part_at rest node e f None p = inr (target_empty shapes id node e f p)
    part_at rest node e f (Some part) p =
        let lt : part.0 < id.0 = ordered id.0 node e 0 part (group_first node.label.kind node.children part p) in
        same (IsTarget shapes part) (IsTarget shapes id) (target_up shapes id part node e f p) (target_down shapes id part node e f p) (rest part (omega arith))

    of_form : ((part : NodeId) → part.0 < n → Decided (IsTarget shapes part)) → (node : Shape) → slice_get shapes id.0 ≡ Some node → (f : TargetType) → target_type_of node.label.kind ≡ f → Decided (IsTarget shapes id)
    of_form rest node e Simple f = inl (target_simple shapes id node e f)
    of_form rest node e Invalid f = inr (target_invalid shapes id node e f)
    of_form rest node e Grouped f = part_at rest node e f (group_part node.label.kind node.children) refl

    at : ((part : NodeId) → part.0 < n → Decided (IsTarget shapes part)) → (o : Option Shape) → slice_get shapes id.0 ≡ o → Decided (IsTarget shapes id)
    at rest None e = inr (no_target shapes id e)
    at rest (Some node) e = of_form rest node e (target_type_of node.label.kind) refl

property : (shapes : List Shape) (id : NodeId) → Decided (IsProperty shapes id)
property shapes id = at (slice_get shapes id.0) refl
  where
    at : (o : Option Shape) → slice_get shapes id.0 ≡ o → Decided (IsProperty shapes id)
    at None e = inr (λ t. let h = t.is in cc)
    at (Some node) e = same (is_property node.label.kind ≡ true) (IsProperty shapes id)
        (λ h. record { node = node; is = e; property = h })
        (λ t. let node_is : t.node ≡ node = let h = t.is in cc in sym (ap (λ (n : Shape). is_property n.label.kind) node_is) ∙ t.property)
        (is_true (is_property node.label.kind))

misses : (shapes : List Shape) → PartsFirst shapes → (usage : Use) (o : Option NodeId) → Decided (MissesAt shapes usage o)
misses shapes ordered usage None = inr (λ h. h)
misses shapes ordered Assigns (Some id) = never (IsTarget shapes id) (target shapes ordered (suc id.0) id (omega arith))
misses shapes ordered Deletes (Some id) = never (IsProperty shapes id) (property shapes id)
misses shapes ordered Plain (Some id) = inr (λ h. h)

bad_target : (shapes : List Shape) → PartsFirst shapes → (id : NodeId) → Decided (IsBadTarget shapes id)
bad_target shapes ordered id = at (slice_get shapes id.0) refl
  where
    at : (o : Option Shape) → slice_get shapes id.0 ≡ o → Decided (IsBadTarget shapes id)
    at None e = inr (λ t. let h = t.is in cc)
    at (Some node) e = same (MissesFirst shapes node) (IsBadTarget shapes id)
        (λ h. record { node = node; is = e; misses = h })
        (λ t. let node_is : t.node ≡ node = let h = t.is in cc in subst (MissesFirst shapes) node_is t.misses)
        (misses shapes ordered (use_of node.label.kind) (operand_of node.label.kind node.children))

-- a fault at a place
abbrev FaultAt : List Shape → ℕ → Type 0
FaultAt shapes i = (fault : NameFault) × Breaks shapes fault × (fault_place fault ≡ i)

fault_at : (shapes : List Shape) → PartsFirst shapes → (i : ℕ) → Decided (FaultAt shapes i)
fault_at shapes ordered i = same
    ((IsTwice shapes (id_of i) ⊎ IsStray shapes (id_of i)) ⊎ IsBadTarget shapes (id_of i))
    (FaultAt shapes i)
    (⊎_elim (⊎_elim (λ t. (Twice (id_of i), t, refl)) (λ t. (Stray (id_of i), t, refl))) (λ t. (BadTarget (id_of i), t, refl)))
    (λ w. of_fault w.0 w.1 w.2)
    (one (IsTwice shapes (id_of i) ⊎ IsStray shapes (id_of i)) (IsBadTarget shapes (id_of i)) (one (IsTwice shapes (id_of i)) (IsStray shapes (id_of i)) (twice shapes (id_of i)) (stray shapes ordered (id_of i))) (bad_target shapes ordered (id_of i)))
  where
    of_fault : (fault : NameFault) → Breaks shapes fault → fault_place fault ≡ i → (IsTwice shapes (id_of i) ⊎ IsStray shapes (id_of i)) ⊎ IsBadTarget shapes (id_of i)
    of_fault (Twice id) b e = inl (inl (subst (IsTwice shapes) (ap (λ n. id_of n) e) b))
    of_fault (Stray id) b e = inl (inr (subst (IsStray shapes) (ap (λ n. id_of n) e) b))
    of_fault (BadTarget id) b e = inr (subst (IsBadTarget shapes) (ap (λ n. id_of n) e) b)
    of_fault NoMemory b e = absurd b

pub right_or_least : (shapes : List Shape) → IsWhole shapes → IsRight shapes ⊎ ((fault : NameFault) × IsLeast shapes fault)
right_or_least shapes w = ⊎_elim
    (λ f.
    let fault = f.holds.0 in
    let broken : Breaks shapes fault = f.holds.1 in
    let here : fault_place fault ≡ f.at = f.holds.2 in
    inr (
      fault,
      record {
        broken = broken;
        least = λ other b. let le : f.at ≤ fault_place other = f.first (fault_place other) (other, b, refl) in omega arith;
      },
    ))
    (λ none. inl (λ fault b. none (fault_place fault) (fault_within shapes fault b) (fault, b, refl)))
    (search_below (length shapes) (FaultAt shapes) (λ i lt. fault_at shapes (parts_first w) i))
