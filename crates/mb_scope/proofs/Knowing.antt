-- What is known of what stands around nodes, from the last node to the first.
use Rattle.std.proofs.Common.{◌≡◌, ℕ, ◌+◌, ◌<◌, ◌≤◌, Bool, true, false, not, ◌&&◌, ◌||◌, List, [], ◌∷◌, ◌++◌, length, take, replicate, set, get_or, Some, refl, sym, ap, subst, ◌∙◌, arith, inl, inr, ⊎_elim}
use Rattle.std.specs.Prelude.{slice_get, ◌⊎◌, None, Option}
use Rattle.std.specs.List.{Contains}
use Rattle.std.proofs.lemmas.Bool.{cases_eq, or_cases}
use Rattle.std.proofs.lemmas.List.{length-replicate, get_or-replicate, take_more, take_all}
use Rattle.std.proofs.Math.Seq.{take-append_seam}
use Rattle.std.proofs.lemmas.Option.{slice_get_within, slice_get-get_or, get_or_from_slice_get}
use Rattle.mb_base.specs.declared.value.NodeId.{NodeId}
use Rattle.mb_tree.specs.Roses.{Shape, id_of}
use Rattle.mb_tree.specs.machine.Below.{AreAmong}
use Rattle.mb_scope.specs.declared.jump.Around.{Around}
use Rattle.mb_scope.specs.declared.jump.Jump.{Jump}
use Rattle.mb_scope.specs.declared.jump.Jump.TheVariants.{FromFunction, FromLoop, Nothing}
use Rattle.mb_scope.specs.machine.First.{IsFirst}
use Rattle.mb_scope.specs.Kinds.{is_function, is_loop, jump_of}
use Rattle.mb_scope.specs.Jumps.{IsPart, InFunction, direct_function, outer_function, InLoop, direct_loop, outer_loop, Strays, IsStray}
use Rattle.mb_scope.specs.machine.Around.{outside, allows_of, inside_of, either, IsPutAround}
use Rattle.mb_scope.proofs.Lists.{place_from_contains, among_or, set_same, set_other}
use Rattle.std.proofs.lemmas.List.Elements.{Contains-push, Contains-push_cases, Contains-append_left}

-- the parts of each node stand before it
abbrev pub PartsFirst : List Shape → Type 0
PartsFirst shapes = (i : ℕ) (s : Shape) → slice_get shapes i ≡ Some s → AreAmong s.children i

pub part_before : (shapes : List Shape) → PartsFirst shapes → {part outer : NodeId} {node : Shape} → IsPart shapes part outer node → part.0 < outer.0
part_before shapes ordered {part = part} {outer = outer} {node = node} p =
    let k = place_from_contains node.children part p.among in
    ordered outer.0 node p.is k.0 part k.1

abbrev around : Bool → Bool → Around
around f r = record { function = f; repeated = r }

-- what holds of either holds of one
abbrev pub Parts : (Around → Bool) → Type 0
Parts has = (a b : Around) → has (either a b) ≡ (has a || has b)

or_left : (x y : Bool) → x ≡ true → (x || y) ≡ true
or_left true y e = refl
or_left false y e = cc

or_right : (x y : Bool) → y ≡ true → (x || y) ≡ true
or_right true y e = refl
or_right false y e = e

or_twice : (x y : Bool) → ((x || y) || y) ≡ (x || y)
or_twice true y = refl
or_twice false true = refl
or_twice false false = refl

either_twice : (b a : Around) → either (either b a) a ≡ either b a
either_twice b a =
    ap (λ x. around x ((b.repeated || a.repeated) || a.repeated)) (or_twice b.function a.function)
    ∙ ap (λ x. around (b.function || a.function) x) (or_twice b.repeated a.repeated)

-- the loop that puts something around nodes

pub put_none : (known : List Around) (a : Around) → IsPutAround known known [] a
put_none known a = record {
  given = λ id before c e. let k = place_from_contains [] id c in let h = k.1 in let z : ⊥ = cc in absurd z;
  kept = λ id none. refl;
}

module _ (old now next : List Around) (ids : List NodeId) (i : ℕ) (a cur : Around) (id : NodeId) (within : i < length ids) (id_is : get_or ids i (id_of 0) ≡ id) (is : slice_get now id.0 ≡ Some cur) (next_is : next ≡ set now id.0 (either cur a)) (h : IsPutAround old now (take i ids) a) where
  here : slice_get next id.0 ≡ Some (either cur a)
  here = ap (λ (xs : List Around). slice_get xs id.0) next_is ∙ set_same now id.0 (either cur a) (slice_get_within now id.0 cur is)

  elsewhere : (p : ℕ) → (p ≡ id.0 → ⊥) → slice_get next p ≡ slice_get now p
  elsewhere p n = ap (λ (xs : List Around). slice_get xs p) next_is ∙ set_other now id.0 p (either cur a) n

  taken : take (i + 1) ids ≡ take i ids ++ id ∷ []
  taken = take_more ids i (id_of 0) within ∙ ap (λ x. take i ids ++ x ∷ []) id_is

  among_more : (q : NodeId) → Contains (take (i + 1) ids) q → Contains (take i ids) q ⊎ (id ≡ q)
  among_more q c = Contains-push_cases (take i ids) id q (subst (λ (xs : List NodeId). Contains xs q) taken c)

  among_old : (q : NodeId) → Contains (take i ids) q → Contains (take (i + 1) ids) q
  among_old q c = subst (λ (xs : List NodeId). Contains xs q) (sym taken) (Contains-append_left (take i ids) (id ∷ []) q c)

  among_new : Contains (take (i + 1) ids) id
  among_new = subst (λ (xs : List NodeId). Contains xs id) (sym taken) (Contains-push (take i ids) id)

  given_here : (before : Around) → slice_get old id.0 ≡ Some before → slice_get next id.0 ≡ Some (either before a)
  given_here before was = ⊎_elim
      (λ c.
      let e : cur ≡ either before a = let g = h.given id before c was in cc in
      here ∙ ap (λ x. Some (either x a)) e ∙ ap Some (either_twice before a))
      (λ none.
      let e : cur ≡ before = let g = h.kept id none in cc in
      here ∙ ap (λ x. Some (either x a)) e)
      (among_or (take i ids) id)

  pub put_more : IsPutAround old next (take (i + 1) ids) a
  put_more = record {
    given = λ q before c was. ⊎_elim
        (λ same.
        let q_is : id ≡ q = ap (λ n. id_of n) (sym same) in
        subst (λ (x : NodeId). slice_get old x.0 ≡ Some before → slice_get next x.0 ≡ Some (either before a)) q_is (given_here before) was)
        (λ apart.
        let c' : Contains (take i ids) q = ⊎_elim (λ c. c) (λ e. absurd (apart (ap (λ (x : NodeId). x.0) (sym e)))) (among_more q c) in
        elsewhere q.0 apart ∙ h.given q before c' was)
        (cases_eq q.0 id.0);
    kept = λ q none.
        let apart : q.0 ≡ id.0 → ⊥ = λ same. none (subst (λ (x : NodeId). Contains (take (i + 1) ids) x) (ap (λ n. id_of n) (sym same)) among_new) in
        elsewhere q.0 apart ∙ h.kept q (λ c. none (among_old q c));
  }

pub put_all : (old new : List Around) (ids : List NodeId) (i : ℕ) (a : Around) → length ids ≤ i → IsPutAround old new (take i ids) a → IsPutAround old new ids a
put_all old new ids i a h p = subst (λ (xs : List NodeId). IsPutAround old new xs a) (take_all i ids h) p

-- what is known of a node before and after something is put around nodes
pub record Entered (has : Around → Bool) (old : List Around) (ids : List NodeId) (a : Around) (p : ℕ) (now : Around) : Type 0 where
  pub before : Around
  pub was : slice_get old p ≡ Some before
  pub kept : has before ≡ true → has now ≡ true
  pub given : has a ≡ true → Contains ids (id_of p) → has now ≡ true
  pub back : has now ≡ true → (has before ≡ true) ⊎ ((has a ≡ true) × Contains ids (id_of p))

pub entered_at : (has : Around → Bool) → Parts has → (old new : List Around) (ids : List NodeId) (a : Around) (p : ℕ) (now : Around) → length new ≡ length old → IsPutAround old new ids a → slice_get new p ≡ Some now → Entered has old ids a p now
entered_at has parts old new ids a p now len h e = ⊎_elim
    (λ c.
    let within : p < length new = slice_get_within new p now e in
    let before = get_or old p outside in
    let was : slice_get old p ≡ Some before = slice_get-get_or old p outside (omega arith) in
    let is : now ≡ either before a = let g = h.given (id_of p) before c was in cc in
    let reads : has now ≡ (has before || has a) = ap has is ∙ parts before a in
    record {
      before = before;
      was = was;
      kept = λ q. reads ∙ or_left (has before) (has a) q;
      given = λ q d. reads ∙ or_right (has before) (has a) q;
      back = λ q. ⊎_elim inl (λ g. inr (g, c)) (or_cases (has before) (has a) (sym reads ∙ q));
    })
    (λ none. record {
      before = now;
      was = sym (h.kept (id_of p) none) ∙ e;
      kept = λ q. q;
      given = λ q d. absurd (none d);
      back = λ q. inl q;
    })
    (among_or ids (id_of p))

-- One fact of what stands around nodes: `has` tells whether it is known, `Inside` says that it holds of a node, and
-- `Gives` that a node gives it to its parts. Known is what the nodes from the n-th on give.
pub record IsKnown (shapes : List Shape) (has : Around → Bool) (Inside : NodeId → Type 0) (Gives : Shape → NodeId → Type 0) (known : List Around) (n : ℕ) : Type 0 where
  pub sound : (p : ℕ) (c : Around) → slice_get known p ≡ Some c → has c ≡ true → Inside (id_of p)
  pub complete : (p : ℕ) (c : Around) (outer : NodeId) (node : Shape) → slice_get known p ≡ Some c → n ≤ outer.0 → IsPart shapes (id_of p) outer node → Gives node outer → has c ≡ true

-- a node has it from a node that it is a part of
pub record IsPassedOn (shapes : List Shape) (Inside : NodeId → Type 0) (Gives : Shape → NodeId → Type 0) : Type 0 where
  pub passes : (id outer : NodeId) (node : Shape) → IsPart shapes id outer node → Gives node outer → Inside id
  pub comes : (id : NodeId) → Inside id → (outer : NodeId) × (node : Shape) × IsPart shapes id outer node × Gives node outer

module _ (shapes : List Shape) (has : Around → Bool) (Inside : NodeId → Type 0) (Gives : Shape → NodeId → Type 0) (passed : IsPassedOn shapes Inside Gives) where
  pub known_none : (known : List Around) (n : ℕ) → length shapes ≤ n → ((p : ℕ) (c : Around) → slice_get known p ≡ Some c → has c ≡ false) → IsKnown shapes has Inside Gives known n
  known_none known n long none = record {
    sound = λ p c e h. let z : ⊥ = cc (none p c e) in absurd z;
    complete = λ p c outer node e le part g.
        let lt : outer.0 < length shapes = slice_get_within shapes outer.0 node part.is in
        let z : ⊥ = omega arith in
        absurd z;
  }

  -- once a node's turn has come, all is known of it
  pub known_all : PartsFirst shapes → (known : List Around) (p : ℕ) (c : Around) → IsKnown shapes has Inside Gives known (p + 1) → slice_get known p ≡ Some c → Inside (id_of p) → has c ≡ true
  known_all ordered known p c k e inside =
      let w = passed.comes (id_of p) inside in
      let lt : p < w.0.0 = part_before shapes ordered w.2 in
      let le : p + 1 ≤ w.0.0 = omega arith in
      k.complete p c w.0 w.1 e le w.2 w.3

  pub known_more : Parts has → (known new : List Around) (p : ℕ) (node : Shape) (a : Around) → length new ≡ length known → IsPutAround known new node.children a → slice_get shapes p ≡ Some node → (has a ≡ true → Gives node (id_of p)) → (Gives node (id_of p) → has a ≡ true) → IsKnown shapes has Inside Gives known (p + 1) → IsKnown shapes has Inside Gives new p
  known_more parts known new p node a len put is gives given k = record {
    sound = λ i c e h.
        let r = entered_at has parts known new node.children a i c len put e in
        ⊎_elim (k.sound i r.before r.was) (λ g. passed.passes (id_of i) (id_of p) node (record { is = is; among = g.1 }) (gives g.0)) (r.back h);
    complete = λ i c outer node' e le part g.
        let r = entered_at has parts known new node.children a i c len put e in
        ⊎_elim
        (λ same.
        let id_is : outer ≡ id_of p = ap (λ x. id_of x) same in
        let place : slice_get shapes outer.0 ≡ slice_get shapes p = ap (slice_get shapes) same in
        let node_is : node' ≡ node = let h = part.is in cc in
        let g' : Gives node (id_of p) = subst (λ x. Gives node x) id_is (subst (λ x. Gives x outer) node_is g) in
        r.given (given g') (subst (λ (x : Shape). Contains x.children (id_of i)) node_is part.among))
        (λ apart. let later : p + 1 ≤ outer.0 = omega arith in r.kept (k.complete i r.before outer node' r.was later part g))
        (cases_eq outer.0 p);
  }

-- the two facts

abbrev pub GivesFunction : List Shape → Shape → NodeId → Type 0
GivesFunction shapes node outer = (is_function node.label.kind ≡ true) ⊎ InFunction shapes outer

abbrev pub GivesLoop : List Shape → Shape → NodeId → Type 0
GivesLoop shapes node outer = (is_loop node.label.kind ≡ true) ⊎ ((is_function node.label.kind ≡ false) × InLoop shapes outer)

function_comes : (shapes : List Shape) (id : NodeId) → InFunction shapes id → (outer : NodeId) × (node : Shape) × IsPart shapes id outer node × GivesFunction shapes node outer
function_comes shapes id (direct_function {outer = outer} {node = node} part f) = (outer, node, part, inl f)
function_comes shapes id (outer_function {outer = outer} {node = node} part h) = (outer, node, part, inr h)

loop_comes : (shapes : List Shape) (id : NodeId) → InLoop shapes id → (outer : NodeId) × (node : Shape) × IsPart shapes id outer node × GivesLoop shapes node outer
loop_comes shapes id (direct_loop {outer = outer} {node = node} part l) = (outer, node, part, inl l)
loop_comes shapes id (outer_loop {outer = outer} {node = node} part f h) = (outer, node, part, inr (f, h))

pub function_passed : (shapes : List Shape) → IsPassedOn shapes (InFunction shapes) (GivesFunction shapes)
function_passed shapes = record {
  passes = λ id outer node part g. ⊎_elim (direct_function part) (outer_function part) g;
  comes = function_comes shapes;
}

pub loop_passed : (shapes : List Shape) → IsPassedOn shapes (InLoop shapes) (GivesLoop shapes)
loop_passed shapes = record {
  passes = λ id outer node part g. ⊎_elim (direct_loop part) (λ h. outer_loop part h.0 h.1) g;
  comes = loop_comes shapes;
}

pub record AllKnown (shapes : List Shape) (known : List Around) (n : ℕ) : Type 0 where
  pub functions : IsKnown shapes (λ a. a.function) (InFunction shapes) (GivesFunction shapes) known n
  pub loops : IsKnown shapes (λ a. a.repeated) (InLoop shapes) (GivesLoop shapes) known n

pub all_known_none : (shapes : List Shape) (known : List Around) (n : ℕ) → length shapes ≤ n → ((p : ℕ) (c : Around) → slice_get known p ≡ Some c → c ≡ outside) → AllKnown shapes known n
all_known_none shapes known n long none = record {
  functions = known_none shapes (λ a. a.function) (InFunction shapes) (GivesFunction shapes) (function_passed shapes) known n long (λ p c e. ap (λ (a : Around). a.function) (none p c e));
  loops = known_none shapes (λ a. a.repeated) (InLoop shapes) (GivesLoop shapes) (loop_passed shapes) known n long (λ p c e. ap (λ (a : Around). a.repeated) (none p c e));
}

-- what is known of a node that all nodes around have been entered for
pub record IsExact (shapes : List Shape) (id : NodeId) (c : Around) : Type 0 where
  pub function : c.function ≡ true → InFunction shapes id
  pub in_function : InFunction shapes id → c.function ≡ true
  pub repeated : c.repeated ≡ true → InLoop shapes id
  pub in_loop : InLoop shapes id → c.repeated ≡ true

pub exact : (shapes : List Shape) → PartsFirst shapes → (known : List Around) (p : ℕ) (c : Around) → AllKnown shapes known (p + 1) → slice_get known p ≡ Some c → IsExact shapes (id_of p) c
exact shapes ordered known p c k e = record {
  function = k.functions.sound p c e;
  in_function = known_all shapes (λ a. a.function) (InFunction shapes) (GivesFunction shapes) (function_passed shapes) ordered known p c k.functions e;
  repeated = k.loops.sound p c e;
  in_loop = known_all shapes (λ a. a.repeated) (InLoop shapes) (GivesLoop shapes) (loop_passed shapes) ordered known p c k.loops e;
}

and_not : (f r : Bool) → (not f && r) ≡ true → (f ≡ false) × (r ≡ true)
and_not true r e = cc
and_not false r e = (refl, e)

not_and : (f r : Bool) → f ≡ false → r ≡ true → (not f && r) ≡ true
not_and true r e h = cc
not_and false r e h = h

pub all_known_more : (shapes : List Shape) (known new : List Around) (p : ℕ) (node : Shape) (c : Around) → length new ≡ length known → IsPutAround known new node.children (inside_of c (is_function node.label.kind) (is_loop node.label.kind)) → slice_get shapes p ≡ Some node → IsExact shapes (id_of p) c → AllKnown shapes known (p + 1) → AllKnown shapes new p
all_known_more shapes known new p node c len put is x k =
    let f = is_function node.label.kind in
    let l = is_loop node.label.kind in
    let a = inside_of c f l in
    record {
      functions = known_more shapes (λ a. a.function) (InFunction shapes) (GivesFunction shapes) (function_passed shapes) (λ a b. refl) known new p node a len put is
          (λ h. ⊎_elim inl (λ r. inr (x.function r)) (or_cases f c.function h))
          (λ g. ⊎_elim (or_left f c.function) (λ i. or_right f c.function (x.in_function i)) g)
          k.functions;
      loops = known_more shapes (λ a. a.repeated) (InLoop shapes) (GivesLoop shapes) (loop_passed shapes) (λ a b. refl) known new p node a len put is
          (λ h. ⊎_elim inl (λ r. let w = and_not f c.repeated r in inr (w.0, x.repeated w.1)) (or_cases l (not f && c.repeated) h))
          (λ g. ⊎_elim (or_left l (not f && c.repeated)) (λ i. or_right l (not f && c.repeated) (not_and f c.repeated i.0 (x.in_loop i.1))) g)
          k.loops;
    }

-- whether a statement may stand at a node
strays_if : (shapes : List Shape) (id : NodeId) (c : Around) (j : Jump) → IsExact shapes id c → allows_of c j ≡ false → Strays shapes id j
strays_if shapes id c FromFunction x e = λ i. let h = x.in_function i in cc
strays_if shapes id c FromLoop x e = λ i. let h = x.in_loop i in cc
strays_if shapes id c Nothing x e = cc

allows_if : (shapes : List Shape) (id : NodeId) (c : Around) (j : Jump) → IsExact shapes id c → allows_of c j ≡ true → Strays shapes id j → ⊥
allows_if shapes id c FromFunction x e s = s (x.function e)
allows_if shapes id c FromLoop x e s = s (x.repeated e)
allows_if shapes id c Nothing x e s = s

-- the same from the n-th node on
pub record StrayFrom (shapes : List Shape) (n : ℕ) (id : NodeId) : Type 0 where
  pub stray : IsStray shapes id
  pub from : n ≤ id.0

pub stray_none : (shapes : List Shape) (n : ℕ) (id : NodeId) → length shapes ≤ n → StrayFrom shapes n id → ⊥
stray_none shapes n id h s =
    let lt : id.0 < length shapes = slice_get_within shapes id.0 s.stray.node s.stray.is in
    let le : n ≤ id.0 = s.from in
    omega arith

same_node : (shapes : List Shape) (i j : ℕ) (a b : Shape) → i ≡ j → slice_get shapes i ≡ Some a → slice_get shapes j ≡ Some b → a ≡ b
same_node shapes i j a b e h q = let s : slice_get shapes i ≡ slice_get shapes j = ap (slice_get shapes) e in cc

module _ (shapes : List Shape) (p : ℕ) (node : Shape) (c : Around) (first : Option NodeId) (is : slice_get shapes p ≡ Some node) (x : IsExact shapes (id_of p) c) (f : IsFirst (λ id. id.0) (StrayFrom shapes (p + 1)) first) where
  -- a statement that may not stand there
  pub stray_here : allows_of c (jump_of node.label.kind) ≡ false → IsFirst (λ id. id.0) (StrayFrom shapes p) (Some (id_of p))
  stray_here e = (record { stray = record { node = node; is = is; strays = strays_if shapes (id_of p) c (jump_of node.label.kind) x e }; from = omega arith }, λ other s. s.from)

  not_here : allows_of c (jump_of node.label.kind) ≡ true → (id : NodeId) → StrayFrom shapes p id → StrayFrom shapes (p + 1) id
  not_here e id s =
      let le : p ≤ id.0 = s.from in
      ⊎_elim
      (λ same.
      let node_is : s.stray.node ≡ node = same_node shapes id.0 p s.stray.node node same s.stray.is is in
      let id_is : id ≡ id_of p = ap (λ k. id_of k) same in
      let strays : Strays shapes (id_of p) (jump_of node.label.kind) = subst (λ i. Strays shapes i (jump_of node.label.kind)) id_is (subst (λ (n : Shape). Strays shapes id (jump_of n.label.kind)) node_is s.stray.strays) in
      absurd (allows_if shapes (id_of p) c (jump_of node.label.kind) x e strays))
      (λ apart. record { stray = s.stray; from = omega arith })
      (cases_eq id.0 p)

  pub stray_later : allows_of c (jump_of node.label.kind) ≡ true → IsFirst (λ id. id.0) (StrayFrom shapes p) first
  stray_later e = go first f
    where
      go : (o : Option NodeId) → IsFirst (λ id. id.0) (StrayFrom shapes (p + 1)) o → IsFirst (λ id. id.0) (StrayFrom shapes p) o
      go None h = λ id s. h id (not_here e id s)
      go (Some y) h =
          let le : p + 1 ≤ y.0 = h.0.from in
          (record { stray = h.0.stray; from = omega arith }, λ id s. h.1 id (not_here e id s))

pub stray_all : (shapes : List Shape) (first : Option NodeId) → IsFirst (λ id. id.0) (StrayFrom shapes 0) first → IsFirst (λ id. id.0) (IsStray shapes) first
stray_all shapes None h = λ id s. h id (record { stray = s; from = omega arith })
stray_all shapes (Some y) h = (h.0.stray, λ id s. h.1 id (record { stray = s; from = omega arith }))

-- a slice of a whole list, written back
pub written_back : (n : ℕ) (xs ys : List Around) → length xs ≡ n → take n (xs ++ ys) ≡ xs
written_back n xs ys e = ap (λ k. take k (xs ++ ys)) (sym e) ∙ take-append_seam xs ys

pub outside_all : (known : List Around) (n : ℕ) → known ≡ replicate n outside → (p : ℕ) (c : Around) → slice_get known p ≡ Some c → c ≡ outside
outside_all known n e p c is =
    let within : p < length known = slice_get_within known p c is in
    let lt : p < n = omega (arith, ap length e, length-replicate n outside) in
    sym (get_or_from_slice_get known p c outside is) ∙ ap (λ (xs : List Around). get_or xs p outside) e ∙ get_or-replicate n p outside outside lt
