-- The heights of a flat tree's nodes.
use Rattle.std.proofs.Common.{◌≡◌, ℕ, zero, suc, ◌+◌, ◌<◌, ◌≤◌, max, Bool, true, false, List, [], ◌∷◌, ◌++◌, length, drop, get_or, Some, refl, sym, ap, subst, ◌∙◌, arith, add-one, length-append}
use Rattle.std.specs.Prelude.{slice_get, nat_lt}
use Rattle.std.proofs.lemmas.Option.{slice_get_within, get_or_from_slice_get, slice_get-get_or, slice_get_read}
use Rattle.std.proofs.lemmas.Bool.{ltb-true, ltb-false}
use Rattle.std.proofs.lemmas.List.{get_or_append_left, get_or-map, length-map}
use Rattle.std.proofs.Math.Seq.{drop-cons, get_or-append_seam}
use Rattle.std.proofs.Math.ListN.{drop_of_length-le}
use Rattle.mb_base.specs.declared.value.NodeId.{NodeId}
use Rattle.mb_tree.specs.declared.tree.Node.{Node}
use Rattle.mb_tree.specs.Roses.{view, views, Rose, Roses, node, none, more, Shape, shape, id_of, write, write_all, roots, root}
use Rattle.mb_tree.specs.Heights.{height_of, most_of, IsWhole, empty, whole}
use Rattle.mb_tree.specs.machine.Below.{AreAmong, most_at}
use Rattle.mb_tree.proofs.Written.{root_write, write_all_longer, write_all_keeps}

-- the heights, once those of these nodes follow
abbrev pub heights_on : List ℕ → List Shape → List ℕ
heights_on hs [] = hs
heights_on hs (s ∷ ss) = heights_on (hs ++ suc (most_at hs s.children) ∷ []) ss

abbrev heights : List Shape → List ℕ
heights = heights_on []

on_append : (hs : List ℕ) (xs ys : List Shape) → heights_on hs (xs ++ ys) ≡ heights_on (heights_on hs xs) ys
on_append hs [] ys = refl
on_append hs (x ∷ xs) ys = on_append (hs ++ suc (most_at hs x.children) ∷ []) xs ys

pub on_length : (hs : List ℕ) (xs : List Shape) → length (heights_on hs xs) ≡ length hs + length xs
on_length hs [] = omega arith
on_length hs (x ∷ xs) =
    omega (arith, on_length (hs ++ suc (most_at hs x.children) ∷ []) xs, length-append hs (suc (most_at hs x.children) ∷ []))

on_keeps : (hs : List ℕ) (xs : List Shape) (i : ℕ) → i < length hs → get_or (heights_on hs xs) i 0 ≡ get_or hs i 0
on_keeps hs [] i h = refl
on_keeps hs (x ∷ xs) i h =
    let hs' = hs ++ suc (most_at hs x.children) ∷ [] in
    on_keeps hs' xs i (omega (arith, length-append hs (suc (most_at hs x.children) ∷ []))) ∙ get_or_append_left hs (suc (most_at hs x.children) ∷ []) 0 i h

heights_keep : (out new : List Shape) (i : ℕ) → i < length out → get_or (heights (out ++ new)) i 0 ≡ get_or (heights out) i 0
heights_keep out new i h = ap (λ x. get_or x i 0) (on_append [] out new) ∙ on_keeps (heights out) new i (omega (arith, on_length [] out))

all_keep : (out : List Shape) (parts : Roses) (i : ℕ) → i < length out → get_or (heights (write_all out parts)) i 0 ≡ get_or (heights out) i 0
all_keep out parts i h =
    let q = write_all_keeps out parts in
    ap (λ x. get_or (heights x) i 0) q.1 ∙ heights_keep out q.0 i h

-- a tree's height stands at its root's place
mutual
  pub root_height : (out : List Shape) (r : Rose) → get_or (heights (write out r)) (root out r) 0 ≡ height_of r
  root_height out (node label parts) =
      let w = write_all out parts in
      let top = suc (most_at (heights w) (roots out parts)) in
      let n : length (heights w) ≡ length w = omega (arith, on_length [] w) in
      ap (λ x. get_or x (length w) 0) (on_append [] w (shape label (roots out parts) ∷ []))
      ∙ ap (λ i. get_or (heights w ++ top ∷ []) i 0) (sym n)
      ∙ get_or-append_seam (heights w) top [] 0
      ∙ ap suc (most_height out parts)

  most_height : (out : List Shape) (parts : Roses) → most_at (heights (write_all out parts)) (roots out parts) ≡ most_of parts
  most_height out none = refl
  most_height out (more part parts) =
      let first : get_or (heights (write_all (write out part) parts)) (root out part) 0 ≡ height_of part = all_keep (write out part) parts (root out part) (omega (arith, root_write out part)) ∙ root_height out part in
      ap (λ x. max x (most_at (heights (write_all (write out part) parts)) (roots (write out part) parts))) first
      ∙ ap (λ x. max (height_of part) x) (most_height (write out part) parts)

-- the greatest at some places
pub most_low : (hs : List ℕ) (ids : List NodeId) (n : ℕ) → ((k : ℕ) → get_or hs k 0 ≤ n) → most_at hs ids ≤ n
most_low hs [] n h = omega arith
most_low hs (id ∷ ids) n h = omega (arith, h id.0, most_low hs ids n h)

pub most_step : (hs : List ℕ) (ids : List NodeId) (i m : ℕ) (id : NodeId) → i < length ids → max m (most_at hs (drop i ids)) ≡ max (max m (get_or hs (get_or ids i id).0 0)) (most_at hs (drop (i + 1) ids))
most_step hs ids i m id h =
    let e = drop-cons ids i id h in
    let x = get_or hs (get_or ids i id).0 0 in
    let y = most_at hs (drop (suc i) ids) in
    let q : max m (max x y) ≡ max (max m x) y = omega arith in
    ap (λ l. max m (most_at hs l)) e ∙ q ∙ ap (λ k. max (max m x) (most_at hs (drop k ids))) (sym (add-one i))

-- the parts of each node stand before it
abbrev Ordered : List Shape → Type 0
Ordered shapes = (i : ℕ) (s : Shape) → slice_get shapes i ≡ Some s → AreAmong s.children i

among_less : (ids : List NodeId) (n m : ℕ) → n ≤ m → AreAmong ids n → AreAmong ids m
among_less ids n m h a i id e = omega (arith, a i id e)

among_cons : (x : NodeId) (ids : List NodeId) (n : ℕ) → x.0 < n → AreAmong ids n → AreAmong (x ∷ ids) n
among_cons x ids n h a zero id e =
    let same : x ≡ id = cc in
    subst (λ (y : NodeId). y.0 < n) same h
among_cons x ids n h a (suc i) id e = a i id e

among_roots : (out : List Shape) (parts : Roses) → AreAmong (roots out parts) (length (write_all out parts))
among_roots out none = λ i id e. cc
among_roots out (more part parts) =
    among_cons (id_of (root out part)) (roots (write out part) parts) (length (write_all (write out part) parts))
    (omega (arith, root_write out part, write_all_longer (write out part) parts)) (among_roots (write out part) parts)

ordered_last : (xs : List Shape) (s : Shape) → Ordered xs → AreAmong s.children (length xs) → Ordered (xs ++ s ∷ [])
ordered_last xs s o a i t e = go (nat_lt i (length xs)) refl
  where
    within : i < length (xs ++ s ∷ [])
    within = slice_get_within (xs ++ s ∷ []) i t e

    read : get_or (xs ++ s ∷ []) i t ≡ t
    read = get_or_from_slice_get (xs ++ s ∷ []) i t t e

    go : (b : Bool) → nat_lt i (length xs) ≡ b → AreAmong t.children i
    go true h =
        let lt : i < length xs = ltb-true i (length xs) h in
        o i t (slice_get-get_or xs i t lt ∙ ap Some (sym (get_or_append_left xs (s ∷ []) t i lt) ∙ read))
    go false h =
        let ge : length xs ≤ i = ltb-false i (length xs) h in
        let same : length xs ≡ i = omega (arith, within, length-append xs (s ∷ [])) in
        let is : s ≡ t = sym (get_or-append_seam xs s [] t) ∙ ap (λ k. get_or (xs ++ s ∷ []) k t) same ∙ read in
        subst (λ (x : Shape). AreAmong x.children i) is (subst (λ n. AreAmong s.children n) same a)

mutual
  ordered_write : (out : List Shape) (r : Rose) → Ordered out → Ordered (write out r)
  ordered_write out (node label parts) o = ordered_last (write_all out parts) (shape label (roots out parts)) (ordered_all out parts o) (among_roots out parts)

  ordered_all : (out : List Shape) (parts : Roses) → Ordered out → Ordered (write_all out parts)
  ordered_all out none o = o
  ordered_all out (more part parts) o = ordered_all (write out part) parts (ordered_write out part o)

pub parts_first : {shapes : List Shape} → IsWhole shapes → (i : ℕ) (s : Shape) → slice_get shapes i ≡ Some s → AreAmong s.children i
parts_first empty i s e = cc
parts_first (whole tree w) i s e = ordered_write [] tree (λ k t q. cc) i s (ap (λ x. slice_get x i) (sym w) ∙ e)

-- the loop over the nodes
pub view_next : (nodes : List Node) (i : ℕ) (n : Node) → i < length nodes → n ≡ get_or nodes i n → drop i (views nodes) ≡ view n ∷ drop (i + 1) (views nodes)
view_next nodes i n h e =
    let len = length-map nodes view in
    let there : get_or (views nodes) i (view n) ≡ view n = get_or-map view nodes i n (view n) h ∙ ap view (sym e) in
    drop-cons (views nodes) i (view n) (omega arith) ∙ ap (λ s. s ∷ drop (suc i) (views nodes)) there ∙ ap (λ k. view n ∷ drop k (views nodes)) (sym (add-one i))

pub view_there : (nodes : List Node) (i : ℕ) (n : Node) → i < length nodes → n ≡ get_or nodes i n → slice_get (views nodes) i ≡ Some (view n)
view_there nodes i n h e =
    let len = length-map nodes view in
    slice_get_read (views nodes) (length (views nodes)) i (view n) refl (omega arith) (sym (get_or-map view nodes i n (view n) h ∙ ap view (sym e)))

pub heights_step : (hs : List ℕ) (ss : List Shape) (i : ℕ) (s : Shape) (x : ℕ) → drop i ss ≡ s ∷ drop (i + 1) ss → x ≡ most_at hs s.children → heights_on (hs ++ (x + 1) ∷ []) (drop (i + 1) ss) ≡ heights_on hs (drop i ss)
heights_step hs ss i s x e m =
    let q : x + 1 ≡ suc (most_at hs s.children) = omega arith in
    ap (λ y. heights_on (hs ++ y ∷ []) (drop (i + 1) ss)) q ∙ ap (heights_on hs) (sym e)

pub low_step : (hs : List ℕ) (x n : ℕ) → ((k : ℕ) → get_or hs k 0 ≤ n) → x ≤ n → (k : ℕ) → get_or (hs ++ (x + 1) ∷ []) k 0 ≤ n + 1
low_step [] x n h u zero = omega arith
low_step [] x n h u (suc k) = omega arith
low_step (y ∷ hs) x n h u zero = omega (arith, h 0)
low_step (y ∷ hs) x n h u (suc k) = low_step hs x n (λ i. h (suc i)) u k

pub height_last : (hs : List ℕ) (tree : Rose) → hs ≡ heights_on [] (write [] tree) → (length hs ≡ suc (root [] tree)) × (get_or hs (root [] tree) 0 ≡ height_of tree)
height_last hs tree e =
    (ap length e ∙ on_length [] (write [] tree) ∙ omega (arith, root_write [] tree), ap (λ x. get_or x (root [] tree) 0) e ∙ root_height [] tree)

-- the same of a reference to the nodes
pub item_there : (items nodes : List Node) (i : ℕ) (n : Node) → items ≡ nodes → i < length items → n ≡ get_or items i n → (i < length nodes) × (n ≡ get_or nodes i n)
item_there items nodes i n e h q = (subst (λ (xs : List Node). i < length xs) e h, q ∙ ap (λ (xs : List Node). get_or xs i n) e)

pub heights_end : (hs : List ℕ) (nodes : List Node) (i : ℕ) → length nodes ≤ i → heights_on hs (drop i (views nodes)) ≡ hs
heights_end hs nodes i h =
    let len = length-map nodes view in
    let le : length (views nodes) ≤ i = omega arith in
    ap (heights_on hs) (drop_of_length-le (views nodes) le)
