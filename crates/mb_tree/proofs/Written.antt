-- What is written, and where.
use Rattle.std.proofs.Common.{◌≡◌, ℕ, zero, suc, ◌+◌, ◌≤◌, List, [], ◌∷◌, ◌++◌, length, refl, sym, ap, ◌∙◌, arith, append_assoc, append-nil, length-append}
use Rattle.mb_tree.specs.Roses.{Rose, Roses, node, none, more, Shape, shape, id_of, write, write_all, roots, root, size, join}
use Rattle.mb_tree.specs.machine.Operands.{written, places, pushed, Got, gather}

-- lengths

pub root_write : (out : List Shape) (r : Rose) → length (write out r) ≡ suc (root out r)
root_write out (node label parts) = length-append (write_all out parts) (shape label (roots out parts) ∷ []) ∙ omega arith

mutual
  pub root_least : (out : List Shape) (r : Rose) → length out ≤ root out r
  root_least out (node label parts) = write_all_longer out parts

  pub write_all_longer : (out : List Shape) (parts : Roses) → length out ≤ length (write_all out parts)
  write_all_longer out none = omega arith
  write_all_longer out (more part parts) = omega (arith, root_least out part, root_write out part, write_all_longer (write out part) parts)

pub roots_length : (out : List Shape) (parts : Roses) → length (roots out parts) ≡ size parts
roots_length out none = refl
roots_length out (more part parts) = ap suc (roots_length (write out part) parts)

pub places_length : (base : List Shape) (rs : List Rose) → length (places base rs) ≡ length rs
places_length base [] = refl
places_length base (r ∷ rs) = length-append (places base rs) (id_of (root (written base rs) r) ∷ []) ∙ omega (arith, places_length base rs)

-- what was there stays

mutual
  pub write_keeps : (out : List Shape) (r : Rose) → (new : List Shape) × (write out r ≡ out ++ new)
  write_keeps out (node label parts) =
      let h = write_all_keeps out parts in
      let s = shape label (roots out parts) in
      (h.0 ++ s ∷ [], ap (λ x. x ++ s ∷ []) h.1 ∙ append_assoc out h.0 (s ∷ []))

  pub write_all_keeps : (out : List Shape) (parts : Roses) → (new : List Shape) × (write_all out parts ≡ out ++ new)
  write_all_keeps out none = ([], sym (append-nil out))
  write_all_keeps out (more part parts) =
      let h = write_keeps out part in
      let q = write_all_keeps (write out part) parts in
      (h.0 ++ q.0, q.1 ∙ ap (λ x. x ++ q.0) h.1 ∙ append_assoc out h.0 q.0)

-- operands that are gathered

pub gather_written : (base : List Shape) (n : ℕ) (rs rest : List Rose) (acc parts : Roses) → gather n rs acc ≡ Got parts rest → write_all (written base rs) acc ≡ write_all (written base rest) parts
gather_written base zero rs rest acc parts e =
    let p : acc ≡ parts = cc in
    let r : rs ≡ rest = cc in
    ap (λ x. write_all (written base x) acc) r ∙ ap (λ x. write_all (written base rest) x) p
gather_written base (suc n) [] rest acc parts e = cc
gather_written base (suc n) (r ∷ rs) rest acc parts e = gather_written base n rs rest (more r acc) parts e

pub gather_places : (base : List Shape) (n : ℕ) (rs rest : List Rose) (acc parts : Roses) → gather n rs acc ≡ Got parts rest → places base rs ++ roots (written base rs) acc ≡ places base rest ++ roots (written base rest) parts
gather_places base zero rs rest acc parts e =
    let p : acc ≡ parts = cc in
    let r : rs ≡ rest = cc in
    ap (λ x. places base x ++ roots (written base x) acc) r ∙ ap (λ x. places base rest ++ roots (written base rest) x) p
gather_places base (suc n) [] rest acc parts e = cc
gather_places base (suc n) (r ∷ rs) rest acc parts e =
    append_assoc (places base rs) (id_of (root (written base rs) r) ∷ []) (roots (written base (r ∷ rs)) acc) ∙ gather_places base n rs rest (more r acc) parts e

pub gather_size : (n : ℕ) (rs rest : List Rose) (acc parts : Roses) → gather n rs acc ≡ Got parts rest → size parts ≡ n + size acc
gather_size zero rs rest acc parts e =
    let p : parts ≡ acc = cc in
    ap size p ∙ omega arith
gather_size (suc n) [] rest acc parts e = cc
gather_size (suc n) (r ∷ rs) rest acc parts e = omega (arith, gather_size n rs rest (more r acc) parts e)

-- operands that were pushed

pub gather_pushed : (parts : Roses) (k n : ℕ) (rs : List Rose) (acc : Roses) → n ≡ size parts + k → gather n (pushed parts rs) acc ≡ gather k rs (join parts acc)
gather_pushed none k n rs acc e =
    let q : n ≡ k = omega arith in
    ap (λ x. gather x rs acc) q
gather_pushed (more p parts) k n rs acc e = gather_pushed parts (suc k) n (p ∷ rs) acc (omega arith)

pub join_none : (parts : Roses) → join parts none ≡ parts
join_none none = refl
join_none (more p parts) = ap (more p) (join_none parts)

pub gathers : (parts : Roses) (k n : ℕ) (rs : List Rose) → n ≡ size parts + k → gather n (pushed parts rs) none ≡ gather k rs parts
gathers parts k n rs e = gather_pushed parts k n rs none e ∙ ap (gather k rs) (join_none parts)

pub size_join : (front parts : Roses) → size (join front parts) ≡ size front + size parts
size_join none parts = omega arith
size_join (more p front) parts = omega (arith, size_join front parts)

pub pushed_written : (base : List Shape) (parts : Roses) (rs : List Rose) → written base (pushed parts rs) ≡ write_all (written base rs) parts
pushed_written base none rs = refl
pushed_written base (more p parts) rs = pushed_written base parts (p ∷ rs)

pub pushed_places : (base : List Shape) (parts : Roses) (rs : List Rose) → places base (pushed parts rs) ≡ places base rs ++ roots (written base rs) parts
pushed_places base none rs = sym (append-nil (places base rs))
pushed_places base (more p parts) rs =
    pushed_places base parts (p ∷ rs) ∙ append_assoc (places base rs) (id_of (root (written base rs) p) ∷ []) (roots (write (written base rs) p) parts)

-- each operand has a node of its own
pub operands_fit : (base : List Shape) (rs : List Rose) → length base + length rs ≤ length (written base rs)
operands_fit base [] = omega arith
operands_fit base (q ∷ rs) = omega (arith, operands_fit base rs, root_write (written base rs) q, root_least (written base rs) q)
