-- The bytes of the lines so far.
use Rattle.std.proofs.Common.{◌≡◌, ◌≤◌, ◌<◌, ◌+◌, ◌++◌, ℕ, zero, suc, List, [], ◌∷◌, take, drop, length, get_or, refl, sym, ap, ◌∙◌, append_assoc, arith, length-append}
use Rattle.std.specs.Prelude.{Vec}
use Rattle.std.specs.declared.alloc.Global.{Global}
use Rattle.std.specs.List.{concat}
use Rattle.std.proofs.lemmas.List.{append-nil, take-append-drop}
use Rattle.mb_cli.specs.machine.Lines.{contents_of}

-- the bytes of the first k lines
abbrev pub front : ℕ → List (Vec ℕ Global) → List ℕ
front k lines = concat (contents_of (take k lines))

front-suc : (lines : List (Vec ℕ Global)) (k : ℕ) (v : Vec ℕ Global) → k < length lines → v ≡ get_or lines k v → front (suc k) lines ≡ front k lines ++ v.items
front-suc [] k v lt is = absurd (omega arith)
front-suc (x ∷ lines) zero v lt is = append-nil x.items ∙ ap (λ (y : Vec ℕ Global). y.items) (sym is)
front-suc (x ∷ lines) (suc k) v lt is = ap (λ t. x.items ++ t) (front-suc lines k v (omega arith) is) ∙ sym (append_assoc x.items (front k lines) v.items)

pub front-more : (lines : List (Vec ℕ Global)) (k : ℕ) (v : Vec ℕ Global) → k < length lines → v ≡ get_or lines k v → front (k + 1) lines ≡ front k lines ++ v.items
front-more lines k v lt is = let next : k + 1 ≡ suc k = omega arith in ap (λ n. front n lines) next ∙ front-suc lines k v lt is

pub front-rest : (lines : List (Vec ℕ Global)) (k : ℕ) → concat (contents_of lines) ≡ front k lines ++ concat (contents_of (drop k lines))
front-rest lines zero = refl
front-rest [] (suc k) = refl
front-rest (x ∷ lines) (suc k) = ap (λ t. x.items ++ t) (front-rest lines k) ∙ sym (append_assoc x.items (front k lines) (concat (contents_of (drop k lines))))

-- a line fits behind those before it
pub front-fits : (lines : List (Vec ℕ Global)) (k : ℕ) (v : Vec ℕ Global) → k < length lines → v ≡ get_or lines k v
    → length (front k lines) + length v.items ≤ length (concat (contents_of lines))
front-fits lines k v lt is =
    let one = ap length (front-rest lines (k + 1)) in
    let two = ap length (front-more lines k v lt is) in
    grind (arith, length-append, one, two)

-- a front of a line behind those before it is a prefix
pub front-split : (lines : List (Vec ℕ Global)) (k n : ℕ) (v : Vec ℕ Global) → k < length lines → v ≡ get_or lines k v
    → concat (contents_of lines) ≡ (front k lines ++ take n v.items) ++ (drop n v.items ++ concat (contents_of (drop (k + 1) lines)))
front-split lines k n v lt is =
    let rest = concat (contents_of (drop (k + 1) lines)) in
    front-rest lines (k + 1)
    ∙ ap (λ t. t ++ rest) (front-more lines k v lt is ∙ ap (λ t. front k lines ++ t) (sym (take-append-drop n v.items)))
    ∙ search append_assoc
