-- Properties that a cell takes one by one, until it is as the table has it.
use Rattle.mb_base.specs.declared.value.Key.{Key}
use Rattle.mb_base.specs.declared.value.Side.{Side}
use Rattle.mb_base.specs.declared.value.Value.{Value}
use Rattle.mb_desc.specs.declared.descriptor.Full.{Full}
use Rattle.mb_frames.proofs.Parts.{each-part, left-part, right-part}
use Rattle.mb_intrinsics.proofs.Naming.{id-apart}
use Rattle.mb_intrinsics.specs.Furnished.{HasTableTexts, full_of, full_texts, key_of, key_texts, property_of, standard_cell, table_texts, value_of}
use Rattle.mb_intrinsics.specs.machine.Filling.{AreThere, bare_cell, filled, properties_texts, property_texts, put_of, puts}
use Rattle.mb_intrinsics.specs.machine.Table.{row_of}
use Rattle.mb_props.proofs.Listed.{insert-none}
use Rattle.mb_props.specs.Table.{found}
use Rattle.mb_text.specs.Texts.{has_text}
use Rattle.mb_world.proofs.Grow.{All-at}
use Rattle.mb_world.specs.Data.{closed, with_proto}
use Rattle.mb_world.specs.Graph.{Property}
use Rattle.mb_world.specs.Intrinsics.{Intrinsic, intrinsic, intrinsics}
use Rattle.mb_world.specs.Key.{Named, PropertyKey, SymbolKey}
use Rattle.mb_world.specs.Standard.{properties_of, prototype_of}
use Rattle.mb_world.specs.declared.cell.Cell.{Cell}
use Rattle.std.proofs.Common.{Bool, List, None, Option, Some, [], ap, false, map, refl, slice_get, subst, sym, true, true≢false, ℕ, ◌++◌, ◌∙◌, ◌∷◌, ◌≡◌, append-nil, append_assoc, suc, zero}
use Rattle.std.proofs.lemmas.List.Elements.{All-append, All-head, All-nil}
use Rattle.std.specs.List.{flat_map, list_all}
use Rattle.std.specs.Prelude.{All, codes, not, ◌&&◌}
use Rattle.std.specs.Str.{bytes_eq as same_text}

-- ---- keys that differ

abbrev pub named_apart : List ℕ → PropertyKey → Bool
named_apart a (Named b) = not (same_text a b)
named_apart a (SymbolKey n) = false

abbrev pub apart_from : PropertyKey → List Property → Bool
apart_from (Named a) ps = list_all (λ q. named_apart a q.key) ps
apart_from (SymbolKey n) ps = false

-- no key of the second list stands before it
abbrev pub are_new : List Property → List Property → Bool
are_new done [] = true
are_new done (p ∷ ps) = apart_from p.key done && are_new (done ++ p ∷ []) ps

pub both : (a b : Bool) → (a && b) ≡ true → (a ≡ true) × (b ≡ true)
both true b h = (refl, h)
both false b h = absurd (true≢false (sym h))

negated : (b : Bool) → not b ≡ true → b ≡ false
negated false h = refl
negated true h = absurd (true≢false (sym h))

key-there : (texts : List (List ℕ)) (name : List ℕ) (p : Property) → p.key ≡ Named name
    → AreThere texts (property_texts p)
    → has_text texts name ≡ true
key-there texts name p e h =
    All-head (λ t. has_text texts t ≡ true) name (full_texts p.full)
    (subst (λ (k : PropertyKey). AreThere texts (key_texts k ++ full_texts p.full)) e h)

none-found : (texts : List (List ℕ)) (home : Side) (a : List ℕ) (done : List Property) → has_text texts a ≡ true
    → AreThere texts (properties_texts done) → list_all (λ q. named_apart a q.key) done ≡ true
    → found (map (property_of texts home) done) (key_of texts (Named a)) ≡ None
none-found texts home a [] h all apart = refl
none-found texts home a (q ∷ qs) h all apart =
    by q.key refl (none-found texts home a qs h
    (right-part (λ t. has_text texts t ≡ true) (property_texts q) (properties_texts qs) all) parts.1)
  where
    parts : (named_apart a q.key ≡ true) × (list_all (λ r. named_apart a r.key) qs ≡ true)
    parts = both (named_apart a q.key) (list_all (λ r. named_apart a r.key) qs) apart

    by : (k : PropertyKey) → q.key ≡ k → found (map (property_of texts home) qs) (key_of texts (Named a)) ≡ None
        → found (map (property_of texts home) (q ∷ qs)) (key_of texts (Named a)) ≡ None
    by (Named b) e rest =
        let there : has_text texts b ≡ true = key-there texts b q e
        (left-part (λ t. has_text texts t ≡ true) (property_texts q) (properties_texts qs) all) in
        let differ : same_text a b ≡ false =
        negated (same_text a b) (subst (λ (k : PropertyKey). named_apart a k ≡ true) e parts.0) in
        rw (e, id-apart texts a b h there differ) rest
    by (SymbolKey n) e rest =
        absurd (true≢false (sym (subst (λ (k : PropertyKey). named_apart a k ≡ true) e parts.0)))

-- ---- the properties of a cell

abbrev pub with_done : List (List ℕ) → Side → List Property → Cell → Cell
with_done texts home ps c = record c { props = map (property_of texts home) ps }

map-more : {A B : Type 0} (f : A → B) (xs : List A) (x : A) → map f xs ++ f x ∷ [] ≡ map f (xs ++ x ∷ [])
map-more f [] x = refl
map-more f (y ∷ ys) x = ap (λ zs. f y ∷ zs) (map-more f ys x)

there-more : (texts : List (List ℕ)) (done : List Property) (p : Property) → AreThere texts (properties_texts done)
    → AreThere texts (property_texts p) → AreThere texts (properties_texts (done ++ p ∷ []))
there-more texts [] p h k = All-append (λ t. has_text texts t ≡ true) (property_texts p) [] k h
there-more texts (q ∷ qs) p h k =
    All-append (λ t. has_text texts t ≡ true) (property_texts q) (properties_texts (qs ++ p ∷ []))
    (left-part (λ t. has_text texts t ≡ true) (property_texts q) (properties_texts qs) h)
    (there-more texts qs p (right-part (λ t. has_text texts t ≡ true) (property_texts q) (properties_texts qs) h) k)

pub puts-all : (texts : List (List ℕ)) (home : Side) (c : Cell) (done ps : List Property)
    → AreThere texts (properties_texts done) → AreThere texts (properties_texts ps) → are_new done ps ≡ true
    → puts texts home ps (with_done texts home done c) ≡ with_done texts home (done ++ ps) c
puts-all texts home c done [] h k new =
    ap (λ (qs : List Property). with_done texts home qs c) (sym (append-nil done))
puts-all texts home c done (p ∷ ps) h k new =
    by p.key refl
    (puts-all texts home c (done ++ p ∷ []) ps (there-more texts done p h own) others parts.1
    ∙ ap (λ (qs : List Property). with_done texts home qs c) (append_assoc done (p ∷ []) ps))
  where
    parts : (apart_from p.key done ≡ true) × (are_new (done ++ p ∷ []) ps ≡ true)
    parts = both (apart_from p.key done) (are_new (done ++ p ∷ []) ps) new

    own : AreThere texts (property_texts p)
    own = left-part (λ t. has_text texts t ≡ true) (property_texts p) (properties_texts ps) k

    others : AreThere texts (properties_texts ps)
    others = right-part (λ t. has_text texts t ≡ true) (property_texts p) (properties_texts ps) k

    by : (key : PropertyKey) → p.key ≡ key
        → puts texts home ps (with_done texts home (done ++ p ∷ []) c) ≡ with_done texts home (done ++ p ∷ ps) c
        → puts texts home (p ∷ ps) (with_done texts home done c) ≡ with_done texts home (done ++ p ∷ ps) c
    by (Named a) e rest =
        let none : found (map (property_of texts home) done) (key_of texts p.key) ≡ None =
        subst (λ (x : PropertyKey). found (map (property_of texts home) done) (key_of texts x) ≡ None) (sym e)
        (none-found texts home a done (key-there texts a p e own) h
        (subst (λ (x : PropertyKey). apart_from x done ≡ true) e parts.0)) in
        ap (λ (es : List (Key × Full Value)). puts texts home ps (record c { props = es }))
        (sym (insert-none (key_of texts p.key) (map (property_of texts home) done) (full_of texts home p.full) none)
        ∙ map-more (property_of texts home) done p)
        ∙ rest
    by (SymbolKey n) e rest =
        absurd (true≢false (sym (subst (λ (x : PropertyKey). apart_from x done ≡ true) e parts.0)))

-- ---- the table

all_new : list_all (λ i. are_new [] (properties_of i)) intrinsics ≡ true
all_new = refl

pub member-of : {A : Type 0} (p : A → Bool) (xs : List A) (n : ℕ) (x : A) → list_all p xs ≡ true
    → slice_get xs n ≡ Some x
    → p x ≡ true
member-of p [] n x h e = cc
member-of p (y ∷ ys) zero x h e = let q : y ≡ x = cc in rw (← q) ((both (p y) (list_all p ys) h).0)
member-of p (y ∷ ys) (suc n) x h e = member-of p ys n x (both (p y) (list_all p ys) h).1 e

pub texts-of : (texts : List (List ℕ)) (n : ℕ) (i : Intrinsic) → HasTableTexts texts → intrinsic n ≡ Some i
    → AreThere texts (properties_texts (properties_of i))
texts-of texts n i h e =
    All-at (λ j. AreThere texts (properties_texts (properties_of j))) intrinsics n i e
    (each-part (λ t. has_text texts t ≡ true) (λ j. properties_texts (properties_of j)) intrinsics
    (left-part (λ t. has_text texts t ≡ true) table_texts (codes "desk" ∷ []) h))

pub filled-is : (texts : List (List ℕ)) (home : Side) (n : ℕ) (i : Intrinsic) → HasTableTexts texts
    → intrinsic n ≡ Some i → filled texts home (row_of i) (bare_cell texts home i) ≡ standard_cell texts home i
filled-is texts home n i h e =
    ap closed (puts-all texts home (with_proto (value_of texts home (prototype_of i)) (bare_cell texts home i)) []
    (properties_of i) (All-nil (λ t. has_text texts t ≡ true)) (texts-of texts n i h e)
    (member-of (λ j. are_new [] (properties_of j)) intrinsics n i all_new e))
