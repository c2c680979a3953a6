-- The text of what was thrown, and its line.
use Rattle.std.proofs.Common.{Err, List, Ok, Result, Some, [], ap, append-nil, codes, map, refl, sym, ℕ, ◌++◌, ◌∷◌, ◌≡◌}
use Rattle.std.proofs.lemmas.List.{map-append}
use Rattle.std.specs.Prelude.{IfOk, OnOk}
use Rattle.mb_engine.specs.Turns.{AddsLines}
use Rattle.mb_frames.specs.Stepping.{Written}
use Rattle.mb_model.specs.Story.{thrown_by, thrown_text}
use Rattle.mb_world.specs.Graph.{Graph}
use Rattle.mb_world.specs.Objects.{thing_at}
use Rattle.mb_world.specs.Value.{BuiltIn, Null, Object, Symbol, Text, Truth, Undefined, Val, Whole, to_text}

pub if-then : {A E : Type 0} (P Q : A → Type 0) (r : Result A E) → IfOk r P → ((a : A) → P a → Q a) → IfOk r Q
if-then P Q (Ok a) h f = f a h
if-then P Q (Err e) h f = tt

pub on-then : {A E : Type 0} (P Q : Type 0) (r : Result A E) → OnOk r P → (P → Q) → OnOk r Q
on-then P Q (Ok a) h f = f h
on-then P Q (Err e) h f = tt

-- a primitive that has a text
pub primitive-text : (g : Graph) (v : Val) (t : List ℕ) → Some t ≡ to_text v → codes "value " ++ t ≡ thrown_text g v
primitive-text g Undefined t e = ap (λ o. thrown_by o (thing_at g Undefined)) e
primitive-text g Null t e = ap (λ o. thrown_by o (thing_at g Null)) e
primitive-text g (Truth b) t e = ap (λ o. thrown_by o (thing_at g (Truth b))) e
primitive-text g (Whole z) t e = ap (λ o. thrown_by o (thing_at g (Whole z))) e
primitive-text g (Text u) t e = ap (λ o. thrown_by o (thing_at g (Text u))) e
primitive-text g (Symbol n) t e = absurd cc
primitive-text g (Object n) t e = absurd cc
primitive-text g (BuiltIn p) t e = absurd cc

-- ---- its line

-- a line of a letter, two more and a text, put last
pub line-written : {A : Type 0} (F : A → List ℕ) (all all' : List A) (line : A) (x : ℕ) (e a b c text : List ℕ)
    → e ≡ [] → a ≡ e ++ (x ∷ []) → b ≡ a ++ (33 ∷ []) → c ≡ b ++ (32 ∷ []) → F line ≡ c ++ text
    → all' ≡ all ++ (line ∷ []) → map F all' ≡ map F all ++ ((x ∷ 33 ∷ 32 ∷ text) ∷ [])
line-written F all all' line x e a b c text p q r s t u =
    let z : F line ≡ x ∷ 33 ∷ 32 ∷ text = rw (t, s, r, q, p) refl in
    rw (u, map-append F all (line ∷ []), z) refl

-- lines put last
pub lines-added : {A : Type 0} (F : A → List ℕ) (l : Written) (xs ys zs : List A) → zs ≡ xs ++ ys → l.lines ≡ map F xs
    → map F zs ≡ l.lines ++ map F ys
lines-added F l xs ys zs e h = rw (e, h) (map-append F xs ys)

pub adds-none : (l : Written) → AddsLines l l
adds-none l = record { traced = refl; lettered = refl; more = []; lines = sym (append-nil l.lines) }
