-- Graphs whose objects evolve.
use Rattle.std.proofs.Common.{◌≡◌, ℕ, zero, suc, List, [], ◌∷◌, ◌++◌, None, Some, refl, sym, ◌∙◌, subst}
use Rattle.std.specs.Prelude.{slice_get, slice_set}
use Rattle.mb_world.specs.Value.{Undefined, Null, Truth, Whole, Text, Symbol, Object, BuiltIn}
use Rattle.mb_world.specs.Graph.{Thing}
use Rattle.mb_growth.specs.Objects.{IsFormed}
use Rattle.mb_growth.specs.Later.{IsLater}
use Rattle.mb_growth.specs.Laws.{StaysLater, GoesOnLater, OneMoves, OneIsMade}
use Rattle.mb_growth.proofs.Steps.{later-refl, later-trans}

pub stays-later : StaysLater
stays-later g n t at = (t, at, later-refl t)

pub goes-on-later : GoesOnLater
goes-on-later f g h a b n t at =
    let k = a n t at in
    let l = b n k.0 k.1 in
    (l.0, l.1, later-trans t k.0 l.0 k.2 l.2)

-- one object in its place
set-get : (ts : List Thing) (n : ℕ) (t u : Thing) → slice_get ts n ≡ Some t → IsLater t u → (m : ℕ) (v : Thing)
    → slice_get ts m ≡ Some v → (w : Thing) × (slice_get (slice_set ts n u) m ≡ Some w) × IsLater v w
set-get [] n t u at h m v got = absurd (let bad : None ≡ Some v = got in cc)
set-get (x ∷ ts) zero t u at h zero v got =
    let e : x ≡ t = cc in
    let f : x ≡ v = cc in
    (u, refl, subst (λ (z : Thing). IsLater z u) (sym e ∙ f) h)
set-get (x ∷ ts) zero t u at h (suc m) v got = (v, got, later-refl v)
set-get (x ∷ ts) (suc n) t u at h zero v got = (v, got, later-refl v)
set-get (x ∷ ts) (suc n) t u at h (suc m) v got = set-get ts n t u at h m v got

set-formed : (ts : List Thing) (n : ℕ) (u : Thing) → IsFormed u → ((m : ℕ) (v : Thing) → slice_get ts m ≡ Some v → IsFormed v)
    → (m : ℕ) (v : Thing) → slice_get (slice_set ts n u) m ≡ Some v → IsFormed v
set-formed [] n u f all m v got = absurd (let bad : None ≡ Some v = got in cc)
set-formed (x ∷ ts) zero u f all zero v got = let e : u ≡ v = cc in subst IsFormed e f
set-formed (x ∷ ts) zero u f all (suc m) v got = all (suc m) v got
set-formed (x ∷ ts) (suc n) u f all zero v got = all zero v got
set-formed (x ∷ ts) (suc n) u f all (suc m) v got = set-formed ts n u f (λ i. all (suc i)) m v got

pub one-moves : OneMoves
one-moves g (Object n) t u all at h = (set-formed g.objects n u h.0 all, set-get g.objects n t u at h.1)
one-moves g (BuiltIn p) t u all at h = (all, stays-later g)
one-moves g Undefined t u all at h = (all, stays-later g)
one-moves g Null t u all at h = (all, stays-later g)
one-moves g (Truth b) t u all at h = (all, stays-later g)
one-moves g (Whole z) t u all at h = (all, stays-later g)
one-moves g (Text x) t u all at h = (all, stays-later g)
one-moves g (Symbol x) t u all at h = (all, stays-later g)

-- a new object
pub append-get : (ts : List Thing) (t : Thing) (m : ℕ) (v : Thing) → slice_get ts m ≡ Some v → slice_get (ts ++ (t ∷ [])) m ≡ Some v
append-get [] t m v got = absurd (let bad : None ≡ Some v = got in cc)
append-get (x ∷ ts) t zero v got = got
append-get (x ∷ ts) t (suc m) v got = append-get ts t m v got

append-formed : (ts : List Thing) (t : Thing) → IsFormed t → ((m : ℕ) (v : Thing) → slice_get ts m ≡ Some v → IsFormed v)
    → (m : ℕ) (v : Thing) → slice_get (ts ++ (t ∷ [])) m ≡ Some v → IsFormed v
append-formed [] t f all zero v got = let e : t ≡ v = cc in subst IsFormed e f
append-formed [] t f all (suc m) v got = absurd (let bad : None ≡ Some v = got in cc)
append-formed (x ∷ ts) t f all zero v got = all zero v got
append-formed (x ∷ ts) t f all (suc m) v got = append-formed ts t f (λ i. all (suc i)) m v got

pub one-is-made : OneIsMade
one-is-made g t all f = (append-formed g.objects t f all, λ n v at. (v, append-get g.objects t n v at, later-refl v))
