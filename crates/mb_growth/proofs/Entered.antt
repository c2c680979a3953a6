-- The entries of a log, and what they tell.
use Rattle.std.proofs.Common.{◌≡◌, ℕ, zero, suc, Bool, true, false, nat_eq, List, [], ◌∷◌, ◌++◌, map, take, length, None, Some, slice_get, refl, sym, ap, ◌∙◌, if◌then◌else◌, append-nil, append_assoc}
use Rattle.std.proofs.lemmas.Bool.{eqb-true}
use Rattle.mb_view.specs.Entries as deed
use Rattle.mb_view.specs.Entries.{is_of, told_by, told_from}
use Rattle.mb_view.proofs.Lawfulness.{and-both}
use Rattle.mb_world.specs.Value.{Val}
use Rattle.mb_world.specs.Key.{PropertyKey}
use Rattle.mb_world.specs.Graph.{Entry, Item, Traced}
use Rattle.mb_model.specs.Trace.Entries.{entry_of, entries}
use Rattle.mb_model.specs.Trace.Lawful.{deed_of}

entries-append : (xs ys : List Item) → entries (xs ++ ys) ≡ entries xs ++ entries ys
entries-append [] ys = refl
entries-append (i ∷ is) ys =
    ap (λ (r : List Entry). entry_of i ++ r) (entries-append is ys) ∙ sym (append_assoc (entry_of i) (entries is) (entries ys))

-- an item that is no entry
pub quiet-log : (log : List Item) (i : Item) → entry_of i ≡ [] → entries (log ++ (i ∷ [])) ≡ entries log
quiet-log log i none =
    entries-append log (i ∷ []) ∙ ap (λ (r : List Entry). entries log ++ (r ++ [])) none ∙ append-nil (entries log)

-- an entry
pub entered-log : (log : List Item) (e : Entry) → entries (log ++ (Traced e ∷ [])) ≡ entries log ++ (e ∷ [])
entered-log log e = entries-append log (Traced e ∷ [])

pub deeds-append : (xs ys : List Entry) → map deed_of (xs ++ ys) ≡ map deed_of xs ++ map deed_of ys
deeds-append [] ys = refl
deeds-append (x ∷ xs) ys = ap (λ (r : List (deed.Entry PropertyKey Val)). deed_of x ∷ r) (deeds-append xs ys)

pub deeds-length : (xs : List Entry) → length (map deed_of xs) ≡ length xs
deeds-length [] = refl
deeds-length (x ∷ xs) = ap suc (deeds-length xs)

pub deeds-get : (xs : List Entry) (place : ℕ) (d : deed.Entry PropertyKey Val) → slice_get (map deed_of xs) place ≡ Some d
    → (e : Entry) × (slice_get xs place ≡ Some e) × (deed_of e ≡ d)
deeds-get [] place d h = absurd (let bad : None ≡ Some d = h in cc)
deeds-get (x ∷ xs) zero d h = let same : deed_of x ≡ d = cc in (x, refl, same)
deeds-get (x ∷ xs) (suc place) d h = deeds-get xs place d h

pub append-got : (xs : List Entry) (y : Entry) (place : ℕ) (e : Entry) → slice_get (xs ++ (y ∷ [])) place ≡ Some e
    → (So : ℕ → Entry → Type 0) → ((at : ℕ) (x : Entry) → slice_get xs at ≡ Some x → So at x) → So (length xs) y → So place e
append-got [] y zero e h So all last = let same : y ≡ e = cc in rw (← same) last
append-got [] y (suc place) e h So all last = absurd (let bad : None ≡ Some e = h in cc)
append-got (x ∷ xs) y zero e h So all last = all zero e h
append-got (x ∷ xs) y (suc place) e h So all last = append-got xs y place e h (λ n. So (suc n)) (λ n. all (suc n)) last

pub take-first : {X : Type 0} (xs ys : List X) → take (length xs) (xs ++ ys) ≡ xs
take-first [] [] = refl
take-first [] (y ∷ ys) = refl
take-first (x ∷ xs) ys = ap (λ r. x ∷ r) (take-first xs ys)

pub of-object : (side object : ℕ) (d : deed.Entry PropertyKey Val) → is_of side object d ≡ true
    → (d.side ≡ side) × (d.object ≡ object)
of-object side object d h =
    let two = and-both (nat_eq d.side side) (nat_eq d.object object) h in
    (eqb-true d.side side two.0, eqb-true d.object object two.1)

-- of an object of which no entry speaks nothing is told
pub told-nothing : (all rest : List (deed.Entry PropertyKey Val)) (side object : ℕ)
    → ((place : ℕ) (d : deed.Entry PropertyKey Val) → slice_get rest place ≡ Some d → is_of side object d ≡ false)
    → told_from all side object rest ≡ []
told-nothing all [] side object h = refl
told-nothing all (d ∷ rest) side object h =
    ap (λ (b : Bool). (if b then told_by all d else []) ++ told_from all side object rest) (h zero d refl)
    ∙ told-nothing all rest side object (λ place e at. h (suc place) e at)
