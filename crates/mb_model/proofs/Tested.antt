-- What passes the test of lawful entries is lawful.
use Rattle.std.specs.Prelude.{List, [], ◌∷◌, Bool, true, false, not, ◌&&◌, ◌||◌, ◌≡◌, refl, take, map}
use Rattle.std.specs.List.{AllByRecursion, list_all, list_any}
use Rattle.std.proofs.Common.{sym, true≢false}
use Rattle.mb_view.specs.Entries as deed
use Rattle.mb_view.specs.Entries.{contradicts, Told, IsConsistent}
use Rattle.mb_world.specs.Value.{Val, Undefined, same_value}
use Rattle.mb_world.specs.Key.{PropertyKey, same_key}
use Rattle.mb_model.specs.Trace.Lawful.{deed_of, is_consistent, TestTellsLawful}

and-both : (x y : Bool) → x && y ≡ true → (x ≡ true) × (y ≡ true)
and-both true y e = (refl, e)
and-both false y e = absurd (true≢false (sym e))

none-pass : {X : Type 0} (test : X → Bool) (xs : List X) → not (list_any test xs) ≡ true → AllByRecursion (λ x. test x ≡ false) xs
none-pass test [] e = tt
none-pass test (x ∷ xs) e = by (test x) refl (none-pass test xs) e where
  by : (b : Bool) → test x ≡ b → (not (list_any test xs) ≡ true → AllByRecursion (λ x. test x ≡ false) xs)
      → not (b || list_any test xs) ≡ true → AllByRecursion (λ x. test x ≡ false) (x ∷ xs)
  by true t rest e = absurd (true≢false (sym e))
  by false t rest e = (t, rest e)

all-consistent : (all es : List (deed.Entry PropertyKey Val)) → list_all (is_consistent all) es ≡ true
    → AllByRecursion (IsConsistent same_key same_value Undefined all) es
all-consistent all [] e = tt
all-consistent all (x ∷ xs) e =
    let both = and-both (is_consistent all x) (list_all (is_consistent all) xs) e in (
      none-pass (λ fact. contradicts same_key same_value Undefined fact x.deed) (Told (take x.began all) x.side x.object) both.0,
      all-consistent all xs both.1,
    )

pub test-tells-lawful : TestTellsLawful
test-tells-lawful es e = all-consistent (map deed_of es) (map deed_of es) e
