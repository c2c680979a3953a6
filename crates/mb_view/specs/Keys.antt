-- The keys of a world: their sorts, the numbers of array indices, and that equal keys are the same key.
use Rattle.std.specs.Prelude.{◌≡◌, ◌&&◌, ◌==◌, ◌-◌, ◌^◌, Bool, true, false, refl, if◌then◌else◌}
use Rattle.std.proofs.Common.{ap, sym, ◌∙◌, true≢false}
use Rattle.std.proofs.lemmas.Bool.{eqb-true}
use Rattle.mb_base.specs.declared.value.Key.{Key}
use Rattle.mb_base.specs.declared.value.Key.TheVariants.{Text, Symbol}
use Rattle.mb_base.specs.declared.value.StrId.{StrId}
use Rattle.mb_base.specs.declared.value.SymId.{SymId}
use Rattle.mb_base.specs.contracts.value.KeyPartialEq.TheImpl
use Rattle.mb_view.specs.Views.{Sort}
use Rattle.mb_view.specs.Views as sort

-- the derived `==`
abbrev pub equal : Key → Key → Bool
equal = (TheImpl.eq-value).it

-- a text is of the sort of array indices where it spells one
abbrev pub sort_of_key : Key → Sort
sort_of_key (Text text index) = if index == 2 ^ 32 - 1 then sort.Text else sort.Index
sort_of_key (Symbol symbol) = sort.Symbol

both : (a b : Bool) → a && b ≡ true → (a ≡ true) × (b ≡ true)
both true true h = (refl, refl)
both true false h = absurd (true≢false (sym h))
both false b h = absurd (true≢false (sym h))

pub same_key : (x y : Key) → equal x y ≡ true → x ≡ y
same_key (Text text index) (Text text' index') h =
    let k = both (text.0 == text'.0) (index == index') h in
    let t : text.0 ≡ text'.0 = eqb-true text.0 text'.0 k.0 in
    let i : index ≡ index' = eqb-true index index' k.1 in
    ap (λ n. let id : StrId = record { 0 = n } in Text id index) t
    ∙ ap (λ n. Text text' n) i
same_key (Text text index) (Symbol symbol) h = absurd (true≢false (sym h))
same_key (Symbol symbol) (Text text index) h = absurd (true≢false (sym h))
same_key (Symbol symbol) (Symbol symbol') h =
    ap (λ n. let id : SymId = record { 0 = n } in Symbol id) (eqb-true symbol.0 symbol'.0 h)
