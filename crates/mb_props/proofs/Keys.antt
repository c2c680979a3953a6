-- The `==` of a key is the test of the definitions, and an equivalence.
use Rattle.std.proofs.Common.{◌≡◌, Bool, true, false, ◌&&◌, nat_eq, refl, sym, ap, subst, true≢false}
use Rattle.std.specs.Cmp.{IsEquivalence, both_ways}
use Rattle.std.proofs.lemmas.Bool.{eqb-true, eq-eqb}
use Rattle.mb_base.specs.declared.value.Key.{Key}
use Rattle.mb_base.specs.declared.value.Key.TheVariants.{Text, Symbol}
use Rattle.mb_base.specs.contracts.value.KeyPartialEq.TheImpl
use Rattle.mb_props.specs.Table.{same_key}

abbrev pub derived : Key → Key → Bool
derived = (TheImpl.eq-value).it

derived_is : (a b : Key) → derived a b ≡ same_key a b
derived_is (Text a i) (Text b j) = refl
derived_is (Text a i) (Symbol b) = refl
derived_is (Symbol a) (Text b j) = refl
derived_is (Symbol a) (Symbol b) = refl

pub same : derived ≡ same_key
same = λ i a b. derived_is a b i

both : (a b : Bool) → a && b ≡ true → (a ≡ true) × (b ≡ true)
both true true h = (refl, refl)
both true false h = absurd (true≢false (sym h))
both false b h = absurd (true≢false (sym h))

one_key : (a b : Key) → same_key a b ≡ true → a ≡ b
one_key (Text a i) (Text b j) h =
    let parts = both (nat_eq a.0 b.0) (nat_eq i j) h in
    let text : a.0 ≡ b.0 = eqb-true a.0 b.0 parts.0 in
    let index : i ≡ j = eqb-true i j parts.1 in
    λ k. Text (record { 0 = text k }) (index k)
one_key (Text a i) (Symbol b) h = absurd (true≢false (sym h))
one_key (Symbol a) (Text b j) h = absurd (true≢false (sym h))
one_key (Symbol a) (Symbol b) h =
    let symbol : a.0 ≡ b.0 = eqb-true a.0 b.0 h in
    λ k. Symbol (record { 0 = symbol k })

own_key : (a : Key) → same_key a a ≡ true
own_key (Text a i) = rw (eq-eqb a.0 a.0 refl, eq-eqb i i refl) refl
own_key (Symbol a) = eq-eqb a.0 a.0 refl

swapped : (a b : Key) → same_key a b ≡ true → same_key b a ≡ true
swapped a b h = subst (λ key. same_key key a ≡ true) (one_key a b h) (own_key a)

pub laws : IsEquivalence same_key
laws = record {
  refl = own_key;
  symm = λ a b. both_ways (same_key a b) (same_key b a) (swapped a b) (swapped b a);
  congr = λ a b c h. ap (λ key. same_key key c) (one_key a b h);
}
