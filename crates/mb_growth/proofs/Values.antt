-- Keys and values that are the same are equal.
use Rattle.std.proofs.Common.{◌≡◌, ℕ, Bool, true, false, nat_eq, List, [], ◌∷◌, refl, ap, ◌∙◌}
use Rattle.std.specs.Prelude.{ℤ, pos, negsuc}
use Rattle.std.proofs.lemmas.Bool.{eqb-true, eq-eqb}
use Rattle.mb_desc.specs.Validate.{same_flag}
use Rattle.mb_world.specs.Value.{Val, Undefined, Null, Truth, Whole, Text, Symbol, Object, BuiltIn, same_units, same_whole, same_value}
use Rattle.mb_world.specs.Key.{PropertyKey, Named, SymbolKey, same_key}

pub units-sound : (a b : List ℕ) → same_units a b ≡ true → a ≡ b
units-sound [] [] h = refl
units-sound [] (y ∷ ys) h = absurd (let bad : false ≡ true = h in cc)
units-sound (x ∷ xs) [] h = absurd (let bad : false ≡ true = h in cc)
units-sound (x ∷ xs) (y ∷ ys) h = by (nat_eq x y) refl (units-sound xs ys)
  where
    by : (b : Bool) → nat_eq x y ≡ b → (same_units xs ys ≡ true → xs ≡ ys) → x ∷ xs ≡ y ∷ ys
    by true t rest = ap (λ z. z ∷ xs) (eqb-true x y t) ∙ ap (λ r. y ∷ r) (rest (rw t at h))
    by false t rest = absurd (let bad : false ≡ true = rw t at h in cc)

pub units-refl : (a : List ℕ) → same_units a a ≡ true
units-refl [] = refl
units-refl (x ∷ xs) = let t : nat_eq x x ≡ true = eq-eqb x x refl in rw t (units-refl xs)

pub key-sound : (x y : PropertyKey) → same_key x y ≡ true → x ≡ y
key-sound (Named a) (Named b) h = ap Named (units-sound a b h)
key-sound (SymbolKey a) (SymbolKey b) h = ap SymbolKey (eqb-true a b h)
key-sound (Named a) (SymbolKey b) h = absurd (let bad : false ≡ true = h in cc)
key-sound (SymbolKey a) (Named b) h = absurd (let bad : false ≡ true = h in cc)

pub key-refl : (x : PropertyKey) → same_key x x ≡ true
key-refl (Named a) = units-refl a
key-refl (SymbolKey a) = eq-eqb a a refl

truth-sound : (a b : Bool) → same_flag a b ≡ true → a ≡ b
truth-sound true true h = refl
truth-sound false false h = refl
truth-sound true false h = absurd (let bad : false ≡ true = h in cc)
truth-sound false true h = absurd (let bad : false ≡ true = h in cc)

whole-sound : (a b : ℤ) → same_whole a b ≡ true → a ≡ b
whole-sound (pos a) (pos b) h = ap pos (eqb-true a b h)
whole-sound (negsuc a) (negsuc b) h = ap negsuc (eqb-true a b h)
whole-sound (pos a) (negsuc b) h = absurd (let bad : false ≡ true = h in cc)
whole-sound (negsuc a) (pos b) h = absurd (let bad : false ≡ true = h in cc)

pub value-sound : (x y : Val) → same_value x y ≡ true → x ≡ y
value-sound Undefined Undefined h = refl
value-sound Null Null h = refl
value-sound (Truth a) (Truth b) h = ap Truth (truth-sound a b h)
value-sound (Whole a) (Whole b) h = ap Whole (whole-sound a b h)
value-sound (Text a) (Text b) h = ap Text (units-sound a b h)
value-sound (Symbol a) (Symbol b) h = ap Symbol (eqb-true a b h)
value-sound (Object a) (Object b) h = ap Object (eqb-true a b h)
value-sound (BuiltIn a) (BuiltIn b) h = ap BuiltIn (eqb-true a b h)
value-sound _ _ h = absurd (let bad : false ≡ true = h in cc)

pub value-refl : (x : Val) → same_value x x ≡ true
value-refl Undefined = refl
value-refl Null = refl
value-refl (Truth true) = refl
value-refl (Truth false) = refl
value-refl (Whole (pos a)) = eq-eqb a a refl
value-refl (Whole (negsuc a)) = eq-eqb a a refl
value-refl (Text a) = units-refl a
value-refl (Symbol a) = eq-eqb a a refl
value-refl (Object a) = eq-eqb a a refl
value-refl (BuiltIn a) = eq-eqb a a refl
