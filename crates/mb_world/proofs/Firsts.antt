-- What is noted first for a key stays.
use Rattle.std.proofs.Common.{◌≡◌, ℕ, ◌≤◌, ◌+◌, List, [], ◌∷◌, ◌++◌, length, Option, Some, None, Bool, true, false, cond, nat_lt, eqb, arith, length-append, refl, sym, ◌∙◌, ap, option_map, is_some, true≢false}
use Rattle.std.specs.Prelude.{position}
use Rattle.std.specs.List.{position_or_len}
use Rattle.std.specs.Map.{lookup}
use Rattle.std.proofs.lemmas.Bool.{eqb-true}
use Rattle.std.proofs.lemmas.Bool.Decides.{nat_tests}
use Rattle.std.proofs.lemmas.List.Folds.{position_or_len_push}
use Rattle.std.proofs.lemmas.List.Sums.{prefix_len-le-length}
use Rattle.mb_world.specs.machine.Firsts.{or_if}

or_if-there : {A : Type 0} (b : Bool) (x : A) (o : Option A) → is_some o ≡ true → o ≡ or_if b x o
or_if-there b x (Some y) h = refl
or_if-there b x None h = absurd (true≢false (sym h))

pub none-of : {A : Type 0} (o : Option A) → is_some o ≡ false → o ≡ None
none-of None h = refl
none-of (Some x) h = absurd (true≢false h)

pub or_if-false : {A : Type 0} (x : A) (o : Option A) → or_if false x o ≡ o
or_if-false x (Some y) = refl
or_if-false x None = refl

pub or_if-map : {A B : Type 0} (f : A → B) (b : Bool) (x : A) (o : Option A) → option_map f (or_if b x o) ≡ or_if b (f x) (option_map f o)
or_if-map f b x (Some y) = refl
or_if-map f true x None = refl
or_if-map f false x None = refl

module _ {K X : Type 0} (same : K → K → Bool) (equal : (a b : K) → same a b ≡ true → a ≡ b) (itself : (a : K) → same a a ≡ true) where
  -- the key is there: it stays as it is
  pub note-there : (m : List (K × X)) (k : K) (x : X) → is_some (lookup (same k) m) ≡ true → (q : K) → lookup (same q) m ≡ or_if (same q k) x (lookup (same q) m)
  note-there m k x h q = by (same q k) refl
    where
      by : (b : Bool) → same q k ≡ b → lookup (same q) m ≡ or_if b x (lookup (same q) m)
      by true e = or_if-there true x (lookup (same q) m) (ap (λ z. is_some (lookup (same z) m)) (equal q k e) ∙ h)
      by false e = sym (or_if-false x (lookup (same q) m))

  -- the key is new
  pub note-new : (old new : List (K × X)) (k : K) (x : X) → lookup (same k) old ≡ None → ((q : K) → lookup (same q) new ≡ cond (same k q) (Some x) (lookup (same q) old)) → (q : K) → lookup (same q) new ≡ or_if (same q k) x (lookup (same q) old)
  note-new old new k x none at q = by (same k q) refl (same q k) refl
    where
      by : (b : Bool) → same k q ≡ b → (c : Bool) → same q k ≡ c → lookup (same q) new ≡ or_if c x (lookup (same q) old)
      by true e c f =
          let p : k ≡ q = equal k q e in
          let n : lookup (same q) old ≡ None = ap (λ z. lookup (same z) old) (sym p) ∙ none in
          let t : c ≡ true = sym f ∙ ap (same q) p ∙ itself q in
          rw (at q, e, n, t) refl
      by false e true f =
          let p : q ≡ k = equal q k f in
          absurd (true≢false (sym (itself k) ∙ ap (same k) (sym p) ∙ e))
      by false e false f = rw (at q, e) (sym (or_if-false x (lookup (same q) old)))

found : (a n : ℕ) (p : Bool) → a ≤ n → cond (nat_lt (cond (eqb a n) (n + cond p 0 1) a) (n + 1)) (Some (cond (eqb a n) (n + cond p 0 1) a)) None ≡ or_if p n (cond (nat_lt a n) (Some a) None)
found a n p l = by (eqb a n) refl p
  where
    by : (b : Bool) → eqb a n ≡ b → (p : Bool) → cond (nat_lt (cond b (n + cond p 0 1) a) (n + 1)) (Some (cond b (n + cond p 0 1) a)) None ≡ or_if p n (cond (nat_lt a n) (Some a) None)
    by true e true =
        let q : a ≡ n = eqb-true a n e in
        let x : nat_lt (n + 0) (n + 1) ≡ true = grind (arith, nat_tests) in
        let y : nat_lt a n ≡ false = grind (arith, nat_tests) in
        let z : n + 0 ≡ n = omega arith in
        rw (x, y, z) refl
    by true e false =
        let q : a ≡ n = eqb-true a n e in
        let x : nat_lt (n + 1) (n + 1) ≡ false = grind (arith, nat_tests) in
        let y : nat_lt a n ≡ false = grind (arith, nat_tests) in
        rw (x, y) refl
    by false e p =
        let x : nat_lt a (n + 1) ≡ true = grind (arith, nat_tests) in
        let y : nat_lt a n ≡ true = grind (arith, nat_tests) in
        rw (x, y) refl

-- the first place that passes, once one more stands last
pub position-push : {A : Type 0} (p : A → Bool) (xs : List A) (x : A) → position p (xs ++ x ∷ []) ≡ or_if (p x) (length xs) (position p xs)
position-push p xs x =
    let n : length (xs ++ x ∷ []) ≡ length xs + 1 = omega (arith, length-append xs (x ∷ [])) in
    rw (position_or_len_push p xs x, n) (found (position_or_len p xs) (length xs) (p x) (prefix_len-le-length _ xs))
