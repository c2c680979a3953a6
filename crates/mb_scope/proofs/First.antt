-- What is first of what holds.
use Rattle.std.proofs.Common.{◌≡◌, ℕ, ◌<◌, ◌≤◌, Bool, true, false, refl, arith, ⊎_elim}
use Rattle.std.specs.Prelude.{Option, Some, None, nat_lt, if◌then◌else◌, ◌⊎◌}
use Rattle.std.proofs.lemmas.Bool.{ltb-true, ltb-false}
use Rattle.mb_scope.specs.machine.First.{IsFirst, sooner}

module _ {X : Type 0} (place : X → ℕ) where
  pub first_along : (P R : X → Type 0) (a : Option X) → ((x : X) → P x → R x) → ((x : X) → R x → P x) → IsFirst place P a → IsFirst place R a
  first_along P R None pr rp p = λ x r. p x (rp x r)
  first_along P R (Some x) pr rp p = (pr x p.0, λ other r. p.1 other (rp other r))

  -- of what holds on either side
  pub first_or : (P Q R : X → Type 0) (a b : Option X) → ((x : X) → P x → R x) → ((x : X) → Q x → R x) → ((x : X) → R x → P x ⊎ Q x) → IsFirst place P a → IsFirst place Q b → IsFirst place R (sooner place a b)
  first_or P Q R None None pr qr cases p q = λ x r. ⊎_elim (p x) (q x) (cases x r)
  first_or P Q R None (Some y) pr qr cases p q = (qr y q.0, λ x r. ⊎_elim (λ h. absurd (p x h)) (q.1 x) (cases x r))
  first_or P Q R (Some x) None pr qr cases p q = (pr x p.0, λ z r. ⊎_elim (p.1 z) (λ h. absurd (q z h)) (cases z r))
  first_or P Q R (Some x) (Some y) pr qr cases p q = pick (nat_lt (place y) (place x)) refl
    where
      pick : (b : Bool) → nat_lt (place y) (place x) ≡ b → IsFirst place R (Some (if b then y else x))
      pick true e =
          let lt : place y < place x = ltb-true (place y) (place x) e in
          (qr y q.0, λ z r. ⊎_elim (λ h. let l : place x ≤ place z = p.1 z h in let g : place y ≤ place z = omega arith in g) (q.1 z) (cases z r))
      pick false e =
          let ge : place x ≤ place y = ltb-false (place y) (place x) e in
          (pr x p.0, λ z r. ⊎_elim (p.1 z) (λ h. let l : place y ≤ place z = q.1 z h in let g : place x ≤ place z = omega arith in g) (cases z r))
