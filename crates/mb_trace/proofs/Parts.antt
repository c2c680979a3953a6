-- The parts of a line, one behind the other.
use Rattle.std.proofs.Common.{◌≡◌, ℕ, List, [], ◌∷◌, ◌++◌, refl, ap, ◌∙◌, append_assoc}

pub headed : (o o1 o2 o3 o4 o5 o6 o7 o8 n m p : List ℕ) (l : ℕ)
    → o1 ≡ o ++ 84 ∷ 32 ∷ [] → o2 ≡ o1 ++ n → o3 ≡ o2 ++ 32 ∷ [] → o4 ≡ o3 ++ l ∷ []
    → o5 ≡ o4 ++ 32 ∷ 35 ∷ [] → o6 ≡ o5 ++ m → o7 ≡ o6 ++ 32 ∷ [] → o8 ≡ o7 ++ p
    → o8 ≡ o ++ 84 ∷ 32 ∷ (n ++ 32 ∷ l ∷ 32 ∷ 35 ∷ (m ++ 32 ∷ p))
headed o o1 o2 o3 o4 o5 o6 o7 o8 n m p l e1 e2 e3 e4 e5 e6 e7 e8 =
    let flat : (((((((o ++ 84 ∷ 32 ∷ []) ++ n) ++ 32 ∷ []) ++ l ∷ []) ++ 32 ∷ 35 ∷ []) ++ m) ++ 32 ∷ []) ++ p
    ≡ o ++ 84 ∷ 32 ∷ (n ++ 32 ∷ l ∷ 32 ∷ 35 ∷ (m ++ 32 ∷ p)) = simp append_assoc refl in
    e8 ∙ ap (λ x. x ++ p) (e7 ∙ ap (λ x. x ++ 32 ∷ []) (e6 ∙ ap (λ x. x ++ m) (e5 ∙ ap (λ x. x ++ 32 ∷ 35 ∷ [])
    (e4 ∙ ap (λ x. x ++ l ∷ []) (e3 ∙ ap (λ x. x ++ 32 ∷ []) (e2 ∙ ap (λ x. x ++ n) e1)))))) ∙ flat

pub lined : (o o1 o2 o3 o4 o5 o6 o7 n m p k g a : List ℕ) (l : ℕ)
    → o ≡ [] → o1 ≡ o ++ 84 ∷ 32 ∷ (n ++ 32 ∷ l ∷ 32 ∷ 35 ∷ (m ++ 32 ∷ p)) → o2 ≡ o1 ++ 32 ∷ [] → o3 ≡ o2 ++ k
    → o4 ≡ o3 ++ 32 ∷ [] → o5 ≡ o4 ++ g → o6 ≡ o5 ++ 32 ∷ [] → o7 ≡ o6 ++ a
    → o7 ≡ 84 ∷ 32 ∷ (n ++ 32 ∷ l ∷ 32 ∷ 35 ∷ (m ++ 32 ∷ (p ++ 32 ∷ (k ++ 32 ∷ (g ++ 32 ∷ a)))))
lined o o1 o2 o3 o4 o5 o6 o7 n m p k g a l e e1 e2 e3 e4 e5 e6 e7 =
    let h : List ℕ = 84 ∷ 32 ∷ (n ++ 32 ∷ l ∷ 32 ∷ 35 ∷ (m ++ 32 ∷ p)) in
    let r : List ℕ = 32 ∷ (k ++ 32 ∷ (g ++ 32 ∷ a)) in
    let to_key : o3 ≡ h ++ 32 ∷ k =
    e3 ∙ ap (λ x. x ++ k) (e2 ∙ ap (λ x. x ++ 32 ∷ []) (e1 ∙ ap (λ x. x ++ h) e)) ∙ append_assoc h (32 ∷ []) k in
    let to_given : o5 ≡ h ++ 32 ∷ (k ++ 32 ∷ g) =
    e5 ∙ ap (λ x. x ++ g) (e4 ∙ ap (λ x. x ++ 32 ∷ []) to_key) ∙ append_assoc (h ++ 32 ∷ k) (32 ∷ []) g
    ∙ append_assoc h (32 ∷ k) (32 ∷ g) in
    let to_answer : o7 ≡ h ++ r =
    e7 ∙ ap (λ x. x ++ a) (e6 ∙ ap (λ x. x ++ 32 ∷ []) to_given) ∙ append_assoc (h ++ 32 ∷ (k ++ 32 ∷ g)) (32 ∷ []) a
    ∙ append_assoc h (32 ∷ (k ++ 32 ∷ g)) (32 ∷ a) ∙ ap (λ x. h ++ 32 ∷ x) (append_assoc k (32 ∷ g) (32 ∷ a)) in
    to_answer ∙ ap (λ x. 84 ∷ 32 ∷ x) (append_assoc n (32 ∷ l ∷ 32 ∷ 35 ∷ (m ++ 32 ∷ p)) r
    ∙ ap (λ x. n ++ 32 ∷ l ∷ 32 ∷ 35 ∷ x) (append_assoc m (32 ∷ p) r))
