-- Stacks.
use Rattle.std.proofs.Common.{◌≡◌, ℕ, ◌-◌, ◌+◌, ◌≤◌, List, [], ◌∷◌, ◌++◌, length, take, ap, ◌∙◌, arith, length-append, length-take}
use Rattle.std.proofs.Math.Seq.{take-append_seam}
use Rattle.mb_tree.specs.machine.Stack.{below, laid}

pub shorter : {F : Type 0} (frames frames' : List F) (k : ℕ) → 1 ≤ length frames → k ≡ length frames → frames' ≡ take (k - 1) frames → length frames' + 1 ≡ length frames
shorter frames frames' k h ke fe = omega (arith, ap length fe, length-take (k - 1) frames)

-- what lies on top is taken off
pub popped : {F : Type 0} (fs frames frames' : List F) (k : ℕ) → frames ≡ laid fs → k ≡ length frames → frames' ≡ take (k - 1) frames → frames' ≡ laid (below fs)
popped [] frames frames' k e ke fe =
    let z : k - 1 ≡ 0 = omega (arith, ap length e) in
    fe ∙ ap (λ x. take x frames) z
popped (f' ∷ fs) frames frames' k e ke fe =
    let len : k - 1 ≡ length (laid fs) = omega (arith, ap length e, length-append (laid fs) (f' ∷ [])) in
    fe ∙ ap (λ x. take (k - 1) x) e ∙ ap (λ x. take x (laid fs ++ f' ∷ [])) len ∙ take-append_seam (laid fs) (f' ∷ [])
