-- What writes one after the other append.
use Rattle.std.proofs.Common.{◌≡◌, ℕ, ◌+◌, ◌-◌, ◌++◌, List, Option, Some, None, length, take, drop, append_assoc, arith, sym, ap, ◌∙◌}
use Rattle.std.specs.Io.KnownBytes.{Appends}
use Rattle.std.proofs.Math.Seq.{take-add}
use Rattle.std.proofs.lemmas.Grind.{common_steps}

-- the slice of a list from a place to its end
pub range_from : (xs : List ℕ) (at : ℕ) → take (length xs - at) (drop at xs) ≡ drop at xs
range_from xs at = grind (arith, common_steps)

-- a prefix of the bytes, and then a prefix of what is behind it
pub Appends-more : (first second third : Option (List ℕ)) (bytes : List ℕ) (n m : ℕ)
    → Appends first second (take n bytes) → Appends second third (take m (drop n bytes)) → Appends first third (take (n + m) bytes)
Appends-more None second third bytes n m before more = tt
Appends-more (Some xs) None third bytes n m before more = absurd before
Appends-more (Some xs) (Some ys) None bytes n m before more = absurd more
Appends-more (Some xs) (Some ys) (Some zs) bytes n m before more =
    more ∙ ap (λ v. v ++ take m (drop n bytes)) before ∙ append_assoc xs (take n bytes) (take m (drop n bytes)) ∙ ap (λ v. xs ++ v) (sym (take-add n m bytes))
