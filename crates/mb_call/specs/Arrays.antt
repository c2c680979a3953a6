-- What IsArray answers.
use Rattle.std.specs.Prelude.{Bool, None, Option, Some, ℕ}
use Rattle.mb_model.specs.Writing.{Does, give, type_error}

-- yes or no, or a TypeError of the side that asked
abbrev pub answer_of : ℕ → Option Bool → Does Bool
answer_of s None = type_error s
answer_of s (Some b) = give b
