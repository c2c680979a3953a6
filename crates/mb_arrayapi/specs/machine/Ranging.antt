-- Where a slice begins and ends.
use Rattle.std.specs.Prelude.{ℕ, ◌≡◌}
use Rattle.mb_base.specs.declared.value.Value.{Value}
use Rattle.mb_model.specs.BuiltIns.ArrayMembers.{index_arg}
use Rattle.mb_model.specs.Writing.{◌>>=◌, Does, type_error}
use Rattle.mb_model.specs.Task.{Answer}
use Rattle.mb_world.specs.Data.{Data}
use Rattle.mb_world.specs.Image.{Resolve, names_of}

-- the two index arguments, and what follows them
abbrev pub ranged : Data → ℕ → ℕ → (from to : Value) → (ℕ → ℕ → Does Answer) → Does Answer
ranged d s length from to p =
    index_arg s 0 length (Resolve (names_of d) from)
    >>= (λ k. index_arg s length length (Resolve (names_of d) to) >>= p k)

abbrev pub IsRange : ℕ → (from to : Value) → ℕ × ℕ → Type 0
IsRange length from to range = (d : Data) (s : ℕ) (p : ℕ → ℕ → Does Answer) →
    ranged d s length from to p ≡ p range.0 range.1

abbrev pub IsNoRange : ℕ → (from to : Value) → Type 0
IsNoRange length from to = (d : Data) (s : ℕ) (p : ℕ → ℕ → Does Answer) →
    ranged d s length from to p ≡ type_error s
