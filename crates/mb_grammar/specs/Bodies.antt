-- Bodies in braces, and where they begin.
use Rattle.std.specs.Prelude.{◌≡◌, ◌⊎◌, ◌<◌, [], ◌∷◌}
use Rattle.mb_tree.specs.Roses.{Rose, Roses}
use Rattle.mb_grammar.specs.declared.role.Role.TheVariants as r
use Rattle.mb_grammar.specs.declared.level.Level.{Level}
use Rattle.mb_grammar.specs.Tokens.{Tokens, Place, RoleAt}
use Rattle.mb_grammar.specs.Grammar.{Bodies, Statements}
use Rattle.mb_grammar.specs.Script.{Whole}

-- at most one list of statements stands here up to a closing brace
abbrev pub HasOneBody : Tokens → Place → Type 0
HasOneBody ts i = (a b : Roses) (j k : Place)
    → Statements ts a i j → RoleAt ts j r.CloseBrace
    → Statements ts b i k → RoleAt ts k r.CloseBrace
    → (a ≡ b) × (j ≡ k)

-- at most one expression stands here
abbrev pub HasOneExpression : Tokens → Level → Place → Type 0
HasOneExpression ts level i = (a b : Rose) (es gs : Bodies) (j k : Place)
    → Whole ts level a es i j → Whole ts level b gs i k
    → (a ≡ b) × (es ≡ gs) × (j ≡ k)

-- the places fall, each above low and below high: so each is there once, the last one first
abbrev pub AreFalling : Place → Place → Bodies → Type 0
AreFalling low high [] = Unit {0}
AreFalling low high (d ∷ ds) = (low < d) × (d < high) × AreFalling low d ds

-- statements stand here up to a closing brace
pub record BodyAt (ts : Tokens) (i : Place) : Type 0 where
  pub body : Roses
  pub end : Place
  pub stand : Statements ts body i end
  pub brace : RoleAt ts end r.CloseBrace

-- an expression stands here
pub record ExpressionAt (ts : Tokens) (level : Level) (i : Place) : Type 0 where
  pub tree : Rose
  pub bodies : Bodies
  pub end : Place
  pub whole : Whole ts level tree bodies i end

abbrev pub IsDecided : Type 0 → Type 0
IsDecided A = A ⊎ (A → ⊥)

-- the only statements that stand there up to a closing brace
pub record AreTheStatements (ts : Tokens) (body : Roses) (i j : Place) : Type 0 where
  pub stand : Statements ts body i j
  pub brace : RoleAt ts j r.CloseBrace
  pub only : (other : Roses) (k : Place) → Statements ts other i k → RoleAt ts k r.CloseBrace → (other ≡ body) × (k ≡ j)
