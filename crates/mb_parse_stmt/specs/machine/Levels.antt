-- What a parser of scripts has read, with bodies within expressions within bodies.
use Rattle.std.specs.Prelude.{◌≡◌, ℕ, ◌≤◌, List, [], ◌∷◌}
use Rattle.mb_token.specs.declared.token.Spanned.{Spanned}
use Rattle.mb_tree.specs.machine.Stack.{laid}
use Rattle.mb_tree.specs.Roses.{Rose, Roses, Shape}
use Rattle.mb_grammar.specs.declared.role.Role.TheVariants as r
use Rattle.mb_grammar.specs.declared.level.Level.{Level}
use Rattle.mb_parse_expr.specs.declared.parser.ExprParser.{ExprParser}
use Rattle.mb_grammar.specs.Tokens.{RoleAt}
use Rattle.mb_grammar.specs.Grammar.{Statements}
use Rattle.mb_grammar.specs.Script.{Whole, IsScript}
use Rattle.mb_parse_expr.specs.Pauses as expr
use Rattle.mb_parse_expr.specs.Pauses.{next_place, IsWaiting}
use Rattle.mb_parse_stmt.specs.declared.machine.Stop.{Stop}
use Rattle.mb_parse_stmt.specs.declared.machine.Stop.TheVariants as st
use Rattle.mb_parse_stmt.specs.declared.statements.StatementParser.{StatementParser}
use Rattle.mb_parse_stmt.specs.declared.parser.Outer.{Outer}
use Rattle.mb_parse_stmt.specs.declared.parser.Next.{Next}
use Rattle.mb_parse_stmt.specs.declared.parser.Next.TheVariants as next
use Rattle.mb_parse_stmt.specs.machine.Stops.{IsUnderWay, IsWanting, AreAll}

-- no expression stands from i where no statements stand from at up to a closing brace
abbrev pub Needs : List Spanned → Level → ℕ → ℕ → Type 0
Needs ts level i at =
    ((body : Roses) (j : ℕ) → Statements ts body at j → RoleAt ts j r.CloseBrace → ⊥) → (a : Rose) (es : List ℕ) (j : ℕ) → Whole ts level a es i j → ⊥

-- the levels that wait, the innermost first, up to that which stops so, and began here with these nodes
pub data Stacked (ts : List Spanned) : List Outer → Stop → ℕ → List Shape → Type 0 where
  outermost : Stacked ts [] st.End 0 []
  inside : {outer : Outer} {os : List Outer} {level : Level} {start at : ℕ} {base out shapes : List Shape} {ds : List ℕ} → Stacked ts os outer.statements.stop start base → IsWanting ts start base level outer.statements out → IsWaiting ts level outer.statements.at out ds outer.parser shapes → Needs ts level outer.statements.at at → at ≡ next_place outer.parser → Stacked ts (outer ∷ os) st.Brace at shapes

-- the innermost level is to be read on
pub record AtLevel (ts : List Spanned) (outers : List Outer) (p : StatementParser) (shapes : List Shape) : Type 0 where
  pub os : List Outer
  pub outers_are : outers ≡ laid os
  pub start : ℕ
  pub base : List Shape
  pub stacked : Stacked ts os p.stop start base
  pub reading : IsUnderWay ts start base p shapes

-- an expression of the innermost level is to be read on
pub record InExpression (ts : List Spanned) (outers : List Outer) (p : StatementParser) (q : ExprParser) (shapes : List Shape) : Type 0 where
  pub os : List Outer
  pub outers_are : outers ≡ laid os
  pub start : ℕ
  pub base : List Shape
  pub stacked : Stacked ts os p.stop start base
  pub level : Level
  pub out : List Shape
  pub wanting : IsWanting ts start base level p out
  pub ds : List ℕ
  pub reading : expr.IsReading ts level p.at out ds q shapes

abbrev pub NoScript : List Spanned → Type 0
NoScript ts = (script : Rose) → IsScript ts script → ⊥

abbrev pub Nexts : List Spanned → List Outer → StatementParser → List Shape → Next → Type 0
Nexts ts outers p shapes (next.Parser q) = InExpression ts outers p q shapes
Nexts ts outers p shapes next.Script = AreAll st.End ts 0 [] p.at p.operands.items shapes
Nexts ts outers p shapes next.Shape = NoScript ts

-- the parser that is to run is from this place on
abbrev pub IsFrom : ℕ → ℕ → Next → Type 0
IsFrom at length (next.Parser q) = (at ≤ next_place q) × (next_place q ≤ length)
IsFrom at length _ = Unit {0}
