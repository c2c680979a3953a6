-- The nonterminals of expressions, as numbers: what is of one up to Left is of each lower one too (ECMA-262, 13). The
-- numbers between have no forms of their own; parsers use them as strengths of tokens.
use Rattle.std.specs.Prelude.{ℕ}
use Rattle.mb_tree.specs.declared.kind.Sign.{Sign}
use Rattle.mb_tree.specs.declared.kind.Sign.TheVariants as s

abbrev pub Nonterminal : Type 0
Nonterminal = ℕ

-- Expression (13.16)
abbrev pub Expr : Nonterminal
Expr = 1

-- AssignmentExpression (13.15)
abbrev pub Assign : Nonterminal
Assign = 3

-- ConditionalExpression (13.14)
abbrev pub Cond : Nonterminal
Cond = 4

-- LogicalORExpression (13.13)
abbrev pub Or : Nonterminal
Or = 6

-- LogicalANDExpression (13.13)
abbrev pub And : Nonterminal
And = 8

-- EqualityExpression (13.11)
abbrev pub Equal : Nonterminal
Equal = 10

-- RelationalExpression (13.10)
abbrev pub Relate : Nonterminal
Relate = 11

-- AdditiveExpression (13.8)
abbrev pub Add : Nonterminal
Add = 12

-- MultiplicativeExpression (13.7)
abbrev pub Multiply : Nonterminal
Multiply = 13

-- UnaryExpression and UpdateExpression (13.5, 13.4)
abbrev pub Unary : Nonterminal
Unary = 14

-- LeftHandSideExpression (13.3)
abbrev pub Left : Nonterminal
Left = 15

-- NewExpression (13.3)
abbrev pub New : Nonterminal
New = 16

-- CallExpression (13.3)
abbrev pub Call : Nonterminal
Call = 17

-- MemberExpression (13.3)
abbrev pub Member : Nonterminal
Member = 18

-- that of an operator of two operands
abbrev pub level_of : Sign → Nonterminal
level_of s.TripleEqual = Equal
level_of s.NotDoubleEqual = Equal
level_of s.Less = Relate
level_of s.Greater = Relate
level_of s.LessEqual = Relate
level_of s.GreaterEqual = Relate
level_of s.In = Relate
level_of s.Instanceof = Relate
level_of s.Plus = Add
level_of s.Minus = Add
level_of _ = Multiply
