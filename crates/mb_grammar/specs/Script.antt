-- What a script is, and what an expression is that stands at a place.
use Rattle.std.specs.Prelude.{◌≡◌, ◌≤◌, List, [], length}
use Rattle.mb_tree.specs.declared.kind.Kind.TheVariants as k
use Rattle.mb_tree.specs.Roses.{Rose, Roses, node, bare, Shape, write}
use Rattle.mb_tree.specs.Heights.{height_of}
use Rattle.mb_grammar.specs.declared.role.Role.{Role}
use Rattle.mb_grammar.specs.declared.role.Role.TheVariants as r
use Rattle.mb_grammar.specs.declared.level.Level.{Level}
use Rattle.mb_grammar.specs.declared.level.Level.TheVariants as lv
use Rattle.mb_grammar.specs.Tokens.{Tokens, Place, role_at}
use Rattle.mb_grammar.specs.Nonterminals as nt
use Rattle.mb_grammar.specs.Nonterminals.{Nonterminal}
use Rattle.mb_grammar.specs.Grammar.{Bodies, Stands, Statements}

abbrev pub script_of : Roses → Rose
script_of parts = node (bare k.Script) parts

-- the tree of all tokens (ECMA-262, 16.1)
pub record IsScript (ts : Tokens) (script : Rose) : Type 0 where
  pub parts : Roses
  pub stand : Statements ts parts 0 (length ts)
  pub whole : script ≡ script_of parts

-- the nodes of a script's tree
pub record IsTreeOfGrammar (shapes : List Shape) : Type 0 where
  pub tokens : Tokens
  pub script : Rose
  pub is : IsScript tokens script
  pub nodes_are : shapes ≡ write [] script

-- the nodes of a script's tree that is at most 256 nodes high
pub record IsLowTreeOfGrammar (shapes : List Shape) : Type 0 where
  pub tokens : Tokens
  pub script : Rose
  pub is : IsScript tokens script
  pub nodes_are : shapes ≡ write [] script
  pub low : height_of script ≤ 256

-- the token behind a whole expression of this level
abbrev pub IsEnd : Level → Role → Type 0
IsEnd level r.Semicolon = Unit {0}
IsEnd lv.Expr r.Close = Unit {0}
IsEnd lv.Assign r.Comma = Unit {0}
IsEnd _ _ = ⊥

abbrev pub least_of : Level → Nonterminal
least_of lv.Expr = nt.Expr
least_of lv.Assign = nt.Assign

-- an expression stands from one place up to the other, behind which it may end; its bodies begin at es, the last first
pub record Whole (ts : Tokens) (level : Level) (a : Rose) (es : Bodies) (i j : Place) : Type 0 where
  pub stands : Stands ts (least_of level) a [] es i j
  pub end : IsEnd level (role_at ts j)
