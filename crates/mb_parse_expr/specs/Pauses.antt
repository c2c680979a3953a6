-- What a parser answers when it pauses.
use Rattle.std.specs.Prelude.{◌≡◌, ◌<◌, ◌≤◌, ◌++◌, List, [], ◌∷◌}
use Rattle.mb_base.specs.declared.value.NodeId.{NodeId}
use Rattle.mb_tree.specs.Roses.{Rose, Roses, Shape, id_of, write, root}
use Rattle.mb_grammar.specs.declared.role.Role.TheVariants as r
use Rattle.mb_grammar.specs.declared.level.Level.{Level}
use Rattle.mb_parse_expr.specs.declared.parser.Paused.{Paused}
use Rattle.mb_parse_expr.specs.declared.parser.Paused.TheVariants as pause
use Rattle.mb_parse_expr.specs.declared.parser.ExprParser.{ExprParser}
use Rattle.mb_grammar.specs.Tokens.{Tokens, Place, RoleAt}
use Rattle.mb_grammar.specs.Grammar.{Bodies, Statements}
use Rattle.mb_grammar.specs.Script.{Whole}
use Rattle.mb_parse_expr.specs.machine.Progress.{Reading, Waiting}

-- the place of the token that the parser reads next
abbrev pub next_place : ExprParser → Place
next_place p = p.at

-- A parser that is to run, and one that waits for statements; ds are the bodies that it has named, the last first.
-- Nobody has to believe what these two say: `begin` gives the first, and each `run` asks for it and gives the second,
-- for `resume`.
abbrev pub IsReading : Tokens → Level → Place → List Shape → Bodies → ExprParser → List Shape → Type 0
IsReading ts level start base ds p shapes =
    Reading ts level start base ds p.frames.items p.mode p.at (p.operands.items ++ p.statements.items) shapes

abbrev pub IsWaiting : Tokens → Level → Place → List Shape → Bodies → ExprParser → List Shape → Type 0
IsWaiting ts level start base ds p shapes =
    Waiting ts level start base ds p.frames.items p.at p.operands.items shapes × (p.statements.items ≡ [])

-- this tree, written behind old, with these bodies; and no other stands
pub record IsTree (ts : Tokens) (level : Level) (i : Place) (es : Bodies) (old new : List Shape)
    (next : Place) (at : NodeId) : Type 0 where
  pub tree : Rose
  pub whole : Whole ts level tree es i next
  pub written_is : new ≡ write old tree
  pub place : at ≡ id_of (root old tree)
  pub only : (other : Rose) (gs : Bodies) (j : Place) → Whole ts level other gs i j
      → (other ≡ tree) × (gs ≡ es) × (j ≡ next)

-- the one tree that stands there; a body that is named for the first time; or no tree
abbrev pub Tells : Tokens → Level → Place → List Shape → Bodies → ExprParser → List Shape → Paused → Type 0
Tells ts level i base ds p new (pause.Ended next at) = IsTree ts level i ds base new next at
Tells ts level i base ds p new (pause.Body at) = IsWaiting ts level i base (at ∷ ds) p new × (next_place p ≡ at)
Tells ts level i base ds p new pause.Wrong = (a : Rose) (es : Bodies) (j : Place) → Whole ts level a es i j → ⊥

-- where no statements stand at the body's place up to a closing brace, no expression stands
abbrev pub NeedsItsBody : Tokens → Level → Place → Paused → Type 0
NeedsItsBody ts level i (pause.Body at) =
    ((body : Roses) (j : Place) → Statements ts body at j → RoleAt ts j r.CloseBrace → ⊥)
    → (a : Rose) (es : Bodies) (j : Place) → Whole ts level a es i j → ⊥
NeedsItsBody ts level i _ = Unit {0}

-- how far a parser goes
abbrev pub Moves : Place → Place → Paused → Type 0
Moves old new (pause.Ended next at) = (old ≤ next) × (next ≡ new)
Moves old new (pause.Body at) = old < new
Moves old new pause.Wrong = Unit {0}
