-- A world between turns.
use Rattle.std.specs.Prelude.{All, Bool, List, Some, [], length, map, true, ◌<◌, ◌≡◌, ◌≤◌, ℕ}
use Rattle.mb_base.specs.declared.value.ScopeId.{ScopeId}
use Rattle.mb_base.specs.declared.value.Side.{Side}
use Rattle.mb_frames.specs.Grammatical.{IsProgram}
use Rattle.mb_frames.specs.Ready.{HasItsConstant, IsReady}
use Rattle.mb_frames.specs.Standing.{forms_at}
use Rattle.mb_growth.specs.Names.{HasGlobals}
use Rattle.mb_model.specs.Story.{first_graph}
use Rattle.mb_programs.specs.Read.{HasWhole, IsWhole}
use Rattle.mb_world.specs.Data.{Data, Script, fresh, with_texts}
use Rattle.mb_world.specs.Graph.{Graph}
use Rattle.mb_world.specs.Ids.{RuleIn, ScriptIn}
use Rattle.mb_world.specs.Image.{Image, names_of, program_in, rule_in}
use Rattle.mb_world.specs.declared.rule.Rule.{Rule}

-- the scope of the built-in names has its side's number
abbrev pub global_scope : Side → ScopeId
global_scope side = record { 0 = side.0 }

abbrev pub HasScript : Data → Side → Type 0
HasScript d side = HasWhole (forms_at d side)

-- a world that has begun: between the steps, with a script for each side, and its first scopes, one for each, bind the
-- built-in names and `desk`
pub record IsBegun (d : Data) : Type 0 where
  pub ready : IsReady d
  pub scripts : (side : Side) → side.0 < d.sides → HasScript d side
  pub globals : HasGlobals d.sides (Image d [])

-- What a run is given: a script for each of two to eight sides, the rules of a policy, and the texts in which their ids
-- are. Where the world is to be joined there are two sides and no rules.
pub record IsGiven (texts : List (List ℕ)) (scripts : List Script) (rules : List Rule) (joined : Bool) : Type 0 where
  pub least : 2 ≤ length scripts
  pub most : length scripts ≤ 8
  pub programs : All IsProgram scripts
  pub roots : All (IsWhole texts) scripts
  pub script_ids : All (ScriptIn (with_texts fresh texts)) scripts
  pub rule_ids : All (RuleIn (with_texts fresh texts)) rules
  pub constants : All (λ r. HasItsConstant r.kind) rules
  pub two_sides : joined ≡ true → length scripts ≡ 2
  pub no_rules : joined ≡ true → rules ≡ []

-- the first graph of these scripts and rules
abbrev pub first_graph_of : List (List ℕ) → List Script → List Rule → Graph
first_graph_of texts scripts rules = first_graph
    (map (λ p. program_in texts (Some p)) scripts)
    (map (rule_in (names_of (with_texts fresh texts))) rules)
