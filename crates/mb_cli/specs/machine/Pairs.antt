-- Two scripts as they were read.
use Rattle.std.specs.Prelude.{◌≡◌, ℕ, ◌<◌, ◌≤◌, ◌^◌, ◌⊎◌, List, [], ◌∷◌, length, Option, Some, None, ⊤}
use Rattle.mb_load_tree.specs.Trees.{HasTree, ReadsAs}
use Rattle.mb_tree.specs.Roses.{Rose}
use Rattle.mb_tree.specs.declared.program.Program.{Program}
use Rattle.mb_world.specs.Data.{Script, script_of}
use Rattle.mb_base.specs.declared.value.Side.{Side}
use Rattle.mb_cli.specs.Sharing.{script_of_tree}
use Rattle.mb_cli.specs.Sides.{left_side, right_side}
use Rattle.mb_cli.specs.Trees.{longest_script, ScriptFault}
use Rattle.mb_cli.specs.declared.refusal.Refusal.{Refusal}
use Rattle.mb_cli.specs.declared.refusal.Refusal.TheVariants as refusal
use Rattle.mb_cli.specs.declared.status.Which.TheVariants as which

-- the bytes were read as this script, whose ids are of these texts
pub record IsRead (texts : List (List ℕ)) (bytes : List ℕ) (p : Script) : Type 0 where
  pub tree : Rose
  pub reads : ReadsAs texts bytes tree
  pub is : p ≡ script_of_tree tree
  pub few : length p.nodes < 2 ^ 32

-- the text is there and isn't too long, and was read so
abbrev pub IsReadFrom : List (List ℕ) → Option (List ℕ) → Script → Type 0
IsReadFrom texts None p = ⊥
IsReadFrom texts (Some bytes) p = (length bytes ≤ longest_script) × IsRead texts bytes p

-- both were read, the left one first
pub record AreRead (texts : List (List ℕ)) (left right : Option (List ℕ)) (ps : List Program) : Type 0 where
  pub one : Program
  pub other : Program
  pub are : ps ≡ one ∷ other ∷ []
  pub left_read : IsReadFrom texts left (script_of one)
  pub right_read : IsReadFrom texts right (script_of other)

-- why one script of that side is refused
abbrev pub IsFaultOf : Side → List ℕ → Refusal → Type 0
IsFaultOf side bytes (refusal.Script other kind) = (other ≡ side) × ScriptFault bytes kind
IsFaultOf side bytes refusal.NoMemory = ⊤
IsFaultOf side bytes r = ⊥

-- why two scripts are refused that aren't too long
abbrev pub IsFaultOfPair : List ℕ → List ℕ → Refusal → Type 0
IsFaultOfPair left right (refusal.Script side kind) =
    ((side ≡ left_side) × ScriptFault left kind) ⊎ ((side ≡ right_side) × HasTree left × ScriptFault right kind)
IsFaultOfPair left right refusal.NoMemory = ⊤
IsFaultOfPair left right r = ⊥

-- why a text isn't read whole
abbrev pub IsFaultOfReading : Side → Refusal → Type 0
IsFaultOfReading side refusal.ReadFault = ⊤
IsFaultOfReading side (refusal.TooLong long) = long ≡ which.Script side
IsFaultOfReading side refusal.NoMemory = ⊤
IsFaultOfReading side r = ⊥
