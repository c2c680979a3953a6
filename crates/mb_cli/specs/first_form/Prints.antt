-- Which scripts `run` accepts, which it refuses, and what they print.
use Rattle.std.specs.Prelude.{◌≡◌, ℕ, ◌<◌, ◌≤◌, ◌⊎◌, List, length, Option, Some, None, IsSome}
use Rattle.mb_cli.specs.Sides.{left_side, right_side}
use Rattle.mb_load_tree.specs.Trees.{HasTree}
use Rattle.mb_cli.specs.Trees.{ScriptFault}
use Rattle.mb_cli.specs.first_form.Form.{Literal, HasLiterals, longest}
use Rattle.mb_cli.specs.first_form.Text.{text_of}
use Rattle.mb_cli.specs.declared.status.ScriptKind.{ScriptKind}
use Rattle.mb_cli.specs.declared.status.ScriptKind.TheVariants.{Shape}
use Rattle.mb_cli.specs.declared.status.Status.{Status}
use Rattle.mb_cli.specs.declared.status.Status.TheVariants.{Done, BadScript}

-- the text is there, is a script of these literals and not too long
abbrev pub Prints : Option (List ℕ) → List Literal → Type 0
Prints None literals = ⊥
Prints (Some bytes) literals = (length bytes ≤ longest) × HasLiterals bytes literals

abbrev pub IsPrinted : Option (List ℕ) → Type 0
IsPrinted script = (literals : List Literal) × Prints script literals

-- the text is there and isn't run: it has a fault, or is of another form than the first, or too long
pub data IsNotRun : Option (List ℕ) → ScriptKind → Type 0 where
  faulty : {bytes : List ℕ} {kind : ScriptKind} → length bytes ≤ longest → ScriptFault bytes kind
      → IsNotRun (Some bytes) kind
  other_form : {bytes : List ℕ} → length bytes ≤ longest → HasTree bytes
      → ((literals : List Literal) → HasLiterals bytes literals → ⊥) → IsNotRun (Some bytes) Shape
  too_long : {bytes : List ℕ} → longest < length bytes → IsNotRun (Some bytes) Shape

-- how `run` ends by its scripts: both are accepted, or the left isn't, or only the right; both are there
abbrev pub EndsRun : Option (List ℕ) → Option (List ℕ) → Status → Type 0
EndsRun left right Done = IsPrinted left × IsPrinted right
EndsRun left right (BadScript side kind) =
    ((side ≡ left_side) × IsSome right × IsNotRun left kind)
    ⊎ ((side ≡ right_side) × IsPrinted left × IsNotRun right kind)
EndsRun left right status = ⊥

-- both scripts are accepted, and this is what they print
pub record Printed (left right : Option (List ℕ)) (text : List ℕ) : Type 0 where
  pub lefts : List Literal
  pub rights : List Literal
  pub left_prints : Prints left lefts
  pub right_prints : Prints right rights
  pub text_is : text ≡ text_of lefts rights
