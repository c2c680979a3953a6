-- The story of two scripts on one graph, by their bytes.
use Rattle.std.specs.Prelude.{◌≡◌, ℕ, ◌≤◌, List, [], ◌∷◌, length, map, nat_eq, if◌then◌else◌, Option, Some, None}
use Rattle.mb_tree.specs.Roses.{Rose, write}
use Rattle.mb_scope.specs.Names.{names_of}
use Rattle.mb_world.specs.Data.{Script}
use Rattle.mb_world.specs.Graph.{Program}
use Rattle.mb_world.specs.Image.{program_in}
use Rattle.mb_model.specs.Story.{Letter, Side, Stage, Story}
use Rattle.mb_load_tree.specs.Trees.{ReadsAs}
use Rattle.mb_cli.specs.Trees.{longest_script}

-- a letter of an accepted schedule: `L` is a turn of the left side, and `R`, the only other one, of the right
abbrev pub letter_of : ℕ → Letter
letter_of b = Side (if nat_eq b 76 then 0 else 1)

abbrev pub letters_of : List ℕ → List Letter
letters_of = map letter_of

-- a tree's nodes, and the names that its scopes bind
abbrev pub script_of_tree : Rose → Script
script_of_tree tree = record { nodes = write [] tree; names = names_of (write [] tree) }

-- the bytes have a tree, and this is it, with its texts in place of their ids
pub record IsProgramOf (bytes : List ℕ) (program : Program) : Type 0 where
  pub texts : List (List ℕ)
  pub tree : Rose
  pub reads : ReadsAs texts bytes tree
  pub is : program ≡ program_in texts (Some (script_of_tree tree))

-- the text is there and isn't too long, and this is its program
abbrev pub HasProgram : Option (List ℕ) → Program → Type 0
HasProgram None program = ⊥
HasProgram (Some bytes) program = (length bytes ≤ longest_script) × IsProgramOf bytes program

-- the story of both scripts on one graph with no rules, by this schedule and with so many units
pub record HasStory (left right : Option (List ℕ)) (schedule : List ℕ) (budget : ℕ) (story : Stage) : Type 0 where
  pub lefts : Program
  pub rights : Program
  pub left_has : HasProgram left lefts
  pub right_has : HasProgram right rights
  pub is : story ≡ Story (lefts ∷ rights ∷ []) [] (letters_of schedule) budget
