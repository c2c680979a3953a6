-- How a world begins, step by step.
use Rattle.std.specs.Prelude.{Bool, List, None, Option, Some, [], false, length, map, suc, take, zero, ℕ, ◌+◌, ◌++◌}
use Rattle.std.specs.Prelude.{◌∷◌, ◌≡◌}
use Rattle.mb_base.specs.declared.value.ObjId.{ObjId}
use Rattle.mb_base.specs.declared.value.Side.{Side}
use Rattle.mb_frames.specs.Ready.{IsReady}
use Rattle.mb_intrinsics.specs.Furnished.{first_side}
use Rattle.mb_intrinsics.specs.Untouched.{IsUntouched}
use Rattle.mb_model.specs.Nodes.Scopes.{scope}
use Rattle.mb_model.specs.Story.{global_bindings}
use Rattle.mb_world.specs.Data.{Data, Script, cell_at, fresh}
use Rattle.mb_world.specs.Graph.{Graph, Item, Scope}
use Rattle.mb_world.specs.Image.{Image, names_of, object_in}
use Rattle.mb_world.specs.Laws.{Becomes, same_graph}
use Rattle.mb_world.specs.Value.{Object}
use Rattle.mb_world.specs.declared.cell.Cell.{Cell}
use Rattle.mb_world.specs.declared.cell.CellKind.TheVariants.{Plain}
use Rattle.mb_world.specs.declared.rule.Rule.{Rule}
use Rattle.mb_world.specs.declared.scope.Job.{Job}
use Rattle.mb_world.specs.declared.scope.Job.TheVariants as j

-- ---- scripts

-- the first sides have these
abbrev pub scripts_in : List Script → List (Option Script) → List (Option Script)
scripts_in [] ps = ps
scripts_in (s ∷ ss) [] = []
scripts_in (s ∷ ss) (p ∷ ps) = Some s ∷ scripts_in ss ps

abbrev pub with_scripts : Data → List Script → Data
with_scripts d ss = record d { programs = scripts_in ss d.programs }

-- so many sides have theirs still to run
abbrev pub started : ℕ → List (List Job) → List (List Job)
started zero qs = qs
started (suc n) [] = []
started (suc n) (q ∷ qs) = (q ++ j.Script ∷ []) ∷ started n qs

abbrev pub with_started : Data → ℕ → Data
with_started d n = record d { queues = started n d.queues }

-- ---- what stays

-- which sides take part, the entries, and the flags
pub record Remains (d d' : Data) : Type 0 where
  pub sides : d'.sides ≡ d.sides
  pub entries : d'.entries ≡ d.entries
  pub joined : d'.joined ≡ d.joined
  pub halted : d'.halted ≡ d.halted

-- the id of `desk`, which the first side owns
pub record IsDesk (d : Data) (id : ObjId) : Type 0 where
  pub cell : Cell
  pub there : cell_at d id ≡ Some cell
  pub home : cell.home ≡ first_side
  pub plain : cell.kind ≡ Plain
  pub number : object_in (names_of d) id ≡ Object 0

-- ---- scopes

-- the scopes of the built-in names of so many sides, from that one on
abbrev pub first_scopes : ℕ → ℕ → List Scope
first_scopes s zero = []
first_scopes s (suc n) = scope s None global_bindings ∷ first_scopes (s + 1) n

abbrev pub with_global_scope : ℕ → Graph → Graph
with_global_scope side g = record g { scopes = g.scopes ++ scope side None global_bindings ∷ [] }

-- a side's value for `desk` may be there now
pub record Crosses (desk : ObjId) (d d' : Data) : Type 0 where
  pub ready : IsReady d'
  pub remains : Remains d d'
  pub desk_is : IsDesk d' desk
  pub becomes : Becomes d d' same_graph

-- the side has its scope
pub record AddsScope (desk : ObjId) (side : Side) (d d' : Data) : Type 0 where
  pub ready : IsReady d'
  pub remains : Remains d d'
  pub desk_is : IsDesk d' desk
  pub image : (log : List Item) → Image d' log ≡ with_global_scope side.0 (Image d log)

-- so many sides have theirs
pub record AddsScopes (desk : ObjId) (n : ℕ) (d d' : Data) : Type 0 where
  pub ready : IsReady d'
  pub remains : Remains d d'
  pub desk_is : IsDesk d' desk
  pub image : (log : List Item) → Image d' log ≡ record (Image d log) { scopes = first_scopes 0 n }

-- ---- the whole

-- A world that was given so many scripts and its rules, and nothing else.
pub record IsSet (d : Data) (n : ℕ) : Type 0 where
  pub untouched : IsUntouched (with_started d n) n
  pub cells : d.cells ≡ []
  pub symbols : d.symbols ≡ []
  pub revoked : d.revoked ≡ false
  pub jobs : take n (started n d.queues) ≡ map (λ p. j.Script ∷ []) (take n d.programs)
  pub many : length (take n d.programs) ≡ n

-- as it is for a fresh world
abbrev pub set_world : List (List ℕ) → List Script → List Rule → Bool → Data
set_world texts ss rules joined = record fresh {
  texts = texts;
  programs = scripts_in ss fresh.programs;
  rules = rules;
  joined = joined;
}

-- the world is ready, and its image is the first graph of what was given to it
pub record Begins (graph : Graph) (n : ℕ) (d d' : Data) : Type 0 where
  pub ready : IsReady d'
  pub sides : d'.sides ≡ n
  pub entries : d'.entries ≡ d.entries
  pub joined : d'.joined ≡ d.joined
  pub halted : d'.halted ≡ d.halted
  pub image : Image d' [] ≡ graph
