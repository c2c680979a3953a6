use Rattle.std.specs.Prelude.{◌≡◌, ℕ, List, Bool, true}
use Rattle.mb_world.specs.Graph.{ScopeName}
use Rattle.mb_model.specs.Trace.Entries.{entries}
use Rattle.mb_model.specs.Trace.Lawful.{is_lawful}
use Rattle.mb_model.specs.Story.{Stage}
use Rattle.mb_model.specs.Text.{Text_of, with_feeds}

-- what a worked row shows of a run

-- a name that the scope of a node binds
abbrev pub bound : (node : ℕ) → List ℕ → (fixed : Bool) → ScopeName
bound n x fixed = record { node = n; name = x; fixed = fixed }

-- the run writes these lines, and its entries are lawful
abbrev pub Shows : (traced lettered : Bool) → Stage → List (List ℕ) → Type 0
Shows traced lettered stage lines =
    (Text_of traced lettered stage ≡ with_feeds lines) × (is_lawful (entries stage.graph.log) ≡ true)
