-- Where a task doesn't fit, an object may be changed that can't, or an entry may promise what its side doesn't see.
use Rattle.std.specs.Prelude.{true, false}
use Rattle.mb_desc.specs.declared.descriptor.Desc.{Desc}
use Rattle.mb_world.specs.Value.{Val, Undefined, Object}
use Rattle.mb_world.specs.Key.{PropertyKey}
use Rattle.mb_world.specs.Graph.{Graph}
use Rattle.mb_model.specs.Engine.{state_of}
use Rattle.mb_model.specs.Task.{Task, Walk, Perform, GetOwnProperty, DefineOwnProperty}
use Rattle.mb_model.specs.Meaning.{Means}
use Rattle.mb_growth.specs.Later.{AreFormed, EachEvolves}
use Rattle.mb_growth.specs.Lawful.{KeepsPromises}

-- the task leads from a formed graph to one in which some object is no later form
abbrev pub BreaksAnObject : Task → Graph → Type 0
BreaksAnObject task graph = AreFormed graph × (EachEvolves graph (state_of (Means task graph 1)) → ⊥)

-- a walk for an object that isn't extensible
abbrev pub WalksMustFit : Type 0
WalksMustFit = (graph : Graph) × BreaksAnObject (Walk (Object 0) Undefined Undefined) graph

-- a descriptor with fields of both kinds
abbrev pub DefinitionsMustFit : Type 0
DefinitionsMustFit = (graph : Graph) × (k : PropertyKey) × (d : Desc Val)
    × BreaksAnObject (Perform 0 (DefineOwnProperty k d) (Object 0) 0 false) graph

-- a method that may make an entry, performed with the view of another side than the one that acts
abbrev pub ViewsMustFit : Type 0
ViewsMustFit = (graph : Graph) × (k : PropertyKey) × KeepsPromises graph
    × (KeepsPromises (state_of (Means (Perform 1 (GetOwnProperty k) (Object 0) 0 true) graph 1)) → ⊥)
