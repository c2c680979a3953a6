use Rattle.std.proofs.Common.{refl, Some, option_map}
use Rattle.std.proofs.lemmas.List.{map-set}
use Rattle.mb_world.specs.Data.{script_of}
use Rattle.mb_world.specs.Ids.{ScriptIn}
use Rattle.mb_world.specs.machine.Inside.{data_of}
use Rattle.mb_world.proofs.Worlds.{Index-program}
use Rattle.mb_world.proofs.world.World.set_program.Goals as goal

pub invariant_of-self : goal.invariant_of-self
invariant_of-self c =
    let h : ScriptIn (data_of c.self.inside) (script_of c.args.program) = rw (← c.self.view_is) at c.requires.program in
    rw (map-set (option_map script_of) c.self.inside.programs.items c.args.side.0 (Some c.args.program)) (Index-program (data_of c.self.inside) _ _ _ _ c.self.invariant c.args.side (script_of c.args.program) h)

pub returns : goal.returns
returns c = rw (map-set (option_map script_of) c.self.inside.programs.items c.args.side.0 (Some c.args.program), ← c.self.view_is) refl
