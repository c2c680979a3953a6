-- The faults of the first form as faults of a script.
use Rattle.mb_cli.specs.declared.first_form.script.FormFault.{FormFault}
use Rattle.mb_cli.specs.declared.first_form.script.FormFault.TheVariants as form
use Rattle.mb_cli.specs.declared.status.ScriptKind.TheVariants.{Shape}
use Rattle.mb_cli.specs.declared.tree.TreeFault.{TreeFault}
use Rattle.mb_cli.specs.declared.tree.TreeFault.TheVariants.{Bad, NoMemory}

-- a script that isn't of the first form has no shape that `run` takes
abbrev pub of_form : FormFault → TreeFault
of_form form.Shape = Bad Shape
of_form form.NoMemory = NoMemory
