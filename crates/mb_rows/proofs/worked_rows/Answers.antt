use Rattle.mb_rows.specs.Language as language
use Rattle.mb_rows.specs.BuiltIns as built_ins
use Rattle.mb_rows.specs.Membrane as membrane
use Rattle.mb_rows.specs.Turns as turns
use Rattle.mb_rows.specs.Policy as policy
use Rattle.mb_rows.specs.Proxies as proxies
use Rattle.mb_rows.specs.Symbols as symbols
use Rattle.mb_rows.specs.Collections as collections
use Rattle.mb_rows.specs.Sides as sides
use Rattle.mb_rows.specs.Traces as traces
use Rattle.mb_rows.specs.Units as units
use Rattle.mb_rows.proofs.worked_rows.Goals as goal

pub returns-clause-language : goal.returns-clause-language
returns-clause-language c = language.rows

pub returns-clause-membrane : goal.returns-clause-membrane
returns-clause-membrane c = membrane.rows

pub returns-clause-turns : goal.returns-clause-turns
returns-clause-turns c = turns.rows

pub returns-clause-policy : goal.returns-clause-policy
returns-clause-policy c = policy.rows

pub returns-clause-proxies : goal.returns-clause-proxies
returns-clause-proxies c = proxies.rows

pub returns-clause-symbols : goal.returns-clause-symbols
returns-clause-symbols c = symbols.rows

pub returns-clause-collections : goal.returns-clause-collections
returns-clause-collections c = collections.rows

pub returns-clause-sides : goal.returns-clause-sides
returns-clause-sides c = sides.rows

pub returns-clause-traces : goal.returns-clause-traces
returns-clause-traces c = traces.rows

pub returns-clause-units : goal.returns-clause-units
returns-clause-units c = units.rows

pub returns-clause-built_ins : goal.returns-clause-built_ins
returns-clause-built_ins c = built_ins.rows
