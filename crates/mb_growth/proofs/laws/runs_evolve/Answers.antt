use Rattle.mb_growth.proofs.Turns.{first-is-formed, turns-evolve, letters-evolve, runs-evolve}
use Rattle.mb_growth.proofs.laws.runs_evolve.Goals as goal

pub returns-clause-first : goal.returns-clause-first
returns-clause-first c programs rules = first-is-formed programs rules

pub returns-clause-turns : goal.returns-clause-turns
returns-clause-turns c stage side formed = turns-evolve stage side formed

pub returns-clause-letters : goal.returns-clause-letters
returns-clause-letters c stage letter formed = letters-evolve stage letter formed

pub returns-clause-whole : goal.returns-clause-whole
returns-clause-whole c programs rules word fuel = runs-evolve programs rules word fuel
