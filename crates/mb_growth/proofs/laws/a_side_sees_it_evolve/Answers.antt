use Rattle.mb_growth.proofs.Sides.{sees-by-rules, each-side-sees}
use Rattle.mb_growth.proofs.laws.a_side_sees_it_evolve.Goals as goal

pub returns-clause-sees : goal.returns-clause-sees
returns-clause-sees c graph v t k = sees-by-rules graph v t k

pub returns-clause-evolves : goal.returns-clause-evolves
returns-clause-evolves c one two v t u rules later = each-side-sees one two v t u rules later
