use Rattle.std.proofs.lemmas.Bool.{MatchBool-at_true}
use Rattle.mb_check.proofs.Ascending.{ascending, ascending_found}
use Rattle.mb_check.proofs.keys.is_ascending.Goals as goal

pub returns : goal.returns
returns g c = (
  λ h. ascending g.K.Ord.cmp g.K.PartialOrd.partial_cmp g.met.K.Ord.total g.met.K.Ord.matches_partial_cmp c.args.keys.now (MatchBool-at_true _ _ h c.is_sorted.ensures.cases),
  ascending_found g.K.Ord.cmp g.K.PartialOrd.partial_cmp g.met.K.Ord.total g.met.K.Ord.matches_partial_cmp c.args.keys.now c.is_sorted.result c.is_sorted.ensures.cases,
)
