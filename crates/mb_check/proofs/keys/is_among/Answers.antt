use Rattle.std.proofs.Common.{◌∙◌}
use Rattle.mb_check.proofs.Ascending.{searched}
use Rattle.mb_check.proofs.keys.is_among.Goals as goal

pub returns-then-ascending : goal.returns-then-ascending
returns-then-ascending g c =
    c.is_ok.ensures.value
    ∙ searched g.K.PartialEq.eq g.K.Ord.cmp g.met.K.Ord.total g.met.K.Ord.matches_eq c.args.others.now c.args.key.now c.binary_search.result (c.requires c.if-ascending.true) c.binary_search.ensures.bound c.binary_search.ensures.position
