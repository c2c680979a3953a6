use Rattle.std.proofs.Common.{◌≡◌, Bool, false, not, ◌&&◌, List, ◌∷◌, sym, ap, ◌∙◌}
use Rattle.mb_check.specs.Keys.{is_among, are_distinct}
use Rattle.mb_check.proofs.Ascending.{ascending-tail}
use Rattle.mb_check.proofs.keys.are_distinct.Goals as goal

distinct-tail : {K : Type 0} (eq : K → K → Bool) (key : K) (others : List K) → is_among eq key others ≡ false → are_distinct eq others ≡ are_distinct eq (key ∷ others)
distinct-tail eq key others new = sym (ap (λ b. not b && are_distinct eq others) new)

pub is_among-requires : goal.is_among-requires
is_among-requires g c = λ h. ascending-tail g.K.Ord.cmp c.in-Some.key.now c.in-Some.others.now (rw c.in-Some.ensures.cases.0 at (c.loop-key.invariant.ascending h))

pub loop-key-preserved : goal.loop-key-preserved
loop-key-preserved g c = record {
  same =
      distinct-tail g.K.PartialEq.eq c.in-Some.key.now c.in-Some.others.now (sym c.if-is_among.ensures)
      ∙ sym (ap (are_distinct g.K.PartialEq.eq) c.in-Some.ensures.cases.0)
      ∙ c.loop-key.invariant.same;
  ascending = λ h. ascending-tail g.K.Ord.cmp c.in-Some.key.now c.in-Some.others.now (rw c.in-Some.ensures.cases.0 at (c.loop-key.invariant.ascending h));
}
