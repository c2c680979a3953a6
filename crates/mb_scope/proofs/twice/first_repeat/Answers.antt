use Rattle.std.proofs.Common.{◌≡◌, ◌+◌, get_or, sym, subst, ◌∙◌, false, true}
use Rattle.std.specs.Prelude.{nat_eq}
use Rattle.std.specs.HashSet.{contains}
use Rattle.std.proofs.lemmas.Bool.{not-true, not-false}
use Rattle.std.proofs.lemmas.Option.{slice_get-get_or}
use Rattle.mb_scope.specs.machine.First.{IsFirst}
use Rattle.mb_scope.proofs.Repeating.{RepeatsBelow, seen_more, first_new, first_old, repeats_all, blank}
use Rattle.mb_scope.proofs.twice.first_repeat.Goals as goal
use Rattle.mb_scope.proofs.twice.first_repeat.Goals.{then-not-branch, else-not-branch}

pub loop-binding-preserved : goal.loop-binding-preserved
loop-binding-preserved c =
    let h = c.in_ok-add_name.ensures in
    let has = contains nat_eq c.loop-binding.seen in
    let has' = contains nat_eq c.add_name.new.seen in
    let bs = c.args.bindings.now in
    let n = c.loop-binding.binding-index in
    let b = get_or bs n blank in
    let there = slice_get-get_or bs n blank c.loop-binding-test.true in
    let s = c.loop-binding.invariant.names in
    let f = c.loop-binding.invariant.least in
    record {
      names = seen_more has has' bs n b c.loop-binding.first s f there h.added.0 h.added.1;
      least = elim c.if-not-branch.branch [
        | then-not-branch w ↦
            let e = w.if-not-branch.true in
            let old : has b.name.0 ≡ true = not-false (has b.name.0) (sym h.new ∙ e) in
            subst (IsFirst (λ id. id.0) (RepeatsBelow bs (n + 1))) (sym (w.first-is ∙ w.first_of-first.ensures)) (first_old has has' bs n b c.loop-binding.first s f there old)
        | else-not-branch w ↦
            let e = w.if-not-branch.false in
            let new : has b.name.0 ≡ false = not-true (has b.name.0) (sym h.new ∙ e) in
            subst (IsFirst (λ id. id.0) (RepeatsBelow bs (n + 1))) (sym w.first-is) (first_new has has' bs n b c.loop-binding.first s f there new)
      ];
    }

pub returns : goal.returns
returns c = repeats_all c.args.bindings.now c.loop-binding.binding-index c.loop-binding.first c.loop-binding-test.false c.loop-binding.invariant.least
