use Rattle.std.proofs.Common.{rules, tests, ◌∙◌, ℕ, nat_eq, None, Some}
use Rattle.std.proofs.lemmas.Iterator.{YieldsList-from_slice}
use Rattle.std.proofs.lemmas.Iterator.Search.{find_from_yields_List}
use Rattle.mb_outer.proofs.Numbers.{lookup-found}
use Rattle.mb_outer.proofs.counts.first_of.Goals as goal

pub returns-in_err-pair : goal.returns-in_err-pair
returns-in_err-pair c =
    let found = find_from_yields_List (λ (p : ℕ × ℕ). nat_eq c.args.number p.0) _ _ _ c.find.ensures.ran (YieldsList-from_slice c.args.pairs.now cc) (λ x b q k. search (rules, tests)) in
    c.from_residual.ensures ∙ lookup-found c.args.number c.args.pairs.now None (rw c.in_err-pair.was at found)

pub returns : goal.returns
returns c =
    let found = find_from_yields_List (λ (p : ℕ × ℕ). nat_eq c.args.number p.0) _ _ _ c.find.ensures.ran (YieldsList-from_slice c.args.pairs.now cc) (λ x b q k. search (rules, tests)) in
    lookup-found c.args.number c.args.pairs.now (Some c.in_ok-pair.pair.now) (rw c.in_ok-pair.was at found)
