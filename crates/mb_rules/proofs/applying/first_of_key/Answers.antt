use Rattle.std.proofs.Common.{rules, tests, of_calls, ap, ◌∙◌, option_map}
use Rattle.std.proofs.lemmas.Iterator.{YieldsList-from_slice}
use Rattle.std.proofs.lemmas.Iterator.Search.{find_from_yields_List}
use Rattle.mb_world.specs.declared.rule.Rule.{Rule}
use Rattle.mb_rules.specs.machine.Applying.{is_of_key}
use Rattle.mb_rules.proofs.applying.first_of_key.Goals as goal

pub returns-in_err-rule : goal.returns-in_err-rule
returns-in_err-rule c =
    let found = find_from_yields_List (is_of_key c.args.owner c.args.viewer c.args.key) _ _ _ c.find.ensures.ran (YieldsList-from_slice c.args.rules.now cc) (λ x b q k. search (rules, of_calls, tests)) in
    c.from_residual.ensures ∙ ap (option_map (λ (r : Rule). r.kind)) (rw c.in_err-rule.was at found)

pub returns : goal.returns
returns c =
    let found = find_from_yields_List (is_of_key c.args.owner c.args.viewer c.args.key) _ _ _ c.find.ensures.ran (YieldsList-from_slice c.args.rules.now cc) (λ x b q k. search (rules, of_calls, tests)) in
    ap (option_map (λ (r : Rule). r.kind)) (rw c.in_ok-rule.was at found)
