use Rattle.std.proofs.Common.{◌≡◌, ◌∙◌, ◌<◌, ◌+◌, ◌++◌, List, [], ◌∷◌, Some, length, map, drop, ap, sym, subst, arith, length-append}
use Rattle.std.specs.Prelude.{All, is_some}
use Rattle.std.proofs.lemmas.List.Elements.{All-push, All-from_recursion, recursion_from_All}
use Rattle.mb_text.proofs.Kept.{keeps_ids_more}
use Rattle.mb_world.specs.declared.rule.Rule.{Rule}
use Rattle.toml.specs.View.{view, items_view}
use Rattle.mb_policy.specs.Policy.{row_within, rules_from}
use Rattle.mb_policy.specs.Rules.{rule_by, IsRule}
use Rattle.mb_policy.specs.machine.Answers.{after}
use Rattle.mb_policy.proofs.Files.{rows-step}
use Rattle.mb_policy.proofs.Kept.{rules-kept-in}
use Rattle.mb_policy.proofs.rows.read_rows.Goals as goal

pub loop-place-preserved : goal.loop-place-preserved
loop-place-preserved c =
    let rows = c.args.rows.now in
    let place = c.loop-place.place in
    let old = c.loop-place.texts in
    let new = c.rule_within_limit.new.texts in
    let rules = c.loop-place.rules.items in
    let rule = c.in-Some.rule in
    let state = c.loop-place.invariant in
    let below : place < length rows = omega arith in
    let limit : place < 1000 = c.in_ok-rule.ensures.limit (ap is_some c.in-Some.is) in
    let kept = c.rule_within_limit.ensures.kept in
    let within : IsRule new rule = rw c.in-Some.is at c.in_ok-rule.ensures.within in
    let given : Some (rule_by new rule) ≡ row_within c.args.sided (place + 1) (view c.index-rows-place.result) = rw c.in-Some.is at c.in_ok-rule.ensures.rule in
    let items : c.push.new.self.items ≡ rules ++ rule ∷ [] = c.in_ok-push-in-Some.ensures.items in
    let all : All (IsRule new) rules = All-from_recursion (IsRule new) rules (rules-kept-in old new rules kept (recursion_from_All (IsRule old) rules state.2)) in
    let P : List Rule → Type 0 = λ xs. All (IsRule new) xs in (
      omega (arith, limit),
      keeps_ids_more c.args.texts.now old new state.1 kept,
      subst P (sym items) (All-push (IsRule new) rules rule all within),
      state.3 ∙ rows-step c.args.sided rows place c.index-rows-place.result old new rules rule below c.index-rows-place.is kept state.2 given
          ∙ ap (λ xs. after (map (rule_by new) xs) (rules_from c.args.sided (place + 1 + 1) (items_view (drop (place + 1) rows)))) (sym items),
      ap length items ∙ length-append rules (rule ∷ []) ∙ omega (arith, state.4),
    )
