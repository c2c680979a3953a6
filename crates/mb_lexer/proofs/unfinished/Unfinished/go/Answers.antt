use Rattle.std.proofs.Common.{[], ◌∷◌, ◌++◌, refl, sym, ap, subst, ◌∙◌}
use Rattle.mb_text.proofs.Kept.{keeps_ids_none}
use Rattle.mb_lexer.specs.machine.Machine.{moved, first_of_two}
use Rattle.mb_lexer.specs.Shown.{AreSeen}
use Rattle.mb_lexer.proofs.Seen.{gains, gains_none}
use Rattle.mb_lexer.proofs.unfinished.Unfinished.go.Goals as goal
use Rattle.mb_lexer.proofs.unfinished.Unfinished.go.Goals.{in-Goes, in-Adds+in_ok-add_code-in-Adds, in-Splits+in_ok-push_first-in-Splits}

-- a token is put only where a mark was split off
pub returns-else-is_line_end-clause-tokens : goal.returns-else-is_line_end-clause-tokens
returns-else-is_line_end-clause-tokens c texts before s =
    elim c.match-change.branch [
      | in-Goes w ↦ subst (λ mv. AreSeen texts c.match-change.tokens.items (before ++ (moved c.args.self.now c.args.ch mv).tokens)) (sym w.in-Goes.is) (gains_none texts texts _ _ (keeps_ids_none texts) (ap (λ v. v.items) w.tokens-is) before s)
      | in-Adds+in_ok-add_code-in-Adds w ↦ subst (λ mv. AreSeen texts c.match-change.tokens.items (before ++ (moved c.args.self.now c.args.ch mv).tokens)) (sym w.in-Adds.is) (gains_none texts texts _ _ (keeps_ids_none texts) (ap (λ v. v.items) w.tokens-is) before s)
      | in-Splits+in_ok-push_first-in-Splits w ↦ subst (λ mv. AreSeen texts c.match-change.tokens.items (before ++ (moved c.args.self.now c.args.ch mv).tokens)) (sym w.in-Splits.is)
          (gains texts texts _ _ _ (first_of_two c.args.self.now w.in-Splits.first ∷ []) (keeps_ids_none texts) (ap (λ v. v.items) w.tokens-is ∙ w.in_ok-push_first-in-Splits.ensures.tokens) (record { token = refl; from = refl; to = refl; after_line = refl }, tt) before s)
    ]
