-- Scripts that were read are what a run is given.
use Rattle.mb_engine.specs.Begun.{IsGiven}
use Rattle.mb_frames.specs.Grammatical.{IsProgram}
use Rattle.mb_frames.specs.Ready.{HasItsConstant}
use Rattle.mb_programs.proofs.Starting.{can-start}
use Rattle.mb_programs.specs.Read.{CanStart, IsWhole, WasRead}
use Rattle.mb_world.specs.Data.{Script, fresh, with_texts}
use Rattle.mb_world.specs.Ids.{RuleIn, ScriptIn}
use Rattle.mb_world.specs.declared.rule.Rule.{Rule}
use Rattle.std.proofs.Common.{Bool, List, [], arith, length, refl, true, ℕ, ◌∷◌, ◌≡◌, ◌≤◌}
use Rattle.std.proofs.lemmas.List.Elements.{All-cons, All-nil, All-weaker}
use Rattle.std.specs.Prelude.{All}

pub read-given : (texts : List (List ℕ)) (ss : List Script) (rules : List Rule) (joined : Bool) → All (WasRead texts) ss
    → 2 ≤ length ss → length ss ≤ 8 → All (RuleIn (with_texts fresh texts)) rules
    → All (λ r. HasItsConstant r.kind) rules → (joined ≡ true → length ss ≡ 2) → (joined ≡ true → rules ≡ [])
    → IsGiven texts ss rules joined
read-given texts ss rules joined read least most ids constants two none = record {
  least = least;
  most = most;
  programs = All-weaker (CanStart texts) IsProgram (λ p s. s.program) ss can;
  roots = All-weaker (CanStart texts) (IsWhole texts) (λ p s. s.whole) ss can;
  script_ids = All-weaker (CanStart texts) (ScriptIn (with_texts fresh texts)) (λ p s. s.ids) ss can;
  rule_ids = ids;
  constants = constants;
  two_sides = two;
  no_rules = none;
}
  where
    can : All (CanStart texts) ss
    can = All-weaker (WasRead texts) (CanStart texts) (λ p w. can-start texts p w) ss read

-- two of them, for a joined world
pub two-given : (texts : List (List ℕ)) (p q : Script) → WasRead texts p → WasRead texts q
    → IsGiven texts (p ∷ q ∷ []) [] true
two-given texts p q h k =
    read-given texts (p ∷ q ∷ []) [] true
    (All-cons (WasRead texts) p (q ∷ []) h (All-cons (WasRead texts) q [] k (All-nil (WasRead texts))))
    (omega arith) (omega arith) (All-nil (RuleIn (with_texts fresh texts)))
    (All-nil (λ (r : Rule). HasItsConstant r.kind))
    (λ e. refl) (λ e. refl)
