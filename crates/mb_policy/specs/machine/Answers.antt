-- What the reading of rows answers.
use Rattle.std.specs.Prelude.{◌≡◌, ◌++◌, ℕ, List, map, Result, Ok, Err, Vec}
use Rattle.std.specs.declared.alloc.Global.{Global}
use Rattle.mb_world.specs.declared.rule.Rule.{Rule}
use Rattle.mb_policy.specs.declared.fault.PolicyFault.{PolicyFault}
use Rattle.mb_world.specs.Graph.{Rule as GraphRule}
use Rattle.mb_policy.specs.Policy.{Reading}
use Rattle.mb_policy.specs.Rules.{rule_by, Refuses}

-- the answer is the reading of the rows, or memory was wanted
abbrev pub AnswersRows : List (List ℕ) → Result (Vec Rule Global) PolicyFault → Reading → Type 0
AnswersRows texts (Ok rules) reading = reading ≡ Ok (map (rule_by texts) rules.items)
AnswersRows texts (Err fault) reading = Refuses reading fault

-- rules, then those of a later reading
abbrev pub after : List GraphRule → Reading → Reading
after rules (Ok more) = Ok (rules ++ more)
after rules (Err kind) = Err kind
