use Rattle.std.proofs.Common.{◌∙◌, drop, length, Some, None, if◌then◌else◌, nat_eq, ap, List, ℕ}
use Rattle.std.specs.List.{starts_with}
use Rattle.mb_words.proofs.Prefixes.{stripped}
use Rattle.mb_words.proofs.role.value_behind.Goals as goal

pub returns : goal.returns
returns c =
    stripped c.strip_prefix.result c.opening.result.now c.args.word.now c.strip_prefix.ensures.cases
    ∙ ap (λ (n : List ℕ). if starts_with nat_eq c.args.word.now n then Some (drop (length n) c.args.word.now) else None) c.opening.ensures
