-- The rules by their labels.
use Rattle.std.specs.Prelude.{◌≡◌, List}
use Rattle.std.specs.List.Sorted.{IsNonDecreasingBy}
use Rattle.mb_base.specs.declared.value.StrId.{StrId}
use Rattle.mb_world.specs.declared.rule.Rule.{Rule}
use Rattle.mb_world.specs.Data.{label_of, labelled}

-- the labels ascend, and the rules for one stand in the order of the file
pub record AreGrouped (rows grouped : List Rule) : Type 0 where
  pub ascend : IsNonDecreasingBy label_of grouped
  pub same : (label : StrId) → labelled label grouped ≡ labelled label rows
