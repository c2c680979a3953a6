-- What a shown property stands for.
use Rattle.std.proofs.Common.{◌≡◌, Option, Some, None, refl, option_map}
use Rattle.std.specs.Prelude.{IfSome}
use Rattle.mb_base.specs.declared.value.Value.{Value}
use Rattle.mb_desc.specs.declared.descriptor.Full.{Full}
use Rattle.mb_desc.specs.declared.descriptor.Full.TheVariants.{Datum, Accessor}
use Rattle.mb_world.specs.declared.rule.RuleKind.{RuleKind}
use Rattle.mb_world.specs.declared.rule.RuleKind.TheVariants.{Hide, ReadOnly, Substitute, Revoke}
use Rattle.mb_world.specs.View as seen
use Rattle.mb_world.specs.Data.{Data}
use Rattle.mb_world.specs.Ids.{FullIn, RuleKindIn}
use Rattle.mb_world.specs.Image.{Names, rule_kind_in, full_in}
use Rattle.mb_rules.specs.machine.Showing.{shown_by}

-- a shown property stands for what is shown of what the own one stands for
pub shown-is : (n : Names) (rule : Option RuleKind) (own : Option (Full Value)) →
    option_map (full_in n) (shown_by rule own) ≡ seen.shown_by (option_map (rule_kind_in n) rule) (option_map (full_in n) own)
shown-is n None own = refl
shown-is n (Some (Hide x)) own = refl
shown-is n (Some ReadOnly) own = refl
shown-is n (Some Revoke) own = refl
shown-is n (Some (Substitute x y)) None = refl
shown-is n (Some (Substitute x y)) (Some (Datum z w e c)) = refl
shown-is n (Some (Substitute x y)) (Some (Accessor g s e c)) = refl

-- its ids are of the world
pub shown-in : (d : Data) (rule : Option RuleKind) (own : Option (Full Value)) → IfSome rule (RuleKindIn d) → IfSome own (FullIn d) → IfSome (shown_by rule own) (FullIn d)
shown-in d None own h k = k
shown-in d (Some (Hide x)) own h k = tt
shown-in d (Some ReadOnly) own h k = k
shown-in d (Some Revoke) own h k = k
shown-in d (Some (Substitute x y)) None h k = tt
shown-in d (Some (Substitute x y)) (Some p) h k = h.1

-- what no rule shows is the own property
pub shown-own : (n : Names) (rule : Option RuleKind) (own : Option (Full Value)) → option_map (rule_kind_in n) rule ≡ None → shown_by rule own ≡ own
shown-own n None own h = refl
shown-own n (Some kind) own h = cc
