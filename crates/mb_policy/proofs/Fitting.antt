-- Rules over a table of texts as rules of a world that has these texts.
use Rattle.std.proofs.Common.{◌≡◌, List, [], ◌∷◌, map, refl, sym, subst, ap₂}
use Rattle.std.specs.Prelude.{All}
use Rattle.std.specs.List.{AllByRecursion}
use Rattle.std.proofs.lemmas.List.Elements.{All-from_recursion, recursion_from_All}
use Rattle.mb_base.specs.declared.value.Value.{Value}
use Rattle.mb_base.specs.declared.value.Value.TheVariants as v
use Rattle.mb_world.specs.Data.{Data}
use Rattle.mb_world.specs.Graph.{Substitute}
use Rattle.mb_world.specs.Ids.{ValueIn, RuleKindIn, RuleIn}
use Rattle.mb_world.specs.Image.{names_of, Resolve, rule_in, rule_kind_in, side_in}
use Rattle.mb_world.specs.declared.rule.Rule.{Rule}
use Rattle.mb_world.specs.declared.rule.RuleKind.{RuleKind}
use Rattle.mb_world.specs.declared.rule.RuleKind.TheVariants as r
use Rattle.mb_policy.specs.Accepted.{AreRules}
use Rattle.mb_policy.specs.Rules.{constant_by, kind_by, rule_by, IsConstant, IsKind, IsRule}
use Rattle.mb_policy.proofs.Kept.{rule_of_parts}

module _ (d : Data) where
  constant_in : (x : Value) → IsConstant d.texts x → ValueIn d x
  constant_in v.Undefined h = tt
  constant_in v.Null h = tt
  constant_in (v.Bool b) h = tt
  constant_in (v.Whole z) h = tt
  constant_in (v.Text id) h = h.0.0
  constant_in (v.Symbol id) h = absurd h
  constant_in (v.Object id) h = absurd h

  kind_in : (kind : RuleKind) → IsKind d.texts kind → RuleKindIn d kind
  kind_in (r.Hide key) h = h.0
  kind_in r.ReadOnly h = tt
  kind_in (r.Substitute key value) h = (h.0.0, constant_in value h.1)
  kind_in r.Revoke h = tt

  each_in : (rules : List Rule) → AllByRecursion (IsRule d.texts) rules → AllByRecursion (RuleIn d) rules
  each_in [] h = tt
  each_in (x ∷ rules) h = ((h.0.0.0, kind_in x.kind h.0.1), each_in rules h.1)

  pub rules_fit : (rules : List Rule) → All (IsRule d.texts) rules → All (RuleIn d) rules
  rules_fit rules h = All-from_recursion (RuleIn d) rules (each_in rules (recursion_from_All (IsRule d.texts) rules h))

  constant_same : (x : Value) → IsConstant d.texts x → Resolve (names_of d) x ≡ constant_by d.texts x
  constant_same v.Undefined h = refl
  constant_same v.Null h = refl
  constant_same (v.Bool b) h = refl
  constant_same (v.Whole z) h = refl
  constant_same (v.Text id) h = refl
  constant_same (v.Symbol id) h = refl
  constant_same (v.Object id) h = absurd h

  kind_same : (kind : RuleKind) → IsKind d.texts kind → rule_kind_in (names_of d) kind ≡ kind_by d.texts kind
  kind_same (r.Hide key) h = refl
  kind_same r.ReadOnly h = refl
  kind_same (r.Substitute key value) h = ap₂ Substitute refl (constant_same value h.1)
  kind_same r.Revoke h = refl

  rule_same : (x : Rule) → IsRule d.texts x → rule_in (names_of d) x ≡ rule_by d.texts x
  unfolding rule_of_parts
  rule_same x h = ap₂ (rule_of_parts (side_in x.owner) (side_in x.viewer)) refl (kind_same x.kind h.1)

  each_same : (rules : List Rule) → AllByRecursion (IsRule d.texts) rules → map (rule_in (names_of d)) rules ≡ map (rule_by d.texts) rules
  each_same [] h = refl
  each_same (x ∷ rules) h = ap₂ (λ y ys. y ∷ ys) (rule_same x h.0) (each_same rules h.1)

  pub rules_same : (rules : List Rule) → All (IsRule d.texts) rules → map (rule_in (names_of d)) rules ≡ map (rule_by d.texts) rules
  rules_same rules h = each_same rules (recursion_from_All (IsRule d.texts) rules h)

  pub rules_formed : (rules : List Rule) → All (IsRule d.texts) rules → AreRules (map (rule_by d.texts) rules) → AreRules (map (rule_in (names_of d)) rules)
  rules_formed rules h are = subst AreRules (sym (rules_same rules h)) are
