-- The rule of a table, from what its fields give.
use Rattle.std.proofs.Common.{◌≡◌, ◌∙◌, List, ℕ, Bool, true, false, Option, Some, None, ap, sym, if◌then◌else◌, codes}
use Rattle.std.specs.Prelude.{option_and_then}
use Rattle.toml.specs.Data.{Members}
use Rattle.mb_world.specs.Graph.{RuleKind as GraphKind}
use Rattle.mb_policy.specs.declared.kind.KindName.{KindName}
use Rattle.mb_policy.specs.Fields.{all_fields, str_at, units_at, side_at}
use Rattle.mb_policy.specs.Rows.{kind_named, is_field, kind_with, rule_with, rule_of, rule_of_kind}

module _ (sided : Bool) (row : Members) (name : KindName) (named : option_and_then kind_named (str_at (codes "kind") row) ≡ Some name) where
  -- a field too many
  pub fields-refused : all_fields (is_field sided name) row ≡ false → None ≡ rule_of sided row
  fields-refused h =
      sym (ap (λ k. rule_of_kind sided k row) named
      ∙ ap (λ b. if b then rule_with (units_at (codes "label") row) (kind_with name row) (side_at (codes "owner") row) (side_at (codes "viewer") row) else None) h)

  -- the parts of a rule
  pub fields-read : all_fields (is_field sided name) row ≡ true
      → (label : Option (List ℕ)) (kind : Option GraphKind) (owner viewer : Option (Option ℕ))
      → label ≡ units_at (codes "label") row → kind ≡ kind_with name row → owner ≡ side_at (codes "owner") row → viewer ≡ side_at (codes "viewer") row
      → rule_with label kind owner viewer ≡ rule_of sided row
  fields-read h label kind owner viewer a b c d =
      ap (λ x. rule_with x kind owner viewer) a
      ∙ ap (λ x. rule_with (units_at (codes "label") row) x owner viewer) b
      ∙ ap (λ x. rule_with (units_at (codes "label") row) (kind_with name row) x viewer) c
      ∙ ap (λ x. rule_with (units_at (codes "label") row) (kind_with name row) (side_at (codes "owner") row) x) d
      ∙ sym (ap (λ k. rule_of_kind sided k row) named
      ∙ ap (λ b. if b then rule_with (units_at (codes "label") row) (kind_with name row) (side_at (codes "owner") row) (side_at (codes "viewer") row) else None) h)
