use Rattle.std.proofs.Common.{◌≡◌, ◌∙◌, ap, sym, subst, Some, option_map, codes}
use Rattle.mb_text.specs.Texts.{text_at}
use Rattle.mb_world.specs.Ids.{Maybe}
use Rattle.mb_world.specs.Image.{side_in}
use Rattle.toml.specs.View.{table_view}
use Rattle.mb_policy.specs.Fields.{units_at}
use Rattle.mb_policy.specs.Rows.{is_field, kind_with}
use Rattle.mb_policy.specs.Rules.{rule_by, kind_by, IsText, IsKind, IsRule}
use Rattle.mb_policy.proofs.Accepted.{rule-in}
use Rattle.mb_policy.proofs.FieldNames.{fields-tested}
use Rattle.mb_policy.proofs.Kept.{rule-made, text-kept, text-kept-in}
use Rattle.mb_policy.proofs.RuleParts.{fields-refused, fields-read}
use Rattle.mb_policy.proofs.row.table_rule.Goals as goal

pub returns-then-not-has_its_fields-clause-rule : goal.returns-then-not-has_its_fields-clause-rule
returns-then-not-has_its_fields-clause-rule c =
    fields-refused c.args.sided (table_view c.args.row.now) c.in-Some.name (sym c.kind_name.ensures ∙ c.in-Some.is)
    (fields-tested (is_field c.args.sided c.in-Some.name) c.args.row.now.entries c.has_its_fields.result c.has_its_fields.ensures ∙ c.if-not-has_its_fields.true)

pub returns-clause-rule : goal.returns-clause-rule
returns-clause-rule c =
    let first = c.id_at.new.texts in
    let last = c.kind_with.new.texts in
    let row = table_view c.args.row.now in
    let named = c.in-Some-2.label in
    let within : IsText first named = rw c.in-Some-2.is at c.in_ok-label.ensures.within in
    let label : Some (text_at first named) ≡ units_at (codes "label") row = rw c.in-Some-2.is at c.in_ok-label.ensures.text in
    let kind : Some (kind_by last c.in-Some-3.kind) ≡ kind_with c.in-Some.name row = rw c.in-Some-3.is at c.in_ok-kind.ensures.kind in
    let tested = fields-tested (is_field c.args.sided c.in-Some.name) c.args.row.now.entries c.has_its_fields.result c.has_its_fields.ensures ∙ c.if-not-has_its_fields.false in
    ap (λ o. option_map (rule_by last) o) c.with_sides.ensures
    ∙ rule-made last named c.in-Some-3.kind c.side_at.result c.side_at-2.result
    ∙ fields-read c.args.sided row c.in-Some.name (sym c.kind_name.ensures ∙ c.in-Some.is) tested
    (Some (text_at last named)) (Some (kind_by last c.in-Some-3.kind)) (option_map side_in c.side_at.result) (option_map side_in c.side_at-2.result)
    (ap Some (text-kept first last named c.kind_with.ensures.kept within) ∙ label) kind c.side_at.ensures.value c.side_at-2.ensures.value

pub returns-clause-within : goal.returns-clause-within
returns-clause-within c =
    let first = c.id_at.new.texts in
    let last = c.kind_with.new.texts in
    let named = c.in-Some-2.label in
    let label : IsText first named = rw c.in-Some-2.is at c.in_ok-label.ensures.within in
    let kind : IsKind last c.in-Some-3.kind = rw c.in-Some-3.is at c.in_ok-kind.ensures.within in
    subst (λ o. Maybe (IsRule last) o) (sym c.with_sides.ensures)
    (rule-in last named c.in-Some-3.kind c.side_at.result c.side_at-2.result
    (text-kept-in first last named c.kind_with.ensures.kept label) kind c.side_at.ensures.within c.side_at-2.ensures.within)
