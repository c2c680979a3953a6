use Rattle.std.proofs.Common.{◌≡◌, ◌∙◌, ap, sym, subst, option_map, Some, None}
use Rattle.toml.proofs.Views.{table_get}
use Rattle.toml.specs.Data.{get_member, as_str}
use Rattle.toml.specs.View.{view, table_view}
use Rattle.mb_world.specs.Ids.{Maybe}
use Rattle.mb_world.specs.Image.{side_in}
use Rattle.mb_policy.specs.Fields.{side_in_field}
use Rattle.mb_policy.specs.Rules.{IsSide}
use Rattle.mb_policy.proofs.Accepted.{some-side}
use Rattle.mb_policy.proofs.Parts.{side-given, side-none}
use Rattle.mb_policy.proofs.fields.side_at.Goals as goal

pub returns-in-Some-as_str-clause-value : goal.returns-in-Some-as_str-clause-value
returns-in-Some-as_str-clause-value c =
    let found = table_get c.get.result c.args.field.now c.args.row.now.entries c.get.ensures.value in
    let here : Some (view c.in-Some.value.now) ≡ get_member c.args.field.now (table_view c.args.row.now) = rw c.in-Some.is at found in
    let text : Some c.in-Some-as_str.text.now ≡ as_str (view c.in-Some.value.now) = rw c.in-Some-as_str.is at c.as_str.ensures in
    ap (λ o. option_map side_in o) c.named.ensures
    ∙ side-given (view c.in-Some.value.now) c.in-Some-as_str.text.now c.side.result (sym text) c.side.ensures.value
    ∙ ap side_in_field here

pub returns-in-None-as_str-clause-value : goal.returns-in-None-as_str-clause-value
returns-in-None-as_str-clause-value c =
    let found = table_get c.get.result c.args.field.now c.args.row.now.entries c.get.ensures.value in
    let here : Some (view c.in-Some.value.now) ≡ get_member c.args.field.now (table_view c.args.row.now) = rw c.in-Some.is at found in
    let text : None ≡ as_str (view c.in-Some.value.now) = rw c.in-None-as_str.is at c.as_str.ensures in
    side-none (view c.in-Some.value.now) (sym text) ∙ ap side_in_field here

pub returns-in-None-clause-value : goal.returns-in-None-clause-value
returns-in-None-clause-value c =
    let found = table_get c.get.result c.args.field.now c.args.row.now.entries c.get.ensures.value in
    let here : None ≡ get_member c.args.field.now (table_view c.args.row.now) = rw c.in-None.is at found in
    ap side_in_field here

pub returns-in-Some-as_str-clause-within : goal.returns-in-Some-as_str-clause-within
returns-in-Some-as_str-clause-within c =
    subst (λ o. Maybe (Maybe IsSide) o) (sym c.named.ensures) (some-side c.side.result c.side.ensures.within)
