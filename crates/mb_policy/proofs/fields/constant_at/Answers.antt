use Rattle.std.proofs.Common.{◌≡◌, ap, Some, None}
use Rattle.std.specs.Prelude.{option_and_then}
use Rattle.toml.proofs.Views.{table_get}
use Rattle.toml.specs.Data.{get_member}
use Rattle.toml.specs.View.{view, table_view}
use Rattle.mb_policy.specs.Fields.{constant_of}
use Rattle.mb_policy.proofs.fields.constant_at.Goals as goal

pub returns-in-Some-clause-value : goal.returns-in-Some-clause-value
returns-in-Some-clause-value c =
    let found = table_get c.get.result c.args.field.now c.args.row.now.entries c.get.ensures.value in
    let here : Some (view c.in-Some.value.now) ≡ get_member c.args.field.now (table_view c.args.row.now) = rw c.in-Some.is at found in
    rw (← here) c.constant.ensures.value

pub returns-in-None-clause-value : goal.returns-in-None-clause-value
returns-in-None-clause-value c =
    let found = table_get c.get.result c.args.field.now c.args.row.now.entries c.get.ensures.value in
    let here : None ≡ get_member c.args.field.now (table_view c.args.row.now) = rw c.in-None.is at found in
    ap (λ o. option_and_then constant_of o) here
