use Rattle.std.proofs.Common.{◌≡◌, ◌∙◌, ap, Some, None, codes}
use Rattle.toml.proofs.Views.{table_get}
use Rattle.toml.specs.Data.{get_member}
use Rattle.toml.specs.View.{view, table_view}
use Rattle.mb_policy.specs.Policy.{rows_of}
use Rattle.mb_policy.proofs.document.rows.Goals as goal

pub returns-in-None : goal.returns-in-None
returns-in-None c =
    let here : None ≡ get_member (codes "rule") (table_view c.args.file.now) = rw c.in-None.is at (table_get c.get.result (codes "rule") c.args.file.now.entries c.get.ensures.value) in
    ap rows_of here

pub returns-in-Some : goal.returns-in-Some
returns-in-Some c =
    let here : Some (view c.in-Some.value.now) ≡ get_member (codes "rule") (table_view c.args.file.now) = rw c.in-Some.is at (table_get c.get.result (codes "rule") c.args.file.now.entries c.get.ensures.value) in
    c.rows_in.ensures ∙ ap rows_of here
