use Rattle.std.proofs.Common.{◌≡◌, ◌∙◌, ap, sym, Some, None, codes, rules}
use Rattle.std.specs.Prelude.{option_and_then}
use Rattle.toml.proofs.Views.{table_get}
use Rattle.toml.specs.Data.{get_member, as_integer}
use Rattle.toml.specs.View.{view, table_view}
use Rattle.mb_policy.specs.Policy.{sided_by}
use Rattle.mb_policy.proofs.document.sided.Goals as goal

pub returns-in-None : goal.returns-in-None
returns-in-None c =
    let here : None ≡ get_member (codes "version") (table_view c.args.file.now) = rw c.in-None.is at (table_get c.get.result (codes "version") c.args.file.now.entries c.get.ensures.value) in
    ap (λ o. option_and_then sided_by (option_and_then as_integer o)) here

pub returns-in-None-as_integer : goal.returns-in-None-as_integer
returns-in-None-as_integer c =
    let here : Some (view c.in-Some.value.now) ≡ get_member (codes "version") (table_view c.args.file.now) = rw c.in-Some.is at (table_get c.get.result (codes "version") c.args.file.now.entries c.get.ensures.value) in
    ap (λ o. option_and_then sided_by o) (sym c.in-None-as_integer.is ∙ c.as_integer.ensures) ∙ ap (λ o. option_and_then sided_by (option_and_then as_integer o)) here

pub returns-in-Some-as_integer : goal.returns-in-Some-as_integer
returns-in-Some-as_integer c =
    let here : Some (view c.in-Some.value.now) ≡ get_member (codes "version") (table_view c.args.file.now) = rw c.in-Some.is at (table_get c.get.result (codes "version") c.args.file.now.entries c.get.ensures.value) in
    let read : c.sided_by_version.result ≡ option_and_then sided_by (Some c.in-Some-as_integer.version) = c.sided_by_version.ensures ∙ search rules in
    read
    ∙ ap (λ o. option_and_then sided_by o) (sym c.in-Some-as_integer.is ∙ c.as_integer.ensures)
    ∙ ap (λ o. option_and_then sided_by (option_and_then as_integer o)) here
