use Rattle.std.proofs.Common.{◌≡◌, ◌∙◌, ap, sym, subst, Some, None, Err, false, codes, map}
use Rattle.toml.specs.Data.{get_member}
use Rattle.toml.specs.View.{table_view, items_view}
use Rattle.mb_policy.specs.Conflicts.{conflict_in}
use Rattle.mb_policy.specs.Policy.{Reading, is_top_field, rows_of, unless_conflict, without_conflict}
use Rattle.mb_policy.specs.Rules.{rule_by}
use Rattle.mb_policy.specs.machine.Answers.{AnswersRows}
use Rattle.mb_policy.proofs.Accepted.{rules-accepted}
use Rattle.mb_policy.proofs.FieldNames.{fields-tested}
use Rattle.mb_policy.proofs.Files.{top, of_parts, fault-through}
use Rattle.mb_policy.proofs.read_file.Goals as goal

pub returns-then-not-has_top_fields-clause-answers : goal.returns-then-not-has_top_fields-clause-answers
returns-then-not-has_top_fields-clause-answers c =
    top (table_view c.args.file.now) false
    (fields-tested is_top_field c.args.file.now.entries c.has_top_fields.result c.has_top_fields.ensures ∙ c.if-not-has_top_fields.true)

pub returns-in-Err-clause-answers : goal.returns-in-Err-clause-answers
returns-in-Err-clause-answers c =
    let file = table_view c.args.file.now in
    let fields = fields-tested is_top_field c.args.file.now.entries c.has_top_fields.result c.has_top_fields.ensures ∙ c.if-not-has_top_fields.false in
    let rows : Some (items_view c.in-Some-rows.rows.now) ≡ rows_of (get_member (codes "rule") file) = rw c.in-Some-rows.is at c.rows.ensures in
    let whole = of_parts file c.in-Some.sided (items_view c.in-Some-rows.rows.now) fields (sym c.sided.ensures ∙ c.in-Some.is) (sym rows) in
    let P : Reading → Type 0 = λ r. AnswersRows c.read_rows.new.texts (Err c.in-Err.fault) r in
    subst P (sym whole) (fault-through c.read_rows.new.texts c.in-Err.fault _ c.in-Err.ensures.answers)

pub returns-in-Some-2-clause-answers : goal.returns-in-Some-2-clause-answers
returns-in-Some-2-clause-answers c =
    let file = table_view c.args.file.now in
    let fields = fields-tested is_top_field c.args.file.now.entries c.has_top_fields.result c.has_top_fields.ensures ∙ c.if-not-has_top_fields.false in
    let rows : Some (items_view c.in-Some-rows.rows.now) ≡ rows_of (get_member (codes "rule") file) = rw c.in-Some-rows.is at c.rows.ensures in
    let given = map (rule_by c.read_rows.new.texts) c.in-Ok.rules.items in
    let pair : conflict_in given ≡ Some (c.in-Some-2.first, c.in-Some-2.second) =
    ap (λ xs. conflict_in (map (rule_by c.read_rows.new.texts) xs)) (sym c.deref.ensures.value) ∙ sym c.in_ok-first.ensures ∙ c.in-Some-2.is in
    of_parts file c.in-Some.sided (items_view c.in-Some-rows.rows.now) fields (sym c.sided.ensures ∙ c.in-Some.is) (sym rows)
    ∙ ap without_conflict c.in-Ok.ensures.answers ∙ ap (λ o. unless_conflict o given) pair

pub returns-in-None-2-clause-answers : goal.returns-in-None-2-clause-answers
returns-in-None-2-clause-answers c =
    let file = table_view c.args.file.now in
    let fields = fields-tested is_top_field c.args.file.now.entries c.has_top_fields.result c.has_top_fields.ensures ∙ c.if-not-has_top_fields.false in
    let rows : Some (items_view c.in-Some-rows.rows.now) ≡ rows_of (get_member (codes "rule") file) = rw c.in-Some-rows.is at c.rows.ensures in
    let given = map (rule_by c.read_rows.new.texts) c.in-Ok.rules.items in
    let pair : conflict_in given ≡ None =
    ap (λ xs. conflict_in (map (rule_by c.read_rows.new.texts) xs)) (sym c.deref.ensures.value) ∙ sym c.in_ok-first.ensures ∙ c.in-None-2.is in
    of_parts file c.in-Some.sided (items_view c.in-Some-rows.rows.now) fields (sym c.sided.ensures ∙ c.in-Some.is) (sym rows)
    ∙ ap without_conflict c.in-Ok.ensures.answers ∙ ap (λ o. unless_conflict o given) pair

pub returns-in-None-2-clause-rules : goal.returns-in-None-2-clause-rules
returns-in-None-2-clause-rules c =
    let texts = c.read_rows.new.texts in
    let pair : conflict_in (map (rule_by texts) c.in-Ok.rules.items) ≡ None =
    ap (λ xs. conflict_in (map (rule_by texts) xs)) (sym c.deref.ensures.value) ∙ sym c.in_ok-first.ensures ∙ c.in-None-2.is in
    rules-accepted texts c.in-Ok.rules.items c.in-Ok.ensures.few c.in-Ok.ensures.ids pair
