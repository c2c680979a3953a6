-- What a file gives, from what stands in it.
use Rattle.std.proofs.Common.{◌≡◌, ◌∙◌, ◌<◌, ◌+◌, ℕ, List, [], ◌∷◌, ◌++◌, length, map, drop, get_or, Bool, true, false, Some, None, Ok, Err, cond, refl, sym, ap, ap₂, append_assoc}
use Rattle.std.specs.Prelude.{All, codes, if◌then◌else◌}
use Rattle.std.specs.Str.{IsUtf8, is_utf8}
use Rattle.std.proofs.lemmas.List.{map_push}
use Rattle.std.proofs.lemmas.List.Elements.{recursion_from_All}
use Rattle.std.proofs.lemmas.Str.{IsUtf8-from_is_utf8, is_utf8-from_IsUtf8}
use Rattle.toml.specs.Data.{Members, Items, get_member}
use Rattle.toml.specs.Parse.{parse_document}
use Rattle.toml.specs.View.{view, items_view}
use Rattle.toml.specs.declared.value.Value.{Value}
use Rattle.toml.proofs.Views.{items_view-drop}
use Rattle.mb_text.specs.Texts.{KeepsIds}
use Rattle.mb_world.specs.Graph.{Rule as GraphRule}
use Rattle.mb_world.specs.declared.rule.Rule.{Rule}
use Rattle.mb_policy.specs.declared.fault.PolicyKind.TheVariants.{Field}
use Rattle.mb_policy.specs.declared.fault.PolicyFault.{PolicyFault}
use Rattle.mb_policy.specs.declared.fault.PolicyFault.TheVariants.{Refused, NoMemory}
use Rattle.mb_policy.specs.Fields.{all_fields}
use Rattle.mb_policy.specs.Policy.{Reading, with_rule, with_row, row_within, rules_from, without_conflict, is_top_field, sided_of, rows_of, by_parts, by_document, document_of}
use Rattle.mb_policy.specs.Rules.{rule_by, IsRule}
use Rattle.mb_policy.specs.machine.Answers.{AnswersRows, after}
use Rattle.mb_policy.proofs.Kept.{rules-kept}

-- ---- rows

after-rule : (rules : List GraphRule) (rule : GraphRule) (later : Reading) → after rules (with_rule rule later) ≡ after (rules ++ rule ∷ []) later
after-rule rules rule (Ok more) = ap Ok (sym (append_assoc rules (rule ∷ []) more))
after-rule rules rule (Err kind) = refl

-- a row that gives a rule
pub rows-step : (sided : Bool) (rows : List Value) (place : ℕ) (row : Value) (old new : List (List ℕ)) (rules : List Rule) (rule : Rule)
    → place < length rows → row ≡ get_or rows place row → KeepsIds old new → All (IsRule old) rules → Some (rule_by new rule) ≡ row_within sided (place + 1) (view row)
    → after (map (rule_by old) rules) (rules_from sided (place + 1) (items_view (drop place rows))) ≡ after (map (rule_by new) (rules ++ rule ∷ [])) (rules_from sided (place + 1 + 1) (items_view (drop (place + 1) rows)))
rows-step sided rows place row old new rules rule below is kept all given =
    let later = rules_from sided (place + 1 + 1) (items_view (drop (place + 1) rows)) in
    let before = map (rule_by old) rules in
    let same : map (rule_by new) rules ≡ before = rules-kept old new rules kept (recursion_from_All (IsRule old) rules all) in
    ap (λ rest. after before (rules_from sided (place + 1) rest)) (items_view-drop rows place row below)
    ∙ ap (λ o. after before (with_row (place + 1) o later)) (ap (λ x. row_within sided (place + 1) (view x)) (sym is) ∙ sym given)
    ∙ after-rule before (rule_by new rule) later
    ∙ ap (λ rs. after rs later) (ap (λ rs. rs ++ rule_by new rule ∷ []) (sym same) ∙ sym (map_push (rule_by new) rules rule))

-- ---- the top level

pub top : (file : Members) (b : Bool) → all_fields is_top_field file ≡ b
    → by_document (Some file) ≡ (if b then by_parts (sided_of file) (rows_of (get_member (codes "rule") file)) else Err (Field 0))
top file b h = ap (λ t. if t then by_parts (sided_of file) (rows_of (get_member (codes "rule") file)) else Err (Field 0)) h

pub of_parts : (file : Members) (sided : Bool) (rows : Items) → all_fields is_top_field file ≡ true → sided_of file ≡ Some sided → rows_of (get_member (codes "rule") file) ≡ Some rows
    → by_document (Some file) ≡ without_conflict (rules_from sided 1 rows)
of_parts file sided rows fields a b = top file true fields ∙ ap₂ by_parts a b

-- a fault of a row is one of the file
pub fault-through : (texts : List (List ℕ)) (fault : PolicyFault) (reading : Reading) → AnswersRows texts (Err fault) reading → AnswersRows texts (Err fault) (without_conflict reading)
fault-through texts (Refused kind) reading h = ap without_conflict h
fault-through texts NoMemory reading h = tt

-- ---- the bytes

pub accepted : (bytes : List ℕ) (t : Members) → IsUtf8 bytes → parse_document bytes ≡ Some t → document_of bytes ≡ Some t
unfolding document_of
accepted bytes t utf8 parsed = ap (λ b. cond b (parse_document bytes) None) (is_utf8-from_IsUtf8 bytes utf8) ∙ parsed

pub refused : (bytes : List ℕ) → (IsUtf8 bytes → parse_document bytes ≡ None) → document_of bytes ≡ None
unfolding document_of
refused bytes none = by (is_utf8 bytes) refl
  where
    by : (b : Bool) → is_utf8 bytes ≡ b → cond b (parse_document bytes) None ≡ None
    by true e = none (IsUtf8-from_is_utf8 bytes e)
    by false e = refl
