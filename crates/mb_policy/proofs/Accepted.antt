-- Rules by ids of a table stand for rules that a file can give.
use Rattle.std.proofs.Common.{◌≡◌, ℕ, ◌<◌, ◌≤◌, List, [], ◌∷◌, length, Bool, true, false, Option, Some, None, map, refl, sym, subst, if◌then◌else◌}
use Rattle.std.specs.Prelude.{All, option_map, IfOk, Result, Ok, Err, slice_get}
use Rattle.std.specs.Str.{IsUtf8, chars}
use Rattle.std.specs.List.{AllByRecursion}
use Rattle.std.proofs.lemmas.List.{length-map}
use Rattle.std.proofs.lemmas.List.Elements.{All-from_recursion, recursion_from_All}
use Rattle.std.proofs.lemmas.Option.{slice_get_within, get_or_from_slice_get}
use Rattle.std.proofs.lemmas.Str.{scalars-chars}
use Rattle.mb_base.specs.declared.value.StrId.{StrId}
use Rattle.mb_base.specs.declared.value.Side.{Side}
use Rattle.mb_base.specs.declared.value.Value.{Value}
use Rattle.mb_base.specs.declared.value.Value.TheVariants as v
use Rattle.mb_text.specs.Texts.{text_at}
use Rattle.mb_world.specs.Ids.{Maybe}
use Rattle.mb_world.specs.Image.{side_in}
use Rattle.mb_world.specs.declared.rule.Rule.{Rule}
use Rattle.mb_world.specs.declared.rule.RuleKind.{RuleKind}
use Rattle.mb_world.specs.declared.rule.RuleKind.TheVariants as r
use Rattle.mb_policy.specs.Accepted.{MayBeConstant, MayBeKind, MayBeRule, IsSideNumber, AreRules}
use Rattle.mb_policy.specs.Conflicts.{conflict_in}
use Rattle.mb_policy.specs.Fields.{text_units}
use Rattle.mb_policy.specs.Rows.{are_one_side}
use Rattle.mb_policy.specs.Rules.{constant_by, kind_by, rule_by, IsText, IsConstant, IsKind, IsSide, IsRule}
use Rattle.mb_policy.specs.machine.Names.{rule_with_sides}

-- the id of a text that was taken in
is_text_of : (texts : List (List ℕ)) (id : StrId) (bytes : List ℕ) → IsUtf8 bytes → id.0 < length texts → text_at texts id ≡ text_units bytes → IsText texts id
unfolding text_units
is_text_of texts id bytes utf8 within is =
    (within, record { characters = chars bytes; are_characters = scalars-chars bytes utf8; spelled = is })

pub taken-in : {E : Type 0} (texts : List (List ℕ)) (bytes : List ℕ) (r : Result StrId E) → IsUtf8 bytes
    → IfOk r (λ id. slice_get texts id.0 ≡ Some (text_units bytes)) → IfOk r (IsText texts)
taken-in texts bytes (Ok id) utf8 h =
    is_text_of texts id bytes utf8 (slice_get_within texts id.0 (text_units bytes) h) (get_or_from_slice_get texts id.0 (text_units bytes) [] h)
taken-in texts bytes (Err fault) utf8 h = tt

-- ---- a rule from its parts

pub some-side : (side : Option Side) → Maybe IsSide side → Maybe (Maybe IsSide) (option_map Some side)
some-side None h = tt
some-side (Some s) h = h

unless-one : (texts : List (List ℕ)) (t : Bool) (x : Rule) → (t ≡ false → IsRule texts x) → Maybe (IsRule texts) (if t then None else Some x)
unless-one texts true x h = tt
unless-one texts false x h = h refl

pub rule-in : (texts : List (List ℕ)) (label : StrId) (kind : RuleKind) (owner viewer : Option (Option Side)) → IsText texts label → IsKind texts kind
    → Maybe (Maybe IsSide) owner → Maybe (Maybe IsSide) viewer → Maybe (IsRule texts) (rule_with_sides label kind owner viewer)
rule-in texts label kind (Some owner) (Some viewer) is_label is_kind is_owner is_viewer =
    unless-one texts (are_one_side (side_in owner) (side_in viewer)) _
    (λ apart. (is_label, is_kind, record { owner_is = is_owner; viewer_is = is_viewer; apart = apart }))
rule-in texts label kind (Some owner) None is_label is_kind is_owner is_viewer = tt
rule-in texts label kind None viewer is_label is_kind is_owner is_viewer = tt

-- ---- what rules stand for

module _ (texts : List (List ℕ)) where
  constant-allowed : (x : Value) → IsConstant texts x → MayBeConstant (constant_by texts x)
  constant-allowed v.Undefined h = absurd h
  constant-allowed v.Null h = absurd h
  constant-allowed (v.Bool b) h = tt
  constant-allowed (v.Whole z) h = h
  constant-allowed (v.Text id) h = (h.0.1, h.1)
  constant-allowed (v.Symbol id) h = absurd h
  constant-allowed (v.Object id) h = absurd h

  kind-allowed : (kind : RuleKind) → IsKind texts kind → MayBeKind (kind_by texts kind)
  kind-allowed (r.Hide key) h = h.1
  kind-allowed r.ReadOnly h = tt
  kind-allowed (r.Substitute key value) h = (h.0.1, constant-allowed value h.1)
  kind-allowed r.Revoke h = tt

  side-allowed : (side : Option Side) → Maybe IsSide side → Maybe IsSideNumber (side_in side)
  side-allowed None h = tt
  side-allowed (Some s) h = h

  rule-allowed : (x : Rule) → IsRule texts x → MayBeRule (rule_by texts x)
  rule-allowed x h = record {
    label = h.0.1;
    kind = kind-allowed x.kind h.1;
    owner = side-allowed x.owner h.2.owner_is;
    viewer = side-allowed x.viewer h.2.viewer_is;
    apart = h.2.apart;
  }

  each-allowed : (rules : List Rule) → AllByRecursion (IsRule texts) rules → AllByRecursion MayBeRule (map (rule_by texts) rules)
  each-allowed [] h = tt
  each-allowed (x ∷ rules) h = (rule-allowed x h.0, each-allowed rules h.1)

  pub rules-accepted : (rules : List Rule) → length rules ≤ 1000 → All (IsRule texts) rules → conflict_in (map (rule_by texts) rules) ≡ None
      → AreRules (map (rule_by texts) rules)
  rules-accepted rules few all none = record {
    few = subst (λ n. n ≤ 1000) (sym (length-map rules (rule_by texts))) few;
    allowed = All-from_recursion MayBeRule (map (rule_by texts) rules) (each-allowed rules (recursion_from_All (IsRule texts) rules all));
    no_conflict = none;
  }
