-- What a table of texts that gets further texts leaves of the ids of before.
use Rattle.std.proofs.Common.{◌≡◌, ◌∙◌, ℕ, ◌<◌, ◌≤◌, subst, List, [], ◌∷◌, length, Bool, true, false, Option, Some, None, option_map, map, refl, ap, ap₂, sym, arith, length-append, if◌then◌else◌}
use Rattle.std.proofs.lemmas.List.{get_or_append_left}
use Rattle.std.specs.List.{AllByRecursion}
use Rattle.mb_base.specs.declared.value.StrId.{StrId}
use Rattle.mb_base.specs.declared.value.Side.{Side}
use Rattle.mb_base.specs.declared.value.Value.{Value}
use Rattle.mb_base.specs.declared.value.Value.TheVariants as v
use Rattle.mb_text.specs.Texts.{text_at, KeepsIds}
use Rattle.mb_world.specs.Value.{Text}
use Rattle.mb_world.specs.Graph.{Hide, Substitute, Rule as GraphRule, RuleKind as GraphKind}
use Rattle.mb_world.specs.Image.{side_in}
use Rattle.mb_world.specs.declared.rule.Rule.{Rule}
use Rattle.mb_world.specs.declared.rule.RuleKind.{RuleKind}
use Rattle.mb_world.specs.declared.rule.RuleKind.TheVariants as r
use Rattle.mb_policy.specs.Rows.{are_one_side, rule_with}
use Rattle.mb_policy.specs.Accepted.{IsOfCharacters}
use Rattle.mb_policy.specs.Rules.{constant_by, kind_by, rule_by, IsText, IsConstant, IsKind, IsRule}
use Rattle.mb_policy.specs.machine.Names.{rule_with_sides}

pub text-kept : (a b : List (List ℕ)) (id : StrId) → KeepsIds a b → IsText a id → text_at b id ≡ text_at a id
text-kept a b id k h = ap (λ ts. text_at ts id) k.1 ∙ get_or_append_left a k.0 [] id.0 h.0

pub text-kept-in : (a b : List (List ℕ)) (id : StrId) → KeepsIds a b → IsText a id → IsText b id
text-kept-in a b id k h =
    let within : id.0 < length a = h.0 in
    let longer : id.0 < length b = rw (k.1) (omega (arith, within, length-append a k.0)) in
    (longer, subst IsOfCharacters (sym (text-kept a b id k h)) h.1)

pub constant-kept : (a b : List (List ℕ)) (x : Value) → KeepsIds a b → IsConstant a x → constant_by b x ≡ constant_by a x
constant-kept a b v.Undefined k h = refl
constant-kept a b v.Null k h = refl
constant-kept a b (v.Bool x) k h = refl
constant-kept a b (v.Whole x) k h = refl
constant-kept a b (v.Text id) k h = ap Text (text-kept a b id k h.0)
constant-kept a b (v.Symbol x) k h = refl
constant-kept a b (v.Object x) k h = absurd h

pub constant-kept-in : (a b : List (List ℕ)) (x : Value) → KeepsIds a b → IsConstant a x → IsConstant b x
constant-kept-in a b v.Undefined k h = h
constant-kept-in a b v.Null k h = h
constant-kept-in a b (v.Bool x) k h = h
constant-kept-in a b (v.Whole x) k h = h
constant-kept-in a b (v.Text id) k h =
    (text-kept-in a b id k h.0, subst (λ t. length t ≤ 1048576) (sym (text-kept a b id k h.0)) h.1)
constant-kept-in a b (v.Symbol x) k h = h
constant-kept-in a b (v.Object x) k h = h

pub kind-kept : (a b : List (List ℕ)) (x : RuleKind) → KeepsIds a b → IsKind a x → kind_by b x ≡ kind_by a x
kind-kept a b (r.Hide key) k h = ap Hide (text-kept a b key k h)
kind-kept a b r.ReadOnly k h = refl
kind-kept a b (r.Substitute key x) k h = ap₂ Substitute (text-kept a b key k h.0) (constant-kept a b x k h.1)
kind-kept a b r.Revoke k h = refl

pub kind-kept-in : (a b : List (List ℕ)) (x : RuleKind) → KeepsIds a b → IsKind a x → IsKind b x
kind-kept-in a b (r.Hide key) k h = text-kept-in a b key k h
kind-kept-in a b r.ReadOnly k h = h
kind-kept-in a b (r.Substitute key x) k h = (text-kept-in a b key k h.0, constant-kept-in a b x k h.1)
kind-kept-in a b r.Revoke k h = h

unfoldable pub rule_of_parts : Option ℕ → Option ℕ → List ℕ → GraphKind → GraphRule
rule_of_parts owner viewer label kind = record { label = label; kind = kind; owner = owner; viewer = viewer }

pub rule-kept : (a b : List (List ℕ)) (x : Rule) → KeepsIds a b → IsRule a x → rule_by b x ≡ rule_by a x
unfolding rule_of_parts
rule-kept a b x k h = ap₂ (rule_of_parts (side_in x.owner) (side_in x.viewer)) (text-kept a b x.label k h.0) (kind-kept a b x.kind k h.1)

pub rule-kept-in : (a b : List (List ℕ)) (x : Rule) → KeepsIds a b → IsRule a x → IsRule b x
rule-kept-in a b x k h = (text-kept-in a b x.label k h.0, kind-kept-in a b x.kind k h.1, h.2)

pub rules-kept : (a b : List (List ℕ)) (xs : List Rule) → KeepsIds a b → AllByRecursion (IsRule a) xs → map (rule_by b) xs ≡ map (rule_by a) xs
rules-kept a b [] k h = refl
rules-kept a b (x ∷ xs) k h = ap₂ (λ y ys. y ∷ ys) (rule-kept a b x k h.0) (rules-kept a b xs k h.1)

pub rules-kept-in : (a b : List (List ℕ)) (xs : List Rule) → KeepsIds a b → AllByRecursion (IsRule a) xs → AllByRecursion (IsRule b) xs
rules-kept-in a b [] k h = tt
rules-kept-in a b (x ∷ xs) k h = (rule-kept-in a b x k h.0, rules-kept-in a b xs k h.1)

-- ---- a rule from its parts

unless : (texts : List (List ℕ)) (t : Bool) (x : Rule) → option_map (rule_by texts) (if t then None else Some x) ≡ (if t then None else Some (rule_by texts x))
unless texts true x = refl
unless texts false x = refl

pub rule-made : (texts : List (List ℕ)) (label : StrId) (kind : RuleKind) (owner viewer : Option (Option Side))
    → option_map (rule_by texts) (rule_with_sides label kind owner viewer) ≡ rule_with (Some (text_at texts label)) (Some (kind_by texts kind)) (option_map side_in owner) (option_map side_in viewer)
rule-made texts label kind (Some owner) (Some viewer) = unless texts (are_one_side (side_in owner) (side_in viewer)) _
rule-made texts label kind (Some owner) None = refl
rule-made texts label kind None viewer = refl
