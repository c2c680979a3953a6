-- How the first two conflicting rows are found: each row is linked to the last one before it of the same label and key.
use Rattle.std.specs.Prelude.{◌≡◌, ◌≢◌, ℕ, ◌+◌, ◌<◌, ◌≤◌, List, length, Bool, false, ◌&&◌, nat_eq, Option, Some, None, option_and_then, slice_get, slice_index_or, take, if◌then◌else◌}
use Rattle.std.specs.List.{list_any, position_from}
use Rattle.std.specs.Map.{lookup}
use Rattle.mb_base.specs.declared.value.StrId.{StrId}
use Rattle.mb_world.specs.declared.rule.Rule.{Rule}
use Rattle.mb_world.specs.declared.rule.RuleKind.{RuleKind}
use Rattle.mb_world.specs.declared.rule.RuleKind.TheVariants as r
use Rattle.mb_world.specs.Image.{side_in}
use Rattle.mb_policy.specs.declared.chain.Named.{Named}
use Rattle.mb_policy.specs.Conflicts.{means_pair, all_sides}

-- ---- conflicts by ids

abbrev pub key_of : RuleKind → Option StrId
key_of (r.Hide key) = Some key
key_of r.ReadOnly = None
key_of (r.Substitute key value) = Some key
key_of r.Revoke = None

abbrev pub named_by : StrId → Option StrId → Option Named
named_by label None = None
named_by label (Some key) = Some (record { label = label; key = key })

-- the label and the key that a rule names
abbrev pub name_of : Rule → Option Named
name_of rule = named_by rule.label (key_of rule.kind)

abbrev pub same_name : Named → Named → Bool
same_name a b = nat_eq a.label.0 b.label.0 && nat_eq a.key.0 b.key.0

abbrev pub name_alike : Option Named → Option Named → Bool
name_alike (Some a) (Some b) = same_name a b
name_alike _ _ = false

-- the rules mean an owner and a viewer in common
abbrev pub both_mean : Rule → Rule → ℕ → ℕ → Bool
both_mean a b o v =
    means_pair (side_in a.owner) (side_in a.viewer) o v && means_pair (side_in b.owner) (side_in b.viewer) o v

abbrev pub has_viewer : Rule → Rule → ℕ → Bool
has_viewer a b o = list_any (λ v. both_mean a b o v) all_sides

abbrev pub meet_by : Rule → Rule → Bool
meet_by a b = list_any (λ o. has_viewer a b o) all_sides

abbrev pub clash : Rule → Rule → Bool
clash a b = name_alike (name_of a) (name_of b) && meet_by a b

-- ---- links

abbrev pub name_at : List Rule → ℕ → Option Named
name_at rules place = option_and_then name_of (slice_get rules place)

-- no rule of these places has the name
abbrev pub Lacks : List Rule → Named → ℕ → ℕ → Type 0
Lacks rules name from to = (p : ℕ) → from ≤ p → p < to → name_at rules p ≢ Some name

-- the last place before `to` of a rule with the name
abbrev pub IsLast : List Rule → Named → ℕ → Option ℕ → Type 0
IsLast rules name to None = Lacks rules name 0 to
IsLast rules name to (Some p) = (p < to) × (name_at rules p ≡ Some name) × Lacks rules name (p + 1) to

-- the link of a rule with that name, if any
abbrev pub IsLink : List Rule → ℕ → Option Named → Option ℕ → Type 0
IsLink rules to None link = link ≡ None
IsLink rules to (Some name) link = IsLast rules name to link

abbrev pub link_at : List (Option ℕ) → ℕ → Option ℕ
link_at links place = slice_index_or links place None

abbrev pub AreLinks : List Rule → List (Option ℕ) → Type 0
AreLinks rules links = (p : ℕ) → p < length links → IsLink rules p (name_at rules p) (link_at links p)

-- ---- the last place of each name

abbrev pub latest_of : List (Named × ℕ) → Named → Option ℕ
latest_of entries name = lookup (same_name name) entries

abbrev pub AreLatest : List Rule → ℕ → List (Named × ℕ) → Type 0
AreLatest rules to entries = (name : Named) → IsLast rules name to (latest_of entries name)

-- noting a rule at its place gives the place that was noted before for its name
abbrev pub Notes : List (Named × ℕ) → List (Named × ℕ) → Option Named → ℕ → Option ℕ → Type 0
Notes old new None place link = (link ≡ None) × ((q : Named) → latest_of new q ≡ latest_of old q)
Notes old new (Some name) place link =
    (link ≡ latest_of old name)
    × ((q : Named) → latest_of new q ≡ (if same_name name q then Some place else latest_of old q))

-- ---- the rule at a place beside those before it

abbrev pub clash_if : Option Rule → Option Rule → Bool
clash_if (Some a) (Some b) = clash a b
clash_if _ _ = false

abbrev pub clash_at : List Rule → ℕ → ℕ → Bool
clash_at rules p place = clash_if (slice_get rules p) (slice_get rules place)

abbrev pub first_clash_with : List Rule → Option Rule → Option ℕ
first_clash_with before None = None
first_clash_with before (Some rule) = position_from (λ other. clash other rule) 1 before

-- the number of the first rule before that place that conflicts with the one there
abbrev pub first_clash_at : List Rule → ℕ → Option ℕ
first_clash_at rules place = first_clash_with (take place rules) (slice_get rules place)

-- how many places a link has at most before it
abbrev pub steps_left : Option ℕ → ℕ
steps_left None = 0
steps_left (Some p) = p + 1
