-- The rule that a row of a policy file gives.
use Rattle.std.specs.Prelude.{ℕ, List, Bool, false, ◌&&◌, ◌||◌, nat_eq, Option, Some, None, option_map, option_and_then, if◌then◌else◌, codes}
use Rattle.std.specs.Str.{bytes_eq}
use Rattle.toml.specs.Data.{Data, Members, as_table}
use Rattle.mb_world.specs.Value.{Val}
use Rattle.mb_world.specs.Graph.{Rule, RuleKind, Hide, ReadOnly, Substitute, Revoke}
use Rattle.mb_policy.specs.declared.kind.KindName.{KindName}
use Rattle.mb_policy.specs.declared.kind.KindName.TheVariants as name
use Rattle.mb_policy.specs.Fields.{all_fields, str_at, units_at, constant_at, side_at}

-- the kind of a name
abbrev pub kind_named : List ℕ → Option KindName
kind_named word =
    if bytes_eq word (codes "hide") then Some name.Hide
    else (if bytes_eq word (codes "read-only") then Some name.ReadOnly
    else (if bytes_eq word (codes "substitute") then Some name.Substitute
    else (if bytes_eq word (codes "revoke") then Some name.Revoke
    else None)))

-- ---- which fields a row may have

abbrev pub is_common_field : List ℕ → Bool
is_common_field field = bytes_eq field (codes "label") || bytes_eq field (codes "kind")

abbrev pub is_side_field : List ℕ → Bool
is_side_field field = bytes_eq field (codes "owner") || bytes_eq field (codes "viewer")

abbrev pub is_kind_field : KindName → List ℕ → Bool
is_kind_field name.Hide field = bytes_eq field (codes "key")
is_kind_field name.ReadOnly field = false
is_kind_field name.Substitute field = bytes_eq field (codes "key") || bytes_eq field (codes "value")
is_kind_field name.Revoke field = false

-- the fields that name sides stand only where the file's version has them
abbrev pub is_field : Bool → KindName → List ℕ → Bool
is_field sided kind field = (is_common_field field || is_kind_field kind field) || (sided && is_side_field field)

-- ---- the rule

abbrev pub substitute_with : Option (List ℕ) → Option Val → Option RuleKind
substitute_with (Some key) (Some value) = Some (Substitute key value)
substitute_with _ _ = None

-- the kind with its key and its constant
abbrev pub kind_with : KindName → Members → Option RuleKind
kind_with name.Hide row = option_map Hide (units_at (codes "key") row)
kind_with name.ReadOnly row = Some ReadOnly
kind_with name.Substitute row = substitute_with (units_at (codes "key") row) (constant_at (codes "value") row)
kind_with name.Revoke row = Some Revoke

-- both are given and are one side
abbrev pub are_one_side : Option ℕ → Option ℕ → Bool
are_one_side (Some a) (Some b) = nat_eq a b
are_one_side _ _ = false

abbrev pub rule_with : Option (List ℕ) → Option RuleKind → Option (Option ℕ) → Option (Option ℕ) → Option Rule
rule_with (Some label) (Some kind) (Some owner) (Some viewer) =
    if are_one_side owner viewer then None
    else Some (record { label = label; kind = kind; owner = owner; viewer = viewer })
rule_with _ _ _ _ = None

-- the rule of a row of that kind
abbrev pub rule_of_kind : Bool → Option KindName → Members → Option Rule
rule_of_kind sided None row = None
rule_of_kind sided (Some kind) row =
    if all_fields (is_field sided kind) row
    then rule_with (units_at (codes "label") row) (kind_with kind row)
    (side_at (codes "owner") row) (side_at (codes "viewer") row)
    else None

abbrev pub rule_of : Bool → Members → Option Rule
rule_of sided row = rule_of_kind sided (option_and_then kind_named (str_at (codes "kind") row)) row

-- the rule of a row, which is a table
abbrev pub rule_of_row : Bool → Data → Option Rule
rule_of_row sided row = option_and_then (rule_of sided) (as_table row)
