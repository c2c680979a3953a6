-- The rules that the bytes of a policy file give.
use Rattle.std.specs.Prelude.{ℕ, ◌+◌, ℤ, pos, negsuc, List, [], ◌∷◌, Bool, true, false, ◌&&◌, ◌||◌, nat_eq, nat_le, Option, Some, None, is_some, option_and_then, Result, Ok, Err, if◌then◌else◌, codes}
use Rattle.std.specs.Str.{is_utf8, bytes_eq}
use Rattle.toml.specs.Data.{Data, as_array, Items, no_items, item, Members, get_member, as_integer, as_table}
use Rattle.toml.specs.Parse.{parse_document}
use Rattle.mb_world.specs.Graph.{Rule}
use Rattle.mb_policy.specs.declared.fault.PolicyKind.{PolicyKind}
use Rattle.mb_policy.specs.declared.fault.PolicyKind.TheVariants.{NotToml, Field, Conflict}
use Rattle.mb_policy.specs.Fields.{all_fields}
use Rattle.mb_policy.specs.Rows.{rule_of_row}
use Rattle.mb_policy.specs.Conflicts.{conflict_in}

-- the rules, or why there are none
abbrev pub Reading : Type 0
Reading = Result (List Rule) PolicyKind

-- ---- rows

abbrev pub with_rule : Rule → Reading → Reading
with_rule rule (Ok rules) = Ok (rule ∷ rules)
with_rule rule (Err kind) = Err kind

-- a row that gives no rule is named, before any later row
abbrev pub with_row : ℕ → Option Rule → Reading → Reading
with_row n None later = Err (Field n)
with_row n (Some rule) later = with_rule rule later

-- there are at most 1,000 rows
abbrev pub row_within : Bool → ℕ → Data → Option Rule
row_within sided n row = if nat_le n 1000 then rule_of_row sided row else None

-- the rules of rows, of which the first has the number n
abbrev pub rules_from : Bool → ℕ → Items → Reading
rules_from sided n no_items = Ok []
rules_from sided n (item row rows) = with_row n (row_within sided n row) (rules_from sided (n + 1) rows)

abbrev pub unless_conflict : Option (ℕ × ℕ) → List Rule → Reading
unless_conflict None rules = Ok rules
unless_conflict (Some pair) rules = Err (Conflict pair.0 pair.1)

-- rules of which no two conflict
abbrev pub without_conflict : Reading → Reading
without_conflict (Ok rules) = unless_conflict (conflict_in rules) rules
without_conflict (Err kind) = Err kind

-- ---- the top level, which is row 0

abbrev pub is_top_field : List ℕ → Bool
is_top_field field = bytes_eq field (codes "version") || bytes_eq field (codes "rule")

-- a file of version 1 names no sides, one of version 2 may
abbrev pub sided_by : ℤ → Option Bool
sided_by (pos n) = if nat_eq n 1 then Some false else (if nat_eq n 2 then Some true else None)
sided_by (negsuc n) = None

abbrev pub sided_of : Members → Option Bool
sided_of file = option_and_then sided_by (option_and_then as_integer (get_member (codes "version") file))

abbrev pub are_tables : Items → Bool
are_tables no_items = true
are_tables (item row rows) = is_some (as_table row) && are_tables rows

abbrev pub if_tables : Items → Option Items
if_tables rows = if are_tables rows then Some rows else None

-- the rows are an array of tables, and none where the field isn't there
abbrev pub rows_of : Option Data → Option Items
rows_of None = Some no_items
rows_of (Some d) = option_and_then if_tables (as_array d)

abbrev pub by_parts : Option Bool → Option Items → Reading
by_parts (Some sided) (Some rows) = without_conflict (rules_from sided 1 rows)
by_parts _ _ = Err (Field 0)

abbrev pub by_document : Option Members → Reading
by_document None = Err NotToml
by_document (Some file) =
    if all_fields is_top_field file
    then by_parts (sided_of file) (rows_of (get_member (codes "rule") file))
    else Err (Field 0)

-- the table that bytes are, where `toml` accepts them
unfoldable pub document_of : List ℕ → Option Members
document_of bytes = if is_utf8 bytes then parse_document bytes else None

-- the rules that the bytes of a policy file give, or what is wrong with them
abbrev pub RulesOf : List ℕ → Reading
RulesOf bytes = by_document (document_of bytes)
