use Rattle.std.specs.Prelude.{ℕ, List, [], ◌∷◌, Bool, true, false, not, ◌&&◌, ◌||◌, nat_eq, Option, Some, None, is_none, if◌then◌else◌, filter_map, option_map}
use Rattle.std.specs.Map.{keys_of}
use Rattle.mb_desc.specs.declared.descriptor.Full.{Full}
use Rattle.mb_desc.specs.declared.descriptor.Full.TheVariants.{Datum}
use Rattle.mb_world.specs.Value.{Val, same_units, same_value}
use Rattle.mb_world.specs.Key.{PropertyKey, Named, keys_in_order}
use Rattle.mb_desc.specs.Descriptors.{is_enumerable, is_configurable}
use Rattle.mb_desc.specs.View.{View}
use Rattle.mb_world.specs.Graph.{Graph, Thing, Kind, Proxy, Rule, RuleKind, Hide, ReadOnly, Substitute, Revoke}
use Rattle.mb_world.specs.Objects.{own_property, property_keys, thing_at}

-- what a side sees of an object under the policy, and which changes the policy decides

-- the object belongs to another side; a built-in belongs to all
abbrev pub foreign_owner : ℕ → Option ℕ → Bool
foreign_owner v None = false
foreign_owner v (Some s) = not (nat_eq s v)

abbrev pub is_foreign : ℕ → Thing → Bool
is_foreign v t = foreign_owner v t.owner

-- a rule without a side means every side
abbrev pub means_side : Option ℕ → ℕ → Bool
means_side None s = true
means_side (Some a) s = nat_eq a s

-- the rule is for an object of this owner and label, seen by side v
abbrev pub is_for : ℕ → Option ℕ → Option (List ℕ) → Rule → Bool
is_for v None l r = false
is_for v (Some s) None r = false
is_for v (Some s) (Some l) r = same_units r.label l && means_side r.owner s && means_side r.viewer v

-- the rule applies to an object as a side sees it
abbrev pub applies : ℕ → Thing → Rule → Bool
applies v t r = is_foreign v t && is_for v t.owner t.label r

-- some rule of this kind applies
abbrev pub some_rule : (RuleKind → Bool) → ℕ → Thing → List Rule → Bool
some_rule test v t [] = false
some_rule test v t (r ∷ rs) = applies v t r && test r.kind || some_rule test v t rs

-- no rule names a symbol
abbrev pub names_key : PropertyKey → RuleKind → Bool
names_key (Named k) (Hide x) = same_units x k
names_key (Named k) (Substitute x v) = same_units x k
names_key _ _ = false

-- the rule that applies and hides or substitutes the key
abbrev pub find_key_rule : PropertyKey → ℕ → Thing → List Rule → Option RuleKind
find_key_rule k v t [] = None
find_key_rule k v t (r ∷ rs) = if applies v t r && names_key k r.kind then Some r.kind else find_key_rule k v t rs

abbrev pub key_rule : Graph → ℕ → Thing → PropertyKey → Option RuleKind
key_rule g v t k = find_key_rule k v t g.rules

abbrev pub is_read_only_rule : RuleKind → Bool
is_read_only_rule ReadOnly = true
is_read_only_rule _ = false

abbrev pub is_revoke_rule : RuleKind → Bool
is_revoke_rule Revoke = true
is_revoke_rule _ = false

abbrev pub is_read_only : Graph → ℕ → Thing → Bool
is_read_only g v t = some_rule is_read_only_rule v t g.rules

-- the membrane, or the object's label, is revoked for a side
abbrev pub is_cut : Graph → ℕ → Thing → Bool
is_cut g v t = is_foreign v t && (g.revoked || some_rule is_revoke_rule v t g.rules)

-- a property as a rule shows it
abbrev pub shown_by : Option RuleKind → Option (Full Val) → Option (Full Val)
shown_by (Some (Hide x)) p = None
shown_by (Some (Substitute x v)) None = None
shown_by (Some (Substitute x v)) (Some p) = Some (Datum v false (is_enumerable p) (is_configurable p))
shown_by _ p = p

-- the property that a side sees of an object
abbrev pub shown_property : Graph → ℕ → Thing → PropertyKey → Option (Full Val)
shown_property g v t k = shown_by (key_rule g v t k) (own_property k t)

abbrev pub with_key : PropertyKey → Option (Full Val) → Option (PropertyKey × Full Val)
with_key k None = None
with_key k (Some f) = Some (k, f)

-- the view that a side has of an object that is no script-made Proxy, its keys in the order of ownKeys
abbrev pub Shown : Graph → ℕ → Thing → View PropertyKey Val
Shown g v t = record {
  prototype = t.prototype;
  extensible = t.extensible;
  properties = filter_map (λ k. with_key k (shown_property g v t k)) (keys_in_order (property_keys t.properties));
}

abbrev pub shown_keys : Graph → ℕ → Thing → List PropertyKey
shown_keys g v t = keys_of (Shown g v t).properties

-- a Proxy's owner, who acts in its traps; each has one, and s stands where none is
abbrev pub owner_or : ℕ → Option ℕ → ℕ
owner_or s None = s
owner_or s (Some p) = p

abbrev pub view_by_kind : Graph → ℕ → Thing → Kind → Option (View PropertyKey Val)
view_by_kind g v t (Proxy target handler shape) = option_map (Shown g (owner_or v t.owner)) (thing_at g target)
view_by_kind g v t (Kind.Gone shape) = None
view_by_kind g v t _ = Some (Shown g v t)

abbrev pub view_if : Graph → ℕ → Option Thing → Option (View PropertyKey Val)
view_if g v None = None
view_if g v (Some t) = view_by_kind g v t t.kind

-- the view of a value; that of a script-made Proxy is its owner's view of the target
abbrev pub ViewOf : Graph → ℕ → Val → Option (View PropertyKey Val)
ViewOf g v o = view_if g v (thing_at g o)

-- a change that a side asks of a foreign object
pub data Change : Type 0 where
  Proto : Val → Change
  Prevent : Change
  Define : PropertyKey → Change
  Write : PropertyKey → Change
  Remove : PropertyKey → Change

pub data Ruling : Type 0 where
  Free : Ruling
  Decided : Bool → Ruling

-- what a read-only rule decides
abbrev pub read_only_ruling : Graph → ℕ → Thing → Change → Ruling
read_only_ruling g v t (Proto p) = Decided (same_value p t.prototype)
read_only_ruling g v t Prevent = Decided (not t.extensible)
read_only_ruling g v t (Define k) = Decided false
read_only_ruling g v t (Write k) = Decided false
read_only_ruling g v t (Remove k) = Decided (is_none (shown_property g v t k))

-- what the rule of a key decides
abbrev pub key_ruling : Graph → ℕ → Thing → Change → Ruling
key_ruling g v t (Proto p) = Free
key_ruling g v t Prevent = Free
key_ruling g v t (Define k) = if is_none (key_rule g v t k) then Free else Decided false
key_ruling g v t (Write k) = Free
key_ruling g v t (Remove k) = if is_none (key_rule g v t k) then Free else Decided (is_none (shown_property g v t k))

-- the policy's table of changes: a read-only rule decides before the rule of a key
abbrev pub Admits : Graph → ℕ → Thing → Change → Ruling
Admits g v t c = if is_read_only g v t then read_only_ruling g v t c else key_ruling g v t c
