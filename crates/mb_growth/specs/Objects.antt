-- An object of the graph as a view: what of it may be asked, apart from owner, label and kind.
use Rattle.std.specs.Prelude.{◌≡◌, Bool, true, false, map, Option, Some, None, is_some, if◌then◌else◌, ℕ}
use Rattle.mb_desc.specs.declared.descriptor.Full.{Full}
use Rattle.mb_desc.specs.declared.descriptor.Full.TheVariants.{Datum}
use Rattle.mb_desc.specs.View.{View}
use Rattle.mb_view.specs.Views.{Sort, Evolves}
use Rattle.mb_view.specs.Views as views
use Rattle.mb_view.specs.Shown.{Treatment, Untouched, Hidden, Substituted}
use Rattle.mb_world.specs.Value.{Val}
use Rattle.mb_world.specs.Key.{PropertyKey, Named, SymbolKey, same_key, index_of}
use Rattle.mb_world.specs.Graph.{Graph, Thing, Kind, Array, Property, RuleKind, Hide, ReadOnly, Substitute, Revoke}
use Rattle.mb_world.specs.Objects.{own_property}
use Rattle.mb_world.specs.Arrays.{length_key}
use Rattle.mb_world.specs.View.{key_rule}

abbrev pub pair : Property → PropertyKey × Full Val
pair p = (p.key, p.full)

abbrev pub as_view : Thing → View PropertyKey Val
as_view t = record { prototype = t.prototype; extensible = t.extensible; properties = map pair t.properties }

-- the sorts that ownKeys lists one after the other (ECMA-262 10.1.11.1)
abbrev pub sort_of : PropertyKey → Sort
sort_of (Named text) = if is_some (index_of text) then views.Index else views.Text
sort_of (SymbolKey n) = views.Symbol

-- one object may be followed by the other (ECMA-262 6.1.7.3)
abbrev pub EvolvesTo : Thing → Thing → Type 0
EvolvesTo t u = Evolves same_key sort_of (as_view t) (as_view u)

abbrev pub is_array : Kind → Bool
is_array Array = true
is_array _ = false

-- an array has a `length` that is a data property, neither enumerable nor configurable (ECMA-262 10.4.2.2)
abbrev pub HasLength : Thing → Type 0
HasLength t = (value : Val) × (writable : Bool)
    × (own_property length_key t ≡ Some (Datum value writable false false))

-- no two properties of an object have the same key, and an array has its `length`
pub record IsFormed (t : Thing) : Type 0 where
  pub distinct : views.HasDistinctKeys same_key (as_view t)
  pub array : is_array t.kind ≡ true → HasLength t

-- what the rule of a key does with it
abbrev pub treatment : Option RuleKind → Treatment Val
treatment None = Untouched
treatment (Some (Hide x)) = Hidden
treatment (Some ReadOnly) = Untouched
treatment (Some (Substitute x v)) = Substituted v
treatment (Some Revoke) = Untouched

-- how a side sees the keys of an object
abbrev pub rule_of : Graph → ℕ → Thing → PropertyKey → Treatment Val
rule_of g v t k = treatment (key_rule g v t k)
