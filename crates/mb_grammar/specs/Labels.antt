-- Nodes with their names and numbers.
use Rattle.std.specs.Prelude.{ℕ, ℤ, pos, true, Some, None}
use Rattle.mb_base.specs.declared.value.StrId.{StrId}
use Rattle.mb_tree.specs.declared.kind.Kind.TheVariants as k
use Rattle.mb_tree.specs.declared.kind.PropKey.TheVariants as pk
use Rattle.mb_tree.specs.Roses.{Label, Rose, Roses, node, none, more, bare, named, size, join}
use Rattle.mb_grammar.specs.declared.function.Property.{Property}
use Rattle.mb_grammar.specs.declared.function.Maker.{Maker}
use Rattle.mb_grammar.specs.declared.function.Maker.TheVariants as mk

-- one, two and three parts

abbrev pub one_part : Rose → Roses
one_part a = more a none

abbrev pub two_parts : Rose → Rose → Roses
two_parts a b = more a (more b none)

abbrev pub three_parts : Rose → Rose → Rose → Roses
three_parts a b c = more a (more b (more c none))

abbrev pub param : StrId → Rose
param n = node (named k.Param n) none

-- keys of properties (ECMA-262, 13.2.5)

abbrev pub named_property : StrId → Property
named_property n = record { key = pk.Named; name = Some n; whole = pos 0 }

abbrev pub whole_property : ℤ → Property
whole_property z = record { key = pk.Whole; name = None; whole = z }

abbrev pub computed_property : Property
computed_property = record { key = pk.Computed; name = None; whole = pos 0 }

-- the node of a property with its value
abbrev pub value_label : Property → Label
value_label p = record { kind = k.Value p.key; name = p.name; whole = p.whole }

-- the node of what has so many parameters and a body in braces
abbrev pub made_label : Maker → ℕ → Label
made_label mk.Arrow n = bare (k.Arrow n true)
made_label (mk.Function name) n = record { kind = k.Function n; name = name; whole = pos 0 }
made_label (mk.Method p) n = record { kind = k.Method p.key n; name = p.name; whole = p.whole }
made_label (mk.Getter p) n = record { kind = k.Getter p.key; name = p.name; whole = p.whole }
made_label (mk.Setter p) n = record { kind = k.Setter p.key; name = p.name; whole = p.whole }

-- the key's expression, if it is one, then the parameters, then the body
abbrev pub made_node : Maker → Roses → Roses → Roses → Rose
made_node maker keys params body = node (made_label maker (size params)) (join keys (join params body))

abbrev pub IsFunction : Maker → Type 0
IsFunction (mk.Function name) = Unit {0}
IsFunction _ = ⊥

abbrev pub IsProperty : Maker → Type 0
IsProperty (mk.Method p) = Unit {0}
IsProperty (mk.Getter p) = Unit {0}
IsProperty (mk.Setter p) = Unit {0}
IsProperty _ = ⊥
