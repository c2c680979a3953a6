use Rattle.std.specs.Prelude.{ℕ, List, length, Bool, true, false, Option, Some, None, codes, pos}
use Rattle.mb_desc.specs.declared.descriptor.Full.TheVariants.{Datum}
use Rattle.mb_world.specs.Value.{Val, Whole, Text}
use Rattle.mb_world.specs.Key.{Named}
use Rattle.mb_world.specs.Graph.{Code, Plain, Array, Function, Thing, Graph}
use Rattle.mb_world.specs.Standard.{object_prototype, function_prototype, array_prototype}
use Rattle.mb_world.specs.Objects.{thing_at, with_thing, with_property, new_thing}
use Rattle.mb_world.specs.Arrays.{length_key, with_length, put_elements}
use Rattle.mb_model.specs.Task.{Answer}
use Rattle.mb_model.specs.Writing.{Does, ◌>>=◌, give, change, make}

-- making objects, and changing one

-- OrdinaryObjectCreate (ECMA-262 10.1.12)
abbrev pub make_plain : ℕ → Option (List ℕ) → Val → Does Val
make_plain s label p = make (new_thing s label Plain p)

abbrev pub with_elements : List Val → Thing → Thing
with_elements vs t = record t { properties = put_elements 0 vs t.properties }

abbrev pub array_thing : ℕ → Val → ℕ → List Val → Thing
array_thing s p n vs = with_elements vs (with_length n true (new_thing s None Array p))

-- ArrayCreate and CreateArrayFromList (ECMA-262 10.4.2.2, 7.3.18)
abbrev pub make_array : ℕ → List Val → Does Val
make_array s vs = make (array_thing s array_prototype (length vs) vs)

-- SetFunctionLength, SetFunctionName (ECMA-262 10.2.10, 10.2.9)
abbrev pub with_length_and_name : ℕ → List ℕ → Thing → Thing
with_length_and_name n name t = with_property (Named (codes "name")) (Datum (Text name) false false true)
    (with_property length_key (Datum (Whole (pos n)) false false true) t)

abbrev pub function_thing : ℕ → Option (List ℕ) → Code → ℕ → List ℕ → Thing
function_thing s label c n name = with_length_and_name n name (new_thing s label (Function c) function_prototype)

abbrev pub altered : Val → (Thing → Thing) → Option Thing → Graph → Graph
altered o f None g = g
altered o f (Some t) g = with_thing o (f t) g

-- one change of an object
abbrev pub alter : Val → (Thing → Thing) → Does Answer
alter o f = change (λ g. altered o f (thing_at g o) g)

-- MakeConstructor (ECMA-262 10.2.5)
abbrev pub make_constructor : ℕ → Bool → Val → Does Val
make_constructor s false f = give f
make_constructor s true f = do
  p ← make_plain s None object_prototype
  _ ← alter f (with_property (Named (codes "prototype")) (Datum p true false false))
  _ ← alter p (with_property (Named (codes "constructor")) (Datum f true false true))
  give f

-- OrdinaryFunctionCreate (ECMA-262 10.2.3): a function of a node in a scope
abbrev pub make_function : Code → Option (List ℕ) → ℕ → List ℕ → Does Val
make_function c label params name = do
  f ← make (function_thing c.side label c params name)
  make_constructor c.side c.constructs f
