-- A world as plain data: the lists and flags that its calls tell, and the world after each call.
use Rattle.std.specs.Prelude.{ℕ, suc, ◌+◌, nat_eq, ◌-◌, ◌^◌, Bool, true, false, ◌&&◌, ◌||◌, List, [], ◌∷◌, ◌++◌, take, drop, Option, Some, None, slice_get, slice_set, slice_index_or, map, option_map, position, codes, pos}
use Rattle.std.specs.List.{filter, position_or_len}
use Rattle.std.specs.Str.{bytes_eq as same_text}
use Rattle.mb_base.specs.declared.value.StrId.{StrId}
use Rattle.mb_base.specs.declared.value.SymId.{SymId}
use Rattle.mb_base.specs.declared.value.NodeId.{NodeId}
use Rattle.mb_base.specs.declared.value.ScopeId.{ScopeId}
use Rattle.mb_base.specs.declared.value.ObjId.{ObjId}
use Rattle.mb_base.specs.declared.value.Key.{Key}
use Rattle.mb_base.specs.declared.value.Key.TheVariants as k
use Rattle.mb_base.specs.declared.value.Side.{Side}
use Rattle.mb_base.specs.declared.value.Value.{Value}
use Rattle.mb_base.specs.declared.value.Value.TheVariants as v
use Rattle.mb_desc.specs.declared.descriptor.Full.{Full}
use Rattle.mb_desc.specs.declared.descriptor.Full.TheVariants.{Datum}
use Rattle.mb_props.specs.Table.{insert_entry, without, found}
use Rattle.mb_text.specs.Texts.{with_text}
use Rattle.mb_tree.specs.declared.program.Program.{Program}
use Rattle.mb_tree.specs.Roses.{Shape, shapes}
use Rattle.mb_world.specs.declared.cell.CellKind.{CellKind}
use Rattle.mb_world.specs.declared.cell.CellKind.TheVariants.{Array, BuiltIn, Membrane, Shadow, Collection}
use Rattle.mb_world.specs.declared.cell.Cell.{Cell}
use Rattle.mb_world.specs.declared.scope.Scope.{Scope}
use Rattle.mb_world.specs.declared.scope.Bound.{Bound}
use Rattle.mb_world.specs.declared.scope.Job.{Job}
use Rattle.mb_world.specs.declared.entry.Entry.{Entry}
use Rattle.mb_world.specs.declared.rule.Rule.{Rule}

-- a side's script: its nodes in post-order, and what its scopes bind
pub record Script : Type 0 where
  pub nodes : List Shape
  pub names : List (NodeId × StrId × Bool)

abbrev pub script_of : Program → Script
script_of p = record { nodes = shapes p.tree; names = p.scopes }

-- Programs and queues stand in the order of the sides, of which there may be eight; `sides` tells how many take part. A
-- symbol is its description, if it has one.
pub record Data : Type 0 where
  pub texts : List (List ℕ)
  pub symbols : List (Option StrId)
  pub sides : ℕ
  pub programs : List (Option Script)
  pub cells : List Cell
  pub scopes : List Scope
  pub queues : List (List Job)
  pub entries : List Entry
  pub rules : List Rule
  pub revoked : Bool
  pub joined : Bool
  pub halted : Bool

-- a fresh world
abbrev pub fresh : Data
fresh = record {
  texts = [];
  symbols = [];
  sides = 0;
  programs = None ∷ None ∷ None ∷ None ∷ None ∷ None ∷ None ∷ None ∷ [];
  cells = [];
  scopes = [];
  queues = [] ∷ [] ∷ [] ∷ [] ∷ [] ∷ [] ∷ [] ∷ [] ∷ [];
  entries = [];
  rules = [];
  revoked = false;
  joined = false;
  halted = false;
}

-- ---- what a world tells of an id

abbrev pub obj_id : ℕ → ObjId
obj_id n = record { 0 = n }

abbrev pub cell_at : Data → ObjId → Option Cell
cell_at d id = slice_get d.cells id.0

abbrev pub scope_at : Data → ScopeId → Option Scope
scope_at d id = slice_get d.scopes id.0

-- the property of a key of a cell
abbrev pub property_in : Key → Option Cell → Option (Full Value)
property_in key None = None
property_in key (Some c) = found c.props key

abbrev pub property_at : Data → ObjId → Key → Option (Full Value)
property_at d id key = property_in key (cell_at d id)

abbrev pub slots_in : Option Cell → List (Option (Value × Value))
slots_in None = []
slots_in (Some c) = c.slots

-- the slots of a collection
abbrev pub slots_at : Data → ObjId → List (Option (Value × Value))
slots_at d id = slots_in (cell_at d id)

abbrev pub names_in : Option Scope → List Bound
names_in None = []
names_in (Some s) = s.names

-- the names of a scope
abbrev pub names_at : Data → ScopeId → List Bound
names_at d id = names_in (scope_at d id)

abbrev pub has_name : StrId → Bound → Bool
has_name name b = nat_eq name.0 b.name.0

abbrev pub queue_of : Data → Side → List Job
queue_of d side = slice_index_or d.queues side.0 []

abbrev pub program_of : Data → Side → Option Script
program_of d side = slice_index_or d.programs side.0 None

-- the text of a rule's label
abbrev pub label_of : Rule → ℕ
label_of r = r.label.0

-- the rules for a label
abbrev pub labelled : StrId → List Rule → List Rule
labelled label rules = filter (λ r. nat_eq (label_of r) label.0) rules

abbrev pub description_of : Data → SymId → Option StrId
description_of d id = slice_index_or d.symbols id.0 None

-- ---- which cells have a number

abbrev pub is_collection : CellKind → Bool
is_collection (Collection coll) = true
is_collection _ = false

-- what a reference to a cell stands for: the object itself, which is counted, a built-in, the object behind a
-- membrane proxy, or nothing
pub data Stand : Type 0 where
  Counted : Stand
  AtPlace : ℕ → Stand
  Before : ℕ → Stand
  Hidden : Stand

abbrev pub kind_stand : CellKind → Stand
kind_stand (BuiltIn place) = AtPlace place
kind_stand (Membrane behind shadow) = Before behind.0
kind_stand (Shadow shape) = Hidden
kind_stand _ = Counted

abbrev pub stand : Cell → Stand
stand c = kind_stand c.kind

abbrev pub is_counted : Stand → Bool
is_counted Counted = true
is_counted (AtPlace place) = false
is_counted (Before behind) = false
is_counted Hidden = false

abbrev pub is_object_cell : Cell → Bool
is_object_cell c = is_counted (stand c)

abbrev pub stands : List Cell → List Stand
stands cells = map stand cells

abbrev pub next_if : Bool → ℕ → ℕ
next_if true n = suc n
next_if false n = n

-- for each cell, how many with a number stand before it, where n stood before them all
abbrev pub numbers_from : ℕ → List Stand → List ℕ
numbers_from n [] = []
numbers_from n (s ∷ ss) = n ∷ numbers_from (next_if (is_counted s) n) ss

abbrev pub numbers : List Stand → List ℕ
numbers ss = numbers_from 0 ss

abbrev pub place_if : Bool → ℕ → List ℕ → List ℕ
place_if true n ns = n ∷ ns
place_if false n ns = ns

-- the places of the cells that have a number, where the first one stands at place n
abbrev pub places_from : ℕ → List Stand → List ℕ
places_from n [] = []
places_from n (s ∷ ss) = place_if (is_counted s) n (places_from (suc n) ss)

-- the cells that have a number, in its order
abbrev pub objects_of : List Cell → List ObjId
objects_of cells = map obj_id (places_from 0 (stands cells))

abbrev pub number_if : Bool → ℕ → Option ℕ
number_if true n = Some n
number_if false n = None

-- the number of a cell, if it has one
abbrev pub serial_of : List Cell → ObjId → Option ℕ
serial_of cells id =
    number_if (is_counted (slice_index_or (stands cells) id.0 Hidden)) (slice_index_or (numbers (stands cells)) id.0 0)

-- ---- which cell is a side's proxy, or its built-in

abbrev pub same_side : Side → Side → Bool
same_side a b = nat_eq a.0 b.0

-- stands before the object of that id, as a membrane proxy
abbrev pub stands_before : ℕ → Stand → Bool
stands_before n (Before behind) = nat_eq n behind
stands_before n _ = false

abbrev pub stands_at : ℕ → Stand → Bool
stands_at n (AtPlace place) = nat_eq n place
stands_at n _ = false

abbrev pub is_proxy_of : Side → ObjId → Cell → Bool
is_proxy_of side id c = same_side side c.home && stands_before id.0 (stand c)

-- the first proxy of a side for an object
abbrev pub proxy_in : List Cell → Side → ObjId → Option ObjId
proxy_in cells side id = option_map obj_id (position (is_proxy_of side id) cells)

-- in a joined world one built-in serves all sides
abbrev pub serves : Bool → Side → ℕ → Cell → Bool
serves joined side place c = (joined || same_side side c.home) && stands_at place (stand c)

-- a side's built-in at a place of the table: of several the earliest
abbrev pub built_in_of : Bool → List Cell → Side → ℕ → Option ObjId
built_in_of joined cells side place = option_map obj_id (position (serves joined side place) cells)

abbrev pub same_on_by : List Cell → Side → ObjId → Stand → Option ObjId
same_on_by cells side id (AtPlace place) = built_in_of false cells side place
same_on_by cells side id _ = None

abbrev pub same_on_if : Bool → List Cell → Side → ObjId → Option ObjId
same_on_if true cells side id = Some id
same_on_if false cells side id = same_on_by cells side id (slice_index_or (stands cells) id.0 Hidden)

-- a side's own cell for the place of the table for which a built-in stands; in a joined world the built-in itself
abbrev pub same_on_side : Data → Side → ObjId → Option ObjId
same_on_side d side id = same_on_if d.joined d.cells side id

-- ---- the changes

abbrev pub with_texts : Data → List (List ℕ) → Data
with_texts d texts = record d { texts = texts }

abbrev pub with_symbol : Data → Option StrId → Data
with_symbol d description = record d { symbols = d.symbols ++ description ∷ [] }

abbrev pub with_cells : Data → List Cell → Data
with_cells d cells = record d { cells = cells }

abbrev pub with_cell : Data → Cell → Data
with_cell d c = with_cells d (d.cells ++ c ∷ [])

-- another cell in that place
abbrev pub set_cell : Data → ObjId → Cell → Data
set_cell d id c = with_cells d (slice_set d.cells id.0 c)

abbrev pub change_if : Data → ObjId → (Cell → Cell) → Option Cell → Data
change_if d id f None = d
change_if d id f (Some c) = set_cell d id (f c)

-- the cell of that id is changed, and nothing else
abbrev pub change_cell : Data → ObjId → (Cell → Cell) → Data
change_cell d id f = change_if d id f (cell_at d id)

abbrev pub put_in : Key → Full Value → Cell → Cell
put_in key full c = record c { props = insert_entry c.props key full }

abbrev pub remove_in : Key → Cell → Cell
remove_in key c = record c { props = without c.props key }

abbrev pub with_proto : Value → Cell → Cell
with_proto p c = record c { proto = p }

abbrev pub closed : Cell → Cell
closed c = record c { extensible = false }

abbrev pub with_kind : CellKind → Cell → Cell
with_kind kind c = record c { kind = kind }

-- a slot is written, or a new last one is made
abbrev pub with_slot : ℕ → Option (Value × Value) → Cell → Cell
with_slot at pair c = record c { slots = take at c.slots ++ pair ∷ drop (at + 1) c.slots }

abbrev pub with_scope : Data → Scope → Data
with_scope d s = record d { scopes = d.scopes ++ s ∷ [] }

abbrev pub given_value : Value → Bound → Bound
given_value x b = record b { value = Some x }

abbrev pub give_if : ℕ → Value → List Bound → Option Bound → List Bound
give_if place x names None = names
give_if place x names (Some b) = slice_set names place (given_value x b)

-- the name at that place has the value
abbrev pub give_at : ℕ → Value → List Bound → List Bound
give_at place x names = give_if place x names (slice_get names place)

abbrev pub giving : ℕ → Value → Scope → Scope
giving place x s = record s { names = give_at place x s.names }

abbrev pub set_scope : Data → ScopeId → Scope → Data
set_scope d id s = record d { scopes = slice_set d.scopes id.0 s }

abbrev pub change_scope_if : Data → ScopeId → (Scope → Scope) → Option Scope → Data
change_scope_if d id f None = d
change_scope_if d id f (Some s) = set_scope d id (f s)

-- the scope of that id is changed, and nothing else
abbrev pub change_scope : Data → ScopeId → (Scope → Scope) → Data
change_scope d id f = change_scope_if d id f (scope_at d id)

abbrev pub with_queue : Data → Side → List Job → Data
with_queue d side jobs = record d { queues = slice_set d.queues side.0 jobs }

abbrev pub with_program : Data → Side → Script → Data
with_program d side script = record d { programs = slice_set d.programs side.0 (Some script) }

abbrev pub with_entry : Data → Entry → Data
with_entry d e = record d { entries = d.entries ++ e ∷ [] }

-- ---- new cells

abbrev pub length_units : List ℕ
length_units = codes "length"

-- the id that the text `length` has, once it is there
abbrev pub length_id : List (List ℕ) → StrId
length_id texts = record { 0 = position_or_len (same_text length_units) texts }

-- the key `length`, which is no index
abbrev pub length_key : List (List ℕ) → Key
length_key texts = k.Text (length_id texts) (2 ^ 32 - 1)

abbrev pub is_array : CellKind → Bool
is_array Array = true
is_array _ = false

-- a new array has its `length`, which is 0 and can be written (ECMA-262, 10.4.2.2)
abbrev pub first_props : Bool → List (List ℕ) → List (Key × Full Value)
first_props true texts = (length_key texts, Datum (v.Whole (pos 0)) true false false) ∷ []
first_props false texts = []

abbrev pub first_texts : Bool → List (List ℕ) → List (List ℕ)
first_texts true texts = with_text texts length_units
first_texts false texts = texts

-- a cell as `make` makes it
abbrev pub new_cell : List (List ℕ) → Side → CellKind → Value → Option StrId → Cell
new_cell texts home kind proto label = record {
  home = home;
  kind = kind;
  proto = proto;
  extensible = true;
  props = first_props (is_array kind) texts;
  label = label;
  slots = [];
}

-- the world once that cell is made: it stands last, and so does the text `length` where an array asks for it
abbrev pub made : Data → Side → CellKind → Value → Option StrId → Data
made d home kind proto label =
    with_cell (with_texts d (first_texts (is_array kind) d.texts)) (new_cell d.texts home kind proto label)
