-- What a world stands for: its values, its objects, and the graph of them all.
use Rattle.std.specs.Prelude.{ℕ, List, [], map, take, Bool, Option, Some, None, slice_get, slice_index_or, option_map}
use Rattle.std.specs.List.{filter}
use Rattle.mb_base.specs.declared.value.StrId.{StrId}
use Rattle.mb_base.specs.declared.value.ObjId.{ObjId}
use Rattle.mb_base.specs.declared.value.NodeId.{NodeId}
use Rattle.mb_base.specs.declared.value.Side.{Side}
use Rattle.mb_base.specs.declared.value.Key.{Key}
use Rattle.mb_base.specs.declared.value.Key.TheVariants as k
use Rattle.mb_base.specs.declared.value.Value.{Value}
use Rattle.mb_base.specs.declared.value.Value.TheVariants as v
use Rattle.mb_desc.specs.declared.descriptor.Desc.{Desc}
use Rattle.mb_desc.specs.declared.descriptor.Full.{Full}
use Rattle.mb_desc.specs.declared.descriptor.Full.TheVariants.{Datum, Accessor}
use Rattle.mb_tree.specs.Roses.{Shape}
use Rattle.mb_world.specs.declared.cell.Code.{Code as WorldCode}
use Rattle.mb_world.specs.declared.cell.CellKind.{CellKind}
use Rattle.mb_world.specs.declared.cell.CellKind.TheVariants as c
use Rattle.mb_world.specs.declared.cell.Cell.{Cell}
use Rattle.mb_world.specs.declared.scope.Scope.{Scope as WorldScope}
use Rattle.mb_world.specs.declared.scope.Bound.{Bound}
use Rattle.mb_world.specs.declared.scope.Job.{Job as WorldJob}
use Rattle.mb_world.specs.declared.scope.Job.TheVariants as j
use Rattle.mb_world.specs.declared.entry.Entry.{Entry as WorldEntry}
use Rattle.mb_world.specs.declared.entry.Seen.{Seen}
use Rattle.mb_world.specs.declared.entry.Seen.TheVariants as s
use Rattle.mb_world.specs.declared.entry.Said.{Said as WorldSaid}
use Rattle.mb_world.specs.declared.entry.Said.TheVariants as said
use Rattle.mb_world.specs.declared.rule.Rule.{Rule as WorldRule}
use Rattle.mb_world.specs.declared.rule.RuleKind.{RuleKind as WorldRuleKind}
use Rattle.mb_world.specs.declared.rule.RuleKind.TheVariants as r
use Rattle.mb_text.specs.Texts.{text_at}
use Rattle.mb_world.specs.Value.{Val, Undefined, Null, Truth, Whole, Text, Symbol, Object, BuiltIn}
use Rattle.mb_world.specs.Key.{PropertyKey, Named, SymbolKey}
use Rattle.mb_world.specs.FormOf.{TreeNode, form_of}
use Rattle.mb_world.specs.Graph.{Graph, Thing, Kind, Plain, Array, Function, Standard, Fault, Proxy, Gone, Revoker, Collection, Slots, Property, Code, Scope, Binding, Job, Script as ScriptJob, Call, Program, ScopeName, Rule, RuleKind, Hide, ReadOnly, Substitute, Revoke, Said, SaidNothing, SaidFlag, SaidValue, SaidAbsent, SaidProperty, SaidKeys, SaidThrow, SaidPair, Entry, Item}
use Rattle.mb_world.specs.Data.{Data, Script, Stand, Counted, AtPlace, Before, Hidden, stands, numbers, cell_at, is_object_cell}

-- what references are read by: the texts, and what each cell stands for
pub record Names : Type 0 where
  pub texts : List (List ℕ)
  pub stands : List Stand

abbrev pub names_of : Data → Names
names_of d = record { texts = d.texts; stands = stands d.cells }

-- ---- references

abbrev pub text_in : Names → StrId → List ℕ
text_in n t = text_at n.texts t

-- how many cells with a number stand before a cell
abbrev pub number_at : Names → ℕ → ℕ
number_at n i = slice_index_or (numbers n.stands) i 0

abbrev pub stood : Names → ℕ → Option Stand → Val
stood n i (Some Counted) = Object (number_at n i)
stood n i (Some (AtPlace place)) = BuiltIn place
stood n i (Some (Before behind)) = Object (number_at n behind)
stood n i (Some Hidden) = Object (number_at n i)
stood n i None = Object (number_at n i)

-- what a reference to a cell stands for: a membrane proxy for the object behind it. No value names a shadow;
-- that one would stand for an object spares a premise wherever an id is known to stand for an object
abbrev pub object_in : Names → ObjId → Val
object_in n o = stood n o.0 (slice_get n.stands o.0)

-- what a value of the world stands for
abbrev pub Resolve : Names → Value → Val
Resolve n v.Undefined = Undefined
Resolve n v.Null = Null
Resolve n (v.Bool b) = Truth b
Resolve n (v.Whole z) = Whole z
Resolve n (v.Text t) = Text (text_in n t)
Resolve n (v.Symbol t) = Symbol t.0
Resolve n (v.Object o) = object_in n o

abbrev pub key_by : List (List ℕ) → Key → PropertyKey
key_by texts (k.Text text index) = Named (text_at texts text)
key_by texts (k.Symbol symbol) = SymbolKey symbol.0

abbrev pub key_in : Names → Key → PropertyKey
key_in n key = key_by n.texts key

abbrev pub full_in : Names → Full Value → Full Val
full_in n (Datum x w e c) = Datum (Resolve n x) w e c
full_in n (Accessor g s e c) = Accessor (Resolve n g) (Resolve n s) e c

abbrev pub desc_in : {A : Type 0} → (A → Val) → Desc A → Desc Val
desc_in f d = record {
  value = option_map f d.value;
  writable = d.writable;
  get = option_map f d.get;
  set = option_map f d.set;
  enumerable = d.enumerable;
  configurable = d.configurable;
}

-- ---- objects

abbrev pub code_in : Names → WorldCode → Code
code_in n c = record {
  side = c.side.0;
  node = c.node.0;
  scope = c.scope.0;
  constructs = c.constructs;
  bound_this = option_map (Resolve n) c.bound_this;
}

abbrev pub pair_in : Names → Value × Value → Val × Val
pair_in n p = (Resolve n p.0, Resolve n p.1)

abbrev pub slots_in : Names → List (Option (Value × Value)) → Slots
slots_in n slots = map (option_map (pair_in n)) slots

abbrev pub kind_in : Names → List (Option (Value × Value)) → CellKind → Kind
kind_in n slots c.Plain = Plain
kind_in n slots c.Array = Array
kind_in n slots (c.Function code) = Function (code_in n code)
kind_in n slots (c.BuiltIn place) = Standard place
kind_in n slots (c.Fault kind) = Fault kind
kind_in n slots (c.Proxy (Some target) (Some handler) shape) = Proxy (object_in n target) (object_in n handler) shape
kind_in n slots (c.Proxy (Some target) None shape) = Gone shape
kind_in n slots (c.Proxy None handler shape) = Gone shape
kind_in n slots (c.Revoker proxy) = Revoker (number_at n proxy.0)
kind_in n slots (c.Membrane behind shadow) = Plain
kind_in n slots (c.Shadow shape) = Plain
kind_in n slots (c.Collection coll) = Collection coll (slots_in n slots)

abbrev pub property_in : Names → Key × Full Value → Property
property_in n p = record { key = key_in n p.0; full = full_in n p.1 }

abbrev pub thing_in : Names → Cell → Thing
thing_in n c = record {
  owner = Some c.home.0;
  label = option_map (text_in n) c.label;
  kind = kind_in n c.slots c.kind;
  prototype = Resolve n c.proto;
  extensible = c.extensible;
  properties = map (property_in n) c.props;
}

-- the side that owns a cell; a built-in is of every side
abbrev pub owner_by : CellKind → Side → Option ℕ
owner_by (c.BuiltIn place) home = None
owner_by kind home = Some home.0

-- the object that a cell is, a built-in too
abbrev pub object_of : Names → Cell → Thing
object_of n c = record (thing_in n c) { owner = owner_by c.kind c.home }

abbrev pub object_at : Data → ObjId → Option Thing
object_at d o = option_map (object_of (names_of d)) (cell_at d o)

-- membrane proxies, shadows and built-ins leave nothing
abbrev pub things_in : Names → List Cell → List Thing
things_in n cells = map (thing_in n) (filter is_object_cell cells)

-- ---- scopes, jobs, programs, rules, entries

abbrev pub binding_in : Names → Bound → Binding
binding_in n b = record { name = text_in n b.name; value = option_map (Resolve n) b.value; fixed = b.fixed }

abbrev pub scope_in : Names → WorldScope → Scope
scope_in n s = record {
  side = s.home.0;
  parent = option_map (λ p. p.0) s.parent;
  bindings = map (binding_in n) s.names;
}

abbrev pub job_in : Names → WorldJob → Job
job_in n j.Script = ScriptJob
job_in n (j.Call f) = Call (Resolve n f)

abbrev pub node_in : List (List ℕ) → Shape → TreeNode
node_in texts x = record {
  kind = x.label.kind;
  name = option_map (text_at texts) x.label.name;
  whole = x.label.whole;
  children = map (λ id. id.0) x.children;
}

abbrev pub nodes_in : List (List ℕ) → List Shape → List TreeNode
nodes_in texts xs = map (node_in texts) xs

abbrev pub name_in : List (List ℕ) → NodeId × StrId × Bool → ScopeName
name_in texts x = record { node = x.0.0; name = text_at texts x.1; fixed = x.2 }

-- a side without a script has an empty one
abbrev pub program_in : List (List ℕ) → Option Script → Program
program_in texts None = record { forms = []; names = [] }
program_in texts (Some p) = record {
  forms = map (form_of (nodes_in texts p.nodes)) (nodes_in texts p.nodes);
  names = map (name_in texts) p.names;
}

abbrev pub rule_kind_in : Names → WorldRuleKind → RuleKind
rule_kind_in n (r.Hide x) = Hide (text_in n x)
rule_kind_in n r.ReadOnly = ReadOnly
rule_kind_in n (r.Substitute x y) = Substitute (text_in n x) (Resolve n y)
rule_kind_in n r.Revoke = Revoke

abbrev pub side_in : Option Side → Option ℕ
side_in side = option_map (λ s. s.0) side

abbrev pub rule_in : Names → WorldRule → Rule
rule_in n x = record {
  label = text_in n x.label;
  kind = rule_kind_in n x.kind;
  owner = side_in x.owner;
  viewer = side_in x.viewer;
}

abbrev pub seen_in : List (List ℕ) → Seen → Val
seen_in texts s.Undefined = Undefined
seen_in texts s.Null = Null
seen_in texts (s.Bool b) = Truth b
seen_in texts (s.Whole z) = Whole z
seen_in texts (s.Text t) = Text (text_at texts t)
seen_in texts (s.Symbol n) = Symbol n
seen_in texts (s.Object n) = Object n
seen_in texts (s.BuiltIn p) = BuiltIn p

abbrev pub said_in : List (List ℕ) → WorldSaid → Said
said_in texts said.Nothing = SaidNothing
said_in texts (said.Flag b) = SaidFlag b
said_in texts (said.Plain x) = SaidValue (seen_in texts x)
said_in texts said.Absent = SaidAbsent
said_in texts (said.Prop d) = SaidProperty (desc_in (seen_in texts) d)
said_in texts (said.Keys ks) = SaidKeys (map (key_by texts) ks)
said_in texts (said.Thrown x) = SaidThrow (seen_in texts x)
said_in texts (said.Pair x y) = SaidPair (seen_in texts x) (seen_in texts y)

abbrev pub entry_in : List (List ℕ) → WorldEntry → Entry
entry_in texts e = record {
  began = e.began;
  side = e.side.0;
  object = e.object;
  op = e.op;
  key = option_map (key_by texts) e.key;
  given = said_in texts e.given;
  answer = said_in texts e.answer;
}

-- ---- the graph

-- the entries of a world
abbrev pub entries_in : Data → List Entry
entries_in d = map (entry_in d.texts) d.entries

-- the graph, with this log: a world has no printed lines. Queues and programs are those of the sides that take part
abbrev pub Image : Data → List Item → Graph
Image d log = record {
  objects = things_in (names_of d) d.cells;
  symbols = map (option_map (text_at d.texts)) d.symbols;
  scopes = map (scope_in (names_of d)) d.scopes;
  queues = map (map (job_in (names_of d))) (take d.sides d.queues);
  programs = map (program_in d.texts) (take d.sides d.programs);
  rules = map (rule_in (names_of d)) d.rules;
  revoked = d.revoked;
  log = log;
}
