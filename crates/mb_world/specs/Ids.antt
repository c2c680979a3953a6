-- Each id that stands in a world is one of it.
use Rattle.std.specs.Prelude.{◌<◌, ◌≡◌, List, length, Option, Some, None, All, true}
use Rattle.mb_base.specs.declared.value.StrId.{StrId}
use Rattle.mb_base.specs.declared.value.SymId.{SymId}
use Rattle.mb_base.specs.declared.value.ScopeId.{ScopeId}
use Rattle.mb_base.specs.declared.value.ObjId.{ObjId}
use Rattle.mb_base.specs.declared.value.Key.{Key}
use Rattle.mb_base.specs.declared.value.Key.TheVariants as k
use Rattle.mb_base.specs.declared.value.Value.{Value}
use Rattle.mb_base.specs.declared.value.Value.TheVariants as v
use Rattle.mb_desc.specs.declared.descriptor.Desc.{Desc}
use Rattle.mb_desc.specs.declared.descriptor.Full.{Full}
use Rattle.mb_desc.specs.declared.descriptor.Full.TheVariants.{Datum, Accessor}
use Rattle.mb_text.specs.Index.{index_of}
use Rattle.mb_text.specs.Texts.{text_at}
use Rattle.mb_world.specs.declared.cell.CellKind.{CellKind}
use Rattle.mb_world.specs.declared.cell.CellKind.TheVariants.{Function, Proxy, Revoker, Membrane}
use Rattle.mb_world.specs.declared.cell.Cell.{Cell}
use Rattle.mb_world.specs.declared.scope.Scope.{Scope}
use Rattle.mb_world.specs.declared.scope.Bound.{Bound}
use Rattle.mb_world.specs.declared.scope.Job.{Job}
use Rattle.mb_world.specs.declared.scope.Job.TheVariants as j
use Rattle.mb_world.specs.declared.entry.Entry.{Entry}
use Rattle.mb_world.specs.declared.entry.Seen.{Seen}
use Rattle.mb_world.specs.declared.entry.Seen.TheVariants as s
use Rattle.mb_world.specs.declared.entry.Said.{Said}
use Rattle.mb_world.specs.declared.entry.Said.TheVariants as said
use Rattle.mb_world.specs.declared.rule.Rule.{Rule}
use Rattle.mb_world.specs.declared.rule.RuleKind.{RuleKind}
use Rattle.mb_world.specs.declared.rule.RuleKind.TheVariants as r
use Rattle.mb_world.specs.Data.{Data, Script, is_collection}

-- where it is there
abbrev pub Maybe : {A : Type 0} → (A → Type 0) → Option A → Type 0
Maybe P None = Unit {0}
Maybe P (Some a) = P a

-- ---- ids

abbrev pub TextIn : Data → StrId → Type 0
TextIn d t = t.0 < length d.texts

abbrev pub SymbolIn : Data → SymId → Type 0
SymbolIn d t = t.0 < length d.symbols

abbrev pub ObjIn : Data → ObjId → Type 0
ObjIn d o = o.0 < length d.cells

abbrev pub ScopeIn : Data → ScopeId → Type 0
ScopeIn d s = s.0 < length d.scopes

-- the id names a collection
abbrev pub IsCollection : Option Cell → Type 0
IsCollection None = ⊥
IsCollection (Some c) = is_collection c.kind ≡ true

-- a text key has the index that its text spells
abbrev pub KeyIn : Data → Key → Type 0
KeyIn d (k.Text text index) = TextIn d text × (index ≡ index_of (text_at d.texts text))
KeyIn d (k.Symbol symbol) = SymbolIn d symbol

abbrev pub ValueIn : Data → Value → Type 0
ValueIn d (v.Text t) = TextIn d t
ValueIn d (v.Symbol t) = SymbolIn d t
ValueIn d (v.Object o) = ObjIn d o
ValueIn d _ = Unit {0}

-- ---- what stands in a world

abbrev pub FullIn : Data → Full Value → Type 0
FullIn d (Datum x w e c) = ValueIn d x
FullIn d (Accessor g s e c) = ValueIn d g × ValueIn d s

abbrev pub PropertyIn : Data → Key × Full Value → Type 0
PropertyIn d p = KeyIn d p.0 × FullIn d p.1

abbrev pub PairIn : Data → Value × Value → Type 0
PairIn d p = ValueIn d p.0 × ValueIn d p.1

abbrev pub KindIn : Data → CellKind → Type 0
KindIn d (Function code) = ScopeIn d code.scope × Maybe (ValueIn d) code.bound_this
KindIn d (Proxy target handler shape) = Maybe (ObjIn d) target × Maybe (ObjIn d) handler
KindIn d (Revoker proxy) = ObjIn d proxy
KindIn d (Membrane behind shadow) = ObjIn d behind × ObjIn d shadow
KindIn d _ = Unit {0}

pub record CellIn (d : Data) (c : Cell) : Type 0 where
  pub home_in : c.home.0 < 8
  pub kind_in : KindIn d c.kind
  pub proto_in : ValueIn d c.proto
  pub props_in : All (PropertyIn d) c.props
  pub label_in : Maybe (TextIn d) c.label
  pub slots_in : All (Maybe (PairIn d)) c.slots

abbrev pub BoundIn : Data → Bound → Type 0
BoundIn d b = TextIn d b.name × Maybe (ValueIn d) b.value

pub record ScopeOf (d : Data) (s : Scope) : Type 0 where
  pub home_in : s.home.0 < 8
  pub parent_in : Maybe (ScopeIn d) s.parent
  pub names_in : All (BoundIn d) s.names

abbrev pub JobIn : Data → Job → Type 0
JobIn d j.Script = Unit {0}
JobIn d (j.Call f) = ValueIn d f

abbrev pub RuleKindIn : Data → RuleKind → Type 0
RuleKindIn d (r.Hide x) = TextIn d x
RuleKindIn d r.ReadOnly = Unit {0}
RuleKindIn d (r.Substitute x y) = TextIn d x × ValueIn d y
RuleKindIn d r.Revoke = Unit {0}

abbrev pub RuleIn : Data → Rule → Type 0
RuleIn d x = TextIn d x.label × RuleKindIn d x.kind

abbrev pub SeenIn : Data → Seen → Type 0
SeenIn d (s.Text t) = TextIn d t
SeenIn d (s.Symbol n) = n < length d.symbols
SeenIn d _ = Unit {0}

pub record DescSeenIn (d : Data) (x : Desc Seen) : Type 0 where
  pub value_in : Maybe (SeenIn d) x.value
  pub get_in : Maybe (SeenIn d) x.get
  pub set_in : Maybe (SeenIn d) x.set

abbrev pub SaidIn : Data → Said → Type 0
SaidIn d (said.Plain x) = SeenIn d x
SaidIn d (said.Prop x) = DescSeenIn d x
SaidIn d (said.Keys ks) = All (KeyIn d) ks
SaidIn d (said.Thrown x) = SeenIn d x
SaidIn d (said.Pair x y) = SeenIn d x × SeenIn d y
SaidIn d _ = Unit {0}

pub record EntryIn (d : Data) (e : Entry) : Type 0 where
  pub side_in : e.side.0 < 8
  pub key_in : Maybe (KeyIn d) e.key
  pub given_in : SaidIn d e.given
  pub answer_in : SaidIn d e.answer

pub record ScriptIn (d : Data) (p : Script) : Type 0 where
  pub nodes_in : All (λ x. Maybe (TextIn d) x.label.name) p.nodes
  pub names_in : All (λ x. TextIn d x.1) p.names

-- each id in these lists is one of the world d
pub record Hold (d : Data) (symbols : List (Option StrId)) (programs : List (Option Script)) (cells : List Cell)
    (scopes : List Scope) (queues : List (List Job)) (rules : List Rule) (entries : List Entry) : Type 0 where
  pub symbols_in : All (Maybe (TextIn d)) symbols
  pub programs_in : All (Maybe (ScriptIn d)) programs
  pub cells_in : All (CellIn d) cells
  pub scopes_in : All (ScopeOf d) scopes
  pub queues_in : All (All (JobIn d)) queues
  pub rules_in : All (RuleIn d) rules
  pub entries_in : All (EntryIn d) entries

-- each id that stands in a world is one of it
abbrev pub HasItsIds : Data → Type 0
HasItsIds d = Hold d d.symbols d.programs d.cells d.scopes d.queues d.rules d.entries
