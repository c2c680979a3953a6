-- What a world stands for after each call, and that each id of before stands for what it stood for.
use Rattle.std.specs.Prelude.{ℕ, ◌≡◌, ◌++◌, List, [], ◌∷◌, length, map, Option, Some, true, false, slice_set, option_map, take}
use Rattle.mb_base.specs.declared.value.StrId.{StrId}
use Rattle.mb_base.specs.declared.value.ObjId.{ObjId}
use Rattle.mb_base.specs.declared.value.ScopeId.{ScopeId}
use Rattle.mb_base.specs.declared.value.Side.{Side}
use Rattle.mb_base.specs.declared.value.Value.{Value}
use Rattle.mb_text.specs.Texts.{with_text, text_at}
use Rattle.mb_world.specs.declared.cell.CellKind.{CellKind}
use Rattle.mb_world.specs.declared.cell.Cell.{Cell}
use Rattle.mb_world.specs.declared.scope.Scope.{Scope}
use Rattle.mb_world.specs.declared.scope.Job.{Job}
use Rattle.mb_world.specs.declared.entry.Entry.{Entry}
use Rattle.mb_world.specs.declared.rule.Rule.{Rule}
use Rattle.mb_world.specs.Value.{Object}
use Rattle.mb_world.specs.Graph.{Graph, Item}
use Rattle.mb_world.specs.Objects.{thing_at}
use Rattle.mb_world.specs.Data.{Data, fresh, Script, stand, kind_stand, is_counted, is_object_cell, obj_id, cell_at, scope_at, with_texts, with_symbol, change_cell, with_scope, change_scope, with_queue, with_program, with_entry, made, new_cell}
use Rattle.mb_world.specs.Ids.{HasItsIds}
use Rattle.mb_world.specs.Grows.{Grows}
use Rattle.mb_world.specs.Image.{names_of, object_in, number_at, thing_in, scope_in, job_in, program_in, rule_in, entry_in, entries_in, Image}

-- the world grew, and its image is that of before but for what f changes of it
pub record Becomes (d d' : Data) (f : Graph → Graph) : Type 0 where
  pub grows : Grows d d'
  pub image : (log : List Item) → Image d' log ≡ f (Image d log)

abbrev pub same_graph : Graph → Graph
same_graph g = g

-- a text
abbrev pub OfText : Type 0
OfText = (d : Data) (t : List ℕ) → HasItsIds d → Becomes d (with_texts d (with_text d.texts t)) same_graph

-- a symbol
abbrev pub OfSymbol : Type 0
OfSymbol = (d : Data) (x : Option StrId) → HasItsIds d →
    Becomes d (with_symbol d x) (λ g. record g { symbols = g.symbols ++ option_map (text_at d.texts) x ∷ [] })

-- a new cell that has a number: an object, the last, and its id stands for it
pub record OfObject (d : Data) (home : Side) (kind : CellKind) (proto : Value) (label : Option StrId) : Type 0 where
  pub becomes : let d' = made d home kind proto label in
      Becomes d d' (λ g. record g {
        objects = g.objects ++ thing_in (names_of d') (new_cell d.texts home kind proto label) ∷ [];
      })
  pub number : (log : List Item) →
      object_in (names_of (made d home kind proto label)) (obj_id (length d.cells))
      ≡ Object (length (Image d log).objects)

abbrev pub OfMade : Type 0
OfMade = (d : Data) (home : Side) (kind : CellKind) (proto : Value) (label : Option StrId) → HasItsIds d →
    is_counted (kind_stand kind) ≡ true → OfObject d home kind proto label

-- a new cell that has none leaves nothing
abbrev pub OfHidden : Type 0
OfHidden = (d : Data) (home : Side) (kind : CellKind) (proto : Value) (label : Option StrId) → HasItsIds d →
    is_counted (kind_stand kind) ≡ false → Becomes d (made d home kind proto label) same_graph

-- a changed cell that has a number
abbrev pub OfChanged : Type 0
OfChanged = (d : Data) (id : ObjId) (c : Cell) (f : Cell → Cell) → cell_at d id ≡ Some c → stand (f c) ≡ stand c →
    is_object_cell c ≡ true →
    Becomes d (change_cell d id f)
    (λ g. record g { objects = slice_set g.objects (number_at (names_of d) id.0) (thing_in (names_of d) (f c)) })

-- a changed cell that has none
abbrev pub OfHiddenChanged : Type 0
OfHiddenChanged = (d : Data) (id : ObjId) (c : Cell) (f : Cell → Cell) → cell_at d id ≡ Some c → stand (f c) ≡ stand c →
    is_object_cell c ≡ false → Becomes d (change_cell d id f) same_graph

-- the object that an id of such a cell stands for
abbrev pub OfCell : Type 0
OfCell = (d : Data) (id : ObjId) (c : Cell) (log : List Item) → cell_at d id ≡ Some c → is_object_cell c ≡ true →
    thing_at (Image d log) (object_in (names_of d) id) ≡ Some (thing_in (names_of d) c)

-- a new scope
abbrev pub OfScope : Type 0
OfScope = (d : Data) (s : Scope) →
    Becomes d (with_scope d s) (λ g. record g { scopes = g.scopes ++ scope_in (names_of d) s ∷ [] })

-- a changed scope
abbrev pub OfChangedScope : Type 0
OfChangedScope = (d : Data) (id : ScopeId) (s : Scope) (f : Scope → Scope) → scope_at d id ≡ Some s →
    Becomes d (change_scope d id f) (λ g. record g { scopes = slice_set g.scopes id.0 (scope_in (names_of d) (f s)) })

-- the jobs of a side
abbrev pub OfQueue : Type 0
OfQueue = (d : Data) (side : Side) (jobs : List Job) →
    Becomes d (with_queue d side jobs) (λ g. record g {
      queues = slice_set g.queues side.0 (map (job_in (names_of d)) jobs);
    })

-- the script of a side
abbrev pub OfProgram : Type 0
OfProgram = (d : Data) (side : Side) (script : Script) →
    Becomes d (with_program d side script)
    (λ g. record g { programs = slice_set g.programs side.0 (program_in d.texts (Some script)) })

-- an entry stands last; the image has its log from elsewhere
pub record OfNoted (d : Data) (e : Entry) : Type 0 where
  pub becomes : Becomes d (with_entry d e) same_graph
  pub entries : entries_in (with_entry d e) ≡ entries_in d ++ entry_in d.texts e ∷ []

abbrev pub OfEntry : Type 0
OfEntry = (d : Data) (e : Entry) → OfNoted d e

-- how many sides take part: the queues and scripts are theirs
abbrev pub OfSides : Type 0
OfSides = (d : Data) (n : ℕ) → Becomes d (record d { sides = n }) (λ g. record g {
  queues = map (map (job_in (names_of d))) (take n d.queues);
  programs = map (program_in d.texts) (take n d.programs);
})

-- a fresh world takes texts
abbrev pub OfTexts : Type 0
OfTexts = (d : Data) (texts : List (List ℕ)) → d ≡ fresh → Becomes d (with_texts d texts) same_graph

-- the rules and the flags
abbrev pub OfRules : Type 0
OfRules = (d : Data) (rules : List Rule) →
    Becomes d (record d { rules = rules }) (λ g. record g { rules = map (rule_in (names_of d)) rules })

abbrev pub OfRevoked : Type 0
OfRevoked = (d : Data) → Becomes d (record d { revoked = true }) (λ g. record g { revoked = true })

abbrev pub OfJoined : Type 0
OfJoined = (d : Data) → Becomes d (record d { joined = true }) same_graph

abbrev pub OfHalted : Type 0
OfHalted = (d : Data) → Becomes d (record d { halted = true }) same_graph
