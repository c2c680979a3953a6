-- Methods that make an entry: what is put below them, and that their rows end with it.
use Rattle.std.proofs.Common.{◌≤◌, Bool, List, None, Ok, Some, ap, arith, false, length, not, option_map, refl, sym}
use Rattle.std.proofs.Common.{true, true≢false, ℕ, ◌∙◌, ◌∷◌, ◌≡◌}
use Rattle.std.proofs.lemmas.Bool.{eq-eqb}
use Rattle.std.proofs.lemmas.List.Elements.{All-nil}
use Rattle.std.specs.Prelude.{if◌then◌else◌}
use Rattle.mb_base.specs.declared.value.ObjId.{ObjId}
use Rattle.mb_base.specs.declared.value.Side.{Side}
use Rattle.mb_call.proofs.Due.{cell-foreign}
use Rattle.mb_call.proofs.Things.{cell-thing}
use Rattle.mb_call.specs.Due.{IsForeignTask, is_built_in, is_due, is_of_another}
use Rattle.mb_call.specs.Ours.{Acts}
use Rattle.mb_call.specs.machine.Noting.{key_given, method_given}
use Rattle.mb_frames.proofs.Changing.{there}
use Rattle.mb_frames.proofs.HeldCells.{reads-home}
use Rattle.mb_frames.proofs.HeldLess.{prototype-value}
use Rattle.mb_frames.proofs.Leaving.{holds-in}
use Rattle.mb_frames.proofs.Linking.{fits-same}
use Rattle.mb_frames.proofs.Parts.{all-both}
use Rattle.mb_frames.proofs.Steps.{Step-entered, began-is}
use Rattle.mb_frames.specs.Held.{HeldIn, HeldKeyIf, HeldObject}
use Rattle.mb_frames.specs.Holding.{entering_held, given_held, method_held, task_held}
use Rattle.mb_frames.specs.Ready.{Holds, IsReady, Leaves, MayHold}
use Rattle.mb_frames.specs.Resolved.{given_in, method_in, task_in}
use Rattle.mb_frames.specs.Sorts.{method_gives, op_gives}
use Rattle.mb_frames.specs.Standing.{Logged, entry_by}
use Rattle.mb_frames.specs.Stepping.{Step, Written}
use Rattle.mb_frames.specs.Wholeness.{IsProxyAt}
use Rattle.mb_frames.specs.declared.frame.Entering.{Entering}
use Rattle.mb_frames.specs.declared.frame.Frame.TheVariants as x
use Rattle.mb_frames.specs.declared.frame.Move.TheVariants as move
use Rattle.mb_frames.specs.declared.task.Method.{Method}
use Rattle.mb_frames.specs.declared.task.Method.TheVariants as m
use Rattle.mb_frames.specs.declared.task.Task.{Task}
use Rattle.mb_frames.specs.declared.task.Task.TheVariants as task
use Rattle.mb_model.specs.Engine.{charged_row, ending}
use Rattle.mb_model.specs.Meaning.{entering, entries_made, finished, perform_row, row}
use Rattle.mb_model.specs.Task as model
use Rattle.mb_model.specs.Trace.Entries.{given_of, is_foreign_at, key_of_method, method_entry, method_noted, with_entry}
use Rattle.mb_model.specs.Trace.Ops.{op_of}
use Rattle.mb_world.specs.Contained.{IsOwn}
use Rattle.mb_world.specs.Data.{Data, cell_at, same_side}
use Rattle.mb_world.specs.Formed.{is_of_membrane}
use Rattle.mb_world.specs.Graph.{Graph, Item}
use Rattle.mb_world.specs.Image.{Image, Names, key_in, names_of, object_in}
use Rattle.mb_world.specs.Objects.{thing_at}
use Rattle.mb_world.specs.declared.cell.Cell.{Cell}
use Rattle.mb_world.proofs.Grow.{All-at}

-- ---- whose the object is

own-no : (b : Bool) (a home : Side) → a ≡ home → (if b then false else not (same_side a home)) ≡ true → ⊥
own-no true a home e h = true≢false (sym h)
own-no false a home e h =
    true≢false (sym h ∙ ap not (ap (λ (y : Side). same_side y home) e ∙ eq-eqb home.0 home.0 refl))

module _ (d : Data) (r : IsReady d) (home : Side) (id : ObjId) (h : MayHold d home (HeldObject id))
    (u : is_of_another home (cell_at d id) ≡ true) where
  its-cell : (c : Cell) × (cell_at d id ≡ Some c)
  its-cell = there d id h.within

  its-another : (if is_built_in its-cell.0.kind then false else not (same_side its-cell.0.home home)) ≡ true
  its-another = ap (is_of_another home) (sym its-cell.1) ∙ u

  -- only in a joined world does a side hold another's object
  pub due-joined : d.joined ≡ true
  due-joined = by d.joined refl
    where
      by : (b : Bool) → d.joined ≡ b → b ≡ true
      by true e = refl
      by false e =
          absurd (own-no (is_built_in its-cell.0.kind) its-cell.0.home home
          (reads-home d home id its-cell.0 h its-cell.1 e) its-another)

  pub due-foreign : (log : List Item)
      → is_foreign_at home.0 (thing_at (Image d log) (object_in (names_of d) id)) ≡ true
  due-foreign log =
      ap (is_foreign_at home.0) (cell-thing d r id its-cell.0 its-cell.1
      (All-at (λ (c : Cell). is_of_membrane c.kind ≡ false) d.cells id.0 its-cell.0 its-cell.1
      (r.formed.joined due-joined).membrane) log)
      ∙ cell-foreign d home (Some its-cell.0) ∙ its-another

-- a method that is due is one of a foreign object
pub due-foreign-task : (d : Data) (home : Side) (y : Task) → Acts d home (task_held y) → is_due d home y ≡ true
    → IsForeignTask d home y
due-foreign-task d home (task.Perform method object viewer true) a u = (
  due-foreign d a.ready home object a.holds.0 u,
  λ v. absurd (true≢false (sym (due-joined d a.ready home object a.holds.0 u) ∙ v)),
)
due-foreign-task d home (task.Perform method object viewer false) a u = absurd (true≢false (sym u))
due-foreign-task d home y a u = absurd (true≢false (sym u))

-- ---- what its entry says

key-same : (n : Names) (y : Method) → key_of_method (method_in n y) ≡ option_map (key_in n) (key_given y)
key-same n m.GetPrototypeOf = refl
key-same n (m.SetPrototypeOf p) = refl
key-same n m.IsExtensible = refl
key-same n m.PreventExtensions = refl
key-same n (m.GetOwnProperty k) = refl
key-same n (m.DefineOwnProperty k e) = refl
key-same n (m.HasProperty k) = refl
key-same n (m.Get k v) = refl
key-same n (m.Set k y v) = refl
key-same n (m.Delete k) = refl
key-same n m.OwnPropertyKeys = refl
key-same n (m.Call this vs) = refl
key-same n (m.Construct vs target) = refl

given-same : (n : Names) (y : Method) → given_of (method_in n y) ≡ given_in n (method_given y)
given-same n m.GetPrototypeOf = refl
given-same n (m.SetPrototypeOf p) = refl
given-same n m.IsExtensible = refl
given-same n m.PreventExtensions = refl
given-same n (m.GetOwnProperty k) = refl
given-same n (m.DefineOwnProperty k e) = refl
given-same n (m.HasProperty k) = refl
given-same n (m.Get k v) = refl
given-same n (m.Set k y v) = refl
given-same n (m.Delete k) = refl
given-same n m.OwnPropertyKeys = refl
given-same n (m.Call this vs) = refl
given-same n (m.Construct vs target) = refl

op-gives : (n : Names) (y : Method) → op_gives (op_of (method_in n y)) ≡ method_gives y
op-gives n m.GetPrototypeOf = refl
op-gives n (m.SetPrototypeOf p) = refl
op-gives n m.IsExtensible = refl
op-gives n m.PreventExtensions = refl
op-gives n (m.GetOwnProperty k) = refl
op-gives n (m.DefineOwnProperty k e) = refl
op-gives n (m.HasProperty k) = refl
op-gives n (m.Get k v) = refl
op-gives n (m.Set k y v) = refl
op-gives n (m.Delete k) = refl
op-gives n m.OwnPropertyKeys = refl
op-gives n (m.Call this vs) = refl
op-gives n (m.Construct vs target) = refl

module _ (d : Data) (home : Side) where
  no-key : MayHold d home (HeldKeyIf None)
  no-key = record { within = tt; sound = tt; own = λ u. All-nil (IsOwn d home) }

  key-held : (id : ObjId) (y : Method) → Holds d home (method_held id y) → MayHold d home (HeldKeyIf (key_given y))
  key-held id (m.GetOwnProperty k) h = record { within = h.0.within; sound = tt; own = h.0.own }
  key-held id (m.DefineOwnProperty k e) h = record { within = h.0.within; sound = tt; own = h.0.own }
  key-held id (m.HasProperty k) h = record { within = h.0.within; sound = tt; own = h.0.own }
  key-held id (m.Get k v) h = record { within = h.0.within; sound = tt; own = h.0.own }
  key-held id (m.Set k y v) h = record { within = h.0.within; sound = tt; own = h.0.own }
  key-held id (m.Delete k) h = record { within = h.0.within; sound = tt; own = h.0.own }
  key-held id m.GetPrototypeOf h = no-key
  key-held id (m.SetPrototypeOf p) h = no-key
  key-held id m.IsExtensible h = no-key
  key-held id m.PreventExtensions h = no-key
  key-held id m.OwnPropertyKeys h = no-key
  key-held id (m.Call this vs) h = no-key
  key-held id (m.Construct vs target) h = no-key

  given-held : (id : ObjId) (y : Method) → Holds d home (method_held id y) → Holds d home (given_held (method_given y))
  given-held id (m.SetPrototypeOf p) h = (prototype-value d home p h.0, tt)
  given-held id (m.DefineOwnProperty k e) h = (h.1.0, tt)
  given-held id (m.Set k y v) h = (h.1.0, tt)
  given-held id m.GetPrototypeOf h = tt
  given-held id m.IsExtensible h = tt
  given-held id m.PreventExtensions h = tt
  given-held id (m.GetOwnProperty k) h = tt
  given-held id (m.HasProperty k) h = tt
  given-held id (m.Get k v) h = tt
  given-held id (m.Delete k) h = tt
  given-held id m.OwnPropertyKeys h = tt
  given-held id (m.Call this vs) h = tt
  given-held id (m.Construct vs target) h = tt

-- ---- the step

-- the entry is that of the method
pub record IsEntry (d : Data) (method : Method) (object : ObjId) (y : Entering) : Type 0 where
  pub began : y.began ≡ length d.entries
  pub object_is : y.object ≡ object
  pub op : (n : Names) → y.op ≡ op_of (method_in n method)
  pub key : y.key ≡ key_given method
  pub given : y.given ≡ method_given method

module _ (d : Data) (home : Side) (method : Method) (object : ObjId) (viewer : Side) (y : Entering)
    (i : IsEntry d method object y) (h : Holds d home (HeldObject object ∷ method_held object method))
    (foreign : (log : List Item) → is_foreign_at home.0 (thing_at (Image d log) (object_in (names_of d) object)) ≡ true)
    (proxy : d.joined ≡ false → IsProxyAt d home object) where
  abbrev n : Names
  n = names_of d

  abbrev due : Task
  due = task.Perform method object viewer true

  abbrev begun : Task
  begun = task.Perform method object viewer false

  entry-is : (log : List Item) → Logged d log → (q : model.Outcome)
      → method_entry (entries_made (Image d log)) home.0 (object_in n object) (method_in n method) q
      ≡ entry_by n home.0 y q
  entry-is log e q =
      rw (began-is d log e, i.began, i.object_is, i.op n, i.key, i.given, key-same n method, given-same n method) refl

  rows : (log : List Item) → Logged d log
      → row (task_in n home.0 due) (Image d log)
      ≡ ending (λ q k. with_entry (entry_by n home.0 y q) k) (row (task_in n home.0 begun) (Image d log))
  rows log e =
      let g : Graph = Image d log in
      let p = perform_row home.0 viewer.0 (object_in n object) (method_in n method) finished g in
      ap (λ (b : Bool). entering b (method_noted (entries_made g) home.0 (object_in n object) (method_in n method)) p)
      (foreign log)
      ∙ ap (λ (f : model.Outcome → Graph → Graph). ending f p) (λ j q k. with_entry (entry-is log e q j) k)

  pub held-entering : Holds d home (entering_held y)
  held-entering = rw (i.began, i.object_is, i.key, i.given) (
    record { within = tt; sound = below; own = λ v. All-nil (IsOwn d home) },
    (
      record {
        within = h.0.within;
        sound = proxy;
        own = h.0.own;
      },
      (h.0, (key-held d home object method h.1, given-held d home object method h.1)),
    ),
  )
    where
      below : length d.entries ≤ length d.entries
      below = omega arith

  pub Step-due : (f : ℕ) (l : Written) → Step home false (Ok (move.Entered (x.Entry y) begun)) d d f f l l
      (charged_row row (task_in n home.0 due))
  Step-due f l =
      Step-entered home d due begun y f l rows
      (all-both (HeldIn d) (entering_held y) (task_held begun) (holds-in d home (entering_held y) held-entering)
      (holds-in d home (task_held begun) h))

  pub leaves-due : Leaves d home (method_gives method) (move.Entered (x.Entry y) begun)
  leaves-due = record {
    holds = all-both (MayHold d home) (entering_held y) (task_held begun) held-entering h;
    fit = (tt, refl);
    gives = rw (i.op n, op-gives n method) (fits-same (method_gives method), fits-same (method_gives method));
  }

-- where the method enters, of a foreign object
module _ (d : Data) (home : Side) (method : Method) (object : ObjId) (viewer : Side) (y : Entering)
    (i : IsEntry d method object y) (h : Holds d home (HeldObject object ∷ method_held object method)) where
  pub Step-entering : (enters : Bool) → IsForeignTask d home (task.Perform method object viewer enters) → (f : ℕ)
      (l : Written)
      → Step home false (Ok (move.Entered (x.Entry y) (task.Perform method object viewer false))) d d f f l l
      (charged_row row (task_in (names_of d) home.0 (task.Perform method object viewer enters)))
  Step-entering true u f l = Step-due d home method object viewer y i h u.0 u.1 f l
  Step-entering false u f l = absurd u

  pub leaves-entering : (enters : Bool) → IsForeignTask d home (task.Perform method object viewer enters)
      → Leaves d home (method_gives method) (move.Entered (x.Entry y) (task.Perform method object viewer false))
  leaves-entering true u = leaves-due d home method object viewer y i h u.0 u.1
  leaves-entering false u = absurd u
