-- A trap is called with what stands for its method.
use Rattle.std.proofs.Common.{◌∙◌, ◌∷◌, ◌≡◌, Err, List, Ok, Result, [], ap, refl, true, ℕ}
use Rattle.std.proofs.lemmas.List.Elements.{All-cons, All-nil}
use Rattle.mb_base.specs.declared.value.Key.{Key}
use Rattle.mb_base.specs.declared.value.Key.TheVariants as k
use Rattle.mb_base.specs.declared.value.ObjId.{ObjId}
use Rattle.mb_base.specs.declared.value.Side.{Side}
use Rattle.mb_base.specs.declared.value.Value.{Value}
use Rattle.mb_base.specs.declared.value.Value.TheVariants as v
use Rattle.mb_frames.proofs.Going.{WentOn-free, WentOn-passes}
use Rattle.mb_frames.proofs.Growing.{are-grown}
use Rattle.mb_frames.proofs.HeldLess.{text-value-held, values-all}
use Rattle.mb_frames.proofs.Parts.{all-both}
use Rattle.mb_frames.proofs.Passed.{Part-by, Part-passed, Part-sure}
use Rattle.mb_frames.proofs.Steps.{Sure-wait}
use Rattle.mb_frames.specs.Going.{Makes, paying}
use Rattle.mb_frames.specs.Held.{AreIn, HeldIn, HeldObject, HeldValue, HeldValues}
use Rattle.mb_frames.specs.Holding.{method_held, proxy_held, task_held}
use Rattle.mb_frames.specs.Keeping.{KeepsAnswer}
use Rattle.mb_frames.specs.Passing.{Part}
use Rattle.mb_frames.specs.Ready.{Changed, MayHold}
use Rattle.mb_frames.specs.Resolved.{method_in, task_in, values_in}
use Rattle.mb_frames.specs.Rest.Proxying.{trap_said}
use Rattle.mb_frames.specs.declared.frame.Frame.TheVariants as x
use Rattle.mb_frames.specs.declared.frame.Move.TheVariants as move
use Rattle.mb_frames.specs.declared.machine.Halt.{Halt}
use Rattle.mb_frames.specs.declared.machine.Halt.TheVariants.{NoMemory, Spent as SpentHalt}
use Rattle.mb_frames.specs.declared.proxies.ProxyFrame.{ProxyFrame}
use Rattle.mb_frames.specs.declared.proxies.ProxyFrame.TheVariants as p
use Rattle.mb_frames.specs.declared.task.Method.{Method as TheMethod}
use Rattle.mb_frames.specs.declared.task.Method.TheVariants as m
use Rattle.mb_frames.specs.declared.task.Task.{Task}
use Rattle.mb_frames.specs.declared.task.Task.TheVariants as task
use Rattle.mb_model.specs.Engine.{Do}
use Rattle.mb_model.specs.Meaning.{finished}
use Rattle.mb_model.specs.Objects.Proxies.{trapped}
use Rattle.mb_model.specs.Task as model
use Rattle.mb_model.specs.Task.{Method}
use Rattle.mb_model.specs.Writing.{◌>>=◌, Does, Row, give, pass, perform, value_in}
use Rattle.mb_scriptproxy.proofs.Lookups.{rest-same}
use Rattle.mb_scriptproxy.specs.machine.Trapping.{GivesArguments, GivesList, ListsArguments, arguments_held, key_value}
use Rattle.mb_scriptproxy.specs.machine.Trapping.{trap_arguments}
use Rattle.mb_world.specs.Contained.{IsOwn}
use Rattle.mb_world.specs.Data.{Data}
use Rattle.mb_world.specs.Graph.{Graph}
use Rattle.mb_world.specs.Ids.{KeyIn}
use Rattle.mb_world.specs.Image.{Image, Names, names_of, object_in}
use Rattle.mb_world.specs.Value.{Val}

-- the trap is called, and the method goes on with what it gives
abbrev pub called : ℕ → Val → Val → Val → Method → List Val → Graph → Row
called s t h trap y vs g =
    Do (perform s (model.Call h (t ∷ vs)) trap) g (λ o. pass o (λ a. trap_said s t (value_in a) y finished))

pub trapped-row : (s : ℕ) (t h trap : Val) (y : Method) (g : Graph)
    → trapped s t h trap y finished g ≡ trap_arguments s y (called s t h trap y) g
trapped-row s t h trap model.GetPrototypeOf g = refl
trapped-row s t h trap (model.SetPrototypeOf given) g = refl
trapped-row s t h trap model.IsExtensible g = refl
trapped-row s t h trap model.PreventExtensions g = refl
trapped-row s t h trap (model.GetOwnProperty key) g = refl
trapped-row s t h trap (model.DefineOwnProperty key desc) g = refl
trapped-row s t h trap (model.HasProperty key) g = refl
trapped-row s t h trap (model.Get key receiver) g = refl
trapped-row s t h trap (model.Set key x receiver) g = refl
trapped-row s t h trap (model.Delete key) g = refl
trapped-row s t h trap model.OwnPropertyKeys g = refl
trapped-row s t h trap (model.Call this vs) g = refl
trapped-row s t h trap (model.Construct vs target) g = refl

-- ---- the call

module _ (home : Side) (d d' : Data) (target handler trap : ObjId) (method : TheMethod) (list : List Value)
    (q : ListsArguments d d' home target method list)
    (i : AreIn d (HeldObject trap ∷ HeldObject handler ∷ HeldObject target ∷ method_held target method))
    (j : AreIn d' (task_held (task.Perform (m.Call (v.Object handler) list) trap home true))) where
  abbrev asked : Task
  asked = task.Perform (m.Call (v.Object handler) list) trap home true

  abbrev said : ProxyFrame
  said = p.Said target method

  abbrev n : Names
  n = names_of d

  abbrev n' : Names
  n' = names_of d'

  -- what goes on once the arguments are listed
  abbrev calls : List Val → Graph → Row
  calls = called home.0 (object_in (names_of d) target) (object_in (names_of d) handler) (object_in (names_of d) trap)
      (method_in (names_of d) method)

  abbrev after : model.Outcome → Graph → Row
  after = λ o. pass o (λ a. trap_said home.0 (object_in (names_of d) target) (value_in a)
      (method_in (names_of d) method)
      finished)

  same-task : perform home.0 (model.Call (object_in (names_of d) handler)
      (object_in (names_of d) target ∷ values_in (names_of d') q.others)) (object_in (names_of d) trap)
      ≡ task_in (names_of d') home.0 (task.Perform (m.Call (v.Object handler) list) trap home true)
  same-task =
      let g = q.went.grew.grows in
      rw (q.is, g.same_object target i.1.1.0, g.same_object handler i.1.0, g.same_object trap i.0) refl

  pub Part-calls : (f : ℕ) → Part home
      (Ok (move.Wait (x.Proxy (p.Said target method))
      (task.Perform (m.Call (v.Object handler) list) trap home true))) d d' f f
      (trapped home.0 (object_in (names_of d) target) (object_in (names_of d) handler) (object_in (names_of d) trap)
      (method_in (names_of d) method) finished)
  Part-calls f =
      let y = method_in n method in
      let t = object_in n target in
      let vs = values_in n' q.others in
      let z : Graph → Row = λ g. Do (task_in n' home.0 asked) g after in
      let g = q.went.grew.grows in
      Part-by home (Ok (move.Wait (x.Proxy said) asked)) d d' f f
      (trapped home.0 t (object_in n handler) (object_in n trap) y finished) (trap_arguments home.0 y calls)
      (λ log. trapped-row home.0 t (object_in n handler) (object_in n trap) y (Image d log))
      (Part-passed home (Ok (move.Wait (x.Proxy said) asked)) d d' d' f f f (trap_arguments home.0 y calls) (calls vs)
      (WentOn-passes (List Val) d d' f f (trap_arguments home.0 y) vs calls
      (WentOn-free (List Val) d d' f (trap_arguments home.0 y) vs q.went))
      (Part-by home (Ok (move.Wait (x.Proxy said) asked)) d' d' f f (calls vs) z
      (λ log. ap (λ (u : model.Task). Do u (Image d' log) after) same-task)
      (Part-sure home d' f z (move.Wait (x.Proxy said) asked)
      (Sure-wait home d' (x.Proxy said) asked z after (λ log. refl) tt (rest-same home d d' g said i.1.1)
      (all-both (HeldIn d') (proxy_held said) (task_held asked) (are-grown d d' g (proxy_held said) i.1.1) j)))))

-- ---- arguments

module _ (d : Data) (home : Side) (target : ObjId) (method : TheMethod) where
  -- an object is made first
  pub gives-made : (d' : Data) (r : Result (List Value) Halt) (others : List Value) (id : ObjId) (p : Does Val)
      (f : Val → List Val) → trap_arguments home.0 (method_in (names_of d) method) ≡ (p >>= (λ o. give (f o)))
      → Makes (Ok id) d d' p → f (object_in (names_of d') id) ≡ values_in (names_of d') others
      → GivesList r (v.Object target ∷ others) → GivesArguments r d d' home target method
  gives-made d' (Ok list) others id p f e q g h = record {
    others = others;
    is = h;
    went = record {
      units = q.units;
      paid = q.paid;
      same = λ z log.
          ap (λ (u : Does (List Val)). u z (Image d log)) e
          ∙ q.same (λ o. z (f o)) log
          ∙ ap (λ (vs : List Val). paying q.units (Image d log) (z vs (Image d' log))) g;
      trace = q.trace;
      grew = q.grew;
    };
  }
  gives-made d' (Err SpentHalt) others id p f e q g h = h
  gives-made d' (Err NoMemory) others id p f e q g h = tt

pub keeps-listed : (d d' : Data) (home : Side) (r : Result (List Value) Halt) (values : List Value) → GivesList r values
    → Changed home d d' → MayHold d' home (HeldValues values) → KeepsAnswer home arguments_held r d d'
keeps-listed d d' home (Ok list) values h k w = record { changed = k; holds = rw h (w, tt) }
keeps-listed d d' home (Err SpentHalt) values h k w = record { changed = k; holds = tt }
keeps-listed d d' home (Err NoMemory) values h k w = record { changed = k; holds = tt }

-- ---- what the home may hold

pub key-value-held : (d : Data) (home : Side) (key : Key) → KeyIn d key → MayHold d home (HeldValue (key_value key))
key-value-held d home (k.Text text index) h = text-value-held d home text h.0
key-value-held d home (k.Symbol symbol) h = record { within = h; sound = tt; own = λ u. All-nil (IsOwn d home) }

module _ (d : Data) (home : Side) where
  abbrev P : Value → Type 0
  P x = MayHold d home (HeldValue x)

  pub one-held : (a : Value) → MayHold d home (HeldValue a) → MayHold d home (HeldValues (a ∷ []))
  one-held a h = values-all d home (a ∷ []) (All-cons P a [] h (All-nil P))

  pub two-held : (a b : Value) → MayHold d home (HeldValue a) → MayHold d home (HeldValue b)
      → MayHold d home (HeldValues (a ∷ b ∷ []))
  two-held a b h i = values-all d home (a ∷ b ∷ []) (All-cons P a (b ∷ []) h (All-cons P b [] i (All-nil P)))

  pub three-held : (a b c : Value) → MayHold d home (HeldValue a) → MayHold d home (HeldValue b)
      → MayHold d home (HeldValue c) → MayHold d home (HeldValues (a ∷ b ∷ c ∷ []))
  three-held a b c h i j =
      values-all d home (a ∷ b ∷ c ∷ [])
      (All-cons P a (b ∷ c ∷ []) h (All-cons P b (c ∷ []) i (All-cons P c [] j (All-nil P))))

  pub four-held : (a b c e : Value) → MayHold d home (HeldValue a) → MayHold d home (HeldValue b)
      → MayHold d home (HeldValue c) → MayHold d home (HeldValue e) → MayHold d home (HeldValues (a ∷ b ∷ c ∷ e ∷ []))
  four-held a b c e h i j l =
      values-all d home (a ∷ b ∷ c ∷ e ∷ [])
      (All-cons P a (b ∷ c ∷ e ∷ []) h
      (All-cons P b (c ∷ e ∷ []) i (All-cons P c (e ∷ []) j (All-cons P e [] l (All-nil P)))))
