-- Declarations that are given their values in turn.
use Rattle.std.proofs.Common.{◌+◌, ◌++◌, ◌<◌, ◌≡◌, ◌≤◌, ◌∙◌, ◌∷◌, Bool, Err, List, None, Ok, Option, Result, Some, [], ap, arith, drop, length, refl, slice_get, subst, sym, true, ℕ}
use Rattle.std.proofs.Math.ListN.{drop_of_length-le}
use Rattle.mb_base.specs.declared.value.NodeId.{NodeId}
use Rattle.mb_base.specs.declared.value.ScopeId.{ScopeId}
use Rattle.mb_base.specs.declared.value.Side.{Side}
use Rattle.mb_base.specs.declared.value.StrId.{StrId}
use Rattle.mb_eval_stmt.proofs.Rows.{ContextIn-entered, Sure-nothing, entering, forms-entered, inside}
use Rattle.mb_parts.specs.Standing.{ContextIn}
use Rattle.mb_frames.proofs.Forms.{context-grows, forms-are, forms-grow}
use Rattle.mb_frames.proofs.Going.{Step-after, WentOn-free}
use Rattle.mb_frames.proofs.Passed.{puts-none}
use Rattle.mb_frames.proofs.Steps.{Grew-then, Step-sure, Sure-by, drop-at}
use Rattle.mb_frames.specs.Going.{Changes, Enters, WentOn, paying}
use Rattle.mb_frames.specs.Resolved.{context_in}
use Rattle.mb_frames.specs.Rest.Parts.{parts_at}
use Rattle.mb_frames.specs.Standing.{forms_at}
use Rattle.mb_frames.specs.Stepping.{Grew, PutsNone, Step, Sure, Written}
use Rattle.mb_frames.specs.declared.frame.Frame.TheVariants as x
use Rattle.mb_frames.specs.declared.frame.Move.TheVariants as move
use Rattle.mb_frames.specs.declared.frame.Move.{Move}
use Rattle.mb_frames.specs.declared.machine.Halt.TheVariants.{NoMemory, Spent as SpentHalt}
use Rattle.mb_frames.specs.declared.machine.Halt.{Halt}
use Rattle.mb_frames.specs.declared.statements.StmtFrame.TheVariants as t
use Rattle.mb_frames.specs.declared.task.Answer.TheVariants as a
use Rattle.mb_frames.specs.declared.task.Context.{Context}
use Rattle.mb_frames.specs.declared.task.Outcome.TheVariants as o
use Rattle.mb_frames.specs.declared.task.Task.TheVariants as task
use Rattle.mb_model.specs.Engine.{exec}
use Rattle.mb_model.specs.Meaning.{finished}
use Rattle.mb_model.specs.Nodes.Evaluation.{Context as AContext}
use Rattle.mb_model.specs.Nodes.Scopes.{declare, enter_scope, form_at}
use Rattle.mb_model.specs.Nodes.Statements.{decl_of, give_each, run_each, run_scoped}
use Rattle.mb_model.specs.Task.{Answer, Nothing}
use Rattle.mb_model.specs.Trace.Entries.{entries}
use Rattle.mb_model.specs.Writing.{◌>>=◌, Does, Row}
use Rattle.mb_eval_stmt.specs.machine.Declaring.{Declares, Waits}
use Rattle.mb_world.proofs.Grow.{ScopeIn-grows, ValueIn-grows}
use Rattle.mb_world.specs.Data.{Data}
use Rattle.mb_world.specs.Form.{DeclForm, Form}
use Rattle.mb_world.specs.Graph.{Graph, Item}
use Rattle.mb_world.specs.Ids.{HasItsIds, ScopeIn, TextIn}
use Rattle.mb_world.specs.Image.{Image, entries_in, names_of, text_in}

-- a step in a world to which the part came, with nothing charged
pub Step-moved : (home : Side) (begun : Bool) (r : Result Move Halt) (d d1 d2 : Data) (f f2 : ℕ) (l l2 : Written)
    (p q : Graph → Row) → ((log : List Item) → p (Image d log) ≡ q (Image d1 log)) → entries_in d1 ≡ entries_in d
    → Grew d d1 → Step home begun r d1 d2 f f2 l l2 q → Step home begun r d d2 f f2 l l2 p
Step-moved home begun (Ok m) d d1 d2 f f2 l l2 p q e n g h = record {
  added = h.added;
  logged = record {
    few = h.logged.few;
    trace = h.logged.trace ∙ ap (λ es. es ++ entries h.added) n;
    told = h.logged.told;
  };
  same = λ w log i. ap (λ x. exec w begun x f) (e log) ∙ h.same w log (i ∙ sym n);
  paid = λ log i. rw (e log) (h.paid log (i ∙ sym n));
  left = λ log i. rw (e log) (h.left log (i ∙ sym n));
  may = λ log i. rw (e log) (h.may log (i ∙ sym n));
  ids = h.ids;
  grew = Grew-then d d1 d2 g h.grew;
}
Step-moved home begun (Err SpentHalt) d d1 d2 f f2 l l2 p q e n g h = record {
  same = λ w log i. ap (λ x. exec w begun x f) (e log) ∙ h.same w log (i ∙ sym n);
  above = λ log i. rw (e log) (h.above log (i ∙ sym n));
  trace = h.trace ∙ n;
  told = h.told;
  grew = Grew-then d d1 d2 g h.grew;
}
Step-moved home begun (Err NoMemory) d d1 d2 f f2 l l2 p q e n g h = tt

each-of : (d : Data) (home : Side) (c : AContext) (decl : ℕ) (rest : List ℕ) (log : List Item) → home.0 < d.sides
    → c.side ≡ home.0
    → give_each c (decl ∷ rest) finished (Image d log)
    ≡ decl_of c (slice_get (forms_at d home) decl) (λ a. give_each c rest finished) (Image d log)
each-of d home c decl rest log h e =
    ap (λ (s : ℕ). decl_of c (form_at (Image d log) s decl) (λ a. give_each c rest finished) (Image d log)) e
    ∙ ap (λ (fs : List Form). decl_of c (slice_get fs decl) (λ a. give_each c rest finished) (Image d log))
    (forms-are d home log h)

-- one is given, and the next ones follow
pub one-given : (d d' : Data) (home : Side) (c : AContext) (decl : ℕ) (rest : List ℕ) (log : List Item)
    → home.0 < d.sides → c.side ≡ home.0 → WentOn Answer d d' 0 0 (decl_of c (slice_get (forms_at d home) decl)) Nothing
    → give_each c (decl ∷ rest) finished (Image d log) ≡ give_each c rest finished (Image d' log)
one-given d d' home c decl rest log h e q =
    let u : q.units ≡ 0 = omega (arith, q.paid) in
    each-of d home c decl rest log h e
    ∙ q.same (λ a. give_each c rest finished) log
    ∙ ap (λ (n : ℕ). paying n (Image d log) (give_each c rest finished (Image d' log))) u

-- one waits for its value
pub one-waits : (d : Data) (home : Side) (at : Context) (node value : NodeId) (name : StrId) (decl place nx : ℕ)
    → home.0 < d.sides → ContextIn d at → TextIn d name
    → slice_get (parts_at (forms_at d home) node.0) place ≡ Some decl
    → slice_get (forms_at d home) decl ≡ Some (DeclForm (text_in (names_of d) name) (Some value.0)) → nx ≡ place + 1
    → Sure home d
    (give_each (context_in (names_of d) home.0 at) (drop place (parts_at (forms_at d home) node.0)) finished)
    (move.Wait (x.Stmt (t.Declared at node name nx)) (task.Evaluate value at))
one-waits d home at node value name decl place nx h i k e g n =
    let c : AContext = context_in (names_of d) home.0 at in
    let ps : List ℕ = parts_at (forms_at d home) node.0 in
    let rest : List ℕ = drop (place + 1) ps in
    rw n
    (Sure-by home d (give_each c (drop place ps) finished)
    (decl_of c (Some (DeclForm (text_in (names_of d) name) (Some value.0))) (λ a. give_each c rest finished)) _
    (λ log.
    ap (λ (ns : List ℕ). give_each c ns finished (Image d log)) (drop-at ps place decl e)
    ∙ each-of d home c decl rest log h refl
    ∙ ap (λ (f : Option Form). decl_of c f (λ a. give_each c rest finished) (Image d log)) g)
    (record {
      same = λ w begun log f. refl;
      free = λ log. refl;
      calm = tt;
      ids = (i.0, (i.1, (tt, (k, (i.0, (i.1, (tt, tt)))))));
    }))

-- the value of a declaration is given, and the next ones follow
pub Step-declared : (home : Side) (begun : Bool) (r : Result Move Halt) (d d1 d2 : Data) (f : ℕ) (l : Written)
    (at : Context) (node : NodeId) (next : ℕ) (p : Does Answer) → HasItsIds d → ContextIn d at
    → WentOn Answer d d1 0 0 p Nothing
    → ((b : Bool) → Step home b r d1 d2 f f l l
    (give_each (context_in (names_of d1) home.0 at) (drop next (parts_at (forms_at d1 home) node.0)) finished))
    → Step home begun r d d2 f f l l
    ((p >>= (λ a. give_each (context_in (names_of d) home.0 at) (drop next (parts_at (forms_at d home) node.0))))
    finished)
Step-declared home begun r d d1 d2 f l at node next p i h q s =
    let c : AContext = context_in (names_of d) home.0 at in
    let c1 : AContext = context_in (names_of d1) home.0 at in
    let ps1 : List ℕ = drop next (parts_at (forms_at d1 home) node.0) in
    Step-after Answer home begun r d d1 d2 f f f l l p Nothing
    (λ a. give_each c (drop next (parts_at (forms_at d home) node.0)) finished)
    (WentOn-free Answer d d1 f p Nothing q)
    (puts-none home r d1 d2 f f l l (give_each c1 ps1 finished) (s true))
    (subst (λ (fs : List Form). Step home begun r d1 d2 f f l l (give_each c (drop next (parts_at fs node.0)) finished))
    (forms-grow d d1 home i q.grew)
    (subst (λ (x : AContext). Step home begun r d1 d2 f f l l (give_each x ps1 finished))
    (context-grows d d1 home at h.1 q.grew) (s begun)))

-- a block's functions are made, and its statements follow
pub Step-scoped : (home : Side) (begun : Bool) (r : Result Move Halt) (d d1 d2 : Data) (f f1 : ℕ) (l : Written)
    (at : Context) (node : NodeId) (id : ScopeId) → HasItsIds d → HasItsIds d1 → ContextIn d at
    → Enters (Ok id) d d1 f f1 (enter_scope home.0 at.scope.0 node.0) → ScopeIn d1 id
    → Changes (Ok tt) d1 d2 (declare home.0 id.0 (parts_at (forms_at d1 home) node.0))
    → ((b : Bool) → Step home b r d2 d2 f1 f1 l l
    (run_each (context_in (names_of d2) home.0 (inside at id)) (parts_at (forms_at d2 home) node.0) finished))
    → Step home begun r d d2 f f1 l l
    (run_scoped (context_in (names_of d) home.0 at) node.0 (parts_at (forms_at d home) node.0) finished)
Step-scoped home begun r d d1 d2 f f1 l at node id i j h q z m s =
    let p : Does ℕ = enter_scope home.0 at.scope.0 node.0 in
    let ps : List ℕ = parts_at (forms_at d home) node.0 in
    let ps1 : List ℕ = parts_at (forms_at d1 home) node.0 in
    let e1 : forms_at d1 home ≡ forms_at d home = forms-entered d d1 home id f f1 p i q in
    let e2 : forms_at d2 home ≡ forms_at d1 home = forms-grow d1 d2 home j m.grew in
    let c1 : AContext = context_in (names_of d1) home.0 (inside at id) in
    let c2 : AContext = context_in (names_of d2) home.0 (inside at id) in
    let k : ContextIn d1 (inside at id) = ContextIn-entered d d1 at id f f1 p q z h in
    let n : PutsNone r = puts-none home r d2 d2 f1 f1 l l (run_each c2 (parts_at (forms_at d2 home) node.0) finished)
    (s true) in
    let after : Step home begun r d2 d2 f1 f1 l l (run_each c1 ps1 finished)
    = subst (λ (fs : List Form). Step home begun r d2 d2 f1 f1 l l (run_each c1 (parts_at fs node.0) finished)) e2
    (subst (λ (x : AContext). Step home begun r d2 d2 f1 f1 l l (run_each x (parts_at (forms_at d2 home) node.0)
    finished))
    (context-grows d1 d2 home (inside at id) k.1 m.grew) (s begun)) in
    let body : Step home begun r d1 d2 f1 f1 l l ((declare home.0 id.0 ps1 >>= (λ a. run_each c1 ps1)) finished)
    = Step-after Answer home begun r d1 d2 d2 f1 f1 f1 l l (declare home.0 id.0 ps1) Nothing
    (λ a. run_each c1 ps1 finished)
    (WentOn-free Answer d1 d2 f1 (declare home.0 id.0 ps1) Nothing m) n after in
    entering home begun r d d1 d2 f f1 f1 l l at id p (λ c. declare c.side c.scope ps >>= (λ a. run_each c ps)) q h.1 n
    (subst (λ (fs : List Form). Step home begun r d1 d2 f1 f1 l l
    ((declare home.0 id.0 (parts_at fs node.0) >>= (λ a. run_each c1 (parts_at fs node.0))) finished)) e1 body)

-- ---- the loop over the declarations

pub parts-grow : (d d' : Data) (home : Side) (node : NodeId) → HasItsIds d → Grew d d'
    → parts_at (forms_at d' home) node.0 ≡ parts_at (forms_at d home) node.0
parts-grow d d' home node i g = ap (λ (fs : List Form). parts_at fs node.0) (forms-grow d d' home i g)

pub Step-undeclared : (home : Side) (begun : Bool) (halt : Halt) (d d1 d2 : Data) (f : ℕ) (l : Written)
    (form : Option Form) (c : AContext) (p : Graph → Row) → Declares (Err halt) d1 d2 form c
    → Step home begun (Err halt) d d2 f f l l p
Step-undeclared home begun SpentHalt d d1 d2 f l form c p h = absurd h
Step-undeclared home begun NoMemory d d1 d2 f l form c p h = tt

pub waits-of : (o : Option (StrId × NodeId)) (p : StrId × NodeId) (d d' : Data) (form : Option Form) (c : AContext)
    → o ≡ Some p → Declares (Ok o) d d' form c → Waits d d' form p.0 p.1
waits-of o p d d' form c e h =
    let P : Option (StrId × NodeId) → Type 0 = λ z. Declares (Ok z) d d' form c in
    subst P e h

pub given-of : (o : Option (StrId × NodeId)) (d d' : Data) (form : Option Form) (c : AContext)
    → o ≡ None → Declares (Ok o) d d' form c → WentOn Answer d d' 0 0 (decl_of c form) Nothing
given-of o d d' form c e h =
    let P : Option (StrId × NodeId) → Type 0 = λ z. Declares (Ok z) d d' form c in
    subst P e h

-- where the loop has come from d0 to d
module _ (home : Side) (d0 d : Data) (at : Context) (node : NodeId) (next place : ℕ) (ids0 : HasItsIds d0)
    (h : ContextIn d0 at) (takes : home.0 < d0.sides) (g : Grew d0 d) (n : entries_in d ≡ entries_in d0)
    (same : (log : List Item) →
    give_each (context_in (names_of d0) home.0 at) (drop next (parts_at (forms_at d0 home) node.0)) finished
    (Image d0 log)
    ≡ give_each (context_in (names_of d0) home.0 at) (drop place (parts_at (forms_at d0 home) node.0)) finished
    (Image d log))
  where
    pub still-takes : home.0 < d.sides
    still-takes = omega (arith, takes, g.sides)

    pub Step-waits : (begun : Bool) (d' : Data) (f : ℕ) (l : Written) (value : NodeId) (name : StrId) (decl nx : ℕ)
        → slice_get (parts_at (forms_at d home) node.0) place ≡ Some decl
        → Waits d d' (slice_get (forms_at d home) decl) name value → nx ≡ place + 1
        → Step home begun (Ok (move.Wait (x.Stmt (t.Declared at node name nx)) (task.Evaluate value at))) d0 d' f f l l
        (give_each (context_in (names_of d0) home.0 at) (drop next (parts_at (forms_at d0 home) node.0)) finished)
    Step-waits begun d' f l value name decl nx e w k =
        let c0 : AContext = context_in (names_of d0) home.0 at in
        let c : AContext = context_in (names_of d) home.0 at in
        let ps0 : List ℕ = parts_at (forms_at d0 home) node.0 in
        let ps : List ℕ = parts_at (forms_at d home) node.0 in
        let m : Move = move.Wait (x.Stmt (t.Declared at node name nx)) (task.Evaluate value at) in
        let p : Graph → Row = give_each c0 (drop next ps0) finished in
        let i : ContextIn d at = (ScopeIn-grows d0 d g.grows at.scope h.0, ValueIn-grows d0 d g.grows at.this h.1) in
        subst (λ (z : Data). Step home begun (Ok m) d0 z f f l l p) (sym w.world)
        (Step-moved home begun (Ok m) d0 d d f f l l p (give_each c (drop place ps) finished)
        (λ log.
        same log
        ∙ ap (λ (y : AContext). give_each y (drop place ps0) finished (Image d log))
        (sym (context-grows d0 d home at h.1 g))
        ∙ ap (λ (ns : List ℕ). give_each c (drop place ns) finished (Image d log))
        (sym (parts-grow d0 d home node ids0 g)))
        n g
        (Step-sure home begun d (give_each c (drop place ps) finished) m f l
        (one-waits d home at node value name decl place nx still-takes i w.text e w.there k)))

    pub Step-all : (begun : Bool) (f : ℕ) (l : Written) → length (parts_at (forms_at d0 home) node.0) ≤ place
        → Step home begun (Ok (move.Done (o.Normal a.Nothing))) d0 d f f l l
        (give_each (context_in (names_of d0) home.0 at) (drop next (parts_at (forms_at d0 home) node.0)) finished)
    Step-all begun f l e =
        let c0 : AContext = context_in (names_of d0) home.0 at in
        let ps0 : List ℕ = parts_at (forms_at d0 home) node.0 in
        Step-moved home begun (Ok (move.Done (o.Normal a.Nothing))) d0 d d f f l l
        (give_each c0 (drop next ps0) finished)
        (give_each c0 [] finished)
        (λ log. same log ∙ ap (λ (ns : List ℕ). give_each c0 ns finished (Image d log)) (drop_of_length-le ps0 e)) n g
        (Step-sure home begun d (give_each c0 [] finished) (move.Done (o.Normal a.Nothing)) f l (Sure-nothing home d))

    pub given-more : (d' : Data) (decl : ℕ) (log : List Item) → slice_get (parts_at (forms_at d home) node.0) place
        ≡ Some decl
        → WentOn Answer d d' 0 0 (decl_of (context_in (names_of d0) home.0 at) (slice_get (forms_at d home) decl))
        Nothing
        → give_each (context_in (names_of d0) home.0 at) (drop next (parts_at (forms_at d0 home) node.0)) finished
        (Image d0 log)
        ≡ give_each (context_in (names_of d0) home.0 at) (drop (place + 1) (parts_at (forms_at d0 home) node.0))
        finished (Image d' log)
    given-more d' decl log e q =
        let c0 : AContext = context_in (names_of d0) home.0 at in
        let ps0 : List ℕ = parts_at (forms_at d0 home) node.0 in
        same log
        ∙ ap (λ (ns : List ℕ). give_each c0 ns finished (Image d log))
        (drop-at ps0 place decl (ap (λ (ns : List ℕ). slice_get ns place) (sym (parts-grow d0 d home node ids0 g)) ∙ e))
        ∙ one-given d d' home c0 decl (drop (place + 1) ps0) log still-takes refl q
