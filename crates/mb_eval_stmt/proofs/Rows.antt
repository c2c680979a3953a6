-- Parts of rows of statements: what a node's form tells of them, and what follows where a scope was entered.
use Rattle.std.proofs.Common.{◌+◌, ◌<◌, ◌≡◌, ◌∙◌, ◌∷◌, Bool, List, None, Ok, Option, Result, Some, [], ap, drop, refl, slice_get, subst, sym, true, ℕ}
use Rattle.std.specs.Prelude.{IsSomeAnd}
use Rattle.mb_base.specs.declared.value.NodeId.{NodeId}
use Rattle.mb_base.specs.declared.value.ScopeId.{ScopeId}
use Rattle.mb_base.specs.declared.value.Side.{Side}
use Rattle.mb_eval_stmt.specs.declared.fors.ForParts.{ForParts}
use Rattle.mb_eval_stmt.specs.machine.Plain.{IsFor}
use Rattle.mb_parts.specs.Standing.{ContextIn}
use Rattle.mb_frames.proofs.Forms.{forms-are, forms-grow}
use Rattle.mb_frames.proofs.Going.{Step-after}
use Rattle.mb_frames.proofs.Passed.{puts-none}
use Rattle.mb_frames.proofs.Steps.{Step-by, Step-sure, Sure-by, drop-at}
use Rattle.mb_frames.specs.Going.{Enters}
use Rattle.mb_frames.specs.Kinds.{Expression, NodeSort, Statement, form_sort}
use Rattle.mb_frames.specs.Resolved.{context_in, node_in, task_in}
use Rattle.mb_frames.specs.Rest.Parts.{parts_at, parts_of}
use Rattle.mb_frames.specs.Rest.Statements.{for_by, lets_of}
use Rattle.mb_frames.specs.Standing.{forms_at}
use Rattle.mb_frames.specs.Stepping.{PutsNone, Step, Sure, Written}
use Rattle.mb_frames.specs.Told.{IsNodeOf}
use Rattle.mb_frames.specs.declared.frame.Frame.TheVariants as x
use Rattle.mb_frames.specs.declared.frame.Move.TheVariants as move
use Rattle.mb_frames.specs.declared.frame.Move.{Move}
use Rattle.mb_frames.specs.declared.machine.Halt.{Halt}
use Rattle.mb_frames.specs.declared.statements.StmtFrame.TheVariants as t
use Rattle.mb_frames.specs.declared.task.Answer.TheVariants as a
use Rattle.mb_frames.specs.declared.task.Context.{Context}
use Rattle.mb_frames.specs.declared.task.Outcome.TheVariants as o
use Rattle.mb_frames.specs.declared.task.Task.TheVariants as task
use Rattle.mb_model.specs.Meaning.{finished, row}
use Rattle.mb_model.specs.Nodes.Evaluation.{Context as AContext, with_scope}
use Rattle.mb_model.specs.Nodes.Scopes.{form_at}
use Rattle.mb_model.specs.Nodes.Statements.{copy_if, for_again, for_begun, for_last, for_lets, for_next, for_turn, is_let, loop_form, loop_row, run_each}
use Rattle.mb_model.specs.Nodes.{node as node_form, node_if, node_row}
use Rattle.mb_model.specs.Task.{Answer, Nothing}
use Rattle.mb_model.specs.Writing.{◌>>=◌, Does, Row, give}
use Rattle.mb_parts.proofs.Places.{drop-past}
use Rattle.mb_world.proofs.Grow.{ValueIn-grows}
use Rattle.mb_world.proofs.Images.{value-grows}
use Rattle.mb_world.specs.Data.{Data}
use Rattle.mb_world.specs.Form.{ForForm, Form}
use Rattle.mb_world.specs.Graph.{Graph, Item}
use Rattle.mb_world.specs.Ids.{HasItsIds, Maybe, ScopeIn, ValueIn}
use Rattle.mb_world.specs.Image.{Image, Resolve, names_of}
use Rattle.mb_world.specs.Value.{Val}

-- ---- the row of a node

pub row-is : (d : Data) (home : Side) (node : ℕ) (log : List Item) (this : Val) (scope : ℕ) (o : Option Form)
    → home.0 < d.sides
    → slice_get (forms_at d home) node ≡ o
    → let c : AContext = record { side = home.0; scope = scope; this = this } in
    node_row c node finished (Image d log) ≡ node_if c node o finished (Image d log)
row-is d home node log this scope o h e =
    let c : AContext = record { side = home.0; scope = scope; this = this } in
    ap (λ (fs : List Form). node_if c node (slice_get fs node) finished (Image d log)) (forms-are d home log h)
    ∙ ap (λ (f : Option Form). node_if c node f finished (Image d log)) e

-- ---- a `for`

pub lets-are : (d : Data) (home : Side) (log : List Item) (first : Option ℕ) → home.0 < d.sides
    → for_lets (Image d log) home.0 first ≡ lets_of (forms_at d home) first
lets-are d home log None h = refl
lets-are d home log (Some n) h = ap (λ (fs : List Form). is_let (slice_get fs n)) (forms-are d home log h)

turn-by : (d : Data) (home : Side) (c : AContext) (node : ℕ) (log : List Item) (o : Option Form) → home.0 < d.sides
    → c.side ≡ home.0
    → loop_form c node o finished (Image d log)
    ≡ for_by (forms_at d home) (λ lets test last body. for_turn c node lets test last body) o finished (Image d log)
turn-by d home c node log (Some (ForForm first test last body)) h e =
    ap (λ (b : Bool). for_turn c node b test last body finished (Image d log))
    (ap (λ (s : ℕ). for_lets (Image d log) s first) e ∙ lets-are d home log first h)
turn-by d home c node log _ h e = refl

-- the row of a next turn
pub loop-is : (d : Data) (home : Side) (c : AContext) (node : ℕ) (log : List Item) → home.0 < d.sides → c.side ≡ home.0
    → loop_row c node finished (Image d log)
    ≡ for_by (forms_at d home) (λ lets test last body. for_turn c node lets test last body)
    (slice_get (forms_at d home) node) finished (Image d log)
loop-is d home c node log h e =
    ap (λ (s : ℕ). loop_form c node (form_at (Image d log) s node) finished (Image d log)) e
    ∙ ap (λ (fs : List Form). loop_form c node (slice_get fs node) finished (Image d log)) (forms-are d home log h)
    ∙ turn-by d home c node log (slice_get (forms_at d home) node) h e

pub for-is : (d : Data) (home : Side) (node : NodeId) (parts : ForParts) → IsFor d home node parts
    → (p : Bool → Option ℕ → Option ℕ → ℕ → Does Answer)
    → for_by (forms_at d home) p (slice_get (forms_at d home) node.0)
    ≡ p parts.lets (node_in parts.test) (node_in parts.last) parts.body.0
for-is d home node parts q p =
    ap (for_by (forms_at d home) p) q.there
    ∙ ap (λ (b : Bool). p b (node_in parts.test) (node_in parts.last) parts.body.0) q.lets

pub node-still : (sort : NodeSort) (d d' : Data) (home : Side) → forms_at d' home ≡ forms_at d home
    → (o : Option NodeId) → Maybe (IsNodeOf d home sort) o → Maybe (IsNodeOf d' home sort) o
node-still sort d d' home e None h = h
node-still sort d d' home e (Some id) h =
    subst (λ (fs : List Form). IsSomeAnd (slice_get fs id.0) (λ f. form_sort f ≡ sort)) (sym e) h

pub IsFor-grows : (d d' : Data) (home : Side) (node : NodeId) (parts : ForParts)
    → forms_at d' home ≡ forms_at d home → IsFor d home node parts → IsFor d' home node parts
IsFor-grows d d' home node parts e q = record {
  first = q.first;
  there = ap (λ (fs : List Form). slice_get fs node.0) e ∙ q.there;
  lets = ap (λ (fs : List Form). lets_of fs q.first) e ∙ q.lets;
  test = node-still Expression d d' home e parts.test q.test;
  last = node-still Expression d d' home e parts.last q.last;
  body = subst (λ (fs : List Form). IsSomeAnd (slice_get fs parts.body.0) (λ f. form_sort f ≡ Statement))
      (sym e) q.body;
}

-- ---- where a scope was entered

abbrev pub inside : Context → ScopeId → Context
inside at id = record at { scope = id }

pub ContextIn-entered : (d d' : Data) (at : Context) (id : ScopeId) (f f' : ℕ) (p : Does ℕ)
    → Enters (Ok id) d d' f f' p → ScopeIn d' id → ContextIn d at → ContextIn d' (inside at id)
ContextIn-entered d d' at id f f' p q s h = (s, ValueIn-grows d d' q.grew.grows at.this h.1)

pub forms-entered : (d d' : Data) (home : Side) (id : ScopeId) (f f' : ℕ) (p : Does ℕ) → HasItsIds d
    → Enters (Ok id) d d' f f' p → forms_at d' home ≡ forms_at d home
forms-entered d d' home id f f' p i q = forms-grow d d' home i q.grew

pub inside-is : (d d' : Data) (home : Side) (at : Context) (id : ScopeId) (f f' : ℕ) (p : Does ℕ)
    → Enters (Ok id) d d' f f' p → ValueIn d at.this
    → with_scope (context_in (names_of d) home.0 at) id.0 ≡ context_in (names_of d') home.0 (inside at id)
inside-is d d' home at id f f' p q h =
    ap (λ (v : Val). let c : AContext = record { side = home.0; scope = id.0; this = v } in c)
    (sym (value-grows d d' q.grew.grows at.this h))

-- the row goes on in the scope that was entered
pub entering : (home : Side) (begun : Bool) (r : Result Move Halt) (d d1 d2 : Data) (f f1 f2 : ℕ) (l l2 : Written)
    (at : Context) (id : ScopeId) (p : Does ℕ) (k : AContext → Does Answer) → Enters (Ok id) d d1 f f1 p
    → ValueIn d at.this → PutsNone r
    → Step home begun r d1 d2 f1 f2 l l2 (k (context_in (names_of d1) home.0 (inside at id)) finished)
    → Step home begun r d d2 f f2 l l2
    ((p >>= (λ sc. k (with_scope (context_in (names_of d) home.0 at) sc))) finished)
entering home begun r d d1 d2 f f1 f2 l l2 at id p k q h c s =
    let m : ℕ → Graph → Row
    = λ sc. k (with_scope (context_in (names_of d) home.0 at) sc) finished in
    Step-after ℕ home begun r d d1 d2 f f1 f2 l l2 p id.0 m q c
    (subst (λ (x : AContext). Step home begun r d1 d2 f1 f2 l l2 (k x finished))
    (sym (inside-is d d1 home at id f f1 p q h)) s)

-- ---- lists

pub each-next : (d : Data) (home : Side) (at : Context) (node part : NodeId) (next nx : ℕ) → ContextIn d at
    → slice_get (parts_at (forms_at d home) node.0) next ≡ Some part.0 → nx ≡ next + 1
    → Sure home d
    (run_each (context_in (names_of d) home.0 at) (drop next (parts_at (forms_at d home) node.0)) finished)
    (move.Wait (x.Stmt (t.Each at node nx)) (task.Evaluate part at))
each-next d home at node part next nx h e n =
    let c : AContext = context_in (names_of d) home.0 at in
    let ps : List ℕ = parts_at (forms_at d home) node.0 in
    rw n
    (Sure-by home d (run_each c (drop next ps) finished) (run_each c (part.0 ∷ drop (next + 1) ps) finished) _
    (λ log. ap (λ (ns : List ℕ). run_each c ns finished (Image d log)) (drop-at ps next part.0 e))
    (record {
      same = λ w begun log f. refl;
      free = λ log. refl;
      calm = tt;
      ids = (h.0, (h.1, (tt, (h.0, (h.1, (tt, tt))))));
    }))

pub each-done : (d : Data) (home : Side) (at : Context) (node : NodeId) (next : ℕ)
    → slice_get (parts_at (forms_at d home) node.0) next ≡ None
    → Sure home d
    (run_each (context_in (names_of d) home.0 at) (drop next (parts_at (forms_at d home) node.0)) finished)
    (move.Done (o.Normal a.Nothing))
each-done d home at node next e =
    let c : AContext = context_in (names_of d) home.0 at in
    let ps : List ℕ = parts_at (forms_at d home) node.0 in
    Sure-by home d (run_each c (drop next ps) finished) (run_each c [] finished) _
    (λ log. ap (λ (ns : List ℕ). run_each c ns finished (Image d log)) (drop-past ps next e))
    (record { same = λ w begun log f. refl; free = λ log. refl; calm = tt; ids = tt })

-- ---- the row of a statement that begins

pub Step-node : (home : Side) (begun : Bool) (r : Result Move Halt) (d d' : Data) (f f' : ℕ) (l l' : Written)
    (at : Context) (node : NodeId) (q : Form) → home.0 < d.sides → slice_get (forms_at d home) node.0 ≡ Some q
    → Step home begun r d d' f f' l l' (node_form (context_in (names_of d) home.0 at) node.0 q finished)
    → Step home begun r d d' f f' l l' (row (task_in (names_of d) home.0 (task.Evaluate node at)))
Step-node home begun r d d' f f' l l' at node q h e s =
    Step-by home begun r d d' f f' l l' (row (task_in (names_of d) home.0 (task.Evaluate node at)))
    (node_form (context_in (names_of d) home.0 at) node.0 q finished)
    (λ log. row-is d home node.0 log (Resolve (names_of d) at.this) at.scope.0 (Some q) h e) s

pub parts-is : (d : Data) (home : Side) (node : NodeId) (q : Form) → slice_get (forms_at d home) node.0 ≡ Some q
    → parts_at (forms_at d home) node.0 ≡ parts_of (Some q)
parts-is d home node q e = ap parts_of e

-- ---- turns of a `for`

pub Step-for : (home : Side) (begun : Bool) (r : Result Move Halt) (d d' : Data) (f f' : ℕ) (l l' : Written)
    (node : NodeId) (parts : ForParts) → IsFor d home node parts
    → (p : Bool → Option ℕ → Option ℕ → ℕ → Does Answer)
    → Step home begun r d d' f f' l l' (p parts.lets (node_in parts.test) (node_in parts.last) parts.body.0 finished)
    → Step home begun r d d' f f' l l' (for_by (forms_at d home) p (slice_get (forms_at d home) node.0) finished)
Step-for home begun r d d' f f' l l' node parts q p s =
    Step-by home begun r d d' f f' l l' (for_by (forms_at d home) p (slice_get (forms_at d home) node.0) finished)
    (p parts.lets (node_in parts.test) (node_in parts.last) parts.body.0 finished)
    (λ log. ap (λ (z : Does Answer). z finished (Image d log)) (for-is d home node parts q p)) s

-- a move of a part that does nothing but begin
pub Sure-none : (home : Side) (d : Data) (m : Move) (p : Graph → Row) → Sure home d p m → PutsNone (Ok m)
Sure-none home d (move.Done y) p s = tt
Sure-none home d (move.Wait y z) p s = tt
Sure-none home d (move.Next z) p s = tt
Sure-none home d (move.Anew z) p s = absurd s.calm
Sure-none home d (move.Entered y z) p s = absurd s.calm

-- in the scope that was entered, such a part begins
pub Sure-entered : (home : Side) (begun : Bool) (d d1 : Data) (f f1 : ℕ) (l : Written) (at : Context) (id : ScopeId)
    (p : Does ℕ) (k : AContext → Does Answer) (m : Move) → Enters (Ok id) d d1 f f1 p → ValueIn d at.this
    → Sure home d1 (k (context_in (names_of d1) home.0 (inside at id)) finished) m
    → Step home begun (Ok m) d d1 f f1 l l
    ((p >>= (λ sc. k (with_scope (context_in (names_of d) home.0 at) sc))) finished)
Sure-entered home begun d d1 f f1 l at id p k m q h s =
    entering home begun (Ok m) d d1 d1 f f1 f1 l l at id p k q h
    (Sure-none home d1 m (k (context_in (names_of d1) home.0 (inside at id)) finished) s)
    (Step-sure home begun d1 (k (context_in (names_of d1) home.0 (inside at id)) finished) m f1 l s)

pub Step-turn : (home : Side) (begun : Bool) (d d1 : Data) (f f1 : ℕ) (l : Written) (at : Context) (node : NodeId)
    (parts : ForParts) (id : ScopeId) (m : Move) → HasItsIds d → ContextIn d at → IsFor d home node parts
    → Enters (Ok id) d d1 f f1 (copy_if parts.lets at.scope.0) → ScopeIn d1 id
    → (ContextIn d1 (inside at id) → IsFor d1 home node parts
    → Sure home d1 (for_turn (context_in (names_of d1) home.0 (inside at id)) node.0 parts.lets (node_in parts.test)
    (node_in parts.last) parts.body.0 finished) m)
    → Step home begun (Ok m) d d1 f f1 l l
    (for_begun (context_in (names_of d) home.0 at) node.0 parts.lets (node_in parts.test) (node_in parts.last)
    parts.body.0 finished)
Step-turn home begun d d1 f f1 l at node parts id m i h q e s g =
    let p : Does ℕ = copy_if parts.lets at.scope.0 in
    Sure-entered home begun d d1 f f1 l at id p
    (λ c. for_turn c node.0 parts.lets (node_in parts.test) (node_in parts.last) parts.body.0) m e h.1
    (g (ContextIn-entered d d1 at id f f1 p e s h)
    (IsFor-grows d d1 home node parts (forms-entered d d1 home id f f1 p i e) q))

-- ---- ends

pub Sure-nothing : (home : Side) (d : Data) → Sure home d (give Nothing finished) (move.Done (o.Normal a.Nothing))
Sure-nothing home d = record { same = λ w begun log f. refl; free = λ log. refl; calm = tt; ids = tt }

-- a part that gives nothing
pub Step-nothing : (home : Side) (begun : Bool) (d : Data) (f : ℕ) (l : Written) (p : Does Answer) → p ≡ give Nothing
    → Step home begun (Ok (move.Done (o.Normal a.Nothing))) d d f f l l (p finished)
Step-nothing home begun d f l p e =
    Step-by home begun (Ok (move.Done (o.Normal a.Nothing))) d d f f l l (p finished) (give Nothing finished)
    (λ log. ap (λ (z : Does Answer). z finished (Image d log)) e)
    (Step-sure home begun d (give Nothing finished) (move.Done (o.Normal a.Nothing)) f l (Sure-nothing home d))

-- the update of a `for` follows in the copy
pub Step-last : (home : Side) (d d1 : Data) (f f1 : ℕ) (l : Written) (at : Context) (node last : NodeId) (id : ScopeId)
    (parts : ForParts) → IsFor d home node parts → HasItsIds d → ContextIn d at
    → Enters (Ok id) d d1 f f1 (copy_if parts.lets at.scope.0) → ScopeIn d1 id
    → Step home true (Ok (move.Wait (x.Stmt (t.ForLast (inside at id) node)) (task.Evaluate last (inside at id)))) d
    d1 f f1 l l
    (for_next (context_in (names_of d) home.0 at) node.0 parts.lets (Some last.0) finished)
Step-last home d d1 f f1 l at node last id parts q i h e s =
    let p : Does ℕ = copy_if parts.lets at.scope.0 in
    let c : ContextIn d1 (inside at id) = ContextIn-entered d d1 at id f f1 p e s h in
    Sure-entered home true d d1 f f1 l at id p (λ k. for_last k node.0 (Some last.0))
    (move.Wait (x.Stmt (t.ForLast (inside at id) node)) (task.Evaluate last (inside at id))) e h.1
    (record {
      same = λ w begun log g. refl;
      free = λ log. refl;
      calm = tt;
      ids = (c.0, (c.1, (tt, (c.0, (c.1, (tt, tt))))));
    })

-- the `for` goes round in the copy
pub Step-around : (home : Side) (d d1 : Data) (f f1 : ℕ) (l : Written) (at : Context) (node : NodeId) (id : ScopeId)
    (p : Does ℕ) (m : Move) → ContextIn d at → Enters (Ok id) d d1 f f1 p
    → Step home true (Ok m) d1 d1 f1 f1 l l (for_again (context_in (names_of d1) home.0 (inside at id)) node.0 finished)
    → Step home true (Ok m) d d1 f f1 l l
    ((p >>= (λ sc. for_last (with_scope (context_in (names_of d) home.0 at) sc) node.0 None)) finished)
Step-around home d d1 f f1 l at node id p m h e s =
    entering home true (Ok m) d d1 d1 f f1 f1 l l at id p (λ k. for_last k node.0 None) e h.1
    (puts-none home (Ok m) d1 d1 f1 f1 l l (for_again (context_in (names_of d1) home.0 (inside at id)) node.0
    finished) s) s
