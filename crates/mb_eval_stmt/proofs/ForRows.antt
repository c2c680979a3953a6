-- A `for` that begins.
use Rattle.std.proofs.Common.{◌<◌, ◌≡◌, ◌∙◌, Bool, List, None, Ok, Option, Result, Some, ap, refl, slice_get, subst, sym, ℕ}
use Rattle.mb_base.specs.declared.value.NodeId.{NodeId}
use Rattle.mb_base.specs.declared.value.ScopeId.{ScopeId}
use Rattle.mb_base.specs.declared.value.Side.{Side}
use Rattle.mb_frames.proofs.Steps.{Step-by, Sure-wait}
use Rattle.mb_frames.specs.Resolved.{context_in}
use Rattle.mb_frames.specs.Rest.Statements.{for_by, for_first_done, lets_of}
use Rattle.mb_frames.specs.Standing.{forms_at}
use Rattle.mb_frames.specs.Stepping.{PutsNone, Step, Written}
use Rattle.mb_frames.specs.declared.frame.Frame.TheVariants as x
use Rattle.mb_frames.specs.declared.frame.Move.{Move}
use Rattle.mb_frames.specs.declared.frame.Move.TheVariants as move
use Rattle.mb_frames.specs.declared.machine.Halt.{Halt}
use Rattle.mb_frames.specs.declared.statements.StmtFrame.TheVariants as t
use Rattle.mb_frames.specs.declared.task.Context.{Context}
use Rattle.mb_frames.specs.declared.task.Task.TheVariants as task
use Rattle.mb_model.specs.Meaning.{finished}
use Rattle.mb_model.specs.Nodes.Evaluation.{Context as AContext, with_scope}
use Rattle.mb_model.specs.Nodes.Statements.{enter_if, for_begun, for_first, for_row}
use Rattle.mb_model.specs.Task.{Answer}
use Rattle.mb_model.specs.Writing.{◌>>=◌, Does, pass}
use Rattle.mb_world.specs.Data.{Data}
use Rattle.mb_world.specs.Form.{ForForm, Form}
use Rattle.mb_world.specs.Ids.{HasItsIds, ScopeIn}
use Rattle.mb_world.specs.Image.{Image, names_of}
use Rattle.mb_eval_stmt.proofs.Rows.{ContextIn-entered, Sure-entered, entering, forms-entered, inside, lets-are}
use Rattle.mb_frames.specs.Going.{Enters}
use Rattle.mb_parts.specs.Standing.{ContextIn}

-- what follows the first part
abbrev begun-by : List Form → AContext → ℕ → Option ℕ → Option ℕ → Option ℕ → ℕ → Does Answer
begun-by fs c node first test last body = for_begun c node (lets_of fs first) test last body

first-done : (fs : List Form) (c : AContext) (node : ℕ) (first test last : Option ℕ) (body : ℕ)
    → slice_get fs node ≡ Some (ForForm first test last body)
    → for_first_done fs c node ≡ begun-by fs c node first test last body
first-done fs c node first test last body e =
    ap (for_by fs (λ lets t l b. for_begun c node lets t l b)) e

-- what follows where the scope was entered
abbrev pub after-scope : List Form → AContext → ℕ → Option ℕ → Option ℕ → Option ℕ → ℕ → Does Answer
after-scope fs c node first test last body = for_first c node (lets_of fs first) first test last body

abbrev pub entering-row : List Form → AContext → ℕ → Option ℕ → Option ℕ → Option ℕ → ℕ → Does Answer
entering-row fs c node first test last body =
    enter_if c (lets_of fs first) node >>= (λ sc. after-scope fs (with_scope c sc) node first test last body)

pub Step-row : (home : Side) (begun : Bool) (r : Result Move Halt) (d d' : Data) (f f' : ℕ) (l l' : Written)
    (at : Context) (node : NodeId) (first test last : Option ℕ) (body : ℕ) → home.0 < d.sides
    → Step home begun r d d' f f' l l'
    (entering-row (forms_at d home) (context_in (names_of d) home.0 at) node.0 first test last body finished)
    → Step home begun r d d' f f' l l' (for_row (context_in (names_of d) home.0 at) node.0 first test last body
    finished)
Step-row home begun r d d' f f' l l' at node first test last body h s =
    let c : AContext = context_in (names_of d) home.0 at in
    Step-by home begun r d d' f f' l l' (for_row c node.0 first test last body finished)
    (entering-row (forms_at d home) c node.0 first test last body finished)
    (λ log.
    let go : Bool → Does Answer
    = λ b. enter_if c b node.0 >>= (λ sc. for_first (with_scope c sc) node.0 b first test last body) in
    ap (λ (b : Bool). go b finished (Image d log)) (lets-are d home log first h)) s

-- the first part begins
pub Step-first : (home : Side) (begun : Bool) (d d1 : Data) (f f1 : ℕ) (l : Written) (at : Context)
    (node first : NodeId)
    (test last : Option ℕ) (body : ℕ) (id : ScopeId) → HasItsIds d → ContextIn d at
    → slice_get (forms_at d home) node.0 ≡ Some (ForForm (Some first.0) test last body)
    → Enters (Ok id) d d1 f f1
    (enter_if (context_in (names_of d) home.0 at) (lets_of (forms_at d home) (Some first.0)) node.0)
    → ScopeIn d1 id
    → Step home begun (Ok (move.Wait (x.Stmt (t.ForFirst (inside at id) node)) (task.Evaluate first (inside at id))))
    d d1 f f1 l l
    (entering-row (forms_at d home) (context_in (names_of d) home.0 at) node.0 (Some first.0) test last body finished)
Step-first home begun d d1 f f1 l at node first test last body id i h e q s =
    let fs : List Form = forms_at d home in
    let p : Does ℕ = enter_if (context_in (names_of d) home.0 at) (lets_of fs (Some first.0)) node.0 in
    let k : ContextIn d1 (inside at id) = ContextIn-entered d d1 at id f f1 p q s h in
    let c1 : AContext = context_in (names_of d1) home.0 (inside at id) in
    let g : forms_at d1 home ≡ fs = forms-entered d d1 home id f f1 p i q in
    let z : for_first_done (forms_at d1 home) c1 node.0 ≡ begun-by fs c1 node.0 (Some first.0) test last body
    = ap (λ (xs : List Form). for_first_done xs c1 node.0) g ∙ first-done fs c1 node.0 (Some first.0) test last body
    e in
    Sure-entered home begun d d1 f f1 l at id p (λ c. after-scope fs c node.0 (Some first.0) test last body)
    (move.Wait (x.Stmt (t.ForFirst (inside at id) node)) (task.Evaluate first (inside at id))) q h.1
    (Sure-wait home d1 (x.Stmt (t.ForFirst (inside at id) node)) (task.Evaluate first (inside at id))
    (after-scope fs c1 node.0 (Some first.0) test last body finished)
    (λ y g'. pass y (λ a. begun-by fs c1 node.0 (Some first.0) test last body finished) g')
    (λ log. refl) tt
    (λ y g'. ap (λ (w : Does Answer). pass y (λ a. w finished) g') (sym z))
    (k.0, (k.1, (tt, (k.0, (k.1, (tt, tt)))))))

-- there is no first part
pub Step-unfirst : (home : Side) (begun : Bool) (r : Result Move Halt) (d d1 d2 : Data) (f f1 f2 : ℕ) (l : Written)
    (at : Context) (node : NodeId) (test last : Option ℕ) (body : ℕ) (id : ScopeId) → HasItsIds d → ContextIn d at
    → slice_get (forms_at d home) node.0 ≡ Some (ForForm None test last body)
    → Enters (Ok id) d d1 f f1 (enter_if (context_in (names_of d) home.0 at) (lets_of (forms_at d home) None) node.0)
    → PutsNone r
    → Step home begun r d1 d2 f1 f2 l l
    (for_first_done (forms_at d1 home) (context_in (names_of d1) home.0 (inside at id)) node.0 finished)
    → Step home begun r d d2 f f2 l l
    (entering-row (forms_at d home) (context_in (names_of d) home.0 at) node.0 None test last body finished)
Step-unfirst home begun r d d1 d2 f f1 f2 l at node test last body id i h e q n s =
    let fs : List Form = forms_at d home in
    let p : Does ℕ = enter_if (context_in (names_of d) home.0 at) (lets_of fs None) node.0 in
    let c1 : AContext = context_in (names_of d1) home.0 (inside at id) in
    let g : forms_at d1 home ≡ fs = forms-entered d d1 home id f f1 p i q in
    let z : for_first_done (forms_at d1 home) c1 node.0 ≡ begun-by fs c1 node.0 None test last body
    = ap (λ (xs : List Form). for_first_done xs c1 node.0) g ∙ first-done fs c1 node.0 None test last body e in
    entering home begun r d d1 d2 f f1 f2 l l at id p (λ c. after-scope fs c node.0 None test last body) q h.1 n
    (subst (λ (w : Does Answer). Step home begun r d1 d2 f1 f2 l l (w finished)) z s)
