-- `try`, `catch` and `finally`.
use Rattle.std.proofs.Common.{◌≡◌, ◌∙◌, Bool, Err, List, None, Ok, Option, Result, Some, [], ap, refl, slice_get, subst, ℕ}
use Rattle.std.specs.Prelude.{option_to_list}
use Rattle.std.proofs.lemmas.List.Elements.{All-head}
use Rattle.mb_base.specs.declared.value.NodeId.{NodeId}
use Rattle.mb_base.specs.declared.value.ScopeId.{ScopeId}
use Rattle.mb_base.specs.declared.value.Side.{Side}
use Rattle.mb_base.specs.declared.value.StrId.{StrId}
use Rattle.mb_base.specs.declared.value.Value.{Value}
use Rattle.mb_frames.proofs.Steps.{Step-by, Step-sure}
use Rattle.mb_frames.specs.Resolved.{context_in, node_in, outcome_in}
use Rattle.mb_frames.specs.Rest.Statements.{try_by, try_ended}
use Rattle.mb_frames.specs.Standing.{forms_at}
use Rattle.mb_frames.specs.Stepping.{Step, Sure, Written}
use Rattle.mb_frames.specs.declared.frame.Frame.TheVariants as x
use Rattle.mb_frames.specs.declared.frame.Move.{Move}
use Rattle.mb_frames.specs.declared.frame.Move.TheVariants as move
use Rattle.mb_frames.specs.declared.machine.Halt.{Halt}
use Rattle.mb_frames.specs.declared.machine.Halt.TheVariants.{NoMemory, Spent as SpentHalt}
use Rattle.mb_frames.specs.declared.statements.StmtFrame.TheVariants as t
use Rattle.mb_frames.specs.declared.task.Context.{Context}
use Rattle.mb_frames.specs.declared.task.Outcome.{Outcome}
use Rattle.mb_frames.specs.declared.task.Outcome.TheVariants as o
use Rattle.mb_frames.specs.declared.task.Task.TheVariants as task
use Rattle.mb_model.specs.Meaning.{finished}
use Rattle.mb_model.specs.Nodes.Evaluation.{Context as AContext, task as task_of, with_scope}
use Rattle.mb_model.specs.Nodes.Scopes.{enter_scope, initialize}
use Rattle.mb_model.specs.Nodes.Statements.{catch, catch_scope, finally, tried}
use Rattle.mb_model.specs.Task.{Answer, Nothing, Outcome as AnOutcome}
use Rattle.mb_model.specs.Writing.{◌>>=◌, Does, give, outcome, pass}
use Rattle.mb_world.proofs.Grow.{ScopeIn-grows, ValueIn-grows}
use Rattle.mb_world.proofs.Images.{value-grows}
use Rattle.mb_world.specs.Data.{Data, program_of}
use Rattle.mb_world.specs.Form.{Form}
use Rattle.mb_world.specs.Ids.{Maybe, ScopeIn, TextIn, ValueIn}
use Rattle.mb_world.specs.Image.{Image, Resolve, names_of, text_in}
use Rattle.mb_world.specs.Value.{Val}
use Rattle.mb_frames.proofs.Going.{Stuck-then, WentOn-give, WentOn-then}
use Rattle.mb_eval_stmt.proofs.Rows.{Sure-entered, inside}
use Rattle.mb_eval_stmt.specs.declared.tries.TryParts.{TryParts}
use Rattle.mb_frames.specs.Told.{IsNamed}
use Rattle.mb_frames.specs.Told.{HasNames, shapes_of}
use Rattle.mb_frames.specs.Going.{Changes, Enters, WentOn}
use Rattle.mb_eval_stmt.specs.machine.Plain.{OutcomeIn}
use Rattle.mb_parts.specs.Standing.{ContextIn}
use Rattle.mb_eval_stmt.specs.machine.Tries.{IsTry, caught_in}

-- an outcome is passed on
pub Sure-pass : (home : Side) (d : Data) (y : Outcome) → OutcomeIn d y
    → Sure home d (pass (outcome_in (names_of d) y) finished) (move.Done y)
Sure-pass home d (o.Normal z) h = record { same = λ w begun log f. refl; free = λ log. refl; calm = tt; ids = h }
Sure-pass home d (o.Throw z) h = record { same = λ w begun log f. refl; free = λ log. refl; calm = tt; ids = h }
Sure-pass home d (o.Return z) h = record { same = λ w begun log f. refl; free = λ log. refl; calm = tt; ids = h }
Sure-pass home d o.Break h = record { same = λ w begun log f. refl; free = λ log. refl; calm = tt; ids = h }
Sure-pass home d o.Continue h = record { same = λ w begun log f. refl; free = λ log. refl; calm = tt; ids = h }

pub Step-untried : (home : Side) (begun : Bool) (d : Data) (f : ℕ) (l : Written) (y : Outcome) (p : Does Answer)
    → OutcomeIn d y → p ≡ pass (outcome_in (names_of d) y) → Step home begun (Ok (move.Done y)) d d f f l l (p finished)
Step-untried home begun d f l y p h e =
    Step-by home begun (Ok (move.Done y)) d d f f l l (p finished) (pass (outcome_in (names_of d) y) finished)
    (λ log. ap (λ (z : Does Answer). z finished (Image d log)) e)
    (Step-sure home begun d (pass (outcome_in (names_of d) y) finished) (move.Done y) f l (Sure-pass home d y h))

pub Step-try : (home : Side) (begun : Bool) (r : Result Move Halt) (d d' : Data) (f f' : ℕ) (l l' : Written)
    (at : Context) (node : NodeId) (parts : TryParts) (y : AnOutcome) → IsTry d home node parts
    → Step home begun r d d' f f' l l'
    (tried (context_in (names_of d) home.0 at) node.0 (caught_in d home parts) (node_in parts.handler)
    (node_in parts.ending) y finished)
    → Step home begun r d d' f f' l l' (try_ended (forms_at d home) (context_in (names_of d) home.0 at) node.0 y
    finished)
Step-try home begun r d d' f f' l l' at node parts y q s =
    let c : AContext = context_in (names_of d) home.0 at in
    Step-by home begun r d d' f f' l l' (try_ended (forms_at d home) c node.0 y finished)
    (tried c node.0 (caught_in d home parts) (node_in parts.handler) (node_in parts.ending) y finished)
    (λ log. ap (λ (f : Option Form). try_by c node.0 y f finished (Image d log)) q.there) s

-- ---- the handler

-- what follows the scope of the name of a `catch`
abbrev pub handled : Context → ℕ → Option ℕ → AContext → Does Answer
handled at handler ending c = outcome (task_of c handler) >>= (λ y. finally (with_scope c at.scope.0) ending y)

pub Step-handler : (home : Side) (begun : Bool) (d d1 : Data) (f f1 : ℕ) (l : Written) (at : Context) (node : NodeId)
    (name : Option (List ℕ)) (handler : NodeId) (ending : Option NodeId) (v : Val) (id : ScopeId) → ContextIn d at
    → Enters (Ok id) d d1 f f1 (catch_scope (context_in (names_of d) home.0 at) node.0 name v) → ScopeIn d1 id
    → Step home begun (Ok (move.Wait (x.Stmt (t.Handler at ending)) (task.Evaluate handler (inside at id)))) d d1 f
    f1 l l
    (catch (context_in (names_of d) home.0 at) node.0 name (Some handler.0) (node_in ending) v finished)
Step-handler home begun d d1 f f1 l at node name handler ending v id h q s =
    let u : ValueIn d1 at.this = ValueIn-grows d d1 q.grew.grows at.this h.1 in
    let z : ScopeIn d1 at.scope = ScopeIn-grows d d1 q.grew.grows at.scope h.0 in
    Sure-entered home begun d d1 f f1 l at id (catch_scope (context_in (names_of d) home.0 at) node.0 name v)
    (handled at handler.0 (node_in ending))
    (move.Wait (x.Stmt (t.Handler at ending)) (task.Evaluate handler (inside at id))) q h.1
    (record {
      same = λ w b log g. refl;
      free = λ log. refl;
      calm = tt;
      ids = (z, (u, (tt, (s, (u, (tt, tt))))));
    })

-- ---- the scope of the name

pub caught-went : (d d1 d2 : Data) (home : Side) (scope id : ScopeId) (node : NodeId) (f f1 : ℕ) (name : StrId)
    (units : List ℕ) (y : Value) (this : Val) → Enters (Ok id) d d1 f f1 (enter_scope home.0 scope.0 node.0)
    → Changes (Ok tt) d1 d2 (initialize id.0 (text_in (names_of d1) name) (Resolve (names_of d1) y)) → TextIn d name
    → ValueIn d y → text_in (names_of d) name ≡ units
    → let c : AContext = record { side = home.0; scope = scope.0; this = this } in
    Enters (Ok id) d d2 f f1 (catch_scope c node.0 (Some units) (Resolve (names_of d) y))
caught-went d d1 d2 home scope id node f f1 name units y this q h t v e =
    let n : text_in (names_of d1) name ≡ units = q.grew.grows.same_text name t ∙ e in
    let z : Resolve (names_of d1) y ≡ Resolve (names_of d) y = value-grows d d1 q.grew.grows y v in
    WentOn-then ℕ ℕ d d1 d2 f f1 (enter_scope home.0 scope.0 node.0) id.0
    (λ sc. initialize sc units (Resolve (names_of d) y) >>= (λ a. give sc)) id.0 q
    (WentOn-give Answer ℕ d1 d2 0 0 (initialize id.0 units (Resolve (names_of d) y)) Nothing id.0
    (subst (λ (r : Val). WentOn Answer d1 d2 0 0 (initialize id.0 units r) Nothing) z
    (subst (λ (s : List ℕ). WentOn Answer d1 d2 0 0 (initialize id.0 s (Resolve (names_of d1) y)) Nothing) n h)))

pub caught-unentered : (halt : Halt) (d d1 : Data) (home : Side) (scope : ScopeId) (node : NodeId) (f f1 : ℕ)
    (units : List ℕ) (v this : Val) → Enters (Err halt) d d1 f f1 (enter_scope home.0 scope.0 node.0)
    → let c : AContext = record { side = home.0; scope = scope.0; this = this } in
    Enters (Err halt) d d1 f f1 (catch_scope c node.0 (Some units) v)
caught-unentered SpentHalt d d1 home scope node f f1 units v this q =
    Stuck-then ℕ ℕ d d1 f f1 (enter_scope home.0 scope.0 node.0) (λ sc. initialize sc units v >>= (λ a. give sc)) q
caught-unentered NoMemory d d1 home scope node f f1 units v this q = tt

pub caught-unchanged : (halt : Halt) (d d1 d2 : Data) (f f1 : ℕ) (p : Does Answer) (q : Does ℕ)
    → Changes (Err halt) d1 d2 p → Enters (Err halt) d d2 f f1 q
caught-unchanged SpentHalt d d1 d2 f f1 p q h = absurd h
caught-unchanged NoMemory d d1 d2 f f1 p q h = tt

pub caught-named : (d : Data) (home : Side) (caught : Option NodeId) → HasNames d home (option_to_list caught)
    → Maybe (λ (id : NodeId). IsNamed (slice_get (shapes_of (program_of d home)) id.0)) caught
caught-named d home None h = tt
caught-named d home (Some id) h =
    All-head (λ (y : NodeId). IsNamed (slice_get (shapes_of (program_of d home)) y.0)) id [] h
