-- The rest of a statement that waits (ECMA-262 14), from how its part ended.
use Rattle.std.specs.Prelude.{Bool, List, None, Option, Some, drop, false, slice_get, ℕ}
use Rattle.mb_frames.specs.Resolved.{context_in, node_in, outcome_in}
use Rattle.mb_frames.specs.Rest.Parts.{parts_at, with_answer}
use Rattle.mb_model.specs.Nodes.Evaluation.{Context, branch, task}
use Rattle.mb_model.specs.Nodes.Scopes.{initialize}
use Rattle.mb_model.specs.Nodes.Statements.{body_ended, do_test, do_tested, expr_done, finally, finally_ended, for_again, for_begun, for_body, for_next, give_each, is_let, run_each, tried, while_tested}
use Rattle.mb_model.specs.Task.{Answer, Nothing, Outcome, Return}
use Rattle.mb_model.specs.Writing.{◌>>=◌, Does, again, ends, give, pass, throw, value_in}
use Rattle.mb_world.specs.Form.{ForForm, Form, TryForm}
use Rattle.mb_world.specs.Image.{Names, text_in}
use Rattle.mb_world.specs.Value.{to_boolean}
use Rattle.mb_frames.specs.declared.statements.StmtFrame.{StmtFrame}
use Rattle.mb_frames.specs.declared.statements.StmtFrame.TheVariants as t

-- ---- a `for`, whose parts stand in its form

abbrev pub lets_of : List Form → Option ℕ → Bool
lets_of fs None = false
lets_of fs (Some first) = is_let (slice_get fs first)

abbrev pub for_by : List Form → (Bool → (test last : Option ℕ) → ℕ → Does Answer) → Option Form → Does Answer
for_by fs p (Some (ForForm first test last body)) = p (lets_of fs first) test last body
for_by fs p _ = give Nothing

abbrev pub for_first_done : List Form → Context → ℕ → Does Answer
for_first_done fs c node =
    for_by fs (λ lets test last body. for_begun c node lets test last body) (slice_get fs node)

abbrev pub for_tested : List Form → Context → ℕ → Bool → Does Answer
for_tested fs c node b = for_by fs (λ lets test last body. for_body c node lets last body b) (slice_get fs node)

abbrev pub for_body_ended : List Form → Context → ℕ → Outcome → Does Answer
for_body_ended fs c node o =
    for_by fs (λ lets test last body. body_ended (for_next c node lets last) o) (slice_get fs node)

abbrev pub try_by : Context → ℕ → Outcome → Option Form → Does Answer
try_by c node o (Some (TryForm block x h ending)) = tried c node x h ending o
try_by c node o _ = pass o

abbrev pub try_ended : List Form → Context → ℕ → Outcome → Does Answer
try_ended fs c node o = try_by c node o (slice_get fs node)

-- ---- each statement that waits

abbrev pub stmt_rest : Names → List Form → ℕ → StmtFrame → Outcome → Does Answer
stmt_rest n fs s (t.Each at node next) o =
    with_answer o (λ a. run_each (context_in n s at) (drop next (parts_at fs node.0)))
stmt_rest n fs s (t.Declared at node name next) o =
    with_answer o (λ a. initialize at.scope.0 (text_in n name) (value_in a)
    >>= (λ b. give_each (context_in n s at) (drop next (parts_at fs node.0))))
stmt_rest n fs s t.Expression o = with_answer o (λ a. expr_done (value_in a))
stmt_rest n fs s (t.If at main other) o =
    with_answer o (λ a. branch (context_in n s at) main.0 (node_in other) (to_boolean (value_in a)))
stmt_rest n fs s (t.WhileTest at node body) o =
    with_answer o (λ a. while_tested (context_in n s at) (task (context_in n s at) node.0) body.0 (to_boolean
    (value_in a)))
stmt_rest n fs s (t.WhileBody at node) o = body_ended (again (task (context_in n s at) node.0)) o
stmt_rest n fs s (t.DoBody at node test) o =
    body_ended (do_test (context_in n s at) (task (context_in n s at) node.0) test.0) o
stmt_rest n fs s (t.DoTest at node) o =
    with_answer o (λ a. do_tested (task (context_in n s at) node.0) (to_boolean (value_in a)))
stmt_rest n fs s (t.ForFirst at node) o = with_answer o (λ a. for_first_done fs (context_in n s at) node.0)
stmt_rest n fs s (t.ForTest at node) o =
    with_answer o (λ a. for_tested fs (context_in n s at) node.0 (to_boolean (value_in a)))
stmt_rest n fs s (t.ForBody at node) o = for_body_ended fs (context_in n s at) node.0 o
stmt_rest n fs s (t.ForLast at node) o = with_answer o (λ a. for_again (context_in n s at) node.0)
stmt_rest n fs s t.Return o = with_answer o (λ a. ends (Return (value_in a)))
stmt_rest n fs s t.Throw o = with_answer o (λ a. throw (value_in a))
stmt_rest n fs s (t.Try at node) o = try_ended fs (context_in n s at) node.0 o
stmt_rest n fs s (t.Handler at ending) o = finally (context_in n s at) (node_in ending) o
stmt_rest n fs s (t.Ending outcome) o = finally_ended (outcome_in n outcome) o
