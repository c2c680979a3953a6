use Rattle.std.specs.Prelude.{ℕ, List, [], ◌∷◌, Bool, true, false, Option, Some, None}
use Rattle.mb_world.specs.Value.{Val, Undefined, to_boolean}
use Rattle.mb_world.specs.Form.{Form, DeclForm, ForForm}
use Rattle.mb_world.specs.Graph.{Graph}
use Rattle.mb_model.specs.Task.{Task, Loop, Answer, Nothing, Outcome, Normal, Throw, Return, Break, Continue}
use Rattle.mb_model.specs.Writing.{ends, outcome, Does, ◌>>=◌, give, answer, again, look}
use Rattle.mb_model.specs.Nodes.Scopes.{form_at, enter_scope, initialize, declare}
use Rattle.mb_model.specs.Nodes.Evaluation.{Context, task, eval, with_scope}
use Rattle.mb_model.specs.Nodes.Statements.{run_each, run_scoped, decl_of, give_each, expr_done, body_ended, while_tested, do_tested, do_test, for_lets, copy_if, for_again, for_last, for_next, for_body, for_turn, for_begun, for_first, enter_if, for_row, loop_form, loop_row, finally_ended, finally, catch_scope, catch, tried, return_row}
use Rattle.mb_model.proofs.Kept.Words.{Kept, Fitted, Goes, keeps->>=, keeps-again, keeps-answer, keeps-ends, keeps-give, keeps-look, keeps-outcome, keeps-pass}
use Rattle.mb_model.proofs.Kept.NodesScopes.{keeps-copy_scope, keeps-declare, keeps-enter_scope}
use Rattle.mb_model.proofs.Kept.Naming.{keeps-initialize}
use Rattle.mb_model.proofs.Kept.NodesEvaluation.{keeps-eval}

-- what the parts of these rows keep (written by tools/kept.py)

pub keeps-run_each : (kept : Kept) (x0 : Context) (x1 : List ℕ) → Goes kept (run_each x0 x1)
keeps-run_each kept c [] = keeps-give kept Nothing
keeps-run_each kept c (n ∷ ns) = keeps->>= kept (answer (task c n)) (λ _. run_each c ns) (keeps-answer kept (task c
    n) (λ _. (λ _. tt, λ _. tt))) (λ _. keeps-run_each kept c ns)

pub keeps-run_scoped : (kept : Kept) (x0 : Context) (x1 : ℕ) (x2 : List ℕ) → Goes kept (run_scoped x0 x1 x2)
keeps-run_scoped kept c n ns = keeps->>= kept (enter_scope c.side c.scope n) (λ sc. (declare c.side sc ns) >>= (λ
    _. run_each (with_scope c sc) ns)) (keeps-enter_scope kept c.side c.scope n) (λ sc. keeps->>= kept (declare
    c.side sc ns) (λ _. run_each (with_scope c sc) ns) (keeps-declare kept c.side sc ns) (λ _. keeps-run_each kept
    (with_scope c sc) ns))

pub keeps-decl_of : (kept : Kept) (x0 : Context) (x1 : Option Form) → Goes kept (decl_of x0 x1)
keeps-decl_of kept c (Some (DeclForm x None)) = keeps-initialize kept c.scope x Undefined
keeps-decl_of kept c (Some (DeclForm x (Some n))) = keeps->>= kept (eval c n) (λ v. initialize c.scope x v)
    (keeps-eval kept c n) (λ v. keeps-initialize kept c.scope x v)
keeps-decl_of kept c _ = keeps-give kept Nothing

pub keeps-give_each : (kept : Kept) (x0 : Context) (x1 : List ℕ) → Goes kept (give_each x0 x1)
keeps-give_each kept c [] = keeps-give kept Nothing
keeps-give_each kept c (d ∷ ds) = keeps->>= kept (look (λ g. form_at g c.side d)) (λ f. (decl_of c f) >>= (λ _.
    give_each c ds)) (keeps-look kept (λ g. form_at g c.side d)) (λ f. keeps->>= kept (decl_of c f) (λ _. give_each
    c ds) (keeps-decl_of kept c f) (λ _. keeps-give_each kept c ds))

pub keeps-expr_done : (kept : Kept) (x0 : Val) → Goes kept (expr_done x0)
keeps-expr_done kept v = keeps-give kept Nothing

pub keeps-body_ended : (kept : Kept) (x0 : Does Answer) (px0 : Goes kept (x0)) (x1 : Outcome) → Goes kept
    (body_ended x0 x1)
keeps-body_ended kept next keeps-next (Normal a) = keeps-next
keeps-body_ended kept next keeps-next (Throw v) = keeps-ends kept (Throw v) tt
keeps-body_ended kept next keeps-next (Return v) = keeps-ends kept (Return v) tt
keeps-body_ended kept next keeps-next Break = keeps-give kept Nothing
keeps-body_ended kept next keeps-next Continue = keeps-next

pub keeps-while_tested : (kept : Kept) (x0 : Context) (x1 : Task) (p1 : (g : Graph) → Fitted kept x1 g) (x2 : ℕ)
    (x3 : Bool) → Goes kept (while_tested x0 x1 x2 x3)
keeps-while_tested kept c self fits-self body false = keeps-give kept Nothing
keeps-while_tested kept c self fits-self body true = keeps->>= kept (outcome (task c body)) (λ o. body_ended (again
    self) o) (keeps-outcome kept (task c body) (λ _. (λ _. tt, λ _. tt))) (λ o. keeps-body_ended kept (again self)
    (keeps-again kept self fits-self) o)

pub keeps-do_tested : (kept : Kept) (x0 : Task) (p0 : (g : Graph) → Fitted kept x0 g) (x1 : Bool) → Goes kept
    (do_tested x0 x1)
keeps-do_tested kept self fits-self false = keeps-give kept Nothing
keeps-do_tested kept self fits-self true = keeps-again kept self fits-self

pub keeps-do_test : (kept : Kept) (x0 : Context) (x1 : Task) (p1 : (g : Graph) → Fitted kept x1 g) (x2 : ℕ) → Goes
    kept (do_test x0 x1 x2)
keeps-do_test kept c self fits-self test = keeps->>= kept (eval c test) (λ x. do_tested self (to_boolean x))
    (keeps-eval kept c test) (λ x. keeps-do_tested kept self fits-self (to_boolean x))

pub keeps-copy_if : (kept : Kept) (x0 : Bool) (x1 : ℕ) → Goes kept (copy_if x0 x1)
keeps-copy_if kept false sc = keeps-give kept sc
keeps-copy_if kept true sc = keeps-copy_scope kept sc

pub keeps-for_again : (kept : Kept) (x0 : Context) (x1 : ℕ) → Goes kept (for_again x0 x1)
keeps-for_again kept c n = keeps-again kept (Loop c.side n c.scope c.this) (λ _. (λ _. tt, λ _. tt))

pub keeps-for_last : (kept : Kept) (x0 : Context) (x1 : ℕ) (x2 : Option ℕ) → Goes kept (for_last x0 x1 x2)
keeps-for_last kept c n None = keeps-for_again kept c n
keeps-for_last kept c n (Some e) = keeps->>= kept (answer (task c e)) (λ _. for_again c n) (keeps-answer kept (task
    c e) (λ _. (λ _. tt, λ _. tt))) (λ _. keeps-for_again kept c n)

pub keeps-for_next : (kept : Kept) (x0 : Context) (x1 : ℕ) (x2 : Bool) (x3 : Option ℕ) → Goes kept (for_next x0 x1
    x2 x3)
keeps-for_next kept c n lets last = keeps->>= kept (copy_if lets c.scope) (λ sc. for_last (with_scope c sc) n last)
    (keeps-copy_if kept lets c.scope) (λ sc. keeps-for_last kept (with_scope c sc) n last)

pub keeps-for_body : (kept : Kept) (x0 : Context) (x1 : ℕ) (x2 : Bool) (x3 : Option ℕ) (x4 : ℕ) (x5 : Bool) → Goes
    kept (for_body x0 x1 x2 x3 x4 x5)
keeps-for_body kept c n lets last body false = keeps-give kept Nothing
keeps-for_body kept c n lets last body true = keeps->>= kept (outcome (task c body)) (λ o. body_ended (for_next c n
    lets last) o) (keeps-outcome kept (task c body) (λ _. (λ _. tt, λ _. tt))) (λ o. keeps-body_ended kept
    (for_next c n lets last) (keeps-for_next kept c n lets last) o)

pub keeps-for_turn : (kept : Kept) (x0 : Context) (x1 : ℕ) (x2 : Bool) (x3 : Option ℕ) (x4 : Option ℕ) (x5 : ℕ) →
    Goes kept (for_turn x0 x1 x2 x3 x4 x5)
keeps-for_turn kept c n lets None last body = keeps-for_body kept c n lets last body true
keeps-for_turn kept c n lets (Some test) last body = keeps->>= kept (eval c test) (λ x. for_body c n lets last body
    (to_boolean x)) (keeps-eval kept c test) (λ x. keeps-for_body kept c n lets last body (to_boolean x))

pub keeps-for_begun : (kept : Kept) (x0 : Context) (x1 : ℕ) (x2 : Bool) (x3 : Option ℕ) (x4 : Option ℕ) (x5 : ℕ) →
    Goes kept (for_begun x0 x1 x2 x3 x4 x5)
keeps-for_begun kept c n lets test last body = keeps->>= kept (copy_if lets c.scope) (λ sc. for_turn (with_scope c
    sc) n lets test last body) (keeps-copy_if kept lets c.scope) (λ sc. keeps-for_turn kept (with_scope c sc) n
    lets test last body)

pub keeps-for_first : (kept : Kept) (x0 : Context) (x1 : ℕ) (x2 : Bool) (x3 : Option ℕ) (x4 : Option ℕ) (x5 :
    Option ℕ) (x6 : ℕ) → Goes kept (for_first x0 x1 x2 x3 x4 x5 x6)
keeps-for_first kept c n lets None test last body = keeps-for_begun kept c n lets test last body
keeps-for_first kept c n lets (Some e) test last body = keeps->>= kept (answer (task c e)) (λ _. for_begun c n lets
    test last body) (keeps-answer kept (task c e) (λ _. (λ _. tt, λ _. tt))) (λ _. keeps-for_begun kept c n lets
    test last body)

pub keeps-enter_if : (kept : Kept) (x0 : Context) (x1 : Bool) (x2 : ℕ) → Goes kept (enter_if x0 x1 x2)
keeps-enter_if kept c false n = keeps-give kept c.scope
keeps-enter_if kept c true n = keeps-enter_scope kept c.side c.scope n

pub keeps-for_row : (kept : Kept) (x0 : Context) (x1 : ℕ) (x2 : Option ℕ) (x3 : Option ℕ) (x4 : Option ℕ) (x5 : ℕ)
    → Goes kept (for_row x0 x1 x2 x3 x4 x5)
keeps-for_row kept c n first test last body = keeps->>= kept (look (λ g. for_lets g c.side first)) (λ lets.
    (enter_if c lets n) >>= (λ sc. for_first (with_scope c sc) n lets first test last body)) (keeps-look kept (λ g.
    for_lets g c.side first)) (λ lets. keeps->>= kept (enter_if c lets n) (λ sc. for_first (with_scope c sc) n lets
    first test last body) (keeps-enter_if kept c lets n) (λ sc. keeps-for_first kept (with_scope c sc) n lets first
    test last body))

pub keeps-loop_form : (kept : Kept) (x0 : Context) (x1 : ℕ) (x2 : Option Form) → Goes kept (loop_form x0 x1 x2)
keeps-loop_form kept c n (Some (ForForm first test last body)) = keeps->>= kept (look (λ g. for_lets g c.side
    first)) (λ lets. for_turn c n lets test last body) (keeps-look kept (λ g. for_lets g c.side first)) (λ lets.
    keeps-for_turn kept c n lets test last body)
keeps-loop_form kept c n _ = keeps-give kept Nothing

pub keeps-loop_row : (kept : Kept) (x0 : Context) (x1 : ℕ) → Goes kept (loop_row x0 x1)
keeps-loop_row kept c n = keeps->>= kept (look (λ g. form_at g c.side n)) (λ f. loop_form c n f) (keeps-look kept
    (λ g. form_at g c.side n)) (λ f. keeps-loop_form kept c n f)

pub keeps-finally_ended : (kept : Kept) (x0 : Outcome) (x1 : Outcome) → Goes kept (finally_ended x0 x1)
keeps-finally_ended kept o (Normal a) = keeps-pass kept o
keeps-finally_ended kept o (Throw v) = keeps-ends kept (Throw v) tt
keeps-finally_ended kept o (Return v) = keeps-ends kept (Return v) tt
keeps-finally_ended kept o Break = keeps-ends kept Break tt
keeps-finally_ended kept o Continue = keeps-ends kept Continue tt

pub keeps-finally : (kept : Kept) (x0 : Context) (x1 : Option ℕ) (x2 : Outcome) → Goes kept (finally x0 x1 x2)
keeps-finally kept c None o = keeps-pass kept o
keeps-finally kept c (Some e) o = keeps->>= kept (outcome (task c e)) (λ q. finally_ended o q) (keeps-outcome kept
    (task c e) (λ _. (λ _. tt, λ _. tt))) (λ q. keeps-finally_ended kept o q)

pub keeps-catch_scope : (kept : Kept) (x0 : Context) (x1 : ℕ) (x2 : Option (List ℕ)) (x3 : Val) → Goes kept
    (catch_scope x0 x1 x2 x3)
keeps-catch_scope kept c n None v = keeps-give kept c.scope
keeps-catch_scope kept c n (Some x) v = keeps->>= kept (enter_scope c.side c.scope n) (λ sc. (initialize sc x v)
    >>= (λ _. give sc)) (keeps-enter_scope kept c.side c.scope n) (λ sc. keeps->>= kept (initialize sc x v) (λ _.
    give sc) (keeps-initialize kept sc x v) (λ _. keeps-give kept sc))

pub keeps-catch : (kept : Kept) (x0 : Context) (x1 : ℕ) (x2 : Option (List ℕ)) (x3 : Option ℕ) (x4 : Option ℕ) (x5
    : Val) → Goes kept (catch x0 x1 x2 x3 x4 x5)
keeps-catch kept c n x None ending v = keeps-finally kept c ending (Throw v)
keeps-catch kept c n x (Some h) ending v = keeps->>= kept (catch_scope c n x v) (λ sc. (outcome (task (with_scope c
    sc) h)) >>= (λ o. finally c ending o)) (keeps-catch_scope kept c n x v) (λ sc. keeps->>= kept (outcome (task
    (with_scope c sc) h)) (λ o. finally c ending o) (keeps-outcome kept (task (with_scope c sc) h) (λ _. (
      λ _. tt,
      λ _. tt,
    ))) (λ o. keeps-finally kept c ending o))

pub keeps-tried : (kept : Kept) (x0 : Context) (x1 : ℕ) (x2 : Option (List ℕ)) (x3 : Option ℕ) (x4 : Option ℕ) (x5
    : Outcome) → Goes kept (tried x0 x1 x2 x3 x4 x5)
keeps-tried kept c n x h ending (Throw v) = keeps-catch kept c n x h ending v
keeps-tried kept c n x h ending (Normal a) = keeps-finally kept c ending (Normal a)
keeps-tried kept c n x h ending (Return v) = keeps-finally kept c ending (Return v)
keeps-tried kept c n x h ending Break = keeps-finally kept c ending Break
keeps-tried kept c n x h ending Continue = keeps-finally kept c ending Continue

pub keeps-return_row : (kept : Kept) (x0 : Context) (x1 : Option ℕ) → Goes kept (return_row x0 x1)
keeps-return_row kept c None = keeps-ends kept (Return Undefined) tt
keeps-return_row kept c (Some n) = keeps->>= kept (eval c n) (λ v. ends (Return v)) (keeps-eval kept c n) (λ v.
    keeps-ends kept (Return v) tt)
