use Rattle.std.proofs.Common.{Ok, drop, refl, true}
use Rattle.mb_frames.proofs.Steps.{Step-sure}
use Rattle.mb_frames.specs.Resolved.{context_in, node_in}
use Rattle.mb_frames.specs.Rest.Parts.{parts_at}
use Rattle.mb_frames.specs.Rest.Statements.{for_tested}
use Rattle.mb_frames.specs.Standing.{forms_at}
use Rattle.mb_frames.specs.declared.statements.StmtFrame.TheVariants as y
use Rattle.mb_model.specs.Meaning.{finished}
use Rattle.mb_model.specs.Nodes.Evaluation.{branch, task}
use Rattle.mb_model.specs.Nodes.Scopes.{initialize}
use Rattle.mb_model.specs.Nodes.Statements.{expr_done, give_each, while_tested}
use Rattle.mb_model.specs.Task.{Nothing, Return}
use Rattle.mb_model.specs.Writing.{◌>>=◌, ends, give, throw}
use Rattle.mb_world.specs.Image.{Resolve, names_of, text_in}
use Rattle.mb_world.specs.Value.{to_boolean}
use Rattle.mb_eval_stmt.proofs.Resting.{Step-rest}
use Rattle.mb_eval_stmt.proofs.Rows.{Sure-nothing}
use Rattle.mb_frames.specs.declared.task.Outcome.TheVariants as o
use Rattle.mb_eval_stmt.proofs.Keeping.{keeps-by, keeps-same}
use Rattle.mb_eval_stmt.proofs.Leaving.{ends-nothing}
use Rattle.mb_frames.proofs.Keeping.{leaves-any}
use Rattle.mb_eval_stmt.proofs.resuming.answered.Goals as goal

pub returns-in-Declared-clause-row : goal.returns-in-Declared-clause-row
returns-in-Declared-clause-row c = λ answer e l.
    let d = c.args.w.now in
    let n = names_of d in
    let v = Resolve n c.args.x in
    let f = c.args.fuel.now in
    let h = rw c.in-Declared.is at c.requires.frame in
    rw c.in-Declared.is
    (Step-rest c.args.home c.declared.result d c.declared.new.w f f l l
    (y.Declared c.in-Declared.at c.in-Declared.node c.in-Declared.name c.in-Declared.next) answer v
    (λ z. initialize c.in-Declared.at.scope.0 (text_in n c.in-Declared.name) z >>=
    (λ a. give_each (context_in n c.args.home.0 c.in-Declared.at)
    (drop c.in-Declared.next (parts_at (forms_at d c.args.home) c.in-Declared.node.0)))) (λ g. refl) e
    (c.declared.ensures.row true f l))

pub returns-in-Expression-clause-row : goal.returns-in-Expression-clause-row
returns-in-Expression-clause-row c = λ answer e l.
    let d = c.args.w.now in
    let n = names_of d in
    let v = Resolve n c.args.x in
    let f = c.args.fuel.now in
    let h = rw c.in-Expression.is at c.requires.frame in
    rw c.in-Expression.is
    (Step-rest c.args.home (Ok _) d d f f l l y.Expression answer v
    (λ z. expr_done z) (λ g. refl) e
    (Step-sure c.args.home true d (give Nothing finished) _ f l (Sure-nothing c.args.home d)))

pub returns-in-If-clause-row : goal.returns-in-If-clause-row
returns-in-If-clause-row c = λ answer e l.
    let d = c.args.w.now in
    let n = names_of d in
    let v = Resolve n c.args.x in
    let f = c.args.fuel.now in
    let h = rw c.in-If.is at c.requires.frame in
    rw c.in-If.is
    (Step-rest c.args.home (Ok c.branch-at.result) d d f f l l (y.If c.in-If.at c.in-If.main c.in-If.other) answer v
    (λ z. branch (context_in n c.args.home.0 c.in-If.at) c.in-If.main.0 (node_in c.in-If.other) (to_boolean z))
    (λ g. refl) e
    (rw (← c.truth.ensures) (Step-sure c.args.home true d (branch (context_in n c.args.home.0 c.in-If.at)
    c.in-If.main.0 (node_in c.in-If.other) c.truth.result finished) c.branch-at.result f l
    (c.branch-at.ensures.row c.args.home d (h.0, h.1.0)))))

pub returns-in-WhileTest-clause-row : goal.returns-in-WhileTest-clause-row
returns-in-WhileTest-clause-row c = λ answer e l.
    let d = c.args.w.now in
    let n = names_of d in
    let v = Resolve n c.args.x in
    let f = c.args.fuel.now in
    let h = rw c.in-WhileTest.is at c.requires.frame in
    rw c.in-WhileTest.is
    (Step-rest c.args.home (Ok c.while_tested.result) d d f f l l (y.WhileTest c.in-WhileTest.at c.in-WhileTest.node
    c.in-WhileTest.body) answer v
    (λ z. while_tested (context_in n c.args.home.0 c.in-WhileTest.at)
    (task (context_in n c.args.home.0 c.in-WhileTest.at) c.in-WhileTest.node.0) c.in-WhileTest.body.0
    (to_boolean z)) (λ g. refl) e
    (rw (← c.truth-in-WhileTest.ensures)
    (Step-sure c.args.home true d (while_tested (context_in n c.args.home.0 c.in-WhileTest.at)
    (task (context_in n c.args.home.0 c.in-WhileTest.at) c.in-WhileTest.node.0) c.in-WhileTest.body.0
    c.truth-in-WhileTest.result finished) c.while_tested.result f l (c.while_tested.ensures.row c.args.home d
    (h.0, h.1.0)))))

pub returns-in-ForTest-clause-row : goal.returns-in-ForTest-clause-row
returns-in-ForTest-clause-row c = λ answer e l.
    let d = c.args.w.now in
    let n = names_of d in
    let v = Resolve n c.args.x in
    let f = c.args.fuel.now in
    let h = rw c.in-ForTest.is at c.requires.frame in
    rw c.in-ForTest.is
    (Step-rest c.args.home (Ok c.for_tested.result) d d f f l l (y.ForTest c.in-ForTest.at c.in-ForTest.node) answer v
    (λ z. for_tested (forms_at d c.args.home) (context_in n c.args.home.0 c.in-ForTest.at) c.in-ForTest.node.0
    (to_boolean z)) (λ g. refl) e
    (rw (← c.truth-in-ForTest.ensures)
    (Step-sure c.args.home true d (for_tested (forms_at d c.args.home)
    (context_in n c.args.home.0 c.in-ForTest.at) c.in-ForTest.node.0 c.truth-in-ForTest.result finished)
    c.for_tested.result f l c.for_tested.ensures.row)))

pub returns-in-Return-clause-row : goal.returns-in-Return-clause-row
returns-in-Return-clause-row c = λ answer e l.
    let d = c.args.w.now in
    let n = names_of d in
    let v = Resolve n c.args.x in
    let f = c.args.fuel.now in
    let h = rw c.in-Return.is at c.requires.frame in
    rw c.in-Return.is
    (Step-rest c.args.home (Ok _) d d f f l l y.Return answer v
    (λ z. ends (Return z)) (λ g. refl) e
    (Step-sure c.args.home true d (ends (Return v) finished) _ f l (record {
      same = λ w b log k. refl;
      free = λ log. refl;
      calm = tt;
      ids = (c.requires.value, tt);
    })))

pub returns-in-Throw-clause-row : goal.returns-in-Throw-clause-row
returns-in-Throw-clause-row c = λ answer e l.
    let d = c.args.w.now in
    let n = names_of d in
    let v = Resolve n c.args.x in
    let f = c.args.fuel.now in
    let h = rw c.in-Throw.is at c.requires.frame in
    rw c.in-Throw.is
    (Step-rest c.args.home (Ok _) d d f f l l y.Throw answer v
    (λ z. throw z) (λ g. refl) e
    (Step-sure c.args.home true d (throw v finished) _ f l (record {
      same = λ w b log k. refl;
      free = λ log. refl;
      calm = tt;
      ids = (c.requires.value, tt);
    })))

pub returns-in-Each-clause-keeps : goal.returns-in-Each-clause-keeps
returns-in-Each-clause-keeps c = λ r i h.
    let d = c.args.w.now in
    let home = c.args.home in
    let g = rw c.in-Each.is at h in
    keeps-by home d c.run_each.result r
    (c.run_each.ensures.leaves (g.0, (g.1.0, (g.1.1.0, tt))))

pub returns-in-Declared-clause-keeps : goal.returns-in-Declared-clause-keeps
returns-in-Declared-clause-keeps c = λ r i h.
    let d = c.args.w.now in
    let home = c.args.home in
    let g = rw c.in-Declared.is at h in
    c.declared.ensures.keeps r i g

pub returns-in-Expression-clause-keeps : goal.returns-in-Expression-clause-keeps
returns-in-Expression-clause-keeps c = λ r i h.
    let d = c.args.w.now in
    let home = c.args.home in
    let g = rw c.in-Expression.is at h in
    keeps-same home d _ r
    (ends-nothing d home)

pub returns-in-If-clause-keeps : goal.returns-in-If-clause-keeps
returns-in-If-clause-keeps c = λ r i h.
    let d = c.args.w.now in
    let home = c.args.home in
    let g = rw c.in-If.is at h in
    keeps-same home d c.branch-at.result r
    (c.branch-at.ensures.leaves home d (g.0, (g.1.0, (g.1.1.0, (g.1.1.1.0, tt)))))

pub returns-in-WhileTest-clause-keeps : goal.returns-in-WhileTest-clause-keeps
returns-in-WhileTest-clause-keeps c = λ r i h.
    let d = c.args.w.now in
    let home = c.args.home in
    let g = rw c.in-WhileTest.is at h in
    keeps-same home d c.while_tested.result r
    (c.while_tested.ensures.leaves home d (g.0, (g.1.0, (g.1.1.0, (g.1.1.1.0, tt)))))

pub returns-in-DoTest-clause-keeps : goal.returns-in-DoTest-clause-keeps
returns-in-DoTest-clause-keeps c = λ r i h.
    let d = c.args.w.now in
    let home = c.args.home in
    let g = rw c.in-DoTest.is at h in
    keeps-same home d c.do_tested.result r
    (c.do_tested.ensures.leaves home d (g.0, (g.1.0, (g.1.1.0, tt))))

pub returns-in-ForFirst-clause-keeps : goal.returns-in-ForFirst-clause-keeps
returns-in-ForFirst-clause-keeps c = λ r i h.
    let d = c.args.w.now in
    let home = c.args.home in
    let g = rw c.in-ForFirst.is at h in
    c.for_first_done.ensures.keeps r i (g.0, (g.1.0, tt))

pub returns-in-ForTest-clause-keeps : goal.returns-in-ForTest-clause-keeps
returns-in-ForTest-clause-keeps c = λ r i h.
    let d = c.args.w.now in
    let home = c.args.home in
    let g = rw c.in-ForTest.is at h in
    keeps-same home d c.for_tested.result r
    (c.for_tested.ensures.leaves (g.0, (g.1.0, tt)))

pub returns-in-ForLast-clause-keeps : goal.returns-in-ForLast-clause-keeps
returns-in-ForLast-clause-keeps c = λ r i h.
    let d = c.args.w.now in
    let home = c.args.home in
    let g = rw c.in-ForLast.is at h in
    keeps-same home d c.for_again.result r
    (c.for_again.ensures.leaves home d (g.0, (g.1.0, (g.1.1.0, tt))))

pub returns-in-Return-clause-keeps : goal.returns-in-Return-clause-keeps
returns-in-Return-clause-keeps c = λ r i h.
    let d = c.args.w.now in
    let home = c.args.home in
    let g = rw c.in-Return.is at h in
    keeps-same home d _ r
    (leaves-any d home (o.Return c.args.x) (g.0, tt))

pub returns-in-Throw-clause-keeps : goal.returns-in-Throw-clause-keeps
returns-in-Throw-clause-keeps c = λ r i h.
    let d = c.args.w.now in
    let home = c.args.home in
    let g = rw c.in-Throw.is at h in
    keeps-same home d _ r
    (leaves-any d home (o.Throw c.args.x) (g.0, tt))
