use Rattle.std.proofs.Common.{Some, ap, refl, subst, ◌≡◌}
use Rattle.mb_base.specs.declared.value.Value.TheVariants as v
use Rattle.mb_frames.specs.Kinds.{Expression, is_do_form, is_evaluated, is_expression, is_try_form, is_while_form}
use Rattle.mb_frames.specs.declared.statements.StmtFrame.TheVariants as y
use Rattle.mb_frames.specs.declared.task.Outcome.TheVariants as o
use Rattle.mb_eval_stmt.proofs.Leaving.{ends-nothing, undefined-held, waits-any, waits-value}
use Rattle.mb_frames.proofs.Keeping.{leaves-any, expression-is, node-held, statement-if-held, statement-is}
use Rattle.mb_frames.specs.Told.{IsNodeOf}
use Rattle.mb_world.specs.Ids.{Maybe}
use Rattle.mb_eval_stmt.proofs.first.first.Goals as goal

pub returns-in-Decl-clause-leaves : goal.returns-in-Decl-clause-leaves
returns-in-Decl-clause-leaves c = λ home d h e p. ends-nothing d home

pub returns-in-FunctionDecl-clause-leaves : goal.returns-in-FunctionDecl-clause-leaves
returns-in-FunctionDecl-clause-leaves c = λ home d h e p. ends-nothing d home

pub returns-in-Empty-clause-leaves : goal.returns-in-Empty-clause-leaves
returns-in-Empty-clause-leaves c = λ home d h e p. ends-nothing d home

pub returns-in-Param-clause-leaves : goal.returns-in-Param-clause-leaves
returns-in-Param-clause-leaves c = λ home d h e p. ends-nothing d home

pub returns-in-Break-clause-leaves : goal.returns-in-Break-clause-leaves
returns-in-Break-clause-leaves c = λ home d h e p. leaves-any d home o.Break tt

pub returns-in-Continue-clause-leaves : goal.returns-in-Continue-clause-leaves
returns-in-Continue-clause-leaves c = λ home d h e p. leaves-any d home o.Continue tt

pub returns-in-Return-None-clause-leaves : goal.returns-in-Return-None-clause-leaves
returns-in-Return-None-clause-leaves c = λ home d h e p. leaves-any d home (o.Return v.Undefined)
    (undefined-held d home, tt)

pub returns-in-Return-Some-clause-leaves : goal.returns-in-Return-Some-clause-leaves
returns-in-Return-Some-clause-leaves c = λ home d h e p.
    let q : Maybe (IsNodeOf d home Expression) c.in-Return-Some.value' = rw c.in-Return-Some.is at p in
    let z : c.in-Return-Some.value' ≡ Some c.in-Return-Some.value
    = rw c.in-Return-Some.is at c.in-Return-Some.value-is in
    let s : Maybe (IsNodeOf d home Expression) (Some c.in-Return-Some.value) =
    subst (Maybe (IsNodeOf d home Expression)) z q in
    waits-value d home y.Return c.in-Return-Some.value c.args.at refl tt h
    (expression-is d home c.in-Return-Some.value s)

pub returns-in-ExprStmt-clause-leaves : goal.returns-in-ExprStmt-clause-leaves
returns-in-ExprStmt-clause-leaves c = λ home d h e p.
    let q = rw c.in-ExprStmt.is at p in
    waits-value d home y.Expression c.in-ExprStmt.value c.args.at refl tt h (expression-is d home c.in-ExprStmt.value q)

pub returns-in-Throw-clause-leaves : goal.returns-in-Throw-clause-leaves
returns-in-Throw-clause-leaves c = λ home d h e p.
    let q = rw c.in-Throw.is at p in
    waits-value d home y.Throw c.in-Throw.value c.args.at refl tt h (expression-is d home c.in-Throw.value q)

pub returns-in-If-clause-leaves : goal.returns-in-If-clause-leaves
returns-in-If-clause-leaves c = λ home d h e p.
    let q = rw c.in-If.is at p in
    waits-value d home (y.If c.args.at c.in-If.then c.in-If.otherwise) c.in-If.test c.args.at refl (
      h.0,
      (
        h.1.0,
        (
          node-held d home is_evaluated c.in-If.then.0 (statement-is d home c.in-If.then q.1),
          (statement-if-held d home c.in-If.otherwise q.2, tt),
        ),
      ),
    ) h (expression-is d home c.in-If.test q.0)

pub returns-in-While-clause-leaves : goal.returns-in-While-clause-leaves
returns-in-While-clause-leaves c = λ home d h e p.
    let q = rw c.in-While.is at p in
    waits-value d home (y.WhileTest c.args.at c.args.node c.in-While.body) c.in-While.test c.args.at refl (
      h.0,
      (
        h.1.0,
        (
          node-held d home is_while_form c.args.node.0 (ap is_while_form (rw c.in-While.is at e)),
          (node-held d home is_evaluated c.in-While.body.0 (statement-is d home c.in-While.body q.1), tt),
        ),
      ),
    ) h
    (expression-is d home c.in-While.test q.0)

pub returns-in-DoWhile-clause-leaves : goal.returns-in-DoWhile-clause-leaves
returns-in-DoWhile-clause-leaves c = λ home d h e p.
    let q = rw c.in-DoWhile.is at p in
    waits-any d home (y.DoBody c.args.at c.args.node c.in-DoWhile.test) c.in-DoWhile.body c.args.at refl (
      h.0,
      (
        h.1.0,
        (
          node-held d home is_do_form c.args.node.0 (ap is_do_form (rw c.in-DoWhile.is at e)),
          (node-held d home is_expression c.in-DoWhile.test.0 (expression-is d home c.in-DoWhile.test q.1), tt),
        ),
      ),
    ) h
    (statement-is d home c.in-DoWhile.body q.0)

pub returns-in-Try-clause-leaves : goal.returns-in-Try-clause-leaves
returns-in-Try-clause-leaves c = λ home d h e p.
    let q = rw c.in-Try.is at p in
    waits-any d home (y.Try c.args.at c.args.node) c.in-Try.block c.args.at refl
    (h.0, (h.1.0, (node-held d home is_try_form c.args.node.0 (ap is_try_form (rw c.in-Try.is at e)), tt))) h
    (statement-is d home c.in-Try.block q.0)
