use Rattle.std.proofs.Common.{◌+◌, ◌≤◌, [], length, refl, ap, subst, arith}
use Rattle.mb_tree.specs.Roses.{shapes, views}
use Rattle.mb_parse_expr.specs.declared.parser.Paused.{Paused}
use Rattle.mb_parse_expr.specs.Pauses as expr
use Rattle.mb_parse_stmt.specs.declared.machine.Stop.TheVariants as st
use Rattle.mb_parse_stmt.specs.declared.parser.Outer.{Outer}
use Rattle.mb_parse_stmt.specs.declared.parser.Next.{Next}
use Rattle.mb_parse_stmt.specs.machine.Stops.{AreAll, taken}
use Rattle.mb_grammar.specs.Script.{script_of}
use Rattle.mb_parse_stmt.specs.machine.Levels.{InExpression, Nexts, IsFrom}
use Rattle.mb_parse_stmt.proofs.Levels.{level_first, level_begun, level_read, script_stands, script_given, expression_dead, waiting_within}
use Rattle.mb_parse_stmt.proofs.parser.parse.Goals as goal

pub levels-init : goal.levels-init
levels-init c =
    let z : 0 ≤ length c.args.tokens.now = omega arith in
    level_first c.args.tokens.now _ _ _ c.new-outers.ensures.items c.in_ok-statements.ensures.kept (ap views c.new.ensures.items) (c.in_ok-statements.ensures.reading c.args.tokens.now [] z)

pub script-requires : goal.script-requires
script-requires c =
    let a : AreAll st.End c.args.tokens.now 0 [] c.next_parser.new.statements.at c.next_parser.new.statements.operands.items (shapes c.next_parser.new.tree) = subst (λ (x : Next). Nexts c.args.tokens.now c.next_parser.new.outers.items c.next_parser.new.statements (shapes c.next_parser.new.tree) x) c.in-Script.is c.in_ok-next_parser.ensures.nexts in
    (a.parts, a.ids_are, a.shapes_are)

pub returns-in-Script-clause-tree : goal.returns-in-Script-clause-tree
returns-in-Script-clause-tree c =
    let a : AreAll st.End c.args.tokens.now 0 [] c.next_parser.new.statements.at c.next_parser.new.statements.operands.items (shapes c.next_parser.new.tree) = subst (λ (x : Next). Nexts c.args.tokens.now c.next_parser.new.outers.items c.next_parser.new.statements (shapes c.next_parser.new.tree) x) c.in-Script.is c.in_ok-next_parser.ensures.nexts in
    script_given c.args.tokens.now (script_of a.parts) c.script.result (script_stands c.args.tokens.now _ _ _ a) (c.script.ensures.tree a.parts a.ids_are a.shapes_are)

pub returns-in-Script-clause-deep : goal.returns-in-Script-clause-deep
returns-in-Script-clause-deep c e =
    let a : AreAll st.End c.args.tokens.now 0 [] c.next_parser.new.statements.at c.next_parser.new.statements.operands.items (shapes c.next_parser.new.tree) = subst (λ (x : Next). Nexts c.args.tokens.now c.next_parser.new.outers.items c.next_parser.new.statements (shapes c.next_parser.new.tree) x) c.in-Script.is c.in_ok-next_parser.ensures.nexts in
    (script_of a.parts, script_stands c.args.tokens.now _ _ _ a, c.script.ensures.deep a.parts a.ids_are a.shapes_are e)

pub returns-in-Wrong-clause-shape : goal.returns-in-Wrong-clause-shape
returns-in-Wrong-clause-shape c e =
    let x : InExpression c.args.tokens.now c.next_parser.new.outers.items c.next_parser.new.statements c.in-Parser.ready (shapes c.next_parser.new.tree) = subst (λ (x : Next). Nexts c.args.tokens.now c.next_parser.new.outers.items c.next_parser.new.statements (shapes c.next_parser.new.tree) x) c.in-Parser.is c.in_ok-next_parser.ensures.nexts in
    expression_dead x (subst (λ (y : Paused). expr.Tells c.args.tokens.now x.level c.next_parser.new.statements.at x.out x.ds c.run.new.self (shapes c.run.new.tree) y) c.in-Wrong.is (c.in_ok-run-in-Parser.ensures.answers x.level c.next_parser.new.statements.at x.out x.ds x.reading))

pub levels-smaller-in-Body : goal.levels-smaller-in-Body
levels-smaller-in-Body c =
    let x : InExpression c.args.tokens.now c.next_parser.new.outers.items c.next_parser.new.statements c.in-Parser.ready (shapes c.next_parser.new.tree) = subst (λ (x : Next). Nexts c.args.tokens.now c.next_parser.new.outers.items c.next_parser.new.statements (shapes c.next_parser.new.tree) x) c.in-Parser.is c.in_ok-next_parser.ensures.nexts in
    let a = subst (λ (y : Paused). expr.Tells c.args.tokens.now x.level c.next_parser.new.statements.at x.out x.ds c.run.new.self (shapes c.run.new.tree) y) c.in-Body.is (c.in_ok-run-in-Parser.ensures.answers x.level c.next_parser.new.statements.at x.out x.ds x.reading) in
    let f = subst (λ (y : Paused). expr.Moves (expr.next_place c.in-Parser.ready) (expr.next_place c.run.new.self) y) c.in-Body.is c.in_ok-run-in-Parser.ensures.forward in
    let g = subst (λ (y : Next). IsFrom (c.levels.statements.at + taken c.levels.statements.mode) (length c.args.tokens.now) y) c.in-Parser.is c.in_ok-next_parser.ensures.from in
    let w = waiting_within c.run.new.self a.0 in
    let q = c.in_ok-statements-in-Body.ensures.place in
    omega (arith, f, g.0, w, a.1, q.0, q.1)

pub levels-preserved-in-Body : goal.levels-preserved-in-Body
levels-preserved-in-Body c =
    let x : InExpression c.args.tokens.now c.next_parser.new.outers.items c.next_parser.new.statements c.in-Parser.ready (shapes c.next_parser.new.tree) = subst (λ (x : Next). Nexts c.args.tokens.now c.next_parser.new.outers.items c.next_parser.new.statements (shapes c.next_parser.new.tree) x) c.in-Parser.is c.in_ok-next_parser.ensures.nexts in
    let a = subst (λ (y : Paused). expr.Tells c.args.tokens.now x.level c.next_parser.new.statements.at x.out x.ds c.run.new.self (shapes c.run.new.tree) y) c.in-Body.is (c.in_ok-run-in-Parser.ensures.answers x.level c.next_parser.new.statements.at x.out x.ds x.reading) in
    let n = subst (λ (y : Paused). expr.NeedsItsBody c.args.tokens.now x.level c.next_parser.new.statements.at y) c.in-Body.is (c.in_ok-run-in-Parser.ensures.hopeless x.level c.next_parser.new.statements.at x.out x.ds x.reading) in
    let w = waiting_within c.run.new.self a.0 in
    let o : Outer = record { statements = c.next_parser.new.statements; parser = c.run.new.self } in
    level_begun x o c.push.new.outers.items _ c.in-Body.at c.in_ok-statements-in-Body.statements refl a.0 n a.1 c.in_ok-push-in-Body.ensures c.in_ok-statements-in-Body.ensures.kept (c.in_ok-statements-in-Body.ensures.reading c.args.tokens.now (shapes c.run.new.tree) (omega (arith, w, a.1)))

pub levels-preserved : goal.levels-preserved
levels-preserved c =
    let x : InExpression c.args.tokens.now c.next_parser.new.outers.items c.next_parser.new.statements c.in-Parser.ready (shapes c.next_parser.new.tree) = subst (λ (x : Next). Nexts c.args.tokens.now c.next_parser.new.outers.items c.next_parser.new.statements (shapes c.next_parser.new.tree) x) c.in-Parser.is c.in_ok-next_parser.ensures.nexts in
    let a = subst (λ (y : Paused). expr.Tells c.args.tokens.now x.level c.next_parser.new.statements.at x.out x.ds c.run.new.self (shapes c.run.new.tree) y) c.in-Ended.is (c.in_ok-run-in-Parser.ensures.answers x.level c.next_parser.new.statements.at x.out x.ds x.reading) in
    level_read x c.read.new.self c.read.ensures.kept (c.in_ok-read-in-Ended.ensures.reading c.args.tokens.now x.start x.base x.out (shapes c.run.new.tree) x.level x.ds x.wanting a)
