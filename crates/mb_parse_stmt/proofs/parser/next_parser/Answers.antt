use Rattle.std.proofs.Common.{◌∙◌, [], sym, ap, subst, arith}
use Rattle.mb_tree.specs.Roses.{shapes}
use Rattle.mb_grammar.specs.declared.role.Role.TheVariants as r
use Rattle.mb_grammar.specs.Bodies.{AreTheStatements}
use Rattle.mb_parse_expr.specs.Pauses as expr
use Rattle.mb_parse_expr.specs.Pauses.{next_place}
use Rattle.mb_parse_stmt.specs.declared.statements.Step.{Step}
use Rattle.mb_parse_stmt.specs.machine.Stops.{IsWanting, AreAll, NoneStand, TellsStep, StepMoves}
use Rattle.mb_parse_stmt.specs.machine.Levels.{Stacked, InExpression}
use Rattle.mb_parse_stmt.proofs.Places.{role_within}
use Rattle.mb_parse_stmt.proofs.Counts.{wanting_within}
use Rattle.mb_parse_stmt.proofs.Levels.{level_dead, all_of_script, closing, nil_of}
use Rattle.mb_parse_stmt.proofs.parser.next_parser.Goals as goal

pub overflow_cast-statements : goal.overflow_cast-statements
overflow_cast-statements c =
    let l = c.requires.level in
    let a : IsWanting c.args.tokens.now l.start l.base c.in-Asks.level c.advance.new.self (shapes c.advance.new.tree) = subst (λ (x : Step). TellsStep c.args.tokens.now l.start l.base c.advance.new.self (shapes c.advance.new.tree) x) c.in-Asks.is (c.in_ok-advance.ensures.answers l.start l.base l.reading) in
    omega (arith, wanting_within a, c.requires.few)

pub overflow_cast-body : goal.overflow_cast-body
overflow_cast-body c =
    let l = c.requires.level in
    let a : AreAll c.advance.new.self.stop c.args.tokens.now l.start l.base c.advance.new.self.at c.advance.new.self.operands.items (shapes c.advance.new.tree) = subst (λ (x : Step). TellsStep c.args.tokens.now l.start l.base c.advance.new.self (shapes c.advance.new.tree) x) c.in-Ended.is (c.in_ok-advance.ensures.answers l.start l.base l.reading) in
    omega (arith, a.within, c.requires.few, ap (λ v. v.at) c.replace-body.ensures.value)

pub returns-in-Wrong-clause-nexts : goal.returns-in-Wrong-clause-nexts
returns-in-Wrong-clause-nexts c =
    let l = c.requires.level in
    let a : NoneStand c.advance.new.self.stop c.args.tokens.now l.start = subst (λ (x : Step). TellsStep c.args.tokens.now l.start l.base c.advance.new.self (shapes c.advance.new.tree) x) c.in-Wrong.is (c.in_ok-advance.ensures.answers l.start l.base l.reading) in
    level_dead l (subst (λ s. NoneStand s c.args.tokens.now l.start) c.advance.ensures.kept a)

pub returns-in_ok-parser-in-Asks-clause-nexts : goal.returns-in_ok-parser-in-Asks-clause-nexts
returns-in_ok-parser-in-Asks-clause-nexts c =
    let l = c.requires.level in
    let a : IsWanting c.args.tokens.now l.start l.base c.in-Asks.level c.advance.new.self (shapes c.advance.new.tree) = subst (λ (x : Step). TellsStep c.args.tokens.now l.start l.base c.advance.new.self (shapes c.advance.new.tree) x) c.in-Asks.is (c.in_ok-advance.ensures.answers l.start l.base l.reading) in
    record {
      os = l.os;
      outers_are = l.outers_are;
      start = l.start;
      base = l.base;
      stacked = subst (λ s. Stacked c.args.tokens.now l.os s l.start l.base) (sym c.advance.ensures.kept) l.stacked;
      level = c.in-Asks.level;
      out = shapes c.advance.new.tree;
      wanting = a;
      ds = [];
      reading = c.in_ok-parser-in-Asks.ensures.reading c.args.tokens.now (shapes c.advance.new.tree);
    }

pub returns-in_ok-parser-in-Asks-clause-from : goal.returns-in_ok-parser-in-Asks-clause-from
returns-in_ok-parser-in-Asks-clause-from c =
    let l = c.requires.level in
    let a : IsWanting c.args.tokens.now l.start l.base c.in-Asks.level c.advance.new.self (shapes c.advance.new.tree) = subst (λ (x : Step). TellsStep c.args.tokens.now l.start l.base c.advance.new.self (shapes c.advance.new.tree) x) c.in-Asks.is (c.in_ok-advance.ensures.answers l.start l.base l.reading) in
    let f = subst (λ (x : Step). StepMoves c.args.statements.now c.advance.new.self x) c.in-Asks.is c.in_ok-advance.ensures.forward in
    let w = wanting_within a in
    let q = c.in_ok-parser-in-Asks.ensures.place in
    (omega (arith, f, q), omega (arith, w, q))

pub returns-in-None-clause-nexts : goal.returns-in-None-clause-nexts
returns-in-None-clause-nexts c =
    let l = c.requires.level in
    let a : AreAll c.advance.new.self.stop c.args.tokens.now l.start l.base c.advance.new.self.at c.advance.new.self.operands.items (shapes c.advance.new.tree) = subst (λ (x : Step). TellsStep c.args.tokens.now l.start l.base c.advance.new.self (shapes c.advance.new.tree) x) c.in-Ended.is (c.in_ok-advance.ensures.answers l.start l.base l.reading) in
    let z = c.in-None.ensures.cases.0 in
    all_of_script (nil_of c.args.outers.now.items (omega (arith, z, c.args.outers.now.ok.0))) l.outers_are (subst (λ s. Stacked c.args.tokens.now l.os s l.start l.base) (sym c.advance.ensures.kept) l.stacked) a

pub returns-in-Some-clause-nexts : goal.returns-in-Some-clause-nexts
returns-in-Some-clause-nexts c =
    let l = c.requires.level in
    let a : AreAll c.advance.new.self.stop c.args.tokens.now l.start l.base c.advance.new.self.at c.advance.new.self.operands.items (shapes c.advance.new.tree) = subst (λ (x : Step). TellsStep c.args.tokens.now l.start l.base c.advance.new.self (shapes c.advance.new.tree) x) c.in-Ended.is (c.in_ok-advance.ensures.answers l.start l.base l.reading) in
    let k = closing c.pop.new.self.items c.in-Some.outer c.in-Some.ensures.items l.outers_are (subst (λ s. Stacked c.args.tokens.now l.os s l.start l.base) (sym c.advance.ensures.kept) l.stacked) a in
    let v = c.replace-body.ensures.value in
    let s = subst (λ x. AreTheStatements c.args.tokens.now k.body (next_place c.in-Some.outer.parser) x) (ap (λ y. y.at) (sym v)) k.statements in
    let q = c.resume.ensures.reading c.args.tokens.now k.level c.in-Some.outer.statements.at k.out k.then k.ds k.body k.waiting s (ap (λ y. y.operands.items) v ∙ k.ids_are) in
    subst (λ y. InExpression c.args.tokens.now c.pop.new.self.items y c.resume.new.self (shapes c.advance.new.tree)) (sym c.replace-body.ensures.after) (record {
      os = k.os;
      outers_are = k.outers_are;
      start = k.start;
      base = k.base;
      stacked = k.stacked;
      level = k.level;
      out = k.out;
      wanting = k.wanting;
      ds = k.ds;
      reading = subst (λ (x : _). expr.IsReading c.args.tokens.now k.level c.in-Some.outer.statements.at k.out k.ds c.resume.new.self x) (sym k.shapes_are) q;
    })

pub returns-in-Some-clause-from : goal.returns-in-Some-clause-from
returns-in-Some-clause-from c =
    let l = c.requires.level in
    let a : AreAll c.advance.new.self.stop c.args.tokens.now l.start l.base c.advance.new.self.at c.advance.new.self.operands.items (shapes c.advance.new.tree) = subst (λ (x : Step). TellsStep c.args.tokens.now l.start l.base c.advance.new.self (shapes c.advance.new.tree) x) c.in-Ended.is (c.in_ok-advance.ensures.answers l.start l.base l.reading) in
    let k = closing c.pop.new.self.items c.in-Some.outer c.in-Some.ensures.items l.outers_are (subst (λ s. Stacked c.args.tokens.now l.os s l.start l.base) (sym c.advance.ensures.kept) l.stacked) a in
    let f = subst (λ (x : Step). StepMoves c.args.statements.now c.advance.new.self x) c.in-Ended.is c.in_ok-advance.ensures.forward in
    let v = ap (λ y. y.at) c.replace-body.ensures.value in
    let w = role_within c.args.tokens.now c.advance.new.self.at r.CloseBrace k.statements.brace (λ e. cc) in
    let q = c.resume.ensures.place in
    (omega (arith, f, v, q), omega (arith, w, v, q))
