use Rattle.mb_engine.proofs.Stepping.{advances-by}
use Rattle.mb_frames.specs.Stepping.{written}
use Rattle.mb_engine.proofs.advancing.advance.Goals as goal

pub returns-in-Expressions-clause-rest : goal.returns-in-Expressions-clause-rest
returns-in-Expressions-clause-rest c =
    advances-by c.step_expr.result c.args.m.now c.step_expr.new.m c.args.w.now c.step_expr.new.w
    c.args.fuel.now c.step_expr.new.fuel (written c.args.lines.now)
    (written c.step_expr.new.lines) c.requires.ready c.step_expr.ensures.steps

pub returns-in-Statements-clause-rest : goal.returns-in-Statements-clause-rest
returns-in-Statements-clause-rest c =
    advances-by c.step_stmt.result c.args.m.now c.step_stmt.new.m c.args.w.now c.step_stmt.new.w
    c.args.fuel.now c.step_stmt.new.fuel (written c.args.lines.now)
    (written c.step_stmt.new.lines) c.requires.ready c.step_stmt.ensures.steps

pub returns-in-Calls-clause-rest : goal.returns-in-Calls-clause-rest
returns-in-Calls-clause-rest c =
    advances-by c.step_call.result c.args.m.now c.step_call.new.m c.args.w.now c.step_call.new.w
    c.args.fuel.now c.step_call.new.fuel (written c.args.lines.now)
    (written c.step_call.new.lines) c.requires.ready c.step_call.ensures.steps

pub returns-in-Intrinsics-clause-rest : goal.returns-in-Intrinsics-clause-rest
returns-in-Intrinsics-clause-rest c =
    advances-by c.step_intrinsic.result c.args.m.now c.step_intrinsic.new.m c.args.w.now c.step_intrinsic.new.w
    c.args.fuel.now c.step_intrinsic.new.fuel (written c.args.lines.now)
    (written c.step_intrinsic.new.lines) c.requires.ready c.step_intrinsic.ensures.steps

pub returns-in-Reflecting-clause-rest : goal.returns-in-Reflecting-clause-rest
returns-in-Reflecting-clause-rest c =
    advances-by c.step_reflect.result c.args.m.now c.step_reflect.new.m c.args.w.now c.step_reflect.new.w
    c.args.fuel.now c.step_reflect.new.fuel (written c.args.lines.now)
    (written c.step_reflect.new.lines) c.requires.ready c.step_reflect.ensures.steps

pub returns-in-Arrays-clause-rest : goal.returns-in-Arrays-clause-rest
returns-in-Arrays-clause-rest c =
    advances-by c.step_arrayapi.result c.args.m.now c.step_arrayapi.new.m c.args.w.now c.step_arrayapi.new.w
    c.args.fuel.now c.step_arrayapi.new.fuel (written c.args.lines.now)
    (written c.step_arrayapi.new.lines) c.requires.ready c.step_arrayapi.ensures.steps

pub returns-in-Proxies-clause-rest : goal.returns-in-Proxies-clause-rest
returns-in-Proxies-clause-rest c =
    advances-by c.step_scriptproxy.result c.args.m.now c.step_scriptproxy.new.m c.args.w.now c.step_scriptproxy.new.w
    c.args.fuel.now c.step_scriptproxy.new.fuel (written c.args.lines.now)
    (written c.step_scriptproxy.new.lines) c.requires.ready c.step_scriptproxy.ensures.steps
