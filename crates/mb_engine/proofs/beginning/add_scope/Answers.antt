use Rattle.mb_engine.proofs.Scopes.{joined-still, scope-added}
use Rattle.mb_intrinsics.proofs.Homes.{on-ok}
use Rattle.mb_engine.proofs.beginning.add_scope.Goals as goal

pub returns-clause-added : goal.returns-clause-added
returns-clause-added c =
    on-ok c.bind_names.result
    (scope-added c.args.w.now c.own_desk.new.w c.args.desk c.args.side c.in_ok-own.own c.in_ok-own.ensures.crosses
    c.requires.side c.in_ok-own.ensures.held c.in_ok-own.ensures.stands c.bind_names.new.w) c.bind_names.ensures.bound

pub returns-clause-joined : goal.returns-clause-joined
returns-clause-joined c =
    joined-still c.args.w.now c.own_desk.new.w c.bind_names.new.w c.args.side c.in_ok-own.own c.bind_names.result
    c.in_ok-own.ensures.joined c.bind_names.ensures.bound c.bind_names.ensures.rest
