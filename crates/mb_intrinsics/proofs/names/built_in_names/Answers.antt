use Rattle.mb_intrinsics.proofs.Binding.{binds-gained, binds-step}
use Rattle.mb_intrinsics.proofs.Homes.{on-err}
use Rattle.mb_intrinsics.proofs.Naming.{gains-halted}
use Rattle.mb_intrinsics.specs.machine.Filling.{Gains}
use Rattle.mb_world.specs.Data.{Data}
use Rattle.mb_world.specs.declared.scope.Bound.{Bound}
use Rattle.std.proofs.Common.{[], ap, subst, sym, ◌++◌, ◌∙◌, ◌∷◌}
use Rattle.mb_intrinsics.proofs.names.built_in_names.Goals as goal

pub returns-in_err-name-clause-kept : goal.returns-in_err-name-clause-kept
returns-in_err-name-clause-kept c =
    on-err _ _ (subst (λ (x : Data). Gains c.args.w.now [] x) (sym c.in_err-name.ensures.kept)
    (binds-gained c.args.w.now c.loop-place.w c.args.side c.loop-place.place-index c.loop-place.names
    c.loop-place.invariant))

pub returns-in_err-push-clause-kept : goal.returns-in_err-push-clause-kept
returns-in_err-push-clause-kept c =
    on-err _ _ (gains-halted c.args.w.now c.loop-place.w c.intern.new.w [] _
    (binds-gained c.args.w.now c.loop-place.w c.args.side c.loop-place.place-index c.loop-place.names
    c.loop-place.invariant) c.in_ok-name.ensures.gains)

pub loop-place-preserved : goal.loop-place-preserved
loop-place-preserved c =
    binds-step c.bound_places-place-items.result.now c.bound_places-place-items.ensures c.loop-place.place-index _
    c.loop-place-test.true c.args.w.now c.loop-place.w c.intern.new.w c.args.side c.name_of.result.now
    c.in_ok-name.name c.own-value.result c.loop-place.names c.push.new.self c.loop-place.invariant c.name_of.ensures
    c.in_ok-name.ensures.texts c.in_ok-name.ensures.id c.in_ok-name.ensures.distinct c.own-value.ensures
    (c.in_ok-push.ensures.pushed ∙ ap (λ (b : Bound). c.loop-place.names ++ b ∷ []) c.bound.ensures)
