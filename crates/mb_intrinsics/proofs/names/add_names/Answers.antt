use Rattle.mb_intrinsics.proofs.Homes.{on-err}
use Rattle.mb_intrinsics.proofs.Scoping.{desk-gained, names-gained, scope-made, scope-within}
use Rattle.mb_intrinsics.specs.machine.Filling.{Gains}
use Rattle.mb_world.specs.Data.{Data}
use Rattle.mb_world.specs.declared.scope.Bound.{Bound}
use Rattle.std.proofs.Common.{[], ap, subst, sym, ◌++◌, ◌∙◌, ◌∷◌}
use Rattle.mb_intrinsics.proofs.names.add_names.Goals as goal

pub returns-in_err-name-clause-kept : goal.returns-in_err-name-clause-kept
returns-in_err-name-clause-kept c =
    on-err _ _ (subst (λ (x : Data). Gains c.args.w.now [] x) (sym c.in_err-name.ensures.kept)
    (names-gained c.args.w.now c.built_in_names.new.w c.in_ok-names.ensures.texts))

pub returns-in_err-push-clause-kept : goal.returns-in_err-push-clause-kept
returns-in_err-push-clause-kept c =
    on-err _ _ (desk-gained c.args.w.now c.built_in_names.new.w c.intern.new.w c.in_ok-names.ensures.texts
    c.in_ok-name.ensures.gains)

pub add_scope-requires : goal.add_scope-requires
add_scope-requires c =
    scope-within c.args.w.now c.built_in_names.new.w c.intern.new.w c.args.side c.args.desk c.in_ok-names.names
    c.push.new.self c.in_ok-name.name c.in_ok-names.ensures.texts c.in_ok-names.ensures.names
    c.in_ok-name.ensures.texts c.in_ok-name.ensures.id c.in_ok-name.ensures.distinct
    (c.in_ok-push.ensures.pushed ∙ ap (λ (b : Bound). c.in_ok-names.names ++ b ∷ []) c.bound.ensures)
    c.requires.side c.requires.desk

pub returns-in_err-add_scope-clause-kept : goal.returns-in_err-add_scope-clause-kept
returns-in_err-add_scope-clause-kept c =
    on-err _ _ (subst (λ (x : Data). Gains c.args.w.now [] x) (sym c.in_err-add_scope.ensures.kept)
    (desk-gained c.args.w.now c.built_in_names.new.w c.intern.new.w c.in_ok-names.ensures.texts
    c.in_ok-name.ensures.gains))

pub returns-clause-bound : goal.returns-clause-bound
returns-clause-bound c =
    scope-made c.args.w.now c.built_in_names.new.w c.intern.new.w c.args.side c.args.desk c.in_ok-names.names
    c.push.new.self c.in_ok-name.name c.in_ok-names.ensures.texts c.in_ok-names.ensures.names
    c.in_ok-name.ensures.texts c.in_ok-name.ensures.id c.in_ok-name.ensures.distinct
    (c.in_ok-push.ensures.pushed ∙ ap (λ (b : Bound). c.in_ok-names.names ++ b ∷ []) c.bound.ensures)
    c.add_scope.new.self c.in_ok-add_scope.ensures.added
