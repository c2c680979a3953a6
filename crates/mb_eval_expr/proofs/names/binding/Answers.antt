use Rattle.std.proofs.Common.{ap, refl, slice_get, option_map, sym, ◌∙◌}
use Rattle.mb_eval_expr.proofs.Binding.{binding-held}
use Rattle.mb_eval_expr.proofs.Naming.{at-place, binding-is}
use Rattle.mb_model.specs.Nodes.Scopes.{binding_at}
use Rattle.std.specs.Prelude.{All}
use Rattle.mb_frames.specs.Real.{IsReal}
use Rattle.mb_world.proofs.Grow.{All-at}
use Rattle.mb_world.specs.declared.scope.Bound.{Bound}
use Rattle.mb_world.specs.Ids.{BoundIn, Maybe}
use Rattle.mb_world.specs.Image.{Image, binding_in, names_of}
use Rattle.mb_eval_expr.proofs.names.binding.Goals as goal

pub returns-in-Some-clause-value : goal.returns-in-Some-clause-value
returns-in-Some-clause-value c = λ log.
    let d = c.args.w.now in
    ap (option_map (binding_in (names_of d))) c.at.ensures
    ∙ sym (binding-is d c.in-Some.at c.scope.result.now c.in-Some.place c.scope.ensures.value log)
    ∙ ap (binding_at (Image d log)) (c.in-Some.ensures.place log)

pub returns-in-Some-clause-within : goal.returns-in-Some-clause-within
returns-in-Some-clause-within c =
    rw c.at.ensures (at-place (BoundIn c.args.w.now) c.scope.result.now.names c.in-Some.place
    c.scope.ensures.within.names_in)

pub returns-in-None-clause-value : goal.returns-in-None-clause-value
returns-in-None-clause-value c = λ log. ap (binding_at (Image c.args.w.now log)) (c.in-None.ensures.place log)

pub returns-in-Some-clause-real : goal.returns-in-Some-clause-real
returns-in-Some-clause-real c = λ h.
    let P : Bound → Type 0 = λ b. Maybe (IsReal c.args.w.now) b.value in
    rw c.at.ensures (at-place P c.scope.result.now.names c.in-Some.place
    (All-at (λ s. All P s.names) c.args.w.now.scopes c.in-Some.at.0 c.scope.result.now c.scope.ensures.value h))

pub returns-in-Some-clause-held : goal.returns-in-Some-clause-held
returns-in-Some-clause-held c = λ home r h.
    let s = c.scope.result.now in
    rw c.at.ensures (binding-held c.args.w.now home r c.in-Some.at s c.scope.ensures.value
    (c.in-Some.ensures.home home r h.sound) c.in-Some.place (slice_get s.names c.in-Some.place) refl)
