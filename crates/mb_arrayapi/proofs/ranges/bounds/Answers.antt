use Rattle.std.proofs.Common.{ap, refl, ℕ, ◌∙◌}
use Rattle.mb_arrayapi.proofs.ranges.bounds.Goals as goal
use Rattle.mb_model.specs.BuiltIns.ArrayMembers.{index_arg}
use Rattle.mb_model.specs.Writing.{◌>>=◌, Does}
use Rattle.mb_world.specs.Image.{Resolve, names_of}

pub returns-in_err-to-clause-none : goal.returns-in_err-to-clause-none
returns-in_err-to-clause-none c = λ e d s p.
    ap (λ (q : Does ℕ). q >>= (λ k. index_arg s c.args.length c.args.length (Resolve (names_of d) c.args.to) >>= p k))
    (c.in_ok-from.ensures.some s d)
    ∙ ap (λ (q : Does ℕ). q >>= p c.in_ok-from.from) (c.in_err-to.ensures.none refl s d)

pub returns-clause-some : goal.returns-clause-some
returns-clause-some c = λ d s p.
    ap (λ (q : Does ℕ). q >>= (λ k. index_arg s c.args.length c.args.length (Resolve (names_of d) c.args.to) >>= p k))
    (c.in_ok-from.ensures.some s d)
    ∙ ap (λ (q : Does ℕ). q >>= p c.in_ok-from.from) (c.in_ok-to.ensures.some s d)
