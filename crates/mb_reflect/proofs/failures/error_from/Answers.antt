use Rattle.std.proofs.Common.{ap, subst, sym, ◌∙◌, ℕ}
use Rattle.mb_frames.specs.Passing.{Part}
use Rattle.mb_model.specs.BuiltIns.Arguments.{prototype_or}
use Rattle.mb_model.specs.BuiltIns.ErrorsAndFunctions.{error_made}
use Rattle.mb_model.specs.Meaning.{finished}
use Rattle.mb_parts.proofs.Acting.{prototype-there}
use Rattle.mb_reflect.proofs.Failed.{error-place}
use Rattle.mb_reflect.proofs.failures.error_from.Goals as goal
use Rattle.mb_world.specs.Image.{Resolve, names_of}
use Rattle.mb_world.specs.Value.{BuiltIn, Val}

pub prototype_or-prototype-requires-clause-place : goal.prototype_or-prototype-requires-clause-place
prototype_or-prototype-requires-clause-place c = rw c.error_place.ensures (prototype-there c.args.kind)

pub prototype_or-prototype-requires-clause-acts : goal.prototype_or-prototype-requires-clause-acts
prototype_or-prototype-requires-clause-acts c =
    let a = c.requires.acts in
    record { ready = a.ready; side = a.side; holds = (a.holds.0, tt) }

pub error_made-requires : goal.error_made-requires
error_made-requires c =
    let a = c.requires.acts in
    record {
      acts = record {
        ready = a.ready;
        side = a.side;
        holds = (a.holds.1.0, c.prototype_or-prototype.ensures.held);
      };
    }

pub returns-clause-part : goal.returns-clause-part
returns-clause-part c = λ f.
    let d = c.args.w.now in
    let home = c.args.home in
    let n = names_of d in
    let e = c.prototype_or-prototype.ensures.value
    ∙ ap (λ (i : ℕ). prototype_or (BuiltIn i) (Resolve n c.args.got)) c.error_place.ensures
    ∙ ap (λ (y : Val). prototype_or y (Resolve n c.args.got)) (sym (error-place c.args.kind)) in
    subst (λ (y : Val). Part home c.error_made.result d c.error_made.new.w f f
    (error_made home.0 c.args.kind (Resolve n c.args.message) y finished)) e (c.error_made.ensures.part f)
