use Rattle.std.proofs.Common.{◌+◌, ◌-◌, None, Option, Some, ap, arith, option_map, suc, sym, ℕ, ◌∙◌, ◌≡◌}
use Rattle.std.specs.Prelude.{position}
use Rattle.mb_eval_expr.proofs.Binding.{parent-home}
use Rattle.mb_eval_expr.proofs.Naming.{found-here}
use Rattle.mb_model.specs.Nodes.Scopes.{find_name, or_above}
use Rattle.mb_world.specs.Data.{has_name}
use Rattle.mb_world.specs.Ids.{Maybe, ScopeIn}
use Rattle.mb_world.specs.Image.{Image, names_of, text_in}
use Rattle.mb_eval_expr.proofs.names.find.Goals as goal

pub returns-in-Some-clause-place : goal.returns-in-Some-clause-place
returns-in-Some-clause-place c = λ log.
    let d = c.args.w.now in
    let x = text_in (names_of d) c.args.name in
    let n : ℕ = c.scopes-step-end.result - (c.loop-step.step + 1) in
    let e : c.scopes-step-end.result - c.loop-step.step ≡ suc n = omega arith in
    let up : ℕ → Option (ℕ × ℕ) = λ p. find_name n (Image d log).scopes p x in
    let here : position (has_name c.args.name) c.scope-here.result.now.names ≡ Some c.in-Some.place
    = sym c.place_of.ensures ∙ c.in-Some.is in
    sym (c.loop-step.invariant.same log ∙ ap (λ m. find_name m (Image d log).scopes c.loop-step.at.0 x) e
    ∙ found-here d c.texts-texts.ensures.distinct c.args.name c.requires.name c.loop-step.at c.scope-here.result.now
    n c.scope-here.ensures.value c.scope-here.ensures.within log
    ∙ ap (λ o. or_above c.loop-step.at.0 o (option_map (λ p. p.0) c.scope-here.result.now.parent) up) here)

pub returns-in-None-parent-clause-place : goal.returns-in-None-parent-clause-place
returns-in-None-parent-clause-place c = λ log.
    let d = c.args.w.now in
    let x = text_in (names_of d) c.args.name in
    let n : ℕ = c.scopes-step-end.result - (c.loop-step.step + 1) in
    let e : c.scopes-step-end.result - c.loop-step.step ≡ suc n = omega arith in
    let up : ℕ → Option (ℕ × ℕ) = λ p. find_name n (Image d log).scopes p x in
    let here : position (has_name c.args.name) c.scope-here.result.now.names ≡ None
    = sym c.place_of.ensures ∙ c.in-None.is in
    sym (c.loop-step.invariant.same log ∙ ap (λ m. find_name m (Image d log).scopes c.loop-step.at.0 x) e
    ∙ found-here d c.texts-texts.ensures.distinct c.args.name c.requires.name c.loop-step.at c.scope-here.result.now
    n c.scope-here.ensures.value c.scope-here.ensures.within log
    ∙ ap (λ o. or_above c.loop-step.at.0 o (option_map (λ p. p.0) c.scope-here.result.now.parent) up) here
    ∙ ap (λ p. or_above c.loop-step.at.0 None (option_map (λ p. p.0) p) up) c.in-None-parent.is)

pub loop-step-preserved : goal.loop-step-preserved
loop-step-preserved c =
    let d = c.args.w.now in
    let n : ℕ = c.scopes-step-end.result - (c.loop-step.step + 1) in
    let e : c.scopes-step-end.result - c.loop-step.step ≡ suc n = omega arith in
    let here : position (has_name c.args.name) c.scope-here.result.now.names ≡ None
    = sym c.place_of.ensures ∙ c.in-None.is in
    let parent : Maybe (ScopeIn d) c.scope-here.result.now.parent = c.scope-here.ensures.within.parent_in in
    record {
      scope = rw c.in-Some-parent.is at parent;
      same = λ log.
          let x = text_in (names_of d) c.args.name in
          let up : ℕ → Option (ℕ × ℕ) = λ p. find_name n (Image d log).scopes p x in
          c.loop-step.invariant.same log ∙ ap (λ m. find_name m (Image d log).scopes c.loop-step.at.0 x) e
          ∙ found-here d c.texts-texts.ensures.distinct c.args.name c.requires.name c.loop-step.at
          c.scope-here.result.now n c.scope-here.ensures.value c.scope-here.ensures.within log
          ∙ ap (λ o. or_above c.loop-step.at.0 o (option_map (λ p. p.0) c.scope-here.result.now.parent) up) here
          ∙ ap (λ p. or_above c.loop-step.at.0 None (option_map (λ p. p.0) p) up) c.in-Some-parent.is;
      homes = λ home r h.
          parent-home d home r c.loop-step.at c.scope-here.result.now c.scope-here.ensures.value
          (c.loop-step.invariant.homes home r h) c.in-Some-parent.parent c.in-Some-parent.is;
      all = c.loop-step.invariant.all;
    }

pub returns-clause-place : goal.returns-clause-place
returns-clause-place c = λ log.
    let e : c.scopes-step-end.result - c.loop-step.step ≡ 0 = omega arith in
    sym (c.loop-step.invariant.same log
    ∙ ap (λ m. find_name m (Image c.args.w.now log).scopes c.loop-step.at.0
    (text_in (names_of c.args.w.now) c.args.name)) e)

pub returns-in-Some-clause-home : goal.returns-in-Some-clause-home
returns-in-Some-clause-home c = c.loop-step.invariant.homes
