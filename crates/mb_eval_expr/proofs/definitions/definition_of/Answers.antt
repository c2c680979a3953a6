use Rattle.std.proofs.Common.{refl}
use Rattle.mb_eval_expr.proofs.Propping.{name-node, no-prop-form}
use Rattle.mb_eval_expr.proofs.Rows.{names-counted}
use Rattle.mb_frames.specs.Told.{shapes_of}
use Rattle.mb_world.specs.Data.{program_of}
use Rattle.mb_world.specs.Image.{nodes_in}
use Rattle.mb_eval_expr.proofs.definitions.definition_of.Goals as goal

pub returns-in-Value-clause-prop : goal.returns-in-Value-clause-prop
returns-in-Value-clause-prop c = λ home d. rw c.in-Value.is (refl, refl)

pub returns-in-Method-clause-prop : goal.returns-in-Method-clause-prop
returns-in-Method-clause-prop c = λ home d.
    rw c.in-Method.is (
      refl,
      names-counted (nodes_in d.texts (shapes_of (program_of d home)))
          c.in-Method.parts.params.now,
    )

pub returns-in-Getter-clause-prop : goal.returns-in-Getter-clause-prop
returns-in-Getter-clause-prop c = λ home d.
    rw c.in-Getter.is (
      refl,
      names-counted (nodes_in d.texts (shapes_of (program_of d home)))
          c.in-Getter.parts.params.now,
    )

pub returns-in-Setter-clause-prop : goal.returns-in-Setter-clause-prop
returns-in-Setter-clause-prop c = λ home d.
    rw c.in-Setter.is (
      refl,
      names-counted (nodes_in d.texts (shapes_of (program_of d home)))
          c.in-Setter.parts.params.now,
    )

pub returns-in_default-clause-none : goal.returns-in_default-clause-none
returns-in_default-clause-none c = λ e home d.
    no-prop-form d home c.args.form c.in_default.not-Value c.in_default.not-Method c.in_default.not-Getter
    c.in_default.not-Setter

pub returns-in-Value-clause-names : goal.returns-in-Value-clause-names
returns-in-Value-clause-names c = λ d h. rw c.in-Value.is at h

pub returns-in-Method-clause-names : goal.returns-in-Method-clause-names
returns-in-Method-clause-names c = λ d h. rw c.in-Method.is at h

pub returns-in-Getter-clause-names : goal.returns-in-Getter-clause-names
returns-in-Getter-clause-names c = λ d h. rw c.in-Getter.is at h

pub returns-in-Setter-clause-names : goal.returns-in-Setter-clause-names
returns-in-Setter-clause-names c = λ d h. rw c.in-Setter.is at h

pub returns-in-Value-clause-nodes : goal.returns-in-Value-clause-nodes
returns-in-Value-clause-nodes c = λ home d h.
    let k = rw c.in-Value.is at h in
    (name-node d home c.in-Value.key k.0, k.1)

pub returns-in-Method-clause-nodes : goal.returns-in-Method-clause-nodes
returns-in-Method-clause-nodes c = λ home d h.
    let k = rw c.in-Method.is at h in
    (name-node d home c.in-Method.key k.0, tt)

pub returns-in-Getter-clause-nodes : goal.returns-in-Getter-clause-nodes
returns-in-Getter-clause-nodes c = λ home d h.
    let k = rw c.in-Getter.is at h in
    (name-node d home c.in-Getter.key k.0, tt)

pub returns-in-Setter-clause-nodes : goal.returns-in-Setter-clause-nodes
returns-in-Setter-clause-nodes c = λ home d h.
    let k = rw c.in-Setter.is at h in
    (name-node d home c.in-Setter.key k.0, tt)
