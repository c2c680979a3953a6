use Rattle.mb_base.specs.declared.value.Value.TheVariants as v
use Rattle.mb_frames.specs.Kinds.{is_array_form, is_call_form, is_object_form, is_seq_form}
use Rattle.mb_eval_expr.proofs.Keeping.{kept-left, plain-held, sign-held}
use Rattle.mb_frames.proofs.Keeping.{expression-held, node-held}
use Rattle.std.proofs.Common.{List, None, Ok, [], false, true, ap, subst, sym, true≢false, ℕ, refl, Some}
use Rattle.mb_frames.proofs.Passed.{Part-sure}
use Rattle.mb_eval_expr.proofs.Rows.{Part-call, Part-node, names-counted, plain-is}
use Rattle.mb_frames.specs.Told.{numbers_of, parts_told, shapes_of, told_at}
use Rattle.mb_frames.specs.Passing.{Part}
use Rattle.mb_frames.specs.Resolved.{context_in}
use Rattle.mb_frames.specs.Rest.Parts.{parts_of}
use Rattle.mb_model.specs.Meaning.{finished}
use Rattle.mb_model.specs.Nodes.Invocations.{sequence}
use Rattle.mb_model.specs.Nodes.{node as node_form}
use Rattle.mb_model.specs.Nodes.Literals.{elements, props}
use Rattle.mb_model.specs.Nodes.Scopes.{code}
use Rattle.mb_model.specs.Operations.Makings.{make_array, make_function, make_plain}
use Rattle.mb_model.specs.Writing.{◌>>=◌, is_value}
use Rattle.mb_tree.specs.Seen.{seen, seen_parts}
use Rattle.mb_world.specs.Data.{program_of}
use Rattle.mb_world.specs.Image.{nodes_in}
use Rattle.mb_world.specs.Standard.{object_prototype}
use Rattle.mb_world.specs.Image.{names_of}
use Rattle.mb_world.specs.Value.{Undefined}
use Rattle.mb_frames.specs.Making.{is_function_of}
use Rattle.mb_frames.proofs.HeldLess.{text-held}
use Rattle.mb_eval_expr.proofs.beginning.begin.Goals as goal

pub returns-in-Name-clause-row : goal.returns-in-Name-clause-row
returns-in-Name-clause-row c =
    let e = sym (rw c.in-Name.is at c.in-Some.ensures.form) in
    Part-node c.args.home c.args.w.now c.args.at c.follow.result c.follow.new.w c.args.fuel.now c.args.fuel.now
    c.args.node _
    c.requires.acts.runs.takes_part e (c.follow.ensures.row c.args.fuel.now)

pub returns-in-Assign-clause-row : goal.returns-in-Assign-clause-row
returns-in-Assign-clause-row c =
    let e = sym (rw c.in-Assign.is at c.in-Some.ensures.form) in
    Part-node c.args.home c.args.w.now c.args.at c.refer.result c.refer.new.w c.args.fuel.now c.refer.new.fuel
    c.args.node _
    c.requires.acts.runs.takes_part e c.refer.ensures.row

pub returns-in-Compound-clause-row : goal.returns-in-Compound-clause-row
returns-in-Compound-clause-row c =
    let e = sym (rw c.in-Compound.is at c.in-Some.ensures.form) in
    Part-node c.args.home c.args.w.now c.args.at c.refer-in-Compound.result c.refer-in-Compound.new.w c.args.fuel.now
    c.refer-in-Compound.new.fuel c.args.node _
    c.requires.acts.runs.takes_part e c.refer-in-Compound.ensures.row

pub returns-in-Update-clause-row : goal.returns-in-Update-clause-row
returns-in-Update-clause-row c =
    let e = sym (rw c.in-Update.is at c.in-Some.ensures.form) in
    Part-node c.args.home c.args.w.now c.args.at c.refer-in-Update.result c.refer-in-Update.new.w c.args.fuel.now
    c.refer-in-Update.new.fuel c.args.node _
    c.requires.acts.runs.takes_part e c.refer-in-Update.ensures.row

pub returns-in-Call-clause-row : goal.returns-in-Call-clause-row
returns-in-Call-clause-row c =
    let d = c.args.w.now in
    let ns = numbers_of c.in-Call.arguments.now in
    let e = sym (rw c.in-Call.is at c.in-Some.ensures.form) in
    Part-node c.args.home d c.args.at c.call_row.result c.call_row.new.w c.args.fuel.now c.call_row.new.fuel
    c.args.node _
    c.requires.acts.runs.takes_part e
    (Part-call c.args.home d c.args.at c.call_row.result c.call_row.new.w c.args.fuel.now c.call_row.new.fuel
    c.args.node
    c.in-Call.callee ns c.requires.acts.runs.takes_part (ap parts_of e) c.call_row.ensures.row)

pub returns-in-Seq-clause-row : goal.returns-in-Seq-clause-row
returns-in-Seq-clause-row c =
    let d = c.args.w.now in
    let f = c.args.fuel.now in
    let x = context_in (names_of d) c.args.home.0 c.args.at in
    let e = sym (rw c.in-Seq.is at c.in-Some.ensures.form) in
    Part-node c.args.home d c.args.at c.seq_got.result d f f c.args.node _ c.requires.acts.runs.takes_part e
    (subst (λ (ns : List ℕ). Part c.args.home c.seq_got.result d d f f (sequence x ns Undefined finished))
    (ap parts_of e)
    (c.seq_got.ensures.row f))

pub returns-in-Unary-clause-row : goal.returns-in-Unary-clause-row
returns-in-Unary-clause-row c =
    let e = sym (rw c.in-Unary.is at c.in-Some.ensures.form) in
    Part-node c.args.home c.args.w.now c.args.at c.unary_row.result c.unary_row.new.w c.args.fuel.now
    c.unary_row.new.fuel c.args.node _
    c.requires.acts.runs.takes_part e c.unary_row.ensures.row

pub returns-in-ArrayLit-clause-row : goal.returns-in-ArrayLit-clause-row
returns-in-ArrayLit-clause-row c =
    let d = c.args.w.now in
    let f = c.args.fuel.now in
    let x = context_in (names_of d) c.args.home.0 c.args.at in
    let e = sym (rw c.in-ArrayLit.is at c.in-Some.ensures.form) in
    Part-node c.args.home d c.args.at c.array_row.result c.array_row.new.w f f c.args.node _
    c.requires.acts.runs.takes_part e
    (subst (λ (ns : List ℕ). Part c.args.home c.array_row.result d c.array_row.new.w f f
    ((make_array c.args.home.0 [] >>= (λ a. elements x a 0 ns)) finished)) (ap parts_of e) (c.array_row.ensures.row f))

pub returns-in-ObjectLit-clause-row : goal.returns-in-ObjectLit-clause-row
returns-in-ObjectLit-clause-row c =
    let d = c.args.w.now in
    let f = c.args.fuel.now in
    let x = context_in (names_of d) c.args.home.0 c.args.at in
    let e = sym (rw c.in-ObjectLit.is at c.in-Some.ensures.form) in
    Part-node c.args.home d c.args.at c.object_row.result c.object_row.new.w f c.object_row.new.fuel c.args.node _
    c.requires.acts.runs.takes_part e
    (subst (λ (ns : List ℕ). Part c.args.home c.object_row.result d c.object_row.new.w f c.object_row.new.fuel
    ((make_plain c.args.home.0 None object_prototype >>= (λ o. props x o ns)) finished)) (ap parts_of e)
    c.object_row.ensures.row)

pub returns-in-Function-clause-row : goal.returns-in-Function-clause-row
returns-in-Function-clause-row c =
    let d = c.args.w.now in
    let e = sym (rw c.in-Function.is at c.in-Some.ensures.form) in
    let parts = parts_told (nodes_in d.texts (shapes_of (program_of d c.args.home))) (seen_parts c.in-Function.parts) in
    Part-node c.args.home d c.args.at c.function_row.result c.function_row.new.w c.args.fuel.now
    c.function_row.new.fuel c.args.node _
    c.requires.acts.runs.takes_part e
    (c.function_row.ensures.row parts
    (names-counted (nodes_in d.texts (shapes_of (program_of d c.args.home))) c.in-Function.parts.params.now))

pub returns-in-Arrow-clause-row : goal.returns-in-Arrow-clause-row
returns-in-Arrow-clause-row c =
    let d = c.args.w.now in
    let f = c.args.fuel.now in
    let x = context_in (names_of d) c.args.home.0 c.args.at in
    let e = sym (rw c.in-Arrow.is at c.in-Some.ensures.form) in
    Part-node c.args.home d c.args.at c.arrow_row.result c.arrow_row.new.w f f c.args.node _
    c.requires.acts.runs.takes_part e
    (subst (λ (n : ℕ). Part c.args.home c.arrow_row.result d c.arrow_row.new.w f f
    ((make_function (code c.args.home.0 c.args.node.0 c.args.at.scope.0 false (Some x.this)) None n [] >>= is_value)
    finished))
    (sym (names-counted (nodes_in d.texts (shapes_of (program_of d c.args.home))) c.in-Arrow.parts.params.now))
    (c.arrow_row.ensures.row f))

pub returns-in_default-clause-row : goal.returns-in_default-clause-row
returns-in_default-clause-row c =
    let d = c.args.w.now in
    let f = c.args.fuel.now in
    let x = context_in (names_of d) c.args.home.0 c.args.at in
    let q = told_at d c.args.home (seen c.in-Some.form) in
    let e = sym c.in-Some.ensures.form in
    Part-node c.args.home d c.args.at (Ok c.first.result) d f f c.args.node q c.requires.acts.runs.takes_part e
    (Part-sure c.args.home d f (node_form x c.args.node.0 q finished) c.first.result
    (c.first.ensures.row c.args.home d c.requires.at c.in-Some.ensures.texts e))

pub first-requires : goal.first-requires
first-requires c =
    plain-is c.args.w.now c.args.home c.in-Some.form (rw (sym c.in-Some.ensures.form) at c.requires.begun)
    c.in_default.not-Name c.in_default.not-Assign c.in_default.not-Compound c.in_default.not-Update
    c.in_default.not-Call
    c.in_default.not-Seq c.in_default.not-Unary c.in_default.not-ArrayLit c.in_default.not-ObjectLit
    c.in_default.not-Function c.in_default.not-Arrow

pub unreachable-requires : goal.unreachable-requires
unreachable-requires c = absurd (true≢false (sym (rw (sym c.in-None.ensures.form) at c.requires.begun)))

pub returns-in-Name-clause-keeps : goal.returns-in-Name-clause-keeps
returns-in-Name-clause-keeps c = λ r i h.
    c.follow.ensures.keeps r i
    (h.0, (h.1.0, (text-held c.args.w.now c.args.home c.in-Name.name (rw c.in-Name.is at c.in-Some.ensures.texts), tt)))

pub returns-in-Assign-clause-keeps : goal.returns-in-Assign-clause-keeps
returns-in-Assign-clause-keeps c = λ r i h.
    let k = rw c.in-Assign.is at c.in-Some.ensures.parts in
    c.refer.ensures.keeps r i (h.0, (h.1.0, (expression-held c.args.w.now c.args.home c.in-Assign.value k.1, tt)))

pub returns-in-Compound-clause-keeps : goal.returns-in-Compound-clause-keeps
returns-in-Compound-clause-keeps c = λ r i h.
    let d = c.args.w.now in
    let k = rw c.in-Compound.is at c.in-Some.ensures.parts in
    c.refer-in-Compound.ensures.keeps r i (
      h.0,
      (
        h.1.0,
        (
          expression-held d c.args.home c.in-Compound.value k.2,
          (sign-held d c.args.home c.in-Compound.sign k.0, tt),
        ),
      ),
    )

pub returns-in-Update-clause-keeps : goal.returns-in-Update-clause-keeps
returns-in-Update-clause-keeps c = λ r i h. c.refer-in-Update.ensures.keeps r i h

pub returns-in-Call-clause-keeps : goal.returns-in-Call-clause-keeps
returns-in-Call-clause-keeps c = λ r i h.
    let d = c.args.w.now in
    let k = rw c.in-Call.is at c.in-Some.ensures.parts in
    let e = sym (rw c.in-Call.is at c.in-Some.ensures.form) in
    c.call_row.ensures.keeps r i (
      node-held d c.args.home is_call_form c.args.node.0 (rw e refl),
      (
        expression-held d c.args.home c.in-Call.callee
            k.0,
        h,
      ),
    )

pub returns-in-Seq-clause-keeps : goal.returns-in-Seq-clause-keeps
returns-in-Seq-clause-keeps c = λ r i h.
    let d = c.args.w.now in
    let e = sym (rw c.in-Seq.is at c.in-Some.ensures.form) in
    c.seq_got.ensures.keeps r i (
      plain-held d c.args.home v.Undefined tt tt,
      (h.0, (h.1.0, (node-held d c.args.home is_seq_form c.args.node.0 (rw e refl), tt))),
    )

pub returns-in-Unary-clause-keeps : goal.returns-in-Unary-clause-keeps
returns-in-Unary-clause-keeps c = λ r i h.
    let k = rw c.in-Unary.is at c.in-Some.ensures.parts in
    c.unary_row.ensures.keeps r i (expression-held c.args.w.now c.args.home c.in-Unary.operand k, h)

pub returns-in_default-clause-keeps : goal.returns-in_default-clause-keeps
returns-in_default-clause-keeps c = λ r i h.
    kept-left c.args.home c.args.w.now r
    (c.first.ensures.leaves c.args.home c.args.w.now c.in-Some.ensures.texts c.in-Some.ensures.parts
    (sym c.in-Some.ensures.form) r i h)

pub returns-in-ArrayLit-clause-keeps : goal.returns-in-ArrayLit-clause-keeps
returns-in-ArrayLit-clause-keeps c = λ r i h.
    let e = sym (rw c.in-ArrayLit.is at c.in-Some.ensures.form) in
    c.array_row.ensures.keeps r i (node-held c.args.w.now c.args.home is_array_form c.args.node.0 (rw e refl), h)

pub returns-in-ObjectLit-clause-keeps : goal.returns-in-ObjectLit-clause-keeps
returns-in-ObjectLit-clause-keeps c = λ r i h.
    let e = sym (rw c.in-ObjectLit.is at c.in-Some.ensures.form) in
    c.object_row.ensures.keeps r i (node-held c.args.w.now c.args.home is_object_form c.args.node.0 (rw e refl), h)

pub returns-in-Function-clause-keeps : goal.returns-in-Function-clause-keeps
returns-in-Function-clause-keeps c = λ r i h.
    let e = sym (rw c.in-Function.is at c.in-Some.ensures.form) in
    c.function_row.ensures.keeps r i (
      node-held c.args.w.now c.args.home (is_function_of true false) c.args.node.0
          (rw e refl),
      h,
    )

pub returns-in-Arrow-clause-keeps : goal.returns-in-Arrow-clause-keeps
returns-in-Arrow-clause-keeps c = λ r i h.
    let e = sym (rw c.in-Arrow.is at c.in-Some.ensures.form) in
    c.arrow_row.ensures.keeps r i (
      node-held c.args.w.now c.args.home (is_function_of false true) c.args.node.0
          (rw e refl),
      h,
    )

pub object_row-requires-clause-holds : goal.object_row-requires-clause-holds
object_row-requires-clause-holds c =
    let e = sym (rw c.in-ObjectLit.is at c.in-Some.ensures.form) in
    (node-held c.args.w.now c.args.home is_object_form c.args.node.0 (rw e refl), c.requires.holds)
