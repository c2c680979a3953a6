use Rattle.mb_frames.specs.declared.expressions.ExprFrame.TheVariants as e
use Rattle.mb_frames.specs.Sorts.{AValue}
use Rattle.mb_eval_expr.proofs.Keeping.{kept-left, waits-node}
use Rattle.std.proofs.Common.{subst, sym, refl}
use Rattle.mb_eval_expr.proofs.Rows.{Part-minus, Part-not, Part-typeof-row, other-unary}
use Rattle.mb_frames.specs.Passing.{Part}
use Rattle.mb_frames.specs.Resolved.{context_in}
use Rattle.mb_model.specs.Meaning.{finished}
use Rattle.mb_model.specs.Task.{Answer}
use Rattle.mb_model.specs.Writing.{Does}
use Rattle.mb_world.specs.Image.{names_of}
use Rattle.mb_eval_expr.proofs.beginning.unary_row.Goals as goal

pub returns-in-Typeof-clause-row : goal.returns-in-Typeof-clause-row
returns-in-Typeof-clause-row c =
    rw c.in-Typeof.is (Part-typeof-row c.args.home c.args.w.now c.args.at c.typeof_row.result c.typeof_row.new.w
    c.args.fuel.now
    c.typeof_row.new.fuel c.args.operand c.requires.acts.runs.takes_part c.typeof_row.ensures.row)

pub returns-in-Delete-clause-row : goal.returns-in-Delete-clause-row
returns-in-Delete-clause-row c = rw c.in-Delete.is c.refer.ensures.row

pub returns-in-Not-clause-row : goal.returns-in-Not-clause-row
returns-in-Not-clause-row c =
    rw c.in-Not.is (Part-not c.args.home c.args.w.now c.args.at c.args.fuel.now c.args.operand c.requires.at)

pub returns-in-Minus-clause-row : goal.returns-in-Minus-clause-row
returns-in-Minus-clause-row c =
    rw c.in-Minus.is (Part-minus c.args.home c.args.w.now c.args.at c.args.fuel.now c.args.operand c.requires.at)

pub returns-in_default-clause-row : goal.returns-in_default-clause-row
returns-in_default-clause-row c =
    let d = c.args.w.now in
    let f = c.args.fuel.now in
    let x = context_in (names_of d) c.args.home.0 c.args.at in
    let e = other-unary x c.args.operand.0 c.args.sign c.in_default.not-Typeof c.in_default.not-Delete
    c.in_default.not-Not c.in_default.not-Minus in
    subst (λ (p : Does Answer). Part c.args.home c.type_error.result d c.type_error.new.w f f (p finished)) (sym e)
    (c.type_error.ensures.part f)

pub returns-in-Typeof-clause-keeps : goal.returns-in-Typeof-clause-keeps
returns-in-Typeof-clause-keeps c = λ r i h. c.typeof_row.ensures.keeps r i h

pub returns-in-Delete-clause-keeps : goal.returns-in-Delete-clause-keeps
returns-in-Delete-clause-keeps c = λ r i h. c.refer.ensures.keeps r i (h.1.0, (h.1.1.0, tt))

pub returns-in-Not-clause-keeps : goal.returns-in-Not-clause-keeps
returns-in-Not-clause-keeps c = λ r i h.
    kept-left c.args.home c.args.w.now r
    (waits-node c.args.w.now c.args.home e.Not c.args.operand c.args.at refl tt h.1 h.0)

pub returns-in-Minus-clause-keeps : goal.returns-in-Minus-clause-keeps
returns-in-Minus-clause-keeps c = λ r i h.
    kept-left c.args.home c.args.w.now r
    (waits-node c.args.w.now c.args.home e.Negate c.args.operand c.args.at refl tt h.1 h.0)

pub returns-in_default-clause-keeps : goal.returns-in_default-clause-keeps
returns-in_default-clause-keeps c = λ r i h. c.type_error.ensures.keeps AValue r i tt
