use Rattle.std.proofs.Common.{List, Ok, subst, sym, ℕ, ap}
use Rattle.mb_frames.proofs.Steps.{Step-sure}
use Rattle.mb_frames.specs.Resolved.{context_in}
use Rattle.mb_frames.specs.Stepping.{Step}
use Rattle.mb_model.specs.Meaning.{finished}
use Rattle.mb_model.specs.Nodes.{node as node_form}
use Rattle.mb_model.specs.Nodes.Statements.{give_each, run_scoped}
use Rattle.mb_tree.specs.Seen.{seen}
use Rattle.mb_world.specs.Form.{BlockForm, ConstForm, LetForm, ScriptForm}
use Rattle.mb_world.specs.Image.{names_of}
use Rattle.mb_eval_stmt.proofs.Rows.{Step-node, parts-is}
use Rattle.mb_frames.specs.Told.{numbers_of, told_at}
use Rattle.mb_frames.specs.Kinds.{is_declaring_form, is_for_form, is_list_form}
use Rattle.mb_eval_stmt.proofs.Keeping.{keeps-same}
use Rattle.mb_frames.proofs.Keeping.{either-if-held}
use Rattle.mb_frames.proofs.Keeping.{node-held}
use Rattle.mb_eval_stmt.proofs.step.evaluate.Goals as goal

pub returns-in-Some-Script-clause-row : goal.returns-in-Some-Script-clause-row
returns-in-Some-Script-clause-row c = λ begun l.
    let d = c.args.w.now in
    let x = context_in (names_of d) c.args.home.0 c.args.at in
    let e = sym (rw c.in-Some-Script.field-0-is at c.in-Some-Script.ensures.form) in
    let q = ScriptForm (numbers_of c.in-Some-Script.field-0-0.now) in
    Step-node c.args.home begun c.run_scoped.result d c.run_scoped.new.w c.args.fuel.now c.run_scoped.new.fuel l l
    c.args.at c.args.node q
    c.requires.world.takes_part e
    (subst (λ (ns : List ℕ). Step c.args.home begun c.run_scoped.result d c.run_scoped.new.w c.args.fuel.now
    c.run_scoped.new.fuel l l (run_scoped x c.args.node.0 ns finished))
    (parts-is d c.args.home c.args.node q e) (c.run_scoped.ensures.row begun l))

pub returns-in-Some-Block-clause-row : goal.returns-in-Some-Block-clause-row
returns-in-Some-Block-clause-row c = λ begun l.
    let d = c.args.w.now in
    let x = context_in (names_of d) c.args.home.0 c.args.at in
    let e = sym (rw c.in-Some-Block.field-0-is at c.in-Some-Block.ensures.form) in
    let q = BlockForm (numbers_of c.in-Some-Block.field-0-0.now) in
    Step-node c.args.home begun c.run_scoped-in-Some-Block.result d c.run_scoped-in-Some-Block.new.w c.args.fuel.now
    c.run_scoped-in-Some-Block.new.fuel l l c.args.at c.args.node q
    c.requires.world.takes_part e
    (subst (λ (ns : List ℕ). Step c.args.home begun c.run_scoped-in-Some-Block.result d
    c.run_scoped-in-Some-Block.new.w c.args.fuel.now c.run_scoped-in-Some-Block.new.fuel l l
    (run_scoped x c.args.node.0 ns finished))
    (parts-is d c.args.home c.args.node q e) (c.run_scoped-in-Some-Block.ensures.row begun l))

pub returns-in-Some-Let-clause-row : goal.returns-in-Some-Let-clause-row
returns-in-Some-Let-clause-row c = λ begun l.
    let d = c.args.w.now in
    let x = context_in (names_of d) c.args.home.0 c.args.at in
    let e = sym (rw c.in-Some-Let.field-0-is at c.in-Some-Let.ensures.form) in
    let q = LetForm (numbers_of c.in-Some-Let.field-0-0.now) in
    Step-node c.args.home begun c.give_each.result d c.give_each.new.w c.args.fuel.now c.args.fuel.now l l c.args.at
    c.args.node q
    c.requires.world.takes_part e
    (subst (λ (ns : List ℕ). Step c.args.home begun c.give_each.result d c.give_each.new.w c.args.fuel.now
    c.args.fuel.now l l (give_each x ns finished))
    (parts-is d c.args.home c.args.node q e) (c.give_each.ensures.row begun c.args.fuel.now l))

pub returns-in-Some-Const-clause-row : goal.returns-in-Some-Const-clause-row
returns-in-Some-Const-clause-row c = λ begun l.
    let d = c.args.w.now in
    let x = context_in (names_of d) c.args.home.0 c.args.at in
    let e = sym (rw c.in-Some-Const.field-0-is at c.in-Some-Const.ensures.form) in
    let q = ConstForm (numbers_of c.in-Some-Const.field-0-0.now) in
    Step-node c.args.home begun c.give_each-in-Some-Const.result d c.give_each-in-Some-Const.new.w c.args.fuel.now
    c.args.fuel.now l l c.args.at c.args.node q
    c.requires.world.takes_part e
    (subst (λ (ns : List ℕ). Step c.args.home begun c.give_each-in-Some-Const.result d
    c.give_each-in-Some-Const.new.w c.args.fuel.now c.args.fuel.now l l (give_each x ns finished))
    (parts-is d c.args.home c.args.node q e) (c.give_each-in-Some-Const.ensures.row begun c.args.fuel.now l))

pub returns-in-Some-For-clause-row : goal.returns-in-Some-For-clause-row
returns-in-Some-For-clause-row c = λ begun l.
    let d = c.args.w.now in
    let e = sym (rw c.in-Some-For.field-0-is at c.in-Some-For.ensures.form) in
    Step-node c.args.home begun c.for_row.result d c.for_row.new.w c.args.fuel.now c.for_row.new.fuel l l c.args.at
    c.args.node
    _ c.requires.world.takes_part e (c.for_row.ensures.row _ _ _ e begun l)

pub returns-in-Some-clause-row : goal.returns-in-Some-clause-row
returns-in-Some-clause-row c = λ begun l.
    let d = c.args.w.now in
    let x = context_in (names_of d) c.args.home.0 c.args.at in
    let q = told_at d c.args.home (seen c.in-Some.form) in
    let e = sym c.in-Some.ensures.form in
    Step-node c.args.home begun (Ok c.first.result) d d c.args.fuel.now c.args.fuel.now l l c.args.at c.args.node q
    c.requires.world.takes_part e
    (Step-sure c.args.home begun d (node_form x c.args.node.0 q finished) c.first.result c.args.fuel.now l
    (c.first.ensures.row c.args.home d c.requires.context e))

pub returns-in-Some-Script-clause-keeps : goal.returns-in-Some-Script-clause-keeps
returns-in-Some-Script-clause-keeps c = λ r i h.
    let d = c.args.w.now in
    let home = c.args.home in
    let e = sym (rw c.in-Some-Script.field-0-is at c.in-Some-Script.ensures.form) in
    c.run_scoped.ensures.keeps r i (h.0, (h.1.0, (node-held d home is_list_form c.args.node.0 (ap is_list_form e), tt)))

pub returns-in-Some-Block-clause-keeps : goal.returns-in-Some-Block-clause-keeps
returns-in-Some-Block-clause-keeps c = λ r i h.
    let d = c.args.w.now in
    let home = c.args.home in
    let e = sym (rw c.in-Some-Block.field-0-is at c.in-Some-Block.ensures.form) in
    c.run_scoped-in-Some-Block.ensures.keeps r i
    (h.0, (h.1.0, (node-held d home is_list_form c.args.node.0 (ap is_list_form e), tt)))

pub returns-in-Some-Let-clause-keeps : goal.returns-in-Some-Let-clause-keeps
returns-in-Some-Let-clause-keeps c = λ r i h.
    let d = c.args.w.now in
    let home = c.args.home in
    let e = sym (rw c.in-Some-Let.field-0-is at c.in-Some-Let.ensures.form) in
    c.give_each.ensures.keeps r i
    (h.0, (h.1.0, (node-held d home is_declaring_form c.args.node.0 (ap is_declaring_form e), tt)))

pub returns-in-Some-Const-clause-keeps : goal.returns-in-Some-Const-clause-keeps
returns-in-Some-Const-clause-keeps c = λ r i h.
    let d = c.args.w.now in
    let home = c.args.home in
    let e = sym (rw c.in-Some-Const.field-0-is at c.in-Some-Const.ensures.form) in
    c.give_each-in-Some-Const.ensures.keeps r i
    (h.0, (h.1.0, (node-held d home is_declaring_form c.args.node.0 (ap is_declaring_form e), tt)))

pub returns-in-Some-For-clause-keeps : goal.returns-in-Some-For-clause-keeps
returns-in-Some-For-clause-keeps c = λ r i h.
    let d = c.args.w.now in
    let home = c.args.home in
    let e = sym (rw c.in-Some-For.field-0-is at c.in-Some-For.ensures.form) in
    let q = rw c.in-Some-For.field-0-is at c.in-Some-For.ensures.parts in
    c.for_row.ensures.keeps r i (
      h.0,
      (
        h.1.0,
        (
          node-held d home is_for_form c.args.node.0 (ap is_for_form e),
          (either-if-held d home c.in-Some-For.first q.0, tt),
        ),
      ),
    )

pub returns-in-Some-clause-keeps : goal.returns-in-Some-clause-keeps
returns-in-Some-clause-keeps c = λ r i h.
    let d = c.args.w.now in
    keeps-same c.args.home d c.first.result r
    (c.first.ensures.leaves c.args.home d h (sym c.in-Some.ensures.form) c.in-Some.ensures.parts)
