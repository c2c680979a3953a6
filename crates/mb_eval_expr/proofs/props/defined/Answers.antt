use Rattle.std.proofs.Common.{refl, subst, ◌≡◌}
use Rattle.std.specs.List.{IsDistinct}
use Rattle.std.specs.Map.{keys_of}
use Rattle.mb_eval_expr.proofs.Describing.{by-accepted}
use Rattle.mb_eval_expr.proofs.Redefined.{redefined}
use Rattle.mb_frames.proofs.HeldLess.{plain-object}
use Rattle.mb_frames.proofs.Readying.{changed-same}
use Rattle.mb_ordinary.specs.Definitions.{accepted}
use Rattle.mb_props.specs.Table.{same_key}
use Rattle.mb_world.specs.declared.cell.Cell.{Cell}
use Rattle.mb_world.specs.declared.cell.CellKind.TheVariants as kind
use Rattle.mb_parts.proofs.HeldEach.{desc-each, tells-apart}
use Rattle.mb_parts.proofs.ObjectChanged.{held-cell}
use Rattle.mb_eval_expr.proofs.props.defined.Goals as goal

pub define-requires-clause-object : goal.define-requires-clause-object
define-requires-clause-object c =
    let q = held-cell c.args.w.now c.args.home kind.Plain c.args.object c.requires.holds.0.sound in
    rw (q.1, q.3) refl

pub define-requires-clause-desc : goal.define-requires-clause-desc
define-requires-clause-desc c =
    let h = c.requires.holds.1.0.within in
    record { value_in = h.value_in; get_in = h.get_in; set_in = h.set_in }

pub define-requires-clause-kind : goal.define-requires-clause-kind
define-requires-clause-kind c = c.requires.holds.1.0.sound.0

pub returns-in_err-define-clause-changed : goal.returns-in_err-define-clause-changed
returns-in_err-define-clause-changed c = rw c.in_err-define.ensures.kept
    (changed-same c.args.home c.args.w.now c.requires.ready)

pub returns-clause-stored : goal.returns-clause-stored
returns-clause-stored c =
    let d = c.args.w.now in
    let home = c.args.home in
    let q = held-cell d home kind.Plain c.args.object c.requires.holds.0.sound in
    let a = tells-apart d c.requires.ready home c.args.object c.args.key c.args.desc
    (plain-object d home c.args.object c.requires.holds.0) (desc-each d home c.args.desc c.requires.holds.1.0) in
    by-accepted d c.define.new.w home c.args.object q.0 q.1 q.3 c.args.key c.args.desc c.requires.ready.ids
    (accepted d c.args.object c.args.key c.args.desc) c.in_ok-define.ensures.put
    (rw c.in_ok-define.ensures.answer at (c.in_ok-define.ensures.meant a))

pub returns-clause-changed : goal.returns-clause-changed
returns-clause-changed c =
    let d = c.args.w.now in
    let home = c.args.home in
    let o = c.requires.holds.0 in
    let h = c.requires.holds.1.0 in
    let q = held-cell d home kind.Plain c.args.object o.sound in
    let a = tells-apart d c.requires.ready home c.args.object c.args.key c.args.desc
    (plain-object d home c.args.object o)
    (desc-each d home c.args.desc h) in
    let e : c.cell.result.now ≡ q.0 = (let z = c.cell.ensures.value in let y = q.1 in cc) in
    redefined d c.define.new.w c.requires.ready home c.args.object q.0 c.args.key c.args.desc
    c.texts-texts.ensures.distinct
    q.1 q.3 q.2 (subst (λ (x : Cell). IsDistinct same_key (keys_of x.props)) e c.get-there.ensures.distinct)
    c.requires.key o h
    (accepted d c.args.object c.args.key c.args.desc) refl c.in_ok-define.ensures.put
    (rw c.in_ok-define.ensures.answer at (c.in_ok-define.ensures.meant a))
