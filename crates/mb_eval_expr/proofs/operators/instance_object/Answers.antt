use Rattle.mb_base.specs.declared.value.Value.TheVariants as v
use Rattle.mb_frames.specs.declared.task.Method.TheVariants as m
use Rattle.mb_frames.specs.declared.expressions.ExprFrame.TheVariants as e
use Rattle.mb_world.specs.Data.{Data}
use Rattle.std.proofs.lemmas.Result.{err_from_is_err_and}
use Rattle.mb_frames.specs.Ready.{Changed}
use Rattle.mb_parts.proofs.Texting.{texts-changed}
use Rattle.mb_eval_expr.proofs.Keeping.{kept-now, kept-still, stays, waits-asks}
use Rattle.std.proofs.Common.{◌≡◌, refl}
use Rattle.mb_base.specs.declared.value.Key.TheVariants as k
use Rattle.mb_text.specs.Index.{index_of}
use Rattle.mb_text.specs.Texts.{text_at}
use Rattle.mb_eval_expr.proofs.Operating.{Part-instance}
use Rattle.mb_frames.proofs.HeldLess.{key-held, object-value}
use Rattle.mb_eval_expr.proofs.operators.instance_object.Goals as goal

pub returns-clause-row : goal.returns-clause-row
returns-clause-row c = λ f.
    let h : c.key-key.result ≡ k.Text c.in_ok-text.text (index_of (text_at c.word.new.w.texts c.in_ok-text.text)) =
    cc in
    Part-instance c.args.home c.args.w.now c.word.new.w f c.in_ok-text.ensures.grew c.args.object c.args.function
    c.in_ok-text.text
    c.key-key.result c.asks.result c.in_ok-text.ensures.text c.in_ok-text.ensures.within h
    c.requires.object c.requires.function c.asks.ensures

pub returns-clause-keeps : goal.returns-clause-keeps
returns-clause-keeps c = λ r i h.
    let d = c.args.w.now in
    let d' : Data = c.word.new.w in
    let o = c.args.home in
    let q : c.key-key.result ≡ k.Text c.in_ok-text.text (index_of (text_at c.word.new.w.texts c.in_ok-text.text)) =
    cc in
    let g : Changed o d d' = texts-changed o d d' c.in_ok-text.ensures.grew r in
    rw c.asks.ensures (kept-now o d d' g
    (waits-asks d' o (e.InstancePrototype c.args.object) (m.Get c.key-key.result (v.Object c.args.function))
    c.args.function
    refl (stays o d d' g r h.0, tt) (stays o d d' g r h.1.0) (
      key-held d' o c.key-key.result (rw q (c.in_ok-text.ensures.within, refl)),
      (object-value d' o c.args.function (stays o d d' g r h.1.0), tt),
    )))

pub returns-in_err-text-clause-keeps : goal.returns-in_err-text-clause-keeps
returns-in_err-text-clause-keeps c =
    let p = err_from_is_err_and c.from_residual.result c.from_residual.ensures.1 in
    rw (p.1, c.in_err-text.ensures.kept) (λ r i h. kept-still c.args.home c.args.w.now r)
