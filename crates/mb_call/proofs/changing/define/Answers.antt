use Rattle.std.proofs.Common.{Ok, ap, subst, sym, ◌∙◌, ◌≡◌}
use Rattle.std.proofs.lemmas.Result.{err_from_is_err_and}
use Rattle.mb_call.proofs.Settling.{answer-changed, answer-part, kind-meant, kind-same, object-is, range-same}
use Rattle.mb_call.proofs.Things.{no-membrane}
use Rattle.mb_call.proofs.changing.define.Goals as goal
use Rattle.mb_frames.proofs.Keeping.{keeps-halted, keeps-left}
use Rattle.mb_frames.proofs.Passed.{Part-by}
use Rattle.mb_frames.proofs.Readying.{changed-same}
use Rattle.mb_frames.specs.Passing.{Part}
use Rattle.mb_frames.specs.Ready.{KeepsBy}
use Rattle.mb_frames.specs.Sorts.{AFlag}
use Rattle.mb_model.specs.Meaning.{finished}
use Rattle.mb_model.specs.Objects.Methods.{settled}
use Rattle.mb_model.specs.Writing.{fail}
use Rattle.mb_parts.proofs.ArrayLength.{array-length}
use Rattle.mb_parts.proofs.HeldEach.{desc-each, tells-apart}
use Rattle.mb_world.specs.Arrays.{defined}
use Rattle.mb_world.specs.Data.{Data, cell_at}
use Rattle.mb_world.specs.Graph.{Thing}
use Rattle.mb_world.specs.Image.{Image, Resolve, desc_in, key_in, names_of, object_in, object_of}
use Rattle.mb_world.specs.declared.cell.ErrorKind.TheVariants.{TypeError}

pub define_any-requires-clause-desc : goal.define_any-requires-clause-desc
define_any-requires-clause-desc c =
    let w = c.requires.acts.holds.1.1.0.within in
    record { value_in = w.value_in; get_in = w.get_in; set_in = w.set_in }

pub define_any-requires-clause-kind : goal.define_any-requires-clause-kind
define_any-requires-clause-kind c = c.requires.acts.holds.1.1.0.sound.0

pub define_any-requires-clause-length : goal.define_any-requires-clause-length
define_any-requires-clause-length c = λ x e a.
    array-length c.args.w.now c.texts-texts.ensures.distinct c.requires.acts.ready c.args.object x e a

pub define_any-requires-clause-apart : goal.define_any-requires-clause-apart
define_any-requires-clause-apart c =
    let d = c.args.w.now in
    let a = c.requires.acts in
    tells-apart d a.ready c.args.home c.args.object c.args.key c.args.given a.holds.0
    (desc-each d c.args.home c.args.given a.holds.1.1.0)

pub returns-in-Answer-clause-part : goal.returns-in-Answer-clause-part
returns-in-Answer-clause-part c = λ viewer f t e.
    let d = c.args.w.now in
    let n = names_of d in
    let a = c.requires.acts in
    let k = c.cell.result.now in
    let there = c.cell.ensures.value in
    let o = rw there at c.requires.ordinary in
    let s = c.in_ok-defined.ensures in
    subst (λ (x : Thing). Part c.args.home (Ok c.yes_or_no.result) d c.define_any.new.w f f
    (settled c.args.home.0 (object_in n c.args.object)
    (defined x (key_in n c.args.key) (desc_in (Resolve n) c.args.given)) finished))
    (object-is n (cell_at d c.args.object) k t there e)
    (answer-part d c.define_any.new.w a.ready c.args.home c.args.object a.holds.0 k there
    c.texts-texts.ensures.distinct c.get-there.ensures.distinct c.args.key a.holds.1.0.within c.args.given
    a.holds.1.1.0 o
    (no-membrane d a.ready c.args.home c.args.object a.holds.0 k there o) s.cell s.rest s.unchanged s.objects
    c.texts-after.ensures.ids c.in-Answer.answer (sym s.answer ∙ c.in-Answer.is) c.yes_or_no.result f
    (λ x. c.yes_or_no.ensures.sure c.args.home x))

pub returns-in-Answer-clause-keeps : goal.returns-in-Answer-clause-keeps
returns-in-Answer-clause-keeps c =
    let d = c.args.w.now in
    let a = c.requires.acts in
    let k = c.cell.result.now in
    let there = c.cell.ensures.value in
    let o = rw there at c.requires.ordinary in
    let s = c.in_ok-defined.ensures in
    keeps-left c.args.home AFlag c.yes_or_no.result d c.define_any.new.w
    (answer-changed d c.define_any.new.w a.ready c.args.home c.args.object a.holds.0 k there
    c.texts-texts.ensures.distinct c.get-there.ensures.distinct c.args.key a.holds.1.0.within c.args.given
    a.holds.1.1.0 o
    (no-membrane d a.ready c.args.home c.args.object a.holds.0 k there o) s.cell s.rest s.unchanged s.objects
    c.texts-after.ensures.ids c.in-Answer.answer (sym s.answer ∙ c.in-Answer.is))
    (c.yes_or_no.ensures.leaves c.args.home c.define_any.new.w)

pub returns-in_err-defined-clause-keeps : goal.returns-in_err-defined-clause-keeps
returns-in_err-defined-clause-keeps c =
    let d = c.args.w.now in
    let p = err_from_is_err_and c.from_residual.result c.from_residual.ensures.1 in
    rw (p.1, c.in_err-defined.ensures.kept)
    (keeps-halted c.args.home AFlag p.0 d d (changed-same c.args.home d c.requires.acts.ready))

pub returns-in-Range-clause-keeps : goal.returns-in-Range-clause-keeps
returns-in-Range-clause-keeps c =
    let d = c.args.w.now in
    let a = c.requires.acts in
    let k = c.cell.result.now in
    let there = c.cell.ensures.value in
    let o = rw there at c.requires.ordinary in
    let s = c.in_ok-defined.ensures in
    let same : c.define_any.new.w ≡ d
    = range-same d c.define_any.new.w a.ready c.args.home c.args.object a.holds.0 k there
    c.texts-texts.ensures.distinct c.get-there.ensures.distinct c.args.key a.holds.1.0.within c.args.given
    a.holds.1.1.0 o
    (no-membrane d a.ready c.args.home c.args.object a.holds.0 k there o) s.cell s.rest s.unchanged s.objects
    c.texts-after.ensures.ids (sym s.answer ∙ c.in-Range.is) in
    subst (λ (x : Data). KeepsBy c.args.home AFlag c.throws.result x c.throws.new.w) same (c.throws.ensures.keeps AFlag)

pub returns-in-Kind-clause-part : goal.returns-in-Kind-clause-part
returns-in-Kind-clause-part c = λ viewer f t e.
    let d = c.args.w.now in
    let a = c.requires.acts in
    let k = c.cell.result.now in
    let there = c.cell.ensures.value in
    let o = rw there at c.requires.ordinary in
    let s = c.in_ok-defined.ensures in
    let n = names_of d in
    let same : c.define_any.new.w ≡ d
    = kind-same d c.define_any.new.w a.ready c.args.home c.args.object a.holds.0 k there
    c.texts-texts.ensures.distinct c.get-there.ensures.distinct c.args.key a.holds.1.0.within c.args.given
    a.holds.1.1.0 o
    (no-membrane d a.ready c.args.home c.args.object a.holds.0 k there o) s.cell s.rest s.unchanged s.objects
    c.texts-after.ensures.ids (sym s.answer ∙ c.in-Kind.is) in
    let meant = kind-meant d c.define_any.new.w a.ready c.args.home c.args.object a.holds.0 k there
    c.texts-texts.ensures.distinct c.get-there.ensures.distinct c.args.key a.holds.1.0.within c.args.given
    a.holds.1.1.0 o
    (no-membrane d a.ready c.args.home c.args.object a.holds.0 k there o) s.cell s.rest s.unchanged s.objects
    c.texts-after.ensures.ids (sym s.answer ∙ c.in-Kind.is) in
    subst (λ (x : Thing). Part c.args.home c.throws-in-Kind.result d c.throws-in-Kind.new.w f f
    (settled c.args.home.0 (object_in n c.args.object)
    (defined x (key_in n c.args.key) (desc_in (Resolve n) c.args.given)) finished))
    (object-is n (cell_at d c.args.object) k t there e)
    (subst (λ (y : Data). Part c.args.home c.throws-in-Kind.result y c.throws-in-Kind.new.w f f
    (settled c.args.home.0 (object_in n c.args.object)
    (defined (object_of n k) (key_in n c.args.key) (desc_in (Resolve n) c.args.given)) finished))
    same
    (Part-by c.args.home c.throws-in-Kind.result c.define_any.new.w c.throws-in-Kind.new.w f f
    (settled c.args.home.0 (object_in n c.args.object)
    (defined (object_of n k) (key_in n c.args.key) (desc_in (Resolve n) c.args.given)) finished)
    (fail c.args.home.0 TypeError finished)
    (λ log. ap (λ z. settled c.args.home.0 (object_in n c.args.object) z finished (Image c.define_any.new.w log)) meant)
    (c.throws-in-Kind.ensures.part f)))

pub returns-in-Kind-clause-keeps : goal.returns-in-Kind-clause-keeps
returns-in-Kind-clause-keeps c =
    let d = c.args.w.now in
    let a = c.requires.acts in
    let k = c.cell.result.now in
    let there = c.cell.ensures.value in
    let o = rw there at c.requires.ordinary in
    let s = c.in_ok-defined.ensures in
    let same : c.define_any.new.w ≡ d
    = kind-same d c.define_any.new.w a.ready c.args.home c.args.object a.holds.0 k there
    c.texts-texts.ensures.distinct c.get-there.ensures.distinct c.args.key a.holds.1.0.within c.args.given
    a.holds.1.1.0 o
    (no-membrane d a.ready c.args.home c.args.object a.holds.0 k there o) s.cell s.rest s.unchanged s.objects
    c.texts-after.ensures.ids (sym s.answer ∙ c.in-Kind.is) in
    subst (λ (x : Data). KeepsBy c.args.home AFlag c.throws-in-Kind.result x c.throws-in-Kind.new.w) same
    (c.throws-in-Kind.ensures.keeps AFlag)
