use Rattle.std.proofs.Common.{[], ap, sym, ◌∙◌, ◌∷◌}
use Rattle.std.proofs.lemmas.Result.{err_from_is_err_and}
use Rattle.mb_base.specs.declared.value.Value.TheVariants as v
use Rattle.mb_frames.proofs.HeldLess.{text-value-held}
use Rattle.mb_frames.proofs.Passed.{Part-by}
use Rattle.mb_frames.specs.Held.{HeldValue, HeldValues}
use Rattle.mb_frames.specs.Resolved.{values_in}
use Rattle.mb_intrinsics.proofs.Sides.{given-after, halted}
use Rattle.mb_intrinsics.proofs.Stepped.{first-held}
use Rattle.mb_intrinsics.proofs.Symbols.{head-is, none-is, string-value, text-given}
use Rattle.mb_intrinsics.specs.machine.Acting.{Acting}
use Rattle.mb_model.specs.BuiltIns.Basics.{string, symbol_string, value_string}
use Rattle.mb_model.specs.Meaning.{finished}
use Rattle.mb_model.specs.Task.{Answer}
use Rattle.mb_model.specs.Writing.{Does, is_value}
use Rattle.mb_parts.proofs.Texting.{texts-changed}
use Rattle.mb_world.specs.Image.{Image, Resolve, names_of}
use Rattle.mb_world.specs.Value.{Text}
use Rattle.mb_intrinsics.proofs.basics.string.Goals as goal

pub returns-in_err-word-in-None-clause-keeps : goal.returns-in_err-word-in-None-clause-keeps
returns-in_err-word-in-None-clause-keeps c =
    let p = err_from_is_err_and c.from_residual.result c.from_residual.ensures.1 in
    rw (p.1, c.in_err-word-in-None.ensures.kept)
    (halted c.args.w.now c.args.home (HeldValues c.args.arguments.now ∷ []) c.requires.acting p.0)

pub returns-in_ok-word-in-None-clause-row : goal.returns-in_ok-word-in-None-clause-row
returns-in_ok-word-in-None-clause-row c = λ f.
    let d = c.args.w.now in
    let d1 = c.word.new.w in
    let home = c.args.home in
    let xs = c.args.arguments.now in
    let text = c.in_ok-word-in-None.field-0 in
    rw c.value.ensures
    (text-given home d d1 f text (string home.0 (values_in (names_of d) xs) finished) c.in_ok-word-in-None.ensures.grew
    c.in_ok-word-in-None.ensures.within
    (λ log. ap (λ ys. string home.0 (values_in (names_of d) ys) finished (Image d log))
    (none-is xs (sym c.at.ensures ∙ c.in-None.is))
    ∙ ap (λ u. is_value (Text u) finished (Image d log)) (sym c.in_ok-word-in-None.ensures.text)))

pub returns-in_ok-word-in-None-clause-keeps : goal.returns-in_ok-word-in-None-clause-keeps
returns-in_ok-word-in-None-clause-keeps c =
    let d = c.args.w.now in
    let d1 = c.word.new.w in
    let home = c.args.home in
    let text = c.in_ok-word-in-None.field-0 in
    rw c.value.ensures
    (given-after d home (HeldValues c.args.arguments.now ∷ []) c.requires.acting d1
    (texts-changed home d d1 c.in_ok-word-in-None.ensures.grew c.requires.acting.ready) (v.Text text)
    (text-value-held d1 home text c.in_ok-word-in-None.ensures.within))

pub returns-in-Symbol-clause-row : goal.returns-in-Symbol-clause-row
returns-in-Symbol-clause-row c = λ f.
    let d = c.args.w.now in
    let n = names_of d in
    let home = c.args.home in
    let xs = c.args.arguments.now in
    let h = head-is xs c.in-Some.x (sym c.at.ensures ∙ c.in-Some.is) in
    Part-by home c.described.result d c.described.new.w f f (string home.0 (values_in n xs) finished)
    (symbol_string home.0 c.in-Symbol.symbol.0 finished)
    (λ log. ap (λ ys. string home.0 (values_in n ys) finished (Image d log)) h.1
    ∙ ap (λ y. string home.0 (Resolve n y ∷ values_in n h.0) finished (Image d log)) c.in-Symbol.is)
    (c.described.ensures.row f)

pub value_string-requires : goal.value_string-requires
value_string-requires c =
    let d = c.args.w.now in
    let home = c.args.home in
    let h = first-held d home c.args.arguments.now c.requires.acting.holds.0 in
    let k = rw (← c.at.ensures, c.in-Some.is) at h in
    let a : Acting d home (HeldValue c.in-Some.x ∷ []) = record {
      ready = c.requires.acting.ready;
      takes_part = c.requires.acting.takes_part;
      holds = (k, tt);
    } in
    record { acting = a }

pub returns-in_default-clause-row : goal.returns-in_default-clause-row
returns-in_default-clause-row c = λ f.
    let d = c.args.w.now in
    let n = names_of d in
    let home = c.args.home in
    let xs = c.args.arguments.now in
    let h = head-is xs c.in-Some.x (sym c.at.ensures ∙ c.in-Some.is) in
    Part-by home c.value_string.result d c.value_string.new.w f f (string home.0 (values_in n xs) finished)
    (value_string home.0 (Resolve n c.in-Some.x) finished)
    (λ log. ap (λ ys. string home.0 (values_in n ys) finished (Image d log)) h.1
    ∙ ap (λ (y : Does Answer). y finished (Image d log))
    (string-value n home.0 c.in-Some.x (values_in n h.0) c.in_default.not-Symbol))
    (c.value_string.ensures.row f)
