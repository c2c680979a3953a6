use Rattle.std.proofs.Common.{◌+◌, ◌≡◌, ◌∙◌, refl, List, None, Some, [], ap, arith, length, sym, true, ℕ}
use Rattle.std.proofs.lemmas.Result.{err_from_is_err_and}
use Rattle.mb_parts.proofs.Writing.{Acts-texts}
use Rattle.mb_eval_expr.specs.machine.Functions.{named_row}
use Rattle.mb_frames.proofs.Passed.{Part-by, Part-passed, Part-unpaid, Passes-paid, Passes-texts}
use Rattle.mb_frames.specs.Resolved.{context_in}
use Rattle.mb_frames.specs.Stepping.{charged_by}
use Rattle.mb_model.specs.Meaning.{finished}
use Rattle.mb_model.specs.Nodes.Literals.{function_row}
use Rattle.mb_model.specs.Nodes.Scopes.{code}
use Rattle.mb_model.specs.Operations.Makings.{make_function}
use Rattle.mb_model.specs.Writing.{◌>>=◌, is_value}
use Rattle.mb_world.specs.Data.{Data}
use Rattle.mb_world.specs.Image.{Image, names_of, text_in}
use Rattle.mb_eval_expr.proofs.Keeping.{kept-still, kept-then, stays}
use Rattle.mb_parts.proofs.Texting.{texts-changed}
use Rattle.mb_frames.proofs.HeldLess.{text-if-held, text-held}
use Rattle.mb_frames.proofs.Keeping.{inside-still}
use Rattle.mb_eval_expr.proofs.functions.function_row.Goals as goal

pub made-requires-clause-acts : goal.made-requires-clause-acts
made-requires-clause-acts c =
    Acts-texts c.args.w.now c.word.new.w c.args.home c.in_ok-name-in-None.ensures.grew c.requires.acts

pub made-requires-clause-scope : goal.made-requires-clause-scope
made-requires-clause-scope c = rw c.in_ok-name-in-None.ensures.grew.texts c.requires.at.0

pub returns-in_err-charge-in-Some-clause-row : goal.returns-in_err-charge-in-Some-clause-row
returns-in_err-charge-in-Some-clause-row c = λ parts e.
    let d = c.args.w.now in
    let n = names_of d in
    let p = err_from_is_err_and c.from_residual.result c.from_residual.ensures.1 in
    rw (p.1, p.2, c.in_err-charge-in-Some.ensures.kept, c.in-Some.is)
    (Part-unpaid c.args.home d 1 c.args.fuel.now
    (named_row c.args.home.0 c.args.at.scope.0 c.args.node.0 (length parts.params) (text_in n c.in-Some.name) finished)
    (c.in_err-charge-in-Some.ensures.spent.0 refl))

pub returns-in_ok-charge-in-Some-clause-row : goal.returns-in_ok-charge-in-Some-clause-row
returns-in_ok-charge-in-Some-clause-row c = λ parts e.
    let d = c.args.w.now in
    let n = names_of d in
    let home = c.args.home in
    let f = c.args.fuel.now in
    let k = c.charge.new.self in
    let x = text_in n c.in-Some.name in
    let q = named_row home.0 c.args.at.scope.0 c.args.node.0 c.args.params x finished in
    let p = function_row (context_in n home.0 c.args.at) c.args.node.0 parts (Some x) finished in
    let u : k + 1 ≡ f = omega (arith, c.in_ok-charge-in-Some.ensures.paid) in
    rw c.in-Some.is
    (Part-by home c.named_function.result d c.named_function.new.w f k p (charged_by 1 q)
    (λ log. ap (λ (m : ℕ). charged_by 1 (named_row home.0 c.args.at.scope.0 c.args.node.0 m x finished)
    (Image d log)) e)
    (Part-passed home c.named_function.result d d c.named_function.new.w f k k (charged_by 1 q) q
    (Passes-paid d 1 f k q u) (c.named_function.ensures.row k)))

pub returns-in_ok-name-in-None-clause-row : goal.returns-in_ok-name-in-None-clause-row
returns-in_ok-name-in-None-clause-row c = λ parts e.
    let d = c.args.w.now in
    let d' : Data = c.word.new.w in
    let f = c.args.fuel.now in
    let t = c.in_ok-name-in-None.ensures.grew in
    let s = c.args.home.0 in
    let k = code s c.args.node.0 c.args.at.scope.0 true None in
    let p = function_row (context_in (names_of d) s c.args.at) c.args.node.0 parts None finished in
    let q = (make_function k None c.args.params (text_in (names_of d') c.in_ok-name-in-None.name) >>= is_value)
    finished in
    rw c.in-None.is
    (Part-passed c.args.home c.made.result d d' c.made.new.w f f f p q
    (Passes-texts d d' f p q t
    (λ log. ap (λ (m : ℕ). (make_function k None m [] >>= is_value) finished (Image d log)) e
    ∙ ap (λ (x : List ℕ). (make_function k None c.args.params x >>= is_value) finished (Image d log))
    (sym c.in_ok-name-in-None.ensures.text)))
    (c.made.ensures.row f))

pub returns-in_err-name-in-None-clause-keeps : goal.returns-in_err-name-in-None-clause-keeps
returns-in_err-name-in-None-clause-keeps c =
    let q = c.from_residual-in_err-name-in-None in
    let p = err_from_is_err_and q.result q.ensures.1 in
    rw (p.1, c.in_err-name-in-None.ensures.kept) (λ r i h. kept-still c.args.home c.args.w.now r)

pub returns-in_ok-name-in-None-clause-keeps : goal.returns-in_ok-name-in-None-clause-keeps
returns-in_ok-name-in-None-clause-keeps c = λ r i h.
    let d = c.args.w.now in
    let d' : Data = c.word.new.w in
    let home = c.args.home in
    let g = texts-changed home d d' c.in_ok-name-in-None.ensures.grew r in
    kept-then home d d' g c.made.new.w
    (c.made.ensures.keeps g.ready (inside-still home d d' g i) (
      stays home d d' g r h.1.0,
      (
        stays home d d' g r h.0,
        (
          text-if-held d' home None tt,
          (text-held d' home c.in_ok-name-in-None.name c.in_ok-name-in-None.ensures.within, tt),
        ),
      ),
    ))

pub returns-in_err-charge-in-Some-clause-keeps : goal.returns-in_err-charge-in-Some-clause-keeps
returns-in_err-charge-in-Some-clause-keeps c = λ r i h.
    let p = err_from_is_err_and c.from_residual.result c.from_residual.ensures.1 in
    rw p.1 (kept-still c.args.home c.args.w.now r)

pub returns-in_ok-charge-in-Some-clause-keeps : goal.returns-in_ok-charge-in-Some-clause-keeps
returns-in_ok-charge-in-Some-clause-keeps c = λ r i h.
    c.named_function.ensures.keeps r i
    (h.0, (text-held c.args.w.now c.args.home c.in-Some.name (rw c.in-Some.is at c.requires.name), h.1))
