use Rattle.std.proofs.Common.{◌++◌, ◌≡◌, ◌∙◌, ◌∷◌, List, Some, [], ap, arith, length, length-append, ℕ}
use Rattle.mb_eval_expr.proofs.Joining.{TextsGrew-then}
use Rattle.mb_eval_expr.proofs.Spelling.{If-before}
use Rattle.mb_parts.proofs.Writing.{TextsGrew-same}
use Rattle.mb_world.proofs.Grow.{TextIn-grows}
use Rattle.mb_world.specs.Image.{names_of, text_in}
use Rattle.mb_world.specs.Symbols.{bracketed}
use Rattle.mb_eval_expr.proofs.functions.bracketed.Goals as goal

pub joined-requires-clause-second : goal.joined-requires-clause-second
joined-requires-clause-second c =
    TextIn-grows c.args.w.now c.word.new.w c.in_ok-open.ensures.grew.becomes.grows c.args.text c.requires.text

pub returns-in_err-open-clause-grew : goal.returns-in_err-open-clause-grew
returns-in_err-open-clause-grew c = rw c.in_err-open.ensures.kept (TextsGrew-same c.args.w.now c.requires.ids)

pub returns-in_err-half-clause-grew : goal.returns-in_err-half-clause-grew
returns-in_err-half-clause-grew c =
    TextsGrew-then c.args.w.now c.word.new.w c.joined.new.w c.in_ok-open.ensures.grew c.joined.ensures.grew

pub returns-in_err-close-in-Some-clause-grew : goal.returns-in_err-close-in-Some-clause-grew
returns-in_err-close-in-Some-clause-grew c =
    rw c.in_err-close-in-Some.ensures.kept
    (TextsGrew-then c.args.w.now c.word.new.w c.joined.new.w c.in_ok-open.ensures.grew c.joined.ensures.grew)

pub returns-in_ok-close-in-Some-clause-name : goal.returns-in_ok-close-in-Some-clause-name
returns-in_ok-close-in-Some-clause-name c =
    let d = c.args.w.now in
    let d1 = c.word.new.w in
    let d2 = c.joined.new.w in
    let d3 = c.word-in-Some.new.w in
    let half = c.in-Some.half in
    let close = c.in_ok-close-in-Some.close in
    let h = rw c.in-Some.is at c.in_ok-half.ensures.name in
    let x : List ℕ = text_in (names_of d) c.args.text in
    let e1 : text_in (names_of d1) c.args.text ≡ x = c.in_ok-open.ensures.grew.becomes.grows.same_text c.args.text
    c.requires.text in
    let e2 : text_in (names_of d2) half ≡ (91 ∷ []) ++ x
    = h.1 [] ∙ ap (λ (y : List ℕ). y ++ text_in (names_of d1) c.args.text) c.in_ok-open.ensures.text
    ∙ ap (λ (y : List ℕ). (91 ∷ []) ++ y) e1 in
    let e3 : text_in (names_of d3) half ≡ (91 ∷ []) ++ x
    = c.in_ok-close-in-Some.ensures.grew.becomes.grows.same_text half h.0 ∙ e2 in
    If-before d d3 c.joined-in-Some.new.w c.joined-in-Some.result (λ g. bracketed (Some x))
    (λ g. text_in (names_of d3) half ++ text_in (names_of d3) close) c.joined-in-Some.ensures.name
    (λ log. ap (λ (y : List ℕ). y ++ text_in (names_of d3) close) e3
    ∙ ap (λ (y : List ℕ). ((91 ∷ []) ++ x) ++ y) c.in_ok-close-in-Some.ensures.text)

pub returns-in_ok-close-in-Some-clause-grew : goal.returns-in_ok-close-in-Some-clause-grew
returns-in_ok-close-in-Some-clause-grew c =
    let d = c.args.w.now in
    let d1 = c.word.new.w in
    let d2 = c.joined.new.w in
    let d3 = c.word-in-Some.new.w in
    TextsGrew-then d d2 c.joined-in-Some.new.w (TextsGrew-then d d1 d2 c.in_ok-open.ensures.grew c.joined.ensures.grew)
    (TextsGrew-then d2 d3 c.joined-in-Some.new.w c.in_ok-close-in-Some.ensures.grew c.joined-in-Some.ensures.grew)

pub returns-in-None-clause-name : goal.returns-in-None-clause-name
returns-in-None-clause-name c = λ log.
    let d = c.args.w.now in
    let d1 = c.word.new.w in
    let h = rw c.in-None.is at c.in_ok-half.ensures.name in
    let x : List ℕ = text_in (names_of d) c.args.text in
    let e1 : text_in (names_of d1) c.args.text ≡ x = c.in_ok-open.ensures.grew.becomes.grows.same_text c.args.text
    c.requires.text in
    let e2 : text_in (names_of d1) c.in_ok-open.open ++ text_in (names_of d1) c.args.text ≡ (91 ∷ []) ++ x
    = ap (λ (y : List ℕ). y ++ text_in (names_of d1) c.args.text) c.in_ok-open.ensures.text
    ∙ ap (λ (y : List ℕ). (91 ∷ []) ++ y) e1 in
    omega (arith, h log, ap length e2, length-append ((91 ∷ []) ++ x) (93 ∷ []))

pub returns-in-None-clause-grew : goal.returns-in-None-clause-grew
returns-in-None-clause-grew c =
    TextsGrew-then c.args.w.now c.word.new.w c.joined.new.w c.in_ok-open.ensures.grew c.joined.ensures.grew
