use Rattle.std.proofs.Common.{◌++◌, ◌≡◌, ◌∙◌, List, ap, arith, length, length-append, ℕ}
use Rattle.mb_eval_expr.proofs.Joining.{TextsGrew-then}
use Rattle.mb_eval_expr.proofs.Spelling.{If-before}
use Rattle.mb_world.proofs.Grow.{KeyIn-grows, TextIn-grows}
use Rattle.mb_world.proofs.Images.{key-grows}
use Rattle.mb_world.specs.Image.{Image, key_in, names_of, text_in}
use Rattle.mb_world.specs.Key.{PropertyKey}
use Rattle.mb_world.specs.Symbols.{key_name}
use Rattle.mb_eval_expr.proofs.functions.full_name.Goals as goal

pub key_name-requires-clause-key : goal.key_name-requires-clause-key
key_name-requires-clause-key c =
    KeyIn-grows c.args.w.now c.word.new.w c.in_ok-first.ensures.grew.becomes.grows c.args.key c.requires.key

pub joined-requires-clause-first : goal.joined-requires-clause-first
joined-requires-clause-first c =
    TextIn-grows c.word.new.w c.key_name.new.w c.key_name.ensures.grew.becomes.grows c.in_ok-first.first
    c.in_ok-first.ensures.within

pub returns-in_err-last-clause-grew : goal.returns-in_err-last-clause-grew
returns-in_err-last-clause-grew c =
    TextsGrew-then c.args.w.now c.word.new.w c.key_name.new.w c.in_ok-first.ensures.grew c.key_name.ensures.grew

pub returns-in-Some-clause-name : goal.returns-in-Some-clause-name
returns-in-Some-clause-name c =
    let d = c.args.w.now in
    let d1 = c.word.new.w in
    let d2 = c.key_name.new.w in
    let last = c.in-Some.last in
    let first = c.in_ok-first.first in
    let h = rw c.in-Some.is at c.in_ok-last.ensures.name in
    let t = c.in_ok-first.ensures.grew in
    let e1 : text_in (names_of d2) first ≡ c.args.prefix.now
    = c.key_name.ensures.grew.becomes.grows.same_text first c.in_ok-first.ensures.within ∙ c.in_ok-first.ensures.text in
    let k : key_in (names_of d1) c.args.key ≡ key_in (names_of d) c.args.key
    = key-grows d d1 t.becomes.grows c.args.key c.requires.key in
    If-before d d2 c.joined.new.w c.joined.result (λ g. c.args.prefix.now ++ key_name g
    (key_in (names_of d) c.args.key))
    (λ g. text_in (names_of d2) first ++ text_in (names_of d2) last) c.joined.ensures.name
    (λ log. ap (λ (x : List ℕ). x ++ text_in (names_of d2) last) e1
    ∙ ap (λ (x : List ℕ). c.args.prefix.now ++ x) (h.1 log
    ∙ ap (λ (y : PropertyKey). key_name (Image d1 log) y) k
    ∙ ap (λ g. key_name g (key_in (names_of d) c.args.key)) (t.becomes.image log)))

pub returns-in-Some-clause-grew : goal.returns-in-Some-clause-grew
returns-in-Some-clause-grew c =
    TextsGrew-then c.args.w.now c.key_name.new.w c.joined.new.w
    (TextsGrew-then c.args.w.now c.word.new.w c.key_name.new.w c.in_ok-first.ensures.grew c.key_name.ensures.grew)
    c.joined.ensures.grew

pub returns-in-None-clause-name : goal.returns-in-None-clause-name
returns-in-None-clause-name c = λ log.
    let d = c.args.w.now in
    let d1 = c.word.new.w in
    let t = c.in_ok-first.ensures.grew in
    let h = rw c.in-None.is at c.in_ok-last.ensures.name in
    let k : key_in (names_of d1) c.args.key ≡ key_in (names_of d) c.args.key
    = key-grows d d1 t.becomes.grows c.args.key c.requires.key in
    let e : key_name (Image d1 log) (key_in (names_of d1) c.args.key)
    ≡ key_name (Image d log) (key_in (names_of d) c.args.key)
    = ap (λ (y : PropertyKey). key_name (Image d1 log) y) k
    ∙ ap (λ g. key_name g (key_in (names_of d) c.args.key)) (t.becomes.image log) in
    omega (
      arith,
      h log,
      ap length e,
      length-append c.args.prefix.now
          (key_name (Image d log) (key_in (names_of d) c.args.key)),
    )

pub returns-in-None-clause-grew : goal.returns-in-None-clause-grew
returns-in-None-clause-grew c =
    TextsGrew-then c.args.w.now c.word.new.w c.key_name.new.w c.in_ok-first.ensures.grew c.key_name.ensures.grew
