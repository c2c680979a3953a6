use Rattle.std.proofs.Common.{List, ap, false, refl, sym, ℕ, ◌∙◌, ◌≡◌}
use Rattle.mb_eval_expr.proofs.Referring.{text-none, text-unit}
use Rattle.mb_model.specs.Operations.Calls.{is_length, text_index, text_property}
use Rattle.mb_ordinary.proofs.Spelled.{index_if, index_in, key-index}
use Rattle.mb_world.specs.Image.{key_in, names_of, text_in}
use Rattle.mb_world.specs.Key.{PropertyKey, index_of_key}
use Rattle.mb_world.specs.Value.{Text}
use Rattle.mb_eval_expr.proofs.properties.text_property.Goals as goal

no-length : (t : List ℕ) (k : PropertyKey) → is_length k ≡ false → text_property t k ≡ text_index t (index_of_key k)
no-length t k e = rw e refl

pub returns-in_ok-word-in-Some-clause-value : goal.returns-in_ok-word-in-Some-clause-value
returns-in_ok-word-in-Some-clause-value c =
    let d = c.args.w.now in
    let n = names_of d in
    let t = text_in n c.args.text in
    let l : is_length (key_in n c.args.key) ≡ false
    = ap (λ k. is_length (key_in n k)) c.in-Text.is ∙ sym c.is_length.ensures ∙ c.if-is_length.false in
    let i : index_of_key (key_in n c.args.key) ≡ index_if c.in-Text.index
    = key-index d c.args.key c.requires.key ∙ ap index_in c.in-Text.is in
    ap Text c.in_ok-word-in-Some.ensures.text
    ∙ sym (no-length t (key_in n c.args.key) l ∙ ap (text_index t) i
    ∙ text-unit t (index_if c.in-Text.index) c.in-Some.unit (sym c.unit_at.ensures ∙ c.in-Some.is))

pub returns-in-None-clause-value : goal.returns-in-None-clause-value
returns-in-None-clause-value c =
    let d = c.args.w.now in
    let n = names_of d in
    let t = text_in n c.args.text in
    let l : is_length (key_in n c.args.key) ≡ false
    = ap (λ k. is_length (key_in n k)) c.in-Text.is ∙ sym c.is_length.ensures ∙ c.if-is_length.false in
    let i : index_of_key (key_in n c.args.key) ≡ index_if c.in-Text.index
    = key-index d c.args.key c.requires.key ∙ ap index_in c.in-Text.is in
    sym (no-length t (key_in n c.args.key) l ∙ ap (text_index t) i
    ∙ text-none t (index_if c.in-Text.index) (sym c.unit_at.ensures ∙ c.in-None.is))
