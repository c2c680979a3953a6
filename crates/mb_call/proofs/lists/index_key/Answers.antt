use Rattle.std.proofs.Common.{List, ap, arith, w64, ◌∙◌, ◌≡◌, ℕ}
use Rattle.std.proofs.lemmas.Int.{to_z_pos}
use Rattle.mb_base.specs.declared.value.Key.TheVariants as k
use Rattle.mb_call.proofs.lists.index_key.Goals as goal
use Rattle.mb_text.specs.Index.{index_of}
use Rattle.mb_text.specs.Texts.{text_at}
use Rattle.mb_world.specs.Key.{Named}
use Rattle.mb_world.specs.Value.{whole_text}

pub returns-clause-key : goal.returns-clause-key
returns-clause-key c =
    let d' = c.digits.new.w in
    let text = c.in_ok-text.text in
    let e : c.key.result ≡ k.Text text (index_of (text_at d'.texts text))
    = c.key.ensures ∙ ap (λ (ts : List (List ℕ)). k.Text text (index_of (text_at ts text))) c.texts.ensures.value in
    rw e (ap Named (c.in_ok-text.ensures.text ∙ ap whole_text (to_z_pos w64 c.args.place (omega arith))))
