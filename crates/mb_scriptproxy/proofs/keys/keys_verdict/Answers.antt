use Rattle.std.proofs.Common.{List, ap, sym, ◌∙◌}
use Rattle.mb_base.specs.declared.value.Key.{Key}
use Rattle.mb_check.specs.Rules.{own_keys}
use Rattle.mb_check.specs.Values.{same_key}
use Rattle.mb_scriptproxy.proofs.KeyVerdicts.{own-keys-same}
use Rattle.mb_scriptproxy.proofs.keys.keys_verdict.Goals as goal

pub returns : goal.returns
returns c = λ d distinct i.
    let at = c.args.at.now in
    let said = c.in_ok-said.said.items in
    let fixed = c.in_ok-fixed.fixed.items in
    let loose = c.in_ok-loose.loose.items in
    let ext = at.extensible in
    c.own_keys.ensures
    ∙ ap (λ (xs : List Key). own_keys same_key xs c.deref-2.result.now c.deref-3.result.now ext) c.deref.ensures.value
    ∙ ap (λ (xs : List Key). own_keys same_key said xs c.deref-3.result.now ext) c.deref-2.ensures.value
    ∙ ap (λ (xs : List Key). own_keys same_key said fixed xs ext) c.deref-3.ensures.value
    ∙ sym (c.keys_in_any_order.ensures at.said said at.fixed fixed at.loose loose ext c.in_ok-said.ensures
    c.in_ok-fixed.ensures c.in_ok-loose.ensures)
    ∙ sym (own-keys-same d distinct at.said at.fixed at.loose ext i.said i.fixed i.loose)
