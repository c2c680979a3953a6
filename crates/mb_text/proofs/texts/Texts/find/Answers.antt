use Rattle.std.proofs.Common.{◌≡◌, ℕ, List, Option, Some, None, slice_get, IfSome, is_some, ap, sym, ◌∙◌, arith}
use Rattle.mb_base.specs.declared.value.StrId.{StrId}
use Rattle.mb_text.specs.machine.Ordered.{id_from}
use Rattle.mb_text.proofs.Tables.{placed, is_some-id_from}
use Rattle.mb_text.proofs.texts.Texts.find.Goals as goal

there : (texts : List (List ℕ)) (t : List ℕ) (o : Option StrId) → o ≡ id_from 0 texts t → IfSome o (λ id. slice_get texts id.0 ≡ Some t)
there texts t None h = tt
there texts t (Some id) h =
    let at = placed 0 texts t id (sym h) in
    let same : id.0 ≡ at.0 = omega (arith, at.1) in
    ap (slice_get texts) same ∙ at.2

found : (c : goal.After-copied) → c.copied.result ≡ id_from 0 c.args.self.now c.args.units.now
found c = c.copied.ensures ∙ c.get.ensures.value ∙ c.self.invariant.2 c.args.units.now ∙ ap (λ ts. id_from 0 ts c.args.units.now) c.self.view_is

pub returns-clause-text : goal.returns-clause-text
returns-clause-text c = there c.args.self.now c.args.units.now c.copied.result (found c)

pub returns-clause-found : goal.returns-clause-found
returns-clause-found c = ap is_some (found c) ∙ is_some-id_from 0 c.args.self.now c.args.units.now
