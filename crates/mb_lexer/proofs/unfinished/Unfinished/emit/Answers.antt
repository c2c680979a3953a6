use Rattle.std.proofs.Common.{◌≡◌, ◌≤◌, refl, sym, ap, subst, ◌∙◌, rules}
use Rattle.mb_token.specs.declared.token.Token.TheVariants.{Text, Mark}
use Rattle.mb_token.specs.declared.mark.Mark.TheVariants.{Equal, Not}
use Rattle.mb_text.proofs.Kept.{keeps_ids_none}
use Rattle.mb_lexer.specs.declared.state.State.TheVariants.{InName, InWhole, AfterText, InMark, DoubleEqual, NotEqual}
use Rattle.mb_lexer.specs.Tokens.{named, whole, text, mark}
use Rattle.mb_lexer.specs.machine.Outcomes.{InRange}
use Rattle.mb_lexer.proofs.Seen.{emits, emits_two}
use Rattle.mb_lexer.proofs.unfinished.Unfinished.emit.Goals as goal

pub returns-in_ok-token-in-InName-clause-tokens : goal.returns-in_ok-token-in-InName-clause-tokens
returns-in_ok-token-in-InName-clause-tokens c =
    emits _ _ _ _ c.args.self.now InName (named c.args.self.now.units) c.in_ok-token-in-InName.token c.push.result (ap (λ m. m.state) (sym c.self.view_is) ∙ c.in-InName.is) refl c.name.ensures.texts c.in_ok-token-in-InName.ensures.token c.push.ensures.tokens

pub returns-in-InWhole-clause-tokens : goal.returns-in-InWhole-clause-tokens
returns-in-InWhole-clause-tokens c =
    let e : c.args.self.now.state ≡ InWhole c.in-InWhole.value = ap (λ m. m.state) (sym c.self.view_is) ∙ c.in-InWhole.is in
    let h : c.in-InWhole.value ≤ 9007199254740991 = subst InRange e c.requires.fit.range in
    emits _ _ _ _ c.args.self.now (InWhole c.in-InWhole.value) (whole c.in-InWhole.value) _ c.push-in-InWhole.result e refl (keeps_ids_none _) (search rules) c.push-in-InWhole.ensures.tokens

pub returns-in_ok-id-in-AfterText-clause-tokens : goal.returns-in_ok-id-in-AfterText-clause-tokens
returns-in_ok-id-in-AfterText-clause-tokens c =
    emits _ _ _ _ c.args.self.now AfterText (text c.args.self.now.units) (Text c.in_ok-id-in-AfterText.id) c.push-in-AfterText.result (ap (λ m. m.state) (sym c.self.view_is) ∙ c.in-AfterText.is) refl c.intern.ensures.texts c.in_ok-id-in-AfterText.ensures.text c.push-in-AfterText.ensures.tokens

pub returns-in-InMark-clause-tokens : goal.returns-in-InMark-clause-tokens
returns-in-InMark-clause-tokens c =
    emits _ _ _ _ c.args.self.now (InMark c.in-InMark.mark) (mark c.in-InMark.mark) (Mark c.in-InMark.mark) c.push-in-InMark.result (ap (λ m. m.state) (sym c.self.view_is) ∙ c.in-InMark.is) refl (keeps_ids_none _) refl c.push-in-InMark.ensures.tokens

pub returns-in-DoubleEqual-clause-tokens : goal.returns-in-DoubleEqual-clause-tokens
returns-in-DoubleEqual-clause-tokens c =
    emits_two _ _ _ c.args.self.now DoubleEqual Equal c.push_two.result (ap (λ m. m.state) (sym c.self.view_is) ∙ c.in-DoubleEqual.is) refl c.push_two.ensures.tokens

pub returns-in-NotEqual-clause-tokens : goal.returns-in-NotEqual-clause-tokens
returns-in-NotEqual-clause-tokens c =
    emits_two _ _ _ c.args.self.now NotEqual Not c.push_two-in-NotEqual.result (ap (λ m. m.state) (sym c.self.view_is) ∙ c.in-NotEqual.is) refl c.push_two-in-NotEqual.ensures.tokens
