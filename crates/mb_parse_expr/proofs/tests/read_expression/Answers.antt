use Rattle.std.proofs.Common.{◌≡◌, ℕ, ◌<◌, List, [], ◌∷◌, length, Option, Some, None, refl, sym, ap, subst, ◌∙◌, arith}
use Rattle.std.specs.Prelude.{slice_get}
use Rattle.std.proofs.lemmas.Option.{slice_get_within}
use Rattle.mb_token.specs.declared.token.Spanned.{Spanned}
use Rattle.mb_tree.specs.Roses.{none, shapes}
use Rattle.mb_grammar.specs.declared.role.Role.TheVariants as r
use Rattle.mb_grammar.specs.Tokens.{role_of, token_of, RoleAt}
use Rattle.mb_parse_expr.specs.Pauses.{next_place}
use Rattle.mb_grammar.specs.Bodies.{AreTheStatements}
use Rattle.mb_grammar.proofs.FirstTokens.{an_empty_body}
use Rattle.mb_parse_expr.proofs.tests.read_expression.Goals as goal

-- a token stands where a brace does
role_within : (ts : List Spanned) (i : ℕ) → RoleAt ts i r.CloseBrace → i < length ts
role_within ts i o = each (slice_get ts i) refl
  where
    each : (x : Option Spanned) → slice_get ts i ≡ x → i < length ts
    each None e = let q : r.Other ≡ r.CloseBrace = sym (ap (λ y. role_of (token_of y)) e) ∙ o.is in cc
    each (Some s) e = slice_get_within ts i s e

pub bodies-init : goal.bodies-init
bodies-init c = record {
  within = omega (arith, c.in_ok-parser.ensures.place);
  reading = (c.args.level, 0, shapes record { nodes = c.new.result }, [], c.in_ok-parser.ensures.reading c.args.tokens.now (shapes record { nodes = c.new.result }));
}

pub bodies-preserved : goal.bodies-preserved
bodies-preserved c =
    let q = c.bodies.invariant.reading in
    let a = rw c.in-Body.is at (c.in_ok-end.ensures.answers q.0 q.1 q.2 q.3 q.4) in
    let brace : RoleAt c.args.tokens.now c.in-Body.at r.CloseBrace = c.is_closed.ensures c.if-not-is_closed.false in
    let within = role_within _ _ brace in
    let place : next_place c.run.new.self ≡ c.in-Body.at = a.1 in
    let here : AreTheStatements c.args.tokens.now none (next_place c.run.new.self) c.in-Body.at = subst (λ x. AreTheStatements c.args.tokens.now none x c.in-Body.at) (sym place) (an_empty_body c.in-Body.at brace) in
    record {
      within = omega (arith, within, c.resume.ensures.place);
      reading = (q.0, q.1, q.2, c.in-Body.at ∷ q.3, c.resume.ensures.reading _ _ _ _ (shapes c.run.new.tree) _ none a.0 here c.new-in-bodies.ensures.items);
    }
