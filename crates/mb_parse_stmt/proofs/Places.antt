-- Places within the tokens.
use Rattle.std.proofs.Common.{◌≡◌, ℕ, ◌+◌, ◌≤◌, List, length, Option, Some, None, refl, sym, ap, ◌∙◌, arith}
use Rattle.std.specs.Prelude.{slice_get}
use Rattle.std.proofs.lemmas.Option.{slice_get_within}
use Rattle.mb_token.specs.declared.token.Spanned.{Spanned}
use Rattle.mb_token.specs.declared.token.Token.{Token}
use Rattle.mb_token.specs.declared.word.Word.{Word}
use Rattle.mb_tree.specs.Roses.{Rose}
use Rattle.mb_grammar.specs.declared.role.Role.{Role}
use Rattle.mb_grammar.specs.declared.role.Role.TheVariants as r
use Rattle.mb_grammar.specs.declared.level.Level.{Level}
use Rattle.mb_grammar.specs.declared.level.Level.TheVariants as lv
use Rattle.mb_grammar.specs.Tokens.{role_of, token_of, token_at, role_at, RoleAt, WordAt}
use Rattle.mb_grammar.specs.Script.{IsEnd}
use Rattle.mb_grammar.specs.Grammar.{BlockOf, block, no_catch, catch_all, catch_named, no_finally, finally, Sub, sub_block, empty, expression, if_then, if_else, while_do, do_while, for_loop, returns, returns_with, throw, break, continue, try, Statement, sub, let_statement, const, declaration}

pub token_within : (ts : List Spanned) (at : ℕ) (token : Token) → token_at ts at ≡ Some token → at + 1 ≤ length ts
token_within ts at token e = each (slice_get ts at) refl e
  where
    each : (o : Option Spanned) → slice_get ts at ≡ o → token_of o ≡ Some token → at + 1 ≤ length ts
    each None q h = cc
    each (Some s) q h = let w = slice_get_within ts at s q in omega (arith, w)

pub word_within : (ts : List Spanned) (at : ℕ) (x : Word) → WordAt ts at x → at + 1 ≤ length ts
word_within ts at x h = token_within ts at _ h.is

pub role_within : (ts : List Spanned) (at : ℕ) (role : Role) → RoleAt ts at role → (role ≡ r.Other → ⊥) → at + 1 ≤ length ts
role_within ts at role h n = each (token_at ts at) refl
  where
    each : (o : Option Token) → token_at ts at ≡ o → at + 1 ≤ length ts
    each None e = absurd (n (sym h.is ∙ ap role_of e))
    each (Some t) e = token_within ts at t e

pub brace_within : (ts : List Spanned) (at : ℕ) → RoleAt ts at r.OpenBrace → at + 1 ≤ length ts
brace_within ts at h = role_within ts at r.OpenBrace h (λ e. cc)

pub end_within : (ts : List Spanned) (level : Level) (at : ℕ) → IsEnd level (role_at ts at) → at ≤ length ts
end_within ts level at h = each level (role_at ts at) refl h
  where
    each : (level : Level) (x : Role) → role_at ts at ≡ x → IsEnd level x → at ≤ length ts
    each level r.Semicolon e q = let w = role_within ts at r.Semicolon (record { is = e }) (λ z. cc) in omega (arith, w)
    each lv.Expr r.Close e q = let w = role_within ts at r.Close (record { is = e }) (λ z. cc) in omega (arith, w)
    each lv.Assign r.Comma e q = let w = role_within ts at r.Comma (record { is = e }) (λ z. cc) in omega (arith, w)
    each lv.Expr _ e q = absurd q
    each lv.Assign _ e q = absurd q

pub block_within : {ts : List Spanned} {a : Rose} {i j : ℕ} → BlockOf ts a i j → j ≤ length ts
block_within {ts = ts} (block {j = j} o d c) = role_within ts j r.CloseBrace c (λ e. cc)

module _ (ts : List Spanned) where
  semicolon_within : (at : ℕ) → RoleAt ts at r.Semicolon → at + 1 ≤ length ts
  semicolon_within at h = role_within ts at r.Semicolon h (λ e. cc)

  pub sub_within : {a : Rose} {i j : ℕ} → Sub ts a i j → j ≤ length ts
  sub_within (sub_block d) = block_within d
  sub_within (empty {i = i} e) = semicolon_within i e
  sub_within (expression {j = j} n n' d s) = semicolon_within j s
  sub_within (if_then e o d c b x) = sub_within b
  sub_within (if_else e o d c b x b') = sub_within b'
  sub_within (while_do e o d c b) = sub_within b
  sub_within (do_while {j = j} e b e' o d c s) = semicolon_within (j + 1) s
  sub_within (for_loop e o x s y s' z c b) = sub_within b
  sub_within (returns {i = i} e s) = semicolon_within (i + 1) s
  sub_within (returns_with {j = j} e l d s) = semicolon_within j s
  sub_within (throw {j = j} e l d s) = semicolon_within j s
  sub_within (break {i = i} e s) = semicolon_within (i + 1) s
  sub_within (continue {i = i} e s) = semicolon_within (i + 1) s
  sub_within (try e b x (finally e' d) some) = block_within d
  sub_within (try e b no_catch no_finally some) = block_within b
  sub_within (try e b (catch_all e' d) no_finally some) = block_within d
  sub_within (try e b (catch_named e' o n u d) no_finally some) = block_within d

  pub statement_within : {a : Rose} {i j : ℕ} → Statement ts a i j → j ≤ length ts
  statement_within (sub d) = sub_within d
  statement_within (let_statement {j = j} d s) = semicolon_within j s
  statement_within (const {j = j} e d s) = semicolon_within j s
  statement_within (declaration {j = j} e n o d c b ss f) = role_within ts j r.CloseBrace f (λ q. cc)
