-- What begins an arrow function, and what doesn't.
use Rattle.std.proofs.Common.{◌≡◌, ℕ, zero, suc, ◌+◌, ◌<◌, ◌≤◌, Bool, true, false, List, [], ◌∷◌, length, get_or, Option, Some, None, refl, sym, ap, ◌∙◌, arith, add-one}
use Rattle.std.specs.Prelude.{slice_get, drop, not}
use Rattle.std.proofs.Math.Seq.{drop-cons}
use Rattle.std.proofs.lemmas.Option.{slice_get_within, get_or_from_slice_get, slice_get-get_or}
use Rattle.mb_token.specs.declared.token.Spanned.{Spanned}
use Rattle.mb_tree.specs.Roses.{Rose, Roses}
use Rattle.mb_grammar.specs.declared.role.Role.{Role}
use Rattle.mb_grammar.specs.declared.role.Role.TheVariants as r
use Rattle.mb_grammar.specs.Tokens.{role_of, token_of, line_of, role_at, after_line_at, RoleAt, SameLine}
use Rattle.mb_grammar.specs.Labels.{IsFunction}
use Rattle.mb_grammar.specs.Parts.{Names, last_name, name_and, Params, no_params, params, params_comma, Head, one, many}
use Rattle.mb_grammar.specs.Grammar.{Stands, lift, left_new, left_call, new_member, seq, assign, compound, arrow_value, arrow_block, cond, or, and_also, binary, unary, negative, before, behind, new_new, new_args, member, index, call, this, name_of, number, text, literal, array, object, function, group, Listed, last_of, then_of, unnamed, with_name, Made, made}
use Rattle.mb_parse_expr.specs.machine.Machine.{strength, arrow_role, arrow_at, closes_head, heads, ahead_of, ahead_at}

no_arrow_role : (role : Role) (after_line : Bool) → strength role after_line ≤ 18 → arrow_role role after_line ≡ false
no_arrow_role r.Arrow true h = refl
no_arrow_role r.Arrow false h = absurd (omega arith)
no_arrow_role _ after_line h = refl

module _ (ts : List Spanned) where
  no_arrow : (i : ℕ) → strength (role_at ts i) (after_line_at ts i) ≤ 18 → arrow_at ts i ≡ false
  no_arrow i h = no_arrow_role (role_at ts i) (after_line_at ts i) h

  an_arrow : (i : ℕ) → RoleAt ts i r.Arrow → SameLine ts i → arrow_at ts i ≡ true
  an_arrow i a l = ap (λ x. arrow_role x (after_line_at ts i)) a.is ∙ ap not l.is

  pub drop_at : (i : ℕ) (s : Spanned) → slice_get ts i ≡ Some s → drop i ts ≡ s ∷ drop (i + 1) ts
  drop_at i s e =
      drop-cons ts i s (slice_get_within ts i s e)
      ∙ ap (λ x. x ∷ drop (suc i) ts) (get_or_from_slice_get ts i s s e)
      ∙ ap (λ k. s ∷ drop k ts) (sym (add-one i))

get_drop : (ts : List Spanned) (k : ℕ) → slice_get (drop k ts) 0 ≡ slice_get ts k
get_drop [] zero = refl
get_drop [] (suc k) = refl
get_drop (s ∷ ts) zero = refl
get_drop (s ∷ ts) (suc k) = get_drop ts k

arrow_drop : (ts : List Spanned) (k : ℕ) → arrow_at (drop k ts) 0 ≡ arrow_at ts k
arrow_drop ts k = ap (λ o. arrow_role (role_of (token_of o)) (line_of o)) (get_drop ts k)

module _ (ts : List Spanned) where
  -- one token of the scan; a role that no token's absence has
  pub heads_step : (i : ℕ) (role : Role) → RoleAt ts i role → (r.Other ≡ role → ⊥) → heads (drop i ts) ≡ closes_head role (heads (drop (i + 1) ts)) (arrow_at ts (i + 1))
  heads_step i role e n = go (slice_get ts i) refl e.is
    where
      go : (o : Option Spanned) → slice_get ts i ≡ o → role_of (token_of o) ≡ role → heads (drop i ts) ≡ closes_head role (heads (drop (i + 1) ts)) (arrow_at ts (i + 1))
      go None q h = absurd (n h)
      go (Some s) q h =
          ap heads (drop_at ts i s q) ∙ ap (λ x. closes_head x (heads (drop (i + 1) ts)) (arrow_at (drop (i + 1) ts) 0)) h
          ∙ ap (λ o. closes_head role (heads (drop (i + 1) ts)) o) (arrow_drop ts (i + 1))

  -- the tokens on the way: one that ends the head, and one that goes on
  stops : {i : ℕ} (role : Role) → RoleAt ts i role → (r.Other ≡ role → ⊥) → ((x y : Bool) → closes_head role x y ≡ false) → heads (drop i ts) ≡ true → ⊥
  stops {i = i} role e o f h =
      let n = sym h ∙ heads_step i role e o ∙ f _ _ in
      let m : true ≡ false = n in
      cc

  goes : {i : ℕ} (role : Role) → RoleAt ts i role → (r.Other ≡ role → ⊥) → ((x y : Bool) → closes_head role x y ≡ x) → heads (drop i ts) ≡ true → heads (drop (i + 1) ts) ≡ true
  goes {i = i} role e o f h = sym (sym h ∙ heads_step i role e o ∙ f _ _)

  head_stops : {parts : Roses} {i m : ℕ} → Head ts parts i m → RoleAt ts m r.Arrow → heads (drop i ts) ≡ true → ⊥
  head_stops (one {n = n} e) a h = stops r.Arrow a (λ q. cc) (λ x y. refl) (goes (r.Name n) e (λ q. cc) (λ x y. refl) h)
  head_stops (many o p c) a h = stops r.Open o (λ q. cc) (λ x y. refl) h

  made_stops : {maker : _} {a : Rose} {ds es : List ℕ} {i j : ℕ} → IsFunction maker → Made ts maker a ds es i j → heads (drop i ts) ≡ true → ⊥
  made_stops f (made (unnamed e) o p c b s q) h = stops r.Function e (λ q. cc) (λ x y. refl) h
  made_stops f (made (with_name e n) o p c b s q) h = stops r.Function e (λ q. cc) (λ x y. refl) h
  made_stops f (made _ o p c b s q) h = absurd f

  mutual
    passes : {l : ℕ} {a : Rose} {ds es : List ℕ} {i j : ℕ} → Stands ts l a ds es i j → heads (drop i ts) ≡ true → heads (drop j ts) ≡ true
    passes (lift b d) h = passes d h
    passes (left_new d) h = passes d h
    passes (left_call d) h = passes d h
    passes (new_member d) h = passes d h
    passes (seq d e ds) h = passes_listed ds (goes r.Comma e (λ q. cc) (λ x y. refl) (passes d h))
    passes (assign d e d') h = absurd (stops r.Becomes e (λ q. cc) (λ x y. refl) (passes d h))
    passes (compound {sign = sign} d e d') h = absurd (stops (r.Compound sign) e (λ q. cc) (λ x y. refl) (passes d h))
    passes (arrow_value p e l n d) h = absurd (head_stops p e h)
    passes (arrow_block p e l o b c) h = absurd (head_stops p e h)
    passes (cond d e d' e' d'') h = absurd (stops r.Question e (λ q. cc) (λ x y. refl) (passes d h))
    passes (or d e d') h = absurd (stops r.Or e (λ q. cc) (λ x y. refl) (passes d h))
    passes (and_also d e d') h = absurd (stops r.And e (λ q. cc) (λ x y. refl) (passes d h))
    passes (binary {sign = sign} d e d') h = absurd (stops (r.Infix sign) e (λ q. cc) (λ x y. refl) (passes d h))
    passes (unary {sign = sign} e d) h = absurd (stops (r.Prefix sign) e (λ q. cc) (λ x y. refl) h)
    passes (negative e d) h = absurd (stops (r.Infix _) e (λ q. cc) (λ x y. refl) h)
    passes (before {plus = plus} e d) h = absurd (stops (r.Step plus) e (λ q. cc) (λ x y. refl) h)
    passes (behind {plus = plus} d e l) h = absurd (stops (r.Step plus) e (λ q. cc) (λ x y. refl) (passes d h))
    passes (new_new e d) h = absurd (stops r.New e (λ q. cc) (λ x y. refl) h)
    passes (new_args e d o p c) h = absurd (stops r.New e (λ q. cc) (λ x y. refl) h)
    passes (member u d o w) h = absurd (stops r.Dot o (λ q. cc) (λ x y. refl) (passes d h))
    passes (index u d o d' c) h = absurd (stops r.OpenSquare o (λ q. cc) (λ x y. refl) (passes d h))
    passes (call u d o p c) h = absurd (stops r.Open o (λ q. cc) (λ x y. refl) (passes d h))
    passes (this e) h = absurd (stops r.This e (λ q. cc) (λ x y. refl) h)
    passes (name_of {n = n} e) h = goes (r.Name n) e (λ q. cc) (λ x y. refl) h
    passes (number {z = z} e) h = absurd (stops (r.Number z) e (λ q. cc) (λ x y. refl) h)
    passes (text {n = n} e) h = absurd (stops (r.Text n) e (λ q. cc) (λ x y. refl) h)
    passes (literal {x = x} e) h = absurd (stops (r.Fixed x) e (λ q. cc) (λ x y. refl) h)
    passes (array o p c) h = absurd (stops r.OpenSquare o (λ q. cc) (λ x y. refl) h)
    passes (object o p c) h = absurd (stops r.OpenBrace o (λ q. cc) (λ x y. refl) h)
    passes (function f d) h = absurd (made_stops f d h)
    passes (group o d c) h = absurd (stops r.Open o (λ q. cc) (λ x y. refl) h)

    passes_listed : {parts : Roses} {ds es : List ℕ} {i j : ℕ} → Listed ts parts ds es i j → heads (drop i ts) ≡ true → heads (drop j ts) ≡ true
    passes_listed (last_of d) h = passes d h
    passes_listed (then_of d e ds) h = passes_listed ds (goes r.Comma e (λ q. cc) (λ x y. refl) (passes d h))

  names_pass : {parts : Roses} {i j : ℕ} → Names ts parts i j → heads (drop j ts) ≡ true → heads (drop i ts) ≡ true
  names_pass {i = i} (last_name {n = n} e) h = heads_step i (r.Name n) e (λ q. cc) ∙ h
  names_pass {i = i} (name_and {n = n} e c p) h = heads_step i (r.Name n) e (λ q. cc) ∙ heads_step (i + 1) r.Comma c (λ q. cc) ∙ names_pass p h

  params_pass : {parts : Roses} {i j : ℕ} → Params ts parts i j → heads (drop j ts) ≡ true → heads (drop i ts) ≡ true
  params_pass no_params h = h
  params_pass (params p) h = names_pass p h
  params_pass (params_comma {j = j} p e) h = names_pass p (heads_step j r.Comma e (λ q. cc) ∙ h)

  -- what a value that begins here has ahead
  pub name_alone : {i : ℕ} {n : _} → RoleAt ts i (r.Name n) → strength (role_at ts (i + 1)) (after_line_at ts (i + 1)) ≤ 18 → ahead_at ts i ≡ false
  name_alone {i = i} e h = ap (λ o. ahead_of o (arrow_at ts (i + 1)) (heads (drop (i + 1) ts))) e.is ∙ no_arrow ts (i + 1) h

  pub group_alone : {a : Rose} {ds es : List ℕ} {i j : ℕ} → RoleAt ts i r.Open → Stands ts 1 a ds es (i + 1) j → RoleAt ts j r.Close → strength (role_at ts (j + 1)) (after_line_at ts (j + 1)) ≤ 18 → ahead_at ts i ≡ false
  group_alone {i = i} {j = j} o d c h = ap (λ x. ahead_of x (arrow_at ts (i + 1)) (heads (drop (i + 1) ts))) o.is ∙ go (heads (drop (i + 1) ts)) refl
    where
      go : (b : Bool) → heads (drop (i + 1) ts) ≡ b → b ≡ false
      go false q = refl
      go true q = sym (passes d q) ∙ heads_step j r.Close c (λ q. cc) ∙ no_arrow ts (j + 1) h

  pub head_ahead : {parts : Roses} {i m : ℕ} → Head ts parts i m → RoleAt ts m r.Arrow → SameLine ts m → ahead_at ts i ≡ true
  head_ahead {i = i} (one e) a l = ap (λ o. ahead_of o (arrow_at ts (i + 1)) (heads (drop (i + 1) ts))) e.is ∙ an_arrow ts (i + 1) a l
  head_ahead {i = i} (many {j = j} o p c) a l =
      ap (λ x. ahead_of x (arrow_at ts (i + 1)) (heads (drop (i + 1) ts))) o.is ∙ params_pass p (heads_step j r.Close c (λ q. cc) ∙ an_arrow ts (j + 1) a l)

  pub heads_closed : (i : ℕ) (s : Spanned) → i < length ts → role_of (Some (get_or ts i s).token) ≡ r.Close → heads (drop i ts) ≡ arrow_at ts (i + 1)
  heads_closed i s h e = heads_step i r.Close (record { is = ap (λ o. role_of (token_of o)) (slice_get-get_or ts i s h) ∙ e }) (λ q. cc)
