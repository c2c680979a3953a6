-- The tree of a script of the first form.
use Rattle.std.proofs.Common.{◌≡◌, ℕ, ℤ, ◌+◌, ◌≤◌, List, [], ◌∷◌, ◌++◌, zero, suc, length, Some, None, Option, slice_get, map, refl, sym, ap, ap₂, subst, ◌∙◌, arith}
use Rattle.std.specs.Prelude.{⊤, codes}
use Rattle.mb_base.specs.declared.value.StrId.{StrId}
use Rattle.mb_base.specs.declared.value.NodeId.{NodeId}
use Rattle.mb_token.specs.declared.token.Token.{Token}
use Rattle.mb_token.specs.declared.token.Token.TheVariants as t
use Rattle.mb_token.specs.declared.token.Spanned.{Spanned}
use Rattle.mb_token.specs.declared.mark.Mark.{Mark}
use Rattle.mb_token.specs.declared.mark.Mark.TheVariants.{OpenParen, CloseParen, Semicolon}
use Rattle.mb_tree.specs.declared.kind.Kind.{Kind}
use Rattle.mb_tree.specs.declared.kind.Kind.TheVariants as k
use Rattle.mb_tree.specs.Roses.{Rose, Roses, node, none, more, bare, named, numbered, Shape, shape, write, write_all}
use Rattle.mb_tree.specs.Heights.{height_of, most_of}
use Rattle.mb_lexer.specs.Tokens.{Content, name, mark}
use Rattle.mb_lexer.specs.Tokens as whole_tokens
use Rattle.mb_lexer.specs.Shown.{Shows, AreSeen}
use Rattle.mb_grammar.specs.declared.role.Role.{Role}
use Rattle.mb_grammar.specs.declared.role.Role.TheVariants as r
use Rattle.mb_grammar.specs.Tokens.{role_of, token_of, RoleAt, NoRoleAt}
use Rattle.mb_grammar.specs.Grammar.{Stands, lift, left_new, left_call, new_member, call, name_of, number, text, last_of, elements, expression, Statement, sub, Statements, finished, statement}
use Rattle.mb_scope.specs.declared.binding.Declares.TheVariants.{Nothing}
use Rattle.mb_scope.specs.declared.jump.Jump.TheVariants as jump
use Rattle.mb_scope.specs.declared.target.Use.TheVariants as usage
use Rattle.mb_scope.specs.declared.fault.NameFault.TheVariants.{Twice, Stray, BadTarget, NoMemory}
use Rattle.mb_scope.specs.Kinds.{declares_of, handler_of, jump_of, use_of, operand_of}
use Rattle.mb_scope.specs.Bindings.{bound_as, bound_at, bound_by, bindings_of, in_block, together, Repeats}
use Rattle.mb_scope.specs.Jumps.{Strays}
use Rattle.mb_scope.specs.Targets.{MissesAt}
use Rattle.mb_scope.specs.Faults.{IsRight}
use Rattle.mb_cli.specs.first_form.Lexemes.{Meaning, print, open_paren, close_paren, semicolon, text, FirstLexeme}
use Rattle.mb_cli.specs.first_form.Form.{Literal, quoted, statements_of}
use Rattle.mb_cli.specs.first_form.Form.{number as whole_number}
use Rattle.mb_cli.specs.first_form.Form.{token_of as meaning_of}
use Rattle.mb_cli.proofs.first_form.FirstTokens.{content_of, lexeme_of, tokens_of}

-- trees of calls of a name with a number or a text

pub data IsValue : Rose → Type 0 where
  a_number : {z : ℤ} → IsValue (node (numbered k.Number z) none)
  a_text : {n : StrId} → IsValue (node (named k.Text n) none)

abbrev pub call_of : StrId → Rose → Rose
call_of n x = node (bare k.ExprStmt) (more (node (bare k.Call) (more (node (named k.Name n) none) (more x none))) none)

pub data AreCalls : Roses → Type 0 where
  no_calls : AreCalls none
  a_call : {n : StrId} {x : Rose} {parts : Roses} → IsValue x → AreCalls parts → AreCalls (more (call_of n x) parts)

value_height : {x : Rose} → IsValue x → height_of x ≡ 1
value_height a_number = refl
value_height a_text = refl

calls_height : {parts : Roses} → AreCalls parts → most_of parts ≤ 3
calls_height no_calls = omega arith
calls_height (a_call {n = n} {x = x} {parts = parts} value calls) =
    let one : height_of x ≡ 1 = value_height value in
    let rest : most_of parts ≤ 3 = calls_height calls in
    omega arith

pub script_height : {parts : Roses} → AreCalls parts → height_of (node (bare k.Script) parts) ≤ 256
script_height {parts} calls = let low : most_of parts ≤ 3 = calls_height calls in omega arith

-- no static rule speaks of their nodes

record IsQuiet (kind : Kind) : Type 0 where
  declares : declares_of kind ≡ Nothing
  catches : (parts : List NodeId) → handler_of kind parts ≡ None
  jumps : jump_of kind ≡ jump.Nothing
  uses : use_of kind ≡ usage.Plain

abbrev AreQuiet : List Shape → Type 0
AreQuiet [] = ⊤
AreQuiet (s ∷ shapes) = IsQuiet s.label.kind × AreQuiet shapes

quiet_push : (shapes : List Shape) (s : Shape) → AreQuiet shapes → IsQuiet s.label.kind → AreQuiet (shapes ++ s ∷ [])
quiet_push [] s all one = (one, tt)
quiet_push (x ∷ shapes) s all one = (all.0, quiet_push shapes s all.1 one)

quiet_value : (out : List Shape) {x : Rose} → IsValue x → AreQuiet out → AreQuiet (write out x)
quiet_value out a_number quiet = quiet_push out _ quiet (record { declares = refl; catches = λ parts. refl; jumps = refl; uses = refl })
quiet_value out a_text quiet = quiet_push out _ quiet (record { declares = refl; catches = λ parts. refl; jumps = refl; uses = refl })

quiet_call : (out : List Shape) (n : StrId) {x : Rose} → IsValue x → AreQuiet out → AreQuiet (write out (call_of n x))
quiet_call out n {x} value quiet =
    let first = quiet_push out (shape (named k.Name n) []) quiet (record { declares = refl; catches = λ parts. refl; jumps = refl; uses = refl }) in
    let second = quiet_value (out ++ shape (named k.Name n) [] ∷ []) value first in
    let third = quiet_push (write (out ++ shape (named k.Name n) [] ∷ []) x) _ second (record { declares = refl; catches = λ parts. refl; jumps = refl; uses = refl }) in
    quiet_push _ _ third (record { declares = refl; catches = λ parts. refl; jumps = refl; uses = refl })

quiet_calls : (out : List Shape) {parts : Roses} → AreCalls parts → AreQuiet out → AreQuiet (write_all out parts)
quiet_calls out no_calls quiet = quiet
quiet_calls out (a_call {n = n} {x = x} {parts = parts} value calls) quiet = quiet_calls (write out (call_of n x)) calls (quiet_call out n value quiet)

quiet_at : (shapes : List Shape) (i : ℕ) (s : Shape) → AreQuiet shapes → slice_get shapes i ≡ Some s → IsQuiet s.label.kind
quiet_at [] i s quiet is = cc
quiet_at (x ∷ shapes) zero s quiet is = let same : x ≡ s = cc in subst (λ (y : Shape). IsQuiet y.label.kind) same quiet.0
quiet_at (x ∷ shapes) (suc i) s quiet is = quiet_at shapes i s quiet.1 is

module _ (shapes : List Shape) (quiet : AreQuiet shapes) where
  binds_nothing : (id : NodeId) → bound_by shapes id ≡ []
  binds_nothing id = by (slice_get shapes id.0) refl
    where
      by : (o : Option Shape) → slice_get shapes id.0 ≡ o → bound_at shapes id o ≡ []
      by None e = refl
      by (Some s) e = ap (bound_as shapes id s) (quiet_at shapes id.0 s quiet e).declares

  no_bindings : (parts : List NodeId) → bindings_of shapes parts ≡ []
  no_bindings [] = refl
  no_bindings (id ∷ parts) = ap₂ (λ a b. a ++ b) (binds_nothing id) (no_bindings parts)

  nothing_together : (s : Shape) → IsQuiet s.label.kind → together shapes s ≡ []
  nothing_together s one = ap₂ (λ a b. a ++ b) (no_bindings s.children) (ap (in_block shapes) (one.catches s.children))

  nothing_repeats : (id : NodeId) → Repeats [] id → ⊥
  nothing_repeats id repeats = let is = repeats.earlier_is in cc

  quiet_right : IsRight shapes
  quiet_right (Twice id) broken =
      nothing_repeats id (subst (λ bs. Repeats bs id) (nothing_together broken.node (quiet_at shapes broken.scope.0 broken.node quiet broken.is)) broken.repeats)
  quiet_right (Stray id) broken = subst (Strays shapes id) (quiet_at shapes id.0 broken.node quiet broken.is).jumps broken.strays
  quiet_right (BadTarget id) broken =
      by (operand_of broken.node.label.kind broken.node.children) (subst (λ u. MissesAt shapes u (operand_of broken.node.label.kind broken.node.children)) (quiet_at shapes id.0 broken.node quiet broken.is).uses broken.misses)
    where
      by : (o : Option NodeId) → MissesAt shapes usage.Plain o → ⊥
      by None m = m
      by (Some operand) m = m
  quiet_right NoMemory broken = broken

pub script_right : {parts : Roses} → AreCalls parts → IsRight (write [] (node (bare k.Script) parts))
script_right {parts} calls = quiet_right (write [] (node (bare k.Script) parts)) (quiet_push (write_all [] parts) _ (quiet_calls [] calls tt) (record { declares = refl; catches = λ parts. refl; jumps = refl; uses = refl }))

-- the tokens are statements with such trees

-- the tokens from this place on are these
abbrev pub At : List Spanned → ℕ → List Spanned → Type 0
At ts i [] = i ≡ length ts
At ts i (a ∷ rest) = (slice_get ts i ≡ Some a) × At ts (i + 1) rest

at_later : (x : Spanned) (ts : List Spanned) (i : ℕ) (rest : List Spanned) → At ts i rest → At (x ∷ ts) (suc i) rest
at_later x ts i [] at = ap suc at
at_later x ts i (a ∷ rest) at = (at.0, let next : suc (i + 1) ≡ suc i + 1 = omega arith in subst (λ n. At (x ∷ ts) n rest) next (at_later x ts (i + 1) rest at.1))

pub at_start : (ts : List Spanned) → At ts 0 ts
at_start [] = refl
at_start (x ∷ ts) = (refl, at_later x ts 0 ts (at_start ts))

role_here : (ts : List Spanned) (i : ℕ) (a : Spanned) (token : Token) → slice_get ts i ≡ Some a → a.token ≡ token → RoleAt ts i (role_of (Some token))
role_here ts i a token at is = record { is = ap (λ o. role_of (token_of o)) at ∙ ap (λ x. role_of (Some x)) is }

not_here : (ts : List Spanned) (i : ℕ) (n : StrId) (role : Role) → RoleAt ts i (r.Name n) → (r.Name n ≡ role → ⊥) → NoRoleAt ts i role
not_here ts i n role here other = record { differs = λ e. other (sym here.is ∙ e) }

-- a token whose content is known

shown_name : (texts : List (List ℕ)) (a : Token) (us : List ℕ) → Shows texts a (name us) → (n : StrId) × (a ≡ t.Name n)
shown_name texts (t.Name n) us shows = (n, refl)
shown_name texts a us shows = absurd shows

shown_mark : (texts : List (List ℕ)) (a : Token) (m : Mark) → Shows texts a (mark m) → a ≡ t.Mark m
shown_mark texts (t.Mark x) m shows = ap t.Mark shows
shown_mark texts a m shows = absurd shows

-- the tree of a literal's token
record Valued (ts : List Spanned) (i : ℕ) : Type 0 where
  tree : Rose
  value : IsValue tree
  stands : Stands ts 18 tree [] [] i (i + 1)

valued : (texts : List (List ℕ)) (ts : List Spanned) (i : ℕ) (a : Spanned) (l : Literal) → slice_get ts i ≡ Some a → Shows texts a.token (content_of (meaning_of l)) → Valued ts i
valued texts ts i a (whole_number n) at shows = by a.token refl shows
  where
    by : (token : Token) → a.token ≡ token → Shows texts token (whole_tokens.whole n) → Valued ts i
    by (t.Whole z) e s = record { tree = _; value = a_number {z = z}; stands = number (role_here ts i a (t.Whole z) at e) }
    by token e s = absurd s
valued texts ts i a (quoted us) at shows = by a.token refl shows
  where
    by : (token : Token) → a.token ≡ token → Shows texts token (whole_tokens.text us) → Valued ts i
    by (t.Text n) e s = record { tree = _; value = a_text {n = n}; stands = text (role_here ts i a (t.Text n) at e) }
    by token e s = absurd s

down_to_assign : {ts : List Spanned} {a : Rose} {ds es : List ℕ} {i j : ℕ} → Stands ts 15 a ds es i j → Stands ts 3 a ds es i j
down_to_assign s =
    lift (omega arith) (lift (omega arith) (lift (omega arith) (lift (omega arith) (lift (omega arith) (lift (omega arith)
    (lift (omega arith) (lift (omega arith) (lift (omega arith) (lift (omega arith) (lift (omega arith) (lift (omega arith) s)))))))))))

down : {ts : List Spanned} {a : Rose} {ds es : List ℕ} {i j : ℕ} → Stands ts 15 a ds es i j → Stands ts 1 a ds es i j
down s = lift (omega arith) (lift (omega arith) (down_to_assign s))

-- the statement of a literal
statement_stands : (ts : List Spanned) (i : ℕ) (n : StrId) (x : Rose) → RoleAt ts i (r.Name n) → RoleAt ts (i + 1) r.Open → Stands ts 18 x [] [] (i + 1 + 1) (i + 1 + 1 + 1)
    → RoleAt ts (i + 1 + 1 + 1) r.Close → RoleAt ts (i + 1 + 1 + 1 + 1) r.Semicolon → Statement ts (call_of n x) i (i + 1 + 1 + 1 + 1 + 1)
statement_stands ts i n x callee opening inner closing end =
    sub (expression (not_here ts i n r.OpenBrace callee (λ e. cc)) (not_here ts i n r.Function callee (λ e. cc))
    (down (left_call (call {l = 18} (omega arith) (name_of callee) opening (elements (last_of (down_to_assign (left_new (new_member inner))))) closing))) end)

pub record Made (ts : List Spanned) (i : ℕ) : Type 0 where
  pub parts : Roses
  pub calls : AreCalls parts
  pub stand : Statements ts parts i (length ts)

-- the first of the tokens, where the first of what they mean is this
record First (texts : List (List ℕ)) (tokens : List Spanned) (m : Meaning) (ms : List Meaning) : Type 0 where
  first : Spanned
  rest : List Spanned
  lexemes : List FirstLexeme
  is : tokens ≡ first ∷ rest
  shows : Shows texts first.token (content_of m)
  seen : AreSeen texts rest (map lexeme_of lexemes)
  mean : tokens_of lexemes ≡ ms

first_seen : (texts : List (List ℕ)) (tokens : List Spanned) (ls : List FirstLexeme) (m : Meaning) (ms : List Meaning) → AreSeen texts tokens (map lexeme_of ls) → tokens_of ls ≡ m ∷ ms
    → First texts tokens m ms
first_seen texts tokens [] m ms seen is = cc
first_seen texts [] (l ∷ ls) m ms seen is = absurd seen
first_seen texts (a ∷ rest) (l ∷ ls) m ms seen is =
    let one : l.token ≡ m = cc in
    let others : tokens_of ls ≡ ms = cc in
    record { first = a; rest = rest; lexemes = ls; is = refl; shows = subst (λ x. Shows texts a.token (content_of x)) one seen.0.token; seen = seen.1; mean = others }

no_tokens : (texts : List (List ℕ)) (tokens : List Spanned) (ls : List FirstLexeme) → AreSeen texts tokens (map lexeme_of ls) → tokens_of ls ≡ [] → tokens ≡ []
no_tokens texts tokens (l ∷ ls) seen is = cc
no_tokens texts [] [] seen is = refl
no_tokens texts (a ∷ rest) [] seen is = absurd seen

-- five tokens are one statement more
made_more : (texts : List (List ℕ)) (ts : List Spanned) (i : ℕ) (a b c d e : Spanned) (l : Literal) → slice_get ts i ≡ Some a → slice_get ts (i + 1) ≡ Some b
    → slice_get ts (i + 1 + 1) ≡ Some c → slice_get ts (i + 1 + 1 + 1) ≡ Some d → slice_get ts (i + 1 + 1 + 1 + 1) ≡ Some e
    → Shows texts a.token (content_of print) → Shows texts b.token (mark OpenParen) → Shows texts c.token (content_of (meaning_of l)) → Shows texts d.token (mark CloseParen)
    → Shows texts e.token (mark Semicolon) → Made ts (i + 1 + 1 + 1 + 1 + 1) → Made ts i
made_more texts ts i a b c d e l at_a at_b at_c at_d at_e name_shows open_shows inner_shows close_shows end_shows rest =
    let callee = shown_name texts a.token (codes "print") name_shows in
    let inner = valued texts ts (i + 1 + 1) c l at_c inner_shows in
    record {
      parts = more (call_of callee.0 inner.tree) rest.parts;
      calls = a_call {n = callee.0} {x = inner.tree} {parts = rest.parts} inner.value rest.calls;
      stand = statement (statement_stands ts i callee.0 inner.tree (role_here ts i a (t.Name callee.0) at_a callee.1)
          (role_here ts (i + 1) b (t.Mark OpenParen) at_b (shown_mark texts b.token OpenParen open_shows)) inner.stands
          (role_here ts (i + 1 + 1 + 1) d (t.Mark CloseParen) at_d (shown_mark texts d.token CloseParen close_shows))
          (role_here ts (i + 1 + 1 + 1 + 1) e (t.Mark Semicolon) at_e (shown_mark texts e.token Semicolon end_shows))) rest.stand;
    }

-- the tokens of literals' statements are statements
pub made : (literals : List Literal) (texts : List (List ℕ)) (ts tokens : List Spanned) (i : ℕ) (ls : List FirstLexeme) → At ts i tokens → AreSeen texts tokens (map lexeme_of ls)
    → tokens_of ls ≡ statements_of literals → Made ts i
made [] texts ts tokens i ls at seen is =
    let over : i ≡ length ts = subst (At ts i) (no_tokens texts tokens ls seen is) at in
    record { parts = none; calls = no_calls; stand = subst (λ n. Statements ts none i n) over finished }
made (l ∷ literals) texts ts tokens i ls at seen is =
    let a = first_seen texts tokens ls print (open_paren ∷ meaning_of l ∷ close_paren ∷ semicolon ∷ statements_of literals) seen is in
    let at_a = subst (At ts i) a.is at in
    let b = first_seen texts a.rest a.lexemes open_paren (meaning_of l ∷ close_paren ∷ semicolon ∷ statements_of literals) a.seen a.mean in
    let at_b = subst (At ts (i + 1)) b.is at_a.1 in
    let c = first_seen texts b.rest b.lexemes (meaning_of l) (close_paren ∷ semicolon ∷ statements_of literals) b.seen b.mean in
    let at_c = subst (At ts (i + 1 + 1)) c.is at_b.1 in
    let d = first_seen texts c.rest c.lexemes close_paren (semicolon ∷ statements_of literals) c.seen c.mean in
    let at_d = subst (At ts (i + 1 + 1 + 1)) d.is at_c.1 in
    let e = first_seen texts d.rest d.lexemes semicolon (statements_of literals) d.seen d.mean in
    let at_e = subst (At ts (i + 1 + 1 + 1 + 1)) e.is at_d.1 in
    let rest = made literals texts ts e.rest (i + 1 + 1 + 1 + 1 + 1) e.lexemes at_e.1 e.seen e.mean in
    made_more texts ts i a.first b.first c.first d.first e.first l at_a.0 at_b.0 at_c.0 at_d.0 at_e.0 a.shows b.shows c.shows d.shows e.shows rest
