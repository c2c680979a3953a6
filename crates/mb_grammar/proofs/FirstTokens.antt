-- What expressions and statements begin with.
use Rattle.std.proofs.Common.{◌≡◌, ℕ, List, refl, sym, ap, subst, ◌∙◌}
use Rattle.mb_token.specs.declared.token.Spanned.{Spanned}
use Rattle.mb_token.specs.declared.word.Word.{Word}
use Rattle.mb_tree.specs.declared.kind.Sign.TheVariants as s
use Rattle.mb_tree.specs.Roses.{Rose, Roses, none}
use Rattle.mb_grammar.specs.declared.role.Role.{Role}
use Rattle.mb_grammar.specs.declared.role.Role.TheVariants as r
use Rattle.mb_grammar.specs.declared.function.Maker.{Maker}
use Rattle.mb_grammar.specs.Tokens.{word_role, role_of, role_at, RoleAt, WordAt}
use Rattle.mb_grammar.specs.Labels.{IsFunction}
use Rattle.mb_grammar.specs.Parts.{Head, one, many}
use Rattle.mb_grammar.specs.Grammar.{Stands, lift, left_new, left_call, new_member, seq, assign, compound, arrow_value, arrow_block, cond, or, and_also, binary, unary, negative, before, behind, new_new, new_args, member, index, call, this, name_of, number, text, literal, array, object, function, group, Before, unnamed, with_name, method, getter, setter, Made, made, Lets, lets, BlockOf, block, Sub, sub_block, empty, expression, if_then, if_else, while_do, do_while, for_loop, returns, returns_with, throw, break, continue, try, Statement, sub, let_statement, const, declaration, Statements, finished, statement}
use Rattle.mb_grammar.specs.Bodies.{AreTheStatements}

-- an expression may begin with this
abbrev pub Begins : Role → Type 0
Begins (r.Name n) = Unit {0}
Begins (r.Number z) = Unit {0}
Begins (r.Text n) = Unit {0}
Begins r.This = Unit {0}
Begins (r.Fixed x) = Unit {0}
Begins r.Function = Unit {0}
Begins r.New = Unit {0}
Begins (r.Prefix sign) = Unit {0}
Begins (r.Infix s.Minus) = Unit {0}
Begins (r.Step plus) = Unit {0}
Begins r.Open = Unit {0}
Begins r.OpenSquare = Unit {0}
Begins r.OpenBrace = Unit {0}
Begins _ = ⊥

-- a statement may begin with this; a word that is no value has no role of its own
abbrev pub Starts : Role → Type 0
Starts r.Semicolon = Unit {0}
Starts r.Other = Unit {0}
Starts role = Begins role

starts : (role : Role) → Begins role → Starts role
starts r.Semicolon h = tt
starts r.Other h = tt
starts _ h = h

module _ {ts : List Spanned} where
  begins_at : {i : ℕ} {role : Role} → RoleAt ts i role → Begins role → Begins (role_at ts i)
  begins_at o h = subst Begins (sym o.is) h

  starts_at : {i : ℕ} {role : Role} → RoleAt ts i role → Starts role → Starts (role_at ts i)
  starts_at o h = subst Starts (sym o.is) h

  word_starts : {i : ℕ} {word : Word} → WordAt ts i word → word_role word ≡ r.Other → Starts (role_at ts i)
  word_starts o e = subst Starts (sym (ap role_of o.is ∙ e)) tt

  head_begins : {parts : Roses} {i j : ℕ} → Head ts parts i j → Begins (role_at ts i)
  head_begins (one o) = begins_at o tt
  head_begins (many o p c) = begins_at o tt

  before_begins : {maker : Maker} {keys : Roses} {ds es : List ℕ} {i j : ℕ} → IsFunction maker → Before ts maker keys ds es i j → Begins (role_at ts i)
  before_begins h (unnamed o) = begins_at o tt
  before_begins h (with_name o n) = begins_at o tt
  before_begins h (method q) = absurd h
  before_begins h (getter g q) = absurd h
  before_begins h (setter g q) = absurd h

  made_begins : {maker : Maker} {a : Rose} {ds es : List ℕ} {i j : ℕ} → IsFunction maker → Made ts maker a ds es i j → Begins (role_at ts i)
  made_begins h (made b o p c u q e) = before_begins h b

  pub stands_begins : {l : ℕ} {a : Rose} {ds es : List ℕ} {i j : ℕ} → Stands ts l a ds es i j → Begins (role_at ts i)
  stands_begins (lift h q) = stands_begins q
  stands_begins (left_new q) = stands_begins q
  stands_begins (left_call q) = stands_begins q
  stands_begins (new_member q) = stands_begins q
  stands_begins (seq a c q) = stands_begins a
  stands_begins (assign a o b) = stands_begins a
  stands_begins (compound a o b) = stands_begins a
  stands_begins (arrow_value p o l u q) = head_begins p
  stands_begins (arrow_block p o l u q c) = head_begins p
  stands_begins (cond a o b p c) = stands_begins a
  stands_begins (or a o b) = stands_begins a
  stands_begins (and_also a o b) = stands_begins a
  stands_begins (binary a o b) = stands_begins a
  stands_begins (unary o q) = begins_at o tt
  stands_begins (negative o q) = begins_at o tt
  stands_begins (before o q) = begins_at o tt
  stands_begins (behind q o l) = stands_begins q
  stands_begins (new_new o q) = begins_at o tt
  stands_begins (new_args n q o p c) = begins_at n tt
  stands_begins (member h q o n) = stands_begins q
  stands_begins (index h q o p c) = stands_begins q
  stands_begins (call h q o p c) = stands_begins q
  stands_begins (this o) = begins_at o tt
  stands_begins (name_of o) = begins_at o tt
  stands_begins (number o) = begins_at o tt
  stands_begins (text o) = begins_at o tt
  stands_begins (literal o) = begins_at o tt
  stands_begins (array o q c) = begins_at o tt
  stands_begins (object o q c) = begins_at o tt
  stands_begins (function h q) = made_begins h q
  stands_begins (group o q c) = begins_at o tt

  block_starts : {a : Rose} {i j : ℕ} → BlockOf ts a i j → Starts (role_at ts i)
  block_starts (block o q c) = starts_at o tt

  lets_start : {a : Rose} {i j : ℕ} → Lets ts a i j → Starts (role_at ts i)
  lets_start (lets o q) = word_starts o refl

  sub_starts : {a : Rose} {i j : ℕ} → Sub ts a i j → Starts (role_at ts i)
  sub_starts (sub_block q) = block_starts q
  sub_starts (empty o) = starts_at o tt
  sub_starts (expression {i = i} u v q c) = starts (role_at ts i) (stands_begins q)
  sub_starts (if_then o p a c b u) = word_starts o refl
  sub_starts (if_else o p a c b e d) = word_starts o refl
  sub_starts (while_do o p a c b) = word_starts o refl
  sub_starts (do_while o b u p a c e) = word_starts o refl
  sub_starts (for_loop o p x u y v z e q) = word_starts o refl
  sub_starts (returns o c) = word_starts o refl
  sub_starts (returns_with o l q c) = word_starts o refl
  sub_starts (throw o l q c) = word_starts o refl
  sub_starts (break o c) = word_starts o refl
  sub_starts (continue o c) = word_starts o refl
  sub_starts (try o q p e u) = word_starts o refl

  pub statement_starts : {a : Rose} {i j : ℕ} → Statement ts a i j → Starts (role_at ts i)
  statement_starts (sub q) = sub_starts q
  statement_starts (let_statement q c) = lets_start q
  statement_starts (const o q c) = word_starts o refl
  statement_starts (declaration o x p q c u b e) = starts_at o tt

  -- no statement begins at a closing brace, so none stand before it
  pub none_at_brace : {body : Roses} {i j : ℕ} → RoleAt ts i r.CloseBrace → Statements ts body i j → (body ≡ none) × (j ≡ i)
  none_at_brace o finished = (refl, refl)
  none_at_brace {i = i} o (statement q p) = absurd (subst Starts o.is (statement_starts q))

  pub an_empty_body : (i : ℕ) → RoleAt ts i r.CloseBrace → AreTheStatements ts none i i
  an_empty_body i o = record { stand = finished; brace = o; only = λ other k st cb. none_at_brace o st }
