-- What expressions and statements begin with.
use Rattle.std.proofs.Common.{◌≡◌, ℕ, Bool, true, false, List, Option, Some, None, refl, sym, subst}
use Rattle.mb_token.specs.declared.token.Token.{Token}
use Rattle.mb_token.specs.declared.token.Token.TheVariants as t
use Rattle.mb_token.specs.declared.token.Spanned.{Spanned}
use Rattle.mb_token.specs.declared.mark.Mark.{Mark}
use Rattle.mb_token.specs.declared.mark.Mark.TheVariants as m
use Rattle.mb_token.specs.declared.word.Word.{Word}
use Rattle.mb_token.specs.declared.word.Word.TheVariants as w
use Rattle.mb_tree.specs.Roses.{Rose}
use Rattle.mb_grammar.specs.Tokens.{role_of, word_role, mark_role, token_at, WordAt}
use Rattle.mb_grammar.specs.Grammar.{Stands, Lets, lets, BlockOf, block, Sub, sub_block, empty, expression, if_then, if_else, while_do, do_while, for_loop, returns, returns_with, throw, break, continue, try, Statement, sub, let_statement, const, declaration}
use Rattle.mb_grammar.proofs.FirstTokens.{Begins, stands_begins}
use Rattle.mb_parse_stmt.specs.declared.terminal.Terminal.{Terminal}
use Rattle.mb_parse_stmt.specs.declared.terminal.Terminal.TheVariants as p
use Rattle.mb_parse_stmt.specs.declared.machine.Stop.{Stop}
use Rattle.mb_parse_stmt.specs.declared.machine.Stop.TheVariants as st
use Rattle.mb_parse_stmt.specs.declared.machine.Holder.{Holder}
use Rattle.mb_parse_stmt.specs.declared.machine.Holder.TheVariants as ho
use Rattle.mb_parse_stmt.specs.declared.machine.Frame.TheVariants as f
use Rattle.mb_parse_stmt.specs.declared.machine.Move.TheVariants.{Enter, Ask}
use Rattle.mb_grammar.specs.declared.level.Level.TheVariants as lv
use Rattle.mb_parse_stmt.specs.machine.Terminals.{word_terminal, mark_terminal, terminal_of, terminal_at}
use Rattle.mb_parse_stmt.specs.machine.Machine.{value, line_move, return_move, sub_move, begin_move, closes, first_move, test_move, last_move, stops_of}
use Rattle.mb_parse_stmt.proofs.Tokens.{means, word_there, role_there}

-- expressions

abbrev pub Starts : Terminal → Type 0
Starts (p.Name n) = Unit {0}
Starts p.Function = Unit {0}
Starts p.Open = Unit {0}
Starts p.OpenBrace = Unit {0}
Starts p.Other = Unit {0}
Starts _ = ⊥

word_starts : (x : Word) → Begins (word_role x) → Starts (word_terminal x)
word_starts w.If h = h
word_starts w.Else h = h
word_starts w.While h = h
word_starts w.Do h = h
word_starts w.For h = h
word_starts w.Return h = h
word_starts w.Throw h = h
word_starts w.Break h = h
word_starts w.Continue h = h
word_starts w.Try h = h
word_starts w.Catch h = h
word_starts w.Finally h = h
word_starts w.Let h = h
word_starts w.Const h = h
word_starts _ h = tt

mark_starts : (x : Mark) → Begins (mark_role x) → Starts (mark_terminal x)
mark_starts m.CloseParen h = h
mark_starts m.CloseBrace h = h
mark_starts m.Semicolon h = h
mark_starts m.Comma h = h
mark_starts m.Equal h = h
mark_starts _ h = tt

token_starts : (o : Option Token) → Begins (role_of o) → Starts (terminal_of o)
token_starts None h = h
token_starts (Some (t.Reserved x n)) h = word_starts x h
token_starts (Some (t.Mark x)) h = mark_starts x h
token_starts (Some _) h = tt

pub starts : {ts : List Spanned} {l : ℕ} {a : Rose} {ds es : List ℕ} {i j : ℕ} → Stands ts l a ds es i j → Starts (terminal_at ts i)
starts {ts = ts} {i = i} d = token_starts (token_at ts i) (stands_begins d)

-- statements

-- what a statement may begin with
abbrev pub Opens : Terminal → Type 0
Opens p.Else = ⊥
Opens p.Catch = ⊥
Opens p.Finally = ⊥
Opens p.Close = ⊥
Opens p.CloseBrace = ⊥
Opens p.Comma = ⊥
Opens p.Becomes = ⊥
Opens p.End = ⊥
Opens _ = Unit {0}

-- and one that may stand below another
abbrev pub SubOpens : Terminal → Type 0
SubOpens p.Let = ⊥
SubOpens p.Const = ⊥
SubOpens p.Function = ⊥
SubOpens x = Opens x

starts_sub : (x : Terminal) → Starts x → (x ≡ p.Function → ⊥) → SubOpens x
starts_sub (p.Name n) h n' = tt
starts_sub p.Function h n = absurd (n refl)
starts_sub p.Open h n = tt
starts_sub p.OpenBrace h n = tt
starts_sub p.Other h n = tt
starts_sub _ h n = absurd h

open_sub : (x : Terminal) → SubOpens x → Opens x
open_sub p.Let h = tt
open_sub p.Const h = tt
open_sub p.Function h = tt
open_sub p.Else h = h
open_sub p.Catch h = h
open_sub p.Finally h = h
open_sub p.Close h = h
open_sub p.CloseBrace h = h
open_sub p.Comma h = h
open_sub p.Becomes h = h
open_sub p.End h = h
open_sub _ h = tt

module _ (ts : List Spanned) where
  word_opens : {i : ℕ} {x : Word} → WordAt ts i x → SubOpens (word_terminal x) → SubOpens (terminal_at ts i)
  word_opens h o = subst SubOpens (sym (word_there h)) o

  block_opens : {a : Rose} {i j : ℕ} → BlockOf ts a i j → SubOpens (terminal_at ts i)
  block_opens (block o d c) = subst SubOpens (sym (role_there o tt)) tt

  pub sub_opens : {a : Rose} {i j : ℕ} → Sub ts a i j → SubOpens (terminal_at ts i)
  sub_opens (sub_block d) = block_opens d
  sub_opens (empty e) = subst SubOpens (sym (role_there e tt)) tt
  sub_opens {i = i} (expression n n' d e) = starts_sub (terminal_at ts i) (starts d) (λ q. n'.differs ((means ts i p.Function q).is))
  sub_opens (if_then e o d c b x) = word_opens e tt
  sub_opens (if_else e o d c b x b') = word_opens e tt
  sub_opens (while_do e o d c b) = word_opens e tt
  sub_opens (do_while e b e' o d c s) = word_opens e tt
  sub_opens (for_loop e o x s y s' z c b) = word_opens e tt
  sub_opens (returns e s) = word_opens e tt
  sub_opens (returns_with e l d s) = word_opens e tt
  sub_opens (throw e l d s) = word_opens e tt
  sub_opens (break e s) = word_opens e tt
  sub_opens (continue e s) = word_opens e tt
  sub_opens (try e b x y n) = word_opens e tt

  lets_opens : {a : Rose} {i j : ℕ} → Lets ts a i j → Opens (terminal_at ts i)
  lets_opens (lets e d) = subst Opens (sym (word_there e)) tt

  pub statement_opens : {a : Rose} {i j : ℕ} → Statement ts a i j → Opens (terminal_at ts i)
  statement_opens {i = i} (sub d) = open_sub (terminal_at ts i) (sub_opens d)
  statement_opens (let_statement d s) = lets_opens d
  statement_opens (const e d s) = subst Opens (sym (word_there e)) tt
  statement_opens (declaration e n o d c b ss f) = subst Opens (sym (role_there e tt)) tt

-- moves

pub begins_sub : (x next third : Terminal) (after_line : Bool) → SubOpens x → begin_move x next third after_line ≡ sub_move x next after_line
begins_sub p.Let next third after_line h = absurd h
begins_sub p.Const next third after_line h = absurd h
begins_sub p.Function next third after_line h = absurd h
begins_sub _ next third after_line h = refl

pub expression_sub : (x next : Terminal) (after_line : Bool) → Starts x → (x ≡ p.OpenBrace → ⊥) → (x ≡ p.Function → ⊥) → sub_move x next after_line ≡ Enter f.Expression value 0
expression_sub (p.Name n) next after_line h b z = refl
expression_sub p.Function next after_line h b z = absurd (z refl)
expression_sub p.Open next after_line h b z = refl
expression_sub p.OpenBrace next after_line h b z = absurd (b refl)
expression_sub p.Other next after_line h b z = refl
expression_sub _ next after_line h b z = absurd h

pub starts_return : (x : Terminal) (after_line : Bool) → Starts x → return_move x after_line ≡ line_move after_line f.Return
starts_return p.Semicolon after_line h = absurd h
starts_return _ after_line h = refl

pub starts_first : (x : Terminal) → Starts x → first_move x ≡ Ask lv.Expr
starts_first p.Let h = absurd h
starts_first p.Semicolon h = absurd h
starts_first _ h = refl

pub starts_test : (a : Bool) (x : Terminal) → Starts x → test_move a x ≡ Ask lv.Expr
starts_test a p.Semicolon h = absurd h
starts_test a _ h = refl

pub starts_last : (a b : Bool) (x : Terminal) → Starts x → last_move a b x ≡ Ask lv.Expr
starts_last a b p.Close h = absurd h
starts_last a b _ h = refl

pub opens_on : (holder : Holder) (stop : Stop) (x : Terminal) → Opens x → closes holder x (stops_of stop x) ≡ false
opens_on ho.Top st.End p.End h = absurd h
opens_on ho.Top st.End _ h = refl
opens_on ho.Top st.Brace p.CloseBrace h = absurd h
opens_on ho.Top st.Brace _ h = refl
opens_on _ stop p.CloseBrace h = absurd h
opens_on _ stop _ h = refl

-- a word that begins no statement and ends no list
pub no_finally : (x : Terminal) → Opens x → x ≡ p.Finally → ⊥
no_finally x h e = subst Opens e h

pub closed_finally : (holder : Holder) (stop : Stop) (x : Terminal) → closes holder x (stops_of stop x) ≡ true → x ≡ p.Finally → ⊥
closed_finally holder stop x c e = each holder stop (subst (λ y. closes holder y (stops_of stop y) ≡ true) e c)
  where
    each : (holder : Holder) (stop : Stop) → closes holder p.Finally (stops_of stop p.Finally) ≡ true → ⊥
    each ho.Top st.End q = cc
    each ho.Top st.Brace q = cc
    each ho.Block stop q = cc
    each (ho.Body n x) stop q = cc
