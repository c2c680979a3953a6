-- What stands in the tokens, by what it is to the grammar of statements.
use Rattle.std.proofs.Common.{◌≡◌, ℕ, List, Option, Some, None, refl, sym, ap, subst, ◌∙◌}
use Rattle.mb_base.specs.declared.value.StrId.{StrId}
use Rattle.mb_token.specs.declared.token.Token.{Token}
use Rattle.mb_token.specs.declared.token.Token.TheVariants as t
use Rattle.mb_token.specs.declared.token.Spanned.{Spanned}
use Rattle.mb_token.specs.declared.mark.Mark.{Mark}
use Rattle.mb_token.specs.declared.mark.Mark.TheVariants as m
use Rattle.mb_token.specs.declared.word.Word.{Word}
use Rattle.mb_token.specs.declared.word.Word.TheVariants as w
use Rattle.mb_grammar.specs.declared.role.Role.{Role}
use Rattle.mb_grammar.specs.declared.role.Role.TheVariants as r
use Rattle.mb_grammar.specs.Tokens.{role_of, word_role, mark_role, token_at, RoleAt, NoRoleAt, WordAt}
use Rattle.mb_parse_stmt.specs.declared.terminal.Terminal.{Terminal}
use Rattle.mb_parse_stmt.specs.declared.terminal.Terminal.TheVariants as p
use Rattle.mb_parse_stmt.specs.machine.Terminals.{word_terminal, mark_terminal, terminal_of, terminal_at}

-- from a terminal to the token

abbrev pub Means : List Spanned → ℕ → Terminal → Type 0
Means ts i (p.Name n) = RoleAt ts i (r.Name n)
Means ts i p.If = WordAt ts i w.If
Means ts i p.Else = WordAt ts i w.Else
Means ts i p.While = WordAt ts i w.While
Means ts i p.Do = WordAt ts i w.Do
Means ts i p.For = WordAt ts i w.For
Means ts i p.Return = WordAt ts i w.Return
Means ts i p.Throw = WordAt ts i w.Throw
Means ts i p.Break = WordAt ts i w.Break
Means ts i p.Continue = WordAt ts i w.Continue
Means ts i p.Try = WordAt ts i w.Try
Means ts i p.Catch = WordAt ts i w.Catch
Means ts i p.Finally = WordAt ts i w.Finally
Means ts i p.Let = WordAt ts i w.Let
Means ts i p.Const = WordAt ts i w.Const
Means ts i p.Function = RoleAt ts i r.Function
Means ts i p.Open = RoleAt ts i r.Open
Means ts i p.Close = RoleAt ts i r.Close
Means ts i p.OpenBrace = RoleAt ts i r.OpenBrace
Means ts i p.CloseBrace = RoleAt ts i r.CloseBrace
Means ts i p.Semicolon = RoleAt ts i r.Semicolon
Means ts i p.Comma = RoleAt ts i r.Comma
Means ts i p.Becomes = RoleAt ts i r.Becomes
Means ts i p.End = token_at ts i ≡ None
Means ts i p.Other = Unit {0}

word_means : (ts : List Spanned) (i : ℕ) (x : Word) (n : StrId) → token_at ts i ≡ Some (t.Reserved x n) → Means ts i (word_terminal x)
word_means ts i w.If n e = record { text = n; is = e }
word_means ts i w.Else n e = record { text = n; is = e }
word_means ts i w.While n e = record { text = n; is = e }
word_means ts i w.Do n e = record { text = n; is = e }
word_means ts i w.For n e = record { text = n; is = e }
word_means ts i w.Return n e = record { text = n; is = e }
word_means ts i w.Throw n e = record { text = n; is = e }
word_means ts i w.Break n e = record { text = n; is = e }
word_means ts i w.Continue n e = record { text = n; is = e }
word_means ts i w.Try n e = record { text = n; is = e }
word_means ts i w.Catch n e = record { text = n; is = e }
word_means ts i w.Finally n e = record { text = n; is = e }
word_means ts i w.Let n e = record { text = n; is = e }
word_means ts i w.Const n e = record { text = n; is = e }
word_means ts i w.Function n e = record { is = ap role_of e }
word_means ts i _ n e = tt

mark_means : (ts : List Spanned) (i : ℕ) (x : Mark) → token_at ts i ≡ Some (t.Mark x) → Means ts i (mark_terminal x)
mark_means ts i m.OpenParen e = record { is = ap role_of e }
mark_means ts i m.CloseParen e = record { is = ap role_of e }
mark_means ts i m.OpenBrace e = record { is = ap role_of e }
mark_means ts i m.CloseBrace e = record { is = ap role_of e }
mark_means ts i m.Semicolon e = record { is = ap role_of e }
mark_means ts i m.Comma e = record { is = ap role_of e }
mark_means ts i m.Equal e = record { is = ap role_of e }
mark_means ts i _ e = tt

token_means : (ts : List Spanned) (i : ℕ) (o : Option Token) → token_at ts i ≡ o → Means ts i (terminal_of o)
token_means ts i None e = e
token_means ts i (Some (t.Name n)) e = record { is = ap role_of e }
token_means ts i (Some (t.Soft o n)) e = record { is = ap role_of e }
token_means ts i (Some (t.Reserved x n)) e = word_means ts i x n e
token_means ts i (Some (t.Mark x)) e = mark_means ts i x e
token_means ts i (Some _) e = tt

pub means : (ts : List Spanned) (i : ℕ) (x : Terminal) → terminal_at ts i ≡ x → Means ts i x
means ts i x e = subst (Means ts i) e (token_means ts i (token_at ts i) refl)

-- from a token to its terminal

pub word_there : {ts : List Spanned} {i : ℕ} {x : Word} → WordAt ts i x → terminal_at ts i ≡ word_terminal x
word_there h = ap terminal_of h.is

abbrev pub role_terminal : Role → Terminal
role_terminal (r.Name n) = p.Name n
role_terminal r.Function = p.Function
role_terminal r.Open = p.Open
role_terminal r.Close = p.Close
role_terminal r.OpenBrace = p.OpenBrace
role_terminal r.CloseBrace = p.CloseBrace
role_terminal r.Semicolon = p.Semicolon
role_terminal r.Comma = p.Comma
role_terminal r.Becomes = p.Becomes
role_terminal _ = p.Other

-- a role that is a terminal
abbrev pub Shows : Role → Type 0
Shows (r.Name n) = Unit {0}
Shows r.Function = Unit {0}
Shows r.Open = Unit {0}
Shows r.Close = Unit {0}
Shows r.OpenBrace = Unit {0}
Shows r.CloseBrace = Unit {0}
Shows r.Semicolon = Unit {0}
Shows r.Comma = Unit {0}
Shows r.Becomes = Unit {0}
Shows _ = ⊥

word_shows : (x : Word) → Shows (word_role x) → word_terminal x ≡ role_terminal (word_role x)
word_shows w.Function h = refl
word_shows _ h = absurd h

mark_shows : (x : Mark) → Shows (mark_role x) → mark_terminal x ≡ role_terminal (mark_role x)
mark_shows m.OpenParen h = refl
mark_shows m.CloseParen h = refl
mark_shows m.OpenBrace h = refl
mark_shows m.CloseBrace h = refl
mark_shows m.Semicolon h = refl
mark_shows m.Comma h = refl
mark_shows m.Equal h = refl
mark_shows _ h = absurd h

token_shows : (o : Option Token) → Shows (role_of o) → terminal_of o ≡ role_terminal (role_of o)
token_shows None h = absurd h
token_shows (Some (t.Name n)) h = refl
token_shows (Some (t.Soft o n)) h = refl
token_shows (Some (t.Reserved x n)) h = word_shows x h
token_shows (Some (t.Mark x)) h = mark_shows x h
token_shows (Some _) h = absurd h

pub role_there : {ts : List Spanned} {i : ℕ} {role : Role} → RoleAt ts i role → Shows role → terminal_at ts i ≡ role_terminal role
role_there {ts = ts} {i = i} h s = token_shows (token_at ts i) (subst Shows (sym h.is) s) ∙ ap role_terminal h.is

pub no_role : (ts : List Spanned) (i : ℕ) (role : Role) (x : Terminal) → Shows role → terminal_at ts i ≡ x → (x ≡ role_terminal role → ⊥) → NoRoleAt ts i role
no_role ts i role x s e h = record { differs = λ q. h (sym e ∙ role_there {ts = ts} {i = i} (record { is = q }) s) }
