-- Tokens by their places, and what they are to the grammar of expressions.
use Rattle.std.specs.Prelude.{Bool, true, false, List, Option, Some, None, ◌≡◌, ℕ, slice_get}
use Rattle.mb_base.specs.declared.value.StrId.{StrId}
use Rattle.mb_token.specs.declared.token.Token.{Token}
use Rattle.mb_token.specs.declared.token.Token.TheVariants as t
use Rattle.mb_token.specs.declared.token.Spanned.{Spanned}
use Rattle.mb_token.specs.declared.mark.Mark.{Mark}
use Rattle.mb_token.specs.declared.mark.Mark.TheVariants as m
use Rattle.mb_token.specs.declared.word.Word.{Word}
use Rattle.mb_token.specs.declared.word.Word.TheVariants as w
use Rattle.mb_tree.specs.declared.kind.Fixed.TheVariants as x
use Rattle.mb_tree.specs.declared.kind.Sign.TheVariants as s
use Rattle.mb_grammar.specs.declared.role.Role.{Role}
use Rattle.mb_grammar.specs.declared.role.Role.TheVariants as r

-- a script's tokens (ECMA-262, 12)
abbrev pub Tokens : Type 0
Tokens = List Spanned

-- a place among them, from 0
abbrev pub Place : Type 0
Place = ℕ

-- what reserved words and marks are (12.7.2, 12.8)

abbrev pub word_role : Word → Role
word_role w.This = r.This
word_role w.True = r.Fixed x.True
word_role w.False = r.Fixed x.False
word_role w.Null = r.Fixed x.Null
word_role w.Undefined = r.Fixed x.Undefined
word_role w.Function = r.Function
word_role w.New = r.New
word_role w.Typeof = r.Prefix s.Typeof
word_role w.Delete = r.Prefix s.Delete
word_role w.In = r.Infix s.In
word_role w.Instanceof = r.Infix s.Instanceof
word_role _ = r.Other

abbrev pub mark_role : Mark → Role
mark_role m.TripleEqual = r.Infix s.TripleEqual
mark_role m.NotDoubleEqual = r.Infix s.NotDoubleEqual
mark_role m.LessEqual = r.Infix s.LessEqual
mark_role m.GreaterEqual = r.Infix s.GreaterEqual
mark_role m.Less = r.Infix s.Less
mark_role m.Greater = r.Infix s.Greater
mark_role m.Plus = r.Infix s.Plus
mark_role m.Minus = r.Infix s.Minus
mark_role m.Times = r.Infix s.Times
mark_role m.Slash = r.Infix s.Slash
mark_role m.Percent = r.Infix s.Percent
mark_role m.Not = r.Prefix s.Not
mark_role m.OrOr = r.Or
mark_role m.AndAnd = r.And
mark_role m.PlusPlus = r.Step true
mark_role m.MinusMinus = r.Step false
mark_role m.Equal = r.Becomes
mark_role m.PlusEqual = r.Compound s.Plus
mark_role m.MinusEqual = r.Compound s.Minus
mark_role m.TimesEqual = r.Compound s.Times
mark_role m.Question = r.Question
mark_role m.Colon = r.Colon
mark_role m.Comma = r.Comma
mark_role m.Dot = r.Dot
mark_role m.Arrow = r.Arrow
mark_role m.OpenParen = r.Open
mark_role m.CloseParen = r.Close
mark_role m.OpenBracket = r.OpenSquare
mark_role m.CloseBracket = r.CloseSquare
mark_role m.OpenBrace = r.OpenBrace
mark_role m.CloseBrace = r.CloseBrace
mark_role m.Semicolon = r.Semicolon

abbrev pub role_of : Option Token → Role
role_of None = r.Other
role_of (Some (t.Name n)) = r.Name n
role_of (Some (t.Soft o n)) = r.Name n
role_of (Some (t.Reserved w n)) = word_role w
role_of (Some (t.Whole n)) = r.Number n
role_of (Some (t.Text n)) = r.Text n
role_of (Some (t.Mark m)) = mark_role m

abbrev pub token_of : Option Spanned → Option Token
token_of None = None
token_of (Some s) = Some s.token

abbrev pub line_of : Option Spanned → Bool
line_of None = false
line_of (Some s) = s.after_line

abbrev pub token_at : Tokens → Place → Option Token
token_at ts i = token_of (slice_get ts i)

abbrev pub role_at : Tokens → Place → Role
role_at ts i = role_of (token_at ts i)

-- a line end stands before the token
abbrev pub after_line_at : Tokens → Place → Bool
after_line_at ts i = line_of (slice_get ts i)

-- what stands at a place

-- this token
pub record TokenAt (ts : Tokens) (i : Place) (t : Token) : Type 0 where
  pub is : token_at ts i ≡ Some t

-- a token of this role
pub record RoleAt (ts : Tokens) (i : Place) (role : Role) : Type 0 where
  pub is : role_at ts i ≡ role

-- a token with no line end before it (12.10)
pub record SameLine (ts : Tokens) (i : Place) : Type 0 where
  pub is : after_line_at ts i ≡ false

-- this reserved word
pub record WordAt (ts : Tokens) (i : Place) (w : Word) : Type 0 where
  pub text : StrId
  pub is : token_at ts i ≡ Some (t.Reserved w text)

-- no token of this role
pub record NoRoleAt (ts : Tokens) (i : Place) (role : Role) : Type 0 where
  pub differs : role_at ts i ≡ role → ⊥
