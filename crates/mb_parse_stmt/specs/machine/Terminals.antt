-- What tokens are to the grammar of statements.
use Rattle.std.specs.Prelude.{ℕ, List, Option, Some, None}
use Rattle.mb_token.specs.declared.token.Token.{Token}
use Rattle.mb_token.specs.declared.token.Token.TheVariants as t
use Rattle.mb_token.specs.declared.token.Spanned.{Spanned}
use Rattle.mb_token.specs.declared.mark.Mark.{Mark}
use Rattle.mb_token.specs.declared.mark.Mark.TheVariants as m
use Rattle.mb_token.specs.declared.word.Word.{Word}
use Rattle.mb_token.specs.declared.word.Word.TheVariants as w
use Rattle.mb_grammar.specs.Tokens.{token_at}
use Rattle.mb_parse_stmt.specs.declared.terminal.Terminal.{Terminal}
use Rattle.mb_parse_stmt.specs.declared.terminal.Terminal.TheVariants as p

abbrev pub word_terminal : Word → Terminal
word_terminal w.If = p.If
word_terminal w.Else = p.Else
word_terminal w.While = p.While
word_terminal w.Do = p.Do
word_terminal w.For = p.For
word_terminal w.Return = p.Return
word_terminal w.Throw = p.Throw
word_terminal w.Break = p.Break
word_terminal w.Continue = p.Continue
word_terminal w.Try = p.Try
word_terminal w.Catch = p.Catch
word_terminal w.Finally = p.Finally
word_terminal w.Let = p.Let
word_terminal w.Const = p.Const
word_terminal w.Function = p.Function
word_terminal _ = p.Other

abbrev pub mark_terminal : Mark → Terminal
mark_terminal m.OpenParen = p.Open
mark_terminal m.CloseParen = p.Close
mark_terminal m.OpenBrace = p.OpenBrace
mark_terminal m.CloseBrace = p.CloseBrace
mark_terminal m.Semicolon = p.Semicolon
mark_terminal m.Comma = p.Comma
mark_terminal m.Equal = p.Becomes
mark_terminal _ = p.Other

abbrev pub terminal_of : Option Token → Terminal
terminal_of None = p.End
terminal_of (Some (t.Name n)) = p.Name n
terminal_of (Some (t.Soft o n)) = p.Name n
terminal_of (Some (t.Reserved w n)) = word_terminal w
terminal_of (Some (t.Mark m)) = mark_terminal m
terminal_of (Some _) = p.Other

abbrev pub terminal_at : List Spanned → ℕ → Terminal
terminal_at ts i = terminal_of (token_at ts i)
