-- What tokens hold, by their roles.
use Rattle.mb_frames.specs.Grammatical.{asks_objects}
use Rattle.mb_grammar.specs.Tokens.{Tokens, Place, RoleAt, mark_role, role_of, token_at, word_role}
use Rattle.mb_grammar.specs.declared.role.Role.{Role}
use Rattle.mb_grammar.specs.declared.role.Role.TheVariants as r
use Rattle.mb_lexer.specs.Reading.{HasTokens, Lexeme, Reads, end}
use Rattle.mb_lexer.specs.Shown.{AreSeen, Shows}
use Rattle.mb_lexer.specs.Strings.{number_of}
use Rattle.mb_lexer.specs.Tokens.{Content, IsToken, is_whole as is_whole_text, mark, name, reserved, soft, text, whole}
use Rattle.mb_token.specs.declared.mark.Mark.{Mark}
use Rattle.mb_token.specs.declared.mark.Mark.TheVariants as m
use Rattle.mb_token.specs.declared.token.Spanned.{Spanned}
use Rattle.mb_token.specs.declared.token.Token.{Token}
use Rattle.mb_token.specs.declared.token.Token.TheVariants as t
use Rattle.mb_token.specs.declared.word.Word.{Word}
use Rattle.mb_token.specs.declared.word.Word.TheVariants as w
use Rattle.mb_world.specs.Formed.{is_whole}
use Rattle.mb_world.specs.Ids.{Maybe}
use Rattle.std.proofs.Common.{Bool, List, None, Option, Some, [], arith, false, length, pos, refl, subst, suc, sym}
use Rattle.std.proofs.Common.{true, zero, ℕ, ◌<◌, ◌∷◌, ◌≡◌}
use Rattle.std.specs.Prelude.{nat_le, ◌^◌}
use Rattle.std.proofs.lemmas.Bool.{and_parts, leb-true, lt-ltb}
use Rattle.std.proofs.lemmas.Option.{slice_get_within}
use Rattle.std.specs.Str.{chars}

-- ---- what a token holds, where there are n texts

abbrev pub TokenIn : ℕ → Token → Type 0
TokenIn n (t.Name id) = id.0 < n
TokenIn n (t.Soft s id) = id.0 < n
TokenIn n (t.Reserved w id) = id.0 < n
TokenIn n (t.Whole z) = is_whole z ≡ true
TokenIn n (t.Text id) = id.0 < n
TokenIn n (t.Mark k) = Unit {0}

abbrev pub RoleIn : ℕ → Role → Type 0
RoleIn n (r.Name id) = id.0 < n
RoleIn n (r.Text id) = id.0 < n
RoleIn n (r.Number z) = is_whole z ≡ true
RoleIn n (r.Compound sign) = asks_objects sign ≡ false
RoleIn n _ = Unit {0}

word-in : (n : ℕ) (x : Word) → RoleIn n (word_role x)
word-in n w.Arguments = tt
word-in n w.Await = tt
word-in n w.Break = tt
word-in n w.Case = tt
word-in n w.Catch = tt
word-in n w.Class = tt
word-in n w.Const = tt
word-in n w.Continue = tt
word-in n w.Debugger = tt
word-in n w.Default = tt
word-in n w.Delete = tt
word-in n w.Do = tt
word-in n w.Else = tt
word-in n w.Enum = tt
word-in n w.Eval = tt
word-in n w.Export = tt
word-in n w.Extends = tt
word-in n w.False = tt
word-in n w.Finally = tt
word-in n w.For = tt
word-in n w.Function = tt
word-in n w.If = tt
word-in n w.Implements = tt
word-in n w.Import = tt
word-in n w.In = tt
word-in n w.Instanceof = tt
word-in n w.Interface = tt
word-in n w.Let = tt
word-in n w.New = tt
word-in n w.Null = tt
word-in n w.Package = tt
word-in n w.Private = tt
word-in n w.Protected = tt
word-in n w.Public = tt
word-in n w.Return = tt
word-in n w.Static = tt
word-in n w.Super = tt
word-in n w.Switch = tt
word-in n w.This = tt
word-in n w.Throw = tt
word-in n w.True = tt
word-in n w.Try = tt
word-in n w.Typeof = tt
word-in n w.Undefined = tt
word-in n w.Var = tt
word-in n w.Void = tt
word-in n w.While = tt
word-in n w.With = tt
word-in n w.Yield = tt

mark-in : (n : ℕ) (x : Mark) → RoleIn n (mark_role x)
mark-in n m.TripleEqual = tt
mark-in n m.NotDoubleEqual = tt
mark-in n m.Arrow = tt
mark-in n m.LessEqual = tt
mark-in n m.GreaterEqual = tt
mark-in n m.AndAnd = tt
mark-in n m.OrOr = tt
mark-in n m.PlusPlus = tt
mark-in n m.MinusMinus = tt
mark-in n m.PlusEqual = refl
mark-in n m.MinusEqual = refl
mark-in n m.TimesEqual = refl
mark-in n m.OpenBrace = tt
mark-in n m.CloseBrace = tt
mark-in n m.OpenParen = tt
mark-in n m.CloseParen = tt
mark-in n m.OpenBracket = tt
mark-in n m.CloseBracket = tt
mark-in n m.Dot = tt
mark-in n m.Semicolon = tt
mark-in n m.Comma = tt
mark-in n m.Less = tt
mark-in n m.Greater = tt
mark-in n m.Plus = tt
mark-in n m.Minus = tt
mark-in n m.Times = tt
mark-in n m.Slash = tt
mark-in n m.Percent = tt
mark-in n m.Not = tt
mark-in n m.Question = tt
mark-in n m.Colon = tt
mark-in n m.Equal = tt

role-in : (n : ℕ) (o : Option Token) → Maybe (TokenIn n) o → RoleIn n (role_of o)
role-in n None h = tt
role-in n (Some (t.Name id)) h = h
role-in n (Some (t.Soft s id)) h = h
role-in n (Some (t.Reserved x id)) h = word-in n x
role-in n (Some (t.Whole z)) h = h
role-in n (Some (t.Text id)) h = h
role-in n (Some (t.Mark x)) h = mark-in n x

-- ---- the tokens of a script

-- each holds what it may
pub record AreIn (n : ℕ) (ts : Tokens) : Type 0 where
  pub tokens : (i : Place) → Maybe (TokenIn n) (token_at ts i)

pub at-role : (n : ℕ) (ts : Tokens) (i : Place) (role : Role) → AreIn n ts → RoleAt ts i role → RoleIn n role
at-role n ts i role h q = subst (λ (x : Role). RoleIn n x) q.is (role-in n (token_at ts i) (h.tokens i))

pub at-token : (n : ℕ) (ts : Tokens) (i : Place) (x : Token) → AreIn n ts → token_at ts i ≡ Some x → TokenIn n x
at-token n ts i x h e = subst (λ (o : Option Token). Maybe (TokenIn n) o) e (h.tokens i)

-- ---- what was read

whole-fits : (cs : List ℕ) (k : ℕ) → is_whole_text cs ≡ true → k ≡ number_of 10 cs → is_whole (pos k) ≡ true
whole-fits [] k h e = cc
whole-fits (c ∷ cs) k h e =
    let most : nat_le (number_of 10 (c ∷ cs)) 9007199254740991 ≡ true = (and_parts _ _ h).1 in
    lt-ltb k (2 ^ 53) (omega (arith, e, leb-true (number_of 10 (c ∷ cs)) 9007199254740991 most))

shown-in : (texts : List (List ℕ)) (x : Token) (c : Content) (cs rest : List ℕ) → Shows texts x c → IsToken c cs rest
    → TokenIn (length texts) x
shown-in texts (t.Name id) (name us) cs rest s h = slice_get_within texts id.0 us s
shown-in texts (t.Name id) (soft b us) cs rest s h = absurd s
shown-in texts (t.Name id) (reserved b us) cs rest s h = absurd s
shown-in texts (t.Name id) (whole k) cs rest s h = absurd s
shown-in texts (t.Name id) (text us) cs rest s h = absurd s
shown-in texts (t.Name id) (mark b) cs rest s h = absurd s
shown-in texts (t.Soft a id) (name us) cs rest s h = absurd s
shown-in texts (t.Soft a id) (soft b us) cs rest s h = slice_get_within texts id.0 us s.1
shown-in texts (t.Soft a id) (reserved b us) cs rest s h = absurd s
shown-in texts (t.Soft a id) (whole k) cs rest s h = absurd s
shown-in texts (t.Soft a id) (text us) cs rest s h = absurd s
shown-in texts (t.Soft a id) (mark b) cs rest s h = absurd s
shown-in texts (t.Reserved a id) (name us) cs rest s h = absurd s
shown-in texts (t.Reserved a id) (soft b us) cs rest s h = absurd s
shown-in texts (t.Reserved a id) (reserved b us) cs rest s h = slice_get_within texts id.0 us s.1
shown-in texts (t.Reserved a id) (whole k) cs rest s h = absurd s
shown-in texts (t.Reserved a id) (text us) cs rest s h = absurd s
shown-in texts (t.Reserved a id) (mark b) cs rest s h = absurd s
shown-in texts (t.Whole z) (name us) cs rest s h = absurd s
shown-in texts (t.Whole z) (soft b us) cs rest s h = absurd s
shown-in texts (t.Whole z) (reserved b us) cs rest s h = absurd s
shown-in texts (t.Whole z) (whole k) cs rest s h = subst (λ y. is_whole y ≡ true) (sym s) (whole-fits cs k h.0 h.1)
shown-in texts (t.Whole z) (text us) cs rest s h = absurd s
shown-in texts (t.Whole z) (mark b) cs rest s h = absurd s
shown-in texts (t.Text id) (name us) cs rest s h = absurd s
shown-in texts (t.Text id) (soft b us) cs rest s h = absurd s
shown-in texts (t.Text id) (reserved b us) cs rest s h = absurd s
shown-in texts (t.Text id) (whole k) cs rest s h = absurd s
shown-in texts (t.Text id) (text us) cs rest s h = slice_get_within texts id.0 us s
shown-in texts (t.Text id) (mark b) cs rest s h = absurd s
shown-in texts (t.Mark a) (name us) cs rest s h = absurd s
shown-in texts (t.Mark a) (soft b us) cs rest s h = absurd s
shown-in texts (t.Mark a) (reserved b us) cs rest s h = absurd s
shown-in texts (t.Mark a) (whole k) cs rest s h = absurd s
shown-in texts (t.Mark a) (text us) cs rest s h = absurd s
shown-in texts (t.Mark a) (mark b) cs rest s h = tt

seen-in : (texts : List (List ℕ)) (at : ℕ) (line : Bool) (cs : List ℕ) (ss : List Spanned) (ls : List Lexeme)
    → AreSeen texts ss ls → Reads at line cs ls end → (i : Place) → Maybe (TokenIn (length texts)) (token_at ss i)
seen-in texts at line cs [] [] s r i = tt
seen-in texts at line cs [] (l ∷ ls) s r i = absurd s
seen-in texts at line cs (x ∷ xs) [] s r i = absurd s
seen-in texts at line cs (x ∷ xs) (l ∷ ls) s r zero = shown-in texts x.token l.content r.1 r.2 s.0.token r.4
seen-in texts at line cs (x ∷ xs) (l ∷ ls) s r (suc i) = seen-in texts l.to false r.2 xs ls s.1 r.8 i

pub read-in : (texts : List (List ℕ)) (bytes : List ℕ) (ss : List Spanned) (ls : List Lexeme) → HasTokens bytes ls
    → AreSeen texts ss ls → AreIn (length texts) ss
read-in texts bytes ss ls h s = record { tokens = seen-in texts 0 false (chars bytes) ss ls s h.1 }
