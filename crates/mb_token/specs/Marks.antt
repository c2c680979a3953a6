-- Marks.
use Rattle.std.specs.Prelude.{ℕ, List, [], ◌∷◌, Option, find, codes, nat_eq}
use Rattle.std.specs.List.{starts_with}
use Rattle.mb_token.specs.declared.mark.Mark.{Mark}
use Rattle.mb_token.specs.declared.mark.Mark.TheVariants.{TripleEqual, NotDoubleEqual, Arrow, LessEqual, GreaterEqual, AndAnd, OrOr, PlusPlus, MinusMinus, PlusEqual, MinusEqual, TimesEqual, OpenBrace, CloseBrace, OpenParen, CloseParen, OpenBracket, CloseBracket, Dot, Semicolon, Comma, Less, Greater, Plus, Minus, Times, Slash, Percent, Not, Question, Colon, Equal}

-- how a mark is spelled
abbrev pub mark_text : Mark → List ℕ
mark_text TripleEqual = codes "==="
mark_text NotDoubleEqual = codes "!=="
mark_text Arrow = codes "=>"
mark_text LessEqual = codes "<="
mark_text GreaterEqual = codes ">="
mark_text AndAnd = codes "&&"
mark_text OrOr = codes "||"
mark_text PlusPlus = codes "++"
mark_text MinusMinus = codes "--"
mark_text PlusEqual = codes "+="
mark_text MinusEqual = codes "-="
mark_text TimesEqual = codes "*="
mark_text OpenBrace = codes "{"
mark_text CloseBrace = codes "}"
mark_text OpenParen = codes "("
mark_text CloseParen = codes ")"
mark_text OpenBracket = codes "["
mark_text CloseBracket = codes "]"
mark_text Dot = codes "."
mark_text Semicolon = codes ";"
mark_text Comma = codes ","
mark_text Less = codes "<"
mark_text Greater = codes ">"
mark_text Plus = codes "+"
mark_text Minus = codes "-"
mark_text Times = codes "*"
mark_text Slash = codes "/"
mark_text Percent = codes "%"
mark_text Not = codes "!"
mark_text Question = codes "?"
mark_text Colon = codes ":"
mark_text Equal = codes "="

-- each mark once, the longest first
abbrev pub marks : List Mark
marks =
    TripleEqual ∷ NotDoubleEqual ∷ Arrow ∷ LessEqual ∷ GreaterEqual ∷ AndAnd ∷ OrOr ∷ PlusPlus ∷ MinusMinus
    ∷ PlusEqual ∷ MinusEqual ∷ TimesEqual ∷ OpenBrace ∷ CloseBrace ∷ OpenParen ∷ CloseParen ∷ OpenBracket
    ∷ CloseBracket ∷ Dot ∷ Semicolon ∷ Comma ∷ Less ∷ Greater ∷ Plus ∷ Minus ∷ Times ∷ Slash ∷ Percent ∷ Not
    ∷ Question ∷ Colon ∷ Equal ∷ []

-- the longest mark with which these characters begin
abbrev pub mark_at : List ℕ → Option Mark
mark_at cs = find (λ m. starts_with nat_eq cs (mark_text m)) marks
