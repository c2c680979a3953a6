-- Tokens of the whole language: how many there are, and that a table holds their texts.
use Rattle.std.proofs.Common.{◌≡◌, ℕ, ◌+◌, ◌≤◌, Bool, false, true≢false, List, [], ◌∷◌, ◌++◌, suc, length, refl, sym, ap, subst, ◌∙◌, arith}
use Rattle.std.specs.List.{flat_map}
use Rattle.std.specs.Str.{chars}
use Rattle.std.proofs.lemmas.Str.{len_utf8_bounds, encodes-chars}
use Rattle.mb_token.specs.declared.mark.Mark.{Mark}
use Rattle.mb_token.specs.declared.mark.Mark.TheVariants as m
use Rattle.mb_token.specs.Marks.{mark_text}
use Rattle.mb_lexer.specs.Characters.{width}
use Rattle.mb_lexer.specs.Parts.{part_text}
use Rattle.mb_lexer.specs.Tokens.{Content, name, soft, reserved, whole, text, mark, IsToken}
use Rattle.mb_lexer.specs.Reading.{Lexeme, end, Reads, HasTokens}
use Rattle.mb_lexer.specs.Shown.{AreSeen}
use Rattle.mb_lexer.proofs.Parting.{width-append}
use Rattle.mb_lexer.proofs.Tiling.{width-bytes}
use Rattle.mb_token.specs.declared.token.Spanned.{Spanned}
use Rattle.mb_text.specs.Texts.{AreDistinct}
use Rattle.mb_load_tree.specs.Trees.{AreTokens}

mark_some : (k : Mark) → [] ≡ mark_text k → ⊥
mark_some m.TripleEqual e = cc
mark_some m.NotDoubleEqual e = cc
mark_some m.Arrow e = cc
mark_some m.LessEqual e = cc
mark_some m.GreaterEqual e = cc
mark_some m.AndAnd e = cc
mark_some m.OrOr e = cc
mark_some m.PlusPlus e = cc
mark_some m.MinusMinus e = cc
mark_some m.PlusEqual e = cc
mark_some m.MinusEqual e = cc
mark_some m.TimesEqual e = cc
mark_some m.OpenBrace e = cc
mark_some m.CloseBrace e = cc
mark_some m.OpenParen e = cc
mark_some m.CloseParen e = cc
mark_some m.OpenBracket e = cc
mark_some m.CloseBracket e = cc
mark_some m.Dot e = cc
mark_some m.Semicolon e = cc
mark_some m.Comma e = cc
mark_some m.Less e = cc
mark_some m.Greater e = cc
mark_some m.Plus e = cc
mark_some m.Minus e = cc
mark_some m.Times e = cc
mark_some m.Slash e = cc
mark_some m.Percent e = cc
mark_some m.Not e = cc
mark_some m.Question e = cc
mark_some m.Colon e = cc
mark_some m.Equal e = cc

-- a token has a character
token_some : (t : Content) (rest : List ℕ) → IsToken t [] rest → ⊥
token_some (name us) rest is = true≢false (sym is.0.form)
token_some (soft s us) rest is = true≢false (sym is.0.form)
token_some (reserved w us) rest is = true≢false (sym is.0.form)
token_some (whole n) rest is = true≢false (sym is.0)
token_some (text us) rest is = let e = is.form in cc
token_some (mark k) rest is = mark_some k is.0

wide : (t : Content) (cs rest : List ℕ) → IsToken t cs rest → 1 ≤ width cs
wide t [] rest is = absurd (token_some t rest is)
wide t (c ∷ cs) rest is = let b : (1 ≤ _) × (_ ≤ 4) = len_utf8_bounds c in omega arith

few_characters : (ts : List Lexeme) (at : ℕ) (line : Bool) (cs : List ℕ) → Reads at line cs ts end → length ts ≤ width cs
few_characters [] at line cs reads = omega arith
few_characters (t ∷ ts) at line cs (parts, token, rest, parted, is, from, to, after, more) =
    let those : length ts ≤ width rest = few_characters ts t.to false rest more in
    let one : 1 ≤ width token = wide t.content token rest is in
    let all : width cs ≡ width (flat_map part_text parts) + (width token + width rest)
    = ap width parted.whole ∙ width-append (flat_map part_text parts) (token ++ rest) ∙ ap (λ n. width (flat_map part_text parts) + n) (width-append token rest) in
    omega arith

-- there are no more tokens than bytes
few_lexemes : (bytes : List ℕ) (ts : List Lexeme) → HasTokens bytes ts → length ts ≤ length bytes
few_lexemes bytes ts has =
    let some = few_characters ts 0 false (chars bytes) has.1 in
    let same : width (chars bytes) ≡ length bytes = width-bytes (chars bytes) ∙ ap length (encodes-chars bytes has.0) in
    omega arith

seen_length : (texts : List (List ℕ)) (tokens : List Spanned) (ts : List Lexeme) → AreSeen texts tokens ts → length tokens ≡ length ts
seen_length texts [] [] seen = refl
seen_length texts (s ∷ tokens) (t ∷ ts) seen = ap suc (seen_length texts tokens ts seen.1)
seen_length texts tokens ts seen = absurd seen

pub few_tokens : (bytes : List ℕ) (texts : List (List ℕ)) (tokens : List Spanned) (ts : List Lexeme) → HasTokens bytes ts → AreSeen texts tokens ts → length tokens ≤ length bytes
few_tokens bytes texts tokens ts has seen = let few = few_lexemes bytes ts has in let same = seen_length texts tokens ts seen in omega arith

-- the tokens that a lexer found are the bytes'
pub are_tokens : (texts : List (List ℕ)) (bytes : List ℕ) (tokens read : List Spanned) → (ts : List Lexeme) × HasTokens bytes ts × AreSeen texts tokens ts
    → read ≡ tokens → AreDistinct texts → AreTokens texts bytes read
are_tokens texts bytes tokens read (ts, has, seen) is distinct =
    record { lexemes = ts; has = has; seen = subst (λ x. AreSeen texts x ts) (sym is) seen; distinct = distinct }
