-- Tokens of one list of lexemes over two tables of texts, and that there is a table.
use Rattle.std.proofs.Common.{◌≡◌, ℕ, List, [], ◌∷◌, refl, sym, ap, ap₂, ◌∙◌, pos}
use Rattle.mb_token.specs.declared.token.Token.{Token}
use Rattle.mb_token.specs.declared.token.Token.TheVariants as t
use Rattle.mb_token.specs.declared.token.Spanned.{Spanned}
use Rattle.mb_token.specs.declared.word.Word.{Word}
use Rattle.mb_token.specs.declared.word.Soft.{Soft}
use Rattle.mb_token.specs.declared.mark.Mark.{Mark}
use Rattle.mb_text.specs.Texts.{AreDistinct, KeepsIds}
use Rattle.mb_text.proofs.Kept.{keeps_ids_none}
use Rattle.mb_lexer.specs.Tokens.{Content, name, soft, reserved, whole, text, mark}
use Rattle.mb_lexer.specs.Reading.{Lexeme}
use Rattle.mb_lexer.specs.Shown.{Shows, IsSeen, AreSeen}
use Rattle.mb_lexer.proofs.Seen.{seen_kept}
use Rattle.mb_grammar.specs.Renaming.{renamed_token, renamed_spanned, renamed_tokens}
use Rattle.mb_cli.proofs.Tables.{moved, moved_to, holds, no_texts}

module _ (texts others : List (List ℕ)) (distinct : AreDistinct others) where
  of_name : (a b : Token) (us : List ℕ) → Shows texts a (name us) → Shows others b (name us) → renamed_token (moved texts others) a ≡ b
  of_name (t.Name i) (t.Name j) us p q = ap t.Name (moved_to texts others i j us distinct p q)
  of_name (t.Name i) b us p q = absurd q
  of_name a b us p q = absurd p

  of_text : (a b : Token) (us : List ℕ) → Shows texts a (text us) → Shows others b (text us) → renamed_token (moved texts others) a ≡ b
  of_text (t.Text i) (t.Text j) us p q = ap t.Text (moved_to texts others i j us distinct p q)
  of_text (t.Text i) b us p q = absurd q
  of_text a b us p q = absurd p

  of_soft : (a b : Token) (s : Soft) (us : List ℕ) → Shows texts a (soft s us) → Shows others b (soft s us) → renamed_token (moved texts others) a ≡ b
  of_soft (t.Soft x i) (t.Soft y j) s us p q = ap₂ t.Soft (p.0 ∙ sym q.0) (moved_to texts others i j us distinct p.1 q.1)
  of_soft (t.Soft x i) b s us p q = absurd q
  of_soft a b s us p q = absurd p

  of_word : (a b : Token) (w : Word) (us : List ℕ) → Shows texts a (reserved w us) → Shows others b (reserved w us) → renamed_token (moved texts others) a ≡ b
  of_word (t.Reserved x i) (t.Reserved y j) w us p q = ap₂ t.Reserved (p.0 ∙ sym q.0) (moved_to texts others i j us distinct p.1 q.1)
  of_word (t.Reserved x i) b w us p q = absurd q
  of_word a b w us p q = absurd p

  of_whole : (a b : Token) (n : ℕ) → Shows texts a (whole n) → Shows others b (whole n) → renamed_token (moved texts others) a ≡ b
  of_whole (t.Whole x) (t.Whole y) n p q = ap t.Whole (p ∙ sym q)
  of_whole (t.Whole x) b n p q = absurd q
  of_whole a b n p q = absurd p

  of_mark : (a b : Token) (k : Mark) → Shows texts a (mark k) → Shows others b (mark k) → renamed_token (moved texts others) a ≡ b
  of_mark (t.Mark x) (t.Mark y) k p q = ap t.Mark (p ∙ sym q)
  of_mark (t.Mark x) b k p q = absurd q
  of_mark a b k p q = absurd p

  token_moved : (a b : Token) (c : Content) → Shows texts a c → Shows others b c → renamed_token (moved texts others) a ≡ b
  token_moved a b (name us) p q = of_name a b us p q
  token_moved a b (soft s us) p q = of_soft a b s us p q
  token_moved a b (reserved w us) p q = of_word a b w us p q
  token_moved a b (whole n) p q = of_whole a b n p q
  token_moved a b (text us) p q = of_text a b us p q
  token_moved a b (mark k) p q = of_mark a b k p q

  spanned_moved : (a b : Spanned) (l : Lexeme) → IsSeen texts a l → IsSeen others b l → renamed_spanned (moved texts others) a ≡ b
  spanned_moved a b l p q = λ i. record {
    token = token_moved a.token b.token l.content p.token q.token i;
    from = (p.from ∙ sym q.from) i;
    to = (p.to ∙ sym q.to) i;
    after_line = (p.after_line ∙ sym q.after_line) i;
  }

  -- the tokens over one table, with their ids moved, are those over the other
  pub tokens_moved : (xs ys : List Spanned) (ls : List Lexeme) → AreSeen texts xs ls → AreSeen others ys ls → renamed_tokens (moved texts others) xs ≡ ys
  tokens_moved [] [] [] p q = refl
  tokens_moved (x ∷ xs) (y ∷ ys) (l ∷ ls) p q = ap₂ (λ z zs. z ∷ zs) (spanned_moved x y l p.0 q.0) (tokens_moved xs ys ls p.1 q.1)
  tokens_moved [] (y ∷ ys) [] p q = absurd q
  tokens_moved [] ys (l ∷ ls) p q = absurd p
  tokens_moved (x ∷ xs) ys [] p q = absurd p
  tokens_moved (x ∷ xs) [] (l ∷ ls) p q = absurd q

-- a table in which a token shows
pub record ShownIn (texts : List (List ℕ)) (c : Content) : Type 0 where
  pub all : List (List ℕ)
  pub keeps : KeepsIds texts all
  pub distinct : AreDistinct all
  pub token : Token
  pub shows : Shows all token c

shown : (texts : List (List ℕ)) (c : Content) → AreDistinct texts → ShownIn texts c
shown texts (name us) distinct = let h = holds texts us distinct in record { all = h.all; keeps = h.keeps; distinct = h.distinct; token = t.Name h.id; shows = h.there }
shown texts (soft s us) distinct = let h = holds texts us distinct in record { all = h.all; keeps = h.keeps; distinct = h.distinct; token = t.Soft s h.id; shows = (refl, h.there) }
shown texts (reserved w us) distinct = let h = holds texts us distinct in record { all = h.all; keeps = h.keeps; distinct = h.distinct; token = t.Reserved w h.id; shows = (refl, h.there) }
shown texts (whole n) distinct = record { all = texts; keeps = keeps_ids_none texts; distinct = distinct; token = t.Whole (pos n); shows = refl }
shown texts (text us) distinct = let h = holds texts us distinct in record { all = h.all; keeps = h.keeps; distinct = h.distinct; token = t.Text h.id; shows = h.there }
shown texts (mark k) distinct = record { all = texts; keeps = keeps_ids_none texts; distinct = distinct; token = t.Mark k; shows = refl }

-- tokens that are seen of the lexemes, over some table
pub record Seen (ls : List Lexeme) : Type 0 where
  pub texts : List (List ℕ)
  pub distinct : AreDistinct texts
  pub tokens : List Spanned
  pub seen : AreSeen texts tokens ls

pub table : (ls : List Lexeme) → Seen ls
table [] = record { texts = []; distinct = no_texts; tokens = []; seen = tt }
table (l ∷ ls) =
    let rest = table ls in
    let first = shown rest.texts l.content rest.distinct in
    record {
      texts = first.all;
      distinct = first.distinct;
      tokens = record { token = first.token; from = l.from; to = l.to; after_line = l.after_line } ∷ rest.tokens;
      seen = (record { token = first.shows; from = refl; to = refl; after_line = refl }, seen_kept rest.texts first.all rest.tokens ls first.keeps rest.seen);
    }
