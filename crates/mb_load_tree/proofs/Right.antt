-- The right script as pieces.
use Rattle.std.proofs.Common.{◌≡◌, ℕ, List, [], ◌∷◌, codes, refl}
use Rattle.std.specs.Prelude.{pos}
use Rattle.unicode_ident.proofs.Computing.{unicode_ident}
use Rattle.mb_token.specs.declared.token.Token.TheVariants as t
use Rattle.mb_token.specs.declared.mark.Mark.TheVariants as m
use Rattle.mb_token.specs.declared.word.Word.TheVariants as w
use Rattle.mb_lexer.specs.Tokens.{reserved}
use Rattle.mb_lexer.specs.Tokens as content
use Rattle.mb_load.specs.Pair.{right_script}
use Rattle.mb_load_tree.proofs.Pieces.{Piece, token, blank, feed, text_of, AllStand}
use Rattle.mb_load_tree.proofs.Lines.{id, word, sign}

-- the texts of the right script's names
abbrev pub texts : List (List ℕ)
texts =
    codes "sum" ∷ codes "desk" ∷ codes "list" ∷ codes "forEach" ∷ codes "x" ∷ codes "v" ∷ codes "Array" ∷ codes "isArray" ∷ codes "id" ∷ codes "print" ∷ codes "let" ∷ []

abbrev pub let_word : Piece
let_word = token (reserved w.Let (codes "let")) (codes "let") (t.Reserved w.Let (id 10))

abbrev pub nought : Piece
nought = token (content.whole 0) (codes "0") (t.Whole (pos 0))

abbrev pub third_line : List Piece
third_line = word (codes "print") 9 ∷ sign m.OpenParen ∷ word (codes "sum") 0 ∷ sign m.CloseParen ∷ sign m.Semicolon ∷ feed ∷ []

abbrev pub chosen : List Piece → List Piece
chosen rest =
    word (codes "Array") 6 ∷ sign m.Dot ∷ word (codes "isArray") 7 ∷ sign m.OpenParen ∷ word (codes "x") 4 ∷ sign m.CloseParen ∷ blank ∷ sign m.Question ∷ blank
    ∷ word (codes "x") 4 ∷ sign m.OpenBracket ∷ nought ∷ sign m.CloseBracket ∷ blank ∷ sign m.Colon ∷ blank
    ∷ word (codes "x") 4 ∷ sign m.Dot ∷ word (codes "id") 8 ∷ rest

abbrev pub adding : List Piece → List Piece
adding rest = blank ∷ word (codes "sum") 0 ∷ blank ∷ sign m.PlusEqual ∷ blank ∷ word (codes "v") 5 ∷ sign m.Semicolon ∷ rest

abbrev pub body : List Piece → List Piece
body rest = let_word ∷ blank ∷ word (codes "v") 5 ∷ blank ∷ sign m.Equal ∷ blank ∷ chosen (sign m.Semicolon ∷ adding rest)

abbrev pub body_end : List Piece → List Piece
body_end rest = blank ∷ sign m.CloseBrace ∷ sign m.CloseParen ∷ sign m.Semicolon ∷ feed ∷ rest

abbrev pub second_line : List Piece → List Piece
second_line rest =
    word (codes "desk") 1 ∷ sign m.Dot ∷ word (codes "list") 2 ∷ sign m.Dot ∷ word (codes "forEach") 3 ∷ sign m.OpenParen ∷ sign m.OpenParen ∷ word (codes "x") 4 ∷ sign m.CloseParen ∷ blank
    ∷ sign m.Arrow ∷ blank ∷ sign m.OpenBrace ∷ blank ∷ body (body_end rest)

abbrev pub right_pieces : List Piece
right_pieces =
    let_word ∷ blank ∷ word (codes "sum") 0 ∷ blank ∷ sign m.Equal ∷ blank ∷ nought ∷ sign m.Semicolon ∷ feed ∷ second_line third_line

pub right_text : text_of right_pieces ≡ right_script
right_text = refl

third_stands : AllStand texts third_line
unfolding unicode_ident
third_stands = (
  (record { form = refl; units = refl; ends = refl }, refl),
  refl,
  refl,
  (
    (refl, refl, refl),
    refl,
    refl,
    (
      (record { form = refl; units = refl; ends = refl }, refl),
      refl,
      refl,
      (
        (refl, refl, refl),
        refl,
        refl,
        (
          (refl, refl, refl),
          refl,
          refl,
          tt,
        ),
      ),
    ),
  ),
)

chosen_stands : (rest : List Piece) → AllStand texts (sign m.Semicolon ∷ rest) → AllStand texts (chosen (sign m.Semicolon ∷ rest))
unfolding unicode_ident
chosen_stands rest stand = (
  (record { form = refl; units = refl; ends = refl }, refl),
  refl,
  refl,
  (
    (refl, refl, refl),
    refl,
    refl,
    (
      (record { form = refl; units = refl; ends = refl }, refl),
      refl,
      refl,
      (
        (refl, refl, refl),
        refl,
        refl,
        (
          (record { form = refl; units = refl; ends = refl }, refl),
          refl,
          refl,
          (
            (refl, refl, refl),
            refl,
            refl,
            (
              (refl, refl, refl),
              refl,
              refl,
              (
                (record { form = refl; units = refl; ends = refl }, refl),
                refl,
                refl,
                (
                  (refl, refl, refl),
                  refl,
                  refl,
                  (
                    (refl, refl, refl),
                    refl,
                    refl,
                    (
                      (refl, refl, refl),
                      refl,
                      refl,
                      (
                        (refl, refl, refl),
                        refl,
                        refl,
                        (
                          (record { form = refl; units = refl; ends = refl }, refl),
                          refl,
                          refl,
                          (
                            (refl, refl, refl),
                            refl,
                            refl,
                            (
                              (record { form = refl; units = refl; ends = refl }, refl),
                              refl,
                              refl,
                              stand,
                            ),
                          ),
                        ),
                      ),
                    ),
                  ),
                ),
              ),
            ),
          ),
        ),
      ),
    ),
  ),
)

body_stands : (rest : List Piece) → AllStand texts rest → AllStand texts (body rest)
unfolding unicode_ident
body_stands rest stand = (
  (record { form = refl; units = refl; ends = refl }, refl),
  refl,
  (refl, refl),
  (
    (record { form = refl; units = refl; ends = refl }, refl),
    refl,
    refl,
    (
      (refl, refl, refl),
      refl,
      refl,
      chosen_stands (blank ∷ word (codes "sum") 0 ∷ blank ∷ sign m.PlusEqual ∷ blank ∷ word (codes "v") 5 ∷ sign m.Semicolon ∷ rest) (
        (refl, refl, refl),
        refl,
        refl,
        (
          (record { form = refl; units = refl; ends = refl }, refl),
          refl,
          refl,
          (
            (refl, refl, refl),
            refl,
            refl,
            (
              (record { form = refl; units = refl; ends = refl }, refl),
              refl,
              refl,
              (
                (refl, refl, refl),
                refl,
                refl,
                stand,
              ),
            ),
          ),
        ),
      ),
    ),
  ),
)

second_stands : (rest : List Piece) → AllStand texts rest → AllStand texts (second_line rest)
unfolding unicode_ident
second_stands rest stand = (
  (record { form = refl; units = refl; ends = refl }, refl),
  refl,
  refl,
  (
    (refl, refl, refl),
    refl,
    refl,
    (
      (record { form = refl; units = refl; ends = refl }, refl),
      refl,
      refl,
      (
        (refl, refl, refl),
        refl,
        refl,
        (
          (record { form = refl; units = refl; ends = refl }, refl),
          refl,
          refl,
          (
            (refl, refl, refl),
            refl,
            refl,
            (
              (refl, refl, refl),
              refl,
              refl,
              (
                (record { form = refl; units = refl; ends = refl }, refl),
                refl,
                refl,
                (
                  (refl, refl, refl),
                  refl,
                  refl,
                  (
                    (refl, refl, refl),
                    refl,
                    refl,
                    (
                      (refl, refl, refl),
                      refl,
                      refl,
                      body_stands (blank ∷ sign m.CloseBrace ∷ sign m.CloseParen ∷ sign m.Semicolon ∷ feed ∷ rest) (
                        (refl, refl, refl),
                        refl,
                        refl,
                        (
                          (refl, refl, refl),
                          refl,
                          refl,
                          (
                            (refl, refl, refl),
                            refl,
                            refl,
                            stand,
                          ),
                        ),
                      ),
                    ),
                  ),
                ),
              ),
            ),
          ),
        ),
      ),
    ),
  ),
)

pub right_stands : AllStand texts right_pieces
unfolding unicode_ident
right_stands = (
  (record { form = refl; units = refl; ends = refl }, refl),
  refl,
  (refl, refl),
  (
    (record { form = refl; units = refl; ends = refl }, refl),
    refl,
    refl,
    (
      (refl, refl, refl),
      refl,
      refl,
      (
        (refl, refl, refl),
        refl,
        refl,
        (
          (refl, refl, refl),
          refl,
          refl,
          second_stands third_line third_stands,
        ),
      ),
    ),
  ),
)
