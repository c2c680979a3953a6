-- The left script as pieces, and its text.
use Rattle.std.proofs.Common.{◌≡◌, ℕ, ◌≤◌, true, List, [], ◌∷◌, ◌++◌, zero, suc, codes, refl, ap, ◌∙◌, arith, append_assoc}
use Rattle.std.specs.Prelude.{pos, nat_lt}
use Rattle.std.specs.List.{flat_map, list_all}
use Rattle.std.specs.Char.{is_ascii_digit}
use Rattle.std.specs.Fmt.{decimal}
use Rattle.std.proofs.lemmas.Fmt.{digits_decimal}
use Rattle.std.proofs.lemmas.Bool.{and_parts}
use Rattle.std.proofs.lemmas.Bool.Decides.{nat_tests}
use Rattle.unicode_ident.proofs.Computing.{unicode_ident}
use Rattle.mb_base.specs.declared.value.StrId.{StrId}
use Rattle.mb_token.specs.declared.token.Token.TheVariants as t
use Rattle.mb_token.specs.declared.mark.Mark.{Mark}
use Rattle.mb_token.specs.declared.mark.Mark.TheVariants as m
use Rattle.mb_token.specs.declared.word.Word.TheVariants as w
use Rattle.mb_token.specs.declared.word.Soft.TheVariants as soft_names
use Rattle.mb_token.specs.Marks.{mark_text}
use Rattle.mb_lexer.specs.Tokens.{name, soft, reserved, mark}
use Rattle.mb_lexer.specs.Tokens as content
use Rattle.mb_load.specs.Pair.{push_line}
use Rattle.mb_load_tree.proofs.Numbers.{whole_token, own_digits}
use Rattle.mb_load_tree.proofs.Pieces.{Piece, token, blank, feed, text_of, AllStand, is_low}

abbrev pub id : ℕ → StrId
id n = record { 0 = n }

-- the texts of the left script's names
abbrev pub texts : List (List ℕ)
texts =
    codes "desk" ∷ codes "list" ∷ codes "push" ∷ codes "Object" ∷ codes "freeze" ∷ codes "id" ∷ codes "get" ∷ codes "return" ∷ []

abbrev pub word : List ℕ → ℕ → Piece
word us n = token (name us) us (t.Name (id n))

abbrev pub sign : Mark → Piece
sign k = token (mark k) (mark_text k) (t.Mark k)

abbrev pub whole : ℕ → Piece
whole n = token (content.whole n) (decimal n) (t.Whole (pos n))

-- the first line, and what follows
abbrev pub first_line : List Piece → List Piece
first_line rest =
    word (codes "desk") 0 ∷ sign m.Dot ∷ word (codes "list") 1 ∷ blank ∷ sign m.Equal ∷ blank ∷ sign m.OpenBracket ∷ sign m.CloseBracket ∷ sign m.Semicolon ∷ feed ∷ rest

abbrev pub object_of : ℕ → List Piece → List Piece
object_of n rest =
    sign m.OpenBrace ∷ blank ∷ word (codes "id") 5 ∷ sign m.Colon ∷ blank ∷ whole n ∷ blank ∷ sign m.CloseBrace ∷ rest

abbrev pub element_of : ℕ → ℕ → List Piece → List Piece
element_of zero n rest = object_of n rest
element_of (suc zero) n rest =
    word (codes "Object") 3 ∷ sign m.Dot ∷ word (codes "freeze") 4 ∷ sign m.OpenParen ∷ object_of n (sign m.CloseParen ∷ rest)
element_of (suc (suc zero)) n rest =
    sign m.OpenBrace ∷ blank ∷ token (soft soft_names.Get (codes "get")) (codes "get") (t.Soft soft_names.Get (id 6)) ∷ blank ∷ word (codes "id") 5 ∷ sign m.OpenParen ∷ sign m.CloseParen ∷ blank
    ∷ sign m.OpenBrace ∷ blank ∷ token (reserved w.Return (codes "return")) (codes "return") (t.Reserved w.Return (id 7)) ∷ blank ∷ whole n ∷ sign m.Semicolon ∷ blank ∷ sign m.CloseBrace ∷ blank
    ∷ sign m.CloseBrace ∷ rest
element_of _ n rest = sign m.OpenBracket ∷ whole n ∷ sign m.CloseBracket ∷ rest

abbrev pub line_end : List Piece → List Piece
line_end rest = sign m.CloseParen ∷ sign m.Semicolon ∷ feed ∷ rest

abbrev pub line_of : ℕ → ℕ → List Piece → List Piece
line_of kind n rest =
    word (codes "desk") 0 ∷ sign m.Dot ∷ word (codes "list") 1 ∷ sign m.Dot ∷ word (codes "push") 2 ∷ sign m.OpenParen ∷ element_of kind n (line_end rest)

-- lines by kind and place
abbrev pub lines_of : List (ℕ × ℕ) → List Piece
lines_of [] = []
lines_of (l ∷ ls) = line_of l.0 l.1 (lines_of ls)

abbrev pub AreSmall : List (ℕ × ℕ) → Type 0
AreSmall [] = Unit {0}
AreSmall (l ∷ ls) = (l.1 ≤ 5000) × AreSmall ls

-- each token stands

digit_low : (b : ℕ) → is_ascii_digit b ≡ true → nat_lt b 128 ≡ true
digit_low b is = grind (arith, nat_tests, is)

digits_low : (ds : List ℕ) → list_all is_ascii_digit ds ≡ true → is_low ds ≡ true
digits_low [] all = refl
digits_low (d ∷ ds) all = let each = and_parts (is_ascii_digit d) (list_all is_ascii_digit ds) all in rw (digit_low d each.0) (digits_low ds each.1)

whole_low : (n : ℕ) → n ≤ 5000 → is_low (decimal n) ≡ true
whole_low n small = digits_low (decimal n) (digits_decimal own_digits n (omega arith))

object_stands : (n : ℕ) (rest : List Piece) → n ≤ 5000 → AllStand texts rest → AllStand texts (object_of n rest)
unfolding unicode_ident
object_stands n rest small stand = (
  (refl, refl, refl),
  refl,
  refl,
  (
    (record { form = refl; units = refl; ends = refl }, refl),
    refl,
    refl,
    (
      (refl, refl, refl),
      refl,
      refl,
      (
        whole_token n (text_of (blank ∷ sign m.CloseBrace ∷ rest)) small refl,
        whole_low n small,
        refl,
        (
          (refl, refl, refl),
          refl,
          refl,
          stand,
        ),
      ),
    ),
  ),
)

array_stands : (n : ℕ) (rest : List Piece) → n ≤ 5000 → AllStand texts rest → AllStand texts (sign m.OpenBracket ∷ whole n ∷ sign m.CloseBracket ∷ rest)
unfolding unicode_ident
array_stands n rest small stand = (
  (refl, refl, refl),
  refl,
  refl,
  (
    whole_token n (text_of (sign m.CloseBracket ∷ rest)) small refl,
    whole_low n small,
    refl,
    (
      (refl, refl, refl),
      refl,
      refl,
      stand,
    ),
  ),
)

getter_stands : (n : ℕ) (rest : List Piece) → n ≤ 5000 → AllStand texts rest → AllStand texts (element_of 2 n rest)
unfolding unicode_ident
getter_stands n rest small stand = (
  (refl, refl, refl),
  refl,
  refl,
  (
    (record { form = refl; units = refl; ends = refl }, refl),
    refl,
    (refl, refl),
    (
      (record { form = refl; units = refl; ends = refl }, refl),
      refl,
      refl,
      (
        (refl, refl, refl),
        refl,
        refl,
        (
          (refl, refl, refl),
          refl,
          refl,
          (
            (refl, refl, refl),
            refl,
            refl,
            (
              (record { form = refl; units = refl; ends = refl }, refl),
              refl,
              (refl, refl),
              (
                whole_token n (text_of (sign m.Semicolon ∷ blank ∷ sign m.CloseBrace ∷ blank ∷ sign m.CloseBrace ∷ rest)) small refl,
                whole_low n small,
                refl,
                (
                  (refl, refl, refl),
                  refl,
                  refl,
                  (
                    (refl, refl, refl),
                    refl,
                    refl,
                    (
                      (refl, refl, refl),
                      refl,
                      refl,
                      stand,
                    ),
                  ),
                ),
              ),
            ),
          ),
        ),
      ),
    ),
  ),
)

frozen_stands : (n : ℕ) (rest : List Piece) → n ≤ 5000 → AllStand texts rest → AllStand texts (element_of 1 n rest)
unfolding unicode_ident
frozen_stands n rest small stand = (
  (record { form = refl; units = refl; ends = refl }, refl),
  refl,
  refl,
  (
    (refl, refl, refl),
    refl,
    refl,
    (
      (record { form = refl; units = refl; ends = refl }, refl),
      refl,
      refl,
      (
        (refl, refl, refl),
        refl,
        refl,
        object_stands n (sign m.CloseParen ∷ rest) small ((refl, refl, refl), refl, refl, stand),
      ),
    ),
  ),
)

element_stands : (kind n : ℕ) (rest : List Piece) → n ≤ 5000 → AllStand texts rest → AllStand texts (element_of kind n rest)
element_stands zero n rest small stand = object_stands n rest small stand
element_stands (suc zero) n rest small stand = frozen_stands n rest small stand
element_stands (suc (suc zero)) n rest small stand = getter_stands n rest small stand
element_stands (suc (suc (suc kind))) n rest small stand = array_stands n rest small stand

line_stands : (kind n : ℕ) (rest : List Piece) → n ≤ 5000 → AllStand texts rest → AllStand texts (line_of kind n rest)
unfolding unicode_ident
line_stands kind n rest small stand = (
  (record { form = refl; units = refl; ends = refl }, refl),
  refl,
  refl,
  (
    (refl, refl, refl),
    refl,
    refl,
    (
      (record { form = refl; units = refl; ends = refl }, refl),
      refl,
      refl,
      (
        (refl, refl, refl),
        refl,
        refl,
        (
          (record { form = refl; units = refl; ends = refl }, refl),
          refl,
          refl,
          (
            (refl, refl, refl),
            refl,
            refl,
            element_stands kind n (line_end rest) small ((refl, refl, refl), refl, refl, ((refl, refl, refl), refl, refl, stand)),
          ),
        ),
      ),
    ),
  ),
)

lines_stand : (ls : List (ℕ × ℕ)) → AreSmall ls → AllStand texts (lines_of ls)
lines_stand [] small = tt
lines_stand (l ∷ ls) small = line_stands l.0 l.1 (lines_of ls) small.0 (lines_stand ls small.1)

pub left_stands : (ls : List (ℕ × ℕ)) → AreSmall ls → AllStand texts (first_line (lines_of ls))
unfolding unicode_ident
left_stands ls small = (
  (record { form = refl; units = refl; ends = refl }, refl),
  refl,
  refl,
  (
    (refl, refl, refl),
    refl,
    refl,
    (
      (record { form = refl; units = refl; ends = refl }, refl),
      refl,
      refl,
      (
        (refl, refl, refl),
        refl,
        refl,
        (
          (refl, refl, refl),
          refl,
          refl,
          (
            (refl, refl, refl),
            refl,
            refl,
            (
              (refl, refl, refl),
              refl,
              refl,
              lines_stand ls small,
            ),
          ),
        ),
      ),
    ),
  ),
)

-- the text is the script's

regroup : (d x rest : List ℕ) → ((d ++ x) ++ (41 ∷ 59 ∷ [])) ++ (10 ∷ []) ++ rest ≡ d ++ (x ++ (41 ∷ 59 ∷ 10 ∷ rest))
regroup d x rest =
    append_assoc ((d ++ x) ++ (41 ∷ 59 ∷ [])) (10 ∷ []) rest
    ∙ append_assoc (d ++ x) (41 ∷ 59 ∷ []) (10 ∷ rest)
    ∙ append_assoc d x (41 ∷ 59 ∷ 10 ∷ rest)

line_text : (kind n : ℕ) (rest : List Piece) → push_line kind n ++ text_of rest ≡ text_of (line_of kind n rest)
line_text zero n rest = ap (λ r. codes "desk.list.push({ id: " ++ r) (regroup (decimal n) (codes " }") (text_of rest))
line_text (suc zero) n rest = ap (λ r. codes "desk.list.push(Object.freeze({ id: " ++ r) (regroup (decimal n) (codes " })") (text_of rest))
line_text (suc (suc zero)) n rest = ap (λ r. codes "desk.list.push({ get id() { return " ++ r) (regroup (decimal n) (codes "; } }") (text_of rest))
line_text (suc (suc (suc kind))) n rest = ap (λ r. codes "desk.list.push([" ++ r) (regroup (decimal n) (codes "]") (text_of rest))

pub lines_text : (ls : List (ℕ × ℕ)) → flat_map (λ l. push_line l.0 l.1) ls ≡ text_of (lines_of ls)
lines_text [] = refl
lines_text (l ∷ ls) = ap (λ r. push_line l.0 l.1 ++ r) (lines_text ls) ∙ line_text l.0 l.1 (lines_of ls)
