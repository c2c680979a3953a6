-- The meanings of literals, one by one.
use Rattle.std.proofs.Common.{◌≡◌, ◌<◌, ◌+◌, ℕ, ◌++◌, List, [], ◌∷◌, zero, suc, length, map, take, get_or, append_assoc, sym, ap, ap₂, ◌∙◌, refl, arith, subst}
use Rattle.std.specs.Prelude.{Vec}
use Rattle.std.specs.declared.alloc.Global.{Global}
use Rattle.mb_base.specs.declared.value.Side.{Side}
use Rattle.mb_cli.specs.Sides.{left_side, right_side}
use Rattle.mb_text.specs.Texts.{KeepsIds}
use Rattle.mb_text.proofs.WithText.{slice_get-added}
use Rattle.mb_cli.specs.first_form.Form.{number, quoted}
use Rattle.mb_cli.specs.first_form.Form.{Literal as Meant}
use Rattle.mb_cli.specs.machine.Lines.{contents_of}
use Rattle.mb_cli.specs.first_form.machine.Literals.{IsLiteral, AreLiterals}
use Rattle.mb_cli.specs.first_form.Text.{line_of, lines_of, last_line}
use Rattle.mb_cli.specs.declared.first_form.script.Literal.{Literal}
use Rattle.mb_cli.specs.declared.first_form.script.Literal.TheVariants.{Whole, Text}

-- meanings stay where ids do
pub IsLiteral-kept : (before now : List (List ℕ)) (x : Literal) (m : Meant) → KeepsIds before now → IsLiteral before x m → IsLiteral now x m
IsLiteral-kept before now x m (more, e) h = subst (λ texts. IsLiteral texts x m) (sym e) (added x m h)
  where
    added : (x : Literal) (m : Meant) → IsLiteral before x m → IsLiteral (before ++ more) x m
    added (Whole z) (number n) h = h
    added (Text id) (quoted units) h = slice_get-added before more id.0 units h
    added x m h = absurd h

pub AreLiterals-kept : (before now : List (List ℕ)) (xs : List Literal) (ms : List Meant) → KeepsIds before now → AreLiterals before xs ms → AreLiterals now xs ms
AreLiterals-kept before now [] [] keeps h = tt
AreLiterals-kept before now (x ∷ xs) (m ∷ ms) keeps h = (IsLiteral-kept before now x m keeps h.0, AreLiterals-kept before now xs ms keeps h.1)
AreLiterals-kept before now xs ms keeps h = absurd h

-- the meaning of the literal at a place
pub record MeansAt (texts : List (List ℕ)) (ms : List Meant) (k : ℕ) (x : Literal) : Type 0 where
  pub meant : Meant
  pub is : IsLiteral texts x meant
  pub taken : take (k + 1) ms ≡ take k ms ++ (meant ∷ [])

pub means_at : (texts : List (List ℕ)) (xs : List Literal) (ms : List Meant) (k : ℕ) (d : Literal) → AreLiterals texts xs ms → k < length xs
    → MeansAt texts ms k (get_or xs k d)
means_at texts [] [] k d h lt = absurd (omega arith)
means_at texts (x ∷ xs) (m ∷ ms) zero d h lt = record { meant = m; is = h.0; taken = refl }
means_at texts (x ∷ xs) (m ∷ ms) (suc k) d h lt =
    let rest = means_at texts xs ms k d h.1 (omega arith) in
    let next : suc k + 1 ≡ suc (k + 1) = omega arith in
    record { meant = rest.meant; is = rest.is; taken = ap (λ n. take n (m ∷ ms)) next ∙ ap (λ t. m ∷ t) rest.taken }
means_at texts xs ms k d h lt = absurd h

pub length-literals : (texts : List (List ℕ)) (xs : List Literal) (ms : List Meant) → AreLiterals texts xs ms → length xs ≡ length ms
length-literals texts [] [] h = refl
length-literals texts (x ∷ xs) (m ∷ ms) h = ap suc (length-literals texts xs ms h.1)
length-literals texts xs ms h = absurd h

pub contents_of-push : (lines : List (Vec ℕ Global)) (line : Vec ℕ Global) → contents_of (lines ++ (line ∷ [])) ≡ contents_of lines ++ (line.items ∷ [])
contents_of-push [] line = refl
contents_of-push (l ∷ lines) line = ap (λ ls. l.items ∷ ls) (contents_of-push lines line)

map-push : (side : Side) (ms : List Meant) (m : Meant) → map (line_of side) (ms ++ (m ∷ [])) ≡ map (line_of side) ms ++ (line_of side m ∷ [])
map-push side [] m = refl
map-push side (x ∷ ms) m = ap (λ ls. line_of side x ∷ ls) (map-push side ms m)

-- one line more
pub on_line : (side : Side) (lines next : List (Vec ℕ Global)) (line : Vec ℕ Global) (before : List (List ℕ)) (ms : List Meant) (k : ℕ) (m : Meant)
    → contents_of lines ≡ before ++ map (line_of side) (take k ms) → next ≡ lines ++ (line ∷ []) → line.items ≡ line_of side m → take (k + 1) ms ≡ take k ms ++ (m ∷ [])
    → contents_of next ≡ before ++ map (line_of side) (take (k + 1) ms)
on_line side lines next line before ms k m e pushed is taken =
    ap contents_of pushed ∙ contents_of-push lines line ∙ ap₂ (λ a b. a ++ (b ∷ [])) e is
    ∙ append_assoc before (map (line_of side) (take k ms)) (line_of side m ∷ [])
    ∙ ap (λ ls. before ++ ls) (sym (map-push side (take k ms) m) ∙ ap (map (line_of side)) (sym taken))

-- the lines of both scripts, and the last
pub all_lines : (one two three : List (Vec ℕ Global)) (last : Vec ℕ Global) (lefts rights : List Meant)
    → contents_of one ≡ map (line_of left_side) lefts → contents_of two ≡ contents_of one ++ map (line_of right_side) rights → three ≡ two ++ (last ∷ []) → last.items ≡ last_line
    → contents_of three ≡ lines_of lefts rights
all_lines one two three last lefts rights a b pushed is =
    ap contents_of pushed ∙ contents_of-push two last ∙ ap₂ (λ xs l. xs ++ (l ∷ [])) (b ∙ ap (λ xs. xs ++ map (line_of right_side) rights) a) is
