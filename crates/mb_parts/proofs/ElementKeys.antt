-- The keys of the elements of arrays.
use Rattle.std.proofs.Common.{◌<◌, ◌-◌, ◌^◌, ◌≡◌, ◌∙◌, Some, ap, arith, false, nat_eq, pos, refl, ℕ}
use Rattle.std.proofs.lemmas.Bool.Decides.{nat_tests}
use Rattle.mb_base.specs.declared.value.Key.TheVariants as k
use Rattle.mb_base.specs.declared.value.StrId.{StrId}
use Rattle.mb_ordinary.proofs.Spelled.{index_if, key-index}
use Rattle.mb_parts.proofs.Writing.{whole-is}
use Rattle.mb_text.proofs.Indices.{index_of-decimal}
use Rattle.mb_text.specs.Index.{index_of}
use Rattle.mb_text.specs.Texts.{text_at}
use Rattle.mb_world.specs.Data.{Data}
use Rattle.mb_world.specs.Ids.{KeyIn}
use Rattle.mb_world.specs.Image.{key_in, names_of}
use Rattle.mb_world.specs.Key.{index_of_key}
use Rattle.mb_world.specs.Value.{whole_text}

pub index-is : (d : Data) (t : StrId) (place : ℕ) → place < 2 ^ 32 - 1 → text_at d.texts t ≡ whole_text (pos place)
    → index_of (text_at d.texts t) ≡ place
index-is d t place l e =
    ap index_of (e ∙ whole-is (pos place) (omega (arith, l))) ∙ index_of-decimal place (omega (arith, l))

pub index-key : (d : Data) (t : StrId) (place : ℕ) → KeyIn d (k.Text t (index_of (text_at d.texts t)))
    → place < 2 ^ 32 - 1
    → text_at d.texts t ≡ whole_text (pos place)
    → index_of_key (key_in (names_of d) (k.Text t (index_of (text_at d.texts t)))) ≡ Some place
index-key d t place h l e =
    let i : index_of (text_at d.texts t) ≡ place
    = ap index_of (e ∙ whole-is (pos place) (omega (arith, l))) ∙ index_of-decimal place (omega (arith, l)) in
    let b : nat_eq place (2 ^ 32 - 1) ≡ false = grind (arith, nat_tests) in
    key-index d (k.Text t (index_of (text_at d.texts t))) h ∙ ap index_if i ∙ rw b refl
