-- Texts that are added leave the rest as it was; whole numbers are spelled in decimal.
use Rattle.mb_frames.proofs.Forms.{CanRun-grows}
use Rattle.mb_frames.specs.Passing.{TextsGrew}
use Rattle.mb_frames.specs.Stepping.{Grew}
use Rattle.mb_parts.specs.Standing.{Acts}
use Rattle.std.proofs.Common.{◌+◌, ◌++◌, ◌/◌, ◌%◌, ◌<◌, ◌≤◌, ◌^◌, List, Some, [], ap, arith, false, map, subst, nat_lt}
use Rattle.std.proofs.Common.{negsuc, pos, refl, slice_get, suc, sym, true, zero, ℕ, ℤ, ◌∙◌, ◌∷◌, ◌≡◌}
use Rattle.std.proofs.lemmas.Bool.Decides.{nat_tests}
use Rattle.std.proofs.lemmas.Fmt.{decimal_by_steps}
use Rattle.std.specs.Fmt.{decimal as std_decimal, signed_decimal}
use Rattle.std.specs.Int.Signed.{mag}
use Rattle.mb_base.specs.declared.value.Side.{Side}
use Rattle.mb_base.specs.declared.value.StrId.{StrId}
use Rattle.std.proofs.lemmas.Option.{get_or_from_slice_get, slice_get_within}
use Rattle.mb_desc.specs.declared.descriptor.Desc.{Desc}
use Rattle.mb_text.specs.Texts.{with_text}
use Rattle.mb_world.proofs.AfterCalls.{text}
use Rattle.mb_world.proofs.Grow.{Grows-same}
use Rattle.mb_world.proofs.Images.{key-grows, map-same, option-same}
use Rattle.mb_world.specs.declared.entry.Entry.{Entry}
use Rattle.mb_world.specs.declared.entry.Seen.{Seen}
use Rattle.mb_world.specs.declared.entry.Seen.TheVariants as s
use Rattle.mb_world.specs.declared.entry.Said.{Said}
use Rattle.mb_world.specs.declared.entry.Said.TheVariants as said
use Rattle.mb_world.specs.Data.{Data, with_texts}
use Rattle.mb_world.specs.Graph.{SaidProperty}
use Rattle.mb_world.specs.Grows.{Grows}
use Rattle.mb_world.specs.Ids.{DescSeenIn, EntryIn, HasItsIds, KeyIn, SaidIn, SeenIn, TextIn}
use Rattle.mb_world.specs.Image.{desc_in, entries_in, entry_in, key_by, names_of, said_in, seen_in, text_in}
use Rattle.mb_world.specs.Value.{Text, decimal, digits_within, whole_text}

-- ---- entries

module _ (d d' : Data) (g : Grows d d') where
  seen-same : (x : Seen) → SeenIn d x → seen_in d'.texts x ≡ seen_in d.texts x
  seen-same (s.Text t) h = ap Text (g.same_text t h)
  seen-same s.Undefined h = refl
  seen-same s.Null h = refl
  seen-same (s.Bool b) h = refl
  seen-same (s.Whole z) h = refl
  seen-same (s.Symbol n) h = refl
  seen-same (s.Object n) h = refl
  seen-same (s.BuiltIn n) h = refl

  desc-same : (x : Desc Seen) → DescSeenIn d x → desc_in (seen_in d'.texts) x ≡ desc_in (seen_in d.texts) x
  desc-same x h = rw (
    option-same (seen_in d'.texts) (seen_in d.texts) (SeenIn d) seen-same x.value h.value_in,
    option-same (seen_in d'.texts) (seen_in d.texts) (SeenIn d) seen-same x.get h.get_in,
    option-same (seen_in d'.texts) (seen_in d.texts) (SeenIn d) seen-same x.set h.set_in,
  ) refl

  said-same : (x : Said) → SaidIn d x → said_in d'.texts x ≡ said_in d.texts x
  said-same said.Nothing h = refl
  said-same (said.Flag b) h = refl
  said-same (said.Plain x) h = rw (seen-same x h) refl
  said-same said.Absent h = refl
  said-same (said.Prop x) h = ap SaidProperty (desc-same x h)
  said-same (said.Keys ks) h = rw (map-same (key_by d'.texts) (key_by d.texts) (KeyIn d) (key-grows d d' g) ks h) refl
  said-same (said.Thrown x) h = rw (seen-same x h) refl
  said-same (said.Pair x y) h = rw (seen-same x h.0, seen-same y h.1) refl

  entry-same : (e : Entry) → EntryIn d e → entry_in d'.texts e ≡ entry_in d.texts e
  entry-same e h = rw (
    option-same (key_by d'.texts) (key_by d.texts) (KeyIn d) (key-grows d d' g) e.key h.key_in,
    said-same e.given h.given_in,
    said-same e.answer h.answer_in,
  ) refl

-- a world with the same entries tells the same of them
pub entries-same : (d d' : Data) → HasItsIds d → Grows d d' → d'.entries ≡ d.entries → entries_in d' ≡ entries_in d
entries-same d d' h g e =
    ap (λ es. map (entry_in d'.texts) es) e
    ∙ map-same (entry_in d'.texts) (entry_in d.texts) (EntryIn d) (entry-same d d' g) d.entries h.entries_in

pub TextsGrew-text : (d d' : Data) (t : List ℕ) → HasItsIds d → HasItsIds d' → d' ≡ with_texts d (with_text d.texts t)
    → TextsGrew d d'
TextsGrew-text d d' t h i e =
    let k : Data = with_texts d (with_text d.texts t) in
    let P : Data → Type 0 = λ x. HasItsIds x → TextsGrew d x in
    let q : HasItsIds k → TextsGrew d k = λ j. record {
      texts = refl;
      becomes = text d t h;
      trace = entries-same d k h (text d t h).grows refl;
      ids = j;
    } in
    subst P (sym e) q i

pub TextsGrew-same : (d : Data) → HasItsIds d → TextsGrew d d
TextsGrew-same d h = record {
  texts = refl;
  becomes = record { grows = Grows-same d; image = λ log. refl };
  trace = refl;
  ids = h;
}

pub Grew-texts : (d d' : Data) → TextsGrew d d' → Grew d d'
Grew-texts d d' t = record {
  grows = t.becomes.grows;
  programs = ap (λ (x : Data). x.programs) t.texts;
  sides = ap (λ (x : Data). x.sides) t.texts;
  joined = ap (λ (x : Data). x.joined) t.texts;
}

-- a side still acts
pub Acts-texts : (d d' : Data) (home : Side) → TextsGrew d d' → Acts d home → Acts d' home
Acts-texts d d' home t a = record {
  side = a.side;
  ids = t.ids;
  runs = CanRun-grows d d' home (Grew-texts d d' t) t.ids a.runs;
  built_ins = λ place h. rw t.texts (a.built_ins place h);
}

-- ---- whole numbers

spelled-one : (n : ℕ) → n < 10 → (k : ℕ) → n < k → digits_within k n ≡ (48 + n) ∷ []
spelled-one n h zero l = absurd (omega (arith, l))
spelled-one n h (suc k) l =
    let t : nat_lt n 10 ≡ true = grind (arith, nat_tests) in
    ap (λ b. elim b as (λ _. List ℕ) [
      | true ↦ (48 + n) ∷ []
      | false ↦ digits_within k
          (n / 10) ++ ((48 + n % 10) ∷ [])
    ]) t

spelled-more : (n : ℕ) (ds : List ℕ) → 10 ≤ n → ((k : ℕ) → n / 10 < k → digits_within k (n / 10) ≡ ds)
    → (k : ℕ) → n < k → digits_within k n ≡ ds ++ ((48 + n % 10) ∷ [])
spelled-more n ds h r zero l = absurd (omega (arith, l))
spelled-more n ds h r (suc k) l =
    let t : nat_lt n 10 ≡ false = grind (arith, nat_tests) in
    let u : n / 10 < k = omega (arith, h, l) in
    ap (λ b. elim b as (λ _. List ℕ) [
      | true ↦ (48 + n) ∷ []
      | false ↦ digits_within k
          (n / 10) ++ ((48 + n % 10) ∷ [])
    ]) t
    ∙ ap (λ ms. ms ++ ((48 + n % 10) ∷ [])) (r k u)

decimal-is : (n : ℕ) → n < 2 ^ 64 → decimal n ≡ std_decimal n
decimal-is n h =
    decimal_by_steps (λ m ds. (k : ℕ) → m < k → digits_within k m ≡ ds) spelled-one spelled-more n h (suc n)
    (omega arith)

pub whole-is : (z : ℤ) → mag z < 2 ^ 63 → whole_text z ≡ signed_decimal z
whole-is (pos n) h = decimal-is n (omega (arith, h))
whole-is (negsuc n) h = ap (λ ds. 45 ∷ ds) (decimal-is (suc n) (omega (arith, h)))

-- ---- a text that is there

pub text-is : (d : Data) (id : StrId) (t : List ℕ) → slice_get d.texts id.0 ≡ Some t → text_in (names_of d) id ≡ t
text-is d id t e = get_or_from_slice_get d.texts id.0 t [] e

pub text-within : (d : Data) (id : StrId) (t : List ℕ) → slice_get d.texts id.0 ≡ Some t → TextIn d id
text-within d id t e = slice_get_within d.texts id.0 t e
