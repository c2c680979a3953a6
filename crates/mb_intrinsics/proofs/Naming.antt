-- Texts that a world takes, and their ids.
use Rattle.mb_base.specs.declared.value.StrId.{StrId}
use Rattle.mb_intrinsics.specs.Furnished.{id_of}
use Rattle.mb_intrinsics.specs.machine.Filling.{AreThere, Gains}
use Rattle.mb_text.proofs.Kept.{keeps_ids_more, keeps_ids_none}
use Rattle.mb_text.proofs.WithText.{with_text-added}
use Rattle.mb_text.specs.Texts.{AreDistinct, KeepsIds, has_text, text_at, with_text}
use Rattle.mb_world.proofs.Arrays.{length-there, place-found}
use Rattle.mb_world.specs.Data.{Data, with_texts}
use Rattle.std.proofs.Common.{Bool, List, Some, [], ap, false, length, nat_eq, refl, slice_get, slice_index_or, subst, sym, true, true≢false, ℕ, ◌++◌, ◌<◌, ◌∙◌, ◌∷◌, ◌≡◌, ◌||◌}
use Rattle.std.proofs.lemmas.Bool.{eqb-true}
use Rattle.std.proofs.lemmas.List.Elements.{All-append, All-cons, All-nil, All-weaker}
use Rattle.std.specs.Cmp.Lexicographic.{bytes_decides}
use Rattle.std.specs.Prelude.{All, if◌then◌else◌}
use Rattle.std.specs.Str.{bytes_eq as same_text}

-- ---- what a table has

same-itself : (t : List ℕ) → same_text t t ≡ true
same-itself t = (bytes_decides t t).1 refl

has-more : (texts more : List (List ℕ)) (t : List ℕ) → has_text texts t ≡ true → has_text (texts ++ more) t ≡ true
has-more [] more t h = absurd (true≢false (sym h))
has-more (x ∷ xs) more t h = by (same_text t x) (has-more xs more t) h
  where
    by : (b : Bool) → (has_text xs t ≡ true → has_text (xs ++ more) t ≡ true) → (b || has_text xs t) ≡ true
        → (b || has_text (xs ++ more) t) ≡ true
    by true f h = refl
    by false f h = f h

has-last : (texts : List (List ℕ)) (t : List ℕ) → has_text (texts ++ t ∷ []) t ≡ true
has-last [] t = rw (same-itself t) refl
has-last (x ∷ xs) t = by (same_text t x) (has-last xs t)
  where
    by : (b : Bool) → has_text (xs ++ t ∷ []) t ≡ true → (b || has_text (xs ++ t ∷ []) t) ≡ true
    by true h = refl
    by false h = h

pub has-kept : (a b : List (List ℕ)) (t : List ℕ) → KeepsIds a b → has_text a t ≡ true → has_text b t ≡ true
has-kept a b t k h = subst (λ (xs : List (List ℕ)). has_text xs t ≡ true) (sym k.1) (has-more a k.0 t h)

pub has-taken : (texts : List (List ℕ)) (t : List ℕ) → has_text (with_text texts t) t ≡ true
has-taken texts t = by (has_text texts t) refl
  where
    by : (b : Bool) → has_text texts t ≡ b → has_text (if b then texts else texts ++ t ∷ []) t ≡ true
    by true e = e
    by false e = has-last texts t

pub with-there : (texts : List (List ℕ)) (t : List ℕ) → has_text texts t ≡ true → with_text texts t ≡ texts
with-there texts t there = ap (λ (b : Bool). if b then texts else texts ++ t ∷ []) there

-- ---- what a world gains

pub gains-none : (d : Data) → Gains d [] d
gains-none d = record {
  stays = keeps_ids_none d.texts;
  there = All-nil (λ t. has_text d.texts t ≡ true);
  rest = refl;
}

pub gains-text : (d d' : Data) (t : List ℕ) → d' ≡ with_texts d (with_text d.texts t) → Gains d (t ∷ []) d'
gains-text d d' t e =
    rw e (record {
      stays = with_text-added d.texts t;
      there = All-cons (λ u. has_text (with_text d.texts t) u ≡ true) t [] (has-taken d.texts t)
          (All-nil (λ u. has_text (with_text d.texts t) u ≡ true));
      rest = refl;
    })

pub gains-then : (d1 d2 d3 : Data) (ts us : List (List ℕ)) → Gains d1 ts d2 → Gains d2 us d3 → Gains d1 (ts ++ us) d3
gains-then d1 d2 d3 ts us g h = record {
  stays = keeps_ids_more d1.texts d2.texts d3.texts g.stays h.stays;
  there = All-append (λ t. has_text d3.texts t ≡ true) ts us
      (All-weaker (λ t. has_text d2.texts t ≡ true) (λ t. has_text d3.texts t ≡ true)
      (λ t. has-kept d2.texts d3.texts t h.stays) ts g.there) h.there;
  rest = h.rest ∙ ap (λ (d : Data). with_texts d d3.texts) g.rest;
}

-- of what is gained some is left out
pub gains-less : (d d' : Data) (ts : List (List ℕ)) → Gains d ts d' → Gains d [] d'
gains-less d d' ts g = record {
  stays = g.stays;
  there = All-nil (λ t. has_text d'.texts t ≡ true);
  rest = g.rest;
}

pub gains-nothing : (d d' : Data) → d' ≡ d → Gains d [] d'
gains-nothing d d' e = rw e (gains-none d)

-- a halt on the way
pub gains-halted : (d1 d2 d3 : Data) (ts us : List (List ℕ)) → Gains d1 ts d2 → Gains d2 us d3 → Gains d1 [] d3
gains-halted d1 d2 d3 ts us g h = gains-less d1 d3 (ts ++ us) (gains-then d1 d2 d3 ts us g h)

-- ---- ids

pub id-below : (texts : List (List ℕ)) (t : List ℕ) → has_text texts t ≡ true → (id_of texts t).0 < length texts
id-below texts t h = rw (with-there texts t h) at (length-there texts t).0

pub id-text : (texts : List (List ℕ)) (t : List ℕ) → has_text texts t ≡ true → text_at texts (id_of texts t) ≡ t
id-text texts t h = rw (with-there texts t h) at (length-there texts t).1

pub id-is : (texts : List (List ℕ)) (t : List ℕ) (id : StrId) → AreDistinct texts → slice_get texts id.0 ≡ Some t
    → id ≡ id_of texts t
id-is texts t id distinct e =
    ap (λ (n : ℕ). let x : StrId = record { 0 = n } in x)
    (sym (place-found texts t id.0 distinct e))

-- texts that differ have ids that differ
pub id-apart : (texts : List (List ℕ)) (a b : List ℕ) → has_text texts a ≡ true → has_text texts b ≡ true
    → same_text a b ≡ false → nat_eq (id_of texts a).0 (id_of texts b).0 ≡ false
id-apart texts a b h k differ = by (nat_eq (id_of texts a).0 (id_of texts b).0) refl
  where
    by : (x : Bool) → nat_eq (id_of texts a).0 (id_of texts b).0 ≡ x → x ≡ false
    by false e = refl
    by true e =
        let ids : (id_of texts a).0 ≡ (id_of texts b).0 = eqb-true (id_of texts a).0 (id_of texts b).0 e in
        let same : a ≡ b =
        sym (id-text texts a h) ∙ ap (λ (n : ℕ). slice_index_or texts n []) ids ∙ id-text texts b k in
        absurd (true≢false (sym ((bytes_decides a b).1 same) ∙ differ))
