-- The rules on keys say of what keys stand for what they say of the keys.
use Rattle.std.proofs.Common.{◌++◌, ◌∙◌, ◌∷◌, ◌≡◌, Bool, List, [], ap, refl, sym}
use Rattle.std.proofs.lemmas.List.Elements.{All-append, All-head, All-tail}
use Rattle.std.proofs.lemmas.List.{map-append}
use Rattle.std.specs.Prelude.{All}
use Rattle.mb_base.specs.declared.value.Key.{Key}
use Rattle.mb_check.specs.Keys.{all_among, are_distinct, is_among}
use Rattle.mb_check.specs.Rules.{own_keys}
use Rattle.mb_check.specs.Values as check
use Rattle.mb_frames.specs.Resolved.{keys_of}
use Rattle.mb_props.proofs.Keys.{laws, same}
use Rattle.mb_text.specs.Texts.{AreDistinct}
use Rattle.mb_world.proofs.SameKeys.{same-key}
use Rattle.mb_world.specs.Data.{Data}
use Rattle.mb_world.specs.Ids.{KeyIn}
use Rattle.mb_world.specs.Image.{Names, key_in, names_of}
use Rattle.mb_world.specs.Key.{same_key}

module _ (d : Data) (distinct : AreDistinct d.texts) where
  abbrev n : Names
  n = names_of d

  one-same : (a k : Key) → KeyIn d a → KeyIn d k → same_key (key_in (names_of d) a) (key_in (names_of d) k)
      ≡ check.same_key a k
  one-same a k i j = same-key d distinct a k i j ∙ laws.symm k a ∙ sym (ap (λ (f : Key → Key → Bool). f a k) same)

  among-same : (k : Key) (ks : List Key) → KeyIn d k → All (KeyIn d) ks
      → is_among same_key (key_in (names_of d) k) (keys_of (names_of d) ks) ≡ is_among check.same_key k ks
  among-same k [] i h = refl
  among-same k (a ∷ ks) i h =
      rw (one-same a k (All-head (KeyIn d) a ks h) i, among-same k ks i (All-tail (KeyIn d) a ks h)) refl

  all-same : (ks others : List Key) → All (KeyIn d) ks → All (KeyIn d) others
      → all_among same_key (keys_of (names_of d) ks) (keys_of (names_of d) others)
      ≡ all_among check.same_key ks others
  all-same [] others h k = refl
  all-same (a ∷ ks) others h k =
      rw (
        among-same a others (All-head (KeyIn d) a ks h) k,
        all-same ks others (All-tail (KeyIn d) a ks h) k,
      ) refl

  distinct-same : (ks : List Key) → All (KeyIn d) ks
      → are_distinct same_key (keys_of (names_of d) ks) ≡ are_distinct check.same_key ks
  distinct-same [] h = refl
  distinct-same (k ∷ ks) h =
      rw (
        among-same k ks (All-head (KeyIn d) k ks h) (All-tail (KeyIn d) k ks h),
        distinct-same ks (All-tail (KeyIn d) k ks h),
      ) refl

  pub own-keys-same : (said fixed loose : List Key) (extensible : Bool) → All (KeyIn d) said → All (KeyIn d) fixed
      → All (KeyIn d) loose
      → own_keys same_key (keys_of (names_of d) said) (keys_of (names_of d) fixed) (keys_of (names_of d) loose)
      extensible
      ≡ own_keys check.same_key said fixed loose extensible
  own-keys-same said fixed loose extensible h k l =
      let own : keys_of n fixed ++ keys_of n loose ≡ keys_of n (fixed ++ loose)
      = sym (map-append (key_in n) fixed loose)
      in
      let both = All-append (KeyIn d) fixed loose k l in
      rw (
        own,
        distinct-same said h,
        all-same fixed said k h,
        all-same (fixed ++ loose) said both h,
        all-same said (fixed ++ loose) h both,
      ) refl
