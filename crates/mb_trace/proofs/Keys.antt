-- Keys in brackets, one after the other.
use Rattle.std.proofs.Common.{◌≡◌, ℕ, ◌<◌, ◌≤◌, ◌+◌, List, [], ◌∷◌, ◌++◌, map, length, get_or, take, drop, sym, ap, ◌∙◌, append_assoc, arith}
use Rattle.std.specs.List.{flat_map, join_by}
use Rattle.std.proofs.lemmas.List.{take_all}
use Rattle.std.proofs.lemmas.List.Folds.{flat_map-map}
use Rattle.mb_base.specs.declared.value.Key.{Key}
use Rattle.mb_world.specs.Image.{key_by}
use Rattle.mb_world.specs.EntryLine.{seen_key}

module _ (numbered texts : List (List ℕ)) where
  abbrev told : Key → List ℕ
  told key = seen_key numbered (key_by texts key)

  joined : (k : Key) (ks : List Key) → join_by (seen_key numbered) (44 ∷ []) (map (key_by texts) (k ∷ ks)) ≡ told k ++ flat_map (λ key. 44 ∷ told key) ks
  joined k ks = ap (λ r. told k ++ r) (flat_map-map (λ key. 44 ∷ seen_key numbered key) (key_by texts) ks)

  -- the first key, and then the others
  pub listed : (before first rest : List ℕ) (ks : List Key) (d : Key) (n : ℕ) → 0 < length ks
      → first ≡ before ++ told (get_or ks 0 d) → rest ≡ first ++ flat_map (λ key. 44 ∷ told key) (take n (drop 1 ks))
      → length ks ≤ n + 1 → rest ≡ before ++ join_by (seen_key numbered) (44 ∷ []) (map (key_by texts) ks)
  listed before first rest [] d n some one others most = absurd (omega arith)
  listed before first rest (k ∷ ks) d n some one others most =
      let all = flat_map (λ key. 44 ∷ told key) ks in
      let whole : take n ks ≡ ks = take_all n ks (omega (arith, most)) in
      others ∙ ap (λ xs. first ++ flat_map (λ key. 44 ∷ told key) xs) whole ∙ ap (λ x. x ++ all) one
      ∙ append_assoc before (told k) all ∙ ap (λ j. before ++ j) (sym (joined k ks))
