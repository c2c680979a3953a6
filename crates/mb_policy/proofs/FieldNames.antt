-- The fields of a table, by the keys of its map.
use Rattle.std.proofs.Common.{◌≡◌, List, [], ◌∷◌, ℕ, Bool, true, false, ◌&&◌, refl, sym, ap₂, true≢false}
use Rattle.std.proofs.lemmas.Bool.{and_parts}
use Rattle.std.proofs.lemmas.List.Elements.{All-from_recursion, recursion_from_All}
use Rattle.std.specs.List.{AllByRecursion}
use Rattle.std.specs.Map.{keys_of}
use Rattle.std.specs.Prelude.{string_bytes, All, IsTrue, ◌↔◌}
use Rattle.toml.specs.View.{members_view}
use Rattle.toml.proofs.Views.{Entry}
use Rattle.mb_policy.specs.Fields.{all_fields}

module _ (test : List ℕ → Bool) where
  passes : (es : List Entry) → AllByRecursion (λ k. test (string_bytes k) ≡ true) (keys_of es) → all_fields test (members_view es) ≡ true
  passes [] h = refl
  passes (e ∷ es) h = ap₂ (λ a b. a && b) h.0 (passes es h.1)

  each : (es : List Entry) → all_fields test (members_view es) ≡ true → AllByRecursion (λ k. test (string_bytes k) ≡ true) (keys_of es)
  each [] h = tt
  each (e ∷ es) h =
      let parts = and_parts (test (string_bytes e.0)) (all_fields test (members_view es)) h in
      (parts.0, each es parts.1)

  -- what a test of each key answers
  pub fields-tested : (es : List Entry) (b : Bool) → IsTrue b ↔ All (λ k. test (string_bytes k) ≡ true) (keys_of es) → all_fields test (members_view es) ≡ b
  fields-tested es true h = passes es (recursion_from_All _ (keys_of es) (h.0 refl))
  fields-tested es false h = by (all_fields test (members_view es)) refl
    where
      by : (b : Bool) → all_fields test (members_view es) ≡ b → b ≡ false
      by true e = absurd (true≢false (sym (h.1 (All-from_recursion _ (keys_of es) (each es e)))))
      by false e = refl
