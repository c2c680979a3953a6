-- The keys that are seen, one after the other.
use Rattle.std.proofs.Common.{◌≡◌, ◌<◌, ◌≤◌, ◌+◌, ℕ, List, [], ◌∷◌, ◌++◌, length, map, take, get_or, Option, Some, None, Bool, true, false, is_some, filter_map, refl, ap, sym, ◌∙◌, subst, option_map, Result, Ok, Err}
use Rattle.std.specs.Prelude.{All, IfSome, IfOk}
use Rattle.std.specs.Map.{keys_of}
use Rattle.std.proofs.lemmas.List.{map-append, take_more}
use Rattle.std.proofs.lemmas.List.Elements.{All-append, All-cons, All-nil}
use Rattle.mb_base.specs.declared.value.Key.{Key}
use Rattle.mb_base.specs.declared.value.Value.{Value}
use Rattle.mb_desc.specs.declared.descriptor.Full.{Full}
use Rattle.mb_view.specs.Views.{property_of}
use Rattle.mb_world.specs.Value.{Val}
use Rattle.mb_world.specs.Key.{PropertyKey, same_key, keys_in_order}
use Rattle.mb_world.specs.Graph.{Thing}
use Rattle.mb_world.specs.Objects.{property_keys}
use Rattle.mb_world.specs.View.{shown_property, with_key, Shown}
use Rattle.mb_world.specs.Data.{Data}
use Rattle.mb_world.specs.Ids.{KeyIn}
use Rattle.mb_world.specs.Image.{names_of, key_in, full_in, object_of, object_at}
use Rattle.mb_rules.specs.Seen.{graph_of}
use Rattle.mb_rules.proofs.Views.{from-object}
use Rattle.mb_shadow.proofs.Parts.{take-whole}
use Rattle.mb_shadow.proofs.Stable.{seen-shown}
use Rattle.mb_shadow.specs.declared.sight.Sight.{Sight}
use Rattle.mb_shadow.specs.machine.Sights.{IsSight, view_of, seen_in, seen_at}

-- those keys of a list at which something is there
abbrev pub keys_there : (PropertyKey → Option (Full Val)) → List PropertyKey → List PropertyKey
keys_there f ks = keys_of (filter_map (λ k. with_key k (f k)) ks)

abbrev pub one_if : Bool → PropertyKey → List PropertyKey
one_if true k = k ∷ []
one_if false k = []

pub there-push : (f : PropertyKey → Option (Full Val)) (ks : List PropertyKey) (k : PropertyKey) → keys_there f (ks ++ (k ∷ [])) ≡ keys_there f ks ++ one_if (is_some (f k)) k
there-push f [] k = by (f k) refl
  where
    by : (o : Option (Full Val)) → f k ≡ o → keys_there f (k ∷ []) ≡ one_if (is_some (f k)) k
    by None e = rw e refl
    by (Some p) e = rw e refl
there-push f (j ∷ ks) k = by (f j) refl (there-push f ks k)
  where
    by : (o : Option (Full Val)) → f j ≡ o → keys_there f (ks ++ (k ∷ [])) ≡ keys_there f ks ++ one_if (is_some (f k)) k
        → keys_there f ((j ∷ ks) ++ (k ∷ [])) ≡ keys_there f (j ∷ ks) ++ one_if (is_some (f k)) k
    by None e rest = rw e rest
    by (Some p) e rest = rw e (ap (λ r. j ∷ r) rest)

-- the keys so far, of the world's list of an object's own
pub record ListsSeen (d : Data) (s : Sight) (keys own : List Key) : Type 0 where
  pub listed : map (key_in (names_of d)) keys ≡ keys_there (seen_at d s) (map (key_in (names_of d)) own)
  pub within : All (KeyIn d) keys

pub lists-none : (d : Data) (s : Sight) → ListsSeen d s [] []
lists-none d s = record { listed = refl; within = All-nil (KeyIn d) }

module _ (d : Data) (s : Sight) (keys own : List Key) (key : Key) (h : ListsSeen d s keys own) where
  pub lists-more : is_some (seen_at d s (key_in (names_of d) key)) ≡ true → KeyIn d key → ListsSeen d s (keys ++ (key ∷ [])) (own ++ (key ∷ []))
  lists-more e i = record {
    listed =
        map-append (key_in (names_of d)) keys (key ∷ [])
        ∙ ap (λ ks. ks ++ (key_in (names_of d) key ∷ [])) h.listed
        ∙ ap (λ (b : Bool). keys_there (seen_at d s) (map (key_in (names_of d)) own) ++ one_if b (key_in (names_of d) key)) (sym e)
        ∙ sym (there-push (seen_at d s) (map (key_in (names_of d)) own) (key_in (names_of d) key))
        ∙ ap (keys_there (seen_at d s)) (sym (map-append (key_in (names_of d)) own (key ∷ [])));
    within = All-append (KeyIn d) keys (key ∷ []) h.within (All-cons (KeyIn d) key [] i (All-nil (KeyIn d)));
  }

  pub lists-less : is_some (seen_at d s (key_in (names_of d) key)) ≡ false → ListsSeen d s keys (own ++ (key ∷ []))
  lists-less e = record {
    listed =
        h.listed
        ∙ sym (none (keys_there (seen_at d s) (map (key_in (names_of d)) own)))
        ∙ ap (λ (b : Bool). keys_there (seen_at d s) (map (key_in (names_of d)) own) ++ one_if b (key_in (names_of d) key)) (sym e)
        ∙ sym (there-push (seen_at d s) (map (key_in (names_of d)) own) (key_in (names_of d) key))
        ∙ ap (keys_there (seen_at d s)) (sym (map-append (key_in (names_of d)) own (key ∷ [])));
    within = h.within;
  }
    where
      none : (ks : List PropertyKey) → ks ++ [] ≡ ks
      none [] = refl
      none (k ∷ ks) = ap (λ r. k ∷ r) (none ks)

-- ---- as the code has it

module _ (d : Data) (s : Sight) (sight : IsSight d s) where
  abbrev t : Thing
  t = object_of (names_of d) sight.cell

  at-object : object_at d s.object ≡ Some t
  at-object = ap (option_map (object_of (names_of d))) sight.there

  there-is : (k : PropertyKey) (b : Bool) → IfSome (object_at d s.object) (λ t. b ≡ is_some (shown_property (graph_of d) s.viewer.0 t k)) → is_some (seen_at d s k) ≡ b
  there-is k b h =
      ap (λ (o : Option Thing). is_some (seen_in d s.viewer.0 k o)) at-object
      ∙ sym (from-object d s.object sight.cell (λ t. b ≡ is_some (shown_property (graph_of d) s.viewer.0 t k)) sight.there h)

  module _ (keys own : List Key) (i : ℕ) (default : Key) (l : i < length own) (within : All (KeyIn d) own) (h : ListsSeen d s keys (take i own)) (b : Bool)
      (listed : IfSome (object_at d s.object) (λ t. b ≡ is_some (shown_property (graph_of d) s.viewer.0 t (key_in (names_of d) (get_or own i default))))) where
    pub lists-next : b ≡ true → (new : List Key) → new ≡ keys ++ (get_or own i default ∷ []) → ListsSeen d s new (take (i + 1) own)
    lists-next e new f =
        subst (λ (ks : List Key). ListsSeen d s ks (take (i + 1) own)) (sym f)
        (subst (ListsSeen d s (keys ++ (get_or own i default ∷ []))) (sym (take_more own i default l))
        (lists-more d s keys (take i own) (get_or own i default) h (there-is (key_in (names_of d) (get_or own i default)) b listed ∙ e) (within i default l)))

    pub lists-left : b ≡ false → (new : List Key) → new ≡ keys → ListsSeen d s new (take (i + 1) own)
    lists-left e new f =
        subst (λ (ks : List Key). ListsSeen d s ks (take (i + 1) own)) (sym f)
        (subst (ListsSeen d s keys) (sym (take_more own i default l))
        (lists-less d s keys (take i own) (get_or own i default) h (there-is (key_in (names_of d) (get_or own i default)) b listed ∙ e)))

  pub lists-done : (keys own : List Key) (i : ℕ) → length own ≤ i → ListsSeen d s keys (take i own)
      → IfSome (object_at d s.object) (λ t. map (key_in (names_of d)) own ≡ keys_in_order (property_keys t.properties))
      → IfSome (view_of d s) (λ view. map (key_in (names_of d)) keys ≡ keys_of view.properties)
  lists-done keys own i l h listed =
      let order : map (key_in (names_of d)) own ≡ keys_in_order (property_keys t.properties) =
      from-object d s.object sight.cell (λ t. map (key_in (names_of d)) own ≡ keys_in_order (property_keys t.properties)) sight.there listed in
      let e : map (key_in (names_of d)) keys ≡ keys_of (Shown (graph_of d) s.viewer.0 t).properties =
      h.listed
      ∙ ap (λ ks. keys_there (seen_at d s) (map (key_in (names_of d)) ks)) (take-whole own i l)
      ∙ ap (keys_there (seen_at d s)) order
      ∙ ap (λ (o : Option Thing). keys_there (λ k. seen_in d s.viewer.0 k o) (keys_in_order (property_keys t.properties))) at-object in
      rw at-object e

pub seen-meaning : (d d' : Data) (s : Sight) → IsSight d s → (key : Key) (own : Option (Full Value)) → option_map (full_in (names_of d')) own ≡ seen_at d s (key_in (names_of d) key)
    → IfSome (view_of d s) (λ view. option_map (full_in (names_of d')) own ≡ property_of same_key view (key_in (names_of d) key))
seen-meaning d d' s sight key own h =
    let at : object_at d s.object ≡ Some (object_of (names_of d) sight.cell) = ap (option_map (object_of (names_of d))) sight.there in
    let e : option_map (full_in (names_of d')) own ≡ property_of same_key (Shown (graph_of d) s.viewer.0 (object_of (names_of d) sight.cell)) (key_in (names_of d) key) =
    h ∙ sym (seen-shown d s (object_of (names_of d) sight.cell) at (key_in (names_of d) key)) in
    rw at e

-- what was got, or memory was refused
pub seen-through : {E : Type 0} (d d' : Data) (s : Sight) → IsSight d s → (key : Key) (r : Result (Option (Full Value)) E)
    → IfOk r (λ own. option_map (full_in (names_of d')) own ≡ seen_at d s (key_in (names_of d) key))
    → IfOk r (λ own. IfSome (view_of d s) (λ view. option_map (full_in (names_of d')) own ≡ property_of same_key view (key_in (names_of d) key)))
seen-through d d' s sight key (Ok own) h = seen-meaning d d' s sight key own h
seen-through d d' s sight key (Err e) h = tt
