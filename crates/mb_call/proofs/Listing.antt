-- The keys that a side sees, one after the other.
use Rattle.std.proofs.Common.{◌≡◌, ◌<◌, ◌≤◌, ◌+◌, ◌++◌, ◌∙◌, ◌∷◌, Bool, List, None, Option, Some, [], ap, false}
use Rattle.std.proofs.Common.{filter_map, get_or, is_some, length, map, refl, subst, sym, take, true, ℕ}
use Rattle.std.proofs.lemmas.List.{map-append, take_all, take_more}
use Rattle.std.proofs.lemmas.List.Elements.{All-append, All-cons, All-nil}
use Rattle.std.specs.Map.{keys_of}
use Rattle.std.specs.Prelude.{All, IfSome}
use Rattle.mb_base.specs.declared.value.Key.{Key}
use Rattle.mb_base.specs.declared.value.ObjId.{ObjId}
use Rattle.mb_base.specs.declared.value.Side.{Side}
use Rattle.mb_desc.specs.declared.descriptor.Full.{Full}
use Rattle.mb_frames.proofs.Steps.{append-none}
use Rattle.mb_rules.specs.Seen.{graph_of}
use Rattle.mb_world.specs.Data.{Data}
use Rattle.mb_world.specs.Graph.{Thing}
use Rattle.mb_world.specs.Ids.{KeyIn}
use Rattle.mb_world.specs.Image.{key_in, names_of, object_at}
use Rattle.mb_world.specs.Key.{PropertyKey, keys_in_order}
use Rattle.mb_world.specs.Objects.{property_keys}
use Rattle.mb_world.specs.Value.{Val}
use Rattle.mb_world.specs.View.{shown_keys, shown_property, with_key}

-- those keys of a list at which something is there
abbrev pub keys_there : (PropertyKey → Option (Full Val)) → List PropertyKey → List PropertyKey
keys_there f ks = keys_of (filter_map (λ k. with_key k (f k)) ks)

abbrev one_if : Bool → PropertyKey → List PropertyKey
one_if true k = k ∷ []
one_if false k = []

there-push : (f : PropertyKey → Option (Full Val)) (ks : List PropertyKey) (k : PropertyKey)
    → keys_there f (ks ++ (k ∷ [])) ≡ keys_there f ks ++ one_if (is_some (f k)) k
there-push f [] k = by (f k) refl
  where
    by : (o : Option (Full Val)) → f k ≡ o → keys_there f (k ∷ []) ≡ one_if (is_some (f k)) k
    by None e = rw e refl
    by (Some p) e = rw e refl
there-push f (j ∷ ks) k = by (f j) refl (there-push f ks k)
  where
    by : (o : Option (Full Val)) → f j ≡ o → keys_there f (ks ++ (k ∷ [])) ≡ keys_there f ks ++ one_if (is_some (f k)) k
        → keys_there f ((j ∷ ks) ++ (k ∷ [])) ≡ keys_there f (j ∷ ks) ++ one_if (is_some (f k)) k
    by None e rest = rw e rest
    by (Some p) e rest = rw e (ap (λ r. j ∷ r) rest)

module _ (d : Data) (viewer : Side) (id : ObjId) where
  abbrev shows : Thing → PropertyKey → Option (Full Val)
  shows t k = shown_property (graph_of d) viewer.0 t k

  abbrev named : List Key → List PropertyKey
  named ks = map (key_in (names_of d)) ks

  -- the keys so far, of the object's own
  pub record AreListed (found own : List Key) : Type 0 where
    pub listed : (t : Thing) → object_at d id ≡ Some t → named found ≡ keys_there (shows t) (named own)
    pub within : All (KeyIn d) found

  pub listed-none : AreListed [] []
  listed-none = record { listed = λ t e. refl; within = All-nil (KeyIn d) }

  module _ (found own : List Key) (key : Key) (h : AreListed found own) (b : Bool)
      (is : (t : Thing) → object_at d id ≡ Some t → b ≡ is_some (shows t (key_in (names_of d) key))) where
    one-more : (t : Thing) → object_at d id ≡ Some t
        → named found ++ one_if b (key_in (names_of d) key) ≡ keys_there (shows t) (named (own ++ (key ∷ [])))
    one-more t e =
        ap (λ ks. ks ++ one_if b (key_in (names_of d) key)) (h.listed t e)
        ∙ ap (λ (x : Bool). keys_there (shows t) (named own) ++ one_if x (key_in (names_of d) key)) (is t e)
        ∙ sym (there-push (shows t) (named own) (key_in (names_of d) key))
        ∙ ap (keys_there (shows t)) (sym (map-append (key_in (names_of d)) own (key ∷ [])))

    listed-more : b ≡ true → KeyIn d key → AreListed (found ++ (key ∷ [])) (own ++ (key ∷ []))
    listed-more q i = record {
      listed = λ t e.
          map-append (key_in (names_of d)) found (key ∷ [])
          ∙ ap (λ (x : Bool). named found ++ one_if x (key_in (names_of d) key)) (sym q)
          ∙ one-more t e;
      within = All-append (KeyIn d) found (key ∷ []) h.within (All-cons (KeyIn d) key [] i (All-nil (KeyIn d)));
    }

    listed-less : b ≡ false → AreListed found (own ++ (key ∷ []))
    listed-less q = record {
      listed = λ t e.
          sym (append-none (named found))
          ∙ ap (λ (x : Bool). named found ++ one_if x (key_in (names_of d) key)) (sym q)
          ∙ one-more t e;
      within = h.within;
    }

  module _ (found own : List Key) (i : ℕ) (default : Key) (l : i < length own) (within : All (KeyIn d) own)
      (h : AreListed found (take i own)) (b : Bool)
      (is : IfSome (object_at d id) (λ t. b ≡ is_some (shows t (key_in (names_of d) (get_or own i default))))) where
    at-thing : (t : Thing) → object_at d id ≡ Some t
        → b ≡ is_some (shows t (key_in (names_of d) (get_or own i default)))
    at-thing t e = rw e at is

    pub listed-next : b ≡ true → (new : List Key) → new ≡ found ++ (get_or own i default ∷ [])
        → AreListed new (take (i + 1) own)
    listed-next q new f =
        subst (λ (ks : List Key). AreListed ks (take (i + 1) own)) (sym f)
        (subst (AreListed (found ++ (get_or own i default ∷ []))) (sym (take_more own i default l))
        (listed-more found (take i own) (get_or own i default) h b at-thing q (within i default l)))

    pub listed-left : b ≡ false → (new : List Key) → new ≡ found → AreListed new (take (i + 1) own)
    listed-left q new f =
        subst (λ (ks : List Key). AreListed ks (take (i + 1) own)) (sym f)
        (subst (AreListed found) (sym (take_more own i default l))
        (listed-less found (take i own) (get_or own i default) h b at-thing q))

  pub listed-done : (found own : List Key) (i : ℕ) → length own ≤ i → AreListed found (take i own)
      → IfSome (object_at d id) (λ t. named own ≡ keys_in_order (property_keys t.properties))
      → (t : Thing) → object_at d id ≡ Some t → named found ≡ shown_keys (graph_of d) viewer.0 t
  listed-done found own i l h order t e =
      h.listed t e
      ∙ ap (λ ks. keys_there (shows t) (named ks)) (take_all i own l)
      ∙ ap (keys_there (shows t)) (rw e at order)
