-- Keys by id and keys by units are the same keys, so a table of the world is the list of an object's properties.
use Rattle.std.proofs.Common.{◌≡◌, List, [], ◌∷◌, Bool, true, false, nat_eq, refl, sym, ap, ◌∙◌, true≢false, map, option_map}
use Rattle.std.specs.Prelude.{All}
use Rattle.std.proofs.lemmas.Bool.{eqb-true, eq-eqb}
use Rattle.std.proofs.lemmas.List.Elements.{All-head, All-tail}
use Rattle.mb_base.specs.declared.value.StrId.{StrId}
use Rattle.mb_base.specs.declared.value.SymId.{SymId}
use Rattle.mb_base.specs.declared.value.Key.{Key}
use Rattle.mb_base.specs.declared.value.Key.TheVariants.{Text, Symbol}
use Rattle.mb_base.specs.declared.value.Value.{Value}
use Rattle.mb_desc.specs.declared.descriptor.Full.{Full}
use Rattle.mb_props.specs.Table.{same_key, found, insert_entry, without}
use Rattle.mb_text.specs.Texts.{AreDistinct, text_at}
use Rattle.mb_text.specs.Index.{index_of}
use Rattle.mb_world.specs.Key.{PropertyKey, Named, SymbolKey}
use Rattle.mb_world.specs.Key as graph
use Rattle.mb_world.specs.Objects.{find_property, put_property, remove_property}
use Rattle.mb_world.specs.Data.{Data}
use Rattle.mb_world.specs.Ids.{KeyIn, PropertyIn}
use Rattle.mb_world.specs.Image.{names_of, key_in, full_in, property_in}
use Rattle.mb_world.proofs.Values.{both-true, units-same, units-equal, text-apart}

-- ---- equal keys are the same key

pub key-same : (k : PropertyKey) → graph.same_key k k ≡ true
key-same (Named t) = units-same t
key-same (SymbolKey n) = eq-eqb n n refl

pub key-equal : (j k : PropertyKey) → graph.same_key j k ≡ true → j ≡ k
key-equal (Named s) (Named t) h = ap Named (units-equal s t h)
key-equal (SymbolKey m) (SymbolKey n) h = ap SymbolKey (eqb-true m n h)
key-equal (Named s) (SymbolKey n) h = absurd (true≢false (sym h))
key-equal (SymbolKey m) (Named t) h = absurd (true≢false (sym h))

pub own-same : (k : Key) → same_key k k ≡ true
own-same (Text text index) = let a : nat_eq text.0 text.0 ≡ true = eq-eqb text.0 text.0 refl in let b : nat_eq index index ≡ true = eq-eqb index index refl in rw (a, b) refl
own-same (Symbol symbol) = eq-eqb symbol.0 symbol.0 refl

pub own-equal : (j k : Key) → same_key j k ≡ true → j ≡ k
own-equal (Text a i) (Text b j) h =
    let p = both-true (nat_eq a.0 b.0) (nat_eq i j) h in
    let s : a.0 ≡ b.0 = eqb-true a.0 b.0 p.0 in
    let t : i ≡ j = eqb-true i j p.1 in
    ap (λ n. let id : StrId = record { 0 = n } in Text id i) s ∙ ap (Text b) t
own-equal (Symbol a) (Symbol b) h = let s : a.0 ≡ b.0 = eqb-true a.0 b.0 h in ap (λ n. let id : SymId = record { 0 = n } in Symbol id) s
own-equal (Text a i) (Symbol b) h = absurd (true≢false (sym h))
own-equal (Symbol a) (Text b j) h = absurd (true≢false (sym h))

module _ (d : Data) (distinct : AreDistinct d.texts) where
  key-apart : (j k : Key) → KeyIn d j → KeyIn d k → key_in (names_of d) j ≡ key_in (names_of d) k → j ≡ k
  key-apart (Text a i) (Text b j) h k e =
      let t : text_at d.texts a ≡ text_at d.texts b = cc in
      let s : a ≡ b = text-apart d distinct a b h.0 k.0 t in
      let x : i ≡ j = h.1 ∙ ap index_of t ∙ sym k.1 in
      cc
  key-apart (Symbol a) (Symbol b) h k e = let s : a.0 ≡ b.0 = cc in ap (λ n. let id : SymId = record { 0 = n } in Symbol id) s
  key-apart (Text a i) (Symbol b) h k e = cc
  key-apart (Symbol a) (Text b j) h k e = cc

  -- keys compare as what they stand for does
  pub same-key : (j k : Key) → KeyIn d j → KeyIn d k → graph.same_key (key_in (names_of d) j) (key_in (names_of d) k) ≡ same_key k j
  same-key j k h i = by (same_key k j) refl (graph.same_key (key_in (names_of d) j) (key_in (names_of d) k)) refl
    where
      by : (b : Bool) → same_key k j ≡ b → (c : Bool) → graph.same_key (key_in (names_of d) j) (key_in (names_of d) k) ≡ c → graph.same_key (key_in (names_of d) j) (key_in (names_of d) k) ≡ same_key k j
      by true e true f = f ∙ sym e
      by false e false f = f ∙ sym e
      by true e false f =
          let is : k ≡ j = own-equal k j e in
          absurd (true≢false (sym (key-same (key_in (names_of d) j)) ∙ ap (λ z. graph.same_key (key_in (names_of d) j) (key_in (names_of d) z)) (sym is) ∙ f))
      by false e true f =
          let is : j ≡ k = key-apart j k h i (key-equal (key_in (names_of d) j) (key_in (names_of d) k) f) in
          absurd (true≢false (sym (own-same k) ∙ ap (same_key k) (sym is) ∙ e))

  -- ---- what a key finds, puts and takes out

  pub find-found : (ps : List (Key × Full Value)) (key : Key) → All (PropertyIn d) ps → KeyIn d key → find_property (key_in (names_of d) key) (map (property_in (names_of d)) ps) ≡ option_map (full_in (names_of d)) (found ps key)
  find-found [] key h k = refl
  find-found (p ∷ ps) key h k = by (same_key key p.0) refl (find-found ps key (All-tail (PropertyIn d) p ps h) k)
    where
      same : graph.same_key (key_in (names_of d) p.0) (key_in (names_of d) key) ≡ same_key key p.0
      same = same-key p.0 key (All-head (PropertyIn d) p ps h).0 k

      by : (b : Bool) → same_key key p.0 ≡ b → find_property (key_in (names_of d) key) (map (property_in (names_of d)) ps) ≡ option_map (full_in (names_of d)) (found ps key) → find_property (key_in (names_of d) key) (map (property_in (names_of d)) (p ∷ ps)) ≡ option_map (full_in (names_of d)) (found (p ∷ ps) key)
      by true e rest = rw (same, e) refl
      by false e rest = rw (same, e) rest

  pub put-insert : (ps : List (Key × Full Value)) (key : Key) (full : Full Value) → All (PropertyIn d) ps → KeyIn d key → map (property_in (names_of d)) (insert_entry ps key full) ≡ put_property (key_in (names_of d) key) (full_in (names_of d) full) (map (property_in (names_of d)) ps)
  put-insert [] key full h k = refl
  put-insert (p ∷ ps) key full h k = by (same_key key p.0) refl (put-insert ps key full (All-tail (PropertyIn d) p ps h) k)
    where
      same : graph.same_key (key_in (names_of d) p.0) (key_in (names_of d) key) ≡ same_key key p.0
      same = same-key p.0 key (All-head (PropertyIn d) p ps h).0 k

      by : (b : Bool) → same_key key p.0 ≡ b → map (property_in (names_of d)) (insert_entry ps key full) ≡ put_property (key_in (names_of d) key) (full_in (names_of d) full) (map (property_in (names_of d)) ps) → map (property_in (names_of d)) (insert_entry (p ∷ ps) key full) ≡ put_property (key_in (names_of d) key) (full_in (names_of d) full) (map (property_in (names_of d)) (p ∷ ps))
      by true e rest = let is : key ≡ p.0 = own-equal key p.0 e in rw (same, e) (ap (λ z. property_in (names_of d) (z, full) ∷ map (property_in (names_of d)) ps) (sym is))
      by false e rest = rw (same, e) (ap (λ r. property_in (names_of d) p ∷ r) rest)

  pub remove-without : (ps : List (Key × Full Value)) (key : Key) → All (PropertyIn d) ps → KeyIn d key → map (property_in (names_of d)) (without ps key) ≡ remove_property (key_in (names_of d) key) (map (property_in (names_of d)) ps)
  remove-without [] key h k = refl
  remove-without (p ∷ ps) key h k = by (same_key key p.0) refl (remove-without ps key (All-tail (PropertyIn d) p ps h) k)
    where
      same : graph.same_key (key_in (names_of d) p.0) (key_in (names_of d) key) ≡ same_key key p.0
      same = same-key p.0 key (All-head (PropertyIn d) p ps h).0 k

      by : (b : Bool) → same_key key p.0 ≡ b → map (property_in (names_of d)) (without ps key) ≡ remove_property (key_in (names_of d) key) (map (property_in (names_of d)) ps) → map (property_in (names_of d)) (without (p ∷ ps) key) ≡ remove_property (key_in (names_of d) key) (map (property_in (names_of d)) (p ∷ ps))
      by true e rest = rw (same, e) refl
      by false e rest = rw (same, e) (ap (λ r. property_in (names_of d) p ∷ r) rest)
