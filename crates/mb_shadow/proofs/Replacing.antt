-- A shadow has what is seen, of one key after the other.
use Rattle.std.proofs.Common.{◌≡◌, ◌<◌, ◌≤◌, ◌+◌, ◌++◌, ◌||◌, ℕ, List, [], ◌∷◌, length, map, take, get_or, Vec, Global, Option, Some, None, Bool, true, false, is_some, refl, ap, sym, ◌∙◌, subst, if◌then◌else◌, option_map, Result, Ok, Err}
use Rattle.std.specs.Prelude.{All, IfSome, IfOk, OnOk}
use Rattle.std.specs.List.{list_any}
use Rattle.std.specs.Map.{keys_of, lookup}
use Rattle.std.proofs.lemmas.List.{map-append, take_more}
use Rattle.mb_base.specs.declared.value.ObjId.{ObjId}
use Rattle.mb_base.specs.declared.value.Key.{Key}
use Rattle.mb_base.specs.declared.value.Value.{Value}
use Rattle.mb_desc.specs.declared.descriptor.Full.{Full}
use Rattle.mb_view.proofs.Tables.{any-lookup, same_key-sym}
use Rattle.mb_world.specs.declared.cell.Cell.{Cell}
use Rattle.mb_world.specs.Value.{Val}
use Rattle.mb_world.specs.Key.{PropertyKey, same_key, has_key, keys_in_order}
use Rattle.mb_world.specs.Graph.{Thing}
use Rattle.mb_world.specs.Objects.{find_property, property_keys}
use Rattle.mb_world.specs.View.{Shown}
use Rattle.mb_world.specs.Data.{Data, cell_at}
use Rattle.mb_world.specs.Ids.{KeyIn}
use Rattle.mb_world.specs.Image.{Names, names_of, key_in, full_in, property_in, object_of, object_at}
use Rattle.mb_world.proofs.Images.{key-grows, map-same}
use Rattle.mb_world.proofs.SameKeys.{key-equal}
use Rattle.mb_rules.specs.Seen.{graph_of}
use Rattle.mb_maps.specs.Crossed.{Crossed}
use Rattle.mb_shadow.specs.Seeing.{CanSee}
use Rattle.mb_shadow.specs.Following.{Followed}
use Rattle.mb_shadow.specs.declared.sight.Sight.{Sight}
use Rattle.mb_shadow.specs.machine.Sights.{IsSight, view_of, seen_at, held_in, held_at, flags_at, Held, Replaced, ReplacedAll}
use Rattle.mb_shadow.proofs.Parts.{take-whole}
use Rattle.mb_shadow.proofs.Shown.{any-in_order, any-keys}
use Rattle.mb_shadow.proofs.Steps.{followed-same, followed-then}
use Rattle.mb_shadow.proofs.Holds.{pair, held-stays, flags-stay}
use Rattle.mb_shadow.proofs.Stable.{shadow-of, shadow-in, seen-shown, seen-stays}

-- ---- one key

module _ (d d1 : Data) (s : Sight) (can : CanSee d) (sight : IsSight d s) (h : Crossed d d1) where
  held-crossed : (k : PropertyKey) → held_at d1 s.shadow k ≡ held_at d s.shadow k
  held-crossed k = let c = shadow-of d s sight in held-stays d d1 can h.becomes.grows s.shadow c.0 c.1 (h.cells s.shadow c.0 c.1) k

  flags-crossed : flags_at d1 s.shadow ≡ flags_at d s.shadow
  flags-crossed = let c = shadow-of d s sight in flags-stay d d1 can h.becomes.grows s.shadow c.0 c.1 (h.cells s.shadow c.0 c.1)

  pub replaced-one : (key : Key) → KeyIn d key → (o : Option (Full Val)) → o ≡ seen_at d s (key_in (names_of d) key)
      → (d2 : Data) → Held d1 d2 s.shadow (key_in (names_of d1) key) o → Replaced d d2 s (key_in (names_of d) key ∷ [])
  replaced-one key i o seen d2 held = record { properties = λ k. by k (same_key k (key_in (names_of d) key)) refl; flags = held.flags ∙ flags-crossed }
    where
      same : key_in (names_of d1) key ≡ key_in (names_of d) key
      same = key-grows d d1 h.becomes.grows key i

      at : (k : PropertyKey) → held_at d2 s.shadow k ≡ (if same_key k (key_in (names_of d) key) then o else held_at d1 s.shadow k)
      at k = held.properties k ∙ ap (λ (z : PropertyKey). if same_key k z then o else held_at d1 s.shadow k) same

      by : (k : PropertyKey) (b : Bool) → same_key k (key_in (names_of d) key) ≡ b
          → held_at d2 s.shadow k ≡ (if same_key k (key_in (names_of d) key) || false then seen_at d s k else held_at d s.shadow k)
      by k true e =
          at k
          ∙ ap (λ (b : Bool). if b then o else held_at d1 s.shadow k) e
          ∙ seen
          ∙ ap (seen_at d s) (sym (key-equal k (key_in (names_of d) key) e))
          ∙ ap (λ (b : Bool). if b || false then seen_at d s k else held_at d s.shadow k) (sym e)
      by k false e =
          at k
          ∙ ap (λ (b : Bool). if b then o else held_at d1 s.shadow k) e
          ∙ held-crossed k
          ∙ ap (λ (b : Bool). if b || false then seen_at d s k else held_at d s.shadow k) (sym e)

pub on-ok : {A E : Type 0} (P Q : Type 0) → (P → Q) → (r : Result A E) → OnOk r P → OnOk r Q
on-ok P Q f (Ok a) h = f h
on-ok P Q f (Err e) h = tt

-- ---- one after the other

has-append : (k : PropertyKey) (xs ys : List PropertyKey) → has_key k (xs ++ ys) ≡ has_key k xs || has_key k ys
has-append k [] ys = refl
has-append k (x ∷ xs) ys = ap (λ b. same_key k x || b) (has-append k xs ys) ∙ or-same (same_key k x) (has_key k xs) (has_key k ys)
  where
    or-same : (a b c : Bool) → a || (b || c) ≡ (a || b) || c
    or-same true b c = refl
    or-same false b c = refl

-- the shadow has what was seen at first of these keys
pub record AreReplaced (d d' : Data) (s : Sight) (keys : List Key) : Type 0 where
  pub followed : Followed d d' s.shadow
  pub replaced : Replaced d d' s (map (key_in (names_of d)) keys)
  pub runs : d'.halted ≡ d.halted

pub are-replaced-none : (d : Data) (s : Sight) → CanSee d → AreReplaced d d s []
are-replaced-none d s can = record { followed = followed-same d s.shadow can; replaced = record { properties = λ k. refl; flags = refl }; runs = refl }

pub replaced-then : (d d1 d2 : Data) (s : Sight) → CanSee d → IsSight d s → Followed d d1 s.shadow → (ks js : List PropertyKey)
    → Replaced d d1 s ks → Replaced d1 d2 s js → Replaced d d2 s (ks ++ js)
replaced-then d d1 d2 s can sight f ks js one two = record {
  properties = λ k.
      two.properties k
      ∙ ap (λ (o : Option (Full Val)). if has_key k js then o else held_at d1 s.shadow k) (seen-stays d d1 s can sight f k)
      ∙ ap (λ (o : Option (Full Val)). if has_key k js then seen_at d s k else o) (one.properties k)
      ∙ by k (has_key k ks) (has_key k js)
      ∙ ap (λ (b : Bool). if b then seen_at d s k else held_at d s.shadow k) (sym (has-append k ks js));
  flags = two.flags ∙ one.flags;
}
  where
    by : (k : PropertyKey) (a b : Bool)
        → (if b then seen_at d s k else (if a then seen_at d s k else held_at d s.shadow k)) ≡ (if a || b then seen_at d s k else held_at d s.shadow k)
    by k true true = refl
    by k true false = refl
    by k false true = refl
    by k false false = refl

pub are-replaced-more : (d d1 d2 : Data) (s : Sight) → CanSee d → IsSight d s → (keys : List Key) (key : Key) → KeyIn d key → AreReplaced d d1 s keys
    → Replaced d1 d2 s (key_in (names_of d1) key ∷ []) → Followed d1 d2 s.shadow → d2.halted ≡ d1.halted → AreReplaced d d2 s (keys ++ (key ∷ []))
are-replaced-more d d1 d2 s can sight keys key i h one f runs = record {
  followed = followed-then d d1 d2 s.shadow (shadow-in d s sight) h.followed f;
  replaced = subst (Replaced d d2 s) (sym (map-append (key_in (names_of d)) keys (key ∷ [])))
      (replaced-then d d1 d2 s can sight h.followed (map (key_in (names_of d)) keys) (key_in (names_of d) key ∷ []) h.replaced
      (subst (λ (k : PropertyKey). Replaced d1 d2 s (k ∷ [])) (key-grows d d1 h.followed.becomes.grows key i) one));
  runs = runs ∙ h.runs;
}

-- ---- of every key

has-any : (k : PropertyKey) (xs : List PropertyKey) → has_key k xs ≡ list_any (same_key k) xs
has-any k [] = refl
has-any k (x ∷ xs) = ap (λ b. same_key k x || b) (has-any k xs)

find-pairs : (n : Names) (k : PropertyKey) (ps : List (Key × Full Value)) → find_property k (map (property_in n) ps) ≡ lookup (same_key k) (map (pair n) ps)
find-pairs n k [] = refl
find-pairs n k (p ∷ ps) =
    ap (λ (b : Bool). if b then Some (full_in n p.1) else find_property k (map (property_in n) ps)) (same_key-sym same_key key-equal (key_in n p.0) k)
    ∙ ap (λ (r : Option (Full Val)). if same_key k (key_in n p.0) then Some (full_in n p.1) else r) (find-pairs n k ps)

-- a list of an object's own keys has each key at which its cell has something
pub own-covers : (d : Data) (id : ObjId) (c : Cell) → cell_at d id ≡ Some c → (own : List Key)
    → IfSome (object_at d id) (λ t. map (key_in (names_of d)) own ≡ keys_in_order (property_keys t.properties))
    → (k : PropertyKey) → has_key k (map (key_in (names_of d)) own) ≡ is_some (held_at d id k)
own-covers d id c there own listed k =
    let e : map (key_in (names_of d)) own ≡ keys_in_order (property_keys (object_of (names_of d) c).properties) = rw there at listed in
    has-any k (map (key_in (names_of d)) own)
    ∙ ap (list_any (same_key k)) e
    ∙ any-in_order (same_key k) (property_keys (map (property_in (names_of d)) c.props))
    ∙ any-keys k (map (property_in (names_of d)) c.props)
    ∙ ap is_some (find-pairs (names_of d) k c.props)
    ∙ sym (ap (λ (o : Option Cell). is_some (held_in (names_of d) k o)) there)

-- and a list of the keys seen each at which something is seen
pub seen-covers : (d : Data) (s : Sight) (t : Thing) → object_at d s.object ≡ Some t → (keys : List Key)
    → IfSome (view_of d s) (λ view. map (key_in (names_of d)) keys ≡ keys_of view.properties)
    → (k : PropertyKey) → has_key k (map (key_in (names_of d)) keys) ≡ is_some (seen_at d s k)
seen-covers d s t there keys listed k =
    let e : map (key_in (names_of d)) keys ≡ keys_of (Shown (graph_of d) s.viewer.0 t).properties = rw there at listed in
    has-any k (map (key_in (names_of d)) keys)
    ∙ ap (list_any (same_key k)) e
    ∙ any-lookup (same_key k) (Shown (graph_of d) s.viewer.0 t).properties
    ∙ ap is_some (seen-shown d s t there k)

pub all-replaced : (d d2 : Data) (s : Sight) (ks js : List PropertyKey) → Replaced d d2 s (ks ++ js)
    → ((k : PropertyKey) → has_key k ks ≡ is_some (held_at d s.shadow k)) → ((k : PropertyKey) → has_key k js ≡ is_some (seen_at d s k)) → ReplacedAll d d2 s
all-replaced d d2 s ks js r own seen = record {
  properties = λ k.
      r.properties k
      ∙ ap (λ (b : Bool). if b then seen_at d s k else held_at d s.shadow k) (has-append k ks js)
      ∙ ap (λ (b : Bool). if b || has_key k js then seen_at d s k else held_at d s.shadow k) (own k)
      ∙ ap (λ (b : Bool). if is_some (held_at d s.shadow k) || b then seen_at d s k else held_at d s.shadow k) (seen k)
      ∙ by (held_at d s.shadow k) (seen_at d s k);
  flags = r.flags;
}
  where
    by : (held shown : Option (Full Val)) → (if is_some held || is_some shown then shown else held) ≡ shown
    by None None = refl
    by None (Some p) = refl
    by (Some q) shown = refl

-- ---- as the code has it

pub are-replaced-next : (d d1 d2 : Data) (s : Sight) → CanSee d → IsSight d s → (keys : List Key) (i : ℕ) (default : Key) → i < length keys → All (KeyIn d) keys
    → AreReplaced d d1 s (take i keys) → Replaced d1 d2 s (key_in (names_of d1) (get_or keys i default) ∷ []) → Followed d1 d2 s.shadow
    → d2.halted ≡ d1.halted → AreReplaced d d2 s (take (i + 1) keys)
are-replaced-next d d1 d2 s can sight keys i default l within h one f runs =
    subst (AreReplaced d d2 s) (sym (take_more keys i default l))
    (are-replaced-more d d1 d2 s can sight (take i keys) (get_or keys i default) (within i default l) h one f runs)

pub are-replaced-all : (d d' : Data) (s : Sight) (keys : List Key) (i : ℕ) → length keys ≤ i → AreReplaced d d' s (take i keys) → AreReplaced d d' s keys
are-replaced-all d d' s keys i l h = subst (AreReplaced d d' s) (take-whole keys i l) h

-- what was read of a world, and what was then made of it
pub record ReadAndReplaced (d d2 d3 : Data) (s : Sight) (own seen : List Key) : Type 0 where
  pub own_listed : IfSome (object_at d s.shadow) (λ t. map (key_in (names_of d)) own ≡ keys_in_order (property_keys t.properties))
  pub seen_listed : IfSome (view_of d s) (λ view. map (key_in (names_of d)) seen ≡ keys_of view.properties)
  pub seen_within : All (KeyIn d) seen
  pub first : Replaced d d2 s (map (key_in (names_of d)) own)
  pub first_followed : Followed d d2 s.shadow
  pub second : Replaced d2 d3 s (map (key_in (names_of d2)) seen)

pub all-done : (d d2 d3 : Data) (s : Sight) (own seen : List Key) → CanSee d → IsSight d s → ReadAndReplaced d d2 d3 s own seen → ReplacedAll d d3 s
all-done d d2 d3 s own seen can sight h =
    let c = shadow-of d s sight in
    let same : map (key_in (names_of d2)) seen ≡ map (key_in (names_of d)) seen =
    map-same (key_in (names_of d2)) (key_in (names_of d)) (KeyIn d) (key-grows d d2 h.first_followed.becomes.grows) seen h.seen_within in
    all-replaced d d3 s (map (key_in (names_of d)) own) (map (key_in (names_of d)) seen)
    (replaced-then d d2 d3 s can sight h.first_followed (map (key_in (names_of d)) own) (map (key_in (names_of d)) seen) h.first
    (subst (Replaced d2 d3 s) same h.second))
    (own-covers d s.shadow c.0 c.1 own h.own_listed)
    (seen-covers d s (object_of (names_of d) sight.cell) (ap (option_map (object_of (names_of d))) sight.there) seen h.seen_listed)

-- the keys that were read are those that came through
pub read-own : {E : Type 0} (d : Data) (id : ObjId) (got passed : Result (Vec Key Global) E) (own : Vec Key Global) → passed ≡ got → passed ≡ Ok own
    → IfOk got (λ ks. IfSome (object_at d id) (λ t. map (key_in (names_of d)) ks.items ≡ keys_in_order (property_keys t.properties)))
    → IfSome (object_at d id) (λ t. map (key_in (names_of d)) own.items ≡ keys_in_order (property_keys t.properties))
read-own d id got passed own same ok h = rw (sym same ∙ ok) at h

pub read-seen : {E : Type 0} (d : Data) (s : Sight) (got passed : Result (Vec Key Global) E) (seen : Vec Key Global) → passed ≡ got → passed ≡ Ok seen
    → IfOk got (λ ks. IfSome (view_of d s) (λ view. map (key_in (names_of d)) ks.items ≡ keys_of view.properties))
    → IfSome (view_of d s) (λ view. map (key_in (names_of d)) seen.items ≡ keys_of view.properties)
read-seen d s got passed seen same ok h = rw (sym same ∙ ok) at h

pub read-within : {E : Type 0} (d : Data) (got passed : Result (Vec Key Global) E) (seen : Vec Key Global) → passed ≡ got → passed ≡ Ok seen
    → IfOk got (λ ks. All (KeyIn d) ks.items) → All (KeyIn d) seen.items
read-within d got passed seen same ok h = rw (sym same ∙ ok) at h
