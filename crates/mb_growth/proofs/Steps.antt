-- Each atomic part of the ordinary methods makes an object move.
use Rattle.std.proofs.Common.{◌≡◌, ℕ, Bool, true, false, [], ◌∷◌, Option, None, Some, is_none, refl, sym, ap, ◌∙◌, subst, if◌then◌else◌}
use Rattle.mb_desc.specs.declared.descriptor.Desc.{Desc}
use Rattle.mb_desc.specs.declared.descriptor.Full.{Full}
use Rattle.mb_desc.specs.declared.descriptor.Full.TheVariants.{Datum, Accessor}
use Rattle.mb_desc.specs.Descriptors.{is_configurable, IsOfOneKind}
use Rattle.mb_desc.specs.Validate.{Validate}
use Rattle.mb_desc.specs.Laws.{KeepsFixed}
use Rattle.mb_desc.specs.View.{View}
use Rattle.mb_view.specs.Views.{property_of, HasDistinctKeys, Evolves}
use Rattle.mb_view.specs.Changes.{Change, Define, Remove, SetPrototype, PreventExtensions, changed, IsAllowed}
use Rattle.mb_view.proofs.Changing.{changed-distinct}
use Rattle.mb_view.proofs.Sorted.{sorted-refl, sorted-trans, sorted-changes}
use Rattle.mb_world.specs.Value.{Val, Undefined, same_value}
use Rattle.mb_world.specs.Key.{PropertyKey, same_key}
use Rattle.mb_world.specs.Graph.{Graph, Thing, RuleKind}
use Rattle.mb_world.specs.Objects.{is_proxy_kind, own_property, with_property, without_property}
use Rattle.mb_world.specs.Ordinary.{Refused, Becomes, validated, defined_as, ordinary_defined, closed, with_prototype, Leaves, Without, deleted}
use Rattle.mb_world.specs.Arrays.{length_key}
use Rattle.mb_world.specs.View.{shown_by, shown_property, key_rule, is_read_only, key_ruling, Remove as RemoveChange, Free, Decided, Admits}
use Rattle.mb_growth.specs.Objects.{as_view, sort_of, is_array, HasLength, IsFormed}
use Rattle.mb_growth.specs.Later.{IsLater, Moves}
use Rattle.mb_growth.specs.Laws.{DeletionsMove, PrototypesMove, ClosingMoves}
use Rattle.mb_growth.proofs.Values.{key-sound, key-refl, value-sound}
use Rattle.mb_growth.proofs.Bridge.{own-is, with-is, without-is}

pub later-refl : (t : Thing) → IsLater t t
later-refl t = record { owner = refl; label = refl; array = refl; proxy = refl; evolves = sorted-refl same_key sort_of (as_view t) }

pub later-trans : (t u v : Thing) → IsLater t u → IsLater u v → IsLater t v
later-trans t u v h k = record {
  owner = h.owner ∙ k.owner;
  label = h.label ∙ k.label;
  array = h.array ∙ k.array;
  proxy = h.proxy ∙ k.proxy;
  evolves = sorted-trans same_key sort_of (as_view t) (as_view u) (as_view v) h.evolves k.evolves;
}

pub moves-on : (t u v : Thing) → Moves t u → Moves u v → Moves t v
moves-on t u v h k = (k.0, later-trans t u v h.1 k.1)

-- a `length` that is neither enumerable nor configurable stays so
still-length : (v : Val) (w : Bool) (q : Full Val) → KeepsFixed (Datum v w false false) q → (u : Thing) → property_of same_key (as_view u) length_key ≡ Some q → HasLength u
still-length v w (Datum x y e c) h u at =
    (x, y, own-is length_key u ∙ at ∙ ap (λ (z : Bool). Some (Datum x y z c)) h.0 ∙ ap (λ (z : Bool). Some (Datum x y false z)) h.1)
still-length v w (Accessor g s e c) h u at = absurd h

pub one-change : (t u : Thing) (change : Change PropertyKey Val) → as_view u ≡ changed same_key change (as_view t)
    → t.owner ≡ u.owner → t.label ≡ u.label → is_array t.kind ≡ is_array u.kind → is_proxy_kind t.kind ≡ is_proxy_kind u.kind
    → IsFormed t → IsAllowed same_key same_value Undefined change (as_view t) → Moves t u
one-change t u change e owner label array proxy formed allowed = (record { distinct = distinct; array = has }, record { owner = owner; label = label; array = array; proxy = proxy; evolves = grows })
  where
    distinct : HasDistinctKeys same_key (as_view u)
    distinct = subst (HasDistinctKeys same_key) (sym e) (changed-distinct same_key (λ key. true) key-sound key-refl change (as_view t) formed.distinct)

    grows : Evolves same_key sort_of (as_view t) (as_view u)
    grows = subst (λ (view : View PropertyKey Val). Evolves same_key sort_of (as_view t) view) (sym e)
        (sorted-changes same_key sort_of key-sound key-refl same_value Undefined value-sound (change ∷ []) (as_view t) formed.distinct (allowed, tt))

    has : is_array u.kind ≡ true → HasLength u
    has a =
        let m = formed.array (array ∙ a) in
        let k = grows.facts.properties length_key (Datum m.0 m.1 false false) (sym (own-is length_key t) ∙ m.2) refl in
        still-length m.0 m.1 k.0 k.2 u k.1

-- a definition that was accepted
pub with-moves : (t : Thing) (k : PropertyKey) (d : Desc Val) (p : Full Val) → IsFormed t → IsOfOneKind d → validated t k d ≡ Some p → Moves t (with_property k p t)
with-moves t k d p formed one h =
    one-change t (with_property k p t) (Define k d p) (with-is k d p t) refl refl refl refl formed
    (one, ap (λ (o : Option (Full Val)). Validate same_value Undefined t.extensible o d) (sym (own-is k t)) ∙ h)

-- a property that is configurable is removed
pub without-moves : (t : Thing) (k : PropertyKey) (p : Full Val) → IsFormed t → own_property k t ≡ Some p → is_configurable p ≡ true → Moves t (without_property k t)
without-moves t k p formed at c =
    one-change t (without_property k t) (Remove k) (without-is k t) refl refl refl refl formed (p, sym (own-is k t) ∙ at, c)

pub prototypes-move : PrototypesMove
prototypes-move t p formed open_ = one-change t (with_prototype p t) (SetPrototype p) refl refl refl refl refl formed open_

pub closing-moves : ClosingMoves
closing-moves t formed = one-change t (closed t) PreventExtensions refl refl refl refl refl formed tt

pub ordinary-moves : (t u : Thing) (k : PropertyKey) (d : Desc Val) (b : Bool) → IsFormed t → IsOfOneKind d → ordinary_defined t k d ≡ Becomes u b → Moves t u
ordinary-moves t u k d b formed one h = by (validated t k d) refl h
  where
    by : (o : Option (Full Val)) → validated t k d ≡ o → defined_as t k o ≡ Becomes u b → Moves t u
    by None e i = absurd (let bad : Refused ≡ Becomes u b = i in cc)
    by (Some p) e i =
        let f : Becomes (with_property k p t) true ≡ Becomes u b = i in
        let m : with_property k p t ≡ u = cc in
        subst (λ (x : Thing). Moves t x) m (with-moves t k d p formed one e)

-- where the policy leaves a deletion free, the side sees the property as it is
free-seen : (g : Graph) (v : ℕ) (t : Thing) (k : PropertyKey) → Admits g v t (RemoveChange k) ≡ Free → shown_property g v t k ≡ own_property k t
free-seen g v t k h = by (is_read_only g v t) (key_rule g v t k) refl refl
  where
    by : (b : Bool) (r : Option RuleKind) → is_read_only g v t ≡ b → key_rule g v t k ≡ r → shown_property g v t k ≡ own_property k t
    by true r e f = absurd (let bad : Decided (is_none (shown_property g v t k)) ≡ Free = rw e at h in cc)
    by false None e f = ap (λ (r : Option RuleKind). shown_by r (own_property k t)) f
    by false (Some r) e f =
        let i : key_ruling g v t (RemoveChange k) ≡ Free = rw e at h in
        let j : (if is_none (Some r) then Free else Decided (is_none (shown_property g v t k))) ≡ Free =
        ap (λ (z : Option RuleKind). if is_none z then Free else Decided (is_none (shown_property g v t k))) (sym f) ∙ i in
        absurd (let bad : Decided (is_none (shown_property g v t k)) ≡ Free = j in cc)

own-deleted : (t u : Thing) (k : PropertyKey) → IsFormed t → (o : Option (Full Val)) → own_property k t ≡ o → deleted t k o ≡ Without u → Moves t u
own-deleted t u k formed None e h = absurd (let bad : Leaves true ≡ Without u = h in cc)
own-deleted t u k formed (Some p) e h = by (is_configurable p) refl
  where
    by : (b : Bool) → is_configurable p ≡ b → Moves t u
    by true c =
        let i : Without (without_property k t) ≡ Without u = rw c at h in
        let m : without_property k t ≡ u = cc in
        subst (λ (x : Thing). Moves t x) m (without-moves t k p formed e c)
    by false c = absurd (let bad : Leaves false ≡ Without u = rw c at h in cc)

pub deletions-move : DeletionsMove
deletions-move g v t u k formed free h =
    own-deleted t u k formed (own_property k t) refl (subst (λ (o : Option (Full Val)). deleted t k o ≡ Without u) (free-seen g v t k free) h)
