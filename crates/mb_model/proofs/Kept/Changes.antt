use Rattle.std.proofs.Common.{◌≡◌, ℕ, zero, suc, List, [], ◌∷◌, ◌++◌, Bool, true, false, not, ◌&&◌, nat_le, Option, None, Some, slice_get, slice_set, refl, sym, ap, ◌∙◌, subst, if◌then◌else◌}
use Rattle.std.specs.Prelude.{ℤ}
use Rattle.mb_desc.specs.declared.descriptor.Desc.{Desc}
use Rattle.mb_desc.specs.declared.descriptor.Full.{Full}
use Rattle.mb_desc.specs.Descriptors.{is_configurable, IsOfOneKind, denies, descriptor_of}
use Rattle.mb_world.specs.Value.{Val, Undefined, Null, Truth, Whole, Text, Symbol, Object, BuiltIn, whole_of}
use Rattle.mb_world.specs.Key.{PropertyKey, same_key, index_of_key}
use Rattle.mb_world.specs.Property.{open_property}
use Rattle.mb_world.specs.declared.cell.Shape.{Shape}
use Rattle.mb_world.specs.Graph.{Graph, Thing, Kind, Array, Proxy, Property}
use Rattle.mb_world.specs.Objects.{thing_at, thing_is, is_proxy_kind, with_thing, new_thing, put_property, without_property}
use Rattle.mb_world.specs.Ordinary.{Defined, Refused, Becomes, Faulty, validated, defined_as, ordinary_defined, closed, with_prototype, Without, deleted}
use Rattle.mb_world.specs.Ordinary as ordinary
use Rattle.mb_world.specs.Arrays.{index_key, length_key, array_length, element_as, element_defined, length_as, without_writable, length_below, as_length, length_within, length_given, length_defined, array_defined_at, defined_by_kind, defined, element_stored}
use Rattle.mb_world.specs.View.{shown_property, Remove, Free, Admits}
use Rattle.mb_model.specs.Operations.Calls.{target_is_array}
use Rattle.mb_model.specs.Operations.Makings.{array_thing}
use Rattle.mb_model.specs.BuiltIns.ProxyMaking.{may_be_target}

-- the changes that rows make of objects

-- properties that were put one after the other
abbrev pub put_each : List Property → List Property
put_each [] = []
put_each (p ∷ ps) = put_property p.key p.full (put_each ps)

abbrev pub Puts : List Property → Type 0
Puts ps = (qs : List Property) × (put_each qs ≡ ps)

-- a Proxy that has a target
abbrev pub has_target : Kind → Bool
has_target (Proxy target handler shape) = true
has_target _ = false

-- neither an array nor a Proxy that has a target
abbrev pub is_other : Kind → Bool
is_other Array = false
is_other (Proxy target handler shape) = false
is_other _ = true

-- an object as a row makes it, wherever it does
pub data IsNew (t : Thing) : Type 0 where
  NewArray : (s : ℕ) (p : Val) (n : ℕ) (vs : List Val) → array_thing s p n vs ≡ t → IsNew t
  NewOther : is_other t.kind ≡ true → Puts t.properties → IsNew t

-- an object as a row makes it in this graph
pub data IsMade (g : Graph) (t : Thing) : Type 0 where
  Apart : IsNew t → IsMade g t
  ProxyOf : (s : ℕ) (target handler : Val) (shape : Shape) → may_be_target g target ≡ true
      → new_thing s None (Proxy target handler shape) Null ≡ t → IsMade g t

-- what becomes of an object: a part of an internal method does it, or its slots change. What only fitting tasks see to
-- is told to those who care
pub data Change (cares : Type 0) (g : Graph) (t u : Thing) : Type 0 where
  Definition : (k : PropertyKey) (d : Desc Val) (b : Bool) → (cares → IsOfOneKind d) → defined t k d ≡ Becomes u b
      → Change cares g t u
  PlainDefinition : (k : PropertyKey) (d : Desc Val) (b : Bool) → IsOfOneKind d → ordinary_defined t k d ≡ Becomes u b
      → Change cares g t u
  Storing : (n : ℕ) (v : Val) (b : Bool) → target_is_array t.kind ≡ true → element_stored t n v ≡ Becomes u b
      → Change cares g t u
  Deletion : (v : ℕ) (k : PropertyKey) → Admits g v t (Remove k) ≡ Free
      → deleted t k (shown_property g v t k) ≡ Without u → Change cares g t u
  NewPrototype : (p : Val) → (cares → t.extensible ≡ true) → with_prototype p t ≡ u → Change cares g t u
  Closing : closed t ≡ u → Change cares g t u
  Recast : (k : Kind) → target_is_array t.kind ≡ target_is_array k → is_proxy_kind t.kind ≡ is_proxy_kind k
      → has_target k ≡ false → record t { kind = k } ≡ u → Change cares g t u

-- ---- an array stays one

abbrev KindOf : Kind → Defined → Type 0
KindOf k Refused = Unit {0}
KindOf k (Becomes u b) = k ≡ u.kind
KindOf k (Faulty e) = Unit {0}

kind-if : (k : Kind) (b : Bool) (x y : Defined) → KindOf k x → KindOf k y → KindOf k (if b then x else y)
kind-if k true x y p q = p
kind-if k false x y p q = q

kind-as : (t : Thing) (k : PropertyKey) (o : Option (Full Val)) → KindOf t.kind (defined_as t k o)
kind-as t k None = tt
kind-as t k (Some p) = refl

kind-ordinary : (t : Thing) (k : PropertyKey) (d : Desc Val) → KindOf t.kind (ordinary_defined t k d)
kind-ordinary t k d = kind-as t k (validated t k d)

kind-element_as : (t : Thing) (k : PropertyKey) (i : ℕ) (n : ℕ × Bool) (o : Option (Full Val)) →
    KindOf t.kind (element_as t k i n o)
kind-element_as t k i n None = tt
kind-element_as t k i n (Some p) = refl

kind-element : (t : Thing) (k : PropertyKey) (d : Desc Val) (i : ℕ) (n : ℕ × Bool) → KindOf t.kind (element_defined t k d i n)
kind-element t k d i n =
    kind-if t.kind (nat_le n.0 i && not n.1) Refused (element_as t k i n (validated t k d)) tt
    (kind-element_as t k i n (validated t k d))

kind-length_as : (t : Thing) (n : ℕ) (late : Bool) (o : Option (Full Val)) → KindOf t.kind (length_as t n late o)
kind-length_as t n late None = tt
kind-length_as t n late (Some p) = refl

kind-below : (t : Thing) (d : Desc Val) (n : ℕ) (old : ℕ × Bool) → KindOf t.kind (length_below t d n old)
kind-below t d n old =
    let cut : Defined = length_as t n (denies d.writable) (validated t length_key (without_writable d)) in
    kind-if t.kind (nat_le old.0 n) (ordinary_defined t length_key d) (if old.1 then cut else Refused)
    (kind-ordinary t length_key d)
    (kind-if t.kind old.1 cut Refused (kind-length_as t n (denies d.writable) (validated t length_key (without_writable d))) tt)

kind-within : (t : Thing) (d : Desc Val) (o : Option ℕ) → KindOf t.kind (length_within t d o)
kind-within t d None = tt
kind-within t d (Some n) = kind-below t d n (array_length t)

kind-given : (t : Thing) (d : Desc Val) (o : Option ℤ) → KindOf t.kind (length_given t d o)
kind-given t d None = tt
kind-given t d (Some z) = kind-within t d (as_length z)

kind-length : (t : Thing) (d : Desc Val) (o : Option Val) → KindOf t.kind (length_defined t d o)
kind-length t d None = kind-ordinary t length_key d
kind-length t d (Some v) = kind-given t d (whole_of v)

kind-at : (t : Thing) (k : PropertyKey) (d : Desc Val) (o : Option ℕ) → KindOf t.kind (array_defined_at t k d o)
kind-at t k d None =
    kind-if t.kind (same_key k length_key) (length_defined t d d.value) (ordinary_defined t k d) (kind-length t d d.value)
    (kind-ordinary t k d)
kind-at t k d (Some i) = kind-element t k d i (array_length t)

kind-by : (kind : Kind) (t : Thing) (k : PropertyKey) (d : Desc Val) → KindOf t.kind (defined_by_kind kind t k d)
kind-by Array t k d = kind-at t k d (index_of_key k)
kind-by _ t k d = kind-ordinary t k d

kind-becomes : (k : Kind) (x : Defined) (u : Thing) (b : Bool) → KindOf k x → x ≡ Becomes u b → k ≡ u.kind
kind-becomes k x u b h e = let i : KindOf k (Becomes u b) = subst (KindOf k) e h in i

without-kind : (t u : Thing) (k : PropertyKey) (o : Option (Full Val)) → deleted t k o ≡ Without u → t.kind ≡ u.kind
without-kind t u k None h = absurd (let bad : ordinary.Leaves true ≡ Without u = h in cc)
without-kind t u k (Some p) h = by (is_configurable p) h
  where
    by : (b : Bool) → (if b then Without (without_property k t) else ordinary.Leaves false) ≡ Without u → t.kind ≡ u.kind
    by true i = let e : without_property k t ≡ u = cc in ap (λ x. x.kind) e
    by false i = absurd (let bad : ordinary.Leaves false ≡ Without u = i in cc)

-- an array stays one, and nothing else becomes one
pub array-stays : (cares : Type 0) (g : Graph) (t u : Thing) → Change cares g t u → target_is_array t.kind ≡ target_is_array u.kind
array-stays cares g t u (Definition k d b one e) =
    ap target_is_array (kind-becomes t.kind (defined t k d) u b (kind-by t.kind t k d) e)
array-stays cares g t u (PlainDefinition k d b one e) =
    ap target_is_array (kind-becomes t.kind (ordinary_defined t k d) u b (kind-ordinary t k d) e)
array-stays cares g t u (Storing n v b a e) =
    ap target_is_array (kind-becomes t.kind (element_stored t n v) u b
    (kind-element t (index_key n) (descriptor_of (open_property v)) n (array_length t)) e)
array-stays cares g t u (Deletion v k free e) = ap target_is_array (without-kind t u k (shown_property g v t k) e)
array-stays cares g t u (NewPrototype p open_ e) = ap (λ x. target_is_array x.kind) e
array-stays cares g t u (Closing e) = ap (λ x. target_is_array x.kind) e
array-stays cares g t u (Recast k same proxy none e) = same ∙ ap (λ x. target_is_array x.kind) e

-- ---- a script-made Proxy stays one, and gets no target

abbrev pub ProxyStays : Thing → Thing → Type 0
ProxyStays t u = (is_proxy_kind t.kind ≡ is_proxy_kind u.kind) × (has_target u.kind ≡ true → t.kind ≡ u.kind)

kind-stays : (t u : Thing) → t.kind ≡ u.kind → ProxyStays t u
kind-stays t u e = (ap is_proxy_kind e, λ h. e)

pub proxy-stays : (cares : Type 0) (g : Graph) (t u : Thing) → Change cares g t u → ProxyStays t u
proxy-stays cares g t u (Definition k d b one e) =
    kind-stays t u (kind-becomes t.kind (defined t k d) u b (kind-by t.kind t k d) e)
proxy-stays cares g t u (PlainDefinition k d b one e) =
    kind-stays t u (kind-becomes t.kind (ordinary_defined t k d) u b (kind-ordinary t k d) e)
proxy-stays cares g t u (Storing n v b a e) =
    kind-stays t u
    (kind-becomes t.kind (element_stored t n v) u b
    (kind-element t (index_key n) (descriptor_of (open_property v)) n (array_length t)) e)
proxy-stays cares g t u (Deletion v k free e) = kind-stays t u (without-kind t u k (shown_property g v t k) e)
proxy-stays cares g t u (NewPrototype p open_ e) = kind-stays t u (ap (λ x. x.kind) e)
proxy-stays cares g t u (Closing e) = kind-stays t u (ap (λ x. x.kind) e)
proxy-stays cares g t u (Recast k same proxy none e) =
    let kind : k ≡ u.kind = ap (λ x. x.kind) e in (
      proxy ∙ ap is_proxy_kind kind,
      λ h. absurd (let bad : false ≡ true = sym none ∙ ap has_target kind ∙ h in cc),
    )

-- ---- the arrays of a graph

abbrev pub is_array_at : Graph → Val → Bool
is_array_at g a = thing_is target_is_array (thing_at g a)

-- what is an array stays one
abbrev pub Lasts : Graph → Graph → Type 0
Lasts g h = (a : Val) → is_array_at g a ≡ true → is_array_at h a ≡ true

set-lasts : (ts : List Thing) (n : ℕ) (t u : Thing) → slice_get ts n ≡ Some t → target_is_array t.kind ≡ target_is_array u.kind →
    (m : ℕ) → thing_is target_is_array (slice_get ts m) ≡ true →
    thing_is target_is_array (slice_get (slice_set ts n u) m) ≡ true
set-lasts [] n t u at same m h = h
set-lasts (x ∷ ts) zero t u at same zero h = let e : x ≡ t = cc in sym same ∙ ap (λ y. target_is_array y.kind) (sym e) ∙ h
set-lasts (x ∷ ts) zero t u at same (suc m) h = h
set-lasts (x ∷ ts) (suc n) t u at same zero h = h
set-lasts (x ∷ ts) (suc n) t u at same (suc m) h = set-lasts ts n t u at same m h

thing-lasts : (g : Graph) (o : Val) (t u : Thing) → thing_at g o ≡ Some t → target_is_array t.kind ≡ target_is_array u.kind →
    Lasts g (with_thing o u g)
thing-lasts g (Object n) t u at same (Object m) h = set-lasts g.objects n t u at same m h
thing-lasts g (Object n) t u at same Undefined h = h
thing-lasts g (Object n) t u at same Null h = h
thing-lasts g (Object n) t u at same (Truth b) h = h
thing-lasts g (Object n) t u at same (Whole z) h = h
thing-lasts g (Object n) t u at same (Text x) h = h
thing-lasts g (Object n) t u at same (Symbol x) h = h
thing-lasts g (Object n) t u at same (BuiltIn p) h = h
thing-lasts g Undefined t u at same a h = h
thing-lasts g Null t u at same a h = h
thing-lasts g (Truth b) t u at same a h = h
thing-lasts g (Whole z) t u at same a h = h
thing-lasts g (Text x) t u at same a h = h
thing-lasts g (Symbol x) t u at same a h = h
thing-lasts g (BuiltIn p) t u at same a h = h

pub moved-lasts : (cares : Type 0) (g : Graph) (o : Val) (t u : Thing) → thing_at g o ≡ Some t → Change cares g t u →
    Lasts g (with_thing o u g)
moved-lasts cares g o t u at change = thing-lasts g o t u at (array-stays cares g t u change)

append-lasts : (ts : List Thing) (t : Thing) (m : ℕ) → thing_is target_is_array (slice_get ts m) ≡ true →
    thing_is target_is_array (slice_get (ts ++ (t ∷ [])) m) ≡ true
append-lasts [] t m h = absurd (let bad : false ≡ true = h in cc)
append-lasts (x ∷ ts) t zero h = h
append-lasts (x ∷ ts) t (suc m) h = append-lasts ts t m h

pub made-lasts : (g : Graph) (t : Thing) → Lasts g (record g { objects = g.objects ++ (t ∷ []) })
made-lasts g t (Object m) h = append-lasts g.objects t m h
made-lasts g t Undefined h = h
made-lasts g t Null h = h
made-lasts g t (Truth b) h = h
made-lasts g t (Whole z) h = h
made-lasts g t (Text x) h = h
made-lasts g t (Symbol x) h = h
made-lasts g t (BuiltIn p) h = h
