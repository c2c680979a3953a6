-- A ready world stays ready where the names of a side are bound, and what the new scope stands for.
use Rattle.mb_base.specs.declared.value.ObjId.{ObjId}
use Rattle.mb_base.specs.declared.value.Side.{Side}
use Rattle.mb_base.specs.declared.value.StrId.{StrId}
use Rattle.mb_base.specs.declared.value.Value.{Value}
use Rattle.mb_base.specs.declared.value.Value.TheVariants as v
use Rattle.mb_frames.proofs.Errors.{built-in-is, built-in-own}
use Rattle.mb_frames.proofs.Opened.{parts-flat}
use Rattle.mb_frames.proofs.Parts.{left-part, right-part}
use Rattle.mb_frames.proofs.Readying.{changed-same, changed-then, scope-changed, text-changed}
use Rattle.mb_frames.specs.Held.{HeldValue}
use Rattle.mb_frames.specs.Ready.{Changed, IsReady, MayHold}
use Rattle.mb_intrinsics.proofs.Adding.{both}
use Rattle.mb_intrinsics.proofs.Binding.{all-gained, all-under}
use Rattle.mb_intrinsics.proofs.Naming.{id-apart, id-below, id-text}
use Rattle.mb_intrinsics.specs.Bound.{bindings_with, bound_built_in, bound_to, first_names, first_scope, with_all, with_bindings, with_bound_texts, with_first_scope}
use Rattle.mb_intrinsics.specs.Furnished.{id_of}
use Rattle.mb_intrinsics.specs.machine.Filling.{AreThere}
use Rattle.mb_model.specs.Nodes.Scopes.{binding, scope}
use Rattle.mb_text.specs.Texts.{has_text, text_at, with_text}
use Rattle.mb_world.proofs.AfterCalls.{of-scope, text}
use Rattle.mb_world.proofs.Grow.{Grows-same, Grows-then, Hold-grows, ValueIn-grows}
use Rattle.mb_world.proofs.Images.{value-grows}
use Rattle.mb_world.specs.Contained.{IsOwn, in_option, in_scope, in_value}
use Rattle.mb_world.specs.Data.{Data, built_in_of, with_scope, with_texts}
use Rattle.mb_world.specs.Formed.{FormedScope, HasBuiltIn, InRange, option_values, scope_values}
use Rattle.mb_world.specs.Graph.{Binding, Graph, Scope as GraphScope}
use Rattle.mb_world.specs.Ids.{BoundIn, HasItsIds, Maybe, ObjIn, ScopeOf, TextIn, ValueIn}
use Rattle.mb_world.specs.Image.{Image, Resolve, binding_in, names_of, scope_in}
use Rattle.mb_world.specs.Intrinsics.{Intrinsic, intrinsic, name_of, place_of}
use Rattle.mb_world.specs.Laws.{Becomes, same_graph}
use Rattle.mb_world.specs.Standard.{bound_intrinsics, built_in}
use Rattle.mb_world.specs.Value.{BuiltIn, Object, Val}
use Rattle.mb_world.specs.declared.scope.Bound.{Bound}
use Rattle.mb_world.specs.declared.scope.Scope.{Scope}
use Rattle.std.proofs.Common.{Bool, List, None, Option, Some, [], ap, arith, codes, false, length, map, nat_eq, option_map, refl, subst, sym, true, true≢false, ℕ, ◌++◌, ◌<◌, ◌∙◌, ◌∷◌, ◌≡◌, ◌≢◌}
use Rattle.std.proofs.lemmas.List.Elements.{All-append, All-cons, All-head, All-map, All-nil, All-tail, All-weaker}
use Rattle.std.proofs.lemmas.List.Sums.{AllPass-from_list_all}
use Rattle.std.proofs.lemmas.Option.{slice_get_within}
use Rattle.std.specs.List.{AllByRecursion, IsDistinct, flat_map, list_all}
use Rattle.std.specs.Prelude.{All, is_some, not, ◌&&◌}
use Rattle.std.specs.Str.{bytes_eq as same_text}

-- ---- texts that are taken

texts-ready : (home : Side) (d : Data) (ts : List (List ℕ)) → IsReady d
    → Changed home d (with_texts d (with_all d.texts ts))
texts-ready home d [] r = changed-same home d r
texts-ready home d (t ∷ ts) r =
    let d1 : Data = with_texts d (with_text d.texts t) in
    let one : Changed home d d1 = text-changed home d r t in
    changed-then home d d1 (with_texts d1 (with_all d1.texts ts)) one (texts-ready home d1 ts one.ready)

texts-become : (d : Data) (ts : List (List ℕ)) → HasItsIds d → Becomes d (with_texts d (with_all d.texts ts)) same_graph
texts-become d [] i = record { grows = Grows-same d; image = λ log. refl }
texts-become d (t ∷ ts) i =
    let d1 : Data = with_texts d (with_text d.texts t) in
    let one : Becomes d d1 same_graph = text d t i in
    let rest : Becomes d1 (with_texts d1 (with_all d1.texts ts)) same_graph =
    texts-become d1 ts (Hold-grows d d1 one.grows _ _ _ _ _ _ _ i) in
    record {
      grows = Grows-then d d1 (with_texts d1 (with_all d1.texts ts)) one.grows rest.grows;
      image = λ log. rest.image log ∙ one.image log;
    }

-- ---- names that differ

abbrev are_apart : List (List ℕ) → Bool
are_apart [] = true
are_apart (t ∷ ts) = list_all (λ u. not (same_text t u)) ts && are_apart ts

names-apart : are_apart (map name_of bound_intrinsics ++ codes "desk" ∷ []) ≡ true
names-apart = refl

negated : (b : Bool) → not b ≡ true → b ≡ false
negated false h = refl
negated true h = absurd (true≢false (sym h))

module _ (texts : List (List ℕ)) where
  apart-from : (t : List ℕ) (b : Bound) → b.name ≡ id_of texts t → has_text texts t ≡ true → (us : List (List ℕ))
      → (bs : List Bound) → map (λ c. c.name) bs ≡ map (id_of texts) us → AreThere texts us
      → list_all (λ u. not (same_text t u)) us ≡ true → AllByRecursion (λ c. nat_eq b.name.0 c.name.0 ≡ false) bs
  apart-from t b is has [] [] e there apart = tt
  apart-from t b is has [] (c ∷ bs) e there apart = cc
  apart-from t b is has (u ∷ us) [] e there apart = cc
  apart-from t b is has (u ∷ us) (c ∷ bs) e there apart =
      let first : c.name ≡ id_of texts u = cc in
      let rest : map (λ c. c.name) bs ≡ map (id_of texts) us = cc in
      let parts = both (not (same_text t u)) (list_all (λ w. not (same_text t w)) us) apart in (
        ap (λ (x : StrId). nat_eq x.0 c.name.0) is ∙ ap (λ (x : StrId). nat_eq (id_of texts t).0 x.0) first
            ∙ id-apart texts t u has (All-head (λ w. has_text texts w ≡ true) u us there)
            (negated (same_text t u) parts.0),
        apart-from t b is has us bs rest (All-tail (λ w. has_text texts w ≡ true) u us there) parts.1,
      )

  distinct : (ts : List (List ℕ)) (bs : List Bound) → map (λ c. c.name) bs ≡ map (id_of texts) ts → AreThere texts ts
      → are_apart ts ≡ true → IsDistinct (λ a b. nat_eq a.name.0 b.name.0) bs
  unfolding IsDistinct
  distinct [] [] e there apart = tt
  distinct [] (c ∷ bs) e there apart = cc
  distinct (t ∷ ts) [] e there apart = cc
  distinct (t ∷ ts) (b ∷ bs) e there apart =
      let first : b.name ≡ id_of texts t = cc in
      let rest : map (λ c. c.name) bs ≡ map (id_of texts) ts = cc in
      let parts = both (list_all (λ u. not (same_text t u)) ts) (are_apart ts) apart in (
        apart-from t b first (All-head (λ w. has_text texts w ≡ true) t ts there) ts bs rest
            (All-tail (λ w. has_text texts w ≡ true) t ts there) parts.0,
        distinct ts bs rest (All-tail (λ w. has_text texts w ≡ true) t ts there) parts.1,
      )

-- ---- the names of built-ins

all-of-table : list_all (λ i. is_some (intrinsic (place_of i))) bound_intrinsics ≡ true
all-of-table = refl

some-there : (i : Intrinsic) → is_some (intrinsic (place_of i)) ≡ true → intrinsic (place_of i) ≢ None
some-there i is e = true≢false (sym is ∙ ap (λ (o : Option Intrinsic). is_some o) e)

-- a built-in's name and the side's own are there
record IsNamed (d : Data) (side : Side) (i : Intrinsic) : Type 0 where
  text : has_text d.texts (name_of i) ≡ true
  id : ObjId
  found : built_in_of d.joined d.cells side (place_of i) ≡ Some id
  there : ObjIn d id

module _ (d : Data) (r : IsReady d) (side : Side) (takes : side.0 < d.sides) (desk : Value)
    (there : AreThere d.texts (map name_of bound_intrinsics ++ codes "desk" ∷ [])) where
  named : (i : Intrinsic) → is_some (intrinsic (place_of i)) ≡ true → has_text d.texts (name_of i) ≡ true
      → IsNamed d side i
  named i is has =
      let b : HasBuiltIn d side (place_of i) = r.formed.built_ins side (place_of i) takes (some-there i is) in
      record { text = has; id = b.id; found = b.found; there = slice_get_within d.cells b.id.0 b.cell b.there }

  all-named : All (IsNamed d side) bound_intrinsics
  all-named = λ n i l.
      named _ (AllPass-from_list_all (λ j. is_some (intrinsic (place_of j))) bound_intrinsics all-of-table n i l)
      (all-under (λ t. has_text d.texts t ≡ true) name_of bound_intrinsics
      (left-part (λ t. has_text d.texts t ≡ true) (map name_of bound_intrinsics) (codes "desk" ∷ []) there) n i l)

  desk-text : has_text d.texts (codes "desk") ≡ true
  desk-text =
      All-head (λ t. has_text d.texts t ≡ true) (codes "desk") []
      (right-part (λ t. has_text d.texts t ≡ true) (map name_of bound_intrinsics) (codes "desk" ∷ []) there)

  -- what holds of each name
  each-name : (P : Bound → Type 0) → ((i : Intrinsic) → IsNamed d side i → P (bound_built_in d side i))
      → P (bound_to (id_of d.texts (codes "desk")) (Some desk)) → All P (first_names d side desk)
  each-name P f p =
      All-append P (map (bound_built_in d side) bound_intrinsics)
      (bound_to (id_of d.texts (codes "desk")) (Some desk) ∷ [])
      (All-map P (bound_built_in d side) bound_intrinsics
      (All-weaker (IsNamed d side) (λ i. P (bound_built_in d side i)) f bound_intrinsics all-named))
      (All-cons P (bound_to (id_of d.texts (codes "desk")) (Some desk)) [] p (All-nil P))

  -- what holds of the side's own holds of its name's value
  by-own : (P : Option Value → Type 0) (i : Intrinsic) (h : IsNamed d side i) → P (Some (v.Object h.id))
      → P (option_map v.Object (built_in_of d.joined d.cells side (place_of i)))
  by-own P i h p = subst (λ (o : Option ObjId). P (option_map v.Object o)) (sym h.found) p

  scope-in : side.0 < 8 → ValueIn d desk → ScopeOf d (first_scope d side desk)
  scope-in few within = record {
    home_in = few;
    parent_in = tt;
    names_in = each-name (BoundIn d)
        (λ i h. (id-below d.texts (name_of i) h.text, by-own (Maybe (ValueIn d)) i h h.there))
        (id-below d.texts (codes "desk") desk-text, within);
  }

  scope-formed : (n : ℕ) → InRange desk → FormedScope d n (first_scope d side desk)
  scope-formed n whole = record {
    home = takes;
    wholes = parts-flat InRange (λ b. option_values b.value) (first_names d side desk)
        (each-name (λ b. All InRange (option_values b.value))
        (λ i h. by-own (λ o. All InRange (option_values o)) i h
        (All-cons InRange (v.Object h.id) [] tt (All-nil InRange)))
        (All-cons InRange desk [] whole (All-nil InRange)));
    parent = tt;
    distinct = distinct d.texts (map name_of bound_intrinsics ++ codes "desk" ∷ []) (first_names d side desk) refl there
        names-apart;
  }

  scope-own : d.joined ≡ false → All (IsOwn d side) (in_value desk)
      → All (IsOwn d side) (in_scope (first_scope d side desk))
  scope-own u own =
      parts-flat (IsOwn d side) (λ b. in_option in_value b.value) (first_names d side desk)
      (each-name (λ b. All (IsOwn d side) (in_option in_value b.value))
      (λ i h. by-own (λ o. All (IsOwn d side) (in_option in_value o)) i h
      (All-cons (IsOwn d side) h.id [] (built-in-own d side (place_of i) h.id h.there u h.found)
      (All-nil (IsOwn d side))))
      own)

  -- ---- what it stands for

  binding-is : (i : Intrinsic) → IsNamed d side i
      → binding_in (names_of d) (bound_built_in d side i) ≡ binding (name_of i) (Some (built_in i)) true
  binding-is i h =
      ap (λ (o : Option ObjId). binding_in (names_of d) (bound_to (id_of d.texts (name_of i)) (option_map v.Object o)))
      h.found
      ∙ ap (λ (x : Val). binding (text_at d.texts (id_of d.texts (name_of i))) (Some x) true)
      (built-in-is d side (place_of i) h.id h.found h.there)
      ∙ ap (λ (t : List ℕ). binding t (Some (built_in i)) true) (id-text d.texts (name_of i) h.text)

  bindings-are : (is : List Intrinsic) (x : Val) → All (IsNamed d side) is → Resolve (names_of d) desk ≡ x
      → map (binding_in (names_of d))
      (map (bound_built_in d side) is ++ bound_to (id_of d.texts (codes "desk")) (Some desk) ∷ [])
      ≡ map (λ (p : List ℕ × Val). binding p.0 (Some p.1) true)
      (map (λ i. (name_of i, built_in i)) is ++ (codes "desk", x) ∷ [])
  bindings-are [] x all e =
      ap (λ (y : Val). binding (text_at d.texts (id_of d.texts (codes "desk"))) (Some y) true ∷ []) e
      ∙ ap (λ (t : List ℕ). binding t (Some x) true ∷ []) (id-text d.texts (codes "desk") desk-text)
  bindings-are (i ∷ is) x all e =
      ap (λ (b : Binding). b ∷ map (binding_in (names_of d))
      (map (bound_built_in d side) is ++ bound_to (id_of d.texts (codes "desk")) (Some desk) ∷ []))
      (binding-is i (All-head (IsNamed d side) i is all))
      ∙ ap (λ (bs : List Binding). binding (name_of i) (Some (built_in i)) true ∷ bs)
      (bindings-are is x (All-tail (IsNamed d side) i is all) e)

  scope-is : (x : Val) → Resolve (names_of d) desk ≡ x
      → scope_in (names_of d) (first_scope d side desk) ≡ scope side.0 None (bindings_with x)
  scope-is x e = ap (λ (bs : List Binding). scope side.0 None bs) (bindings-are bound_intrinsics x all-named e)

-- ---- the whole

module _ (d : Data) (side : Side) (desk : Value) (r : IsReady d) (takes : side.0 < d.sides) where
  abbrev texts : List (List ℕ)
  texts = map name_of bound_intrinsics ++ codes "desk" ∷ []

  taken : Changed side d (with_bound_texts d)
  taken = texts-ready side d texts r

  there : AreThere (with_bound_texts d).texts texts
  there = (all-gained d texts).there

  -- a side is one of eight
  few : side.0 < 8
  few = omega (arith, takes, r.formed.sides.1)

  desk-stays : ValueIn d desk → ValueIn (with_bound_texts d) desk
  desk-stays within = ValueIn-grows d (with_bound_texts d) taken.found.grew.grows desk within

  pub names-changed : MayHold d side (HeldValue desk) → Changed side d (with_first_scope d side desk)
  names-changed held =
      let d1 : Data = with_bound_texts d in
      let own : d1.joined ≡ false → All (IsOwn d1 side) (in_value desk) = λ u. held.own u in
      changed-then side d d1 (with_first_scope d side desk) taken
      (scope-changed side d1 taken.ready (first_scope d1 side desk) refl
      (scope-in d1 taken.ready side takes desk there few (desk-stays held.within))
      (scope-formed d1 taken.ready side takes desk there (length d1.scopes) held.sound)
      (λ u. scope-own d1 taken.ready side takes desk there u (own u)))

  pub names-become : ValueIn d desk
      → Becomes d (with_first_scope d side desk) (with_bindings side.0 (Resolve (names_of d) desk))
  names-become within =
      let d1 : Data = with_bound_texts d in
      let one : Becomes d d1 same_graph = texts-become d texts r.ids in
      let two = of-scope d1 (first_scope d1 side desk) in
      record {
        grows = Grows-then d d1 (with_first_scope d side desk) one.grows two.grows;
        image = λ log.
            two.image log
            ∙ ap (λ (g : Graph).
            record g { scopes = g.scopes ++ scope_in (names_of d1) (first_scope d1 side desk) ∷ [] })
            (one.image log)
            ∙ ap (λ (s : GraphScope). record (Image d log) { scopes = (Image d log).scopes ++ s ∷ [] })
            (scope-is d1 taken.ready side takes desk there (Resolve (names_of d) desk)
            (value-grows d d1 one.grows desk within));
      }
