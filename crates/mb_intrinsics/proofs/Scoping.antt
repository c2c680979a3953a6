-- The scope that the names of a side are in.
use Rattle.mb_base.specs.declared.value.ObjId.{ObjId}
use Rattle.mb_base.specs.declared.value.Side.{Side}
use Rattle.mb_base.specs.declared.value.StrId.{StrId}
use Rattle.mb_base.specs.declared.value.Value.{Value}
use Rattle.mb_base.specs.declared.value.Value.TheVariants as v
use Rattle.mb_frames.proofs.Errors.{mapped-some}
use Rattle.mb_frames.proofs.Parts.{left-part, right-part}
use Rattle.mb_intrinsics.proofs.Binding.{all-gained, all-more, all-under, names-kept, taken-gained}
use Rattle.mb_intrinsics.proofs.Naming.{gains-halted, gains-text, id-below}
use Rattle.mb_intrinsics.specs.Bound.{bound_built_in, bound_to, first_names, first_scope, with_all, with_bound_texts, with_first_scope}
use Rattle.mb_intrinsics.specs.Furnished.{desk_cell, id_of}
use Rattle.mb_intrinsics.specs.machine.Filling.{AreThere, Gains}
use Rattle.mb_text.specs.Texts.{AreDistinct, KeepsIds, has_text, with_text}
use Rattle.mb_world.proofs.Grow.{Grows-same, Grows-then, ValueIn-grows}
use Rattle.mb_world.proofs.Texts.{Grows-text}
use Rattle.mb_world.specs.Data.{Data, built_in_of, obj_id, serves, with_scope, with_texts}
use Rattle.mb_world.specs.Grows.{Grows}
use Rattle.mb_world.specs.Ids.{BoundIn, Maybe, ScopeOf, ValueIn}
use Rattle.mb_world.specs.Intrinsics.{Intrinsic, name_of, place_of}
use Rattle.mb_world.specs.Standard.{bound_intrinsics}
use Rattle.mb_world.specs.declared.scope.Bound.{Bound}
use Rattle.mb_world.specs.declared.scope.Scope.{Scope}
use Rattle.std.proofs.Common.{Err, List, None, Ok, OnErr, Option, Result, Some, [], ap, codes, map, option_map, position, refl, subst, sym, true, ℕ, ◌++◌, ◌<◌, ◌∙◌, ◌∷◌, ◌≡◌}
use Rattle.std.proofs.lemmas.List.Elements.{All-append, All-cons, All-head, All-map, All-nil, All-weaker}
use Rattle.std.proofs.lemmas.List.Quantifiers.{position-Some}
use Rattle.std.specs.Prelude.{All}

pub err-texts : {T E : Type 0} (r : Result T E) (d d' : Data) → OnErr r (Gains d [] d')
    → OnErr r (KeepsIds d.texts d'.texts)
err-texts (Ok x) d d' h = tt
err-texts (Err x) d d' h = h.stays

pub err-rest : {T E : Type 0} (r : Result T E) (d d' : Data) → OnErr r (Gains d [] d')
    → OnErr r (d' ≡ with_texts d d'.texts)
err-rest (Ok x) d d' h = tt
err-rest (Err x) d d' h = h.rest

-- ---- where memory ran out only texts were added

pub names-gained : (d d1 : Data) → d1 ≡ with_texts d (with_all d.texts (map name_of bound_intrinsics)) → Gains d [] d1
names-gained d d1 e = taken-gained d d1 (map name_of bound_intrinsics) e

pub desk-gained : (d d1 d2 : Data) → d1 ≡ with_texts d (with_all d.texts (map name_of bound_intrinsics))
    → Gains d1 (codes "desk" ∷ []) d2 → Gains d [] d2
desk-gained d d1 d2 e g = gains-halted d d1 d2 [] (codes "desk" ∷ []) (names-gained d d1 e) g

-- ---- the scope

-- a world that takes texts grew
grows-all : (d : Data) (ts : List (List ℕ)) → Grows d (with_texts d (with_all d.texts ts))
grows-all d [] = Grows-same d
grows-all d (t ∷ ts) =
    let d1 : Data = with_texts d (with_text d.texts t) in
    Grows-then d d1 (with_texts d1 (with_all d1.texts ts)) (Grows-text d t) (grows-all d1 ts)

-- a side's built-in is there
own-there : (d : Data) (side : Side) (place : ℕ)
    → Maybe (ValueIn d) (option_map v.Object (built_in_of d.joined d.cells side place))
own-there d side place = by (built_in_of d.joined d.cells side place) refl
  where
    by : (o : Option ObjId) → built_in_of d.joined d.cells side place ≡ o → Maybe (ValueIn d) (option_map v.Object o)
    by None e = tt
    by (Some id) e =
        (position-Some (serves d.joined side place) d.cells id.0 (desk_cell d.texts)
        (mapped-some (position (serves d.joined side place) d.cells) id e)).0

module _ (d d1 d2 : Data) (side : Side) (desk : Value) (names after : List Bound) (name : StrId)
    (first : d1 ≡ with_texts d (with_all d.texts (map name_of bound_intrinsics)))
    (are : names ≡ map (bound_built_in d1 side) bound_intrinsics)
    (then : d2 ≡ with_texts d1 (with_text d1.texts (codes "desk"))) (id : name ≡ id_of d2.texts (codes "desk"))
    (distinct : AreDistinct d2.texts) (more : after ≡ names ++ bound_to name (Some desk) ∷ []) where
  abbrev bound : List (List ℕ)
  bound = map name_of bound_intrinsics

  pub texts-are : d2 ≡ with_bound_texts d
  texts-are =
      then ∙ ap (λ (x : Data). with_texts x (with_text x.texts (codes "desk"))) first
      ∙ ap (λ (ts : List (List ℕ)). with_texts d ts) (sym (all-more d.texts bound (codes "desk")))

  there : AreThere d2.texts (bound ++ codes "desk" ∷ [])
  there =
      subst (λ (x : Data). AreThere x.texts (bound ++ codes "desk" ∷ [])) (sym texts-are)
      (all-gained d (bound ++ codes "desk" ∷ [])).there

  gained : Gains d1 (codes "desk" ∷ []) d2
  gained = gains-text d1 d2 (codes "desk") then

  names-are : after ≡ first_names d2 side desk
  names-are =
      more
      ∙ ap (λ (bs : List Bound). bs ++ bound_to name (Some desk) ∷ [])
      (are
      ∙ names-kept d1 d2.texts side bound_intrinsics gained.stays distinct
      (subst (λ (x : Data). AreThere x.texts bound) (sym first) (all-gained d bound).there)
      ∙ ap (λ (x : Data). map (bound_built_in x side) bound_intrinsics) (sym gained.rest))
      ∙ ap (λ (x : StrId). map (bound_built_in d2 side) bound_intrinsics ++ bound_to x (Some desk) ∷ []) id

  desk-in : ValueIn d desk → ValueIn d2 desk
  desk-in within =
      subst (λ (x : Data). ValueIn x desk) (sym texts-are)
      (ValueIn-grows d (with_bound_texts d) (grows-all d (bound ++ codes "desk" ∷ [])) desk within)

  all-in : ValueIn d desk → All (BoundIn d2) (first_names d2 side desk)
  all-in within =
      All-append (BoundIn d2) (map (bound_built_in d2 side) bound_intrinsics)
      (bound_to (id_of d2.texts (codes "desk")) (Some desk) ∷ [])
      (All-map (BoundIn d2) (bound_built_in d2 side) bound_intrinsics (λ n i l. (
        id-below d2.texts _
            (all-under (λ t. has_text d2.texts t ≡ true) name_of bound_intrinsics
            (left-part (λ t. has_text d2.texts t ≡ true) bound (codes "desk" ∷ []) there) n i l),
        own-there d2 side _,
      )))
      (All-cons (BoundIn d2) (bound_to (id_of d2.texts (codes "desk")) (Some desk)) [] (
        id-below d2.texts (codes "desk")
            (All-head (λ t. has_text d2.texts t ≡ true) (codes "desk") []
            (right-part (λ t. has_text d2.texts t ≡ true) bound (codes "desk" ∷ []) there)),
        desk-in within,
      ) (All-nil (BoundIn d2)))

  pub scope-within : side.0 < 8 → ValueIn d desk → ScopeOf d2 (record { home = side; parent = None; names = after })
  scope-within few within = record {
    home_in = few;
    parent_in = tt;
    names_in = subst (λ (bs : List Bound). All (BoundIn d2) bs) (sym names-are) (all-in within);
  }

  pub scope-made : (d3 : Data) → d3 ≡ with_scope d2 (record { home = side; parent = None; names = after })
      → d3 ≡ with_first_scope d side desk
  scope-made d3 e =
      e ∙ ap (λ (bs : List Bound).
      with_scope d2 (let s : Scope = record { home = side; parent = None; names = bs } in s))
      names-are
      ∙ ap (λ (x : Data). with_scope x (first_scope x side desk)) texts-are
