-- The properties of a literal, one after the other.
use Rattle.std.proofs.Common.{◌+◌, ◌<◌, ◌≡◌, ◌≤◌, ◌∙◌, ◌∷◌, suc, zero, Err, List, Some, [], ap, arith, drop, length}
use Rattle.std.proofs.Common.{refl, slice_get, subst, sym, true, ℕ}
use Rattle.std.specs.Prelude.{map, IsSomeAnd}
use Rattle.mb_base.specs.declared.value.NodeId.{NodeId}
use Rattle.mb_base.specs.declared.value.Side.{Side}
use Rattle.mb_base.specs.declared.value.Value.{Value}
use Rattle.mb_eval_expr.specs.declared.definitions.Definition.{Definition}
use Rattle.mb_eval_expr.specs.declared.definitions.Definition.TheVariants as def
use Rattle.mb_eval_expr.specs.declared.props.Literal.{Literal}
use Rattle.mb_eval_expr.specs.machine.Literals.{Defines, HasValueNode, IsDefinitionAt, IsOf, IsProp, literal_held}
use Rattle.mb_frames.proofs.Forms.{context-grows, forms-are, forms-grow}
use Rattle.mb_frames.proofs.Going.{WentOn-free, WentOn-passes}
use Rattle.mb_frames.proofs.Passed.{Part-passed, Part-unpaid, no-lines, Passes-by, Passes-paid, Passes-then}
use Rattle.mb_frames.proofs.Steps.{drop-at}
use Rattle.mb_frames.specs.Going.{WentOn}
use Rattle.mb_frames.specs.Kinds.{Expression, form_sort}
use Rattle.mb_frames.specs.Passing.{Part, Passes}
use Rattle.mb_frames.specs.Ready.{Holds}
use Rattle.mb_frames.specs.Resolved.{context_in}
use Rattle.mb_frames.specs.Rest.Expressions.{prop_keyed_at}
use Rattle.mb_frames.specs.Rest.Parts.{parts_at}
use Rattle.mb_frames.specs.Standing.{forms_at}
use Rattle.mb_frames.specs.Stepping.{Grew, charged_by}
use Rattle.mb_frames.specs.Told.{key_told}
use Rattle.mb_frames.specs.declared.machine.Halt.{Halt}
use Rattle.mb_frames.specs.declared.machine.Halt.TheVariants.{NoMemory, Spent as SpentHalt}
use Rattle.mb_model.specs.Meaning.{finished}
use Rattle.mb_model.specs.Nodes.Evaluation.{Context}
use Rattle.mb_model.specs.Nodes.Scopes.{form_at}
use Rattle.mb_model.specs.Nodes.Literals.{prop_of, props}
use Rattle.mb_model.specs.Task.{Answer}
use Rattle.mb_model.specs.Writing.{◌>>=◌, Does, Row, range_error}
use Rattle.mb_tree.specs.Seen.{seen_name}
use Rattle.mb_tree.specs.declared.form.PropName.{PropName}
use Rattle.mb_world.specs.Data.{Data}
use Rattle.mb_world.specs.Form.{Form, Written}
use Rattle.mb_model.specs.Trace.Entries.{entries}
use Rattle.mb_world.specs.Graph.{Entry, Graph, Traced}
use Rattle.mb_world.specs.Ids.{HasItsIds}
use Rattle.mb_world.specs.Image.{Image, entries_in, names_of, object_in}
use Rattle.mb_world.specs.Key.{Named, PropertyKey}
use Rattle.mb_world.specs.Value.{Val}
use Rattle.mb_eval_expr.proofs.Propping.{from_place, named-row, place-grow}

-- ---- one property after the other

-- a property, its unit being paid
pub prop-passes : (d : Data) (home : Side) (l : Literal) (f f' place : ℕ) (property : NodeId) → home.0 < d.sides
    → f' + 1 ≡ f
    → slice_get (parts_at (forms_at d home) l.node.0) place ≡ Some property.0
    → Passes d d f f' (from_place d home l place finished)
    ((prop_of (context_in (names_of d) home.0 l.at) (object_in (names_of d) l.object) property.0
    (slice_get (forms_at d home) property.0) >>= (λ a. from_place d home l (place + 1))) finished)
prop-passes d home l f f' place property i paid there =
    let c = context_in (names_of d) home.0 l.at in
    let w = object_in (names_of d) l.object in
    let ns = parts_at (forms_at d home) l.node.0 in
    let Q : Graph → Row = λ a. (prop_of c w property.0 (form_at a home.0 property.0) >>=
    (λ b. from_place d home l (place + 1))) finished a in
    let R : Graph → Row = (prop_of c w property.0 (slice_get (forms_at d home) property.0) >>=
    (λ b. from_place d home l (place + 1))) finished in
    Passes-then d d d f f f' (from_place d home l place finished) (charged_by 1 Q) R
    (Passes-by d f (from_place d home l place finished) (charged_by 1 Q)
    (λ log. ap (λ (ms : List ℕ). props c w ms finished (Image d log)) (drop-at ns place property.0 there)))
    (Passes-then d d d f f' f' (charged_by 1 Q) Q R
    (Passes-paid d 1 f f' Q paid)
    (Passes-by d f' Q R (λ log. ap (λ (fs : List Form). (prop_of c w property.0 (slice_get fs property.0) >>=
    (λ b. from_place d home l (place + 1))) finished (Image d log))
    (forms-are d home log i))))

-- it was defined, and the next follows
pub prop-then : (d0 d d' : Data) (home : Side) (l : Literal) (f0 f f' place from : ℕ) (property : NodeId) (a : Answer)
    → Passes d0 d f0 f (from_place d0 home l from finished) (from_place d home l place finished)
    → home.0 < d.sides → f' + 1 ≡ f → slice_get (parts_at (forms_at d home) l.node.0) place ≡ Some property.0
    → HasItsIds d → Holds d home (literal_held l)
    → WentOn Answer d d' 0 0 (prop_of (context_in (names_of d) home.0 l.at) (object_in (names_of d) l.object) property.0
    (slice_get (forms_at d home) property.0)) a
    → Passes d0 d' f0 f' (from_place d0 home l from finished) (from_place d' home l (place + 1) finished)
prop-then d0 d d' home l f0 f f' place from property a v i paid there ids held q =
    let c = context_in (names_of d) home.0 l.at in
    let w = object_in (names_of d) l.object in
    let p = prop_of c w property.0 (slice_get (forms_at d home) property.0) in
    let k = from_place d home l (place + 1) in
    Passes-then d0 d d' f0 f f' (from_place d0 home l from finished) (from_place d home l place finished)
    (from_place d' home l (place + 1) finished) v
    (Passes-then d d d' f f' f' (from_place d home l place finished) ((p >>= (λ b. k)) finished)
    (from_place d' home l (place + 1) finished)
    (prop-passes d home l f f' place property i paid there)
    (Passes-then d d' d' f' f' f' ((p >>= (λ b. k)) finished) (k finished) (from_place d' home l (place + 1) finished)
    (WentOn-passes Answer d d' f' f' p a (λ b. k finished) (WentOn-free Answer d d' f' p a q))
    (Passes-by d' f' (k finished) (from_place d' home l (place + 1) finished)
    (λ log. ap (λ (z : Does Answer). z finished (Image d' log))
    (sym (place-grow d d' home l (place + 1) ids q.grew held))))))

pub drop-all : {A : Type 0} (xs : List A) (n : ℕ) → length xs ≤ n → drop n xs ≡ []
drop-all [] zero h = refl
drop-all [] (suc n) h = refl
drop-all (x ∷ xs) zero h = absurd (omega (arith, h))
drop-all (x ∷ xs) (suc n) h = drop-all xs n (omega (arith, h))

-- ---- definitions in a world that grew

pub definition-grows : (d d' : Data) (home : Side) (property : NodeId) (y : Definition) → HasItsIds d → Grew d d'
    → IsDefinitionAt d home property y → IsDefinitionAt d' home property y
definition-grows d d' home property y i q h =
    let e : forms_at d home ≡ forms_at d' home = sym (forms-grow d d' home i q) in
    (subst (λ (fs : List Form). IsOf (slice_get fs property.0) y) e h.0, by y h.1)
  where
    by : (y : Definition) → HasValueNode d home y → HasValueNode d' home y
    by (def.Value node) k =
        subst (λ (fs : List Form). IsSomeAnd (slice_get fs node.0) (λ f. form_sort f ≡ Expression))
        (sym (forms-grow d d' home i q)) k
    by (def.Method n) k = tt
    by (def.Getter n) k = tt
    by (def.Setter n) k = tt

-- the row of a key that is written, or was spelled
pub keyed-row : (d d1 : Data) (home : Side) (l : Literal) (property : NodeId) (name : PropName) (text : List ℕ)
    (y : Definition)
    → HasItsIds d → Grew d d1 → Holds d home (literal_held l)
    → IsProp d (slice_get (forms_at d home) property.0) name y → key_told d.texts (seen_name name) ≡ Written text
    → prop_of (context_in (names_of d) home.0 l.at) (object_in (names_of d) l.object) property.0
    (slice_get (forms_at d home) property.0)
    ≡ prop_keyed_at (forms_at d1 home) (context_in (names_of d1) home.0 l.at) (object_in (names_of d1) l.object)
    property.0 (Named text)
keyed-row d d1 home l property name text y i q h k e =
    named-row d (context_in (names_of d) home.0 l.at) (object_in (names_of d) l.object) property.0
    (slice_get (forms_at d home) property.0) name text y k e
    ∙ ap (λ (fs : List Form). prop_keyed_at fs (context_in (names_of d) home.0 l.at)
    (object_in (names_of d) l.object) property.0 (Named text))
    (sym (forms-grow d d1 home i q))
    ∙ ap (λ (z : Context). prop_keyed_at (forms_at d1 home) z (object_in (names_of d) l.object) property.0 (Named text))
    (sym (context-grows d d1 home l.at h.1.0.within q))
    ∙ ap (λ (z : Val). prop_keyed_at (forms_at d1 home) (context_in (names_of d1) home.0 l.at) z property.0
    (Named text))
    (sym (q.grows.same_object l.object h.1.1.1.0.within))

-- ---- a fresh error costs nothing

traced : (es : List Entry) → entries (map Traced es) ≡ es
traced [] = refl
traced (y ∷ es) = ap (λ zs. y ∷ zs) (traced es)

pub never-spent : (home : Side) (d d' : Data)
    → ((f : ℕ) → Part home (Err SpentHalt) d d' f f (range_error {A = Answer} home.0 finished)) → ⊥
never-spent home d d' s =
    let z = (s 0 true no-lines).above (map Traced (entries_in d)) (traced (entries_in d)) in
    omega (arith, z)

pub Defines-halts : (home : Side) (l : Literal) (halt : Halt) (d d1 d2 : Data) (q : Does Answer)
    → ((f : ℕ) → Part home (Err halt) d1 d2 f f (range_error {A = Answer} home.0 finished)) → Defines home l
    (Err halt) d d2 q
Defines-halts home l SpentHalt d d1 d2 q s = never-spent home d1 d2 s
Defines-halts home l NoMemory d d1 d2 q s = tt

pub prop-unpaid : (d : Data) (home : Side) (l : Literal) (f place : ℕ) (property : NodeId) → f < 1
    → slice_get (parts_at (forms_at d home) l.node.0) place ≡ Some property.0
    → Part home (Err SpentHalt) d d f f (from_place d home l place finished)
prop-unpaid d home l f place property u there =
    let c = context_in (names_of d) home.0 l.at in
    let w = object_in (names_of d) l.object in
    let Q : Graph → Row = λ a. (prop_of c w property.0 (form_at a home.0 property.0) >>=
    (λ b. from_place d home l (place + 1))) finished a in
    Part-passed home (Err SpentHalt) d d d f f f (from_place d home l place finished) (charged_by 1 Q)
    (Passes-by d f (from_place d home l place finished) (charged_by 1 Q)
    (λ log. ap (λ (ms : List ℕ). props c w ms finished (Image d log)) (drop-at (parts_at (forms_at d home) l.node.0)
    place property.0 there)))
    (Part-unpaid home d 1 f Q u)

pub parts-length : (d d' : Data) (home : Side) (node : NodeId) → HasItsIds d → Grew d d'
    → length (parts_at (forms_at d' home) node.0) ≡ length (parts_at (forms_at d home) node.0)
parts-length d d' home node i q = ap (λ (fs : List Form). length (parts_at fs node.0)) (forms-grow d d' home i q)

-- what follows a key, in a world that grew
pub keyed-then : (d d1 : Data) (home : Side) (l : Literal) (property : NodeId) (k : PropertyKey) → HasItsIds d
    → Grew d d1
    → Holds d home (literal_held l)
    → (prop_keyed_at (forms_at d home) (context_in (names_of d) home.0 l.at) (object_in (names_of d) l.object)
    property.0 k
    >>= (λ b. from_place d home l (l.place + 1)))
    ≡ (prop_keyed_at (forms_at d1 home) (context_in (names_of d1) home.0 l.at) (object_in (names_of d1) l.object)
    property.0 k
    >>= (λ b. from_place d1 home l (l.place + 1)))
keyed-then d d1 home l property k i q h =
    let rest = from_place d home l (l.place + 1) in
    ap (λ (fs : List Form). prop_keyed_at fs (context_in (names_of d) home.0 l.at) (object_in (names_of d) l.object)
    property.0 k >>= (λ b. rest))
    (sym (forms-grow d d1 home i q))
    ∙ ap (λ (z : Context). prop_keyed_at (forms_at d1 home) z (object_in (names_of d) l.object) property.0 k >>=
    (λ b. rest))
    (sym (context-grows d d1 home l.at h.1.0.within q))
    ∙ ap (λ (z : Val). prop_keyed_at (forms_at d1 home) (context_in (names_of d1) home.0 l.at) z property.0 k >>=
    (λ b. rest))
    (sym (q.grows.same_object l.object h.1.1.1.0.within))
    ∙ ap (λ (z : Does Answer). prop_keyed_at (forms_at d1 home) (context_in (names_of d1) home.0 l.at)
    (object_in (names_of d1) l.object) property.0 k >>= (λ b. z))
    (sym (place-grow d d1 home l (l.place + 1) i q h))
