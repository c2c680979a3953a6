-- Properties that are methods, getters or setters.
use Rattle.std.proofs.Common.{◌≡◌, ◌∙◌, List, None, Ok, Option, Some, ap, false, length, refl, subst, sym, true, ℕ}
use Rattle.mb_base.specs.declared.value.Key.{Key}
use Rattle.mb_base.specs.declared.value.NodeId.{NodeId}
use Rattle.mb_base.specs.declared.value.ObjId.{ObjId}
use Rattle.mb_base.specs.declared.value.Side.{Side}
use Rattle.mb_base.specs.declared.value.Value.{Value}
use Rattle.mb_base.specs.declared.value.Value.TheVariants as v
use Rattle.mb_desc.specs.declared.descriptor.Desc.{Desc}
use Rattle.mb_eval_expr.specs.declared.definitions.Definition.{Definition}
use Rattle.mb_eval_expr.specs.declared.definitions.Definition.TheVariants as def
use Rattle.mb_eval_expr.specs.declared.props.Literal.{Literal}
use Rattle.mb_eval_expr.specs.machine.Literals.{Defines, IsMethodOf, IsOf, described_by, literal_held, rest_of}
use Rattle.mb_parts.specs.Storing.{Stores}
use Rattle.mb_frames.proofs.Going.{WentOn-then}
use Rattle.mb_frames.proofs.Passed.{Part-passed, Passes-texts}
use Rattle.mb_frames.specs.Going.{WentOn}
use Rattle.mb_frames.specs.Passing.{Part, TextsGrew}
use Rattle.mb_frames.specs.Ready.{Holds}
use Rattle.mb_frames.specs.Resolved.{context_in}
use Rattle.mb_frames.specs.Rest.Expressions.{prop_by}
use Rattle.mb_frames.specs.declared.frame.Move.{Move}
use Rattle.mb_model.specs.Meaning.{finished}
use Rattle.mb_frames.specs.Making.{is_function_of}
use Rattle.mb_model.specs.Nodes.Evaluation.{Context}
use Rattle.mb_world.proofs.Images.{key-grows}
use Rattle.mb_model.specs.Nodes.Literals.{getter_desc, keyed_function, open_desc, prop_defined, setter_desc}
use Rattle.mb_model.specs.Task.{Answer}
use Rattle.mb_model.specs.Writing.{◌>>=◌, Does, Row, range_error}
use Rattle.mb_world.specs.Data.{Data}
use Rattle.mb_world.specs.Form.{Form, FunctionParts, GetterForm, MethodForm, SetterForm}
use Rattle.mb_world.specs.Graph.{Graph, Item}
use Rattle.mb_world.specs.Ids.{KeyIn}
use Rattle.mb_world.specs.Image.{Image, Names, Resolve, desc_in, key_in, names_of, object_in}
use Rattle.mb_world.specs.Key.{PropertyKey}
use Rattle.mb_world.specs.Value.{Val}

-- ---- methods, getters and setters

abbrev pub told_by : Definition → Val → Desc Val
told_by (def.Getter n) f = getter_desc f
told_by (def.Setter n) f = setter_desc f
told_by y f = open_desc f

pub desc-told : (n : Names) (y : Definition) (z : Value) → desc_in (Resolve n) (described_by y z) ≡ told_by y
    (Resolve n z)
desc-told n (def.Value node) z = refl
desc-told n (def.Method m) z = refl
desc-told n (def.Getter m) z = refl
desc-told n (def.Setter m) z = refl

pub method-row : (c : Context) (w : Val) (n : ℕ) (o : Option Form) (y : Definition) (prefix : List ℕ) (m : ℕ)
    (k : PropertyKey)
    → IsOf o y → IsMethodOf y prefix m
    → (parts : FunctionParts) × (length parts.params ≡ m)
    × (prop_by c w n o k ≡ (keyed_function c n parts prefix k >>= (λ f. prop_defined c.side w k (told_by y f))))
method-row c w n None y prefix m k h i = absurd h
method-row c w n (Some f) (def.Value node) prefix m k h i = absurd i
method-row c w n (Some (MethodForm nm q)) (def.Method a) prefix m k h i =
    (q, h ∙ i.1, ap (λ pr. keyed_function c n q pr k >>= (λ f. prop_defined c.side w k (open_desc f))) (sym i.0))
method-row c w n (Some (GetterForm nm q)) (def.Getter a) prefix m k h i =
    (q, h ∙ i.1, ap (λ pr. keyed_function c n q pr k >>= (λ f. prop_defined c.side w k (getter_desc f))) (sym i.0))
method-row c w n (Some (SetterForm nm q)) (def.Setter a) prefix m k h i =
    (q, h ∙ i.1, ap (λ pr. keyed_function c n q pr k >>= (λ f. prop_defined c.side w k (setter_desc f))) (sym i.0))
method-row c w n (Some _) (def.Method a) prefix m k h i = absurd h
method-row c w n (Some _) (def.Getter a) prefix m k h i = absurd h
method-row c w n (Some _) (def.Setter a) prefix m k h i = absurd h

pub method-node : (o : Option Form) (y : Definition) (prefix : List ℕ) (m : ℕ) → IsOf o y → IsMethodOf y prefix m
    → is_function_of false false o ≡ true
method-node None y prefix m h i = absurd h
method-node (Some f) (def.Value node) prefix m h i = absurd i
method-node (Some (MethodForm nm q)) (def.Method a) prefix m h i = refl
method-node (Some (GetterForm nm q)) (def.Getter a) prefix m h i = refl
method-node (Some (SetterForm nm q)) (def.Setter a) prefix m h i = refl
method-node (Some _) (def.Method a) prefix m h i = absurd h
method-node (Some _) (def.Getter a) prefix m h i = absurd h
method-node (Some _) (def.Setter a) prefix m h i = absurd h

-- the function was made, and then the property defined
pub made-defined : (home : Side) (d d1 d2 : Data) (l : Literal) (property : NodeId) (o : Option Form) (y : Definition)
    (prefix : List ℕ) (m : ℕ) (key : Key) (function : ObjId) → IsOf o y → IsMethodOf y prefix m → KeyIn d key
    → Holds d home (literal_held l)
    → ((parts : FunctionParts) → length parts.params ≡ m → WentOn Val d d1 0 0
    (keyed_function (context_in (names_of d) home.0 l.at) property.0 parts prefix (key_in (names_of d) key))
    (object_in (names_of d1) function))
    → Stores (Ok tt) d1 d2 (prop_defined home.0 (object_in (names_of d1) l.object) (key_in (names_of d1) key)
    (desc_in (Resolve (names_of d1)) (described_by y (v.Object function))))
    → Defines home l (Ok None) d d2
    (prop_by (context_in (names_of d) home.0 l.at) (object_in (names_of d) l.object) property.0 o
    (key_in (names_of d) key))
made-defined home d d1 d2 l property o y prefix m key function h i k held made s =
    let c = context_in (names_of d) home.0 l.at in
    let w = object_in (names_of d) l.object in
    let z = key_in (names_of d) key in
    let q = method-row c w property.0 o y prefix m z h i in
    let f = object_in (names_of d1) function in
    let u = made q.0 q.1 in
    let then : Val → Does Answer = λ b. prop_defined home.0 w z (told_by y b) in
    let same : prop_defined home.0 (object_in (names_of d1) l.object) (key_in (names_of d1) key)
    (desc_in (Resolve (names_of d1)) (described_by y (v.Object function)))
    ≡ then f
    = ap (λ b. prop_defined home.0 b (key_in (names_of d1) key)
    (desc_in (Resolve (names_of d1)) (described_by y (v.Object function))))
    (u.grew.grows.same_object l.object held.1.1.1.0.within)
    ∙ ap (λ b. prop_defined home.0 w b (desc_in (Resolve (names_of d1)) (described_by y (v.Object function))))
    (key-grows d d1 u.grew.grows key k)
    ∙ ap (prop_defined home.0 w z) (desc-told (names_of d1) y (v.Object function)) in (
      s.0,
      subst (λ (p : Does Answer). WentOn Answer d d2 0 0 p s.0) (sym q.2)
          (WentOn-then Val Answer d d1 d2 0 0 (keyed_function c property.0 q.0 prefix z) f then s.0 u
          (subst (λ (p : Does Answer). WentOn Answer d1 d2 0 0 p s.0) same s.1)),
    )

-- the name is too long
pub too-long-throws : (home : Side) (d d1 d2 : Data) (l : Literal) (property : NodeId) (o : Option Form)
    (y : Definition)
    (prefix : List ℕ) (m : ℕ) (key : Key) (step : Move) → IsOf o y → IsMethodOf y prefix m
    → ((parts : FunctionParts) → length parts.params ≡ m → TextsGrew d d1 × ((k : Val → Graph → Row) (log : List Item) →
    keyed_function (context_in (names_of d) home.0 l.at) property.0 parts prefix (key_in (names_of d) key) k
    (Image d log)
    ≡ range_error home.0 k (Image d log)))
    → ((f : ℕ) → Part home (Ok step) d1 d2 f f (range_error {A = Answer} home.0 finished))
    → Defines home l (Ok (Some step)) d d2
    (prop_by (context_in (names_of d) home.0 l.at) (object_in (names_of d) l.object) property.0 o
    (key_in (names_of d) key))
too-long-throws home d d1 d2 l property o y prefix m key step h i long s = λ f.
    let c = context_in (names_of d) home.0 l.at in
    let w = object_in (names_of d) l.object in
    let z = key_in (names_of d) key in
    let q = method-row c w property.0 o y prefix m z h i in
    let u = long q.0 q.1 in
    let k : Val → Graph → Row = λ b. (prop_defined home.0 w z (told_by y b) >>= (λ a. rest_of d home l)) finished in
    Part-passed home (Ok step) d d1 d2 f f f ((prop_by c w property.0 o z >>= (λ a. rest_of d home l)) finished)
    (range_error {A = Answer} home.0 finished)
    (Passes-texts d d1 f ((prop_by c w property.0 o z >>= (λ a. rest_of d home l)) finished)
    (range_error {A = Answer} home.0 finished) u.0
    (λ log. ap (λ (p : Does Answer). (p >>= (λ a. rest_of d home l)) finished (Image d log)) q.2 ∙ u.1 k log))
    (s f)
