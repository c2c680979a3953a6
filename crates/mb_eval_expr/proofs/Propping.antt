-- Properties of object literals, one after the other.
use Rattle.std.proofs.Common.{◌+◌, ◌≡◌, ◌∙◌, Err, List, None, Ok, Option, Result, Some, ap, arith, drop, false, refl}
use Rattle.std.proofs.Common.{slice_get, subst, sym, true, true≢false, ℕ}
use Rattle.mb_base.specs.declared.value.Key.{Key}
use Rattle.mb_base.specs.declared.value.NodeId.{NodeId}
use Rattle.mb_base.specs.declared.value.Side.{Side}
use Rattle.mb_base.specs.declared.value.Value.{Value}
use Rattle.mb_parts.proofs.Writing.{Grew-texts}
use Rattle.mb_eval_expr.specs.declared.definitions.Definition.{Definition}
use Rattle.mb_eval_expr.specs.declared.definitions.Definition.TheVariants as def
use Rattle.mb_eval_expr.specs.declared.props.Literal.{Literal}
use Rattle.mb_eval_expr.specs.machine.Literals.{Defines, HasNameNode, IsDefinition, IsOf, IsProp, literal_held, rest_of}
use Rattle.mb_frames.proofs.Forms.{context-grows, forms-grow}
use Rattle.mb_frames.proofs.Passed.{Part-passed, Passes-texts}
use Rattle.mb_frames.proofs.Steps.{Grew-then, Sure-wait}
use Rattle.mb_frames.specs.Going.{WentOn, paying}
use Rattle.mb_frames.specs.Grammatical.{IsKey}
use Rattle.mb_frames.specs.Kinds.{is_prop_form}
use Rattle.mb_frames.specs.Passing.{TextsGrew}
use Rattle.mb_frames.specs.Ready.{Holds}
use Rattle.mb_frames.specs.Resolved.{context_in}
use Rattle.mb_frames.specs.Rest.Expressions.{prop_by}
use Rattle.mb_frames.specs.Rest.Parts.{parts_at}
use Rattle.mb_frames.specs.Standing.{forms_at}
use Rattle.mb_frames.specs.Stepping.{Grew, Sure}
use Rattle.mb_frames.specs.Told.{IsNodeOf, key_told, told_at}
use Rattle.mb_frames.specs.declared.expressions.ExprFrame.TheVariants as e
use Rattle.mb_frames.specs.declared.frame.Frame.TheVariants as x
use Rattle.mb_frames.specs.declared.frame.Move.{Move}
use Rattle.mb_frames.specs.declared.frame.Move.TheVariants as move
use Rattle.mb_frames.specs.declared.machine.Halt.{Halt}
use Rattle.mb_frames.specs.declared.machine.Halt.TheVariants.{NoMemory, Spent as SpentHalt}
use Rattle.mb_frames.specs.declared.task.Task.TheVariants as t
use Rattle.mb_model.specs.Meaning.{finished}
use Rattle.mb_model.specs.Nodes.Evaluation.{Context}
use Rattle.mb_model.specs.Nodes.Literals.{prop_key, prop_keyed, prop_of, props}
use Rattle.mb_model.specs.Task.{Answer}
use Rattle.mb_model.specs.Writing.{◌>>=◌, Does, give}
use Rattle.mb_model.specs.Task.{Nothing}
use Rattle.mb_tree.specs.Seen.{seen, seen_name}
use Rattle.mb_tree.specs.declared.form.Form.{Form as Given}
use Rattle.mb_tree.specs.declared.form.Form.TheVariants as g
use Rattle.mb_tree.specs.declared.form.PropName.{PropName}
use Rattle.mb_tree.specs.declared.form.PropName.TheVariants as p
use Rattle.mb_world.specs.Data.{Data}
use Rattle.mb_world.specs.Form.{Form, GetterForm, MethodForm, SetterForm, ValueForm, Written}
use Rattle.mb_world.specs.Ids.{HasItsIds, KeyIn}
use Rattle.mb_world.specs.Image.{Image, key_in, names_of, object_in}
use Rattle.mb_world.specs.Key.{Named, PropertyKey}
use Rattle.mb_world.specs.Value.{Val}

-- ---- nodes of properties

pub prop-form : (d : Data) (o : Option Form) (name : PropName) (y : Definition) → IsProp d o name y → is_prop_form o
    ≡ true
prop-form d None name y h = absurd h
prop-form d (Some (ValueForm n q)) name y h = refl
prop-form d (Some (MethodForm n q)) name y h = refl
prop-form d (Some (GetterForm n q)) name y h = refl
prop-form d (Some (SetterForm n q)) name y h = refl
prop-form d (Some f) name y h = no f y h.1
  where
    no : (f : Form) (y : Definition) → IsDefinition f y → is_prop_form (Some f) ≡ true
    no (ValueForm n q) y h = refl
    no (MethodForm n q) y h = refl
    no (GetterForm n q) y h = refl
    no (SetterForm n q) y h = refl
    no _ y h = absurd h

pub prop-is : (d : Data) (o : Option Form) (name : PropName) (y : Definition) → IsProp d o name y → IsOf o y
prop-is d None name y h = absurd h
prop-is d (Some f) name y h = h.1

-- any other node defines nothing
pub no-prop : (c : Context) (w : Val) (n : ℕ) (o : Option Form) → is_prop_form o ≡ false → prop_of c w n o ≡ give
    Nothing
no-prop c w n None h = refl
no-prop c w n (Some (ValueForm a b)) h = absurd (true≢false h)
no-prop c w n (Some (MethodForm a b)) h = absurd (true≢false h)
no-prop c w n (Some (GetterForm a b)) h = absurd (true≢false h)
no-prop c w n (Some (SetterForm a b)) h = absurd (true≢false h)
no-prop c w n (Some _) h = refl

pub no-keyed : (c : Context) (w : Val) (n : ℕ) (o : Option Form) (k : PropertyKey) → is_prop_form o ≡ false
    → prop_by c w n o k ≡ give Nothing
no-keyed c w n None k h = refl
no-keyed c w n (Some (ValueForm a b)) k h = absurd (true≢false h)
no-keyed c w n (Some (MethodForm a b)) k h = absurd (true≢false h)
no-keyed c w n (Some (GetterForm a b)) k h = absurd (true≢false h)
no-keyed c w n (Some (SetterForm a b)) k h = absurd (true≢false h)
no-keyed c w n (Some _) k h = refl

pub no-prop-form : (d : Data) (home : Side) (form : Given) → ((a b : _) → form ≡ g.Value a b → ⊥)
    → ((a b : _) → form ≡ g.Method a b → ⊥) → ((a b : _) → form ≡ g.Getter a b → ⊥)
    → ((a b : _) → form ≡ g.Setter a b → ⊥)
    → is_prop_form (Some (told_at d home (seen form))) ≡ false
no-prop-form d home (g.Value a b) h i j k = absurd (h a b refl)
no-prop-form d home (g.Method a b) h i j k = absurd (i a b refl)
no-prop-form d home (g.Getter a b) h i j k = absurd (j a b refl)
no-prop-form d home (g.Setter a b) h i j k = absurd (k a b refl)
no-prop-form d home _ h i j k = refl

pub name-node : (d : Data) (home : Side) (name : PropName) → IsKey (IsNodeOf d home) (seen_name name) → HasNameNode d
    home name
name-node d home (p.Written n) h = tt
name-node d home (p.Whole z) h = tt
name-node d home (p.Computed key) h = h

-- ---- what follows, in a world that grew

abbrev pub from_place : Data → Side → Literal → ℕ → Does Answer
from_place d home l n =
    props (context_in (names_of d) home.0 l.at) (object_in (names_of d) l.object)
    (drop n (parts_at (forms_at d home) l.node.0))

pub place-grow : (d d' : Data) (home : Side) (l : Literal) (n : ℕ) → HasItsIds d → Grew d d' → Holds d home
    (literal_held l)
    → from_place d' home l n ≡ from_place d home l n
place-grow d d' home l n i q h =
    let ns : List ℕ = drop n (parts_at (forms_at d' home) l.node.0) in
    ap (λ (c : Context). props c (object_in (names_of d') l.object) ns) (context-grows d d' home l.at h.1.0.within q)
    ∙ ap (λ (w : Val). props (context_in (names_of d) home.0 l.at) w ns) (q.grows.same_object l.object h.1.1.1.0.within)
    ∙ ap (λ (fs : List Form). props (context_in (names_of d) home.0 l.at) (object_in (names_of d) l.object)
    (drop n (parts_at fs l.node.0)))
    (forms-grow d d' home i q)

pub rest-grow : (d d' : Data) (home : Side) (l : Literal) → HasItsIds d → Grew d d' → Holds d home (literal_held l)
    → rest_of d' home l ≡ rest_of d home l
rest-grow d d' home l i q h = place-grow d d' home l (l.place + 1) i q h

-- a part that goes on after texts were added
pub WentOn-texts : (A : Type 0) (d d1 d2 : Data) (q : Does A) (a : A) → TextsGrew d d1 → WentOn A d1 d2 0 0 q a
    → WentOn A d d2 0 0 q a
WentOn-texts A d d1 d2 q a t h =
    let u : h.units ≡ 0 = omega (arith, h.paid) in
    record {
      units = 0;
      paid = omega arith;
      same = λ c log.
          ap (q c) (sym (t.becomes.image log)) ∙ h.same c log
          ∙ ap (λ n. paying n (Image d1 log) (c a (Image d2 log))) u;
      trace = h.trace ∙ t.trace;
      grew = Grew-then d d1 d2 (Grew-texts d d1 t) h.grew;
    }

pub Defines-texts : (home : Side) (l : Literal) (r : Result (Option Move) Halt) (d d1 d2 : Data) (q q' : Does Answer)
    → TextsGrew d d1
    → q ≡ q' → rest_of d home l ≡ rest_of d1 home l → Defines home l r d1 d2 q' → Defines home l r d d2 q
Defines-texts home l (Ok None) d d1 d2 q q' t e k h =
    (h.0, WentOn-texts Answer d d1 d2 q h.0 t (subst (λ (z : Does Answer). WentOn Answer d1 d2 0 0 z h.0) (sym e) h.1))
Defines-texts home l (Ok (Some m)) d d1 d2 q q' t e k h = λ f.
    Part-passed home (Ok m) d d1 d2 f f f ((q >>= (λ a. rest_of d home l)) finished)
    ((q' >>= (λ a. rest_of d1 home l)) finished)
    (Passes-texts d d1 f ((q >>= (λ a. rest_of d home l)) finished) ((q' >>= (λ a. rest_of d1 home l)) finished) t
    (λ log. ap (λ (z : Does Answer). (z >>= (λ a. rest_of d home l)) finished (Image d log)) e
    ∙ ap (λ (z : Does Answer). (q' >>= (λ a. z)) finished (Image d log)) k)) (h f)
Defines-texts home l (Err SpentHalt) d d1 d2 q q' t e k h = h
Defines-texts home l (Err NoMemory) d d1 d2 q q' t e k h = tt

pub Defines-by : (home : Side) (l : Literal) (r : Result (Option Move) Halt) (d d' : Data) (q q' : Does Answer) → q ≡ q'
    → Defines home l r d d' q' → Defines home l r d d' q
Defines-by home l r d d' q q' e h = subst (Defines home l r d d') (sym e) h

-- ---- the key of a property

-- a name that is written
pub named-row : (d : Data) (c : Context) (w : Val) (n : ℕ) (o : Option Form) (name : PropName) (text : List ℕ)
    (y : Definition)
    → IsProp d o name y → key_told d.texts (seen_name name) ≡ Written text → prop_of c w n o ≡ prop_by c w n o
    (Named text)
named-row d c w n None name text y h e = absurd h
named-row d c w n (Some f) name text y h e = ap (λ nm. prop_key c nm >>= prop_keyed c w n f) (h.0 ∙ e)

-- ---- properties that wait

module _ (d : Data) (home : Side) (l : Literal) (property : NodeId) (h : Holds d home (literal_held l)) where
  abbrev c : Context
  c = context_in (names_of d) home.0 l.at

  abbrev w : Val
  w = object_in (names_of d) l.object

  pub Sure-computed : (o : Option Form) (key : NodeId) (y : Definition) → slice_get (forms_at d home) property.0 ≡ o
      → IsProp d o (p.Computed key) y
      → Sure home d ((prop_of (context_in (names_of d) home.0 l.at) (object_in (names_of d) l.object) property.0 o
      >>= (λ a. rest_of d home l)) finished)
      (move.Wait (x.Expr (e.PropKey l.at l.node l.object property l.place)) (t.Evaluate key l.at))
  Sure-computed None key y i k = absurd k
  Sure-computed (Some f) key y i k =
      Sure-wait home d (x.Expr (e.PropKey l.at l.node l.object property l.place)) (t.Evaluate key l.at)
      ((prop_of c w property.0 (Some f) >>= (λ a. rest_of d home l)) finished) _
      (λ log. ap (λ nm. ((prop_key c nm >>= prop_keyed c w property.0 f) >>= (λ a. rest_of d home l)) finished
      (Image d log)) k.0)
      tt (λ q j. rw i refl)
      (h.0.within, (h.1.0.within, (tt, (h.1.1.1.0.within, (tt, (h.0.within, (h.1.0.within, (tt, tt))))))))

  pub Sure-valued : (o : Option Form) (node : NodeId) (key : Key) → KeyIn d key → IsOf o (def.Value node)
      → Sure home d ((prop_by (context_in (names_of d) home.0 l.at) (object_in (names_of d) l.object) property.0 o
      (key_in (names_of d) key) >>= (λ a. rest_of d home l)) finished)
      (move.Wait (x.Expr (e.PropValue l.at l.node l.object l.place key)) (t.Evaluate node l.at))
  Sure-valued None node key i k = absurd k
  Sure-valued (Some (ValueForm nm q)) node key i k =
      Sure-wait home d (x.Expr (e.PropValue l.at l.node l.object l.place key)) (t.Evaluate node l.at)
      ((prop_by c w property.0 (Some (ValueForm nm q)) (key_in (names_of d) key) >>= (λ a. rest_of d home l))
      finished) _
      (λ log. ap (λ m. (prop_keyed c w property.0 (ValueForm nm m) (key_in (names_of d) key) >>=
      (λ a. rest_of d home l)) finished (Image d log)) k)
      tt (λ r j. refl)
      (h.0.within, (h.1.0.within, (tt, (h.1.1.1.0.within, (i, (h.0.within, (h.1.0.within, (tt, tt))))))))
  Sure-valued (Some _) node key i k = absurd k
