-- ProxyCreate, and what goes on with its answer.
use Rattle.std.proofs.Common.{◌&&◌, ◌∙◌, ◌∷◌, ◌≡◌, Bool, List, None, Ok, Option, Result, Some, [], ap, false, not, refl}
use Rattle.std.proofs.Common.{slice_get, sym, true, true≢false, ℕ}
use Rattle.std.proofs.lemmas.List.Elements.{All-append, All-nil}
use Rattle.std.specs.Prelude.{IsSomeAnd}
use Rattle.mb_base.specs.declared.value.ObjId.{ObjId}
use Rattle.mb_base.specs.declared.value.Side.{Side}
use Rattle.mb_base.specs.declared.value.Value.{Value}
use Rattle.mb_base.specs.declared.value.Value.TheVariants as v
use Rattle.mb_frames.proofs.Going.{Makes-passes}
use Rattle.mb_frames.proofs.Made.{IsLast, last-went}
use Rattle.mb_frames.proofs.Passed.{Part-by, Part-passed, Part-sure}
use Rattle.mb_frames.specs.Going.{Makes, WentOn}
use Rattle.mb_frames.specs.Held.{HeldObject}
use Rattle.mb_frames.specs.Passing.{Part}
use Rattle.mb_frames.specs.Ready.{IsMade, MayHold}
use Rattle.mb_frames.specs.Sorts.{AnObject, run_gives}
use Rattle.mb_frames.specs.Stepping.{Sure}
use Rattle.mb_frames.specs.declared.frame.Move.{Move}
use Rattle.mb_frames.specs.declared.machine.Halt.{Halt}
use Rattle.mb_model.specs.BuiltIns.ProxyMaking.{may_be_target, proxy_create}
use Rattle.mb_model.specs.Meaning.{finished}
use Rattle.mb_model.specs.Task.{Answer}
use Rattle.mb_model.specs.Writing.{◌>>=◌, Does, Row, is_value, look, make, type_error, unless_type_error}
use Rattle.mb_world.proofs.Values.{object-object}
use Rattle.mb_world.specs.Contained.{IsOwn}
use Rattle.mb_world.specs.Data.{AtPlace, Before, Counted, Data, Hidden, Stand}
use Rattle.mb_world.specs.Formed.{InRange}
use Rattle.mb_world.specs.Graph as graph
use Rattle.mb_world.specs.Graph.{Graph, Item, Thing}
use Rattle.mb_world.specs.Image.{Image, Names, Resolve, names_of, object_in, stood}
use Rattle.mb_world.specs.Objects.{is_proxy_kind, new_thing, shape_of, shape_of_kind, shape_of_thing, thing_at}
use Rattle.mb_world.specs.Objects.{thing_is}
use Rattle.mb_world.specs.Value.{Null, Val, is_object, is_undefined}
use Rattle.mb_world.specs.declared.cell.CellKind.TheVariants as kind
use Rattle.mb_world.specs.declared.cell.Shape.{Shape}

-- ---- the row

module _ (s : ℕ) (t h : Val) where
  -- what follows the test
  abbrev tested : Bool → Does Val
  tested b = unless_type_error s b >>= (λ u. look (λ g. shape_of g t) >>= (λ y.
      make (new_thing s None (graph.Proxy t h y) Null)))

  pub create-able : (k : Val → Graph → Row) (g : Graph) → (may_be_target g t && is_object h) ≡ true
      → proxy_create s t h k g ≡ make (new_thing s None (graph.Proxy t h (shape_of g t)) Null) k g
  create-able k g e = ap (λ (b : Bool). tested b k g) e

  pub create-unable : (k : Val → Graph → Row) (g : Graph) → (may_be_target g t && is_object h) ≡ false
      → proxy_create s t h k g ≡ type_error s finished g
  create-unable k g e = ap (λ (b : Bool). tested b k g) e

-- of the same two
pub same-create : (s : ℕ) (t u h i : Val) → t ≡ u → h ≡ i → (k : Val → Graph → Row) (g : Graph)
    → proxy_create s t h k g ≡ proxy_create s u i k g
same-create s t u h i e q k g =
    ap (λ (x : Val). proxy_create s x h k g) e ∙ ap (λ (x : Val). proxy_create s u x k g) q

first-true : (a b : Bool) → true ≡ (a && b) → a ≡ true
first-true true b h = refl
first-true false b h = sym h

-- the first argument may be a target
pub able-target : (g : Graph) (n : Names) (x y : Value) (target : ObjId) → x ≡ v.Object target
    → true ≡ (may_be_target g (Resolve n x) && is_object (Resolve n y)) → may_be_target g (object_in n target) ≡ true
able-target g n x y target e h =
    ap (λ (z : Value). may_be_target g (Resolve n z)) (sym e)
    ∙ first-true (may_be_target g (Resolve n x)) (is_object (Resolve n y)) h

-- the Proxy stands last
pub created : (d d' : Data) (home : Side) (target handler : ObjId) (y : Shape) (id : ObjId)
    → ((log : List Item) → may_be_target (Image d log) (object_in (names_of d) target) ≡ true)
    → ((log : List Item) → shape_of (Image d log) (object_in (names_of d) target) ≡ y)
    → IsLast d d' id (new_thing home.0 None
    (graph.Proxy (object_in (names_of d) target) (object_in (names_of d) handler) y) Null)
    → Makes (Ok id) d d' (proxy_create home.0 (object_in (names_of d) target) (object_in (names_of d) handler))
created d d' home target handler y id able shaped q =
    let n : Names = names_of d in
    let t : Val = object_in n target in
    let h : Val = object_in n handler in
    let w : WentOn Val d d' 0 0 (make (new_thing home.0 None (graph.Proxy t h y) Null)) (object_in (names_of d') id)
    = last-went d d' id (new_thing home.0 None (graph.Proxy t h y) Null) q in
    record {
      units = w.units;
      paid = w.paid;
      same = λ k log.
          create-able home.0 t h k (Image d log) (rw (able log, object-object n handler) refl)
          ∙ ap (λ (z : Shape). make (new_thing home.0 None (graph.Proxy t h z) Null) k (Image d log)) (shaped log)
          ∙ w.same k log;
      trace = w.trace;
      grew = w.grew;
    }

-- ---- what is made

its-kind : (o : Option Thing) (y : Shape) → thing_is (λ z. not (is_proxy_kind z)) o ≡ true → shape_of_thing o ≡ y
    → IsSomeAnd o (λ t. (is_proxy_kind t.kind ≡ false) × (shape_of_kind t.kind ≡ y))
its-kind None y h e = absurd (true≢false (sym h))
its-kind (Some t) y h e = (by (is_proxy_kind t.kind) h, e)
  where
    by : (b : Bool) → not b ≡ true → b ≡ false
    by true k = absurd (true≢false (sym k))
    by false k = refl

pub proxy-made : (d : Data) (home : Side) (target handler : ObjId) (y : Shape)
    → MayHold d home (HeldObject target) → MayHold d home (HeldObject handler)
    → may_be_target (Image d []) (object_in (names_of d) target) ≡ true
    → shape_of (Image d []) (object_in (names_of d) target) ≡ y
    → IsMade d home (kind.Proxy (Some target) (Some handler) y) v.Null None
proxy-made d home target handler y h k able shaped = record {
  counted = refl;
  kind_in = (h.within, k.within);
  proto_in = tt;
  label_in = tt;
  prototype = tt;
  wholes = All-nil InRange;
  kind = its-kind (thing_at (Image d []) (object_in (names_of d) target)) y able shaped;
  unlabelled = λ e. refl;
  kind_own = λ u. All-append (IsOwn d home) (target ∷ []) (handler ∷ []) (h.own u) (k.own u);
  proto_own = λ u. All-nil (IsOwn d home);
}

-- ---- a Proxy of two arguments

module _ (home : Side) (d : Data) (target handler : Value) where
  abbrev n : Names
  n = names_of d

  -- they are no two objects of which one can be made
  pub Part-unable : (r : Result Move Halt) (d' : Data) (f : ℕ) (k : Val → Does Answer)
      → ((log : List Item) → (may_be_target (Image d log) (Resolve (names_of d) target)
      && is_object (Resolve (names_of d) handler)) ≡ false)
      → Part home r d d' f f (type_error home.0 finished)
      → Part home r d d' f f
      ((proxy_create home.0 (Resolve (names_of d) target) (Resolve (names_of d) handler) >>= k) finished)
  Part-unable r d' f k e h =
      Part-by home r d d' f f
      ((proxy_create home.0 (Resolve n target) (Resolve n handler) >>= k) finished) (type_error home.0 finished)
      (λ log. create-unable home.0 (Resolve n target) (Resolve n handler) (λ x. k x finished) (Image d log) (e log)) h

-- it is the answer
pub Part-created : (home : Side) (d d' : Data) (t h : Val) (id : ObjId) (m : Move) (f : ℕ)
    → Makes (Ok id) d d' (proxy_create home.0 t h)
    → Sure home d' (is_value (object_in (names_of d') id) finished) m
    → Part home (Ok m) d d' f f ((proxy_create home.0 t h >>= is_value) finished)
Part-created home d d' t h id m f q s =
    Part-passed home (Ok m) d d' d' f f f ((proxy_create home.0 t h >>= is_value) finished)
    (is_value (object_in (names_of d') id) finished)
    (Makes-passes d d' f (proxy_create home.0 t h) id (λ x. is_value x finished) q)
    (Part-sure home d' f (is_value (object_in (names_of d') id) finished) m s)

-- ---- the new target

object-defined : (n : Names) (o : ObjId) → is_undefined (object_in n o) ≡ false
object-defined n o = by (slice_get n.stands o.0)
  where
    by : (s : Option Stand) → is_undefined (stood n o.0 s) ≡ false
    by (Some Counted) = refl
    by (Some (AtPlace place)) = refl
    by (Some (Before behind)) = refl
    by (Some Hidden) = refl
    by None = refl

-- ---- what is no object

pub no-object : (n : Names) (x : Value) → ((o : ObjId) → x ≡ v.Object o → ⊥) → is_object (Resolve n x) ≡ false
no-object n v.Undefined h = refl
no-object n v.Null h = refl
no-object n (v.Bool b) h = refl
no-object n (v.Whole z) h = refl
no-object n (v.Text t) h = refl
no-object n (v.Symbol t) h = refl
no-object n (v.Object o) h = absurd (h o refl)

pub no-target : (g : Graph) (n : Names) (x : Value) → ((o : ObjId) → x ≡ v.Object o → ⊥)
    → may_be_target g (Resolve n x) ≡ false
no-target g n v.Undefined h = refl
no-target g n v.Null h = refl
no-target g n (v.Bool b) h = refl
no-target g n (v.Whole z) h = refl
no-target g n (v.Text t) h = refl
no-target g n (v.Symbol t) h = refl
no-target g n (v.Object o) h = absurd (h o refl)

pub no-undefined : (n : Names) (x : Value) → (x ≡ v.Undefined → ⊥) → is_undefined (Resolve n x) ≡ false
no-undefined n v.Undefined h = absurd (h refl)
no-undefined n v.Null h = refl
no-undefined n (v.Bool b) h = refl
no-undefined n (v.Whole z) h = refl
no-undefined n (v.Text t) h = refl
no-undefined n (v.Symbol t) h = refl
no-undefined n (v.Object o) h = object-defined n o

pub gives-object : (x : Value) → (x ≡ v.Undefined → ⊥) → run_gives x true ≡ AnObject
gives-object v.Undefined h = absurd (h refl)
gives-object x h = refl
