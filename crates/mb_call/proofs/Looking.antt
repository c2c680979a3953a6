-- Rows of methods that look at a property: what is seen, and where they go on.
use Rattle.std.proofs.Common.{◌≡◌, ap, sym, if◌then◌else◌, None, Ok, Option, [], false, ℕ}
use Rattle.mb_base.specs.declared.value.ObjId.{ObjId}
use Rattle.mb_base.specs.declared.value.Side.{Side}
use Rattle.mb_base.specs.declared.value.Value.{Value}
use Rattle.mb_base.specs.declared.value.Value.TheVariants as v
use Rattle.mb_call.proofs.Objects.{no-object, object-defined}
use Rattle.mb_desc.specs.declared.descriptor.Full.{Full}
use Rattle.mb_frames.proofs.Steps.{Step-sure, Sure-by}
use Rattle.mb_frames.specs.Passing.{Part}
use Rattle.mb_frames.specs.Stepping.{Sure}
use Rattle.mb_frames.specs.declared.frame.Move.{Move}
use Rattle.mb_model.specs.Meaning.{finished}
use Rattle.mb_model.specs.Objects.Methods.{call_getter, ordinary_set, store}
use Rattle.mb_model.specs.Task as task
use Rattle.mb_model.specs.Task.{Answer}
use Rattle.mb_model.specs.Writing.{◌>>=◌, Does, Row, answer, give, look, perform, yes_or_no}
use Rattle.mb_rules.specs.Seen.{graph_of}
use Rattle.mb_world.proofs.Values.{object-object}
use Rattle.mb_world.specs.Data.{Data}
use Rattle.mb_world.specs.Graph.{Graph, Thing}
use Rattle.mb_world.specs.Image.{Image, Resolve, names_of, object_in}
use Rattle.mb_world.specs.Key.{PropertyKey}
use Rattle.mb_world.specs.Ordinary.{CallSetter, RefuseWrite, StoreInReceiver, WriteAbove, written}
use Rattle.mb_world.specs.Value.{Undefined, Val, is_object}
use Rattle.mb_world.specs.View.{shown_property}

module _ (d : Data) (home : Side) (m : Move) where
  pub part-sure : (p : Does Answer) → Sure home d (p finished) m → (f : ℕ) → Part home (Ok m) d d f f (p finished)
  part-sure p h f = λ begun l. Step-sure home begun d (p finished) m f l h

  -- the property that a side sees
  pub looks : (viewer : Side) (t : Thing) (k : PropertyKey) (q : Option (Full Val) → Does Answer)
      (x : Option (Full Val)) → x ≡ shown_property (graph_of d) viewer.0 t k → Sure home d (q x finished) m → (f : ℕ)
      → Part home (Ok m) d d f f ((look (λ g. shown_property g viewer.0 t k) >>= q) finished)
  looks viewer t k q x e h f = λ begun l.
      let p : Graph → Row = (look (λ g. shown_property g viewer.0 t k) >>= q) finished in
      Step-sure home begun d p m f l
      (Sure-by home d p (q x finished) m (λ log. ap (λ y. q y finished (Image d log)) (sym e)) h)

  -- ---- what follows by the value that is there

  pub goes-up : (x : Value) (up : ObjId) (a : Val → Does Answer) (b : Does Answer) → x ≡ v.Object up
      → Sure home d (a (object_in (names_of d) up) finished) m
      → Sure home d ((if is_object (Resolve (names_of d) x) then a (Resolve (names_of d) x) else b) finished) m
  goes-up x up a b e h = rw e
      (Sure-by home d _ (a (object_in (names_of d) up) finished) m
      (λ log. ap (λ y. let r : Does Answer = if y then a (object_in (names_of d) up) else b in r finished (Image d log))
      (object-object (names_of d) up)) h)

  pub goes-on : (x : Value) (a b : Does Answer) → ((o : ObjId) → x ≡ v.Object o → ⊥) → Sure home d (b finished) m
      → Sure home d ((if is_object (Resolve (names_of d) x) then a else b) finished) m
  goes-on x a b e h =
      Sure-by home d _ (b finished) m
      (λ log. ap (λ y. let r : Does Answer = if y then a else b in r finished (Image d log))
      (no-object (names_of d) x e)) h

  pub calls-getter : (r : Val) (x : Value) (f : ObjId) → x ≡ v.Object f
      → Sure home d (answer (perform home.0 (task.Call r []) (object_in (names_of d) f)) finished) m
      → Sure home d (call_getter home.0 r (Resolve (names_of d) x) finished) m
  calls-getter r x f e h = rw e
      (Sure-by home d _ (answer (perform home.0 (task.Call r []) (object_in (names_of d) f)) finished) m
      (λ log. ap (λ y. let p : Does Answer = if y then give (task.Value Undefined)
      else answer (perform home.0 (task.Call r []) (object_in (names_of d) f)) in p finished (Image d log))
      (object-defined (names_of d) f)) h)

  -- ---- writes

  -- a setter that isn't there refuses
  pub set-refused : (k : PropertyKey) (x r : Val) (setter : Value) → ((o : ObjId) → setter ≡ v.Object o → ⊥)
      → Sure home d (yes_or_no false finished) m
      → Sure home d (ordinary_set home.0 k x r
      (if is_object (Resolve (names_of d) setter) then CallSetter
      (Resolve (names_of d) setter) else RefuseWrite) finished) m
  set-refused k x r setter e h =
      Sure-by home d _ (yes_or_no false finished) m
      (λ log. ap (λ y. ordinary_set home.0 k x r
      (if y then CallSetter (Resolve (names_of d) setter) else RefuseWrite) finished (Image d log))
      (no-object (names_of d) setter e)) h

  -- where nothing is there the write goes on at the prototype, or stores in the receiver
  pub writes-above : (k : PropertyKey) (x r : Val) (proto : Value) (up : ObjId) → proto ≡ v.Object up
      → Sure home d (answer (perform home.0 (task.Set k x r) (object_in (names_of d) up)) finished) m
      → Sure home d (ordinary_set home.0 k x r (written (Resolve (names_of d) proto) None) finished) m
  writes-above k x r proto up e h = rw e
      (Sure-by home d _ (answer (perform home.0 (task.Set k x r) (object_in (names_of d) up)) finished) m
      (λ log. ap (λ y. ordinary_set home.0 k x r
      (if y then WriteAbove (object_in (names_of d) up) else StoreInReceiver) finished (Image d log))
      (object-object (names_of d) up)) h)

  pub store-above : (k : PropertyKey) (x r : Val) (proto : Value) → ((o : ObjId) → proto ≡ v.Object o → ⊥)
      → Sure home d (store home.0 k x r finished) m
      → Sure home d (ordinary_set home.0 k x r (written (Resolve (names_of d) proto) None) finished) m
  store-above k x r proto e h =
      Sure-by home d _ (store home.0 k x r finished) m
      (λ log. ap (λ y. ordinary_set home.0 k x r
      (if y then WriteAbove (Resolve (names_of d) proto) else StoreInReceiver) finished (Image d log))
      (no-object (names_of d) proto e)) h
