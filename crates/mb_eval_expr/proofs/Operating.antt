-- Operators that ask objects, and the words of types.
use Rattle.std.proofs.Common.{Bool, None, Ok, Result, Some, ap, false, refl, sym, true, ℕ, ◌∙◌, ◌≡◌}
use Rattle.std.specs.Prelude.{codes, if◌then◌else◌}
use Rattle.mb_base.specs.declared.value.ObjId.{ObjId}
use Rattle.mb_base.specs.declared.value.Side.{Side}
use Rattle.mb_base.specs.declared.value.Value.{Value}
use Rattle.mb_base.specs.declared.value.Value.TheVariants as v
use Rattle.mb_base.specs.declared.value.Key.{Key}
use Rattle.mb_frames.proofs.Passed.{Part-passed, Part-sure, Passes-texts}
use Rattle.mb_eval_expr.proofs.Referring.{object-cases, object-is}
use Rattle.mb_frames.specs.Passing.{Part, TextsGrew}
use Rattle.mb_frames.specs.declared.expressions.ExprFrame.TheVariants as e
use Rattle.mb_frames.specs.declared.frame.Frame.TheVariants as x
use Rattle.mb_frames.specs.declared.machine.Halt.{Halt}
use Rattle.mb_frames.specs.declared.task.Method.TheVariants as m
use Rattle.mb_frames.specs.declared.task.Task.{Task}
use Rattle.mb_tree.specs.declared.kind.Sign.TheVariants.{In}
use Rattle.mb_world.proofs.Grow.{ObjIn-grows}
use Rattle.mb_world.specs.Key.{Named, key_of}
use Rattle.mb_frames.proofs.Steps.{Step-again, Step-by, Step-sure, Sure-wait}
use Rattle.mb_frames.specs.Stepping.{Step, Sure, Written}
use Rattle.mb_frames.specs.declared.frame.Move.{Move}
use Rattle.mb_frames.specs.declared.frame.Move.TheVariants as move
use Rattle.mb_frames.specs.declared.task.Task.TheVariants as t
use Rattle.mb_model.specs.Meaning.{finished}
use Rattle.mb_model.specs.Nodes.BinaryOperators.{chain_got, has_row, instance_object, instance_prototype, operate}
use Rattle.mb_model.specs.Operations.Calls.{get}
use Rattle.mb_base.specs.declared.value.Key.TheVariants as k
use Rattle.mb_base.specs.declared.value.StrId.{StrId}
use Rattle.mb_text.specs.Index.{index_of}
use Rattle.mb_text.specs.Texts.{text_at}
use Rattle.mb_model.specs.Nodes.UnaryOperators.{kind_word, type_word}
use Rattle.mb_model.specs.Task.{Answer, Chain, HasProperty}
use Rattle.mb_model.specs.Writing.{◌>>=◌, Does, again, flag, or_type_error, perform, truth, type_error}
use Rattle.mb_world.proofs.Values.{value-equal, value-same}
use Rattle.mb_world.specs.Data.{Data}
use Rattle.mb_world.specs.Formed.{IsNullOrObject}
use Rattle.mb_world.specs.Graph.{Graph}
use Rattle.mb_world.specs.Ids.{KeyIn, ObjIn, TextIn}
use Rattle.mb_world.specs.Image.{Image, Names, Resolve, key_in, names_of, object_in, text_in}
use Rattle.mb_world.specs.Objects.{is_callable}
use Rattle.mb_world.specs.Value.{Null, Val, is_null, same_value}

pub type-object : (g : Graph) (n : Names) (o : ObjId) → type_word g (object_in n o) ≡ kind_word
    (is_callable g (object_in n o))
type-object g n o = object-cases n o (λ v. type_word g v ≡ kind_word (is_callable g v)) (λ i. refl) (λ p. refl)

no-null : (n : Names) (o : ObjId) → is_null (object_in n o) ≡ false
no-null n o = object-cases n o (λ v. is_null v ≡ false) (λ i. refl) (λ p. refl)

null-apart : (n : Names) (o : ObjId) → same_value Null (object_in n o) ≡ false
null-apart n o = object-cases n o (λ v. same_value Null v ≡ false) (λ i. refl) (λ p. refl)

-- two objects that stand for different ones
apart-by : (n : Names) (a b : ObjId) → (object_in n a ≡ object_in n b → ⊥) → same_value (object_in n a)
    (object_in n b) ≡ false
apart-by n a b h = by (same_value (object_in n a) (object_in n b)) refl
  where
    by : (p : Bool) → same_value (object_in n a) (object_in n b) ≡ p → same_value (object_in n a) (object_in n b)
        ≡ false
    by true e = absurd (h (value-equal (object_in n a) (object_in n b) e))
    by false e = e

module _ (home : Side) (d : Data) (prototype : ObjId) where
  pub Sure-same : (a : ObjId) (step : Move) → a ≡ prototype → Sure home d (truth true finished) step
      → (f : ℕ) (l : Written) → Step home true (Ok step) d d f f l l
      (chain_got home.0 (object_in (names_of d) prototype) (object_in (names_of d) a) finished)
  Sure-same a step e s f l =
      Step-by home true (Ok step) d d f f l l (chain_got home.0 (object_in (names_of d) prototype)
      (object_in (names_of d) a) finished) (truth true finished)
      (λ log. ap (λ b. let r : Does Answer = if b then truth true
      else (if is_null (object_in (names_of d) a) then truth false
      else again (Chain home.0 (object_in (names_of d) a) (object_in (names_of d) prototype))) in r finished
      (Image d log))
      (ap (λ x. same_value (object_in (names_of d) x) (object_in (names_of d) prototype)) e ∙ value-same
      (object_in (names_of d) prototype)))
      (Step-sure home true d (truth true finished) step f l s)

  pub Sure-null : (step : Move) → Sure home d (truth false finished) step → (f : ℕ) (l : Written)
      → Step home true (Ok step) d d f f l l (chain_got home.0 (object_in (names_of d) prototype) Null finished)
  Sure-null step s f l =
      Step-by home true (Ok step) d d f f l l (chain_got home.0 (object_in (names_of d) prototype) Null finished)
      (truth false finished)
      (λ log. ap (λ b. let r : Does Answer = if b then truth true else truth false in r finished (Image d log))
      (null-apart (names_of d) prototype))
      (Step-sure home true d (truth false finished) step f l s)

  pub Step-onward : (a : ObjId) → (object_in (names_of d) a ≡ object_in (names_of d) prototype → ⊥) → ObjIn d a
      → ObjIn d prototype
      → (f : ℕ) (l : Written) → Step home true (Ok (move.Anew (t.Chain a prototype))) d d f f l l
      (chain_got home.0 (object_in (names_of d) prototype) (object_in (names_of d) a) finished)
  Step-onward a h o q f l =
      let y : Val = object_in (names_of d) a in
      let z : Val = object_in (names_of d) prototype in
      Step-by home true (Ok (move.Anew (t.Chain a prototype))) d d f f l l (chain_got home.0 z y finished)
      (again (Chain home.0 y z) finished)
      (λ log. ap (λ b. let r : Does Answer = if b then truth true else (if is_null y then truth false else again
      (Chain home.0 y z)) in r finished (Image d log))
      (apart-by (names_of d) a prototype h)
      ∙ ap (λ b. let r : Does Answer = if b then truth false else again (Chain home.0 y z) in r finished
      (Image d log)) (no-null (names_of d) a))
      (Step-again home d (t.Chain a prototype) f l (o, (q, tt)))

-- ---- `in`

module _ (home : Side) (d d' : Data) (f : ℕ) (t' : TextsGrew d d') (a : Value) (object : ObjId) where
  pub Part-has : (key : Key) (task : Task) → key_of (Resolve (names_of d) a) ≡ Some (key_in (names_of d') key)
      → ObjIn d object → KeyIn d' key → task ≡ t.Perform (m.HasProperty key) object home true
      → Part home (Ok (move.Wait (x.Expr e.Has) task)) d d' f f
      (operate home.0 In (Resolve (names_of d) a) (object_in (names_of d) object) finished)
  Part-has key task known o i j =
      let s = home.0 in
      let y = Resolve (names_of d) a in
      let z = object_in (names_of d) object in
      let h = key_in (names_of d') key in
      let ask : Task = t.Perform (m.HasProperty key) object home true in
      let q = (flag (perform s (HasProperty h) (object_in (names_of d') object)) >>= truth) finished in
      rw j (Part-passed home (Ok (move.Wait (x.Expr e.Has) ask)) d d' d' f f f (operate s In y z finished) q
      (Passes-texts d d' f (operate s In y z finished) q t'
      (λ log. ap (λ b. let r : Does Answer = if b then has_row s y z else type_error s in r finished (Image d log))
      (object-is (names_of d) object)
      ∙ ap (λ u. (or_type_error s u >>= (λ w. flag (perform s (HasProperty w) z) >>= truth)) finished (Image d log))
      known
      ∙ ap (λ w. (flag (perform s (HasProperty h) w) >>= truth) finished (Image d log))
      (sym (t'.becomes.grows.same_object object o))))
      (Part-sure home d' f q (move.Wait (x.Expr e.Has) ask)
      (Sure-wait home d' (x.Expr e.Has) ask q _ (λ log. refl) tt (λ r g. refl) (
        ObjIn-grows d d' t'.becomes.grows
            object o,
        (i, tt),
      ))))

  pub Part-has-none : (r : Result Move Halt) (d2 : Data) → key_of (Resolve (names_of d) a) ≡ None
      → Part home r d' d2 f f (type_error home.0 finished)
      → Part home r d d2 f f (operate home.0 In (Resolve (names_of d) a) (object_in (names_of d) object) finished)
  Part-has-none r d2 known g =
      let s = home.0 in
      let y = Resolve (names_of d) a in
      let z = object_in (names_of d) object in
      Part-passed home r d d' d2 f f f (operate s In y z finished) (type_error s finished)
      (Passes-texts d d' f (operate s In y z finished) (type_error s finished) t'
      (λ log. ap (λ b. let r : Does Answer = if b then has_row s y z else type_error s in r finished (Image d log))
      (object-is (names_of d) object)
      ∙ ap (λ u. (or_type_error s u >>= (λ w. flag (perform s (HasProperty w) z) >>= truth)) finished (Image d log))
      known))
      g

pub null-is : (y : Value) → IsNullOrObject y → ((o : ObjId) → y ≡ v.Object o → ⊥) → y ≡ v.Null
null-is v.Undefined h known = absurd h
null-is v.Null h known = refl
null-is (v.Bool b) h known = absurd h
null-is (v.Whole z) h known = absurd h
null-is (v.Text t) h known = absurd h
null-is (v.Symbol s) h known = absurd h
null-is (v.Object o) h known = absurd (known o refl)

-- ---- `instanceof`

pub Part-instance : (home : Side) (d d' : Data) (f : ℕ) → TextsGrew d d' → (object function : ObjId) (text : StrId)
    (key : Key)
    (task : Task) → text_in (names_of d') text ≡ codes "prototype" → TextIn d' text
    → key ≡ k.Text text (index_of (text_at d'.texts text)) → ObjIn d object → ObjIn d function
    → task ≡ t.Perform (m.Get key (v.Object function)) function home true
    → Part home (Ok (move.Wait (x.Expr (e.InstancePrototype object)) task)) d d' f f
    (instance_object home.0 (object_in (names_of d) object) (object_in (names_of d) function) finished)
Part-instance home d d' f t' object function text key task w i h o u j =
    let s = home.0 in
    let n' = names_of d' in
    let y = object_in (names_of d) object in
    let z = object_in (names_of d) function in
    let c : Key = k.Text text (index_of (text_at d'.texts text)) in
    let ask : Task = t.Perform (m.Get c (v.Object function)) function home true in
    let p = instance_object s y z finished in
    let q = (get s (object_in n' function) (Named (text_in n' text)) >>= instance_prototype s (object_in n' object))
    finished in
    let g = t'.becomes.grows in
    rw (j, h) (Part-passed home (Ok (move.Wait (x.Expr (e.InstancePrototype object)) ask)) d d' d' f f f p q
    (Passes-texts d d' f p q t'
    (λ log. ap (λ a. (get s z (Named a) >>= instance_prototype s y) finished (Image d log)) (sym w)
    ∙ ap (λ a. (get s a (Named (text_in n' text)) >>= instance_prototype s y) finished (Image d log))
    (sym (g.same_object function u))
    ∙ ap (λ a. (get s (object_in n' function) (Named (text_in n' text)) >>= instance_prototype s a) finished
    (Image d log)) (sym (g.same_object object o))))
    (Part-sure home d' f q (move.Wait (x.Expr (e.InstancePrototype object)) ask)
    (Sure-wait home d' (x.Expr (e.InstancePrototype object)) ask q _ (λ log. refl) tt (λ r b. refl)
    (ObjIn-grows d d' g object o, (ObjIn-grows d d' g function u, ((i, refl), (ObjIn-grows d d' g function u, tt)))))))
