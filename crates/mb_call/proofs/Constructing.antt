-- Constructions: the new target's `prototype` is got, and the object is made with what was got.
use Rattle.std.proofs.Common.{◌<◌, ◌≡◌, ◌∙◌, List, Ok, Option, ap, arith, length, refl, sym, true, true≢false, ℕ}
use Rattle.std.specs.Prelude.{codes}
use Rattle.std.proofs.lemmas.List.Elements.{All-nil}
use Rattle.std.proofs.lemmas.Option.{slice_get_within}
use Rattle.mb_base.specs.declared.value.Key.{Key}
use Rattle.mb_base.specs.declared.value.ObjId.{ObjId}
use Rattle.mb_base.specs.declared.value.Side.{Side}
use Rattle.mb_base.specs.declared.value.StrId.{StrId}
use Rattle.mb_base.specs.declared.value.Value.{Value}
use Rattle.mb_base.specs.declared.value.Value.TheVariants as v
use Rattle.mb_frames.proofs.Calling.{construct-enters}
use Rattle.mb_frames.proofs.Going.{Makes-passes}
use Rattle.mb_frames.proofs.Growing.{are-grown, held-grows}
use Rattle.mb_frames.proofs.HeldAs.{made-held}
use Rattle.mb_frames.proofs.HeldLess.{key-held, object-value}
use Rattle.mb_frames.proofs.Keeping.{keeps-left}
use Rattle.mb_frames.proofs.Leaving.{held-stays, holds-in, holds-still}
use Rattle.mb_frames.proofs.Made.{IsLast, last-went, made-last}
use Rattle.mb_frames.proofs.Passed.{Part-by, Part-passed, Part-sure, Passes-texts}
use Rattle.mb_frames.proofs.Renewing.{made-changed}
use Rattle.mb_frames.proofs.Steps.{Sure-wait}
use Rattle.mb_frames.specs.Held.{AreIn, HeldObject, HeldPrototype}
use Rattle.mb_frames.specs.Holding.{call_held}
use Rattle.mb_frames.specs.Passing.{Part, TextsGrew}
use Rattle.mb_frames.specs.Ready.{Changed, Holds, IsMade, IsReady, KeepsBy, MayHold}
use Rattle.mb_frames.specs.Resolved.{label_in, values_in}
use Rattle.mb_frames.specs.Sorts.{AnObject}
use Rattle.mb_frames.specs.Wholeness.{IsConstructor}
use Rattle.mb_frames.specs.declared.calls.CallFrame.TheVariants as y
use Rattle.mb_frames.specs.declared.frame.Frame.TheVariants as x
use Rattle.mb_frames.specs.declared.frame.Move.{Move}
use Rattle.mb_frames.specs.declared.frame.Move.TheVariants as move
use Rattle.mb_frames.specs.declared.task.Method.TheVariants as m
use Rattle.mb_frames.specs.declared.task.Task.TheVariants as t
use Rattle.mb_model.specs.BuiltIns.Arguments.{prototype_or}
use Rattle.mb_model.specs.Meaning.{finished}
use Rattle.mb_model.specs.Objects.Methods.{construct_with, constructed}
use Rattle.mb_model.specs.Operations.Calls.{get}
use Rattle.mb_model.specs.Task.{Enter}
use Rattle.mb_model.specs.Writing.{◌>>=◌, Does, Row, make, value}
use Rattle.mb_world.proofs.Images.{map-same, option-same, value-grows}
use Rattle.mb_world.specs.Contained.{IsOwn}
use Rattle.mb_world.specs.Data.{Data, made}
use Rattle.mb_world.specs.Formed.{InRange}
use Rattle.mb_world.specs.Graph.{Graph, Plain}
use Rattle.mb_world.specs.Grows.{Grows}
use Rattle.mb_world.specs.Ids.{KeyIn, ObjIn, TextIn, ValueIn}
use Rattle.mb_world.specs.Image.{Image, Names, Resolve, key_in, names_of, object_in, text_in}
use Rattle.mb_world.specs.Key.{Named, PropertyKey}
use Rattle.mb_world.specs.Objects.{new_thing}
use Rattle.mb_world.specs.Standard.{object_prototype}
use Rattle.mb_world.specs.Value.{Val}
use Rattle.mb_world.specs.declared.cell.CellKind.TheVariants as kind

-- only an object constructs
pub constructor-is : (d : Data) (x : Value) → IsConstructor d x → ((o : ObjId) → x ≡ v.Object o → ⊥) → ⊥
constructor-is d v.Undefined h k = true≢false (sym h)
constructor-is d v.Null h k = true≢false (sym h)
constructor-is d (v.Bool b) h k = true≢false (sym h)
constructor-is d (v.Whole z) h k = true≢false (sym h)
constructor-is d (v.Text u) h k = true≢false (sym h)
constructor-is d (v.Symbol s) h k = true≢false (sym h)
constructor-is d (v.Object o) h k = k o refl

-- what stands in a construction stands for the same as the world grows
module _ (d d' : Data) (g : Grows d d') (function : ObjId) (label : Option StrId) (arguments : List Value)
    (i : AreIn d (call_held (y.ConstructPrototype function label arguments))) where
  pub function-same : object_in (names_of d') function ≡ object_in (names_of d) function
  function-same = g.same_object function i.0

  pub label-same : label_in (names_of d') label ≡ label_in (names_of d) label
  label-same = option-same (text_in (names_of d')) (text_in (names_of d)) (TextIn d) g.same_text label i.1.0

  pub arguments-same : values_in (names_of d') arguments ≡ values_in (names_of d) arguments
  arguments-same =
      map-same (Resolve (names_of d')) (Resolve (names_of d)) (ValueIn d) (value-grows d d' g) arguments i.1.1.0

-- ---- the new target's `prototype` is got

abbrev pub getting : ℕ → Val → PropertyKey → Val → Option (List ℕ) → List Val → Graph → Row
getting s target k o label vs = (get s target k >>= construct_with s o label vs) finished

module _ (home : Side) (d d' : Data) (f : ℕ) (g : TextsGrew d d') (function asked : ObjId) (label : Option StrId)
    (arguments : List Value) (key : Key) where
  abbrev waits : Move
  waits = move.Wait (x.Call (y.ConstructPrototype function label arguments))
      (t.Perform (m.Get key (v.Object asked)) asked home true)

  module _ (i : AreIn d (call_held (y.ConstructPrototype function label arguments))) (o : ObjIn d asked)
      (k : KeyIn d' key) where
    later : AreIn d' (call_held (y.ConstructPrototype function label arguments))
    later = are-grown d d' g.becomes.grows (call_held (y.ConstructPrototype function label arguments)) i

    asked-there : ObjIn d' asked
    asked-there = held-grows d d' g.becomes.grows (HeldObject asked) o

    pub Part-getting : key_in (names_of d') key ≡ Named (codes "prototype") → Part home (Ok waits) d d' f f
        (getting home.0 (object_in (names_of d) asked) (Named (codes "prototype")) (object_in (names_of d) function)
        (label_in (names_of d) label) (values_in (names_of d) arguments))
    Part-getting e =
        let s : ℕ = home.0 in
        let n : Names = names_of d in
        let n' : Names = names_of d' in
        let z : Grows d d' = g.becomes.grows in
        let p : Graph → Row = getting s (object_in n asked) (Named (codes "prototype")) (object_in n function)
        (label_in n label) (values_in n arguments) in
        let q : Graph → Row = getting s (object_in n' asked) (key_in n' key) (object_in n' function)
        (label_in n' label) (values_in n' arguments) in
        Part-passed home (Ok waits) d d' d' f f f p q
        (Passes-texts d d' f p q g
        (λ log.
        ap (λ (u : PropertyKey). getting s (object_in n asked) u (object_in n function) (label_in n label)
        (values_in n arguments) (Image d log)) (sym e)
        ∙ ap (λ (u : Val). getting s u (key_in n' key) (object_in n function) (label_in n label) (values_in n arguments)
        (Image d log)) (sym (z.same_object asked o))
        ∙ ap (λ (u : Val). getting s (object_in n' asked) (key_in n' key) u (label_in n label) (values_in n arguments)
        (Image d log)) (sym (function-same d d' z function label arguments i))
        ∙ ap (λ (u : Option (List ℕ)). getting s (object_in n' asked) (key_in n' key) (object_in n' function) u
        (values_in n arguments) (Image d log)) (sym (label-same d d' z function label arguments i))
        ∙ ap (λ (u : List Val). getting s (object_in n' asked) (key_in n' key) (object_in n' function)
        (label_in n' label)
        u (Image d log)) (sym (arguments-same d d' z function label arguments i))))
        (Part-sure home d' f q waits
        (Sure-wait home d' (x.Call (y.ConstructPrototype function label arguments))
        (t.Perform (m.Get key (v.Object asked)) asked home true) q _ (λ log. refl) tt (λ r b. refl)
        (later.0, (later.1.0, (later.1.1.0, (later.1.1.1.0, (asked-there, (k, (asked-there, tt)))))))))

    pub keeps-getting : IsReady d → Changed home d d'
        → Holds d home (call_held (y.ConstructPrototype function label arguments)) → MayHold d home (HeldObject asked)
        → KeepsBy home AnObject (Ok waits) d d'
    keeps-getting r c h a =
        let w : Holds d' home (call_held (y.ConstructPrototype function label arguments))
        = holds-still home d d' r c (call_held (y.ConstructPrototype function label arguments)) h in
        let b : MayHold d' home (HeldObject asked) = held-stays home d d' r c (HeldObject asked) a in
        keeps-left home AnObject waits d d' c
        (record {
          holds = (
            w.0,
            (
              w.1.0,
              (w.1.1.0, (w.1.1.1.0, (b, (key-held d' home key k, (object-value d' home asked b, tt))))),
            ),
          );
          fit = (tt, tt);
          gives = (refl, refl);
        })

-- ---- the object is made

module _ (home : Side) (d d' : Data) (f : ℕ) (function : ObjId) (label : Option StrId) (arguments : List Value)
    (proto got : Value) (id : ObjId) (r : IsReady d) (inside : home.0 < d.sides)
    (h : Holds d home (call_held (y.ConstructPrototype function label arguments)))
    (p : MayHold d home (HeldPrototype proto)) (e : d' ≡ made d home kind.Plain proto label)
    (number : id.0 ≡ length d.cells) where
  plain-labelled : IsMade d home kind.Plain proto label
  plain-labelled = record {
    counted = refl;
    kind_in = tt;
    proto_in = p.within;
    label_in = h.1.0.within;
    prototype = p.sound;
    wholes = All-nil InRange;
    kind = tt;
    unlabelled = λ k. cc;
    kind_own = λ u. All-nil (IsOwn d home);
    proto_own = p.own;
  }

  with-changed : Changed home d d'
  with-changed = rw e (made-changed home d kind.Plain proto label r inside plain-labelled)

  with-last : IsLast d d' id
      (new_thing home.0 (label_in (names_of d) label) Plain (Resolve (names_of d) proto))
  with-last =
      made-last d d' home kind.Plain proto label id r.ids refl refl e number (omega (arith, inside, r.formed.sides.1))
      tt
      p.within h.1.0.within

  abbrev enters : Move
  enters = move.Wait (x.Call (y.ConstructBody id)) (t.Enter function (v.Object id) arguments)

  abbrev entering : Val → List Val → Val → Graph → Row
  entering o vs new = (value (Enter o new vs) >>= constructed new) finished

  pub Part-constructs : Resolve (names_of d) proto ≡ prototype_or object_prototype (Resolve (names_of d) got)
      → Part home (Ok enters) d d' f f
      (construct_with home.0 (object_in (names_of d) function) (label_in (names_of d) label)
      (values_in (names_of d) arguments) (Resolve (names_of d) got) finished)
  Part-constructs w =
      let n : Names = names_of d in
      let n' : Names = names_of d' in
      let o : Val = object_in n function in
      let vs : List Val = values_in n arguments in
      let l : Option (List ℕ) = label_in n label in
      let new : Val = object_in n' id in
      let i : AreIn d (call_held (y.ConstructPrototype function label arguments))
      = holds-in d home (call_held (y.ConstructPrototype function label arguments)) h in
      let z : Grows d d' = with-last.grew.grows in
      let j : AreIn d' (call_held (y.ConstructPrototype function label arguments))
      = are-grown d d' z (call_held (y.ConstructPrototype function label arguments)) i in
      let there : ObjIn d' id = slice_get_within d'.cells id.0 with-last.cell with-last.there in
      let makes : Val → Does Val = λ u. make (new_thing home.0 l Plain u) in
      let p0 : Graph → Row = construct_with home.0 o l vs (Resolve n got) finished in
      let p1 : Graph → Row = (makes (Resolve n proto) >>= (λ u. value (Enter o u vs) >>= constructed u)) finished in
      let p2 : Graph → Row = entering o vs new in
      let p3 : Graph → Row = entering (object_in n' function) (values_in n' arguments) new in
      Part-by home (Ok enters) d d' f f p0 p1
      (λ log. ap (λ (u : Val). (makes u >>= (λ a. value (Enter o a vs) >>= constructed a)) finished (Image d log))
      (sym w))
      (Part-passed home (Ok enters) d d' d' f f f p1 p2
      (Makes-passes d d' f (makes (Resolve n proto)) id (λ u. entering o vs u)
      (last-went d d' id (new_thing home.0 l Plain (Resolve n proto)) with-last))
      (Part-by home (Ok enters) d' d' f f p2 p3
      (λ log.
      ap (λ (u : Val). entering u vs new (Image d' log)) (sym (function-same d d' z function label arguments i))
      ∙ ap (λ (us : List Val). entering (object_in n' function) us new (Image d' log))
      (sym (arguments-same d d' z function label arguments i)))
      (Part-sure home d' f p3 enters
      (Sure-wait home d' (x.Call (y.ConstructBody id)) (t.Enter function (v.Object id) arguments) p3 _ (λ log. refl) tt
      (λ q b. refl) (there, (j.1.1.1.0, (there, (j.1.1.0, (j.1.1.1.0, tt)))))))))

  pub keeps-constructs : KeepsBy home AnObject (Ok enters) d d'
  keeps-constructs =
      let w : Holds d' home (call_held (y.ConstructPrototype function label arguments))
      = holds-still home d d' r with-changed (call_held (y.ConstructPrototype function label arguments)) h in
      let made-object : MayHold (made d home kind.Plain proto label) home (HeldObject id)
      = (made-held d home kind.Plain proto label id refl number).object in
      let b : MayHold d' home (HeldObject id) = rw e made-object in
      keeps-left home AnObject enters d d' with-changed
      (construct-enters d' home id function (v.Object id) arguments
      (b, (object-value d' home id b, (w.1.1.0, (w.1.1.1.0, tt)))))
