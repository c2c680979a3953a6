-- A new error gets its message.
use Rattle.std.proofs.Common.{◌-◌, ◌<◌, ◌^◌, ◌≡◌, ◌≤◌, ◌∙◌, ◌∷◌, Bool, List, None, Ok, Option, Result, Some, [], ap}
use Rattle.std.proofs.Common.{arith, false, lit<, map, option_map, subst, sym, true, ℕ}
use Rattle.std.proofs.lemmas.List.Elements.{All-nil}
use Rattle.std.specs.Prelude.{All, codes}
use Rattle.mb_base.specs.declared.value.ObjId.{ObjId}
use Rattle.mb_base.specs.declared.value.Side.{Side}
use Rattle.mb_base.specs.declared.value.StrId.{StrId}
use Rattle.mb_base.specs.declared.value.Value.{Value}
use Rattle.mb_base.specs.declared.value.Value.TheVariants as v
use Rattle.mb_desc.specs.Descriptors.{descriptor_of, is_configurable}
use Rattle.mb_desc.specs.Validate.{Validate}
use Rattle.mb_desc.specs.declared.descriptor.Full.{Full}
use Rattle.mb_desc.specs.declared.descriptor.Full.TheVariants.{Datum}
use Rattle.mb_frames.proofs.Going.{WentOn-free, WentOn-passes}
use Rattle.mb_frames.proofs.HeldLess.{text-value-held, value-datum}
use Rattle.mb_frames.proofs.Keeping.{inside-still}
use Rattle.mb_frames.proofs.Leaving.{holds-still}
use Rattle.mb_frames.proofs.Passed.{Passes-texts}
use Rattle.mb_frames.proofs.Putting.{PutDone, put-done}
use Rattle.mb_frames.specs.Going.{WentOn}
use Rattle.mb_frames.specs.Held.{HeldFull, HeldObject}
use Rattle.mb_frames.specs.Keeping.{KeepsOn, none_held}
use Rattle.mb_frames.specs.Making.{IsOpen, Put}
use Rattle.mb_frames.specs.Passing.{TextsGrew}
use Rattle.mb_frames.specs.Ready.{Changed, IsReady, MayHold}
use Rattle.mb_frames.specs.Sorts.{AnObject, Sort, fits}
use Rattle.mb_frames.specs.declared.frame.Move.{Move}
use Rattle.mb_frames.specs.declared.machine.Halt.{Halt}
use Rattle.mb_model.specs.BuiltIns.ErrorsAndFunctions.{with_message}
use Rattle.mb_model.specs.Meaning.{finished}
use Rattle.mb_model.specs.Nodes.Literals.{define_on, prop_defined}
use Rattle.mb_model.specs.Objects.Methods.{settled}
use Rattle.mb_model.specs.Operations.Makings.{altered}
use Rattle.mb_model.specs.Task.{Answer, Flag, Value as ValueAnswer}
use Rattle.mb_model.specs.Writing.{◌>>=◌, Row, give, is_value, or_type_error, type_error}
use Rattle.mb_parts.proofs.Texting.{texts-changed}
use Rattle.mb_reflect.proofs.Doing.{Done, done-object, done-passed, given}
use Rattle.mb_reflect.specs.machine.Failing.{IsBare}
use Rattle.mb_text.proofs.Indices.{no_index_by_digits}
use Rattle.mb_text.specs.Index.{index_of}
use Rattle.mb_world.proofs.AfterCalls.{of-cell}
use Rattle.mb_world.specs.Data.{Data, cell_at}
use Rattle.mb_world.specs.Graph.{Graph, Item, Property, Thing}
use Rattle.mb_world.specs.Ids.{HasItsIds, TextIn}
use Rattle.mb_world.specs.Image.{Image, Resolve, names_of, object_in, property_in, text_in, thing_in}
use Rattle.mb_world.specs.Key.{Named}
use Rattle.mb_world.specs.Objects.{find_property, with_property, with_thing}
use Rattle.mb_world.specs.Ordinary.{Becomes, Defined, defined_as, ordinary_defined}
use Rattle.mb_world.specs.Value.{Text, Undefined, Val, same_value, to_text}

-- the message is no index
pub no-message : index_of (codes "message") ≡ 2 ^ 32 - 1
no-message =
    no_index_by_digits (codes "message") (λ h. let q = h 0 (lit< tt) in let z : 109 ≤ 57 = q.1 in omega arith)

abbrev pub message : StrId → Full Value
message text = Datum (v.Text text) true false true

abbrev pub message_in : List ℕ → Full Val
message_in t = Datum (Text t) true false true

-- ---- an error as it was made

module _ (d : Data) (home : Side) (id : ObjId) (b : IsBare d home id) where
  pub bare-open : IsOpen d home id
  bare-open = record {
    cell = b.cell;
    there = b.there;
    home_is = b.home_is;
    counted = b.counted;
    no_array = b.no_array;
    extensible = b.extensible;
    configurable = subst (All (λ p. is_configurable p.1 ≡ true)) (sym b.empty)
        (All-nil (λ p. is_configurable p.1 ≡ true));
  }

  abbrev t : Thing
  t = thing_in (names_of d) b.cell

  -- it takes a message
  accepts : (u : List ℕ) → ordinary_defined t (Named (codes "message")) (descriptor_of (message_in u))
      ≡ Becomes (with_property (Named (codes "message")) (message_in u) t) true
  unfolding Validate
  accepts u =
      ap (λ (ps : List Property). defined_as t (Named (codes "message"))
      (Validate same_value Undefined b.cell.extensible (find_property (Named (codes "message")) ps)
      (descriptor_of (message_in u))))
      (ap (map (property_in (names_of d))) b.empty)
      ∙ ap (λ (z : Bool). defined_as t (Named (codes "message"))
      (Validate same_value Undefined z None (descriptor_of (message_in u)))) b.extensible

  module _ (e : Data) (text : StrId) (i : HasItsIds d) (within : TextIn d text)
      (q : Put d e id (codes "message") (message text)) where
    abbrev o : Val
    o = object_in (names_of d) id

    abbrev f : Full Val
    f = message_in (text_in (names_of d) text)

    abbrev after : Thing
    after = with_property (Named (codes "message")) f t

    was-put : PutDone d e id b.cell (codes "message") (message text)
    was-put = put-done d e id b.cell (codes "message") (message text) i within no-message b.there b.counted q

    image-is : (log : List Item) → Image e log ≡ with_thing o after (Image d log)
    image-is log =
        was-put.image log
        ∙ ap (λ (m : Option Thing). altered o (with_property (Named (codes "message")) f) m (Image d log))
        (of-cell d id b.cell log b.there b.counted)

    pub message-went : (s : ℕ)
        → WentOn Answer d e 0 0 (prop_defined s o (Named (codes "message")) (descriptor_of f)) (Flag true)
    message-went s = record {
      units = 0;
      paid = omega arith;
      same = λ k log.
          ap (λ (m : Option Thing). define_on s o (Named (codes "message")) (descriptor_of f) m k (Image d log))
          (of-cell d id b.cell log b.there b.counted)
          ∙ ap (λ (z : Defined). settled s o z k (Image d log)) (accepts (text_in (names_of d) text))
          ∙ ap (λ (m : Option Thing). k (Flag true) (altered o (λ u. after) m (Image d log)))
          (of-cell d id b.cell log b.there b.counted)
          ∙ ap (k (Flag true)) (sym (image-is log));
      trace = was-put.trace;
      grew = was-put.grew;
    }

-- ---- the row

module _ (home : Side) (d d1 : Data) (t : TextsGrew d d1) (r : IsReady d) (inside : home.0 < d.sides) (id : ObjId)
    (o : MayHold d home (HeldObject id)) (b : IsBare d home id) (y : Value) (wanted : Sort) where
  later : Changed home d d1
  later = texts-changed home d d1 t r

  pub bare-later : IsBare d1 home id
  bare-later = record {
    cell = b.cell;
    there = ap (λ (e : Data). cell_at e id) t.texts ∙ b.there;
    home_is = b.home_is;
    counted = b.counted;
    no_array = b.no_array;
    extensible = b.extensible;
    empty = b.empty;
  }

  -- the message, once its text is known
  abbrev row : Val → Option (List ℕ) → Graph → Row
  row x m =
      (or_type_error home.0 m
      >>= (λ u. prop_defined home.0 x (Named (codes "message")) (descriptor_of (message_in u))
      >>= (λ a. give (ValueAnswer x)))) finished

  -- it has no text
  pub done-no-text : (result : Result Move Halt) (d2 : Data) (f : ℕ)
      → option_map (text_in (names_of d1)) None ≡ to_text (Resolve (names_of d) y)
      → Done home wanted result d1 d2 f f (type_error home.0 finished)
      → Done home wanted result d d2 f f
      (with_message home.0 (object_in (names_of d) id) (Resolve (names_of d) y) finished)
  done-no-text result d2 f e h =
      let x = object_in (names_of d) id in
      done-passed home wanted result d d1 d2 f f f (with_message home.0 x (Resolve (names_of d) y) finished)
      (type_error home.0 finished)
      (Passes-texts d d1 f (with_message home.0 x (Resolve (names_of d) y) finished) (type_error home.0 finished) t
      (λ log. ap (λ (m : Option (List ℕ)). row x m (Image d log)) (sym e)))
      later h

  module _ (d2 : Data) (text : StrId) (within : TextIn d1 text)
      (k : KeepsOn home (HeldFull (message text) ∷ []) none_held (Ok tt) d1 d2) where
    put-changed : Changed home d1 d2
    put-changed =
        (k later.ready (inside-still home d d1 later inside)
        (value-datum d1 home (v.Text text) true false true (text-value-held d1 home text within), tt)).changed

    -- it was put
    pub done-message : (f : ℕ) → Put d1 d2 id (codes "message") (message text)
        → option_map (text_in (names_of d1)) (Some text) ≡ to_text (Resolve (names_of d) y)
        → fits AnObject wanted ≡ true
        → Done home wanted (Ok (given (v.Object id))) d d2 f f
        (with_message home.0 (object_in (names_of d) id) (Resolve (names_of d) y) finished)
    done-message f q e g =
        let x = object_in (names_of d) id in
        let x1 = object_in (names_of d1) id in
        let u = text_in (names_of d1) text in
        let D = descriptor_of (message_in u) in
        let w = message-went d1 home id bare-later d2 text later.ready.ids within q home.0 in
        let rest : Answer → Graph → Row = λ a. is_value x1 finished in
        let still = holds-still home d1 d2 later.ready put-changed (HeldObject id ∷ [])
        (holds-still home d d1 r later (HeldObject id ∷ []) (o, tt)) in
        done-passed home wanted (Ok (given (v.Object id))) d d1 d2 f f f
        (with_message home.0 x (Resolve (names_of d) y) finished)
        (prop_defined home.0 x1 (Named (codes "message")) D rest)
        (Passes-texts d d1 f (with_message home.0 x (Resolve (names_of d) y) finished)
        (prop_defined home.0 x1 (Named (codes "message")) D rest) t
        (λ log. ap (λ (m : Option (List ℕ)). row x m (Image d log)) (sym e)
        ∙ ap (λ (z : Val). row z (Some u) (Image d log)) (sym (t.becomes.grows.same_object id o.within))))
        later
        (done-passed home wanted (Ok (given (v.Object id))) d1 d2 d2 f f f
        (prop_defined home.0 x1 (Named (codes "message")) D rest) (rest (Flag true))
        (WentOn-passes Answer d1 d2 f f (prop_defined home.0 x1 (Named (codes "message")) D) (Flag true) rest
        (WentOn-free Answer d1 d2 f (prop_defined home.0 x1 (Named (codes "message")) D) (Flag true) w))
        put-changed
        (done-object home d2 f put-changed.ready (rest (Flag true)) id wanted still.0 g
        (λ log. ap (λ (z : Val). is_value z finished (Image d2 log))
        (sym (w.grew.grows.same_object id (holds-still home d d1 r later (HeldObject id ∷ []) (o, tt)).0.within)))))
