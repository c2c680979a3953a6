-- join (ECMA-262 23.1.3.18): texts of elements, one behind the other.
use Rattle.std.proofs.Common.{◌+◌, ◌++◌, ◌/◌, ◌<◌, ◌≤◌, ◌∙◌, ◌≡◌, ◌∷◌, Bool, Err, List, None, Ok, Option, Result, Some}
use Rattle.std.proofs.Common.{[], ap, arith, false, length, nat_lt, refl, suc, sym, true, ℕ}
use Rattle.std.proofs.lemmas.Bool.Decides.{nat_tests}
use Rattle.std.specs.Prelude.{if◌then◌else◌}
use Rattle.mb_arrayapi.proofs.MemberRows.{Part-gets, gets-kept}
use Rattle.mb_arrayapi.proofs.Acting.{Part-same, Part-texted, Part-value}
use Rattle.mb_arrayapi.specs.machine.Joining.{Extends, element_text, separator_text}
use Rattle.mb_base.specs.declared.value.Key.{Key}
use Rattle.mb_base.specs.declared.value.ObjId.{ObjId}
use Rattle.mb_base.specs.declared.value.Side.{Side}
use Rattle.mb_base.specs.declared.value.StrId.{StrId}
use Rattle.mb_base.specs.declared.value.Value.TheVariants as v
use Rattle.mb_frames.proofs.Passed.{Part-by, Part-passed, Part-unpaid, Passes-paid}
use Rattle.mb_frames.specs.Held.{HeldObject}
use Rattle.mb_frames.specs.Passing.{Part, TextsGrew}
use Rattle.mb_frames.specs.Ready.{IsReady, KeepsBy, MayHold}
use Rattle.mb_frames.specs.Sorts.{AValue}
use Rattle.mb_frames.specs.Stepping.{charged_by}
use Rattle.mb_frames.specs.declared.arrays.ArrayFrame.{ArrayFrame}
use Rattle.mb_frames.specs.declared.arrays.ArrayFrame.TheVariants as y
use Rattle.mb_frames.specs.declared.frame.Frame.TheVariants as x
use Rattle.mb_frames.specs.declared.frame.Move.{Move}
use Rattle.mb_frames.specs.declared.frame.Move.TheVariants as move
use Rattle.mb_frames.specs.declared.machine.Halt.{Halt}
use Rattle.mb_frames.specs.declared.machine.Halt.TheVariants.{Spent as SpentHalt}
use Rattle.mb_frames.specs.declared.task.Answer.TheVariants as a
use Rattle.mb_frames.specs.declared.task.Method.TheVariants as m
use Rattle.mb_frames.specs.declared.task.Outcome.TheVariants as outcome
use Rattle.mb_frames.specs.declared.task.Task.TheVariants as task
use Rattle.mb_model.specs.BuiltIns.ArrayMembers.{join_add, join_each, join_got, join_text, separator, separator_at}
use Rattle.mb_model.specs.Meaning.{finished}
use Rattle.mb_model.specs.Operations.Calls.{get}
use Rattle.mb_model.specs.Operations.Conversions.{text_by, text_limit}
use Rattle.mb_model.specs.Task.{Answer}
use Rattle.mb_model.specs.Writing.{◌>>=◌, Does, Row, give, is_value, or_type_error, range_error, type_error}
use Rattle.mb_world.specs.Arrays.{index_key}
use Rattle.mb_world.specs.Data.{Data}
use Rattle.mb_world.specs.Graph.{Graph}
use Rattle.mb_world.specs.Ids.{KeyIn, TextIn}
use Rattle.mb_world.specs.Image.{Image, Names, key_in, names_of, object_in, text_in}
use Rattle.mb_world.specs.Value.{Text, Val, is_nullish, is_undefined, to_text}

-- ---- texts

module _ (s : ℕ) (x : Val) where
  either : (b : Bool) (u t : List ℕ) → (let o : Option (List ℕ) = if b then Some u else to_text x in o) ≡ Some t
      → (let p : Does (List ℕ) = if b then give u else text_by s x in p) ≡ give t
  either true u t e = (let q : u ≡ t = cc in ap give q)
  either false u t e = ap (or_type_error s) e

  neither : (b : Bool) (u : List ℕ) → (let o : Option (List ℕ) = if b then Some u else to_text x in o) ≡ None
      → (let p : Does (List ℕ) = if b then give u else text_by s x in p) ≡ type_error s
  neither true u e = cc
  neither false u e = ap (or_type_error s) e

  pub separator-is : (t : List ℕ) → separator_text x ≡ Some t → separator s x ≡ give t
  separator-is t e = either (is_undefined x) (44 ∷ []) t e

  pub separator-none : separator_text x ≡ None → separator s x ≡ type_error s
  separator-none e = neither (is_undefined x) (44 ∷ []) e

  pub element-is : (t : List ℕ) → element_text x ≡ Some t → join_text s x ≡ give t
  element-is t e = either (is_nullish x) [] t e

  pub element-none : element_text x ≡ None → join_text s x ≡ type_error s
  element-none e = neither (is_nullish x) [] e

module _ (s : ℕ) (before units : List ℕ) where
  abbrev adds : Bool → Does (List ℕ)
  adds b = if b then range_error s else give (before ++ units)

  pub add-is : (after : List ℕ) → Extends before units after true → join_add s before units ≡ give after
  add-is after h =
      let e : nat_lt text_limit (length before + length units) ≡ false
      = (let l : length before + length units ≤ text_limit = h.1 in grind (arith, nat_tests)) in
      ap adds e ∙ ap give (sym h.0)

  pub add-long : (after : List ℕ) → Extends before units after false → join_add s before units ≡ range_error s
  add-long after h =
      let e : nat_lt text_limit (length before + length units) ≡ true
      = (let l : text_limit < length before + length units = h in grind (arith, nat_tests)) in
      ap adds e

-- ---- an element is got

module _ (home : Side) (d : Data) (r : IsReady d) (object : ObjId) (b : MayHold d home (HeldObject object))
    (separated so_far : List ℕ) (k left : ℕ) where
  abbrev n : Names
  n = names_of d

  abbrev o : Val
  o = object_in n object

  -- behind the separator the element comes
  abbrev adding : Does (List ℕ) → Graph → Row
  adding q =
      (q >>= (λ u. get home.0 o (index_key k)
      >>= (λ w. join_got home.0 u w >>= join_each home.0 o separated left (k + 1)))) finished

  abbrev whole : Graph → Row
  whole = join_each home.0 o separated (suc left) k so_far finished

  whole-is : (g : Graph) → whole g ≡ charged_by 1 (adding (join_add home.0 so_far (separator_at k separated))) g
  whole-is g = refl

  pub Part-unpaid-join : (f all : ℕ) → all ≡ suc left → f < 1
      → Part home (Err SpentHalt) d d f f (join_each home.0 o separated all k so_far finished)
  Part-unpaid-join f all i e =
      rw i (Part-unpaid home d 1 f (adding (join_add home.0 so_far (separator_at k separated))) e)

  pub Part-long : (q : Result Move Halt) (d2 : Data) (f f' all : ℕ) → all ≡ suc left → (after : List ℕ)
      → Extends so_far (separator_at k separated) after false → f' + 1 ≡ f
      → Part home q d d2 f' f' (range_error home.0 finished)
      → Part home q d d2 f f' (join_each home.0 o separated all k so_far finished)
  Part-long q d2 f f' all i after l u h =
      let p : Graph → Row = adding (join_add home.0 so_far (separator_at k separated)) in
      rw i (Part-passed home q d d d2 f f' f' whole p (Passes-paid d 1 f f' p u)
      (Part-by home q d d2 f' f' p (range_error home.0 finished)
      (λ log. ap (λ (z : Does (List ℕ)). adding z (Image d log))
      (add-long home.0 so_far (separator_at k separated) after l)) h))

  module _ (d' : Data) (t : TextsGrew d d') (key : Key) (i : KeyIn d' key)
      (e : key_in (names_of d') key ≡ index_key k) (after : List ℕ)
      (l : Extends so_far (separator_at k separated) after true) where
    abbrev frame : ArrayFrame
    frame = y.JoinGot object k left separated after

    pub Part-joins : (f f' all : ℕ) → all ≡ suc left → f' + 1 ≡ f
        → Part home (Ok (move.Wait (x.Array frame) (task.Perform (m.Get key (v.Object object)) object home true)))
        d d' f f'
        (join_each home.0 o separated all k so_far finished)
    Part-joins f f' all q u =
        let go : Move = move.Wait (x.Array frame) (task.Perform (m.Get key (v.Object object)) object home true) in
        let p : Graph → Row = adding (join_add home.0 so_far (separator_at k separated)) in
        let z : Graph → Row = adding (give after) in
        rw q (Part-passed home (Ok go) d d d' f f' f' whole p (Passes-paid d 1 f f' p u)
        (Part-by home (Ok go) d d' f' f' p z
        (λ log. ap (λ (w : Does (List ℕ)). adding w (Image d log))
        (add-is home.0 so_far (separator_at k separated) after l))
        (Part-gets home d d' t r frame (b, tt) key i object b (index_key k) e f'
        (λ w. join_got home.0 after w >>= join_each home.0 o separated left (k + 1)) refl)))

    pub joins-kept : KeepsBy home AValue
        (Ok (move.Wait (x.Array frame) (task.Perform (m.Get key (v.Object object)) object home true))) d d'
    joins-kept = gets-kept home d d' t r frame (b, tt) key i object b (index_key k) e AValue refl refl

-- ---- the whole text is given

module _ (home : Side) (d : Data) (o : Val) (separated so_far : List ℕ) (k : ℕ) where
  pub Part-whole : (d' : Data) (t : TextsGrew d d') (id : StrId) → TextIn d' id → text_in (names_of d') id ≡ so_far
      → (f f' : ℕ) → f' + length so_far / 64 ≡ f
      → Part home (Ok (move.Done (outcome.Normal (a.Value (v.Text id))))) d d' f f'
      (join_each home.0 o separated 0 k so_far finished)
  Part-whole d' t id i e f f' u =
      let go : Move = move.Done (outcome.Normal (a.Value (v.Text id))) in
      Part-passed home (Ok go) d d d' f f' f' (join_each home.0 o separated 0 k so_far finished)
      (is_value (Text so_far) finished) (Passes-paid d (length so_far / 64) f f' (is_value (Text so_far) finished) u)
      (Part-texted home (Ok go) d d' d' f' f' (is_value (Text so_far)) (is_value (Text so_far)) t refl
      (Part-value home d' f' (is_value (Text so_far)) (v.Text id) i (ap (λ (w : List ℕ). is_value (Text w)) (sym e))))

-- ---- an element was got

module _ (home : Side) (q : Result Move Halt) (d d2 : Data) (f f' : ℕ) (so_far : List ℕ) (x : Val)
    (p : List ℕ → Does Answer) where
  abbrev got : Does (List ℕ) → Does Answer
  got z = z >>= join_add home.0 so_far >>= p

  pub Part-no-text : element_text x ≡ None → Part home q d d2 f f' (type_error home.0 finished)
      → Part home q d d2 f f' ((join_got home.0 so_far x >>= p) finished)
  Part-no-text e h =
      Part-same home q d d2 f f' (join_got home.0 so_far x >>= p) (type_error home.0)
      (ap got (element-none home.0 x e)) h

  module _ (units : List ℕ) (e : element_text x ≡ Some units) (after : List ℕ) where
    abbrev added : Does (List ℕ) → Does Answer
    added z = z >>= p

    pub Part-too-long : Extends so_far units after false → Part home q d d2 f f' (range_error home.0 finished)
        → Part home q d d2 f f' ((join_got home.0 so_far x >>= p) finished)
    Part-too-long l h =
        Part-same home q d d2 f f' (join_got home.0 so_far x >>= p) (range_error home.0)
        (ap got (element-is home.0 x units e) ∙ ap added (add-long home.0 so_far units after l)) h

    pub Part-added : Extends so_far units after true → Part home q d d2 f f' (p after finished)
        → Part home q d d2 f f' ((join_got home.0 so_far x >>= p) finished)
    Part-added l h =
        Part-same home q d d2 f f' (join_got home.0 so_far x >>= p) (p after)
        (ap got (element-is home.0 x units e) ∙ ap added (add-is home.0 so_far units after l)) h
