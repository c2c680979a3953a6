-- A machine stays contained, and a step of a home keeps what it is to keep.
use Rattle.mb_base.specs.declared.value.ObjId.{ObjId}
use Rattle.mb_base.specs.declared.value.Side.{Side}
use Rattle.mb_base.specs.declared.value.Value.{Value}
use Rattle.mb_base.specs.declared.value.Value.TheVariants as v
use Rattle.mb_desc.specs.declared.descriptor.Desc.{Desc}
use Rattle.mb_desc.specs.declared.descriptor.Full.{Full}
use Rattle.mb_desc.specs.declared.descriptor.Full.TheVariants.{Datum, Accessor}
use Rattle.mb_frames.proofs.Growing.{below-in}
use Rattle.mb_frames.proofs.Parts.{all-both, all-first, same-ends, same-lasts, same-starts}
use Rattle.mb_frames.specs.Held.{AreIn, DescIn, Held, HeldArray, HeldBegan, HeldCallable, HeldCollection, HeldConstructor, HeldDesc, HeldEntered, HeldFields, HeldFull, HeldFunction, HeldIn, HeldKey, HeldKeyIf, HeldKeys, HeldNode, HeldNodeIf, HeldObject, HeldPlace, HeldPlain, HeldPrototype, HeldReal, HeldScope, HeldSide, HeldSign, HeldText, HeldTextIf, HeldValue, HeldValues, HeldVisited}
use Rattle.mb_frames.specs.Holding.{MachineIn, StackIn, done_held, frame_held, move_held, task_held}
use Rattle.mb_frames.specs.Standing.{Across, Here, Logged, Passage, above, done_by, home_of, left_by, move_of, row_of, under_way}
use Rattle.mb_frames.specs.Stepping.{MayPass, Stepped, Written}
use Rattle.mb_frames.specs.Wholeness.{AreAtHome, AreOwn, IsOwnBy, Kept, KeptWorld, KeepsKind, MachineContained, StandsAt, StaysOwn, StepsKept, desc_values, home_above, in_held}
use Rattle.mb_frames.specs.declared.frame.Move.{Move}
use Rattle.mb_frames.specs.declared.frame.Move.TheVariants as move
use Rattle.mb_frames.specs.declared.machine.Machine.{Machine}
use Rattle.mb_frames.specs.declared.machine.Waiting.{Waiting}
use Rattle.mb_model.specs.Writing.{Row}
use Rattle.mb_world.specs.Contained.{Contained, IsOwn, in_full, in_option, in_value, is_shadow}
use Rattle.mb_world.specs.Data.{Data, cell_at}
use Rattle.mb_world.specs.Formed.{option_values}
use Rattle.mb_world.specs.Graph.{Item}
use Rattle.mb_world.specs.Ids.{FullIn, Maybe, ObjIn, ValueIn}
use Rattle.mb_world.specs.Image.{Image}
use Rattle.mb_world.specs.declared.cell.Cell.{Cell}
use Rattle.mb_world.specs.declared.cell.CellKind.{CellKind}
use Rattle.mb_world.specs.declared.cell.CellKind.TheVariants as kind
use Rattle.std.proofs.Common.{Bool, List, None, Ok, Option, Some, [], ap, arith, false, get_or, inl, inr, length, refl, slice_get, subst, subst₂, sym, ℕ, ◌++◌, ◌<◌, ◌∙◌, ◌∷◌, ◌≡◌, ◌≤◌, ◌⊎◌}
use Rattle.std.proofs.lemmas.Option.{slice_get_cases}
use Rattle.std.proofs.lemmas.List.Elements.{All-append, All-cons, All-head, All-nil, All-tail}
use Rattle.std.specs.List.{AllByRecursion, flat_map}
use Rattle.std.specs.Prelude.{All, slice_index_or}

-- ---- the objects that stand in something are of the world

module _ (d : Data) where
  pub of-value : (y : Value) → ValueIn d y → All (ObjIn d) (in_value y)
  of-value v.Undefined h = All-nil (ObjIn d)
  of-value v.Null h = All-nil (ObjIn d)
  of-value (v.Bool b) h = All-nil (ObjIn d)
  of-value (v.Whole z) h = All-nil (ObjIn d)
  of-value (v.Text t) h = All-nil (ObjIn d)
  of-value (v.Symbol t) h = All-nil (ObjIn d)
  of-value (v.Object o) h = All-cons (ObjIn d) o [] h (All-nil (ObjIn d))

  of-values : (ys : List Value) → All (ValueIn d) ys → All (ObjIn d) (flat_map in_value ys)
  of-values [] h = All-nil (ObjIn d)
  of-values (y ∷ ys) h =
      All-append (ObjIn d) (in_value y) (flat_map in_value ys) (of-value y (All-head (ValueIn d) y ys h))
      (of-values ys (All-tail (ValueIn d) y ys h))

  of-option : (y : Option Value) → Maybe (ValueIn d) y → All (ValueIn d) (option_values y)
  of-option None h = All-nil (ValueIn d)
  of-option (Some y) h = All-cons (ValueIn d) y [] h (All-nil (ValueIn d))

  of-desc : (y : Desc Value) → DescIn d y → All (ObjIn d) (flat_map in_value (desc_values y))
  of-desc y h = of-values (desc_values y)
      (All-append (ValueIn d) (option_values y.value ++ option_values y.get) (option_values y.set)
      (All-append (ValueIn d) (option_values y.value) (option_values y.get) (of-option y.value h.value_in)
      (of-option y.get h.get_in)) (of-option y.set h.set_in))

  pub of-full : (y : Full Value) → FullIn d y → All (ObjIn d) (in_full y)
  of-full (Datum x w e c) h = of-value x h
  of-full (Accessor g s e c) h = All-append (ObjIn d) (in_value g) (in_value s) (of-value g h.0) (of-value s h.1)

  of-real : (y : Option (Full Value)) → Maybe (FullIn d) y → All (ObjIn d) (in_option in_full y)
  of-real None h = All-nil (ObjIn d)
  of-real (Some y) h = of-full y h

  pub of-id : (o : ObjId) → ObjIn d o → All (ObjIn d) (o ∷ [])
  of-id o h = All-cons (ObjIn d) o [] h (All-nil (ObjIn d))

  pub of-held : (y : Held) → HeldIn d y → All (ObjIn d) (in_held y)
  of-held (HeldValue y) h = of-value y h
  of-held (HeldValues ys) h = of-values ys h
  of-held (HeldCallable y) h = of-value y h
  of-held (HeldConstructor y) h = of-value y h
  of-held (HeldPrototype y) h = of-value y h
  of-held (HeldVisited y) h = All-nil (ObjIn d)
  of-held (HeldObject id) h = of-id id h
  of-held (HeldFunction id) h = of-id id h
  of-held (HeldCollection id) h = of-id id h
  of-held (HeldArray id) h = of-id id h
  of-held (HeldPlain id) h = of-id id h
  of-held (HeldKey key) h = All-nil (ObjIn d)
  of-held (HeldKeys keys) h = All-nil (ObjIn d)
  of-held (HeldKeyIf key) h = All-nil (ObjIn d)
  of-held (HeldText text) h = All-nil (ObjIn d)
  of-held (HeldTextIf text) h = All-nil (ObjIn d)
  of-held (HeldScope scope) h = All-nil (ObjIn d)
  of-held (HeldNode test node) h = All-nil (ObjIn d)
  of-held (HeldNodeIf id) h = All-nil (ObjIn d)
  of-held (HeldSign sign) h = All-nil (ObjIn d)
  of-held (HeldDesc y) h = of-desc y h
  of-held (HeldFields y) h = of-desc y h
  of-held (HeldFull full) h = of-full full h
  of-held (HeldReal full) h = of-real full h
  of-held (HeldPlace place) h = All-nil (ObjIn d)
  of-held (HeldBegan began) h = All-nil (ObjIn d)
  of-held (HeldEntered id) h = of-id id h
  of-held (HeldSide side) h = All-nil (ObjIn d)

-- ---- what a home owned it still owns

module _ (d d' : Data) (s : StaysOwn d d') (home : Side) where
  pub ids-own : (os : List ObjId) → All (ObjIn d) os → All (IsOwn d home) os → All (IsOwn d' home) os
  ids-own os h k = λ n o i. s home (slice_index_or os n o) (h n o i) (k n o i)

  are-own : (ys : List Held) → AreIn d ys → AreOwn d home ys → AreOwn d' home ys
  are-own [] h k = tt
  are-own (y ∷ ys) h k = (ids-own (in_held y) (of-held d y h.0) k.0, are-own ys h.1 k.1)

stack-own : (d d' : Data) → StaysOwn d d' → (ys : List Waiting) → StackIn d ys
    → AllByRecursion (λ (y : Waiting). AreOwn d y.home (frame_held y.frame)) ys
    → AllByRecursion (λ (y : Waiting). AreOwn d' y.home (frame_held y.frame)) ys
stack-own d d' s [] h k = tt
stack-own d d' s (y ∷ ys) h k = (are-own d d' s y.home (frame_held y.frame) h.0 k.0, stack-own d d' s ys h.1 k.1)

-- ---- what a passage leaves

first-own : (d : Data) (home : Side) (a b : List Held) → AreOwn d home (a ++ b) → AreOwn d home a
first-own d home a b h = all-first (λ (p : Held). All (IsOwn d home) (in_held p)) a b h

second-own : (d : Data) (home : Side) (a b : List Held) → AreOwn d home (a ++ b) → AreOwn d home b
second-own d home [] b h = h
second-own d home (y ∷ ys) b h = second-own d home ys b h.1

above-own : (d : Data) (home : Side) (m : Move) → AreOwn d home (move_held m)
    → AllByRecursion (λ (y : Waiting). AreOwn d y.home (frame_held y.frame)) (above home m)
above-own d home (move.Done y) h = tt
above-own d home (move.Wait y t) h =
    (first-own d home (frame_held y) (task_held t) h, (second-own d home (frame_held y) (task_held t) h, tt))
above-own d home (move.Next t) h = (h, tt)
above-own d home (move.Anew t) h = (h, tt)
above-own d home (move.Entered y t) h =
    (first-own d home (frame_held y) (task_held t) h, (second-own d home (frame_held y) (task_held t) h, tt))

left-own : (d : Data) (m : Passage) → IsOwnBy d m
    → AllByRecursion (λ (y : Waiting). AreOwn d y.home (frame_held y.frame)) (left_by m)
left-own d (Here home m) h = above-own d home m h
left-own d (Across y home m) h = (h.0, above-own d home m h.1)

outcome-own : (d : Data) (home : Side) (m : Move) → AreOwn d home (move_held m) → AreOwn d home (done_held (done_by m))
outcome-own d home (move.Done y) h = h
outcome-own d home (move.Wait y t) h = tt
outcome-own d home (move.Next t) h = tt
outcome-own d home (move.Anew t) h = tt
outcome-own d home (move.Entered y t) h = tt

done-own : (d : Data) (m : Passage) → IsOwnBy d m → AreOwn d (home_of m) (done_held (done_by (move_of m)))
done-own d (Here home m) h = outcome-own d home m h
done-own d (Across y home m) h = outcome-own d home m h.1

-- ---- homes

home-above : (home : Side) (m : Move) → home_above (above home m) home ≡ home
home-above home (move.Done o) = refl
home-above home (move.Wait y t) = refl
home-above home (move.Next t) = refl
home-above home (move.Anew t) = refl
home-above home (move.Entered y t) = refl

left-home : (side : Side) (m : Passage) → StandsAt side m → home_above (left_by m) (home_of m) ≡ side
left-home side (Here home m) h = home-above home m ∙ h
left-home side (Across y home m) h = h

above-home : (home : Side) (m : Move) → AreAtHome (above home m) home
above-home home (move.Done o) = tt
above-home home (move.Wait y t) = (inl refl, (inl refl, tt))
above-home home (move.Next t) = (inl refl, tt)
above-home home (move.Anew t) = (inl refl, tt)
above-home home (move.Entered y t) = (inl refl, (inl refl, tt))

left-at-home : (begun : Bool) (p : Row) (m : Passage) → MayPass begun p m → AreAtHome (left_by m) (home_of m)
left-at-home begun p (Here home m) h = above-home home m
left-at-home begun p (Across y home m) h = (inr h.0, above-home home m)

same-home : (ys a b : List Waiting) (now later : Side) → home_above a now ≡ home_above b later
    → home_above (ys ++ a) now ≡ home_above (ys ++ b) later
same-home [] a b now later e = e
same-home (y ∷ ys) a b now later e = refl

at-home-on : (ys a b : List Waiting) (now later : Side) → home_above a now ≡ home_above b later
    → AreAtHome (ys ++ a) now → AreAtHome b later → AreAtHome (ys ++ b) later
at-home-on [] a b now later e h k = k
at-home-on (y ∷ ys) a b now later e h k = (
  elim h.0 [ inl r ↦ inl (r ∙ same-home ys a b now later e) | inr r ↦ inr r ],
  at-home-on ys a b now later e h.1 k,
)

-- ---- machines

pub contained-after : (m m' : Machine) (d d' : Data) (f f' : ℕ) (l l' : Written) (q : Stepped m m' d d' f f' l l')
    (log : List Item) → Logged d log → MachineIn d m → MachineContained d m → Contained d' → StaysOwn d d'
    → StandsAt q.top.home q.passage → IsOwnBy d' q.passage → MachineContained d' m'
contained-after m m' d d' f f' l l' q log e i h c s t o =
    let a : AllByRecursion (λ (y : Waiting). AreOwn d y.home (frame_held y.frame)) q.below
    = all-first (λ (y : Waiting). AreOwn d y.home (frame_held y.frame)) q.below (q.top ∷ []) (rw (← q.was) h.frames) in
    let b : AreAtHome (q.below ++ (q.top ∷ [])) m.now = rw (← q.was) h.homes in
    record {
      world = c;
      frames = rw q.is (all-both (λ (y : Waiting). AreOwn d' y.home (frame_held y.frame)) q.below (left_by q.passage)
          (stack-own d d' s q.below (below-in m m' d d' f f' l l' q i) a) (left-own d' q.passage o));
      done = rw (q.now, q.done) (done-own d' q.passage o);
      homes = rw (q.is, q.now) (at-home-on q.below (q.top ∷ []) (left_by q.passage) m.now (home_of q.passage)
          (sym (left-home q.top.home q.passage t)) b
          (left-at-home (under_way q.top.frame) (row_of d q.top m.done (Image d log)) q.passage (q.step.may log e)));
    }

-- ---- what is kept

pub no-shadow : (k later : CellKind) → KeepsKind k later → is_shadow k ≡ false → is_shadow later ≡ false
no-shadow kind.Plain later h s = rw h refl
no-shadow kind.Array later h s = rw h refl
no-shadow (kind.Function code) later h s = rw h refl
no-shadow (kind.BuiltIn place) later h s = rw h refl
no-shadow (kind.Fault e) later h s = rw h refl
no-shadow (kind.Proxy None handler shape) later h s = rw h refl
no-shadow (kind.Proxy (Some target) handler shape) later h s = elim h [ inl r ↦ rw r refl | inr r ↦ rw r refl ]
no-shadow (kind.Revoker proxy) later h s = rw h refl
no-shadow (kind.Membrane behind shadow) later h s = rw h refl
no-shadow (kind.Shadow shape) later h s = rw h s
no-shadow (kind.Collection coll) later h s = rw h refl

pub kept-own : (home : Side) (d d' : Data) → KeptWorld home d d' → StaysOwn d d'
kept-own home d d' k side o i h = by (slice_get_cases d.cells o.0).1
  where
    there : (c : Cell) → cell_at d o ≡ Some c → IsOwn d' side o
    there c e =
        let r = k.cells o c e in
        let own : (c.home ≡ side) × (is_shadow c.kind ≡ false) = rw e at h in
        rw r.1 (r.2.home ∙ own.0, no-shadow c.kind r.0.kind r.2.kind own.1)

    by : ((c : Cell) × (o.0 < length d.cells) × (slice_get d.cells o.0 ≡ Some c) × (get_or d.cells o.0 c ≡ c))
        ⊎ ((length d.cells ≤ o.0) × (slice_get d.cells o.0 ≡ None)) → IsOwn d' side o
    by (inl p) = there p.0 p.2
    by (inr p) = absurd (omega (arith, p.0, i))

above-are : (home : Side) (m : Move) → AllByRecursion (λ (y : Waiting). y.home ≡ home) (above home m)
above-are home (move.Done o) = tt
above-are home (move.Wait y t) = (refl, (refl, tt))
above-are home (move.Next t) = (refl, tt)
above-are home (move.Anew t) = (refl, tt)
above-are home (move.Entered y t) = (refl, (refl, tt))

pub kept-after : (m m' : Machine) (d d' : Data) (f f' : ℕ) (l l' : Written) (q : Stepped m m' d d' f f' l l')
    (log : List Item) → Logged d log → MachineIn d m → MachineContained d m → KeptWorld q.top.home d d'
    → (y : Move) → q.passage ≡ Here q.top.home y → AreOwn d' q.top.home (move_held y)
    → Kept q.top.home q.below d d' m'
kept-after m m' d d' f f' l l' q log e i h k y p o = record {
  world = k;
  machine = contained-after m m' d d' f f' l l' q log e i h k.contained (kept-own q.top.home d d' k) (rw p refl)
      (rw p o);
  now = q.now ∙ ap home_of p;
  pushed = λ frames r.
      let a : left_by q.passage ≡ frames = same-ends q.below (left_by q.passage) frames (sym q.is ∙ r) in
      subst (λ (ys : List Waiting). AllByRecursion (λ (z : Waiting). z.home ≡ q.top.home) ys) (ap left_by (sym p) ∙ a)
      (above-are q.top.home y);
}

pub steps-kept : (m m' : Machine) (d d' : Data) (f f' : ℕ) (l l' : Written) (q : Stepped m m' d d' f f' l l')
    (log : List Item) → Logged d log → MachineIn d m → MachineContained d m → KeptWorld q.top.home d d'
    → (y : Move) → q.passage ≡ Here q.top.home y → AreOwn d' q.top.home (move_held y)
    → StepsKept (Ok tt) m m' d d'
steps-kept m m' d d' f f' l l' q log e i h k y p o = λ joined below top was.
    let r : q.below ++ (q.top ∷ []) ≡ below ++ (top ∷ []) = sym q.was ∙ was in
    subst₂ (λ (side : Side) (ys : List Waiting). Kept side ys d d' m')
    (ap (λ (z : Waiting). z.home) (same-lasts q.below below q.top top r))
    (same-starts q.below below q.top top r) (kept-after m m' d d' f f' l l' q log e i h k y p o)
