-- The walk of setPrototypeOf: what a visit finds, and how the row goes on.
use Rattle.std.proofs.Common.{◌≡◌, ◌∙◌, ◌∷◌, Bool, List, None, Option, Some, [], ap, arith, false, refl, slice_get}
use Rattle.std.proofs.Common.{subst, suc, sym, true, true≢false, zero, ℕ}
use Rattle.std.proofs.lemmas.List.Elements.{All-cons, All-contains, All-nil}
use Rattle.std.specs.Prelude.{All, IsSomeAnd, if◌then◌else◌}
use Rattle.mb_base.specs.declared.value.ObjId.{ObjId}
use Rattle.mb_base.specs.declared.value.Side.{Side}
use Rattle.mb_base.specs.declared.value.Value.{Value}
use Rattle.mb_base.specs.declared.value.Value.TheVariants as v
use Rattle.mb_call.proofs.Things.{Behind, cell-thing, no-membrane}
use Rattle.mb_call.specs.machine.Walks.{visit_row}
use Rattle.mb_desc.specs.Values.{equal}
use Rattle.mb_frames.proofs.Apartness.{value-real, values-apart}
use Rattle.mb_frames.proofs.Changing.{there}
use Rattle.mb_frames.proofs.HeldAs.{stands-as}
use Rattle.mb_frames.proofs.HeldCells.{cell-held, reads-home}
use Rattle.mb_frames.proofs.HeldLess.{prototype-value}
use Rattle.mb_frames.proofs.Renewing.{counted-kind}
use Rattle.mb_frames.proofs.Standard.{is-fixed}
use Rattle.mb_frames.specs.Held.{HeldObject, HeldPrototype, HeldValue}
use Rattle.mb_frames.specs.Ready.{IsReady, MayHold, is_built_in}
use Rattle.mb_frames.specs.Real.{IsReal}
use Rattle.mb_frames.specs.Wholeness.{MayWalk}
use Rattle.mb_model.specs.Engine.{Turn}
use Rattle.mb_model.specs.Meaning.{finished}
use Rattle.mb_model.specs.Objects.Methods.{owner_of, prototype_set, walk_at, walk_ends, walk_from, walk_row}
use Rattle.mb_model.specs.Task as task
use Rattle.mb_model.specs.Writing.{again, yes_or_no}
use Rattle.mb_ordinary.specs.Objects.{IsOrdinary}
use Rattle.mb_ordinary.specs.Walks.{TellsProto, TellsReal, answered, cell_owner, proto_of, real, visit_by, visit_of}
use Rattle.mb_ordinary.specs.Walks.{visited_as}
use Rattle.mb_ordinary.specs.declared.answers.Visit.TheVariants.{Ends, Meets, Onward}
use Rattle.mb_world.proofs.AfterCalls.{object-is, rank}
use Rattle.mb_world.specs.Data.{Data, cell_at, is_counted, is_object_cell, kind_stand, next_if}
use Rattle.mb_world.specs.Formed.{IsNullOrObject, is_of_membrane}
use Rattle.mb_world.specs.Graph.{Graph, Item, Thing}
use Rattle.mb_world.specs.Image.{Image, Names, Resolve, names_of, object_in, object_of, owner_by}
use Rattle.mb_world.specs.Objects.{thing_at}
use Rattle.mb_world.specs.Ordinary.{walk_stops}
use Rattle.mb_world.specs.Value.{BuiltIn, Object, Val, same_value}
use Rattle.mb_world.specs.declared.cell.Cell.{Cell}
use Rattle.mb_world.specs.declared.cell.CellKind.{CellKind}
use Rattle.mb_world.specs.declared.cell.CellKind.TheVariants as kind

-- ---- a visit that is so

pub meets-by : (m s : Bool) (x : Value) → visit_by m s x ≡ Meets → m ≡ true
meets-by true s x e = refl
meets-by false true x e = cc
meets-by false false x e = cc

pub ends-by : (m s : Bool) (x : Value) → visit_by m s x ≡ Ends → (m ≡ false) × (s ≡ true)
ends-by true s x e = cc
ends-by false true x e = (refl, refl)
ends-by false false x e = cc

pub onward-by : (m s : Bool) (x y : Value) → visit_by m s x ≡ Onward y → (m ≡ false) × (s ≡ false) × (x ≡ y)
onward-by true s x y e = cc
onward-by false true x y e = cc
onward-by false false x y e = (refl, refl, cc)

module _ (o p x : Val) (t : Thing) (last : Bool) (g : Graph) where
  pub from-met : same_value x o ≡ true → walk_from o p x t last finished g ≡ yes_or_no false finished g
  from-met e = rw e refl

  pub from-ended : same_value x o ≡ false → last ≡ true
      → walk_from o p x t last finished g ≡ prototype_set o p finished g
  from-ended e f = rw (e, f) refl

  pub from-onward : same_value x o ≡ false → last ≡ false
      → walk_from o p x t last finished g ≡ again (task.Walk o p t.prototype) finished g
  from-onward e f = rw (e, f) refl

-- ---- numbers

at-least : (b : Bool) (n m : ℕ) → next_if b n ≡ next_if b m → n ≡ m
at-least true n m e = omega (arith, e)
at-least false n m e = e

rank-apart : (cells : List Cell) (i j : ℕ) (c e : Cell) → slice_get cells i ≡ Some c → slice_get cells j ≡ Some e
    → is_object_cell c ≡ true → is_object_cell e ≡ true → rank cells i ≡ rank cells j → i ≡ j
rank-apart [] i j c e p q h k s = cc
rank-apart (x ∷ xs) zero zero c e p q h k s = refl
rank-apart (x ∷ xs) zero (suc j) c e p q h k s =
    let w : x ≡ c = cc in
    let z : is_object_cell x ≡ true = ap is_object_cell w ∙ h in
    absurd (omega (arith, rw z at s))
rank-apart (x ∷ xs) (suc i) zero c e p q h k s =
    let w : x ≡ e = cc in
    let z : is_object_cell x ≡ true = ap is_object_cell w ∙ k in
    absurd (omega (arith, rw z at s))
rank-apart (x ∷ xs) (suc i) (suc j) c e p q h k s =
    ap suc (rank-apart xs i j c e p q h k (at-least (is_object_cell x) (rank xs i) (rank xs j) s))

-- ---- the walk's object, and the one that is visited

pub behind-thing : (d : Data) (r : IsReady d) (x : ObjId) (q : Behind d x) (log : List Item)
    → thing_at (Image d log) (object_in (names_of d) x) ≡ Some (object_of (names_of d) q.cell)
behind-thing d r x q log = ap (thing_at (Image d log)) q.same ∙ cell-thing d r (real d x) q.cell q.there q.no_part log

-- the object of the walk is no Proxy
pub walk-ordinary : (d : Data) (o : ObjId) → IsSomeAnd (cell_at d o) MayWalk → IsOrdinary (cell_at d o)
walk-ordinary d o h = by (cell_at d o) h
  where
    by : (x : Option Cell) → IsSomeAnd x MayWalk → IsOrdinary x
    by None h = absurd h
    by (Some c) h = h.0

-- the walk begins where the object is extensible
pub may-walk : (d : Data) (o : ObjId) (p : Value) → IsOrdinary (cell_at d o) → answered p (cell_at d o) ≡ None
    → IsSomeAnd (cell_at d o) MayWalk
may-walk d o p h e = by (cell_at d o) h e
  where
    open-by : (b x : Bool) → (if b then Some true else if x then None else Some false) ≡ None → x ≡ true
    open-by true x e = cc
    open-by false true e = refl
    open-by false false e = cc

    by : (x : Option Cell) → IsOrdinary x → answered p x ≡ None → IsSomeAnd x MayWalk
    by None h e = absurd h
    by (Some c) h e = (h, open-by (equal p c.proto) c.extensible e)

-- the prototype that is given and that of the object are told apart
pub proto-told : (d : Data) (r : IsReady d) (home : Side) (o : ObjId) (p : Value) → MayHold d home (HeldObject o)
    → MayHold d home (HeldPrototype p) → TellsProto d o p
proto-told d r home o p h k = λ i j a b e.
    let P : Value → Type 0 = λ x. MayHold d home (HeldValue x) in
    let all : All P (p ∷ proto_of (cell_at d o)) =
    All-cons P p (proto_of (cell_at d o)) (prototype-value d home p k) its in
    values-apart d r home (v.Object i) (v.Object j) (All-contains P (p ∷ proto_of (cell_at d o)) (v.Object i) all a)
    (All-contains P (p ∷ proto_of (cell_at d o)) (v.Object j) all b) i j refl refl e
  where
    its : All (λ x. MayHold d home (HeldValue x)) (proto_of (cell_at d o))
    its =
        let c = there d o h.within in
        rw c.1 (All-cons (λ x. MayHold d home (HeldValue x)) c.0.proto []
        (prototype-value d home c.0.proto (cell-held d r o c.0 c.1 home (reads-home d home o c.0 h c.1)).prototype)
        (All-nil (λ x. MayHold d home (HeldValue x))))

-- the next object is there, and a charge is taken
pub row-turns : (d : Data) (r : IsReady d) (o : ObjId) (given : Value) (x : ObjId) (q : Behind d x) (log : List Item)
    → walk_row (object_in (names_of d) o) (Resolve (names_of d) given) (object_in (names_of d) x) finished (Image d log)
    ≡ Turn (Image d log) (visit_row (names_of d) o given x (object_of (names_of d) q.cell) (Image d log))
row-turns d r o given x q log =
    ap (λ y. walk_at (object_in (names_of d) o) (Resolve (names_of d) given) (object_in (names_of d) x) y finished
    (Image d log))
    (behind-thing d r x q log)

module _ (d : Data) (r : IsReady d) (home : Side) (o : ObjId) (h : MayHold d home (HeldObject o)) (c : Cell)
    (there : cell_at d o ≡ Some c) (w : MayWalk c) where
  abbrev n : Names
  n = names_of d

  -- it is extensible, and so no built-in
  pub walk-no-built-in : is_built_in c.kind ≡ false
  walk-no-built-in = by c.kind refl
    where
      by : (y : CellKind) → c.kind ≡ y → is_built_in c.kind ≡ false
      by (kind.BuiltIn place) k = absurd (true≢false (sym w.1 ∙ is-fixed d r o c place there k))
      by y k = rw k refl

  pub walk-no-part : is_of_membrane c.kind ≡ false
  walk-no-part = no-membrane d r home o h c there w.0

  pub walk-counted : is_object_cell c ≡ true
  walk-counted = ap is_counted (counted-kind c.kind walk-no-part walk-no-built-in)

  module _ (x : ObjId) (q : Behind d x) where
    abbrev above : Thing
    above = object_of n q.cell

    abbrev meets : Bool
    meets = same_value (object_in n x) (object_in n o)

    abbrev stops : Bool
    stops = walk_stops d.revoked (cell_owner (cell_at d o)) above

    -- it is another object where it stands for another
    pub real-told : TellsReal d o x
    real-told = λ e. by e q.cell.kind refl
      where
        by : object_in n (real d x) ≡ object_in n o → (y : CellKind) → q.cell.kind ≡ y → real d x ≡ o
        by e (kind.BuiltIn place) k =
            let z : BuiltIn place ≡ Object (rank d.cells o.0)
            = sym (stands-as d (real d x) q.cell q.there place (ap kind_stand k)) ∙ e
            ∙ object-is d o c there walk-counted in
            cc
        by e y k =
            let i : is_object_cell q.cell ≡ true = ap is_counted (counted-kind q.cell.kind q.no_part (rw k refl)) in
            let z : Object (rank d.cells (real d x).0) ≡ Object (rank d.cells o.0)
            = sym (object-is d (real d x) q.cell q.there i) ∙ e ∙ object-is d o c there walk-counted in
            ap (λ (k : ℕ). let id : ObjId = record { 0 = k } in id)
            (rank-apart d.cells (real d x).0 o.0 q.cell c q.there there i walk-counted cc)

    visited-is : visited_as d o x ≡ visit_by meets stops q.cell.proto
    visited-is =
        ap (visit_of (same_value (object_in n (real d x)) (object_in n o)) d o) q.there
        ∙ ap (λ y. visit_by (same_value y (object_in n o)) stops q.cell.proto) (sym q.same)

    -- its prototype is no shadow
    pub above-real : IsReal d q.cell.proto
    above-real = value-real d r q.cell.home q.cell.proto
        (prototype-value d q.cell.home q.cell.proto
        (cell-held d r (real d x) q.cell q.there q.cell.home (λ u. refl)).prototype)

    module _ (given : Value) (t : Thing) (e : (log : List Item) → thing_at (Image d log) (object_in n x) ≡ Some t) where
      thing-is : t ≡ above
      thing-is =
          let z : Some t ≡ Some above
          = sym (e []) ∙ behind-thing d r x q [] in
          cc

      ends-is : (log : List Item) → walk_ends (Image d log) (object_in n o) t ≡ stops
      ends-is log =
          ap (λ (y : Option Thing). walk_stops d.revoked (owner_of y) t) (cell-thing d r o c there walk-no-part log)
          ∙ ap (λ (y : Thing). walk_stops d.revoked (owner_by c.kind c.home) y) thing-is
          ∙ ap (λ (y : Option Cell). walk_stops d.revoked (cell_owner y) above) (sym there)

      pub row-met : visited_as d o x ≡ Meets → (log : List Item)
          → visit_row n o given x t (Image d log) ≡ yes_or_no false finished (Image d log)
      row-met v log =
          from-met (object_in n o) (Resolve n given) (object_in n x) t _ (Image d log)
          (meets-by meets stops q.cell.proto (sym visited-is ∙ v))

      pub row-ended : visited_as d o x ≡ Ends → (log : List Item)
          → visit_row n o given x t (Image d log) ≡ prototype_set (object_in n o) (Resolve n given) finished
          (Image d log)
      row-ended v log =
          let b = ends-by meets stops q.cell.proto (sym visited-is ∙ v) in
          from-ended (object_in n o) (Resolve n given) (object_in n x) t _ (Image d log) b.0 (ends-is log ∙ b.1)

      pub row-onward : (next : Value) → visited_as d o x ≡ Onward next → (log : List Item)
          → visit_row n o given x t (Image d log)
          ≡ again (task.Walk (object_in n o) (Resolve n given) (Resolve n next)) finished (Image d log)
      row-onward next v log =
          let b = onward-by meets stops q.cell.proto next (sym visited-is ∙ v) in
          from-onward (object_in n o) (Resolve n given) (object_in n x) t _ (Image d log) b.0 (ends-is log ∙ b.1)
          ∙ ap (λ (y : Thing). again (task.Walk (object_in n o) (Resolve n given) y.prototype) finished
          (Image d log)) thing-is
          ∙ ap (λ (y : Value). again (task.Walk (object_in n o) (Resolve n given) (Resolve n y)) finished
          (Image d log)) b.2

    pub next-real : (next : Value) → visited_as d o x ≡ Onward next → IsReal d next
    next-real next v =
        subst (IsReal d) (onward-by meets stops q.cell.proto next (sym visited-is ∙ v)).2 above-real

    pub next-null : (next : Value) → visited_as d o x ≡ Onward next → IsNullOrObject next
    next-null next v =
        subst IsNullOrObject (onward-by meets stops q.cell.proto next (sym visited-is ∙ v)).2
        (cell-held d r (real d x) q.cell q.there q.cell.home (λ u. refl)).prototype.sound

-- the next object of the walk is none
pub no-thing : (d : Data) (x : Value) → ((o : ObjId) → x ≡ v.Object o → ⊥) → (log : List Item)
    → thing_at (Image d log) (Resolve (names_of d) x) ≡ None
no-thing d v.Undefined h log = refl
no-thing d v.Null h log = refl
no-thing d (v.Bool b) h log = refl
no-thing d (v.Whole z) h log = refl
no-thing d (v.Text t) h log = refl
no-thing d (v.Symbol s) h log = refl
no-thing d (v.Object o) h log = absurd (h o refl)
