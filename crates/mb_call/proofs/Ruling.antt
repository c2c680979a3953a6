-- What the policy says of a method, and what the row of a method then does.
use Rattle.std.proofs.Common.{◌≡◌, ◌∙◌, Bool, Option, Some, ap, false, not, refl, true, ℕ}
use Rattle.mb_base.specs.declared.value.ObjId.{ObjId}
use Rattle.mb_base.specs.declared.value.Side.{Side}
use Rattle.mb_base.specs.declared.value.Value.{Value}
use Rattle.mb_call.proofs.Owners.{owner-is}
use Rattle.mb_call.specs.machine.Acting.{method_side}
use Rattle.mb_call.specs.machine.Methods.{AsksChange, change_of, changes_in}
use Rattle.mb_frames.proofs.Apartness.{values-apart}
use Rattle.mb_frames.proofs.Changing.{there}
use Rattle.mb_frames.proofs.HeldCells.{cell-held, reads-home}
use Rattle.mb_frames.proofs.HeldLess.{prototype-value}
use Rattle.mb_frames.specs.Held.{HeldObject, HeldPrototype}
use Rattle.mb_frames.specs.Holding.{method_held}
use Rattle.mb_frames.specs.Ready.{Holds, IsReady, MayHold}
use Rattle.mb_frames.specs.Resolved.{method_in}
use Rattle.mb_frames.specs.Sorts.{AFlag, method_gives}
use Rattle.mb_frames.specs.declared.task.Method.{Method}
use Rattle.mb_frames.specs.declared.task.Method.TheVariants as m
use Rattle.mb_model.specs.Meaning.{finished, perform_kind, perform_row, perform_thing}
use Rattle.mb_model.specs.Objects.Methods as model
use Rattle.mb_model.specs.Objects.Methods.{method, ordinary, ruled, ruling}
use Rattle.mb_model.specs.Task as task
use Rattle.mb_model.specs.Writing.{type_error, unless_type_error, yes_or_no}
use Rattle.mb_ordinary.specs.Objects.{is_ordinary}
use Rattle.mb_rules.specs.Seen.{TellsProto, ruling_in}
use Rattle.mb_rules.specs.declared.change.Ruling.TheVariants as ruling
use Rattle.mb_world.specs.Data.{Data, cell_at}
use Rattle.mb_world.specs.Graph.{Graph, Thing}
use Rattle.mb_world.specs.Image.{Names, kind_in, object_of}
use Rattle.mb_world.specs.Objects.{thing_at}
use Rattle.mb_world.specs.Value.{Val}
use Rattle.mb_world.specs.View.{Decided, Free, Ruling, is_cut}
use Rattle.mb_world.specs.declared.cell.Cell.{Cell}
use Rattle.mb_world.specs.declared.cell.CellKind.{CellKind}
use Rattle.mb_world.specs.declared.cell.CellKind.TheVariants as kind

-- ---- the change that a method asks

pub change-same : (n : Names) (y : Method) → changes_in n (change_of y) ≡ model.change_of (method_in n y)
change-same n m.GetPrototypeOf = refl
change-same n (m.SetPrototypeOf given) = refl
change-same n m.IsExtensible = refl
change-same n m.PreventExtensions = refl
change-same n (m.GetOwnProperty key) = refl
change-same n (m.DefineOwnProperty key given) = refl
change-same n (m.HasProperty key) = refl
change-same n (m.Get key receiver) = refl
change-same n (m.Set key value receiver) = refl
change-same n (m.Delete key) = refl
change-same n m.OwnPropertyKeys = refl
change-same n (m.Call this arguments) = refl
change-same n (m.Construct arguments target) = refl

-- a method that the policy may decide answers yes or no
pub decided-flag : (g : Graph) (viewer : ℕ) (t : Thing) (n : Names) (y : Method) (b : Bool)
    → ruling_in (ruling.Decided b) ≡ ruling g viewer t (changes_in n (change_of y)) → method_gives y ≡ AFlag
decided-flag g viewer t n m.GetPrototypeOf b e = cc
decided-flag g viewer t n (m.SetPrototypeOf given) b e = refl
decided-flag g viewer t n m.IsExtensible b e = refl
decided-flag g viewer t n m.PreventExtensions b e = refl
decided-flag g viewer t n (m.GetOwnProperty key) b e = cc
decided-flag g viewer t n (m.DefineOwnProperty key given) b e = refl
decided-flag g viewer t n (m.HasProperty key) b e = refl
decided-flag g viewer t n (m.Get key receiver) b e = cc
decided-flag g viewer t n (m.Set key value receiver) b e = refl
decided-flag g viewer t n (m.Delete key) b e = refl
decided-flag g viewer t n m.OwnPropertyKeys b e = cc
decided-flag g viewer t n (m.Call this arguments) b e = cc
decided-flag g viewer t n (m.Construct arguments target) b e = cc

module _ (d : Data) (r : IsReady d) (home : Side) (id : ObjId) (h : MayHold d home (HeldObject id)) where
  proto-apart : (p : Value) → (c : Cell) → cell_at d id ≡ Some c
      → MayHold d home (HeldPrototype p) → TellsProto d p (Some c)
  proto-apart p c e k =
      values-apart d r home p c.proto (prototype-value d home p k)
      (prototype-value d home c.proto (cell-held d r id c e home (reads-home d home id c h e)).prototype)

  tells-proto : (p : Value) → MayHold d home (HeldPrototype p) → TellsProto d p (cell_at d id)
  tells-proto p k = let c = there d id h.within in rw c.1 (proto-apart p c.0 c.1 k)

  pub asks-change : (y : Method) → Holds d home (method_held id y) → AsksChange d id (change_of y)
  asks-change (m.SetPrototypeOf given) k =
      record { there = h.within; within = k.0.within; apart = tells-proto given k.0 }
  asks-change m.PreventExtensions k = record { there = h.within; within = tt; apart = tt }
  asks-change (m.DefineOwnProperty key given) k = record { there = h.within; within = k.0.within; apart = tt }
  asks-change (m.Set key value receiver) k = record { there = h.within; within = k.0.within; apart = tt }
  asks-change (m.Delete key) k = record { there = h.within; within = k.0.within; apart = tt }
  asks-change y k = record { there = h.within; within = tt; apart = tt }

-- ---- the row

ordinary-row : (n : Names) (c : Cell) (s v : ℕ) (o : Val) (t : Thing) (y : task.Method) → (k : CellKind)
    → is_ordinary k ≡ true → perform_kind s v o t y (kind_in n c.slots k) ≡ method s v o t y
ordinary-row n c s v o t y kind.Plain h = refl
ordinary-row n c s v o t y kind.Array h = refl
ordinary-row n c s v o t y (kind.Function code) h = refl
ordinary-row n c s v o t y (kind.BuiltIn place) h = refl
ordinary-row n c s v o t y (kind.Fault fault) h = refl
ordinary-row n c s v o t y (kind.Proxy target handler shape) h = cc
ordinary-row n c s v o t y (kind.Revoker proxy) h = refl
ordinary-row n c s v o t y (kind.Membrane behind shadow) h = refl
ordinary-row n c s v o t y (kind.Shadow shape) h = refl
ordinary-row n c s v o t y (kind.Collection coll) h = refl

module _ (s v : ℕ) (o : Val) (y : task.Method) (g : Graph) (t : Thing) (e : thing_at g o ≡ Some t) where
  thing-row : perform_row s v o y finished g ≡ perform_thing s v o y (Some t) finished g
  thing-row = ap (λ (z : Option Thing). perform_thing s v o y z finished g) e

  pub cut-row : is_cut g v t ≡ true → perform_row s v o y finished g ≡ type_error s finished g
  cut-row h = thing-row
      ∙ ap (λ b. unless_type_error s (not b) (λ a. perform_kind s v o t y t.kind finished) g) h

  module _ (n : Names) (c : Cell) (is : t ≡ object_of n c) (k : is_ordinary c.kind ≡ true)
      (h : is_cut g v t ≡ false) where
    method-row : perform_row s v o y finished g ≡ method s v o t y finished g
    method-row = thing-row
        ∙ ap (λ b. unless_type_error s (not b) (λ a. perform_kind s v o t y t.kind finished) g) h
        ∙ ap (λ (z : Thing). perform_kind s v o t y z.kind finished g) is
        ∙ ap (λ z. z finished g) (ordinary-row n c s v o t y c.kind k)

    pub decided-row : (b : Bool) → ruling g v t (model.change_of y) ≡ Decided b
        → perform_row s v o y finished g ≡ yes_or_no b finished g
    decided-row b q = method-row ∙ ap (λ (z : Ruling). ruled s v o t y z finished g) q

    pub free-row : ruling g v t (model.change_of y) ≡ Free
        → perform_row s v o y finished g ≡ ordinary s v o t y finished g
    free-row q = method-row ∙ ap (λ (z : Ruling). ruled s v o t y z finished g) q

-- ---- who acts

-- in a world that isn't joined the side of the method is the home
pub method-side-same : (d : Data) (r : IsReady d) (home : Side) (id : ObjId) (y : Method)
    → MayHold d home (HeldObject id)
    → d.joined ≡ false → method_side home y (cell_at d id) ≡ home
method-side-same d r home id (m.Construct arguments target) h u =
    let c = there d id h.within in
    rw c.1 (owner-is d home id c.0 r c.1 (reads-home d home id c.0 h c.1) u)
method-side-same d r home id y h u = refl
