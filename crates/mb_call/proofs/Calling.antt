-- Calls and constructions by the kind of what is called.
use Rattle.std.proofs.Common.{◌≡◌, ◌∙◌, List, None, ap, refl, sym, Ok, Option, Some, [], false, true, ◌∷◌, ℕ}
use Rattle.std.specs.Prelude.{codes, unwrap_or}
use Rattle.mb_base.specs.declared.value.ObjId.{ObjId}
use Rattle.mb_base.specs.declared.value.Side.{Side}
use Rattle.mb_base.specs.declared.value.Value.{Value}
use Rattle.mb_call.proofs.Looking.{part-sure}
use Rattle.mb_call.specs.Owners.{owner_by}
use Rattle.mb_frames.proofs.HeldAs.{held-as}
use Rattle.mb_frames.proofs.HeldCells.{reads-home}
use Rattle.mb_frames.proofs.HeldLess.{as-function}
use Rattle.mb_frames.proofs.Keeping.{keeps-same}
use Rattle.mb_frames.proofs.Steps.{Sure-next}
use Rattle.mb_frames.specs.Held.{HeldObject, HeldValue, HeldValues}
use Rattle.mb_frames.specs.Passing.{Part}
use Rattle.mb_frames.specs.Ready.{Holds, IsReady, KeepsBy}
use Rattle.mb_frames.specs.Resolved.{label_in, task_in, values_in}
use Rattle.mb_frames.specs.Sorts.{AValue}
use Rattle.mb_frames.specs.Wholeness.{IsFunctionAt}
use Rattle.mb_frames.specs.declared.frame.Move.TheVariants as move
use Rattle.mb_frames.specs.declared.task.Task.{Task}
use Rattle.mb_frames.specs.declared.task.Task.TheVariants as task
use Rattle.mb_model.specs.Meaning.{finished}
use Rattle.mb_model.specs.Objects.Methods.{call_kind, construct_kind, construct_with}
use Rattle.mb_model.specs.Operations.Calls.{get}
use Rattle.mb_model.specs.Writing.{◌>>=◌, answer, type_error}
use Rattle.mb_world.specs.Contained.{is_shadow}
use Rattle.mb_world.specs.Data.{Data, cell_at}
use Rattle.mb_world.specs.Graph.{Item, Kind, Thing}
use Rattle.mb_world.specs.Image.{Image, Names, Resolve, kind_in, names_of, object_at, object_in, object_of, thing_in}
use Rattle.mb_world.specs.Key.{Named}
use Rattle.mb_world.specs.Objects.{kind_calls}
use Rattle.mb_world.specs.Value.{Val}
use Rattle.mb_world.specs.declared.cell.Cell.{Cell}
use Rattle.mb_world.specs.declared.cell.CellKind.{CellKind}
use Rattle.mb_world.specs.declared.cell.CellKind.TheVariants as kind
use Rattle.mb_world.specs.declared.cell.Code.{Code}

-- ---- what is none of these kinds

module _ (n : Names) (slots : List (Option (Value × Value))) where
  -- can't be called
  pub calls-none : (k : CellKind) → ((code : Code) → k ≡ kind.Function code → ⊥)
      → ((proxy : ObjId) → k ≡ kind.Revoker proxy → ⊥) → ((place : ℕ) → k ≡ kind.BuiltIn place → ⊥) → (s : ℕ)
      (o this : Val) (vs : List Val) → call_kind s o this vs (kind_in n slots k) ≡ type_error s
  calls-none kind.Plain f r b s o this vs = refl
  calls-none kind.Array f r b s o this vs = refl
  calls-none (kind.Function code) f r b s o this vs = absurd (f code refl)
  calls-none (kind.BuiltIn place) f r b s o this vs = absurd (b place refl)
  calls-none (kind.Fault which) f r b s o this vs = refl
  calls-none (kind.Proxy (Some target) (Some handler) shape) f r b s o this vs = refl
  calls-none (kind.Proxy (Some target) None shape) f r b s o this vs = refl
  calls-none (kind.Proxy None handler shape) f r b s o this vs = refl
  calls-none (kind.Revoker proxy) f r b s o this vs = absurd (r proxy refl)
  calls-none (kind.Membrane behind shadow) f r b s o this vs = refl
  calls-none (kind.Shadow shape) f r b s o this vs = refl
  calls-none (kind.Collection coll) f r b s o this vs = refl

  -- constructs nothing
  pub constructs-none : (k : CellKind) → ((code : Code) → k ≡ kind.Function code → ⊥)
      → ((place : ℕ) → k ≡ kind.BuiltIn place → ⊥) → (s : ℕ) (o : Val) (t : Thing) (vs : List Val) (target : Val)
      → construct_kind s o t vs target (kind_in n slots k) ≡ type_error s
  constructs-none kind.Plain f b s o t vs target = refl
  constructs-none kind.Array f b s o t vs target = refl
  constructs-none (kind.Function code) f b s o t vs target = absurd (f code refl)
  constructs-none (kind.BuiltIn place) f b s o t vs target = absurd (b place refl)
  constructs-none (kind.Fault which) f b s o t vs target = refl
  constructs-none (kind.Proxy (Some target) (Some handler) shape) f b s o t vs y = refl
  constructs-none (kind.Proxy (Some target) None shape) f b s o t vs y = refl
  constructs-none (kind.Proxy None handler shape) f b s o t vs y = refl
  constructs-none (kind.Revoker proxy) f b s o t vs target = refl
  constructs-none (kind.Membrane behind shadow) f b s o t vs target = refl
  constructs-none (kind.Shadow shape) f b s o t vs target = refl
  constructs-none (kind.Collection coll) f b s o t vs target = refl

pub owner-else : (home : Side) (k : CellKind) → ((code : Code) → k ≡ kind.Function code → ⊥) → owner_by home k ≡ home
owner-else home (kind.Function code) f = absurd (f code refl)
owner-else home k f = refl

-- ---- the object that a cell is

module _ (d : Data) (id : ObjId) (c : Cell) (there : cell_at d id ≡ Some c) where
  pub thing-is : (t : Thing) → object_at d id ≡ Some t → object_of (names_of d) c ≡ t
  thing-is t e = ap (λ (x : Option Thing). unwrap_or x (object_of (names_of d) c)) (rw there at e)

  pub kind-is : (t : Thing) (k : CellKind) → object_at d id ≡ Some t → c.kind ≡ k
      → t.kind ≡ kind_in (names_of d) c.slots k
  kind-is t k e h =
      ap (λ (x : Thing). x.kind) (sym (thing-is t e)) ∙ ap (kind_in (names_of d) c.slots) h

  label-is : (t : Thing) → object_at d id ≡ Some t → t.label ≡ label_in (names_of d) c.label
  label-is t e = ap (λ (x : Thing). x.label) (sym (thing-is t e))

  module _ (home : Side) (this : Value) (arguments : List Value)
      (h : Holds d home (HeldObject id ∷ HeldValue this ∷ HeldValues arguments ∷ [])) where
    abbrev entered : Task
    entered = task.Enter id this arguments

    -- a function is entered
    pub part-entered : (t : Thing) (k : CellKind) → object_at d id ≡ Some t → c.kind ≡ k
        → call_kind home.0 (object_in (names_of d) id) (Resolve (names_of d) this) (values_in (names_of d) arguments)
        (kind_in (names_of d) c.slots k) ≡ answer (task_in (names_of d) home.0 entered)
        → (f : ℕ) → Part home (Ok (move.Next entered)) d d f f
        (call_kind home.0 (object_in (names_of d) id) (Resolve (names_of d) this) (values_in (names_of d) arguments)
        t.kind finished)
    part-entered t k e i same f =
        rw (kind-is t k e i, same)
        (part-sure d home (move.Next entered) (answer (task_in (names_of d) home.0 entered))
        (Sure-next home d entered (h.0.within, (h.1.0.within, (h.1.1.0.within, (h.0.within, tt))))) f)

    pub keeps-entered : IsReady d → is_shadow c.kind ≡ false → kind_calls (thing_in (names_of d) c).kind ≡ true
        → IsFunctionAt d id → KeepsBy home AValue (Ok (move.Next entered)) d d
    keeps-entered r s k f =
        keeps-same home AValue (Ok (move.Next entered)) d r
        (record {
          holds = (
            (held-as d id c there home (reads-home d home id c h.0 there) s).callable k,
            (h.1.0, (h.1.1.0, (as-function d home id h.0 f, tt))),
          );
          fit = tt;
          gives = refl;
        })

  -- a function constructs at its owner's home
  pub constructs-function : (home side : Side) (arguments : List Value) (target : Value) (code : Code) (t : Thing)
      (log : List Item) → object_at d id ≡ Some t → c.kind ≡ kind.Function code → side ≡ code.side
      → construct_kind home.0 (object_in (names_of d) id) t (values_in (names_of d) arguments)
      (Resolve (names_of d) target) t.kind finished (Image d log)
      ≡ (get side.0 (Resolve (names_of d) target) (Named (codes "prototype"))
      >>= construct_with side.0 (object_in (names_of d) id) (label_in (names_of d) c.label)
      (values_in (names_of d) arguments)) finished (Image d log)
  constructs-function home side arguments target code t log e k s =
      let n : Names = names_of d in
      let o : Val = object_in n id in
      let vs : List Val = values_in n arguments in
      let y : Val = Resolve n target in
      ap (λ (x : Kind). construct_kind home.0 o t vs y x finished (Image d log)) (kind-is t (kind.Function code) e k)
      ∙ ap (λ (l : Option (List ℕ)). (get code.side.0 y (Named (codes "prototype"))
      >>= construct_with code.side.0 o l vs) finished (Image d log)) (label-is t e)
      ∙ ap (λ (x : Side). (get x.0 y (Named (codes "prototype"))
      >>= construct_with x.0 o (label_in n c.label) vs) finished (Image d log)) (sym s)
