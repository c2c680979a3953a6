-- A turn whose lines were put.
use Rattle.std.proofs.Common.{Bool, List, Option, Some, [], ap, false, inl, inr, refl, subst, sym, ℕ, ◌++◌, ◌<◌, ◌∙◌, ◌≡◌, ◌≢◌, ◌⊎◌}
use Rattle.std.specs.Prelude.{◌↔◌}
use Rattle.mb_base.specs.declared.value.Side.{Side}
use Rattle.mb_engine.specs.Begun.{IsBegun}
use Rattle.mb_engine.specs.Driving.{noted_if}
use Rattle.mb_engine.specs.Turns.{halts as turn_halts}
use Rattle.mb_engine.specs.declared.drivers.Ran.{Ran}
use Rattle.mb_engine.specs.declared.turns.TurnEnd.{TurnEnd}
use Rattle.mb_engine.specs.declared.turns.TurnEnd.TheVariants as end
use Rattle.mb_model.specs.Story.{Stage, one_turn}
use Rattle.mb_model.specs.Text.{with_feeds}
use Rattle.mb_story.proofs.Jobs.{falls-by, stage_of, turn-falls}
use Rattle.mb_story.proofs.Leading.{queues-stay}
use Rattle.mb_story.proofs.Lines.{bytes-go-on}
use Rattle.mb_story.proofs.Logs.{turn-adds}
use Rattle.mb_story.proofs.Putting.{took-none}
use Rattle.mb_story.proofs.Told.{Turned}
use Rattle.mb_story.specs.Running.{Leaves, with_turns}
use Rattle.mb_story.specs.declared.ending.Ending.{Ending}
use Rattle.mb_story.specs.declared.ending.Ending.TheVariants as an
use Rattle.mb_story.specs.declared.ending.RunFault.{RunFault}
use Rattle.mb_story.specs.declared.ending.RunFault.TheVariants as fault
use Rattle.mb_story.specs.declared.style.Style.{Style}
use Rattle.mb_story.specs.machine.Telling.{Falls, Scene, Stands, Sunk, Took, TookPart, ended_by, scene, so_far, to_come}
use Rattle.mb_world.specs.Data.{Data, queue_of}

-- ---- what was told

pub tell-on : (style : Style) (start now : Scene) (d' : Data) (f' : ℕ) (sink : Sunk) (ran' : Option (List Ran))
    (how : TurnEnd) (ending became : Ending) (side : Side) (made : List (List ℕ)) (t : Stage)
    → Stands style start now ending t
    → Turned style how ending became side now.world d' f' made t (one_turn t side.0)
    → d'.joined ≡ now.world.joined → d'.sides ≡ now.world.sides → ran' ≡ noted_if how side d' f' now.ran
    → Took start.sink sink (so_far style t ++ with_feeds made)
    → Stands style start (scene d' f' sink.taken sink.room ran') became (one_turn t side.0)
tell-on style start now d' f' sink ran' how ending became side made t h turned joined sides noted took = record {
  here = turned.here;
  queues = queues-stay t side.0 ∙ h.queues ∙ sym sides;
  ended = turned.ended;
  ran = noted ∙ turned.ran start.ran now.ran h.ran
      ∙ ap (λ (b : Bool). with_turns b (one_turn t side.0).ran start.ran) (sym joined);
  took = subst (Took start.sink sink) (sym turned.bytes) took;
}

pub tell-part : (style : Style) (start : Scene) (d d' : Data) (f' : ℕ) (sink : Sunk) (why : RunFault) (how : TurnEnd)
    (ending became : Ending) (side : Side) (made : List (List ℕ)) (t : Stage)
    → Turned style how ending became side d d' f' made t (one_turn t side.0)
    → TookPart start.sink sink why (so_far style t ++ with_feeds made)
    → TookPart start.sink sink why (so_far style (one_turn t side.0))
tell-part style start d d' f' sink why how ending became side made t turned part =
    subst (TookPart start.sink sink why) (sym turned.bytes) part

-- a turn that wanted memory put nothing
pub tell-none : (style : Style) (start now : Scene) (ending : Ending) (side : Side) (t : Stage)
    → Stands style start now ending t
    → TookPart start.sink now.sink fault.NoMemory (so_far style (one_turn t side.0))
tell-none style start now ending side t h =
    let more = bytes-go-on style t (one_turn t side.0) (turn-adds t side.0) in
    subst (TookPart start.sink now.sink fault.NoMemory) (sym more.1)
    (took-none start.sink now.sink (so_far style t) more.0 h.took)

-- ---- the world

pub goes-on : (e : Ending) (d : Data) → e ≢ an.Spent → IsBegun d → d.halted ≡ false → Leaves e d
goes-on an.Done d n b h = (b, h)
goes-on an.Uncaught d n b h = (b, h)
goes-on an.Spent d n b h = absurd (n refl)

pub turn-leaves : (ending became : Ending) (how : TurnEnd) (d' : Data) → ended_by ending how ≡ Some became
    → ending ≢ an.Spent → d'.halted ≡ turn_halts how → (turn_halts how ≡ false → IsBegun d') → Leaves became d'
turn-leaves ending became end.Idle d' e n h b =
    let same : ending ≡ became = cc in
    subst (λ (x : Ending). Leaves x d') same (goes-on ending d' n (b refl) h)
turn-leaves ending became end.Ended d' e n h b =
    let same : ending ≡ became = cc in
    subst (λ (x : Ending). Leaves x d') same (goes-on ending d' n (b refl) h)
turn-leaves ending became end.Uncaught d' e n h b =
    let same : an.Uncaught ≡ became = cc in
    subst (λ (x : Ending). Leaves x d') same (b refl, h)
turn-leaves ending became end.Spent d' e n h b =
    let same : an.Spent ≡ became = cc in
    subst (λ (x : Ending). Leaves x d') same h
turn-leaves ending became end.NoMemory d' e n h b = absurd cc

pub begun-by : (e : Ending) (d : Data) → e ≢ an.Spent → Leaves e d → IsBegun d × (d.halted ≡ false)
begun-by an.Done d n h = h
begun-by an.Uncaught d n h = h
begun-by an.Spent d n h = absurd (n refl)

-- ---- what is still to come

module _ (style : Style) (d d' : Data) (f f' : ℕ) (side : Side) (ending became : Ending) (made : List (List ℕ)) where
  abbrev Less : Type 0
  Less = ((queue_of d side ≡ []) × (d' ≡ d) × (f' ≡ f)) ⊎ (to_come d' f' < to_come d f)

  abbrev TurnedAt : TurnEnd → Type 0
  TurnedAt how = Turned style how ending became side d d' f' made (stage_of d f ending)
      (one_turn (stage_of d f ending) side.0)

  less-job : (how : TurnEnd) → TurnedAt how → (queue_of d side ≡ [] → ⊥) → side.0 < d.sides → became ≢ an.Spent → Less
  less-job how turned none i n =
      inr (turn-falls d d' f f' side ending became n i none turned.here turned.ended)

  less-by : (how : TurnEnd) → ended_by ending how ≡ Some became → TurnedAt how
      → (how ≢ end.NoMemory → (how ≡ end.Idle) ↔ (queue_of d side ≡ []))
      → (how ≡ end.Idle → (d' ≡ d) × (f' ≡ f)) → side.0 < d.sides → became ≢ an.Spent → Less
  less-by end.Idle e turned iff rests i n =
      let r = rests refl in inl ((iff (λ x. cc)).0 refl, r.0, r.1)
  less-by end.Ended e turned iff rests i n =
      less-job end.Ended turned (λ q. let bad : end.Ended ≡ end.Idle = (iff (λ x. cc)).1 q in cc) i n
  less-by end.Uncaught e turned iff rests i n =
      less-job end.Uncaught turned (λ q. let bad : end.Uncaught ≡ end.Idle = (iff (λ x. cc)).1 q in cc) i n
  less-by end.Spent e turned iff rests i n = absurd (n (sym (let same : an.Spent ≡ became = cc in same)))
  less-by end.NoMemory e turned iff rests i n = absurd cc

  pub turn-fell : (how : TurnEnd) → ended_by ending how ≡ Some became → TurnedAt how
      → (how ≢ end.NoMemory → (how ≡ end.Idle) ↔ (queue_of d side ≡ []))
      → (how ≡ end.Idle → (d' ≡ d) × (f' ≡ f)) → side.0 < d.sides → Falls side became d f d' f'
  turn-fell how e turned iff rests i = falls-by side became d d' f f' (less-by how e turned iff rests i)
