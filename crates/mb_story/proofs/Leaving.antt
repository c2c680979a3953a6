-- What a run leaves, clause by clause.
use Rattle.std.proofs.Common.{Err, List, Ok, Result, [], ap, false, subst, sym, true≢false, ℕ, ◌++◌, ◌∙◌, ◌∷◌, ◌≡◌}
use Rattle.mb_engine.specs.Begun.{IsBegun}
use Rattle.mb_model.specs.Story.{Stage}
use Rattle.mb_model.specs.Text.{Text_of, ending_line}
use Rattle.mb_story.proofs.Whole.{text-is}
use Rattle.mb_story.specs.Running.{HasRoom, IsPut, Leaves, Receives, ending_of, halts}
use Rattle.mb_story.specs.declared.ending.Ending.{Ending}
use Rattle.mb_story.specs.declared.ending.Ending.TheVariants as an
use Rattle.mb_story.specs.declared.ending.RunFault.{RunFault}
use Rattle.mb_story.specs.declared.ending.RunFault.TheVariants as fault
use Rattle.mb_story.specs.declared.style.Style.{Style}
use Rattle.mb_story.specs.machine.Telling.{Scene, Stands, Sunk, TellsAll, Took, TookPart, scene, so_far}
use Rattle.mb_world.specs.Data.{Data}

-- ---- the end of the text

-- the last line was put
pub tells-all : (style : Style) (start now : Scene) (sink : Sunk) (ending : Ending) (t : Stage)
    → Stands style start now ending t → Took start.sink sink (so_far style t ++ (ending_line (ending_of ending) ++ 10 ∷ []))
    → TellsAll style start (scene now.world now.left sink.taken sink.room now.ran) ending t
tells-all style start now sink ending t h took = record {
  here = h.here;
  ended = h.ended;
  ran = h.ran;
  took = subst (Took start.sink sink)
      (ap (λ e. so_far style t ++ (ending_line e ++ 10 ∷ [])) (sym h.ended) ∙ sym (text-is style t)) took;
}

-- or a part of it
pub tells-part : (style : Style) (start now : Scene) (sink : Sunk) (why : RunFault) (ending : Ending) (t : Stage)
    → Stands style start now ending t
    → TookPart start.sink sink why (so_far style t ++ (ending_line (ending_of ending) ++ 10 ∷ []))
    → TookPart start.sink sink why (Text_of style.traced style.lettered t)
tells-part style start now sink why ending t h part =
    subst (TookPart start.sink sink why)
    (ap (λ e. so_far style t ++ (ending_line e ++ 10 ∷ [])) (sym h.ended) ∙ sym (text-is style t)) part

-- ---- the clauses

pub put-part : (start now : Sunk) (why : RunFault) (text : List ℕ) → TookPart start now why text
    → IsPut (Err why) (Receives start.taken now.taken) text
put-part start now why text h = (h.front, h.rest, h.parts, h.bytes)

pub room-part : (start now : Sunk) (why : RunFault) (text : List ℕ) → TookPart start now why text
    → HasRoom start.room text → ◌≡◌ {A = Result Ending RunFault} (Err why) (Err fault.Write) → ⊥
room-part start now why text h fits e = h.fits fits (let same : why ≡ fault.Write = cc in same)

pub halted-by : (e : Ending) (d : Data) → Leaves e d → d.halted ≡ halts (Ok e)
halted-by an.Done d h = h.1
halted-by an.Uncaught d h = h.1
halted-by an.Spent d h = h

pub begun-after : (e : Ending) (d : Data) → Leaves e d → halts (Ok e) ≡ false → IsBegun d
begun-after an.Done d h n = h.0
begun-after an.Uncaught d h n = h.0
begun-after an.Spent d h n = absurd (true≢false n)
