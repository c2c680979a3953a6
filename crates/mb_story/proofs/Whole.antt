-- The whole run, from the first graph to the last line.
use Rattle.std.proofs.Common.{Bool, List, None, Option, Some, [], ap, arith, length, map, refl, slice_index_or, subst, suc, sym, true, zero, ℕ, ◌+◌, ◌++◌, ◌<◌, ◌∙◌, ◌∷◌, ◌≡◌, append-nil}
use Rattle.std.proofs.lemmas.List.{length-map}
use Rattle.std.specs.Prelude.{take}
use Rattle.mb_base.specs.declared.value.Side.{Side}
use Rattle.mb_engine.specs.Begun.{IsBegun}
use Rattle.mb_engine.specs.declared.drivers.Ran.{Ran}
use Rattle.mb_model.proofs.Rounds.{more-rounds, story-over}
use Rattle.mb_model.specs.Story.{Stage, Story, enough, first_graph, first_stage, is_over, letters, rounds}
use Rattle.mb_model.specs.Story as story
use Rattle.mb_model.specs.Text.{Text_of, ending_line, log_lines}
use Rattle.mb_programs.specs.Read.{HasWhole}
use Rattle.mb_story.proofs.Leading.{one-end}
use Rattle.mb_story.proofs.Lines.{bytes-go-on, feeds-append}
use Rattle.mb_story.proofs.Logs.{rounds-more}
use Rattle.mb_story.proofs.Putting.{part-more, part-of, took-nothing}
use Rattle.mb_story.specs.Running.{IsFirst, with_turns}
use Rattle.mb_story.specs.declared.ending.Ending.TheVariants as an
use Rattle.mb_story.specs.declared.ending.RunFault.{RunFault}
use Rattle.mb_story.specs.declared.style.Style.{Style}
use Rattle.mb_story.specs.machine.Telling.{Scene, Stands, Sunk, TookPart, so_far}
use Rattle.mb_world.specs.Data.{Data, Script}
use Rattle.mb_world.specs.Form.{ScriptForm}
use Rattle.mb_world.specs.Graph.{Graph, Program, Rule, Script as ScriptJob}
use Rattle.mb_world.specs.Image.{Image, entry_in, program_in}

-- ---- the first stage

-- each of the first n sides has a script, so there are so many
many-programs : (texts : List (List ℕ)) (ps : List (Option Script)) (n : ℕ)
    → ((i : ℕ) → i < n → HasWhole ((program_in texts (slice_index_or ps i None)).forms))
    → length (take n ps) ≡ n
many-programs texts ps zero h = refl
many-programs texts [] (suc n) h =
    let r = h zero (omega arith) in
    absurd (let bad : None ≡ Some (ScriptForm r.statements) = r.last in cc)
many-programs texts (p ∷ ps) (suc n) h =
    ap suc (many-programs texts ps n (λ i l. h (suc i) (omega (arith, l))))

-- the first graph has a queue for each side
pub first-queues : (d : Data) (programs : List Program) (rules : List Rule) → IsBegun d
    → Image d [] ≡ first_graph programs rules → length (first_graph programs rules).queues ≡ d.sides
first-queues d programs rules b e =
    let many : length (take d.sides d.programs) ≡ d.sides =
    many-programs d.texts d.programs d.sides (λ i l. let side : Side = record { 0 = i } in b.scripts side l) in
    let same : map (program_in d.texts) (take d.sides d.programs) ≡ programs = ap (λ (g : Graph). g.programs) e in
    length-map programs (λ (p : Program). ScriptJob ∷ []) ∙ sym (ap length same)
    ∙ length-map (take d.sides d.programs) (program_in d.texts) ∙ many

pub first-stands : (style : Style) (now : Scene) (programs : List Program) (rules : List Rule) → IsBegun now.world
    → IsFirst now.world programs rules → Stands style now now an.Done (first_stage programs rules now.left)
first-stands style now programs rules b first = record {
  here = record {
    image = sym first.image;
    logged = sym (ap (map (entry_in now.world.texts)) first.entries);
    left = refl;
  };
  queues = first-queues now.world programs rules b first.image;
  ended = refl;
  ran = no-turns now.world.joined now.ran;
  took = took-nothing now.sink;
}
  where
    no-turns : (joined : Bool) (ran : Option (List Ran)) → ran ≡ with_turns joined [] ran
    no-turns joined None = refl
    no-turns joined (Some rs) = ap Some (sym (append-nil rs))

-- ---- the end

-- where rounds are over they are the story's
pub story-is : (programs : List Program) (rules : List Rule) (word : List story.Letter) (f n : ℕ)
    → is_over (rounds n 0 (letters word (first_stage programs rules f))) ≡ true
    → rounds n 0 (letters word (first_stage programs rules f)) ≡ Story programs rules word f
story-is programs rules word f n o =
    let t : Stage = letters word (first_stage programs rules f) in
    one-end n (enough t) 0 t o (story-over programs rules word f)

-- any rounds lead to its end
pub story-after : (style : Style) (programs : List Program) (rules : List Rule) (word : List story.Letter) (f n : ℕ)
    → (more : List ℕ) × (so_far style (Story programs rules word f)
    ≡ so_far style (rounds n 0 (letters word (first_stage programs rules f))) ++ more)
story-after style programs rules word f n =
    let t : Stage = letters word (first_stage programs rules f) in
    let z : n + enough t ≡ enough t + n = omega arith in
    let same : rounds (n + enough t) 0 t ≡ Story programs rules word f =
    ap (λ (k : ℕ). rounds k 0 t) z ∙ more-rounds (enough t) n 0 t (story-over programs rules word f) in
    subst (λ (u : Stage). (more : List ℕ) × (so_far style u ≡ so_far style (rounds n 0 t) ++ more)) same
    (bytes-go-on style (rounds n 0 t) (rounds (n + enough t) 0 t) (rounds-more n (enough t) 0 t))

-- the last line
pub text-is : (style : Style) (t : Stage)
    → Text_of style.traced style.lettered t ≡ so_far style t ++ (ending_line t.ending ++ 10 ∷ [])
text-is style t = feeds-append (log_lines style.traced style.lettered t.graph.log) (ending_line t.ending ∷ [])

-- a run that broke off somewhere
pub part-of-text : (style : Style) (start now : Sunk) (why : RunFault) (t u : Stage)
    → ((more : List ℕ) × (so_far style u ≡ so_far style t ++ more)) → TookPart start now why (so_far style t)
    → TookPart start now why (Text_of style.traced style.lettered u)
part-of-text style start now why t u w h =
    subst (TookPart start now why) (sym (text-is style u))
    (part-more start now why (so_far style u) (ending_line u.ending ++ 10 ∷ [])
    (part-of start now why (so_far style t) (so_far style u) w h))
