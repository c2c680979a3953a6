-- A stage of the story after one turn, as the world and the driver tell it.
use Rattle.std.proofs.Common.{Bool, List, None, Option, Some, [], ap, cond, false, filter, if◌then◌else◌, length, map, option_map, refl, subst, sym, true, ℕ, suc, ◌++◌, ◌∙◌, ◌∷◌, ◌≡◌, append-nil, append_assoc}
use Rattle.std.proofs.lemmas.List.{length-map, map-append}
use Rattle.mb_base.specs.declared.value.Side.{Side}
use Rattle.mb_engine.specs.Driving.{noted_if, ran_of, tells}
use Rattle.mb_engine.specs.Turns.{Left, Turns, lines_made}
use Rattle.mb_engine.specs.declared.drivers.Ran.{Ran}
use Rattle.mb_engine.specs.declared.turns.TurnEnd.{TurnEnd}
use Rattle.mb_engine.specs.declared.turns.TurnEnd.TheVariants as end
use Rattle.mb_frames.specs.Standing.{Logged}
use Rattle.mb_frames.specs.Stepping.{Written}
use Rattle.mb_model.specs.Story as story
use Rattle.mb_model.specs.Story.{Stage, TurnOf, one_turn}
use Rattle.mb_model.specs.Text.{log_lines, with_feeds}
use Rattle.mb_model.specs.Trace.Entries.{entries}
use Rattle.mb_story.proofs.Lines.{made-bytes}
use Rattle.mb_story.specs.Running.{StandsAt, ending_of, told_as, with_turns}
use Rattle.mb_story.specs.declared.ending.Ending.{Ending}
use Rattle.mb_story.specs.declared.ending.Ending.TheVariants as an
use Rattle.mb_story.specs.declared.style.Style.{Style}
use Rattle.mb_story.specs.machine.Telling.{ended_by, so_far}
use Rattle.mb_world.specs.Data.{Data, is_counted, is_object_cell, obj_id, objects_of, place_if, places_from, stand, stands}
use Rattle.mb_world.specs.Graph.{Graph, Item}
use Rattle.mb_world.specs.Image.{Image, entry_in, names_of, thing_in}
use Rattle.mb_world.specs.declared.cell.Cell.{Cell}

-- ---- what a driver tells of a world is what the story tells of its graph

objects-by : (b : Bool) (n : ℕ) (ns : List ℕ) (c : Cell) (cells : List Cell) → length ns ≡ length cells
    → length (place_if b n ns) ≡ length (cond b (c ∷ cells) cells)
objects-by true n ns c cells e = ap suc e
objects-by false n ns c cells e = e

many-objects : (n : ℕ) (cells : List Cell) → length (places_from n (stands cells)) ≡ length (filter is_object_cell cells)
many-objects n [] = refl
many-objects n (c ∷ cells) =
    objects-by (is_counted (stand c)) n (places_from (suc n) (stands cells)) c (filter is_object_cell cells)
    (many-objects (suc n) cells)

-- the number of the next object
pub next-object : (d : Data) (log : List Item) → length (objects_of d.cells) ≡ length (Image d log).objects
next-object d log =
    length-map (places_from 0 (stands d.cells)) obj_id ∙ many-objects 0 d.cells
    ∙ sym (length-map (filter is_object_cell d.cells) (thing_in (names_of d)))

-- so many entries
pub many-entries : (d : Data) (log : List Item) → Logged d log → length d.entries ≡ length (entries log)
many-entries d log e = sym (length-map d.entries (entry_in d.texts)) ∙ sym (ap length e)

pub ran-same : (side : Side) (d : Data) (f : ℕ) (log : List Item) → Logged d log
    → ran_of side d f ≡ told_as d.joined (story.ran_of side.0 (Image d log) f)
ran-same side d f log e =
    ap (λ (n : ℕ). let r : Ran = record (ran_of side d f) { entries = n } in r) (many-entries d log e)
    ∙ ap (λ (n : ℕ). let r : Ran = record (ran_of side d f) { entries = length (entries log); objects = n } in r)
    (next-object d log)

-- the turn stands last
more-turns : (joined : Bool) (turns : List story.Ran) (r : story.Ran) (start : Option (List Ran))
    → option_map (λ (rs : List Ran). rs ++ told_as joined r ∷ []) (with_turns joined turns start)
    ≡ with_turns joined (turns ++ (r ∷ [])) start
more-turns joined turns r None = refl
more-turns joined turns r (Some rs) =
    ap Some (append_assoc rs (map (told_as joined) turns) (told_as joined r ∷ [])
    ∙ ap (λ (z : List Ran). rs ++ z) (sym (map-append (told_as joined) turns (r ∷ []))))

-- ---- one turn

-- what the turn leaves of a stage where a world stood
pub record Turned (style : Style) (how : TurnEnd) (ending became : Ending) (side : Side) (d d' : Data) (f' : ℕ)
    (made : List (List ℕ)) (t u : Stage) : Type 0 where
  pub here : StandsAt d' f' u
  pub ended : u.ending ≡ ending_of became
  pub bytes : so_far style u ≡ so_far style t ++ with_feeds made
  pub ran : (start : Option (List Ran)) (told : Option (List Ran)) → told ≡ with_turns d.joined t.ran start
      → noted_if how side d' f' told ≡ with_turns d.joined u.ran start

left-log : (d' : Data) (l l' : Written) (log : List Item) (g : Graph) → (h : Left d' l l' log g) → g.log ≡ log ++ h.added
left-log d' l l' log g h = ap (λ (k : Graph). k.log) h.image

module _ (style : Style) (ending : Ending) (side : Side) (d d' : Data) (f f' : ℕ) (l l' : Written) (t : Stage)
    (here : StandsAt d f t) (was : t.ending ≡ ending_of ending) (joined : d'.joined ≡ d.joined)
    (traced : l.traced ≡ style.traced) (lettered : l.lettered ≡ style.lettered) (none : l.lines ≡ []) where
  -- a turn that took a job left this graph
  job-turned : (how : TurnEnd) (became : Ending) (g : Graph) → tells how ≡ true → Left d' l l' t.graph.log g
      → Turned style how ending became side d d' f' l'.lines t (story.ran_to t side.0 g f' (ending_of became))
  job-turned how became g told h =
      let u : Stage = story.ran_to t side.0 g f' (ending_of became) in
      let log : g.log ≡ t.graph.log ++ h.added = left-log d' l l' t.graph.log g h in
      let lines : l'.lines ≡ lines_made style.traced style.lettered t.graph.log h.added =
      ap (λ (w : Written). w.lines) h.told.lines
      ∙ ap (λ (ls : List (List ℕ)). ls ++ lines_made l.traced l.lettered t.graph.log h.added) none
      ∙ ap (λ (b : Bool). lines_made b l.lettered t.graph.log h.added) traced
      ∙ ap (λ (b : Bool). lines_made style.traced b t.graph.log h.added) lettered in
      record {
        here = record {
          image = h.image ∙ ap (Image d') (sym log);
          logged = subst (Logged d') (sym log) h.told.logged;
          left = refl;
        };
        ended = refl;
        bytes = ap (λ (k : List Item). with_feeds (log_lines style.traced style.lettered k)) log
            ∙ made-bytes style.traced style.lettered t.graph.log h.added
            ∙ ap (λ (ls : List (List ℕ)). so_far style t ++ with_feeds ls) (sym lines);
        ran = λ start before e.
            let same : ran_of side d' f' ≡ told_as d.joined (story.ran_of side.0 g f') =
            ran-same side d' f' (t.graph.log ++ h.added) h.told.logged
            ∙ ap (λ (b : Bool). told_as b (story.ran_of side.0 (Image d' (t.graph.log ++ h.added)) f')) joined
            ∙ ap (λ (k : Graph). told_as d.joined (story.ran_of side.0 k f')) (sym h.image) in
            noted-told how before told
            ∙ ap (λ (r : Ran). option_map (λ (rs : List Ran). rs ++ r ∷ []) before) same
            ∙ ap (option_map (λ (rs : List Ran). rs ++ told_as d.joined (story.ran_of side.0 g f') ∷ [])) e
            ∙ more-turns d.joined t.ran (story.ran_of side.0 g f') start;
      }
    where
      noted-by : (b : Bool) (r : Ran) (rs : List Ran) → b ≡ true → (if b then rs ++ r ∷ [] else rs) ≡ rs ++ r ∷ []
      noted-by b r rs e = rw e refl

      noted-told : (how : TurnEnd) (before : Option (List Ran)) → tells how ≡ true
          → noted_if how side d' f' before ≡ option_map (λ (rs : List Ran). rs ++ ran_of side d' f' ∷ []) before
      noted-told how None e = refl
      noted-told how (Some rs) e = ap Some (noted-by (tells how) (ran_of side d' f') rs e)

  -- one that found none
  idle-turned : d' ≡ d → f' ≡ f → l' ≡ l → Turned style end.Idle ending ending side d d' f' l'.lines t t
  idle-turned w u e = record {
    here = record {
      image = here.image ∙ ap (λ (k : Data). Image k t.graph.log) (sym w);
      logged = subst (λ (k : Data). Logged k t.graph.log) (sym w) here.logged;
      left = here.left ∙ sym u;
    };
    ended = was;
    bytes = sym (append-nil (so_far style t))
        ∙ ap (λ (ls : List (List ℕ)). so_far style t ++ with_feeds ls) (sym (ap (λ (k : Written). k.lines) e ∙ none));
    ran = λ start before h. idle-noted before ∙ h;
  }
    where
      idle-noted : (before : Option (List Ran)) → noted_if end.Idle side d' f' before ≡ before
      idle-noted None = refl
      idle-noted (Some rs) = refl

  turn-same : one_turn t side.0 ≡ story.after t side.0 (TurnOf (Image d t.graph.log) side.0 f)
  turn-same =
      ap (λ (g : Graph). story.after t side.0 (TurnOf g side.0 t.left)) here.image
      ∙ ap (λ (n : ℕ). story.after t side.0 (TurnOf (Image d t.graph.log) side.0 n)) here.left

  -- the turn of the world is that of the stage
  pub turn-is : (how : TurnEnd) (became : Ending) → ended_by ending how ≡ Some became
      → Turns how d' f' l l' t.graph.log (TurnOf (Image d t.graph.log) side.0 f)
      → (how ≡ end.Idle → (d' ≡ d) × (f' ≡ f) × (l' ≡ l))
      → Turned style how ending became side d d' f' l'.lines t (one_turn t side.0)
  turn-is end.Idle became e h rests =
      let same : ending ≡ became = cc in
      let stays : one_turn t side.0 ≡ t = turn-same ∙ ap (story.after t side.0) h in
      let r = rests refl in
      subst (λ (u : Stage). Turned style end.Idle ending became side d d' f' l'.lines t u) (sym stays)
      (subst (λ (x : Ending). Turned style end.Idle ending x side d d' f' l'.lines t t) same
      (idle-turned r.0 r.1 r.2))
  turn-is end.Ended became e h rests =
      let same : ending ≡ became = cc in
      let goes : one_turn t side.0 ≡ story.ran_to t side.0 h.0 f' (ending_of became) =
      turn-same ∙ ap (story.after t side.0) h.1
      ∙ ap (story.ran_to t side.0 h.0 f') (was ∙ ap ending_of same) in
      subst (λ (u : Stage). Turned style end.Ended ending became side d d' f' l'.lines t u) (sym goes)
      (job-turned end.Ended became h.0 refl h.2)
  turn-is end.Uncaught became e h rests =
      let same : an.Uncaught ≡ became = cc in
      let goes : one_turn t side.0 ≡ story.ran_to t side.0 h.0 f' (ending_of became) =
      turn-same ∙ ap (story.after t side.0) h.1 ∙ ap (λ x. story.ran_to t side.0 h.0 f' (ending_of x)) same in
      subst (λ (u : Stage). Turned style end.Uncaught ending became side d d' f' l'.lines t u) (sym goes)
      (job-turned end.Uncaught became h.0 refl h.2)
  turn-is end.Spent became e h rests =
      let same : an.Spent ≡ became = cc in
      let goes : one_turn t side.0 ≡ story.ran_to t side.0 h.0 f' (ending_of became) =
      turn-same ∙ ap (story.after t side.0) h.1 ∙ ap (λ x. story.ran_to t side.0 h.0 f' (ending_of x)) same in
      subst (λ (u : Stage). Turned style end.Spent ending became side d d' f' l'.lines t u) (sym goes)
      (job-turned end.Spent became h.0 refl h.2)
  turn-is end.NoMemory became e h rests = absurd cc
