-- Along the turns of a run each object evolves.
use Rattle.std.proofs.Common.{◌≡◌, ℕ, zero, suc, ◌+◌, ◌%◌, Bool, true, false, List, [], ◌∷◌, length, Option, None, Some, slice_get, slice_set, subst}
use Rattle.mb_world.specs.Graph.{Graph, Job, Script, Call as CallJob}
use Rattle.mb_model.specs.Engine.{Gives, Spent}
use Rattle.mb_model.specs.Task.{Normal, Throw, Return, Break, Continue}
use Rattle.mb_model.specs.Meaning.{Ends}
use Rattle.mb_model.specs.Story.{Stage, Letter, Side, Cut, turn_ended, job_ends, after, take_turn, one_turn, one_letter, letters, is_spent, is_over, rounds, desk, first_stage, enough}
use Rattle.mb_model.proofs.Kept.Rows.{EndHolds, given-holds, means-holds}
use Rattle.mb_growth.specs.Objects.{IsFormed}
use Rattle.mb_growth.specs.Later.{AreFormed}
use Rattle.mb_growth.specs.Laws.{FirstIsFormed, TurnsEvolve, LettersEvolve, RunsEvolve}
use Rattle.mb_growth.proofs.Graphs.{stays-later}
use Rattle.mb_growth.proofs.Made.{nothing-distinct}
use Rattle.mb_growth.proofs.Runs.{Grows, grows-on, growing, plainly}

pub first-is-formed : FirstIsFormed
first-is-formed programs rules zero t at = let e : desk ≡ t = cc in subst IsFormed e (record { distinct = nothing-distinct; array = λ a. absurd (let bad : false ≡ true = a in cc) })
first-is-formed programs rules (suc n) t at = absurd (let bad : None ≡ Some t = at in cc)

job-grows : (s : ℕ) (j : Job) (g : Graph) (f : ℕ) → AreFormed g → EndHolds growing g (job_ends s j g f)
job-grows s Script g f formed = given-holds growing plainly _ g f (λ _. tt, λ c. absurd c) (formed, stays-later g)
job-grows s (CallJob v) g f formed = means-holds growing plainly _ g f (λ _. tt, λ c. absurd c) (formed, stays-later g)

ended-grows : (t : Stage) (s : ℕ) (g : Graph) (r : Ends) → EndHolds growing g r → Grows g (after t s (turn_ended s r)).graph
ended-grows t s g (Gives (Normal a) h f) p = p
ended-grows t s g (Gives (Throw v) h f) p = p
ended-grows t s g (Gives (Return v) h f) p = p
ended-grows t s g (Gives Break h f) p = p
ended-grows t s g (Gives Continue h f) p = p
ended-grows t s g (Spent h f) p = p

taken-grows : (t : Stage) (s : ℕ) (q : Option (List Job)) → AreFormed t.graph
    → Grows t.graph (after t s (take_turn t.graph s t.left q)).graph
taken-grows t s None formed = (formed, stays-later t.graph)
taken-grows t s (Some []) formed = (formed, stays-later t.graph)
taken-grows t s (Some (j ∷ js)) formed =
    let g : Graph = record (t.graph) { queues = slice_set (t.graph.queues) s js } in
    ended-grows t s g (job_ends s j g t.left) (job-grows s j g t.left formed)

pub turns-evolve : TurnsEvolve
turns-evolve stage side formed = taken-grows stage side (slice_get (stage.graph.queues) side) formed

pub letters-evolve : LettersEvolve
letters-evolve stage (Side s) formed = turns-evolve stage s formed
letters-evolve stage Cut formed = (formed, stays-later stage.graph)

stage-grows : (b : Bool) (t u : Stage) → AreFormed t.graph → Grows t.graph u.graph
    → Grows t.graph (elim b as (λ _. Stage) [ true ↦ t | false ↦ u ]).graph
stage-grows true t u formed h = (formed, stays-later t.graph)
stage-grows false t u formed h = h

word-grows : (word : List Letter) (t : Stage) → AreFormed t.graph → Grows t.graph (letters word t).graph
word-grows [] t formed = (formed, stays-later t.graph)
word-grows (x ∷ xs) t formed =
    let one = letters-evolve t x formed in
    stage-grows (is_spent t.ending) t (letters xs (one_letter t x)) formed
    (grows-on t.graph (one_letter t x).graph (letters xs (one_letter t x)).graph one (word-grows xs (one_letter t x) one.0))

rounds-grow : (count side : ℕ) (t : Stage) → AreFormed t.graph → Grows t.graph (rounds count side t).graph
rounds-grow zero side t formed = (formed, stays-later t.graph)
rounds-grow (suc n) side t formed =
    let one = turns-evolve t side formed in
    let next : ℕ = (side + 1) % length (t.graph.queues) in
    stage-grows (is_over t) t (rounds n next (one_turn t side)) formed
    (grows-on t.graph (one_turn t side).graph (rounds n next (one_turn t side)).graph one
    (rounds-grow n next (one_turn t side) one.0))

pub runs-evolve : RunsEvolve
runs-evolve programs rules word fuel =
    let start = first_stage programs rules fuel in
    let told = letters word start in
    let one = word-grows word start (first-is-formed programs rules) in
    grows-on start.graph told.graph (rounds (enough told) 0 told).graph one (rounds-grow (enough told) 0 told one.0)
