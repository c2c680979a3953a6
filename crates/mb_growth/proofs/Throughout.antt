-- What every job keeps holds throughout a run.
use Rattle.std.proofs.Common.{ℕ, zero, suc, ◌+◌, ◌%◌, Bool, true, false, List, [], ◌∷◌, length, Option, None, Some, slice_get, slice_set}
use Rattle.mb_world.specs.Value.{Val}
use Rattle.mb_world.specs.Graph.{Graph, Program, Rule, Job}
use Rattle.mb_model.specs.Engine.{Gives, Spent, state_of}
use Rattle.mb_model.specs.Task.{Normal, Throw, Return, Break, Continue}
use Rattle.mb_model.specs.Meaning.{Ends}
use Rattle.mb_model.specs.Story.{Stage, Letter, Side, Cut, with_uncaught, turn_ended, job_ends, after, take_turn, one_turn, one_letter, letters, is_spent, is_over, rounds, first_graph, first_stage, enough, Story}

-- a job keeps it, and so do what a run does beside jobs
pub record Lasting (good : Graph → Type 0) : Type 0 where
  pub job : (s : ℕ) (j : Job) (g : Graph) (f : ℕ) → good g → good (state_of (job_ends s j g f))
  pub queues : (g : Graph) (qs : List (List Job)) → good g → good (record g { queues = qs })
  pub uncaught : (g : Graph) (s : ℕ) (v : Val) → good g → good (with_uncaught s v g)
  pub cut : (g : Graph) → good g → good (record g { revoked = true })

module _ (good : Graph → Type 0) (lasting : Lasting good) where
  ended-good : (t : Stage) (s : ℕ) (r : Ends) → good (state_of r) → good (after t s (turn_ended s r)).graph
  ended-good t s (Gives (Normal a) h f) p = p
  ended-good t s (Gives (Throw v) h f) p = lasting.uncaught h s v p
  ended-good t s (Gives (Return v) h f) p = p
  ended-good t s (Gives Break h f) p = p
  ended-good t s (Gives Continue h f) p = p
  ended-good t s (Spent h f) p = p

  taken-good : (t : Stage) (s : ℕ) (q : Option (List Job)) → good t.graph
      → good (after t s (take_turn t.graph s t.left q)).graph
  taken-good t s None p = p
  taken-good t s (Some []) p = p
  taken-good t s (Some (j ∷ js)) p =
      let qs : List (List Job) = slice_set (t.graph.queues) s js in
      ended-good t s (job_ends s j (record (t.graph) { queues = qs }) t.left)
      (lasting.job s j (record (t.graph) { queues = qs }) t.left (lasting.queues t.graph qs p))

  pub turn-good : (t : Stage) (s : ℕ) → good t.graph → good (one_turn t s).graph
  turn-good t s p = taken-good t s (slice_get (t.graph.queues) s) p

  pub letter-good : (t : Stage) (letter : Letter) → good t.graph → good (one_letter t letter).graph
  letter-good t (Side s) p = turn-good t s p
  letter-good t Cut p = lasting.cut t.graph p

  stage-good : (b : Bool) (t u : Stage) → good t.graph → good u.graph
      → good (elim b as (λ _. Stage) [ true ↦ t | false ↦ u ]).graph
  stage-good true t u p q = p
  stage-good false t u p q = q

  word-good : (word : List Letter) (t : Stage) → good t.graph → good (letters word t).graph
  word-good [] t p = p
  word-good (x ∷ xs) t p =
      stage-good (is_spent t.ending) t (letters xs (one_letter t x)) p (word-good xs (one_letter t x) (letter-good t x p))

  rounds-good : (count side : ℕ) (t : Stage) → good t.graph → good (rounds count side t).graph
  rounds-good zero side t p = p
  rounds-good (suc n) side t p =
      let next : ℕ = (side + 1) % length (t.graph.queues) in
      stage-good (is_over t) t (rounds n next (one_turn t side)) p (rounds-good n next (one_turn t side) (turn-good t side p))

  pub run-good : (programs : List Program) (rules : List Rule) (word : List Letter) (fuel : ℕ)
      → good (first_graph programs rules) → good (Story programs rules word fuel).graph
  run-good programs rules word fuel p =
      let told : Stage = letters word (first_stage programs rules fuel) in
      rounds-good (enough told) 0 told (word-good word (first_stage programs rules fuel) p)
