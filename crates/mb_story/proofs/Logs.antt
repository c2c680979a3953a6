-- A run only adds to its log, and so to its lines.
use Rattle.std.proofs.Common.{Bool, List, None, Option, Some, [], ap, arith, false, length, refl, slice_get, slice_set, subst, suc, sym, true, zero, ℕ, ◌%◌, ◌+◌, ◌++◌, ◌∙◌, ◌∷◌, ◌≡◌, append-nil, append_assoc}
use Rattle.mb_model.proofs.Kept.Rows.{EndHolds, IsPlain, given-holds, means-holds}
use Rattle.mb_model.proofs.Kept.Words.{Kept, beside-objects}
use Rattle.mb_model.specs.Engine.{Gives, Spent}
use Rattle.mb_model.specs.Meaning.{Ends}
use Rattle.mb_model.specs.Story.{Letter, Stage, after, is_over, is_spent, job_ends, letters, one_letter, one_turn, rounds, take_turn, thrown_text, turn_ended}
use Rattle.mb_model.specs.Story as story
use Rattle.mb_model.specs.Task.{Break, Continue, Normal, Return, Throw}
use Rattle.mb_world.specs.Graph.{Call as CallJob, Graph, Item, Job, Script, Traced, Uncaught}

-- the one log goes on in the other
abbrev pub LogGoesOn : List Item → List Item → Type 0
LogGoesOn log log' = (more : List Item) × (log' ≡ log ++ more)

pub log-stays : (log : List Item) → LogGoesOn log log
log-stays log = ([], sym (append-nil log))

pub log-more : (log more : List Item) → LogGoesOn log (log ++ more)
log-more log more = (more, refl)

pub log-on : (a b c : List Item) → LogGoesOn a b → LogGoesOn b c → LogGoesOn a c
log-on a b c p q = (p.0 ++ q.0, q.1 ∙ ap (λ (l : List Item). l ++ q.0) p.1 ∙ append_assoc a p.0 q.0)

-- along a task
abbrev adding : Kept
adding = record {
  cares = ⊥;
  owns = ⊥;
  to = λ f g. LogGoesOn f.log g.log;
  owed = λ b o g. Unit {0};
  ended = λ b g o abrupt h. tt;
  known = λ t s o g. Unit {0};
  stays = λ f g p. log-stays g.log;
  goes_on = λ f g h p q. log-on f.log g.log h.log p q;
  made = λ f g t new p. p;
  moved = λ f g o t u at by p. beside-objects (λ (h : Graph). LogGoesOn f.log h.log) g o u (λ ts. p) p;
  symbols = λ f g ds p. p;
  scopes = λ f g ss last p. p;
  log = λ f g i none p. log-on f.log g.log (g.log ++ (i ∷ [])) p (log-more g.log (i ∷ []));
  job = λ f g s v p. p;
}

adding-plain : IsPlain adding
adding-plain = record {
  owes = λ b g o h. tt;
  knows = λ t s g o. tt;
  notes = λ b g e p. log-on b.log g.log (g.log ++ (Traced e ∷ [])) p (log-more g.log (Traced e ∷ []));
}

-- along a turn
ended-adds : (t : Stage) (s : ℕ) (g : Graph) (r : Ends) → EndHolds adding g r
    → LogGoesOn g.log (after t s (turn_ended s r)).graph.log
ended-adds t s g (Gives (Normal a) h f) p = p
ended-adds t s g (Gives (Throw v) h f) p =
    log-on g.log h.log (h.log ++ (Uncaught s (thrown_text h v) ∷ [])) p (log-more h.log (Uncaught s (thrown_text h v) ∷ []))
ended-adds t s g (Gives (Return v) h f) p = p
ended-adds t s g (Gives Break h f) p = p
ended-adds t s g (Gives Continue h f) p = p
ended-adds t s g (Spent h f) p = p

job-adds : (s : ℕ) (j : Job) (g : Graph) (f : ℕ) → EndHolds adding g (job_ends s j g f)
job-adds s Script g f = given-holds adding adding-plain _ g f (λ _. tt, λ _. tt) (log-stays g.log)
job-adds s (CallJob v) g f = means-holds adding adding-plain _ g f (λ _. tt, λ _ _. refl) (log-stays g.log)

taken-adds : (t : Stage) (s : ℕ) (q : Option (List Job))
    → LogGoesOn t.graph.log (after t s (take_turn t.graph s t.left q)).graph.log
taken-adds t s None = log-stays t.graph.log
taken-adds t s (Some []) = log-stays t.graph.log
taken-adds t s (Some (j ∷ js)) =
    let g : Graph = record (t.graph) { queues = slice_set (t.graph.queues) s js } in
    ended-adds t s g (job_ends s j g t.left) (job-adds s j g t.left)

-- the log of the one stage goes on in that of the other
abbrev pub GoesOn : Stage → Stage → Type 0
GoesOn t u = LogGoesOn t.graph.log u.graph.log

pub stage-stays : (t : Stage) → GoesOn t t
stage-stays t = log-stays t.graph.log

pub stage-on : (t u v : Stage) → GoesOn t u → GoesOn u v → GoesOn t v
stage-on t u v p q = log-on t.graph.log u.graph.log v.graph.log p q

pub turn-adds : (t : Stage) (s : ℕ) → GoesOn t (one_turn t s)
turn-adds t s = taken-adds t s (slice_get (t.graph.queues) s)

pub letter-adds : (t : Stage) (x : Letter) → GoesOn t (one_letter t x)
letter-adds t (story.Side s) = turn-adds t s
letter-adds t story.Cut = stage-stays t

-- along a word and along rounds
stage-adds : (b : Bool) (t u : Stage) → GoesOn t u → GoesOn t (elim b as (λ _. Stage) [ true ↦ t | false ↦ u ])
stage-adds true t u p = stage-stays t
stage-adds false t u p = p

pub word-adds : (word : List Letter) (t : Stage) → GoesOn t (letters word t)
word-adds [] t = stage-stays t
word-adds (x ∷ xs) t =
    stage-adds (is_spent t.ending) t (letters xs (one_letter t x))
    (stage-on t (one_letter t x) (letters xs (one_letter t x)) (letter-adds t x) (word-adds xs (one_letter t x)))

pub rounds-add : (n s : ℕ) (t : Stage) → GoesOn t (rounds n s t)
rounds-add zero s t = stage-stays t
rounds-add (suc n) s t =
    let next : ℕ = (s + 1) % length (t.graph.queues) in
    stage-adds (is_over t) t (rounds n next (one_turn t s))
    (stage-on t (one_turn t s) (rounds n next (one_turn t s)) (turn-adds t s) (rounds-add n next (one_turn t s)))

both-add : (b : Bool) (t u v : Stage) → GoesOn u v
    → GoesOn (elim b as (λ _. Stage) [ true ↦ t | false ↦ u ]) (elim b as (λ _. Stage) [ true ↦ t | false ↦ v ])
both-add true t u v p = stage-stays t
both-add false t u v p = p

-- more rounds
pub rounds-more : (n m s : ℕ) (t : Stage) → GoesOn (rounds n s t) (rounds (n + m) s t)
rounds-more zero m s t =
    let z : zero + m ≡ m = omega arith in
    subst (λ (k : ℕ). GoesOn t (rounds k s t)) (sym z) (rounds-add m s t)
rounds-more (suc n) m s t =
    let next : ℕ = (s + 1) % length (t.graph.queues) in
    let z : suc n + m ≡ suc (n + m) = omega arith in
    subst (λ (k : ℕ). GoesOn (rounds (suc n) s t) (rounds k s t)) (sym z)
    (both-add (is_over t) t (rounds n next (one_turn t s)) (rounds (n + m) next (one_turn t s))
    (rounds-more n m next (one_turn t s)))
