use Rattle.std.proofs.Common.{◌≡◌, ℕ, zero, suc, ◌+◌, ◌≤◌, List, [], ◌∷◌, ◌++◌, length, slice_get, slice_set, refl, ◌∙◌, ap, arith}
use Rattle.std.proofs.lemmas.List.{length-set}
use Rattle.mb_world.specs.Value.{Val}
use Rattle.mb_world.specs.Graph.{Graph, Job, Script, Call as CallJob}
use Rattle.mb_model.specs.BuiltIns.Basics.{queue_or_empty, with_job}
use Rattle.mb_model.proofs.Kept.Words.{Kept, beside-objects}

-- along rows no script begins to wait, and the number of queues stays

-- a script that waits counts one
abbrev pub script_of : Job → ℕ
script_of Script = 1
script_of (CallJob v) = 0

abbrev pub scripts_of : List Job → ℕ
scripts_of [] = 0
scripts_of (j ∷ js) = script_of j + scripts_of js

-- how many scripts wait in all queues
abbrev pub scripts : List (List Job) → ℕ
scripts [] = 0
scripts (q ∷ qs) = scripts_of q + scripts qs

call-added : (q : List Job) (v : Val) → scripts_of (q ++ (CallJob v ∷ [])) ≡ scripts_of q
call-added [] v = refl
call-added (j ∷ js) v = ap (λ x. script_of j + x) (call-added js v)

pub scripts-added : (qs : List (List Job)) (s : ℕ) (v : Val) →
    scripts (slice_set qs s (queue_or_empty (slice_get qs s) ++ (CallJob v ∷ []))) ≡ scripts qs
scripts-added [] s v = refl
scripts-added (q ∷ qs) zero v = ap (λ x. x + scripts qs) (call-added q v)
scripts-added (q ∷ qs) (suc s) v = ap (λ x. scripts_of q + x) (scripts-added qs s v)

-- there are k queues, and at most n scripts wait
abbrev pub Waiting : (k n : ℕ) → Graph → Type 0
Waiting k n g = (length g.queues ≡ k) × (scripts g.queues ≤ n)

abbrev pub queued : (k n : ℕ) → Kept
queued k n = record {
  cares = ⊥;
  owns = ⊥;
  to = λ f g. Waiting k n g;
  owed = λ b o g. Unit {0};
  ended = λ b g o abrupt h. tt;
  known = λ t s o g. Unit {0};
  stays = λ f g h. h;
  goes_on = λ f g h a b. b;
  made = λ f g t new h. h;
  moved = λ f g o t u at by h. beside-objects (Waiting k n) g o u (λ ts. h) h;
  symbols = λ f g ds h. h;
  scopes = λ f g ss last h. h;
  log = λ f g i none h. h;
  job = λ f g s v h.
      let same : length (with_job s (CallJob v) g).queues ≡ length g.queues = length-set g.queues s _ in
      let few : scripts (with_job s (CallJob v) g).queues ≡ scripts g.queues = scripts-added g.queues s v in
      (same ∙ h.0, omega (arith, few, h));
}
