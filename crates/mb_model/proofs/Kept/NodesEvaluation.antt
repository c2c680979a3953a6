use Rattle.std.specs.Prelude.{ℕ, Bool, true, false, Option, Some, None}
use Rattle.mb_model.specs.Task.{Nothing}
use Rattle.mb_model.specs.Nodes.Evaluation.{Context, task, eval, branch}
use Rattle.mb_model.proofs.Kept.Words.{Kept, Goes, keeps-answer, keeps-give, keeps-value}

-- what the parts of these rows keep (written by tools/kept.py)

pub keeps-eval : (kept : Kept) (x0 : Context) (x1 : ℕ) → Goes kept (eval x0 x1)
keeps-eval kept c n = keeps-value kept (task c n) (λ _. (λ _. tt, λ _. tt))

pub keeps-branch : (kept : Kept) (x0 : Context) (x1 : ℕ) (x2 : Option ℕ) (x3 : Bool) → Goes kept (branch x0 x1 x2 x3)
keeps-branch kept c main other true = keeps-answer kept (task c main) (λ _. (λ _. tt, λ _. tt))
keeps-branch kept c main None false = keeps-give kept Nothing
keeps-branch kept c main (Some other) false = keeps-answer kept (task c other) (λ _. (λ _. tt, λ _. tt))
