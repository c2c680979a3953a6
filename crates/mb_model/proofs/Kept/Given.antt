use Rattle.std.proofs.Common.{ℕ, refl, ◌∙◌}
use Rattle.std.proofs.lemmas.List.{length-set}
use Rattle.mb_world.specs.Graph.{Graph}
use Rattle.mb_model.specs.Engine.{Gives, Spent, state_of}
use Rattle.mb_model.specs.Task.{Task}
use Rattle.mb_model.specs.Meaning.{Ends, Means, KeepsGiven}
use Rattle.mb_model.proofs.Kept.Words.{Kept, Fitted, beside-objects}
use Rattle.mb_model.proofs.Kept.Rows.{IsPlain, EndHolds, means-holds}

-- no row changes what the run was given

abbrev given_by : Kept
given_by = record {
  cares = ⊥;
  owns = ⊥;
  to = KeepsGiven;
  owed = λ b o g. Unit {0};
  ended = λ b g o abrupt h. tt;
  known = λ t s o g. Unit {0};
  stays = λ f g k. (refl, refl, refl, refl);
  goes_on = λ f g h k l. (l.0 ∙ k.0, l.1 ∙ k.1, l.2 ∙ k.2, l.3 ∙ k.3);
  made = λ f g t new k. k;
  moved = λ f g o t u at by k. beside-objects (KeepsGiven f) g o u (λ ts. k) k;
  symbols = λ f g ds k. k;
  scopes = λ f g ss last k. k;
  log = λ f g i none k. k;
  job = λ f g s v k. (k.0, k.1, k.2, length-set g.queues s _ ∙ k.3);
}

at-end : (kept : Kept) (b : Graph) (r : Ends) → EndHolds kept b r → kept.to b (state_of r)
at-end kept b (Gives o s f) h = h
at-end kept b (Spent s f) h = h

-- what a task that fits goes on along
pub means-goes : (kept : Kept) → IsPlain kept → (t : Task) (g : Graph) (f : ℕ) → Fitted kept t g → kept.to g g → kept.to g (state_of (Means t g f))
means-goes kept plain t g f fit h = at-end kept g (Means t g f) (means-holds kept plain t g f fit h)

pub keeps-given : (t : Task) (g : Graph) (f : ℕ) → KeepsGiven g (state_of (Means t g f))
keeps-given t g f = means-goes given_by (record { owes = λ b h o k. tt; knows = λ u s h o. tt; notes = λ b h e k. k }) t g f (λ c. absurd c, λ c. absurd c) (refl, refl, refl, refl)
