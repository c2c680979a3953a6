-- The scopes of the built-in names, in a world, and after a turn.
use Rattle.std.proofs.Common.{Bool, IsSomeAnd, List, None, Some, [], ap, false, map, refl, slice_get, subst, suc, true}
use Rattle.std.proofs.Common.{zero, ℕ, ◌<◌, ◌∷◌, ◌≡◌, ◌≢◌}
use Rattle.mb_base.specs.declared.value.Side.{Side}
use Rattle.mb_engine.specs.Begun.{global_scope}
use Rattle.mb_engine.specs.Turns.{Left, Turns, halts}
use Rattle.mb_engine.specs.declared.turns.TurnEnd.{TurnEnd}
use Rattle.mb_engine.specs.declared.turns.TurnEnd.TheVariants.{Ended, Idle, NoMemory, Spent, Uncaught}
use Rattle.mb_frames.specs.Stepping.{Written}
use Rattle.mb_growth.proofs.Names.{end-keeps, globals-last, naming, plainly}
use Rattle.mb_growth.specs.Names.{HasGlobals}
use Rattle.mb_model.proofs.Kept.Lasting.{scopes-refl}
use Rattle.mb_model.proofs.Kept.Rows.{given-holds, means-holds}
use Rattle.mb_model.specs.Engine.{Gives, Spent as SpentEnd, state_of}
use Rattle.mb_model.specs.Meaning.{Ends}
use Rattle.mb_model.specs.Nodes.Scopes.{scope}
use Rattle.mb_model.specs.Story as story
use Rattle.mb_model.specs.Story.{global_bindings, job_ends, turn_ended}
use Rattle.mb_model.specs.Task.{Break, Continue, Normal, Return, Throw}
use Rattle.mb_world.specs.Contained.{scope_home}
use Rattle.mb_world.specs.Data.{Data}
use Rattle.mb_world.specs.Graph.{Call as CallJob, Graph, Item, Job, Scope, Script}
use Rattle.mb_world.specs.Image.{Image, Names, names_of, scope_in}
use Rattle.mb_world.specs.declared.scope.Scope.{Scope as WorldScope}

-- ---- whose they are

home-at : (n : Names) (side : Side) (k : ℕ) (ws : List WorldScope) → slice_get (map (scope_in n) ws) k
    ≡ Some (scope side.0 None global_bindings) → IsSomeAnd (slice_get ws k) (λ x. x.home ≡ side)
home-at n side k [] e = cc
home-at n side zero (w ∷ ws) e =
    let same : scope_in n w ≡ scope side.0 None global_bindings = cc in
    ap (λ (m : ℕ). let s : Side = record { 0 = m } in s) (ap (λ (x : Scope). x.side) same)
home-at n side (suc k) (w ∷ ws) e = home-at n side k ws e

pub scope-begun : (d : Data) → HasGlobals d.sides (Image d []) → (side : Side) → side.0 < d.sides
    → scope_home d (global_scope side) side
scope-begun d has side inside = home-at (names_of d) side side.0 d.scopes (has side.0 inside)

-- ---- along a job

job-globals : (sides s : ℕ) (j : Job) (g : Graph) (f : ℕ) → HasGlobals sides g
    → HasGlobals sides (state_of (job_ends s j g f))
job-globals sides s Script g f has =
    globals-last sides g (state_of (job_ends s Script g f)) (end-keeps g (job_ends s Script g f)
    (given-holds naming plainly _ g f (λ c. absurd c, λ c. absurd c) (scopes-refl g.scopes)))
    has
job-globals sides s (CallJob v) g f has =
    globals-last sides g (state_of (job_ends s (CallJob v) g f))
    (end-keeps g (job_ends s (CallJob v) g f)
    (means-holds naming plainly _ g f (λ c. absurd c, λ c. absurd c) (scopes-refl g.scopes)))
    has

-- ---- after a turn

abbrev EndHas : ℕ → story.TurnEnd → Type 0
EndHas sides story.Idle = Unit {0}
EndHas sides (story.Ended g f) = HasGlobals sides g
EndHas sides (story.Threw g f) = HasGlobals sides g
EndHas sides (story.Unpaid g f) = HasGlobals sides g

ended-has : (sides s : ℕ) (r : Ends) → HasGlobals sides (state_of r) → EndHas sides (turn_ended s r)
ended-has sides s (Gives (Normal a) g f) h = h
ended-has sides s (Gives (Throw v) g f) h = h
ended-has sides s (Gives (Return v) g f) h = h
ended-has sides s (Gives Break g f) h = h
ended-has sides s (Gives Continue g f) h = h
ended-has sides s (SpentEnd g f) h = h

left-has : (sides : ℕ) (d' : Data) (l l' : Written) (log : List Item) (g : Graph) → Left d' l l' log g
    → HasGlobals sides g → HasGlobals sides (Image d' [])
left-has sides d' l l' log g left h = subst (HasGlobals sides) left.image h

turned-has : (sides : ℕ) (end : TurnEnd) (d' : Data) (f' : ℕ) (l l' : Written) (log : List Item) (t : story.TurnEnd)
    → Turns end d' f' l l' log t → end ≢ Idle → halts end ≡ false → EndHas sides t → HasGlobals sides (Image d' [])
turned-has sides Idle d' f' l l' log t p worked on h = absurd (worked refl)
turned-has sides Ended d' f' l l' log t p worked on h =
    left-has sides d' l l' log p.0 p.2 (subst (EndHas sides) p.1 h)
turned-has sides Uncaught d' f' l l' log t p worked on h =
    left-has sides d' l l' log p.0 p.2 (subst (EndHas sides) p.1 h)
turned-has sides Spent d' f' l l' log t p worked on h =
    left-has sides d' l l' log p.0 p.2 (subst (EndHas sides) p.1 h)
turned-has sides NoMemory d' f' l l' log t p worked on h = absurd (let bad : true ≡ false = on in cc)

pub turn-globals : (sides s : ℕ) (j : Job) (d d' : Data) (f f' : ℕ) (l l' : Written) (log : List Item) (end : TurnEnd)
    → HasGlobals sides (Image d [])
    → Turns end d' f' l l' log (turn_ended s (job_ends s j (Image d log) f)) → end ≢ Idle → halts end ≡ false
    → HasGlobals sides (Image d' [])
turn-globals sides s j d d' f f' l l' log end has p worked on =
    turned-has sides end d' f' l l' log _ p worked on
    (ended-has sides s (job_ends s j (Image d log) f) (job-globals sides s j (Image d log) f has))
