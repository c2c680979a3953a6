-- Scripts and jobs that a world is given side by side.
use Rattle.mb_base.specs.declared.value.Side.{Side}
use Rattle.mb_engine.specs.machine.Beginning.{scripts_in, started, with_scripts, with_started}
use Rattle.mb_frames.proofs.Parts.{right-part}
use Rattle.mb_intrinsics.proofs.Binding.{all-under}
use Rattle.mb_tree.specs.declared.program.Program.{Program}
use Rattle.mb_world.specs.Data.{Data, Script, queue_of, script_of, with_program, with_queue}
use Rattle.mb_world.specs.Ids.{ScriptIn}
use Rattle.mb_world.specs.declared.scope.Job.{Job}
use Rattle.mb_world.specs.declared.scope.Job.TheVariants as j
use Rattle.std.proofs.Common.{List, Option, Some, [], add-one, ap, arith, length, map, refl, slice_index_or}
use Rattle.std.proofs.Common.{slice_set, subst, suc, sym, zero, ℕ, ◌+◌, ◌++◌, ◌<◌, ◌≤◌, ◌∙◌, ◌∷◌, ◌≡◌}
use Rattle.std.proofs.lemmas.List.{length-append, length-map}
use Rattle.std.proofs.lemmas.List.Elements.{All-head}
use Rattle.std.specs.Prelude.{All}

-- ---- scripts

script-more : (ss : List Script) (ps : List (Option Script)) (k : ℕ) (s : Script) → k ≡ length ss
    → slice_set (scripts_in ss ps) k (Some s) ≡ scripts_in (ss ++ s ∷ []) ps
script-more [] [] zero s e = refl
script-more [] (p ∷ ps) zero s e = refl
script-more [] ps (suc k) s e = absurd (omega (arith, e))
script-more (x ∷ ss) ps zero s e = absurd (omega (arith, e))
script-more (x ∷ ss) [] (suc k) s e = refl
script-more (x ∷ ss) (p ∷ ps) (suc k) s e =
    ap (λ (os : List (Option Script)). Some x ∷ os) (script-more ss ps k s (omega (arith, e)))

mapped-last : {A B : Type 0} (f : A → B) (xs : List A) (x : A) → map f (xs ++ x ∷ []) ≡ map f xs ++ f x ∷ []
mapped-last f [] x = refl
mapped-last f (y ∷ ys) x = ap (λ zs. f y ∷ zs) (mapped-last f ys x)

pub scripts-step : (d d1 d2 : Data) (side : Side) (xs : List Program) (x : Program) → side.0 ≡ length xs
    → d1 ≡ with_scripts d (map script_of xs) → d2 ≡ with_program d1 side (script_of x)
    → d2 ≡ with_scripts d (map script_of (xs ++ x ∷ []))
scripts-step d d1 d2 side xs x at e f =
    f ∙ ap (λ (y : Data). with_program y side (script_of x)) e
    ∙ ap (λ (ps : List (Option Script)). let y : Data = record d { programs = ps } in y)
    (script-more (map script_of xs) d.programs side.0 (script_of x) (at ∙ sym (length-map xs script_of)))
    ∙ ap (λ (ss : List Script). with_scripts d ss) (sym (mapped-last script_of xs x))

pub nothing-left : {A : Type 0} (xs : List A) → length xs ≡ 0 → xs ≡ []
nothing-left [] e = refl
nothing-left (x ∷ xs) e = absurd (omega (arith, e))

-- there are no more than eight sides
pub within-eight : (done rest all : List Program) (x : Program) (k : ℕ) → k ≡ length done → done ++ (x ∷ rest) ≡ all
    → length all ≤ 8 → k < 8
within-eight done rest all x k at is l =
    omega (arith, at, l, length-append done (x ∷ rest), ap (λ (ps : List Program). length ps) is)

-- a script that is still to come is one of those that were given
pub script-ids : (d d1 : Data) (done rest all : List Program) (x : Program) → All (ScriptIn d) (map script_of all)
    → done ++ (x ∷ rest) ≡ all → d1 ≡ with_scripts d (map script_of done) → ScriptIn d1 (script_of x)
script-ids d d1 done rest all x ids is e =
    let its : All (λ p. ScriptIn d (script_of p)) (done ++ (x ∷ rest)) =
    subst (λ (ps : List Program). All (λ p. ScriptIn d (script_of p)) ps) (sym is)
    (all-under (ScriptIn d) script_of all ids) in
    subst (λ (y : Data). ScriptIn y (script_of x)) (sym e)
    (same (All-head (λ p. ScriptIn d (script_of p)) x rest
    (right-part (λ p. ScriptIn d (script_of p)) done (x ∷ rest) its)))
  where
    same : ScriptIn d (script_of x) → ScriptIn (with_scripts d (map script_of done)) (script_of x)
    same h = record { nodes_in = h.nodes_in; names_in = h.names_in }

-- ---- jobs

job-more : (qs : List (List Job)) (k : ℕ)
    → slice_set (started k qs) k (slice_index_or (started k qs) k [] ++ j.Script ∷ []) ≡ started (suc k) qs
job-more [] zero = refl
job-more [] (suc k) = refl
job-more (q ∷ qs) zero = refl
job-more (q ∷ qs) (suc k) = ap (λ (rs : List (List Job)). (q ++ j.Script ∷ []) ∷ rs) (job-more qs k)

pub jobs-step : (d d1 d2 : Data) (side : Side) → d1 ≡ with_started d side.0
    → d2 ≡ with_queue d1 side (queue_of d1 side ++ j.Script ∷ []) → d2 ≡ with_started d (side.0 + 1)
jobs-step d d1 d2 side e f =
    f ∙ ap (λ (x : Data). with_queue x side (queue_of x side ++ j.Script ∷ [])) e
    ∙ ap (λ (qs : List (List Job)). let x : Data = record d { queues = qs } in x)
    (rw add-one (job-more d.queues side.0))
