-- Which places the basic built-ins have, and what a machine with one of them on top holds and leaves.
use Rattle.std.proofs.Common.{◌+◌, ◌++◌, ◌<◌, ◌∙◌, ◌∷◌, ◌≡◌, ◌⊎◌, Bool, List, None, Ok, Option, Some, [], ap, arith, false, inl, inr, refl, slice_get, subst, suc, sym, true, true≢false, zero, ℕ}
use Rattle.std.specs.Prelude.{if◌then◌else◌, unwrap_or}
use Rattle.std.proofs.lemmas.List.Elements.{All-head}
use Rattle.mb_base.specs.declared.value.Side.{Side}
use Rattle.mb_base.specs.declared.value.Value.{Value}
use Rattle.mb_base.specs.declared.value.Value.TheVariants as v
use Rattle.mb_frames.proofs.HeldLess.{undefined-held, values-each}
use Rattle.mb_frames.proofs.Steadying.{machine-ready, step-keeps, top-holds, top-home}
use Rattle.mb_frames.specs.Held.{HeldValue, HeldValues}
use Rattle.mb_frames.specs.Holding.{frame_held}
use Rattle.mb_frames.specs.Ready.{IsReadyMachine, KeepsBy, Leaves, MayHold}
use Rattle.mb_frames.specs.Resolved.{values_in}
use Rattle.mb_frames.specs.Sorts.{AValue, Sort, frame_sort, run_gives, task_gives}
use Rattle.mb_frames.specs.Standing.{Here, forms_at}
use Rattle.mb_frames.specs.Stepping.{Stepped, Written}
use Rattle.mb_frames.specs.Wholeness.{StepsKept, sort_by}
use Rattle.mb_frames.specs.declared.frame.Frame.{Frame}
use Rattle.mb_frames.specs.declared.frame.Frame.TheVariants as x
use Rattle.mb_frames.specs.declared.frame.Move.{Move}
use Rattle.mb_frames.specs.declared.machine.Machine.{Machine}
use Rattle.mb_frames.specs.declared.machine.Waiting.{Waiting}
use Rattle.mb_frames.specs.declared.task.Task.{Task}
use Rattle.mb_frames.specs.declared.task.Task.TheVariants as task
use Rattle.mb_intrinsics.specs.Ours.{IsBasicFrame, IsBasicTask, is_basic}
use Rattle.mb_intrinsics.specs.machine.Acting.{Acting}
use Rattle.mb_model.specs.BuiltIns.Arguments.{arg}
use Rattle.mb_world.specs.Data.{Data}
use Rattle.mb_world.specs.Form.{Form}
use Rattle.mb_world.specs.Image.{Names, Resolve}
use Rattle.mb_world.specs.Intrinsics.{Intrinsic, Labelled, Later, Print, String, Symbol, intrinsic, intrinsics}
use Rattle.mb_world.specs.Objects.{intrinsic_is}
use Rattle.mb_world.specs.Standard.{constructs}

-- ---- places

-- the places from n on at which the test passes
abbrev places : {A : Type 0} → (A → Bool) → ℕ → List A → List ℕ
places p n [] = []
places p n (x ∷ xs) = if p x then n ∷ places p (suc n) xs else places p (suc n) xs

abbrev pub IsOneOf : ℕ → List ℕ → Type 0
IsOneOf n [] = ⊥
IsOneOf n (k ∷ ks) = (n ≡ k) ⊎ IsOneOf n ks

passes-at : {A : Type 0} (p : A → Bool) (xs : List A) (n k : ℕ) (x : A) → slice_get xs k ≡ Some x → p x ≡ true
    → IsOneOf (n + k) (places p n xs)
passes-at p [] n k x e h = cc
passes-at p (y ∷ ys) n zero x e h =
    let q : y ≡ x = cc in
    rw (q, h) (inl (omega arith))
passes-at p (y ∷ ys) n (suc k) x e h =
    let r : IsOneOf (suc n + k) (places p (suc n) ys) = passes-at p ys (suc n) k x e h in
    let m : suc n + k ≡ n + suc k = omega arith in
    let s : IsOneOf (n + suc k) (places p (suc n) ys) = subst (λ z. IsOneOf z (places p (suc n) ys)) m r in
    by (p y) s
  where
    by : (b : Bool) → IsOneOf (n + suc k) (places p (suc n) ys)
        → IsOneOf (n + suc k) (if b then n ∷ places p (suc n) ys else places p (suc n) ys)
    by true s = inr s
    by false s = s

-- a place is one of these five
pub basic-places : (place : ℕ) → is_basic (intrinsic place) ≡ true
    → IsOneOf place (0 ∷ 1 ∷ 2 ∷ 7 ∷ 55 ∷ [])
basic-places place h = by (intrinsic place) refl h
  where
    by : (o : Option Intrinsic) → intrinsic place ≡ o → is_basic o ≡ true → IsOneOf place (0 ∷ 1 ∷ 2 ∷ 7 ∷ 55 ∷ [])
    by None e k = absurd (true≢false (sym k))
    by (Some i) e k =
        let r : IsOneOf (0 + place) (places (λ y. is_basic (Some y)) 0 intrinsics)
        = passes-at (λ y. is_basic (Some y)) intrinsics 0 place i e k in
        let z : 0 + place ≡ place = omega arith in
        subst (λ n. IsOneOf n (0 ∷ 1 ∷ 2 ∷ 7 ∷ 55 ∷ [])) z r

pub no_other_place : (place : ℕ) → is_basic (intrinsic place) ≡ true → (place ≡ 0 → ⊥) → (place ≡ 1 → ⊥) → (place ≡ 2 → ⊥)
    → (place ≡ 7 → ⊥) → (place ≡ 55 → ⊥) → ⊥
no_other_place place h a b c d e = by (basic-places place h)
  where
    by : IsOneOf place (0 ∷ 1 ∷ 2 ∷ 7 ∷ 55 ∷ []) → ⊥
    by (inl p) = a p
    by (inr (inl p)) = b p
    by (inr (inr (inl p))) = c p
    by (inr (inr (inr (inl p)))) = d p
    by (inr (inr (inr (inr (inl p))))) = e p
    by (inr (inr (inr (inr (inr p))))) = absurd p

-- none of them constructs
basic-calls : (o : Option Intrinsic) → is_basic o ≡ true → intrinsic_is constructs o ≡ false
basic-calls None h = absurd (true≢false (sym h))
basic-calls (Some Print) h = refl
basic-calls (Some Later) h = refl
basic-calls (Some Labelled) h = refl
basic-calls (Some String) h = refl
basic-calls (Some Symbol) h = refl
basic-calls (Some _) h = absurd (true≢false (sym h))

gives-value : (target : Value) → run_gives target false ≡ AValue
gives-value v.Undefined = refl
gives-value _ = refl

task-value : (fs : List Form) (t : Task) → IsBasicTask t → task_gives fs t ≡ AValue
task-value fs (task.Run place this arguments target) h = rw (basic-calls (intrinsic place) h) (gives-value target)
task-value fs (task.Evaluate a b) h = absurd h
task-value fs (task.Loop a b) h = absurd h
task-value fs (task.Chain a b) h = absurd h
task-value fs (task.Walk a b c) h = absurd h
task-value fs (task.Perform a b c d) h = absurd h
task-value fs (task.Enter a b c) h = absurd h
task-value fs (task.Access a b c) h = absurd h
task-value fs (task.Visit a b c d e) h = absurd h

frame-value : (fs : List Form) (y : Frame) (s : Sort) → IsBasicFrame y → frame_sort fs y s ≡ AValue
frame-value fs (x.Begin t) s h = task-value fs t h
frame-value fs (x.Begun t) s h = absurd h
frame-value fs (x.Anew t) s h = task-value fs t h
frame-value fs (x.Expr y) s h = absurd h
frame-value fs (x.Stmt y) s h = absurd h
frame-value fs (x.Call y) s h = absurd h
frame-value fs (x.Reflect y) s h = absurd h
frame-value fs (x.Array y) s h = absurd h
frame-value fs (x.Proxy y) s h = absurd h
frame-value fs (x.Collect y) s h = absurd h
frame-value fs (x.Membrane y) s h = absurd h
frame-value fs (x.Entry y) s h = absurd h

-- ---- the first argument

pub first-held : (d : Data) (home : Side) (xs : List Value) → MayHold d home (HeldValues xs)
    → MayHold d home (HeldValue (unwrap_or (slice_get xs 0) v.Undefined))
first-held d home [] h = undefined-held d home
first-held d home (y ∷ ys) h = All-head (λ z. MayHold d home (HeldValue z)) y ys (values-each d home (y ∷ ys) h)

pub first-is : (n : Names) (xs : List Value) → arg (values_in n xs) 0 ≡ Resolve n
    (unwrap_or (slice_get xs 0) v.Undefined)
first-is n [] = refl
first-is n (y ∷ ys) = refl

-- ---- the machine

pub top-acts : (d : Data) (m : Machine) (below : List Waiting) (top : Waiting) → IsReadyMachine d m
    → m.stack.items ≡ below ++ (top ∷ []) → Acting d top.home (frame_held top.frame)
top-acts d m below top h was = record {
  ready = h.world;
  takes_part = top-home d m below top h was;
  holds = top-holds d m below top h was;
}

module _ (m m' : Machine) (d d' : Data) (f f' : ℕ) (l l' : Written) (q : Stepped m m' d d' f f' l l')
    (h : IsReadyMachine d m) (y : Move) (p : q.passage ≡ Here q.top.home y) (ours : IsBasicFrame q.top.frame)
    (k : KeepsBy q.top.home AValue (Ok y) d d') where
  wanted : Leaves d' q.top.home (sort_by d q.top h.formed.sort) y
  wanted = subst (λ (s : Sort). Leaves d' q.top.home s y)
      (sym (frame-value (forms_at d q.top.home) q.top.frame h.formed.sort ours)) k.leaves

  pub step-ready : IsReadyMachine d' m'
  step-ready = machine-ready m m' d d' f f' l l' q h y p k.changed wanted

  pub step-kept : StepsKept (Ok tt) m m' d d'
  step-kept = step-keeps m m' d d' f f' l l' q h y p k.changed wanted
