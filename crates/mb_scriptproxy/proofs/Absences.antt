-- Properties that a trap said to be absent, and what it said of one that is there.
use Rattle.std.proofs.Common.{None, Option, Result, Some, [], ap, refl, slice_get, true, ℕ, ◌∷◌, ◌≡◌}
use Rattle.mb_base.specs.declared.value.Key.{Key}
use Rattle.mb_base.specs.declared.value.ObjId.{ObjId}
use Rattle.mb_base.specs.declared.value.Side.{Side}
use Rattle.mb_base.specs.declared.value.Value.{Value}
use Rattle.mb_base.specs.declared.value.Value.TheVariants as v
use Rattle.mb_check.specs.declared.verdict.Verdict.{Verdict}
use Rattle.mb_check.specs.declared.verdict.Verdict.TheVariants.{Broken, Pass}
use Rattle.mb_desc.specs.declared.descriptor.Full.{Full}
use Rattle.mb_frames.proofs.Passed.{Part-by}
use Rattle.mb_frames.specs.Held.{HeldFull, HeldObject}
use Rattle.mb_frames.specs.Passing.{Part}
use Rattle.mb_frames.specs.Ready.{Holds}
use Rattle.mb_frames.specs.Rest.Calls.{after_desc}
use Rattle.mb_frames.specs.Rest.Proxying.{absent_answer, absent_verdict}
use Rattle.mb_frames.specs.Stepping.{Sure}
use Rattle.mb_frames.specs.declared.calls.AfterDesc.TheVariants as desc
use Rattle.mb_frames.specs.declared.frame.Frame.TheVariants as x
use Rattle.mb_frames.specs.declared.frame.Move.{Move}
use Rattle.mb_frames.specs.declared.frame.Move.TheVariants as move
use Rattle.mb_frames.specs.declared.machine.Halt.{Halt}
use Rattle.mb_frames.specs.declared.proxies.Absent.{Absent}
use Rattle.mb_frames.specs.declared.proxies.Absent.TheVariants as absent
use Rattle.mb_frames.specs.declared.proxies.ProxyFrame.TheVariants as p
use Rattle.mb_frames.specs.declared.task.Method.TheVariants as m
use Rattle.mb_frames.specs.declared.task.Task.TheVariants as task
use Rattle.mb_model.specs.Meaning.{finished}
use Rattle.mb_model.specs.Objects.Proxies.{absent_extensible, absent_read, judge, own_present_said, own_said}
use Rattle.mb_model.specs.Objects.Proxies.{read_extensible}
use Rattle.mb_model.specs.Operations.Descriptors.{todesc}
use Rattle.mb_model.specs.Task.{Answer}
use Rattle.mb_model.specs.Writing.{◌>>=◌, Does, type_error}
use Rattle.mb_scriptproxy.proofs.Asking.{Sure-asks}
use Rattle.mb_world.specs.Data.{AtPlace, Before, Counted, Data, Hidden, Stand}
use Rattle.mb_world.specs.Image.{Image, Names, Resolve, full_in, key_in, names_of, object_in, stood}
use Rattle.mb_world.specs.Key.{PropertyKey}
use Rattle.mb_world.specs.Value.{Val}

-- no rule is broken where the target lacks the property
pub none-passes : (a : Absent) → absent_verdict a None true ≡ Pass
none-passes absent.Own = refl
none-passes absent.Has = refl
none-passes absent.Delete = refl

-- ---- the target has it

module _ (home : Side) (d : Data) (target : ObjId) (a : Absent) (real : Full Value) where
  abbrev t : Val
  t = object_in (names_of d) target

  -- what follows the first rule
  abbrev first : Verdict → Does Answer
  first z =
      judge home.0 z (absent_answer a)
      >>= (λ b. read_extensible home.0 t
      >>= absent_extensible home.0 (absent_verdict a (Some (full_in (names_of d) real))) (absent_answer a))

  pub found-asks : Holds d home (HeldObject target ∷ HeldFull real ∷ [])
      → absent_verdict a (Some (full_in (names_of d) real)) true ≡ Pass
      → Sure home d
      (absent_read home.0 (object_in (names_of d) target) (absent_verdict a) (absent_answer a)
      (Some (full_in (names_of d) real)) finished)
      (move.Wait (x.Proxy (p.AbsentExtensible real a)) (task.Perform m.IsExtensible target home true))
  found-asks h e =
      Sure-asks home d (p.AbsentExtensible real a) m.IsExtensible target h.1 (h.0, tt)
      (absent_read home.0 t (absent_verdict a) (absent_answer a) (Some (full_in (names_of d) real)) finished)
      (λ log. ap (λ (z : Verdict). first z finished (Image d log)) e)

pub Part-broken : (home : Side) (r : Result Move Halt) (d d' : Data) (f : ℕ) (target : ObjId) (a : Absent)
    (real : Full Value) (n : ℕ) → absent_verdict a (Some (full_in (names_of d) real)) true ≡ Broken n
    → Part home r d d' f f (type_error home.0 finished)
    → Part home r d d' f f
    (absent_read home.0 (object_in (names_of d) target) (absent_verdict a) (absent_answer a)
    (Some (full_in (names_of d) real)) finished)
Part-broken home r d d' f target a real n e h =
    Part-by home r d d' f f
    (absent_read home.0 (object_in (names_of d) target) (absent_verdict a) (absent_answer a)
    (Some (full_in (names_of d) real)) finished)
    (type_error home.0 finished)
    (λ log. ap (λ (z : Verdict). first home d target a real z finished (Image d log)) e) h

-- ---- a property that is there must be an object

own-stood : (n : Names) (s : ℕ) (t : Val) (k : PropertyKey) (i : ℕ) (o : Option Stand)
    → own_said s t k (stood n i o) ≡ own_present_said s t k (stood n i o)
own-stood n s t k i (Some Counted) = refl
own-stood n s t k i (Some (AtPlace place)) = refl
own-stood n s t k i (Some (Before behind)) = refl
own-stood n s t k i (Some Hidden) = refl
own-stood n s t k i None = refl

pub Part-described : (home : Side) (r : Result Move Halt) (d d' : Data) (f : ℕ) (target : ObjId) (key : Key)
    (said : Value) (o : ObjId) → said ≡ v.Object o
    → Part home r d d' f f
    ((todesc home.0 (Resolve (names_of d) said) >>= after_desc (names_of d) home.0 (desc.Own target key)) finished)
    → Part home r d d' f f
    (own_said home.0 (object_in (names_of d) target) (key_in (names_of d) key) (Resolve (names_of d) said) finished)
Part-described home r d d' f target key said o e h =
    let n = names_of d in
    let t = object_in n target in
    let k = key_in n key in
    rw e (Part-by home r d d' f f (own_said home.0 t k (object_in n o) finished)
    ((todesc home.0 (object_in n o) >>= after_desc n home.0 (desc.Own target key)) finished)
    (λ log. ap (λ (q : Does Answer). q finished (Image d log)) (own-stood n home.0 t k o.0 (slice_get n.stands o.0)))
    (rw e at h))

own-other : (n : Names) (s : ℕ) (t : Val) (k : PropertyKey) (y : Value) → (y ≡ v.Undefined → ⊥)
    → ((o : ObjId) → y ≡ v.Object o → ⊥) → own_said s t k (Resolve n y) ≡ type_error s
own-other n s t k v.Undefined h g = absurd (h refl)
own-other n s t k v.Null h g = refl
own-other n s t k (v.Bool b) h g = refl
own-other n s t k (v.Whole z) h g = refl
own-other n s t k (v.Text x) h g = refl
own-other n s t k (v.Symbol x) h g = refl
own-other n s t k (v.Object o) h g = absurd (g o refl)

pub Part-undescribed : (home : Side) (r : Result Move Halt) (d d' : Data) (f : ℕ) (target : ObjId) (key : Key)
    (said : Value) → (said ≡ v.Undefined → ⊥) → ((o : ObjId) → said ≡ v.Object o → ⊥)
    → Part home r d d' f f (type_error home.0 finished)
    → Part home r d d' f f
    (own_said home.0 (object_in (names_of d) target) (key_in (names_of d) key) (Resolve (names_of d) said) finished)
Part-undescribed home r d d' f target key said h g q =
    let n = names_of d in
    Part-by home r d d' f f
    (own_said home.0 (object_in n target) (key_in n key) (Resolve n said) finished) (type_error home.0 finished)
    (λ log. ap (λ (z : Does Answer). z finished (Image d log))
    (own-other n home.0 (object_in n target) (key_in n key) said h g)) q
