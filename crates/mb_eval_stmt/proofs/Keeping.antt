-- Parts of statements keep a world ready one after the other, and what may be held is held on.
use Rattle.std.proofs.Common.{◌<◌, ◌≡◌, None, Ok, Option, Result, Some, refl, sym, true, true≢false}
use Rattle.std.specs.Prelude.{IsSomeAnd}
use Rattle.mb_base.specs.declared.value.NodeId.{NodeId}
use Rattle.mb_base.specs.declared.value.ScopeId.{ScopeId}
use Rattle.mb_base.specs.declared.value.Side.{Side}
use Rattle.mb_eval_stmt.proofs.Rows.{IsFor-grows, inside}
use Rattle.mb_eval_stmt.specs.declared.fors.ForParts.{ForParts}
use Rattle.mb_eval_stmt.specs.machine.Keeping.{context_held}
use Rattle.mb_eval_stmt.specs.machine.Plain.{IsFor}
use Rattle.mb_frames.proofs.Forms.{forms-grow}
use Rattle.mb_frames.proofs.Keeping.{inside-still}
use Rattle.mb_frames.proofs.Leaving.{holds-still}
use Rattle.mb_frames.proofs.Readying.{changed-same, changed-then}
use Rattle.mb_frames.specs.Keeping.{KeepsAnswer, scope_held}
use Rattle.mb_frames.specs.Kinds.{Statement, form_sort, is_for_form, is_list_form, is_try_form}
use Rattle.mb_frames.specs.Ready.{Changed, Holds, IsReady, KeepsBy, Leaves, LeavesBy}
use Rattle.mb_frames.specs.Sorts.{ACompletion}
use Rattle.mb_frames.specs.Told.{sort_of_parts}
use Rattle.mb_frames.specs.declared.frame.Move.{Move}
use Rattle.mb_frames.specs.declared.machine.Halt.{Halt}
use Rattle.mb_frames.specs.declared.task.Context.{Context}
use Rattle.mb_world.specs.Data.{Data}
use Rattle.mb_world.specs.Form.{BlockForm, ForForm, Form, ScriptForm, TryForm}

-- ---- nodes by their forms

pub list-statement : (f : Option Form) → is_list_form f ≡ true → IsSomeAnd f (λ g. form_sort g ≡ Statement)
list-statement None h = absurd (true≢false (sym h))
list-statement (Some (ScriptForm ns)) h = refl
list-statement (Some (BlockForm ns)) h = refl
list-statement (Some _) h = absurd (true≢false (sym h))

pub for-statement : (f : Option Form) → is_for_form f ≡ true → IsSomeAnd f (λ g. form_sort g ≡ Statement)
for-statement None h = absurd (true≢false (sym h))
for-statement (Some (ForForm a b c x)) h = refl
for-statement (Some _) h = absurd (true≢false (sym h))

pub try-statement : (f : Option Form) → is_try_form f ≡ true → IsSomeAnd f (λ g. form_sort g ≡ Statement)
try-statement None h = absurd (true≢false (sym h))
try-statement (Some (TryForm a b c x)) h = refl
try-statement (Some _) h = absurd (true≢false (sym h))

pub list-parts : (f : Option Form) → is_list_form f ≡ true → sort_of_parts f ≡ Statement
list-parts None h = absurd (true≢false (sym h))
list-parts (Some (ScriptForm ns)) h = refl
list-parts (Some (BlockForm ns)) h = refl
list-parts (Some _) h = absurd (true≢false (sym h))

-- ---- one after the other

pub keeps-by : (home : Side) (d : Data) (r : Result Move Halt) → IsReady d → LeavesBy d home ACompletion r
    → KeepsBy home ACompletion r d d
keeps-by home d r i h = record { changed = changed-same home d i; leaves = h }

pub keeps-same : (home : Side) (d : Data) (m : Move) → IsReady d → Leaves d home ACompletion m
    → KeepsBy home ACompletion (Ok m) d d
keeps-same home d m i h = record { changed = changed-same home d i; leaves = h }

pub keeps-then : (home : Side) (r : Result Move Halt) (d d1 d2 : Data) → Changed home d d1
    → KeepsBy home ACompletion r d1 d2 → KeepsBy home ACompletion r d d2
keeps-then home r d d1 d2 h k = record { changed = changed-then home d d1 d2 h k.changed; leaves = k.leaves }

pub context-entered : (home : Side) (d d1 : Data) (at : Context) (id : ScopeId) → IsReady d
    → Holds d home (context_held at) → KeepsAnswer home scope_held (Ok id) d d1
    → Holds d1 home (context_held (inside at id))
context-entered home d d1 at id r h k =
    (k.holds.0, ((holds-still home d d1 r k.changed (context_held at) h).1.0, tt))

-- what follows in a scope that was entered
pub entered-then : (home : Side) (r : Result Move Halt) (d d1 d2 : Data) (at : Context) (id : ScopeId) → IsReady d
    → home.0 < d.sides → Holds d home (context_held at) → KeepsAnswer home scope_held (Ok id) d d1
    → (IsReady d1 → home.0 < d1.sides → Holds d1 home (context_held (inside at id))
    → KeepsBy home ACompletion r d1 d2)
    → KeepsBy home ACompletion r d d2
entered-then home r d d1 d2 at id i n h k f =
    keeps-then home r d d1 d2 k.changed
    (f k.changed.ready (inside-still home d d1 k.changed n) (context-entered home d d1 at id i h k))

pub for-after : (home : Side) (d d1 : Data) (node : NodeId) (parts : ForParts) → IsReady d → Changed home d d1
    → IsFor d home node parts → IsFor d1 home node parts
for-after home d d1 node parts r k q =
    IsFor-grows d d1 home node parts (forms-grow d d1 home r.ids k.found.grew) q
