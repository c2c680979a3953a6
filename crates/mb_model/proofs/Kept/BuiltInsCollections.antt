use Rattle.std.specs.Prelude.{ℕ, ◌+◌, List, [], ◌∷◌, not, Option, Some, None}
use Rattle.mb_world.specs.declared.cell.Coll.{Coll}
use Rattle.mb_world.specs.Value.{Val, is_undefined}
use Rattle.mb_world.specs.Graph.{Collection}
use Rattle.mb_world.specs.Standard.{collection_prototype}
use Rattle.mb_world.specs.Objects.{thing_at, thing_is, new_thing}
use Rattle.mb_model.specs.Task.{Request, Slot, Access, Visit, Value}
use Rattle.mb_model.specs.Writing.{◌>>=◌, give, answer, again, pay, look, flag, make, unless_type_error, truth}
use Rattle.mb_model.specs.Operations.Calls.{call}
use Rattle.mb_model.specs.BuiltIns.Arguments.{arg, need_callable, made_prototype}
use Rattle.mb_model.specs.BuiltIns.Collections.{is_collection, need_collection, value_member, truth_member, chained_member, visited, slot_in, visit_row, for_each_pair, all_undefined, collection_made, collection_fn}
use Rattle.std.proofs.Common.{refl}
use Rattle.mb_model.proofs.Kept.Words.{Kept, Goes, keeps->>=, keeps-again, keeps-answer, keeps-flag, keeps-give, keeps-look, keeps-make, keeps-pay, keeps-truth, keeps-unless_type_error}
use Rattle.mb_model.proofs.Kept.Made.{new-new_thing}
use Rattle.mb_model.proofs.Kept.OperationsCalls.{keeps-call}
use Rattle.mb_model.proofs.Kept.BuiltInsArguments.{keeps-made_prototype, keeps-need_callable, keeps-undefined}

-- what the parts of these rows keep (written by tools/kept.py)

pub keeps-need_collection : (kept : Kept) (x0 : ℕ) (x1 : Coll) (x2 : Val) → Goes kept (need_collection x0 x1 x2)
keeps-need_collection kept s kind c = keeps->>= kept (look (λ g. thing_is (is_collection kind) (thing_at g c))) (λ
    b. unless_type_error s b) (keeps-look kept (λ g. thing_is (is_collection kind) (thing_at g c))) (λ b.
    keeps-unless_type_error kept s b)

pub keeps-value_member : (kept : Kept) (x0 : ℕ) (x1 : ℕ) (x2 : Coll) (x3 : Val) (x4 : Request) → Goes kept
    (value_member x0 x1 x2 x3 x4)
keeps-value_member kept s p kind c q = keeps->>= kept (need_collection s kind c) (λ _. answer (Access s p c q))
    (keeps-need_collection kept s kind c) (λ _. keeps-answer kept (Access s p c q) (λ _. (λ _. tt, λ _. tt)))

pub keeps-truth_member : (kept : Kept) (x0 : ℕ) (x1 : ℕ) (x2 : Coll) (x3 : Val) (x4 : Request) → Goes kept
    (truth_member x0 x1 x2 x3 x4)
keeps-truth_member kept s p kind c q = keeps->>= kept (need_collection s kind c) (λ _. (flag (Access s p c q)) >>=
    (λ b. truth b)) (keeps-need_collection kept s kind c) (λ _. keeps->>= kept (flag (Access s p c q)) (λ b. truth
    b) (keeps-flag kept (Access s p c q) (λ _. (λ _. tt, λ _. tt))) (λ b. keeps-truth kept b))

pub keeps-chained_member : (kept : Kept) (x0 : ℕ) (x1 : ℕ) (x2 : Coll) (x3 : Val) (x4 : Request) → Goes kept
    (chained_member x0 x1 x2 x3 x4)
keeps-chained_member kept s p kind c q = keeps->>= kept (need_collection s kind c) (λ _. (flag (Access s p c q))
    >>= (λ _. give (Value c))) (keeps-need_collection kept s kind c) (λ _. keeps->>= kept (flag (Access s p c q))
    (λ _. give (Value c)) (keeps-flag kept (Access s p c q) (λ _. (λ _. tt, λ _. tt))) (λ _. keeps-give kept (Value
    c)))

pub keeps-visited : (kept : Kept) (x0 : ℕ) (x1 : ℕ) (x2 : Val) (x3 : Val) (x4 : Val) (x5 : ℕ) (x6 : Option (Option
    (Val × Val))) → Goes kept (visited x0 x1 x2 x3 x4 x5 x6)
keeps-visited kept s p c f this n None = keeps-undefined kept
keeps-visited kept s p c f this n (Some None) = keeps-again kept (Visit s p c f this (n + 1)) (λ _. (
  λ _. tt,
  λ _.
      tt,
))
keeps-visited kept s p c f this n (Some (Some x)) = keeps->>= kept (call s f this (x.1 ∷ x.0 ∷ c ∷ [])) (λ _. again
    (Visit s p c f this (n + 1))) (keeps-call kept s f this (x.1 ∷ x.0 ∷ c ∷ [])) (λ _. keeps-again kept (Visit s p
    c f this (n + 1)) (λ _. (λ _. tt, λ _. tt)))

pub keeps-visit_row : (kept : Kept) (x0 : ℕ) (x1 : ℕ) (x2 : Val) (x3 : Val) (x4 : Val) (x5 : ℕ) → Goes kept
    (visit_row x0 x1 x2 x3 x4 x5)
keeps-visit_row kept s p c f this n = keeps->>= kept (pay 1) (λ _. (answer (Access s p c (Slot n))) >>= (λ a.
    visited s p c f this n (slot_in a))) (keeps-pay kept 1) (λ _. keeps->>= kept (answer (Access s p c (Slot n)))
    (λ a. visited s p c f this n (slot_in a)) (keeps-answer kept (Access s p c (Slot n)) (λ _. (λ _. tt, λ _. tt)))
    (λ a. keeps-visited kept s p c f this n (slot_in a)))

pub keeps-for_each_pair : (kept : Kept) (x0 : ℕ) (x1 : ℕ) (x2 : Coll) (x3 : Val) (x4 : List Val) → Goes kept
    (for_each_pair x0 x1 x2 x3 x4)
keeps-for_each_pair kept s p kind c vs = keeps->>= kept (need_collection s kind c) (λ _. (need_callable s (arg vs
    0)) >>= (λ _. visit_row s p c (arg vs 0) (arg vs 1) 0)) (keeps-need_collection kept s kind c) (λ _. keeps->>=
    kept (need_callable s (arg vs 0)) (λ _. visit_row s p c (arg vs 0) (arg vs 1) 0) (keeps-need_callable kept s
    (arg vs 0)) (λ _. keeps-visit_row kept s p c (arg vs 0) (arg vs 1) 0))

pub keeps-collection_made : (kept : Kept) (x0 : ℕ) (x1 : Coll) (x2 : List Val) (x3 : Val) → Goes kept
    (collection_made x0 x1 x2 x3)
keeps-collection_made kept s kind vs p = keeps->>= kept (unless_type_error s (all_undefined vs)) (λ _. (make
    (new_thing s None (Collection kind []) p)) >>= (λ c. give (Value c))) (keeps-unless_type_error kept s
    (all_undefined vs)) (λ _. keeps->>= kept (make (new_thing s None (Collection kind []) p)) (λ c. give (Value c))
    (keeps-make kept (new_thing s None (Collection kind []) p) (new-new_thing s None (Collection kind []) p refl))
    (λ c. keeps-give kept (Value c)))

pub keeps-collection_fn : (kept : Kept) (x0 : ℕ) (x1 : Coll) (x2 : List Val) (x3 : Val) (x4 : Val) → Goes kept
    (collection_fn x0 x1 x2 x3 x4)
keeps-collection_fn kept s kind vs own target = keeps->>= kept (unless_type_error s (not (is_undefined target))) (λ
    _. (made_prototype s own (collection_prototype kind) target) >>= (λ p. collection_made s kind vs p))
    (keeps-unless_type_error kept s (not (is_undefined target))) (λ _. keeps->>= kept (made_prototype s own
    (collection_prototype kind) target) (λ p. collection_made s kind vs p) (keeps-made_prototype kept s own
    (collection_prototype kind) target) (λ p. keeps-collection_made kept s kind vs p))
