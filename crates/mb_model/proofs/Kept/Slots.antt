use Rattle.std.proofs.Common.{◌≡◌, ℕ, Bool, true, false, not, ◌&&◌, Option, Some, None, slice_get, refl, ap, if◌then◌else◌}
use Rattle.std.specs.Prelude.{pos}
use Rattle.mb_world.specs.declared.cell.Coll.{Coll}
use Rattle.mb_world.specs.Value.{Val, Undefined, Whole}
use Rattle.mb_world.specs.Graph.{Graph, Slots, Kind, Collection, Thing}
use Rattle.mb_world.specs.Objects.{thing_at, is_proxy_kind}
use Rattle.mb_world.specs.View.{is_cut}
use Rattle.mb_model.specs.Task.{Answer, Request, GetAt, SetAt, Add, Has, DeleteAt, Clear, Size, Slot, Value}
use Rattle.mb_model.specs.Writing.{Does, ◌>>=◌, give, yes_or_no}
use Rattle.mb_model.specs.Operations.Calls.{target_is_array}
use Rattle.mb_model.specs.Operations.Makings.{alter}
use Rattle.mb_model.specs.BuiltIns.Collections.{has_pair, pair_value, put_pair, remove_pair, emptied, count_pairs, may_hold, with_slots, pair_stored, pair_deleted, slot_answer, access_slots, access_kind, access_thing, access_row}
use Rattle.mb_model.proofs.Kept.Changes.{Recast}
use Rattle.mb_model.proofs.Kept.Words.{Kept, At, at-then, at-unless, keeps-give, keeps-yes_or_no, keeps-type_error}
use Rattle.mb_model.proofs.Kept.Defined.{at-alter_there}

-- the accesses of a collection, each from the graph in which its slots were read

abbrev IsAt : Graph → Val → Coll → Slots → Type 0
IsAt g c kind ps = (t : Thing) × (thing_at g c ≡ Some t) × (t.kind ≡ Collection kind ps)

at-slots : (kept : Kept) (g : Graph) (c : Val) (kind : Coll) (ps qs : Slots) (m : Does Answer) → IsAt g c kind ps →
    ((h : Graph) → At kept h m) → At kept g (alter c (with_slots kind qs) >>= (λ _. m))
at-slots kept g c kind ps qs m at more =
    at-then kept g (alter c (with_slots kind qs)) (λ _. m)
    (at-alter_there kept g c (with_slots kind qs) at.0 at.1 (Recast (Collection kind qs) (ap target_is_array at.2) (ap is_proxy_kind at.2) refl refl))
    (λ _ g' q. more g')

at-pair_stored : (kept : Kept) (g : Graph) (s : ℕ) (c : Val) (kind : Coll) (ps : Slots) (k v : Val) (b : Bool) →
    IsAt g c kind ps → At kept g (pair_stored s c kind ps k v b)
at-pair_stored kept g s c kind ps k v false at = (keeps-type_error kept s).goes g
at-pair_stored kept g s c kind ps k v true at =
    at-slots kept g c kind ps (put_pair k v ps) (yes_or_no true) at (keeps-yes_or_no kept true).goes

at-pair_deleted : (kept : Kept) (g : Graph) (c : Val) (kind : Coll) (ps : Slots) (k : Val) (b : Bool) →
    IsAt g c kind ps → At kept g (pair_deleted c kind ps k b)
at-pair_deleted kept g c kind ps k false at = (keeps-yes_or_no kept false).goes g
at-pair_deleted kept g c kind ps k true at =
    at-slots kept g c kind ps (remove_pair k ps) (yes_or_no true) at (keeps-yes_or_no kept true).goes

at-access_slots : (kept : Kept) (g : Graph) (s : ℕ) (c : Val) (kind : Coll) (ps : Slots) (q : Request) →
    IsAt g c kind ps → At kept g (access_slots s c kind ps q)
at-access_slots kept g s c kind ps (GetAt k) at =
    (keeps-give kept (Value (if may_hold kind k then pair_value k ps else Undefined))).goes g
at-access_slots kept g s c kind ps (SetAt k v) at = at-pair_stored kept g s c kind ps k v (may_hold kind k) at
at-access_slots kept g s c kind ps (Add k) at = at-pair_stored kept g s c kind ps k k (may_hold kind k) at
at-access_slots kept g s c kind ps (Has k) at = (keeps-yes_or_no kept (may_hold kind k && has_pair k ps)).goes g
at-access_slots kept g s c kind ps (DeleteAt k) at =
    at-pair_deleted kept g c kind ps k (may_hold kind k && has_pair k ps) at
at-access_slots kept g s c kind ps Clear at =
    at-slots kept g c kind ps (emptied ps) (give (Value Undefined)) at (keeps-give kept (Value Undefined)).goes
at-access_slots kept g s c kind ps Size at = (keeps-give kept (Value (Whole (pos (count_pairs ps))))).goes g
at-access_slots kept g s c kind ps (Slot n) at = (keeps-give kept (slot_answer (slice_get ps n))).goes g

at-access_kind : (kept : Kept) (g : Graph) (s : ℕ) (c : Val) (q : Request) (t : Thing) (kind : Kind) →
    thing_at g c ≡ Some t → t.kind ≡ kind → At kept g (access_kind s c q kind)
at-access_kind kept g s c q t (Collection kind ps) at e = at-access_slots kept g s c kind ps q (t, at, e)
at-access_kind kept g s c q t _ at e = (keeps-type_error kept s).goes g

at-access_thing : (kept : Kept) (g : Graph) (s : ℕ) (c : Val) (q : Request) (x : Option Thing) → thing_at g c ≡ x →
    At kept g (access_thing s c q x)
at-access_thing kept g s c q None at = (keeps-type_error kept s).goes g
at-access_thing kept g s c q (Some t) at =
    at-unless kept g s (not (is_cut g s t)) (access_kind s c q t.kind) (at-access_kind kept g s c q t t.kind at refl)

pub at-access_row : (kept : Kept) (g : Graph) (s : ℕ) (c : Val) (q : Request) → At kept g (access_row s c q)
at-access_row kept g s c q = at-access_thing kept g s c q (thing_at g c) refl
