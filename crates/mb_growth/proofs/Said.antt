-- What `has`, `get` and `set` answer passes, and what tells nothing.
use Rattle.std.proofs.Common.{◌≡◌, ℕ, Bool, true, false, Option, None, Some, refl, sym, ap, ◌∙◌, subst}
use Rattle.mb_desc.specs.declared.descriptor.Full.{Full}
use Rattle.mb_desc.specs.declared.descriptor.Full.TheVariants.{Datum, Accessor}
use Rattle.mb_desc.specs.View.{View}
use Rattle.mb_view.specs.Views.{property_of}
use Rattle.mb_view.specs.Entries as deed
use Rattle.mb_view.specs.Entries.{Deed}
use Rattle.mb_view.specs.Passing.{Passes}
use Rattle.mb_view.specs.Ordinary.{Gets, Sets, IsOrdinary}
use Rattle.mb_view.proofs.OrdinaryPasses.{ordinary-passes}
use Rattle.mb_world.specs.declared.entry.Op.TheVariants.{Has, Get as GetOp, Set as SetOp, Apply, Construct as ConstructOp}
use Rattle.mb_world.specs.Value.{Val, Undefined, is_object, is_undefined, same_value}
use Rattle.mb_world.specs.Key.{PropertyKey, same_key}
use Rattle.mb_world.specs.Graph.{Graph, Thing, Said, SaidNothing, SaidFlag, SaidValue, SaidAbsent, SaidProperty, SaidKeys, SaidThrow, SaidPair}
use Rattle.mb_world.specs.Ordinary.{looked, written}
use Rattle.mb_world.specs.View.{shown_property, Shown}
use Rattle.mb_model.specs.Task.{Value, Method, GetPrototypeOf, SetPrototypeOf, IsExtensible, PreventExtensions, GetOwnProperty, DefineOwnProperty, HasProperty, Get, Set, Delete, OwnPropertyKeys, Call, Construct, Outcome, Normal, Throw}
use Rattle.mb_model.specs.Writing.{Row}
use Rattle.mb_model.specs.Objects.Methods.{ordinary_has, ordinary_get, ordinary_set, call_getter}
use Rattle.mb_model.specs.Meaning.{finished}
use Rattle.mb_model.specs.Trace.Entries.{said_outcome}
use Rattle.mb_model.specs.Trace.Lawful.{deed_by}
use Rattle.mb_growth.specs.Answered.{EntryPasses, PassesAtMoment}
use Rattle.mb_growth.proofs.Values.{value-refl}
use Rattle.mb_growth.proofs.Seen.{seen-at}
use Rattle.mb_growth.proofs.Ends.{RowEnds, ends-any}

-- ---- what tells nothing passes

pub passes-by : (d : Deed PropertyKey Val) (view : View PropertyKey Val) → IsOrdinary same_key same_value Undefined d view
    → Passes same_key same_value Undefined d view
passes-by d view h = ordinary-passes same_key same_value Undefined value-refl d view h

abbrev SaidPasses : Deed PropertyKey Val → View PropertyKey Val → Type 0
SaidPasses d view = Passes same_key same_value Undefined d view

pub throw-passes : (s : ℕ) (n : Val) (m : Method) (t : Thing) (g : Graph) (v : Val) (after : Graph) → PassesAtMoment s n m t g (Throw v) after
throw-passes s n GetPrototypeOf t g v after = λ u at. tt
throw-passes s n (SetPrototypeOf p) t g v after = λ u at. tt
throw-passes s n IsExtensible t g v after = λ u at. tt
throw-passes s n PreventExtensions t g v after = λ u at. tt
throw-passes s n (GetOwnProperty k) t g v after = λ u at. tt
throw-passes s n (DefineOwnProperty k d) t g v after = λ u at. tt
throw-passes s n (HasProperty k) t g v after = tt
throw-passes s n (Get k r) t g v after = tt
throw-passes s n (Set k x r) t g v after = tt
throw-passes s n (Delete k) t g v after = λ u at. tt
throw-passes s n OwnPropertyKeys t g v after = λ u at. tt
throw-passes s n (Call this vs) t g v after = λ u at. tt
throw-passes s n (Construct vs target) t g v after = λ u at. tt

pub call-passes : (a : Said) (view : View PropertyKey Val) → SaidPasses (deed_by Apply None SaidNothing a) view
call-passes SaidNothing view = tt
call-passes (SaidFlag b) view = tt
call-passes (SaidValue v) view = tt
call-passes SaidAbsent view = tt
call-passes (SaidProperty d) view = tt
call-passes (SaidKeys ks) view = tt
call-passes (SaidThrow v) view = tt
call-passes (SaidPair k v) view = tt

pub construct-passes : (a : Said) (view : View PropertyKey Val) → SaidPasses (deed_by ConstructOp None SaidNothing a) view
construct-passes SaidNothing view = tt
construct-passes (SaidFlag b) view = tt
construct-passes (SaidValue v) view = tt
construct-passes SaidAbsent view = tt
construct-passes (SaidProperty d) view = tt
construct-passes (SaidKeys ks) view = tt
construct-passes (SaidThrow v) view = tt
construct-passes (SaidPair k v) view = tt

-- ---- what `has`, `get` and `set` answer, as far as the own property decides it

has-passes : (k : PropertyKey) (view : View PropertyKey Val) → property_of same_key view k ≡ None → (a : Said)
    → SaidPasses (deed_by Has (Some k) SaidNothing a) view
has-passes k view none SaidNothing = tt
has-passes k view none (SaidFlag true) = tt
has-passes k view none (SaidFlag false) = passes-by (deed.HasProperty k false) view none
has-passes k view none (SaidValue v) = tt
has-passes k view none SaidAbsent = tt
has-passes k view none (SaidProperty d) = tt
has-passes k view none (SaidKeys ks) = tt
has-passes k view none (SaidThrow v) = tt
has-passes k view none (SaidPair i v) = tt

get-passes : (k : PropertyKey) (view : View PropertyKey Val) → ((v : Val) → Gets Undefined (property_of same_key view k) v)
    → (a : Said) → SaidPasses (deed_by GetOp (Some k) SaidNothing a) view
get-passes k view gets SaidNothing = tt
get-passes k view gets (SaidFlag b) = tt
get-passes k view gets (SaidValue v) = passes-by (deed.Get k v) view (gets v)
get-passes k view gets SaidAbsent = tt
get-passes k view gets (SaidProperty d) = tt
get-passes k view gets (SaidKeys ks) = tt
get-passes k view gets (SaidThrow v) = tt
get-passes k view gets (SaidPair i v) = tt

set-passes : (k : PropertyKey) (x : Val) (view : View PropertyKey Val) → Sets Undefined (property_of same_key view k) → (a : Said)
    → SaidPasses (deed_by SetOp (Some k) (SaidValue x) a) view
set-passes k x view sets SaidNothing = tt
set-passes k x view sets (SaidFlag true) = passes-by (deed.Set k x true) view sets
set-passes k x view sets (SaidFlag false) = tt
set-passes k x view sets (SaidValue v) = tt
set-passes k x view sets SaidAbsent = tt
set-passes k x view sets (SaidProperty d) = tt
set-passes k x view sets (SaidKeys ks) = tt
set-passes k x view sets (SaidThrow v) = tt
set-passes k x view sets (SaidPair i v) = tt

pub has-ends : (s v : ℕ) (g : Graph) (t : Thing) (k : PropertyKey)
    → RowEnds (λ q after. EntryPasses (HasProperty k) q (Shown g v t))
    (ordinary_has s k (looked t.prototype (shown_property g v t k)) finished g)
has-ends s v g t k = by (shown_property g v t k) refl
  where
    by : (o : Option (Full Val)) → shown_property g v t k ≡ o
        → RowEnds (λ q after. EntryPasses (HasProperty k) q (Shown g v t)) (ordinary_has s k (looked t.prototype (shown_property g v t k)) finished g)
    by None e =
        ends-any (λ q after. EntryPasses (HasProperty k) q (Shown g v t))
        (λ q after. has-passes k (Shown g v t) (seen-at g v t k ∙ e) (said_outcome q))
        (ordinary_has s k (looked t.prototype (shown_property g v t k)) finished g)
    by (Some p) e = rw e tt

pub get-ends : (s v : ℕ) (g : Graph) (t : Thing) (k : PropertyKey) (r : Val)
    → RowEnds (λ q after. EntryPasses (Get k r) q (Shown g v t))
    (ordinary_get s k r (looked t.prototype (shown_property g v t k)) finished g)
get-ends s v g t k r = by (shown_property g v t k) refl
  where
    all : (o : Option (Full Val)) → shown_property g v t k ≡ o → ((y : Val) → Gets Undefined o y) → (q : Outcome)
        → EntryPasses (Get k r) q (Shown g v t)
    all o e gets q =
        get-passes k (Shown g v t) (λ y. subst (λ (x : Option (Full Val)). Gets Undefined x y) (sym (seen-at g v t k ∙ e)) (gets y))
        (said_outcome q)

    one : (o : Option (Full Val)) → shown_property g v t k ≡ o → (y : Val) → Gets Undefined o y
        → EntryPasses (Get k r) (Normal (Value y)) (Shown g v t)
    one o e y gets =
        passes-by (deed.Get k y) (Shown g v t)
        (subst (λ (x : Option (Full Val)). Gets Undefined x y) (sym (seen-at g v t k ∙ e)) gets)

    called : (f h : Val) (e c : Bool) → shown_property g v t k ≡ Some (Accessor f h e c) → (b : Bool) → is_undefined f ≡ b
        → RowEnds (λ q after. EntryPasses (Get k r) q (Shown g v t)) (call_getter s r f finished g)
    called f h e c at true undef = rw undef (one (Some (Accessor f h e c)) at Undefined (λ _. refl))
    called f h e c at false def =
        ends-any (λ q after. EntryPasses (Get k r) q (Shown g v t))
        (λ q after. all (Some (Accessor f h e c)) at
        (λ y none. absurd (let bad : true ≡ false = sym (ap is_undefined none) ∙ def in cc)) q)
        (call_getter s r f finished g)

    by : (o : Option (Full Val)) → shown_property g v t k ≡ o
        → RowEnds (λ q after. EntryPasses (Get k r) q (Shown g v t)) (ordinary_get s k r (looked t.prototype (shown_property g v t k)) finished g)
    by None e =
        ends-any (λ q after. EntryPasses (Get k r) q (Shown g v t)) (λ q after. all None e (λ y. tt) q)
        (ordinary_get s k r (looked t.prototype (shown_property g v t k)) finished g)
    by (Some (Datum y w i c)) e = rw e (one (Some (Datum y w i c)) e y refl)
    by (Some (Accessor f h i c)) e = rw e (called f h i c e (is_undefined f) refl)

pub set-ends : (s v : ℕ) (g : Graph) (t : Thing) (k : PropertyKey) (x r : Val)
    → RowEnds (λ q after. EntryPasses (Set k x r) q (Shown g v t))
    (ordinary_set s k x r (written t.prototype (shown_property g v t k)) finished g)
set-ends s v g t k x r = by (shown_property g v t k) refl
  where
    all : (o : Option (Full Val)) → shown_property g v t k ≡ o → Sets Undefined o → (p : Row)
        → RowEnds (λ q after. EntryPasses (Set k x r) q (Shown g v t)) p
    all o e sets p =
        ends-any (λ q after. EntryPasses (Set k x r) q (Shown g v t))
        (λ q after. set-passes k x (Shown g v t)
        (subst (λ (y : Option (Full Val)). Sets Undefined y) (sym (seen-at g v t k ∙ e)) sets) (said_outcome q)) p

    called : (f h : Val) (i c : Bool) → shown_property g v t k ≡ Some (Accessor f h i c) → (b : Bool) → is_object h ≡ b
        → RowEnds (λ q after. EntryPasses (Set k x r) q (Shown g v t))
        (ordinary_set s k x r (written t.prototype (Some (Accessor f h i c))) finished g)
    called f h i c at false none = rw none tt
    called f h i c at true there =
        all (Some (Accessor f h i c)) at (λ none. let bad : false ≡ true = sym (ap is_object none) ∙ there in cc)
        (ordinary_set s k x r (written t.prototype (Some (Accessor f h i c))) finished g)

    by : (o : Option (Full Val)) → shown_property g v t k ≡ o
        → RowEnds (λ q after. EntryPasses (Set k x r) q (Shown g v t))
        (ordinary_set s k x r (written t.prototype (shown_property g v t k)) finished g)
    by None e = all None e tt (ordinary_set s k x r (written t.prototype (shown_property g v t k)) finished g)
    by (Some (Datum y true i c)) e =
        all (Some (Datum y true i c)) e refl (ordinary_set s k x r (written t.prototype (shown_property g v t k)) finished g)
    by (Some (Datum y false i c)) e = rw e tt
    by (Some (Accessor f h i c)) e = rw e (called f h i c e (is_object h) refl)
