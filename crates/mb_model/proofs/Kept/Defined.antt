use Rattle.std.proofs.Common.{◌≡◌, ℕ, Bool, true, false, Option, Some, None, refl, sym, ap, ◌∙◌, subst}
use Rattle.std.proofs.lemmas.Option.{same_Some}
use Rattle.mb_desc.specs.declared.descriptor.Desc.{Desc}
use Rattle.mb_desc.specs.declared.descriptor.Full.{Full}
use Rattle.mb_desc.specs.declared.descriptor.Full.TheVariants.{Datum, Accessor}
use Rattle.mb_desc.specs.Descriptors.{IsOfOneKind}
use Rattle.mb_world.specs.Value.{Val}
use Rattle.mb_world.specs.Key.{PropertyKey}
use Rattle.mb_world.specs.Graph.{Graph, Thing, Kind, Plain, Array, Function, Standard, Fault, Proxy, Gone, Revoker, Collection}
use Rattle.mb_world.specs.Objects.{thing_at, thing_is, is_proxy_kind}
use Rattle.mb_world.specs.Ordinary.{Defined, Refused, Becomes, Faulty, ordinary_defined}
use Rattle.mb_world.specs.Arrays.{element_stored}
use Rattle.mb_model.specs.Task.{Answer, Method, DefineOwnProperty, Nothing}
use Rattle.mb_model.specs.Fitting.{FitsMethod}
use Rattle.mb_model.specs.Writing.{yes_or_no, flag, perform, unless_type_error, truth}
use Rattle.mb_model.specs.Operations.Calls.{target_is_array}
use Rattle.mb_model.specs.Operations.Makings.{alter}
use Rattle.mb_model.specs.Objects.Methods.{settled, stored_in, store_element}
use Rattle.mb_model.specs.Nodes.Literals.{define_on, prop_defined}
use Rattle.mb_model.specs.BuiltIns.Arguments.{flag_row, undefined}
use Rattle.mb_model.specs.BuiltIns.ObjectMembers.{freezing, must_define, freeze_found}
use Rattle.mb_model.specs.BuiltIns.ProxyMaking.{gone_kind, revoke_proxy}
use Rattle.mb_model.proofs.Kept.Changes.{Change, PlainDefinition, Storing, Recast, has_target, is_array_at}
use Rattle.mb_model.proofs.Kept.Words.{Kept, At, Goes, at-then, at-alter, keeps->>=, keeps-give, keeps-yes_or_no, keeps-fail, keeps-flag, keeps-unless_type_error, keeps-truth}

-- what a definition makes of an object

-- one change of an object that is there
pub at-alter_there : (kept : Kept) (g : Graph) (o : Val) (f : Thing → Thing) (t : Thing) → thing_at g o ≡ Some t →
    Change kept.cares g t (f t) → At kept g (alter o f)
at-alter_there kept g o f t at by =
    at-alter kept g o f (λ u there. subst (λ x. Change kept.cares g x (f x)) (same_Some t u (sym at ∙ there)) by)

pub at-settled : (kept : Kept) (g : Graph) (s : ℕ) (o : Val) (x : Defined) (t : Thing) → thing_at g o ≡ Some t →
    ((u : Thing) (b : Bool) → x ≡ Becomes u b → Change kept.cares g t u) → At kept g (settled s o x)
at-settled kept g s o Refused t at by = (keeps-yes_or_no kept false).goes g
at-settled kept g s o (Becomes u b) t at by =
    at-then kept g (alter o (λ _. u)) (λ _. yes_or_no b) (at-alter_there kept g o (λ _. u) t at (by u b refl))
    (λ _ g' q. (keeps-yes_or_no kept b).goes g')
at-settled kept g s o (Faulty kind) t at by = (keeps-fail kept s kind).goes g

at-define_on : (kept : Kept) (g : Graph) (s : ℕ) (o : Val) (k : PropertyKey) (d : Desc Val) (x : Option Thing) →
    thing_at g o ≡ x → IsOfOneKind d → At kept g (define_on s o k d x)
at-define_on kept g s o k d None at one = (keeps-give kept Nothing).goes g
at-define_on kept g s o k d (Some t) at one =
    at-settled kept g s o (ordinary_defined t k d) t at (λ u b e. PlainDefinition k d b one e)

pub keeps-prop_defined : (kept : Kept) (s : ℕ) (o : Val) (k : PropertyKey) (d : Desc Val) → IsOfOneKind d →
    Goes kept (prop_defined s o k d)
keeps-prop_defined kept s o k d one = record { goes = λ g. at-define_on kept g s o k d (thing_at g o) refl one }

at-stored_in : (kept : Kept) (g : Graph) (s : ℕ) (a : Val) (n : ℕ) (v : Val) (x : Option Thing) → thing_at g a ≡ x →
    is_array_at g a ≡ true → At kept g (stored_in s a n v x)
at-stored_in kept g s a n v None at array = (keeps-yes_or_no kept false).goes g
at-stored_in kept g s a n v (Some t) at array =
    at-settled kept g s a (element_stored t n v) t at
    (λ u b e. Storing n v b (ap (thing_is target_is_array) (sym at) ∙ array) e)

-- into an array
pub at-store_element : (kept : Kept) (g : Graph) (s : ℕ) (a : Val) (n : ℕ) (v : Val) → is_array_at g a ≡ true →
    At kept g (store_element s a n v)
at-store_element kept g s a n v array = at-stored_in kept g s a n v (thing_at g a) refl array

pub keeps-must_define : (kept : Kept) (s : ℕ) (o : Val) (k : PropertyKey) (d : Desc Val) →
    (kept.cares → IsOfOneKind d) → Goes kept (must_define s o k d)
keeps-must_define kept s o k d one =
    keeps->>= kept (flag (perform s (DefineOwnProperty k d) o)) (λ b. unless_type_error s b)
    (keeps-flag kept (perform s (DefineOwnProperty k d) o) (λ _. (one, λ _ _. refl))) (λ b. keeps-unless_type_error kept s b)

one-freezing : (p : Full Val) → IsOfOneKind (freezing p)
one-freezing (Datum v w e c) = refl
one-freezing (Accessor g h e c) = refl

pub keeps-freeze_found : (kept : Kept) (s : ℕ) (o : Val) (k : PropertyKey) (p : Option (Full Val)) →
    Goes kept (freeze_found s o k p)
keeps-freeze_found kept s o k None = keeps-give kept Nothing
keeps-freeze_found kept s o k (Some p) = keeps-must_define kept s o k (freezing p) (λ _. one-freezing p)

pub keeps-flag_row : (kept : Kept) (s : ℕ) (m : Method) (o : Val) → (kept.cares → FitsMethod m) →
    Goes kept (flag_row s m o)
keeps-flag_row kept s m o fit =
    keeps->>= kept (flag (perform s m o)) (λ b. truth b) (keeps-flag kept (perform s m o) (λ _. (fit, λ _ _. refl)))
    (λ b. keeps-truth kept b)

-- a Proxy that goes was no array
same-gone : (k : Kind) → target_is_array k ≡ target_is_array (gone_kind k)
same-gone Plain = refl
same-gone Array = refl
same-gone (Function c) = refl
same-gone (Standard p) = refl
same-gone (Fault e) = refl
same-gone (Proxy t h s) = refl
same-gone (Gone s) = refl
same-gone (Revoker p) = refl
same-gone (Collection c s) = refl

same-proxy : (k : Kind) → is_proxy_kind k ≡ is_proxy_kind (gone_kind k)
same-proxy Plain = refl
same-proxy Array = refl
same-proxy (Function c) = refl
same-proxy (Standard p) = refl
same-proxy (Fault e) = refl
same-proxy (Proxy t h s) = refl
same-proxy (Gone s) = refl
same-proxy (Revoker p) = refl
same-proxy (Collection c s) = refl

no-target : (k : Kind) → has_target (gone_kind k) ≡ false
no-target Plain = refl
no-target Array = refl
no-target (Function c) = refl
no-target (Standard p) = refl
no-target (Fault e) = refl
no-target (Proxy t h s) = refl
no-target (Gone s) = refl
no-target (Revoker p) = refl
no-target (Collection c s) = refl

pub keeps-revoke_proxy : (kept : Kept) (p : ℕ) → Goes kept (revoke_proxy p)
keeps-revoke_proxy kept p =
    let f : Thing → Thing = λ t. record t { kind = gone_kind t.kind } in
    record {
      goes = λ g.
          at-then kept g (alter (Val.Object p) f) (λ _. undefined)
          (at-alter kept g (Val.Object p) f (λ t at. Recast (gone_kind t.kind) (same-gone t.kind) (same-proxy t.kind) (no-target t.kind) refl))
          (λ _ g' q. (keeps-give kept (Answer.Value Val.Undefined)).goes g');
    }
