use Rattle.std.specs.Prelude.{if◌then◌else◌, ℕ, List, [], ◌∷◌, true, false, Option, Some, None, codes}
use Rattle.mb_desc.specs.declared.descriptor.Full.{Full}
use Rattle.mb_desc.specs.declared.descriptor.Full.TheVariants.{Datum, Accessor}
use Rattle.mb_world.specs.Value.{Val, Undefined, is_object, is_undefined}
use Rattle.mb_world.specs.Key.{PropertyKey, Named}
use Rattle.mb_world.specs.Property.{open_property}
use Rattle.mb_desc.specs.Descriptors.{value_alone, descriptor_of}
use Rattle.mb_world.specs.Graph.{Thing, Kind, Function, Standard, Revoker}
use Rattle.mb_world.specs.Standard.{object_prototype}
use Rattle.mb_world.specs.Ordinary.{Look, Found, Upward, Writing, RefuseWrite, WriteAbove, StoreInReceiver, CallSetter}
use Rattle.mb_model.specs.Task.{Enter, Run, Value, Keys, GetOwnProperty, DefineOwnProperty, HasProperty, Get, Set, Call}
use Rattle.mb_model.specs.Writing.{yes_or_no, ◌>>=◌, give, pay_each, answer, value, property, perform}
use Rattle.mb_model.specs.Operations.Makings.{make_plain}
use Rattle.mb_model.specs.Operations.Calls.{get}
use Rattle.mb_model.specs.Objects.Methods.{parent_has, ordinary_has, parent_get, call_getter, ordinary_get, receiver_has, store_in, store, call_setter, ordinary_set, call_kind, constructed, construct_with, construct_kind, list_keys}
use Rattle.std.proofs.Common.{refl}
use Rattle.mb_model.proofs.Kept.Words.{Kept, Goes, keeps->>=, keeps-answer, keeps-give, keeps-if, keeps-pay_each, keeps-property, keeps-type_error, keeps-value, keeps-yes_or_no}
use Rattle.mb_model.proofs.Kept.OperationsCalls.{keeps-get}
use Rattle.mb_model.proofs.Kept.OperationsMakings.{keeps-make_plain}

-- what the parts of these rows keep (written by tools/kept.py)

pub keeps-parent_has : (kept : Kept) (x0 : ℕ) (x1 : PropertyKey) (x2 : Val) → Goes kept (parent_has x0 x1 x2)
keeps-parent_has kept s k p = keeps-if kept (is_object p) (answer (perform s (HasProperty k) p)) (yes_or_no false)
    (keeps-answer kept (perform s (HasProperty k) p) (λ _. (λ _. tt, λ _ _. refl))) (keeps-yes_or_no kept false)

pub keeps-ordinary_has : (kept : Kept) (x0 : ℕ) (x1 : PropertyKey) (x2 : Look) → Goes kept (ordinary_has x0 x1 x2)
keeps-ordinary_has kept s k (Found p) = keeps-yes_or_no kept true
keeps-ordinary_has kept s k (Upward parent) = keeps-parent_has kept s k parent

pub keeps-parent_get : (kept : Kept) (x0 : ℕ) (x1 : PropertyKey) (x2 : Val) (x3 : Val) → Goes kept (parent_get x0
    x1 x2 x3)
keeps-parent_get kept s k r p = keeps-if kept (is_object p) (answer (perform s (Get k r) p)) (give (Value
    Undefined)) (keeps-answer kept (perform s (Get k r) p) (λ _. (λ _. tt, λ _ _. refl))) (keeps-give kept (Value
    Undefined))

pub keeps-call_getter : (kept : Kept) (x0 : ℕ) (x1 : Val) (x2 : Val) → Goes kept (call_getter x0 x1 x2)
keeps-call_getter kept s r f = keeps-if kept (is_undefined f) (give (Value Undefined)) (answer (perform s (Call r
    []) f)) (keeps-give kept (Value Undefined)) (keeps-answer kept (perform s (Call r []) f) (λ _. (
      λ _. tt,
      λ _ _.
          refl,
    )))

pub keeps-ordinary_get : (kept : Kept) (x0 : ℕ) (x1 : PropertyKey) (x2 : Val) (x3 : Look) → Goes kept (ordinary_get
    x0 x1 x2 x3)
keeps-ordinary_get kept s k r (Found (Datum v w e c)) = keeps-give kept (Value v)
keeps-ordinary_get kept s k r (Found (Accessor f h e c)) = keeps-call_getter kept s r f
keeps-ordinary_get kept s k r (Upward parent) = keeps-parent_get kept s k r parent

pub keeps-receiver_has : (kept : Kept) (x0 : ℕ) (x1 : PropertyKey) (x2 : Val) (x3 : Val) (x4 : Option (Full Val)) →
    Goes kept (receiver_has x0 x1 x2 x3 x4)
keeps-receiver_has kept s k v r None = keeps-answer kept (perform s (DefineOwnProperty k (descriptor_of
    (open_property v))) r) (λ _. (λ _. refl, λ _ _. refl))
keeps-receiver_has kept s k v r (Some (Datum x true e c)) = keeps-answer kept (perform s (DefineOwnProperty k
    (value_alone v)) r) (λ _. (λ _. refl, λ _ _. refl))
keeps-receiver_has kept s k v r (Some (Datum x false e c)) = keeps-yes_or_no kept false
keeps-receiver_has kept s k v r (Some (Accessor f h e c)) = keeps-yes_or_no kept false

pub keeps-store_in : (kept : Kept) (x0 : ℕ) (x1 : PropertyKey) (x2 : Val) (x3 : Val) → Goes kept (store_in x0 x1 x2
    x3)
keeps-store_in kept s k v r = keeps->>= kept (property (perform s (GetOwnProperty k) r)) (λ d. receiver_has s k v r
    d) (keeps-property kept (perform s (GetOwnProperty k) r) (λ _. (λ _. tt, λ _ _. refl))) (λ d.
    keeps-receiver_has kept s k v r d)

pub keeps-store : (kept : Kept) (x0 : ℕ) (x1 : PropertyKey) (x2 : Val) (x3 : Val) → Goes kept (store x0 x1 x2 x3)
keeps-store kept s k v r = keeps-if kept (is_object r) (store_in s k v r) (yes_or_no false) (keeps-store_in kept s
    k v r) (keeps-yes_or_no kept false)

pub keeps-call_setter : (kept : Kept) (x0 : ℕ) (x1 : Val) (x2 : Val) (x3 : Val) → Goes kept (call_setter x0 x1 x2 x3)
keeps-call_setter kept s r v f = keeps->>= kept (answer (perform s (Call r (v ∷ [])) f)) (λ _. yes_or_no true)
    (keeps-answer kept (perform s (Call r (v ∷ [])) f) (λ _. (λ _. tt, λ _ _. refl))) (λ _. keeps-yes_or_no kept true)

pub keeps-ordinary_set : (kept : Kept) (x0 : ℕ) (x1 : PropertyKey) (x2 : Val) (x3 : Val) (x4 : Writing) → Goes kept
    (ordinary_set x0 x1 x2 x3 x4)
keeps-ordinary_set kept s k v r RefuseWrite = keeps-yes_or_no kept false
keeps-ordinary_set kept s k v r (WriteAbove parent) = keeps-answer kept (perform s (Set k v r) parent) (λ _. (
  λ _.
      tt,
  λ _ _. refl,
))
keeps-ordinary_set kept s k v r StoreInReceiver = keeps-store kept s k v r
keeps-ordinary_set kept s k v r (CallSetter f) = keeps-call_setter kept s r v f

pub keeps-call_kind : (kept : Kept) (x0 : ℕ) (x1 : Val) (x2 : Val) (x3 : List Val) (x4 : Kind) → Goes kept
    (call_kind x0 x1 x2 x3 x4)
keeps-call_kind kept s o this vs (Function c) = keeps-answer kept (Enter o this vs) (λ _. (λ _. tt, λ _. tt))
keeps-call_kind kept s o this vs (Revoker p) = keeps-answer kept (Enter o this vs) (λ _. (λ _. tt, λ _. tt))
keeps-call_kind kept s o this vs (Standard p) = keeps-answer kept (Run s p this vs Undefined) (λ _. (
  λ _. tt,
  λ _.
      tt,
))
keeps-call_kind kept s o this vs _ = keeps-type_error kept s

pub keeps-constructed : (kept : Kept) (x0 : Val) (x1 : Val) → Goes kept (constructed x0 x1)
keeps-constructed kept new v = keeps-if kept (is_object v) (give (Value v)) (give (Value new)) (keeps-give kept
    (Value v)) (keeps-give kept (Value new))

pub keeps-construct_with : (kept : Kept) (x0 : ℕ) (x1 : Val) (x2 : Option (List ℕ)) (x3 : List Val) (x4 : Val) →
    Goes kept (construct_with x0 x1 x2 x3 x4)
keeps-construct_with kept t o label vs p = keeps->>= kept (make_plain t label (if is_object p then p else
    object_prototype)) (λ new. (value (Enter o new vs)) >>= (λ v. constructed new v)) (keeps-make_plain kept t
    label (if is_object p then p else object_prototype)) (λ new. keeps->>= kept (value (Enter o new vs)) (λ v.
    constructed new v) (keeps-value kept (Enter o new vs) (λ _. (λ _. tt, λ _. tt))) (λ v. keeps-constructed kept
    new v))

pub keeps-construct_kind : (kept : Kept) (x0 : ℕ) (x1 : Val) (x2 : Thing) (x3 : List Val) (x4 : Val) (x5 : Kind) →
    Goes kept (construct_kind x0 x1 x2 x3 x4 x5)
keeps-construct_kind kept s o t vs target (Function c) = keeps->>= kept (get c.side target (Named (codes
    "prototype"))) (λ p. construct_with c.side o t.label vs p) (keeps-get kept c.side target (Named (codes
    "prototype"))) (λ p. keeps-construct_with kept c.side o t.label vs p)
keeps-construct_kind kept s o t vs target (Standard p) = keeps-answer kept (Run s p Undefined vs target) (λ _. (
  λ
      _. tt,
  λ _. tt,
))
keeps-construct_kind kept s o t vs target _ = keeps-type_error kept s

pub keeps-list_keys : (kept : Kept) (x0 : List PropertyKey) → Goes kept (list_keys x0)
keeps-list_keys kept ks = keeps->>= kept (pay_each ks) (λ _. give (Keys ks)) (keeps-pay_each kept ks) (λ _.
    keeps-give kept (Keys ks))
