use Rattle.std.specs.Prelude.{ℕ, Bool, true, false, ◌||◌, Some}
use Rattle.mb_desc.specs.declared.descriptor.Desc.{Desc}
use Rattle.mb_world.specs.Value.{Val, is_undefined, to_boolean}
use Rattle.mb_world.specs.Objects.{is_callable}
use Rattle.mb_model.specs.Writing.{give, look, unless_type_error}
use Rattle.mb_model.specs.Operations.Calls.{get}
use Rattle.mb_model.specs.Operations.Descriptors.{Field, EnumerableField, ConfigurableField, ValueField, WritableField, GetField, SetField, field_key, accessor_part, with_field, field_found}
use Rattle.mb_model.proofs.Kept.Words.{Kept, Goes, keeps->>=, keeps-give, keeps-look, keeps-unless_type_error}
use Rattle.mb_model.proofs.Kept.OperationsCalls.{keeps-get}

-- what the parts of these rows keep (written by tools/kept.py)

pub keeps-accessor_part : (kept : Kept) (x0 : ℕ) (x1 : Val) → Goes kept (accessor_part x0 x1)
keeps-accessor_part kept s v = keeps->>= kept (look (λ g. is_callable g v)) (λ c. unless_type_error s (c ||
    is_undefined v)) (keeps-look kept (λ g. is_callable g v)) (λ c. keeps-unless_type_error kept s (c ||
    is_undefined v))

pub keeps-with_field : (kept : Kept) (x0 : ℕ) (x1 : Desc Val) (x2 : Field) (x3 : Val) → Goes kept (with_field x0 x1
    x2 x3)
keeps-with_field kept s d EnumerableField v = keeps-give kept (record d { enumerable = Some (to_boolean v) })
keeps-with_field kept s d ConfigurableField v = keeps-give kept (record d { configurable = Some (to_boolean v) })
keeps-with_field kept s d ValueField v = keeps-give kept (record d { value = Some v })
keeps-with_field kept s d WritableField v = keeps-give kept (record d { writable = Some (to_boolean v) })
keeps-with_field kept s d GetField v = keeps->>= kept (accessor_part s v) (λ _. give (record d { get = Some v }))
    (keeps-accessor_part kept s v) (λ _. keeps-give kept (record d { get = Some v }))
keeps-with_field kept s d SetField v = keeps->>= kept (accessor_part s v) (λ _. give (record d { set = Some v }))
    (keeps-accessor_part kept s v) (λ _. keeps-give kept (record d { set = Some v }))

pub keeps-field_found : (kept : Kept) (x0 : ℕ) (x1 : Val) (x2 : Desc Val) (x3 : Field) (x4 : Bool) → Goes kept
    (field_found x0 x1 x2 x3 x4)
keeps-field_found kept s x d f false = keeps-give kept d
keeps-field_found kept s x d f true = keeps->>= kept (get s x (field_key f)) (λ v. with_field s d f v) (keeps-get
    kept s x (field_key f)) (λ v. keeps-with_field kept s d f v)
