use Rattle.std.specs.Prelude.{ℕ, List, ◌||◌, codes}
use Rattle.mb_world.specs.Value.{Val, Undefined, same_value, is_object, is_undefined}
use Rattle.mb_world.specs.Key.{Named}
use Rattle.mb_world.specs.Objects.{is_callable, is_constructor}
use Rattle.mb_model.specs.Task.{Value}
use Rattle.mb_model.specs.Writing.{give, look, unless_type_error}
use Rattle.mb_model.specs.Operations.Makings.{make_array}
use Rattle.mb_model.specs.Operations.Calls.{get}
use Rattle.mb_model.specs.BuiltIns.Arguments.{arg, key_arg, need_object, need_callable, need_constructor, undefined, prototype_or, asked_prototype, made_prototype, array_of}
use Rattle.mb_model.proofs.Kept.Words.{Kept, Goes, keeps->>=, keeps-give, keeps-if, keeps-look, keeps-unless_type_error}
use Rattle.mb_model.proofs.Kept.OperationsCalls.{keeps-get}
use Rattle.mb_model.proofs.Kept.OperationsMakings.{keeps-make_array}
use Rattle.mb_model.proofs.Kept.OperationsConversions.{keeps-to_key}

-- what the parts of these rows keep (written by tools/kept.py)

pub keeps-key_arg : (kept : Kept) (x0 : ℕ) (x1 : List Val) (x2 : ℕ) → Goes kept (key_arg x0 x1 x2)
keeps-key_arg kept s vs i = keeps-to_key kept s (arg vs i)

pub keeps-need_object : (kept : Kept) (x0 : ℕ) (x1 : Val) → Goes kept (need_object x0 x1)
keeps-need_object kept s o = keeps-unless_type_error kept s (is_object o)

pub keeps-need_callable : (kept : Kept) (x0 : ℕ) (x1 : Val) → Goes kept (need_callable x0 x1)
keeps-need_callable kept s f = keeps->>= kept (look (λ g. is_callable g f)) (λ c. unless_type_error s c)
    (keeps-look kept (λ g. is_callable g f)) (λ c. keeps-unless_type_error kept s c)

pub keeps-need_constructor : (kept : Kept) (x0 : ℕ) (x1 : Val) → Goes kept (need_constructor x0 x1)
keeps-need_constructor kept s f = keeps->>= kept (look (λ g. is_constructor g f)) (λ c. unless_type_error s c)
    (keeps-look kept (λ g. is_constructor g f)) (λ c. keeps-unless_type_error kept s c)

pub keeps-undefined : (kept : Kept) → Goes kept (undefined)
keeps-undefined kept = keeps-give kept (Value Undefined)

pub keeps-asked_prototype : (kept : Kept) (x0 : ℕ) (x1 : Val) (x2 : Val) → Goes kept (asked_prototype x0 x1 x2)
keeps-asked_prototype kept s default target = keeps->>= kept (get s target (Named (codes "prototype"))) (λ p. give
    (prototype_or default p)) (keeps-get kept s target (Named (codes "prototype"))) (λ p. keeps-give kept
    (prototype_or default p))

pub keeps-made_prototype : (kept : Kept) (x0 : ℕ) (x1 : Val) (x2 : Val) (x3 : Val) → Goes kept (made_prototype x0
    x1 x2 x3)
keeps-made_prototype kept s own default target = keeps-if kept (is_undefined target || same_value own target) (give
    default) (asked_prototype s default target) (keeps-give kept default) (keeps-asked_prototype kept s default
    target)

pub keeps-array_of : (kept : Kept) (x0 : ℕ) (x1 : List Val) → Goes kept (array_of x0 x1)
keeps-array_of kept s vs = keeps->>= kept (make_array s vs) (λ a. give (Value a)) (keeps-make_array kept s vs) (λ
    a. keeps-give kept (Value a))
