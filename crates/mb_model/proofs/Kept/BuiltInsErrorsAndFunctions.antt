use Rattle.std.specs.Prelude.{if◌then◌else◌, ℕ, List, [], drop, true, false, None, codes}
use Rattle.mb_desc.specs.declared.descriptor.Full.TheVariants.{Datum}
use Rattle.mb_world.specs.declared.cell.ErrorKind.{ErrorKind}
use Rattle.mb_world.specs.Value.{Val, Text, is_undefined, is_nullish}
use Rattle.mb_world.specs.Key.{Named}
use Rattle.mb_world.specs.Graph.{Fault}
use Rattle.mb_world.specs.Standard.{error_prototype}
use Rattle.mb_desc.specs.Descriptors.{descriptor_of}
use Rattle.mb_world.specs.Objects.{new_thing}
use Rattle.mb_model.specs.Task.{Value}
use Rattle.mb_model.specs.Writing.{◌>>=◌, give, make}
use Rattle.mb_model.specs.Operations.Conversions.{text_by}
use Rattle.mb_model.specs.Operations.Calls.{list_of}
use Rattle.mb_model.specs.Nodes.Literals.{prop_defined}
use Rattle.mb_model.specs.BuiltIns.Arguments.{arg, need_callable, made_prototype}
use Rattle.mb_model.specs.BuiltIns.ReflectMembers.{apply_listed}
use Rattle.mb_model.specs.BuiltIns.ErrorsAndFunctions.{with_message, error_message, error_made, error_fn, function_call, function_apply_list, function_apply}
use Rattle.std.proofs.Common.{refl}
use Rattle.mb_model.proofs.Kept.Words.{Kept, Goes, keeps->>=, keeps-give, keeps-if, keeps-make}
use Rattle.mb_model.proofs.Kept.Made.{new-new_thing}
use Rattle.mb_model.proofs.Kept.BuiltInsReflectMembers.{keeps-apply_listed}
use Rattle.mb_model.proofs.Kept.OperationsCalls.{keeps-list_of}
use Rattle.mb_model.proofs.Kept.BuiltInsArguments.{keeps-made_prototype, keeps-need_callable}
use Rattle.mb_model.proofs.Kept.Defined.{keeps-prop_defined}
use Rattle.mb_model.proofs.Kept.OperationsConversions.{keeps-text_by}

-- what the parts of these rows keep (written by tools/kept.py)

pub keeps-with_message : (kept : Kept) (x0 : ℕ) (x1 : Val) (x2 : Val) → Goes kept (with_message x0 x1 x2)
keeps-with_message kept s e m = keeps->>= kept (text_by s m) (λ t. (prop_defined s e (Named (codes "message"))
    (descriptor_of (Datum (Text t) true false true))) >>= (λ _. give (Value e))) (keeps-text_by kept s m) (λ t.
    keeps->>= kept (prop_defined s e (Named (codes "message")) (descriptor_of (Datum (Text t) true false true))) (λ
    _. give (Value e)) (keeps-prop_defined kept s e (Named (codes "message")) (descriptor_of (Datum (Text t) true
    false true)) refl) (λ _. keeps-give kept (Value e)))

pub keeps-error_message : (kept : Kept) (x0 : ℕ) (x1 : Val) (x2 : Val) → Goes kept (error_message x0 x1 x2)
keeps-error_message kept s e m = keeps-if kept (is_undefined m) (give (Value e)) (with_message s e m) (keeps-give
    kept (Value e)) (keeps-with_message kept s e m)

pub keeps-error_made : (kept : Kept) (x0 : ℕ) (x1 : ErrorKind) (x2 : Val) (x3 : Val) → Goes kept (error_made x0 x1
    x2 x3)
keeps-error_made kept s kind m p = keeps->>= kept (make (new_thing s None (Fault kind) p)) (λ e. error_message s e
    m) (keeps-make kept (new_thing s None (Fault kind) p) (new-new_thing s None (Fault kind) p refl)) (λ e.
    keeps-error_message kept s e m)

pub keeps-error_fn : (kept : Kept) (x0 : ℕ) (x1 : ErrorKind) (x2 : Val) (x3 : Val) (x4 : Val) → Goes kept (error_fn
    x0 x1 x2 x3 x4)
keeps-error_fn kept s kind own target m = keeps->>= kept (made_prototype s own (error_prototype kind) target) (λ p.
    error_made s kind m p) (keeps-made_prototype kept s own (error_prototype kind) target) (λ p. keeps-error_made
    kept s kind m p)

pub keeps-function_call : (kept : Kept) (x0 : ℕ) (x1 : Val) (x2 : List Val) → Goes kept (function_call x0 x1 x2)
keeps-function_call kept s f vs = keeps->>= kept (need_callable s f) (λ _. apply_listed s f (arg vs 0) (drop 1 vs))
    (keeps-need_callable kept s f) (λ _. keeps-apply_listed kept s f (arg vs 0) (drop 1 vs))

pub keeps-function_apply_list : (kept : Kept) (x0 : ℕ) (x1 : Val) (x2 : Val) (x3 : Val) → Goes kept
    (function_apply_list x0 x1 x2 x3)
keeps-function_apply_list kept s f this x = keeps->>= kept (list_of s false x) (λ vs. apply_listed s f this vs)
    (keeps-list_of kept s false x) (λ vs. keeps-apply_listed kept s f this vs)

pub keeps-function_apply : (kept : Kept) (x0 : ℕ) (x1 : Val) (x2 : List Val) → Goes kept (function_apply x0 x1 x2)
keeps-function_apply kept s f vs = keeps->>= kept (need_callable s f) (λ _. if is_nullish (arg vs 1) then
    apply_listed s f (arg vs 0) [] else function_apply_list s f (arg vs 0) (arg vs 1)) (keeps-need_callable kept s
    f) (λ _. keeps-if kept (is_nullish (arg vs 1)) (apply_listed s f (arg vs 0) []) (function_apply_list s f (arg
    vs 0) (arg vs 1)) (keeps-apply_listed kept s f (arg vs 0) []) (keeps-function_apply_list kept s f (arg vs 0)
    (arg vs 1)))
