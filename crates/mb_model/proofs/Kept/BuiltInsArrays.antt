use Rattle.std.specs.Prelude.{ℕ, List, [], ◌∷◌, length, Bool, true, false, nat_le, Some, None, pos, negsuc}
use Rattle.mb_world.specs.Value.{Val, Whole}
use Rattle.mb_world.specs.Standard.{array_prototype}
use Rattle.mb_world.specs.Arrays.{index_key, length_limit}
use Rattle.mb_model.specs.Task.{HasProperty, Value}
use Rattle.mb_model.specs.Writing.{◌>>=◌, give, pay, flag, perform, make, range_error, truth}
use Rattle.mb_model.specs.Operations.Makings.{array_thing}
use Rattle.mb_model.specs.Operations.Calls.{get, length_of, is_array}
use Rattle.mb_model.specs.BuiltIns.Arguments.{need_object, made_prototype}
use Rattle.mb_model.specs.BuiltIns.Arrays.{array_make, array_filled, array_from, array_fn, is_array_row, array_start, element_found, each_turn}
use Rattle.std.proofs.Common.{refl}
use Rattle.mb_model.proofs.Kept.Words.{Kept, Goes, keeps->>=, keeps-flag, keeps-give, keeps-if, keeps-make, keeps-pay, keeps-range_error, keeps-truth}
use Rattle.mb_model.proofs.Kept.Made.{new-array_thing}
use Rattle.mb_model.proofs.Kept.OperationsCalls.{keeps-get, keeps-is_array, keeps-length_of}
use Rattle.mb_model.proofs.Kept.BuiltInsArguments.{keeps-made_prototype, keeps-need_object}

-- what the parts of these rows keep (written by tools/kept.py)

pub keeps-array_make : (kept : Kept) (x0 : ℕ) (x1 : ℕ) (x2 : Val) → Goes kept (array_make x0 x1 x2)
keeps-array_make kept s n p = keeps->>= kept (make (array_thing s p n [])) (λ a. give (Value a)) (keeps-make kept
    (array_thing s p n []) (new-array_thing s p n [])) (λ a. keeps-give kept (Value a))

pub keeps-array_filled : (kept : Kept) (x0 : ℕ) (x1 : List Val) (x2 : Val) → Goes kept (array_filled x0 x1 x2)
keeps-array_filled kept s vs p = keeps->>= kept (make (array_thing s p (length vs) vs)) (λ a. give (Value a))
    (keeps-make kept (array_thing s p (length vs) vs) (new-array_thing s p (length vs) vs)) (λ a. keeps-give kept
    (Value a))

pub keeps-array_from : (kept : Kept) (x0 : ℕ) (x1 : List Val) (x2 : Val) → Goes kept (array_from x0 x1 x2)
keeps-array_from kept s (Whole (pos n) ∷ []) p = keeps-if kept (nat_le n length_limit) (array_make s n p)
    (range_error s) (keeps-array_make kept s n p) (keeps-range_error kept s)
keeps-array_from kept s (Whole (negsuc n) ∷ []) p = keeps-range_error kept s
keeps-array_from kept s vs p = keeps-array_filled kept s vs p

pub keeps-array_fn : (kept : Kept) (x0 : ℕ) (x1 : List Val) (x2 : Val) (x3 : Val) → Goes kept (array_fn x0 x1 x2 x3)
keeps-array_fn kept s vs own target = keeps->>= kept (made_prototype s own array_prototype target) (λ p. array_from
    s vs p) (keeps-made_prototype kept s own array_prototype target) (λ p. keeps-array_from kept s vs p)

pub keeps-is_array_row : (kept : Kept) (x0 : ℕ) (x1 : Val) → Goes kept (is_array_row x0 x1)
keeps-is_array_row kept s x = keeps->>= kept (is_array s x) (λ b. truth b) (keeps-is_array kept s x) (λ b.
    keeps-truth kept b)

pub keeps-array_start : (kept : Kept) (x0 : ℕ) (x1 : Val) → Goes kept (array_start x0 x1)
keeps-array_start kept s o = keeps->>= kept (need_object s o) (λ _. length_of s o) (keeps-need_object kept s o) (λ
    _. keeps-length_of kept s o)

pub keeps-element_found : (kept : Kept) (x0 : ℕ) (x1 : Val) (x2 : ℕ) (x3 : Bool) → Goes kept (element_found x0 x1
    x2 x3)
keeps-element_found kept s o k false = keeps-give kept None
keeps-element_found kept s o k true = keeps->>= kept (get s o (index_key k)) (λ v. give (Some v)) (keeps-get kept s
    o (index_key k)) (λ v. keeps-give kept (Some v))

pub keeps-each_turn : (kept : Kept) (x0 : ℕ) (x1 : Val) (x2 : ℕ) → Goes kept (each_turn x0 x1 x2)
keeps-each_turn kept s o k = keeps->>= kept (pay 1) (λ _. (flag (perform s (HasProperty (index_key k)) o)) >>= (λ
    there. element_found s o k there)) (keeps-pay kept 1) (λ _. keeps->>= kept (flag (perform s (HasProperty
    (index_key k)) o)) (λ there. element_found s o k there) (keeps-flag kept (perform s (HasProperty (index_key k))
    o) (λ _. (λ _. tt, λ _ _. refl))) (λ there. keeps-element_found kept s o k there))
