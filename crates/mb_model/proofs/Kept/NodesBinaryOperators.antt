use Rattle.std.specs.Prelude.{if◌then◌else◌, ℕ, List, Bool, true, false, not, codes, ℤ, ◌+ℤ◌, ◌-ℤ◌, ◌*ℤ◌, int_div, int_rem, int_lt, int_le}
use Rattle.mb_tree.specs.declared.kind.Sign.{Sign}
use Rattle.mb_tree.specs.declared.kind.Sign.TheVariants.{Plus, Minus, Times, Slash, Percent, TripleEqual, NotDoubleEqual, Less, Greater, LessEqual, GreaterEqual, In, Instanceof}
use Rattle.mb_world.specs.Value.{Val, Whole, Text, same_value, is_object, is_null}
use Rattle.mb_world.specs.Key.{Named}
use Rattle.mb_world.specs.Objects.{is_callable}
use Rattle.mb_model.specs.Task.{GetPrototypeOf, HasProperty, Chain, Answer}
use Rattle.mb_model.specs.Writing.{Does, ◌>>=◌, again, look, value, flag, perform, type_error, range_error, is_value, truth}
use Rattle.mb_model.specs.Operations.Conversions.{to_key, text_by, join_texts, whole}
use Rattle.mb_model.specs.Operations.Calls.{get}
use Rattle.mb_model.specs.Nodes.Evaluation.{Context, eval}
use Rattle.mb_model.specs.Nodes.BinaryOperators.{whole_result, joined, sum, is_zero, divided, remainder, wholes, units_below, compared, has_row, chain_got, chain_row, instance_prototype, instance_object, instance_of, instance_row, operate, right_got, left_got}
use Rattle.std.proofs.Common.{refl}
use Rattle.mb_model.proofs.Kept.Words.{Kept, Goes, keeps->>=, keeps-again, keeps-flag, keeps-if, keeps-is_value, keeps-look, keeps-range_error, keeps-truth, keeps-type_error, keeps-value}
use Rattle.mb_model.proofs.Kept.NodesEvaluation.{keeps-eval}
use Rattle.mb_model.proofs.Kept.OperationsCalls.{keeps-get}
use Rattle.mb_model.proofs.Kept.OperationsConversions.{keeps-join_texts, keeps-text_by, keeps-to_key, keeps-whole}

-- what the parts of these rows keep (written by tools/kept.py)

pub keeps-whole_result : (kept : Kept) (x0 : ℕ) (x1 : ℤ) → Goes kept (whole_result x0 x1)
keeps-whole_result kept s z = keeps->>= kept (whole s z) (λ v. is_value v) (keeps-whole kept s z) (λ v.
    keeps-is_value kept v)

pub keeps-joined : (kept : Kept) (x0 : ℕ) (x1 : Val) (x2 : Val) → Goes kept (joined x0 x1 x2)
keeps-joined kept s a b = keeps->>= kept (text_by s a) (λ x. (text_by s b) >>= (λ y. (join_texts s x y) >>= (λ v.
    is_value v))) (keeps-text_by kept s a) (λ x. keeps->>= kept (text_by s b) (λ y. (join_texts s x y) >>= (λ v.
    is_value v)) (keeps-text_by kept s b) (λ y. keeps->>= kept (join_texts s x y) (λ v. is_value v)
    (keeps-join_texts kept s x y) (λ v. keeps-is_value kept v)))

pub keeps-sum : (kept : Kept) (x0 : ℕ) (x1 : Val) (x2 : Val) → Goes kept (sum x0 x1 x2)
keeps-sum kept s (Whole a) (Whole b) = keeps-whole_result kept s (a +ℤ b)
keeps-sum kept s (Text a) b = keeps-joined kept s (Text a) b
keeps-sum kept s a (Text b) = keeps-joined kept s a (Text b)
keeps-sum kept s _ _ = keeps-type_error kept s

pub keeps-divided : (kept : Kept) (x0 : ℕ) (x1 : ℤ) (x2 : ℤ) → Goes kept (divided x0 x1 x2)
keeps-divided kept s a b = keeps-if kept (is_zero b) (range_error s) (if is_zero (int_rem a b) then whole_result s
    (int_div a b) else range_error s) (keeps-range_error kept s) (keeps-if kept (is_zero (int_rem a b))
    (whole_result s (int_div a b)) (range_error s) (keeps-whole_result kept s (int_div a b)) (keeps-range_error
    kept s))

pub keeps-remainder : (kept : Kept) (x0 : ℕ) (x1 : ℤ) (x2 : ℤ) → Goes kept (remainder x0 x1 x2)
keeps-remainder kept s a b = keeps-if kept (is_zero b) (range_error s) (whole_result s (int_rem a b))
    (keeps-range_error kept s) (keeps-whole_result kept s (int_rem a b))

pub keeps-wholes : (kept : Kept) (x0 : ℕ) (x1 : (ℤ → ℤ → Does Answer)) (px1 : (y0 : ℤ) (y1 : ℤ) → Goes kept (x1 y0
    y1)) (x2 : Val) (x3 : Val) → Goes kept (wholes x0 x1 x2 x3)
keeps-wholes kept s f keeps-f (Whole a) (Whole b) = keeps-f a b
keeps-wholes kept s f keeps-f _ _ = keeps-type_error kept s

pub keeps-compared : (kept : Kept) (x0 : ℕ) (x1 : (ℤ → ℤ → Bool)) (x2 : (List ℕ → List ℕ → Bool)) (x3 : Val) (x4 :
    Val) → Goes kept (compared x0 x1 x2 x3 x4)
keeps-compared kept s f g (Whole a) (Whole b) = keeps-truth kept (f a b)
keeps-compared kept s f g (Text a) (Text b) = keeps-truth kept (g a b)
keeps-compared kept s f g _ _ = keeps-type_error kept s

pub keeps-has_row : (kept : Kept) (x0 : ℕ) (x1 : Val) (x2 : Val) → Goes kept (has_row x0 x1 x2)
keeps-has_row kept s a o = keeps->>= kept (to_key s a) (λ k. (flag (perform s (HasProperty k) o)) >>= (λ b. truth
    b)) (keeps-to_key kept s a) (λ k. keeps->>= kept (flag (perform s (HasProperty k) o)) (λ b. truth b)
    (keeps-flag kept (perform s (HasProperty k) o) (λ _. (λ _. tt, λ _ _. refl))) (λ b. keeps-truth kept b))

pub keeps-chain_got : (kept : Kept) (x0 : ℕ) (x1 : Val) (x2 : Val) → Goes kept (chain_got x0 x1 x2)
keeps-chain_got kept s p x = keeps-if kept (same_value x p) (truth true) (if is_null x then truth false else again
    (Chain s x p)) (keeps-truth kept true) (keeps-if kept (is_null x) (truth false) (again (Chain s x p))
    (keeps-truth kept false) (keeps-again kept (Chain s x p) (λ _. (λ _. tt, λ _. tt))))

pub keeps-chain_row : (kept : Kept) (x0 : ℕ) (x1 : Val) (x2 : Val) → Goes kept (chain_row x0 x1 x2)
keeps-chain_row kept s x p = keeps->>= kept (value (perform s GetPrototypeOf x)) (λ y. chain_got s p y)
    (keeps-value kept (perform s GetPrototypeOf x) (λ _. (λ _. tt, λ _ _. refl))) (λ y. keeps-chain_got kept s p y)

pub keeps-instance_prototype : (kept : Kept) (x0 : ℕ) (x1 : Val) (x2 : Val) → Goes kept (instance_prototype x0 x1 x2)
keeps-instance_prototype kept s a p = keeps-if kept (is_object p) (chain_row s a p) (type_error s) (keeps-chain_row
    kept s a p) (keeps-type_error kept s)

pub keeps-instance_object : (kept : Kept) (x0 : ℕ) (x1 : Val) (x2 : Val) → Goes kept (instance_object x0 x1 x2)
keeps-instance_object kept s a f = keeps->>= kept (get s f (Named (codes "prototype"))) (λ p. instance_prototype s
    a p) (keeps-get kept s f (Named (codes "prototype"))) (λ p. keeps-instance_prototype kept s a p)

pub keeps-instance_of : (kept : Kept) (x0 : ℕ) (x1 : Val) (x2 : Val) (x3 : Bool) → Goes kept (instance_of x0 x1 x2 x3)
keeps-instance_of kept s a f false = keeps-type_error kept s
keeps-instance_of kept s a f true = keeps-if kept (is_object a) (instance_object s a f) (truth false)
    (keeps-instance_object kept s a f) (keeps-truth kept false)

pub keeps-instance_row : (kept : Kept) (x0 : ℕ) (x1 : Val) (x2 : Val) → Goes kept (instance_row x0 x1 x2)
keeps-instance_row kept s a f = keeps->>= kept (look (λ g. is_callable g f)) (λ c. instance_of s a f c) (keeps-look
    kept (λ g. is_callable g f)) (λ c. keeps-instance_of kept s a f c)

pub keeps-operate : (kept : Kept) (x0 : ℕ) (x1 : Sign) (x2 : Val) (x3 : Val) → Goes kept (operate x0 x1 x2 x3)
keeps-operate kept s Plus a b = keeps-sum kept s a b
keeps-operate kept s Minus a b = keeps-wholes kept s (λ x y. whole_result s (x -ℤ y)) (λ x y. keeps-whole_result
    kept s (x -ℤ y)) a b
keeps-operate kept s Times a b = keeps-wholes kept s (λ x y. whole_result s (x *ℤ y)) (λ x y. keeps-whole_result
    kept s (x *ℤ y)) a b
keeps-operate kept s Slash a b = keeps-wholes kept s (divided s) (keeps-divided kept s) a b
keeps-operate kept s Percent a b = keeps-wholes kept s (remainder s) (keeps-remainder kept s) a b
keeps-operate kept s TripleEqual a b = keeps-truth kept (same_value a b)
keeps-operate kept s NotDoubleEqual a b = keeps-truth kept (not (same_value a b))
keeps-operate kept s Less a b = keeps-compared kept s int_lt units_below a b
keeps-operate kept s Greater a b = keeps-compared kept s (λ x y. int_lt y x) (λ x y. units_below y x) a b
keeps-operate kept s LessEqual a b = keeps-compared kept s int_le (λ x y. not (units_below y x)) a b
keeps-operate kept s GreaterEqual a b = keeps-compared kept s (λ x y. int_le y x) (λ x y. not (units_below x y)) a b
keeps-operate kept s In a b = keeps-if kept (is_object b) (has_row s a b) (type_error s) (keeps-has_row kept s a b)
    (keeps-type_error kept s)
keeps-operate kept s Instanceof a b = keeps-instance_row kept s a b
keeps-operate kept s _ a b = keeps-type_error kept s

pub keeps-right_got : (kept : Kept) (x0 : ℕ) (x1 : Sign) (x2 : Val) (x3 : Val) → Goes kept (right_got x0 x1 x2 x3)
keeps-right_got kept s sign a b = keeps-operate kept s sign a b

pub keeps-left_got : (kept : Kept) (x0 : Context) (x1 : Sign) (x2 : ℕ) (x3 : Val) → Goes kept (left_got x0 x1 x2 x3)
keeps-left_got kept c sign right a = keeps->>= kept (eval c right) (λ b. right_got c.side sign a b) (keeps-eval
    kept c right) (λ b. keeps-right_got kept c.side sign a b)
