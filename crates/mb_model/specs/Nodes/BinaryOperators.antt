use Rattle.std.specs.Prelude.{ℕ, List, [], ◌∷◌, Bool, true, false, not, ◌&&◌, ◌||◌, nat_eq, nat_lt, if◌then◌else◌, codes, ℤ, pos, negsuc, ◌+ℤ◌, ◌-ℤ◌, ◌*ℤ◌, int_div, int_rem, int_lt, int_le}
use Rattle.mb_tree.specs.declared.kind.Sign.{Sign}
use Rattle.mb_tree.specs.declared.kind.Sign.TheVariants.{Plus, Minus, Times, Slash, Percent, TripleEqual, NotDoubleEqual, Less, Greater, LessEqual, GreaterEqual, In, Instanceof}
use Rattle.mb_world.specs.Value.{Val, Whole, Text, same_value, is_object, is_null}
use Rattle.mb_world.specs.Key.{Named}
use Rattle.mb_world.specs.Objects.{is_callable}
use Rattle.mb_model.specs.Task.{GetPrototypeOf, HasProperty, Chain, Answer}
use Rattle.mb_model.specs.Writing.{Does, ◌>>=◌, again, look, value, flag, perform, type_error, range_error, is_value, truth}
use Rattle.mb_model.specs.Operations.Conversions.{to_key, text_by, join_texts, whole}
use Rattle.mb_model.specs.Operations.Calls.{get}
use Rattle.mb_model.specs.Nodes.Evaluation.{Context, eval}

-- operators on two values (ECMA-262 13.6 to 13.12)

abbrev pub whole_result : ℕ → ℤ → Does Answer
whole_result s z = do
  v ← whole s z
  is_value v

abbrev pub joined : ℕ → Val → Val → Does Answer
joined s a b = do
  x ← text_by s a
  y ← text_by s b
  v ← join_texts s x y
  is_value v

-- ApplyStringOrNumericBinaryOperator (ECMA-262 13.15.3)
abbrev pub sum : ℕ → Val → Val → Does Answer
sum s (Whole a) (Whole b) = whole_result s (a +ℤ b)
sum s (Text a) b = joined s (Text a) b
sum s a (Text b) = joined s a (Text b)
sum s _ _ = type_error s

abbrev pub is_zero : ℤ → Bool
is_zero (pos n) = nat_eq n 0
is_zero (negsuc n) = false

abbrev pub divided : ℕ → ℤ → ℤ → Does Answer
divided s a b =
    if is_zero b then range_error s
    else if is_zero (int_rem a b) then whole_result s (int_div a b)
    else range_error s

abbrev pub remainder : ℕ → ℤ → ℤ → Does Answer
remainder s a b = if is_zero b then range_error s else whole_result s (int_rem a b)

-- the operators on two whole numbers
abbrev pub wholes : ℕ → (ℤ → ℤ → Does Answer) → Val → Val → Does Answer
wholes s f (Whole a) (Whole b) = f a b
wholes s f _ _ = type_error s

-- two texts by their code units
abbrev pub units_below : List ℕ → List ℕ → Bool
units_below [] [] = false
units_below [] (b ∷ y) = true
units_below (a ∷ x) [] = false
units_below (a ∷ x) (b ∷ y) = nat_lt a b || (nat_eq a b && units_below x y)

-- IsLessThan (ECMA-262 7.2.13)
abbrev pub compared : ℕ → (ℤ → ℤ → Bool) → (List ℕ → List ℕ → Bool) → Val → Val → Does Answer
compared s f g (Whole a) (Whole b) = truth (f a b)
compared s f g (Text a) (Text b) = truth (g a b)
compared s f g _ _ = type_error s

abbrev pub has_row : ℕ → Val → Val → Does Answer
has_row s a o = do
  k ← to_key s a
  b ← flag (perform s (HasProperty k) o)
  truth b

-- `instanceof`: a prototype was got (ECMA-262 7.3.22 OrdinaryHasInstance, step 6)
abbrev pub chain_got : ℕ → Val → Val → Does Answer
chain_got s p x = if same_value x p then truth true else if is_null x then truth false else again (Chain s x p)

-- the row of `Chain`
abbrev pub chain_row : ℕ → Val → Val → Does Answer
chain_row s x p = do
  y ← value (perform s GetPrototypeOf x)
  chain_got s p y

abbrev pub instance_prototype : ℕ → Val → Val → Does Answer
instance_prototype s a p = if is_object p then chain_row s a p else type_error s

abbrev pub instance_object : ℕ → Val → Val → Does Answer
instance_object s a f = do
  p ← get s f (Named (codes "prototype"))
  instance_prototype s a p

abbrev pub instance_of : ℕ → Val → Val → Bool → Does Answer
instance_of s a f false = type_error s
instance_of s a f true = if is_object a then instance_object s a f else truth false

abbrev pub instance_row : ℕ → Val → Val → Does Answer
instance_row s a f = do
  c ← look (λ g. is_callable g f)
  instance_of s a f c

abbrev pub operate : ℕ → Sign → Val → Val → Does Answer
operate s Plus a b = sum s a b
operate s Minus a b = wholes s (λ x y. whole_result s (x -ℤ y)) a b
operate s Times a b = wholes s (λ x y. whole_result s (x *ℤ y)) a b
operate s Slash a b = wholes s (divided s) a b
operate s Percent a b = wholes s (remainder s) a b
operate s TripleEqual a b = truth (same_value a b)
operate s NotDoubleEqual a b = truth (not (same_value a b))
operate s Less a b = compared s int_lt units_below a b
operate s Greater a b = compared s (λ x y. int_lt y x) (λ x y. units_below y x) a b
operate s LessEqual a b = compared s int_le (λ x y. not (units_below y x)) a b
operate s GreaterEqual a b = compared s (λ x y. int_le y x) (λ x y. not (units_below x y)) a b
operate s In a b = if is_object b then has_row s a b else type_error s
operate s Instanceof a b = instance_row s a b
operate s _ a b = type_error s

abbrev pub right_got : ℕ → Sign → Val → Val → Does Answer
right_got s sign a b = operate s sign a b

abbrev pub left_got : Context → Sign → ℕ → Val → Does Answer
left_got c sign right a = do
  b ← eval c right
  right_got c.side sign a b
