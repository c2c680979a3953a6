use Rattle.std.specs.Prelude.{ℕ, List, [], ◌∷◌, ◌++◌, length, Bool, true, false, Option, Some, None}
use Rattle.mb_desc.specs.declared.descriptor.Full.{Full}
use Rattle.mb_world.specs.declared.cell.ErrorKind.{ErrorKind}
use Rattle.mb_world.specs.declared.cell.ErrorKind.TheVariants.{TypeError, RangeError, ReferenceError}
use Rattle.mb_model.specs.Engine.{Prog, Ret, Pay, Turn, Do, Again}
use Rattle.mb_world.specs.Value.{Val, Undefined, Truth, Symbol, Object}
use Rattle.mb_world.specs.Key.{PropertyKey}
use Rattle.mb_model.specs.Task.{Method, Task, Answer, Nothing, Value, Flag, Prop, Keys, Outcome, Normal, Throw, Return, Break, Continue, Perform}
use Rattle.mb_world.specs.Graph.{Graph, Thing, Fault, Item}
use Rattle.mb_world.specs.Objects.{new_thing}
use Rattle.mb_world.specs.Standard.{error_prototype}

-- how a row is written: tasks, charges, and changes of the graph, in order

-- what a task does
abbrev pub Row : Type 0
Row = Prog Task Outcome Graph

-- a part of a row: it goes on with an A, or ends the row
abbrev pub Does : Type 0 → Type 0
Does A = (A → Graph → Row) → Graph → Row

infixl 5 ◌>>=◌
abbrev pub ◌>>=◌ : {A B : Type 0} → Does A → (A → Does B) → Does B
◌>>=◌ m f = λ k. m (λ a. f a k)

abbrev pub give : {A : Type 0} → A → Does A
give a = λ k. k a

-- a value is the answer, a truth value is
abbrev pub is_value : Val → Does Answer
is_value v = give (Value v)

abbrev pub truth : Bool → Does Answer
truth b = give (Value (Truth b))

-- a method's or an access's answer of yes or no, which is no value yet
abbrev pub yes_or_no : Bool → Does Answer
yes_or_no b = give (Flag b)

-- ends the row
abbrev pub ends : {A : Type 0} → Outcome → Does A
ends o = λ k g. Ret o g

abbrev pub throw : {A : Type 0} → Val → Does A
throw v = ends (Throw v)

-- an outcome is passed on
abbrev pub pass : Outcome → Does Answer
pass (Normal a) = give a
pass (Throw v) = ends (Throw v)
pass (Return v) = ends (Return v)
pass Break = ends Break
pass Continue = ends Continue

-- goes on with the outcome of a task, whatever it is
abbrev pub outcome : Task → Does Outcome
outcome t = λ k g. Do t g k

-- goes on with the answer of a task
abbrev pub answer : Task → Does Answer
answer t = λ k g. Do t g (λ o. pass o k)

-- starts a row anew, with no charge, and goes on with its answer
abbrev pub again : Task → Does Answer
again t = λ k g. Again t g (λ o. pass o k)

-- takes a charge (the scope's table of charges)
abbrev pub pay : ℕ → Does Answer
pay n = λ k g. Pay n g (k Nothing g)

-- a charge of 1, after which the row may start anew
abbrev pub turn : Does Answer
turn = λ k g. Turn g (k Nothing g)

-- '1 per' so many: charges of 1, one after the other
abbrev pub pay_each : {X : Type 0} → List X → Does Answer
pay_each [] = give Nothing
pay_each (x ∷ xs) = do
  _ ← pay 1
  pay_each xs

abbrev pub look : {A : Type 0} → (Graph → A) → Does A
look f = λ k g. k (f g) g

abbrev pub change : (Graph → Graph) → Does Answer
change f = λ k g. k Nothing (f g)

-- the sorts of answers: a task that is asked for one gives no other, and the last line of each stands for none
abbrev pub value_in : Answer → Val
value_in (Value v) = v
value_in _ = Undefined

abbrev pub flag_in : Answer → Bool
flag_in (Flag b) = b
flag_in _ = false

abbrev pub property_in : Answer → Option (Full Val)
property_in (Prop p) = p
property_in _ = None

abbrev pub keys_in : Answer → List PropertyKey
keys_in (Keys ks) = ks
keys_in _ = []

abbrev pub value : Task → Does Val
value t = do
  a ← answer t
  give (value_in a)

abbrev pub flag : Task → Does Bool
flag t = do
  a ← answer t
  give (flag_in a)

abbrev pub property : Task → Does (Option (Full Val))
property t = do
  a ← answer t
  give (property_in a)

abbrev pub keys : Task → Does (List PropertyKey)
keys t = do
  a ← answer t
  give (keys_in a)

-- an internal method of an object, by a side with its own view
abbrev pub perform : ℕ → Method → Val → Task
perform s m o = Perform s m o s true

abbrev pub with_object : Thing → Graph → Graph
with_object t g = record g { objects = g.objects ++ (t ∷ []) }

-- makes an object, which gets the next number
abbrev pub make : Thing → Does Val
make t = λ k g. k (Object (length g.objects)) (with_object t g)

abbrev pub with_symbol : Option (List ℕ) → Graph → Graph
with_symbol description g = record g { symbols = g.symbols ++ (description ∷ []) }

-- makes a symbol, which gets the next number
abbrev pub make_symbol : Option (List ℕ) → Does Val
make_symbol description = λ k g. k (Symbol (length g.symbols)) (with_symbol description g)

-- a fresh error object of the acting side is thrown (ECMA-262 20.5)
abbrev pub fail : {A : Type 0} → ℕ → ErrorKind → Does A
fail s kind = do
  v ← make (new_thing s None (Fault kind) (error_prototype kind))
  throw v

abbrev pub type_error : {A : Type 0} → ℕ → Does A
type_error s = fail s TypeError

abbrev pub range_error : {A : Type 0} → ℕ → Does A
range_error s = fail s RangeError

abbrev pub reference_error : {A : Type 0} → ℕ → Does A
reference_error s = fail s ReferenceError

-- the answer, or TypeError where there is none
abbrev pub or_type_error : {A : Type 0} → ℕ → Option A → Does A
or_type_error s None = type_error s
or_type_error s (Some a) = give a

-- TypeError where the test fails
abbrev pub unless_type_error : ℕ → Bool → Does Answer
unless_type_error s true = give Nothing
unless_type_error s false = type_error s

abbrev pub log : Item → Does Answer
log i = change (λ g. record g { log = g.log ++ (i ∷ []) })
