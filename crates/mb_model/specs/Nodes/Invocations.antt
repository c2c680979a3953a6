use Rattle.std.specs.Prelude.{ℕ, List, [], ◌∷◌, ◌++◌, Bool, true, false, Option, Some, if◌then◌else◌}
use Rattle.mb_world.specs.Value.{Val, Undefined, to_boolean}
use Rattle.mb_world.specs.Form.{Form, MemberForm, IndexForm}
use Rattle.mb_world.specs.Objects.{is_callable, is_constructor}
use Rattle.mb_model.specs.Task.{Call, Construct, Answer}
use Rattle.mb_model.specs.Writing.{Does, ◌>>=◌, give, answer, look, perform, type_error, is_value}
use Rattle.mb_model.specs.Operations.Calls.{getv}
use Rattle.mb_model.specs.Nodes.Evaluation.{Context, task, eval}
use Rattle.mb_model.specs.Nodes.References.{Reference, ToName, ToPlace, refer}

-- calls and `new`, choices and sequences

-- ---- calls (ECMA-262 13.3.5, 13.3.6)

abbrev pub call_if : ℕ → Val → Val → List Val → Bool → Does Answer
call_if s f this vs false = type_error s
call_if s f this vs true = answer (perform s (Call this vs) f)

abbrev pub call_all : ℕ → Val → Val → List Val → Does Answer
call_all s f this vs = do
  c ← look (λ g. is_callable g f)
  call_if s f this vs c

abbrev pub new_if : ℕ → Val → List Val → Bool → Does Answer
new_if s f vs false = type_error s
new_if s f vs true = answer (perform s (Construct vs f) f)

abbrev pub new_all : ℕ → Val → List Val → Does Answer
new_all s f vs = do
  c ← look (λ g. is_constructor g f)
  new_if s f vs c

-- arguments in order (ECMA-262 13.3.8.1), after those that were evaluated
abbrev pub arguments : Context → List ℕ → List Val → Does (List Val)
arguments c [] vs = give vs
arguments c (n ∷ ns) vs = do
  v ← eval c n
  arguments c ns (vs ++ (v ∷ []))

abbrev pub callee_got : Context → List ℕ → Val → Val → Does Answer
callee_got c ns this f = do
  vs ← arguments c ns []
  call_all c.side f this vs

abbrev pub call_reference : Context → List ℕ → Reference → Does Answer
call_reference c ns (ToName x) = type_error c.side
call_reference c ns (ToPlace base k) = do
  f ← getv c.side base k
  callee_got c ns base f

abbrev pub call_place : Context → ℕ → List ℕ → Does Answer
call_place c n ns = do
  r ← refer c n
  call_reference c ns r

abbrev pub call_row : Context → ℕ → List ℕ → Option Form → Does Answer
call_row c n ns (Some (MemberForm b x)) = call_place c n ns
call_row c n ns (Some (IndexForm b k)) = call_place c n ns
call_row c n ns _ = do
  f ← eval c n
  callee_got c ns Undefined f

abbrev pub constructor_got : Context → List ℕ → Val → Does Answer
constructor_got c ns f = do
  vs ← arguments c ns []
  new_all c.side f vs

-- ---- choices (ECMA-262 13.13, 13.14, 13.16)

abbrev pub or_got : Context → ℕ → Val → Does Answer
or_got c right v = if to_boolean v then is_value v else answer (task c right)

abbrev pub and_got : Context → ℕ → Val → Does Answer
and_got c right v = if to_boolean v then answer (task c right) else is_value v

abbrev pub sequence : Context → List ℕ → Val → Does Answer
sequence c [] v = is_value v
sequence c (n ∷ ns) v = do
  w ← eval c n
  sequence c ns w
