use Rattle.std.specs.Prelude.{ℕ, List, [], ◌∷◌, Bool, true, false, Option, Some, None}
use Rattle.mb_world.specs.Value.{Val, Undefined, to_boolean}
use Rattle.mb_world.specs.Form.{Form, LetForm, DeclForm, ForForm}
use Rattle.mb_world.specs.Graph.{Graph}
use Rattle.mb_model.specs.Task.{Task, Loop, Answer, Nothing, Outcome, Normal, Throw, Return, Break, Continue}
use Rattle.mb_model.specs.Writing.{ends, outcome, Does, ◌>>=◌, give, pass, answer, again, look}
use Rattle.mb_model.specs.Nodes.Scopes.{form_at, enter_scope, copy_scope, initialize, declare}
use Rattle.mb_model.specs.Nodes.Evaluation.{Context, task, eval, with_scope}

-- statements (ECMA-262 14)

-- statements in order
abbrev pub run_each : Context → List ℕ → Does Answer
run_each c [] = give Nothing
run_each c (n ∷ ns) = do
  _ ← answer (task c n)
  run_each c ns

-- a block's or script's own scope (ECMA-262 14.2.2, 16.1.6)
abbrev pub run_scoped : Context → ℕ → List ℕ → Does Answer
run_scoped c n ns = do
  sc ← enter_scope c.side c.scope n
  _ ← declare c.side sc ns
  run_each (with_scope c sc) ns

abbrev pub decl_of : Context → Option Form → Does Answer
decl_of c (Some (DeclForm x None)) = initialize c.scope x Undefined
decl_of c (Some (DeclForm x (Some n))) = do
  v ← eval c n
  initialize c.scope x v
decl_of c _ = give Nothing

-- declarations in order (ECMA-262 14.3.1.2)
abbrev pub give_each : Context → List ℕ → Does Answer
give_each c [] = give Nothing
give_each c (d ∷ ds) = do
  f ← look (λ g. form_at g c.side d)
  _ ← decl_of c f
  give_each c ds

abbrev pub expr_done : Val → Does Answer
expr_done v = give Nothing

-- LoopContinues (ECMA-262 14.7.1.1): what follows a loop's body, where `next` is the loop's next turn
abbrev pub body_ended : Does Answer → Outcome → Does Answer
body_ended next (Normal a) = next
body_ended next (Throw v) = ends (Throw v)
body_ended next (Return v) = ends (Return v)
body_ended next Break = give Nothing
body_ended next Continue = next

abbrev pub while_tested : Context → Task → ℕ → Bool → Does Answer
while_tested c self body false = give Nothing
while_tested c self body true = do
  o ← outcome (task c body)
  body_ended (again self) o

abbrev pub do_tested : Task → Bool → Does Answer
do_tested self false = give Nothing
do_tested self true = again self

abbrev pub do_test : Context → Task → ℕ → Does Answer
do_test c self test = do
  x ← eval c test
  do_tested self (to_boolean x)

-- a `for` with `let` has a scope of its own, copied before the first test and after each body (ECMA-262 14.7.4)
abbrev pub is_let : Option Form → Bool
is_let (Some (LetForm ds)) = true
is_let _ = false

abbrev pub for_lets : Graph → ℕ → Option ℕ → Bool
for_lets g s None = false
for_lets g s (Some n) = is_let (form_at g s n)

abbrev pub copy_if : Bool → ℕ → Does ℕ
copy_if false sc = give sc
copy_if true sc = copy_scope sc

abbrev pub for_again : Context → ℕ → Does Answer
for_again c n = again (Loop c.side n c.scope c.this)

abbrev pub for_last : Context → ℕ → Option ℕ → Does Answer
for_last c n None = for_again c n
for_last c n (Some e) = do
  _ ← answer (task c e)
  for_again c n

abbrev pub for_next : Context → ℕ → Bool → Option ℕ → Does Answer
for_next c n lets last = do
  sc ← copy_if lets c.scope
  for_last (with_scope c sc) n last

abbrev pub for_body : Context → ℕ → Bool → Option ℕ → ℕ → Bool → Does Answer
for_body c n lets last body false = give Nothing
for_body c n lets last body true = do
  o ← outcome (task c body)
  body_ended (for_next c n lets last) o

abbrev pub for_turn : Context → ℕ → Bool → Option ℕ → Option ℕ → ℕ → Does Answer
for_turn c n lets None last body = for_body c n lets last body true
for_turn c n lets (Some test) last body = do
  x ← eval c test
  for_body c n lets last body (to_boolean x)

abbrev pub for_begun : Context → ℕ → Bool → Option ℕ → Option ℕ → ℕ → Does Answer
for_begun c n lets test last body = do
  sc ← copy_if lets c.scope
  for_turn (with_scope c sc) n lets test last body

abbrev pub for_first : Context → ℕ → Bool → Option ℕ → Option ℕ → Option ℕ → ℕ → Does Answer
for_first c n lets None test last body = for_begun c n lets test last body
for_first c n lets (Some e) test last body = do
  _ ← answer (task c e)
  for_begun c n lets test last body

abbrev pub enter_if : Context → Bool → ℕ → Does ℕ
enter_if c false n = give c.scope
enter_if c true n = enter_scope c.side c.scope n

abbrev pub for_row : Context → ℕ → Option ℕ → Option ℕ → Option ℕ → ℕ → Does Answer
for_row c n first test last body = do
  lets ← look (λ g. for_lets g c.side first)
  sc ← enter_if c lets n
  for_first (with_scope c sc) n lets first test last body

abbrev pub loop_form : Context → ℕ → Option Form → Does Answer
loop_form c n (Some (ForForm first test last body)) = do
  lets ← look (λ g. for_lets g c.side first)
  for_turn c n lets test last body
loop_form c n _ = give Nothing

-- the row of `Loop`
abbrev pub loop_row : Context → ℕ → Does Answer
loop_row c n = do
  f ← look (λ g. form_at g c.side n)
  loop_form c n f

-- `finally` (ECMA-262 14.15.3): its own outcome counts where it isn't normal
abbrev pub finally_ended : Outcome → Outcome → Does Answer
finally_ended o (Normal a) = pass o
finally_ended o (Throw v) = ends (Throw v)
finally_ended o (Return v) = ends (Return v)
finally_ended o Break = ends Break
finally_ended o Continue = ends Continue

abbrev pub finally : Context → Option ℕ → Outcome → Does Answer
finally c None o = pass o
finally c (Some e) o = do
  q ← outcome (task c e)
  finally_ended o q

-- the catch name is bound in a scope of its own (ECMA-262 14.15.2)
abbrev pub catch_scope : Context → ℕ → Option (List ℕ) → Val → Does ℕ
catch_scope c n None v = give c.scope
catch_scope c n (Some x) v = do
  sc ← enter_scope c.side c.scope n
  _ ← initialize sc x v
  give sc

abbrev pub catch : Context → ℕ → Option (List ℕ) → Option ℕ → Option ℕ → Val → Does Answer
catch c n x None ending v = finally c ending (Throw v)
catch c n x (Some h) ending v = do
  sc ← catch_scope c n x v
  o ← outcome (task (with_scope c sc) h)
  finally c ending o

-- the block of a try ended (ECMA-262 14.15.3)
abbrev pub tried : Context → ℕ → Option (List ℕ) → Option ℕ → Option ℕ → Outcome → Does Answer
tried c n x h ending (Throw v) = catch c n x h ending v
tried c n x h ending (Normal a) = finally c ending (Normal a)
tried c n x h ending (Return v) = finally c ending (Return v)
tried c n x h ending Break = finally c ending Break
tried c n x h ending Continue = finally c ending Continue

abbrev pub return_row : Context → Option ℕ → Does Answer
return_row c None = ends (Return Undefined)
return_row c (Some n) = do
  v ← eval c n
  ends (Return v)
