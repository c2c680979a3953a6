-- The lists of nodes that a row goes through, by the node that has them; and what goes on with an answer.
use Rattle.std.specs.Prelude.{List, Option, Some, [], slice_get, ℕ}
use Rattle.mb_model.specs.Task.{Answer, Outcome}
use Rattle.mb_model.specs.Writing.{Does, pass}
use Rattle.mb_world.specs.Form.{ArrayForm, ArrowForm, BlockForm, CallForm, ConstForm, Form, FunctionDeclForm, FunctionForm, GetterForm, LetForm, MethodForm, NewForm, ObjectForm, ScriptForm, SeqForm, SetterForm}

abbrev pub parts_of : Option Form → List ℕ
parts_of (Some (ScriptForm ns)) = ns
parts_of (Some (BlockForm ns)) = ns
parts_of (Some (LetForm ns)) = ns
parts_of (Some (ConstForm ns)) = ns
parts_of (Some (CallForm callee ns)) = ns
parts_of (Some (NewForm callee ns)) = ns
parts_of (Some (ArrayForm ns)) = ns
parts_of (Some (ObjectForm ns)) = ns
parts_of (Some (SeqForm ns)) = ns
parts_of _ = []

-- statements, declarations, arguments, elements, properties or expressions
abbrev pub parts_at : List Form → ℕ → List ℕ
parts_at fs node = parts_of (slice_get fs node)

abbrev pub body_of : Option Form → List ℕ
body_of (Some (FunctionDeclForm x parts)) = parts.body
body_of (Some (FunctionForm x parts)) = parts.body
body_of (Some (ArrowForm parts block)) = parts.body
body_of (Some (MethodForm name parts)) = parts.body
body_of (Some (GetterForm name parts)) = parts.body
body_of (Some (SetterForm name parts)) = parts.body
body_of _ = []

-- the statements of a function's body
abbrev pub body_at : List Form → ℕ → List ℕ
body_at fs node = body_of (slice_get fs node)

-- goes on with an answer; another outcome is passed on
abbrev pub with_answer : Outcome → (Answer → Does Answer) → Does Answer
with_answer o p = λ k. pass o (λ a. p a k)
