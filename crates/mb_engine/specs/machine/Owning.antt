-- Which crate does the step of a frame.
use Rattle.std.specs.Prelude.{Bool, List, Option, nat_eq, nat_le, true, ℕ, ◌&&◌, ◌||◌, ◌≡◌}
use Rattle.mb_arrayapi.specs.Ours.{IsArrayFrame, IsArrayTask}
use Rattle.mb_base.specs.declared.value.Side.{Side}
use Rattle.mb_call.specs.Ours.{IsCallFrame, IsCallTask}
use Rattle.mb_engine.specs.declared.owners.Owner.{Owner}
use Rattle.mb_engine.specs.declared.owners.Owner.TheVariants.{Arrays, Calls, Expressions, Intrinsics, Nobody, Proxies}
use Rattle.mb_engine.specs.declared.owners.Owner.TheVariants.{Reflecting, Statements}
use Rattle.mb_eval_expr.specs.Ours.{IsExpressionFrame, IsExpressionTask}
use Rattle.mb_eval_stmt.specs.Ours.{IsStatementFrame, IsStatementTask, is_statement}
use Rattle.mb_frames.specs.Kinds.{is_expression}
use Rattle.mb_frames.specs.declared.machine.Waiting.{Waiting}
use Rattle.mb_frames.specs.declared.task.Task.{Task}
use Rattle.mb_intrinsics.specs.Ours.{IsBasicFrame, IsBasicTask}
use Rattle.mb_parts.specs.Top.{IsOnTop}
use Rattle.mb_reflect.specs.Ours.{IsReflectFrame, IsReflectTask}
use Rattle.mb_scriptproxy.specs.Ours.{IsProxyFrame, IsProxyTask}
use Rattle.mb_world.specs.Data.{Data}
use Rattle.mb_world.specs.Form.{Form}

abbrev pub TaskBelongs : Data → Owner → Side → Task → Type 0
TaskBelongs d Expressions home task = IsExpressionTask d home task
TaskBelongs d Statements home task = IsStatementTask d home task
TaskBelongs d Calls home task = IsCallTask d task
TaskBelongs d Intrinsics home task = IsBasicTask task
TaskBelongs d Reflecting home task = IsReflectTask task
TaskBelongs d Arrays home task = IsArrayTask task
TaskBelongs d Proxies home task = IsProxyTask d task
TaskBelongs d Nobody home task = Unit {0}

abbrev pub Belongs : Data → Owner → Waiting → Type 0
Belongs d Expressions y = IsExpressionFrame d y.home y.frame
Belongs d Statements y = IsStatementFrame d y.home y.frame
Belongs d Calls y = IsCallFrame d y.frame
Belongs d Intrinsics y = IsBasicFrame y.frame
Belongs d Reflecting y = IsReflectFrame y.frame
Belongs d Arrays y = IsArrayFrame y.frame
Belongs d Proxies y = IsProxyFrame d y.frame
Belongs d Nobody y = Unit {0}

-- the node of that form, where it is there
abbrev pub OwnsForm : Owner → Option Form → Type 0
OwnsForm Expressions form = is_expression form ≡ true
OwnsForm Statements form = is_statement form ≡ true
OwnsForm Nobody form = Unit {0}
OwnsForm owner form = ⊥

-- of what has begun, only calls and methods of Proxies
abbrev pub BegunBelongs : Data → Owner → Task → Type 0
BegunBelongs d Calls task = IsCallTask d task
BegunBelongs d Proxies task = IsProxyTask d task
BegunBelongs d Nobody task = Unit {0}
BegunBelongs d owner task = ⊥

abbrev pub OwnsEntry : Data → Owner → Type 0
OwnsEntry d Calls = d.joined ≡ true
OwnsEntry d Nobody = Unit {0}
OwnsEntry d owner = ⊥

-- nobody has no frame on top, or one that has no steps yet
abbrev pub IsTopOf : Data → Owner → List Waiting → Type 0
IsTopOf d Nobody stack = Unit {0}
IsTopOf d Expressions stack = IsOnTop (Belongs d Expressions) stack
IsTopOf d Statements stack = IsOnTop (Belongs d Statements) stack
IsTopOf d Calls stack = IsOnTop (Belongs d Calls) stack
IsTopOf d Intrinsics stack = IsOnTop (Belongs d Intrinsics) stack
IsTopOf d Reflecting stack = IsOnTop (Belongs d Reflecting) stack
IsTopOf d Arrays stack = IsOnTop (Belongs d Arrays) stack
IsTopOf d Proxies stack = IsOnTop (Belongs d Proxies) stack

-- the places of the basic built-ins
abbrev pub basic_place : ℕ → Bool
basic_place n = nat_eq n 0 || nat_eq n 1 || nat_eq n 2 || nat_eq n 7 || nat_eq n 55

-- those from one place to another
abbrev pub is_within : ℕ → ℕ → ℕ → Bool
is_within first last n = nat_le first n && nat_le n last

-- the places of Object, Reflect, errors and Function.prototype, and of their members and prototypes
abbrev pub reflect_place : ℕ → Bool
reflect_place n =
    nat_eq n 3 || nat_eq n 5 || nat_eq n 56 || is_within 8 23 n || is_within 35 47 n || is_within 49 54 n

-- the places of Array, Array.prototype and their members
abbrev pub array_place : ℕ → Bool
array_place n = nat_eq n 4 || is_within 24 34 n

-- the places of Proxy and Proxy.revocable
abbrev pub proxy_place : ℕ → Bool
proxy_place n = nat_eq n 6 || nat_eq n 48
