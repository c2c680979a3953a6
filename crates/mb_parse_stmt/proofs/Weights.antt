-- How much a mode weighs in the measure of the parser's steps.
use Rattle.std.proofs.Common.{◌≡◌, ℕ, ◌+◌, ◌*◌, ◌<◌, ◌≤◌, Bool, true, false, Option, Some, None, refl, arith}
use Rattle.std.specs.Prelude.{if◌then◌else◌}
use Rattle.mb_base.specs.declared.value.StrId.{StrId}
use Rattle.mb_parse_stmt.specs.declared.terminal.Terminal.{Terminal}
use Rattle.mb_parse_stmt.specs.declared.terminal.Terminal.TheVariants as p
use Rattle.mb_parse_stmt.specs.declared.machine.Holder.{Holder}
use Rattle.mb_parse_stmt.specs.declared.machine.Holder.TheVariants as ho
use Rattle.mb_parse_stmt.specs.declared.machine.Declarer.{Declarer}
use Rattle.mb_parse_stmt.specs.declared.machine.Declarer.TheVariants as de
use Rattle.mb_parse_stmt.specs.declared.machine.Frame.{Frame}
use Rattle.mb_parse_stmt.specs.declared.machine.Frame.TheVariants as f
use Rattle.mb_parse_stmt.specs.declared.machine.Mode.{Mode}
use Rattle.mb_parse_stmt.specs.declared.machine.Mode.TheVariants as mo
use Rattle.mb_parse_stmt.specs.declared.machine.Move.{Move}
use Rattle.mb_parse_stmt.specs.declared.machine.Move.TheVariants.{Leaf, Enter, Swap, Build, Ask, Ended, Wrong}
use Rattle.mb_parse_stmt.specs.declared.machine.View.{View}
use Rattle.mb_parse_stmt.specs.machine.Machine.{open_then, close_then, brace_then, semicolon_then, while_then, line_move, return_move, sub_move, function_move, begin_move, closes, close_list, statement_move, then_move, try_move, catch_move, caught_move, done_move, behind_move, first_move, test_move, last_move, part_move, alone_move, name_move, declaration_move, declared_move, next_declaration, declared_end, param_of, param_move, comma_of, comma_move, catch_name_move, move_of}
use Rattle.mb_parse_stmt.specs.machine.Stops.{taken}

-- how much a mode weighs in the measure of the parser's steps
abbrev pub weight : Mode → ℕ
weight mo.Statement = 2
weight mo.Sub = 2
weight mo.Done = 3
weight _ = 0

-- A step makes the measure smaller, and none that stops comes before a token is taken that has to be.
abbrev pub Lighter : Mode → Move → Type 0
Lighter m (Leaf label m' n) = (weight m' < 4 * n + weight m) × (taken m ≤ n + taken m')
Lighter m (Enter f m' n) = (weight m' + 1 < 4 * n + weight m) × (taken m ≤ n + taken m')
Lighter m (Swap f m' n) = (weight m' < 4 * n + weight m) × (taken m ≤ n + taken m')
Lighter m (Build label c m' n) = (weight m' < 4 * n + weight m + 1) × (taken m ≤ n + taken m')
Lighter m (Ask level) = taken m ≡ 0
Lighter m Ended = taken m ≡ 0
Lighter m Wrong = Unit {0}

pub light_open : (m : Mode) (x : Terminal) (move : Move) → Lighter m move → Lighter m (open_then x move)
light_open m p.Open move h = h
light_open m _ move h = tt

pub light_close : (m : Mode) (x : Terminal) (move : Move) → Lighter m move → Lighter m (close_then x move)
light_close m p.Close move h = h
light_close m _ move h = tt

pub light_brace : (m : Mode) (x : Terminal) (move : Move) → Lighter m move → Lighter m (brace_then x move)
light_brace m p.OpenBrace move h = h
light_brace m _ move h = tt

pub light_semicolon : (m : Mode) (x : Terminal) (move : Move) → Lighter m move → Lighter m (semicolon_then x move)
light_semicolon m p.Semicolon move h = h
light_semicolon m _ move h = tt

pub light_while : (m : Mode) (x : Terminal) (move : Move) → Lighter m move → Lighter m (while_then x move)
light_while m p.While move h = h
light_while m _ move h = tt

-- a mode in which a statement begins
abbrev pub Begins : Mode → Type 0
Begins mo.Statement = Unit {0}
Begins mo.Sub = Unit {0}
Begins _ = ⊥

pub light_line : (m : Mode) (after_line : Bool) (frame : Frame) → Begins m → Lighter m (line_move after_line frame)
light_line mo.Statement true frame b = tt
light_line mo.Statement false frame b = (omega arith, omega arith)
light_line mo.Sub true frame b = tt
light_line mo.Sub false frame b = (omega arith, omega arith)
light_line _ after_line frame b = absurd b

pub light_return : (m : Mode) (x : Terminal) (after_line : Bool) → Begins m → Lighter m (return_move x after_line)
light_return mo.Statement p.Semicolon after_line b = (omega arith, omega arith)
light_return mo.Sub p.Semicolon after_line b = (omega arith, omega arith)
light_return mo.Statement _ after_line b = light_line mo.Statement after_line f.Return tt
light_return mo.Sub _ after_line b = light_line mo.Sub after_line f.Return tt
light_return _ _ after_line b = absurd b

pub light_sub_statement : (x next : Terminal) (after_line : Bool) → Lighter mo.Statement (sub_move x next after_line)
light_sub_statement p.OpenBrace next after_line = (omega arith, omega arith)
light_sub_statement p.Semicolon next after_line = (omega arith, omega arith)
light_sub_statement p.If next after_line = light_open mo.Statement next _ (omega arith, omega arith)
light_sub_statement p.While next after_line = light_open mo.Statement next _ (omega arith, omega arith)
light_sub_statement p.Do next after_line = (omega arith, omega arith)
light_sub_statement p.For next after_line = light_open mo.Statement next _ (omega arith, omega arith)
light_sub_statement p.Return next after_line = light_return mo.Statement next after_line tt
light_sub_statement p.Throw next after_line = light_line mo.Statement after_line f.Throw tt
light_sub_statement p.Break next after_line = light_semicolon mo.Statement next _ (omega arith, omega arith)
light_sub_statement p.Continue next after_line = light_semicolon mo.Statement next _ (omega arith, omega arith)
light_sub_statement p.Try next after_line = (omega arith, omega arith)
light_sub_statement p.Function next after_line = tt
light_sub_statement _ next after_line = (omega arith, omega arith)

-- the two modes weigh the same
pub light_sub : (move : Move) → Lighter mo.Statement move → Lighter mo.Sub move
light_sub (Leaf label m n) h = h
light_sub (Enter f m n) h = h
light_sub (Swap f m n) h = h
light_sub (Build label c m n) h = h
light_sub (Ask level) h = h
light_sub Ended h = h
light_sub Wrong h = h

pub light_function : (x third : Terminal) → Lighter mo.Statement (function_move x third)
light_function (p.Name n) third = light_open mo.Statement third _ (omega arith, omega arith)
light_function _ third = tt

pub light_begin : (x next third : Terminal) (after_line : Bool) → Lighter mo.Statement (begin_move x next third after_line)
light_begin p.Let next third after_line = (omega arith, omega arith)
light_begin p.Const next third after_line = (omega arith, omega arith)
light_begin p.Function next third after_line = light_function next third
light_begin x next third after_line = light_sub_statement x next after_line

pub light_list : (holder : Holder) (n : ℕ) → Lighter mo.Statement (close_list holder n)
light_list ho.Top n = refl
light_list ho.Block n = (omega arith, omega arith)
light_list (ho.Body x params) n = (omega arith, omega arith)

pub light_statement : (o : Option Frame) (x next third : Terminal) (after_line stops : Bool) → Lighter mo.Statement (statement_move o x next third after_line stops)
light_statement (Some (f.Statements holder n)) x next third after_line stops = each (closes holder x stops)
  where
    each : (b : Bool) → Lighter mo.Statement (if b then close_list holder n else begin_move x next third after_line)
    each true = light_list holder n
    each false = light_begin x next third after_line
light_statement _ x next third after_line stops = tt

pub light_then : (x : Terminal) → Lighter mo.Done (then_move x)
light_then p.Else = (omega arith, omega arith)
light_then _ = (omega arith, omega arith)

pub light_catch : (x : Terminal) → Lighter mo.Done (catch_move x)
light_catch p.Open = (omega arith, omega arith)
light_catch _ = (omega arith, omega arith)

pub light_try : (x next : Terminal) → Lighter mo.Done (try_move x next)
light_try p.Catch next = light_catch next
light_try p.Finally next = (omega arith, omega arith)
light_try _ next = tt

pub light_caught : (has : Bool) (x : Terminal) → Lighter mo.Done (caught_move has x)
light_caught has p.Finally = (omega arith, omega arith)
light_caught has _ = (omega arith, omega arith)

pub light_done : (o : Option Frame) (x next : Terminal) → Lighter mo.Done (done_move o x next)
light_done (Some (f.Statements holder n)) x next = (omega arith, omega arith)
light_done (Some f.IfThen) x next = light_then x
light_done (Some f.IfElse) x next = (omega arith, omega arith)
light_done (Some f.WhileBody) x next = (omega arith, omega arith)
light_done (Some f.DoBody) x next = light_while mo.Done x _ (light_open mo.Done next _ (omega arith, omega arith))
light_done (Some (f.ForBody a b c)) x next = (omega arith, omega arith)
light_done (Some f.TryBlock) x next = light_try x next
light_done (Some (f.CatchBlock has)) x next = light_caught has x
light_done (Some (f.FinallyBlock caught has)) x next = (omega arith, omega arith)
light_done _ x next = tt

pub light_behind : (o : Option Frame) (x next : Terminal) → Lighter mo.Behind (behind_move o x next)
light_behind (Some f.IfTest) x next = light_close mo.Behind x _ (omega arith, omega arith)
light_behind (Some f.WhileTest) x next = light_close mo.Behind x _ (omega arith, omega arith)
light_behind (Some f.DoTest) x next = light_close mo.Behind x _ (light_semicolon mo.Behind next _ (omega arith, omega arith))
light_behind (Some f.ForFirst) x next = light_semicolon mo.Behind x _ (omega arith, omega arith)
light_behind (Some (f.ForTest a)) x next = light_semicolon mo.Behind x _ (omega arith, omega arith)
light_behind (Some (f.ForLast a b)) x next = light_close mo.Behind x _ (omega arith, omega arith)
light_behind (Some f.Return) x next = light_semicolon mo.Behind x _ (omega arith, omega arith)
light_behind (Some f.Throw) x next = light_semicolon mo.Behind x _ (omega arith, omega arith)
light_behind (Some f.Expression) x next = light_semicolon mo.Behind x _ (omega arith, omega arith)
light_behind (Some (f.Value n)) x next = (omega arith, omega arith)
light_behind _ x next = tt

pub light_first : (x : Terminal) → Lighter mo.Part (first_move x)
light_first p.Let = (omega arith, omega arith)
light_first p.Semicolon = (omega arith, omega arith)
light_first _ = refl

pub light_test : (a : Bool) (x : Terminal) → Lighter mo.Part (test_move a x)
light_test a p.Semicolon = (omega arith, omega arith)
light_test a _ = refl

pub light_last : (a b : Bool) (x : Terminal) → Lighter mo.Part (last_move a b x)
light_last a b p.Close = (omega arith, omega arith)
light_last a b _ = refl

pub light_part : (o : Option Frame) (x : Terminal) → Lighter mo.Part (part_move o x)
light_part (Some f.ForFirst) x = light_first x
light_part (Some (f.ForTest a)) x = light_test a x
light_part (Some (f.ForLast a b)) x = light_last a b x
light_part _ x = tt

pub light_alone : (o : Option Frame) (n : StrId) → Lighter mo.Declaration (alone_move o n)
light_alone None n = (omega arith, omega arith)
light_alone (Some (f.Declarations de.Const m)) n = tt
light_alone (Some (f.Declarations de.Let m)) n = (omega arith, omega arith)
light_alone (Some (f.Declarations de.ForLet m)) n = (omega arith, omega arith)
light_alone (Some _) n = (omega arith, omega arith)

pub light_name : (o : Option Frame) (n : StrId) (x : Terminal) → Lighter mo.Declaration (name_move o n x)
light_name o n p.Becomes = (omega arith, omega arith)
light_name o n _ = light_alone o n

pub light_declaration : (o : Option Frame) (x next : Terminal) → Lighter mo.Declaration (declaration_move o x next)
light_declaration o (p.Name n) next = light_name o n next
light_declaration o _ next = tt

pub light_end : (declarer : Declarer) (n : ℕ) → Lighter mo.Declared (declared_end declarer n)
light_end de.Let n = (omega arith, omega arith)
light_end de.Const n = (omega arith, omega arith)
light_end de.ForLet n = (omega arith, omega arith)

pub light_next : (declarer : Declarer) (n : ℕ) (x : Terminal) → Lighter mo.Declared (next_declaration declarer n x)
light_next declarer n p.Comma = (omega arith, omega arith)
light_next declarer n p.Semicolon = light_end declarer n
light_next declarer n _ = tt

pub light_declared : (o : Option Frame) (x : Terminal) → Lighter mo.Declared (declared_move o x)
light_declared (Some (f.Declarations declarer n)) x = light_next declarer n x
light_declared _ x = tt

pub light_param_of : (name : StrId) (n : ℕ) (x next : Terminal) → Lighter mo.Param (param_of name n x next)
light_param_of name n (p.Name y) next = (omega arith, omega arith)
light_param_of name n p.Close next = light_brace mo.Param next _ (omega arith, omega arith)
light_param_of name n _ next = tt

pub light_param : (o : Option Frame) (x next : Terminal) → Lighter mo.Param (param_move o x next)
light_param (Some (f.Params name n)) x next = light_param_of name n x next
light_param _ x next = tt

pub light_comma_of : (name : StrId) (n : ℕ) (x next : Terminal) → Lighter mo.Comma (comma_of name n x next)
light_comma_of name n p.Comma next = (omega arith, omega arith)
light_comma_of name n p.Close next = light_brace mo.Comma next _ (omega arith, omega arith)
light_comma_of name n _ next = tt

pub light_comma : (o : Option Frame) (x next : Terminal) → Lighter mo.Comma (comma_move o x next)
light_comma (Some (f.Params name n)) x next = light_comma_of name n x next
light_comma _ x next = tt

pub light_catch_name : (x next : Terminal) → Lighter mo.CatchName (catch_name_move x next)
light_catch_name (p.Name n) next = light_close mo.CatchName next _ (omega arith, omega arith)
light_catch_name _ next = tt

pub lighter : (o : Option Frame) (mode : Mode) (v : View) → Lighter mode (move_of o mode v)
lighter o mo.Statement v = light_statement o v.here v.next v.third v.after_line v.stops
lighter o mo.Sub v = light_sub (sub_move v.here v.next v.after_line) (light_sub_statement v.here v.next v.after_line)
lighter o mo.Done v = light_done o v.here v.next
lighter o (mo.Expression level) v = refl
lighter o mo.Behind v = light_behind o v.here v.next
lighter o mo.Part v = light_part o v.here
lighter o mo.Declaration v = light_declaration o v.here v.next
lighter o mo.Declared v = light_declared o v.here
lighter o mo.Param v = light_param o v.here v.next
lighter o mo.Comma v = light_comma o v.here v.next
lighter o mo.Brace v = light_brace mo.Brace v.here _ (omega arith, omega arith)
lighter o mo.CatchName v = light_catch_name v.here v.next
