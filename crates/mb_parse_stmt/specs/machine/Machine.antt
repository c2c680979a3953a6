-- The steps of a parser of statements, on trees in place of flat nodes.
use Rattle.std.specs.Prelude.{ℕ, zero, suc, ◌+◌, Bool, true, false, if◌then◌else◌, List, [], ◌∷◌, Option, Some}
use Rattle.mb_base.specs.declared.value.StrId.{StrId}
use Rattle.mb_token.specs.declared.token.Spanned.{Spanned}
use Rattle.mb_tree.specs.declared.kind.Kind.TheVariants as k
use Rattle.mb_tree.specs.Roses.{Rose, node, none, bare, named}
use Rattle.mb_tree.specs.machine.Stack.{top}
use Rattle.mb_tree.specs.machine.Operands.{Gathered, Short, Got, gather}
use Rattle.mb_grammar.specs.declared.level.Level.{Level}
use Rattle.mb_grammar.specs.declared.level.Level.TheVariants as lv
use Rattle.mb_grammar.specs.Tokens.{after_line_at}
use Rattle.mb_grammar.specs.Script.{Whole}
use Rattle.mb_parse_stmt.specs.declared.terminal.Terminal.{Terminal}
use Rattle.mb_parse_stmt.specs.declared.terminal.Terminal.TheVariants as p
use Rattle.mb_parse_stmt.specs.declared.machine.Stop.{Stop}
use Rattle.mb_parse_stmt.specs.declared.machine.Stop.TheVariants as st
use Rattle.mb_tree.specs.declared.tree.Label.{Label}
use Rattle.mb_parse_stmt.specs.declared.machine.Holder.{Holder}
use Rattle.mb_parse_stmt.specs.declared.machine.Holder.TheVariants as ho
use Rattle.mb_parse_stmt.specs.declared.machine.Declarer.{Declarer}
use Rattle.mb_parse_stmt.specs.declared.machine.Declarer.TheVariants as de
use Rattle.mb_parse_stmt.specs.declared.machine.Frame.{Frame}
use Rattle.mb_parse_stmt.specs.declared.machine.Frame.TheVariants as f
use Rattle.mb_parse_stmt.specs.declared.machine.Mode.{Mode}
use Rattle.mb_parse_stmt.specs.declared.machine.Mode.TheVariants as mo
use Rattle.mb_parse_stmt.specs.declared.machine.Move.{Move}
use Rattle.mb_parse_stmt.specs.declared.machine.Move.TheVariants.{Leaf, Enter, Swap, Build, Ask, Ended, Wrong}
use Rattle.mb_parse_stmt.specs.declared.machine.View.{View}
use Rattle.mb_parse_stmt.specs.machine.Terminals.{terminal_at}

abbrev pub one : Bool → ℕ
one true = 1
one false = 0

-- an expression is wanted
abbrev pub value : Mode
value = mo.Expression lv.Expr

-- how many operands the frame on top counts
abbrev pub held : Holder → ℕ
held (ho.Body name params) = params
held _ = 0

abbrev pub count_of : Option Frame → ℕ
count_of (Some (f.Statements holder n)) = held holder + n
count_of (Some (f.Declarations declarer n)) = n
count_of (Some (f.Params name n)) = n
count_of _ = 0

abbrev pub open_then : Terminal → Move → Move
open_then p.Open move = move
open_then _ move = Wrong

abbrev pub close_then : Terminal → Move → Move
close_then p.Close move = move
close_then _ move = Wrong

abbrev pub brace_then : Terminal → Move → Move
brace_then p.OpenBrace move = move
brace_then _ move = Wrong

abbrev pub semicolon_then : Terminal → Move → Move
semicolon_then p.Semicolon move = move
semicolon_then _ move = Wrong

abbrev pub while_then : Terminal → Move → Move
while_then p.While move = move
while_then _ move = Wrong

abbrev pub line_move : Bool → Frame → Move
line_move after_line frame = if after_line then Wrong else Enter frame value 1

abbrev pub return_move : Terminal → Bool → Move
return_move p.Semicolon after_line = Leaf (bare k.Return) mo.Done 2
return_move _ after_line = line_move after_line f.Return

abbrev pub sub_move : Terminal → Terminal → Bool → Move
sub_move p.OpenBrace next after_line = Enter (f.Statements ho.Block 0) mo.Statement 1
sub_move p.Semicolon next after_line = Leaf (bare k.Empty) mo.Done 1
sub_move p.If next after_line = open_then next (Enter f.IfTest value 2)
sub_move p.While next after_line = open_then next (Enter f.WhileTest value 2)
sub_move p.Do next after_line = Enter f.DoBody mo.Sub 1
sub_move p.For next after_line = open_then next (Enter f.ForFirst mo.Part 2)
sub_move p.Return next after_line = return_move next after_line
sub_move p.Throw next after_line = line_move after_line f.Throw
sub_move p.Break next after_line = semicolon_then next (Leaf (bare k.Break) mo.Done 2)
sub_move p.Continue next after_line = semicolon_then next (Leaf (bare k.Continue) mo.Done 2)
sub_move p.Try next after_line = Enter f.TryBlock mo.Brace 1
sub_move p.Function next after_line = Wrong
sub_move _ next after_line = Enter f.Expression value 0

abbrev pub function_move : Terminal → Terminal → Move
function_move (p.Name n) third = open_then third (Enter (f.Params n 0) mo.Param 3)
function_move _ third = Wrong

abbrev pub begin_move : Terminal → Terminal → Terminal → Bool → Move
begin_move p.Let next third after_line = Enter (f.Declarations de.Let 0) mo.Declaration 1
begin_move p.Const next third after_line = Enter (f.Declarations de.Const 0) mo.Declaration 1
begin_move p.Function next third after_line = function_move next third
begin_move here next third after_line = sub_move here next after_line

abbrev pub is_close : Terminal → Bool
is_close p.CloseBrace = true
is_close _ = false

abbrev pub closes : Holder → Terminal → Bool → Bool
closes ho.Top here stops = stops
closes _ here stops = is_close here

abbrev pub close_list : Holder → ℕ → Move
close_list ho.Top n = Ended
close_list ho.Block n = Build (bare k.Block) n mo.Done 1
close_list (ho.Body name params) n = Build (named (k.FunctionDecl params) name) (params + n) mo.Done 1

abbrev pub statement_move : Option Frame → Terminal → Terminal → Terminal → Bool → Bool → Move
statement_move (Some (f.Statements holder n)) here next third after_line stops = if closes holder here stops then close_list holder n else begin_move here next third after_line
statement_move _ here next third after_line stops = Wrong

abbrev pub then_move : Terminal → Move
then_move p.Else = Swap f.IfElse mo.Sub 1
then_move _ = Build (bare k.If) 2 mo.Done 0

abbrev pub catch_move : Terminal → Move
catch_move p.Open = Swap (f.CatchBlock true) mo.CatchName 2
catch_move _ = Swap (f.CatchBlock false) mo.Brace 1

abbrev pub try_move : Terminal → Terminal → Move
try_move p.Catch next = catch_move next
try_move p.Finally next = Swap (f.FinallyBlock false false) mo.Brace 1
try_move _ next = Wrong

abbrev pub caught_move : Bool → Terminal → Move
caught_move named p.Finally = Swap (f.FinallyBlock true named) mo.Brace 1
caught_move named _ = Build (bare (k.Try true named false)) (2 + one named) mo.Done 0

abbrev pub done_move : Option Frame → Terminal → Terminal → Move
done_move (Some (f.Statements holder n)) here next = Swap (f.Statements holder (n + 1)) mo.Statement 0
done_move (Some f.IfThen) here next = then_move here
done_move (Some f.IfElse) here next = Build (bare k.If) 3 mo.Done 0
done_move (Some f.WhileBody) here next = Build (bare k.While) 2 mo.Done 0
done_move (Some f.DoBody) here next = while_then here (open_then next (Swap f.DoTest value 2))
done_move (Some (f.ForBody a b c)) here next = Build (bare (k.For a b c)) (one a + one b + one c + 1) mo.Done 0
done_move (Some f.TryBlock) here next = try_move here next
done_move (Some (f.CatchBlock named)) here next = caught_move named here
done_move (Some (f.FinallyBlock caught named)) here next = Build (bare (k.Try caught named true)) (2 + one caught + one named) mo.Done 0
done_move _ here next = Wrong

abbrev pub behind_move : Option Frame → Terminal → Terminal → Move
behind_move (Some f.IfTest) here next = close_then here (Swap f.IfThen mo.Sub 1)
behind_move (Some f.WhileTest) here next = close_then here (Swap f.WhileBody mo.Sub 1)
behind_move (Some f.DoTest) here next = close_then here (semicolon_then next (Build (bare k.DoWhile) 2 mo.Done 2))
behind_move (Some f.ForFirst) here next = semicolon_then here (Swap (f.ForTest true) mo.Part 1)
behind_move (Some (f.ForTest a)) here next = semicolon_then here (Swap (f.ForLast a true) mo.Part 1)
behind_move (Some (f.ForLast a b)) here next = close_then here (Swap (f.ForBody a b true) mo.Sub 1)
behind_move (Some f.Return) here next = semicolon_then here (Build (bare k.Return) 1 mo.Done 1)
behind_move (Some f.Throw) here next = semicolon_then here (Build (bare k.Throw) 1 mo.Done 1)
behind_move (Some f.Expression) here next = semicolon_then here (Build (bare k.ExprStmt) 1 mo.Done 1)
behind_move (Some (f.Value n)) here next = Build (named k.Decl n) 1 mo.Declared 0
behind_move _ here next = Wrong

abbrev pub first_move : Terminal → Move
first_move p.Let = Enter (f.Declarations de.ForLet 0) mo.Declaration 1
first_move p.Semicolon = Swap (f.ForTest false) mo.Part 1
first_move _ = Ask lv.Expr

abbrev pub test_move : Bool → Terminal → Move
test_move a p.Semicolon = Swap (f.ForLast a false) mo.Part 1
test_move a _ = Ask lv.Expr

abbrev pub last_move : Bool → Bool → Terminal → Move
last_move a b p.Close = Swap (f.ForBody a b false) mo.Sub 1
last_move a b _ = Ask lv.Expr

abbrev pub part_move : Option Frame → Terminal → Move
part_move (Some f.ForFirst) here = first_move here
part_move (Some (f.ForTest a)) here = test_move a here
part_move (Some (f.ForLast a b)) here = last_move a b here
part_move _ here = Wrong

abbrev pub alone_move : Option Frame → StrId → Move
alone_move (Some (f.Declarations de.Const n)) name = Wrong
alone_move _ name = Leaf (named k.Decl name) mo.Declared 1

abbrev pub name_move : Option Frame → StrId → Terminal → Move
name_move top name p.Becomes = Enter (f.Value name) (mo.Expression lv.Assign) 2
name_move top name _ = alone_move top name

abbrev pub declaration_move : Option Frame → Terminal → Terminal → Move
declaration_move top (p.Name n) next = name_move top n next
declaration_move top _ next = Wrong

abbrev pub declared_end : Declarer → ℕ → Move
declared_end de.Let n = Build (bare k.Let) (n + 1) mo.Done 1
declared_end de.Const n = Build (bare k.Const) (n + 1) mo.Done 1
declared_end de.ForLet n = Build (bare k.Let) (n + 1) mo.Behind 0

abbrev pub next_declaration : Declarer → ℕ → Terminal → Move
next_declaration declarer n p.Comma = Swap (f.Declarations declarer (n + 1)) mo.Declaration 1
next_declaration declarer n p.Semicolon = declared_end declarer n
next_declaration declarer n _ = Wrong

abbrev pub declared_move : Option Frame → Terminal → Move
declared_move (Some (f.Declarations declarer n)) here = next_declaration declarer n here
declared_move _ here = Wrong

abbrev pub body_move : StrId → ℕ → Terminal → Move
body_move name params next = brace_then next (Swap (f.Statements (ho.Body name params) 0) mo.Statement 2)

abbrev pub param_of : StrId → ℕ → Terminal → Terminal → Move
param_of name n (p.Name x) next = Leaf (named k.Param x) mo.Comma 1
param_of name n p.Close next = body_move name n next
param_of name n _ next = Wrong

abbrev pub param_move : Option Frame → Terminal → Terminal → Move
param_move (Some (f.Params name n)) here next = param_of name n here next
param_move _ here next = Wrong

abbrev pub comma_of : StrId → ℕ → Terminal → Terminal → Move
comma_of name n p.Comma next = Swap (f.Params name (n + 1)) mo.Param 1
comma_of name n p.Close next = body_move name (n + 1) next
comma_of name n _ next = Wrong

abbrev pub comma_move : Option Frame → Terminal → Terminal → Move
comma_move (Some (f.Params name n)) here next = comma_of name n here next
comma_move _ here next = Wrong

abbrev pub catch_name_move : Terminal → Terminal → Move
catch_name_move (p.Name x) next = close_then next (Leaf (named k.Param x) mo.Brace 2)
catch_name_move _ next = Wrong

abbrev pub move_of : Option Frame → Mode → View → Move
move_of top mo.Statement v = statement_move top v.here v.next v.third v.after_line v.stops
move_of top mo.Sub v = sub_move v.here v.next v.after_line
move_of top mo.Done v = done_move top v.here v.next
move_of top (mo.Expression level) v = Ask level
move_of top mo.Behind v = behind_move top v.here v.next
move_of top mo.Part v = part_move top v.here
move_of top mo.Declaration v = declaration_move top v.here v.next
move_of top mo.Declared v = declared_move top v.here
move_of top mo.Param v = param_move top v.here v.next
move_of top mo.Comma v = comma_move top v.here v.next
move_of top mo.Brace v = brace_then v.here (Enter (f.Statements ho.Block 0) mo.Statement 1)
move_of top mo.CatchName v = catch_name_move v.here v.next

-- statements that aren't within others end at this token
abbrev pub stops_of : Stop → Terminal → Bool
stops_of st.End p.End = true
stops_of st.Brace p.CloseBrace = true
stops_of stop _ = false

abbrev pub view_at : Stop → List Spanned → ℕ → View
view_at stop ts i = record {
  here = terminal_at ts i;
  next = terminal_at ts (i + 1);
  third = terminal_at ts (i + 1 + 1);
  after_line = after_line_at ts (i + 1);
  stops = stops_of stop (terminal_at ts i);
}

-- Where a parser is: its frames and operands, the last one first, what it wants, and its place.
pub data State : Type 0 where
  Going : (fs : List Frame) (rs : List Rose) (mode : Mode) (at : ℕ) → State
  -- an expression is to be read
  Wants : (level : Level) (fs : List Frame) (rs : List Rose) (at : ℕ) → State
  Ends : (rs : List Rose) (at : ℕ) → State
  Fails : State
  -- never
  Stuck : State

-- so many tokens on
abbrev pub forward : ℕ → ℕ → ℕ
forward zero at = at
forward (suc n) at = forward n (at + 1)

abbrev pub built : Label → Mode → List Frame → ℕ → Gathered → State
built label mode fs at Short = Stuck
built label mode fs at (Got parts rs) = Going fs (node label parts ∷ rs) mode at

abbrev pub apply : Move → List Frame → List Rose → ℕ → State
apply (Leaf label mode n) fs rs at = Going fs (node label none ∷ rs) mode (forward n at)
apply (Enter f mode n) fs rs at = Going (f ∷ fs) rs mode (forward n at)
apply (Swap f mode n) [] rs at = Stuck
apply (Swap f mode n) (_ ∷ fs) rs at = Going (f ∷ fs) rs mode (forward n at)
apply (Build label count mode n) [] rs at = Stuck
apply (Build label count mode n) (f ∷ fs) rs at = built label mode fs (forward n at) (gather count rs none)
apply (Ask level) fs rs at = Wants level fs rs at
apply Ended fs rs at = Ends rs at
apply Wrong fs rs at = Fails

abbrev pub move_at : Stop → List Spanned → List Frame → Mode → ℕ → Move
move_at stop ts fs mode at = move_of (top fs) mode (view_at stop ts at)

-- Some steps lead from one state to the other; where an expression is wanted, they go on behind one that stands there.
pub data Leads (stop : Stop) (ts : List Spanned) : State → State → Type 0 where
  here : {a : State} → Leads stop ts a a
  after : {fs : List Frame} {rs : List Rose} {mode : Mode} {at : ℕ} {b : State} → Leads stop ts (apply (move_at stop ts fs mode at) fs rs at) b → Leads stop ts (Going fs rs mode at) b
  read : {level : Level} {fs : List Frame} {a : Rose} {rs : List Rose} {es : List ℕ} {at j : ℕ} {b : State} → Whole ts level a es at j → Leads stop ts (Going fs (a ∷ rs) mo.Behind j) b → Leads stop ts (Wants level fs rs at) b
