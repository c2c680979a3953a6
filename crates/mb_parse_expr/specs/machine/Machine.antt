-- The parser's steps, on trees in place of flat nodes.
use Rattle.std.specs.Prelude.{ℕ, ◌+◌, Bool, true, false, nat_lt, nat_eq, if◌then◌else◌, List, [], ◌∷◌, Option, Some, None, drop, not}
use Rattle.mb_base.specs.declared.value.StrId.{StrId}
use Rattle.mb_token.specs.declared.token.Token.{Token}
use Rattle.mb_token.specs.declared.token.Token.TheVariants as t
use Rattle.mb_token.specs.declared.token.Spanned.{Spanned}
use Rattle.mb_token.specs.declared.mark.Mark.TheVariants as m
use Rattle.mb_token.specs.declared.word.Soft.{Soft}
use Rattle.mb_token.specs.declared.word.Soft.TheVariants.{Get, Set}
use Rattle.mb_tree.specs.declared.kind.Kind.TheVariants as k
use Rattle.mb_tree.specs.declared.kind.PropKey.TheVariants as pk
use Rattle.mb_tree.specs.declared.kind.Sign.TheVariants as s
use Rattle.mb_tree.specs.Roses.{Rose, Roses, node, none, size, bare, named, numbered}
use Rattle.mb_tree.specs.machine.Stack.{top, below}
use Rattle.mb_tree.specs.machine.Operands.{pushed, Gathered, Short, Got, gather}
use Rattle.mb_grammar.specs.declared.role.Role.{Role}
use Rattle.mb_grammar.specs.declared.role.Role.TheVariants as r
use Rattle.mb_parse_expr.specs.declared.role.Follow.{Follow}
use Rattle.mb_parse_expr.specs.declared.role.Follow.TheVariants as fo
use Rattle.mb_grammar.specs.declared.level.Level.{Level}
use Rattle.mb_grammar.specs.declared.level.Level.TheVariants as lv
use Rattle.mb_tree.specs.declared.tree.Label.{Label}
use Rattle.mb_grammar.specs.declared.function.Property.{Property}
use Rattle.mb_grammar.specs.declared.function.Maker.{Maker}
use Rattle.mb_grammar.specs.declared.function.Maker.TheVariants as mk
use Rattle.mb_parse_expr.specs.declared.machine.Frame.{Frame}
use Rattle.mb_parse_expr.specs.declared.machine.Frame.TheVariants as f
use Rattle.mb_parse_expr.specs.declared.machine.Mode.{Mode}
use Rattle.mb_parse_expr.specs.declared.machine.Mode.TheVariants as mo
use Rattle.mb_parse_expr.specs.declared.machine.Mode.TheVariants.{Operand, Body, After, Block, Word}
use Rattle.mb_parse_expr.specs.declared.machine.Move.{Move}
use Rattle.mb_parse_expr.specs.declared.machine.Move.TheVariants.{Leaf, Enter, Begin, Swap, Build, Suffix, Turn, Pause, Ended, Wrong}
use Rattle.mb_grammar.specs.Tokens.{role_of, token_at, role_at, after_line_at, RoleAt}
use Rattle.mb_grammar.specs.Nonterminals as nt
use Rattle.mb_grammar.specs.Nonterminals.{Nonterminal, level_of}
use Rattle.mb_grammar.specs.Labels.{named_property, whole_property, computed_property, value_label, made_label}
use Rattle.mb_grammar.specs.Grammar.{Statements}

-- what the token behind a property's first word says of that word
abbrev pub follow_of : Role → Follow
follow_of r.Colon = fo.Names
follow_of r.Open = fo.Names
follow_of r.Comma = fo.Ends
follow_of r.CloseBrace = fo.Ends
follow_of _ = fo.Other

abbrev pub extra_of : Property → ℕ
extra_of p = elim p.key [ pk.Computed ↦ 1 | _ ↦ 0 ]

-- how many operands stand before the parameters
abbrev pub made_extra : Maker → ℕ
made_extra (mk.Method p) = extra_of p
made_extra (mk.Getter p) = extra_of p
made_extra (mk.Setter p) = extra_of p
made_extra _ = 0

abbrev pub made_mode : Maker → Mode
made_mode mk.Arrow = After nt.Assign
made_mode (mk.Function n) = After nt.Member
made_mode _ = mo.Item

-- the least level that the frame on top takes
abbrev pub hole : Option Frame → Nonterminal
hole (Some (f.Start lv.Expr)) = nt.Expr
hole (Some f.Group) = nt.Expr
hole (Some (f.Index l)) = nt.Expr
hole (Some (f.Infix sign)) = level_of sign + 1
hole (Some f.Or) = nt.Or
hole (Some f.And) = nt.And
hole (Some (f.Unary sign)) = nt.Unary
hole (Some (f.Before plus)) = nt.Unary
hole (Some f.New) = nt.New
hole _ = nt.Assign

-- how strongly a token draws the operand before it: 2, 5, 7, 9 and 19 lie between the nonterminals that it parts
abbrev pub strength : Role → Bool → ℕ
strength r.Comma after_line = 2
strength r.Becomes after_line = 5
strength (r.Compound sign) after_line = 5
strength r.Question after_line = 5
strength r.Or after_line = 7
strength r.And after_line = 9
strength (r.Infix sign) after_line = level_of sign
strength (r.Step plus) after_line = if after_line then 0 else nt.Left
strength r.Open after_line = nt.Call
strength r.OpenSquare after_line = nt.Call
strength r.Dot after_line = nt.Call
strength r.Arrow after_line = if after_line then 0 else 19
strength _ after_line = 0

-- the least level of an operand that a token may follow
abbrev pub least_before : Role → Nonterminal
least_before r.Comma = nt.Assign
least_before r.Question = nt.Or
least_before r.Or = nt.And
least_before r.And = nt.Equal
least_before (r.Infix sign) = level_of sign
least_before r.Becomes = nt.Left
least_before (r.Compound sign) = nt.Left
least_before (r.Step plus) = nt.Left
least_before r.Open = nt.Call
least_before r.OpenSquare = nt.Call
least_before r.Dot = nt.Call
least_before _ = 0

abbrev pub count_of : Option Frame → ℕ
count_of (Some (f.Args n)) = n
count_of (Some (f.NewArgs n)) = n
count_of (Some (f.Array n)) = n
count_of (Some (f.Seq n)) = n
count_of (Some (f.Params maker n)) = n
count_of (Some (f.Head n)) = n
count_of (Some (f.Made maker n)) = n
count_of (Some (f.Object n)) = n
count_of _ = 0

abbrev pub block_of : Mode → ℕ
block_of (Block n) = n
block_of _ = 0

abbrev pub value_move : Option Frame → Role → Bool → Move
value_move top (r.Name n) ahead = if ahead then Begin (named k.Param n) (f.Head 1) mo.Arrow else Leaf (named k.Name n) (After nt.Member)
value_move top (r.Number z) ahead = Leaf (numbered k.Number z) (After nt.Member)
value_move top (r.Text n) ahead = Leaf (named k.Text n) (After nt.Member)
value_move top r.This ahead = Leaf (bare k.This) (After nt.Member)
value_move top (r.Fixed x) ahead = Leaf (bare (k.Literal x)) (After nt.Member)
value_move top r.Function ahead = Enter (f.Header (mk.Function None)) mo.Title
value_move top r.New ahead = Enter f.New Operand
value_move top (r.Prefix sign) ahead = Enter (f.Unary sign) Operand
value_move top (r.Infix s.Minus) ahead = Enter (f.Unary s.Minus) Operand
value_move top (r.Step plus) ahead = Enter (f.Before plus) Operand
value_move top r.Open ahead = if ahead then Enter (f.Params mk.Arrow 0) mo.Param else Enter f.Group Operand
value_move top r.OpenSquare ahead = Enter (f.Array 0) Operand
value_move top r.OpenBrace ahead = Enter (f.Object 0) mo.Property
value_move (Some (f.Args n)) r.Close ahead = Build (bare k.Call) (n + 1) (After nt.Call) true
value_move (Some (f.NewArgs n)) r.Close ahead = Build (bare k.New) (n + 1) (After nt.Member) true
value_move (Some (f.Array n)) r.CloseSquare ahead = Build (bare k.ArrayLit) n (After nt.Member) true
value_move _ _ ahead = Wrong

abbrev pub taken_move : Option Frame → ℕ → Role → Move
taken_move top found r.Comma = Enter (f.Seq 1) Operand
taken_move top found r.Becomes = Enter f.Becomes Operand
taken_move top found (r.Compound sign) = Enter (f.Compound sign) Operand
taken_move top found r.Question = Enter f.Test Operand
taken_move top found r.Or = Enter f.Or Operand
taken_move top found r.And = Enter f.And Operand
taken_move top found (r.Infix sign) = Enter (f.Infix sign) Operand
taken_move top found (r.Step plus) = Suffix (bare (k.Update plus false)) (After nt.Unary)
taken_move top found r.OpenSquare = Enter (f.Index found) Operand
taken_move top found r.Dot = Turn (Word found)
taken_move (Some f.New) found r.Open = if nat_lt found nt.Member then Wrong else Swap (f.NewArgs 0) Operand
taken_move _ found r.Open = Enter (f.Args 0) Operand
taken_move _ found _ = Wrong

abbrev pub shift_move : Option Frame → ℕ → Role → Move
shift_move top found role = if nat_lt found (least_before role) then Wrong else taken_move top found role

abbrev pub end_move : Level → Role → Move
end_move level r.Semicolon = Ended
end_move lv.Expr r.Close = Ended
end_move lv.Assign r.Comma = Ended
end_move _ _ = Wrong

abbrev pub accessor_move : Soft → Property → Move
accessor_move Get p = Swap (f.Header (mk.Getter p)) mo.Open
accessor_move Set p = Swap (f.Header (mk.Setter p)) mo.Open

abbrev pub computed_move : Option Soft → Move
computed_move None = Swap (f.Key computed_property) mo.Keyed
computed_move (Some soft) = accessor_move soft computed_property

abbrev pub listed_move : Option Frame → Role → Move
listed_move (Some (f.Start level)) role = end_move level role
listed_move (Some f.Test) r.Colon = Swap f.Choice Operand
listed_move (Some f.Group) r.Close = Build (bare k.Group) 1 (After nt.Member) true
listed_move (Some (f.Index l)) r.CloseSquare = Build (bare k.Index) 2 (After l) true
listed_move (Some (f.Computed soft)) r.CloseSquare = computed_move soft
listed_move (Some (f.Args n)) r.Comma = Swap (f.Args (n + 1)) Operand
listed_move (Some (f.Args n)) r.Close = Build (bare k.Call) (n + 2) (After nt.Call) true
listed_move (Some (f.NewArgs n)) r.Comma = Swap (f.NewArgs (n + 1)) Operand
listed_move (Some (f.NewArgs n)) r.Close = Build (bare k.New) (n + 2) (After nt.Member) true
listed_move (Some (f.Array n)) r.Comma = Swap (f.Array (n + 1)) Operand
listed_move (Some (f.Array n)) r.CloseSquare = Build (bare k.ArrayLit) (n + 1) (After nt.Member) true
listed_move _ _ = Wrong

abbrev pub arrow_move : Maker → ℕ → Move
arrow_move mk.Arrow n = Build (bare (k.Arrow n false)) (n + 1) (After nt.Assign) false
arrow_move _ n = Wrong

abbrev pub close_move : Option Frame → ℕ → Role → Move
close_move (Some (f.Infix sign)) found role = Build (bare (k.Binary sign)) 2 (After (level_of sign)) false
close_move (Some f.Or) found role = Build (bare k.Or) 2 (After nt.Or) false
close_move (Some f.And) found role = Build (bare k.And) 2 (After nt.And) false
close_move (Some f.Becomes) found role = Build (bare k.Assign) 2 (After nt.Assign) false
close_move (Some (f.Compound sign)) found role = Build (bare (k.Compound sign)) 2 (After nt.Assign) false
close_move (Some f.Choice) found role = Build (bare k.Cond) 3 (After nt.Cond) false
close_move (Some (f.Unary sign)) found role = Build (bare (k.Unary sign)) 1 (After nt.Unary) false
close_move (Some (f.Before plus)) found role = Build (bare (k.Update plus true)) 1 (After nt.Unary) false
close_move (Some f.New) found role = if nat_eq found nt.Call then Wrong else Build (bare k.New) 1 (After nt.New) false
close_move (Some (f.Made maker n)) found role = arrow_move maker n
close_move (Some (f.Value p)) found role = Build (value_label p) (1 + extra_of p) mo.Item false
close_move (Some (f.Seq n)) found r.Comma = Swap (f.Seq (n + 1)) Operand
close_move (Some (f.Seq n)) found _ = Build (bare k.Seq) (n + 1) (After nt.Expr) false
close_move top found role = listed_move top role

abbrev pub after_move : Option Frame → ℕ → Role → Bool → Move
after_move top found role after_line =
    if nat_lt found (hole top) then Wrong
    else (if nat_lt (strength role after_line) (hole top) then close_move top found role else shift_move top found role)

abbrev pub params_move : Maker → ℕ → Move
params_move mk.Arrow n = Swap (f.Head n) mo.Arrow
params_move maker n = Swap (f.Made maker n) mo.Brace

abbrev pub param_move : Option Frame → Role → Move
param_move (Some (f.Params (mk.Getter p) n)) (r.Name x) = Wrong
param_move (Some (f.Params maker n)) (r.Name x) = Leaf (named k.Param x) mo.Comma
param_move (Some (f.Params (mk.Setter p) n)) r.Close = Wrong
param_move (Some (f.Params maker n)) r.Close = params_move maker n
param_move _ _ = Wrong

abbrev pub comma_move : Option Frame → Role → Move
comma_move (Some (f.Params (mk.Setter p) n)) r.Comma = Wrong
comma_move (Some (f.Params maker n)) r.Comma = Swap (f.Params maker (n + 1)) mo.Param
comma_move (Some (f.Params maker n)) r.Close = params_move maker (n + 1)
comma_move _ _ = Wrong

abbrev pub head_move : Option Frame → Role → Bool → Move
head_move (Some (f.Head n)) r.Arrow after_line = if after_line then Wrong else Swap (f.Made mk.Arrow n) Body
head_move _ _ after_line = Wrong

abbrev pub block_move : Option Frame → ℕ → Move
block_move (Some (f.Made maker n)) count = Build (made_label maker n) (n + count + made_extra maker) (made_mode maker) false
block_move _ count = Wrong

abbrev pub title_move : Role → Move
title_move (r.Name n) = Swap (f.Header (mk.Function (Some n))) mo.Open
title_move r.Open = Swap (f.Params (mk.Function None) 0) mo.Param
title_move _ = Wrong

abbrev pub open_move : Option Frame → Role → Move
open_move (Some (f.Header maker)) r.Open = Swap (f.Params maker 0) mo.Param
open_move _ _ = Wrong

abbrev pub brace_move : Role → Move
brace_move r.OpenBrace = Pause
brace_move _ = Wrong

abbrev pub name_move : StrId → Follow → Option Soft → Move
name_move n fo.Names soft = Enter (f.Key (named_property n)) mo.Keyed
name_move n fo.Ends soft = Begin (named k.Name n) (f.Value (named_property n)) (After nt.Member)
name_move n fo.Other (Some soft) = Enter (f.Accessor soft) mo.Key
name_move n fo.Other None = Enter (f.Key (named_property n)) mo.Keyed

abbrev pub property_move : Option Frame → Option Token → Follow → Move
property_move top (Some (t.Name n)) follow = name_move n follow None
property_move top (Some (t.Soft soft n)) follow = name_move n follow (Some soft)
property_move top (Some (t.Reserved w n)) follow = Enter (f.Key (named_property n)) mo.Keyed
property_move top (Some (t.Text n)) follow = Enter (f.Key (named_property n)) mo.Keyed
property_move top (Some (t.Whole z)) follow = Enter (f.Key (whole_property z)) mo.Keyed
property_move top (Some (t.Mark m.OpenBracket)) follow = Enter (f.Computed None) Operand
property_move (Some (f.Object n)) (Some (t.Mark m.CloseBrace)) follow = Build (bare k.ObjectLit) n (After nt.Member) true
property_move _ _ follow = Wrong

abbrev pub key_move : Option Frame → Option Token → Move
key_move (Some (f.Accessor soft)) (Some (t.Name n)) = accessor_move soft (named_property n)
key_move (Some (f.Accessor soft)) (Some (t.Soft o n)) = accessor_move soft (named_property n)
key_move (Some (f.Accessor soft)) (Some (t.Reserved w n)) = accessor_move soft (named_property n)
key_move (Some (f.Accessor soft)) (Some (t.Text n)) = accessor_move soft (named_property n)
key_move (Some (f.Accessor soft)) (Some (t.Whole z)) = accessor_move soft (whole_property z)
key_move (Some (f.Accessor soft)) (Some (t.Mark m.OpenBracket)) = Swap (f.Computed (Some soft)) Operand
key_move _ _ = Wrong

abbrev pub keyed_move : Option Frame → Role → Move
keyed_move (Some (f.Key p)) r.Colon = Swap (f.Value p) Operand
keyed_move (Some (f.Key p)) r.Open = Swap (f.Params (mk.Method p) 0) mo.Param
keyed_move _ _ = Wrong

abbrev pub item_move : Option Frame → Role → Move
item_move (Some (f.Object n)) r.Comma = Swap (f.Object (n + 1)) mo.Property
item_move (Some (f.Object n)) r.CloseBrace = Build (bare k.ObjectLit) (n + 1) (After nt.Member) true
item_move _ _ = Wrong

abbrev pub word_move : ℕ → Option Token → Move
word_move found (Some (t.Name n)) = Suffix (named k.Member n) (After found)
word_move found (Some (t.Soft o n)) = Suffix (named k.Member n) (After found)
word_move found (Some (t.Reserved w n)) = Suffix (named k.Member n) (After found)
word_move found _ = Wrong

abbrev pub body_move : Option Frame → Role → Bool → Move
body_move top r.OpenBrace ahead = Pause
body_move top role ahead = value_move top role ahead

abbrev pub move_of : Option Frame → Mode → Option Token → Role → Bool → Bool → Follow → Move
move_of top Operand token role after_line ahead follow = value_move top role ahead
move_of top Body token role after_line ahead follow = body_move top role ahead
move_of top (After found) token role after_line ahead follow = after_move top found role after_line
move_of top (Block count) token role after_line ahead follow = block_move top count
move_of top (Word found) token role after_line ahead follow = word_move found token
move_of top mo.Title token role after_line ahead follow = title_move role
move_of top mo.Open token role after_line ahead follow = open_move top role
move_of top mo.Param token role after_line ahead follow = param_move top role
move_of top mo.Comma token role after_line ahead follow = comma_move top role
move_of top mo.Arrow token role after_line ahead follow = head_move top role after_line
move_of top mo.Brace token role after_line ahead follow = brace_move role
move_of top mo.Property token role after_line ahead follow = property_move top token follow
move_of top mo.Key token role after_line ahead follow = key_move top token
move_of top mo.Keyed token role after_line ahead follow = keyed_move top role
move_of top mo.Item token role after_line ahead follow = item_move top role

-- => stands here, on the line of what stands before
abbrev pub arrow_role : Role → Bool → Bool
arrow_role r.Arrow after_line = not after_line
arrow_role _ after_line = false

abbrev pub arrow_at : List Spanned → ℕ → Bool
arrow_at ts i = arrow_role (role_at ts i) (after_line_at ts i)

-- the tokens go on with names and commas, then ), and then =>
abbrev pub closes_head : Role → Bool → Bool → Bool
closes_head (r.Name n) rest arrow = rest
closes_head r.Comma rest arrow = rest
closes_head r.Close rest arrow = arrow
closes_head _ rest arrow = false

abbrev pub heads : List Spanned → Bool
heads [] = false
heads (s ∷ ts) = closes_head (role_of (Some s.token)) (heads ts) (arrow_at ts 0)

-- what stands here begins an arrow function, where it begins a value
abbrev pub ahead_of : Role → Bool → Bool → Bool
ahead_of (r.Name n) arrow head = arrow
ahead_of r.Open arrow head = head
ahead_of _ arrow head = false

abbrev pub ahead_at : List Spanned → ℕ → Bool
ahead_at ts i = ahead_of (role_at ts i) (arrow_at ts (i + 1)) (heads (drop (i + 1) ts))

abbrev pub follow_at : List Spanned → ℕ → Follow
follow_at ts i = follow_of (role_at ts (i + 1))

-- Where a parser is: its frames and operands, the last one first, the places of the bodies that it has named, the last
-- one first, what it wants, and its place.
pub data State : Type 0 where
  Going : (fs : List Frame) (rs : List Rose) (ds : List ℕ) (mode : Mode) (at : ℕ) → State
  Waits : (fs : List Frame) (rs : List Rose) (ds : List ℕ) (at : ℕ) → State
  Ends : (rs : List Rose) (ds : List ℕ) (at : ℕ) → State
  Fails : State
  -- never
  Stuck : State

abbrev pub built : Label → Mode → List Frame → List ℕ → ℕ → Gathered → State
built label mode fs ds at Short = Stuck
built label mode fs ds at (Got parts rs) = Going fs (node label parts ∷ rs) ds mode at

abbrev pub apply : Move → List Frame → List Rose → List ℕ → ℕ → State
apply (Leaf label mode) fs rs ds at = Going fs (node label none ∷ rs) ds mode (at + 1)
apply (Enter f mode) fs rs ds at = Going (f ∷ fs) rs ds mode (at + 1)
apply (Begin label f mode) fs rs ds at = Going (f ∷ fs) (node label none ∷ rs) ds mode (at + 1)
apply (Swap f mode) fs rs ds at = Going (f ∷ below fs) rs ds mode (at + 1)
apply (Build label n mode taken) [] rs ds at = Stuck
apply (Build label n mode taken) (f ∷ fs) rs ds at = built label mode fs ds (if taken then at + 1 else at) (gather n rs none)
apply (Suffix label mode) fs rs ds at = built label mode fs ds (at + 1) (gather 1 rs none)
apply (Turn mode) fs rs ds at = Going fs rs ds mode (at + 1)
apply Pause fs rs ds at = Waits fs rs ((at + 1) ∷ ds) (at + 1)
apply Ended fs rs ds at = Ends rs ds at
apply Wrong fs rs ds at = Fails

abbrev pub move_at : List Spanned → List Frame → Mode → ℕ → Move
move_at ts fs mode at = move_of (top fs) mode (token_at ts at) (role_at ts at) (after_line_at ts at) (ahead_at ts at) (follow_at ts at)

-- Some steps lead from one state to the other; where the parser waits, it goes on behind statements that stand there.
pub data Leads (ts : List Spanned) : State → State → Type 0 where
  here : {a : State} → Leads ts a a
  after : {fs : List Frame} {rs : List Rose} {ds : List ℕ} {mode : Mode} {at : ℕ} {b : State} → Leads ts (apply (move_at ts fs mode at) fs rs ds at) b → Leads ts (Going fs rs ds mode at) b
  answered : {fs : List Frame} {rs : List Rose} {ds : List ℕ} {body : Roses} {at j : ℕ} {b : State} → Statements ts body at j → RoleAt ts j r.CloseBrace → Leads ts (Going fs (pushed body rs) ds (Block (size body)) (j + 1)) b → Leads ts (Waits fs rs ds at) b
