-- What stands in the tokens is read.
use Rattle.std.proofs.Common.{◌≡◌, ℕ, suc, ◌+◌, ◌<◌, ◌≤◌, Bool, true, false, List, [], ◌∷◌, Option, Some, None, refl, sym, ap, subst, ◌∙◌, arith, add-one}
use Rattle.std.specs.Prelude.{if◌then◌else◌}
use Rattle.std.proofs.lemmas.Bool.{le-ltb, lt-ltb, ne_eqb}
use Rattle.mb_base.specs.declared.value.StrId.{StrId}
use Rattle.mb_token.specs.declared.token.Token.{Token}
use Rattle.mb_token.specs.declared.token.Token.TheVariants as t
use Rattle.mb_token.specs.declared.token.Spanned.{Spanned}
use Rattle.mb_token.specs.declared.mark.Mark.{Mark}
use Rattle.mb_token.specs.declared.mark.Mark.TheVariants as m
use Rattle.mb_token.specs.declared.word.Word.{Word}
use Rattle.mb_token.specs.declared.word.Word.TheVariants as wd
use Rattle.mb_token.specs.declared.word.Soft.{Soft}
use Rattle.mb_token.specs.declared.word.Soft.TheVariants.{Get, Set}
use Rattle.mb_tree.specs.declared.kind.Kind.{Kind}
use Rattle.mb_tree.specs.declared.kind.Kind.TheVariants as k
use Rattle.mb_tree.specs.declared.kind.Sign.{Sign}
use Rattle.mb_tree.specs.declared.kind.Sign.TheVariants as s
use Rattle.mb_tree.specs.Roses.{Rose, Roses, node, none, more, bare, named, numbered, size, join}
use Rattle.mb_tree.specs.machine.Operands.{pushed, Gathered, Got, gather}
use Rattle.mb_tree.proofs.Written.{gather_pushed, gathers}
use Rattle.mb_grammar.specs.declared.role.Role.{Role}
use Rattle.mb_grammar.specs.declared.role.Role.TheVariants as r
use Rattle.mb_parse_expr.specs.declared.role.Follow.{Follow}
use Rattle.mb_parse_expr.specs.declared.role.Follow.TheVariants as fo
use Rattle.mb_grammar.specs.declared.level.Level.{Level}
use Rattle.mb_grammar.specs.declared.level.Level.TheVariants as lv
use Rattle.mb_tree.specs.declared.tree.Label.{Label}
use Rattle.mb_grammar.specs.declared.function.Property.{Property}
use Rattle.mb_grammar.specs.declared.function.Maker.{Maker}
use Rattle.mb_grammar.specs.declared.function.Maker.TheVariants as mk
use Rattle.mb_parse_expr.specs.declared.machine.Frame.{Frame}
use Rattle.mb_parse_expr.specs.declared.machine.Frame.TheVariants as f
use Rattle.mb_parse_expr.specs.declared.machine.Mode.{Mode}
use Rattle.mb_parse_expr.specs.declared.machine.Mode.TheVariants as mo
use Rattle.mb_parse_expr.specs.declared.machine.Mode.TheVariants.{Operand, Body, After, Block}
use Rattle.mb_parse_expr.specs.declared.machine.Move.{Move}
use Rattle.mb_parse_expr.specs.declared.machine.Move.TheVariants.{Leaf, Enter, Begin, Swap, Build, Suffix, Turn, Pause, Ended, Wrong}
use Rattle.mb_grammar.specs.Tokens.{word_role, mark_role, role_of, token_at, role_at, after_line_at, RoleAt, NoRoleAt, SameLine}
use Rattle.mb_parse_expr.specs.machine.Machine.{follow_of, extra_of, made_extra, made_mode, hole, strength, least_before, value_move, taken_move, accessor_move, close_move, after_move, param_move, comma_move, property_move, key_move, word_move, name_move, body_move, move_of, ahead_at, follow_at, State, Going, Ends, built, apply, move_at, Leads, here, after, answered}
use Rattle.mb_grammar.specs.Nonterminals.{level_of}
use Rattle.mb_grammar.specs.Grammar.{Stands, lift, left_new, left_call, new_member, seq, assign, compound, arrow_value, arrow_block, cond, or, and_also, binary, unary, negative, before, behind, new_new, new_args, member, index, call, this, name_of, number, text, literal, array, object, function, group, Listed, last_of, then_of, Elements, nothing, elements, elements_comma, KeyOf, key_word, key_text, key_number, key_computed, Before, unnamed, with_name, method, getter, setter, Made, made, PropertyOf, valued, shorthand, maker_of, PropertyList, last_property, then_property, Properties, no_property, properties, properties_comma, Statements}
use Rattle.mb_grammar.specs.Labels.{named_property, whole_property, computed_property, value_label, made_label, IsFunction, IsProperty, param}
use Rattle.mb_grammar.specs.Parts.{WordText, name, soft, reserved, Names, last_name, name_and, Params, no_params, params, params_comma, MakerParams, of_function, of_method, of_getter, of_setter, Head, one, many}
use Rattle.mb_tree.specs.machine.Stack.{top}
use Rattle.mb_grammar.specs.Script.{IsEnd, least_of}
use Rattle.mb_parse_expr.proofs.Ahead.{name_alone, group_alone, head_ahead}

-- numbers

pub sign_range : (sign : Sign) → (10 ≤ level_of sign) × (level_of sign ≤ 13)
sign_range s.TripleEqual = (omega arith, omega arith)
sign_range s.NotDoubleEqual = (omega arith, omega arith)
sign_range s.Less = (omega arith, omega arith)
sign_range s.Greater = (omega arith, omega arith)
sign_range s.LessEqual = (omega arith, omega arith)
sign_range s.GreaterEqual = (omega arith, omega arith)
sign_range s.In = (omega arith, omega arith)
sign_range s.Instanceof = (omega arith, omega arith)
sign_range s.Plus = (omega arith, omega arith)
sign_range s.Minus = (omega arith, omega arith)
sign_range _ = (omega arith, omega arith)

-- no token is of a strength between two levels
gap4 : (role : Role) (after_line : Bool) → strength role after_line ≤ 4 → strength role after_line < 3
gap4 (r.Infix sign) after_line h = absurd (omega (arith, (sign_range sign).0))
gap4 (r.Step plus) true h = omega arith
gap4 (r.Step plus) false h = absurd (omega arith)
gap4 r.Arrow true h = omega arith
gap4 r.Arrow false h = absurd (omega arith)
gap4 _ after_line h = omega arith

gap6 : (role : Role) (after_line : Bool) → strength role after_line ≤ 6 → strength role after_line < 6
gap6 (r.Infix sign) after_line h = absurd (omega (arith, (sign_range sign).0))
gap6 (r.Step plus) true h = omega arith
gap6 (r.Step plus) false h = absurd (omega arith)
gap6 r.Arrow true h = omega arith
gap6 r.Arrow false h = absurd (omega arith)
gap6 _ after_line h = omega arith

gap8 : (role : Role) (after_line : Bool) → strength role after_line ≤ 8 → strength role after_line < 8
gap8 (r.Infix sign) after_line h = absurd (omega (arith, (sign_range sign).0))
gap8 (r.Step plus) true h = omega arith
gap8 (r.Step plus) false h = absurd (omega arith)
gap8 r.Arrow true h = omega arith
gap8 r.Arrow false h = absurd (omega arith)
gap8 _ after_line h = omega arith

gap14 : (role : Role) (after_line : Bool) → strength role after_line ≤ 14 → strength role after_line < 14
gap14 (r.Infix sign) after_line h = omega (arith, (sign_range sign).1)
gap14 (r.Step plus) true h = omega arith
gap14 (r.Step plus) false h = absurd (omega arith)
gap14 r.Arrow true h = omega arith
gap14 r.Arrow false h = absurd (omega arith)
gap14 _ after_line h = omega arith

gap16 : (role : Role) (after_line : Bool) → strength role after_line ≤ 16 → strength role after_line < 16
gap16 (r.Infix sign) after_line h = omega (arith, (sign_range sign).1)
gap16 (r.Step plus) true h = omega arith
gap16 (r.Step plus) false h = omega arith
gap16 r.Arrow true h = omega arith
gap16 r.Arrow false h = absurd (omega arith)
gap16 _ after_line h = omega arith

pub hole_range : (o : Option Frame) → (1 ≤ hole o) × (hole o ≤ 16)
hole_range (Some (f.Start lv.Expr)) = (omega arith, omega arith)
hole_range (Some (f.Start lv.Assign)) = (omega arith, omega arith)
hole_range (Some (f.Infix sign)) = (omega arith, omega (arith, (sign_range sign).1))
hole_range _ = (omega arith, omega arith)

pub level_bound : {ts : List Spanned} {l : ℕ} {a : Rose} {ds es : List ℕ} {i j : ℕ} → Stands ts l a ds es i j → l ≤ 18
level_bound (lift h d) = omega arith
level_bound (index h d o d' c) = level_bound d
level_bound (member h d o w) = level_bound d
level_bound (binary {sign = sign} d e d') = omega (arith, (sign_range sign).1)
level_bound _ = omega arith

-- moves

shifts : (o : Option Frame) (l : ℕ) (role : Role) (after_line : Bool) → hole o ≤ l → hole o ≤ strength role after_line → least_before role ≤ l → after_move o l role after_line ≡ taken_move o l role
shifts o l role after_line h g b = rw (le-ltb l (hole o) h, le-ltb (strength role after_line) (hole o) g, le-ltb l (least_before role) b) refl

closes : (o : Option Frame) (l : ℕ) (role : Role) (after_line : Bool) → hole o ≤ l → strength role after_line < hole o → after_move o l role after_line ≡ close_move o l role
closes o l role after_line h g = rw (le-ltb l (hole o) h, lt-ltb (strength role after_line) (hole o) g) refl

opens_args : (o : Option Frame) (l : ℕ) → hole o ≤ 15 → taken_move o l r.Open ≡ Enter (f.Args 0) Operand
opens_args None l h = refl
opens_args (Some f.New) l h = absurd (omega arith)
opens_args (Some _) l h = refl

seq_closes : (n l : ℕ) (role : Role) (after_line : Bool) → strength role after_line ≤ 1 → close_move (Some (f.Seq n)) l role ≡ Build (bare k.Seq) (n + 1) (After 1) false
seq_closes n l r.Comma after_line h = absurd (omega arith)
seq_closes n l _ after_line h = refl

pub no_brace : (o : Option Frame) (role : Role) (ahead : Bool) → (role ≡ r.OpenBrace → ⊥) → body_move o role ahead ≡ value_move o role ahead
no_brace o r.OpenBrace ahead h = absurd (h refl)
no_brace o _ ahead h = refl

-- tokens by their roles

word_not_name : (w : Word) (n : StrId) → word_role w ≡ r.Name n → ⊥
word_not_name wd.This n e = cc
word_not_name _ n e = cc

mark_not_name : (w : Mark) (n : StrId) → mark_role w ≡ r.Name n → ⊥
mark_not_name m.Dot n e = cc
mark_not_name _ n e = cc

word_follow : (w : Word) → follow_of (word_role w) ≡ fo.Other
word_follow wd.This = refl
word_follow _ = refl

word_not_square : (w : Word) → word_role w ≡ r.OpenSquare → ⊥
word_not_square wd.This e = cc
word_not_square _ e = cc

mark_square : (w : Mark) → mark_role w ≡ r.OpenSquare → w ≡ m.OpenBracket
mark_square m.OpenBracket e = refl
mark_square _ e = cc

square_token : (o : Option Token) → role_of o ≡ r.OpenSquare → o ≡ Some (t.Mark m.OpenBracket)
square_token (Some (t.Reserved w n)) e = absurd (word_not_square w e)
square_token (Some (t.Mark w)) e = ap (λ x. Some (t.Mark x)) (mark_square w e)
square_token _ e = cc

pub square_role : (o : Option Token) → o ≡ Some (t.Mark m.OpenBracket) → role_of o ≡ r.OpenSquare
square_role o e = ap role_of e

pub brace_role : (o : Option Token) → o ≡ Some (t.Mark m.CloseBrace) → role_of o ≡ r.CloseBrace
brace_role o e = ap role_of e

word_not_brace : (w : Word) → word_role w ≡ r.CloseBrace → ⊥
word_not_brace wd.This e = cc
word_not_brace _ e = cc

mark_brace : (w : Mark) → mark_role w ≡ r.CloseBrace → w ≡ m.CloseBrace
mark_brace m.CloseBrace e = refl
mark_brace _ e = cc

brace_token : (o : Option Token) → role_of o ≡ r.CloseBrace → o ≡ Some (t.Mark m.CloseBrace)
brace_token (Some (t.Reserved w n)) e = absurd (word_not_brace w e)
brace_token (Some (t.Mark w)) e = ap (λ x. Some (t.Mark x)) (mark_brace w e)
brace_token _ e = cc

-- a name that stands for its value too
shorthand_move : (o : Option Frame) (token : Option Token) (n : StrId) → role_of token ≡ r.Name n → property_move o token fo.Ends ≡ Begin (named k.Name n) (f.Value (named_property n)) (After 18)
shorthand_move o (Some (t.Name x)) n e =
    let q : x ≡ n = cc in
    ap (λ y. Begin (named k.Name y) (f.Value (named_property y)) (After 18)) q
shorthand_move o (Some (t.Soft u x)) n e =
    let q : x ≡ n = cc in
    ap (λ y. Begin (named k.Name y) (f.Value (named_property y)) (After 18)) q
shorthand_move o (Some (t.Reserved w x)) n e = absurd (word_not_name w n e)
shorthand_move o (Some (t.Mark w)) n e = absurd (mark_not_name w n e)
shorthand_move o _ n e = cc

word_key : (o : Option Frame) (token : Option Token) (n : StrId) → WordText token n → property_move o token fo.Names ≡ Enter (f.Key (named_property n)) mo.Keyed
word_key o _ n name = refl
word_key o _ n soft = refl
word_key o _ n reserved = refl

word_accessor : (u : Soft) (token : Option Token) (n : StrId) → WordText token n → key_move (Some (f.Accessor u)) token ≡ accessor_move u (named_property n)
word_accessor u _ n name = refl
word_accessor u _ n soft = refl
word_accessor u _ n reserved = refl

word_member : (l : ℕ) (token : Option Token) (n : StrId) → WordText token n → word_move l token ≡ Suffix (named k.Member n) (After l)
word_member l _ n name = refl
word_member l _ n soft = refl
word_member l _ n reserved = refl

word_other : (token : Option Token) (n : StrId) → WordText token n → follow_of (role_of token) ≡ fo.Other
word_other _ n name = refl
word_other _ n soft = refl
word_other _ n (reserved {w = w}) = word_follow w

-- how a list in brackets is written: what closes it, what is built, and of how many operands before the list
record Bracket (F : ℕ → Frame) (C : Role) (kind : Kind) (extra level : ℕ) : Type 0 where
  hole_is : (n : ℕ) → hole (Some (F n)) ≡ 3
  comma : (n l : ℕ) → close_move (Some (F n)) l r.Comma ≡ Swap (F (n + 1)) Operand
  full : (n l : ℕ) → close_move (Some (F n)) l C ≡ Build (bare kind) (n + suc extra) (After level) true
  empty : (n : ℕ) (ahead : Bool) → value_move (Some (F n)) C ahead ≡ Build (bare kind) (n + extra) (After level) true
  weak : (after_line : Bool) → strength C after_line ≡ 0

abbrev args : Bracket f.Args r.Close k.Call 1 17
args = record { hole_is = λ n. refl; comma = λ n l. refl; full = λ n l. refl; empty = λ n b. refl; weak = λ b. refl }

abbrev new_list : Bracket f.NewArgs r.Close k.New 1 18
new_list = record { hole_is = λ n. refl; comma = λ n l. refl; full = λ n l. refl; empty = λ n b. refl; weak = λ b. refl }

abbrev items : Bracket f.Array r.CloseSquare k.ArrayLit 0 18
items = record {
  hole_is = λ n. refl;
  comma = λ n l. refl;
  full = λ n l. refl;
  empty = λ n b.
      let q : n ≡ n + 0 = omega arith in
      ap (λ x. Build (bare k.ArrayLit) x (After 18) true) q;
  weak = λ b. refl;
}

-- what takes a list of parameters, and what follows the list
record Lists (maker : Maker) : Type 0 where
  frame : ℕ → Frame
  mode : Mode
  one_more : (n : ℕ) (x : StrId) → param_move (Some (f.Params maker n)) (r.Name x) ≡ Leaf (named k.Param x) mo.Comma
  comma : (n : ℕ) → comma_move (Some (f.Params maker n)) r.Comma ≡ Swap (f.Params maker (n + 1)) mo.Param
  empty : (n : ℕ) → param_move (Some (f.Params maker n)) r.Close ≡ Swap (frame n) mode
  full : (n : ℕ) → comma_move (Some (f.Params maker n)) r.Close ≡ Swap (frame (n + 1)) mode

abbrev arrow_lists : Lists mk.Arrow
arrow_lists = record { frame = f.Head; mode = mo.Arrow; one_more = λ n x. refl; comma = λ n. refl; empty = λ n. refl; full = λ n. refl }

abbrev function_lists : (n : Option StrId) → Lists (mk.Function n)
function_lists o = record { frame = f.Made (mk.Function o); mode = mo.Brace; one_more = λ n x. refl; comma = λ n. refl; empty = λ n. refl; full = λ n. refl }

abbrev method_lists : (p : Property) → Lists (mk.Method p)
method_lists p = record { frame = f.Made (mk.Method p); mode = mo.Brace; one_more = λ n x. refl; comma = λ n. refl; empty = λ n. refl; full = λ n. refl }

-- steps

pub record Reads (ts : List Spanned) (l : ℕ) (a : Rose) (ds es : List ℕ) (i j : ℕ) (fs : List Frame) (rs : List Rose) : Type 0 where
  pub level : ℕ
  pub at_least : l ≤ level
  pub exact : 16 ≤ l → level ≡ 17 → l ≡ 17
  pub steps : Leads ts (Going fs rs ds Operand i) (Going fs (a ∷ rs) es (After level) j)

record ReadsList (ts : List Spanned) (parts : Roses) (ds es : List ℕ) (i j : ℕ) (F : ℕ → Frame) (n : ℕ) (fs : List Frame) (rs : List Rose) : Type 0 where
  level : ℕ
  count : ℕ
  at_least : 3 ≤ level
  counted : count + 1 ≡ n + size parts
  steps : Leads ts (Going (F n ∷ fs) rs ds Operand i) (Going (F count ∷ fs) (pushed parts rs) es (After level) j)

-- the keys of what is made are as many as the machine counts
pub key_size : {ts : List Spanned} {p : Property} {keys : Roses} {ds es : List ℕ} {i j : ℕ} → KeyOf ts p keys ds es i j → extra_of p ≡ size keys
key_size (key_word w) = refl
key_size (key_text e) = refl
key_size (key_number e) = refl
key_size (key_computed o d c) = refl

pub before_size : {ts : List Spanned} {maker : Maker} {keys : Roses} {ds es : List ℕ} {i j : ℕ} → Before ts maker keys ds es i j → made_extra maker ≡ size keys
before_size (unnamed e) = refl
before_size (with_name e n) = refl
before_size (method d) = key_size d
before_size (getter g d) = key_size d
before_size (setter g d) = key_size d

pub made_gathers : (keys parts body : Roses) (extra n : ℕ) (rs : List Rose) → extra ≡ size keys → n ≡ size parts + size body + extra → gather n (pushed body (pushed parts (pushed keys rs))) none ≡ Got (join keys (join parts body)) rs
made_gathers keys parts body extra n rs e q =
    gathers body (size parts + extra) n (pushed parts (pushed keys rs)) (omega arith)
    ∙ gather_pushed parts extra (size parts + extra) (pushed keys rs) body refl
    ∙ gather_pushed keys 0 extra rs (join parts body) (omega arith)

pub valued_gathers : (keys : Roses) (a : Rose) (extra : ℕ) (rs : List Rose) → extra ≡ size keys → gather (1 + extra) (a ∷ pushed keys rs) none ≡ Got (join keys (more a none)) rs
valued_gathers keys a extra rs e =
    let q : 1 + extra ≡ suc extra = omega arith in
    ap (λ y. gather y (a ∷ pushed keys rs) none) q ∙ gather_pushed keys 0 extra rs (more a none) (omega arith)

module _ (ts : List Spanned) where
  pub leads_on : {a b c : State} → Leads ts a b → Leads ts b c → Leads ts a c
  leads_on here q = q
  leads_on (after p) q = after (leads_on p q)
  leads_on (answered b e p) q = answered b e (leads_on p q)

  -- one step, where the token's role is known
  go : (fs : List Frame) (rs : List Rose) (ds : List ℕ) (mode : Mode) (at : ℕ) (c : State) (role : Role) (move : Move) → RoleAt ts at role → move_of (top fs) mode (token_at ts at) role (after_line_at ts at) (ahead_at ts at) (follow_at ts at) ≡ move → Leads ts (apply move fs rs ds at) c → Leads ts (Going fs rs ds mode at) c
  go fs rs ds mode at c role move e h l =
      let q : apply (move_at ts fs mode at) fs rs ds at ≡ apply move fs rs ds at = ap (λ x. apply (move_of (top fs) mode (token_at ts at) x (after_line_at ts at) (ahead_at ts at) (follow_at ts at)) fs rs ds at) e.is ∙ ap (λ x. apply x fs rs ds at) h in
      after (subst (λ x. Leads ts x c) (sym q) l)

  -- one step, where the move is known
  step : (fs : List Frame) (rs : List Rose) (ds : List ℕ) (mode : Mode) (at : ℕ) (c : State) (move : Move) → move_at ts fs mode at ≡ move → Leads ts (apply move fs rs ds at) c → Leads ts (Going fs rs ds mode at) c
  step fs rs ds mode at c move h l = after (subst (λ x. Leads ts x c) (sym (ap (λ x. apply x fs rs ds at) h)) l)

  its_role : (i : ℕ) → RoleAt ts i (role_at ts i)
  its_role i = record { is = refl }

  from_body : {fs fs' : List Frame} {rs rs' : List Rose} {ds es : List ℕ} {i j l : ℕ} → NoRoleAt ts i r.OpenBrace → Leads ts (Going fs rs ds Operand i) (Going fs' rs' es (After l) j) → Leads ts (Going fs rs ds Body i) (Going fs' rs' es (After l) j)
  from_body {fs = fs} {fs' = fs'} {rs = rs} {rs' = rs'} {ds = ds} {es = es} {i = i} {j = j} {l = l} n (after p) =
      step fs rs ds Body i (Going fs' rs' es (After l) j) (value_move (top fs) (role_at ts i) (ahead_at ts i)) (no_brace (top fs) (role_at ts i) (ahead_at ts i) n.differs) p

  -- parameters

  name_step : {maker : Maker} (u : Lists maker) (n : ℕ) (fs : List Frame) (rs : List Rose) (ds : List ℕ) (i : ℕ) (x : StrId) (c : State) → RoleAt ts i (r.Name x) → Leads ts (Going (f.Params maker n ∷ fs) (param x ∷ rs) ds mo.Comma (i + 1)) c → Leads ts (Going (f.Params maker n ∷ fs) rs ds mo.Param i) c
  name_step {maker = maker} u n fs rs ds i x c e l = go (f.Params maker n ∷ fs) rs ds mo.Param i c (r.Name x) (Leaf (named k.Param x) mo.Comma) e (u.one_more n x) l

  comma_step : {maker : Maker} (u : Lists maker) (n : ℕ) (fs : List Frame) (rs : List Rose) (ds : List ℕ) (i : ℕ) (c : State) → RoleAt ts i r.Comma → Leads ts (Going (f.Params maker (n + 1) ∷ fs) rs ds mo.Param (i + 1)) c → Leads ts (Going (f.Params maker n ∷ fs) rs ds mo.Comma i) c
  comma_step {maker = maker} u n fs rs ds i c e l = go (f.Params maker n ∷ fs) rs ds mo.Comma i c r.Comma (Swap (f.Params maker (n + 1)) mo.Param) e (u.comma n) l

  reads_names : {maker : Maker} {parts : Roses} {i j : ℕ} → Names ts parts i j → (u : Lists maker) (n : ℕ) (fs : List Frame) (rs : List Rose) (ds : List ℕ) (c : State) → ((count : ℕ) → count + 1 ≡ n + size parts → Leads ts (Going (f.Params maker count ∷ fs) (pushed parts rs) ds mo.Comma j) c) → Leads ts (Going (f.Params maker n ∷ fs) rs ds mo.Param i) c
  reads_names {i = i} (last_name {n = x} e) u n fs rs ds c next = name_step u n fs rs ds i x c e (next n refl)
  reads_names {i = i} (name_and {n = x} e q p) u n fs rs ds c next =
      name_step u n fs rs ds i x c e (comma_step u n fs _ ds (i + 1) c q (reads_names p u (n + 1) fs _ ds c (λ count h. next count (omega (arith, h)))))

  reads_params : {maker : Maker} {parts : Roses} {i j : ℕ} → Params ts parts i j → RoleAt ts j r.Close → (u : Lists maker) (fs : List Frame) (rs : List Rose) (ds : List ℕ) (c : State) → Leads ts (Going (u.frame (size parts) ∷ fs) (pushed parts rs) ds u.mode (j + 1)) c → Leads ts (Going (f.Params maker 0 ∷ fs) rs ds mo.Param i) c
  reads_params {maker = maker} {i = i} no_params e u fs rs ds c next = go (f.Params maker 0 ∷ fs) rs ds mo.Param i c r.Close (Swap (u.frame 0) u.mode) e (u.empty 0) next
  reads_params {maker = maker} {parts = parts} {j = j} (params p) e u fs rs ds c next =
      reads_names p u 0 fs rs ds c (λ count h.
      let same : size parts ≡ count + 1 = omega (arith, h) in
      go (f.Params maker count ∷ fs) (pushed parts rs) ds mo.Comma j c r.Close (Swap (u.frame (count + 1)) u.mode) e (u.full count) (subst (λ n. Leads ts (Going (u.frame n ∷ fs) (pushed parts rs) ds u.mode (j + 1)) c) same next))
  reads_params {maker = maker} {parts = parts} (params_comma {j = j} p q) e u fs rs ds c next =
      reads_names p u 0 fs rs ds c (λ count h.
      let same : size parts ≡ count + 1 = omega (arith, h) in
      comma_step u count fs (pushed parts rs) ds j c q (go (f.Params maker (count + 1) ∷ fs) (pushed parts rs) ds mo.Param (j + 1) c r.Close (Swap (u.frame (count + 1)) u.mode) e (u.empty (count + 1)) (subst (λ n. Leads ts (Going (u.frame n ∷ fs) (pushed parts rs) ds u.mode (j + 1 + 1)) c) same next)))

  arrow_step : (n : ℕ) (fs : List Frame) (rs : List Rose) (ds : List ℕ) (i : ℕ) → RoleAt ts i r.Arrow → SameLine ts i → Leads ts (Going (f.Head n ∷ fs) rs ds mo.Arrow i) (Going (f.Made mk.Arrow n ∷ fs) rs ds Body (i + 1))
  arrow_step n fs rs ds i a l = go (f.Head n ∷ fs) rs ds mo.Arrow i _ r.Arrow (Swap (f.Made mk.Arrow n) Body) a (ap (λ b. if b then Wrong else Swap (f.Made mk.Arrow n) Body) l.is) here

  reads_head : {parts : Roses} {i m : ℕ} → Head ts parts i m → RoleAt ts m r.Arrow → SameLine ts m → (fs : List Frame) (rs : List Rose) (ds : List ℕ) → Leads ts (Going fs rs ds Operand i) (Going (f.Made mk.Arrow (size parts) ∷ fs) (pushed parts rs) ds Body (m + 1))
  reads_head {i = i} (one {n = x} e) a l fs rs ds =
      go fs rs ds Operand i _ (r.Name x) (Begin (named k.Param x) (f.Head 1) mo.Arrow) e (ap (λ b. if b then Begin (named k.Param x) (f.Head 1) mo.Arrow else Leaf (named k.Name x) (After 18)) (head_ahead ts (one e) a l))
      (arrow_step 1 fs (param x ∷ rs) ds (i + 1) a l)
  reads_head {i = i} (many {parts = parts} {j = j} o p q) a l fs rs ds =
      go fs rs ds Operand i _ r.Open (Enter (f.Params mk.Arrow 0) mo.Param) o (ap (λ b. if b then Enter (f.Params mk.Arrow 0) mo.Param else Enter f.Group Operand) (head_ahead ts (many o p q) a l))
      (reads_params p q arrow_lists fs rs ds _ (arrow_step (size parts) fs (pushed parts rs) ds (j + 1) a l))

  -- a node that is built of what is gathered
  at_built : (label : Label) (mode : Mode) (fs : List Frame) (rs : List Rose) (ds : List ℕ) (at : ℕ) (got : Gathered) (parts : Roses) → got ≡ Got parts rs → Leads ts (built label mode fs ds at got) (Going fs (node label parts ∷ rs) ds mode at)
  at_built label mode fs rs ds at got parts e = subst (λ g. Leads ts (built label mode fs ds at g) (Going fs (node label parts ∷ rs) ds mode at)) (sym e) here

  -- a body in braces, behind parameters
  reads_block : {maker : Maker} (keys parts : Roses) {body : Roses} {i j : ℕ} (mode : Mode) (fs : List Frame) (rs : List Rose) (ds : List ℕ) → made_extra maker ≡ size keys → ((ahead : Bool) (follow : Follow) → move_of (Some (f.Made maker (size parts))) mode (token_at ts i) r.OpenBrace (after_line_at ts i) ahead follow ≡ Pause) → RoleAt ts i r.OpenBrace → Statements ts body (i + 1) j → RoleAt ts j r.CloseBrace
      → Leads ts (Going (f.Made maker (size parts) ∷ fs) (pushed parts (pushed keys rs)) ds mode i) (Going fs (node (made_label maker (size parts)) (join keys (join parts body)) ∷ rs) ((i + 1) ∷ ds) (made_mode maker) (j + 1))
  reads_block {maker = maker} keys parts {body = body} {i = i} {j = j} mode fs rs ds x p o b c =
      let n = size parts in
      go (f.Made maker n ∷ fs) (pushed parts (pushed keys rs)) ds mode i _ r.OpenBrace Pause o (p (ahead_at ts i) (follow_at ts i))
      (answered b c
      (step (f.Made maker n ∷ fs) (pushed body (pushed parts (pushed keys rs))) ((i + 1) ∷ ds) (Block (size body)) (j + 1) _ (Build (made_label maker n) (n + size body + made_extra maker) (made_mode maker) false) refl
      (at_built (made_label maker n) (made_mode maker) fs rs ((i + 1) ∷ ds) (j + 1) _ (join keys (join parts body)) (made_gathers keys parts body (made_extra maker) (n + size body + made_extra maker) rs x refl))))

  -- behind the opening parenthesis of what is made
  reads_rest : {maker : Maker} (keys : Roses) {parts body : Roses} {i n j : ℕ} → MakerParams ts maker parts i n → RoleAt ts n r.Close → RoleAt ts (n + 1) r.OpenBrace → Statements ts body (n + 1 + 1) j → RoleAt ts j r.CloseBrace → made_extra maker ≡ size keys → (fs : List Frame) (rs : List Rose) (ds : List ℕ)
      → Leads ts (Going (f.Params maker 0 ∷ fs) (pushed keys rs) ds mo.Param i) (Going fs (node (made_label maker (size parts)) (join keys (join parts body)) ∷ rs) ((n + 1 + 1) ∷ ds) (made_mode maker) (j + 1))
  reads_rest keys (of_function {name = o} {parts = parts} p) c b s q x fs rs ds =
      reads_params p c (function_lists o) fs (pushed keys rs) ds _ (reads_block keys parts mo.Brace fs rs ds x (λ a g. refl) b s q)
  reads_rest keys (of_method {p = y} {parts = parts} p) c b s q x fs rs ds =
      reads_params p c (method_lists y) fs (pushed keys rs) ds _ (reads_block keys parts mo.Brace fs rs ds x (λ a g. refl) b s q)
  reads_rest keys {n = n} (of_getter {p = y}) c b s q x fs rs ds =
      go (f.Params (mk.Getter y) 0 ∷ fs) (pushed keys rs) ds mo.Param n _ r.Close (Swap (f.Made (mk.Getter y) 0) mo.Brace) c refl
      (reads_block keys none mo.Brace fs rs ds x (λ a g. refl) b s q)
  reads_rest keys {i = i} (of_setter {p = y} {n = v} e) c b s q x fs rs ds =
      go (f.Params (mk.Setter y) 0 ∷ fs) (pushed keys rs) ds mo.Param i _ (r.Name v) (Leaf (named k.Param v) mo.Comma) e refl
      (go (f.Params (mk.Setter y) 0 ∷ fs) (param v ∷ pushed keys rs) ds mo.Comma (i + 1) _ r.Close (Swap (f.Made (mk.Setter y) 1) mo.Brace) c refl
      (reads_block keys (more (param v) none) mo.Brace fs rs ds x (λ a g. refl) b s q))

  -- a token that ends a property
  ends_weak : (role : Role) (after_line : Bool) → follow_of role ≡ fo.Ends → strength role after_line < 3
  ends_weak r.Comma after_line e = omega arith
  ends_weak r.CloseBrace after_line e = omega arith
  ends_weak _ after_line e = cc

  key_other : {p : Property} {keys : Roses} {ds es : List ℕ} {i j : ℕ} → KeyOf ts p keys ds es i j → follow_of (role_at ts i) ≡ fo.Other
  key_other {i = i} (key_word {n = n} w) = word_other (token_at ts i) n w
  key_other (key_text e) = ap (λ o. follow_of (role_of o)) e.is
  key_other (key_number e) = ap (λ o. follow_of (role_of o)) e.is
  key_other (key_computed o d c) = ap follow_of o.is

  record ReadsProperties (parts : Roses) (ds es : List ℕ) (i j n : ℕ) (fs : List Frame) (rs : List Rose) : Type 0 where
    count : ℕ
    counted : count + 1 ≡ n + size parts
    steps : Leads ts (Going (f.Object n ∷ fs) rs ds mo.Property i) (Going (f.Object count ∷ fs) (pushed parts rs) es mo.Item j)

  mutual
    pub reads : {l : ℕ} {a : Rose} {ds es : List ℕ} {i j : ℕ} → Stands ts l a ds es i j → (fs : List Frame) (rs : List Rose) → hole (top fs) ≤ l → (l ≡ 17 → hole (top fs) ≤ 15) → strength (role_at ts j) (after_line_at ts j) ≤ l → Reads ts l a ds es i j fs rs
    reads (lift u d) fs rs h x w =
        let q = reads d fs rs (omega arith) (λ e. omega arith) (omega arith) in
        record { level = q.level; at_least = omega (arith, q.at_least); exact = λ g e. omega arith; steps = q.steps }
    reads (left_new d) fs rs h x w =
        let q = reads d fs rs (omega arith) (λ e. omega arith) (omega arith) in
        record { level = q.level; at_least = omega (arith, q.at_least); exact = λ g e. omega arith; steps = q.steps }
    reads (left_call d) fs rs h x w =
        let q = reads d fs rs (omega arith) (λ e. omega arith) (omega arith) in
        record { level = q.level; at_least = omega (arith, q.at_least); exact = λ g e. omega arith; steps = q.steps }
    reads (new_member d) fs rs h x w =
        let q = reads d fs rs (omega arith) (λ e. omega arith) (omega arith) in
        record { level = q.level; at_least = omega (arith, q.at_least); exact = λ g e. omega (arith, q.at_least); steps = q.steps }
    reads {j = j} (seq {a = a} {parts = parts} {es = es} {gs = gs} {m = m} d e d') fs rs h x w =
        let p = reads d fs rs (omega arith) (λ q. omega arith) (rw e.is (omega arith)) in
        let q = reads_listed d' f.Seq (λ n. refl) (λ n o. refl) 1 fs (a ∷ rs) (omega arith) in
        record {
          level = 1;
          at_least = omega arith;
          exact = λ g u. omega arith;
          steps = leads_on p.steps
              (go fs (a ∷ rs) es (After p.level) m _ r.Comma (Enter (f.Seq 1) Operand) e (shifts (top fs) p.level r.Comma (after_line_at ts m) (omega (arith, p.at_least)) (omega arith) p.at_least)
              (leads_on q.steps
              (go (f.Seq q.count ∷ fs) (pushed parts (a ∷ rs)) gs (After q.level) j _ (role_at ts j) (Build (bare k.Seq) (q.count + 1) (After 1) false) (its_role j) (closes (Some (f.Seq q.count)) q.level (role_at ts j) (after_line_at ts j) q.at_least (omega arith) ∙ seq_closes q.count q.level (role_at ts j) (after_line_at ts j) w)
              (at_built (bare k.Seq) (After 1) fs rs gs j _ (more a parts) (gathers parts 1 (q.count + 1) (a ∷ rs) (omega (arith, q.counted)))))));
        }
    reads {j = j} (assign {a = a} {b = b} {es = es} {gs = gs} {m = m} d e d') fs rs h x w =
        let p = reads d fs rs (omega arith) (λ q. omega arith) (rw e.is (omega arith)) in
        let q = reads d' (f.Becomes ∷ fs) (a ∷ rs) (omega arith) (λ u. omega arith) w in
        record {
          level = 3;
          at_least = omega arith;
          exact = λ g u. omega arith;
          steps = leads_on p.steps
              (go fs (a ∷ rs) es (After p.level) m _ r.Becomes (Enter f.Becomes Operand) e (shifts (top fs) p.level r.Becomes (after_line_at ts m) (omega (arith, p.at_least)) (omega arith) p.at_least)
              (leads_on q.steps
              (go (f.Becomes ∷ fs) (b ∷ a ∷ rs) gs (After q.level) j _ (role_at ts j) (Build (bare k.Assign) 2 (After 3) false) (its_role j) (closes (Some f.Becomes) q.level (role_at ts j) (after_line_at ts j) q.at_least (gap4 (role_at ts j) (after_line_at ts j) (omega arith))) here)));
        }
    reads {j = j} (compound {sign = sign} {a = a} {b = b} {es = es} {gs = gs} {m = m} d e d') fs rs h x w =
        let p = reads d fs rs (omega arith) (λ q. omega arith) (rw e.is (omega arith)) in
        let q = reads d' (f.Compound sign ∷ fs) (a ∷ rs) (omega arith) (λ u. omega arith) w in
        record {
          level = 3;
          at_least = omega arith;
          exact = λ g u. omega arith;
          steps = leads_on p.steps
              (go fs (a ∷ rs) es (After p.level) m _ (r.Compound sign) (Enter (f.Compound sign) Operand) e (shifts (top fs) p.level (r.Compound sign) (after_line_at ts m) (omega (arith, p.at_least)) (omega arith) p.at_least)
              (leads_on q.steps
              (go (f.Compound sign ∷ fs) (b ∷ a ∷ rs) gs (After q.level) j _ (role_at ts j) (Build (bare (k.Compound sign)) 2 (After 3) false) (its_role j) (closes (Some (f.Compound sign)) q.level (role_at ts j) (after_line_at ts j) q.at_least (gap4 (role_at ts j) (after_line_at ts j) (omega arith))) here)));
        }
    reads {ds = ds} {es = es} {j = j} (arrow_value {parts = parts} {b = b} {m = m} p e l o d) fs rs h x w =
        let n = size parts in
        let q = reads d (f.Made mk.Arrow n ∷ fs) (pushed parts rs) (omega arith) (λ u. omega arith) w in
        record {
          level = 3;
          at_least = omega arith;
          exact = λ g u. omega arith;
          steps = leads_on (reads_head p e l fs rs ds)
              (leads_on (from_body o q.steps)
              (go (f.Made mk.Arrow n ∷ fs) (b ∷ pushed parts rs) es (After q.level) j _ (role_at ts j) (Build (bare (k.Arrow n false)) (n + 1) (After 3) false) (its_role j) (closes (Some (f.Made mk.Arrow n)) q.level (role_at ts j) (after_line_at ts j) q.at_least (gap4 (role_at ts j) (after_line_at ts j) (omega arith)))
              (at_built (bare (k.Arrow n false)) (After 3) fs rs es j _ (join parts (more b none)) (ap (λ y. gather y (b ∷ pushed parts rs) none) (add-one n) ∙ gather_pushed parts 0 n rs (more b none) (omega arith)))));
        }
    reads (arrow_block {parts = parts} {body = body} {ds = ds} {m = m} {j = j} p e l o b c) fs rs h x w =
        record {
          level = 3;
          at_least = omega arith;
          exact = λ g u. omega arith;
          steps = leads_on (reads_head p e l fs rs ds) (reads_block {maker = mk.Arrow} none parts Body fs rs ds refl (λ y g. refl) o b c);
        }
    reads {j = j} (cond {a = a} {b = b} {c = c} {es = es} {gs = gs} {hs = hs} {m = m} {n = n} d e d' e' d'') fs rs h x w =
        let p = reads d fs rs (omega arith) (λ q. omega arith) (rw e.is (omega arith)) in
        let q = reads d' (f.Test ∷ fs) (a ∷ rs) (omega arith) (λ u. omega arith) (rw e'.is (omega arith)) in
        let o = reads d'' (f.Choice ∷ fs) (b ∷ a ∷ rs) (omega arith) (λ u. omega arith) (omega (arith, gap4 (role_at ts j) (after_line_at ts j) w)) in
        record {
          level = 4;
          at_least = omega arith;
          exact = λ g u. omega arith;
          steps = leads_on p.steps
              (go fs (a ∷ rs) es (After p.level) m _ r.Question (Enter f.Test Operand) e (shifts (top fs) p.level r.Question (after_line_at ts m) (omega (arith, p.at_least)) (omega arith) p.at_least)
              (leads_on q.steps
              (go (f.Test ∷ fs) (b ∷ a ∷ rs) gs (After q.level) n _ r.Colon (Swap f.Choice Operand) e' (closes (Some f.Test) q.level r.Colon (after_line_at ts n) q.at_least (omega arith))
              (leads_on o.steps
              (go (f.Choice ∷ fs) (c ∷ b ∷ a ∷ rs) hs (After o.level) j _ (role_at ts j) (Build (bare k.Cond) 3 (After 4) false) (its_role j) (closes (Some f.Choice) o.level (role_at ts j) (after_line_at ts j) o.at_least (gap4 (role_at ts j) (after_line_at ts j) w)) here)))));
        }
    reads {j = j} (or {a = a} {b = b} {es = es} {gs = gs} {m = m} d e d') fs rs h x w =
        let p = reads d fs rs (omega arith) (λ q. omega arith) (rw e.is (omega arith)) in
        let q = reads d' (f.Or ∷ fs) (a ∷ rs) (omega arith) (λ u. omega arith) w in
        record {
          level = 6;
          at_least = omega arith;
          exact = λ g u. omega arith;
          steps = leads_on p.steps
              (go fs (a ∷ rs) es (After p.level) m _ r.Or (Enter f.Or Operand) e (shifts (top fs) p.level r.Or (after_line_at ts m) (omega (arith, p.at_least)) (omega arith) p.at_least)
              (leads_on q.steps
              (go (f.Or ∷ fs) (b ∷ a ∷ rs) gs (After q.level) j _ (role_at ts j) (Build (bare k.Or) 2 (After 6) false) (its_role j) (closes (Some f.Or) q.level (role_at ts j) (after_line_at ts j) q.at_least (gap6 (role_at ts j) (after_line_at ts j) w)) here)));
        }
    reads {j = j} (and_also {a = a} {b = b} {es = es} {gs = gs} {m = m} d e d') fs rs h x w =
        let p = reads d fs rs (omega arith) (λ q. omega arith) (rw e.is (omega arith)) in
        let q = reads d' (f.And ∷ fs) (a ∷ rs) (omega arith) (λ u. omega arith) w in
        record {
          level = 8;
          at_least = omega arith;
          exact = λ g u. omega arith;
          steps = leads_on p.steps
              (go fs (a ∷ rs) es (After p.level) m _ r.And (Enter f.And Operand) e (shifts (top fs) p.level r.And (after_line_at ts m) (omega (arith, p.at_least)) (omega arith) p.at_least)
              (leads_on q.steps
              (go (f.And ∷ fs) (b ∷ a ∷ rs) gs (After q.level) j _ (role_at ts j) (Build (bare k.And) 2 (After 8) false) (its_role j) (closes (Some f.And) q.level (role_at ts j) (after_line_at ts j) q.at_least (gap8 (role_at ts j) (after_line_at ts j) w)) here)));
        }
    reads {j = j} (binary {sign = sign} {a = a} {b = b} {es = es} {gs = gs} {m = m} d e d') fs rs h x w =
        let g = sign_range sign in
        let p = reads d fs rs h x (rw e.is (omega arith)) in
        let q = reads d' (f.Infix sign ∷ fs) (a ∷ rs) (omega arith) (λ u. omega (arith, g.1)) (omega arith) in
        record {
          level = level_of sign;
          at_least = omega arith;
          exact = λ v u. u;
          steps = leads_on p.steps
              (go fs (a ∷ rs) es (After p.level) m _ (r.Infix sign) (Enter (f.Infix sign) Operand) e (shifts (top fs) p.level (r.Infix sign) (after_line_at ts m) (omega (arith, p.at_least)) h p.at_least)
              (leads_on q.steps
              (go (f.Infix sign ∷ fs) (b ∷ a ∷ rs) gs (After q.level) j _ (role_at ts j) (Build (bare (k.Binary sign)) 2 (After (level_of sign)) false) (its_role j) (closes (Some (f.Infix sign)) q.level (role_at ts j) (after_line_at ts j) (omega (arith, q.at_least)) (omega arith)) here)));
        }
    reads {ds = ds} {es = es} {i = i} {j = j} (unary {sign = sign} {a = a} e d) fs rs h x w =
        let q = reads d (f.Unary sign ∷ fs) rs (omega arith) (λ u. omega arith) w in
        record {
          level = 14;
          at_least = omega arith;
          exact = λ g u. omega arith;
          steps = go fs rs ds Operand i _ (r.Prefix sign) (Enter (f.Unary sign) Operand) e refl
              (leads_on q.steps
              (go (f.Unary sign ∷ fs) (a ∷ rs) es (After q.level) j _ (role_at ts j) (Build (bare (k.Unary sign)) 1 (After 14) false) (its_role j) (closes (Some (f.Unary sign)) q.level (role_at ts j) (after_line_at ts j) q.at_least (gap14 (role_at ts j) (after_line_at ts j) w)) here));
        }
    reads {ds = ds} {es = es} {i = i} {j = j} (negative {a = a} e d) fs rs h x w =
        let q = reads d (f.Unary s.Minus ∷ fs) rs (omega arith) (λ u. omega arith) w in
        record {
          level = 14;
          at_least = omega arith;
          exact = λ g u. omega arith;
          steps = go fs rs ds Operand i _ (r.Infix s.Minus) (Enter (f.Unary s.Minus) Operand) e refl
              (leads_on q.steps
              (go (f.Unary s.Minus ∷ fs) (a ∷ rs) es (After q.level) j _ (role_at ts j) (Build (bare (k.Unary s.Minus)) 1 (After 14) false) (its_role j) (closes (Some (f.Unary s.Minus)) q.level (role_at ts j) (after_line_at ts j) q.at_least (gap14 (role_at ts j) (after_line_at ts j) w)) here));
        }
    reads {ds = ds} {es = es} {i = i} {j = j} (before {plus = plus} {a = a} e d) fs rs h x w =
        let q = reads d (f.Before plus ∷ fs) rs (omega arith) (λ u. omega arith) w in
        record {
          level = 14;
          at_least = omega arith;
          exact = λ g u. omega arith;
          steps = go fs rs ds Operand i _ (r.Step plus) (Enter (f.Before plus) Operand) e refl
              (leads_on q.steps
              (go (f.Before plus ∷ fs) (a ∷ rs) es (After q.level) j _ (role_at ts j) (Build (bare (k.Update plus true)) 1 (After 14) false) (its_role j) (closes (Some (f.Before plus)) q.level (role_at ts j) (after_line_at ts j) q.at_least (gap14 (role_at ts j) (after_line_at ts j) w)) here));
        }
    reads {es = es} (behind {plus = plus} {a = a} {m = m} d e l) fs rs h x w =
        let p : strength (r.Step plus) (after_line_at ts m) ≡ 15 = ap (λ y. strength (r.Step plus) y) l.is in
        let q = reads d fs rs (omega arith) (λ u. omega arith) (rw e.is (omega arith)) in
        record {
          level = 14;
          at_least = omega arith;
          exact = λ g u. omega arith;
          steps = leads_on q.steps
              (go fs (a ∷ rs) es (After q.level) m _ (r.Step plus) (Suffix (bare (k.Update plus false)) (After 14)) e (shifts (top fs) q.level (r.Step plus) (after_line_at ts m) (omega (arith, q.at_least)) (omega arith) q.at_least) here);
        }
    reads {ds = ds} {es = es} {i = i} {j = j} (new_new {a = a} e d) fs rs h x w =
        let q = reads d (f.New ∷ fs) rs (omega arith) (λ u. omega arith) w in
        record {
          level = 16;
          at_least = omega arith;
          exact = λ g u. omega arith;
          steps = go fs rs ds Operand i _ r.New (Enter f.New Operand) e refl
              (leads_on q.steps
              (go (f.New ∷ fs) (a ∷ rs) es (After q.level) j _ (role_at ts j) (Build (bare k.New) 1 (After 16) false) (its_role j) (closes (Some f.New) q.level (role_at ts j) (after_line_at ts j) q.at_least (gap16 (role_at ts j) (after_line_at ts j) w) ∙ ap (λ y. if y then Wrong else Build (bare k.New) 1 (After 16) false) (ne_eqb q.level 17 (λ u. let v : 16 ≡ 17 = q.exact (omega arith) u in omega arith))) here));
        }
    reads {ds = ds} {i = i} (new_args {a = a} {parts = parts} {es = es} {gs = gs} {m = m} {j = j} e d o p c) fs rs h x w =
        let q = reads d (f.New ∷ fs) rs (omega arith) (λ u. omega arith) (rw o.is (omega arith)) in
        record {
          level = 18;
          at_least = omega arith;
          exact = λ g u. omega arith;
          steps = go fs rs ds Operand i _ r.New (Enter f.New Operand) e refl
              (leads_on q.steps
              (go (f.New ∷ fs) (a ∷ rs) es (After q.level) m _ r.Open (Swap (f.NewArgs 0) Operand) o (shifts (Some f.New) q.level r.Open (after_line_at ts m) (omega (arith, q.at_least)) (omega arith) (omega (arith, q.at_least)) ∙ ap (λ y. if y then Wrong else Swap (f.NewArgs 0) Operand) (le-ltb q.level 18 q.at_least))
              (reads_elements p f.NewArgs r.Close k.New 1 18 new_list c fs (a ∷ rs) _
              (at_built (bare k.New) (After 18) fs rs gs (j + 1) _ (more a parts) (gathers parts 1 (size parts + 1) (a ∷ rs) refl)))));
        }
    reads {es = es} (member {n = n} {a = a} {m = m} u d o c) fs rs h x w =
        let q = reads d fs rs h x (rw o.is u) in
        let g = hole_range (top fs) in
        record {
          level = q.level;
          at_least = q.at_least;
          exact = q.exact;
          steps = leads_on q.steps
              (go fs (a ∷ rs) es (After q.level) m _ r.Dot (Turn (mo.Word q.level)) o (shifts (top fs) q.level r.Dot (after_line_at ts m) (omega (arith, q.at_least)) (omega (arith, g.1)) (omega (arith, q.at_least)))
              (step fs (a ∷ rs) es (mo.Word q.level) (m + 1) _ (Suffix (named k.Member n) (After q.level)) (word_member q.level (token_at ts (m + 1)) n c) here));
        }
    reads (index {a = a} {b = b} {es = es} {gs = gs} {m = m} {j = j} u d o d' c) fs rs h x w =
        let p = reads d fs rs h x (rw o.is u) in
        let q = reads d' (f.Index p.level ∷ fs) (a ∷ rs) (omega arith) (λ v. omega arith) (rw c.is (omega arith)) in
        let g = hole_range (top fs) in
        record {
          level = p.level;
          at_least = p.at_least;
          exact = p.exact;
          steps = leads_on p.steps
              (go fs (a ∷ rs) es (After p.level) m _ r.OpenSquare (Enter (f.Index p.level) Operand) o (shifts (top fs) p.level r.OpenSquare (after_line_at ts m) (omega (arith, p.at_least)) (omega (arith, g.1)) (omega (arith, p.at_least)))
              (leads_on q.steps
              (go (f.Index p.level ∷ fs) (b ∷ a ∷ rs) gs (After q.level) j _ r.CloseSquare (Build (bare k.Index) 2 (After p.level) true) c (closes (Some (f.Index p.level)) q.level r.CloseSquare (after_line_at ts j) q.at_least (omega arith)) here)));
        }
    reads (call {a = a} {parts = parts} {es = es} {gs = gs} {m = m} {j = j} u d o p c) fs rs h x w =
        let g = x refl in
        let q = reads d fs rs (omega arith) (λ v. g) (rw o.is u) in
        record {
          level = 17;
          at_least = omega arith;
          exact = λ v y. refl;
          steps = leads_on q.steps
              (go fs (a ∷ rs) es (After q.level) m _ r.Open (Enter (f.Args 0) Operand) o (shifts (top fs) q.level r.Open (after_line_at ts m) (omega (arith, q.at_least)) (omega arith) (omega (arith, q.at_least)) ∙ opens_args (top fs) q.level g)
              (reads_elements p f.Args r.Close k.Call 1 17 args c fs (a ∷ rs) _
              (at_built (bare k.Call) (After 17) fs rs gs (j + 1) _ (more a parts) (gathers parts 1 (size parts + 1) (a ∷ rs) refl))));
        }
    reads {ds = ds} {i = i} (this e) fs rs h x w =
        record { level = 18; at_least = omega arith; exact = λ g u. omega arith; steps = go fs rs ds Operand i _ r.This (Leaf (bare k.This) (After 18)) e refl here }
    reads {ds = ds} {i = i} (name_of {n = n} e) fs rs h x w =
        record { level = 18; at_least = omega arith; exact = λ g u. omega arith; steps = go fs rs ds Operand i _ (r.Name n) (Leaf (named k.Name n) (After 18)) e (ap (λ y. if y then Begin (named k.Param n) (f.Head 1) mo.Arrow else Leaf (named k.Name n) (After 18)) (name_alone ts e w)) here }
    reads {ds = ds} {i = i} (number {z = z} e) fs rs h x w =
        record { level = 18; at_least = omega arith; exact = λ g u. omega arith; steps = go fs rs ds Operand i _ (r.Number z) (Leaf (numbered k.Number z) (After 18)) e refl here }
    reads {ds = ds} {i = i} (text {n = n} e) fs rs h x w =
        record { level = 18; at_least = omega arith; exact = λ g u. omega arith; steps = go fs rs ds Operand i _ (r.Text n) (Leaf (named k.Text n) (After 18)) e refl here }
    reads {ds = ds} {i = i} (literal {x = y} e) fs rs h x w =
        record { level = 18; at_least = omega arith; exact = λ g u. omega arith; steps = go fs rs ds Operand i _ (r.Fixed y) (Leaf (bare (k.Literal y)) (After 18)) e refl here }
    reads {ds = ds} {es = es} {i = i} (array {parts = parts} {j = j} o p c) fs rs h x w =
        record {
          level = 18;
          at_least = omega arith;
          exact = λ g u. omega arith;
          steps = go fs rs ds Operand i _ r.OpenSquare (Enter (f.Array 0) Operand) o refl
              (reads_elements p f.Array r.CloseSquare k.ArrayLit 0 18 items c fs rs _
              (at_built (bare k.ArrayLit) (After 18) fs rs es (j + 1) _ parts (gathers parts 0 (size parts + 0) rs refl)));
        }
    reads {ds = ds} {i = i} (object {parts = parts} o p c) fs rs h x w =
        record {
          level = 18;
          at_least = omega arith;
          exact = λ g u. omega arith;
          steps = go fs rs ds Operand i _ r.OpenBrace (Enter (f.Object 0) mo.Property) o refl (reads_properties p c fs rs);
        }
    reads (function y d) fs rs h x w =
        record { level = 18; at_least = omega arith; exact = λ g u. omega arith; steps = reads_function d y fs rs }
    reads {ds = ds} {es = es} {i = i} (group {a = a} {j = j} o d c) fs rs h x w =
        let q = reads d (f.Group ∷ fs) rs (omega arith) (λ u. omega arith) (rw c.is (omega arith)) in
        record {
          level = 18;
          at_least = omega arith;
          exact = λ g u. omega arith;
          steps = go fs rs ds Operand i _ r.Open (Enter f.Group Operand) o (ap (λ y. if y then Enter (f.Params mk.Arrow 0) mo.Param else Enter f.Group Operand) (group_alone ts o d c w))
              (leads_on q.steps
              (go (f.Group ∷ fs) (a ∷ rs) es (After q.level) j _ r.Close (Build (bare k.Group) 1 (After 18) true) c (closes (Some f.Group) q.level r.Close (after_line_at ts j) q.at_least (omega arith)) here));
        }

    reads_listed : {parts : Roses} {ds es : List ℕ} {i j : ℕ} → Listed ts parts ds es i j → (F : ℕ → Frame) → ((n : ℕ) → hole (Some (F n)) ≡ 3) → ((n l : ℕ) → close_move (Some (F n)) l r.Comma ≡ Swap (F (n + 1)) Operand) → (n : ℕ) (fs : List Frame) (rs : List Rose) → strength (role_at ts j) (after_line_at ts j) ≤ 3 → ReadsList ts parts ds es i j F n fs rs
    reads_listed (last_of d) F hs cs n fs rs w =
        let hn = hs n in
        let q = reads d (F n ∷ fs) rs (omega arith) (λ u. omega arith) w in
        record { level = q.level; count = n; at_least = q.at_least; counted = refl; steps = q.steps }
    reads_listed (then_of {a = a} {es = es} {m = m} d e d') F hs cs n fs rs w =
        let hn = hs n in
        let p = reads d (F n ∷ fs) rs (omega arith) (λ u. omega arith) (rw e.is (omega arith)) in
        let q = reads_listed d' F hs cs (n + 1) fs (a ∷ rs) w in
        record {
          level = q.level;
          count = q.count;
          at_least = q.at_least;
          counted = omega (arith, q.counted);
          steps = leads_on p.steps
              (go (F n ∷ fs) (a ∷ rs) es (After p.level) m _ r.Comma (Swap (F (n + 1)) Operand) e (closes (Some (F n)) p.level r.Comma (after_line_at ts m) (omega (arith, p.at_least)) (omega arith) ∙ cs n p.level) q.steps);
        }

    reads_elements : {parts : Roses} {ds es : List ℕ} {i j : ℕ} → Elements ts parts ds es i j → (F : ℕ → Frame) (C : Role) (kind : Kind) (extra level : ℕ) → Bracket F C kind extra level → RoleAt ts j C → (fs : List Frame) (rs : List Rose) (c : State) → Leads ts (built (bare kind) (After level) fs es (j + 1) (gather (size parts + extra) (pushed parts rs) none)) c → Leads ts (Going (F 0 ∷ fs) rs ds Operand i) c
    reads_elements {ds = ds} {i = i} nothing F C kind extra level br e fs rs c next =
        go (F 0 ∷ fs) rs ds Operand i c C (Build (bare kind) (0 + extra) (After level) true) e (br.empty 0 (ahead_at ts i)) next
    reads_elements {parts = parts} {es = es} {j = j} (elements d) F C kind extra level br e fs rs c next =
        let wk = br.weak (after_line_at ts j) in
        let q = reads_listed d F br.hole_is br.comma 0 fs rs (rw (e.is, wk) (omega arith)) in
        let hn = br.hole_is q.count in
        let same : size parts + extra ≡ q.count + suc extra = omega (arith, q.counted) in
        leads_on q.steps
        (go (F q.count ∷ fs) (pushed parts rs) es (After q.level) j c C (Build (bare kind) (q.count + suc extra) (After level) true) e (closes (Some (F q.count)) q.level C (after_line_at ts j) (omega (arith, q.at_least)) (omega arith) ∙ br.full q.count q.level)
        (subst (λ n. Leads ts (built (bare kind) (After level) fs es (j + 1) (gather n (pushed parts rs) none)) c) same next))
    reads_elements {parts = parts} {es = es} (elements_comma {j = j} d e') F C kind extra level br e fs rs c next =
        let q = reads_listed d F br.hole_is br.comma 0 fs rs (rw e'.is (omega arith)) in
        let hn = br.hole_is q.count in
        let same : size parts + extra ≡ q.count + 1 + extra = omega (arith, q.counted) in
        leads_on q.steps
        (go (F q.count ∷ fs) (pushed parts rs) es (After q.level) j c r.Comma (Swap (F (q.count + 1)) Operand) e' (closes (Some (F q.count)) q.level r.Comma (after_line_at ts j) (omega (arith, q.at_least)) (omega arith) ∙ br.comma q.count q.level)
        (go (F (q.count + 1) ∷ fs) (pushed parts rs) es Operand (j + 1) c C (Build (bare kind) (q.count + 1 + extra) (After level) true) e (br.empty (q.count + 1) (ahead_at ts (j + 1)))
        (subst (λ n. Leads ts (built (bare kind) (After level) fs es (j + 1 + 1) (gather n (pushed parts rs) none)) c) same next)))

    reads_function : {maker : Maker} {a : Rose} {ds es : List ℕ} {i j : ℕ} → Made ts maker a ds es i j → IsFunction maker → (fs : List Frame) (rs : List Rose) → Leads ts (Going fs rs ds Operand i) (Going fs (a ∷ rs) es (After 18) j)
    reads_function {ds = ds} {i = i} (made (unnamed e) o p c b s q) y fs rs =
        go fs rs ds Operand i _ r.Function (Enter (f.Header (mk.Function None)) mo.Title) e refl
        (go (f.Header (mk.Function None) ∷ fs) rs ds mo.Title (i + 1) _ r.Open (Swap (f.Params (mk.Function None) 0) mo.Param) o refl
        (reads_rest none p c b s q refl fs rs ds))
    reads_function {ds = ds} {i = i} (made (with_name {n = n} e e') o p c b s q) y fs rs =
        go fs rs ds Operand i _ r.Function (Enter (f.Header (mk.Function None)) mo.Title) e refl
        (go (f.Header (mk.Function None) ∷ fs) rs ds mo.Title (i + 1) _ (r.Name n) (Swap (f.Header (mk.Function (Some n))) mo.Open) e' refl
        (go (f.Header (mk.Function (Some n)) ∷ fs) rs ds mo.Open (i + 1 + 1) _ r.Open (Swap (f.Params (mk.Function (Some n)) 0) mo.Param) o refl
        (reads_rest none p c b s q refl fs rs ds)))
    reads_function (made (method d) o p c b s q) y fs rs = absurd y
    reads_function (made (getter g d) o p c b s q) y fs rs = absurd y
    reads_function (made (setter g d) o p c b s q) y fs rs = absurd y

    reads_key : {p : Property} {keys : Roses} {ds es : List ℕ} {i j : ℕ} → KeyOf ts p keys ds es i j → follow_of (role_at ts j) ≡ fo.Names → (fs : List Frame) (rs : List Rose) → Leads ts (Going fs rs ds mo.Property i) (Going (f.Key p ∷ fs) (pushed keys rs) es mo.Keyed j)
    reads_key {ds = ds} {i = i} (key_word {n = n} w) g fs rs =
        step fs rs ds mo.Property i _ (Enter (f.Key (named_property n)) mo.Keyed) (ap (property_move (top fs) (token_at ts i)) g ∙ word_key (top fs) (token_at ts i) n w) here
    reads_key {ds = ds} {i = i} (key_text {n = n} e) g fs rs =
        step fs rs ds mo.Property i _ (Enter (f.Key (named_property n)) mo.Keyed) (ap (λ o. property_move (top fs) o (follow_at ts i)) e.is) here
    reads_key {ds = ds} {i = i} (key_number {z = z} e) g fs rs =
        step fs rs ds mo.Property i _ (Enter (f.Key (whole_property z)) mo.Keyed) (ap (λ o. property_move (top fs) o (follow_at ts i)) e.is) here
    reads_key {ds = ds} {es = es} {i = i} (key_computed {a = a} {j = j} o d c) g fs rs =
        let q = reads d (f.Computed None ∷ fs) rs (omega arith) (λ u. omega arith) (rw c.is (omega arith)) in
        step fs rs ds mo.Property i _ (Enter (f.Computed None) Operand) (ap (λ y. property_move (top fs) y (follow_at ts i)) (square_token (token_at ts i) o.is))
        (leads_on q.steps
        (go (f.Computed None ∷ fs) (a ∷ rs) es (After q.level) j _ r.CloseSquare (Swap (f.Key computed_property) mo.Keyed) c (closes (Some (f.Computed None)) q.level r.CloseSquare (after_line_at ts j) q.at_least (omega arith)) here))

    reads_accessor : {p : Property} {keys : Roses} {ds es : List ℕ} {i j : ℕ} → KeyOf ts p keys ds es i j → (u : Soft) (G : Property → Maker) → ((y : Property) → accessor_move u y ≡ Swap (f.Header (G y)) mo.Open) → (fs : List Frame) (rs : List Rose) → Leads ts (Going (f.Accessor u ∷ fs) rs ds mo.Key i) (Going (f.Header (G p) ∷ fs) (pushed keys rs) es mo.Open j)
    reads_accessor {ds = ds} {i = i} (key_word {n = n} w) u G y fs rs =
        step (f.Accessor u ∷ fs) rs ds mo.Key i _ (Swap (f.Header (G (named_property n))) mo.Open) (word_accessor u (token_at ts i) n w ∙ y (named_property n)) here
    reads_accessor {ds = ds} {i = i} (key_text {n = n} e) u G y fs rs =
        step (f.Accessor u ∷ fs) rs ds mo.Key i _ (Swap (f.Header (G (named_property n))) mo.Open) (ap (key_move (Some (f.Accessor u))) e.is ∙ y (named_property n)) here
    reads_accessor {ds = ds} {i = i} (key_number {z = z} e) u G y fs rs =
        step (f.Accessor u ∷ fs) rs ds mo.Key i _ (Swap (f.Header (G (whole_property z))) mo.Open) (ap (key_move (Some (f.Accessor u))) e.is ∙ y (whole_property z)) here
    reads_accessor {ds = ds} {es = es} {i = i} (key_computed {a = a} {j = j} o d c) u G y fs rs =
        let q = reads d (f.Computed (Some u) ∷ fs) rs (omega arith) (λ v. omega arith) (rw c.is (omega arith)) in
        step (f.Accessor u ∷ fs) rs ds mo.Key i _ (Swap (f.Computed (Some u)) Operand) (ap (key_move (Some (f.Accessor u))) (square_token (token_at ts i) o.is))
        (leads_on q.steps
        (go (f.Computed (Some u) ∷ fs) (a ∷ rs) es (After q.level) j _ r.CloseSquare (Swap (f.Header (G computed_property)) mo.Open) c (closes (Some (f.Computed (Some u))) q.level r.CloseSquare (after_line_at ts j) q.at_least (omega arith) ∙ y computed_property) here))

    reads_maker : {maker : Maker} {a : Rose} {ds es : List ℕ} {i j : ℕ} → Made ts maker a ds es i j → IsProperty maker → (fs : List Frame) (rs : List Rose) → Leads ts (Going fs rs ds mo.Property i) (Going fs (a ∷ rs) es mo.Item j)
    reads_maker (made {keys = keys} {es = es} {m = m} (method {p = y} d) o p c b s q) z fs rs =
        leads_on (reads_key d (ap follow_of o.is) fs rs)
        (go (f.Key y ∷ fs) (pushed keys rs) es mo.Keyed m _ r.Open (Swap (f.Params (mk.Method y) 0) mo.Param) o refl
        (reads_rest keys p c b s q (key_size d) fs rs es))
    reads_maker {ds = ds} {i = i} (made {keys = keys} {es = es} {m = m} (getter {p = y} g d) o p c b s q) z fs rs =
        step fs rs ds mo.Property i _ (Enter (f.Accessor Get) mo.Key) (ap (λ v. property_move (top fs) v (follow_at ts i)) g.is ∙ ap (λ v. name_move g.text v (Some Get)) (key_other d))
        (leads_on (reads_accessor d Get mk.Getter (λ v. refl) fs rs)
        (go (f.Header (mk.Getter y) ∷ fs) (pushed keys rs) es mo.Open m _ r.Open (Swap (f.Params (mk.Getter y) 0) mo.Param) o refl
        (reads_rest keys p c b s q (key_size d) fs rs es)))
    reads_maker {ds = ds} {i = i} (made {keys = keys} {es = es} {m = m} (setter {p = y} g d) o p c b s q) z fs rs =
        step fs rs ds mo.Property i _ (Enter (f.Accessor Set) mo.Key) (ap (λ v. property_move (top fs) v (follow_at ts i)) g.is ∙ ap (λ v. name_move g.text v (Some Set)) (key_other d))
        (leads_on (reads_accessor d Set mk.Setter (λ v. refl) fs rs)
        (go (f.Header (mk.Setter y) ∷ fs) (pushed keys rs) es mo.Open m _ r.Open (Swap (f.Params (mk.Setter y) 0) mo.Param) o refl
        (reads_rest keys p c b s q (key_size d) fs rs es)))
    reads_maker (made (unnamed e) o p c b s q) z fs rs = absurd z
    reads_maker (made (with_name e e') o p c b s q) z fs rs = absurd z

    reads_property : {a : Rose} {ds es : List ℕ} {i j : ℕ} → PropertyOf ts a ds es i j → follow_of (role_at ts j) ≡ fo.Ends → (fs : List Frame) (rs : List Rose) → Leads ts (Going fs rs ds mo.Property i) (Going fs (a ∷ rs) es mo.Item j)
    reads_property {j = j} (valued {p = p} {keys = keys} {a = a} {es = es} {gs = gs} {m = m} d e d') g fs rs =
        let w = ends_weak (role_at ts j) (after_line_at ts j) g in
        let q = reads d' (f.Value p ∷ fs) (pushed keys rs) (omega arith) (λ u. omega arith) (omega arith) in
        leads_on (reads_key d (ap follow_of e.is) fs rs)
        (go (f.Key p ∷ fs) (pushed keys rs) es mo.Keyed m _ r.Colon (Swap (f.Value p) Operand) e refl
        (leads_on q.steps
        (go (f.Value p ∷ fs) (a ∷ pushed keys rs) gs (After q.level) j _ (role_at ts j) (Build (value_label p) (1 + extra_of p) mo.Item false) (its_role j) (closes (Some (f.Value p)) q.level (role_at ts j) (after_line_at ts j) q.at_least w)
        (at_built (value_label p) mo.Item fs rs gs j _ (join keys (more a none)) (valued_gathers keys a (extra_of p) rs (key_size d))))))
    reads_property {ds = ds} {i = i} (shorthand {n = n} e) g fs rs =
        let w = ends_weak (role_at ts (i + 1)) (after_line_at ts (i + 1)) g in
        step fs rs ds mo.Property i _ (Begin (named k.Name n) (f.Value (named_property n)) (After 18)) (ap (property_move (top fs) (token_at ts i)) g ∙ shorthand_move (top fs) (token_at ts i) n e.is)
        (go (f.Value (named_property n) ∷ fs) (node (named k.Name n) none ∷ rs) ds (After 18) (i + 1) _ (role_at ts (i + 1)) (Build (value_label (named_property n)) 1 mo.Item false) (its_role (i + 1)) (closes (Some (f.Value (named_property n))) 18 (role_at ts (i + 1)) (after_line_at ts (i + 1)) (omega arith) w) here)
    reads_property (maker_of z d) g fs rs = reads_maker d z fs rs

    reads_property_list : {parts : Roses} {ds es : List ℕ} {i j : ℕ} → PropertyList ts parts ds es i j → follow_of (role_at ts j) ≡ fo.Ends → (n : ℕ) (fs : List Frame) (rs : List Rose) → ReadsProperties parts ds es i j n fs rs
    reads_property_list (last_property d) g n fs rs =
        record { count = n; counted = refl; steps = reads_property d g (f.Object n ∷ fs) rs }
    reads_property_list (then_property {a = a} {es = es} {m = m} d e d') g n fs rs =
        let q = reads_property_list d' g (n + 1) fs (a ∷ rs) in
        record {
          count = q.count;
          counted = omega (arith, q.counted);
          steps = leads_on (reads_property d (ap follow_of e.is) (f.Object n ∷ fs) rs)
              (go (f.Object n ∷ fs) (a ∷ rs) es mo.Item m _ r.Comma (Swap (f.Object (n + 1)) mo.Property) e refl q.steps);
        }

    reads_properties : {parts : Roses} {ds es : List ℕ} {i j : ℕ} → Properties ts parts ds es i j → RoleAt ts j r.CloseBrace → (fs : List Frame) (rs : List Rose) → Leads ts (Going (f.Object 0 ∷ fs) rs ds mo.Property i) (Going fs (node (bare k.ObjectLit) parts ∷ rs) es (After 18) (j + 1))
    reads_properties {ds = ds} {i = i} no_property c fs rs =
        step (f.Object 0 ∷ fs) rs ds mo.Property i _ (Build (bare k.ObjectLit) 0 (After 18) true) (ap (λ y. property_move (Some (f.Object 0)) y (follow_at ts i)) (brace_token (token_at ts i) c.is)) here
    reads_properties {parts = parts} {es = es} {j = j} (properties d) c fs rs =
        let q = reads_property_list d (ap follow_of c.is) 0 fs rs in
        leads_on q.steps
        (go (f.Object q.count ∷ fs) (pushed parts rs) es mo.Item j _ r.CloseBrace (Build (bare k.ObjectLit) (q.count + 1) (After 18) true) c refl
        (at_built (bare k.ObjectLit) (After 18) fs rs es (j + 1) _ parts (gathers parts 0 (q.count + 1) rs (omega (arith, q.counted)))))
    reads_properties {parts = parts} {es = es} (properties_comma {j = j} d e) c fs rs =
        let q = reads_property_list d (ap follow_of e.is) 0 fs rs in
        leads_on q.steps
        (go (f.Object q.count ∷ fs) (pushed parts rs) es mo.Item j _ r.Comma (Swap (f.Object (q.count + 1)) mo.Property) e refl
        (step (f.Object (q.count + 1) ∷ fs) (pushed parts rs) es mo.Property (j + 1) _ (Build (bare k.ObjectLit) (q.count + 1) (After 18) true) (ap (λ y. property_move (Some (f.Object (q.count + 1))) y (follow_at ts (j + 1))) (brace_token (token_at ts (j + 1)) c.is))
        (at_built (bare k.ObjectLit) (After 18) fs rs es (j + 1 + 1) _ parts (gathers parts 0 (q.count + 1) rs (omega (arith, q.counted))))))

  -- a whole one
  end_low : (level : Level) (role : Role) (after_line : Bool) → IsEnd level role → strength role after_line < hole (Some (f.Start level))
  end_low lv.Expr r.Semicolon after_line h = omega arith
  end_low lv.Expr r.Close after_line h = omega arith
  end_low lv.Expr _ after_line h = absurd h
  end_low lv.Assign r.Semicolon after_line h = omega arith
  end_low lv.Assign r.Comma after_line h = omega arith
  end_low lv.Assign _ after_line h = absurd h

  end_is : (level : Level) (role : Role) (l : ℕ) → IsEnd level role → close_move (Some (f.Start level)) l role ≡ Ended
  end_is lv.Expr r.Semicolon l h = refl
  end_is lv.Expr r.Close l h = refl
  end_is lv.Expr _ l h = absurd h
  end_is lv.Assign r.Semicolon l h = refl
  end_is lv.Assign r.Comma l h = refl
  end_is lv.Assign _ l h = absurd h

  least_hole : (level : Level) → (hole (Some (f.Start level)) ≡ least_of level) × (least_of level ≤ 3)
  least_hole lv.Expr = (refl, omega arith)
  least_hole lv.Assign = (refl, omega arith)

  pub whole_reads : {level : Level} {a : Rose} {es : List ℕ} {i j : ℕ} → Stands ts (least_of level) a [] es i j → IsEnd level (role_at ts j) → Leads ts (Going (f.Start level ∷ []) [] [] Operand i) (Ends (a ∷ []) es j)
  whole_reads {level = level} {a = a} {es = es} {j = j} d e =
      let w = end_low level (role_at ts j) (after_line_at ts j) e in
      let u = least_hole level in
      let least = u.0 in
      let small = u.1 in
      let q = reads d (f.Start level ∷ []) [] (omega arith) (λ v. omega arith) (omega arith) in
      leads_on q.steps (go (f.Start level ∷ []) (a ∷ []) es (After q.level) j _ (role_at ts j) Ended (its_role j) (closes (Some (f.Start level)) q.level (role_at ts j) (after_line_at ts j) (omega (arith, q.at_least)) w ∙ end_is level (role_at ts j) q.level e) here)
