-- What stands in the tokens is read.
use Rattle.std.proofs.Common.{◌≡◌, ℕ, ◌+◌, Bool, true, false, List, [], ◌∷◌, Option, Some, refl, sym, ap, subst, ◌∙◌, arith}
use Rattle.std.specs.Prelude.{if◌then◌else◌}
use Rattle.mb_base.specs.declared.value.StrId.{StrId}
use Rattle.mb_token.specs.declared.token.Spanned.{Spanned}
use Rattle.mb_tree.specs.declared.kind.Kind.TheVariants as k
use Rattle.mb_tree.specs.Roses.{Rose, Roses, node, none, more, bare, size, join, named}
use Rattle.mb_tree.specs.machine.Operands.{pushed, Got, gather}
use Rattle.mb_tree.proofs.Written.{gather_pushed, gathers}
use Rattle.mb_grammar.specs.declared.role.Role.{Role}
use Rattle.mb_grammar.specs.declared.role.Role.TheVariants as r
use Rattle.mb_grammar.specs.declared.level.Level.{Level}
use Rattle.mb_grammar.specs.declared.level.Level.TheVariants as lv
use Rattle.mb_grammar.specs.Tokens.{role_at, after_line_at, RoleAt, SameLine}
use Rattle.mb_grammar.specs.Script.{IsEnd, least_of, Whole}
use Rattle.mb_grammar.specs.Labels.{param}
use Rattle.mb_grammar.specs.Parts.{Names, last_name, name_and, Params, no_params, params, params_comma}
use Rattle.mb_grammar.specs.Grammar.{Stands, Declarations, last_declared, then_declared, Declared, declared, declared_as, lets, BlockOf, block, Perhaps, absent, present, ForFirst, first_lets, first_expression, no_catch, catch_all, catch_named, Finally, no_finally, finally, Sub, sub_block, empty, expression, if_then, if_else, while_do, do_while, for_loop, returns, returns_with, throw, break, continue, try, Statement, sub, let_statement, const, declaration, Statements, finished, statement}
use Rattle.mb_parse_stmt.specs.declared.terminal.Terminal.{Terminal}
use Rattle.mb_parse_stmt.specs.declared.terminal.Terminal.TheVariants as p
use Rattle.mb_parse_stmt.specs.declared.machine.Stop.{Stop}
use Rattle.mb_parse_stmt.specs.declared.machine.Stop.TheVariants as st
use Rattle.mb_tree.specs.declared.tree.Label.{Label}
use Rattle.mb_parse_stmt.specs.declared.machine.Holder.{Holder}
use Rattle.mb_parse_stmt.specs.declared.machine.Holder.TheVariants as ho
use Rattle.mb_parse_stmt.specs.declared.machine.Declarer.{Declarer}
use Rattle.mb_parse_stmt.specs.declared.machine.Declarer.TheVariants as de
use Rattle.mb_parse_stmt.specs.declared.machine.Frame.{Frame}
use Rattle.mb_parse_stmt.specs.declared.machine.Frame.TheVariants as f
use Rattle.mb_parse_stmt.specs.declared.machine.Mode.{Mode}
use Rattle.mb_parse_stmt.specs.declared.machine.Mode.TheVariants as mo
use Rattle.mb_parse_stmt.specs.declared.machine.Move.{Move}
use Rattle.mb_parse_stmt.specs.declared.machine.Move.TheVariants.{Leaf, Enter, Swap, Build, Ask, Ended}
use Rattle.mb_parse_stmt.specs.machine.Terminals.{terminal_at}
use Rattle.mb_parse_stmt.specs.machine.Machine.{one, value, open_then, close_then, brace_then, semicolon_then, while_then, line_move, return_move, sub_move, function_move, begin_move, is_close, closes, close_list, then_move, try_move, catch_move, caught_move, first_move, test_move, last_move, alone_move, name_move, declaration_move, next_declaration, param_of, comma_of, catch_name_move, stops_of, State, Going, Ends, built, apply, move_at, Leads, here, after, read}
use Rattle.mb_parse_stmt.specs.machine.Covers.{IsStop}
use Rattle.mb_parse_stmt.proofs.Tokens.{means, word_there, role_there}
use Rattle.mb_parse_stmt.proofs.Begins.{starts, sub_opens, statement_opens, begins_sub, expression_sub, starts_return, starts_first, starts_test, starts_last, opens_on, closed_finally}
use Rattle.mb_parse_stmt.proofs.Begins as begin

-- sizes

pub perhaps_size : {ts : List Spanned} {b : Bool} {y : Roses} {i j : ℕ} → Perhaps ts b y i j → size y ≡ one b
perhaps_size absent = refl
perhaps_size (present d) = refl

pub first_size : {ts : List Spanned} {a : Bool} {x : Roses} {i j : ℕ} → ForFirst ts a x i j → size x ≡ one a
first_size (first_lets d) = refl
first_size (first_expression d) = perhaps_size d

pub for_gathers : (x y z : Roses) (d : Rose) (n : ℕ) (rs : List Rose) → n ≡ size x + size y + size z + 1 → gather n (d ∷ pushed z (pushed y (pushed x rs))) none ≡ Got (join x (join y (join z (more d none)))) rs
for_gathers x y z d n rs e =
    gather_pushed (more d none) (size z + (size y + size x)) n (pushed z (pushed y (pushed x rs))) none (omega (arith, e))
    ∙ gather_pushed z (size y + size x) (size z + (size y + size x)) (pushed y (pushed x rs)) (more d none) refl
    ∙ gather_pushed y (size x) (size y + size x) (pushed x rs) (join z (more d none)) refl
    ∙ gather_pushed x 0 (size x) rs (join y (join z (more d none))) (omega arith)

pub catch_gathers : (b : Rose) (x : Roses) (n : ℕ) (rs : List Rose) → n ≡ size x + 1 → gather n (pushed x (b ∷ rs)) none ≡ Got (more b (join x none)) rs
catch_gathers b x n rs e = gather_pushed x 1 n (b ∷ rs) none e

pub finally_gathers : (b d : Rose) (x : Roses) (n : ℕ) (rs : List Rose) → n ≡ size x + 2 → gather n (d ∷ pushed x (b ∷ rs)) none ≡ Got (more b (join x (more d none))) rs
finally_gathers b d x n rs e =
    gather_pushed (more d none) (size x + 1) n (pushed x (b ∷ rs)) none (omega (arith, e)) ∙ gather_pushed x 1 (size x + 1) (b ∷ rs) (more d none) refl

pub body_gathers : (parts body : Roses) (n : ℕ) (rs : List Rose) → n ≡ size parts + size body → gather n (pushed body (pushed parts rs)) none ≡ Got (join parts body) rs
body_gathers parts body n rs e = gathers body (size parts) n (pushed parts rs) (omega (arith, e)) ∙ gather_pushed parts 0 (size parts) rs body (omega arith)

-- moves

not_else : (x : Terminal) → (x ≡ p.Else → ⊥) → then_move x ≡ Build (bare k.If) 2 mo.Done 0
not_else p.Else h = absurd (h refl)
not_else _ h = refl

not_becomes : (o : Option Frame) (n : StrId) (x : Terminal) → (x ≡ p.Becomes → ⊥) → name_move o n x ≡ alone_move o n
not_becomes o n p.Becomes h = absurd (h refl)
not_becomes o n _ h = refl

not_finally : (named : Bool) (x : Terminal) → (x ≡ p.Finally → ⊥) → caught_move named x ≡ Build (bare (k.Try true named false)) (2 + one named) mo.Done 0
not_finally has p.Finally h = absurd (h refl)
not_finally has _ h = refl

module _ (stop : Stop) (ts : List Spanned) where
  step : {c : State} (fs : List Frame) (rs : List Rose) (mode : Mode) (at : ℕ) (move : Move) → move_at stop ts fs mode at ≡ move → Leads stop ts (apply move fs rs at) c → Leads stop ts (Going fs rs mode at) c
  step {c = c} fs rs mode at move e l = after (subst (λ m. Leads stop ts (apply m fs rs at) c) (sym e) l)

  turn : {c : State} (fs : List Frame) (rs : List Rose) (at : ℕ) (move move' : Move) → move ≡ move' → Leads stop ts (apply move' fs rs at) c → Leads stop ts (apply move fs rs at) c
  turn {c = c} fs rs at move move' e l = subst (λ m. Leads stop ts (apply m fs rs at) c) (sym e) l

  at_built : {c : State} (label : Label) (mode : Mode) (fs : List Frame) (rs rs' : List Rose) (at n : ℕ) (parts : Roses) → gather n rs' none ≡ Got parts rs → Leads stop ts (Going fs (node label parts ∷ rs) mode at) c → Leads stop ts (built label mode fs at (gather n rs' none)) c
  at_built {c = c} label mode fs rs rs' at n parts e l = subst (λ g. Leads stop ts (built label mode fs at g) c) (sym e) l

  asks : {c : State} {level : Level} {a : Rose} {es : List ℕ} {i j : ℕ} → Whole ts level a es i j → (fs : List Frame) (rs : List Rose) → Leads stop ts (Going fs (a ∷ rs) mo.Behind j) c → Leads stop ts (Going fs rs (mo.Expression level) i) c
  asks w fs rs l = after (read w l)

  whole : (level : Level) {a : Rose} {es : List ℕ} {i j : ℕ} {role : Role} → Stands ts (least_of level) a [] es i j → RoleAt ts j role → IsEnd level role → Whole ts level a es i j
  whole level d e h = record { stands = d; end = subst (IsEnd level) (sym e.is) h }

  -- tokens behind an expression

  by_semicolon : (j : ℕ) (move : Move) → RoleAt ts j r.Semicolon → semicolon_then (terminal_at ts j) move ≡ move
  by_semicolon j move e = ap (λ x. semicolon_then x move) (role_there e tt)

  by_close : (j : ℕ) (move : Move) → RoleAt ts j r.Close → close_then (terminal_at ts j) move ≡ move
  by_close j move e = ap (λ x. close_then x move) (role_there e tt)

  by_open : (j : ℕ) (move : Move) → RoleAt ts j r.Open → open_then (terminal_at ts j) move ≡ move
  by_open j move e = ap (λ x. open_then x move) (role_there e tt)

  by_brace : (j : ℕ) (move : Move) → RoleAt ts j r.OpenBrace → brace_then (terminal_at ts j) move ≡ move
  by_brace j move e = ap (λ x. brace_then x move) (role_there e tt)

  by_line : (j : ℕ) (frame : Frame) → SameLine ts j → line_move (after_line_at ts j) frame ≡ Enter frame value 1
  by_line j frame l = ap (λ x. line_move x frame) l.is

  -- lists

  list_closes : (holder : Holder) (n : ℕ) (fs : List Frame) (at : ℕ) → closes holder (terminal_at ts at) (stops_of stop (terminal_at ts at)) ≡ true → move_at stop ts (f.Statements holder n ∷ fs) mo.Statement at ≡ close_list holder n
  list_closes holder n fs at e = ap (λ b. if b then close_list holder n else begin_move (terminal_at ts at) (terminal_at ts (at + 1)) (terminal_at ts (at + 1 + 1)) (after_line_at ts (at + 1))) e

  list_goes : (holder : Holder) (n : ℕ) (fs : List Frame) (at : ℕ) → closes holder (terminal_at ts at) (stops_of stop (terminal_at ts at)) ≡ false → move_at stop ts (f.Statements holder n ∷ fs) mo.Statement at ≡ begin_move (terminal_at ts at) (terminal_at ts (at + 1)) (terminal_at ts (at + 1 + 1)) (after_line_at ts (at + 1))
  list_goes holder n fs at e = ap (λ b. if b then close_list holder n else begin_move (terminal_at ts at) (terminal_at ts (at + 1)) (terminal_at ts (at + 1 + 1)) (after_line_at ts (at + 1))) e

  follows : {parts : Roses} {m j : ℕ} (holder : Holder) → Statements ts parts m j → closes holder (terminal_at ts j) (stops_of stop (terminal_at ts j)) ≡ true → terminal_at ts m ≡ p.Finally → ⊥
  follows {j = j} holder finished q = closed_finally holder stop (terminal_at ts j) q
  follows {m = m} holder (statement d ds) q = begin.no_finally (terminal_at ts m) (statement_opens ts d)

  -- parameters

  reads_names : {c : State} {parts : Roses} {i j : ℕ} → Names ts parts i j → (name : StrId) (n : ℕ) (fs : List Frame) (rs : List Rose) → ((m : ℕ) → m + 1 ≡ n + size parts → Leads stop ts (Going (f.Params name m ∷ fs) (pushed parts rs) mo.Comma j) c) → Leads stop ts (Going (f.Params name n ∷ fs) rs mo.Param i) c
  reads_names {i = i} (last_name {n = x} e) name n fs rs l =
      step (f.Params name n ∷ fs) rs mo.Param i (Leaf (named k.Param x) mo.Comma 1) (ap (λ y. param_of name n y (terminal_at ts (i + 1))) (role_there e tt)) (l n (omega arith))
  reads_names {i = i} (name_and {n = x} e e' d) name n fs rs l =
      step (f.Params name n ∷ fs) rs mo.Param i (Leaf (named k.Param x) mo.Comma 1) (ap (λ y. param_of name n y (terminal_at ts (i + 1))) (role_there e tt))
      (step (f.Params name n ∷ fs) (param x ∷ rs) mo.Comma (i + 1) (Swap (f.Params name (n + 1)) mo.Param 1) (ap (λ y. comma_of name n y (terminal_at ts (i + 1 + 1))) (role_there e' tt))
      (reads_names d name (n + 1) fs (param x ∷ rs) (λ m q. l m (omega (arith, q)))))

  reads_params : {c : State} {parts : Roses} {i j : ℕ} → Params ts parts i j → RoleAt ts j r.Close → RoleAt ts (j + 1) r.OpenBrace → (name : StrId) (fs : List Frame) (rs : List Rose) → Leads stop ts (Going (f.Statements (ho.Body name (size parts)) 0 ∷ fs) (pushed parts rs) mo.Statement (j + 1 + 1)) c → Leads stop ts (Going (f.Params name 0 ∷ fs) rs mo.Param i) c
  reads_params {i = i} no_params u v name fs rs l =
      step (f.Params name 0 ∷ fs) rs mo.Param i (Swap (f.Statements (ho.Body name 0) 0) mo.Statement 2) (ap (λ y. param_of name 0 y (terminal_at ts (i + 1))) (role_there u tt) ∙ by_brace (i + 1) (Swap (f.Statements (ho.Body name 0) 0) mo.Statement 2) v) l
  reads_params {c = c} {parts = parts} {j = j} (params d) u v name fs rs l =
      reads_names d name 0 fs rs (λ m q.
      step (f.Params name m ∷ fs) (pushed parts rs) mo.Comma j (Swap (f.Statements (ho.Body name (m + 1)) 0) mo.Statement 2) (ap (λ y. comma_of name m y (terminal_at ts (j + 1))) (role_there u tt) ∙ by_brace (j + 1) (Swap (f.Statements (ho.Body name (m + 1)) 0) mo.Statement 2) v)
      (let w : size parts ≡ m + 1 = omega (arith, q) in subst (λ y. Leads stop ts (Going (f.Statements (ho.Body name y) 0 ∷ fs) (pushed parts rs) mo.Statement (j + 1 + 1)) c) w l))
  reads_params {c = c} {parts = parts} (params_comma {j = j} d e) u v name fs rs l =
      reads_names d name 0 fs rs (λ m q.
      step (f.Params name m ∷ fs) (pushed parts rs) mo.Comma j (Swap (f.Params name (m + 1)) mo.Param 1) (ap (λ y. comma_of name m y (terminal_at ts (j + 1))) (role_there e tt))
      (step (f.Params name (m + 1) ∷ fs) (pushed parts rs) mo.Param (j + 1) (Swap (f.Statements (ho.Body name (m + 1)) 0) mo.Statement 2) (ap (λ y. param_of name (m + 1) y (terminal_at ts (j + 1 + 1))) (role_there u tt) ∙ by_brace (j + 1 + 1) (Swap (f.Statements (ho.Body name (m + 1)) 0) mo.Statement 2) v)
      (let w : size parts ≡ m + 1 = omega (arith, q) in subst (λ y. Leads stop ts (Going (f.Statements (ho.Body name y) 0 ∷ fs) (pushed parts rs) mo.Statement (j + 1 + 1 + 1)) c) w l)))

  -- declarations

  reads_declared : {c : State} {fixed : Bool} {a : Rose} {i j : ℕ} → Declared ts fixed a i j → (declarer : Declarer) → (fixed ≡ false → (n : ℕ) (x : StrId) → alone_move (Some (f.Declarations declarer n)) x ≡ Leaf (named k.Decl x) mo.Declared 1) → IsEnd lv.Assign (role_at ts j) → (terminal_at ts j ≡ p.Becomes → ⊥) → (n : ℕ) (fs : List Frame) (rs : List Rose) → Leads stop ts (Going (f.Declarations declarer n ∷ fs) (a ∷ rs) mo.Declared j) c → Leads stop ts (Going (f.Declarations declarer n ∷ fs) rs mo.Declaration i) c
  reads_declared {i = i} (declared {n = x} e) declarer h u v n fs rs l =
      step (f.Declarations declarer n ∷ fs) rs mo.Declaration i (Leaf (named k.Decl x) mo.Declared 1) (ap (λ y. declaration_move (Some (f.Declarations declarer n)) y (terminal_at ts (i + 1))) (role_there e tt) ∙ not_becomes (Some (f.Declarations declarer n)) x (terminal_at ts (i + 1)) v ∙ h refl n x) l
  reads_declared {i = i} (declared_as {n = x} e b d) declarer h u v n fs rs l =
      step (f.Declarations declarer n ∷ fs) rs mo.Declaration i (Enter (f.Value x) (mo.Expression lv.Assign) 2) (ap (λ y. declaration_move (Some (f.Declarations declarer n)) y (terminal_at ts (i + 1))) (role_there e tt) ∙ ap (name_move (Some (f.Declarations declarer n)) x) (role_there b tt))
      (asks (record { stands = d; end = u }) (f.Value x ∷ f.Declarations declarer n ∷ fs) rs (after l))

  reads_declarations : {c : State} {fixed : Bool} {parts : Roses} {i j : ℕ} → Declarations ts fixed parts i j → (declarer : Declarer) → (fixed ≡ false → (n : ℕ) (x : StrId) → alone_move (Some (f.Declarations declarer n)) x ≡ Leaf (named k.Decl x) mo.Declared 1) → RoleAt ts j r.Semicolon → (n : ℕ) (fs : List Frame) (rs : List Rose) → ((m : ℕ) → m + 1 ≡ n + size parts → Leads stop ts (Going (f.Declarations declarer m ∷ fs) (pushed parts rs) mo.Declared j) c) → Leads stop ts (Going (f.Declarations declarer n ∷ fs) rs mo.Declaration i) c
  reads_declarations {j = j} (last_declared d) declarer h s n fs rs l =
      reads_declared d declarer h (subst (IsEnd lv.Assign) (sym s.is) tt) (λ q. let w = role_there s tt in cc) n fs rs (l n (omega arith))
  reads_declarations (then_declared {a = a} {m = m} d e d') declarer h s n fs rs l =
      reads_declared d declarer h (subst (IsEnd lv.Assign) (sym e.is) tt) (λ q. let w = role_there e tt in cc) n fs rs
      (step (f.Declarations declarer n ∷ fs) (a ∷ rs) mo.Declared m (Swap (f.Declarations declarer (n + 1)) mo.Declaration 1) (ap (next_declaration declarer n) (role_there e tt))
      (reads_declarations d' declarer h s (n + 1) fs (a ∷ rs) (λ y q. l y (omega (arith, q)))))

  -- the head of a for

  reads_first : {c : State} {a : Bool} {x : Roses} {i j : ℕ} → ForFirst ts a x i j → RoleAt ts j r.Semicolon → (fs : List Frame) (rs : List Rose) → Leads stop ts (Going (f.ForTest a ∷ fs) (pushed x rs) mo.Part (j + 1)) c → Leads stop ts (Going (f.ForFirst ∷ fs) rs mo.Part i) c
  reads_first {i = i} {j = j} (first_lets (lets {parts = parts} e d)) s fs rs l =
      step (f.ForFirst ∷ fs) rs mo.Part i (Enter (f.Declarations de.ForLet 0) mo.Declaration 1) (ap first_move (word_there e))
      (reads_declarations d de.ForLet (λ q n x. refl) s 0 (f.ForFirst ∷ fs) rs (λ m q.
      step (f.Declarations de.ForLet m ∷ f.ForFirst ∷ fs) (pushed parts rs) mo.Declared j (Build (bare k.Let) (m + 1) mo.Behind 0) (ap (next_declaration de.ForLet m) (role_there s tt))
      (at_built (bare k.Let) mo.Behind (f.ForFirst ∷ fs) rs (pushed parts rs) j (m + 1) parts (gathers parts 0 (m + 1) rs (omega (arith, q)))
      (step (f.ForFirst ∷ fs) (node (bare k.Let) parts ∷ rs) mo.Behind j (Swap (f.ForTest true) mo.Part 1) (by_semicolon j (Swap (f.ForTest true) mo.Part 1) s) l))))
  reads_first {i = i} (first_expression absent) s fs rs l =
      step (f.ForFirst ∷ fs) rs mo.Part i (Swap (f.ForTest false) mo.Part 1) (ap first_move (role_there s tt)) l
  reads_first {i = i} {j = j} (first_expression (present {a = a} d)) s fs rs l =
      step (f.ForFirst ∷ fs) rs mo.Part i (Ask lv.Expr) (starts_first (terminal_at ts i) (starts d))
      (read (whole lv.Expr d s tt)
      (step (f.ForFirst ∷ fs) (a ∷ rs) mo.Behind j (Swap (f.ForTest true) mo.Part 1) (by_semicolon j (Swap (f.ForTest true) mo.Part 1) s) l))

  reads_test : {c : State} {b : Bool} {y : Roses} {i j : ℕ} (a : Bool) → Perhaps ts b y i j → RoleAt ts j r.Semicolon → (fs : List Frame) (rs : List Rose) → Leads stop ts (Going (f.ForLast a b ∷ fs) (pushed y rs) mo.Part (j + 1)) c → Leads stop ts (Going (f.ForTest a ∷ fs) rs mo.Part i) c
  reads_test {i = i} a absent s fs rs l =
      step (f.ForTest a ∷ fs) rs mo.Part i (Swap (f.ForLast a false) mo.Part 1) (ap (test_move a) (role_there s tt)) l
  reads_test {i = i} {j = j} a (present {a = x} d) s fs rs l =
      step (f.ForTest a ∷ fs) rs mo.Part i (Ask lv.Expr) (starts_test a (terminal_at ts i) (starts d))
      (read (whole lv.Expr d s tt)
      (step (f.ForTest a ∷ fs) (x ∷ rs) mo.Behind j (Swap (f.ForLast a true) mo.Part 1) (by_semicolon j (Swap (f.ForLast a true) mo.Part 1) s) l))

  reads_last : {c : State} {b' : Bool} {z : Roses} {i j : ℕ} (a b : Bool) → Perhaps ts b' z i j → RoleAt ts j r.Close → (fs : List Frame) (rs : List Rose) → Leads stop ts (Going (f.ForBody a b b' ∷ fs) (pushed z rs) mo.Sub (j + 1)) c → Leads stop ts (Going (f.ForLast a b ∷ fs) rs mo.Part i) c
  reads_last {i = i} a b absent s fs rs l =
      step (f.ForLast a b ∷ fs) rs mo.Part i (Swap (f.ForBody a b false) mo.Sub 1) (ap (last_move a b) (role_there s tt)) l
  reads_last {i = i} {j = j} a b (present {a = x} d) s fs rs l =
      step (f.ForLast a b ∷ fs) rs mo.Part i (Ask lv.Expr) (starts_last a b (terminal_at ts i) (starts d))
      (read (whole lv.Expr d s tt)
      (step (f.ForLast a b ∷ fs) (x ∷ rs) mo.Behind j (Swap (f.ForBody a b true) mo.Sub 1) (by_close j (Swap (f.ForBody a b true) mo.Sub 1) s) l))

  -- blocks

  opened : {a : Rose} {i j : ℕ} → BlockOf ts a i j → RoleAt ts i r.OpenBrace
  opened (block o d e) = o

  braced : {c d : State} {i : ℕ} → RoleAt ts i r.OpenBrace → (fs : List Frame) (rs : List Rose) → (Leads stop ts d c → Leads stop ts (Going (f.Statements ho.Block 0 ∷ fs) rs mo.Statement (i + 1)) c) → Leads stop ts d c → Leads stop ts (Going fs rs mo.Brace i) c
  braced {i = i} o fs rs goes l = step fs rs mo.Brace i (Enter (f.Statements ho.Block 0) mo.Statement 1) (by_brace i (Enter (f.Statements ho.Block 0) mo.Statement 1) o) (goes l)

  mutual
    reads_list : {c : State} {parts : Roses} {i j : ℕ} → Statements ts parts i j → (holder : Holder) (n : ℕ) (fs : List Frame) (rs : List Rose) → closes holder (terminal_at ts j) (stops_of stop (terminal_at ts j)) ≡ true → ((m : ℕ) → m ≡ n + size parts → Leads stop ts (Going (f.Statements holder m ∷ fs) (pushed parts rs) mo.Statement j) c) → Leads stop ts (Going (f.Statements holder n ∷ fs) rs mo.Statement i) c
    reads_list finished holder n fs rs q l = l n (omega arith)
    reads_list {i = i} (statement {a = a} d ds) holder n fs rs q l =
        step (f.Statements holder n ∷ fs) rs mo.Statement i (begin_move (terminal_at ts i) (terminal_at ts (i + 1)) (terminal_at ts (i + 1 + 1)) (after_line_at ts (i + 1))) (list_goes holder n fs i (opens_on holder stop (terminal_at ts i) (statement_opens ts d)))
        (reads_statement d (follows holder ds q) (f.Statements holder n ∷ fs) rs
        (after (reads_list ds holder (n + 1) fs (a ∷ rs) q (λ m e. l m (omega (arith, e))))))

    reads_block : {c : State} {a : Rose} {i j : ℕ} → BlockOf ts a i j → (fs : List Frame) (rs : List Rose) → Leads stop ts (Going fs (a ∷ rs) mo.Done j) c → Leads stop ts (Going (f.Statements ho.Block 0 ∷ fs) rs mo.Statement (i + 1)) c
    reads_block (block {parts = parts} {j = j} o d e) fs rs l =
        let q = ap is_close (role_there e tt) in
        reads_list d ho.Block 0 fs rs q (λ m v.
        step (f.Statements ho.Block m ∷ fs) (pushed parts rs) mo.Statement j (Build (bare k.Block) m mo.Done 1) (list_closes ho.Block m fs j q)
        (at_built (bare k.Block) mo.Done fs rs (pushed parts rs) (j + 1) m parts (gathers parts 0 m rs (omega (arith, v))) l))

    reads_ended : {c : State} {ended : Bool} {y : Roses} {n j : ℕ} → Finally ts ended y n j → (terminal_at ts j ≡ p.Finally → ⊥) → (named : Bool) (b : Rose) (x : Roses) (fs : List Frame) (rs : List Rose) → size x ≡ 1 + one named → Leads stop ts (Going fs (node (bare (k.Try true named ended)) (more b (join x y)) ∷ rs) mo.Done j) c → Leads stop ts (Going (f.CatchBlock named ∷ fs) (pushed x (b ∷ rs)) mo.Done n) c
    reads_ended {n = n} no_finally nf has b x fs rs u l =
        step (f.CatchBlock has ∷ fs) (pushed x (b ∷ rs)) mo.Done n (Build (bare (k.Try true has false)) (2 + one has) mo.Done 0) (not_finally has (terminal_at ts n) nf)
        (at_built (bare (k.Try true has false)) mo.Done fs rs (pushed x (b ∷ rs)) n (2 + one has) (more b (join x none)) (catch_gathers b x (2 + one has) rs (omega (arith, u))) l)
    reads_ended {n = n} {j = j} (finally {b = d} e d') nf has b x fs rs u l =
        step (f.CatchBlock has ∷ fs) (pushed x (b ∷ rs)) mo.Done n (Swap (f.FinallyBlock true has) mo.Brace 1) (ap (caught_move has) (word_there e))
        (braced (opened d') (f.FinallyBlock true has ∷ fs) (pushed x (b ∷ rs)) (reads_block d' (f.FinallyBlock true has ∷ fs) (pushed x (b ∷ rs)))
        (after (at_built (bare (k.Try true has true)) mo.Done fs rs (d ∷ pushed x (b ∷ rs)) j (2 + 1 + one has) (more b (join x (more d none))) (finally_gathers b d x (2 + 1 + one has) rs (omega (arith, u))) l)))

    reads_alone : {c : State} {ended : Bool} {y : Roses} {n j : ℕ} → Finally ts ended y n j → (ended ≡ false → ⊥) → (b : Rose) (fs : List Frame) (rs : List Rose) → Leads stop ts (Going fs (node (bare (k.Try false false ended)) (more b y) ∷ rs) mo.Done j) c → Leads stop ts (Going (f.TryBlock ∷ fs) (b ∷ rs) mo.Done n) c
    reads_alone no_finally some b fs rs l = absurd (some refl)
    reads_alone {n = n} (finally {b = d} e d') some b fs rs l =
        step (f.TryBlock ∷ fs) (b ∷ rs) mo.Done n (Swap (f.FinallyBlock false false) mo.Brace 1) (ap (λ y. try_move y (terminal_at ts (n + 1))) (word_there e))
        (braced (opened d') (f.FinallyBlock false false ∷ fs) (b ∷ rs) (reads_block d' (f.FinallyBlock false false ∷ fs) (b ∷ rs)) (after l))

    reads_sub : {c : State} {a : Rose} {i j : ℕ} → Sub ts a i j → (terminal_at ts j ≡ p.Finally → ⊥) → (fs : List Frame) (rs : List Rose) → Leads stop ts (Going fs (a ∷ rs) mo.Done j) c → Leads stop ts (apply (sub_move (terminal_at ts i) (terminal_at ts (i + 1)) (after_line_at ts (i + 1))) fs rs i) c
    reads_sub {i = i} (sub_block d) nf fs rs l =
        turn fs rs i (sub_move (terminal_at ts i) (terminal_at ts (i + 1)) (after_line_at ts (i + 1))) (Enter (f.Statements ho.Block 0) mo.Statement 1) (ap (λ y. sub_move y (terminal_at ts (i + 1)) (after_line_at ts (i + 1))) (role_there (opened d) tt)) (reads_block d fs rs l)
    reads_sub {i = i} (empty e) nf fs rs l =
        turn fs rs i (sub_move (terminal_at ts i) (terminal_at ts (i + 1)) (after_line_at ts (i + 1))) (Leaf (bare k.Empty) mo.Done 1) (ap (λ y. sub_move y (terminal_at ts (i + 1)) (after_line_at ts (i + 1))) (role_there e tt)) l
    reads_sub {i = i} (expression {a = a} {j = j} n n' d e) nf fs rs l =
        turn fs rs i (sub_move (terminal_at ts i) (terminal_at ts (i + 1)) (after_line_at ts (i + 1))) (Enter f.Expression value 0) (expression_sub (terminal_at ts i) (terminal_at ts (i + 1)) (after_line_at ts (i + 1)) (starts d) (λ q. n.differs ((means ts i p.OpenBrace q).is)) (λ q. n'.differs ((means ts i p.Function q).is)))
        (asks (whole lv.Expr d e tt) (f.Expression ∷ fs) rs
        (step (f.Expression ∷ fs) (a ∷ rs) mo.Behind j (Build (bare k.ExprStmt) 1 mo.Done 1) (by_semicolon j (Build (bare k.ExprStmt) 1 mo.Done 1) e) l))
    reads_sub {i = i} {j = j} (if_then {a = a} {b = b} {m = m} e o d u b' x) nf fs rs l =
        turn fs rs i (sub_move (terminal_at ts i) (terminal_at ts (i + 1)) (after_line_at ts (i + 1))) (Enter f.IfTest value 2) (ap (λ y. sub_move y (terminal_at ts (i + 1)) (after_line_at ts (i + 1))) (word_there e) ∙ by_open (i + 1) (Enter f.IfTest value 2) o)
        (asks (whole lv.Expr d u tt) (f.IfTest ∷ fs) rs
        (step (f.IfTest ∷ fs) (a ∷ rs) mo.Behind m (Swap f.IfThen mo.Sub 1) (by_close m (Swap f.IfThen mo.Sub 1) u)
        (after (reads_sub b' nf (f.IfThen ∷ fs) (a ∷ rs)
        (step (f.IfThen ∷ fs) (b ∷ a ∷ rs) mo.Done j (Build (bare k.If) 2 mo.Done 0) (not_else (terminal_at ts j) (λ q. x (means ts j p.Else q))) l)))))
    reads_sub {i = i} {j = j} (if_else {a = a} {b = b} {m = m} {n = n} e o d u b' x b'') nf fs rs l =
        turn fs rs i (sub_move (terminal_at ts i) (terminal_at ts (i + 1)) (after_line_at ts (i + 1))) (Enter f.IfTest value 2) (ap (λ y. sub_move y (terminal_at ts (i + 1)) (after_line_at ts (i + 1))) (word_there e) ∙ by_open (i + 1) (Enter f.IfTest value 2) o)
        (asks (whole lv.Expr d u tt) (f.IfTest ∷ fs) rs
        (step (f.IfTest ∷ fs) (a ∷ rs) mo.Behind m (Swap f.IfThen mo.Sub 1) (by_close m (Swap f.IfThen mo.Sub 1) u)
        (after (reads_sub b' (λ q. let w = word_there x in cc) (f.IfThen ∷ fs) (a ∷ rs)
        (step (f.IfThen ∷ fs) (b ∷ a ∷ rs) mo.Done n (Swap f.IfElse mo.Sub 1) (ap then_move (word_there x))
        (after (reads_sub b'' nf (f.IfElse ∷ fs) (b ∷ a ∷ rs) (after l))))))))
    reads_sub {i = i} (while_do {a = a} {m = m} e o d u b) nf fs rs l =
        turn fs rs i (sub_move (terminal_at ts i) (terminal_at ts (i + 1)) (after_line_at ts (i + 1))) (Enter f.WhileTest value 2) (ap (λ y. sub_move y (terminal_at ts (i + 1)) (after_line_at ts (i + 1))) (word_there e) ∙ by_open (i + 1) (Enter f.WhileTest value 2) o)
        (asks (whole lv.Expr d u tt) (f.WhileTest ∷ fs) rs
        (step (f.WhileTest ∷ fs) (a ∷ rs) mo.Behind m (Swap f.WhileBody mo.Sub 1) (by_close m (Swap f.WhileBody mo.Sub 1) u)
        (after (reads_sub b nf (f.WhileBody ∷ fs) (a ∷ rs) (after l)))))
    reads_sub {i = i} (do_while {a = a} {b = b} {m = m} {j = j} e b' e' o d u s) nf fs rs l =
        turn fs rs i (sub_move (terminal_at ts i) (terminal_at ts (i + 1)) (after_line_at ts (i + 1))) (Enter f.DoBody mo.Sub 1) (ap (λ y. sub_move y (terminal_at ts (i + 1)) (after_line_at ts (i + 1))) (word_there e))
        (after (reads_sub b' (λ q. let w = word_there e' in cc) (f.DoBody ∷ fs) rs
        (step (f.DoBody ∷ fs) (b ∷ rs) mo.Done m (Swap f.DoTest value 2) (ap (λ y. while_then y (open_then (terminal_at ts (m + 1)) (Swap f.DoTest value 2))) (word_there e') ∙ by_open (m + 1) (Swap f.DoTest value 2) o)
        (asks (whole lv.Expr d u tt) (f.DoTest ∷ fs) (b ∷ rs)
        (step (f.DoTest ∷ fs) (a ∷ b ∷ rs) mo.Behind j (Build (bare k.DoWhile) 2 mo.Done 2) (by_close j (semicolon_then (terminal_at ts (j + 1)) (Build (bare k.DoWhile) 2 mo.Done 2)) u ∙ by_semicolon (j + 1) (Build (bare k.DoWhile) 2 mo.Done 2) s) l)))))
    reads_sub {i = i} {j = j} (for_loop {a = a} {b = b} {c = b'} {x = x} {y = y} {z = z} {d = d} {o = o'} e o x' s y' s' z' u d') nf fs rs l =
        turn fs rs i (sub_move (terminal_at ts i) (terminal_at ts (i + 1)) (after_line_at ts (i + 1))) (Enter f.ForFirst mo.Part 2) (ap (λ v. sub_move v (terminal_at ts (i + 1)) (after_line_at ts (i + 1))) (word_there e) ∙ by_open (i + 1) (Enter f.ForFirst mo.Part 2) o)
        (reads_first x' s fs rs
        (reads_test a y' s' fs (pushed x rs)
        (reads_last a b z' u fs (pushed y (pushed x rs))
        (after (reads_sub d' nf (f.ForBody a b b' ∷ fs) (pushed z (pushed y (pushed x rs)))
        (after (at_built (bare (k.For a b b')) mo.Done fs rs (d ∷ pushed z (pushed y (pushed x rs))) j (one a + one b + one b' + 1) (join x (join y (join z (more d none)))) (for_gathers x y z d (one a + one b + one b' + 1) rs (omega (arith, first_size x', perhaps_size y', perhaps_size z'))) l)))))))
    reads_sub {i = i} (returns e s) nf fs rs l =
        turn fs rs i (sub_move (terminal_at ts i) (terminal_at ts (i + 1)) (after_line_at ts (i + 1))) (Leaf (bare k.Return) mo.Done 2) (ap (λ y. sub_move y (terminal_at ts (i + 1)) (after_line_at ts (i + 1))) (word_there e) ∙ ap (λ y. return_move y (after_line_at ts (i + 1))) (role_there s tt)) l
    reads_sub {i = i} (returns_with {a = a} {j = j} e n d s) nf fs rs l =
        turn fs rs i (sub_move (terminal_at ts i) (terminal_at ts (i + 1)) (after_line_at ts (i + 1))) (Enter f.Return value 1) (ap (λ y. sub_move y (terminal_at ts (i + 1)) (after_line_at ts (i + 1))) (word_there e) ∙ starts_return (terminal_at ts (i + 1)) (after_line_at ts (i + 1)) (starts d) ∙ by_line (i + 1) f.Return n)
        (asks (whole lv.Expr d s tt) (f.Return ∷ fs) rs
        (step (f.Return ∷ fs) (a ∷ rs) mo.Behind j (Build (bare k.Return) 1 mo.Done 1) (by_semicolon j (Build (bare k.Return) 1 mo.Done 1) s) l))
    reads_sub {i = i} (throw {a = a} {j = j} e n d s) nf fs rs l =
        turn fs rs i (sub_move (terminal_at ts i) (terminal_at ts (i + 1)) (after_line_at ts (i + 1))) (Enter f.Throw value 1) (ap (λ y. sub_move y (terminal_at ts (i + 1)) (after_line_at ts (i + 1))) (word_there e) ∙ by_line (i + 1) f.Throw n)
        (asks (whole lv.Expr d s tt) (f.Throw ∷ fs) rs
        (step (f.Throw ∷ fs) (a ∷ rs) mo.Behind j (Build (bare k.Throw) 1 mo.Done 1) (by_semicolon j (Build (bare k.Throw) 1 mo.Done 1) s) l))
    reads_sub {i = i} (break e s) nf fs rs l =
        turn fs rs i (sub_move (terminal_at ts i) (terminal_at ts (i + 1)) (after_line_at ts (i + 1))) (Leaf (bare k.Break) mo.Done 2) (ap (λ y. sub_move y (terminal_at ts (i + 1)) (after_line_at ts (i + 1))) (word_there e) ∙ by_semicolon (i + 1) (Leaf (bare k.Break) mo.Done 2) s) l
    reads_sub {i = i} (continue e s) nf fs rs l =
        turn fs rs i (sub_move (terminal_at ts i) (terminal_at ts (i + 1)) (after_line_at ts (i + 1))) (Leaf (bare k.Continue) mo.Done 2) (ap (λ y. sub_move y (terminal_at ts (i + 1)) (after_line_at ts (i + 1))) (word_there e) ∙ by_semicolon (i + 1) (Leaf (bare k.Continue) mo.Done 2) s) l
    reads_sub {i = i} (try {b = b} e b' no_catch y some) nf fs rs l =
        turn fs rs i (sub_move (terminal_at ts i) (terminal_at ts (i + 1)) (after_line_at ts (i + 1))) (Enter f.TryBlock mo.Brace 1) (ap (λ v. sub_move v (terminal_at ts (i + 1)) (after_line_at ts (i + 1))) (word_there e))
        (braced (opened b') (f.TryBlock ∷ fs) rs (reads_block b' (f.TryBlock ∷ fs) rs)
        (reads_alone y (some refl) b fs rs l))
    reads_sub {i = i} (try {b = b} {m = m} e b' (catch_all {b = d} e' d') y some) nf fs rs l =
        turn fs rs i (sub_move (terminal_at ts i) (terminal_at ts (i + 1)) (after_line_at ts (i + 1))) (Enter f.TryBlock mo.Brace 1) (ap (λ v. sub_move v (terminal_at ts (i + 1)) (after_line_at ts (i + 1))) (word_there e))
        (braced (opened b') (f.TryBlock ∷ fs) rs (reads_block b' (f.TryBlock ∷ fs) rs)
        (step (f.TryBlock ∷ fs) (b ∷ rs) mo.Done m (Swap (f.CatchBlock false) mo.Brace 1) (ap (λ y. try_move y (terminal_at ts (m + 1))) (word_there e') ∙ ap catch_move (role_there (opened d') tt))
        (braced (opened d') (f.CatchBlock false ∷ fs) (b ∷ rs) (reads_block d' (f.CatchBlock false ∷ fs) (b ∷ rs))
        (reads_ended y nf false b (more d none) fs rs refl l))))
    reads_sub {i = i} (try {b = b} {m = m} e b' (catch_named {n = z} {b = d} e' o n u d') y some) nf fs rs l =
        turn fs rs i (sub_move (terminal_at ts i) (terminal_at ts (i + 1)) (after_line_at ts (i + 1))) (Enter f.TryBlock mo.Brace 1) (ap (λ v. sub_move v (terminal_at ts (i + 1)) (after_line_at ts (i + 1))) (word_there e))
        (braced (opened b') (f.TryBlock ∷ fs) rs (reads_block b' (f.TryBlock ∷ fs) rs)
        (step (f.TryBlock ∷ fs) (b ∷ rs) mo.Done m (Swap (f.CatchBlock true) mo.CatchName 2) (ap (λ y. try_move y (terminal_at ts (m + 1))) (word_there e') ∙ ap catch_move (role_there o tt))
        (step (f.CatchBlock true ∷ fs) (b ∷ rs) mo.CatchName (m + 1 + 1) (Leaf (named k.Param z) mo.Brace 2) (ap (λ y. catch_name_move y (terminal_at ts (m + 1 + 1 + 1))) (role_there n tt) ∙ by_close (m + 1 + 1 + 1) (Leaf (named k.Param z) mo.Brace 2) u)
        (braced (opened d') (f.CatchBlock true ∷ fs) (param z ∷ b ∷ rs) (reads_block d' (f.CatchBlock true ∷ fs) (param z ∷ b ∷ rs))
        (reads_ended y nf true b (more (param z) (more d none)) fs rs refl l)))))

    reads_statement : {c : State} {a : Rose} {i j : ℕ} → Statement ts a i j → (terminal_at ts j ≡ p.Finally → ⊥) → (fs : List Frame) (rs : List Rose) → Leads stop ts (Going fs (a ∷ rs) mo.Done j) c → Leads stop ts (apply (begin_move (terminal_at ts i) (terminal_at ts (i + 1)) (terminal_at ts (i + 1 + 1)) (after_line_at ts (i + 1))) fs rs i) c
    reads_statement {i = i} (sub d) nf fs rs l =
        turn fs rs i (begin_move (terminal_at ts i) (terminal_at ts (i + 1)) (terminal_at ts (i + 1 + 1)) (after_line_at ts (i + 1))) (sub_move (terminal_at ts i) (terminal_at ts (i + 1)) (after_line_at ts (i + 1))) (begins_sub (terminal_at ts i) (terminal_at ts (i + 1)) (terminal_at ts (i + 1 + 1)) (after_line_at ts (i + 1)) (sub_opens ts d)) (reads_sub d nf fs rs l)
    reads_statement {i = i} (let_statement {j = j} (lets {parts = parts} e d) s) nf fs rs l =
        turn fs rs i (begin_move (terminal_at ts i) (terminal_at ts (i + 1)) (terminal_at ts (i + 1 + 1)) (after_line_at ts (i + 1))) (Enter (f.Declarations de.Let 0) mo.Declaration 1) (ap (λ v. begin_move v (terminal_at ts (i + 1)) (terminal_at ts (i + 1 + 1)) (after_line_at ts (i + 1))) (word_there e))
        (reads_declarations d de.Let (λ q n x. refl) s 0 fs rs (λ m q.
        step (f.Declarations de.Let m ∷ fs) (pushed parts rs) mo.Declared j (Build (bare k.Let) (m + 1) mo.Done 1) (ap (next_declaration de.Let m) (role_there s tt))
        (at_built (bare k.Let) mo.Done fs rs (pushed parts rs) (j + 1) (m + 1) parts (gathers parts 0 (m + 1) rs (omega (arith, q))) l)))
    reads_statement {i = i} (const {parts = parts} {j = j} e d s) nf fs rs l =
        turn fs rs i (begin_move (terminal_at ts i) (terminal_at ts (i + 1)) (terminal_at ts (i + 1 + 1)) (after_line_at ts (i + 1))) (Enter (f.Declarations de.Const 0) mo.Declaration 1) (ap (λ v. begin_move v (terminal_at ts (i + 1)) (terminal_at ts (i + 1 + 1)) (after_line_at ts (i + 1))) (word_there e))
        (reads_declarations d de.Const (λ q n x. cc) s 0 fs rs (λ m q.
        step (f.Declarations de.Const m ∷ fs) (pushed parts rs) mo.Declared j (Build (bare k.Const) (m + 1) mo.Done 1) (ap (next_declaration de.Const m) (role_there s tt))
        (at_built (bare k.Const) mo.Done fs rs (pushed parts rs) (j + 1) (m + 1) parts (gathers parts 0 (m + 1) rs (omega (arith, q))) l)))
    reads_statement {i = i} (declaration {n = name} {parts = parts} {body = body} {m = m} {j = j} e n o d u v ss w) nf fs rs l =
        let q = ap is_close (role_there w tt) in
        turn fs rs i (begin_move (terminal_at ts i) (terminal_at ts (i + 1)) (terminal_at ts (i + 1 + 1)) (after_line_at ts (i + 1))) (Enter (f.Params name 0) mo.Param 3) (ap (λ y. begin_move y (terminal_at ts (i + 1)) (terminal_at ts (i + 1 + 1)) (after_line_at ts (i + 1))) (role_there e tt) ∙ ap (λ y. function_move y (terminal_at ts (i + 1 + 1))) (role_there n tt) ∙ by_open (i + 1 + 1) (Enter (f.Params name 0) mo.Param 3) o)
        (reads_params d u v name fs rs
        (reads_list ss (ho.Body name (size parts)) 0 fs (pushed parts rs) q (λ y z.
        step (f.Statements (ho.Body name (size parts)) y ∷ fs) (pushed body (pushed parts rs)) mo.Statement j (Build (named (k.FunctionDecl (size parts)) name) (size parts + y) mo.Done 1) (list_closes (ho.Body name (size parts)) y fs j q)
        (at_built (named (k.FunctionDecl (size parts)) name) mo.Done fs rs (pushed body (pushed parts rs)) (j + 1) (size parts + y) (join parts body) (body_gathers parts body (size parts + y) rs (omega (arith, z))) l))))

  pub stop_is : (k : ℕ) → IsStop stop ts k → closes ho.Top (terminal_at ts k) (stops_of stop (terminal_at ts k)) ≡ true
  stop_is k h = each stop h
    where
      each : (s : Stop) → IsStop s ts k → stops_of s (terminal_at ts k) ≡ true
      each st.End e = ap (stops_of st.End) e
      each st.Brace e = ap (stops_of st.Brace) (role_there e tt)

  -- all statements of a level
  pub level_reads : {parts : Roses} {start k : ℕ} → Statements ts parts start k → IsStop stop ts k → Leads stop ts (Going (f.Statements ho.Top 0 ∷ []) [] mo.Statement start) (Ends (pushed parts []) k)
  level_reads {parts = parts} {k = k} d h =
      let q = stop_is k h in
      reads_list d ho.Top 0 [] [] q (λ m e. step (f.Statements ho.Top m ∷ []) (pushed parts []) mo.Statement k Ended (list_closes ho.Top m [] k q) here)
