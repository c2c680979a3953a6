-- What the parser reads stands in the tokens.
use Rattle.std.proofs.Common.{◌≡◌, ℕ, ◌+◌, Bool, true, false, List, [], ◌∷◌, refl, sym, ap, subst, ◌∙◌, arith}
use Rattle.std.specs.Prelude.{if◌then◌else◌}
use Rattle.mb_base.specs.declared.value.StrId.{StrId}
use Rattle.mb_token.specs.declared.token.Spanned.{Spanned}
use Rattle.mb_token.specs.declared.word.Word.TheVariants as w
use Rattle.mb_tree.specs.declared.kind.Kind.TheVariants as k
use Rattle.mb_tree.specs.Roses.{Rose, Roses, node, none, more, bare, named, size, join}
use Rattle.mb_tree.specs.machine.Operands.{pushed, Gathered, Got, gather}
use Rattle.mb_tree.proofs.Written.{gathers}
use Rattle.mb_grammar.specs.declared.role.Role.TheVariants as r
use Rattle.mb_grammar.specs.declared.level.Level.{Level}
use Rattle.mb_grammar.specs.declared.level.Level.TheVariants as lv
use Rattle.mb_grammar.specs.Tokens.{after_line_at, RoleAt, SameLine, WordAt}
use Rattle.mb_grammar.specs.Script.{Whole}
use Rattle.mb_grammar.specs.Labels.{param}
use Rattle.mb_grammar.specs.Parts.{Params}
use Rattle.mb_grammar.specs.Grammar.{Stands, last_declared, Declared, declared, declared_as, lets, BlockOf, block, Perhaps, absent, present, first_lets, first_expression, no_catch, no_finally, finally, Sub, sub_block, empty, expression, if_then, if_else, while_do, do_while, for_loop, returns, returns_with, throw, break, continue, try, Statement, sub, let_statement, const, declaration, Statements, finished}
use Rattle.mb_parse_stmt.specs.declared.terminal.Terminal.{Terminal}
use Rattle.mb_parse_stmt.specs.declared.terminal.Terminal.TheVariants as p
use Rattle.mb_parse_stmt.specs.declared.machine.Stop.{Stop}
use Rattle.mb_tree.specs.declared.tree.Label.{Label}
use Rattle.mb_parse_stmt.specs.declared.machine.Holder.TheVariants as ho
use Rattle.mb_parse_stmt.specs.declared.machine.Declarer.TheVariants as de
use Rattle.mb_parse_stmt.specs.declared.machine.Frame.{Frame}
use Rattle.mb_parse_stmt.specs.declared.machine.Frame.TheVariants as f
use Rattle.mb_parse_stmt.specs.declared.machine.Mode.{Mode}
use Rattle.mb_parse_stmt.specs.declared.machine.Mode.TheVariants as mo
use Rattle.mb_parse_stmt.specs.declared.machine.Move.{Move}
use Rattle.mb_parse_stmt.specs.declared.machine.Move.TheVariants.{Enter, Swap, Build, Leaf}
use Rattle.mb_parse_stmt.specs.machine.Terminals.{terminal_at}
use Rattle.mb_parse_stmt.specs.machine.Machine.{one, value, open_then, close_then, brace_then, semicolon_then, while_then, line_move, return_move, sub_move, function_move, begin_move, is_close, close_list, then_move, try_move, catch_move, caught_move, done_move, behind_move, first_move, test_move, last_move, part_move, alone_move, name_move, declaration_move, declared_move, body_move, param_move, comma_move, catch_name_move, stops_of, Going, built, apply, move_at}
use Rattle.mb_tree.specs.machine.Stack.{top}
use Rattle.mb_parse_stmt.specs.machine.Covers.{Counted, no_statement, one_more, no_comma, comma_more, no_name, name_more, Titled, ForOpen, ForOne, ForTwo, ForThree, CatchHead, nameless, head_named, Lists, top_list, block_list, body_list, Subs, sub_list, in_then, in_else, in_while, in_do, in_for, Blocks, block_sub, in_try, in_catch, in_finally, Dones, done_statement, done_sub, done_block, Parts, part_first, part_test, part_last, Declarings, in_let, in_const, in_for_let, Declareds, declared_one, Askings, ask_if, ask_while, ask_do, ask_part, ask_return, ask_throw, ask_expression, ask_value, Behinds, behind_expression, behind_lets, InParams, in_params, InComma, in_comma, CatchNames, catch_name, Good}
use Rattle.mb_parse_stmt.proofs.Tokens.{means, word_there, no_role}
use Rattle.mb_parse_stmt.proofs.Places.{role_within, end_within}
use Rattle.mb_parse_stmt.proofs.Steps.{perhaps_size, first_size, for_gathers, catch_gathers, finally_gathers, body_gathers}
use Rattle.mb_parse_stmt.proofs.Closings.{EndedNames, CaughtOf, close_counted, close_commas, end_names, names_params, caught_of, caught_size, is_close_at, stops_at}

module _ (stop : Stop) (ts : List Spanned) (start : ℕ) where
  good_built : (label : Label) (mode : Mode) (fs : List Frame) (rs : List Rose) (at : ℕ) (got : Gathered) (parts : Roses) → got ≡ Got parts rs → Good stop ts start (Going fs (node label parts ∷ rs) mode at) → Good stop ts start (built label mode fs at got)
  good_built label mode fs rs at got parts e b = subst (λ g. Good stop ts start (built label mode fs at g)) (sym e) b

  -- tokens that are wanted

  on_open : (fs : List Frame) (rs : List Rose) (at j : ℕ) (move : Move) (x : Terminal) → terminal_at ts j ≡ x → (RoleAt ts j r.Open → Good stop ts start (apply move fs rs at)) → Good stop ts start (apply (open_then x move) fs rs at)
  on_open fs rs at j move p.Open e h = h (means ts j p.Open e)
  on_open fs rs at j move _ e h = tt

  on_close : (fs : List Frame) (rs : List Rose) (at j : ℕ) (move : Move) (x : Terminal) → terminal_at ts j ≡ x → (RoleAt ts j r.Close → Good stop ts start (apply move fs rs at)) → Good stop ts start (apply (close_then x move) fs rs at)
  on_close fs rs at j move p.Close e h = h (means ts j p.Close e)
  on_close fs rs at j move _ e h = tt

  on_brace : (fs : List Frame) (rs : List Rose) (at j : ℕ) (move : Move) (x : Terminal) → terminal_at ts j ≡ x → (RoleAt ts j r.OpenBrace → Good stop ts start (apply move fs rs at)) → Good stop ts start (apply (brace_then x move) fs rs at)
  on_brace fs rs at j move p.OpenBrace e h = h (means ts j p.OpenBrace e)
  on_brace fs rs at j move _ e h = tt

  on_semicolon : (fs : List Frame) (rs : List Rose) (at j : ℕ) (move : Move) (x : Terminal) → terminal_at ts j ≡ x → (RoleAt ts j r.Semicolon → Good stop ts start (apply move fs rs at)) → Good stop ts start (apply (semicolon_then x move) fs rs at)
  on_semicolon fs rs at j move p.Semicolon e h = h (means ts j p.Semicolon e)
  on_semicolon fs rs at j move _ e h = tt

  on_while : (fs : List Frame) (rs : List Rose) (at j : ℕ) (move : Move) (x : Terminal) → terminal_at ts j ≡ x → (WordAt ts j w.While → Good stop ts start (apply move fs rs at)) → Good stop ts start (apply (while_then x move) fs rs at)
  on_while fs rs at j move p.While e h = h (means ts j p.While e)
  on_while fs rs at j move _ e h = tt

  on_line : (fs : List Frame) (rs : List Rose) (at : ℕ) (frame : Frame) (b : Bool) → after_line_at ts (at + 1) ≡ b → (SameLine ts (at + 1) → Good stop ts start (apply (Enter frame value 1) fs rs at)) → Good stop ts start (apply (line_move b frame) fs rs at)
  on_line fs rs at frame true e h = tt
  on_line fs rs at frame false e h = h (record { is = e })

  -- a statement begins

  good_return : {fs : List Frame} {rs : List Rose} {at : ℕ} (x : Terminal) → terminal_at ts (at + 1) ≡ x → WordAt ts at w.Return → Subs ts start fs rs at → Good stop ts start (apply (return_move x (after_line_at ts (at + 1))) fs rs at)
  good_return {at = at} p.Semicolon e g sp = done_sub sp (returns g (means ts (at + 1) p.Semicolon e))
  good_return {fs = fs} {rs = rs} {at = at} _ e g sp = on_line fs rs at f.Return (after_line_at ts (at + 1)) refl (λ l. ask_return sp g l refl)

  good_sub : {fs : List Frame} {rs : List Rose} {at : ℕ} (x : Terminal) → terminal_at ts at ≡ x → Subs ts start fs rs at → Good stop ts start (apply (sub_move x (terminal_at ts (at + 1)) (after_line_at ts (at + 1))) fs rs at)
  good_sub {at = at} p.OpenBrace e sp = block_list (block_sub sp) (means ts at p.OpenBrace e) no_statement
  good_sub {at = at} p.Semicolon e sp = done_sub sp (empty (means ts at p.Semicolon e))
  good_sub {fs = fs} {rs = rs} {at = at} p.If e sp = on_open fs rs at (at + 1) (Enter f.IfTest value 2) (terminal_at ts (at + 1)) refl (λ o. ask_if sp (means ts at p.If e) o refl)
  good_sub {fs = fs} {rs = rs} {at = at} p.While e sp = on_open fs rs at (at + 1) (Enter f.WhileTest value 2) (terminal_at ts (at + 1)) refl (λ o. ask_while sp (means ts at p.While e) o refl)
  good_sub {at = at} p.Do e sp = in_do sp (means ts at p.Do e) refl
  good_sub {fs = fs} {rs = rs} {at = at} p.For e sp = on_open fs rs at (at + 1) (Enter f.ForFirst mo.Part 2) (terminal_at ts (at + 1)) refl (λ o. part_first sp (record { word = means ts at p.For e; paren = o }) refl)
  good_sub {at = at} p.Return e sp = good_return (terminal_at ts (at + 1)) refl (means ts at p.Return e) sp
  good_sub {fs = fs} {rs = rs} {at = at} p.Throw e sp = on_line fs rs at f.Throw (after_line_at ts (at + 1)) refl (λ l. ask_throw sp (means ts at p.Throw e) l refl)
  good_sub {fs = fs} {rs = rs} {at = at} p.Break e sp = on_semicolon fs rs at (at + 1) (Leaf (bare k.Break) mo.Done 2) (terminal_at ts (at + 1)) refl (λ s. done_sub sp (break (means ts at p.Break e) s))
  good_sub {fs = fs} {rs = rs} {at = at} p.Continue e sp = on_semicolon fs rs at (at + 1) (Leaf (bare k.Continue) mo.Done 2) (terminal_at ts (at + 1)) refl (λ s. done_sub sp (continue (means ts at p.Continue e) s))
  good_sub {at = at} p.Try e sp = in_try sp (means ts at p.Try e) refl
  good_sub p.Function e sp = tt
  good_sub {at = at} x e sp = ask_expression sp (no_role ts at r.OpenBrace x tt e (λ q. cc)) (no_role ts at r.Function x tt e (λ q. cc))

  good_function : {fs : List Frame} {rs : List Rose} {at : ℕ} (x : Terminal) → terminal_at ts (at + 1) ≡ x → RoleAt ts at r.Function → Lists ts start fs rs at → Good stop ts start (apply (function_move x (terminal_at ts (at + 1 + 1))) fs rs at)
  good_function {fs = fs} {rs = rs} {at = at} (p.Name n) e g sp = on_open fs rs at (at + 1 + 1) (Enter (f.Params n 0) mo.Param 3) (terminal_at ts (at + 1 + 1)) refl (λ o. in_params sp (record { function = g; name = means ts (at + 1) (p.Name n) e; paren = o }) no_name)
  good_function _ e g sp = tt

  good_begin : {fs : List Frame} {rs : List Rose} {at : ℕ} (x : Terminal) → terminal_at ts at ≡ x → Lists ts start fs rs at → Good stop ts start (apply (begin_move x (terminal_at ts (at + 1)) (terminal_at ts (at + 1 + 1)) (after_line_at ts (at + 1))) fs rs at)
  good_begin {at = at} p.Let e sp = (false, in_let sp (means ts at p.Let e) no_comma)
  good_begin {at = at} p.Const e sp = (true, in_const sp (means ts at p.Const e) no_comma)
  good_begin {at = at} p.Function e sp = good_function (terminal_at ts (at + 1)) refl (means ts at p.Function e) sp
  good_begin x e sp = good_sub x e (sub_list sp)

  -- a list ends or goes on

  declaration_at : (x : StrId) (count : ℕ) (parts body : Roses) (i m j : ℕ) → Titled ts x i → Params ts parts (i + 1 + 1 + 1) m → RoleAt ts m r.Close → RoleAt ts (m + 1) r.OpenBrace → count ≡ size parts → Statements ts body (m + 1 + 1) j → RoleAt ts j r.CloseBrace → Statement ts (node (named (k.FunctionDecl count) x) (join parts body)) i (j + 1)
  declaration_at x count parts body i m j t d u v n ss c =
      subst (λ y. Statement ts (node (named (k.FunctionDecl y) x) (join parts body)) i (j + 1)) (sym n) (declaration t.function t.name t.paren d u v ss c)

  good_list : {fs : List Frame} {rs : List Rose} {at : ℕ} → Lists ts start fs rs at → Good stop ts start (apply (move_at stop ts fs mo.Statement at) fs rs at)
  good_list {rs = rs} {at = at} (top_list {n = n} h c) = go (stops_of stop (terminal_at ts at)) refl
    where
      go : (b : Bool) → stops_of stop (terminal_at ts at) ≡ b → Good stop ts start (apply (if b then close_list ho.Top n else begin_move (terminal_at ts at) (terminal_at ts (at + 1)) (terminal_at ts (at + 1 + 1)) (after_line_at ts (at + 1))) (f.Statements ho.Top n ∷ []) rs at)
      go true e =
          let l = close_counted c none at finished in
          (l.parts, l.stack, l.listed, stops_at stop ts at (terminal_at ts at) refl e)
      go false e = good_begin (terminal_at ts at) refl (top_list h c)
  good_list {rs = rs'} {at = at} (block_list {n = n} {fs = fs} {rs = rs} {i = i} bl o c) = go (is_close (terminal_at ts at)) refl
    where
      go : (b : Bool) → is_close (terminal_at ts at) ≡ b → Good stop ts start (apply (if b then close_list ho.Block n else begin_move (terminal_at ts at) (terminal_at ts (at + 1)) (terminal_at ts (at + 1 + 1)) (after_line_at ts (at + 1))) (f.Statements ho.Block n ∷ fs) rs' at)
      go true e =
          let l = close_counted c none at finished in
          good_built (bare k.Block) mo.Done fs rs (at + 1) (gather n rs' none) l.parts (ap (λ x. gather n x none) l.stack ∙ gathers l.parts 0 n rs (omega (arith, l.count))) (done_block bl (block o l.listed (means ts at p.CloseBrace (is_close_at (terminal_at ts at) e))))
      go false e = good_begin (terminal_at ts at) refl (block_list bl o c)
  good_list {rs = rs'} {at = at} (body_list {x = x} {n = n} {count = count} {parts = parts} {fs = fs} {rs = rs} {i = i} {m = m} sp t d u v z c) = go (is_close (terminal_at ts at)) refl
    where
      go : (b : Bool) → is_close (terminal_at ts at) ≡ b → Good stop ts start (apply (if b then close_list (ho.Body x count) n else begin_move (terminal_at ts at) (terminal_at ts (at + 1)) (terminal_at ts (at + 1 + 1)) (after_line_at ts (at + 1))) (f.Statements (ho.Body x count) n ∷ fs) rs' at)
      go true e =
          let l = close_counted c none at finished in
          good_built (named (k.FunctionDecl count) x) mo.Done fs rs (at + 1) (gather (count + n) rs' none) (join parts l.parts) (ap (λ y. gather (count + n) y none) l.stack ∙ body_gathers parts l.parts (count + n) rs (omega (arith, l.count, z)))
          (done_statement sp (declaration_at x count parts l.parts i m at t d u v z l.listed (means ts at p.CloseBrace (is_close_at (terminal_at ts at) e))))
      go false e = good_begin (terminal_at ts at) refl (body_list sp t d u v z c)

  -- a statement has been read

  good_done_list : {fs : List Frame} {rs : List Rose} {a : Rose} {i at : ℕ} → Lists ts start fs rs i → Statement ts a i at → Good stop ts start (apply (done_move (top fs) (terminal_at ts at) (terminal_at ts (at + 1))) fs (a ∷ rs) at)
  good_done_list (top_list h c) d = top_list h (one_more c d refl)
  good_done_list (block_list bl o c) d = block_list bl o (one_more c d refl)
  good_done_list (body_list sp t d' u v z c) d = body_list sp t d' u v z (one_more c d refl)

  sub_from : {a : Rose} {i i' j : ℕ} → i ≡ i' → Sub ts a i j → Sub ts a i' j
  sub_from {a = a} {j = j} e d = subst (λ x. Sub ts a x j) e d

  block_from : {a : Rose} {i i' j : ℕ} → i ≡ i' → BlockOf ts a i j → BlockOf ts a i' j
  block_from {a = a} {j = j} e d = subst (λ x. BlockOf ts a x j) e d

  good_then : {fs : List Frame} {rs : List Rose} {a b : Rose} {es : List ℕ} {i m at : ℕ} (x : Terminal) → terminal_at ts at ≡ x → Subs ts start fs rs i → WordAt ts i w.If → RoleAt ts (i + 1) r.Open → Stands ts 1 a [] es (i + 1 + 1) m → RoleAt ts m r.Close → Sub ts b (m + 1) at → Good stop ts start (apply (then_move x) (f.IfThen ∷ fs) (b ∷ a ∷ rs) at)
  good_then {at = at} p.Else e sp g o d u b = in_else sp g o d u b (means ts at p.Else e) refl
  good_then x e sp g o d u b = done_sub sp (if_then g o d u b (λ h. let q = sym e ∙ word_there h in cc))

  for_at : {a b c : Bool} {d : Rose} {rs rs' : List Rose} {i k' at : ℕ} (h : ForThree ts a b c rs rs' i k') → Sub ts d k' at → Sub ts (node (bare (k.For a b c)) (join h.two.one.x (join h.two.y (join h.z (more d none))))) i at
  for_at {b = b} {c = c} h d =
      let t = h.two in
      let o = t.one in
      for_loop o.opens.word o.opens.paren o.first o.semicolon (subst (λ x. Perhaps ts b t.y x t.n) o.place t.test) t.semicolon (subst (λ x. Perhaps ts c h.z x h.n) t.place h.last) h.close (sub_from h.place d)

  for_stack : {a b c : Bool} {rs rs' : List Rose} {i k' : ℕ} (h : ForThree ts a b c rs rs' i k') → rs' ≡ pushed h.z (pushed h.two.y (pushed h.two.one.x rs))
  for_stack h = h.operands ∙ ap (pushed h.z) (h.two.operands ∙ ap (pushed h.two.y) h.two.one.operands)

  for_count : {a b c : Bool} {rs rs' : List Rose} {i k' : ℕ} (h : ForThree ts a b c rs rs' i k') → one a + one b + one c + 1 ≡ size h.two.one.x + size h.two.y + size h.z + 1
  for_count h = omega (arith, first_size h.two.one.first, perhaps_size h.two.test, perhaps_size h.last)

  good_done_sub : {fs : List Frame} {rs : List Rose} {a : Rose} {i at : ℕ} → Subs ts start fs rs i → Sub ts a i at → Good stop ts start (apply (done_move (top fs) (terminal_at ts at) (terminal_at ts (at + 1))) fs (a ∷ rs) at)
  good_done_sub (sub_list sp) d = good_done_list sp (sub d)
  good_done_sub {at = at} (in_then sp g o d' u q) d = good_then (terminal_at ts at) refl sp g o d' u (sub_from q d)
  good_done_sub (in_else sp g o d' u b x q) d = done_sub sp (if_else g o d' u b x (sub_from q d))
  good_done_sub (in_while sp g o d' u q) d = done_sub sp (while_do g o d' u (sub_from q d))
  good_done_sub {a = b} {at = at} (in_do {fs = fs} {rs = rs} sp g q) d =
      on_while (f.DoBody ∷ fs) (b ∷ rs) at at (open_then (terminal_at ts (at + 1)) (Swap f.DoTest value 2)) (terminal_at ts at) refl (λ e.
      on_open (f.DoBody ∷ fs) (b ∷ rs) at (at + 1) (Swap f.DoTest value 2) (terminal_at ts (at + 1)) refl (λ o.
      ask_do sp g (sub_from q d) e o refl))
  good_done_sub {a = d'} {at = at} (in_for {a = a} {b = b} {c = c} {fs = fs} {rs = rs} {rs' = rs'} sp h) d =
      good_built (bare (k.For a b c)) mo.Done fs rs at (gather (one a + one b + one c + 1) (d' ∷ rs') none) (join h.two.one.x (join h.two.y (join h.z (more d' none))))
      (ap (λ x. gather (one a + one b + one c + 1) (d' ∷ x) none) (for_stack h) ∙ for_gathers h.two.one.x h.two.y h.z d' (one a + one b + one c + 1) rs (for_count h))
      (done_sub sp (for_at h d))

  good_catch : {fs : List Frame} {rs : List Rose} {b : Rose} {i at : ℕ} (x : Terminal) → terminal_at ts (at + 1) ≡ x → Subs ts start fs rs i → WordAt ts i w.Try → BlockOf ts b (i + 1) at → WordAt ts at w.Catch → Good stop ts start (apply (catch_move x) (f.TryBlock ∷ fs) (b ∷ rs) at)
  good_catch {at = at} p.Open e sp g d u = catch_name sp g d u (means ts (at + 1) p.Open e) refl
  good_catch _ e sp g d u = in_catch sp g d (nameless u)

  good_try : {fs : List Frame} {rs : List Rose} {b : Rose} {i at : ℕ} (x : Terminal) → terminal_at ts at ≡ x → Subs ts start fs rs i → WordAt ts i w.Try → BlockOf ts b (i + 1) at → Good stop ts start (apply (try_move x (terminal_at ts (at + 1))) (f.TryBlock ∷ fs) (b ∷ rs) at)
  good_try {at = at} p.Catch e sp g d = good_catch (terminal_at ts (at + 1)) refl sp g d (means ts at p.Catch e)
  good_try {at = at} p.Finally e sp g d = in_finally sp g d no_catch (means ts at p.Finally e) refl refl
  good_try _ e sp g d = tt

  good_caught : {has : Bool} {fs : List Frame} {rs rs' : List Rose} {b d : Rose} {i m at : ℕ} (x : Terminal) → terminal_at ts at ≡ x → Subs ts start fs rs i → WordAt ts i w.Try → BlockOf ts b (i + 1) m → CaughtOf ts has b d rs rs' m at → Good stop ts start (apply (caught_move has x) (f.CatchBlock has ∷ fs) (d ∷ rs') at)
  good_caught {at = at} p.Finally e sp g bl c = in_finally sp g bl c.caught (means ts at p.Finally e) c.stack refl
  good_caught {has = has} {fs = fs} {rs = rs} {rs' = rs'} {b = b} {d = d} {at = at} x e sp g bl c =
      good_built (bare (k.Try true has false)) mo.Done fs rs at (gather (2 + one has) (d ∷ rs') none) (more b (join c.x none))
      (ap (λ y. gather (2 + one has) y none) c.stack ∙ catch_gathers b c.x (2 + one has) rs (omega (arith, c.count)))
      (done_sub sp (try g bl c.caught no_finally (λ u v. cc)))

  good_done_block : {fs : List Frame} {rs : List Rose} {a : Rose} {i at : ℕ} → Blocks ts start fs rs i → BlockOf ts a i at → Good stop ts start (apply (done_move (top fs) (terminal_at ts at) (terminal_at ts (at + 1))) fs (a ∷ rs) at)
  good_done_block (block_sub sp) d = good_done_sub sp (sub_block d)
  good_done_block {at = at} (in_try sp g q) d = good_try (terminal_at ts at) refl sp g (block_from q d)
  good_done_block {at = at} (in_catch sp g bl h) d = good_caught (terminal_at ts at) refl sp g bl (caught_of h refl d)
  good_done_block {a = d'} {at = at} (in_finally {caught = caught} {named = has} {b = b} {x = x} {fs = fs} {rs = rs} {rs' = rs'} sp g bl c u s q) d =
      good_built (bare (k.Try caught has true)) mo.Done fs rs at (gather (2 + one caught + one has) (d' ∷ rs') none) (more b (join x (more d' none)))
      (ap (λ y. gather (2 + one caught + one has) (d' ∷ y) none) s ∙ finally_gathers b d' x (2 + one caught + one has) rs (omega (arith, caught_size c)))
      (done_sub sp (try g bl c (finally u (block_from q d)) (λ y z. cc)))

  good_done : {fs : List Frame} {rs : List Rose} {at : ℕ} → Dones ts start fs rs at → Good stop ts start (apply (done_move (top fs) (terminal_at ts at) (terminal_at ts (at + 1))) fs rs at)
  good_done (done_statement sp d) = good_done_list sp d
  good_done (done_sub sp d) = good_done_sub sp d
  good_done (done_block sp d) = good_done_block sp d

  -- an expression has been read

  stands_from : {l : ℕ} {a : Rose} {es : List ℕ} {i i' j : ℕ} → i ≡ i' → Stands ts l a [] es i j → Stands ts l a [] es i' j
  stands_from {l = l} {a = a} {es = es} {j = j} e d = subst (λ x. Stands ts l a [] es x j) e d

  perhaps_from : {b : Bool} {y : Roses} {i i' j : ℕ} → i ≡ i' → Perhaps ts b y i j → Perhaps ts b y i' j
  perhaps_from {b = b} {y = y} {j = j} e d = subst (λ x. Perhaps ts b y x j) e d

  good_head : {fs : List Frame} {rs : List Rose} {a : Rose} {es : List ℕ} {i at : ℕ} → Parts ts start fs rs i → Stands ts 1 a [] es i at → Good stop ts start (apply (behind_move (top fs) (terminal_at ts at) (terminal_at ts (at + 1))) fs (a ∷ rs) at)
  good_head {a = a} {at = at} (part_first {fs = fs} {rs = rs} sp op q) d =
      on_semicolon (f.ForFirst ∷ fs) (a ∷ rs) at at (Swap (f.ForTest true) mo.Part 1) (terminal_at ts at) refl (λ s.
      part_test sp (record { opens = op; x = more a none; m = at; first = first_expression (present (stands_from q d)); semicolon = s; operands = refl; place = refl }))
  good_head {a = a} {i = i} {at = at} (part_test {a = b} {fs = fs} {rs' = rs} sp h) d =
      on_semicolon (f.ForTest b ∷ fs) (a ∷ rs) at at (Swap (f.ForLast b true) mo.Part 1) (terminal_at ts at) refl (λ s.
      part_last sp (record { between = rs; m = i; one = h; y = more a none; n = at; test = present d; semicolon = s; operands = refl; place = refl }))
  good_head {a = a} {i = i} {at = at} (part_last {a = b} {b = c} {fs = fs} {rs' = rs} sp h) d =
      on_close (f.ForLast b c ∷ fs) (a ∷ rs) at at (Swap (f.ForBody b c true) mo.Sub 1) (terminal_at ts at) refl (λ s.
      in_for sp (record { between = rs; m = i; two = h; z = more a none; n = at; last = present d; close = s; operands = refl; place = refl }))

  good_read : {level : Level} {fs : List Frame} {rs : List Rose} {a : Rose} {es : List ℕ} {i at : ℕ} → Askings ts start level fs rs i → Whole ts level a es i at → Good stop ts start (apply (behind_move (top fs) (terminal_at ts at) (terminal_at ts (at + 1))) fs (a ∷ rs) at)
  good_read {a = a} {at = at} (ask_if {fs = fs} {rs = rs} sp g o q) h =
      on_close (f.IfTest ∷ fs) (a ∷ rs) at at (Swap f.IfThen mo.Sub 1) (terminal_at ts at) refl (λ u. in_then sp g o (stands_from q h.stands) u refl)
  good_read {a = a} {at = at} (ask_while {fs = fs} {rs = rs} sp g o q) h =
      on_close (f.WhileTest ∷ fs) (a ∷ rs) at at (Swap f.WhileBody mo.Sub 1) (terminal_at ts at) refl (λ u. in_while sp g o (stands_from q h.stands) u refl)
  good_read {a = a} {at = at} (ask_do {b = b} {fs = fs} {rs = rs} sp g d v o q) h =
      on_close (f.DoTest ∷ fs) (a ∷ b ∷ rs) at at (semicolon_then (terminal_at ts (at + 1)) (Build (bare k.DoWhile) 2 mo.Done 2)) (terminal_at ts at) refl (λ u.
      on_semicolon (f.DoTest ∷ fs) (a ∷ b ∷ rs) at (at + 1) (Build (bare k.DoWhile) 2 mo.Done 2) (terminal_at ts (at + 1)) refl (λ s.
      done_sub sp (do_while g d v o (stands_from q h.stands) u s)))
  good_read (ask_part sp) h = good_head sp h.stands
  good_read {a = a} {at = at} (ask_return {fs = fs} {rs = rs} sp g l q) h =
      on_semicolon (f.Return ∷ fs) (a ∷ rs) at at (Build (bare k.Return) 1 mo.Done 1) (terminal_at ts at) refl (λ s. done_sub sp (returns_with g l (stands_from q h.stands) s))
  good_read {a = a} {at = at} (ask_throw {fs = fs} {rs = rs} sp g l q) h =
      on_semicolon (f.Throw ∷ fs) (a ∷ rs) at at (Build (bare k.Throw) 1 mo.Done 1) (terminal_at ts at) refl (λ s. done_sub sp (throw g l (stands_from q h.stands) s))
  good_read {a = a} {at = at} (ask_expression {fs = fs} {rs = rs} sp n n') h =
      on_semicolon (f.Expression ∷ fs) (a ∷ rs) at at (Build (bare k.ExprStmt) 1 mo.Done 1) (terminal_at ts at) refl (λ s. done_sub sp (expression n n' h.stands s))
  good_read {at = at} (ask_value sp n b q) h = declared_one sp (declared_as n b (stands_from q h.stands)) (end_within ts lv.Assign at h.end)

  good_behind : {fs : List Frame} {rs : List Rose} {at : ℕ} → Behinds ts start fs rs at → Good stop ts start (apply (behind_move (top fs) (terminal_at ts at) (terminal_at ts (at + 1))) fs rs at)
  good_behind (behind_expression sp h) = good_read sp h
  good_behind {at = at} (behind_lets {a = a} {fs = fs} {rs = rs} sp op d s) =
      on_semicolon (f.ForFirst ∷ fs) (a ∷ rs) at at (Swap (f.ForTest true) mo.Part 1) (terminal_at ts at) refl (λ u.
      part_test sp (record { opens = op; x = more a none; m = at; first = first_lets d; semicolon = u; operands = refl; place = refl }))

  -- a part of a head

  good_first : {fs : List Frame} {rs : List Rose} {i at : ℕ} (x : Terminal) → terminal_at ts at ≡ x → Subs ts start fs rs i → ForOpen ts i → at ≡ i + 1 + 1 → Good stop ts start (apply (first_move x) (f.ForFirst ∷ fs) rs at)
  good_first {fs = fs} {rs = rs} {i = i} {at = at} p.Let e sp op q =
      subst (λ y. (fixed : Bool) × Declarings ts start fixed (f.Declarations de.ForLet 0 ∷ f.ForFirst ∷ fs) rs (y + 1)) (sym q)
      (false, in_for_let sp op (subst (λ y. WordAt ts y w.Let) q (means ts at p.Let e)) no_comma)
  good_first {at = at} p.Semicolon e sp op q =
      part_test sp (record { opens = op; x = none; m = at; first = first_expression (perhaps_from q absent); semicolon = means ts at p.Semicolon e; operands = refl; place = refl })
  good_first _ e sp op q = ask_part (part_first sp op q)

  good_test : {a : Bool} {fs : List Frame} {rs rs' : List Rose} {i at : ℕ} (x : Terminal) → terminal_at ts at ≡ x → Subs ts start fs rs i → ForOne ts a rs rs' i at → Good stop ts start (apply (test_move a x) (f.ForTest a ∷ fs) rs' at)
  good_test {rs' = rs'} {at = at} p.Semicolon e sp h =
      part_last sp (record { between = rs'; m = at; one = h; y = none; n = at; test = absent; semicolon = means ts at p.Semicolon e; operands = refl; place = refl })
  good_test _ e sp h = ask_part (part_test sp h)

  good_last : {a b : Bool} {fs : List Frame} {rs rs' : List Rose} {i at : ℕ} (x : Terminal) → terminal_at ts at ≡ x → Subs ts start fs rs i → ForTwo ts a b rs rs' i at → Good stop ts start (apply (last_move a b x) (f.ForLast a b ∷ fs) rs' at)
  good_last {rs' = rs'} {at = at} p.Close e sp h =
      in_for sp (record { between = rs'; m = at; two = h; z = none; n = at; last = absent; close = means ts at p.Close e; operands = refl; place = refl })
  good_last _ e sp h = ask_part (part_last sp h)

  good_part : {fs : List Frame} {rs : List Rose} {at : ℕ} → Parts ts start fs rs at → Good stop ts start (apply (part_move (top fs) (terminal_at ts at)) fs rs at)
  good_part {at = at} (part_first sp op q) = good_first (terminal_at ts at) refl sp op q
  good_part {at = at} (part_test sp h) = good_test (terminal_at ts at) refl sp h
  good_part {at = at} (part_last sp h) = good_last (terminal_at ts at) refl sp h

  -- declarations

  good_alone : {fixed : Bool} {fs : List Frame} {rs : List Rose} {at : ℕ} (x : StrId) → RoleAt ts at (r.Name x) → Declarings ts start fixed fs rs at → Good stop ts start (apply (alone_move (top fs) x) fs rs at)
  good_alone {at = at} x e (in_let sp g c) = declared_one (in_let sp g c) (declared e) (role_within ts at (r.Name x) e (λ q. cc))
  good_alone x e (in_const sp g c) = tt
  good_alone {at = at} x e (in_for_let sp op g c) = declared_one (in_for_let sp op g c) (declared e) (role_within ts at (r.Name x) e (λ q. cc))

  good_name : {fixed : Bool} {fs : List Frame} {rs : List Rose} {at : ℕ} (x : StrId) (y : Terminal) → terminal_at ts (at + 1) ≡ y → RoleAt ts at (r.Name x) → Declarings ts start fixed fs rs at → Good stop ts start (apply (name_move (top fs) x y) fs rs at)
  good_name {at = at} x p.Becomes q e sp = ask_value sp e (means ts (at + 1) p.Becomes q) refl
  good_name x _ q e sp = good_alone x e sp

  good_declaration : {fixed : Bool} {fs : List Frame} {rs : List Rose} {at : ℕ} (x : Terminal) → terminal_at ts at ≡ x → Declarings ts start fixed fs rs at → Good stop ts start (apply (declaration_move (top fs) x (terminal_at ts (at + 1))) fs rs at)
  good_declaration {at = at} (p.Name n) e sp = good_name n (terminal_at ts (at + 1)) refl (means ts at (p.Name n) e) sp
  good_declaration _ e sp = tt

  good_declared : {fixed : Bool} {fs : List Frame} {rs : List Rose} {a : Rose} {i at : ℕ} (x : Terminal) → terminal_at ts at ≡ x → Declarings ts start fixed fs rs i → Declared ts fixed a i at → Good stop ts start (apply (declared_move (top fs) x) fs (a ∷ rs) at)
  good_declared {at = at} p.Comma e (in_let sp g c) d = (false, in_let sp g (comma_more c d (means ts at p.Comma e) refl refl))
  good_declared {at = at} p.Comma e (in_const sp g c) d = (true, in_const sp g (comma_more c d (means ts at p.Comma e) refl refl))
  good_declared {at = at} p.Comma e (in_for_let sp op g c) d = (false, in_for_let sp op g (comma_more c d (means ts at p.Comma e) refl refl))
  good_declared {a = a} {at = at} p.Semicolon e (in_let {n = n} {fs = fs} {rs = rs} {rs' = rs'} sp g c) d =
      let l = close_commas c (more a none) at (last_declared d) in
      good_built (bare k.Let) mo.Done fs rs (at + 1) (gather (n + 1) (a ∷ rs') none) l.parts (ap (λ x. gather (n + 1) x none) l.stack ∙ gathers l.parts 0 (n + 1) rs (omega (arith, l.count)))
      (done_statement sp (let_statement (lets g l.listed) (means ts at p.Semicolon e)))
  good_declared {a = a} {at = at} p.Semicolon e (in_const {n = n} {fs = fs} {rs = rs} {rs' = rs'} sp g c) d =
      let l = close_commas c (more a none) at (last_declared d) in
      good_built (bare k.Const) mo.Done fs rs (at + 1) (gather (n + 1) (a ∷ rs') none) l.parts (ap (λ x. gather (n + 1) x none) l.stack ∙ gathers l.parts 0 (n + 1) rs (omega (arith, l.count)))
      (done_statement sp (const g l.listed (means ts at p.Semicolon e)))
  good_declared {a = a} {at = at} p.Semicolon e (in_for_let {n = n} {fs = fs} {rs = rs} {rs' = rs'} sp op g c) d =
      let l = close_commas c (more a none) at (last_declared d) in
      good_built (bare k.Let) mo.Behind (f.ForFirst ∷ fs) rs at (gather (n + 1) (a ∷ rs') none) l.parts (ap (λ x. gather (n + 1) x none) l.stack ∙ gathers l.parts 0 (n + 1) rs (omega (arith, l.count)))
      (behind_lets sp op (lets g l.listed) (means ts at p.Semicolon e))
  good_declared _ e (in_let sp g c) d = tt
  good_declared _ e (in_const sp g c) d = tt
  good_declared _ e (in_for_let sp op g c) d = tt

  -- parameters

  body_of : {x : StrId} {n i at : ℕ} {fs : List Frame} {rs rs' : List Rose} → Lists ts start fs rs i → Titled ts x i → EndedNames ts n rs rs' (i + 1 + 1 + 1) at → RoleAt ts at r.Close → RoleAt ts (at + 1) r.OpenBrace → Lists ts start (f.Statements (ho.Body x n) 0 ∷ fs) rs' (at + 1 + 1)
  body_of {at = at} {rs = rs} sp t l u o = body_list sp t l.listed u o l.count (subst (λ y. Counted ts 0 (pushed l.parts rs) y (at + 1 + 1) (at + 1 + 1)) (sym l.stack) no_statement)

  good_body : {fs : List Frame} {rs rs' : List Rose} {i at : ℕ} (x : StrId) (n m : ℕ) → Lists ts start fs rs i → Titled ts x i → EndedNames ts n rs rs' (i + 1 + 1 + 1) at → RoleAt ts at r.Close → Good stop ts start (apply (body_move x n (terminal_at ts (at + 1))) (f.Params x m ∷ fs) rs' at)
  good_body {fs = fs} {rs' = rs'} {at = at} x n m sp t l u =
      on_brace (f.Params x m ∷ fs) rs' at (at + 1) (Swap (f.Statements (ho.Body x n) 0) mo.Statement 2) (terminal_at ts (at + 1)) refl (λ o. body_of sp t l u o)

  good_param : {fs : List Frame} {rs : List Rose} {at : ℕ} (x : Terminal) → terminal_at ts at ≡ x → InParams ts start fs rs at → Good stop ts start (apply (param_move (top fs) x (terminal_at ts (at + 1))) fs rs at)
  good_param {at = at} (p.Name y) e (in_params sp t c) = in_comma sp t c (means ts at (p.Name y) e) refl
  good_param {at = at} p.Close e (in_params {x = x} {n = n} sp t c) = good_body x n n sp t (end_names c) (means ts at p.Close e)
  good_param _ e (in_params sp t c) = tt

  good_comma : {fs : List Frame} {rs : List Rose} {at : ℕ} (x : Terminal) → terminal_at ts at ≡ x → InComma ts start fs rs at → Good stop ts start (apply (comma_move (top fs) x (terminal_at ts (at + 1))) fs rs at)
  good_comma {at = at} p.Comma e (in_comma sp t c n q) = in_params sp t (name_more c n (subst (λ y. RoleAt ts y r.Comma) q (means ts at p.Comma e)) refl (ap (λ y. y + 1) q))
  good_comma {at = at} p.Close e (in_comma {x = x} {y = y} {n = n} {rs = rs} {rs' = rs'} {i = i} sp t c z q) =
      good_body x (n + 1) n sp t (subst (λ v. EndedNames ts (n + 1) rs (param y ∷ rs') (i + 1 + 1 + 1) v) (sym q) (names_params c z)) (means ts at p.Close e)
  good_comma _ e (in_comma sp t c n q) = tt

  -- blocks

  good_brace : {fs : List Frame} {rs : List Rose} {at : ℕ} → Blocks ts start fs rs at → Good stop ts start (apply (brace_then (terminal_at ts at) (Enter (f.Statements ho.Block 0) mo.Statement 1)) fs rs at)
  good_brace {fs = fs} {rs = rs} {at = at} sp = on_brace fs rs at at (Enter (f.Statements ho.Block 0) mo.Statement 1) (terminal_at ts at) refl (λ o. block_list sp o no_statement)

  good_catch_name : {fs : List Frame} {rs : List Rose} {at : ℕ} (x : Terminal) → terminal_at ts at ≡ x → CatchNames ts start fs rs at → Good stop ts start (apply (catch_name_move x (terminal_at ts (at + 1))) fs rs at)
  good_catch_name {at = at} (p.Name x) e (catch_name {b = b} {fs = fs} {rs = rs} {m = m} sp g d u o q) =
      on_close (f.CatchBlock true ∷ fs) (b ∷ rs) at (at + 1) (Leaf (named k.Param x) mo.Brace 2) (terminal_at ts (at + 1)) refl (λ c.
      in_catch sp g d (subst (λ y. CatchHead ts true (b ∷ rs) (param x ∷ b ∷ rs) m (y + 1 + 1)) (sym q)
      (head_named u o (subst (λ y. RoleAt ts y (r.Name x)) q (means ts at (p.Name x) e)) (subst (λ y. RoleAt ts (y + 1) r.Close) q c))))
  good_catch_name _ e (catch_name sp g d u o q) = tt

  good_one : {fs : List Frame} {rs : List Rose} {at : ℕ} → Declareds ts start fs rs at → Good stop ts start (apply (declared_move (top fs) (terminal_at ts at)) fs rs at)
  good_one {at = at} (declared_one sp d h) = good_declared (terminal_at ts at) refl sp d

  -- one step
  pub good_step : (fs : List Frame) (rs : List Rose) (mode : Mode) (at : ℕ) → Good stop ts start (Going fs rs mode at) → Good stop ts start (apply (move_at stop ts fs mode at) fs rs at)
  good_step fs rs mo.Statement at g = good_list g
  good_step fs rs mo.Sub at g = good_sub (terminal_at ts at) refl g
  good_step fs rs mo.Done at g = good_done g
  good_step fs rs (mo.Expression level) at g = g
  good_step fs rs mo.Behind at g = good_behind g
  good_step fs rs mo.Part at g = good_part g
  good_step fs rs mo.Declaration at g = good_declaration (terminal_at ts at) refl g.1
  good_step fs rs mo.Declared at g = good_one g
  good_step fs rs mo.Param at g = good_param (terminal_at ts at) refl g
  good_step fs rs mo.Comma at g = good_comma (terminal_at ts at) refl g
  good_step fs rs mo.Brace at g = good_brace g
  good_step fs rs mo.CatchName at g = good_catch_name (terminal_at ts at) refl g
