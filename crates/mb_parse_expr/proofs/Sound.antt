-- What the parser ends with stands in the tokens.
use Rattle.std.proofs.Common.{◌≡◌, ℕ, suc, ◌+◌, ◌≤◌, Bool, true, false, List, [], ◌∷◌, Option, Some, None, refl, sym, ap, subst, ◌∙◌, arith}
use Rattle.std.specs.Prelude.{nat_lt, if◌then◌else◌}
use Rattle.std.proofs.lemmas.Bool.{ltb-false}
use Rattle.mb_base.specs.declared.value.StrId.{StrId}
use Rattle.mb_token.specs.declared.token.Token.{Token}
use Rattle.mb_token.specs.declared.token.Token.TheVariants as t
use Rattle.mb_token.specs.declared.token.Spanned.{Spanned}
use Rattle.mb_token.specs.declared.mark.Mark.{Mark}
use Rattle.mb_token.specs.declared.mark.Mark.TheVariants as m
use Rattle.mb_token.specs.declared.word.Soft.{Soft}
use Rattle.mb_token.specs.declared.word.Soft.TheVariants.{Get, Set}
use Rattle.mb_tree.specs.declared.kind.Kind.TheVariants as kd
use Rattle.mb_tree.specs.Roses.{Rose, Roses, node, none, more, bare, named, size, join}
use Rattle.mb_tree.specs.machine.Operands.{pushed, gather}
use Rattle.mb_tree.proofs.Written.{gathers}
use Rattle.mb_grammar.specs.declared.role.Role.{Role}
use Rattle.mb_grammar.specs.declared.role.Role.TheVariants as r
use Rattle.mb_parse_expr.specs.declared.role.Follow.{Follow}
use Rattle.mb_parse_expr.specs.declared.role.Follow.TheVariants as fo
use Rattle.mb_grammar.specs.declared.level.Level.{Level}
use Rattle.mb_grammar.specs.declared.level.Level.TheVariants as lv
use Rattle.mb_grammar.specs.declared.function.Property.{Property}
use Rattle.mb_grammar.specs.declared.function.Maker.{Maker}
use Rattle.mb_grammar.specs.declared.function.Maker.TheVariants as mk
use Rattle.mb_parse_expr.specs.declared.machine.Frame.{Frame}
use Rattle.mb_parse_expr.specs.declared.machine.Frame.TheVariants as f
use Rattle.mb_parse_expr.specs.declared.machine.Mode.{Mode}
use Rattle.mb_parse_expr.specs.declared.machine.Mode.TheVariants as mo
use Rattle.mb_parse_expr.specs.declared.machine.Mode.TheVariants.{Operand, Body, After, Block}
use Rattle.mb_parse_expr.specs.declared.machine.Move.TheVariants.{Suffix, Wrong}
use Rattle.mb_grammar.specs.Tokens.{role_of, token_at, role_at, after_line_at, RoleAt, NoRoleAt, SameLine}
use Rattle.mb_parse_expr.specs.machine.Machine.{made_extra, made_mode, hole, strength, least_before, taken_move, end_move, close_move, params_move, param_move, comma_move, head_move, block_move, title_move, open_move, brace_move, property_move, key_move, keyed_move, item_move, word_move, name_move, ahead_at, follow_at, Going, apply, move_at}
use Rattle.mb_grammar.specs.Nonterminals.{level_of}
use Rattle.mb_grammar.specs.Labels.{named_property, value_label, made_label, param}
use Rattle.mb_grammar.specs.Parts.{WordText, name, soft, reserved, GetAt, SetAt, MakerParams, of_function, of_method, of_getter, of_setter, Head, many}
use Rattle.mb_grammar.specs.Grammar.{Stands, assign, compound, arrow_block, cond, or, and_also, binary, unary, negative, before, member, object, function, KeyOf, key_word, key_text, key_number, Before, unnamed, with_name, method, getter, setter, Made, made, PropertyOf, shorthand, maker_of, last_property, properties, Statements}
use Rattle.mb_tree.specs.machine.Stack.{top}
use Rattle.mb_parse_expr.proofs.Steps.{sign_range, before_size, made_gathers}
use Rattle.mb_parse_expr.specs.machine.Covers.{IsListing, PropertyCommas, property_more, NameCommas, no_name, name_more, Opening, opening, arrow_opening, Spine, bottom, in_infix, in_or, in_and, in_becomes, in_compound, in_test, in_choice, in_unary, in_negative, in_before, in_new, in_group, in_index, in_args, in_new_args, in_array, in_seq, in_arrow, in_value, in_computed, in_computed_get, in_computed_set, Objects, in_object, Under, under_arrow, under_function, under_method, under_getter, under_setter, Titled, title_read, Headed, headed, InParams, in_params, InComma, in_comma, InHead, in_head, arrowed, Ready, ready_arrow, ready_made, braced, Blocked, blocked, Dotted, dotted, Accessing, getting, setting, KeyRead, key_read, ItemRead, item_read, Behind, behind_operand, behind_short, Good}
use Rattle.mb_grammar.specs.Script.{IsEnd}
use Rattle.mb_parse_expr.proofs.Closings.{lower, from_place, role_from, close_properties, end_properties, EndedNames, end_names, names_params}
use Rattle.mb_parse_expr.proofs.Building.{good_built, good_value, good_body, good_taken, close_seq, close_args, close_new_args, close_array, close_test, close_group, close_index, close_computed, close_computed_get, close_computed_set, close_new, close_arrow, close_value}

close_end : (ts : List Spanned) (level : Level) (start : ℕ) (a : Rose) (es : List ℕ) (l at : ℕ) (role : Role) → role_at ts at ≡ role → hole (Some (f.Start level)) ≤ l → Stands ts l a [] es start at → Good ts level start (apply (end_move level role) (f.Start level ∷ []) (a ∷ []) es at)
close_end ts lv.Expr start a es l at r.Semicolon e h st = (a, refl, lower ts l 1 (omega arith) h st, subst (IsEnd lv.Expr) (sym e) tt)
close_end ts lv.Expr start a es l at r.Close e h st = (a, refl, lower ts l 1 (omega arith) h st, subst (IsEnd lv.Expr) (sym e) tt)
close_end ts lv.Expr start a es l at _ e h st = tt
close_end ts lv.Assign start a es l at r.Semicolon e h st = (a, refl, lower ts l 3 (omega arith) h st, subst (IsEnd lv.Assign) (sym e) tt)
close_end ts lv.Assign start a es l at r.Comma e h st = (a, refl, lower ts l 3 (omega arith) h st, subst (IsEnd lv.Assign) (sym e) tt)
close_end ts lv.Assign start a es l at _ e h st = tt

module _ (ts : List Spanned) (lvl : Level) (start : ℕ) where
  good_close_at : {fs : List Frame} {rs : List Rose} {ds : List ℕ} {i : ℕ} (a : Rose) (es : List ℕ) (l at : ℕ) (role : Role) → role_at ts at ≡ role → hole (top fs) ≤ l → Stands ts l a ds es i at → Spine ts lvl start fs rs ds i → Good ts lvl start (apply (close_move (top fs) l role) fs (a ∷ rs) es at)
  good_close_at a es l at role e h st bottom = close_end ts lvl start a es l at role e h st
  good_close_at a es l at role e h st (in_infix {sign = sign} sp d o q) = behind_operand sp (binary d o (from_place ts q (lower ts l (suc (level_of sign)) (omega (arith, (sign_range sign).1)) (omega arith) st)))
  good_close_at a es l at role e h st (in_or sp d o q) = behind_operand sp (or d o (from_place ts q (lower ts l 6 (omega arith) h st)))
  good_close_at a es l at role e h st (in_and sp d o q) = behind_operand sp (and_also d o (from_place ts q (lower ts l 8 (omega arith) h st)))
  good_close_at a es l at role e h st (in_becomes sp d o q) = behind_operand sp (assign d o (from_place ts q (lower ts l 3 (omega arith) h st)))
  good_close_at a es l at role e h st (in_compound sp d o q) = behind_operand sp (compound d o (from_place ts q (lower ts l 3 (omega arith) h st)))
  good_close_at a es l at role e h st (in_test {a = b} {fs = fs} {rs = rs} {ds = ds} {es = gs} {i = i} {j = j} sp d o q) = close_test ts lvl start a b fs rs ds gs es l i j at role e sp d o (from_place ts q (lower ts l 3 (omega arith) h st))
  good_close_at a es l at role e h st (in_choice sp d o d' o' q) = behind_operand sp (cond d o d' o' (from_place ts q (lower ts l 3 (omega arith) h st)))
  good_close_at a es l at role e h st (in_unary sp o q) = behind_operand sp (unary o (from_place ts q (lower ts l 14 (omega arith) h st)))
  good_close_at a es l at role e h st (in_negative sp o q) = behind_operand sp (negative o (from_place ts q (lower ts l 14 (omega arith) h st)))
  good_close_at a es l at role e h st (in_before sp o q) = behind_operand sp (before o (from_place ts q (lower ts l 14 (omega arith) h st)))
  good_close_at a es l at role e h st (in_new {fs = fs} {rs = rs} {ds = ds} {i = i} sp o q) = close_new ts lvl start a fs rs ds es l i at role sp o h (from_place ts q st)
  good_close_at a es l at role e h st (in_group {fs = fs} {rs = rs} {ds = ds} {i = i} sp o q) = close_group ts lvl start a fs rs ds es l i at role e sp o (from_place ts q (lower ts l 1 (omega arith) h st))
  good_close_at a es l at role e h st (in_index {l = l'} {a = b} {fs = fs} {rs = rs} {ds = ds} {es = gs} {i = i} {j = j} sp u d o q) = close_index ts lvl start l' a b fs rs ds gs es l i j at role e sp u d o (from_place ts q (lower ts l 1 (omega arith) h st))
  good_close_at a es l at role e h st (in_args {l = l'} {n = n} {a = b} {fs = fs} {rs = rs} {rs' = rs'} {ds = ds} {es = gs} {gs = hs} {i = i} {j = j} {k = m} sp u d o c) = close_args ts lvl start n l' b a fs rs rs' ds gs hs es l i j m at role e sp u d o c (lower ts l 3 (omega arith) h st)
  good_close_at a es l at role e h st (in_new_args {n = n} {a = b} {fs = fs} {rs = rs} {rs' = rs'} {ds = ds} {es = gs} {gs = hs} {i = i} {j = j} {k = m} sp w d o c) = close_new_args ts lvl start n b a fs rs rs' ds gs hs es l i j m at role e sp w d o c (lower ts l 3 (omega arith) h st)
  good_close_at a es l at role e h st (in_array {n = n} {fs = fs} {rs = rs} {rs' = rs'} {ds = ds} {es = gs} {i = i} {k = m} sp o c) = close_array ts lvl start n a fs rs rs' ds gs es l i m at role e sp o c (lower ts l 3 (omega arith) h st)
  good_close_at a es l at role e h st (in_seq {n = n} {fs = fs} {rs = rs} {rs' = rs'} {ds = ds} {es = gs} {i = i} {k = m} sp u c) = close_seq ts lvl start n a fs rs rs' ds gs es l i m at role e sp u c (lower ts l 3 (omega arith) h st)
  good_close_at a es l at role e h st (in_arrow {n = n} {parts = parts} {fs = fs} {rs = rs} {rs' = rs'} {ds = ds} {i = i} {m = m} sp p o q c g k u) = close_arrow ts lvl start n parts a fs rs rs' ds es i m at sp p o q c g (subst (λ z. NoRoleAt ts z r.OpenBrace) k u) (from_place ts k (lower ts l 3 (omega arith) h st))
  good_close_at a es l at role e h st (in_value {p = p} {keys = keys} {fs = fs} {rs = rs} {rs' = rs'} {ds = ds} {es = gs} {i = i} {j = j} ob d o g q) = close_value ts lvl start p keys a fs rs rs' ds gs es i j at ob d o g (from_place ts q (lower ts l 3 (omega arith) h st))
  good_close_at a es l at role e h st (in_computed {fs = fs} {rs = rs} {ds = ds} {i = i} ob o q) = close_computed ts lvl start a fs rs ds es l i at role e ob o (from_place ts q (lower ts l 3 (omega arith) h st))
  good_close_at a es l at role e h st (in_computed_get {fs = fs} {rs = rs} {ds = ds} {i = i} ob g p o q) = close_computed_get ts lvl start a fs rs ds es l i at role e ob g (role_from ts r.OpenSquare p o) (from_place ts (q ∙ ap (λ z. z + 1) p) (lower ts l 3 (omega arith) h st))
  good_close_at a es l at role e h st (in_computed_set {fs = fs} {rs = rs} {ds = ds} {i = i} ob g p o q) = close_computed_set ts lvl start a fs rs ds es l i at role e ob g (role_from ts r.OpenSquare p o) (from_place ts (q ∙ ap (λ z. z + 1) p) (lower ts l 3 (omega arith) h st))

  good_short : (n : StrId) (fs : List Frame) (rs : List Rose) (ds : List ℕ) (i l at : ℕ) (role : Role) → Objects ts lvl start fs rs ds i → RoleAt ts i (r.Name n) → at ≡ i + 1 → Good ts lvl start (apply (close_move (Some (f.Value (named_property n))) l role) (f.Value (named_property n) ∷ fs) (node (named kd.Name n) none ∷ rs) ds at)
  good_short n fs rs ds i l at role ob o k =
      subst (λ z. ItemRead ts lvl start fs (node (value_label (named_property n)) (more (node (named kd.Name n) none) none) ∷ rs) ds z) (sym k) (item_read ob (shorthand o))

  good_close : {fs : List Frame} {rs : List Rose} {ds : List ℕ} {l at : ℕ} (role : Role) → role_at ts at ≡ role → hole (top fs) ≤ l → Behind ts lvl start fs rs ds l at → Good ts lvl start (apply (close_move (top fs) l role) fs rs ds at)
  good_close {l = l} {at = at} role e h (behind_operand {a = a} {es = es} sp st) = good_close_at a es l at role e h st sp
  good_close {l = l} {at = at} role e h (behind_short {n = n} {fs = fs} {rs = rs} {ds = ds} {i = i} ob o g p k) = good_short n fs rs ds i l at role ob o k

  -- parameters
  param_end : {maker : Maker} {n : ℕ} {keys : Roses} {fs : List Frame} {rs rs' : List Rose} {ds es : List ℕ} {i m at : ℕ} → Under ts lvl start maker fs rs ds i → Opening ts maker keys ds es i m → RoleAt ts m r.Open → EndedNames ts n (pushed keys rs) rs' (m + 1) at → RoleAt ts at r.Close → IsListing maker → Good ts lvl start (apply (params_move maker n) (f.Params maker n ∷ fs) rs' es at)
  param_end (under_arrow sp) arrow_opening o p e y = in_head sp (many o p.listed e) (sym p.count) p.stack
  param_end (under_arrow sp) (opening b) o p e y = elim b [ ]
  param_end (under_function sp) (opening b) o p e y = ready_made (under_function sp) b o (of_function p.listed) e (sym p.count) p.stack refl
  param_end (under_method ob) (opening b) o p e y = ready_made (under_method ob) b o (of_method p.listed) e (sym p.count) p.stack refl
  param_end (under_getter ob) (opening b) o p e y = absurd y
  param_end (under_setter ob) (opening b) o p e y = absurd y

  getter_end : {q : Property} {n : ℕ} {keys : Roses} {fs : List Frame} {rs rs' : List Rose} {ds es : List ℕ} {i m at : ℕ} → Objects ts lvl start fs rs ds i → Opening ts (mk.Getter q) keys ds es i m → RoleAt ts m r.Open → NameCommas ts (mk.Getter q) n (pushed keys rs) rs' (m + 1) at → RoleAt ts at r.Close → Ready ts lvl start (f.Made (mk.Getter q) n ∷ fs) rs' es (at + 1)
  getter_end ob (opening b) o no_name e = ready_made (under_getter ob) b o of_getter e refl refl refl
  getter_end ob (opening b) o (name_more y c d g p k) e = absurd y

  setter_end : {q : Property} {n : ℕ} {x : StrId} {keys : Roses} {fs : List Frame} {rs rs' : List Rose} {ds es : List ℕ} {i m j at : ℕ} → Objects ts lvl start fs rs ds i → Opening ts (mk.Setter q) keys ds es i m → RoleAt ts m r.Open → NameCommas ts (mk.Setter q) n (pushed keys rs) rs' (m + 1) j → RoleAt ts j (r.Name x) → at ≡ j + 1 → RoleAt ts at r.Close → Ready ts lvl start (f.Made (mk.Setter q) (n + 1) ∷ fs) (param x ∷ rs') es (at + 1)
  setter_end ob (opening b) o no_name w k e = ready_made (under_setter ob) b o (of_setter w) (role_from ts r.Close k e) refl refl (ap (λ z. z + 1) k)
  setter_end ob (opening b) o (name_more y c d g p q) w k e = absurd y

  good_param : {fs : List Frame} {rs : List Rose} {ds : List ℕ} {at : ℕ} (role : Role) → role_at ts at ≡ role → InParams ts lvl start fs rs ds at → Good ts lvl start (apply (param_move (top fs) role) fs rs ds at)
  good_param (r.Name x) e (in_params (under_arrow sp) op o c) = in_comma (under_arrow sp) op o c tt (record { is = e }) refl
  good_param r.Close e (in_params (under_arrow sp) op o c) = param_end (under_arrow sp) op o (end_names c) (record { is = e }) tt
  good_param _ e (in_params (under_arrow sp) op o c) = tt
  good_param (r.Name x) e (in_params (under_function sp) op o c) = in_comma (under_function sp) op o c tt (record { is = e }) refl
  good_param r.Close e (in_params (under_function sp) op o c) = param_end (under_function sp) op o (end_names c) (record { is = e }) tt
  good_param _ e (in_params (under_function sp) op o c) = tt
  good_param (r.Name x) e (in_params (under_method ob) op o c) = in_comma (under_method ob) op o c tt (record { is = e }) refl
  good_param r.Close e (in_params (under_method ob) op o c) = param_end (under_method ob) op o (end_names c) (record { is = e }) tt
  good_param _ e (in_params (under_method ob) op o c) = tt
  good_param r.Close e (in_params (under_getter ob) op o c) = getter_end ob op o c (record { is = e })
  good_param _ e (in_params (under_getter ob) op o c) = tt
  good_param (r.Name x) e (in_params (under_setter ob) op o c) = in_comma (under_setter ob) op o c tt (record { is = e }) refl
  good_param _ e (in_params (under_setter ob) op o c) = tt

  comma_more_of : {maker : Maker} {n : ℕ} {x : StrId} {keys : Roses} {fs : List Frame} {rs rs' : List Rose} {ds es : List ℕ} {i m j at : ℕ} → Under ts lvl start maker fs rs ds i → Opening ts maker keys ds es i m → RoleAt ts m r.Open → NameCommas ts maker n (pushed keys rs) rs' (m + 1) j → IsListing maker → RoleAt ts j (r.Name x) → at ≡ j + 1 → RoleAt ts at r.Comma → InParams ts lvl start (f.Params maker (n + 1) ∷ fs) (param x ∷ rs') es (at + 1)
  comma_more_of un op o c y w k e = in_params un op o (name_more y c w (role_from ts r.Comma k e) refl (ap (λ z. z + 1) k))

  good_comma : {fs : List Frame} {rs : List Rose} {ds : List ℕ} {at : ℕ} (role : Role) → role_at ts at ≡ role → InComma ts lvl start fs rs ds at → Good ts lvl start (apply (comma_move (top fs) role) fs rs ds at)
  good_comma r.Comma e (in_comma (under_arrow sp) op o c y w k) = comma_more_of (under_arrow sp) op o c tt w k (record { is = e })
  good_comma r.Close e (in_comma (under_arrow sp) op o c y w k) = param_end (under_arrow sp) op o (names_params c w k) (record { is = e }) tt
  good_comma _ e (in_comma (under_arrow sp) op o c y w k) = tt
  good_comma r.Comma e (in_comma (under_function sp) op o c y w k) = comma_more_of (under_function sp) op o c tt w k (record { is = e })
  good_comma r.Close e (in_comma (under_function sp) op o c y w k) = param_end (under_function sp) op o (names_params c w k) (record { is = e }) tt
  good_comma _ e (in_comma (under_function sp) op o c y w k) = tt
  good_comma r.Comma e (in_comma (under_method ob) op o c y w k) = comma_more_of (under_method ob) op o c tt w k (record { is = e })
  good_comma r.Close e (in_comma (under_method ob) op o c y w k) = param_end (under_method ob) op o (names_params c w k) (record { is = e }) tt
  good_comma _ e (in_comma (under_method ob) op o c y w k) = tt
  good_comma role e (in_comma (under_getter ob) op o c y w k) = absurd y
  good_comma r.Close e (in_comma (under_setter ob) op o c y w k) = setter_end ob op o c w k (record { is = e })
  good_comma _ e (in_comma (under_setter ob) op o c y w k) = tt

  head_at : (n : ℕ) (parts : Roses) (fs : List Frame) (rs rs' : List Rose) (ds : List ℕ) (i at : ℕ) (role : Role) (after_line : Bool) → role_at ts at ≡ role → after_line_at ts at ≡ after_line → Spine ts lvl start fs rs ds i → Head ts parts i at → n ≡ size parts → rs' ≡ pushed parts rs → Good ts lvl start (apply (head_move (Some (f.Head n)) role after_line) (f.Head n ∷ fs) rs' ds at)
  head_at n parts fs rs rs' ds i at r.Arrow true e q sp h c g = tt
  head_at n parts fs rs rs' ds i at r.Arrow false e q sp h c g = arrowed sp h (record { is = e }) (record { is = q }) c g refl
  head_at n parts fs rs rs' ds i at _ after_line e q sp h c g = tt

  good_head : {fs : List Frame} {rs : List Rose} {ds : List ℕ} {at : ℕ} (role : Role) (after_line : Bool) → role_at ts at ≡ role → after_line_at ts at ≡ after_line → InHead ts lvl start fs rs ds at → Good ts lvl start (apply (head_move (top fs) role after_line) fs rs ds at)
  good_head role after_line e q (in_head {n = n} {parts = parts} {fs = fs} {rs = rs} {rs' = rs'} {ds = ds} {i = i} {k = at} sp h c g) = head_at n parts fs rs rs' ds i at role after_line e q sp h c g

  good_title : {fs : List Frame} {rs : List Rose} {ds : List ℕ} {at : ℕ} (role : Role) → role_at ts at ≡ role → Titled ts lvl start fs rs ds at → Good ts lvl start (apply (title_move role) fs rs ds at)
  good_title {at = at} (r.Name n) e (title_read {fs = fs} {rs = rs} {ds = ds} {i = i} sp o k) =
      headed (under_function sp) (subst (λ z. Before ts (mk.Function (Some n)) none ds ds i (z + 1)) (sym k) (with_name o (role_from ts (r.Name n) k (record { is = e })))) refl
  good_title {at = at} r.Open e (title_read {fs = fs} {rs = rs} {ds = ds} {i = i} sp o k) =
      in_params (under_function sp) (opening (subst (λ z. Before ts (mk.Function None) none ds ds i z) (sym k) (unnamed o))) (record { is = e }) no_name
  good_title _ e g = tt

  good_header : {fs : List Frame} {rs : List Rose} {ds : List ℕ} {at : ℕ} (role : Role) → role_at ts at ≡ role → Headed ts lvl start fs rs ds at → Good ts lvl start (apply (open_move (top fs) role) fs rs ds at)
  good_header {at = at} r.Open e (headed {maker = maker} {keys = keys} {fs = fs} {rs = rs} {rs' = rs'} {ds = ds} {es = es} un b g) =
      subst (λ z. InParams ts lvl start (f.Params maker 0 ∷ fs) z es (at + 1)) (sym g) (in_params un (opening b) (record { is = e }) no_name)
  good_header _ e (headed un b g) = tt

  good_brace : {fs : List Frame} {rs : List Rose} {ds : List ℕ} {at : ℕ} (role : Role) → role_at ts at ≡ role → Ready ts lvl start fs rs ds at → Good ts lvl start (apply (brace_move role) fs rs ds at)
  good_brace r.OpenBrace e g = braced g (record { is = e }) refl refl
  good_brace _ e g = tt

  -- properties
  good_name : (fs : List Frame) (rs : List Rose) (ds : List ℕ) (at : ℕ) (n : StrId) (follow : Follow) (u : Option Soft) → follow_at ts at ≡ follow → WordText (token_at ts at) n → RoleAt ts at (r.Name n) → ((o : Soft) → u ≡ Some o → token_at ts at ≡ Some (t.Soft o n)) → Objects ts lvl start fs rs ds at → Good ts lvl start (apply (name_move n follow u) fs rs ds at)
  good_name fs rs ds at n fo.Names u g w e q ob = key_read ob (key_word w) refl
  good_name fs rs ds at n fo.Ends u g w e q ob = behind_short ob e g refl refl
  good_name fs rs ds at n fo.Other None g w e q ob = key_read ob (key_word w) refl
  good_name fs rs ds at n fo.Other (Some Get) g w e q ob = getting ob (record { text = n; is = q Get refl }) refl
  good_name fs rs ds at n fo.Other (Some Set) g w e q ob = setting ob (record { text = n; is = q Set refl }) refl

  object_end : {fs : List Frame} {rs : List Rose} {ds : List ℕ} {at : ℕ} (follow : Follow) → RoleAt ts at r.CloseBrace → Objects ts lvl start fs rs ds at → Good ts lvl start (apply (property_move (top fs) (Some (t.Mark m.CloseBrace)) follow) fs rs ds at)
  object_end {at = at} follow e (in_object {n = n} {fs = fs} {rs = rs} {rs' = rs'} {es = es} sp o c) =
      let p = end_properties c in
      good_built ts lvl start (bare kd.ObjectLit) (After 18) fs rs es (at + 1) _ p.parts (ap (λ x. gather n x none) p.stack ∙ gathers p.parts 0 n rs (omega (arith, p.count))) (behind_operand sp (object o p.listed e))

  good_mark : (fs : List Frame) (rs : List Rose) (ds : List ℕ) (at : ℕ) (mark : Mark) (follow : Follow) → token_at ts at ≡ Some (t.Mark mark) → Objects ts lvl start fs rs ds at → Good ts lvl start (apply (property_move (top fs) (Some (t.Mark mark)) follow) fs rs ds at)
  good_mark fs rs ds at m.OpenBracket follow e ob = in_computed ob (record { is = ap role_of e }) refl
  good_mark fs rs ds at m.CloseBrace follow e ob = object_end follow (record { is = ap role_of e }) ob
  good_mark fs rs ds at _ follow e ob = tt

  good_property : (fs : List Frame) (rs : List Rose) (ds : List ℕ) (at : ℕ) (token : Option Token) (follow : Follow) → token_at ts at ≡ token → follow_at ts at ≡ follow → Objects ts lvl start fs rs ds at → Good ts lvl start (apply (property_move (top fs) token follow) fs rs ds at)
  good_property fs rs ds at (Some (t.Name n)) follow e g ob = good_name fs rs ds at n follow None g (subst (λ z. WordText z n) (sym e) name) (record { is = ap role_of e }) (λ o q. cc) ob
  good_property fs rs ds at (Some (t.Soft u n)) follow e g ob = good_name fs rs ds at n follow (Some u) g (subst (λ z. WordText z n) (sym e) soft) (record { is = ap role_of e }) (λ o q. let p : u ≡ o = cc in e ∙ ap (λ z. Some (t.Soft z n)) p) ob
  good_property fs rs ds at (Some (t.Reserved w n)) follow e g ob = key_read ob (key_word (subst (λ z. WordText z n) (sym e) reserved)) refl
  good_property fs rs ds at (Some (t.Text n)) follow e g ob = key_read ob (key_text (record { is = e })) refl
  good_property fs rs ds at (Some (t.Whole z)) follow e g ob = key_read ob (key_number (record { is = e })) refl
  good_property fs rs ds at (Some (t.Mark mark)) follow e g ob = good_mark fs rs ds at mark follow e ob
  good_property fs rs ds at None follow e g ob = tt

  get_key : {p : Property} {fs : List Frame} {rs : List Rose} {ds : List ℕ} {i at : ℕ} → Objects ts lvl start fs rs ds i → GetAt ts i → at ≡ i + 1 → KeyOf ts p none ds ds at (at + 1) → Headed ts lvl start (f.Header (mk.Getter p) ∷ fs) rs ds (at + 1)
  get_key {p = p} {ds = ds} {at = at} ob g k d = headed (under_getter ob) (getter g (subst (λ z. KeyOf ts p none ds ds z (at + 1)) k d)) refl

  set_key : {p : Property} {fs : List Frame} {rs : List Rose} {ds : List ℕ} {i at : ℕ} → Objects ts lvl start fs rs ds i → SetAt ts i → at ≡ i + 1 → KeyOf ts p none ds ds at (at + 1) → Headed ts lvl start (f.Header (mk.Setter p) ∷ fs) rs ds (at + 1)
  set_key {p = p} {ds = ds} {at = at} ob g k d = headed (under_setter ob) (setter g (subst (λ z. KeyOf ts p none ds ds z (at + 1)) k d)) refl

  good_key_mark : {fs : List Frame} {rs : List Rose} {ds : List ℕ} {at : ℕ} (mark : Mark) → token_at ts at ≡ Some (t.Mark mark) → Accessing ts lvl start fs rs ds at → Good ts lvl start (apply (key_move (top fs) (Some (t.Mark mark))) fs rs ds at)
  good_key_mark m.OpenBracket e (getting ob g k) = in_computed_get ob g k (record { is = ap role_of e }) refl
  good_key_mark _ e (getting ob g k) = tt
  good_key_mark m.OpenBracket e (setting ob g k) = in_computed_set ob g k (record { is = ap role_of e }) refl
  good_key_mark _ e (setting ob g k) = tt

  good_key : {fs : List Frame} {rs : List Rose} {ds : List ℕ} {at : ℕ} (token : Option Token) → token_at ts at ≡ token → Accessing ts lvl start fs rs ds at → Good ts lvl start (apply (key_move (top fs) token) fs rs ds at)
  good_key (Some (t.Name n)) e (getting ob g k) = get_key ob g k (key_word (subst (λ z. WordText z n) (sym e) name))
  good_key (Some (t.Soft u n)) e (getting ob g k) = get_key ob g k (key_word (subst (λ z. WordText z n) (sym e) soft))
  good_key (Some (t.Reserved w n)) e (getting ob g k) = get_key ob g k (key_word (subst (λ z. WordText z n) (sym e) reserved))
  good_key (Some (t.Text n)) e (getting ob g k) = get_key ob g k (key_text (record { is = e }))
  good_key (Some (t.Whole z)) e (getting ob g k) = get_key ob g k (key_number (record { is = e }))
  good_key (Some (t.Mark mark)) e (getting ob g k) = good_key_mark mark e (getting ob g k)
  good_key None e (getting ob g k) = tt
  good_key (Some (t.Name n)) e (setting ob g k) = set_key ob g k (key_word (subst (λ z. WordText z n) (sym e) name))
  good_key (Some (t.Soft u n)) e (setting ob g k) = set_key ob g k (key_word (subst (λ z. WordText z n) (sym e) soft))
  good_key (Some (t.Reserved w n)) e (setting ob g k) = set_key ob g k (key_word (subst (λ z. WordText z n) (sym e) reserved))
  good_key (Some (t.Text n)) e (setting ob g k) = set_key ob g k (key_text (record { is = e }))
  good_key (Some (t.Whole z)) e (setting ob g k) = set_key ob g k (key_number (record { is = e }))
  good_key (Some (t.Mark mark)) e (setting ob g k) = good_key_mark mark e (setting ob g k)
  good_key None e (setting ob g k) = tt

  good_keyed : {fs : List Frame} {rs : List Rose} {ds : List ℕ} {at : ℕ} (role : Role) → role_at ts at ≡ role → KeyRead ts lvl start fs rs ds at → Good ts lvl start (apply (keyed_move (top fs) role) fs rs ds at)
  good_keyed r.Colon e (key_read ob d g) = in_value ob d (record { is = e }) g refl
  good_keyed {at = at} r.Open e (key_read {p = p} {fs = fs} {es = es} ob d g) =
      subst (λ z. InParams ts lvl start (f.Params (mk.Method p) 0 ∷ fs) z es (at + 1)) (sym g) (in_params (under_method ob) (opening (method d)) (record { is = e }) no_name)
  good_keyed _ e (key_read ob d g) = tt

  item_at : (n : ℕ) (a : Rose) (fs : List Frame) (rs rs' : List Rose) (ds es gs : List ℕ) (i k at : ℕ) (role : Role) → role_at ts at ≡ role → Spine ts lvl start fs rs ds i → RoleAt ts i r.OpenBrace → PropertyCommas ts n rs rs' ds es (i + 1) k → PropertyOf ts a es gs k at → Good ts lvl start (apply (item_move (Some (f.Object n)) role) (f.Object n ∷ fs) (a ∷ rs') gs at)
  item_at n a fs rs rs' ds es gs i k at r.Comma e sp o c d = in_object sp o (property_more c d (record { is = e }) refl refl)
  item_at n a fs rs rs' ds es gs i k at r.CloseBrace e sp o c d =
      let p = close_properties c (more a none) gs at (last_property d) in
      good_built ts lvl start (bare kd.ObjectLit) (After 18) fs rs gs (at + 1) _ p.parts (ap (λ x. gather (n + 1) x none) p.stack ∙ gathers p.parts 0 (n + 1) rs (omega (arith, p.count))) (behind_operand sp (object o (properties p.listed) (record { is = e })))
  item_at n a fs rs rs' ds es gs i k at _ e sp o c d = tt

  good_item : {fs : List Frame} {rs : List Rose} {ds : List ℕ} {at : ℕ} (role : Role) → role_at ts at ≡ role → ItemRead ts lvl start fs rs ds at → Good ts lvl start (apply (item_move (top fs) role) fs rs ds at)
  good_item {at = at} role e (item_read {a = a} {es = gs} (in_object {n = n} {fs = fs} {rs = rs} {rs' = rs'} {ds = ds} {es = es} {i = i} {k = k} sp o c) d) = item_at n a fs rs rs' ds es gs i k at role e sp o c d

  -- a name behind a dot
  word_read : {fs : List Frame} {rs : List Rose} {ds : List ℕ} {l at : ℕ} (n : StrId) → WordText (token_at ts at) n → Dotted ts lvl start fs rs ds l at → Good ts lvl start (apply (Suffix (named kd.Member n) (After l)) fs rs ds at)
  word_read {at = at} n w (dotted {l = l'} {fs = fs} {a = a} {rs = rs} {es = es} sp u st o q) =
      subst (λ y. Behind ts lvl start fs (node (named kd.Member n) (more a none) ∷ rs) es l' (y + 1)) (sym q) (behind_operand sp (member u st o (subst (λ y. WordText (token_at ts y) n) q w)))

  good_word : {fs : List Frame} {rs : List Rose} {ds : List ℕ} {l at : ℕ} (token : Option Token) → token_at ts at ≡ token → Dotted ts lvl start fs rs ds l at → Good ts lvl start (apply (word_move l token) fs rs ds at)
  good_word (Some (t.Name n)) e d = word_read n (subst (λ z. WordText z n) (sym e) name) d
  good_word (Some (t.Soft u n)) e d = word_read n (subst (λ z. WordText z n) (sym e) soft) d
  good_word (Some (t.Reserved w n)) e d = word_read n (subst (λ z. WordText z n) (sym e) reserved) d
  good_word _ e d = tt

  -- a body in braces
  block_made : {maker : Maker} {a : Rose} {fs : List Frame} {rs : List Rose} {ds es : List ℕ} {i at : ℕ} → Under ts lvl start maker fs rs ds i → Made ts maker a ds es i at → Good ts lvl start (Going fs (a ∷ rs) es (made_mode maker) at)
  block_made (under_arrow sp) (made b o p c x s q) = elim b [ ]
  block_made (under_function sp) d = behind_operand sp (function tt d)
  block_made (under_method ob) d = item_read ob (maker_of tt d)
  block_made (under_getter ob) d = item_read ob (maker_of tt d)
  block_made (under_setter ob) d = item_read ob (maker_of tt d)

  made_at : (maker : Maker) (n : ℕ) (keys parts body : Roses) (ds es gs : List ℕ) (i m j k l o at : ℕ) → Before ts maker keys ds es i m → RoleAt ts m r.Open → MakerParams ts maker parts (m + 1) j → RoleAt ts j r.Close → n ≡ size parts → k ≡ j + 1 → RoleAt ts k r.OpenBrace → l ≡ k + 1 → gs ≡ l ∷ es → Statements ts body l o → RoleAt ts o r.CloseBrace → at ≡ o + 1 → Made ts maker (node (made_label maker n) (join keys (join parts body))) ds gs i at
  made_at maker n keys parts body ds es gs i m j k l o at b u p c cn ek e el eg st cb z =
      let place : l ≡ j + 1 + 1 = el ∙ ap (λ y. y + 1) ek in
      subst (λ y. Made ts maker (node (made_label maker y) (join keys (join parts body))) ds gs i at) (sym cn)
      (subst (λ y. Made ts maker (node (made_label maker (size parts)) (join keys (join parts body))) ds gs i y) (sym z)
      (subst (λ y. Made ts maker (node (made_label maker (size parts)) (join keys (join parts body))) ds y i (o + 1)) (sym (eg ∙ ap (λ y. y ∷ es) place))
      (made b u p c (role_from ts r.OpenBrace ek e) (subst (λ y. Statements ts body y o) place st) cb)))

  arrow_at : (n : ℕ) (parts body : Roses) (ds gs : List ℕ) (i m k l o at : ℕ) → Head ts parts i m → RoleAt ts m r.Arrow → SameLine ts m → n ≡ size parts → k ≡ m + 1 → RoleAt ts k r.OpenBrace → l ≡ k + 1 → gs ≡ l ∷ ds → Statements ts body l o → RoleAt ts o r.CloseBrace → at ≡ o + 1 → Stands ts 3 (node (bare (kd.Arrow n true)) (join parts body)) ds gs i at
  arrow_at n parts body ds gs i m k l o at h a s cn ek e el eg st cb z =
      let place : l ≡ m + 1 + 1 = el ∙ ap (λ y. y + 1) ek in
      subst (λ y. Stands ts 3 (node (bare (kd.Arrow y true)) (join parts body)) ds gs i at) (sym cn)
      (subst (λ y. Stands ts 3 (node (bare (kd.Arrow (size parts) true)) (join parts body)) ds gs i y) (sym z)
      (subst (λ y. Stands ts 3 (node (bare (kd.Arrow (size parts) true)) (join parts body)) ds y i (o + 1)) (sym (eg ∙ ap (λ y. y ∷ ds) place))
      (arrow_block h a s (role_from ts r.OpenBrace ek e) (subst (λ y. Statements ts body y o) place st) cb)))

  good_block : {fs : List Frame} {rs : List Rose} {ds : List ℕ} {count at : ℕ} → Blocked ts lvl start fs rs ds count at → Good ts lvl start (apply (block_move (top fs) count) fs rs ds at)
  good_block {at = at} (blocked {count = count} {body = body} {j = o} (braced {es = gs} {i = k} {k = l} (ready_arrow (arrowed {n = n} {parts = parts} {fs = fs} {rs = rs} {ds = ds} {i = i} {m = m} sp h a s cn g ek)) e el eg) st cb z y v) =
      good_built ts lvl start (bare (kd.Arrow n true)) (After 3) fs rs gs at _ (join parts body)
      (ap (λ x. gather (n + count + 0) x none) (y ∙ ap (pushed body) g) ∙ made_gathers none parts body 0 (n + count + 0) rs refl (omega (arith, cn, v)))
      (behind_operand sp (arrow_at n parts body ds gs i m k l o at h a s cn ek e el eg st cb z))
  good_block {at = at} (blocked {count = count} {body = body} {j = o} (braced {es = gs} {i = k} {k = l} (ready_made {maker = maker} {n = n} {keys = keys} {parts = parts} {fs = fs} {rs = rs} {ds = ds} {es = es} {i = i} {m = m} {j = j} un b u p c cn g ek) e el eg) st cb z y v) =
      good_built ts lvl start (made_label maker n) (made_mode maker) fs rs gs at _ (join keys (join parts body))
      (ap (λ x. gather (n + count + made_extra maker) x none) (y ∙ ap (pushed body) g) ∙ made_gathers keys parts body (made_extra maker) (n + count + made_extra maker) rs (before_size b) (omega (arith, cn, v)))
      (block_made un (made_at maker n keys parts body ds es gs i m j k l o at b u p c cn ek e el eg st cb z))

  -- one step
  pub good_step : (fs : List Frame) (rs : List Rose) (ds : List ℕ) (mode : Mode) (at : ℕ) → Good ts lvl start (Going fs rs ds mode at) → Good ts lvl start (apply (move_at ts fs mode at) fs rs ds at)
  good_step fs rs ds mo.Operand at g = good_value ts lvl start fs rs ds at (role_at ts at) (ahead_at ts at) refl g
  good_step fs rs ds mo.Body at g = good_body ts lvl start fs rs ds at (role_at ts at) (ahead_at ts at) refl g
  good_step fs rs ds (mo.Block count) at g = good_block g
  good_step fs rs ds (mo.Word l) at g = good_word (token_at ts at) refl g
  good_step fs rs ds mo.Title at g = good_title (role_at ts at) refl g
  good_step fs rs ds mo.Open at g = good_header (role_at ts at) refl g
  good_step fs rs ds mo.Param at g = good_param (role_at ts at) refl g
  good_step fs rs ds mo.Comma at g = good_comma (role_at ts at) refl g
  good_step fs rs ds mo.Arrow at g = good_head (role_at ts at) (after_line_at ts at) refl refl g
  good_step fs rs ds mo.Brace at g = good_brace (role_at ts at) refl g
  good_step fs rs ds mo.Property at g = good_property fs rs ds at (token_at ts at) (follow_at ts at) refl refl g
  good_step fs rs ds mo.Key at g = good_key (token_at ts at) refl g
  good_step fs rs ds mo.Keyed at g = good_keyed (role_at ts at) refl g
  good_step fs rs ds mo.Item at g = good_item (role_at ts at) refl g
  good_step fs rs ds (mo.After l) at g = go (nat_lt l (hole (top fs))) refl (nat_lt (strength (role_at ts at) (after_line_at ts at)) (hole (top fs))) refl (nat_lt l (least_before (role_at ts at))) refl
    where
      go : (a : Bool) → nat_lt l (hole (top fs)) ≡ a → (b : Bool) → nat_lt (strength (role_at ts at) (after_line_at ts at)) (hole (top fs)) ≡ b → (d : Bool) → nat_lt l (least_before (role_at ts at)) ≡ d → Good ts lvl start (apply (if a then Wrong else (if b then close_move (top fs) l (role_at ts at) else (if d then Wrong else taken_move (top fs) l (role_at ts at)))) fs rs ds at)
      go true p b q d o = tt
      go false p true q d o = good_close (role_at ts at) refl (ltb-false l (hole (top fs)) p) g
      go false p false q true o = tt
      go false p false q false o = good_taken ts lvl start (role_at ts at) (after_line_at ts at) refl refl (ltb-false (strength (role_at ts at) (after_line_at ts at)) (hole (top fs)) q) (ltb-false l (least_before (role_at ts at)) o) g
