-- What the frames cover where a node is built.
use Rattle.std.proofs.Common.{◌≡◌, ◌⊎◌, inl, inr, ℕ, ◌+◌, ◌<◌, ◌≤◌, Bool, true, false, List, ◌∷◌, Some, None, refl, sym, ap, subst, ◌∙◌, arith, add-one}
use Rattle.std.specs.Prelude.{nat_lt, nat_eq, if◌then◌else◌}
use Rattle.std.proofs.lemmas.Bool.{ltb-false, eqb-false}
use Rattle.mb_token.specs.declared.token.Spanned.{Spanned}
use Rattle.mb_token.specs.declared.word.Soft.TheVariants.{Get, Set}
use Rattle.mb_tree.specs.declared.kind.Kind.TheVariants as kd
use Rattle.mb_tree.specs.declared.kind.Sign.{Sign}
use Rattle.mb_tree.specs.declared.kind.Sign.TheVariants as s
use Rattle.mb_tree.specs.Roses.{Rose, Roses, node, none, more, bare, size, join}
use Rattle.mb_tree.specs.machine.Operands.{pushed, Gathered, Got, gather}
use Rattle.mb_tree.proofs.Written.{gather_pushed, gathers}
use Rattle.mb_grammar.specs.declared.role.Role.{Role}
use Rattle.mb_grammar.specs.declared.role.Role.TheVariants as r
use Rattle.mb_parse_expr.specs.declared.role.Follow.TheVariants as fo
use Rattle.mb_grammar.specs.declared.level.Level.{Level}
use Rattle.mb_tree.specs.declared.tree.Label.{Label}
use Rattle.mb_grammar.specs.declared.function.Property.{Property}
use Rattle.mb_parse_expr.specs.declared.machine.Frame.{Frame}
use Rattle.mb_parse_expr.specs.declared.machine.Frame.TheVariants as f
use Rattle.mb_parse_expr.specs.declared.machine.Mode.{Mode}
use Rattle.mb_parse_expr.specs.declared.machine.Mode.TheVariants as mo
use Rattle.mb_parse_expr.specs.declared.machine.Mode.TheVariants.{Operand, After}
use Rattle.mb_parse_expr.specs.declared.machine.Move.TheVariants.{Swap, Build, Wrong}
use Rattle.mb_grammar.specs.Tokens.{role_at, after_line_at, RoleAt, NoRoleAt, SameLine}
use Rattle.mb_parse_expr.specs.machine.Machine.{follow_of, extra_of, hole, strength, least_before, value_move, taken_move, close_move, body_move, Going, built, apply}
use Rattle.mb_grammar.specs.Nonterminals.{level_of}
use Rattle.mb_grammar.specs.Labels.{value_label}
use Rattle.mb_grammar.specs.Parts.{GetAt, SetAt, Head, one}
use Rattle.mb_grammar.specs.Grammar.{Stands, seq, arrow_value, behind, new_new, new_args, index, call, this, name_of, number, text, literal, array, group, Listed, last_of, then_of, elements, KeyOf, key_computed, getter, setter, valued}
use Rattle.mb_tree.specs.machine.Stack.{top}
use Rattle.mb_parse_expr.proofs.Steps.{level_bound, hole_range, sign_range, key_size, valued_gathers, no_brace}
use Rattle.mb_parse_expr.specs.machine.Covers.{Commas, no_comma, comma_more, no_property_yet, no_name, arrow_opening, Spine, in_infix, in_or, in_and, in_becomes, in_compound, in_test, in_choice, in_unary, in_negative, in_before, in_new, in_group, in_index, in_args, in_new_args, in_array, in_seq, in_arrow, Objects, in_object, under_arrow, under_getter, under_setter, title_read, headed, in_params, in_head, Arrowed, arrowed, ready_arrow, Braced, braced, dotted, key_read, item_read, Behind, behind_operand, behind_short, Good}
use Rattle.mb_parse_expr.proofs.Closings.{to_new, lower, from_place, close_commas, end_commas}

module _ (ts : List Spanned) (lvl : Level) (start : ℕ) where
  pub good_built : (label : Label) (mode : Mode) (fs : List Frame) (rs : List Rose) (ds : List ℕ) (at : ℕ) (got : Gathered) (parts : Roses) → got ≡ Got parts rs → Good ts lvl start (Going fs (node label parts ∷ rs) ds mode at) → Good ts lvl start (built label mode fs ds at got)
  good_built label mode fs rs ds at got parts e b = subst (λ g. Good ts lvl start (built label mode fs ds at g)) (sym e) b

  -- an operand begins
  pub good_empty_close : {fs : List Frame} {rs : List Rose} {ds : List ℕ} {at : ℕ} (ahead : Bool) → RoleAt ts at r.Close → Spine ts lvl start fs rs ds at → Good ts lvl start (apply (value_move (top fs) r.Close ahead) fs rs ds at)
  good_empty_close {at = at} ahead e (in_args {n = n} {a = a} {fs = fs} {rs = rs} {rs' = rs'} {gs = gs} sp u d o c) =
      let p = end_commas c in
      good_built (bare kd.Call) (After 17) fs rs gs (at + 1) _ (more a p.parts) (ap (λ x. gather (n + 1) x none) p.stack ∙ gathers p.parts 1 (n + 1) (a ∷ rs) (omega (arith, p.count))) (behind_operand sp (call u d o p.listed e))
  good_empty_close {at = at} ahead e (in_new_args {n = n} {a = a} {fs = fs} {rs = rs} {rs' = rs'} {gs = gs} sp w d o c) =
      let p = end_commas c in
      good_built (bare kd.New) (After 18) fs rs gs (at + 1) _ (more a p.parts) (ap (λ x. gather (n + 1) x none) p.stack ∙ gathers p.parts 1 (n + 1) (a ∷ rs) (omega (arith, p.count))) (behind_operand sp (new_args w d o p.listed e))
  good_empty_close ahead e _ = tt

  pub good_empty_square : {fs : List Frame} {rs : List Rose} {ds : List ℕ} {at : ℕ} (ahead : Bool) → RoleAt ts at r.CloseSquare → Spine ts lvl start fs rs ds at → Good ts lvl start (apply (value_move (top fs) r.CloseSquare ahead) fs rs ds at)
  good_empty_square {at = at} ahead e (in_array {n = n} {fs = fs} {rs = rs} {es = es} sp o c) =
      let p = end_commas c in
      good_built (bare kd.ArrayLit) (After 18) fs rs es (at + 1) _ p.parts (ap (λ x. gather n x none) p.stack ∙ gathers p.parts 0 n rs (omega (arith, p.count))) (behind_operand sp (array o p.listed e))
  good_empty_square ahead e _ = tt

  pub good_minus : (fs : List Frame) (rs : List Rose) (ds : List ℕ) (at : ℕ) (sign : Sign) (ahead : Bool) → RoleAt ts at (r.Infix sign) → Spine ts lvl start fs rs ds at → Good ts lvl start (apply (value_move (top fs) (r.Infix sign) ahead) fs rs ds at)
  good_minus fs rs ds at s.Minus ahead e sp = in_negative sp e refl
  good_minus fs rs ds at _ ahead e sp = tt

  pub good_value : (fs : List Frame) (rs : List Rose) (ds : List ℕ) (at : ℕ) (role : Role) (ahead : Bool) → role_at ts at ≡ role → Spine ts lvl start fs rs ds at → Good ts lvl start (apply (value_move (top fs) role ahead) fs rs ds at)
  good_value fs rs ds at (r.Name n) true e sp = in_head sp (one (record { is = e })) refl refl
  good_value fs rs ds at (r.Name n) false e sp = behind_operand sp (name_of (record { is = e }))
  good_value fs rs ds at (r.Number z) ahead e sp = behind_operand sp (number (record { is = e }))
  good_value fs rs ds at (r.Text n) ahead e sp = behind_operand sp (text (record { is = e }))
  good_value fs rs ds at r.This ahead e sp = behind_operand sp (this (record { is = e }))
  good_value fs rs ds at (r.Fixed x) ahead e sp = behind_operand sp (literal (record { is = e }))
  good_value fs rs ds at r.Function ahead e sp = title_read sp (record { is = e }) refl
  good_value fs rs ds at r.New ahead e sp = in_new sp (record { is = e }) refl
  good_value fs rs ds at (r.Prefix sign) ahead e sp = in_unary sp (record { is = e }) refl
  good_value fs rs ds at (r.Infix sign) ahead e sp = good_minus fs rs ds at sign ahead (record { is = e }) sp
  good_value fs rs ds at (r.Step plus) ahead e sp = in_before sp (record { is = e }) refl
  good_value fs rs ds at r.Open true e sp = in_params (under_arrow sp) arrow_opening (record { is = e }) no_name
  good_value fs rs ds at r.Open false e sp = in_group sp (record { is = e }) refl
  good_value fs rs ds at r.OpenSquare ahead e sp = in_array sp (record { is = e }) no_comma
  good_value fs rs ds at r.OpenBrace ahead e sp = in_object sp (record { is = e }) no_property_yet
  good_value fs rs ds at r.Close ahead e sp = good_empty_close ahead (record { is = e }) sp
  good_value fs rs ds at r.CloseSquare ahead e sp = good_empty_square ahead (record { is = e }) sp
  good_value fs rs ds at _ ahead e sp = tt

  pub braced_arrow : {fs : List Frame} {rs : List Rose} {ds : List ℕ} {at : ℕ} → RoleAt ts at r.OpenBrace → Arrowed ts lvl start fs rs ds at → Braced ts lvl start fs rs ((at + 1) ∷ ds) (at + 1)
  braced_arrow e a = braced (ready_arrow a) e refl refl

  pub spine_arrow : {fs : List Frame} {rs : List Rose} {ds : List ℕ} {at : ℕ} → NoRoleAt ts at r.OpenBrace → Arrowed ts lvl start fs rs ds at → Spine ts lvl start fs rs ds at
  spine_arrow n (arrowed sp h a l c g k) = in_arrow sp h a l c g k n

  pub not_brace : (at : ℕ) (role : Role) → role_at ts at ≡ role → (role ≡ r.OpenBrace → ⊥) → NoRoleAt ts at r.OpenBrace
  not_brace at role e n = record { differs = λ q. n (sym e ∙ q) }

  pub is_brace : (role : Role) → (role ≡ r.OpenBrace) ⊎ (role ≡ r.OpenBrace → ⊥)
  is_brace r.OpenBrace = inl refl
  is_brace _ = inr (λ e. cc)

  pub good_body : (fs : List Frame) (rs : List Rose) (ds : List ℕ) (at : ℕ) (role : Role) (ahead : Bool) → role_at ts at ≡ role → Arrowed ts lvl start fs rs ds at → Good ts lvl start (apply (body_move (top fs) role ahead) fs rs ds at)
  good_body fs rs ds at role ahead e a = go (is_brace role)
    where
      go : (role ≡ r.OpenBrace) ⊎ (role ≡ r.OpenBrace → ⊥) → Good ts lvl start (apply (body_move (top fs) role ahead) fs rs ds at)
      go (inl q) = subst (λ x. Good ts lvl start (apply (body_move (top fs) x ahead) fs rs ds at)) (sym q) (braced_arrow (record { is = e ∙ q }) a)
      go (inr n) = subst (λ x. Good ts lvl start (apply x fs rs ds at)) (sym (no_brace (top fs) role ahead n)) (good_value fs rs ds at role ahead e (spine_arrow (not_brace at role e n) a))

  -- an operand, and a token that goes on with it
  pub good_open : {fs : List Frame} {rs : List Rose} {ds : List ℕ} {i : ℕ} (a : Rose) (l : ℕ) (es : List ℕ) (at : ℕ) → 17 ≤ l → Stands ts l a ds es i at → RoleAt ts at r.Open → Spine ts lvl start fs rs ds i → Good ts lvl start (apply (taken_move (top fs) l r.Open) fs (a ∷ rs) es at)
  good_open {rs = rs} {ds = ds} a l es at u st e (in_new {fs = fs} {i = i'} {k = i} sp o q) = go (nat_lt l 18) refl
    where
      go : (b : Bool) → nat_lt l 18 ≡ b → Good ts lvl start (apply (if b then Wrong else Swap (f.NewArgs 0) Operand) (f.New ∷ fs) (a ∷ rs) es at)
      go true h = tt
      go false h =
          let b = level_bound st in
          let g = ltb-false l 18 h in
          let p : l ≡ 18 = omega arith in
          in_new_args sp o (from_place ts q (subst (λ n. Stands ts n a ds es i at) p st)) e no_comma
  good_open a l es at u st e sp = in_args sp u st e no_comma

  pub not_after_line : (plus after_line : Bool) (h : ℕ) → 1 ≤ h → h ≤ strength (r.Step plus) after_line → after_line ≡ false
  not_after_line plus true h p q = absurd (omega arith)
  not_after_line plus false h p q = refl

  pub ends_low : (role : Role) (after_line : Bool) → follow_of role ≡ fo.Ends → strength role after_line < 3
  ends_low r.Comma after_line e = omega arith
  ends_low r.CloseBrace after_line e = omega arith
  ends_low _ after_line e = cc

  pub good_taken_at : (fs : List Frame) (a : Rose) (rs : List Rose) (ds es : List ℕ) (l i at : ℕ) (role : Role) (after_line : Bool) → role_at ts at ≡ role → after_line_at ts at ≡ after_line → Spine ts lvl start fs rs ds i → Stands ts l a ds es i at → hole (top fs) ≤ strength role after_line → least_before role ≤ l → Good ts lvl start (apply (taken_move (top fs) l role) fs (a ∷ rs) es at)
  good_taken_at fs a rs ds es l i at r.Comma after_line e q sp st h u = in_seq sp (omega arith) (comma_more no_comma (lower ts l 3 (omega arith) u st) (record { is = e }) refl refl)
  good_taken_at fs a rs ds es l i at r.Becomes after_line e q sp st h u = in_becomes sp (lower ts l 15 (omega arith) u st) (record { is = e }) refl
  good_taken_at fs a rs ds es l i at (r.Compound sign) after_line e q sp st h u = in_compound sp (lower ts l 15 (omega arith) u st) (record { is = e }) refl
  good_taken_at fs a rs ds es l i at r.Question after_line e q sp st h u = in_test sp (lower ts l 6 (omega arith) u st) (record { is = e }) refl
  good_taken_at fs a rs ds es l i at r.Or after_line e q sp st h u = in_or sp (lower ts l 8 (omega arith) u st) (record { is = e }) refl
  good_taken_at fs a rs ds es l i at r.And after_line e q sp st h u = in_and sp (lower ts l 10 (omega arith) u st) (record { is = e }) refl
  good_taken_at fs a rs ds es l i at (r.Infix sign) after_line e q sp st h u = in_infix sp (lower ts l (level_of sign) (omega (arith, (sign_range sign).1)) u st) (record { is = e }) refl
  good_taken_at fs a rs ds es l i at (r.Step plus) after_line e q sp st h u =
      behind_operand sp (behind (lower ts l 15 (omega arith) u st) (record { is = e }) (record { is = q ∙ not_after_line plus after_line (hole (top fs)) (hole_range (top fs)).0 h }))
  good_taken_at fs a rs ds es l i at r.OpenSquare after_line e q sp st h u = in_index sp u st (record { is = e }) refl
  good_taken_at fs a rs ds es l i at r.Dot after_line e q sp st h u = dotted sp u st (record { is = e }) refl
  good_taken_at fs a rs ds es l i at r.Open after_line e q sp st h u = good_open a l es at u st (record { is = e }) sp
  good_taken_at fs a rs ds es l i at _ after_line e q sp st h u = tt

  pub good_taken : {fs : List Frame} {rs : List Rose} {ds : List ℕ} {l at : ℕ} (role : Role) (after_line : Bool) → role_at ts at ≡ role → after_line_at ts at ≡ after_line → hole (top fs) ≤ strength role after_line → least_before role ≤ l → Behind ts lvl start fs rs ds l at → Good ts lvl start (apply (taken_move (top fs) l role) fs rs ds at)
  good_taken {l = l} {at = at} role after_line e q h u (behind_operand {fs = fs} {a = a} {rs = rs} {ds = ds} {es = es} {i = i} sp st) = good_taken_at fs a rs ds es l i at role after_line e q sp st h u
  good_taken role after_line e q h u (behind_short o n g p k) = absurd (omega (arith, ends_low role after_line (ap follow_of (sym e) ∙ g)))

  -- an operand, and a token that ends it
  pub seq_of : {parts : Roses} {ds es : List ℕ} {i j : ℕ} → Listed ts parts ds es i j → 2 ≤ size parts → Stands ts 1 (node (bare kd.Seq) parts) ds es i j
  seq_of (last_of d) h = absurd (omega arith)
  seq_of (then_of d e q) h = seq d e q

  pub seq_end : (n : ℕ) (a : Rose) (fs : List Frame) (rs rs' : List Rose) (ds es gs : List ℕ) (i m at : ℕ) → Spine ts lvl start fs rs ds i → 1 ≤ n → Commas ts n rs rs' ds es i m → Stands ts 3 a es gs m at → Good ts lvl start (built (bare kd.Seq) (After 1) fs gs at (gather (n + 1) (a ∷ rs') none))
  seq_end n a fs rs rs' ds es gs i m at sp u c st =
      let p = close_commas c (more a none) gs at (last_of st) in
      good_built (bare kd.Seq) (After 1) fs rs gs at _ p.parts (ap (λ x. gather (n + 1) x none) p.stack ∙ gathers p.parts 0 (n + 1) rs (omega (arith, p.count))) (behind_operand sp (seq_of p.listed (omega (arith, p.count))))

  pub close_seq : (n : ℕ) (a : Rose) (fs : List Frame) (rs rs' : List Rose) (ds es gs : List ℕ) (l i m at : ℕ) (role : Role) → role_at ts at ≡ role → Spine ts lvl start fs rs ds i → 1 ≤ n → Commas ts n rs rs' ds es i m → Stands ts 3 a es gs m at → Good ts lvl start (apply (close_move (Some (f.Seq n)) l role) (f.Seq n ∷ fs) (a ∷ rs') gs at)
  close_seq n a fs rs rs' ds es gs l i m at r.Comma e sp u c st = in_seq sp (omega arith) (comma_more c st (record { is = e }) refl refl)
  close_seq n a fs rs rs' ds es gs l i m at _ e sp u c st = seq_end n a fs rs rs' ds es gs i m at sp u c st

  pub close_args : (n l' : ℕ) (b a : Rose) (fs : List Frame) (rs rs' : List Rose) (ds es gs hs : List ℕ) (l i j m at : ℕ) (role : Role) → role_at ts at ≡ role → Spine ts lvl start fs rs ds i → 17 ≤ l' → Stands ts l' b ds es i j → RoleAt ts j r.Open → Commas ts n (b ∷ rs) rs' es gs (j + 1) m → Stands ts 3 a gs hs m at → Good ts lvl start (apply (close_move (Some (f.Args n)) l role) (f.Args n ∷ fs) (a ∷ rs') hs at)
  close_args n l' b a fs rs rs' ds es gs hs l i j m at r.Comma e sp u d o c st = in_args sp u d o (comma_more c st (record { is = e }) refl refl)
  close_args n l' b a fs rs rs' ds es gs hs l i j m at r.Close e sp u d o c st =
      let p = close_commas c (more a none) hs at (last_of st) in
      good_built (bare kd.Call) (After 17) fs rs hs (at + 1) _ (more b p.parts) (ap (λ x. gather (n + 2) x none) p.stack ∙ gathers p.parts 1 (n + 2) (b ∷ rs) (omega (arith, p.count))) (behind_operand sp (call u d o (elements p.listed) (record { is = e })))
  close_args n l' b a fs rs rs' ds es gs hs l i j m at _ e sp u d o c st = tt

  pub close_new_args : (n : ℕ) (b a : Rose) (fs : List Frame) (rs rs' : List Rose) (ds es gs hs : List ℕ) (l i j m at : ℕ) (role : Role) → role_at ts at ≡ role → Spine ts lvl start fs rs ds i → RoleAt ts i r.New → Stands ts 18 b ds es (i + 1) j → RoleAt ts j r.Open → Commas ts n (b ∷ rs) rs' es gs (j + 1) m → Stands ts 3 a gs hs m at → Good ts lvl start (apply (close_move (Some (f.NewArgs n)) l role) (f.NewArgs n ∷ fs) (a ∷ rs') hs at)
  close_new_args n b a fs rs rs' ds es gs hs l i j m at r.Comma e sp w d o c st = in_new_args sp w d o (comma_more c st (record { is = e }) refl refl)
  close_new_args n b a fs rs rs' ds es gs hs l i j m at r.Close e sp w d o c st =
      let p = close_commas c (more a none) hs at (last_of st) in
      good_built (bare kd.New) (After 18) fs rs hs (at + 1) _ (more b p.parts) (ap (λ x. gather (n + 2) x none) p.stack ∙ gathers p.parts 1 (n + 2) (b ∷ rs) (omega (arith, p.count))) (behind_operand sp (new_args w d o (elements p.listed) (record { is = e })))
  close_new_args n b a fs rs rs' ds es gs hs l i j m at _ e sp w d o c st = tt

  pub close_array : (n : ℕ) (a : Rose) (fs : List Frame) (rs rs' : List Rose) (ds es gs : List ℕ) (l i m at : ℕ) (role : Role) → role_at ts at ≡ role → Spine ts lvl start fs rs ds i → RoleAt ts i r.OpenSquare → Commas ts n rs rs' ds es (i + 1) m → Stands ts 3 a es gs m at → Good ts lvl start (apply (close_move (Some (f.Array n)) l role) (f.Array n ∷ fs) (a ∷ rs') gs at)
  close_array n a fs rs rs' ds es gs l i m at r.Comma e sp o c st = in_array sp o (comma_more c st (record { is = e }) refl refl)
  close_array n a fs rs rs' ds es gs l i m at r.CloseSquare e sp o c st =
      let p = close_commas c (more a none) gs at (last_of st) in
      good_built (bare kd.ArrayLit) (After 18) fs rs gs (at + 1) _ p.parts (ap (λ x. gather (n + 1) x none) p.stack ∙ gathers p.parts 0 (n + 1) rs (omega (arith, p.count))) (behind_operand sp (array o (elements p.listed) (record { is = e })))
  close_array n a fs rs rs' ds es gs l i m at _ e sp o c st = tt

  pub close_test : (a b : Rose) (fs : List Frame) (rs : List Rose) (ds es gs : List ℕ) (l i j at : ℕ) (role : Role) → role_at ts at ≡ role → Spine ts lvl start fs rs ds i → Stands ts 6 b ds es i j → RoleAt ts j r.Question → Stands ts 3 a es gs (j + 1) at → Good ts lvl start (apply (close_move (Some f.Test) l role) (f.Test ∷ fs) (a ∷ b ∷ rs) gs at)
  close_test a b fs rs ds es gs l i j at r.Colon e sp d o st = in_choice sp d o st (record { is = e }) refl
  close_test a b fs rs ds es gs l i j at _ e sp d o st = tt

  pub close_group : (a : Rose) (fs : List Frame) (rs : List Rose) (ds es : List ℕ) (l i at : ℕ) (role : Role) → role_at ts at ≡ role → Spine ts lvl start fs rs ds i → RoleAt ts i r.Open → Stands ts 1 a ds es (i + 1) at → Good ts lvl start (apply (close_move (Some f.Group) l role) (f.Group ∷ fs) (a ∷ rs) es at)
  close_group a fs rs ds es l i at r.Close e sp o st = behind_operand sp (group o st (record { is = e }))
  close_group a fs rs ds es l i at _ e sp o st = tt

  pub close_index : (l' : ℕ) (a b : Rose) (fs : List Frame) (rs : List Rose) (ds es gs : List ℕ) (l i j at : ℕ) (role : Role) → role_at ts at ≡ role → Spine ts lvl start fs rs ds i → 17 ≤ l' → Stands ts l' b ds es i j → RoleAt ts j r.OpenSquare → Stands ts 1 a es gs (j + 1) at → Good ts lvl start (apply (close_move (Some (f.Index l')) l role) (f.Index l' ∷ fs) (a ∷ b ∷ rs) gs at)
  close_index l' a b fs rs ds es gs l i j at r.CloseSquare e sp u d o st = behind_operand sp (index u d o st (record { is = e }))
  close_index l' a b fs rs ds es gs l i j at _ e sp u d o st = tt

  pub close_computed : (a : Rose) (fs : List Frame) (rs : List Rose) (ds es : List ℕ) (l i at : ℕ) (role : Role) → role_at ts at ≡ role → Objects ts lvl start fs rs ds i → RoleAt ts i r.OpenSquare → Stands ts 3 a ds es (i + 1) at → Good ts lvl start (apply (close_move (Some (f.Computed None)) l role) (f.Computed None ∷ fs) (a ∷ rs) es at)
  close_computed a fs rs ds es l i at r.CloseSquare e ob o st = key_read ob (key_computed o st (record { is = e })) refl
  close_computed a fs rs ds es l i at _ e ob o st = tt

  pub close_computed_get : (a : Rose) (fs : List Frame) (rs : List Rose) (ds es : List ℕ) (l i at : ℕ) (role : Role) → role_at ts at ≡ role → Objects ts lvl start fs rs ds i → GetAt ts i → RoleAt ts (i + 1) r.OpenSquare → Stands ts 3 a ds es (i + 1 + 1) at → Good ts lvl start (apply (close_move (Some (f.Computed (Some Get))) l role) (f.Computed (Some Get) ∷ fs) (a ∷ rs) es at)
  close_computed_get a fs rs ds es l i at r.CloseSquare e ob g o st = headed (under_getter ob) (getter g (key_computed o st (record { is = e }))) refl
  close_computed_get a fs rs ds es l i at _ e ob g o st = tt

  pub close_computed_set : (a : Rose) (fs : List Frame) (rs : List Rose) (ds es : List ℕ) (l i at : ℕ) (role : Role) → role_at ts at ≡ role → Objects ts lvl start fs rs ds i → SetAt ts i → RoleAt ts (i + 1) r.OpenSquare → Stands ts 3 a ds es (i + 1 + 1) at → Good ts lvl start (apply (close_move (Some (f.Computed (Some Set))) l role) (f.Computed (Some Set) ∷ fs) (a ∷ rs) es at)
  close_computed_set a fs rs ds es l i at r.CloseSquare e ob g o st = headed (under_setter ob) (setter g (key_computed o st (record { is = e }))) refl
  close_computed_set a fs rs ds es l i at _ e ob g o st = tt

  pub close_new : (a : Rose) (fs : List Frame) (rs : List Rose) (ds es : List ℕ) (l i at : ℕ) (role : Role) → Spine ts lvl start fs rs ds i → RoleAt ts i r.New → 16 ≤ l → Stands ts l a ds es (i + 1) at → Good ts lvl start (apply (close_move (Some f.New) l role) (f.New ∷ fs) (a ∷ rs) es at)
  close_new a fs rs ds es l i at role sp o h st = go (nat_eq l 17) refl
    where
      go : (b : Bool) → nat_eq l 17 ≡ b → Good ts lvl start (apply (if b then Wrong else Build (bare kd.New) 1 (After 16) false) (f.New ∷ fs) (a ∷ rs) es at)
      go true e = tt
      go false e = behind_operand sp (new_new o (to_new ts l h (eqb-false l 17 e) st))

  pub close_arrow : (n : ℕ) (parts : Roses) (a : Rose) (fs : List Frame) (rs rs' : List Rose) (ds es : List ℕ) (i m at : ℕ) → Spine ts lvl start fs rs ds i → Head ts parts i m → RoleAt ts m r.Arrow → SameLine ts m → n ≡ size parts → rs' ≡ pushed parts rs → NoRoleAt ts (m + 1) r.OpenBrace → Stands ts 3 a ds es (m + 1) at → Good ts lvl start (built (bare (kd.Arrow n false)) (After 3) fs es at (gather (n + 1) (a ∷ rs') none))
  close_arrow n parts a fs rs rs' ds es i m at sp p o q c g u st =
      good_built (bare (kd.Arrow n false)) (After 3) fs rs es at _ (join parts (more a none))
      (ap (λ y. gather y (a ∷ rs') none) (add-one n) ∙ ap (λ x. gather n x (more a none)) g ∙ gather_pushed parts 0 n rs (more a none) (omega arith))
      (subst (λ x. Behind ts lvl start fs (node (bare (kd.Arrow x false)) (join parts (more a none)) ∷ rs) es 3 at) (sym c) (behind_operand sp (arrow_value p o q u st)))

  pub close_value : (p : Property) (keys : Roses) (a : Rose) (fs : List Frame) (rs rs' : List Rose) (ds es gs : List ℕ) (i j at : ℕ) → Objects ts lvl start fs rs ds i → KeyOf ts p keys ds es i j → RoleAt ts j r.Colon → rs' ≡ pushed keys rs → Stands ts 3 a es gs (j + 1) at → Good ts lvl start (built (value_label p) mo.Item fs gs at (gather (1 + extra_of p) (a ∷ rs') none))
  close_value p keys a fs rs rs' ds es gs i j at ob d o g st =
      good_built (value_label p) mo.Item fs rs gs at _ (join keys (more a none))
      (ap (λ x. gather (1 + extra_of p) (a ∷ x) none) g ∙ valued_gathers keys a (extra_of p) rs (key_size d))
      (item_read ob (valued d o st))
