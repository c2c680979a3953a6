-- Of what sort the nodes of a side's script are: a part of a node stands at a place of its sort, and a Param has a name.
use Rattle.std.proofs.Common.{◌≡◌, ◌∙◌, Bool, List, None, Option, Some, [], ap, inl, inr, is_some, refl, slice_get, subst, sym, true, true≢false, ℕ, ◌⊎◌}
use Rattle.std.specs.Option.{option_map}
use Rattle.std.specs.Prelude.{All, IfSome, IsSomeAnd, option_to_list}
use Rattle.std.proofs.lemmas.List.Elements.{All-cons, All-nil, All-weaker}
use Rattle.mb_base.specs.declared.value.NodeId.{NodeId}
use Rattle.mb_base.specs.declared.value.Side.{Side}
use Rattle.mb_base.specs.declared.value.StrId.{StrId}
use Rattle.mb_frames.proofs.Reading.{form-read}
use Rattle.mb_frames.specs.Grammatical.{ArePartsOfFunction, HasItsParts, IsGrammatical, IsKey, IsOfNodeSort, body_sort, kind_sort}
use Rattle.mb_frames.specs.Kinds.{Declared, Expression, NodeSort, Parameter, PropertyDefinition, Statement, form_sort, sort_passes}
use Rattle.mb_frames.specs.Standing.{forms_at}
use Rattle.mb_frames.specs.Told.{HasNames, IsNamed, IsNodeOf, params_of, shapes_of, told, told_at}
use Rattle.mb_tree.proofs.Shapes.{form_is}
use Rattle.mb_tree.specs.Form as t
use Rattle.mb_tree.specs.Roses.{Label, Shape}
use Rattle.mb_tree.specs.Seen.{seen}
use Rattle.mb_tree.specs.declared.form.Form.{Form as Given}
use Rattle.mb_tree.specs.declared.kind.Kind.{Kind}
use Rattle.mb_tree.specs.declared.kind.Kind.TheVariants as k
use Rattle.mb_world.proofs.Grow.{All-at}
use Rattle.mb_world.specs.Data.{Data, Script, program_of}
use Rattle.mb_world.specs.Form.{Form}
use Rattle.mb_world.specs.FormOf.{TreeNode}
use Rattle.mb_world.specs.Ids.{Maybe}

-- ---- the sort of a form is that of its kind

told-sort : (texts : List (List ℕ)) (ns : List TreeNode) (f : t.Form)
    → form_sort (told texts ns f) ≡ kind_sort (t.kind_of f)
told-sort texts ns (t.ScriptForm ss) = refl
told-sort texts ns (t.LetForm ss) = refl
told-sort texts ns (t.ConstForm ss) = refl
told-sort texts ns (t.DeclForm x v) = refl
told-sort texts ns (t.FunctionDeclForm x p) = refl
told-sort texts ns (t.BlockForm ss) = refl
told-sort texts ns t.EmptyForm = refl
told-sort texts ns (t.ExprStmtForm v) = refl
told-sort texts ns (t.IfForm a b c) = refl
told-sort texts ns (t.WhileForm a b) = refl
told-sort texts ns (t.DoWhileForm a b) = refl
told-sort texts ns (t.ForForm a b c x) = refl
told-sort texts ns (t.ReturnForm v) = refl
told-sort texts ns (t.ThrowForm v) = refl
told-sort texts ns t.BreakForm = refl
told-sort texts ns t.ContinueForm = refl
told-sort texts ns (t.TryForm a b c x) = refl
told-sort texts ns (t.ParamForm x) = refl
told-sort texts ns (t.SeqForm vs) = refl
told-sort texts ns (t.AssignForm a b) = refl
told-sort texts ns (t.CompoundForm s a b) = refl
told-sort texts ns (t.ArrowForm p b) = refl
told-sort texts ns (t.CondForm a b c) = refl
told-sort texts ns (t.OrForm a b) = refl
told-sort texts ns (t.AndForm a b) = refl
told-sort texts ns (t.BinaryForm s a b) = refl
told-sort texts ns (t.UnaryForm s a) = refl
told-sort texts ns (t.UpdateForm p q a) = refl
told-sort texts ns (t.NewForm a args) = refl
told-sort texts ns (t.MemberForm a x) = refl
told-sort texts ns (t.IndexForm a b) = refl
told-sort texts ns (t.CallForm a args) = refl
told-sort texts ns t.ThisForm = refl
told-sort texts ns (t.NameForm x) = refl
told-sort texts ns (t.NumberForm x) = refl
told-sort texts ns (t.TextForm x) = refl
told-sort texts ns (t.LiteralForm v) = refl
told-sort texts ns (t.ArrayForm es) = refl
told-sort texts ns (t.ObjectForm ps) = refl
told-sort texts ns (t.FunctionForm x p) = refl
told-sort texts ns (t.GroupForm a) = refl
told-sort texts ns (t.ValueForm k v) = refl
told-sort texts ns (t.MethodForm k p) = refl
told-sort texts ns (t.GetterForm k p) = refl
told-sort texts ns (t.SetterForm k p) = refl

-- a node of a sort passes the tests that its sort passes
pub sort-passes : (test : NodeSort → Bool) (sort : NodeSort) (o : Option Form)
    → IsSomeAnd o (λ f. form_sort f ≡ sort) → sort_passes test o ≡ test sort
sort-passes test sort None h = absurd h
sort-passes test sort (Some f) h = ap test h

-- ---- what holds of each part

module _ (P Q : NodeSort → NodeId → Type 0) (f : (sort : NodeSort) (id : NodeId) → P sort id → Q sort id) where
  all : (sort : NodeSort) (ids : List NodeId) → All (P sort) ids → All (Q sort) ids
  all sort ids h = All-weaker (P sort) (Q sort) (f sort) ids h

  may : (sort : NodeSort) (id : Option NodeId) → Maybe (P sort) id → Maybe (Q sort) id
  may sort None h = h
  may sort (Some id) h = f sort id h

  either : (id : NodeId) → P Expression id ⊎ P Statement id → Q Expression id ⊎ Q Statement id
  either id (inl h) = inl (f Expression id h)
  either id (inr h) = inr (f Statement id h)

  first : (id : Option NodeId) → Maybe (λ x. P Expression x ⊎ P Statement x) id
      → Maybe (λ x. Q Expression x ⊎ Q Statement x) id
  first None h = h
  first (Some id) h = either id h

  function : (body : NodeSort) (p : t.FunctionParts) → ArePartsOfFunction P body p → ArePartsOfFunction Q body p
  function body p h = (all Parameter p.params h.0, all body p.body h.1)

  key-along : (key : t.PropName) → IsKey P key → IsKey Q key
  key-along (t.Written x) h = h
  key-along (t.Whole x) h = h
  key-along (t.Computed x) h = f Expression x h

  pub parts-along : (form : t.Form) → HasItsParts P form → HasItsParts Q form
  parts-along (t.ScriptForm ss) h = all Statement ss h
  parts-along (t.LetForm ss) h = all Declared ss h
  parts-along (t.ConstForm ss) h = all Declared ss h
  parts-along (t.DeclForm x v) h = may Expression v h
  parts-along (t.FunctionDeclForm x p) h = function Statement p h
  parts-along (t.BlockForm ss) h = all Statement ss h
  parts-along t.EmptyForm h = tt
  parts-along (t.ExprStmtForm v) h = f Expression v h
  parts-along (t.IfForm a b c) h = (f Expression a h.0, f Statement b h.1, may Statement c h.2)
  parts-along (t.WhileForm a b) h = (f Expression a h.0, f Statement b h.1)
  parts-along (t.DoWhileForm a b) h = (f Statement a h.0, f Expression b h.1)
  parts-along (t.ForForm a b c x) h = (first a h.0, may Expression b h.1, may Expression c h.2, f Statement x h.3)
  parts-along (t.ReturnForm v) h = may Expression v h
  parts-along (t.ThrowForm v) h = f Expression v h
  parts-along t.BreakForm h = tt
  parts-along t.ContinueForm h = tt
  parts-along (t.TryForm a b c x) h = (f Statement a h.0, may Parameter b h.1, may Statement c h.2, may Statement x h.3)
  parts-along (t.ParamForm x) h = tt
  parts-along (t.SeqForm vs) h = all Expression vs h
  parts-along (t.AssignForm a b) h = (f Expression a h.0, f Expression b h.1)
  parts-along (t.CompoundForm s a b) h = (h.0, f Expression a h.1, f Expression b h.2)
  parts-along (t.ArrowForm p b) h = function (body_sort b) p h
  parts-along (t.CondForm a b c) h = (f Expression a h.0, f Expression b h.1, f Expression c h.2)
  parts-along (t.OrForm a b) h = (f Expression a h.0, f Expression b h.1)
  parts-along (t.AndForm a b) h = (f Expression a h.0, f Expression b h.1)
  parts-along (t.BinaryForm s a b) h = (f Expression a h.0, f Expression b h.1)
  parts-along (t.UnaryForm s a) h = f Expression a h
  parts-along (t.UpdateForm p q a) h = f Expression a h
  parts-along (t.NewForm a args) h = (f Expression a h.0, all Expression args h.1)
  parts-along (t.MemberForm a x) h = f Expression a h
  parts-along (t.IndexForm a b) h = (f Expression a h.0, f Expression b h.1)
  parts-along (t.CallForm a args) h = (f Expression a h.0, all Expression args h.1)
  parts-along t.ThisForm h = tt
  parts-along (t.NameForm x) h = tt
  parts-along (t.NumberForm x) h = h
  parts-along (t.TextForm x) h = tt
  parts-along (t.LiteralForm v) h = tt
  parts-along (t.ArrayForm es) h = all Expression es h
  parts-along (t.ObjectForm ps) h = all PropertyDefinition ps h
  parts-along (t.FunctionForm x p) h = function Statement p h
  parts-along (t.GroupForm a) h = f Expression a h
  parts-along (t.ValueForm k v) h = (key-along k h.0, f Expression v h.1)
  parts-along (t.MethodForm k p) h = (key-along k h.0, function Statement p h.1)
  parts-along (t.GetterForm k p) h = (key-along k h.0, function Statement p h.1)
  parts-along (t.SetterForm k p) h = (key-along k h.0, function Statement p h.1)

option-all : (P : NodeSort → NodeId → Type 0) (sort : NodeSort) (o : Option NodeId) → Maybe (P sort) o
    → All (P sort) (option_to_list o)
option-all P sort None h = All-nil (P sort)
option-all P sort (Some id) h = All-cons (P sort) id [] h (All-nil (P sort))

params-all : (P : NodeSort → NodeId → Type 0) (form : t.Form) → HasItsParts P form → All (P Parameter) (params_of form)
params-all P (t.ScriptForm ss) h = All-nil (P Parameter)
params-all P (t.LetForm ss) h = All-nil (P Parameter)
params-all P (t.ConstForm ss) h = All-nil (P Parameter)
params-all P (t.DeclForm x v) h = All-nil (P Parameter)
params-all P (t.FunctionDeclForm x p) h = h.0
params-all P (t.BlockForm ss) h = All-nil (P Parameter)
params-all P t.EmptyForm h = All-nil (P Parameter)
params-all P (t.ExprStmtForm v) h = All-nil (P Parameter)
params-all P (t.IfForm a b c) h = All-nil (P Parameter)
params-all P (t.WhileForm a b) h = All-nil (P Parameter)
params-all P (t.DoWhileForm a b) h = All-nil (P Parameter)
params-all P (t.ForForm a b c x) h = All-nil (P Parameter)
params-all P (t.ReturnForm v) h = All-nil (P Parameter)
params-all P (t.ThrowForm v) h = All-nil (P Parameter)
params-all P t.BreakForm h = All-nil (P Parameter)
params-all P t.ContinueForm h = All-nil (P Parameter)
params-all P (t.TryForm a b c x) h = option-all P Parameter b h.1
params-all P (t.ParamForm x) h = All-nil (P Parameter)
params-all P (t.SeqForm vs) h = All-nil (P Parameter)
params-all P (t.AssignForm a b) h = All-nil (P Parameter)
params-all P (t.CompoundForm s a b) h = All-nil (P Parameter)
params-all P (t.ArrowForm p b) h = h.0
params-all P (t.CondForm a b c) h = All-nil (P Parameter)
params-all P (t.OrForm a b) h = All-nil (P Parameter)
params-all P (t.AndForm a b) h = All-nil (P Parameter)
params-all P (t.BinaryForm s a b) h = All-nil (P Parameter)
params-all P (t.UnaryForm s a) h = All-nil (P Parameter)
params-all P (t.UpdateForm p q a) h = All-nil (P Parameter)
params-all P (t.NewForm a args) h = All-nil (P Parameter)
params-all P (t.MemberForm a x) h = All-nil (P Parameter)
params-all P (t.IndexForm a b) h = All-nil (P Parameter)
params-all P (t.CallForm a args) h = All-nil (P Parameter)
params-all P t.ThisForm h = All-nil (P Parameter)
params-all P (t.NameForm x) h = All-nil (P Parameter)
params-all P (t.NumberForm x) h = All-nil (P Parameter)
params-all P (t.TextForm x) h = All-nil (P Parameter)
params-all P (t.LiteralForm v) h = All-nil (P Parameter)
params-all P (t.ArrayForm es) h = All-nil (P Parameter)
params-all P (t.ObjectForm ps) h = All-nil (P Parameter)
params-all P (t.FunctionForm x p) h = h.0
params-all P (t.GroupForm a) h = All-nil (P Parameter)
params-all P (t.ValueForm k v) h = All-nil (P Parameter)
params-all P (t.MethodForm k p) h = h.1.0
params-all P (t.GetterForm k p) h = h.1.0
params-all P (t.SetterForm k p) h = h.1.0

-- ---- the nodes of a side's script

module _ (p : Script) (g : All (IsGrammatical p.nodes) p.nodes) where
  pub grammatical : (n : ℕ) (x : Shape) → slice_get p.nodes n ≡ Some x → IsGrammatical p.nodes x
  grammatical n x h = All-at (IsGrammatical p.nodes) p.nodes n x h g

  -- a node of a sort is one of it in the meaning
  node-is : (d : Data) (home : Side) → program_of d home ≡ Some p → (sort : NodeSort) (id : NodeId)
      → IsOfNodeSort p.nodes sort id → IsNodeOf d home sort id
  node-is d home e sort id h = by (slice_get p.nodes id.0) refl h
    where
      read : (x : Shape) → slice_get p.nodes id.0 ≡ Some x → kind_sort x.label.kind ≡ sort → (o : Option t.Form)
          → t.form_of x ≡ o → IsNodeOf d home sort id
      read x q s None r = absurd (true≢false (sym (grammatical id.0 x q).form ∙ ap is_some r))
      read x q s (Some f) r =
          let a : option_map (told_at d home) (Some f) ≡ slice_get (forms_at d home) id.0
          = ap (option_map (told_at d home)) (sym r) ∙ form-read d home p id.0 x e q (grammatical id.0 x q) in
          let P : Option Form → Type 0 = λ o. IsSomeAnd o (λ y. form_sort y ≡ sort) in
          let c = form_is x.label.kind x.label x.children f r in
          subst P a (told-is f ∙ ap kind_sort c.0 ∙ s)
        where
          told-is : (y : t.Form) → form_sort (told_at d home y) ≡ kind_sort (t.kind_of y)
          told-is y = told-sort _ _ y

      by : (o : Option Shape) → slice_get p.nodes id.0 ≡ o → IsSomeAnd o (λ x. kind_sort x.label.kind ≡ sort)
          → IsNodeOf d home sort id
      by None q s = absurd s
      by (Some x) q s = read x q s (t.form_of x) refl

  -- so each part of a node is of the sort of its place
  pub parts-of-sort : (d : Data) (home : Side) → program_of d home ≡ Some p → (x : Shape) → IsGrammatical p.nodes x
      → (o : Option Given) → option_map seen o ≡ t.form_of x
      → IfSome o (λ form. HasItsParts (IsNodeOf d home) (seen form))
  parts-of-sort d home e x h None q = tt
  parts-of-sort d home e x h (Some form) q =
      parts-along (IsOfNodeSort p.nodes) (IsNodeOf d home) (node-is d home e) (seen form) (h.parts (seen form) (sym q))

-- ---- a Param has a name

leaf-named : (name : Option StrId) (cs : List NodeId) → is_some (t.named_leaf t.ParamForm name cs) ≡ true
    → is_some name ≡ true
leaf-named None cs h = h
leaf-named (Some x) cs h = refl

param-named : (kind : Kind) (label : Label) (cs : List NodeId) → kind_sort kind ≡ Parameter
    → is_some (t.form_by kind label cs) ≡ true → is_some label.name ≡ true
param-named k.Param label cs e h = leaf-named label.name cs h
param-named _ label cs e h = absurd (let z : ⊥ = cc in z)

module _ (p : Script) (g : All (IsGrammatical p.nodes) p.nodes) where
  is-named : (id : NodeId) → IsOfNodeSort p.nodes Parameter id → IsNamed (slice_get p.nodes id.0)
  is-named id h = by (slice_get p.nodes id.0) refl h
    where
      by : (o : Option Shape) → slice_get p.nodes id.0 ≡ o → IsSomeAnd o (λ x. kind_sort x.label.kind ≡ Parameter)
          → IsNamed o
      by None q s = s
      by (Some x) q s = param-named x.label.kind x.label x.children s (grammatical p g id.0 x q).form

  pub params-named : (d : Data) (home : Side) → program_of d home ≡ Some p → (x : Shape) → IsGrammatical p.nodes x
      → (o : Option Given) → option_map seen o ≡ t.form_of x
      → IfSome o (λ form. HasNames d home (params_of (seen form)))
  params-named d home e x h None q = tt
  params-named d home e x h (Some form) q =
      let P : Option Script → Type 0
      = λ o. All (λ (id : NodeId). IsNamed (slice_get (shapes_of o) id.0)) (params_of (seen form)) in
      subst P (sym e)
      (All-weaker (IsOfNodeSort p.nodes Parameter) (λ id. IsNamed (slice_get p.nodes id.0)) is-named
      (params_of (seen form)) (params-all (IsOfNodeSort p.nodes) (seen form) (h.parts (seen form) (sym q))))
