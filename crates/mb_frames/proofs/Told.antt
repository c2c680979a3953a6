-- The form of a node that mb_tree reads is the meaning's.
use Rattle.std.proofs.Common.{◌++◌, ◌≡◌, ◌∙◌, ◌∷◌, Bool, List, None, Option, Some, [], ap, drop, false, length, nat_le, refl, sym, take, true, ℕ}
use Rattle.std.specs.Option.{option_map}
use Rattle.std.specs.Prelude.{if◌then◌else◌}
use Rattle.std.proofs.lemmas.Bool.{leb-true}
use Rattle.std.proofs.lemmas.List.{length-map, length-take-le, map-append}
use Rattle.std.proofs.Math.Seq.{drop-append_seam, take-append_seam}
use Rattle.mb_base.specs.declared.value.NodeId.{NodeId}
use Rattle.mb_base.specs.declared.value.StrId.{StrId}
use Rattle.mb_tree.proofs.Shapes.{form_is}
use Rattle.mb_tree.specs.Form as t
use Rattle.mb_tree.specs.Roses.{Label, Shape, shape}
use Rattle.mb_world.specs.FormOf.{TreeNode, form_by, form_of, parts}
use Rattle.mb_world.specs.Image.{node_in}
use Rattle.mb_frames.specs.Told.{numbers_of, parts_told, told}

-- ---- what the label of a node tells of its form

abbrev pub KeyFits : Label → t.PropName → Type 0
KeyFits label (t.Written x) = label.name ≡ Some x
KeyFits label (t.Whole x) = label.whole ≡ x
KeyFits label (t.Computed x) = Unit {0}

abbrev pub LabelFits : Label → t.Form → Type 0
LabelFits label (t.DeclForm x v) = label.name ≡ Some x
LabelFits label (t.FunctionDeclForm x p) = label.name ≡ Some x
LabelFits label (t.ParamForm x) = label.name ≡ Some x
LabelFits label (t.NameForm x) = label.name ≡ Some x
LabelFits label (t.TextForm x) = label.name ≡ Some x
LabelFits label (t.MemberForm b x) = label.name ≡ Some x
LabelFits label (t.NumberForm x) = label.whole ≡ x
LabelFits label (t.FunctionForm x p) = label.name ≡ x
LabelFits label (t.ValueForm key v) = KeyFits label key
LabelFits label (t.MethodForm key p) = KeyFits label key
LabelFits label (t.GetterForm key p) = KeyFits label key × (length p.params ≡ 0)
LabelFits label (t.SetterForm key p) = KeyFits label key × (length p.params ≡ 1)
LabelFits label f = Unit {0}

decl-named : (name : Option StrId) (o : Option (Option NodeId)) (x : StrId) (v : Option NodeId)
    → t.decl_form name o ≡ Some (t.DeclForm x v) → name ≡ Some x
decl-named None None x v e = cc
decl-named None (Some w) x v e = cc
decl-named (Some y) None x v e = cc
decl-named (Some y) (Some w) x v e = cc

member-named : (name : Option StrId) (o : Option NodeId) (b : NodeId) (x : StrId)
    → t.member_form name o ≡ Some (t.MemberForm b x) → name ≡ Some x
member-named None None b x e = cc
member-named None (Some a) b x e = cc
member-named (Some y) None b x e = cc
member-named (Some y) (Some a) b x e = cc

function-named : (name : Option StrId) (o : Option t.FunctionParts) (x : StrId) (p : t.FunctionParts)
    → t.function_decl_form name o ≡ Some (t.FunctionDeclForm x p) → name ≡ Some x
function-named None None x p e = cc
function-named None (Some q) x p e = cc
function-named (Some y) None x p e = cc
function-named (Some y) (Some q) x p e = cc

param-named : (name : Option StrId) (cs : List NodeId) (x : StrId)
    → t.named_leaf t.ParamForm name cs ≡ Some (t.ParamForm x) → name ≡ Some x
param-named None cs x e = cc
param-named (Some y) [] x e = cc
param-named (Some y) (c ∷ cs) x e = cc

name-named : (name : Option StrId) (cs : List NodeId) (x : StrId)
    → t.named_leaf t.NameForm name cs ≡ Some (t.NameForm x) → name ≡ Some x
name-named None cs x e = cc
name-named (Some y) [] x e = cc
name-named (Some y) (c ∷ cs) x e = cc

text-named : (name : Option StrId) (cs : List NodeId) (x : StrId)
    → t.named_leaf t.TextForm name cs ≡ Some (t.TextForm x) → name ≡ Some x
text-named None cs x e = cc
text-named (Some y) [] x e = cc
text-named (Some y) (c ∷ cs) x e = cc

number-told : (label : Label) (cs : List NodeId) (f : t.Form)
    → t.leaf_of cs (t.NumberForm label.whole) ≡ Some f → t.NumberForm label.whole ≡ f
number-told label [] f e = cc
number-told label (c ∷ cs) f e = cc

optional-named : (name : Option StrId) (o : Option t.FunctionParts) (x : Option StrId) (p : t.FunctionParts)
    → option_map (t.FunctionForm name) o ≡ Some (t.FunctionForm x p) → name ≡ x
optional-named name None x p e = cc
optional-named name (Some q) x p e = cc

-- ---- keys

key-of : (label : Label) (cs : List NodeId) (key : t.PropName) (o : Option (t.PropName × List NodeId))
    → t.key_and_rest (t.key_kind key) label cs ≡ o
    → (rest : List NodeId) → o ≡ Some (key, rest) → KeyFits label key
key-of label cs (t.Written x) o e rest h = by label.name (e ∙ h)
  where
    by : (name : Option StrId) → option_map {U = t.PropName × List NodeId} (λ (n : StrId). (t.Written n, cs)) name ≡ Some (t.Written x, rest) → name ≡ Some x
    by None k = cc
    by (Some y) k =
        let m : ◌≡◌ {A = t.PropName × List NodeId} (t.Written y, cs) (t.Written x, rest) = cc in
        let z : t.Written y ≡ t.Written x = ap (λ (q : t.PropName × List NodeId). q.0) m in
        cc
key-of label cs (t.Whole x) o e rest h =
    let k : ◌≡◌ {A = Option (t.PropName × List NodeId)} (Some (t.Whole label.whole, cs)) (Some (t.Whole x, rest)) = e ∙ h in
    let m : ◌≡◌ {A = t.PropName × List NodeId} (t.Whole label.whole, cs) (t.Whole x, rest) = cc in
    let z : t.Whole label.whole ≡ t.Whole x = ap (λ (q : t.PropName × List NodeId). q.0) m in
    cc
key-of label cs (t.Computed x) o e rest h = tt

value-key : (o : Option (t.PropName × List NodeId)) (key : t.PropName) (v : NodeId)
    → t.value_form o ≡ Some (t.ValueForm key v) → (rest : List NodeId) × (o ≡ Some (key, rest))
value-key None key v e = absurd (let z : ⊥ = cc in z)
value-key (Some p) key v e = (p.1, by (t.one_of p.1) e)
  where
    by : (r : Option NodeId) → option_map (t.ValueForm p.0) r ≡ Some (t.ValueForm key v) → Some p ≡ Some (key, p.1)
    by None h = cc
    by (Some a) h = let z : p.0 ≡ key = cc in ap (λ (x : t.PropName). Some (x, p.1)) z

method-key : (n : ℕ) (o : Option (t.PropName × List NodeId)) (key : t.PropName) (p : t.FunctionParts)
    → t.method_form n t.MethodForm o ≡ Some (t.MethodForm key p) → (rest : List NodeId) × (o ≡ Some (key, rest))
method-key n None key p e = absurd (let z : ⊥ = cc in z)
method-key n (Some q) key p e = (q.1, by (t.function_parts n q.1) e)
  where
    by : (r : Option t.FunctionParts) → option_map (t.MethodForm q.0) r ≡ Some (t.MethodForm key p) → Some q ≡ Some (key, q.1)
    by None h = cc
    by (Some a) h = let z : q.0 ≡ key = cc in ap (λ (x : t.PropName). Some (x, q.1)) z

getter-key : (o : Option (t.PropName × List NodeId)) (key : t.PropName) (p : t.FunctionParts)
    → t.method_form 0 t.GetterForm o ≡ Some (t.GetterForm key p)
    → (rest : List NodeId) × (o ≡ Some (key, rest)) × (t.function_parts 0 rest ≡ Some p)
getter-key None key p e = absurd (let z : ⊥ = cc in z)
getter-key (Some q) key p e = let k = by (t.function_parts 0 q.1) e in (q.1, k.0, k.1)
  where
    by : (r : Option t.FunctionParts) → option_map (t.GetterForm q.0) r ≡ Some (t.GetterForm key p) → (Some q ≡ Some (key, q.1)) × (r ≡ Some p)
    by None h = absurd (let z : ⊥ = cc in z)
    by (Some a) h = let z : q.0 ≡ key = cc in (ap (λ (x : t.PropName). Some (x, q.1)) z, (let y : a ≡ p = cc in ap Some y))

setter-key : (o : Option (t.PropName × List NodeId)) (key : t.PropName) (p : t.FunctionParts)
    → t.method_form 1 t.SetterForm o ≡ Some (t.SetterForm key p)
    → (rest : List NodeId) × (o ≡ Some (key, rest)) × (t.function_parts 1 rest ≡ Some p)
setter-key None key p e = absurd (let z : ⊥ = cc in z)
setter-key (Some q) key p e = let k = by (t.function_parts 1 q.1) e in (q.1, k.0, k.1)
  where
    by : (r : Option t.FunctionParts) → option_map (t.SetterForm q.0) r ≡ Some (t.SetterForm key p) → (Some q ≡ Some (key, q.1)) × (r ≡ Some p)
    by None h = absurd (let z : ⊥ = cc in z)
    by (Some a) h = let z : q.0 ≡ key = cc in (ap (λ (x : t.PropName). Some (x, q.1)) z, (let y : a ≡ p = cc in ap Some y))

params-count : (n : ℕ) (cs : List NodeId) (p : t.FunctionParts) → t.function_parts n cs ≡ Some p → length p.params ≡ n
params-count n cs p e = by (nat_le n (length cs)) refl e
  where
    by : (b : Bool) → nat_le n (length cs) ≡ b
        → (if b then Some (record { params = take n cs; body = drop n cs }) else None) ≡ Some p → length p.params ≡ n
    by true c h =
        let q : t.FunctionParts = record { params = take n cs; body = drop n cs } in
        let k : q ≡ p = cc in
        ap (λ (x : t.FunctionParts). length x.params) (sym k) ∙ length-take-le n cs (leb-true n (length cs) c)
    by false c h = cc

-- ---- each form

pub fits : (label : Label) (cs : List NodeId) (f : t.Form) → t.form_by (t.kind_of f) label cs ≡ Some f → LabelFits label f
fits label cs (t.DeclForm x v) e = decl-named label.name (t.at_most_one_of cs) x v e
fits label cs (t.FunctionDeclForm x p) e = function-named label.name (t.function_parts (length p.params) cs) x p e
fits label cs (t.ParamForm x) e = param-named label.name cs x e
fits label cs (t.NameForm x) e = name-named label.name cs x e
fits label cs (t.TextForm x) e = text-named label.name cs x e
fits label cs (t.MemberForm b x) e = member-named label.name (t.one_of cs) b x e
fits label cs (t.NumberForm x) e = let h : t.NumberForm label.whole ≡ t.NumberForm x = number-told label cs (t.NumberForm x) e in cc
fits label cs (t.FunctionForm x p) e = optional-named label.name (t.function_parts (length p.params) cs) x p e
fits label cs (t.ValueForm key v) e =
    let h = value-key (t.key_and_rest (t.key_kind key) label cs) key v e in
    key-of label cs key (t.key_and_rest (t.key_kind key) label cs) refl h.0 h.1
fits label cs (t.MethodForm key p) e =
    let h = method-key (length p.params) (t.key_and_rest (t.key_kind key) label cs) key p e in
    key-of label cs key (t.key_and_rest (t.key_kind key) label cs) refl h.0 h.1
fits label cs (t.GetterForm key p) e =
    let h = getter-key (t.key_and_rest (t.key_kind key) label cs) key p e in
    (key-of label cs key (t.key_and_rest (t.key_kind key) label cs) refl h.0 h.1, params-count 0 h.0 p h.2)
fits label cs (t.SetterForm key p) e =
    let h = setter-key (t.key_and_rest (t.key_kind key) label cs) key p e in
    (key-of label cs key (t.key_and_rest (t.key_kind key) label cs) refl h.0 h.1, params-count 1 h.0 p h.2)
fits label cs (t.ScriptForm ss) e = tt
fits label cs (t.LetForm ss) e = tt
fits label cs (t.ConstForm ss) e = tt
fits label cs (t.BlockForm ss) e = tt
fits label cs t.EmptyForm e = tt
fits label cs (t.ExprStmtForm v) e = tt
fits label cs (t.IfForm a b c) e = tt
fits label cs (t.WhileForm a b) e = tt
fits label cs (t.DoWhileForm a b) e = tt
fits label cs (t.ForForm a b c x) e = tt
fits label cs (t.ReturnForm v) e = tt
fits label cs (t.ThrowForm v) e = tt
fits label cs t.BreakForm e = tt
fits label cs t.ContinueForm e = tt
fits label cs (t.TryForm a b c x) e = tt
fits label cs (t.SeqForm vs) e = tt
fits label cs (t.AssignForm a b) e = tt
fits label cs (t.CompoundForm s a b) e = tt
fits label cs (t.ArrowForm p b) e = tt
fits label cs (t.CondForm a b c) e = tt
fits label cs (t.OrForm a b) e = tt
fits label cs (t.AndForm a b) e = tt
fits label cs (t.BinaryForm s a b) e = tt
fits label cs (t.UnaryForm s a) e = tt
fits label cs (t.UpdateForm p q a) e = tt
fits label cs (t.NewForm a args) e = tt
fits label cs (t.IndexForm a b) e = tt
fits label cs (t.CallForm a args) e = tt
fits label cs t.ThisForm e = tt
fits label cs (t.LiteralForm v) e = tt
fits label cs (t.ArrayForm es) e = tt
fits label cs (t.ObjectForm ps) e = tt
fits label cs (t.GroupForm a) e = tt

module _ (texts : List (List ℕ)) (ns : List TreeNode) where
  parts-are : (params body : List NodeId)
      → parts ns (length params) (numbers_of (params ++ body)) ≡ parts_told ns (record { params = params; body = body })
  parts-are params body = rw (
    map-append (λ (id : NodeId). id.0) params body,
    ← length-map params (λ (id : NodeId). id.0),
    take-append_seam (numbers_of params) (numbers_of body),
    drop-append_seam (numbers_of params) (numbers_of body),
  ) refl

  counted : (n : ℕ) (params body : List NodeId) → length params ≡ n
      → parts ns n (numbers_of (params ++ body)) ≡ parts_told ns (record { params = params; body = body })
  counted n params body e = ap (λ m. parts ns m (numbers_of (params ++ body))) (sym e) ∙ parts-are params body

  -- the form that has this label, and its parts as children
  told-by : (label : Label) (f : t.Form) → LabelFits label f
      → form_by ns (node_in texts (shape label (t.parts_of f))) (t.kind_of f) ≡ told texts ns f
  told-by label (t.ScriptForm ss) h = refl
  told-by label (t.LetForm ss) h = refl
  told-by label (t.ConstForm ss) h = refl
  told-by label (t.DeclForm x None) h = rw h refl
  told-by label (t.DeclForm x (Some v)) h = rw h refl
  told-by label (t.FunctionDeclForm x p) h = rw (h, parts-are p.params p.body) refl
  told-by label (t.BlockForm ss) h = refl
  told-by label t.EmptyForm h = refl
  told-by label (t.ExprStmtForm v) h = refl
  told-by label (t.IfForm test main None) h = refl
  told-by label (t.IfForm test main (Some o)) h = refl
  told-by label (t.WhileForm test body) h = refl
  told-by label (t.DoWhileForm body test) h = refl
  told-by label (t.ForForm None None None body) h = refl
  told-by label (t.ForForm None None (Some c) body) h = refl
  told-by label (t.ForForm None (Some b) None body) h = refl
  told-by label (t.ForForm None (Some b) (Some c) body) h = refl
  told-by label (t.ForForm (Some a) None None body) h = refl
  told-by label (t.ForForm (Some a) None (Some c) body) h = refl
  told-by label (t.ForForm (Some a) (Some b) None body) h = refl
  told-by label (t.ForForm (Some a) (Some b) (Some c) body) h = refl
  told-by label (t.ReturnForm None) h = refl
  told-by label (t.ReturnForm (Some v)) h = refl
  told-by label (t.ThrowForm v) h = refl
  told-by label t.BreakForm h = refl
  told-by label t.ContinueForm h = refl
  told-by label (t.TryForm block None None None) f = refl
  told-by label (t.TryForm block None None (Some e)) f = refl
  told-by label (t.TryForm block None (Some h) None) f = refl
  told-by label (t.TryForm block None (Some h) (Some e)) f = refl
  told-by label (t.TryForm block (Some c) None None) f = refl
  told-by label (t.TryForm block (Some c) None (Some e)) f = refl
  told-by label (t.TryForm block (Some c) (Some h) None) f = refl
  told-by label (t.TryForm block (Some c) (Some h) (Some e)) f = refl
  told-by label (t.ParamForm x) h = rw h refl
  told-by label (t.SeqForm vs) h = refl
  told-by label (t.AssignForm a b) h = refl
  told-by label (t.CompoundForm s a b) h = refl
  told-by label (t.ArrowForm p b) h = rw (parts-are p.params p.body) refl
  told-by label (t.CondForm a b c) h = refl
  told-by label (t.OrForm a b) h = refl
  told-by label (t.AndForm a b) h = refl
  told-by label (t.BinaryForm s a b) h = refl
  told-by label (t.UnaryForm s a) h = refl
  told-by label (t.UpdateForm p q a) h = refl
  told-by label (t.NewForm a args) h = refl
  told-by label (t.MemberForm b x) h = rw h refl
  told-by label (t.IndexForm a b) h = refl
  told-by label (t.CallForm a args) h = refl
  told-by label t.ThisForm h = refl
  told-by label (t.NameForm x) h = rw h refl
  told-by label (t.NumberForm w) h = rw h refl
  told-by label (t.TextForm x) h = rw h refl
  told-by label (t.LiteralForm v) h = refl
  told-by label (t.ArrayForm es) h = refl
  told-by label (t.ObjectForm ps) h = refl
  told-by label (t.FunctionForm x p) h = rw (h, parts-are p.params p.body) refl
  told-by label (t.GroupForm a) h = refl
  told-by label (t.ValueForm (t.Written x) v) h = rw h refl
  told-by label (t.ValueForm (t.Whole x) v) h = rw h refl
  told-by label (t.ValueForm (t.Computed x) v) h = refl
  told-by label (t.MethodForm (t.Written x) p) h = rw (h, parts-are p.params p.body) refl
  told-by label (t.MethodForm (t.Whole x) p) h = rw (h, parts-are p.params p.body) refl
  told-by label (t.MethodForm (t.Computed x) p) h = rw (parts-are p.params p.body) refl
  told-by label (t.GetterForm (t.Written x) p) h = rw (h.0, counted 0 p.params p.body h.1) refl
  told-by label (t.GetterForm (t.Whole x) p) h = rw (h.0, counted 0 p.params p.body h.1) refl
  told-by label (t.GetterForm (t.Computed x) p) h = rw (counted 0 p.params p.body h.1) refl
  told-by label (t.SetterForm (t.Written x) p) h = rw (h.0, counted 1 p.params p.body h.1) refl
  told-by label (t.SetterForm (t.Whole x) p) h = rw (h.0, counted 1 p.params p.body h.1) refl
  told-by label (t.SetterForm (t.Computed x) p) h = rw (counted 1 p.params p.body h.1) refl

  pub told-form : (x : Shape) (f : t.Form) → t.form_of x ≡ Some f → form_of ns (node_in texts x) ≡ told texts ns f
  told-form x f e =
      let q = form_is x.label.kind x.label x.children f e in
      ap (λ k. form_by ns (node_in texts x) k) (sym q.0)
      ∙ ap (λ cs. form_by ns (node_in texts (shape x.label cs)) (t.kind_of f)) (sym q.1)
      ∙ told-by x.label f (fits x.label x.children f (ap (λ k. t.form_by k x.label x.children) q.0 ∙ e))
