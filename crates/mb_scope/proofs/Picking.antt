-- The parts that rules look at, by a node's kind and children and by its form.
use Rattle.std.proofs.Common.{◌≡◌, true, false, List, [], ◌∷◌, Option, Some, None, refl, sym, ap₂, ◌∙◌}
use Rattle.std.specs.Prelude.{slice_get}
use Rattle.std.specs.Option.{option_map}
use Rattle.mb_base.specs.declared.value.NodeId.{NodeId}
use Rattle.mb_tree.specs.declared.form.Form.{Form as Given}
use Rattle.mb_tree.specs.declared.form.Form.TheVariants as f
use Rattle.mb_tree.specs.declared.kind.Kind.{Kind}
use Rattle.mb_tree.specs.declared.kind.Kind.TheVariants as k
use Rattle.mb_tree.specs.Roses.{Label}
use Rattle.mb_tree.specs.Form.{form_by, kind_of, parts_of}
use Rattle.mb_tree.specs.Seen.{seen}
use Rattle.mb_tree.proofs.Shapes.{form_is}
use Rattle.mb_scope.specs.Kinds.{group_part, operand_of, handler_of}
use Rattle.mb_scope.specs.machine.Picked.{inner_of, changed_by, named_handler}

pub group_first : (kind : Kind) (parts : List NodeId) (part : NodeId) → group_part kind parts ≡ Some part → slice_get parts 0 ≡ Some part
group_first k.Group (a ∷ []) part e = e
group_first k.Group [] part e = absurd (let z : ⊥ = cc in z)
group_first k.Group (a ∷ b ∷ bs) part e = absurd (let z : ⊥ = cc in z)
group_first _ parts part e = absurd (let z : ⊥ = cc in z)

pub operand_first : (kind : Kind) (parts : List NodeId) (part : NodeId) → operand_of kind parts ≡ Some part → slice_get parts 0 ≡ Some part
operand_first k.Assign (a ∷ b ∷ []) part e = e
operand_first k.Assign [] part e = absurd (let z : ⊥ = cc in z)
operand_first k.Assign (a ∷ []) part e = absurd (let z : ⊥ = cc in z)
operand_first k.Assign (a ∷ b ∷ c ∷ cs) part e = absurd (let z : ⊥ = cc in z)
operand_first (k.Compound sign) (a ∷ b ∷ []) part e = e
operand_first (k.Compound sign) [] part e = absurd (let z : ⊥ = cc in z)
operand_first (k.Compound sign) (a ∷ []) part e = absurd (let z : ⊥ = cc in z)
operand_first (k.Compound sign) (a ∷ b ∷ c ∷ cs) part e = absurd (let z : ⊥ = cc in z)
operand_first (k.Update plus prefix) (a ∷ []) part e = e
operand_first (k.Update plus prefix) [] part e = absurd (let z : ⊥ = cc in z)
operand_first (k.Update plus prefix) (a ∷ b ∷ bs) part e = absurd (let z : ⊥ = cc in z)
operand_first (k.Unary sign) (a ∷ []) part e = e
operand_first (k.Unary sign) [] part e = absurd (let z : ⊥ = cc in z)
operand_first (k.Unary sign) (a ∷ b ∷ bs) part e = absurd (let z : ⊥ = cc in z)
operand_first _ parts part e = absurd (let z : ⊥ = cc in z)

pub handler_third : (kind : Kind) (parts : List NodeId) (part : NodeId) → handler_of kind parts ≡ Some part → slice_get parts 2 ≡ Some part
handler_third (k.Try true true false) (a ∷ b ∷ c ∷ []) part e = e
handler_third (k.Try true true true) (a ∷ b ∷ c ∷ d ∷ []) part e = e
handler_third _ parts part e = absurd (let z : ⊥ = cc in z)

-- what is picked from a form is what its kind and parts say

group_given : (o : Given) → inner_of (Some o) ≡ group_part (kind_of (seen o)) (parts_of (seen o))
group_given (f.Group inner) = refl
group_given _ = refl

operand_given : (o : Given) → changed_by (Some o) ≡ operand_of (kind_of (seen o)) (parts_of (seen o))
operand_given (f.Assign target value) = refl
operand_given (f.Compound sign target value) = refl
operand_given (f.Update plus prefix target) = refl
operand_given (f.Unary sign operand) = refl
operand_given _ = refl

handler_given : (o : Given) → named_handler (Some o) ≡ handler_of (kind_of (seen o)) (parts_of (seen o))
handler_given (f.Try block None None None) = refl
handler_given (f.Try block None None (Some ending)) = refl
handler_given (f.Try block None (Some handler) None) = refl
handler_given (f.Try block None (Some handler) (Some ending)) = refl
handler_given (f.Try block (Some caught) None None) = refl
handler_given (f.Try block (Some caught) None (Some ending)) = refl
handler_given (f.Try block (Some caught) (Some handler) None) = refl
handler_given (f.Try block (Some caught) (Some handler) (Some ending)) = refl
handler_given _ = refl

-- where there is no form there is nothing to pick

group_none : (kind : Kind) (label : Label) (parts : List NodeId) → None ≡ form_by kind label parts → None ≡ group_part kind parts
group_none k.Group label (a ∷ []) e = absurd (let z : ⊥ = cc in z)
group_none _ label parts e = refl

operand_none : (kind : Kind) (label : Label) (parts : List NodeId) → None ≡ form_by kind label parts → None ≡ operand_of kind parts
operand_none k.Assign label (a ∷ b ∷ []) e = absurd (let z : ⊥ = cc in z)
operand_none (k.Compound sign) label (a ∷ b ∷ []) e = absurd (let z : ⊥ = cc in z)
operand_none (k.Update plus prefix) label (a ∷ []) e = absurd (let z : ⊥ = cc in z)
operand_none (k.Unary sign) label (a ∷ []) e = absurd (let z : ⊥ = cc in z)
operand_none _ label parts e = refl

handler_none : (kind : Kind) (label : Label) (parts : List NodeId) → None ≡ form_by kind label parts → None ≡ handler_of kind parts
handler_none (k.Try true true false) label (a ∷ b ∷ c ∷ []) e = absurd (let z : ⊥ = cc in z)
handler_none (k.Try true true true) label (a ∷ b ∷ c ∷ d ∷ []) e = absurd (let z : ⊥ = cc in z)
handler_none _ label parts e = refl

module _ (kind : Kind) (label : Label) (parts : List NodeId) where
  pub group_picked : (o : Option Given) → option_map seen o ≡ form_by kind label parts → inner_of o ≡ group_part kind parts
  group_picked None e = group_none kind label parts e
  group_picked (Some g) e = let q = form_is kind label parts (seen g) (sym e) in group_given g ∙ ap₂ group_part q.0 q.1

  pub operand_picked : (o : Option Given) → option_map seen o ≡ form_by kind label parts → changed_by o ≡ operand_of kind parts
  operand_picked None e = operand_none kind label parts e
  operand_picked (Some g) e = let q = form_is kind label parts (seen g) (sym e) in operand_given g ∙ ap₂ operand_of q.0 q.1

  pub handler_picked : (o : Option Given) → option_map seen o ≡ form_by kind label parts → named_handler o ≡ handler_of kind parts
  handler_picked None e = handler_none kind label parts e
  handler_picked (Some g) e = let q = form_is kind label parts (seen g) (sym e) in handler_given g ∙ ap₂ handler_of q.0 q.1
