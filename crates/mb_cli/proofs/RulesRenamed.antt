-- The static rules under other ids: what breaks a rule breaks it where the nodes are renamed.
use Rattle.std.proofs.Common.{◌≡◌, ℕ, Bool, true, false, List, [], ◌∷◌, ◌++◌, Option, Some, None, slice_get, map, if◌then◌else◌, refl, sym, ap, ap₂, subst, ◌∙◌}
use Rattle.std.specs.Prelude.{IsTrue, IsFalse}
use Rattle.std.specs.Option.{option_map}
use Rattle.std.specs.List.{flat_map, Contains}
use Rattle.std.proofs.lemmas.Option.{slice_get-map}
use Rattle.std.proofs.lemmas.List.{map-append}
use Rattle.mb_base.specs.declared.value.NodeId.{NodeId}
use Rattle.mb_base.specs.declared.value.StrId.{StrId}
use Rattle.mb_tree.specs.Roses.{Shape}
use Rattle.mb_grammar.specs.Renaming.{renamed_name, renamed_shape}
use Rattle.mb_scope.specs.declared.binding.Binding.{Binding}
use Rattle.mb_scope.specs.declared.binding.Declares.{Declares}
use Rattle.mb_scope.specs.declared.binding.Declares.TheVariants.{Itself, Decls, Nothing}
use Rattle.mb_scope.specs.declared.jump.Jump.{Jump}
use Rattle.mb_scope.specs.declared.jump.Jump.TheVariants as j
use Rattle.mb_scope.specs.declared.target.TargetType.TheVariants.{Simple, Grouped}
use Rattle.mb_scope.specs.declared.target.Use.{Use}
use Rattle.mb_scope.specs.declared.target.Use.TheVariants.{Assigns, Deletes, Plain}
use Rattle.mb_scope.specs.declared.fault.NameFault.{NameFault}
use Rattle.mb_scope.specs.declared.fault.NameFault.TheVariants.{Twice, Stray, BadTarget, NoMemory}
use Rattle.mb_scope.specs.Kinds.{declares_of, is_decl, is_function, is_loop, jump_of, target_type_of, use_of, is_property, group_part, operand_of}
use Rattle.mb_scope.specs.Bindings.{own, decl_of, decl_binding, bound_as, bound_at, bound_by, bindings_of, parts_in, catch_block, in_block, together, Repeats, IsTwice}
use Rattle.mb_scope.specs.Jumps.{IsPart, InFunction, direct_function, outer_function, InLoop, direct_loop, outer_loop, Strays, IsStray}
use Rattle.mb_scope.specs.Targets.{IsTarget, simple, grouped, IsProperty, MissesAt, IsBadTarget}
use Rattle.mb_scope.specs.Faults.{Breaks}

-- what is made of the elements' images
flat_map-map : {X Y Z : Type 0} (before : X → List Y) (after : X → List Z) (h : Y → Z) → ((x : X) → after x ≡ map h (before x)) → (xs : List X) → flat_map after xs ≡ map h (flat_map before xs)
flat_map-map before after h each [] = refl
flat_map-map before after h each (x ∷ xs) = ap₂ (λ a b. a ++ b) (each x) (flat_map-map before after h each xs) ∙ sym (map-append h (before x) (flat_map before xs))

module _ (f : StrId → StrId) where
  abbrev pub renamed_binding : Binding → Binding
  renamed_binding b = record { node = b.node; name = f b.name; fixed = b.fixed }

  module _ (shapes : List Shape) where
    abbrev others : List Shape
    others = map (renamed_shape f) shapes

    node_there : (i : ℕ) → slice_get others i ≡ option_map (renamed_shape f) (slice_get shapes i)
    node_there i = slice_get-map (renamed_shape f) shapes i

    own_renamed : (id : NodeId) (name : Option StrId) (fixed : Bool) → own id (renamed_name f name) fixed ≡ map renamed_binding (own id name fixed)
    own_renamed id None fixed = refl
    own_renamed id (Some name) fixed = refl

    decl_of_renamed : (fixed : Bool) (id : NodeId) (node : Option Shape) → decl_of fixed id (option_map (renamed_shape f) node) ≡ map renamed_binding (decl_of fixed id node)
    decl_of_renamed fixed id None = refl
    decl_of_renamed fixed id (Some node) = by (is_decl node.label.kind)
      where
        by : (b : Bool) → (if b then own id (renamed_name f node.label.name) fixed else []) ≡ map renamed_binding (if b then own id node.label.name fixed else [])
        by true = own_renamed id node.label.name fixed
        by false = refl

    decl_renamed : (fixed : Bool) (id : NodeId) → decl_binding others fixed id ≡ map renamed_binding (decl_binding shapes fixed id)
    decl_renamed fixed id = ap (decl_of fixed id) (node_there id.0) ∙ decl_of_renamed fixed id (slice_get shapes id.0)

    bound_as_renamed : (id : NodeId) (node : Shape) (d : Declares) → bound_as others id (renamed_shape f node) d ≡ map renamed_binding (bound_as shapes id node d)
    bound_as_renamed id node Itself = own_renamed id node.label.name false
    bound_as_renamed id node (Decls fixed) = flat_map-map (decl_binding shapes fixed) (decl_binding others fixed) renamed_binding (decl_renamed fixed) node.children
    bound_as_renamed id node Nothing = refl

    bound_at_renamed : (id : NodeId) (node : Option Shape) → bound_at others id (option_map (renamed_shape f) node) ≡ map renamed_binding (bound_at shapes id node)
    bound_at_renamed id None = refl
    bound_at_renamed id (Some node) = bound_as_renamed id node (declares_of node.label.kind)

    bound_by_renamed : (id : NodeId) → bound_by others id ≡ map renamed_binding (bound_by shapes id)
    bound_by_renamed id = ap (bound_at others id) (node_there id.0) ∙ bound_at_renamed id (slice_get shapes id.0)

    pub bindings_renamed : (parts : List NodeId) → bindings_of others parts ≡ map renamed_binding (bindings_of shapes parts)
    bindings_renamed parts = flat_map-map (bound_by shapes) (bound_by others) renamed_binding bound_by_renamed parts

    parts_renamed : (node : Option Shape) → parts_in (option_map (renamed_shape f) node) ≡ parts_in node
    parts_renamed None = refl
    parts_renamed (Some node) = refl

    in_block_renamed : (block : Option NodeId) → in_block others block ≡ map renamed_binding (in_block shapes block)
    in_block_renamed None = refl
    in_block_renamed (Some block) =
        ap (bindings_of others) (ap parts_in (node_there block.0) ∙ parts_renamed (slice_get shapes block.0)) ∙ bindings_renamed (parts_in (slice_get shapes block.0))

    together_renamed : (node : Shape) → together others (renamed_shape f node) ≡ map renamed_binding (together shapes node)
    together_renamed node =
        ap₂ (λ a b. a ++ b) (bindings_renamed node.children) (in_block_renamed (catch_block node))
        ∙ sym (map-append renamed_binding (bindings_of shapes node.children) (in_block shapes (catch_block node)))

    repeats_renamed : (bindings : List Binding) (id : NodeId) → Repeats bindings id → Repeats (map renamed_binding bindings) id
    repeats_renamed bindings id r = record {
      first = r.first;
      second = r.second;
      earlier = renamed_binding r.earlier;
      later = renamed_binding r.later;
      in_order = r.in_order;
      earlier_is = slice_get-map renamed_binding bindings r.first ∙ ap (option_map renamed_binding) r.earlier_is;
      later_is = slice_get-map renamed_binding bindings r.second ∙ ap (option_map renamed_binding) r.later_is;
      one_name = ap f r.one_name;
      of_node = r.of_node;
    }

    there_too : (i : ℕ) (node : Shape) → slice_get shapes i ≡ Some node → slice_get others i ≡ Some (renamed_shape f node)
    there_too i node is = node_there i ∙ ap (option_map (renamed_shape f)) is

    twice_renamed : (id : NodeId) → IsTwice shapes id → IsTwice others id
    twice_renamed id t = record {
      scope = t.scope;
      node = renamed_shape f t.node;
      is = there_too t.scope.0 t.node t.is;
      repeats = subst (λ bs. Repeats bs id) (sym (together_renamed t.node)) (repeats_renamed (together shapes t.node) id t.repeats);
    }

    -- back from a renamed node

    record Before (i : ℕ) (node : Shape) : Type 0 where
      first : Shape
      there : slice_get shapes i ≡ Some first
      is : renamed_shape f first ≡ node

    before : (i : ℕ) (node : Shape) → slice_get others i ≡ Some node → Before i node
    before i node is = by (slice_get shapes i) refl (sym (node_there i) ∙ is)
      where
        by : (o : Option Shape) → slice_get shapes i ≡ o → option_map (renamed_shape f) o ≡ Some node → Before i node
        by None e h = cc
        by (Some first) e h = record { first = first; there = e; is = cc }

    part_before : {part outer : NodeId} {node : Shape} (p : IsPart others part outer node) → IsPart shapes part outer (before outer.0 node p.is).first
    part_before {part} {outer} {node} p = let b = before outer.0 node p.is in record { is = b.there; among = subst (λ (n : Shape). Contains n.children part) (sym b.is) p.among }

    in_function_before : {id : NodeId} → InFunction others id → InFunction shapes id
    in_function_before (direct_function {outer = outer} {node = node} part is) =
        direct_function (part_before part) (subst (λ (n : Shape). IsTrue (is_function n.label.kind)) (sym (before outer.0 node part.is).is) is)
    in_function_before (outer_function part q) = outer_function (part_before part) (in_function_before q)

    in_loop_before : {id : NodeId} → InLoop others id → InLoop shapes id
    in_loop_before (direct_loop {outer = outer} {node = node} part is) =
        direct_loop (part_before part) (subst (λ (n : Shape). IsTrue (is_loop n.label.kind)) (sym (before outer.0 node part.is).is) is)
    in_loop_before (outer_loop {outer = outer} {node = node} part is q) =
        outer_loop (part_before part) (subst (λ (n : Shape). IsFalse (is_function n.label.kind)) (sym (before outer.0 node part.is).is) is) (in_loop_before q)

    strays_renamed : (id : NodeId) (jump : Jump) → Strays shapes id jump → Strays others id jump
    strays_renamed id j.FromFunction s = λ q. s (in_function_before q)
    strays_renamed id j.FromLoop s = λ q. s (in_loop_before q)
    strays_renamed id j.Nothing s = s

    stray_renamed : (id : NodeId) → IsStray shapes id → IsStray others id
    stray_renamed id s = record { node = renamed_shape f s.node; is = there_too id.0 s.node s.is; strays = strays_renamed id (jump_of s.node.label.kind) s.strays }

    target_before : {id : NodeId} → IsTarget others id → IsTarget shapes id
    target_before (simple {id = id} {node = node} at form) =
        let b = before id.0 node at.is in
        simple (record { is = b.there }) (subst (λ (n : Shape). target_type_of n.label.kind ≡ Simple) (sym b.is) form)
    target_before (grouped {id = id} {part = part} {node = node} at form first q) =
        let b = before id.0 node at.is in
        grouped (record { is = b.there }) (subst (λ (n : Shape). target_type_of n.label.kind ≡ Grouped) (sym b.is) form)
        (subst (λ (n : Shape). group_part n.label.kind n.children ≡ Some part) (sym b.is) first) (target_before q)

    property_before : (id : NodeId) → IsProperty others id → IsProperty shapes id
    property_before id p =
        let b = before id.0 p.node p.is in
        record { node = b.first; is = b.there; property = subst (λ (n : Shape). IsTrue (is_property n.label.kind)) (sym b.is) p.property }

    misses_renamed : (usage : Use) (operand : Option NodeId) → MissesAt shapes usage operand → MissesAt others usage operand
    misses_renamed usage None m = m
    misses_renamed Assigns (Some operand) m = λ q. m (target_before q)
    misses_renamed Deletes (Some operand) m = λ q. m (property_before operand q)
    misses_renamed Plain (Some operand) m = m

    bad_renamed : (id : NodeId) → IsBadTarget shapes id → IsBadTarget others id
    bad_renamed id b = record {
      node = renamed_shape f b.node;
      is = there_too id.0 b.node b.is;
      misses = misses_renamed (use_of b.node.label.kind) (operand_of b.node.label.kind b.node.children) b.misses;
    }

    pub breaks_renamed : (fault : NameFault) → Breaks shapes fault → Breaks (map (renamed_shape f) shapes) fault
    breaks_renamed (Twice id) b = twice_renamed id b
    breaks_renamed (Stray id) b = stray_renamed id b
    breaks_renamed (BadTarget id) b = bad_renamed id b
    breaks_renamed NoMemory b = b
