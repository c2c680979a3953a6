-- The left script's tree breaks no rule and isn't high.
use Rattle.std.proofs.Common.{◌≡◌, ℕ, ◌+◌, ◌≤◌, List, [], ◌∷◌, ◌++◌, zero, suc, length, Some, slice_get, refl, sym, subst, arith, append_assoc}
use Rattle.mb_base.specs.declared.value.NodeId.{NodeId}
use Rattle.mb_tree.specs.declared.kind.Kind.TheVariants as k
use Rattle.mb_tree.specs.Roses.{node, none, more, bare, Shape, shape, id_of, write, write_all}
use Rattle.mb_tree.specs.Heights.{height_of, most_of}
use Rattle.mb_grammar.specs.Labels.{made_label, named_property}
use Rattle.mb_grammar.specs.declared.function.Maker.TheVariants as mk
use Rattle.mb_scope.specs.Jumps.{InFunction, direct_function}
use Rattle.mb_scope.specs.Targets.{simple}
use Rattle.mb_scope.specs.Faults.{IsRight}
use Rattle.mb_load_tree.proofs.Lines.{id}
use Rattle.mb_load_tree.proofs.LeftTree.{desk_list, number_of, object_tree, getter_tree, element_tree, push_tree, first_tree, line_trees}
use Rattle.mb_load_tree.proofs.Calm.{get_behind, CalmAt, AreCalm, calm_append, quiet_calm, calm_quiet, none_calm, calm_right}

calm_object : (out : List Shape) (n : ℕ) → AreCalm out → AreCalm (write out (object_tree n))
calm_object out n calm =
    calm_quiet _ _ (record { declares = refl; catches = λ parts. refl; jumps = refl; uses = refl })
    (calm_quiet _ _ (record { declares = refl; catches = λ parts. refl; jumps = refl; uses = refl })
    (calm_quiet _ _ (record { declares = refl; catches = λ parts. refl; jumps = refl; uses = refl }) calm))

-- `return` and the getter around it, behind the number
abbrev return_shape : NodeId → Shape
return_shape number = shape (bare k.Return) (number ∷ [])

abbrev getter_shape : NodeId → Shape
getter_shape inner = shape (made_label (mk.Getter (named_property (id 5))) 0) (inner ∷ [])

calm_both : (out : List Shape) (number : NodeId) → AreCalm out → AreCalm ((out ++ return_shape number ∷ []) ++ getter_shape (id_of (length out)) ∷ [])
calm_both out number calm =
    subst AreCalm (sym (append_assoc out (return_shape number ∷ []) (getter_shape (id_of (length out)) ∷ [])))
    (calm_append out (return_shape number ∷ getter_shape (id_of (length out)) ∷ []) calm each)
  where
    all : List Shape
    all = out ++ return_shape number ∷ getter_shape (id_of (length out)) ∷ []

    here : length out + 0 ≡ length out
    here = omega arith

    inside : InFunction all (id_of (length out + 0))
    inside =
        subst (λ n. InFunction all (id_of n)) (sym here)
        (direct_function {outer = id_of (length out + 1)} (record { is = get_behind out (return_shape number ∷ getter_shape (id_of (length out)) ∷ []) 1; among = (0, omega arith, refl) }) refl)

    each : (k : ℕ) (s : Shape) → slice_get (return_shape number ∷ getter_shape (id_of (length out)) ∷ []) k ≡ Some s → CalmAt all (id_of (length out + k)) s
    each zero s is =
        let same : return_shape number ≡ s = cc in
        subst (λ y. CalmAt all (id_of (length out + 0)) y) same (record { declares = refl; catches = refl; stays = λ strays. strays inside; aims = λ m. m })
    each (suc zero) s is =
        let same : getter_shape (id_of (length out)) ≡ s = cc in
        subst (λ y. CalmAt all (id_of (length out + 1)) y) same (quiet_calm all (id_of (length out + 1)) (getter_shape (id_of (length out))) (record { declares = refl; catches = λ parts. refl; jumps = refl; uses = refl }))
    each (suc (suc k)) s is = cc

calm_getter : (out : List Shape) (n : ℕ) → AreCalm out → AreCalm (write out (getter_tree n))
calm_getter out n calm =
    calm_both (write out (number_of n)) (id_of (length out)) (calm_quiet _ _ (record { declares = refl; catches = λ parts. refl; jumps = refl; uses = refl }) calm)

calm_element : (out : List Shape) (kind n : ℕ) → AreCalm out → AreCalm (write out (element_tree kind n))
calm_element out zero n calm = calm_object out n calm
calm_element out (suc zero) n calm =
    calm_quiet _ _ (record { declares = refl; catches = λ parts. refl; jumps = refl; uses = refl })
    (calm_object _ n
    (calm_quiet _ _ (record { declares = refl; catches = λ parts. refl; jumps = refl; uses = refl })
    (calm_quiet _ _ (record { declares = refl; catches = λ parts. refl; jumps = refl; uses = refl }) calm)))
calm_element out (suc (suc zero)) n calm =
    calm_quiet _ _ (record { declares = refl; catches = λ parts. refl; jumps = refl; uses = refl }) (calm_getter out n calm)
calm_element out (suc (suc (suc kind))) n calm =
    calm_quiet _ _ (record { declares = refl; catches = λ parts. refl; jumps = refl; uses = refl })
    (calm_quiet _ _ (record { declares = refl; catches = λ parts. refl; jumps = refl; uses = refl }) calm)

calm_push : (out : List Shape) (kind n : ℕ) → AreCalm out → AreCalm (write out (push_tree kind n))
calm_push out kind n calm =
    calm_quiet _ _ (record { declares = refl; catches = λ parts. refl; jumps = refl; uses = refl })
    (calm_quiet _ _ (record { declares = refl; catches = λ parts. refl; jumps = refl; uses = refl })
    (calm_element _ kind n
    (calm_quiet _ _ (record { declares = refl; catches = λ parts. refl; jumps = refl; uses = refl })
    (calm_quiet _ _ (record { declares = refl; catches = λ parts. refl; jumps = refl; uses = refl })
    (calm_quiet _ _ (record { declares = refl; catches = λ parts. refl; jumps = refl; uses = refl }) calm)))))

calm_lines : (out : List Shape) (ls : List (ℕ × ℕ)) → AreCalm out → AreCalm (write_all out (line_trees ls))
calm_lines out [] calm = calm
calm_lines out (l ∷ ls) calm = calm_lines (write out (push_tree l.0 l.1)) ls (calm_push out l.0 l.1 calm)

-- the assignment of the first line
calm_first : AreCalm (write [] first_tree)
calm_first =
    calm_quiet _ _ (record { declares = refl; catches = λ parts. refl; jumps = refl; uses = refl })
    (calm_append front (assignment ∷ [])
    (calm_quiet _ _ (record { declares = refl; catches = λ parts. refl; jumps = refl; uses = refl })
    (calm_quiet _ _ (record { declares = refl; catches = λ parts. refl; jumps = refl; uses = refl })
    (calm_quiet _ _ (record { declares = refl; catches = λ parts. refl; jumps = refl; uses = refl }) none_calm)))
    one)
  where
    front : List Shape
    front = write (write [] desk_list) (node (bare k.ArrayLit) none)

    assignment : Shape
    assignment = shape (bare k.Assign) (id_of 1 ∷ id_of 2 ∷ [])

    one : (n : ℕ) (s : Shape) → slice_get (assignment ∷ []) n ≡ Some s → CalmAt (front ++ assignment ∷ []) (id_of (length front + n)) s
    one zero s is =
        let same : assignment ≡ s = cc in
        subst (λ y. CalmAt (front ++ assignment ∷ []) (id_of (length front + 0)) y) same (record { declares = refl; catches = refl; stays = λ strays. strays; aims = λ m. m (simple (record { is = refl }) refl) })
    one (suc n) s is = cc

pub left_right : (ls : List (ℕ × ℕ)) → IsRight (write [] (node (bare k.Script) (more first_tree (line_trees ls))))
left_right ls =
    calm_right (write [] (node (bare k.Script) (more first_tree (line_trees ls))))
    (calm_quiet _ _ (record { declares = refl; catches = λ parts. refl; jumps = refl; uses = refl }) (calm_lines (write [] first_tree) ls calm_first))

-- heights

element_height : (kind n : ℕ) → height_of (element_tree kind n) ≤ 4
element_height zero n = omega arith
element_height (suc zero) n = omega arith
element_height (suc (suc zero)) n = omega arith
element_height (suc (suc (suc kind))) n = omega arith

push_height : (kind n : ℕ) → height_of (push_tree kind n) ≤ 6
push_height kind n = let e : height_of (element_tree kind n) ≤ 4 = element_height kind n in omega arith

lines_height : (ls : List (ℕ × ℕ)) → most_of (line_trees ls) ≤ 6
lines_height [] = omega arith
lines_height (l ∷ ls) =
    let one : height_of (push_tree l.0 l.1) ≤ 6 = push_height l.0 l.1 in
    let rest : most_of (line_trees ls) ≤ 6 = lines_height ls in
    omega arith

pub left_height : (ls : List (ℕ × ℕ)) → height_of (node (bare k.Script) (more first_tree (line_trees ls))) ≤ 256
left_height ls = let rest : most_of (line_trees ls) ≤ 6 = lines_height ls in omega arith
