-- Trees that tests build.
use Rattle.std.proofs.Common.{◌≡◌, ℕ, zero, suc, ◌+◌, ◌≤◌, List, [], ◌∷◌, ◌++◌, length, take, drop, refl, sym, ap, ◌∙◌, arith, append-nil, length-append, length-drop, ◌-◌}
use Rattle.std.proofs.lemmas.List.{take_all}
use Rattle.std.proofs.Math.Seq.{take-append_seam, drop-append_seam}
use Rattle.mb_base.specs.declared.value.NodeId.{NodeId}
use Rattle.mb_tree.specs.Roses.{Rose, Roses, node, none, Label, Shape, shape, id_of, write_all, roots}
use Rattle.mb_tree.specs.machine.Operands.{written, places, Gathered, Short, Got, gather}
use Rattle.mb_tree.specs.Heights.{IsWhole, whole}
use Rattle.mb_tree.proofs.Written.{gather_written, gather_places, gather_size, roots_length, places_length}
use Rattle.mb_scope.specs.machine.Rows.{IsBuilt}

pub built_none : (shapes : List Shape) (waiting : List NodeId) → shapes ≡ [] → waiting ≡ [] → IsBuilt shapes waiting
built_none shapes waiting s w = record { trees = []; shapes_are = s; waiting_are = w }

enough : (n : ℕ) (rs : List Rose) (acc : Roses) → n ≤ length rs → gather n rs acc ≡ Short → ⊥
enough zero rs acc h e = cc
enough (suc n) [] acc h e = omega arith
enough (suc n) (r ∷ rs) acc h e = enough n rs _ (omega arith) e

module _ (shapes shapes' : List Shape) (ids ids' kids : List NodeId) (label : Label) (n k : ℕ) (b : IsBuilt shapes ids) (fits : k + n ≡ length ids) (kids_are : kids ≡ drop k ids) (ids_are : ids' ≡ take k ids ++ id_of (length shapes) ∷ []) (shapes_are : shapes' ≡ shapes ++ shape label kids ∷ []) where
  long : length ids ≡ length b.trees
  long = ap length b.waiting_are ∙ places_length [] b.trees

  pub built_more : IsBuilt shapes' ids'
  built_more = each (gather n b.trees none) refl
    where
      each : (g : Gathered) → gather n b.trees none ≡ g → IsBuilt shapes' ids'
      each Short e = absurd (enough n b.trees none (omega (arith, long)) e)
      each (Got parts rest) e =
          let was : shapes ≡ written [] b.trees = b.shapes_are in
          let w : shapes ≡ write_all (written [] rest) parts = was ∙ gather_written [] n b.trees rest none parts e in
          let front = places [] rest in
          let back = roots (written [] rest) parts in
          let split : ids ≡ front ++ back = b.waiting_are ∙ sym (append-nil (places [] b.trees)) ∙ gather_places [] n b.trees rest none parts e in
          let size : length back ≡ n = roots_length (written [] rest) parts ∙ gather_size n b.trees rest none parts e ∙ omega arith in
          let at : length front ≡ k = omega (arith, ap length split, length-append front back) in
          let front_is : take k ids ≡ front = ap (λ x. take k x) split ∙ ap (λ i. take i (front ++ back)) (sym at) ∙ take-append_seam front back in
          let back_is : drop k ids ≡ back = ap (λ x. drop k x) split ∙ ap (λ i. drop i (front ++ back)) (sym at) ∙ drop-append_seam front back in
          record {
            trees = node label parts ∷ rest;
            shapes_are = shapes_are ∙ ap (λ x. x ++ shape label kids ∷ []) w ∙ ap (λ x. write_all (written [] rest) parts ++ shape label x ∷ []) (kids_are ∙ back_is);
            waiting_are = ids_are ∙ ap (λ x. x ++ id_of (length shapes) ∷ []) front_is ∙ ap (λ x. front ++ id_of (length x) ∷ []) w;
          }

pub built_whole : (shapes : List Shape) (ids : List NodeId) → IsBuilt shapes ids → length ids ≡ 1 → IsWhole shapes
built_whole shapes ids b h = each b.trees b.shapes_are (sym (places_length [] b.trees) ∙ ap length (sym b.waiting_are) ∙ h)
  where
    each : (rs : List Rose) → shapes ≡ written [] rs → length rs ≡ 1 → IsWhole shapes
    each [] e l = cc
    each (r ∷ []) e l = whole r e
    each (r ∷ q ∷ rs) e l = absurd (omega arith)

-- a slice up to its end
pub back_of : (ids : List NodeId) (n k : ℕ) → n ≡ length ids → take (n - k) (drop k ids) ≡ drop k ids
back_of ids n k e =
    take_all (n - k) (drop k ids) (omega (arith, length-drop k ids))
