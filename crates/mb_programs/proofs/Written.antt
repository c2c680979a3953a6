-- What is written of a tree: each node stands behind its parts, and has what its place asks.
use Rattle.mb_base.specs.declared.value.NodeId.{NodeId}
use Rattle.mb_base.specs.declared.value.StrId.{StrId}
use Rattle.mb_frames.specs.Grammatical.{HasItsParts, IsGrammatical, IsOfNodeSort, kind_sort}
use Rattle.mb_frames.specs.Kinds.{NodeSort}
use Rattle.mb_grammar.proofs.Forms.{tree_has_forms}
use Rattle.mb_grammar.specs.Script.{IsTreeOfGrammar}
use Rattle.mb_programs.proofs.Placing.{AllFit, Fits, Placed}
use Rattle.mb_programs.proofs.Sorts.{sort_of}
use Rattle.mb_tree.proofs.Written.{root_least, root_write, roots_length, write_all_keeps}
use Rattle.mb_tree.specs.Form.{Form, form_of}
use Rattle.mb_tree.specs.Roses.{Rose, Roses, Shape, bare, id_of, more, node, none, root, roots, shape, size, write}
use Rattle.mb_tree.specs.Roses.{write_all}
use Rattle.mb_tree.specs.declared.kind.Kind.TheVariants as k
use Rattle.mb_world.specs.Ids.{Maybe}
use Rattle.std.proofs.Common.{List, Option, Some, [], ap, append-nil, append_assoc, arith, get_or, length}
use Rattle.std.proofs.Common.{length-append, refl, slice_get, subst, sym, ℕ, ◌+◌, ◌++◌, ◌<◌, ◌≤◌, ◌∙◌, ◌∷◌, ◌≡◌}
use Rattle.std.proofs.lemmas.List.Elements.{All-append, All-cons, All-from_get_or, All-get_or, All-nil}
use Rattle.std.proofs.lemmas.Option.{slice_get-get_or}
use Rattle.std.specs.Prelude.{All, IsSomeAnd, ◌^◌}

pub at-end : {X : Type 0} (xs : List X) (x : X) (ys : List X) → slice_get (xs ++ x ∷ ys) (length xs) ≡ Some x
at-end [] x ys = refl
at-end (z ∷ zs) x ys = at-end zs x ys

size-least : (out : List Shape) (parts : Roses) → length out + size parts ≤ length (write_all out parts)
size-least out none = omega arith
size-least out (more part parts) =
    omega (arith, root_least out part, root_write out part, size-least (write out part) parts)

-- a node's parts, where the nodes are among these, and its name, where there are n texts
pub record IsGood (n : ℕ) (nodes : List Shape) (x : Shape) : Type 0 where
  pub few : length x.children < 2 ^ 32
  pub parts : (f : Form) → form_of x ≡ Some f → HasItsParts (IsOfNodeSort nodes) f
  pub name : Maybe (λ (id : StrId). id.0 < n) x.label.name

module _ (n : ℕ) (nodes : List Shape) (bound : length nodes < 2 ^ 32) where
  abbrev P : NodeSort → NodeId → Type 0
  P = IsOfNodeSort nodes

  root-there : (out : List Shape) (part : Rose) (rest : List Shape) → nodes ≡ write out part ++ rest
      → P (sort_of part) (id_of (root out part))
  root-there out (node label parts) rest e =
      let before : List Shape = write_all out parts in
      let own : Shape = shape label (roots out parts) in
      let there : slice_get nodes (length before) ≡ Some own =
      ap (λ (ns : List Shape). slice_get ns (length before)) (e ∙ append_assoc before (own ∷ []) rest)
      ∙ at-end before own rest in
      subst (λ (o : Option Shape). IsSomeAnd o (λ x. kind_sort x.label.kind ≡ kind_sort label.kind)) (sym there) refl

  placed : (out : List Shape) (parts : Roses) (rest : List Shape) → nodes ≡ write_all out parts ++ rest
      → Placed P (roots out parts) parts
  placed out none rest e = tt
  placed out (more part parts) rest e =
      let new = write_all_keeps (write out part) parts in (
        root-there out part (new.0 ++ rest)
            (e ∙ ap (λ (ns : List Shape). ns ++ rest) new.1 ∙ append_assoc (write out part) new.0 rest),
        placed (write out part) parts rest e,
      )

  mutual
    written : (out : List Shape) (r : Rose) (rest : List Shape) → nodes ≡ write out r ++ rest → Fits P n r
        → All (IsGood n nodes) out → All (IsGood n nodes) (write out r)
    written out (node label parts) rest e h g =
        let before : List Shape = write_all out parts in
        let own : Shape = shape label (roots out parts) in
        let same : nodes ≡ before ++ (own ∷ rest) = e ∙ append_assoc before (own ∷ []) rest in
        let here : IsGood n nodes own = record {
          few = omega (
            arith,
            roots_length out parts,
            size-least out parts,
            ap (λ (ns : List Shape). length ns) same,
            length-append before (own ∷ rest),
            bound,
          );
          parts = h.0.1 out (placed out parts (own ∷ rest) same);
          name = h.0.0;
        } in
        All-append (IsGood n nodes) before (own ∷ []) (all-written out parts (own ∷ rest) same h.1 g)
        (All-cons (IsGood n nodes) own [] here (All-nil (IsGood n nodes)))

    all-written : (out : List Shape) (parts : Roses) (rest : List Shape) → nodes ≡ write_all out parts ++ rest
        → AllFit P n parts → All (IsGood n nodes) out → All (IsGood n nodes) (write_all out parts)
    all-written out none rest e h g = g
    all-written out (more part parts) rest e h g =
        let new = write_all_keeps (write out part) parts in
        all-written (write out part) parts rest e h.1
        (written out part (new.0 ++ rest)
        (e ∙ ap (λ (ns : List Shape). ns ++ rest) new.1 ∙ append_assoc (write out part) new.0 rest) h.0 g)

  pub all-good : (r : Rose) → nodes ≡ write [] r → Fits P n r → All (IsGood n nodes) nodes
  all-good r e h =
      subst (λ (ns : List Shape). All (IsGood n nodes) ns) (sym e)
      (written [] r [] (e ∙ sym (append-nil (write [] r))) h (All-nil (IsGood n nodes)))

  pub grammatical : IsTreeOfGrammar nodes → All (IsGood n nodes) nodes → All (IsGrammatical nodes) nodes
  grammatical tree good =
      All-from_get_or (IsGrammatical nodes) nodes none-there
      (λ i l.
      let g = All-get_or (IsGood n nodes) nodes i none-there l good in
      let e = slice_get-get_or nodes i none-there l in
      record { form = tree_has_forms nodes tree i (get_or nodes i none-there) e; few = g.few; parts = g.parts })
    where
      none-there : Shape
      none-there = shape (bare k.Empty) []
