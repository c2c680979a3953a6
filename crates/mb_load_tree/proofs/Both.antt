-- Both scripts have a tree.
use Rattle.std.proofs.Common.{◌≡◌, ℕ, ◌≤◌, false, List, [], ◌∷◌, ◌++◌, zero, suc, codes, refl, sym, ap, subst, ◌∙◌, arith, append_assoc, append-nil}
use Rattle.std.specs.List.{flat_map, IsDistinct}
use Rattle.std.specs.Str.{bytes_eq}
use Rattle.std.proofs.lemmas.Map.Keys.{IsDistinct-cons}
use Rattle.mb_tree.specs.declared.kind.Kind.TheVariants as k
use Rattle.mb_tree.specs.Roses.{node, more, bare}
use Rattle.mb_load.specs.Pair.{line, number, kind_of, push_line, push_lines, left_script, right_script}
use Rattle.mb_load_tree.specs.Trees.{HasTree, LoadsHaveTrees}
use Rattle.mb_load_tree.proofs.Pieces.{text_of, lexemes, tokens, seen, have_tokens}
use Rattle.mb_load_tree.proofs.Lines.{first_line, lines_of, AreSmall, left_stands, lines_text}
use Rattle.mb_load_tree.proofs.Lines as left
use Rattle.mb_load_tree.proofs.Runs.{from_start}
use Rattle.mb_load_tree.proofs.LeftTree.{first_tree, line_trees, left_statements}
use Rattle.mb_load_tree.proofs.LeftRules.{left_right, left_height}
use Rattle.mb_load_tree.proofs.Right as right
use Rattle.mb_load_tree.proofs.Right.{right_pieces, right_text, right_stands}
use Rattle.mb_load_tree.proofs.RightTree.{right_trees, right_statements}
use Rattle.mb_load_tree.proofs.RightRules.{right_tree, right_right}

flat_append : {X Y : Type 0} (f : X → List Y) (xs ys : List X) → flat_map f (xs ++ ys) ≡ flat_map f xs ++ flat_map f ys
flat_append f [] ys = refl
flat_append f (x ∷ xs) ys = ap (λ r. f x ++ r) (flat_append f xs ys) ∙ sym (append_assoc (f x) (flat_map f xs) (flat_map f ys))

abbrev drawn : ℕ → ℕ → List (ℕ × ℕ)
drawn start zero = []
drawn start (suc size) = drawn start size ++ (kind_of (number start (suc size)), suc size) ∷ []

abbrev line_by : ℕ × ℕ → List ℕ
line_by l = push_line l.0 l.1

drawn_lines : (start size : ℕ) → push_lines start size ≡ flat_map line_by (drawn start size)
drawn_lines start zero = refl
drawn_lines start (suc size) =
    ap (λ r. r ++ push_line (kind_of (number start (suc size))) (suc size)) (drawn_lines start size)
    ∙ ap (λ r. flat_map line_by (drawn start size) ++ r) (sym (append-nil (push_line (kind_of (number start (suc size))) (suc size))))
    ∙ sym (flat_append line_by (drawn start size) ((kind_of (number start (suc size)), suc size) ∷ []))

small_append : (xs : List (ℕ × ℕ)) (y : ℕ × ℕ) → AreSmall xs → y.1 ≤ 5000 → AreSmall (xs ++ y ∷ [])
small_append [] y small last = (last, tt)
small_append (x ∷ xs) y small last = (small.0, small_append xs y small.1 last)

drawn_small : (start size : ℕ) → size ≤ 5000 → AreSmall (drawn start size)
drawn_small start zero most = tt
drawn_small start (suc size) most = small_append (drawn start size) (kind_of (number start (suc size)), suc size) (drawn_small start size (omega arith)) most

none_distinct : IsDistinct bytes_eq []
unfolding IsDistinct
none_distinct = tt

left_distinct : IsDistinct bytes_eq left.texts
left_distinct =
    IsDistinct-cons bytes_eq _ _ (refl, (refl, (refl, (refl, (refl, (refl, (refl, tt)))))))
    (IsDistinct-cons bytes_eq _ _ (refl, (refl, (refl, (refl, (refl, (refl, tt))))))
    (IsDistinct-cons bytes_eq _ _ (refl, (refl, (refl, (refl, (refl, tt)))))
    (IsDistinct-cons bytes_eq _ _ (refl, (refl, (refl, (refl, tt))))
    (IsDistinct-cons bytes_eq _ _ (refl, (refl, (refl, tt)))
    (IsDistinct-cons bytes_eq _ _ (refl, (refl, tt))
    (IsDistinct-cons bytes_eq _ _ (refl, tt)
    (IsDistinct-cons bytes_eq _ [] tt none_distinct)))))))

right_distinct : IsDistinct bytes_eq right.texts
right_distinct =
    IsDistinct-cons bytes_eq _ _ (refl, (refl, (refl, (refl, (refl, (refl, (refl, (refl, (refl, (refl, tt))))))))))
    (IsDistinct-cons bytes_eq _ _ (refl, (refl, (refl, (refl, (refl, (refl, (refl, (refl, (refl, tt)))))))))
    (IsDistinct-cons bytes_eq _ _ (refl, (refl, (refl, (refl, (refl, (refl, (refl, (refl, tt))))))))
    (IsDistinct-cons bytes_eq _ _ (refl, (refl, (refl, (refl, (refl, (refl, (refl, tt)))))))
    (IsDistinct-cons bytes_eq _ _ (refl, (refl, (refl, (refl, (refl, (refl, tt))))))
    (IsDistinct-cons bytes_eq _ _ (refl, (refl, (refl, (refl, (refl, tt)))))
    (IsDistinct-cons bytes_eq _ _ (refl, (refl, (refl, (refl, tt))))
    (IsDistinct-cons bytes_eq _ _ (refl, (refl, (refl, tt)))
    (IsDistinct-cons bytes_eq _ _ (refl, (refl, tt))
    (IsDistinct-cons bytes_eq _ _ (refl, tt)
    (IsDistinct-cons bytes_eq _ [] tt none_distinct))))))))))

lines_have_tree : (ls : List (ℕ × ℕ)) → AreSmall ls → HasTree (text_of (first_line (lines_of ls)))
lines_have_tree ls small =
    let pieces = first_line (lines_of ls) in (
      left.texts,
      node (bare k.Script) (more first_tree (line_trees ls)),
      record {
        parses = record {
          tokens = tokens 0 false pieces;
          are = record {
            lexemes = lexemes 0 false pieces;
            has = have_tokens left.texts pieces (left_stands ls small);
            seen = seen left.texts pieces 0 false (left_stands ls small);
            distinct = left_distinct;
          };
          script = record { parts = more first_tree (line_trees ls); stand = left_statements (tokens 0 false pieces) ls (from_start (tokens 0 false pieces)); whole = refl };
        };
        low = left_height ls;
        right = left_right ls;
      },
    )

left_has_tree : (start size : ℕ) → size ≤ 5000 → HasTree (left_script start size)
left_has_tree start size most =
    subst HasTree (ap (λ r. line (codes "desk.list = [];") ++ r) (sym (drawn_lines start size ∙ lines_text (drawn start size))))
    (lines_have_tree (drawn start size) (drawn_small start size most))

right_has_tree : HasTree right_script
right_has_tree = subst HasTree right_text (
  right.texts,
  right_tree,
  record {
    parses = record {
      tokens = tokens 0 false right_pieces;
      are = record {
        lexemes = lexemes 0 false right_pieces;
        has = have_tokens right.texts right_pieces right_stands;
        seen = seen right.texts right_pieces 0 false right_stands;
        distinct = right_distinct;
      };
      script = record { parts = right_trees; stand = right_statements (tokens 0 false right_pieces) (from_start (tokens 0 false right_pieces)); whole = refl };
    };
    low = omega arith;
    right = right_right;
  },
)

pub loads_have_trees : LoadsHaveTrees
loads_have_trees start size most = (left_has_tree start size most, right_has_tree)
