-- Parts that may be left out, by the grammar.
use Rattle.mb_frames.specs.Kinds.{Expression, Statement}
use Rattle.mb_grammar.specs.Grammar as g
use Rattle.mb_grammar.specs.Grammar.{absent, catch_all, catch_named, finally, first_expression, first_lets, no_catch}
use Rattle.mb_grammar.specs.Grammar.{no_finally, present}
use Rattle.mb_grammar.specs.Tokens.{Place, Tokens}
use Rattle.mb_programs.proofs.Placing.{CaughtIf, IsFirst, IsOfSort, OneIf, a_part, all_caught, no_part, none_caught}
use Rattle.mb_programs.proofs.Placing.{one_caught}
use Rattle.mb_programs.proofs.Sorts.{block-sort, lets-sort, stands-sort}
use Rattle.mb_tree.specs.Roses.{Roses}
use Rattle.std.proofs.Common.{Bool, inl, inr, refl}

module _ {ts : Tokens} where
  pub perhaps-one : {b : Bool} {parts : Roses} {i j : Place} → g.Perhaps ts b parts i j
      → OneIf (IsOfSort Expression) b parts
  perhaps-one absent = no_part
  perhaps-one (present q) = a_part (stands-sort q)

  pub first-one : {b : Bool} {parts : Roses} {i j : Place} → g.ForFirst ts b parts i j → OneIf IsFirst b parts
  first-one (first_lets q) = a_part (inr (lets-sort q))
  first-one (first_expression absent) = no_part
  first-one (first_expression (present q)) = a_part (inl (stands-sort q))

  pub finally-one : {b : Bool} {parts : Roses} {i j : Place} → g.Finally ts b parts i j
      → OneIf (IsOfSort Statement) b parts
  finally-one no_finally = no_part
  finally-one (finally q1 q2) = a_part (block-sort q2)

  pub caught-of : {b c : Bool} {parts : Roses} {i j : Place} → g.Caught ts b c parts i j → CaughtIf b c parts
  caught-of no_catch = none_caught
  caught-of (catch_all q1 q2) = all_caught (block-sort q2)
  caught-of (catch_named q1 q2 q3 q4 q5) = one_caught refl (block-sort q5)
