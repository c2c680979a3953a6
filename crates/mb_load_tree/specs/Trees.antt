-- Which bytes are a script: they have tokens, these have a tree, and it is low and breaks no rule.
use Rattle.std.specs.Prelude.{ℕ, ◌≤◌, List, []}
use Rattle.mb_token.specs.declared.token.Spanned.{Spanned}
use Rattle.mb_text.specs.Texts.{AreDistinct}
use Rattle.mb_lexer.specs.Reading.{Lexeme, HasTokens}
use Rattle.mb_lexer.specs.Shown.{AreSeen}
use Rattle.mb_tree.specs.Roses.{Rose, write}
use Rattle.mb_tree.specs.Heights.{height_of}
use Rattle.mb_grammar.specs.Script.{IsScript}
use Rattle.mb_scope.specs.Faults.{IsRight}
use Rattle.mb_load.specs.Pair.{left_script, right_script}

-- the greatest height of a script's tree
abbrev pub highest : ℕ
highest = 256

-- the bytes have these tokens, whose ids are of these texts
pub record AreTokens (texts : List (List ℕ)) (bytes : List ℕ) (tokens : List Spanned) : Type 0 where
  pub lexemes : List Lexeme
  pub has : HasTokens bytes lexemes
  pub seen : AreSeen texts tokens lexemes
  pub distinct : AreDistinct texts

-- the bytes' tokens are a script, and this is its tree (ECMA-262, 16.1), of any height
pub record Parses (texts : List (List ℕ)) (bytes : List ℕ) (tree : Rose) : Type 0 where
  pub tokens : List Spanned
  pub are : AreTokens texts bytes tokens
  pub script : IsScript tokens tree

-- the same, not too high, and by the static rules
pub record ReadsAs (texts : List (List ℕ)) (bytes : List ℕ) (tree : Rose) : Type 0 where
  pub parses : Parses texts bytes tree
  pub low : height_of tree ≤ highest
  pub right : IsRight (write [] tree)

abbrev pub HasTree : List ℕ → Type 0
HasTree bytes = (texts : List (List ℕ)) × (tree : Rose) × ReadsAs texts bytes tree

-- both scripts of a load have a tree
abbrev pub LoadsHaveTrees : Type 0
LoadsHaveTrees = (start size : ℕ) → size ≤ 5000 → HasTree (left_script start size) × HasTree right_script
