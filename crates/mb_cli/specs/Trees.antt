-- The fault of bytes that have no tree.
use Rattle.std.specs.Prelude.{ℕ, ◌<◌, ◌≤◌, List, []}
use Rattle.mb_token.specs.declared.token.Spanned.{Spanned}
use Rattle.mb_lexer.specs.Reading.{HasFault}
use Rattle.mb_lexer.specs.declared.fault.LexFault.TheVariants as lexical
use Rattle.mb_tree.specs.Roses.{Rose, write}
use Rattle.mb_tree.specs.Heights.{height_of}
use Rattle.mb_grammar.specs.Script.{IsScript}
use Rattle.mb_load_tree.specs.Trees.{highest, AreTokens, Parses}
use Rattle.mb_scope.specs.Faults.{IsLeast}
use Rattle.mb_scope.specs.declared.fault.NameFault.{NameFault}
use Rattle.mb_scope.specs.declared.fault.NameFault.TheVariants as static
use Rattle.mb_cli.specs.declared.status.ScriptKind.{ScriptKind}
use Rattle.mb_cli.specs.declared.status.ScriptKind.TheVariants.{Utf8, Token, Number, Shape, Deep, Twice, Stray, BadTarget}

-- the most bytes of a script
abbrev pub longest_script : ℕ
longest_script = 1048576

-- the bytes have tokens that are no script
pub record HasNoScript (bytes : List ℕ) : Type 0 where
  pub texts : List (List ℕ)
  pub tokens : List Spanned
  pub are : AreTokens texts bytes tokens
  pub none : (tree : Rose) → IsScript tokens tree → ⊥

-- they are a script whose tree is too high
pub record IsTooHigh (bytes : List ℕ) : Type 0 where
  pub texts : List (List ℕ)
  pub tree : Rose
  pub parses : Parses texts bytes tree
  pub high : highest < height_of tree

-- they are a script whose tree isn't too high, and this is the first node that breaks a static rule
pub record BreaksFirst (bytes : List ℕ) (fault : NameFault) : Type 0 where
  pub texts : List (List ℕ)
  pub tree : Rose
  pub parses : Parses texts bytes tree
  pub low : height_of tree ≤ highest
  pub least : IsLeast (write [] tree) fault

-- the fault of the bytes
abbrev pub ScriptFault : List ℕ → ScriptKind → Type 0
ScriptFault bytes (Utf8 at) = HasFault bytes (lexical.Utf8 at)
ScriptFault bytes (Token at) = HasFault bytes (lexical.Token at)
ScriptFault bytes (Number at) = HasFault bytes (lexical.Number at)
ScriptFault bytes Shape = HasNoScript bytes
ScriptFault bytes Deep = IsTooHigh bytes
ScriptFault bytes (Twice node) = BreaksFirst bytes (static.Twice node)
ScriptFault bytes (Stray node) = BreaksFirst bytes (static.Stray node)
ScriptFault bytes (BadTarget node) = BreaksFirst bytes (static.BadTarget node)
