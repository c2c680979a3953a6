-- A script as it was read, and what a run asks of it.
use Rattle.std.specs.Prelude.{List, Some, [], length, slice_get, ℕ, ◌-◌, ◌<◌, ◌^◌, ◌≡◌}
use Rattle.mb_frames.specs.Grammatical.{IsProgram}
use Rattle.mb_grammar.specs.Script.{IsScript}
use Rattle.mb_lexer.specs.Reading.{HasTokens, Lexeme}
use Rattle.mb_lexer.specs.Shown.{AreSeen}
use Rattle.mb_scope.specs.Faults.{IsRight}
use Rattle.mb_scope.specs.Names.{names_of}
use Rattle.mb_text.specs.Texts.{KeepsIds}
use Rattle.mb_token.specs.declared.token.Spanned.{Spanned}
use Rattle.mb_tree.specs.Roses.{Rose, write}
use Rattle.mb_world.specs.Data.{Script, fresh, with_texts}
use Rattle.mb_world.specs.Form.{Form, ScriptForm}
use Rattle.mb_world.specs.Ids.{ScriptIn}
use Rattle.mb_world.specs.Image.{program_in}

-- The bytes of some script have tokens, and these a tree; it keeps the static rules, and these are its nodes and the
-- names that its scopes bind. More texts may have come since.
pub record WasRead (texts : List (List ℕ)) (p : Script) : Type 0 where
  pub bytes : List ℕ
  pub lexemes : List Lexeme
  pub tokens : List Spanned
  pub tree : Rose
  pub own_texts : List (List ℕ)
  pub has : HasTokens bytes lexemes
  pub seen : AreSeen own_texts tokens lexemes
  pub stays : KeepsIds own_texts texts
  pub script : IsScript tokens tree
  pub nodes_are : p.nodes ≡ write [] tree
  pub names_are : p.names ≡ names_of p.nodes
  pub right : IsRight p.nodes
  pub few : length p.nodes < 2 ^ 32

abbrev pub forms_of : List (List ℕ) → Script → List Form
forms_of texts p = (program_in texts (Some p)).forms

-- the last of these forms is the whole script's
pub record HasWhole (forms : List Form) : Type 0 where
  pub statements : List ℕ
  pub last : slice_get forms (length forms - 1) ≡ Some (ScriptForm statements)
  pub few : length forms < 2 ^ 32

abbrev pub IsWhole : List (List ℕ) → Script → Type 0
IsWhole texts p = HasWhole (forms_of texts p)

-- each node has its parts, the whole script stands last, and each text is there
pub record CanStart (texts : List (List ℕ)) (p : Script) : Type 0 where
  pub program : IsProgram p
  pub whole : IsWhole texts p
  pub ids : ScriptIn (with_texts fresh texts) p
