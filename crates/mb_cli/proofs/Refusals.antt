-- The faults of a script's parts are faults of the script.
use Rattle.std.proofs.Common.{◌≡◌, ◌≤◌, ◌<◌, ◌⊎◌, inl, inr, ℕ, List, [], refl, sym, ap, subst, ◌∙◌}
use Rattle.std.specs.Prelude.{Result, Ok, Err, IfOk, OnOk}
use Rattle.std.specs.Result.{IsErrAnd}
use Rattle.mb_token.specs.declared.token.Spanned.{Spanned}
use Rattle.mb_lexer.specs.Reading.{HasFault}
use Rattle.mb_lexer.specs.declared.fault.LexFault.{LexFault}
use Rattle.mb_lexer.specs.declared.fault.LexFault.TheVariants as lexical
use Rattle.mb_tree.specs.declared.program.Program.{Program}
use Rattle.mb_tree.specs.Roses.{Rose, Shape, shapes, write}
use Rattle.mb_tree.specs.Heights.{height_of}
use Rattle.mb_grammar.specs.Script.{IsScript}
use Rattle.mb_parse_stmt.specs.declared.parser.ParseFault.{ParseFault}
use Rattle.mb_parse_stmt.specs.declared.parser.ParseFault.TheVariants as shape
use Rattle.mb_scope.specs.Faults.{IsLeast}
use Rattle.mb_scope.specs.declared.fault.NameFault.{NameFault}
use Rattle.mb_scope.specs.declared.fault.NameFault.TheVariants as static
use Rattle.mb_cli.specs.declared.status.ScriptKind.{ScriptKind}
use Rattle.mb_cli.specs.declared.status.ScriptKind.TheVariants as kind
use Rattle.mb_cli.specs.declared.tree.TreeFault.{TreeFault}
use Rattle.mb_cli.specs.declared.tree.TreeFault.TheVariants.{Bad}
use Rattle.mb_cli.specs.machine.TreeFaults.{of_lexer, of_parser, of_rules}
use Rattle.mb_load_tree.specs.Trees.{highest, AreTokens, Parses, ReadsAs, HasTree}
use Rattle.mb_cli.specs.Trees.{ScriptFault}

-- what a `?` answers is what it makes of the fault
pub made_of : {T : Type 0} (r : Result T TreeFault) (made fault : TreeFault) → IsErrAnd r (λ y. y ≡ made) → r ≡ Err fault → made ≡ fault
made_of (Ok x) made fault is e = absurd is
made_of (Err y) made fault is e = let same : y ≡ fault = cc in sym is ∙ same

pub by_lexer : (bytes : List ℕ) (fault : LexFault) (k : ScriptKind) → (fault ≡ lexical.NoMemory) ⊎ HasFault bytes fault → of_lexer fault ≡ Bad k → ScriptFault bytes k
by_lexer bytes (lexical.Utf8 at) k (inl none) e = cc
by_lexer bytes (lexical.Utf8 at) k (inr has) e = let same : kind.Utf8 at ≡ k = cc in subst (ScriptFault bytes) same has
by_lexer bytes (lexical.Token at) k (inl none) e = cc
by_lexer bytes (lexical.Token at) k (inr has) e = let same : kind.Token at ≡ k = cc in subst (ScriptFault bytes) same has
by_lexer bytes (lexical.Number at) k (inl none) e = cc
by_lexer bytes (lexical.Number at) k (inr has) e = let same : kind.Number at ≡ k = cc in subst (ScriptFault bytes) same has
by_lexer bytes lexical.NoMemory k has e = cc

pub by_parser : (bytes : List ℕ) (texts : List (List ℕ)) (tokens ts : List Spanned) (fault : ParseFault) (k : ScriptKind) → AreTokens texts bytes tokens → ts ≡ tokens
    → (fault ≡ shape.Shape → (tree : Rose) → IsScript ts tree → ⊥) → (fault ≡ shape.Deep → (tree : Rose) × IsScript ts tree × (highest < height_of tree))
    → of_parser fault ≡ Bad k → ScriptFault bytes k
by_parser bytes texts tokens ts shape.Shape k are is none high e =
    let same : kind.Shape ≡ k = cc in
    subst (ScriptFault bytes) same (record { texts = texts; tokens = tokens; are = are; none = λ tree script. none refl tree (subst (λ t. IsScript t tree) (sym is) script) })
by_parser bytes texts tokens ts shape.Deep k are is none high e =
    let same : kind.Deep ≡ k = cc in
    let found = high refl in
    subst (ScriptFault bytes) same (record {
      texts = texts;
      tree = found.0;
      parses = record { tokens = tokens; are = are; script = subst (λ t. IsScript t found.0) is found.1 };
      high = found.2;
    })
by_parser bytes texts tokens ts shape.NoMemory k are is none high e = cc

pub by_rules : (bytes : List ℕ) (texts : List (List ℕ)) (tree : Rose) (shapes : List Shape) (fault : NameFault) (k : ScriptKind) → Parses texts bytes tree
    → shapes ≡ write [] tree → height_of tree ≤ highest → (fault ≡ static.NoMemory) ⊎ IsLeast shapes fault → of_rules fault ≡ Bad k → ScriptFault bytes k
by_rules bytes texts tree shapes fault k parses is low (inl none) e = let q : of_rules static.NoMemory ≡ Bad k = ap of_rules (sym none) ∙ e in cc
by_rules bytes texts tree shapes fault k parses is low (inr least) e = of fault (subst (λ s. IsLeast s fault) is least) e
  where
    of : (fault : NameFault) → IsLeast (write [] tree) fault → of_rules fault ≡ Bad k → ScriptFault bytes k
    of (static.Twice node) least e = let same : kind.Twice node ≡ k = cc in subst (ScriptFault bytes) same (record { texts = texts; tree = tree; parses = parses; low = low; least = least })
    of (static.Stray node) least e = let same : kind.Stray node ≡ k = cc in subst (ScriptFault bytes) same (record { texts = texts; tree = tree; parses = parses; low = low; least = least })
    of (static.BadTarget node) least e = let same : kind.BadTarget node ≡ k = cc in subst (ScriptFault bytes) same (record { texts = texts; tree = tree; parses = parses; low = low; least = least })
    of static.NoMemory least e = cc

-- a tree that was read is one of the bytes
pub has_tree : (texts : List (List ℕ)) (bytes : List ℕ) (r : Result Program TreeFault)
    → IfOk r (λ program. (tree : Rose) × (shapes program.tree ≡ write [] tree) × ReadsAs texts bytes tree) → OnOk r (HasTree bytes)
has_tree texts bytes (Ok program) (tree, is, reads) = (texts, tree, reads)
has_tree texts bytes (Err fault) read = tt
