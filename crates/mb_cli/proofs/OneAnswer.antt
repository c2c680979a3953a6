-- What a script's bytes are is one thing.
use Rattle.std.proofs.Common.{◌≡◌, ◌⊎◌, inl, inr, ◌≤◌, ◌<◌, ℕ, List, [], refl, sym, ap, subst, ◌∙◌, arith}
use Rattle.std.proofs.lemmas.List.{length-map}
use Rattle.std.proofs.lemmas.Bool.{cases_lt}
use Rattle.mb_base.specs.declared.value.StrId.{StrId}
use Rattle.mb_token.specs.declared.token.Spanned.{Spanned}
use Rattle.mb_lexer.specs.Reading.{Lexeme, HasTokens, HasFault}
use Rattle.mb_lexer.specs.Shown.{AreSeen}
use Rattle.mb_lexer.specs.declared.fault.LexFault.{LexFault}
use Rattle.mb_lexer.specs.declared.fault.LexFault.TheVariants as lexical
use Rattle.mb_lexer.proofs.Lawful.{one_list, one_first_fault, not_tokens_and_fault, tokens_or_fault}
use Rattle.mb_tree.specs.Roses.{Rose, write}
use Rattle.mb_tree.specs.Heights.{height_of, whole}
use Rattle.mb_grammar.specs.Grammar.{Statements}
use Rattle.mb_grammar.specs.Renaming.{renamed_spanned, renamed_tokens, renamed, renamed_all}
use Rattle.mb_grammar.proofs.Renamed.{height_renamed, write_renamed, statements_renamed}
use Rattle.mb_grammar.specs.Script.{IsScript}
use Rattle.mb_scope.specs.declared.fault.NameFault.{NameFault}
use Rattle.mb_scope.specs.declared.fault.NameFault.TheVariants as static
use Rattle.mb_scope.specs.Faults.{Breaks, IsRight, IsLeast}
use Rattle.mb_cli.specs.declared.status.ScriptKind.{ScriptKind}
use Rattle.mb_cli.specs.declared.status.ScriptKind.TheVariants as k
use Rattle.mb_cli.specs.declared.tree.TreeFault.TheVariants.{Bad}
use Rattle.mb_cli.specs.machine.TreeFaults.{of_lexer, of_rules}
use Rattle.mb_load_tree.specs.Trees.{highest, AreTokens, Parses, HasTree}
use Rattle.mb_cli.specs.Trees.{HasNoScript, IsTooHigh, BreaksFirst, ScriptFault}
use Rattle.mb_scope.proofs.Ruling.{one_least_fault}
use Rattle.mb_scope.proofs.Deciding.{right_or_least}
use Rattle.mb_parse_stmt.proofs.Once.{one_script}
use Rattle.mb_parse_stmt.proofs.Decides.{script_decided}
use Rattle.mb_cli.proofs.Tables.{moved}
use Rattle.mb_cli.proofs.TokensSeen.{table, tokens_moved}
use Rattle.mb_cli.proofs.RulesRenamed.{breaks_renamed}

-- one list of bytes over two tables

pub script_renamed : (f : StrId → StrId) (ts : List Spanned) (tree : Rose) → IsScript ts tree → IsScript (renamed_tokens f ts) (renamed f tree)
script_renamed f ts tree s = record {
  parts = renamed_all f s.parts;
  stand = subst (λ n. Statements (renamed_tokens f ts) (renamed_all f s.parts) 0 n) (sym (length-map ts (renamed_spanned f))) (statements_renamed f ts s.stand);
  whole = ap (renamed f) s.whole;
}

tokens_over : (bytes : List ℕ) (A B : List (List ℕ)) (ts us : List Spanned) → AreTokens A bytes ts → AreTokens B bytes us → renamed_tokens (moved A B) ts ≡ us
tokens_over bytes A B ts us p q =
    tokens_moved A B q.distinct ts us q.lexemes (subst (AreSeen A ts) (one_list bytes p.lexemes q.lexemes p.has q.has) p.seen) q.seen

script_over : (bytes : List ℕ) (A B : List (List ℕ)) (us : List Spanned) (a : Rose) → Parses A bytes a → AreTokens B bytes us → IsScript us (renamed (moved A B) a)
script_over bytes A B us a p q = subst (λ ts. IsScript ts (renamed (moved A B) a)) (tokens_over bytes A B p.tokens us p.are q) (script_renamed (moved A B) p.tokens a p.script)

pub tree_over : (bytes : List ℕ) (A B : List (List ℕ)) (a b : Rose) → Parses A bytes a → Parses B bytes b → renamed (moved A B) a ≡ b
tree_over bytes A B a b p q = one_script q.tokens (renamed (moved A B) a) b (script_over bytes A B q.tokens a p q.are) q.script

height_over : (bytes : List ℕ) (A B : List (List ℕ)) (a b : Rose) → Parses A bytes a → Parses B bytes b → height_of a ≡ height_of b
height_over bytes A B a b p q = sym (height_renamed (moved A B) a) ∙ ap height_of (tree_over bytes A B a b p q)

breaks_over : (bytes : List ℕ) (A B : List (List ℕ)) (a b : Rose) (fault : NameFault) → Parses A bytes a → Parses B bytes b → Breaks (write [] a) fault → Breaks (write [] b) fault
breaks_over bytes A B a b fault p q broken =
    subst (λ t. Breaks (write [] t) fault) (tree_over bytes A B a b p q)
    (subst (λ s. Breaks s fault) (sym (write_renamed (moved A B) [] a)) (breaks_renamed (moved A B) (write [] a) fault broken))

least_over : (bytes : List ℕ) (A B : List (List ℕ)) (a b : Rose) (fault : NameFault) → Parses A bytes a → Parses B bytes b → IsLeast (write [] a) fault → IsLeast (write [] b) fault
least_over bytes A B a b fault p q least = record {
  broken = breaks_over bytes A B a b fault p q least.broken;
  least = λ other broken. least.least other (breaks_over bytes B A b a other q p broken);
}

-- the stages at which a script may have its fault
data Stage (bytes : List ℕ) (kind : ScriptKind) : Type 0 where
  lexing : (fault : LexFault) → HasFault bytes fault → of_lexer fault ≡ Bad kind → Stage bytes kind
  parsing : HasNoScript bytes → k.Shape ≡ kind → Stage bytes kind
  measuring : IsTooHigh bytes → k.Deep ≡ kind → Stage bytes kind
  judging : (fault : NameFault) → BreaksFirst bytes fault → of_rules fault ≡ Bad kind → Stage bytes kind

stage : (bytes : List ℕ) (kind : ScriptKind) → ScriptFault bytes kind → Stage bytes kind
stage bytes (k.Utf8 at) fault = lexing (lexical.Utf8 at) fault refl
stage bytes (k.Token at) fault = lexing (lexical.Token at) fault refl
stage bytes (k.Number at) fault = lexing (lexical.Number at) fault refl
stage bytes k.Shape fault = parsing fault refl
stage bytes k.Deep fault = measuring fault refl
stage bytes (k.Twice node) fault = judging (static.Twice node) fault refl
stage bytes (k.Stray node) fault = judging (static.Stray node) fault refl
stage bytes (k.BadTarget node) fault = judging (static.BadTarget node) fault refl

never_at : (bytes : List ℕ) (kind : ScriptKind) → HasTree bytes → Stage bytes kind → ⊥
never_at bytes kind (A, a, reads) (lexing fault has is) = not_tokens_and_fault bytes reads.parses.are.lexemes fault reads.parses.are.has has
never_at bytes kind (A, a, reads) (parsing f is) = f.none (renamed (moved A f.texts) a) (script_over bytes A f.texts f.tokens a reads.parses f.are)
never_at bytes kind (A, a, reads) (measuring f is) =
    let same : height_of a ≡ height_of f.tree = height_over bytes A f.texts a f.tree reads.parses f.parses in
    omega (arith, same, reads.low, f.high)
never_at bytes kind (A, a, reads) (judging fault f is) = reads.right fault (breaks_over bytes f.texts A f.tree a fault f.parses reads.parses f.least.broken)

-- no bytes have a tree and a fault
pub never_both : (bytes : List ℕ) (kind : ScriptKind) → HasTree bytes → ScriptFault bytes kind → ⊥
never_both bytes kind has fault = never_at bytes kind has (stage bytes kind fault)

one_stage : (bytes : List ℕ) (a b : ScriptKind) → Stage bytes a → Stage bytes b → a ≡ b
one_stage bytes a b (lexing e has is) (lexing f has_too is_too) =
    let same : e ≡ f = one_first_fault bytes e f has has_too in
    let kinds : Bad a ≡ Bad b = sym is ∙ ap of_lexer same ∙ is_too in
    cc
one_stage bytes a b (lexing e has is) (parsing f is_too) = absurd (not_tokens_and_fault bytes f.are.lexemes e f.are.has has)
one_stage bytes a b (lexing e has is) (measuring f is_too) = absurd (not_tokens_and_fault bytes f.parses.are.lexemes e f.parses.are.has has)
one_stage bytes a b (lexing e has is) (judging g f is_too) = absurd (not_tokens_and_fault bytes f.parses.are.lexemes e f.parses.are.has has)
one_stage bytes a b (parsing f is) (lexing e has is_too) = absurd (not_tokens_and_fault bytes f.are.lexemes e f.are.has has)
one_stage bytes a b (parsing f is) (parsing g is_too) = sym is ∙ is_too
one_stage bytes a b (parsing f is) (measuring g is_too) = absurd (f.none (renamed (moved g.texts f.texts) g.tree) (script_over bytes g.texts f.texts f.tokens g.tree g.parses f.are))
one_stage bytes a b (parsing f is) (judging e g is_too) = absurd (f.none (renamed (moved g.texts f.texts) g.tree) (script_over bytes g.texts f.texts f.tokens g.tree g.parses f.are))
one_stage bytes a b (measuring f is) (lexing e has is_too) = absurd (not_tokens_and_fault bytes f.parses.are.lexemes e f.parses.are.has has)
one_stage bytes a b (measuring f is) (parsing g is_too) = absurd (g.none (renamed (moved f.texts g.texts) f.tree) (script_over bytes f.texts g.texts g.tokens f.tree f.parses g.are))
one_stage bytes a b (measuring f is) (measuring g is_too) = sym is ∙ is_too
one_stage bytes a b (measuring f is) (judging e g is_too) =
    let same : height_of f.tree ≡ height_of g.tree = height_over bytes f.texts g.texts f.tree g.tree f.parses g.parses in
    absurd (omega (arith, same, f.high, g.low))
one_stage bytes a b (judging e f is) (lexing g has is_too) = absurd (not_tokens_and_fault bytes f.parses.are.lexemes g f.parses.are.has has)
one_stage bytes a b (judging e f is) (parsing g is_too) = absurd (g.none (renamed (moved f.texts g.texts) f.tree) (script_over bytes f.texts g.texts g.tokens f.tree f.parses g.are))
one_stage bytes a b (judging e f is) (measuring g is_too) =
    let same : height_of f.tree ≡ height_of g.tree = height_over bytes f.texts g.texts f.tree g.tree f.parses g.parses in
    absurd (omega (arith, same, f.low, g.high))
one_stage bytes a b (judging e f is) (judging g h is_too) =
    let same : e ≡ g = one_least_fault (write [] h.tree) e g (least_over bytes f.texts h.texts f.tree h.tree e f.parses h.parses f.least) h.least in
    let kinds : Bad a ≡ Bad b = sym is ∙ ap of_rules same ∙ is_too in
    cc

-- bytes have at most one fault
pub one_fault : (bytes : List ℕ) (a b : ScriptKind) → ScriptFault bytes a → ScriptFault bytes b → a ≡ b
one_fault bytes a b p q = one_stage bytes a b (stage bytes a p) (stage bytes b q)

-- a tree or a fault

abbrev pub HasFaultOf : List ℕ → Type 0
HasFaultOf bytes = (kind : ScriptKind) × ScriptFault bytes kind

lexical_fault : (bytes : List ℕ) (fault : LexFault) → HasFault bytes fault → HasFaultOf bytes
lexical_fault bytes (lexical.Utf8 at) has = (k.Utf8 at, has)
lexical_fault bytes (lexical.Token at) has = (k.Token at, has)
lexical_fault bytes (lexical.Number at) has = (k.Number at, has)
lexical_fault bytes lexical.NoMemory has = absurd has

static_fault : (bytes : List ℕ) (fault : NameFault) → BreaksFirst bytes fault → HasFaultOf bytes
static_fault bytes (static.Twice node) breaks = (k.Twice node, breaks)
static_fault bytes (static.Stray node) breaks = (k.Stray node, breaks)
static_fault bytes (static.BadTarget node) breaks = (k.BadTarget node, breaks)
static_fault bytes static.NoMemory breaks = absurd breaks.least.broken

by_height : (bytes : List ℕ) (texts : List (List ℕ)) (tree : Rose) → Parses texts bytes tree → (highest < height_of tree) ⊎ (height_of tree ≤ highest) → HasTree bytes ⊎ HasFaultOf bytes
by_height bytes texts tree parses (inl high) = inr ((k.Deep, record { texts = texts; tree = tree; parses = parses; high = high }))
by_height bytes texts tree parses (inr low) = by (right_or_least (write [] tree) (whole tree refl))
  where
    by : IsRight (write [] tree) ⊎ ((fault : NameFault) × IsLeast (write [] tree) fault) → HasTree bytes ⊎ HasFaultOf bytes
    by (inl right) = inl ((texts, tree, record { parses = parses; low = low; right = right }))
    by (inr (fault, least)) = inr (static_fault bytes fault (record { texts = texts; tree = tree; parses = parses; low = low; least = least }))

-- bytes with tokens have a tree or a fault
by_script : (bytes : List ℕ) (texts : List (List ℕ)) (tokens : List Spanned) → AreTokens texts bytes tokens → ((tree : Rose) × IsScript tokens tree) ⊎ ((tree : Rose) → IsScript tokens tree → ⊥)
    → HasTree bytes ⊎ HasFaultOf bytes
by_script bytes texts tokens are (inl (tree, script)) = by_height bytes texts tree (record { tokens = tokens; are = are; script = script }) (cases_lt highest (height_of tree))
by_script bytes texts tokens are (inr none) = inr ((k.Shape, record { texts = texts; tokens = tokens; are = are; none = none }))

by_tokens : (bytes : List ℕ) → ((ls : List Lexeme) × HasTokens bytes ls) ⊎ ((fault : LexFault) × HasFault bytes fault) → HasTree bytes ⊎ HasFaultOf bytes
by_tokens bytes (inr (fault, has)) = inr (lexical_fault bytes fault has)
by_tokens bytes (inl (ls, has)) =
    let seen = table ls in
    by_script bytes seen.texts seen.tokens (record { lexemes = ls; has = has; seen = seen.seen; distinct = seen.distinct }) (script_decided seen.tokens)

-- all bytes have a tree or a fault
pub tree_or_fault : (bytes : List ℕ) → HasTree bytes ⊎ ((kind : ScriptKind) × ScriptFault bytes kind)
tree_or_fault bytes = by_tokens bytes (tokens_or_fault bytes)
