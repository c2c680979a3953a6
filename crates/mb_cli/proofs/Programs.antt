-- Scripts that were read are programs of their bytes, and can begin.
use Rattle.std.proofs.Common.{List, None, Option, Some, [], ap, length, refl, subst, sym, true, ℕ, ◌<◌, ◌^◌, ◌∙◌, ◌≡◌}
use Rattle.std.specs.Prelude.{Err, IfOk, Ok, Result, map}
use Rattle.mb_cli.proofs.OneProgram.{one_program}
use Rattle.mb_cli.specs.Sharing.{HasProgram, IsProgramOf, script_of_tree}
use Rattle.mb_cli.specs.Tasks.{PassesCheck}
use Rattle.mb_cli.specs.declared.tree.TreeFault.{TreeFault}
use Rattle.mb_cli.specs.machine.Pairs.{AreRead, IsRead, IsReadFrom}
use Rattle.mb_engine.proofs.Reading.{two-given}
use Rattle.mb_engine.specs.Begun.{IsGiven}
use Rattle.mb_lexer.proofs.Fed.{fed_grown}
use Rattle.mb_lexer.proofs.Seen.{seen_kept}
use Rattle.mb_lexer.specs.Feeding.{Lexing}
use Rattle.mb_load_tree.specs.Trees.{HasTree, ReadsAs}
use Rattle.mb_programs.specs.Read.{WasRead}
use Rattle.mb_scope.specs.Faults.{IsRight}
use Rattle.mb_scope.specs.Names.{names_of}
use Rattle.mb_text.proofs.Kept.{keeps_ids_none}
use Rattle.mb_text.specs.Texts.{AreDistinct, KeepsIds}
use Rattle.mb_tree.specs.Roses.{Rose, shapes, write}
use Rattle.mb_tree.specs.declared.program.Program.{Program as Tree}
use Rattle.mb_world.specs.Data.{Script, script_of}
use Rattle.mb_world.specs.Graph.{Program}
use Rattle.mb_world.specs.Image.{program_in}
use Rattle.mb_cli.specs.machine.Scanned.{IsFed}

-- ---- one program for the bytes

pub one_of : (bytes : List ℕ) (a b : Program) → IsProgramOf bytes a → IsProgramOf bytes b → a ≡ b
one_of bytes a b p q =
    p.is ∙ one_program p.texts q.texts bytes p.tree q.tree p.reads.parses q.reads.parses ∙ sym q.is

pub some_program : (bytes : List ℕ) → HasTree bytes → (program : Program) × IsProgramOf bytes program
some_program bytes (texts, tree, reads) =
    (program_in texts (Some (script_of_tree tree)), record { texts = texts; tree = tree; reads = reads; is = refl })

pub one_held : (held : Option (List ℕ)) (a b : Program) → HasProgram held a → HasProgram held b → a ≡ b
one_held None a b p q = absurd p
one_held (Some bytes) a b p q = one_of bytes a b p.1 q.1

pub program_passes : (held : Option (List ℕ)) (a : Program) → HasProgram held a → PassesCheck held
program_passes None a p = absurd p
program_passes (Some bytes) a p = (p.0, (p.1.texts, p.1.tree, p.1.reads))

-- ---- what was read

-- a tree with the names of its scopes
pub is_read : (texts : List (List ℕ)) (bytes : List ℕ) (r : Result Tree TreeFault)
    → IfOk r (λ p. (tree : Rose) × (shapes p.tree ≡ write [] tree) × ReadsAs texts bytes tree)
    → IfOk r (λ p. p.scopes ≡ names_of (shapes p.tree)) → IfOk r (λ p. length (shapes p.tree) < 2 ^ 32)
    → IfOk r (λ p. IsRead texts bytes (script_of p))
is_read texts bytes (Err fault) tree names few = tt
is_read texts bytes (Ok p) (tree, is, reads) names few =
    let bound : p.scopes ≡ names_of (write [] tree) = names ∙ ap names_of is in
    record {
      tree = tree;
      reads = reads;
      is = λ i. record { nodes = is i; names = bound i };
      few = few;
    }

tokens_later : (old new : List (List ℕ)) (bytes : List ℕ) (tree : Rose) → KeepsIds old new → AreDistinct new
    → ReadsAs old bytes tree → ReadsAs new bytes tree
tokens_later old new bytes tree keeps distinct r = record {
  parses = record {
    tokens = r.parses.tokens;
    are = record {
      lexemes = r.parses.are.lexemes;
      has = r.parses.are.has;
      seen = seen_kept old new r.parses.tokens r.parses.are.lexemes keeps r.parses.are.seen;
      distinct = distinct;
    };
    script = r.parses.script;
  };
  low = r.low;
  right = r.right;
}

-- more texts may come
pub read_later : (old new : List (List ℕ)) (bytes : List ℕ) (p : Script) → KeepsIds old new → AreDistinct new
    → IsRead old bytes p → IsRead new bytes p
read_later old new bytes p keeps distinct r = record {
  tree = r.tree;
  reads = tokens_later old new bytes r.tree keeps distinct r.reads;
  is = r.is;
  few = r.few;
}

pub fed_later : (old new : List (List ℕ)) (l : Lexing) → KeepsIds old new → IsFed old l → IsFed new l
fed_later old new l keeps f = record {
  bytes = f.bytes;
  fed = fed_grown l old new f.bytes keeps f.fed;
  within = f.within;
}

pub read_tree_of : (texts : List (List ℕ)) (bytes : List ℕ) (p : Script) → IsRead texts bytes p → HasTree bytes
read_tree_of texts bytes p r = (texts, r.tree, r.reads)

was_read : (texts : List (List ℕ)) (bytes : List ℕ) (p : Script) → IsRead texts bytes p → WasRead texts p
was_read texts bytes p r =
    let nodes : p.nodes ≡ write [] r.tree = ap (λ (s : Script). s.nodes) r.is in
    let names : p.names ≡ names_of (write [] r.tree) = ap (λ (s : Script). s.names) r.is in
    record {
      bytes = bytes;
      lexemes = r.reads.parses.are.lexemes;
      tokens = r.reads.parses.tokens;
      tree = r.tree;
      own_texts = texts;
      has = r.reads.parses.are.has;
      seen = r.reads.parses.are.seen;
      stays = keeps_ids_none texts;
      script = r.reads.parses.script;
      nodes_are = nodes;
      names_are = names ∙ ap names_of (sym nodes);
      right = subst IsRight (sym nodes) r.reads.right;
      few = r.few;
    }

held_was_read : (texts : List (List ℕ)) (held : Option (List ℕ)) (p : Script) → IsReadFrom texts held p → WasRead texts p
held_was_read texts None p r = absurd r
held_was_read texts (Some bytes) p r = was_read texts bytes p r.1

-- two scripts that were read can begin
pub pair_given : (texts : List (List ℕ)) (left right : Option (List ℕ)) (ps : List Tree) → AreRead texts left right ps
    → IsGiven texts (map script_of ps) [] true
pair_given texts left right ps a =
    subst (λ (xs : List Tree). IsGiven texts (map script_of xs) [] true) (sym a.are)
    (two-given texts (script_of a.one) (script_of a.other)
    (held_was_read texts left (script_of a.one) a.left_read)
    (held_was_read texts right (script_of a.other) a.right_read))

pub read_program_of : (texts : List (List ℕ)) (held : Option (List ℕ)) (p : Script) → IsReadFrom texts held p
    → HasProgram held (program_in texts (Some p))
read_program_of texts None p r = absurd r
read_program_of texts (Some bytes) p r = (
  r.0,
  record {
    texts = texts;
    tree = r.1.tree;
    reads = r.1.reads;
    is = ap (λ (s : Script). program_in texts (Some s)) r.1.is;
  },
)
