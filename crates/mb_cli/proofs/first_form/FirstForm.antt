-- Scripts of the first form have a tree.
use Rattle.std.proofs.Common.{ℕ, List, map, refl, sym, subst}
use Rattle.mb_tree.specs.declared.kind.Kind.TheVariants as k
use Rattle.mb_tree.specs.Roses.{node, bare}
use Rattle.mb_cli.specs.first_form.Form.{Literal, HasLiterals}
use Rattle.mb_load_tree.specs.Trees.{HasTree}
use Rattle.mb_cli.proofs.TokensSeen.{table}
use Rattle.mb_cli.proofs.first_form.FirstTokens.{lexeme_of, Follow, first_tokens, statements_follow}
use Rattle.mb_cli.proofs.first_form.FirstTree.{script_height, script_right, at_start, made}

pub first_form : (bytes : List ℕ) (literals : List Literal) → HasLiterals bytes literals → HasTree bytes
first_form bytes literals (lexemes, has, is) =
    let seen = table (map lexeme_of lexemes) in
    let found = made literals seen.texts seen.tokens seen.tokens 0 lexemes (at_start seen.tokens) seen.seen is in (
      seen.texts,
      node (bare k.Script) found.parts,
      record {
        parses = record {
          tokens = seen.tokens;
          are = record { lexemes = map lexeme_of lexemes; has = first_tokens bytes lexemes (subst Follow (sym is) (statements_follow literals)) has; seen = seen.seen; distinct = seen.distinct };
          script = record { parts = found.parts; stand = found.stand; whole = refl };
        };
        low = script_height found.calls;
        right = script_right found.calls;
      },
    )
