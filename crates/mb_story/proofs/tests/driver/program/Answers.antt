use Rattle.std.proofs.Common.{List, arith, length, map, subst, sym}
use Rattle.std.proofs.lemmas.List.{length-map}
use Rattle.mb_lexer.specs.Shown.{AreSeen}
use Rattle.mb_text.proofs.Kept.{keeps_ids_none}
use Rattle.mb_token.specs.declared.token.Spanned.{Spanned}
use Rattle.mb_tree.specs.Heights.{whole}
use Rattle.mb_tree.specs.Roses.{view}
use Rattle.mb_story.proofs.tests.driver.program.Goals as goal

pub check-requires-clause-whole : goal.check-requires-clause-whole
check-requires-clause-whole g c =
    let found = c.in-Ok-parse.ensures.tree in
    whole found.0 found.2

pub returns-clause-read : goal.returns-clause-read
returns-clause-read g c =
    let read = c.in-Ok.ensures.answer.tokens in
    let found = c.in-Ok-parse.ensures.tree in
    record {
      bytes = c.as_bytes.result.now;
      lexemes = read.0;
      tokens = c.deref.result.now;
      tree = found.0;
      own_texts = c.lex.new.texts;
      has = read.1;
      seen = subst (λ (ts : List Spanned). AreSeen c.lex.new.texts ts read.0) (sym c.deref.ensures.value) read.2;
      stays = keeps_ids_none c.lex.new.texts;
      script = found.1;
      nodes_are = found.2;
      names_are = c.in-Ok-check.ensures.names;
      right = c.in-Ok-check.ensures.right;
      few = omega (
        arith,
        c.in-Ok-parse.ensures.few,
        length-map c.in-Ok-parse.tree.nodes.items view,
        c.in-Ok-parse.tree.nodes.ok.0,
      );
    }
