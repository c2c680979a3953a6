use Rattle.std.proofs.Common.{[], ap, arith, subst, sym, ◌++◌, ◌≡◌, ◌∙◌, ◌∷◌}
use Rattle.std.proofs.lemmas.List.{take_all}
use Rattle.std.proofs.lemmas.List.Elements.{All-push}
use Rattle.mb_cli.proofs.Letters.{letters_more}
use Rattle.mb_cli.specs.Sharing.{letters_of}
use Rattle.mb_story.specs.Running.{NamesItsSide, NamesItsSides}
use Rattle.mb_cli.proofs.shared.letters.letters.Goals as goal

pub loop-byte-preserved : goal.loop-byte-preserved
loop-byte-preserved c =
    let pushed : c.push.new.self.items ≡ c.loop-byte.word.items ++ c.letter.result ∷ [] = c.in_ok-push.ensures.items in
    record {
      letters = letters_more c.loop-byte.word.items c.push.new.self.items c.args.schedule.now c.loop-byte.byte-index
          c.letter.result c.loop-byte-test.true pushed c.letter.ensures.letter c.loop-byte.invariant.letters;
      sides = subst (NamesItsSides 2) (sym pushed) (All-push (NamesItsSide 2) c.loop-byte.word.items c.letter.result
          c.loop-byte.invariant.sides c.letter.ensures.side);
    }

pub returns-clause-letters : goal.returns-clause-letters
returns-clause-letters c =
    c.loop-byte.invariant.letters
    ∙ ap letters_of (take_all c.loop-byte.byte-index c.args.schedule.now (omega (arith, c.loop-byte-test.false)))
