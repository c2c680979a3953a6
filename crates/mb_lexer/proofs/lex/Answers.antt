use Rattle.std.proofs.Common.{[]}
use Rattle.mb_lexer.proofs.lex.Goals as goal

pub returns-in-Ok-clause-answer : goal.returns-in-Ok-clause-answer
returns-in-Ok-clause-answer c = c.finish.ensures.answer c.args.bytes.now (c.in-Ok.ensures.fed [] (c.begin-lexer.ensures.fed c.args.texts.now))

pub returns-in-Err-clause-answer : goal.returns-in-Err-clause-answer
returns-in-Err-clause-answer c = c.without_memory.ensures.answer c.feed.new.texts
