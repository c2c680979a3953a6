use Rattle.std.proofs.Common.{arith, ap, length}
use Rattle.mb_cli.proofs.Tokens.{few_tokens, are_tokens}
use Rattle.mb_cli.proofs.Refusals.{made_of, by_lexer}
use Rattle.mb_cli.proofs.tree.read_tree.Goals as goal

pub returns-in_err-tokens-clause-fault : goal.returns-in_err-tokens-clause-fault
returns-in_err-tokens-clause-fault c kind distinct is =
    by_lexer c.args.bytes.now c.in_err-tokens.field-0.0 kind c.in_err-tokens.ensures.answer.fault (made_of c.from_residual.result _ _ c.from_residual.ensures.1 is)

pub program_of-requires : goal.program_of-requires
program_of-requires c =
    let found = c.in_ok-tokens.ensures.answer.tokens in
    let few = few_tokens c.args.bytes.now c.lex.new.texts c.in_ok-tokens.tokens.items found.0 found.1 found.2 in
    omega (arith, few, c.requires, ap length c.deref.ensures.value)

pub returns-clause-tree : goal.returns-clause-tree
returns-clause-tree c distinct =
    c.program_of.ensures.tree c.lex.new.texts c.args.bytes.now
    (are_tokens c.lex.new.texts c.args.bytes.now c.in_ok-tokens.tokens.items c.deref.result.now c.in_ok-tokens.ensures.answer.tokens c.deref.ensures.value (c.in_ok-tokens.ensures.distinct distinct))

pub returns-clause-fault : goal.returns-clause-fault
returns-clause-fault c kind distinct is =
    c.program_of.ensures.fault c.lex.new.texts c.args.bytes.now kind
    (are_tokens c.lex.new.texts c.args.bytes.now c.in_ok-tokens.tokens.items c.deref.result.now c.in_ok-tokens.ensures.answer.tokens c.deref.ensures.value (c.in_ok-tokens.ensures.distinct distinct)) is
