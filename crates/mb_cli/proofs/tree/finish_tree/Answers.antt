use Rattle.std.proofs.Common.{arith, ap, length}
use Rattle.mb_cli.proofs.Tokens.{few_tokens, are_tokens}
use Rattle.mb_cli.proofs.Refusals.{made_of, by_lexer, has_tree}
use Rattle.mb_cli.proofs.Programs.{is_read}
use Rattle.mb_cli.proofs.tree.finish_tree.Goals as goal

pub returns-in_err-tokens-clause-fault : goal.returns-in_err-tokens-clause-fault
returns-in_err-tokens-clause-fault c bytes kind fed is =
    by_lexer bytes c.in_err-tokens.field-0.0 kind (c.in_err-tokens.ensures.answer bytes fed).fault (made_of c.from_residual.result _ _ c.from_residual.ensures.1 is)

pub program_of-requires : goal.program_of-requires
program_of-requires c =
    let found = (c.in_ok-tokens.ensures.answer c.requires.fed.bytes c.requires.fed.fed).tokens in
    let few = few_tokens c.requires.fed.bytes c.finish.new.texts c.in_ok-tokens.tokens.items found.0 found.1 found.2 in
    omega (arith, few, c.requires.fed.within, ap length c.deref.ensures.value)

pub returns-clause-tree : goal.returns-clause-tree
returns-clause-tree c bytes fed =
    has_tree c.finish.new.texts bytes c.program_of.result (c.program_of.ensures.tree c.finish.new.texts bytes
    (are_tokens c.finish.new.texts bytes c.in_ok-tokens.tokens.items c.deref.result.now (c.in_ok-tokens.ensures.answer bytes fed).tokens c.deref.ensures.value (c.in_ok-tokens.ensures.distinct c.requires.distinct)))

pub returns-clause-fault : goal.returns-clause-fault
returns-clause-fault c bytes kind fed is =
    c.program_of.ensures.fault c.finish.new.texts bytes kind
    (are_tokens c.finish.new.texts bytes c.in_ok-tokens.tokens.items c.deref.result.now (c.in_ok-tokens.ensures.answer bytes fed).tokens c.deref.ensures.value (c.in_ok-tokens.ensures.distinct c.requires.distinct)) is

pub returns-clause-read : goal.returns-clause-read
returns-clause-read c bytes fed =
    is_read c.finish.new.texts bytes c.program_of.result (c.program_of.ensures.tree c.finish.new.texts bytes
    (are_tokens c.finish.new.texts bytes c.in_ok-tokens.tokens.items c.deref.result.now (c.in_ok-tokens.ensures.answer bytes fed).tokens c.deref.ensures.value (c.in_ok-tokens.ensures.distinct c.requires.distinct)))
    c.program_of.ensures.names c.program_of.ensures.few
