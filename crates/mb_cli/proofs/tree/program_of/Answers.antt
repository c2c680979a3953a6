use Rattle.std.proofs.Common.{ap, arith, refl}
use Rattle.std.proofs.lemmas.List.{length-map}
use Rattle.mb_tree.specs.Roses.{view}
use Rattle.std.specs.Prelude.{Err}
use Rattle.mb_tree.specs.Heights.{whole}
use Rattle.mb_cli.proofs.Refusals.{made_of, by_parser, by_rules}
use Rattle.mb_cli.proofs.tree.program_of.Goals as goal

pub check-requires-clause-whole : goal.check-requires-clause-whole
check-requires-clause-whole c = let found = c.in_ok-tree.ensures.tree in whole found.0 found.2

pub returns-in_err-tree-clause-fault : goal.returns-in_err-tree-clause-fault
returns-in_err-tree-clause-fault c texts bytes kind are is =
    by_parser bytes texts c.args.tokens.now c.args.tokens.now c.in_err-tree.field-0.0 kind are refl
    (λ e. c.in_err-tree.ensures.shape (ap Err e)) (λ e. c.in_err-tree.ensures.deep (ap Err e))
    (made_of c.from_residual.result _ _ c.from_residual.ensures.1 is)

pub returns-in_err-scopes-clause-fault : goal.returns-in_err-scopes-clause-fault
returns-in_err-scopes-clause-fault c texts bytes kind are is =
    let read = c.in_ok-tree.ensures.tree in
    by_rules bytes texts read.0 _ c.in_err-scopes.field-0.0 kind (record { tokens = c.args.tokens.now; are = are; script = read.1 })
    read.2 read.3 c.in_err-scopes.ensures.fault (made_of c.from_residual-in_err-scopes.result _ _ c.from_residual-in_err-scopes.ensures.1 is)

pub returns-clause-few : goal.returns-clause-few
returns-clause-few c = omega (arith, length-map c.in_ok-tree.tree.nodes.items view, c.in_ok-tree.ensures.few)
