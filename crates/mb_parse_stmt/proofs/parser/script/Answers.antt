use Rattle.std.proofs.Common.{◌≡◌, ◌∙◌, [], length, refl, sym, arith}
use Rattle.mb_tree.specs.Heights.{whole}
use Rattle.mb_grammar.specs.Script.{script_of}
use Rattle.mb_parse_stmt.proofs.Levels.{script_written}
use Rattle.mb_parse_stmt.proofs.parser.script.Goals as goal

pub height-requires-clause-whole : goal.height-requires-clause-whole
height-requires-clause-whole c =
    let q = c.requires in
    let n : length c.args.statements.operands.items ≡ c.len-count.result = sym (c.len-count.ensures ∙ c.args.statements.operands.ok.0) in
    let b = c.in_ok-build.ensures.built [] c.args.statements.operands.items refl n in
    whole (script_of q.0) (script_written q.0 q.1 q.2 b.1)

pub returns-then-branch-gt-MOST_HIGH-clause-deep : goal.returns-then-branch-gt-MOST_HIGH-clause-deep
returns-then-branch-gt-MOST_HIGH-clause-deep c parts i s e =
    let n : length c.args.statements.operands.items ≡ c.len-count.result = sym (c.len-count.ensures ∙ c.args.statements.operands.ok.0) in
    let b = c.in_ok-build.ensures.built [] c.args.statements.operands.items refl n in
    let w = script_written parts i s b.1 in
    omega (arith, c.in_ok-height.ensures.longest (script_of parts) w, c.if-branch-gt-MOST_HIGH.true)

pub returns-clause-tree : goal.returns-clause-tree
returns-clause-tree c parts i s =
    let n : length c.args.statements.operands.items ≡ c.len-count.result = sym (c.len-count.ensures ∙ c.args.statements.operands.ok.0) in
    let b = c.in_ok-build.ensures.built [] c.args.statements.operands.items refl n in
    let w = script_written parts i s b.1 in
    (w, omega (arith, c.in_ok-height.ensures.longest (script_of parts) w, c.if-branch-gt-MOST_HIGH.false))
