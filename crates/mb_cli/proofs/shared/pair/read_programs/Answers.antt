use Rattle.std.proofs.lemmas.Result.{err_from_is_err_and}
use Rattle.mb_lexer.proofs.Fed.{fed_grown}
use Rattle.mb_world.specs.Data.{script_of}
use Rattle.mb_cli.proofs.Programs.{fed_later, read_later, read_tree_of}
use Rattle.mb_cli.proofs.Reading.{left_refused, right_refused}
use Rattle.mb_cli.proofs.shared.pair.read_programs.Goals as goal

pub read_program-requires-2-clause-fed : goal.read_program-requires-2-clause-fed
read_program-requires-2-clause-fed c =
    fed_later c.args.texts.now c.read_program.new.texts c.args.right c.read_program.ensures.ids c.requires.right

pub returns-in_err-left-clause-refused : goal.returns-in_err-left-clause-refused
returns-in_err-left-clause-refused c lefts rights one other =
    let p = err_from_is_err_and c.from_residual.result c.from_residual.ensures.1 in
    rw (p.1, p.2) (left_refused lefts rights c.in_err-left.field-0.0 (c.in_err-left.ensures.refused lefts one))

pub returns-in_err-right-clause-refused : goal.returns-in_err-right-clause-refused
returns-in_err-right-clause-refused c lefts rights one other =
    let q = c.from_residual-in_err-right in
    let p = err_from_is_err_and q.result q.ensures.1 in
    let later =
    fed_grown c.args.right c.args.texts.now c.read_program.new.texts rights c.read_program.ensures.ids other in
    rw (p.1, p.2) (right_refused lefts rights c.in_err-right.field-0.0
    (read_tree_of c.read_program.new.texts lefts (script_of c.in_ok-left.left) (c.in_ok-left.ensures.read lefts one))
    (c.in_err-right.ensures.refused rights later))

pub returns-clause-read : goal.returns-clause-read
returns-clause-read c lefts rights one other few most =
    let old = c.read_program.new.texts in
    let new = c.read_program-2.new.texts in
    let later = fed_grown c.args.right c.args.texts.now old rights c.read_program.ensures.ids other in
    record {
      one = c.in_ok-left.left;
      other = c.in_ok-right.right;
      are = c.in_ok-listed.ensures;
      left_read = (
        few,
        read_later old new lefts (script_of c.in_ok-left.left) c.read_program-2.ensures.ids
            c.read_program-2.ensures.distinct (c.in_ok-left.ensures.read lefts one),
      );
      right_read = (most, c.in_ok-right.ensures.read rights later);
    }
