use Rattle.std.proofs.Common.{◌≡◌, ◌++◌, List, map, take}
use Rattle.mb_text.specs.Texts.{KeepsIds}
use Rattle.mb_cli.specs.first_form.Form.{Literal as Meant}
use Rattle.mb_cli.specs.machine.Lines.{contents_of}
use Rattle.mb_cli.specs.first_form.machine.Literals.{AreLiterals}
use Rattle.mb_cli.specs.first_form.Text.{line_of}
use Rattle.mb_cli.proofs.first_form.lines.add_lines.Given as goal

abbrev pub invariant-loop-literal : goal.invariant-loop-literal
invariant-loop-literal l = record {
  ids : KeepsIds l.fn.texts l.texts;
  lines : (meant : List Meant) → AreLiterals l.fn.texts l.literals meant
      → contents_of l.lines.items ≡ contents_of l.fn.lines.items ++ map (line_of l.side) (take l.literal-index meant);
}
