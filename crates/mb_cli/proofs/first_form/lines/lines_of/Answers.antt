use Rattle.std.proofs.Common.{arith, ◌≡◌, ◌∙◌, ◌++◌, ◌∷◌, [], ap, map}
use Rattle.std.proofs.lemmas.Grind.{common_steps}
use Rattle.mb_cli.specs.Sides.{left_side, right_side}
use Rattle.mb_cli.specs.machine.Lines.{contents_of}
use Rattle.mb_cli.specs.first_form.Text.{line_of}
use Rattle.mb_cli.proofs.first_form.Meanings.{AreLiterals-kept, all_lines}
use Rattle.mb_cli.proofs.first_form.lines.lines_of.Goals as goal

pub add_lines-requires-2 : goal.add_lines-requires-2
add_lines-requires-2 c = (c.requires.right.0, AreLiterals-kept _ _ _ _ c.in_ok-add_lines.ensures.ids c.requires.right.1)

pub returns : goal.returns
returns c lefts rights hl hr =
    let one : contents_of c.add_lines.new.lines.items ≡ map (line_of left_side) lefts
    = c.in_ok-add_lines.ensures.lines lefts hl ∙ ap (λ ls. contents_of ls ++ map (line_of left_side) lefts) c.new-lines.ensures.items in
    let two : contents_of c.add_lines-2.new.lines.items ≡ contents_of c.add_lines.new.lines.items ++ map (line_of right_side) rights
    = c.in_ok-add_lines-2.ensures.lines rights (AreLiterals-kept _ _ _ _ c.in_ok-add_lines.ensures.ids hr) in
    let pushed : c.push.new.self.items ≡ c.add_lines-2.new.lines.items ++ (c.in_ok-line_at_the_end.field-0 ∷ []) = grind (arith, common_steps, c.in_ok-push.ensures.items) in
    all_lines c.add_lines.new.lines.items c.add_lines-2.new.lines.items c.push.new.self.items c.in_ok-line_at_the_end.field-0 lefts rights one two pushed c.in_ok-line_at_the_end.ensures
