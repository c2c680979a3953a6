use Rattle.std.proofs.Common.{List, [], ap, map, subst, sym, true, ◌++◌, ◌∙◌, ◌∷◌, ◌≡◌}
use Rattle.mb_engine.proofs.Reading.{two-given}
use Rattle.mb_engine.specs.Begun.{IsGiven}
use Rattle.mb_programs.proofs.Starting.{read-later}
use Rattle.mb_tree.specs.declared.program.Program.{Program}
use Rattle.mb_world.specs.Data.{script_of}
use Rattle.mb_world.specs.declared.rule.Rule.{Rule}
use Rattle.mb_story.proofs.tests.driver.begun.Goals as goal

pub begin-done-requires-clause-given : goal.begin-done-requires-clause-given
begin-done-requires-clause-given g c =
    let first : Program = c.program-first.result in
    let second : Program = c.program-second.result in
    let one = rw c.expect.ensures at c.push.ensures.items in
    let two = rw c.expect-2.ensures at c.push-2.ensures.items in
    let both : c.push-2.new.self.items ≡ first ∷ second ∷ [] =
    two
    ∙ ap (λ (ps : List Program). ps ++ second ∷ [])
    (one ∙ ap (λ (ps : List Program). ps ++ first ∷ []) c.new-programs.ensures.items) in
    subst (λ (rules : List Rule). IsGiven c.program-second.new.texts (map script_of c.push-2.new.self.items) rules true)
    (sym c.none.ensures)
    (subst (λ (ps : List Program). IsGiven c.program-second.new.texts (map script_of ps) [] true) (sym both)
    (two-given c.program-second.new.texts (script_of first) (script_of second)
    (read-later c.program-first.new.texts c.program-second.new.texts (script_of first) c.program-first.ensures.read
    c.program-second.ensures.ids) c.program-second.ensures.read))
