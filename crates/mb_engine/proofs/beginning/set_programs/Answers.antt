use Rattle.std.proofs.Common.{List, [], ap, append-nil, append_assoc, arith, length, map, sym, ◌∙◌, ◌∷◌, ◌≡◌}
use Rattle.std.proofs.lemmas.List.{length-append}
use Rattle.std.specs.Vec.Iter.{into_iter_items}
use Rattle.mb_base.specs.declared.value.Side.{Side}
use Rattle.mb_engine.proofs.Setting.{nothing-left, script-ids, scripts-step, within-eight}
use Rattle.mb_engine.specs.machine.Beginning.{with_scripts}
use Rattle.mb_tree.specs.declared.program.Program.{Program}
use Rattle.mb_world.specs.Data.{script_of}
use Rattle.mb_engine.proofs.beginning.set_programs.Goals as goal

pub set_program-requires-clause-side : goal.set_program-requires-clause-side
set_program-requires-clause-side c =
    let at = c.loop-program in
    let x = c.in-Some.program in
    let steps : into_iter_items at.program-iterator ≡ x ∷ into_iter_items c.next.new.self = c.in-Some.ensures.steps.0 in
    within-eight at.yielded (into_iter_items c.next.new.self) c.args.programs.items x at.side at.invariant.side
    (rw steps at at.invariant.items ∙ c.into_iter-program-iterator.ensures.into_iter_gives.0) c.requires.few

pub set_program-requires-clause-program : goal.set_program-requires-clause-program
set_program-requires-clause-program c =
    let at = c.loop-program in
    let x = c.in-Some.program in
    let steps : into_iter_items at.program-iterator ≡ x ∷ into_iter_items c.next.new.self = c.in-Some.ensures.steps.0 in
    script-ids c.args.w.now at.w at.yielded (into_iter_items c.next.new.self) c.args.programs.items x c.requires.ids
    (rw steps at at.invariant.items ∙ c.into_iter-program-iterator.ensures.into_iter_gives.0) at.invariant.world

pub loop-program-preserved : goal.loop-program-preserved
loop-program-preserved c =
    let at = c.loop-program in
    let x = c.in-Some.program in
    let steps : into_iter_items at.program-iterator ≡ x ∷ into_iter_items c.next.new.self = c.in-Some.ensures.steps.0 in
    let side : Side = record { 0 = at.side } in
    record {
      items = append_assoc at.yielded (x ∷ []) _ ∙ rw (← steps) at.invariant.items;
      count =
          let was = at.invariant.count in
          let gone = c.in-Some.ensures.steps.1 in
          let short = ap length steps in
          omega arith;
      side = omega (arith, at.invariant.side, length-append at.yielded (x ∷ []));
      world = scripts-step c.args.w.now at.w c.set_program.new.self side at.yielded x at.invariant.side
          at.invariant.world c.set_program.ensures;
    }

pub returns : goal.returns
returns c =
    let at = c.loop-program in
    let empty : into_iter_items at.program-iterator ≡ [] =
    nothing-left (into_iter_items at.program-iterator) (sym at.invariant.count ∙ c.in-None.ensures.steps.0) in
    let all : at.yielded ≡ c.args.programs.items =
    sym (append-nil at.yielded) ∙ rw empty at at.invariant.items
    ∙ c.into_iter-program-iterator.ensures.into_iter_gives.0 in
    at.invariant.world ∙ ap (λ (ps : List Program). with_scripts c.args.w.now (map script_of ps)) all
