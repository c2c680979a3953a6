use Rattle.std.proofs.Common.{List, OnOk, arith, false, length, map, sym, true, true≢false, ◌∙◌, ◌≡◌}
use Rattle.std.proofs.lemmas.List.{length-map}
use Rattle.mb_engine.proofs.Given.{HasBegun, all-begun, rules-within, scripts-within, set-is, set-now}
use Rattle.mb_engine.specs.machine.Beginning.{set_world}
use Rattle.mb_intrinsics.proofs.Homes.{on-ok}
use Rattle.mb_world.specs.Data.{Script, script_of}
use Rattle.mb_engine.proofs.beginning.begin.Goals as goal
use Rattle.mb_engine.proofs.beginning.begin.Goals.{else-joined, then-joined}

pub overflow_cast-sides : goal.overflow_cast-sides
overflow_cast-sides c =
    omega (
      arith,
      c.len-sides.ensures,
      c.args.programs.ok.0,
      length-map c.args.programs.items script_of,
      c.requires.given.most,
    )

pub set_programs-requires-clause-few : goal.set_programs-requires-clause-few
set_programs-requires-clause-few c =
    omega (arith, c.requires.given.most, length-map c.args.programs.items script_of)

pub set_programs-requires-clause-ids : goal.set_programs-requires-clause-ids
set_programs-requires-clause-ids c =
    scripts-within c.args.w.now c.set_texts.new.self c.args.texts _ c.args.rules c.args.joined c.requires.given
    c.requires.fresh c.set_texts.ensures

pub set_rules-requires : goal.set_rules-requires
set_rules-requires c =
    rules-within c.args.w.now c.set_texts.new.self c.set_programs.new.w c.args.texts _ c.args.rules c.args.joined
    c.requires.given c.requires.fresh c.set_texts.ensures c.set_programs.ensures

pub add_all-begun-requires : goal.add_all-begun-requires
add_all-begun-requires c =
    let ss : List Script = map script_of c.args.programs.items in
    let many : c.len-sides.result ≡ length ss =
    omega (arith, c.len-sides.ensures, c.args.programs.ok.0, length-map c.args.programs.items script_of) in
    let world : c.if-joined.w ≡ set_world c.args.texts ss c.args.rules c.args.joined = elim c.if-joined.branch [
      | then-joined w ↦ set-is c.args.w.now c.set_texts.new.self c.set_programs.new.w c.set_rules.new.self
          c.if-joined.w c.args.texts ss c.args.rules c.args.joined c.requires.fresh c.set_texts.ensures
          c.set_programs.ensures c.set_rules.ensures (λ e. w.w-is ∙ w.set_joined.ensures)
          (λ e. absurd (true≢false (sym w.if-joined.true ∙ e)))
      | else-joined w ↦ set-is c.args.w.now c.set_texts.new.self c.set_programs.new.w c.set_rules.new.self
          c.if-joined.w c.args.texts ss c.args.rules c.args.joined c.requires.fresh c.set_texts.ensures
          c.set_programs.ensures c.set_rules.ensures (λ e. absurd (true≢false (sym e ∙ w.if-joined.false)))
          (λ e. w.w-is)
    ] in
    record {
      set = set-now c.args.texts ss c.args.rules c.args.joined c.requires.given c.if-joined.w c.len-sides.result world
          many;
    }

has-begun : (c : goal.Else-is_err) → OnOk c.add_all-begun.result
    (HasBegun c.args.texts (map script_of c.args.programs.items) c.args.rules c.add_all-begun.new.w)
has-begun c =
    let ss : List Script = map script_of c.args.programs.items in
    let many : c.len-sides.result ≡ length ss =
    omega (arith, c.len-sides.ensures, c.args.programs.ok.0, length-map c.args.programs.items script_of) in
    let world : c.if-joined.w ≡ set_world c.args.texts ss c.args.rules c.args.joined = elim c.if-joined.branch [
      | then-joined w ↦ set-is c.args.w.now c.set_texts.new.self c.set_programs.new.w c.set_rules.new.self
          c.if-joined.w c.args.texts ss c.args.rules c.args.joined c.requires.fresh c.set_texts.ensures
          c.set_programs.ensures c.set_rules.ensures (λ e. w.w-is ∙ w.set_joined.ensures)
          (λ e. absurd (true≢false (sym w.if-joined.true ∙ e)))
      | else-joined w ↦ set-is c.args.w.now c.set_texts.new.self c.set_programs.new.w c.set_rules.new.self
          c.if-joined.w c.args.texts ss c.args.rules c.args.joined c.requires.fresh c.set_texts.ensures
          c.set_programs.ensures c.set_rules.ensures (λ e. absurd (true≢false (sym e ∙ w.if-joined.false)))
          (λ e. w.w-is)
    ] in
    on-ok c.add_all-begun.result
    (all-begun c.args.texts ss c.args.rules c.args.joined c.requires.given c.if-joined.w c.add_all-begun.new.w
    c.len-sides.result world many) c.add_all-begun.ensures.begins

pub returns-else-is_err-clause-begun : goal.returns-else-is_err-clause-begun
returns-else-is_err-clause-begun c = on-ok c.add_all-begun.result (λ b. b.begun) (has-begun c)

pub returns-else-is_err-clause-first : goal.returns-else-is_err-clause-first
returns-else-is_err-clause-first c = on-ok c.add_all-begun.result (λ b. b.first) (has-begun c)

pub returns-else-is_err-clause-entries : goal.returns-else-is_err-clause-entries
returns-else-is_err-clause-entries c = on-ok c.add_all-begun.result (λ b. b.entries) (has-begun c)
