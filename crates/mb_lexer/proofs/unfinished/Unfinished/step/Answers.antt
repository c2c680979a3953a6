use Rattle.std.proofs.Common.{◌≡◌, ◌≤◌, sym, ap, subst, ◌∙◌, arith}
use Rattle.std.specs.Prelude.{OnOk}
use Rattle.mb_lexer.specs.declared.state.State.TheVariants.{Between}
use Rattle.mb_lexer.specs.machine.Machine.{begun, move_of, moved, ended, step}
use Rattle.mb_lexer.specs.machine.Outcomes.{AddsCode, Gains, given}
use Rattle.mb_lexer.proofs.Fit.{move_adds, move_fits, begun_fits}
use Rattle.mb_lexer.proofs.Stepping.{step_gains, step_gains_ends}
use Rattle.mb_lexer.proofs.unfinished.Unfinished.step.Goals as goal
use Rattle.mb_lexer.proofs.unfinished.Unfinished.step.Goals.{in-Ends+in_ok-finish, in_default}

pub go-requires-clause-code : goal.go-requires-clause-code
go-requires-clause-code c =
    let scalar : c.args.ch ≤ 0x10ffff = omega (arith, c.ranges.ch.1.1) in
    let state : c.self.inside.state ≡ c.args.self.now.state = ap (λ m. m.state) c.self.view_is in
    elim c.match-change.branch [
      | in-Ends+in_ok-finish w ↦ subst AddsCode (sym (w.change-is ∙ w.begin-change.ensures)) (move_adds Between c.args.ch (begun c.args.ch) (begun_fits c.args.ch scalar))
      | in_default w ↦ subst AddsCode (sym (w.change-is ∙ c.next-change.ensures ∙ ap (λ s. move_of s c.args.ch) state)) (move_adds c.args.self.now.state c.args.ch (move_of c.args.self.now.state c.args.ch) (move_fits c.args.self.now.state c.args.ch scalar c.requires.fit.range))
    ]

-- the tokens of the end of the open one, and of the move
pub returns-clause-tokens : goal.returns-clause-tokens
returns-clause-tokens c =
    let state : c.args.self.now.state ≡ c.self.inside.state = ap (λ m. m.state) (sym c.self.view_is) in
    let move : move_of c.args.self.now.state c.args.ch ≡ c.next-change.result = ap (λ s. move_of s c.args.ch) state ∙ sym c.next-change.ensures in
    elim c.match-change.branch [
      | in-Ends+in_ok-finish w ↦
          step_gains_ends c.go.result c.args.texts.now c.match-change.texts c.args.tokens.now.items c.match-change.tokens.items c.go.new.tokens.items c.args.self.now c.match-change.self c.args.ch c.match-change.change (move ∙ w.in-Ends.is) (w.change-is ∙ w.begin-change.ensures)
          (subst (λ t. Gains c.args.texts.now c.args.tokens.now.items t c.match-change.tokens.items (given (ended c.args.self.now.state c.args.self.now))) (sym w.texts-is) (subst (λ v. Gains c.args.texts.now c.args.tokens.now.items w.finish.new.texts v.items (given (ended c.args.self.now.state c.args.self.now))) (sym w.tokens-is) w.in_ok-finish.ensures.tokens))
          (c.go.ensures.tokens c.match-change.texts)
      | in_default w ↦
          subst (λ t. OnOk c.go.result (Gains c.args.texts.now c.args.tokens.now.items t c.go.new.tokens.items (step c.args.self.now c.args.ch).tokens)) (sym w.texts-is)
          (step_gains c.go.result c.args.texts.now c.args.tokens.now.items c.go.new.tokens.items c.args.self.now c.args.ch c.next-change.result move w.in_default.not-Ends
          (subst (λ v. OnOk c.go.result (Gains c.args.texts.now v.items c.args.texts.now c.go.new.tokens.items (moved c.args.self.now c.args.ch c.next-change.result).tokens)) w.tokens-is
          (subst (λ m. OnOk c.go.result (Gains c.args.texts.now c.match-change.tokens.items c.args.texts.now c.go.new.tokens.items (moved m c.args.ch c.next-change.result).tokens)) w.self-is
          (subst (λ v. OnOk c.go.result (Gains c.args.texts.now c.match-change.tokens.items c.args.texts.now c.go.new.tokens.items (moved c.match-change.self c.args.ch v).tokens)) w.change-is (c.go.ensures.tokens c.args.texts.now)))))
    ]
