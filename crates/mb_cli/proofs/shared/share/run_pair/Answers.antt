use Rattle.std.proofs.Common.{ap, false, inl, inr, length, map, refl, string_bytes, subst, sym, true, ◌∙◌, ◌≡◌, ◌≢◌}
use Rattle.std.specs.Prelude.{Err, IfOk, is_err}
use Rattle.mb_engine.specs.Begun.{IsGiven, first_graph_of}
use Rattle.mb_model.specs.Text.{Text_of}
use Rattle.mb_story.specs.Running as running
use Rattle.mb_story.specs.Running.{NamesItsSides, Receives, StandsAt, ending_of, letter_of, with_turns}
use Rattle.mb_story.specs.declared.ending.RunFault.TheVariants as fault
use Rattle.mb_world.specs.Data.{script_of}
use Rattle.mb_cli.proofs.Programs.{pair_given}
use Rattle.mb_cli.proofs.Runs.{has_story, on_stage, run_answer, run_leaves, run_of_run, run_puts, run_room, run_text, run_told, stage_of, story_room}
use Rattle.mb_cli.specs.Sharing.{letters_of}
use Rattle.mb_cli.proofs.shared.share.run_pair.Goals as goal

-- ---- where memory is wanting before the run

pub returns-in_default-clause-text : goal.returns-in_default-clause-text
returns-in_default-clause-text g c lefts rights a = inl refl

pub returns-in_default-clause-world : goal.returns-in_default-clause-world
returns-in_default-clause-world g c = inr (c.requires.fresh, refl)

pub returns-in_default-clause-puts : goal.returns-in_default-clause-puts
returns-in_default-clause-puts g c =
    run_puts (Err fault.NoMemory) (g.K.Sink.faults c.args.sink.now) (g.K.Sink.faults c.args.sink.now) refl

pub returns-in_default-clause-room : goal.returns-in_default-clause-room
returns-in_default-clause-room g c lefts rights a has =
    run_room (Err fault.NoMemory) (g.K.Sink.faults c.args.sink.now) (g.K.Sink.faults c.args.sink.now) refl (λ e. cc)

pub returns-in_default-begin-clause-text : goal.returns-in_default-begin-clause-text
returns-in_default-begin-clause-text g c lefts rights a = inl refl

pub returns-in_default-begin-clause-world : goal.returns-in_default-begin-clause-world
returns-in_default-begin-clause-world g c = inl (c.begin.ensures.halted ∙ ap is_err c.in_default-begin.is)

pub returns-in_default-begin-clause-puts : goal.returns-in_default-begin-clause-puts
returns-in_default-begin-clause-puts g c =
    run_puts (Err fault.NoMemory) (g.K.Sink.faults c.args.sink.now) (g.K.Sink.faults c.args.sink.now) refl

pub returns-in_default-begin-clause-room : goal.returns-in_default-begin-clause-room
returns-in_default-begin-clause-room g c lefts rights a has =
    run_room (Err fault.NoMemory) (g.K.Sink.faults c.args.sink.now) (g.K.Sink.faults c.args.sink.now) refl (λ e. cc)

-- ---- the run may begin

pub begin-requires-clause-given : goal.begin-requires-clause-given
begin-requires-clause-given g c =
    let read = c.requires.read in
    subst (λ rules. IsGiven c.args.texts (map script_of c.args.programs.items) rules true) (sym c.none.ensures)
    (pair_given c.args.texts read.0 read.1 c.args.programs.items read.2)

pub run-requires-clause-sides : goal.run-requires-clause-sides
run-requires-clause-sides g c =
    let read = c.requires.read in
    let two : c.begin.new.w.sides ≡ 2 = c.in-Ok-begin.ensures.sides ∙ ap length read.2.are in
    subst (λ n. NamesItsSides n c.deref.result.now) (sym two)
    (subst (NamesItsSides 2) (sym c.deref.ensures.value) c.in-Ok.ensures.sides)

-- ---- the run

pub returns-clause-run : goal.returns-clause-run
returns-clause-run g c = rw c.ended.ensures (run_of_run c.run.result)

pub returns-clause-world : goal.returns-clause-world
returns-clause-world g c = rw c.ended.ensures (run_leaves c.run.result c.run.new.w _ c.run.ensures.halted)

pub returns-clause-puts : goal.returns-clause-puts
returns-clause-puts g c =
    rw c.ended.ensures (run_puts c.run.result (g.K.Sink.faults c.args.sink.now) (g.K.Sink.faults c.run.new.sink)
    c.run.ensures.faults)

pub returns-clause-answer : goal.returns-clause-answer
returns-clause-answer g c lefts rights a =
    let texts = c.args.texts in
    let ps = c.args.programs.items in
    let d = c.begin.new.w in
    let bytes = string_bytes c.args.sharing.now.schedule in
    let n = c.args.sharing.now.budget in
    let image =
    c.in-Ok-begin.ensures.first ∙ ap (λ rules. first_graph_of texts (map script_of ps) rules) c.none.ensures in
    let letters =
    ap (map letter_of) c.deref.ensures.value ∙ c.in-Ok.ensures.letters ∙ ap letters_of c.as_bytes.ensures.value in
    rw c.ended.ensures (run_answer lefts rights bytes n c.args.sharing.now.traced
    (stage_of texts a.one a.other bytes n) (has_story texts lefts rights ps bytes n a) c.run.result
    (on_stage texts lefts rights ps d a image c.in-Ok-begin.ensures.entries c.deref.result.now bytes
    c.new-fuel.result n letters c.new-fuel.ensures (λ s. IfOk c.run.result (λ e. s.ending ≡ ending_of e))
    c.run.ensures.ending))

pub returns-clause-text : goal.returns-clause-text
returns-clause-text g c lefts rights a =
    let texts = c.args.texts in
    let ps = c.args.programs.items in
    let d = c.begin.new.w in
    let bytes = string_bytes c.args.sharing.now.schedule in
    let n = c.args.sharing.now.budget in
    let traced = c.args.sharing.now.traced in
    let image =
    c.in-Ok-begin.ensures.first ∙ ap (λ rules. first_graph_of texts (map script_of ps) rules) c.none.ensures in
    let letters =
    ap (map letter_of) c.deref.ensures.value ∙ c.in-Ok.ensures.letters ∙ ap letters_of c.as_bytes.ensures.value in
    let receives = Receives (g.K.Sink.taken c.args.sink.now) (g.K.Sink.taken c.run.new.sink) in
    rw c.ended.ensures (run_text lefts rights bytes n traced (stage_of texts a.one a.other bytes n)
    (has_story texts lefts rights ps bytes n a) c.run.result (c.run.new.sink ≡ c.args.sink.now) receives
    (on_stage texts lefts rights ps d a image c.in-Ok-begin.ensures.entries c.deref.result.now bytes
    c.new-fuel.result n letters c.new-fuel.ensures (λ s. running.IsPut c.run.result receives (Text_of traced false s))
    c.run.ensures.text))

pub returns-clause-told : goal.returns-clause-told
returns-clause-told g c lefts rights a =
    let texts = c.args.texts in
    let ps = c.args.programs.items in
    let d = c.begin.new.w in
    let bytes = string_bytes c.args.sharing.now.schedule in
    let n = c.args.sharing.now.budget in
    let image =
    c.in-Ok-begin.ensures.first ∙ ap (λ rules. first_graph_of texts (map script_of ps) rules) c.none.ensures in
    let letters =
    ap (map letter_of) c.deref.ensures.value ∙ c.in-Ok.ensures.letters ∙ ap letters_of c.as_bytes.ensures.value in
    let before = g.D.Driver.ran c.args.driver.now in
    let now = g.D.Driver.ran c.run.new.driver in
    let stands =
    on_stage texts lefts rights ps d a image c.in-Ok-begin.ensures.entries c.deref.result.now bytes c.new-fuel.result n
    letters c.new-fuel.ensures (λ s. IfOk c.run.result (λ e. StandsAt c.run.new.w c.run.new.fuel s))
    c.run.ensures.world in
    let turns =
    on_stage texts lefts rights ps d a image c.in-Ok-begin.ensures.entries c.deref.result.now bytes c.new-fuel.result n
    letters c.new-fuel.ensures (λ s. IfOk c.run.result (λ e. now ≡ with_turns d.joined s.ran before))
    c.run.ensures.ran in
    rw c.ended.ensures (run_told lefts rights bytes n c.args.sharing.now.traced (stage_of texts a.one a.other bytes n)
    (has_story texts lefts rights ps bytes n a) c.run.result c.run.new.w c.run.new.fuel d.joined before now stands
    turns c.in-Ok-begin.ensures.joined c.run.ensures.same.0)

pub returns-clause-room : goal.returns-clause-room
returns-clause-room g c lefts rights a has =
    let texts = c.args.texts in
    let ps = c.args.programs.items in
    let d = c.begin.new.w in
    let bytes = string_bytes c.args.sharing.now.schedule in
    let n = c.args.sharing.now.budget in
    let traced = c.args.sharing.now.traced in
    let room = g.K.Sink.room c.args.sink.now in
    let image =
    c.in-Ok-begin.ensures.first ∙ ap (λ rules. first_graph_of texts (map script_of ps) rules) c.none.ensures in
    let letters =
    ap (map letter_of) c.deref.ensures.value ∙ c.in-Ok.ensures.letters ∙ ap letters_of c.as_bytes.ensures.value in
    let s = stage_of texts a.one a.other bytes n in
    let enough = story_room lefts rights bytes n traced s (has_story texts lefts rights ps bytes n a) room has in
    let never =
    on_stage texts lefts rights ps d a image c.in-Ok-begin.ensures.entries c.deref.result.now bytes c.new-fuel.result n
    letters c.new-fuel.ensures
    (λ t. running.HasRoom room (Text_of traced false t) → c.run.result ≢ Err fault.Write) c.run.ensures.room in
    rw c.ended.ensures (run_room c.run.result (g.K.Sink.faults c.args.sink.now) (g.K.Sink.faults c.run.new.sink)
    c.run.ensures.faults (never enough))
