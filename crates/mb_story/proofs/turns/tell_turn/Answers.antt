use Rattle.std.proofs.Common.{[], ap, refl, sym, ◌≡◌}
use Rattle.std.proofs.lemmas.Result.{err_from_is_err_and}
use Rattle.mb_frames.specs.Stepping.{Written, written}
use Rattle.mb_story.proofs.Jobs.{stage_of, stands-there}
use Rattle.mb_story.proofs.Told.{turn-is}
use Rattle.mb_story.proofs.Turning.{tell-none, tell-on, tell-part, turn-fell}
use Rattle.mb_story.specs.machine.Telling.{contents_of, scene, so_far, sunk}
use Rattle.mb_story.proofs.turns.tell_turn.Goals as goal

pub returns-in-None-clause-told : goal.returns-in-None-clause-told
returns-in-None-clause-told g c = λ start t h.
    tell-none c.args.style start
    (scene c.args.w.now c.args.fuel.now (g.K.Sink.taken c.args.sink.now) (g.K.Sink.room c.args.sink.now)
    (g.D.Driver.ran c.args.driver.now))
    c.args.ending c.args.side t h

pub returns-in_err-put_lines-in-Some-clause-told : goal.returns-in_err-put_lines-in-Some-clause-told
returns-in_err-put_lines-in-Some-clause-told g c = λ start t h.
    let p = err_from_is_err_and c.from_residual.result c.from_residual.ensures.1 in
    let l : Written = record {
      traced = c.args.style.traced;
      lettered = c.args.style.lettered;
      lines = contents_of c.new.result.items;
    } in
    let none : l.lines ≡ [] = ap contents_of c.new.ensures.items in
    let turned = turn-is c.args.style c.args.ending c.args.side c.args.w.now c.turn-end.new.w c.args.fuel.now
    c.turn-end.new.fuel l (written c.turn-end.new.lines) t h.here h.ended c.turn-end.ensures.same.0 refl refl none
    c.turn-end.result c.in-Some.after (sym c.in-Some.ensures)
    (c.turn-end.ensures.turns t.graph.log h.here.logged) c.turn-end.ensures.rests in
    rw (p.1, p.2) (tell-part c.args.style start c.args.w.now c.turn-end.new.w c.turn-end.new.fuel
    (sunk (g.K.Sink.taken c.put_lines.new.sink) (g.K.Sink.room c.put_lines.new.sink))
    c.in_err-put_lines-in-Some.field-0.0 c.turn-end.result c.args.ending c.in-Some.after
    c.args.side (contents_of c.turn-end.new.lines.all.items) t turned
    (c.in_err-put_lines-in-Some.ensures.takes start.sink (so_far c.args.style t) h.took))

pub returns-in_ok-put_lines-in-Some-clause-told : goal.returns-in_ok-put_lines-in-Some-clause-told
returns-in_ok-put_lines-in-Some-clause-told g c = λ start t h.
    let l : Written = record {
      traced = c.args.style.traced;
      lettered = c.args.style.lettered;
      lines = contents_of c.new.result.items;
    } in
    let none : l.lines ≡ [] = ap contents_of c.new.ensures.items in
    let turned = turn-is c.args.style c.args.ending c.args.side c.args.w.now c.turn-end.new.w c.args.fuel.now
    c.turn-end.new.fuel l (written c.turn-end.new.lines) t h.here h.ended c.turn-end.ensures.same.0 refl refl none
    c.turn-end.result c.in-Some.after (sym c.in-Some.ensures)
    (c.turn-end.ensures.turns t.graph.log h.here.logged) c.turn-end.ensures.rests in
    tell-on c.args.style start
    (scene c.args.w.now c.args.fuel.now (g.K.Sink.taken c.args.sink.now) (g.K.Sink.room c.args.sink.now)
    (g.D.Driver.ran c.args.driver.now))
    c.turn-end.new.w c.turn-end.new.fuel
    (sunk (g.K.Sink.taken c.put_lines.new.sink) (g.K.Sink.room c.put_lines.new.sink))
    (g.D.Driver.ran c.turn-end.new.self) c.turn-end.result c.args.ending c.in-Some.after c.args.side
    (contents_of c.turn-end.new.lines.all.items) t h turned c.turn-end.ensures.same.0
    c.turn-end.ensures.same.1 c.turn-end.ensures.ran
    (c.in_ok-put_lines-in-Some.ensures.takes start.sink (so_far c.args.style t) h.took)

pub returns-in_ok-put_lines-in-Some-clause-falls : goal.returns-in_ok-put_lines-in-Some-clause-falls
returns-in_ok-put_lines-in-Some-clause-falls g c =
    let l : Written = record {
      traced = c.args.style.traced;
      lettered = c.args.style.lettered;
      lines = contents_of c.new.result.items;
    } in
    let none : l.lines ≡ [] = ap contents_of c.new.ensures.items in
    let t = stage_of c.args.w.now c.args.fuel.now c.args.ending in
    let here = stands-there c.args.w.now c.args.fuel.now c.args.ending in
    let turned = turn-is c.args.style c.args.ending c.args.side c.args.w.now c.turn-end.new.w c.args.fuel.now
    c.turn-end.new.fuel l (written c.turn-end.new.lines) t here refl c.turn-end.ensures.same.0 refl refl none
    c.turn-end.result c.in-Some.after (sym c.in-Some.ensures)
    (c.turn-end.ensures.turns t.graph.log here.logged) c.turn-end.ensures.rests in
    turn-fell c.args.style c.args.w.now c.turn-end.new.w c.args.fuel.now c.turn-end.new.fuel c.args.side c.args.ending
    c.in-Some.after (contents_of c.turn-end.new.lines.all.items) c.turn-end.result (sym c.in-Some.ensures) turned
    c.turn-end.ensures.idle (λ e. let r = c.turn-end.ensures.rests e in (r.0, r.1)) c.requires.side
