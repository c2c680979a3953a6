use Rattle.std.proofs.Common.{Bool, refl, ◌+◌}
use Rattle.mb_arrayapi.proofs.Answering.{Part-flagged, Part-valued}
use Rattle.mb_arrayapi.proofs.resuming.answered.Goals as goal
use Rattle.mb_frames.specs.Resolved.{answer_in}
use Rattle.mb_frames.specs.Rest.Arraying.{turn_found, turn_index}
use Rattle.mb_frames.specs.declared.arrays.ArrayFrame.TheVariants as y
use Rattle.mb_model.specs.BuiltIns.ArrayMembers.{join_each, join_got}
use Rattle.mb_model.specs.BuiltIns.Arrays.{element_found}
use Rattle.mb_model.specs.Writing.{◌>>=◌}
use Rattle.mb_world.specs.Image.{Resolve, names_of, object_in}
use Rattle.mb_world.specs.Value.{Val}

pub prototype_got-requires : goal.prototype_got-requires
prototype_got-requires c =
    let a = c.requires.acts in
    let h = rw c.in-Prototype.is at a.holds in
    let x = (c.value_in-x.ensures.held c.args.w.now c.args.home c.requires.answer).0 in
    record { acts = record { ready = a.ready; side = a.side; holds = (x, h) } }

pub length_got-requires : goal.length_got-requires
length_got-requires c =
    let a = c.requires.acts in
    let h = rw c.in-Length.is at a.holds in
    let x = (c.value_in-x.ensures.held c.args.w.now c.args.home c.requires.answer).0 in
    record { acts = record { ready = a.ready; side = a.side; holds = (x, h) } }

pub returns-in-There-clause-part : goal.returns-in-There-clause-part
returns-in-There-clause-part c =
    let d = c.args.w.now in
    let n = names_of d in
    let s = c.args.home.0 in
    let f = c.args.fuel.now in
    let i = c.in-There in
    Part-flagged c.args.home c.told.result d c.told.new.w f c.told.new.fuel c.args.frame
    (y.There i.object i.place i.left i.turn) i.is
    (answer_in n c.args.answer) c.flag_in-done.result (c.flag_in-done.ensures n)
    (λ (z : Bool). element_found s (object_in n i.object) (turn_index i.turn i.place) z
    >>= turn_found n s (object_in n i.object) i.turn i.place i.left) refl
    c.told.ensures.part

pub element_got-requires : goal.element_got-requires
element_got-requires c =
    let a = c.requires.acts in
    let h = rw c.in-Got.is at a.holds in
    let x = (c.value_in-x.ensures.held c.args.w.now c.args.home c.requires.answer).0 in
    record { acts = record { ready = a.ready; side = a.side; holds = (x, h) } }

pub called-requires-clause-acts : goal.called-requires-clause-acts
called-requires-clause-acts c =
    let a = c.requires.acts in
    let h = rw c.in-Called.is at a.holds in
    let x = (c.value_in-x.ensures.held c.args.w.now c.args.home c.requires.answer).0 in
    record { ready = a.ready; side = a.side; holds = (x, (h.1.0, (h.0, h.1.1))) }

pub returns-clause-part : goal.returns-clause-part
returns-clause-part c =
    let d = c.args.w.now in
    let n = names_of d in
    let s = c.args.home.0 in
    let f = c.args.fuel.now in
    let i = c.in-JoinGot in
    Part-valued c.args.home c.join_got.result d c.join_got.new.w f c.join_got.new.fuel c.args.frame
    (y.JoinGot i.object i.place i.left i.separator i.so_far) i.is
    (answer_in n c.args.answer) (Resolve n c.value_in-x.result) (c.value_in-x.ensures.value n)
    (λ (z : Val). join_got s i.so_far z >>= join_each s (object_in n i.object) i.separator i.left (i.place + 1)) refl
    c.join_got.ensures.part

pub pop_got-requires : goal.pop_got-requires
pop_got-requires c =
    let a = c.requires.acts in
    let h = rw c.in-PopGot.is at a.holds in
    let x = (c.value_in-x.ensures.held c.args.w.now c.args.home c.requires.answer).0 in
    record { acts = record { ready = a.ready; side = a.side; holds = (x, h) } }

pub join_got-requires : goal.join_got-requires
join_got-requires c =
    let a = c.requires.acts in
    let h = rw c.in-JoinGot.is at a.holds in
    let x = (c.value_in-x.ensures.held c.args.w.now c.args.home c.requires.answer).0 in
    record { acts = record { ready = a.ready; side = a.side; holds = (x, h) } }
