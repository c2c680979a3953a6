use Rattle.std.proofs.Common.{◌∙◌, Ok, ap, sym}
use Rattle.mb_call.proofs.Visiting.{may-walk, proto-told}
use Rattle.mb_call.proofs.walk.set_prototype.Goals as goal
use Rattle.mb_frames.proofs.HeldLess.{prototype-visited}
use Rattle.mb_frames.proofs.Keeping.{keeps-same}
use Rattle.mb_frames.proofs.Passed.{Part-by, Part-sure}
use Rattle.mb_frames.specs.Sorts.{AFlag}
use Rattle.mb_model.specs.Meaning.{finished}
use Rattle.mb_model.specs.Objects.Methods.{ordinary_set_prototype, walk_row, walk_unless}
use Rattle.mb_model.specs.Writing.{yes_or_no}
use Rattle.mb_world.specs.Image.{Image, Resolve, names_of, object_in}

pub walk_row-requires : goal.walk_row-requires
walk_row-requires c = record {
  within = (c.requires.within.0, (c.requires.within.1.0, (c.requires.within.1.0, tt)));
  walks = may-walk c.args.w.now c.args.object c.args.given c.requires.ordinary
      (sym c.proto_answer.ensures.answer ∙ c.in-None.is);
  real = c.requires.real;
}

pub returns-in-Some-clause-part : goal.returns-in-Some-clause-part
returns-in-Some-clause-part c = λ home viewer a t e.
    let d = c.args.w.now in
    let n = names_of d in
    let o = object_in n c.args.object in
    let p = Resolve n c.args.given in
    let f = c.args.fuel.now in
    let m = c.proto_answer.ensures.meant (proto-told d a.ready home c.args.object c.args.given a.holds.0 a.holds.1.0) in
    Part-by home (Ok c.yes_or_no.result) d d f f (ordinary_set_prototype o t p finished)
    (yes_or_no c.in-Some.answer finished)
    (λ log. ap (λ y. walk_unless o p y finished (Image d log)) (sym (rw e at m) ∙ c.in-Some.is))
    (Part-sure home d f (yes_or_no c.in-Some.answer finished) c.yes_or_no.result (c.yes_or_no.ensures.sure home d))

pub returns-in-Some-clause-keeps : goal.returns-in-Some-clause-keeps
returns-in-Some-clause-keeps c = λ home a.
    keeps-same home AFlag (Ok c.yes_or_no.result) c.args.w.now a.ready (c.yes_or_no.ensures.leaves home c.args.w.now)

pub returns-in-None-clause-part : goal.returns-in-None-clause-part
returns-in-None-clause-part c = λ home viewer a t e.
    let d = c.args.w.now in
    let n = names_of d in
    let o = object_in n c.args.object in
    let p = Resolve n c.args.given in
    let m = c.proto_answer.ensures.meant (proto-told d a.ready home c.args.object c.args.given a.holds.0 a.holds.1.0) in
    Part-by home c.walk_row.result d c.walk_row.new.w c.args.fuel.now c.walk_row.new.fuel
    (ordinary_set_prototype o t p finished) (walk_row o p p finished)
    (λ log. ap (λ y. walk_unless o p y finished (Image d log)) (sym (rw e at m) ∙ c.in-None.is))
    (c.walk_row.ensures.part home (record {
      ready = a.ready;
      side = a.side;
      holds = (a.holds.0, (a.holds.1.0, (prototype-visited d home c.args.given a.holds.1.0, tt)));
    }))

pub returns-in-None-clause-keeps : goal.returns-in-None-clause-keeps
returns-in-None-clause-keeps c = λ home a.
    c.walk_row.ensures.keeps home (record {
      ready = a.ready;
      side = a.side;
      holds = (a.holds.0, (a.holds.1.0, (prototype-visited c.args.w.now home c.args.given a.holds.1.0, tt)));
    })
