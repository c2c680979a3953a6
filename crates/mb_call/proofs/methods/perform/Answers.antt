use Rattle.std.proofs.Common.{◌∙◌, Ok, ap, refl, sym}
use Rattle.mb_call.proofs.Ruling.{asks-change, change-same, cut-row, decided-flag, decided-row, free-row}
use Rattle.mb_call.proofs.Ruling.{method-side-same}
use Rattle.mb_call.proofs.Things.{thing-there}
use Rattle.mb_call.proofs.Throwing.{thrown-keeps, thrown-part}
use Rattle.mb_call.proofs.methods.perform.Goals as goal
use Rattle.mb_call.specs.machine.Methods.{changes_in}
use Rattle.mb_frames.proofs.Changing.{there}
use Rattle.mb_frames.proofs.Keeping.{keeps-same}
use Rattle.mb_frames.proofs.Passed.{Part-by, Part-sure}
use Rattle.mb_frames.specs.Resolved.{method_in}
use Rattle.mb_frames.specs.Sorts.{method_gives}
use Rattle.mb_model.specs.Meaning.{finished, perform_row}
use Rattle.mb_model.specs.Objects.Methods.{ordinary, ruling}
use Rattle.mb_model.specs.Writing.{type_error, yes_or_no}
use Rattle.mb_rules.specs.Seen.{graph_of, ruling_in}
use Rattle.mb_world.specs.Image.{Image, names_of, object_in, object_of}
use Rattle.std.specs.Prelude.{option_map}

pub ruling-requires : goal.ruling-requires
ruling-requires c =
    let d = c.args.w.now in
    let a = c.requires.acts in
    rw c.change_of.ensures (asks-change d a.ready c.args.home c.args.object a.holds.0 c.args.method a.holds.1)

pub returns-then-cut-clause-part : goal.returns-then-cut-clause-part
returns-then-cut-clause-part c =
    let d = c.args.w.now in
    let n = names_of d in
    let home = c.args.home in
    let id = c.args.object in
    let a = c.requires.acts in
    let y = method_in n c.args.method in
    let o = object_in n id in
    let f = c.args.fuel.now in
    let k = there d id a.holds.0.within in
    let t = object_of n k.0 in
    thrown-part home c.args.side c.type_error.result d c.type_error.new.w f f
    (perform_row home.0 c.args.viewer.0 o y finished) c.type_error.ensures.throws
    (Part-by home c.type_error.result d c.type_error.new.w f f (perform_row home.0 c.args.viewer.0 o y finished)
    (type_error home.0 finished)
    (λ log. cut-row home.0 c.args.viewer.0 o y (Image d log) t
    (thing-there d a.ready home id a.holds.0 c.requires.ordinary log ∙ ap (option_map (object_of n)) k.1)
    (sym (rw k.1 at c.cut.ensures) ∙ c.if-cut.true))
    (c.type_error.ensures.part f))

pub returns-then-cut-clause-keeps : goal.returns-then-cut-clause-keeps
returns-then-cut-clause-keeps c =
    let d = c.args.w.now in
    let a = c.requires.acts in
    thrown-keeps c.args.home c.args.side d c.type_error.new.w
    (λ u. c.requires.side ∙ method-side-same d a.ready c.args.home c.args.object c.args.method a.holds.0 u)
    (method_gives c.args.method) c.type_error.result c.type_error.ensures.throws
    (c.type_error.ensures.keeps (method_gives c.args.method))

pub returns-in-Decided-clause-part : goal.returns-in-Decided-clause-part
returns-in-Decided-clause-part c =
    let d = c.args.w.now in
    let n = names_of d in
    let home = c.args.home in
    let side = c.args.side in
    let v = c.args.viewer.0 in
    let id = c.args.object in
    let a = c.requires.acts in
    let y = method_in n c.args.method in
    let o = object_in n id in
    let f = c.args.fuel.now in
    let k = there d id a.holds.0.within in
    let t = object_of n k.0 in
    let q = ap (ruling (graph_of d) v t) (sym (ap (changes_in n) c.change_of.ensures ∙ change-same n c.args.method))
    ∙ sym (c.ruling.ensures t (ap (option_map (object_of n)) k.1)) ∙ ap ruling_in c.in-Decided.is in
    Part-by side (Ok c.yes_or_no.result) d d f f (perform_row home.0 v o y finished)
    (yes_or_no c.in-Decided.answer finished)
    (λ log. decided-row home.0 v o y (Image d log) t
    (thing-there d a.ready home id a.holds.0 c.requires.ordinary log ∙ ap (option_map (object_of n)) k.1) n k.0 refl
    (rw k.1 at c.requires.ordinary) (sym (rw k.1 at c.cut.ensures) ∙ c.if-cut.false) c.in-Decided.answer q)
    (Part-sure side d f (yes_or_no c.in-Decided.answer finished) c.yes_or_no.result (c.yes_or_no.ensures.sure side d))

pub returns-in-Decided-clause-keeps : goal.returns-in-Decided-clause-keeps
returns-in-Decided-clause-keeps c =
    let d = c.args.w.now in
    let n = names_of d in
    let side = c.args.side in
    let a = c.requires.acts in
    let k = there d c.args.object a.holds.0.within in
    let t = object_of n k.0 in
    keeps-same side (method_gives c.args.method) (Ok c.yes_or_no.result) d a.ready
    (rw (decided-flag (graph_of d) c.args.viewer.0 t n c.args.method c.in-Decided.answer
    (sym (ap ruling_in c.in-Decided.is) ∙ c.ruling.ensures t (ap (option_map (object_of n)) k.1)
    ∙ ap (λ z. ruling (graph_of d) c.args.viewer.0 t (changes_in n z)) c.change_of.ensures))
    (c.yes_or_no.ensures.leaves side d))

pub ordinary-requires-clause-free : goal.ordinary-requires-clause-free
ordinary-requires-clause-free c = λ t e.
    let d = c.args.w.now in
    let n = names_of d in
    ap (ruling (graph_of d) c.args.viewer.0 t)
    (sym (ap (changes_in n) c.change_of.ensures ∙ change-same n c.args.method))
    ∙ sym (c.ruling.ensures t e) ∙ ap ruling_in c.in-Free.is

pub returns-in-Free-clause-part : goal.returns-in-Free-clause-part
returns-in-Free-clause-part c =
    let d = c.args.w.now in
    let n = names_of d in
    let home = c.args.home in
    let side = c.args.side in
    let v = c.args.viewer.0 in
    let id = c.args.object in
    let a = c.requires.acts in
    let y = method_in n c.args.method in
    let o = object_in n id in
    let k = there d id a.holds.0.within in
    let t = object_of n k.0 in
    let q = ap (ruling (graph_of d) v t) (sym (ap (changes_in n) c.change_of.ensures ∙ change-same n c.args.method))
    ∙ sym (c.ruling.ensures t (ap (option_map (object_of n)) k.1)) ∙ ap ruling_in c.in-Free.is in
    Part-by side c.ordinary.result d c.ordinary.new.w c.args.fuel.now c.ordinary.new.fuel
    (perform_row home.0 v o y finished) (ordinary home.0 v o t y finished)
    (λ log. free-row home.0 v o y (Image d log) t
    (thing-there d a.ready home id a.holds.0 c.requires.ordinary log ∙ ap (option_map (object_of n)) k.1) n k.0 refl
    (rw k.1 at c.requires.ordinary) (sym (rw k.1 at c.cut.ensures) ∙ c.if-cut.false) q)
    (c.ordinary.ensures.part t (ap (option_map (object_of n)) k.1))
