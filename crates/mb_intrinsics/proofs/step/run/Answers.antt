use Rattle.std.proofs.Common.{[], ap, sym, ◌∙◌, ◌∷◌}
use Rattle.mb_frames.proofs.Passed.{Part-by}
use Rattle.mb_frames.specs.Held.{HeldValue}
use Rattle.mb_frames.specs.Resolved.{values_in}
use Rattle.mb_frames.specs.Stepping.{written}
use Rattle.mb_intrinsics.proofs.Stepped.{first-held, first-is}
use Rattle.mb_intrinsics.specs.machine.Acting.{Acting}
use Rattle.mb_model.specs.BuiltIns.Arguments.{arg}
use Rattle.mb_model.specs.BuiltIns.Basics.{labelled, later, symbol}
use Rattle.mb_model.specs.Meaning.{finished}
use Rattle.mb_world.specs.Image.{Image, Resolve, names_of}
use Rattle.mb_world.specs.Value.{text_of}
use Rattle.mb_intrinsics.proofs.step.run.Goals as goal

pub later-requires : goal.later-requires
later-requires c =
    let d = c.args.w.now in
    let h = c.requires.acting in
    let a : Acting d c.args.home (HeldValue c.first.result ∷ []) = record {
      ready = h.ready;
      takes_part = h.takes_part;
      holds = (rw c.first.ensures (first-held d c.args.home c.args.arguments.now h.holds.0), tt);
    } in
    record { acting = a }

pub labelled-requires : goal.labelled-requires
labelled-requires c =
    let d = c.args.w.now in
    let h = c.requires.acting in
    let a : Acting d c.args.home (HeldValue c.first-in-2.result ∷ []) = record {
      ready = h.ready;
      takes_part = h.takes_part;
      holds = (rw c.first-in-2.ensures (first-held d c.args.home c.args.arguments.now h.holds.0), tt);
    } in
    record { acting = a }

pub symbol-requires : goal.symbol-requires
symbol-requires c =
    let d = c.args.w.now in
    let h = c.requires.acting in
    let a : Acting d c.args.home (HeldValue c.first-in-55.result ∷ []) = record {
      ready = h.ready;
      takes_part = h.takes_part;
      holds = (rw c.first-in-55.ensures (first-held d c.args.home c.args.arguments.now h.holds.0), tt);
    } in
    record { acting = a }

pub returns-in-1-clause-row : goal.returns-in-1-clause-row
returns-in-1-clause-row c = λ begun this target.
    let d = c.args.w.now in
    let n = names_of d in
    let home = c.args.home in
    let xs = c.args.arguments.now in
    let f = c.args.fuel.now in
    rw c.in-1.is
    (Part-by home c.later.result d c.later.new.w f f (later home.0 (arg (values_in n xs) 0) finished)
    (later home.0 (Resolve n c.first.result) finished)
    (λ log. ap (λ y. later home.0 y finished (Image d log)) (first-is n xs ∙ ap (Resolve n) (sym c.first.ensures)))
    (c.later.ensures.row f) begun (written c.args.lines.now))

pub returns-in-2-clause-row : goal.returns-in-2-clause-row
returns-in-2-clause-row c = λ begun this target.
    let d = c.args.w.now in
    let n = names_of d in
    let home = c.args.home in
    let xs = c.args.arguments.now in
    let f = c.args.fuel.now in
    rw c.in-2.is
    (Part-by home c.labelled.result d c.labelled.new.w f f (labelled home.0 (text_of (arg (values_in n xs) 0)) finished)
    (labelled home.0 (text_of (Resolve n c.first-in-2.result)) finished)
    (λ log. ap (λ y. labelled home.0 (text_of y) finished (Image d log))
    (first-is n xs ∙ ap (Resolve n) (sym c.first-in-2.ensures)))
    (c.labelled.ensures.row f) begun (written c.args.lines.now))

pub returns-in-55-clause-row : goal.returns-in-55-clause-row
returns-in-55-clause-row c = λ begun this target.
    let d = c.args.w.now in
    let n = names_of d in
    let home = c.args.home in
    let xs = c.args.arguments.now in
    let f = c.args.fuel.now in
    rw c.in-55.is
    (Part-by home c.symbol.result d c.symbol.new.w f f (symbol home.0 (arg (values_in n xs) 0) finished)
    (symbol home.0 (Resolve n c.first-in-55.result) finished)
    (λ log. ap (λ y. symbol home.0 y finished (Image d log)) (first-is n xs ∙ ap (Resolve n) (sym c.first-in-55.ensures)))
    (c.symbol.ensures.row f) begun (written c.args.lines.now))
