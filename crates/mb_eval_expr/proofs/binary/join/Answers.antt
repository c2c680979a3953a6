use Rattle.std.proofs.Common.{[], ap, arith, length, refl, length-append, ◌+◌, ◌++◌, ◌/◌, ◌≡◌, ◌≤◌}
use Rattle.std.proofs.lemmas.Option.{get_or_from_slice_get}
use Rattle.mb_eval_expr.proofs.Joining.{Computes-text}
use Rattle.mb_parts.proofs.Writing.{TextsGrew-text, text-is, text-within}
use Rattle.mb_frames.specs.Passing.{TextsGrew}
use Rattle.mb_world.specs.Data.{Data}
use Rattle.mb_world.specs.Image.{names_of, text_in}
use Rattle.mb_eval_expr.proofs.binary.join.Goals as goal

pub returns-in-Ok-clause-row : goal.returns-in-Ok-clause-row
returns-in-Ok-clause-row c = λ home.
    let d = c.args.w.now in
    let d' : Data = c.join.new.self in
    let x = text_in (names_of d) c.args.a in
    let y = text_in (names_of d) c.args.b in
    let i : x ≡ c.units.result.now = get_or_from_slice_get d.texts c.args.a.0 c.units.result.now []
    (rw c.texts.ensures.value at c.units.ensures.text) in
    let j : y ≡ c.units-2.result.now = get_or_from_slice_get d.texts c.args.b.0 c.units-2.result.now []
    (rw c.texts-2.ensures.value at c.units-2.ensures.text) in
    let short : length x + length y ≤ 1048576 = omega (arith, ap length i, ap length j) in
    let paid : c.charge.new.self + (length x + length y) / 64 ≡ c.args.fuel.now
    = omega (arith, ap length i, ap length j, c.in_ok-charge.ensures.paid) in
    let t : TextsGrew d d' = TextsGrew-text d d' (x ++ y) c.requires.ids c.texts-texts.ensures.ids
    c.in-Ok.ensures.texts in
    Computes-text home d c.args.fuel.now x y short d' c.charge.new.self c.in-Ok.text paid t
    (text-within d' c.in-Ok.text (x ++ y) c.in-Ok.ensures.text) (text-is d' c.in-Ok.text (x ++ y) c.in-Ok.ensures.text)

pub returns-in-Ok-clause-grew : goal.returns-in-Ok-clause-grew
returns-in-Ok-clause-grew c =
    let d = c.args.w.now in
    TextsGrew-text d c.join.new.self (text_in (names_of d) c.args.a ++ text_in (names_of d) c.args.b) c.requires.ids
    c.texts-texts.ensures.ids c.in-Ok.ensures.texts

pub unreachable-requires : goal.unreachable-requires
unreachable-requires c =
    let d = c.args.w.now in
    let x = text_in (names_of d) c.args.a in
    let y = text_in (names_of d) c.args.b in
    let i : x ≡ c.units.result.now = get_or_from_slice_get d.texts c.args.a.0 c.units.result.now []
    (rw c.texts.ensures.value at c.units.ensures.text) in
    let j : y ≡ c.units-2.result.now = get_or_from_slice_get d.texts c.args.b.0 c.units-2.result.now []
    (rw c.texts-2.ensures.value at c.units-2.ensures.text) in
    let h = rw c.in-Err-Long.field-0-is at c.in-Err-Long.ensures.long in
    omega (arith, h.0 refl, length-append x y, ap length i, ap length j)
