use Rattle.std.proofs.Common.{◌<◌, get_or, length, set, ap, refl, arith}
use Rattle.std.proofs.lemmas.Option.{slice_get-get_or}
use Rattle.mb_tree.specs.Roses.{id_of}
use Rattle.mb_scope.specs.declared.jump.Around.{Around}
use Rattle.mb_scope.specs.machine.Around.{outside}
use Rattle.mb_scope.proofs.Knowing.{put_none, put_more, put_all}
use Rattle.mb_scope.proofs.jump.put_around.Goals as goal

pub loop-part-init : goal.loop-part-init
loop-part-init c = put_none c.args.known.now c.args.around

pub loop-part-preserved : goal.loop-part-preserved
loop-part-preserved c =
    let ids = c.args.parts.now in
    let i = c.loop-part.part-index in
    let id = get_or ids i (id_of 0) in
    let known = c.loop-part.known in
    let cur = get_or known id.0 outside in
    let low : id.0 < length c.args.known.now = c.requires i id (slice_get-get_or ids i (id_of 0) c.loop-part-test.true) in
    let within : id.0 < length known = omega (arith, c.loop-part.auto.known) in
    put_more c.args.known.now known (set known id.0 c.or.result) ids i c.args.around cur id c.loop-part-test.true refl (slice_get-get_or known id.0 outside within) (ap (λ (x : Around). set known id.0 x) c.or.ensures) c.loop-part.invariant

pub returns : goal.returns
returns c = put_all c.args.known.now c.loop-part.known c.args.parts.now c.loop-part.part-index c.args.around c.loop-part-test.false c.loop-part.invariant
