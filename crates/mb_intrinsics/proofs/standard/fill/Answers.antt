use Rattle.std.proofs.Common.{[], map}
use Rattle.mb_intrinsics.proofs.Changes.{filled-by, row-filled, there-changed}
use Rattle.mb_intrinsics.proofs.Rows.{proto-in, row-texts}
use Rattle.mb_intrinsics.specs.machine.Filling.{properties_texts, puts}
use Rattle.mb_intrinsics.specs.machine.Table.{function_in, property_in, prototype_in}
use Rattle.mb_world.specs.Data.{with_proto}
use Rattle.mb_intrinsics.proofs.standard.fill.Goals as goal

pub set_proto-requires-clause-proto : goal.set_proto-requires-clause-proto
set_proto-requires-clause-proto c =
    rw (c.prototype_value.ensures [])
    (proto-in c.args.w.now c.args.home c.row_at-row.result.0 c.row_at-row.ensures.sound.prototype c.requires.cells)

pub put_first-requires-clause-texts : goal.put_first-requires-clause-texts
put_first-requires-clause-texts c =
    there-changed c.args.w.now c.set_proto.new.self c.built_in_id-id.result (with_proto c.prototype_value.result)
    (properties_texts (function_in c.row_at-row.result.1)) c.set_proto.ensures
    (row-texts c.args.w.now.texts c.args.place c.row_at-row.result c.requires.place c.requires.texts
    c.row_at-row.ensures.value).0

pub put_all-requires-clause-texts : goal.put_all-requires-clause-texts
put_all-requires-clause-texts c =
    let texts = properties_texts (map property_in c.row_at-row.result.2.now) in
    there-changed c.set_proto.new.self c.put_first.new.w c.built_in_id-id.result
    (puts c.set_proto.new.self.texts c.args.home (function_in c.row_at-row.result.1)) texts
    c.in_ok-put_first.ensures.put
    (there-changed c.args.w.now c.set_proto.new.self c.built_in_id-id.result (with_proto c.prototype_value.result) texts
    c.set_proto.ensures
    (row-texts c.args.w.now.texts c.args.place c.row_at-row.result c.requires.place c.requires.texts
    c.row_at-row.ensures.value).1)

pub returns-clause-filled : goal.returns-clause-filled
returns-clause-filled c i at =
    row-filled c.args.w.now c.close.new.self c.built_in_id-id.result c.args.home c.args.place c.row_at-row.result i
    c.built_in_id-id.ensures c.row_at-row.ensures.value at
    (filled-by c.args.w.now c.set_proto.new.self c.put_first.new.w c.put_all.new.w c.close.new.self
    c.built_in_id-id.result c.args.home c.prototype_value.result (function_in c.row_at-row.result.1)
    (map property_in c.row_at-row.result.2.now) (prototype_in c.row_at-row.result.0)
    (c.prototype_value.ensures c.args.w.now.texts) c.set_proto.ensures c.in_ok-put_first.ensures.put
    c.in_ok-put_all.ensures.put c.close.ensures)
