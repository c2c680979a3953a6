use Rattle.std.proofs.Common.{ap, ◌∙◌}
use Rattle.mb_call.proofs.FieldRows.{field-named, field-short, key-named}
use Rattle.mb_call.proofs.descriptors.field_key.Goals as goal
use Rattle.mb_frames.specs.Rest.Calls.{field_in}
use Rattle.mb_model.specs.Operations.Descriptors.{field_key}
use Rattle.mb_world.specs.Image.{names_of}
use Rattle.mb_world.specs.Key.{Named}

pub key_of_word-requires : goal.key_of_word-requires
key_of_word-requires c = record { units = rw c.field_units.ensures (field-short c.args.field) }

pub returns-clause-key : goal.returns-clause-key
returns-clause-key c =
    key-named (names_of c.key_of_word.new.w) c.key_of_word.result c.field_units.result.now
    (field_key (field_in c.args.field)) (ap Named c.field_units.ensures ∙ field-named c.args.field)
    c.key_of_word.ensures.key
