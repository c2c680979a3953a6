use Rattle.mb_ordinary.proofs.tests.asked.fields.Goals as goal

pub returns : goal.returns
returns r c = record { value_in = c.field.ensures; get_in = c.field-2.ensures; set_in = c.field-3.ensures }
