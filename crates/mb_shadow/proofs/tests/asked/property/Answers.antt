use Rattle.mb_shadow.proofs.Changed.{datum-of}
use Rattle.mb_shadow.proofs.tests.asked.property.Goals as goal

pub returns : goal.returns
returns g c = rw c.in-Datum.is (datum-of c.args.w.now c.args.side c.in-Datum.held c.in-Datum.writable c.in-Datum.enumerable c.in-Datum.configurable c.value.ensures)
