use Rattle.std.proofs.Common.{◌≡◌, map}
use Rattle.std.proofs.lemmas.Result.{IfOk-weaker}
use Rattle.mb_world.specs.Image.{names_of, key_in}
use Rattle.mb_world.specs.Key.{keys_in_order}
use Rattle.mb_world.specs.Objects.{property_keys}
use Rattle.mb_ordinary.proofs.Cells.{at-object}
use Rattle.mb_ordinary.proofs.OwnKeys.{own-keys, ordered-in}
use Rattle.mb_ordinary.proofs.reading.keys.Goals as goal

pub returns-clause-meant : goal.returns-clause-meant
returns-clause-meant c =
    let d = c.args.w.now in
    let facts = c.cell.ensures in
    let cell = c.cell.result.now in
    IfOk-weaker c.keys_in_order.result _ _
    (λ ks o. at-object d c.args.o cell (λ t. map (key_in (names_of d)) ks.items ≡ keys_in_order (property_keys t.properties)) facts.value
    (own-keys d facts.distinct cell.props ks.items facts.within.props_in c.keys_in_order.ensures.distinct o))
    c.keys_in_order.ensures.order

pub returns-clause-within : goal.returns-clause-within
returns-clause-within c =
    IfOk-weaker c.keys_in_order.result _ _
    (λ ks o. ordered-in c.args.w.now c.cell.result.now.props ks.items c.cell.ensures.within.props_in o)
    c.keys_in_order.ensures.order
