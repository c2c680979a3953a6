use Rattle.std.proofs.Common.{rules, sym, subst}
use Rattle.std.proofs.lemmas.Fn.{filter_same}
use Rattle.mb_array.specs.Define.{table_in}
use Rattle.mb_array.specs.machine.Cutting.{AreIndicesFrom}
use Rattle.mb_array.proofs.Listing.{from-ordered}
use Rattle.mb_array.proofs.indices.among_all.Goals as goal

pub returns : goal.returns
returns c =
    let d = c.args.w.now in
    let cell = c.cell.ensures in
    subst (λ x. AreIndicesFrom d c.args.n (table_in x) c.retain.new.self.items) (sym cell.value)
    (from-ordered d cell.distinct c.args.n c.cell.result.now.props c.in_ok-keys.keys.items c.retain.new.self.items cell.within.props_in c.in_ok-keys.ensures.distinct c.in_ok-keys.ensures.order
    (filter_same _ _ _ (λ x b f' k. search rules) _ _ c.retain.ensures.filtered))
