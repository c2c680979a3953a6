use Rattle.std.proofs.Common.{false}
use Rattle.std.proofs.lemmas.Option.{slice_get-get_or}
use Rattle.mb_tree.proofs.Starts.{begun-more}
use Rattle.mb_tree.proofs.program.starts_of.Goals as goal

pub loop-place-preserved : goal.loop-place-preserved
loop-place-preserved c =
    begun-more c.args.names.now c.loop-place.place _ c.loop-place.starts.items c.start_at.new.starts.items c.requires c.loop-place-test.true
    (slice_get-get_or c.args.names.now c.loop-place.place (record { 0 = 0 }, record { 0 = 0 }, false) c.loop-place-test.true)
    c.in_ok-start_at.ensures c.loop-place.invariant
