use Rattle.std.proofs.Common.{false}
use Rattle.mb_call.proofs.Looking.{goes-on}
use Rattle.mb_call.proofs.writing.store.Goals as goal
use Rattle.mb_model.specs.Objects.Methods.{store_in}
use Rattle.mb_model.specs.Writing.{yes_or_no}
use Rattle.mb_world.specs.Image.{Resolve, key_in, names_of}

pub returns-in_default : goal.returns-in_default
returns-in_default c = record {
  sure = λ d a.
      let n = names_of d in
      goes-on d c.args.home c.yes_or_no.result c.args.receiver
      (store_in c.args.home.0 (key_in n c.args.key) (Resolve n c.args.x) (Resolve n c.args.receiver)) (yes_or_no false)
      c.in_default.not-Object (c.yes_or_no.ensures.sure c.args.home d);
  leaves = λ d a. c.yes_or_no.ensures.leaves c.args.home d;
}
