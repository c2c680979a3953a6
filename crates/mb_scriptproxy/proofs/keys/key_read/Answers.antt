use Rattle.std.proofs.lemmas.Result.{err_from_is_err_and}
use Rattle.mb_frames.proofs.Keeping.{keeps-halted}
use Rattle.mb_frames.proofs.Readying.{changed-same}
use Rattle.mb_frames.specs.Sorts.{SomeKeys}
use Rattle.mb_scriptproxy.proofs.Parted.{Part-parted, parted-held}
use Rattle.mb_scriptproxy.proofs.keys.key_read.Goals as goal
use Rattle.mb_world.specs.Image.{names_of}

pub keys_parted-requires : goal.keys_parted-requires
keys_parted-requires c =
    let d = c.args.w.now in
    let a = c.requires.acts in
    record {
      acts = record {
        ready = a.ready;
        side = a.side;
        holds = (
          a.holds.0,
          parted-held d c.args.home c.args.target c.args.at c.in_ok-at.at c.args.key c.args.real c.is_fixed.result
              c.in_ok-at.ensures (c.is_fixed.ensures (names_of d)) a.holds.1,
        );
      };
    }

pub returns-clause-part : goal.returns-clause-part
returns-clause-part c = λ f.
    let d = c.args.w.now in
    Part-parted d c.args.home c.args.target c.args.at c.in_ok-at.at c.args.key c.args.real c.is_fixed.result
    c.in_ok-at.ensures (c.is_fixed.ensures (names_of d)) c.keys_parted.result c.keys_parted.new.w f
    (c.keys_parted.ensures.part f)

pub returns-in_err-at-clause-keeps : goal.returns-in_err-at-clause-keeps
returns-in_err-at-clause-keeps c =
    let d = c.args.w.now in
    let q = err_from_is_err_and c.from_residual.result c.from_residual.ensures.1 in
    rw q.1 (keeps-halted c.args.home SomeKeys q.0 d d (changed-same c.args.home d c.requires.acts.ready))
