use Rattle.mb_arrayapi.proofs.Acting.{Part-same}
use Rattle.mb_arrayapi.proofs.TablePlaces.{member-calls}
use Rattle.mb_arrayapi.proofs.step.member.Goals as goal
use Rattle.mb_frames.specs.Resolved.{values_in}
use Rattle.mb_frames.specs.Rest.Arraying.{member_from}
use Rattle.mb_model.specs.BuiltIns.Arrays.{array_start}
use Rattle.mb_model.specs.BuiltIns.{run_row}
use Rattle.mb_model.specs.Writing.{◌>>=◌}
use Rattle.mb_world.specs.Image.{Resolve, names_of}
use Rattle.mb_world.specs.Intrinsics.{intrinsic}

pub member_row-requires : goal.member_row-requires
member_row-requires c =
    let a = c.requires.acts in
    record {
      acts = record {
        ready = a.ready;
        side = a.side;
        holds = (a.holds.0, c.member_at-member.ensures.held c.args.w.now c.args.home (a.holds.1.0, tt));
      };
    }

pub returns-clause-row : goal.returns-clause-row
returns-clause-row c = λ f target.
    let d = c.args.w.now in
    let n = names_of d in
    let s = c.args.home.0 in
    let this = Resolve n c.args.this in
    Part-same c.args.home c.member_row.result d c.member_row.new.w f f
    (run_row s c.args.place this (values_in n c.args.arguments) target)
    (array_start s this >>= member_from n s this c.member_at-member.result)
    (c.member_at-member.ensures.row n s this target) (c.member_row.ensures.part f)

pub returns-clause-calls : goal.returns-clause-calls
returns-clause-calls c = member-calls (intrinsic c.args.place) c.requires.ours
