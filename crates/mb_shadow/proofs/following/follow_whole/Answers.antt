use Rattle.mb_shadow.proofs.Steps.{followed-then, followed-crossed, crossed-followed}
use Rattle.mb_shadow.proofs.Stable.{shadow-in, sight-stays}
use Rattle.mb_shadow.proofs.FollowedParts.{whole-followed}
use Rattle.mb_shadow.proofs.following.follow_whole.Goals as goal

pub returns-in_err-proto-clause-stays : goal.returns-in_err-proto-clause-stays
returns-in_err-proto-clause-stays c = followed-then c.args.w.now c.replace_all.new.w c.proto_seen.new.w c.args.sight.shadow
    (shadow-in c.args.w.now c.args.sight c.requires.sight) c.in_ok-replace_all.ensures.stays
    (followed-crossed c.replace_all.new.w c.proto_seen.new.w c.args.sight.shadow c.in_ok-replace_all.ensures.stays.can_see c.proto_seen.ensures.stays)

pub returns-clause-stays : goal.returns-clause-stays
returns-clause-stays c =
    let sight = sight-stays c.args.w.now c.replace_all.new.w c.args.sight c.requires.world c.requires.sight c.in_ok-replace_all.ensures.stays in
    followed-then c.args.w.now c.replace_all.new.w c.close.new.w c.args.sight.shadow
    (shadow-in c.args.w.now c.args.sight c.requires.sight) c.in_ok-replace_all.ensures.stays
    (crossed-followed c.replace_all.new.w c.proto_seen.new.w c.close.new.w c.args.sight.shadow (shadow-in c.replace_all.new.w c.args.sight sight)
    c.in_ok-replace_all.ensures.stays.can_see c.proto_seen.ensures.stays c.close.ensures.stays)

pub returns-clause-followed : goal.returns-clause-followed
returns-clause-followed c =
    let sight = sight-stays c.args.w.now c.replace_all.new.w c.args.sight c.requires.world c.requires.sight c.in_ok-replace_all.ensures.stays in
    whole-followed c.args.w.now c.args.sight c.requires.world c.requires.sight c.cell.result.now c.cell.ensures.value c.if-cell.false
    c.replace_all.new.w c.proto_seen.new.w c.close.new.w c.in_ok-proto.proto c.in_ok-replace_all.ensures.replaced c.in_ok-replace_all.ensures.stays
    c.proto_seen.ensures.stays c.in_ok-proto.ensures.meaning c.in_ok-replace_all.ensures.stays.can_see sight c.close.ensures.closed
    c.close.ensures.properties (followed-then c.args.w.now c.replace_all.new.w c.close.new.w c.args.sight.shadow
    (shadow-in c.args.w.now c.args.sight c.requires.sight) c.in_ok-replace_all.ensures.stays
    (crossed-followed c.replace_all.new.w c.proto_seen.new.w c.close.new.w c.args.sight.shadow (shadow-in c.replace_all.new.w c.args.sight sight)
    c.in_ok-replace_all.ensures.stays.can_see c.proto_seen.ensures.stays c.close.ensures.stays))
