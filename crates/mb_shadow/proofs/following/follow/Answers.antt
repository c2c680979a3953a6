use Rattle.std.proofs.Common.{sym, subst, ◌∙◌}
use Rattle.mb_shadow.specs.declared.part.Part.TheVariants as part
use Rattle.mb_shadow.specs.Following.{IsFollowed}
use Rattle.mb_shadow.specs.Shadows.{Shadowed, Lean}
use Rattle.mb_shadow.specs.machine.Sights.{FollowedFrom}
use Rattle.mb_shadow.proofs.Steps.{followed-same}
use Rattle.mb_shadow.proofs.Stable.{view-there}
use Rattle.mb_shadow.proofs.Replacing.{on-ok}
use Rattle.mb_shadow.proofs.FollowedParts.{followed-through}
use Rattle.mb_shadow.proofs.Faithful.{following-keeps, following-keeps-lean}
use Rattle.mb_shadow.proofs.following.follow.Goals as goal

pub returns-in-Key-clause-followed : goal.returns-in-Key-clause-followed
returns-in-Key-clause-followed c = on-ok
    (FollowedFrom c.args.w.now c.follow_key.new.w c.in-Some.sight (part.Key c.in-Key.key))
    (IsFollowed c.args.w.now c.follow_key.new.w c.args.proxy c.args.part)
    (λ from. subst (IsFollowed c.args.w.now c.follow_key.new.w c.args.proxy) (sym c.in-Key.is)
    (followed-through c.args.w.now c.follow_key.new.w c.args.proxy c.in-Some.sight (part.Key c.in-Key.key) c.requires.proxy c.in-Some.ensures.sight c.in-Some.ensures.shadow
    c.in-Some.ensures.view c.follow_key.ensures.stays from))
    c.follow_key.result c.follow_key.ensures.followed

pub returns-in-Key-clause-faithful : goal.returns-in-Key-clause-faithful
returns-in-Key-clause-faithful c = λ h. on-ok
    (FollowedFrom c.args.w.now c.follow_key.new.w c.in-Some.sight (part.Key c.in-Key.key))
    (Shadowed c.follow_key.new.w)
    (λ from. following-keeps c.args.w.now c.follow_key.new.w c.requires.world c.args.proxy c.requires.proxy c.in-Some.sight.shadow c.in-Some.ensures.shadow (part.Key c.in-Key.key)
    c.follow_key.ensures.stays
    (followed-through c.args.w.now c.follow_key.new.w c.args.proxy c.in-Some.sight (part.Key c.in-Key.key) c.requires.proxy c.in-Some.ensures.sight c.in-Some.ensures.shadow
    c.in-Some.ensures.view c.follow_key.ensures.stays from) h)
    c.follow_key.result c.follow_key.ensures.followed

pub returns-in-Key-clause-lean : goal.returns-in-Key-clause-lean
returns-in-Key-clause-lean c = λ h lean. on-ok
    (FollowedFrom c.args.w.now c.follow_key.new.w c.in-Some.sight (part.Key c.in-Key.key))
    (Lean c.follow_key.new.w)
    (λ from. following-keeps-lean c.args.w.now c.follow_key.new.w c.requires.world c.args.proxy c.requires.proxy c.in-Some.sight.shadow c.in-Some.ensures.shadow (part.Key c.in-Key.key)
    c.follow_key.ensures.stays
    (followed-through c.args.w.now c.follow_key.new.w c.args.proxy c.in-Some.sight (part.Key c.in-Key.key) c.requires.proxy c.in-Some.ensures.sight c.in-Some.ensures.shadow
    c.in-Some.ensures.view c.follow_key.ensures.stays from)
    (view-there c.args.w.now c.in-Some.sight c.in-Some.ensures.sight).0
    (c.in-Some.ensures.view ∙ (view-there c.args.w.now c.in-Some.sight c.in-Some.ensures.sight).1) lean)
    c.follow_key.result c.follow_key.ensures.followed

pub returns-in-Whole-clause-followed : goal.returns-in-Whole-clause-followed
returns-in-Whole-clause-followed c = on-ok
    (FollowedFrom c.args.w.now c.follow_whole.new.w c.in-Some.sight (part.Whole))
    (IsFollowed c.args.w.now c.follow_whole.new.w c.args.proxy c.args.part)
    (λ from. subst (IsFollowed c.args.w.now c.follow_whole.new.w c.args.proxy) (sym c.in-Whole.is)
    (followed-through c.args.w.now c.follow_whole.new.w c.args.proxy c.in-Some.sight (part.Whole) c.requires.proxy c.in-Some.ensures.sight c.in-Some.ensures.shadow
    c.in-Some.ensures.view c.follow_whole.ensures.stays from))
    c.follow_whole.result c.follow_whole.ensures.followed

pub returns-in-Whole-clause-faithful : goal.returns-in-Whole-clause-faithful
returns-in-Whole-clause-faithful c = λ h. on-ok
    (FollowedFrom c.args.w.now c.follow_whole.new.w c.in-Some.sight (part.Whole))
    (Shadowed c.follow_whole.new.w)
    (λ from. following-keeps c.args.w.now c.follow_whole.new.w c.requires.world c.args.proxy c.requires.proxy c.in-Some.sight.shadow c.in-Some.ensures.shadow (part.Whole)
    c.follow_whole.ensures.stays
    (followed-through c.args.w.now c.follow_whole.new.w c.args.proxy c.in-Some.sight (part.Whole) c.requires.proxy c.in-Some.ensures.sight c.in-Some.ensures.shadow
    c.in-Some.ensures.view c.follow_whole.ensures.stays from) h)
    c.follow_whole.result c.follow_whole.ensures.followed

pub returns-in-Whole-clause-lean : goal.returns-in-Whole-clause-lean
returns-in-Whole-clause-lean c = λ h lean. on-ok
    (FollowedFrom c.args.w.now c.follow_whole.new.w c.in-Some.sight (part.Whole))
    (Lean c.follow_whole.new.w)
    (λ from. following-keeps-lean c.args.w.now c.follow_whole.new.w c.requires.world c.args.proxy c.requires.proxy c.in-Some.sight.shadow c.in-Some.ensures.shadow (part.Whole)
    c.follow_whole.ensures.stays
    (followed-through c.args.w.now c.follow_whole.new.w c.args.proxy c.in-Some.sight (part.Whole) c.requires.proxy c.in-Some.ensures.sight c.in-Some.ensures.shadow
    c.in-Some.ensures.view c.follow_whole.ensures.stays from)
    (view-there c.args.w.now c.in-Some.sight c.in-Some.ensures.sight).0
    (c.in-Some.ensures.view ∙ (view-there c.args.w.now c.in-Some.sight c.in-Some.ensures.sight).1) lean)
    c.follow_whole.result c.follow_whole.ensures.followed

pub returns-in-None-clause-stays : goal.returns-in-None-clause-stays
returns-in-None-clause-stays c = followed-same c.args.w.now _ c.requires.world
