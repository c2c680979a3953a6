use Rattle.std.proofs.Common.{◌∙◌, ap, is_some, sym, true≢false}
use Rattle.mb_frames.proofs.HeldAs.{built-in-held}
use Rattle.mb_frames.proofs.Errors.{built-in-is}
use Rattle.mb_frames.proofs.functions.built_in.Goals as goal

pub unreachable-requires : goal.unreachable-requires
unreachable-requires c = absurd (true≢false (sym c.requires ∙ ap is_some (sym c.in-None.ensures.value)))

pub returns-clause-value : goal.returns-clause-value
returns-clause-value c =
    built-in-is c.args.w.now c.args.home c.args.place c.in-Some.id (sym c.in-Some.ensures.value) c.in-Some.ensures.within

pub returns-clause-held : goal.returns-clause-held
returns-clause-held c =
    (built-in-held c.args.w.now c.args.home c.args.place c.in-Some.id (sym c.in-Some.ensures.value)).held.prototype
