use Rattle.std.proofs.Common.{◌-◌, ◌^◌, ◌∷◌, [], arith, refl}
use Rattle.mb_world.proofs.Grow.{FullIn-grows}
use Rattle.mb_world.proofs.Texts.{Grows-text}
use Rattle.mb_base.specs.declared.value.Key.TheVariants as k
use Rattle.mb_frames.proofs.Halting.{halted-changed}
use Rattle.mb_frames.proofs.Opened.{named-changed, named-put-changed, named-put-open}
use Rattle.mb_frames.proofs.Putting.{named-key}
use Rattle.mb_frames.proofs.Readying.{changed-same}
use Rattle.mb_frames.specs.Held.{HeldFull}
use Rattle.mb_frames.specs.Keeping.{none_held}
use Rattle.mb_frames.proofs.functions.put.Goals as goal

pub unreachable-requires : goal.unreachable-requires
unreachable-requires c =
    let h = rw c.in-Err-Long.field-0-is at c.in-Err-Long.ensures.long in
    omega (arith, h.0 refl, c.requires.short)

pub put-requires-clause-object : goal.put-requires-clause-object
put-requires-clause-object c = rw c.in-Ok.ensures.texts c.requires.object

pub put-requires-clause-key : goal.put-requires-clause-key
put-requires-clause-key c =
    named-key c.intern.new.self c.in-Ok.text c.args.text.now c.in-Ok.ensures.text c.requires.name

pub put-requires-clause-full : goal.put-requires-clause-full
put-requires-clause-full c =
    rw c.in-Ok.ensures.texts
    (FullIn-grows c.args.w.now _ (Grows-text c.args.w.now c.args.text.now) c.args.full c.requires.full)

pub returns-in-Err-NoMemory-clause-keeps : goal.returns-in-Err-NoMemory-clause-keeps
returns-in-Err-NoMemory-clause-keeps c home o r inside held = record {
  changed = rw (c.in-Err-NoMemory.ensures.kept) (changed-same home c.args.w.now r);
  holds = tt;
}

pub returns-in_err-put-clause-keeps : goal.returns-in_err-put-clause-keeps
returns-in_err-put-clause-keeps c home o =
    halted-changed home (HeldFull c.args.full ∷ []) none_held c.from_residual.result c.from_residual.ensures.0
    c.args.w.now c.put.new.self
    (λ r inside held.
    rw c.in_err-put.ensures.kept
    (named-changed home c.args.w.now c.intern.new.self c.args.text.now c.args.object o
    (k.Text c.in-Ok.text (2 ^ 32 - 1)) c.args.full c.in-Ok.ensures.texts r))

pub returns-clause-keeps : goal.returns-clause-keeps
returns-clause-keeps c home o r inside held = record {
  changed = named-put-changed home c.args.w.now c.intern.new.self c.args.text.now c.args.object o
      (k.Text c.in-Ok.text (2 ^ 32 - 1)) c.args.full c.in-Ok.ensures.texts c.put.new.self c.in_ok-put.ensures.put
      (named-key c.intern.new.self c.in-Ok.text c.args.text.now c.in-Ok.ensures.text c.requires.name) r held.0;
  holds = tt;
}

pub returns-clause-stays_open : goal.returns-clause-stays_open
returns-clause-stays_open c home o h =
    named-put-open home c.args.w.now c.intern.new.self c.args.text.now c.args.object o
    (k.Text c.in-Ok.text (2 ^ 32 - 1)) c.args.full c.in-Ok.ensures.texts c.put.new.self c.in_ok-put.ensures.put h
