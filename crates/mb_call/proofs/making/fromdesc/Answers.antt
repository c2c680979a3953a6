use Rattle.std.proofs.Common.{◌<◌, None, arith, refl, subst}
use Rattle.std.proofs.lemmas.List.{take_all}
use Rattle.std.proofs.lemmas.Result.{err_from_is_err_and}
use Rattle.mb_call.proofs.Filled.{IsFilled, all_fields, field-asks, filled-went, next-changed, next-filled}
use Rattle.mb_call.proofs.making.fromdesc.Goals as goal
use Rattle.mb_frames.proofs.Constructing.{made-open, open-held, plain-made, ready-prototypes}
use Rattle.mb_frames.proofs.Made.{IsLast, made-last}
use Rattle.mb_frames.proofs.Readying.{changed-same}
use Rattle.mb_frames.proofs.Renewing.{made-changed}
use Rattle.mb_world.specs.Graph.{Plain}
use Rattle.mb_world.specs.Objects.{new_thing}
use Rattle.mb_world.specs.Value.{Val}
use Rattle.mb_world.specs.declared.cell.CellKind.TheVariants as kind

pub built_in-prototype-requires : goal.built_in-prototype-requires
built_in-prototype-requires c = (ready-prototypes c.args.w.now c.args.home c.requires.ready c.requires.side).object

pub loop-field-init : goal.loop-field-init
loop-field-init c =
    let d = c.args.w.now in
    let d1 = c.make.new.self in
    let home = c.args.home in
    let r = c.requires.ready in
    let inside : home.0 < 8 = omega (arith, r.formed.sides.1, c.requires.side) in
    let p = c.built_in-prototype.result in
    let made = c.in_ok-made.made in
    record {
      last = subst (λ (x : Val). IsLast d d1 made (new_thing home.0 None Plain x)) c.built_in-prototype.ensures.value
          (made-last d d1 home kind.Plain p None made r.ids refl refl c.in_ok-made.ensures.made c.in_ok-made.ensures.id
          inside tt c.built_in-prototype.ensures.ids tt);
      opened = made-open d d1 home kind.Plain p None made refl refl c.in_ok-made.ensures.made c.in_ok-made.ensures.id;
      changed = rw c.in_ok-made.ensures.made
          (made-changed home d kind.Plain p None r c.requires.side
          (plain-made d home p c.built_in-prototype.ensures.held));
      ids = c.texts-made.ensures.ids;
    }

pub put_field-requires-clause-object : goal.put_field-requires-clause-object
put_field-requires-clause-object c =
    (open-held c.loop-field.w c.args.home c.in_ok-made.made c.loop-field.invariant.opened).within

pub put_field-requires-clause-value : goal.put_field-requires-clause-value
put_field-requires-clause-value c =
    field-asks c.args.w.now c.loop-field.w c.loop-field.w c.args.home c.in_ok-made.made c.args.desc
    c.loop-field.field-index _ c.loop-field-test.true c.requires.ready c.requires.side c.requires.held.0
    c.loop-field.invariant c.field_value.result c.field_value.ensures

pub loop-field-preserved : goal.loop-field-preserved
loop-field-preserved c =
    let s = c.in_ok-put_field.ensures in
    next-filled c.args.w.now c.loop-field.w c.put_field.new.w c.args.home c.in_ok-made.made c.args.desc
    c.loop-field.field-index _ c.loop-field-test.true c.requires.ready c.requires.side c.requires.held.0
    c.loop-field.invariant c.field_value.result c.field_value.ensures s.puts s.keeps s.stays_open s.ids

pub returns-in_err-put_field-clause-keeps : goal.returns-in_err-put_field-clause-keeps
returns-in_err-put_field-clause-keeps c =
    let p = err_from_is_err_and c.from_residual-in_err-put_field.result c.from_residual-in_err-put_field.ensures.1 in
    rw p.1
    (record {
      changed = next-changed c.args.w.now c.loop-field.w c.put_field.new.w c.args.home c.in_ok-made.made c.args.desc
          c.loop-field.field-index _ c.loop-field-test.true c.requires.ready c.requires.side c.requires.held.0
          c.loop-field.invariant c.field_value.result c.field_value.ensures
          c.put_field.result c.put_field.ensures.keeps;
      holds = tt;
    })

pub returns-in_err-made-clause-keeps : goal.returns-in_err-made-clause-keeps
returns-in_err-made-clause-keeps c =
    let p = err_from_is_err_and c.from_residual.result c.from_residual.ensures.1 in
    rw (p.1, c.in_err-made.ensures.kept)
    (record { changed = changed-same c.args.home c.args.w.now c.requires.ready; holds = tt })

pub returns-clause-makes : goal.returns-clause-makes
returns-clause-makes c =
    filled-went c.args.w.now c.loop-field.w c.args.home c.in_ok-made.made c.args.desc
    (subst (IsFilled c.args.w.now c.loop-field.w c.args.home c.in_ok-made.made c.args.desc)
    (take_all c.loop-field.field-index all_fields c.loop-field-test.false) c.loop-field.invariant)

pub returns-clause-keeps : goal.returns-clause-keeps
returns-clause-keeps c = record {
  changed = c.loop-field.invariant.changed;
  holds = (open-held c.loop-field.w c.args.home c.in_ok-made.made c.loop-field.invariant.opened, tt);
}
