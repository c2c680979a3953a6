use Rattle.std.proofs.Common.{◌<◌, ◌≡◌, Some, arith, refl, subst, sym}
use Rattle.std.proofs.lemmas.Option.{slice_get_within}
use Rattle.mb_world.specs.Data.{Data, cell_at, new_cell}
use Rattle.mb_world.specs.Graph.{Plain}
use Rattle.mb_world.specs.Objects.{new_thing}
use Rattle.mb_world.specs.Standard.{object_prototype}
use Rattle.mb_world.specs.Value.{Val}
use Rattle.std.specs.Prelude.{None}
use Rattle.mb_world.specs.declared.cell.CellKind.TheVariants as kind
use Rattle.mb_frames.proofs.Made.{IsLast, constructor-prototypes, constructor-went, first-there, made-last}
use Rattle.mb_frames.proofs.Putting.{no-prototype, no-constructor}
use Rattle.std.specs.Prelude.{[], codes, false, true}
use Rattle.mb_base.specs.declared.value.Value.TheVariants as v
use Rattle.mb_desc.specs.declared.descriptor.Full.TheVariants.{Datum}
use Rattle.mb_frames.proofs.Constructing.{are-apart, function-open, new-open, open-other, plain-second, plain-third}
use Rattle.mb_frames.proofs.Halting.{halted-changed, halted-same}
use Rattle.mb_frames.specs.Keeping.{none_held}
use Rattle.mb_frames.proofs.functions.make_constructor.Goals as goal

pub put-requires-clause-name : goal.put-requires-clause-name
put-requires-clause-name c = no-prototype

pub put-requires-2-clause-name : goal.put-requires-2-clause-name
put-requires-2-clause-name c = no-constructor

-- the new object, which is its prototype
prototype : (c : goal.In_ok-put-2)
    → IsLast c.args.w.now c.make.new.self c.in_ok-made.made (new_thing c.args.home.0 None Plain object_prototype)
prototype c =
    let d : Data = c.args.w.now in
    let home : c.args.home.0 < 8 = omega (arith, c.requires.world.sides, c.requires.world.takes_part) in
    subst (λ (x : Val). IsLast d c.make.new.self c.in_ok-made.made (new_thing c.args.home.0 None Plain x))
    c.built_in-prototype.ensures.value
    (made-last d c.make.new.self c.args.home kind.Plain c.built_in-prototype.result None c.in_ok-made.made
    c.requires.world.ids refl refl c.in_ok-made.ensures.made c.in_ok-made.ensures.id home tt
    c.built_in-prototype.ensures.ids tt)

-- the function stands where it stood
stays : (c : goal.In_ok-put-2) → cell_at c.make.new.self c.args.function ≡ Some c.requires.function.cell
stays c =
    let d : Data = c.args.w.now in
    subst (λ (x : Data). cell_at x c.args.function ≡ Some c.requires.function.cell) (sym c.in_ok-made.ensures.made)
    (first-there d.cells (new_cell d.texts c.args.home kind.Plain c.built_in-prototype.result None) c.requires.function.cell
    c.args.function.0 c.requires.function.there)

apart : (c : goal.In_ok-put-2) → c.args.function.0 ≡ c.in_ok-made.made.0 → ⊥
apart c e =
    omega (
      arith,
      e,
      c.in_ok-made.ensures.id,
      slice_get_within c.args.w.now.cells c.args.function.0 c.requires.function.cell c.requires.function.there,
    )

pub returns-clause-makes : goal.returns-clause-makes
returns-clause-makes c id e =
    rw e
    (constructor-went c.args.w.now c.make.new.self c.put.new.w c.put-2.new.w c.args.home c.args.function c.in_ok-made.made
    c.requires.function (stays c) (apart c) c.texts-made.ensures.ids c.put.ensures.ids (prototype c)
    c.in_ok-put.ensures.puts c.in_ok-put-2.ensures.puts no-prototype no-constructor)

pub returns-clause-built_ins : goal.returns-clause-built_ins
returns-clause-built_ins c =
    constructor-prototypes c.args.w.now c.make.new.self c.put.new.w c.put-2.new.w c.args.home c.args.function
    c.in_ok-made.made c.requires.function (stays c) (apart c) c.texts-made.ensures.ids c.put.ensures.ids (prototype c)
    c.in_ok-put.ensures.puts c.in_ok-put-2.ensures.puts no-prototype no-constructor c.args.home c.requires.built_ins

pub returns-in_err-made-clause-keeps : goal.returns-in_err-made-clause-keeps
returns-in_err-made-clause-keeps c =
    halted-same c.args.home [] none_held c.from_residual.result c.from_residual.ensures.0 c.args.w.now c.make.new.self
    c.in_err-made.ensures.kept

pub returns-in_err-put-clause-keeps : goal.returns-in_err-put-clause-keeps
returns-in_err-put-clause-keeps c =
    halted-changed c.args.home [] none_held c.from_residual-in_err-put.result c.from_residual-in_err-put.ensures.0
    c.args.w.now c.put.new.w
    (λ r inside held.
    plain-second c.args.w.now c.make.new.self c.args.home c.args.function c.in_ok-made.made c.built_in-prototype.result
    c.requires.function c.built_in-prototype.ensures.held c.in_ok-made.ensures.made c.in_ok-made.ensures.id
    r inside c.put.new.w c.put.result
    (c.put.ensures.keeps c.args.home (function-open c.args.w.now c.make.new.self c.args.home c.args.function c.in_ok-made.made c.built_in-prototype.result
    c.requires.function c.built_in-prototype.ensures.held c.in_ok-made.ensures.made c.in_ok-made.ensures.id)))

pub returns-in_err-put-2-clause-keeps : goal.returns-in_err-put-2-clause-keeps
returns-in_err-put-2-clause-keeps c =
    halted-changed c.args.home [] none_held c.from_residual-in_err-put-2.result c.from_residual-in_err-put-2.ensures.0
    c.args.w.now c.put-2.new.w
    (λ r inside held.
    plain-third c.args.w.now c.make.new.self c.args.home c.args.function c.in_ok-made.made c.built_in-prototype.result
    c.requires.function c.built_in-prototype.ensures.held c.in_ok-made.ensures.made c.in_ok-made.ensures.id
    r inside c.put.new.w c.put.result
    (c.put.ensures.keeps c.args.home (function-open c.args.w.now c.make.new.self c.args.home c.args.function c.in_ok-made.made c.built_in-prototype.result
    c.requires.function c.built_in-prototype.ensures.held c.in_ok-made.ensures.made c.in_ok-made.ensures.id))
    c.put-2.new.w c.put-2.result
    (c.put-2.ensures.keeps c.args.home
    (open-other c.make.new.self c.put.new.w c.args.home c.in_ok-made.made c.args.function (codes "prototype")
    (Datum (v.Object c.in_ok-made.made) true false false)
    (new-open c.args.w.now c.make.new.self c.args.home c.args.function c.in_ok-made.made c.built_in-prototype.result
    c.requires.function c.built_in-prototype.ensures.held c.in_ok-made.ensures.made c.in_ok-made.ensures.id)
    (function-open c.args.w.now c.make.new.self c.args.home c.args.function c.in_ok-made.made c.built_in-prototype.result
    c.requires.function c.built_in-prototype.ensures.held c.in_ok-made.ensures.made c.in_ok-made.ensures.id)
    (are-apart c.args.w.now c.make.new.self c.args.home c.args.function c.in_ok-made.made c.built_in-prototype.result
    c.requires.function c.built_in-prototype.ensures.held c.in_ok-made.ensures.made c.in_ok-made.ensures.id)
    c.in_ok-put.ensures.puts)))

pub returns-clause-keeps : goal.returns-clause-keeps
returns-clause-keeps c r inside held = record {
  changed = plain-third c.args.w.now c.make.new.self c.args.home c.args.function c.in_ok-made.made c.built_in-prototype.result
      c.requires.function c.built_in-prototype.ensures.held c.in_ok-made.ensures.made c.in_ok-made.ensures.id
      r inside c.put.new.w c.put.result
      (c.put.ensures.keeps c.args.home (function-open c.args.w.now c.make.new.self c.args.home c.args.function c.in_ok-made.made c.built_in-prototype.result
      c.requires.function c.built_in-prototype.ensures.held c.in_ok-made.ensures.made c.in_ok-made.ensures.id))
      c.put-2.new.w c.put-2.result
      (c.put-2.ensures.keeps c.args.home
      (open-other c.make.new.self c.put.new.w c.args.home c.in_ok-made.made c.args.function (codes "prototype")
      (Datum (v.Object c.in_ok-made.made) true false false)
      (new-open c.args.w.now c.make.new.self c.args.home c.args.function c.in_ok-made.made c.built_in-prototype.result
      c.requires.function c.built_in-prototype.ensures.held c.in_ok-made.ensures.made c.in_ok-made.ensures.id)
      (function-open c.args.w.now c.make.new.self c.args.home c.args.function c.in_ok-made.made c.built_in-prototype.result
      c.requires.function c.built_in-prototype.ensures.held c.in_ok-made.ensures.made c.in_ok-made.ensures.id)
      (are-apart c.args.w.now c.make.new.self c.args.home c.args.function c.in_ok-made.made c.built_in-prototype.result
      c.requires.function c.built_in-prototype.ensures.held c.in_ok-made.ensures.made c.in_ok-made.ensures.id)
      c.in_ok-put.ensures.puts));
  holds = tt;
}
