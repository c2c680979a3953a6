use Rattle.std.proofs.Common.{None, [], refl, ◌∙◌}
use Rattle.mb_base.specs.declared.value.Value.{Value}
use Rattle.mb_parts.proofs.Fresh.{Acts-made, array-thing, made-of-kind, made-went}
use Rattle.mb_model.specs.Operations.Makings.{array_thing}
use Rattle.mb_world.proofs.AfterCalls.{of-made}
use Rattle.mb_world.proofs.Images.{value-grows}
use Rattle.mb_world.specs.Data.{Data, made}
use Rattle.mb_world.specs.Standard.{array_prototype}
use Rattle.mb_world.specs.declared.cell.CellKind.TheVariants.{Array}
use Rattle.std.proofs.lemmas.List.Elements.{All-nil}
use Rattle.mb_parts.proofs.Fresh.{bare-may}
use Rattle.mb_parts.specs.Keeping.{array_held}
use Rattle.mb_frames.proofs.Halting.{halted-same}
use Rattle.mb_frames.proofs.HeldAs.{made-held}
use Rattle.mb_frames.proofs.Renewing.{made-changed}
use Rattle.mb_world.specs.Contained.{IsOwn}
use Rattle.mb_world.specs.Formed.{InRange}
use Rattle.mb_parts.proofs.arrays.empty_array.Goals as goal

pub returns-clause-makes : goal.returns-clause-makes
returns-clause-makes c =
    let d = c.args.w.now in
    let proto : Value = c.built_in-prototype.result in
    let e : Data = made d c.args.home Array proto None in
    let g = (of-made d c.args.home Array proto None c.requires.ids refl).becomes.grows in
    made-went d c.make.new.self c.args.home Array proto None c.in_ok-array.array c.requires.ids refl
    c.in_ok-array.ensures.made
    c.in_ok-array.ensures.id (array_thing c.args.home.0 array_prototype 0 [])
    (array-thing d c.args.home proto array_prototype (value-grows d e g proto c.built_in-prototype.ensures.ids
    ∙ c.built_in-prototype.ensures.value))

pub returns-clause-array : goal.returns-clause-array
returns-clause-array c =
    made-of-kind c.args.w.now c.make.new.self c.args.home Array c.built_in-prototype.result None c.in_ok-array.array
    c.requires.ids refl
    c.in_ok-array.ensures.made c.in_ok-array.ensures.id

pub returns-clause-acts : goal.returns-clause-acts
returns-clause-acts c =
    Acts-made c.args.w.now c.make.new.self c.args.home Array c.built_in-prototype.result None c.in_ok-array.array
    c.requires.ids refl
    c.in_ok-array.ensures.made c.in_ok-array.ensures.id c.texts-texts.ensures.ids c.requires

pub returns-in_err-array-clause-keeps : goal.returns-in_err-array-clause-keeps
returns-in_err-array-clause-keeps c =
    halted-same c.args.home [] array_held c.from_residual.result c.from_residual.ensures.0 c.args.w.now c.make.new.self
    c.in_err-array.ensures.kept

pub returns-clause-keeps : goal.returns-clause-keeps
returns-clause-keeps c = λ r i h.
    let d = c.args.w.now in
    let home = c.args.home in
    let proto : Value = c.built_in-prototype.result in
    rw c.in_ok-array.ensures.made (record {
      changed = made-changed home d Array proto None r i
          (bare-may d home Array proto refl tt tt c.built_in-prototype.ensures.held (All-nil InRange)
          (λ u. All-nil (IsOwn d home)));
      holds = (
        (made-held d home Array proto None c.in_ok-array.array refl c.in_ok-array.ensures.id).array refl refl,
        tt,
      );
    })
