use Rattle.std.proofs.Common.{◌≡◌, ◌∙◌, ap, refl, subst, ◌<◌, arith}
use Rattle.std.specs.Prelude.{codes, false, true}
use Rattle.mb_base.specs.declared.value.Value.{Value}
use Rattle.mb_desc.specs.declared.descriptor.Full.{Full}
use Rattle.mb_desc.specs.declared.descriptor.Full.TheVariants.{Datum}
use Rattle.mb_frames.specs.Resolved.{label_in}
use Rattle.mb_model.specs.Operations.Makings.{function_thing}
use Rattle.mb_world.specs.Data.{Data}
use Rattle.mb_world.specs.Image.{code_in, names_of, text_in}
use Rattle.mb_world.specs.declared.cell.CellKind.TheVariants as kind
use Rattle.mb_frames.proofs.Made.{IsLast, bare-made, last-went, made-last}
use Rattle.mb_frames.proofs.Putting.{no-length, no-name}
use Rattle.mb_frames.specs.Making.{Put}
use Rattle.std.specs.Prelude.{pos}
use Rattle.mb_base.specs.declared.value.Value.TheVariants as v
use Rattle.mb_desc.specs.Descriptors.{is_configurable}
use Rattle.mb_frames.proofs.Constructing.{bare-held, bare-second, bare-third, made-open}
use Rattle.mb_frames.proofs.Halting.{halted-changed, halted-same}
use Rattle.mb_frames.specs.Making.{IsOpen, code_held, function_held}
use Rattle.mb_frames.proofs.functions.bare_function.Goals as goal

-- the function stands last, with its two properties
last : (c : goal.In_ok-put-2) → IsLast c.args.w.now c.put-2.new.w c.in_ok-function.function
    (function_thing c.args.code.side.0 (label_in (names_of c.args.w.now) c.args.label)
    (code_in (names_of c.args.w.now) c.args.code) c.args.params (text_in (names_of c.args.w.now) c.args.name))
last c =
    let d : Data = c.args.w.now in
    let r = c.requires in
    let home : c.args.code.side.0 < 8 = omega (arith, r.world.sides, r.world.takes_part) in
    let function = c.in_ok-function.function in
    let first = c.fixed_value.ensures ∙ ap (λ (x : Value). Datum x false false true) c.whole.ensures in
    let second = c.fixed_value-2.ensures in
    bare-made d c.make.new.self c.put.new.w c.put-2.new.w c.args.code c.args.label c.args.params c.args.name
    c.built_in-prototype.result function c.texts-made.ensures.ids c.put.ensures.ids r.name
    c.built_in-prototype.ensures.value
    (made-last d c.make.new.self c.args.code.side (kind.Function c.args.code) c.built_in-prototype.result c.args.label function
    r.world.ids refl refl c.in_ok-function.ensures.made c.in_ok-function.ensures.id home (r.scope, r.this)
    c.built_in-prototype.ensures.ids r.label)
    (subst (λ (x : Full Value). Put c.make.new.self c.put.new.w function (codes "length") x) first c.in_ok-put.ensures.puts)
    (subst (λ (x : Full Value). Put c.put.new.w c.put-2.new.w function (codes "name") x) second c.in_ok-put-2.ensures.puts)
    no-length no-name

pub put-requires-clause-name : goal.put-requires-clause-name
put-requires-clause-name c = no-length

pub put-requires-2-clause-name : goal.put-requires-2-clause-name
put-requires-2-clause-name c = no-name

pub returns-clause-makes : goal.returns-clause-makes
returns-clause-makes c =
    let d : Data = c.args.w.now in
    last-went d c.put-2.new.w c.in_ok-function.function
    (function_thing c.args.code.side.0 (label_in (names_of d) c.args.label) (code_in (names_of d) c.args.code) c.args.params
    (text_in (names_of d) c.args.name))
    (last c)

pub returns-in_err-function-clause-keeps : goal.returns-in_err-function-clause-keeps
returns-in_err-function-clause-keeps c =
    halted-same c.args.code.side (code_held c.args.code c.args.label c.args.name) function_held
    c.from_residual.result c.from_residual.ensures.0 c.args.w.now c.make.new.self
    c.in_err-function.ensures.kept

pub returns-in_err-put-clause-keeps : goal.returns-in_err-put-clause-keeps
returns-in_err-put-clause-keeps c =
    halted-changed c.args.code.side (code_held c.args.code c.args.label c.args.name) function_held
    c.from_residual-in_err-put.result c.from_residual-in_err-put.ensures.0 c.args.w.now c.put.new.w
    (λ r inside held.
    bare-second c.args.w.now c.make.new.self c.args.code c.args.label c.args.params c.args.name
    c.built_in-prototype.result c.in_ok-function.function c.built_in-prototype.ensures.held
    c.in_ok-function.ensures.made c.in_ok-function.ensures.id r inside held
    c.put.new.w c.fixed_value.result
    (c.fixed_value.ensures ∙ ap (λ (x : Value). Datum x false false true) c.whole.ensures)
    c.requires.params c.put.result
    (c.put.ensures.keeps c.args.code.side
    (made-open c.args.w.now c.make.new.self c.args.code.side (kind.Function c.args.code) c.built_in-prototype.result
    c.args.label c.in_ok-function.function refl refl c.in_ok-function.ensures.made c.in_ok-function.ensures.id)))

pub returns-in_err-put-2-clause-keeps : goal.returns-in_err-put-2-clause-keeps
returns-in_err-put-2-clause-keeps c =
    halted-changed c.args.code.side (code_held c.args.code c.args.label c.args.name) function_held
    c.from_residual-in_err-put-2.result c.from_residual-in_err-put-2.ensures.0 c.args.w.now c.put-2.new.w
    (λ r inside held.
    bare-third c.args.w.now c.make.new.self c.args.code c.args.label c.args.params c.args.name
    c.built_in-prototype.result c.in_ok-function.function c.built_in-prototype.ensures.held
    c.in_ok-function.ensures.made c.in_ok-function.ensures.id r inside held
    c.put.new.w c.fixed_value.result
    (c.fixed_value.ensures ∙ ap (λ (x : Value). Datum x false false true) c.whole.ensures)
    c.requires.params c.put.result
    (c.put.ensures.keeps c.args.code.side
    (made-open c.args.w.now c.make.new.self c.args.code.side (kind.Function c.args.code) c.built_in-prototype.result
    c.args.label c.in_ok-function.function refl refl c.in_ok-function.ensures.made c.in_ok-function.ensures.id))
    c.put-2.new.w c.fixed_value-2.result c.fixed_value-2.ensures c.put-2.result
    (c.put-2.ensures.keeps c.args.code.side
    (c.in_ok-put.ensures.stays_open c.args.code.side
    (made-open c.args.w.now c.make.new.self c.args.code.side (kind.Function c.args.code) c.built_in-prototype.result
    c.args.label c.in_ok-function.function refl refl c.in_ok-function.ensures.made c.in_ok-function.ensures.id)
    (ap is_configurable (c.fixed_value.ensures ∙ ap (λ (x : Value). Datum x false false true) c.whole.ensures)))))

pub returns-clause-keeps : goal.returns-clause-keeps
returns-clause-keeps c r inside held =
    let o : IsOpen c.make.new.self c.args.code.side c.in_ok-function.function
    = (made-open c.args.w.now c.make.new.self c.args.code.side (kind.Function c.args.code) c.built_in-prototype.result
    c.args.label c.in_ok-function.function refl refl c.in_ok-function.ensures.made c.in_ok-function.ensures.id) in
    let x : c.fixed_value.result ≡ Datum (v.Whole (pos c.args.params)) false false true
    = (c.fixed_value.ensures ∙ ap (λ (x : Value). Datum x false false true) c.whole.ensures) in
    let p = c.put.ensures.keeps c.args.code.side o in
    let q = c.put-2.ensures.keeps c.args.code.side
    (c.in_ok-put.ensures.stays_open c.args.code.side o (ap is_configurable x)) in
    record {
      changed = bare-third c.args.w.now c.make.new.self c.args.code c.args.label c.args.params c.args.name
          c.built_in-prototype.result c.in_ok-function.function c.built_in-prototype.ensures.held
          c.in_ok-function.ensures.made c.in_ok-function.ensures.id r inside held
          c.put.new.w c.fixed_value.result x c.requires.params c.put.result p c.put-2.new.w c.fixed_value-2.result
          c.fixed_value-2.ensures c.put-2.result q;
      holds = bare-held c.args.w.now c.make.new.self c.args.code c.args.label c.args.params c.args.name
          c.built_in-prototype.result c.in_ok-function.function c.built_in-prototype.ensures.held
          c.in_ok-function.ensures.made c.in_ok-function.ensures.id r inside held
          c.put.new.w c.fixed_value.result x c.requires.params c.put.result p c.put-2.new.w c.fixed_value-2.result
          c.fixed_value-2.ensures c.put-2.result q;
    }

pub returns-clause-object : goal.returns-clause-object
returns-clause-object c =
    c.in_ok-put-2.ensures.stays_open c.args.code.side
    (c.in_ok-put.ensures.stays_open c.args.code.side
    (made-open c.args.w.now c.make.new.self c.args.code.side (kind.Function c.args.code) c.built_in-prototype.result
    c.args.label c.in_ok-function.function refl refl c.in_ok-function.ensures.made c.in_ok-function.ensures.id)
    (ap is_configurable (c.fixed_value.ensures ∙ ap (λ (x : Value). Datum x false false true) c.whole.ensures)))
    (ap is_configurable c.fixed_value-2.ensures)

pub returns-clause-built_ins : goal.returns-clause-built_ins
returns-clause-built_ins c = (last c).prototypes c.args.code.side c.requires.built_ins
