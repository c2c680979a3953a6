use Rattle.std.proofs.Common.{sym, ap, ◌∙◌}
use Rattle.mb_base.specs.declared.value.Value.TheVariants as v
use Rattle.mb_desc.specs.Validate.{Validate}
use Rattle.mb_desc.specs.Values.{equal}
use Rattle.mb_props.specs.Table.{found}
use Rattle.mb_world.specs.Ids.{Maybe, FullIn}
use Rattle.mb_ordinary.proofs.Cells.{defined-some, defined-none, found-in, maybe-in}
use Rattle.mb_ordinary.proofs.Accepting.{accepted-in}
use Rattle.mb_ordinary.proofs.changing.define.Goals as goal

pub put-requires-clause-full : goal.put-requires-clause-full
put-requires-clause-full c =
    let d = c.args.w.now in
    let cell = c.cell-cell.result.now in
    let within : Maybe (FullIn d) c.get.result = rw c.get.ensures.value (maybe-in d (found cell.props c.args.key) (found-in d cell.props c.args.key c.cell-cell.ensures.within.props_in)) in
    accepted-in d cell.extensible c.get.result c.args.desc c.in-Some.property within c.requires.desc (sym c.validate.ensures ∙ c.in-Some.is)

pub returns-in_ok-put-in-Some-clause-meant : goal.returns-in_ok-put-in-Some-clause-meant
returns-in_ok-put-in-Some-clause-meant c apart =
    let cell = c.cell-cell.result.now in
    let facts = c.cell-cell.ensures in
    defined-some c.args.w.now c.args.o cell facts.value facts.distinct facts.within c.args.key c.requires.key c.args.desc c.requires.desc apart c.in-Some.property c.put.new.self
    (ap (λ p. Validate equal v.Undefined cell.extensible p c.args.desc) (sym c.get.ensures.value) ∙ sym c.validate.ensures ∙ c.in-Some.is)
    c.in_ok-put-in-Some.ensures.put

pub returns-in-None-clause-meant : goal.returns-in-None-clause-meant
returns-in-None-clause-meant c apart =
    let cell = c.cell-cell.result.now in
    let facts = c.cell-cell.ensures in
    defined-none c.args.w.now c.args.o cell facts.value facts.distinct facts.within c.args.key c.requires.key c.args.desc c.requires.desc apart
    (ap (λ p. Validate equal v.Undefined cell.extensible p c.args.desc) (sym c.get.ensures.value) ∙ sym c.validate.ensures ∙ c.in-None.is)
