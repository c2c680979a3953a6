use Rattle.std.proofs.Common.{List, [], ap, codes, true, ℕ, ◌≡◌}
use Rattle.std.proofs.lemmas.List.Elements.{All-head}
use Rattle.mb_base.specs.declared.value.ObjId.{ObjId}
use Rattle.mb_base.specs.declared.value.Value.TheVariants as v
use Rattle.mb_intrinsics.proofs.Homes.{desk-made, desk-stays, kept-cells, on-err}
use Rattle.mb_intrinsics.proofs.Naming.{id-below}
use Rattle.mb_intrinsics.specs.machine.Filling.{OnlyCells}
use Rattle.mb_text.specs.Texts.{has_text}
use Rattle.mb_intrinsics.proofs.desk.add_desk.Goals as goal

pub make-requires-clause-label : goal.make-requires-clause-label
make-requires-clause-label c =
    let there : has_text c.intern.new.w.texts (codes "desk") ≡ true =
    All-head (λ (t : List ℕ). has_text c.intern.new.w.texts t ≡ true) (codes "desk") []
    c.in_ok-label.ensures.gains.there in
    rw c.in_ok-label.ensures.id (id-below c.intern.new.w.texts (codes "desk") there)

pub returns-in_err-make-clause-halted : goal.returns-in_err-make-clause-halted
returns-in_err-make-clause-halted c =
    on-err c.from_residual-in_err-make.result (OnlyCells c.args.w.now c.make.new.self)
    (kept-cells c.args.w.now c.intern.new.w c.make.new.self
    (desk-stays c.args.w.now c.intern.new.w c.requires.texts c.in_ok-label.ensures.texts) c.in_err-make.ensures.kept)

pub returns-clause-added : goal.returns-clause-added
returns-clause-added c =
    desk-made c.args.w.now c.intern.new.w c.make.new.self c.in_ok-label.label (v.Object c.built_in_id.result)
    c.requires.texts c.in_ok-label.ensures.texts c.in_ok-label.ensures.id
    (ap (λ (o : ObjId). v.Object o) c.built_in_id.ensures) c.in_ok-make.ensures.made
