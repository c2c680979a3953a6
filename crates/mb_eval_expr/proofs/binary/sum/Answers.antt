use Rattle.std.proofs.Common.{of_z, refl, rules, to_z, w64, ◌+ℤ◌, ◌≡◌}
use Rattle.mb_eval_expr.proofs.Joining.{Computes-by, sum-right}
use Rattle.mb_model.specs.Nodes.BinaryOperators.{joined, sum}
use Rattle.mb_model.specs.Task.{Answer}
use Rattle.mb_model.specs.Writing.{Does}
use Rattle.mb_world.specs.Image.{Resolve, names_of, text_in}
use Rattle.mb_world.specs.Value.{Whole}
use Rattle.mb_eval_expr.proofs.binary.sum.Goals as goal

pub returns-in-Whole-b-clause-row : goal.returns-in-Whole-b-clause-row
returns-in-Whole-b-clause-row c = λ home.
    let ra : to_z w64 (of_z w64 c.in-Whole.x) ≡ c.in-Whole.x = search rules in
    let rb : to_z w64 (of_z w64 c.in-Whole-b.y) ≡ c.in-Whole-b.y = search rules in
    rw (c.in-Whole.is, c.in-Whole-b.is) (c.whole.ensures.row home c.args.w.now c.args.fuel.now
    (c.in-Whole.x +ℤ c.in-Whole-b.y)
    (rw (ra, rb) at c.checked_add.ensures))

pub returns-in-Text-clause-row : goal.returns-in-Text-clause-row
returns-in-Text-clause-row c = λ home.
    let d = c.args.w.now in
    let n = names_of d in
    let p : Does Answer = sum home (Resolve n c.args.a) (Resolve n c.args.b) in
    let q : Does Answer = joined home (Resolve n c.args.a) (Resolve n c.args.b) in
    let e : p ≡ q = rw c.in-Text.is refl in
    Computes-by c.joined-in-Text.result home d c.joined-in-Text.new.w c.args.fuel.now c.joined-in-Text.new.fuel p q e
    (c.joined-in-Text.ensures.row home)

pub returns-in-Text-b-clause-row : goal.returns-in-Text-b-clause-row
returns-in-Text-b-clause-row c = λ home.
    let d = c.args.w.now in
    let n = names_of d in
    let p : Does Answer = sum home (Resolve n c.args.a) (Resolve n c.args.b) in
    let q : Does Answer = joined home (Whole c.in-Whole.x) (Resolve n c.args.b) in
    let e : p ≡ q = rw (c.in-Whole.is, c.in-Text-b.is) refl in
    Computes-by c.joined.result home d c.joined.new.w c.args.fuel.now c.joined.new.fuel p q e
    (c.joined.ensures.row home)

pub returns-in-Text-b-2-clause-row : goal.returns-in-Text-b-2-clause-row
returns-in-Text-b-2-clause-row c = λ home.
    let d = c.args.w.now in
    let n = names_of d in
    let p : Does Answer = sum home (Resolve n c.args.a) (Resolve n c.args.b) in
    let q : Does Answer = joined home (Resolve n c.args.a) (Resolve n c.args.b) in
    let e : p ≡ q = rw c.in-Text-b-2.is (sum-right home (Resolve n c.args.a) (text_in n c.in-Text-b-2.field-0)) in
    Computes-by c.joined-in-Text-b-2.result home d c.joined-in-Text-b-2.new.w c.args.fuel.now
    c.joined-in-Text-b-2.new.fuel p q e
    (c.joined-in-Text-b-2.ensures.row home)
