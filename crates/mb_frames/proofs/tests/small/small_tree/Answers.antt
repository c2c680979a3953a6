use Rattle.std.proofs.Common.{◌∷◌, ◌≡◌, Ok, Result, List, [], ap, arith, length, refl, ℕ}
use Rattle.std.specs.Prelude.{OnOk}
use Rattle.mb_base.specs.declared.NoMemory.{NoMemory}
use Rattle.mb_base.specs.declared.value.NodeId.{NodeId}
use Rattle.mb_base.specs.declared.value.StrId.{StrId}
use Rattle.mb_tree.specs.Roses.{id_of}
use Rattle.mb_frames.proofs.tests.small.small_tree.Goals as goal

was : {P : Type 0} (r : Result (Unit {0}) NoMemory) (u : Unit {0}) → r ≡ Ok u → OnOk r P → P
was r u e h = rw e at h

pub build-requires-2 : goal.build-requires-2
build-requires-2 g c =
    let q = was _ _ c.expect.ensures (c.build.ensures.built [] [] c.new-operands.ensures.items refl) in
    omega (arith, c.build.new.operands.ok.0, ap (λ (is : List NodeId). length is) q.0)

pub build-requires-4 : goal.build-requires-4
build-requires-4 g c =
    let q = was _ _ c.expect.ensures (c.build.ensures.built [] [] c.new-operands.ensures.items refl) in
    let r = was _ _ c.expect-2.ensures (c.build-2.ensures.built [] (id_of _ ∷ []) q.0 refl) in
    let s = was _ _ c.expect-3.ensures (c.build-3.ensures.built (id_of _ ∷ []) [] r.0 refl) in
    omega (arith, c.build-3.new.operands.ok.0, ap (λ (is : List NodeId). length is) s.0)

pub returns : goal.returns
returns g c a e =
    let q = was _ _ c.expect.ensures (c.build.ensures.built [] [] c.new-operands.ensures.items refl) in
    let r = was _ _ c.expect-2.ensures (c.build-2.ensures.built [] (id_of _ ∷ []) q.0 refl) in
    let s = was _ _ c.expect-3.ensures (c.build-3.ensures.built (id_of _ ∷ []) [] r.0 refl) in
    let t = was _ _ c.expect-4.ensures (c.build-4.ensures.built [] (id_of _ ∷ id_of _ ∷ []) s.0 refl) in
    let z : a ≡ record { 0 = 0 } = ap (λ (n : ℕ). let y : StrId = record { 0 = n } in y) e in
    rw (t.1, s.1, r.1, q.1, c.new.ensures.items, z, c.named.ensures, c.named-2.ensures, c.bare.ensures, c.bare-2.ensures)
    refl
