use Rattle.std.proofs.Common.{Option, Some, arith}
use Rattle.mb_base.specs.declared.value.StrId.{StrId}
use Rattle.mb_shadow.proofs.SmallWorlds.{IsBare, bare-empty, bare-text, bare-rules, bare-made, bare-can-see}
use Rattle.mb_shadow.proofs.tests.world.Goals as goal

pub returns : goal.returns
returns g c =
    let label : Option StrId = Some (record { 0 = 2 }) in
    let b0 : IsBare c.set_sides.new.self = bare-empty c.expect-w.result c.set_sides.new.self (rw c.expect-w.ensures at c.new.ensures) c.set_sides.ensures in
    let b1 : IsBare c.intern.new.self = bare-text c.set_sides.new.self c.intern.new.self _ b0 (rw c.expect.ensures at c.intern.ensures.texts) in
    let b2 : IsBare c.intern-2.new.self = bare-text c.intern.new.self c.intern-2.new.self _ b1 (rw c.expect-2.ensures at c.intern-2.ensures.texts) in
    let b3 : IsBare c.intern-3.new.self = bare-text c.intern-2.new.self c.intern-3.new.self _ b2 (rw c.expect-3.ensures at c.intern-3.ensures.texts) in
    let b4 : IsBare c.set_rules.new.self = bare-rules c.intern-3.new.self c.set_rules.new.self c.one_rule-rules.result b3 c.one_rule-rules.ensures.constants c.set_rules.ensures in
    let b5 : IsBare c.object.new.w = bare-made c.set_rules.new.self c.object.new.w _ _ label b4 (omega arith) tt c.object.ensures in
    let b6 : IsBare c.object-2.new.w = bare-made c.object.new.w c.object-2.new.w _ _ label b5 (omega arith) tt c.object-2.ensures in
    let b7 : IsBare c.object-3.new.w = bare-made c.object-2.new.w c.object-3.new.w _ _ label b6 (omega arith) tt c.object-3.ensures in
    let b8 : IsBare c.object-4.new.w = bare-made c.object-3.new.w c.object-4.new.w _ _ label b7 (omega arith) tt c.object-4.ensures in
    bare-can-see c.object-4.new.w b8 c.ids.ensures.distinct c.ids.ensures.ids
