use Rattle.std.proofs.Common.{of_z, rules, to_z, w64, ◌≡◌}
use Rattle.mb_arrayapi.proofs.constructing.array_length.Goals as goal

pub returns-in-Some : goal.returns-in-Some
returns-in-Some c = λ n s p.
    let z : to_z w64 (of_z w64 c.in-Some.n) ≡ c.in-Some.n = search rules in
    rw (rw c.in-Some.is at c.length_in.ensures.some) (rw z at (c.as_length.ensures s p))

pub returns-in-None : goal.returns-in-None
returns-in-None c = λ n s p. c.length_in.ensures.none c.in-None.is n s p
