use Rattle.std.proofs.Common.{sym, ◌∙◌}
use Rattle.mb_engine.proofs.Places.{array-is, basic-is, proxy-is, reflect-is}
use Rattle.mb_engine.proofs.owners.owner_of_built_in.Goals as goal

pub returns-then-is_basic : goal.returns-then-is_basic
returns-then-is_basic c = λ this target arguments d home.
    sym (basic-is c.args.place) ∙ sym c.is_basic.ensures ∙ c.if-is_basic.true

pub returns-then-is_reflecting : goal.returns-then-is_reflecting
returns-then-is_reflecting c = λ this target arguments d home.
    sym (reflect-is c.args.place) ∙ sym c.is_reflecting.ensures ∙ c.if-is_reflecting.true

pub returns-then-is_of_arrays : goal.returns-then-is_of_arrays
returns-then-is_of_arrays c = λ this target arguments d home.
    sym (array-is c.args.place) ∙ sym c.is_of_arrays.ensures ∙ c.if-is_of_arrays.true

pub returns-then-makes_proxies : goal.returns-then-makes_proxies
returns-then-makes_proxies c = λ this target arguments d home.
    sym (proxy-is c.args.place) ∙ sym c.makes_proxies.ensures ∙ c.if-makes_proxies.true
