use Rattle.mb_frames.specs.Sorts.{AValue}
use Rattle.mb_scriptproxy.proofs.Creating.{gives-object, no-undefined}
use Rattle.mb_scriptproxy.proofs.making.proxy_fn.Goals as goal
use Rattle.mb_world.specs.Image.{names_of}

pub returns-in-Undefined-clause-part : goal.returns-in-Undefined-clause-part
returns-in-Undefined-clause-part c = λ f. rw c.in-Undefined.is (c.type_error.ensures.part f)

pub returns-in-Undefined-clause-keeps : goal.returns-in-Undefined-clause-keeps
returns-in-Undefined-clause-keeps c = rw c.in-Undefined.is (c.type_error.ensures.keeps AValue)

pub returns-in_default-clause-part : goal.returns-in_default-clause-part
returns-in_default-clause-part c = λ f.
    rw (no-undefined (names_of c.args.w.now) c.args.target c.in_default.not-Undefined)
    (c.construct_proxy.ensures.part f)

pub returns-in_default-clause-keeps : goal.returns-in_default-clause-keeps
returns-in_default-clause-keeps c =
    rw (gives-object c.args.target c.in_default.not-Undefined) c.construct_proxy.ensures.keeps
