use Rattle.std.proofs.Common.{false, refl, sym, true, ◌∙◌}
use Rattle.mb_frames.proofs.Apartness.{object-real}
use Rattle.mb_scriptproxy.proofs.Targets.{shape-is}
use Rattle.mb_scriptproxy.proofs.making.shape_of.Goals as goal
use Rattle.mb_world.specs.Image.{Image, names_of, object_in}
use Rattle.mb_world.specs.Objects.{kind_calls, kind_constructs, thing_at, thing_is}

pub is_array-requires-clause-real : goal.is_array-requires-clause-real
is_array-requires-clause-real c =
    let a = c.requires.acts in
    object-real c.args.w.now a.ready c.args.home c.args.target a.holds.0

pub constructor-requires-clause-real : goal.constructor-requires-clause-real
constructor-requires-clause-real c =
    let a = c.requires.acts in
    object-real c.args.w.now a.ready c.args.home c.args.target a.holds.0

pub callable-requires-clause-real : goal.callable-requires-clause-real
callable-requires-clause-real c =
    let a = c.requires.acts in
    object-real c.args.w.now a.ready c.args.home c.args.target a.holds.0

pub returns-then-is_array : goal.returns-then-is_array
returns-then-is_array c = λ log.
    let d = c.args.w.now in
    let o = thing_at (Image d log) (object_in (names_of d) c.args.target) in
    shape-is o true (thing_is kind_constructs o) (thing_is kind_calls o) (c.requires.able log)
    (c.is_array.ensures log ∙ c.if-is_array.true) refl refl

pub returns-then-is_some : goal.returns-then-is_some
returns-then-is_some c = λ log.
    let d = c.args.w.now in
    let o = thing_at (Image d log) (object_in (names_of d) c.args.target) in
    shape-is o false true (thing_is kind_calls o) (c.requires.able log) (c.is_array.ensures log ∙ c.if-is_array.false)
    (c.constructor.ensures.constructs log ∙ sym c.is_some.ensures ∙ c.if-is_some.true) refl

pub returns-then-is_some-2 : goal.returns-then-is_some-2
returns-then-is_some-2 c = λ log.
    let d = c.args.w.now in
    let o = thing_at (Image d log) (object_in (names_of d) c.args.target) in
    shape-is o false false true (c.requires.able log) (c.is_array.ensures log ∙ c.if-is_array.false)
    (c.constructor.ensures.constructs log ∙ sym c.is_some.ensures ∙ c.if-is_some.false)
    (c.callable.ensures.calls log ∙ sym c.is_some-else-is_some.ensures ∙ c.if-is_some-2.true)

pub returns-else-is_some-2 : goal.returns-else-is_some-2
returns-else-is_some-2 c = λ log.
    let d = c.args.w.now in
    let o = thing_at (Image d log) (object_in (names_of d) c.args.target) in
    shape-is o false false false (c.requires.able log) (c.is_array.ensures log ∙ c.if-is_array.false)
    (c.constructor.ensures.constructs log ∙ sym c.is_some.ensures ∙ c.if-is_some.false)
    (c.callable.ensures.calls log ∙ sym c.is_some-else-is_some.ensures ∙ c.if-is_some-2.false)
