use Rattle.std.proofs.Common.{sym, ◌∙◌}
use Rattle.std.proofs.lemmas.Result.{err_from_is_err_and}
use Rattle.mb_call.proofs.KeyRows.{Part-listed, Part-twice, keeps-listed}
use Rattle.mb_call.proofs.lists.keys_listed.Goals as goal
use Rattle.mb_frames.proofs.Keeping.{inside-still, keeps-halted, keeps-then}
use Rattle.mb_frames.specs.Ready.{Changed}
use Rattle.mb_frames.specs.Sorts.{SomeKeys}
use Rattle.mb_parts.proofs.Texting.{texts-changed}

pub type_error-requires : goal.type_error-requires
type_error-requires c =
    let d = c.args.w.now in
    let g : Changed c.args.home d c.keys_in.new.w
    = texts-changed c.args.home d c.keys_in.new.w c.in_ok-keys.ensures.grew c.requires.acts.ready in
    record { ready = g.ready; side = inside-still c.args.home d c.keys_in.new.w g c.requires.acts.side }

pub returns-then-not-distinct-clause-part : goal.returns-then-not-distinct-clause-part
returns-then-not-distinct-clause-part c = λ f.
    let d' = c.keys_in.new.w in
    let k = c.in_ok-keys.ensures in
    Part-twice c.args.home c.args.w.now d' f k.grew c.args.target c.requires.acts.holds.0.within _
    c.in_ok-keys.keys.items k.within k.keys c.type_error.result c.type_error.new.w
    (sym ((rw c.deref.ensures.value at c.in_ok-distinct.ensures) d' c.texts-texts.ensures.distinct k.within)
    ∙ c.if-not-distinct.true)
    (c.type_error.ensures.part f)

pub returns-then-not-distinct-clause-keeps : goal.returns-then-not-distinct-clause-keeps
returns-then-not-distinct-clause-keeps c =
    let d = c.args.w.now in
    keeps-then c.args.home SomeKeys c.type_error.result d c.keys_in.new.w c.type_error.new.w
    (texts-changed c.args.home d c.keys_in.new.w c.in_ok-keys.ensures.grew c.requires.acts.ready)
    (c.type_error.ensures.keeps SomeKeys)

pub returns-clause-part : goal.returns-clause-part
returns-clause-part c = λ f.
    let d' = c.keys_in.new.w in
    let k = c.in_ok-keys.ensures in
    rw (c.asks.ensures, c.from-said.ensures)
    (Part-listed c.args.home c.args.w.now d' f k.grew c.args.target c.requires.acts.holds.0.within _
    c.in_ok-keys.keys.items k.within k.keys
    (sym ((rw c.deref.ensures.value at c.in_ok-distinct.ensures) d' c.texts-texts.ensures.distinct k.within)
    ∙ c.if-not-distinct.false))

pub returns-clause-keeps : goal.returns-clause-keeps
returns-clause-keeps c =
    let k = c.in_ok-keys.ensures in
    rw (c.asks.ensures, c.from-said.ensures)
    (keeps-listed c.args.home c.args.w.now c.keys_in.new.w k.grew c.args.target c.in_ok-keys.keys.items k.within
    c.requires.acts.ready c.requires.acts.holds.0)

pub returns-in_err-keys-clause-keeps : goal.returns-in_err-keys-clause-keeps
returns-in_err-keys-clause-keeps c =
    let d = c.args.w.now in
    let p = err_from_is_err_and c.from_residual.result c.from_residual.ensures.1 in
    rw p.1
    (keeps-halted c.args.home SomeKeys p.0 d c.keys_in.new.w
    (texts-changed c.args.home d c.keys_in.new.w c.in_err-keys.ensures.grew c.requires.acts.ready))

pub returns-in_err-distinct-clause-keeps : goal.returns-in_err-distinct-clause-keeps
returns-in_err-distinct-clause-keeps c =
    let d = c.args.w.now in
    let p = err_from_is_err_and c.from_residual-in_err-distinct.result c.from_residual-in_err-distinct.ensures.1 in
    rw p.1
    (keeps-halted c.args.home SomeKeys p.0 d c.keys_in.new.w
    (texts-changed c.args.home d c.keys_in.new.w c.in_ok-keys.ensures.grew c.requires.acts.ready))
