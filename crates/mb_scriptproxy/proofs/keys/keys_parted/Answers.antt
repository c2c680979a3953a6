use Rattle.std.proofs.Common.{Ok, subst, sym, ◌∙◌}
use Rattle.std.proofs.lemmas.Result.{err_from_is_err_and}
use Rattle.mb_check.specs.declared.verdict.Verdict.{Verdict}
use Rattle.mb_frames.proofs.Keeping.{keeps-halted, keeps-same}
use Rattle.mb_frames.proofs.Passed.{Part-sure}
use Rattle.mb_frames.proofs.Readying.{changed-same}
use Rattle.mb_frames.specs.Passing.{Part}
use Rattle.mb_frames.specs.Resolved.{keys_of}
use Rattle.mb_frames.specs.Sorts.{SomeKeys}
use Rattle.mb_model.specs.Meaning.{finished}
use Rattle.mb_model.specs.Objects.Proxies.{judge}
use Rattle.mb_model.specs.Task.{Keys}
use Rattle.mb_scriptproxy.proofs.Parted.{Sure-next, keys-there, leaves-next, none-left}
use Rattle.mb_scriptproxy.proofs.keys.keys_parted.Goals as goal
use Rattle.mb_world.specs.Image.{names_of}

-- ---- a key is left

pub returns-in_ok-frame-in-Some-clause-part : goal.returns-in_ok-frame-in-Some-clause-part
returns-in_ok-frame-in-Some-clause-part c = λ f.
    let d = c.args.w.now in
    rw (c.asks.ensures, c.in_ok-frame-in-Some.ensures)
    (Part-sure c.args.home d f _ _
    (Sure-next c.args.home d c.args.target c.args.at c.requires.acts.holds c.in-Some.key
    (sym c.key_at.ensures ∙ c.in-Some.is)))

pub returns-in_ok-frame-in-Some-clause-keeps : goal.returns-in_ok-frame-in-Some-clause-keeps
returns-in_ok-frame-in-Some-clause-keeps c =
    let d = c.args.w.now in
    rw (c.asks.ensures, c.in_ok-frame-in-Some.ensures)
    (keeps-same c.args.home SomeKeys (Ok _) d c.requires.acts.ready
    (leaves-next c.args.home d c.args.target c.args.at c.requires.acts.holds c.in-Some.key
    (sym c.key_at.ensures ∙ c.in-Some.is)))

pub returns-in_err-frame-in-Some-clause-keeps : goal.returns-in_err-frame-in-Some-clause-keeps
returns-in_err-frame-in-Some-clause-keeps c =
    let d = c.args.w.now in
    let q = err_from_is_err_and c.from_residual.result c.from_residual.ensures.1 in
    rw q.1 (keeps-halted c.args.home SomeKeys q.0 d d (changed-same c.args.home d c.requires.acts.ready))

-- ---- none is left

pub returns-in_ok-verdict-in-None-clause-part : goal.returns-in_ok-verdict-in-None-clause-part
returns-in_ok-verdict-in-None-clause-part c = λ f.
    let d = c.args.w.now in
    let home = c.args.home in
    let at = c.args.at in
    let h = c.requires.acts.holds in
    rw (none-left home d c.args.target at (sym c.key_at.ensures ∙ c.in-None.is))
    (subst (λ (z : Verdict). Part home c.judged.result d c.judged.new.w f f
    (judge home.0 z (Keys (keys_of (names_of d) at.said)) finished))
    (c.in_ok-verdict-in-None.ensures d c.texts-texts.ensures.distinct (keys-there home d c.args.target at h))
    (c.judged.ensures.part f))

pub returns-in_ok-verdict-in-None-clause-keeps : goal.returns-in_ok-verdict-in-None-clause-keeps
returns-in_ok-verdict-in-None-clause-keeps c = c.judged.ensures.keeps SomeKeys (λ e. tt)

pub returns-in_err-verdict-in-None-clause-keeps : goal.returns-in_err-verdict-in-None-clause-keeps
returns-in_err-verdict-in-None-clause-keeps c =
    let d = c.args.w.now in
    let q = err_from_is_err_and c.from_residual-in_err-verdict-in-None.result
    c.from_residual-in_err-verdict-in-None.ensures.1 in
    rw q.1 (keeps-halted c.args.home SomeKeys q.0 d d (changed-same c.args.home d c.requires.acts.ready))
