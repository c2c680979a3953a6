use Rattle.std.proofs.Common.{Ok}
use Rattle.mb_frames.proofs.HeldLess.{value-object}
use Rattle.mb_frames.specs.Held.{HeldObject}
use Rattle.mb_frames.specs.Sorts.{AValue}
use Rattle.mb_call.specs.Ours.{Acts}
use Rattle.mb_model.specs.Meaning.{finished}
use Rattle.mb_reflect.proofs.Doing.{Done, done-sure}
use Rattle.mb_reflect.proofs.Rows.{done-failed, done-test, is-object, not-object}
use Rattle.mb_reflect.proofs.asking.ask.Goals as goal
use Rattle.mb_reflect.specs.machine.Asking.{asked_rest, asked_row}
use Rattle.mb_world.specs.Image.{Resolve, names_of, object_in}
use Rattle.mb_world.specs.Value.{is_object}
use Rattle.std.proofs.Common.{ℕ, ◌∷◌, []}

pub returns-in-Object : goal.returns-in-Object
returns-in-Object c =
    let d = c.args.w.now in
    let home = c.args.home in
    let id = c.in-Object.object in
    let o = object_in (names_of d) id in
    let q = c.requires.acts in
    let a : Acts d home (HeldObject id ∷ []) = record {
      ready = q.ready;
      side = q.side;
      holds = (value-object d home id (rw c.in-Object.is at q.holds).0, tt);
    } in
    let h : (f : ℕ) → Done home AValue (Ok c.asks.result) d d f f (asked_row home.0 c.args.member o finished)
    = λ f. done-test home AValue (Ok c.asks.result) d d f f (is_object o) (λ z. asked_rest home.0 c.args.member o)
    (is-object (names_of d) id)
    (done-sure home AValue c.asks.result d f (asked_rest home.0 c.args.member o finished) q.ready
    (c.asks.ensures.sure d a) (c.asks.ensures.leaves d a)) in
    record { part = λ f. rw c.in-Object.is (h f).part; keeps = (h 0).keeps }

pub returns-in_default : goal.returns-in_default
returns-in_default c =
    let d = c.args.w.now in
    let home = c.args.home in
    let o = Resolve (names_of d) c.args.x in
    let e = c.type_error.ensures in
    let h : (f : ℕ) → Done home AValue c.type_error.result d c.type_error.new.w f f
    (asked_row home.0 c.args.member o finished)
    = λ f. done-failed home AValue c.type_error.result d c.type_error.new.w f f (is_object o)
    (λ z. asked_rest home.0 c.args.member o) (not-object (names_of d) c.args.x c.in_default.not-Object)
    (record { part = e.part f; keeps = e.keeps AValue }) in
    record { part = λ f. (h f).part; keeps = (h 0).keeps }
