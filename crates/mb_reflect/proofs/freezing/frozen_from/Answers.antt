use Rattle.std.proofs.Common.{◌+◌, [], List, Ok, drop, refl, true}
use Rattle.std.proofs.lemmas.Result.{err_from_is_err_and}
use Rattle.mb_base.specs.declared.value.Key.{Key}
use Rattle.mb_base.specs.declared.value.ObjId.{ObjId}
use Rattle.mb_base.specs.declared.value.Side.{Side}
use Rattle.mb_base.specs.declared.value.Value.TheVariants as v
use Rattle.mb_frames.proofs.HeldLess.{flag-held}
use Rattle.mb_frames.specs.Resolved.{keys_of}
use Rattle.mb_frames.specs.Sorts.{AValue}
use Rattle.mb_frames.specs.declared.reflecting.ReflectFrame.TheVariants as r
use Rattle.mb_frames.specs.declared.task.Method.TheVariants as m
use Rattle.mb_model.specs.BuiltIns.ObjectMembers.{frozen_key, frozen_keys}
use Rattle.mb_model.specs.Meaning.{finished}
use Rattle.mb_model.specs.Task.{GetOwnProperty}
use Rattle.mb_model.specs.Writing.{◌>>=◌, Row, perform, property}
use Rattle.mb_reflect.proofs.Doing.{asked, done-asked, done-value, given, halted, keeps-asked, keeps-given}
use Rattle.mb_reflect.proofs.Looping.{done-no-visit, done-past, done-visit, listed-held}
use Rattle.mb_reflect.proofs.freezing.frozen_from.Goals as goal
use Rattle.mb_world.specs.Data.{Data}
use Rattle.mb_world.specs.Graph.{Graph}
use Rattle.mb_world.specs.Image.{key_in, names_of, object_in}
use Rattle.mb_world.specs.Key.{PropertyKey}
use Rattle.std.proofs.Common.{ℕ}

module _ (home : Side) (object : ObjId) (keys : List Key) (next : ℕ) (d : Data) where
  -- the keys that are left, and those after a key
  abbrev row : List PropertyKey → Graph → Row
  row ks = frozen_keys home.0 (object_in (names_of d) object) ks finished

  abbrev after : Key → Graph → Row
  after key =
      (property (perform home.0 (GetOwnProperty (key_in (names_of d) key)) (object_in (names_of d) object))
      >>= frozen_key (frozen_keys home.0 (object_in (names_of d) object) (drop (next + 1) (keys_of (names_of d) keys))))
      finished

pub returns-in-None-clause-part : goal.returns-in-None-clause-part
returns-in-None-clause-part c = λ d a.
    let home = c.args.home in
    let f = c.args.fuel.now in
    let w = row home c.args.object c.args.keys c.args.next d in
    rw c.value.ensures
    (done-past home d c.args.keys c.args.next w (Ok (given (v.Bool true))) d f f c.in-None.ensures
    (done-value home d f a.ready (w []) (v.Bool true) (flag-held d home true) (λ log. refl))).part

pub returns-in-None-clause-keeps : goal.returns-in-None-clause-keeps
returns-in-None-clause-keeps c = λ d a.
    rw c.value.ensures (keeps-given c.args.home d a.ready (v.Bool true) (flag-held d c.args.home true))

pub returns-in_err-charge-in-Some-clause-part : goal.returns-in_err-charge-in-Some-clause-part
returns-in_err-charge-in-Some-clause-part c = λ d a.
    let home = c.args.home in
    let key = c.in-Some.key in
    let p = err_from_is_err_and c.from_residual.result c.from_residual.ensures.1 in
    rw (p.1, p.2, c.in_err-charge-in-Some.ensures.kept)
    (done-no-visit home d c.args.keys c.args.next (row home c.args.object c.args.keys c.args.next d) key
    c.in-Some.ensures (after home c.args.object c.args.keys c.args.next d key) (λ log. refl) a.ready c.args.fuel.now
    (c.in_err-charge-in-Some.ensures.spent.0 refl)).part

pub returns-in_err-charge-in-Some-clause-keeps : goal.returns-in_err-charge-in-Some-clause-keeps
returns-in_err-charge-in-Some-clause-keeps c = λ d a.
    let p = err_from_is_err_and c.from_residual.result c.from_residual.ensures.1 in
    rw p.1 (halted c.args.home AValue p.0 d a.ready)

pub returns-in_err-next-in-Some-clause-keeps : goal.returns-in_err-next-in-Some-clause-keeps
returns-in_err-next-in-Some-clause-keeps c = λ d a.
    let p = err_from_is_err_and c.from_residual-in_err-next-in-Some.result
    c.from_residual-in_err-next-in-Some.ensures.1 in
    rw p.1 (halted c.args.home AValue p.0 d a.ready)

pub returns-in_ok-next-in-Some-clause-part : goal.returns-in_ok-next-in-Some-clause-part
returns-in_ok-next-in-Some-clause-part c = λ d a.
    let home = c.args.home in
    let key = c.in-Some.key in
    let f1 = c.charge.new.self in
    let q = after home c.args.object c.args.keys c.args.next d key in
    let y = r.FrozenRead c.args.object c.args.keys (c.args.next + 1) in
    let k = listed-held d home c.args.keys c.args.next key a.holds.1.0 c.in-Some.ensures in
    rw (c.waits.ensures, c.in_ok-next-in-Some.ensures)
    (done-visit home d c.args.keys c.args.next (row home c.args.object c.args.keys c.args.next d) key
    c.in-Some.ensures q (λ log. refl) a.ready (Ok (asked home y (m.GetOwnProperty key) c.args.object)) d
    c.args.fuel.now f1 f1 c.in_ok-charge-in-Some.ensures.paid
    (done-asked home d f1 a.ready q y (m.GetOwnProperty key) c.args.object AValue a.holds (a.holds.0, (k, tt)) refl refl
    (λ log. refl))).part

pub returns-in_ok-next-in-Some-clause-keeps : goal.returns-in_ok-next-in-Some-clause-keeps
returns-in_ok-next-in-Some-clause-keeps c = λ d a.
    let home = c.args.home in
    let key = c.in-Some.key in
    let k = listed-held d home c.args.keys c.args.next key a.holds.1.0 c.in-Some.ensures in
    rw c.waits.ensures
    (keeps-asked home d a.ready (r.FrozenRead c.args.object c.args.keys c.in_ok-next-in-Some.next)
    (m.GetOwnProperty key) c.args.object AValue a.holds (a.holds.0, (k, tt)) refl refl)
