use Rattle.std.proofs.Common.{◌+◌, ◌∷◌, [], List, Ok, drop, refl}
use Rattle.std.proofs.lemmas.Result.{err_from_is_err_and}
use Rattle.mb_base.specs.declared.value.Key.{Key}
use Rattle.mb_base.specs.declared.value.ObjId.{ObjId}
use Rattle.mb_base.specs.declared.value.Side.{Side}
use Rattle.mb_base.specs.declared.value.Value.TheVariants as v
use Rattle.mb_call.specs.Ours.{Acts}
use Rattle.mb_frames.proofs.Keeping.{keeps-same}
use Rattle.mb_frames.specs.Held.{HeldKey, HeldKeys, HeldObject}
use Rattle.mb_frames.specs.Resolved.{keys_of}
use Rattle.mb_frames.specs.Sorts.{AValue}
use Rattle.mb_model.specs.BuiltIns.ObjectMembers.{settle_key, settle_keys}
use Rattle.mb_model.specs.Meaning.{finished}
use Rattle.mb_model.specs.Writing.{◌>>=◌, Row}
use Rattle.mb_reflect.proofs.Doing.{done-object, done-sure, given, halted, keeps-object}
use Rattle.mb_reflect.proofs.Looping.{done-no-visit, done-past, done-visit, listed-held}
use Rattle.mb_reflect.proofs.settling.settle_from.Goals as goal
use Rattle.mb_world.specs.Data.{Data}
use Rattle.mb_world.specs.Graph.{Graph}
use Rattle.mb_world.specs.Image.{key_in, names_of, object_in}
use Rattle.mb_world.specs.Key.{PropertyKey}
use Rattle.std.proofs.Common.{Bool, Some, slice_get, ◌≡◌, ℕ}

module _ (home : Side) (object : ObjId) (frozen : Bool) (keys : List Key) (next : ℕ) (d : Data) where
  -- the keys that are left, and those after a key
  abbrev row : List PropertyKey → Graph → Row
  row ks = settle_keys home.0 (object_in (names_of d) object) frozen ks finished

  abbrev after : Key → Graph → Row
  after key =
      (settle_key home.0 (object_in (names_of d) object) frozen (key_in (names_of d) key)
      >>= (λ z. settle_keys home.0 (object_in (names_of d) object) frozen (drop (next + 1) (keys_of (names_of d)
      keys))))
      finished

  with-key : (key : Key) → Some key ≡ slice_get keys next → Acts d home (HeldObject object ∷ HeldKeys keys ∷ [])
      → Acts d home (HeldObject object ∷ HeldKey key ∷ HeldKeys keys ∷ [])
  with-key key e a = record {
    ready = a.ready;
    side = a.side;
    holds = (a.holds.0, (listed-held d home keys next key a.holds.1.0 e, (a.holds.1.0, tt)));
  }

pub returns-in-None-clause-part : goal.returns-in-None-clause-part
returns-in-None-clause-part c = λ d a.
    let home = c.args.home in
    let f = c.args.fuel.now in
    let r = row home c.args.object c.args.frozen c.args.keys c.args.next d in
    rw c.value.ensures
    (done-past home d c.args.keys c.args.next r (Ok (given (v.Object c.args.object))) d f f c.in-None.ensures
    (done-object home d f a.ready (r []) c.args.object AValue a.holds.0 refl (λ log. refl))).part

pub returns-in-None-clause-keeps : goal.returns-in-None-clause-keeps
returns-in-None-clause-keeps c = λ d a.
    rw c.value.ensures (keeps-object c.args.home d a.ready c.args.object AValue a.holds.0 refl)

pub returns-in_err-charge-in-Some-clause-part : goal.returns-in_err-charge-in-Some-clause-part
returns-in_err-charge-in-Some-clause-part c = λ d a.
    let home = c.args.home in
    let key = c.in-Some.key in
    let p = err_from_is_err_and c.from_residual.result c.from_residual.ensures.1 in
    rw (p.1, p.2, c.in_err-charge-in-Some.ensures.kept)
    (done-no-visit home d c.args.keys c.args.next (row home c.args.object c.args.frozen c.args.keys c.args.next d) key
    c.in-Some.ensures (after home c.args.object c.args.frozen c.args.keys c.args.next d key) (λ log. refl) a.ready
    c.args.fuel.now (c.in_err-charge-in-Some.ensures.spent.0 refl)).part

pub returns-in_err-charge-in-Some-clause-keeps : goal.returns-in_err-charge-in-Some-clause-keeps
returns-in_err-charge-in-Some-clause-keeps c = λ d a.
    let p = err_from_is_err_and c.from_residual.result c.from_residual.ensures.1 in
    rw p.1 (halted c.args.home AValue p.0 d a.ready)

pub returns-in_err-next-in-Some-clause-keeps : goal.returns-in_err-next-in-Some-clause-keeps
returns-in_err-next-in-Some-clause-keeps c = λ d a.
    let p = err_from_is_err_and c.from_residual-in_err-next-in-Some.result
    c.from_residual-in_err-next-in-Some.ensures.1 in
    rw p.1 (halted c.args.home AValue p.0 d a.ready)

pub returns-in_ok-next-in-Some-clause-part : goal.returns-in_ok-next-in-Some-clause-part
returns-in_ok-next-in-Some-clause-part c = λ d a.
    let home = c.args.home in
    let key = c.in-Some.key in
    let k = with-key home c.args.object c.args.frozen c.args.keys c.args.next d key c.in-Some.ensures a in
    let q = after home c.args.object c.args.frozen c.args.keys c.args.next d key in
    let s = rw c.in_ok-next-in-Some.ensures at (c.settle_key.ensures.sure d k) in
    (done-visit home d c.args.keys c.args.next (row home c.args.object c.args.frozen c.args.keys c.args.next d) key
    c.in-Some.ensures q (λ log. refl) a.ready (Ok c.settle_key.result) d c.args.fuel.now c.charge.new.self
    c.charge.new.self c.in_ok-charge-in-Some.ensures.paid
    (done-sure home AValue c.settle_key.result d c.charge.new.self q a.ready s (c.settle_key.ensures.leaves d k))).part

pub returns-in_ok-next-in-Some-clause-keeps : goal.returns-in_ok-next-in-Some-clause-keeps
returns-in_ok-next-in-Some-clause-keeps c = λ d a.
    let k = with-key c.args.home c.args.object c.args.frozen c.args.keys c.args.next d c.in-Some.key c.in-Some.ensures
    a in
    keeps-same c.args.home AValue (Ok c.settle_key.result) d a.ready (c.settle_key.ensures.leaves d k)
