use Rattle.std.proofs.Common.{arith, ap, ◌<◌, ◌∷◌, []}
use Rattle.std.proofs.lemmas.Result.{err_from_is_err_and}
use Rattle.mb_arrayapi.proofs.Acting.{Part-same, acts-after, halts-after, keeps-after}
use Rattle.mb_arrayapi.proofs.Needing.{Part-mapped, Part-called, Part-uncalled, callable-held, fresh-long}
use Rattle.mb_arrayapi.proofs.beginning.map.Goals as goal
use Rattle.mb_frames.specs.Held.{HeldCallable, HeldObject, HeldValue}
use Rattle.mb_frames.specs.Sorts.{AValue}
use Rattle.mb_model.specs.BuiltIns.ArrayMembers.{map_each}
use Rattle.mb_model.specs.BuiltIns.Arrays.{fresh_array}
use Rattle.mb_model.specs.Writing.{◌>>=◌, Does, range_error}
use Rattle.mb_world.specs.Image.{Resolve, names_of, object_in}
use Rattle.mb_world.specs.Value.{Val}

pub returns-then-not-can_call-clause-part : goal.returns-then-not-can_call-clause-part
returns-then-not-can_call-clause-part c =
    let d = c.args.w.now in
    let n = names_of d in
    let s = c.args.home.0 in
    let f = c.args.fuel.now in
    Part-uncalled c.args.home c.type_error.result d c.type_error.new.w f f c.args.function
    (fresh_array s c.args.length >>= (λ a. map_each s (object_in n c.args.object) (Resolve n c.args.function)
    (Resolve n c.args.this) a c.args.length 0))
    c.can_call.result c.can_call.ensures c.if-not-can_call.true (c.type_error.ensures.part f)

pub returns-then-not-can_call-clause-keeps : goal.returns-then-not-can_call-clause-keeps
returns-then-not-can_call-clause-keeps c = c.type_error.ensures.keeps AValue

pub returns-then-length-gt-LIMIT-clause-part : goal.returns-then-length-gt-LIMIT-clause-part
returns-then-length-gt-LIMIT-clause-part c =
    let d = c.args.w.now in
    let n = names_of d in
    let s = c.args.home.0 in
    let f = c.args.fuel.now in
    let l : 4294967295 < c.args.length = omega arith in
    let each = λ (x : Val). map_each s (object_in n c.args.object) (Resolve n c.args.function) (Resolve n c.args.this) x
    c.args.length 0 in
    Part-called c.args.home c.range_error.result d c.range_error.new.w f f c.args.function
    (fresh_array s c.args.length >>= each) c.can_call.result c.can_call.ensures c.if-not-can_call.false
    (Part-same c.args.home c.range_error.result d c.range_error.new.w f f (fresh_array s c.args.length >>= each)
    (range_error s) (ap (λ (q : Does Val). q >>= each) (fresh-long s c.args.length l)) (c.range_error.ensures.part f))

pub returns-then-length-gt-LIMIT-clause-keeps : goal.returns-then-length-gt-LIMIT-clause-keeps
returns-then-length-gt-LIMIT-clause-keeps c = c.range_error.ensures.keeps AValue

pub returns-in_err-array-clause-keeps : goal.returns-in_err-array-clause-keeps
returns-in_err-array-clause-keeps c =
    let p = err_from_is_err_and c.from_residual.result c.from_residual.ensures.1 in
    rw p.1
    (halts-after c.args.w.now c.args.home
    (HeldObject c.args.object ∷ HeldValue c.args.function ∷ HeldValue c.args.this ∷ []) c.requires.acts
    c.fresh_array.new.w c.in_err-array.ensures.keeps.changed AValue p.0)

pub turns_from-requires : goal.turns_from-requires
turns_from-requires c =
    let d = c.args.w.now in
    let home = c.args.home in
    let a = c.requires.acts in
    let h = a.holds in
    let k = c.in_ok-array.ensures.keeps in
    let held = callable-held d home c.args.function c.can_call.result c.can_call.ensures c.if-not-can_call.false
    h.1.0 in
    let b = acts-after d home (HeldObject c.args.object ∷ HeldValue c.args.function ∷ HeldValue c.args.this ∷ []) a
    c.fresh_array.new.w k.changed (HeldObject c.args.object ∷ HeldCallable c.args.function ∷ HeldValue c.args.this ∷ [])
    (h.0, (held, h.1.1)) in
    record {
      acts = record {
        ready = b.ready;
        side = b.side;
        holds = rw c.all_of.ensures (b.holds.0, (b.holds.1.0, (b.holds.1.1.0, k.holds)));
      };
    }

pub returns-clause-part : goal.returns-clause-part
returns-clause-part c =
    let d = c.args.w.now in
    let n = names_of d in
    let s = c.args.home.0 in
    let h = c.requires.acts.holds in
    Part-called c.args.home c.turns_from.result d c.turns_from.new.w c.args.fuel.now c.turns_from.new.fuel
    c.args.function
    (fresh_array s c.args.length >>= (λ a. map_each s (object_in n c.args.object) (Resolve n c.args.function)
    (Resolve n c.args.this) a c.args.length 0))
    c.can_call.result c.can_call.ensures c.if-not-can_call.false
    (Part-mapped c.args.home c.turns_from.result d c.fresh_array.new.w c.turns_from.new.w c.args.fuel.now
    c.turns_from.new.fuel c.args.object h.0.within c.in_ok-array.array c.args.length c.in_ok-array.ensures.makes
    c.args.function c.args.this h.1.0.within h.1.1.0.within c.args.length
    (rw c.all_of.ensures at c.turns_from.ensures.part))

pub returns-clause-keeps : goal.returns-clause-keeps
returns-clause-keeps c =
    keeps-after c.args.w.now c.args.home
    (HeldObject c.args.object ∷ HeldValue c.args.function ∷ HeldValue c.args.this ∷ []) c.requires.acts
    c.fresh_array.new.w c.in_ok-array.ensures.keeps.changed AValue c.turns_from.result c.turns_from.new.w
    c.turns_from.ensures.keeps
