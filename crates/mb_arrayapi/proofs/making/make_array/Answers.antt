use Rattle.std.proofs.Common.{arith, pos, subst, sym, to_z, w64, ◌<◌, ◌^◌, ◌∷◌, ◌≡◌, [], ℤ}
use Rattle.std.proofs.lemmas.Int.{to_z_pos}
use Rattle.std.proofs.lemmas.List.Elements.{All-cons, All-nil}
use Rattle.std.proofs.lemmas.Result.{err_from_is_err_and}
use Rattle.std.specs.Prelude.{All}
use Rattle.mb_arrayapi.proofs.ArrayMade.{alone-held, array-made, first-changed, length-changed, second-changed}
use Rattle.mb_arrayapi.proofs.ArrayMade.{second-held}
use Rattle.mb_arrayapi.proofs.PlaceValues.{small-held}
use Rattle.mb_arrayapi.proofs.making.make_array.Goals as goal
use Rattle.mb_base.specs.declared.value.Value.{Value}
use Rattle.mb_base.specs.declared.value.Value.TheVariants as v
use Rattle.mb_frames.proofs.HeldLess.{array-object}
use Rattle.mb_frames.proofs.Leaving.{holds-still}
use Rattle.mb_frames.proofs.Readying.{changed-same, changed-then}
use Rattle.mb_frames.specs.Held.{HeldArray, HeldValue}
use Rattle.mb_frames.specs.Ready.{MayHold}
use Rattle.mb_parts.proofs.ArrayLength.{array-length}
use Rattle.mb_parts.proofs.HeldEach.{tells-apart}

pub returns-in_err-array-clause-keeps : goal.returns-in_err-array-clause-keeps
returns-in_err-array-clause-keeps c =
    let p = err_from_is_err_and c.from_residual.result c.from_residual.ensures.1 in
    rw (p.1, c.in_err-array.ensures.kept)
    (record { changed = changed-same c.args.home c.args.w.now c.requires.acts.ready; holds = tt })

pub returns-in_err-key-clause-keeps : goal.returns-in_err-key-clause-keeps
returns-in_err-key-clause-keeps c =
    let a = c.requires.acts in
    let q = c.from_residual-in_err-key in
    let p = err_from_is_err_and q.result q.ensures.1 in
    rw (p.1, c.in_err-key.ensures.kept, c.in_ok-array.ensures.made)
    (record {
      changed = first-changed c.args.w.now c.args.home a.ready a.side c.args.prototype a.holds.0
          c.in_ok-array.array c.in_ok-array.ensures.id;
      holds = tt;
    })

pub define_any-requires-clause-length : goal.define_any-requires-clause-length
define_any-requires-clause-length c = λ x there array.
    let a = c.requires.acts in
    let t = rw c.in_ok-array.ensures.made at c.in_ok-key.ensures.grew in
    array-length c.length_key.new.w c.texts-texts.ensures.distinct
    (second-changed c.args.w.now c.args.home a.ready a.side c.args.prototype a.holds.0 c.in_ok-array.array
    c.in_ok-array.ensures.id c.length_key.new.w t).ready c.in_ok-array.array x there array

pub define_any-requires-clause-apart : goal.define_any-requires-clause-apart
define_any-requires-clause-apart c =
    let d = c.args.w.now in
    let d2 = c.length_key.new.w in
    let home = c.args.home in
    let a = c.requires.acts in
    let id = c.in_ok-array.array in
    let t = rw c.in_ok-array.ensures.made at c.in_ok-key.ensures.grew in
    let n : to_z w64 c.args.length ≡ pos c.args.length = to_z_pos w64 c.args.length (omega arith) in
    tells-apart d2
    (second-changed d home a.ready a.side c.args.prototype a.holds.0 id c.in_ok-array.ensures.id d2 t).ready home id
    c.in_ok-key.key c.value_alone.result
    (array-object d2 home id
    (second-held d home a.ready a.side c.args.prototype a.holds.0 id c.in_ok-array.ensures.id d2 t))
    (rw c.value_alone.ensures
    (subst (λ (z : ℤ). All (λ (x : Value). MayHold d2 home (HeldValue x)) (v.Whole z ∷ [])) (sym n)
    (All-cons (λ (x : Value). MayHold d2 home (HeldValue x)) (v.Whole (pos c.args.length)) []
    (small-held d2 home c.args.length (omega arith)) (All-nil (λ (x : Value). MayHold d2 home (HeldValue x))))))

pub returns-in_err-define_any-clause-keeps : goal.returns-in_err-define_any-clause-keeps
returns-in_err-define_any-clause-keeps c =
    let a = c.requires.acts in
    let t = rw c.in_ok-array.ensures.made at c.in_ok-key.ensures.grew in
    let q = c.from_residual-in_err-define_any in
    let p = err_from_is_err_and q.result q.ensures.1 in
    rw (p.1, c.in_err-define_any.ensures.kept)
    (record {
      changed = second-changed c.args.w.now c.args.home a.ready a.side c.args.prototype a.holds.0
          c.in_ok-array.array c.in_ok-array.ensures.id c.length_key.new.w t;
      holds = tt;
    })

pub returns-clause-makes : goal.returns-clause-makes
returns-clause-makes c =
    let d = c.args.w.now in
    let d2 = c.length_key.new.w in
    let home = c.args.home in
    let a = c.requires.acts in
    let id = c.in_ok-array.array in
    let t = rw c.in_ok-array.ensures.made at c.in_ok-key.ensures.grew in
    let n : to_z w64 c.args.length ≡ pos c.args.length = to_z_pos w64 c.args.length (omega arith) in
    let ensures = rw (c.value_alone.ensures, n) at c.in_ok-define_any.ensures in
    let held = second-held d home a.ready a.side c.args.prototype a.holds.0 id c.in_ok-array.ensures.id d2 t in
    let kind = (rw c.cell.ensures.value at held.sound).1 in
    array-made d home a.ready a.side c.args.prototype a.holds.0 id c.in_ok-array.ensures.id d2 t c.cell.result.now
    c.cell.ensures.value kind c.in_ok-key.key c.in_ok-key.ensures.within c.in_ok-key.ensures.key c.args.length
    (omega arith) c.define_any.new.w ensures.cell ensures.rest

pub returns-clause-keeps : goal.returns-clause-keeps
returns-clause-keeps c =
    let d = c.args.w.now in
    let d2 = c.length_key.new.w in
    let d3 = c.define_any.new.w in
    let home = c.args.home in
    let a = c.requires.acts in
    let id = c.in_ok-array.array in
    let t = rw c.in_ok-array.ensures.made at c.in_ok-key.ensures.grew in
    let n : to_z w64 c.args.length ≡ pos c.args.length = to_z_pos w64 c.args.length (omega arith) in
    let ensures = rw (c.value_alone.ensures, n) at c.in_ok-define_any.ensures in
    let k2 = second-changed d home a.ready a.side c.args.prototype a.holds.0 id c.in_ok-array.ensures.id d2 t in
    let held = second-held d home a.ready a.side c.args.prototype a.holds.0 id c.in_ok-array.ensures.id d2 t in
    let kind = (rw c.cell.ensures.value at held.sound).1 in
    let small : c.args.length < 2 ^ 32 = omega arith in
    let k3 = length-changed d home a.ready a.side c.args.prototype a.holds.0 id c.in_ok-array.ensures.id d2 t
    c.cell.result.now c.cell.ensures.value kind c.in_ok-key.key c.in_ok-key.ensures.within c.in_ok-key.ensures.key
    c.args.length small d3 ensures.cell ensures.rest c.texts-texts.ensures.distinct c.get-there.ensures.distinct
    (alone-held d2 home c.args.length small) ensures.unchanged ensures.objects c.texts-after.ensures.ids in
    record {
      changed = changed-then home d d2 d3 k2 k3;
      holds = holds-still home d2 d3 k2.ready k3 (HeldArray id ∷ []) (held, tt);
    }
