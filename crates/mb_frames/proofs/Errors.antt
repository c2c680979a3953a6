-- A fresh error object is thrown.
use Rattle.mb_world.specs.Image.{Image}
use Rattle.std.proofs.Common.{inl, inr}
use Rattle.std.proofs.Common.{◌||◌}
use Rattle.mb_world.specs.Data.{same_side}
use Rattle.std.proofs.Common.{◌<◌, ◌≤◌, ◌⊎◌}
use Rattle.std.proofs.Common.{true≢false}
use Rattle.std.proofs.Common.{◌&&◌, Bool, None, Ok, Option, Some, [], ap, arith, eqb-true, false, get_or, length, length-append, option_map, refl, slice_get, sym, true, ℕ, ◌∙◌, ◌∷◌, ◌≡◌}
use Rattle.std.specs.Prelude.{position}
use Rattle.mb_base.specs.declared.value.ObjId.{ObjId}
use Rattle.mb_base.specs.declared.value.Side.{Side}
use Rattle.mb_frames.proofs.AfterCalls.{made-kept}
use Rattle.mb_frames.proofs.Steps.{Added-still, append-none, may-calm}
use Rattle.mb_frames.specs.Failing.{error_place}
use Rattle.mb_frames.specs.Stepping.{Step, Written}
use Rattle.mb_frames.specs.Wholeness.{KeptWorld}
use Rattle.mb_model.specs.Meaning.{finished}
use Rattle.mb_model.specs.Writing.{fail}
use Rattle.mb_world.proofs.AfterCalls.{of-made}
use Rattle.mb_world.specs.Contained.{Contained, IsOwn, Paired, is_shadow}
use Rattle.mb_world.specs.Data.{AtPlace, Before, Counted, Data, Hidden, Stand, built_in_of, cell_at, kind_stand, made, new_cell, obj_id, serves, stand, stands, stands_at}
use Rattle.mb_world.specs.Ids.{HasItsIds, ObjIn}
use Rattle.mb_world.specs.Image.{Names, names_of, object_in, stood}
use Rattle.mb_world.specs.Laws.{OfObject}
use Rattle.mb_world.specs.Standard.{error_prototype}
use Rattle.mb_world.specs.Value.{BuiltIn}
use Rattle.mb_base.specs.declared.value.Value.TheVariants as v
use Rattle.mb_world.specs.declared.cell.Cell.{Cell}
use Rattle.mb_world.specs.declared.cell.CellKind.{CellKind}
use Rattle.mb_world.specs.declared.cell.ErrorKind.{ErrorKind}
use Rattle.mb_world.specs.declared.cell.CellKind.TheVariants as kind
use Rattle.mb_world.specs.declared.cell.ErrorKind.TheVariants.{Error as ErrorKindError, TypeError as ErrorKindType, RangeError as ErrorKindRange, ReferenceError as ErrorKindReference}
use Rattle.mb_frames.specs.declared.task.Outcome.TheVariants as o
use Rattle.mb_frames.specs.declared.frame.Move.TheVariants as move
use Rattle.std.proofs.lemmas.List.Elements.{All-cons, All-nil}
use Rattle.std.proofs.lemmas.List.Quantifiers.{position-Some}
use Rattle.std.proofs.lemmas.Option.{slice_get-map, get_or_from_slice_get, slice_get_cases}

and-second : (a b : Bool) → a && b ≡ true → b ≡ true
and-second true b h = h
and-second false b h = absurd (true≢false (sym h))

at-place : (n : ℕ) (s : Stand) → stands_at n s ≡ true → s ≡ AtPlace n
at-place n (AtPlace place) h = ap AtPlace (sym (eqb-true n place h))
at-place n Counted h = absurd (true≢false (sym h))
at-place n (Before behind) h = absurd (true≢false (sym h))
at-place n Hidden h = absurd (true≢false (sym h))

pub mapped-some : (x : Option ℕ) (id : ObjId) → option_map obj_id x ≡ Some id → x ≡ Some id.0
mapped-some None id h = cc
mapped-some (Some n) id h = ap (λ (r : Option ObjId). option_map (λ (i : ObjId). i.0) r) h

pub error-is : (kind : ErrorKind) → error_prototype kind ≡ BuiltIn (error_place kind)
error-is ErrorKindError = refl
error-is ErrorKindType = refl
error-is ErrorKindRange = refl
error-is ErrorKindReference = refl

stood-at : (n : Names) (i place : ℕ) (s : Option Stand) → s ≡ Some (AtPlace place) → stood n i s ≡ BuiltIn place
stood-at n i place s e = ap (stood n i) e

pub stands-there : (d : Data) (side : Side) (place : ℕ) (id : ObjId) (c : Cell)
    → built_in_of d.joined d.cells side place ≡ Some id → cell_at d id ≡ Some c → stand c ≡ AtPlace place
stands-there d side place id c h g =
    let e : position (serves d.joined side place) d.cells ≡ Some id.0
    = mapped-some (position (serves d.joined side place) d.cells) id h in
    let p : serves d.joined side place (get_or d.cells id.0 c) ≡ true
    = (position-Some (serves d.joined side place) d.cells id.0 c e).1 in
    let q : get_or d.cells id.0 c ≡ c = get_or_from_slice_get d.cells id.0 c c g in
    at-place place (stand c)
    (and-second (d.joined || same_side side c.home) (stands_at place (stand c)) (rw (← q) p))

built-in-at : (d : Data) (side : Side) (place : ℕ) (id : ObjId) (c : Cell)
    → built_in_of d.joined d.cells side place ≡ Some id → cell_at d id ≡ Some c
    → object_in (names_of d) id ≡ BuiltIn place
built-in-at d side place id c h g =
    let s : stand c ≡ AtPlace place = stands-there d side place id c h g in
    stood-at (names_of d) id.0 place (slice_get (stands d.cells) id.0)
    (slice_get-map stand d.cells id.0 ∙ ap (option_map stand) g ∙ ap Some s)

-- the built-in at a place stands for it
pub built-in-is : (d : Data) (side : Side) (place : ℕ) (id : ObjId)
    → built_in_of d.joined d.cells side place ≡ Some id → ObjIn d id → object_in (names_of d) id ≡ BuiltIn place
built-in-is d side place id h i = by (slice_get_cases d.cells id.0).1
  where
    by : ((c : Cell) × (id.0 < length d.cells) × (slice_get d.cells id.0 ≡ Some c) × (get_or d.cells id.0 c ≡ c))
        ⊎ ((length d.cells ≤ id.0) × (slice_get d.cells id.0 ≡ None)) → object_in (names_of d) id ≡ BuiltIn place
    by (inl p) = built-in-at d side place id p.0 h p.2
    by (inr p) = absurd (omega (arith, p.0, i))

-- the step that throws it
pub Step-fail : (home : Side) (begun : Bool) (d d' : Data) (id new : ObjId) (error : ErrorKind) (f : ℕ) (l : Written)
    → HasItsIds d → ObjIn d id → object_in (names_of d) id ≡ error_prototype error
    → d' ≡ made d home (kind.Fault error) (v.Object id) None → new.0 ≡ length d.cells
    → Step home begun (Ok (move.Done (o.Throw (v.Object new)))) d d' f f l l (fail home.0 error finished)
Step-fail home begun d d' id new error f l i h r e n =
    let k = made d home (kind.Fault error) (v.Object id) None in
    let a : OfObject d home (kind.Fault error) (v.Object id) None
    = of-made d home (kind.Fault error) (v.Object id) None i refl in
    let p : object_in (names_of k) id ≡ error_prototype error = a.becomes.grows.same_object id h ∙ r in
    let u : new ≡ obj_id (length d.cells) = ap obj_id n in
    rw e (record {
      added = [];
      logged = Added-still d k l refl;
      same = λ w log q. rw (append-none log, a.becomes.image log, u, a.number log, p) refl;
      paid = λ log q. omega arith;
      left = λ log q. omega arith;
      may = λ log q. may-calm begun (fail home.0 error finished (Image d log)) (move.Done (o.Throw (v.Object new))) tt;
      ids = (omega (arith, n, length-append d.cells (new_cell d.texts home (kind.Fault error) (v.Object id) None ∷ [])), tt);
      grew = record { grows = a.becomes.grows; programs = refl; sides = refl; joined = refl };
    })

-- ---- in a world that isn't joined

or-second : (a b : Bool) → a ≡ false → a || b ≡ true → b ≡ true
or-second true b e h = absurd (true≢false e)
or-second false b e h = h

and-first : (a b : Bool) → a && b ≡ true → a ≡ true
and-first true b h = refl
and-first false b h = absurd (true≢false (sym h))

pub shown-at : (k : CellKind) (place : ℕ) → kind_stand k ≡ AtPlace place → is_shadow k ≡ false
shown-at kind.Plain place h = refl
shown-at kind.Array place h = refl
shown-at (kind.Function code) place h = refl
shown-at (kind.BuiltIn n) place h = refl
shown-at (kind.Fault e) place h = refl
shown-at (kind.Proxy target handler shape) place h = refl
shown-at (kind.Revoker proxy) place h = refl
shown-at (kind.Membrane behind shadow) place h = refl
shown-at (kind.Shadow shape) place h = cc
shown-at (kind.Collection coll) place h = refl

-- a built-in of a side is its own
pub built-in-own : (d : Data) (side : Side) (place : ℕ) (id : ObjId) → ObjIn d id → d.joined ≡ false
    → built_in_of d.joined d.cells side place ≡ Some id → IsOwn d side id
built-in-own d side place id i u h = by (slice_get_cases d.cells id.0).1
  where
    there : (c : Cell) → cell_at d id ≡ Some c → IsOwn d side id
    there c g =
        let e : position (serves d.joined side place) d.cells ≡ Some id.0
        = mapped-some (position (serves d.joined side place) d.cells) id h in
        let p : serves d.joined side place (get_or d.cells id.0 c) ≡ true
        = (position-Some (serves d.joined side place) d.cells id.0 c e).1 in
        let q : get_or d.cells id.0 c ≡ c = get_or_from_slice_get d.cells id.0 c c g in
        let r : serves d.joined side place c ≡ true = rw (← q) p in
        let s : stand c ≡ AtPlace place
        = at-place place (stand c) (and-second (d.joined || same_side side c.home) (stands_at place (stand c)) r) in
        let t : same_side side c.home ≡ true
        = or-second d.joined (same_side side c.home) u
        (and-first (d.joined || same_side side c.home) (stands_at place (stand c)) r) in
        let n : side.0 ≡ c.home.0 = eqb-true side.0 c.home.0 t in
        rw g (ap (λ (k : ℕ). record { 0 = k }) (sym n), shown-at c.kind place s)

    by : ((c : Cell) × (id.0 < length d.cells) × (slice_get d.cells id.0 ≡ Some c) × (get_or d.cells id.0 c ≡ c))
        ⊎ ((length d.cells ≤ id.0) × (slice_get d.cells id.0 ≡ None)) → IsOwn d side id
    by (inl p) = there p.0 p.2
    by (inr p) = absurd (omega (arith, p.0, i))

-- the world in which the error is made is kept
pub error-kept : (home : Side) (d d' : Data) (id : ObjId) (place : ℕ) (error : ErrorKind) → HasItsIds d → ObjIn d id
    → built_in_of d.joined d.cells home place ≡ Some id → d' ≡ made d home (kind.Fault error) (v.Object id) None
    → d.joined ≡ false → Contained d → Paired d → KeptWorld home d d'
error-kept home d d' id place error i h b e u c p = rw e (made-kept home d (kind.Fault error) (v.Object id) None i refl tt
    h (All-nil (IsOwn d home)) (All-cons (IsOwn d home) id [] (built-in-own d home place id h u b) (All-nil (IsOwn d home)))
    c p)
