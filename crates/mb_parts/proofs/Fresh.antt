-- Objects that are made: each is the last of the graph, and what a side needs is there still.
use Rattle.std.proofs.Common.{◌++◌, ◌<◌, ◌≡◌, ◌∙◌, ◌∷◌, Bool, List, None, Option, Some, [], ap, arith, cond, false}
use Rattle.std.proofs.Common.{length, length-append, nat_eq, nat_lt, refl, slice_get, sym, true, true≢false, ℕ}
use Rattle.std.specs.List.{position_or_len}
use Rattle.std.specs.Prelude.{is_some, option_map, position}
use Rattle.std.proofs.lemmas.Bool.Decides.{nat_tests}
use Rattle.std.proofs.lemmas.List.Folds.{position_or_len_push}
use Rattle.mb_base.specs.declared.value.ObjId.{ObjId}
use Rattle.mb_base.specs.declared.value.Side.{Side}
use Rattle.mb_base.specs.declared.value.StrId.{StrId}
use Rattle.mb_base.specs.declared.value.Value.{Value}
use Rattle.mb_parts.specs.Standing.{Acts}
use Rattle.mb_frames.proofs.Entries.{entries-grow}
use Rattle.mb_frames.proofs.Forms.{CanRun-grows}
use Rattle.mb_frames.specs.Going.{WentOn}
use Rattle.mb_frames.specs.Held.{HeldPrototype}
use Rattle.mb_frames.specs.Ready.{IsMade, MayHold}
use Rattle.mb_world.specs.Contained.{IsOwn, in_kind}
use Rattle.mb_world.specs.Formed.{HasItsKind, InRange, kind_values}
use Rattle.std.specs.Prelude.{All}
use Rattle.mb_frames.specs.Making.{HasPrototypes}
use Rattle.mb_frames.specs.Stepping.{Grew}
use Rattle.mb_frames.specs.Wholeness.{IsOfKind}
use Rattle.mb_model.specs.Operations.Makings.{array_thing}
use Rattle.mb_model.specs.Writing.{make, with_object}
use Rattle.mb_world.proofs.AfterCalls.{of-made}
use Rattle.mb_world.proofs.Arrays.{length-there}
use Rattle.mb_world.specs.Data.{Data, built_in_of, is_counted, kind_stand, length_units, made, new_cell, obj_id, serves}
use Rattle.mb_world.specs.Graph.{Plain, Thing}
use Rattle.mb_world.specs.Ids.{HasItsIds, KindIn}
use Rattle.mb_world.specs.Image.{Image, Resolve, names_of, object_in, thing_in}
use Rattle.mb_world.specs.Laws.{OfObject}
use Rattle.mb_world.specs.Objects.{new_thing}
use Rattle.mb_world.specs.Value.{Val}
use Rattle.mb_world.specs.declared.cell.CellKind.{CellKind}
use Rattle.mb_world.specs.declared.cell.CellKind.TheVariants as kind

-- ---- lists that take one more

last-there : {A : Type 0} (xs : List A) (x : A) → slice_get (xs ++ (x ∷ [])) (length xs) ≡ Some x
last-there [] x = refl
last-there (y ∷ ys) x = last-there ys x

some-if : (b : Bool) (n : ℕ) → is_some (cond b (Some n) None) ≡ true → b ≡ true
some-if true n h = refl
some-if false n h = absurd (true≢false (sym h))

some-mapped : (o : Option ℕ) → is_some (option_map obj_id o) ≡ is_some o
some-mapped None = refl
some-mapped (Some n) = refl

position-more : {A : Type 0} (p : A → Bool) (xs : List A) (x : A) → is_some (position p xs) ≡ true
    → is_some (position p (xs ++ (x ∷ []))) ≡ true
position-more p xs x h =
    let b : nat_lt (position_or_len p xs) (length xs) ≡ true = some-if _ (position_or_len p xs) h in
    let l : position_or_len p xs < length xs = grind (arith, nat_tests) in
    let n : nat_eq (position_or_len p xs) (length xs) ≡ false = grind (arith, nat_tests) in
    let e : position_or_len p (xs ++ (x ∷ [])) ≡ position_or_len p xs = position_or_len_push p xs x ∙ rw n refl in
    let m : nat_lt (position_or_len p xs) (length (xs ++ (x ∷ []))) ≡ true
    = (let z = length-append xs (x ∷ []) in grind (arith, nat_tests)) in
    rw (e, m) refl

-- ---- an object is made

module _ (d d' : Data) (home : Side) (k : CellKind) (proto : Value) (label : Option StrId) (id : ObjId)
    (i : HasItsIds d) (counted : is_counted (kind_stand k) ≡ true) (same : d' ≡ made d home k proto label)
    (number : id.0 ≡ length d.cells) where
  grows : OfObject d home k proto label
  grows = of-made d home k proto label i counted

  Grew-made : Grew d (made d home k proto label)
  Grew-made = record { grows = grows.becomes.grows; programs = refl; sides = refl; joined = refl }

  there : (place : ℕ) → is_some (built_in_of d.joined d.cells home place) ≡ true
      → is_some (built_in_of d.joined (made d home k proto label).cells home place) ≡ true
  there place e =
      some-mapped (position (serves d.joined home place) (made d home k proto label).cells)
      ∙ position-more (serves d.joined home place) d.cells (new_cell d.texts home k proto label)
      (sym (some-mapped (position (serves d.joined home place) d.cells)) ∙ e)

  pub Acts-made : HasItsIds d' → Acts d home → Acts d' home
  Acts-made h a = rw same (record {
    side = a.side;
    ids = rw same at h;
    runs = CanRun-grows d (made d home k proto label) home Grew-made (rw same at h) a.runs;
    built_ins = λ place e. there place (a.built_ins place e);
  })

  pub made-of-kind : IsOfKind d' home k id
  made-of-kind = rw (same, number, last-there d.cells (new_cell d.texts home k proto label)) (refl, refl)

  pub made-went : (t : Thing) → thing_in (names_of (made d home k proto label)) (new_cell d.texts home k proto label)
      ≡ t
      → WentOn Val d d' 0 0 (make t) (object_in (names_of d') id)
  made-went t e =
      let u : id ≡ obj_id (length d.cells) = ap obj_id number in
      rw (same, u) (record {
        units = 0;
        paid = omega arith;
        same = λ c log.
            ap (λ (v : Val). c v (with_object t (Image d log))) (sym (grows.number log))
            ∙ ap (c (object_in (names_of (made d home k proto label)) (obj_id (length d.cells))))
            (sym (grows.becomes.image log ∙ ap (λ (x : Thing). with_object x (Image d log)) e));
        trace = entries-grow d (made d home k proto label) grows.becomes.grows i refl;
        grew = Grew-made;
      })

-- ---- what is made

pub plain-thing : (d : Data) (home : Side) (proto : Value) (v : Val)
    → Resolve (names_of (made d home kind.Plain proto None)) proto ≡ v
    → thing_in (names_of (made d home kind.Plain proto None)) (new_cell d.texts home kind.Plain proto None)
    ≡ new_thing home.0 None Plain v
plain-thing d home proto v e = ap (new_thing home.0 None Plain) e

pub array-thing : (d : Data) (home : Side) (proto : Value) (v : Val)
    → Resolve (names_of (made d home kind.Array proto None)) proto ≡ v
    → thing_in (names_of (made d home kind.Array proto None)) (new_cell d.texts home kind.Array proto None)
    ≡ array_thing home.0 v 0 []
array-thing d home proto v e = rw (e, (length-there d.texts length_units).1) refl

pub Acts-prototypes : (d : Data) (home : Side) → Acts d home → HasPrototypes d home
Acts-prototypes d home a = record { function = a.built_ins 12 (λ e. cc); object = a.built_ins 13 (λ e. cc) }

-- what a home makes of a kind that holds nothing
pub bare-may : (d : Data) (home : Side) (y : CellKind) (proto : Value) → is_counted (kind_stand y) ≡ true → KindIn d y
    → HasItsKind d home y → MayHold d home (HeldPrototype proto)
    → All InRange (kind_values y) → (d.joined ≡ false → All (IsOwn d home) (in_kind y)) → IsMade d home y proto None
bare-may d home y proto c k t h w o = record {
  counted = c;
  kind_in = k;
  proto_in = h.within;
  label_in = tt;
  prototype = h.sound;
  wholes = w;
  kind = t;
  unlabelled = λ e. refl;
  kind_own = o;
  proto_own = h.own;
}
