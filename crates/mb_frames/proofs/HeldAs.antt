-- An object may be held as what its cell is: one that is there, one that was made, and a built-in.
use Rattle.mb_base.specs.declared.value.ObjId.{ObjId}
use Rattle.mb_base.specs.declared.value.Side.{Side}
use Rattle.mb_base.specs.declared.value.StrId.{StrId}
use Rattle.mb_base.specs.declared.value.Value.{Value}
use Rattle.mb_base.specs.declared.value.Value.TheVariants as v
use Rattle.mb_frames.proofs.Errors.{built-in-own, mapped-some, shown-at, stands-there}
use Rattle.mb_frames.proofs.Throwing.{last-there}
use Rattle.mb_frames.specs.Found.{HoldsBuiltIn, IsHeldAs}
use Rattle.mb_frames.specs.Held.{HeldCallable, HeldFunction}
use Rattle.mb_frames.specs.Ready.{MayHold}
use Rattle.mb_frames.specs.Wholeness.{IsCollectionAt, IsOfKind, is_function_kind}
use Rattle.mb_world.proofs.AfterCalls.{thing-at}
use Rattle.mb_world.specs.Contained.{IsOwn, is_shadow}
use Rattle.mb_world.specs.Data.{AtPlace, Data, built_in_of, cell_at, is_collection, is_counted, kind_stand, made, new_cell, serves, stand}
use Rattle.mb_world.specs.Graph as graph
use Rattle.mb_world.specs.Graph.{Kind, Thing}
use Rattle.mb_world.specs.Ids.{ObjIn}
use Rattle.mb_world.specs.Image.{Image, Names, kind_in, names_of, object_in, stood, thing_in}
use Rattle.mb_world.specs.Intrinsics.{Intrinsic, intrinsic}
use Rattle.mb_world.specs.Objects.{intrinsic_is, kind_calls, kind_constructs, thing_at, thing_is}
use Rattle.mb_world.specs.Standard.{calls, constructs, standard, standard_at}
use Rattle.mb_world.specs.Value.{BuiltIn, Val}
use Rattle.mb_world.specs.declared.cell.Cell.{Cell}
use Rattle.mb_world.specs.declared.cell.CellKind.{CellKind}
use Rattle.mb_world.specs.declared.cell.CellKind.TheVariants as kind
use Rattle.std.proofs.Common.{Bool, List, None, Option, Some, [], ap, arith, false, get_or, inl, inr, length, option_map, refl, slice_get, sym, true, true≢false, ℕ, ◌<◌, ◌∙◌, ◌∷◌, ◌≡◌, ◌≤◌, ◌⊎◌}
use Rattle.std.proofs.lemmas.List.Elements.{All-cons, All-head, All-nil}
use Rattle.std.proofs.lemmas.List.Quantifiers.{position-Some}
use Rattle.std.proofs.lemmas.Option.{slice_get-map, slice_get_cases, slice_get_within}
use Rattle.std.specs.Prelude.{All, IsSomeAnd, position}

-- ---- what a built-in is by the table

-- a test of kinds that the table answers for a built-in, and that no plain object passes
record Tests (test : Kind → Bool) : Type 0 where
  plain : test graph.Plain ≡ false
  none : (place : ℕ) → intrinsic place ≡ None → test (graph.Standard place) ≡ false

tests-calls : Tests kind_calls
tests-calls = record { plain = refl; none = λ place e. ap (intrinsic_is calls) e }

tests-constructs : Tests kind_constructs
tests-constructs = record { plain = refl; none = λ place e. ap (intrinsic_is constructs) e }

in-table : (test : Kind → Bool) → Tests test → (place : ℕ) → test (graph.Standard place) ≡ true
    → thing_is test (standard_at place) ≡ true
in-table test t place h = by (intrinsic place) refl
  where
    by : (o : Option Intrinsic) → intrinsic place ≡ o → thing_is test (standard_at place) ≡ true
    by None e = absurd (true≢false (sym h ∙ t.none place e))
    by (Some i) e = ap (λ (o : Option Intrinsic). thing_is test (option_map (standard place) o)) e ∙ h

-- ---- an object that is there

module _ (d : Data) (id : ObjId) (c : Cell) (e : cell_at d id ≡ Some c) where
  pub id-there : ObjIn d id
  id-there = slice_get_within d.cells id.0 c e

  pub stands-as : (place : ℕ) → stand c ≡ AtPlace place → object_in (names_of d) id ≡ BuiltIn place
  stands-as place s =
      ap (stood (names_of d) id.0) (slice_get-map stand d.cells id.0 ∙ ap (option_map stand) e ∙ ap Some s)

  its-test : (test : Kind → Bool) → Tests test → test (thing_in (names_of d) c).kind ≡ true
      → thing_is test (thing_at (Image d []) (object_in (names_of d) id)) ≡ true
  its-test test t h = by c.kind refl
    where
      counted : (y : CellKind) → c.kind ≡ y → is_counted (kind_stand y) ≡ true
          → thing_is test (thing_at (Image d []) (object_in (names_of d) id)) ≡ true
      counted y q s = ap (thing_is test) (thing-at d id c [] e (ap (λ (k : CellKind). is_counted (kind_stand k)) q ∙ s)) ∙ h

      no : (y : CellKind) → c.kind ≡ y → kind_in (names_of d) c.slots y ≡ graph.Plain
          → thing_is test (thing_at (Image d []) (object_in (names_of d) id)) ≡ true
      no y q s =
          absurd (true≢false (sym h ∙ ap (λ (k : CellKind). test (kind_in (names_of d) c.slots k)) q ∙ ap test s ∙ t.plain))

      by : (y : CellKind) → c.kind ≡ y → thing_is test (thing_at (Image d []) (object_in (names_of d) id)) ≡ true
      by kind.Plain q = counted kind.Plain q refl
      by kind.Array q = counted kind.Array q refl
      by (kind.Function code) q = counted (kind.Function code) q refl
      by (kind.BuiltIn place) q =
          ap (λ (x : Val). thing_is test (thing_at (Image d []) x)) (stands-as place (ap kind_stand q))
          ∙ in-table test t place (ap (λ (k : CellKind). test (kind_in (names_of d) c.slots k)) (sym q) ∙ h)
      by (kind.Fault fault) q = counted (kind.Fault fault) q refl
      by (kind.Proxy target handler shape) q = counted (kind.Proxy target handler shape) q refl
      by (kind.Revoker proxy) q = counted (kind.Revoker proxy) q refl
      by (kind.Membrane behind shadow) q = no (kind.Membrane behind shadow) q refl
      by (kind.Shadow shape) q = no (kind.Shadow shape) q refl
      by (kind.Collection coll) q = counted (kind.Collection coll) q refl

  its-collection : is_collection c.kind ≡ true → IsCollectionAt d id
  its-collection h = by c.kind refl h
    where
      by : (y : CellKind) → c.kind ≡ y → is_collection y ≡ true → IsCollectionAt d id
      by (kind.Collection coll) q s =
          (thing_in (names_of d) c, thing-at d id c [] e (ap (λ (k : CellKind). is_counted (kind_stand k)) q), rw q tt)
      by y q s = absurd (true≢false (sym s))

  module _ (home : Side) (h : d.joined ≡ false → c.home ≡ home) (s : is_shadow c.kind ≡ false) where
    its-home : d.joined ≡ false → All (IsOwn d home) (id ∷ [])
    its-home u = All-cons (IsOwn d home) id [] (rw e (h u, s)) (All-nil (IsOwn d home))

    its-kind : (y : CellKind) → c.home ≡ home → c.kind ≡ y → IsOfKind d home y id
    its-kind y a b = rw e (a, b)

    pub held-as : IsHeldAs d home id c
    held-as = record {
      object = record { within = id-there; sound = tt; own = its-home };
      value = record { within = id-there; sound = tt; own = its-home };
      prototype = record { within = id-there; sound = tt; own = its-home };
      array = λ a b. record { within = id-there; sound = its-kind kind.Array a b; own = its-home };
      plain = λ a b. record { within = id-there; sound = its-kind kind.Plain a b; own = its-home };
      callable = λ k. record { within = id-there; sound = its-test kind_calls tests-calls k; own = its-home };
      constructor = λ k.
          record { within = id-there; sound = its-test kind_constructs tests-constructs k; own = its-home };
      collection = λ k. record { within = id-there; sound = its-collection k; own = its-home };
    }

-- ---- one that was made, and a built-in

pub counted-shown : (y : CellKind) → is_counted (kind_stand y) ≡ true → is_shadow y ≡ false
counted-shown (kind.Shadow shape) h = absurd (true≢false (sym h))
counted-shown y h = refl

pub made-there : (d : Data) (home : Side) (y : CellKind) (proto : Value) (label : Option StrId) (id : ObjId)
    → id.0 ≡ length d.cells → cell_at (made d home y proto label) id ≡ Some (new_cell d.texts home y proto label)
made-there d home y proto label id n = rw n (last-there d.cells (new_cell d.texts home y proto label))

pub made-held : (d : Data) (home : Side) (y : CellKind) (proto : Value) (label : Option StrId) (id : ObjId)
    → is_counted (kind_stand y) ≡ true → id.0 ≡ length d.cells
    → IsHeldAs (made d home y proto label) home id (new_cell d.texts home y proto label)
made-held d home y proto label id h n =
    held-as (made d home y proto label) id (new_cell d.texts home y proto label)
    (made-there d home y proto label id n) home (λ u. refl) (counted-shown y h)

pub place-kind : (y : CellKind) (place : ℕ) → kind_stand y ≡ AtPlace place → y ≡ kind.BuiltIn place
place-kind kind.Plain place h = cc
place-kind kind.Array place h = cc
place-kind (kind.Function code) place h = cc
place-kind (kind.BuiltIn n) place h = (let e : n ≡ place = cc in ap kind.BuiltIn e)
place-kind (kind.Fault fault) place h = cc
place-kind (kind.Proxy target handler shape) place h = cc
place-kind (kind.Revoker proxy) place h = cc
place-kind (kind.Membrane behind shadow) place h = cc
place-kind (kind.Shadow shape) place h = cc
place-kind (kind.Collection coll) place h = cc

-- what is found is there
position-there : {A : Type 0} (p : A → Bool) (xs : List A) (i : ℕ) → position p xs ≡ Some i → i < length xs
position-there p [] i e = cc
position-there p (x ∷ xs) i e = (position-Some p (x ∷ xs) i x e).0

pub built-in-held : (d : Data) (home : Side) (place : ℕ) (id : ObjId)
    → built_in_of d.joined d.cells home place ≡ Some id → HoldsBuiltIn d home place id
built-in-held d home place id h = by (slice_get_cases d.cells id.0).1
  where
    i : ObjIn d id
    i = position-there (serves d.joined home place) d.cells id.0
        (mapped-some (position (serves d.joined home place) d.cells) id h)

    there : (c : Cell) → cell_at d id ≡ Some c → HoldsBuiltIn d home place id
    there c g =
        let s : stand c ≡ AtPlace place = stands-there d home place id c h g in
        record {
          cell = c;
          there = g;
          kind = place-kind c.kind place s;
          held = held-as d id c g home (λ u. (rw g at (built-in-own d home place id i u h)).0)
              (shown-at c.kind place s);
        }

    by : ((c : Cell) × (id.0 < length d.cells) × (slice_get d.cells id.0 ≡ Some c) × (get_or d.cells id.0 c ≡ c))
        ⊎ ((length d.cells ≤ id.0) × (slice_get d.cells id.0 ≡ None)) → HoldsBuiltIn d home place id
    by (inl p) = there p.0 p.2
    by (inr p) = absurd (omega (arith, p.0, i))

-- ---- functions

function-calls : (n : Names) (slots : List (Option (Value × Value))) (k : CellKind) → is_function_kind k ≡ true
    → (kind_calls (kind_in n slots k) ≡ true) × (is_shadow k ≡ false)
function-calls n slots kind.Plain e = absurd (true≢false (sym e))
function-calls n slots kind.Array e = absurd (true≢false (sym e))
function-calls n slots (kind.Function code) e = (refl, refl)
function-calls n slots (kind.BuiltIn place) e = absurd (true≢false (sym e))
function-calls n slots (kind.Fault which) e = absurd (true≢false (sym e))
function-calls n slots (kind.Proxy target handler shape) e = absurd (true≢false (sym e))
function-calls n slots (kind.Revoker proxy) e = (refl, refl)
function-calls n slots (kind.Membrane behind shadow) e = absurd (true≢false (sym e))
function-calls n slots (kind.Shadow shape) e = absurd (true≢false (sym e))
function-calls n slots (kind.Collection coll) e = absurd (true≢false (sym e))

-- what may be entered may be called
pub function-callable : (d : Data) (home : Side) (id : ObjId) → MayHold d home (HeldFunction id)
    → MayHold d home (HeldCallable (v.Object id))
function-callable d home id h = by (cell_at d id) refl h.sound
  where
    by : (o : Option Cell) → cell_at d id ≡ o → IsSomeAnd o (λ c. is_function_kind c.kind ≡ true)
        → MayHold d home (HeldCallable (v.Object id))
    by None e p = absurd p
    by (Some c) e p =
        let k : (kind_calls (kind_in (names_of d) c.slots c.kind) ≡ true) × (is_shadow c.kind ≡ false)
        = function-calls (names_of d) c.slots c.kind p in
        (held-as d id c e home (λ u. (rw e at (All-head (IsOwn d home) id [] (h.own u))).0) k.1).callable k.0
