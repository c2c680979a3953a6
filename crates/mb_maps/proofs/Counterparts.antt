-- What a side has for a value: whose it is, what it stands for, and that it crosses back.
use Rattle.std.proofs.Common.{◌≡◌, ℕ, [], ◌∷◌, slice_get, Option, Some, None, Bool, true, false, ◌&&◌, refl, ap, sym, ◌∙◌, ◌⊎◌, inl, inr, subst, arith, option_map, true≢false}
use Rattle.std.specs.Prelude.{All, position, unwrap_or}
use Rattle.std.proofs.lemmas.Bool.{eqb-true, eq-eqb}
use Rattle.std.proofs.lemmas.Option.{slice_get_cases, slice_get-map}
use Rattle.std.proofs.lemmas.List.Elements.{All-cons, All-nil, All-head}
use Rattle.mb_base.specs.declared.value.ObjId.{ObjId}
use Rattle.mb_base.specs.declared.value.Side.{Side}
use Rattle.mb_base.specs.declared.value.Value.{Value}
use Rattle.mb_base.specs.declared.value.Value.TheVariants as v
use Rattle.mb_world.specs.declared.cell.Cell.{Cell}
use Rattle.mb_world.specs.declared.cell.CellKind.{CellKind}
use Rattle.mb_world.specs.declared.cell.CellKind.TheVariants as kind
use Rattle.mb_world.specs.declared.cell.CellKind.TheVariants.{Membrane, BuiltIn}
use Rattle.mb_world.specs.Data.{Data, Stand, Counted, AtPlace, Before, Hidden, kind_stand, stand, stands, cell_at, same_side, stands_before, stands_at, is_proxy_of, proxy_in, serves, built_in_of, obj_id}
use Rattle.mb_world.specs.Ids.{ObjIn, ValueIn}
use Rattle.mb_world.specs.Image.{names_of, object_in, stood}
use Rattle.mb_world.specs.Contained.{Contained, Paired, IsOwn, IsMembrane, HasItsTwo, in_value, is_shadow}
use Rattle.mb_world.proofs.Grow.{All-at}
use Rattle.mb_maps.specs.Crossing.{behind_of, behind_in, meant, object_by, object_if, object_for, counterpart, counterpart_if}
use Rattle.mb_maps.specs.Crossed.{CanCross}
use Rattle.mb_maps.specs.Laws.{IsCounterpart, BackIsWhatWasGiven, CounterpartsStay, IsLater, StaysSo}
use Rattle.mb_maps.proofs.Lists.{some-get, some-is, obj-same, side-same, position-there, position-at, same-nat}

both : (a b : Bool) → a && b ≡ true → (a ≡ true) × (b ≡ true)
both true true h = (refl, refl)
both true false h = cc
both false b h = cc

same-home : (a b : Side) → same_side a b ≡ true → a ≡ b
same-home a b h = side-same a b (eqb-true a.0 b.0 h)

flipped : (a b : Side) → same_side a b ≡ false → same_side b a ≡ false
flipped a b h = by (same_side b a) refl
  where
    by : (t : Bool) → same_side b a ≡ t → same_side b a ≡ false
    by false e = e
    by true e = absurd (let q = eqb-true b.0 a.0 e in let z : same_side a b ≡ true = eq-eqb a.0 b.0 (sym q) in true≢false (sym z ∙ h))

-- ---- kinds by what they stand for

before-is : (k : CellKind) (n : ℕ) → stands_before n (kind_stand k) ≡ true → (b s : ObjId) × (k ≡ Membrane b s) × (n ≡ b.0)
before-is (Membrane b s) n h = (b, s, refl, eqb-true n b.0 h)
before-is k n h = cc

place-is : (k : CellKind) (n : ℕ) → stands_at n (kind_stand k) ≡ true → k ≡ BuiltIn n
place-is (BuiltIn place) n h = ap BuiltIn (sym (eqb-true n place h))
place-is k n h = cc

pub at-place-is : (k : CellKind) (n : ℕ) → kind_stand k ≡ AtPlace n → k ≡ BuiltIn n
at-place-is (BuiltIn place) n h = cc
at-place-is k n h = cc

abbrev pub stand_behind : Stand → Option ObjId
stand_behind (Before n) = Some (obj_id n)
stand_behind s = None

behind-by-stand : (k : CellKind) → behind_of k ≡ stand_behind (kind_stand k)
behind-by-stand (Membrane b s) = refl
behind-by-stand k = refl

-- ---- proxies and built-ins that are found

module _ (d : Data) where
  pub proxy-is : (side : Side) (id p : ObjId) → proxy_in d.cells side id ≡ Some p → (s : ObjId) × IsMembrane d p side id s
  proxy-is side id p h = by (position (is_proxy_of side id) d.cells) refl h
    where
      by : (o : Option ℕ) → position (is_proxy_of side id) d.cells ≡ o → option_map obj_id o ≡ Some p → (s : ObjId) × IsMembrane d p side id s
      by None e k = cc
      by (Some n) e k =
          let q = position-at (is_proxy_of side id) d.cells n e in
          let t = both (same_side side q.0.home) (stands_before id.0 (stand q.0)) q.2 in
          let m = before-is q.0.kind id.0 t.1 in
          let z : p ≡ obj_id n = cc in
          let b : m.0 ≡ id = obj-same m.0 id (sym m.3) in (
            m.1,
            record {
              cell = q.0;
              there = rw z q.1;
              home_is = sym (same-home side q.0.home t.0);
              kind_is = m.2 ∙ ap (λ (x : ObjId). Membrane x m.1) b;
            },
          )

  pub proxy-found : Paired d → (side : Side) (id p s : ObjId) → IsMembrane d p side id s → proxy_in d.cells side id ≡ Some p
  proxy-found h side id p s m =
      let passes : is_proxy_of side id m.cell ≡ true = rw (m.home_is, m.kind_is, same-nat side.0, same-nat id.0) refl in
      let q = position-there (is_proxy_of side id) d.cells p.0 m.cell m.there passes in
      let found : proxy_in d.cells side id ≡ Some (obj_id q.0) = ap (option_map obj_id) q.1 in
      let other = proxy-is side id (obj_id q.0) found in
      found ∙ ap Some (h.one_for_an_object (obj_id q.0) p id other.0 s side other.1 m)

  -- a built-in of that side and place
  pub record IsBuiltIn (side : Side) (place : ℕ) (id : ObjId) : Type 0 where
    pub cell : Cell
    pub there : cell_at d id ≡ Some cell
    pub home_is : cell.home ≡ side
    pub kind_is : cell.kind ≡ BuiltIn place

  pub built-in-is : (side : Side) (place : ℕ) (o : ObjId) → built_in_of false d.cells side place ≡ Some o → IsBuiltIn side place o
  built-in-is side place o h = by (position (serves false side place) d.cells) refl h
    where
      by : (x : Option ℕ) → position (serves false side place) d.cells ≡ x → option_map obj_id x ≡ Some o → IsBuiltIn side place o
      by None e k = cc
      by (Some n) e k =
          let q = position-at (serves false side place) d.cells n e in
          let t = both (same_side side q.0.home) (stands_at place (stand q.0)) q.2 in
          let z : o ≡ obj_id n = cc in
          record { cell = q.0; there = rw z q.1; home_is = sym (same-home side q.0.home t.0); kind_is = place-is q.0.kind place t.1 }

  pub built-in-found : Contained d → (side : Side) (place : ℕ) (o : ObjId) → IsBuiltIn side place o → built_in_of false d.cells side place ≡ Some o
  built-in-found h side place o b =
      let passes : serves false side place b.cell ≡ true = rw (b.home_is, b.kind_is, same-nat side.0, same-nat place) refl in
      let q = position-there (serves false side place) d.cells o.0 b.cell b.there passes in
      let found : built_in_of false d.cells side place ≡ Some (obj_id q.0) = ap (option_map obj_id) q.1 in
      let other = built-in-is side place (obj_id q.0) found in
      found ∙ ap Some (h.one_for_a_place (obj_id q.0) o place other.cell b.cell other.there b.there (other.home_is ∙ sym b.home_is) other.kind_is b.kind_is)

-- ---- what a side has for an object

-- the object itself, a built-in or a proxy
pub data IsFor (d : Data) (side : Side) (id : ObjId) (c : Cell) (o : ObjId) : Type 0 where
  OfPlace : (place : ℕ) → stand c ≡ AtPlace place → built_in_of false d.cells side place ≡ Some o → IsFor d side id c o
  Itself : stand c ≡ Counted → same_side c.home side ≡ true → o ≡ id → IsFor d side id c o
  Proxied : stand c ≡ Counted → same_side c.home side ≡ false → proxy_in d.cells side id ≡ Some o → IsFor d side id c o

-- an object or a built-in
abbrev pub IsReal : Stand → Type 0
IsReal Counted = Unit {0}
IsReal (AtPlace place) = Unit {0}
IsReal s = ⊥

pub for-is : (d : Data) (side : Side) (id : ObjId) (c : Cell) (o : ObjId) → cell_at d id ≡ Some c → IsReal (stand c) → object_for d side id ≡ Some o → IsFor d side id c o
for-is d side id c o e real h = by (stand c) (same_side c.home side) refl refl real (rw e at h)
  where
    by : (s : Stand) (own : Bool) → stand c ≡ s → same_side c.home side ≡ own → IsReal s → object_by d.cells side id own s ≡ Some o → IsFor d side id c o
    by (AtPlace place) own p q r k = OfPlace place p k
    by Counted true p q r k = Itself p q cc
    by Counted false p q r k = Proxied p q k
    by (Before n) own p q r k = absurd r
    by Hidden own p q r k = absurd r

-- what is meant
pub record IsMeant (d : Data) (id m : ObjId) (x : Cell) : Type 0 where
  pub cell : Cell
  pub there : cell_at d m ≡ Some cell
  pub real : IsReal (stand cell)
  pub means : object_in (names_of d) id ≡ object_in (names_of d) m
  -- it is behind the proxy that x is, or x itself
  pub how : ((s : ObjId) × (x.kind ≡ Membrane m s) × (stand cell ≡ Counted)) ⊎ ((m ≡ id) × (cell ≡ x))

stand-at : (d : Data) (id : ObjId) (c : Cell) → cell_at d id ≡ Some c → slice_get (stands d.cells) id.0 ≡ Some (stand c)
stand-at d id c e = slice_get-map stand d.cells id.0 ∙ ap (option_map stand) e

stood-at : (d : Data) (id : ObjId) (c : Cell) (s : Stand) → cell_at d id ≡ Some c → stand c ≡ s → object_in (names_of d) id ≡ stood (names_of d) id.0 (Some s)
stood-at d id c s e h = ap (stood (names_of d) id.0) (stand-at d id c e ∙ ap Some h)

pub meant-is : (d : Data) → Paired d → (id : ObjId) (x : Cell) → cell_at d id ≡ Some x → is_shadow x.kind ≡ false → IsMeant d id (meant d id) x
meant-is d h id x e n = subst (λ (m : ObjId). IsMeant d id m x) (sym (ap (λ (o : Option Cell). unwrap_or (behind_in o) id) e)) (by x.kind refl n)
  where
    itself : behind_of x.kind ≡ None → IsReal (stand x) → IsMeant d id (unwrap_or (behind_of x.kind) id) x
    itself b r = rw b (record { cell = x; there = e; real = r; means = refl; how = inr (refl, refl) })

    by : (k : CellKind) → x.kind ≡ k → is_shadow k ≡ false → IsMeant d id (unwrap_or (behind_of x.kind) id) x
    by (Membrane b s) k z =
        let m : IsMembrane d id x.home b s = record { cell = x; there = e; home_is = refl; kind_is = k } in
        let q = some-get (λ (c : Cell). stand c ≡ Counted) (cell_at d b) (h.behind_is_object id b s x.home m) in
        let u : unwrap_or (behind_of x.kind) id ≡ b = ap (λ (k : CellKind). unwrap_or (behind_of k) id) k in
        subst (λ (m : ObjId). IsMeant d id m x) (sym u) (record {
          cell = q.0;
          there = q.1;
          real = rw q.2 tt;
          means = stood-at d id x (Before b.0) e (ap kind_stand k) ∙ sym (stood-at d b q.0 Counted q.1 q.2);
          how = inl (s, k, q.2);
        })
    by (kind.Shadow shape) k z = cc
    by k e' z = itself (ap behind_of e') (rw e' tt)

pub counted-shadow : (k : CellKind) → kind_stand k ≡ Counted → is_shadow k ≡ false
counted-shadow (kind.Shadow shape) e = cc
counted-shadow k e = refl

pub meant-kept : (d d' : Data) (id : ObjId) (x : Cell) → cell_at d id ≡ Some x → cell_at d' id ≡ Some x → meant d' id ≡ meant d id
meant-kept d d' id x e e' = rw (e, e') refl

pub object-proxied : (d : Data) (to : Side) (m : ObjId) (c : Cell) (p : ObjId) → cell_at d m ≡ Some c → stand c ≡ Counted → same_side c.home to ≡ false
    → proxy_in d.cells to m ≡ Some p → object_for d to m ≡ Some p
object-proxied d to m c p e s h k = rw (e, h, s) k

pub counterpart-by : (d : Data) (to : Side) (id m o : ObjId) → d.joined ≡ false → meant d id ≡ m → object_for d to m ≡ Some o
    → counterpart d to (v.Object id) ≡ Some (v.Object o)
counterpart-by d to id m o j e h = rw (j, e, h) refl

-- ---- whose it is, and what it stands for

module _ (d : Data) (can : CanCross d) (to : Side) (m : ObjId) (c : Cell) (there : cell_at d m ≡ Some c) (o : ObjId) (for : IsFor d to m c o) where
  -- a cell of that home that is no shadow
  own-cell : (id : ObjId) (x : Cell) (side : Side) → cell_at d id ≡ Some x → x.home ≡ side → is_shadow x.kind ≡ false → IsOwn d side id
  own-cell id x side e h n = rw e (h, n)

  pub own-for : IsOwn d to o
  own-for = elim for [
    | OfPlace place s b ↦ (let q = built-in-is d to place o b in own-cell o q.cell to q.there q.home_is (rw q.kind_is refl))
    | Itself s h e ↦ rw e (own-cell m c to there (same-home c.home to h) (counted-shadow c.kind s))
    | Proxied s h e ↦ (let q = (proxy-is d to m o e).1 in own-cell o q.cell to q.there q.home_is (rw q.kind_is refl))
  ]

  pub means-for : object_in (names_of d) o ≡ object_in (names_of d) m
  means-for = elim for [
    | OfPlace place s b ↦ (let q = built-in-is d to place o b in
        stood-at d o q.cell (AtPlace place) q.there (ap kind_stand q.kind_is) ∙ sym (stood-at d m c (AtPlace place) there s))
    | Itself s h e ↦ ap (object_in (names_of d)) e
    | Proxied s h e ↦ (let q = (proxy-is d to m o e).1 in
        stood-at d o q.cell (Before m.0) q.there (ap kind_stand q.kind_is) ∙ sym (stood-at d m c Counted there s))
  ]

-- ---- and back

counted-behind : (k : CellKind) → kind_stand k ≡ Counted → behind_of k ≡ None
counted-behind (Membrane b s) e = cc
counted-behind k e = refl

meant-counted : (d : Data) (id : ObjId) (c : Cell) → cell_at d id ≡ Some c → behind_of c.kind ≡ None → meant d id ≡ id
meant-counted d id c e b = rw (e, b) refl

meant-proxy : (d : Data) (p m s : ObjId) (side : Side) → IsMembrane d p side m s → meant d p ≡ m
meant-proxy d p m s side q = rw (q.there, q.kind_is) refl

module _ (d : Data) (can : CanCross d) (id : ObjId) (x : Cell) (there : cell_at d id ≡ Some x) (shadow : is_shadow x.kind ≡ false) where
  abbrev m : ObjId
  m = meant d id

  abbrev mine : IsMeant d id m x
  mine = meant-is d can.paired id x there shadow

  -- what the side of the value has for what the value means is the value
  home-again : stand mine.cell ≡ Counted → object_for d x.home m ≡ Some id
  home-again s = elim mine.how [
    | inl q ↦ (
        let p : IsMembrane d id x.home m q.0 = record { cell = x; there = there; home_is = refl; kind_is = q.1 } in
        let two : HasItsTwo d x.home (Membrane m q.0) = rw q.1 at (All-at (λ (c : Cell). HasItsTwo d c.home c.kind) d.cells id.0 x there can.contained.two_of_proxies) in
        let away : same_side mine.cell.home x.home ≡ false = (some-is (λ (c : Cell). (same_side c.home x.home ≡ false) × (is_shadow c.kind ≡ false)) (cell_at d m) mine.cell mine.there two.0).0 in
        rw (mine.there, away, s) (proxy-found d can.paired x.home m id q.0 p))
    | inr q ↦ (
        let own : same_side mine.cell.home x.home ≡ true = rw q.1 (same-nat x.home.0) in
        rw (mine.there, own, s) (ap Some q.0))
  ]

  pub back-for : (to : Side) (o : ObjId) → IsFor d to m mine.cell o → object_for d x.home (meant d o) ≡ Some id
  back-for to o for = elim for [
    | OfPlace place s b ↦ (
        let q = built-in-is d to place o b in
        let same : meant d o ≡ o = meant-counted d o q.cell q.there (ap behind_of q.kind_is) in
        let y : mine.cell ≡ x = elim mine.how [ inl r ↦ absurd (let z : AtPlace place ≡ Counted = sym s ∙ r.2 in cc) | inr r ↦ r.1 ] in
        let k : x.kind ≡ BuiltIn place = at-place-is x.kind place (ap stand (sym y) ∙ s) in
        rw (same, q.there, q.kind_is) (built-in-found d can.contained x.home place id (record { cell = x; there = there; home_is = refl; kind_is = k })))
    | Itself s h e ↦ ap (λ (y : ObjId). object_for d x.home (meant d y)) e ∙ ap (object_for d x.home) (meant-counted d m mine.cell mine.there (counted-behind mine.cell.kind s)) ∙ home-again s
    | Proxied s h e ↦ (let q = proxy-is d to m o e in ap (object_for d x.home) (meant-proxy d o m q.0 to q.1) ∙ home-again s)
  ]

-- ---- values

-- the cell of a reference
cell-of : (d : Data) (from : Side) (id : ObjId) → All (IsOwn d from) (id ∷ []) → (x : Cell) × (cell_at d id ≡ Some x) × ((x.home ≡ from) × (is_shadow x.kind ≡ false))
cell-of d from id h = some-get (λ (c : Cell). (c.home ≡ from) × (is_shadow c.kind ≡ false)) (cell_at d id) (All-head (IsOwn d from) id [] h)

object-some : (o : Option ObjId) (y : Value) → option_map (λ o. v.Object o) o ≡ Some y → (id : ObjId) × (o ≡ Some id) × (y ≡ v.Object id)
object-some None y e = cc
object-some (Some id) y e = (id, refl, cc)

module _ (d : Data) (from to : Side) (apart : d.joined ≡ false) (can : CanCross d) where
  of-object : (id : ObjId) (y : Value) → All (IsOwn d from) (id ∷ []) → counterpart_if false d to (v.Object id) ≡ Some y → IsCounterpart d from to (v.Object id) y
  of-object id y h e =
      let x = cell-of d from id h in
      let z = object-some (object_for d to (meant d id)) y e in
      let mine = meant-is d can.paired id x.0 x.1 x.2.1 in
      let for = for-is d to (meant d id) mine.cell z.0 mine.there mine.real z.1 in
      rw z.2 (record {
        own = All-cons (IsOwn d to) z.0 [] (own-for d can to (meant d id) mine.cell mine.there z.0 for) (All-nil (IsOwn d to));
        meaning = means-for d can to (meant d id) mine.cell mine.there z.0 for ∙ sym mine.means;
        back = rw (apart, sym x.2.0, back-for d can id x.0 x.1 x.2.1 to z.0 for) refl;
      })

  pub counterpart-is : (x y : Value) → All (IsOwn d from) (in_value x) → counterpart d to x ≡ Some y → IsCounterpart d from to x y
  counterpart-is x y h e = by x h (rw apart at e)
    where
      same : (x : Value) → ((b : Bool) → counterpart_if b d from x ≡ Some x) → in_value x ≡ [] → Some x ≡ Some y → IsCounterpart d from to x y
      same x f n e = let z : y ≡ x = cc in rw z (record { own = rw n (All-nil (IsOwn d to)); meaning = refl; back = f d.joined })

      by : (x : Value) → All (IsOwn d from) (in_value x) → counterpart_if false d to x ≡ Some y → IsCounterpart d from to x y
      by (v.Object id) h e = of-object id y h e
      by v.Undefined h e = same v.Undefined (λ b. elim b as (λ b. counterpart_if b d from v.Undefined ≡ Some v.Undefined) [ true ↦ refl | false ↦ refl ]) refl e
      by v.Null h e = same v.Null (λ b. elim b as (λ b. counterpart_if b d from v.Null ≡ Some v.Null) [ true ↦ refl | false ↦ refl ]) refl e
      by (v.Bool t) h e = same (v.Bool t) (λ b. elim b as (λ b. counterpart_if b d from (v.Bool t) ≡ Some (v.Bool t)) [ true ↦ refl | false ↦ refl ]) refl e
      by (v.Whole n) h e = same (v.Whole n) (λ b. elim b as (λ b. counterpart_if b d from (v.Whole n) ≡ Some (v.Whole n)) [ true ↦ refl | false ↦ refl ]) refl e
      by (v.Text t) h e = same (v.Text t) (λ b. elim b as (λ b. counterpart_if b d from (v.Text t) ≡ Some (v.Text t)) [ true ↦ refl | false ↦ refl ]) refl e
      by (v.Symbol t) h e = same (v.Symbol t) (λ b. elim b as (λ b. counterpart_if b d from (v.Symbol t) ≡ Some (v.Symbol t)) [ true ↦ refl | false ↦ refl ]) refl e

pub back-is-what-was-given : BackIsWhatWasGiven
back-is-what-was-given d from to x y apart can within own e = counterpart-is d from to apart can x y own e

-- ---- later

behind-stays : (d d' : Data) (id : ObjId) (c c' : Cell) → cell_at d id ≡ Some c → cell_at d' id ≡ Some c' → StaysSo c c' → meant d' id ≡ meant d id
behind-stays d d' id c c' e e' s = rw (e, e', behind-by-stand c'.kind, behind-by-stand c.kind, s.stands) refl

module _ (d d' : Data) (later : IsLater d d') (to : Side) where
  built-in-stays : (place : ℕ) (o : ObjId) → built_in_of false d.cells to place ≡ Some o → built_in_of false d'.cells to place ≡ Some o
  built-in-stays place o h =
      let b = built-in-is d to place o h in
      let q = later.cells o b.cell b.there in
      built-in-found d' later.can_cross.contained to place o (record {
        cell = q.0;
        there = q.1;
        home_is = q.2.home ∙ b.home_is;
        kind_is = at-place-is q.0.kind place (q.2.stands ∙ ap kind_stand b.kind_is);
      })

  proxy-stays : (m o : ObjId) → proxy_in d.cells to m ≡ Some o → proxy_in d'.cells to m ≡ Some o
  proxy-stays m o h = let p = proxy-is d to m o h in proxy-found d' later.paired.paired to m o p.0 (later.paired.keeps o m p.0 to p.1)

  by-stays : (m o : ObjId) (s : Stand) (own : Bool) → object_by d.cells to m own s ≡ Some o → object_by d'.cells to m own s ≡ Some o
  by-stays m o (AtPlace place) own h = built-in-stays place o h
  by-stays m o Counted true h = h
  by-stays m o (Before n) true h = h
  by-stays m o Hidden true h = h
  by-stays m o Counted false h = proxy-stays m o h
  by-stays m o (Before n) false h = proxy-stays m o h
  by-stays m o Hidden false h = proxy-stays m o h

  object-stays : (m o : ObjId) → object_for d to m ≡ Some o → object_for d' to m ≡ Some o
  object-stays m o h = by (cell_at d m) refl h
    where
      by : (x : Option Cell) → cell_at d m ≡ x → object_if d.cells to m x ≡ Some o → object_for d' to m ≡ Some o
      by None e k = cc
      by (Some c) e k =
          let q = later.cells m c e in
          rw (q.1, q.2.home, q.2.stands) (by-stays m o (stand c) (same_side c.home to) k)

  meant-stays : (id : ObjId) → ObjIn d id → meant d' id ≡ meant d id
  meant-stays id l = elim (slice_get_cases d.cells id.0).1 [
    | inl q ↦ (let y = later.cells id q.0 q.2 in behind-stays d d' id q.0 y.0 q.2 y.1 y.2)
    | inr q ↦ absurd (omega (arith, l, q.0))
  ]

  if-stays : (joined : Bool) (x y : Value) → ValueIn d x → counterpart_if joined d to x ≡ Some y → counterpart_if joined d' to x ≡ Some y
  if-stays true x y i h = h
  if-stays false (v.Object id) y i h =
      let z = object-some (object_for d to (meant d id)) y h in
      rw (meant-stays id i, object-stays (meant d id) z.0 z.1) (ap Some (sym z.2))
  if-stays false v.Undefined y i h = h
  if-stays false v.Null y i h = h
  if-stays false (v.Bool t) y i h = h
  if-stays false (v.Whole n) y i h = h
  if-stays false (v.Text t) y i h = h
  if-stays false (v.Symbol t) y i h = h

  pub value-stays : (x y : Value) → ValueIn d x → counterpart d to x ≡ Some y → counterpart d' to x ≡ Some y
  value-stays x y i h = ap (λ (j : Bool). counterpart_if j d' to x) later.joined ∙ if-stays d.joined x y i h

pub counterparts-stay : CounterpartsStay
counterparts-stay d d' to x y can later i h = value-stays d d' later to x y i h
