-- The walk over prototypes: by ids it is that by what ids stand for.
use Rattle.std.proofs.Common.{◌≡◌, ℕ, zero, suc, ◌+◌, [], ◌∷◌, Bool, true, false, not, nat_eq, Option, Some, None, refl, sym, ap, ◌∙◌, subst, true≢false, arith, if◌then◌else◌}
use Rattle.std.specs.Prelude.{IfSome}
use Rattle.std.proofs.lemmas.Bool.{eqb-true, eq-eqb}
use Rattle.std.proofs.lemmas.Option.{slice_get_within, IfSome_then}
use Rattle.mb_base.specs.declared.value.ObjId.{ObjId}
use Rattle.mb_base.specs.declared.value.Value.{Value}
use Rattle.mb_base.specs.declared.value.Value.TheVariants as v
use Rattle.mb_desc.specs.Values.{equal}
use Rattle.mb_text.specs.Texts.{AreDistinct}
use Rattle.mb_world.specs.declared.cell.Cell.{Cell}
use Rattle.mb_world.specs.Value.{same_value}
use Rattle.mb_world.specs.Ordinary.{prototype_answered}
use Rattle.mb_world.specs.Data.{Data, cell_at}
use Rattle.mb_world.specs.Ids.{ObjIn, ValueIn, CellIn}
use Rattle.mb_world.specs.Image.{names_of, object_in, Resolve}
use Rattle.mb_ordinary.specs.declared.answers.Visit.{Visit}
use Rattle.mb_ordinary.specs.declared.answers.Visit.TheVariants.{Meets, Ends, Onward}
use Rattle.mb_ordinary.specs.Objects.{IsOrdinary, object_at}
use Rattle.mb_ordinary.specs.Definitions.{TellsApart}
use Rattle.mb_ordinary.specs.Walks.{real, visit_of, visited, visited_as, TellsReal, Answered, after_visit, walked, Visits, Here, Later, answered, or_walked, proto_set, proto_set_as, proto_of, TellsWalk}
use Rattle.mb_world.proofs.Values.{value-same, value-equal, same-as}
use Rattle.mb_ordinary.proofs.Cells.{cell-there, at-object}

pub ordinary-in : (d : Data) (o : ObjId) → IsOrdinary (cell_at d o) → ObjIn d o
ordinary-in d o h = let there = cell-there (cell_at d o) h in slice_get_within d.cells o.0 there.0 there.1

-- ---- one visit

meets-same : (d : Data) (o x : ObjId) → TellsReal d o x → nat_eq (real d x).0 o.0 ≡ same_value (object_in (names_of d) (real d x)) (object_in (names_of d) o)
meets-same d o x tells = by (real d x) tells (nat_eq (real d x).0 o.0) refl (same_value (object_in (names_of d) (real d x)) (object_in (names_of d) o)) refl
  where
    by : (r : ObjId) → (object_in (names_of d) r ≡ object_in (names_of d) o → r ≡ o) → (b : Bool) → nat_eq r.0 o.0 ≡ b → (c : Bool) → same_value (object_in (names_of d) r) (object_in (names_of d) o) ≡ c → nat_eq r.0 o.0 ≡ same_value (object_in (names_of d) r) (object_in (names_of d) o)
    by r t true e true f = e ∙ sym f
    by r t false e false f = e ∙ sym f
    by r t true e false f =
        let i : r.0 ≡ o.0 = eqb-true r.0 o.0 e in
        let is : r ≡ o = ap (λ n. let id : ObjId = record { 0 = n } in id) i in
        absurd (true≢false (sym (value-same (object_in (names_of d) o)) ∙ ap (λ z. same_value (object_in (names_of d) z) (object_in (names_of d) o)) (sym is) ∙ f))
    by r t false e true f =
        let is : r ≡ o = t (value-equal (object_in (names_of d) r) (object_in (names_of d) o) f) in
        absurd (true≢false (sym (eq-eqb o.0 o.0 refl) ∙ ap (λ (z : ObjId). nat_eq z.0 o.0) (sym is) ∙ e))

visit-meant : (d : Data) (o x : ObjId) → TellsReal d o x → visited d o x ≡ visited_as d o x
visit-meant d o x tells = ap (λ b. visit_of b d o (cell_at d (real d x))) (meets-same d o x tells)

-- ---- the walk

walked-same : (f g : ObjId → Visit) (n : ℕ) (x : Value) → ((y : ObjId) → Visits f x y → f y ≡ g y) → walked f n x ≡ walked g n x
walked-same f g zero (v.Object x) h = refl
walked-same f g (suc n) (v.Object x) h = by (f x) refl (λ above e. walked-same f g n above (λ y s. h y (Later x y above e s)))
  where
    same : f x ≡ g x
    same = h x (Here x)

    by : (w : Visit) → f x ≡ w → ((above : Value) → f x ≡ Onward above → walked f n above ≡ walked g n above) → walked f (suc n) (v.Object x) ≡ walked g (suc n) (v.Object x)
    by Meets e go = ap (λ w. after_visit w n (walked f n)) e ∙ sym (ap (λ w. after_visit w n (walked g n)) (sym same ∙ e))
    by Ends e go = ap (λ w. after_visit w n (walked f n)) e ∙ sym (ap (λ w. after_visit w n (walked g n)) (sym same ∙ e))
    by (Onward above) e go = ap (λ w. after_visit w n (walked f n)) e ∙ go above e ∙ sym (ap (λ w. after_visit w n (walked g n)) (sym same ∙ e))
walked-same f g zero _ h = refl
walked-same f g (suc n) _ h = refl

pub walked-on : (f : ObjId → Visit) (n m : ℕ) (x above : Value) (o : ObjId) → x ≡ v.Object o → m + 1 ≡ n → f o ≡ Onward above → walked f n x ≡ walked f m above
walked-on f n m x above o is less at =
    let e : n ≡ suc m = omega arith in
    ap (walked f n) is
    ∙ ap (λ k. walked f k (v.Object o)) e
    ∙ ap (λ w. after_visit w m (walked f m)) at

pub walked-ends : (f : ObjId → Visit) (n : ℕ) (x : Value) → ((o : ObjId) → x ≡ v.Object o → ⊥) → walked f n x ≡ Answered true n
walked-ends f n (v.Object o) not = absurd (not o refl)
walked-ends f zero _ not = refl
walked-ends f (suc n) _ not = refl

-- ---- the whole

pub answered-meant : (d : Data) (o : ObjId) (c : Cell) (p : Value) (r : Option Bool) → cell_at d o ≡ Some c → AreDistinct d.texts → CellIn d c → ValueIn d p → r ≡ answered p (cell_at d o) → TellsApart d (p ∷ proto_of (cell_at d o)) → IfSome (object_at d o) (λ t. r ≡ prototype_answered t (Resolve (names_of d) p))
answered-meant d o c p r there distinct within p_in is apart =
    let tells : TellsApart d (p ∷ c.proto ∷ []) = subst (λ xs. TellsApart d (p ∷ xs)) (ap proto_of there) apart in
    let same : same_value (Resolve (names_of d) p) (Resolve (names_of d) c.proto) ≡ equal p c.proto =
    same-as d distinct p c.proto p_in within.proto_in (λ a b e f. tells a b (0, omega arith, e) (1, omega arith, f)) in
    at-object d o c (λ t. r ≡ prototype_answered t (Resolve (names_of d) p)) there
    (is ∙ ap (answered p) there ∙ ap (λ b. if b then Some true else if c.extensible then None else Some false) (sym same))

pub set-meant : (d : Data) (o : ObjId) (p : Value) (n : ℕ) (r : Option Bool) → r ≡ answered p (cell_at d o) → (TellsApart d (p ∷ proto_of (cell_at d o)) → IfSome (object_at d o) (λ t. r ≡ prototype_answered t (Resolve (names_of d) p))) → TellsWalk d o p → IfSome (object_at d o) (λ t. proto_set d o p n ≡ proto_set_as d o p n t)
set-meant d o p n r is meant tells =
    IfSome_then (object_at d o) (meant tells.values) (λ t e. by (answered p (cell_at d o)) refl (prototype_answered t (Resolve (names_of d) p)) (sym is ∙ e))
  where
    by : (w : Option Bool) → answered p (cell_at d o) ≡ w → (u : Option Bool) → answered p (cell_at d o) ≡ u → or_walked n (walked (visited d o) n p) (answered p (cell_at d o)) ≡ or_walked n (walked (visited_as d o) n p) u
    by (Some b) f u e =
        ap (or_walked n (walked (visited d o) n p)) f ∙ sym (ap (or_walked n (walked (visited_as d o) n p)) (sym e ∙ f))
    by None f u e =
        ap (or_walked n (walked (visited d o) n p)) f
        ∙ walked-same (visited d o) (visited_as d o) n p (λ y s. visit-meant d o y (tells.visits f y s))
        ∙ sym (ap (or_walked n (walked (visited_as d o) n p)) (sym e ∙ f))

pub answered-same : (p : Value) (o : Option Cell) (c : Cell) → o ≡ Some c → equal p c.proto ≡ true → Some true ≡ answered p o
answered-same p o c there e = rw (there, e) refl

pub answered-open : (p : Value) (o : Option Cell) (c : Cell) → o ≡ Some c → equal p c.proto ≡ false → c.extensible ≡ true → None ≡ answered p o
answered-open p o c there e f = rw (there, e, f) refl

pub answered-closed : (p : Value) (o : Option Cell) (c : Cell) → o ≡ Some c → equal p c.proto ≡ false → c.extensible ≡ false → Some false ≡ answered p o
answered-closed p o c there e f = rw (there, e, f) refl
