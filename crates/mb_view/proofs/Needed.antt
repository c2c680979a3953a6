-- The examples that show why a premise or a rule is there.
use Rattle.std.proofs.Common.{◌≡◌, ℕ, Bool, true, false, nat_eq, List, [], ◌∷◌, None, Some, refl, sym, ap, ◌∙◌, subst, arith}
use Rattle.std.proofs.lemmas.Bool.{eqb-true, eq-eqb}
use Rattle.std.proofs.lemmas.Map.Keys.{IsDistinct-cons}
use Rattle.std.specs.List.{IsDistinct}
use Rattle.mb_desc.specs.declared.descriptor.Full.{Full}
use Rattle.mb_desc.specs.declared.descriptor.Full.TheVariants.{Datum, Accessor}
use Rattle.mb_desc.specs.Descriptors.{is_configurable}
use Rattle.mb_desc.specs.Validate.{Validate}
use Rattle.mb_desc.specs.Laws.{KeepsFixed}
use Rattle.mb_view.specs.Sublists.{IsSublist, before}
use Rattle.mb_view.specs.Views.{property_of, HasDistinctKeys, KeepsFacts, texts}
use Rattle.mb_view.specs.Changes.{Change, changed_by, AreAllowed}
use Rattle.mb_view.specs.Following.{IsAlike}
use Rattle.mb_view.specs.Needs.{all_texts, fixed_one, getter, two, RulingIsNeeded, OrderIsNeeded, BeganIsNeeded, LeanLosesOrder}
use Rattle.mb_view.proofs.Sorted.{sorted-changes}

two-one : ◌≡◌ {A = ℕ} 2 1 → ⊥
two-one e = omega arith

pub ruling-needed : RulingIsNeeded
unfolding Validate
ruling-needed h =
    let m = h.properties 7 (Datum 1 false false false) refl refl in
    let e : Some (Datum 2 false false false) ≡ Some m.0 = m.1 in
    let f : Datum 2 false false false ≡ m.0 = cc in
    let k : KeepsFixed (Datum 1 false false false) (Datum 2 false false false) = subst (KeepsFixed (Datum 1 false false false)) (sym f) m.2 in
    two-one (k.2 refl).1

getter-fixes : KeepsFacts nat_eq getter fixed_one
getter-fixes = record {
  properties = λ key property at fixed. absurd (by key property at fixed (nat_eq key 7) refl);
  closed = λ c. let no : true ≡ false = c in absurd (cc);
  prototype = λ c. refl;
  absent = λ c key none. let no : true ≡ false = c in absurd (cc);
}
  where
    by : (key : ℕ) (property : Full ℕ) → property_of nat_eq getter key ≡ Some property → is_configurable property ≡ false → (b : Bool) → nat_eq key 7 ≡ b → ⊥
    by key property at fixed true t =
        let e : Some (Accessor 5 0 false true) ≡ Some property = rw t at at in
        let f : Accessor 5 0 false true ≡ property = cc in
        let no : true ≡ false = ap is_configurable f ∙ fixed in
        absurd (cc)
    by key property at fixed false t = let no : None ≡ Some property = rw t at at in absurd (cc)

pub began-needed : BeganIsNeeded
began-needed = record {
  evolves = getter-fixes;
  nested = (tt, (tt, tt));
  later = λ h. let no : true ≡ false = h.1.0.0 in absurd (cc);
  get_first = tt;
  get_last = λ h. two-one h;
  has_first = λ property at. let no : None ≡ Some property = at in absurd (cc);
  has_last = λ h. let m = h (Datum 1 false false false) refl in let no : false ≡ true = m.0 in absurd (cc);
}

sound : (x y : ℕ) → nat_eq x y ≡ true → x ≡ y
sound = eqb-true

reflexive : (x : ℕ) → nat_eq x x ≡ true
reflexive x = eq-eqb x x refl

distinct-none : IsDistinct nat_eq []
unfolding IsDistinct
distinct-none = tt

two-distinct : HasDistinctKeys nat_eq (two 1 2)
two-distinct = IsDistinct-cons nat_eq 1 (2 ∷ []) (refl, tt) (IsDistinct-cons nat_eq 2 [] tt distinct-none)

-- the properties of two views are the same but for their order
two-facts : KeepsFacts nat_eq (two 1 2) (two 2 1)
two-facts = record {
  properties = λ key property at fixed. by key property at (nat_eq key 1) (nat_eq key 2) refl refl;
  closed = λ c. let no : true ≡ false = c in absurd (cc);
  prototype = λ c. refl;
  absent = λ c key none. let no : true ≡ false = c in absurd (cc);
}
  where
    kept : (property : Full ℕ) → Some (Datum 1 false false false) ≡ Some property → KeepsFixed property (Datum 1 false false false)
    kept property e =
        let f : Datum 1 false false false ≡ property = cc in
        subst (λ (p : Full ℕ). KeepsFixed p (Datum 1 false false false)) f (refl, refl, λ w. (refl, refl))

    by : (key : ℕ) (property : Full ℕ) → property_of nat_eq (two 1 2) key ≡ Some property → (a b : Bool) → nat_eq key 1 ≡ a → nat_eq key 2 ≡ b
        → (later : Full ℕ) × (property_of nat_eq (two 2 1) key ≡ Some later) × KeepsFixed property later
    by key property at a true s t = (Datum 1 false false false, rw t refl, kept property (two-there key property at a s t))
      where
        two-there : (key : ℕ) (property : Full ℕ) → property_of nat_eq (two 1 2) key ≡ Some property → (a : Bool) → nat_eq key 1 ≡ a → nat_eq key 2 ≡ true → Some (Datum 1 false false false) ≡ Some property
        two-there key property at true s t = rw s at at
        two-there key property at false s t = rw (s, t) at at
    by key property at true false s t = (Datum 1 false false false, rw (t, s) refl, kept property (rw s at at))
    by key property at false false s t = let no : None ≡ Some property = rw (s, t) at at in absurd (cc)

pub order-needed : OrderIsNeeded
order-needed = (two-facts, by)
  where
    by : (changes : List (Change ℕ ℕ)) → AreAllowed nat_eq nat_eq 0 changes (two 1 2) → IsAlike nat_eq all_texts (changed_by nat_eq changes (two 1 2)) (two 2 1) → ⊥
    by changes allowed alike =
        let h = sorted-changes nat_eq all_texts sound reflexive nat_eq 0 sound changes (two 1 2) two-distinct allowed in
        let k : IsSublist (before (nat_eq 1) (texts all_texts (changed_by nat_eq changes (two 1 2)))) [] = h.order.texts.fixed 1 refl (Datum 1 false false false, refl, refl) in
        subst (λ (xs : List ℕ). IsSublist (before (nat_eq 1) xs) []) alike.texts k

pub lean-loses : LeanLosesOrder
lean-loses h = let no = h.texts.fixed 2 refl (Datum 1 false false false, refl, refl) in absurd (no)
