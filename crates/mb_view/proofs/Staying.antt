-- A fact that holds of a view holds of each view that follows it.
use Rattle.std.proofs.Common.{◌≡◌, Bool, true, false, Option, None, Some, refl, sym, ◌∙◌, subst}
use Rattle.mb_desc.specs.declared.descriptor.Full.{Full}
use Rattle.mb_desc.specs.declared.descriptor.Full.TheVariants.{Datum, Accessor}
use Rattle.mb_desc.specs.Descriptors.{is_configurable, is_enumerable}
use Rattle.mb_desc.specs.Laws.{KeepsFixed}
use Rattle.mb_desc.specs.View.{View}
use Rattle.mb_view.specs.Views.{KeepsFacts}
use Rattle.mb_view.specs.Promises.{Content, Anything, Data, Constant, Accessors, Promise, Fact, Closed, Fixed, Absent, Only, Prototype, Agrees, KeepsContent, Keeps, Holds}
use Rattle.mb_view.specs.Entries.{content_of, promise_of}
use Rattle.mb_view.proofs.Showing.{keeps-enumerable, keeps-configurable}
use Rattle.mb_view.proofs.Evolving.{keeps-refl}

agrees-later : {A : Type 0} (told : Option A) (one two : A) → two ≡ one → Agrees told one → Agrees told two
agrees-later None one two e h = tt
agrees-later (Some t) one two e h = e ∙ h

module _ {V : Type 0} where
  content-later : (content : Content V) (p q : Full V) → KeepsFixed p q → KeepsContent content p → KeepsContent content q
  content-later Anything p q h k = tt
  content-later Data (Datum v w e c) (Datum v' w' e' c') h k = tt
  content-later Data (Datum v w e c) (Accessor g s e' c') h k = absurd h
  content-later Data (Accessor g s e c) q h k = absurd k
  content-later (Constant told) (Datum v w e c) (Datum v' w' e' c') h k = ((h.2 k.0).0, agrees-later told v v' (h.2 k.0).1 k.1)
  content-later (Constant told) (Datum v w e c) (Accessor g s e' c') h k = absurd h
  content-later (Constant told) (Accessor g s e c) q h k = absurd k
  content-later (Accessors get set) (Datum v w e c) q h k = absurd k
  content-later (Accessors get set) (Accessor g s e c) q h k = subst (KeepsContent (Accessors get set)) (sym h) k

  pub keeps-later : (promise : Promise V) (p q : Full V) → KeepsFixed p q → Keeps promise p → Keeps promise q
  keeps-later promise p q h k =
      (keeps-configurable p q h ∙ k.0, agrees-later promise.enumerable (is_enumerable p) (is_enumerable q) (keeps-enumerable p q h) k.1, content-later promise.content p q h k.2)

  -- the promise of a property says all that it keeps
  pub keeps-its_promise : (p q : Full V) → is_configurable p ≡ false → KeepsFixed p q → Keeps (promise_of p) q
  keeps-its_promise p q c h = (keeps-configurable p q h ∙ c, keeps-enumerable p q h, by p q h)
    where
      by : (p q : Full V) → KeepsFixed p q → KeepsContent (content_of p) q
      by (Datum v true e c) (Datum v' w' e' c') h = tt
      by (Datum v false e c) (Datum v' w' e' c') h = h.2 refl
      by (Datum v true e c) (Accessor g s e' c') h = absurd h
      by (Datum v false e c) (Accessor g s e' c') h = absurd h
      by (Accessor g s e c) q h = subst (KeepsContent (Accessors (Some g) (Some s))) (sym h) (refl, refl)

  pub keeps-from_promise : (p q : Full V) → Keeps (promise_of p) q → is_configurable p ≡ false → KeepsFixed p q
  keeps-from_promise (Datum v true e c) (Datum v' w' e' c') h fixed = (h.1, h.0 ∙ sym fixed, λ w. absurd (let no : true ≡ false = w in cc))
  keeps-from_promise (Datum v false e c) (Datum v' w' e' c') h fixed = (h.1, h.0 ∙ sym fixed, λ w. h.2)
  keeps-from_promise (Datum v true e c) (Accessor g s e' c') h fixed = absurd h.2
  keeps-from_promise (Datum v false e c) (Accessor g s e' c') h fixed = absurd h.2
  keeps-from_promise (Accessor g s e c) (Datum v w e' c') h fixed = absurd h.2
  keeps-from_promise (Accessor g s e c) (Accessor g' s' e' c') h fixed =
      let a : g' ≡ g = h.2.0 in
      let b : s' ≡ s = h.2.1 in
      let x : e' ≡ e = h.1 in
      let y : c' ≡ c = h.0 ∙ sym fixed in
      cc

module _ {K V : Type 0} (same_key : K → K → Bool) where
  pub holds-later : (fact : Fact K V) (one two : View K V) → KeepsFacts same_key one two → Holds same_key fact one → Holds same_key fact two
  holds-later Closed one two h k = h.closed k
  holds-later (Fixed key promise) one two h k =
      let m = h.properties key k.0 k.1 k.2.0 in
      (m.0, m.1, keeps-later promise k.0 m.0 m.2 k.2)
  holds-later (Absent key) one two h k = (h.closed k.0, h.absent k.0 key k.1)
  holds-later (Only keys) one two h k = (h.closed k.0, λ key out. h.absent k.0 key (k.1 key out))
  holds-later (Prototype prototype) one two h k = (h.closed k.0, h.prototype k.0 ∙ k.1)

  -- and two views of which the same facts hold, or more of the later one, keep the fixed facts
  pub facts-from_holds : (one two : View K V) → ((fact : Fact K V) → Holds same_key fact one → Holds same_key fact two) → KeepsFacts same_key one two
  facts-from_holds one two h = record {
    properties = λ key property at fixed.
        let m = h (Fixed key (promise_of property)) (property, at, keeps-its_promise property property fixed (keeps-refl property)) in
        (m.0, m.1, keeps-from_promise property m.0 m.2 fixed);
    closed = λ c. h Closed c;
    prototype = λ c. (h (Prototype one.prototype) (c, refl)).1;
    absent = λ c key none. (h (Absent key) (c, none)).1;
  }
