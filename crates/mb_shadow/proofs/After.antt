-- What a shadow is that followed a part of what is seen.
use Rattle.std.proofs.Common.{◌≡◌, ◌&&◌, ◌⊎◌, inl, inr, List, [], ◌∷◌, Option, Some, None, Bool, true, false, is_some, refl, ap, sym, ◌∙◌, subst, true≢false, if◌then◌else◌}
use Rattle.mb_desc.specs.declared.descriptor.Full.{Full}
use Rattle.mb_desc.specs.Descriptors.{is_configurable, descriptor_of}
use Rattle.mb_desc.specs.View.{View}
use Rattle.mb_view.specs.Views.{property_of, HasDistinctKeys, KeepsFacts}
use Rattle.mb_view.specs.Changes.{Change, Define, Remove, changed_by}
use Rattle.mb_view.specs.Following.{brought_by}
use Rattle.mb_view.specs.Lean.{IsLean, definition_if_fixed, replacement, followed_key, followed_whole, HasKey, HasWhole}
use Rattle.mb_view.proofs.Evolving.{keeps-refl}
use Rattle.mb_view.proofs.Tables.{lookup-insert, lookup-remove}
use Rattle.mb_view.proofs.Leaning.{key-allowed, whole-allowed, whole-has}
use Rattle.mb_world.specs.Value.{Val, Undefined, same_value}
use Rattle.mb_world.specs.Key.{PropertyKey, same_key}
use Rattle.mb_world.specs.Image.{Names, key_in}
use Rattle.mb_world.proofs.Values.{value-same}
use Rattle.mb_world.proofs.SameKeys.{key-same, key-equal}
use Rattle.mb_shadow.specs.declared.part.Part.{Part}
use Rattle.mb_shadow.specs.declared.part.Part.TheVariants as part
use Rattle.mb_shadow.specs.Following.{IsAfter, HasPart, kept}
use Rattle.mb_shadow.specs.Laws.{IsLike, Follows, ShadowsFollow}

abbrev V : Type 0
V = View PropertyKey Val

abbrev property_at : V → PropertyKey → Option (Full Val)
property_at view key = property_of same_key view key

-- ---- a property that was kept

kept-either : (open_ : Bool) (seen had : Option (Full Val)) → (kept open_ seen had ≡ had) ⊎ (kept open_ seen had ≡ seen)
kept-either true None had = inl refl
kept-either true (Some p) had = by (is_configurable p)
  where
    by : (b : Bool) → ((if b then had else Some p) ≡ had) ⊎ ((if b then had else Some p) ≡ Some p)
    by true = inl refl
    by false = inr refl
kept-either false seen had = inr refl

kept-lean : (seen had : Option (Full Val)) (p : Full Val) → kept true seen had ≡ Some p → (had ≡ Some p) ⊎ (is_configurable p ≡ false)
kept-lean None had p e = inl e
kept-lean (Some q) had p e = by (is_configurable q) refl e
  where
    by : (b : Bool) → is_configurable q ≡ b → (if b then had else Some q) ≡ Some p → (had ≡ Some p) ⊎ (is_configurable p ≡ false)
    by true c f = inl f
    by false c f = let same : q ≡ p = cc in inr (ap is_configurable (sym same) ∙ c)

kept-fixed : (open_ : Bool) (q : Full Val) (had : Option (Full Val)) → is_configurable q ≡ false → kept open_ (Some q) had ≡ Some q
kept-fixed true q had c = ap (λ (b : Bool). if b then had else Some q) c
kept-fixed false q had c = refl

-- ---- flags

both-open : (a b : Bool) → a && b ≡ true → a ≡ true
both-open true b h = refl
both-open false b h = absurd (true≢false (sym h))

and-closed : (b : Bool) → b && false ≡ false
and-closed true = refl
and-closed false = refl

and-open : (b : Bool) → b && true ≡ b
and-open true = refl
and-open false = refl

-- ---- how it has changed

-- either it is what is seen, which is closed, or each property is that of before or what is seen
pub data Changed (before view after : V) : Type 0 where
  Closed : ((key : PropertyKey) → property_at after key ≡ property_at view key) → after.extensible ≡ false → view.extensible ≡ false
      → after.prototype ≡ view.prototype → Changed before view after
  Mixed : ((key : PropertyKey) → (property_at after key ≡ property_at before key) ⊎ (property_at after key ≡ property_at view key))
      → after.extensible ≡ before.extensible → after.prototype ≡ before.prototype → Changed before view after

module _ (n : Names) (before view after : V) where
  changed-key : (followed : PropertyKey) → ((key : PropertyKey) → property_at after key
      ≡ (if same_key key followed then kept before.extensible (property_at view key) (property_at before key) else property_at before key))
      → after.extensible ≡ before.extensible → after.prototype ≡ before.prototype → Changed before view after
  changed-key followed at e p = Mixed (λ key. by key (same_key key followed) refl) e p
    where
      by : (key : PropertyKey) (b : Bool) → same_key key followed ≡ b → (property_at after key ≡ property_at before key) ⊎ (property_at after key ≡ property_at view key)
      by key true t =
          let f : property_at after key ≡ kept before.extensible (property_at view key) (property_at before key) =
          at key ∙ ap (λ (b : Bool). if b then kept before.extensible (property_at view key) (property_at before key) else property_at before key) t in
          elim (kept-either before.extensible (property_at view key) (property_at before key)) [ inl e ↦ inl (f ∙ e) | inr e ↦ inr (f ∙ e) ]
      by key false t = inl (at key ∙ ap (λ (b : Bool). if b then kept before.extensible (property_at view key) (property_at before key) else property_at before key) t)

  changed-whole : (b : Bool) → view.extensible ≡ b → IsAfter n part.Whole before view after → Changed before view after
  changed-whole true c a = Mixed
      (λ key. inl (a.properties key ∙ ap (λ (b : Bool). if b then property_at before key else property_at view key) c))
      (a.extensible ∙ ap (λ (b : Bool). before.extensible && b) c ∙ and-open before.extensible)
      (a.prototype ∙ ap (λ (b : Bool). if b then before.prototype else view.prototype) c)
  changed-whole false c a = Closed
      (λ key. a.properties key ∙ ap (λ (b : Bool). if b then property_at before key else property_at view key) c)
      (a.extensible ∙ ap (λ (b : Bool). before.extensible && b) c ∙ and-closed before.extensible)
      c
      (a.prototype ∙ ap (λ (b : Bool). if b then before.prototype else view.prototype) c)

  pub changed : (x : Part) → IsAfter n x before view after → Changed before view after
  changed (part.Key key) a = changed-key (key_in n key) a.properties a.extensible a.prototype
  changed part.Whole a = changed-whole view.extensible refl a

  module _ (h : KeepsFacts same_key before view) where
    pub changed-evolves : Changed before view after → KeepsFacts same_key before after
    changed-evolves (Closed at e c p) = record {
      properties = λ key q was fixed. (let m = h.properties key q was fixed in (m.0, at key ∙ m.1, m.2));
      closed = λ b. e;
      prototype = λ b. p ∙ h.prototype b;
      absent = λ b key none. at key ∙ h.absent b key none;
    }
    changed-evolves (Mixed at e p) = record {
      properties = λ key q was fixed. elim (at key) [
        | inl f ↦ (q, f ∙ was, keeps-refl q)
        | inr f ↦ (let m = h.properties key q was fixed in (m.0, f ∙ m.1, m.2))
      ];
      closed = λ b. e ∙ b;
      prototype = λ b. p;
      absent = λ b key none. elim (at key) [ inl f ↦ f ∙ none | inr f ↦ f ∙ h.absent b key none ];
    }

    pub changed-facts : Changed before view after → KeepsFacts same_key after view
    changed-facts (Closed at e c p) = record {
      properties = λ key q is fixed. (q, sym (at key) ∙ is, keeps-refl q);
      closed = λ b. c;
      prototype = λ b. sym p;
      absent = λ b key none. sym (at key) ∙ none;
    }
    changed-facts (Mixed at e p) = record {
      properties = λ key q is fixed. elim (at key) [
        | inl f ↦ h.properties key q (sym f ∙ is) fixed
        | inr f ↦ (q, sym f ∙ is, keeps-refl q)
      ];
      closed = λ b. h.closed (sym e ∙ b);
      prototype = λ b. h.prototype (sym e ∙ b) ∙ sym p;
      absent = λ b key none. elim (at key) [ inl f ↦ h.absent (sym e ∙ b) key (sym f ∙ none) | inr f ↦ sym f ∙ none ];
    }

  -- ---- lean

  lean-key : (followed : PropertyKey) → ((key : PropertyKey) → property_at after key
      ≡ (if same_key key followed then kept before.extensible (property_at view key) (property_at before key) else property_at before key))
      → after.extensible ≡ before.extensible → IsLean same_key before → IsLean same_key after
  lean-key followed at e lean wide key p is = by (same_key key followed) refl
    where
      was : before.extensible ≡ true
      was = sym e ∙ wide

      by : (b : Bool) → same_key key followed ≡ b → is_configurable p ≡ false
      by true t =
          let f : kept true (property_at view key) (property_at before key) ≡ Some p =
          ap (λ (b : Bool). kept b (property_at view key) (property_at before key)) (sym was)
          ∙ sym (at key ∙ ap (λ (b : Bool). if b then kept before.extensible (property_at view key) (property_at before key) else property_at before key) t)
          ∙ is in
          elim (kept-lean (property_at view key) (property_at before key) p f) [ inl g ↦ lean was key p g | inr g ↦ g ]
      by false t =
          lean was key p (sym (at key ∙ ap (λ (b : Bool). if b then kept before.extensible (property_at view key) (property_at before key) else property_at before key) t) ∙ is)

  pub after-lean : (x : Part) → IsAfter n x before view after → IsLean same_key before → IsLean same_key after
  after-lean (part.Key key) a lean = lean-key (key_in n key) a.properties a.extensible lean
  after-lean part.Whole a lean = by view.extensible refl
    where
      by : (b : Bool) → view.extensible ≡ b → IsLean same_key after
      by true c = λ wide key q is.
          lean (both-open before.extensible view.extensible (sym a.extensible ∙ wide)) key q
          (sym (a.properties key ∙ ap (λ (b : Bool). if b then property_at before key else property_at view key) c) ∙ is)
      by false c = λ wide. absurd (true≢false (sym wide ∙ a.extensible ∙ ap (λ (b : Bool). before.extensible && b) c ∙ and-closed before.extensible))

  -- ---- it has the part

  key-has : (followed : PropertyKey) → ((key : PropertyKey) → property_at after key
      ≡ (if same_key key followed then kept before.extensible (property_at view key) (property_at before key) else property_at before key))
      → after.extensible ≡ before.extensible → HasKey same_key followed after view
  key-has followed at e = (
    λ fixed. here ∙ ap (λ (o : Option (Full Val)). kept before.extensible o (property_at before followed)) fixed.1
        ∙ kept-fixed before.extensible fixed.0 (property_at before followed) fixed.2 ∙ sym fixed.1,
    λ closed. here ∙ ap (λ (b : Bool). kept b (property_at view followed) (property_at before followed)) (sym e ∙ closed),
  )
    where
      here : property_at after followed ≡ kept before.extensible (property_at view followed) (property_at before followed)
      here = at followed ∙ ap (λ (b : Bool). if b then kept before.extensible (property_at view followed) (property_at before followed) else property_at before followed) (key-same followed)

  pub after-has : (x : Part) → IsAfter n x before view after → HasPart n x after view
  after-has (part.Key key) a = key-has (key_in n key) a.properties a.extensible
  after-has part.Whole a = record {
    extensible = λ c. a.extensible ∙ ap (λ (b : Bool). before.extensible && b) c ∙ and-closed before.extensible;
    prototype = λ c. a.prototype ∙ ap (λ (b : Bool). if b then before.prototype else view.prototype) c;
    properties = λ c key. a.properties key ∙ ap (λ (b : Bool). if b then property_at before key else property_at view key) c;
  }

  -- ---- an ordinary object admits what was changed

  module _ (d : HasDistinctKeys same_key before) (h : KeepsFacts same_key before view) where
    -- the changes for a key make what the shadow has
    pub key-made : (followed : PropertyKey) → ((key : PropertyKey) → property_at after key
        ≡ (if same_key key followed then kept before.extensible (property_at view key) (property_at before key) else property_at before key))
        → after.extensible ≡ before.extensible → after.prototype ≡ before.prototype
        → IsLike after (changed_by same_key (followed_key same_key followed before view) before)
    key-made followed at e p = by before.extensible refl (property_at view followed) refl (property_at before followed) refl
      where
        -- what it has of a key
        has : (key : PropertyKey) (open_ : Bool) (seen had : Option (Full Val)) → before.extensible ≡ open_ → property_at view followed ≡ seen → property_at before followed ≡ had
            → property_at after key ≡ (if same_key key followed then kept open_ seen had else property_at before key)
        has key open_ seen had b v w = at key ∙ one (same_key key followed) refl
          where
            one : (t : Bool) → same_key key followed ≡ t
                → (if same_key key followed then kept before.extensible (property_at view key) (property_at before key) else property_at before key)
                ≡ (if same_key key followed then kept open_ seen had else property_at before key)
            one false t =
                ap (λ (x : Bool). if x then kept before.extensible (property_at view key) (property_at before key) else property_at before key) t
                ∙ ap (λ (x : Bool). if x then kept open_ seen had else property_at before key) (sym t)
            one true t =
                let same : key ≡ followed = key-equal key followed t in
                ap (λ (x : Bool). if x then kept before.extensible (property_at view key) (property_at before key) else property_at before key) t
                ∙ ap (λ (k : PropertyKey). kept before.extensible (property_at view k) (property_at before k)) same
                ∙ ap (λ (x : Bool). kept x (property_at view followed) (property_at before followed)) b
                ∙ ap (λ (o : Option (Full Val)). kept open_ o (property_at before followed)) v
                ∙ ap (kept open_ seen) w
                ∙ ap (λ (x : Bool). if x then kept open_ seen had else property_at before key) (sym t)

        -- nothing changes
        same : (open_ : Bool) (seen had : Option (Full Val)) → before.extensible ≡ open_ → property_at view followed ≡ seen → property_at before followed ≡ had
            → kept open_ seen had ≡ had → IsLike after before
        same open_ seen had b v w k = record { prototype = p; extensible = e; properties = λ key. has key open_ seen had b v w ∙ one key (same_key key followed) refl }
          where
            one : (key : PropertyKey) (t : Bool) → same_key key followed ≡ t → (if same_key key followed then kept open_ seen had else property_at before key) ≡ property_at before key
            one key true t =
                ap (λ (x : Bool). if x then kept open_ seen had else property_at before key) t ∙ k ∙ sym w
                ∙ sym (ap (property_at before) (key-equal key followed t))
            one key false t = ap (λ (x : Bool). if x then kept open_ seen had else property_at before key) t

        defined : (open_ : Bool) (q : Full Val) (had : Option (Full Val)) → before.extensible ≡ open_ → property_at view followed ≡ Some q → property_at before followed ≡ had
            → kept open_ (Some q) had ≡ Some q → IsLike after (changed_by same_key (Define followed (descriptor_of q) q ∷ []) before)
        defined open_ q had b v w k = record {
          prototype = p;
          extensible = e;
          properties = λ key.
              has key open_ (Some q) had b v w
              ∙ ap (λ (o : Option (Full Val)). if same_key key followed then o else property_at before key) k
              ∙ sym (lookup-insert same_key key-equal key-same before.properties followed q key);
        }

        removed : (had : Option (Full Val)) → before.extensible ≡ false → property_at view followed ≡ None → property_at before followed ≡ had
            → IsLike after (changed_by same_key (Remove followed ∷ []) before)
        removed had b v w = record {
          prototype = p;
          extensible = e;
          properties = λ key. has key false None had b v w ∙ sym (lookup-remove same_key key-equal key-same before.properties followed key d);
        }

        loose : (q : Full Val) (had : Option (Full Val)) → before.extensible ≡ true → property_at view followed ≡ Some q → property_at before followed ≡ had
            → (c : Bool) → is_configurable q ≡ c
            → IsLike after (changed_by same_key (if c then [] else Define followed (descriptor_of q) q ∷ []) before)
        loose q had b v w true c = same true (Some q) had b v w (ap (λ (x : Bool). if x then had else Some q) c)
        loose q had b v w false c = defined true q had b v w (ap (λ (x : Bool). if x then had else Some q) c)

        changes_by : (open_ : Bool) (seen had : Option (Full Val)) → List (Change PropertyKey Val)
        changes_by open_ seen had = if open_ then definition_if_fixed followed seen else replacement followed seen had

        changes-are : (open_ : Bool) (seen had : Option (Full Val)) → before.extensible ≡ open_ → property_at view followed ≡ seen → property_at before followed ≡ had
            → changes_by open_ seen had ≡ followed_key same_key followed before view
        changes-are open_ seen had b v w = sym (
            ap (λ (x : Bool). if x then definition_if_fixed followed (property_at view followed) else replacement followed (property_at view followed) (property_at before followed)) b
            ∙ ap (λ (o : Option (Full Val)). if open_ then definition_if_fixed followed o else replacement followed o (property_at before followed)) v
            ∙ ap (λ (o : Option (Full Val)). if open_ then definition_if_fixed followed seen else replacement followed seen o) w)

        with-changes : (open_ : Bool) (seen had : Option (Full Val)) → before.extensible ≡ open_ → property_at view followed ≡ seen → property_at before followed ≡ had
            → IsLike after (changed_by same_key (changes_by open_ seen had) before) → IsLike after (changed_by same_key (followed_key same_key followed before view) before)
        with-changes open_ seen had b v w h = subst (λ cs. IsLike after (changed_by same_key cs before)) (changes-are open_ seen had b v w) h

        by : (open_ : Bool) → before.extensible ≡ open_ → (seen : Option (Full Val)) → property_at view followed ≡ seen → (had : Option (Full Val)) → property_at before followed ≡ had
            → IsLike after (changed_by same_key (followed_key same_key followed before view) before)
        by true b None v had w = with-changes true None had b v w (same true None had b v w refl)
        by true b (Some q) v had w = with-changes true (Some q) had b v w (loose q had b v w (is_configurable q) refl)
        by false b (Some q) v had w = with-changes false (Some q) had b v w (defined false q had b v w refl)
        by false b None v None w = with-changes false None None b v w (same false None None b v w refl)
        by false b None v (Some r) w = with-changes false None (Some r) b v w (removed (Some r) b v w)

    module _ (d' : HasDistinctKeys same_key view) where
      whole-made : (b : Bool) → view.extensible ≡ b → IsAfter n part.Whole before view after → IsLike after (changed_by same_key (followed_whole same_key before view) before)
      whole-made true c a = subst (λ cs. IsLike after (changed_by same_key cs before)) (sym (ap (λ (x : Bool). if x then [] else brought_by (λ key. is_some (property_at view key)) before view) c)) (record {
        prototype = a.prototype ∙ ap (λ (b : Bool). if b then before.prototype else view.prototype) c;
        extensible = a.extensible ∙ ap (λ (b : Bool). before.extensible && b) c ∙ and-open before.extensible;
        properties = λ key. a.properties key ∙ ap (λ (b : Bool). if b then property_at before key else property_at view key) c;
      })
      whole-made false c a =
          let has : HasWhole same_key (changed_by same_key (followed_whole same_key before view) before) view =
          whole-has same_key key-equal key-same same_value Undefined value-same before view d h d' in
          record {
            prototype = a.prototype ∙ ap (λ (b : Bool). if b then before.prototype else view.prototype) c ∙ sym (has.prototype c);
            extensible = a.extensible ∙ ap (λ (b : Bool). before.extensible && b) c ∙ and-closed before.extensible ∙ sym (has.extensible c);
            properties = λ key. a.properties key ∙ ap (λ (b : Bool). if b then property_at before key else property_at view key) c ∙ sym (has.properties c key);
          }

      pub follows : (x : Part) → IsAfter n x before view after → Follows n x before view after
      follows (part.Key key) a = record {
        changes = followed_key same_key (key_in n key) before view;
        admitted = key-allowed same_key key-equal key-same same_value Undefined value-same before view d h (key_in n key);
        made = key-made (key_in n key) a.properties a.extensible a.prototype;
        evolves = changed-evolves h (changed (part.Key key) a);
        facts = changed-facts h (changed (part.Key key) a);
        has = after-has (part.Key key) a;
        lean = after-lean (part.Key key) a;
      }
      follows part.Whole a = record {
        changes = followed_whole same_key before view;
        admitted = whole-allowed same_key key-equal key-same same_value Undefined value-same before view d h d';
        made = whole-made view.extensible refl a;
        evolves = changed-evolves h (changed part.Whole a);
        facts = changed-facts h (changed part.Whole a);
        has = after-has part.Whole a;
        lean = after-lean part.Whole a;
      }

pub shadows-follow : ShadowsFollow
shadows-follow n x before view after d d' h a = follows n before view after d h d' x a
