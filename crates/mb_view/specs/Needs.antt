-- Examples that show why a premise or a rule is there: without it what is said would be false.
use Rattle.std.specs.Prelude.{ℕ, true, false, nat_eq, List, [], ◌∷◌}
use Rattle.mb_desc.specs.Descriptors.{descriptor_of}
use Rattle.mb_desc.specs.declared.descriptor.Full.{Full}
use Rattle.mb_desc.specs.declared.descriptor.Full.TheVariants.{Datum, Accessor}
use Rattle.mb_desc.specs.View.{View}
use Rattle.mb_view.specs.Views.{Sort, Text, KeepsFacts, KeepsOrder}
use Rattle.mb_view.specs.Changes.{Change, changed_by, AreAllowed}
use Rattle.mb_view.specs.Shown.{Treatment, Hidden, Definition, made}
use Rattle.mb_view.specs.Following.{IsAlike}
use Rattle.mb_view.specs.Entries.{Get, DefineOwnProperty, HasProperty, Entry, Lawful}
use Rattle.mb_view.specs.Passing.{Passes}
use Rattle.mb_view.specs.Lean.{followed_key}

-- keys and values are numbers, all keys are texts, and 0 is undefined
abbrev pub all_texts : ℕ → Sort
all_texts key = Text

abbrev pub one_property : Full ℕ → View ℕ ℕ
one_property property = record { prototype = 0; extensible = true; properties = (7, property) ∷ [] }

-- property 7 is 1 for good; it is an accessor that may be defined anew; there is none
abbrev pub fixed_one : View ℕ ℕ
fixed_one = one_property (Datum 1 false false false)

abbrev pub getter : View ℕ ℕ
getter = one_property (Accessor 5 0 false true)

abbrev pub nothing : View ℕ ℕ
nothing = record { prototype = 0; extensible = true; properties = [] }

-- two properties that are there for good
abbrev pub two : ℕ → ℕ → View ℕ ℕ
two one other = record {
  prototype = 0;
  extensible = true;
  properties = (one, Datum 1 false false false) ∷ (other, Datum 1 false false false) ∷ [];
}

abbrev pub hidden : ℕ → Treatment ℕ
hidden key = Hidden

-- a definition of the key with the value 2, for good, by a side from which the key is hidden
abbrev pub defines_hidden : List (Change ℕ ℕ)
defines_hidden = made nat_eq nat_eq 0 hidden (Definition 7 (descriptor_of (Datum 2 false false false))) fixed_one

-- If it were let through, a property that can't change would have changed.
abbrev pub RulingIsNeeded : Type 0
RulingIsNeeded = KeepsFacts nat_eq fixed_one (changed_by nat_eq defines_hidden fixed_one) → ⊥

-- The fixed facts alone don't tell whether an object may become another: here they are kept, and no changes lead there.
abbrev pub OrderIsNeeded : Type 0
OrderIsNeeded =
    KeepsFacts nat_eq (two 1 2) (two 2 1)
    × ((changes : List (Change ℕ ℕ)) → AreAllowed nat_eq nat_eq 0 changes (two 1 2)
    → IsAlike nat_eq all_texts (changed_by nat_eq changes (two 1 2)) (two 2 1) → ⊥)

-- A getter fixes its own property to 1, by a definition, before the `get` that called it answers 2.
abbrev pub defines : Entry ℕ ℕ
defines = record {
  began = 0;
  side = 0;
  object = 3;
  deed = DefineOwnProperty 7 (descriptor_of (Datum 1 false false false)) true;
}

abbrev pub gets : ℕ → Entry ℕ ℕ
gets began = record { began = began; side = 0; object = 3; deed = Get 7 2 }

-- That is lawful, since the definition was complete only after the `get` began, and else it wouldn't be. The answer
-- passes against the view as it was read, and against that of the end it doesn't; `has` up a Proxy's prototypes is such
-- a method too.
pub record BeganIsNeeded : Type 0 where
  pub evolves : KeepsFacts nat_eq getter fixed_one
  pub nested : Lawful nat_eq nat_eq 0 (defines ∷ gets 0 ∷ [])
  pub later : Lawful nat_eq nat_eq 0 (defines ∷ gets 1 ∷ []) → ⊥
  pub get_first : Passes nat_eq nat_eq 0 (Get 7 2) getter
  pub get_last : Passes nat_eq nat_eq 0 (Get 7 2) fixed_one → ⊥
  pub has_first : Passes nat_eq nat_eq 0 (HasProperty 7 false) nothing
  pub has_last : Passes nat_eq nat_eq 0 (HasProperty 7 false) fixed_one → ⊥

-- a shadow that followed 2, and then 1
abbrev pub followed_backwards : View ℕ ℕ
followed_backwards =
    let one = changed_by nat_eq (followed_key nat_eq 2 nothing (two 1 2)) nothing in
    changed_by nat_eq (followed_key nat_eq 1 one (two 1 2)) one

-- A lean shadow that follows key by key may have its keys in another order than the view.
abbrev pub LeanLosesOrder : Type 0
LeanLosesOrder = KeepsOrder nat_eq all_texts followed_backwards (two 1 2) → ⊥
