-- Lists of keys: those that are texts or symbols, and the values that stand for them.
use Rattle.std.proofs.Common.{◌≡◌, ◌∷◌, List, None, Option, Some, [], ap, is_some, map, not, option_map, refl}
use Rattle.std.proofs.lemmas.List.Elements.{All-cons, All-filter, All-head, All-nil, All-tail}
use Rattle.std.specs.List.{filter}
use Rattle.std.specs.Prelude.{All}
use Rattle.mb_base.specs.declared.value.Key.{Key}
use Rattle.mb_base.specs.declared.value.Key.TheVariants as k
use Rattle.mb_base.specs.declared.value.Side.{Side}
use Rattle.mb_frames.proofs.HeldLess.{keys-held, text-value-held, values-all}
use Rattle.mb_frames.specs.Held.{HeldKeys, HeldValue, HeldValues}
use Rattle.mb_frames.specs.Ready.{MayHold}
use Rattle.mb_frames.specs.Resolved.{keys_of, values_in}
use Rattle.mb_props.specs.KeyOrder.{is_symbol}
use Rattle.mb_reflect.specs.machine.Listing.{value_for}
use Rattle.mb_world.specs.Contained.{IsOwn}
use Rattle.mb_world.specs.Data.{Data}
use Rattle.mb_world.specs.Ids.{KeyIn}
use Rattle.mb_world.specs.Image.{Names, Resolve, key_in}
use Rattle.mb_world.specs.Key.{symbols_only, texts_only, value_of_key}

pub texts-are : (n : Names) (keys : List Key)
    → keys_of n (filter (λ key. not (is_symbol key)) keys) ≡ texts_only (keys_of n keys)
texts-are n [] = refl
texts-are n (k.Text t i ∷ keys) = ap (λ ks. key_in n (k.Text t i) ∷ ks) (texts-are n keys)
texts-are n (k.Symbol s ∷ keys) = texts-are n keys

pub symbols-are : (n : Names) (keys : List Key) → keys_of n (filter is_symbol keys) ≡ symbols_only (keys_of n keys)
symbols-are n [] = refl
symbols-are n (k.Text t i ∷ keys) = symbols-are n keys
symbols-are n (k.Symbol s ∷ keys) = ap (λ ks. key_in n (k.Symbol s) ∷ ks) (symbols-are n keys)

pub value-is : (n : Names) (key : Key) → Resolve n (value_for key) ≡ value_of_key (key_in n key)
value-is n (k.Text t i) = refl
value-is n (k.Symbol s) = refl

pub values-are : (n : Names) (keys : List Key) → values_in n (map value_for keys) ≡ map value_of_key (keys_of n keys)
values-are n [] = refl
values-are n (k.Text t i ∷ keys) = ap (λ vs. value_of_key (key_in n (k.Text t i)) ∷ vs) (values-are n keys)
values-are n (k.Symbol s ∷ keys) = ap (λ vs. value_of_key (key_in n (k.Symbol s)) ∷ vs) (values-are n keys)

module _ (d : Data) (home : Side) where
  pub value-held : (key : Key) → KeyIn d key → MayHold d home (HeldValue (value_for key))
  value-held (k.Text t i) h = text-value-held d home t h.0
  value-held (k.Symbol s) h = record { within = h; sound = tt; own = λ u. All-nil (IsOwn d home) }

  each-held : (keys : List Key) → All (KeyIn d) keys → All (λ y. MayHold d home (HeldValue y)) (map value_for keys)
  each-held [] h = All-nil (λ y. MayHold d home (HeldValue y))
  each-held (key ∷ keys) h =
      All-cons (λ y. MayHold d home (HeldValue y)) (value_for key) (map value_for keys)
      (value-held key (All-head (KeyIn d) key keys h)) (each-held keys (All-tail (KeyIn d) key keys h))

  pub values-held : (keys : List Key) → All (KeyIn d) keys → MayHold d home (HeldValues (map value_for keys))
  values-held keys h = values-all d home (map value_for keys) (each-held keys h)

  pub texts-held : (keys : List Key) → MayHold d home (HeldKeys keys)
      → MayHold d home (HeldKeys (filter (λ key. not (is_symbol key)) keys))
  texts-held keys h =
      keys-held d home (filter (λ key. not (is_symbol key)) keys)
      (All-filter (λ key. not (is_symbol key)) (KeyIn d) keys h.within)

pub same-some : {A B : Type 0} (f : A → B) (m : Option A) → is_some (option_map f m) ≡ is_some m
same-some f None = refl
same-some f (Some x) = refl
