-- Outcomes that the members take which wait.
use Rattle.std.proofs.Common.{◌≡◌, Bool, List, Option, false, refl, sym, true, true≢false}
use Rattle.mb_base.specs.declared.value.Key.{Key}
use Rattle.mb_base.specs.declared.value.Value.{Value}
use Rattle.mb_desc.specs.declared.descriptor.Full.{Full}
use Rattle.mb_frames.specs.Sorts.{ACompletion, AFlag, AProperty, ASlot, AValue, AnObject, APrototype, IsAnswer}
use Rattle.mb_frames.specs.Sorts.{IsOfSort, SomeKeys, Sort, fits, reflect_waits}
use Rattle.mb_frames.specs.declared.reflecting.ReflectFrame.{ReflectFrame}
use Rattle.mb_frames.specs.declared.reflecting.ReflectFrame.TheVariants as r
use Rattle.mb_frames.specs.declared.task.Answer.{Answer}
use Rattle.mb_frames.specs.declared.task.Answer.TheVariants as a
use Rattle.mb_frames.specs.declared.task.Outcome.{Outcome}
use Rattle.mb_frames.specs.declared.task.Outcome.TheVariants as o

-- for what they wait
abbrev is_ours : Sort → Bool
is_ours SomeKeys = true
is_ours AProperty = true
is_ours AFlag = true
is_ours AValue = true
is_ours sort = false

ours : (y : ReflectFrame) → is_ours (reflect_waits y) ≡ true
ours (r.KeysListed object) = refl
ours (r.KeyRead object key keys next found) = refl
ours r.SymbolsListed = refl
ours (r.Closed object frozen) = refl
ours (r.SettledKeys object frozen) = refl
ours (r.FreezeRead object key keys next) = refl
ours (r.Settled object frozen keys next) = refl
ours (r.FrozenExtensible object) = refl
ours (r.FrozenKeys object) = refl
ours (r.FrozenRead object keys next) = refl
ours (r.GivenBack object) = refl
ours r.Described = refl
ours r.HasOwn = refl
ours r.Truth = refl
ours r.OwnKeys = refl
ours r.ObjectPrototype = refl
ours (r.ErrorPrototype kind message) = refl

-- a sort that none of them waits for
abbrev is_odd : Sort → Bool
is_odd ASlot = true
is_odd ACompletion = true
is_odd sort = false

no-fit : (s w : Sort) → is_odd s ≡ true → is_ours w ≡ true → fits s w ≡ true → ⊥
no-fit ASlot ASlot h k e = true≢false (sym k)
no-fit ASlot ACompletion h k e = true≢false (sym k)
no-fit ASlot w h k e = true≢false (sym e)
no-fit ACompletion ACompletion h k e = true≢false (sym k)
no-fit ACompletion w h k e = true≢false (sym e)
no-fit s w h k e = true≢false (sym h)

-- ---- by the answer

waits-value : (s w : Sort) (y : Value) → is_ours w ≡ true → IsAnswer s (a.Value y) → fits s w ≡ true → w ≡ AValue
waits-value s AValue y k i e = refl
waits-value SomeKeys SomeKeys y k i e = absurd i
waits-value AProperty AProperty y k i e = absurd i
waits-value AFlag AFlag y k i e = absurd i
waits-value s SomeKeys y k i e = absurd (true≢false (sym e))
waits-value s AProperty y k i e = absurd (true≢false (sym e))
waits-value s AFlag y k i e = absurd (true≢false (sym e))
waits-value s w y k i e = absurd (true≢false (sym k))

waits-flag : (s w : Sort) (b : Bool) → is_ours w ≡ true → IsAnswer s (a.Flag b) → fits s w ≡ true → w ≡ AFlag
waits-flag s AFlag b k i e = refl
waits-flag SomeKeys SomeKeys b k i e = absurd i
waits-flag AProperty AProperty b k i e = absurd i
waits-flag AnObject AValue b k i e = absurd i
waits-flag APrototype AValue b k i e = absurd i
waits-flag AValue AValue b k i e = absurd i
waits-flag s SomeKeys b k i e = absurd (true≢false (sym e))
waits-flag s AProperty b k i e = absurd (true≢false (sym e))
waits-flag s AValue b k i e = absurd (true≢false (sym e))
waits-flag s w b k i e = absurd (true≢false (sym k))

waits-property : (s w : Sort) (p : Option (Full Value)) → is_ours w ≡ true → IsAnswer s (a.Prop p) → fits s w ≡ true
    → w ≡ AProperty
waits-property s AProperty p k i e = refl
waits-property SomeKeys SomeKeys p k i e = absurd i
waits-property AFlag AFlag p k i e = absurd i
waits-property AnObject AValue p k i e = absurd i
waits-property APrototype AValue p k i e = absurd i
waits-property AValue AValue p k i e = absurd i
waits-property s SomeKeys p k i e = absurd (true≢false (sym e))
waits-property s AFlag p k i e = absurd (true≢false (sym e))
waits-property s AValue p k i e = absurd (true≢false (sym e))
waits-property s w p k i e = absurd (true≢false (sym k))

waits-keys : (s w : Sort) (ks : List Key) → is_ours w ≡ true → IsAnswer s (a.Keys ks) → fits s w ≡ true → w ≡ SomeKeys
waits-keys s SomeKeys ks k i e = refl
waits-keys AProperty AProperty ks k i e = absurd i
waits-keys AFlag AFlag ks k i e = absurd i
waits-keys AnObject AValue ks k i e = absurd i
waits-keys APrototype AValue ks k i e = absurd i
waits-keys AValue AValue ks k i e = absurd i
waits-keys s AProperty ks k i e = absurd (true≢false (sym e))
waits-keys s AFlag ks k i e = absurd (true≢false (sym e))
waits-keys s AValue ks k i e = absurd (true≢false (sym e))
waits-keys s w ks k i e = absurd (true≢false (sym k))

module _ (y : ReflectFrame) (s : Sort) (e : fits s (reflect_waits y) ≡ true) where
  pub gets-value : (x : Value) → IsAnswer s (a.Value x) → reflect_waits y ≡ AValue
  gets-value x i = waits-value s (reflect_waits y) x (ours y) i e

  pub gets-flag : (b : Bool) → IsAnswer s (a.Flag b) → reflect_waits y ≡ AFlag
  gets-flag b i = waits-flag s (reflect_waits y) b (ours y) i e

  pub gets-property : (p : Option (Full Value)) → IsAnswer s (a.Prop p) → reflect_waits y ≡ AProperty
  gets-property p i = waits-property s (reflect_waits y) p (ours y) i e

  pub gets-keys : (ks : List Key) → IsAnswer s (a.Keys ks) → reflect_waits y ≡ SomeKeys
  gets-keys ks i = waits-keys s (reflect_waits y) ks (ours y) i e

-- ---- no other answer reaches them, no jump and no return

odd-answer : (s : Sort) (x : Answer) → ((y : Value) → x ≡ a.Value y → ⊥) → ((b : Bool) → x ≡ a.Flag b → ⊥)
    → ((p : Option (Full Value)) → x ≡ a.Prop p → ⊥) → ((ks : List Key) → x ≡ a.Keys ks → ⊥) → IsAnswer s x
    → is_odd s ≡ true
odd-answer s (a.Value y) f g h j i = absurd (f y refl)
odd-answer s (a.Flag b) f g h j i = absurd (g b refl)
odd-answer s (a.Prop p) f g h j i = absurd (h p refl)
odd-answer s (a.Keys ks) f g h j i = absurd (j ks refl)
odd-answer ASlot x f g h j i = refl
odd-answer ACompletion x f g h j i = refl
odd-answer s x f g h j i = absurd i

pub no-other-answer : (y : ReflectFrame) (s : Sort) (x : Answer) → fits s (reflect_waits y) ≡ true → IsAnswer s x
    → ((z : Value) → x ≡ a.Value z → ⊥) → ((b : Bool) → x ≡ a.Flag b → ⊥)
    → ((p : Option (Full Value)) → x ≡ a.Prop p → ⊥) → ((ks : List Key) → x ≡ a.Keys ks → ⊥) → ⊥
no-other-answer y s x e i f g h j = no-fit s (reflect_waits y) (odd-answer s x f g h j i) (ours y) e

odd-outcome : (s : Sort) (x : Outcome) → ((y : Answer) → x ≡ o.Normal y → ⊥) → ((y : Value) → x ≡ o.Throw y → ⊥)
    → IsOfSort s x → is_odd s ≡ true
odd-outcome s (o.Normal y) f g i = absurd (f y refl)
odd-outcome s (o.Throw y) f g i = absurd (g y refl)
odd-outcome ACompletion x f g i = refl
odd-outcome s (o.Return y) f g i = absurd i
odd-outcome s o.Break f g i = absurd i
odd-outcome s o.Continue f g i = absurd i

pub no-jump : (y : ReflectFrame) (s : Sort) (x : Outcome) → fits s (reflect_waits y) ≡ true → IsOfSort s x
    → ((z : Answer) → x ≡ o.Normal z → ⊥) → ((z : Value) → x ≡ o.Throw z → ⊥) → ⊥
no-jump y s x e i f g = no-fit s (reflect_waits y) (odd-outcome s x f g i) (ours y) e
