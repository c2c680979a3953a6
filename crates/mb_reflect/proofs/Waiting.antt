-- Which members wait for what.
use Rattle.std.proofs.Common.{◌≡◌, Bool, List, refl}
use Rattle.mb_base.specs.declared.value.Key.{Key}
use Rattle.mb_base.specs.declared.value.ObjId.{ObjId}
use Rattle.mb_base.specs.declared.value.Value.{Value}
use Rattle.mb_frames.specs.Sorts.{AFlag, AProperty, AValue, SomeKeys, reflect_waits}
use Rattle.mb_frames.specs.declared.reflecting.ReflectFrame.{ReflectFrame}
use Rattle.mb_frames.specs.declared.reflecting.ReflectFrame.TheVariants as r
use Rattle.mb_world.specs.declared.cell.ErrorKind.{ErrorKind}
use Rattle.std.proofs.Common.{ℕ}

pub no-more-values : (y : ReflectFrame) → reflect_waits y ≡ AValue → (y ≡ r.ObjectPrototype → ⊥)
    → ((kind : ErrorKind) (message : Value) → y ≡ r.ErrorPrototype kind message → ⊥) → ⊥
no-more-values r.ObjectPrototype e f g = f refl
no-more-values (r.ErrorPrototype kind message) e f g = g kind message refl
no-more-values y e f g = cc

pub no-more-flags : (y : ReflectFrame) → reflect_waits y ≡ AFlag
    → ((object : ObjId) (frozen : Bool) → y ≡ r.Closed object frozen → ⊥)
    → ((object : ObjId) (frozen : Bool) (keys : List Key) (next : ℕ) → y ≡ r.Settled object frozen keys next → ⊥)
    → ((object : ObjId) → y ≡ r.FrozenExtensible object → ⊥) → ((object : ObjId) → y ≡ r.GivenBack object → ⊥)
    → (y ≡ r.Truth → ⊥) → ⊥
no-more-flags (r.Closed object frozen) e f g h j k = f object frozen refl
no-more-flags (r.Settled object frozen keys next) e f g h j k = g object frozen keys next refl
no-more-flags (r.FrozenExtensible object) e f g h j k = h object refl
no-more-flags (r.GivenBack object) e f g h j k = j object refl
no-more-flags r.Truth e f g h j k = k refl
no-more-flags y e f g h j k = cc

pub no-more-properties : (y : ReflectFrame) → reflect_waits y ≡ AProperty
    → ((object : ObjId) (key : Key) (keys : List Key) (next : ℕ) (found : List Value)
    → y ≡ r.KeyRead object key keys next found → ⊥)
    → ((object : ObjId) (key : Key) (keys : List Key) (next : ℕ) → y ≡ r.FreezeRead object key keys next → ⊥)
    → ((object : ObjId) (keys : List Key) (next : ℕ) → y ≡ r.FrozenRead object keys next → ⊥)
    → (y ≡ r.Described → ⊥) → (y ≡ r.HasOwn → ⊥) → ⊥
no-more-properties (r.KeyRead object key keys next found) e f g h j k = f object key keys next found refl
no-more-properties (r.FreezeRead object key keys next) e f g h j k = g object key keys next refl
no-more-properties (r.FrozenRead object keys next) e f g h j k = h object keys next refl
no-more-properties r.Described e f g h j k = j refl
no-more-properties r.HasOwn e f g h j k = k refl
no-more-properties y e f g h j k = cc

pub no-more-keys : (y : ReflectFrame) → reflect_waits y ≡ SomeKeys
    → ((object : ObjId) → y ≡ r.KeysListed object → ⊥) → (y ≡ r.SymbolsListed → ⊥)
    → ((object : ObjId) (frozen : Bool) → y ≡ r.SettledKeys object frozen → ⊥)
    → ((object : ObjId) → y ≡ r.FrozenKeys object → ⊥) → (y ≡ r.OwnKeys → ⊥) → ⊥
no-more-keys (r.KeysListed object) e f g h j k = f object refl
no-more-keys r.SymbolsListed e f g h j k = g refl
no-more-keys (r.SettledKeys object frozen) e f g h j k = h object frozen refl
no-more-keys (r.FrozenKeys object) e f g h j k = j object refl
no-more-keys r.OwnKeys e f g h j k = k refl
no-more-keys y e f g h j k = cc
