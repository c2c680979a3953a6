-- Outcomes that a frame of a Proxy takes.
use Rattle.std.proofs.Common.{Bool, List, Option, Some, ap, inl, inr, refl, sym, true, true≢false, ℕ, ◌∙◌, ◌≡◌}
use Rattle.std.proofs.Common.{◌⊎◌}
use Rattle.mb_base.specs.declared.value.Key.{Key}
use Rattle.mb_base.specs.declared.value.ObjId.{ObjId}
use Rattle.mb_base.specs.declared.value.Side.{Side}
use Rattle.mb_base.specs.declared.value.Value.{Value}
use Rattle.mb_desc.specs.declared.descriptor.Desc.{Desc}
use Rattle.mb_desc.specs.declared.descriptor.Full.{Full}
use Rattle.mb_frames.specs.Sorts.{ACompletion, AFlag, AnObject, APrototype, AProperty, ASlot, AValue, IsAnswer}
use Rattle.mb_frames.specs.Sorts.{IsOfSort, SomeKeys, Sort, fits, proxy_waits}
use Rattle.mb_frames.specs.declared.proxies.Absent.{Absent}
use Rattle.mb_frames.specs.declared.proxies.ProxyFrame.{ProxyFrame}
use Rattle.mb_frames.specs.declared.proxies.ProxyFrame.TheVariants as p
use Rattle.mb_frames.specs.declared.task.Answer.{Answer}
use Rattle.mb_frames.specs.declared.task.Answer.TheVariants as a
use Rattle.mb_frames.specs.declared.task.Method.{Method}
use Rattle.mb_frames.specs.declared.task.Outcome.{Outcome}
use Rattle.mb_frames.specs.declared.task.Outcome.TheVariants as o
use Rattle.mb_scriptproxy.specs.machine.Acting.{waiting_side}
use Rattle.mb_scriptproxy.specs.machine.Resuming.{IsAwaited, is_valued}

-- ---- what no frame waits for

never-any : (y : ProxyFrame) → proxy_waits y ≡ ACompletion → ⊥
never-any p.PreventRead e = cc
never-any _ e = cc

never-slot : (y : ProxyFrame) → proxy_waits y ≡ ASlot → ⊥
never-slot p.PreventRead e = cc
never-slot _ e = cc

-- ---- the sort of an answer is the one that is waited for

of-flag : (s w : Sort) (b : Bool) → (w ≡ ACompletion → ⊥) → IsAnswer s (a.Flag b) → fits s w ≡ true → w ≡ AFlag
of-flag AFlag AFlag b n h e = refl
of-flag AFlag ACompletion b n h e = absurd (n refl)
of-flag AFlag _ b n h e = absurd (true≢false (sym e))
of-flag ACompletion ACompletion b n h e = absurd (n refl)
of-flag ACompletion _ b n h e = absurd (true≢false (sym e))
of-flag _ w b n h e = absurd h

of-property : (s w : Sort) (f : Option (Full Value)) → (w ≡ ACompletion → ⊥) → IsAnswer s (a.Prop f) → fits s w ≡ true
    → w ≡ AProperty
of-property AProperty AProperty f n h e = refl
of-property AProperty ACompletion f n h e = absurd (n refl)
of-property AProperty _ f n h e = absurd (true≢false (sym e))
of-property ACompletion ACompletion f n h e = absurd (n refl)
of-property ACompletion _ f n h e = absurd (true≢false (sym e))
of-property _ w f n h e = absurd h

of-keys : (s w : Sort) (ks : List Key) → (w ≡ ACompletion → ⊥) → IsAnswer s (a.Keys ks) → fits s w ≡ true → w ≡ SomeKeys
of-keys SomeKeys SomeKeys ks n h e = refl
of-keys SomeKeys ACompletion ks n h e = absurd (n refl)
of-keys SomeKeys _ ks n h e = absurd (true≢false (sym e))
of-keys ACompletion ACompletion ks n h e = absurd (n refl)
of-keys ACompletion _ ks n h e = absurd (true≢false (sym e))
of-keys _ w ks n h e = absurd h

of-value : (s w : Sort) (x : Value) → (w ≡ ACompletion → ⊥) → IsAnswer s (a.Value x) → fits s w ≡ true
    → is_valued w ≡ true
of-value s AnObject x n h e = refl
of-value s APrototype x n h e = refl
of-value s AValue x n h e = refl
of-value s ACompletion x n h e = absurd (n refl)
of-value AFlag w x n h e = absurd h
of-value AProperty w x n h e = absurd h
of-value SomeKeys w x n h e = absurd h
of-value ASlot w x n h e = absurd h
of-value _ AFlag x n h e = absurd (true≢false (sym e))
of-value _ AProperty x n h e = absurd (true≢false (sym e))
of-value _ SomeKeys x n h e = absurd (true≢false (sym e))
of-value _ ASlot x n h e = absurd (true≢false (sym e))

pub value-waits : (y : ProxyFrame) (x : Value) → IsAwaited (proxy_waits y) (o.Normal (a.Value x))
    → is_valued (proxy_waits y) ≡ true
value-waits y x h = of-value h.sort (proxy_waits y) x (never-any y) h.is h.fit

pub flag-waits : (y : ProxyFrame) (b : Bool) → IsAwaited (proxy_waits y) (o.Normal (a.Flag b)) → proxy_waits y ≡ AFlag
flag-waits y b h = of-flag h.sort (proxy_waits y) b (never-any y) h.is h.fit

pub property-waits : (y : ProxyFrame) (f : Option (Full Value)) → IsAwaited (proxy_waits y) (o.Normal (a.Prop f))
    → proxy_waits y ≡ AProperty
property-waits y f h = of-property h.sort (proxy_waits y) f (never-any y) h.is h.fit

pub keys-wait : (y : ProxyFrame) (ks : List Key) → IsAwaited (proxy_waits y) (o.Normal (a.Keys ks))
    → proxy_waits y ≡ SomeKeys
keys-wait y ks h = of-keys h.sort (proxy_waits y) ks (never-any y) h.is h.fit

-- ---- no other answer reaches them

of-no-sort : (s : Sort) (y : Answer) → ((x : Value) → y ≡ a.Value x → ⊥) → ((b : Bool) → y ≡ a.Flag b → ⊥)
    → ((q : Option (Full Value)) → y ≡ a.Prop q → ⊥) → ((ks : List Key) → y ≡ a.Keys ks → ⊥) → IsAnswer s y
    → (s ≡ ACompletion) ⊎ (s ≡ ASlot)
of-no-sort s (a.Value x) f g h k i = absurd (f x refl)
of-no-sort s (a.Flag b) f g h k i = absurd (g b refl)
of-no-sort s (a.Prop q) f g h k i = absurd (h q refl)
of-no-sort s (a.Keys ks) f g h k i = absurd (k ks refl)
of-no-sort ACompletion y f g h k i = inl refl
of-no-sort ASlot y f g h k i = inr refl
of-no-sort _ _ f g h k i = absurd i

fits-any : (w : Sort) → fits ACompletion w ≡ true → w ≡ ACompletion
fits-any ACompletion e = refl
fits-any _ e = absurd (true≢false (sym e))

fits-slot : (w : Sort) → fits ASlot w ≡ true → (w ≡ ACompletion) ⊎ (w ≡ ASlot)
fits-slot ACompletion e = inl refl
fits-slot ASlot e = inr refl
fits-slot _ e = absurd (true≢false (sym e))

pub no-other-answer : (y : ProxyFrame) (z : Answer) → ((x : Value) → z ≡ a.Value x → ⊥)
    → ((b : Bool) → z ≡ a.Flag b → ⊥) → ((q : Option (Full Value)) → z ≡ a.Prop q → ⊥)
    → ((ks : List Key) → z ≡ a.Keys ks → ⊥) → IsAwaited (proxy_waits y) (o.Normal z) → ⊥
no-other-answer y z f g h k i = elim (of-no-sort i.sort z f g h k i.is) [
  | inl r ↦ never-any y (fits-any (proxy_waits y) (sym (ap (λ (s : Sort). fits s (proxy_waits y)) r) ∙ i.fit))
  | inr r ↦ elim (fits-slot (proxy_waits y) (sym (ap (λ (s : Sort). fits s (proxy_waits y)) r) ∙ i.fit)) [
    | inl q ↦ never-any y q
    | inr q ↦ never-slot y q
  ]
]

-- ---- no jump and no return reaches them

of-sort : (s : Sort) (y : Outcome) → ((x : Answer) → y ≡ o.Normal x → ⊥) → ((x : Value) → y ≡ o.Throw x → ⊥)
    → IsOfSort s y → s ≡ ACompletion
of-sort s (o.Normal x) f g h = absurd (f x refl)
of-sort s (o.Throw x) f g h = absurd (g x refl)
of-sort ACompletion y f g h = refl
of-sort s (o.Return x) f g h = absurd h
of-sort s o.Break f g h = absurd h
of-sort s o.Continue f g h = absurd h

pub no-jump : (y : ProxyFrame) (d : Outcome) → IsAwaited (proxy_waits y) d → ((x : Answer) → d ≡ o.Normal x → ⊥)
    → ((x : Value) → d ≡ o.Throw x → ⊥) → ⊥
no-jump y d w f g =
    never-any y (fits-any (proxy_waits y)
    (sym (ap (λ (s : Sort). fits s (proxy_waits y)) (of-sort w.sort d f g w.is)) ∙ w.fit))

-- ---- the owner goes on with all but values

pub throw-side : (home : Side) (y : ProxyFrame) (x : Value) → waiting_side home y (Some (o.Throw x)) ≡ home
throw-side home p.PreventRead x = refl
throw-side home _ x = refl

pub flag-side : (home : Side) (y : ProxyFrame) (b : Bool) → waiting_side home y (Some (o.Normal (a.Flag b))) ≡ home
flag-side home p.PreventRead b = refl
flag-side home _ b = refl

pub property-side : (home : Side) (y : ProxyFrame) (f : Option (Full Value))
    → waiting_side home y (Some (o.Normal (a.Prop f))) ≡ home
property-side home p.PreventRead f = refl
property-side home _ f = refl

pub keys-side : (home : Side) (y : ProxyFrame) (ks : List Key)
    → waiting_side home y (Some (o.Normal (a.Keys ks))) ≡ home
keys-side home p.PreventRead ks = refl
keys-side home _ ks = refl

-- ---- frames that wait for another sort

pub no-other-value : (y : ProxyFrame) → is_valued (proxy_waits y) ≡ true
    → ((side : Side) (target : ObjId) (handler : ObjId) (method : Method)
    → y ≡ p.TrapGot side target handler method → ⊥)
    → ((target : ObjId) (method : Method) → y ≡ p.Said target method → ⊥)
    → ((said : Value) → y ≡ p.PrototypeRead said → ⊥)
    → ((given : Value) → y ≡ p.SetPrototypeRead given → ⊥) → ⊥
no-other-value (p.TrapGot side target handler method) e h0 h1 h2 h3 = absurd (h0 side target handler method refl)
no-other-value (p.Said target method) e h0 h1 h2 h3 = absurd (h1 target method refl)
no-other-value (p.PrototypeRead said) e h0 h1 h2 h3 = absurd (h2 said refl)
no-other-value (p.SetPrototypeRead given) e h0 h1 h2 h3 = absurd (h3 given refl)
no-other-value _ e h0 h1 h2 h3 = cc

pub no-other-flag : (y : ProxyFrame) → proxy_waits y ≡ AFlag
    → ((target : ObjId) (said : Value) → y ≡ p.PrototypeExtensible target said → ⊥)
    → ((target : ObjId) (given : Value) → y ≡ p.SetPrototypeExtensible target given → ⊥)
    → ((said : Bool) → y ≡ p.ExtensibleRead said → ⊥)
    → (y ≡ p.PreventRead → ⊥)
    → ((real : Full Value) (which : Absent) → y ≡ p.AbsentExtensible real which → ⊥)
    → ((said : Full Value) (real : Option (Full Value)) → y ≡ p.OwnExtensible said real → ⊥)
    → ((given : Desc Value) (real : Option (Full Value)) → y ≡ p.DefineExtensible given real → ⊥)
    → ((target : ObjId) (said : List Key) → y ≡ p.KeysExtensible target said → ⊥) → ⊥
no-other-flag (p.PrototypeExtensible target said) e h0 h1 h2 h3 h4 h5 h6 h7 = absurd (h0 target said refl)
no-other-flag (p.SetPrototypeExtensible target given) e h0 h1 h2 h3 h4 h5 h6 h7 = absurd (h1 target given refl)
no-other-flag (p.ExtensibleRead said) e h0 h1 h2 h3 h4 h5 h6 h7 = absurd (h2 said refl)
no-other-flag p.PreventRead e h0 h1 h2 h3 h4 h5 h6 h7 = absurd (h3 refl)
no-other-flag (p.AbsentExtensible real which) e h0 h1 h2 h3 h4 h5 h6 h7 = absurd (h4 real which refl)
no-other-flag (p.OwnExtensible said real) e h0 h1 h2 h3 h4 h5 h6 h7 = absurd (h5 said real refl)
no-other-flag (p.DefineExtensible given real) e h0 h1 h2 h3 h4 h5 h6 h7 = absurd (h6 given real refl)
no-other-flag (p.KeysExtensible target said) e h0 h1 h2 h3 h4 h5 h6 h7 = absurd (h7 target said refl)
no-other-flag _ e h0 h1 h2 h3 h4 h5 h6 h7 = cc

pub no-other-property : (y : ProxyFrame) → proxy_waits y ≡ AProperty
    → ((target : ObjId) (which : Absent) → y ≡ p.AbsentRead target which → ⊥)
    → ((target : ObjId) (said : Full Value) → y ≡ p.OwnRead target said → ⊥)
    → ((target : ObjId) (given : Desc Value) → y ≡ p.DefineRead target given → ⊥)
    → ((said : Value) → y ≡ p.GetRead said → ⊥)
    → ((given : Value) → y ≡ p.SetRead given → ⊥)
    → ((target : ObjId) (said : List Key) (extensible : Bool) (key : Key) (keys : List Key) (next : ℕ)
    (fixed : List Key) (loose : List Key) → y ≡ p.KeyRead target said extensible key keys next fixed loose → ⊥) → ⊥
no-other-property (p.AbsentRead target which) e h0 h1 h2 h3 h4 h5 = absurd (h0 target which refl)
no-other-property (p.OwnRead target said) e h0 h1 h2 h3 h4 h5 = absurd (h1 target said refl)
no-other-property (p.DefineRead target given) e h0 h1 h2 h3 h4 h5 = absurd (h2 target given refl)
no-other-property (p.GetRead said) e h0 h1 h2 h3 h4 h5 = absurd (h3 said refl)
no-other-property (p.SetRead given) e h0 h1 h2 h3 h4 h5 = absurd (h4 given refl)
no-other-property (p.KeyRead target said extensible key keys next fixed loose) e h0 h1 h2 h3 h4 h5 =
    absurd (h5 target said extensible key keys next fixed loose refl)
no-other-property _ e h0 h1 h2 h3 h4 h5 = cc

pub no-other-keys : (y : ProxyFrame) → proxy_waits y ≡ SomeKeys
    → ((target : ObjId) (said : List Key) (extensible : Bool) → y ≡ p.KeysListed target said extensible → ⊥) → ⊥
no-other-keys (p.KeysListed target said extensible) e h0 = absurd (h0 target said extensible refl)
no-other-keys _ e h0 = cc
