-- Frames wait for what those above them give, also where that is of a sort that fits the one of before.
use Rattle.mb_base.specs.declared.value.Side.{Side}
use Rattle.mb_frames.specs.Sorts.{ACompletion, AFlag, AProperty, APrototype, ASlot, AValue, AnObject, AreLinked, Sort, SomeKeys, array_waits, call_waits, collect_waits, expr_waits, fits, frame_sort, op_gives, proxy_waits, reflect_waits, stack_sort, stmt_waits, waits_for}
use Rattle.mb_frames.specs.declared.crossing.MembraneFrame.TheVariants as m
use Rattle.mb_frames.specs.declared.frame.Frame.{Frame}
use Rattle.mb_frames.specs.declared.frame.Frame.TheVariants as x
use Rattle.mb_frames.specs.declared.machine.Waiting.{Waiting}
use Rattle.mb_world.specs.Form.{Form}
use Rattle.std.proofs.Common.{List, [], ap, refl, sym, true, true≢false, ◌++◌, ◌∙◌, ◌∷◌, ◌≡◌}

-- ---- sorts

pub fits-same : (a : Sort) → fits a a ≡ true
fits-same AnObject = refl
fits-same APrototype = refl
fits-same AValue = refl
fits-same AFlag = refl
fits-same AProperty = refl
fits-same SomeKeys = refl
fits-same ASlot = refl
fits-same ACompletion = refl

pub completes : (a : Sort) → fits a ACompletion ≡ true
completes AnObject = refl
completes APrototype = refl
completes AValue = refl
completes AFlag = refl
completes AProperty = refl
completes SomeKeys = refl
completes ASlot = refl
completes ACompletion = refl

last-sort : (c : Sort) → fits ACompletion c ≡ true → c ≡ ACompletion
last-sort AnObject h = absurd (true≢false (sym h))
last-sort APrototype h = absurd (true≢false (sym h))
last-sort AValue h = absurd (true≢false (sym h))
last-sort AFlag h = absurd (true≢false (sym h))
last-sort AProperty h = absurd (true≢false (sym h))
last-sort SomeKeys h = absurd (true≢false (sym h))
last-sort ASlot h = absurd (true≢false (sym h))
last-sort ACompletion h = refl

pub fits-then : (a b c : Sort) → fits a b ≡ true → fits b c ≡ true → fits a c ≡ true
fits-then AnObject AnObject c h k = k
fits-then AnObject APrototype AnObject h k = absurd (true≢false (sym k))
fits-then AnObject APrototype APrototype h k = refl
fits-then AnObject APrototype AValue h k = refl
fits-then AnObject APrototype AFlag h k = absurd (true≢false (sym k))
fits-then AnObject APrototype AProperty h k = absurd (true≢false (sym k))
fits-then AnObject APrototype SomeKeys h k = absurd (true≢false (sym k))
fits-then AnObject APrototype ASlot h k = absurd (true≢false (sym k))
fits-then AnObject APrototype ACompletion h k = refl
fits-then AnObject AValue AnObject h k = absurd (true≢false (sym k))
fits-then AnObject AValue APrototype h k = absurd (true≢false (sym k))
fits-then AnObject AValue AValue h k = refl
fits-then AnObject AValue AFlag h k = absurd (true≢false (sym k))
fits-then AnObject AValue AProperty h k = absurd (true≢false (sym k))
fits-then AnObject AValue SomeKeys h k = absurd (true≢false (sym k))
fits-then AnObject AValue ASlot h k = absurd (true≢false (sym k))
fits-then AnObject AValue ACompletion h k = refl
fits-then AnObject AFlag c h k = absurd (true≢false (sym h))
fits-then AnObject AProperty c h k = absurd (true≢false (sym h))
fits-then AnObject SomeKeys c h k = absurd (true≢false (sym h))
fits-then AnObject ASlot c h k = absurd (true≢false (sym h))
fits-then AnObject ACompletion c h k = rw (last-sort c k) (completes AnObject)
fits-then APrototype AnObject c h k = absurd (true≢false (sym h))
fits-then APrototype APrototype c h k = k
fits-then APrototype AValue AnObject h k = absurd (true≢false (sym k))
fits-then APrototype AValue APrototype h k = absurd (true≢false (sym k))
fits-then APrototype AValue AValue h k = refl
fits-then APrototype AValue AFlag h k = absurd (true≢false (sym k))
fits-then APrototype AValue AProperty h k = absurd (true≢false (sym k))
fits-then APrototype AValue SomeKeys h k = absurd (true≢false (sym k))
fits-then APrototype AValue ASlot h k = absurd (true≢false (sym k))
fits-then APrototype AValue ACompletion h k = refl
fits-then APrototype AFlag c h k = absurd (true≢false (sym h))
fits-then APrototype AProperty c h k = absurd (true≢false (sym h))
fits-then APrototype SomeKeys c h k = absurd (true≢false (sym h))
fits-then APrototype ASlot c h k = absurd (true≢false (sym h))
fits-then APrototype ACompletion c h k = rw (last-sort c k) (completes APrototype)
fits-then AValue AnObject c h k = absurd (true≢false (sym h))
fits-then AValue APrototype c h k = absurd (true≢false (sym h))
fits-then AValue AValue c h k = k
fits-then AValue AFlag c h k = absurd (true≢false (sym h))
fits-then AValue AProperty c h k = absurd (true≢false (sym h))
fits-then AValue SomeKeys c h k = absurd (true≢false (sym h))
fits-then AValue ASlot c h k = absurd (true≢false (sym h))
fits-then AValue ACompletion c h k = rw (last-sort c k) (completes AValue)
fits-then AFlag AnObject c h k = absurd (true≢false (sym h))
fits-then AFlag APrototype c h k = absurd (true≢false (sym h))
fits-then AFlag AValue c h k = absurd (true≢false (sym h))
fits-then AFlag AFlag c h k = k
fits-then AFlag AProperty c h k = absurd (true≢false (sym h))
fits-then AFlag SomeKeys c h k = absurd (true≢false (sym h))
fits-then AFlag ASlot c h k = absurd (true≢false (sym h))
fits-then AFlag ACompletion c h k = rw (last-sort c k) (completes AFlag)
fits-then AProperty AnObject c h k = absurd (true≢false (sym h))
fits-then AProperty APrototype c h k = absurd (true≢false (sym h))
fits-then AProperty AValue c h k = absurd (true≢false (sym h))
fits-then AProperty AFlag c h k = absurd (true≢false (sym h))
fits-then AProperty AProperty c h k = k
fits-then AProperty SomeKeys c h k = absurd (true≢false (sym h))
fits-then AProperty ASlot c h k = absurd (true≢false (sym h))
fits-then AProperty ACompletion c h k = rw (last-sort c k) (completes AProperty)
fits-then SomeKeys AnObject c h k = absurd (true≢false (sym h))
fits-then SomeKeys APrototype c h k = absurd (true≢false (sym h))
fits-then SomeKeys AValue c h k = absurd (true≢false (sym h))
fits-then SomeKeys AFlag c h k = absurd (true≢false (sym h))
fits-then SomeKeys AProperty c h k = absurd (true≢false (sym h))
fits-then SomeKeys SomeKeys c h k = k
fits-then SomeKeys ASlot c h k = absurd (true≢false (sym h))
fits-then SomeKeys ACompletion c h k = rw (last-sort c k) (completes SomeKeys)
fits-then ASlot AnObject c h k = absurd (true≢false (sym h))
fits-then ASlot APrototype c h k = absurd (true≢false (sym h))
fits-then ASlot AValue c h k = absurd (true≢false (sym h))
fits-then ASlot AFlag c h k = absurd (true≢false (sym h))
fits-then ASlot AProperty c h k = absurd (true≢false (sym h))
fits-then ASlot SomeKeys c h k = absurd (true≢false (sym h))
fits-then ASlot ASlot c h k = k
fits-then ASlot ACompletion c h k = rw (last-sort c k) (completes ASlot)
fits-then ACompletion AnObject c h k = absurd (true≢false (sym h))
fits-then ACompletion APrototype c h k = absurd (true≢false (sym h))
fits-then ACompletion AValue c h k = absurd (true≢false (sym h))
fits-then ACompletion AFlag c h k = absurd (true≢false (sym h))
fits-then ACompletion AProperty c h k = absurd (true≢false (sym h))
fits-then ACompletion SomeKeys c h k = absurd (true≢false (sym h))
fits-then ACompletion ASlot c h k = absurd (true≢false (sym h))
fits-then ACompletion ACompletion c h k = k

-- ---- frames

waits-fit : (y : Frame) (a b : Sort) → fits a b ≡ true → waits_for y b ≡ true → waits_for y a ≡ true
waits-fit (x.Begin y) a b h k = refl
waits-fit (x.Begun y) a b h k = refl
waits-fit (x.Anew y) a b h k = refl
waits-fit (x.Expr y) a b h k = fits-then a b (expr_waits y) h k
waits-fit (x.Stmt y) a b h k = fits-then a b (stmt_waits y) h k
waits-fit (x.Call y) a b h k = fits-then a b (call_waits y) h k
waits-fit (x.Reflect y) a b h k = fits-then a b (reflect_waits y) h k
waits-fit (x.Array y) a b h k = fits-then a b (array_waits y) h k
waits-fit (x.Proxy y) a b h k = fits-then a b (proxy_waits y) h k
waits-fit (x.Collect y) a b h k = fits-then a b (collect_waits y) h k
waits-fit (x.Membrane m.Crossing) a b h k = refl
waits-fit (x.Membrane (m.TrapGot owner target handler method)) a b h k = fits-then a b AValue h k
waits-fit (x.Entry y) a b h k = fits-then a b (op_gives y.op) h k

frame-fits : (fs : List Form) (y : Frame) (a b : Sort) → fits a b ≡ true
    → fits (frame_sort fs y a) (frame_sort fs y b) ≡ true
frame-fits fs (x.Begin y) a b h = fits-same (frame_sort fs (x.Begin y) a)
frame-fits fs (x.Begun y) a b h = fits-same (frame_sort fs (x.Begun y) a)
frame-fits fs (x.Anew y) a b h = fits-same (frame_sort fs (x.Anew y) a)
frame-fits fs (x.Expr y) a b h = refl
frame-fits fs (x.Stmt y) a b h = refl
frame-fits fs (x.Call y) a b h = fits-same (frame_sort fs (x.Call y) a)
frame-fits fs (x.Reflect y) a b h = fits-same (frame_sort fs (x.Reflect y) a)
frame-fits fs (x.Array y) a b h = fits-same (frame_sort fs (x.Array y) a)
frame-fits fs (x.Proxy y) a b h = fits-same (frame_sort fs (x.Proxy y) a)
frame-fits fs (x.Collect y) a b h = fits-same (frame_sort fs (x.Collect y) a)
frame-fits fs (x.Membrane m.Crossing) a b h = h
frame-fits fs (x.Membrane (m.TrapGot owner target handler method)) a b h =
    fits-same (frame_sort fs (x.Membrane (m.TrapGot owner target handler method)) a)
frame-fits fs (x.Entry y) a b h = fits-same (frame_sort fs (x.Entry y) a)

-- ---- stacks

module _ (forms : Side → List Form) where
  stack-fits : (ys : List Waiting) (a b : Sort) → fits a b ≡ true
      → fits (stack_sort forms ys a) (stack_sort forms ys b) ≡ true
  stack-fits [] a b h = h
  stack-fits (y ∷ ys) a b h =
      frame-fits (forms y.home) y.frame (stack_sort forms ys a) (stack_sort forms ys b) (stack-fits ys a b h)

  pub linked-fits : (ys : List Waiting) (a b : Sort) → fits a b ≡ true → AreLinked forms ys b → AreLinked forms ys a
  linked-fits [] a b h k = tt
  linked-fits (y ∷ ys) a b h k = (
    waits-fit y.frame (stack_sort forms ys a) (stack_sort forms ys b) (stack-fits ys a b h) k.0,
    linked-fits ys a b h k.1,
  )

  sort-on : (a b : List Waiting) (s : Sort) → stack_sort forms (a ++ b) s ≡ stack_sort forms a (stack_sort forms b s)
  sort-on [] b s = refl
  sort-on (y ∷ ys) b s = ap (frame_sort (forms y.home) y.frame) (sort-on ys b s)

  pub linked-below : (a b : List Waiting) (s : Sort) → AreLinked forms (a ++ b) s
      → AreLinked forms a (stack_sort forms b s)
  linked-below [] b s h = tt
  linked-below (y ∷ ys) b s h =
      (ap (waits_for y.frame) (sym (sort-on ys b s)) ∙ h.0, linked-below ys b s h.1)

  pub linked-both : (a b : List Waiting) (s : Sort) → AreLinked forms a (stack_sort forms b s) → AreLinked forms b s
      → AreLinked forms (a ++ b) s
  linked-both [] b s h k = k
  linked-both (y ∷ ys) b s h k = (ap (waits_for y.frame) (sort-on ys b s) ∙ h.0, linked-both ys b s h.1 k)
