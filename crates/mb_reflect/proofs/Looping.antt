-- Rows that visit keys of a list, one after the other, a unit for each.
use Rattle.std.proofs.Common.{◌+◌, ◌<◌, ◌≡◌, ◌∙◌, ◌∷◌, Err, List, None, Option, Result, Some, [], ap, drop, option_map}
use Rattle.std.proofs.Common.{slice_get, sym, ℕ}
use Rattle.std.proofs.lemmas.Option.{slice_get-map}
use Rattle.mb_base.specs.declared.value.Key.{Key}
use Rattle.mb_base.specs.declared.value.Side.{Side}
use Rattle.mb_frames.proofs.HeldLess.{key-held}
use Rattle.mb_frames.proofs.Steps.{drop-at}
use Rattle.mb_frames.specs.Held.{HeldKey, HeldKeys}
use Rattle.mb_frames.specs.Ready.{IsReady, MayHold}
use Rattle.mb_frames.specs.Resolved.{keys_of}
use Rattle.mb_frames.specs.Sorts.{AValue}
use Rattle.mb_frames.specs.Stepping.{charged_by}
use Rattle.mb_frames.specs.declared.frame.Move.{Move}
use Rattle.mb_frames.specs.declared.machine.Halt.{Halt}
use Rattle.mb_frames.specs.declared.machine.Halt.TheVariants.{Spent as SpentHalt}
use Rattle.mb_model.specs.Writing.{Row}
use Rattle.mb_parts.proofs.Places.{drop-past}
use Rattle.mb_reflect.proofs.Doing.{Done, done-by, done-paid, done-unpaid}
use Rattle.mb_world.proofs.Grow.{All-at}
use Rattle.mb_world.specs.Data.{Data}
use Rattle.mb_world.specs.Graph.{Graph, Item}
use Rattle.mb_world.specs.Ids.{KeyIn}
use Rattle.mb_world.specs.Image.{Image, Names, key_in, names_of}
use Rattle.mb_world.specs.Key.{PropertyKey}

-- ---- lists of keys

module _ (n : Names) (keys : List Key) (next : ℕ) where
  in-names : (m : Option Key) → m ≡ slice_get keys next → slice_get (keys_of n keys) next ≡ option_map (key_in n) m
  in-names m e = slice_get-map (key_in n) keys next ∙ ap (option_map (key_in n)) (sym e)

  keys-past : None ≡ slice_get keys next → drop next (keys_of n keys) ≡ []
  keys-past e = drop-past (keys_of n keys) next (in-names None e)

  keys-at : (key : Key) → Some key ≡ slice_get keys next
      → drop next (keys_of n keys) ≡ key_in n key ∷ drop (next + 1) (keys_of n keys)
  keys-at key e = drop-at (keys_of n keys) next (key_in n key) (in-names (Some key) e)

pub listed-held : (d : Data) (home : Side) (keys : List Key) (next : ℕ) (key : Key) → MayHold d home (HeldKeys keys)
    → Some key ≡ slice_get keys next → MayHold d home (HeldKey key)
listed-held d home keys next key h e = key-held d home key (All-at (KeyIn d) keys next key (sym e) h.within)

-- ---- a visit

module _ (home : Side) (d : Data) (keys : List Key) (next : ℕ) (row : List PropertyKey → Graph → Row) where
  abbrev left : List PropertyKey
  left = drop next (keys_of (names_of d) keys)

  -- the list is at its end
  pub done-past : (r : Result Move Halt) (d' : Data) (f f' : ℕ) → None ≡ slice_get keys next
      → Done home AValue r d d' f f' (row []) → Done home AValue r d d' f f' (row left)
  done-past r d' f f' e h =
      done-by home AValue r d d' f f' (row left) (row [])
      (λ log. ap (λ (ks : List PropertyKey). row ks (Image d log)) (keys-past (names_of d) keys next e)) h

  module _ (key : Key) (at : Some key ≡ slice_get keys next) (q : Graph → Row)
      (pays : (log : List Item) → row (key_in (names_of d) key ∷ drop (next + 1) (keys_of (names_of d) keys))
      (Image d log) ≡ charged_by 1 q (Image d log)) (ready : IsReady d) where
    row-is : (log : List Item) → row left (Image d log) ≡ charged_by 1 q (Image d log)
    row-is log =
        ap (λ (ks : List PropertyKey). row ks (Image d log)) (keys-at (names_of d) keys next key at) ∙ pays log

    -- its unit is paid
    pub done-visit : (r : Result Move Halt) (d' : Data) (f f1 f2 : ℕ) → f1 + 1 ≡ f
        → Done home AValue r d d' f1 f2 q → Done home AValue r d d' f f2 (row left)
    done-visit r d' f f1 f2 e h =
        done-by home AValue r d d' f f2 (row left) (charged_by 1 q) row-is
        (done-paid home AValue r d d' 1 f f1 f2 q e ready h)

    -- or can't be
    pub done-no-visit : (f : ℕ) → f < 1 → Done home AValue (Err SpentHalt) d d f f (row left)
    done-no-visit f e =
        done-by home AValue (Err SpentHalt) d d f f (row left) (charged_by 1 q) row-is
        (done-unpaid home AValue d 1 f q e ready)
