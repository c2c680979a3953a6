-- The target's keys as they are parted, one after the other.
use Rattle.std.proofs.Common.{◌+◌, ◌++◌, ◌∙◌, ◌∷◌, ◌≡◌, Bool, List, None, Option, Result, Some, [], ap, drop, false}
use Rattle.std.proofs.Common.{option_map, refl, slice_get, suc, true, zero, ℕ}
use Rattle.std.proofs.lemmas.List.Elements.{All-append, All-cons, All-nil}
use Rattle.std.proofs.lemmas.List.{map-append}
use Rattle.std.proofs.lemmas.Option.{slice_get-map}
use Rattle.std.specs.Prelude.{if◌then◌else◌}
use Rattle.mb_base.specs.declared.value.Key.{Key}
use Rattle.mb_base.specs.declared.value.ObjId.{ObjId}
use Rattle.mb_base.specs.declared.value.Side.{Side}
use Rattle.mb_base.specs.declared.value.Value.{Value}
use Rattle.mb_desc.specs.Descriptors.{is_fixed, property_is}
use Rattle.mb_desc.specs.declared.descriptor.Full.{Full}
use Rattle.mb_frames.proofs.HeldLess.{key-held, keys-held}
use Rattle.mb_frames.proofs.Steps.{drop-at}
use Rattle.mb_frames.specs.Held.{HeldKey, HeldKeys, HeldObject}
use Rattle.mb_frames.specs.Holding.{proxy_held}
use Rattle.mb_frames.specs.Passing.{Part}
use Rattle.mb_frames.specs.Ready.{Holds, Leaves, MayHold}
use Rattle.mb_frames.specs.Resolved.{keys_of, real_in}
use Rattle.mb_frames.specs.Rest.Proxying.{parted}
use Rattle.mb_frames.specs.Sorts.{SomeKeys}
use Rattle.mb_frames.specs.Stepping.{Sure}
use Rattle.mb_frames.specs.declared.frame.Frame.TheVariants as x
use Rattle.mb_frames.specs.declared.frame.Move.{Move}
use Rattle.mb_frames.specs.declared.frame.Move.TheVariants as move
use Rattle.mb_frames.specs.declared.machine.Halt.{Halt}
use Rattle.mb_frames.specs.declared.proxies.ProxyFrame.{ProxyFrame}
use Rattle.mb_frames.specs.declared.proxies.ProxyFrame.TheVariants as p
use Rattle.mb_frames.specs.declared.task.Method.TheVariants as m
use Rattle.mb_frames.specs.declared.task.Task.TheVariants as task
use Rattle.mb_model.specs.Meaning.{finished}
use Rattle.mb_model.specs.Objects.Proxies.{Parted, keys_parted, with_parted}
use Rattle.mb_model.specs.Writing.{Row}
use Rattle.mb_scriptproxy.proofs.Asking.{Sure-asks, leaves-asks}
use Rattle.mb_scriptproxy.specs.declared.keys.Parting.{Parting}
use Rattle.mb_scriptproxy.specs.machine.Parting.{AreKeysIn, IsParted, parting_held}
use Rattle.mb_world.proofs.Grow.{All-at}
use Rattle.mb_world.specs.Data.{Data}
use Rattle.mb_world.specs.Graph.{Graph}
use Rattle.mb_world.specs.Ids.{KeyIn}
use Rattle.mb_world.specs.Image.{Image, Names, key_in, names_of, object_in}
use Rattle.mb_world.specs.Key.{PropertyKey}
use Rattle.mb_world.specs.Value.{Val}

drop-none : {A : Type 0} (xs : List A) (i : ℕ) → slice_get xs i ≡ None → drop i xs ≡ []
drop-none [] zero e = refl
drop-none [] (suc i) e = refl
drop-none (x ∷ xs) zero e = cc
drop-none (x ∷ xs) (suc i) e = drop-none xs i e

module _ (home : Side) (d : Data) (target : ObjId) (at : Parting) where
  abbrev n : Names
  n = names_of d

  abbrev t : Val
  t = object_in (names_of d) target

  -- the row from a list of the target's keys on
  abbrev pub parting_row : List PropertyKey → Graph → Row
  parting_row ks =
      keys_parted home.0 t (keys_of (names_of d) at.said) at.extensible ks (parted (names_of d) at.fixed at.loose)
      finished

  module _ (h : Holds d home (HeldObject target ∷ parting_held at)) where
    pub keys-there : AreKeysIn d at
    keys-there = record { said = h.1.0.within; fixed = h.1.1.1.0.within; loose = h.1.1.1.1.0.within }

    module _ (key : Key) (e : slice_get at.keys at.next ≡ Some key) where
      abbrev frame : ProxyFrame
      frame = p.KeyRead target at.said at.extensible key at.keys (at.next + 1) at.fixed at.loose

      more : drop at.next (keys_of (names_of d) at.keys)
          ≡ key_in (names_of d) key ∷ drop (at.next + 1) (keys_of (names_of d) at.keys)
      more = drop-at (keys_of n at.keys) at.next (key_in n key)
          (slice_get-map (key_in n) at.keys at.next ∙ ap (option_map (key_in n)) e)

      there : MayHold d home (HeldKey key)
      there = key-held d home key (All-at (KeyIn d) at.keys at.next key e h.1.1.0.within)

      holds : Holds d home
          (proxy_held (p.KeyRead target at.said at.extensible key at.keys (at.next + 1) at.fixed at.loose))
      holds = (h.0, (h.1.0, (there, (h.1.1.0, (h.1.1.1.0, (h.1.1.1.1.0, tt))))))

      pub Sure-next : Sure home d (parting_row (drop at.next (keys_of (names_of d) at.keys)))
          (move.Wait (x.Proxy (p.KeyRead target at.said at.extensible key at.keys (at.next + 1) at.fixed at.loose))
          (task.Perform (m.GetOwnProperty key) target home true))
      Sure-next =
          Sure-asks home d frame (m.GetOwnProperty key) target holds (h.0, (there, tt))
          (parting_row (drop at.next (keys_of (names_of d) at.keys)))
          (λ log. ap (λ (ks : List PropertyKey). parting_row ks (Image d log)) more)

      pub leaves-next : Leaves d home SomeKeys
          (move.Wait (x.Proxy (p.KeyRead target at.said at.extensible key at.keys (at.next + 1) at.fixed at.loose))
          (task.Perform (m.GetOwnProperty key) target home true))
      leaves-next =
          leaves-asks home d frame (m.GetOwnProperty key) target holds (h.0, (there, tt)) SomeKeys refl refl

  -- behind the last key
  pub none-left : slice_get at.keys at.next ≡ None → drop at.next (keys_of (names_of d) at.keys) ≡ []
  none-left e = drop-none (keys_of n at.keys) at.next
      (slice_get-map (key_in n) at.keys at.next ∙ ap (option_map (key_in n)) e)

-- ---- one key more

parted-more : (s : Names) (fixed loose : List Key) (key : Key) (b : Bool)
    → parted s (if b then fixed ++ (key ∷ []) else fixed) (if b then loose else loose ++ (key ∷ []))
    ≡ (let x : Parted = parted s fixed loose in
    if b then record x { fixed = x.fixed ++ (key_in s key ∷ []) }
    else record x { loose = x.loose ++ (key_in s key ∷ []) })
parted-more s fixed loose key true =
    ap (λ (ks : List PropertyKey). let x : Parted = record { fixed = ks; loose = keys_of s loose } in x)
    (map-append (key_in s) fixed (key ∷ []))
parted-more s fixed loose key false =
    ap (λ (ks : List PropertyKey). let x : Parted = record { fixed = keys_of s fixed; loose = ks } in x)
    (map-append (key_in s) loose (key ∷ []))

module _ (d : Data) (home : Side) (target : ObjId) (at now : Parting) (key : Key) (real : Option (Full Value))
    (b : Bool)
    (q : IsParted at key b now) (e : property_is is_fixed (real_in (names_of d) real) ≡ b) where
  abbrev s : Names
  s = names_of d

  is-parted : parted (names_of d) now.fixed now.loose
      ≡ with_parted (key_in (names_of d) key) (parted (names_of d) at.fixed at.loose) (real_in (names_of d) real)
  is-parted = rw (q.fixed_keys, q.loose_keys, e) (parted-more s at.fixed at.loose key b)

  pub Part-parted : (r : Result Move Halt) (d' : Data) (f : ℕ)
      → Part home r d d' f f
      (keys_parted home.0 (object_in (names_of d) target) (keys_of (names_of d) now.said) now.extensible
      (drop now.next (keys_of (names_of d) now.keys)) (parted (names_of d) now.fixed now.loose) finished)
      → Part home r d d' f f
      (keys_parted home.0 (object_in (names_of d) target) (keys_of (names_of d) at.said) at.extensible
      (drop at.next (keys_of (names_of d) at.keys))
      (with_parted (key_in (names_of d) key) (parted (names_of d) at.fixed at.loose) (real_in (names_of d) real))
      finished)
  Part-parted r d' f h = rw (← is-parted, ← q.said, ← q.extensible, ← q.next, ← q.keys) h

  one-more : (c : Bool) (ks : List Key) → MayHold d home (HeldKeys ks) → MayHold d home (HeldKey key)
      → MayHold d home (HeldKeys (if c then ks ++ (key ∷ []) else ks))
  one-more true ks h k =
      keys-held d home (ks ++ (key ∷ []))
      (All-append (KeyIn d) ks (key ∷ []) h.within (All-cons (KeyIn d) key [] k.within (All-nil (KeyIn d))))
  one-more false ks h k = h

  or-more : (c : Bool) (ks : List Key) → MayHold d home (HeldKeys ks) → MayHold d home (HeldKey key)
      → MayHold d home (HeldKeys (if c then ks else ks ++ (key ∷ [])))
  or-more true ks h k = h
  or-more false ks h k = one-more true ks h k

  pub parted-held : Holds d home (HeldKey key ∷ parting_held at) → Holds d home (parting_held now)
  parted-held h = (
    rw q.said h.1.0,
    (
      rw q.keys h.1.1.0,
      (rw q.fixed_keys (one-more b at.fixed h.1.1.1.0 h.0), (rw q.loose_keys (or-more b at.loose h.1.1.1.1.0 h.0), tt)),
    ),
  )
