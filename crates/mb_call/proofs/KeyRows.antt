-- The keys that a trap of ownKeys gave (ECMA-262 10.5.11): what they are, and that they are distinct.
use Rattle.std.proofs.Common.{◌+◌, ◌++◌, ◌<◌, ◌≤◌, Bool, List, get_or, length, take, None, Ok, Option, Result, Some, []}
use Rattle.std.proofs.Common.{ap, false, not, option_map, refl, subst, sym, true, ℕ, ◌∙◌, ◌∷◌, ◌≡◌}
use Rattle.std.proofs.lemmas.List.{map-append, take_all, take_more}
use Rattle.std.proofs.lemmas.List.Elements.{All-append, All-cons, All-head, All-nil, All-tail, All-weaker}
use Rattle.std.specs.Prelude.{All}
use Rattle.mb_base.specs.declared.value.Key.{Key}
use Rattle.mb_base.specs.declared.value.ObjId.{ObjId}
use Rattle.mb_base.specs.declared.value.Side.{Side}
use Rattle.mb_base.specs.declared.value.Value.{Value}
use Rattle.mb_call.specs.machine.Lists.{IsAdded, key_if}
use Rattle.mb_check.specs.Keys.{are_distinct, is_among}
use Rattle.mb_check.specs.Rules.{first_broken}
use Rattle.mb_check.specs.Values as check
use Rattle.mb_check.specs.contracts.verdict.VerdictPartialEq.TheImpl
use Rattle.mb_check.specs.declared.verdict.Verdict.{Verdict}
use Rattle.mb_check.specs.declared.verdict.Verdict.TheVariants.{Pass}
use Rattle.mb_frames.proofs.HeldLess.{keys-held}
use Rattle.mb_frames.proofs.Keeping.{keeps-left, leaves-wait}
use Rattle.mb_frames.proofs.Leaving.{holds-still}
use Rattle.mb_frames.proofs.Passed.{Part-passed, Part-sure, Passes-texts}
use Rattle.mb_frames.proofs.Steps.{Sure-wait}
use Rattle.mb_frames.specs.Held.{HeldObject}
use Rattle.mb_frames.specs.Passing.{Part, Passes, TextsGrew}
use Rattle.mb_frames.specs.Ready.{Changed, IsReady, KeepsBy, MayHold}
use Rattle.mb_frames.specs.Resolved.{keys_of, values_in}
use Rattle.mb_frames.specs.Sorts.{SomeKeys}
use Rattle.mb_frames.specs.declared.frame.Frame.TheVariants as x
use Rattle.mb_frames.specs.declared.frame.Move.{Move}
use Rattle.mb_frames.specs.declared.frame.Move.TheVariants as move
use Rattle.mb_frames.specs.declared.machine.Halt.{Halt}
use Rattle.mb_frames.specs.declared.proxies.ProxyFrame.TheVariants as p
use Rattle.mb_frames.specs.declared.task.Method.TheVariants as m
use Rattle.mb_frames.specs.declared.task.Task.{Task}
use Rattle.mb_frames.specs.declared.task.Task.TheVariants as task
use Rattle.mb_model.specs.Meaning.{finished}
use Rattle.mb_model.specs.Objects.Proxies.{as_keys, judge, key_and, keys_extensible, keys_listed, read_extensible}
use Rattle.mb_model.specs.Task.{Answer, Nothing}
use Rattle.mb_model.specs.Writing.{◌>>=◌, Does, flag_in, pass, type_error}
use Rattle.mb_parts.proofs.Texting.{texts-changed}
use Rattle.mb_parts.proofs.Writing.{TextsGrew-same}
use Rattle.mb_props.proofs.Keys.{laws, same}
use Rattle.mb_text.specs.Texts.{AreDistinct}
use Rattle.mb_world.proofs.Grow.{Grows-then, KeyIn-grows, ObjIn-grows}
use Rattle.mb_world.proofs.Images.{key-grows, map-same, value-grows}
use Rattle.mb_world.proofs.SameKeys.{same-key}
use Rattle.mb_world.specs.Data.{Data, with_texts}
use Rattle.mb_world.specs.Ids.{HasItsIds, KeyIn, Maybe, ObjIn, ValueIn}
use Rattle.mb_world.specs.Image.{Image, Resolve, key_in, names_of, object_in}
use Rattle.mb_world.specs.Key.{PropertyKey, key_of, same_key}
use Rattle.mb_world.specs.Value.{Val}

-- ---- what keys values are

and-then : (k : Option PropertyKey) (ks js : List PropertyKey) → key_and k ks ++ js ≡ key_and k (ks ++ js)
and-then None ks js = refl
and-then (Some k) ks js = refl

-- one value more
pub keys-more : (vs : List Val) (y : Val) → as_keys (vs ++ (y ∷ [])) ≡ as_keys vs ++ key_and (key_of y) []
keys-more [] y = refl
keys-more (z ∷ vs) y =
    ap (key_and (key_of z)) (keys-more vs y) ∙ sym (and-then (key_of z) (as_keys vs) (key_and (key_of y) []))

-- texts are added, and more texts
pub texts-then : (d1 d2 d3 : Data) → TextsGrew d1 d2 → TextsGrew d2 d3 → TextsGrew d1 d3
texts-then d1 d2 d3 t u = record {
  texts = u.texts ∙ ap (λ d. with_texts d d3.texts) t.texts;
  becomes = record {
    grows = Grows-then d1 d2 d3 t.becomes.grows u.becomes.grows;
    image = λ log. u.becomes.image log ∙ t.becomes.image log;
  };
  trace = u.trace ∙ t.trace;
  ids = u.ids;
}

-- the keys that these values are
pub record AreKeysOf (d d' : Data) (list : List Value) (ks : List Key) : Type 0 where
  pub grew : TextsGrew d d'
  pub keys_are : keys_of (names_of d') ks ≡ as_keys (values_in (names_of d) list)
  pub within : All (KeyIn d') ks

pub keys-none : (d : Data) → HasItsIds d → AreKeysOf d d [] []
keys-none d i = record { grew = TextsGrew-same d i; keys_are = refl; within = All-nil (KeyIn d) }

module _ (d d1 d2 : Data) (list : List Value) (ks : List Key) (h : AreKeysOf d d1 list ks) (x : Value) (i : ValueIn d x)
    (more : List Key) (a : IsAdded d1 d2 x ks more) (t : TextsGrew d1 d2) where
  if-all : (key : Option Key) → Maybe (KeyIn d2) key → All (KeyIn d2) (key_if key)
  if-all None k = All-nil (KeyIn d2)
  if-all (Some key) k = All-cons (KeyIn d2) key [] k (All-nil (KeyIn d2))

  if-keys : (key : Option Key) → keys_of (names_of d2) (key_if key) ≡ key_and (option_map (key_in (names_of d2)) key) []
  if-keys None = refl
  if-keys (Some key) = refl

  keys-next : AreKeysOf d d2 (list ++ (x ∷ [])) more
  keys-next = record {
    grew = texts-then d d1 d2 h.grew t;
    keys_are =
        ap (keys_of (names_of d2)) a.is ∙ map-append (key_in (names_of d2)) ks (key_if a.key)
        ∙ ap (λ (js : List PropertyKey). js ++ keys_of (names_of d2) (key_if a.key))
        (map-same (key_in (names_of d2)) (key_in (names_of d1)) (KeyIn d1) (key-grows d1 d2 t.becomes.grows) ks h.within
        ∙ h.keys_are)
        ∙ ap (λ (js : List PropertyKey). as_keys (values_in (names_of d) list) ++ js)
        (if-keys a.key ∙ ap (λ (o : Option PropertyKey). key_and o []) (a.means
        ∙ ap key_of (value-grows d d1 h.grew.becomes.grows x i)))
        ∙ sym (keys-more (values_in (names_of d) list) (Resolve (names_of d) x))
        ∙ sym (ap as_keys (map-append (Resolve (names_of d)) list (x ∷ [])));
    within = subst (All (KeyIn d2)) (sym a.is)
        (All-append (KeyIn d2) ks (key_if a.key)
        (All-weaker (KeyIn d1) (KeyIn d2) (KeyIn-grows d1 d2 t.becomes.grows) ks h.within) (if-all a.key a.within));
  }

-- the next of a list
pub keys-after : (d d1 d2 : Data) (list : List Value) (n : ℕ) (default : Value) → n < length list
    → All (ValueIn d) list → (ks more : List Key) → AreKeysOf d d1 (take n list) ks
    → IsAdded d1 d2 (get_or list n default) ks more → TextsGrew d1 d2 → AreKeysOf d d2 (take (n + 1) list) more
keys-after d d1 d2 list n default l known ks more h a t =
    subst (λ (xs : List Value). AreKeysOf d d2 xs more) (sym (take_more list n default l))
    (keys-next d d1 d2 (take n list) ks h (get_or list n default) (known n default l) more a t)

-- all of it
pub keys-all : (d d' : Data) (list : List Value) (n : ℕ) (ks : List Key) → length list ≤ n
    → AreKeysOf d d' (take n list) ks → keys_of (names_of d') ks ≡ as_keys (values_in (names_of d) list)
keys-all d d' list n ks l h =
    h.keys_are ∙ ap (λ (xs : List Value). as_keys (values_in (names_of d) xs)) (take_all n list l)

-- ---- keys that are distinct

module _ (d : Data) (distinct : AreDistinct d.texts) where
  one-same : (a k : Key) → KeyIn d a → KeyIn d k
      → same_key (key_in (names_of d) a) (key_in (names_of d) k) ≡ check.same_key a k
  one-same a k i j = same-key d distinct a k i j ∙ laws.symm k a ∙ sym (ap (λ (f : Key → Key → Bool). f a k) same)

  among-same : (k : Key) (ks : List Key) → KeyIn d k → All (KeyIn d) ks
      → is_among same_key (key_in (names_of d) k) (keys_of (names_of d) ks) ≡ is_among check.same_key k ks
  among-same k [] i h = refl
  among-same k (a ∷ ks) i h =
      rw (one-same a k (All-head (KeyIn d) a ks h) i, among-same k ks i (All-tail (KeyIn d) a ks h)) refl

  pub distinct-same : (ks : List Key) → All (KeyIn d) ks
      → are_distinct same_key (keys_of (names_of d) ks) ≡ are_distinct check.same_key ks
  distinct-same [] h = refl
  distinct-same (k ∷ ks) h =
      rw (
        among-same k ks (All-head (KeyIn d) k ks h) (All-tail (KeyIn d) k ks h),
        distinct-same ks (All-tail (KeyIn d) k ks h),
      ) refl

-- ---- the row

module _ (home : Side) (d d' : Data) (f : ℕ) (t : TextsGrew d d') (target : ObjId) (i : ObjIn d target)
    (said : List PropertyKey) (ks : List Key) (known : All (KeyIn d') ks) (e : keys_of (names_of d') ks ≡ said) where
  abbrev there : Val
  there = object_in (names_of d') target

  abbrev judged : Bool → Does Answer
  judged b =
      judge home.0 (first_broken ((not b, 21) ∷ (false, 22) ∷ (false, 23) ∷ [])) Nothing
      >>= (λ a. read_extensible home.0 there >>= keys_extensible home.0 there (keys_of (names_of d') ks))

  over : (b : Bool) → are_distinct same_key (keys_of (names_of d') ks) ≡ b
      → Passes d d' f f (keys_listed home.0 (object_in (names_of d) target) said finished) (judged b finished)
  over b q =
      Passes-texts d d' f (keys_listed home.0 (object_in (names_of d) target) said finished) (judged b finished) t
      (λ log.
      ap (λ (o : Val). keys_listed home.0 o said finished (Image d log)) (sym (t.becomes.grows.same_object target i))
      ∙ ap (λ (js : List PropertyKey). keys_listed home.0 there js finished (Image d log)) (sym e)
      ∙ ap (λ (u : Bool). judged u finished (Image d log)) q)

  -- no key stands twice
  pub Part-listed : are_distinct same_key (keys_of (names_of d') ks) ≡ true
      → Part home
      (Ok (move.Wait (x.Proxy (p.KeysExtensible target ks)) (task.Perform m.IsExtensible target home true))) d d' f f
      (keys_listed home.0 (object_in (names_of d) target) said finished)
  Part-listed q =
      let asked : Task = task.Perform m.IsExtensible target home true in
      let here : ObjIn d' target = ObjIn-grows d d' t.becomes.grows target i in
      Part-passed home (Ok (move.Wait (x.Proxy (p.KeysExtensible target ks)) asked)) d d' d' f f f
      (keys_listed home.0 (object_in (names_of d) target) said finished) (judged true finished) (over true q)
      (Part-sure home d' f (judged true finished) (move.Wait (x.Proxy (p.KeysExtensible target ks)) asked)
      (Sure-wait home d' (x.Proxy (p.KeysExtensible target ks)) asked (judged true finished)
      (λ o. pass o (λ a. keys_extensible home.0 there (keys_of (names_of d') ks) (flag_in a) finished)) (λ log. refl) tt
      (λ o g. refl) (here, (known, (here, tt)))))

  -- one does
  pub Part-twice : (r : Result Move Halt) (d2 : Data) → are_distinct same_key (keys_of (names_of d') ks) ≡ false
      → Part home r d' d2 f f (type_error home.0 finished)
      → Part home r d d2 f f (keys_listed home.0 (object_in (names_of d) target) said finished)
  Part-twice r d2 q h =
      Part-passed home r d d' d2 f f f (keys_listed home.0 (object_in (names_of d) target) said finished)
      (type_error home.0 finished) (over false q) h

-- ---- what it leaves

pub keeps-listed : (home : Side) (d d' : Data) (t : TextsGrew d d') (target : ObjId) (ks : List Key)
    → All (KeyIn d') ks → IsReady d → MayHold d home (HeldObject target)
    → KeepsBy home SomeKeys
    (Ok (move.Wait (x.Proxy (p.KeysExtensible target ks)) (task.Perform m.IsExtensible target home true))) d d'
keeps-listed home d d' t target ks known r h =
    let g : Changed home d d' = texts-changed home d d' t r in
    let o : MayHold d' home (HeldObject target) = (holds-still home d d' r g (HeldObject target ∷ []) (h, tt)).0 in
    let y : Move = move.Wait (x.Proxy (p.KeysExtensible target ks)) (task.Perform m.IsExtensible target home true) in
    keeps-left home SomeKeys y d d' g
    (leaves-wait d' home SomeKeys (x.Proxy (p.KeysExtensible target ks)) (task.Perform m.IsExtensible target home true)
    (o, (keys-held d' home ks known, tt)) (o, tt) tt tt (refl, refl))

-- ---- the verdict on keys alone

abbrev pub is_pass : Verdict → Bool
is_pass verdict = (TheImpl.eq-value).it verdict Pass

pub flag-pass : (b : Bool) → is_pass (first_broken ((not b, 21) ∷ (false, 22) ∷ (false, 23) ∷ [])) ≡ b
flag-pass true = refl
flag-pass false = refl
