-- The texts of an entry of a world are told as the definition tells them.
use Rattle.std.proofs.Common.{◌≡◌, ◌<◌, ◌+◌, List, [], ◌∷◌, ◌++◌, Bool, true, false, Option, Some, None, refl, sym, ap}
use Rattle.std.specs.Prelude.{All, Contains, if◌then◌else◌}
use Rattle.std.specs.List.{flat_map, list_any, position_or_len}
use Rattle.std.specs.Str.{bytes_eq as same_text}
use Rattle.std.proofs.lemmas.List.Elements.{All-append, All-cons, All-nil, All-head, All-tail, All-contains}
use Rattle.mb_base.specs.declared.value.StrId.{StrId}
use Rattle.mb_base.specs.declared.value.Key.{Key}
use Rattle.mb_base.specs.declared.value.Key.TheVariants as k
use Rattle.mb_text.specs.Spelling.{spelled}
use Rattle.mb_text.specs.Texts.{text_at, AreDistinct}
use Rattle.mb_world.specs.declared.entry.Entry.{Entry}
use Rattle.mb_world.specs.declared.entry.Said.{Said}
use Rattle.mb_world.specs.declared.entry.Said.TheVariants as said
use Rattle.mb_world.specs.declared.entry.Seen.{Seen}
use Rattle.mb_world.specs.declared.entry.Seen.TheVariants as s
use Rattle.mb_world.specs.Value.{decimal}
use Rattle.mb_world.specs.Data.{Data}
use Rattle.mb_world.specs.Ids.{HasItsIds, EntryIn, KeyIn, SeenIn, SaidIn, TextIn, Maybe}
use Rattle.mb_world.specs.Long.{key_texts, seen_texts, texts_if, said_texts, entry_texts, is_long, same_id, long_of}
use Rattle.mb_trace.specs.machine.Told.{numbered, told_by, IsTold, KeyTold, SeenTold, SaidTold, EntryTold}
use Rattle.mb_trace.proofs.Numbering.{All-left, All-right, All-of-each, position-of, long-numbered, short-unnumbered, any-itself}

-- ---- the texts of the entries are of the world

module _ (d : Data) where
  key-in : (x : Key) → KeyIn d x → All (TextIn d) (key_texts x)
  key-in (k.Text text index) h = All-cons (TextIn d) text [] h.0 (All-nil (TextIn d))
  key-in (k.Symbol symbol) h = All-nil (TextIn d)

  value-in : (x : Seen) → SeenIn d x → All (TextIn d) (seen_texts x)
  value-in (s.Text t) h = All-cons (TextIn d) t [] h (All-nil (TextIn d))
  value-in _ h = All-nil (TextIn d)

  if-in : {A : Type 0} (P : A → Type 0) (f : A → List StrId) → ((a : A) → P a → All (TextIn d) (f a)) → (o : Option A) → Maybe P o → All (TextIn d) (texts_if f o)
  if-in P f g None h = All-nil (TextIn d)
  if-in P f g (Some a) h = g a h

  keys-in : (xs : List Key) → All (KeyIn d) xs → All (TextIn d) (flat_map key_texts xs)
  keys-in [] h = All-nil (TextIn d)
  keys-in (x ∷ xs) h = All-append (TextIn d) (key_texts x) (flat_map key_texts xs) (key-in x (All-head (KeyIn d) x xs h)) (keys-in xs (All-tail (KeyIn d) x xs h))

  said-in : (x : Said) → SaidIn d x → All (TextIn d) (said_texts x)
  said-in (said.Plain x) h = value-in x h
  said-in (said.Prop x) h =
      let v = texts_if seen_texts x.value in
      let g = texts_if seen_texts x.get in
      let t = texts_if seen_texts x.set in
      All-append (TextIn d) (v ++ g) t (All-append (TextIn d) v g (if-in (SeenIn d) seen_texts value-in x.value h.value_in) (if-in (SeenIn d) seen_texts value-in x.get h.get_in))
      (if-in (SeenIn d) seen_texts value-in x.set h.set_in)
  said-in (said.Keys xs) h = keys-in xs h
  said-in (said.Thrown x) h = value-in x h
  said-in (said.Pair x y) h = All-append (TextIn d) (seen_texts x) (seen_texts y) (value-in x h.0) (value-in y h.1)
  said-in _ h = All-nil (TextIn d)

  entry-texts-in : (e : Entry) → EntryIn d e → All (TextIn d) (entry_texts e)
  entry-texts-in e h =
      let q = texts_if key_texts e.key in
      let g = said_texts e.given in
      let a = said_texts e.answer in
      All-append (TextIn d) (q ++ g) a (All-append (TextIn d) q g (if-in (KeyIn d) key_texts key-in e.key h.key_in) (said-in e.given h.given_in)) (said-in e.answer h.answer_in)

  all-in : (es : List Entry) → All (EntryIn d) es → All (TextIn d) (flat_map entry_texts es)
  all-in [] h = All-nil (TextIn d)
  all-in (e ∷ es) h = All-append (TextIn d) (entry_texts e) (flat_map entry_texts es) (entry-texts-in e (All-head (EntryIn d) e es h)) (all-in es (All-tail (EntryIn d) e es h))

  -- ---- a text of the trace

  text-told : AreDistinct d.texts → All (TextIn d) (flat_map entry_texts d.entries) → (t : StrId) → TextIn d t → list_any (same_id t) (flat_map entry_texts d.entries) ≡ true → IsTold d t
  text-told distinct all t t-in there = record { text_in = t-in; told = by (is_long d.texts t) refl }
    where
      by : (b : Bool) → is_long d.texts t ≡ b → told_by (long_of d t) (text_at d.texts t) ≡ (if b then 126 ∷ decimal (position_or_len (same_text (text_at d.texts t)) (numbered d) + 1) else 34 ∷ spelled true (text_at d.texts t) ++ (34 ∷ []))
      by true e =
          rw (long-numbered d t e there) (ap (λ n. 126 ∷ decimal (n + 1)) (sym (position-of d.texts distinct d.entries all t t-in)))
      by false e = rw (short-unnumbered d t e) refl

  -- ---- and so the parts of an entry

  key-told : (x : Key) → All (IsTold d) (key_texts x) → KeyTold d x
  key-told (k.Text t index) h = All-head (IsTold d) t [] h
  key-told (k.Symbol symbol) h = tt

  value-told : (x : Seen) → All (IsTold d) (seen_texts x) → SeenTold d x
  value-told (s.Text t) h = All-head (IsTold d) t [] h
  value-told _ h = tt

  if-told : {A : Type 0} (P : A → Type 0) (f : A → List StrId) → ((a : A) → All (IsTold d) (f a) → P a) → (o : Option A) → All (IsTold d) (texts_if f o) → Maybe P o
  if-told P f g None h = tt
  if-told P f g (Some a) h = g a h

  keys-told : (xs : List Key) → All (IsTold d) (flat_map key_texts xs) → All (KeyTold d) xs
  keys-told [] h = All-nil (KeyTold d)
  keys-told (x ∷ xs) h = All-cons (KeyTold d) x xs (key-told x (All-left (IsTold d) (key_texts x) (flat_map key_texts xs) h)) (keys-told xs (All-right (IsTold d) (key_texts x) (flat_map key_texts xs) h))

  said-told : (x : Said) → All (IsTold d) (said_texts x) → SaidTold d x
  said-told said.Nothing h = tt
  said-told (said.Flag b) h = tt
  said-told said.Absent h = tt
  said-told (said.Plain x) h = value-told x h
  said-told (said.Prop x) h =
      let v = texts_if seen_texts x.value in
      let g = texts_if seen_texts x.get in
      let t = texts_if seen_texts x.set in
      let vg = All-left (IsTold d) (v ++ g) t h in
      record {
        value_told = if-told (SeenTold d) seen_texts value-told x.value (All-left (IsTold d) v g vg);
        get_told = if-told (SeenTold d) seen_texts value-told x.get (All-right (IsTold d) v g vg);
        set_told = if-told (SeenTold d) seen_texts value-told x.set (All-right (IsTold d) (v ++ g) t h);
      }
  said-told (said.Keys xs) h = keys-told xs h
  said-told (said.Thrown x) h = value-told x h
  said-told (said.Pair x y) h = (value-told x (All-left (IsTold d) (seen_texts x) (seen_texts y) h), value-told y (All-right (IsTold d) (seen_texts x) (seen_texts y) h))

  entry-told-by : (e : Entry) → All (IsTold d) (entry_texts e) → EntryTold d e
  entry-told-by e h =
      let q = texts_if key_texts e.key in
      let g = said_texts e.given in
      let a = said_texts e.answer in
      let qg = All-left (IsTold d) (q ++ g) a h in
      record {
        key_told = if-told (KeyTold d) key_texts key-told e.key (All-left (IsTold d) q g qg);
        given_told = said-told e.given (All-right (IsTold d) q g qg);
        answer_told = said-told e.answer (All-right (IsTold d) (q ++ g) a h);
      }

  pub entry-told : HasItsIds d → AreDistinct d.texts → (e : Entry) → Contains d.entries e → EntryTold d e
  entry-told ids distinct e here =
      let xs = flat_map entry_texts d.entries in
      let all = all-in d.entries ids.entries_in in
      let told : All (IsTold d) xs = λ i x l. text-told distinct all _ (all i x l) (any-itself xs i x l) in
      entry-told-by e (All-contains (λ e. All (IsTold d) (entry_texts e)) d.entries e (All-of-each (IsTold d) entry_texts d.entries told) here)

  pub side-in : HasItsIds d → (e : Entry) → Contains d.entries e → e.side.0 < 8
  side-in ids e here = (All-contains (EntryIn d) d.entries e ids.entries_in here).side_in
