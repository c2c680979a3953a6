-- Texts are added to a world.
use Rattle.std.proofs.Common.{◌≡◌, ℕ, List, [], ◌∷◌, ◌++◌, Bool, true, false, arith, length-append, refl, sym, ◌∙◌, ap, filter, fold}
use Rattle.std.specs.Prelude.{All, Option, Some, None}
use Rattle.std.specs.List.{flat_map}
use Rattle.std.proofs.Math.ListN.{get_or-append}
use Rattle.std.proofs.lemmas.List.{append-nil}
use Rattle.std.proofs.lemmas.List.Elements.{All-head, All-tail, All-append, All-cons, All-nil}
use Rattle.indexmap.specs.IndexSet.{insert_key}
use Rattle.mb_base.specs.declared.value.ObjId.{ObjId}
use Rattle.mb_base.specs.declared.value.StrId.{StrId}
use Rattle.mb_base.specs.declared.value.Key.{Key}
use Rattle.mb_base.specs.declared.value.Key.TheVariants as k
use Rattle.mb_text.specs.Texts.{with_text, has_text, AreDistinct}
use Rattle.mb_world.specs.declared.entry.Entry.{Entry}
use Rattle.mb_world.specs.declared.entry.Seen.{Seen}
use Rattle.mb_world.specs.declared.entry.Seen.TheVariants as s
use Rattle.mb_world.specs.declared.entry.Said.{Said}
use Rattle.mb_world.specs.declared.entry.Said.TheVariants as said
use Rattle.mb_world.specs.declared.roles.Role.{Role}
use Rattle.mb_world.specs.Data.{Data, with_texts}
use Rattle.mb_world.specs.Long.{key_texts, seen_texts, texts_if, said_texts, entry_texts, is_long, long_texts, same_id}
use Rattle.mb_world.specs.Ids.{TextIn, KeyIn, SeenIn, SaidIn, EntryIn, Maybe}
use Rattle.mb_world.specs.Grows.{Grows}
use Rattle.mb_world.specs.machine.Inside.{IsIndexed}
use Rattle.mb_world.proofs.Grow.{Hold-grows}

-- the texts stay where they were
pub KeepsTexts : (ts : List (List ℕ)) (t : List ℕ) → (more : List (List ℕ)) × (with_text ts t ≡ ts ++ more)
KeepsTexts ts t = by (has_text ts t) refl
  where
    by : (b : Bool) → has_text ts t ≡ b → (more : List (List ℕ)) × (with_text ts t ≡ ts ++ more)
    by true e = ([], rw e (sym (append-nil ts)))
    by false e = (t ∷ [], rw e refl)

Grows-texts : (d : Data) (more : List (List ℕ)) → Grows d (with_texts d (d.texts ++ more))
Grows-texts d more = record {
  texts_in = omega (arith, length-append d.texts more);
  symbols_in = omega arith;
  cells_in = omega arith;
  scopes_in = omega arith;
  same_text = λ t l. get_or-append d.texts more [] t.0 l;
  same_object = λ o l. refl;
  same_number = λ o l. refl;
}

pub Grows-text : (d : Data) (t : List ℕ) → Grows d (with_texts d (with_text d.texts t))
Grows-text d t = let k = KeepsTexts d.texts t in rw k.1 (Grows-texts d k.0)

-- ---- the texts of an entry are of the world

module _ (d : Data) where
  key-texts-in : (x : Key) → KeyIn d x → All (TextIn d) (key_texts x)
  key-texts-in (k.Text text index) h = All-cons (TextIn d) text [] h.0 (All-nil (TextIn d))
  key-texts-in (k.Symbol symbol) h = All-nil (TextIn d)

  seen-texts-in : (x : Seen) → SeenIn d x → All (TextIn d) (seen_texts x)
  seen-texts-in (s.Text t) h = All-cons (TextIn d) t [] h (All-nil (TextIn d))
  seen-texts-in _ h = All-nil (TextIn d)

  texts-if-in : {A : Type 0} (P : A → Type 0) (f : A → List StrId) → ((a : A) → P a → All (TextIn d) (f a)) → (o : Option A) → Maybe P o → All (TextIn d) (texts_if f o)
  texts-if-in P f g None h = All-nil (TextIn d)
  texts-if-in P f g (Some a) h = g a h

  keys-texts-in : (xs : List Key) → All (KeyIn d) xs → All (TextIn d) (flat_map key_texts xs)
  keys-texts-in [] h = All-nil (TextIn d)
  keys-texts-in (x ∷ xs) h = All-append (TextIn d) (key_texts x) (flat_map key_texts xs) (key-texts-in x (All-head (KeyIn d) x xs h)) (keys-texts-in xs (All-tail (KeyIn d) x xs h))

  said-texts-in : (x : Said) → SaidIn d x → All (TextIn d) (said_texts x)
  said-texts-in (said.Plain x) h = seen-texts-in x h
  said-texts-in (said.Prop x) h =
      let a = texts-if-in (SeenIn d) seen_texts seen-texts-in x.value h.value_in in
      let b = texts-if-in (SeenIn d) seen_texts seen-texts-in x.get h.get_in in
      let c = texts-if-in (SeenIn d) seen_texts seen-texts-in x.set h.set_in in
      All-append (TextIn d) (texts_if seen_texts x.value ++ texts_if seen_texts x.get) (texts_if seen_texts x.set) (All-append (TextIn d) (texts_if seen_texts x.value) (texts_if seen_texts x.get) a b) c
  said-texts-in (said.Keys ks) h = keys-texts-in ks h
  said-texts-in (said.Thrown x) h = seen-texts-in x h
  said-texts-in (said.Pair x y) h = All-append (TextIn d) (seen_texts x) (seen_texts y) (seen-texts-in x h.0) (seen-texts-in y h.1)
  said-texts-in said.Nothing h = All-nil (TextIn d)
  said-texts-in (said.Flag b) h = All-nil (TextIn d)
  said-texts-in said.Absent h = All-nil (TextIn d)

  pub entry-texts-in : (e : Entry) → EntryIn d e → All (TextIn d) (entry_texts e)
  entry-texts-in e h =
      let a = texts-if-in (KeyIn d) key_texts key-texts-in e.key h.key_in in
      All-append (TextIn d) (texts_if key_texts e.key ++ said_texts e.given) (said_texts e.answer)
      (All-append (TextIn d) (texts_if key_texts e.key) (said_texts e.given) a (said-texts-in e.given h.given_in)) (said-texts-in e.answer h.answer_in)

  pub entries-texts-in : (es : List Entry) → All (EntryIn d) es → All (TextIn d) (flat_map entry_texts es)
  entries-texts-in [] h = All-nil (TextIn d)
  entries-texts-in (e ∷ es) h = All-append (TextIn d) (entry_texts e) (flat_map entry_texts es) (entry-texts-in e (All-head (EntryIn d) e es h)) (entries-texts-in es (All-tail (EntryIn d) e es h))

-- which are long hangs on the texts that were there
long-same : (d d' : Data) → Grows d d' → (xs : List StrId) → All (TextIn d) xs → filter (is_long d'.texts) xs ≡ filter (is_long d.texts) xs
long-same d d' g [] h = refl
long-same d d' g (x ∷ xs) h =
    rw (g.same_text x (All-head (TextIn d) x xs h), long-same d d' g xs (All-tail (TextIn d) x xs h)) refl

pub long_texts-grow : (d d' : Data) → Grows d d' → (es : List Entry) → All (EntryIn d) es → long_texts d'.texts es ≡ long_texts d.texts es
long_texts-grow d d' g es h = ap (λ xs. fold (insert_key same_id) [] xs) (long-same d d' g (flat_map entry_texts es) (entries-texts-in d es h))

pub Index-text : (d : Data) (ns : List ℕ) (ss : List ObjId) (rs : List (Role × ObjId)) (ls : List StrId) → IsIndexed d ns ss rs ls → (t : List ℕ) → AreDistinct (with_text d.texts t) → IsIndexed (with_texts d (with_text d.texts t)) ns ss rs ls
Index-text d ns ss rs ls w t h =
    let d' : Data = with_texts d (with_text d.texts t) in
    let g : Grows d d' = Grows-text d t in
    record {
      ids = Hold-grows d d' g _ _ _ _ _ _ _ w.ids;
      sized = record { distinct = h; few_symbols = w.sized.few_symbols; eight_programs = w.sized.eight_programs; few_cells = w.sized.few_cells; few_scopes = w.sized.few_scopes; eight_queues = w.sized.eight_queues };
      indexed = w.indexed;
      long_texts_are = record { long_are = w.long_texts_are.long_are ∙ sym (long_texts-grow d d' g d.entries w.ids.entries_in); few_long = w.long_texts_are.few_long };
    }
