-- Entries stand for what they stood for.
use Rattle.std.proofs.Common.{◌≡◌, List, map, refl}
use Rattle.std.specs.Prelude.{All}
use Rattle.mb_base.specs.declared.value.Key.{Key}
use Rattle.mb_base.specs.declared.value.Key.TheVariants as k
use Rattle.mb_desc.specs.declared.descriptor.Desc.{Desc}
use Rattle.mb_world.specs.declared.entry.Entry.{Entry}
use Rattle.mb_world.specs.declared.entry.Seen.{Seen}
use Rattle.mb_world.specs.declared.entry.Seen.TheVariants as s
use Rattle.mb_world.specs.declared.entry.Said.{Said}
use Rattle.mb_world.specs.declared.entry.Said.TheVariants as said
use Rattle.mb_world.specs.Data.{Data}
use Rattle.mb_world.specs.Grows.{Grows}
use Rattle.mb_world.specs.Ids.{KeyIn, SeenIn, DescSeenIn, SaidIn, EntryIn}
use Rattle.mb_world.specs.Image.{key_by, seen_in, desc_in, said_in, entry_in}
use Rattle.mb_world.proofs.Images.{map-same, option-same}

module _ (d d' : Data) (g : Grows d d') where
  key-by : (x : Key) → KeyIn d x → key_by d'.texts x ≡ key_by d.texts x
  key-by (k.Text text index) h = rw (g.same_text text h.0) refl
  key-by (k.Symbol symbol) h = refl

  seen-by : (x : Seen) → SeenIn d x → seen_in d'.texts x ≡ seen_in d.texts x
  seen-by (s.Text t) h = rw (g.same_text t h) refl
  seen-by s.Undefined h = refl
  seen-by s.Null h = refl
  seen-by (s.Bool b) h = refl
  seen-by (s.Whole z) h = refl
  seen-by (s.Symbol n) h = refl
  seen-by (s.Object n) h = refl
  seen-by (s.BuiltIn p) h = refl

  desc-by : (x : Desc Seen) → DescSeenIn d x → desc_in (seen_in d'.texts) x ≡ desc_in (seen_in d.texts) x
  desc-by x h = rw (
    option-same (seen_in d'.texts) (seen_in d.texts) (SeenIn d) seen-by x.value h.value_in,
    option-same (seen_in d'.texts) (seen_in d.texts) (SeenIn d) seen-by x.get h.get_in,
    option-same (seen_in d'.texts) (seen_in d.texts) (SeenIn d) seen-by x.set h.set_in,
  ) refl

  said-by : (x : Said) → SaidIn d x → said_in d'.texts x ≡ said_in d.texts x
  said-by said.Nothing h = refl
  said-by (said.Flag b) h = refl
  said-by (said.Plain x) h = rw (seen-by x h) refl
  said-by said.Absent h = refl
  said-by (said.Prop x) h = rw (desc-by x h) refl
  said-by (said.Keys ks) h = rw (map-same (key_by d'.texts) (key_by d.texts) (KeyIn d) key-by ks h) refl
  said-by (said.Thrown x) h = rw (seen-by x h) refl
  said-by (said.Pair x y) h = rw (seen-by x h.0, seen-by y h.1) refl

  entry-by : (e : Entry) → EntryIn d e → entry_in d'.texts e ≡ entry_in d.texts e
  entry-by e h = rw (
    option-same (key_by d'.texts) (key_by d.texts) (KeyIn d) key-by e.key h.key_in,
    said-by e.given h.given_in,
    said-by e.answer h.answer_in,
  ) refl

  pub entries-by : (es : List Entry) → All (EntryIn d) es → map (entry_in d'.texts) es ≡ map (entry_in d.texts) es
  entries-by es h = map-same (entry_in d'.texts) (entry_in d.texts) (EntryIn d) entry-by es h
