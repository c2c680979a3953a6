-- A world that grew tells the same of the entries that it has.
use Rattle.std.proofs.Common.{◌≡◌, ◌∙◌, List, ap, map, refl}
use Rattle.mb_desc.specs.declared.descriptor.Desc.{Desc}
use Rattle.mb_world.proofs.Images.{key-grows, map-same, option-same}
use Rattle.mb_world.specs.Data.{Data}
use Rattle.mb_world.specs.Graph.{SaidProperty}
use Rattle.mb_world.specs.Grows.{Grows}
use Rattle.mb_world.specs.Ids.{DescSeenIn, EntryIn, HasItsIds, KeyIn, SaidIn, SeenIn}
use Rattle.mb_world.specs.Image.{desc_in, entries_in, entry_in, key_by, said_in, seen_in}
use Rattle.mb_world.specs.Value.{Text}
use Rattle.mb_world.specs.declared.entry.Entry.{Entry}
use Rattle.mb_world.specs.declared.entry.Said.{Said}
use Rattle.mb_world.specs.declared.entry.Said.TheVariants as said
use Rattle.mb_world.specs.declared.entry.Seen.{Seen}
use Rattle.mb_world.specs.declared.entry.Seen.TheVariants as seen

module _ (d d' : Data) (g : Grows d d') where
  shown : (x : Seen) → SeenIn d x → seen_in d'.texts x ≡ seen_in d.texts x
  shown seen.Undefined h = refl
  shown seen.Null h = refl
  shown (seen.Bool b) h = refl
  shown (seen.Whole z) h = refl
  shown (seen.Text t) h = ap Text (g.same_text t h)
  shown (seen.Symbol n) h = refl
  shown (seen.Object n) h = refl
  shown (seen.BuiltIn n) h = refl

  described : (x : Desc Seen) → DescSeenIn d x → desc_in (seen_in d'.texts) x ≡ desc_in (seen_in d.texts) x
  described x h = rw (
    option-same (seen_in d'.texts) (seen_in d.texts) (SeenIn d) shown x.value h.value_in,
    option-same (seen_in d'.texts) (seen_in d.texts) (SeenIn d) shown x.get h.get_in,
    option-same (seen_in d'.texts) (seen_in d.texts) (SeenIn d) shown x.set h.set_in,
  ) refl

  answered : (x : Said) → SaidIn d x → said_in d'.texts x ≡ said_in d.texts x
  answered said.Nothing h = refl
  answered (said.Flag b) h = refl
  answered (said.Plain x) h = rw (shown x h) refl
  answered said.Absent h = refl
  answered (said.Prop x) h = ap SaidProperty (described x h)
  answered (said.Keys ks) h = rw (map-same (key_by d'.texts) (key_by d.texts) (KeyIn d) (key-grows d d' g) ks h) refl
  answered (said.Thrown x) h = rw (shown x h) refl
  answered (said.Pair x y) h = rw (shown x h.0, shown y h.1) refl

  pub entry-grows : (e : Entry) → EntryIn d e → entry_in d'.texts e ≡ entry_in d.texts e
  entry-grows e h = rw (
    option-same (key_by d'.texts) (key_by d.texts) (KeyIn d) (key-grows d d' g) e.key h.key_in,
    answered e.given h.given_in,
    answered e.answer h.answer_in,
  ) refl

  pub entries-grow : HasItsIds d → d'.entries ≡ d.entries → entries_in d' ≡ entries_in d
  entries-grow h e =
      ap (λ (es : List Entry). map (entry_in d'.texts) es) e
      ∙ map-same (entry_in d'.texts) (entry_in d.texts) (EntryIn d) entry-grows d.entries h.entries_in
