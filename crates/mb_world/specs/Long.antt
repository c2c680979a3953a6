-- The long texts of the trace, which are told by number.
use Rattle.std.specs.Prelude.{ℕ, ◌+◌, nat_eq, nat_lt, Bool, List, [], ◌∷◌, ◌++◌, length, fold, Option, Some, None, option_map, position}
use Rattle.std.specs.List.{filter, flat_map}
use Rattle.indexmap.specs.IndexSet.{insert_key}
use Rattle.mb_base.specs.declared.value.StrId.{StrId}
use Rattle.mb_base.specs.declared.value.Key.{Key}
use Rattle.mb_base.specs.declared.value.Key.TheVariants as k
use Rattle.mb_desc.specs.declared.descriptor.Desc.{Desc}
use Rattle.mb_text.specs.Texts.{text_at}
use Rattle.mb_world.specs.declared.entry.Entry.{Entry}
use Rattle.mb_world.specs.declared.entry.Said.{Said}
use Rattle.mb_world.specs.declared.entry.Said.TheVariants.{Plain, Prop, Keys, Thrown, Pair}
use Rattle.mb_world.specs.declared.entry.Seen.{Seen}
use Rattle.mb_world.specs.declared.entry.Seen.TheVariants.{Text}
use Rattle.mb_world.specs.Data.{Data}

abbrev pub key_texts : Key → List StrId
key_texts (k.Text text index) = text ∷ []
key_texts (k.Symbol symbol) = []

abbrev pub seen_texts : Seen → List StrId
seen_texts (Text text) = text ∷ []
seen_texts _ = []

abbrev pub texts_if : {A : Type 0} → (A → List StrId) → Option A → List StrId
texts_if f None = []
texts_if f (Some a) = f a

abbrev pub desc_texts : Desc Seen → List StrId
desc_texts desc = texts_if seen_texts desc.value ++ texts_if seen_texts desc.get ++ texts_if seen_texts desc.set

-- in the order in which a line of the trace has them
abbrev pub said_texts : Said → List StrId
said_texts (Plain value) = seen_texts value
said_texts (Prop desc) = desc_texts desc
said_texts (Keys keys) = flat_map key_texts keys
said_texts (Thrown value) = seen_texts value
said_texts (Pair key value) = seen_texts key ++ seen_texts value
said_texts _ = []

abbrev pub entry_texts : Entry → List StrId
entry_texts e = texts_if key_texts e.key ++ said_texts e.given ++ said_texts e.answer

-- a text of more than 64 units
abbrev pub is_long : List (List ℕ) → StrId → Bool
is_long texts t = nat_lt 64 (length (text_at texts t))

abbrev pub same_id : StrId → StrId → Bool
same_id a b = nat_eq a.0 b.0

-- the long texts of the trace, each where it comes first
abbrev pub long_texts : List (List ℕ) → List Entry → List StrId
long_texts texts entries = fold (insert_key same_id) [] (filter (is_long texts) (flat_map entry_texts entries))

-- the number of a long text of the trace, counted from 1
abbrev pub long_of : Data → StrId → Option ℕ
long_of d t = option_map (λ n. n + 1) (position (same_id t) (long_texts d.texts d.entries))
