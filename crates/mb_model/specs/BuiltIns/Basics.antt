use Rattle.std.specs.Prelude.{ℕ, ◌/◌, List, [], ◌∷◌, ◌++◌, length, Bool, false, nat_lt, Option, Some, None, if◌then◌else◌, slice_get, slice_set}
use Rattle.mb_world.specs.Value.{Val, Text, Symbol, is_undefined}
use Rattle.mb_world.specs.Graph.{Job, Call as CallJob, Printed, Graph}
use Rattle.mb_world.specs.Standard.{object_prototype}
use Rattle.mb_world.specs.Symbols.{symbol_text}
use Rattle.mb_model.specs.Task.{Answer, Value}
use Rattle.mb_model.specs.Writing.{Does, ◌>>=◌, give, pay, look, change, make_symbol, type_error, range_error, log}
use Rattle.mb_model.specs.Operations.Makings.{make_plain}
use Rattle.mb_model.specs.Operations.Conversions.{text_by, text_limit}
use Rattle.mb_model.specs.BuiltIns.Arguments.{need_callable, undefined}

-- print, later and labelled, String and Symbol

-- ---- print, later, labelled

abbrev pub with_blank : List ℕ → Bool → List ℕ → List ℕ
with_blank line first t = if first then t else line ++ (32 ∷ t)

abbrev pub print_each : ℕ → List ℕ → Bool → List Val → Does Answer
print_each s line first [] = do
  _ ← log (Printed s line)
  undefined
print_each s line first (v ∷ vs) = do
  t ← text_by s v
  _ ← pay (length t / 64)
  print_each s (with_blank line first t) false vs

abbrev pub queue_or_empty : Option (List Job) → List Job
queue_or_empty None = []
queue_or_empty (Some q) = q

abbrev pub with_job : ℕ → Job → Graph → Graph
with_job s j g = record g { queues = slice_set g.queues s (queue_or_empty (slice_get g.queues s) ++ (j ∷ [])) }

-- a job of the acting side's queue (ECMA-262 9.5)
abbrev pub later : ℕ → Val → Does Answer
later s f = do
  _ ← need_callable s f
  _ ← change (with_job s (CallJob f))
  undefined

abbrev pub labelled : ℕ → Option (List ℕ) → Does Answer
labelled s None = type_error s
labelled s (Some l) = do
  o ← make_plain s (Some l) object_prototype
  give (Value o)

-- ---- String and Symbol

-- the text that describes a symbol
abbrev pub described_symbol : ℕ → List ℕ → Does Answer
described_symbol s t = if nat_lt text_limit (length t) then range_error s else give (Value (Text t))

abbrev pub symbol_string : ℕ → ℕ → Does Answer
symbol_string s n = do
  t ← look (λ g. symbol_text g n)
  described_symbol s t

abbrev pub value_string : ℕ → Val → Does Answer
value_string s v = do
  t ← text_by s v
  give (Value (Text t))

-- String (ECMA-262 22.1.1.1)
abbrev pub string : ℕ → List Val → Does Answer
string s [] = give (Value (Text []))
string s (Symbol n ∷ vs) = symbol_string s n
string s (v ∷ vs) = value_string s v

abbrev pub symbol_of : Option (List ℕ) → Does Answer
symbol_of d = do
  v ← make_symbol d
  give (Value v)

abbrev pub symbol_described : ℕ → Val → Does Answer
symbol_described s v = do
  t ← text_by s v
  symbol_of (Some t)

-- Symbol (ECMA-262 20.4.1.1), which is no constructor here
abbrev pub symbol : ℕ → Val → Does Answer
symbol s v = if is_undefined v then symbol_of None else symbol_described s v
