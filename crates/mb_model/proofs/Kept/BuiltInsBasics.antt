use Rattle.std.specs.Prelude.{ℕ, ◌/◌, List, [], ◌∷◌, length, Bool, false, nat_lt, Option, Some, None}
use Rattle.mb_world.specs.Value.{Val, Text, Symbol, is_undefined}
use Rattle.mb_world.specs.Graph.{Call as CallJob, Printed}
use Rattle.mb_world.specs.Standard.{object_prototype}
use Rattle.mb_world.specs.Symbols.{symbol_text}
use Rattle.mb_model.specs.Task.{Value}
use Rattle.mb_model.specs.Writing.{◌>>=◌, give, pay, look, change, make_symbol, range_error, log}
use Rattle.mb_model.specs.Operations.Makings.{make_plain}
use Rattle.mb_model.specs.Operations.Conversions.{text_by, text_limit}
use Rattle.mb_model.specs.BuiltIns.Arguments.{need_callable, undefined}
use Rattle.mb_model.specs.BuiltIns.Basics.{with_blank, print_each, with_job, later, labelled, described_symbol, symbol_string, value_string, string, symbol_of, symbol_described, symbol}
use Rattle.std.proofs.Common.{refl}
use Rattle.mb_model.proofs.Kept.Words.{Kept, Goes, keeps->>=, keeps-give, keeps-if, keeps-log, keeps-look, keeps-make_symbol, keeps-pay, keeps-range_error, keeps-type_error, keeps-with_job}
use Rattle.mb_model.proofs.Kept.OperationsMakings.{keeps-make_plain}
use Rattle.mb_model.proofs.Kept.BuiltInsArguments.{keeps-need_callable, keeps-undefined}
use Rattle.mb_model.proofs.Kept.OperationsConversions.{keeps-text_by}

-- what the parts of these rows keep (written by tools/kept.py)

pub keeps-print_each : (kept : Kept) (x0 : ℕ) (x1 : List ℕ) (x2 : Bool) (x3 : List Val) → Goes kept (print_each x0
    x1 x2 x3)
keeps-print_each kept s line first [] = keeps->>= kept (log (Printed s line)) (λ _. undefined) (keeps-log kept
    (Printed s line) refl) (λ _. keeps-undefined kept)
keeps-print_each kept s line first (v ∷ vs) = keeps->>= kept (text_by s v) (λ t. (pay (length t / 64)) >>= (λ _.
    print_each s (with_blank line first t) false vs)) (keeps-text_by kept s v) (λ t. keeps->>= kept (pay (length t
    / 64)) (λ _. print_each s (with_blank line first t) false vs) (keeps-pay kept (length t / 64)) (λ _.
    keeps-print_each kept s (with_blank line first t) false vs))

pub keeps-later : (kept : Kept) (x0 : ℕ) (x1 : Val) → Goes kept (later x0 x1)
keeps-later kept s f = keeps->>= kept (need_callable s f) (λ _. (change (with_job s (CallJob f))) >>= (λ _.
    undefined)) (keeps-need_callable kept s f) (λ _. keeps->>= kept (change (with_job s (CallJob f))) (λ _.
    undefined) (keeps-with_job kept s f) (λ _. keeps-undefined kept))

pub keeps-labelled : (kept : Kept) (x0 : ℕ) (x1 : Option (List ℕ)) → Goes kept (labelled x0 x1)
keeps-labelled kept s None = keeps-type_error kept s
keeps-labelled kept s (Some l) = keeps->>= kept (make_plain s (Some l) object_prototype) (λ o. give (Value o))
    (keeps-make_plain kept s (Some l) object_prototype) (λ o. keeps-give kept (Value o))

pub keeps-described_symbol : (kept : Kept) (x0 : ℕ) (x1 : List ℕ) → Goes kept (described_symbol x0 x1)
keeps-described_symbol kept s t = keeps-if kept (nat_lt text_limit (length t)) (range_error s) (give (Value (Text
    t))) (keeps-range_error kept s) (keeps-give kept (Value (Text t)))

pub keeps-symbol_string : (kept : Kept) (x0 : ℕ) (x1 : ℕ) → Goes kept (symbol_string x0 x1)
keeps-symbol_string kept s n = keeps->>= kept (look (λ g. symbol_text g n)) (λ t. described_symbol s t) (keeps-look
    kept (λ g. symbol_text g n)) (λ t. keeps-described_symbol kept s t)

pub keeps-value_string : (kept : Kept) (x0 : ℕ) (x1 : Val) → Goes kept (value_string x0 x1)
keeps-value_string kept s v = keeps->>= kept (text_by s v) (λ t. give (Value (Text t))) (keeps-text_by kept s v) (λ
    t. keeps-give kept (Value (Text t)))

pub keeps-string : (kept : Kept) (x0 : ℕ) (x1 : List Val) → Goes kept (string x0 x1)
keeps-string kept s [] = keeps-give kept (Value (Text []))
keeps-string kept s (Symbol n ∷ vs) = keeps-symbol_string kept s n
keeps-string kept s (v ∷ vs) = keeps-value_string kept s v

pub keeps-symbol_of : (kept : Kept) (x0 : Option (List ℕ)) → Goes kept (symbol_of x0)
keeps-symbol_of kept d = keeps->>= kept (make_symbol d) (λ v. give (Value v)) (keeps-make_symbol kept d) (λ v.
    keeps-give kept (Value v))

pub keeps-symbol_described : (kept : Kept) (x0 : ℕ) (x1 : Val) → Goes kept (symbol_described x0 x1)
keeps-symbol_described kept s v = keeps->>= kept (text_by s v) (λ t. symbol_of (Some t)) (keeps-text_by kept s v)
    (λ t. keeps-symbol_of kept (Some t))

pub keeps-symbol : (kept : Kept) (x0 : ℕ) (x1 : Val) → Goes kept (symbol x0 x1)
keeps-symbol kept s v = keeps-if kept (is_undefined v) (symbol_of None) (symbol_described s v) (keeps-symbol_of
    kept None) (keeps-symbol_described kept s v)
