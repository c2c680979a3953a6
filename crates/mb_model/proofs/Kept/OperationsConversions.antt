use Rattle.std.specs.Prelude.{ℕ, ◌+◌, ◌/◌, List, ◌++◌, length, nat_lt, ℤ}
use Rattle.mb_world.specs.Value.{Val, Whole, Text, to_text}
use Rattle.mb_world.specs.Key.{key_of}
use Rattle.mb_model.specs.Writing.{give, pay, range_error}
use Rattle.mb_model.specs.Operations.Conversions.{to_key, text_by, text_limit, join_charged, join_texts, in_range, whole}
use Rattle.mb_model.proofs.Kept.Words.{Kept, Goes, keeps->>=, keeps-give, keeps-if, keeps-or_type_error, keeps-pay, keeps-range_error}

-- what the parts of these rows keep (written by tools/kept.py)

pub keeps-to_key : (kept : Kept) (x0 : ℕ) (x1 : Val) → Goes kept (to_key x0 x1)
keeps-to_key kept s v = keeps-or_type_error kept s (key_of v)

pub keeps-text_by : (kept : Kept) (x0 : ℕ) (x1 : Val) → Goes kept (text_by x0 x1)
keeps-text_by kept s v = keeps-or_type_error kept s (to_text v)

pub keeps-join_charged : (kept : Kept) (x0 : List ℕ) (x1 : List ℕ) → Goes kept (join_charged x0 x1)
keeps-join_charged kept a b = keeps->>= kept (pay ((length a + length b) / 64)) (λ _. give (Text (a ++ b)))
    (keeps-pay kept ((length a + length b) / 64)) (λ _. keeps-give kept (Text (a ++ b)))

pub keeps-join_texts : (kept : Kept) (x0 : ℕ) (x1 : List ℕ) (x2 : List ℕ) → Goes kept (join_texts x0 x1 x2)
keeps-join_texts kept s a b = keeps-if kept (nat_lt text_limit (length a + length b)) (range_error s) (join_charged
    a b) (keeps-range_error kept s) (keeps-join_charged kept a b)

pub keeps-whole : (kept : Kept) (x0 : ℕ) (x1 : ℤ) → Goes kept (whole x0 x1)
keeps-whole kept s z = keeps-if kept (in_range z) (give (Whole z)) (range_error s) (keeps-give kept (Whole z))
    (keeps-range_error kept s)
