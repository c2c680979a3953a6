-- The long texts of the trace, once an entry is added.
use Rattle.std.proofs.Common.{◌≡◌, ℕ, ◌<◌, ◌≤◌, ◌+◌, ◌^◌, List, [], ◌∷◌, ◌++◌, length, Bool, true, false, if◌then◌else◌, arith, length-append, refl, sym, ◌∙◌, ap, filter, fold, append_assoc, take, get_or, Result, Ok, Err, is_ok, true≢false}
use Rattle.std.specs.Prelude.{IfOk}
use Rattle.std.specs.List.{flat_map, list_any}
use Rattle.std.proofs.lemmas.List.{append-nil, take_more}
use Rattle.std.proofs.lemmas.List.Elements.{All-push, filter-append}
use Rattle.std.proofs.lemmas.List.Sums.{fold-append}
use Rattle.std.proofs.lemmas.Grind.{flat_map-append}
use Rattle.indexmap.specs.IndexSet.{insert_key}
use Rattle.mb_base.specs.declared.value.ObjId.{ObjId}
use Rattle.mb_base.specs.declared.value.StrId.{StrId}
use Rattle.mb_world.specs.declared.entry.Entry.{Entry}
use Rattle.mb_world.specs.declared.roles.Role.{Role}
use Rattle.mb_world.specs.Data.{Data, with_entry}
use Rattle.mb_world.specs.Long.{entry_texts, is_long, long_texts, same_id}
use Rattle.mb_world.specs.Ids.{Hold, EntryIn}
use Rattle.mb_world.specs.Grows.{Grows}
use Rattle.mb_world.specs.machine.Inside.{IsIndexed}
use Rattle.mb_world.proofs.Grow.{Hold-grows, Hold-entries, EntryIn-grows}

pub long_texts-push : (texts : List (List ℕ)) (es : List Entry) (e : Entry) → long_texts texts (es ++ e ∷ []) ≡ fold (insert_key same_id) (long_texts texts es) (filter (is_long texts) (entry_texts e))
long_texts-push texts es e =
    rw (flat_map-append entry_texts es (e ∷ []), filter-append (is_long texts) (flat_map entry_texts es) (entry_texts e ++ []), append-nil (entry_texts e))
    (fold-append (insert_key same_id) [] (filter (is_long texts) (flat_map entry_texts es)) (filter (is_long texts) (entry_texts e)))

-- a set grows by at most what is inserted
one-more : (ks : List StrId) (x : StrId) → length (insert_key same_id ks x) ≤ length ks + 1
one-more ks x = by (list_any (same_id x) ks)
  where
    by : (b : Bool) → length (if b then ks else ks ++ x ∷ []) ≤ length ks + 1
    by true = omega arith
    by false = omega (arith, length-append ks (x ∷ []))

pub length-inserted : (ks xs : List StrId) → length (fold (insert_key same_id) ks xs) ≤ length ks + length xs
length-inserted ks [] = omega arith
length-inserted ks (x ∷ xs) = omega (arith, one-more ks x, length-inserted (insert_key same_id ks x) xs)

pub Grows-entry : (d : Data) (e : Entry) → Grows d (with_entry d e)
Grows-entry d e = record { texts_in = omega arith; symbols_in = omega arith; cells_in = omega arith; scopes_in = omega arith; same_text = λ t l. refl; same_object = λ o l. refl; same_number = λ o l. refl }

pub Index-entry : (d : Data) (ns : List ℕ) (ss : List ObjId) (rs : List (Role × ObjId)) (ls : List StrId) → IsIndexed d ns ss rs ls → (e : Entry) → EntryIn d e → length ls + length (filter (is_long d.texts) (entry_texts e)) < 2 ^ 32 → IsIndexed (with_entry d e) ns ss rs (fold (insert_key same_id) ls (filter (is_long d.texts) (entry_texts e)))
Index-entry d ns ss rs ls w e h few =
    let d' : Data = with_entry d e in
    let g = Grows-entry d e in
    let o : Hold d' d.symbols d.programs d.cells d.scopes d.queues d.rules d.entries = Hold-grows d d' g _ _ _ _ _ _ _ w.ids in
    record {
      ids = Hold-entries d' _ _ _ _ _ _ _ o (d.entries ++ e ∷ []) (All-push (EntryIn d') d.entries e o.entries_in (EntryIn-grows d d' g e h));
      sized = w.sized;
      indexed = w.indexed;
      long_texts_are = record {
        long_are = ap (λ xs. fold (insert_key same_id) xs (filter (is_long d.texts) (entry_texts e))) w.long_texts_are.long_are ∙ sym (long_texts-push d.texts d.entries e);
        few_long = omega (arith, few, length-inserted ls (filter (is_long d.texts) (entry_texts e)));
      };
    }

-- one list of texts behind another
pub filtered : (p : StrId → Bool) (found xs ys : List StrId) → (found ++ filter p xs) ++ filter p ys ≡ found ++ filter p (xs ++ ys)
filtered p found xs ys = append_assoc found (filter p xs) (filter p ys) ∙ ap (λ zs. found ++ zs) (sym (filter-append p xs ys))

ok-then : {T E : Type 0} (r : Result T E) (P : Type 0) → is_ok r ≡ true → IfOk r (λ x. P) → P
ok-then (Ok x) P i h = h
ok-then (Err e) P i h = absurd (true≢false (sym i))

-- the step of the loop that numbers texts: there is room for each, so each is inserted
pub number-step : {E : Type 0} (r : Result Bool E) (ks new start found : List StrId) (i a b : ℕ) (d : StrId) → i < length found → (0 < a → is_ok r ≡ true) → IfOk r (λ x. new ≡ insert_key same_id ks (get_or found i d)) → ks ≡ fold (insert_key same_id) start (take i found) → length found ≤ i + a → a ≤ b + 1 → (new ≡ fold (insert_key same_id) start (take (i + 1) found)) × (length found ≤ i + 1 + b)
number-step r ks new start found i a b d l ok new-is ks-is room less =
    let n : new ≡ insert_key same_id ks (get_or found i d) = ok-then r (new ≡ insert_key same_id ks (get_or found i d)) (ok (omega (arith, l, room))) new-is in
    let t : fold (insert_key same_id) start (take (i + 1) found) ≡ insert_key same_id (fold (insert_key same_id) start (take i found)) (get_or found i d) = rw (take_more found i d l) (fold-append (insert_key same_id) start (take i found) (get_or found i d ∷ [])) in
    (n ∙ ap (λ xs. insert_key same_id xs (get_or found i d)) ks-is ∙ sym t, omega (arith, room, less))
