-- The lines of a log that goes on.
use Rattle.std.proofs.Common.{Bool, List, [], ap, false, refl, sym, true, ℕ, ◌++◌, ◌∙◌, ◌∷◌, ◌≡◌, append-nil, append_assoc}
use Rattle.std.proofs.lemmas.List.{map-append}
use Rattle.std.specs.Prelude.{Vec}
use Rattle.std.specs.declared.alloc.Global.{Global}
use Rattle.std.specs.List.{AllByRecursion}
use Rattle.mb_engine.specs.Turns.{lines_made}
use Rattle.mb_model.specs.Story.{Stage}
use Rattle.mb_model.specs.Text.{line_of, lines_of, log_lines, with_feeds}
use Rattle.mb_model.specs.Trace.Entries.{entries, entry_of}
use Rattle.mb_story.proofs.Logs.{GoesOn}
use Rattle.mb_story.proofs.Numbered.{SameLine, lines-stay}
use Rattle.mb_story.specs.declared.style.Style.{Style}
use Rattle.mb_story.specs.machine.Telling.{contents_of, so_far}
use Rattle.mb_world.specs.EntryLine.{numbered_texts}
use Rattle.mb_world.specs.Graph.{Entry, Item, Printed, Traced, Uncaught}

-- ---- entries

pub entries-append : (a b : List Item) → entries (a ++ b) ≡ entries a ++ entries b
entries-append [] b = refl
entries-append (i ∷ is) b =
    ap (λ (z : List Entry). entry_of i ++ z) (entries-append is b)
    ∙ sym (append_assoc (entry_of i) (entries is) (entries b))

-- ---- line feeds

pub feeds-append : (a b : List (List ℕ)) → with_feeds (a ++ b) ≡ with_feeds a ++ with_feeds b
feeds-append [] b = refl
feeds-append (l ∷ ls) b =
    ap (λ (z : List ℕ). l ++ (10 ∷ z)) (feeds-append ls b)
    ∙ sym (append_assoc l (10 ∷ with_feeds ls) (with_feeds b))

-- ---- lines

pub lines-append : (traced lettered : Bool) (n : List (List ℕ)) (a b : List Item)
    → lines_of traced lettered n (a ++ b) ≡ lines_of traced lettered n a ++ lines_of traced lettered n b
lines-append traced lettered n [] b = refl
lines-append traced lettered n (i ∷ is) b =
    ap (λ (z : List (List ℕ)). line_of traced lettered n i ++ z) (lines-append traced lettered n is b)
    ∙ sym (append_assoc (line_of traced lettered n i) (lines_of traced lettered n is) (lines_of traced lettered n b))

item-same : (traced lettered : Bool) (n n' : List (List ℕ)) (i : Item)
    → AllByRecursion (SameLine lettered n n') (entry_of i) → line_of traced lettered n i ≡ line_of traced lettered n' i
item-same traced lettered n n' (Printed s t) h = refl
item-same traced lettered n n' (Uncaught s t) h = refl
item-same true lettered n n' (Traced e) h = ap (λ (l : List ℕ). l ∷ []) h.0
item-same false lettered n n' (Traced e) h = refl

of-item : (P : Entry → Type 0) (i : Item) (es : List Entry) → AllByRecursion P (entry_of i ++ es)
    → AllByRecursion P (entry_of i) × AllByRecursion P es
of-item P (Printed s t) es h = (tt, h)
of-item P (Uncaught s t) es h = (tt, h)
of-item P (Traced e) es h = ((h.0, tt), h.1)

items-same : (traced lettered : Bool) (n n' : List (List ℕ)) (log : List Item)
    → AllByRecursion (SameLine lettered n n') (entries log)
    → lines_of traced lettered n log ≡ lines_of traced lettered n' log
items-same traced lettered n n' [] h = refl
items-same traced lettered n n' (i ∷ is) h =
    let k = of-item (SameLine lettered n n') i (entries is) h in
    ap (λ (z : List (List ℕ)). z ++ lines_of traced lettered n is) (item-same traced lettered n n' i k.0)
    ∙ ap (λ (z : List (List ℕ)). line_of traced lettered n' i ++ z) (items-same traced lettered n n' is k.1)

-- the lines of before stand where they stood
pub log-goes-on : (traced lettered : Bool) (log more : List Item)
    → log_lines traced lettered (log ++ more)
    ≡ log_lines traced lettered log
    ++ lines_of traced lettered (numbered_texts (entries (log ++ more))) more
log-goes-on traced lettered log more =
    let es : List Entry = entries log in
    let n : List (List ℕ) = numbered_texts (entries (log ++ more)) in
    let same : lines_of traced lettered (numbered_texts es) log ≡ lines_of traced lettered n log =
    items-same traced lettered (numbered_texts es) (numbered_texts (es ++ entries more)) log
    (lines-stay lettered es (entries more))
    ∙ ap (λ (z : List Entry). lines_of traced lettered (numbered_texts z) log) (sym (entries-append log more)) in
    lines-append traced lettered n log more
    ∙ ap (λ (z : List (List ℕ)). z ++ lines_of traced lettered n more) (sym same)

one-more : (traced lettered : Bool) (log : List Item) (i : Item)
    → log_lines traced lettered (log ++ (i ∷ []))
    ≡ log_lines traced lettered log ++ line_of traced lettered (numbered_texts (entries (log ++ (i ∷ [])))) i
one-more traced lettered log i =
    log-goes-on traced lettered log (i ∷ [])
    ∙ ap (λ (z : List (List ℕ)). log_lines traced lettered log ++ z)
    (append-nil (line_of traced lettered (numbered_texts (entries (log ++ (i ∷ [])))) i))

-- lines that are made one after the other are those of the whole log
pub made-lines : (traced lettered : Bool) (log added : List Item)
    → log_lines traced lettered (log ++ added)
    ≡ log_lines traced lettered log ++ lines_made traced lettered log added
made-lines traced lettered log [] =
    ap (log_lines traced lettered) (append-nil log) ∙ sym (append-nil (log_lines traced lettered log))
made-lines traced lettered log (i ∷ is) =
    let line : List (List ℕ) = line_of traced lettered (numbered_texts (entries (log ++ (i ∷ [])))) i in
    ap (log_lines traced lettered) (sym (append_assoc log (i ∷ []) is))
    ∙ made-lines traced lettered (log ++ (i ∷ [])) is
    ∙ ap (λ (z : List (List ℕ)). z ++ lines_made traced lettered (log ++ (i ∷ [])) is) (one-more traced lettered log i)
    ∙ append_assoc (log_lines traced lettered log) line (lines_made traced lettered (log ++ (i ∷ [])) is)

-- ---- the bytes so far

pub made-bytes : (traced lettered : Bool) (log added : List Item)
    → with_feeds (log_lines traced lettered (log ++ added))
    ≡ with_feeds (log_lines traced lettered log) ++ with_feeds (lines_made traced lettered log added)
made-bytes traced lettered log added =
    ap with_feeds (made-lines traced lettered log added)
    ∙ feeds-append (log_lines traced lettered log) (lines_made traced lettered log added)

-- those of a stage go on in those of a later one
pub bytes-go-on : (style : Style) (t u : Stage) → GoesOn t u
    → (more : List ℕ) × (so_far style u ≡ so_far style t ++ more)
bytes-go-on style t u h = (
  with_feeds (lines_made style.traced style.lettered t.graph.log h.0),
  ap (λ (log : List Item). with_feeds (log_lines style.traced style.lettered log)) h.1
      ∙ made-bytes style.traced style.lettered t.graph.log h.0,
)

-- ---- lines as the code has them

feeds-last : (ys : List (Vec ℕ Global)) (x : Vec ℕ Global)
    → with_feeds (contents_of (ys ++ x ∷ [])) ≡ with_feeds (contents_of ys) ++ (x.items ++ 10 ∷ [])
feeds-last ys x =
    ap with_feeds (map-append (λ (line : Vec ℕ Global). line.items) ys (x ∷ []))
    ∙ feeds-append (contents_of ys) (x.items ∷ [])

-- one line more
pub feeds-line : (before : List ℕ) (ys : List (Vec ℕ Global)) (x : Vec ℕ Global)
    → (before ++ with_feeds (contents_of ys)) ++ (x.items ++ 10 ∷ []) ≡ before ++ with_feeds (contents_of (ys ++ x ∷ []))
feeds-line before ys x =
    append_assoc before (with_feeds (contents_of ys)) (x.items ++ 10 ∷ [])
    ∙ ap (λ (z : List ℕ). before ++ z) (sym (feeds-last ys x))

-- and those behind it
pub feeds-rest : (before : List ℕ) (ys : List (Vec ℕ Global)) (x : Vec ℕ Global) (rest : List (Vec ℕ Global))
    → before ++ with_feeds (contents_of (ys ++ x ∷ rest))
    ≡ (before ++ with_feeds (contents_of (ys ++ x ∷ []))) ++ with_feeds (contents_of rest)
feeds-rest before ys x rest =
    let split : with_feeds (contents_of (ys ++ x ∷ rest))
    ≡ with_feeds (contents_of (ys ++ x ∷ [])) ++ with_feeds (contents_of rest)
    = ap (λ (z : List (Vec ℕ Global)). with_feeds (contents_of z)) (sym (append_assoc ys (x ∷ []) rest))
    ∙ ap with_feeds (map-append (λ (line : Vec ℕ Global). line.items) (ys ++ x ∷ []) rest)
    ∙ feeds-append (contents_of (ys ++ x ∷ [])) (contents_of rest) in
    ap (λ (z : List ℕ). before ++ z) split
    ∙ sym (append_assoc before (with_feeds (contents_of (ys ++ x ∷ []))) (with_feeds (contents_of rest)))
