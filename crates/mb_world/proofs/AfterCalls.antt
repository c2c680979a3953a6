-- What a world stands for after each call.
use Rattle.std.proofs.Common.{◌≡◌, ℕ, zero, suc, ◌<◌, ◌+◌, List, [], ◌∷◌, ◌++◌, length, slice_get, slice_set, slice_index_or, Some, Bool, true, false, arith, refl, sym, ◌∙◌, ap, map, option_map, take, true≢false, subst}
use Rattle.std.specs.Prelude.{All}
use Rattle.std.specs.List.{filter}
use Rattle.std.proofs.lemmas.List.{map-append, map-set, append-nil, length-map}
use Rattle.std.proofs.lemmas.List.Elements.{All-take, filter-append}
use Rattle.std.proofs.lemmas.Option.{slice_get_within, slice_get-map}
use Rattle.mb_base.specs.declared.value.ObjId.{ObjId}
use Rattle.mb_text.specs.Texts.{text_at, with_text}
use Rattle.mb_world.specs.declared.cell.Cell.{Cell}
use Rattle.mb_world.specs.Graph.{Graph, Item}
use Rattle.mb_world.specs.Value.{Object}
use Rattle.mb_world.specs.Objects.{thing_at}
use Rattle.mb_world.specs.Data.{Data, fresh, Stand, Counted, AtPlace, Before, Hidden, cell_at, next_if, numbers_from, stand, stands, is_object_cell, is_counted, is_array, obj_id, first_texts, length_units, new_cell, with_texts, with_cell, set_cell}
use Rattle.mb_world.specs.Ids.{JobIn, ScriptIn, Maybe, HasItsIds}
use Rattle.mb_world.specs.Image.{names_of, object_in, number_at, thing_in, scope_in, job_in, program_in, Image}
use Rattle.mb_world.specs.Grows.{Grows}
use Rattle.mb_world.specs.Laws.{Becomes, same_graph, OfText, OfSymbol, OfMade, OfHidden, OfChanged, OfHiddenChanged, OfCell, OfScope, OfChangedScope, OfQueue, OfProgram, OfSides, OfTexts, OfEntry, OfRules, OfRevoked, OfJoined, OfHalted}
use Rattle.mb_world.proofs.Stands.{stands-set}
use Rattle.mb_world.proofs.Grow.{Grows-same, Grows-then, Hold-grows}
use Rattle.mb_world.proofs.Images.{things-grow, symbols-grow, scopes-grow, queues-grow, programs-grow, rules-grow}
use Rattle.mb_world.proofs.Worlds.{Grows-set, Grows-scopes, Grows-queues, Grows-programs, Grows-rules}
use Rattle.mb_world.proofs.Texts.{Grows-text}
use Rattle.mb_world.proofs.Making.{Grows-symbol, Grows-scope, Grows-cell}
use Rattle.mb_world.proofs.LongTexts.{Grows-entry}

-- ---- a world with more texts, one more cell

Image-text : (d : Data) (t : List ℕ) (log : List Item) → HasItsIds d → Image (with_texts d (with_text d.texts t)) log ≡ Image d log
Image-text d t log h =
    let d' : Data = with_texts d (with_text d.texts t) in
    let g : Grows d d' = Grows-text d t in
    rw (
      things-grow d d' g d.cells h.cells_in,
      symbols-grow d d' g d.symbols h.symbols_in,
      scopes-grow d d' g d.scopes h.scopes_in,
      queues-grow d d' g (take d.sides d.queues) (All-take (All (JobIn d)) d.sides d.queues h.queues_in),
      programs-grow d d' g (take d.sides d.programs) (All-take (Maybe (ScriptIn d)) d.sides d.programs h.programs_in),
      rules-grow d d' g d.rules h.rules_in,
    ) refl

pub text : OfText
text d t h = record { grows = Grows-text d t; image = λ log. Image-text d t log h }

-- a new object is the last
Image-cell : (d : Data) (c : Cell) (log : List Item) → HasItsIds d → is_object_cell c ≡ true → Image (with_cell d c) log ≡ record (Image d log) { objects = (Image d log).objects ++ thing_in (names_of (with_cell d c)) c ∷ [] }
Image-cell d c log h t =
    let d' : Data = with_cell d c in
    let g : Grows d d' = Grows-cell d c h.cells_in in
    rw (
      filter-append is_object_cell d.cells (c ∷ []),
      t,
      map-append (thing_in (names_of d')) (filter is_object_cell d.cells) (c ∷ []),
      things-grow d d' g d.cells h.cells_in,
      scopes-grow d d' g d.scopes h.scopes_in,
      queues-grow d d' g (take d.sides d.queues) (All-take (All (JobIn d)) d.sides d.queues h.queues_in),
      rules-grow d d' g d.rules h.rules_in,
    ) refl

-- one that is no object leaves nothing
Image-hidden : (d : Data) (c : Cell) (log : List Item) → HasItsIds d → is_object_cell c ≡ false → Image (with_cell d c) log ≡ Image d log
Image-hidden d c log h t =
    let d' : Data = with_cell d c in
    let g : Grows d d' = Grows-cell d c h.cells_in in
    rw (
      filter-append is_object_cell d.cells (c ∷ []),
      t,
      append-nil (filter is_object_cell d.cells),
      things-grow d d' g d.cells h.cells_in,
      scopes-grow d d' g d.scopes h.scopes_in,
      queues-grow d d' g (take d.sides d.queues) (All-take (All (JobIn d)) d.sides d.queues h.queues_in),
      rules-grow d d' g d.rules h.rules_in,
    ) refl

-- ---- a changed object

-- how many objects stand before a place
abbrev pub rank : List Cell → ℕ → ℕ
rank [] i = 0
rank (c ∷ cs) zero = 0
rank (c ∷ cs) (suc i) = next_if (is_object_cell c) (rank cs i)

next-add : (b : Bool) (n k : ℕ) → next_if b n + k ≡ n + next_if b k
next-add true n k = omega arith
next-add false n k = refl

pub numbers-rank : (cells : List Cell) (i n : ℕ) → i < length cells → slice_index_or (numbers_from n (stands cells)) i 0 ≡ n + rank cells i
numbers-rank [] i n h = absurd (omega arith)
numbers-rank (c ∷ cs) zero n h = omega arith
numbers-rank (c ∷ cs) (suc i) n h = numbers-rank cs i (next_if (is_object_cell c) n) (omega (arith, h)) ∙ next-add (is_object_cell c) n (rank cs i)

pub filter-set : (cells : List Cell) (i : ℕ) (c c' : Cell) → slice_get cells i ≡ Some c → is_object_cell c ≡ true → is_object_cell c' ≡ true → filter is_object_cell (slice_set cells i c') ≡ slice_set (filter is_object_cell cells) (rank cells i) c'
filter-set [] i c c' e h k = cc
filter-set (x ∷ xs) zero c c' e h k = let q : is_object_cell x ≡ true = (let z : x ≡ c = cc in rw z h) in rw (q, k) refl
filter-set (x ∷ xs) (suc i) c c' e h k = by (is_object_cell x) refl (filter-set xs i c c' e h k)
  where
    by : (b : Bool) → is_object_cell x ≡ b → filter is_object_cell (slice_set xs i c') ≡ slice_set (filter is_object_cell xs) (rank xs i) c' → filter is_object_cell (slice_set (x ∷ xs) (suc i) c') ≡ slice_set (filter is_object_cell (x ∷ xs)) (rank (x ∷ xs) (suc i)) c'
    by true q ih = rw (q, ih) refl
    by false q ih = rw (q, ih) refl

-- an object that is changed, and stands for itself still
pub Image-set : (d : Data) (id : ObjId) (c c' : Cell) (log : List Item) → cell_at d id ≡ Some c → stand c' ≡ stand c → is_object_cell c ≡ true → Image (set_cell d id c') log ≡ record (Image d log) { objects = slice_set (Image d log).objects (number_at (names_of d) id.0) (thing_in (names_of d) c') }
Image-set d id c c' log e h t =
    let n : number_at (names_of d) id.0 ≡ rank d.cells id.0 = omega (arith, numbers-rank d.cells id.0 0 (slice_get_within d.cells id.0 c e)) in
    let s : stands (slice_set d.cells id.0 c') ≡ stands d.cells = stands-set d.cells id.0 c c' e h in
    let k : is_object_cell c' ≡ true = ap is_counted h ∙ t in
    rw (s, n, filter-set d.cells id.0 c c' e t k, map-set (thing_in (names_of d)) (filter is_object_cell d.cells) (rank d.cells id.0) c') refl

-- ---- the object that a reference names

filter-get : (cells : List Cell) (i : ℕ) (c : Cell) → slice_get cells i ≡ Some c → is_object_cell c ≡ true → slice_get (filter is_object_cell cells) (rank cells i) ≡ Some c
filter-get [] i c e h = cc
filter-get (x ∷ xs) zero c e h = let z : x ≡ c = cc in let q : is_object_cell x ≡ true = rw z h in rw q (ap Some z)
filter-get (x ∷ xs) (suc i) c e h = by (is_object_cell x) refl (filter-get xs i c e h)
  where
    by : (b : Bool) → is_object_cell x ≡ b → slice_get (filter is_object_cell xs) (rank xs i) ≡ Some c → slice_get (filter is_object_cell (x ∷ xs)) (rank (x ∷ xs) (suc i)) ≡ Some c
    by true q ih = rw q ih
    by false q ih = rw q ih

counted-stand : (c : Cell) → is_object_cell c ≡ true → stand c ≡ Counted
counted-stand c h = by (stand c) h
  where
    by : (s : Stand) → is_counted s ≡ true → s ≡ Counted
    by Counted h = refl
    by (AtPlace place) h = absurd (true≢false (sym h))
    by (Before behind) h = absurd (true≢false (sym h))
    by Hidden h = absurd (true≢false (sym h))

-- a reference to an object's own cell
pub object-is : (d : Data) (id : ObjId) (c : Cell) → cell_at d id ≡ Some c → is_object_cell c ≡ true → object_in (names_of d) id ≡ Object (rank d.cells id.0)
object-is d id c e h =
    let s : slice_get (stands d.cells) id.0 ≡ Some Counted = slice_get-map stand d.cells id.0 ∙ ap (option_map stand) e ∙ ap Some (counted-stand c h) in
    let n : number_at (names_of d) id.0 ≡ rank d.cells id.0 = omega (arith, numbers-rank d.cells id.0 0 (slice_get_within d.cells id.0 c e)) in
    rw s (ap Object n)

pub thing-at : (d : Data) (id : ObjId) (c : Cell) (log : List Item) → cell_at d id ≡ Some c → is_object_cell c ≡ true → thing_at (Image d log) (object_in (names_of d) id) ≡ Some (thing_in (names_of d) c)
thing-at d id c log e h = rw (object-is d id c e h)
    (slice_get-map (thing_in (names_of d)) (filter is_object_cell d.cells) (rank d.cells id.0) ∙ ap (option_map (thing_in (names_of d))) (filter-get d.cells id.0 c e h))

-- the number of a new object
rank-all : (cells : List Cell) (c : Cell) → rank (cells ++ (c ∷ [])) (length cells) ≡ length (filter is_object_cell cells)
rank-all [] c = refl
rank-all (x ∷ xs) c = by (is_object_cell x) refl (rank-all xs c)
  where
    by : (b : Bool) → is_object_cell x ≡ b → rank (xs ++ (c ∷ [])) (length xs) ≡ length (filter is_object_cell xs) → rank ((x ∷ xs) ++ (c ∷ [])) (suc (length xs)) ≡ length (filter is_object_cell (x ∷ xs))
    by true q ih = rw q (ap suc ih)
    by false q ih = rw q ih

last-get : {A : Type 0} (xs : List A) (x : A) → slice_get (xs ++ (x ∷ [])) (length xs) ≡ Some x
last-get [] x = refl
last-get (y ∷ ys) x = last-get ys x

pub object-new : (d : Data) (id : ObjId) (c : Cell) (log : List Item) → id.0 ≡ length d.cells → is_object_cell c ≡ true → object_in (names_of (with_cell d c)) id ≡ Object (length (Image d log).objects)
object-new d id c log i h =
    object-is (with_cell d c) id c (rw i (last-get d.cells c)) h
    ∙ ap Object (rw i (rank-all d.cells c) ∙ sym (length-map (filter is_object_cell d.cells) (thing_in (names_of d))))

-- ---- the laws

-- the texts of before a cell is made
first : (b : Bool) (d : Data) → HasItsIds d → Becomes d (with_texts d (first_texts b d.texts)) same_graph
first true d h = text d length_units h
first false d h = record { grows = Grows-same d; image = λ log. refl }

first-ids : (b : Bool) (d : Data) → HasItsIds d → HasItsIds (with_texts d (first_texts b d.texts))
first-ids b d h = let d' : Data = with_texts d (first_texts b d.texts) in Hold-grows d d' (first b d h).grows _ _ _ _ _ _ _ h

pub of-made : OfMade
of-made d home kind proto label h t =
    let d1 : Data = with_texts d (first_texts (is_array kind) d.texts) in
    let c : Cell = new_cell d.texts home kind proto label in
    let f = first (is_array kind) d h in
    let i = first-ids (is_array kind) d h in
    record {
      becomes = record {
        grows = Grows-then d d1 (with_cell d1 c) f.grows (Grows-cell d1 c i.cells_in);
        image = λ log. Image-cell d1 c log i t ∙ ap (λ (g : Graph). let r : Graph = record g { objects = g.objects ++ thing_in (names_of (with_cell d1 c)) c ∷ [] } in r) (f.image log);
      };
      number = λ log. object-new d1 (obj_id (length d.cells)) c log refl t ∙ ap (λ (g : Graph). Object (length g.objects)) (f.image log);
    }

pub of-hidden : OfHidden
of-hidden d home kind proto label h t =
    let d1 : Data = with_texts d (first_texts (is_array kind) d.texts) in
    let c : Cell = new_cell d.texts home kind proto label in
    let f = first (is_array kind) d h in
    let i = first-ids (is_array kind) d h in
    record {
      grows = Grows-then d d1 (with_cell d1 c) f.grows (Grows-cell d1 c i.cells_in);
      image = λ log. Image-hidden d1 c log i t ∙ f.image log;
    }

pub of-changed : OfChanged
of-changed d id c f e h t = rw e (record { grows = Grows-set d id c (f c) e h; image = λ log. Image-set d id c (f c) log e h t })

filter-hidden : (cells : List Cell) (i : ℕ) (c c' : Cell) → slice_get cells i ≡ Some c → is_object_cell c ≡ false → is_object_cell c' ≡ false → filter is_object_cell (slice_set cells i c') ≡ filter is_object_cell cells
filter-hidden [] i c c' e h k = cc
filter-hidden (x ∷ xs) zero c c' e h k = let q : is_object_cell x ≡ false = (let z : x ≡ c = cc in rw z h) in rw (q, k) refl
filter-hidden (x ∷ xs) (suc i) c c' e h k = by (is_object_cell x) refl (filter-hidden xs i c c' e h k)
  where
    by : (b : Bool) → is_object_cell x ≡ b → filter is_object_cell (slice_set xs i c') ≡ filter is_object_cell xs → filter is_object_cell (slice_set (x ∷ xs) (suc i) c') ≡ filter is_object_cell (x ∷ xs)
    by true q ih = rw (q, ih) refl
    by false q ih = rw (q, ih) refl

pub of-hidden-changed : OfHiddenChanged
of-hidden-changed d id c f e h t =
    let s : stands (slice_set d.cells id.0 (f c)) ≡ stands d.cells = stands-set d.cells id.0 c (f c) e h in
    let k : is_object_cell (f c) ≡ false = ap is_counted h ∙ t in
    rw e (record { grows = Grows-set d id c (f c) e h; image = λ log. rw (s, filter-hidden d.cells id.0 c (f c) e t k) refl })

pub of-cell : OfCell
of-cell = thing-at

pub of-symbol : OfSymbol
of-symbol d x h = record { grows = Grows-symbol d x; image = λ log. rw (map-append (option_map (text_at d.texts)) d.symbols (x ∷ [])) refl }

pub of-scope : OfScope
of-scope d s = record { grows = Grows-scope d s; image = λ log. rw (map-append (scope_in (names_of d)) d.scopes (s ∷ [])) refl }

pub of-changed-scope : OfChangedScope
of-changed-scope d id s f e = rw e (record { grows = Grows-scopes d id.0 (f s); image = λ log. rw (map-set (scope_in (names_of d)) d.scopes id.0 (f s)) refl })

-- the first of a list, once one is set
pub take-set-any : {A : Type 0} (n : ℕ) (xs : List A) (i : ℕ) (x : A) → take n (slice_set xs i x) ≡ slice_set (take n xs) i x
take-set-any zero xs i x = refl
take-set-any (suc n) [] i x = refl
take-set-any (suc n) (y ∷ ys) zero x = refl
take-set-any (suc n) (y ∷ ys) (suc i) x = ap (λ zs. y ∷ zs) (take-set-any n ys i x)

pub of-queue : OfQueue
of-queue d side jobs = record { grows = Grows-queues d (slice_set d.queues side.0 jobs); image = λ log. rw (take-set-any d.sides d.queues side.0 jobs, map-set (map (job_in (names_of d))) (take d.sides d.queues) side.0 jobs) refl }

pub of-program : OfProgram
of-program d side script = record { grows = Grows-programs d (slice_set d.programs side.0 (Some script)); image = λ log. rw (take-set-any d.sides d.programs side.0 (Some script), map-set (program_in d.texts) (take d.sides d.programs) side.0 (Some script)) refl }

pub of-entry : OfEntry
of-entry d e = record { becomes = record { grows = Grows-entry d e; image = λ log. refl }; entries = map-append _ d.entries (e ∷ []) }

pub of-rules : OfRules
of-rules d rules = record { grows = Grows-rules d rules; image = λ log. refl }

Grows-flags : (d : Data) (revoked joined halted : Bool) → Grows d (record d { revoked = revoked; joined = joined; halted = halted })
Grows-flags d revoked joined halted = record { texts_in = omega arith; symbols_in = omega arith; cells_in = omega arith; scopes_in = omega arith; same_text = λ t l. refl; same_object = λ o l. refl; same_number = λ o l. refl }

pub of-revoked : OfRevoked
of-revoked d = record { grows = Grows-flags d true d.joined d.halted; image = λ log. refl }

pub of-joined : OfJoined
of-joined d = record { grows = Grows-flags d d.revoked true d.halted; image = λ log. refl }

pub of-halted : OfHalted
of-halted d = record { grows = Grows-flags d d.revoked d.joined true; image = λ log. refl }

pub of-sides : OfSides
of-sides d n = record {
  grows = record { texts_in = omega arith; symbols_in = omega arith; cells_in = omega arith; scopes_in = omega arith; same_text = λ t l. refl; same_object = λ o l. refl; same_number = λ o l. refl };
  image = λ log. refl;
}

from-fresh : (texts : List (List ℕ)) → Becomes fresh (with_texts fresh texts) same_graph
from-fresh texts = record {
  grows = record { texts_in = omega arith; symbols_in = omega arith; cells_in = omega arith; scopes_in = omega arith; same_text = λ t l. absurd (omega (arith, l)); same_object = λ o l. refl; same_number = λ o l. refl };
  image = λ log. refl;
}

pub of-texts : OfTexts
of-texts d texts e = let P : Data → Type 0 = λ x. Becomes x (with_texts x texts) same_graph in subst P (sym e) (from-fresh texts)
