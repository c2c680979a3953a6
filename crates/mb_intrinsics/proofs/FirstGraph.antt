-- Where `desk` stands in a furnished world, and that the world stands for the first graph.
use Rattle.mb_base.specs.declared.value.ObjId.{ObjId}
use Rattle.mb_base.specs.declared.value.Side.{Side}
use Rattle.mb_intrinsics.proofs.Cells.{get-seam}
use Rattle.mb_intrinsics.proofs.Homes.{cells-counted}
use Rattle.mb_intrinsics.proofs.Standing.{at_side, desk-only}
use Rattle.mb_intrinsics.specs.Furnished.{IsFurnished, desk_cell, desk_id, furnished_cells, home_count, sides_from, standard_cell, standard_cells}
use Rattle.mb_intrinsics.specs.Untouched.{IsUntouched, programs_in, rules_in}
use Rattle.mb_model.specs.Story.{desk, first_graph}
use Rattle.mb_text.proofs.WithText.{slice_get-added}
use Rattle.mb_text.specs.Texts.{KeepsIds, text_at}
use Rattle.mb_world.proofs.Images.{programs-grow, rules-grow}
use Rattle.mb_world.specs.Data.{Counted, Data, Script as WorldScript, Stand, cell_at, numbers, numbers_from, obj_id, objects_of, places_from, stand, stands}
use Rattle.mb_world.specs.Graph.{Graph, Job, Program, Rule, Scope, Thing}
use Rattle.mb_world.specs.Graph as graph
use Rattle.mb_world.specs.Grows.{Grows}
use Rattle.mb_world.specs.Ids.{HasItsIds, Maybe, ScriptIn}
use Rattle.mb_world.specs.Image.{Image, job_in, names_of, number_at, object_in, program_in, rule_in, scope_in, stood, things_in}
use Rattle.mb_world.specs.Intrinsics.{Intrinsic, intrinsics}
use Rattle.mb_world.specs.Value.{Object}
use Rattle.mb_world.specs.declared.cell.Cell.{Cell}
use Rattle.mb_world.specs.declared.scope.Job.{Job as WorldJob}
use Rattle.mb_world.specs.declared.scope.Job.TheVariants as j
use Rattle.std.proofs.Common.{Bool, List, Option, Some, [], ap, append_assoc, arith, false, length, map, option_map, refl, slice_get, slice_index_or, subst, suc, sym, take, zero, ℕ, ◌*◌, ◌+◌, ◌++◌, ◌<◌, ◌≤◌, ◌∙◌, ◌∷◌, ◌≡◌}
use Rattle.std.proofs.lemmas.List.{length-append, length-map}
use Rattle.std.proofs.lemmas.List.Elements.{All-take}
use Rattle.std.proofs.lemmas.Option.{get_or_from_slice_get, slice_get-get_or, slice_get-map}
use Rattle.std.specs.List.{flat_map}
use Rattle.std.specs.Prelude.{All}

-- ---- built-ins have no number

block-places : (texts : List (List ℕ)) (h : Side) (is : List Intrinsic) (rest : List Cell) (n m : ℕ) → n + length is ≡ m
    → places_from n (stands (map (standard_cell texts h) is ++ rest)) ≡ places_from m (stands rest)
block-places texts h [] rest n m e = let q : n ≡ m = omega (arith, e) in rw q refl
block-places texts h (i ∷ is) rest n m e = block-places texts h is rest (suc n) m (omega (arith, e))

home-places : (texts : List (List ℕ)) (s k : ℕ) (rest : List Cell) (n m : ℕ) → n + 80 * k ≡ m
    → places_from n (stands (flat_map (standard_cells texts) (sides_from s k) ++ rest)) ≡ places_from m (stands rest)
home-places texts s zero rest n m e = let q : n ≡ m = omega (arith, e) in rw q refl
home-places texts s (suc k) rest n m e =
    let others : List Cell = flat_map (standard_cells texts) (sides_from (suc s) k) in
    ap (λ (cs : List Cell). places_from n (stands cs)) (append_assoc (standard_cells texts (at_side s)) others rest)
    ∙ block-places texts (at_side s) intrinsics (others ++ rest) n (n + 80) refl
    ∙ home-places texts (suc s) k rest (n + 80) m (omega (arith, e))

block-numbers : (texts : List (List ℕ)) (h : Side) (is : List Intrinsic) (rest : List Cell) (n k m : ℕ)
    → length is + k ≡ m
    → slice_index_or (numbers_from n (stands (map (standard_cell texts h) is ++ rest))) m 0
    ≡ slice_index_or (numbers_from n (stands rest)) k 0
block-numbers texts h [] rest n k m e = let q : k ≡ m = omega (arith, e) in rw q refl
block-numbers texts h (i ∷ is) rest n k zero e = absurd (omega (arith, e))
block-numbers texts h (i ∷ is) rest n k (suc m) e = block-numbers texts h is rest n k m (omega (arith, e))

home-numbers : (texts : List (List ℕ)) (s t : ℕ) (rest : List Cell) (n k m : ℕ) → 80 * t + k ≡ m
    → slice_index_or (numbers_from n (stands (flat_map (standard_cells texts) (sides_from s t) ++ rest))) m 0
    ≡ slice_index_or (numbers_from n (stands rest)) k 0
home-numbers texts s zero rest n k m e = let q : k ≡ m = omega (arith, e) in rw q refl
home-numbers texts s (suc t) rest n k m e =
    let others : List Cell = flat_map (standard_cells texts) (sides_from (suc s) t) in
    ap (λ (cs : List Cell). slice_index_or (numbers_from n (stands cs)) m 0)
    (append_assoc (standard_cells texts (at_side s)) others rest)
    ∙ block-numbers texts (at_side s) intrinsics (others ++ rest) n (80 * t + k) m (omega (arith, e))
    ∙ home-numbers texts (suc s) t rest n k (80 * t + k) refl

-- ---- `desk`

module _ (texts : List (List ℕ)) (joined : Bool) (n : ℕ) where
  abbrev built : List Cell
  built = flat_map (standard_cells texts) (sides_from 0 (home_count joined n))

  last-cell : slice_get (furnished_cells texts joined n) (80 * home_count joined n) ≡ Some (desk_cell texts)
  last-cell =
      get-seam built (desk_cell texts ∷ []) (80 * home_count joined n) 0
      (omega (arith, cells-counted texts 0 (home_count joined n)))

  first-object : slice_get (objects_of (furnished_cells texts joined n)) 0 ≡ Some (desk_id joined n)
  first-object =
      ap (λ (ns : List ℕ). slice_get (map obj_id ns) 0)
      (home-places texts 0 (home_count joined n) (desk_cell texts ∷ []) 0 (80 * home_count joined n) (omega arith))

  first-number : slice_index_or (numbers (stands (furnished_cells texts joined n))) (80 * home_count joined n) 0 ≡ 0
  first-number =
      home-numbers texts 0 (home_count joined n) (desk_cell texts ∷ []) 0 0 (80 * home_count joined n) (omega arith)

module _ (d d' : Data) (n : ℕ) (f : IsFurnished d n d') where
  cells-are : d'.cells ≡ furnished_cells d'.texts d.joined n
  cells-are = ap (λ (x : Data). x.cells) f.all

  pub desk-there : cell_at d' (desk_id d.joined n) ≡ Some (desk_cell d'.texts)
  desk-there =
      ap (λ (cs : List Cell). slice_get cs (80 * home_count d.joined n)) cells-are ∙ last-cell d'.texts d.joined n

  pub desk-first : slice_get (objects_of d'.cells) 0 ≡ Some (desk_id d.joined n)
  desk-first = ap (λ (cs : List Cell). slice_get (objects_of cs) 0) cells-are ∙ first-object d'.texts d.joined n

  desk-number : number_at (names_of d') (80 * home_count d.joined n) ≡ 0
  desk-number =
      ap (λ (cs : List Cell). slice_index_or (numbers (stands cs)) (80 * home_count d.joined n) 0) cells-are
      ∙ first-number d'.texts d.joined n

  pub desk-stands : object_in (names_of d') (desk_id d.joined n) ≡ Object 0
  desk-stands =
      let at : slice_get (stands d'.cells) (80 * home_count d.joined n) ≡ Some Counted =
      slice_get-map stand d'.cells (80 * home_count d.joined n) ∙ ap (option_map stand) desk-there in
      ap (λ (o : Option Stand). stood (names_of d') (80 * home_count d.joined n) o) at
      ∙ ap (λ (k : ℕ). Object k) desk-number

-- ---- the first graph

-- texts that keep their ids tell the same
text-kept : (a b : List (List ℕ)) (k : ℕ) → KeepsIds a b → k < length a → slice_index_or b k [] ≡ slice_index_or a k []
text-kept a b k keeps l =
    let there : slice_get a k ≡ Some (slice_index_or a k []) = slice_get-get_or a k [] l in
    get_or_from_slice_get b k (slice_index_or a k []) []
    (subst (λ (ts : List (List ℕ)). slice_get ts k ≡ Some (slice_index_or a k [])) (sym keeps.1)
    (slice_get-added a keeps.0 k (slice_index_or a k []) there))

module _ (d d' : Data) (n : ℕ) (i : HasItsIds d) (u : IsUntouched d n) (cells : d.cells ≡ []) (symbols : d.symbols ≡ [])
    (revoked : d.revoked ≡ false) (queues : take n d.queues ≡ map (λ p. j.Script ∷ []) (take n d.programs))
    (f : IsFurnished d n d') where
  no-object : (o : ObjId) → o.0 < length d.cells → ⊥
  no-object o l = let none : length d.cells ≡ 0 = ap (λ (cs : List Cell). length cs) cells in omega (arith, l, none)

  grows : Grows d d'
  grows = record {
    texts_in =
        omega (arith, length-append d.texts f.texts_stay.0, ap (λ (ts : List (List ℕ)). length ts) f.texts_stay.1);
    symbols_in = subst (λ (x : Data). length d.symbols ≤ length x.symbols) (sym f.all) (omega arith);
    cells_in = omega (arith, ap (λ (cs : List Cell). length cs) cells);
    scopes_in = subst (λ (x : Data). length d.scopes ≤ length x.scopes) (sym f.all) (omega arith);
    same_text = λ t l. text-kept d.texts d'.texts t.0 f.texts_stay l;
    same_object = λ o l. absurd (no-object o l);
    same_number = λ o l. absurd (no-object o l);
  }

  -- what stands for the scripts of so many sides
  jobs-are : (ps : List (Option WorldScript)) → map (map (job_in (names_of d'))) (map (λ p. j.Script ∷ []) ps)
      ≡ map (λ p. graph.Script ∷ []) (map (program_in d.texts) ps)
  jobs-are [] = refl
  jobs-are (p ∷ ps) = ap (λ (qs : List (List Job)). (graph.Script ∷ []) ∷ qs) (jobs-are ps)

  its-queues : map (map (job_in (names_of d'))) (take d'.sides d'.queues)
      ≡ map (λ p. graph.Script ∷ []) (programs_in d n)
  its-queues =
      ap (λ (x : Data). map (map (job_in (names_of d'))) (take x.sides x.queues)) f.all
      ∙ ap (λ (qs : List (List WorldJob)). map (map (job_in (names_of d'))) qs) queues
      ∙ jobs-are (take n d.programs)

  its-programs : map (program_in d'.texts) (take d'.sides d'.programs) ≡ programs_in d n
  its-programs =
      ap (λ (x : Data). map (program_in d'.texts) (take x.sides x.programs)) f.all
      ∙ programs-grow d d' grows (take n d.programs) (All-take (Maybe (ScriptIn d)) n d.programs i.programs_in)

  its-rules : map (rule_in (names_of d')) d'.rules ≡ rules_in d
  its-rules =
      ap (λ (x : Data). map (rule_in (names_of d')) x.rules) f.all ∙ rules-grow d d' grows d.rules i.rules_in

  pub first-image : Image d' [] ≡ record (first_graph (programs_in d n) (rules_in d)) { scopes = [] }
  first-image =
      rw (
        desk-only d d' n (omega (arith, u.least)) f,
        its-queues,
        its-programs,
        its-rules,
        ap (λ (x : Data). x.symbols) f.all ∙ symbols,
        ap (λ (x : Data). x.scopes) f.all ∙ u.scopes,
        ap (λ (x : Data). x.revoked) f.all ∙ revoked,
      ) refl
