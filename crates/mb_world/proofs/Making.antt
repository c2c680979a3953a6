-- A symbol, a scope or a cell is added to a world.
use Rattle.std.proofs.Common.{◌≡◌, ℕ, zero, suc, ◌<◌, ◌+◌, ◌^◌, List, [], ◌∷◌, ◌++◌, length, slice_get, Option, Some, arith, length-append, refl, sym, ◌∙◌, ap, get_or, map, option_map}
use Rattle.std.specs.Prelude.{All}
use Rattle.std.proofs.lemmas.List.Elements.{All-push}
use Rattle.std.proofs.lemmas.Option.{slice_get-get_or, slice_get-map}
use Rattle.std.proofs.Math.ListN.{get_or-append}
use Rattle.std.proofs.lemmas.List.{map-append, length-map}
use Rattle.mb_base.specs.declared.value.ObjId.{ObjId}
use Rattle.mb_base.specs.declared.value.StrId.{StrId}
use Rattle.mb_world.specs.declared.cell.CellKind.{CellKind}
use Rattle.mb_world.specs.declared.cell.CellKind.TheVariants.{Plain, Array, Function, BuiltIn, Fault, Proxy, Revoker, Membrane, Shadow, Collection}
use Rattle.mb_world.specs.declared.cell.Cell.{Cell}
use Rattle.mb_world.specs.declared.scope.Scope.{Scope}
use Rattle.mb_world.specs.declared.roles.Role.{Role}
use Rattle.mb_world.specs.Value.{Object}
use Rattle.mb_world.specs.Data.{Data, kind_stand, stand, stands, is_counted, numbers, place_if, places_from, obj_id, with_symbol, with_scope, with_cell}
use Rattle.mb_world.specs.Ids.{Hold, TextIn, KindIn, CellIn, ScopeOf, Maybe}
use Rattle.mb_world.specs.Grows.{Grows}
use Rattle.mb_world.specs.Image.{names_of, stood}
use Rattle.mb_world.specs.machine.Inside.{IsIndexed, Indexed}
use Rattle.mb_world.specs.machine.Roles.{noted, plays_by}
use Rattle.mb_world.specs.machine.Firsts.{or_if}
use Rattle.mb_world.proofs.Grow.{Hold-grows, Hold-symbols, Hold-cells, Hold-scopes, CellIn-grows, ScopeOf-grows, All-at, Maybe-weaker, TextIn-grows}
use Rattle.mb_world.proofs.Stands.{numbers_from-append, count_from, length-numbers_from, count-places, places-append}
use Rattle.mb_world.proofs.Noted.{player-push}

pub Grows-symbol : (d : Data) (x : Option StrId) → Grows d (with_symbol d x)
Grows-symbol d x = record { texts_in = omega arith; symbols_in = omega (arith, length-append d.symbols (x ∷ [])); cells_in = omega arith; scopes_in = omega arith; same_text = λ t l. refl; same_object = λ o l. refl; same_number = λ o l. refl }

pub Grows-scope : (d : Data) (s : Scope) → Grows d (with_scope d s)
Grows-scope d s = record { texts_in = omega arith; symbols_in = omega arith; cells_in = omega arith; scopes_in = omega (arith, length-append d.scopes (s ∷ [])); same_text = λ t l. refl; same_object = λ o l. refl; same_number = λ o l. refl }

get-first : {A : Type 0} (xs : List A) (x : A) (i : ℕ) → i < length xs → slice_get (xs ++ x ∷ []) i ≡ slice_get xs i
get-first [] x i h = absurd (omega (arith, h))
get-first (y ∷ ys) x zero h = refl
get-first (y ∷ ys) x (suc i) h = get-first ys x i (omega (arith, h))

number-first : (cells : List Cell) (c : Cell) (i : ℕ) → i < length cells → get_or (numbers (stands (cells ++ c ∷ []))) i 0 ≡ get_or (numbers (stands cells)) i 0
number-first cells c i h =
    rw (map-append stand cells (c ∷ []), numbers_from-append 0 (stands cells) (stand c))
    (get_or-append (numbers (stands cells)) (count_from 0 (stands cells) ∷ []) 0 i (omega (arith, h, length-numbers_from 0 (stands cells), length-map cells stand)))

-- what a reference to a cell of a world stands for, once a cell is added
stood-first : (d : Data) (c : Cell) (o : ObjId) (k : CellKind) → o.0 < length d.cells → KindIn d k → stood (names_of (with_cell d c)) o.0 (Some (kind_stand k)) ≡ stood (names_of d) o.0 (Some (kind_stand k))
stood-first d c o (BuiltIn place) l h = refl
stood-first d c o (Membrane behind shadow) l h = ap Object (number-first d.cells c behind.0 h.0)
stood-first d c o Plain l h = ap Object (number-first d.cells c o.0 l)
stood-first d c o Array l h = ap Object (number-first d.cells c o.0 l)
stood-first d c o (Function code) l h = ap Object (number-first d.cells c o.0 l)
stood-first d c o (Fault kind) l h = ap Object (number-first d.cells c o.0 l)
stood-first d c o (Proxy target handler shape) l h = ap Object (number-first d.cells c o.0 l)
stood-first d c o (Revoker proxy) l h = ap Object (number-first d.cells c o.0 l)
stood-first d c o (Shadow shape) l h = ap Object (number-first d.cells c o.0 l)
stood-first d c o (Collection coll) l h = ap Object (number-first d.cells c o.0 l)

pub Grows-cell : (d : Data) (c : Cell) → All (CellIn d) d.cells → Grows d (with_cell d c)
Grows-cell d c h = record {
  texts_in = omega arith;
  symbols_in = omega arith;
  cells_in = omega (arith, length-append d.cells (c ∷ []));
  scopes_in = omega arith;
  same_text = λ t l. refl;
  same_object = λ o l.
      let x = get_or d.cells o.0 c in
      let e : slice_get d.cells o.0 ≡ Some x = slice_get-get_or d.cells o.0 c l in
      let a : slice_get (stands d.cells) o.0 ≡ Some (stand x) = slice_get-map stand d.cells o.0 ∙ ap (option_map stand) e in
      let b : slice_get (stands (d.cells ++ c ∷ [])) o.0 ≡ Some (stand x) = slice_get-map stand (d.cells ++ c ∷ []) o.0 ∙ ap (option_map stand) (get-first d.cells c o.0 l ∙ e) in
      rw (a, b) (stood-first d c o x.kind l (All-at (CellIn d) d.cells o.0 x e h).kind_in);
  same_number = λ o l. number-first d.cells c o.0 l;
}

Indexed-cell : (cells : List Cell) (ns : List ℕ) (ss : List ObjId) (rs rs' : List (Role × ObjId)) (c : Cell) → Indexed cells ns ss rs → ((r : Role) → noted rs' r ≡ or_if (plays_by r c.home (stand c)) (obj_id (length cells)) (noted rs r)) → Indexed (cells ++ c ∷ []) (ns ++ length ss ∷ []) (ss ++ map obj_id (place_if (is_counted (stand c)) (length cells) [])) rs'
Indexed-cell cells ns ss rs rs' c w f =
    let st : stands (cells ++ c ∷ []) ≡ stands cells ++ stand c ∷ [] = map-append stand cells (c ∷ []) in
    let n : length (places_from 0 (stands cells)) ≡ length ss = omega (arith, ap length w.serials_are, length-map (places_from 0 (stands cells)) obj_id) in
    let k : count_from 0 (stands cells) ≡ length ss = omega (arith, count-places 0 0 (stands cells), n) in
    let z : 0 + length (stands cells) ≡ length cells = omega (arith, length-map cells stand) in
    record {
      numbers_are = rw (st, numbers_from-append 0 (stands cells) (stand c), k) (ap (λ xs. xs ++ length ss ∷ []) w.numbers_are);
      serials_are = rw (st, places-append 0 (stands cells) (stand c), z, map-append obj_id (places_from 0 (stands cells)) (place_if (is_counted (stand c)) (length cells) [])) (ap (λ xs. xs ++ map obj_id (place_if (is_counted (stand c)) (length cells) [])) w.serials_are);
      roles_are = λ r. f r ∙ ap (or_if (plays_by r c.home (stand c)) (obj_id (length cells))) (w.roles_are r) ∙ sym (player-push cells c r);
    }

module _ (d : Data) (ns : List ℕ) (ss : List ObjId) (rs : List (Role × ObjId)) (ls : List StrId) (w : IsIndexed d ns ss rs ls) where
  pub Index-symbol : (x : Option StrId) → Maybe (TextIn d) x → length d.symbols + 1 < 2 ^ 32 → IsIndexed (with_symbol d x) ns ss rs ls
  Index-symbol x h few =
      let d' : Data = with_symbol d x in
      let g = Grows-symbol d x in
      let o : Hold d' d.symbols d.programs d.cells d.scopes d.queues d.rules d.entries = Hold-grows d d' g _ _ _ _ _ _ _ w.ids in
      record {
        ids = Hold-symbols d' _ _ _ _ _ _ _ o (d.symbols ++ x ∷ []) (All-push (Maybe (TextIn d')) d.symbols x o.symbols_in (Maybe-weaker (TextIn d) (TextIn d') (TextIn-grows d d' g) x h));
        sized = record { distinct = w.sized.distinct; few_symbols = rw (length-append d.symbols (x ∷ [])) few; eight_programs = w.sized.eight_programs; few_cells = w.sized.few_cells; few_scopes = w.sized.few_scopes; eight_queues = w.sized.eight_queues };
        indexed = w.indexed;
        long_texts_are = record { long_are = w.long_texts_are.long_are; few_long = w.long_texts_are.few_long };
      }

  pub Index-scope : (s : Scope) → ScopeOf d s → length d.scopes + 1 < 2 ^ 32 → IsIndexed (with_scope d s) ns ss rs ls
  Index-scope s h few =
      let d' : Data = with_scope d s in
      let g = Grows-scope d s in
      let o : Hold d' d.symbols d.programs d.cells d.scopes d.queues d.rules d.entries = Hold-grows d d' g _ _ _ _ _ _ _ w.ids in
      record {
        ids = Hold-scopes d' _ _ _ _ _ _ _ o (d.scopes ++ s ∷ []) (All-push (ScopeOf d') d.scopes s o.scopes_in (ScopeOf-grows d d' g s h));
        sized = record { distinct = w.sized.distinct; few_symbols = w.sized.few_symbols; eight_programs = w.sized.eight_programs; few_cells = w.sized.few_cells; few_scopes = rw (length-append d.scopes (s ∷ [])) few; eight_queues = w.sized.eight_queues };
        indexed = w.indexed;
        long_texts_are = record { long_are = w.long_texts_are.long_are; few_long = w.long_texts_are.few_long };
      }

  pub Index-cell : (rs' : List (Role × ObjId)) (c : Cell) → CellIn d c → length d.cells + 1 < 2 ^ 32 → ((r : Role) → noted rs' r ≡ or_if (plays_by r c.home (stand c)) (obj_id (length d.cells)) (noted rs r)) → IsIndexed (with_cell d c) (ns ++ length ss ∷ []) (ss ++ map obj_id (place_if (is_counted (stand c)) (length d.cells) [])) rs' ls
  Index-cell rs' c h few f =
      let d' : Data = with_cell d c in
      let g = Grows-cell d c w.ids.cells_in in
      let o : Hold d' d.symbols d.programs d.cells d.scopes d.queues d.rules d.entries = Hold-grows d d' g _ _ _ _ _ _ _ w.ids in
      record {
        ids = Hold-cells d' _ _ _ _ _ _ _ o (d.cells ++ c ∷ []) (All-push (CellIn d') d.cells c o.cells_in (CellIn-grows d d' g c h));
        sized = record { distinct = w.sized.distinct; few_symbols = w.sized.few_symbols; eight_programs = w.sized.eight_programs; few_cells = rw (length-append d.cells (c ∷ [])) few; few_scopes = w.sized.few_scopes; eight_queues = w.sized.eight_queues };
        indexed = Indexed-cell d.cells ns ss rs rs' c w.indexed f;
        long_texts_are = record { long_are = w.long_texts_are.long_are; few_long = w.long_texts_are.few_long };
      }
