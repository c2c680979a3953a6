-- The changes of a world keep its invariant.
use Rattle.std.proofs.Common.{◌≡◌, ℕ, ◌<◌, ◌+◌, List, [], ◌∷◌, ◌++◌, length, slice_get, slice_set, Option, Some, None, Bool, true, false, arith, length-set, refl, sym, ◌∙◌, ap, get_or, map, take, drop}
use Rattle.std.specs.Prelude.{All, IfSome}
use Rattle.std.specs.Option.{option_to_list}
use Rattle.std.specs.List.{position_or_len}
use Rattle.std.specs.Map.{remove_entry}
use Rattle.std.proofs.lemmas.List.Elements.{All-set, All-push, All-cons, All-head, All-tail, All-weaker, All-drop, All-take, All-append}
use Rattle.std.proofs.lemmas.List.Folds.{position_or_len-set}
use Rattle.std.proofs.lemmas.Option.{get_or_from_slice_get, slice_get_read}
use Rattle.std.proofs.lemmas.List.{get_or-map}
use Rattle.mb_base.specs.declared.value.Side.{Side}
use Rattle.mb_base.specs.declared.value.ObjId.{ObjId}
use Rattle.mb_base.specs.declared.value.ScopeId.{ScopeId}
use Rattle.mb_base.specs.declared.value.StrId.{StrId}
use Rattle.mb_base.specs.declared.value.Key.{Key}
use Rattle.mb_base.specs.declared.value.Value.{Value}
use Rattle.mb_desc.specs.declared.descriptor.Full.{Full}
use Rattle.mb_props.specs.Table.{insert_entry, same_key}
use Rattle.mb_world.specs.declared.cell.Cell.{Cell}
use Rattle.mb_world.specs.declared.scope.Scope.{Scope}
use Rattle.mb_world.specs.declared.scope.Job.{Job}
use Rattle.mb_world.specs.declared.scope.Bound.{Bound}
use Rattle.mb_world.specs.declared.rule.Rule.{Rule}
use Rattle.mb_world.specs.declared.roles.Role.{Role}
use Rattle.mb_world.specs.Data.{Data, Script, stand, stands, numbers, cell_at, scope_at, change_cell, change_scope, set_scope, set_cell, put_in, remove_in, with_slot, giving, give_if, given_value, queue_of, with_queue, with_program}
use Rattle.mb_world.specs.Ids.{HasItsIds, Hold, ObjIn, ScopeIn, KeyIn, ValueIn, FullIn, PropertyIn, PairIn, CellIn, BoundIn, ScopeOf, JobIn, ScriptIn, Maybe}
use Rattle.mb_world.specs.Grows.{Grows}
use Rattle.mb_world.specs.Image.{object_in}
use Rattle.mb_world.specs.machine.Inside.{IsIndexed, Indexed}
use Rattle.mb_world.specs.machine.Roles.{player, plays}
use Rattle.mb_world.proofs.Grow.{Hold-grows, Hold-cells, Hold-scopes, Hold-queues, Hold-programs, CellIn-grows, ScopeOf-grows, All-at, JobIn-grows}
use Rattle.mb_world.proofs.Stands.{stands-set}

-- ---- what code reads

-- an element that code reads
pub read : {A : Type 0} (xs : List A) (k : ℕ) (x : A) → k < length xs → x ≡ get_or xs k x → slice_get xs k ≡ Some x
read xs k x l e = slice_get_read xs (length xs) k x refl l e

-- what a function gives of the element that is read
pub read-map : {A B : Type 0} (f : A → B) (xs : List A) (k : ℕ) (x : A) (y : B) → k < length xs → x ≡ get_or xs k x → get_or (map f xs) k y ≡ f x
read-map f xs k x y l e = get_or-map f xs k x y l ∙ ap f (sym e)

-- ---- a cell is changed, and what stands for it isn't

pub Grows-set : (d : Data) (id : ObjId) (c c' : Cell) → cell_at d id ≡ Some c → stand c' ≡ stand c → Grows d (set_cell d id c')
Grows-set d id c c' e h =
    let s : stands (slice_set d.cells id.0 c') ≡ stands d.cells = stands-set d.cells id.0 c c' e h in
    record {
      texts_in = omega arith;
      symbols_in = omega arith;
      cells_in = omega (arith, length-set d.cells id.0 c');
      scopes_in = omega arith;
      same_text = λ t l. refl;
      same_object = λ o l. ap (λ ss. object_in (record { texts = d.texts; stands = ss }) o) s;
      same_number = λ o l. ap (λ ss. get_or (numbers ss) o.0 0) s;
    }

player-set : (cells : List Cell) (i : ℕ) (c c' : Cell) (role : Role) → slice_get cells i ≡ Some c → stand c' ≡ stand c → c'.home ≡ c.home → player (slice_set cells i c') role ≡ player cells role
player-set cells i c c' role e h k =
    let q : plays role c' ≡ plays role (get_or cells i c) = rw (get_or_from_slice_get cells i c c e, h, k) refl in
    let p : position_or_len (plays role) (slice_set cells i c') ≡ position_or_len (plays role) cells = position_or_len-set (plays role) cells i c' c q in
    rw (p, length-set cells i c') refl

Indexed-set : (cells : List Cell) (ns : List ℕ) (ss : List ObjId) (rs : List (Role × ObjId)) (i : ℕ) (c c' : Cell) → slice_get cells i ≡ Some c → stand c' ≡ stand c → c'.home ≡ c.home → Indexed cells ns ss rs → Indexed (slice_set cells i c') ns ss rs
Indexed-set cells ns ss rs i c c' e h k w =
    let s : stands (slice_set cells i c') ≡ stands cells = stands-set cells i c c' e h in
    record {
      numbers_are = w.numbers_are ∙ ap numbers (sym s);
      serials_are = rw s w.serials_are;
      roles_are = λ role. w.roles_are role ∙ sym (player-set cells i c c' role e h k);
    }

module _ (d : Data) (ns : List ℕ) (ss : List ObjId) (rs : List (Role × ObjId)) (ls : List StrId) (w : IsIndexed d ns ss rs ls) where
  pub Index-set : (id : ObjId) (c c' : Cell) → cell_at d id ≡ Some c → stand c' ≡ stand c → c'.home ≡ c.home → (CellIn d c → CellIn d c') → IsIndexed (set_cell d id c') ns ss rs ls
  Index-set id c c' e h k f =
      let d' : Data = set_cell d id c' in
      let g = Grows-set d id c c' e h in
      let o : Hold d' d.symbols d.programs d.cells d.scopes d.queues d.rules d.entries = Hold-grows d d' g _ _ _ _ _ _ _ w.ids in
      let new : CellIn d' c' = CellIn-grows d d' g c' (f (All-at (CellIn d) d.cells id.0 c e w.ids.cells_in)) in
      record {
        ids = Hold-cells d' _ _ _ _ _ _ _ o (slice_set d.cells id.0 c') (All-set (CellIn d') d.cells id.0 c' new o.cells_in);
        sized = record { distinct = w.sized.distinct; few_symbols = w.sized.few_symbols; eight_programs = w.sized.eight_programs; few_cells = rw (length-set d.cells id.0 c') w.sized.few_cells; few_scopes = w.sized.few_scopes; eight_queues = w.sized.eight_queues };
        indexed = Indexed-set d.cells ns ss rs id.0 c c' e h k w.indexed;
        long_texts_are = record { long_are = w.long_texts_are.long_are; few_long = w.long_texts_are.few_long };
      }

-- the cell that is named is the one that was read
pub changed-is : (d : Data) (id : ObjId) (x : Cell) (f : Cell → Cell) → ObjIn d id → x ≡ get_or d.cells id.0 x → set_cell d id (f x) ≡ change_cell d id f
changed-is d id x f l e = rw (read d.cells id.0 x l e) refl

-- ---- scopes, jobs, programs, rules

pub Grows-scopes : (d : Data) (k : ℕ) (s : Scope) → Grows d (record d { scopes = slice_set d.scopes k s })
Grows-scopes d k s = record { texts_in = omega arith; symbols_in = omega arith; cells_in = omega arith; scopes_in = omega (arith, length-set d.scopes k s); same_text = λ t l. refl; same_object = λ o l. refl; same_number = λ o l. refl }

pub Grows-queues : (d : Data) (qs : List (List Job)) → Grows d (record d { queues = qs })
Grows-queues d qs = record { texts_in = omega arith; symbols_in = omega arith; cells_in = omega arith; scopes_in = omega arith; same_text = λ t l. refl; same_object = λ o l. refl; same_number = λ o l. refl }

pub Grows-programs : (d : Data) (ps : List (Option Script)) → Grows d (record d { programs = ps })
Grows-programs d ps = record { texts_in = omega arith; symbols_in = omega arith; cells_in = omega arith; scopes_in = omega arith; same_text = λ t l. refl; same_object = λ o l. refl; same_number = λ o l. refl }

pub Grows-rules : (d : Data) (rs : List Rule) → Grows d (record d { rules = rs })
Grows-rules d rs = record { texts_in = omega arith; symbols_in = omega arith; cells_in = omega arith; scopes_in = omega arith; same_text = λ t l. refl; same_object = λ o l. refl; same_number = λ o l. refl }

module _ (d : Data) (ns : List ℕ) (ss : List ObjId) (rs : List (Role × ObjId)) (ls : List StrId) (w : IsIndexed d ns ss rs ls) where
  pub Index-scopes : (id : ScopeId) (s s' : Scope) → scope_at d id ≡ Some s → (ScopeOf d s → ScopeOf d s') → IsIndexed (set_scope d id s') ns ss rs ls
  Index-scopes id s s' e f =
      let d' : Data = set_scope d id s' in
      let g : Grows d d' = Grows-scopes d id.0 s' in
      let o : Hold d' d.symbols d.programs d.cells d.scopes d.queues d.rules d.entries = Hold-grows d d' g _ _ _ _ _ _ _ w.ids in
      let new : ScopeOf d' s' = ScopeOf-grows d d' g s' (f (All-at (ScopeOf d) d.scopes id.0 s e w.ids.scopes_in)) in
      record {
        ids = Hold-scopes d' _ _ _ _ _ _ _ o (slice_set d.scopes id.0 s') (All-set (ScopeOf d') d.scopes id.0 s' new o.scopes_in);
        sized = record { distinct = w.sized.distinct; few_symbols = w.sized.few_symbols; eight_programs = w.sized.eight_programs; few_cells = w.sized.few_cells; few_scopes = rw (length-set d.scopes id.0 s') w.sized.few_scopes; eight_queues = w.sized.eight_queues };
        indexed = w.indexed;
        long_texts_are = record { long_are = w.long_texts_are.long_are; few_long = w.long_texts_are.few_long };
      }

  pub Index-queue : (side : Side) (jobs : List Job) → All (JobIn d) jobs → IsIndexed (with_queue d side jobs) ns ss rs ls
  Index-queue side jobs h =
      let d' : Data = with_queue d side jobs in
      let g : Grows d d' = Grows-queues d (slice_set d.queues side.0 jobs) in
      let o : Hold d' d.symbols d.programs d.cells d.scopes d.queues d.rules d.entries = Hold-grows d d' g _ _ _ _ _ _ _ w.ids in
      let n : All (JobIn d') jobs = All-weaker (JobIn d) (JobIn d') (JobIn-grows d d' g) jobs h in
      record {
        ids = Hold-queues d' _ _ _ _ _ _ _ o (slice_set d.queues side.0 jobs) (All-set (All (JobIn d')) d.queues side.0 jobs n o.queues_in);
        sized = record { distinct = w.sized.distinct; few_symbols = w.sized.few_symbols; eight_programs = w.sized.eight_programs; few_cells = w.sized.few_cells; few_scopes = w.sized.few_scopes; eight_queues = length-set d.queues side.0 jobs ∙ w.sized.eight_queues };
        indexed = w.indexed;
        long_texts_are = record { long_are = w.long_texts_are.long_are; few_long = w.long_texts_are.few_long };
      }

  pub Index-program : (side : Side) (script : Script) → ScriptIn d script → IsIndexed (with_program d side script) ns ss rs ls
  Index-program side script h =
      let ps : List (Option Script) = slice_set d.programs side.0 (Some script) in
      let d' : Data = record d { programs = ps } in
      let g : Grows d d' = Grows-programs d ps in
      let o : Hold d' d.symbols d.programs d.cells d.scopes d.queues d.rules d.entries = Hold-grows d d' g _ _ _ _ _ _ _ w.ids in
      let n : Maybe (ScriptIn d') (Some script) = record { nodes_in = h.nodes_in; names_in = h.names_in } in
      record {
        ids = Hold-programs d' _ _ _ _ _ _ _ o ps (All-set (Maybe (ScriptIn d')) d.programs side.0 (Some script) n o.programs_in);
        sized = record { distinct = w.sized.distinct; few_symbols = w.sized.few_symbols; eight_programs = length-set d.programs side.0 (Some script) ∙ w.sized.eight_programs; few_cells = w.sized.few_cells; few_scopes = w.sized.few_scopes; eight_queues = w.sized.eight_queues };
        indexed = w.indexed;
        long_texts_are = record { long_are = w.long_texts_are.long_are; few_long = w.long_texts_are.few_long };
      }

-- the scope that is named is the one that was read
pub changed-scope-is : (d : Data) (id : ScopeId) (x : Scope) (f : Scope → Scope) → ScopeIn d id → x ≡ get_or d.scopes id.0 x → set_scope d id (f x) ≡ change_scope d id f
changed-scope-is d id x f l e = rw (read d.scopes id.0 x l e) refl

pub ScopeOf-give : (d : Data) (s : Scope) (place : ℕ) (x : Value) → ValueIn d x → ScopeOf d s → ScopeOf d (giving place x s)
ScopeOf-give d s place x v h = record { home_in = h.home_in; parent_in = h.parent_in; names_in = by (slice_get s.names place) refl }
  where
    by : (o : Option Bound) → slice_get s.names place ≡ o → All (BoundIn d) (give_if place x s.names o)
    by None e = h.names_in
    by (Some b) e = All-set (BoundIn d) s.names place (given_value x b) ((All-at (BoundIn d) s.names place b e h.names_in).0, v) h.names_in

pub queue-in : (d : Data) (side : Side) → HasItsIds d → side.0 < length d.queues → All (JobIn d) (queue_of d side)
queue-in d side h l = h.queues_in side.0 [] l

pub head-is : {A : Type 0} (r : Option A) (xs : List A) → xs ≡ option_to_list r ++ drop 1 xs → r ≡ slice_get xs 0
head-is None [] e = refl
head-is None (x ∷ xs) e = absurd (let n : length (x ∷ xs) ≡ length xs = ap length e in omega (arith, n))
head-is (Some r) [] e = cc
head-is (Some r) (x ∷ xs) e = let q : x ≡ r = cc in ap Some (sym q)

pub head-in : {A : Type 0} (P : A → Type 0) (r : Option A) (xs : List A) → r ≡ slice_get xs 0 → All P xs → IfSome r P
head-in P None xs e h = tt
head-in P (Some x) xs e h = All-at P xs 0 x (sym e) h

-- ---- properties and slots

pub All-insert : (P : Key × Full Value → Type 0) (es : List (Key × Full Value)) (key : Key) (full : Full Value) → P (key, full) → ((e : Key × Full Value) → P e → P (e.0, full)) → All P es → All P (insert_entry es key full)
All-insert P [] key full p q h = All-push P [] (key, full) h p
All-insert P (e ∷ es) key full p q h = by (same_key key e.0) refl (All-insert P es key full p q (All-tail P e es h))
  where
    by : (b : Bool) → same_key key e.0 ≡ b → All P (insert_entry es key full) → All P (insert_entry (e ∷ es) key full)
    by true t rest = rw t (All-cons P (e.0, full) es (q e (All-head P e es h)) (All-tail P e es h))
    by false t rest = rw t (All-cons P e (insert_entry es key full) (All-head P e es h) rest)

pub All-without : (P : Key × Full Value → Type 0) (es : List (Key × Full Value)) (test : Key → Bool) → All P es → All P (remove_entry test es)
All-without P [] test h = h
All-without P (e ∷ es) test h = by (test e.0) refl (All-without P es test (All-tail P e es h))
  where
    by : (b : Bool) → test e.0 ≡ b → All P (remove_entry test es) → All P (remove_entry test (e ∷ es))
    by true t rest = rw t (All-tail P e es h)
    by false t rest = rw t (All-cons P e (remove_entry test es) (All-head P e es h) rest)

pub CellIn-put : (d : Data) (c : Cell) (key : Key) (full : Full Value) → KeyIn d key → FullIn d full → CellIn d c → CellIn d (put_in key full c)
CellIn-put d c key full k f h = record { home_in = h.home_in; kind_in = h.kind_in; proto_in = h.proto_in; props_in = All-insert (PropertyIn d) c.props key full (k, f) (λ e p. (p.0, f)) h.props_in; label_in = h.label_in; slots_in = h.slots_in }

pub CellIn-remove : (d : Data) (c : Cell) (key : Key) → CellIn d c → CellIn d (remove_in key c)
CellIn-remove d c key h = record { home_in = h.home_in; kind_in = h.kind_in; proto_in = h.proto_in; props_in = All-without (PropertyIn d) c.props (same_key key) h.props_in; label_in = h.label_in; slots_in = h.slots_in }

pub CellIn-slot : (d : Data) (c : Cell) (at : ℕ) (pair : Option (Value × Value)) → Maybe (PairIn d) pair → CellIn d c → CellIn d (with_slot at pair c)
CellIn-slot d c at pair p h = record {
  home_in = h.home_in;
  kind_in = h.kind_in;
  proto_in = h.proto_in;
  props_in = h.props_in;
  label_in = h.label_in;
  slots_in = All-append (Maybe (PairIn d)) (take at c.slots) (pair ∷ drop (at + 1) c.slots) (All-take (Maybe (PairIn d)) at c.slots h.slots_in) (All-cons (Maybe (PairIn d)) pair (drop (at + 1) c.slots) p (All-drop (Maybe (PairIn d)) (at + 1) c.slots h.slots_in));
}
