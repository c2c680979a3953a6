-- Where the code's parser is.
use Rattle.std.proofs.Common.{◌≡◌, ℕ, ◌+◌, ◌-◌, ◌<◌, ◌≤◌, Bool, List, [], ◌∷◌, ◌++◌, length, take, Option, Some, refl, sym, ap, subst, ◌∙◌, arith, append-nil, length-append}
use Rattle.std.specs.Prelude.{slice_get, if◌then◌else◌}
use Rattle.mb_base.specs.declared.value.NodeId.{NodeId}
use Rattle.mb_token.specs.declared.token.Spanned.{Spanned}
use Rattle.mb_tree.specs.Roses.{Rose, Roses, node, none, Shape, shape, id_of, root, write_all, roots, size}
use Rattle.mb_tree.specs.machine.Operands.{pushed, written, places, Gathered, Short, Got, gather}
use Rattle.mb_tree.proofs.Stack.{popped}
use Rattle.mb_tree.proofs.Written.{operands_fit, roots_length, places_length, gather_written, gather_places, gather_size, pushed_written, pushed_places}
use Rattle.mb_grammar.specs.declared.level.Level.{Level}
use Rattle.mb_tree.specs.declared.tree.Label.{Label}
use Rattle.mb_parse_expr.specs.declared.machine.Frame.{Frame}
use Rattle.mb_parse_expr.specs.declared.machine.Frame.TheVariants as f
use Rattle.mb_parse_expr.specs.declared.machine.Mode.{Mode}
use Rattle.mb_parse_expr.specs.declared.machine.Mode.TheVariants as mo
use Rattle.mb_parse_expr.specs.declared.machine.Move.{Move}
use Rattle.mb_parse_expr.specs.declared.machine.Move.TheVariants.{Leaf, Enter, Begin, Swap, Build, Suffix, Turn, Pause, Ended, Wrong}
use Rattle.mb_grammar.specs.declared.role.Role.TheVariants as r
use Rattle.mb_grammar.specs.Tokens.{token_at, role_at, after_line_at, RoleAt}
use Rattle.mb_grammar.specs.Grammar.{Statements}
use Rattle.mb_parse_expr.specs.machine.Machine.{ahead_at, follow_at, move_of, Going, Waits, Ends, Fails, built, apply, move_at, Leads, here, after, answered}
use Rattle.mb_tree.specs.machine.Stack.{laid, top, below}
use Rattle.mb_parse_expr.specs.machine.Covers.{bottom, blocked}
use Rattle.mb_parse_expr.specs.Pauses.{IsTree}
use Rattle.mb_grammar.specs.Script.{Whole}
use Rattle.mb_parse_expr.specs.machine.Progress.{Progress, Reading, Waiting}
use Rattle.mb_grammar.specs.Bodies.{AreTheStatements}
use Rattle.mb_parse_expr.proofs.Steps.{whole_reads}
use Rattle.mb_parse_expr.proofs.Sound.{good_step}

-- steps and what they keep

ends_step : (ts : List Spanned) {fs : List Frame} {rs q : List Rose} {ds es : List ℕ} {mode : Mode} {at j : ℕ} → Leads ts (Going fs rs ds mode at) (Ends q es j) → Leads ts (apply (move_at ts fs mode at) fs rs ds at) (Ends q es j)
ends_step ts (after p) = p

pub progress_step : (ts : List Spanned) (level : Level) (start : ℕ) (fs : List Frame) (rs : List Rose) (ds : List ℕ) (mode : Mode) (at : ℕ) (move : Move) → move ≡ move_at ts fs mode at → Progress ts level start (Going fs rs ds mode at) → Progress ts level start (apply move fs rs ds at)
progress_step ts level start fs rs ds mode at move e p = subst (λ m. Progress ts level start (apply m fs rs ds at)) (sym e) (record {
  sound = good_step ts level start fs rs ds mode at p.sound;
  complete = λ a es j w. ends_step ts (p.complete a es j w);
})

-- the code's choice of a move
pub record Chosen (ts : List Spanned) (frames : List Frame) (mode : Mode) (at : ℕ) (move : Move) : Type 0 where
  pub o : Option Frame
  pub tops : (fs : List Frame) → frames ≡ laid fs → o ≡ top fs
  pub is : move ≡ move_of o mode (token_at ts at) (role_at ts at) (after_line_at ts at) (ahead_at ts at) (follow_at ts at)

chosen_is : {ts : List Spanned} {frames : List Frame} {mode : Mode} {at : ℕ} {move : Move} (c : Chosen ts frames mode at move) (fs : List Frame) → frames ≡ laid fs → move ≡ move_at ts fs mode at
chosen_is {ts = ts} {mode = mode} {at = at} c fs e = c.is ∙ ap (λ o. move_of o mode (token_at ts at) (role_at ts at) (after_line_at ts at) (ahead_at ts at) (follow_at ts at)) (c.tops fs e)

module _ {ts : List Spanned} {level : Level} {start : ℕ} {base : List Shape} {ds : List ℕ} {frames : List Frame} {mode : Mode} {at : ℕ} {ids : List NodeId} {shapes : List Shape} (h : Reading ts level start base ds frames mode at ids shapes) where
  stepped : (move : Move) → Chosen ts frames mode at move → Progress ts level start (apply move h.fs h.rs ds at)
  stepped move c = progress_step ts level start h.fs h.rs ds mode at move (chosen_is c h.fs h.frames_are) h.progress

  pub reading_leaf : (label : Label) (mode' : Mode) (ids' : List NodeId) (shapes' : List Shape) → Chosen ts frames mode at (Leaf label mode') → ids' ≡ ids ++ id_of (length shapes) ∷ [] → shapes' ≡ shapes ++ shape label [] ∷ [] → Reading ts level start base ds frames mode' (at + 1) ids' shapes'
  reading_leaf label mode' ids' shapes' c i s = record {
    fs = h.fs;
    rs = node label none ∷ h.rs;
    frames_are = h.frames_are;
    ids_are = i ∙ ap (λ x. x ++ id_of (length shapes) ∷ []) h.ids_are ∙ ap (λ x. places base h.rs ++ id_of (length x) ∷ []) h.shapes_are;
    shapes_are = s ∙ ap (λ x. x ++ shape label [] ∷ []) h.shapes_are;
    progress = stepped (Leaf label mode') c;
  }

  pub reading_begin : (label : Label) (frame : Frame) (mode' : Mode) (frames' : List Frame) (ids' : List NodeId) (shapes' : List Shape) → Chosen ts frames mode at (Begin label frame mode') → frames' ≡ frames ++ frame ∷ [] → ids' ≡ ids ++ id_of (length shapes) ∷ [] → shapes' ≡ shapes ++ shape label [] ∷ [] → Reading ts level start base ds frames' mode' (at + 1) ids' shapes'
  reading_begin label frame mode' frames' ids' shapes' c fe i s = record {
    fs = frame ∷ h.fs;
    rs = node label none ∷ h.rs;
    frames_are = fe ∙ ap (λ x. x ++ frame ∷ []) h.frames_are;
    ids_are = i ∙ ap (λ x. x ++ id_of (length shapes) ∷ []) h.ids_are ∙ ap (λ x. places base h.rs ++ id_of (length x) ∷ []) h.shapes_are;
    shapes_are = s ∙ ap (λ x. x ++ shape label [] ∷ []) h.shapes_are;
    progress = stepped (Begin label frame mode') c;
  }

  pub reading_enter : (frame : Frame) (mode' : Mode) (frames' : List Frame) → Chosen ts frames mode at (Enter frame mode') → frames' ≡ frames ++ frame ∷ [] → Reading ts level start base ds frames' mode' (at + 1) ids shapes
  reading_enter frame mode' frames' c fe = record {
    fs = frame ∷ h.fs;
    rs = h.rs;
    frames_are = fe ∙ ap (λ x. x ++ frame ∷ []) h.frames_are;
    ids_are = h.ids_are;
    shapes_are = h.shapes_are;
    progress = stepped (Enter frame mode') c;
  }

  pub reading_swap : (frame : Frame) (mode' : Mode) (k : ℕ) (frames' frames'' : List Frame) → Chosen ts frames mode at (Swap frame mode') → k ≡ length frames → frames' ≡ take (k - 1) frames → frames'' ≡ frames' ++ frame ∷ [] → Reading ts level start base ds frames'' mode' (at + 1) ids shapes
  reading_swap frame mode' k frames' frames'' c ke fe ge = record {
    fs = frame ∷ below h.fs;
    rs = h.rs;
    frames_are = ge ∙ ap (λ x. x ++ frame ∷ []) (popped h.fs frames frames' k h.frames_are ke fe);
    ids_are = h.ids_are;
    shapes_are = h.shapes_are;
    progress = stepped (Swap frame mode') c;
  }

  pub reading_turn : (mode' : Mode) → Chosen ts frames mode at (Turn mode') → Reading ts level start base ds frames mode' (at + 1) ids shapes
  reading_turn mode' c = record {
    fs = h.fs;
    rs = h.rs;
    frames_are = h.frames_are;
    ids_are = h.ids_are;
    shapes_are = h.shapes_are;
    progress = stepped (Turn mode') c;
  }

  -- the body that is named now is the last one of those named
  pub waiting_pause : Chosen ts frames mode at Pause → Waiting ts level start base ((at + 1) ∷ ds) frames (at + 1) ids shapes
  waiting_pause c = record {
    fs = h.fs;
    rs = h.rs;
    frames_are = h.frames_are;
    ids_are = h.ids_are;
    shapes_are = h.shapes_are;
    progress = stepped Pause c;
  }

-- a node that is made of the last operands
pub record Built (ts : List Spanned) (level : Level) (start : ℕ) (base : List Shape) (ds : List ℕ) (ids : List NodeId) (shapes : List Shape) (label : Label) (n : ℕ) (mode : Mode) (fs : List Frame) (at : ℕ) : Type 0 where
  pub front : List NodeId
  pub kids : List NodeId
  pub ids_are : ids ≡ front ++ kids
  pub count : length kids ≡ n
  pub next : (frames : List Frame) (ids' : List NodeId) (shapes' : List Shape) → frames ≡ laid fs → ids' ≡ front ++ id_of (length shapes) ∷ [] → shapes' ≡ shapes ++ shape label kids ∷ [] → Reading ts level start base ds frames mode at ids' shapes'

make : (ts : List Spanned) (level : Level) (start : ℕ) (base : List Shape) (ds : List ℕ) (ids : List NodeId) (shapes : List Shape) (label : Label) (n : ℕ) (mode : Mode) (fs : List Frame) (rs : List Rose) (at : ℕ) → ids ≡ places base rs → shapes ≡ written base rs → Progress ts level start (built label mode fs ds at (gather n rs none)) → Built ts level start base ds ids shapes label n mode fs at
make ts level start base ds ids shapes label n mode fs rs at i s p = each (gather n rs none) refl p
  where
    each : (g : Gathered) → gather n rs none ≡ g → Progress ts level start (built label mode fs ds at g) → Built ts level start base ds ids shapes label n mode fs at
    each Short e q = absurd q.sound
    each (Got parts rest) e q =
        let w = gather_written base n rs rest none parts e in
        record {
          front = places base rest;
          kids = roots (written base rest) parts;
          ids_are = i ∙ sym (append-nil (places base rs)) ∙ gather_places base n rs rest none parts e;
          count = roots_length (written base rest) parts ∙ gather_size n rs rest none parts e ∙ omega arith;
          next = λ frames ids' shapes' fe ie se. record {
            fs = fs;
            rs = node label parts ∷ rest;
            frames_are = fe;
            ids_are = ie ∙ ap (λ x. places base rest ++ id_of (length x) ∷ []) (s ∙ w);
            shapes_are = se ∙ ap (λ x. x ++ shape label (roots (written base rest) parts) ∷ []) (s ∙ w);
            progress = q;
          };
        }

build_progress : (ts : List Spanned) (level : Level) (start : ℕ) (fs : List Frame) (rs : List Rose) (ds : List ℕ) (at : ℕ) (label : Label) (n : ℕ) (mode : Mode) (taken : Bool) → Progress ts level start (apply (Build label n mode taken) fs rs ds at) → Progress ts level start (built label mode (below fs) ds (if taken then at + 1 else at) (gather n rs none)) × (1 ≤ length (laid fs))
build_progress ts level start [] rs ds at label n mode taken p = absurd p.sound
build_progress ts level start (f' ∷ fs) rs ds at label n mode taken p = (p, omega (arith, length-append (laid fs) (f' ∷ [])))

module _ {ts : List Spanned} {level : Level} {start : ℕ} {base : List Shape} {ds : List ℕ} {frames : List Frame} {mode : Mode} {at : ℕ} {ids : List NodeId} {shapes : List Shape} (h : Reading ts level start base ds frames mode at ids shapes) where
  pub reading_suffix : (label : Label) (mode' : Mode) → Chosen ts frames mode at (Suffix label mode') → Built ts level start base ds ids shapes label 1 mode' h.fs (at + 1)
  reading_suffix label mode' c = make ts level start base ds ids shapes label 1 mode' h.fs h.rs (at + 1) h.ids_are h.shapes_are (progress_step ts level start h.fs h.rs ds mode at (Suffix label mode') (chosen_is c h.fs h.frames_are) h.progress)

  pub reading_build : (label : Label) (n : ℕ) (mode' : Mode) (taken : Bool) → Chosen ts frames mode at (Build label n mode' taken) → Built ts level start base ds ids shapes label n mode' (below h.fs) (if taken then at + 1 else at) × (1 ≤ length frames)
  reading_build label n mode' taken c =
      let p = build_progress ts level start h.fs h.rs ds at label n mode' taken (progress_step ts level start h.fs h.rs ds mode at (Build label n mode' taken) (chosen_is c h.fs h.frames_are) h.progress) in
      (make ts level start base ds ids shapes label n mode' (below h.fs) h.rs (if taken then at + 1 else at) h.ids_are h.shapes_are p.0, omega (arith, p.1, ap length h.frames_are))

  pub reading_popped : (k : ℕ) (frames' : List Frame) → k ≡ length frames → frames' ≡ take (k - 1) frames → frames' ≡ laid (below h.fs)
  reading_popped k frames' ke fe = popped h.fs frames frames' k h.frames_are ke fe

  -- each operand has a node of its own
  pub reading_fit : length ids ≤ length shapes
  reading_fit = omega (arith, ap length h.ids_are, places_length base h.rs, ap length h.shapes_are, operands_fit base h.rs)

  pub reading_ended : Chosen ts frames mode at Ended → (0 < length ids) × ((place : NodeId) → slice_get ids 0 ≡ Some place → IsTree ts level start ds base shapes at place)
  reading_ended c =
      let p = progress_step ts level start h.fs h.rs ds mode at Ended (chosen_is c h.fs h.frames_are) h.progress in
      let g = p.sound in
      let s = g.0 in
      let ids_are : ids ≡ id_of (root base s) ∷ [] = h.ids_are ∙ ap (places base) g.1 in (
        omega (arith, ap length ids_are),
        λ place e. record {
          tree = s;
          whole = record { stands = g.2; end = g.3 };
          written_is = h.shapes_are ∙ ap (written base) g.1;
          place =
              let q : slice_get (id_of (root base s) ∷ []) 0 ≡ Some place = sym (ap (λ x. slice_get x 0) ids_are) ∙ e in
              cc;
          only = λ other gs j w. one_tree h.rs ds at other gs j s g.1 (p.complete other gs j w);
        },
      )
    where
      one_tree : (rs : List Rose) (xs : List ℕ) (k : ℕ) (other : Rose) (gs : List ℕ) (j : ℕ) (s : Rose) → rs ≡ s ∷ [] → Leads ts (Ends rs xs k) (Ends (other ∷ []) gs j) → (other ≡ s) × (gs ≡ xs) × (j ≡ k)
      one_tree rs xs k other gs j s e here = (cc, refl, refl)

  pub reading_wrong : Chosen ts frames mode at Wrong → (a : Rose) (es : List ℕ) (j : ℕ) → Whole ts level a es start j → ⊥
  reading_wrong c a es j w = none_leads (p.complete a es j w)
    where
      p : Progress ts level start Fails
      p = progress_step ts level start h.fs h.rs ds mode at Wrong (chosen_is c h.fs h.frames_are) h.progress

      none_leads : Leads ts Fails (Ends (a ∷ []) es j) → ⊥
      none_leads q = elim q [ ]

-- the beginning
pub reading_begun : (ts : List Spanned) (level : Level) (start : ℕ) (base : List Shape) (frames : List Frame) (ids : List NodeId) → frames ≡ f.Start level ∷ [] → ids ≡ [] → Reading ts level start base [] frames mo.Operand start ids base
reading_begun ts level start base frames ids fe ie = record {
  fs = f.Start level ∷ [];
  rs = [];
  frames_are = fe;
  ids_are = ie;
  shapes_are = refl;
  progress = record { sound = bottom; complete = λ a es j w. whole_reads ts w.stands w.end };
}

-- a parser that waits needs statements where it waits
pub waiting_needs : {ts : List Spanned} {level : Level} {start : ℕ} {base : List Shape} {ds : List ℕ} {frames : List Frame} {at : ℕ} {ids : List NodeId} {shapes : List Shape} → Waiting ts level start base ds frames at ids shapes → ((body : Roses) (j : ℕ) → Statements ts body at j → RoleAt ts j r.CloseBrace → ⊥) → (a : Rose) (es : List ℕ) (j : ℕ) → Whole ts level a es start j → ⊥
waiting_needs {ts = ts} w no_body a es j h = each no_body (w.progress.complete a es j h)
  where
    each : {fs : List Frame} {rs q : List Rose} {xs ys : List ℕ} {at k : ℕ} → ((body : Roses) (j : ℕ) → Statements ts body at j → RoleAt ts j r.CloseBrace → ⊥) → Leads ts (Waits fs rs xs at) (Ends q ys k) → ⊥
    each no_body (answered st cb l) = no_body _ _ st cb

-- behind statements
pub waits_step : (ts : List Spanned) (body : Roses) (next : ℕ) {fs : List Frame} {rs : List Rose} {ds es : List ℕ} {at : ℕ} (q : List Rose) (j : ℕ) → AreTheStatements ts body at next → Leads ts (Waits fs rs ds at) (Ends q es j) → Leads ts (Going fs (pushed body rs) ds (mo.Block (size body)) (next + 1)) (Ends q es j)
waits_step ts body next {fs = fs} {rs = rs} {ds = ds} {es = es} q j a (answered {body = body'} {j = next'} st cb l) =
    let o = a.only body' next' st cb in
    subst (λ x. Leads ts (Going fs (pushed x rs) ds (mo.Block (size x)) (next + 1)) (Ends q es j)) o.0
    (subst (λ x. Leads ts (Going fs (pushed body' rs) ds (mo.Block (size body')) (x + 1)) (Ends q es j)) o.1 l)

pub reading_resumed : {ts : List Spanned} {level : Level} {start : ℕ} {base : List Shape} {ds : List ℕ} {frames : List Frame} {at : ℕ} {ids : List NodeId} {shapes : List Shape} → Waiting ts level start base ds frames at ids shapes → (body : Roses) (next : ℕ) (statements ids' : List NodeId) (count : ℕ) → AreTheStatements ts body at next → statements ≡ roots shapes body → count ≡ length statements → ids' ≡ ids ++ statements → Reading ts level start base ds frames (mo.Block count) (next + 1) ids' (write_all shapes body)
reading_resumed {ts = ts} {level = level} {start = start} {base = base} {ds = ds} {shapes = shapes} w body next statements ids' count a se ce ie =
    let n : count ≡ size body = ce ∙ ap length se ∙ roots_length shapes body in
    let p : Progress ts level start (Going w.fs (pushed body w.rs) ds (mo.Block (size body)) (next + 1)) = record {
      sound = blocked w.progress.sound a.stand a.brace refl refl refl;
      complete = λ s es j x. waits_step ts body next (s ∷ []) j a (w.progress.complete s es j x);
    } in
    record {
      fs = w.fs;
      rs = pushed body w.rs;
      frames_are = w.frames_are;
      ids_are = ie ∙ ap (λ x. x ++ statements) w.ids_are ∙ ap (λ x. places base w.rs ++ x) (se ∙ ap (λ x. roots x body) w.shapes_are) ∙ sym (pushed_places base body w.rs);
      shapes_are = ap (λ x. write_all x body) w.shapes_are ∙ sym (pushed_written base body w.rs);
      progress = subst (λ x. Progress ts level start (Going w.fs (pushed body w.rs) ds (mo.Block x) (next + 1))) (sym n) p;
    }
