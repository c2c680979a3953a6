-- Where the code's parser is.
use Rattle.std.proofs.Common.{◌≡◌, ℕ, zero, suc, ◌+◌, ◌-◌, ◌≤◌, List, [], ◌∷◌, ◌++◌, length, take, Option, refl, sym, ap, subst, ◌∙◌, arith, append-nil, length-append}
use Rattle.mb_base.specs.declared.value.NodeId.{NodeId}
use Rattle.mb_token.specs.declared.token.Spanned.{Spanned}
use Rattle.mb_tree.specs.Roses.{Rose, Roses, node, none, Shape, shape, id_of, root, write, roots, size}
use Rattle.mb_tree.specs.machine.Operands.{pushed, written, places, Gathered, Short, Got, gather}
use Rattle.mb_tree.proofs.Stack.{popped}
use Rattle.mb_tree.proofs.Written.{operands_fit, roots_length, places_length, gather_written, gather_places, gather_size, gathers, pushed_written, pushed_places}
use Rattle.mb_grammar.specs.declared.level.Level.{Level}
use Rattle.mb_grammar.specs.Script.{Whole}
use Rattle.mb_parse_expr.specs.Pauses.{IsTree}
use Rattle.mb_parse_stmt.specs.declared.machine.Stop.{Stop}
use Rattle.mb_parse_stmt.specs.declared.machine.Holder.TheVariants as ho
use Rattle.mb_tree.specs.declared.tree.Label.{Label}
use Rattle.mb_parse_stmt.specs.declared.machine.Frame.{Frame}
use Rattle.mb_parse_stmt.specs.declared.machine.Frame.TheVariants as f
use Rattle.mb_parse_stmt.specs.declared.machine.Mode.{Mode}
use Rattle.mb_parse_stmt.specs.declared.machine.Mode.TheVariants as mo
use Rattle.mb_parse_stmt.specs.declared.machine.Move.{Move}
use Rattle.mb_parse_stmt.specs.declared.machine.Move.TheVariants.{Leaf, Enter, Swap, Build, Ask, Ended, Wrong}
use Rattle.mb_parse_stmt.specs.machine.Machine.{view_at, move_of, State, Going, Wants, Ends, Fails, built, forward, apply, move_at, Leads, here, after, read}
use Rattle.mb_tree.specs.machine.Stack.{top, laid, below}
use Rattle.mb_parse_stmt.specs.machine.Covers.{no_statement, top_list, behind_expression}
use Rattle.mb_parse_stmt.specs.machine.Progress.{Progress, Reading, Wanting}
use Rattle.mb_parse_stmt.specs.machine.Stops.{AreAll, NoneStand}
use Rattle.mb_parse_stmt.proofs.Steps.{level_reads}
use Rattle.mb_parse_stmt.proofs.Sound.{good_step}
use Rattle.mb_parse_stmt.proofs.Counts.{good_within, pushed_length}
use Rattle.mb_parse_stmt.proofs.Weights.{Lighter, lighter}

pub forward_plus : (n at : ℕ) → forward n at ≡ at + n
forward_plus zero at = omega arith
forward_plus (suc n) at = forward_plus n (at + 1) ∙ omega arith

-- steps and what they keep

ends_step : (stop : Stop) (ts : List Spanned) {fs : List Frame} {rs q : List Rose} {mode : Mode} {at j : ℕ} → Leads stop ts (Going fs rs mode at) (Ends q j) → Leads stop ts (apply (move_at stop ts fs mode at) fs rs at) (Ends q j)
ends_step stop ts (after p) = p

pub progress_step : (stop : Stop) (ts : List Spanned) (start : ℕ) (fs : List Frame) (rs : List Rose) (mode : Mode) (at : ℕ) (move : Move) → move ≡ move_at stop ts fs mode at → Progress stop ts start (Going fs rs mode at) → Progress stop ts start (apply move fs rs at)
progress_step stop ts start fs rs mode at move e p = subst (λ m. Progress stop ts start (apply m fs rs at)) (sym e) (record {
  sound = good_step stop ts start fs rs mode at p.sound;
  complete = λ parts j d h. ends_step stop ts (p.complete parts j d h);
})

-- the code's choice of a move
pub record Chosen (stop : Stop) (ts : List Spanned) (frames : List Frame) (mode : Mode) (at : ℕ) (move : Move) : Type 0 where
  pub o : Option Frame
  pub tops : (fs : List Frame) → frames ≡ laid fs → o ≡ top fs
  pub is : move ≡ move_of o mode (view_at stop ts at)

pub chosen_light : {stop : Stop} {ts : List Spanned} {frames : List Frame} {mode : Mode} {at : ℕ} {move : Move} → Chosen stop ts frames mode at move → Lighter mode move
chosen_light {stop = stop} {ts = ts} {mode = mode} {at = at} c = subst (Lighter mode) (sym c.is) (lighter c.o mode (view_at stop ts at))

chosen_is : {stop : Stop} {ts : List Spanned} {frames : List Frame} {mode : Mode} {at : ℕ} {move : Move} (c : Chosen stop ts frames mode at move) (fs : List Frame) → frames ≡ laid fs → move ≡ move_at stop ts fs mode at
chosen_is {stop = stop} {ts = ts} {mode = mode} {at = at} c fs e = c.is ∙ ap (λ o. move_of o mode (view_at stop ts at)) (c.tops fs e)

going_at : {stop : Stop} {ts : List Spanned} {start : ℕ} (fs : List Frame) (rs : List Rose) (mode : Mode) (n at at' : ℕ) → at' ≡ at + n → Progress stop ts start (Going fs rs mode (forward n at)) → Progress stop ts start (Going fs rs mode at')
going_at {stop = stop} {ts = ts} {start = start} fs rs mode n at at' e p = subst (λ x. Progress stop ts start (Going fs rs mode x)) (forward_plus n at ∙ sym e) p

going_within : {stop : Stop} {ts : List Spanned} {start : ℕ} (fs : List Frame) (rs : List Rose) (mode : Mode) (n at : ℕ) → Progress stop ts start (Going fs rs mode (forward n at)) → at + n ≤ length ts
going_within {stop = stop} {ts = ts} {start = start} fs rs mode n at p = subst (λ x. x ≤ length ts) (forward_plus n at) (good_within ts start stop fs rs mode (forward n at) p.sound)

-- a node that is made of the last operands
pub record Built (stop : Stop) (ts : List Spanned) (start : ℕ) (base : List Shape) (ids : List NodeId) (shapes : List Shape) (label : Label) (n : ℕ) (mode : Mode) (fs : List Frame) (at : ℕ) : Type 0 where
  pub front : List NodeId
  pub kids : List NodeId
  pub ids_are : ids ≡ front ++ kids
  pub count : length kids ≡ n
  pub within : at ≤ length ts
  pub next : (frames : List Frame) (ids' : List NodeId) (shapes' : List Shape) → frames ≡ laid fs → ids' ≡ front ++ id_of (length shapes) ∷ [] → shapes' ≡ shapes ++ shape label kids ∷ [] → Reading stop ts start base frames mode at ids' shapes'

pub built_enough : {stop : Stop} {ts : List Spanned} {start : ℕ} {base : List Shape} {ids : List NodeId} {shapes : List Shape} {label : Label} {n : ℕ} {mode : Mode} {fs : List Frame} {at : ℕ} → Built stop ts start base ids shapes label n mode fs at → n ≤ length ids
built_enough b = omega (arith, b.count, ap length b.ids_are, length-append b.front b.kids)

make : (stop : Stop) (ts : List Spanned) (start : ℕ) (base : List Shape) (ids : List NodeId) (shapes : List Shape) (label : Label) (n : ℕ) (mode : Mode) (fs : List Frame) (rs : List Rose) (at : ℕ) → ids ≡ places base rs → shapes ≡ written base rs → Progress stop ts start (built label mode fs at (gather n rs none)) → Built stop ts start base ids shapes label n mode fs at
make stop ts start base ids shapes label n mode fs rs at i s p = each (gather n rs none) refl p
  where
    each : (g : Gathered) → gather n rs none ≡ g → Progress stop ts start (built label mode fs at g) → Built stop ts start base ids shapes label n mode fs at
    each Short e q = absurd q.sound
    each (Got parts rest) e q =
        let w = gather_written base n rs rest none parts e in
        record {
          front = places base rest;
          kids = roots (written base rest) parts;
          ids_are = i ∙ sym (append-nil (places base rs)) ∙ gather_places base n rs rest none parts e;
          count = roots_length (written base rest) parts ∙ gather_size n rs rest none parts e ∙ omega arith;
          within = good_within ts start stop fs (node label parts ∷ rest) mode at q.sound;
          next = λ frames ids' shapes' fe ie se. record {
            fs = fs;
            rs = node label parts ∷ rest;
            frames_are = fe;
            ids_are = ie ∙ ap (λ x. places base rest ++ id_of (length x) ∷ []) (s ∙ w);
            shapes_are = se ∙ ap (λ x. x ++ shape label (roots (written base rest) parts) ∷ []) (s ∙ w);
            progress = q;
          };
        }

build_progress : (stop : Stop) (ts : List Spanned) (start : ℕ) (fs : List Frame) (rs : List Rose) (at : ℕ) (label : Label) (count : ℕ) (mode : Mode) (n : ℕ) → Progress stop ts start (apply (Build label count mode n) fs rs at) → Progress stop ts start (built label mode (below fs) (forward n at) (gather count rs none)) × (1 ≤ length (laid fs))
build_progress stop ts start [] rs at label count mode n p = absurd p.sound
build_progress stop ts start (f' ∷ fs) rs at label count mode n p = (p, omega (arith, length-append (laid fs) (f' ∷ [])))

swap_progress : (stop : Stop) (ts : List Spanned) (start : ℕ) (fs : List Frame) (rs : List Rose) (at : ℕ) (frame : Frame) (mode : Mode) (n : ℕ) → Progress stop ts start (apply (Swap frame mode n) fs rs at) → Progress stop ts start (Going (frame ∷ below fs) rs mode (forward n at)) × (1 ≤ length (laid fs))
swap_progress stop ts start [] rs at frame mode n p = absurd p.sound
swap_progress stop ts start (f' ∷ fs) rs at frame mode n p = (p, omega (arith, length-append (laid fs) (f' ∷ [])))

module _ {stop : Stop} {ts : List Spanned} {start : ℕ} {base : List Shape} {frames : List Frame} {mode : Mode} {at : ℕ} {ids : List NodeId} {shapes : List Shape} (h : Reading stop ts start base frames mode at ids shapes) where
  stepped : (move : Move) → Chosen stop ts frames mode at move → Progress stop ts start (apply move h.fs h.rs at)
  stepped move c = progress_step stop ts start h.fs h.rs mode at move (chosen_is c h.fs h.frames_are) h.progress

  pub leaf_within : (label : Label) (mode' : Mode) (n : ℕ) → Chosen stop ts frames mode at (Leaf label mode' n) → at + n ≤ length ts
  leaf_within label mode' n c = going_within h.fs (node label none ∷ h.rs) mode' n at (stepped (Leaf label mode' n) c)

  pub enter_within : (frame : Frame) (mode' : Mode) (n : ℕ) → Chosen stop ts frames mode at (Enter frame mode' n) → at + n ≤ length ts
  enter_within frame mode' n c = going_within (frame ∷ h.fs) h.rs mode' n at (stepped (Enter frame mode' n) c)

  swapped : (frame : Frame) (mode' : Mode) (n : ℕ) → Chosen stop ts frames mode at (Swap frame mode' n) → Progress stop ts start (Going (frame ∷ below h.fs) h.rs mode' (forward n at)) × (1 ≤ length (laid h.fs))
  swapped frame mode' n c = swap_progress stop ts start h.fs h.rs at frame mode' n (stepped (Swap frame mode' n) c)

  pub swap_within : (frame : Frame) (mode' : Mode) (n : ℕ) → Chosen stop ts frames mode at (Swap frame mode' n) → (at + n ≤ length ts) × (1 ≤ length frames)
  swap_within frame mode' n c =
      let p = swapped frame mode' n c in
      (going_within (frame ∷ below h.fs) h.rs mode' n at p.0, omega (arith, p.1, ap length h.frames_are))

  pub reading_leaf : (label : Label) (mode' : Mode) (n : ℕ) → Chosen stop ts frames mode at (Leaf label mode' n) → (ids' : List NodeId) (shapes' : List Shape) (at' : ℕ) → ids' ≡ ids ++ id_of (length shapes) ∷ [] → shapes' ≡ shapes ++ shape label [] ∷ [] → at' ≡ at + n → Reading stop ts start base frames mode' at' ids' shapes'
  reading_leaf label mode' n c ids' shapes' at' i s e = record {
    fs = h.fs;
    rs = node label none ∷ h.rs;
    frames_are = h.frames_are;
    ids_are = i ∙ ap (λ x. x ++ id_of (length shapes) ∷ []) h.ids_are ∙ ap (λ x. places base h.rs ++ id_of (length x) ∷ []) h.shapes_are;
    shapes_are = s ∙ ap (λ x. x ++ shape label [] ∷ []) h.shapes_are;
    progress = going_at h.fs (node label none ∷ h.rs) mode' n at at' e (stepped (Leaf label mode' n) c);
  }

  pub reading_enter : (frame : Frame) (mode' : Mode) (n : ℕ) → Chosen stop ts frames mode at (Enter frame mode' n) → (frames' : List Frame) (at' : ℕ) → frames' ≡ frames ++ frame ∷ [] → at' ≡ at + n → Reading stop ts start base frames' mode' at' ids shapes
  reading_enter frame mode' n c frames' at' fe e = record {
    fs = frame ∷ h.fs;
    rs = h.rs;
    frames_are = fe ∙ ap (λ x. x ++ frame ∷ []) h.frames_are;
    ids_are = h.ids_are;
    shapes_are = h.shapes_are;
    progress = going_at (frame ∷ h.fs) h.rs mode' n at at' e (stepped (Enter frame mode' n) c);
  }

  pub reading_swap : (frame : Frame) (mode' : Mode) (n : ℕ) → Chosen stop ts frames mode at (Swap frame mode' n) → (k : ℕ) (frames' frames'' : List Frame) (at' : ℕ) → k ≡ length frames → frames' ≡ take (k - 1) frames → frames'' ≡ frames' ++ frame ∷ [] → at' ≡ at + n → Reading stop ts start base frames'' mode' at' ids shapes
  reading_swap frame mode' n c k frames' frames'' at' ke fe ge e = record {
    fs = frame ∷ below h.fs;
    rs = h.rs;
    frames_are = ge ∙ ap (λ x. x ++ frame ∷ []) (popped h.fs frames frames' k h.frames_are ke fe);
    ids_are = h.ids_are;
    shapes_are = h.shapes_are;
    progress = going_at (frame ∷ below h.fs) h.rs mode' n at at' e (swapped frame mode' n c).0;
  }

  pub reading_build : (label : Label) (count : ℕ) (mode' : Mode) (n : ℕ) → Chosen stop ts frames mode at (Build label count mode' n) → (at' : ℕ) → at' ≡ at + n → Built stop ts start base ids shapes label count mode' (below h.fs) at' × (1 ≤ length frames)
  reading_build label count mode' n c at' e =
      let p = build_progress stop ts start h.fs h.rs at label count mode' n (stepped (Build label count mode' n) c) in
      let q : Progress stop ts start (built label mode' (below h.fs) at' (gather count h.rs none)) = subst (λ x. Progress stop ts start (built label mode' (below h.fs) x (gather count h.rs none))) (forward_plus n at ∙ sym e) p.0 in
      (make stop ts start base ids shapes label count mode' (below h.fs) h.rs at' h.ids_are h.shapes_are q, omega (arith, p.1, ap length h.frames_are))

  pub reading_popped : (k : ℕ) (frames' : List Frame) → k ≡ length frames → frames' ≡ take (k - 1) frames → frames' ≡ laid (below h.fs)
  reading_popped k frames' ke fe = popped h.fs frames frames' k h.frames_are ke fe

  pub reading_fit : length ids ≤ length shapes
  reading_fit = omega (arith, ap length h.ids_are, places_length base h.rs, ap length h.shapes_are, operands_fit base h.rs)

  pub wanting_ask : (level : Level) → Chosen stop ts frames mode at (Ask level) → Wanting stop ts start base level frames at ids shapes
  wanting_ask level c = record {
    fs = h.fs;
    rs = h.rs;
    frames_are = h.frames_are;
    ids_are = h.ids_are;
    shapes_are = h.shapes_are;
    progress = stepped (Ask level) c;
  }

  pub none_wrong : Chosen stop ts frames mode at Wrong → NoneStand stop ts start
  none_wrong c parts k d s = none_leads ((stepped Wrong c).complete parts k d s)
    where
      none_leads : Leads stop ts Fails (Ends (pushed parts []) k) → ⊥
      none_leads q = elim q [ ]

-- operands that are all of a level's

pub pushed_same : (a b : Roses) → pushed a [] ≡ pushed b [] → a ≡ b
pushed_same a b e =
    let n : size a ≡ size b = omega (arith, pushed_length a [], pushed_length b [], ap length e) in
    let p : Got a [] ≡ Got b [] = sym (gathers a 0 (size a) [] (omega arith)) ∙ ap (λ x. gather (size a) x none) e ∙ gathers b 0 (size a) [] (omega (arith, n)) in
    cc

ends_same : (stop : Stop) (ts : List Spanned) (rs qs : List Rose) (at k : ℕ) → Leads stop ts (Ends rs at) (Ends qs k) → (qs ≡ rs) × (k ≡ at)
ends_same stop ts rs qs at k here = (refl, refl)

module _ {stop : Stop} {ts : List Spanned} {start : ℕ} {base : List Shape} {frames : List Frame} {mode : Mode} {at : ℕ} {ids : List NodeId} {shapes : List Shape} (h : Reading stop ts start base frames mode at ids shapes) where
  pub all_ended : Chosen stop ts frames mode at Ended → AreAll stop ts start base at ids shapes
  all_ended c =
      let p : Progress stop ts start (Ends h.rs at) = progress_step stop ts start h.fs h.rs mode at Ended (chosen_is c h.fs h.frames_are) h.progress in
      let g = p.sound in
      record {
        parts = g.0;
        within = good_within ts start stop h.fs h.rs mode at h.progress.sound;
        stand = g.2;
        stops = g.3;
        ids_are = h.ids_are ∙ ap (places base) g.1 ∙ pushed_places base g.0 [];
        shapes_are = h.shapes_are ∙ ap (written base) g.1 ∙ pushed_written base g.0 [];
        only = λ other k d s.
            let e = ends_same stop ts h.rs (pushed other []) at k (p.complete other k d s) in
            (pushed_same other g.0 (e.0 ∙ g.1), e.1);
      }

-- the beginning
pub reading_begun : (stop : Stop) (ts : List Spanned) (start : ℕ) (base : List Shape) (frames : List Frame) (ids : List NodeId) → start ≤ length ts → frames ≡ f.Statements ho.Top 0 ∷ [] → ids ≡ [] → Reading stop ts start base frames mo.Statement start ids base
reading_begun stop ts start base frames ids w fe ie = record {
  fs = f.Statements ho.Top 0 ∷ [];
  rs = [];
  frames_are = fe;
  ids_are = ie;
  shapes_are = refl;
  progress = record { sound = top_list w no_statement; complete = λ parts k d s. level_reads stop ts d s };
}

-- an expression that stands where one is wanted
pub record Stood (stop : Stop) (ts : List Spanned) (level : Level) (fs : List Frame) (rs : List Rose) (at : ℕ) (b : State) : Type 0 where
  pub a : Rose
  pub es : List ℕ
  pub j : ℕ
  pub whole : Whole ts level a es at j
  pub leads : Leads stop ts (Going fs (a ∷ rs) mo.Behind j) b

pub stood : {stop : Stop} {ts : List Spanned} {level : Level} {fs : List Frame} {rs qs : List Rose} {at k : ℕ} → Leads stop ts (Wants level fs rs at) (Ends qs k) → Stood stop ts level fs rs at (Ends qs k)
stood (read {a = a} {es = es} {j = j} w l) = record { a = a; es = es; j = j; whole = w; leads = l }

-- behind an expression
pub reading_read : {stop : Stop} {ts : List Spanned} {start : ℕ} {base : List Shape} {level : Level} {frames : List Frame} {at : ℕ} {ids : List NodeId} {out now : List Shape} {ds : List ℕ} {next : ℕ} {place : NodeId} → Wanting stop ts start base level frames at ids out → IsTree ts level at ds out now next place → (ids' : List NodeId) → ids' ≡ ids ++ place ∷ [] → Reading stop ts start base frames mo.Behind next ids' now
reading_read {stop = stop} {ts = ts} {start = start} {base = base} {level = level} {at = at} {ids = ids} {out = out} {next = next} {place = place} h t ids' ie = record {
  fs = h.fs;
  rs = t.tree ∷ h.rs;
  frames_are = h.frames_are;
  ids_are = ie ∙ ap (λ x. x ++ place ∷ []) h.ids_are ∙ ap (λ x. places base h.rs ++ x ∷ []) (t.place ∙ ap (λ x. id_of (root x t.tree)) h.shapes_are);
  shapes_are = t.written_is ∙ ap (λ x. write x t.tree) h.shapes_are;
  progress = record {
    sound = behind_expression h.progress.sound t.whole;
    complete = λ parts k d s.
        let q = stood (h.progress.complete parts k d s) in
        let o = t.only q.a q.es q.j q.whole in
        subst (λ x. Leads stop ts (Going h.fs (x ∷ h.rs) mo.Behind next) (Ends (pushed parts []) k)) o.0
        (subst (λ x. Leads stop ts (Going h.fs (q.a ∷ h.rs) mo.Behind x) (Ends (pushed parts []) k)) o.2 q.leads);
  };
}

-- where no expression stands
pub none_stand : {stop : Stop} {ts : List Spanned} {start : ℕ} {base : List Shape} {level : Level} {frames : List Frame} {at : ℕ} {ids : List NodeId} {out : List Shape} → Wanting stop ts start base level frames at ids out → ((a : Rose) (es : List ℕ) (j : ℕ) → Whole ts level a es at j → ⊥) → NoneStand stop ts start
none_stand h n parts k d s =
    let q = stood (h.progress.complete parts k d s) in
    n q.a q.es q.j q.whole
