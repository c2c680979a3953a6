-- The law of the stack: what the frames below give hangs only on what is handed to them, whatever tasks do.
use Rattle.mb_frames.proofs.Agreeing.{entry-agrees}
use Rattle.mb_model.specs.Trace.Entries.{with_entry}
use Rattle.std.proofs.Common.{ap}
use Rattle.std.proofs.Common.{suc, zero}
use Rattle.std.proofs.Common.{◌++◌, List, None, Option, [], false, refl, slice_index_or, sym, true, ℕ, ◌∙◌, ◌∷◌, ◌≡◌}
use Rattle.std.proofs.lemmas.List.Elements.{All-head, All-tail}
use Rattle.std.specs.Prelude.{All}
use Rattle.mb_base.specs.declared.value.Side.{Side}
use Rattle.mb_frames.proofs.Agreeing.{Agrees, array-agrees, call-agrees, collect-agrees, expr-agrees, grown-agree, membrane-agrees, proxy-agrees, reflect-agrees, stmt-agrees, task-agrees}
use Rattle.mb_frames.specs.Held.{AreIn}
use Rattle.mb_frames.specs.Holding.{FrameIn, StackIn, frame_held}
use Rattle.mb_frames.specs.Resolved.{done_in, task_in}
use Rattle.mb_frames.specs.Rest.Parts.{with_answer}
use Rattle.mb_frames.specs.Standing.{Across, ByRows, Here, Logged, Passage, RestBy, Tasks, above, done_by, forms_at, frame_gives, frame_row, goes_on, hands, left_by, move_of, moves, row_of, stack_gives, under_way}
use Rattle.mb_frames.specs.Stepping.{Grew, Stepped, Stopped, Written}
use Rattle.mb_model.proofs.Engine.{given-row, means-charged_row, under-append, under-push}
use Rattle.mb_model.specs.Engine.{Gives, Res, Spent, and_then, charged_row, exec, meaning, under}
use Rattle.mb_model.specs.Meaning.{Ends, finished}
use Rattle.mb_model.specs.Task.{Outcome}
use Rattle.mb_model.specs.Writing.{Does}
use Rattle.mb_world.proofs.Images.{program-grows}
use Rattle.mb_world.specs.Data.{Data, program_of}
use Rattle.mb_world.specs.Form.{Form}
use Rattle.mb_world.specs.Graph.{Graph, Item, Program}
use Rattle.mb_world.specs.Ids.{HasItsIds, Maybe, ScriptIn}
use Rattle.mb_world.specs.Image.{Image, Names, names_of, program_in}
use Rattle.mb_frames.specs.declared.frame.Frame.{Frame}
use Rattle.mb_frames.specs.declared.frame.Frame.TheVariants as x
use Rattle.mb_frames.specs.declared.frame.Move.{Move}
use Rattle.mb_frames.specs.declared.frame.Move.TheVariants as move
use Rattle.mb_frames.specs.declared.machine.Waiting.{Waiting}
use Rattle.mb_frames.specs.declared.machine.Machine.{Machine}
use Rattle.mb_frames.specs.declared.task.Outcome.{Outcome as FrameOutcome}
use Rattle.mb_model.specs.Meaning.{row}
use Rattle.mb_model.specs.Task as model

-- ---- a frame stands for the same in a world that grew

maybe-at : {A : Type 0} (P : A → Type 0) (xs : List (Option A)) → All (Maybe P) xs → (i : ℕ)
    → Maybe P (slice_index_or xs i None)
maybe-at P [] h i = tt
maybe-at P (y ∷ ys) h zero = All-head (Maybe P) y ys h
maybe-at P (y ∷ ys) h (suc i) = maybe-at P ys (All-tail (Maybe P) y ys h) i

script-in : (d : Data) → HasItsIds d → (side : Side) → Maybe (ScriptIn d) (program_of d side)
script-in d h side = maybe-at (ScriptIn d) d.programs h.programs_in side.0

pub forms-grow : (d d' : Data) → HasItsIds d → Grew d d' → (side : Side) → forms_at d' side ≡ forms_at d side
forms-grow d d' h g side =
    ap (λ ps. (program_in d'.texts (slice_index_or ps side.0 None)).forms) g.programs
    ∙ ap (λ (p : Program). p.forms) (program-grows d d' g.grows (program_of d side) (script-in d h side))

module _ (w : Tasks) (d : Data) (n n' : Names) (g : Agrees d n n') where
  frame-agrees : (fs : List Form) (s : ℕ) (y : Frame) → AreIn d (frame_held y) → (o : Outcome) (k : Graph) (f : ℕ)
      → frame_gives w n' fs s y o k f ≡ frame_gives w n fs s y o k f
  frame-agrees fs s (x.Begin y) h o k f = ap (λ t. w.task t k f) (task-agrees d n n' g s y h)
  frame-agrees fs s (x.Begun y) h o k f =
      ap (λ t. exec w false (charged_row row t k) f) (task-agrees d n n' g s y h)
  frame-agrees fs s (x.Anew y) h o k f = ap (λ t. w.anew t k f) (task-agrees d n n' g s y h)
  frame-agrees fs s (x.Expr y) h o k f =
      ap (λ (p : model.Answer → Does model.Answer). exec w true (with_answer o p finished k) f)
      (λ i a. expr-agrees d n n' g s fs y h a i)
  frame-agrees fs s (x.Stmt y) h o k f =
      ap (λ (p : Does model.Answer). exec w true (p finished k) f) (stmt-agrees d n n' g s fs y h o)
  frame-agrees fs s (x.Call y) h o k f =
      ap (λ (p : Does model.Answer). exec w true (p finished k) f) (call-agrees d n n' g s fs y h o)
  frame-agrees fs s (x.Reflect y) h o k f =
      ap (λ (p : model.Answer → Does model.Answer). exec w true (with_answer o p finished k) f)
      (λ i a. reflect-agrees d n n' g s y h a i)
  frame-agrees fs s (x.Array y) h o k f =
      ap (λ (p : model.Answer → Does model.Answer). exec w true (with_answer o p finished k) f)
      (λ i a. array-agrees d n n' g s y h a i)
  frame-agrees fs s (x.Proxy y) h o k f =
      ap (λ (p : model.Answer → Does model.Answer). exec w true (with_answer o p finished k) f)
      (λ i a. proxy-agrees d n n' g s y h a i)
  frame-agrees fs s (x.Collect y) h o k f =
      ap (λ (p : model.Answer → Does model.Answer). exec w true (with_answer o p finished k) f)
      (λ i a. collect-agrees d n n' g s y h a i)
  frame-agrees fs s (x.Membrane y) h o k f =
      ap (λ (p : Does model.Answer). exec w true (p finished k) f) (membrane-agrees d n n' g s y h o)
  frame-agrees fs s (x.Entry y) h o k f = ap (λ q. Gives o (with_entry q k) f) (entry-agrees d n n' g s y h o)

pub hands-grow : (w : Tasks) (d d' : Data) → HasItsIds d → Grew d d' → (y : Waiting) → FrameIn d y.frame
    → (o : Outcome) (k : Graph) (f : ℕ) → hands w d' y o k f ≡ hands w d y o k f
hands-grow w d d' i g y h o k f =
    ap (λ fs. frame_gives w (names_of d') fs y.home.0 y.frame o k f) (forms-grow d d' i g y.home)
    ∙ frame-agrees w d (names_of d) (names_of d') (grown-agree d d' g.grows) (forms_at d y.home) y.home.0 y.frame h o k f

-- ---- stacks

and_then-same : {O S : Type 0} (r : Res O S) (k k' : O → S → ℕ → Res O S)
    → ((o : O) (s : S) (f : ℕ) → k o s f ≡ k' o s f) → and_then r k ≡ and_then r k'
and_then-same (Gives o s f) k k' e = e o s f
and_then-same (Spent s f) k k' e = refl

pub under-grows : (w : Tasks) (d d' : Data) → HasItsIds d → Grew d d' → (below : List Waiting) → StackIn d below
    → (r : Ends) → under (hands w d') below r ≡ under (hands w d) below r
under-grows w d d' i g [] h r = refl
under-grows w d d' i g (y ∷ ys) h r =
    and_then-same (under (hands w d') ys r) (hands w d' y) (hands w d y) (hands-grow w d d' i g y h.0)
    ∙ ap (λ q. and_then q (hands w d y)) (under-grows w d d' i g ys h.1 r)

pub under-spent : (w : Tasks) (d : Data) (ys : List Waiting) (k : Graph) (f : ℕ)
    → under (hands w d) ys (Spent k f) ≡ Spent k f
under-spent w d [] k f = refl
under-spent w d (y ∷ ys) k f = ap (λ q. and_then q (hands w d y)) (under-spent w d ys k f)

-- where tasks do their rows, a frame gives what its row does
frame-row : (w : Tasks) → ByRows w → (n : Names) (fs : List Form) (s : ℕ) (y : Frame) (o : Outcome) (k : Graph) (f : ℕ)
    → frame_gives w n fs s y o k f ≡ exec w (under_way y) (frame_row n fs s y o k) f
frame-row w r n fs s (x.Begin y) o k f = r.task (task_in n s y) k f
frame-row w r n fs s (x.Begun y) o k f = refl
frame-row w r n fs s (x.Anew y) o k f = r.anew (task_in n s y) k f
frame-row w r n fs s (x.Expr y) o k f = refl
frame-row w r n fs s (x.Stmt y) o k f = refl
frame-row w r n fs s (x.Call y) o k f = refl
frame-row w r n fs s (x.Reflect y) o k f = refl
frame-row w r n fs s (x.Array y) o k f = refl
frame-row w r n fs s (x.Proxy y) o k f = refl
frame-row w r n fs s (x.Collect y) o k f = refl
frame-row w r n fs s (x.Membrane y) o k f = refl
frame-row w r n fs s (x.Entry y) o k f = refl

pub hands-row : (w : Tasks) → ByRows w → (d : Data) (y : Waiting) (done : Option FrameOutcome) (k : Graph) (f : ℕ)
    → hands w d y (done_in (names_of d) done) k f ≡ exec w (under_way y.frame) (row_of d y done k) f
hands-row w r d y done k f =
    frame-row w r (names_of d) (forms_at d y.home) y.home.0 y.frame (done_in (names_of d) done) k f

-- the meaning does rows
pub rows-mean : ByRows (meaning row)
rows-mean = record { task = means-charged_row row; anew = given-row row }

-- a move stands on the stack
above-moves : (w : Tasks) (d : Data) (home : Side) (m : Move) (k : Graph) (f : ℕ)
    → under (hands w d) (above home m) (Gives (done_in (names_of d) (done_by m)) k f) ≡ moves w d home m k f
above-moves w d home (move.Done o) k f = refl
above-moves w d home (move.Wait y t) k f = refl
above-moves w d home (move.Next t) k f = refl
above-moves w d home (move.Anew t) k f = refl
above-moves w d home (move.Entered y t) k f = refl

pub left-goes_on : (w : Tasks) (d : Data) (m : Passage) (k : Graph) (f : ℕ)
    → under (hands w d) (left_by m) (Gives (done_in (names_of d) (done_by (move_of m))) k f) ≡ goes_on w d m k f
left-goes_on w d (Here home m) k f = above-moves w d home m k f
left-goes_on w d (Across y home m) k f = ap (λ q. and_then q (hands w d y)) (above-moves w d home m k f)

-- ---- steps

-- a step leaves what any frames below it give, whatever tasks do, if the top frame gives what its row does
pub part-stays : (w : Tasks) (m m' : Machine) (d d' : Data) (f f' : ℕ) (l l' : Written)
    (q : Stepped m m' d d' f f' l l') (log : List Item) → Logged d log → HasItsIds d
    → ((k : Graph) → hands w d q.top (done_in (names_of d) m.done) k f
    ≡ exec w (under_way q.top.frame) (row_of d q.top m.done k) f)
    → (part : List Waiting) → StackIn d part
    → stack_gives w d' (part ++ left_by q.passage) m'.done (Image d' (log ++ q.step.added)) f'
    ≡ stack_gives w d (part ++ (q.top ∷ [])) m.done (Image d log) f
part-stays w m m' d d' f f' l l' q log e i r part h =
    let k : Graph = Image d log in
    let k' : Graph = Image d' (log ++ q.step.added) in
    let a : stack_gives w d (part ++ (q.top ∷ [])) m.done k f ≡ under (hands w d) part (goes_on w d' q.passage k' f')
    = under-push (hands w d) part q.top _ ∙ ap (under (hands w d) part) (r k ∙ q.step.same w log e) in
    ap (λ o. under (hands w d') (part ++ left_by q.passage) (Gives (done_in (names_of d') o) k' f')) q.done
    ∙ under-append (hands w d') part (left_by q.passage) _
    ∙ ap (under (hands w d') part) (left-goes_on w d' q.passage k' f')
    ∙ under-grows w d d' i q.step.grew part h _
    ∙ sym a

pub rest-stays : (w : Tasks) (m m' : Machine) (d d' : Data) (f f' : ℕ) (l l' : Written)
    (q : Stepped m m' d d' f f' l l') (log : List Item) → Logged d log → HasItsIds d
    → ((k : Graph) → hands w d q.top (done_in (names_of d) m.done) k f
    ≡ exec w (under_way q.top.frame) (row_of d q.top m.done k) f)
    → StackIn d q.below → RestBy w m' d' f' (log ++ q.step.added) ≡ RestBy w m d f log
rest-stays w m m' d d' f f' l l' q log e i r h =
    ap (λ ys. stack_gives w d' ys m'.done (Image d' (log ++ q.step.added)) f') q.is
    ∙ part-stays w m m' d d' f f' l l' q log e i r q.below h
    ∙ ap (λ ys. stack_gives w d ys m.done (Image d log) f) (sym q.was)

-- one that can't pay: the rest is spent, whatever tasks do, if the top frame gives what its row does
pub rest-stops : (w : Tasks) (m : Machine) (d d' : Data) (f f' : ℕ) (l l' : Written) (q : Stopped m d d' f f' l l')
    (log : List Item) → Logged d log
    → ((k : Graph) → hands w d q.top (done_in (names_of d) m.done) k f
    ≡ exec w (under_way q.top.frame) (row_of d q.top m.done k) f)
    → RestBy w m d f log ≡ Spent (Image d' log) f'
rest-stops w m d d' f f' l l' q log e r =
    ap (λ ys. stack_gives w d ys m.done (Image d log) f) q.was
    ∙ under-push (hands w d) q.below q.top _
    ∙ ap (under (hands w d) q.below) (r (Image d log) ∙ q.step.same w log e)
    ∙ under-spent w d q.below (Image d' log) f'

pub rest-spent : (w : Tasks) → ByRows w → (m : Machine) (d d' : Data) (f f' : ℕ) (l l' : Written)
    (q : Stopped m d d' f f' l l') (log : List Item) → Logged d log → RestBy w m d f log ≡ Spent (Image d' log) f'
rest-spent w r m d d' f f' l l' q log e =
    rest-stops w m d d' f f' l l' q log e (λ k. hands-row w r d q.top m.done k f)
