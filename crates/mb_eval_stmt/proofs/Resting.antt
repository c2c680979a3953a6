-- The rest of a statement that waits, from the answer of its part or from another outcome.
use Rattle.std.proofs.Common.{◌≡◌, ◌∙◌, List, Ok, Option, Result, ap, refl, sym, true, true≢false, ℕ}
use Rattle.mb_base.specs.declared.value.NodeId.{NodeId}
use Rattle.mb_base.specs.declared.value.Side.{Side}
use Rattle.mb_base.specs.declared.value.Value.{Value}
use Rattle.mb_frames.proofs.Steps.{Step-by, Step-sure}
use Rattle.mb_frames.specs.Resolved.{outcome_in}
use Rattle.mb_frames.specs.Rest.Statements.{stmt_rest}
use Rattle.mb_frames.specs.Standing.{forms_at}
use Rattle.mb_frames.specs.Stepping.{Step, Written}
use Rattle.mb_frames.specs.declared.frame.Move.{Move}
use Rattle.mb_frames.specs.declared.frame.Move.TheVariants as move
use Rattle.mb_frames.specs.declared.machine.Halt.{Halt}
use Rattle.mb_frames.specs.declared.statements.StmtFrame.{StmtFrame}
use Rattle.mb_frames.specs.declared.statements.StmtFrame.TheVariants as y
use Rattle.mb_frames.specs.declared.task.Context.{Context}
use Rattle.mb_frames.specs.declared.task.Outcome.{Outcome}
use Rattle.mb_frames.specs.declared.task.Outcome.TheVariants as o
use Rattle.mb_model.specs.Meaning.{finished}
use Rattle.mb_model.specs.Task as model
use Rattle.mb_model.specs.Writing.{Does, pass, value_in}
use Rattle.mb_world.specs.Data.{Data}
use Rattle.mb_world.specs.Form.{Form}
use Rattle.mb_world.specs.Graph.{Graph}
use Rattle.mb_world.specs.Image.{Image, Names, Resolve, names_of}
use Rattle.mb_world.specs.Value.{Val}
use Rattle.mb_eval_stmt.proofs.TryRows.{Sure-pass}
use Rattle.mb_eval_stmt.specs.machine.Plain.{OutcomeIn, is_answered}

-- an answer is taken by its value
pub Step-rest : (home : Side) (r : Result Move Halt) (d d' : Data) (f f' : ℕ) (l l' : Written) (frame : StmtFrame)
    (answer : model.Answer) (v : Val) (q : Val → Does model.Answer)
    → ((g : Graph) → stmt_rest (names_of d) (forms_at d home) home.0 frame (model.Normal answer) finished g ≡ q
    (value_in answer) finished g)
    → value_in answer ≡ v → Step home true r d d' f f' l l' (q v finished)
    → Step home true r d d' f f' l l' (stmt_rest (names_of d) (forms_at d home) home.0 frame (model.Normal answer)
    finished)
Step-rest home r d d' f f' l l' frame answer v q h e s =
    Step-by home true r d d' f f' l l' (stmt_rest (names_of d) (forms_at d home) home.0 frame (model.Normal answer)
    finished)
    (q v finished)
    (λ log. h (Image d log) ∙ ap (λ (x : Val). q x finished (Image d log)) e) s

rest-throws : (n : Names) (fs : List Form) (s : ℕ) (frame : StmtFrame) (v : Val) (g : Graph) → is_answered frame ≡ true
    → stmt_rest n fs s frame (model.Throw v) finished g ≡ pass (model.Throw v) finished g
rest-throws n fs s (y.Each at node next) v g h = refl
rest-throws n fs s (y.Declared at node name next) v g h = refl
rest-throws n fs s y.Expression v g h = refl
rest-throws n fs s (y.If at main other) v g h = refl
rest-throws n fs s (y.WhileTest at node body) v g h = refl
rest-throws n fs s (y.DoTest at node) v g h = refl
rest-throws n fs s (y.ForFirst at node) v g h = refl
rest-throws n fs s (y.ForTest at node) v g h = refl
rest-throws n fs s (y.ForLast at node) v g h = refl
rest-throws n fs s y.Return v g h = refl
rest-throws n fs s y.Throw v g h = refl
rest-throws n fs s (y.WhileBody at node) v g h = absurd (true≢false (sym h))
rest-throws n fs s (y.DoBody at node test) v g h = absurd (true≢false (sym h))
rest-throws n fs s (y.ForBody at node) v g h = absurd (true≢false (sym h))
rest-throws n fs s (y.Try at node) v g h = absurd (true≢false (sym h))
rest-throws n fs s (y.Handler at ending) v g h = absurd (true≢false (sym h))
rest-throws n fs s (y.Ending outcome) v g h = absurd (true≢false (sym h))

rest-returns : (n : Names) (fs : List Form) (s : ℕ) (frame : StmtFrame) (v : Val) (g : Graph) → is_answered frame ≡ true
    → stmt_rest n fs s frame (model.Return v) finished g ≡ pass (model.Return v) finished g
rest-returns n fs s (y.Each at node next) v g h = refl
rest-returns n fs s (y.Declared at node name next) v g h = refl
rest-returns n fs s y.Expression v g h = refl
rest-returns n fs s (y.If at main other) v g h = refl
rest-returns n fs s (y.WhileTest at node body) v g h = refl
rest-returns n fs s (y.DoTest at node) v g h = refl
rest-returns n fs s (y.ForFirst at node) v g h = refl
rest-returns n fs s (y.ForTest at node) v g h = refl
rest-returns n fs s (y.ForLast at node) v g h = refl
rest-returns n fs s y.Return v g h = refl
rest-returns n fs s y.Throw v g h = refl
rest-returns n fs s (y.WhileBody at node) v g h = absurd (true≢false (sym h))
rest-returns n fs s (y.DoBody at node test) v g h = absurd (true≢false (sym h))
rest-returns n fs s (y.ForBody at node) v g h = absurd (true≢false (sym h))
rest-returns n fs s (y.Try at node) v g h = absurd (true≢false (sym h))
rest-returns n fs s (y.Handler at ending) v g h = absurd (true≢false (sym h))
rest-returns n fs s (y.Ending outcome) v g h = absurd (true≢false (sym h))

rest-breaks : (n : Names) (fs : List Form) (s : ℕ) (frame : StmtFrame) (g : Graph) → is_answered frame ≡ true
    → stmt_rest n fs s frame model.Break finished g ≡ pass model.Break finished g
rest-breaks n fs s (y.Each at node next) g h = refl
rest-breaks n fs s (y.Declared at node name next) g h = refl
rest-breaks n fs s y.Expression g h = refl
rest-breaks n fs s (y.If at main other) g h = refl
rest-breaks n fs s (y.WhileTest at node body) g h = refl
rest-breaks n fs s (y.DoTest at node) g h = refl
rest-breaks n fs s (y.ForFirst at node) g h = refl
rest-breaks n fs s (y.ForTest at node) g h = refl
rest-breaks n fs s (y.ForLast at node) g h = refl
rest-breaks n fs s y.Return g h = refl
rest-breaks n fs s y.Throw g h = refl
rest-breaks n fs s (y.WhileBody at node) g h = absurd (true≢false (sym h))
rest-breaks n fs s (y.DoBody at node test) g h = absurd (true≢false (sym h))
rest-breaks n fs s (y.ForBody at node) g h = absurd (true≢false (sym h))
rest-breaks n fs s (y.Try at node) g h = absurd (true≢false (sym h))
rest-breaks n fs s (y.Handler at ending) g h = absurd (true≢false (sym h))
rest-breaks n fs s (y.Ending outcome) g h = absurd (true≢false (sym h))

rest-continues : (n : Names) (fs : List Form) (s : ℕ) (frame : StmtFrame) (g : Graph) → is_answered frame ≡ true
    → stmt_rest n fs s frame model.Continue finished g ≡ pass model.Continue finished g
rest-continues n fs s (y.Each at node next) g h = refl
rest-continues n fs s (y.Declared at node name next) g h = refl
rest-continues n fs s y.Expression g h = refl
rest-continues n fs s (y.If at main other) g h = refl
rest-continues n fs s (y.WhileTest at node body) g h = refl
rest-continues n fs s (y.DoTest at node) g h = refl
rest-continues n fs s (y.ForFirst at node) g h = refl
rest-continues n fs s (y.ForTest at node) g h = refl
rest-continues n fs s (y.ForLast at node) g h = refl
rest-continues n fs s y.Return g h = refl
rest-continues n fs s y.Throw g h = refl
rest-continues n fs s (y.WhileBody at node) g h = absurd (true≢false (sym h))
rest-continues n fs s (y.DoBody at node test) g h = absurd (true≢false (sym h))
rest-continues n fs s (y.ForBody at node) g h = absurd (true≢false (sym h))
rest-continues n fs s (y.Try at node) g h = absurd (true≢false (sym h))
rest-continues n fs s (y.Handler at ending) g h = absurd (true≢false (sym h))
rest-continues n fs s (y.Ending outcome) g h = absurd (true≢false (sym h))

-- another outcome is passed on
pub Step-passed : (home : Side) (d : Data) (f : ℕ) (l : Written) (frame : StmtFrame) (z : Outcome) → OutcomeIn d z
    → is_answered frame ≡ true
    → ((g : Graph) → stmt_rest (names_of d) (forms_at d home) home.0 frame (outcome_in (names_of d) z) finished g
    ≡ pass (outcome_in (names_of d) z) finished g)
    → Step home true (Ok (move.Done z)) d d f f l l
    (stmt_rest (names_of d) (forms_at d home) home.0 frame (outcome_in (names_of d) z) finished)
Step-passed home d f l frame z i a h =
    Step-by home true (Ok (move.Done z)) d d f f l l
    (stmt_rest (names_of d) (forms_at d home) home.0 frame (outcome_in (names_of d) z) finished)
    (pass (outcome_in (names_of d) z) finished) (λ log. h (Image d log))
    (Step-sure home true d (pass (outcome_in (names_of d) z) finished) (move.Done z) f l (Sure-pass home d z i))

pub Step-throws : (home : Side) (d : Data) (f : ℕ) (l : Written) (frame : StmtFrame) (x : Value) → OutcomeIn d
    (o.Throw x)
    → is_answered frame ≡ true → Step home true (Ok (move.Done (o.Throw x))) d d f f l l
    (stmt_rest (names_of d) (forms_at d home) home.0 frame (outcome_in (names_of d) (o.Throw x)) finished)
Step-throws home d f l frame x i a =
    Step-passed home d f l frame (o.Throw x) i a (λ g. rest-throws (names_of d) (forms_at d home) home.0 frame
    (Resolve (names_of d) x) g a)

pub Step-returns : (home : Side) (d : Data) (f : ℕ) (l : Written) (frame : StmtFrame) (x : Value) → OutcomeIn d
    (o.Return x)
    → is_answered frame ≡ true → Step home true (Ok (move.Done (o.Return x))) d d f f l l
    (stmt_rest (names_of d) (forms_at d home) home.0 frame (outcome_in (names_of d) (o.Return x)) finished)
Step-returns home d f l frame x i a =
    Step-passed home d f l frame (o.Return x) i a (λ g. rest-returns (names_of d) (forms_at d home) home.0 frame
    (Resolve (names_of d) x) g a)

pub Step-breaks : (home : Side) (d : Data) (f : ℕ) (l : Written) (frame : StmtFrame) → OutcomeIn d o.Break
    → is_answered frame ≡ true → Step home true (Ok (move.Done o.Break)) d d f f l l
    (stmt_rest (names_of d) (forms_at d home) home.0 frame (outcome_in (names_of d) o.Break) finished)
Step-breaks home d f l frame i a =
    Step-passed home d f l frame o.Break i a (λ g. rest-breaks (names_of d) (forms_at d home) home.0 frame g a)

pub Step-continues : (home : Side) (d : Data) (f : ℕ) (l : Written) (frame : StmtFrame) → OutcomeIn d o.Continue
    → is_answered frame ≡ true → Step home true (Ok (move.Done o.Continue)) d d f f l l
    (stmt_rest (names_of d) (forms_at d home) home.0 frame (outcome_in (names_of d) o.Continue) finished)
Step-continues home d f l frame i a =
    Step-passed home d f l frame o.Continue i a (λ g. rest-continues (names_of d) (forms_at d home) home.0 frame g a)

-- the frames that the arms before left
pub answered-of : (frame : StmtFrame) → ((at : Context) (node : NodeId) → frame ≡ y.WhileBody at node → ⊥)
    → ((at : Context) (node test : NodeId) → frame ≡ y.DoBody at node test → ⊥)
    → ((at : Context) (node : NodeId) → frame ≡ y.ForBody at node → ⊥)
    → ((at : Context) (node : NodeId) → frame ≡ y.Try at node → ⊥)
    → ((at : Context) (ending : Option NodeId) → frame ≡ y.Handler at ending → ⊥)
    → ((outcome : Outcome) → frame ≡ y.Ending outcome → ⊥) → is_answered frame ≡ true
answered-of (y.Each at node next) a b c d e f = refl
answered-of (y.Declared at node name next) a b c d e f = refl
answered-of y.Expression a b c d e f = refl
answered-of (y.If at main other) a b c d e f = refl
answered-of (y.WhileTest at node body) a b c d e f = refl
answered-of (y.DoTest at node) a b c d e f = refl
answered-of (y.ForFirst at node) a b c d e f = refl
answered-of (y.ForTest at node) a b c d e f = refl
answered-of (y.ForLast at node) a b c d e f = refl
answered-of y.Return a b c d e f = refl
answered-of y.Throw a b c d e f = refl
answered-of (y.WhileBody at node) a b c d e f = absurd (a at node refl)
answered-of (y.DoBody at node test) a b c d e f = absurd (b at node test refl)
answered-of (y.ForBody at node) a b c d e f = absurd (c at node refl)
answered-of (y.Try at node) a b c d e f = absurd (d at node refl)
answered-of (y.Handler at ending) a b c d e f = absurd (e at ending refl)
answered-of (y.Ending outcome) a b c d e f = absurd (f outcome refl)
