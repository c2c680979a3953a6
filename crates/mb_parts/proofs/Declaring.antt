-- The functions of declarations are made in turn, and given to their names.
use Rattle.std.proofs.Common.{ap, ◌+◌, ◌<◌, ◌≡◌, ◌≤◌, ◌∙◌, ◌∷◌, Err, List, None, Ok, Option, Result, Some, [], arith}
use Rattle.std.proofs.Common.{drop, length, refl, slice_get, subst, sym, true, ℕ, false}
use Rattle.std.proofs.Math.ListN.{drop_of_length-le}
use Rattle.std.proofs.lemmas.List.Elements.{All-nil}
use Rattle.std.specs.Prelude.{suc}
use Rattle.mb_base.specs.declared.value.NodeId.{NodeId}
use Rattle.mb_base.specs.declared.value.ScopeId.{ScopeId}
use Rattle.mb_base.specs.declared.value.Side.{Side}
use Rattle.mb_base.specs.declared.value.StrId.{StrId}
use Rattle.mb_frames.proofs.Forms.{forms-are}
use Rattle.mb_frames.proofs.Going.{WentOn-none, WentOn-then}
use Rattle.mb_frames.proofs.Keeping.{node-held}
use Rattle.mb_frames.proofs.Steps.{drop-at}
use Rattle.mb_frames.specs.Going.{Changes, WentOn, paying}
use Rattle.mb_frames.specs.Held.{HeldNode, HeldScope, HeldText, HeldTextIf}
use Rattle.mb_frames.specs.Making.{is_function_of}
use Rattle.mb_frames.specs.Ready.{Holds, MayHold}
use Rattle.mb_frames.specs.Standing.{forms_at}
use Rattle.mb_frames.specs.Stepping.{Grew}
use Rattle.mb_frames.specs.declared.machine.Halt.TheVariants.{NoMemory, Spent as SpentHalt}
use Rattle.mb_frames.specs.declared.machine.Halt.{Halt}
use Rattle.mb_model.specs.Nodes.Scopes.{code, declare, declare_one, initialize}
use Rattle.mb_model.specs.Operations.Makings.{make_function}
use Rattle.mb_model.specs.Task.{Answer, Nothing}
use Rattle.mb_model.specs.Writing.{◌>>=◌, Does, Row, give}
use Rattle.mb_parts.proofs.Answering.{text-held}
use Rattle.mb_parts.specs.machine.Declaring.{IsDeclared}
use Rattle.mb_world.specs.Contained.{IsOwn}
use Rattle.mb_world.specs.Data.{Data}
use Rattle.mb_world.specs.Form.{Form}
use Rattle.mb_world.specs.FormOf.{TreeNode, names_at}
use Rattle.mb_world.specs.Graph.{Code, Graph, Item}
use Rattle.mb_world.specs.Ids.{TextIn}
use Rattle.mb_world.specs.Image.{Image, entries_in, names_of, text_in}
use Rattle.mb_world.specs.Value.{Val}

-- one is made, and the next ones follow
one-declared : (d d' : Data) (home : Side) (scope n : ℕ) (rest : List ℕ) (k : Answer → Graph → Row) (log : List Item)
    → home.0 < d.sides
    → WentOn Answer d d' 0 0 (declare_one home.0 scope n (slice_get (forms_at d home) n)) Nothing
    → declare home.0 scope (n ∷ rest) k (Image d log) ≡ declare home.0 scope rest k (Image d' log)
one-declared d d' home scope n rest k log h q =
    let u : q.units ≡ 0 = omega (arith, q.paid) in
    ap (λ (fs : List Form). declare_one home.0 scope n (slice_get fs n) (λ a. declare home.0 scope rest k)
    (Image d log))
    (forms-are d home log h)
    ∙ q.same (λ a. declare home.0 scope rest k) log
    ∙ ap (λ (m : ℕ). paying m (Image d log) (declare home.0 scope rest k (Image d' log))) u

pub names-counted : (ns : List TreeNode) (is : List ℕ) → length (names_at ns is) ≡ length is
names-counted ns [] = refl
names-counted ns (i ∷ is) = ap suc (names-counted ns is)

-- a function is made, and then given to its name
made-given : (d d1 d2 : Data) (scope : ScopeId) (name : StrId) (units : List ℕ) (p : Does Val) (v : Val)
    → WentOn Val d d1 0 0 p v → WentOn Answer d1 d2 0 0 (initialize scope.0 (text_in (names_of d1) name) v) Nothing
    → TextIn d name → text_in (names_of d) name ≡ units
    → WentOn Answer d d2 0 0 (p >>= (λ f. initialize scope.0 units f)) Nothing
made-given d d1 d2 scope name units p v q h t e =
    WentOn-then Val Answer d d1 d2 0 0 p v (λ f. initialize scope.0 units f) Nothing q
    (subst (λ (s : List ℕ). WentOn Answer d1 d2 0 0 (initialize scope.0 s v) Nothing)
    (q.grew.grows.same_text name t ∙ e) h)

-- where the loop over these statements has come from d0 to d
module _ (home : Side) (d0 d : Data) (scope : ScopeId) (ps : List ℕ) (place : ℕ) (takes : home.0 < d0.sides)
    (g : Grew d0 d)
    (n : entries_in d ≡ entries_in d0)
    (same : (k : Answer → Graph → Row) (log : List Item) → declare home.0 scope.0 ps k (Image d0 log)
    ≡ declare home.0 scope.0 (drop place ps) k (Image d log))
  where
    pub made-more : (d' : Data) (statement : ℕ) (k : Answer → Graph → Row) (log : List Item)
        → slice_get ps place ≡ Some statement
        → WentOn Answer d d' 0 0 (declare_one home.0 scope.0 statement (slice_get (forms_at d home) statement)) Nothing
        → declare home.0 scope.0 ps k (Image d0 log) ≡ declare home.0 scope.0 (drop (place + 1) ps) k (Image d' log)
    made-more d' statement k log e q =
        same k log
        ∙ ap (λ (ns : List ℕ). declare home.0 scope.0 ns k (Image d log)) (drop-at ps place statement e)
        ∙ one-declared d d' home scope.0 statement (drop (place + 1) ps) k log (omega (arith, takes, g.sides)) q

    pub made-all : length ps ≤ place → WentOn Answer d0 d 0 0 (declare home.0 scope.0 ps) Nothing
    made-all e = record {
      units = 0;
      paid = omega arith;
      same = λ k log.
          same k log ∙ ap (λ (ns : List ℕ). declare home.0 scope.0 ns k (Image d log)) (drop_of_length-le ps e);
      trace = n;
      grew = g;
    }

-- the function of a statement was made and given to its name
pub Changes-declared : (r : Result (Unit {0}) Halt) (d d1 d2 : Data) (home : Side) (scope : ScopeId)
    (statement : NodeId)
    (name : StrId) (params : ℕ) (v : Val) → IsDeclared d home statement name params
    → WentOn Val d d1 0 0
    (make_function (code home.0 statement.0 scope.0 true None) (Some (text_in (names_of d) name)) params
    (text_in (names_of d) name)) v
    → Changes r d1 d2 (initialize scope.0 (text_in (names_of d1) name) v)
    → Changes r d d2 (declare_one home.0 scope.0 statement.0 (slice_get (forms_at d home) statement.0))
Changes-declared (Ok u) d d1 d2 home scope statement name params v i q h =
    let x : List ℕ = text_in (names_of d) name in
    let c : Code = code home.0 statement.0 scope.0 true None in
    let made : ℕ → Does Answer = λ n. make_function c (Some x) n x >>= (λ f. initialize scope.0 x f) in
    subst (λ (o : Option Form). WentOn Answer d d2 0 0 (declare_one home.0 scope.0 statement.0 o) Nothing) (sym i.there)
    (subst (λ (n : ℕ). WentOn Answer d d2 0 0 (made n) Nothing) (sym i.count)
    (made-given d d1 d2 scope name x (make_function c (Some x) params x) v q h i.text refl))
Changes-declared (Err SpentHalt) d d1 d2 home scope statement name params v i q h = absurd h
Changes-declared (Err NoMemory) d d1 d2 home scope statement name params v i q h = tt

pub Changes-undeclared : (d : Data) (home : Side) (scope : ScopeId) (statement : NodeId)
    → declare_one home.0 scope.0 statement.0 (slice_get (forms_at d home) statement.0) ≡ give Nothing
    → Changes (Ok tt) d d (declare_one home.0 scope.0 statement.0 (slice_get (forms_at d home) statement.0))
Changes-undeclared d home scope statement e =
    WentOn-none Answer d 0 (declare_one home.0 scope.0 statement.0 (slice_get (forms_at d home) statement.0)) Nothing
    (λ k log. ap (λ (p : Does Answer). p k (Image d log)) e)

-- what stands in the function of a declaration
pub made-of : (d : Data) (home : Side) (scope : ScopeId) (statement : NodeId) (name : StrId) (params : ℕ)
    → IsDeclared d home statement name params → MayHold d home (HeldScope scope)
    → Holds d home (HeldScope scope ∷ HeldNode (is_function_of true false) statement.0 ∷ HeldTextIf (Some name) ∷
    HeldText name ∷ [])
made-of d home scope statement name params q h = (
  h,
  (
    node-held d home (is_function_of true false) statement.0 (ap (is_function_of true false) q.there),
    (record { within = q.text; sound = tt; own = λ u. All-nil (IsOwn d home) }, (text-held d home name q.text, tt)),
  ),
)
