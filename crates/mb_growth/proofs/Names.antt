-- Names that are fixed and given stay, so the built-in names do.
use Rattle.std.proofs.Common.{◌≡◌, ◌<◌, ℕ, zero, suc, ◌+◌, List, [], ◌∷◌, ◌++◌, length, map, Bool, true, codes, is_some, Option, None, Some, slice_get, refl, ap, ◌∙◌, subst, arith}
use Rattle.std.proofs.lemmas.Option.{none-some}
use Rattle.mb_world.specs.Standard.{global_names}
use Rattle.mb_world.specs.Value.{Object, Val}
use Rattle.mb_world.specs.Graph.{Binding, Graph, Job, Program, Rule, Scope, Script, Call as CallJob}
use Rattle.mb_model.specs.Engine.{state_of}
use Rattle.mb_model.specs.Meaning.{Ends}
use Rattle.mb_model.specs.Engine.{Gives, Spent}
use Rattle.mb_model.specs.Nodes.Scopes.{binding, scope}
use Rattle.mb_model.specs.Nodes.Lasting.{BindingsLast, ScopeLasts, ScopesLast}
use Rattle.mb_model.specs.Story.{first_graph, global_bindings, global_scopes, job_ends}
use Rattle.mb_model.proofs.Kept.Words.{Kept, beside-objects}
use Rattle.mb_model.proofs.Kept.Rows.{EndHolds, IsPlain, given-holds, means-holds}
use Rattle.mb_model.proofs.Kept.Given.{means-goes}
use Rattle.mb_model.proofs.Kept.Lasting.{scopes-refl, scopes-trans}
use Rattle.mb_growth.specs.Names.{FirstHasGlobals, HasGlobals, LettersKeepGlobals, RunsHaveGlobals, TasksKeepNames, TurnsKeepGlobals}
use Rattle.mb_growth.proofs.Throughout.{Lasting, letter-good, run-good, turn-good}

-- ---- along the meaning

abbrev pub naming : Kept
naming = record {
  cares = ⊥;
  owns = ⊥;
  to = λ f g. ScopesLast f.scopes g.scopes;
  owed = λ b o g. Unit {0};
  ended = λ b g o abrupt h. tt;
  known = λ t s o g. Unit {0};
  stays = λ f g p. scopes-refl g.scopes;
  goes_on = λ f g h p q. scopes-trans f.scopes g.scopes h.scopes p q;
  made = λ f g t new p. p;
  moved = λ f g o t u at by p. beside-objects (λ h. ScopesLast f.scopes h.scopes) g o u (λ ts. p) p;
  symbols = λ f g ds p. p;
  scopes = λ f g ss last p. scopes-trans f.scopes g.scopes ss p last;
  log = λ f g i none p. p;
  job = λ f g s v p. p;
}

pub plainly : IsPlain naming
plainly = record { owes = λ b g o h. tt; knows = λ t s g o. tt; notes = λ b g e p. p }

pub tasks-keep-names : TasksKeepNames
tasks-keep-names task graph fuel =
    means-goes naming plainly task graph fuel (λ c. absurd c, λ c. absurd c) (scopes-refl graph.scopes)

pub end-keeps : (b : Graph) (r : Ends) → EndHolds naming b r → ScopesLast b.scopes (state_of r).scopes
end-keeps b (Gives o s f) p = p
end-keeps b (Spent s f) p = p

job-keeps : (s : ℕ) (j : Job) (g : Graph) (f : ℕ) → ScopesLast g.scopes (state_of (job_ends s j g f)).scopes
job-keeps s Script g f =
    end-keeps g _ (given-holds naming plainly _ g f (λ c. absurd c, λ c. absurd c) (scopes-refl g.scopes))
job-keeps s (CallJob v) g f =
    end-keeps g _ (means-holds naming plainly _ g f (λ c. absurd c, λ c. absurd c) (scopes-refl g.scopes))

-- ---- what is fixed and given is the same

abbrev AreFixed : List Binding → Type 0
AreFixed [] = Unit {0}
AreFixed (b ∷ bs) = (b.fixed ≡ true) × (is_some b.value ≡ true) × AreFixed bs

binding-same : (b c : Binding) → c.name ≡ b.name → c.value ≡ b.value → c.fixed ≡ b.fixed → c ≡ b
binding-same b c p q r =
    ap (λ (x : List ℕ). let d : Binding = record { name = x; value = c.value; fixed = c.fixed } in d) p
    ∙ ap (λ (x : Option Val). let d : Binding = record { name = b.name; value = x; fixed = c.fixed } in d) q
    ∙ ap (λ (x : Bool). let d : Binding = record { name = b.name; value = b.value; fixed = x } in d) r

bindings-same : (bs cs : List Binding) → AreFixed bs → BindingsLast bs cs → cs ≡ bs
bindings-same [] [] a p = refl
bindings-same [] (c ∷ cs) a p = absurd p
bindings-same (b ∷ bs) [] a p = absurd p
bindings-same (b ∷ bs) (c ∷ cs) a p =
    let first : c ≡ b = binding-same b c p.0.name (p.0.given a.0 a.1) p.0.fixed in
    ap (λ (x : Binding). x ∷ cs) first ∙ ap (λ (xs : List Binding). b ∷ xs) (bindings-same bs cs a.2 p.1)

scope-same : (s t : Scope) → AreFixed s.bindings → ScopeLasts s t → t ≡ s
scope-same s t a p =
    ap (λ (x : ℕ). let u : Scope = record { side = x; parent = t.parent; bindings = t.bindings } in u) p.side
    ∙ ap (λ (x : Option ℕ). let u : Scope = record { side = s.side; parent = x; bindings = t.bindings } in u) p.parent
    ∙ ap (λ (x : List Binding). let u : Scope = record { side = s.side; parent = s.parent; bindings = x } in u)
    (bindings-same s.bindings t.bindings a p.bindings)

names-fixed : (ps : List (List ℕ × Val)) → AreFixed (map (λ p. binding p.0 (Some p.1) true) ps)
names-fixed [] = tt
names-fixed (p ∷ ps) = (refl, refl, names-fixed ps)

scope-last : (ss ts : List Scope) (n : ℕ) (s : Scope) → ScopesLast ss ts → slice_get ss n ≡ Some s →
    (t : Scope) × (slice_get ts n ≡ Some t) × ScopeLasts s t
scope-last [] ts n s p at = absurd (none-some s at)
scope-last (x ∷ ss) [] n s p at = absurd p
scope-last (x ∷ ss) (t ∷ ts) zero s p at =
    let e : x ≡ s = cc in
    (t, refl, subst (λ (y : Scope). ScopeLasts y t) e p.0)
scope-last (x ∷ ss) (t ∷ ts) (suc n) s p at = scope-last ss ts n s p.1 at

pub globals-last : (sides : ℕ) (g h : Graph) → ScopesLast g.scopes h.scopes → HasGlobals sides g → HasGlobals sides h
globals-last sides g h p has side small =
    let k = scope-last g.scopes h.scopes side (scope side None global_bindings) p (has side small) in
    k.1 ∙ ap (λ (t : Scope). Some t) (scope-same (scope side None global_bindings) k.0 (names-fixed (global_names ++ (codes "desk", Object 0) ∷ []))
    k.2)

-- ---- along a whole run

global-at : (first n : ℕ) (ps : List Program) → n < length ps →
    slice_get (global_scopes first ps) n ≡ Some (scope (first + n) None global_bindings)
global-at first n [] small = absurd (omega (arith, small))
global-at first zero (p ∷ ps) small = ap (λ (k : ℕ). Some (scope k None global_bindings)) (omega arith)
global-at first (suc n) (p ∷ ps) small =
    global-at (first + 1) n ps (omega (arith, small))
    ∙ ap (λ (k : ℕ). Some (scope k None global_bindings)) (omega arith)

pub first-has-globals : FirstHasGlobals
first-has-globals programs rules side small =
    let none : 0 + side ≡ side = omega arith in
    global-at 0 side programs small ∙ ap (λ (k : ℕ). Some (scope k None global_bindings)) none

lasting : (sides : ℕ) → Lasting (HasGlobals sides)
lasting sides = record {
  job = λ s j g f has. globals-last sides g (state_of (job_ends s j g f)) (job-keeps s j g f) has;
  queues = λ g qs p. p;
  uncaught = λ g s v p. p;
  cut = λ g p. p;
}

pub turns-keep-globals : TurnsKeepGlobals
turns-keep-globals sides stage side has = turn-good (HasGlobals sides) (lasting sides) stage side has

pub letters-keep-globals : LettersKeepGlobals
letters-keep-globals sides stage letter has = letter-good (HasGlobals sides) (lasting sides) stage letter has

pub runs-have-globals : RunsHaveGlobals
runs-have-globals programs rules word fuel =
    run-good (HasGlobals (length programs)) (lasting (length programs)) programs rules word fuel
    (first-has-globals programs rules)
