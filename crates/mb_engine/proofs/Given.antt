-- What a run is given: the world that has it is one that can begin, and what begins then has begun.
use Rattle.mb_base.specs.declared.value.Side.{Side}
use Rattle.mb_base.specs.declared.value.Value.{Value}
use Rattle.mb_base.specs.declared.value.Value.TheVariants as v
use Rattle.mb_engine.specs.Begun.{HasScript, IsBegun, IsGiven, first_graph_of}
use Rattle.mb_engine.specs.machine.Beginning.{Begins, IsSet, scripts_in, set_world, started, with_scripts}
use Rattle.mb_frames.specs.Grammatical.{IsProgram}
use Rattle.mb_frames.specs.Standing.{forms_at}
use Rattle.mb_growth.specs.Names.{HasGlobals}
use Rattle.mb_intrinsics.specs.Untouched.{IsUntouched, programs_in, rules_in}
use Rattle.mb_model.specs.Nodes.Scopes.{scope}
use Rattle.mb_model.specs.Story.{first_graph, global_bindings, global_scopes}
use Rattle.mb_programs.specs.Read.{HasWhole, IsWhole}
use Rattle.mb_world.proofs.Grow.{All-at}
use Rattle.mb_world.specs.Data.{Data, Script, fresh, with_texts}
use Rattle.mb_world.specs.Graph.{Graph, Program}
use Rattle.mb_world.specs.Ids.{Maybe, RuleIn, RuleKindIn, ScriptIn, ValueIn}
use Rattle.mb_world.specs.Image.{Image, names_of, program_in}
use Rattle.mb_world.specs.declared.rule.Rule.{Rule}
use Rattle.mb_world.specs.declared.rule.RuleKind.{RuleKind}
use Rattle.mb_world.specs.declared.rule.RuleKind.TheVariants as rule
use Rattle.mb_world.specs.declared.scope.Job.{Job}
use Rattle.mb_world.specs.declared.scope.Job.TheVariants as j
use Rattle.std.proofs.Common.{Bool, List, None, Option, Some, [], ap, arith, false, length, map, option_map, refl}
use Rattle.std.proofs.Common.{slice_get, slice_index_or, subst, suc, sym, take, true, zero, ℕ, ◌+◌, ◌++◌, ◌<◌, ◌≤◌}
use Rattle.std.proofs.Common.{◌∙◌, ◌∷◌, ◌≡◌}
use Rattle.std.proofs.lemmas.List.{length-map}
use Rattle.std.proofs.lemmas.List.Elements.{All-append, All-cons, All-from_recursion, All-head, All-nil, All-tail}
use Rattle.std.proofs.lemmas.List.Elements.{All-weaker}
use Rattle.std.proofs.lemmas.Option.{slice_get-map}
use Rattle.std.specs.List.{AllByRecursion}
use Rattle.std.specs.Prelude.{All, IsSomeAnd}

-- ---- scripts and jobs of a fresh world

scripts-fit : (ss : List Script) (ps : List (Option Script)) → All IsProgram ss → All (Maybe IsProgram) ps
    → All (Maybe IsProgram) (scripts_in ss ps)
scripts-fit [] ps h k = k
scripts-fit (s ∷ ss) [] h k = k
scripts-fit (s ∷ ss) (p ∷ ps) h k =
    All-cons (Maybe IsProgram) (Some s) (scripts_in ss ps) (All-head IsProgram s ss h)
    (scripts-fit ss ps (All-tail IsProgram s ss h) (All-tail (Maybe IsProgram) p ps k))

scripts-are : (ss : List Script) (ps : List (Option Script)) → length ss ≤ length ps
    → take (length ss) (scripts_in ss ps) ≡ map (λ s. Some s) ss
scripts-are [] ps l = refl
scripts-are (s ∷ ss) [] l = absurd (omega (arith, l))
scripts-are (s ∷ ss) (p ∷ ps) l =
    ap (λ (os : List (Option Script)). Some s ∷ os) (scripts-are ss ps (omega (arith, l)))

abbrev IsScript : Job → Type 0
IsScript x = x ≡ j.Script

jobs-fit : (n : ℕ) (qs : List (List Job)) → All (All IsScript) qs → All (All IsScript) (started n qs)
jobs-fit zero qs h = h
jobs-fit (suc n) [] h = h
jobs-fit (suc n) (q ∷ qs) h =
    All-cons (All IsScript) (q ++ j.Script ∷ []) (started n qs)
    (All-append IsScript q (j.Script ∷ []) (All-head (All IsScript) q qs h)
    (All-cons IsScript j.Script [] refl (All-nil IsScript))) (jobs-fit n qs (All-tail (All IsScript) q qs h))

jobs-are : (ss : List Script) (qs : List (List Job)) (ps : List (Option Script)) → AllByRecursion (λ q. q ≡ []) qs
    → length qs ≡ length ps
    → take (length ss) (started (length ss) qs) ≡ map (λ p. j.Script ∷ []) (take (length ss) (scripts_in ss ps))
jobs-are [] qs ps h e = refl
jobs-are (s ∷ ss) [] [] h e = refl
jobs-are (s ∷ ss) [] (p ∷ ps) h e = absurd (omega (arith, e))
jobs-are (s ∷ ss) (q ∷ qs) [] h e = absurd (omega (arith, e))
jobs-are (s ∷ ss) (q ∷ qs) (p ∷ ps) h e =
    ap (λ (xs : List Job). (xs ++ j.Script ∷ []) ∷ take (length ss) (started (length ss) qs)) h.0
    ∙ ap (λ (rs : List (List Job)). (j.Script ∷ []) ∷ rs) (jobs-are ss qs ps h.1 (omega (arith, e)))

none-fit : All (Maybe IsProgram) fresh.programs
none-fit = All-from_recursion (Maybe IsProgram) fresh.programs (tt, (tt, (tt, (tt, (tt, (tt, (tt, (tt, tt))))))))

none-queued : All (All IsScript) fresh.queues
none-queued =
    let none : All IsScript [] = All-nil IsScript in
    All-from_recursion (All IsScript) fresh.queues (none, (none, (none, (none, (none, (none, (none, (none, tt))))))))

module _ (texts : List (List ℕ)) (ss : List Script) (rules : List Rule) (joined : Bool)
    (given : IsGiven texts ss rules joined) where
  abbrev d : Data
  d = set_world texts ss rules joined

  abbrev n : ℕ
  n = length ss

  taken : take n d.programs ≡ map (λ s. Some s) ss
  taken = scripts-are ss fresh.programs given.most

  pub is-set : IsSet d n
  is-set = record {
    untouched = record {
      least = given.least;
      most = given.most;
      programs = scripts-fit ss fresh.programs given.programs none-fit;
      constants = given.constants;
      scopes = refl;
      entries = refl;
      jobs = jobs-fit n fresh.queues none-queued;
      two_sides = given.two_sides;
      no_rules = given.no_rules;
      not_revoked = λ e. refl;
    };
    cells = refl;
    symbols = refl;
    revoked = refl;
    jobs = jobs-are ss fresh.queues fresh.programs
        (refl, (refl, (refl, (refl, (refl, (refl, (refl, (refl, tt)))))))) refl;
    many = ap (λ (ps : List (Option Script)). length ps) taken ∙ length-map ss (λ s. Some s);
  }

  programs-are : (xs : List Script)
      → map (program_in texts) (map (λ s. Some s) xs) ≡ map (λ p. program_in texts (Some p)) xs
  programs-are [] = refl
  programs-are (x ∷ xs) = ap (λ (ps : List Program). program_in texts (Some x) ∷ ps) (programs-are xs)

  graph-is : first_graph (programs_in d n) (rules_in d) ≡ first_graph_of texts ss rules
  graph-is =
      ap (λ (ps : List (Option Script)). first_graph (map (program_in texts) ps) (rules_in d)) taken
      ∙ ap (λ (ps : List Program). first_graph ps (rules_in d)) (programs-are ss)

  -- ---- what has begun

  module _ (d' : Data) (b : Begins (first_graph (programs_in d n) (rules_in d)) n d d') where
    pub image-is : Image d' [] ≡ first_graph_of texts ss rules
    image-is = b.image ∙ graph-is

    program-at : (m k : ℕ) (f : Option Script → Program) (ps : List (Option Script)) (x : Program)
        → slice_get (map f (take m ps)) k ≡ Some x → f (slice_index_or ps k None) ≡ x
    program-at zero k f ps x e = cc
    program-at (suc m) k f [] x e = cc
    program-at (suc m) zero f (p ∷ ps) x e = cc
    program-at (suc m) (suc k) f (p ∷ ps) x e = program-at m k f ps x e

    root-at : (k : ℕ) (xs : List Script) → k < length xs → All (IsWhole texts) xs
        → IsSomeAnd (slice_get (map (λ p. program_in texts (Some p)) xs) k) (λ p. HasWhole p.forms)
    root-at k [] l h = absurd (omega (arith, l))
    root-at zero (x ∷ xs) l h = All-head (IsWhole texts) x xs h
    root-at (suc k) (x ∷ xs) l h = root-at k xs (omega (arith, l)) (All-tail (IsWhole texts) x xs h)

    has-script : (side : Side) → side.0 < d'.sides → HasScript d' side
    has-script side l =
        by (slice_get (map (λ p. program_in texts (Some p)) ss) side.0) refl
        (root-at side.0 ss (subst (λ (m : ℕ). side.0 < m) b.sides l) given.roots)
      where
        by : (o : Option Program) → slice_get (map (λ p. program_in texts (Some p)) ss) side.0 ≡ o
            → IsSomeAnd o (λ p. HasWhole p.forms) → HasScript d' side
        by None e h = absurd h
        by (Some p) e h =
            let at : slice_get (map (program_in d'.texts) (take d'.sides d'.programs)) side.0 ≡ Some p =
            ap (λ (g : Graph). slice_get g.programs side.0) image-is ∙ e in
            subst (λ (q : Program). HasWhole q.forms)
            (sym (program-at d'.sides side.0 (program_in d'.texts) d'.programs p at)) h

    scope-at : (s m : ℕ) (ps : List Program) (k : ℕ) → k < length ps → s + k ≡ m
        → slice_get (global_scopes s ps) k ≡ Some (scope m None global_bindings)
    scope-at s m [] k l e = absurd (omega (arith, l))
    scope-at s m (p ∷ ps) zero l e = let q : s ≡ m = omega (arith, e) in rw q refl
    scope-at s m (p ∷ ps) (suc k) l e = scope-at (s + 1) m ps k (omega (arith, l)) (omega (arith, e))

    has-globals : HasGlobals d'.sides (Image d' [])
    has-globals side l =
        let many : length (map (λ p. program_in texts (Some p)) ss) ≡ n =
        length-map ss (λ p. program_in texts (Some p)) in
        let within : side < length (map (λ p. program_in texts (Some p)) ss) =
        subst (λ (m : ℕ). side < m) (b.sides ∙ sym many) l in
        ap (λ (g : Graph). slice_get g.scopes side) image-is
        ∙ scope-at 0 side (map (λ p. program_in texts (Some p)) ss) side within (omega arith)

    pub has-begun : IsBegun d'
    has-begun = record { ready = b.ready; scripts = has-script; globals = has-globals }

-- ---- the whole

-- what `begin` leaves where it ends
pub record HasBegun (texts : List (List ℕ)) (ss : List Script) (rules : List Rule) (d : Data) : Type 0 where
  pub begun : IsBegun d
  pub first : Image d [] ≡ first_graph_of texts ss rules
  pub entries : d.entries ≡ []

pub set-is : (d d1 d2 d3 d4 : Data) (texts : List (List ℕ)) (ss : List Script) (rules : List Rule) (joined : Bool)
    → d ≡ fresh → d1 ≡ with_texts d texts → d2 ≡ with_scripts d1 ss → d3 ≡ record d2 { rules = rules }
    → (joined ≡ true → d4 ≡ record d3 { joined = true }) → (joined ≡ false → d4 ≡ d3)
    → d4 ≡ set_world texts ss rules joined
set-is d d1 d2 d3 d4 texts ss rules joined e e1 e2 e3 joins stays = by joined refl
  where
    before : d3 ≡ set_world texts ss rules false
    before =
        e3 ∙ ap (λ (x : Data). let y : Data = record x { rules = rules } in y)
        (e2 ∙ ap (λ (x : Data). with_scripts x ss) (e1 ∙ ap (λ (x : Data). with_texts x texts) e))

    by : (b : Bool) → joined ≡ b → d4 ≡ set_world texts ss rules b
    by true h = joins h ∙ ap (λ (x : Data). let y : Data = record x { joined = true } in y) before
    by false h = stays h ∙ before

-- what was given is of the world that takes it
pub scripts-within : (d d1 : Data) (texts : List (List ℕ)) (ss : List Script) (rules : List Rule) (joined : Bool)
    → IsGiven texts ss rules joined → d ≡ fresh → d1 ≡ with_texts d texts → All (ScriptIn d1) ss
scripts-within d d1 texts ss rules joined given e e1 =
    subst (λ (x : Data). All (ScriptIn x) ss) (sym (e1 ∙ ap (λ (x : Data). with_texts x texts) e)) given.script_ids

pub rules-within : (d d1 d2 : Data) (texts : List (List ℕ)) (ss : List Script) (rules : List Rule) (joined : Bool)
    → IsGiven texts ss rules joined → d ≡ fresh → d1 ≡ with_texts d texts → d2 ≡ with_scripts d1 ss
    → All (RuleIn d2) rules
rules-within d d1 d2 texts ss rules joined given e e1 e2 =
    subst (λ (x : Data). All (RuleIn x) rules)
    (sym (e2 ∙ ap (λ (x : Data). with_scripts x ss) (e1 ∙ ap (λ (x : Data). with_texts x texts) e)))
    (All-weaker (RuleIn (with_texts fresh texts)) (RuleIn (with_scripts (with_texts fresh texts) ss)) still rules
    given.rule_ids)
  where
    value-still : (y : Value) → ValueIn (with_texts fresh texts) y
        → ValueIn (with_scripts (with_texts fresh texts) ss) y
    value-still (v.Text t) g = g
    value-still (v.Symbol t) g = g
    value-still (v.Object o) g = g
    value-still v.Undefined g = g
    value-still v.Null g = g
    value-still (v.Bool b) g = g
    value-still (v.Whole z) g = g

    kind-still : (k : RuleKind) → RuleKindIn (with_texts fresh texts) k
        → RuleKindIn (with_scripts (with_texts fresh texts) ss) k
    kind-still (rule.Hide x) h = h
    kind-still rule.ReadOnly h = h
    kind-still (rule.Substitute x y) h = (h.0, value-still y h.1)
    kind-still rule.Revoke h = h

    still : (r : Rule) → RuleIn (with_texts fresh texts) r → RuleIn (with_scripts (with_texts fresh texts) ss) r
    still r h = (h.0, kind-still r.kind h.1)

pub set-now : (texts : List (List ℕ)) (ss : List Script) (rules : List Rule) (joined : Bool)
    → IsGiven texts ss rules joined → (d4 : Data) (n : ℕ) → d4 ≡ set_world texts ss rules joined → n ≡ length ss
    → IsSet d4 n
set-now texts ss rules joined given d4 n e many =
    subst (λ (x : Data). IsSet x n) (sym e)
    (subst (λ (m : ℕ). IsSet (set_world texts ss rules joined) m) (sym many) (is-set texts ss rules joined given))

pub all-begun : (texts : List (List ℕ)) (ss : List Script) (rules : List Rule) (joined : Bool)
    → IsGiven texts ss rules joined → (d4 d7 : Data) (n : ℕ) → d4 ≡ set_world texts ss rules joined → n ≡ length ss
    → Begins (first_graph (programs_in d4 n) (rules_in d4)) n d4 d7 → HasBegun texts ss rules d7
all-begun texts ss rules joined given d4 d7 n e many b = record {
  begun = has-begun texts ss rules joined given d7 own;
  first = image-is texts ss rules joined given d7 own;
  entries = own.entries;
}
  where
    own : Begins (first_graph (programs_in (set_world texts ss rules joined) (length ss))
        (rules_in (set_world texts ss rules joined))) (length ss) (set_world texts ss rules joined) d7
    own =
        subst (λ (m : ℕ). Begins (first_graph (programs_in (set_world texts ss rules joined) m)
        (rules_in (set_world texts ss rules joined))) m (set_world texts ss rules joined) d7) many
        (subst (λ (x : Data). Begins (first_graph (programs_in x n) (rules_in x)) n x d7) e b)
