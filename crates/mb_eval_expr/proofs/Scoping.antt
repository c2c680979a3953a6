-- Scopes that are added and given names, in a world and in its image.
use Rattle.std.proofs.Common.{◌≡◌, ◌∙◌, ◌∷◌, List, None, Ok, Some, [], ap, arith, length, length-append, nat_eq, refl}
use Rattle.std.proofs.Common.{sym, true, ℕ, ◌<◌}
use Rattle.std.specs.List.{IsDistinct}
use Rattle.std.proofs.lemmas.List.Elements.{All-cons, All-nil}
use Rattle.mb_base.specs.declared.value.ScopeId.{ScopeId}
use Rattle.mb_base.specs.declared.value.Side.{Side}
use Rattle.mb_base.specs.declared.value.StrId.{StrId}
use Rattle.mb_model.specs.Nodes.Scopes.{add_scope, binding, initialize, code, scope}
use Rattle.mb_model.specs.Task.{Answer}
use Rattle.mb_model.specs.Writing.{◌>>=◌, Does, is_value}
use Rattle.mb_world.proofs.AfterCalls.{of-scope}
use Rattle.mb_world.specs.Data.{Data, with_scope}
use Rattle.mb_world.specs.Ids.{BoundIn, ScopeIn, TextIn, HasItsIds, ObjIn, ScopeOf}
use Rattle.mb_world.specs.Image.{Image, names_of, scope_in, text_in, object_in}
use Rattle.mb_world.specs.Value.{Val}
use Rattle.mb_world.specs.declared.scope.Bound.{Bound}
use Rattle.mb_world.specs.declared.scope.Scope.{Scope}
use Rattle.mb_base.specs.declared.value.ObjId.{ObjId}
use Rattle.mb_eval_expr.specs.machine.Functions.{named_row}
use Rattle.mb_parts.specs.Standing.{Acts}
use Rattle.mb_frames.proofs.Forms.{CanRun-grows}
use Rattle.mb_frames.proofs.Going.{Changes-passes, Makes-passes, WentOn-free, WentOn-passes}
use Rattle.mb_frames.proofs.Passed.{Part-passed, Part-sure, Passes-by, Passes-then}
use Rattle.mb_frames.specs.Going.{Changes, Makes, WentOn}
use Rattle.mb_frames.specs.Passing.{Part}
use Rattle.mb_frames.specs.Stepping.{Grew, Sure}
use Rattle.mb_frames.specs.declared.frame.Move.{Move}
use Rattle.mb_model.specs.Meaning.{finished}
use Rattle.mb_model.specs.Operations.Makings.{make_function}
use Rattle.mb_world.proofs.Grow.{TextIn-grows}
use Rattle.mb_world.proofs.Images.{value-grows}
use Rattle.mb_frames.proofs.Readying.{scope-changed}
use Rattle.mb_frames.specs.Held.{HeldScope}
use Rattle.mb_frames.specs.Ready.{IsReady, MayHold}
use Rattle.mb_world.specs.Contained.{IsOwn}
use Rattle.mb_world.specs.Formed.{FormedScope, InRange}
use Rattle.mb_frames.specs.Keeping.{KeepsAnswer, scope_held}
use Rattle.mb_world.specs.Graph as graph
use Rattle.mb_base.specs.declared.value.Value.TheVariants as v
use Rattle.mb_parts.proofs.Entered.{added-row}
use Rattle.mb_parts.proofs.EnteredKept.{new-held}

-- ---- a scope more

pub scope-added : (d d' : Data) (s : Scope) (S : graph.Scope) (id : ScopeId) → S ≡ scope_in (names_of d) s
    → d' ≡ with_scope d s → id.0 ≡ length d.scopes → WentOn ℕ d d' 0 0 (add_scope S) id.0
scope-added d d' s S id e m i = rw m (record {
  units = 0;
  paid = omega arith;
  same = λ k log. added-row d s S k log e ∙ ap (λ (n : ℕ). k n (Image (with_scope d s) log)) (sym i);
  trace = refl;
  grew = record { grows = (of-scope d s).grows; programs = refl; sides = refl; joined = refl };
})

-- ---- a scope more, and what there was

module _ (d d' : Data) (s : Scope) (same : d' ≡ with_scope d s) where
  pub Grew-scope : Grew d d'
  Grew-scope = rw same (record { grows = (of-scope d s).grows; programs = refl; sides = refl; joined = refl })

  pub Acts-scope : (home : Side) → HasItsIds d' → Acts d home → Acts d' home
  Acts-scope home h a = record {
    side = a.side;
    ids = h;
    runs = CanRun-grows d d' home Grew-scope h a.runs;
    built_ins = λ place e. rw same (a.built_ins place e);
  }

  pub scope-in : (id : ScopeId) → id.0 ≡ length d.scopes → ScopeIn d' id
  scope-in id e = rw (same, e) (omega (arith, length-append d.scopes (s ∷ [])))

-- ---- a scope of one name

distinct-one : (b : Bound) → IsDistinct (λ (p q : Bound). nat_eq p.name.0 q.name.0) (b ∷ [])
unfolding IsDistinct
distinct-one b = (tt, tt)

-- a scope that binds one name, which isn't given yet
pub scope-kept : (d d' : Data) (home : Side) (parent : ScopeId) (name : StrId) (names : List Bound) (id : ScopeId)
    → IsReady d
    → home.0 < d.sides → MayHold d home (HeldScope parent) → TextIn d name
    → (let b : Bound = record { name = name; value = None; fixed = true } in names ≡ b ∷ []) → home.0 < 8
    → (let s : Scope = record { home = home; parent = Some parent; names = names } in d' ≡ with_scope d s)
    → id.0 ≡ length d.scopes → KeepsAnswer home scope_held (Ok id) d d'
scope-kept d d' home parent name names id r i h t e o m k =
    let b : Bound = record { name = name; value = None; fixed = true } in
    let s : Scope = record { home = home; parent = Some parent; names = names } in
    let f : FormedScope d (length d.scopes) s = record {
      home = i;
      wholes = rw e (All-nil InRange);
      parent = (h.within, h.sound);
      distinct = rw e (distinct-one b);
    } in
    let n : ScopeOf d s = record {
      home_in = o;
      parent_in = h.within;
      names_in = rw e (All-cons (BoundIn d) b [] (t, tt) (All-nil (BoundIn d)));
    } in
    rw m (record {
      changed = scope-changed home d r s refl n f (λ u. rw e (All-nil (IsOwn d home)));
      holds = new-held d home s id refl k;
    })

-- ---- a named function expression

module _ (home : Side) (d d1 d2 d3 : Data) (f : ℕ) (id : ScopeId) (name : StrId) (parent node params : ℕ) (made : ObjId)
    (step : Move) where
  abbrev x : List ℕ
  x = text_in (names_of d) name

  abbrev x1 : List ℕ
  x1 = text_in (names_of d1) name

  abbrev x2 : List ℕ
  x2 = text_in (names_of d2) name

  abbrev v2 : Val
  v2 = object_in (names_of d2) made

  abbrev v3 : Val
  v3 = object_in (names_of d3) made

  abbrev given : List ℕ → ℕ → Val → Does Answer
  given y sc v = initialize sc y v >>= (λ b. is_value v)

  abbrev rest : List ℕ → ℕ → Does Answer
  rest y sc = make_function (code home.0 node sc true None) (Some y) params y >>= given y sc

  pub Part-named : WentOn ℕ d d1 0 0
      (add_scope (scope home.0 (Some parent) (binding (text_in (names_of d) name) None true ∷ []))) id.0
      → TextIn d name
      → Makes (Ok made) d1 d2 (make_function (code home.0 node id.0 true None) (Some (text_in (names_of d1) name))
      params (text_in (names_of d1) name))
      → Changes (Ok tt) d2 d3 (initialize id.0 (text_in (names_of d2) name) (object_in (names_of d2) made))
      → ObjIn d2 made → Sure home d3 (is_value (object_in (names_of d3) made) finished) step
      → Part home (Ok step) d d3 f f (named_row home.0 parent node params (text_in (names_of d) name) finished)
  Part-named p t q r o s =
      let e1 : x1 ≡ x = p.grew.grows.same_text name t in
      let e2 : x2 ≡ x1 = q.grew.grows.same_text name (TextIn-grows d d1 p.grew.grows name t) in
      let e3 : v3 ≡ v2 = value-grows d2 d3 r.grew.grows (v.Object made) o in
      Part-passed home (Ok step) d d3 d3 f f f (named_row home.0 parent node params x finished) (is_value v3 finished)
      (Passes-then d d1 d3 f f f (named_row home.0 parent node params x finished) (rest x id.0 finished)
      (is_value v3 finished)
      (WentOn-passes ℕ d d1 f f (add_scope (scope home.0 (Some parent) (binding x None true ∷ []))) id.0
      (λ sc. rest x sc finished)
      (WentOn-free ℕ d d1 f (add_scope (scope home.0 (Some parent) (binding x None true ∷ []))) id.0 p))
      (Passes-then d1 d1 d3 f f f (rest x id.0 finished) (rest x1 id.0 finished) (is_value v3 finished)
      (Passes-by d1 f (rest x id.0 finished) (rest x1 id.0 finished)
      (λ log. ap (λ y. rest y id.0 finished (Image d1 log)) (sym e1)))
      (Passes-then d1 d2 d3 f f f (rest x1 id.0 finished) (given x1 id.0 v2 finished) (is_value v3 finished)
      (Makes-passes d1 d2 f (make_function (code home.0 node id.0 true None) (Some x1) params x1) made
      (λ w. given x1 id.0 w finished) q)
      (Passes-then d2 d2 d3 f f f (given x1 id.0 v2 finished) (given x2 id.0 v2 finished) (is_value v3 finished)
      (Passes-by d2 f (given x1 id.0 v2 finished) (given x2 id.0 v2 finished)
      (λ log. ap (λ y. given y id.0 v2 finished (Image d2 log)) (sym e2)))
      (Passes-then d2 d3 d3 f f f (given x2 id.0 v2 finished) (is_value v2 finished) (is_value v3 finished)
      (Changes-passes d2 d3 f (initialize id.0 x2 v2) (λ b. is_value v2 finished) r)
      (Passes-by d3 f (is_value v2 finished) (is_value v3 finished)
      (λ log. ap (λ w. is_value w finished (Image d3 log)) (sym e3))))))))
      (Part-sure home d3 f (is_value v3 finished) step s)
