-- Names that are written.
use Rattle.std.proofs.Common.{◌<◌, ◌∷◌, [], arith, length, suc, zero, Bool, List, map, None, Ok, Option, Result, Some}
use Rattle.std.proofs.Common.{ap, false, option_map, refl, slice_get, slice_set, sym, true, ℕ, ◌∙◌, ◌≡◌}
use Rattle.std.proofs.lemmas.List.{map-set}
use Rattle.std.proofs.lemmas.Option.{slice_get-map}
use Rattle.mb_base.specs.declared.value.ScopeId.{ScopeId}
use Rattle.mb_base.specs.declared.value.Side.{Side}
use Rattle.mb_base.specs.declared.value.Value.{Value}
use Rattle.mb_eval_expr.proofs.Naming.{binding-is}
use Rattle.mb_frames.proofs.Passed.{Part-by, Part-passed, Part-sure, Passes-becomes}
use Rattle.mb_frames.specs.Passing.{Part}
use Rattle.mb_frames.specs.Stepping.{Sure}
use Rattle.mb_frames.specs.declared.frame.Move.{Move}
use Rattle.mb_frames.specs.declared.machine.Halt.{Halt}
use Rattle.mb_model.specs.Meaning.{finished}
use Rattle.mb_model.specs.Nodes.Scopes.{bind_with, binding_at, find_binding, giving as graph_giving, resolve}
use Rattle.mb_model.specs.Nodes.Scopes.{scope_with, scopes_with, write_bound, write_name, write_value}
use Rattle.mb_model.specs.Writing.{◌>>=◌, is_value, reference_error, type_error}
use Rattle.mb_world.proofs.AfterCalls.{of-changed-scope}
use Rattle.mb_world.specs.declared.scope.Bound.{Bound}
use Rattle.mb_world.specs.declared.scope.Scope.{Scope}
use Rattle.mb_world.specs.Data.{Data, Script, change_scope, change_scope_if, give_if, given_value, giving, scope_at}
use Rattle.mb_world.specs.Data.{set_scope}
use Rattle.mb_world.specs.Graph.{Binding, Entry, Graph, Item, Scope as GraphScope}
use Rattle.mb_world.specs.Image.{Image, Resolve, binding_in, entries_in, names_of, scope_in}
use Rattle.mb_world.specs.Value.{Val}

pub none-here : {A : Type 0} (xs : List A) (i : ℕ) → slice_get xs i ≡ None → i < length xs → ⊥
none-here [] i e h = omega (arith, h)
none-here (y ∷ ys) zero e h = cc
none-here (y ∷ ys) (suc i) e h = none-here ys i e (omega (arith, h))

module _ (home : Side) (d : Data) (f scope : ℕ) (name : List ℕ) (y gives : Val) where
  row-is : (b : Option Binding) (log : List Item) → find_binding (Image d log) scope name ≡ b
      → (write_name home.0 scope name y >>= (λ b. is_value gives)) finished (Image d log)
      ≡ (write_bound home.0 scope name y b >>= (λ b. is_value gives)) finished (Image d log)
  row-is b log e = ap (λ o. (write_bound home.0 scope name y o >>= (λ b. is_value gives)) finished (Image d log)) e

  -- no scope binds the name
  pub Part-unbound : (r : Result Move Halt) (d' : Data) → ((log : List Item) → resolve (Image d log) scope name ≡ None)
      → Part home r d d' f f (reference_error home.0 finished)
      → Part home r d d' f f ((write_name home.0 scope name y >>= (λ b. is_value gives)) finished)
  Part-unbound r d' h s =
      Part-by home r d d' f f ((write_name home.0 scope name y >>= (λ b. is_value gives)) finished)
      (reference_error home.0 finished)
      (λ log. row-is None log (ap (binding_at (Image d log)) (h log))) s

  module _ (at : ScopeId) (place : ℕ) (s : Scope) (b : Bound) (e : scope_at d at ≡ Some s)
      (g : slice_get s.names place ≡ Some b) (h : (log : List Item) → resolve (Image d log) scope name ≡ Some
      (at.0, place)) where
    found : (log : List Item) → find_binding (Image d log) scope name ≡ Some (binding_in (names_of d) b)
    found log =
        ap (binding_at (Image d log)) (h log) ∙ binding-is d at s place e log
        ∙ ap (option_map (binding_in (names_of d))) g

    to-value : (fixed : Bool) (o : Option Val) (log : List Item) → b.fixed ≡ fixed → option_map
        (Resolve (names_of d)) b.value ≡ o
        → (write_name home.0 scope name y >>= (λ b. is_value gives)) finished (Image d log)
        ≡ (write_value home.0 scope name y fixed o >>= (λ b. is_value gives)) finished (Image d log)
    to-value fixed o log p q =
        row-is (Some (binding_in (names_of d) b)) log (found log)
        ∙ ap (λ z. (write_value home.0 scope name y z (option_map (Resolve (names_of d)) b.value) >>=
        (λ b. is_value gives)) finished (Image d log)) p
        ∙ ap (λ z. (write_value home.0 scope name y fixed z >>= (λ b. is_value gives)) finished (Image d log)) q

    -- it isn't given yet
    pub Part-ungiven : (r : Result Move Halt) (d' : Data) → b.value ≡ None → Part home r d d' f f
        (reference_error home.0 finished)
        → Part home r d d' f f ((write_name home.0 scope name y >>= (λ b. is_value gives)) finished)
    Part-ungiven r d' q k =
        Part-by home r d d' f f ((write_name home.0 scope name y >>= (λ b. is_value gives)) finished)
        (reference_error home.0 finished)
        (λ log. to-value b.fixed None log refl (ap (option_map (Resolve (names_of d))) q)) k

    -- it is fixed
    pub Part-fixed : (r : Result Move Halt) (d' : Data) (v : Value) → b.value ≡ Some v → b.fixed ≡ true
        → Part home r d d' f f (type_error home.0 finished)
        → Part home r d d' f f ((write_name home.0 scope name y >>= (λ b. is_value gives)) finished)
    Part-fixed r d' v q p k =
        Part-by home r d d' f f ((write_name home.0 scope name y >>= (λ b. is_value gives)) finished)
        (type_error home.0 finished)
        (λ log. to-value true (Some (Resolve (names_of d) v)) log p (ap (option_map (Resolve (names_of d))) q)) k

    written-scope : (x : Value) → Resolve (names_of d) x ≡ y
        → scope_with (scope_in (names_of d) s) place y ≡ scope_in (names_of d) (giving place x s)
    written-scope x r =
        let n = names_of d in
        let bs : List Binding = map (binding_in n) s.names in
        let W : List Binding → GraphScope = λ l. record {
          side = s.home.0;
          parent = option_map (λ p. p.0) s.parent;
          bindings = l;
        } in
        ap W (ap (λ o. bind_with bs place o y) (slice_get-map (binding_in n) s.names place ∙ ap
        (option_map (binding_in n)) g)
        ∙ ap (λ w. slice_set bs place (record (binding_in n b) { value = Some w })) (sym r)
        ∙ sym (ap (λ o. map (binding_in n) (give_if place x s.names o)) g
        ∙ map-set (binding_in n) s.names place (given_value x b)))

    -- it is written
    pub Part-given : (d' : Data) (v x z : Value) (step : Move) → b.value ≡ Some v → b.fixed ≡ false
        → Resolve (names_of d) x ≡ y → Resolve (names_of d) z ≡ gives → d' ≡ change_scope d at (giving place x)
        → Sure home d' (is_value (Resolve (names_of d') z) finished) step
        → Part home (Ok step) d d' f f ((write_name home.0 scope name y >>= (λ b. is_value gives)) finished)
    Part-given d' v x z step q p rx rz c k =
        let F : Graph → Graph = λ i. record i {
          scopes = slice_set i.scopes at.0
              (scope_in (names_of d) (giving place x s));
        } in
        let same : (A : Type 0) (t : Data → A) → t d' ≡ t (set_scope d at (giving place x s))
        = λ A t. ap t c ∙ ap (λ o. t (change_scope_if d at (giving place x) o)) e in
        Part-passed home (Ok step) d d' d' f f f
        ((write_name home.0 scope name y >>= (λ b. is_value gives)) finished)
        (is_value (Resolve (names_of d') z) finished)
        (Passes-becomes d d' f F _ _ (rw c (of-changed-scope d at s (giving place x) e))
        (same (List Entry) (λ i. entries_in i)) (same (List (Option Script)) (λ i. i.programs))
        (same ℕ (λ i. i.sides)) (same Bool (λ i. i.joined))
        (λ log.
        to-value false (Some (Resolve (names_of d) v)) log p (ap (option_map (Resolve (names_of d))) q)
        ∙ ap (λ o. is_value gives finished (graph_giving o y (Image d log))) (h log)
        ∙ ap (λ o. is_value gives finished
        (record (Image d log) { scopes = scopes_with (Image d log).scopes at.0 place o y }))
        (slice_get-map (scope_in (names_of d)) d.scopes at.0 ∙ ap (option_map (scope_in (names_of d))) e)
        ∙ ap (λ t. is_value gives finished (record (Image d log) { scopes = slice_set (Image d log).scopes at.0 t }))
        (written-scope x rx)
        ∙ ap (λ w. is_value w finished (F (Image d log))) (sym rz ∙ sym (same Val (λ i. Resolve (names_of i) z)))))
        (Part-sure home d' f (is_value (Resolve (names_of d') z) finished) step k)
