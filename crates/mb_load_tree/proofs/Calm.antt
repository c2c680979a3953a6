-- Trees by whose nodes no static rule is broken.
use Rattle.std.proofs.Common.{◌≡◌, ℕ, ◌+◌, ◌⊎◌, inl, inr, false, List, [], ◌∷◌, ◌++◌, zero, suc, length, Some, None, Option, slice_get, if◌then◌else◌, refl, sym, ap, ap₂, subst, arith}
use Rattle.mb_base.specs.declared.value.NodeId.{NodeId}
use Rattle.mb_tree.specs.declared.kind.Kind.{Kind}
use Rattle.mb_tree.specs.Roses.{Shape, id_of}
use Rattle.mb_scope.specs.declared.binding.Declares.TheVariants.{Nothing}
use Rattle.mb_scope.specs.declared.jump.Jump.{Jump}
use Rattle.mb_scope.specs.declared.jump.Jump.TheVariants as jump
use Rattle.mb_scope.specs.declared.target.Use.{Use}
use Rattle.mb_scope.specs.declared.target.Use.TheVariants as usage
use Rattle.mb_scope.specs.declared.fault.NameFault.TheVariants.{Twice, Stray, BadTarget, NoMemory}
use Rattle.mb_scope.specs.Kinds.{declares_of, handler_of, jump_of, use_of, operand_of}
use Rattle.mb_scope.specs.Bindings.{bound_as, bound_at, bound_by, bindings_of, in_block, together, Repeats}
use Rattle.mb_scope.specs.Jumps.{IsPart, InFunction, direct_function, outer_function, InLoop, direct_loop, outer_loop, Strays}
use Rattle.mb_scope.specs.Targets.{IsNode, IsTarget, simple, grouped, IsProperty, MissesAt, MissesFirst}
use Rattle.mb_scope.specs.Faults.{IsRight}

-- lists

get_front : {X : Type 0} (xs ys : List X) (i : ℕ) (x : X) → slice_get xs i ≡ Some x → slice_get (xs ++ ys) i ≡ Some x
get_front [] ys i x is = cc
get_front (y ∷ xs) ys zero x is = is
get_front (y ∷ xs) ys (suc i) x is = get_front xs ys i x is

pub get_behind : {X : Type 0} (xs ys : List X) (k : ℕ) → slice_get (xs ++ ys) (length xs + k) ≡ slice_get ys k
get_behind [] ys k = let e : 0 + k ≡ k = omega arith in rw e refl
get_behind (x ∷ xs) ys k = let e : suc (length xs) + k ≡ suc (length xs + k) = omega arith in rw e (get_behind xs ys k)

get_either : {X : Type 0} (xs ys : List X) (i : ℕ) (x : X) → slice_get (xs ++ ys) i ≡ Some x → (slice_get xs i ≡ Some x) ⊎ ((k : ℕ) × (i ≡ length xs + k) × (slice_get ys k ≡ Some x))
get_either [] ys i x is = inr (i, omega arith, is)
get_either (y ∷ xs) ys zero x is = inl is
get_either (y ∷ xs) ys (suc i) x is = by (get_either xs ys i x is)
  where
    by : (slice_get xs i ≡ Some x) ⊎ ((k : ℕ) × (i ≡ length xs + k) × (slice_get ys k ≡ Some x)) → (slice_get xs i ≡ Some x) ⊎ ((k : ℕ) × (suc i ≡ suc (length xs) + k) × (slice_get ys k ≡ Some x))
    by (inl e) = inl e
    by (inr (k, e, at)) = inr (k, omega (arith, e), at)

-- a node that breaks no rule
pub record CalmAt (shapes : List Shape) (id : NodeId) (s : Shape) : Type 0 where
  pub declares : declares_of s.label.kind ≡ Nothing
  pub catches : handler_of s.label.kind s.children ≡ None
  pub stays : Strays shapes id (jump_of s.label.kind) → ⊥
  pub aims : MissesFirst shapes s → ⊥

pub record AreCalm (shapes : List Shape) : Type 0 where
  pub each : (id : NodeId) (s : Shape) → slice_get shapes id.0 ≡ Some s → CalmAt shapes id s

-- what is known of nodes stays when more are written
module _ (out xs : List Shape) where
  part_more : {id outer : NodeId} {node : Shape} → IsPart out id outer node → IsPart (out ++ xs) id outer node
  part_more {id} {outer} {node} part = record { is = get_front out xs outer.0 node part.is; among = part.among }

  function_more : {id : NodeId} → InFunction out id → InFunction (out ++ xs) id
  function_more (direct_function part is) = direct_function (part_more part) is
  function_more (outer_function part rest) = outer_function (part_more part) (function_more rest)

  loop_more : {id : NodeId} → InLoop out id → InLoop (out ++ xs) id
  loop_more (direct_loop part is) = direct_loop (part_more part) is
  loop_more (outer_loop part is rest) = outer_loop (part_more part) is (loop_more rest)

  node_more : {id : NodeId} {node : Shape} → IsNode out id node → IsNode (out ++ xs) id node
  node_more {id} {node} n = record { is = get_front out xs id.0 node n.is }

  target_more : {id : NodeId} → IsTarget out id → IsTarget (out ++ xs) id
  target_more (simple n form) = simple (node_more n) form
  target_more (grouped n form first rest) = grouped (node_more n) form first (target_more rest)

  property_more : {id : NodeId} → IsProperty out id → IsProperty (out ++ xs) id
  property_more {id} p = record { node = p.node; is = get_front out xs id.0 p.node p.is; property = p.property }

  strays_less : (id : NodeId) (j : Jump) → Strays (out ++ xs) id j → Strays out id j
  strays_less id jump.FromFunction strays = λ f. strays (function_more f)
  strays_less id jump.FromLoop strays = λ f. strays (loop_more f)
  strays_less id jump.Nothing strays = strays

  misses_less : (u : Use) (o : Option NodeId) → MissesAt (out ++ xs) u o → MissesAt out u o
  misses_less u None m = m
  misses_less usage.Assigns (Some operand) m = λ t. m (target_more t)
  misses_less usage.Deletes (Some operand) m = λ p. m (property_more p)
  misses_less usage.Plain (Some operand) m = m

  calm_more : (id : NodeId) (s : Shape) → CalmAt out id s → CalmAt (out ++ xs) id s
  calm_more id s calm = record {
    declares = calm.declares;
    catches = calm.catches;
    stays = λ strays. calm.stays (strays_less id (jump_of s.label.kind) strays);
    aims = λ m. calm.aims (misses_less (use_of s.label.kind) (operand_of s.label.kind s.children) m);
  }

  pub calm_append : AreCalm out → ((k : ℕ) (s : Shape) → slice_get xs k ≡ Some s → CalmAt (out ++ xs) (id_of (length out + k)) s) → AreCalm (out ++ xs)
  calm_append calm each = record { each = λ id s is. by id s (get_either out xs id.0 s is) }
    where
      by : (id : NodeId) (s : Shape) → (slice_get out id.0 ≡ Some s) ⊎ ((k : ℕ) × (id.0 ≡ length out + k) × (slice_get xs k ≡ Some s)) → CalmAt (out ++ xs) id s
      by id s (inl is) = calm_more id s (calm.each id s is)
      by id s (inr (k, e, is)) = subst (λ n. CalmAt (out ++ xs) (id_of n) s) (sym e) (each k s is)

-- a node of which no rule speaks
pub record IsQuiet (kind : Kind) : Type 0 where
  pub declares : declares_of kind ≡ Nothing
  pub catches : (parts : List NodeId) → handler_of kind parts ≡ None
  pub jumps : jump_of kind ≡ jump.Nothing
  pub uses : use_of kind ≡ usage.Plain

reads_nothing : (shapes : List Shape) (o : Option NodeId) → MissesAt shapes usage.Plain o → ⊥
reads_nothing shapes None m = m
reads_nothing shapes (Some operand) m = m

pub quiet_calm : (shapes : List Shape) (id : NodeId) (s : Shape) → IsQuiet s.label.kind → CalmAt shapes id s
quiet_calm shapes id s quiet = record {
  declares = quiet.declares;
  catches = quiet.catches s.children;
  stays = λ strays. subst (Strays shapes id) quiet.jumps strays;
  aims = λ m. reads_nothing shapes (operand_of s.label.kind s.children) (subst (λ u. MissesAt shapes u (operand_of s.label.kind s.children)) quiet.uses m);
}

pub calm_quiet : (out : List Shape) (s : Shape) → IsQuiet s.label.kind → AreCalm out → AreCalm (out ++ s ∷ [])
calm_quiet out s quiet calm = calm_append out (s ∷ []) calm one
  where
    one : (k : ℕ) (x : Shape) → slice_get (s ∷ []) k ≡ Some x → CalmAt (out ++ s ∷ []) (id_of (length out + k)) x
    one zero x is = let same : s ≡ x = cc in subst (λ y. CalmAt (out ++ s ∷ []) (id_of (length out + 0)) y) same (quiet_calm (out ++ s ∷ []) (id_of (length out + 0)) s quiet)
    one (suc k) x is = cc

pub none_calm : AreCalm []
none_calm = record { each = λ id s is. cc }

-- calm nodes are right
module _ (shapes : List Shape) (calm : AreCalm shapes) where
  binds_nothing : (id : NodeId) → bound_by shapes id ≡ []
  binds_nothing id = by (slice_get shapes id.0) refl
    where
      by : (o : Option Shape) → slice_get shapes id.0 ≡ o → bound_at shapes id o ≡ []
      by None e = refl
      by (Some s) e = ap (bound_as shapes id s) (calm.each id s e).declares

  no_bindings : (parts : List NodeId) → bindings_of shapes parts ≡ []
  no_bindings [] = refl
  no_bindings (id ∷ parts) = ap₂ (λ a b. a ++ b) (binds_nothing id) (no_bindings parts)

  nothing_together : (s : Shape) → handler_of s.label.kind s.children ≡ None → together shapes s ≡ []
  nothing_together s catches = ap₂ (λ a b. a ++ b) (no_bindings s.children) (ap (in_block shapes) catches)

  nothing_repeats : (id : NodeId) → Repeats [] id → ⊥
  nothing_repeats id repeats = let is = repeats.earlier_is in cc

  pub calm_right : IsRight shapes
  calm_right (Twice id) broken =
      nothing_repeats id (subst (λ bs. Repeats bs id) (nothing_together broken.node (calm.each broken.scope broken.node broken.is).catches) broken.repeats)
  calm_right (Stray id) broken = (calm.each id broken.node broken.is).stays broken.strays
  calm_right (BadTarget id) broken = (calm.each id broken.node broken.is).aims broken.misses
  calm_right NoMemory broken = broken
