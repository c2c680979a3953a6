-- The names that the scopes of a script bind: they stand by their nodes, and those of one scope are distinct.
use Rattle.mb_base.specs.declared.value.NodeId.{NodeId}
use Rattle.mb_base.specs.declared.value.StrId.{StrId}
use Rattle.mb_frames.specs.Grammatical.{bound_at as names_bound_at, without_own}
use Rattle.mb_scope.specs.Bindings.{Repeats, bindings_of, catch_block, in_block}
use Rattle.mb_scope.specs.Faults.{IsRight}
use Rattle.mb_scope.specs.Kinds.{names_itself}
use Rattle.mb_scope.specs.Names.{entry, itself, names_from, names_of, own_name, scope_names}
use Rattle.mb_scope.specs.declared.binding.Binding.{Binding}
use Rattle.mb_scope.specs.declared.fault.NameFault.TheVariants.{Twice}
use Rattle.mb_tree.proofs.Shapes.{form_is}
use Rattle.mb_tree.specs.Form.{AndForm, ArrayForm, ArrowForm, AssignForm, BinaryForm, BlockForm, BreakForm, CallForm}
use Rattle.mb_tree.specs.Form.{CompoundForm, CondForm, ConstForm, ContinueForm, DeclForm, DoWhileForm, EmptyForm}
use Rattle.mb_tree.specs.Form.{ExprStmtForm, ForForm, Form, FunctionDeclForm, FunctionForm, FunctionParts, GetterForm}
use Rattle.mb_tree.specs.Form.{GroupForm, IfForm, IndexForm, LetForm, LiteralForm, MemberForm, MethodForm, NameForm}
use Rattle.mb_tree.specs.Form.{NewForm, NumberForm, ObjectForm, OrForm, ParamForm, ReturnForm, ScriptForm, SeqForm}
use Rattle.mb_tree.specs.Form.{SetterForm, TextForm, ThisForm, ThrowForm, TryForm, UnaryForm, UpdateForm, ValueForm}
use Rattle.mb_tree.specs.Form.{WhileForm, form_by, form_of, function_parts, kind_of}
use Rattle.mb_tree.specs.Names.{Binds}
use Rattle.mb_tree.specs.Roses.{Shape, id_of}
use Rattle.mb_tree.specs.declared.kind.Kind.{Kind}
use Rattle.mb_tree.specs.declared.kind.Kind.TheVariants as k
use Rattle.mb_world.specs.Data.{Script}
use Rattle.std.proofs.Common.{Bool, List, None, Option, Some, [], ap, append-nil, arith, false, map, nat_eq}
use Rattle.std.proofs.Common.{option_map, refl, slice_get, subst, suc, sym, true, true≢false, zero, ℕ, ◌+◌, ◌++◌, ◌<◌}
use Rattle.std.proofs.Common.{◌∙◌, ◌∷◌, ◌≡◌}
use Rattle.std.proofs.lemmas.Bool.{eq-eqb, ne_eqb}
use Rattle.std.proofs.lemmas.List.Elements.{filter-append}
use Rattle.std.proofs.lemmas.Map.Keys.{IsDistinct-cons}
use Rattle.std.specs.List.{AllByRecursion, IsDistinct, filter}
use Rattle.std.specs.Prelude.{is_some}

-- ---- by their nodes

abbrev of-node : ℕ → Binds → Bool
of-node n x = nat_eq x.0.0 n

abbrev AllOfNode : ℕ → List Binds → Type 0
AllOfNode m xs = AllByRecursion (λ (x : Binds). x.0.0 ≡ m) xs

kept : (m : ℕ) (xs : List Binds) → AllOfNode m xs → filter (of-node m) xs ≡ xs
kept m [] h = refl
kept m (x ∷ xs) h =
    let b : nat_eq x.0.0 m ≡ true = eq-eqb x.0.0 m h.0 in
    rw b (ap (λ (ys : List Binds). x ∷ ys) (kept m xs h.1))

gone : (m n : ℕ) → (m ≡ n → ⊥) → (xs : List Binds) → AllOfNode m xs → filter (of-node n) xs ≡ []
gone m n d [] h = refl
gone m n d (x ∷ xs) h =
    let b : nat_eq x.0.0 n ≡ false = ne_eqb x.0.0 n (λ e. d (sym h.0 ∙ e)) in
    rw b (gone m n d xs h.1)

join-of : (m : ℕ) (xs ys : List Binds) → AllOfNode m xs → AllOfNode m ys → AllOfNode m (xs ++ ys)
join-of m [] ys h k = k
join-of m (x ∷ xs) ys h k = (h.0, join-of m xs ys h.1 k)

itself-of : (m : ℕ) (b : Bool) (name : Option StrId) → AllOfNode m (itself (id_of m) b name)
itself-of m true (Some name) = (refl, tt)
itself-of m true None = tt
itself-of m false (Some name) = tt
itself-of m false None = tt

entries-of : (m : ℕ) (bs : List Binding) → AllOfNode m (map (entry (id_of m)) bs)
entries-of m [] = tt
entries-of m (b ∷ bs) = (refl, entries-of m bs)

module _ (shapes : List Shape) where
  scope-of : (m : ℕ) (x : Shape) → AllOfNode m (scope_names shapes (id_of m) x)
  scope-of m x =
      join-of m (own_name (id_of m) x) (map (entry (id_of m)) (bindings_of shapes x.children))
      (itself-of m (names_itself x.label.kind) x.label.name) (entries-of m (bindings_of shapes x.children))

  none-left : (m n : ℕ) (xs : List Shape) → n < m → filter (of-node n) (names_from shapes m xs) ≡ []
  none-left m n [] l = refl
  none-left m n (x ∷ xs) l =
      filter-append (of-node n) (scope_names shapes (id_of m) x) (names_from shapes (suc m) xs)
      ∙ ap (λ (ys : List Binds). ys ++ filter (of-node n) (names_from shapes (suc m) xs))
      (gone m n (λ e. omega (arith, e, l)) (scope_names shapes (id_of m) x) (scope-of m x))
      ∙ none-left (suc m) n xs (omega (arith, l))

  names-at : (m n : ℕ) (xs : List Shape) (k : ℕ) (x : Shape) → slice_get xs k ≡ Some x → m + k ≡ n
      → filter (of-node n) (names_from shapes m xs) ≡ scope_names shapes (id_of n) x
  names-at m n [] k x e q = cc
  names-at m n (y ∷ ys) zero x e q =
      let same : m ≡ n = omega (arith, q) in
      let own : y ≡ x = cc in
      subst (λ (j : ℕ). filter (of-node j) (names_from shapes m (y ∷ ys)) ≡ scope_names shapes (id_of j) x) same
      (filter-append (of-node m) (scope_names shapes (id_of m) y) (names_from shapes (suc m) ys)
      ∙ ap (λ (zs : List Binds). filter (of-node m) (scope_names shapes (id_of m) y) ++ zs)
      (none-left (suc m) m ys (omega arith))
      ∙ append-nil (filter (of-node m) (scope_names shapes (id_of m) y))
      ∙ kept m (scope_names shapes (id_of m) y) (scope-of m y)
      ∙ ap (λ (z : Shape). scope_names shapes (id_of m) z) own)
  names-at m n (y ∷ ys) (suc k) x e q =
      filter-append (of-node n) (scope_names shapes (id_of m) y) (names_from shapes (suc m) ys)
      ∙ ap (λ (zs : List Binds). zs ++ filter (of-node n) (names_from shapes (suc m) ys))
      (gone m n (λ z. omega (arith, z, q)) (scope_names shapes (id_of m) y) (scope-of m y))
      ∙ names-at (suc m) n ys k x e (omega (arith, q))

-- ---- distinct

abbrev same-name : Binds → Binds → Bool
same-name a b = nat_eq a.1.0 b.1.0

distinct-none : (e : Binds → Binds → Bool) → IsDistinct e []
unfolding IsDistinct
distinct-none e = tt

apart : (scope : NodeId) (b : Binding) (bs : List Binding) → ((k : ℕ) (c : Binding) → slice_get bs k ≡ Some c
    → b.name ≡ c.name → ⊥) → AllByRecursion (λ (y : Binds). nat_eq b.name.0 y.1.0 ≡ false) (map (entry scope) bs)
apart scope b [] h = tt
apart scope b (c ∷ cs) h = (
  ne_eqb b.name.0 c.name.0 (λ e. h 0 c refl (ap (λ (n : ℕ). let id : StrId = record { 0 = n } in id) e)),
  apart scope b cs (λ k d is same. h (suc k) d is same),
)

distinct : (scope : NodeId) (bs : List Binding) → ((id : NodeId) → Repeats bs id → ⊥)
    → IsDistinct same-name (map (entry scope) bs)
distinct scope [] h = distinct-none same-name
distinct scope (b ∷ bs) h =
    IsDistinct-cons same-name (entry scope b) (map (entry scope) bs)
    (apart scope b bs (λ k c is same. h c.node (record {
      first = 0;
      second = suc k;
      earlier = b;
      later = c;
      in_order = omega arith;
      earlier_is = refl;
      later_is = is;
      one_name = same;
      of_node = refl;
    })))
    (distinct scope bs (λ id r. h id (record {
      first = suc r.first;
      second = suc r.second;
      earlier = r.earlier;
      later = r.later;
      in_order = omega (arith, r.in_order);
      earlier_is = r.earlier_is;
      later_is = r.later_is;
      one_name = r.one_name;
      of_node = r.of_node;
    })))

still-there : {X : Type 0} (xs ys : List X) (k : ℕ) (x : X) → slice_get xs k ≡ Some x
    → slice_get (xs ++ ys) k ≡ Some x
still-there [] ys k x e = cc
still-there (z ∷ zs) ys zero x e = e
still-there (z ∷ zs) ys (suc k) x e = still-there zs ys k x e

-- ---- whose name is its own

-- only a function expression binds its own name
function-kind : (kind : Kind) → names_itself kind ≡ true → (params : ℕ) × (kind ≡ k.Function params)
function-kind k.Script e = cc
function-kind k.Let e = cc
function-kind k.Const e = cc
function-kind k.Decl e = cc
function-kind (k.FunctionDecl a) e = cc
function-kind k.Block e = cc
function-kind k.Empty e = cc
function-kind k.ExprStmt e = cc
function-kind k.If e = cc
function-kind k.While e = cc
function-kind k.DoWhile e = cc
function-kind (k.For a b c) e = cc
function-kind k.Return e = cc
function-kind k.Throw e = cc
function-kind k.Break e = cc
function-kind k.Continue e = cc
function-kind (k.Try a b c) e = cc
function-kind k.Param e = cc
function-kind k.Seq e = cc
function-kind k.Assign e = cc
function-kind (k.Compound a) e = cc
function-kind (k.Arrow a b) e = cc
function-kind k.Cond e = cc
function-kind k.Or e = cc
function-kind k.And e = cc
function-kind (k.Binary a) e = cc
function-kind (k.Unary a) e = cc
function-kind (k.Update a b) e = cc
function-kind k.New e = cc
function-kind k.Member e = cc
function-kind k.Index e = cc
function-kind k.Call e = cc
function-kind k.This e = cc
function-kind k.Name e = cc
function-kind k.Number e = cc
function-kind k.Text e = cc
function-kind (k.Literal a) e = cc
function-kind k.ArrayLit e = cc
function-kind k.ObjectLit e = cc
function-kind k.Group e = cc
function-kind (k.Value a) e = cc
function-kind (k.Method a b) e = cc
function-kind (k.Getter a) e = cc
function-kind (k.Setter a) e = cc
function-kind (k.Function params) e = (params, refl)

-- and a form of another kind has none
other-form : (f : Form) (kind : Kind) → kind_of f ≡ kind → names_itself kind ≡ false → (names : List Binds)
    → without_own (Some f) names ≡ names
other-form (ScriptForm a) kind e z names = refl
other-form (LetForm a) kind e z names = refl
other-form (ConstForm a) kind e z names = refl
other-form (DeclForm a b) kind e z names = refl
other-form (FunctionDeclForm a b) kind e z names = refl
other-form (BlockForm a) kind e z names = refl
other-form EmptyForm kind e z names = refl
other-form (ExprStmtForm a) kind e z names = refl
other-form (IfForm a b c) kind e z names = refl
other-form (WhileForm a b) kind e z names = refl
other-form (DoWhileForm a b) kind e z names = refl
other-form (ForForm a b c d) kind e z names = refl
other-form (ReturnForm a) kind e z names = refl
other-form (ThrowForm a) kind e z names = refl
other-form BreakForm kind e z names = refl
other-form ContinueForm kind e z names = refl
other-form (TryForm a b c d) kind e z names = refl
other-form (ParamForm a) kind e z names = refl
other-form (SeqForm a) kind e z names = refl
other-form (AssignForm a b) kind e z names = refl
other-form (CompoundForm a b c) kind e z names = refl
other-form (ArrowForm a b) kind e z names = refl
other-form (CondForm a b c) kind e z names = refl
other-form (OrForm a b) kind e z names = refl
other-form (AndForm a b) kind e z names = refl
other-form (BinaryForm a b c) kind e z names = refl
other-form (UnaryForm a b) kind e z names = refl
other-form (UpdateForm a b c) kind e z names = refl
other-form (NewForm a b) kind e z names = refl
other-form (MemberForm a b) kind e z names = refl
other-form (IndexForm a b) kind e z names = refl
other-form (CallForm a b) kind e z names = refl
other-form ThisForm kind e z names = refl
other-form (NameForm a) kind e z names = refl
other-form (NumberForm a) kind e z names = refl
other-form (TextForm a) kind e z names = refl
other-form (LiteralForm a) kind e z names = refl
other-form (ArrayForm a) kind e z names = refl
other-form (ObjectForm a) kind e z names = refl
other-form (GroupForm a) kind e z names = refl
other-form (ValueForm a b) kind e z names = refl
other-form (MethodForm a b) kind e z names = refl
other-form (GetterForm a b) kind e z names = refl
other-form (SetterForm a b) kind e z names = refl
other-form (FunctionForm None parts) kind e z names = refl
other-form (FunctionForm (Some name) parts) kind e z names =
    absurd (true≢false (ap (λ (y : Kind). names_itself y) e ∙ z))

other-names : (kind : Kind) → names_itself kind ≡ false → (o : Option Form)
    → ((f : Form) → o ≡ Some f → kind_of f ≡ kind) → (names : List Binds) → without_own o names ≡ names
other-names kind d None h names = refl
other-names kind d (Some f) h names = other-form f kind (h f refl) d names

own-first : (scope : NodeId) (name : StrId) (q : Option FunctionParts) (bound : List Binds)
    → is_some (option_map (FunctionForm (Some name)) q) ≡ true
    → without_own (option_map (FunctionForm (Some name)) q) ((scope, name, true) ∷ bound) ≡ bound
own-first scope name None bound h = cc
own-first scope name (Some parts) bound h = refl

own-none : (q : Option FunctionParts) (bound : List Binds)
    → without_own (option_map (FunctionForm None) q) bound ≡ bound
own-none None bound = refl
own-none (Some parts) bound = refl

module _ (shapes : List Shape) (right : IsRight shapes) (n : NodeId) (x : Shape) (is : slice_get shapes n.0 ≡ Some x)
    (form : is_some (form_of x) ≡ true) where
  no-repeats : (id : NodeId) → Repeats (bindings_of shapes x.children) id → ⊥
  no-repeats id r = right (Twice id) (record {
    scope = n;
    node = x;
    is = is;
    repeats = record {
      first = r.first;
      second = r.second;
      earlier = r.earlier;
      later = r.later;
      in_order = r.in_order;
      earlier_is = still-there (bindings_of shapes x.children) (in_block shapes (catch_block x)) r.first r.earlier
          r.earlier_is;
      later_is = still-there (bindings_of shapes x.children) (in_block shapes (catch_block x)) r.second r.later
          r.later_is;
      one_name = r.one_name;
      of_node = r.of_node;
    };
  })

  abbrev bound : List Binds
  bound = map (entry n) (bindings_of shapes x.children)

  bound-apart : IsDistinct same-name (map (entry n) (bindings_of shapes x.children))
  bound-apart = distinct n (bindings_of shapes x.children) no-repeats

  function-names : (params : ℕ) → x.label.kind ≡ k.Function params → (name : Option StrId) → x.label.name ≡ name
      → without_own (form_of x) (itself n true name ++ bound) ≡ bound
  function-names params e None q =
      let same : form_of x ≡ option_map (FunctionForm None) (function_parts params x.children) =
      ap (λ (z : Kind). form_by z x.label x.children) e
      ∙ ap (λ (z : Option StrId). option_map (FunctionForm z) (function_parts params x.children)) q in
      ap (λ (o : Option Form). without_own o bound) same ∙ own-none (function_parts params x.children) bound
  function-names params e (Some name) q =
      let same : form_of x ≡ option_map (FunctionForm (Some name)) (function_parts params x.children) =
      ap (λ (z : Kind). form_by z x.label x.children) e
      ∙ ap (λ (z : Option StrId). option_map (FunctionForm z) (function_parts params x.children)) q in
      ap (λ (o : Option Form). without_own o ((n, name, true) ∷ bound)) same
      ∙ own-first n name (function_parts params x.children) bound
      (subst (λ (o : Option Form). is_some o ≡ true) same form)

  scope-names : (b : Bool) → names_itself x.label.kind ≡ b
      → without_own (form_of x) (itself n b x.label.name ++ bound) ≡ bound
  scope-names false e =
      other-names x.label.kind e (form_of x) (λ f is. (form_is x.label.kind x.label x.children f is).0) bound
  scope-names true e =
      let function = function-kind x.label.kind e in
      function-names function.0 function.1 x.label.name refl

  scope-apart : IsDistinct same-name (without_own (form_of x) (scope_names shapes n x))
  scope-apart =
      subst (λ (names : List Binds). IsDistinct same-name names) (sym (scope-names (names_itself x.label.kind) refl))
      bound-apart

-- the names of each scope are distinct
pub names-apart : (p : Script) → IsRight p.nodes → p.names ≡ names_of p.nodes → (n : NodeId) (x : Shape)
    → slice_get p.nodes n.0 ≡ Some x → is_some (form_of x) ≡ true
    → IsDistinct (λ a b. nat_eq a.1.0 b.1.0) (without_own (form_of x) (names_bound_at p n))
names-apart p right e n x is form =
    subst (λ (names : List Binds). IsDistinct same-name (without_own (form_of x) names))
    (sym (ap (λ (names : List Binds). filter (of-node n.0) names) e
    ∙ names-at p.nodes 0 n.0 p.nodes n.0 x is (omega arith)))
    (scope-apart p.nodes right n x is form)
