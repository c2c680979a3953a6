-- The names that entering a function binds: those of its node, but for its own name.
use Rattle.std.proofs.Common.{◌<◌, ◌≡◌, ◌∙◌, ◌∷◌, Bool, List, None, Option, Some, [], ap, drop, false, is_some, map}
use Rattle.std.proofs.Common.{nat_eq, refl, slice_get, subst, sym, true, true≢false, ℕ}
use Rattle.std.proofs.lemmas.List.Elements.{All-nil, All-tail}
use Rattle.std.specs.List.{IsDistinct}
use Rattle.std.specs.Prelude.{All}
use Rattle.mb_call.specs.machine.Functions.{entering, own_count, own_name}
use Rattle.mb_frames.specs.Grammatical.{without_own}
use Rattle.mb_frames.specs.Kinds.{is_function_form}
use Rattle.mb_frames.specs.Ready.{IsReady}
use Rattle.mb_frames.specs.Standing.{forms_at}
use Rattle.mb_frames.specs.Told.{told}
use Rattle.mb_model.specs.Nodes.Functions.{entered_names}
use Rattle.mb_model.specs.Nodes.Scopes.{enter_names}
use Rattle.mb_model.specs.Writing.{Row}
use Rattle.mb_parts.proofs.Distinct.{NamesApart, names-apart}
use Rattle.mb_parts.proofs.Entered.{names-are}
use Rattle.mb_parts.specs.Scopes.{bound_by}
use Rattle.mb_tree.specs.Form as t
use Rattle.mb_tree.specs.Names.{Binds}
use Rattle.mb_world.specs.Data.{Data, program_of}
use Rattle.mb_world.specs.Form.{Form}
use Rattle.mb_world.specs.FormOf.{TreeNode}
use Rattle.mb_world.specs.Graph.{Graph, Item, ScopeName}
use Rattle.mb_world.specs.Image.{Image, name_in}
use Rattle.mb_world.specs.declared.cell.Code.{Code}

-- ---- lists without their first element, or whole

pub drop-none : {A : Type 0} (xs : List A) → drop 0 xs ≡ xs
drop-none [] = refl
drop-none (x ∷ xs) = refl

drop-one : {A : Type 0} (x : A) (xs : List A) → drop 1 (x ∷ xs) ≡ xs
drop-one x xs = drop-none xs

drop-map : {A B : Type 0} (f : A → B) (xs : List A) → drop 1 (map f xs) ≡ map f (drop 1 xs)
drop-map f [] = refl
drop-map f (x ∷ xs) = drop-none (map f xs) ∙ ap (map f) (sym (drop-none xs))

pub all-but-own : {A : Type 0} (P : A → Type 0) (named : Bool) (xs : List A) → All P xs → All P
    (drop (own_count named) xs)
all-but-own P false xs h = subst (All P) (sym (drop-none xs)) h
all-but-own P true [] h = All-nil P
all-but-own P true (x ∷ xs) h = subst (All P) (sym (drop-one x xs)) (All-tail P x xs h)

-- ---- the names of a function

names-entered : (texts : List (List ℕ)) (own : Option (List ℕ)) (bs : List Binds)
    → entered_names own (map (name_in texts) bs) ≡ map (name_in texts) (drop (own_count (is_some own)) bs)
names-entered texts None bs = ap (map (name_in texts)) (sym (drop-none bs))
names-entered texts (Some x) bs = drop-map (name_in texts) bs

-- only a function expression has a name of its own
own-told : (texts : List (List ℕ)) (ns : List TreeNode) (f : t.Form) (names : List Binds)
    → without_own (Some f) names ≡ drop (own_count (is_some (own_name (Some (told texts ns f))))) names
own-told texts ns (t.FunctionForm (Some n) p) names = refl
own-told texts ns (t.FunctionForm None p) names = sym (drop-none names)
own-told texts ns _ names = sym (drop-none names)

form-there : (o : Option Form) → is_function_form o ≡ true → is_some o ≡ true
form-there None h = absurd (true≢false (sym h))
form-there (Some f) h = refl

module _ (d : Data) (code : Code) (named : Bool)
    (own : named ≡ is_some (own_name (slice_get (forms_at d code.side) code.node.0))) where
  abbrev pub bound : List Binds
  bound = drop (own_count named) (bound_by (program_of d code.side) code.node)

  -- the part that enters its scope binds these
  pub entering-row : code.side.0 < d.sides → (k : ℕ → Graph → Row) (log : List Item)
      → entering d code k (Image d log)
      ≡ enter_names code.side.0 code.scope.0 (map (name_in d.texts) bound) k (Image d log)
  entering-row h k log =
      let mine : Option (List ℕ) = own_name (slice_get (forms_at d code.side) code.node.0) in
      let all : List Binds = bound_by (program_of d code.side) code.node in
      ap (λ (xs : List ScopeName). enter_names code.side.0 code.scope.0 (entered_names mine xs) k (Image d log))
      (names-are d code.side code.node log h)
      ∙ ap (λ (xs : List ScopeName). enter_names code.side.0 code.scope.0 xs k (Image d log))
      (names-entered d.texts mine all)
      ∙ ap (λ (b : Bool). enter_names code.side.0 code.scope.0 (map (name_in d.texts) (drop (own_count b) all)) k
      (Image d log)) (sym own)

  pub bound-distinct : IsReady d → is_function_form (slice_get (forms_at d code.side) code.node.0) ≡ true
      → IsDistinct (λ (a b : Binds). nat_eq a.1.0 b.1.0) bound
  bound-distinct r h =
      let q : NamesApart d code.side code.node
      = names-apart d code.side code.node (form-there (slice_get (forms_at d code.side) code.node.0) h) r in
      let all : List Binds = bound_by (program_of d code.side) code.node in
      subst (λ (b : Bool). IsDistinct (λ (a b : Binds). nat_eq a.1.0 b.1.0) (drop (own_count b) all)) (sym own)
      (subst (λ (o : Option Form). IsDistinct (λ (a b : Binds). nat_eq a.1.0 b.1.0)
      (drop (own_count (is_some (own_name o))) all)) (sym q.there)
      (subst (IsDistinct (λ (a b : Binds). nat_eq a.1.0 b.1.0)) (own-told _ _ q.form all) q.distinct))
