-- The parts of a node, where the trees of its parts stand.
use Rattle.mb_base.specs.declared.value.NodeId.{NodeId}
use Rattle.mb_base.specs.declared.value.StrId.{StrId}
use Rattle.mb_frames.specs.Grammatical.{ArePartsOfFunction, HasItsParts}
use Rattle.mb_frames.specs.Kinds.{Expression, NodeSort, Parameter, Statement}
use Rattle.mb_programs.proofs.Sorts.{AllOf, sort_of}
use Rattle.mb_tree.specs.Form.{Form, FunctionDeclForm, FunctionParts, for_form, form_of, function_decl_form}
use Rattle.mb_tree.specs.Form.{function_parts, try_form}
use Rattle.mb_tree.specs.Roses.{Label, Rose, Roses, Shape, join, more, node, none, roots, shape, size}
use Rattle.mb_world.specs.Ids.{Maybe}
use Rattle.std.proofs.Common.{Bool, List, None, Option, Some, [], drop, false, inl, inr, length, option_map, refl}
use Rattle.std.proofs.Common.{subst, take, true, ℕ, ◌<◌, ◌∷◌, ◌≡◌}
use Rattle.std.proofs.lemmas.List.Elements.{All-cons, All-nil}
use Rattle.std.specs.Prelude.{All, if◌then◌else◌, nat_le, ◌⊎◌}

-- these are the places of those trees, where P tells which nodes are of a sort
abbrev pub Placed : (NodeSort → NodeId → Type 0) → List NodeId → Roses → Type 0
Placed P [] none = Unit {0}
Placed P [] (more part parts) = ⊥
Placed P (id ∷ ids) none = ⊥
Placed P (id ∷ ids) (more part parts) = P (sort_of part) id × Placed P ids parts

-- wherever it is written, a node has parts of the sorts of their places, and its name is one of n texts
abbrev pub Right : (NodeSort → NodeId → Type 0) → ℕ → Label → Roses → Type 0
Right P n label parts =
    Maybe (λ id. id.0 < n) label.name
    × ((out : List Shape) → Placed P (roots out parts) parts
    → (f : Form) → form_of (shape label (roots out parts)) ≡ Some f → HasItsParts P f)

-- each node of a tree is so
abbrev mutual
  pub Fits : (NodeSort → NodeId → Type 0) → ℕ → Rose → Type 0
  Fits P n (node label parts) = Right P n label parts × AllFit P n parts

  pub AllFit : (NodeSort → NodeId → Type 0) → ℕ → Roses → Type 0
  AllFit P n none = Unit {0}
  AllFit P n (more part parts) = Fits P n part × AllFit P n parts

pub join-fit : (P : NodeSort → NodeId → Type 0) (n : ℕ) (a b : Roses) → AllFit P n a → AllFit P n b
    → AllFit P n (join a b)
join-fit P n none b h k = k
join-fit P n (more part parts) b h k = (h.0, join-fit P n parts b h.1 k)

-- parts that may be left out
pub data OneIf (Q : Rose → Type 0) : Bool → Roses → Type 0 where
  no_part : OneIf Q false none
  a_part : {a : Rose} → Q a → OneIf Q true (more a none)

pub data CaughtIf : Bool → Bool → Roses → Type 0 where
  none_caught : CaughtIf false false none
  all_caught : {b : Rose} → sort_of b ≡ Statement → CaughtIf true false (more b none)
  one_caught : {a b : Rose} → sort_of a ≡ Parameter → sort_of b ≡ Statement → CaughtIf true true (more a (more b none))

abbrev pub IsOfSort : NodeSort → Rose → Type 0
IsOfSort s a = sort_of a ≡ s

abbrev pub IsFirst : Rose → Type 0
IsFirst a = (sort_of a ≡ Expression) ⊎ (sort_of a ≡ Statement)

module _ (P : NodeSort → NodeId → Type 0) where
  pub to : (s q : NodeSort) (id : NodeId) → s ≡ q → P s id → P q id
  to s q id e h = subst (λ (x : NodeSort). P x id) e h

  pub fit : (x f : Form) → Some x ≡ Some f → HasItsParts P x → HasItsParts P f
  fit x f e h = let q : x ≡ f = cc in subst (λ (y : Form). HasItsParts P y) q h

  pub mapped : {A : Type 0} (make : A → Form) (o : Option A) (f : Form) → option_map make o ≡ Some f
      → ((x : A) → o ≡ Some x → HasItsParts P (make x)) → HasItsParts P f
  mapped make None f e h = cc
  mapped make (Some x) f e h = fit (make x) f e (h x refl)

  pub placed-all : (s : NodeSort) (ids : List NodeId) (parts : Roses) → AllOf s parts → Placed P ids parts
      → All (P s) ids
  placed-all s [] none h k = All-nil (P s)
  placed-all s [] (more part parts) h k = absurd k
  placed-all s (id ∷ ids) none h k = absurd k
  placed-all s (id ∷ ids) (more part parts) h k =
      All-cons (P s) id ids (to (sort_of part) s id h.0 k.0) (placed-all s ids parts h.1 k.1)

  -- ---- functions

  placed-parts : (s : NodeSort) (ids : List NodeId) (ps body : Roses) → AllOf Parameter ps → AllOf s body
      → Placed P ids (join ps body) → All (P Parameter) (take (size ps) ids) × All (P s) (drop (size ps) ids)
  placed-parts s ids none body h k q = (All-nil (P Parameter), placed-all s ids body k q)
  placed-parts s [] (more part parts) body h k q = absurd q
  placed-parts s (id ∷ ids) (more part parts) body h k q =
      let r = placed-parts s ids parts body h.1 k q.1 in
      (All-cons (P Parameter) id (take (size parts) ids) (to (sort_of part) Parameter id h.0 q.0) r.0, r.1)

  pub parts-of : (s : NodeSort) (ids : List NodeId) (ps body : Roses) → AllOf Parameter ps → AllOf s body
      → Placed P ids (join ps body) → (x : FunctionParts) → function_parts (size ps) ids ≡ Some x
      → ArePartsOfFunction P s x
  parts-of s ids ps body h k q x e = by (nat_le (size ps) (length ids)) e
    where
      own : FunctionParts
      own = record { params = take (size ps) ids; body = drop (size ps) ids }

      by : (b : Bool) → (if b then Some (record { params = take (size ps) ids; body = drop (size ps) ids }) else None)
          ≡ Some x → ArePartsOfFunction P s x
      by false e = cc
      by true e =
          let r : own ≡ x = cc in
          subst (λ (y : FunctionParts). ArePartsOfFunction P s y) r (placed-parts s ids ps body h k q)

  pub declared-fits : (name : StrId) (o : Option FunctionParts) (f : Form)
      → function_decl_form (Some name) o ≡ Some f
      → ((x : FunctionParts) → o ≡ Some x → ArePartsOfFunction P Statement x) → HasItsParts P f
  declared-fits name None f e h = cc
  declared-fits name (Some x) f e h = fit (FunctionDeclForm name x) f e (h x refl)

  -- ---- parts that may be left out

  first-of : (a : Rose) (id : NodeId) → IsFirst a → P (sort_of a) id → P Expression id ⊎ P Statement id
  first-of a id (inl e) h = inl (to (sort_of a) Expression id e h)
  first-of a id (inr e) h = inr (to (sort_of a) Statement id e h)

  pub for-fits : {a b c : Bool} {x y z : Roses} → OneIf IsFirst a x → OneIf (IsOfSort Expression) b y
      → OneIf (IsOfSort Expression) c z → (d : Rose) → sort_of d ≡ Statement → (out : List Shape)
      → Placed P (roots out (join x (join y (join z (more d none))))) (join x (join y (join z (more d none))))
      → (f : Form) → for_form a b c (roots out (join x (join y (join z (more d none))))) ≡ Some f → HasItsParts P f
  for-fits no_part no_part no_part d s out k f e = fit _ f e (tt, tt, tt, to _ _ _ s k.0)
  for-fits no_part no_part (a_part r) d s out k f e = fit _ f e (tt, tt, to _ _ _ r k.0, to _ _ _ s k.1.0)
  for-fits no_part (a_part q) no_part d s out k f e = fit _ f e (tt, to _ _ _ q k.0, tt, to _ _ _ s k.1.0)
  for-fits no_part (a_part q) (a_part r) d s out k f e =
      fit _ f e (tt, to _ _ _ q k.0, to _ _ _ r k.1.0, to _ _ _ s k.1.1.0)
  for-fits (a_part p) no_part no_part d s out k f e = fit _ f e (first-of _ _ p k.0, tt, tt, to _ _ _ s k.1.0)
  for-fits (a_part p) no_part (a_part r) d s out k f e =
      fit _ f e (first-of _ _ p k.0, tt, to _ _ _ r k.1.0, to _ _ _ s k.1.1.0)
  for-fits (a_part p) (a_part q) no_part d s out k f e =
      fit _ f e (first-of _ _ p k.0, to _ _ _ q k.1.0, tt, to _ _ _ s k.1.1.0)
  for-fits (a_part p) (a_part q) (a_part r) d s out k f e =
      fit _ f e (first-of _ _ p k.0, to _ _ _ q k.1.0, to _ _ _ r k.1.1.0, to _ _ _ s k.1.1.1.0)

  pub try-fits : {a b c : Bool} {x y : Roses} (first : Rose) → sort_of first ≡ Statement → CaughtIf a b x
      → OneIf (IsOfSort Statement) c y → (a ≡ false → c ≡ false → ⊥) → (out : List Shape)
      → Placed P (roots out (more first (join x y))) (more first (join x y)) → (f : Form)
      → try_form a b c (roots out (more first (join x y))) ≡ Some f → HasItsParts P f
  try-fits first s none_caught no_part h out k f e = absurd (h refl refl)
  try-fits first s none_caught (a_part q) h out k f e = fit _ f e (to _ _ _ s k.0, tt, tt, to _ _ _ q k.1.0)
  try-fits first s (all_caught r) no_part h out k f e = fit _ f e (to _ _ _ s k.0, tt, to _ _ _ r k.1.0, tt)
  try-fits first s (all_caught r) (a_part q) h out k f e =
      fit _ f e (to _ _ _ s k.0, tt, to _ _ _ r k.1.0, to _ _ _ q k.1.1.0)
  try-fits first s (one_caught p r) no_part h out k f e =
      fit _ f e (to _ _ _ s k.0, to _ _ _ p k.1.0, to _ _ _ r k.1.1.0, tt)
  try-fits first s (one_caught p r) (a_part q) h out k f e =
      fit _ f e (to _ _ _ s k.0, to _ _ _ p k.1.0, to _ _ _ r k.1.1.0, to _ _ _ q k.1.1.1.0)
