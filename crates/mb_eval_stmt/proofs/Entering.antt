-- The names that scopes of statements bind are distinct; scopes that are copied keep a world ready.
use Rattle.std.proofs.Common.{◌<◌, ◌≡◌, List, None, Ok, Option, Some, arith, is_some, length, nat_eq, refl, slice_get, subst, ℕ, true}
use Rattle.std.specs.List.{IsDistinct}
use Rattle.std.specs.Prelude.{IsSomeAnd}
use Rattle.mb_base.specs.declared.value.NodeId.{NodeId}
use Rattle.mb_base.specs.declared.value.ScopeId.{ScopeId}
use Rattle.mb_base.specs.declared.value.Side.{Side}
use Rattle.mb_frames.proofs.Readying.{scope-changed}
use Rattle.mb_frames.specs.Grammatical.{without_own}
use Rattle.mb_frames.specs.Keeping.{KeepsAnswer, scope_held}
use Rattle.mb_frames.specs.Kinds.{Statement, form_sort}
use Rattle.mb_frames.specs.Ready.{Holds, IsReady}
use Rattle.mb_frames.specs.Standing.{forms_at}
use Rattle.mb_frames.specs.Told.{IsNodeOf, told, told_at}
use Rattle.mb_parts.proofs.Distinct.{NamesApart, names-apart}
use Rattle.mb_parts.proofs.EnteredKept.{new-held}
use Rattle.mb_parts.proofs.NamesGiven.{home-is, references-own}
use Rattle.mb_parts.specs.Scopes.{bound_by}
use Rattle.mb_tree.specs.Form as t
use Rattle.mb_tree.specs.Names.{Binds}
use Rattle.mb_world.specs.Contained.{scope_home}
use Rattle.mb_world.specs.Data.{Data, program_of, scope_at, with_scope}
use Rattle.mb_world.specs.Form.{Form}
use Rattle.mb_world.specs.FormOf.{TreeNode}
use Rattle.mb_world.specs.Formed.{FormedScope}
use Rattle.mb_world.specs.Ids.{Maybe, ScopeOf}
use Rattle.mb_world.specs.declared.scope.Scope.{Scope}

-- only a function expression has a name of its own
no-own : (texts : List (List ℕ)) (ns : List TreeNode) (f : t.Form) → form_sort (told texts ns f) ≡ Statement
    → (names : List Binds) → without_own (Some f) names ≡ names
no-own texts ns (t.FunctionForm (Some n) p) h names = absurd (let z : ⊥ = cc in z)
no-own texts ns (t.FunctionForm None p) h names = refl
no-own texts ns _ h names = refl

form-there : (o : Option Form) → IsSomeAnd o (λ f. form_sort f ≡ Statement) → is_some o ≡ true
form-there None h = absurd h
form-there (Some f) h = refl

-- what the scope of a statement binds has distinct names
pub names-distinct : (d : Data) (home : Side) (node : NodeId) → IsNodeOf d home Statement node → IsReady d
    → IsDistinct (λ (a b : Binds). nat_eq a.1.0 b.1.0) (bound_by (program_of d home) node)
names-distinct d home node h r =
    let q : NamesApart d home node = names-apart d home node (form-there (slice_get (forms_at d home) node.0) h) r in
    let u : form_sort (told_at d home q.form) ≡ Statement = rw q.there at h in
    subst (IsDistinct (λ (a b : Binds). nat_eq a.1.0 b.1.0)) (no-own _ _ q.form u (bound_by (program_of d home) node))
    q.distinct

-- ---- a copy

parent-below : (d : Data) (id n : ℕ) (home : Side) (p : Option ScopeId)
    → Maybe (λ (x : ScopeId). (x.0 < id) × scope_home d x home) p → id < n
    → Maybe (λ (x : ScopeId). (x.0 < n) × scope_home d x home) p
parent-below d id n home None h k = tt
parent-below d id n home (Some p) h k = (omega (arith, h.0, k), h.1)

pub copied-keeps : (d d' : Data) (home : Side) (id new : ScopeId) (s : Scope) → IsReady d → Holds d home (scope_held id)
    → scope_at d id ≡ Some s → ScopeOf d s → d' ≡ with_scope d s → new.0 ≡ length d.scopes
    → KeepsAnswer home scope_held (Ok new) d d'
copied-keeps d d' home id new s r h e i m k =
    let g : s.home ≡ home = home-is d home id s e h.0.sound in
    let o : FormedScope d id.0 s = r.formed.scopes id s e in
    let f : FormedScope d (length d.scopes) s = record {
      home = o.home;
      wholes = o.wholes;
      parent = parent-below d id.0 (length d.scopes) s.home s.parent o.parent h.0.within;
      distinct = o.distinct;
    } in
    rw m (record {
      changed = scope-changed home d r s g i f (references-own d home id s r e g);
      holds = new-held d home s new g k;
    })
