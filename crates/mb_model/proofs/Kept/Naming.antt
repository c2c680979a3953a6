use Rattle.std.proofs.Common.{◌≡◌, ℕ, List, Bool, true, false, Option, Some, None, slice_get, refl, sym, ap, ◌∙◌, true≢false}
use Rattle.mb_world.specs.Value.{Val}
use Rattle.mb_world.specs.Graph.{Binding, Graph}
use Rattle.mb_model.specs.Nodes.Scopes.{binding_at, find_binding, initialize, own_place, resolve, unless_given, write_bound, write_name, write_value}
use Rattle.mb_model.proofs.Kept.Lasting.{MayGive, giving-last, initialize-last}
use Rattle.mb_model.proofs.Kept.Words.{At, Goes, Kept, at-giving, keeps-reference_error, keeps-type_error}

-- what giving a name keeps

pub keeps-initialize : (kept : Kept) (x0 : ℕ) (x1 : List ℕ) (x2 : Val) → Goes kept (initialize x0 x1 x2)
keeps-initialize kept sc x v = record {
  goes = λ g.
      at-giving kept (λ h. unless_given h (own_place sc x (slice_get h.scopes sc))) v g
      (initialize-last g (own_place sc x (slice_get g.scopes sc)) v);
}

-- a name that isn't fixed
written-at : (kept : Kept) (s sc : ℕ) (x : List ℕ) (v : Val) (g : Graph) (fixed : Bool) (o : Option Val) →
    (fixed ≡ false → (b : Binding) → find_binding g sc x ≡ Some b → MayGive b) → At kept g (write_value s sc x v fixed o)
written-at kept s sc x v g fixed None may = (keeps-reference_error kept s).goes g
written-at kept s sc x v g true (Some w) may = (keeps-type_error kept s).goes g
written-at kept s sc x v g false (Some w) may =
    at-giving kept (λ h. resolve h sc x) v g (giving-last g (resolve g sc x) v (may refl))

bound-at : (kept : Kept) (s sc : ℕ) (x : List ℕ) (v : Val) (g : Graph) (o : Option Binding) → find_binding g sc x ≡ o →
    At kept g (write_bound s sc x v o)
bound-at kept s sc x v g None e = (keeps-reference_error kept s).goes g
bound-at kept s sc x v g (Some b) e =
    written-at kept s sc x v g b.fixed b.value
    (λ loose c at f given.
    let both : Some b ≡ Some c = sym e ∙ at in
    let same : b ≡ c = cc in
    true≢false (sym f ∙ sym (ap (λ (a : Binding). a.fixed) same) ∙ loose))

pub keeps-write_name : (kept : Kept) (x0 : ℕ) (x1 : ℕ) (x2 : List ℕ) (x3 : Val) → Goes kept (write_name x0 x1 x2 x3)
keeps-write_name kept s sc x v = record { goes = λ g. bound-at kept s sc x v g (find_binding g sc x) refl }
