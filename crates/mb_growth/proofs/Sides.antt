-- What a side sees of an object evolves with it.
use Rattle.std.proofs.Common.{◌≡◌, ℕ, Bool, ◌&&◌, List, [], ◌∷◌, map, Option, None, Some, refl, sym, ap, ◌∙◌, subst, if◌then◌else◌}
use Rattle.mb_desc.specs.declared.descriptor.Full.{Full}
use Rattle.mb_view.specs.Views.{Evolves}
use Rattle.mb_view.specs.Shown.{Treatment, shown_property, shown}
use Rattle.mb_view.proofs.Showing.{lookup-shown}
use Rattle.mb_view.proofs.Sorted.{sorted-shown}
use Rattle.mb_world.specs.Value.{Val}
use Rattle.mb_world.specs.Key.{PropertyKey, same_key}
use Rattle.mb_world.specs.Graph.{Graph, Thing, Rule, RuleKind, Hide, ReadOnly, Substitute, Revoke}
use Rattle.mb_world.specs.Objects.{own_property}
use Rattle.mb_world.specs.View.{shown_by, key_rule, foreign_owner, is_for, applies, names_key, find_key_rule}
use Rattle.mb_growth.specs.Objects.{pair, as_view, sort_of, treatment, rule_of}
use Rattle.mb_growth.specs.Later.{IsLater}
use Rattle.mb_growth.specs.Laws.{SeesByRules, EachSideSees}
use Rattle.mb_growth.proofs.Values.{key-sound}
use Rattle.mb_growth.proofs.Bridge.{own-is}

shown-is : (r : Option RuleKind) (o : Option (Full Val)) → shown_by r o ≡ shown_property (treatment r) o
shown-is None o = refl
shown-is (Some (Hide x)) o = refl
shown-is (Some ReadOnly) o = refl
shown-is (Some (Substitute x v)) None = refl
shown-is (Some (Substitute x v)) (Some p) = refl
shown-is (Some Revoke) o = refl

pub sees-by-rules : SeesByRules
sees-by-rules g v t k =
    shown-is (key_rule g v t k) (own_property k t)
    ∙ ap (shown_property (rule_of g v t k)) (own-is k t)
    ∙ sym (lookup-shown same_key key-sound (rule_of g v t) (map pair t.properties) k)

-- which rules apply goes by owner and label
same-applies : (v : ℕ) (t u : Thing) (r : Rule) → t.owner ≡ u.owner → t.label ≡ u.label → applies v t r ≡ applies v u r
same-applies v t u r owner label =
    ap (λ (o : Option ℕ). foreign_owner v o && is_for v o t.label r) owner
    ∙ ap (λ (l : Option (List ℕ)). foreign_owner v u.owner && is_for v u.owner l r) label

pub same-key-rule : (k : PropertyKey) (v : ℕ) (t u : Thing) (rs : List Rule) → t.owner ≡ u.owner → t.label ≡ u.label → find_key_rule k v t rs ≡ find_key_rule k v u rs
same-key-rule k v t u [] owner label = refl
same-key-rule k v t u (r ∷ rs) owner label =
    ap (λ (b : Bool). if b && names_key k r.kind then Some r.kind else find_key_rule k v t rs) (same-applies v t u r owner label)
    ∙ ap (λ (o : Option RuleKind). if applies v u r && names_key k r.kind then Some r.kind else o) (same-key-rule k v t u rs owner label)

same-rule : (g h : Graph) (v : ℕ) (t u : Thing) (k : PropertyKey) → h.rules ≡ g.rules → IsLater t u → rule_of g v t k ≡ rule_of h v u k
same-rule g h v t u k rules later =
    ap treatment (same-key-rule k v t u g.rules later.owner later.label)
    ∙ ap (λ (rs : List Rule). treatment (find_key_rule k v u rs)) (sym rules)

pub each-side-sees : EachSideSees
each-side-sees g h v t u rules later =
    subst (λ (rule : PropertyKey → Treatment Val). Evolves same_key sort_of (shown (rule_of g v t) (as_view t)) (shown rule (as_view u)))
    (λ i k. same-rule g h v t u k rules later i)
    (sorted-shown same_key sort_of key-sound (rule_of g v t) (as_view t) (as_view u) later.evolves)
