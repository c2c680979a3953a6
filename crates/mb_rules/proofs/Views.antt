-- What the calls say of a cell, said of the object that it is.
use Rattle.std.proofs.Common.{◌≡◌, List, [], ◌∷◌, Bool, true, false, nat_eq, cond, arith, Option, Some, None, refl, sym, ap, ◌∙◌, subst, option_map, is_some}
use Rattle.std.specs.Prelude.{All, IfSome}
use Rattle.std.specs.List.{find, list_any}
use Rattle.std.proofs.lemmas.List.Elements.{All-weaker, All-head, All-tail, All-filter}
use Rattle.std.proofs.lemmas.Map.Entries.{All-lookup}
use Rattle.mb_base.specs.declared.value.StrId.{StrId}
use Rattle.mb_base.specs.declared.value.ObjId.{ObjId}
use Rattle.mb_base.specs.declared.value.Side.{Side}
use Rattle.mb_base.specs.declared.value.Key.{Key}
use Rattle.mb_base.specs.declared.value.Value.{Value}
use Rattle.mb_desc.specs.declared.descriptor.Full.{Full}
use Rattle.mb_props.specs.Table.{same_key, found}
use Rattle.mb_text.specs.Texts.{AreDistinct}
use Rattle.mb_world.specs.declared.cell.Cell.{Cell}
use Rattle.mb_world.specs.declared.rule.Rule.{Rule}
use Rattle.mb_world.specs.declared.rule.RuleKind.{RuleKind}
use Rattle.mb_world.specs.Graph.{Thing}
use Rattle.mb_world.specs.Objects.{own_property}
use Rattle.mb_world.specs.View as seen
use Rattle.mb_world.specs.View.{shown_property, is_cut, foreign_owner, some_rule, is_revoke_rule, is_read_only_rule}
use Rattle.mb_world.specs.Data.{Data, label_of, cell_at, property_in, property_at}
use Rattle.mb_world.specs.Ids.{KeyIn, FullIn, PropertyIn, RuleKindIn, RuleIn, CellIn, HasItsIds}
use Rattle.mb_world.specs.Image.{Names, names_of, key_in, full_in, rule_kind_in, owner_by, object_of, object_at}
use Rattle.mb_world.proofs.SameKeys.{find-found}
use Rattle.mb_rules.specs.Seen.{graph_of}
use Rattle.mb_rules.specs.machine.Applying.{rules_if, rules_on, is_of_key, revokes, closes, is_revoke, is_read_only}
use Rattle.mb_rules.specs.machine.Showing.{shown_by}
use Rattle.mb_rules.proofs.Labelled.{some-seen, find-seen, revoke-is, read-only-is}
use Rattle.mb_rules.proofs.Showing.{shown-is, shown-in, shown-own}

-- what holds of the cell's object holds of the object there
pub at-object : (d : Data) (o : ObjId) (c : Cell) (P : Thing → Type 0) → cell_at d o ≡ Some c → P (object_of (names_of d) c) → IfSome (object_at d o) P
at-object d o c P e h = rw e h

-- a rule that is found is one of the list
find-in : (P : Rule → Type 0) (p : Rule → Bool) (rs : List Rule) → All P rs → IfSome (find p rs) P
find-in P p [] h = tt
find-in P p (r ∷ rs) h = elim (p r) as (λ b. IfSome (cond b (Some r) (find p rs)) P) [ true ↦ All-head P r rs h | false ↦ find-in P p rs (All-tail P r rs h) ]

kind-in : (d : Data) (r : Option Rule) → IfSome r (RuleIn d) → IfSome (option_map (λ r. r.kind) r) (RuleKindIn d)
kind-in d None h = tt
kind-in d (Some r) h = h.1

rules-in : (d : Data) (b : Bool) (label : Option StrId) (rs : List Rule) → All (RuleIn d) rs → All (RuleIn d) (rules_if b label rs)
rules-in d true (Some l) rs h = All-filter (λ r. nat_eq (label_of r) l.0) (RuleIn d) rs h
rules-in d true None rs h = λ k x l. absurd (omega arith)
rules-in d false label rs h = λ k x l. absurd (omega arith)

-- and back
pub from-object : (d : Data) (o : ObjId) (c : Cell) (P : Thing → Type 0) → cell_at d o ≡ Some c → IfSome (object_at d o) P → P (object_of (names_of d) c)
from-object d o c P e h = rw e at h

module _ (d : Data) (o : ObjId) (c : Cell) (there : cell_at d o ≡ Some c) (distinct : AreDistinct d.texts) (within : CellIn d c) (ids : HasItsIds d) (viewer : Side)
    (rules : List Rule) (rules-are : IfSome (cell_at d o) (λ c. rules ≡ rules_on viewer c d.rules)) where
  abbrev n : Names
  n = names_of d

  abbrev t : Thing
  t = object_of n c

  rules-of : rules ≡ rules_on viewer c d.rules
  rules-of = rw there at rules-are

  pub closed-is : (b : Bool) → b ≡ list_any (closes c.home viewer) rules → IfSome (object_at d o) (λ t. b ≡ seen.is_read_only (graph_of d) viewer.0 t)
  closed-is b e = at-object d o c (λ t. b ≡ seen.is_read_only (graph_of d) viewer.0 t) there
      (e
      ∙ ap (list_any (closes c.home viewer)) rules-of
      ∙ sym (some-seen d distinct viewer c within.label_in is_read_only_rule is_read_only (read-only-is n) d.rules ids.rules_in))

  pub revoked-is : (b : Bool) → b ≡ list_any (revokes c.home viewer) rules → IfSome (object_at d o) (λ t. b ≡ some_rule is_revoke_rule viewer.0 t (graph_of d).rules)
  revoked-is b e = at-object d o c (λ t. b ≡ some_rule is_revoke_rule viewer.0 t (graph_of d).rules) there
      (e
      ∙ ap (list_any (revokes c.home viewer)) rules-of
      ∙ sym (some-seen d distinct viewer c within.label_in is_revoke_rule is_revoke (revoke-is n) d.rules ids.rules_in))

  module _ (key : Key) (key-in-d : KeyIn d key) (rule : Option RuleKind) (rule-is : rule ≡ option_map (λ r. r.kind) (find (is_of_key c.home viewer key) rules)) where
    pub key-rule-meant : IfSome (object_at d o) (λ t. option_map (rule_kind_in n) rule ≡ seen.key_rule (graph_of d) viewer.0 t (key_in n key))
    key-rule-meant = at-object d o c (λ t. option_map (rule_kind_in n) rule ≡ seen.key_rule (graph_of d) viewer.0 t (key_in n key)) there
        (ap (option_map (rule_kind_in n)) rule-is
        ∙ ap (λ rs. option_map (rule_kind_in n) (option_map (λ r. r.kind) (find (is_of_key c.home viewer key) rs))) rules-of
        ∙ sym (find-seen d distinct viewer c within.label_in key key-in-d d.rules ids.rules_in))

    pub key-rule-within : IfSome rule (RuleKindIn d)
    key-rule-within =
        let all : All (RuleIn d) (rules_on viewer c d.rules) = rules-in d (foreign_owner viewer.0 (owner_by c.kind c.home)) c.label d.rules ids.rules_in in
        let held : All (RuleIn d) rules = subst (All (RuleIn d)) (sym rules-of) all in
        rw rule-is (kind-in d (find (is_of_key c.home viewer key) rules) (find-in (RuleIn d) (is_of_key c.home viewer key) rules held))

-- ---- what is shown

module _ (d : Data) (o : ObjId) (c : Cell) (there : cell_at d o ≡ Some c) (distinct : AreDistinct d.texts) (within : CellIn d c) (viewer : Side) (key : Key) (key-in-d : KeyIn d key)
    (rule : Option RuleKind) (rule-meant : IfSome (object_at d o) (λ t. option_map (rule_kind_in (names_of d)) rule ≡ seen.key_rule (graph_of d) viewer.0 t (key_in (names_of d) key)))
    (own : Option (Full Value)) (own-is : own ≡ found c.props key) (result : Option (Full Value)) (result-is : result ≡ shown_by rule own) where
  abbrev names : Names
  names = names_of d

  abbrev thing : Thing
  thing = object_of names c

  rule-is : option_map (rule_kind_in names) rule ≡ seen.key_rule (graph_of d) viewer.0 thing (key_in names key)
  rule-is = from-object d o c (λ t. option_map (rule_kind_in names) rule ≡ seen.key_rule (graph_of d) viewer.0 t (key_in names key)) there rule-meant

  own-meant : own_property (key_in names key) thing ≡ option_map (full_in names) own
  own-meant = find-found d distinct c.props key within.props_in key-in-d ∙ ap (option_map (full_in names)) (sym own-is)

  pub shown-meant : IfSome (object_at d o) (λ t. option_map (full_in names) result ≡ shown_property (graph_of d) viewer.0 t (key_in names key))
  shown-meant = at-object d o c (λ t. option_map (full_in names) result ≡ shown_property (graph_of d) viewer.0 t (key_in names key)) there
      (ap (option_map (full_in names)) result-is
      ∙ shown-is names rule own
      ∙ ap (λ r. seen.shown_by r (option_map (full_in names) own)) rule-is
      ∙ ap (seen.shown_by (seen.key_rule (graph_of d) viewer.0 thing (key_in names key))) (sym own-meant))

  pub shown-as-own : IfSome (object_at d o) (λ t. seen.key_rule (graph_of d) viewer.0 t (key_in names key) ≡ None → result ≡ property_at d o key)
  shown-as-own = at-object d o c (λ t. seen.key_rule (graph_of d) viewer.0 t (key_in names key) ≡ None → result ≡ property_at d o key) there
      (λ none. result-is ∙ shown-own names rule own (rule-is ∙ none) ∙ own-is ∙ sym (ap (property_in key) there))

  own-in : IfSome own (FullIn d)
  own-in = rw own-is (All-lookup (FullIn d) (same_key key) c.props (All-weaker (PropertyIn d) (λ p. FullIn d p.1) (λ p k. k.1) c.props within.props_in))

  pub shown-within : IfSome rule (RuleKindIn d) → IfSome result (FullIn d)
  shown-within h = rw result-is (shown-in d rule own h own-in)

-- ---- what follows from what is shown

if-some-weaker : {A : Type 0} (P Q : A → Type 0) → ((a : A) → P a → Q a) → (o : Option A) → IfSome o P → IfSome o Q
if-some-weaker P Q f None h = tt
if-some-weaker P Q f (Some a) h = f a h

is-there : (n : Names) (p : Option (Full Value)) → is_some (option_map (full_in n) p) ≡ is_some p
is-there n None = refl
is-there n (Some p) = refl

pub listed-is : (d : Data) (o : ObjId) (viewer : Side) (key : Key) (property : Option (Full Value)) (b : Bool) → b ≡ is_some property →
    IfSome (object_at d o) (λ t. option_map (full_in (names_of d)) property ≡ shown_property (graph_of d) viewer.0 t (key_in (names_of d) key)) →
    IfSome (object_at d o) (λ t. b ≡ is_some (shown_property (graph_of d) viewer.0 t (key_in (names_of d) key)))
listed-is d o viewer key property b e h = if-some-weaker
    (λ t. option_map (full_in (names_of d)) property ≡ shown_property (graph_of d) viewer.0 t (key_in (names_of d) key))
    (λ t. b ≡ is_some (shown_property (graph_of d) viewer.0 t (key_in (names_of d) key)))
    (λ t k. e ∙ sym (is-there (names_of d) property) ∙ ap is_some k) (object_at d o) h
