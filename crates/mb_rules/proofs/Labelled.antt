-- The rules for an object's label are those that apply to it.
use Rattle.std.proofs.Common.{◌≡◌, ℕ, List, [], ◌∷◌, Bool, true, false, ◌&&◌, nat_eq, Option, Some, None, refl, sym, ap, ◌∙◌, true≢false, map, option_map}
use Rattle.std.specs.Prelude.{All}
use Rattle.std.specs.List.{find, list_any}
use Rattle.std.proofs.lemmas.List.Elements.{All-head, All-tail}
use Rattle.mb_base.specs.declared.value.StrId.{StrId}
use Rattle.mb_base.specs.declared.value.Side.{Side}
use Rattle.mb_base.specs.declared.value.Key.{Key}
use Rattle.mb_base.specs.declared.value.Key.TheVariants as k
use Rattle.mb_base.specs.declared.value.Value.TheVariants as v
use Rattle.mb_text.specs.Texts.{AreDistinct}
use Rattle.mb_world.specs.declared.cell.CellKind.{CellKind}
use Rattle.mb_world.specs.declared.cell.CellKind.TheVariants.{BuiltIn}
use Rattle.mb_world.specs.declared.cell.Cell.{Cell}
use Rattle.mb_world.specs.declared.rule.Rule.{Rule}
use Rattle.mb_world.specs.declared.rule.RuleKind.{RuleKind}
use Rattle.mb_world.specs.declared.rule.RuleKind.TheVariants.{Hide, ReadOnly, Substitute, Revoke}
use Rattle.mb_world.specs.Value.{same_units}
use Rattle.mb_world.specs.Graph as graph
use Rattle.mb_world.specs.Graph.{Thing}
use Rattle.mb_world.specs.View as seen
use Rattle.mb_world.specs.View.{foreign_owner, applies, some_rule, find_key_rule, is_read_only_rule, is_revoke_rule}
use Rattle.mb_world.specs.Data.{Data, labelled}
use Rattle.mb_world.specs.Ids.{Maybe, TextIn, KeyIn, RuleKindIn, RuleIn}
use Rattle.mb_world.specs.Image.{Names, names_of, text_in, key_in, owner_by, object_of, rule_in, rule_kind_in}
use Rattle.mb_world.proofs.Values.{same-as}
use Rattle.mb_rules.specs.machine.Applying.{rules_if, rules_on, speaks, is_revoke, is_read_only, names_key, is_of_key}

-- ---- what a rule's kind says

pub revoke-is : (n : Names) (kind : RuleKind) → is_revoke_rule (rule_kind_in n kind) ≡ is_revoke kind
revoke-is n (Hide x) = refl
revoke-is n ReadOnly = refl
revoke-is n (Substitute x y) = refl
revoke-is n Revoke = refl

pub read-only-is : (n : Names) (kind : RuleKind) → is_read_only_rule (rule_kind_in n kind) ≡ is_read_only kind
read-only-is n (Hide x) = refl
read-only-is n ReadOnly = refl
read-only-is n (Substitute x y) = refl
read-only-is n Revoke = refl

-- another side's object is no built-in, and its owner is the home
owner-there : (viewer : ℕ) (kind : CellKind) (home : Side) → foreign_owner viewer (owner_by kind home) ≡ true → owner_by kind home ≡ Some home.0
owner-there viewer (BuiltIn place) home h = absurd (true≢false (sym h))
owner-there viewer kind home h = refl

and-assoc : (a b c : Bool) → a && b && c ≡ a && (b && c)
and-assoc true b c = refl
and-assoc false b c = refl

module _ (d : Data) (distinct : AreDistinct d.texts) where
  -- two texts are the same where their ids are
  text-tells : (a b : StrId) → TextIn d a → TextIn d b → same_units (text_in (names_of d) a) (text_in (names_of d) b) ≡ nat_eq a.0 b.0
  text-tells a b h k = same-as d distinct (v.Text a) (v.Text b) h k (λ x y e f g. cc)

  pub key-tells : (key : Key) (kind : RuleKind) → KeyIn d key → RuleKindIn d kind → seen.names_key (key_in (names_of d) key) (rule_kind_in (names_of d) kind) ≡ names_key key kind
  key-tells (k.Text text index) (Hide x) h i = text-tells x text i h.0
  key-tells (k.Text text index) (Substitute x y) h i = text-tells x text i.0 h.0
  key-tells (k.Text text index) ReadOnly h i = refl
  key-tells (k.Text text index) Revoke h i = refl
  key-tells (k.Symbol symbol) (Hide x) h i = refl
  key-tells (k.Symbol symbol) (Substitute x y) h i = refl
  key-tells (k.Symbol symbol) ReadOnly h i = refl
  key-tells (k.Symbol symbol) Revoke h i = refl

  module _ (viewer : Side) (c : Cell) (label_in : Maybe (TextIn d) c.label) where
    abbrev n : Names
    n = names_of d

    abbrev t : Thing
    t = object_of n c

    -- ---- whether a rule applies

    applies-not : foreign_owner viewer.0 (owner_by c.kind c.home) ≡ false → (r : Rule) → applies viewer.0 t (rule_in n r) ≡ false
    applies-not e r = rw e refl

    applies-none : foreign_owner viewer.0 (owner_by c.kind c.home) ≡ true → c.label ≡ None → (r : Rule) → applies viewer.0 t (rule_in n r) ≡ false
    applies-none e m r = let o : owner_by c.kind c.home ≡ Some c.home.0 = owner-there viewer.0 c.kind c.home e in rw (e, o, m) refl

    applies-by : (l : StrId) → foreign_owner viewer.0 (owner_by c.kind c.home) ≡ true → c.label ≡ Some l → TextIn d l → (r : Rule) → RuleIn d r → applies viewer.0 t (rule_in n r) ≡ nat_eq r.label.0 l.0 && speaks c.home viewer r
    applies-by l e m i r h =
        let o : owner_by c.kind c.home ≡ Some c.home.0 = owner-there viewer.0 c.kind c.home e in
        rw (e, o, m, text-tells r.label l h.0 i) (and-assoc (nat_eq r.label.0 l.0) _ _)

    module _ (test : graph.RuleKind → Bool) (own : RuleKind → Bool) (tells : (kind : RuleKind) → test (rule_kind_in n kind) ≡ own kind) where
      some-none : ((r : Rule) → applies viewer.0 t (rule_in n r) ≡ false) → (rs : List Rule) → some_rule test viewer.0 t (map (rule_in n) rs) ≡ false
      some-none never [] = refl
      some-none never (r ∷ rs) = rw (never r) (some-none never rs)

      some-by : (l : StrId) → foreign_owner viewer.0 (owner_by c.kind c.home) ≡ true → c.label ≡ Some l → TextIn d l → (rs : List Rule) → All (RuleIn d) rs →
          some_rule test viewer.0 t (map (rule_in n) rs) ≡ list_any (λ r. speaks c.home viewer r && own r.kind) (labelled l rs)
      some-by l e m i [] h = refl
      some-by l e m i (r ∷ rs) h = by (nat_eq r.label.0 l.0) refl (some-by l e m i rs (All-tail (RuleIn d) r rs h))
        where
          is : applies viewer.0 t (rule_in n r) ≡ nat_eq r.label.0 l.0 && speaks c.home viewer r
          is = applies-by l e m i r (All-head (RuleIn d) r rs h)

          by : (b : Bool) → nat_eq r.label.0 l.0 ≡ b → some_rule test viewer.0 t (map (rule_in n) rs) ≡ list_any (λ r. speaks c.home viewer r && own r.kind) (labelled l rs) →
              some_rule test viewer.0 t (map (rule_in n) (r ∷ rs)) ≡ list_any (λ r. speaks c.home viewer r && own r.kind) (labelled l (r ∷ rs))
          by true f rest = rw (is, tells r.kind, f, rest) refl
          by false f rest = rw (is, f) rest

      -- some rule of that kind applies where one of those for the label does
      pub some-seen : (rs : List Rule) → All (RuleIn d) rs → some_rule test viewer.0 t (map (rule_in n) rs) ≡ list_any (λ r. speaks c.home viewer r && own r.kind) (rules_on viewer c rs)
      some-seen rs h = by (foreign_owner viewer.0 (owner_by c.kind c.home)) refl c.label refl
        where
          by : (b : Bool) → foreign_owner viewer.0 (owner_by c.kind c.home) ≡ b → (m : Option StrId) → c.label ≡ m →
              some_rule test viewer.0 t (map (rule_in n) rs) ≡ list_any (λ r. speaks c.home viewer r && own r.kind) (rules_on viewer c rs)
          by false e m q = some-none (applies-not e) rs ∙ sym (ap (λ b. list_any (λ r. speaks c.home viewer r && own r.kind) (rules_if b c.label rs)) e)
          by true e None q = some-none (applies-none e q) rs
              ∙ sym (ap (λ b. list_any (λ r. speaks c.home viewer r && own r.kind) (rules_if b c.label rs)) e
              ∙ ap (λ m. list_any (λ r. speaks c.home viewer r && own r.kind) (rules_if true m rs)) q)
          by true e (Some l) q =
              let i : TextIn d l = (let s : Maybe (TextIn d) c.label = label_in in rw q at s) in
              some-by l e q i rs h
              ∙ sym (ap (λ b. list_any (λ r. speaks c.home viewer r && own r.kind) (rules_if b c.label rs)) e
              ∙ ap (λ m. list_any (λ r. speaks c.home viewer r && own r.kind) (rules_if true m rs)) q)

    module _ (key : Key) (key_in_d : KeyIn d key) where
      abbrev kind_of : Option Rule → Option graph.RuleKind
      kind_of o = option_map (rule_kind_in n) (option_map (λ r. r.kind) o)

      find-none : ((r : Rule) → applies viewer.0 t (rule_in n r) ≡ false) → (rs : List Rule) → find_key_rule (key_in n key) viewer.0 t (map (rule_in n) rs) ≡ None
      find-none never [] = refl
      find-none never (r ∷ rs) = rw (never r) (find-none never rs)

      find-by : (l : StrId) → foreign_owner viewer.0 (owner_by c.kind c.home) ≡ true → c.label ≡ Some l → TextIn d l → (rs : List Rule) → All (RuleIn d) rs →
          find_key_rule (key_in n key) viewer.0 t (map (rule_in n) rs) ≡ kind_of (find (is_of_key c.home viewer key) (labelled l rs))
      find-by l e m i [] h = refl
      find-by l e m i (r ∷ rs) h = by (nat_eq r.label.0 l.0) refl (speaks c.home viewer r && names_key key r.kind) refl (find-by l e m i rs (All-tail (RuleIn d) r rs h))
        where
          in-d : RuleIn d r
          in-d = All-head (RuleIn d) r rs h

          is : applies viewer.0 t (rule_in n r) ≡ nat_eq r.label.0 l.0 && speaks c.home viewer r
          is = applies-by l e m i r in-d

          tells : seen.names_key (key_in n key) (rule_kind_in n r.kind) ≡ names_key key r.kind
          tells = key-tells key r.kind key_in_d in-d.1

          by : (b : Bool) → nat_eq r.label.0 l.0 ≡ b → (q : Bool) → speaks c.home viewer r && names_key key r.kind ≡ q →
              find_key_rule (key_in n key) viewer.0 t (map (rule_in n) rs) ≡ kind_of (find (is_of_key c.home viewer key) (labelled l rs)) →
              find_key_rule (key_in n key) viewer.0 t (map (rule_in n) (r ∷ rs)) ≡ kind_of (find (is_of_key c.home viewer key) (labelled l (r ∷ rs)))
          by true f true g rest = rw (is, tells, f, g) refl
          by true f false g rest = rw (is, tells, f, g) rest
          by false f q g rest = rw (is, f) rest

      -- the rule of a key is the first of those for the label
      pub find-seen : (rs : List Rule) → All (RuleIn d) rs → find_key_rule (key_in n key) viewer.0 t (map (rule_in n) rs) ≡ kind_of (find (is_of_key c.home viewer key) (rules_on viewer c rs))
      find-seen rs h = by (foreign_owner viewer.0 (owner_by c.kind c.home)) refl c.label refl
        where
          by : (b : Bool) → foreign_owner viewer.0 (owner_by c.kind c.home) ≡ b → (m : Option StrId) → c.label ≡ m →
              find_key_rule (key_in n key) viewer.0 t (map (rule_in n) rs) ≡ kind_of (find (is_of_key c.home viewer key) (rules_on viewer c rs))
          by false e m q = find-none (applies-not e) rs ∙ sym (ap (λ b. kind_of (find (is_of_key c.home viewer key) (rules_if b c.label rs))) e)
          by true e None q = find-none (applies-none e q) rs
              ∙ sym (ap (λ b. kind_of (find (is_of_key c.home viewer key) (rules_if b c.label rs))) e
              ∙ ap (λ m. kind_of (find (is_of_key c.home viewer key) (rules_if true m rs))) q)
          by true e (Some l) q =
              let i : TextIn d l = (let s : Maybe (TextIn d) c.label = label_in in rw q at s) in
              find-by l e q i rs h
              ∙ sym (ap (λ b. kind_of (find (is_of_key c.home viewer key) (rules_if b c.label rs))) e
              ∙ ap (λ m. kind_of (find (is_of_key c.home viewer key) (rules_if true m rs))) q)
