-- The world in which the tests begin: objects without references, and rules.
use Rattle.std.proofs.Common.{◌≡◌, ◌<◌, ◌++◌, ℕ, zero, suc, List, [], ◌∷◌, map, slice_index_or, Option, Some, None, true, false, refl, ap, sym, ◌∙◌, subst, arith}
use Rattle.std.specs.Prelude.{All}
use Rattle.std.proofs.lemmas.List.Elements.{All-nil, All-cons, All-append, All-head, All-tail, All-weaker}
use Rattle.mb_base.specs.declared.value.ObjId.{ObjId}
use Rattle.mb_base.specs.declared.value.Side.{Side}
use Rattle.mb_base.specs.declared.value.StrId.{StrId}
use Rattle.mb_base.specs.declared.value.Value.TheVariants as v
use Rattle.mb_text.specs.Texts.{AreDistinct}
use Rattle.mb_world.specs.declared.cell.Cell.{Cell}
use Rattle.mb_world.specs.declared.cell.CellKind.{CellKind}
use Rattle.mb_world.specs.declared.cell.CellKind.TheVariants.{Plain, Proxy, Membrane}
use Rattle.mb_world.specs.declared.entry.Entry.{Entry}
use Rattle.mb_world.specs.declared.rule.Rule.{Rule as WorldRule}
use Rattle.mb_world.specs.declared.scope.Scope.{Scope}
use Rattle.mb_world.specs.declared.scope.Job.{Job}
use Rattle.mb_world.specs.Graph.{Rule}
use Rattle.mb_world.specs.Data.{Data, AtPlace, fresh, kind_stand, cell_at, with_texts, made}
use Rattle.mb_world.specs.Ids.{HasItsIds}
use Rattle.mb_world.specs.Image.{Names, names_of, rule_in}
use Rattle.mb_world.specs.Contained.{Contained, Paired, IsOwn, IsMembrane, HasItsTwo, HasProxyOf, IsOfTable, in_cell, in_scope, in_job}
use Rattle.mb_world.specs.Formed.{FormedCell, InRange, HasItsCallables}
use Rattle.mb_world.proofs.Grow.{All-at}
use Rattle.mb_shadow.specs.Seeing.{CanSee, HasConstant}

-- ---- cells that refer to nothing

abbrev pub IsBareKind : CellKind → Type 0
IsBareKind Plain = Unit {0}
IsBareKind (Proxy None None shape) = Unit {0}
IsBareKind kind = ⊥

abbrev pub bare : Side → CellKind → Option StrId → Cell
bare home kind label = record { home = home; kind = kind; proto = v.Null; extensible = true; props = []; label = label; slots = [] }

pub record IsBareCell (c : Cell) : Type 0 where
  pub home : Side
  pub kind : CellKind
  pub label : Option StrId
  pub side : home.0 < 2
  pub is_bare : IsBareKind kind
  pub is : c ≡ bare home kind label

bare-own : (d : Data) (c : Cell) → IsBareCell c → All (IsOwn d c.home) (in_cell c)
bare-own d c h = subst (λ (x : Cell). All (IsOwn d x.home) (in_cell x)) (sym h.is) (by h.kind h.is_bare)
  where
    by : (k : CellKind) → IsBareKind k → All (IsOwn d h.home) (in_cell (bare h.home k h.label))
    by Plain t = All-nil (IsOwn d h.home)
    by (Proxy None None shape) t = All-nil (IsOwn d h.home)
    by k t = absurd t

bare-two : (d : Data) (c : Cell) → IsBareCell c → HasItsTwo d c.home c.kind
bare-two d c h = subst (λ (x : Cell). HasItsTwo d x.home x.kind) (sym h.is) (by h.kind h.is_bare)
  where
    by : (k : CellKind) → IsBareKind k → HasItsTwo d h.home k
    by Plain t = tt
    by (Proxy None None shape) t = tt
    by k t = absurd t

bare-table : (c : Cell) → IsBareCell c → IsOfTable c.kind
bare-table c h = subst (λ (x : Cell). IsOfTable x.kind) (sym h.is) (by h.kind h.is_bare)
  where
    by : (k : CellKind) → IsBareKind k → IsOfTable k
    by Plain t = tt
    by (Proxy None None shape) t = tt
    by k t = absurd t

bare-formed : (d : Data) (c : Cell) → d.sides ≡ 2 → IsBareCell c → FormedCell d c
bare-formed d c s h = subst (FormedCell d) (sym h.is) (by h.kind h.is_bare)
  where
    within : h.home.0 < d.sides
    within = rw s h.side

    by : (k : CellKind) → IsBareKind k → FormedCell d (bare h.home k h.label)
    by Plain t = record { home = within; wholes = All-cons InRange v.Null [] tt (All-nil InRange); prototype = tt; callables = All-nil (λ p. HasItsCallables d p.1); array = tt; slots = refl; kind = tt }
    by (Proxy None None shape) t = record { home = within; wholes = All-cons InRange v.Null [] tt (All-nil InRange); prototype = tt; callables = All-nil (λ p. HasItsCallables d p.1); array = tt; slots = refl; kind = tt }
    by k t = absurd t

no-place : (k : CellKind) (place : ℕ) → IsBareKind k → kind_stand k ≡ AtPlace place → ⊥
no-place Plain place t e = cc
no-place (Proxy None None shape) place t e = cc
no-place k place t e = absurd t

no-proxy : (k : CellKind) (behind shadow : ObjId) → IsBareKind k → k ≡ Membrane behind shadow → ⊥
no-proxy Plain behind shadow t e = cc
no-proxy (Proxy None None shape) behind shadow t e = cc
no-proxy k behind shadow t e = absurd t

no-jobs : (n : ℕ) → slice_index_or fresh.queues n [] ≡ []
no-jobs zero = refl
no-jobs (suc zero) = refl
no-jobs (suc (suc zero)) = refl
no-jobs (suc (suc (suc zero))) = refl
no-jobs (suc (suc (suc (suc zero)))) = refl
no-jobs (suc (suc (suc (suc (suc zero))))) = refl
no-jobs (suc (suc (suc (suc (suc (suc zero)))))) = refl
no-jobs (suc (suc (suc (suc (suc (suc (suc zero))))))) = refl
no-jobs (suc (suc (suc (suc (suc (suc (suc (suc n)))))))) = refl

-- ---- worlds of such cells

pub record IsBare (d : Data) : Type 0 where
  pub sides : d.sides ≡ 2
  pub apart : d.joined ≡ false
  pub scopes : d.scopes ≡ []
  pub queues : d.queues ≡ fresh.queues
  pub entries : d.entries ≡ []
  pub rules : (n : Names) → All (λ rule. HasConstant (rule_in n rule).kind) d.rules
  pub cells : All IsBareCell d.cells

module _ (d : Data) (h : IsBare d) where
  at : (id : ObjId) (c : Cell) → cell_at d id ≡ Some c → IsBareCell c
  at id c e = All-at IsBareCell d.cells id.0 c e h.cells

  at-no-place : (id : ObjId) (c : Cell) (place : ℕ) → cell_at d id ≡ Some c → kind_stand c.kind ≡ AtPlace place → ⊥
  at-no-place id c place e s = let b = at id c e in no-place b.kind place b.is_bare (ap (λ (x : Cell). kind_stand x.kind) (sym b.is) ∙ s)

  at-no-proxy : (id behind shadow : ObjId) (side : Side) → IsMembrane d id side behind shadow → ⊥
  at-no-proxy id behind shadow side m = let b = at id m.cell m.there in no-proxy b.kind behind shadow b.is_bare (ap (λ (x : Cell). x.kind) (sym b.is) ∙ m.kind_is)

  contained : Contained d
  contained = record {
    cells_own = All-weaker IsBareCell (λ (c : Cell). All (IsOwn d c.home) (in_cell c)) (bare-own d) d.cells h.cells;
    two_of_proxies = All-weaker IsBareCell (λ (c : Cell). HasItsTwo d c.home c.kind) (bare-two d) d.cells h.cells;
    scopes_own = subst (λ ss. All (λ (s : Scope). All (IsOwn d s.home) (in_scope s)) ss) (sym h.scopes) (All-nil (λ (s : Scope). All (IsOwn d s.home) (in_scope s)));
    jobs_own = λ side l. subst (λ js. All (λ (x : Job). All (IsOwn d side) (in_job x)) js) (sym (ap (λ qs. slice_index_or qs side.0 []) h.queues ∙ no-jobs side.0))
        (All-nil (λ (x : Job). All (IsOwn d side) (in_job x)));
    of_table = All-weaker IsBareCell (λ (c : Cell). IsOfTable c.kind) bare-table d.cells h.cells;
    one_for_a_place = λ i k place c e ic ke same ck ek. absurd (at-no-place i c place ic (ap kind_stand ck));
  }

  paired : Paired d
  paired = record {
    behind_is_object = λ id b s side m. absurd (at-no-proxy id b s side m);
    one_for_an_object = λ i k b s t side m n. absurd (at-no-proxy i b s side m);
    one_for_a_shadow = λ i k a b s side m n. absurd (at-no-proxy i a s side m);
    proxy_of_entry = λ j. subst (λ es. All (λ (e : Entry). HasProxyOf d e.side e.object) es) (sym h.entries) (All-nil (λ (e : Entry). HasProxyOf d e.side e.object));
  }

  constants : (n : Names) (rules : List WorldRule) → All (λ rule. HasConstant (rule_in n rule).kind) rules → All (λ (rule : Rule). HasConstant rule.kind) (map (rule_in n) rules)
  constants n [] a = All-nil (λ (rule : Rule). HasConstant rule.kind)
  constants n (r ∷ rs) a =
      All-cons (λ (rule : Rule). HasConstant rule.kind) (rule_in n r) (map (rule_in n) rs) (All-head (λ rule. HasConstant (rule_in n rule).kind) r rs a)
      (constants n rs (All-tail (λ rule. HasConstant (rule_in n rule).kind) r rs a))

  pub bare-can-see : AreDistinct d.texts → HasItsIds d → CanSee d
  bare-can-see texts ids = record {
    texts = texts;
    ids = ids;
    apart = h.apart;
    can_cross = record { sides = rw h.sides (omega arith); contained = contained; paired = paired; built_ins = λ id c place side e s l. absurd (at-no-place id c place e s) };
    cells = All-weaker IsBareCell (FormedCell d) (λ c b. bare-formed d c h.sides b) d.cells h.cells;
    standard = λ id c place e k. absurd (at-no-place id c place e (ap kind_stand k));
    constants = constants (names_of d) d.rules (h.rules (names_of d));
  }

-- ---- the calls that furnish one

pub bare-empty : (w0 w1 : Data) → w0 ≡ fresh → w1 ≡ record w0 { sides = 2 } → IsBare w1
bare-empty w0 w1 e0 e1 = rw (e1, e0) (record {
  sides = refl;
  apart = refl;
  scopes = refl;
  queues = refl;
  entries = refl;
  rules = λ n. All-nil (λ rule. HasConstant (rule_in n rule).kind);
  cells = All-nil IsBareCell;
})

pub bare-text : (d d' : Data) (texts : List (List ℕ)) → IsBare d → d' ≡ with_texts d texts → IsBare d'
bare-text d d' texts h e = rw e (record { sides = h.sides; apart = h.apart; scopes = h.scopes; queues = h.queues; entries = h.entries; rules = h.rules; cells = h.cells })

pub bare-rules : (d d' : Data) (rules : List WorldRule) → IsBare d → ((n : Names) → All (λ rule. HasConstant (rule_in n rule).kind) rules) → d' ≡ record d { rules = rules } → IsBare d'
bare-rules d d' rules h k e = rw e (record { sides = h.sides; apart = h.apart; scopes = h.scopes; queues = h.queues; entries = h.entries; rules = k; cells = h.cells })

pub bare-made : (d d' : Data) (home : Side) (kind : CellKind) (label : Option StrId) → IsBare d → home.0 < 2 → IsBareKind kind → d' ≡ made d home kind v.Null label → IsBare d'
bare-made d d' home kind label h l b e = subst IsBare (sym e) (by kind b)
  where
    more : (k : CellKind) → IsBareKind k → All IsBareCell (d.cells ++ (bare home k label ∷ []))
    more k b = All-append IsBareCell d.cells (bare home k label ∷ []) h.cells (All-cons IsBareCell (bare home k label) []
        (record { home = home; kind = k; label = label; side = l; is_bare = b; is = refl }) (All-nil IsBareCell))

    by : (k : CellKind) → IsBareKind k → IsBare (made d home k v.Null label)
    by Plain b = record { sides = h.sides; apart = h.apart; scopes = h.scopes; queues = h.queues; entries = h.entries; rules = h.rules; cells = more Plain b }
    by (Proxy None None shape) b = record { sides = h.sides; apart = h.apart; scopes = h.scopes; queues = h.queues; entries = h.entries; rules = h.rules; cells = more (Proxy None None shape) b }
    by k b = absurd b
