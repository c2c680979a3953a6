-- Objects change within what is fixed of them, and shadows stay as they are.
use Rattle.std.proofs.Common.{◌≡◌, ◌&&◌, inl, inr, ℕ, List, [], ◌∷◌, ◌++◌, flat_map, map, slice_get, Option, Some, None, Bool, true, false, is_some, refl, ap, sym, ◌∙◌, subst, true≢false, if◌then◌else◌, option_map}
use Rattle.std.specs.Prelude.{All}
use Rattle.std.specs.List.{AllByRecursion}
use Rattle.std.specs.Map.{lookup}
use Rattle.std.proofs.lemmas.Option.{slice_get_within, slice_get-map}
use Rattle.std.proofs.lemmas.List.Elements.{All-head}
use Rattle.mb_base.specs.declared.value.ObjId.{ObjId}
use Rattle.mb_base.specs.declared.value.Side.{Side}
use Rattle.mb_base.specs.declared.value.Key.{Key}
use Rattle.mb_base.specs.declared.value.Value.{Value}
use Rattle.mb_desc.specs.declared.descriptor.Full.{Full}
use Rattle.mb_desc.specs.View.{View}
use Rattle.mb_view.specs.Views.{property_of, KeepsFacts}
use Rattle.mb_view.specs.Shown.{Treatment, Untouched, Hidden, Substituted, shown_property as shown_as, shown}
use Rattle.mb_view.specs.Promises.{Fact, Holds}
use Rattle.mb_view.specs.Entries.{Told}
use Rattle.mb_view.specs.Lean.{IsLean}
use Rattle.mb_view.proofs.Evolving.{facts-refl, facts-trans}
use Rattle.mb_view.proofs.Showing.{lookup-shown, shown-facts}
use Rattle.mb_view.proofs.Tables.{same_key-sym}
use Rattle.mb_world.specs.declared.cell.Cell.{Cell}
use Rattle.mb_world.specs.declared.cell.Shape.{Shape}
use Rattle.mb_world.specs.declared.cell.CellKind.{CellKind}
use Rattle.mb_world.specs.declared.cell.CellKind.TheVariants as kind
use Rattle.mb_world.specs.declared.cell.CellKind.TheVariants.{Membrane, Shadow, Proxy, BuiltIn}
use Rattle.mb_world.specs.Value.{Val}
use Rattle.mb_world.specs.Key.{PropertyKey, same_key}
use Rattle.mb_world.specs.Graph as graph
use Rattle.mb_world.specs.Graph.{Graph, Thing, Kind, Property, Rule, RuleKind, Hide, ReadOnly, Substitute, Revoke}
use Rattle.mb_world.specs.Objects.{find_property, own_property, thing_at, is_proxy_kind}
use Rattle.mb_world.specs.Standard.{standard_at}
use Rattle.mb_world.specs.View.{ViewOf, Shown, view_if, view_by_kind, shown_by, key_rule, find_key_rule, applies, names_key, foreign_owner, is_for}
use Rattle.mb_world.specs.Data.{Data, Stand, Counted, AtPlace, Before, kind_stand, stand, stands, cell_at, is_counted}
use Rattle.mb_world.specs.Grows.{Grows}
use Rattle.mb_world.specs.Ids.{HasItsIds, CellIn, KindIn, ObjIn}
use Rattle.mb_world.specs.Image.{Names, names_of, object_in, number_at, stood, text_in, property_in, thing_in, kind_in, rule_in, entry_in, entries_in}
use Rattle.mb_world.specs.Contained.{Contained, Paired, IsMembrane, IsOwn, HasItsTwo, in_cell, in_kind, in_value, in_full, in_option, in_pair, is_shadow}
use Rattle.mb_world.specs.Formed.{is_of_membrane}
use Rattle.mb_world.proofs.Grow.{All-at}
use Rattle.mb_world.proofs.Images.{option-same, rules-grow}
use Rattle.mb_world.proofs.AfterCalls.{thing-at}
use Rattle.mb_world.proofs.SameKeys.{key-equal}
use Rattle.mb_model.specs.Trace.Lawful.{deed_of}
use Rattle.mb_rules.specs.Seen.{graph_of}
use Rattle.mb_maps.proofs.Lists.{some-get, some-is, same-some, All-left}
use Rattle.mb_shadow.specs.Seeing.{cell_view, home_at, view_through}
use Rattle.mb_shadow.specs.Shadows.{told_of, Shadowed, Lean}
use Rattle.mb_shadow.specs.Laws.{KeepsKind, KeepsObject, ObjectsEvolve, EvolvingKeepsShadows}
use Rattle.mb_shadow.proofs.Entered.{entries-by}
use Rattle.mb_shadow.proofs.Holds.{pair, view-grows}
use Rattle.mb_shadow.proofs.Shown.{seen-at}

-- ---- an object as a view

abbrev pub thing_view : Thing → View PropertyKey Val
thing_view t = record { prototype = t.prototype; extensible = t.extensible; properties = map (λ p. (p.key, p.full)) t.properties }

pairs-same : (n : Names) (ps : List (Key × Full Value)) → map (λ (p : Property). (p.key, p.full)) (map (property_in n) ps) ≡ map (pair n) ps
pairs-same n [] = refl
pairs-same n (p ∷ ps) = ap (λ r. pair n p ∷ r) (pairs-same n ps)

thing-cell : (n : Names) (c : Cell) → thing_view (thing_in n c) ≡ cell_view n c
thing-cell n c = rw (pairs-same n c.props) refl

-- ---- what a side sees of a later object keeps the facts

-- what the rule of a key does with it
abbrev treatment : Option RuleKind → Treatment Val
treatment None = Untouched
treatment (Some (Hide x)) = Hidden
treatment (Some ReadOnly) = Untouched
treatment (Some (Substitute x v)) = Substituted v
treatment (Some Revoke) = Untouched

abbrev rule_of : Graph → ℕ → Thing → PropertyKey → Treatment Val
rule_of g v t k = treatment (key_rule g v t k)

shown-is : (r : Option RuleKind) (o : Option (Full Val)) → shown_by r o ≡ shown_as (treatment r) o
shown-is None o = refl
shown-is (Some (Hide x)) o = refl
shown-is (Some ReadOnly) o = refl
shown-is (Some (Substitute x v)) None = refl
shown-is (Some (Substitute x v)) (Some p) = refl
shown-is (Some Revoke) o = refl

find-is : (k : PropertyKey) (ps : List Property) → find_property k ps ≡ lookup (same_key k) (map (λ p. (p.key, p.full)) ps)
find-is k [] = refl
find-is k (p ∷ ps) =
    ap (λ (b : Bool). if b then Some p.full else find_property k ps) (same_key-sym same_key key-equal p.key k)
    ∙ ap (λ (r : Option (Full Val)). if same_key k p.key then Some p.full else r) (find-is k ps)

sees-by-rules : (g : Graph) (v : ℕ) (t : Thing) (k : PropertyKey) → property_of same_key (Shown g v t) k ≡ property_of same_key (shown (rule_of g v t) (thing_view t)) k
sees-by-rules g v t k =
    seen-at g v t k
    ∙ shown-is (key_rule g v t k) (own_property k t)
    ∙ ap (shown_as (rule_of g v t k)) (find-is k t.properties)
    ∙ sym (lookup-shown same_key key-equal (rule_of g v t) (map (λ p. (p.key, p.full)) t.properties) k)

same-applies : (v : ℕ) (t u : Thing) (r : Rule) → t.owner ≡ u.owner → t.label ≡ u.label → applies v t r ≡ applies v u r
same-applies v t u r owner label =
    ap (λ (o : Option ℕ). foreign_owner v o && is_for v o t.label r) owner
    ∙ ap (λ (l : Option (List ℕ)). foreign_owner v u.owner && is_for v u.owner l r) label

same-key-rule : (k : PropertyKey) (v : ℕ) (t u : Thing) (rs : List Rule) → t.owner ≡ u.owner → t.label ≡ u.label → find_key_rule k v t rs ≡ find_key_rule k v u rs
same-key-rule k v t u [] owner label = refl
same-key-rule k v t u (r ∷ rs) owner label =
    ap (λ (b : Bool). if b && names_key k r.kind then Some r.kind else find_key_rule k v t rs) (same-applies v t u r owner label)
    ∙ ap (λ (o : Option RuleKind). if applies v u r && names_key k r.kind then Some r.kind else o) (same-key-rule k v t u rs owner label)

-- the same one's, and what was fixed of it still holds
pub record IsSameLater (t u : Thing) : Type 0 where
  pub owner : t.owner ≡ u.owner
  pub label : t.label ≡ u.label
  pub facts : KeepsFacts same_key (thing_view t) (thing_view u)

pub shown-keeps : (g h : Graph) (v : ℕ) (t u : Thing) → h.rules ≡ g.rules → IsSameLater t u → KeepsFacts same_key (Shown g v t) (Shown h v u)
shown-keeps g h v t u rules later =
    let same : (k : PropertyKey) → rule_of g v t k ≡ rule_of h v u k =
    λ k. ap treatment (same-key-rule k v t u g.rules later.owner later.label) ∙ ap (λ (rs : List Rule). treatment (find_key_rule k v u rs)) (sym rules) in
    let facts : KeepsFacts same_key (shown (rule_of g v t) (thing_view t)) (shown (rule_of h v u) (thing_view u)) =
    subst (λ (rule : PropertyKey → Treatment Val). KeepsFacts same_key (shown (rule_of g v t) (thing_view t)) (shown rule (thing_view u)))
    (λ i k. same k i) (shown-facts same_key key-equal (rule_of g v t) (thing_view t) (thing_view u) later.facts) in
    record {
      properties = λ key property at fixed.
          let m = facts.properties key property (sym (sees-by-rules g v t key) ∙ at) fixed in
          (m.0, sees-by-rules h v u key ∙ m.1, m.2);
      closed = facts.closed;
      prototype = facts.prototype;
      absent = λ closed key none. sees-by-rules h v u key ∙ facts.absent closed key (sym (sees-by-rules g v t key) ∙ none);
    }

-- ---- views by kind

plain-view : (g : Graph) (side : ℕ) (t : Thing) (k : Kind) → is_proxy_kind k ≡ false → view_by_kind g side t k ≡ Some (Shown g side t)
plain-view g side t (graph.Proxy target handler shape) h = absurd (true≢false h)
plain-view g side t (graph.Gone shape) h = absurd (true≢false h)
plain-view g side t k h = refl

stand-at : (d : Data) (id : ObjId) (c : Cell) (s : Stand) → cell_at d id ≡ Some c → stand c ≡ s → slice_get (stands d.cells) id.0 ≡ Some s
stand-at d id c s e h = slice_get-map stand d.cells id.0 ∙ ap (option_map stand) e ∙ ap Some h

-- what is seen through a proxy goes by the cell behind
through-is : (d : Data) → Paired d → (proxy behind shadow : ObjId) (side : Side) → IsMembrane d proxy side behind shadow → (b : Cell) → cell_at d behind ≡ Some b
    → (stand b ≡ Counted) × (view_through d proxy ≡ view_by_kind (graph_of d) side.0 (thing_in (names_of d) b) (kind_in (names_of d) b.slots b.kind))
through-is d paired proxy behind shadow side m b e =
    let n = names_of d in
    let counted : stand b ≡ Counted = some-is (λ (c : Cell). stand c ≡ Counted) (cell_at d behind) b e (paired.behind_is_object proxy behind shadow side m) in
    let home : home_at d proxy ≡ side = rw m.there m.home_is in
    let means : object_in n proxy ≡ object_in n behind =
    ap (stood n proxy.0) (stand-at d proxy m.cell (Before behind.0) m.there (ap kind_stand m.kind_is)) ∙ sym (ap (stood n behind.0) (stand-at d behind b Counted e counted)) in (
      counted,
      ap (λ (s : Side). ViewOf (graph_of d) s.0 (object_in n proxy)) home
          ∙ ap (ViewOf (graph_of d) side.0) means
          ∙ ap (view_if (graph_of d) side.0) (thing-at d behind b [] e (ap is_counted counted)),
    )

-- ---- kinds

keeps-stand : (k l : CellKind) → KeepsKind k l → kind_stand l ≡ kind_stand k
keeps-stand (Proxy (Some target) handler shape) l h = elim h [ inl e ↦ ap kind_stand e | inr e ↦ ap kind_stand e ]
keeps-stand (Proxy None handler shape) l h = ap kind_stand h
keeps-stand kind.Plain l h = ap kind_stand h
keeps-stand kind.Array l h = ap kind_stand h
keeps-stand (kind.Function code) l h = ap kind_stand h
keeps-stand (BuiltIn place) l h = ap kind_stand h
keeps-stand (kind.Fault e) l h = ap kind_stand h
keeps-stand (kind.Revoker proxy) l h = ap kind_stand h
keeps-stand (Membrane behind shadow) l h = ap kind_stand h
keeps-stand (Shadow shape) l h = ap kind_stand h
keeps-stand (kind.Collection coll) l h = ap kind_stand h

module _ (d d' : Data) (ids : HasItsIds d) (contained : Contained d) (paired : Paired d) (o : ObjectsEvolve d d') where
  abbrev n : Names
  n = names_of d

  abbrev n' : Names
  n' = names_of d'

  abbrev g : Graph
  g = graph_of d

  abbrev g' : Graph
  g' = graph_of d'

  abbrev grows : Grows d d'
  grows = o.resolves

  same-rules : g'.rules ≡ g.rules
  same-rules = ap (map (rule_in n')) o.rules ∙ rules-grow d d' grows d.rules ids.rules_in

  same-entries : entries_in d' ≡ entries_in d
  same-entries = ap (map (entry_in d'.texts)) o.entries ∙ entries-by d d' grows d.entries ids.entries_in

  within : (id : ObjId) (c : Cell) → cell_at d id ≡ Some c → CellIn d c
  within id c e = All-at (CellIn d) d.cells id.0 c e ids.cells_in

  -- an object of before is there in a later form
  later : (id : ObjId) (c : Cell) → cell_at d id ≡ Some c → (c' : Cell) × (cell_at d' id ≡ Some c') × KeepsObject d d' c c' × IsSameLater (thing_in n c) (thing_in n' c')
  later id c e =
      let q = o.cells id c e in (
        q.0,
        q.1,
        q.2,
        record {
          owner = ap (λ (s : Side). Some s.0) (sym q.2.home);
          label = sym (ap (option_map (text_in n')) q.2.label ∙ option-same (text_in n') (text_in n) _ grows.same_text c.label (within id c e).label_in);
          facts = subst (λ (v : View PropertyKey Val). KeepsFacts same_key v (thing_view (thing_in n' q.0))) (sym (thing-cell n c))
              (subst (λ (v : View PropertyKey Val). KeepsFacts same_key (cell_view n c) v) (sym (thing-cell n' q.0)) q.2.facts);
        },
      )

  -- a thing that a reference of before stands for
  pub record HasLater (x : Val) : Type 0 where
    pub thing : Thing
    pub there : thing_at g x ≡ Some thing
    pub thing_later : Thing
    pub there_later : thing_at g' x ≡ Some thing_later
    pub is_later : IsSameLater thing thing_later

  same-later : (t : Thing) → IsSameLater t t
  same-later t = record { owner = refl; label = refl; facts = facts-refl same_key (thing_view t) }

  counted-later : (id : ObjId) (c : Cell) → cell_at d id ≡ Some c → stand c ≡ Counted → HasLater (object_in n id)
  counted-later id c e s =
      let q = later id c e in
      let s' : stand q.0 ≡ Counted = keeps-stand c.kind q.0.kind q.2.kind ∙ s in
      let i : ObjIn d id = slice_get_within d.cells id.0 c e in
      record {
        thing = thing_in n c;
        there = thing-at d id c [] e (ap is_counted s);
        thing_later = thing_in n' q.0;
        there_later = ap (thing_at g') (sym (grows.same_object id i)) ∙ thing-at d' id q.0 [] q.1 (ap is_counted s');
        is_later = q.3;
      }

  standard-later : (id : ObjId) (c : Cell) (place : ℕ) (t : Thing) → cell_at d id ≡ Some c → stand c ≡ AtPlace place → standard_at place ≡ Some t → HasLater (object_in n id)
  standard-later id c place t e s p =
      let is = ap (stood n id.0) (stand-at d id c (AtPlace place) e s) in
      record {
        thing = t;
        there = ap (thing_at g) is ∙ p;
        thing_later = t;
        there_later = ap (thing_at g') is ∙ p;
        is_later = same-later t;
      }

  -- whatever a reference that a side holds stands for, if it is there later, it was there, and is the same one's
  reference-later : (id : ObjId) (side : Side) (u : Thing) → IsOwn d side id → thing_at g' (object_in n id) ≡ Some u → HasLater (object_in n id)
  reference-later id side u own at = by c.0.kind refl
    where
      c : (c : Cell) × (cell_at d id ≡ Some c) × ((c.home ≡ side) × (is_shadow c.kind ≡ false))
      c = some-get (λ (c : Cell). (c.home ≡ side) × (is_shadow c.kind ≡ false)) (cell_at d id) own

      built-in : (place : ℕ) → c.0.kind ≡ BuiltIn place → HasLater (object_in n id)
      built-in place k =
          let s : stand c.0 ≡ AtPlace place = ap kind_stand k in
          standard-later id c.0 place u c.1 s (sym (ap (thing_at g') (ap (stood n id.0) (stand-at d id c.0 (AtPlace place) c.1 s))) ∙ at)

      membrane : (behind shadow : ObjId) → c.0.kind ≡ Membrane behind shadow → HasLater (object_in n id)
      membrane behind shadow k =
          let m : IsMembrane d id c.0.home behind shadow = record { cell = c.0; there = c.1; home_is = refl; kind_is = k } in
          let b = some-get (λ (x : Cell). stand x ≡ Counted) (cell_at d behind) (paired.behind_is_object id behind shadow c.0.home m) in
          let means : object_in n id ≡ object_in n behind =
          ap (stood n id.0) (stand-at d id c.0 (Before behind.0) c.1 (ap kind_stand k)) ∙ sym (ap (stood n behind.0) (stand-at d behind b.0 Counted b.1 b.2)) in
          subst HasLater (sym means) (counted-later behind b.0 b.1 b.2)

      by : (k : CellKind) → c.0.kind ≡ k → HasLater (object_in n id)
      by (BuiltIn place) k = built-in place k
      by (Membrane behind shadow) k = membrane behind shadow k
      by (Shadow shape) k = absurd (true≢false (sym (ap is_shadow k) ∙ c.2.1))
      by kind.Plain k = counted-later id c.0 c.1 (ap kind_stand k)
      by kind.Array k = counted-later id c.0 c.1 (ap kind_stand k)
      by (kind.Function code) k = counted-later id c.0 c.1 (ap kind_stand k)
      by (kind.Fault e) k = counted-later id c.0 c.1 (ap kind_stand k)
      by (Proxy t h s) k = counted-later id c.0 c.1 (ap kind_stand k)
      by (kind.Revoker p) k = counted-later id c.0 c.1 (ap kind_stand k)
      by (kind.Collection coll) k = counted-later id c.0 c.1 (ap kind_stand k)

  -- ---- what is seen later was seen before, in an earlier form
  abbrev SawEarlier : Option (View PropertyKey Val) → View PropertyKey Val → Type 0
  SawEarlier before view' = (view : View PropertyKey Val) × (before ≡ Some view) × KeepsFacts same_key view view'

  module _ (side : Side) (b b' : Cell) (id : ObjId) (there : cell_at d id ≡ Some b) (there' : cell_at d' id ≡ Some b') (keeps : KeepsObject d d' b b') (is-later : IsSameLater (thing_in n b) (thing_in n' b'))
      (view' : View PropertyKey Val) where
    abbrev View' : CellKind → Type 0
    View' k = view_by_kind g' side.0 (thing_in n' b') (kind_in n' b'.slots k) ≡ Some view'

    plain-earlier : (k : CellKind) → b.kind ≡ k → is_proxy_kind (kind_in n b.slots k) ≡ false → is_proxy_kind (kind_in n' b'.slots k) ≡ false → b'.kind ≡ k
        → View' b'.kind → SawEarlier (view_by_kind g side.0 (thing_in n b) (kind_in n b.slots b.kind)) view'
    plain-earlier k e p p' e' h =
        let now : Some (Shown g' side.0 (thing_in n' b')) ≡ Some view' =
        sym (plain-view g' side.0 (thing_in n' b') (kind_in n' b'.slots k) p') ∙ ap (λ (k : CellKind). view_by_kind g' side.0 (thing_in n' b') (kind_in n' b'.slots k)) (sym e') ∙ h in
        let same : Shown g' side.0 (thing_in n' b') ≡ view' = cc in (
          Shown g side.0 (thing_in n b),
          ap (λ (k : CellKind). view_by_kind g side.0 (thing_in n b) (kind_in n b.slots k)) e ∙ plain-view g side.0 (thing_in n b) (kind_in n b.slots k) p,
          subst (λ (v : View PropertyKey Val). KeepsFacts same_key (Shown g side.0 (thing_in n b)) v) same (shown-keeps g g' side.0 (thing_in n b) (thing_in n' b') same-rules is-later),
        )

    none-later : (k : CellKind) → b'.kind ≡ k → view_by_kind g' side.0 (thing_in n' b') (kind_in n' b'.slots k) ≡ None → View' b'.kind → ⊥
    none-later k e none h =
        let bad : None ≡ Some view' = sym none ∙ ap (λ (k : CellKind). view_by_kind g' side.0 (thing_in n' b') (kind_in n' b'.slots k)) (sym e) ∙ h in
        true≢false (ap (λ (v : Option (View PropertyKey Val)). is_some v) (sym bad))

    owner-home : b'.home ≡ b.home
    owner-home = keeps.home

    target-earlier : (target handler : ObjId) (shape : Shape) → b.kind ≡ Proxy (Some target) (Some handler) shape → b'.kind ≡ Proxy (Some target) (Some handler) shape
        → View' b'.kind → SawEarlier (view_by_kind g side.0 (thing_in n b) (kind_in n b.slots b.kind)) view'
    target-earlier target handler shape e e' h =
        let all : All (IsOwn d b.home) (in_cell b) = All-at (λ (c : Cell). All (IsOwn d c.home) (in_cell c)) d.cells id.0 b there contained.cells_own in
        let first : All (IsOwn d b.home) (in_kind b.kind) =
        All-left (IsOwn d b.home) (in_kind b.kind) (in_value b.proto)
        (All-left (IsOwn d b.home) (in_kind b.kind ++ in_value b.proto) (flat_map (λ p. in_full p.1) b.props)
        (All-left (IsOwn d b.home) (in_kind b.kind ++ in_value b.proto ++ flat_map (λ p. in_full p.1) b.props) (flat_map (in_option in_pair) b.slots) all)) in
        let has : All (IsOwn d b.home) (in_kind (Proxy (Some target) (Some handler) shape)) = subst (λ (k : CellKind). All (IsOwn d b.home) (in_kind k)) e first in
        let own : IsOwn d b.home target = All-head (IsOwn d b.home) target (handler ∷ []) has in
        let t = some-get (λ (c : Cell). (c.home ≡ b.home) × (is_shadow c.kind ≡ false)) (cell_at d target) own in
        let i : ObjIn d target = slice_get_within d.cells target.0 t.0 t.1 in
        let now : option_map (Shown g' b'.home.0) (thing_at g' (object_in n' target)) ≡ Some view' =
        ap (λ (k : CellKind). view_by_kind g' side.0 (thing_in n' b') (kind_in n' b'.slots k)) (sym e') ∙ h in
        let u = mapped (thing_at g' (object_in n' target)) (Shown g' b'.home.0) view' now in
        let later = reference-later target b.home u.0 own (ap (thing_at g') (sym (grows.same_object target i)) ∙ u.1) in
        let same : later.thing_later ≡ u.0 = (let f : Some later.thing_later ≡ Some u.0 = sym later.there_later ∙ ap (thing_at g') (sym (grows.same_object target i)) ∙ u.1 in cc) in
        let view-is : Shown g' b.home.0 later.thing_later ≡ view' = view-as later.thing_later u.0 same u.2 in (
          Shown g b.home.0 later.thing,
          ap (λ (k : CellKind). view_by_kind g side.0 (thing_in n b) (kind_in n b.slots k)) e ∙ ap (option_map (Shown g b.home.0)) later.there,
          subst (λ (v : View PropertyKey Val). KeepsFacts same_key (Shown g b.home.0 later.thing) v) view-is (shown-keeps g g' b.home.0 later.thing later.thing_later same-rules later.is_later),
        )
      where
        mapped : (o : Option Thing) (f : Thing → View PropertyKey Val) (v : View PropertyKey Val) → option_map f o ≡ Some v → (t : Thing) × (o ≡ Some t) × (f t ≡ v)
        mapped None f v e = cc
        mapped (Some t) f v e = (t, refl, cc)

        view-as : (t u : Thing) → t ≡ u → Shown g' b'.home.0 u ≡ view' → Shown g' b.home.0 t ≡ view'
        view-as t u e f = ap (Shown g' b.home.0) e ∙ ap (λ (s : Side). Shown g' s.0 u) (sym owner-home) ∙ f

    earlier : (k : CellKind) → b.kind ≡ k → KeepsKind k b'.kind → View' b'.kind → SawEarlier (view_by_kind g side.0 (thing_in n b) (kind_in n b.slots b.kind)) view'
    earlier (Proxy (Some target) (Some handler) shape) e h v = elim h [
      | inl e' ↦ target-earlier target handler shape e e' v
      | inr e' ↦ absurd (none-later (Proxy None None shape) e' refl v)
    ]
    earlier (Proxy (Some target) None shape) e h v = elim h [
      | inl e' ↦ absurd (none-later (Proxy (Some target) None shape) e' refl v)
      | inr e' ↦ absurd (none-later (Proxy None None shape) e' refl v)
    ]
    earlier (Proxy None handler shape) e h v = absurd (none-later (Proxy None handler shape) h refl v)
    earlier kind.Plain e h v = plain-earlier kind.Plain e refl refl h v
    earlier kind.Array e h v = plain-earlier kind.Array e refl refl h v
    earlier (kind.Function code) e h v = plain-earlier (kind.Function code) e refl refl h v
    earlier (BuiltIn place) e h v = plain-earlier (BuiltIn place) e refl refl h v
    earlier (kind.Fault x) e h v = plain-earlier (kind.Fault x) e refl refl h v
    earlier (kind.Revoker x) e h v = plain-earlier (kind.Revoker x) e refl refl h v
    earlier (Membrane behind shadow) e h v = plain-earlier (Membrane behind shadow) e refl refl h v
    earlier (Shadow shape) e h v = plain-earlier (Shadow shape) e refl refl h v
    earlier (kind.Collection coll) e h v = plain-earlier (kind.Collection coll) e refl refl h v

  -- ---- the laws

  was-membrane : (id behind shadow : ObjId) (side : Side) → IsMembrane d' id side behind shadow → IsMembrane d id side behind shadow
  was-membrane id behind shadow side m = record {
    cell = m.cell;
    there = (o.membrane id m.cell (ap is_of_membrane m.kind_is)).1 m.there;
    home_is = m.home_is;
    kind_is = m.kind_is;
  }

  pub evolving-shadowed : Shadowed d → Shadowed d'
  evolving-shadowed h proxy behind shadow side c' view' m' there' seen' =
      let m = was-membrane proxy behind shadow side m' in
      let w = within proxy m.cell m.there in
      let k : ObjIn d behind × ObjIn d shadow = subst (KindIn d) m.kind_is w.kind_in in
      let two : HasItsTwo d m.cell.home (Membrane behind shadow) = subst (HasItsTwo d m.cell.home) m.kind_is (All-at (λ (y : Cell). HasItsTwo d y.home y.kind) d.cells proxy.0 m.cell m.there contained.two_of_proxies) in
      let c = some-get (λ (y : Cell). (y.home ≡ m.cell.home) × (is_shadow y.kind ≡ true)) (cell_at d shadow) two.1 in
      let stays : cell_at d' shadow ≡ Some c.0 = (o.membrane shadow c.0 (shadow-of-membrane c.0.kind c.2.1)).0 c.1 in
      let same : c.0 ≡ c' = same-some (cell_at d' shadow) c.0 c' stays there' in
      let b = some-get (λ (y : Cell). stand y ≡ Counted) (cell_at d behind) (paired.behind_is_object proxy behind shadow side m) in
      let l = later behind b.0 b.1 in
      let counted : stand l.0 ≡ Counted = keeps-stand b.0.kind l.0.kind l.2.kind ∙ b.2 in
      let saw = (through-is d paired proxy behind shadow side m b.0 b.1).1 in
      let sees : view_by_kind g' side.0 (thing_in n' l.0) (kind_in n' l.0.slots l.0.kind) ≡ Some view' = sym (through-later proxy behind shadow side m' l.0 l.1 counted) ∙ seen' in
      let before = earlier side b.0 l.0 behind b.1 l.1 l.2 l.3 view' b.0.kind refl l.2.kind sees in
      let faithful = h proxy behind shadow side c.0 before.0 m c.1 (saw ∙ before.1) in
      let view-is : cell_view n' c' ≡ cell_view n c.0 = ap (cell_view n') (sym same) ∙ view-grows d d' grows c.0 (within shadow c.0 c.1) in
      record {
        facts = subst (λ (v : View PropertyKey Val). KeepsFacts same_key v view') (sym view-is) (facts-trans same_key (cell_view n c.0) before.0 view' faithful.facts before.2);
        told = subst (λ (v : View PropertyKey Val). AllByRecursion (λ fact. Holds same_key fact v) (told_of d' side behind)) (sym view-is)
            (subst (λ (facts : List (Fact PropertyKey Val)). AllByRecursion (λ fact. Holds same_key fact (cell_view n c.0)) facts) (sym (told-same side behind k.0)) faithful.told);
      }
    where
      shadow-of-membrane : (k : CellKind) → is_shadow k ≡ true → is_of_membrane k ≡ true
      shadow-of-membrane (Shadow shape) e = refl
      shadow-of-membrane k e = cc

      told-same : (side : Side) (id : ObjId) → ObjIn d id → told_of d' side id ≡ told_of d side id
      told-same side id i =
          ap (λ es. Told (map deed_of es) side.0 (number_at n' id.0)) same-entries
          ∙ ap (λ (x : ℕ). Told (map deed_of (entries_in d)) side.0 x) (grows.same_number id i)

      through-later : (proxy behind shadow : ObjId) (side : Side) → IsMembrane d' proxy side behind shadow → (b' : Cell) → cell_at d' behind ≡ Some b' → stand b' ≡ Counted
          → view_through d' proxy ≡ view_by_kind g' side.0 (thing_in n' b') (kind_in n' b'.slots b'.kind)
      through-later proxy behind shadow side m b' e counted =
          let home : home_at d' proxy ≡ side = rw m.there m.home_is in
          let means : object_in n' proxy ≡ object_in n' behind =
          ap (stood n' proxy.0) (stand-at d' proxy m.cell (Before behind.0) m.there (ap kind_stand m.kind_is)) ∙ sym (ap (stood n' behind.0) (stand-at d' behind b' Counted e counted)) in
          ap (λ (s : Side). ViewOf g' s.0 (object_in n' proxy)) home
          ∙ ap (ViewOf g' side.0) means
          ∙ ap (view_if g' side.0) (thing-at d' behind b' [] e (ap is_counted counted))

  pub evolving-lean : Lean d → Lean d'
  evolving-lean h id c shape there kind =
      let was : cell_at d id ≡ Some c = (o.membrane id c (ap is_of_membrane kind)).1 there in
      subst (λ (v : View PropertyKey Val). IsLean same_key v) (sym (view-grows d d' grows c (within id c was))) (h id c shape was kind)

pub evolving-keeps : EvolvingKeepsShadows
evolving-keeps d d' ids contained paired o = (evolving-shadowed d d' ids contained paired o, evolving-lean d d' ids contained paired o)
