-- What an object becomes by a definition evolves as a cell: from the objects of the graph to cells.
use Rattle.mb_base.specs.declared.value.Key.{Key}
use Rattle.mb_base.specs.declared.value.Value.{Value}
use Rattle.mb_desc.specs.View.{View}
use Rattle.mb_desc.specs.declared.descriptor.Full.{Full}
use Rattle.mb_frames.specs.Wholeness.{cell_view, key_sort, text_sort}
use Rattle.mb_growth.specs.Objects.{as_view, pair, sort_of}
use Rattle.mb_view.specs.Views.{Evolves, KeepsOrderBy, is_symbol, is_text, keys_where}
use Rattle.mb_view.specs.Views as views
use Rattle.mb_world.specs.Image.{Names, Resolve, full_in, key_in, property_in, thing_in}
use Rattle.mb_world.specs.Key.{Named, PropertyKey, SymbolKey, index_of, same_key}
use Rattle.mb_world.specs.Value.{Val}
use Rattle.mb_world.specs.declared.cell.Cell.{Cell}
use Rattle.std.proofs.Common.{Bool, List, None, Option, Some, [], ap, is_some, map, refl, subst, ℕ, ◌∙◌, ◌∷◌, ◌≡◌}
use Rattle.std.proofs.Common.{if◌then◌else◌}
use Rattle.std.specs.List.{filter}
use Rattle.std.specs.Map.{keys_of}

-- ---- sorts of keys

by-index : (o : Option ℕ) → (if is_some o then views.Index else views.Text) ≡ text_sort o
by-index None = refl
by-index (Some i) = refl

same-sort : (k : PropertyKey) → sort_of k ≡ key_sort k
same-sort (Named t) = by-index (index_of t)
same-sort (SymbolKey n) = refl

filter-agree : {A : Type 0} (p q : A → Bool) → ((x : A) → p x ≡ q x) → (xs : List A) → filter p xs ≡ filter q xs
filter-agree p q h [] = refl
filter-agree {A} p q h (x ∷ xs) =
    let e : p x ≡ q x = h x in
    rw e (ap (λ (r : List A). if q x then x ∷ r else r) (filter-agree p q h xs))

module _ (a b : View PropertyKey Val) where
  order-by : (p q : PropertyKey → Bool) → ((k : PropertyKey) → p k ≡ q k) → KeepsOrderBy same_key p a b
      → KeepsOrderBy same_key q a b
  order-by p q h o =
      let x : keys_where p a ≡ keys_where q a = filter-agree p q h (keys_of a.properties) in
      let y : keys_where p b ≡ keys_where q b = filter-agree p q h (keys_of b.properties) in
      record {
        closed = λ e. rw (← x, ← y) (o.closed e);
        fixed = λ key t f. rw (← x, ← y) (o.fixed key (h key ∙ t) f);
      }

  pub resorted : Evolves same_key sort_of a b → Evolves same_key key_sort a b
  resorted e = record {
    facts = e.facts;
    order = record {
      texts = order-by (λ k. is_text (sort_of k)) (λ k. is_text (key_sort k))
          (λ k. ap is_text (same-sort k)) e.order.texts;
      symbols = order-by (λ k. is_symbol (sort_of k)) (λ k. is_symbol (key_sort k))
          (λ k. ap is_symbol (same-sort k)) e.order.symbols;
    };
  }

-- ---- a cell as a view

pairs : (n : Names) (ps : List (Key × Full Value)) → map pair (map (property_in n) ps)
    ≡ map (λ p. (key_in n p.0, full_in n p.1)) ps
pairs n [] = refl
pairs n (p ∷ ps) = ap (λ qs. (key_in n p.0, full_in n p.1) ∷ qs) (pairs n ps)

pub view-is : (n : Names) (c : Cell) → as_view (thing_in n c) ≡ cell_view n c
view-is n c =
    ap (λ (ps : List (PropertyKey × Full Val)). let v : View PropertyKey Val =
    record { prototype = Resolve n c.proto; extensible = c.extensible; properties = ps } in v)
    (pairs n c.props)

-- the cells evolve where the objects do
pub things-evolve : (n n' : Names) (c e : Cell)
    → Evolves same_key sort_of (as_view (thing_in n c)) (as_view (thing_in n' e))
    → Evolves same_key key_sort (cell_view n c) (cell_view n' e)
things-evolve n n' c e h =
    subst (λ v. Evolves same_key key_sort (cell_view n c) v) (view-is n' e)
    (subst (λ v. Evolves same_key key_sort v (as_view (thing_in n' e))) (view-is n c)
    (resorted (as_view (thing_in n c)) (as_view (thing_in n' e)) h))
