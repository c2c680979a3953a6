-- Scopes that are entered keep a world ready, and their home may hold them.
use Rattle.std.proofs.Common.{◌++◌, ◌<◌, ◌≡◌, ◌∷◌, List, Ok, Some, [], false, length, map, nat_eq, refl, slice_get}
use Rattle.std.proofs.lemmas.List.Elements.{All-nil}
use Rattle.std.proofs.lemmas.Option.{slice_get_within}
use Rattle.std.specs.List.{AllByRecursion, IsDistinct, flat_map}
use Rattle.std.specs.Prelude.{All}
use Rattle.mb_base.specs.declared.value.ScopeId.{ScopeId}
use Rattle.mb_base.specs.declared.value.Side.{Side}
use Rattle.mb_frames.proofs.Readying.{scope-changed}
use Rattle.mb_frames.specs.Held.{HeldScope}
use Rattle.mb_frames.specs.Keeping.{KeepsAnswer, scope_held}
use Rattle.mb_frames.specs.Ready.{MayHold, Holds, IsReady}
use Rattle.mb_parts.proofs.Entered.{entered}
use Rattle.mb_parts.specs.Scopes.{unbound}
use Rattle.mb_tree.specs.Names.{Binds}
use Rattle.mb_world.specs.Contained.{IsOwn, in_option, in_value}
use Rattle.mb_world.specs.Data.{Data, with_scope}
use Rattle.mb_world.specs.Formed.{FormedScope, InRange, option_values}
use Rattle.mb_world.specs.Ids.{ScopeOf}
use Rattle.mb_world.specs.declared.scope.Bound.{Bound}
use Rattle.mb_world.specs.declared.scope.Scope.{Scope}

at-end : {A : Type 0} (xs : List A) (x : A) → slice_get (xs ++ (x ∷ [])) (length xs) ≡ Some x
at-end [] x = refl
at-end (y ∷ xs) x = at-end xs x

-- ---- names that aren't given

no-values : (bs : List Binds) → All InRange (flat_map (λ (b : Bound). option_values b.value) (map unbound bs))
no-values [] = All-nil InRange
no-values (b ∷ bs) = no-values bs

no-references : (d : Data) (home : Side) (bs : List Binds)
    → All (IsOwn d home) (flat_map (λ (b : Bound). in_option in_value b.value) (map unbound bs))
no-references d home [] = All-nil (IsOwn d home)
no-references d home (b ∷ bs) = no-references d home bs

apart : (b : Binds) (bs : List Binds) → AllByRecursion (λ (y : Binds). nat_eq b.1.0 y.1.0 ≡ false) bs
    → AllByRecursion (λ (y : Bound). nat_eq (unbound b).name.0 y.name.0 ≡ false) (map unbound bs)
apart b [] h = tt
apart b (y ∷ ys) h = (h.0, apart b ys h.1)

pub distinct-unbound : (bs : List Binds) → IsDistinct (λ (a b : Binds). nat_eq a.1.0 b.1.0) bs
    → IsDistinct (λ (a b : Bound). nat_eq a.name.0 b.name.0) (map unbound bs)
unfolding IsDistinct
distinct-unbound [] h = tt
distinct-unbound (b ∷ bs) h = (apart b bs h.0, distinct-unbound bs h.1)

-- ---- a scope more

module _ (d : Data) (home : Side) (s : Scope) (id : ScopeId) (of_home : s.home ≡ home) (e : id.0 ≡ length d.scopes)
  where
    pub new-held : Holds (with_scope d s) home (scope_held id)
    new-held =
        let g : slice_get (d.scopes ++ (s ∷ [])) id.0 ≡ Some s = rw e (at-end d.scopes s) in (
          record {
            within = slice_get_within (d.scopes ++ (s ∷ [])) id.0 s g;
            sound = rw g of_home;
            own = λ u. All-nil (IsOwn (with_scope d s) home);
          },
          tt,
        )

pub entered-keeps : (d d' : Data) (home : Side) (parent id : ScopeId) (bs : List Binds) (names : List Bound) → IsReady d
    → home.0 < d.sides → MayHold d home (HeldScope parent) → IsDistinct (λ (a b : Binds). nat_eq a.1.0 b.1.0) bs
    → names ≡ map unbound bs → ScopeOf d (entered home parent names) → d' ≡ with_scope d (entered home parent names)
    → id.0 ≡ length d.scopes → KeepsAnswer home scope_held (Ok id) d d'
entered-keeps d d' home parent id bs names r i h n e s m k =
    let f : FormedScope d (length d.scopes) (entered home parent names) = record {
      home = i;
      wholes = rw e (no-values bs);
      parent = (h.within, h.sound);
      distinct = rw e (distinct-unbound bs n);
    } in
    rw m (record {
      changed = scope-changed home d r (entered home parent names) refl s f (λ u. rw e (no-references d home bs));
      holds = new-held d home (entered home parent names) id refl k;
    })
