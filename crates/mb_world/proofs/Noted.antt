-- The index of roles, once a cell is noted.
use Rattle.std.proofs.Common.{◌≡◌, ℕ, List, [], ◌∷◌, ◌++◌, length, Bool, true, false, ◌&&◌, nat_eq, arith, refl, sym, ◌∙◌, ap, true≢false}
use Rattle.std.specs.Prelude.{position}
use Rattle.std.proofs.lemmas.Bool.{eqb-true}
use Rattle.std.proofs.lemmas.Bool.Decides.{nat_tests}
use Rattle.mb_base.specs.declared.value.ObjId.{ObjId}
use Rattle.mb_base.specs.declared.value.Side.{Side}
use Rattle.mb_world.specs.contracts.roles.RolePartialEq.TheImpl
use Rattle.mb_world.specs.declared.roles.Role.{Role}
use Rattle.mb_world.specs.declared.roles.Role.TheVariants.{ProxyOf, BuiltInOf, BuiltIn}
use Rattle.mb_world.specs.declared.cell.Cell.{Cell}
use Rattle.mb_world.specs.Data.{Stand, Counted, AtPlace, Before, Hidden, obj_id, same_side}
use Rattle.mb_world.specs.machine.Roles.{same_role, plays, plays_by, player, noted}
use Rattle.mb_world.specs.machine.Firsts.{or_if}
use Rattle.mb_world.proofs.Firsts.{or_if-false, or_if-map, position-push}

abbrev pub derived : Role → Role → Bool
derived = (TheImpl.eq-value).it

derived_is : (a b : Role) → derived a b ≡ same_role a b
derived_is (ProxyOf s o) (ProxyOf t p) = refl
derived_is (ProxyOf s o) (BuiltInOf t m) = refl
derived_is (ProxyOf s o) (BuiltIn m) = refl
derived_is (BuiltInOf s n) (ProxyOf t p) = refl
derived_is (BuiltInOf s n) (BuiltInOf t m) = refl
derived_is (BuiltInOf s n) (BuiltIn m) = refl
derived_is (BuiltIn n) (ProxyOf t p) = refl
derived_is (BuiltIn n) (BuiltInOf t m) = refl
derived_is (BuiltIn n) (BuiltIn m) = refl

pub same : derived ≡ same_role
same = λ i a b. derived_is a b i

both : (a b : Bool) → (a && b) ≡ true → (a ≡ true) × (b ≡ true)
both true true h = (refl, refl)
both true false h = absurd (true≢false (sym h))
both false b h = absurd (true≢false (sym h))

pub same_role-equal : (a b : Role) → same_role a b ≡ true → a ≡ b
same_role-equal (ProxyOf s o) (ProxyOf t p) h =
    let q = both (nat_eq s.0 t.0) (nat_eq o.0 p.0) h in
    ap (λ n. let x : Side = record { 0 = n } in ProxyOf x o) (eqb-true s.0 t.0 q.0) ∙ ap (λ n. let x : ObjId = record { 0 = n } in ProxyOf t x) (eqb-true o.0 p.0 q.1)
same_role-equal (BuiltInOf s n) (BuiltInOf t m) h =
    let q = both (nat_eq s.0 t.0) (nat_eq n m) h in
    ap (λ k. let x : Side = record { 0 = k } in BuiltInOf x n) (eqb-true s.0 t.0 q.0) ∙ ap (λ k. BuiltInOf t k) (eqb-true n m q.1)
same_role-equal (BuiltIn n) (BuiltIn m) h = ap (λ k. BuiltIn k) (eqb-true n m h)
same_role-equal (ProxyOf s o) (BuiltInOf t m) h = absurd (true≢false (sym h))
same_role-equal (ProxyOf s o) (BuiltIn m) h = absurd (true≢false (sym h))
same_role-equal (BuiltInOf s n) (ProxyOf t p) h = absurd (true≢false (sym h))
same_role-equal (BuiltInOf s n) (BuiltIn m) h = absurd (true≢false (sym h))
same_role-equal (BuiltIn n) (ProxyOf t p) h = absurd (true≢false (sym h))
same_role-equal (BuiltIn n) (BuiltInOf t m) h = absurd (true≢false (sym h))

same_nat : (n : ℕ) → nat_eq n n ≡ true
same_nat n = grind (arith, nat_tests)

pub same_role-same : (a : Role) → same_role a a ≡ true
same_role-same (ProxyOf s o) = rw (same_nat s.0, same_nat o.0) refl
same_role-same (BuiltInOf s n) = rw (same_nat s.0, same_nat n) refl
same_role-same (BuiltIn n) = same_nat n

and-false : (b : Bool) → (b && false) ≡ false
and-false true = refl
and-false false = refl

-- a built-in has two roles
pub note-built-in : (home : Side) (place : ℕ) (id : ObjId) (old mid new : List (Role × ObjId)) → ((r : Role) → noted mid r ≡ or_if (same_role r (BuiltInOf home place)) id (noted old r)) → ((r : Role) → noted new r ≡ or_if (same_role r (BuiltIn place)) id (noted mid r)) → (r : Role) → noted new r ≡ or_if (plays_by r home (AtPlace place)) id (noted old r)
note-built-in home place id old mid new f g (ProxyOf s o) = rw (g (ProxyOf s o), f (ProxyOf s o), and-false (same_side s home)) (or_if-false id (or_if false id (noted old (ProxyOf s o))))
note-built-in home place id old mid new f g (BuiltInOf s n) = rw (g (BuiltInOf s n), f (BuiltInOf s n)) (or_if-false id (or_if (nat_eq s.0 home.0 && nat_eq n place) id (noted old (BuiltInOf s n))))
note-built-in home place id old mid new f g (BuiltIn n) = rw (g (BuiltIn n), f (BuiltIn n), or_if-false id (noted old (BuiltIn n))) refl

pub note-proxy : (home : Side) (behind : ObjId) (id : ObjId) (old new : List (Role × ObjId)) → ((r : Role) → noted new r ≡ or_if (same_role r (ProxyOf home behind)) id (noted old r)) → (r : Role) → noted new r ≡ or_if (plays_by r home (Before behind.0)) id (noted old r)
note-proxy home behind id old new f (ProxyOf s o) = f (ProxyOf s o)
note-proxy home behind id old new f (BuiltInOf s n) = rw (f (BuiltInOf s n), and-false (same_side s home)) refl
note-proxy home behind id old new f (BuiltIn n) = f (BuiltIn n)

-- which stands play a role
abbrev pub plays_none : Stand → Bool
plays_none Counted = true
plays_none Hidden = true
plays_none _ = false

pub note-none : (home : Side) (s : Stand) (id : ObjId) (rs : List (Role × ObjId)) → plays_none s ≡ true → (r : Role) → noted rs r ≡ or_if (plays_by r home s) id (noted rs r)
note-none home s id rs h r = rw (none r s h, or_if-false id (noted rs r)) refl
  where
    none : (r : Role) (s : Stand) → plays_none s ≡ true → plays_by r home s ≡ false
    none (ProxyOf t o) Counted h = and-false (same_side t home)
    none (ProxyOf t o) Hidden h = and-false (same_side t home)
    none (BuiltInOf t n) Counted h = and-false (same_side t home)
    none (BuiltInOf t n) Hidden h = and-false (same_side t home)
    none (BuiltIn n) Counted h = refl
    none (BuiltIn n) Hidden h = refl
    none r (AtPlace place) h = absurd (true≢false (sym h))
    none r (Before behind) h = absurd (true≢false (sym h))

-- ---- one more cell

pub player-push : (cells : List Cell) (c : Cell) (role : Role) → player (cells ++ c ∷ []) role ≡ or_if (plays role c) (obj_id (length cells)) (player cells role)
player-push cells c role =
    rw (position-push (plays role) cells c) (or_if-map obj_id (plays role c) (length cells) (position (plays role) cells))
