-- Lower levels, and lists on the stack of operands where they close.
use Rattle.std.proofs.Common.{◌≡◌, ◌≢◌, ◌⊎◌, inl, inr, ◌-◌, ℕ, zero, suc, ◌+◌, ◌<◌, ◌≤◌, Bool, true, false, List, ◌∷◌, refl, sym, subst, arith}
use Rattle.std.specs.Prelude.{nat_lt, nat_eq}
use Rattle.std.proofs.lemmas.Bool.{ltb-false, ltb-true}
use Rattle.std.proofs.lemmas.Bool.Decides.{eqb_tells}
use Rattle.mb_base.specs.declared.value.StrId.{StrId}
use Rattle.mb_token.specs.declared.token.Spanned.{Spanned}
use Rattle.mb_tree.specs.Roses.{Rose, Roses, none, more, size}
use Rattle.mb_tree.specs.machine.Operands.{pushed}
use Rattle.mb_grammar.specs.declared.role.Role.{Role}
use Rattle.mb_grammar.specs.declared.role.Role.TheVariants as r
use Rattle.mb_grammar.specs.declared.function.Maker.{Maker}
use Rattle.mb_grammar.specs.Tokens.{RoleAt}
use Rattle.mb_grammar.specs.Labels.{param}
use Rattle.mb_grammar.specs.Parts.{Names, last_name, name_and, Params, no_params, params, params_comma}
use Rattle.mb_grammar.specs.Grammar.{Stands, lift, left_new, left_call, new_member, Listed, last_of, then_of, Elements, nothing, elements_comma, PropertyList, last_property, then_property, Properties, no_property, properties_comma}
use Rattle.mb_parse_expr.proofs.Steps.{level_bound}
use Rattle.mb_parse_expr.specs.machine.Covers.{Commas, no_comma, comma_more, PropertyCommas, no_property_yet, property_more, NameCommas, no_name, name_more}

-- levels

-- a level's trees are of each level below
pub lower_by : (ts : List Spanned) (d l : ℕ) {a : Rose} {ds es : List ℕ} {i j : ℕ} → d + l ≤ 15 → Stands ts (d + l) a ds es i j → Stands ts l a ds es i j
lower_by ts zero l {a = a} {ds = ds} {es = es} {i = i} {j = j} h st =
    let e : zero + l ≡ l = omega arith in
    subst (λ n. Stands ts n a ds es i j) e st
lower_by ts (suc d) l {a = a} {ds = ds} {es = es} {i = i} {j = j} h st =
    let e : suc d + l ≡ suc (d + l) = omega arith in
    lower_by ts d l (omega arith) (lift (omega arith) (subst (λ n. Stands ts n a ds es i j) e st))

pub lower_from : (ts : List Spanned) (m l : ℕ) {a : Rose} {ds es : List ℕ} {i j : ℕ} → l ≤ m → m ≤ 15 → Stands ts m a ds es i j → Stands ts l a ds es i j
lower_from ts m l {a = a} {ds = ds} {es = es} {i = i} {j = j} h u st =
    let e : m ≡ (m - l) + l = omega arith in
    lower_by ts (m - l) l (omega arith) (subst (λ n. Stands ts n a ds es i j) e st)

-- what is of a level above 15 is of level 15, and if it isn't a call, of level 16 too
pub to_left : (ts : List Spanned) (m : ℕ) {a : Rose} {ds es : List ℕ} {i j : ℕ} → 15 < m → Stands ts m a ds es i j → Stands ts 15 a ds es i j
to_left ts m {a = a} {ds = ds} {es = es} {i = i} {j = j} h st = go (eqb_tells m 16) (eqb_tells m 17)
  where
    go : ((nat_eq m 16 ≡ true) × (m ≡ 16)) ⊎ ((nat_eq m 16 ≡ false) × (m ≢ 16)) → ((nat_eq m 17 ≡ true) × (m ≡ 17)) ⊎ ((nat_eq m 17 ≡ false) × (m ≢ 17)) → Stands ts 15 a ds es i j
    go (inl e) q = left_new (subst (λ n. Stands ts n a ds es i j) e.1 st)
    go (inr e) (inl q) = left_call (subst (λ n. Stands ts n a ds es i j) q.1 st)
    go (inr e) (inr q) =
        let b = level_bound st in
        let n16 = e.1 in
        let n17 = q.1 in
        let p : m ≡ 18 = omega (arith, n16, n17) in
        left_new (new_member (subst (λ n. Stands ts n a ds es i j) p st))

pub to_new : (ts : List Spanned) (m : ℕ) {a : Rose} {ds es : List ℕ} {i j : ℕ} → 16 ≤ m → m ≢ 17 → Stands ts m a ds es i j → Stands ts 16 a ds es i j
to_new ts m {a = a} {ds = ds} {es = es} {i = i} {j = j} h n17 st = go (eqb_tells m 16)
  where
    go : ((nat_eq m 16 ≡ true) × (m ≡ 16)) ⊎ ((nat_eq m 16 ≡ false) × (m ≢ 16)) → Stands ts 16 a ds es i j
    go (inl e) = subst (λ n. Stands ts n a ds es i j) e.1 st
    go (inr e) =
        let b = level_bound st in
        let n16 = e.1 in
        let p : m ≡ 18 = omega (arith, n16, n17) in
        new_member (subst (λ n. Stands ts n a ds es i j) p st)

pub lower : (ts : List Spanned) (m l : ℕ) {a : Rose} {ds es : List ℕ} {i j : ℕ} → l ≤ 15 → l ≤ m → Stands ts m a ds es i j → Stands ts l a ds es i j
lower ts m l {a = a} {ds = ds} {es = es} {i = i} {j = j} u h st = go (nat_lt 15 m) refl
  where
    go : (b : Bool) → nat_lt 15 m ≡ b → Stands ts l a ds es i j
    go true e = lower_from ts 15 l u (omega arith) (to_left ts m (ltb-true 15 m e) st)
    go false e = lower_from ts m l h (ltb-false 15 m e) st

pub from_place : (ts : List Spanned) {l : ℕ} {a : Rose} {ds es : List ℕ} {i k j : ℕ} → i ≡ k → Stands ts l a ds es i j → Stands ts l a ds es k j
from_place ts {l = l} {a = a} {ds = ds} {es = es} {j = j} e st = subst (λ n. Stands ts l a ds es n j) e st

pub role_from : (ts : List Spanned) (role : Role) {i k : ℕ} → i ≡ k → RoleAt ts i role → RoleAt ts k role
role_from ts role e h = subst (λ n. RoleAt ts n role) e h

-- lists on the stack of operands

pub record Listing (ts : List Spanned) (n : ℕ) (rs : List Rose) (acc : Roses) (rs' : List Rose) (ds gs : List ℕ) (i j : ℕ) : Type 0 where
  pub parts : Roses
  pub listed : Listed ts parts ds gs i j
  pub stack : pushed acc rs' ≡ pushed parts rs
  pub count : size parts ≡ n + size acc

pub close_commas : {ts : List Spanned} {n : ℕ} {rs rs' : List Rose} {ds es : List ℕ} {i k : ℕ} → Commas ts n rs rs' ds es i k → (acc : Roses) (gs : List ℕ) (j : ℕ) → Listed ts acc es gs k j → Listing ts n rs acc rs' ds gs i j
close_commas no_comma acc gs j d = record { parts = acc; listed = d; stack = refl; count = omega arith }
close_commas {ts = ts} (comma_more {a = a} {gs = es} c d e m k) acc gs j q =
    let p = close_commas c (more a acc) gs j (then_of d e (subst (λ x. Listed ts acc es gs x j) k q)) in
    record { parts = p.parts; listed = p.listed; stack = p.stack; count = omega (arith, p.count) }

pub record EndedList (ts : List Spanned) (n : ℕ) (rs rs' : List Rose) (ds es : List ℕ) (i j : ℕ) : Type 0 where
  pub parts : Roses
  pub listed : Elements ts parts ds es i j
  pub stack : rs' ≡ pushed parts rs
  pub count : size parts ≡ n

pub end_commas : {ts : List Spanned} {n : ℕ} {rs rs' : List Rose} {ds es : List ℕ} {i k : ℕ} → Commas ts n rs rs' ds es i k → EndedList ts n rs rs' ds es i k
end_commas no_comma = record { parts = none; listed = nothing; stack = refl; count = refl }
end_commas {ts = ts} {ds = ds} {i = i} (comma_more {a = a} {gs = gs} {k = k} c d e m q) =
    let p = close_commas c (more a none) gs k (last_of d) in
    record { parts = p.parts; listed = subst (λ x. Elements ts p.parts ds gs i x) (sym q) (elements_comma p.listed e); stack = p.stack; count = omega (arith, p.count) }

pub record PropertyListing (ts : List Spanned) (n : ℕ) (rs : List Rose) (acc : Roses) (rs' : List Rose) (ds gs : List ℕ) (i j : ℕ) : Type 0 where
  pub parts : Roses
  pub listed : PropertyList ts parts ds gs i j
  pub stack : pushed acc rs' ≡ pushed parts rs
  pub count : size parts ≡ n + size acc

pub close_properties : {ts : List Spanned} {n : ℕ} {rs rs' : List Rose} {ds es : List ℕ} {i k : ℕ} → PropertyCommas ts n rs rs' ds es i k → (acc : Roses) (gs : List ℕ) (j : ℕ) → PropertyList ts acc es gs k j → PropertyListing ts n rs acc rs' ds gs i j
close_properties no_property_yet acc gs j d = record { parts = acc; listed = d; stack = refl; count = omega arith }
close_properties {ts = ts} (property_more {a = a} {gs = es} c d e m k) acc gs j q =
    let p = close_properties c (more a acc) gs j (then_property d e (subst (λ x. PropertyList ts acc es gs x j) k q)) in
    record { parts = p.parts; listed = p.listed; stack = p.stack; count = omega (arith, p.count) }

pub record EndedProperties (ts : List Spanned) (n : ℕ) (rs rs' : List Rose) (ds es : List ℕ) (i j : ℕ) : Type 0 where
  pub parts : Roses
  pub listed : Properties ts parts ds es i j
  pub stack : rs' ≡ pushed parts rs
  pub count : size parts ≡ n

pub end_properties : {ts : List Spanned} {n : ℕ} {rs rs' : List Rose} {ds es : List ℕ} {i k : ℕ} → PropertyCommas ts n rs rs' ds es i k → EndedProperties ts n rs rs' ds es i k
end_properties no_property_yet = record { parts = none; listed = no_property; stack = refl; count = refl }
end_properties {ts = ts} {ds = ds} {i = i} (property_more {a = a} {gs = gs} {k = k} c d e m q) =
    let p = close_properties c (more a none) gs k (last_property d) in
    record { parts = p.parts; listed = subst (λ x. Properties ts p.parts ds gs i x) (sym q) (properties_comma p.listed e); stack = p.stack; count = omega (arith, p.count) }

pub record Naming (ts : List Spanned) (n : ℕ) (rs : List Rose) (acc : Roses) (rs' : List Rose) (i j : ℕ) : Type 0 where
  pub parts : Roses
  pub listed : Names ts parts i j
  pub stack : pushed acc rs' ≡ pushed parts rs
  pub count : size parts ≡ n + size acc

pub close_names : {ts : List Spanned} {maker : Maker} {n : ℕ} {rs rs' : List Rose} {i k : ℕ} → NameCommas ts maker n rs rs' i k → (acc : Roses) (j : ℕ) → Names ts acc k j → Naming ts n rs acc rs' i j
close_names no_name acc j d = record { parts = acc; listed = d; stack = refl; count = omega arith }
close_names {ts = ts} (name_more {x = x} y c d e m k) acc j q =
    let p = close_names c (more (param x) acc) j (name_and d e (subst (λ z. Names ts acc z j) k q)) in
    record { parts = p.parts; listed = p.listed; stack = p.stack; count = omega (arith, p.count) }

pub record EndedNames (ts : List Spanned) (n : ℕ) (rs rs' : List Rose) (i j : ℕ) : Type 0 where
  pub parts : Roses
  pub listed : Params ts parts i j
  pub stack : rs' ≡ pushed parts rs
  pub count : size parts ≡ n

pub end_names : {ts : List Spanned} {maker : Maker} {n : ℕ} {rs rs' : List Rose} {i k : ℕ} → NameCommas ts maker n rs rs' i k → EndedNames ts n rs rs' i k
end_names no_name = record { parts = none; listed = no_params; stack = refl; count = refl }
end_names {ts = ts} {i = i} (name_more {x = x} {j = j} y c d e m q) =
    let p = close_names c (more (param x) none) (j + 1) (last_name d) in
    record { parts = p.parts; listed = subst (λ z. Params ts p.parts i z) (sym q) (params_comma p.listed e); stack = p.stack; count = omega (arith, p.count) }

pub names_params : {ts : List Spanned} {maker : Maker} {n : ℕ} {rs rs' : List Rose} {i k j : ℕ} {x : StrId} → NameCommas ts maker n rs rs' i k → RoleAt ts k (r.Name x) → j ≡ k + 1 → EndedNames ts (n + 1) rs (param x ∷ rs') i j
names_params {ts = ts} {n = n} {i = i} {k = k} {j = j} {x = x} c w q =
    let p = close_names c (more (param x) none) (k + 1) (last_name w) in
    record { parts = p.parts; listed = subst (λ z. Params ts p.parts i z) (sym q) (params p.listed); stack = p.stack; count = omega (arith, p.count) }
