-- Equal values are the same value.
use Rattle.std.specs.Prelude.{◌≡◌, Bool, true, false, refl}
use Rattle.std.proofs.Common.{ap, sym, true≢false}
use Rattle.std.proofs.lemmas.Bool.{eqb-true}
use Rattle.std.proofs.lemmas.Bool.Decides.{Decides-int_eq}
use Rattle.mb_base.specs.declared.value.Value.{Value}
use Rattle.mb_base.specs.declared.value.StrId.{StrId}
use Rattle.mb_base.specs.declared.value.SymId.{SymId}
use Rattle.mb_base.specs.declared.value.ObjId.{ObjId}
use Rattle.mb_base.specs.declared.value.Value.TheVariants as value
use Rattle.mb_base.specs.contracts.value.ValuePartialEq.TheImpl

-- the derived `==`
abbrev pub equal : Value → Value → Bool
equal = (TheImpl.eq-value).it

pub same_value : (x y : Value) → equal x y ≡ true → x ≡ y
same_value value.Undefined value.Undefined h = refl
same_value value.Null value.Null h = refl
same_value (value.Bool true) (value.Bool true) h = refl
same_value (value.Bool true) (value.Bool false) h = absurd (true≢false (sym h))
same_value (value.Bool false) (value.Bool true) h = absurd (true≢false (sym h))
same_value (value.Bool false) (value.Bool false) h = refl
same_value (value.Whole x) (value.Whole y) h = ap value.Whole ((Decides-int_eq x y).0 h)
same_value (value.Text x) (value.Text y) h =
    ap (λ n. let id : StrId = record { 0 = n } in value.Text id) (eqb-true x.0 y.0 h)
same_value (value.Symbol x) (value.Symbol y) h =
    ap (λ n. let id : SymId = record { 0 = n } in value.Symbol id) (eqb-true x.0 y.0 h)
same_value (value.Object x) (value.Object y) h =
    ap (λ n. let id : ObjId = record { 0 = n } in value.Object id) (eqb-true x.0 y.0 h)
same_value _ _ h = absurd (true≢false (sym h))
