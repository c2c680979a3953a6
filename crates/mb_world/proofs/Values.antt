-- Values, and what they stand for.
use Rattle.std.proofs.Common.{◌≡◌, ℕ, ℤ, pos, negsuc, List, [], ◌∷◌, Bool, true, false, ◌&&◌, nat_eq, Option, Some, None, refl, sym, ap, ◌∙◌, true≢false, slice_get}
use Rattle.std.proofs.lemmas.Bool.{eqb-true, eq-eqb}
use Rattle.std.proofs.lemmas.Bool.Decides.{Decides-int_eq}
use Rattle.std.proofs.lemmas.Option.{slice_get-get_or}
use Rattle.mb_base.specs.declared.value.StrId.{StrId}
use Rattle.mb_base.specs.declared.value.SymId.{SymId}
use Rattle.mb_base.specs.declared.value.ObjId.{ObjId}
use Rattle.mb_base.specs.declared.value.Value.{Value}
use Rattle.mb_base.specs.declared.value.Value.TheVariants as v
use Rattle.mb_desc.specs.Validate.{same_flag}
use Rattle.mb_desc.specs.Values.{equal}
use Rattle.mb_desc.specs.Values as own
use Rattle.mb_text.specs.Texts.{AreDistinct, text_at}
use Rattle.mb_text.proofs.WithText.{one_place}
use Rattle.mb_world.specs.Value.{Val, Undefined, Null, Truth, Whole, Text, Symbol, Object, BuiltIn, same_units, same_whole, same_value, is_object}
use Rattle.mb_world.specs.Data.{Data, Stand, Counted, AtPlace, Before, Hidden}
use Rattle.mb_world.specs.Ids.{TextIn, ValueIn}
use Rattle.mb_world.specs.Image.{Names, names_of, stood, object_in, Resolve}

-- ---- equal values of the graph are the same value

pub both-true : (a b : Bool) → a && b ≡ true → (a ≡ true) × (b ≡ true)
both-true true true h = (refl, refl)
both-true true false h = absurd (true≢false (sym h))
both-true false b h = absurd (true≢false (sym h))

pub units-same : (x : List ℕ) → same_units x x ≡ true
units-same [] = refl
units-same (a ∷ x) = let h : nat_eq a a ≡ true = eq-eqb a a refl in rw (h, units-same x) refl

pub units-equal : (x y : List ℕ) → same_units x y ≡ true → x ≡ y
units-equal [] [] h = refl
units-equal [] (b ∷ y) h = absurd (true≢false (sym h))
units-equal (a ∷ x) [] h = absurd (true≢false (sym h))
units-equal (a ∷ x) (b ∷ y) h =
    let k = both-true (nat_eq a b) (same_units x y) h in
    let e : a ≡ b = eqb-true a b k.0 in
    let t : x ≡ y = units-equal x y k.1 in
    cc

flag-same : (b : Bool) → same_flag b b ≡ true
flag-same true = refl
flag-same false = refl

flag-equal : (a b : Bool) → same_flag a b ≡ true → a ≡ b
flag-equal true true h = refl
flag-equal true false h = absurd (true≢false (sym h))
flag-equal false true h = absurd (true≢false (sym h))
flag-equal false false h = refl

whole-same : (z : ℤ) → same_whole z z ≡ true
whole-same (pos n) = eq-eqb n n refl
whole-same (negsuc n) = eq-eqb n n refl

whole-equal : (x y : ℤ) → same_whole x y ≡ true → x ≡ y
whole-equal (pos a) (pos b) h = ap pos (eqb-true a b h)
whole-equal (negsuc a) (negsuc b) h = ap negsuc (eqb-true a b h)
whole-equal (pos a) (negsuc b) h = absurd (true≢false (sym h))
whole-equal (negsuc a) (pos b) h = absurd (true≢false (sym h))

pub value-same : (x : Val) → same_value x x ≡ true
value-same Undefined = refl
value-same Null = refl
value-same (Truth b) = flag-same b
value-same (Whole z) = whole-same z
value-same (Text t) = units-same t
value-same (Symbol n) = eq-eqb n n refl
value-same (Object n) = eq-eqb n n refl
value-same (BuiltIn p) = eq-eqb p p refl

pub value-equal : (x y : Val) → same_value x y ≡ true → x ≡ y
value-equal Undefined Undefined h = refl
value-equal Null Null h = refl
value-equal (Truth a) (Truth b) h = ap Truth (flag-equal a b h)
value-equal (Whole a) (Whole b) h = ap Whole (whole-equal a b h)
value-equal (Text a) (Text b) h = ap Text (units-equal a b h)
value-equal (Symbol a) (Symbol b) h = ap Symbol (eqb-true a b h)
value-equal (Object a) (Object b) h = ap Object (eqb-true a b h)
value-equal (BuiltIn a) (BuiltIn b) h = ap BuiltIn (eqb-true a b h)
value-equal _ _ h = absurd (true≢false (sym h))

-- ---- and so are those of a world

flag-is : (b : Bool) → equal (v.Bool b) (v.Bool b) ≡ true
flag-is true = refl
flag-is false = refl

pub equal-same : (x : Value) → equal x x ≡ true
equal-same v.Undefined = refl
equal-same v.Null = refl
equal-same (v.Bool b) = flag-is b
equal-same (v.Whole z) = (Decides-int_eq z z).1 refl
equal-same (v.Text t) = eq-eqb t.0 t.0 refl
equal-same (v.Symbol t) = eq-eqb t.0 t.0 refl
equal-same (v.Object t) = eq-eqb t.0 t.0 refl

-- ---- what values stand for

-- a reference stands for an object
pub object-object : (n : Names) (o : ObjId) → is_object (object_in n o) ≡ true
object-object n o = by (slice_get n.stands o.0)
  where
    by : (s : Option Stand) → is_object (stood n o.0 s) ≡ true
    by (Some Counted) = refl
    by (Some (AtPlace place)) = refl
    by (Some (Before behind)) = refl
    by (Some Hidden) = refl
    by None = refl

-- two references are told apart
abbrev pub Apart : Names → Value → Value → Type 0
Apart n x y = (a b : ObjId) → x ≡ v.Object a → y ≡ v.Object b → object_in n a ≡ object_in n b → a ≡ b

module _ (d : Data) (distinct : AreDistinct d.texts) where
  text-there : (t : StrId) → TextIn d t → slice_get d.texts t.0 ≡ Some (text_at d.texts t)
  text-there t h = slice_get-get_or d.texts t.0 [] h

  pub text-apart : (a b : StrId) → TextIn d a → TextIn d b → text_at d.texts a ≡ text_at d.texts b → a ≡ b
  text-apart a b h k e =
      let i : a.0 ≡ b.0 = one_place d.texts a.0 b.0 (text_at d.texts a) distinct (text-there a h) (text-there b k ∙ ap Some (sym e)) in
      ap (λ n. let id : StrId = record { 0 = n } in id) i

  -- values that stand for the same are the same
  pub resolve-apart : (x y : Value) → ValueIn d x → ValueIn d y → Apart (names_of d) x y → Resolve (names_of d) x ≡ Resolve (names_of d) y → x ≡ y
  resolve-apart (v.Object a) (v.Object b) h k o e = ap v.Object (o a b refl refl e)
  resolve-apart (v.Object a) y h k o e = absurd (true≢false (sym (object-object (names_of d) a) ∙ ap is_object e))
  resolve-apart x (v.Object b) h k o e = absurd (true≢false (sym (object-object (names_of d) b) ∙ ap is_object (sym e)))
  resolve-apart (v.Text a) (v.Text b) h k o e = let t : text_at d.texts a ≡ text_at d.texts b = cc in ap v.Text (text-apart a b h k t)
  resolve-apart (v.Symbol a) (v.Symbol b) h k o e = let t : a.0 ≡ b.0 = cc in ap (λ n. let id : SymId = record { 0 = n } in v.Symbol id) t
  resolve-apart (v.Bool a) (v.Bool b) h k o e = let t : a ≡ b = cc in ap v.Bool t
  resolve-apart (v.Whole a) (v.Whole b) h k o e = let t : a ≡ b = cc in ap v.Whole t
  resolve-apart v.Undefined v.Undefined h k o e = refl
  resolve-apart v.Null v.Null h k o e = refl
  resolve-apart _ _ h k o e = cc

  -- so they compare as what they stand for does
  pub same-as : (x y : Value) → ValueIn d x → ValueIn d y → Apart (names_of d) x y → same_value (Resolve (names_of d) x) (Resolve (names_of d) y) ≡ equal x y
  same-as x y h k o = by (equal x y) refl (same_value (Resolve (names_of d) x) (Resolve (names_of d) y)) refl
    where
      by : (b : Bool) → equal x y ≡ b → (c : Bool) → same_value (Resolve (names_of d) x) (Resolve (names_of d) y) ≡ c → same_value (Resolve (names_of d) x) (Resolve (names_of d) y) ≡ equal x y
      by true e true f = f ∙ sym e
      by false e false f = f ∙ sym e
      by true e false f =
          let is : x ≡ y = own.same_value x y e in
          absurd (true≢false (sym (value-same (Resolve (names_of d) x)) ∙ ap (λ z. same_value (Resolve (names_of d) x) (Resolve (names_of d) z)) is ∙ f))
      by false e true f =
          let is : x ≡ y = resolve-apart x y h k o (value-equal (Resolve (names_of d) x) (Resolve (names_of d) y) f) in
          absurd (true≢false (sym (equal-same x) ∙ ap (equal x) is ∙ e))
