-- What `+` and whole numbers' operators give, with the charge of a text.
use Rattle.std.proofs.Common.{◌+◌, ◌++◌, ◌-ℤ◌, ◌/◌, ◌<◌, ◌≤◌, Bool, Err, List, None, Ok, Option, Result, Some, ap}
use Rattle.std.proofs.Common.{arith, false, length, nat_lt, refl, subst, sym, true, true≢false, ℕ, ℤ, ◌∙◌, ◌≡◌}
use Rattle.std.proofs.lemmas.Bool.Decides.{nat_tests}
use Rattle.std.specs.Prelude.{◌*ℤ◌, OnErr, OnOk, if◌then◌else◌}
use Rattle.mb_base.specs.declared.value.Side.{Side}
use Rattle.mb_base.specs.declared.value.StrId.{StrId}
use Rattle.mb_base.specs.declared.value.Value.{Value}
use Rattle.mb_base.specs.declared.value.Value.TheVariants as v
use Rattle.mb_frames.proofs.Passed.{Part-passed, Part-unpaid, Passes-by, Passes-paid, Passes-texts, Passes-then}
use Rattle.mb_eval_expr.proofs.Referring.{object-cases}
use Rattle.mb_eval_expr.specs.declared.computing.Computed.{Computed}
use Rattle.mb_eval_expr.specs.declared.computing.Computed.TheVariants as c
use Rattle.mb_eval_expr.specs.machine.Computing.{Computes, ValueOf, goes_with, is_arithmetic}
use Rattle.mb_frames.specs.Passing.{Part, Passes, TextsGrew}
use Rattle.mb_parts.specs.Standing.{ContextIn}
use Rattle.mb_frames.proofs.Agreeing.{expr-agrees, grown-agree}
use Rattle.mb_frames.specs.Grammatical.{asks_objects}
use Rattle.mb_frames.specs.Held.{AreIn}
use Rattle.mb_frames.specs.Holding.{reference_held}
use Rattle.mb_frames.specs.Resolved.{context_in, reference_in}
use Rattle.mb_frames.specs.Standing.{forms_at}
use Rattle.mb_frames.specs.declared.expressions.ExprFrame.TheVariants as e
use Rattle.mb_frames.specs.declared.expressions.Reference.{Reference}
use Rattle.mb_frames.specs.declared.task.Context.{Context}
use Rattle.mb_model.specs.Nodes.References.{put_and_give}
use Rattle.mb_frames.specs.declared.machine.Halt.{Halt}
use Rattle.mb_frames.specs.declared.machine.Halt.TheVariants.{Spent as SpentHalt, NoMemory}
use Rattle.mb_model.specs.Nodes.BinaryOperators.{divided, joined, operate, remainder, sum, whole_result, wholes}
use Rattle.mb_model.specs.Operations.Conversions.{join_charged, join_texts, text_by, text_limit}
use Rattle.mb_model.specs.Task.{Answer, Value as ValueAnswer}
use Rattle.mb_model.specs.Writing.{◌>>=◌, Does, Row, is_value, or_type_error, range_error, type_error}
use Rattle.mb_tree.specs.declared.kind.Sign.{Sign}
use Rattle.mb_tree.specs.declared.kind.Sign.TheVariants.{In, Instanceof, Minus, Percent, Slash, Times}
use Rattle.mb_world.proofs.Grow.{Grows-then}
use Rattle.mb_world.proofs.Images.{value-grows}
use Rattle.mb_world.specs.declared.cell.ErrorKind.TheVariants.{RangeError, TypeError}
use Rattle.mb_world.specs.Data.{Data, with_texts}
use Rattle.mb_world.specs.Graph.{Graph, Item}
use Rattle.mb_world.specs.Ids.{TextIn, ValueIn}
use Rattle.mb_world.specs.Image.{Image, Names, Resolve, names_of, text_in}
use Rattle.mb_world.specs.Value.{Text, Val, Whole, to_text, whole_of}

pub TextsGrew-then : (d1 d2 d3 : Data) → TextsGrew d1 d2 → TextsGrew d2 d3 → TextsGrew d1 d3
TextsGrew-then d1 d2 d3 t u = record {
  texts = u.texts ∙ ap (λ d. with_texts d d3.texts) t.texts;
  becomes = record {
    grows = Grows-then d1 d2 d3 t.becomes.grows u.becomes.grows;
    image = λ log. u.becomes.image log ∙ t.becomes.image log;
  };
  trace = u.trace ∙ t.trace;
  ids = u.ids;
}

-- ---- parts that compute

-- it goes on at once
pub Computes-same : (s : ℕ) (d : Data) (f : ℕ) (r : Computed) (p : Does Answer) → ValueOf d r
    → ((k : Answer → Graph → Row) (log : List Item) → p k (Image d log) ≡ goes_with s d r k (Image d log))
    → Computes (Ok r) s d d f f p
Computes-same s d f r p h e = (λ k. Passes-by d f (p k) (goes_with s d r k) (e k), h)

pub Computes-by : (r : Result Computed Halt) (s : ℕ) (d d' : Data) (f f' : ℕ) (p q : Does Answer) → p ≡ q
    → Computes r s d d' f f' q → Computes r s d d' f f' p
Computes-by r s d d' f f' p q e h = subst (Computes r s d d' f f') (sym e) h

-- it went over to another part
pub Computes-passed : (r : Result Computed Halt) (s : ℕ) (d1 d2 d3 : Data) (f1 f2 f3 : ℕ) (p q : Does Answer)
    → ((k : Answer → Graph → Row) → Passes d1 d2 f1 f2 (p k) (q k)) → Computes r s d2 d3 f2 f3 q
    → Computes r s d1 d3 f1 f3 p
Computes-passed (Ok r) s d1 d2 d3 f1 f2 f3 p q v h =
    (λ k. Passes-then d1 d2 d3 f1 f2 f3 (p k) (q k) (goes_with s d3 r k) (v k) (h.0 k), h.1)
Computes-passed (Err SpentHalt) s d1 d2 d3 f1 f2 f3 p q v h =
    λ k. Part-passed (record { 0 = s }) (Err SpentHalt) d1 d2 d3 f1 f2 f3 (p k) (q k) (v k) (h k)
Computes-passed (Err NoMemory) s d1 d2 d3 f1 f2 f3 p q v h = tt

pub wrong-type-at : (s : ℕ) (d : Data) (f : ℕ) (p : Does Answer) → p ≡ type_error s
    → Computes (Ok (c.Faulty TypeError)) s d d f f p
wrong-type-at s d f p e =
    Computes-same s d f (c.Faulty TypeError) p tt (λ k log. ap (λ (q : Does Answer). q k (Image d log)) e)

pub out-of-range : (s : ℕ) (d : Data) (f : ℕ) (p : Does Answer) → p ≡ range_error s
    → Computes (Ok (c.Faulty RangeError)) s d d f f p
out-of-range s d f p e =
    Computes-same s d f (c.Faulty RangeError) p tt (λ k log. ap (λ (q : Does Answer). q k (Image d log)) e)

-- ---- texts

-- what to_text gave is a text of a later world
known-then : (d1 d2 : Data) (x : StrId) (o : Option (List ℕ)) → TextsGrew d1 d2 → TextIn d1 x
    → Some (text_in (names_of d1) x) ≡ o → o ≡ Some (text_in (names_of d2) x)
known-then d1 d2 x o t h e = sym e ∙ ap Some (sym (t.becomes.grows.same_text x h))

module _ (s : ℕ) (d d1 : Data) (t : TextsGrew d d1) (f : ℕ) (a b : Value) where
  -- the left side is no text
  pub Computes-no-left : None ≡ to_text (Resolve (names_of d) a)
      → Computes (Ok (c.Faulty TypeError)) s d d1 f f (joined s (Resolve (names_of d) a) (Resolve (names_of d) b))
  Computes-no-left e =
      let A = Resolve (names_of d) a in
      let B = Resolve (names_of d) b in (
        λ k. Passes-texts d d1 f (joined s A B k) (goes_with s d1 (c.Faulty TypeError) k) t
            (λ log. ap (λ o. (or_type_error s o >>= (λ x. text_by s B >>= (λ y. join_texts s x y >>= is_value))) k
            (Image d log)) (sym e)),
        tt,
      )

  module _ (d2 : Data) (u : TextsGrew d1 d2) (h : ValueIn d b) (x : StrId) (w : TextIn d1 x)
      (known : Some (text_in (names_of d1) x) ≡ to_text (Resolve (names_of d) a)) where
    left-known : (k : Answer → Graph → Row) (log : List Item) → joined s (Resolve (names_of d) a)
        (Resolve (names_of d) b) k (Image d log)
        ≡ (text_by s (Resolve (names_of d) b) >>= (λ y. join_texts s (text_in (names_of d2) x) y >>= is_value)) k
        (Image d log)
    left-known k log =
        ap (λ o. (or_type_error s o >>= (λ z. text_by s (Resolve (names_of d) b) >>=
        (λ y. join_texts s z y >>= is_value))) k (Image d log))
        (known-then d1 d2 x (to_text (Resolve (names_of d) a)) u w known)

    right-known : (o : Option (List ℕ)) → o ≡ to_text (Resolve (names_of d1) b) → to_text (Resolve (names_of d) b) ≡ o
    right-known o e = ap to_text (sym (value-grows d d1 t.becomes.grows b h)) ∙ sym e

    -- the right side is no text
    pub Computes-no-right : None ≡ to_text (Resolve (names_of d1) b)
        → Computes (Ok (c.Faulty TypeError)) s d d2 f f (joined s (Resolve (names_of d) a) (Resolve (names_of d) b))
    Computes-no-right e = (
      λ k. Passes-texts d d2 f (joined s (Resolve (names_of d) a) (Resolve (names_of d) b) k)
          (goes_with s d2 (c.Faulty TypeError) k)
          (TextsGrew-then d d1 d2 t u)
          (λ log. left-known k log
          ∙ ap (λ o. (or_type_error s o >>= (λ y. join_texts s (text_in (names_of d2) x) y >>= is_value)) k
          (Image d log)) (right-known None e)),
      tt,
    )

    -- both are
    pub Computes-joined : (y : StrId) → Some (text_in (names_of d2) y) ≡ to_text (Resolve (names_of d1) b)
        → (r : Result Computed Halt) (d3 : Data) (f' : ℕ)
        → Computes r s d2 d3 f f' (join_texts s (text_in (names_of d2) x) (text_in (names_of d2) y) >>= is_value)
        → Computes r s d d3 f f' (joined s (Resolve (names_of d) a) (Resolve (names_of d) b))
    Computes-joined y e r d3 f' i =
        let p : Does Answer = joined s (Resolve (names_of d) a) (Resolve (names_of d) b) in
        let q : Does Answer = join_texts s (text_in (names_of d2) x) (text_in (names_of d2) y) >>= is_value in
        Computes-passed r s d d2 d3 f f f' p q
        (λ k. Passes-texts d d2 f (p k) (q k) (TextsGrew-then d d1 d2 t u)
        (λ log. left-known k log
        ∙ ap (λ o. (or_type_error s o >>= (λ z. join_texts s (text_in (names_of d2) x) z >>= is_value)) k (Image d log))
        (right-known (Some (text_in (names_of d2) y)) e)))
        i

-- a text of two
module _ (s : ℕ) (d : Data) (f : ℕ) (x y : List ℕ) where
  abbrev whole-row : Does Answer
  whole-row = join_texts s x y >>= is_value

  choose : (b : Bool) → nat_lt text_limit (length x + length y) ≡ b
      → whole-row ≡ ((if b then range_error s else join_charged x y) >>= is_value)
  choose b e = ap (λ (q : Bool). let p : Does Val = if q then range_error s else join_charged x y in p >>= is_value) e

  pub Computes-long : text_limit < length x + length y
      → Computes (Ok (c.Faulty RangeError)) s d d f f (join_texts s x y >>= is_value)
  Computes-long h =
      let t : nat_lt text_limit (length x + length y) ≡ true = grind (arith, nat_tests) in
      out-of-range s d f whole-row (choose true t)

  module _ (short : length x + length y ≤ text_limit) where
    short-row : whole-row ≡ (join_charged x y >>= is_value)
    short-row =
        let t : nat_lt text_limit (length x + length y) ≡ false = grind (arith, nat_tests) in
        choose false t

    pub Computes-unpaid : f < (length x + length y) / 64
        → Computes (Err SpentHalt) s d d f f (join_texts s x y >>= is_value)
    Computes-unpaid h =
        Computes-by (Err SpentHalt) s d d f f whole-row (join_charged x y >>= is_value) short-row
        (λ k. Part-unpaid (record { 0 = s }) d ((length x + length y) / 64) f
        (λ g. k (ValueAnswer (Text (x ++ y))) g) h)

    pub Computes-text : (d' : Data) (f' : ℕ) (z : StrId) → f' + (length x + length y) / 64 ≡ f → TextsGrew d d'
        → TextIn d' z
        → text_in (names_of d') z ≡ x ++ y
        → Computes (Ok (c.Value (v.Text z))) s d d' f f' (join_texts s x y >>= is_value)
    Computes-text d' f' z paid t h e =
        Computes-by (Ok (c.Value (v.Text z))) s d d' f f' whole-row (join_charged x y >>= is_value) short-row (
          λ k. Passes-then d d d' f f' f' ((join_charged x y >>= is_value) k) (k (ValueAnswer (Text (x ++ y))))
              (goes_with s d' (c.Value (v.Text z)) k)
              (Passes-paid d ((length x + length y) / 64) f f' (k (ValueAnswer (Text (x ++ y)))) paid)
              (Passes-texts d d' f' (k (ValueAnswer (Text (x ++ y)))) (goes_with s d' (c.Value (v.Text z)) k) t
              (λ log. ap (λ ts. k (ValueAnswer (Text ts)) (Image d log)) (sym e))),
          h,
        )

-- ---- `+`

abbrev pub is_text : Val → Bool
is_text (Text x) = true
is_text y = false

pub no-text : (n : Names) (x : Value) → ((t : StrId) → x ≡ v.Text t → ⊥) → is_text (Resolve n x) ≡ false
no-text n v.Undefined h = refl
no-text n v.Null h = refl
no-text n (v.Bool b) h = refl
no-text n (v.Whole z) h = refl
no-text n (v.Text t) h = absurd (h t refl)
no-text n (v.Symbol y) h = refl
no-text n (v.Object o) h = object-cases n o (λ y. is_text y ≡ false) (λ i. refl) (λ p. refl)

pub sum-right : (s : ℕ) (a : Val) (y : List ℕ) → sum s a (Text y) ≡ joined s a (Text y)
sum-right s (Text x) y = refl
sum-right s _ y = refl

pub sum-whole : (s : ℕ) (z : ℤ) (b : Val) → whole_of b ≡ None → is_text b ≡ false → sum s (Whole z) b ≡ type_error s
sum-whole s z (Whole y) h i = cc
sum-whole s z (Text y) h i = absurd (true≢false i)
sum-whole s z _ h i = refl

pub sum-none : (s : ℕ) (a b : Val) → whole_of a ≡ None → is_text a ≡ false → is_text b ≡ false
    → sum s a b ≡ type_error s
sum-none s (Whole z) b h i j = cc
sum-none s (Text x) b h i j = absurd (true≢false i)
sum-none s a (Text y) h i j = absurd (true≢false j)
sum-none s _ _ h i j = refl

-- ---- operators on whole numbers

wholes-left : (s : ℕ) (g : ℤ → ℤ → Does Answer) (a b : Val) → whole_of a ≡ None → wholes s g a b ≡ type_error s
wholes-left s g (Whole z) b h = cc
wholes-left s g _ b h = refl

wholes-right : (s : ℕ) (g : ℤ → ℤ → Does Answer) (z : ℤ) (b : Val) → whole_of b ≡ None → wholes s g (Whole z) b
    ≡ type_error s
wholes-right s g z (Whole y) h = cc
wholes-right s g z _ h = refl

pub arithmetic-left : (s : ℕ) (sign : Sign) (a b : Val) → is_arithmetic sign ≡ true → whole_of a ≡ None
    → operate s sign a b ≡ type_error s
arithmetic-left s Minus a b h i = wholes-left s (λ x y. whole_result s (x -ℤ y)) a b i
arithmetic-left s Times a b h i = wholes-left s (λ x y. whole_result s (x *ℤ y)) a b i
arithmetic-left s Slash a b h i = wholes-left s (divided s) a b i
arithmetic-left s Percent a b h i = wholes-left s (remainder s) a b i
arithmetic-left s _ a b h i = absurd (true≢false (sym h))

pub arithmetic-right : (s : ℕ) (sign : Sign) (z : ℤ) (b : Val) → is_arithmetic sign ≡ true → whole_of b ≡ None
    → operate s sign (Whole z) b ≡ type_error s
arithmetic-right s Minus z b h i = wholes-right s (λ x y. whole_result s (x -ℤ y)) z b i
arithmetic-right s Times z b h i = wholes-right s (λ x y. whole_result s (x *ℤ y)) z b i
arithmetic-right s Slash z b h i = wholes-right s (divided s) z b i
arithmetic-right s Percent z b h i = wholes-right s (remainder s) z b i
arithmetic-right s _ z b h i = absurd (true≢false (sym h))

-- ---- parts that take what was computed

pub Part-halted : (home : Side) (halt : Halt) (d d' : Data) (f f' : ℕ) (p : Does Answer) (k : Answer → Graph → Row)
    → Computes (Err halt) home.0 d d' f f' p → Part home (Err halt) d d' f f' (p k)
Part-halted home SpentHalt d d' f f' p k h = h k
Part-halted home NoMemory d d' f f' p k h = λ begun l. tt

-- a reference is written alike once texts were added
pub put-grows : (d d' : Data) (home : Side) → TextsGrew d d' → (at : Context) (to : Reference) → ContextIn d at
    → AreIn d (reference_held to) → (y : Val)
    → put_and_give (context_in (names_of d') home.0 at) (reference_in (names_of d') to) y y
    ≡ put_and_give (context_in (names_of d) home.0 at) (reference_in (names_of d) to) y y
put-grows d d' home t at to a h y =
    expr-agrees d (names_of d) (names_of d') (grown-agree d d' t.becomes.grows) home.0 (forms_at d home)
    (e.AssignValue at to)
    (a.0, (a.1, h)) (ValueAnswer y)

pub no-objects : (sign : Sign) → (sign ≡ In → ⊥) → (sign ≡ Instanceof → ⊥) → asks_objects sign ≡ false
no-objects In h i = absurd (h refl)
no-objects Instanceof h i = absurd (i refl)
no-objects _ h i = refl

pub no-arithmetic : (sign : Sign) → is_arithmetic sign ≡ true → (sign ≡ Minus → ⊥) → (sign ≡ Times → ⊥)
    → (sign ≡ Slash → ⊥)
    → (sign ≡ Percent → ⊥) → ⊥
no-arithmetic Minus h i j k l = i refl
no-arithmetic Times h i j k l = j refl
no-arithmetic Slash h i j k l = k refl
no-arithmetic Percent h i j k l = l refl
no-arithmetic _ h i j k l = true≢false (sym h)

pub grew-then : {A : Type 0} (r : Result A Halt) (d1 d2 d3 : Data) → TextsGrew d1 d2 → OnOk r (TextsGrew d2 d3)
    → OnOk r (TextsGrew d1 d3)
grew-then (Ok x) d1 d2 d3 t h = TextsGrew-then d1 d2 d3 t h
grew-then (Err e) d1 d2 d3 t h = tt

pub err-then : {A : Type 0} (r : Result A Halt) (d1 d2 d3 : Data) → TextsGrew d1 d2 → OnErr r (TextsGrew d2 d3)
    → OnErr r (TextsGrew d1 d3)
err-then (Ok x) d1 d2 d3 t h = tt
err-then (Err e) d1 d2 d3 t h = TextsGrew-then d1 d2 d3 t h
