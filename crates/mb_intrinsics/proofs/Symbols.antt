-- Texts of values, symbols that are made, and the texts that describe them.
use Rattle.std.proofs.Common.{◌+◌, ◌++◌, ◌<◌, ◌^◌, ◌∙◌, ◌∷◌, ◌≡◌, ◌≤◌, Bool, List, None, Ok, Option, Some, [], ap, arith, codes, false, length, map, nat_lt, option_map, refl, slice_get, slice_index_or, suc, sym, true, zero, ℕ}
use Rattle.std.specs.Prelude.{if◌then◌else◌, unwrap_or}
use Rattle.std.proofs.lemmas.Bool.Decides.{nat_tests}
use Rattle.std.proofs.lemmas.List.{length-append, length-map}
use Rattle.std.proofs.lemmas.Option.{get_or_from_slice_get, slice_get-get_or, slice_get-map}
use Rattle.mb_base.specs.declared.value.Side.{Side}
use Rattle.mb_base.specs.declared.value.StrId.{StrId}
use Rattle.mb_base.specs.declared.value.SymId.{SymId}
use Rattle.mb_base.specs.declared.value.Value.{Value}
use Rattle.mb_base.specs.declared.value.Value.TheVariants as v
use Rattle.mb_frames.proofs.Passed.{Part-by, Part-passed, Part-sure, Passes-becomes, Passes-texts}
use Rattle.mb_frames.proofs.Steps.{Sure-value}
use Rattle.mb_frames.specs.Passing.{Part, Passes, TextsGrew}
use Rattle.mb_frames.specs.Resolved.{label_in, values_in}
use Rattle.mb_frames.specs.declared.frame.Move.{Move}
use Rattle.mb_frames.specs.declared.frame.Move.TheVariants as move
use Rattle.mb_frames.specs.declared.machine.Halt.{Halt}
use Rattle.mb_frames.specs.declared.task.Answer.TheVariants as a
use Rattle.mb_frames.specs.declared.task.Outcome.TheVariants as o
use Rattle.mb_intrinsics.proofs.Labels.{object-cases}
use Rattle.mb_model.specs.BuiltIns.Basics.{described_symbol, string, symbol, symbol_described, symbol_of, symbol_string, value_string}
use Rattle.mb_model.specs.Meaning.{finished}
use Rattle.mb_model.specs.Operations.Conversions.{text_limit}
use Rattle.mb_model.specs.Task.{Answer, Value as ValueAnswer}
use Rattle.mb_model.specs.Writing.{◌>>=◌, Does, Row, give, is_value, or_type_error, range_error, type_error}
use Rattle.mb_world.proofs.AfterCalls.{of-symbol}
use Rattle.mb_world.proofs.Images.{value-grows}
use Rattle.mb_world.specs.Data.{Data, description_of, with_symbol}
use Rattle.mb_world.specs.Graph.{Graph, Item}
use Rattle.mb_world.specs.Ids.{HasItsIds, SymbolIn, TextIn}
use Rattle.mb_world.specs.Image.{Image, Names, Resolve, names_of, text_in}
use Rattle.mb_world.specs.Symbols.{description_in, symbol_text}
use Rattle.mb_world.specs.Value.{Symbol as SymbolVal, Text, Val, is_undefined, to_text}
use Rattle.std.proofs.Common.{Result}
use Rattle.std.proofs.lemmas.List.Elements.{All-nil}
use Rattle.mb_frames.specs.Held.{HeldValue}
use Rattle.mb_frames.specs.Ready.{MayHold}
use Rattle.mb_world.specs.Contained.{IsOwn}

-- ---- a text is given

-- the part that goes on with a text of a later world
pub text-given : (home : Side) (d d1 : Data) (u : ℕ) (t : StrId) (p : Graph → Row) → TextsGrew d d1 → TextIn d1 t
    → ((log : List Item) → p (Image d log) ≡ is_value (Text (text_in (names_of d1) t)) finished (Image d log))
    → Part home (Ok (move.Done (o.Normal (a.Value (v.Text t))))) d d1 u u p
text-given home d d1 u t p g h e =
    let q : Graph → Row = is_value (Text (text_in (names_of d1) t)) finished in
    Part-passed home (Ok (move.Done (o.Normal (a.Value (v.Text t))))) d d1 d1 u u u p q (Passes-texts d d1 u p q g e)
    (Part-sure home d1 u q (move.Done (o.Normal (a.Value (v.Text t)))) (Sure-value home d1 (v.Text t) h))

-- a part goes on after texts were added
pub after-texts : (home : Side) (r : Result Move Halt) (d d1 d2 : Data) (u u1 : ℕ) (p q : Graph → Row) → TextsGrew d d1
    → ((log : List Item) → p (Image d log) ≡ q (Image d log)) → Part home r d1 d2 u u1 q → Part home r d d2 u u1 p
after-texts home r d d1 d2 u u1 p q g e h =
    Part-passed home r d d1 d2 u u u1 p q (Passes-texts d d1 u p q g e) h

-- ---- String

pub head-is : {A : Type 0} (xs : List A) (x : A) → slice_get xs 0 ≡ Some x → (rest : List A) × (xs ≡ x ∷ rest)
head-is [] x e = cc
head-is (y ∷ ys) x e = (let q : y ≡ x = cc in (ys, ap (λ z. z ∷ ys) q))

pub none-is : {A : Type 0} (xs : List A) → slice_get xs 0 ≡ None → xs ≡ []
none-is [] e = refl
none-is (y ∷ ys) e = cc

-- an argument that is no symbol
pub string-value : (n : Names) (s : ℕ) (x : Value) (vs : List Val) → ((t : SymId) → x ≡ v.Symbol t → ⊥)
    → string s (Resolve n x ∷ vs) ≡ value_string s (Resolve n x)
string-value n s v.Undefined vs h = refl
string-value n s v.Null vs h = refl
string-value n s (v.Bool b) vs h = refl
string-value n s (v.Whole z) vs h = refl
string-value n s (v.Text t) vs h = refl
string-value n s (v.Symbol t) vs h = absurd (h t refl)
string-value n s (v.Object id) vs h =
    object-cases n id (λ y. string s (y ∷ vs) ≡ value_string s y) (λ i. refl) (λ p. refl)

module _ (s : ℕ) (d : Data) (x : Value) (log : List Item) where
  pub value-text : (t : List ℕ) → Some t ≡ to_text (Resolve (names_of d) x)
      → value_string s (Resolve (names_of d) x) finished (Image d log) ≡ is_value (Text t) finished (Image d log)
  value-text t e =
      ap (λ o. (or_type_error s o >>= (λ u. give (ValueAnswer (Text u)))) finished (Image d log)) (sym e)

  pub value-none : None ≡ to_text (Resolve (names_of d) x)
      → value_string s (Resolve (names_of d) x) finished (Image d log) ≡ type_error s finished (Image d log)
  value-none e = ap (λ o. (or_type_error s o >>= (λ u. give (ValueAnswer (Text u)))) finished (Image d log)) (sym e)

  pub symbol-text-known : (t : List ℕ) → Some t ≡ to_text (Resolve (names_of d) x)
      → symbol_described s (Resolve (names_of d) x) finished (Image d log) ≡ symbol_of (Some t) finished (Image d log)
  symbol-text-known t e = ap (λ o. (or_type_error s o >>= (λ u. symbol_of (Some u))) finished (Image d log)) (sym e)

  pub symbol-none : None ≡ to_text (Resolve (names_of d) x)
      → symbol_described s (Resolve (names_of d) x) finished (Image d log) ≡ type_error s finished (Image d log)
  symbol-none e = ap (λ o. (or_type_error s o >>= (λ u. symbol_of (Some u))) finished (Image d log)) (sym e)

-- ---- texts that describe symbols

module _ (d : Data) (t : SymId) (there : SymbolIn d t) where
  description-is : (log : List Item)
      → description_in (slice_get (Image d log).symbols t.0) ≡ label_in (names_of d) (description_of d t)
  description-is log =
      ap description_in (slice_get-map (option_map (text_in (names_of d))) d.symbols t.0
      ∙ ap (option_map (option_map (text_in (names_of d)))) (slice_get-get_or d.symbols t.0 None there))

  pub symbol-text : (log : List Item) → symbol_text (Image d log) t.0
      ≡ codes "Symbol(" ++ unwrap_or (label_in (names_of d) (description_of d t)) [] ++ codes ")"
  symbol-text log = ap (λ x. codes "Symbol(" ++ unwrap_or x [] ++ codes ")") (description-is log)

  module _ (s : ℕ) (units : List ℕ) (e : (log : List Item) → symbol_text (Image d log) t.0 ≡ units) where
    chosen : (b : Bool) → nat_lt text_limit (length units) ≡ b → (log : List Item)
        → symbol_string s t.0 finished (Image d log)
        ≡ (let p : Does Answer = if b then range_error s else give (ValueAnswer (Text units)) in p finished
        (Image d log))
    chosen b h log =
        ap (λ x. described_symbol s x finished (Image d log)) (e log)
        ∙ ap (λ (q : Bool). let p : Does Answer = if q then range_error s else give (ValueAnswer (Text units)) in p
        finished (Image d log)) h

    pub described-long : text_limit < length units → (log : List Item)
        → symbol_string s t.0 finished (Image d log) ≡ range_error s finished (Image d log)
    described-long h log =
        let b : nat_lt text_limit (length units) ≡ true = grind (arith, nat_tests) in
        chosen true b log

    pub described-short : length units ≤ text_limit → (log : List Item)
        → symbol_string s t.0 finished (Image d log) ≡ is_value (Text units) finished (Image d log)
    described-short h log =
        let b : nat_lt text_limit (length units) ≡ false = grind (arith, nat_tests) in
        chosen false b log

pub not-long : (n : ℕ) → (text_limit < n → ⊥) → n ≤ text_limit
not-long n h = by (nat_lt text_limit n) refl
  where
    by : (b : Bool) → nat_lt text_limit n ≡ b → n ≤ text_limit
    by true e = absurd (h (grind (arith, nat_tests)))
    by false e = grind (arith, nat_tests)

-- ---- symbols that are made

pub symbol-held : (d : Data) (home : Side) (x : Option StrId) (id : SymId) → id.0 ≡ length d.symbols
    → MayHold (with_symbol d x) home (HeldValue (v.Symbol id))
symbol-held d home x id n = record {
  within = omega (arith, n, length-append d.symbols (x ∷ []));
  sound = tt;
  own = λ u. All-nil (IsOwn (with_symbol d x) home);
}

pub symbol-made : (home : Side) (d : Data) (x : Option StrId) (id : SymId) → HasItsIds d → id.0 ≡ length d.symbols
    → (u : ℕ)
    → Part home (Ok (move.Done (o.Normal (a.Value (v.Symbol id))))) d (with_symbol d x) u u
    (symbol_of (label_in (names_of d) x) finished)
symbol-made home d x id i n u =
    let d1 : Data = with_symbol d x in
    let p : Graph → Row = symbol_of (label_in (names_of d) x) finished in
    let q : Graph → Row = is_value (SymbolVal id.0) finished in
    let h : id.0 < length d1.symbols = omega (arith, n, length-append d.symbols (x ∷ [])) in
    Part-passed home (Ok (move.Done (o.Normal (a.Value (v.Symbol id))))) d d1 d1 u u u p q
    (Passes-becomes d d1 u _ p q (of-symbol d x i) refl refl refl refl
    (λ log. ap (λ (k : ℕ). is_value (SymbolVal k) finished
    (let g : Graph = record (Image d log) { symbols = (Image d log).symbols ++ (label_in (names_of d) x ∷ []) } in g))
    (length-map d.symbols (option_map (text_in (names_of d))) ∙ sym n)))
    (Part-sure home d1 u q (move.Done (o.Normal (a.Value (v.Symbol id)))) (Sure-value home d1 (v.Symbol id) h))

pub no-undefined : (n : Names) (x : Value) → (x ≡ v.Undefined → ⊥) → is_undefined (Resolve n x) ≡ false
no-undefined n v.Undefined h = absurd (h refl)
no-undefined n v.Null h = refl
no-undefined n (v.Bool b) h = refl
no-undefined n (v.Whole z) h = refl
no-undefined n (v.Text t) h = refl
no-undefined n (v.Symbol t) h = refl
no-undefined n (v.Object id) h = object-cases n id (λ y. is_undefined y ≡ false) (λ i. refl) (λ p. refl)

pub symbol-value : (n : Names) (s : ℕ) (x : Value) → (x ≡ v.Undefined → ⊥)
    → symbol s (Resolve n x) ≡ symbol_described s (Resolve n x)
symbol-value n s x h =
    ap (λ (b : Bool). let p : Does Answer = if b then symbol_of None else symbol_described s (Resolve n x) in p)
    (no-undefined n x h)
