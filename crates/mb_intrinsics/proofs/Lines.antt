-- The arguments of `print` one after the other, and the line that they give.
use Rattle.std.proofs.Common.{◌+◌, ◌++◌, ◌-◌, ◌/◌, ◌<◌, ◌∙◌, ◌∷◌, ◌≡◌, ◌≤◌, Bool, Err, List, None, Ok, Option, Some, [], ap, arith, drop, false, get_or, length, refl, subst, suc, sym, true, zero, ℕ}
use Rattle.std.proofs.lemmas.List.{drop_all, drop_more}
use Rattle.std.specs.Prelude.{All}
use Rattle.mb_base.specs.declared.value.Side.{Side}
use Rattle.mb_base.specs.declared.value.Value.{Value}
use Rattle.mb_base.specs.declared.value.Value.TheVariants as v
use Rattle.mb_frames.proofs.Passed.{Part-passed, Part-unpaid, Passes-paid, Passes-texts, Passes-then}
use Rattle.mb_frames.proofs.Steps.{Grew-same, append-none, may-calm}
use Rattle.mb_frames.specs.Passing.{Part, Passes, TextsGrew}
use Rattle.mb_frames.specs.Resolved.{values_in}
use Rattle.mb_frames.specs.Stepping.{Step, Written, charge, charged_by}
use Rattle.mb_frames.specs.declared.frame.Move.TheVariants as move
use Rattle.mb_frames.specs.declared.machine.Halt.{Halt}
use Rattle.mb_frames.specs.declared.machine.Halt.TheVariants.{NoMemory, Spent as SpentHalt}
use Rattle.mb_frames.specs.declared.task.Answer.TheVariants as a
use Rattle.mb_frames.specs.declared.task.Outcome.TheVariants as o
use Rattle.mb_intrinsics.specs.machine.Printing.{Adds, Joins, printing}
use Rattle.mb_model.specs.BuiltIns.Basics.{print_each, with_blank}
use Rattle.mb_model.specs.Meaning.{finished}
use Rattle.mb_model.specs.Writing.{◌>>=◌, or_type_error, pay, type_error}
use Rattle.mb_text.specs.Spelling.{spelled}
use Rattle.mb_world.proofs.Grow.{Grows-then}
use Rattle.mb_world.proofs.Images.{value-grows}
use Rattle.mb_world.specs.Data.{Data, with_texts}
use Rattle.mb_world.specs.EntryLine.{side_letter}
use Rattle.mb_world.specs.Graph.{Item, Printed}
use Rattle.mb_world.specs.Ids.{ValueIn}
use Rattle.mb_world.specs.Image.{Image, Resolve, entries_in, names_of}
use Rattle.mb_world.specs.Value.{Val, to_text}

-- ---- one argument

module _ (d d1 : Data) (t : TextsGrew d d1) (x : Value) (f : ℕ) (line : List ℕ) (first : Bool) where
  -- it has no text
  pub untold : None ≡ to_text (Resolve (names_of d) x)
      → Adds (Ok false) d d1 f f line line first (Resolve (names_of d) x)
  untold e = λ s vs.
      Passes-texts d d1 f (printing s line first (Resolve (names_of d) x ∷ vs)) (type_error s finished) t
      (λ log. ap (λ y. (or_type_error s y >>= (λ u. pay (length u / 64) >>=
      (λ p. print_each s (with_blank line first u) false vs))) finished (Image d log)) (sym e))

  module _ (u : List ℕ) (e : Some u ≡ to_text (Resolve (names_of d) x)) where
    told : (s : ℕ) (vs : List Val) → Passes d d1 f f (printing s line first (Resolve (names_of d) x ∷ vs))
        (charged_by (length u / 64) (printing s (with_blank line first u) false vs))
    told s vs =
        Passes-texts d d1 f (printing s line first (Resolve (names_of d) x ∷ vs))
        (charged_by (length u / 64) (printing s (with_blank line first u) false vs)) t
        (λ log. ap (λ y. (or_type_error s y >>= (λ z. pay (length z / 64) >>=
        (λ p. print_each s (with_blank line first z) false vs))) finished (Image d log)) (sym e))

    -- its text is paid
    pub added : (f1 : ℕ) (later : List ℕ) → f1 + length u / 64 ≡ f → later ≡ with_blank line first u
        → Adds (Ok true) d d1 f f1 line later first (Resolve (names_of d) x)
    added f1 later p q = λ s vs.
        let g = printing s (with_blank line first u) false vs in
        rw q
        (Passes-then d d1 d1 f f f1 (printing s line first (Resolve (names_of d) x ∷ vs))
        (charged_by (length u / 64) g) g
        (told s vs) (Passes-paid d1 (length u / 64) f f1 g p))

    -- or can't be
    pub unpaid : (later : List ℕ) → f < length u / 64
        → Adds (Err SpentHalt) d d1 f f line later first (Resolve (names_of d) x)
    unpaid later p = λ home vs.
        let g = printing home.0 (with_blank line first u) false vs in
        Part-passed home (Err SpentHalt) d d1 d1 f f f (printing home.0 line first (Resolve (names_of d) x ∷ vs))
        (charged_by (length u / 64) g) (told home.0 vs) (Part-unpaid home d1 (length u / 64) f g p)

-- ---- all of them

pub texts-more : (d1 d2 d3 : Data) → TextsGrew d1 d2 → TextsGrew d2 d3 → TextsGrew d1 d3
texts-more d1 d2 d3 t u = record {
  texts = u.texts ∙ ap (λ d. with_texts d d3.texts) t.texts;
  becomes = record {
    grows = Grows-then d1 d2 d3 t.becomes.grows u.becomes.grows;
    image = λ log. u.becomes.image log ∙ t.becomes.image log;
  };
  trace = u.trace ∙ t.trace;
  ids = u.ids;
}

-- the arguments from a place on: the one that stands there, and those after it
next-is : (d d1 : Data) → TextsGrew d d1 → (xs : List Value) (n : ℕ) (e : Value) → n < length xs
    → All (ValueIn d) xs
    → values_in (names_of d) (drop n xs)
    ≡ Resolve (names_of d1) (get_or xs n e) ∷ values_in (names_of d) (drop (n + 1) xs)
next-is d d1 t xs n e there within =
    ap (values_in (names_of d)) (drop_more xs n e there)
    ∙ ap (λ y. y ∷ values_in (names_of d) (drop (n + 1) xs))
    (sym (value-grows d d1 t.becomes.grows (get_or xs n e) (within n e there)))

module _ (d d1 d2 : Data) (t : TextsGrew d d1) (xs : List Value) (n : ℕ) (e : Value) (there : n < length xs)
    (within : All (ValueIn d) xs) (vs : List Val) (f f1 f2 : ℕ) (line later : List ℕ) (first : Bool)
    (so_far : (s : ℕ) → Passes d d1 f f1 (printing s [] true vs)
    (printing s line first (values_in (names_of d) (drop n xs)))) where
  abbrev rest : List Val
  rest = values_in (names_of d) (drop (n + 1) xs)

  abbrev this : Val
  this = Resolve (names_of d1) (get_or xs n e)

  -- the arguments from that place on are this one and the rest
  until : (s : ℕ) → Passes d d1 f f1 (printing s [] true vs) (printing s line first (this ∷ rest))
  until s =
      subst (λ ys. Passes d d1 f f1 (printing s [] true vs) (printing s line first ys))
      (next-is d d1 t xs n e there within) (so_far s)

  pub argument-added : Adds (Ok true) d1 d2 f1 f2 line later first this
      → (s : ℕ) → Passes d d2 f f2 (printing s [] true vs)
      (printing s later false (values_in (names_of d) (drop (n + 1) xs)))
  argument-added h s =
      Passes-then d d1 d2 f f1 f2 (printing s [] true vs) (printing s line first (this ∷ rest))
      (printing s later false rest)
      (until s) (h s rest)

  pub argument-refused : Adds (Ok false) d1 d2 f1 f2 line later first this
      → (s : ℕ) → Passes d d2 f f2 (printing s [] true vs) (type_error s finished)
  argument-refused h s =
      Passes-then d d1 d2 f f1 f2 (printing s [] true vs) (printing s line first (this ∷ rest)) (type_error s finished)
      (until s) (h s rest)

  pub argument-halted : (halt : Halt) → Adds (Err halt) d1 d2 f1 f2 line later first this → Joins (Err halt) d d2 f f2
      vs
  argument-halted SpentHalt h = λ home.
      Part-passed home (Err SpentHalt) d d1 d2 f f1 f2 (printing home.0 [] true vs)
      (printing home.0 line first (this ∷ rest))
      (until home.0) (h home rest)
  argument-halted NoMemory h = tt

-- no argument is left
pub all-added : (d d1 : Data) (xs : List Value) (n : ℕ) → length xs ≤ n → (vs : List Val) (f f1 : ℕ) (line : List ℕ)
    (first : Bool) (s : ℕ)
    → Passes d d1 f f1 (printing s [] true vs) (printing s line first (values_in (names_of d) (drop n xs)))
    → Passes d d1 f f1 (printing s [] true vs) (printing s line false [])
all-added d d1 xs n h vs f f1 line first s p =
    subst (λ ys. Passes d d1 f f1 (printing s [] true vs) (printing s line first (values_in (names_of d) ys)))
    (drop_all n xs h) p

pub joined-halted : (home : Side) (halt : Halt) (d d1 : Data) (f f1 : ℕ) (vs : List Val) → Joins (Err halt) d d1 f f1 vs
    → Part home (Err halt) d d1 f f1 (printing home.0 [] true vs)
joined-halted home SpentHalt d d1 f f1 vs h = h home
joined-halted home NoMemory d d1 f f1 vs h = λ begun l. tt

-- ---- the line

uncharged : (home : Side) (d : Data) (line : List ℕ) (log : List Item)
    → charge (printing home.0 line false [] (Image d log)) (move.Done (o.Normal (a.Value v.Undefined))) ≡ 0
uncharged home d line log = refl

-- it is the only item that is added
pub line-told : (home : Side) (begun : Bool) (d : Data) (f : ℕ) (l later : Written) (line : List ℕ)
    → later ≡ record l { lines = l.lines ++ (side_letter l.lettered home.0 ∷ 32 ∷ spelled false line) ∷ [] }
    → Step home begun (Ok (move.Done (o.Normal (a.Value v.Undefined)))) d d f f l later (printing home.0 line false [])
line-told home begun d f l later line e = record {
  added = Printed home.0 line ∷ [];
  logged = record { few = omega arith; trace = sym (append-none (entries_in d)); told = e };
  same = λ w log i. refl;
  paid = λ log i. omega (arith, uncharged home d line log);
  left = λ log i. omega (arith, uncharged home d line log);
  may = λ log i. may-calm begun (printing home.0 line false [] (Image d log))
      (move.Done (o.Normal (a.Value v.Undefined))) tt;
  ids = (tt, tt);
  grew = Grew-same d;
}

pub right-letter : (s : ℕ) → (s ≡ 0 → ⊥) → 82 ≡ side_letter false s
right-letter zero h = absurd (h refl)
right-letter (suc s) h = refl
