-- Names of functions that properties have.
use Rattle.std.proofs.Common.{◌++◌, Bool, ◌<◌, ◌≡◌, ◌∙◌, ◌≤◌, Err, List, None, Ok, Option, Result, Some, ap, arith}
use Rattle.std.proofs.Common.{false, length, length-append, nat_lt, option_map, refl, sym, true, ℕ}
use Rattle.std.specs.Prelude.{IfOk}
use Rattle.std.proofs.lemmas.Bool.Decides.{nat_tests}
use Rattle.std.proofs.lemmas.Option.{slice_get-get_or, slice_get-map}
use Rattle.mb_base.specs.declared.value.NodeId.{NodeId}
use Rattle.mb_base.specs.declared.value.ObjId.{ObjId}
use Rattle.mb_base.specs.declared.value.Side.{Side}
use Rattle.mb_base.specs.declared.value.StrId.{StrId}
use Rattle.mb_base.specs.declared.value.SymId.{SymId}
use Rattle.mb_parts.proofs.Writing.{Grew-texts}
use Rattle.mb_eval_expr.specs.machine.Functions.{MakesKeyed, NamedAs}
use Rattle.mb_frames.proofs.Steps.{Grew-then}
use Rattle.mb_frames.specs.Going.{Makes, paying}
use Rattle.mb_frames.specs.Passing.{TextsGrew}
use Rattle.mb_frames.specs.Resolved.{context_in}
use Rattle.mb_frames.specs.declared.task.Context.{Context}
use Rattle.mb_model.specs.Nodes.Literals.{keyed_function, method_function}
use Rattle.mb_model.specs.Nodes.Scopes.{code}
use Rattle.mb_model.specs.Operations.Conversions.{text_limit}
use Rattle.mb_model.specs.Operations.Makings.{make_function}
use Rattle.mb_model.specs.Writing.{Does}
use Rattle.mb_world.specs.Data.{Data, description_of}
use Rattle.mb_world.specs.Form.{FunctionParts}
use Rattle.mb_world.specs.Graph.{Graph, Item}
use Rattle.mb_world.specs.Image.{Image, names_of, object_in, text_in}
use Rattle.mb_world.specs.Key.{PropertyKey}
use Rattle.mb_world.specs.Symbols.{description, description_in, key_name}
use Rattle.mb_world.specs.Value.{Val}

-- ---- names after texts were added

-- it is the same name before
pub Named-before : (d d1 d2 : Data) (o : Option StrId) (p q : Graph → List ℕ) → NamedAs d1 d2 o q
    → ((log : List Item) → q (Image d1 log) ≡ p (Image d log)) → NamedAs d d2 o p
Named-before d d1 d2 (Some t) p q h e = (h.0, λ log. h.1 log ∙ e log)
Named-before d d1 d2 None p q h e = λ log. omega (arith, ap length (e log), h log)

-- a part of it is too long already
pub Named-long : (d : Data) (xs : List ℕ) (p q : Graph → List ℕ) → ((log : List Item) → text_limit < length
    (q (Image d log)))
    → ((log : List Item) → p (Image d log) ≡ xs ++ q (Image d log)) → NamedAs d d None p
Named-long d xs p q h e = λ log. omega (arith, ap length (e log), length-append xs (q (Image d log)), h log)

pub Named-short : (d d1 d2 : Data) (xs : List ℕ) (p q : Graph → List ℕ) → ((log : List Item) → text_limit < length
    (q (Image d1 log)))
    → ((log : List Item) → p (Image d log) ≡ q (Image d1 log) ++ xs) → NamedAs d d2 None p
Named-short d d1 d2 xs p q h e = λ log. omega (arith, ap length (e log), length-append (q (Image d1 log)) xs, h log)

-- ---- descriptions

pub described : (d : Data) (symbol : SymId) (o : Option StrId) (log : List Item) → symbol.0 < length d.symbols
    → o ≡ description_of d symbol → description (Image d log) symbol.0 ≡ option_map (text_in (names_of d)) o
described d symbol o log l e =
    ap description_in (slice_get-map (option_map (text_in (names_of d))) d.symbols symbol.0
    ∙ ap (option_map (option_map (text_in (names_of d)))) (slice_get-get_or d.symbols symbol.0 None l))
    ∙ ap (option_map (text_in (names_of d))) (sym e)

-- ---- the function of a property

module _ (home : Side) (d d1 d2 : Data) (at : Context) (node : NodeId) (parts : FunctionParts) (prefix : List ℕ)
    (k : PropertyKey)
    (t : TextsGrew d d1) where
  abbrev whole : Does Val
  whole = keyed_function (context_in (names_of d) home.0 at) node.0 parts prefix k

  pub too-long : NamedAs d d1 None (λ g. prefix ++ key_name g k)
      → MakesKeyed home (Ok None) d d1 (keyed_function (context_in (names_of d) home.0 at) node.0 parts prefix k)
  too-long h = (
    t,
    λ c log.
        let b : nat_lt text_limit (length (prefix ++ key_name (Image d log) k)) ≡ true
        = (let u = h log in grind (arith, nat_tests)) in
        rw b refl,
  )

  pub keyed-made : (name : StrId) (id : ObjId) → NamedAs d d1 (Some name) (λ g. prefix ++ key_name g k)
      → length (text_in (names_of d1) name) ≤ 1048576
      → Makes (Ok id) d1 d2 (make_function (code home.0 node.0 at.scope.0 false None) None (length parts.params)
      (text_in (names_of d1) name))
      → MakesKeyed home (Ok (Some id)) d d2 (keyed_function (context_in (names_of d) home.0 at) node.0 parts prefix k)
  keyed-made name id h short q =
      let u : q.units ≡ 0 = omega (arith, q.paid) in
      let x : List ℕ = text_in (names_of d1) name in
      let f : List ℕ → Does Val = λ y. make_function (code home.0 node.0 at.scope.0 false None) None
      (length parts.params) y in
      let m : List ℕ → Does Val = λ y. method_function (context_in (names_of d) home.0 at) node.0 parts y in
      let b : nat_lt text_limit (length x) ≡ false = (let z = short in grind (arith, nat_tests)) in
      record {
        units = 0;
        paid = omega arith;
        same = λ c log.
            ap (λ (y : List ℕ). m y c (Image d log)) (sym (h.1 log))
            ∙ rw b refl
            ∙ ap (f x c) (sym (t.becomes.image log))
            ∙ q.same c log
            ∙ ap (λ n. paying n (Image d1 log) (c (object_in (names_of d2) id) (Image d2 log))) u;
        trace = q.trace ∙ t.trace;
        grew = Grew-then d d1 d2 (Grew-texts d d1 t) q.grew;
      }

pub not-long : (n : ℕ) → (1048576 < n → ⊥) → n ≤ 1048576
not-long n h = by (nat_lt 1048576 n) refl
  where
    by : (b : Bool) → nat_lt 1048576 n ≡ b → n ≤ 1048576
    by true e = absurd (h (grind (arith, nat_tests)))
    by false e = grind (arith, nat_tests)

pub If-before : {E : Type 0} (d d1 d2 : Data) (r : Result (Option StrId) E) (p q : Graph → List ℕ) → IfOk r
    (λ o. NamedAs d1 d2 o q)
    → ((log : List Item) → q (Image d1 log) ≡ p (Image d log)) → IfOk r (λ o. NamedAs d d2 o p)
If-before {E} d d1 d2 (Ok o) p q h e = Named-before d d1 d2 o p q h e
If-before {E} d d1 d2 (Err x) p q h e = tt
