-- Parameters get their arguments in turn.
use Rattle.std.proofs.Common.{◌+◌, ◌<◌, ◌≡◌, ◌≤◌, ◌⊎◌, ◌∙◌, ◌∷◌, List, None, Option, Some, ap, arith, drop, get_or, inl}
use Rattle.std.proofs.Common.{inr, length, option_map, refl, slice_get, sym, ℕ}
use Rattle.std.proofs.Math.ListN.{drop_of_length-le}
use Rattle.std.proofs.lemmas.Option.{slice_get-map, slice_get_cases}
use Rattle.std.specs.Prelude.{unwrap_or}
use Rattle.mb_base.specs.declared.value.ScopeId.{ScopeId}
use Rattle.mb_base.specs.declared.value.Side.{Side}
use Rattle.mb_base.specs.declared.value.Value.{Value}
use Rattle.mb_base.specs.declared.value.Value.TheVariants as v
use Rattle.mb_frames.proofs.HeldLess.{undefined-held, values-each}
use Rattle.mb_frames.proofs.Steps.{drop-at}
use Rattle.mb_frames.specs.Going.{WentOn, paying}
use Rattle.mb_frames.specs.Held.{HeldValue, HeldValues}
use Rattle.mb_frames.specs.Ready.{MayHold}
use Rattle.mb_frames.specs.Resolved.{values_in}
use Rattle.mb_frames.specs.Stepping.{Grew}
use Rattle.mb_model.specs.Nodes.Functions.{bind_params}
use Rattle.mb_model.specs.Nodes.Scopes.{initialize}
use Rattle.mb_model.specs.Task.{Answer, Nothing}
use Rattle.mb_model.specs.Writing.{Row}
use Rattle.mb_world.proofs.Grow.{All-at}
use Rattle.mb_world.proofs.Images.{value-grows}
use Rattle.mb_world.specs.Data.{Data}
use Rattle.mb_world.specs.Graph.{Graph, Item}
use Rattle.mb_world.specs.Ids.{ValueIn}
use Rattle.mb_world.specs.Image.{Image, Names, Resolve, entries_in, names_of}
use Rattle.mb_world.specs.Value.{Undefined, Val}

-- ---- the argument at a place, or undefined

given-in : (n : Names) (o : Option Value)
    → Resolve n (unwrap_or o v.Undefined) ≡ unwrap_or (option_map (Resolve n) o) Undefined
given-in n None = refl
given-in n (Some x) = refl

pub given-is : (n : Names) (arguments : List Value) (place : ℕ)
    → Resolve n (unwrap_or (slice_get arguments place) v.Undefined)
    ≡ unwrap_or (slice_get (values_in n arguments) place) Undefined
given-is n arguments place =
    given-in n (slice_get arguments place)
    ∙ ap (λ (o : Option Val). unwrap_or o Undefined) (sym (slice_get-map (Resolve n) arguments place))

pub given-held : (d : Data) (home : Side) (arguments : List Value) (place : ℕ) → MayHold d home (HeldValues arguments)
    → MayHold d home (HeldValue (unwrap_or (slice_get arguments place) v.Undefined))
given-held d home arguments place h = by (slice_get arguments place) refl
  where
    by : (o : Option Value) → slice_get arguments place ≡ o → MayHold d home (HeldValue (unwrap_or o v.Undefined))
    by None e = undefined-held d home
    by (Some x) e = All-at (λ y. MayHold d home (HeldValue y)) arguments place x e (values-each d home arguments h)

-- ---- one parameter

module _ (sc : ℕ) (xs : List (List ℕ)) (vs : List Val) (place : ℕ) (x : List ℕ) (e : slice_get xs place ≡ Some x)
    (k : Answer → Graph → Row) (g : Graph) where
  -- the first one of those that are left gets its argument
  pub one-bound : bind_params sc (drop place xs) (drop place vs) k g
      ≡ initialize sc x (unwrap_or (slice_get vs place) Undefined)
      (λ a. bind_params sc (drop (place + 1) xs) (drop (place + 1) vs) k) g
  one-bound =
      ap (λ (ys : List (List ℕ)). bind_params sc ys (drop place vs) k g) (drop-at xs place x e)
      ∙ by (slice_get_cases vs place).1
    where
      left : List (List ℕ)
      left = drop (place + 1) xs

      by : ((y : Val) × (place < length vs) × (slice_get vs place ≡ Some y) × (get_or vs place y ≡ y))
          ⊎ ((length vs ≤ place) × (slice_get vs place ≡ None))
          → bind_params sc (x ∷ left) (drop place vs) k g
          ≡ initialize sc x (unwrap_or (slice_get vs place) Undefined)
          (λ a. bind_params sc left (drop (place + 1) vs) k) g
      by (inl p) =
          ap (λ (ws : List Val). bind_params sc (x ∷ left) ws k g) (drop-at vs place p.0 p.2)
          ∙ ap (λ (o : Option Val). initialize sc x (unwrap_or o Undefined)
          (λ a. bind_params sc left (drop (place + 1) vs) k) g) (sym p.2)
      by (inr p) =
          ap (λ (ws : List Val). bind_params sc (x ∷ left) ws k g) (drop_of_length-le vs p.0)
          ∙ ap (λ (ws : List Val). initialize sc x Undefined (λ a. bind_params sc left ws k) g)
          (sym (drop_of_length-le vs (omega (arith, p.0))))
          ∙ ap (λ (o : Option Val). initialize sc x (unwrap_or o Undefined)
          (λ a. bind_params sc left (drop (place + 1) vs) k) g) (sym p.1)

-- ---- where the loop has come from d0 to d

module _ (d0 d : Data) (scope : ScopeId) (xs : List (List ℕ)) (arguments : List Value) (place : ℕ)
    (g : Grew d0 d) (n : entries_in d ≡ entries_in d0)
    (same : (k : Answer → Graph → Row) (log : List Item) →
    bind_params scope.0 xs (values_in (names_of d0) arguments) k (Image d0 log)
    ≡ bind_params scope.0 (drop place xs) (drop place (values_in (names_of d0) arguments)) k (Image d log))
  where
    pub bound-more : (d' : Data) (x : List ℕ) (given : Value) (k : Answer → Graph → Row) (log : List Item)
        → slice_get xs place ≡ Some x → given ≡ unwrap_or (slice_get arguments place) v.Undefined → ValueIn d0 given
        → WentOn Answer d d' 0 0 (initialize scope.0 x (Resolve (names_of d) given)) Nothing
        → bind_params scope.0 xs (values_in (names_of d0) arguments) k (Image d0 log)
        ≡ bind_params scope.0 (drop (place + 1) xs) (drop (place + 1) (values_in (names_of d0) arguments)) k
        (Image d' log)
    bound-more d' x given k log e w i q =
        let vs : List Val = values_in (names_of d0) arguments in
        let after : Answer → Graph → Row = λ a. bind_params scope.0 (drop (place + 1) xs) (drop (place + 1) vs) k in
        let u : q.units ≡ 0 = omega (arith, q.paid) in
        same k log
        ∙ one-bound scope.0 xs vs place x e k (Image d log)
        ∙ ap (λ (y : Val). initialize scope.0 x y after (Image d log))
        (sym (value-grows d0 d g.grows given i ∙ ap (Resolve (names_of d0)) w ∙ given-is (names_of d0) arguments place))
        ∙ q.same after log
        ∙ ap (λ (m : ℕ). paying m (Image d log) (after Nothing (Image d' log))) u

    pub bound-all : length xs ≤ place
        → WentOn Answer d0 d 0 0 (bind_params scope.0 xs (values_in (names_of d0) arguments)) Nothing
    bound-all e = record {
      units = 0;
      paid = omega arith;
      same = λ k log.
          same k log
          ∙ ap (λ (ys : List (List ℕ)). bind_params scope.0 ys (drop place (values_in (names_of d0) arguments)) k
          (Image d log)) (drop_of_length-le xs e);
      trace = n;
      grew = g;
    }
