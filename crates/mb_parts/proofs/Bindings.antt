-- Names that are given values, in a world and in its image.
use Rattle.std.proofs.Common.{◌&&◌, ◌+◌, ◌≡◌, ◌∙◌, ◌∷◌, Bool, List, None, Option, Some, [], ap, arith, cond, false}
use Rattle.std.proofs.Common.{length, map, nat_eq, nat_lt, option_map, refl, slice_get, slice_index_or, slice_set, sym}
use Rattle.std.proofs.Common.{true, true≢false, ℕ}
use Rattle.std.proofs.lemmas.Bool.{eq-eqb, eqb-true}
use Rattle.std.proofs.lemmas.List.Elements.{All-head, All-tail}
use Rattle.std.proofs.lemmas.List.{length-map, map-set}
use Rattle.std.proofs.lemmas.Option.{slice_get-get_or, slice_get-map}
use Rattle.std.specs.List.{position_or_len}
use Rattle.std.specs.Prelude.{All, is_some, position, if◌then◌else◌}
use Rattle.mb_base.specs.declared.value.ScopeId.{ScopeId}
use Rattle.mb_base.specs.declared.value.StrId.{StrId}
use Rattle.mb_base.specs.declared.value.Value.{Value}
use Rattle.mb_frames.proofs.Steps.{Grew-same}
use Rattle.mb_frames.specs.Going.{WentOn}
use Rattle.mb_model.specs.Nodes.Scopes.{bind_with, binding_at, binding_in as binding_in_scope, giving, initialize}
use Rattle.mb_model.specs.Nodes.Scopes.{is_given, or_above, own_place, scopes_with, unless_given}
use Rattle.mb_model.specs.Task.{Answer, Nothing}
use Rattle.mb_parts.specs.Scopes.{is_bound}
use Rattle.mb_text.proofs.WithText.{one_place}
use Rattle.mb_text.specs.Texts.{AreDistinct, text_at}
use Rattle.mb_world.proofs.AfterCalls.{of-changed-scope}
use Rattle.mb_world.specs.Data.{Data, change_scope, give_at, give_if, given_value, giving as world-giving, has_name}
use Rattle.mb_world.specs.Data.{scope_at}
use Rattle.mb_world.specs.Graph as graph
use Rattle.mb_world.specs.Graph.{Binding, Graph, Item}
use Rattle.mb_world.specs.Ids.{BoundIn, TextIn}
use Rattle.mb_world.specs.Image.{Image, Names, Resolve, binding_in, names_of, scope_in, text_in}
use Rattle.mb_world.specs.Value.{same_units}
use Rattle.mb_world.specs.declared.scope.Bound.{Bound}
use Rattle.mb_world.specs.declared.scope.Scope.{Scope}

both-true : (a b : Bool) → a && b ≡ true → (a ≡ true) × (b ≡ true)
both-true true true h = (refl, refl)
both-true true false h = absurd (true≢false (sym h))
both-true false b h = absurd (true≢false (sym h))

units-same : (x : List ℕ) → same_units x x ≡ true
units-same [] = refl
units-same (a ∷ x) = let h : nat_eq a a ≡ true = eq-eqb a a refl in rw (h, units-same x) refl

units-equal : (x y : List ℕ) → same_units x y ≡ true → x ≡ y
units-equal [] [] h = refl
units-equal [] (b ∷ y) h = absurd (true≢false (sym h))
units-equal (a ∷ x) [] h = absurd (true≢false (sym h))
units-equal (a ∷ x) (b ∷ y) h =
    let k = both-true (nat_eq a b) (same_units x y) h in
    let e : a ≡ b = eqb-true a b k.0 in
    let t : x ≡ y = units-equal x y k.1 in
    cc

module _ (d : Data) (distinct : AreDistinct d.texts) where
  text-there : (t : StrId) → TextIn d t → slice_get d.texts t.0 ≡ Some (text_at d.texts t)
  text-there t h = slice_get-get_or d.texts t.0 [] h

  text-apart : (a b : StrId) → TextIn d a → TextIn d b → text_at d.texts a ≡ text_at d.texts b → a.0 ≡ b.0
  text-apart a b h k e =
      one_place d.texts a.0 b.0 (text_at d.texts a) distinct (text-there a h) (text-there b k ∙ ap Some (sym e))

  same-name : (x : StrId) (b : Bound) → TextIn d x → TextIn d b.name
      → same_units (text_at d.texts b.name) (text_at d.texts x) ≡ has_name x b
  same-name x b h k = by (has_name x b) refl (same_units (text_at d.texts b.name) (text_at d.texts x)) refl
    where
      by : (t : Bool) → has_name x b ≡ t → (u : Bool)
          → same_units (text_at d.texts b.name) (text_at d.texts x) ≡ u
          → same_units (text_at d.texts b.name) (text_at d.texts x) ≡ has_name x b
      by true e true g = g ∙ sym e
      by false e false g = g ∙ sym e
      by true e false g =
          let z : x.0 ≡ b.name.0 = eqb-true x.0 b.name.0 e in
          let y : text_at d.texts b.name ≡ text_at d.texts x = ap (λ n. slice_index_or d.texts n []) (sym z) in
          absurd (true≢false (sym (ap (λ t. same_units t (text_at d.texts x)) y ∙ units-same (text_at d.texts x)) ∙ g))
      by false e true g =
          let z : b.name.0 ≡ x.0 = text-apart b.name x k h
          (units-equal (text_at d.texts b.name) (text_at d.texts x) g) in
          absurd (true≢false (sym (eq-eqb x.0 b.name.0 (sym z)) ∙ e))

  places-same : (x : StrId) (bs : List Bound) → TextIn d x → All (BoundIn d) bs
      → position_or_len (λ (b : Binding). same_units b.name (text_at d.texts x)) (map (binding_in (names_of d)) bs)
      ≡ position_or_len (has_name x) bs
  places-same x [] h a = refl
  places-same x (b ∷ bs) h a =
      by (same_units (text_at d.texts b.name) (text_at d.texts x)) (has_name x b) refl refl
      (same-name x b h (All-head (BoundIn d) b bs a).0) (places-same x bs h (All-tail (BoundIn d) b bs a))
    where
      by : (t u : Bool) → same_units (text_at d.texts b.name) (text_at d.texts x) ≡ t → has_name x b ≡ u
          → same_units (text_at d.texts b.name) (text_at d.texts x) ≡ has_name x b
          → position_or_len (λ (c : Binding). same_units c.name (text_at d.texts x)) (map (binding_in (names_of d)) bs)
          ≡ position_or_len (has_name x) bs
          → position_or_len (λ (c : Binding). same_units c.name (text_at d.texts x))
          (map (binding_in (names_of d)) (b ∷ bs))
          ≡ position_or_len (has_name x) (b ∷ bs)
      by true true e g h ih = rw (e, g) refl
      by false false e g h ih = rw (e, g) (ap (λ (n : ℕ). 1 + n) ih)
      by true false e g h ih = absurd (true≢false (sym e ∙ h ∙ g))
      by false true e g h ih = absurd (true≢false (sym g ∙ sym h ∙ e))

  -- the place of a name in the world is that in the graph
  pub place-same : (x : StrId) (bs : List Bound) → TextIn d x → All (BoundIn d) bs
      → position (λ (b : Binding). same_units b.name (text_in (names_of d) x)) (map (binding_in (names_of d)) bs)
      ≡ position (has_name x) bs
  place-same x bs h a =
      let m : ℕ = length (map (binding_in (names_of d)) bs) in
      ap (λ (n : ℕ). cond (nat_lt n m) (Some n) None) (places-same x bs h a)
      ∙ ap (λ (k : ℕ). cond (nat_lt (position_or_len (has_name x) bs) k) (Some (position_or_len (has_name x) bs)) None)
      (length-map bs (binding_in (names_of d)))

given-in : (n : Names) (place : ℕ) (x : Value) (bs : List Bound)
    → map (binding_in n) (give_at place x bs)
    ≡ bind_with (map (binding_in n) bs) place (slice_get (map (binding_in n) bs) place) (Resolve n x)
given-in n place x bs = by (slice_get bs place) refl
  where
    by : (o : Option Bound) → slice_get bs place ≡ o
        → map (binding_in n) (give_if place x bs o)
        ≡ bind_with (map (binding_in n) bs) place (slice_get (map (binding_in n) bs) place) (Resolve n x)
    by None e =
        sym (ap (λ (o : Option Binding). bind_with (map (binding_in n) bs) place o (Resolve n x))
        (slice_get-map (binding_in n) bs place ∙ ap (option_map (binding_in n)) e))
    by (Some b) e =
        map-set (binding_in n) bs place (given_value x b)
        ∙ sym (ap (λ (o : Option Binding). bind_with (map (binding_in n) bs) place o (Resolve n x))
        (slice_get-map (binding_in n) bs place ∙ ap (option_map (binding_in n)) e))

scope-there : (d : Data) (id : ScopeId) (s : Scope) (log : List Item) → scope_at d id ≡ Some s
    → slice_get (Image d log).scopes id.0 ≡ Some (scope_in (names_of d) s)
scope-there d id s log e =
    slice_get-map (scope_in (names_of d)) d.scopes id.0 ∙ ap (option_map (scope_in (names_of d))) e

place-there : (d : Data) (id : ScopeId) (s : Scope) (x : StrId) (log : List Item) → AreDistinct d.texts → TextIn d x
    → All (BoundIn d) s.names → scope_at d id ≡ Some s
    → own_place id.0 (text_in (names_of d) x) (slice_get (Image d log).scopes id.0)
    ≡ or_above id.0 (position (has_name x) s.names) None (λ p. None)
place-there d id s x log a h b e =
    ap (own_place id.0 (text_in (names_of d) x)) (scope-there d id s log e)
    ∙ ap (λ (o : Option ℕ). or_above id.0 o None (λ p. None)) (place-same d a x s.names h b)

given-image : (d : Data) (id : ScopeId) (s : Scope) (place : ℕ) (x : Value) (log : List Item) → scope_at d id ≡ Some s
    → giving (Some (id.0, place)) (Resolve (names_of d) x) (Image d log)
    ≡ Image (change_scope d id (world-giving place x)) log
given-image d id s place x log e =
    ap (λ (o : Option graph.Scope). let g : Graph = record (Image d log) {
      scopes = scopes_with (Image d log).scopes
          id.0 place o (Resolve (names_of d) x);
    } in g) (scope-there d id s log e)
    ∙ ap (λ (bs : List Binding). let g : Graph = record (Image d log) {
      scopes = slice_set (Image d log).scopes id.0
          (record (scope_in (names_of d) s) { bindings = bs });
    } in g) (sym (given-in (names_of d) place x s.names))
    ∙ sym ((of-changed-scope d id s (world-giving place x) e).image log)

-- whether it has its value
bound-there : (n : Names) (o : Option Bound) → is_given (option_map (binding_in n) o) ≡ is_bound o
bound-there n None = refl
bound-there n (Some b) = by b.value
  where
    by : (v : Option Value) → is_some (option_map (Resolve n) v) ≡ is_some v
    by None = refl
    by (Some v) = refl

given-there : (d : Data) (id : ScopeId) (s : Scope) (place : ℕ) (log : List Item) → scope_at d id ≡ Some s
    → is_given (binding_at (Image d log) (Some (id.0, place))) ≡ is_bound (slice_get s.names place)
given-there d id s place log e =
    ap (λ (o : Option graph.Scope). is_given (binding_in_scope place o)) (scope-there d id s log e)
    ∙ ap is_given (slice_get-map (binding_in (names_of d)) s.names place)
    ∙ bound-there (names_of d) (slice_get s.names place)

-- read anew
pub bound-anew : (d : Data) (id : ScopeId) (s t : Scope) (place : ℕ) (o : Option Bound) (b bound : Bool)
    → scope_at d id ≡ Some s → scope_at d id ≡ Some t → o ≡ slice_get t.names place → b ≡ is_bound o → b ≡ bound
    → is_bound (slice_get s.names place) ≡ bound
bound-anew d id s t place o b bound e f p q r =
    let both : Some s ≡ Some t = sym e ∙ f in
    let same : s ≡ t = cc in
    ap (λ (x : Scope). is_bound (slice_get x.names place)) same ∙ ap is_bound (sym p) ∙ sym q ∙ r

-- the place to give it at
place-open : (d : Data) (id : ScopeId) (s : Scope) (x : StrId) (place : ℕ) (bound : Bool)
    (log : List Item) → AreDistinct d.texts → TextIn d x → All (BoundIn d) s.names → scope_at d id ≡ Some s
    → position (has_name x) s.names ≡ Some place
    → is_bound (slice_get s.names place) ≡ bound
    → unless_given (Image d log) (own_place id.0 (text_in (names_of d) x) (slice_get (Image d log).scopes id.0))
    ≡ (if bound then None else Some (id.0, place))
place-open d id s x place bound log a h b e p q =
    ap (unless_given (Image d log)) (place-there d id s x log a h b e
    ∙ ap (λ (o : Option ℕ). or_above id.0 o None (λ p. None)) p)
    ∙ ap (λ (c : Bool). if c then None else Some (id.0, place)) (given-there d id s place log e ∙ q)

pub name-given : (d d' : Data) (id : ScopeId) (s : Scope) (x : StrId) (y : Value) (place : ℕ) → AreDistinct d.texts
    → TextIn d x → All (BoundIn d) s.names → scope_at d id ≡ Some s → position (has_name x) s.names ≡ Some place
    → is_bound (slice_get s.names place) ≡ false → d' ≡ change_scope d id (world-giving place y)
    → WentOn Answer d d' 0 0 (initialize id.0 (text_in (names_of d) x) (Resolve (names_of d) y)) Nothing
name-given d d' id s x y place a h b e p q m = rw m (record {
  units = 0;
  paid = omega arith;
  same = λ k log.
      ap (λ (o : Option (ℕ × ℕ)). k Nothing (giving o (Resolve (names_of d) y) (Image d log)))
      (place-open d id s x place false log a h b e p q)
      ∙ ap (k Nothing) (given-image d id s place y log e);
  trace = rw e refl;
  grew = record {
    grows = (of-changed-scope d id s (world-giving place y) e).grows;
    programs = rw e refl;
    sides = rw e refl;
    joined = rw e refl;
  };
})

-- it has its value already
pub name-bound : (d : Data) (id : ScopeId) (s : Scope) (x : StrId) (y : Value) (place : ℕ) → AreDistinct d.texts
    → TextIn d x → All (BoundIn d) s.names → scope_at d id ≡ Some s → position (has_name x) s.names ≡ Some place
    → is_bound (slice_get s.names place) ≡ true
    → WentOn Answer d d 0 0 (initialize id.0 (text_in (names_of d) x) (Resolve (names_of d) y)) Nothing
name-bound d id s x y place a h b e p q = record {
  units = 0;
  paid = omega arith;
  same = λ k log.
      ap (λ (o : Option (ℕ × ℕ)). k Nothing (giving o (Resolve (names_of d) y) (Image d log)))
      (place-open d id s x place true log a h b e p q);
  trace = refl;
  grew = Grew-same d;
}

pub name-missing : (d : Data) (id : ScopeId) (s : Scope) (x : StrId) (y : Value) → AreDistinct d.texts → TextIn d x
    → All (BoundIn d) s.names → scope_at d id ≡ Some s → position (has_name x) s.names ≡ None
    → WentOn Answer d d 0 0 (initialize id.0 (text_in (names_of d) x) (Resolve (names_of d) y)) Nothing
name-missing d id s x y a h b e p = record {
  units = 0;
  paid = omega arith;
  same = λ k log.
      ap (λ (o : Option (ℕ × ℕ)).
      k Nothing (giving (unless_given (Image d log) o) (Resolve (names_of d) y) (Image d log)))
      (place-there d id s x log a h b e ∙ ap (λ (o : Option ℕ). or_above id.0 o None (λ p. None)) p);
  trace = refl;
  grew = Grew-same d;
}
