-- What a trap's checks let pass is owed: where they read properties of the target.
use Rattle.std.proofs.Common.{◌≡◌, ℕ, Bool, true, false, not, List, [], ◌∷◌, ◌++◌, Option, None, Some, refl, sym, ap, ◌∙◌, subst}
use Rattle.std.specs.Prelude.{filter_map}
use Rattle.std.specs.List.{filter}
use Rattle.std.specs.Map.{keys_of}
use Rattle.mb_desc.specs.declared.descriptor.Desc.{Desc}
use Rattle.mb_desc.specs.declared.descriptor.Full.{Full}
use Rattle.mb_desc.specs.declared.descriptor.Full.TheVariants.{Datum, Accessor}
use Rattle.mb_desc.specs.Descriptors.{Complete, is_configurable, is_fixed}
use Rattle.mb_view.specs.Views.{property_of}
use Rattle.mb_view.specs.Passing.{AllowsGot, AllowsSet, AllowsSaid, AllowsDefined}
use Rattle.mb_world.specs.Value.{Val, Undefined, same_value}
use Rattle.mb_world.specs.Key.{PropertyKey, same_key, keys_in_order}
use Rattle.mb_world.specs.Graph.{Graph, Thing}
use Rattle.mb_world.specs.Objects.{property_keys}
use Rattle.mb_world.specs.View.{shown_property, shown_keys, Shown, with_key}
use Rattle.mb_model.specs.Engine.{given}
use Rattle.mb_model.specs.Task.{Nothing, Value, Flag, Prop, Keys, GetOwnProperty, DefineOwnProperty, Get, Set, OwnPropertyKeys, Normal}
use Rattle.mb_model.specs.Writing.{◌>>=◌, give, answer, keys_in, perform}
use Rattle.mb_model.specs.Objects.Rules as rule
use Rattle.mb_model.specs.Objects.Proxies.{judge, read_extensible, read_own, own_read, own_converted, define_read, define_said, get_said, set_said, Parted, with_parted, keys_parted, keys_read, keys_extensible, keys_listed}
use Rattle.mb_model.specs.Trace.Answers.{is_pass, keys_with}
use Rattle.mb_model.proofs.Kept.Words.{Gets}
use Rattle.mb_growth.specs.Answered.{EntryPasses}
use Rattle.mb_growth.proofs.Seen.{seen-at}
use Rattle.mb_growth.proofs.Values.{value-sound}
use Rattle.mb_growth.proofs.Checked.{not-not, unbroken, present-tells, define-tells, keys-tell}
use Rattle.mb_growth.proofs.Answered.{complete-is}
use Rattle.mb_growth.proofs.Reading.{Reaches, reaches-on, answering}
use Rattle.mb_growth.proofs.Tails.{gets-give, gets-bind, Owed, IsTarget, Frozen, frozen-owes, gets-extensible, gets-own, gets-listed, gets-judged, gets-judged_then}

-- ---- methods whose checks read the own property

got-tells : (said : Val) (real : Option (Full Val)) → is_pass (rule.get said real) ≡ true → AllowsGot same_value Undefined real said
got-tells said None h = tt
got-tells said (Some (Datum v true e c)) h = tt
got-tells said (Some (Datum v false e true)) h = tt
got-tells said (Some (Datum v false e false)) h =
    value-sound said v (not-not (same_value said v) (unbroken (not (same_value said v)) 18 [] h).0)
got-tells said (Some (Accessor f s e true)) h = tt
got-tells said (Some (Accessor f s e false)) h = λ undef.
    let i : is_pass (rule.get said (Some (Accessor Undefined s e false))) ≡ true =
    subst (λ (x : Val). is_pass (rule.get said (Some (Accessor x s e false))) ≡ true) undef h in
    value-sound said Undefined (not-not (same_value said Undefined) (unbroken (not (same_value said Undefined)) 18 [] i).0)

put-tells : (given : Val) (real : Option (Full Val)) → is_pass (rule.set given real) ≡ true → AllowsSet same_value Undefined real given
put-tells given None h = tt
put-tells given (Some (Datum v true e c)) h = tt
put-tells given (Some (Datum v false e true)) h = tt
put-tells given (Some (Datum v false e false)) h =
    value-sound given v (not-not (same_value given v) (unbroken (not (same_value given v)) 19 [] h).0)
put-tells given (Some (Accessor f s e true)) h = tt
put-tells given (Some (Accessor f s e false)) h = λ undef.
    let i : is_pass (rule.set given (Some (Accessor f Undefined e false))) ≡ true =
    subst (λ (x : Val). is_pass (rule.set given (Some (Accessor f x e false))) ≡ true) undef h in
    let bad : false ≡ true = i in
    cc

module _ (p : ℕ) (k : Val) (b g : Graph) (u : Thing) (t : IsTarget k g u) (reach : Reaches b g) where
  pub gets-get_said : (i : PropertyKey) (r said : Val) → Gets (answering p k (Get i r)) (Owed p k (Get i r) b) g (get_said p k i said)
  gets-get_said i r said =
      gets-bind (answering p k (Get i r)) (λ x h. (x ≡ shown_property g p u i) × Frozen g h) (Owed p k (Get i r) b) g
      (read_own p k i) (λ real. judge p (rule.get said real) (Value said)) (gets-own p k (Get i r) b g g u i t (refl, refl) reach)
      (λ real h q x.
      gets-judged p k (Get i r) b h (rule.get said real) (Value said)
      (λ pass. frozen-owes p k (Get i r) b g h u (Value said) t x.1 (reaches-on b g h reach q.1)
      (subst (λ (o : Option (Full Val)). AllowsGot same_value Undefined o said) (x.0 ∙ sym (seen-at g p u i)) (got-tells said real pass))))

  pub gets-set_said : (i : PropertyKey) (x r : Val) (said : Bool)
      → Gets (answering p k (Set i x r)) (Owed p k (Set i x r) b) g (set_said p k i x said)
  gets-set_said i x r false =
      gets-give (answering p k (Set i x r)) (Owed p k (Set i x r) b) g (Flag false)
      (frozen-owes p k (Set i x r) b g g u (Flag false) t (refl, refl) reach tt)
  gets-set_said i x r true =
      gets-bind (answering p k (Set i x r)) (λ o h. (o ≡ shown_property g p u i) × Frozen g h) (Owed p k (Set i x r) b) g
      (read_own p k i) (λ real. judge p (rule.set x real) (Flag true)) (gets-own p k (Set i x r) b g g u i t (refl, refl) reach)
      (λ real h q y.
      gets-judged p k (Set i x r) b h (rule.set x real) (Flag true)
      (λ pass. frozen-owes p k (Set i x r) b g h u (Flag true) t y.1 (reaches-on b g h reach q.1)
      (subst (λ (o : Option (Full Val)). AllowsSet same_value Undefined o x) (y.0 ∙ sym (seen-at g p u i)) (put-tells x real pass))))

  pub gets-define_said : (i : PropertyKey) (d : Desc Val) (said : Bool)
      → Gets (answering p k (DefineOwnProperty i d)) (Owed p k (DefineOwnProperty i d) b) g (define_said p k i d said)
  gets-define_said i d false =
      gets-give (answering p k (DefineOwnProperty i d)) (Owed p k (DefineOwnProperty i d) b) g (Flag false)
      (frozen-owes p k (DefineOwnProperty i d) b g g u (Flag false) t (refl, refl) reach tt)
  gets-define_said i d true =
      gets-bind (answering p k (DefineOwnProperty i d)) (λ o h. (o ≡ shown_property g p u i) × Frozen g h) (Owed p k (DefineOwnProperty i d) b) g
      (read_own p k i) (λ real. define_read p k d real)
      (gets-own p k (DefineOwnProperty i d) b g g u i t (refl, refl) reach)
      (λ real h q y.
      let there : Reaches b h = reaches-on b g h reach q.1 in
      gets-bind (answering p k (DefineOwnProperty i d)) (λ e j. (e ≡ u.extensible) × Frozen g j) (Owed p k (DefineOwnProperty i d) b) h
      (read_extensible p k) (λ e. judge p (rule.define d real e) (Flag true))
      (gets-extensible p k (DefineOwnProperty i d) b g h u t y.1 there)
      (λ e j r z.
      gets-judged p k (DefineOwnProperty i d) b j (rule.define d real e) (Flag true)
      (λ pass. frozen-owes p k (DefineOwnProperty i d) b g j u (Flag true) t z.1 (reaches-on b h j there r.1)
      (subst (λ (o : Option (Full Val)). AllowsDefined same_value Undefined u.extensible o d) (y.0 ∙ sym (seen-at g p u i))
      (subst (λ (x : Bool). AllowsDefined same_value Undefined x real d) z.0 (define-tells d real e pass))))))

  pub gets-own_converted : (i : PropertyKey) (d : Desc Val)
      → Gets (answering p k (GetOwnProperty i)) (Owed p k (GetOwnProperty i) b) g (own_converted p k i d)
  gets-own_converted i d =
      gets-bind (answering p k (GetOwnProperty i)) (λ o h. (o ≡ shown_property g p u i) × Frozen g h) (Owed p k (GetOwnProperty i) b) g
      (read_own p k i) (λ real. own_read p k (Complete Undefined d) real)
      (gets-own p k (GetOwnProperty i) b g g u i t (refl, refl) reach)
      (λ real h q y.
      let there : Reaches b h = reaches-on b g h reach q.1 in
      gets-bind (answering p k (GetOwnProperty i)) (λ e j. (e ≡ u.extensible) × Frozen g j) (Owed p k (GetOwnProperty i) b) h
      (read_extensible p k) (λ e. judge p (rule.own_present (Complete Undefined d) real e) (Prop (Some (Complete Undefined d))))
      (gets-extensible p k (GetOwnProperty i) b g h u t y.1 there)
      (λ e j r z.
      gets-judged p k (GetOwnProperty i) b j (rule.own_present (Complete Undefined d) real e) (Prop (Some (Complete Undefined d)))
      (λ pass. frozen-owes p k (GetOwnProperty i) b g j u (Prop (Some (Complete Undefined d))) t z.1 (reaches-on b h j there r.1)
      (subst (λ (x : Full Val). AllowsSaid same_value Undefined u.extensible (property_of same_key (Shown g p u) i) x)
      (sym (complete-is (Complete Undefined d)))
      (subst (λ (o : Option (Full Val)). AllowsSaid same_value Undefined u.extensible o (Complete Undefined d)) (y.0 ∙ sym (seen-at g p u i))
      (subst (λ (x : Bool). AllowsSaid same_value Undefined x real (Complete Undefined d)) z.0
      (present-tells (Complete Undefined d) real e pass)))))))

-- ---- own keys

-- the keys of the target, read one after the other as side p sees them
abbrev parted_by : (PropertyKey → Option (Full Val)) → List PropertyKey → Parted → Parted
parted_by shows [] x = x
parted_by shows (i ∷ is) x = parted_by shows is (with_parted i x (shows i))

-- those of a view are parted as its properties are
abbrev Pieces : Type 0
Pieces = List (PropertyKey × Full Val)

-- a key that is there, put where it belongs
abbrev Parts : Parted → Pieces → Parted → Type 0
Parts y es x = (y.fixed ≡ x.fixed ++ keys_of (filter (λ e. is_fixed e.1) es))
    × (y.loose ≡ x.loose ++ keys_of (filter (λ e. is_configurable e.1) es))

append-none : (xs : List PropertyKey) → xs ≡ xs ++ []
append-none [] = refl
append-none (x ∷ xs) = ap (λ r. x ∷ r) (append-none xs)

append-one : (xs : List PropertyKey) (y : PropertyKey) (zs : List PropertyKey) → (xs ++ (y ∷ [])) ++ zs ≡ xs ++ (y ∷ zs)
append-one [] y zs = refl
append-one (x ∷ xs) y zs = ap (λ r. x ∷ r) (append-one xs y zs)

one-part : (i : PropertyKey) (f : Full Val) (es : Pieces) (x y : Parted) → Parts y es (with_parted i x (Some f)) → Parts y ((i, f) ∷ es) x
one-part i f es x y h = by (is_configurable f) refl h
  where
    by : (c : Bool) → is_configurable f ≡ c → Parts y es (with_parted i x (Some f)) → Parts y ((i, f) ∷ es) x
    by true e j =
        let l : Parts y es (record x { loose = x.loose ++ (i ∷ []) }) = rw e at j in
        rw e (l.0, l.1 ∙ append-one x.loose i (keys_of (filter (λ e. is_configurable e.1) es)))
    by false e j =
        let l : Parts y es (record x { fixed = x.fixed ++ (i ∷ []) }) = rw e at j in
        rw e (l.0 ∙ append-one x.fixed i (keys_of (filter (λ e. is_fixed e.1) es)), l.1)

parted-is : (shows : PropertyKey → Option (Full Val)) (ks : List PropertyKey) (x : Parted)
    → Parts (parted_by shows (keys_of (filter_map (λ i. with_key i (shows i)) ks)) x) (filter_map (λ i. with_key i (shows i)) ks) x
parted-is shows [] x = (append-none x.fixed, append-none x.loose)
parted-is shows (i ∷ is) x = by (shows i) refl (parted-is shows is)
  where
    by : (o : Option (Full Val)) → shows i ≡ o
        → ((y : Parted) → Parts (parted_by shows (keys_of (filter_map (λ j. with_key j (shows j)) is)) y) (filter_map (λ j. with_key j (shows j)) is) y)
        → Parts (parted_by shows (keys_of (filter_map (λ j. with_key j (shows j)) (i ∷ is))) x) (filter_map (λ j. with_key j (shows j)) (i ∷ is)) x
    by None e rest = rw e (rest x)
    by (Some f) e rest =
        rw e (rw e (one-part i f (filter_map (λ j. with_key j (shows j)) is) x
        (parted_by shows (keys_of (filter_map (λ j. with_key j (shows j)) is)) (with_parted i x (Some f))) (rest (with_parted i x (Some f)))))

module _ (p : ℕ) (k : Val) (b s : Graph) (u : Thing) (t : IsTarget k s u) (said : List PropertyKey) where
  gets-parted : (e : Bool) → e ≡ u.extensible → (ks : List PropertyKey) (x : Parted) (g : Graph) → Frozen s g → Reaches b g
      → (is_pass (rule.own_keys said (parted_by (shown_property s p u) ks x).fixed (parted_by (shown_property s p u) ks x).loose u.extensible) ≡ true
      → EntryPasses OwnPropertyKeys (Normal (Keys said)) (Shown s p u))
      → Gets (answering p k OwnPropertyKeys) (Owed p k OwnPropertyKeys b) g (keys_parted p k said e ks x)
  gets-parted e same [] x g f reach passes =
      gets-judged p k OwnPropertyKeys b g (rule.own_keys said x.fixed x.loose e) (Keys said)
      (λ pass. frozen-owes p k OwnPropertyKeys b s g u (Keys said) t f reach
      (passes (subst (λ (z : Bool). is_pass (rule.own_keys said x.fixed x.loose z) ≡ true) same pass)))
  gets-parted e same (i ∷ is) x g f reach passes =
      gets-bind (answering p k OwnPropertyKeys) (λ o h. (o ≡ shown_property s p u i) × Frozen s h) (Owed p k OwnPropertyKeys b) g
      (read_own p k i) (λ real. keys_parted p k said e is (with_parted i x real))
      (gets-own p k OwnPropertyKeys b s g u i t f reach)
      (λ real h q y.
      subst (λ (o : Option (Full Val)). Gets (answering p k OwnPropertyKeys) (Owed p k OwnPropertyKeys b) h
      (keys_parted p k said e is (with_parted i x o))) (sym y.0)
      (gets-parted e same is (with_parted i x (shown_property s p u i)) h y.1 (reaches-on b g h reach q.1) passes))

  gets-keys_read : (e : Bool) → e ≡ u.extensible → (g : Graph) → Frozen s g → Reaches b g
      → Gets (answering p k OwnPropertyKeys) (Owed p k OwnPropertyKeys b) g (keys_read p k said e (shown_keys s p u))
  gets-keys_read e same g f reach =
      let nothing : Parted = record { fixed = []; loose = [] } in
      let parts : Parts (parted_by (shown_property s p u) (shown_keys s p u) nothing) (Shown s p u).properties nothing =
      parted-is (shown_property s p u) (keys_in_order (property_keys u.properties)) nothing in
      gets-parted e same (shown_keys s p u) nothing g f reach
      (λ pass. keys-tell (Shown s p u) said
      (subst (λ (xs : List PropertyKey). is_pass (rule.own_keys said (keys_with is_fixed (Shown s p u)) xs u.extensible) ≡ true) parts.1
      (subst (λ (xs : List PropertyKey). is_pass (rule.own_keys said xs (parted_by (shown_property s p u) (shown_keys s p u) nothing).loose u.extensible) ≡ true)
      parts.0 pass)))

  gets-keys_extensible : (e : Bool) → e ≡ u.extensible → (g : Graph) → Frozen s g → Reaches b g
      → Gets (answering p k OwnPropertyKeys) (Owed p k OwnPropertyKeys b) g (keys_extensible p k said e)
  gets-keys_extensible e same g f reach =
      gets-bind (answering p k OwnPropertyKeys) (λ ks h. (ks ≡ shown_keys s p u) × Frozen s h) (Owed p k OwnPropertyKeys b) g
      (answer (perform p OwnPropertyKeys k) >>= (λ a. give (keys_in a))) (λ ks. keys_read p k said e ks)
      (gets-listed p k OwnPropertyKeys b s g u t f reach)
      (λ ks h q y.
      subst (λ (xs : List PropertyKey). Gets (answering p k OwnPropertyKeys) (Owed p k OwnPropertyKeys b) h (keys_read p k said e xs)) (sym y.0)
      (gets-keys_read e same h y.1 (reaches-on b g h reach q.1)))

  pub gets-keys_listed : Reaches b s → Gets (answering p k OwnPropertyKeys) (Owed p k OwnPropertyKeys b) s (keys_listed p k said)
  gets-keys_listed reach =
      gets-judged_then p k OwnPropertyKeys b s (rule.own_keys said [] [] true) Nothing
      (λ _. read_extensible p k >>= (λ e. keys_extensible p k said e))
      (gets-bind (answering p k OwnPropertyKeys) (λ e h. (e ≡ u.extensible) × Frozen s h) (Owed p k OwnPropertyKeys b) s
      (read_extensible p k) (λ e. keys_extensible p k said e)
      (gets-extensible p k OwnPropertyKeys b s s u t (refl, refl) reach)
      (λ e h q y. gets-keys_extensible e y.0 h y.1 (reaches-on b s h reach q.1)))
