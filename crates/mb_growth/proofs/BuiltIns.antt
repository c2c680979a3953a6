-- What a method of a built-in object answers passes; no method changes one.
use Rattle.std.proofs.Common.{◌≡◌, ℕ, Bool, true, false, not, List, [], ◌∷◌, ◌++◌, map, Option, None, Some, is_some, refl, sym, ap, ◌∙◌, subst}
use Rattle.std.specs.Prelude.{option_map}
use Rattle.mb_desc.specs.declared.descriptor.Desc.{Desc}
use Rattle.mb_desc.specs.declared.descriptor.Full.{Full}
use Rattle.mb_desc.specs.Descriptors.{is_configurable, is_writable}
use Rattle.mb_desc.specs.Validate.{Validate}
use Rattle.mb_view.specs.Views.{property_of}
use Rattle.mb_view.specs.Entries as deed
use Rattle.mb_view.specs.Passing.{AllowsDefined}
use Rattle.mb_view.proofs.Tables.{any-lookup}
use Rattle.mb_world.specs.Value.{Val, Undefined, Null, Truth, Whole, Text, Symbol, Object, BuiltIn, same_value}
use Rattle.mb_world.specs.Key.{PropertyKey, same_key}
use Rattle.mb_world.specs.Intrinsics.{function_length, Intrinsic, intrinsic, MapPrototypeSize, SetPrototypeSize, ErrorPrototype, TypeErrorPrototype, RangeErrorPrototype, ReferenceErrorPrototype}
use Rattle.mb_world.specs.Graph.{Graph, Thing, Rule, RuleKind, Property}
use Rattle.mb_world.specs.Objects.{thing_at, find_property, own_property, with_property}
use Rattle.mb_world.specs.Ordinary.{closed, prototype_answered, defined_as, validated, deleted}
use Rattle.mb_world.specs.Standard.{function_properties, constructor_of, constructor_property, error_properties, member, members_of, properties_of, standard}
use Rattle.mb_world.specs.View.{some_rule, find_key_rule, is_read_only_rule, is_read_only, key_rule, shown_by, shown_property, shown_keys, Shown, Free, is_cut}
use Rattle.mb_model.specs.Task.{Perform, Value, Flag, Prop, Keys, Method, GetPrototypeOf, SetPrototypeOf, IsExtensible, PreventExtensions, GetOwnProperty, DefineOwnProperty, HasProperty, Get, Set, Delete, OwnPropertyKeys, Call, Construct, Outcome, Normal}
use Rattle.mb_model.specs.Writing.{◌>>=◌, give, unless_type_error}
use Rattle.mb_model.specs.Operations.Makings.{altered}
use Rattle.mb_model.specs.Objects.Methods.{settled, walk_unless, ordinary_delete, ordinary, change_of, ruling, ruled}
use Rattle.mb_model.specs.Meaning.{perform_kind, perform_thing, perform_row, finished, entries_made, Means}
use Rattle.mb_model.specs.Trace.Entries.{makes_entry, method_noted, said_outcome}
use Rattle.mb_growth.specs.Answered.{EntryPasses, PassesAsItEnds, PassesAtMoment, EndPasses, OrdinaryEntriesPass}
use Rattle.mb_growth.proofs.Values.{value-sound}
use Rattle.mb_growth.proofs.Seen.{seen-at}
use Rattle.mb_growth.proofs.Ends.{RowEnds, TaskEnds, ends-any, ends-entering, ends-pays, means-ends}
use Rattle.mb_growth.proofs.Said.{passes-by, throw-passes, call-passes, construct-passes, has-ends, get-ends, set-ends}
use Rattle.mb_growth.proofs.Answered.{own-passes, end-passes, object-entries-pass}

-- ---- its properties are fixed, and none can be written

abbrev pub IsStill : Full Val → Type 0
IsStill f = (is_configurable f ≡ false) × (is_writable f ≡ false)

abbrev pub AllStill : List Property → Type 0
AllStill [] = Unit {0}
AllStill (p ∷ ps) = IsStill p.full × AllStill ps

still-append : (ps qs : List Property) → AllStill ps → AllStill qs → AllStill (ps ++ qs)
still-append [] qs h i = i
still-append (p ∷ ps) qs h i = (h.0, still-append ps qs h.1 i)

still-function : (i : Intrinsic) (n : Option ℕ) → AllStill (function_properties i n)
still-function i None = tt
still-function i (Some n) = ((refl, refl), ((refl, refl), tt))

still-constructor : (c : Option Intrinsic) → AllStill (constructor_property c)
still-constructor None = tt
still-constructor (Some c) = ((refl, refl), tt)

still-error : (i : Intrinsic) → AllStill (error_properties i)
still-error ErrorPrototype = ((refl, refl), ((refl, refl), tt))
still-error TypeErrorPrototype = ((refl, refl), ((refl, refl), tt))
still-error RangeErrorPrototype = ((refl, refl), ((refl, refl), tt))
still-error ReferenceErrorPrototype = ((refl, refl), ((refl, refl), tt))
still-error _ = tt

still-member : (i : Intrinsic) → IsStill (member i).full
still-member MapPrototypeSize = (refl, refl)
still-member SetPrototypeSize = (refl, refl)
still-member _ = (refl, refl)

still-members : (is : List Intrinsic) → AllStill (map member is)
still-members [] = tt
still-members (i ∷ is) = (still-member i, still-members is)

pub still-all : (i : Intrinsic) → AllStill (properties_of i)
still-all i =
    still-append (function_properties i (function_length i) ++ constructor_property (constructor_of i) ++ error_properties i) (map member (members_of i))
    (still-append (function_properties i (function_length i) ++ constructor_property (constructor_of i)) (error_properties i)
    (still-append (function_properties i (function_length i)) (constructor_property (constructor_of i)) (still-function i (function_length i))
    (still-constructor (constructor_of i))) (still-error i)) (still-members (members_of i))

pub still-found : (k : PropertyKey) (ps : List Property) (f : Full Val) → AllStill ps → find_property k ps ≡ Some f → IsStill f
still-found k [] f h at = absurd (let bad : None ≡ Some f = at in cc)
still-found k (p ∷ ps) f h at = by (same_key p.key k) refl (still-found k ps f h.1)
  where
    by : (b : Bool) → same_key p.key k ≡ b → (find_property k ps ≡ Some f → IsStill f) → IsStill f
    by true e rest =
        let i : Some p.full ≡ Some f = rw e at at in
        let same : p.full ≡ f = cc in
        subst IsStill same h.0
    by false e rest = rest (rw e at at)

module _ (j : ℕ) (i : Intrinsic) where
  -- no rule is for it
  no-key_rule : (k : PropertyKey) (v : ℕ) (rs : List Rule) → find_key_rule k v (standard j i) rs ≡ None
  no-key_rule k v [] = refl
  no-key_rule k v (r ∷ rs) = no-key_rule k v rs

  no-rule : (v : ℕ) (rs : List Rule) → some_rule is_read_only_rule v (standard j i) rs ≡ false
  no-rule v [] = refl
  no-rule v (r ∷ rs) = no-rule v rs

  seen-own : (h : Graph) (v : ℕ) (k : PropertyKey) → property_of same_key (Shown h v (standard j i)) k ≡ own_property k (standard j i)
  seen-own h v k =
      seen-at h v (standard j i) k
      ∙ ap (λ (r : Option RuleKind). shown_by r (own_property k (standard j i))) (no-key_rule k v h.rules)

  -- the policy leaves each method free
  is-free : (g : Graph) (v : ℕ) (m : Method) → ruling g v (standard j i) (change_of m) ≡ Free
  is-free g v GetPrototypeOf = refl
  is-free g v (SetPrototypeOf p) = let e : is_read_only g v (standard j i) ≡ false = no-rule v g.rules in rw e refl
  is-free g v IsExtensible = refl
  is-free g v PreventExtensions = let e : is_read_only g v (standard j i) ≡ false = no-rule v g.rules in rw e refl
  is-free g v (GetOwnProperty k) = refl
  is-free g v (DefineOwnProperty k d) =
      let e : is_read_only g v (standard j i) ≡ false = no-rule v g.rules in
      let f : key_rule g v (standard j i) k ≡ None = no-key_rule k v g.rules in
      rw (e, f) refl
  is-free g v (HasProperty k) = refl
  is-free g v (Get k r) = refl
  is-free g v (Set k x r) = let e : is_read_only g v (standard j i) ≡ false = no-rule v g.rules in rw e refl
  is-free g v (Delete k) =
      let e : is_read_only g v (standard j i) ≡ false = no-rule v g.rules in
      let f : key_rule g v (standard j i) k ≡ None = no-key_rule k v g.rules in
      rw (e, f) refl
  is-free g v OwnPropertyKeys = refl
  is-free g v (Call this vs) = refl
  is-free g v (Construct vs target) = refl

module _ (j : ℕ) (i : Intrinsic) (is : intrinsic j ≡ Some i) where
  -- what passes against it passes as the method ends
  at-built : (v : ℕ) (m : Method) (q : Outcome) (h : Graph) → EntryPasses m q (Shown h v (standard j i))
      → PassesAsItEnds v (BuiltIn j) m q h
  at-built v m q h pass u at =
      let e : Some (standard j i) ≡ Some u = sym (ap (λ (x : Option Intrinsic). option_map (standard j) x) is) ∙ at in
      let same : standard j i ≡ u = cc in
      subst (λ (x : Thing). EntryPasses m q (Shown h v x)) same pass

  built-prototype : (v : ℕ) (g : Graph) (p : Val)
      → RowEnds (PassesAsItEnds v (BuiltIn j) (SetPrototypeOf p)) (walk_unless (BuiltIn j) p (prototype_answered (standard j i) p) finished g)
  built-prototype v g p = by (same_value p (standard j i).prototype) refl
    where
      by : (a : Bool) → same_value p (standard j i).prototype ≡ a
          → RowEnds (PassesAsItEnds v (BuiltIn j) (SetPrototypeOf p)) (walk_unless (BuiltIn j) p (prototype_answered (standard j i) p) finished g)
      by true e = rw e (at-built v (SetPrototypeOf p) (Normal (Flag true)) g (λ c. value-sound p (standard j i).prototype e))
      by false e = rw e (at-built v (SetPrototypeOf p) (Normal (Flag false)) g tt)

  built-accepts : (h : Graph) (v : ℕ) (k : PropertyKey) (d : Desc Val) (o : Option (Full Val)) (p : Full Val) → own_property k (standard j i) ≡ o
      → Validate same_value Undefined false o d ≡ Some p → AllowsDefined same_value Undefined false o d
  unfolding Validate
  built-accepts h v k d None p e accepted = absurd (let bad : None ≡ Some p = accepted in cc)
  built-accepts h v k d (Some f) p e accepted =
      let still : IsStill f = still-found k (properties_of i) f (still-all i) e in
      (ap is_some accepted, λ _. still.0, λ _ c. still.1)

  built-define : (s v : ℕ) (g : Graph) (k : PropertyKey) (d : Desc Val)
      → RowEnds (PassesAsItEnds v (BuiltIn j) (DefineOwnProperty k d))
      (settled s (BuiltIn j) (defined_as (standard j i) k (validated (standard j i) k d)) finished g)
  built-define s v g k d = by (validated (standard j i) k d) refl
    where
      by : (o : Option (Full Val)) → validated (standard j i) k d ≡ o
          → RowEnds (PassesAsItEnds v (BuiltIn j) (DefineOwnProperty k d)) (settled s (BuiltIn j) (defined_as (standard j i) k o) finished g)
      by None e = at-built v (DefineOwnProperty k d) (Normal (Flag false)) g tt
      by (Some p) e =
          let h : Graph = altered (BuiltIn j) (λ _. with_property k p (standard j i)) (thing_at g (BuiltIn j)) g in
          at-built v (DefineOwnProperty k d) (Normal (Flag true)) h
          (subst (λ (o : Option (Full Val)). AllowsDefined same_value Undefined false o d) (sym (seen-own j i h v k))
          (built-accepts g v k d (own_property k (standard j i)) p refl e))

  built-delete : (v : ℕ) (g : Graph) (k : PropertyKey)
      → RowEnds (PassesAsItEnds v (BuiltIn j) (Delete k)) (ordinary_delete (BuiltIn j) (deleted (standard j i) k (shown_property g v (standard j i) k)) finished g)
  built-delete v g k = by (shown_property g v (standard j i) k) refl
    where
      shown-own : shown_property g v (standard j i) k ≡ own_property k (standard j i)
      shown-own = ap (λ (r : Option RuleKind). shown_by r (own_property k (standard j i))) (no-key_rule j i k v g.rules)

      by : (o : Option (Full Val)) → shown_property g v (standard j i) k ≡ o
          → RowEnds (PassesAsItEnds v (BuiltIn j) (Delete k)) (ordinary_delete (BuiltIn j) (deleted (standard j i) k (shown_property g v (standard j i) k)) finished g)
      by None e =
          rw e (at-built v (Delete k) (Normal (Flag true)) g
          (passes-by (deed.Delete k true) (Shown g v (standard j i)) (seen-at g v (standard j i) k ∙ e)))
      by (Some f) e =
          let still : IsStill f = still-found k (properties_of i) f (still-all i) (sym shown-own ∙ e) in
          rw (e, still.0) (at-built v (Delete k) (Normal (Flag false)) g tt)

  built-ordinary : (s v : ℕ) (m : Method) (g : Graph)
      → RowEnds (PassesAtMoment v (BuiltIn j) m (standard j i) g) (ordinary s v (BuiltIn j) (standard j i) m finished g)
  built-ordinary s v GetPrototypeOf g = at-built v GetPrototypeOf (Normal (Value (standard j i).prototype)) g (λ c. refl)
  built-ordinary s v (SetPrototypeOf p) g = built-prototype v g p
  built-ordinary s v IsExtensible g = at-built v IsExtensible (Normal (Flag false)) g refl
  built-ordinary s v PreventExtensions g =
      at-built v PreventExtensions (Normal (Flag true)) (altered (BuiltIn j) closed (thing_at g (BuiltIn j)) g) refl
  built-ordinary s v (GetOwnProperty k) g =
      at-built v (GetOwnProperty k) (Normal (Prop (shown_property g v (standard j i) k))) g
      (own-passes v (standard j i) g k (shown_property g v (standard j i) k) refl)
  built-ordinary s v (DefineOwnProperty k d) g = built-define s v g k d
  built-ordinary s v (HasProperty k) g = has-ends s v g (standard j i) k
  built-ordinary s v (Get k r) g = get-ends s v g (standard j i) k r
  built-ordinary s v (Set k x r) g = set-ends s v g (standard j i) k x r
  built-ordinary s v (Delete k) g = built-delete v g k
  built-ordinary s v OwnPropertyKeys g =
      ends-pays (PassesAsItEnds v (BuiltIn j) OwnPropertyKeys) (shown_keys g v (standard j i))
      (λ _. give (Keys (shown_keys g v (standard j i))) finished) g
      (at-built v OwnPropertyKeys (Normal (Keys (shown_keys g v (standard j i)))) g
      (passes-by (deed.OwnPropertyKeys (shown_keys g v (standard j i))) (Shown g v (standard j i))
      (λ k. any-lookup (same_key k) (Shown g v (standard j i)).properties)))
  built-ordinary s v (Call this vs) g =
      ends-any (PassesAtMoment v (BuiltIn j) (Call this vs) (standard j i) g) (λ q after u at. call-passes (said_outcome q) (Shown after v u))
      (ordinary s v (BuiltIn j) (standard j i) (Call this vs) finished g)
  built-ordinary s v (Construct vs target) g =
      ends-any (PassesAtMoment v (BuiltIn j) (Construct vs target) (standard j i) g)
      (λ q after u at. construct-passes (said_outcome q) (Shown after v u))
      (ordinary s v (BuiltIn j) (standard j i) (Construct vs target) finished g)

  built-kind : (s v : ℕ) (m : Method) (g : Graph)
      → RowEnds (PassesAtMoment v (BuiltIn j) m (standard j i) g) (perform_kind s v (BuiltIn j) (standard j i) m (standard j i).kind finished g)
  built-kind s v m g =
      subst (λ r. RowEnds (PassesAtMoment v (BuiltIn j) m (standard j i) g) (ruled s v (BuiltIn j) (standard j i) m r finished g))
      (sym (is-free j i g v m)) (built-ordinary s v m g)

  built-unless : (s v : ℕ) (m : Method) (g : Graph) (b : Bool)
      → RowEnds (PassesAtMoment v (BuiltIn j) m (standard j i) g)
      ((unless_type_error s b >>= (λ _. perform_kind s v (BuiltIn j) (standard j i) m (standard j i).kind)) finished g)
  built-unless s v m g true = built-kind s v m g
  built-unless s v m g false = throw-passes v (BuiltIn j) m (standard j i) g _ _

  noted-built : (s v : ℕ) (m : Method) (g : Graph) (began : ℕ) (q : Outcome) (h : Graph) → PassesAtMoment v (BuiltIn j) m (standard j i) g q h
      → PassesAtMoment v (BuiltIn j) m (standard j i) g q (method_noted began s (BuiltIn j) m q h)
  noted-built s v GetPrototypeOf g began q h p = p
  noted-built s v (SetPrototypeOf x) g began q h p = p
  noted-built s v IsExtensible g began q h p = p
  noted-built s v PreventExtensions g began q h p = p
  noted-built s v (GetOwnProperty k) g began q h p = p
  noted-built s v (DefineOwnProperty k d) g began q h p = p
  noted-built s v (HasProperty k) g began q h p = p
  noted-built s v (Get k r) g began q h p = p
  noted-built s v (Set k x r) g began q h p = p
  noted-built s v (Delete k) g began q h p = p
  noted-built s v OwnPropertyKeys g began q h p = p
  noted-built s v (Call this vs) g began q h p = p
  noted-built s v (Construct vs target) g began q h p = p

  built-row : (s v : ℕ) (m : Method) (g : Graph)
      → RowEnds (PassesAtMoment v (BuiltIn j) m (standard j i) g) (perform_row s v (BuiltIn j) m finished g)
  built-row s v m g =
      subst (λ (x : Option Thing). RowEnds (PassesAtMoment v (BuiltIn j) m (standard j i) g) (perform_thing s v (BuiltIn j) m x finished g))
      (sym (ap (λ (x : Option Intrinsic). option_map (standard j) x) is)) (built-unless s v m g (not (is_cut g v (standard j i))))

  built-passes : (s v : ℕ) (m : Method) (enters : Bool) (g : Graph) (f : ℕ)
      → TaskEnds (PassesAtMoment v (BuiltIn j) m (standard j i) g) (Means (Perform s m (BuiltIn j) v enters) g f)
  built-passes s v m enters g f =
      means-ends (PassesAtMoment v (BuiltIn j) m (standard j i) g) (Perform s m (BuiltIn j) v enters) g f
      (ends-entering (PassesAtMoment v (BuiltIn j) m (standard j i) g) (makes_entry enters s (BuiltIn j) g)
      (method_noted (entries_made g) s (BuiltIn j) m) (noted-built s v m g (entries_made g)) (perform_row s v (BuiltIn j) m finished g)
      (built-row s v m g))

-- ---- every object that is no script-made Proxy

built-in-pass : (s v j : ℕ) (m : Method) (enters : Bool) (t : Thing) (g : Graph) (f : ℕ) (x : Option Intrinsic) → intrinsic j ≡ x
    → option_map (standard j) x ≡ Some t → EndPasses v (BuiltIn j) m t g (Means (Perform s m (BuiltIn j) v enters) g f)
built-in-pass s v j m enters t g f None is at = absurd (let bad : None ≡ Some t = at in cc)
built-in-pass s v j m enters t g f (Some i) is at =
    let e : Some (standard j i) ≡ Some t = at in
    let same : standard j i ≡ t = cc in
    subst (λ (u : Thing). EndPasses v (BuiltIn j) m u g (Means (Perform s m (BuiltIn j) v enters) g f)) same
    (end-passes v (BuiltIn j) m (standard j i) g (Means (Perform s m (BuiltIn j) v enters) g f) (built-passes j i is s v m enters g f))

pub ordinary-entries-pass : OrdinaryEntriesPass
ordinary-entries-pass s v (Object n) m enters t g f at ordinary fit formed = object-entries-pass s v n m enters t g f at ordinary fit formed
ordinary-entries-pass s v (BuiltIn j) m enters t g f at ordinary fit formed = built-in-pass s v j m enters t g f (intrinsic j) refl at
ordinary-entries-pass s v Undefined m enters t g f at ordinary fit formed = absurd (let bad : None ≡ Some t = at in cc)
ordinary-entries-pass s v Null m enters t g f at ordinary fit formed = absurd (let bad : None ≡ Some t = at in cc)
ordinary-entries-pass s v (Truth b) m enters t g f at ordinary fit formed = absurd (let bad : None ≡ Some t = at in cc)
ordinary-entries-pass s v (Whole z) m enters t g f at ordinary fit formed = absurd (let bad : None ≡ Some t = at in cc)
ordinary-entries-pass s v (Text x) m enters t g f at ordinary fit formed = absurd (let bad : None ≡ Some t = at in cc)
ordinary-entries-pass s v (Symbol x) m enters t g f at ordinary fit formed = absurd (let bad : None ≡ Some t = at in cc)
