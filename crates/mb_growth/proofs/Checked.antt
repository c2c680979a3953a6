-- What the checks of a Proxy's traps let pass, passes against the view that stands in the target's place.
use Rattle.std.proofs.Common.{◌≡◌, ℕ, Bool, true, false, not, ◌&&◌, ◌||◌, List, [], ◌∷◌, ◌++◌, Option, None, Some, is_some, refl, sym, ap, ◌∙◌}
use Rattle.std.specs.List.{list_any, list_all, filter}
use Rattle.std.specs.Map.{keys_of, lookup}
use Rattle.mb_desc.specs.declared.descriptor.Desc.{Desc}
use Rattle.mb_desc.specs.declared.descriptor.Full.{Full}
use Rattle.mb_desc.specs.Descriptors.{Complete, denies, is_configurable, is_fixed, is_writable, is_unwritable, property_is, descriptor_of}
use Rattle.mb_desc.specs.View.{View}
use Rattle.mb_check.specs.Keys.{is_among, all_among, are_distinct}
use Rattle.mb_check.specs.Rules.{first_broken, same_prototype, absent, compatible}
use Rattle.mb_view.specs.Views.{property_of}
use Rattle.mb_view.specs.Entries as deed
use Rattle.mb_view.specs.Passing.{AllowsSaid, AllowsDefined, Passes}
use Rattle.mb_view.proofs.Tables.{any-lookup, same_key-sym}
use Rattle.mb_world.specs.declared.entry.Op.{Op}
use Rattle.mb_world.specs.declared.entry.Op.TheVariants.{GetPrototypeOf, SetPrototypeOf, IsExtensible, PreventExtensions, GetOwnPropertyDescriptor, DefineProperty, Has, Get, Set, DeleteProperty, OwnKeys, Apply, Construct, Collect}
use Rattle.mb_world.specs.Value.{Val, Undefined, same_value}
use Rattle.mb_world.specs.Key.{PropertyKey, same_key}
use Rattle.mb_world.specs.Graph.{Said, SaidFlag, SaidValue, SaidAbsent, SaidProperty, SaidKeys}
use Rattle.mb_model.specs.Objects.Rules as rule
use Rattle.mb_model.specs.Trace.Lawful.{deed_by}
use Rattle.mb_model.specs.Trace.Answers.{is_pass, closed_prototype, keys_with, is_prototype, own_keys_pass, answer_passes}
use Rattle.mb_growth.specs.Answered.{is_checked, ChecksTell}
use Rattle.mb_growth.proofs.Values.{key-sound, value-sound}

abbrev Sees : Type 0
Sees = View PropertyKey Val

-- ---- tests and verdicts

pub and-second : (a b : Bool) → a && b ≡ true → b ≡ true
and-second true b h = h
and-second false b h = absurd (let bad : false ≡ true = h in cc)

and-first : (a b : Bool) → a && b ≡ true → a ≡ true
and-first true b h = refl
and-first false b h = absurd (let bad : false ≡ true = h in cc)

pub not-not : (a : Bool) → not a ≡ false → a ≡ true
not-not true h = refl
not-not false h = absurd (let bad : true ≡ false = h in cc)

pub unbroken : (b : Bool) (n : ℕ) (rs : List (Bool × ℕ)) → is_pass (first_broken ((b, n) ∷ rs)) ≡ true
    → (b ≡ false) × (is_pass (first_broken rs) ≡ true)
unbroken true n rs h = absurd (let bad : false ≡ true = h in cc)
unbroken false n rs h = (refl, h)

-- ---- each rule

prototype-tells : (n : ℕ) (p : Val) (view : Sees) → is_pass (same_prototype same_value n p (closed_prototype view)) ≡ true
    → view.extensible ≡ false → p ≡ view.prototype
prototype-tells n p view h closed =
    let i : is_pass (same_prototype same_value n p (Some view.prototype)) ≡ true = rw closed at h in
    value-sound p view.prototype (not-not (same_value p view.prototype) (unbroken (not (same_value p view.prototype)) n [] i).0)

pub extensible-tells : (b x : Bool) → is_pass (rule.is_extensible b x) ≡ true → b ≡ x
extensible-tells true true h = refl
extensible-tells false false h = refl
extensible-tells true false h = absurd (let bad : false ≡ true = h in cc)
extensible-tells false true h = absurd (let bad : false ≡ true = h in cc)

pub prevent-tells : (x : Bool) → is_pass (rule.prevent_extensions x) ≡ true → x ≡ false
prevent-tells true h = absurd (let bad : false ≡ true = h in cc)
prevent-tells false h = refl

pub absent-tells : (n m : ℕ) (real : Option (Full Val)) (extensible : Bool) → is_pass (absent n m real extensible) ≡ true
    → (p : Full Val) → real ≡ Some p → (is_configurable p ≡ true) × (extensible ≡ true)
absent-tells n m None extensible h p e = absurd (let bad : None ≡ Some p = e in cc)
absent-tells n m (Some r) extensible h p e =
    let same : r ≡ p = cc in
    let one = unbroken (is_fixed r) n ((not extensible, m) ∷ []) h in
    let two = unbroken (not extensible) m [] one.1 in
    (ap is_configurable (sym same) ∙ not-not (is_configurable r) one.0, not-not extensible two.0)

present-real : (said : Full Val) (real : Option (Full Val)) → is_configurable said ≡ false
    → is_fixed said && not (property_is is_fixed real) ≡ false
    → is_fixed said && is_unwritable said && property_is is_writable real ≡ false
    → (p : Full Val) × (real ≡ Some p) × (is_configurable p ≡ false) × (is_unwritable said ≡ true → is_writable p ≡ false)
present-real said None c two three = absurd (let bad : true ≡ false = rw c at two in cc)
present-real said (Some p) c two three = (p, refl, fixed (is_configurable p) refl, λ u. rw (c, u) at three)
  where
    fixed : (b : Bool) → is_configurable p ≡ b → is_configurable p ≡ false
    fixed true e = absurd (let bad : true ≡ false = rw (c, e) at two in cc)
    fixed false e = e

pub present-tells : (said : Full Val) (real : Option (Full Val)) (extensible : Bool)
    → is_pass (rule.own_present said real extensible) ≡ true → AllowsSaid same_value Undefined extensible real said
present-tells said real extensible h =
    let first = compatible same_value Undefined extensible (descriptor_of said) real in
    let second = is_fixed said && not (property_is is_fixed real) in
    let third = is_fixed said && is_unwritable said && property_is is_writable real in
    let one = unbroken (not first) 9 ((second, 10) ∷ (third, 11) ∷ []) h in
    let two = unbroken second 10 ((third, 11) ∷ []) one.1 in
    let three = unbroken third 11 [] two.1 in
    (not-not first one.0, λ c. present-real said real c two.0 three.0)

pub define-tells : (given : Desc Val) (real : Option (Full Val)) (extensible : Bool)
    → is_pass (rule.define given real extensible) ≡ true → AllowsDefined same_value Undefined extensible real given
define-tells given None extensible h =
    let one = unbroken (not extensible) 12 ((denies given.configurable, 13) ∷ []) h in
    let two = unbroken (denies given.configurable) 13 [] one.1 in
    (not-not extensible one.0, two.0)
define-tells given (Some p) extensible h =
    let first = compatible same_value Undefined extensible given (Some p) in
    let second = denies given.configurable && is_configurable p in
    let third = denies given.writable && is_writable p && is_fixed p in
    let one = unbroken (not first) 14 ((second, 15) ∷ (third, 16) ∷ []) h in
    let two = unbroken second 15 ((third, 16) ∷ []) one.1 in
    let three = unbroken third 16 [] two.1 in
    (not-not first one.0, λ d. rw d at two.0, λ d c. writable (is_writable p) refl (rw (d, c) at three.0))
  where
    writable : (b : Bool) → is_writable p ≡ b → is_writable p && true ≡ false → is_writable p ≡ false
    writable true e i = absurd (let bad : true ≡ false = rw e at i in cc)
    writable false e i = e

-- ---- the rule on own keys

-- what holds of all keys holds of one of them
all-member : (test : PropertyKey → Bool) (k : PropertyKey) (ks : List PropertyKey) → list_all test ks ≡ true
    → list_any (same_key k) ks ≡ true → test k ≡ true
all-member test k [] h i = absurd (let bad : false ≡ true = i in cc)
all-member test k (x ∷ xs) h i = by (same_key k x) refl (all-member test k xs (and-second (test x) (list_all test xs) h))
  where
    by : (b : Bool) → same_key k x ≡ b → (list_any (same_key k) xs ≡ true → test k ≡ true) → test k ≡ true
    by true e rest = ap test (key-sound k x e) ∙ and-first (test x) (list_all test xs) h
    by false e rest = rest (rw e at i)

among-is : (k : PropertyKey) (ks : List PropertyKey) → is_among same_key k ks ≡ list_any (same_key k) ks
among-is k [] = refl
among-is k (x ∷ xs) =
    ap (λ b. b || is_among same_key k xs) (same_key-sym same_key key-sound x k) ∙ ap (λ b. same_key k x || b) (among-is k xs)

abbrev Table : Type 0
Table = List (PropertyKey × Full Val)

-- a property that passes a test stands among those that pass it
found-kept : (test : Full Val → Bool) (k : PropertyKey) (es : Table) (p : Full Val) → lookup (same_key k) es ≡ Some p
    → test p ≡ true → list_any (same_key k) (keys_of (filter (λ e. test e.1) es)) ≡ true
found-kept test k [] p h t = absurd (let bad : None ≡ Some p = h in cc)
found-kept test k (e ∷ es) p h t = by (same_key k e.0) (test e.1) refl refl (found-kept test k es p)
  where
    by : (b c : Bool) → same_key k e.0 ≡ b → test e.1 ≡ c
        → (lookup (same_key k) es ≡ Some p → test p ≡ true → list_any (same_key k) (keys_of (filter (λ x. test x.1) es)) ≡ true)
        → list_any (same_key k) (keys_of (filter (λ x. test x.1) (e ∷ es))) ≡ true
    by true true f g rest = rw g (rw f refl)
    by true false f g rest =
        let same : Some e.1 ≡ Some p = rw f at h in
        let q : e.1 ≡ p = cc in
        absurd (let bad : true ≡ false = sym t ∙ ap test (sym q) ∙ g in cc)
    by false true f g rest = rw g (rw f (rest (rw f at h) t))
    by false false f g rest = rw g (rest (rw f at h) t)

-- each property is fixed or not
both-kept : (k : PropertyKey) (es : Table)
    → list_any (same_key k) (keys_of (filter (λ e. is_fixed e.1) es) ++ keys_of (filter (λ e. is_configurable e.1) es))
    ≡ list_any (same_key k) (keys_of es)
both-kept k es = any-append (keys_of (filter (λ e. is_fixed e.1) es)) (keys_of (filter (λ e. is_configurable e.1) es)) ∙ either es
  where
    any-append : (xs ys : List PropertyKey) → list_any (same_key k) (xs ++ ys) ≡ list_any (same_key k) xs || list_any (same_key k) ys
    any-append [] ys = refl
    any-append (x ∷ xs) ys = by (same_key k x) refl (any-append xs ys)
      where
        by : (b : Bool) → same_key k x ≡ b → list_any (same_key k) (xs ++ ys) ≡ list_any (same_key k) xs || list_any (same_key k) ys
            → list_any (same_key k) ((x ∷ xs) ++ ys) ≡ list_any (same_key k) (x ∷ xs) || list_any (same_key k) ys
        by true e rest = rw e refl
        by false e rest = rw e rest

    either : (xs : Table) → list_any (same_key k) (keys_of (filter (λ e. is_fixed e.1) xs))
        || list_any (same_key k) (keys_of (filter (λ e. is_configurable e.1) xs))
        ≡ list_any (same_key k) (keys_of xs)
    either [] = refl
    either (x ∷ xs) = by (is_configurable x.1) (same_key k x.0) refl refl (either xs)
      where
        swap : (a b : Bool) → a || true ≡ true
        swap true b = refl
        swap false b = refl

        by : (c b : Bool) → is_configurable x.1 ≡ c → same_key k x.0 ≡ b
            → list_any (same_key k) (keys_of (filter (λ e. is_fixed e.1) xs))
            || list_any (same_key k) (keys_of (filter (λ e. is_configurable e.1) xs))
            ≡ list_any (same_key k) (keys_of xs)
            → list_any (same_key k) (keys_of (filter (λ e. is_fixed e.1) (x ∷ xs)))
            || list_any (same_key k) (keys_of (filter (λ e. is_configurable e.1) (x ∷ xs)))
            ≡ list_any (same_key k) (keys_of (x ∷ xs))
        by true true e f rest = rw e (rw f (swap (list_any (same_key k) (keys_of (filter (λ e. is_fixed e.1) xs))) true))
        by true false e f rest = rw e (rw f rest)
        by false true e f rest = rw e (rw f refl)
        by false false e f rest = rw e (rw f rest)

-- two tests that tell each other
same-truth : (a b : Bool) → (a ≡ true → b ≡ true) → (b ≡ true → a ≡ true) → a ≡ b
same-truth true b f g = sym (f refl)
same-truth false true f g = g refl
same-truth false false f g = refl

pub keys-tell : (view : Sees) (ks : List PropertyKey) → own_keys_pass view ks ≡ true
    → Passes same_key same_value Undefined (deed.OwnPropertyKeys ks) view
keys-tell view ks h = (
  λ k f.
      let kept : list_any (same_key k) fixed ≡ true =
      found-kept is_fixed k view.properties f.0 f.1 (ap not f.2) in
      sym (among-is k ks) ∙ all-member (λ x. is_among same_key x ks) k fixed (not-not (all_among same_key fixed ks) two.0) kept,
  λ closed k.
      let three : all_among same_key (fixed ++ loose) ks && all_among same_key ks (fixed ++ loose) ≡ true =
      all-listed view.extensible closed third.0 in
      let there : list_any (same_key k) (fixed ++ loose) ≡ is_some (property_of same_key view k) =
      both-kept k view.properties ∙ any-lookup (same_key k) view.properties in
      same-truth (list_any (same_key k) ks) (list_any (same_key k) (fixed ++ loose))
      (λ i. sym (among-is k (fixed ++ loose)) ∙ all-member (λ x. is_among same_key x (fixed ++ loose)) k ks
      (and-second (all_among same_key (fixed ++ loose) ks) (all_among same_key ks (fixed ++ loose)) three) i)
      (λ i. sym (among-is k ks) ∙ all-member (λ x. is_among same_key x ks) k (fixed ++ loose)
      (and-first (all_among same_key (fixed ++ loose) ks) (all_among same_key ks (fixed ++ loose)) three) i)
      ∙ there,
)
  where
    fixed : List PropertyKey
    fixed = keys_with is_fixed view

    loose : List PropertyKey
    loose = keys_with is_configurable view

    listed : Bool
    listed = all_among same_key (fixed ++ loose) ks && all_among same_key ks (fixed ++ loose)

    all-listed : (b : Bool) → b ≡ false → not b && not (all_among same_key (fixed ++ loose) ks && all_among same_key ks (fixed ++ loose)) ≡ false
        → all_among same_key (fixed ++ loose) ks && all_among same_key ks (fixed ++ loose) ≡ true
    all-listed true e i = absurd (let bad : true ≡ false = e in cc)
    all-listed false e i = not-not (all_among same_key (fixed ++ loose) ks && all_among same_key ks (fixed ++ loose)) i

    one : (not (are_distinct same_key ks) ≡ false)
        × (is_pass (first_broken ((not (all_among same_key fixed ks), 22) ∷ (not view.extensible && not listed, 23) ∷ [])) ≡ true)
    one = unbroken (not (are_distinct same_key ks)) 21 ((not (all_among same_key fixed ks), 22) ∷ (not view.extensible && not listed, 23) ∷ []) h

    two : (not (all_among same_key fixed ks) ≡ false) × (is_pass (first_broken ((not view.extensible && not listed, 23) ∷ [])) ≡ true)
    two = unbroken (not (all_among same_key fixed ks)) 22 ((not view.extensible && not listed, 23) ∷ []) one.1

    third : (not view.extensible && not listed ≡ false) × (is_pass (first_broken []) ≡ true)
    third = unbroken (not view.extensible && not listed) 23 [] two.1

-- ---- an entry

abbrev Tells : Sees → Op → Option PropertyKey → Said → Said → Type 0
Tells view op k given answer = answer_passes view op k given answer ≡ true
    → Passes same_key same_value Undefined (deed_by op k given answer) view

get_prototype-tells : (view : Sees) (k : Option PropertyKey) (given answer : Said) → Tells view GetPrototypeOf k given answer
get_prototype-tells view k given (SaidValue p) h =
    prototype-tells 2 p view (and-second (is_prototype p) (is_pass (rule.get_prototype p (closed_prototype view))) h)
get_prototype-tells view k given _ h = tt

set_prototype-tells : (view : Sees) (k : Option PropertyKey) (given answer : Said) → Tells view SetPrototypeOf k given answer
set_prototype-tells view k (SaidValue p) (SaidFlag true) h = prototype-tells 3 p view h
set_prototype-tells view k (SaidValue p) (SaidFlag false) h = tt
set_prototype-tells view k (SaidValue p) _ h = tt
set_prototype-tells view k _ answer h = tt

is_extensible-tells : (view : Sees) (k : Option PropertyKey) (given answer : Said) → Tells view IsExtensible k given answer
is_extensible-tells view k given (SaidFlag b) h = extensible-tells b view.extensible h
is_extensible-tells view k given _ h = tt

prevent_extensions-tells : (view : Sees) (k : Option PropertyKey) (given answer : Said) → Tells view PreventExtensions k given answer
prevent_extensions-tells view k given (SaidFlag true) h = prevent-tells view.extensible h
prevent_extensions-tells view k given (SaidFlag false) h = tt
prevent_extensions-tells view k given _ h = tt

own-tells : (view : Sees) (k : Option PropertyKey) (given answer : Said) → Tells view GetOwnPropertyDescriptor k given answer
own-tells view None given answer h = tt
own-tells view (Some k) given SaidAbsent h = absent-tells 7 8 (property_of same_key view k) view.extensible h
own-tells view (Some k) given (SaidProperty d) h =
    present-tells (Complete Undefined d) (property_of same_key view k) view.extensible h
own-tells view (Some k) given _ h = tt

define_property-tells : (view : Sees) (k : Option PropertyKey) (given answer : Said) → Tells view DefineProperty k given answer
define_property-tells view None given answer h = tt
define_property-tells view (Some k) (SaidProperty d) (SaidFlag true) h =
    define-tells d (property_of same_key view k) view.extensible h
define_property-tells view (Some k) (SaidProperty d) (SaidFlag false) h = tt
define_property-tells view (Some k) (SaidProperty d) _ h = tt
define_property-tells view (Some k) _ answer h = tt

delete-tells : (view : Sees) (k : Option PropertyKey) (given answer : Said) → Tells view DeleteProperty k given answer
delete-tells view None given answer h = tt
delete-tells view (Some k) given (SaidFlag true) h = absent-tells 20 20 (property_of same_key view k) view.extensible h
delete-tells view (Some k) given (SaidFlag false) h = tt
delete-tells view (Some k) given _ h = tt

own_keys-tells : (view : Sees) (k : Option PropertyKey) (given answer : Said) → Tells view OwnKeys k given answer
own_keys-tells view k given (SaidKeys ks) h = keys-tell view ks h
own_keys-tells view k given _ h = tt

said-tells : (view : Sees) (op : Op) (k : Option PropertyKey) (given answer : Said) → is_checked op ≡ true → Tells view op k given answer
said-tells view GetPrototypeOf k given answer checked = get_prototype-tells view k given answer
said-tells view SetPrototypeOf k given answer checked = set_prototype-tells view k given answer
said-tells view IsExtensible k given answer checked = is_extensible-tells view k given answer
said-tells view PreventExtensions k given answer checked = prevent_extensions-tells view k given answer
said-tells view GetOwnPropertyDescriptor k given answer checked = own-tells view k given answer
said-tells view DefineProperty k given answer checked = define_property-tells view k given answer
said-tells view Has k given answer checked = absurd (let bad : false ≡ true = checked in cc)
said-tells view Get k given answer checked = absurd (let bad : false ≡ true = checked in cc)
said-tells view Set k given answer checked = absurd (let bad : false ≡ true = checked in cc)
said-tells view DeleteProperty k given answer checked = delete-tells view k given answer
said-tells view OwnKeys k given answer checked = own_keys-tells view k given answer
said-tells view Apply k given answer checked = λ h. tt
said-tells view Construct k given answer checked = λ h. tt
said-tells view (Collect p) k given answer checked = λ h. tt

pub checks-tell : ChecksTell
checks-tell view e checked h = said-tells view e.op e.key e.given e.answer checked h
