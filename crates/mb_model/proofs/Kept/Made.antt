use Rattle.std.proofs.Common.{◌≡◌, ℕ, suc, List, [], ◌∷◌, ◌++◌, length, Bool, true, false, ◌&&◌, Option, Some, None, slice_get, slice_set, refl, sym, ap, ◌∙◌, subst}
use Rattle.std.specs.Prelude.{codes, pos}
use Rattle.mb_desc.specs.declared.descriptor.Desc.{Desc}
use Rattle.mb_desc.specs.declared.descriptor.Full.{Full}
use Rattle.mb_desc.specs.declared.descriptor.Full.TheVariants.{Datum}
use Rattle.mb_world.specs.Value.{Val, Null, Object, Text, Whole, is_object}
use Rattle.mb_world.specs.Key.{PropertyKey, Named}
use Rattle.mb_world.specs.Property.{open_property}
use Rattle.mb_world.specs.Graph.{Graph, Thing, Code, Kind, Plain, Proxy, Property}
use Rattle.mb_world.specs.Standard.{object_prototype}
use Rattle.mb_world.specs.Objects.{thing_at, new_thing, shape_of, put_property, with_property}
use Rattle.mb_world.specs.Arrays.{length_key}
use Rattle.mb_model.specs.Writing.{Does, ◌>>=◌, give, look, make, with_object, unless_type_error}
use Rattle.mb_model.specs.Operations.Makings.{array_thing, function_thing, altered, make_constructor, make_function}
use Rattle.mb_model.specs.Operations.Descriptors.{put_field, truth_if, desc_properties, fromdesc}
use Rattle.mb_model.specs.BuiltIns.ProxyMaking.{may_be_target, proxy_create, revoker_thing, proxy_and_revoker}
use Rattle.mb_model.proofs.Kept.Changes.{Puts, is_other, IsNew, NewArray, NewOther, Apart, ProxyOf}
use Rattle.mb_model.proofs.Kept.Words.{Kept, Along, At, Goes, along-stays, along-made, at-unless, keeps->>=, keeps-give, keeps-make, keeps-type_error}

-- objects as rows make them

puts-put : (k : PropertyKey) (f : Full Val) (ps : List Property) → Puts ps → Puts (put_property k f ps)
puts-put k f ps h = (record { key = k; full = f } ∷ h.0, ap (put_property k f) h.1)

pub new-new_thing : (s : ℕ) (label : Option (List ℕ)) (kind : Kind) (p : Val) → is_other kind ≡ true →
    IsNew (new_thing s label kind p)
new-new_thing s label kind p other = NewOther other ([], refl)

pub new-array_thing : (s : ℕ) (p : Val) (n : ℕ) (vs : List Val) → IsNew (array_thing s p n vs)
new-array_thing s p n vs = NewArray s p n vs refl

puts-length_and_name : (n : ℕ) (name : List ℕ) →
    Puts (put_property (Named (codes "name")) (Datum (Text name) false false true)
    (put_property length_key (Datum (Whole (pos n)) false false true) []))
puts-length_and_name n name =
    puts-put (Named (codes "name")) (Datum (Text name) false false true)
    (put_property length_key (Datum (Whole (pos n)) false false true) [])
    (puts-put length_key (Datum (Whole (pos n)) false false true) [] ([], refl))

pub new-function_thing : (s : ℕ) (label : Option (List ℕ)) (c : Code) (n : ℕ) (name : List ℕ) →
    IsNew (function_thing s label c n name)
new-function_thing s label c n name = NewOther refl (puts-length_and_name n name)

pub new-revoker_thing : (s : ℕ) (p : Val) → IsNew (revoker_thing s p)
new-revoker_thing s p = NewOther refl (puts-length_and_name 0 [])

pub new-proxy_and_revoker : (s : ℕ) (p f : Val) → IsNew (proxy_and_revoker s p f)
new-proxy_and_revoker s p f =
    NewOther refl
    (puts-put (Named (codes "revoke")) (open_property f) (put_property (Named (codes "proxy")) (open_property p) [])
    (puts-put (Named (codes "proxy")) (open_property p) [] ([], refl)))

puts-field : (name : List ℕ) (o : Option Val) (ps : List Property) → Puts ps → Puts (put_field name o ps)
puts-field name None ps h = h
puts-field name (Some v) ps h = puts-put (Named name) (open_property v) ps h

puts-desc : (d : Desc Val) → Puts (desc_properties d)
puts-desc d =
    let valued : List Property = put_field (codes "value") d.value [] in
    let writing : List Property = put_field (codes "writable") (truth_if d.writable) valued in
    let getting : List Property = put_field (codes "get") d.get writing in
    let setting : List Property = put_field (codes "set") d.set getting in
    let listing : List Property = put_field (codes "enumerable") (truth_if d.enumerable) setting in
    puts-field (codes "configurable") (truth_if d.configurable) listing
    (puts-field (codes "enumerable") (truth_if d.enumerable) setting
    (puts-field (codes "set") d.set getting
    (puts-field (codes "get") d.get writing
    (puts-field (codes "writable") (truth_if d.writable) valued (puts-field (codes "value") d.value [] ([], refl))))))

pub keeps-fromdesc : (kept : Kept) (s : ℕ) (d : Desc Val) → Goes kept (fromdesc s d)
keeps-fromdesc kept s d =
    keeps-make kept (record (new_thing s None Plain object_prototype) { properties = desc_properties d })
    (NewOther refl (puts-desc d))

-- ---- a constructor and its prototype, which name each other, are made as they are then

get-last : (xs : List Thing) (x : Thing) → slice_get (xs ++ (x ∷ [])) (length xs) ≡ Some x
get-last [] x = refl
get-last (y ∷ xs) x = get-last xs x

set-last : (xs : List Thing) (x z : Thing) → slice_set (xs ++ (x ∷ [])) (length xs) z ≡ xs ++ (z ∷ [])
set-last [] x z = refl
set-last (y ∷ xs) x z = ap (λ r. y ∷ r) (set-last xs x z)

get-before : (xs : List Thing) (x y : Thing) → slice_get ((xs ++ (x ∷ [])) ++ (y ∷ [])) (length xs) ≡ Some x
get-before [] x y = refl
get-before (w ∷ xs) x y = get-before xs x y

set-before : (xs : List Thing) (x y z : Thing) →
    slice_set ((xs ++ (x ∷ [])) ++ (y ∷ [])) (length xs) z ≡ (xs ++ (z ∷ [])) ++ (y ∷ [])
set-before [] x y z = refl
set-before (w ∷ xs) x y z = ap (λ r. w ∷ r) (set-before xs x y z)

same-length : (xs : List Thing) (x z : Thing) → length (xs ++ (x ∷ [])) ≡ length (xs ++ (z ∷ []))
same-length [] x z = refl
same-length (y ∷ xs) x z = ap suc (same-length xs x z)

-- the object that was made last
pub last-made : (g : Graph) (t : Thing) → thing_at (with_object t g) (Object (length g.objects)) ≡ Some t
last-made g t = get-last g.objects t

altered-last : (g : Graph) (t : Thing) (f : Thing → Thing) →
    altered (Object (length g.objects)) f (thing_at (with_object t g) (Object (length g.objects))) (with_object t g)
    ≡ with_object (f t) g
altered-last g t f =
    ap (λ x. altered (Object (length g.objects)) f x (with_object t g)) (get-last g.objects t)
    ∙ ap (λ os. record g { objects = os }) (set-last g.objects t (f t))

altered-before : (g : Graph) (t u : Thing) (f : Thing → Thing) →
    altered (Object (length g.objects)) f (thing_at (with_object u (with_object t g)) (Object (length g.objects)))
    (with_object u (with_object t g))
    ≡ with_object u (with_object (f t) g)
altered-before g t u f =
    ap (λ x. altered (Object (length g.objects)) f x (with_object u (with_object t g))) (get-before g.objects t u)
    ∙ ap (λ os. record g { objects = os }) (set-before g.objects t u (f t))

abbrev prototype_of : Val → Thing → Thing
prototype_of p = with_property (Named (codes "prototype")) (Datum p true false false)

abbrev constructor_of : Val → Thing → Thing
constructor_of f = with_property (Named (codes "constructor")) (Datum f true false true)

new-constructor : (s : ℕ) (label : Option (List ℕ)) (c : Code) (n : ℕ) (name : List ℕ) (p : Val) →
    IsNew (prototype_of p (function_thing s label c n name))
new-constructor s label c n name p =
    NewOther refl
    (puts-put (Named (codes "prototype")) (Datum p true false false) (function_thing s label c n name).properties
    (puts-length_and_name n name))

new-prototype : (s : ℕ) (f : Val) → IsNew (constructor_of f (new_thing s None Plain object_prototype))
new-prototype s f =
    NewOther refl (puts-put (Named (codes "constructor")) (Datum f true false true) [] ([], refl))

abbrev paired : Graph → Thing → Thing → Val → Val → Graph
paired g t u f p =
    let h : Graph = altered f (prototype_of p) (thing_at (with_object u (with_object t g)) f) (with_object u (with_object t g)) in
    altered p (constructor_of f) (thing_at h p) h

paired-is : (g : Graph) (t u : Thing) →
    paired g t u (Object (length g.objects)) (Object (length (g.objects ++ (t ∷ []))))
    ≡ with_object (constructor_of (Object (length g.objects)) u)
    (with_object (prototype_of (Object (length (g.objects ++ (t ∷ [])))) t) g)
paired-is g t u =
    let f : Val = Object (length g.objects) in
    let n : ℕ = length (g.objects ++ (t ∷ [])) in
    let v : Thing = prototype_of (Object n) t in
    let h : Graph = with_object u (with_object v g) in
    ap (λ x. altered (Object n) (constructor_of f) (thing_at x (Object n)) x) (altered-before g t u (prototype_of (Object n)))
    ∙ ap (λ m. altered (Object m) (constructor_of f) (thing_at h (Object m)) h) (same-length g.objects t v)
    ∙ altered-last (with_object v g) u (constructor_of f)

constructor-along : (kept : Kept) (g : Graph) (s : ℕ) (label : Option (List ℕ)) (c : Code) (n : ℕ) (name : List ℕ) →
    Along kept g g →
    Along kept g (paired g (function_thing s label c n name) (new_thing s None Plain object_prototype)
    (Object (length g.objects)) (Object (length (g.objects ++ (function_thing s label c n name ∷ [])))))
constructor-along kept g s label c n name p =
    let t : Thing = function_thing s label c n name in
    let u : Thing = new_thing s None Plain object_prototype in
    let f : Val = Object (length g.objects) in
    let o : Val = Object (length (g.objects ++ (t ∷ []))) in
    subst (Along kept g) (sym (paired-is g t u))
    (along-made kept g (with_object (prototype_of o t) g) (constructor_of f u) (Apart (new-prototype s f))
    (along-made kept g g (prototype_of o t) (Apart (new-constructor s label c n name o)) p))

constructor-made : (kept : Kept) (s : ℕ) (label : Option (List ℕ)) (c : Code) (n : ℕ) (name : List ℕ) (b : Bool) →
    Goes kept (make (function_thing s label c n name) >>= (λ f. make_constructor s b f))
constructor-made kept s label c n name false =
    keeps->>= kept (make (function_thing s label c n name)) (λ f. give f)
    (keeps-make kept (function_thing s label c n name) (new-function_thing s label c n name)) (λ f. keeps-give kept f)
constructor-made kept s label c n name true =
    record {
      goes = λ g k b p h. h (Object (length g.objects)) _ (constructor-along kept g s label c n name (along-stays kept b g p));
    }

pub keeps-make_function : (kept : Kept) (c : Code) (label : Option (List ℕ)) (n : ℕ) (name : List ℕ) →
    Goes kept (make_function c label n name)
keeps-make_function kept c label n name = constructor-made kept c.side label c n name c.constructs

-- ---- a Proxy, of what may be its target

abbrev proxy_made : ℕ → Val → Val → Does Val
proxy_made s t h = look (λ g. shape_of g t) >>= (λ shape. make (new_thing s None (Proxy t h shape) Null))

at-made : (kept : Kept) (g : Graph) (s : ℕ) (t h : Val) → may_be_target g t ≡ true → At kept g (proxy_made s t h)
at-made kept g s t h able k b p more =
    let made : Thing = new_thing s None (Proxy t h (shape_of g t)) Null in
    more (Object (length g.objects)) (with_object made g)
    (along-made kept g g made (ProxyOf s t h (shape_of g t) able refl) (along-stays kept b g p))

at-able : (kept : Kept) (g : Graph) (s : ℕ) (t h : Val) (able : Bool) → may_be_target g t ≡ able →
    At kept g (unless_type_error s (able && is_object h) >>= (λ _. proxy_made s t h))
at-able kept g s t h true e = at-unless kept g s (is_object h) (proxy_made s t h) (at-made kept g s t h e)
at-able kept g s t h false e = λ k b p more. (keeps-type_error {A = Val} kept s).goes g k b p more

pub keeps-proxy_create : (kept : Kept) (s : ℕ) (t h : Val) → Goes kept (proxy_create s t h)
keeps-proxy_create kept s t h = record { goes = λ g k b p more. at-able kept g s t h (may_be_target g t) refl k b p more }
