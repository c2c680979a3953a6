use Rattle.std.proofs.Common.{List, Ok, [], ap, refl, subst, sym, ◌∙◌, ◌∷◌}
use Rattle.mb_base.specs.declared.value.Value.TheVariants as v
use Rattle.mb_base.specs.declared.value.Value.{Value}
use Rattle.mb_frames.proofs.Agreeing.{grown-agree}
use Rattle.mb_frames.proofs.HeldLess.{constructor-value, object-value, prototype-value}
use Rattle.mb_frames.proofs.Leaving.{holds-still}
use Rattle.mb_frames.proofs.Readying.{changed-same}
use Rattle.mb_frames.specs.Going.{Makes}
use Rattle.mb_frames.specs.Held.{HeldKey, HeldObject, HeldValue}
use Rattle.mb_frames.specs.Resolved.{values_in}
use Rattle.mb_model.specs.Operations.Descriptors.{fromdesc}
use Rattle.mb_model.specs.Operations.Makings.{make_array}
use Rattle.mb_scriptproxy.proofs.Trapped.{four-held, gives-made, keeps-listed, key-value-held, one-held, three-held}
use Rattle.mb_scriptproxy.proofs.Trapped.{two-held}
use Rattle.mb_scriptproxy.proofs.traps.trap_arguments.Goals as goal
use Rattle.mb_world.specs.Image.{Resolve, desc_in, key_in, names_of, object_in}
use Rattle.mb_world.specs.Key.{value_of_key}
use Rattle.mb_world.specs.Value.{Val}

pub returns-in-GetPrototypeOf-clause-keeps : goal.returns-in-GetPrototypeOf-clause-keeps
returns-in-GetPrototypeOf-clause-keeps c =
    let d = c.args.w.now in
    let home = c.args.home in
    let a = rw c.in-GetPrototypeOf.is at c.requires.acts in
    keeps-listed d d home c.listed.result (v.Object c.args.target ∷ []) c.listed.ensures (changed-same home d a.ready)
    (one-held d home (v.Object c.args.target) (object-value d home c.args.target a.holds.0))

pub returns-in-SetPrototypeOf-clause-keeps : goal.returns-in-SetPrototypeOf-clause-keeps
returns-in-SetPrototypeOf-clause-keeps c =
    let d = c.args.w.now in
    let home = c.args.home in
    let a = rw c.in-SetPrototypeOf.is at c.requires.acts in
    keeps-listed d d home c.listed-in-SetPrototypeOf.result (v.Object c.args.target ∷ c.in-SetPrototypeOf.given ∷ [])
    c.listed-in-SetPrototypeOf.ensures (changed-same home d a.ready)
    (two-held d home (v.Object c.args.target) c.in-SetPrototypeOf.given (object-value d home c.args.target a.holds.0)
    (prototype-value d home c.in-SetPrototypeOf.given a.holds.1.0))

pub returns-in-IsExtensible-clause-keeps : goal.returns-in-IsExtensible-clause-keeps
returns-in-IsExtensible-clause-keeps c =
    let d = c.args.w.now in
    let home = c.args.home in
    let a = rw c.in-IsExtensible.is at c.requires.acts in
    keeps-listed d d home c.listed-in-IsExtensible.result (v.Object c.args.target ∷ [])
    c.listed-in-IsExtensible.ensures (changed-same home d a.ready)
    (one-held d home (v.Object c.args.target) (object-value d home c.args.target a.holds.0))

pub returns-in-PreventExtensions-clause-keeps : goal.returns-in-PreventExtensions-clause-keeps
returns-in-PreventExtensions-clause-keeps c =
    let d = c.args.w.now in
    let home = c.args.home in
    let a = rw c.in-PreventExtensions.is at c.requires.acts in
    keeps-listed d d home c.listed-in-PreventExtensions.result (v.Object c.args.target ∷ [])
    c.listed-in-PreventExtensions.ensures (changed-same home d a.ready)
    (one-held d home (v.Object c.args.target) (object-value d home c.args.target a.holds.0))

pub returns-in-GetOwnProperty-clause-keeps : goal.returns-in-GetOwnProperty-clause-keeps
returns-in-GetOwnProperty-clause-keeps c =
    let d = c.args.w.now in
    let home = c.args.home in
    let a = rw c.in-GetOwnProperty.is at c.requires.acts in
    keeps-listed d d home c.listed-in-GetOwnProperty.result (v.Object c.args.target ∷ c.key_value.result ∷ [])
    c.listed-in-GetOwnProperty.ensures (changed-same home d a.ready)
    (two-held d home (v.Object c.args.target) c.key_value.result (object-value d home c.args.target a.holds.0)
    (rw c.key_value.ensures.is (key-value-held d home c.in-GetOwnProperty.key a.holds.1.0.within)))

pub returns-in_ok-desc-in-DefineOwnProperty-clause-gives : goal.returns-in_ok-desc-in-DefineOwnProperty-clause-gives
returns-in_ok-desc-in-DefineOwnProperty-clause-gives c =
    let d = c.args.w.now in
    let home = c.args.home in
    let a = rw c.in-DefineOwnProperty.is at c.requires.acts in
    let d' = c.fromdesc.new.w in
    let id = c.in_ok-desc-in-DefineOwnProperty.desc in
    let n = names_of d in
    let n' = names_of d' in
    let grows = c.in_ok-desc-in-DefineOwnProperty.ensures.makes.grew.grows in
    gives-made d home c.args.target c.args.method.now d' c.listed-in-DefineOwnProperty.result
    (c.key_value-in-DefineOwnProperty.result ∷ v.Object id ∷ []) id
    (fromdesc home.0 (desc_in (Resolve n) c.in-DefineOwnProperty.given))
    (λ (o : Val). value_of_key (key_in n c.in-DefineOwnProperty.key) ∷ o ∷ [])
    (rw c.in-DefineOwnProperty.is refl) c.in_ok-desc-in-DefineOwnProperty.ensures.makes
    (ap (λ (x : Val). x ∷ object_in n' id ∷ [])
    (sym (c.key_value-in-DefineOwnProperty.ensures.means n' ∙ ap value_of_key ((grown-agree d d' grows).key
    c.in-DefineOwnProperty.key a.holds.1.0.within))))
    c.listed-in-DefineOwnProperty.ensures

pub returns-in_ok-desc-in-DefineOwnProperty-clause-keeps : goal.returns-in_ok-desc-in-DefineOwnProperty-clause-keeps
returns-in_ok-desc-in-DefineOwnProperty-clause-keeps c =
    let d = c.args.w.now in
    let home = c.args.home in
    let a = rw c.in-DefineOwnProperty.is at c.requires.acts in
    let d' = c.fromdesc.new.w in
    let id = c.in_ok-desc-in-DefineOwnProperty.desc in
    let k = c.in_ok-desc-in-DefineOwnProperty.ensures.keeps in
    let h = holds-still home d d' a.ready k.changed (HeldObject c.args.target ∷ HeldKey c.in-DefineOwnProperty.key ∷
    []) (a.holds.0, (a.holds.1.0, tt)) in
    keeps-listed d d' home c.listed-in-DefineOwnProperty.result (v.Object c.args.target ∷
    c.key_value-in-DefineOwnProperty.result ∷ v.Object id ∷ []) c.listed-in-DefineOwnProperty.ensures k.changed
    (three-held d' home (v.Object c.args.target) c.key_value-in-DefineOwnProperty.result (v.Object id) (object-value
    d' home c.args.target h.0)
    (rw c.key_value-in-DefineOwnProperty.ensures.is (key-value-held d' home c.in-DefineOwnProperty.key h.1.0.within))
    (object-value d' home id k.holds.0))

pub returns-in-HasProperty-clause-keeps : goal.returns-in-HasProperty-clause-keeps
returns-in-HasProperty-clause-keeps c =
    let d = c.args.w.now in
    let home = c.args.home in
    let a = rw c.in-HasProperty.is at c.requires.acts in
    keeps-listed d d home c.listed-in-HasProperty.result (v.Object c.args.target ∷ c.key_value-in-HasProperty.result ∷
    []) c.listed-in-HasProperty.ensures (changed-same home d a.ready)
    (two-held d home (v.Object c.args.target) c.key_value-in-HasProperty.result (object-value d home c.args.target
    a.holds.0)
    (rw c.key_value-in-HasProperty.ensures.is (key-value-held d home c.in-HasProperty.key a.holds.1.0.within)))

pub returns-in-Get-clause-keeps : goal.returns-in-Get-clause-keeps
returns-in-Get-clause-keeps c =
    let d = c.args.w.now in
    let home = c.args.home in
    let a = rw c.in-Get.is at c.requires.acts in
    keeps-listed d d home c.listed-in-Get.result (v.Object c.args.target ∷ c.key_value-in-Get.result ∷
    c.in-Get.receiver ∷ []) c.listed-in-Get.ensures (changed-same home d a.ready)
    (three-held d home (v.Object c.args.target) c.key_value-in-Get.result c.in-Get.receiver (object-value d home
    c.args.target a.holds.0)
    (rw c.key_value-in-Get.ensures.is (key-value-held d home c.in-Get.key a.holds.1.0.within))
    a.holds.1.1.0)

pub returns-in-Set-clause-keeps : goal.returns-in-Set-clause-keeps
returns-in-Set-clause-keeps c =
    let d = c.args.w.now in
    let home = c.args.home in
    let a = rw c.in-Set.is at c.requires.acts in
    keeps-listed d d home c.listed-in-Set.result (v.Object c.args.target ∷ c.key_value-in-Set.result ∷ c.in-Set.value
    ∷ c.in-Set.receiver ∷ []) c.listed-in-Set.ensures (changed-same home d a.ready)
    (four-held d home (v.Object c.args.target) c.key_value-in-Set.result c.in-Set.value c.in-Set.receiver
    (object-value d home c.args.target a.holds.0)
    (rw c.key_value-in-Set.ensures.is (key-value-held d home c.in-Set.key a.holds.1.0.within))
    a.holds.1.1.0
    a.holds.1.1.1.0)

pub returns-in-Delete-clause-keeps : goal.returns-in-Delete-clause-keeps
returns-in-Delete-clause-keeps c =
    let d = c.args.w.now in
    let home = c.args.home in
    let a = rw c.in-Delete.is at c.requires.acts in
    keeps-listed d d home c.listed-in-Delete.result (v.Object c.args.target ∷ c.key_value-in-Delete.result ∷ [])
    c.listed-in-Delete.ensures (changed-same home d a.ready)
    (two-held d home (v.Object c.args.target) c.key_value-in-Delete.result (object-value d home c.args.target a.holds.0)
    (rw c.key_value-in-Delete.ensures.is (key-value-held d home c.in-Delete.key a.holds.1.0.within)))

pub returns-in-OwnPropertyKeys-clause-keeps : goal.returns-in-OwnPropertyKeys-clause-keeps
returns-in-OwnPropertyKeys-clause-keeps c =
    let d = c.args.w.now in
    let home = c.args.home in
    let a = rw c.in-OwnPropertyKeys.is at c.requires.acts in
    keeps-listed d d home c.listed-in-OwnPropertyKeys.result (v.Object c.args.target ∷ [])
    c.listed-in-OwnPropertyKeys.ensures (changed-same home d a.ready)
    (one-held d home (v.Object c.args.target) (object-value d home c.args.target a.holds.0))

pub returns-in_ok-array-in-Call-clause-gives : goal.returns-in_ok-array-in-Call-clause-gives
returns-in_ok-array-in-Call-clause-gives c =
    let d = c.args.w.now in
    let home = c.args.home in
    let a = rw c.in-Call.is at c.requires.acts in
    let d' = c.make_array.new.w in
    let id = c.in_ok-array-in-Call.array in
    let n = names_of d in
    let n' = names_of d' in
    let grows = c.in_ok-array-in-Call.ensures.makes.grew.grows in
    gives-made d home c.args.target c.args.method.now d' c.listed-in-Call.result (c.in-Call.this ∷ v.Object id ∷ []) id
    (make_array home.0 (values_in n c.in-Call.arguments))
    (λ (o : Val). Resolve n c.in-Call.this ∷ o ∷ [])
    (rw c.in-Call.is refl) (subst (λ (vs : List Value). Makes (Ok id) d d' (make_array home.0 (values_in n vs)))
    c.items.ensures c.in_ok-array-in-Call.ensures.makes)
    (ap (λ (x : Val). x ∷ object_in n' id ∷ [])
    (sym ((grown-agree d d' grows).value c.in-Call.this a.holds.1.0.within)))
    c.listed-in-Call.ensures

pub returns-in_ok-array-in-Call-clause-keeps : goal.returns-in_ok-array-in-Call-clause-keeps
returns-in_ok-array-in-Call-clause-keeps c =
    let d = c.args.w.now in
    let home = c.args.home in
    let a = rw c.in-Call.is at c.requires.acts in
    let d' = c.make_array.new.w in
    let id = c.in_ok-array-in-Call.array in
    let k = c.in_ok-array-in-Call.ensures.keeps in
    let h = holds-still home d d' a.ready k.changed (HeldObject c.args.target ∷ HeldValue c.in-Call.this ∷ [])
    (a.holds.0, (a.holds.1.0, tt)) in
    keeps-listed d d' home c.listed-in-Call.result (v.Object c.args.target ∷ c.in-Call.this ∷ v.Object id ∷ [])
    c.listed-in-Call.ensures k.changed
    (three-held d' home (v.Object c.args.target) c.in-Call.this (v.Object id) (object-value d' home c.args.target h.0)
    h.1.0
    (object-value d' home id k.holds.0))

pub returns-in_ok-array-in-Construct-clause-gives : goal.returns-in_ok-array-in-Construct-clause-gives
returns-in_ok-array-in-Construct-clause-gives c =
    let d = c.args.w.now in
    let home = c.args.home in
    let a = rw c.in-Construct.is at c.requires.acts in
    let d' = c.make_array-in-Construct.new.w in
    let id = c.in_ok-array-in-Construct.array in
    let n = names_of d in
    let n' = names_of d' in
    let grows = c.in_ok-array-in-Construct.ensures.makes.grew.grows in
    gives-made d home c.args.target c.args.method.now d' c.listed-in-Construct.result (v.Object id ∷
    c.in-Construct.target ∷ []) id
    (make_array home.0 (values_in n c.in-Construct.arguments))
    (λ (o : Val). o ∷ Resolve n c.in-Construct.target ∷ [])
    (rw c.in-Construct.is refl) (subst (λ (vs : List Value). Makes (Ok id) d d' (make_array home.0 (values_in n vs)))
    c.items-in-Construct.ensures c.in_ok-array-in-Construct.ensures.makes)
    (ap (λ (x : Val). object_in n' id ∷ x ∷ [])
    (sym ((grown-agree d d' grows).value c.in-Construct.target a.holds.1.1.0.within)))
    c.listed-in-Construct.ensures

pub returns-in_ok-array-in-Construct-clause-keeps : goal.returns-in_ok-array-in-Construct-clause-keeps
returns-in_ok-array-in-Construct-clause-keeps c =
    let d = c.args.w.now in
    let home = c.args.home in
    let a = rw c.in-Construct.is at c.requires.acts in
    let d' = c.make_array-in-Construct.new.w in
    let id = c.in_ok-array-in-Construct.array in
    let k = c.in_ok-array-in-Construct.ensures.keeps in
    let h = holds-still home d d' a.ready k.changed (HeldObject c.args.target ∷ HeldValue c.in-Construct.target ∷ [])
    (a.holds.0, (constructor-value d home c.in-Construct.target a.holds.1.1.0, tt)) in
    keeps-listed d d' home c.listed-in-Construct.result (v.Object c.args.target ∷ v.Object id ∷ c.in-Construct.target
    ∷ []) c.listed-in-Construct.ensures k.changed
    (three-held d' home (v.Object c.args.target) (v.Object id) c.in-Construct.target (object-value d' home
    c.args.target h.0)
    (object-value d' home id k.holds.0) h.1.0)
