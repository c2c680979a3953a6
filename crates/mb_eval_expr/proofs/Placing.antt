-- Places once their keys are there, in a world with more texts.
use Rattle.std.proofs.Common.{List, None, Some, ap, subst, sym, ◌∙◌, ◌≡◌}
use Rattle.mb_base.specs.declared.value.Side.{Side}
use Rattle.mb_base.specs.declared.value.Value.{Value}
use Rattle.mb_frames.proofs.Forms.{context-grows, forms-grow}
use Rattle.mb_frames.specs.Passing.{TextsGrew}
use Rattle.mb_frames.specs.Real.{HasRealNames}
use Rattle.mb_frames.specs.Resolved.{context_in}
use Rattle.mb_frames.specs.Rest.Expressions.{after_rest}
use Rattle.mb_frames.specs.Standing.{forms_at}
use Rattle.mb_frames.specs.Stepping.{Grew}
use Rattle.mb_frames.specs.declared.expressions.After.{After}
use Rattle.mb_frames.specs.declared.task.Context.{Context}
use Rattle.mb_model.specs.Meaning.{finished}
use Rattle.mb_model.specs.Nodes.References.{ToPlace, index_key_got}
use Rattle.mb_model.specs.Writing.{◌>>=◌, or_type_error, type_error}
use Rattle.mb_world.proofs.Images.{value-grows}
use Rattle.mb_world.specs.Data.{Data}
use Rattle.mb_world.specs.Graph.{Item}
use Rattle.mb_world.specs.Ids.{HasItsIds, ValueIn}
use Rattle.mb_world.specs.Image.{Image, Resolve, names_of}
use Rattle.mb_world.specs.Key.{PropertyKey, key_of}
use Rattle.mb_world.specs.Value.{Val}

pub HasRealNames-texts : (d d' : Data) → TextsGrew d d' → HasRealNames d → HasRealNames d'
HasRealNames-texts d d' t h = subst HasRealNames (sym t.texts) h

-- the value is a key
pub keyed : (d : Data) (home : Side) (at : Context) (after : After) (base y : Val) (key : PropertyKey)
    → key_of y ≡ Some key
    → (log : List Item)
    → (index_key_got (context_in (names_of d) home.0 at) base y
    >>= after_rest (forms_at d home) (context_in (names_of d) home.0 at) after) finished (Image d log)
    ≡ after_rest (forms_at d home) (context_in (names_of d) home.0 at) after (ToPlace base key) finished (Image d log)
keyed d home at after base y key e log =
    ap (λ o. (or_type_error home.0 o
    >>= (λ k. after_rest (forms_at d home) (context_in (names_of d) home.0 at) after (ToPlace base k))) finished
    (Image d log)) e

-- it is none
pub unkeyed : (d : Data) (home : Side) (at : Context) (after : After) (base y : Val) → key_of y ≡ None
    → (log : List Item)
    → (index_key_got (context_in (names_of d) home.0 at) base y
    >>= after_rest (forms_at d home) (context_in (names_of d) home.0 at) after) finished (Image d log)
    ≡ type_error home.0 finished (Image d log)
unkeyed d home at after base y e log =
    ap (λ o. (or_type_error home.0 o
    >>= (λ k. after_rest (forms_at d home) (context_in (names_of d) home.0 at) after (ToPlace base k))) finished
    (Image d log)) e

-- what follows a place is the same in a world that grew
pub after-grows : (d d' : Data) (home : Side) (at : Context) (after : After) → HasItsIds d → Grew d d'
    → ValueIn d at.this
    → (base : Value) → ValueIn d base → (key : PropertyKey) (log : List Item)
    → after_rest (forms_at d' home) (context_in (names_of d') home.0 at) after
    (ToPlace (Resolve (names_of d') base) key) finished (Image d log)
    ≡ after_rest (forms_at d home) (context_in (names_of d) home.0 at) after
    (ToPlace (Resolve (names_of d) base) key) finished (Image d log)
after-grows d d' home at after i g h base b key log =
    ap (λ fs. after_rest fs (context_in (names_of d') home.0 at) after (ToPlace (Resolve (names_of d') base) key)
    finished (Image d log)) (forms-grow d d' home i g)
    ∙ ap (λ c. after_rest (forms_at d home) c after (ToPlace (Resolve (names_of d') base) key) finished
    (Image d log)) (context-grows d d' home at h g)
    ∙ ap (λ y. after_rest (forms_at d home) (context_in (names_of d) home.0 at) after (ToPlace y key) finished
    (Image d log)) (value-grows d d' g.grows base b)
