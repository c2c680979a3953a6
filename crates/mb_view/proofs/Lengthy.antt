-- How many changes bring a view to another.
use Rattle.std.proofs.Common.{◌≡◌, ◌+◌, ◌≤◌, Bool, true, false, not, List, [], ◌∷◌, ◌++◌, map, length, refl, arith}
use Rattle.std.specs.List.{filter}
use Rattle.std.specs.Map.{keys_of}
use Rattle.std.proofs.lemmas.List.{length-append, length-map}
use Rattle.mb_desc.specs.Descriptors.{descriptor_of}
use Rattle.mb_desc.specs.declared.descriptor.Full.{Full}
use Rattle.mb_desc.specs.View.{View}
use Rattle.mb_view.specs.Views.{Sort}
use Rattle.mb_view.specs.Changes.{Change, Define, Remove}
use Rattle.mb_view.specs.Following.{stays, brought_by, definitions, prototype_if, prevention_unless, followed_by}

filtered : {X : Type 0} (test : X → Bool) (xs : List X) → length (filter test xs) ≤ length xs
filtered test [] = omega arith
filtered test (x ∷ xs) = by (test x) refl (filtered test xs)
  where
    by : (b : Bool) → test x ≡ b → length (filter test xs) ≤ length xs → length (filter test (x ∷ xs)) ≤ length (x ∷ xs)
    by true t less = rw t (omega (arith, less))
    by false t less = rw t (omega (arith, less))

one-prototype : (K : Type 0) {V : Type 0} (extensible : Bool) (prototype : V) → length (prototype_if {K = K} extensible prototype) ≤ 1
one-prototype K true prototype = omega arith
one-prototype K false prototype = omega arith

one-prevention : (K V : Type 0) (extensible : Bool) → length (prevention_unless {K = K} {V = V} extensible) ≤ 1
one-prevention K V true = omega arith
one-prevention K V false = omega arith

module _ {K V : Type 0} where
  pub brought-short : (stay : K → Bool) (old new : View K V) → length (brought_by stay old new) ≤ length old.properties + length new.properties + 2
  brought-short stay old new =
      let gone = filter (λ key. not (stay key)) (keys_of old.properties) in
      let last = prototype_if {K = K} old.extensible new.prototype ++ prevention_unless {K = K} {V = V} new.extensible in
      let a = length-append (map (λ (key : K). let change : Change K V = Remove key in change) gone) (definitions new.properties ++ last) in
      let b = length-map gone (λ (key : K). let change : Change K V = Remove key in change) in
      let c = filtered (λ key. not (stay key)) (keys_of old.properties) in
      let d = length-map old.properties (λ (entry : K × Full V). entry.0) in
      let e = length-append (definitions new.properties) last in
      let f = length-map new.properties (λ (entry : K × Full V). let change : Change K V = Define entry.0 (descriptor_of entry.1) entry.1 in change) in
      let g = length-append (prototype_if {K = K} old.extensible new.prototype) (prevention_unless {K = K} {V = V} new.extensible) in
      let h = one-prototype K old.extensible new.prototype in
      let i = one-prevention K V new.extensible in
      omega (arith, a, b, c, d, e, f, g, h, i)

  pub followed-short : (same_key : K → K → Bool) (sort_of : K → Sort) (old new : View K V) → length (followed_by same_key sort_of old new) ≤ length old.properties + length new.properties + 2
  followed-short same_key sort_of old new = brought-short (stays same_key sort_of old new) old new
