-- Values are stored in an array that was made.
use Rattle.std.proofs.Common.{◌+◌, ◌++◌, ◌<◌, ◌^◌, ◌∙◌, ◌∷◌, ◌≡◌, List, Option, [], ap, arith, get_or, length, subst}
use Rattle.std.proofs.Common.{sym, take, true, ℕ}
use Rattle.std.proofs.lemmas.List.{length-map, length-take-le, map-append, take_more}
use Rattle.mb_arrayapi.proofs.ArrayMade.{altered-last}
use Rattle.mb_arrayapi.proofs.Elements.{stored-behind}
use Rattle.mb_arrayapi.specs.machine.Making.{Made}
use Rattle.mb_base.specs.declared.value.ObjId.{ObjId}
use Rattle.mb_base.specs.declared.value.Side.{Side}
use Rattle.mb_base.specs.declared.value.Value.{Value}
use Rattle.mb_frames.proofs.HeldLess.{values-each}
use Rattle.mb_frames.proofs.Leaving.{holds-still}
use Rattle.mb_frames.specs.Held.{HeldArray, HeldValue, HeldValues}
use Rattle.mb_frames.specs.Ready.{Changed, Holds, IsReady, MayHold}
use Rattle.mb_frames.specs.Resolved.{values_in}
use Rattle.mb_world.proofs.Images.{value-grows}
use Rattle.mb_frames.proofs.Steps.{Grew-then}
use Rattle.mb_frames.proofs.Throwing.{last-there}
use Rattle.mb_frames.specs.Going.{WentOn, paying}
use Rattle.mb_model.specs.Engine.{Ret}
use Rattle.mb_model.specs.Meaning.{finished}
use Rattle.mb_model.specs.Objects.Methods.{settled, store_element, stored_in}
use Rattle.mb_model.specs.Operations.Makings.{array_thing}
use Rattle.mb_model.specs.Task.{Answer, Flag, Normal}
use Rattle.mb_model.specs.Writing.{with_object}
use Rattle.mb_world.specs.Data.{Data}
use Rattle.mb_world.specs.Graph.{Graph, Item, Thing}
use Rattle.mb_world.specs.Ids.{ObjIn}
use Rattle.mb_world.specs.Image.{Image, Resolve, names_of, object_in}
use Rattle.mb_world.specs.Ordinary.{Defined}
use Rattle.mb_world.specs.Value.{Object, Val}

module _ (s side : ℕ) (p : Val) (n : ℕ) (xs : List Val) (x : Val) (inside : length xs < n) (small : n < 2 ^ 32) where
  abbrev t : Thing
  t = array_thing s p n xs

  abbrev u : Thing
  u = array_thing s p n (xs ++ (x ∷ []))

  -- in the graph
  stored-last : (g : Graph)
      → store_element side (Object (length g.objects)) (length xs) x finished (with_object t g)
      ≡ Ret (Normal (Flag true)) (with_object u g)
  stored-last g =
      let o : Val = Object (length g.objects) in
      ap (λ (y : Option Thing). stored_in side o (length xs) x y finished (with_object t g)) (last-there g.objects t)
      ∙ ap (λ (y : Defined). settled side o y finished (with_object t g)) (stored-behind s p n xs x inside small)
      ∙ ap (λ (h : Graph). Ret (Normal (Flag true)) h) (altered-last g t u)

  module _ (d d1 d2 : Data) (id : ObjId) (q : Made d d1 s p n xs id) (o : ObjIn d1 id) (a : Answer)
      (w : WentOn Answer d1 d2 0 0 (store_element side (object_in (names_of d1) id) (length xs) x) a) where
    next-image : (log : List Item) → Image d2 log ≡ with_object u (Image d log)
    next-image log =
        let e : w.units ≡ 0 = omega (arith, w.paid) in
        let h : Ret (Normal (Flag true)) (with_object u (Image d log)) ≡ Ret (Normal a) (Image d2 log)
        = sym (stored-last (Image d log))
        ∙ ap (λ (v : Val). store_element side v (length xs) x finished (with_object t (Image d log)))
        (sym (q.number log))
        ∙ ap (store_element side (object_in (names_of d1) id) (length xs) x finished) (sym (q.image log))
        ∙ w.same finished log
        ∙ ap (λ (k : ℕ). paying k (Image d1 log) (finished a (Image d2 log))) e in
        cc

    pub next-made : Made d d2 s p n (xs ++ (x ∷ [])) id
    next-made = record {
      grew = Grew-then d d1 d2 q.grew w.grew;
      trace = w.trace ∙ q.trace;
      image = next-image;
      number = λ log. w.grew.grows.same_object id o ∙ q.number log;
    }

-- ---- one value after the other

module _ (d0 d1 : Data) (home : Side) (id : ObjId) (list : List Value) (k : ℕ) (default : Value) (l : k < length list)
    (r : IsReady d0) (h : Holds d0 home (HeldArray id ∷ HeldValues list ∷ [])) (c : Changed home d0 d1) where
  abbrev it : Value
  it = get_or list k default

  its-value : MayHold d0 home (HeldValue it)
  its-value = values-each d0 home list h.1.0 k default l

  pub element-held : Holds d1 home (HeldArray id ∷ HeldValue it ∷ [])
  element-held = holds-still home d0 d1 r c (HeldArray id ∷ HeldValue it ∷ []) (h.0, (its-value, tt))

  pub fill-next : (d2 : Data) (s : ℕ) (p : Val) (a : Answer) (d : Data) → length list < 2 ^ 32
      → Made d d1 s p (length list) (values_in (names_of d0) (take k list)) id
      → WentOn Answer d1 d2 0 0 (store_element home.0 (object_in (names_of d1) id) k (Resolve (names_of d1) it)) a
      → Made d d2 s p (length list) (values_in (names_of d0) (take (k + 1) list)) id
  fill-next d2 s p a d small q w =
      let xs : List Val = values_in (names_of d0) (take k list) in
      let v : Val = Resolve (names_of d0) it in
      let e : length xs ≡ k
      = length-map (take k list) (Resolve (names_of d0)) ∙ length-take-le k list (omega (arith, l)) in
      let o : Val = object_in (names_of d1) id in
      let w1 : WentOn Answer d1 d2 0 0 (store_element home.0 o k v) a
      = subst (λ (y : Val). WentOn Answer d1 d2 0 0 (store_element home.0 o k y) a)
      (value-grows d0 d1 c.found.grew.grows it its-value.within) w in
      let w2 : WentOn Answer d1 d2 0 0 (store_element home.0 o (length xs) v) a
      = subst (λ (m : ℕ). WentOn Answer d1 d2 0 0 (store_element home.0 o m v) a) (sym e) w1 in
      let more : xs ++ (v ∷ []) ≡ values_in (names_of d0) (take (k + 1) list)
      = sym (ap (values_in (names_of d0)) (take_more list k default l)
      ∙ map-append (Resolve (names_of d0)) (take k list) (it ∷ [])) in
      subst (λ (ys : List Val). Made d d2 s p (length list) ys id) more
      (next-made s home.0 p (length list) xs v (omega (arith, e, l)) small d d1 d2 id q element-held.0.within a w2)
