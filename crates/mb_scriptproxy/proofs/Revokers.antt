-- What Proxy.revocable makes beside the Proxy: the function that revokes it, and the object that has both.
use Rattle.std.proofs.Common.{lit<, ◌-◌, ◌<◌, ◌^◌, ◌∙◌, ◌∷◌, ◌≡◌, ◌≤◌, List, None, Option, Result, Some, [], ap, arith}
use Rattle.std.proofs.Common.{false, refl, subst, true, ℕ}
use Rattle.std.proofs.lemmas.List.Elements.{All-nil}
use Rattle.std.specs.Prelude.{codes, length, pos}
use Rattle.mb_base.specs.declared.value.ObjId.{ObjId}
use Rattle.mb_base.specs.declared.value.Side.{Side}
use Rattle.mb_base.specs.declared.value.StrId.{StrId}
use Rattle.mb_base.specs.declared.value.Value.{Value}
use Rattle.mb_base.specs.declared.value.Value.TheVariants as v
use Rattle.mb_desc.specs.declared.descriptor.Full.TheVariants.{Datum}
use Rattle.mb_desc.specs.declared.descriptor.Full.{Full}
use Rattle.mb_frames.proofs.Constructing.{plain-made}
use Rattle.mb_frames.proofs.HeldLess.{object-value, text-value-held, value-datum, whole-held}
use Rattle.mb_frames.proofs.Leaving.{holds-still}
use Rattle.mb_frames.proofs.Putting.{no-length, no-name}
use Rattle.mb_frames.specs.Held.{HeldFull, HeldObject, HeldPrototype}
use Rattle.mb_frames.specs.Keeping.{KeepsOn, none_held}
use Rattle.mb_frames.specs.Making.{IsOpen, Put}
use Rattle.mb_frames.specs.Ready.{Changed, IsMade, IsReady, MayHold}
use Rattle.mb_frames.specs.declared.machine.Halt.{Halt}
use Rattle.mb_model.specs.BuiltIns.ProxyMaking.{proxy_and_revoker, revoker_thing}
use Rattle.mb_scriptproxy.proofs.Revoked.{its-number}
use Rattle.mb_scriptproxy.proofs.Standing.{Stands, put-changed, stands-made, stands-put}
use Rattle.mb_scriptproxy.specs.Ours.{IsProxy}
use Rattle.mb_text.proofs.Indices.{no_index_by_digits}
use Rattle.mb_text.specs.Index.{index_of}
use Rattle.mb_world.proofs.Grow.{TextIn-grows}
use Rattle.mb_world.specs.Data.{Data, cell_at, made}
use Rattle.mb_world.specs.Formed.{InRange, IsProxyKind}
use Rattle.mb_world.specs.Graph.{Plain, Revoker, Thing}
use Rattle.mb_world.specs.Grows.{Grows}
use Rattle.mb_world.specs.Ids.{TextIn}
use Rattle.mb_world.specs.Image.{Resolve, full_in, names_of, number_at, object_in, text_in}
use Rattle.mb_world.specs.Key.{Named}
use Rattle.mb_world.specs.Objects.{new_thing, with_property}
use Rattle.mb_world.specs.Property.{open_property}
use Rattle.mb_world.specs.Standard.{function_prototype, object_prototype}
use Rattle.mb_world.specs.Value.{Object, Text, Val, Whole}
use Rattle.mb_world.specs.declared.cell.Cell.{Cell}
use Rattle.mb_world.specs.declared.cell.CellKind.{CellKind}
use Rattle.mb_world.specs.declared.cell.CellKind.TheVariants as kind

pub no-proxy : index_of (112 ∷ 114 ∷ 111 ∷ 120 ∷ 121 ∷ []) ≡ 2 ^ 32 - 1
no-proxy =
    no_index_by_digits (112 ∷ 114 ∷ 111 ∷ 120 ∷ 121 ∷ [])
    (λ h. let q = h 0 (lit< tt) in let z : 112 ≤ 57 = q.1 in omega arith)

pub no-revoke : index_of (114 ∷ 101 ∷ 118 ∷ 111 ∷ 107 ∷ 101 ∷ []) ≡ 2 ^ 32 - 1
no-revoke =
    no_index_by_digits (114 ∷ 101 ∷ 118 ∷ 111 ∷ 107 ∷ 101 ∷ [])
    (λ h. let q = h 0 (lit< tt) in let z : 114 ≤ 57 = q.1 in omega arith)

-- ---- things

revoker-is : (s number : ℕ) (p proto : Val) (text : List ℕ) → text ≡ [] → proto ≡ function_prototype → p ≡ Object number
    → with_property (Named (codes "name")) (Datum (Text text) false false true)
    (with_property (Named (codes "length")) (Datum (Whole (pos 0)) false false true)
    (new_thing s None (Revoker number) proto))
    ≡ revoker_thing s p
revoker-is s number p proto text t e q = rw (t, e, q) refl

pair-is : (s : ℕ) (p f x y proto : Val) → x ≡ p → y ≡ f → proto ≡ object_prototype
    → with_property (Named (codes "revoke")) (open_property y)
    (with_property (Named (codes "proxy")) (open_property x) (new_thing s None Plain proto))
    ≡ proxy_and_revoker s p f
pair-is s p f x y proto a b e = rw (a, b, e) refl

-- ---- the function

revoker-made : (d : Data) (home : Side) (proxy : ObjId) (proto : Value) → MayHold d home (HeldObject proxy)
    → IsProxy (cell_at d proxy) → MayHold d home (HeldPrototype proto)
    → IsMade d home (kind.Revoker proxy) proto None
revoker-made d home proxy proto h w p = record {
  counted = refl;
  kind_in = h.within;
  proto_in = p.within;
  label_in = tt;
  prototype = p.sound;
  wholes = All-nil InRange;
  kind = w;
  unlabelled = λ e. refl;
  kind_own = h.own;
  proto_own = p.own;
}

proxy-number : (d : Data) (r : IsReady d) (id : ObjId) (o : Option Cell) → cell_at d id ≡ o → IsProxy o
    → object_in (names_of d) id ≡ Object (number_at (names_of d) id.0)
proxy-number d r id None e w = absurd w
proxy-number d r id (Some c) e w = by c.kind refl w
  where
    by : (y : CellKind) → c.kind ≡ y → IsProxyKind y → object_in (names_of d) id ≡ Object (number_at (names_of d) id.0)
    by (kind.Proxy target handler s) k u = its-number d r id c e target handler s k
    by _ k u = absurd u

module _ (d d1 : Data) (home : Side) (proxy id : ObjId) (proto : Value) (r : IsReady d) (inside : home.0 < d.sides)
    (h : MayHold d home (HeldObject proxy)) (w : IsProxy (cell_at d proxy)) (p : MayHold d home (HeldPrototype proto))
    (is : Resolve (names_of d) proto ≡ function_prototype) (e : d1 ≡ made d home (kind.Revoker proxy) proto None)
    (number : id.0 ≡ length d.cells) where
  abbrev first-thing : Thing
  first-thing = new_thing home.0 None (Revoker (number_at (names_of d) proxy.0)) (Resolve (names_of d) proto)

  revoker-first : Stands d d1 home id first-thing
  revoker-first = stands-made d d1 home (kind.Revoker proxy) proto id r inside refl refl
      (revoker-made d home proxy proto h w p) e number

  pub revoker-open : IsOpen d1 home id
  revoker-open = revoker-first.opened

  module _ (d2 : Data) (x : Full Value) (u : x ≡ Datum (v.Whole (pos 0)) false false true) (a : Result (Unit {0}) Halt)
      (k : KeepsOn home (HeldFull x ∷ []) none_held a d1 d2) where
    length-held : MayHold d1 home (HeldFull x)
    length-held = rw u (value-datum d1 home (v.Whole (pos 0)) false false true (whole-held d1 home (pos 0) refl))

    pub revoker-second : Changed home d d2
    revoker-second = put-changed d d1 d2 home id first-thing (codes "length") x inside revoker-first length-held a k

    module _ (q : Put d1 d2 id (codes "length") x) (o : IsOpen d2 home id) where
      abbrev second-thing : Thing
      second-thing = with_property (Named (codes "length")) (full_in (names_of d1) x) first-thing

      with-length : Stands d d2 home id second-thing
      with-length =
          stands-put d d1 d2 home id first-thing (codes "length") x inside revoker-first length-held a no-length q k o

      module _ (name : StrId) (there : TextIn d name) (empty : text_in (names_of d) name ≡ []) (d3 : Data)
          (y : Full Value) (z : y ≡ Datum (v.Text name) false false true) (b : Result (Unit {0}) Halt)
          (l : KeepsOn home (HeldFull y ∷ []) none_held b d2 d3) where
        grown : Grows d d2
        grown = with-length.last.grew.grows

        name-held : MayHold d2 home (HeldFull y)
        name-held = rw z (value-datum d2 home (v.Text name) false false true
            (text-value-held d2 home name (TextIn-grows d d2 grown name there)))

        pub revoker-third : Changed home d d3
        revoker-third = put-changed d d2 d3 home id second-thing (codes "name") y inside with-length name-held b l

        module _ (s : Put d2 d3 id (codes "name") y) (t : IsOpen d3 home id) where
          with-name : Stands d d3 home id
              (with_property (Named (codes "name")) (full_in (names_of d2) y) second-thing)
          with-name =
              stands-put d d2 d3 home id second-thing (codes "name") y inside with-length name-held b no-name s l t

          pub revoker-stands : Stands d d3 home id (revoker_thing home.0 (object_in (names_of d) proxy))
          revoker-stands =
              subst (Stands d d3 home id)
              (ap (λ (m : Full Value). with_property (Named (codes "name")) (full_in (names_of d2) m) second-thing) z
              ∙ ap (λ (m : Full Value). with_property (Named (codes "name"))
              (Datum (Text (text_in (names_of d2) name)) false false true)
              (with_property (Named (codes "length")) (full_in (names_of d1) m) first-thing)) u
              ∙ revoker-is home.0 (number_at (names_of d) proxy.0) (object_in (names_of d) proxy)
              (Resolve (names_of d) proto) (text_in (names_of d2) name) (grown.same_text name there ∙ empty) is
              (proxy-number d r proxy (cell_at d proxy) refl w)) with-name

-- ---- the object

module _ (d d1 : Data) (home : Side) (proxy revoker id : ObjId) (proto : Value) (r : IsReady d)
    (inside : home.0 < d.sides) (h : MayHold d home (HeldObject proxy)) (w : MayHold d home (HeldObject revoker))
    (p : MayHold d home (HeldPrototype proto)) (is : Resolve (names_of d) proto ≡ object_prototype)
    (e : d1 ≡ made d home kind.Plain proto None) (number : id.0 ≡ length d.cells) where
  abbrev plain-thing : Thing
  plain-thing = new_thing home.0 None Plain (Resolve (names_of d) proto)

  pair-first : Stands d d1 home id plain-thing
  pair-first =
      stands-made d d1 home kind.Plain proto id r inside refl refl (plain-made d home proto p) e number

  pub pair-open : IsOpen d1 home id
  pair-open = pair-first.opened

  module _ (d2 : Data) (x : Full Value) (u : x ≡ open_property (v.Object proxy)) (a : Result (Unit {0}) Halt)
      (k : KeepsOn home (HeldFull x ∷ []) none_held a d1 d2) where
    pub proxy-held : MayHold d1 home (HeldFull x)
    proxy-held =
        rw u (value-datum d1 home (v.Object proxy) true true true
        (object-value d1 home proxy
        (holds-still home d d1 r pair-first.changed (HeldObject proxy ∷ []) (h, tt)).0))

    pub pair-second : Changed home d d2
    pair-second = put-changed d d1 d2 home id plain-thing (codes "proxy") x inside pair-first proxy-held a k

    module _ (q : Put d1 d2 id (codes "proxy") x) (o : IsOpen d2 home id) where
      abbrev with-thing : Thing
      with-thing = with_property (Named (codes "proxy")) (full_in (names_of d1) x) plain-thing

      with-proxy : Stands d d2 home id with-thing
      with-proxy =
          stands-put d d1 d2 home id plain-thing (codes "proxy") x inside pair-first proxy-held a no-proxy q k o

      module _ (d3 : Data) (y : Full Value) (z : y ≡ open_property (v.Object revoker)) (b : Result (Unit {0}) Halt)
          (l : KeepsOn home (HeldFull y ∷ []) none_held b d2 d3) where
        pub revoker-held : MayHold d2 home (HeldFull y)
        revoker-held =
            rw z (value-datum d2 home (v.Object revoker) true true true
            (object-value d2 home revoker
            (holds-still home d d2 r with-proxy.changed (HeldObject revoker ∷ []) (w, tt)).0))

        pub pair-third : Changed home d d3
        pair-third = put-changed d d2 d3 home id with-thing (codes "revoke") y inside with-proxy revoker-held b l

        module _ (s : Put d2 d3 id (codes "revoke") y) (t : IsOpen d3 home id) where
          with-revoke : Stands d d3 home id
              (with_property (Named (codes "revoke")) (full_in (names_of d2) y) with-thing)
          with-revoke =
              stands-put d d2 d3 home id with-thing (codes "revoke") y inside with-proxy revoker-held b no-revoke s l t

          pub pair-stands : Stands d d3 home id
              (proxy_and_revoker home.0 (object_in (names_of d) proxy) (object_in (names_of d) revoker))
          pair-stands =
              subst (Stands d d3 home id)
              (ap (λ (m : Full Value). with_property (Named (codes "revoke")) (full_in (names_of d2) m) with-thing) z
              ∙ ap (λ (m : Full Value). with_property (Named (codes "revoke"))
              (open_property (object_in (names_of d2) revoker))
              (with_property (Named (codes "proxy")) (full_in (names_of d1) m) plain-thing)) u
              ∙ pair-is home.0 (object_in (names_of d) proxy) (object_in (names_of d) revoker)
              (object_in (names_of d1) proxy) (object_in (names_of d2) revoker) (Resolve (names_of d) proto)
              (pair-first.last.grew.grows.same_object proxy h.within)
              (with-proxy.last.grew.grows.same_object revoker w.within) is) with-revoke
