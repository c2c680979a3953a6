-- Proxy.revocable makes a Proxy, the function that revokes it, and the object that has both.
use Rattle.std.proofs.Common.{◌∙◌, ◌≡◌, Err, Ok, Result, ap, subst, sym, ℕ}
use Rattle.mb_base.specs.declared.value.ObjId.{ObjId}
use Rattle.mb_base.specs.declared.value.Side.{Side}
use Rattle.mb_frames.proofs.Going.{Makes-passes}
use Rattle.mb_frames.proofs.Passed.{Part-passed, Part-sure}
use Rattle.mb_frames.proofs.Steps.{Grew-then}
use Rattle.mb_frames.specs.Going.{Makes, paying}
use Rattle.mb_frames.specs.Passing.{Part, TextsGrew}
use Rattle.mb_frames.specs.Stepping.{Sure}
use Rattle.mb_frames.specs.declared.frame.Move.{Move}
use Rattle.mb_frames.specs.declared.machine.Halt.{Halt}
use Rattle.mb_frames.specs.declared.machine.Halt.TheVariants.{NoMemory, Spent as SpentHalt}
use Rattle.mb_model.specs.BuiltIns.ProxyMaking.{proxy_and_revoker, proxy_create, revoker_thing}
use Rattle.mb_model.specs.Meaning.{finished}
use Rattle.mb_model.specs.Task.{Answer}
use Rattle.mb_model.specs.Writing.{◌>>=◌, Does, Row, is_value, make}
use Rattle.mb_parts.proofs.Writing.{Grew-texts}
use Rattle.mb_world.specs.Data.{Data}
use Rattle.mb_world.specs.Graph.{Graph, Thing}
use Rattle.mb_world.specs.Ids.{ObjIn}
use Rattle.mb_world.specs.Image.{Image, names_of, object_in}
use Rattle.mb_world.specs.Value.{Val}

-- what goes on with the Proxy
abbrev pub with_revoker : ℕ → Val → Does Answer
with_revoker s p = make (revoker_thing s p) >>= (λ r. make (proxy_and_revoker s p r) >>= is_value)

pub Part-pair : (home : Side) (d d1 d2 d3 : Data) (t h : Val) (proxy revoker pair : ObjId) (m : Move) (f : ℕ)
    → ObjIn d1 proxy → Makes (Ok proxy) d d1 (proxy_create home.0 t h)
    → Makes (Ok revoker) d1 d2 (make (revoker_thing home.0 (object_in (names_of d1) proxy)))
    → Makes (Ok pair) d2 d3
    (make (proxy_and_revoker home.0 (object_in (names_of d2) proxy) (object_in (names_of d2) revoker)))
    → Sure home d3 (is_value (object_in (names_of d3) pair) finished) m
    → Part home (Ok m) d d3 f f ((proxy_create home.0 t h >>= with_revoker home.0) finished)
Part-pair home d d1 d2 d3 t h proxy revoker pair m f i a b c q =
    let s : ℕ = home.0 in
    let p1 : Val = object_in (names_of d1) proxy in
    let r2 : Val = object_in (names_of d2) revoker in
    let o3 : Val = object_in (names_of d3) pair in
    let last : Val → Graph → Row = λ r. (make (proxy_and_revoker s p1 r) >>= is_value) finished in
    let e : object_in (names_of d2) proxy ≡ p1 = b.grew.grows.same_object proxy i in
    let c' : Makes (Ok pair) d2 d3 (make (proxy_and_revoker s p1 r2))
    = subst (λ (x : Val). Makes (Ok pair) d2 d3 (make (proxy_and_revoker s x r2))) e c in
    Part-passed home (Ok m) d d1 d3 f f f ((proxy_create s t h >>= with_revoker s) finished)
    (with_revoker s p1 finished)
    (Makes-passes d d1 f (proxy_create s t h) proxy (λ p. with_revoker s p finished) a)
    (Part-passed home (Ok m) d1 d2 d3 f f f (with_revoker s p1 finished) (last r2)
    (Makes-passes d1 d2 f (make (revoker_thing s p1)) revoker last b)
    (Part-passed home (Ok m) d2 d3 d3 f f f (last r2) (is_value o3 finished)
    (Makes-passes d2 d3 f (make (proxy_and_revoker s p1 r2)) pair (λ o. is_value o finished) c')
    (Part-sure home d3 f (is_value o3 finished) m q)))

-- texts were added first
pub makes-texts : (r : Result ObjId Halt) (d d' e : Data) (t u : Thing) → TextsGrew d d' → u ≡ t
    → Makes r d' e (make u) → Makes r d e (make t)
makes-texts (Ok id) d d' e t u g same q = record {
  units = q.units;
  paid = q.paid;
  same = λ k log.
      ap (λ (x : Thing). make x k (Image d log)) (sym same)
      ∙ ap (make u k) (sym (g.becomes.image log))
      ∙ q.same k log
      ∙ ap (λ (z : Graph). paying q.units z (k (object_in (names_of e) id) (Image e log))) (g.becomes.image log);
  trace = q.trace ∙ g.trace;
  grew = Grew-then d d' e (Grew-texts d d' g) q.grew;
}
makes-texts (Err SpentHalt) d d' e t u g same q = q
makes-texts (Err NoMemory) d d' e t u g same q = tt
