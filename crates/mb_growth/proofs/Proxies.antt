-- What a method of a script-made Proxy answers passes at some moment before it ends.
use Rattle.std.proofs.Common.{◌≡◌, ℕ, zero, suc, Bool, true, false, not, List, [], ◌∷◌, Option, Some, slice_get, refl, sym, ◌∙◌, subst, if◌then◌else◌}
use Rattle.std.proofs.lemmas.Option.{same_Some}
use Rattle.mb_desc.specs.View.{View}
use Rattle.mb_world.specs.declared.cell.ErrorKind.TheVariants.{TypeError}
use Rattle.mb_world.specs.declared.cell.Shape.{Shape}
use Rattle.mb_world.specs.Value.{Val, Undefined, Object, is_object, is_nullish}
use Rattle.mb_world.specs.Key.{PropertyKey, Named, value_of_key}
use Rattle.mb_world.specs.EntryLine.{op_name}
use Rattle.mb_world.specs.Graph.{Graph, Thing, Kind, Proxy}
use Rattle.mb_world.specs.Objects.{is_callable}
use Rattle.mb_world.specs.View.{Shown, is_cut, owner_or}
use Rattle.mb_model.specs.Engine.{Gives, Spent, by, exec, given}
use Rattle.mb_model.specs.Task.{Perform, Answer, Value, Method, GetPrototypeOf, SetPrototypeOf, IsExtensible, PreventExtensions, GetOwnProperty, DefineOwnProperty, HasProperty, Get, Set, Delete, OwnPropertyKeys, Call, Construct, Outcome, Normal}
use Rattle.mb_model.specs.Fitting.{FitsMethod}
use Rattle.mb_model.specs.Writing.{Does, ◌>>=◌, give, answer, type_error}
use Rattle.mb_model.specs.Operations.Calls.{get, list_of}
use Rattle.mb_model.specs.Operations.Makings.{make_array}
use Rattle.mb_model.specs.Operations.Descriptors.{todesc, fromdesc}
use Rattle.mb_model.specs.Objects.Rules as rule
use Rattle.mb_model.specs.Objects.Proxies.{prototype_said, set_prototype_said, extensible_said, prevent_said, own_converted, own_present_said, own_said, define_said, has_said, get_said, set_said, delete_said, as_keys, keys_listed, keys_said, construct_said, trap_value, trap_flag, trapped, call_trap, trap_got, proxy_method}
use Rattle.mb_model.specs.Trace.Ops.{op_of}
use Rattle.mb_model.specs.Trace.Entries.{makes_entry, method_noted}
use Rattle.mb_model.specs.Meaning.{perform_kind, perform_thing, perform_row, finished, entries_made, row, Ends}
use Rattle.mb_model.proofs.Engine.{given-row}
use Rattle.mb_model.proofs.Kept.Words.{Along, Gets, At, gets-after, gets-fail}
use Rattle.mb_model.proofs.Kept.Made.{keeps-fromdesc}
use Rattle.mb_model.proofs.Kept.Descriptors.{keeps-todesc}
use Rattle.mb_model.proofs.Kept.OperationsCalls.{keeps-get, keeps-list_of}
use Rattle.mb_model.proofs.Kept.OperationsMakings.{keeps-make_array}
use Rattle.mb_model.proofs.Kept.ObjectsProxies.{keeps-trap_value, keeps-trap_flag}
use Rattle.mb_model.proofs.Kept.Rows.{EndOwed, exec-owed, entering-holds}
use Rattle.mb_growth.specs.Later.{AreFormed}
use Rattle.mb_growth.specs.Answered.{EntryPasses, PassesAsItEnds, PassesAtMoment, EndBetween, ProxyEntriesPass, ProxiesPass}
use Rattle.mb_growth.proofs.Graphs.{stays-later}
use Rattle.mb_growth.proofs.Reading.{Reaches, reaches-on, Owes, owes-now, answering, does-so}
use Rattle.mb_growth.proofs.Tails.{gets-give, gets-unless, gets-answer, Owed, IsTarget, later-target, gets-judged, gets-prototype_said, gets-set_prototype_said, gets-extensible_said, gets-prevent_said, gets-own_said_absent, gets-has_said, gets-delete_said}
use Rattle.mb_growth.proofs.Keyed.{gets-get_said, gets-set_said, gets-define_said, gets-own_converted, gets-keys_listed}

-- ---- the trap is called

module _ (p : ℕ) (k : Val) (b : Graph) (u : Thing) (t : IsTarget k b u) where
  -- the target, once something else was done
  abbrev Going : Method → Graph → Does Answer → Type 0
  Going m g f = Gets (answering p k m) (Owed p k m b) g f

  gets-through : {A : Type 0} (m : Method) (g : Graph) (part : Does A) (f : A → Does Answer) → Reaches b g → At (answering p k m) g part
      → ((a : A) (h : Graph) (w : Thing) → IsTarget k h w → Reaches b h → Going m h (f a)) → Going m g (part >>= f)
  gets-through m g part f reach goes more =
      gets-after (answering p k m) (Owed p k m b) g part f goes
      (λ a h q.
      let there : Reaches b h = reaches-on b g h reach q.1 in
      let w = later-target k b h u t there in
      more a h w.0 w.1 there)

  gets-own_said : (i : PropertyKey) (said : Val) (g : Graph) (w : Thing) → IsTarget k g w → Reaches b g
      → Going (GetOwnProperty i) g (own_said p k i said)
  gets-own_said i Undefined g w target reach = gets-own_said_absent p k b g w target reach i
  gets-own_said i said g w target reach = by (is_object said)
    where
      by : (c : Bool) → Going (GetOwnProperty i) g (if c then own_present_said p k i said else type_error p)
      by true =
          gets-through (GetOwnProperty i) g (todesc p said) (λ d. own_converted p k i d) reach
          ((keeps-todesc (answering p k (GetOwnProperty i)) p said).goes g)
          (λ d h x at there. gets-own_converted p k b h x at there i d)
      by false = gets-fail (answering p k (GetOwnProperty i)) (Owed p k (GetOwnProperty i) b) g p TypeError

  gets-called : (m : Method) (a : Answer) (g : Graph) → Reaches b g → ((view : View PropertyKey Val) → EntryPasses m (Normal a) view)
      → Going m g (give a)
  gets-called m a g reach passes =
      gets-give (answering p k m) (Owed p k m b) g a (owes-now p k m b g (Normal a) reach (λ w at. passes (Shown g p w)))

  gets-construct_said : (vs : List Val) (target said : Val) (g : Graph) → Reaches b g
      → Going (Construct vs target) g (construct_said p said)
  gets-construct_said vs target said g reach =
      gets-judged p k (Construct vs target) b g (rule.construct said) (Value said)
      (λ pass. owes-now p k (Construct vs target) b g (Normal (Value said)) reach (λ w at. tt))

  gets-trapped : (h trap : Val) (m : Method) (g : Graph) → Reaches b g → Going m g (trapped p k h trap m)
  gets-trapped h trap GetPrototypeOf g reach =
      gets-through GetPrototypeOf g (trap_value p k h trap []) (λ said. prototype_said p k said) reach
      ((keeps-trap_value (answering p k GetPrototypeOf) p k h trap []).goes g)
      (λ said i w at there. gets-prototype_said p k b i w at there said)
  gets-trapped h trap (SetPrototypeOf given) g reach =
      gets-through (SetPrototypeOf given) g (trap_flag p k h trap (given ∷ [])) (λ said. set_prototype_said p k given said) reach
      ((keeps-trap_flag (answering p k (SetPrototypeOf given)) p k h trap (given ∷ [])).goes g)
      (λ said i w at there. gets-set_prototype_said p k b i w at there given said)
  gets-trapped h trap IsExtensible g reach =
      gets-through IsExtensible g (trap_flag p k h trap []) (λ said. extensible_said p k said) reach
      ((keeps-trap_flag (answering p k IsExtensible) p k h trap []).goes g)
      (λ said i w at there. gets-extensible_said p k b i w at there said)
  gets-trapped h trap PreventExtensions g reach =
      gets-through PreventExtensions g (trap_flag p k h trap []) (λ said. prevent_said p k said) reach
      ((keeps-trap_flag (answering p k PreventExtensions) p k h trap []).goes g)
      (λ said i w at there. gets-prevent_said p k b i w at there said)
  gets-trapped h trap (GetOwnProperty j) g reach =
      gets-through (GetOwnProperty j) g (trap_value p k h trap (value_of_key j ∷ [])) (λ said. own_said p k j said) reach
      ((keeps-trap_value (answering p k (GetOwnProperty j)) p k h trap (value_of_key j ∷ [])).goes g)
      (λ said i w at there. gets-own_said j said i w at there)
  gets-trapped h trap (DefineOwnProperty j d) g reach =
      gets-through (DefineOwnProperty j d) g (fromdesc p d)
      (λ o. trap_flag p k h trap (value_of_key j ∷ o ∷ []) >>= (λ said. define_said p k j d said)) reach
      ((keeps-fromdesc (answering p k (DefineOwnProperty j d)) p d).goes g)
      (λ o i w at there.
      gets-through (DefineOwnProperty j d) i (trap_flag p k h trap (value_of_key j ∷ o ∷ [])) (λ said. define_said p k j d said) there
      ((keeps-trap_flag (answering p k (DefineOwnProperty j d)) p k h trap (value_of_key j ∷ o ∷ [])).goes i)
      (λ said l x is reaches. gets-define_said p k b l x is reaches j d said))
  gets-trapped h trap (HasProperty j) g reach =
      gets-through (HasProperty j) g (trap_flag p k h trap (value_of_key j ∷ [])) (λ said. has_said p k j said) reach
      ((keeps-trap_flag (answering p k (HasProperty j)) p k h trap (value_of_key j ∷ [])).goes g)
      (λ said i w at there. gets-has_said p k b i w at there j said)
  gets-trapped h trap (Get j r) g reach =
      gets-through (Get j r) g (trap_value p k h trap (value_of_key j ∷ r ∷ [])) (λ said. get_said p k j said) reach
      ((keeps-trap_value (answering p k (Get j r)) p k h trap (value_of_key j ∷ r ∷ [])).goes g)
      (λ said i w at there. gets-get_said p k b i w at there j r said)
  gets-trapped h trap (Set j x r) g reach =
      gets-through (Set j x r) g (trap_flag p k h trap (value_of_key j ∷ x ∷ r ∷ [])) (λ said. set_said p k j x said) reach
      ((keeps-trap_flag (answering p k (Set j x r)) p k h trap (value_of_key j ∷ x ∷ r ∷ [])).goes g)
      (λ said i w at there. gets-set_said p k b i w at there j x r said)
  gets-trapped h trap (Delete j) g reach =
      gets-through (Delete j) g (trap_flag p k h trap (value_of_key j ∷ [])) (λ said. delete_said p k j said) reach
      ((keeps-trap_flag (answering p k (Delete j)) p k h trap (value_of_key j ∷ [])).goes g)
      (λ said i w at there. gets-delete_said p k b i w at there j said)
  gets-trapped h trap OwnPropertyKeys g reach =
      gets-through OwnPropertyKeys g (trap_value p k h trap []) (λ said. keys_said p k said) reach
      ((keeps-trap_value (answering p k OwnPropertyKeys) p k h trap []).goes g)
      (λ said i w at there.
      gets-through OwnPropertyKeys i (list_of p true said) (λ vs. keys_listed p k (as_keys vs)) there
      ((keeps-list_of (answering p k OwnPropertyKeys) p true said).goes i)
      (λ vs l x is reaches. gets-keys_listed p k b l x is (as_keys vs) reaches))
  gets-trapped h trap (Call this vs) g reach =
      gets-through (Call this vs) g (make_array p vs)
      (λ a. trap_value p k h trap (this ∷ a ∷ []) >>= (λ said. give (Value said))) reach
      ((keeps-make_array (answering p k (Call this vs)) p vs).goes g)
      (λ a i w at there.
      gets-through (Call this vs) i (trap_value p k h trap (this ∷ a ∷ [])) (λ said. give (Value said)) there
      ((keeps-trap_value (answering p k (Call this vs)) p k h trap (this ∷ a ∷ [])).goes i)
      (λ said l x is reaches. gets-called (Call this vs) (Value said) l reaches (λ view. tt)))
  gets-trapped h trap (Construct vs target) g reach =
      gets-through (Construct vs target) g (make_array p vs)
      (λ a. trap_value p k h trap (a ∷ target ∷ []) >>= (λ said. construct_said p said)) reach
      ((keeps-make_array (answering p k (Construct vs target)) p vs).goes g)
      (λ a i w at there.
      gets-through (Construct vs target) i (trap_value p k h trap (a ∷ target ∷ [])) (λ said. construct_said p said) there
      ((keeps-trap_value (answering p k (Construct vs target)) p k h trap (a ∷ target ∷ [])).goes i)
      (λ said l x is reaches. gets-construct_said vs target said l reaches))

  gets-call_trap : (h trap : Val) (m : Method) (c : Bool) (g : Graph) → Reaches b g → Going m g (call_trap p k h trap m c)
  gets-call_trap h trap m false g reach = gets-fail (answering p k m) (Owed p k m b) g p TypeError
  gets-call_trap h trap m true g reach = gets-trapped h trap m g reach

  -- without a trap it is the target's method
  ended-owes : (m : Method) (g h : Graph) (a : Answer) → Reaches b g → Reaches g h → PassesAsItEnds p k m (Normal a) h → Owed p k m b a h
  ended-owes m g h a reach on passes = owes-now p k m b h (Normal a) (reaches-on b g h reach on) passes

  begun-owes : (m : Method) (g h : Graph) (w : Thing) (a : Answer) → IsTarget k g w → Reaches b g → Reaches g h
      → EntryPasses m (Normal a) (Shown g p w) → Owed p k m b a h
  begun-owes m g h w a target reach on passes = record {
    moment = g;
    begun = reach.0.1;
    ended = on.0.1;
    rules = reach.1;
    passes = λ x at. subst (λ (y : Thing). EntryPasses m (Normal a) (Shown g p y)) (same_Some w x (sym target.0 ∙ at)) passes;
  }

  untrapped-owes : (m : Method) (g h : Graph) (w : Thing) (a : Answer) → IsTarget k g w → Reaches b g → Reaches g h
      → PassesAtMoment p k m w g (Normal a) h → Owed p k m b a h
  untrapped-owes GetPrototypeOf g h w a target reach on passes = ended-owes GetPrototypeOf g h a reach on passes
  untrapped-owes (SetPrototypeOf x) g h w a target reach on passes = ended-owes (SetPrototypeOf x) g h a reach on passes
  untrapped-owes IsExtensible g h w a target reach on passes = ended-owes IsExtensible g h a reach on passes
  untrapped-owes PreventExtensions g h w a target reach on passes = ended-owes PreventExtensions g h a reach on passes
  untrapped-owes (GetOwnProperty i) g h w a target reach on passes = ended-owes (GetOwnProperty i) g h a reach on passes
  untrapped-owes (DefineOwnProperty i d) g h w a target reach on passes = ended-owes (DefineOwnProperty i d) g h a reach on passes
  untrapped-owes (HasProperty i) g h w a target reach on passes = begun-owes (HasProperty i) g h w a target reach on passes
  untrapped-owes (Get i r) g h w a target reach on passes = begun-owes (Get i r) g h w a target reach on passes
  untrapped-owes (Set i x r) g h w a target reach on passes = begun-owes (Set i x r) g h w a target reach on passes
  untrapped-owes (Delete i) g h w a target reach on passes = ended-owes (Delete i) g h a reach on passes
  untrapped-owes OwnPropertyKeys g h w a target reach on passes = ended-owes OwnPropertyKeys g h a reach on passes
  untrapped-owes (Call this vs) g h w a target reach on passes = ended-owes (Call this vs) g h a reach on passes
  untrapped-owes (Construct vs x) g h w a target reach on passes = ended-owes (Construct vs x) g h a reach on passes

  gets-untrapped : (s : ℕ) (m : Method) (g : Graph) (w : Thing) → FitsMethod m → IsTarget k g w → Reaches b g
      → Going m g (answer (Perform s m k p false))
  gets-untrapped s m g w fit target reach c base q more =
      gets-answer (answering p k m) g (Perform s m k p false) (λ _. fit, λ c'. absurd c') c base q
      (λ a h on known.
      more a h on (untrapped-owes m g h w a target reach on.1 (known w target.0 target.1 fit reach.0.0).0))

  gets-trap_got : (s : ℕ) (h trap : Val) (m : Method) (g : Graph) (w : Thing) (c : Bool) → is_nullish trap ≡ c → FitsMethod m → IsTarget k g w → Reaches b g
      → Going m g (trap_got s p k h m trap)
  gets-trap_got s h trap m g w true e fit target reach = rw e (gets-untrapped s m g w fit target reach)
  gets-trap_got s h trap m g w false e fit target reach = rw e (gets-call_trap h trap m (is_callable g trap) g reach)

  gets-proxy_method : (s : ℕ) (h : Val) (m : Method) → AreFormed b → FitsMethod m → Going m b (proxy_method s p k h m)
  gets-proxy_method s h m formed fit =
      gets-through m b (get p h (Named (op_name (op_of m)))) (λ trap. trap_got s p k h m trap)
      ((formed, stays-later b), refl)
      ((keeps-get (answering p k m) p h (Named (op_name (op_of m)))).goes b)
      (λ trap g w target reach. gets-trap_got s h trap m g w (is_nullish trap) refl fit target reach)

-- ---- the whole row

kind-owes : (s v n p : ℕ) (k : Val) (m : Method) (t u : Thing) (handler : Val) (shape : Shape) (b : Graph) (kind : Kind) → kind ≡ Proxy k handler shape
    → p ≡ owner_or s t.owner → IsTarget k b u → AreFormed b → FitsMethod m
    → Gets (answering p k m) (Owed p k m b) b (perform_kind s v (Object n) t m kind)
kind-owes s v n p k m t u handler shape b kind e owner target formed fit =
    subst (λ (x : Kind). Gets (answering p k m) (Owed p k m b) b (perform_kind s v (Object n) t m x)) (sym e)
    (subst (λ (a : ℕ). Gets (answering p k m) (Owed p k m b) b (proxy_method s a k handler m)) owner
    (gets-proxy_method p k b u target s handler m formed fit))

thing-owes : (s v n p : ℕ) (k : Val) (m : Method) (t u : Thing) (handler : Val) (shape : Shape) (b : Graph) → t.kind ≡ Proxy k handler shape
    → p ≡ owner_or s t.owner → IsTarget k b u → AreFormed b → FitsMethod m
    → Gets (answering p k m) (Owed p k m b) b (perform_thing s v (Object n) m (Some t))
thing-owes s v n p k m t u handler shape b e owner target formed fit =
    gets-unless (answering p k m) (Owed p k m b) b s (not (is_cut b v t)) (perform_kind s v (Object n) t m t.kind)
    (kind-owes s v n p k m t u handler shape b t.kind e owner target formed fit)

row-owes : (s v n p : ℕ) (k : Val) (m : Method) (t u : Thing) (handler : Val) (shape : Shape) (b : Graph) → slice_get b.objects n ≡ Some t
    → t.kind ≡ Proxy k handler shape → p ≡ owner_or s t.owner → IsTarget k b u → AreFormed b → FitsMethod m
    → Gets (answering p k m) (Owed p k m b) b (perform_row s v (Object n) m)
row-owes s v n p k m t u handler shape b at e owner target formed fit =
    subst (λ (x : Option Thing). Gets (answering p k m) (Owed p k m b) b (perform_thing s v (Object n) m x)) (sym at)
    (thing-owes s v n p k m t u handler shape b e owner target formed fit)

-- an entry more changes no object
noted-owes : (p : ℕ) (k : Val) (began s : ℕ) (o : Val) (m : Method) (b : Graph) (q : Outcome) (g : Graph) → Along (answering p k m) b g → Owes p k m b q g
    → Along (answering p k m) b (method_noted began s o m q g) × Owes p k m b q (method_noted began s o m q g)
noted-owes p k began s o m b q g along owes = (
  (λ a x. along.0 a x, along.1),
  record { moment = owes.moment; begun = owes.begun; ended = owes.ended; rules = owes.rules; passes = owes.passes },
)

end-between : (p : ℕ) (k : Val) (m : Method) (b : Graph) (x : Ends) → EndOwed (answering p k m) b x → EndBetween p k m b x
end-between p k m b (Gives q g f) h = h.1
end-between p k m b (Spent g f) h = tt

given-between : (s v n p : ℕ) (k : Val) (m : Method) (enters : Bool) (t u : Thing) (handler : Val) (shape : Shape) (b : Graph) (f : ℕ) → slice_get b.objects n ≡ Some t
    → t.kind ≡ Proxy k handler shape → p ≡ owner_or s t.owner → IsTarget k b u → FitsMethod m → AreFormed b
    → EndBetween p k m b (given row (Perform s m (Object n) v enters) b f)
given-between s v n p k m enters t u handler shape b f at e owner target fit formed =
    let o : Val = Object n in
    let along : Along (answering p k m) b b = (λ a x. x, ((formed, stays-later b), refl)) in
    subst (EndBetween p k m b) (sym (given-row row (Perform s m o v enters) b f))
    (end-between p k m b (exec (by (given row)) false (row (Perform s m o v enters) b) f)
    (exec-owed (answering p k m) (given row) (does-so p k m) b false (row (Perform s m o v enters) b) f
    (entering-holds (answering p k m) b (makes_entry enters s o b) (method_noted (entries_made b) s o m) (perform_row s v o m finished b)
    (noted-owes p k (entries_made b) s o m b)
    (row-owes s v n p k m t u handler shape b at e owner target formed fit finished b along (λ a g q owed. (q, owed))))))

pub proxy-entries-pass : ProxyEntriesPass
proxy-entries-pass s v n target handler shape m enters t u graph zero at e there ordinary fit formed = tt
proxy-entries-pass s v n target handler shape m enters t u graph (suc f) at e there ordinary fit formed =
    given-between s v n (owner_or s t.owner) target m enters t u handler shape graph f at e refl (there, ordinary) fit formed

pub proxies-pass : ProxiesPass
proxies-pass s v n target handler shape m enters t graph fuel at e has fit formed =
    let u = has n t target handler shape at e in
    proxy-entries-pass s v n target handler shape m enters t u.0 graph fuel at e u.1 u.2 fit formed
