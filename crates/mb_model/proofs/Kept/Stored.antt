use Rattle.std.proofs.Common.{◌≡◌, ℕ, zero, suc, ◌+◌, ◌-◌, List, [], ◌∷◌, Bool, true, false, nat_le, Option, Some, None, ap, if◌then◌else◌}
use Rattle.mb_world.specs.declared.cell.ErrorKind.TheVariants.{RangeError}
use Rattle.mb_world.specs.Value.{Val, to_boolean}
use Rattle.mb_world.specs.Graph.{Graph, Thing}
use Rattle.mb_world.specs.Objects.{thing_is}
use Rattle.mb_world.specs.Standard.{array_prototype}
use Rattle.mb_world.specs.Arrays.{length_limit}
use Rattle.mb_model.specs.Task.{Answer, Value}
use Rattle.mb_model.specs.Writing.{Does, ◌>>=◌, give, make, range_error}
use Rattle.mb_model.specs.Operations.Calls.{target_is_array}
use Rattle.mb_model.specs.Operations.Makings.{array_thing, make_array}
use Rattle.mb_model.specs.Objects.Methods.{store_element}
use Rattle.mb_model.specs.Nodes.Evaluation.{Context, eval}
use Rattle.mb_model.specs.Nodes.Literals.{elements}
use Rattle.mb_model.specs.BuiltIns.Arguments.{arg, need_callable}
use Rattle.mb_model.specs.BuiltIns.Arrays.{array_start, each_turn, fresh_array}
use Rattle.mb_model.specs.BuiltIns.ArrayMembers.{callback, map_found, map_each, map_row, filter_kept, filter_called, filter_found, filter_each, filter_row, index_arg, slice_found, slice_each, slice}
use Rattle.mb_model.proofs.Kept.Changes.{Apart, is_array_at}
use Rattle.mb_model.proofs.Kept.Words.{Kept, Gets, At, Goes, along-stays, along-made, at-then, gets-then, gets-fail, keeps->>=, keeps-give, keeps-is_value}
use Rattle.mb_model.proofs.Kept.Made.{new-array_thing, last-made}
use Rattle.mb_model.proofs.Kept.Defined.{at-store_element}
use Rattle.mb_model.proofs.Kept.NodesEvaluation.{keeps-eval}
use Rattle.mb_model.proofs.Kept.BuiltInsArguments.{keeps-need_callable}
use Rattle.mb_model.proofs.Kept.BuiltInsArrays.{keeps-array_start, keeps-each_turn}
use Rattle.mb_model.proofs.Kept.BuiltInsArrayMembers.{keeps-callback, keeps-index_arg}

-- what stores into an array that it made: the array is one still, whatever was done meanwhile

abbrev GivesArray : Val → Graph → Type 0
GivesArray a g = is_array_at g a ≡ true

gets-array : (kept : Kept) (g : Graph) (s : ℕ) (p : Val) (n : ℕ) (vs : List Val) →
    Gets kept GivesArray g (make (array_thing s p n vs))
gets-array kept g s p n vs k b a h =
    let t : Thing = array_thing s p n vs in
    h _ _ (along-made kept g g t (Apart (new-array_thing s p n vs)) (along-stays kept b g a))
    (ap (thing_is target_is_array) (last-made g t))

gets-fresh : (kept : Kept) (g : Graph) (s n : ℕ) → Gets kept GivesArray g (fresh_array s n)
gets-fresh kept g s n = by (nat_le n length_limit)
  where
    by : (b : Bool) → Gets kept GivesArray g (if b then make (array_thing s array_prototype n []) else range_error s)
    by true = gets-array kept g s array_prototype n []
    by false = gets-fail kept GivesArray g s RangeError

-- a first part, and then one that needs the array
at-array : {A B : Type 0} (kept : Kept) (g : Graph) (a : Val) (m : Does A) (f : A → Does B) → is_array_at g a ≡ true →
    Goes kept m → ((x : A) (h : Graph) → is_array_at h a ≡ true → At kept h (f x)) → At kept g (m >>= f)
at-array kept g a m f array pm pf = at-then kept g m f (pm.goes g) (λ x g' q. pf x g' (q.0 a array))

-- ---- an array literal

at-elements : (kept : Kept) (g : Graph) (c : Context) (a : Val) (i : ℕ) (ns : List ℕ) → is_array_at g a ≡ true →
    At kept g (elements c a i ns)
at-elements kept g c a i [] array = (keeps-is_value kept a).goes g
at-elements kept g c a i (n ∷ ns) array =
    at-array kept g a (eval c n) (λ v. store_element c.side a i v >>= (λ _. elements c a (i + 1) ns)) array
    (keeps-eval kept c n)
    (λ v h stays.
    at-then kept h (store_element c.side a i v) (λ _. elements c a (i + 1) ns)
    (at-store_element kept h c.side a i v stays)
    (λ _ h' q. at-elements kept h' c a (i + 1) ns (q.0 a stays)))

pub keeps-array_literal : (kept : Kept) (c : Context) (ns : List ℕ) →
    Goes kept (make_array c.side [] >>= (λ a. elements c a 0 ns))
keeps-array_literal kept c ns =
    record {
      goes = λ g.
          gets-then kept GivesArray g (make_array c.side []) (λ a. elements c a 0 ns)
          (gets-array kept g c.side array_prototype 0 []) (λ a h q array. at-elements kept h c a 0 ns array);
    }

-- ---- map

at-map_found : (kept : Kept) (g : Graph) (s : ℕ) (o f this a : Val) (i : ℕ) (v : Option Val) → is_array_at g a ≡ true →
    At kept g (map_found s o f this a i v)
at-map_found kept g s o f this a i None array = (keeps-give kept Answer.Nothing).goes g
at-map_found kept g s o f this a i (Some v) array =
    at-array kept g a (callback s f this v i o) (λ w. store_element s a i w) array (keeps-callback kept s f this v i o)
    (λ w h stays. at-store_element kept h s a i w stays)

at-map_each : (kept : Kept) (g : Graph) (s : ℕ) (o f this a : Val) (n i : ℕ) → is_array_at g a ≡ true →
    At kept g (map_each s o f this a n i)
at-map_each kept g s o f this a zero i array = (keeps-give kept (Value a)).goes g
at-map_each kept g s o f this a (suc n) i array =
    at-array kept g a (each_turn s o i) (λ v. map_found s o f this a i v >>= (λ _. map_each s o f this a n (i + 1))) array
    (keeps-each_turn kept s o i)
    (λ v h stays.
    at-then kept h (map_found s o f this a i v) (λ _. map_each s o f this a n (i + 1))
    (at-map_found kept h s o f this a i v stays)
    (λ _ h' q. at-map_each kept h' s o f this a n (i + 1) (q.0 a stays)))

pub keeps-map_row : (kept : Kept) (s : ℕ) (o : Val) (vs : List Val) → Goes kept (map_row s o vs)
keeps-map_row kept s o vs =
    let into : ℕ → Val → Does Answer = λ n a. map_each s o (arg vs 0) (arg vs 1) a n 0 in
    keeps->>= kept (array_start s o) (λ n. need_callable s (arg vs 0) >>= (λ _. fresh_array s n >>= into n))
    (keeps-array_start kept s o)
    (λ n. keeps->>= kept (need_callable s (arg vs 0)) (λ _. fresh_array s n >>= into n)
    (keeps-need_callable kept s (arg vs 0))
    (λ _. record {
      goes = λ g.
          gets-then kept GivesArray g (fresh_array s n) (into n) (gets-fresh kept g s n)
          (λ a h q array. at-map_each kept h s o (arg vs 0) (arg vs 1) a n 0 array);
    }))

-- ---- filter

at-filter_kept : (kept : Kept) (g : Graph) (s : ℕ) (a v : Val) (count : ℕ) → is_array_at g a ≡ true →
    At kept g (filter_kept s a v count)
at-filter_kept kept g s a v count array =
    at-then kept g (store_element s a count v) (λ _. give (count + 1)) (at-store_element kept g s a count v array)
    (λ _ h q. (keeps-give kept (count + 1)).goes h)

at-filter_called : (kept : Kept) (g : Graph) (s : ℕ) (a v : Val) (count : ℕ) (b : Bool) → is_array_at g a ≡ true →
    At kept g (if b then filter_kept s a v count else give count)
at-filter_called kept g s a v count true array = at-filter_kept kept g s a v count array
at-filter_called kept g s a v count false array = (keeps-give kept count).goes g

at-filter_found : (kept : Kept) (g : Graph) (s : ℕ) (o f this a : Val) (i count : ℕ) (v : Option Val) →
    is_array_at g a ≡ true → At kept g (filter_found s o f this a i count v)
at-filter_found kept g s o f this a i count None array = (keeps-give kept count).goes g
at-filter_found kept g s o f this a i count (Some v) array =
    at-array kept g a (callback s f this v i o) (λ w. filter_called s a v count w) array (keeps-callback kept s f this v i o)
    (λ w h stays. at-filter_called kept h s a v count (to_boolean w) stays)

at-filter_each : (kept : Kept) (g : Graph) (s : ℕ) (o f this a : Val) (n i count : ℕ) → is_array_at g a ≡ true →
    At kept g (filter_each s o f this a n i count)
at-filter_each kept g s o f this a zero i count array = (keeps-give kept (Value a)).goes g
at-filter_each kept g s o f this a (suc n) i count array =
    at-array kept g a (each_turn s o i)
    (λ v. filter_found s o f this a i count v >>= (λ c. filter_each s o f this a n (i + 1) c)) array
    (keeps-each_turn kept s o i)
    (λ v h stays.
    at-then kept h (filter_found s o f this a i count v) (λ c. filter_each s o f this a n (i + 1) c)
    (at-filter_found kept h s o f this a i count v stays)
    (λ c h' q. at-filter_each kept h' s o f this a n (i + 1) c (q.0 a stays)))

pub keeps-filter_row : (kept : Kept) (s : ℕ) (o : Val) (vs : List Val) → Goes kept (filter_row s o vs)
keeps-filter_row kept s o vs =
    let into : ℕ → Val → Does Answer = λ n a. filter_each s o (arg vs 0) (arg vs 1) a n 0 0 in
    keeps->>= kept (array_start s o) (λ n. need_callable s (arg vs 0) >>= (λ _. fresh_array s 0 >>= into n))
    (keeps-array_start kept s o)
    (λ n. keeps->>= kept (need_callable s (arg vs 0)) (λ _. fresh_array s 0 >>= into n)
    (keeps-need_callable kept s (arg vs 0))
    (λ _. record {
      goes = λ g.
          gets-then kept GivesArray g (fresh_array s 0) (into n) (gets-fresh kept g s 0)
          (λ a h q array. at-filter_each kept h s o (arg vs 0) (arg vs 1) a n 0 0 array);
    }))

-- ---- slice

at-slice_found : (kept : Kept) (g : Graph) (s : ℕ) (a : Val) (i : ℕ) (v : Option Val) → is_array_at g a ≡ true →
    At kept g (slice_found s a i v)
at-slice_found kept g s a i None array = (keeps-give kept Answer.Nothing).goes g
at-slice_found kept g s a i (Some v) array = at-store_element kept g s a i v array

at-slice_each : (kept : Kept) (g : Graph) (s : ℕ) (o a : Val) (n from i : ℕ) → is_array_at g a ≡ true →
    At kept g (slice_each s o a n from i)
at-slice_each kept g s o a zero from i array = (keeps-give kept (Value a)).goes g
at-slice_each kept g s o a (suc n) from i array =
    at-array kept g a (each_turn s o (from + i)) (λ v. slice_found s a i v >>= (λ _. slice_each s o a n from (i + 1))) array
    (keeps-each_turn kept s o (from + i))
    (λ v h stays.
    at-then kept h (slice_found s a i v) (λ _. slice_each s o a n from (i + 1))
    (at-slice_found kept h s a i v stays)
    (λ _ h' q. at-slice_each kept h' s o a n from (i + 1) (q.0 a stays)))

pub keeps-slice : (kept : Kept) (s : ℕ) (o : Val) (vs : List Val) → Goes kept (slice s o vs)
keeps-slice kept s o vs =
    let into : ℕ → ℕ → Val → Does Answer = λ from to a. slice_each s o a (to - from) from 0 in
    keeps->>= kept (array_start s o)
    (λ n. index_arg s 0 n (arg vs 0) >>= (λ from. index_arg s n n (arg vs 1) >>= (λ to. fresh_array s (to - from) >>= into from to)))
    (keeps-array_start kept s o)
    (λ n. keeps->>= kept (index_arg s 0 n (arg vs 0))
    (λ from. index_arg s n n (arg vs 1) >>= (λ to. fresh_array s (to - from) >>= into from to))
    (keeps-index_arg kept s 0 n (arg vs 0))
    (λ from. keeps->>= kept (index_arg s n n (arg vs 1)) (λ to. fresh_array s (to - from) >>= into from to)
    (keeps-index_arg kept s n n (arg vs 1))
    (λ to. record {
      goes = λ g.
          gets-then kept GivesArray g (fresh_array s (to - from)) (into from to) (gets-fresh kept g s (to - from))
          (λ a h q array. at-slice_each kept h s o a (to - from) from 0 array);
    })))
