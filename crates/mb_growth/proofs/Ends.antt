-- How rows end.
use Rattle.std.proofs.Common.{◌≡◌, ℕ, zero, suc, ◌-◌, Bool, true, false, nat_lt, List, [], ◌∷◌, Option, None, Some, refl, if◌then◌else◌}
use Rattle.mb_world.specs.Value.{Val, same_value}
use Rattle.mb_world.specs.Graph.{Graph, Thing}
use Rattle.mb_world.specs.Objects.{thing_at}
use Rattle.mb_world.specs.Ordinary.{with_prototype}
use Rattle.mb_model.specs.Engine.{Gives, Spent, Ret, Pay, Turn, Do, Again, by, and_then, charged, exec, within, given, ending}
use Rattle.mb_model.specs.Task.{Task, Evaluate, Loop, Chain, Walk, Perform, Enter, Run, Access, Visit, Answer, Nothing, Flag, Outcome, Normal, Throw, Return, Break, Continue}
use Rattle.mb_model.specs.Writing.{Row, pass, pay_each}
use Rattle.mb_model.specs.Operations.Makings.{altered}
use Rattle.mb_model.specs.Objects.Methods.{walk_ends, walk_from, walk_at, walk_row}
use Rattle.mb_model.specs.Meaning.{row, finished, entering, Ends, Means}

-- a walk that ends with true has set the prototype
abbrev pub Walked : Task → Graph → Outcome → Graph → Type 0
Walked (Walk o p x) s q after = q ≡ Normal (Flag true) → after ≡ altered o (with_prototype p) (thing_at s o) s
Walked _ s q after = Unit {0}

-- a row ends so, whatever the tasks give that it has done
abbrev pub RowEnds : (Outcome → Graph → Type 0) → Row → Type 0
RowEnds so (Ret q s) = so q s
RowEnds so (Pay n s p) = RowEnds so p
RowEnds so (Turn s p) = RowEnds so p
RowEnds so (Do t s k) = (q : Outcome) (after : Graph) → RowEnds so (k q after)
RowEnds so (Again t s k) = (q : Outcome) (after : Graph) → Walked t s q after → RowEnds so (k q after)

abbrev pub TaskEnds : (Outcome → Graph → Type 0) → Ends → Type 0
TaskEnds so (Gives q s f) = so q s
TaskEnds so (Spent s f) = Unit {0}

-- ---- rows

pub ends-any : (so : Outcome → Graph → Type 0) → ((q : Outcome) (g : Graph) → so q g) → (p : Row) → RowEnds so p
ends-any so any (Ret q s) = any q s
ends-any so any (Pay n s p) = ends-any so any p
ends-any so any (Turn s p) = ends-any so any p
ends-any so any (Do t s k) = λ q after. ends-any so any (k q after)
ends-any so any (Again t s k) = λ q after w. ends-any so any (k q after)

pub ends-also : (so also : Outcome → Graph → Type 0) → ((q : Outcome) (g : Graph) → so q g → also q g) → (p : Row)
    → RowEnds so p → RowEnds also p
ends-also so also more (Ret q s) h = more q s h
ends-also so also more (Pay n s p) h = ends-also so also more p h
ends-also so also more (Turn s p) h = ends-also so also more p h
ends-also so also more (Do t s k) h = λ q after. ends-also so also more (k q after) (h q after)
ends-also so also more (Again t s k) h = λ q after w. ends-also so also more (k q after) (h q after w)

-- a last change that doesn't matter
ends-ending : (so : Outcome → Graph → Type 0) (noted : Outcome → Graph → Graph)
    → ((q : Outcome) (g : Graph) → so q g → so q (noted q g)) → (p : Row) → RowEnds so p → RowEnds so (ending noted p)
ends-ending so noted same (Ret q s) h = same q s h
ends-ending so noted same (Pay n s p) h = ends-ending so noted same p h
ends-ending so noted same (Turn s p) h = ends-ending so noted same p h
ends-ending so noted same (Do t s k) h = λ q after. ends-ending so noted same (k q after) (h q after)
ends-ending so noted same (Again t s k) h = λ q after w. ends-ending so noted same (k q after) (h q after w)

pub ends-entering : (so : Outcome → Graph → Type 0) (enters : Bool) (noted : Outcome → Graph → Graph)
    → ((q : Outcome) (g : Graph) → so q g → so q (noted q g)) → (p : Row) → RowEnds so p → RowEnds so (entering enters noted p)
ends-entering so true noted same p h = ends-ending so noted same p h
ends-entering so false noted same p h = h

pub ends-pays : {X : Type 0} (so : Outcome → Graph → Type 0) (xs : List X) (k : Answer → Graph → Row) (g : Graph)
    → RowEnds so (k Nothing g) → RowEnds so (pay_each xs k g)
ends-pays so [] k g h = h
ends-pays so (x ∷ xs) k g h = ends-pays so xs k g h

ends-passed : (so : Outcome → Graph → Type 0) (q : Outcome) (g : Graph) → so q g → RowEnds so (pass q finished g)
ends-passed so (Normal a) g h = h
ends-passed so (Throw v) g h = h
ends-passed so (Return v) g h = h
ends-passed so Break g h = h
ends-passed so Continue g h = h

-- ---- the walk

walk-by : (o p x : Val) (t : Thing) (g : Graph) (same last : Bool) → same_value x o ≡ same → walk_ends g o t ≡ last
    → RowEnds (Walked (Walk o p x) g) (walk_from o p x t (walk_ends g o t) finished g)
walk-by o p x t g true last e f = rw e (λ h. absurd (let bad : Normal (Flag false) ≡ Normal (Flag true) = h in cc))
walk-by o p x t g false true e f = rw (e, f) (λ h. refl)
walk-by o p x t g false false e f = rw (e, f) (λ q after w. ends-passed (Walked (Walk o p x) g) q after w)

walk-at : (o p x : Val) (g : Graph) (there : Option Thing) → RowEnds (Walked (Walk o p x) g) (walk_at o p x there finished g)
walk-at o p x g None = λ e. refl
walk-at o p x g (Some t) = walk-by o p x t g (same_value x o) (walk_ends g o t) refl refl

pub walk-ends : (o p x : Val) (g : Graph) → RowEnds (Walked (Walk o p x) g) (walk_row o p x finished g)
walk-ends o p x g = walk-at o p x g (thing_at g x)

-- ---- tasks

any-end : (x : Ends) → TaskEnds (λ q s. Unit {0}) x
any-end (Gives q s f) = tt
any-end (Spent s f) = tt

task-if : (so : Outcome → Graph → Type 0) (b : Bool) (s : Graph) (f : ℕ) (x : Ends) → TaskEnds so x
    → TaskEnds so (if b then Spent s f else x)
task-if so true s f x h = tt
task-if so false s f x h = h

task-then : (so known : Outcome → Graph → Type 0) (x : Ends) (k : Outcome → Graph → ℕ → Ends) → TaskEnds known x
    → ((q : Outcome) (s : Graph) (f : ℕ) → known q s → TaskEnds so (k q s f)) → TaskEnds so (and_then x k)
task-then so known (Gives q s f) k h n = n q s f h
task-then so known (Spent s f) k h n = tt

-- what starts anew is known as far as walks go
abbrev Knows : (Task → Graph → ℕ → Ends) → Type 0
Knows r = (t : Task) (s : Graph) (f : ℕ) → TaskEnds (Walked t s) (r t s f)

exec-ends : (r : Task → Graph → ℕ → Ends) → Knows r → (so : Outcome → Graph → Type 0) (begun : Bool) (p : Row) (f : ℕ)
    → RowEnds so p → TaskEnds so (exec (by r) begun p f)
exec-ends r known so begun (Ret q s) f h = h
exec-ends r known so begun (Pay n s p) f h =
    task-if so (nat_lt f n) s f (exec (by r) begun p (f - n)) (exec-ends r known so begun p (f - n) h)
exec-ends r known so begun (Turn s p) f h =
    task-if so (nat_lt f 1) s f (exec (by r) true p (f - 1)) (exec-ends r known so true p (f - 1) h)
exec-ends r known so begun (Do t s k) f h =
    task-then so (λ q s'. Unit {0}) (charged r t s f) (λ q s' f'. exec (by r) true (k q s') f') (any-end (charged r t s f))
    (λ q s' f' u. exec-ends r known so true (k q s') f' (h q s'))
exec-ends r known so true (Again t s k) f h =
    task-then so (Walked t s) (r t s f) (λ q s' f'. exec (by r) true (k q s') f') (known t s f)
    (λ q s' f' w. exec-ends r known so true (k q s') f' (h q s' w))
exec-ends r known so false (Again t s k) f h = tt

within-knows : (depth : ℕ) → Knows (within row depth)
within-knows zero t s f = tt
within-knows (suc depth) (Walk o p x) s f =
    exec-ends (within row depth) (within-knows depth) (Walked (Walk o p x) s) false (row (Walk o p x) s) f (walk-ends o p x s)
within-knows (suc depth) (Evaluate a b c d) s f = any-end (within row (suc depth) (Evaluate a b c d) s f)
within-knows (suc depth) (Loop a b c d) s f = any-end (within row (suc depth) (Loop a b c d) s f)
within-knows (suc depth) (Chain a b c) s f = any-end (within row (suc depth) (Chain a b c) s f)
within-knows (suc depth) (Perform a b c d e) s f = any-end (within row (suc depth) (Perform a b c d e) s f)
within-knows (suc depth) (Enter a b c) s f = any-end (within row (suc depth) (Enter a b c) s f)
within-knows (suc depth) (Run a b c d e) s f = any-end (within row (suc depth) (Run a b c d e) s f)
within-knows (suc depth) (Access a b c d) s f = any-end (within row (suc depth) (Access a b c d) s f)
within-knows (suc depth) (Visit a b c d e i) s f = any-end (within row (suc depth) (Visit a b c d e i) s f)

given-ends : (so : Outcome → Graph → Type 0) (t : Task) (s : Graph) (f : ℕ) → RowEnds so (row t s)
    → TaskEnds so (given row t s f)
unfolding given
given-ends so t s f h = exec-ends (within row f) (within-knows f) so false (row t s) f h

-- a task ends as its row does
pub means-ends : (so : Outcome → Graph → Type 0) (t : Task) (s : Graph) (f : ℕ) → RowEnds so (row t s)
    → TaskEnds so (Means t s f)
means-ends so t s zero h = tt
means-ends so t s (suc f) h = given-ends so t s f h
