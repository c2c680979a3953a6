use Rattle.std.proofs.Common.{◌≡◌, ℕ, zero, suc, ◌+◌, ◌-◌, ◌<◌, ◌≤◌, List, [], ◌∷◌, ◌++◌, Bool, true, false, nat_lt, if◌then◌else◌, refl, ◌∙◌, ap, arith}
use Rattle.std.proofs.lemmas.Bool.Decides.{nat_tests}
use Rattle.mb_model.specs.Engine.{Res, Gives, Spent, Prog, Ret, Pay, Turn, Do, Again, Doing, by, meaning, left_of, and_then, charged, exec, within, given, means, under, leading, charged_row, ending, ends_with}

abbrev pub bit : Bool → ℕ
bit true = 1
bit false = 0

abbrev pub Falls : {T O S : Type 0} → (T → S → ℕ → Res O S) → Type 0
Falls {T} {O} {S} r = (t : T) (s : S) (f : ℕ) → left_of (r t s f) ≤ f

abbrev pub Agree : {T O S : Type 0} → ℕ → (T → S → ℕ → Res O S) → (T → S → ℕ → Res O S) → Type 0
Agree {T} {O} {S} n r r' = (t : T) (s : S) (f : ℕ) → f < n → r t s f ≡ r' t s f

-- a charge leaves no more than there was
if_le : {O S : Type 0} (b : Bool) (x y : Res O S) (f : ℕ) → left_of x ≤ f → left_of y ≤ f →
    left_of (if b then x else y) ≤ f
if_le true x y f p q = p
if_le false x y f p q = q

and_then_le : {O S : Type 0} (r : Res O S) (k : O → S → ℕ → Res O S) (f : ℕ) → left_of r ≤ f →
    ((o : O) (s : S) (f' : ℕ) → left_of (k o s f') ≤ f') → left_of (and_then r k) ≤ f
and_then_le (Gives o s f') k f h e = let p : left_of (k o s f') ≤ f' = e o s f' in omega (arith, h, p)
and_then_le (Spent s f') k f h e = h

charged_le : {T O S : Type 0} (r : T → S → ℕ → Res O S) → Falls r → Falls (charged r)
charged_le r h t s zero = omega arith
charged_le r h t s (suc f) = let p : left_of (r t s f) ≤ f = h t s f in omega (arith, p)

exec_le : {T O S : Type 0} (r : T → S → ℕ → Res O S) → Falls r → (b : Bool) (p : Prog T O S) (f : ℕ) →
    left_of (exec (by r) b p f) ≤ f
exec_le r h b (Ret o s) f = omega arith
exec_le r h b (Pay n s p) f = let e : left_of (exec (by r) b p (f - n)) ≤ f - n = exec_le r h b p (f - n) in
    if_le (nat_lt f n) _ _ f (omega arith) (omega (arith, e))
exec_le r h b (Turn s p) f = let e : left_of (exec (by r) true p (f - 1)) ≤ f - 1 = exec_le r h true p (f - 1) in
    if_le (nat_lt f 1) _ _ f (omega arith) (omega (arith, e))
exec_le r h b (Do t s k) f =
    and_then_le (charged r t s f) _ f (charged_le r h t s f) (λ o s' f'. exec_le r h true (k o s') f')
exec_le r h true (Again t s k) f = and_then_le (r t s f) _ f (h t s f) (λ o s' f'. exec_le r h true (k o s') f')
exec_le r h false (Again t s k) f = omega arith

within_le : {T O S : Type 0} (row : T → S → Prog T O S) (g : ℕ) → Falls (within row g)
within_le row zero t s f = omega arith
within_le row (suc g) t s f = exec_le (within row g) (within_le row g) false (row t s) f

if_same : {A : Type 0} (b : Bool) (x y y' : A) → y ≡ y' → (if b then x else y) ≡ (if b then x else y')
if_same true x y y' e = refl
if_same false x y y' e = e

if_same_at : {A : Type 0} (b : Bool) (x y y' : A) → (b ≡ false → y ≡ y') →
    (if b then x else y) ≡ (if b then x else y')
if_same_at true x y y' e = refl
if_same_at false x y y' e = e refl

and_then_same : {O S : Type 0} (r r' : Res O S) (k k' : O → S → ℕ → Res O S) (n : ℕ) → r ≡ r' → left_of r ≤ n →
    ((o : O) (s : S) (f : ℕ) → f ≤ n → k o s f ≡ k' o s f) → and_then r k ≡ and_then r' k'
and_then_same (Gives o s f) r' k k' n e h a = rw (← e) (a o s f h)
and_then_same (Spent s f) r' k k' n e h a = rw (← e) refl

-- two ways to do tasks that agree on less fuel do a row alike
pub exec_same : {T O S : Type 0} (r r' : T → S → ℕ → Res O S) (n : ℕ) → Falls r → Agree n r r' →
    (b : Bool) (p : Prog T O S) (f : ℕ) → f + bit b ≤ n → exec (by r) b p f ≡ exec (by r') b p f
exec_same r r' n h a b (Ret o s) f l = refl
exec_same r r' n h a b (Pay m s p) f l = if_same (nat_lt f m) _ _ _ (exec_same r r' n h a b p (f - m) (omega arith))
exec_same r r' n h a b (Turn s p) f l =
    if_same_at (nat_lt f 1) _ _ _
    (λ e. exec_same r r' n h a true p (f - 1) (let k : 1 ≤ f = grind (arith, nat_tests) in omega arith))
exec_same r r' n h a b (Do t s k) zero l = refl
exec_same r r' n h a b (Do t s k) (suc f) l =
    and_then_same (r t s f) (r' t s f) _ _ f (a t s f (omega arith)) (h t s f)
    (λ o s' f' q. exec_same r r' n h a true (k o s') f' (omega arith))
exec_same r r' n h a true (Again t s k) f l =
    and_then_same (r t s f) (r' t s f) _ _ f (a t s f (omega arith)) (h t s f)
    (λ o s' f' q. exec_same r r' n h a true (k o s') f' (omega arith))
exec_same r r' n h a false (Again t s k) f l = refl

within_same : {T O S : Type 0} (row : T → S → Prog T O S) (g g' : ℕ) (t : T) (s : S) (f : ℕ) → f < g → f < g' →
    within row g t s f ≡ within row g' t s f
within_same row zero g' t s f l l' = absurd (omega arith)
within_same row (suc g) zero t s f l l' = absurd (omega arith)
within_same row (suc g) (suc g') t s f l l' =
    exec_same (within row g) (within row g') f (within_le row g)
    (λ t' s' f' m. within_same row g g' t' s' f' (omega arith) (omega arith)) false (row t s) f (omega arith)

-- the one law of the meaning: a task's row, done by the meaning itself
pub given-row : {T O S : Type 0} (row : T → S → Prog T O S) (t : T) (s : S) (f : ℕ) →
    given row t s f ≡ exec (meaning row) false (row t s) f
unfolding given
given-row row t s f =
    exec_same (within row f) (given row) f (within_le row f)
    (λ t' s' f' m. within_same row f (suc f') t' s' f' m (omega arith)) false (row t s) f (omega arith)

-- the frames of a stack take what those above them give, as if these were alone
pub under-append : {F O S : Type 0} (hand : F → O → S → ℕ → Res O S) (below above : List F) (r : Res O S) →
    under hand (below ++ above) r ≡ under hand below (under hand above r)
under-append hand [] above r = refl
under-append hand (x ∷ below) above r = ap (λ q. and_then q (hand x)) (under-append hand below above r)

pub under-push : {F O S : Type 0} (hand : F → O → S → ℕ → Res O S) (below : List F) (x : F) (r : Res O S) →
    under hand (below ++ (x ∷ [])) r ≡ under hand below (and_then r (hand x))
under-push hand below x r = under-append hand below (x ∷ []) r

pub ruleset under_laws = (under-push)

-- a task gives what its charge and its row give
pub means-charged_row : {T O S : Type 0} (row : T → S → Prog T O S) (t : T) (s : S) (f : ℕ) →
    means row t s f ≡ exec (meaning row) false (charged_row row t s) f
means-charged_row row t s zero = refl
means-charged_row row t s (suc f) =
    let e : suc f - 1 ≡ f = omega arith in
    let b : nat_lt (suc f) 1 ≡ false = grind (arith, nat_tests) in
    rw (b, e) (given-row row t s f)

and_then_tail : {O S : Type 0} (r : Res O S) (k k' : O → S → ℕ → Res O S) (j : O → S → ℕ → Res O S) →
    ((o : O) (s : S) (f : ℕ) → k o s f ≡ and_then (k' o s f) j) → and_then r k ≡ and_then (and_then r k') j
and_then_tail (Gives o s f) k k' j e = e o s f
and_then_tail (Spent s f) k k' j e = refl

if_tail : {O S : Type 0} (b : Bool) (s : S) (f : ℕ) (x y : Res O S) (j : O → S → ℕ → Res O S) → x ≡ and_then y j →
    (if b then Spent s f else x) ≡ and_then (if b then Spent s f else y) j
if_tail true s f x y j e = refl
if_tail false s f x y j e = e

-- a row with an end of its own is the row, and then that end: the frame of the end stands below all frames of the row
pub exec-ending : {T O S : Type 0} (m : Doing T O S) (h : O → S → S) (b : Bool) (p : Prog T O S) (f : ℕ) →
    exec m b (ending h p) f ≡ and_then (exec m b p f) (ends_with h)
exec-ending m h b (Ret o s) f = refl
exec-ending m h b (Pay n s p) f = if_tail (nat_lt f n) s f _ _ (ends_with h) (exec-ending m h b p (f - n))
exec-ending m h b (Turn s p) f = if_tail (nat_lt f 1) s f _ _ (ends_with h) (exec-ending m h true p (f - 1))
exec-ending m h b (Do t s k) f =
    and_then_tail (m.task t s f) _ _ (ends_with h) (λ o s' f'. exec-ending m h true (k o s') f')
exec-ending m h true (Again t s k) f =
    and_then_tail (m.anew t s f) _ _ (ends_with h) (λ o s' f'. exec-ending m h true (k o s') f')
exec-ending m h false (Again t s k) f = refl

-- what is charged before the row's next task isn't changed by its end
pub leading-ending : {T O S : Type 0} (h : O → S → S) (p : Prog T O S) → leading (ending h p) ≡ leading p
leading-ending h (Ret o s) = refl
leading-ending h (Pay n s p) = ap (λ j. n + j) (leading-ending h p)
leading-ending h (Turn s p) = ap (λ j. 1 + j) (leading-ending h p)
leading-ending h (Do t s k) = refl
leading-ending h (Again t s k) = refl

again-end : {T O S : Type 0} (x : Res O S) (m : Doing T O S) (k : O → S → Prog T O S) →
    ((o : O) (s' : S) → k o s' ≡ Ret o s') → and_then x (λ o s' f'. exec m true (k o s') f') ≡ x
again-end (Gives o s f) m k e = rw (e o s) refl
again-end (Spent s f) m k e = refl

-- a row that starts anew as its last step
pub exec-again : {T O S : Type 0} (m : Doing T O S) (t : T) (s : S) (f : ℕ) (k : O → S → Prog T O S) →
    ((o : O) (s' : S) → k o s' ≡ Ret o s') → exec m true (Again t s k) f ≡ m.anew t s f
exec-again m t s f k e = again-end (m.anew t s f) m k e

-- a task whose row is another's, with one more end, does what the other does, and then that end: both cost the same
pub entered-begun : {T O S : Type 0} (m : Doing T O S) (row : T → S → Prog T O S) (h : O → S → S)
    (t u : T) (s : S) (f : ℕ) →
    row t s ≡ ending h (row u s) →
    exec m false (charged_row row t s) f ≡ and_then (exec m false (charged_row row u s) f) (ends_with h)
entered-begun m row h t u s f e =
    ap (λ p. exec m false (Pay 1 s p) f) e ∙ exec-ending m h false (charged_row row u s) f

-- a task leaves no more fuel than it got
pub means-falls : {T O S : Type 0} (row : T → S → Prog T O S) (t : T) (s : S) (f : ℕ) → left_of (means row t s f) ≤ f
unfolding given
means-falls row t s f = charged_le (given row) (λ t' s' f'. within_le row (suc f') t' s' f') t s f

-- nor does a row, its task's charge being paid
pub given-falls : {T O S : Type 0} (row : T → S → Prog T O S) (t : T) (s : S) (f : ℕ) → left_of (given row t s f) ≤ f
unfolding given
given-falls row t s f = within_le row (suc f) t s f
