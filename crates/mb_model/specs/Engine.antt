use Rattle.std.specs.Prelude.{ℕ, zero, suc, ◌+◌, ◌-◌, List, [], ◌∷◌, Bool, true, false, nat_lt, if◌then◌else◌}

-- the engine of meaning: rows of tasks and charges, and the fuel that pays for them. T are tasks, O are how they end,
-- S are states

-- what becomes of a task: it ends in this way, in this state, with so much fuel left; or a charge can't be paid
pub data Res (O S : Type 0) : Type 0 where
  Gives : (o : O) (s : S) (f : ℕ) → Res O S
  Spent : (s : S) (f : ℕ) → Res O S

-- a row, what is done for a task, as a tree:
--   Ret: it ends
--   Pay: it takes a charge
--   Turn: it takes a charge of 1, after which it may start anew
--   Do: it has a task done, and goes on with how that ended
--   Again: a row starts anew in its place, with no charge, and it goes on with how that ended
pub data Prog (T O S : Type 0) : Type 0 where
  Ret : O → S → Prog T O S
  Pay : ℕ → S → Prog T O S → Prog T O S
  Turn : S → Prog T O S → Prog T O S
  Do : T → S → (O → S → Prog T O S) → Prog T O S
  Again : T → S → (O → S → Prog T O S) → Prog T O S

-- goes on with what a task gives
abbrev pub and_then : {O S : Type 0} → Res O S → (O → S → ℕ → Res O S) → Res O S
and_then (Gives o s f) k = k o s f
and_then (Spent s f) k = Spent s f

-- a unit is paid first
abbrev pub charged : {T O S : Type 0} → (T → S → ℕ → Res O S) → T → S → ℕ → Res O S
charged r t s zero = Spent s zero
charged r t s (suc f) = r t s f

-- what tasks do: what a task gives, with its charge, and what a row gives that starts anew, with none. The meaning is
-- one instance; whatever holds of a step for every instance holds of each that may come
pub record Doing (T O S : Type 0) : Type 0 where
  pub task : T → S → ℕ → Res O S
  pub anew : T → S → ℕ → Res O S

-- tasks do their rows, which r gives
abbrev pub by : {T O S : Type 0} → (T → S → ℕ → Res O S) → Doing T O S
by r = record { task = charged r; anew = r }

-- a row that is under way; `begun` tells whether it had a task done or paid a turn, and only then it may start anew
abbrev pub exec : {T O S : Type 0} → Doing T O S → (begun : Bool) → Prog T O S → ℕ → Res O S
exec m begun (Ret o s) f = Gives o s f
exec m begun (Pay n s p) f = if nat_lt f n then Spent s f else exec m begun p (f - n)
exec m begun (Turn s p) f = if nat_lt f 1 then Spent s f else exec m true p (f - 1)
exec m begun (Do t s k) f = and_then (m.task t s f) (λ o s' f'. exec m true (k o s') f')
exec m begun (Again t s k) f =
    if begun then and_then (m.anew t s f) (λ o s' f'. exec m true (k o s') f') else Spent s f

-- the row of a task, by nested uses at most that deep
abbrev pub within : {T O S : Type 0} → (T → S → Prog T O S) → ℕ → T → S → ℕ → Res O S
within row zero t s f = Spent s f
within row (suc g) t s f = exec (by (within row g)) false (row t s) f

-- what the row of a task gives, its own charge being paid
unfoldable pub given : {T O S : Type 0} → (T → S → Prog T O S) → T → S → ℕ → Res O S
given row t s f = within row (suc f) t s f

-- the meaning: tasks do their rows
abbrev pub meaning : {T O S : Type 0} → (T → S → Prog T O S) → Doing T O S
meaning row = by (given row)

-- what a task gives
abbrev pub means : {T O S : Type 0} → (T → S → Prog T O S) → T → S → ℕ → Res O S
means row = charged (given row)

-- what a row gives that has begun
abbrev pub goes : {T O S : Type 0} → Doing T O S → Prog T O S → ℕ → Res O S
goes m p f = exec m true p f

-- what a stack gives, where what is above it gives r: each frame takes what those above it give, and the last is on top
abbrev pub under : {F O S : Type 0} → (F → O → S → ℕ → Res O S) → List F → Res O S → Res O S
under hand [] r = r
under hand (x ∷ above) r = and_then (under hand above r) (hand x)

-- what is charged before a row's next task or end
abbrev pub leading : {T O S : Type 0} → Prog T O S → ℕ
leading (Ret o s) = 0
leading (Pay n s p) = n + leading p
leading (Turn s p) = 1 + leading p
leading (Do t s k) = 0
leading (Again t s k) = 0

-- a task's charge, and then its row
abbrev pub charged_row : {T O S : Type 0} → (T → S → Prog T O S) → T → S → Prog T O S
charged_row row t s = Pay 1 s (row t s)

-- a row that changes the state once more where it ends, however it ends
abbrev pub ending : {T O S : Type 0} → (O → S → S) → Prog T O S → Prog T O S
ending h (Ret o s) = Ret o (h o s)
ending h (Pay n s p) = Pay n s (ending h p)
ending h (Turn s p) = Turn s (ending h p)
ending h (Do t s k) = Do t s (λ o s'. ending h (k o s'))
ending h (Again t s k) = Again t s (λ o s'. ending h (k o s'))

-- that change, as what a frame below the row does
abbrev pub ends_with : {O S : Type 0} → (O → S → S) → O → S → ℕ → Res O S
ends_with h o s f = Gives o (h o s) f

-- the units that are left
abbrev pub left_of : {O S : Type 0} → Res O S → ℕ
left_of (Gives o s f) = f
left_of (Spent s f) = f

-- the state in which it ends, or couldn't be paid
abbrev pub state_of : {O S : Type 0} → Res O S → S
state_of (Gives o s f) = s
state_of (Spent s f) = s
