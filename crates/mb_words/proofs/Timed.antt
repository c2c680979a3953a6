-- What is asked for with operands, a schedule and a budget.
use Rattle.std.proofs.Common.{◌≡◌, ◌∙◌, sym, ap, ap₂, subst, ℕ, ◌≤◌, Bool, true, ◌&&◌, nat_le, List, [], ◌∷◌, length, Option, Some, None, Ok, Err, if◌then◌else◌, string_bytes}
use Rattle.std.proofs.lemmas.Bool.{le-leb}
use Rattle.mb_words.specs.declared.asked.Timing as code
use Rattle.mb_words.specs.declared.command.Command.{Command}
use Rattle.mb_words.specs.declared.command.Command.TheVariants.{Run, Shared, Sides}
use Rattle.mb_words.specs.declared.fault.WordsKind.TheVariants.{Usage, Schedule, Budget}
use Rattle.mb_words.specs.declared.fault.WordsFault.{WordsFault}
use Rattle.mb_words.specs.declared.fault.WordsFault.TheVariants.{Refused, NoMemory}
use Rattle.mb_words.specs.Words.{Word}
use Rattle.mb_words.specs.Values.{schedule_of, schedule_fault, budget_of}
use Rattle.mb_words.specs.Settings.{Asked, Reading, Answers, to_run, to_share, to_run_sides, asked, timed, by_schedule, by_budget}
use Rattle.mb_words.specs.machine.Scanning.{Slots, whole}
use Rattle.mb_words.specs.machine.Timing.{Times}

-- ---- faults and values of the two

pub bad_schedule : (command : Command) (sides : ℕ) (s : Slots) (word : Word) (at : ℕ)
    → word ≡ schedule_of s.schedule → Some at ≡ schedule_fault command sides word
    → (operands : List Word) (ask : Word → ℕ → Asked) → timed command sides (whole operands s) ask ≡ Err (Schedule at)
bad_schedule command sides s word at e fault operands ask =
    ap (λ (o : Option ℕ). by_schedule o (by_budget (budget_of s.budget) (ask (schedule_of s.schedule))))
    (sym (fault ∙ ap (schedule_fault command sides) e))

good_schedule : (command : Command) (sides : ℕ) (s : Slots) (word : Word)
    → word ≡ schedule_of s.schedule → None ≡ schedule_fault command sides word
    → (operands : List Word) (ask : Word → ℕ → Asked)
    → timed command sides (whole operands s) ask ≡ by_budget (budget_of s.budget) (ask (schedule_of s.schedule))
good_schedule command sides s word e fault operands ask =
    ap (λ (o : Option ℕ). by_schedule o (by_budget (budget_of s.budget) (ask (schedule_of s.schedule))))
    (sym (fault ∙ ap (schedule_fault command sides) e))

pub bad_budget : (command : Command) (sides : ℕ) (s : Slots) (word : Word)
    → word ≡ schedule_of s.schedule → None ≡ schedule_fault command sides word → None ≡ budget_of s.budget
    → (operands : List Word) (ask : Word → ℕ → Asked) → timed command sides (whole operands s) ask ≡ Err Budget
bad_budget command sides s word e fault budget operands ask =
    good_schedule command sides s word e fault operands ask
    ∙ ap (λ (o : Option ℕ). by_budget o (ask (schedule_of s.schedule))) (sym budget)

pub both_good : (command : Command) (sides : ℕ) (s : Slots) (word own : Word) (n : ℕ)
    → word ≡ schedule_of s.schedule → None ≡ schedule_fault command sides word → Some n ≡ budget_of s.budget → own ≡ word
    → (operands : List Word) (ask : Word → ℕ → Asked) → timed command sides (whole operands s) ask ≡ Ok (ask own n)
both_good command sides s word own n e fault budget is operands ask =
    good_schedule command sides s word e fault operands ask
    ∙ ap (λ (o : Option ℕ). by_budget o (ask (schedule_of s.schedule))) (sym budget)
    ∙ ap (λ (w : Word). Ok (ask w n)) (sym (is ∙ e))

-- ---- what each command asks for

refused : (fault : WordsFault) (command : Command) (sides : ℕ) (s : Slots) → Times (Err fault) command sides s
    → (operands : List Word) (ask : Word → ℕ → Asked) → Answers (Err fault) (timed command sides (whole operands s) ask)
refused (Refused kind) command sides s h operands ask = h operands ask
refused NoMemory command sides s h operands ask = tt

pub run_refused : (operands : List Word) (l r : Word) (s : Slots) (fault : WordsFault) → operands ≡ l ∷ r ∷ []
    → Times (Err fault) Run 2 s → Answers (Err fault) (asked Run (whole operands s))
run_refused operands l r s fault e h =
    let P : List Word → Type 0 = λ ws. Answers (Err fault) (asked Run (whole ws s)) in
    subst P (sym e) (refused fault Run 2 s h (l ∷ r ∷ []) (λ word n. to_run l r s.policy word n s.traced))

pub run_given : (operands : List Word) (l r : Word) (s : Slots) (t : code.Timing) → operands ≡ l ∷ r ∷ []
    → Times (Ok t) Run 2 s
    → asked Run (whole operands s) ≡ Ok (to_run l r s.policy (string_bytes t.schedule) t.budget s.traced)
run_given operands l r s t e h =
    ap (λ (ws : List Word). asked Run (whole ws s)) e ∙ h (l ∷ r ∷ []) (λ word n. to_run l r s.policy word n s.traced)

pub shared_refused : (operands : List Word) (l r : Word) (s : Slots) (fault : WordsFault) → operands ≡ l ∷ r ∷ []
    → Times (Err fault) Shared 2 s → Answers (Err fault) (asked Shared (whole operands s))
shared_refused operands l r s fault e h =
    let P : List Word → Type 0 = λ ws. Answers (Err fault) (asked Shared (whole ws s)) in
    subst P (sym e) (refused fault Shared 2 s h (l ∷ r ∷ []) (λ word n. to_share l r word n s.traced))

pub shared_given : (operands : List Word) (l r : Word) (s : Slots) (t : code.Timing) → operands ≡ l ∷ r ∷ []
    → Times (Ok t) Shared 2 s
    → asked Shared (whole operands s) ≡ Ok (to_share l r (string_bytes t.schedule) t.budget s.traced)
shared_given operands l r s t e h =
    ap (λ (ws : List Word). asked Shared (whole ws s)) e ∙ h (l ∷ r ∷ []) (λ word n. to_share l r word n s.traced)

abbrev enough : ℕ → Bool
enough n = nat_le 2 n && nat_le n 8

is_enough : (n : ℕ) → 2 ≤ n → n ≤ 8 → enough n ≡ true
is_enough n low high = ap₂ (λ (b d : Bool). b && d) (le-leb _ _ low) (le-leb _ _ high)

abbrev when : Bool → Reading → Reading
when b reading = if b then reading else Err Usage

pub sides_refused : (operands : List Word) (s : Slots) (fault : WordsFault) (n : ℕ) → n ≡ length operands → 2 ≤ n → n ≤ 8
    → Times (Err fault) Sides n s → Answers (Err fault) (asked Sides (whole operands s))
sides_refused operands s fault n e low high h =
    let ask : Word → ℕ → Asked = λ word m. to_run_sides operands s.policy word m s.traced in
    let fits : enough (length operands) ≡ true = ap enough (sym e) ∙ is_enough n low high in
    let times : Times (Err fault) Sides (length operands) s = subst (λ (m : ℕ). Times (Err fault) Sides m s) e h in
    let P : Bool → Type 0 = λ b. Answers (Err fault) (when b (timed Sides (length operands) (whole operands s) ask)) in
    subst P (sym fits) (refused fault Sides (length operands) s times operands ask)

pub sides_given : (operands : List Word) (s : Slots) (t : code.Timing) (n : ℕ) → n ≡ length operands → 2 ≤ n → n ≤ 8
    → Times (Ok t) Sides n s
    → asked Sides (whole operands s) ≡ Ok (to_run_sides operands s.policy (string_bytes t.schedule) t.budget s.traced)
sides_given operands s t n e low high h =
    let ask : Word → ℕ → Asked = λ word m. to_run_sides operands s.policy word m s.traced in
    let fits : enough (length operands) ≡ true = ap enough (sym e) ∙ is_enough n low high in
    let times : Times (Ok t) Sides (length operands) s = subst (λ (m : ℕ). Times (Ok t) Sides m s) e h in
    ap (λ (b : Bool). when b (timed Sides (length operands) (whole operands s) ask)) fits ∙ times operands ask
