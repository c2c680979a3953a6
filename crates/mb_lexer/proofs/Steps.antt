-- One step of the machine, by its move.
use Rattle.std.proofs.Common.{◌≡◌, ℕ, Bool, List, [], ◌∷◌, ◌++◌, Result, Ok, Err, refl, sym, ap}
use Rattle.std.proofs.lemmas.List.{append-nil}
use Rattle.std.specs.Char.Escape.{encode_utf16}
use Rattle.mb_lexer.specs.declared.state.State.{State}
use Rattle.mb_lexer.specs.declared.state.State.TheVariants.{Between}
use Rattle.mb_lexer.specs.declared.state.Move.TheVariants.{Goes, Adds, Ends}
use Rattle.mb_lexer.specs.Reading.{Lexeme, Stop, end}
use Rattle.mb_lexer.specs.machine.Machine.{Machine, Answer, idle, grown, ended, lasting, after_tokens, continued, move_of, begun, moved, run}

abbrev pub machine : State → ℕ → ℕ → Bool → List ℕ → Machine
machine s from to line us = record { state = s; from = from; to = to; line = line; units = us }

-- only the offset of what comes next
pub to_same : (s : State) (from t u : ℕ) (line : Bool) (us cs : List ℕ) → t ≡ u → run (machine s from t line us) cs ≡ run (machine s from u line us) cs
to_same s from t u line us cs e = ap (λ n. run (machine s from n line us) cs) e

-- between tokens the start and the units don't count
pub between_same : (from to : ℕ) (line : Bool) (us cs : List ℕ) → run (machine Between from to line us) cs ≡ run (idle to line) cs
between_same from to line us [] = refl
between_same from to line us (c ∷ cs) = refl

pub run_goes : (m : Machine) (c : ℕ) (s : State) (cs : List ℕ) → move_of m.state c ≡ Goes s → run m (c ∷ cs) ≡ run (grown m c s m.units) cs
run_goes m c s cs h = rw h refl

pub run_adds : (m : Machine) (c code : ℕ) (s : State) (cs : List ℕ) → move_of m.state c ≡ Adds s code → run m (c ∷ cs) ≡ run (grown m c s (m.units ++ encode_utf16 code)) cs
run_adds m c code s cs h = rw h refl

pub begin_goes : (at : ℕ) (line : Bool) (c : ℕ) (s : State) (cs : List ℕ) → begun c ≡ Goes s → run (idle at line) (c ∷ cs) ≡ run (grown (idle at line) c s []) cs
begin_goes at line c s cs h = rw h refl

pub begin_adds : (at : ℕ) (line : Bool) (c code : ℕ) (s : State) (cs : List ℕ) → begun c ≡ Adds s code → run (idle at line) (c ∷ cs) ≡ run (grown (idle at line) c s (encode_utf16 code)) cs
begin_adds at line c code s cs h = rw h refl

-- where tokens ended, those and what goes on
continued_after : (ts : List Lexeme) (next : Result Machine Stop) (more : Machine → Answer) → continued ts next more ≡ after_tokens ts (continued [] next more)
continued_after ts (Ok m) more = refl
continued_after ts (Err stop) more = λ i. record { tokens = sym (append-nil ts) i; stop = stop }

-- whether the open token ends here
abbrev pub Stops : Machine → List ℕ → Type 0
Stops m [] = Unit {0}
Stops m (c ∷ cs) = move_of m.state c ≡ Ends

pub run_ends : (m : Machine) (ts : List Lexeme) (cs : List ℕ) → ended m.state m ≡ Ok ts → Stops m cs → run m cs ≡ after_tokens ts (run (idle m.to (lasting ts m.line)) cs)
run_ends m ts [] e h = rw e (λ i. record { tokens = sym (append-nil ts) i; stop = end })
run_ends m ts (c ∷ cs) e h = rw (h, e) (continued_after ts (moved (idle m.to (lasting ts m.line)) c (begun c)).next (λ n. run n cs))
