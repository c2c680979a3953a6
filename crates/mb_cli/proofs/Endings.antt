-- How a task ends, and what follows of it for a call.
use Rattle.std.proofs.Common.{◌≡◌, ◌≢◌, ◌≤◌, ℕ, List, [], ◌++◌, Option, Some, None, false, length, refl, sym, ap, ap₂, subst, ◌∙◌, inl, inr, arith}
use Rattle.std.specs.Prelude.{◌↔◌}
use Rattle.mb_lexer.specs.Feeding.{Lexing, Fed}
use Rattle.mb_cli.specs.Sides.{left_side}
use Rattle.mb_load_tree.specs.Trees.{HasTree}
use Rattle.mb_cli.specs.Trees.{ScriptFault}
use Rattle.mb_cli.specs.Serving.{IsOnly, IsSomeEnd, IsAnswer, PutsFront, IsPut, Leaves, TellsFaults, IsFaultless, HasRoom}
use Rattle.mb_story.specs.Running.{Receives}
use Rattle.mb_world.specs.Data.{Data, fresh}
use Rattle.mb_model.specs.Text.{Text_of}
use Rattle.mb_cli.specs.Tasks.{Task, running, sharing, checking, IsEnd, PassesCheck, EndsCheck, Ends, Writes, right_line}
use Rattle.mb_cli.specs.first_form.Text.{text_of}
use Rattle.mb_cli.specs.machine.Lines.{IsPrefix}
use Rattle.mb_cli.specs.machine.Refusals.{status_of}
use Rattle.mb_cli.specs.machine.Scanned.{IsScanned}
use Rattle.mb_cli.specs.machine.TreeFaults.{refusal_of}
use Rattle.mb_cli.specs.declared.refusal.Refusal.{Refusal}
use Rattle.mb_cli.specs.declared.refusal.Refusal.TheVariants as refusal
use Rattle.mb_cli.specs.declared.tree.TreeFault.{TreeFault}
use Rattle.mb_cli.specs.declared.tree.TreeFault.TheVariants as tree
use Rattle.mb_cli.specs.declared.status.ScriptKind.{ScriptKind}
use Rattle.mb_cli.specs.declared.status.Which.TheVariants.{Script}
use Rattle.mb_cli.specs.declared.status.Status.{Status}
use Rattle.mb_cli.specs.declared.status.Status.TheVariants.{Done, Uncaught, BadWords, ReadFault, WriteFault, BadScript, Spent, TooLong, NoMemory}
use Rattle.mb_words.specs.declared.fault.WordsKind.{WordsKind}
use Rattle.mb_cli.proofs.OneAnswer.{never_both, one_fault}
use Rattle.mb_cli.proofs.Stories.{ends_by, is_end_by, one_story, shared_once, status_by}
use Rattle.mb_cli.proofs.first_form.Endings.{run_once, printed_once, printed_ends}

check_once : (script : Option (List ℕ)) (a b : Status) → EndsCheck script a → EndsCheck script b → a ≡ b
check_once (Some bytes) Done Done p q = refl
check_once (Some bytes) Done (BadScript s k) p q = absurd (never_both bytes k p.1 q.2)
check_once (Some bytes) Done (TooLong w) p q = absurd (omega (arith, p.0, q.1))
check_once (Some bytes) (BadScript s k) Done p q = absurd (never_both bytes k q.1 p.2)
check_once (Some bytes) (BadScript s k) (BadScript r j) p q = ap₂ BadScript (p.0 ∙ sym q.0) (one_fault bytes k j p.2 q.2)
check_once (Some bytes) (BadScript s k) (TooLong w) p q = absurd (omega (arith, p.1, q.1))
check_once (Some bytes) (TooLong v) Done p q = absurd (omega (arith, p.1, q.0))
check_once (Some bytes) (TooLong v) (BadScript s k) p q = absurd (omega (arith, p.1, q.1))
check_once (Some bytes) (TooLong v) (TooLong w) p q = ap TooLong (p.0 ∙ sym q.0)
check_once (Some bytes) Done b p q = absurd q
check_once (Some bytes) (BadScript s k) b p q = absurd q
check_once (Some bytes) (TooLong v) b p q = absurd q
check_once script a b p q = absurd p

-- a task ends one way
pub ends_once : (task : Task) (a b : Status) → Ends task a → Ends task b → a ≡ b
ends_once (running left right) a b p q = run_once left right a b p q
ends_once (sharing left right word n traced) a b p q = shared_once left right word n a b p q
ends_once (checking script) a b p q = check_once script a b p q

pub is_only : (task : Task) (status : Status) → Ends task status → IsOnly (Ends task) status
is_only task status p = record { one = p; only = λ other q. ends_once task other status q p }

-- a task writes one text
pub writes_once : (task : Task) (a b : List ℕ) → Writes task a → Writes task b → a ≡ b
writes_once (running left right) a b p q = printed_once left right a b p q
writes_once (sharing left right word n traced) a b (s, h, p) (t, k, q) =
    p ∙ ap (Text_of traced false) (one_story left right word n s t h k) ∙ sym q
writes_once (checking script) a b p q = p.1 ∙ sym q.1

passed_ends : (script : Option (List ℕ)) → PassesCheck script → EndsCheck script Done
passed_ends None p = absurd p
passed_ends (Some bytes) p = p

-- what is written is the text of scripts that are accepted
pub written_ends : (task : Task) (text : List ℕ) → Writes task text → (end : Status) × IsEnd end × Ends task end
written_ends (running left right) text w = (Done, tt, printed_ends left right text w)
written_ends (sharing left right word n traced) text (s, h, p) =
    (status_by s.ending, is_end_by s.ending, ends_by left right word n s.ending (s, h, refl))
written_ends (checking script) text w = (Done, tt, passed_ends script w.0)

-- a run whose put fails would have ended
pub some_end : (task : Task) → IsOnly (Ends task) Done → IsSomeEnd (Ends task)
some_end task only = record { end = Done; whole = tt; only = only }

-- a refusal is none of the statuses of a run or of the words
pub not_done : (r : Refusal) → status_of r ≢ Done
not_done refusal.ReadFault e = cc
not_done (refusal.Script s k) e = cc
not_done (refusal.TooLong w) e = cc
not_done refusal.NoMemory e = cc

pub not_write_fault : (r : Refusal) → status_of r ≢ WriteFault
not_write_fault refusal.ReadFault e = cc
not_write_fault (refusal.Script s k) e = cc
not_write_fault (refusal.TooLong w) e = cc
not_write_fault refusal.NoMemory e = cc

pub not_words : (r : Refusal) (kind : WordsKind) → status_of r ≢ BadWords kind
not_words refusal.ReadFault kind e = cc
not_words (refusal.Script s k) kind e = cc
not_words (refusal.TooLong w) kind e = cc
not_words refusal.NoMemory kind e = cc

-- a prefix of a text that is written
pub puts_front : (task : Task) (text : List ℕ) (old new : Option (List ℕ)) → Writes task text
    → ((taken : List ℕ) → old ≡ Some taken → (front : List ℕ) × IsPrefix front text × (new ≡ Some (taken ++ front))) → PutsFront task (Receives old new)
puts_front task text None new writes put = record { front = []; rest = text; writes = writes; put = tt }
puts_front task text (Some taken) new writes put =
    let found = put taken refl in record { front = found.0; rest = found.1.0; writes = subst (Writes task) found.1.1 writes; put = found.2 }

pub receives : (old new : Option (List ℕ)) (bytes : List ℕ) → ((taken : List ℕ) → old ≡ Some taken → new ≡ Some (taken ++ bytes)) → Receives old new bytes
receives None new bytes put = tt
receives (Some taken) new bytes put = put taken refl

-- where a command is refused nothing was put
pub refused_put : (task : Task) (r : Refusal) (P : Type 0) (receives : List ℕ → Type 0) → P → IsPut task (status_of r) P receives
refused_put task refusal.ReadFault P receives p = p
refused_put task (refusal.Script s k) P receives p = p
refused_put task (refusal.TooLong w) P receives p = p
refused_put task refusal.NoMemory P receives p = inl p

pub refused_leaves : (r : Refusal) (world : Data) (P : Type 0) → world ≡ fresh → P → Leaves (status_of r) world P
refused_leaves refusal.ReadFault world P w p = (w, p)
refused_leaves (refusal.Script s k) world P w p = (w, p)
refused_leaves (refusal.TooLong long) world P w p = (w, p)
refused_leaves refusal.NoMemory world P w p = inr (w, p)

-- the counts of faults

pub no_put : (r : Refusal) (count : ℕ) → TellsFaults WriteFault (status_of r) count count
no_put r count = record { later = omega arith; cause = λ e. absurd (not_write_fault r e); told = λ lt. absurd (omega (arith, lt)) }

pub refused_faultless : (r : Refusal) (count : ℕ) → IsFaultless WriteFault (status_of r) count count
refused_faultless r count = record { count = refl; answer = not_write_fault r }

-- the command `check`

pub passes : (texts : List (List ℕ)) (held : Option (List ℕ)) (lexer : Lexing) → IsScanned texts held (Some lexer)
    → ((bytes : List ℕ) → Fed lexer texts bytes → HasTree bytes) → PassesCheck held
passes texts None lexer scanned has = absurd scanned
passes texts (Some bytes) lexer scanned has = (scanned.0, has bytes scanned.1)

pub passed_answer : (held : Option (List ℕ)) → PassesCheck held → IsOnly (EndsCheck held) Done
passed_answer held passed = is_only (checking held) Done (passed_ends held passed)

pub faulty_answer : (texts : List (List ℕ)) (held : Option (List ℕ)) (lexer : Lexing) (fault : TreeFault) (r : Refusal) → IsScanned texts held (Some lexer)
    → ((bytes : List ℕ) (kind : ScriptKind) → Fed lexer texts bytes → fault ≡ tree.Bad kind → ScriptFault bytes kind) → r ≡ refusal_of left_side fault
    → IsAnswer (checking held) (status_of r)
faulty_answer texts None lexer fault r scanned has is = absurd scanned
faulty_answer texts (Some bytes) lexer (tree.Bad kind) r scanned has is =
    subst (λ x. IsAnswer (checking (Some bytes)) (status_of x)) (sym is)
    (is_only (checking (Some bytes)) (BadScript left_side kind) (refl, scanned.0, has bytes kind scanned.1 refl))
faulty_answer texts (Some bytes) lexer tree.NoMemory r scanned has is = subst (λ x. IsAnswer (checking (Some bytes)) (status_of x)) (sym is) tt

pub long_answer : (texts : List (List ℕ)) (held : Option (List ℕ)) → IsScanned texts held None → IsAnswer (checking held) (TooLong (Script left_side))
long_answer texts None scanned = absurd scanned
long_answer texts (Some bytes) long = is_only (checking (Some bytes)) (TooLong (Script left_side)) (refl, long)

-- the sink has room for the text
pub room_enough : (task : Task) (told : Option ℕ) (lines : List ℕ) → HasRoom task told → Writes task lines → (room : ℕ) × (told ≡ Some room) × (length lines ≤ room)
room_enough task None lines has writes = absurd has
room_enough task (Some room) lines (text, written, fits) writes =
    (room, refl, subst (λ t. length t ≤ room) (writes_once task text lines written writes) fits)

-- answers come exactly where the scripts give them

only_exact : (P : Status → Type 0) (answer given : Status) → IsOnly P answer → (answer ≡ given) ↔ P given
only_exact P answer given a = (λ e. subst P e a.one, λ ends. sym (a.only given ends))

pub whole_exact : (task : Task) (answer given : Status) → IsAnswer task answer → IsEnd given → answer ≢ ReadFault
    → answer ≢ WriteFault → answer ≢ NoMemory → (answer ≡ given) ↔ Ends task given
whole_exact task Done given a is r w m = only_exact (Ends task) Done given a
whole_exact task Uncaught given a is r w m = only_exact (Ends task) Uncaught given a
whole_exact task Spent given a is r w m = only_exact (Ends task) Spent given a
whole_exact task WriteFault given a is r w m = absurd (w refl)
whole_exact task (BadScript s k) given a is r w m = only_exact (Ends task) (BadScript s k) given a
whole_exact task (TooLong v) given a is r w m = only_exact (Ends task) (TooLong v) given a
whole_exact task (BadWords kind) given a is r w m = absurd a
whole_exact task ReadFault given a is r w m = absurd (r refl)
whole_exact task NoMemory given a is r w m = absurd (m refl)

pub exact : (task : Task) (answer given : Status) → IsAnswer task answer → answer ≢ ReadFault → answer ≢ NoMemory
    → (IsEnd given → ⊥) → given ≢ WriteFault → (answer ≡ given) ↔ Ends task given
exact task Done given a r m d w = only_exact (Ends task) Done given a
exact task Uncaught given a r m d w = only_exact (Ends task) Uncaught given a
exact task Spent given a r m d w = only_exact (Ends task) Spent given a
exact task WriteFault given a r m d w =
    (λ e. absurd (w (sym e)), λ ends. absurd (d (subst IsEnd (sym (a.only.only given ends)) a.whole)))
exact task (BadScript s k) given a r m d w = only_exact (Ends task) (BadScript s k) given a
exact task (TooLong v) given a r m d w = only_exact (Ends task) (TooLong v) given a
exact task (BadWords kind) given a r m d w = absurd a
exact task ReadFault given a r m d w = absurd (r refl)
exact task NoMemory given a r m d w = absurd (m refl)

abbrev Text : Task → Type 0
Text task = (text : List ℕ) × Writes task text

pub ends_written : (task : Task) (end : Status) → IsEnd end → Ends task end → Text task
ends_written (running left right) Done is ends =
    (text_of ends.0.0 ends.1.0, record { lefts = ends.0.0; rights = ends.1.0; left_prints = ends.0.1; right_prints = ends.1.1; text_is = refl })
ends_written (running left right) Uncaught is ends = absurd ends
ends_written (running left right) Spent is ends = absurd ends
ends_written (sharing left right word n traced) Done is (s, h, e) = (Text_of traced false s, (s, h, refl))
ends_written (sharing left right word n traced) Uncaught is (s, h, e) = (Text_of traced false s, (s, h, refl))
ends_written (sharing left right word n traced) Spent is (s, h, e) = (Text_of traced false s, (s, h, refl))
ends_written (checking None) Done is ends = absurd ends
ends_written (checking (Some bytes)) Done is ends = (right_line, (ends, refl))
ends_written (checking script) Uncaught is ends = absurd ends
ends_written (checking script) Spent is ends = absurd ends
ends_written task end is ends = absurd is
