-- How `run` ends by two scripts of the first form.
use Rattle.std.proofs.Common.{◌≡◌, ◌<◌, ◌≤◌, ℕ, List, Option, Some, None, length, refl, sym, ap₂, subst, ◌∙◌, inl, inr, arith}
use Rattle.std.specs.Prelude.{◌⊎◌, IsSome}
use Rattle.std.proofs.lemmas.Option.{none-some}
use Rattle.mb_base.specs.declared.value.Side.{Side}
use Rattle.mb_cli.specs.Sides.{left_side, right_side}
use Rattle.mb_load_tree.specs.Trees.{HasTree}
use Rattle.mb_cli.specs.first_form.Form.{Literal, HasLiterals, longest}
use Rattle.mb_cli.specs.first_form.Prints.{Prints, IsPrinted, IsNotRun, faulty, other_form, too_long, EndsRun, Printed}
use Rattle.mb_cli.specs.first_form.Text.{text_of}
use Rattle.mb_cli.specs.first_form.machine.FormFaults.{of_form}
use Rattle.mb_cli.specs.first_form.machine.Whole.{IsWhole}
use Rattle.mb_cli.specs.Serving.{IsOnly, IsAnswer}
use Rattle.mb_cli.specs.Tasks.{running}
use Rattle.mb_cli.specs.machine.Refusals.{status_of}
use Rattle.mb_cli.specs.machine.TreeFaults.{refusal_of}
use Rattle.mb_cli.specs.declared.first_form.whole.Script.{Script}
use Rattle.mb_cli.specs.declared.first_form.script.FormFault.{FormFault}
use Rattle.mb_cli.specs.declared.first_form.script.FormFault.TheVariants as form
use Rattle.mb_cli.specs.declared.refusal.Refusal.{Refusal}
use Rattle.mb_cli.specs.declared.refusal.Refusal.TheVariants as refusal
use Rattle.mb_cli.specs.declared.tree.TreeFault.{TreeFault}
use Rattle.mb_cli.specs.declared.tree.TreeFault.TheVariants as tree
use Rattle.mb_cli.specs.declared.tree.TreeFault.TheVariants.{Bad}
use Rattle.mb_cli.specs.declared.status.Status.{Status}
use Rattle.mb_cli.specs.declared.status.Status.TheVariants.{Done, BadScript}
use Rattle.mb_cli.specs.declared.status.ScriptKind.{ScriptKind}
use Rattle.mb_cli.specs.declared.status.ScriptKind.TheVariants.{Shape}
use Rattle.mb_cli.proofs.OneAnswer.{never_both, one_fault}
use Rattle.mb_cli.proofs.first_form.FirstForm.{first_form}
use Rattle.mb_cli.proofs.first_form.Statements.{literals_once}

-- a script that is run isn't refused
printed_or_not : (script : Option (List ℕ)) (kind : ScriptKind) → IsPrinted script → IsNotRun script kind → ⊥
printed_or_not script kind printed (faulty {bytes = bytes} within fault) = never_both bytes kind (first_form bytes printed.0 printed.1.1) fault
printed_or_not script kind printed (other_form {bytes = bytes} within tree none) = none printed.0 printed.1.1
printed_or_not script kind printed (too_long {bytes = bytes} long) = let within : length bytes ≤ longest = printed.1.0 in omega arith

-- and it is refused for one reason
not_run_once : (script : Option (List ℕ)) (a b : ScriptKind) → IsNotRun script a → IsNotRun script b → a ≡ b
not_run_once script a b (faulty {bytes = bytes} within fault) (faulty _ other) = one_fault bytes a b fault other
not_run_once script a b (faulty {bytes = bytes} within fault) (other_form _ tree none) = absurd (never_both bytes a tree fault)
not_run_once script a b (faulty {bytes = bytes} within fault) (too_long long) = absurd (omega arith)
not_run_once script a b (other_form {bytes = bytes} within tree none) (faulty _ fault) = absurd (never_both bytes b tree fault)
not_run_once script a b (other_form {bytes = bytes} within tree none) (other_form _ _ _) = refl
not_run_once script a b (other_form {bytes = bytes} within tree none) (too_long long) = refl
not_run_once script a b (too_long {bytes = bytes} long) (faulty within fault) = absurd (omega arith)
not_run_once script a b (too_long {bytes = bytes} long) (other_form within tree none) = refl
not_run_once script a b (too_long {bytes = bytes} long) (too_long _) = refl

-- two scripts end one way
pub run_once : (left right : Option (List ℕ)) (a b : Status) → EndsRun left right a → EndsRun left right b → a ≡ b
run_once left right Done Done p q = refl
run_once left right Done (BadScript s k) p (inl (is, some, refused)) = absurd (printed_or_not left k p.0 refused)
run_once left right Done (BadScript s k) p (inr (is, printed, refused)) = absurd (printed_or_not right k p.1 refused)
run_once left right (BadScript s k) Done (inl (is, some, refused)) q = absurd (printed_or_not left k q.0 refused)
run_once left right (BadScript s k) Done (inr (is, printed, refused)) q = absurd (printed_or_not right k q.1 refused)
run_once left right (BadScript s k) (BadScript r j) (inl (is, some, refused)) (inl (same, there, other)) =
    ap₂ BadScript (is ∙ sym same) (not_run_once left k j refused other)
run_once left right (BadScript s k) (BadScript r j) (inl (is, some, refused)) (inr (same, printed, other)) = absurd (printed_or_not left k printed refused)
run_once left right (BadScript s k) (BadScript r j) (inr (is, printed, refused)) (inl (same, there, other)) = absurd (printed_or_not left j printed other)
run_once left right (BadScript s k) (BadScript r j) (inr (is, printed, refused)) (inr (same, printed', other)) =
    ap₂ BadScript (is ∙ sym same) (not_run_once right k j refused other)
run_once left right Done b p q = absurd q
run_once left right (BadScript s k) b p q = absurd q
run_once left right a b p q = absurd p

pub only_run : (left right : Option (List ℕ)) (status : Status) → EndsRun left right status → IsOnly (EndsRun left right) status
only_run left right status p = record { one = p; only = λ other q. run_once left right other status q p }

prints_once : (script : Option (List ℕ)) (a b : List Literal) → Prints script a → Prints script b → a ≡ b
prints_once None a b p q = absurd p
prints_once (Some bytes) a b p q = literals_once bytes a b p.1 q.1

-- and print one text
pub printed_once : (left right : Option (List ℕ)) (a b : List ℕ) → Printed left right a → Printed left right b → a ≡ b
printed_once left right a b p q =
    p.text_is ∙ ap₂ text_of (prints_once left p.lefts q.lefts p.left_prints q.left_prints) (prints_once right p.rights q.rights p.right_prints q.right_prints) ∙ sym q.text_is

-- the scripts whose text is printed are accepted
pub printed_ends : (left right : Option (List ℕ)) (text : List ℕ) → Printed left right text → EndsRun left right Done
printed_ends left right text w = ((w.lefts, w.left_prints), (w.rights, w.right_prints))

-- refusals

-- the text of a script, whose bytes are refused
pub not_run_text : (held : Option (List ℕ)) (script : Script) (kind : ScriptKind) → IsWhole longest held (Some script)
    → IsNotRun (Some script.bytes.items) kind → IsNotRun held kind
not_run_text held script kind whole refused = subst (λ h. IsNotRun h kind) (sym whole.0) refused

-- or which is too long
pub not_run_long : (held : Option (List ℕ)) → IsWhole longest held None → IsNotRun held Shape
not_run_long None whole = absurd whole
not_run_long (Some bytes) long = too_long long

pub there : (script : Option (List ℕ)) (read : Option Script) (most : ℕ) → IsWhole most script read → IsSome script
there None None most whole = absurd whole
there None (Some read) most whole = absurd (none-some read.bytes.items whole.0)
there (Some text) read most whole = refl

-- a refusal of the reader of the first form
pub by_form : (bytes : List ℕ) (fault : FormFault) (k : ScriptKind) → length bytes ≤ longest → HasTree bytes
    → (fault ≡ form.Shape → (literals : List Literal) → HasLiterals bytes literals → ⊥) → of_form fault ≡ Bad k → IsNotRun (Some bytes) k
by_form bytes form.Shape k within tree none e = let same : Shape ≡ k = cc in subst (IsNotRun (Some bytes)) same (other_form within tree (none refl))
by_form bytes form.NoMemory k within tree none e = cc

pub not_run_fault : (s : Side) (held : Option (List ℕ)) (script : Script) (fault : TreeFault) (answer : Refusal)
    → IsWhole longest held (Some script)
    → ((kind : ScriptKind) → fault ≡ Bad kind → IsNotRun (Some script.bytes.items) kind) → answer ≡ refusal_of s fault
    → (answer ≡ refusal.NoMemory) ⊎ ((kind : ScriptKind) × (answer ≡ refusal.Script s kind) × IsNotRun held kind)
not_run_fault s held script (Bad kind) answer whole refused e = inr (kind, e, not_run_text held script kind whole (refused kind refl))
not_run_fault s held script tree.NoMemory answer whole refused e = inl e

-- the answer where the left script is refused, and where only the right one is

pub left_answer : (lefts rights : Option (List ℕ)) (r : Refusal) → IsSome rights
    → (r ≡ refusal.NoMemory) ⊎ ((kind : ScriptKind) × (r ≡ refusal.Script left_side kind) × IsNotRun lefts kind)
    → IsAnswer (running lefts rights) (status_of r)
left_answer lefts rights r some (inl none) = subst (λ x. IsAnswer (running lefts rights) (status_of x)) (sym none) tt
left_answer lefts rights r some (inr (kind, is, refused)) =
    subst (λ x. IsAnswer (running lefts rights) (status_of x)) (sym is) (only_run lefts rights (BadScript left_side kind) (inl (refl, some, refused)))

pub right_answer : (lefts rights : Option (List ℕ)) (r : Refusal) → IsPrinted lefts
    → (r ≡ refusal.NoMemory) ⊎ ((kind : ScriptKind) × (r ≡ refusal.Script right_side kind) × IsNotRun rights kind)
    → IsAnswer (running lefts rights) (status_of r)
right_answer lefts rights r printed (inl none) = subst (λ x. IsAnswer (running lefts rights) (status_of x)) (sym none) tt
right_answer lefts rights r printed (inr (kind, is, refused)) =
    subst (λ x. IsAnswer (running lefts rights) (status_of x)) (sym is) (only_run lefts rights (BadScript right_side kind) (inr (refl, printed, refused)))

-- a text that is too long to be run
pub whole_long : (most : ℕ) (held : Option (List ℕ)) (found : (whole : List ℕ) × (held ≡ Some whole) × (most < length whole)) → IsWhole most held None
whole_long most held (whole, is, long) = subst (λ x. IsWhole most x None) (sym is) long
