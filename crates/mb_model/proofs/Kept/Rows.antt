use Rattle.std.proofs.Common.{ℕ, zero, suc, ◌-◌, Bool, true, false, nat_lt, if◌then◌else◌}
use Rattle.mb_world.specs.Graph.{Graph, Entry}
use Rattle.mb_world.specs.Objects.{thing_at}
use Rattle.mb_model.specs.Engine.{Gives, Spent, Ret, Pay, Turn, Do, Again, by, and_then, charged, exec, within, given, means, ending}
use Rattle.mb_model.specs.Task.{Task, Evaluate, Loop, Chain, Walk, Perform, Enter, Run, Access, Visit, Answer, Outcome, Normal}
use Rattle.mb_model.specs.Writing.{Row, Does}
use Rattle.mb_model.specs.Nodes.Evaluation.{Context}
use Rattle.mb_model.specs.Nodes.Functions.{enter_row}
use Rattle.mb_model.specs.Nodes.Statements.{loop_row}
use Rattle.mb_model.specs.Nodes.BinaryOperators.{chain_row}
use Rattle.mb_model.specs.Nodes.{node_row}
use Rattle.mb_model.specs.Objects.Methods.{walk_row}
use Rattle.mb_model.specs.BuiltIns.Collections.{access_row, visit_row}
use Rattle.mb_model.specs.BuiltIns.{run_row}
use Rattle.mb_model.specs.Trace.Entries.{with_entry, method_entry, access_entry, makes_entry, is_foreign_at, method_noted, access_noted}
use Rattle.mb_model.specs.Meaning.{row, finished, entering, entries_made, perform_row, Ends, Means}
use Rattle.mb_model.proofs.Kept.Words.{Kept, Along, Fitted, Holds, At, along-stays, along-on}
use Rattle.mb_model.proofs.Kept.Nodes.{keeps-node_row}
use Rattle.mb_model.proofs.Kept.NodesStatements.{keeps-loop_row}
use Rattle.mb_model.proofs.Kept.NodesBinaryOperators.{keeps-chain_row}
use Rattle.mb_model.proofs.Kept.NodesFunctions.{keeps-enter_row}
use Rattle.mb_model.proofs.Kept.Methods.{at-walk_row, at-perform_row}
use Rattle.mb_model.proofs.Kept.Slots.{at-access_row}
use Rattle.mb_model.proofs.Kept.BuiltIns.{keeps-run_row}
use Rattle.mb_model.proofs.Kept.BuiltInsCollections.{keeps-visit_row}

-- what goes on along the changes of rows goes on along the whole meaning

-- nothing more is owed, nothing known, and an entry more changes nothing
pub record IsPlain (kept : Kept) : Type 0 where
  pub owes : (b g : Graph) (o : Outcome) → kept.to b g → kept.owed b o g
  pub knows : (t : Task) (s g : Graph) (o : Outcome) → kept.known t s o g
  pub notes : (b g : Graph) (e : Entry) → kept.to b g → kept.to b (with_entry e g)

-- nothing more is owed where a row ends
abbrev pub OwesNothing : Kept → Type 0
OwesNothing kept = (b g : Graph) (o : Outcome) → kept.to b g → kept.owed b o g

-- a whole row
pub whole : (kept : Kept) (g : Graph) (m : Does Answer) → OwesNothing kept → At kept g m → Along kept g g → Holds kept g (m finished g)
whole kept g m owes p a = p finished g a (λ x g' q. (q, owes g g' (Normal x) q.1))

pub ending-holds : (kept : Kept) (b : Graph) (noted : Outcome → Graph → Graph) (p : Row) →
    ((o : Outcome) (g : Graph) → Along kept b g → kept.owed b o g → Along kept b (noted o g) × kept.owed b o (noted o g)) →
    Holds kept b p → Holds kept b (ending noted p)
ending-holds kept b noted (Ret o s) n h = n o s h.0 h.1
ending-holds kept b noted (Pay c s p) n h = (h.0, ending-holds kept b noted p n h.1)
ending-holds kept b noted (Turn s p) n h = (h.0, ending-holds kept b noted p n h.1)
ending-holds kept b noted (Do t s k) n h = (h.0, h.1, λ o s' q i. ending-holds kept b noted (k o s') n (h.2 o s' q i))
ending-holds kept b noted (Again t s k) n h = (h.0, h.1, λ o s' q i. ending-holds kept b noted (k o s') n (h.2 o s' q i))

pub entering-holds : (kept : Kept) (b : Graph) (enters : Bool) (noted : Outcome → Graph → Graph) (p : Row) →
    ((o : Outcome) (g : Graph) → Along kept b g → kept.owed b o g → Along kept b (noted o g) × kept.owed b o (noted o g)) →
    Holds kept b p → Holds kept b (entering enters noted p)
entering-holds kept b true noted p n h = ending-holds kept b noted p n h
entering-holds kept b false noted p n h = h

-- the row of a task, without the entry that it may make where it ends
abbrev pub plain_row : Task → Graph → Row
plain_row (Perform s m o v enters) = perform_row s v o m finished
plain_row (Access s p c a) = access_row s c a finished
plain_row t = row t

pub plain-holds : (kept : Kept) → OwesNothing kept → (t : Task) (g : Graph) → Fitted kept t g → Along kept g g →
    Holds kept g (plain_row t g)
plain-holds kept owes (Evaluate s n sc this) g fit a =
    let c : Context = record { side = s; scope = sc; this = this } in
    whole kept g (node_row c n) owes ((keeps-node_row kept c n).goes g) a
plain-holds kept owes (Loop s n sc this) g fit a =
    let c : Context = record { side = s; scope = sc; this = this } in
    whole kept g (loop_row c n) owes ((keeps-loop_row kept c n).goes g) a
plain-holds kept owes (Chain s x p) g fit a = whole kept g (chain_row s x p) owes ((keeps-chain_row kept s x p).goes g) a
plain-holds kept owes (Walk o p x) g fit a = whole kept g (walk_row o p x) owes (at-walk_row kept g o p x fit.0) a
plain-holds kept owes (Perform s m o v enters) g fit a =
    whole kept g (perform_row s v o m) owes (at-perform_row kept g s v o m fit.0) a
plain-holds kept owes (Enter f this vs) g fit a =
    whole kept g (enter_row f this vs) owes ((keeps-enter_row kept f this vs).goes g) a
plain-holds kept owes (Run s p this vs target) g fit a =
    whole kept g (run_row s p this vs target) owes ((keeps-run_row kept s p this vs target).goes g) a
plain-holds kept owes (Access s p c r) g fit a = whole kept g (access_row s c r) owes (at-access_row kept g s c r) a
plain-holds kept owes (Visit s p c f this n) g fit a =
    whole kept g (visit_row s p c f this n) owes ((keeps-visit_row kept s p c f this n).goes g) a

noted-holds : (kept : Kept) → IsPlain kept → (b : Graph) (e : Outcome → Graph → Entry) (o : Outcome) (g : Graph) →
    Along kept b g → Along kept b (with_entry (e o g) g) × kept.owed b o (with_entry (e o g) g)
noted-holds kept plain b e o g h =
    let to = plain.notes b g (e o g) h.1 in
    ((λ a x. h.0 a x, to), plain.owes b (with_entry (e o g) g) o to)

pub row-holds : (kept : Kept) → IsPlain kept → (t : Task) (g : Graph) → Fitted kept t g → Along kept g g →
    Holds kept g (row t g)
row-holds kept plain (Perform s m o v enters) g fit a =
    entering-holds kept g (makes_entry enters s o g) (method_noted (entries_made g) s o m) (perform_row s v o m finished g)
    (λ q g' h i. noted-holds kept plain g (λ o' _. method_entry (entries_made g) s o m o') q g' h)
    (plain-holds kept plain.owes (Perform s m o v enters) g fit a)
row-holds kept plain (Access s p c r) g fit a =
    entering-holds kept g (is_foreign_at s (thing_at g c)) (access_noted (entries_made g) s p c r) (access_row s c r finished g)
    (λ q g' h i. noted-holds kept plain g (λ o' _. access_entry (entries_made g) s p c r o') q g' h)
    (plain-holds kept plain.owes (Access s p c r) g fit a)
row-holds kept plain (Evaluate s n sc this) g fit a = plain-holds kept plain.owes (Evaluate s n sc this) g fit a
row-holds kept plain (Loop s n sc this) g fit a = plain-holds kept plain.owes (Loop s n sc this) g fit a
row-holds kept plain (Chain s x p) g fit a = plain-holds kept plain.owes (Chain s x p) g fit a
row-holds kept plain (Walk o p x) g fit a = plain-holds kept plain.owes (Walk o p x) g fit a
row-holds kept plain (Enter f this vs) g fit a = plain-holds kept plain.owes (Enter f this vs) g fit a
row-holds kept plain (Run s p this vs target) g fit a = plain-holds kept plain.owes (Run s p this vs target) g fit a
row-holds kept plain (Visit s p c f this n) g fit a = plain-holds kept plain.owes (Visit s p c f this n) g fit a

-- ---- what tasks give

-- what is known of a task that ended, and what is owed of a row
abbrev pub EndKnown : Kept → Task → Graph → Ends → Type 0
EndKnown kept t b (Gives o s f) = Along kept b s × kept.known t b o s
EndKnown kept t b (Spent s f) = Along kept b s

abbrev pub EndOwed : Kept → Graph → Ends → Type 0
EndOwed kept b (Gives o s f) = Along kept b s × kept.owed b o s
EndOwed kept b (Spent s f) = Along kept b s

if-owed : (kept : Kept) (b : Graph) (c : Bool) (x y : Ends) → EndOwed kept b x → EndOwed kept b y →
    EndOwed kept b (if c then x else y)
if-owed kept b true x y p q = p
if-owed kept b false x y p q = q

then-owed : (kept : Kept) (b s : Graph) (t : Task) (r : Ends) (k : Outcome → Graph → ℕ → Ends) → Along kept b s →
    EndKnown kept t s r →
    ((o : Outcome) (s' : Graph) (f : ℕ) → Along kept s s' → kept.known t s o s' → EndOwed kept b (k o s' f)) →
    EndOwed kept b (and_then r k)
then-owed kept b s t (Gives o s' f) k a h n = n o s' f h.0 h.1
then-owed kept b s t (Spent s' f) k a h n = along-on kept b s s' a h

-- each task that fits goes on from where it begins, and ends as is known
abbrev pub DoesSo : Kept → (Task → Graph → ℕ → Ends) → Type 0
DoesSo kept r = (t : Task) (s : Graph) (f : ℕ) → Fitted kept t s → Along kept s s → EndKnown kept t s (r t s f)

charged-known : (kept : Kept) (r : Task → Graph → ℕ → Ends) → DoesSo kept r → DoesSo kept (charged r)
charged-known kept r n t s zero fit a = a
charged-known kept r n t s (suc f) fit a = n t s f fit a

pub exec-owed : (kept : Kept) (r : Task → Graph → ℕ → Ends) → DoesSo kept r → (b : Graph) (begun : Bool) (p : Row) (f : ℕ) →
    Holds kept b p → EndOwed kept b (exec (by r) begun p f)
exec-owed kept r n b begun (Ret o s) f h = h
exec-owed kept r n b begun (Pay c s p) f h =
    if-owed kept b (nat_lt f c) (Spent s f) (exec (by r) begun p (f - c)) h.0 (exec-owed kept r n b begun p (f - c) h.1)
exec-owed kept r n b begun (Turn s p) f h =
    if-owed kept b (nat_lt f 1) (Spent s f) (exec (by r) true p (f - 1)) h.0 (exec-owed kept r n b true p (f - 1) h.1)
exec-owed kept r n b begun (Do t s k) f h =
    then-owed kept b s t (charged r t s f) (λ o s' f'. exec (by r) true (k o s') f') h.0
    (charged-known kept r n t s f h.1 (along-stays kept b s h.0))
    (λ o s' f' q i. exec-owed kept r n b true (k o s') f' (h.2 o s' q i))
exec-owed kept r n b true (Again t s k) f h =
    then-owed kept b s t (r t s f) (λ o s' f'. exec (by r) true (k o s') f') h.0 (n t s f h.1 (along-stays kept b s h.0))
    (λ o s' f' q i. exec-owed kept r n b true (k o s') f' (h.2 o s' q i))
exec-owed kept r n b false (Again t s k) f h = h.0

plain-known : (kept : Kept) → IsPlain kept → (t : Task) (b : Graph) (r : Ends) → EndOwed kept b r → EndKnown kept t b r
plain-known kept plain t b (Gives o s f) h = (h.0, plain.knows t b s o)
plain-known kept plain t b (Spent s f) h = h

-- each row does so from where its task fits
abbrev pub RowsHold : Kept → (Task → Graph → Row) → Type 0
RowsHold kept rows = (t : Task) (g : Graph) → Fitted kept t g → Along kept g g → Holds kept g (rows t g)

within-known : (kept : Kept) → IsPlain kept → (rows : Task → Graph → Row) → RowsHold kept rows → (depth : ℕ) →
    DoesSo kept (within rows depth)
within-known kept plain rows hold zero t s f fit a = a
within-known kept plain rows hold (suc depth) t s f fit a =
    plain-known kept plain t s (exec (by (within rows depth)) false (rows t s) f)
    (exec-owed kept (within rows depth) (within-known kept plain rows hold depth) s false (rows t s) f (hold t s fit a))

known-by : (kept : Kept) → IsPlain kept → (rows : Task → Graph → Row) → RowsHold kept rows → DoesSo kept (given rows)
unfolding given
known-by kept plain rows hold t s f fit a = within-known kept plain rows hold (suc f) t s f fit a

pub given-known : (kept : Kept) → IsPlain kept → DoesSo kept (given row)
given-known kept plain = known-by kept plain row (row-holds kept plain)

abbrev pub EndHolds : Kept → Graph → Ends → Type 0
EndHolds kept b (Gives o s f) = kept.to b s
EndHolds kept b (Spent s f) = kept.to b s

end-holds : (kept : Kept) (t : Task) (b : Graph) (r : Ends) → EndKnown kept t b r → EndHolds kept b r
end-holds kept t b (Gives o s f) h = h.0.1
end-holds kept t b (Spent s f) h = h.1

pub given-holds : (kept : Kept) → IsPlain kept → (t : Task) (s : Graph) (f : ℕ) → Fitted kept t s → kept.to s s →
    EndHolds kept s (given row t s f)
given-holds kept plain t s f fit h =
    end-holds kept t s (given row t s f) (given-known kept plain t s f fit (λ a x. x, h))

pub means-holds : (kept : Kept) → IsPlain kept → (t : Task) (s : Graph) (f : ℕ) → Fitted kept t s → kept.to s s →
    EndHolds kept s (Means t s f)
means-holds kept plain t s f fit h =
    end-holds kept t s (Means t s f) (charged-known kept (given row) (given-known kept plain) t s f fit (λ a x. x, h))

-- the same, whichever rows tasks have
pub given-holds-by : (kept : Kept) → IsPlain kept → (rows : Task → Graph → Row) → RowsHold kept rows → (t : Task) (s : Graph)
    (f : ℕ) → Fitted kept t s → kept.to s s → EndHolds kept s (given rows t s f)
given-holds-by kept plain rows hold t s f fit h =
    end-holds kept t s (given rows t s f) (known-by kept plain rows hold t s f fit (λ a x. x, h))

pub means-holds-by : (kept : Kept) → IsPlain kept → (rows : Task → Graph → Row) → RowsHold kept rows → (t : Task) (s : Graph)
    (f : ℕ) → Fitted kept t s → kept.to s s → EndHolds kept s (means rows t s f)
means-holds-by kept plain rows hold t s f fit h =
    end-holds kept t s (means rows t s f)
    (charged-known kept (given rows) (known-by kept plain rows hold) t s f fit (λ a x. x, h))
