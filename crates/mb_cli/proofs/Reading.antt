-- Two scripts of a library are read and judged, the left one first.
use Rattle.std.proofs.Common.{Bool, List, None, Option, Some, ap, arith, inl, inr, length, refl, subst, sym, ℕ, ◌≡◌, ◌≢◌, ◌≤◌, ◌∙◌}
use Rattle.std.proofs.lemmas.Bool.{le-ltb, lt-ltb}
use Rattle.std.specs.Prelude.{Err, IfErr, IfOk, Ok, Result, Vec, option_map, if◌then◌else◌}
use Rattle.std.specs.declared.alloc.Global.{Global}
use Rattle.mb_base.specs.declared.value.Side.{Side}
use Rattle.mb_cli.proofs.Endings.{is_only}
use Rattle.mb_cli.specs.Serving.{IsAnswer, IsFaultless, OnRead, TellsFaults}
use Rattle.mb_cli.specs.Sides.{left_side, right_side}
use Rattle.mb_cli.specs.Tasks.{IsTooLong, IsWithin, behind, last_of, sharing}
use Rattle.mb_cli.specs.Trees.{ScriptFault, longest_script}
use Rattle.mb_cli.specs.declared.refusal.Refusal.{Refusal}
use Rattle.mb_cli.specs.declared.refusal.Refusal.TheVariants as refusal
use Rattle.mb_cli.specs.declared.status.ScriptKind.{ScriptKind}
use Rattle.mb_cli.specs.declared.refusal.ReadError.{ReadError}
use Rattle.mb_cli.specs.declared.refusal.ReadError.TheVariants as reading
use Rattle.mb_cli.specs.declared.status.Status.{Status}
use Rattle.mb_cli.specs.declared.status.Status.TheVariants as status
use Rattle.mb_cli.specs.declared.status.Status.TheVariants.{BadScript, TooLong}
use Rattle.mb_cli.specs.declared.status.Which.{Which}
use Rattle.mb_cli.specs.declared.tree.TreeFault.{TreeFault}
use Rattle.mb_cli.specs.declared.tree.TreeFault.TheVariants as tree
use Rattle.mb_cli.specs.machine.Pairs.{AreRead, IsFaultOf, IsFaultOfPair, IsFaultOfReading}
use Rattle.mb_cli.specs.machine.Refusals.{ending, of_reading, status_of}
use Rattle.mb_cli.specs.machine.Scanned.{IsFed, IsScanned}
use Rattle.mb_cli.specs.machine.TreeFaults.{refusal_of}
use Rattle.mb_lexer.proofs.Fed.{fed_grown}
use Rattle.mb_lexer.specs.Feeding.{Fed, Lexing}
use Rattle.mb_load_tree.specs.Trees.{HasTree}
use Rattle.mb_outer.specs.Causes.{IsRaised}
use Rattle.mb_text.specs.Texts.{KeepsIds}
use Rattle.mb_tree.specs.declared.program.Program.{Program}

-- ---- one script

pub fault_of : (side : Side) (bytes : List ℕ) (fault : TreeFault) (r : Refusal) → r ≡ refusal_of side fault
    → ((kind : ScriptKind) → fault ≡ tree.Bad kind → ScriptFault bytes kind) → IsFaultOf side bytes r
fault_of side bytes (tree.Bad kind) r is has = subst (IsFaultOf side bytes) (sym is) (refl, has kind refl)
fault_of side bytes tree.NoMemory r is has = subst (IsFaultOf side bytes) (sym is) tt

pub refused_judged : (side : Side) (fault : TreeFault) → refusal_of side fault ≢ refusal.ReadFault
refused_judged side (tree.Bad kind) e = cc
refused_judged side tree.NoMemory e = cc

pub left_refused : (left right : List ℕ) (r : Refusal) → IsFaultOf left_side left r → IsFaultOfPair left right r
left_refused left right (refusal.Script side kind) f = inl f
left_refused left right refusal.NoMemory f = tt
left_refused left right refusal.ReadFault f = absurd f
left_refused left right (refusal.TooLong which) f = absurd f

pub right_refused : (left right : List ℕ) (r : Refusal) → HasTree left → IsFaultOf right_side right r
    → IsFaultOfPair left right r
right_refused left right (refusal.Script side kind) has f = inr (f.0, has, f.1)
right_refused left right refusal.NoMemory has f = tt
right_refused left right refusal.ReadFault has f = absurd f
right_refused left right (refusal.TooLong which) has f = absurd f

-- ---- how far it was read

pub scanned_within : (texts : List (List ℕ)) (held : Option (List ℕ)) (l : Lexing) → IsScanned texts held (Some l)
    → IsWithin held
scanned_within texts None l s = absurd s
scanned_within texts (Some bytes) l s = s.0

pub scanned_too_long : (texts : List (List ℕ)) (held : Option (List ℕ)) → IsScanned texts held None → IsTooLong held
scanned_too_long texts None s = absurd s
scanned_too_long texts (Some bytes) s = s

last_long : (left right : Option (List ℕ)) → IsTooLong left → last_of left right ≡ left
last_long None right long = absurd long
last_long (Some bytes) right long =
    ap (λ (b : Bool). if b then Some bytes else right) (lt-ltb longest_script (length bytes) long)

pub last_right : (left right : Option (List ℕ)) → IsWithin left → last_of left right ≡ right
last_right None right within = absurd within
last_right (Some bytes) right within =
    ap (λ (b : Bool). if b then Some bytes else right) (le-ltb longest_script (length bytes) within)

-- where the left text is not read whole, it is the last that was read
pub left_read_last : (left right rest : Option (List ℕ)) (r : Refusal) → IsFaultOfReading left_side r
    → ((long : Which) → r ≡ refusal.TooLong long → IsTooLong left)
    → OnRead (status_of r) (rest ≡ option_map (behind 1048577) left)
    → OnRead (status_of r) (rest ≡ option_map (behind 1048577) (last_of left right))
left_read_last left right rest refusal.ReadFault f long read = read
left_read_last left right rest refusal.NoMemory f long read = read
left_read_last left right rest (refusal.TooLong which) f long read =
    read ∙ ap (option_map (behind 1048577)) (sym (last_long left right (long which refl)))
left_read_last left right rest (refusal.Script side kind) f long read = absurd f

-- ---- the answers

module _ (left right : Option (List ℕ)) (word : List ℕ) (n : ℕ) (traced : Bool) where
  pub left_unread : (r : Refusal) → IsFaultOfReading left_side r
      → ((long : Which) → r ≡ refusal.TooLong long → IsTooLong left)
      → IsAnswer (sharing left right word n traced) (status_of r)
  left_unread refusal.ReadFault f long = tt
  left_unread refusal.NoMemory f long = tt
  left_unread (refusal.TooLong which) f long =
      is_only (sharing left right word n traced) (TooLong which) (inl (f, long which refl))
  left_unread (refusal.Script side kind) f long = absurd f

  pub right_unread : (r : Refusal) → IsWithin left → IsFaultOfReading right_side r
      → ((long : Which) → r ≡ refusal.TooLong long → IsTooLong right)
      → IsAnswer (sharing left right word n traced) (status_of r)
  right_unread refusal.ReadFault within f long = tt
  right_unread refusal.NoMemory within f long = tt
  right_unread (refusal.TooLong which) within f long =
      is_only (sharing left right word n traced) (TooLong which) (inr (f, within, long which refl))
  right_unread (refusal.Script side kind) within f long = absurd f

pair_refused : (left right word : List ℕ) (n : ℕ) (traced : Bool) (r : Refusal) → length left ≤ longest_script
    → length right ≤ longest_script → IsFaultOfPair left right r
    → IsAnswer (sharing (Some left) (Some right) word n traced) (status_of r)
pair_refused left right word n traced (refusal.Script side kind) p q (inl f) =
    is_only (sharing (Some left) (Some right) word n traced) (BadScript side kind) (inl (f.0, q, (p, f.1)))
pair_refused left right word n traced (refusal.Script side kind) p q (inr f) =
    is_only (sharing (Some left) (Some right) word n traced) (BadScript side kind) (inr (f.0, (p, f.1), (q, f.2)))
pair_refused left right word n traced refusal.NoMemory p q f = tt
pair_refused left right word n traced refusal.ReadFault p q f = absurd f
pair_refused left right word n traced (refusal.TooLong which) p q f = absurd f

-- both were read whole: the left one's lexer stands for its bytes while the right one is read
module _ (old new : List (List ℕ)) (l r : Lexing) (keeps : KeepsIds old new) where
  pub pair_answer : (left right : Option (List ℕ)) (word : List ℕ) (n : ℕ) (traced : Bool)
      (result : Result (Vec Program Global) Refusal) → IsScanned old left (Some l) → IsScanned new right (Some r)
      → ((lefts rights : List ℕ) → Fed l new lefts → Fed r new rights → IfErr result (IsFaultOfPair lefts rights))
      → IfErr result (λ x. IsAnswer (sharing left right word n traced) (status_of x))
  pair_answer left right word n traced (Ok ps) p q refused = tt
  pair_answer None right word n traced (Err x) p q refused = absurd p
  pair_answer (Some lefts) None word n traced (Err x) p q refused = absurd q
  pair_answer (Some lefts) (Some rights) word n traced (Err x) p q refused =
      pair_refused lefts rights word n traced x p.0 q.0 (refused lefts rights (fed_grown l old new lefts keeps p.1) q.1)

  pub pair_read : (left right : Option (List ℕ)) (after : List (List ℕ)) (result : Result (Vec Program Global) Refusal)
      → IsScanned old left (Some l) → IsScanned new right (Some r)
      → ((lefts rights : List ℕ) → Fed l new lefts → Fed r new rights → length lefts ≤ 1048576
      → length rights ≤ 1048576 → IfOk result (λ ps. AreRead after (Some lefts) (Some rights) ps.items))
      → IfOk result (λ ps. AreRead after left right ps.items)
  pair_read left right after (Err x) p q read = tt
  pair_read None right after (Ok ps) p q read = absurd p
  pair_read (Some lefts) None after (Ok ps) p q read = absurd q
  pair_read (Some lefts) (Some rights) after (Ok ps) p q read =
      read lefts rights (fed_grown l old new lefts keeps p.1) q.1 p.0 q.0

  pub some_read : (after : List (List ℕ)) (result : Result (Vec Program Global) Refusal) → IsFed old l → IsFed new r
      → ((lefts rights : List ℕ) → Fed l new lefts → Fed r new rights → length lefts ≤ 1048576
      → length rights ≤ 1048576 → IfOk result (λ ps. AreRead after (Some lefts) (Some rights) ps.items))
      → IfOk result (λ ps. (lefts rights : Option (List ℕ)) × AreRead after lefts rights ps.items)
  some_read after (Err x) p q read = tt
  some_read after (Ok ps) p q read = (
    Some p.bytes,
    Some q.bytes,
    read p.bytes q.bytes (fed_grown l old new p.bytes keeps p.fed) q.fed p.within q.within,
  )

-- ---- faults of the two reads

-- what isn't read whole is no script that is refused
pub unread_of : (side : Side) (e : ReadError) → IsFaultOfReading side (of_reading e)
unread_of side reading.Fault = tt
unread_of side reading.NoMemory = tt

pub not_long : (e : ReadError) (long : Which) → of_reading e ≢ refusal.TooLong long
not_long reading.Fault long e = cc
not_long reading.NoMemory long e = cc

pub faulted : (e : ReadError) → of_reading e ≡ refusal.ReadFault → e ≡ reading.Fault
faulted reading.Fault e = refl
faulted reading.NoMemory e = cc

pub not_read : (e : ReadError) (P : Type 0) → OnRead (status_of (of_reading e)) P
not_read reading.Fault P = tt
not_read reading.NoMemory P = tt

pub the_fault : {T : Type 0} (r : Refusal) → ◌≡◌ {A = Result T Refusal} (Err r) (Err refusal.ReadFault)
    → r ≡ refusal.ReadFault
the_fault r e = cc

pub read_status : (r : Refusal) → status_of r ≡ status.ReadFault → r ≡ refusal.ReadFault
read_status refusal.ReadFault e = refl
read_status (refusal.Script side kind) e = cc
read_status (refusal.TooLong which) e = cc
read_status refusal.NoMemory e = cc

pub judged_status : {T : Type 0} (result : Result T Refusal) → result ≢ Err refusal.ReadFault
    → ending result ≢ status.ReadFault
judged_status (Ok x) judged e = cc
judged_status (Err r) judged e = judged (ap Err (read_status r e))

-- one read: its count of faults tells of it
pub one_read : (r : Refusal) (before now : ℕ) → before ≤ now → (r ≡ refusal.ReadFault → IsRaised before now)
    → (r ≢ refusal.ReadFault → now ≡ before) → TellsFaults status.ReadFault (status_of r) before now
one_read refusal.ReadFault before now later failed counted =
    record { later = later; cause = λ e. failed refl; told = λ lt. inl refl }
one_read (refusal.Script side kind) before now later failed counted =
    let same : now ≡ before = counted (λ e. cc) in
    record { later = later; cause = λ e. cc; told = λ lt. absurd (omega (arith, same, lt)) }
one_read (refusal.TooLong which) before now later failed counted =
    let same : now ≡ before = counted (λ e. cc) in
    record { later = later; cause = λ e. cc; told = λ lt. absurd (omega (arith, same, lt)) }
one_read refusal.NoMemory before now later failed counted =
    let same : now ≡ before = counted (λ e. cc) in
    record { later = later; cause = λ e. cc; told = λ lt. absurd (omega (arith, same, lt)) }

-- no read failed
pub no_read_failed : {T : Type 0} (result : Result T Refusal) (before now : ℕ) → result ≢ Err refusal.ReadFault
    → now ≡ before → TellsFaults status.ReadFault (ending result) before now
no_read_failed result before now judged same = record {
  later = omega (arith, same);
  cause = λ e. absurd (judged_status result judged e);
  told = λ lt. absurd (omega (arith, same, lt));
}

pub none_faultless : {T : Type 0} (result : Result T Refusal) (before now : ℕ) → result ≢ Err refusal.ReadFault
    → now ≡ before → IsFaultless status.ReadFault (ending result) before now
none_faultless result before now judged same = record { count = same; answer = judged_status result judged }

pub all_read : (s : Status) (P : Type 0) → P → OnRead s P
all_read (status.BadWords kind) P p = tt
all_read status.ReadFault P p = tt
all_read status.NoMemory P p = tt
all_read s P p = p
