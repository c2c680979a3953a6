-- How the run of two scripts ends is how their story ends.
use Rattle.std.proofs.Common.{Bool, List, None, Option, Some, [], ap, ap₂, arith, false, inl, inr, length, refl, subst, sym, true, ℕ, ◌<◌, ◌≡◌, ◌≢◌, ◌≤◌, ◌∙◌, ◌∷◌}
use Rattle.std.proofs.lemmas.Bool.{cases_lt}
use Rattle.std.specs.Prelude.{Err, IfOk, Ok, Result, map, ◌⊎◌}
use Rattle.mb_cli.proofs.Endings.{is_only}
use Rattle.mb_cli.proofs.Programs.{read_program_of}
use Rattle.mb_cli.proofs.Stories.{ends_by, is_end_by, one_story, status_by, story_of}
use Rattle.mb_cli.specs.Serving as serving
use Rattle.mb_cli.specs.Serving.{IsAnswer, IsFaultless, IsTold, Leaves, OnRead, TellsFaults}
use Rattle.mb_cli.specs.Sharing.{HasStory, letters_of}
use Rattle.mb_cli.specs.Tasks.{sharing}
use Rattle.mb_cli.specs.declared.refusal.Refusal.{Refusal}
use Rattle.mb_cli.specs.declared.refusal.Refusal.TheVariants as refusal
use Rattle.mb_cli.specs.declared.status.Status.{Status}
use Rattle.mb_cli.specs.declared.status.Status.TheVariants as status
use Rattle.mb_cli.specs.machine.Pairs.{AreRead}
use Rattle.mb_cli.specs.machine.Refusals.{status_of}
use Rattle.mb_cli.specs.machine.Runs.{IsOfRun, of_ending, status_of_run}
use Rattle.mb_engine.specs.Begun.{first_graph_of}
use Rattle.mb_engine.specs.declared.drivers.Ran.{Ran}
use Rattle.mb_model.specs.Story as story
use Rattle.mb_model.specs.Story.{Stage, Story}
use Rattle.mb_model.specs.Text.{Text_of}
use Rattle.mb_story.specs.Running.{CountsFaults, HasRoom, IsFirst, IsPut, OnStory, StandsAt, ending_of, halts, letter_of, with_turns}
use Rattle.mb_story.specs.declared.ending.Ending.{Ending}
use Rattle.mb_story.specs.declared.ending.Ending.TheVariants as ending
use Rattle.mb_story.specs.declared.ending.RunFault.{RunFault}
use Rattle.mb_story.specs.declared.ending.RunFault.TheVariants as fault
use Rattle.mb_story.specs.declared.schedule.Letter.{Letter}
use Rattle.mb_tree.specs.declared.program.Program.{Program as Tree}
use Rattle.mb_words.specs.declared.fault.WordsKind.{WordsKind}
use Rattle.mb_world.specs.Data.{Data, script_of}
use Rattle.mb_world.specs.Graph.{Program}
use Rattle.mb_world.specs.Image.{Image, program_in}

-- ---- the story

-- the program of a script that was read
abbrev pub program_of : List (List ℕ) → Tree → Program
program_of texts p = program_in texts (Some (script_of p))

abbrev pub stage_of : List (List ℕ) → Tree → Tree → List ℕ → ℕ → Stage
stage_of texts p q word n = story_of word n (program_of texts p) (program_of texts q)

pub has_story : (texts : List (List ℕ)) (left right : Option (List ℕ)) (ps : List Tree) (word : List ℕ) (n : ℕ)
    (a : AreRead texts left right ps) → HasStory left right word n (stage_of texts a.one a.other word n)
has_story texts left right ps word n a = record {
  lefts = program_of texts a.one;
  rights = program_of texts a.other;
  left_has = read_program_of texts left (script_of a.one) a.left_read;
  right_has = read_program_of texts right (script_of a.other) a.right_read;
  is = refl;
}

pub is_first : (texts : List (List ℕ)) (left right : Option (List ℕ)) (ps : List Tree) (d : Data)
    (a : AreRead texts left right ps) → Image d [] ≡ first_graph_of texts (map script_of ps) [] → d.entries ≡ []
    → IsFirst d (program_of texts a.one ∷ program_of texts a.other ∷ []) []
is_first texts left right ps d a image entries = record {
  image = image ∙ ap (λ (xs : List Tree). first_graph_of texts (map script_of xs) []) a.are;
  entries = entries;
}

-- a fact of the world's story is one of theirs
pub on_stage : (texts : List (List ℕ)) (left right : Option (List ℕ)) (ps : List Tree) (d : Data)
    (a : AreRead texts left right ps) → Image d [] ≡ first_graph_of texts (map script_of ps) [] → d.entries ≡ []
    → (word : List Letter) (bytes : List ℕ) (f n : ℕ) → map letter_of word ≡ letters_of bytes → f ≡ n
    → (fact : Stage → Type 0) → OnStory d word f fact → fact (stage_of texts a.one a.other bytes n)
on_stage texts left right ps d a image entries word bytes f n letters units fact told =
    let programs : List Program = program_of texts a.one ∷ program_of texts a.other ∷ [] in
    subst fact (ap₂ (λ (us : List story.Letter) (m : ℕ). Story programs [] us m) letters units)
    (told programs [] (is_first texts left right ps d a image entries))

-- ---- what the run says of it

module _ (left right : Option (List ℕ)) (word : List ℕ) (n : ℕ) (traced : Bool) (s : Stage)
    (has : HasStory left right word n s) where
  pub run_answer : (r : Result Ending RunFault) → IfOk r (λ e. s.ending ≡ ending_of e)
      → IsAnswer (sharing left right word n traced) (status_of_run r)
  run_answer (Ok ending.Done) e = is_only (sharing left right word n traced) status.Done (s, has, e)
  run_answer (Ok ending.Uncaught) e = is_only (sharing left right word n traced) status.Uncaught (s, has, e)
  run_answer (Ok ending.Spent) e = is_only (sharing left right word n traced) status.Spent (s, has, e)
  run_answer (Err fault.Write) e = record {
    end = status_by s.ending;
    whole = is_end_by s.ending;
    only = is_only (sharing left right word n traced) (status_by s.ending)
        (ends_by left right word n s.ending (s, has, refl));
  }
  run_answer (Err fault.NoMemory) e = tt

  pub run_text : (r : Result Ending RunFault) (untouched : Type 0) (receives : List ℕ → Type 0)
      → IsPut r receives (Text_of traced false s)
      → serving.IsPut (sharing left right word n traced) (status_of_run r) untouched receives
  run_text (Ok ending.Done) untouched receives p = (Text_of traced false s, (s, has, refl), p)
  run_text (Ok ending.Uncaught) untouched receives p = (Text_of traced false s, (s, has, refl), p)
  run_text (Ok ending.Spent) untouched receives p = (Text_of traced false s, (s, has, refl), p)
  run_text (Err fault.Write) untouched receives (front, rest, parts, p) =
      record { front = front; rest = rest; writes = (s, has, sym parts); put = p }
  run_text (Err fault.NoMemory) untouched receives (front, rest, parts, p) =
      inr (record { front = front; rest = rest; writes = (s, has, sym parts); put = p })

  pub run_told : (r : Result Ending RunFault) (d : Data) (f : ℕ) (joined : Bool) (before now : Option (List Ran))
      → IfOk r (λ e. StandsAt d f s) → IfOk r (λ e. now ≡ with_turns joined s.ran before) → joined ≡ true
      → d.joined ≡ joined → IsTold (sharing left right word n traced) (status_of_run r) d before now
  run_told (Err fault.Write) d f joined before now stands turns is same = tt
  run_told (Err fault.NoMemory) d f joined before now stands turns is same = tt
  run_told (Ok e) d f joined before now stands turns is same = by e
    where
      told : serving.TellsStory left right word n d before now
      told = record {
        stage = s;
        has = has;
        stands = record { image = stands.image; logged = stands.logged; left = refl };
        joined = same ∙ is;
        turns = turns ∙ ap (λ (b : Bool). with_turns b s.ran before) is;
      }

      by : (e : Ending) → IsTold (sharing left right word n traced) (of_ending e) d before now
      by ending.Done = told
      by ending.Uncaught = told
      by ending.Spent = told

  -- a sink that has room for the text has room for the story's
  pub story_room : (room : Option ℕ) → serving.HasRoom (sharing left right word n traced) room
      → HasRoom room (Text_of traced false s)
  story_room None h = absurd h
  story_room (Some room) (text, (t, k, e), fits) =
      subst (λ (us : List ℕ). length us ≤ room) (e ∙ ap (Text_of traced false) (one_story left right word n t s k has)) fits

-- ---- the world and the counts of faults

pub run_leaves : (r : Result Ending RunFault) (d : Data) (P : Type 0) → d.halted ≡ halts r
    → Leaves (status_of_run r) d P
run_leaves (Ok ending.Done) d P h = h
run_leaves (Ok ending.Uncaught) d P h = h
run_leaves (Ok ending.Spent) d P h = h
run_leaves (Err fault.Write) d P h = h
run_leaves (Err fault.NoMemory) d P h = inl h

pub run_of_run : (r : Result Ending RunFault) → IsOfRun (status_of_run r)
run_of_run (Ok ending.Done) = tt
run_of_run (Ok ending.Uncaught) = tt
run_of_run (Ok ending.Spent) = tt
run_of_run (Err fault.Write) = tt
run_of_run (Err fault.NoMemory) = tt

unmoved : (s : Status) (before now : ℕ) → s ≢ status.WriteFault → now ≡ before
    → TellsFaults status.WriteFault s before now
unmoved s before now not is = record {
  later = omega (arith, is);
  cause = λ e. absurd (not e);
  told = λ lt. absurd (omega (arith, is, lt));
}

pub run_puts : (r : Result Ending RunFault) (before now : ℕ) → CountsFaults r before now
    → TellsFaults status.WriteFault (status_of_run r) before now
run_puts (Ok ending.Done) before now c = unmoved status.Done before now (λ e. cc) c
run_puts (Ok ending.Uncaught) before now c = unmoved status.Uncaught before now (λ e. cc) c
run_puts (Ok ending.Spent) before now c = unmoved status.Spent before now (λ e. cc) c
run_puts (Err fault.Write) before now c = record { later = c.0; cause = λ e. c.1; told = λ lt. inl refl }
run_puts (Err fault.NoMemory) before now c = unmoved status.NoMemory before now (λ e. cc) c

pub run_room : (r : Result Ending RunFault) (before now : ℕ) → CountsFaults r before now → r ≢ Err fault.Write
    → IsFaultless status.WriteFault (status_of_run r) before now
run_room (Ok ending.Done) before now c not = record { count = c; answer = λ e. cc }
run_room (Ok ending.Uncaught) before now c not = record { count = c; answer = λ e. cc }
run_room (Ok ending.Spent) before now c not = record { count = c; answer = λ e. cc }
run_room (Err fault.Write) before now c not = absurd (not refl)
run_room (Err fault.NoMemory) before now c not = record { count = c; answer = λ e. cc }

-- ---- beside the reads before it

not_read_fault : (s : Status) → IsOfRun s → s ≢ status.ReadFault
not_read_fault s r e = subst IsOfRun e r

pub run_reads : (s : Status) (before now : ℕ) → IsOfRun s → now ≡ before → TellsFaults status.ReadFault s before now
run_reads s before now r is = record {
  later = omega (arith, is);
  cause = λ e. absurd (not_read_fault s r e);
  told = λ lt. absurd (omega (arith, is, lt));
}

pub run_faultless : (s : Status) (before now : ℕ) → IsOfRun s → now ≡ before
    → IsFaultless status.ReadFault s before now
run_faultless s before now r is = record { count = is; answer = not_read_fault s r }

pub run_read : (s : Status) (P : Type 0) → IsOfRun s → P → OnRead s P
run_read status.Done P r p = p
run_read status.Uncaught P r p = p
run_read status.Spent P r p = p
run_read status.WriteFault P r p = p
run_read status.NoMemory P r p = tt
run_read s P r p = absurd r

pub run_worded : (s : Status) (kind : WordsKind) → IsOfRun s → s ≢ status.BadWords kind
run_worded s kind r e = subst IsOfRun e r

-- ---- where a script is refused

pub refused_told : (left right : Option (List ℕ)) (word : List ℕ) (n : ℕ) (traced : Bool) (r : Refusal) (d : Data)
    (ran : Option (List Ran)) → IsTold (sharing left right word n traced) (status_of r) d ran ran
refused_told left right word n traced refusal.ReadFault d ran = refl
refused_told left right word n traced (refusal.Script side kind) d ran = refl
refused_told left right word n traced (refusal.TooLong which) d ran = refl
refused_told left right word n traced refusal.NoMemory d ran = tt

-- where both scripts were read no read had failed
pub none_failed : (before now : ℕ) → TellsFaults status.ReadFault status.Done before now → now ≡ before
none_failed before now told = by (cases_lt before now)
  where
    never : (status.Done ≡ status.ReadFault) ⊎ (status.Done ≡ status.NoMemory) → ⊥
    never (inl e) = cc
    never (inr e) = cc

    by : (before < now) ⊎ (now ≤ before) → now ≡ before
    by (inl lt) = absurd (never (told.told lt))
    by (inr le) = omega (arith, le, told.later)
