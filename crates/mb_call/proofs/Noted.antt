-- The step that makes an entry: what it logs, the line that it writes, and that its world stays ready.
use Rattle.std.proofs.Common.{◌++◌, ◌<◌, ◌≤◌, Bool, Err, List, Ok, [], ap, arith, false, length, refl, subst, sym}
use Rattle.std.proofs.Common.{true, true≢false, ℕ, ◌∙◌, ◌∷◌, ◌≡◌}
use Rattle.mb_base.specs.declared.value.Side.{Side}
use Rattle.mb_call.specs.Lines.{IsLineOfLast, WritesIf}
use Rattle.mb_call.specs.machine.Noting.{KeepsNoting}
use Rattle.mb_frames.proofs.Founding.{sound-stays}
use Rattle.mb_frames.proofs.Growing.{are-grown, held-grows}
use Rattle.mb_frames.proofs.Leaving.{holds-in}
use Rattle.mb_frames.proofs.Noting.{noted-found, noted-world}
use Rattle.mb_frames.proofs.Parts.{same-lasts}
use Rattle.mb_frames.proofs.Steps.{append-none}
use Rattle.mb_frames.specs.Held.{Held}
use Rattle.mb_frames.specs.Holding.{outcome_held}
use Rattle.mb_frames.specs.Ready.{Holds, IsReady, MayHold}
use Rattle.mb_frames.specs.Resolved.{outcome_in}
use Rattle.mb_frames.specs.Sorts.{IsOfSort, Sort, fits}
use Rattle.mb_frames.specs.Standing.{entry_by}
use Rattle.mb_frames.specs.Stepping.{Step, Written}
use Rattle.mb_frames.specs.declared.frame.Move.TheVariants as move
use Rattle.mb_frames.specs.declared.machine.Halt.{Halt}
use Rattle.mb_frames.specs.declared.frame.Entering.{Entering}
use Rattle.mb_frames.specs.declared.task.Outcome.{Outcome}
use Rattle.mb_model.specs.Engine.{Ret}
use Rattle.mb_model.specs.Task.{Outcome as AnOutcome}
use Rattle.mb_model.specs.Text.{lines_of}
use Rattle.mb_model.specs.Trace.Entries.{with_entry as noted}
use Rattle.mb_world.proofs.AfterCalls.{of-entry}
use Rattle.mb_world.proofs.LongTexts.{Grows-entry}
use Rattle.mb_world.specs.Data.{Data, with_entry}
use Rattle.mb_world.specs.EntryLine.{entry_line, numbered_texts}
use Rattle.mb_world.specs.Graph.{Entry as AnEntry, Traced}
use Rattle.mb_world.specs.Ids.{EntryIn}
use Rattle.mb_world.specs.Image.{entries_in, entry_in, names_of}
use Rattle.mb_world.specs.declared.entry.Entry.{Entry}

-- ---- the line

module _ (d d' : Data) (e : Entry) (w : d'.entries ≡ d.entries ++ (e ∷ [])) where
  -- the last entry is the one that was added
  last-line : (lettered : Bool) (line : List ℕ) → IsLineOfLast d' lettered line
      → line ≡ entry_line lettered (numbered_texts (entries_in d')) (entry_in d'.texts e)
  last-line lettered line h =
      h.is ∙ ap (λ (y : Entry). entry_line lettered (numbered_texts (entries_in d')) (entry_in d'.texts y))
      (same-lasts h.before d.entries h.entry e (sym h.last ∙ w))

  -- what the trace tells of it
  abbrev told : Written → Bool → List (List ℕ)
  told l traced = lines_of traced l.lettered (numbered_texts (entries_in d')) (Traced (entry_in d'.texts e) ∷ [])

  pub lines-added : (l l' : Written) (b : Bool) → l.traced ≡ b → WritesIf b d' l l'
      → l' ≡ record l {
        lines = l.lines
            ++ lines_of l.traced l.lettered (numbered_texts (entries_in d')) (Traced (entry_in d'.texts e) ∷ []);
      }
  lines-added l l' false q h =
      h ∙ ap (λ (ls : List (List ℕ)). record l { lines = ls }) (sym (append-none l.lines))
      ∙ ap (λ (b : Bool). record l { lines = l.lines ++ told l b }) (sym q)
  lines-added l l' true q h =
      h.2 ∙ ap (λ (line : List ℕ). record l { lines = l.lines ++ (line ∷ []) }) (last-line l.lettered h.0 h.1)
      ∙ ap (λ (b : Bool). record l { lines = l.lines ++ told l b }) (sym q)

-- ---- the step

module _ (d : Data) (e : Entry) (home : Side) (outcome : Outcome) where
  abbrev d' : Data
  d' = with_entry d e

  abbrev said : AnEntry
  said = entry_in d.texts e

  pub Step-noted : (f : ℕ) (l l' : Written) → WritesIf l.traced d' l l' → Holds d home (outcome_held outcome)
      → Step home true (Ok (move.Done outcome)) d d' f f l l'
      (λ g. Ret (outcome_in (names_of d) outcome) (noted said g))
  Step-noted f l l' w h = record {
    added = Traced said ∷ [];
    logged = record {
      few = omega arith;
      trace = (of-entry d e).entries;
      told = lines-added d d' e refl l l' l.traced refl w;
    };
    same = λ w log i. refl;
    paid = λ log i. omega arith;
    left = λ log i. omega arith;
    may = λ log i. tt;
    ids = are-grown d d' (Grows-entry d e) (outcome_held outcome) (holds-in d home (outcome_held outcome) h);
    grew = record { grows = Grows-entry d e; programs = refl; sides = refl; joined = refl };
  }

  module _ (r : IsReady d) (j : d.joined ≡ true) where
    held-still : (y : Held) → MayHold d home y → MayHold d' home y
    held-still y h = record {
      within = held-grows d d' (Grows-entry d e) y h.within;
      sound = sound-stays d d' r.ids (noted-found d e r.ids) home y h.within h.sound;
      own = λ u. absurd (true≢false (sym j ∙ u));
    }

    holds-noted : (ys : List Held) → Holds d home ys → Holds d' home ys
    holds-noted [] h = tt
    holds-noted (y ∷ ys) h = (held-still y h.0, holds-noted ys h.1)

    module _ (i : EntryIn d e) (side : e.side.0 < d.sides) (began : e.began ≤ length d.entries) (wanted : Sort) where
      pub keeps-halt : (halt : Halt) → KeepsNoting home wanted (Err halt) d d'
      keeps-halt halt = record {
        ready = noted-world d e r j i side began;
        found = noted-found d e r.ids;
        leaves = tt;
      }

      pub keeps-noted : (given : Sort) → IsOfSort given outcome → fits given wanted ≡ true
          → Holds d home (outcome_held outcome) → KeepsNoting home wanted (Ok (move.Done outcome)) d d'
      keeps-noted given k q h = record {
        ready = noted-world d e r j i side began;
        found = noted-found d e r.ids;
        leaves = record {
          holds = holds-noted (outcome_held outcome) h;
          fit = tt;
          gives = (given, k, q);
        };
      }

-- ---- where the world is known by what was added

module _ (d d1 : Data) (e : Entry) (q : d1 ≡ with_entry d e) (home : Side) (outcome : Outcome) where
  pub Step-made : (z : AnEntry) → entry_in d.texts e ≡ z → (f : ℕ) (l l' : Written) → WritesIf l.traced d1 l l'
      → Holds d home (outcome_held outcome)
      → Step home true (Ok (move.Done outcome)) d d1 f f l l'
      (λ g. Ret (outcome_in (names_of d) outcome) (noted z g))
  Step-made z k f l l' w h =
      subst (λ (x : Data). Step home true (Ok (move.Done outcome)) d x f f l l'
      (λ g. Ret (outcome_in (names_of d) outcome) (noted z g))) (sym q)
      (subst (λ (y : AnEntry). Step home true (Ok (move.Done outcome)) d (with_entry d e) f f l l'
      (λ g. Ret (outcome_in (names_of d) outcome) (noted y g))) k
      (Step-noted d e home outcome f l l' (subst (λ (x : Data). WritesIf l.traced x l l') q w) h))

  module _ (r : IsReady d) (j : d.joined ≡ true) (i : EntryIn d e) (side : e.side.0 < d.sides)
      (began : e.began ≤ length d.entries) (wanted : Sort) where
    pub keeps-stopped : (halt : Halt) → KeepsNoting home wanted (Err halt) d d1
    keeps-stopped halt = subst (λ (x : Data). KeepsNoting home wanted (Err halt) d x) (sym q)
        (keeps-halt d e home outcome r j i side began wanted halt)

    pub keeps-made : (given : Sort) → IsOfSort given outcome → fits given wanted ≡ true
        → Holds d home (outcome_held outcome) → KeepsNoting home wanted (Ok (move.Done outcome)) d d1
    keeps-made given k f h = subst (λ (x : Data). KeepsNoting home wanted (Ok (move.Done outcome)) d x) (sym q)
        (keeps-noted d e home outcome r j i side began wanted given k f h)

pub entry-side : (d : Data) (home : Side) (y : Entering) (w : AnOutcome) (e : Entry)
    → entry_in d.texts e ≡ entry_by (names_of d) home.0 y w → e.side.0 ≡ home.0
entry-side d home y w e q = ap (λ (z : AnEntry). z.side) q

pub entry-began : (d : Data) (home : Side) (y : Entering) (w : AnOutcome) (e : Entry)
    → entry_in d.texts e ≡ entry_by (names_of d) home.0 y w → e.began ≡ y.began
entry-began d home y w e q = ap (λ (z : AnEntry). z.began) q
