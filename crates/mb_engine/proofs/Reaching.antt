-- What several steps reach: the items that they add to the log, and the lines of these.
use Rattle.std.proofs.Common.{Bool, Err, List, [], ap, append_assoc, append-nil, arith, length, refl, subst, sym, ℕ}
use Rattle.std.proofs.Common.{◌++◌, ◌∙◌, ◌∷◌, ◌≡◌, ◌≤◌}
use Rattle.mb_engine.specs.Turns.{IsTold, lines_made}
use Rattle.mb_engine.specs.machine.Advancing.{Advanced, Advances, Reached, Reaches, meant}
use Rattle.mb_frames.proofs.Steps.{Logged-added}
use Rattle.mb_frames.specs.Standing.{Logged, RestBy}
use Rattle.mb_frames.specs.Stepping.{Added, Written}
use Rattle.mb_frames.specs.declared.machine.Halt.{Halt}
use Rattle.mb_frames.specs.declared.machine.Halt.TheVariants.{NoMemory, Spent as SpentHalt}
use Rattle.mb_frames.specs.declared.machine.Machine.{Machine}
use Rattle.mb_model.specs.Meaning.{Ends}
use Rattle.mb_model.specs.Text.{line_of, lines_of}
use Rattle.mb_model.specs.Trace.Entries.{entries}
use Rattle.mb_world.specs.Data.{Data}
use Rattle.mb_world.specs.EntryLine.{numbered_texts}
use Rattle.mb_world.specs.Graph.{Item}
use Rattle.mb_world.specs.Image.{entries_in}

-- ---- lines

pub made-append : (traced lettered : Bool) (log a b : List Item)
    → lines_made traced lettered log (a ++ b)
    ≡ lines_made traced lettered log a ++ lines_made traced lettered (log ++ a) b
made-append traced lettered log [] b =
    ap (λ (z : List Item). lines_made traced lettered z b) (sym (append-nil log))
made-append traced lettered log (i ∷ is) b =
    let line : List (List ℕ) = line_of traced lettered (numbered_texts (entries (log ++ (i ∷ [])))) i in
    ap (λ (z : List (List ℕ)). line ++ z) (made-append traced lettered (log ++ (i ∷ [])) is b
    ∙ ap (λ (z : List Item). lines_made traced lettered (log ++ (i ∷ [])) is ++ lines_made traced lettered z b)
    (append_assoc log (i ∷ []) is))
    ∙ sym (append_assoc line (lines_made traced lettered (log ++ (i ∷ [])) is)
    (lines_made traced lettered (log ++ (i ∷ is)) b))

-- of at most one item
made-few : (traced lettered : Bool) (log added : List Item) (d' : Data) → length added ≤ 1 → Logged d' (log ++ added)
    → lines_of traced lettered (numbered_texts (entries_in d')) added ≡ lines_made traced lettered log added
made-few traced lettered log [] d' h e = refl
made-few traced lettered log (i ∷ []) d' h e =
    ap (λ z. line_of traced lettered (numbered_texts z) i ++ []) (sym e)
made-few traced lettered log (i ∷ j ∷ is) d' h e = absurd (omega (arith, h))

-- ---- what was told

pub told-none : (d : Data) (l : Written) (log : List Item) → Logged d log → IsTold d l l log []
told-none d l log e = record {
  logged = subst (Logged d) (sym (append-nil log)) e;
  lines = ap (λ (z : List (List ℕ)). record l { lines = z }) (sym (append-nil l.lines));
}

pub told-step : (d d' : Data) (l l' : Written) (log added : List Item) → Logged d log → Added d d' l l' added
    → IsTold d' l l' log added
told-step d d' l l' log added e h =
    let k : Logged d' (log ++ added) = Logged-added d d' l l' added log h e in
    record {
      logged = k;
      lines = h.told
          ∙ ap (λ (z : List (List ℕ)). record l { lines = l.lines ++ z })
          (made-few l.traced l.lettered log added d' h.few k);
    }

pub told-then : (d d' : Data) (l l1 l' : Written) (log a b : List Item) → IsTold d l l1 log a
    → IsTold d' l1 l' (log ++ a) b
    → IsTold d' l l' log (a ++ b)
told-then d d' l l1 l' log a b h k = record {
  logged = subst (Logged d') (append_assoc log a b) k.logged;
  lines = k.lines
      ∙ ap (λ (z : Written). record z {
        lines = z.lines ++ lines_made z.traced z.lettered (log ++ a) b;
      }) h.lines
      ∙ ap (λ (z : List (List ℕ)). record l { lines = z })
      (append_assoc l.lines (lines_made l.traced l.lettered log a) (lines_made l.traced l.lettered (log ++ a) b)
      ∙ ap (λ (z : List (List ℕ)). l.lines ++ z) (sym (made-append l.traced l.lettered log a b)));
}

-- ---- steps

pub reached-none : (m : Machine) (d : Data) (f : ℕ) (l : Written) (log : List Item) → Logged d log
    → Reached m d f l l log (RestBy meant m d f log)
reached-none m d f l log e = record {
  added = [];
  told = told-none d l log e;
  rest = ap (RestBy meant m d f) (append-nil log);
}

pub reached-step : (m m1 : Machine) (d d1 : Data) (f f1 : ℕ) (l l1 l2 : Written) (log : List Item) (e : Ends)
    → Reached m d f l l1 log e → Advanced m m1 d d1 f f1 l1 l2 → Reached m1 d1 f1 l l2 log e
reached-step m m1 d d1 f f1 l l1 l2 log e h k = record {
  added = h.added ++ k.added;
  told = told-then d d1 l l1 l2 log h.added k.added h.told
      (told-step d d1 l1 l2 (log ++ h.added) k.added h.told.logged k.logged);
  rest = ap (RestBy meant m1 d1 f1) (sym (append_assoc log h.added k.added))
      ∙ k.rest (log ++ h.added) h.told.logged ∙ h.rest;
}

-- a step that stopped
pub reached-stop : (result : Halt) (m m1 : Machine) (d d1 : Data) (f f1 : ℕ) (l l1 l2 : Written) (log : List Item)
    (e : Ends)
    → Reached m d f l l1 log e → Advances (Err result) m m1 d d1 f f1 l1 l2 → Reaches (Err result) m1 d1 f1 l l2 log e
reached-stop SpentHalt m m1 d d1 f f1 l l1 l2 log e h k = record {
  added = h.added;
  told = record { logged = h.told.logged ∙ sym k.trace; lines = k.told ∙ h.told.lines };
  rest = sym h.rest ∙ k.rest (log ++ h.added) h.told.logged;
}
reached-stop NoMemory m m1 d d1 f f1 l l1 l2 log e h k = tt
