-- A step of a step crate leaves the rest, by the rows of the meaning.
use Rattle.std.proofs.Common.{Err, List, Ok, Result, ap, map, refl, [], ℕ, ◌∷◌, ◌≡◌}
use Rattle.mb_engine.proofs.Rows.{hands-own}
use Rattle.mb_engine.specs.machine.Advancing.{Advances, meant}
use Rattle.mb_frames.proofs.Growing.{below-in}
use Rattle.mb_frames.proofs.Stack.{rest-stays, rest-stops}
use Rattle.mb_frames.proofs.Weighing.{weight-falls}
use Rattle.mb_frames.specs.Ready.{IsReadyMachine}
use Rattle.mb_frames.specs.Standing.{Logged}
use Rattle.mb_frames.specs.Stepping.{Steps, Written}
use Rattle.mb_frames.specs.declared.machine.Halt.{Halt}
use Rattle.mb_frames.specs.declared.machine.Halt.TheVariants.{NoMemory, Spent as SpentHalt}
use Rattle.mb_frames.specs.declared.machine.Machine.{Machine}
use Rattle.mb_model.specs.Trace.Entries.{entries}
use Rattle.mb_world.specs.Data.{Data}
use Rattle.mb_world.specs.Graph.{Entry, Item, Traced}
use Rattle.mb_world.specs.Image.{entries_in}

-- a log with these entries
traced : (es : List Entry) → entries (map Traced es) ≡ es
traced [] = refl
traced (e ∷ es) = ap (λ z. e ∷ z) (traced es)

-- a log of a world's entries alone
pub its-log : Data → List Item
its-log d = map Traced (entries_in d)

pub its-own : (d : Data) → Logged d (its-log d)
unfolding its-log
its-own d = traced (entries_in d)

pub advances-by : (result : Result (Unit {0}) Halt) (m m' : Machine) (d d' : Data) (f f' : ℕ) (l l' : Written)
    → IsReadyMachine d m → Steps result m m' d d' f f' l l' → Advances result m m' d d' f f' l l'
advances-by (Ok u) m m' d d' f f' l l' h q = record {
  added = q.step.added;
  logged = q.step.logged;
  rest = λ log e. rest-stays meant m m' d d' f f' l l' q log e h.world.ids
      (λ k. hands-own d q.top m.done k f) (below-in m m' d d' f f' l l' q h.formed.ids);
  lighter = weight-falls m m' d d' f f' l l' q (its-log d) (its-own d) h.formed.outcome;
}
advances-by (Err SpentHalt) m m' d d' f f' l l' h q = record {
  rest = λ log e. rest-stops meant m d d' f f' l l' q log e
      (λ k. hands-own d q.top m.done k f);
  trace = q.step.trace;
  told = q.step.told;
}
advances-by (Err NoMemory) m m' d d' f f' l l' h q = tt
