-- The forms of a side's script, in a world and in its image, and what a step reads as the world grows.
use Rattle.std.proofs.Common.{◌<◌, ◌≡◌, ◌∙◌, ◌∷◌, List, None, Option, Some, [], ap, arith, map, refl, slice_get, slice_index_or, subst, suc, sym, take, zero, ℕ}
use Rattle.std.specs.Prelude.{All}
use Rattle.std.proofs.lemmas.List.Elements.{All-head, All-tail}
use Rattle.mb_base.specs.declared.value.Side.{Side}
use Rattle.mb_frames.specs.Resolved.{context_in}
use Rattle.mb_frames.specs.Standing.{forms_at}
use Rattle.mb_frames.specs.Stepping.{Grew}
use Rattle.mb_frames.specs.declared.task.Context.{Context}
use Rattle.mb_model.specs.Nodes.Scopes.{forms_if, forms_of}
use Rattle.mb_world.proofs.Images.{program-grows, value-grows}
use Rattle.mb_world.specs.Data.{Data, Script, program_of}
use Rattle.mb_world.specs.Graph.{Item}
use Rattle.mb_world.specs.Ids.{HasItsIds, Maybe, ScriptIn, ValueIn}
use Rattle.mb_world.specs.Image.{Image, names_of, program_in}
use Rattle.mb_frames.specs.Grammatical.{IsProgram}
use Rattle.mb_frames.specs.Ready.{IsReady}
use Rattle.mb_frames.specs.Running.{CanRun}

pub All-at : {A : Type 0} (P : A → Type 0) (xs : List A) (i : ℕ) (x : A) → All P xs → P x → P (slice_index_or xs i x)
All-at P [] i x h u = u
All-at P (y ∷ ys) zero x h u = All-head P y ys h
All-at P (y ∷ ys) (suc i) x h u = All-at P ys i x (All-tail P y ys h) u

programs-at : (texts : List (List ℕ)) (n : ℕ) (ps : List (Option Script)) (i : ℕ) → i < n
    → forms_if (slice_get (map (program_in texts) (take n ps)) i) ≡ (program_in texts (slice_index_or ps i None)).forms
programs-at texts zero ps i h = absurd (omega (arith, h))
programs-at texts (suc n) [] i h = refl
programs-at texts (suc n) (p ∷ ps) zero h = refl
programs-at texts (suc n) (p ∷ ps) (suc i) h = programs-at texts n ps i (omega (arith, h))

-- the image has the nodes of a side that takes part
pub forms-are : (d : Data) (home : Side) (log : List Item) → home.0 < d.sides
    → forms_of (Image d log) home.0 ≡ forms_at d home
forms-are d home log h = programs-at d.texts d.sides d.programs home.0 h

pub program-same : (d d' : Data) (home : Side) → Grew d d' → program_of d' home ≡ program_of d home
program-same d d' home g = ap (λ ps. slice_index_or ps home.0 None) g.programs

pub forms-grow : (d d' : Data) (home : Side) → HasItsIds d → Grew d d' → forms_at d' home ≡ forms_at d home
forms-grow d d' home i g =
    ap (λ p. (program_in d'.texts p).forms) (program-same d d' home g)
    ∙ ap (λ p. p.forms)
    (program-grows d d' g.grows (program_of d home) (All-at (Maybe (ScriptIn d)) d.programs home.0 None i.programs_in tt))

pub context-grows : (d d' : Data) (home : Side) (at : Context) → ValueIn d at.this → Grew d d'
    → context_in (names_of d') home.0 at ≡ context_in (names_of d) home.0 at
context-grows d d' home at h g = rw (value-grows d d' g.grows at.this h) refl

pub CanRun-grows : (d d' : Data) (home : Side) → Grew d d' → HasItsIds d' → CanRun d home → CanRun d' home
CanRun-grows d d' home g i c = record {
  sides = omega (arith, g.sides, c.sides);
  takes_part = omega (arith, g.sides, c.takes_part);
  script = subst (Maybe IsProgram) (sym (program-same d d' home g)) c.script;
  ids = i;
}

pub script-in : (d : Data) (home : Side) (p : Script) → HasItsIds d → program_of d home ≡ Some p → ScriptIn d p
script-in d home p i e =
    subst (Maybe (ScriptIn d)) e (All-at (Maybe (ScriptIn d)) d.programs home.0 None i.programs_in tt)

-- a side of a world between the steps can run
pub ready-runs : (d : Data) (home : Side) → IsReady d → home.0 < d.sides → CanRun d home
ready-runs d home r h = record {
  sides = r.formed.sides.1;
  takes_part = h;
  script = All-at (Maybe IsProgram) d.programs home.0 None r.formed.programs tt;
  ids = r.ids;
}
