-- What `clap` makes of the operands, however many there are.
use Rattle.std.proofs.Common.{◌≡◌, ◌∙◌, sym, ap, ap₂, refl, Bool, true, false, ◌&&◌, List, [], ◌∷◌, ◌++◌, Some, None, is_some, codes, append_assoc}
use Rattle.std.specs.List.{fold, list_all}
use Rattle.std.proofs.lemmas.List.{append-nil}
use Rattle.clap.specs.Words.{App, Rule, Row, Text, built}
use Rattle.clap.specs.Walk.{Walk, positional, walked, finished}
use Rattle.clap.specs.Simple.{entered}
use Rattle.clap.specs.Takes.{walk_passes, turn_passes, settle_passes, default_passes, is_valid, entered_passes}
use Rattle.clap.specs.ValueTests.{accepts}
use Rattle.clap.specs.declared.builder.value_parser.ValueParser.TheVariants as vp
use Rattle.clap.proofs.OnLiterals.{clap_on_literals}
use Rattle.mb_words.specs.declared.command.Command.{Command}
use Rattle.mb_words.specs.declared.command.Command.TheVariants.{Run, Shared, Check, Load, Sides}
use Rattle.mb_words.specs.Parts.{Chosen}
use Rattle.mb_words.specs.machine.Matching.{app_for, Finds}

abbrev pub whole : Command → App
whole c = built (app_for c)

abbrev pub rules : Command → List Rule
rules c = (whole c).top.rules

-- a walk behind `--` that has these operands
abbrev pub at : List Row → List Text → Walk
at rows operands = record {
  held = record { rows = rows; pending = Some (codes "operand", operands); skip = 0 };
  waiting = positional;
  position = 1;
  is_trailing = true;
  stopped = None;
}

abbrev pub several : Command → Bool
several Check = false
several _ = true

step : (c : Command) → several c ≡ true → (rows : List Row) (us : List Text) (word : Text)
    → walked (rules c) [] (at rows us) word ≡ at rows (us ++ word ∷ [])
unfolding clap_on_literals
step Run e rows us word = refl
step Shared e rows us word = refl
step Check e rows us word = cc
step Load e rows us word = refl
step Sides e rows us word = refl

turn : (c : Command) → several c ≡ true → (rows : List Row) (us : List Text) (word : Text)
    → turn_passes (whole c).top [] (at rows us) word ≡ true
unfolding clap_on_literals
turn Run e rows us word = refl
turn Shared e rows us word = refl
turn Check e rows us word = cc
turn Load e rows us word = refl
turn Sides e rows us word = refl

pub grown : (c : Command) → several c ≡ true → (rows : List Row) (us vs : List Text)
    → fold (walked (rules c) []) (at rows us) vs ≡ at rows (us ++ vs)
grown c e rows us [] = ap (at rows) (sym (append-nil us))
grown c e rows us (v ∷ vs) =
    ap (λ (w : Walk). fold (walked (rules c) []) w vs) (step c e rows us v)
    ∙ grown c e rows (us ++ v ∷ []) vs ∙ ap (at rows) (append_assoc us (v ∷ []) vs)

pub passing : (c : Command) → several c ≡ true → (rows : List Row) (us vs : List Text)
    → walk_passes (whole c).top [] (at rows us) vs ≡ true
unfolding walk_passes
passing c e rows us [] = refl
passing c e rows us (v ∷ vs) =
    ap₂ (λ (b d : Bool). b && d) (turn c e rows us v)
    (ap (λ (w : Walk). walk_passes (whole c).top [] w vs) (step c e rows us v) ∙ passing c e rows (us ++ v ∷ []) vs)

pub all_pass : (vs : List Text) → list_all (accepts false vp.String) vs ≡ true
all_pass [] = refl
all_pass (v ∷ vs) = all_pass vs

-- what is tested when the walk has ended
abbrev pub ends_well : Command → Bool → Walk → Bool
ends_well c passes w = entered_passes (whole c) w.stopped
    && (passes && (settle_passes (rules c) (whole c).top.args_override_self w.held
    && (list_all default_passes (rules c)
    && is_valid (whole c).top (finished (rules c) w.held) (is_some (entered (whole c) w.stopped)))))

abbrev pub Reads : Command → Chosen → Bool → Walk → Type 0
Reads c chosen passes w = Finds c chosen (finished (rules c) w.held) × (ends_well c passes w ≡ true)

-- the walk over the operands from the first on, by what holds at its end
pub over : (c : Command) → several c ≡ true → (chosen : Chosen) (rows : List Row) (v : Text) (vs : List Text)
    → Reads c chosen true (at rows (v ∷ vs))
    → Reads c chosen (walk_passes (whole c).top [] (at rows (v ∷ [])) vs) (fold (walked (rules c) []) (at rows (v ∷ [])) vs)
over c e chosen rows v vs h =
    rw (passing c e rows (v ∷ []) vs, grown c e rows (v ∷ []) vs) h
