-- What the words ask for is what is done.
use Rattle.std.proofs.Common.{List, Option, refl, subst, sym, ◌∙◌, ◌≡◌}
use Rattle.std.specs.Prelude.{Err, Ok, Result}
use Rattle.mb_cli.specs.Serving.{IsTold}
use Rattle.mb_cli.specs.Settings.{Settings}
use Rattle.mb_cli.specs.Tasks.{Task, checking, running, sharing, task_of}
use Rattle.mb_cli.specs.declared.status.Status.{Status}
use Rattle.mb_cli.specs.declared.status.Status.TheVariants.{NoMemory}
use Rattle.mb_cli.specs.declared.words.Command.{Command}
use Rattle.mb_cli.specs.declared.words.Listing.{Listing}
use Rattle.mb_cli.specs.declared.words.Listing.TheVariants.{Check, Run}
use Rattle.mb_cli.specs.machine.Commands.{listed_by, meant_by}
use Rattle.mb_engine.specs.declared.drivers.Ran.{Ran}
use Rattle.mb_outer.specs.Shelf.{Shelf}
use Rattle.mb_words.specs.declared.fault.WordsKind.{WordsKind}
use Rattle.mb_world.specs.Data.{Data}

same_settings : (one other : Settings) → ◌≡◌ {A = Result Settings WordsKind} (Ok one) (Ok other) → one ≡ other
same_settings one other same = cc

-- words that are refused ask for nothing
pub asks_or_not : (asked : Result Settings WordsKind) (settings : Settings) (kind : WordsKind) → asked ≡ Ok settings
    → asked ≡ Err kind → ⊥
asks_or_not asked settings kind is not =
    let same : ◌≡◌ {A = Result Settings WordsKind} (Ok settings) (Err kind) = sym is ∙ not in cc

-- a fact of what the command does is one of what the words ask for
pub on_asked : (asked : Result Settings WordsKind) (command other : Command) (settings : Settings) (texts : Shelf)
    (fact : Task → Type 0) → asked ≡ Ok (meant_by command) → command ≡ other → asked ≡ Ok settings
    → fact (task_of texts (meant_by other)) → fact (task_of texts settings)
on_asked asked command other settings texts fact is same asks has =
    let means : asked ≡ Ok (meant_by other) = subst (λ (x : Command). asked ≡ Ok (meant_by x)) same is in
    subst (λ (x : Settings). fact (task_of texts x)) (same_settings (meant_by other) settings (sym means ∙ asks)) has

-- a command whose lines are made first makes no turn
pub listed_told : (listing : Listing) (texts : Shelf) (s : Status) (d : Data) (ran : Option (List Ran))
    → IsTold (task_of texts (listed_by listing)) s d ran ran
listed_told (Run left right) texts s d ran = refl
listed_told (Check file) texts s d ran = refl

pub nothing_told : (task : Task) (d : Data) (ran : Option (List Ran)) → IsTold task NoMemory d ran ran
nothing_told (running left right) d ran = refl
nothing_told (sharing left right schedule budget traced) d ran = tt
nothing_told (checking script) d ran = refl
