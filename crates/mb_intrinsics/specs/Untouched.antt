-- A world in which nothing was made and no script has run.
use Rattle.std.specs.Prelude.{List, [], All, false, map, take, true, ℕ, ◌≡◌, ◌≤◌}
use Rattle.mb_frames.specs.Grammatical.{IsProgram}
use Rattle.mb_frames.specs.Ready.{HasItsConstant}
use Rattle.mb_world.specs.Data.{Data}
use Rattle.mb_world.specs.Graph.{Program, Rule}
use Rattle.mb_world.specs.Ids.{Maybe}
use Rattle.mb_world.specs.Image.{names_of, program_in, rule_in}
use Rattle.mb_world.specs.declared.scope.Job.TheVariants.{Script}

-- so many sides may take part in it, each script is a program that is still to run, and the rules have their constants
pub record IsUntouched (d : Data) (n : ℕ) : Type 0 where
  pub least : 2 ≤ n
  pub most : n ≤ 8
  pub programs : All (Maybe IsProgram) d.programs
  pub constants : All (λ r. HasItsConstant r.kind) d.rules
  pub scopes : d.scopes ≡ []
  pub entries : d.entries ≡ []
  pub jobs : All (All (λ x. x ≡ Script)) d.queues
  -- a joined world has two sides, no rules, and nothing that could be revoked
  pub two_sides : d.joined ≡ true → n ≡ 2
  pub no_rules : d.joined ≡ true → d.rules ≡ []
  pub not_revoked : d.joined ≡ true → d.revoked ≡ false

-- ---- what is given to it

-- the programs of so many sides
abbrev pub programs_in : Data → ℕ → List Program
programs_in d n = map (program_in d.texts) (take n d.programs)

abbrev pub rules_in : Data → List Rule
rules_in d = map (rule_in (names_of d)) d.rules
