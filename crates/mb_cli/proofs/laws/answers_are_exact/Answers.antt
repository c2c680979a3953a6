use Rattle.mb_cli.specs.declared.status.Status.TheVariants.{BadScript, TooLong}
use Rattle.mb_cli.proofs.Endings.{whole_exact, exact}
use Rattle.mb_cli.proofs.laws.answers_are_exact.Goals as goal

pub returns : goal.returns
returns c = record {
  whole = whole_exact;
  refused = λ task answer side kind a r m. exact task answer (BadScript side kind) a r m (λ e. e) (λ e. cc);
  too_long = λ task answer which a r m. exact task answer (TooLong which) a r m (λ e. e) (λ e. cc);
}
