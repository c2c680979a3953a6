use Rattle.mb_cli.proofs.Endings.{ends_once, writes_once, ends_written, written_ends}
use Rattle.mb_cli.proofs.laws.a_task_ends_one_way.Goals as goal

pub returns : goal.returns
returns c = record { end = ends_once; text = writes_once; accepted = ends_written; only_accepted = written_ends }
