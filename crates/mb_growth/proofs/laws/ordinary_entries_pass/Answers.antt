use Rattle.mb_growth.proofs.BuiltIns.{ordinary-entries-pass}
use Rattle.mb_growth.proofs.laws.ordinary_entries_pass.Goals as goal

pub returns : goal.returns
returns c s v o m enters t graph fuel at ordinary fit formed =
    ordinary-entries-pass s v o m enters t graph fuel at ordinary fit formed
