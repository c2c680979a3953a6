use Rattle.mb_growth.proofs.Checked.{checks-tell}
use Rattle.mb_growth.proofs.laws.checks_tell.Goals as goal

pub returns : goal.returns
returns c view e checked pass = checks-tell view e checked pass
