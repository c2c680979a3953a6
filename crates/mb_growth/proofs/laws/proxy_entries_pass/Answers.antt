use Rattle.mb_growth.proofs.Proxies.{proxy-entries-pass, proxies-pass}
use Rattle.mb_growth.proofs.laws.proxy_entries_pass.Goals as goal

pub returns-clause-one : goal.returns-clause-one
returns-clause-one c s v n target handler shape m enters t u graph fuel at kind there ordinary fit formed =
    proxy-entries-pass s v n target handler shape m enters t u graph fuel at kind there ordinary fit formed

pub returns-clause-all : goal.returns-clause-all
returns-clause-all c s v n target handler shape m enters t graph fuel at kind has fit formed =
    proxies-pass s v n target handler shape m enters t graph fuel at kind has fit formed
