use Rattle.std.proofs.Common.{◌≡◌, rules}
use Rattle.std.specs.Option.{option_map}
use Rattle.mb_scope.specs.declared.fault.NameFault.TheVariants.{Twice, Stray, BadTarget}
use Rattle.mb_scope.proofs.fault.first_fault.Goals as goal

pub returns : goal.returns
returns c =
    let twice : c.map-twice.result ≡ option_map Twice c.args.twice = search rules in
    let stray : c.map-stray.result ≡ option_map Stray c.args.stray = search rules in
    let target : c.map-target.result ≡ option_map BadTarget c.args.target = search rules in
    let first = c.sooner_fault.ensures in
    let second = c.sooner_fault-2.ensures in
    cc
