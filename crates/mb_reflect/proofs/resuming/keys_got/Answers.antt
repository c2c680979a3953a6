use Rattle.mb_reflect.proofs.Waiting.{no-more-keys}
use Rattle.mb_reflect.proofs.resuming.keys_got.Goals as goal

pub keys_listed-requires : goal.keys_listed-requires
keys_listed-requires c =
    let a = rw c.in-KeysListed.is at c.requires.acts in
    record { acts = record { ready = a.ready; side = a.side; holds = (a.holds.1.0, (a.holds.0, tt)) } }

pub returns-in-KeysListed-clause-part : goal.returns-in-KeysListed-clause-part
returns-in-KeysListed-clause-part c = rw c.in-KeysListed.is c.keys_listed.ensures.part

pub returns-in-KeysListed-clause-keeps : goal.returns-in-KeysListed-clause-keeps
returns-in-KeysListed-clause-keeps c = rw c.in-KeysListed.is c.keys_listed.ensures.keeps

pub symbols_listed-requires : goal.symbols_listed-requires
symbols_listed-requires c =
    let a = c.requires.acts in
    record { acts = record { ready = a.ready; side = a.side; holds = (a.holds.0, tt) } }

pub returns-in-SymbolsListed-clause-part : goal.returns-in-SymbolsListed-clause-part
returns-in-SymbolsListed-clause-part c = rw c.in-SymbolsListed.is c.symbols_listed.ensures.part

pub returns-in-SymbolsListed-clause-keeps : goal.returns-in-SymbolsListed-clause-keeps
returns-in-SymbolsListed-clause-keeps c = rw c.in-SymbolsListed.is c.symbols_listed.ensures.keeps

pub returns-in-SettledKeys-clause-part : goal.returns-in-SettledKeys-clause-part
returns-in-SettledKeys-clause-part c =
    let a = rw c.in-SettledKeys.is at c.requires.acts in
    rw c.in-SettledKeys.is
    (c.settle_from.ensures.part c.args.w.now
    (record { ready = a.ready; side = a.side; holds = (a.holds.1.0, (a.holds.0, tt)) }))

pub returns-in-SettledKeys-clause-keeps : goal.returns-in-SettledKeys-clause-keeps
returns-in-SettledKeys-clause-keeps c =
    let a = rw c.in-SettledKeys.is at c.requires.acts in
    rw c.in-SettledKeys.is
    (c.settle_from.ensures.keeps c.args.w.now
    (record { ready = a.ready; side = a.side; holds = (a.holds.1.0, (a.holds.0, tt)) }))

pub returns-in-FrozenKeys-clause-part : goal.returns-in-FrozenKeys-clause-part
returns-in-FrozenKeys-clause-part c =
    let a = rw c.in-FrozenKeys.is at c.requires.acts in
    rw c.in-FrozenKeys.is
    (c.frozen_from.ensures.part c.args.w.now
    (record { ready = a.ready; side = a.side; holds = (a.holds.1.0, (a.holds.0, tt)) }))

pub returns-in-FrozenKeys-clause-keeps : goal.returns-in-FrozenKeys-clause-keeps
returns-in-FrozenKeys-clause-keeps c =
    let a = rw c.in-FrozenKeys.is at c.requires.acts in
    rw c.in-FrozenKeys.is
    (c.frozen_from.ensures.keeps c.args.w.now
    (record { ready = a.ready; side = a.side; holds = (a.holds.1.0, (a.holds.0, tt)) }))

pub own_keys_listed-requires : goal.own_keys_listed-requires
own_keys_listed-requires c =
    let a = c.requires.acts in
    record { acts = record { ready = a.ready; side = a.side; holds = (a.holds.0, tt) } }

pub returns-in-OwnKeys-clause-part : goal.returns-in-OwnKeys-clause-part
returns-in-OwnKeys-clause-part c = rw c.in-OwnKeys.is c.own_keys_listed.ensures.part

pub returns-in-OwnKeys-clause-keeps : goal.returns-in-OwnKeys-clause-keeps
returns-in-OwnKeys-clause-keeps c = rw c.in-OwnKeys.is c.own_keys_listed.ensures.keeps

pub unreachable-requires : goal.unreachable-requires
unreachable-requires c =
    no-more-keys c.args.frame c.requires.waits c.in_default.not-KeysListed c.in_default.not-SymbolsListed
    c.in_default.not-SettledKeys c.in_default.not-FrozenKeys c.in_default.not-OwnKeys
