use Rattle.std.proofs.Common.{◌≡◌, ◌+◌, ◌<◌, ◌-◌, take, length, arith, ◌∙◌, refl, subst}
use Rattle.std.proofs.lemmas.List.{length-take}
use Rattle.std.specs.Prelude.{IsSome}
use Rattle.mb_outer.specs.Causes.{Gets}
use Rattle.mb_outer.specs.declared.library.Got.TheVariants as got
use Rattle.mb_text.proofs.Kept.{keeps_ids_more}
use Rattle.mb_cli.proofs.PartsRead.{at_more, scanned_whole, scanned_long, left_whole, left_long, buffer_length}
use Rattle.mb_cli.proofs.pieces.scan.Goals as goal

pub returns-in-Failed-read-clause-never : goal.returns-in-Failed-read-clause-never
returns-in-Failed-read-clause-never g c s sound told there failed =
    let read = c.loop-lexer.invariant.read.read s told in
    let some : IsSome (g.L.Library.rest c.loop-lexer.library) = rw read.rest_is refl in
    c.in-Failed-read.ensures.never (c.loop-lexer.invariant.sound sound) some refl

pub returns-in-Bytes-eq0-clause-script : goal.returns-in-Bytes-eq0-clause-script
returns-in-Bytes-eq0-clause-script g c s told =
    let some : 0 < length c.read.new.into = omega (arith, buffer_length c.read.new.into c.loop-lexer.piece c.min-most.result (1048576 - c.fed.result + 1) c.read.auto.into c.min-most.array_long c.min-most.ensures) in
    scanned_whole (g.L.Library.shelf c.args.library.now) c.args.name.now (g.L.Library.rest c.loop-lexer.library) (g.L.Library.rest c.read.new.self) c.loop-lexer.texts c.loop-lexer.lexer c.read.new.into
    some c.loop-lexer.invariant.within c.loop-lexer.invariant.read
    (subst (λ n. Gets (g.L.Library.rest c.loop-lexer.library) (g.L.Library.rest c.read.new.self) c.read.new.into (got.Bytes n)) c.in-Bytes-eq0.field-0-test c.in-Bytes-eq0.ensures.bytes) s told

pub returns-in-Bytes-eq0-clause-read : goal.returns-in-Bytes-eq0-clause-read
returns-in-Bytes-eq0-clause-read g c s told =
    let some : 0 < length c.read.new.into = omega (arith, buffer_length c.read.new.into c.loop-lexer.piece c.min-most.result (1048576 - c.fed.result + 1) c.read.auto.into c.min-most.array_long c.min-most.ensures) in
    left_whole (g.L.Library.shelf c.args.library.now) c.args.name.now (g.L.Library.rest c.loop-lexer.library) (g.L.Library.rest c.read.new.self) c.loop-lexer.texts c.loop-lexer.lexer c.read.new.into
    some c.loop-lexer.invariant.within c.loop-lexer.invariant.read
    (subst (λ n. Gets (g.L.Library.rest c.loop-lexer.library) (g.L.Library.rest c.read.new.self) c.read.new.into (got.Bytes n)) c.in-Bytes-eq0.field-0-test c.in-Bytes-eq0.ensures.bytes) s told

pub returns-in-Bytes-clause-script : goal.returns-in-Bytes-clause-script
returns-in-Bytes-clause-script g c s told =
    scanned_long (g.L.Library.shelf c.args.library.now) c.args.name.now (g.L.Library.rest c.loop-lexer.library) (g.L.Library.rest c.read.new.self) c.loop-lexer.texts c.loop-lexer.lexer c.read.new.into c.in-Bytes.count
    c.in-Bytes.ensures.bound (omega (arith, c.if-count-room.true, c.fed.ensures, c.loop-lexer.invariant.within)) c.loop-lexer.invariant.read c.in-Bytes.ensures.bytes s told

pub returns-in-Bytes-clause-read : goal.returns-in-Bytes-clause-read
returns-in-Bytes-clause-read g c s told =
    let long = buffer_length c.read.new.into c.loop-lexer.piece c.min-most.result (1048576 - c.fed.result + 1) c.read.auto.into c.min-most.array_long c.min-most.ensures in
    left_long (g.L.Library.shelf c.args.library.now) c.args.name.now (g.L.Library.rest c.loop-lexer.library) (g.L.Library.rest c.read.new.self) c.loop-lexer.texts c.loop-lexer.lexer c.read.new.into c.in-Bytes.count
    c.in-Bytes.ensures.bound (omega (arith, long, c.in-Bytes.ensures.bound, c.if-count-room.true, c.fed.ensures, c.loop-lexer.invariant.within)) c.loop-lexer.invariant.read c.in-Bytes.ensures.bytes s told

pub loop-lexer-preserved : goal.loop-lexer-preserved
loop-lexer-preserved g c =
    let piece = take c.in-Bytes.count c.read.new.into in
    let count : c.feed.new.self.fed ≡ c.loop-lexer.lexer.fed + length piece = c.in_ok-feed-in-Bytes-2.ensures.count in
    record {
      within = omega (arith, count, length-take c.in-Bytes.count c.read.new.into, c.if-count-room.false, c.fed.ensures, c.loop-lexer.invariant.within);
      shelf = c.read.ensures.same ∙ c.loop-lexer.invariant.shelf;
      sound = λ h. c.read.ensures.sound (c.loop-lexer.invariant.sound h);
      faults = c.in-Bytes.ensures.cause ∙ c.loop-lexer.invariant.faults;
      ids = keeps_ids_more c.args.texts.now c.loop-lexer.texts c.feed.new.texts c.loop-lexer.invariant.ids c.feed.ensures.texts;
      distinct = λ h. c.feed.ensures.distinct (c.loop-lexer.invariant.distinct h);
      read = at_more (g.L.Library.shelf c.args.library.now) c.args.name.now (g.L.Library.rest c.loop-lexer.library) (g.L.Library.rest c.read.new.self)
          c.loop-lexer.texts c.feed.new.texts c.loop-lexer.lexer c.feed.new.self c.read.new.into piece c.in-Bytes.count
          c.loop-lexer.invariant.read c.in-Bytes.ensures.bytes refl (λ bytes fed. c.in_ok-feed-in-Bytes-2.ensures.fed bytes fed);
    }
