use Rattle.std.proofs.Common.{◌≡◌, ◌++◌, ◌+◌, ◌<◌, ◌-◌, List, ℕ, take, length, length-append, arith, ◌∙◌, refl, ap, sym, subst}
use Rattle.std.proofs.lemmas.List.{length-take}
use Rattle.std.specs.Prelude.{IsSome}
use Rattle.mb_lexer.specs.Feeding.{Fed}
use Rattle.mb_outer.specs.Causes.{Gets}
use Rattle.mb_outer.specs.declared.library.Got.TheVariants as got
use Rattle.mb_cli.proofs.PartsRead.{IsRead, read_more, read_ended, read_long, rest_at_end, rest_of_long, buffer_length}
use Rattle.mb_cli.proofs.first_form.Endings.{whole_long}
use Rattle.mb_cli.proofs.first_form.whole.read_whole.Goals as goal

pub returns-in-Failed-read-clause-never : goal.returns-in-Failed-read-clause-never
returns-in-Failed-read-clause-never g c s sound told there failed =
    let read = c.loop-texts.invariant.read s told in
    let some : IsSome (g.L.Library.rest c.loop-texts.library) = rw read.rest_is refl in
    c.in-Failed-read.ensures.never (c.loop-texts.invariant.sound sound) some refl

pub returns-in-Bytes-eq0-clause-whole : goal.returns-in-Bytes-eq0-clause-whole
returns-in-Bytes-eq0-clause-whole g c s told =
    let some : 0 < length c.read.new.into = omega (arith, buffer_length c.read.new.into c.loop-texts.piece c.min-size.result (c.args.most - c.len.result + 1) c.read.auto.into c.min-size.array_long c.min-size.ensures) in (
      read_ended s c.args.name.now (g.L.Library.rest c.loop-texts.library) (g.L.Library.rest c.read.new.self) c.loop-texts.bytes.items c.read.new.into some (c.loop-texts.invariant.read s told)
          (subst (λ n. Gets (g.L.Library.rest c.loop-texts.library) (g.L.Library.rest c.read.new.self) c.read.new.into (got.Bytes n)) c.in-Bytes-eq0.field-0-test c.in-Bytes-eq0.ensures.bytes),
      omega (arith, c.loop-texts.invariant.within),
    )

pub returns-in-Bytes-eq0-clause-read : goal.returns-in-Bytes-eq0-clause-read
returns-in-Bytes-eq0-clause-read g c s told =
    let some : 0 < length c.read.new.into = omega (arith, buffer_length c.read.new.into c.loop-texts.piece c.min-size.result (c.args.most - c.len.result + 1) c.read.auto.into c.min-size.array_long c.min-size.ensures) in
    rest_at_end c.args.most s c.args.name.now (g.L.Library.rest c.loop-texts.library) (g.L.Library.rest c.read.new.self) c.loop-texts.bytes.items c.read.new.into some
    (omega (arith, c.loop-texts.invariant.within)) (c.loop-texts.invariant.read s told)
    (subst (λ n. Gets (g.L.Library.rest c.loop-texts.library) (g.L.Library.rest c.read.new.self) c.read.new.into (got.Bytes n)) c.in-Bytes-eq0.field-0-test c.in-Bytes-eq0.ensures.bytes)

pub returns-in-Bytes-clause-whole : goal.returns-in-Bytes-clause-whole
returns-in-Bytes-clause-whole g c s told =
    let all : List ℕ = c.loop-texts.bytes.items ++ take c.in-Bytes.count c.read.new.into in
    let long : c.args.most < length all =
    omega (
      arith,
      c.in-Bytes.ensures.bound,
      c.if-count-room.true,
      c.len.ensures,
      c.loop-texts.invariant.within,
      length-append c.loop-texts.bytes.items (take c.in-Bytes.count c.read.new.into),
      length-take c.in-Bytes.count c.read.new.into,
    ) in
    whole_long c.args.most _ (read_long c.args.most s c.args.name.now (g.L.Library.rest c.read.new.self) all long
    (read_more s c.args.name.now (g.L.Library.rest c.loop-texts.library) (g.L.Library.rest c.read.new.self) c.loop-texts.bytes.items c.read.new.into c.in-Bytes.count (c.loop-texts.invariant.read s told) c.in-Bytes.ensures.bytes))

pub returns-in-Bytes-clause-read : goal.returns-in-Bytes-clause-read
returns-in-Bytes-clause-read g c s told =
    let size = buffer_length c.read.new.into c.loop-texts.piece c.min-size.result (c.args.most - c.len.result + 1) c.read.auto.into c.min-size.array_long c.min-size.ensures in
    let all : List ℕ = c.loop-texts.bytes.items ++ take c.in-Bytes.count c.read.new.into in
    let long : length all ≡ c.args.most + 1 =
    omega (
      arith,
      size,
      c.in-Bytes.ensures.bound,
      c.if-count-room.true,
      c.len.ensures,
      c.loop-texts.invariant.within,
      length-append c.loop-texts.bytes.items (take c.in-Bytes.count c.read.new.into),
      length-take c.in-Bytes.count c.read.new.into,
    ) in
    rest_of_long c.args.most s c.args.name.now (g.L.Library.rest c.read.new.self) all long
    (read_more s c.args.name.now (g.L.Library.rest c.loop-texts.library) (g.L.Library.rest c.read.new.self) c.loop-texts.bytes.items c.read.new.into c.in-Bytes.count (c.loop-texts.invariant.read s told) c.in-Bytes.ensures.bytes)

pub loop-texts-preserved : goal.loop-texts-preserved
loop-texts-preserved g c =
    let piece : List ℕ = take c.in-Bytes.count c.read.new.into in
    let items : c.extend_from_slice.new.self.items ≡ c.loop-texts.bytes.items ++ piece = c.in_ok-extend_from_slice-in-Bytes-2.ensures.items in
    let longer : length c.extend_from_slice.new.self.items ≡ length c.loop-texts.bytes.items + length piece = ap length items ∙ length-append c.loop-texts.bytes.items piece in
    let count : c.feed.new.self.fed ≡ c.loop-texts.lexer.fed + length piece = c.in_ok-feed-in-Bytes-2.ensures.count in
    record {
      within = omega (arith, longer, length-take c.in-Bytes.count c.read.new.into, c.if-count-room.false, c.len.ensures, c.loop-texts.invariant.within);
      count = omega (arith, count, longer, c.loop-texts.invariant.count);
      fed = subst (λ bs. Fed c.feed.new.self c.feed.new.texts bs) (sym items) (c.in_ok-feed-in-Bytes-2.ensures.fed c.loop-texts.bytes.items c.loop-texts.invariant.fed);
      distinct = c.feed.ensures.distinct c.loop-texts.invariant.distinct;
      shelf = c.read.ensures.same ∙ c.loop-texts.invariant.shelf;
      sound = λ h. c.read.ensures.sound (c.loop-texts.invariant.sound h);
      faults = c.in-Bytes.ensures.cause ∙ c.loop-texts.invariant.faults;
      read = λ s told. subst (λ bs. IsRead s c.args.name.now (g.L.Library.rest c.read.new.self) bs) (sym items)
          (read_more s c.args.name.now (g.L.Library.rest c.loop-texts.library) (g.L.Library.rest c.read.new.self) c.loop-texts.bytes.items c.read.new.into c.in-Bytes.count (c.loop-texts.invariant.read s told) c.in-Bytes.ensures.bytes);
    }
