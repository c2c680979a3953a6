use Rattle.std.proofs.Common.{◌≡◌, ◌∙◌, ap, subst, map}
use Rattle.mb_world.specs.Data.{Data}
use Rattle.mb_world.specs.Image.{names_of, key_in}
use Rattle.mb_maps.specs.Crossing.{halted}
use Rattle.mb_shadow.specs.Following.{Followed}
use Rattle.mb_shadow.specs.machine.Sights.{Replaced, ReplacedAll}
use Rattle.mb_shadow.proofs.Steps.{halted-done, followed-then}
use Rattle.mb_shadow.proofs.Stable.{shadow-in}
use Rattle.mb_shadow.proofs.Replacing.{on-ok, all-done, read-own, read-seen, read-within}
use Rattle.mb_shadow.proofs.following.replace_all.Goals as goal

pub returns-in_err-own-clause-stays : goal.returns-in_err-own-clause-stays
returns-in_err-own-clause-stays c = halted-done c.args.w.now c.or_halt.new.w c.args.sight.shadow c.requires.world
    (shadow-in c.args.w.now c.args.sight c.requires.sight) c.in_err-own.ensures.halts

pub returns-in_err-seen-clause-stays : goal.returns-in_err-seen-clause-stays
returns-in_err-seen-clause-stays c = halted-done c.args.w.now c.or_halt-2.new.w c.args.sight.shadow c.requires.world
    (shadow-in c.args.w.now c.args.sight c.requires.sight) (c.in_err-seen.ensures.halts ∙ ap halted c.in_ok-own.ensures.runs)

pub returns-clause-replaced : goal.returns-clause-replaced
returns-clause-replaced c =
    let e : c.or_halt-2.new.w ≡ c.args.w.now = c.in_ok-seen.ensures.runs ∙ c.in_ok-own.ensures.runs in
    on-ok
    (Replaced c.replace_each.new.w c.replace_each-2.new.w c.args.sight (map (key_in (names_of c.replace_each.new.w)) c.deref-2.result.now))
    (ReplacedAll c.args.w.now c.replace_each-2.new.w c.args.sight)
    (λ second. all-done c.args.w.now c.replace_each.new.w c.replace_each-2.new.w c.args.sight c.in_ok-own.own.items c.in_ok-seen.seen.items
    c.requires.world c.requires.sight (record {
      own_listed = read-own c.args.w.now c.args.sight.shadow c.keys-own.result c.or_halt.result c.in_ok-own.own c.or_halt.ensures.same
          c.in_ok-own.was c.keys-own.ensures.meant;
      seen_listed = read-seen c.args.w.now c.args.sight c.keys_seen-seen.result c.or_halt-2.result c.in_ok-seen.seen c.or_halt-2.ensures.same
          c.in_ok-seen.was (rw c.in_ok-own.ensures.runs at c.keys_seen-seen.ensures.keys);
      seen_within = read-within c.args.w.now c.keys_seen-seen.result c.or_halt-2.result c.in_ok-seen.seen c.or_halt-2.ensures.same
          c.in_ok-seen.was (rw c.in_ok-own.ensures.runs at c.keys_seen-seen.ensures.within);
      first = subst (λ keys. Replaced c.args.w.now c.replace_each.new.w c.args.sight (map (key_in (names_of c.args.w.now)) keys)) c.deref.ensures.value
          (subst (λ (d : Data). Replaced d c.replace_each.new.w c.args.sight (map (key_in (names_of d)) c.deref.result.now)) e c.in_ok-replace_each.ensures.replaced);
      first_followed = subst (λ (d : Data). Followed d c.replace_each.new.w c.args.sight.shadow) e c.in_ok-replace_each.ensures.stays;
      second = subst (λ keys. Replaced c.replace_each.new.w c.replace_each-2.new.w c.args.sight (map (key_in (names_of c.replace_each.new.w)) keys)) c.deref-2.ensures.value second;
    }))
    c.replace_each-2.result c.replace_each-2.ensures.replaced

pub returns-clause-stays : goal.returns-clause-stays
returns-clause-stays c =
    let e : c.or_halt-2.new.w ≡ c.args.w.now = c.in_ok-seen.ensures.runs ∙ c.in_ok-own.ensures.runs in
    followed-then c.args.w.now c.replace_each.new.w c.replace_each-2.new.w c.args.sight.shadow
    (shadow-in c.args.w.now c.args.sight c.requires.sight)
    (subst (λ (d : Data). Followed d c.replace_each.new.w c.args.sight.shadow) e c.in_ok-replace_each.ensures.stays) c.replace_each-2.ensures.stays
