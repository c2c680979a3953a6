use Rattle.std.proofs.Common.{[], ◌∷◌, sym, ◌∙◌}
use Rattle.mb_world.specs.Image.{names_of, key_in}
use Rattle.mb_shadow.specs.declared.part.Part.TheVariants as part
use Rattle.mb_shadow.specs.machine.Sights.{Replaced, FollowedFrom}
use Rattle.mb_shadow.proofs.Steps.{followed-same}
use Rattle.mb_shadow.proofs.Replacing.{on-ok}
use Rattle.mb_shadow.proofs.FollowedParts.{key-unchanged, key-replaced, keeps-closed, keeps-fixed}
use Rattle.mb_shadow.proofs.following.follow_key.Goals as goal
use Rattle.mb_shadow.proofs.following.follow_key.Goals.{else-cell-via-then-cell+else-not-is_fixed, else-cell-via-else-cell}

pub returns-then-not-is_fixed-clause-followed : goal.returns-then-not-is_fixed-clause-followed
returns-then-not-is_fixed-clause-followed c = key-unchanged c.args.w.now c.args.sight c.requires.world c.requires.sight c.cell.result.now
    c.cell.ensures.value c.args.key c.shown.result c.if-cell.true (sym c.is_fixed.ensures ∙ c.if-not-is_fixed.true) c.shown.ensures.meant

pub returns-then-not-is_fixed-clause-stays : goal.returns-then-not-is_fixed-clause-stays
returns-then-not-is_fixed-clause-stays c = followed-same c.args.w.now c.args.sight.shadow c.requires.world

pub returns-clause-followed : goal.returns-clause-followed
returns-clause-followed c = on-ok
    (Replaced c.args.w.now c.replace.new.w c.args.sight (key_in (names_of c.args.w.now) c.args.key ∷ []))
    (FollowedFrom c.args.w.now c.replace.new.w c.args.sight (part.Key c.args.key))
    (λ r. key-replaced c.args.w.now c.args.sight c.requires.world c.requires.sight c.cell.result.now c.cell.ensures.value c.args.key
    (elim c.else-cell.branch [
      | else-cell-via-then-cell+else-not-is_fixed w ↦ keeps-fixed c.args.w.now c.args.sight c.requires.world c.requires.sight c.cell.result.now
          c.cell.ensures.value c.args.key w.shown.result w.if-cell.true (sym w.is_fixed.ensures ∙ w.if-not-is_fixed.false) w.shown.ensures.meant
      | else-cell-via-else-cell w ↦ keeps-closed c.args.w.now c.args.sight c.requires.world c.requires.sight c.cell.result.now c.cell.ensures.value
          c.args.key w.if-cell.false
    ])
    c.replace.new.w c.replace.ensures.stays r)
    c.replace.result c.replace.ensures.replaced
