use Rattle.std.proofs.Common.{◌≡◌, ◌∷◌, [], ◌++◌, ◌<◌, ◌-◌, ◌^◌, false, reverse, refl, sym, ap, ◌∙◌, option_to_list}
use Rattle.std.proofs.lemmas.List.Elements.{All-pop}
use Rattle.mb_desc.specs.Descriptors.{is_fixed, property_is}
use Rattle.mb_props.specs.Table.{found}
use Rattle.mb_props.specs.KeyOrder.{index_of}
use Rattle.mb_world.specs.Data.{cell_at}
use Rattle.mb_array.specs.Define.{table_in}
use Rattle.mb_array.specs.machine.Cutting.{cut_of}
use Rattle.mb_array.proofs.Stepping.{unchanged, table-is, still, cut-next}
use Rattle.mb_array.proofs.cutting.cut.Goals as goal

pub loop-key-init : goal.loop-key-init
loop-key-init c = record { changed = unchanged c.args.w.now c.args.o c.requires.object; cut = refl; low = c.requires.indices }

pub loop-key-preserved : goal.loop-key-preserved
loop-key-preserved c =
    let d = c.args.w.now in
    let w = c.loop-key.w in
    let after = c.remove.new.self in
    let o = c.args.o in
    let key = c.in-Some.key in
    let front = c.pop.new.self.items in
    let ps = table_in (cell_at w o) in
    let held = c.loop-key.invariant in
    let items : c.loop-key.keys.items ≡ front ++ (key ∷ []) = c.pop.ensures.items ∙ ap (λ r. front ++ option_to_list r) c.in-Some.is in
    let loose : property_is is_fixed (found ps key) ≡ false =
    ap (λ cell. property_is is_fixed (found (table_in cell) key)) c.cell.ensures.value
    ∙ ap (property_is is_fixed) (sym c.get.ensures.value) ∙ sym c.is_fixed.ensures ∙ c.if-is_fixed.false in
    record {
      changed = still d w after o key c.requires.object held.changed c.remove.ensures.removed;
      cut =
          ap (cut_of (reverse front) c.args.n) (table-is d w after o key c.requires.object held.changed c.remove.ensures.removed)
          ∙ sym (cut-next front key c.args.n ps loose)
          ∙ ap (λ ks. cut_of (reverse ks) c.args.n ps) (sym items) ∙ held.cut;
      low = (All-pop (λ k. index_of k < 2 ^ 32 - 1) c.loop-key.keys.items front c.pop.result c.pop.ensures.items held.low).0;
    }
