use Rattle.std.proofs.Common.{◌≡◌, ◌<◌, ◌≤◌, ◌+◌, ◌-◌, ◌^◌, List, Option, ◌++◌, ◌∷◌, [], Vec, Global, append-nil, option_to_list, arith, sym, ap, ◌∙◌, subst}
use Rattle.std.specs.Prelude.{All}
use Rattle.std.specs.List.{filter}
use Rattle.std.specs.Map.{keys_of}
use Rattle.mb_base.specs.declared.value.Key.{Key}
use Rattle.mb_base.specs.declared.value.Value.{Value}
use Rattle.mb_desc.specs.declared.descriptor.Full.{Full}
use Rattle.mb_world.specs.Data.{cell_at}
use Rattle.mb_world.specs.Ids.{PropertyIn}
use Rattle.mb_ordinary.proofs.Sorting.{in_order}
use Rattle.mb_array.specs.Define.{table_in}
use Rattle.mb_array.proofs.Listing.{is_within, within-none, within-more, one-by-one}
use Rattle.mb_array.proofs.indices.one_by_one.Goals.{in-Some+in_ok-push, in_default}
use Rattle.mb_array.proofs.indices.one_by_one.Goals as goal

pub loop-index-init : goal.loop-index-init
loop-index-init c =
    c.new-keys.ensures.items ∙ sym (within-none c.args.n (in_order (keys_of (table_in (cell_at c.args.w.now c.args.o)))))

pub loop-index-preserved : goal.loop-index-preserved
loop-index-preserved c =
    let d = c.args.w.now in
    let h = c.requires.cell in
    let n = c.args.n in
    let i = c.loop-index.index in
    let ps : List (Key × Full Value) = table_in (cell_at d c.args.o) in
    let g : All (PropertyIn d) ps = subst (λ x. All (PropertyIn d) (table_in x)) (sym h.there) h.within.props_in in
    let le : n ≤ i = c.loop-index.auto.index in
    let low : i < 2 ^ 32 - 1 = omega (arith, c.loop-index-test.true, c.ranges.old.fits) in
    let before : List Key = filter (is_within n i) (in_order (keys_of ps)) in
    let more : filter (is_within n (i + 1)) (in_order (keys_of ps)) ≡ before ++ option_to_list c.in_ok-key.field-0 = within-more d h.distinct n i ps g c.requires.distinct le low c.in_ok-key.field-0 c.in_ok-key.ensures in
    elim c.match-branch-2.branch [
      | in-Some+in_ok-push w ↦
          ap (λ (v : Vec Key Global). v.items) w.keys-is ∙ w.in_ok-push.ensures.items ∙ ap (λ (xs : List Key). xs ++ w.in-Some.key ∷ []) c.loop-index.invariant
          ∙ sym (more ∙ ap (λ (k : Option Key). before ++ option_to_list k) w.in-Some.is)
      | in_default w ↦
          ap (λ (v : Vec Key Global). v.items) w.keys-is ∙ c.loop-index.invariant
          ∙ sym (more ∙ ap (λ (k : Option Key). before ++ option_to_list k) w.in_default.is ∙ append-nil before)
    ]

pub returns : goal.returns
returns c =
    let d = c.args.w.now in
    let h = c.requires.cell in
    let n = c.args.n in
    let ps : List (Key × Full Value) = table_in (cell_at d c.args.o) in
    let g : All (PropertyIn d) ps = subst (λ x. All (PropertyIn d) (table_in x)) (sym h.there) h.within.props_in in
    let end : c.loop-index.index ≡ c.args.old = omega (arith, c.loop-index-test.false, c.loop-index.auto.index-end, c.requires.shorter) in
    one-by-one d h.distinct n c.args.old ps c.loop-index.keys.items g c.requires.below
    (c.loop-index.invariant ∙ ap (λ i. filter (is_within n i) (in_order (keys_of ps))) end)
