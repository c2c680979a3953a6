use Rattle.std.proofs.Common.{set, sym, ap, ◌∙◌, subst}
use Rattle.mb_props.specs.Table.{HasDistinctKeys}
use Rattle.mb_props.proofs.Listed.{insert-at, distinct-at, found-none}
use Rattle.mb_props.proofs.pairs.replace_in_list.Goals as goal

pub returns-in-Some-clause-replaced : goal.returns-in-Some-clause-replaced
returns-in-Some-clause-replaced g c _ =
    let at = sym (rw c.deref.ensures.value at c.in-Some.ensures) in
    ap (λ (e : _ × _). set c.args.list.now.items c.in-Some.place (e.0, c.args.property)) c.index_mut.ensures.value
    ∙ insert-at c.args.key c.args.list.now.items c.in-Some.place c.index_mut.result.now at c.args.property

pub returns-in-Some-clause-distinct : goal.returns-in-Some-clause-distinct
returns-in-Some-clause-distinct g c =
    let at = sym (rw c.deref.ensures.value at c.in-Some.ensures) in
    subst HasDistinctKeys (sym (ap (λ (e : _ × _). set c.args.list.now.items c.in-Some.place (e.0, c.args.property)) c.index_mut.ensures.value))
    (distinct-at c.args.key c.args.list.now.items c.in-Some.place c.index_mut.result.now at c.args.property c.requires.distinct)

pub returns-in-None-clause-absent : goal.returns-in-None-clause-absent
returns-in-None-clause-absent g c _ =
    found-none c.args.key c.args.list.now.items (sym (rw c.deref.ensures.value at c.in-None.ensures))
