use Rattle.std.proofs.Common.{[], ◌∷◌, length, refl, sym, ap, ◌∙◌, append-nil, length-append, arith}
use Rattle.std.proofs.lemmas.List.{length-map}
use Rattle.mb_tree.specs.Roses.{view}
use Rattle.mb_parse_stmt.specs.declared.machine.Move.TheVariants.{Leaf, Enter, Swap, Build, Ask, Ended, Wrong}
use Rattle.mb_parse_stmt.proofs.Counts.{reading_count, reading_within}
use Rattle.mb_parse_stmt.proofs.Place.{Chosen, chosen_light, leaf_within, enter_within, swap_within, reading_leaf, reading_enter, reading_swap, reading_build, built_enough, reading_popped, reading_fit, wanting_ask, none_wrong, all_ended}
use Rattle.mb_tree.proofs.Stack.{shorter}
use Rattle.mb_parse_stmt.proofs.statements.StatementParser.advance.Goals as goal

pub view-view-requires : goal.view-view-requires
view-view-requires c =
    let q = c.requires.reading in
    reading_within (c.steps.invariant.each q.0 q.1 q.2)

pub next_move-requires : goal.next_move-requires
next_move-requires c =
    let q = c.requires.reading in
    let h = c.steps.invariant.each q.0 q.1 q.2 in
    let n = reading_count h c.top_of.result (λ fs e. c.top_of.ensures fs (c.deref.ensures.value ∙ e)) in
    omega (arith, n, reading_fit h, length-map c.steps.tree.nodes.items view, c.steps.invariant.few, c.steps.tree.nodes.ok.0)

pub overflow_add-self : goal.overflow_add-self
overflow_add-self c =
    let ch : Chosen c.steps.self.stop c.args.tokens.now c.steps.self.frames.items c.steps.self.mode c.steps.self.at (Leaf c.in-Leaf.label c.in-Leaf.mode c.in-Leaf.count) = record { o = c.top_of.result; tops = λ fs e. c.top_of.ensures fs (c.deref.ensures.value ∙ e); is = cc } in
    let q = c.requires.reading in
    let h = c.steps.invariant.each q.0 q.1 q.2 in
    let w = leaf_within h _ _ _ ch in
    omega (arith, w, c.requires.few)

pub steps-smaller-in-Leaf : goal.steps-smaller-in-Leaf
steps-smaller-in-Leaf c =
    let ch : Chosen c.steps.self.stop c.args.tokens.now c.steps.self.frames.items c.steps.self.mode c.steps.self.at (Leaf c.in-Leaf.label c.in-Leaf.mode c.in-Leaf.count) = record { o = c.top_of.result; tops = λ fs e. c.top_of.ensures fs (c.deref.ensures.value ∙ e); is = cc } in
    let q = c.requires.reading in
    let h = c.steps.invariant.each q.0 q.1 q.2 in
    let w = leaf_within h _ _ _ ch in
    let l = chosen_light ch in
    omega (arith, w, l.0)

pub steps-preserved-in-Leaf : goal.steps-preserved-in-Leaf
steps-preserved-in-Leaf c =
    let ch : Chosen c.steps.self.stop c.args.tokens.now c.steps.self.frames.items c.steps.self.mode c.steps.self.at (Leaf c.in-Leaf.label c.in-Leaf.mode c.in-Leaf.count) = record { o = c.top_of.result; tops = λ fs e. c.top_of.ensures fs (c.deref.ensures.value ∙ e); is = cc } in
    let l = chosen_light ch in
    let b = c.in_ok-build-in-Leaf.ensures.built c.steps.self.operands.items [] (sym (append-nil c.steps.self.operands.items)) refl in
    record { few = c.in_ok-build-in-Leaf.ensures.few; kept = c.steps.invariant.kept; forward = omega (arith, l.1, c.steps.invariant.forward); each = λ start base r. reading_leaf (c.steps.invariant.each start base r) _ _ _ ch _ _ _ b.0 b.1 refl }

pub overflow_add-self-in-Enter : goal.overflow_add-self-in-Enter
overflow_add-self-in-Enter c =
    let ch : Chosen c.steps.self.stop c.args.tokens.now c.steps.self.frames.items c.steps.self.mode c.steps.self.at (Enter c.in-Enter.frame c.in-Enter.mode c.in-Enter.count) = record { o = c.top_of.result; tops = λ fs e. c.top_of.ensures fs (c.deref.ensures.value ∙ e); is = cc } in
    let q = c.requires.reading in
    let h = c.steps.invariant.each q.0 q.1 q.2 in
    let w = enter_within h _ _ _ ch in
    omega (arith, w, c.requires.few)

pub steps-smaller-in-Enter : goal.steps-smaller-in-Enter
steps-smaller-in-Enter c =
    let ch : Chosen c.steps.self.stop c.args.tokens.now c.steps.self.frames.items c.steps.self.mode c.steps.self.at (Enter c.in-Enter.frame c.in-Enter.mode c.in-Enter.count) = record { o = c.top_of.result; tops = λ fs e. c.top_of.ensures fs (c.deref.ensures.value ∙ e); is = cc } in
    let q = c.requires.reading in
    let h = c.steps.invariant.each q.0 q.1 q.2 in
    let w = enter_within h _ _ _ ch in
    let l = chosen_light ch in
    omega (arith, w, l.0, c.in_ok-push-in-Enter.ensures.len, c.push.new.self.ok.0, c.steps.self.frames.ok.0)

pub steps-preserved-in-Enter : goal.steps-preserved-in-Enter
steps-preserved-in-Enter c =
    let ch : Chosen c.steps.self.stop c.args.tokens.now c.steps.self.frames.items c.steps.self.mode c.steps.self.at (Enter c.in-Enter.frame c.in-Enter.mode c.in-Enter.count) = record { o = c.top_of.result; tops = λ fs e. c.top_of.ensures fs (c.deref.ensures.value ∙ e); is = cc } in
    let l = chosen_light ch in
    record { few = c.steps.invariant.few; kept = c.steps.invariant.kept; forward = omega (arith, l.1, c.steps.invariant.forward); each = λ start base r. reading_enter (c.steps.invariant.each start base r) _ _ _ ch _ _ c.in_ok-push-in-Enter.ensures.items refl }

pub overflow_add-self-in-Swap : goal.overflow_add-self-in-Swap
overflow_add-self-in-Swap c =
    let ch : Chosen c.steps.self.stop c.args.tokens.now c.steps.self.frames.items c.steps.self.mode c.steps.self.at (Swap c.in-Swap.frame c.in-Swap.mode c.in-Swap.count) = record { o = c.top_of.result; tops = λ fs e. c.top_of.ensures fs (c.deref.ensures.value ∙ e); is = cc } in
    let q = c.requires.reading in
    let h = c.steps.invariant.each q.0 q.1 q.2 in
    let w = (swap_within h _ _ _ ch).0 in
    omega (arith, w, c.requires.few)

pub steps-smaller-in-Swap : goal.steps-smaller-in-Swap
steps-smaller-in-Swap c =
    let ch : Chosen c.steps.self.stop c.args.tokens.now c.steps.self.frames.items c.steps.self.mode c.steps.self.at (Swap c.in-Swap.frame c.in-Swap.mode c.in-Swap.count) = record { o = c.top_of.result; tops = λ fs e. c.top_of.ensures fs (c.deref.ensures.value ∙ e); is = cc } in
    let q = c.requires.reading in
    let h = c.steps.invariant.each q.0 q.1 q.2 in
    let w = (swap_within h _ _ _ ch).0 in
    let l = chosen_light ch in
    let one = (swap_within h _ _ _ ch).1 in
    let less = shorter c.steps.self.frames.items c.pop.new.self.items _ one c.steps.self.frames.ok.0 c.pop.ensures.rest in
    omega (arith, w, l.0, less, ap length c.in_ok-push-in-Swap.ensures.items, length-append c.pop.new.self.items (c.in-Swap.frame ∷ []))

pub steps-preserved-in-Swap : goal.steps-preserved-in-Swap
steps-preserved-in-Swap c =
    let ch : Chosen c.steps.self.stop c.args.tokens.now c.steps.self.frames.items c.steps.self.mode c.steps.self.at (Swap c.in-Swap.frame c.in-Swap.mode c.in-Swap.count) = record { o = c.top_of.result; tops = λ fs e. c.top_of.ensures fs (c.deref.ensures.value ∙ e); is = cc } in
    let l = chosen_light ch in
    record { few = c.steps.invariant.few; kept = c.steps.invariant.kept; forward = omega (arith, l.1, c.steps.invariant.forward); each = λ start base r. reading_swap (c.steps.invariant.each start base r) _ _ _ ch _ c.pop.new.self.items _ _ c.steps.self.frames.ok.0 c.pop.ensures.rest c.in_ok-push-in-Swap.ensures.items refl }

pub build-requires-in-Build : goal.build-requires-in-Build
build-requires-in-Build c =
    let ch : Chosen c.steps.self.stop c.args.tokens.now c.steps.self.frames.items c.steps.self.mode c.steps.self.at (Build c.in-Build.label c.in-Build.parts c.in-Build.mode c.in-Build.count) = record { o = c.top_of.result; tops = λ fs e. c.top_of.ensures fs (c.deref.ensures.value ∙ e); is = cc } in
    let q = c.requires.reading in
    let h = c.steps.invariant.each q.0 q.1 q.2 in
    let b = (reading_build h _ _ _ _ ch _ refl).0 in
    omega (arith, built_enough b, c.steps.self.operands.ok.0)

pub overflow_add-self-in-Build : goal.overflow_add-self-in-Build
overflow_add-self-in-Build c =
    let ch : Chosen c.steps.self.stop c.args.tokens.now c.steps.self.frames.items c.steps.self.mode c.steps.self.at (Build c.in-Build.label c.in-Build.parts c.in-Build.mode c.in-Build.count) = record { o = c.top_of.result; tops = λ fs e. c.top_of.ensures fs (c.deref.ensures.value ∙ e); is = cc } in
    let q = c.requires.reading in
    let h = c.steps.invariant.each q.0 q.1 q.2 in
    let b = (reading_build h _ _ _ _ ch _ refl).0 in
    omega (arith, b.within, c.requires.few)

pub steps-smaller : goal.steps-smaller
steps-smaller c =
    let ch : Chosen c.steps.self.stop c.args.tokens.now c.steps.self.frames.items c.steps.self.mode c.steps.self.at (Build c.in-Build.label c.in-Build.parts c.in-Build.mode c.in-Build.count) = record { o = c.top_of.result; tops = λ fs e. c.top_of.ensures fs (c.deref.ensures.value ∙ e); is = cc } in
    let q = c.requires.reading in
    let h = c.steps.invariant.each q.0 q.1 q.2 in
    let b = reading_build h _ _ _ _ ch _ refl in
    let l = chosen_light ch in
    let less = shorter c.steps.self.frames.items c.pop-in-Build.new.self.items _ b.1 c.steps.self.frames.ok.0 c.pop-in-Build.ensures.rest in
    omega (arith, b.0.within, l.0, less)

pub steps-preserved : goal.steps-preserved
steps-preserved c =
    let ch : Chosen c.steps.self.stop c.args.tokens.now c.steps.self.frames.items c.steps.self.mode c.steps.self.at (Build c.in-Build.label c.in-Build.parts c.in-Build.mode c.in-Build.count) = record { o = c.top_of.result; tops = λ fs e. c.top_of.ensures fs (c.deref.ensures.value ∙ e); is = cc } in
    let l = chosen_light ch in
    record {
      few = c.in_ok-build-in-Build.ensures.few;
      kept = c.steps.invariant.kept;
      forward = omega (arith, l.1, c.steps.invariant.forward);
      each = λ start base r.
          let h = c.steps.invariant.each start base r in
          let b = (reading_build h _ _ _ _ ch _ refl).0 in
          let e = c.in_ok-build-in-Build.ensures.built b.front b.kids b.ids_are b.count in
          b.next _ _ _ (reading_popped h _ _ c.steps.self.frames.ok.0 c.pop-in-Build.ensures.rest) e.0 e.1;
    }

pub returns-in-Ask-clause-answers : goal.returns-in-Ask-clause-answers
returns-in-Ask-clause-answers c start base r =
    let ch : Chosen c.steps.self.stop c.args.tokens.now c.steps.self.frames.items c.steps.self.mode c.steps.self.at (Ask c.in-Ask.level) = record { o = c.top_of.result; tops = λ fs e. c.top_of.ensures fs (c.deref.ensures.value ∙ e); is = cc } in
    wanting_ask (c.steps.invariant.each start base r) _ ch

pub returns-in-Ask-clause-forward : goal.returns-in-Ask-clause-forward
returns-in-Ask-clause-forward c =
    let ch : Chosen c.steps.self.stop c.args.tokens.now c.steps.self.frames.items c.steps.self.mode c.steps.self.at (Ask c.in-Ask.level) = record { o = c.top_of.result; tops = λ fs e. c.top_of.ensures fs (c.deref.ensures.value ∙ e); is = cc } in
    omega (arith, chosen_light ch, c.steps.invariant.forward)

pub returns-in-Ended-clause-answers : goal.returns-in-Ended-clause-answers
returns-in-Ended-clause-answers c start base r =
    let ch : Chosen c.steps.self.stop c.args.tokens.now c.steps.self.frames.items c.steps.self.mode c.steps.self.at (Ended) = record { o = c.top_of.result; tops = λ fs e. c.top_of.ensures fs (c.deref.ensures.value ∙ e); is = cc } in
    all_ended (c.steps.invariant.each start base r) ch

pub returns-in-Ended-clause-forward : goal.returns-in-Ended-clause-forward
returns-in-Ended-clause-forward c =
    let ch : Chosen c.steps.self.stop c.args.tokens.now c.steps.self.frames.items c.steps.self.mode c.steps.self.at (Ended) = record { o = c.top_of.result; tops = λ fs e. c.top_of.ensures fs (c.deref.ensures.value ∙ e); is = cc } in
    omega (arith, chosen_light ch, c.steps.invariant.forward)

pub returns-in-Wrong-clause-answers : goal.returns-in-Wrong-clause-answers
returns-in-Wrong-clause-answers c start base r =
    let ch : Chosen c.steps.self.stop c.args.tokens.now c.steps.self.frames.items c.steps.self.mode c.steps.self.at (Wrong) = record { o = c.top_of.result; tops = λ fs e. c.top_of.ensures fs (c.deref.ensures.value ∙ e); is = cc } in
    none_wrong (c.steps.invariant.each start base r) ch
