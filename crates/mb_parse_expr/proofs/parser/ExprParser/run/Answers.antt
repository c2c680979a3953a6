use Rattle.std.proofs.Common.{◌<◌, [], length, Some, true, false, refl, sym, ap, ◌∙◌, append-nil, length-append, arith}
use Rattle.std.proofs.lemmas.List.{length-map}
use Rattle.std.proofs.lemmas.Option.{slice_get-get_or}
use Rattle.mb_parse_expr.specs.declared.machine.Move.TheVariants.{Leaf, Enter, Begin, Swap, Build, Suffix, Turn, Pause, Ended, Wrong}
use Rattle.mb_tree.specs.Roses.{view}
use Rattle.mb_parse_expr.proofs.Place.{Chosen, reading_leaf, reading_begin, reading_enter, reading_swap, reading_turn, waiting_pause, waiting_needs, reading_suffix, reading_build, reading_popped, reading_fit, reading_ended, reading_wrong}
use Rattle.mb_tree.proofs.Stack.{shorter}
use Rattle.mb_tree.proofs.Growing.{extends_on}
use Rattle.mb_parse_expr.proofs.Counts.{chosen_within, reading_count}
use Rattle.mb_parse_expr.proofs.parser.ExprParser.run.Goals as goal

pub next_move-requires : goal.next_move-requires
next_move-requires c =
    let q = c.requires.reading in
    let h = c.steps.invariant.each q.0 q.1 q.2 q.3 q.4 in
    let n = reading_count h c.top_of.result (λ fs e. c.top_of.ensures fs (c.deref-in-steps.ensures.value ∙ e)) in
    let fit = reading_fit h in
    let lens = length-map c.steps.tree.nodes.items view in
    omega (arith, n, fit, lens, c.steps.invariant.few, c.steps.tree.nodes.ok.0)

pub steps-preserved-in-Leaf : goal.steps-preserved-in-Leaf
steps-preserved-in-Leaf c =
    let ch : Chosen c.args.tokens.now c.steps.self.frames.items c.steps.self.mode c.steps.self.at (Leaf c.in-Leaf.label c.in-Leaf.mode) = record { o = c.top_of.result; tops = λ fs e. c.top_of.ensures fs (c.deref-in-steps.ensures.value ∙ e); is = cc } in
    let w : c.steps.self.at < length c.args.tokens.now = chosen_within ch tt in
    let b = c.in_ok-build-in-Leaf.ensures.built c.steps.self.operands.items [] (sym (append-nil c.steps.self.operands.items)) refl in
    record { within = omega arith; forward = omega arith; empty = c.steps.invariant.empty; few = c.in_ok-build-in-Leaf.ensures.few; first = extends_on _ c.steps.invariant.first b.1; each = λ level start base ds q. reading_leaf (c.steps.invariant.each level start base ds q) _ _ _ _ ch b.0 b.1 }

pub steps-preserved-in-Begin : goal.steps-preserved-in-Begin
steps-preserved-in-Begin c =
    let ch : Chosen c.args.tokens.now c.steps.self.frames.items c.steps.self.mode c.steps.self.at (Begin c.in-Begin.label c.in-Begin.frame c.in-Begin.mode) = record { o = c.top_of.result; tops = λ fs e. c.top_of.ensures fs (c.deref-in-steps.ensures.value ∙ e); is = cc } in
    let w : c.steps.self.at < length c.args.tokens.now = chosen_within ch tt in
    let b = c.in_ok-build-in-Begin.ensures.built c.steps.self.operands.items [] (sym (append-nil c.steps.self.operands.items)) refl in
    record { within = omega arith; forward = omega arith; empty = c.steps.invariant.empty; few = c.in_ok-build-in-Begin.ensures.few; first = extends_on _ c.steps.invariant.first b.1; each = λ level start base ds q. reading_begin (c.steps.invariant.each level start base ds q) _ _ _ _ _ _ ch c.in_ok-push-in-Begin.ensures.items b.0 b.1 }

pub steps-preserved-in-Enter : goal.steps-preserved-in-Enter
steps-preserved-in-Enter c =
    let ch : Chosen c.args.tokens.now c.steps.self.frames.items c.steps.self.mode c.steps.self.at (Enter c.in-Enter.frame c.in-Enter.mode) = record { o = c.top_of.result; tops = λ fs e. c.top_of.ensures fs (c.deref-in-steps.ensures.value ∙ e); is = cc } in
    let w : c.steps.self.at < length c.args.tokens.now = chosen_within ch tt in
    record { within = omega arith; forward = omega arith; empty = c.steps.invariant.empty; few = c.steps.invariant.few; first = c.steps.invariant.first; each = λ level start base ds q. reading_enter (c.steps.invariant.each level start base ds q) _ _ _ ch c.in_ok-push-in-Enter.ensures.items }

pub steps-preserved-in-Turn : goal.steps-preserved-in-Turn
steps-preserved-in-Turn c =
    let ch : Chosen c.args.tokens.now c.steps.self.frames.items c.steps.self.mode c.steps.self.at (Turn c.in-Turn.mode) = record { o = c.top_of.result; tops = λ fs e. c.top_of.ensures fs (c.deref-in-steps.ensures.value ∙ e); is = cc } in
    let w : c.steps.self.at < length c.args.tokens.now = chosen_within ch tt in
    record { within = omega arith; forward = omega arith; empty = c.steps.invariant.empty; few = c.steps.invariant.few; first = c.steps.invariant.first; each = λ level start base ds q. reading_turn (c.steps.invariant.each level start base ds q) _ ch }

pub steps-preserved-in-Swap : goal.steps-preserved-in-Swap
steps-preserved-in-Swap c =
    let ch : Chosen c.args.tokens.now c.steps.self.frames.items c.steps.self.mode c.steps.self.at (Swap c.in-Swap.frame c.in-Swap.mode) = record { o = c.top_of.result; tops = λ fs e. c.top_of.ensures fs (c.deref-in-steps.ensures.value ∙ e); is = cc } in
    let w : c.steps.self.at < length c.args.tokens.now = chosen_within ch tt in
    record { within = omega arith; forward = omega arith; empty = c.steps.invariant.empty; few = c.steps.invariant.few; first = c.steps.invariant.first; each = λ level start base ds q. reading_swap (c.steps.invariant.each level start base ds q) _ _ _ c.pop.new.self.items _ ch c.steps.self.frames.ok.0 c.pop.ensures.rest c.in_ok-push-in-Swap.ensures.items }

pub build-requires-in-Suffix : goal.build-requires-in-Suffix
build-requires-in-Suffix c =
    let ch : Chosen c.args.tokens.now c.steps.self.frames.items c.steps.self.mode c.steps.self.at (Suffix c.in-Suffix.label c.in-Suffix.mode) = record { o = c.top_of.result; tops = λ fs e. c.top_of.ensures fs (c.deref-in-steps.ensures.value ∙ e); is = cc } in
    let q = c.requires.reading in
    let h = c.steps.invariant.each q.0 q.1 q.2 q.3 q.4 in
    let b = reading_suffix h _ _ ch in
    omega (arith, b.count, ap length b.ids_are, length-append b.front b.kids, c.steps.self.operands.ok.0)

pub steps-preserved-in-Suffix : goal.steps-preserved-in-Suffix
steps-preserved-in-Suffix c =
    let ch : Chosen c.args.tokens.now c.steps.self.frames.items c.steps.self.mode c.steps.self.at (Suffix c.in-Suffix.label c.in-Suffix.mode) = record { o = c.top_of.result; tops = λ fs e. c.top_of.ensures fs (c.deref-in-steps.ensures.value ∙ e); is = cc } in
    let w : c.steps.self.at < length c.args.tokens.now = chosen_within ch tt in
    record {
      within = omega arith;
      forward = omega arith;
      empty = c.steps.invariant.empty;
      few = c.in_ok-build-in-Suffix.ensures.few;
      first =
          let q = c.requires.reading in
          let h = c.steps.invariant.each q.0 q.1 q.2 q.3 q.4 in
          let b = reading_suffix h _ _ ch in
          extends_on _ c.steps.invariant.first (c.in_ok-build-in-Suffix.ensures.built b.front b.kids b.ids_are b.count).1;
      each = λ level start base ds q.
          let h = c.steps.invariant.each level start base ds q in
          let b = reading_suffix h _ _ ch in
          let e = c.in_ok-build-in-Suffix.ensures.built b.front b.kids b.ids_are b.count in
          b.next _ _ _ h.frames_are e.0 e.1;
    }

pub build-requires-in-Build : goal.build-requires-in-Build
build-requires-in-Build c =
    let ch : Chosen c.args.tokens.now c.steps.self.frames.items c.steps.self.mode c.steps.self.at (Build c.in-Build.label c.in-Build.count c.in-Build.mode c.in-Build.taken) = record { o = c.top_of.result; tops = λ fs e. c.top_of.ensures fs (c.deref-in-steps.ensures.value ∙ e); is = cc } in
    let q = c.requires.reading in
    let h = c.steps.invariant.each q.0 q.1 q.2 q.3 q.4 in
    let b = (reading_build h _ _ _ _ ch).0 in
    omega (arith, b.count, ap length b.ids_are, length-append b.front b.kids, c.steps.self.operands.ok.0)

pub steps-preserved-then-taken : goal.steps-preserved-then-taken
steps-preserved-then-taken c =
    let ch : Chosen c.args.tokens.now c.steps.self.frames.items c.steps.self.mode c.steps.self.at (Build c.in-Build.label c.in-Build.count c.in-Build.mode true) = record { o = c.top_of.result; tops = λ fs e. c.top_of.ensures fs (c.deref-in-steps.ensures.value ∙ e); is = cc } in
    let w : c.steps.self.at < length c.args.tokens.now = chosen_within ch tt in
    let q = c.requires.reading in
    let h = c.steps.invariant.each q.0 q.1 q.2 q.3 q.4 in
    let one = (reading_build h _ _ _ _ ch).1 in
    let less = shorter c.steps.self.frames.items c.pop-in-Build.new.self.items _ one c.steps.self.frames.ok.0 c.pop-in-Build.ensures.rest in
    record {
      within = omega arith;
      forward = omega arith;
      empty = c.steps.invariant.empty;
      few = c.in_ok-build-in-Build.ensures.few;
      first =
          let b = (reading_build h _ _ _ _ ch).0 in
          extends_on _ c.steps.invariant.first (c.in_ok-build-in-Build.ensures.built b.front b.kids b.ids_are b.count).1;
      each = λ level start base ds z.
          let g = c.steps.invariant.each level start base ds z in
          let b = (reading_build g _ _ _ _ ch).0 in
          let e = c.in_ok-build-in-Build.ensures.built b.front b.kids b.ids_are b.count in
          b.next _ _ _ (reading_popped g _ _ c.steps.self.frames.ok.0 c.pop-in-Build.ensures.rest) e.0 e.1;
    }

pub steps-preserved : goal.steps-preserved
steps-preserved c =
    let ch : Chosen c.args.tokens.now c.steps.self.frames.items c.steps.self.mode c.steps.self.at (Build c.in-Build.label c.in-Build.count c.in-Build.mode false) = record { o = c.top_of.result; tops = λ fs e. c.top_of.ensures fs (c.deref-in-steps.ensures.value ∙ e); is = cc } in
    let q = c.requires.reading in
    let h = c.steps.invariant.each q.0 q.1 q.2 q.3 q.4 in
    let one = (reading_build h _ _ _ _ ch).1 in
    let less = shorter c.steps.self.frames.items c.pop-in-Build.new.self.items _ one c.steps.self.frames.ok.0 c.pop-in-Build.ensures.rest in
    record {
      within = c.steps.invariant.within;
      forward = omega arith;
      empty = c.steps.invariant.empty;
      few = c.in_ok-build-in-Build.ensures.few;
      first =
          let b = (reading_build h _ _ _ _ ch).0 in
          extends_on _ c.steps.invariant.first (c.in_ok-build-in-Build.ensures.built b.front b.kids b.ids_are b.count).1;
      each = λ level start base ds z.
          let g = c.steps.invariant.each level start base ds z in
          let b = (reading_build g _ _ _ _ ch).0 in
          let e = c.in_ok-build-in-Build.ensures.built b.front b.kids b.ids_are b.count in
          b.next _ _ _ (reading_popped g _ _ c.steps.self.frames.ok.0 c.pop-in-Build.ensures.rest) e.0 e.1;
    }

pub steps-smaller : goal.steps-smaller
steps-smaller c =
    let ch : Chosen c.args.tokens.now c.steps.self.frames.items c.steps.self.mode c.steps.self.at (Build c.in-Build.label c.in-Build.count c.in-Build.mode c.in-Build.taken) = record { o = c.top_of.result; tops = λ fs e. c.top_of.ensures fs (c.deref-in-steps.ensures.value ∙ e); is = cc } in
    let q = c.requires.reading in
    let h = c.steps.invariant.each q.0 q.1 q.2 q.3 q.4 in
    let one = (reading_build h _ _ _ _ ch).1 in
    let less = shorter c.steps.self.frames.items c.pop-in-Build.new.self.items _ one c.steps.self.frames.ok.0 c.pop-in-Build.ensures.rest in
    omega (arith, less)

pub steps-smaller-then-taken : goal.steps-smaller-then-taken
steps-smaller-then-taken c =
    let ch : Chosen c.args.tokens.now c.steps.self.frames.items c.steps.self.mode c.steps.self.at (Build c.in-Build.label c.in-Build.count c.in-Build.mode true) = record { o = c.top_of.result; tops = λ fs e. c.top_of.ensures fs (c.deref-in-steps.ensures.value ∙ e); is = cc } in
    let w : c.steps.self.at < length c.args.tokens.now = chosen_within ch tt in
    let q = c.requires.reading in
    let h = c.steps.invariant.each q.0 q.1 q.2 q.3 q.4 in
    let one = (reading_build h _ _ _ _ ch).1 in
    let less = shorter c.steps.self.frames.items c.pop-in-Build.new.self.items _ one c.steps.self.frames.ok.0 c.pop-in-Build.ensures.rest in
    omega (arith, w, less)

pub steps-smaller-in-Leaf : goal.steps-smaller-in-Leaf
steps-smaller-in-Leaf c =
    let ch : Chosen c.args.tokens.now c.steps.self.frames.items c.steps.self.mode c.steps.self.at (Leaf c.in-Leaf.label c.in-Leaf.mode) = record { o = c.top_of.result; tops = λ fs e. c.top_of.ensures fs (c.deref-in-steps.ensures.value ∙ e); is = cc } in
    let w : c.steps.self.at < length c.args.tokens.now = chosen_within ch tt in
    omega (arith, w)

pub steps-smaller-in-Begin : goal.steps-smaller-in-Begin
steps-smaller-in-Begin c =
    let ch : Chosen c.args.tokens.now c.steps.self.frames.items c.steps.self.mode c.steps.self.at (Begin c.in-Begin.label c.in-Begin.frame c.in-Begin.mode) = record { o = c.top_of.result; tops = λ fs e. c.top_of.ensures fs (c.deref-in-steps.ensures.value ∙ e); is = cc } in
    let w : c.steps.self.at < length c.args.tokens.now = chosen_within ch tt in
    omega (arith, w, c.in_ok-push-in-Begin.ensures.len, c.push.new.self.ok.0, c.steps.self.frames.ok.0)

pub steps-smaller-in-Enter : goal.steps-smaller-in-Enter
steps-smaller-in-Enter c =
    let ch : Chosen c.args.tokens.now c.steps.self.frames.items c.steps.self.mode c.steps.self.at (Enter c.in-Enter.frame c.in-Enter.mode) = record { o = c.top_of.result; tops = λ fs e. c.top_of.ensures fs (c.deref-in-steps.ensures.value ∙ e); is = cc } in
    let w : c.steps.self.at < length c.args.tokens.now = chosen_within ch tt in
    omega (arith, w, c.in_ok-push-in-Enter.ensures.len, c.push-in-Enter.new.self.ok.0, c.steps.self.frames.ok.0)

pub steps-smaller-in-Swap : goal.steps-smaller-in-Swap
steps-smaller-in-Swap c =
    let ch : Chosen c.args.tokens.now c.steps.self.frames.items c.steps.self.mode c.steps.self.at (Swap c.in-Swap.frame c.in-Swap.mode) = record { o = c.top_of.result; tops = λ fs e. c.top_of.ensures fs (c.deref-in-steps.ensures.value ∙ e); is = cc } in
    let w : c.steps.self.at < length c.args.tokens.now = chosen_within ch tt in
    omega (arith, w, c.pop.ensures.len, c.in_ok-push-in-Swap.ensures.len, c.push-in-Swap.new.self.ok.0, c.steps.self.frames.ok.0)

pub steps-smaller-in-Turn : goal.steps-smaller-in-Turn
steps-smaller-in-Turn c =
    let ch : Chosen c.args.tokens.now c.steps.self.frames.items c.steps.self.mode c.steps.self.at (Turn c.in-Turn.mode) = record { o = c.top_of.result; tops = λ fs e. c.top_of.ensures fs (c.deref-in-steps.ensures.value ∙ e); is = cc } in
    let w : c.steps.self.at < length c.args.tokens.now = chosen_within ch tt in
    omega (arith, w)

pub steps-smaller-in-Suffix : goal.steps-smaller-in-Suffix
steps-smaller-in-Suffix c =
    let ch : Chosen c.args.tokens.now c.steps.self.frames.items c.steps.self.mode c.steps.self.at (Suffix c.in-Suffix.label c.in-Suffix.mode) = record { o = c.top_of.result; tops = λ fs e. c.top_of.ensures fs (c.deref-in-steps.ensures.value ∙ e); is = cc } in
    let w : c.steps.self.at < length c.args.tokens.now = chosen_within ch tt in
    omega (arith, w)

pub returns-in-Pause-clause-answers : goal.returns-in-Pause-clause-answers
returns-in-Pause-clause-answers c level start base ds q =
    let ch : Chosen c.args.tokens.now c.steps.self.frames.items c.steps.self.mode c.steps.self.at (Pause) = record { o = c.top_of.result; tops = λ fs e. c.top_of.ensures fs (c.deref-in-steps.ensures.value ∙ e); is = cc } in
    let h = c.steps.invariant.each level start base ds q in
    ((waiting_pause h ch, c.steps.invariant.empty), refl)

pub returns-in-Pause-clause-hopeless : goal.returns-in-Pause-clause-hopeless
returns-in-Pause-clause-hopeless c level start base ds q =
    let ch : Chosen c.args.tokens.now c.steps.self.frames.items c.steps.self.mode c.steps.self.at (Pause) = record { o = c.top_of.result; tops = λ fs e. c.top_of.ensures fs (c.deref-in-steps.ensures.value ∙ e); is = cc } in
    waiting_needs (waiting_pause (c.steps.invariant.each level start base ds q) ch)

pub index-requires : goal.index-requires
index-requires c =
    let ch : Chosen c.args.tokens.now c.steps.self.frames.items c.steps.self.mode c.steps.self.at (Ended) = record { o = c.top_of.result; tops = λ fs e. c.top_of.ensures fs (c.deref-in-steps.ensures.value ∙ e); is = cc } in
    let q = c.requires.reading in
    let h = c.steps.invariant.each q.0 q.1 q.2 q.3 q.4 in
    let e = reading_ended h ch in
    omega (arith, e.0, c.steps.self.operands.ok.0)

pub returns-in-Ended-clause-answers : goal.returns-in-Ended-clause-answers
returns-in-Ended-clause-answers c level start base ds q =
    let ch : Chosen c.args.tokens.now c.steps.self.frames.items c.steps.self.mode c.steps.self.at (Ended) = record { o = c.top_of.result; tops = λ fs e. c.top_of.ensures fs (c.deref-in-steps.ensures.value ∙ e); is = cc } in
    let h = c.steps.invariant.each level start base ds q in
    let e = reading_ended h ch in
    e.1 _ (slice_get-get_or c.steps.self.operands.items 0 c.index.result.now e.0 ∙ ap Some (sym c.index.ensures))

pub returns-in-Wrong-clause-answers : goal.returns-in-Wrong-clause-answers
returns-in-Wrong-clause-answers c level start base ds q =
    let ch : Chosen c.args.tokens.now c.steps.self.frames.items c.steps.self.mode c.steps.self.at (Wrong) = record { o = c.top_of.result; tops = λ fs e. c.top_of.ensures fs (c.deref-in-steps.ensures.value ∙ e); is = cc } in
    reading_wrong (c.steps.invariant.each level start base ds q) ch
