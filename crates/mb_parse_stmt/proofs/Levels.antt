-- Levels that wait for one another.
use Rattle.std.proofs.Common.{◌≡◌, ℕ, ◌≤◌, inl, inr, List, [], ◌∷◌, ◌++◌, length, Some, None, refl, sym, ap, subst, ◌∙◌, arith, length-append}
use Rattle.std.specs.Prelude.{Result, Ok, Err, IfOk}
use Rattle.mb_tree.specs.declared.tree.Tree.{Tree}
use Rattle.mb_tree.specs.Heights.{height_of}
use Rattle.std.proofs.lemmas.Option.{slice_get_past, slice_get_cases}
use Rattle.mb_base.specs.declared.value.NodeId.{NodeId}
use Rattle.mb_token.specs.declared.token.Spanned.{Spanned}
use Rattle.mb_tree.specs.declared.kind.Kind.TheVariants as k
use Rattle.mb_tree.specs.Roses.{Rose, Roses, bare, Shape, shape, shapes, write, write_all, roots}
use Rattle.mb_grammar.specs.declared.level.Level.{Level}
use Rattle.mb_parse_expr.specs.declared.parser.ExprParser.{ExprParser}
use Rattle.mb_grammar.specs.Tokens.{token_of, token_at}
use Rattle.mb_grammar.specs.Grammar.{Statements}
use Rattle.mb_parse_expr.specs.machine.Covers.{Braced, braced}
use Rattle.mb_grammar.specs.Script.{Whole, IsScript, script_of}
use Rattle.mb_grammar.specs.Bodies.{AreTheStatements}
use Rattle.mb_parse_expr.specs.Pauses.{next_place, IsWaiting}
use Rattle.mb_parse_stmt.specs.declared.terminal.Terminal.TheVariants as p
use Rattle.mb_parse_stmt.specs.declared.machine.Stop.{Stop}
use Rattle.mb_parse_stmt.specs.declared.machine.Stop.TheVariants as st
use Rattle.mb_parse_stmt.specs.declared.statements.StatementParser.{StatementParser}
use Rattle.mb_parse_stmt.specs.declared.parser.Outer.{Outer}
use Rattle.mb_parse_stmt.specs.machine.Terminals.{terminal_of, terminal_at}
use Rattle.mb_parse_stmt.specs.machine.Stops.{IsUnderWay, IsWanting, AreAll, NoneStand}
use Rattle.mb_parse_stmt.specs.machine.Levels.{Needs, Stacked, outermost, inside, AtLevel, InExpression, NoScript}
use Rattle.mb_tree.specs.machine.Stack.{laid}
use Rattle.mb_parse_stmt.proofs.Tokens.{means}
use Rattle.mb_parse_stmt.proofs.Places.{brace_within}
use Rattle.mb_parse_stmt.proofs.Place.{none_stand}

-- the end of the tokens

pub end_past : (ts : List Spanned) → terminal_at ts (length ts) ≡ p.End
end_past ts = let w : length ts ≤ length ts = omega arith in ap (λ o. terminal_of (token_of o)) (slice_get_past ts (length ts) w)

pub none_past : (ts : List Spanned) (at : ℕ) → token_at ts at ≡ None → length ts ≤ at
none_past ts at e = elim (slice_get_cases ts at).1 [ inl h ↦ absurd (let q : token_at ts at ≡ Some (h.0).token = ap token_of h.2 in cc) | inr h ↦ h.0 ]

-- where no statements stand up to the end of the innermost level, there is no script
pub dead : {ts : List Spanned} {os : List Outer} {stop : Stop} {start : ℕ} {base : List Shape} → Stacked ts os stop start base → NoneStand stop ts start → NoScript ts
dead {ts = ts} outermost n script s = n s.parts (length ts) s.stand (end_past ts)
dead {ts = ts} (inside st wanting waiting needs e) n script s = dead st (none_stand wanting (needs n)) script s

pub level_dead : {ts : List Spanned} {outers : List Outer} {q : StatementParser} {shapes : List Shape} (h : AtLevel ts outers q shapes) → NoneStand q.stop ts h.start → NoScript ts
level_dead h n = dead h.stacked n

-- no expression stands where one is wanted
pub expression_dead : {ts : List Spanned} {outers : List Outer} {q : StatementParser} {x : ExprParser} {shapes : List Shape} (h : InExpression ts outers q x shapes) → ((a : Rose) (es : List ℕ) (j : ℕ) → Whole ts h.level a es q.at j → ⊥) → NoScript ts
expression_dead h n = dead h.stacked (none_stand h.wanting n)

laid_nil : (os : List Outer) → [] ≡ laid os → os ≡ []
laid_nil [] e = refl
laid_nil (o ∷ os) e = absurd (omega (arith, ap length e, length-append (laid os) (o ∷ [])))

pub nil_of : (os : List Outer) → length os ≡ 0 → os ≡ []
nil_of [] e = refl
nil_of (o ∷ os) e = absurd (omega arith)

-- the script is over
pub all_of_script : {ts : List Spanned} {outers os : List Outer} {stop : Stop} {start at : ℕ} {base shapes : List Shape} {ids : List NodeId} → outers ≡ [] → outers ≡ laid os → Stacked ts os stop start base → AreAll stop ts start base at ids shapes → AreAll st.End ts 0 [] at ids shapes
all_of_script {os = os} z e stacked h = each stacked (laid_nil os (sym z ∙ e)) h
  where
    each : {ts : List Spanned} {os : List Outer} {stop : Stop} {start at : ℕ} {base shapes : List Shape} {ids : List NodeId} → Stacked ts os stop start base → os ≡ [] → AreAll stop ts start base at ids shapes → AreAll st.End ts 0 [] at ids shapes
    each outermost z h = h
    each (inside st wanting waiting needs e) z h = cc

pub script_stands : (ts : List Spanned) (at : ℕ) (ids : List NodeId) (shapes : List Shape) (h : AreAll st.End ts 0 [] at ids shapes) → IsScript ts (script_of h.parts)
script_stands ts at ids shapes h =
    let past = none_past ts at (means ts at p.End h.stops) in
    let w = h.within in
    let e : at ≡ length ts = omega (arith, past, w) in
    record { parts = h.parts; stand = subst (λ n. Statements ts h.parts 0 n) e h.stand; whole = refl }

-- the innermost level ends, and the expression around it goes on

snoc_same : (xs ys : List Outer) (x y : Outer) → xs ++ x ∷ [] ≡ ys ++ y ∷ [] → (xs ≡ ys) × (x ≡ y)
snoc_same [] [] x y e = (refl, cc)
snoc_same [] (z ∷ ys) x y e = absurd (omega (arith, ap length e, length-append ys (y ∷ [])))
snoc_same (z ∷ xs) [] x y e = absurd (omega (arith, ap length e, length-append xs (x ∷ [])))
snoc_same (z ∷ xs) (z' ∷ ys) x y e =
    let h : z ≡ z' = cc in
    let r : xs ++ x ∷ [] ≡ ys ++ y ∷ [] = cc in
    let s = snoc_same xs ys x y r in
    (ap (λ a. a ∷ xs) h ∙ ap (λ l. z' ∷ l) s.0, s.1)

-- what the parser of the expression needs to go on
pub record Closing (ts : List Spanned) (outers : List Outer) (outer : Outer) (at : ℕ) (ids : List NodeId) (shapes : List Shape) : Type 0 where
  pub os : List Outer
  pub outers_are : outers ≡ laid os
  pub start : ℕ
  pub base : List Shape
  pub stacked : Stacked ts os outer.statements.stop start base
  pub level : Level
  pub out : List Shape
  pub wanting : IsWanting ts start base level outer.statements out
  pub ds : List ℕ
  pub then : List Shape
  pub waiting : IsWaiting ts level outer.statements.at out ds outer.parser then
  pub body : Roses
  pub statements : AreTheStatements ts body (next_place outer.parser) at
  pub ids_are : ids ≡ roots then body
  pub shapes_are : shapes ≡ write_all then body

pub closing : {ts : List Spanned} {outers os : List Outer} {stop : Stop} {start at : ℕ} {base shapes : List Shape} {ids : List NodeId} (outers' : List Outer) (outer : Outer) → outers ≡ outers' ++ outer ∷ [] → outers ≡ laid os → Stacked ts os stop start base → AreAll stop ts start base at ids shapes → Closing ts outers' outer at ids shapes
closing outers' outer z e stacked h = each outers' outer stacked (sym e ∙ z) h
  where
    each : {ts : List Spanned} {os : List Outer} {stop : Stop} {start at : ℕ} {base shapes : List Shape} {ids : List NodeId} (outers' : List Outer) (outer : Outer) → Stacked ts os stop start base → laid os ≡ outers' ++ outer ∷ [] → AreAll stop ts start base at ids shapes → Closing ts outers' outer at ids shapes
    each outers' outer outermost q h = absurd (omega (arith, ap length q, length-append outers' (outer ∷ [])))
    each {ts = ts} {at = at} {shapes = shapes} {ids = ids} outers' outer (inside {outer = x} {os = os} {level = level} {start = start} {at = from} {base = base} {out = out} {shapes = before} {ds = ds} stacked wanting waiting needs e) q h =
        let s = snoc_same (laid os) outers' x outer q in
        subst (λ o. Closing ts outers' o at ids shapes) s.1 (record {
          os = os;
          outers_are = sym s.0;
          start = start;
          base = base;
          stacked = stacked;
          level = level;
          out = out;
          wanting = wanting;
          ds = ds;
          then = before;
          waiting = waiting;
          body = h.parts;
          statements = subst (λ y. AreTheStatements ts h.parts y at) e (record { stand = h.stand; brace = h.stops; only = λ other j d c. h.only other j d c });
          ids_are = h.ids_are;
          shapes_are = h.shapes_are;
        })

-- a body begins

braced_within : {ts : List Spanned} {level : Level} {start : ℕ} {fs : List _} {rs : List Rose} {ds : List ℕ} {at : ℕ} → Braced ts level start fs rs ds at → at ≤ length ts
braced_within {ts = ts} (braced {i = i} g o k e) = let w = brace_within ts i o in omega (arith, w, k)

pub waiting_within : {ts : List Spanned} {level : Level} {start : ℕ} {base : List Shape} {ds : List ℕ} (q : ExprParser) {shapes : List Shape} → IsWaiting ts level start base ds q shapes → next_place q ≤ length ts
waiting_within q w = braced_within w.0.progress.sound

pub level_begun : {ts : List Spanned} {outers : List Outer} {q : StatementParser} {x : ExprParser} {before shapes : List Shape} (h : InExpression ts outers q x before) (outer : Outer) (outers' : List Outer) (ds : List ℕ) (at : ℕ) (inner : StatementParser) → outer.statements ≡ q → IsWaiting ts h.level q.at h.out ds outer.parser shapes → Needs ts h.level q.at at → next_place outer.parser ≡ at → outers' ≡ outers ++ outer ∷ [] → inner.stop ≡ st.Brace → IsUnderWay ts at shapes inner shapes → AtLevel ts outers' inner shapes
level_begun {ts = ts} {q = q} {shapes = shapes} h outer outers' ds at inner qe waiting needs pe oe se reading = record {
  os = outer ∷ h.os;
  outers_are = oe ∙ ap (λ x. x ++ outer ∷ []) h.outers_are;
  start = at;
  base = shapes;
  stacked = subst (λ s. Stacked ts (outer ∷ h.os) s at shapes) (sym se) (inside
      (subst (λ y. Stacked ts h.os y.stop h.start h.base) (sym qe) h.stacked)
      (subst (λ y. IsWanting ts h.start h.base h.level y h.out) (sym qe) h.wanting)
      (subst (λ y. IsWaiting ts h.level y.at h.out ds outer.parser shapes) (sym qe) waiting)
      (subst (λ y. Needs ts h.level y.at at) (sym qe) needs)
      (sym pe));
  reading = reading;
}

-- the Script node
pub script_written : {ids : List NodeId} {before now : List Shape} (parts : Roses) → ids ≡ roots [] parts → before ≡ write_all [] parts → now ≡ before ++ shape (bare k.Script) ids ∷ [] → now ≡ write [] (script_of parts)
script_written {ids = ids} parts i s e = e ∙ ap (λ x. x ++ shape (bare k.Script) ids ∷ []) s ∙ ap (λ x. write_all [] parts ++ shape (bare k.Script) x ∷ []) i

pub script_given : {E : Type 0} (ts : List Spanned) (script : Rose) (answer : Result Tree E) → IsScript ts script → IfOk answer (λ tree. (shapes tree ≡ write [] script) × (height_of script ≤ 256)) → IfOk answer (λ tree. (s : Rose) × IsScript ts s × (shapes tree ≡ write [] s) × (height_of s ≤ 256))
script_given ts script (Ok tree) s h = (script, s, h.0, h.1)
script_given ts script (Err e) s h = tt

-- the script begins
pub level_first : (ts : List Spanned) (outers : List Outer) (q : StatementParser) (now : List Shape) → outers ≡ [] → q.stop ≡ st.End → now ≡ [] → IsUnderWay ts 0 [] q [] → AtLevel ts outers q now
level_first ts outers q now oe se e reading = record {
  os = [];
  outers_are = oe;
  start = 0;
  base = [];
  stacked = subst (λ s. Stacked ts [] s 0 []) (sym se) outermost;
  reading = subst (λ x. IsUnderWay ts 0 [] q x) (sym e) reading;
}

-- an expression of the innermost level ends
pub level_read : {ts : List Spanned} {outers : List Outer} {q : StatementParser} {x : ExprParser} {before now : List Shape} (h : InExpression ts outers q x before) (q' : StatementParser) → q'.stop ≡ q.stop → IsUnderWay ts h.start h.base q' now → AtLevel ts outers q' now
level_read {ts = ts} h q' se reading = record {
  os = h.os;
  outers_are = h.outers_are;
  start = h.start;
  base = h.base;
  stacked = subst (λ s. Stacked ts h.os s h.start h.base) (sym se) h.stacked;
  reading = reading;
}
